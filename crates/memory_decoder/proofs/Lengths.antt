-- Going by the length of a word. Assumes nothing.
use Rattle.utils.proofs.Prelude.{◌≡◌, ap, Bool, cond, ℕ, ◌%◌, ◌^◌, eq-eqb, ne_eqb}
use Rattle.memory_decoder.specs.Access.{is_long}

module _ {R : Type 0} (w : ℕ) (x y : R) where
  pub if_long : w % 2 ^ 2 ≡ 0b11 → cond (is_long w) x y ≡ x
  if_long e = ap (λ (b : Bool). cond b x y) (eq-eqb _ _ e)

  pub if_short : (w % 2 ^ 2 ≡ 0b11 → ⊥) → cond (is_long w) x y ≡ y
  if_short e = ap (λ (b : Bool). cond b x y) (ne_eqb _ _ e)
