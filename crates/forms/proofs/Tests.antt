-- What tests of a whole list tell. Assumes nothing.
use Rattle.utils.proofs.Prelude.{◌≡◌, refl, Bool, true, false≢true, List, [], ◌∷◌}
use Rattle.utils.proofs.Tests.{both, join, either}
use Rattle.forms.specs.Layout.{all}
use Rattle.forms.specs.Sound.{any}

module _ {A : Type 0} (p : A → Bool) where
  pub all_of : (xs : List A) → ((x : A) → p x ≡ true) → all p xs ≡ true
  all_of [] h = refl
  all_of (x ∷ xs) h = join (all_of xs h) (h x)

  pub all_by : (q : A → Bool) → ((x : A) → p x ≡ true → q x ≡ true) → (xs : List A) → all p xs ≡ true → all q xs ≡ true
  all_by q h [] e = refl
  all_by q h (x ∷ xs) e = let t = both (all p xs) (p x) e in join (all_by q h xs t.0) (h x t.1)

  -- what cannot pass where q and r pass
  pub not_any : (q r : A → Bool) (xs : List A) → all q xs ≡ true → all r xs ≡ true → ((x : A) → q x ≡ true → r x ≡ true → p x ≡ true → ⊥) → any p xs ≡ true → ⊥
  not_any q r [] e f h a = false≢true a
  not_any q r (x ∷ xs) e f h a =
      let s = both (all q xs) (q x) e in
      let t = both (all r xs) (r x) f in
      either (p x) (any p xs) a (h x s.1 t.1) (not_any q r xs s.0 t.0 h)
