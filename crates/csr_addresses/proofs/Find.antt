-- Laws of looking for an address, each over any list of things that have addresses; what is particular to a list is a test that antt computes.
-- Assumes nothing.
use Rattle.utils.proofs.Prelude.{◌≡◌, refl, sym, ap, ◌∙◌, subst, Bool, true, false, ◌&&◌, not, List, [], ◌∷◌, ℕ, eqb, T, eq-eqb, ne_eqb, eqb-true}
use Rattle.std.proofs.Common.{Option, Some, None, Ok, Err}
use Rattle.refusals.specs.Answer.{Answer}
use lib.Dec.{T_not, eqb_refl}
use Rattle.utils.proofs.Arms.{both}
use Rattle.utils.proofs.Members.{Mem, first, later, all, all_at}
use Rattle.csr_addresses.specs.Find.{here, find}

-- ---- tests
clash : (b : Bool) → T b → b ≡ false → ⊥
clash true t e = cc
clash false t e = t

pub here_at : (a : ℕ) (i : Answer ℕ) → here a i ≡ true → i ≡ Ok a
here_at a (Ok b) e = ap Ok (eqb-true b a e)
here_at a (Err n) e = cc

pub at_here : (a : ℕ) (i : Answer ℕ) → i ≡ Ok a → here a i ≡ true
at_here a i e = ap (here a) e ∙ eq-eqb a a refl

-- ---- a rule that each address keeps, and lists in which no address comes twice
unfoldable pub keeps : (ℕ → Bool) → Answer ℕ → Bool
keeps f (Ok b) = f b
keeps f (Err n) = false

pub kept : (f : ℕ → Bool) (a : ℕ) (i : Answer ℕ) → i ≡ Ok a → T (keeps f i) → T (f a)
unfolding keeps
kept f a i e t = subst (λ (j : Answer ℕ). T (keeps f j)) e t

not_here : (f : ℕ → Bool) (a : ℕ) (i : Answer ℕ) → T (keeps f i) → f a ≡ false → here a i ≡ false
unfolding keeps
not_here f a (Ok b) t e = ne_eqb b a (λ q. clash (f a) (subst (λ (n : ℕ). T (f n)) q t) e)
not_here f a (Err n) t e = refl

unfoldable pub apart : Answer ℕ → Answer ℕ → Bool
apart (Ok a) (Ok b) = not (eqb a b)
apart (Ok a) (Err n) = false
apart (Err n) j = false

apart_here : (a : ℕ) (i j : Answer ℕ) → T (apart i j) → j ≡ Ok a → here a i ≡ false
unfolding apart
apart_here a (Ok b) (Ok d) t e =
    let z : d ≡ a = cc in
    ne_eqb b a (λ q. T_not (eqb b d) t (subst (λ (n : ℕ). T (eqb b n)) (q ∙ sym z) (eqb_refl b)))
apart_here a (Ok b) (Err n) t e = absurd t
apart_here a (Err n) j t e = absurd t

unfoldable pub distinct : {X : Type 0} → (X → Answer ℕ) → List X → Bool
unfolding all apart
distinct idx [] = true
distinct idx (x ∷ xs) = all (λ y. apart (idx x) (idx y)) xs && distinct idx xs

-- ---- finding
module _ {X : Type 0} (idx : X → Answer ℕ) where
  -- what is found at an address has that address, and is a member
  pub found_at : (a : ℕ) (xs : List X) (x : X) → find idx a xs ≡ Some x → idx x ≡ Ok a
  found_at a [] x e = cc
  found_at a (y ∷ xs) x e = step (here a (idx y)) (find idx a xs) refl (found_at a xs x) e
    where
      step : (b : Bool) (rest : Option X) → here a (idx y) ≡ b → (rest ≡ Some x → idx x ≡ Ok a) → elim b [ true ↦ Some y | false ↦ rest ] ≡ Some x → idx x ≡ Ok a
      step true rest q ih e = let z : y ≡ x = cc in ap idx (sym z) ∙ here_at a (idx y) q
      step false rest q ih e = ih e

  pub found_in : (a : ℕ) (xs : List X) (x : X) → find idx a xs ≡ Some x → Mem x xs
  found_in a [] x e = let z : ⊥ = cc in absurd z
  found_in a (y ∷ xs) x e = step (here a (idx y)) (find idx a xs) (found_in a xs x) e
    where
      step : (b : Bool) (rest : Option X) → (rest ≡ Some x → Mem x xs) → elim b [ true ↦ Some y | false ↦ rest ] ≡ Some x → Mem x (y ∷ xs)
      step true rest ih e = let z : y ≡ x = cc in subst (λ (v : X). Mem v (y ∷ xs)) z first
      step false rest ih e = later (ih e)

  -- nothing is found where a rule fails that every address keeps
  pub missing : (f : ℕ → Bool) (a : ℕ) (xs : List X) → T (all (λ x. keeps f (idx x)) xs) → f a ≡ false → find idx a xs ≡ None
  unfolding all
  missing f a [] t e = refl
  missing f a (x ∷ xs) t e =
      let d = both (keeps f (idx x)) (all (λ y. keeps f (idx y)) xs) t in
      rw (not_here f a (idx x) d.0 e, find) (missing f a xs d.1 e)

  -- a member of a distinct list is what is found at its address
  pub hit : (a : ℕ) {x : X} {xs : List X} → T (distinct idx xs) → Mem x xs → idx x ≡ Ok a → find idx a xs ≡ Some x
  unfolding distinct
  hit a t (first {x = x}) e = rw (at_here a (idx x) e, find)
  hit a {x} t (later {y = y} {xs = xs} m) e =
      let d = both (all (λ z. apart (idx y) (idx z)) xs) (distinct idx xs) t in
      rw (apart_here a (idx y) (idx x) (all_at (λ z. apart (idx y) (idx z)) d.0 m) e, find) (hit a d.1 m e)
