-- Looking for an address in a list of things that have addresses.
use Rattle.std.specs.Prelude.{Bool, true, false, List, [], ◌∷◌, ℕ, eqb, Option, Some, None, Ok, Err}
use Rattle.refusals.specs.Answer.{Answer}

abbrev pub here : ℕ → Answer ℕ → Bool
here a (Ok b) = eqb b a
here a (Err e) = false

-- the first of the list whose address, by idx, is a
abbrev pub find : {X : Type 0} → (X → Answer ℕ) → ℕ → List X → Option X
find idx a [] = None
find idx a (x ∷ xs) = elim (here a (idx x)) [ true ↦ Some x | false ↦ find idx a xs ]
