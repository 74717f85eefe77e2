-- The words in which "one numbered refusal of document 01" is told: a set of refusals, and an answer that refuses with no other.
use Rattle.std.specs.Prelude.{ℕ, ◌≡◌, ◌⊎◌, List, [], ◌∷◌}
use Rattle.std.specs.Prelude.{Err}
use Rattle.refusals.specs.Answer.{Answer}
use Rattle.refusals.specs.declared.Refusal.{Refusal}

-- e is one of them
abbrev pub OneOf : List Refusal → Refusal → Type 0
OneOf [] e = ⊥
OneOf (f ∷ fs) e = (e ≡ f) ⊎ OneOf fs e

-- the answer of writing is a word, or one of these refusals
abbrev pub RefusesBy : List Refusal → Answer ℕ → Type 0
RefusesBy fs r = (e : Refusal) → r ≡ Err e → OneOf fs e
