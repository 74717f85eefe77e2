-- The words in which the demand on reading and writing is stated, for any reading of words: "Fix a profile and any instruction value, nonsense
-- included. Writing it is refused exactly when no word below 2^32 (2^16 for a compressed one) is read by the definition, in that instruction's own
-- reading, as that value under that profile. Otherwise the word written is so read, and is the only such word."
-- "So read" needs no word of its own here: proofs/Demand3 states it as `write_then_read`.
use Rattle.std.specs.Prelude.{ℕ, ◌<◌, ◌≡◌, ◌↔◌}
use Rattle.std.specs.Prelude.{Err}
use Rattle.refusals.specs.Answer.{Answer}
use Rattle.refusals.specs.declared.Refusal.{Refusal}

-- the answer of writing is a refusal, whatever its number
abbrev pub Refuses : Answer ℕ → Type 0
Refuses r = (e : Refusal) × (r ≡ Err e)

-- no word below `room` is read as the value; `reads x` says that the word x is
abbrev pub NoWord : (ℕ → Type 0) → ℕ → Type 0
NoWord reads room = (x : ℕ) → x < room → ¬ reads x

-- refused exactly when there is no such word; r is the answer of writing the value
abbrev pub RefusedExactly : (ℕ → Type 0) → ℕ → Answer ℕ → Type 0
RefusedExactly reads room r = Refuses r ↔ NoWord reads room

-- there is only one such word, if any
abbrev pub OnlyWord : (ℕ → Type 0) → ℕ → Type 0
OnlyWord reads room = (x y : ℕ) → x < room → y < room → reads x → reads y → x ≡ y
