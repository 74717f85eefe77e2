-- What a call answers: a value, or one of the documents' refusals; and how such an answer is one number.
use Rattle.std.specs.Prelude.{ℕ, ◌*◌, ◌^◌, Result, Ok, Err}
use Rattle.refusals.specs.declared.Refusal.{Refusal}
use Rattle.refusals.specs.declared.Refusal.TheVariants as refusal

-- documents 01 and 02
abbrev pub number_of : Refusal → ℕ
number_of refusal.Unknown = 1
number_of refusal.InvalidCsrOp = 2
number_of refusal.NotTheForm = 3
number_of refusal.Width = 4
number_of refusal.StackForm = 5
number_of refusal.Register = 6
number_of refusal.Csr = 7
number_of refusal.ReadOnly = 8
number_of refusal.NoForm = 9
number_of refusal.Immediate = 10
number_of refusal.RecordKind = 11
number_of refusal.CutShort = 12
number_of refusal.Field = 13
number_of refusal.OutputShort = 14
number_of refusal.Hart = 15
number_of refusal.Reading = 16
number_of refusal.ListLengths = 17

-- a value, or a refusal
abbrev pub Answer : Type 0 → Type 0
Answer X = Result X Refusal

-- that there is a value, or why not
abbrev pub done : {X : Type 0} → Answer X → Answer (Unit {0})
done (Ok x) = Ok tt
done (Err e) = Err e

-- as one number: below 2 ^ 32 where there is a value, else the refusal's number in the high half
abbrev pub crossed : Answer ℕ → ℕ
crossed (Ok n) = n
crossed (Err e) = number_of e * 2 ^ 32
