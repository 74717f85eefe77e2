-- The batch as it crosses the C ABI: a table is eighty bytes, and the answer is one number.
use Rattle.std.specs.Prelude.{ℕ, ◌%◌, ◌^◌, ◌&&◌, cond, List, eqb, length}
use Rattle.std.specs.Prelude.{Ok, Err}
use Rattle.refusals.specs.Answer.{Answer, crossed}
use Rattle.refusals.specs.declared.Refusal.TheVariants as refusal
use Rattle.harts.specs.Table.{table_of}
use Rattle.batch.specs.Batch.{batched_def, leaves}

-- the answer: a table of another length gives 14, after 17
abbrev pub answer_of : List ℕ → List ℕ → List ℕ → List ℕ → List ℕ → Answer ℕ
answer_of table words harts readings out =
    cond (eqb (length words) (length harts) && eqb (length words) (length readings))
    (cond (eqb (length table) 80) (batched_def (length words) (length harts) (length readings) (length out)) (Err refusal.OutputShort))
    (Err refusal.ListLengths)

-- how many slots, in 32 bits
abbrev pub low_half : Answer ℕ → Answer ℕ
low_half (Ok n) = Ok (n % 2 ^ 32)
low_half (Err e) = Err e

-- or a refusal's number times 2 ^ 32
abbrev pub slots_or : Answer ℕ → ℕ
slots_or k = crossed (low_half k)

-- and the output then
abbrev pub output_of : List ℕ → List ℕ → List ℕ → List ℕ → List ℕ → List ℕ
output_of table words harts readings out = leaves (answer_of table words harts readings out) (table_of table) words harts readings out
