-- Document 02, no. 5, of the exported batch, whose tables are eighty bytes each. Assumes nothing.
use Rattle.utils.proofs.Prelude.{◌≡◌, sym, ap, ◌∙◌, subst, ◌&&◌, cond, List, ℕ, suc, ◌+◌, ◌*◌, ◌<◌, arith, eqb, length, get_or}
use Rattle.std.proofs.Common.{Err}
use Rattle.refusals.specs.Answer.{Answer}
use Rattle.refusals.specs.declared.Refusal.TheVariants as refusal
use Rattle.profiles.specs.Profile.{profile_of}
use Rattle.octets.specs.Bytes.{of_le, fetch}
use Rattle.harts.specs.Table.{table_of, hart_profile}
use Rattle.harts.proofs.Tables.{entry_at}
use Rattle.batch.specs.Batch.{batched_def, leaves, batched_out}
use Rattle.batch.specs.Apart.{OneLength, Twice, SameSlots}
use Rattle.batch.proofs.Apart as batch
use Rattle.matnosoru_batch.specs.Batch.{answer_of, slots_or, output_of}
use Rattle.matnosoru_batch.proofs.Answers.{handed_on}

-- the output is that of the batch under the table that the bytes say
under_table : (table words harts readings out : List ℕ) → length table ≡ 80 → OneLength words harts readings
    → output_of table words harts readings out ≡ batched_out (table_of table) words harts readings out
under_table table words harts readings out l one =
    ap (λ (k : Answer ℕ). leaves k (table_of table) words harts readings out) (handed_on table words harts readings out one.0 one.1 l)

module _ (hart : ℕ) (harts table table' words words' readings readings' out out' : List ℕ) where
  -- the request: `after` and `after'` are the outputs as the contract of `matnosoru_batch` has them
  pub apart : length table ≡ 80 → length table' ≡ 80 → {after after' : List ℕ} → after ≡ output_of table words harts readings out
      → after' ≡ output_of table' words' harts readings' out' → Twice hart harts (table_of table) (table_of table') words words' readings readings' out out'
      → SameSlots hart harts after after'
  apart l l' left left' same =
      batch.apart hart harts (table_of table) (table_of table') words words' readings readings' out out' (left ∙ under_table table words harts readings out l same.one_length.0)
      (left' ∙ under_table table' words' harts readings' out' l' same.one_length.1) same

-- a hart's profile agrees where its ten bytes do
pub same_bytes : (hart : ℕ) (table table' : List ℕ) → hart < 8 → fetch 10 (10 * hart) table ≡ fetch 10 (10 * hart) table' → hart_profile (table_of table) hart ≡ hart_profile (table_of table') hart
same_bytes hart table table' l e =
    let at : suc (suc (10 * hart)) ≡ 10 * hart + 2 = omega arith in
    let flags : get_or table (10 * hart) 0 ≡ get_or table' (10 * hart) 0 = cc in
    let mask : fetch 8 (suc (suc (10 * hart))) table ≡ fetch 8 (suc (suc (10 * hart))) table' = cc in
    entry_at table hart (omega arith)
    ∙ (λ j. profile_of (flags j) (of_le (subst (λ (k : ℕ). fetch 8 k table ≡ fetch 8 k table') at mask j)))
    ∙ sym (entry_at table' hart (omega arith))

-- "The refusals 17 and 14 depend on the lengths alone": those of the table, the lists and the output
pub lengths_alone : (table table' words words' harts harts' readings readings' out out' : List ℕ) → length table ≡ length table' → length words ≡ length words'
    → length harts ≡ length harts' → length readings ≡ length readings' → length out ≡ length out'
    → slots_or (answer_of table words harts readings out) ≡ slots_or (answer_of table' words' harts' readings' out')
lengths_alone table table' words words' harts harts' readings readings' out out' t w h r o =
    λ j. slots_or (cond (eqb (w j) (h j) && eqb (w j) (r j)) (cond (eqb (t j) 80) (batched_def (w j) (h j) (r j) (o j)) (Err refusal.OutputShort)) (Err refusal.ListLengths))
