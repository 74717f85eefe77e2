-- What each exit of the exported batch knows is what its definition asks there. Assumes nothing.
use Rattle.utils.proofs.Prelude.{◌≡◌, sym, ap, ◌∙◌, List, ℕ, length, eq-eqb, ne_eqb}
use Rattle.std.proofs.Common.{Err}
use Rattle.refusals.specs.Answer.{Answer}
use Rattle.refusals.specs.declared.Refusal.{Refusal}
use Rattle.refusals.specs.declared.Refusal.TheVariants as refusal
use Rattle.harts.specs.declared.Table.{Table}
use Rattle.harts.specs.Table.{table_of}
use Rattle.batch.specs.Batch.{batched_def, leaves, batched_out}
use Rattle.matnosoru_batch.specs.Batch.{answer_of, low_half, output_of}

module _ (table words harts readings out : List ℕ) where
  abbrev answer : Answer ℕ
  answer = answer_of table words harts readings out

  -- an answer, and the output that it leaves
  abbrev Answered : Answer ℕ → List ℕ → Type 0
  Answered r after = (r ≡ low_half answer) × (after ≡ output_of table words harts readings out)

  refused : {e : Refusal} → answer ≡ Err e → Answered (Err e) out
  unfolding leaves
  refused q = (ap low_half (sym q), ap (λ (x : Answer ℕ). leaves x (table_of table) words harts readings out) (sym q))

  -- ---- test by test
  pub no_harts : (length words ≡ length harts → ⊥) → Answered (Err refusal.ListLengths) out
  no_harts h = refused (simp (ne_eqb (length words) (length harts) h))

  module _ (h : length words ≡ length harts) where
    pub no_readings : (length words ≡ length readings → ⊥) → Answered (Err refusal.ListLengths) out
    no_readings d = refused (simp (eq-eqb (length words) (length harts) h, ne_eqb (length words) (length readings) d))

    module _ (d : length words ≡ length readings) where
      pub no_table : (length table ≡ 80 → ⊥) → Answered (Err refusal.OutputShort) out
      no_table t = refused (simp (eq-eqb (length words) (length harts) h, eq-eqb (length words) (length readings) d, ne_eqb (length table) 80 t))

      -- a table of eighty bytes is handed on
      pub handed_on : length table ≡ 80 → answer ≡ batched_def (length words) (length harts) (length readings) (length out)
      handed_on t = simp (eq-eqb (length words) (length harts) h, eq-eqb (length words) (length readings) d, eq-eqb (length table) 80 t)

      -- the answer of the batch, for the table that was made of the bytes
      pub made : length table ≡ 80 → {k : Answer ℕ} {u : Table} {after : List ℕ} → u ≡ table_of table
          → k ≡ batched_def (length words) (length harts) (length readings) (length out) → after ≡ batched_out u words harts readings out → Answered (low_half k) after
      made t f g o = (ap low_half (g ∙ sym (handed_on t)), o ∙ (λ j. leaves (sym (handed_on t) j) (f j) words harts readings out))
