-- What the code's tests say of reading by a table of loads or stores, once for both: the arms of a form whose proof the check does not find
-- go by these. Assumes nothing.
use Rattle.utils.proofs.Prelude.{◌≡◌, refl, sym, ◌∙◌, Bool, true, ◌&&◌, cond, List, [], ◌∷◌, ℕ}
use Rattle.std.proofs.Common.{Err}
use Rattle.refusals.specs.Answer.{Answer}
use Rattle.refusals.specs.declared.Refusal.TheVariants as refusal
use Rattle.utils.proofs.Tests.{both}
use Rattle.forms.specs.Layout.{Layout, all, good}
use Rattle.forms.specs.Sound.{first, spread, distinct, sound}
use Rattle.forms.specs.Meaning.{Meaning, read_as, read_of}
use Rattle.forms.proofs.Facts.{Fact, Known, of_facts, tells, denies, is_told, is_denied, settles, fits, Reason, reason, refusal_known, clears, by_facts}
use Rattle.memory_decoder.specs.Access.{is_long, unread}
use Rattle.memory_decoder.specs.Forms.{loads, stores}
use Rattle.memory_decoder.specs.Load as Load
use Rattle.memory_decoder.specs.Store as Store
use Rattle.memory_decoder.specs.declared.LoadInstr.{LoadInstr}
use Rattle.memory_decoder.specs.declared.StoreInstr.{StoreInstr}
use Rattle.memory_decoder.proofs.Lengths.{if_long, if_short}

-- ---- a table of loads or stores
pub record Reading (I : Type 0) : Type 0 where
  pub forms : List Layout
  pub meaning : Meaning I
  pub opcode : ℕ  -- of the 32-bit form
  pub ok : sound forms ≡ true
  pub reading_refusal : (w : ℕ) → meaning.reading_refusal w ≡ unread opcode w

abbrev pub loading : Reading LoadInstr
loading = record { forms = loads; meaning = Load.meaning; opcode = 0x03; ok = refl; reading_refusal = λ w. refl }

abbrev pub storing : Reading StoreInstr
storing = record { forms = stores; meaning = Store.meaning; opcode = 0x23; ok = refl; reading_refusal = λ w. refl }

-- its answer to a word
abbrev pub answer_to : {I : Type 0} → Reading I → ℕ → Answer I
answer_to F w = read_of F.forms F.meaning w

-- `unread` as tests of fields
abbrev reasons : ℕ → List Reason
reasons opcode = reason 0 2 0b10 refusal.StackForm ∷ reason 0 7 opcode refusal.Width ∷ []

-- the answer to words of which the facts are known
abbrev answer_by : {I : Type 0} → Reading I → List Fact → ℕ → Answer I
answer_by F fs w = read_as F.meaning w (first (fits fs) F.forms (refusal_known fs (reasons F.opcode) refusal.NotTheForm))

-- the facts settle it
abbrev settled : {I : Type 0} → Reading I → List Fact → Bool
settled F fs = settles fs F.forms && clears fs (reasons F.opcode)

module _ {I : Type 0} (F : Reading I) (w : ℕ) (fs : List Fact) (h : Known w fs) where
  pub reads : settled F fs ≡ true → answer_by F fs w ≡ answer_to F w
  reads e =
      let fine = (both (all good F.forms) (distinct F.forms) F.ok).0 in
      sym (by_facts F.forms F.meaning fine (reasons F.opcode) refusal.NotTheForm F.reading_refusal w fs h e)

  -- the same of a reader of one length of words, to which the other's are not of the form; the facts tell the length
  pub long_reads : settled F fs ≡ true → tells (of_facts fs) (spread 2 0 0b11 []) ≡ true → answer_by F fs w ≡ cond (is_long w) (answer_to F w) (Err refusal.NotTheForm)
  long_reads e l = reads e ∙ sym (if_long w (answer_to F w) (Err refusal.NotTheForm) (is_told w fs h 0 2 0b11 l))

  pub short_reads : settled F fs ≡ true → denies fs (spread 2 0 0b11 []) ≡ true → answer_by F fs w ≡ cond (is_long w) (Err refusal.NotTheForm) (answer_to F w)
  short_reads e l = reads e ∙ sym (if_short w (Err refusal.NotTheForm) (answer_to F w) (is_denied w fs h 0 2 0b11 l))
