-- Document 02, no. 4: which reason a refused word has, and what is left when it is dropped. Assumes nothing.
use Rattle.utils.proofs.Prelude.{◌≡◌, refl, sym, ap, ◌∙◌, subst, ◌↔◌, Bool, true, false, false≢true, ℕ}
use Rattle.std.proofs.Common.{Result, Ok, Err}
use Rattle.refusals.specs.Answer.{Answer}
use Rattle.refusals.specs.declared.Refusal.{Refusal}
use Rattle.refusals.specs.declared.Refusal.TheVariants as refusal
use Rattle.refusals.proofs.Answers.{no_value}
use Rattle.csrs.specs.declared.Absent.{Absent}
use Rattle.csrs.specs.declared.Absent.TheVariants.{GateOff, NoSuch}
use Rattle.system_instructions.specs.declared.DecodeError.{DecodeError}
use Rattle.system_instructions.specs.declared.DecodeError.TheVariants.{InvalidCsrOp}
use Rattle.system_instructions.specs.declared.IllegalInst.{IllegalInst}
use Rattle.utils.specs.Field.{fld}
use Rattle.utils.proofs.Signed.{by_test}
use Rattle.profiles.specs.declared.Profile.{Profile}
use Rattle.csr_addresses.specs.declared.Csr.{Csr}
use Rattle.csrs.specs.Gates.{decode_csr_def}
use Rattle.csrs.proofs.Reasons.{gate_off, no_such}
use Rattle.system_decoder.specs.declared.Reason.{Reason, TheVariants.ReadOnly as a, TheVariants.GateOff as b, TheVariants.NoSuch as c}
use Rattle.system_decoder.specs.declared.Shape.{Shape}
use Rattle.system_decoder.specs.declared.Shape.TheVariants.{Wfi as wfi, Mret as mret, Sret as sret, Fence as fence, Access as access}
use Rattle.system_decoder.specs.System.{always, barred_def, shape_at}
use Rattle.system_decoder.specs.Reasons.{letter_of, judged, legality_def}
use Rattle.system_decoder.proofs.Reasons.{judged_by, one_answer}
use Rattle.system_instructions.specs.Instruction.{inst_of, inst_at, read_shape, illegal_def}
use Rattle.system_instructions.specs.Grounds.{CsrForm, address, ReadOnlyWrite}
use Rattle.system_instructions.specs.Reasons.{refused_for, explained_at, explained_shape, explained_def, without_reason, Because, letter_in}
use Rattle.system_instructions.proofs.Sentence.{six, csr_shape, test, barred}

-- ---- dropping the reason gives the old answer, for every profile and every word
drop_at : (p : Profile) (s : Shape) → without_reason (explained_at p s) ≡ inst_at p s
drop_at p wfi = refl
drop_at p mret = refl
drop_at p sret = refl
drop_at p (fence f x y) = refl
drop_at p (access o m n d x) =
    judged_by without_reason (λ r. Ok (inst_of o m r d x)) refused_for (barred_def n (always o) x) (decode_csr_def p n)
    ∙ one_answer (λ r. Ok (inst_of o m r d x)) (Err refusal.InvalidCsrOp) (barred_def n (always o) x) (decode_csr_def p n)

pub dropping : (p : Profile) (w : ℕ) → without_reason (explained_def p w) ≡ illegal_def p w
unfolding explained_def illegal_def
dropping p w = go (shape_at w)
  where
    go : (k : Answer Shape) → without_reason (explained_shape p k) ≡ read_shape p k
    go (Ok s) = drop_at p s
    go (Err n) = refl

-- ---- the reason of an access, by the test t and the look-up k
abbrev Told : Bool → Result Csr Absent → Reason → Type 0
Told t k a = t ≡ true
Told t k b = (t ≡ false) × (k ≡ (Err GateOff))
Told t k c = (t ≡ false) × (k ≡ (Err NoSuch))

module _ (f : Csr → Result IllegalInst DecodeError) (inst : (r : Csr) (y : Reason) → f r ≡ refused_for y → ⊥) where
  told : (t : Bool) (k : Result Csr Absent) (y : Reason) → judged f refused_for t k ≡ refused_for y → Told t k y
  told true k y e = let z : a ≡ y = cc in subst (Told true k) z refl
  told false (Ok r) y e = absurd (inst r y e)
  told false (Err GateOff) y e = let z : b ≡ y = cc in subst (Told false (Err GateOff)) z (refl, refl)
  told false (Err NoSuch) y e = let z : c ≡ y = cc in subst (Told false (Err NoSuch)) z (refl, refl)

  tells : (t : Bool) (k : Result Csr Absent) (y : Reason) → Told t k y → judged f refused_for t k ≡ refused_for y
  tells t k a e = ap (λ (u : Bool). judged f refused_for u k) e
  tells t k b e = λ j. judged f refused_for (e.0 j) (e.1 j)
  tells t k c e = λ j. judged f refused_for (e.0 j) (e.1 j)

-- ---- a word in CSR form is refused for a reason exactly where what the reason says is so
module _ (p : Profile) (w : ℕ) (form : CsrForm w) where
  abbrev made : Csr → Result IllegalInst DecodeError
  made r = Ok (inst_of (six w form).0 (six w form).1 r (fld w 7 5) (fld w 15 5))

  is : explained_def p w ≡ judged made refused_for (test w form) (decode_csr_def p (address w))
  unfolding explained_def
  is = ap (explained_shape p) (csr_shape w form)

  free : (test w form ≡ false) ↔ ¬ ReadOnlyWrite w
  free = (λ e q. false≢true (sym e ∙ (barred w form).1 q), λ n. by_test (test w form) (λ t. absurd (n ((barred w form).0 t))) (λ t. t))

  because : (y : Reason) → Told (test w form) (decode_csr_def p (address w)) y ↔ Because p w y
  because a = barred w form
  because b = (λ t. (free.0 t.0, (gate_off (address w) p).0 t.1), λ t. (free.1 t.0, (gate_off (address w) p).1 t.1))
  because c = (λ t. (free.0 t.0, (no_such (address w) p).0 t.1), λ t. (free.1 t.0, (no_such (address w) p).1 t.1))

  pub reasons : (y : Reason) → (explained_def p w ≡ refused_for y) ↔ Because p w y
  reasons y = (
    λ e. (because y).0 (told made other (test w form) (decode_csr_def p (address w)) y (sym is ∙ e)),
    λ g. is ∙ tells made other (test w form) (decode_csr_def p (address w)) y ((because y).1 g),
  )
    where
      other : (r : Csr) (y : Reason) → made r ≡ refused_for y → ⊥
      other r y e = no_value (InvalidCsrOp y) _ (sym e)

-- ---- the letter, by the word's shape
abbrev pub letter_by : Result (Unit {0}) Reason → ℕ
letter_by (Ok tt) = 0
letter_by (Err r) = letter_of r

letter_at : (p : Profile) (s : Shape) → letter_in (explained_at p s) ≡ letter_by (legality_def p s)
letter_at p wfi = refl
letter_at p mret = refl
letter_at p sret = refl
letter_at p (fence f x y) = refl
letter_at p (access o m n d x) =
    judged_by letter_in (λ r. Ok (inst_of o m r d x)) refused_for (barred_def n (always o) x) (decode_csr_def p n)
    ∙ sym (judged_by letter_by (λ r. Ok tt) Err (barred_def n (always o) x) (decode_csr_def p n))

pub letter_of_shape : (p : Profile) (w : ℕ) (s : Shape) → Ok s ≡ shape_at w → letter_in (explained_def p w) ≡ letter_by (legality_def p s)
unfolding explained_def
letter_of_shape p w s e = ap (λ (k : Answer Shape). letter_in (explained_shape p k)) (sym e) ∙ letter_at p s

pub letter_of_none : (p : Profile) (w : ℕ) {e : Refusal} → Err e ≡ shape_at w → letter_in (explained_def p w) ≡ 0
unfolding explained_def
letter_of_none p w e = ap (λ (k : Answer Shape). letter_in (explained_shape p k)) (sym e)
