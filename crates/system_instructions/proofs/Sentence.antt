-- Demand 3's last sentence: on which grounds a word in CSR form is refused as InvalidCsrOp. Assumes nothing.
use Rattle.utils.proofs.Prelude.{◌≡◌, refl, sym, ap, ◌∙◌, ◌⊎◌, inl, inr, ⊎_elim, ◌↔◌, Bool, true, false, ◌&&◌, ◌||◌, not, false≢true, ℕ, ◌%◌, arith, eqb}
use Rattle.std.proofs.Common.{Ok, Err}
use Rattle.refusals.specs.Answer.{Answer, done}
use Rattle.refusals.specs.declared.Refusal.TheVariants as refusal
use Rattle.refusals.proofs.Answers.{no_value}
use Rattle.utils.proofs.Prelude.{eq-eqb, ne_eqb, eqb-true, eqb-false, not-true}
use Rattle.utils.specs.Field.{fld}
use Rattle.utils.proofs.Digits.{fld_lt}
use Rattle.profiles.specs.declared.Profile.{Profile}
use Rattle.csrs.specs.Gates.{available}
use Rattle.utils.proofs.Tests.{both, join}
use Rattle.system_decoder.specs.declared.CsrOp.{CsrOp, TheVariants.Write, TheVariants.Set, TheVariants.Clear}
use Rattle.system_decoder.specs.declared.Shape.TheVariants.{Access as access}
use Rattle.system_decoder.specs.System.{op_code, funct3, read_only, always, barred_def, shape_at}
use Rattle.system_instructions.specs.Instruction.{illegal_def}
use Rattle.system_instructions.specs.Grounds.{CsrForm, address, ReadOnlyWrite, Grounds, Invalid}
use Rattle.system_decoder.proofs.SystemForms.{past_wholes, unfit_csr, at_access, one_of_six, op_of, low_two}
use Rattle.system_instructions.proofs.Numbers.{made, with_shape, undone}

-- ---- the sentence
-- k is bits 13:12, x the rs1 field
writes : (o : CsrOp) (k x : ℕ) → k ≡ op_code o → (always o || not (eqb x 0)) ≡ true → (k ≡ 1) ⊎ ¬ (x ≡ 0)
writes Write k x e q = inl e
writes Set k x e q = inr (eqb-false x 0 (not-true (eqb x 0) q))
writes Clear k x e q = inr (eqb-false x 0 (not-true (eqb x 0) q))

written : (o : CsrOp) (k x : ℕ) → k ≡ op_code o → (k ≡ 1) ⊎ ¬ (x ≡ 0) → (always o || not (eqb x 0)) ≡ true
written Write k x e q = refl
written Set k x e q = ⊎_elim (λ z. absurd (omega arith)) (λ n. ap not (ne_eqb x 0 n)) q
written Clear k x e q = ⊎_elim (λ z. absurd (omega arith)) (λ n. ap not (ne_eqb x 0 n)) q

-- the answer where b says that the access is barred, and t that the register is available
abbrev answer : Bool → Bool → Answer (Unit {0})
answer b t = made (not b && t)

has_grounds : (b t : Bool) → answer b t ≡ Err refusal.InvalidCsrOp → (t ≡ false) ⊎ (b ≡ true)
has_grounds true t e = inr refl
has_grounds false true e = no_value refusal.InvalidCsrOp _ (sym e)
has_grounds false false e = inl refl

is_refused : (b t : Bool) → (t ≡ false) ⊎ (b ≡ true) → answer b t ≡ Err refusal.InvalidCsrOp
is_refused true t e = refl
is_refused false true e = ⊎_elim (λ q. absurd (false≢true (sym q))) (λ q. absurd (false≢true q)) e
is_refused false false e = refl

module _ (w : ℕ) (f : CsrForm w) where
  pub six : (o : CsrOp) × (m : Bool) × (fld w 12 3 ≡ funct3 o m)
  six = one_of_six (fld w 12 3) (fld_lt w 12 3) (λ z. f.1 (sym (low_two w) ∙ z))

  op : fld w 12 2 ≡ op_code six.0
  op = sym (low_two w) ∙ ap (λ (x : ℕ). x % 4) six.2 ∙ op_of six.0 six.1

  pub csr_shape : shape_at w ≡ Ok (access six.0 six.1 (address w) (fld w 7 5) (fld w 15 5))
  csr_shape = past_wholes w (λ _. unfit_csr w f.1) ∙ at_access w six.0 six.1 f.0 six.2

  -- whether it would write a read-only register
  abbrev pub test : Bool
  test = barred_def (address w) (always six.0) (fld w 15 5)

  pub barred : (test ≡ true) ↔ ReadOnlyWrite w
  barred = (
    λ q.
        let d = both (read_only (address w)) (always six.0 || not (eqb (fld w 15 5) 0)) q in
        (eqb-true (fld (address w) 10 2) 3 d.0, writes six.0 (fld w 12 2) (fld w 15 5) op d.1),
    λ q. join (eq-eqb (fld (address w) 10 2) 3 q.0) (written six.0 (fld w 12 2) (fld w 15 5) op q.1),
  )

module _ (p : Profile) (w : ℕ) (f : CsrForm w) where
  is : done (illegal_def p w) ≡ answer (test w f) (available p (address w))
  is = with_shape p w _ (csr_shape w f)

  -- a word in CSR form is refused as InvalidCsrOp exactly when its address names no register available under the profile, or it would write a
  -- read-only one
  pub sentence : Invalid p w ↔ Grounds p w
  sentence = (
    λ e. ⊎_elim inl (λ q. inr ((barred w f).0 q)) (has_grounds (test w f) (available p (address w)) (sym is ∙ ap done e)),
    λ g. undone _ _ (is ∙ is_refused (test w f) (available p (address w)) (⊎_elim inl (λ q. inr ((barred w f).1 q)) g)),
  )
