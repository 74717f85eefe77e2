-- Which refusals the SYSTEM reading has: 1 where the word has no shape, 2 where the profile makes no instruction of its shape. Assumes nothing.
use Rattle.utils.proofs.Prelude.{◌≡◌, refl, sym, ap, ◌∙◌, inl, inr, ◌↔◌, Bool, cond, List, [], ◌∷◌, ℕ, ◌^◌, ltb}
use Rattle.std.proofs.Common.{Ok, Err}
use Rattle.refusals.specs.Answer.{Answer, done}
use Rattle.refusals.specs.declared.Refusal.{Refusal}
use Rattle.refusals.specs.declared.Refusal.TheVariants as refusal
use Rattle.profiles.specs.declared.Profile.{Profile}
use Rattle.forms.specs.Numbers.{OneOf}
use Rattle.utils.proofs.Tests.{on}
use Rattle.utils.proofs.Signed.{by_test}
use Rattle.forms.proofs.Numbers.{reading_number}
use Rattle.system_decoder.specs.Forms.{system, accesses}
use Rattle.system_instructions.specs.declared.IllegalInst.{IllegalInst}
use Rattle.system_decoder.specs.declared.Shape.{Shape}
use Rattle.system_decoder.specs.System.{meaning, access_at, shape_at, legal_def}
use Rattle.system_instructions.specs.Instruction.{inst_at, read_shape, illegal_def, own_shape, shape_for, encode_illegal_def}
use Rattle.forms.specs.Numbers.{RefusesBy}
use Rattle.refusals.proofs.Answers.{no_value, same_refusal}
use Rattle.refusals.proofs.Numbers.{number_in, value_exactly, zero_exactly}
use Rattle.system_encoder.specs.System.{write_shape}
use Rattle.system_encoder.proofs.System.{checked_word}
use Rattle.system_encoder.proofs.Numbers.{checking_refusals, check_numbers}
use Rattle.system_instructions.proofs.Legal.{legal, illegal}

-- there is no refusal, and the number is 0, exactly where there is an instruction
pub accepted : (r : Answer IllegalInst) → (((e : Refusal) → ¬ (r ≡ Err e)) ↔ ((i : IllegalInst) × (r ≡ Ok i))) × ((number_in r ≡ 0) ↔ ((i : IllegalInst) × (r ≡ Ok i)))
accepted r = (value_exactly r, zero_exactly r)

-- the refusal of a word that has no shape
pub shape_refusal : (w : ℕ) (e : Refusal) → shape_at w ≡ Err e → e ≡ refusal.Unknown
unfolding shape_at access_at
shape_refusal w e =
    on (λ (k : Answer Shape). k ≡ Err e → e ≡ refusal.Unknown) (ltb w (2 ^ 32)) (λ _. reading_number system meaning w e) (λ _. reading_number accesses meaning w e)

pub without_shape : (p : Profile) (w : ℕ) (e : Refusal) → shape_at w ≡ Err e → illegal_def p w ≡ Err refusal.Unknown
unfolding illegal_def
without_shape p w e q = ap (read_shape p) q

-- and of one that has
abbrev pub made : Bool → Answer (Unit {0})
made b = cond b (Ok tt) (Err refusal.InvalidCsrOp)

pub made_of : (p : Profile) (s : Shape) → done (inst_at p s) ≡ made (legal_def p s)
made_of p s = by_test (legal_def p s) (λ l. simp ((legal p s l).1, l)) (λ l. simp (illegal p s l, l))

pub with_shape : (p : Profile) (w : ℕ) (s : Shape) → shape_at w ≡ Ok s → done (illegal_def p w) ≡ made (legal_def p s)
unfolding illegal_def
with_shape p w s e = ap (λ (k : Answer Shape). done (read_shape p k)) e ∙ made_of p s

-- an answer is refused as what is left of it is
pub undone : {X : Type 0} (r : Answer X) (e : Refusal) → done r ≡ Err e → r ≡ Err e
undone (Ok x) e q = no_value e _ (sym q)
undone (Err f) e q = ap Err (same_refusal q)

-- so there are no others: document 01's 1 and 2
abbrev pub system_refusals : List Refusal
system_refusals = refusal.Unknown ∷ refusal.InvalidCsrOp ∷ []

pub refused : (p : Profile) (w : ℕ) (e : Refusal) → illegal_def p w ≡ Err e → OneOf system_refusals e
refused p w e = go (shape_at w) refl
  where
    go : (k : Answer Shape) → shape_at w ≡ k → illegal_def p w ≡ Err e → OneOf system_refusals e
    go (Ok s) a q =
        on (λ (k : Answer (Unit {0})). k ≡ Err e → OneOf system_refusals e) (legal_def p s) (λ _ z. no_value e tt (sym z))
        (λ _ z. inr (inl (sym (same_refusal z)))) (sym (with_shape p w s a) ∙ ap done q)
    go (Err f) a q = inl (sym (same_refusal (sym (without_shape p w f a) ∙ q)))

-- ---- writing: the checks' own refusals, and no other, since whatever passes the checks has a word
-- an instruction is refused exactly where document 01's checks, in their order, refuse it, and as they do
pub by_checks : (p : Profile) (i : IllegalInst) (e : Refusal) → (encode_illegal_def p i ≡ Err e) ↔ (shape_for p i ≡ Err e)
unfolding encode_illegal_def
by_checks p i e = (go (shape_for p i) refl, ap write_shape)
  where
    go : (k : Answer Shape) → shape_for p i ≡ k → write_shape k ≡ Err e → k ≡ Err e
    go (Ok s) a q = no_value e _ (sym q ∙ (checked_word p (own_shape i) s a).1.0)
    go (Err m) a q = ap Err (same_refusal q)

-- document 01: "Writing checks 6, 7, 8 for CSR forms, 6 for fences"
pub numbers : (p : Profile) (i : IllegalInst) → RefusesBy checking_refusals (encode_illegal_def p i)
numbers p i e q = check_numbers p (own_shape i) e ((by_checks p i e).0 q)
