-- Which words are of which form of the SYSTEM table, by the fields that the forms fix. Assumes nothing.
use Rattle.utils.proofs.Prelude.{◌≡◌, refl, sym, ap, ◌∙◌, subst, Bool, true, false, ◌&&◌, cond, List, [], ◌∷◌, ◌++◌, ℕ, ◌+◌, ◌*◌, ◌/◌, ◌%◌, ◌^◌, ◌<◌, arith, eqb, ltb}
use Rattle.std.proofs.Common.{Ok, Err}
use Rattle.refusals.specs.Answer.{Answer}
use Rattle.refusals.specs.declared.Refusal.TheVariants as refusal
use Rattle.utils.proofs.Prelude.{mod-eq_of_lt, eqb-true, eqb-false, lt-ltb, ltb-true}
use Rattle.utils.specs.Field.{fld}
use Rattle.utils.proofs.Digits.{halves}
use Rattle.utils.proofs.Signed.{by_test}
use Rattle.forms.specs.Layout.{Layout, all, width, matches, read, spares, readable, build, good}
use Rattle.forms.specs.Sound.{first}
use Rattle.forms.specs.Meaning.{read_as, read_of, bit_of}
use Rattle.utils.proofs.Tests.{both, on}
use Rattle.forms.proofs.Laws.{read_build}
use Rattle.forms.proofs.Facts.{Fact, is, isnt, Known, settles, fits, clears, by_facts}
use Rattle.forms.proofs.Accepts.{fields_of, Unread, passed, unread}
use Rattle.forms.proofs.Codes.{bit_one}
use Rattle.system_decoder.specs.declared.CsrOp.{CsrOp, TheVariants.Write, TheVariants.Set, TheVariants.Clear}
use Rattle.system_decoder.specs.declared.Fence.{Fence, TheVariants.Vma, TheVariants.Vvma, TheVariants.Gvma}
use Rattle.system_decoder.specs.Forms.{funct7, nth, fenced, wfi, mret, sret, sfence_vma, hfence_vvma, hfence_gvma, accesses, system}
use Rattle.system_decoder.specs.declared.Shape.{Shape, TheVariants.Fence as fence, TheVariants.Access as access}
use Rattle.system_decoder.specs.System.{op_code, funct3, meaning, access_at, shape_at}

-- what is known of a word, by a table of SYSTEM words
known : (T : List Layout) → all good T ≡ true → (w : ℕ) (fs : List Fact) → Known w fs → (settles fs T && clears fs []) ≡ true
    → read_of T meaning w ≡ read_as meaning w (first (fits fs) T refusal.Unknown)
known T ok = by_facts T meaning ok [] refusal.Unknown (λ w. refl)

-- a form that reads a word has its bits
has : (w : ℕ) (L : Layout) → readable w L ≡ true → matches L w ≡ true
has w L r = (both (matches L w) (spares L (read L w)) r).0

-- ---- WFI, MRET, SRET and the fences
abbrev wholes : List Layout
wholes = wfi ∷ mret ∷ sret ∷ sfence_vma ∷ hfence_vvma ∷ hfence_gvma ∷ []

-- a word that is not one of them is read as a CSR form, or not at all
pub past_wholes : (w : ℕ) → (w < 2 ^ 32 → Unread w wholes) → shape_at w ≡ access_at w
unfolding shape_at access_at
past_wholes w h =
    on (λ (k : Answer Shape). k ≡ access_at w) (ltb w (2 ^ 32)) (λ e. ap (read_as meaning w) (passed w wholes accesses refusal.Unknown (h (ltb-true w (2 ^ 32) e)))) (λ _. refl)

-- bits 14:7 zero, and everything from bit 25 up equal to k
pub record FenceForm (w k : ℕ) : Type 0 where
  pub middle : fld w 7 8 ≡ 0
  pub above : w / 2 ^ 25 ≡ k

-- a word below 2^32 that is not one of these
pub record Other (w : ℕ) : Type 0 where
  pub not_wfi : w ≡ 0x10500073 → ⊥
  pub not_mret : w ≡ 0x30200073 → ⊥
  pub not_sret : w ≡ 0x10200073 → ⊥
  pub not_fence : (f : Fence) → FenceForm w (funct7 f) → ⊥

pub unfit_other : (w : ℕ) → Other w → w < 2 ^ 32 → Unread w wholes
unfit_other w o h = (
  λ r. o.not_wfi (whole wfi refl refl r),
  (
    λ r. o.not_mret (whole mret refl refl r),
    (
      λ r. o.not_sret (whole sret refl refl r),
      (no_fence Vma 3, (no_fence Vvma 4, (no_fence Gvma 5, tt))),
    ),
  ),
)
  where
    whole : (L : Layout) → good L ≡ true → 2 ^ width L ≡ 2 ^ 32 → readable w L ≡ true → w ≡ build L (read L w)
    whole L g e r = sym (read_build L g w (subst (λ (n : ℕ). w < n) (sym e) h) (has w L r))

    middle : fld w 12 3 ≡ 0 → fld w 7 5 ≡ 0 → fld w 7 8 ≡ 0
    middle e g = halves w 7 3 5 ∙ (λ j. e j * 2 ^ 5 + g j)

    above : (k : ℕ) → fld w 25 7 ≡ k → w / 2 ^ 25 ≡ k
    above k e = omega arith

    no_fence : (f : Fence) (k : ℕ) → readable w (fenced (funct7 f) ++ nth k) ≡ true → ⊥
    no_fence f k r =
        let t = fields_of (fenced (funct7 f) ++ nth k) w (has w (fenced (funct7 f) ++ nth k) r) in
        o.not_fence f (record { middle = middle t.1.0 t.1.1.0; above = above (funct7 f) t.0 })

-- bits 13:12 are zero in each of them
pub unfit_csr : (w : ℕ) → (fld w 12 2 ≡ 0 → ⊥) → Unread w wholes
unfit_csr w n = unread w (isnt 12 2 0b00 ∷ []) (n, tt) wholes refl

-- ---- a word that has the fields of a form is read by it
abbrev fence_facts : ℕ → List Fact
fence_facts v = is 25 7 v ∷ is 12 3 0b000 ∷ is 7 5 0b00000 ∷ is 0 7 0x73 ∷ []

pub at_fence : (w : ℕ) (f : Fence) → w % 2 ^ 7 ≡ 0x73 → FenceForm w (funct7 f) → shape_at w ≡ Ok (fence f (fld w 15 5) (fld w 20 5))
unfolding shape_at
at_fence w f e h = ap (λ (b : Bool). cond b (read_of system meaning w) (access_at w)) (lt-ltb w (2 ^ 32) (small (funct7 f) (seven f) h.above)) ∙ layout f h.above
  where
    small : (k : ℕ) → k < 2 ^ 7 → w / 2 ^ 25 ≡ k → w < 2 ^ 32
    small k l q = omega arith

    seven : (f : Fence) → funct7 f < 2 ^ 7
    seven Vma = omega arith
    seven Vvma = omega arith
    seven Gvma = omega arith

    zeros : fld w 7 8 ≡ 0 → (fld w 12 3 ≡ 0) × (fld w 7 5 ≡ 0)
    zeros z = (omega arith, omega arith)

    facts : (v : ℕ) → v < 2 ^ 7 → w / 2 ^ 25 ≡ v → Known w (fence_facts v)
    facts v l q = let z = zeros h.middle in (ap (λ (x : ℕ). x % 2 ^ 7) q ∙ mod-eq_of_lt l, (z.0, (z.1, (e, tt))))

    layout : (f : Fence) → w / 2 ^ 25 ≡ funct7 f → read_of system meaning w ≡ Ok (fence f (fld w 15 5) (fld w 20 5))
    layout Vma q = known system refl w (fence_facts (funct7 Vma)) (facts (funct7 Vma) (seven Vma) q) refl
    layout Vvma q = known system refl w (fence_facts (funct7 Vvma)) (facts (funct7 Vvma) (seven Vvma) q) refl
    layout Gvma q = known system refl w (fence_facts (funct7 Gvma)) (facts (funct7 Gvma) (seven Gvma) q) refl

-- ---- CSR forms
pub at_access : (w : ℕ) (o : CsrOp) (m : Bool) → w % 2 ^ 7 ≡ 0x73 → fld w 12 3 ≡ funct3 o m → access_at w ≡ Ok (access o m (fld w 20 12) (fld w 7 5) (fld w 15 5))
unfolding access_at
at_access w Write false e f = known accesses refl w (is 12 3 0b001 ∷ is 0 7 0x73 ∷ []) (f, (e, tt)) refl
at_access w Set false e f = known accesses refl w (is 12 3 0b010 ∷ is 0 7 0x73 ∷ []) (f, (e, tt)) refl
at_access w Clear false e f = known accesses refl w (is 12 3 0b011 ∷ is 0 7 0x73 ∷ []) (f, (e, tt)) refl
at_access w Write true e f = known accesses refl w (is 12 3 0b101 ∷ is 0 7 0x73 ∷ []) (f, (e, tt)) refl
at_access w Set true e f = known accesses refl w (is 12 3 0b110 ∷ is 0 7 0x73 ∷ []) (f, (e, tt)) refl
at_access w Clear true e f = known accesses refl w (is 12 3 0b111 ∷ is 0 7 0x73 ∷ []) (f, (e, tt)) refl

-- ---- words of no form
pub at_foreign : (w : ℕ) → (w % 2 ^ 7 ≡ 0x73 → ⊥) → shape_at w ≡ Err refusal.Unknown
unfolding shape_at access_at
at_foreign w n =
    on (λ (k : Answer Shape). k ≡ Err refusal.Unknown) (ltb w (2 ^ 32))
    (λ _. known system refl w (isnt 0 7 0x73 ∷ []) (n, tt) refl) (λ _. known accesses refl w (isnt 0 7 0x73 ∷ []) (n, tt) refl)

pub low_two : (w : ℕ) → fld w 12 3 % 4 ≡ fld w 12 2
low_two w = omega arith

-- bits 13:12 are zero: bits 14:12 are 0 or 4
pub at_no_op : (w : ℕ) → w % 2 ^ 7 ≡ 0x73 → fld w 12 3 % 4 ≡ 0 → access_at w ≡ Err refusal.Unknown
unfolding access_at
at_no_op w e z = known accesses refl w (is 0 7 0x73 ∷ is 12 2 0b00 ∷ []) (e, (sym (low_two w) ∙ z, tt)) refl

-- and where they are not, one of the six
pub one_of_six : (f : ℕ) → f < 2 ^ 3 → (f % 4 ≡ 0 → ⊥) → (o : CsrOp) × (m : Bool) × (f ≡ funct3 o m)
one_of_six f h n =
    let t = some_op (f % 4) (omega arith) n in
    (t.0, eqb (f / 4) 1, split f (op_code t.0) (bit_of (eqb (f / 4) 1)) t.1 (bit_one (f / 4) (omega arith)))
  where
    some_op : (k : ℕ) → k < 2 ^ 2 → (k ≡ 0 → ⊥) → (o : CsrOp) × (k ≡ op_code o)
    some_op k h n =
        by_test (eqb k 1) (λ a. (Write, eqb-true k 1 a))
        (λ a. let x = eqb-false k 1 a in by_test (eqb k 2) (λ b. (Set, eqb-true k 2 b)) (λ b. let y = eqb-false k 2 b in (Clear, omega arith)))

    split : (f k b : ℕ) → f % 4 ≡ k → b ≡ f / 4 → f ≡ k + 4 * b
    split f k b e g = omega arith

-- of bits 14:12, bits 13:12 are the operation
pub op_of : (o : CsrOp) (m : Bool) → funct3 o m % 4 ≡ op_code o
op_of Write false = refl
op_of Set false = refl
op_of Clear false = refl
op_of Write true = refl
op_of Set true = refl
op_of Clear true = refl
