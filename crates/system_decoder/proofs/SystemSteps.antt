-- What each exit of `shape_at` and of `access_at` knows is what the reading asks there. Assumes nothing.
use Rattle.utils.proofs.Prelude.{◌≡◌, refl, sym, ap, ◌∙◌, ℕ, ◌+◌, ◌*◌, ◌/◌, ◌%◌, ◌^◌, ◌<◌, add-zero, arith, eqb, and_mask, bit_and}
use Rattle.std.proofs.Common.{Ok, Err}
use Rattle.refusals.specs.declared.Refusal.TheVariants as refusal
use Rattle.utils.specs.Field.{fld}
use Rattle.utils.proofs.Bits.{mask_field}
use Rattle.utils.proofs.Digits.{fld_lt, same_high}
use Rattle.forms.specs.Meaning.{bit_of}
use Rattle.forms.proofs.Codes.{bit_one}
use Rattle.system_decoder.specs.declared.CsrOp.{CsrOp}
use Rattle.system_decoder.specs.declared.UnknownCode.{UnknownCode}
use Rattle.system_decoder.specs.declared.Fence.{Fence, TheVariants.Vma, TheVariants.Vvma, TheVariants.Gvma}
use Rattle.system_decoder.specs.Forms.{funct7}
use Rattle.system_decoder.specs.declared.Shape.{Shape, TheVariants.Fence as fence, TheVariants.Access as access}
use Rattle.system_decoder.specs.System.{op_code, op_from, access_at, shape_at}
use Rattle.system_decoder.proofs.Codes.{op_back, no_op_code}
use Rattle.system_decoder.proofs.SystemMasks.{fence_bits, fence_mask}
use Rattle.system_decoder.proofs.SystemForms.{FenceForm, past_wholes, unfit_other, at_fence, at_access, at_foreign, at_no_op, low_two}

-- ---- shape_at
pub opcode : (w : ℕ) → bit_and w 0x7F ≡ 0x73 → w % 2 ^ 7 ≡ 0x73
opcode w e = sym (and_mask w 7) ∙ e

pub foreign : (w : ℕ) → (bit_and w 0x7F ≡ 0x73 → ⊥) → Err refusal.Unknown ≡ shape_at w
foreign w n = sym (at_foreign w (λ e. n (and_mask w 7 ∙ e)))

-- the bits that tell the fences
module _ (w : ℕ) (h : w < 2 ^ 64) (k : ℕ) where
  told_fence : bit_and w fence_bits ≡ k * 2 ^ 25 → FenceForm w k
  told_fence e = go (fld w 7 8) (w / 2 ^ 25) (fld_lt w 7 8) refl refl (sym (fence_mask w h) ∙ e)
    where
      go : (m t : ℕ) → m < 2 ^ 8 → fld w 7 8 ≡ m → w / 2 ^ 25 ≡ t → t * 2 ^ 25 + m * 2 ^ 7 ≡ k * 2 ^ 25 → FenceForm w k
      go m t l a b q =
          let z : t ≡ k = same_high (2 ^ 25) {r = m * 2 ^ 7} {r' = 0} (omega arith) (omega arith) (q ∙ omega arith) in
          let y : m ≡ 0 = omega arith in
          record { middle = a ∙ y; above = b ∙ z }

  fence_told_lem : FenceForm w k → bit_and w fence_bits ≡ k * 2 ^ 25
  fence_told_lem f = fence_mask w h ∙ (λ j. f.above j * 2 ^ 25 + f.middle j * 2 ^ 7) ∙ add-zero (k * 2 ^ 25)

module _ (w : ℕ) (h : w < 2 ^ 64) where
  pub fenced : bit_and w 0x7F ≡ 0x73 → (f : Fence) → bit_and w fence_bits ≡ funct7 f * 2 ^ 25 → {s : Shape} → s ≡ fence f (fld w 15 5) (fld w 20 5)
      → Ok s ≡ shape_at w
  fenced e f q k = ap Ok k ∙ sym (at_fence w f (opcode w e) (told_fence w h (funct7 f) q))

  -- the word is not WFI, MRET, SRET or a fence
  pub other : (w ≡ 0x10500073 → ⊥) → (w ≡ 0x30200073 → ⊥) → (w ≡ 0x10200073 → ⊥)
      → (bit_and w fence_bits ≡ funct7 Vma * 2 ^ 25 → ⊥) → (bit_and w fence_bits ≡ funct7 Vvma * 2 ^ 25 → ⊥) → (bit_and w fence_bits ≡ funct7 Gvma * 2 ^ 25 → ⊥)
      → access_at w ≡ shape_at w
  other a b c x y z = sym (past_wholes w (unfit_other w (record { not_wfi = a; not_mret = b; not_sret = c; not_fence = λ f q. none_of f (fence_told_lem w h (funct7 f) q) })))
    where
      none_of : (f : Fence) → bit_and w fence_bits ≡ funct7 f * 2 ^ 25 → ⊥
      none_of Vma = x
      none_of Vvma = y
      none_of Gvma = z

-- ---- access_at
module _ (w : ℕ) where
  pub no_op : w % 2 ^ 7 ≡ 0x73 → {u : UnknownCode} → op_from (bit_and (w / 2 ^ 12) 3) ≡ Err u → Err refusal.Unknown ≡ access_at w
  no_op e q = sym (at_no_op w e (low_two w ∙ sym (mask_field w 12 2) ∙ no_op_code (bit_and (w / 2 ^ 12) 3) (rw (mask_field w 12 2) (fld_lt w 12 2)) q))

  pub accessed : w % 2 ^ 7 ≡ 0x73 → (o : CsrOp) → op_from (bit_and (w / 2 ^ 12) 3) ≡ Ok o
      → Ok (access o (eqb (bit_and (w / 2 ^ 14) 1) 1) (bit_and (w / 2 ^ 20) 4095) (bit_and (w / 2 ^ 7) 31) (bit_and (w / 2 ^ 15) 31)) ≡ access_at w
  accessed e o q =
      (λ j. Ok (access o (eqb (mask_field w 14 1 j) 1) (mask_field w 20 12 j) (mask_field w 7 5 j) (mask_field w 15 5 j)))
      ∙ sym (at_access w o (eqb (fld w 14 1) 1) e (whole (op_code o) (bit_of (eqb (fld w 14 1) 1)) (op_back (bit_and (w / 2 ^ 12) 3) q ∙ mask_field w 12 2) (bit_one (fld w 14 1) (fld_lt w 14 1))))
    where
      whole : (k b : ℕ) → k ≡ fld w 12 2 → b ≡ fld w 14 1 → fld w 12 3 ≡ k + 4 * b
      whole k b x y = omega arith
