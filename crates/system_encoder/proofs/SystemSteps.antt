-- What each exit of the SYSTEM writing's functions knows is what the definition asks there. Assumes nothing.
use Rattle.utils.proofs.Prelude.{◌≡◌, refl, sym, ap, ◌∙◌, subst, Bool, true, false, ◌||◌, not, cond, [], ◌∷◌, ℕ, ◌*◌, ◌-◌, ◌%◌, ◌^◌, ◌<◌, ◌≤◌, arith, leb}
use Rattle.std.proofs.Common.{Some, None, Ok}
use Rattle.refusals.specs.declared.Refusal.TheVariants as refusal
use Rattle.utils.proofs.Prelude.{mod-eq_of_lt, and_mask, bit_and}
use lib.Bits.{bit_or}
use Rattle.forms.specs.Layout.{Layout, Operand, imm, rd, rs1, rs2, funct, csr, short, all, width, holds, good, build}
use Rattle.forms.specs.Sound.{first}
use Rattle.forms.specs.Meaning.{write_as, write_of, put}
use Rattle.forms.proofs.Facts.{under}
use Rattle.forms.proofs.Choices.{Told, exactly, such, KnownAs, picks, drops, by_operands}
use Rattle.forms.proofs.Shifts.{or_build, put_together}
use Rattle.system_decoder.specs.declared.CsrOp.{CsrOp, TheVariants.Write, TheVariants.Set, TheVariants.Clear}
use Rattle.system_decoder.specs.declared.Fence.{Fence, TheVariants.Vma, TheVariants.Vvma, TheVariants.Gvma}
use Rattle.system_decoder.specs.Forms.{funct7, sfence_vma, hfence_vvma, hfence_gvma, csrrw, csrrs, csrrc, csrrwi, csrrsi, csrrci, system}
use Rattle.system_decoder.specs.declared.Shape.{Shape, TheVariants.Fence as fence, TheVariants.Access as access}
use Rattle.system_decoder.specs.System.{operands, operands_of, funct3, meaning}

-- ---- the words
-- what is known of a shape's operands: of the form's number, rd, rs1, rs2 and the CSR
abbrev told : ℕ → Told → Told → Told → Told → Operand → Told
told k d a b c imm = such []
told k d a b c rd = d
told k d a b c rs1 = a
told k d a b c rs2 = b
told k d a b c funct = exactly k
told k d a b c csr = c
told k d a b c short = exactly 0

-- a shape of which this settles that the form is L is written by L
module _ (s : Shape) (ks : Operand → Told) (h : (x : Operand) → KnownAs (operands_of s x) (ks x)) (L : Layout) where
  by_layout : all (λ M. drops ks M || picks ks M) system ≡ true → first (λ M. not (drops ks M)) system refusal.Register ≡ Ok L → holds L imm 0 ≡ true → good L ≡ true → leb (width L) 64 ≡ true
      → {r : ℕ} → r ≡ or_build L (operands_of s) → Ok r ≡ write_of system meaning s
  by_layout t f i g l e =
      ap Ok (e ∙ put_together L g l (operands_of s)) ∙ ap (λ (b : Bool). put (cond b (Some 0) None) (build L (operands_of s))) (sym i)
      ∙ ap (write_as meaning s) (sym f) ∙ sym (by_operands system meaning refl s ks h t)

-- the code does not mask what it has tested
unmasked : (n x : ℕ) → x < 2 ^ n → x ≡ bit_and x (2 ^ n - 1)
unmasked n x h = sym (and_mask x n ∙ mod-eq_of_lt h)

-- (a << 20) | (x << 15) | f | (d << 7) | 0x73
abbrev pub access_word : ℕ → ℕ → ℕ → ℕ → ℕ
access_word a x f d = bit_or (bit_or (bit_or (bit_or ((a * 2 ^ 20) % 2 ^ 64) ((x * 2 ^ 15) % 2 ^ 64)) f) ((d * 2 ^ 7) % 2 ^ 64)) 0x73

module _ (a d x : ℕ) (la : a < 2 ^ 12) (ld : d ≤ 31) (lx : x ≤ 31) where
  abbrev access_told : ℕ → Operand → Told
  access_told k = told k (such (under 5 ∷ [])) (such (under 5 ∷ [])) (exactly 0) (such (under 12 ∷ []))

  known : (s : Shape) (k : ℕ) → operands_of s ≡ operands k d x 0 a → (y : Operand) → KnownAs (operands_of s y) (access_told k y)
  known s k e =
      subst (λ (env : Operand → ℕ). (y : Operand) → KnownAs (env y) (access_told k y)) (sym e)
      (elim [ imm ↦ tt | rd ↦ (omega arith, tt) | rs1 ↦ (omega arith, tt) | rs2 ↦ refl | funct ↦ refl | csr ↦ (la, tt) | short ↦ refl ])

  masks : (f : ℕ) → access_word a x f d ≡ access_word (bit_and a 4095) (bit_and x 31) f (bit_and d 31)
  masks f = λ j. access_word (unmasked 12 a la j) (unmasked 5 x (omega arith) j) f (unmasked 5 d (omega arith) j)

  pub access_word_lem : (o : CsrOp) (m : Bool) → Ok (access_word a x (funct3 o m * 2 ^ 12) d) ≡ write_of system meaning (access o m a d x)
  access_word_lem Write false = by_layout (access Write false a d x) (access_told 6) (known (access Write false a d x) 6 refl) csrrw refl refl refl refl refl (masks 0x1000)
  access_word_lem Set false = by_layout (access Set false a d x) (access_told 7) (known (access Set false a d x) 7 refl) csrrs refl refl refl refl refl (masks 0x2000)
  access_word_lem Clear false = by_layout (access Clear false a d x) (access_told 8) (known (access Clear false a d x) 8 refl) csrrc refl refl refl refl refl (masks 0x3000)
  access_word_lem Write true = by_layout (access Write true a d x) (access_told 9) (known (access Write true a d x) 9 refl) csrrwi refl refl refl refl refl (masks 0x5000)
  access_word_lem Set true = by_layout (access Set true a d x) (access_told 10) (known (access Set true a d x) 10 refl) csrrsi refl refl refl refl refl (masks 0x6000)
  access_word_lem Clear true = by_layout (access Clear true a d x) (access_told 11) (known (access Clear true a d x) 11 refl) csrrci refl refl refl refl refl (masks 0x7000)

-- f | (b << 20) | (a << 15) | 0x73
abbrev pub fence_word : ℕ → ℕ → ℕ → ℕ
fence_word f a b = bit_or (bit_or (bit_or f ((b * 2 ^ 20) % 2 ^ 64)) ((a * 2 ^ 15) % 2 ^ 64)) 0x73

module _ (a b : ℕ) (la : a ≤ 31) (lb : b ≤ 31) where
  abbrev fence_told : ℕ → Operand → Told
  fence_told k = told k (exactly 0) (such (under 5 ∷ [])) (such (under 5 ∷ [])) (exactly 0)

  fence_known : (s : Shape) (k : ℕ) → operands_of s ≡ operands k 0 a b 0 → (y : Operand) → KnownAs (operands_of s y) (fence_told k y)
  fence_known s k e =
      subst (λ (env : Operand → ℕ). (y : Operand) → KnownAs (env y) (fence_told k y)) (sym e)
      (elim [ imm ↦ tt | rd ↦ refl | rs1 ↦ (omega arith, tt) | rs2 ↦ (omega arith, tt) | funct ↦ refl | csr ↦ refl | short ↦ refl ])

  fence_masks : (f : ℕ) → fence_word f a b ≡ fence_word f (bit_and a 31) (bit_and b 31)
  fence_masks f = λ j. fence_word f (unmasked 5 a (omega arith) j) (unmasked 5 b (omega arith) j)

  pub fence_word_lem : (f : Fence) → Ok (fence_word (funct7 f * 2 ^ 25) a b) ≡ write_of system meaning (fence f a b)
  fence_word_lem Vma = by_layout (fence Vma a b) (fence_told 3) (fence_known (fence Vma a b) 3 refl) sfence_vma refl refl refl refl refl (fence_masks (funct7 Vma * 2 ^ 25))
  fence_word_lem Vvma = by_layout (fence Vvma a b) (fence_told 4) (fence_known (fence Vvma a b) 4 refl) hfence_vvma refl refl refl refl refl (fence_masks (funct7 Vvma * 2 ^ 25))
  fence_word_lem Gvma = by_layout (fence Gvma a b) (fence_told 5) (fence_known (fence Gvma a b) 5 refl) hfence_gvma refl refl refl refl refl (fence_masks (funct7 Gvma * 2 ^ 25))
