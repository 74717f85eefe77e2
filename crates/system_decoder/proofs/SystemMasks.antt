-- The masks of the SYSTEM reading's code as fields of the word. Assumes nothing.
use Rattle.utils.proofs.Prelude.{◌≡◌, refl, sym, ap, ◌∙◌, Bool, true, false, ℕ, ◌+◌, ◌*◌, ◌/◌, ◌%◌, ◌^◌, ◌<◌, arith, eqb}
use Rattle.utils.proofs.Prelude.{mod-eq_of_lt, and_mask, bit_and, eq-eqb, ne_eqb, eqb-true, eqb-false}
use native.Mathlib.Nat.{div-add-mod'}
use lib.Bits.{and_high, and_shr, and_mod}
use Rattle.utils.specs.Field.{fld}
use Rattle.system_decoder.specs.System.{read_only}

-- (a & 0b11 << 10) == 0b11 << 10
pub access_test : (a : ℕ) → eqb (bit_and a 0xC00) 0xC00 ≡ read_only a
access_test a = ap (λ (x : ℕ). eqb x 0xC00) (and_high a 2 10) ∙ go (fld a 10 2) (eqb (fld a 10 2) 3) refl
  where
    go : (x : ℕ) (b : Bool) → eqb x 3 ≡ b → eqb (x * 2 ^ 10) 0xC00 ≡ b
    go x true e = let z = eqb-true x 3 e in eq-eqb (x * 2 ^ 10) 0xC00 (omega arith)
    go x false e = let z = eqb-false x 3 e in ne_eqb (x * 2 ^ 10) 0xC00 (λ q. z (omega arith))

-- !RS1_RS1_INSTR_TYPE_MASK: bits 14:7, and everything from bit 25 up
abbrev pub fence_bits : ℕ
fence_bits = 0xFFFFFFFFFE007F80

pub fence_mask : (w : ℕ) → w < 2 ^ 64 → bit_and w fence_bits ≡ w / 2 ^ 25 * 2 ^ 25 + fld w 7 8 * 2 ^ 7
fence_mask w h =
    sym (div-add-mod' (bit_and w fence_bits) (2 ^ 25))
    ∙ (λ j. (and_shr w fence_bits 25 ∙ and_mask (w / 2 ^ 25) 39 ∙ mod-eq_of_lt (top w h)) j * 2 ^ 25 + (and_mod w fence_bits 25 ∙ and_high (w % 2 ^ 25) 8 7 ∙ low w) j)
  where
    top : (x : ℕ) → x < 2 ^ 64 → x / 2 ^ 25 < 2 ^ 39
    top x h = omega arith

    low : (x : ℕ) → x % 2 ^ 25 / 2 ^ 7 % 2 ^ 8 * 2 ^ 7 ≡ x / 2 ^ 7 % 2 ^ 8 * 2 ^ 7
    low x = omega arith
