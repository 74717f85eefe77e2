-- What the code gathers of a word's bits is the immediate of the form. Assumes nothing.
use Rattle.utils.proofs.Prelude.{◌≡◌, refl, sym, ap, ◌∙◌, subst, true, ℕ, ◌<◌, arith, leb}
use Rattle.utils.proofs.Prelude.{lt_of_lt_of_le, pow_mono, w64, SFits, to_z, le-leb, leb-true}
use lib.IntN.{pos}
use mir.ValLaws.{to_z_pos}
use Rattle.utils.specs.Signed.{signed}
use Rattle.utils.proofs.Signed.{signed_low}
use Rattle.forms.specs.Layout.{Layout, imm, pieces, size, read, good}
use Rattle.forms.proofs.Laws.{read_lt}
use Rattle.forms.proofs.Shifts.{or_read, gathered}
use Rattle.utils.specs.Field.{fld}
use Rattle.memory_decoder.specs.Forms.{store}

-- a compressed immediate, which is not negative
module _ (L : Layout) (ok : good L ≡ true) (small : leb (size L imm) 11 ≡ true) (w : ℕ) where
  gathers : or_read w (pieces L imm) ≡ read L w imm
  gathers = gathered L ok imm (le-leb (size L imm) 64 (omega (arith, leb-true (size L imm) 11 small))) w

  low : or_read w (pieces L imm) < 2048
  low = subst (λ (x : ℕ). x < 2048) (sym gathers) (lt_of_lt_of_le (read_lt L ok w imm) (pow_mono (leb-true _ _ small)))

  pub unsigned_fits : SFits w64 (pos (or_read w (pieces L imm)))
  unsigned_fits = record { sfits = omega (arith, low) }

  pub unsigned_is : to_z w64 (or_read w (pieces L imm)) ≡ signed 2048 (read L w imm)
  unsigned_is = to_z_pos w64 _ (omega (arith, low)) ∙ sym (signed_low 2048 _ low) ∙ ap (signed 2048) gathers

-- the immediate of a store of 32 bits, which has a sign
pub store_imm : (w : ℕ) → signed 2048 (fld (or_read w (pieces store imm)) 0 12) ≡ signed 2048 (read store w imm)
store_imm w = ap (signed 2048) (omega (arith, gathered store refl imm refl w, read_lt store refl w imm))
