-- What is known of a load or a store settles its form, and the word of its immediate's code: for any forms that the tables may have, where the
-- check does not find it. Assumes nothing.
use Rattle.utils.proofs.Prelude.{◌≡◌, sym, ap, ◌∙◌, refl, true, ◌&&◌, ◌||◌, not, cond, List, [], ◌∷◌, ℕ, ◌%◌, eqb, ltb, get_or}
use Rattle.utils.proofs.Prelude.{ℤ, w64, SFits, to_z, of_z, to_z-of_z}
use Rattle.std.proofs.Common.{Option, Some, None, Ok, Err}
use Rattle.utils.specs.Signed.{twos, code_def}
use Rattle.refusals.specs.Answer.{Answer}
use Rattle.refusals.specs.declared.Refusal.TheVariants as refusal
use Rattle.forms.specs.Layout.{Layout, Operand, imm, rd, rs1, rs2, funct, csr, short, code, all, holds}
use Rattle.forms.specs.Meaning.{bit_of, within, put, write_of, write_as}
use Rattle.forms.specs.Sound.{first}
use Rattle.forms.proofs.Codes.{within_is, code_twos}
use Rattle.forms.proofs.Choices.{Told, exactly, such, KnownAs, picks, drops, by_operands}
use Rattle.memory_decoder.specs.declared.LoadInstr.{LoadInstr}
use Rattle.memory_decoder.specs.declared.StoreInstr.{StoreInstr}
use Rattle.memory_decoder.specs.Forms.{loads, stores}
use Rattle.memory_decoder.specs.Funct3.{size_of, funct3_of}
use Rattle.memory_decoder.specs.Load as Load
use Rattle.memory_decoder.specs.Store as Store
use Rattle.memory_encoder.specs.LoadStore.{stepped}

-- ---- what is known of the operands settles the form: of the register, which is the operand y, the base, funct and `short`
abbrev told : Operand → Told → Told → Told → Told → Operand → Told
told y r b f s x = cond (eqb (code x) (code y)) r (get_or (such [] ∷ exactly 0 ∷ b ∷ exactly 0 ∷ f ∷ exactly 0 ∷ s ∷ []) (code x) (such []))

abbrev Settles : (Operand → Told) → List Layout → Type 0
Settles ks T = all (λ L. drops ks L || picks ks L) T ≡ true

module _ (r b f s : Told) where
  pub load_layout : (i : LoadInstr) → KnownAs i.rd.0 r → KnownAs i.rs1.0 b → KnownAs (funct3_of i.len i.is_unsigned) f → KnownAs (bit_of i.is_compressed) s
      → Settles (told rd r b f s) loads → write_of loads Load.meaning i ≡ write_as Load.meaning i (first (λ L. not (drops (told rd r b f s) L)) loads (Load.writing_refusal i))
  load_layout i hr hb hf hs e =
      by_operands loads Load.meaning refl i (told rd r b f s) (elim [ imm ↦ tt | rd ↦ hr | rs1 ↦ hb | rs2 ↦ refl | funct ↦ hf | csr ↦ refl | short ↦ hs ]) e

  pub store_layout : (i : StoreInstr) → KnownAs i.rs2.0 r → KnownAs i.rs1.0 b → KnownAs (size_of i.len) f → KnownAs (bit_of i.is_compressed) s
      → Settles (told rs2 r b f s) stores → write_of stores Store.meaning i ≡ write_as Store.meaning i (first (λ L. not (drops (told rs2 r b f s) L)) stores (Store.writing_refusal i))
  store_layout i hr hb hf hs e =
      by_operands stores Store.meaning refl i (told rs2 r b f s) (elim [ imm ↦ tt | rd ↦ refl | rs1 ↦ hb | rs2 ↦ hr | funct ↦ hf | csr ↦ refl | short ↦ hs ]) e

-- nothing is known
abbrev pub anything : Told
anything = such []

-- ---- the word of the code that was found
-- the answer of the code's last match
abbrev pub put_code : (ℕ → ℕ) → Option ℕ → Answer ℕ
put_code word (Some n) = Ok (word n)
put_code word None = Err refusal.Immediate

-- c is what the call found, of z as the machine reads it back; k is the arm, and r the arm's answer
pub found : (L : Layout) (word : ℕ → ℕ) (z : ℤ) → SFits w64 z → {c k : Option ℕ} {r : Answer ℕ} → c ≡ within L (code_def 2048 (to_z w64 (of_z w64 z))) → c ≡ k → r ≡ put_code word k
    → r ≡ put (within L (code_def 2048 z)) (word (twos 2048 z))
found L word z fits {c} {k} e q p = p ∙ same k (sym is ∙ q) ∙ ap (λ (v : Option ℕ). put v (word (twos 2048 z))) (sym q ∙ is)
  where
    is : c ≡ within L (code_def 2048 z)
    is = e ∙ ap (λ (y : ℤ). within L (code_def 2048 y)) (to_z-of_z w64 z fits)

    same : (v : Option ℕ) → within L (code_def 2048 z) ≡ v → put_code word v ≡ put v (word (twos 2048 z))
    same (Some n) f = ap (λ (m : ℕ). put_code word (Some m)) (code_twos 2048 z n (within_is L (code_def 2048 z) n f).0)
    same None f = refl

-- and of one whose immediate holds the multiples of s below l
pub found_step : (L : Layout) (s l : ℕ) → ((n : ℕ) → holds L imm n ≡ (eqb (n % s) 0 && ltb n l)) → (word : ℕ → ℕ) (z : ℤ) → SFits w64 z → {c k : Option ℕ} {r : Answer ℕ}
    → c ≡ stepped s l (code_def 2048 (to_z w64 (of_z w64 z))) → c ≡ k → r ≡ put_code word k → r ≡ put (within L (code_def 2048 z)) (word (twos 2048 z))
found_step L s l h word z fits e = found L word z fits (e ∙ codes (code_def 2048 (to_z w64 (of_z w64 z))))
  where
    codes : (k : Option ℕ) → stepped s l k ≡ within L k
    codes (Some n) = simp h
    codes None = refl
