-- funct3 and the width and sign that it means, both ways. Assumes nothing.
use Rattle.utils.proofs.Prelude.{◌≡◌, refl, Bool, true, false, [], ◌∷◌, ℕ, zero, suc, ◌%◌, ◌^◌, ◌<◌, mod-lt, arith, leb, get_or, pow_pos, leb-true}
use borrow.Author.Tests.{leb-false}
use Rattle.utils.specs.declared.Width.{Width, TheVariants.Byte, TheVariants.Byte2, TheVariants.Byte4, TheVariants.Byte8}
use Rattle.utils.proofs.Signed.{by_test}
use Rattle.memory_decoder.specs.Funct3.{width_of, size_of, funct3_of}

-- the width says funct3's low two bits
pub size_low : (f : ℕ) → size_of (width_of f) ≡ f % 2 ^ 2
size_low f = go (f % 2 ^ 2) (mod-lt f (pow_pos 2))
  where
    go : (n : ℕ) → n < 4 → size_of (get_or (Byte ∷ Byte2 ∷ Byte4 ∷ Byte8 ∷ []) n Byte) ≡ n
    go zero h = refl
    go (suc zero) h = refl
    go (suc (suc zero)) h = refl
    go (suc (suc (suc zero))) h = refl
    go (suc (suc (suc (suc n)))) h = absurd (omega arith)

pub funct3_back : (f : ℕ) → f < 2 ^ 3 → funct3_of (width_of f) (leb 4 f) ≡ f
funct3_back f h =
    by_test (leb 4 f)
    (λ e. simp (e, size_low) (omega (arith, leb-true 4 f e)))
    (λ e. simp (e, size_low) (omega (arith, leb-false 4 f e)))

pub size_lt : (len : Width) → size_of len < 2 ^ 2
size_lt = elim [ Byte ↦ omega arith | Byte2 ↦ omega arith | Byte4 ↦ omega arith | Byte8 ↦ omega arith ]

pub funct3_lt : (len : Width) (u : Bool) → funct3_of len u < 2 ^ 3
funct3_lt len = elim [ false ↦ omega (arith, size_lt len) | true ↦ omega (arith, size_lt len) ]

pub size_forth : (len : Width) → width_of (size_of len) ≡ len
size_forth = elim [ Byte ↦ refl | Byte2 ↦ refl | Byte4 ↦ refl | Byte8 ↦ refl ]

pub funct3_forth : (u : Bool) (len : Width) → (width_of (funct3_of len u) ≡ len) × (leb 4 (funct3_of len u) ≡ u)
funct3_forth false = elim [ Byte ↦ (refl, refl) | Byte2 ↦ (refl, refl) | Byte4 ↦ (refl, refl) | Byte8 ↦ (refl, refl) ]
funct3_forth true = elim [ Byte ↦ (refl, refl) | Byte2 ↦ (refl, refl) | Byte4 ↦ (refl, refl) | Byte8 ↦ (refl, refl) ]
