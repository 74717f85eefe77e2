-- What a code of an immediate tells, and operands of one bit: what a `FaithfulBelow` is made of. Assumes nothing.
use Rattle.utils.proofs.Prelude.{◌≡◌, refl, sym, subst, Bool, true, false, ℕ, ◌<◌, arith, eqb, ltb, ℤ, mag, eqb-true, eqb-false, ltb-true}
use Rattle.std.proofs.Common.{Option, Some, None, Ok}
use Rattle.utils.specs.Signed.{signed, twos, code_def}
use Rattle.utils.proofs.Signed.{by_test, signed_twos}
use Rattle.forms.specs.Layout.{Layout, imm, holds}
use Rattle.forms.specs.Meaning.{within, put, bit_of}
use Rattle.utils.proofs.Tests.{on}
use Rattle.refusals.proofs.Answers.{no_value}
use Rattle.refusals.specs.declared.Refusal.TheVariants as refusal

not_out : {X : Type 0} (n : ℕ) → None ≡ Some n → X
not_out n q = let z : ⊥ = cc in absurd z

-- the layout holds a code that is within it
pub within_is : (L : Layout) (k : (Option ℕ)) (n : ℕ) → within L k ≡ Some n → (k ≡ Some n) × (holds L imm n ≡ true)
within_is L (Some m) n =
    on (λ (k : (Option ℕ)). k ≡ Some n → (Some m ≡ Some n) × (holds L imm n ≡ true)) (holds L imm m)
    (λ e q. let same : m ≡ n = cc in (q, subst (λ (x : ℕ). holds L imm x ≡ true) same e)) (λ _ q. not_out n q)
within_is L None n = λ q. not_out n q

-- a word that was put has an immediate with a code
pub put_is : (k : (Option ℕ)) (w x : ℕ) → put k w ≡ Ok x → ((n : ℕ) × (k ≡ Some n)) × (w ≡ x)
put_is (Some n) w x q = ((n, refl), cc)
put_is None w x q = no_value refusal.Immediate x q

-- ---- a code of an integer
code_mag : (H : ℕ) (z : ℤ) (n : ℕ) → code_def H z ≡ Some n → (mag z < H) × (n ≡ twos H z)
code_mag H z n =
    on (λ (k : (Option ℕ)). k ≡ Some n → (mag z < H) × (n ≡ twos H z)) (ltb (mag z) H)
    (λ e q. let same : twos H z ≡ n = cc in (ltb-true _ _ e, sym same)) (λ _ q. not_out n q)

pub code_back : (H : ℕ) (z : ℤ) (n : ℕ) → code_def H z ≡ Some n → signed H (twos H z) ≡ z
code_back H z n k = signed_twos H z (code_mag H z n k).0

pub code_twos : (H : ℕ) (z : ℤ) (n : ℕ) → code_def H z ≡ Some n → n ≡ twos H z
code_twos H z n k = (code_mag H z n k).1

-- ---- operands of one bit
pub bit_one : (x : ℕ) → x < 2 → bit_of (eqb x 1) ≡ x
bit_one x h = by_test (eqb x 1) (λ e. simp e (sym (eqb-true x 1 e))) (λ e. simp e (zero_of (eqb-false x 1 e)))
  where
    zero_of : (x ≡ 1 → ⊥) → 0 ≡ x
    zero_of k = omega arith

pub one_bit : (b : Bool) → eqb (bit_of b) 1 ≡ b
one_bit true = refl
one_bit false = refl
