-- What a test of two numbers of registers tells. Assumes nothing.
use Rattle.utils.proofs.Prelude.{◌≡◌, refl, Bool, true, false, ◌&&◌, ℕ, ◌<◌, ◌≤◌, leb, le-leb, leb-true}
use borrow.Author.Tests.{leb-false}
use Rattle.utils.proofs.Tests.{both}
use Rattle.registers.specs.Numbers.{are_valid}

pub are_valid_lem : (a b : ℕ) → a ≤ 31 → b ≤ 31 → are_valid a b ≡ true
are_valid_lem a b g h = rw (le-leb a 31 g, le-leb b 31 h)

pub valid : (a b : ℕ) → are_valid a b ≡ true → (a ≤ 31) × (b ≤ 31)
valid a b e = let t = both (leb a 31) (leb b 31) e in (leb-true a 31 t.0, leb-true b 31 t.1)

-- else one of the two is past 31
pub not_valid : {X : Type 0} (a b : ℕ) → are_valid a b ≡ false → (31 < a → X) → (31 < b → X) → X
not_valid {X} a b e f g = step (leb a 31) refl e
  where
    step : (p : Bool) → leb a 31 ≡ p → (p && leb b 31) ≡ false → X
    step true i e = g (leb-false b 31 e)
    step false i e = f (leb-false a 31 i)
