-- The number of CSRs that a profile makes available: the size of the set of their addresses.
use Rattle.std.specs.Prelude.{Bool, ℕ, zero, suc, ◌+◌}
use Rattle.profiles.specs.declared.Profile.{Profile}
use Rattle.profiles.specs.Profile.{weight_def}
use Rattle.csrs.specs.Gates.{available}

-- how many of the numbers below n pass the test f
unfoldable pub size_below : ℕ → (ℕ → Bool) → ℕ
size_below zero f = 0
size_below (suc n) f = weight_def (f n) 1 + size_below n f

unfoldable pub count_def : Profile → ℕ
count_def p = size_below 4096 (available p)
