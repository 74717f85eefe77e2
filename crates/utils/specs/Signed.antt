-- Two's complement over a half H: the codes 0 to 2 H - 1 mean -H to H - 1. H is 2 ^ 11 for an immediate of twelve bits,
-- 2 ^ 15 for the log's, 2 ^ 63 for a register. An integer z is in the range exactly when mag z < H (`lib.Signed`).
use Rattle.std.specs.Prelude.{ℕ, ◌-◌, ◌*◌, cond, ℤ, pos, negsuc, nat_lt}
use Rattle.std.specs.Prelude.{Option, Some, None}
use Rattle.std.specs.Int.Signed.{mag}
use Rattle.utils.specs.declared.Sign.{Sign}
use Rattle.utils.specs.declared.Sign.TheVariants.{Up, Down}

-- the integer that the code y means: y below H, y - 2 H from H on (`negsuc m` is -(m + 1))
abbrev pub signed : ℕ → ℕ → ℤ
signed H y = cond (nat_lt y H) (pos y) (negsuc (2 * H - 1 - y))

-- the code of an integer
abbrev pub twos : ℕ → ℤ → ℕ
twos H (pos n) = n
twos H (negsuc m) = 2 * H - 1 - m

-- an integer taken apart: n is Up n, and -(m + 1) is Down m
abbrev pub parts : ℤ → Sign
parts (pos n) = Up n
parts (negsuc m) = Down m

-- the code of z, where z is in the range
abbrev pub code_def : ℕ → ℤ → Option ℕ
code_def H z = cond (nat_lt (mag z) H) (Some (twos H z)) None
