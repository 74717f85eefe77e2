-- The field of n bits from bit k on, as the manuals draw a word: its bits k + n - 1 down to k.
use Rattle.std.specs.Prelude.{ℕ, ◌/◌, ◌%◌, ◌^◌}

abbrev pub fld : ℕ → ℕ → ℕ → ℕ
fld w k n = w / 2 ^ k % 2 ^ n
