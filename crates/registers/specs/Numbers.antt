-- Which numbers are those of registers: Volume I has x0 to x31, in fields of five bits.
use Rattle.std.specs.Prelude.{Bool, ◌&&◌, ℕ, leb}

abbrev pub are_valid : ℕ → ℕ → Bool
are_valid a b = leb a 31 && leb b 31
