-- The answers for an address and for two tables, and a value's sign copied upwards by a width in bytes.
use Rattle.std.specs.Prelude.{◌≡◌, ℕ, ◌+◌, ◌*◌, ◌^◌, Bool, true, false, ◌&&◌, List, length, ◌==◌}
use Rattle.std.specs.Prelude.{Option, Some, None, Result, Ok, Err}
use Rattle.csr_addresses.specs.declared.Csr.{Csr}
use Rattle.csrs.specs.declared.Absent.{Absent}
use Rattle.csrs.specs.declared.Absent.TheVariants.{GateOff, NoSuch}
use Rattle.utils.specs.declared.Width.{Width}
use Rattle.utils.specs.declared.UnknownWidth.{UnknownWidth}
use Rattle.utils.specs.Width.{extended, half_of}
use Rattle.differences.specs.declared.Difference.{Difference}
use Rattle.harts.specs.Table.{table_of}
use Rattle.differences.specs.Difference.{FirstDifference}

-- ---- an address
abbrev pub lookup_code : Result Csr Absent → ℕ
lookup_code (Ok c) = 1
lookup_code (Err GateOff) = 2
lookup_code (Err NoSuch) = 3

-- ---- tables
-- the first difference as hart * 4096 + address, 32768 for none
abbrev pub place_of : Difference → ℕ
place_of d = d.hart * 4096 + d.csr

abbrev pub place : Option Difference → ℕ
place (Some d) = place_of d
place None = 32768

-- r is the answer for two tables: where both have 80 bytes, the place of the one first difference (proofs/Tables says that it is one), else 14
abbrev pub Compared : Bool → List ℕ → List ℕ → ℕ → Type 0
Compared true s t r = (d : Option Difference) × (FirstDifference (table_of s) (table_of t) d × (r ≡ place d))
Compared false s t r = r ≡ 14 * 2 ^ 32

abbrev pub TablesDiffer : List ℕ → List ℕ → ℕ → Type 0
TablesDiffer s t r = Compared (length s == 80 && length t == 80) s t r

-- ---- arithmetic
-- a width in bytes; another number leaves the value
abbrev pub extended_by : Result Width UnknownWidth → ℕ → ℕ
extended_by (Ok w) x = extended (half_of w) x
extended_by (Err e) x = x
