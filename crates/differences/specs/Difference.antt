-- The first place where two tables of profiles differ.
use Rattle.std.specs.Prelude.{◌≡◌, ℕ, ◌<◌, Option, Some, None}
use Rattle.csrs.specs.Gates.{available}
use Rattle.harts.specs.declared.Table.{Table}
use Rattle.harts.specs.Table.{hart_profile}
use Rattle.differences.specs.declared.Difference.{Difference}

-- the two tables make the same of address x at hart h
abbrev pub Alike : Table → Table → ℕ → ℕ → Type 0
Alike t u h x = available (hart_profile t h) x ≡ available (hart_profile u h) x

-- by hart, and then by address
abbrev pub FirstDifference : Table → Table → Option Difference → Type 0
FirstDifference t u None = (h x : ℕ) → h < 8 → x < 4096 → Alike t u h x
FirstDifference t u (Some d) =
    (d.hart < 8)
    × (d.csr < 4096)
    × (Alike t u d.hart d.csr → ⊥)
    × ((k y : ℕ) → k < d.hart → y < 4096 → Alike t u k y)
    × ((y : ℕ) → y < d.csr → Alike t u d.hart y)
