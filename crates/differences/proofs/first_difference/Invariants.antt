-- What the loops have passed is alike.
use Rattle.utils.proofs.Prelude.{◌≡◌, ℕ, ◌<◌, get_or}
use Rattle.std.proofs.Common.{None}
use Rattle.profiles.specs.Profile.{empty_profile}
use Rattle.csrs.specs.Gates.{available}
use Rattle.differences.proofs.first_difference.Given as goal

abbrev pub invariant-loop-csr : goal.invariant-loop-csr
invariant-loop-csr l = (l.found ≡ None) × ((y : ℕ) → y < l.csr → available l.p y ≡ available l.q y)

abbrev pub invariant-search : goal.invariant-search
invariant-search l =
    (l.found ≡ None)
    × ((k : ℕ) → k < l.hart → (y : ℕ) → y < 4096 → available (get_or l.a.profiles k empty_profile) y ≡ available (get_or l.b.profiles k empty_profile) y)
