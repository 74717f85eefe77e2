-- The answer for two tables is one alone; and what its functions know of it. Assumes nothing.
use Rattle.utils.proofs.Prelude.{◌≡◌, sym, ap, ◌∙◌, subst, Bool, true, false, ◌&&◌, List, ℕ, eqb, length, eq-eqb}
use Rattle.std.proofs.Common.{Option}
use Rattle.differences.specs.declared.Difference.{Difference}
use Rattle.harts.specs.declared.Table.{Table}
use Rattle.harts.specs.Table.{table_of}
use Rattle.differences.specs.Difference.{FirstDifference}
use Rattle.differences.proofs.Once.{first_once}
use Rattle.matnosoru_csrs.specs.Csrs.{place, Compared, TablesDiffer}

-- the contract determines the answer
pub compared_once : (b : Bool) (s t : List ℕ) (r q : ℕ) → Compared b s t r → Compared b s t q → r ≡ q
compared_once true s t r q f g = f.1.1 ∙ ap place (first_once (table_of s) (table_of t) f.0 g.0 f.1.0 g.1.0) ∙ sym g.1.1
compared_once false s t r q f g = f ∙ sym g

pub differ_once : (s t : List ℕ) (r q : ℕ) → TablesDiffer s t r → TablesDiffer s t q → r ≡ q
differ_once s t = compared_once (eqb (length s) 80 && eqb (length t) 80) s t

-- and it is the place of what the search finds in two tables of 80 bytes
pub both_long : (s t : List ℕ) (r : ℕ) → length s ≡ 80 → length t ≡ 80 → {a b : Table} (d : Option Difference) → a ≡ table_of s → b ≡ table_of t
    → FirstDifference a b d → r ≡ place d → TablesDiffer s t r
both_long s t r e f {a} {b} d p q h k =
    rw (eq-eqb (length s) 80 e, eq-eqb (length t) 80 f)
    (d, (subst (λ (x : Table). FirstDifference x (table_of t) d) p (subst (λ (x : Table). FirstDifference a x d) q h), k))
