-- Past 64 bits there are no bits.
use Rattle.utils.proofs.Prelude.{sym, ap, ℕ}
use Rattle.utils.proofs.Digits.{fld_past}
use Rattle.registers.proofs.register_at.Goals as goal

pub returns-then-k-ge64 : goal.returns-then-k-ge64
returns-then-k-ge64 c = ap (λ (n : ℕ). record { 0 = n }) (sym (fld_past 64 c.args.raw c.args.k 5 c.ranges.raw.fits c.if-k-ge64.true))
