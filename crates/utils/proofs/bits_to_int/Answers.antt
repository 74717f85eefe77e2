-- 64 bits have no field past them.
use Rattle.utils.proofs.Prelude.{sym, ap}
use Rattle.utils.specs.Signed.{signed}
use Rattle.utils.proofs.Digits.{fld_past}
use Rattle.utils.proofs.bits_to_int.Goals as goal

pub returns-then-start_bit-ge64 : goal.returns-then-start_bit-ge64
returns-then-start_bit-ge64 c = sym (ap (signed 2048) (fld_past 64 c.args.raw c.args.start_bit 12 c.ranges.raw.fits c.if-start_bit-ge64.true))
