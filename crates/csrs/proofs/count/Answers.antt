-- The sum by gates is the size of the set.
use Rattle.utils.proofs.Prelude.{◌^◌, ◌<◌, arith, rules}
use Rattle.csrs.proofs.Size.{count_is}
use Rattle.csrs.proofs.count.Goals as goal

pub returns : goal.returns
returns c =
    let h : c.args.ctx.custom < 2 ^ 64 = search rules in
    omega (arith, count_is c.args.ctx h)
