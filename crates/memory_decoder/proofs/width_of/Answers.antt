-- Each arm knows funct3's low two bits.
use Rattle.utils.proofs.Prelude.{◌≡◌, arith, and_mask, bit_and}
use Rattle.memory_decoder.proofs.width_of.Goals as goal

pub returns-in_default : goal.returns-in_default
returns-in_default c =
    let f = c.args.func3 in
    let last : bit_and f 3 ≡ 3 = omega (arith, and_mask f 2) in
    rw (← and_mask f 2, last)
