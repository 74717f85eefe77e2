-- What it puts together is the word of C.LD's format.
use Rattle.utils.proofs.Prelude.{refl, lt-ltb}
use Rattle.forms.specs.Layout.{rd}
use Rattle.forms.proofs.Shifts.{put_together}
use Rattle.memory_decoder.specs.Forms.{c_double}
use Rattle.memory_encoder.specs.LoadStore.{operands}
use Rattle.memory_encoder.proofs.compressed_double.Goals as goal

pub returns : goal.returns
returns c =
    let f = c.args.func3 in
    put_together (c_double f rd) (simp (lt-ltb f 8 c.requires)) refl (operands c.args.reg c.args.base f c.args.imm)
