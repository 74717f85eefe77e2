-- What it puts together is the word of the 32-bit load's form.
use Rattle.utils.proofs.Prelude.{refl}
use Rattle.forms.proofs.Shifts.{put_together}
use Rattle.memory_decoder.specs.Forms.{load}
use Rattle.memory_encoder.specs.LoadStore.{operands}
use Rattle.memory_encoder.proofs.load_word.Goals as goal

pub returns : goal.returns
returns c = put_together load refl refl (operands c.args.rd c.args.rs1 c.args.func3 c.args.imm)
