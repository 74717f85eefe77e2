-- What it puts together is the word of the 32-bit store's form.
use Rattle.utils.proofs.Prelude.{refl}
use Rattle.forms.proofs.Shifts.{put_together}
use Rattle.memory_decoder.specs.Forms.{store}
use Rattle.memory_encoder.specs.LoadStore.{operands}
use Rattle.memory_encoder.proofs.store_word.Goals as goal

pub returns : goal.returns
returns c = put_together store refl refl (operands c.args.rs2 c.args.rs1 c.args.func3 c.args.imm)
