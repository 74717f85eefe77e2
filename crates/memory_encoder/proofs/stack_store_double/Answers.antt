-- What it puts together is the word of C.SDSP's form.
use Rattle.utils.proofs.Prelude.{refl}
use Rattle.forms.proofs.Shifts.{put_together}
use Rattle.memory_decoder.specs.Forms.{c_sdsp}
use Rattle.memory_encoder.specs.LoadStore.{operands}
use Rattle.memory_encoder.proofs.stack_store_double.Goals as goal

pub returns : goal.returns
returns c = put_together c_sdsp refl refl (operands c.args.rs2 2 0b11 c.args.imm)
