-- What it puts together is the word of C.SWSP's form.
use Rattle.utils.proofs.Prelude.{refl}
use Rattle.forms.proofs.Shifts.{put_together}
use Rattle.memory_decoder.specs.Forms.{c_swsp}
use Rattle.memory_encoder.specs.LoadStore.{operands}
use Rattle.memory_encoder.proofs.stack_store_word.Goals as goal

pub returns : goal.returns
returns c = put_together c_swsp refl refl (operands c.args.rs2 2 0b10 c.args.imm)
