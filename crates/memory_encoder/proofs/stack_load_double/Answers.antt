-- What it puts together is the word of C.LDSP's form.
use Rattle.utils.proofs.Prelude.{refl}
use Rattle.forms.proofs.Shifts.{put_together}
use Rattle.memory_decoder.specs.Forms.{c_ldsp}
use Rattle.memory_encoder.specs.LoadStore.{operands}
use Rattle.memory_encoder.proofs.stack_load_double.Goals as goal

pub returns : goal.returns
returns c = put_together c_ldsp refl refl (operands c.args.rd 2 0b011 c.args.imm)
