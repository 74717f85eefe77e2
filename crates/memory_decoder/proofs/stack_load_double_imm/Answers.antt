-- What it gathers is the immediate of C.LDSP's form.
use Rattle.utils.proofs.Prelude.{refl}
use Rattle.memory_decoder.specs.Forms.{c_ldsp}
use Rattle.memory_decoder.proofs.Immediates.{unsigned_is}
use Rattle.memory_decoder.proofs.stack_load_double_imm.Goals as goal

pub returns : goal.returns
returns c = unsigned_is c_ldsp refl refl c.args.raw
