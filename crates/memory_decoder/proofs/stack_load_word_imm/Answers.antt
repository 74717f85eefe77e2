-- What it gathers is the immediate of C.LWSP's form.
use Rattle.utils.proofs.Prelude.{refl}
use Rattle.memory_decoder.specs.Forms.{c_lwsp}
use Rattle.memory_decoder.proofs.Immediates.{unsigned_is}
use Rattle.memory_decoder.proofs.stack_load_word_imm.Goals as goal

pub returns : goal.returns
returns c = unsigned_is c_lwsp refl refl c.args.raw
