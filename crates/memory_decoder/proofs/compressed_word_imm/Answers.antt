-- What it gathers is the immediate of C.LW's form.
use Rattle.utils.proofs.Prelude.{refl}
use Rattle.memory_decoder.specs.Forms.{c_lw}
use Rattle.memory_decoder.proofs.Immediates.{unsigned_is}
use Rattle.memory_decoder.proofs.compressed_word_imm.Goals as goal

pub returns : goal.returns
returns c = unsigned_is c_lw refl refl c.args.raw
