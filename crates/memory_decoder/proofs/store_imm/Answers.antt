-- What it gathers is the immediate of the store's form.
use Rattle.utils.proofs.Prelude.{◌∙◌}
use Rattle.utils.proofs.Signed.{kept}
use Rattle.memory_decoder.proofs.Immediates.{store_imm}
use Rattle.memory_decoder.proofs.store_imm.Goals as goal

pub returns : goal.returns
returns c = kept (record { sfits = c.bits_to_int.type_inv }) (c.bits_to_int.ensures ∙ store_imm c.args.raw)
