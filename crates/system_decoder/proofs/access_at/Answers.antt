-- The code has an operation, or none.
use Rattle.utils.proofs.Prelude.{sym, ap, ◌∙◌}
use Rattle.system_decoder.specs.System.{op_from}
use Rattle.system_decoder.proofs.SystemSteps.{no_op, accessed}
use Rattle.system_decoder.proofs.access_at.Goals as goal

pub returns-then-csr_op-eq0-clause-result_value : goal.returns-then-csr_op-eq0-clause-result_value
returns-then-csr_op-eq0-clause-result_value c = no_op c.args.raw c.requires (ap op_from c.if-csr_op-eq0.true)

pub returns-clause-result_value : goal.returns-clause-result_value
returns-clause-result_value c = accessed c.args.raw c.requires c.in-Ok.op (sym c.try_from.ensures ∙ c.in-Ok.is)
