-- The fences, and what is left, by the step that the tests allow.
use Rattle.utils.proofs.Prelude.{◌∙◌, arith}
use Rattle.system_decoder.specs.declared.Fence.TheVariants.{Vma, Vvma, Gvma}
use Rattle.system_decoder.proofs.SystemSteps.{fenced, other}
use Rattle.system_decoder.proofs.shape_at.Goals as goal

pub returns-in-301989888-clause-result_value : goal.returns-in-301989888-clause-result_value
returns-in-301989888-clause-result_value c =
    fenced c.args.raw c.ranges.raw.fits c.if-raw-ne-ILLEGAL_OPCODE_MASK.false Vma c.in-301989888.is c.fence_at.ensures

pub returns-in-570425344-clause-result_value : goal.returns-in-570425344-clause-result_value
returns-in-570425344-clause-result_value c =
    fenced c.args.raw c.ranges.raw.fits c.if-raw-ne-ILLEGAL_OPCODE_MASK.false Vvma c.in-570425344.is c.fence_at-in-570425344.ensures

pub returns-in-1644167168-clause-result_value : goal.returns-in-1644167168-clause-result_value
returns-in-1644167168-clause-result_value c =
    fenced c.args.raw c.ranges.raw.fits c.if-raw-ne-ILLEGAL_OPCODE_MASK.false Gvma c.in-1644167168.is c.fence_at-in-1644167168.ensures

pub returns-clause-result_value : goal.returns-clause-result_value
returns-clause-result_value c =
    c.access_at.ensures.result_value
    ∙ other c.args.raw c.ranges.raw.fits (omega arith) (omega arith) (omega arith) (omega arith) (omega arith) (omega arith)
