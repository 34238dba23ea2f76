use Rattle.std.proofs.Common.{arith}
use Rattle.ex_base.proofs.Results.{cause_handed}
use Rattle.version_tree.proofs.lineage.list_next.Goals as goal

pub returns-in_err-rests-clause-cause : goal.returns-in_err-rests-clause-cause
returns-in_err-rests-clause-cause c = λ before now.
    cause_handed before before now c.from_residual.result c.in_err-rests.field-0.0 c.from_residual.ensures.1 (omega arith) (c.in_err-rests.ensures.cause before now)
