use Rattle.std.proofs.Common.{append_assoc}
use Rattle.std.proofs.lemmas.Result.{IfOk-at_ok}
use Rattle.ex_base.proofs.Results.{if_ok_from}
use Rattle.exsm_run.specs.Check.{counts_line}
use Rattle.exsm_run.proofs.check.line_of.Goals as goal

pub returns : goal.returns
unfolding counts_line
returns c = if_ok_from c.format.result _ (λ line is. let h = IfOk-at_ok _ is c.format.ensures.ok in simp append_assoc at h)
