use Rattle.std.proofs.Common.{◌∙◌, rules}
use Rattle.volume_calls.proofs.Lending.{lent_after}
use Rattle.exsm_c.proofs.Summing.{sums_lent}
use Rattle.exsm_c.proofs.making.sum.Goals as goal

pub returns-clause-lent : goal.returns-clause-lent
returns-clause-lent c = lent_after c.sum_kept.new.host c.args.file.now.bytes _ _ (c.sum_kept.ensures.file ∙ c.over-host.ensures.file) (search rules) (search rules)

pub returns-clause-sums : goal.returns-clause-sums
returns-clause-sums c =
    sums_lent c.over-host.result c.sum_kept.new.host c.args.file.now.bytes c.args.asked.now.items _ c.over-host.ensures.file c.over-host.ensures.asked_now (c.sum_kept.ensures.file ∙ c.over-host.ensures.file) (search rules)
    c.sum_kept.result c.sum_kept.ensures.sums
