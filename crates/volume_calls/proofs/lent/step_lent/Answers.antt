use Rattle.std.proofs.Common.{◌∙◌, rules}
use Rattle.volume_calls.proofs.Lending.{lent_after, steps_lent}
use Rattle.volume_calls.proofs.lent.step_lent.Goals as goal

pub returns-clause-lent : goal.returns-clause-lent
returns-clause-lent g c = lent_after c.step_kept.new.host c.args.file.now.bytes _ _ (c.step_kept.ensures.file ∙ c.over-host.ensures.file) (search rules) (search rules)

pub returns-clause-steps : goal.returns-clause-steps
returns-clause-steps g c =
    steps_lent g.E.Engine.meaning c.over-host.result c.step_kept.new.host c.args.file.now.bytes c.args.asked.now.items _ c.over-host.ensures.file c.over-host.ensures.asked_now (c.step_kept.ensures.file ∙ c.over-host.ensures.file) (search rules)
    c.step_kept.result c.step_kept.ensures.steps
