use Rattle.std.proofs.Common.{◌∙◌, rules}
use Rattle.volume_calls.proofs.Lending.{lent_after, opens_lent}
use Rattle.volume_calls.proofs.lent.open_lent.Goals as goal

pub returns-clause-lent : goal.returns-clause-lent
returns-clause-lent g c = lent_after c.open_kept.new.host c.args.file.now.bytes _ _ (c.open_kept.ensures.file ∙ c.over-host.ensures.file) (search rules) (search rules)

pub returns-clause-opens : goal.returns-clause-opens
returns-clause-opens g c =
    opens_lent g.E.Engine.meaning c.over-host.result c.open_kept.new.host c.args.file.now.bytes c.args.asked.now.items _ c.over-host.ensures.file c.over-host.ensures.asked_now (c.open_kept.ensures.file ∙ c.over-host.ensures.file) (search rules)
    c.open_kept.result c.open_kept.ensures.opens
