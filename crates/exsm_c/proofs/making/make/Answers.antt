use Rattle.std.proofs.Common.{◌∙◌, rules}
use Rattle.volume_calls.proofs.Lending.{lent_after}
use Rattle.exsm_c.proofs.making.make.Goals as goal

pub returns : goal.returns
returns c = lent_after c.make_kept.new.host c.args.file.now.bytes _ _ (c.make_kept.ensures.file ∙ c.over-host.ensures.file) (search rules) (search rules)
