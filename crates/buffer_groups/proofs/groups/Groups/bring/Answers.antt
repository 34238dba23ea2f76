use Rattle.buffer_groups.proofs.GroupLists.{frame_there, groups_keep, group_brought, group_not_brought}
use Rattle.buffer_groups.proofs.groups.Groups.bring.Goals as goal

pub returns-clause-ok : goal.returns-clause-ok
returns-clause-ok g c = group_brought c.bring.result (g.D.World.outside c.args.disk.now).disk c.args.self.now c.args.index c.args.page.0 c.at.result.now c.bring.new.self c.at.ensures.value c.requires.index c.bring.ensures.ok

pub returns-clause-err : goal.returns-clause-err
returns-clause-err g c = group_not_brought c.bring.result c.args.self.now c.args.index c.args.page.0 c.at.result.now c.bring.new.self c.at.ensures.value c.bring.ensures.err

pub returns-clause-keeps : goal.returns-clause-keeps
returns-clause-keeps g c = groups_keep (g.D.World.outside c.args.disk.now).disk c.args.self.now c.args.index c.at.result.now c.bring.new.self c.at.ensures.value c.requires.index c.bring.ensures.keeps

pub returns-clause-no_memory : goal.returns-clause-no_memory
returns-clause-no_memory g c = λ has. c.bring.ensures.no_memory (frame_there c.args.self.now c.args.index c.args.page.0 c.at.result.now c.at.ensures.value has)

pub returns-clause-hit : goal.returns-clause-hit
returns-clause-hit g c = λ has. c.bring.ensures.hit (frame_there c.args.self.now c.args.index c.args.page.0 c.at.result.now c.at.ensures.value has)
