use Rattle.restart.proofs.PortShows.{fresh_tells, shows_after_log}
use Rattle.restart.proofs.walking.walk_volume.Goals as goal
use Rattle.std.proofs.lemmas.Result.{IfOk-weaker}

pub returns-clause-holds : goal.returns-clause-holds
returns-clause-holds g c =
    IfOk-weaker c.read_content.result _ _
    (λ r reached image records holds just. reached (fresh_tells c.args.geometry.now (g.D.World.outside c.args.disk.now) c.in-Ok.groups image c.in-Ok.ensures holds) _
    (shows_after_log c.args.geometry.now c.args.meta.now _ image records holds just))
    c.read_content.ensures.holds

pub returns-clause-bad : goal.returns-clause-bad
returns-clause-bad g c part image records is holds just =
    c.read_content.ensures.bad part is (fresh_tells c.args.geometry.now (g.D.World.outside c.args.disk.now) c.in-Ok.groups image c.in-Ok.ensures holds) _
    (shows_after_log c.args.geometry.now c.args.meta.now _ image records holds just)
