use Rattle.std.proofs.Common.{rules}
use Rattle.volume_calls.proofs.Calling.{made_lent, made_shows}
use Rattle.volume_calls.proofs.volume.LentVolume.made.Goals as goal

pub returns-clause-lent : goal.returns-clause-lent
returns-clause-lent g c image lent =
    let made = made_lent g.E.Engine.fits c.args.self.now image lent _ _ _ c.after-self.ensures (search rules) c.clear.ensures.items in
    record { lent = made.0; room = made.1; size = lent.size }

pub returns-clause-shows : goal.returns-clause-shows
returns-clause-shows g c view shows =
    made_shows g.E.Engine.meaning c.args.self.now view _ _ _ c.after-self.ensures (search rules) c.clear.ensures.items shows
