use Rattle.volume_edits.proofs.Owning.{owned_made}
use Rattle.volume_edits.proofs.owners_after_an_update.Goals as goal

pub returns : goal.returns
returns g c old new v now gone come turned names logged roots is same kept stays held in_use catalog filed owner few after counts =
    owned_made g.P.Ground old new v now gone come turned names logged roots is same kept stays held in_use catalog filed owner few after counts
