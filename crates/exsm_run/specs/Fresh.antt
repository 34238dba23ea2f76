-- A session that was just opened.
use Rattle.std.specs.Prelude.{◌≡◌, []}
use Rattle.session_views.specs.View.{View}
use Rattle.session_core.specs.Sessions.{SessionState, held}
use Rattle.volume_model.specs.FreshView.{KnowsUnits}
use Rattle.volume_model.specs.Parts.{Decodes}
use Rattle.volume_model.specs.Volume.{Decoded}

-- No record of the log counts. In use are exactly the units that the volume on the disk reaches, and the logged pages that the session knows are exactly
-- those of that volume.
pub record IsFresh (v : View SessionState) : Type 0 where
  pub decoded : Decoded
  pub parts : Decodes v.disk decoded
  pub none : decoded.records ≡ []
  pub count : v.session.log.count ≡ 0
  pub knows : KnowsUnits decoded v.disk (held v.session).used (held v.session).held
