-- What makes the trees of a view readable.
use Rattle.std.specs.List.{AllByRecursion, AllZip}
use Rattle.session_views.specs.View.{View}
use Rattle.volume_model.specs.Held.{Held}
use Rattle.volume_model.specs.Homes.{home}
use Rattle.volume_model.specs.Parts.{Decodes}
use Rattle.volume_model.specs.Shown.{IsWorkingPage, OverlayShown, ScanShown, WorkingShown}
use Rattle.volume_model.specs.Volume.{Decoded, Volume}

-- The disk decodes as the committed volume, the working pages as the working one, and each open scan shows its bytes. Only pages of files and the catalog
-- have an image, in the log and in the transaction.
pub record TreesShown (d : Decoded) (v : View Held) (working : Volume) : Type 0 where
  pub parts : Decodes v.disk d
  pub working_shown : WorkingShown d v working v.machine.working
  pub scans : AllZip (ScanShown d.geometry (home d.geometry v.disk)) v.machine.scans v.session.scans
  pub overlay : OverlayShown d v
  pub images : AllByRecursion (IsWorkingPage working) v.session.working_pages
