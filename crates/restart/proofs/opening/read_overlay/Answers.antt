use Rattle.session_views.specs.declared.Part.TheVariants.{Log}
use Rattle.restart.proofs.BadParts.{log_refused}
use Rattle.restart.proofs.Superblocks.{part_is_bad}
use Rattle.restart.proofs.opening.read_overlay.Goals as goal

pub returns-in-Ok-None-clause-bad : goal.returns-in-Ok-None-clause-bad
returns-in-Ok-None-clause-bad c part is image super says = part_is_bad _ Log part image is (log_refused image c.args.geometry.now c.args.records.now super says (rw c.in-Ok-None.field-0-is at c.in-Ok-None.ensures.refused))
