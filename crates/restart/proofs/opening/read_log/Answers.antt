use Rattle.std.proofs.Common.{Err, ◌∙◌, ap}
use Rattle.ex_base.specs.Area.{log_at}
use Rattle.op_log.proofs.OneList.{bad_no_list}
use Rattle.session_views.specs.declared.Part.TheVariants.{Log}
use Rattle.restart.proofs.BadParts.{log_bad}
use Rattle.restart.proofs.Superblocks.{part_is_bad}
use Rattle.restart.proofs.opening.read_log.Goals as goal

pub returns-in-Err-Bad-clause-bad : goal.returns-in-Err-Bad-clause-bad
returns-in-Err-Bad-clause-bad g c part is image holds super =
    let h = c.args.geometry.now in
    let at = c.in-Err-Bad.field-0-0 in
    part_is_bad _ Log part image is
    (log_bad image h super (λ records says. bad_no_list h (log_at h image) at records (c.scan_log.ensures.bad at (c.in-Err-Bad.is ∙ ap Err c.in-Err-Bad.field-0-is) image holds) says))
