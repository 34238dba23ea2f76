use Rattle.file_index.proofs.Descent.{sound_here, sound_below, least_below_is}
use Rattle.file_index.specs.Damage.{every_page}
use Rattle.file_index.proofs.Blame.{way_here}
use Rattle.file_index.proofs.Ways.{fault_down, way_down, found_down}
use Rattle.ex_base.proofs.Handed.{cause_of}
use Rattle.ex_base.proofs.Keeping.{keeps_on, keeps_refl}
use Rattle.file_index.proofs.least.+least_below.Goals as goal
use Rattle.std.proofs.lemmas.Result.{IfErr-weaker, IfOk-weaker, on_ok_weaker}

pub returns-clause-least : goal.returns-clause-least
returns-clause-least g t c =
    IfOk-weaker c.least_below.result _ _ (λ answer below. least_below_is g.P.Ground c.args.pages.now c.step_at.new.pages c.args.named.file_no c.args.named.level c.args.named.least c.args.named.page.0 c.args.key c.args.next c.in-Ok.step answer
    c.if-named-eq0.false c.step_at.ensures.kept c.in-Ok.ensures.step below) c.least_below.ensures.least

pub returns-clause-sound : goal.returns-clause-sound
returns-clause-sound g t c =
    IfErr-weaker c.least_below.result _ _ (λ fault never damage. sound_below g.P.Ground c.args.pages.now c.step_at.new.pages c.args.named.file_no c.args.named.level c.args.named.least c.args.named.page.0 c.args.key c.args.next c.in-Ok.step
    c.if-named-eq0.false c.step_at.ensures.kept c.in-Ok.ensures.step (never damage)) c.least_below.ensures.sound

pub returns-in-Err-clause-sound : goal.returns-in-Err-clause-sound
returns-in-Err-clause-sound g t c = λ damage told.
    sound_here g.P.Ground c.args.pages.now c.args.named.file_no c.args.named.level c.args.named.least c.args.named.page.0 c.if-named-eq0.false (c.in-Err.ensures.sound damage told)

pub returns-in-Err-clause-fault : goal.returns-in-Err-clause-fault
returns-in-Err-clause-fault g t c = λ told.
    way_here (g.P.Ground.geometry c.args.pages.now) every_page (g.P.Ground.image c.args.pages.now) c.args.named.file_no c.args.key c.args.named.level c.args.named.least c.args.named.page.0 c.in-Err.fault c.if-named-eq0.false (c.in-Err.ensures.fault told)

pub returns-clause-fault : goal.returns-clause-fault
returns-clause-fault g t c =
    IfErr-weaker c.least_below.result _ _ (λ fault below. fault_down g.P.Ground c.args.pages.now c.step_at.new.pages c.args.named.file_no c.args.named.level c.args.named.least c.args.named.page.0 c.args.key c.args.next c.in-Ok.step
    fault c.if-named-eq0.false c.step_at.ensures.kept c.in-Ok.ensures.step c.in-Ok.ensures.way below) c.least_below.ensures.fault

pub returns-clause-way : goal.returns-clause-way
returns-clause-way g t c =
    on_ok_weaker c.least_below.result (λ below. way_down g.P.Ground c.args.pages.now c.step_at.new.pages c.args.named.file_no c.args.named.level c.args.named.least c.args.named.page.0 c.args.key c.args.next c.in-Ok.step
    c.if-named-eq0.false c.step_at.ensures.kept c.in-Ok.ensures.step c.in-Ok.ensures.way below) c.least_below.ensures.way

pub returns-clause-found : goal.returns-clause-found
returns-clause-found g t c =
    IfOk-weaker c.least_below.result _ _ (λ answer below. found_down g.P.Ground c.args.pages.now c.step_at.new.pages c.args.named.file_no c.args.named.level c.args.named.least c.args.named.page.0 c.args.key c.args.next c.in-Ok.step
    answer c.if-named-eq0.false c.step_at.ensures.kept c.in-Ok.ensures.step below) c.least_below.ensures.found

pub returns-clause-kept : goal.returns-clause-kept
returns-clause-kept g t c = keeps_on g.P.Ground _ _ _ c.step_at.ensures.kept c.least_below.ensures.kept

pub returns-clause-cause : goal.returns-clause-cause
returns-clause-cause g t c = cause_of g.P.Ground _ _ c.step_at.ensures.kept.leads c.least_below.new.pages c.least_below.result c.least_below.ensures.cause

pub returns-in-Err-clause-least : goal.returns-in-Err-clause-least
returns-in-Err-clause-least g t c = tt

pub returns-in-Err-clause-above : goal.returns-in-Err-clause-above
returns-in-Err-clause-above g t c = tt

pub returns-in-Err-clause-way : goal.returns-in-Err-clause-way
returns-in-Err-clause-way g t c = tt

pub returns-in-Err-clause-found : goal.returns-in-Err-clause-found
returns-in-Err-clause-found g t c = tt

pub returns-else-named-key-clause-sound : goal.returns-else-named-key-clause-sound
returns-else-named-key-clause-sound g t c = tt

pub returns-else-named-key-clause-fault : goal.returns-else-named-key-clause-fault
returns-else-named-key-clause-fault g t c = tt

pub returns-else-named-key-clause-cause : goal.returns-else-named-key-clause-cause
returns-else-named-key-clause-cause g t c = tt

pub returns-else-named-key-clause-kept : goal.returns-else-named-key-clause-kept
returns-else-named-key-clause-kept g t c = keeps_refl g.P.Ground _

pub returns-then-named-key-clause-sound : goal.returns-then-named-key-clause-sound
returns-then-named-key-clause-sound g t c = tt

pub returns-then-named-key-clause-fault : goal.returns-then-named-key-clause-fault
returns-then-named-key-clause-fault g t c = tt

pub returns-then-named-key-clause-cause : goal.returns-then-named-key-clause-cause
returns-then-named-key-clause-cause g t c = tt

pub returns-then-named-key-clause-kept : goal.returns-then-named-key-clause-kept
returns-then-named-key-clause-kept g t c = keeps_refl g.P.Ground _

pub returns-in-Err-clause-cause : goal.returns-in-Err-clause-cause
returns-in-Err-clause-cause g t c = c.in-Err.ensures.cause

pub returns-in-Err-clause-kept : goal.returns-in-Err-clause-kept
returns-in-Err-clause-kept g t c = c.step_at.ensures.kept

pub returns-clause-above : goal.returns-clause-above
returns-clause-above g t c = c.least_below.ensures.above

pub step_at-requires : goal.step_at-requires
step_at-requires g t c = c.requires.ready
