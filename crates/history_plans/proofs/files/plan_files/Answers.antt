use Rattle.std.proofs.Common.{arith, get_or}
use Rattle.history_plans.proofs.Roots.{file_at, file_trees, files_done, files_more, no_file, pages_done, pages_within, files_start}
use Rattle.history_plans.proofs.Walking.{shows_on}
use Rattle.ex_base.proofs.Handed.{cause_after}
use Rattle.ex_base.proofs.Keeping.{keeps_on}
use Rattle.history_plans.proofs.files.plan_files.Goals as goal

pub returns-in-Err-clause-sound : goal.returns-in-Err-clause-sound
returns-in-Err-clause-sound g c = λ damage told units shows files have trees fit.
    let b = g.V.Ground in
    let k = c.loop-number.invariant.kept in
    c.in-Err.ensures.sound damage (b.leads_told c.args.volume.now c.loop-number.volume k.leads told) units (shows_on b units c.args.volume.now c.loop-number.volume k shows) (get_or files c.loop-number.number-index (no_file b))
    (file_at b c.args.volume.now c.loop-number.volume c.args.numbers.now files c.loop-number.number-index 0 c.loop-number-test.true k have)
    (file_trees b c.args.volume.now c.loop-number.volume units c.args.numbers.now files c.loop-number.number-index c.loop-number-test.true k have trees)

pub returns-in-Err-pages_more-clause-sound : goal.returns-in-Err-pages_more-clause-sound
returns-in-Err-pages_more-clause-sound g c = λ damage told units shows files have trees fit.
    let b = g.V.Ground in
    let k = c.loop-number.invariant.kept in
    let told_now = b.leads_told c.args.volume.now c.loop-number.volume k.leads told in
    let here = c.in-Ok.ensures.pages told_now (get_or files c.loop-number.number-index (no_file b)) (file_at b c.args.volume.now c.loop-number.volume c.args.numbers.now files c.loop-number.number-index 0 c.loop-number-test.true k have) in
    let within = pages_within b c.args.volume.now c.loop-number.volume c.args.numbers.now files c.loop-number.number-index c.args.pieces.now c.loop-number.pieces c.loop-number.pages c.in-Ok.more c.loop-number-test.true c.loop-number.invariant told have here in
    c.in-Err-pages_more.ensures.sound (omega (arith, within, fit))

pub returns-in-Err-pages_more-clause-cause : goal.returns-in-Err-pages_more-clause-cause
returns-in-Err-pages_more-clause-cause g c = c.in-Err-pages_more.ensures.cause _ _

pub loop-number-preserved : goal.loop-number-preserved
loop-number-preserved g c =
    files_more g.V.Ground c.args.volume.now c.loop-number.volume c.plan_file.new.volume c.args.numbers.now c.loop-number.number-index 0 c.args.pieces.now c.loop-number.pieces c.plan_file.new.pieces c.loop-number.pages c.in-Ok.more _
    c.loop-number-test.true c.loop-number.invariant c.in-Ok.ensures.kept (λ told units shows closed file has named. c.in-Ok.ensures.walked told units shows closed file has named) (λ told file has. c.in-Ok.ensures.pages told file has) c.in-Ok-pages_more.ensures.sum

pub returns-clause-walked : goal.returns-clause-walked
returns-clause-walked g c = λ told units shows closed files have named.
    files_done g.V.Ground c.args.volume.now c.loop-number.volume c.args.numbers.now c.loop-number.number-index c.args.pieces.now c.loop-number.pieces c.loop-number.pages c.loop-number-test.false c.loop-number.invariant told units shows closed files have named

pub returns-clause-pages : goal.returns-clause-pages
returns-clause-pages g c = λ told files have.
    pages_done g.V.Ground c.args.volume.now c.loop-number.volume c.args.numbers.now c.loop-number.number-index c.args.pieces.now c.loop-number.pieces c.loop-number.pages c.loop-number-test.false c.loop-number.invariant told files have

pub loop-number-init : goal.loop-number-init
loop-number-init g c = files_start g.V.Ground c.args.volume.now c.args.numbers.now c.args.pieces.now

pub plan_file-requires : goal.plan_file-requires
plan_file-requires g c = g.V.Ground.leads_ready c.args.volume.now c.loop-number.volume c.loop-number.invariant.kept.leads c.requires

pub returns-in-Err-clause-walked : goal.returns-in-Err-clause-walked
returns-in-Err-clause-walked g c = tt

pub returns-in-Err-clause-pages : goal.returns-in-Err-clause-pages
returns-in-Err-clause-pages g c = tt

pub returns-in-Err-clause-kept : goal.returns-in-Err-clause-kept
returns-in-Err-clause-kept g c = keeps_on g.V.Ground c.args.volume.now c.loop-number.volume c.plan_file.new.volume c.loop-number.invariant.kept c.in-Err.ensures.kept

pub returns-in-Err-clause-cause : goal.returns-in-Err-clause-cause
returns-in-Err-clause-cause g c = cause_after g.V.Ground c.args.volume.now c.loop-number.volume c.loop-number.invariant.kept.leads c.plan_file.new.volume c.in-Err.fault c.in-Err.ensures.cause

pub returns-in-Err-pages_more-clause-walked : goal.returns-in-Err-pages_more-clause-walked
returns-in-Err-pages_more-clause-walked g c = tt

pub returns-in-Err-pages_more-clause-pages : goal.returns-in-Err-pages_more-clause-pages
returns-in-Err-pages_more-clause-pages g c = tt

pub returns-in-Err-pages_more-clause-kept : goal.returns-in-Err-pages_more-clause-kept
returns-in-Err-pages_more-clause-kept g c = keeps_on g.V.Ground c.args.volume.now c.loop-number.volume c.plan_file.new.volume c.loop-number.invariant.kept c.in-Ok.ensures.kept

pub returns-clause-sound : goal.returns-clause-sound
returns-clause-sound g c = tt

pub returns-clause-kept : goal.returns-clause-kept
returns-clause-kept g c = c.loop-number.invariant.kept

pub returns-clause-cause : goal.returns-clause-cause
returns-clause-cause g c = tt
