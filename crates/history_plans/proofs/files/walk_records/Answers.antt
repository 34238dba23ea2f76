use Rattle.history_plans.proofs.Roots.{records_done, records_more, trees_at, records_start}
use Rattle.history_plans.proofs.Walking.{shows_on}
use Rattle.ex_base.proofs.Handed.{cause_after}
use Rattle.ex_base.proofs.Keeping.{keeps_on}
use Rattle.history_plans.proofs.files.walk_records.Goals as goal

pub returns-in-Err-clause-sound : goal.returns-in-Err-clause-sound
returns-in-Err-clause-sound g c = λ damage told units shows trees.
    let b = g.V.Ground in
    let k = c.loop-listed.invariant.kept in
    c.in-Err.ensures.sound damage (b.leads_told c.args.volume.now c.loop-listed.volume k.leads told) units (shows_on b units c.args.volume.now c.loop-listed.volume k shows)
    (trees_at b c.args.volume.now c.loop-listed.volume units c.args.records.now c.loop-listed.listed-index _ c.loop-listed-test.true k trees)

pub loop-listed-preserved : goal.loop-listed-preserved
loop-listed-preserved g c =
    records_more g.V.Ground c.args.volume.now c.loop-listed.volume c.walk_record.new.volume c.args.records.now c.loop-listed.listed-index _ c.args.pieces.now c.loop-listed.pieces c.walk_record.new.pieces c.loop-listed-test.true c.loop-listed.invariant
    c.in-Ok.ensures.kept (λ told units shows closed named. c.in-Ok.ensures.walked told units shows closed named)

pub returns-clause-walked : goal.returns-clause-walked
returns-clause-walked g c = λ told units shows closed named.
    records_done g.V.Ground c.args.volume.now c.loop-listed.volume c.args.records.now c.loop-listed.listed-index c.args.pieces.now c.loop-listed.pieces c.loop-listed-test.false c.loop-listed.invariant told units shows closed named

pub loop-listed-init : goal.loop-listed-init
loop-listed-init g c = records_start g.V.Ground c.args.volume.now c.args.records.now c.args.pieces.now

pub walk_record-requires : goal.walk_record-requires
walk_record-requires g c = g.V.Ground.leads_ready c.args.volume.now c.loop-listed.volume c.loop-listed.invariant.kept.leads c.requires

pub returns-in-Err-clause-walked : goal.returns-in-Err-clause-walked
returns-in-Err-clause-walked g c = tt

pub returns-in-Err-clause-kept : goal.returns-in-Err-clause-kept
returns-in-Err-clause-kept g c = keeps_on g.V.Ground c.args.volume.now c.loop-listed.volume c.walk_record.new.volume c.loop-listed.invariant.kept c.in-Err.ensures.kept

pub returns-in-Err-clause-cause : goal.returns-in-Err-clause-cause
returns-in-Err-clause-cause g c = cause_after g.V.Ground c.args.volume.now c.loop-listed.volume c.loop-listed.invariant.kept.leads c.walk_record.new.volume c.in-Err.fault c.in-Err.ensures.cause

pub returns-clause-sound : goal.returns-clause-sound
returns-clause-sound g c = tt

pub returns-clause-kept : goal.returns-clause-kept
returns-clause-kept g c = c.loop-listed.invariant.kept

pub returns-clause-cause : goal.returns-clause-cause
returns-clause-cause g c = tt
