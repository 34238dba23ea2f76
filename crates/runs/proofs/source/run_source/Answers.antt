use Rattle.std.proofs.Common.{inl, inr, refl}
use Rattle.disk_model.specs.Runs.{no_calls, reads_refl}
use Rattle.std.proofs.lemmas.Result.{err_from_is_err_and}
use Rattle.std.specs.Result.{result_err}
use Rattle.runs.proofs.Sourced.{reads_source, run_of_source, unbegun}
use Rattle.runs.proofs.source.run_source.Goals as goal

pub returns-in_err-talk-clause-run : goal.returns-in_err-talk-clause-run
returns-in_err-talk-clause-run g c =
    let p = err_from_is_err_and c.from_residual.result c.from_residual.ensures.1 in
    rw (p.1, p.2) (unbegun (g.H.World.outside c.args.host.now) (g.H.World.is_world c.args.host.now))

pub returns-clause-run : goal.returns-clause-run
returns-clause-run g c =
    let first = c.in_ok-talk.talk in
    run_of_source (result_err c.run_talk.result) first c.run_talk.new.talk c.in_ok-talk.ensures.begins c.run_talk.ensures.headline c.run_talk.ensures.on
    (reads_source g.T.Talk.talking c.run_talk.result c.run_talk.ensures.over c.run_talk.ensures.broken c.in_ok-talk.ensures.over c.in_ok-talk.ensures.broken)

pub returns-in_err-talk-clause-opened : goal.returns-in_err-talk-clause-opened
returns-in_err-talk-clause-opened g c =
    let p = err_from_is_err_and c.from_residual.result c.from_residual.ensures.1 in
    let w = g.H.World.outside c.args.host.now in
    rw (p.1, p.2) (inr (refl, record { reads = reads_refl w; idle = no_calls w }))

pub returns-clause-opened : goal.returns-clause-opened
returns-clause-opened g c = inl c.run_talk.ensures.opened
