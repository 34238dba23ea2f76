use Rattle.std.proofs.Common.{◌∙◌, Err, None, inl, inr, sym, ap, subst, Some}
use Rattle.std.specs.Result.{result_err}
use Rattle.std.proofs.lemmas.Result.{err_from_is_err_and, IfOk-at_ok, IfErr-at_err, IfErr-weaker}
use Rattle.disk_model.specs.Runs.{goes_trans}
use Rattle.talks.specs.Headline.{TalkHeadline}
use Rattle.talks.specs.Stops.{CausedBy, IsLinesStop, IsSessionStop}
use Rattle.engines.specs.Keeping.{conduct}
use Rattle.talks.specs.Passage.{ByDamagedStep}
use Rattle.talks.specs.Talking.{Left}
use Rattle.talks.specs.Transcript.{StoppedAbort}
use Rattle.talks.proofs.Going.{cut_ending}
use Rattle.talks.proofs.Stopping.{by_ending, caused_later, damaged_since, err_same, if_err_from, opening_stop, session_lines, session_part}
use Rattle.talks.proofs.Whole.{leaves_table, run_opened, run_unopened, unopened, opens_of, stepped_whole, stepped_cut, opens_first, opens_none}
use Rattle.talks.proofs.run.run_talk.Goals as goal

-- ---- the volume wasn't opened

pub returns-in_err-session-clause-headline : goal.returns-in_err-session-clause-headline
returns-in_err-session-clause-headline g c table was starts =
    let p = err_from_is_err_and c.from_residual.result c.from_residual.ensures.1 in
    rw (p.1, p.2) (inr (unopened (g.H.World.is_world c.args.host.now) starts c.open.ensures.only (leaves_table starts (c.open.ensures.any_moment starts.on.image starts.on.honest starts.on.holds))
    _ (opening_stop c.in_err-session.field-0.0)))

pub returns-in_err-session-clause-on : goal.returns-in_err-session-clause-on
returns-in_err-session-clause-on g c =
    let p = err_from_is_err_and c.from_residual.result c.from_residual.ensures.1 in
    rw (p.1, p.2) (run_unopened c.in_err-session.field-0.0 (λ is. c.in_err-session.ensures.disk (ap (λ f. Err f) is)) (λ part is. c.in_err-session.ensures.bad part (ap (λ f. Err f) is))
    (λ part is. c.in_err-session.ensures.unwritten part (ap (λ f. Err f) is)) (λ part is. c.in_err-session.ensures.kept part (ap (λ f. Err f) is)) c.open.ensures.left
    (λ other. c.in_err-session.ensures.told (λ is. other (err_same is))))

pub returns-in_err-session-clause-broken : goal.returns-in_err-session-clause-broken
returns-in_err-session-clause-broken g c =
    let p = err_from_is_err_and c.from_residual.result c.from_residual.ensures.1 in
    rw (p.1, p.2) (inr (opening_stop c.in_err-session.field-0.0, c.open.ensures.only))

pub returns-in_err-session-clause-whence : goal.returns-in_err-session-clause-whence
returns-in_err-session-clause-whence g c =
    let p = err_from_is_err_and c.from_residual.result c.from_residual.ensures.1 in
    rw (p.1, p.2) (inl (opening_stop c.in_err-session.field-0.0))

-- ---- the stepping of the lines stopped

pub returns-in_err-step_lines-clause-headline : goal.returns-in_err-step_lines-clause-headline
returns-in_err-step_lines-clause-headline g c =
    let p = err_from_is_err_and c.from_residual-in_err-step_lines.result c.from_residual-in_err-step_lines.ensures.1 in
    let why = c.in_err-step_lines.field-0.0 in
    let K = g.T.Talk.talking in
    rw (p.1, p.2) (λ table was starts.
    let leaves = leaves_table starts (c.open.ensures.any_moment starts.on.image starts.on.honest starts.on.holds) in
    let opened = c.in_ok-session.ensures.shows starts.on.image table starts.on.honest starts.on.holds starts.on.stands in
    let cut = c.in_err-step_lines.ensures.cut in
    inl (stepped_cut K c.args.talk.now c.step_lines.new.talk cut.at (g.H.World.is_world c.args.host.now) (g.H.World.is_world c.open.new.host) starts c.open.ensures.only leaves opened why
    (cut.cut opened.view was opened.is (opens_of starts.on c.open.ensures.only opened))
    (subst (λ (left : Left). K.Broken c.args.talk.now left cut.had cut.last why cut.at (g.H.World.outside c.step_lines.new.host).left) c.open.ensures.only.left cut.broken)))

pub returns-in_err-step_lines-clause-on : goal.returns-in_err-step_lines-clause-on
returns-in_err-step_lines-clause-on g c =
    let p = err_from_is_err_and c.from_residual-in_err-step_lines.result c.from_residual-in_err-step_lines.ensures.1 in
    let why = c.in_err-step_lines.field-0.0 in
    let a = g.H.World.outside c.args.host.now in
    let now = g.H.World.outside c.step_lines.new.host in
    rw (p.1, p.2) (run_opened {T = Unit {0}} {a = a} {b = now} (Err why) c.in_ok-session.ensures.opened c.in_err-step_lines.ensures.stops
    (caused_later why a (g.H.World.outside c.open.new.host) now c.open.ensures.only.goes c.in_err-step_lines.ensures.caused)
    (damaged_since _ why c.open.ensures.only.goes c.in_err-step_lines.ensures.damaged)
    (λ table was on.
    let opened = c.in_ok-session.ensures.shows on.image table on.honest on.holds on.stands in
    c.in_err-step_lines.ensures.sound opened.view was opened.is (opens_of on c.open.ensures.only opened))
    (λ other. c.in_err-step_lines.ensures.told (λ is. other (ap (λ f. Err f) (err_same is))) ∙ c.in_ok-session.ensures.told (λ is. cc)))

pub returns-in_err-step_lines-clause-whence : goal.returns-in_err-step_lines-clause-whence
returns-in_err-step_lines-clause-whence g c =
    let p = err_from_is_err_and c.from_residual-in_err-step_lines.result c.from_residual-in_err-step_lines.ensures.1 in
    rw (p.1, p.2) (inr c.in_err-step_lines.ensures.whence)

-- ---- the talk is over

pub returns-clause-headline : goal.returns-clause-headline
returns-clause-headline g c table was starts =
    let leaves = leaves_table starts (c.open.ensures.any_moment starts.on.image starts.on.honest starts.on.holds) in
    let opened = c.in_ok-session.ensures.shows starts.on.image table starts.on.honest starts.on.holds starts.on.stands in
    let ran = c.in_ok-step_lines.ensures.whole in
    let so_far = ran.reached opened.view was opened.is (opens_of starts.on c.open.ensures.only opened) in
    let K = g.T.Talk.talking in
    let talk = c.step_lines.new.talk in
    let over = subst (λ (left : Left). K.Over c.args.talk.now left ran.had talk (g.H.World.outside c.abort_open.new.host).left) c.open.ensures.only.left
    (subst (λ (at : Left). K.Over c.args.talk.now (g.H.World.outside c.open.new.host).left ran.had talk at) (sym c.abort_open.ensures.only.left) ran.over) in
    let any = c.abort_open.ensures.any_moment so_far.view so_far.is so_far.shows in
    let M = g.E.Engine.meaning in
    let C = conduct g.H.World.outside g.E.Engine.keeps in
    by_ending c.abort_open.result (TalkHeadline M C g.E.Opener.fresh K c.args.talk.now talk table was (g.H.World.outside c.args.host.now) (g.H.World.outside c.abort_open.new.host))
    (λ x is. inl (stepped_whole K c.args.talk.now talk (g.H.World.is_world c.args.host.now) (g.H.World.is_world c.open.new.host) (g.H.World.is_world c.step_lines.new.host) starts c.open.ensures.only leaves opened so_far
    c.abort_open.ensures.only any (IfOk-at_ok (λ _. _) is (c.abort_open.ensures.aborted so_far.view so_far.is so_far.shows)) over))
    (λ why is.
    let part = session_part why (IfErr-at_err IsSessionStop is c.abort_open.ensures.stops) in
    let stopped = IfErr-at_err (StoppedAbort M C (g.H.World.outside c.step_lines.new.host).clock (g.H.World.outside c.abort_open.new.host) so_far.view) is (c.abort_open.ensures.stopped so_far.view so_far.is so_far.shows) in
    inl (stepped_cut K c.args.talk.now talk talk (g.H.World.is_world c.args.host.now) (g.H.World.is_world c.open.new.host) starts c.open.ensures.only leaves opened why
    (cut_ending (K.text talk) so_far (g.H.World.is_world c.step_lines.new.host) c.abort_open.ensures.only any why stopped.stop stopped.session stopped.is stopped.kept)
    (K.ended c.args.talk.now talk (g.H.World.outside c.args.host.now).left (g.H.World.outside c.abort_open.new.host).left ran.had why over part)))

pub returns-clause-on : goal.returns-clause-on
returns-clause-on g c =
    let a = g.H.World.outside c.args.host.now in
    let now = g.H.World.outside c.abort_open.new.host in
    let goes = goes_trans c.open.ensures.only.goes c.step_lines.ensures.goes in
    let C = conduct g.H.World.outside g.E.Engine.keeps in
    run_opened {a = a} {b = now} c.abort_open.result c.in_ok-session.ensures.opened
    (IfErr-weaker c.abort_open.result IsSessionStop IsLinesStop session_lines c.abort_open.ensures.stops)
    (IfErr-weaker c.abort_open.result (λ why. CausedBy why (g.H.World.outside c.step_lines.new.host) now) (λ why. CausedBy why a now)
    (λ why caused. caused_later why a (g.H.World.outside c.step_lines.new.host) now goes caused) c.abort_open.ensures.caused)
    (IfErr-weaker c.abort_open.result (ByDamagedStep C (g.H.World.outside c.step_lines.new.host) now) (ByDamagedStep C a now) (λ why by. damaged_since C why goes by) c.abort_open.ensures.damaged)
    (λ table was on.
    let opened = c.in_ok-session.ensures.shows on.image table on.honest on.holds on.stands in
    let so_far = c.in_ok-step_lines.ensures.whole.reached opened.view was opened.is (opens_of on c.open.ensures.only opened) in
    c.abort_open.ensures.sound so_far.view so_far.is so_far.shows)
    (λ other. c.abort_open.ensures.told other ∙ c.in_ok-step_lines.ensures.told (λ is. cc) ∙ c.in_ok-session.ensures.told (λ is. cc))

pub returns-clause-broken : goal.returns-clause-broken
returns-clause-broken g c = if_err_from c.abort_open.result _ (λ why is.
    let ran = c.in_ok-step_lines.ensures.whole in
    let part = session_part why (IfErr-at_err IsSessionStop is c.abort_open.ensures.stops) in
    let K = g.T.Talk.talking in
    let first = c.args.talk.now in
    let talk = c.step_lines.new.talk in
    let now = (g.H.World.outside c.abort_open.new.host).left in
    let over = subst (λ (left : Left). K.Over first left ran.had talk now) c.open.ensures.only.left
    (subst (λ (at : Left). K.Over first (g.H.World.outside c.open.new.host).left ran.had talk at) (sym c.abort_open.ensures.only.left) ran.over) in
    inl (ran.had, None, talk, K.ended first talk (g.H.World.outside c.args.host.now).left now ran.had why over part))

pub returns-clause-whence : goal.returns-clause-whence
returns-clause-whence g c = if_err_from c.abort_open.result _ (λ why is. inr (inl (IfErr-at_err IsSessionStop is c.abort_open.ensures.stops)))

-- ---- how it began

pub returns-in_err-session-clause-opened : goal.returns-in_err-session-clause-opened
returns-in_err-session-clause-opened g c =
    let p = err_from_is_err_and c.from_residual.result c.from_residual.ensures.1 in
    rw (p.1, p.2) (opens_none c.open.new.host c.in_err-session.field-0.0 c.in_err-session.ensures.does c.open.ensures.only)

pub returns-in_err-step_lines-clause-opened : goal.returns-in_err-step_lines-clause-opened
returns-in_err-step_lines-clause-opened g c =
    let p = err_from_is_err_and c.from_residual-in_err-step_lines.result c.from_residual-in_err-step_lines.ensures.1 in
    rw (p.1, p.2) (opens_first c.open.new.host (Some c.in_err-step_lines.field-0.0) c.in_ok-session.ensures.does c.open.ensures.only c.step_lines.ensures.goes c.in_ok-session.ensures.shows)

pub returns-clause-opened : goal.returns-clause-opened
returns-clause-opened g c =
    opens_first c.open.new.host (result_err c.abort_open.result) c.in_ok-session.ensures.does c.open.ensures.only (goes_trans c.step_lines.ensures.goes c.abort_open.ensures.only.goes) c.in_ok-session.ensures.shows
