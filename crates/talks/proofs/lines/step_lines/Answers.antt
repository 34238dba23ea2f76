use Rattle.std.proofs.Common.{rules, ◌≡◌, ◌∙◌, Some, None, [], ◌∷◌, ◌++◌, inl, inr, sym, subst, refl}
use Rattle.std.proofs.lemmas.Result.{err_from_is_err_and}
use Rattle.disk_model.specs.Runs.{goes_refl, goes_trans}
use Rattle.table_model.specs.Requests.{request_of}
use Rattle.table_model.specs.declared.reply.Reply.TheVariants as reply
use Rattle.script_lang.specs.Reading.{Asks, Fails}
use Rattle.talks.specs.Stops.{IsPart}
use Rattle.talks.specs.Talking.{Left}
use Rattle.talks.specs.Talking as talking
use Rattle.engines.specs.Keeping.{conduct}
use Rattle.talks.proofs.Rows.{line_just_kept, step_just_kept}
use Rattle.talks.proofs.Stopping.{session_damaged, session_stop, session_told, session_part, session_lines, sending_lines, sending_sound, sending_undamaged, taking_lines, taking_sound, taking_undamaged, disk_or_memory}
use Rattle.talks.proofs.Going.{reached_start, reached_taken, reached_answered, reached_refused, reply_of_step, cut_taken, cut_step, cut_answered, cut_refused}
use Rattle.talks.proofs.lines.step_lines.Goals.{in-Refused, in-Step+in-Ok}
use Rattle.talks.proofs.lines.step_lines.Goals as goal

pub lines-init : goal.lines-init
lines-init g c = record {
  up = c.requires.up;
  room = c.requires.room;
  goes = goes_refl (g.H.World.outside c.args.host.now);
  same = refl;
  so_far = record {
    had = [];
    talked = g.T.Talk.talking.begun c.args.talk.now (g.H.World.outside c.args.host.now).left;
    reached = λ opening was same opens. reached_start (g.H.World.is_world c.args.host.now) same opens;
  };
}

-- ---- no line was taken

pub returns-in_err-advance-clause-cut : goal.returns-in_err-advance-clause-cut
returns-in_err-advance-clause-cut g c =
    let p = err_from_is_err_and c.from_residual.result c.from_residual.ensures.1 in
    let old = c.lines.invariant.so_far in
    let broken = c.in_err-advance.ensures.broken c.args.talk.now (g.H.World.outside c.args.host.now).left old.had old.talked in
    rw (p.1, p.2) (record {
      at = c.lines.talk;
      had = old.had;
      last = None;
      broken = broken;
      cut = λ opening was same opens. cut_taken (g.T.Talk.talking.text c.lines.talk)
          (reached_taken (g.H.World.is_world c.lines.host) c.advance.ensures.only (old.reached opening was same opens)) c.in_err-advance.field-0.0 c.in_err-advance.ensures.stops;
    })

pub returns-in_err-advance-clause-stops : goal.returns-in_err-advance-clause-stops
returns-in_err-advance-clause-stops g c =
    let p = err_from_is_err_and c.from_residual.result c.from_residual.ensures.1 in
    rw (p.1, p.2) (taking_lines c.in_err-advance.field-0.0 c.in_err-advance.ensures.stops)

pub returns-in_err-advance-clause-damaged : goal.returns-in_err-advance-clause-damaged
returns-in_err-advance-clause-damaged g c =
    let p = err_from_is_err_and c.from_residual.result c.from_residual.ensures.1 in
    rw (p.1, p.2) (taking_undamaged _ _ _ c.in_err-advance.field-0.0 c.in_err-advance.ensures.stops)

pub returns-in_err-advance-clause-whence : goal.returns-in_err-advance-clause-whence
returns-in_err-advance-clause-whence g c =
    let p = err_from_is_err_and c.from_residual.result c.from_residual.ensures.1 in
    rw (p.1, p.2) (inr c.in_err-advance.ensures.fails)

pub returns-in_err-advance-clause-sound : goal.returns-in_err-advance-clause-sound
returns-in_err-advance-clause-sound g c opening was same opens =
    let p = err_from_is_err_and c.from_residual.result c.from_residual.ensures.1 in
    rw (p.1, p.2) (taking_sound c.in_err-advance.field-0.0 c.in_err-advance.ensures.stops)

pub returns-in_err-advance-clause-told : goal.returns-in_err-advance-clause-told
returns-in_err-advance-clause-told g c = λ other. c.advance.ensures.only.disk_faults ∙ c.lines.invariant.same

-- ---- a line was taken

pub lines-preserved-in-Nothing : goal.lines-preserved-in-Nothing
lines-preserved-in-Nothing g c =
    let old = c.lines.invariant.so_far in
    let waits = c.in_ok-advance.ensures.taken (search rules) c.args.talk.now (g.H.World.outside c.args.host.now).left old.had old.talked in record {
      up = c.lines.invariant.up;
      room = subst (g.E.Engine.fits c.lines.session) (sym c.advance.ensures.only.goes.size) c.lines.invariant.room;
      goes = goes_trans c.lines.invariant.goes c.advance.ensures.only.goes;
      same = c.advance.ensures.only.disk_faults ∙ c.lines.invariant.same;
      so_far = record {
        had = old.had;
        talked = g.T.Talk.talking.quiet c.args.talk.now c.advance.new.self (g.H.World.outside c.args.host.now).left (g.H.World.outside c.advance.new.host).left old.had waits c.in-Nothing.ensures.asked;
        reached = λ opening was same opens. reached_taken (g.H.World.is_world c.lines.host) c.advance.ensures.only (old.reached opening was same opens);
      };
    }

pub step-requires-clause-room : goal.step-requires-clause-room
step-requires-clause-room g c = subst (g.E.Engine.fits c.lines.session) (sym c.advance.ensures.only.goes.size) c.lines.invariant.room

pub returns-in-Err-clause-cut : goal.returns-in-Err-clause-cut
returns-in-Err-clause-cut g c =
    let old = c.lines.invariant.so_far in
    let first = c.args.talk.now in
    let entry = g.H.World.outside c.args.host.now in
    let b = g.H.World.outside c.advance.new.host in
    let K = g.T.Talk.talking in
    let at = c.advance.new.self in
    let waits = c.in_ok-advance.ensures.taken (search rules) first entry.left old.had old.talked in
    let r = request_of c.in-Step.command in
    let part : IsPart c.stopped_by.result = session_part c.stopped_by.result (session_stop c.in-Err.stop c.stopped_by.result c.stopped_by.ensures) in record {
      at = at;
      had = old.had;
      last = Some (Asks r);
      broken = subst (λ (left : Left). K.Broken first entry.left old.had (Some (Asks r)) c.stopped_by.result at left) (sym c.step.ensures.only.left)
          (K.stopped first at entry.left b.left old.had (Asks r) c.stopped_by.result waits c.in-Step.ensures.asked tt part);
      cut = λ opening was same opens.
          let so_far = reached_taken (g.H.World.is_world c.lines.host) c.advance.ensures.only (old.reached opening was same opens) in
          cut_step (K.text at) r so_far (g.H.World.is_world c.advance.new.host) c.step.ensures.only (c.step.ensures.any_moment so_far.view so_far.is so_far.shows) c.stopped_by.result
          c.in-Err.stop c.step.new.self c.stopped_by.ensures (step_just_kept c.advance.new.host c.step.new.host so_far.is so_far.shows c.step.ensures.only c.in-Err.ensures.kept);
    }

pub returns-in-Err-clause-damaged : goal.returns-in-Err-clause-damaged
returns-in-Err-clause-damaged g c =
    session_damaged (conduct g.H.World.outside g.E.Engine.keeps) (request_of c.in-Step.command) c.advance.new.host c.step.new.host c.in-Err.stop c.stopped_by.result c.stopped_by.ensures
    (goes_trans c.lines.invariant.goes c.advance.ensures.only.goes) c.step.ensures.only c.in-Err.ensures.kept

pub returns-in-Err-clause-stops : goal.returns-in-Err-clause-stops
returns-in-Err-clause-stops g c = session_lines c.stopped_by.result (session_stop c.in-Err.stop c.stopped_by.result c.stopped_by.ensures)

pub returns-in-Err-clause-whence : goal.returns-in-Err-clause-whence
returns-in-Err-clause-whence g c = inl (session_stop c.in-Err.stop c.stopped_by.result c.stopped_by.ensures)

pub returns-in-Err-clause-sound : goal.returns-in-Err-clause-sound
returns-in-Err-clause-sound g c opening was same opens =
    let so_far = reached_taken (g.H.World.is_world c.lines.host) c.advance.ensures.only (c.lines.invariant.so_far.reached opening was same opens) in
    disk_or_memory c.in-Err.stop c.stopped_by.result c.stopped_by.ensures (c.in-Err.ensures.sound so_far.view c.in-Err.stop so_far.is so_far.shows refl)

pub returns-in-Err-clause-told : goal.returns-in-Err-clause-told
returns-in-Err-clause-told g c = λ other. c.in-Err.ensures.told (λ is. other (session_told c.in-Err.stop c.stopped_by.result c.stopped_by.ensures is)) ∙ c.advance.ensures.only.disk_faults ∙ c.lines.invariant.same

-- ---- a reply was told

pub lines-preserved : goal.lines-preserved
lines-preserved g c =
    let old = c.lines.invariant.so_far in
    let first = c.args.talk.now in
    let entry = g.H.World.outside c.args.host.now in
    let b = g.H.World.outside c.advance.new.host in
    let K = g.T.Talk.talking in
    let at = c.advance.new.self in
    let lines_world = g.H.World.is_world c.lines.host in
    let early = g.H.World.is_world c.advance.new.host in
    let world = g.H.World.is_world c.tell.new.host in
    let waits = c.in_ok-advance.ensures.taken (search rules) first entry.left old.had old.talked in
    let goes_b = goes_trans c.lines.invariant.goes c.advance.ensures.only.goes in
    let same_b = c.advance.ensures.only.disk_faults ∙ c.lines.invariant.same in
    let room_b = subst (g.E.Engine.fits c.lines.session) (sym c.advance.ensures.only.goes.size) c.lines.invariant.room in
    elim c.match-asked.branch [
      | in-Refused w ↦
          let why = w.in-Refused.why in
          let told : c.match-asked.told ≡ reply.No why = w.told-is in
          let sent = rw (w.host-is, told) at c.in_ok-tell.ensures.sent in
          let had = rw (w.host-is, told) at c.in_ok-tell.ensures.had in
          rw w.session-is (record {
            up = c.lines.invariant.up;
            room = subst (g.E.Engine.fits c.lines.session) (sym sent.only.goes.size) room_b;
            goes = goes_trans goes_b sent.only.goes;
            same = sent.only.disk_faults ∙ same_b;
            so_far = record {
              had = old.had ++ record { reading = Fails why; told = reply.No why; text = K.text at (reply.No why) } ∷ [];
              talked = had first entry.left old.had (Fails why) waits w.in-Refused.ensures.asked tt;
              reached = λ opening was same opens. reached_refused (reached_taken lines_world c.advance.ensures.only (old.reached opening was same opens)) why
                  (K.tells at (reply.No why) (talking.refused why refl)) early world sent;
            };
          })
      | in-Step+in-Ok w ↦
          let r = request_of w.in-Step.command in
          let told = w.in-Ok.told in
          let told_is : c.match-asked.told ≡ told = w.told-is in
          let sent = rw (w.host-is, told_is) at c.in_ok-tell.ensures.sent in
          let had = rw (w.host-is, told_is, w.step.ensures.only.left) at c.in_ok-tell.ensures.had in
          rw w.session-is (record {
            up = w.in-Ok.ensures.stays_up;
            room = subst (g.E.Engine.fits w.step.new.self) (sym sent.only.goes.size) w.step.ensures.room;
            goes = goes_trans (goes_trans goes_b w.step.ensures.only.goes) sent.only.goes;
            same = sent.only.disk_faults ∙ w.in-Ok.ensures.told (λ is. cc) ∙ same_b;
            so_far = record {
              had = old.had ++ record { reading = Asks r; told = told; text = K.text at told } ∷ [];
              talked = had first entry.left old.had (Asks r) waits w.in-Step.ensures.asked tt;
              reached = λ opening was same opens.
                  let so_far = reached_taken lines_world c.advance.ensures.only (old.reached opening was same opens) in
                  let stepped = w.in-Ok.ensures.stepped so_far.view so_far.is so_far.shows in
                  reached_answered so_far (K.tells at told (reply_of_step so_far w.in-Step.ensures.formed stepped)) stepped
                  (line_just_kept c.advance.new.host w.step.new.host so_far.is so_far.shows w.step.ensures.only w.in-Ok.ensures.kept stepped) early w.step.ensures.only (w.step.ensures.any_moment so_far.view so_far.is so_far.shows) world sent;
            };
          })
    ]

pub returns-in_err-tell-clause-cut : goal.returns-in_err-tell-clause-cut
returns-in_err-tell-clause-cut g c =
    let p = err_from_is_err_and c.from_residual-in_err-tell.result c.from_residual-in_err-tell.ensures.1 in
    let old = c.lines.invariant.so_far in
    let first = c.args.talk.now in
    let entry = g.H.World.outside c.args.host.now in
    let K = g.T.Talk.talking in
    let at = c.advance.new.self in
    let why = c.in_err-tell.field-0.0 in
    let lines_world = g.H.World.is_world c.lines.host in
    let early = g.H.World.is_world c.advance.new.host in
    let waits = c.in_ok-advance.ensures.taken (search rules) first entry.left old.had old.talked in
    rw (p.1, p.2) (elim c.match-asked.branch [
      | in-Refused w ↦
          let refusal = w.in-Refused.why in
          let told : c.match-asked.told ≡ reply.No refusal = w.told-is in
          let part = rw (w.host-is, told) at c.in_err-tell.ensures.part in
          let broken = rw w.host-is at c.in_err-tell.ensures.broken in record {
            at = at;
            had = old.had;
            last = Some (Fails refusal);
            broken = broken first entry.left old.had (Fails refusal) waits w.in-Refused.ensures.asked tt;
            cut = λ opening was same opens. cut_refused (K.text at) (reached_taken lines_world c.advance.ensures.only (old.reached opening was same opens)) refusal
                (K.tells at (reply.No refusal) (talking.refused refusal refl)) early why c.in_err-tell.ensures.stops part;
          }
      | in-Step+in-Ok w ↦
          let r = request_of w.in-Step.command in
          let told = w.in-Ok.told in
          let told_is : c.match-asked.told ≡ told = w.told-is in
          let part = rw (w.host-is, told_is) at c.in_err-tell.ensures.part in
          let broken = rw (w.host-is, w.step.ensures.only.left) at c.in_err-tell.ensures.broken in record {
            at = at;
            had = old.had;
            last = Some (Asks r);
            broken = broken first entry.left old.had (Asks r) waits w.in-Step.ensures.asked tt;
            cut = λ opening was same opens.
                let so_far = reached_taken lines_world c.advance.ensures.only (old.reached opening was same opens) in
                let stepped = w.in-Ok.ensures.stepped so_far.view so_far.is so_far.shows in
                cut_answered (K.text at) so_far (K.tells at told (reply_of_step so_far w.in-Step.ensures.formed stepped)) stepped
                (line_just_kept c.advance.new.host w.step.new.host so_far.is so_far.shows w.step.ensures.only w.in-Ok.ensures.kept stepped)
                early w.step.ensures.only (w.step.ensures.any_moment so_far.view so_far.is so_far.shows) why c.in_err-tell.ensures.stops part;
          }
    ])

pub returns-in_err-tell-clause-stops : goal.returns-in_err-tell-clause-stops
returns-in_err-tell-clause-stops g c =
    let p = err_from_is_err_and c.from_residual-in_err-tell.result c.from_residual-in_err-tell.ensures.1 in
    rw (p.1, p.2) (sending_lines c.in_err-tell.field-0.0 c.in_err-tell.ensures.stops)

pub returns-in_err-tell-clause-damaged : goal.returns-in_err-tell-clause-damaged
returns-in_err-tell-clause-damaged g c =
    let p = err_from_is_err_and c.from_residual-in_err-tell.result c.from_residual-in_err-tell.ensures.1 in
    rw (p.1, p.2) (sending_undamaged _ _ _ c.in_err-tell.field-0.0 c.in_err-tell.ensures.stops)

pub returns-in_err-tell-clause-whence : goal.returns-in_err-tell-clause-whence
returns-in_err-tell-clause-whence g c =
    let p = err_from_is_err_and c.from_residual-in_err-tell.result c.from_residual-in_err-tell.ensures.1 in
    rw (p.1, p.2) (inr c.in_err-tell.ensures.fails)

pub returns-in_err-tell-clause-sound : goal.returns-in_err-tell-clause-sound
returns-in_err-tell-clause-sound g c opening was same opens =
    let p = err_from_is_err_and c.from_residual-in_err-tell.result c.from_residual-in_err-tell.ensures.1 in
    rw (p.1, p.2) (sending_sound c.in_err-tell.field-0.0 c.in_err-tell.ensures.stops)

pub returns-in_err-tell-clause-told : goal.returns-in_err-tell-clause-told
returns-in_err-tell-clause-told g c =
    let same_b = c.advance.ensures.only.disk_faults ∙ c.lines.invariant.same in
    elim c.match-asked.branch [
      | in-Refused w ↦ λ other. (rw w.host-is at c.in_err-tell.ensures.part).front.only.disk_faults ∙ same_b
      | in-Step+in-Ok w ↦ λ other. (rw w.host-is at c.in_err-tell.ensures.part).front.only.disk_faults ∙ w.in-Ok.ensures.told (λ is. cc) ∙ same_b
    ]

-- ---- the talk is over

pub returns-clause-whole : goal.returns-clause-whole
returns-clause-whole g c =
    let old = c.lines.invariant.so_far in record {
      had = old.had;
      over = c.in_ok-advance.ensures.over (search rules) c.args.talk.now (g.H.World.outside c.args.host.now).left old.had old.talked;
      reached = λ opening was same opens. reached_taken (g.H.World.is_world c.lines.host) c.advance.ensures.only (old.reached opening was same opens);
    }

pub returns-clause-room : goal.returns-clause-room
returns-clause-room g c = subst (g.E.Engine.fits c.lines.session) (sym c.advance.ensures.only.goes.size) c.lines.invariant.room

pub returns-clause-told : goal.returns-clause-told
returns-clause-told g c = λ other. c.advance.ensures.only.disk_faults ∙ c.lines.invariant.same
