use Rattle.session_core.specs.Sessions.{SessionState}
use Rattle.std.proofs.Common.{subst, arith, ap, ◌∙◌}
use Rattle.std.specs.Prelude.{option_map}
use Rattle.ex_base.specs.declared.names.OpNote.{OpNote}
use Rattle.session_core.specs.Updates.{Noted, note_with}
use Rattle.transactions.specs.Making.{making_need}
use Rattle.transactions.proofs.Made.{bound_then}
use Rattle.transactions.proofs.Updated.{charge_most, room_left}
use Rattle.transactions.proofs.making.make.Goals as goal

pub update_objects-requires-clause-touched : goal.update_objects-requires-clause-touched
update_objects-requires-clause-touched g c =
    let most = charge_most c.args.update.now in
    let left = (room_left c.args.session.now making_need c.requires.has_room).touched in
    omega (arith, left, most)

pub returns-in-Ok-bind_if-clause-made : goal.returns-in-Ok-bind_if-clause-made
returns-in-Ok-bind_if-clause-made g c =
    let mid = c.update_objects.new.self in
    let oid = c.in-Ok.oid in
    let did = subst (λ (n : OpNote). Noted c.args.session.now mid (note_with n oid)) c.object_note-note.ensures c.in-Ok.ensures.noted in
    record {
      named = c.in-Ok.ensures.named;
      mid = mid;
      noted = did;
      touched = c.in-Ok.ensures.touched;
      kept = c.in-Ok.ensures.kept;
      holds = c.in-Ok.ensures.holds;
      shaped = c.in-Ok.ensures.shaped;
      bound = bound_then (option_map (λ name. name.now) c.args.bind) oid did c.in-Ok-bind_if.ensures.ok;
    }

pub returns-in-Err-clause-sound : goal.returns-in-Err-clause-sound
returns-in-Err-clause-sound g c = c.in-Err.ensures.sound

pub returns-in-Err-clause-damage : goal.returns-in-Err-clause-damage
returns-in-Err-clause-damage g c = c.in-Err.ensures.damage

pub returns-in-Err-clause-stops : goal.returns-in-Err-clause-stops
returns-in-Err-clause-stops g c = c.in-Err.ensures.stops

pub update_objects-requires-clause-updates : goal.update_objects-requires-clause-updates
update_objects-requires-clause-updates g c = (room_left c.args.session.now making_need c.requires.has_room).updates

pub returns-in-Err-bind_if-clause-went : goal.returns-in-Err-bind_if-clause-went
returns-in-Err-bind_if-clause-went g c =
    record {
      only = c.update_objects.ensures.only;
      writes = c.update_objects.ensures.writes;
      geometry = ap (λ (s : SessionState). s.geometry) c.in-Err-bind_if.ensures.err ∙ c.update_objects.ensures.geometry;
      log = ap (λ (s : SessionState). s.log) c.in-Err-bind_if.ensures.err ∙ c.update_objects.ensures.log;
      down = ap (λ (s : SessionState). s.down) c.in-Err-bind_if.ensures.err ∙ c.update_objects.ensures.down;
      moments = c.update_objects.ensures.any_moment;
      scans = ap (λ (s : SessionState). s.scans) c.in-Err-bind_if.ensures.err ∙ c.update_objects.ensures.scans;
    }

pub returns-in-Ok-bind_if-clause-went : goal.returns-in-Ok-bind_if-clause-went
returns-in-Ok-bind_if-clause-went g c =
    record {
      only = c.update_objects.ensures.only;
      writes = c.update_objects.ensures.writes;
      geometry = ap (λ (s : SessionState). s.geometry) c.in-Ok-bind_if.ensures.ok ∙ c.update_objects.ensures.geometry;
      log = ap (λ (s : SessionState). s.log) c.in-Ok-bind_if.ensures.ok ∙ c.update_objects.ensures.log;
      down = ap (λ (s : SessionState). s.down) c.in-Ok-bind_if.ensures.ok ∙ c.update_objects.ensures.down;
      moments = c.update_objects.ensures.any_moment;
      scans = ap (λ (s : SessionState). s.scans) c.in-Ok-bind_if.ensures.ok ∙ c.update_objects.ensures.scans;
    }
