use Rattle.std.proofs.Common.{◌∙◌, ap, sym, subst, arith}
use Rattle.ex_base.specs.Sizes.{volume_bytes}
use Rattle.ex_base.specs.declared.geometry.Geometry.{Geometry}
use Rattle.table_model.specs.Requests.{request_of}
use Rattle.session_core.specs.Sessions.{SessionState}
use Rattle.exsm_run.specs.Kept.{StepKeeps}
use Rattle.exsm_run.proofs.Idle.{calls_nothing, if_replied}
use Rattle.exsm_run.proofs.session.VolumeSessionEngine.step.Goals as goal

pub returns-clause-sound : goal.returns-clause-sound
returns-clause-sound g c before stop same shows is = c.step.ensures.sound before stop (same ∙ sym c.self.view_is) shows is

pub returns-clause-room : goal.returns-clause-room
returns-clause-room g c =
    omega (arith, c.requires.room, ap (λ (s : SessionState). volume_bytes s.geometry) c.self.view_is, ap (λ (s : Geometry). volume_bytes s) c.step.ensures.geometry, c.step.ensures.only.goes.size)

pub returns-clause-kept : goal.returns-clause-kept
returns-clause-kept g c =
    let a = g.H.World.outside c.args.host.now in
    let b = g.H.World.outside c.step.new.host in
    let r = request_of c.args.command.now in
    let promise = c.step.ensures in
    subst (λ (s : SessionState). StepKeeps s c.step.new.session a b r c.step.result) c.self.view_is (record {
      geometry = promise.geometry;
      refused = promise.refused;
      quiet = promise.quiet;
      reads = promise.reads;
      writes = promise.writes;
      unused = promise.unused;
      records = promise.records;
      shares = promise.shares;
      through = promise.through;
      shaped = promise.shaped;
      ends = record {
        writes = promise.writes_home;
        takes_none = promise.takes_none;
        none_counts = promise.none_counts;
        unwritten = promise.unwritten;
        logs = promise.logs;
        given_back = promise.given_back;
        taken_back = promise.taken_back;
        reached = promise.reached;
        reached_back = promise.reached_back;
        idle = λ is. if_replied c.step.result (λ same none. calls_nothing g.H.World.outside (same none)) (promise.idle is);
        idle_close = λ name is. if_replied c.step.result (λ same none. calls_nothing g.H.World.outside (same none)) (promise.idle_close name is);
      };
      damage = record { stands = promise.stands; catalog = promise.catalog };
      way = promise.way;
      is_down = λ is. let down = promise.is_down is in (down.0, calls_nothing g.H.World.outside down.1, down.2);
      goes_down = promise.goes_down;
      stays_up = promise.stays_up;
      scans = promise.scans;
      told = promise.told;
    })

pub returns-clause-stepped : goal.returns-clause-stepped
returns-clause-stepped g c = λ before same shows. c.step.ensures.stepped before (same ∙ sym c.self.view_is) shows

pub returns-clause-any_moment : goal.returns-clause-any_moment
returns-clause-any_moment g c = λ before same shows. c.step.ensures.any_moment before (same ∙ sym c.self.view_is) shows

pub returns-clause-unwritten : goal.returns-clause-unwritten
returns-clause-unwritten g c = λ is memory. (c.step.ensures.unwritten is memory).0
