use Rattle.std.proofs.Common.{◌≡◌, ◌+◌, take, drop, ◌∙◌, ap, subst, arith, length, ℕ, List, Some}
use Rattle.disk_model.specs.Changes.{InRange}
use Rattle.disk_model.specs.Outside.{Leaves}
use Rattle.disk_model.specs.Runs.{honest_on}
use Rattle.ex_base.specs.Sizes.{most_page}
use Rattle.op_log.specs.declared.record.LogRecord.{LogRecord}
use Rattle.op_log.specs.Records.{record_len}
use Rattle.op_log.specs.Log.{Adding, AddsHere, KeepsLog}
use Rattle.op_log.specs.Gates.{has_log}
use Rattle.op_log.specs.State.{LogState, Prolongs}
use Rattle.op_log.proofs.Moments.{long_of, spelled, keeps_settled, settled_says}
use Rattle.op_log.proofs.log.OpLog.append.Given as given
use Rattle.ex_base.proofs.Handed.{not_given}
use Rattle.op_log.proofs.Outcomes.{err_of}
use Rattle.op_log.proofs.log.OpLog.append.Goals as goal
use Rattle.op_log.proofs.log.OpLog.append.Goals.{After-write_record}

-- what is written is the record, at the log's end
adding : (g : given.Over) (c : After-write_record g) (rs : List LogRecord) → Prolongs c.args.self.now rs c.args.item.now
    → Adding c.args.self.now.geometry rs c.args.item.now (c.self.inside.geometry.page_size + c.self.inside.end) (take c.length_of-len.result c.deref.result.now)
adding g c rs prolongs =
    let s = c.args.self.now in
    let r = c.args.item.now in
    let len : c.length_of-len.result ≡ record_len r = omega (arith, c.length_of-len.ensures, c.requires.fits, most_page s.geometry) in
    let out : length c.encode.new.out ≡ c.lengthen.new.buffer.len = omega (arith, c.encode.auto.out, c.deref_mut.ensures.len) in
    record {
      gate_is = ap (λ (t : LogState). t.geometry.page_size + t.end) c.self.view_is ∙ ap (λ (e : ℕ). s.geometry.page_size + e) prolongs.at_end;
      bytes_are = spelled r c.length_of-len.result c.encode.result c.lengthen.new.buffer.len c.deref_mut.result.now c.encode.new.out (drop (length c.encode.new.out) c.lengthen.new.buffer.items) c.deref.result.now
          len c.encode.ensures.end out c.deref.ensures.value c.encode.ensures.puts;
      fits = omega (arith, c.requires.fits, prolongs.at_end);
      is_record = c.requires.record;
      follow = prolongs.follow;
    }

pub returns-in_err-write_record-clause-any_moment : goal.returns-in_err-write_record-clause-any_moment
returns-in_err-write_record-clause-any_moment g c rs prolongs keeps =
    let adds = adding g (goal.at.returns-in_err-write_record-clause-any_moment g c).After-write_record rs prolongs in
    c.write_record.ensures.any_moment c.args.self.now.geometry rs c.args.item.now adds (has_log c.args.self.now.geometry (g.D.World.outside c.args.disk.now) c.requires.room) keeps

pub returns-clause-any_moment : goal.returns-clause-any_moment
returns-clause-any_moment g c rs prolongs keeps =
    let adds = adding g (goal.at.returns-clause-any_moment g c).After-write_record rs prolongs in
    c.write_record.ensures.any_moment c.args.self.now.geometry rs c.args.item.now adds (has_log c.args.self.now.geometry (g.D.World.outside c.args.disk.now) c.requires.room) keeps

-- the record's range, as the caller names it
range_is : (g : given.Over) (c : After-write_record g) (rs : List LogRecord) → Prolongs c.args.self.now rs c.args.item.now
    → (c.self.inside.geometry.page_size + c.self.inside.end ≡ c.args.self.now.geometry.page_size + c.args.self.now.end) × (length (take c.length_of-len.result c.deref.result.now) ≡ record_len c.args.item.now)
range_is g c rs prolongs = (ap (λ (t : LogState). t.geometry.page_size + t.end) c.self.view_is, long_of (take c.length_of-len.result c.deref.result.now) (adding g c rs prolongs))

leaves : (g : given.Over) (c : After-write_record g) (rs : List LogRecord) (held : List ℕ) → Prolongs c.args.self.now rs c.args.item.now
    → KeepsLog c.args.self.now.geometry (g.D.World.outside c.args.disk.now) rs → (g.D.World.outside c.args.disk.now).disk ≡ Some held
    → Leaves (g.D.World.outside c.args.disk.now) (g.D.World.outside c.write_record.new.disk) (AddsHere c.args.self.now.geometry rs c.args.item.now
    (InRange (c.args.self.now.geometry.page_size + c.args.self.now.end) (record_len c.args.item.now + 1)) (g.D.World.outside c.args.disk.now).images held)
leaves g c rs held prolongs keeps holds =
    let s = c.args.self.now in
    let a = g.D.World.outside c.args.disk.now in
    let b = g.D.World.outside c.write_record.new.disk in
    let range = range_is g c rs prolongs in
    subst (λ (n : ℕ). Leaves a b (AddsHere s.geometry rs c.args.item.now (InRange (s.geometry.page_size + s.end) (n + 1)) a.images held)) range.1
    (subst (λ (p : ℕ). Leaves a b (AddsHere s.geometry rs c.args.item.now (InRange p (length (take c.length_of-len.result c.deref.result.now) + 1)) a.images held)) range.0
    (c.write_record.ensures.leaves s.geometry rs c.args.item.now held (adding g c rs prolongs) (has_log s.geometry a c.requires.room) keeps holds))

pub returns-in_err-write_record-clause-leaves : goal.returns-in_err-write_record-clause-leaves
returns-in_err-write_record-clause-leaves g c rs held = leaves g (goal.at.returns-in_err-write_record-clause-leaves g c).After-write_record rs held

pub returns-clause-leaves : goal.returns-clause-leaves
returns-clause-leaves g c rs held = leaves g (goal.at.returns-clause-leaves g c).After-write_record rs held

pub returns-clause-says : goal.returns-clause-says
returns-clause-says g c rs prolongs says =
    let adds = adding g (goal.at.returns-clause-says g c).After-write_record rs prolongs in
    c.in_ok-write_record.ensures.says c.args.self.now.geometry rs c.args.item.now adds (has_log c.args.self.now.geometry (g.D.World.outside c.args.disk.now) c.requires.room) says

pub returns-clause-keeps : goal.returns-clause-keeps
returns-clause-keeps g c rs prolongs keeps =
    let adds = adding g (goal.at.returns-clause-keeps g c).After-write_record rs prolongs in
    let says = c.in_ok-write_record.ensures.says c.args.self.now.geometry rs c.args.item.now adds (has_log c.args.self.now.geometry (g.D.World.outside c.args.disk.now) c.requires.room) keeps.on_disk in
    keeps_settled (g.D.World.outside c.write_record.new.disk) (honest_on c.write_record.ensures.changes.only.goes keeps.honest) says (c.in_ok-write_record.ensures.settled keeps.honest)

pub returns-clause-after : goal.returns-clause-after
returns-clause-after g c rs prolongs keeps x here =
    let adds = adding g (goal.at.returns-clause-after g c).After-write_record rs prolongs in
    let says = c.in_ok-write_record.ensures.says c.args.self.now.geometry rs c.args.item.now adds (has_log c.args.self.now.geometry (g.D.World.outside c.args.disk.now) c.requires.room) keeps.on_disk in
    settled_says (g.D.World.outside c.write_record.new.disk) x says (c.in_ok-write_record.ensures.settled keeps.honest) here

pub returns-in_err-write_record-clause-four : goal.returns-in_err-write_record-clause-four
returns-in_err-write_record-clause-four g c = not_given c.from_residual.result _ _ c.from_residual.ensures.1

pub returns-in_err-write_record-clause-counts : goal.returns-in_err-write_record-clause-counts
returns-in_err-write_record-clause-counts g c = not_given c.from_residual.result _ _ c.from_residual.ensures.1

pub returns-in_err-write_record-clause-says : goal.returns-in_err-write_record-clause-says
returns-in_err-write_record-clause-says g c = not_given c.from_residual.result _ _ c.from_residual.ensures.1

pub returns-in_err-write_record-clause-keeps : goal.returns-in_err-write_record-clause-keeps
returns-in_err-write_record-clause-keeps g c = not_given c.from_residual.result _ _ c.from_residual.ensures.1

pub returns-in_err-write_record-clause-after : goal.returns-in_err-write_record-clause-after
returns-in_err-write_record-clause-after g c = not_given c.from_residual.result _ _ c.from_residual.ensures.1

pub returns-in_err-write_record-clause-settled : goal.returns-in_err-write_record-clause-settled
returns-in_err-write_record-clause-settled g c = not_given c.from_residual.result _ _ c.from_residual.ensures.1

pub returns-in_err-write_record-clause-cause : goal.returns-in_err-write_record-clause-cause
returns-in_err-write_record-clause-cause g c = err_of c.from_residual.result _ c.in_err-write_record.ensures.cause

pub returns-in_err-write_record-clause-at_most_four : goal.returns-in_err-write_record-clause-at_most_four
returns-in_err-write_record-clause-at_most_four g c = c.write_record.ensures.at_most_four

pub returns-clause-cause : goal.returns-clause-cause
returns-clause-cause g c = tt

pub returns-clause-failed : goal.returns-clause-failed
returns-clause-failed g c = tt

pub returns-clause-at_most_four : goal.returns-clause-at_most_four
returns-clause-at_most_four g c = c.write_record.ensures.at_most_four

pub returns-clause-four : goal.returns-clause-four
returns-clause-four g c = c.in_ok-write_record.ensures.four

pub returns-clause-settled : goal.returns-clause-settled
returns-clause-settled g c = c.in_ok-write_record.ensures.settled
