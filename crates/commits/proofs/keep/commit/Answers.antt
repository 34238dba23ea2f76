use Rattle.std.proofs.Common.{◌≡◌, ℕ, List, All, Some, IsTrue, inl, sym, subst}
use Rattle.ex_base.specs.declared.names.OpNote.{OpNote}
use Rattle.buffer_groups.specs.Frames.{Lends}
use Rattle.disk_model.specs.Outside.{DiskOnly, Leaves}
use Rattle.disk_model.specs.Runs.{disk_trans, honest_on, leaves_trans, leaves_wider}
use Rattle.volume_model.specs.Committed.{Committed, CommittedAs, MayCommit, IsOverlayOf, StandsForEither, StandsForVolume}
use Rattle.volume_model.specs.Shown.{WorkingRow}
use Rattle.volume_model.specs.Volume.{Volume, Decoded}
use Rattle.commits.specs.Room.{AreBehindLog, BeforeCatalog}
use Rattle.commits.specs.Written.{InLog, InLogOrHomes}
use Rattle.disk_model.specs.Changes.{ChangesWithin}
use Rattle.ex_base.specs.declared.geometry.Geometry.{Geometry}
use Rattle.commits.specs.Steps.{HasRoom}
use Rattle.commits.proofs.Composed.{now, may_still, either_still, committed_still}
use Rattle.commits.proofs.Lending.{lends_on}
use Rattle.commits.proofs.LogBytes.{then_log}
use Rattle.commits.proofs.keep.commit.Given as given
use Rattle.commits.proofs.keep.commit.Goals as goal
use Rattle.commits.proofs.keep.commit.Goals.{After-add_record}

pub returns-in_err-item-clause-any_moment : goal.returns-in_err-item-clause-any_moment
returns-in_err-item-clause-any_moment g c d held working honest holds committed of_files may =
    leaves_wider (StandsForVolume d held) (StandsForEither d held c.args.meta.now.working working) (c.record_with_room.ensures.any_moment d held honest holds committed) (λ e old. inl old)

-- ---- once there is room

only : (g : given.Over) (c : After-add_record g) → DiskOnly (g.D.World.outside c.args.disk.now) (g.D.World.outside c.add_record.new.disk)
only g c = disk_trans c.record_with_room.ensures.only c.add_record.ensures.changes.only

pub returns-in_default-clause-only : goal.returns-in_default-clause-only
returns-in_default-clause-only g c = only g (goal.at.returns-in_default-clause-only g c).After-add_record

pub returns-clause-only : goal.returns-clause-only
returns-clause-only g c = only g (goal.at.returns-clause-only g c).After-add_record

writes : (g : given.Over) (c : After-add_record g) → ChangesWithin (InLogOrHomes c.args.meta.now.geometry.page_size c.args.meta.now.committed)
    (g.D.World.outside c.args.disk.now) (g.D.World.outside c.add_record.new.disk)
writes g c =
    let b = g.D.World.outside c.record_with_room.new.disk in
    let e = g.D.World.outside c.add_record.new.disk in
    then_log c.args.meta.now.geometry.page_size c.args.meta.now.committed c.record_with_room.ensures.writes
    (subst (λ (h : Geometry). ChangesWithin (InLog h.page_size) b e) c.record_with_room.ensures.same_geometry c.add_record.ensures.writes)

pub returns-in_err-item-clause-writes : goal.returns-in_err-item-clause-writes
returns-in_err-item-clause-writes g c = c.record_with_room.ensures.writes

pub returns-in_default-clause-writes : goal.returns-in_default-clause-writes
returns-in_default-clause-writes g c = writes g (goal.at.returns-in_default-clause-writes g c).After-add_record

pub returns-clause-writes : goal.returns-clause-writes
returns-clause-writes g c = writes g (goal.at.returns-clause-writes g c).After-add_record

lends : (g : given.Over) (c : After-add_record g) → IsTrue (g.D.World.outside c.args.disk.now).honest → AreBehindLog c.args.groups.now → All (Lends (g.D.World.outside c.args.disk.now).disk) c.args.groups.now
    → All (Lends (g.D.World.outside c.add_record.new.disk).disk) c.record_with_room.new.groups
lends g c honest behind lent =
    let size = c.args.meta.now.geometry.page_size in
    let b = g.D.World.outside c.record_with_room.new.disk in
    let e = g.D.World.outside c.add_record.new.disk in
    lends_on b e size c.record_with_room.new.groups (honest_on c.record_with_room.ensures.only.goes honest) (c.record_with_room.ensures.behind behind) c.record_with_room.ensures.sizes
    (subst (λ (h : Geometry). ChangesWithin (BeforeCatalog h.page_size) b e) c.record_with_room.ensures.same_geometry c.add_record.ensures.changes) (c.record_with_room.ensures.lends honest behind lent)

pub returns-in_default-clause-lends : goal.returns-in_default-clause-lends
returns-in_default-clause-lends g c = lends g (goal.at.returns-in_default-clause-lends g c).After-add_record

pub returns-clause-lends : goal.returns-clause-lends
returns-clause-lends g c = lends g (goal.at.returns-clause-lends g c).After-add_record

-- the premise of the second step
may_add : (g : given.Over) (c : After-add_record g) (d : Decoded) (held later : List ℕ) (working : Volume) → IsOverlayOf d.volume c.args.meta.now.committed → MayCommit d held c.args.meta.now.working c.args.txn working
    → Committed (g.D.World.outside c.args.disk.now).images d held c.args.log.now c.args.meta.now.committed
    → (room : HasRoom d held c.args.meta.now.working c.args.txn c.args.notes.now c.args.meta.now.committed (g.D.World.outside c.record_with_room.new.disk).images later c.record_with_room.new.log c.record_with_room.new.meta.committed)
    → MayCommit (now d held room.records later c.args.meta.now.working room.those room.same) later c.record_with_room.new.meta.working c.in_ok-item.item.txn working
may_add g c d held later working of_files may committed room =
    let rows = c.args.meta.now.working in
    let here = now d held room.records later rows room.those room.same in
    subst (λ (n : ℕ). MayCommit here later c.record_with_room.new.meta.working n working) (sym c.in_ok-item.ensures.rule.txn_is)
    (subst (λ (ws : List WorkingRow). MayCommit here later ws c.args.txn working) (sym c.record_with_room.ensures.working)
    (may_still d held room.records later rows room.those room.same c.args.txn working c.args.meta.now.committed committed.shown.just of_files may))

leaves : (g : given.Over) (c : After-add_record g) (d : Decoded) (held : List ℕ) (working : Volume) → IsTrue (g.D.World.outside c.args.disk.now).honest → (g.D.World.outside c.args.disk.now).disk ≡ Some held
    → Committed (g.D.World.outside c.args.disk.now).images d held c.args.log.now c.args.meta.now.committed → IsOverlayOf d.volume c.args.meta.now.committed → MayCommit d held c.args.meta.now.working c.args.txn working
    → Leaves (g.D.World.outside c.args.disk.now) (g.D.World.outside c.add_record.new.disk) (StandsForEither d held c.args.meta.now.working working)
leaves g c d held working honest holds committed of_files may =
    let rows = c.args.meta.now.working in
    let b = g.D.World.outside c.record_with_room.new.disk in
    let e = g.D.World.outside c.add_record.new.disk in
    let made = c.in_ok-item.ensures.done d held honest holds committed in
    let room = made.2 in
    let here = now d held room.records made.0 rows room.those room.same in
    let second = c.add_record.ensures.any_moment here made.0 working (honest_on c.record_with_room.ensures.only.goes honest) made.1 room.committed (may_add g c d held made.0 working of_files may committed room) in
    leaves_trans (StandsForEither d held rows working)
    (leaves_wider (StandsForVolume d held) (StandsForEither d held rows working) (c.record_with_room.ensures.any_moment d held honest holds committed) (λ x old. inl old))
    (leaves_wider (StandsForEither here made.0 rows working) (StandsForEither d held rows working) (subst (λ (ws : List WorkingRow). Leaves b e (StandsForEither here made.0 ws working)) c.record_with_room.ensures.working second)
    (λ x stands. either_still d held room.records made.0 rows room.those room.same c.args.txn working c.args.meta.now.committed committed.shown.just of_files may x stands))

pub returns-in_default-clause-any_moment : goal.returns-in_default-clause-any_moment
returns-in_default-clause-any_moment g c = leaves g (goal.at.returns-in_default-clause-any_moment g c).After-add_record

pub returns-clause-any_moment : goal.returns-clause-any_moment
returns-clause-any_moment g c = leaves g (goal.at.returns-clause-any_moment g c).After-add_record

pub returns-clause-done : goal.returns-clause-done
returns-clause-done g c d held working honest holds committed of_files may =
    let rows = c.args.meta.now.working in
    let e = g.D.World.outside c.add_record.new.disk in
    let made = c.in_ok-item.ensures.done d held honest holds committed in
    let room = made.2 in
    let here = now d held room.records made.0 rows room.those room.same in
    let after = (goal.at.returns-clause-done g c).After-add_record in
    let added = c.in-Ok.ensures.done here made.0 working (honest_on c.record_with_room.ensures.only.goes honest) made.1 room.committed (room.of_files of_files) (may_add g after d held made.0 working of_files may committed room) in
    let with_rows = subst (λ (ws : List WorkingRow). CommittedAs here made.0 ws c.in_ok-item.item.txn c.in_ok-item.item.notes working e.images added.0 c.add_record.new.log c.add_record.new.meta.committed) c.record_with_room.ensures.working added.2 in
    let with_txn = subst (λ (n : ℕ). CommittedAs here made.0 rows n c.in_ok-item.item.notes working e.images added.0 c.add_record.new.log c.add_record.new.meta.committed) c.in_ok-item.ensures.rule.txn_is with_rows in
    let with_notes = subst (λ (ns : List OpNote). CommittedAs here made.0 rows c.args.txn ns working e.images added.0 c.add_record.new.log c.add_record.new.meta.committed) c.in_ok-item.ensures.rule.notes_are with_txn in
    (added.0, added.1, committed_still d held room.records made.0 rows room.those room.same c.args.txn working c.args.meta.now.committed committed.shown.just of_files may c.args.notes.now room.anew e.images added.0 c.add_record.new.log c.add_record.new.meta.committed with_notes)
