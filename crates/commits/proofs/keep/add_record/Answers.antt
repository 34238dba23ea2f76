use Rattle.std.proofs.Common.{◌≡◌, ℕ, List, Some, IsTrue, sym, ap, subst}
use Rattle.ex_base.specs.declared.geometry.Geometry.{Geometry}
use Rattle.disk_model.specs.Outside.{Leaves}
use Rattle.disk_model.specs.Changes.{ChangesWithin}
use Rattle.op_log.specs.Log.{KeepsLog}
use Rattle.op_log.specs.State.{LogState}
use Rattle.volume_model.specs.Committed.{Committed, MayCommit, StandsForEither}
use Rattle.volume_model.specs.Volume.{Volume, Decoded}
use Rattle.commits.specs.Room.{BeforeCatalog}
use Rattle.commits.specs.Written.{InLog}
use Rattle.commits.proofs.Adding.{prolongs, keeps_log, is_next, add_leaves, add_done, before_catalog}
use Rattle.commits.proofs.LogBytes.{record_written}
use Rattle.commits.proofs.RoomInLog.{few_named, logged_then}
use Rattle.commits.proofs.keep.add_record.Given as given
use Rattle.commits.proofs.keep.add_record.Goals as goal
use Rattle.commits.proofs.keep.add_record.Goals.{After-append}

keeps : (g : given.Over) (c : After-append g) (d : Decoded) (held : List ℕ) → IsTrue (g.D.World.outside c.args.disk.now).honest → (g.D.World.outside c.args.disk.now).disk ≡ Some held
    → Committed (g.D.World.outside c.args.disk.now).images d held c.args.log.now c.args.meta.now.committed → KeepsLog c.args.log.now.geometry (g.D.World.outside c.args.disk.now) d.records
keeps g c d held honest holds committed =
    let a = g.D.World.outside c.args.disk.now in
    subst (λ (h : Geometry). KeepsLog h a d.records) (sym (ap (λ (s : LogState). s.geometry) committed.shown.log_is)) (keeps_log d held c.args.log.now c.args.meta.now.committed a honest holds committed)

leaves : (g : given.Over) (c : After-append g) (d : Decoded) (held : List ℕ) (working : Volume) → IsTrue (g.D.World.outside c.args.disk.now).honest → (g.D.World.outside c.args.disk.now).disk ≡ Some held
    → Committed (g.D.World.outside c.args.disk.now).images d held c.args.log.now c.args.meta.now.committed → MayCommit d held c.args.meta.now.working c.args.item.now.txn working
    → Leaves (g.D.World.outside c.args.disk.now) (g.D.World.outside c.append.new.disk) (StandsForEither d held c.args.meta.now.working working)
leaves g c d held working honest holds committed may =
    let a = g.D.World.outside c.args.disk.now in
    let log = c.args.log.now in
    let o = c.args.meta.now in
    let r = c.args.item.now in
    add_leaves d held log o.committed o.working r working a (g.D.World.outside c.append.new.disk) committed (is_next d held log a.images o r committed c.requires.rows c.requires.rule) may c.requires.fits
    (c.append.ensures.leaves d.records held (prolongs d held log o.committed a.images r committed may.follows) (keeps g c d held honest holds committed) holds)

pub returns-in_err-append-clause-any_moment : goal.returns-in_err-append-clause-any_moment
returns-in_err-append-clause-any_moment g c d held working = leaves g (goal.at.returns-in_err-append-clause-any_moment g c).After-append d held working

pub returns-clause-any_moment : goal.returns-clause-any_moment
returns-clause-any_moment g c d held working = leaves g (goal.at.returns-clause-any_moment g c).After-append d held working

changes : (g : given.Over) (c : After-append g) → ChangesWithin (BeforeCatalog c.args.meta.now.geometry.page_size) (g.D.World.outside c.args.disk.now) (g.D.World.outside c.append.new.disk)
changes g c =
    let a = g.D.World.outside c.args.disk.now in
    let b = g.D.World.outside c.append.new.disk in
    subst (λ (h : Geometry). ChangesWithin (BeforeCatalog h.page_size) a b) c.requires.geometry (before_catalog c.args.log.now c.args.item.now a b c.requires.fits c.append.ensures.changes)

pub returns-in_err-append-clause-changes : goal.returns-in_err-append-clause-changes
returns-in_err-append-clause-changes g c = changes g (goal.at.returns-in_err-append-clause-changes g c).After-append

pub returns-clause-changes : goal.returns-clause-changes
returns-clause-changes g c = changes g (goal.at.returns-clause-changes g c).After-append

writes : (g : given.Over) (c : After-append g)
    → ChangesWithin (InLog c.args.meta.now.geometry.page_size) (g.D.World.outside c.args.disk.now) (g.D.World.outside c.append.new.disk)
writes g c =
    let a = g.D.World.outside c.args.disk.now in
    let b = g.D.World.outside c.append.new.disk in
    subst (λ (h : Geometry). ChangesWithin (InLog h.page_size) a b) c.requires.geometry
    (record_written c.args.log.now c.args.item.now c.requires.fits c.append.ensures.changes)

pub returns-in_err-append-clause-writes : goal.returns-in_err-append-clause-writes
returns-in_err-append-clause-writes g c = writes g (goal.at.returns-in_err-append-clause-writes g c).After-append

pub returns-clause-writes : goal.returns-clause-writes
returns-clause-writes g c = writes g (goal.at.returns-clause-writes g c).After-append

pub keep-requires : goal.keep-requires
keep-requires g c =
    few_named c.args.log.now c.args.meta.now c.args.item.now.txn c.args.item.now.notes c.args.item.now c.requires.geometry c.requires.logged c.requires.valid c.requires.rule c.requires.fits

pub returns-clause-logged : goal.returns-clause-logged
returns-clause-logged g c =
    logged_then c.args.log.now c.args.meta.now c.args.item.now.txn c.args.item.now.notes c.args.item.now c.requires.geometry c.requires.logged c.requires.valid c.requires.rule c.requires.rows c.append.new.self c.keep.new.self c.in_ok-append.ensures.counts c.keep.ensures.rows

pub returns-clause-done : goal.returns-clause-done
returns-clause-done g c d held working honest holds committed of_files may =
    let a = g.D.World.outside c.args.disk.now in
    let b = g.D.World.outside c.append.new.disk in
    let log = c.args.log.now in
    let o = c.args.meta.now in
    let r = c.args.item.now in
    let keep = keeps g (goal.at.returns-clause-done g c).After-append d held honest holds committed in
    add_done d held log c.append.new.self o.committed c.keep.new.self.committed o.working r working a b honest holds committed of_files (is_next d held log a.images o r committed c.requires.rows c.requires.rule) may c.requires.fits c.append.ensures.changes
    (c.in_ok-append.ensures.says d.records (prolongs d held log o.committed a.images r committed may.follows) keep.on_disk) c.in_ok-append.ensures.settled c.in_ok-append.ensures.counts c.keep.ensures.image c.keep.ensures.kept.rising
