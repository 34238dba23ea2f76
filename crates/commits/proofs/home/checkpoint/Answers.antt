use Rattle.std.proofs.Common.{◌≡◌, ℕ, List, [], All, Some, IsTrue, sym, ap, subst, ◌∙◌, arith}
use Rattle.ex_base.specs.Area.{catalog_no}
use Rattle.ex_base.specs.declared.geometry.Geometry.{Geometry}
use Rattle.disk_model.specs.Outside.{Leaves}
use Rattle.disk_model.specs.Changes.{ChangesWithin, InRange, changes_refl}
use Rattle.disk_model.specs.Runs.{leaves_start, honest_on}
use Rattle.meta_pages.specs.Homes.{InHomes}
use Rattle.meta_pages.specs.Overlays.{Overlays, IsPageRow}
use Rattle.op_log.specs.Log.{SaysEither, DiskSays, KeepsLog}
use Rattle.op_log.specs.State.{LogState}
use Rattle.volume_model.specs.Committed.{Committed, Checkpointed, StandsForVolume}
use Rattle.volume_model.specs.CrashImage.{agrees_stands}
use Rattle.volume_model.specs.Volume.{Decoded}
use Rattle.commits.proofs.Closing.{on_ok_of_three, WentHome, went_home, none_to_close, mid_keeps, homes_leave, close_leaves, closed_down, first_gate_before}
use Rattle.commits.proofs.Lending.{lends_on}
use Rattle.commits.proofs.LogBytes.{home_and_gate, images_written}
use Rattle.commits.specs.Room.{BeforeCatalog}
use Rattle.commits.specs.Written.{InLogOrHomes}
use Rattle.commits.proofs.home.checkpoint.Given as given
use Rattle.commits.proofs.home.checkpoint.Goals as goal
use Rattle.commits.proofs.home.checkpoint.Goals.{After-close_all}

pub returns-then-count-eq0-clause-done : goal.returns-then-count-eq0-clause-done
returns-then-count-eq0-clause-done g c d held honest holds committed =
    (held, holds, none_to_close d held c.args.log.now c.args.meta.now.committed (g.D.World.outside c.args.disk.now).images (sym c.count.ensures ∙ c.if-count-eq0.true) committed)

pub returns-then-count-eq0-clause-any_moment : goal.returns-then-count-eq0-clause-any_moment
returns-then-count-eq0-clause-any_moment g c d held honest holds committed =
    leaves_start (g.D.World.outside c.args.disk.now) (StandsForVolume d held) (g.D.World.is_world c.args.disk.now) (λ x here. agrees_stands held x d committed.parts (committed.durable x here))

-- once the images are at home, or some of them
went : (g : given.Over) (c : After-close_all g) (d : Decoded) (held : List ℕ) → IsTrue (g.D.World.outside c.args.disk.now).honest → (g.D.World.outside c.args.disk.now).disk ≡ Some held
    → Committed (g.D.World.outside c.args.disk.now).images d held c.args.log.now c.args.meta.now.committed
    → WentHome d held c.args.meta.now.committed (g.D.World.outside c.args.disk.now) (g.D.World.outside c.write_home.new.disk)
went g c d held honest holds committed =
    let o = c.args.meta.now in
    let same : o.geometry ≡ d.geometry = sym c.requires.geometry ∙ ap (λ (s : LogState). s.geometry) committed.shown.log_is in
    went_home o.geometry d held c.args.log.now o.committed (g.D.World.outside c.args.disk.now) (g.D.World.outside c.write_home.new.disk) same (g.D.World.is_world c.args.disk.now) honest holds committed
    c.write_home.ensures.rows.pages c.write_home.ensures.changes c.in_ok-write_home.ensures.homes c.in_ok-write_home.ensures.settled

-- where the first gate is closed
gate : (g : given.Over) (c : After-close_all g) (d : Decoded) (held : List ℕ) → Committed (g.D.World.outside c.args.disk.now).images d held c.args.log.now c.args.meta.now.committed
    → ChangesWithin (InRange d.geometry.page_size 1) (g.D.World.outside c.write_home.new.disk) (g.D.World.outside c.close_all.new.disk)
gate g c d held committed =
    subst (λ (h : Geometry). ChangesWithin (InRange h.page_size 1) (g.D.World.outside c.write_home.new.disk) (g.D.World.outside c.close_all.new.disk)) (ap (λ (s : LogState). s.geometry) committed.shown.log_is) c.close_all.ensures.changes

pub returns-in_err-write_home-clause-any_moment : goal.returns-in_err-write_home-clause-any_moment
returns-in_err-write_home-clause-any_moment g c d held honest holds committed =
    let o = c.args.meta.now in
    let a = g.D.World.outside c.args.disk.now in
    let b = g.D.World.outside c.write_home.new.disk in
    let same : o.geometry ≡ d.geometry = sym c.requires.geometry ∙ ap (λ (s : LogState). s.geometry) committed.shown.log_is in
    homes_leave d held c.args.log.now o.committed a b (g.D.World.is_world c.args.disk.now) honest committed (subst (λ (h : Geometry). All (IsPageRow h) o.committed) same c.write_home.ensures.rows.pages)
    (subst (λ (h : Geometry). ChangesWithin (InHomes h.page_size o.committed) a b) same c.write_home.ensures.changes)

pub returns-clause-lends : goal.returns-clause-lends
returns-clause-lends g c honest behind lends =
    let o = c.args.meta.now in
    let b = g.D.World.outside c.write_home.new.disk in
    let e = g.D.World.outside c.close_all.new.disk in
    lends_on b e o.geometry.page_size c.write_home.new.groups (honest_on c.write_home.ensures.changes.only.goes honest) (c.write_home.ensures.from catalog_no behind) c.write_home.ensures.sizes
    (subst (λ (h : Geometry). ChangesWithin (BeforeCatalog h.page_size) b e) c.requires.geometry (first_gate_before c.args.log.now.geometry c.close_all.ensures.changes)) (c.write_home.ensures.lends honest lends)

-- the log has its records until then
keeps : (g : given.Over) (c : After-close_all g) (d : Decoded) (held : List ℕ) → IsTrue (g.D.World.outside c.args.disk.now).honest → (g.D.World.outside c.args.disk.now).disk ≡ Some held
    → Committed (g.D.World.outside c.args.disk.now).images d held c.args.log.now c.args.meta.now.committed → KeepsLog c.args.log.now.geometry (g.D.World.outside c.write_home.new.disk) d.records
keeps g c d held honest holds committed =
    subst (λ (h : Geometry). KeepsLog h (g.D.World.outside c.write_home.new.disk) d.records) (sym (ap (λ (s : LogState). s.geometry) committed.shown.log_is))
    (mid_keeps d held c.args.meta.now.committed (g.D.World.outside c.args.disk.now) (g.D.World.outside c.write_home.new.disk) committed.parts (went g c d held honest holds committed))

pub returns-clause-done : goal.returns-clause-done
returns-clause-done g c =
    let after = (goal.at.returns-clause-done g c).After-close_all in
    on_ok_of_three c.close_all.result
    (λ says settled counts d held honest holds committed.
    let log = c.args.log.now in
    let b = g.D.World.outside c.write_home.new.disk in
    let e = g.D.World.outside c.close_all.new.disk in
    let same = ap (λ (s : LogState). s.geometry) committed.shown.log_is in
    let count = ap (λ (s : LogState). s.count) committed.shown.log_is in
    let empty = ap (λ (o : Overlays). o.committed) c.in_ok-write_home.ensures.emptied in
    let none = subst (λ (h : Geometry). DiskSays h e []) same (says d.records count (keeps g after d held honest holds committed).on_disk) in
    subst (λ (rows : List (ℕ × List ℕ)). (x : List ℕ) × (e.disk ≡ Some x) × Checkpointed d held e.images x c.close_all.new.self rows) (sym empty)
    (closed_down d held log c.close_all.new.self c.args.meta.now.committed (g.D.World.outside c.args.disk.now) b e committed (went g after d held honest holds committed) (gate g after d held committed) none
    (settled (omega (arith, c.if-count-eq0.false, c.count.ensures))) counts))
    c.close_all.ensures.says c.close_all.ensures.settled c.close_all.ensures.counts

pub returns-clause-any_moment : goal.returns-clause-any_moment
returns-clause-any_moment g c d held honest holds committed =
    let after = (goal.at.returns-clause-any_moment g c).After-close_all in
    let b = g.D.World.outside c.write_home.new.disk in
    let e = g.D.World.outside c.close_all.new.disk in
    let same = ap (λ (s : LogState). s.geometry) committed.shown.log_is in
    close_leaves d held c.args.meta.now.committed (g.D.World.outside c.args.disk.now) b e (g.D.World.is_world c.write_home.new.disk) committed.parts (went g after d held honest holds committed) (gate g after d held committed)
    (subst (λ (h : Geometry). Leaves b e (SaysEither h d.records [])) same (c.close_all.ensures.any_moment d.records (ap (λ (s : LogState). s.count) committed.shown.log_is) (keeps g after d held honest holds committed)))

-- ---- what it writes

pub returns-then-count-eq0-clause-writes : goal.returns-then-count-eq0-clause-writes
returns-then-count-eq0-clause-writes g c =
    changes_refl (InLogOrHomes c.args.meta.now.geometry.page_size c.args.meta.now.committed) (g.D.World.outside c.args.disk.now)

pub returns-in_err-write_home-clause-writes : goal.returns-in_err-write_home-clause-writes
returns-in_err-write_home-clause-writes g c = images_written c.args.meta.now.geometry.page_size c.args.meta.now.committed c.write_home.ensures.changes

pub returns-clause-writes : goal.returns-clause-writes
returns-clause-writes g c =
    home_and_gate c.args.meta.now.geometry c.args.log.now.geometry c.args.meta.now.committed c.requires.geometry c.write_home.ensures.changes c.close_all.ensures.changes
