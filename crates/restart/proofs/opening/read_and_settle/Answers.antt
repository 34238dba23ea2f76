use Rattle.std.proofs.Common.{◌≡◌, ℕ, inl, List, [], Some, IsTrue, refl, sym, subst, ◌∙◌, arith}
use Rattle.disk_model.specs.Changes.{ChangesWithin, changes_nothing, changes_trans}
use Rattle.disk_model.specs.Outside.{DiskOnly, Leaves, WritesNothing}
use Rattle.disk_model.specs.Runs.{disk_trans, honest_on, leaves_start, writes_nothing_refl, writes_nothing_trans}
use Rattle.session_views.specs.declared.Part.{Part}
use Rattle.table_model.specs.declared.table.Table.{Table}
use Rattle.volume_model.specs.Meaning.{no_part}
use Rattle.volume_model.specs.Parts.{Decodes, FirstBad, StandsFor}
use Rattle.volume_model.specs.Volume.{Decoded, table_of, units_of}
use Rattle.volume_model.specs.Committed.{Committed}
use Rattle.page_alloc.specs.UnitSet.{refs_at, used_at}
use Rattle.volume_port.specs.Logged.{is_held}
use Rattle.node_walk.proofs.Facts.{handed_err}
use Rattle.restart.proofs.AtRest.{rests_as}
use Rattle.restart.proofs.LogOpened.{logged_homes, none_counts, parted_at, stays_as}
use Rattle.restart.proofs.Opened.{all_closed, holds_same, holds_still, opened_on, opens_as, quiet_leaves, read_committed}
use Rattle.restart.specs.Opening.{HoldsAs, InLogOrLogged, OpensAs, PartsMoments, ReadsAs, StaysAs}
use Rattle.restart.proofs.opening.read_and_settle.Given as given
use Rattle.restart.proofs.opening.read_and_settle.Goals as goal
use Rattle.restart.proofs.opening.read_and_settle.Goals.{After-checkpoint}

pub returns-in_default-clause-any_moment : goal.returns-in_default-clause-any_moment
returns-in_default-clause-any_moment g c image honest holds =
    let b = g.D.World.outside c.sync.new.self in
    quiet_leaves (g.D.World.outside c.args.disk.now) b b image (g.D.World.is_world c.args.disk.now) honest c.sync.ensures.only (writes_nothing_refl b)

pub returns-in_err-parts-clause-bad : goal.returns-in_err-parts-clause-bad
returns-in_err-parts-clause-bad g c part is image holds = c.in_err-parts.ensures.bad part (handed_err c.from_residual.result _ _ c.from_residual.ensures.1 is) image (c.sync.ensures.only.disk ∙ holds)

pub returns-in_err-parts-clause-any_moment : goal.returns-in_err-parts-clause-any_moment
returns-in_err-parts-clause-any_moment g c image honest holds =
    quiet_leaves (g.D.World.outside c.args.disk.now) (g.D.World.outside c.sync.new.self) (g.D.World.outside c.read_volume.new.disk) image (g.D.World.is_world c.args.disk.now) honest c.sync.ensures.only c.read_volume.ensures.only.nothing

pub returns-in_err-parts-clause-unwritten : goal.returns-in_err-parts-clause-unwritten
returns-in_err-parts-clause-unwritten g c part is = writes_nothing_trans c.sync.ensures.only c.read_volume.ensures.only.nothing

pub returns-in_err-parts-clause-left : goal.returns-in_err-parts-clause-left
returns-in_err-parts-clause-left g c image part holds bad = writes_nothing_trans c.sync.ensures.only c.read_volume.ensures.only.nothing

-- ---- once it was read

only : (g : given.Over) (c : After-checkpoint g) → DiskOnly (g.D.World.outside c.args.disk.now) (g.D.World.outside c.checkpoint.new.disk)
only g c = disk_trans (disk_trans c.sync.ensures.only.only c.read_volume.ensures.only.nothing.only) c.checkpoint.ensures.only

pub returns-in_default-checkpoint-clause-only : goal.returns-in_default-checkpoint-clause-only
returns-in_default-checkpoint-clause-only g c = only g (goal.at.returns-in_default-checkpoint-clause-only g c).After-checkpoint

pub returns-clause-only : goal.returns-clause-only
returns-clause-only g c = only g (goal.at.returns-clause-only g c).After-checkpoint

reads : (g : given.Over) (c : After-checkpoint g) (image : List ℕ) → (g.D.World.outside c.args.disk.now).disk ≡ Some image
    → ReadsAs image c.in_ok-parts.parts.geometry c.in_ok-parts.parts.log c.in_ok-parts.parts.meta.committed (used_at c.in_ok-parts.parts.units) (refs_at c.in_ok-parts.parts.units) (is_held c.in_ok-parts.parts.pages)
reads g c image holds = c.in_ok-parts.ensures.reads image (c.sync.ensures.only.disk ∙ holds)

committed : (g : given.Over) (c : After-checkpoint g) (image : List ℕ) → IsTrue (g.D.World.outside c.args.disk.now).honest → (holds : (g.D.World.outside c.args.disk.now).disk ≡ Some image)
    → Committed (g.D.World.outside c.read_volume.new.disk).images (reads g c image holds).decoded image c.in_ok-parts.parts.log c.in_ok-parts.parts.meta.committed
committed g c image honest holds =
    let p = c.in_ok-parts.parts in
    read_committed (g.D.World.outside c.args.disk.now) (g.D.World.outside c.sync.new.self) (g.D.World.outside c.read_volume.new.disk) image p.geometry p.log p.meta.committed (used_at p.units) (refs_at p.units) (is_held p.pages) honest holds c.sync.ensures.only c.in-Ok.ensures.settles
    c.read_volume.ensures.only.nothing (reads g c image holds)

-- the volume stood for a table, so no part of it fails
stood : (g : given.Over) (c : After-checkpoint g) (image : List ℕ) → (g.D.World.outside c.args.disk.now).disk ≡ Some image → (table : Table) × StandsFor image table
stood g c image holds = let read = reads g c image holds in (table_of (units_of read.decoded image) read.decoded.volume, record { decoded = read.decoded; parts = read.parts; same = refl })

whole : (g : given.Over) (c : After-checkpoint g) (image : List ℕ) (part : Part) → (g.D.World.outside c.args.disk.now).disk ≡ Some image → FirstBad image part → ⊥
whole g c image part holds bad = let table = stood g c image holds in no_part image table.0 part table.1 bad

pub returns-clause-stood : goal.returns-clause-stood
returns-clause-stood g c image holds = stood g (goal.at.returns-clause-stood g c).After-checkpoint image holds

pub returns-clause-left : goal.returns-clause-left
returns-clause-left g c image part holds bad = absurd (whole g (goal.at.returns-clause-left g c).After-checkpoint image part holds bad)

pub returns-in_default-checkpoint-clause-left : goal.returns-in_default-checkpoint-clause-left
returns-in_default-checkpoint-clause-left g c image part holds bad = absurd (whole g (goal.at.returns-in_default-checkpoint-clause-left g c).After-checkpoint image part holds bad)

leaves : (g : given.Over) (c : After-checkpoint g) (image : List ℕ) → IsTrue (g.D.World.outside c.args.disk.now).honest → (g.D.World.outside c.args.disk.now).disk ≡ Some image
    → Leaves (g.D.World.outside c.args.disk.now) (g.D.World.outside c.checkpoint.new.disk) (OpensAs (g.D.World.outside c.args.disk.now).images image)
leaves g c image honest holds =
    let read = reads g c image holds in
    let here = honest_on c.read_volume.ensures.only.nothing.only.goes (honest_on c.sync.ensures.only.only.goes honest) in
    opens_as (g.D.World.outside c.args.disk.now) (g.D.World.outside c.sync.new.self) (g.D.World.outside c.read_volume.new.disk) (g.D.World.outside c.checkpoint.new.disk) image read.decoded (g.D.World.is_world c.args.disk.now) honest
    c.sync.ensures.only c.read_volume.ensures.only.nothing (record { decoded = read.decoded; parts = read.parts; same = refl })
    (c.checkpoint.ensures.any_moment read.decoded image here (c.read_volume.ensures.only.nothing.disk ∙ (c.sync.ensures.only.disk ∙ holds)) (committed g c image honest holds))

pub returns-in_default-checkpoint-clause-any_moment : goal.returns-in_default-checkpoint-clause-any_moment
returns-in_default-checkpoint-clause-any_moment g c = leaves g (goal.at.returns-in_default-checkpoint-clause-any_moment g c).After-checkpoint

pub returns-clause-any_moment : goal.returns-clause-any_moment
returns-clause-any_moment g c = leaves g (goal.at.returns-clause-any_moment g c).After-checkpoint

pub returns-clause-opened : goal.returns-clause-opened
returns-clause-opened g c image honest holds =
    let after = (goal.at.returns-clause-opened g c).After-checkpoint in
    let p = c.in_ok-parts.parts in
    let read = reads g after image holds in
    let here = honest_on c.read_volume.ensures.only.nothing.only.goes (honest_on c.sync.ensures.only.only.goes honest) in
    opened_on (g.D.World.outside c.checkpoint.new.disk) image p.geometry p.log c.checkpoint.new.log p.meta.committed c.checkpoint.new.meta.committed (used_at p.units) (refs_at p.units) (is_held p.pages) read
    (c.in-Ok-checkpoint.ensures.done read.decoded image here (c.read_volume.ensures.only.nothing.disk ∙ (c.sync.ensures.only.disk ∙ holds)) (committed g after image honest holds))

pub returns-clause-parts : goal.returns-clause-parts
returns-clause-parts g c =
    let p = c.in_ok-parts.parts in
    let fresh = c.in_ok-parts.ensures.fresh in
    let closed = all_closed p.geometry p.log c.checkpoint.new.log p.meta c.checkpoint.new.meta p.groups c.checkpoint.new.groups fresh.log fresh.groups c.in_ok-parts.ensures.logged c.in-Ok-checkpoint.ensures.closed
    c.in-Ok-checkpoint.ensures.emptied c.in-Ok-checkpoint.ensures.forgotten c.checkpoint.ensures.nothing in
    record {
      fresh = record {
        log = c.checkpoint.ensures.log_geometry ∙ fresh.log;
        meta = c.checkpoint.ensures.same_geometry ∙ fresh.meta;
        working = c.checkpoint.ensures.working ∙ fresh.working;
        reached = fresh.reached;
        kept = fresh.kept;
        groups = closed.2;
      };
      log = closed.0;
      images = closed.1;
    }

pub returns-clause-rests : goal.returns-clause-rests
returns-clause-rests g c image honest holds =
    let here = honest_on c.read_volume.ensures.only.nothing.only.goes (honest_on c.sync.ensures.only.only.goes honest) in
    rests_as image _ (returns-clause-parts g c) (honest_on c.checkpoint.ensures.only.goes here)
    (omega (arith, c.in_ok-parts.ensures.room, c.read_volume.ensures.only.nothing.only.goes.size, c.checkpoint.ensures.only.goes.size)) (returns-clause-opened g c image honest holds)

-- ---- what the disk holds

pub returns-in_default-clause-holds : goal.returns-in_default-clause-holds
returns-in_default-clause-holds g c image honest holds = holds_still (g.D.World.outside c.sync.new.self) image (c.sync.ensures.only.disk ∙ holds)

pub returns-in_err-parts-clause-holds : goal.returns-in_err-parts-clause-holds
returns-in_err-parts-clause-holds g c image honest holds = holds_still (g.D.World.outside c.read_volume.new.disk) image (c.read_volume.ensures.only.nothing.disk ∙ (c.sync.ensures.only.disk ∙ holds))

held : (g : given.Over) (c : After-checkpoint g) (image : List ℕ) → IsTrue (g.D.World.outside c.args.disk.now).honest → (g.D.World.outside c.args.disk.now).disk ≡ Some image
    → HoldsAs image (g.D.World.outside c.checkpoint.new.disk)
held g c image honest holds =
    let read = reads g c image holds in
    let here = honest_on c.read_volume.ensures.only.nothing.only.goes (honest_on c.sync.ensures.only.only.goes honest) in
    let still = c.read_volume.ensures.only.nothing.disk ∙ (c.sync.ensures.only.disk ∙ holds) in
    holds_same (g.D.World.outside c.read_volume.new.disk) (g.D.World.outside c.checkpoint.new.disk) image read.decoded (g.D.World.is_world c.checkpoint.new.disk) read.parts still c.checkpoint.ensures.only.goes.disk_told
    (c.checkpoint.ensures.any_moment read.decoded image here still (committed g c image honest holds))

pub returns-in_default-checkpoint-clause-holds : goal.returns-in_default-checkpoint-clause-holds
returns-in_default-checkpoint-clause-holds g c = held g (goal.at.returns-in_default-checkpoint-clause-holds g c).After-checkpoint

pub returns-clause-holds : goal.returns-clause-holds
returns-clause-holds g c = held g (goal.at.returns-clause-holds g c).After-checkpoint

-- ---- where it writes

pub returns-in_default-clause-clean : goal.returns-in_default-clause-clean
returns-in_default-clause-clean g c image d holds parts none = c.sync.ensures.only

pub returns-in_err-parts-clause-clean : goal.returns-in_err-parts-clause-clean
returns-in_err-parts-clause-clean g c image d holds parts none = writes_nothing_trans c.sync.ensures.only c.read_volume.ensures.only.nothing

clean : (g : given.Over) (c : After-checkpoint g) (image : List ℕ) (d : Decoded) → (g.D.World.outside c.args.disk.now).disk ≡ Some image → Decodes image d
    → d.records ≡ [] → WritesNothing (g.D.World.outside c.args.disk.now) (g.D.World.outside c.checkpoint.new.disk)
clean g c image d holds parts none =
    let count = none_counts parts (reads g c image holds) none in
    subst (λ w. WritesNothing (g.D.World.outside c.args.disk.now) (g.D.World.outside w)) (sym (c.checkpoint.ensures.no_call count))
    (writes_nothing_trans c.sync.ensures.only c.read_volume.ensures.only.nothing)

pub returns-in_default-checkpoint-clause-clean : goal.returns-in_default-checkpoint-clause-clean
returns-in_default-checkpoint-clause-clean g c = clean g (goal.at.returns-in_default-checkpoint-clause-clean g c).After-checkpoint

pub returns-clause-clean : goal.returns-clause-clean
returns-clause-clean g c = clean g (goal.at.returns-clause-clean g c).After-checkpoint

pub returns-in_default-clause-writes : goal.returns-in_default-clause-writes
returns-in_default-clause-writes g c image d holds parts = changes_nothing (InLogOrLogged d) c.sync.ensures.only

pub returns-in_err-parts-clause-writes : goal.returns-in_err-parts-clause-writes
returns-in_err-parts-clause-writes g c image d holds parts =
    changes_nothing (InLogOrLogged d) (writes_nothing_trans c.sync.ensures.only c.read_volume.ensures.only.nothing)

writes : (g : given.Over) (c : After-checkpoint g) (image : List ℕ) (d : Decoded) → (g.D.World.outside c.args.disk.now).disk ≡ Some image → Decodes image d
    → ChangesWithin (InLogOrLogged d) (g.D.World.outside c.args.disk.now) (g.D.World.outside c.checkpoint.new.disk)
writes g c image d holds parts =
    let p = c.in_ok-parts.parts in
    changes_trans (changes_nothing (InLogOrLogged d) (writes_nothing_trans c.sync.ensures.only c.read_volume.ensures.only.nothing))
    (logged_homes parts (reads g c image holds) p.meta.geometry c.in_ok-parts.ensures.fresh.meta c.checkpoint.ensures.writes)

pub returns-in_default-checkpoint-clause-writes : goal.returns-in_default-checkpoint-clause-writes
returns-in_default-checkpoint-clause-writes g c = writes g (goal.at.returns-in_default-checkpoint-clause-writes g c).After-checkpoint

pub returns-clause-writes : goal.returns-clause-writes
returns-clause-writes g c = writes g (goal.at.returns-clause-writes g c).After-checkpoint

-- ---- since when nothing of before is left

pub returns-in_default-clause-parted : goal.returns-in_default-clause-parted
returns-in_default-clause-parted g c other = absurd (other refl)

pub returns-in_err-parts-clause-parted : goal.returns-in_err-parts-clause-parted
returns-in_err-parts-clause-parted g c other image honest holds =
    let b = g.D.World.outside c.sync.new.self in
    let e = g.D.World.outside c.read_volume.new.disk in
    let quiet = c.read_volume.ensures.only.nothing in
    let here = honest_on c.sync.ensures.only.only.goes honest in
    parted_at (g.D.World.outside c.args.disk.now) b e e image (g.D.World.is_world c.sync.new.self) honest holds c.sync.ensures.only
    c.in-Ok.ensures.settles quiet
    (leaves_start e (StaysAs image) (g.D.World.is_world c.read_volume.new.disk)
    (λ d now. inl (c.in-Ok.ensures.settles honest image holds d (quiet.back here d now))))

parted : (g : given.Over) (c : After-checkpoint g) (image : List ℕ) → IsTrue (g.D.World.outside c.args.disk.now).honest
    → (g.D.World.outside c.args.disk.now).disk ≡ Some image
    → PartsMoments (g.D.World.outside c.args.disk.now) (g.D.World.outside c.checkpoint.new.disk) image
parted g c image honest holds =
    let read = reads g c image holds in
    let here = honest_on c.read_volume.ensures.only.nothing.only.goes (honest_on c.sync.ensures.only.only.goes honest) in
    parted_at (g.D.World.outside c.args.disk.now) (g.D.World.outside c.sync.new.self) (g.D.World.outside c.read_volume.new.disk)
    (g.D.World.outside c.checkpoint.new.disk) image (g.D.World.is_world c.sync.new.self) honest holds
    c.sync.ensures.only c.in-Ok.ensures.settles c.read_volume.ensures.only.nothing
    (stays_as image read.decoded read.parts
    (c.checkpoint.ensures.any_moment read.decoded image here (c.read_volume.ensures.only.nothing.disk ∙ (c.sync.ensures.only.disk ∙ holds))
    (committed g c image honest holds)))

pub returns-in_default-checkpoint-clause-parted : goal.returns-in_default-checkpoint-clause-parted
returns-in_default-checkpoint-clause-parted g c other = absurd (other refl)

pub returns-clause-parted : goal.returns-clause-parted
returns-clause-parted g c other = parted g (goal.at.returns-clause-parted g c).After-checkpoint
