use Rattle.std.proofs.Common.{◌≡◌, ℕ, [], Ok, Err, ap, subst, sym, ◌∙◌}
use Rattle.std.proofs.lemmas.Bool.{false≢true}
use Rattle.object_files.specs.Catalog.{Catalog}
use Rattle.meta_pages.specs.Overlays.{Overlays, image_at}
use Rattle.op_log.specs.AfterLog.{logged}
use Rattle.volume_model.specs.Homes.{home}
use Rattle.volume_model.proofs.OneReading.{one_catalog}
use Rattle.history_load.specs.Reached.{IsWalked}
use Rattle.history_load.specs.declared.ending.FinishFault.TheVariants.{Bad as FinishBad, Disk as FinishDisk, Memory as FinishMemory}
use Rattle.history_load.proofs.EndFaults.{ends_by_disk, ends_bad}
use Rattle.history_load.proofs.WalkedBack.{leaves_used, nodes_in_trees, none_bad}
use Rattle.history_load.proofs.WalkedUnits.{walked}
use Rattle.history_load.proofs.ending.walk_written.Goals as goal

pub returns-in-Err-BadVolume-clause-walked : goal.returns-in-Err-BadVolume-clause-walked
returns-in-Err-BadVolume-clause-walked g c = tt

pub returns-in-Err-BadVolume-clause-bad : goal.returns-in-Err-BadVolume-clause-bad
returns-in-Err-BadVolume-clause-bad g c e catalog image spelled holds found =
    let p = c.args.progress.now in
    let none : (page : ℕ) → image_at c.args.meta.now page ≡ logged [] page = λ page. ap (λ (m : Overlays). image_at m page) c.requires.overlay in
    let same = one_catalog c.args.catalog.now catalog c.in-Some.view spelled c.in-Some.ensures.found in
    let there = subst (λ (x : Catalog). IsWalked p.geometry (home p.geometry image) x p.head.leaves p.head.nodes) same found in
    none_bad p.geometry (home p.geometry image) c.in-Some.view p.head.leaves p.head.nodes there c.in-Err-BadVolume.field-0-0 (c.in-Err-BadVolume.ensures.bad c.in-Err-BadVolume.field-0-0 image [] (ap Err c.in-Err-BadVolume.field-0-is) holds none)

pub returns-then-not-are_leaves_used-clause-bad : goal.returns-then-not-are_leaves_used-clause-bad
returns-then-not-are_leaves_used-clause-bad g c e catalog image spelled holds found =
    let p = c.args.progress.now in
    let none : (page : ℕ) → image_at c.args.meta.now page ≡ logged [] page = λ page. ap (λ (m : Overlays). image_at m page) c.requires.overlay in
    let same = one_catalog c.args.catalog.now catalog c.in-Some.view spelled c.in-Some.ensures.found in
    let there = subst (λ (x : Catalog). IsWalked p.geometry (home p.geometry image) x p.head.leaves p.head.nodes) same found in
    let used = leaves_used p.geometry (home p.geometry image) c.in-Some.view p.head.leaves p.head.nodes there c.in-Ok.reached (c.in-Ok.ensures.holds image [] holds none) in
    false≢true (sym c.if-not-are_leaves_used.true ∙ c.are_leaves_used.ensures.1 used)

pub returns-then-not-are_nodes_in_trees-clause-bad : goal.returns-then-not-are_nodes_in_trees-clause-bad
returns-then-not-are_nodes_in_trees-clause-bad g c e catalog image spelled holds found =
    let p = c.args.progress.now in
    let none : (page : ℕ) → image_at c.args.meta.now page ≡ logged [] page = λ page. ap (λ (m : Overlays). image_at m page) c.requires.overlay in
    let same = one_catalog c.args.catalog.now catalog c.in-Some.view spelled c.in-Some.ensures.found in
    let there = subst (λ (x : Catalog). IsWalked p.geometry (home p.geometry image) x p.head.leaves p.head.nodes) same found in
    let in_trees = nodes_in_trees p.geometry (home p.geometry image) c.in-Some.view p.head.leaves p.head.nodes there c.in-Ok.reached (c.in-Ok.ensures.holds image [] holds none) in
    false≢true (sym c.if-not-are_nodes_in_trees.true ∙ c.are_nodes_in_trees.ensures.1 in_trees)

pub returns-clause-walked : goal.returns-clause-walked
returns-clause-walked g c catalog image spelled holds =
    let p = c.args.progress.now in
    let none : (page : ℕ) → image_at c.args.meta.now page ≡ logged [] page = λ page. ap (λ (m : Overlays). image_at m page) c.requires.overlay in
    let same = one_catalog c.args.catalog.now c.in-Some.view catalog c.in-Some.ensures.found spelled in
    subst (λ (x : Catalog). IsWalked p.geometry (home p.geometry image) x p.head.leaves p.head.nodes) same
    (walked p.geometry (home p.geometry image) c.in-Some.view c.in-Ok.reached (c.in-Ok.ensures.holds image [] holds none) p.head.leaves p.head.nodes c.requires.leaves
    (c.are_leaves_used.ensures.0 c.if-not-are_leaves_used.false) (c.are_nodes_in_trees.ensures.0 c.if-not-are_nodes_in_trees.false))

-- ---- what else is promised

pub returns-in-Err-Memory-clause-only : goal.returns-in-Err-Memory-clause-only
returns-in-Err-Memory-clause-only g c = c.walk_volume.ensures.only

pub returns-in-Err-Memory-clause-walked : goal.returns-in-Err-Memory-clause-walked
returns-in-Err-Memory-clause-walked g c = tt

pub returns-in-Err-Memory-clause-cause : goal.returns-in-Err-Memory-clause-cause
returns-in-Err-Memory-clause-cause g c = λ e. absurd (ends_by_disk (Err FinishMemory) e)

pub returns-in-Err-Memory-clause-bad : goal.returns-in-Err-Memory-clause-bad
returns-in-Err-Memory-clause-bad g c = λ e catalog image spelled holds found. absurd (ends_bad (Err FinishMemory) e)

pub returns-in-Err-Disk-clause-only : goal.returns-in-Err-Disk-clause-only
returns-in-Err-Disk-clause-only g c = c.walk_volume.ensures.only

pub returns-in-Err-Disk-clause-walked : goal.returns-in-Err-Disk-clause-walked
returns-in-Err-Disk-clause-walked g c = tt

pub returns-in-Err-Disk-clause-cause : goal.returns-in-Err-Disk-clause-cause
returns-in-Err-Disk-clause-cause g c = λ e. c.in-Err-Disk.ensures.cause (ap Err c.in-Err-Disk.field-0-is)

pub returns-in-Err-Disk-clause-bad : goal.returns-in-Err-Disk-clause-bad
returns-in-Err-Disk-clause-bad g c = λ e catalog image spelled holds found. absurd (ends_bad (Err FinishDisk) e)

pub returns-in-Err-BadVolume-clause-only : goal.returns-in-Err-BadVolume-clause-only
returns-in-Err-BadVolume-clause-only g c = c.walk_volume.ensures.only

pub returns-in-Err-BadVolume-clause-cause : goal.returns-in-Err-BadVolume-clause-cause
returns-in-Err-BadVolume-clause-cause g c = λ e. absurd (ends_by_disk (Err FinishBad) e)

pub returns-then-not-are_leaves_used-clause-only : goal.returns-then-not-are_leaves_used-clause-only
returns-then-not-are_leaves_used-clause-only g c = c.walk_volume.ensures.only

pub returns-then-not-are_leaves_used-clause-walked : goal.returns-then-not-are_leaves_used-clause-walked
returns-then-not-are_leaves_used-clause-walked g c = tt

pub returns-then-not-are_leaves_used-clause-cause : goal.returns-then-not-are_leaves_used-clause-cause
returns-then-not-are_leaves_used-clause-cause g c = λ e. absurd (ends_by_disk (Err FinishBad) e)

pub returns-then-not-are_nodes_in_trees-clause-only : goal.returns-then-not-are_nodes_in_trees-clause-only
returns-then-not-are_nodes_in_trees-clause-only g c = c.walk_volume.ensures.only

pub returns-then-not-are_nodes_in_trees-clause-walked : goal.returns-then-not-are_nodes_in_trees-clause-walked
returns-then-not-are_nodes_in_trees-clause-walked g c = tt

pub returns-then-not-are_nodes_in_trees-clause-cause : goal.returns-then-not-are_nodes_in_trees-clause-cause
returns-then-not-are_nodes_in_trees-clause-cause g c = λ e. absurd (ends_by_disk (Err FinishBad) e)

pub returns-clause-only : goal.returns-clause-only
returns-clause-only g c = c.walk_volume.ensures.only

pub returns-clause-cause : goal.returns-clause-cause
returns-clause-cause g c = λ e. absurd (ends_by_disk (Ok tt) e)

pub returns-clause-bad : goal.returns-clause-bad
returns-clause-bad g c = λ e catalog image spelled holds found. absurd (ends_bad (Ok tt) e)

pub walk_volume-requires-clause-room : goal.walk_volume-requires-clause-room
walk_volume-requires-clause-room g c = c.requires.room

pub walk_volume-requires-clause-geometry : goal.walk_volume-requires-clause-geometry
walk_volume-requires-clause-geometry g c = ap (λ (m : Overlays). m.geometry) c.requires.overlay
