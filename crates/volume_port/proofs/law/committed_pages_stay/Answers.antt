use Rattle.std.proofs.Common.{◌≡◌, ℕ, List, Some, sym, subst}
use Rattle.std.specs.Prelude.{Contains}
use Rattle.ex_base.specs.declared.geometry.Geometry.{Geometry}
use Rattle.disk_model.specs.Changes.{ChangesWithin}
use Rattle.page_alloc.specs.UnitSet.{used_at}
use Rattle.tree_store.specs.Stored.{InRest, IsCounted}
use Rattle.volume_model.specs.Shown.{PageRow}
use Rattle.volume_port.specs.Stays.{StaysUsed, StillCommitted}
use Rattle.volume_port.proofs.Staying.{stands_meanwhile, stays_on}
use Rattle.volume_port.proofs.law.committed_pages_stay.Goals as goal

pub returns-clause-stays : goal.returns-clause-stays
returns-clause-stays g c = λ gone d disk log moves ready geometry honest holds committed safe.
    let freed : ℕ → Type 0 = λ unit. Contains gone unit in
    let a = c.args.before.now in
    let b = c.args.after.now in
    let was = g.D.World.outside a.store.disk.now in
    let is = g.D.World.outside b.store.disk.now in
    let counted = subst (λ (h : Geometry). IsCounted h a.store.units.now) (sym geometry) ready.ready.counted in
    let changes = subst (λ (h : Geometry). ChangesWithin (InRest h (used_at a.store.units.now) freed) was is) (sym geometry) moves.store.changes in
    subst (λ (overlay : List PageRow). (later : List ℕ) × ((is.disk ≡ Some later) × StillCommitted (StaysUsed freed (used_at a.store.units.now)) (StaysUsed freed (used_at b.store.units.now)) d disk is.images later log overlay)) (sym moves.committed)
    (stays_on d disk freed a.store.units.now b.store.units.now counted safe was is changes honest log a.meta.now.committed committed holds (λ unit (is, stays). (moves.used unit is stays, stays)))

pub returns-clause-meanwhile : goal.returns-clause-meanwhile
returns-clause-meanwhile g c = λ gone d disk log moves ready geometry honest holds committed safe.
    let freed : ℕ → Type 0 = λ unit. Contains gone unit in
    let a = c.args.before.now in
    let b = c.args.after.now in
    let was = g.D.World.outside a.store.disk.now in
    let is = g.D.World.outside b.store.disk.now in
    let counted = subst (λ (h : Geometry). IsCounted h a.store.units.now) (sym geometry) ready.ready.counted in
    let changes = subst (λ (h : Geometry). ChangesWithin (InRest h (used_at a.store.units.now) freed) was is) (sym geometry) moves.store.changes in
    stands_meanwhile d disk freed a.store.units.now b.store.units.now counted safe was is changes honest log a.meta.now.committed committed (g.D.World.is_world a.store.disk.now)
