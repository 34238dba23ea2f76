use Rattle.std.proofs.Common.{◌≡◌, ◌⊎◌, inl, ℕ, List, nat_eq, sym, ap, subst, ◌∙◌}
use Rattle.std.specs.Map.{lookup}
use Rattle.ex_base.specs.Area.{catalog_no}
use Rattle.disk_model.specs.Runs.{disk_refl, leaves_start, leaves_wider}
use Rattle.ex_base.proofs.Results.{if_ok_on_ok}
use Rattle.meta_pages.specs.Overlays.{Overlays}
use Rattle.table_model.specs.Tables.{empty_table}
use Rattle.volume_model.specs.Committed.{Committed, IsOverlayOf, MayCommit, StandsForEither}
use Rattle.volume_model.specs.Parts.{StandsFor}
use Rattle.volume_model.specs.Volume.{Decoded, table_of, units_of}
use Rattle.volume_port.specs.State.{IsAtRest}
use Rattle.history_load.specs.Loads.{IsDumpImage, LoadsAs}
use Rattle.history_load.proofs.CommittedLoads.{either_load, holds_dump, loads_there, may_commit, no_overlay, was_empty}
use Rattle.history_load.proofs.NewCatalogs.{catalog_row}
use Rattle.history_load.proofs.loaded.commit_loaded.Given as given
use Rattle.history_load.proofs.loaded.commit_loaded.Goals as goal
use Rattle.history_load.proofs.loaded.commit_loaded.Goals.{After-commit}

pub returns-in_default-clause-any_moment : goal.returns-in_default-clause-any_moment
returns-in_default-clause-any_moment g c d image stream rests empty loads =
    let w = g.D.World.outside c.args.disk.now in
    leaves_start w (λ e. StandsFor e empty_table ⊎ IsDumpImage c.args.volume.geometry stream e) (g.D.World.is_world c.args.disk.now) (λ e may. inl (was_empty w c.args.volume d image rests empty e may))

pub commit-requires-clause-catalog : goal.commit-requires-clause-catalog
commit-requires-clause-catalog g c = (c.deref.result.now, ap (λ (m : Overlays). lookup (nat_eq catalog_no) m.working) c.in-Ok.ensures.ok)

-- ---- what the commit has before it

rows : (g : given.Over) (c : After-commit g) → c.start.new.self.working ≡ catalog_row c.args.loaded.now.catalog.items
rows g c = ap (λ (m : Overlays). m.working) c.in-Ok.ensures.ok ∙ ap catalog_row c.deref.ensures.value

images : (g : given.Over) (c : After-commit g) → c.args.volume.meta.committed ≡ c.start.new.self.committed
images g c = sym (ap (λ (m : Overlays). m.committed) c.in-Ok.ensures.ok)

module _ (g : given.Over) (c : After-commit g) (d : Decoded) (image stream : List ℕ) (rests : IsAtRest (g.D.World.outside c.args.disk.now) c.args.volume d image)
    (empty : table_of (units_of d image) d.volume ≡ empty_table) (loads : LoadsAs c.args.volume.geometry image stream c.args.loaded.now.catalog.items c.args.loaded.now.last c.args.loaded.now.leaves) where
  there : LoadsAs d.geometry image stream c.args.loaded.now.catalog.items c.args.loaded.now.last c.args.loaded.now.leaves
  there = loads_there (g.D.World.outside c.args.disk.now) c.args.volume d image rests empty stream c.args.loaded.now.catalog.items c.args.loaded.now.last c.args.loaded.now.leaves loads

  committed : Committed (g.D.World.outside c.args.disk.now).images d image c.args.volume.log c.start.new.self.committed
  committed = subst (Committed (g.D.World.outside c.args.disk.now).images d image c.args.volume.log) (images g c) rests.committed

  overlay : IsOverlayOf d.volume c.start.new.self.committed
  overlay = subst (IsOverlayOf d.volume) (images g c) (no_overlay (g.D.World.outside c.args.disk.now) c.args.volume d image rests empty)

  may : MayCommit d image c.start.new.self.working c.args.loaded.now.last there.volume
  may = may_commit (g.D.World.outside c.args.disk.now) c.args.volume d image rests empty stream c.args.loaded.now.catalog.items c.args.loaded.now.last c.args.loaded.now.leaves there c.start.new.self.working (rows g c)

pub returns-clause-done : goal.returns-clause-done
returns-clause-done g c = if_ok_on_ok c.commit.result _ _ (λ u done d image stream rests empty loads.
    let at = (goal.at.returns-clause-done g c).After-commit in
    let work = there g at d image stream rests empty loads in
    let later = done d image work.volume rests.told.0 rests.holds (committed g at d image stream rests empty loads) (overlay g at d image stream rests empty loads) (may g at d image stream rests empty loads) in
    holds_dump (g.D.World.outside c.args.disk.now) c.args.volume d image rests empty stream c.args.loaded.now.catalog.items c.args.loaded.now.last c.args.loaded.now.leaves work c.start.new.self.working (rows g at)
    (g.D.World.outside c.commit.new.disk) _ later.0 _ _ later.1 later.2) c.commit.ensures.done

pub returns-clause-any_moment : goal.returns-clause-any_moment
returns-clause-any_moment g c d image stream rests empty loads =
    let at = (goal.at.returns-clause-any_moment g c).After-commit in
    let work = there g at d image stream rests empty loads in
    leaves_wider (StandsForEither d image c.start.new.self.working work.volume) (λ e. StandsFor e empty_table ⊎ IsDumpImage c.args.volume.geometry stream e)
    (c.commit.ensures.any_moment d image work.volume rests.told.0 rests.holds (committed g at d image stream rests empty loads) (overlay g at d image stream rests empty loads) (may g at d image stream rests empty loads))
    (either_load (g.D.World.outside c.args.disk.now) c.args.volume d image rests empty stream c.args.loaded.now.catalog.items c.args.loaded.now.last c.args.loaded.now.leaves work c.start.new.self.working (rows g at))

pub returns-in_default-clause-only : goal.returns-in_default-clause-only
returns-in_default-clause-only g c = disk_refl (g.D.World.outside c.args.disk.now)
