-- Sizes of buffers, and what is paid, at a later state.
use Rattle.std.proofs.Common.{ℕ, ◌-◌, subst}
use Rattle.ex_base.specs.declared.geometry.Geometry.{Geometry}
use Rattle.ex_base.specs.declared.ground.Ground as ground
use Rattle.ex_base.specs.declared.names.Area.{Area}
use Rattle.ex_base.specs.declared.names.Area.TheVariants.{Page}
use Rattle.ex_base.specs.Ports.{Keeps}
use Rattle.ex_base.specs.Needs.{growth_leaves}
use Rattle.tree_insert.specs.Grown.{IsPaid}

pub paid_at : {S : Type 0} (g : ground.Ghosts S) (a b c : S) (level n old new : ℕ) → Keeps g a b → IsPaid (g.geometry b).fan (growth_leaves (g.geometry b) n) (level - 1) (g.free b Page) (g.free c Page) old new
    → IsPaid (g.geometry a).fan (growth_leaves (g.geometry a) n) (level - 1) (g.free a Page) (g.free c Page) old new
paid_at g a b c level n old new k h =
    subst (λ (f : Area → ℕ). IsPaid (g.geometry a).fan (growth_leaves (g.geometry a) n) (level - 1) (f Page) (g.free c Page) old new) k.free
    (subst (λ (geo : Geometry). IsPaid geo.fan (growth_leaves geo n) (level - 1) (g.free b Page) (g.free c Page) old new) (g.leads_geometry a b k.leads) h)
