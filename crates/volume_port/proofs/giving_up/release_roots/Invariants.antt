use Rattle.std.proofs.Common.{◌≡◌, ◌≤◌, ℕ, drop}
use Rattle.ex_base.specs.declared.names.Area.TheVariants.{Page}
use Rattle.page_alloc.specs.UnitSet.{free_count, refs_at, used_at}
use Rattle.volume_port.specs.Giving.{is_logged}
use Rattle.volume_port.specs.GivingUp.{GivesTrees}
use Rattle.volume_port.proofs.GivingUp.{LeavesRoots}
use Rattle.volume_port.proofs.giving_up.release_roots.Given as goal

-- the trees so far were given up, and those of the other roots own their units
abbrev pub invariant-loop-root : goal.invariant-loop-root
invariant-loop-root g l = record {
  gives : GivesTrees (is_logged l.pages l.kept) l.geometry (g.D.World.outside l.fn.disk) (g.D.World.outside l.disk) l.fn.units l.units l.fn.groups l.groups;
  left : LeavesRoots l.pages l.kept l.geometry (g.D.World.outside l.fn.disk) l.fn.groups l.fn.units l.units l.roots (drop l.root-index l.roots);
  refs : (unit : ℕ) → refs_at l.units unit ≤ refs_at l.fn.units unit;
  quiet : free_count l.units.geometry (used_at l.units) Page ≡ free_count l.fn.units.geometry (used_at l.fn.units) Page → l.disk ≡ l.fn.disk;
}
