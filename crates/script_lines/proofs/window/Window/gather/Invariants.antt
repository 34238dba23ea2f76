use Rattle.std.proofs.Common.{◌≡◌, ◌≤◌, ◌+◌, ◌-◌}
use Rattle.disk_model.specs.Outside.{SourceOnly}
use Rattle.script_lines.specs.Remains.{ClearTo, SameScript, Draws}
use Rattle.script_lines.specs.Windows.{held, may_take}
use Rattle.script_lines.proofs.window.Window.gather.Given as goal

abbrev pub invariant-gathered : goal.invariant-gathered
invariant-gathered g l = record {
  inside : l.clear ≤ l.self.end - l.self.start;
  within : l.clear ≤ l.self.allowed;
  searched : ClearTo (held l.self) l.clear;
  allowed : l.self.allowed ≡ l.initial.self.allowed;
  only : SourceOnly (g.S.World.outside l.initial.source) (g.S.World.outside l.source);
  script : SameScript (held l.initial.self) (g.S.World.outside l.initial.source).left (held l.self) (g.S.World.outside l.source).left;
  drawn : Draws (may_take l.initial.self) (g.S.World.outside l.initial.source).left (may_take l.self) (g.S.World.outside l.source).left;
}

abbrev pub decreases-gathered : goal.decreases-gathered
decreases-gathered g l = l.self.allowed + 1 - (l.self.end - l.self.start)
