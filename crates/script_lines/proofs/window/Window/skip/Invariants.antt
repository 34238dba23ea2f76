use Rattle.std.proofs.Common.{◌≤◌}
use Rattle.disk_model.specs.Outside.{SourceOnly}
use Rattle.script_lines.specs.Remains.{Moves, Draws}
use Rattle.script_lines.specs.Passing.{Drops}
use Rattle.script_lines.specs.Windows.{held, may_take}
use Rattle.script_lines.proofs.window.Window.skip.Given as goal

abbrev pub invariant-skipped : goal.invariant-skipped
invariant-skipped g l = record {
  only : SourceOnly (g.S.World.outside l.initial.source) (g.S.World.outside l.source);
  no_more : l.self.allowed ≤ l.initial.self.allowed;
  drops : Moves (held l.initial.self) (g.S.World.outside l.initial.source).left (held l.self) (g.S.World.outside l.source).left
      (λ script rest. Drops l.initial.self.allowed script l.self.allowed rest);
  drawn : Draws (may_take l.initial.self) (g.S.World.outside l.initial.source).left (may_take l.self) (g.S.World.outside l.source).left;
}

abbrev pub decreases-skipped : goal.decreases-skipped
decreases-skipped g l = l.self.allowed
