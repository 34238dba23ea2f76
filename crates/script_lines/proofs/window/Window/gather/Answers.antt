use Rattle.std.proofs.Common.{◌≡◌, ◌-◌, ◌≤◌, ℕ, List, length, slice_index, ap, subst, ◌∙◌, arith}
use Rattle.disk_model.specs.Runs.{source_trans}
use Rattle.std.proofs.lemmas.List.{get_or_append_left}
use Rattle.script_lines.specs.Lines.{line_feed}
use Rattle.script_lines.specs.Remains.{between, ClearTo}
use Rattle.script_lines.specs.Windows.{held, may_take}
use Rattle.script_lines.proofs.Buffers.{length_between, draws_trans, same_script_trans}
use Rattle.script_lines.proofs.window.Window.gather.Goals as goal

pub returns-in_err-fill-clause-only : goal.returns-in_err-fill-clause-only
returns-in_err-fill-clause-only g c = source_trans c.gathered.invariant.only c.fill.ensures.only

pub returns-then-not-branch-clause-only : goal.returns-then-not-branch-clause-only
returns-then-not-branch-clause-only g c = source_trans c.gathered.invariant.only c.fill.ensures.only

pub gathered-preserved : goal.gathered-preserved
gathered-preserved g c =
    let first = c.args.self.now in
    let s = c.gathered.self in
    let n = c.fill.new.self in
    let left = (g.S.World.outside c.args.source.now).left in
    let middle = (g.S.World.outside c.gathered.source).left in
    let is = (g.S.World.outside c.fill.new.source).left in
    let size : length (between s.buffer.items s.start s.end) ≡ s.end - s.start = length_between s.buffer.items s.start s.end (omega (arith, s.inside, s.buffer.ok.0)) in
    let front = c.in_ok-fill.ensures.front in
    let same : c.deref.result.now ≡ s.buffer.items = c.deref.ensures.value in
    let seen : ClearTo (between s.buffer.items s.start s.end) (length (between s.buffer.items s.start s.end)) × (length (between s.buffer.items s.start s.end) ≤ s.allowed) =
    subst (λ (l : List ℕ). ClearTo (between l s.start s.end) (length (between l s.start s.end)) × (length (between l s.start s.end) ≤ s.allowed)) same (c.in_default.ensures.0, c.in_default.ensures.1) in
    record {
      inside = c.in_ok-fill.ensures.len;
      within = omega (arith, size, seen.1, c.fill.ensures.allowed);
      searched = λ j lt.
          ap (λ (l : List ℕ). line_feed (slice_index l j)) front.1
          ∙ ap line_feed (get_or_append_left (held s) front.0 0 j (omega (arith, size, lt)))
          ∙ seen.0 j (omega (arith, size, lt));
      allowed = c.fill.ensures.allowed ∙ c.gathered.invariant.allowed;
      only = source_trans c.gathered.invariant.only c.fill.ensures.only;
      script = same_script_trans (held first) (held s) (held n) left middle is c.gathered.invariant.script c.in_ok-fill.ensures.script;
      drawn = draws_trans (may_take first) (may_take s) (may_take n) left middle is c.gathered.invariant.drawn c.fill.ensures.drawn;
    }
