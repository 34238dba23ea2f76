use Rattle.std.proofs.Common.{List, ℕ, ◌≡◌, ◌≤◌, ◌-◌, ◌∙◌, length, drop, subst, sym, ap, arith}
use Rattle.disk_model.specs.Runs.{source_trans}
use Rattle.script_lines.specs.Remains.{Draws}
use Rattle.script_lines.specs.Windows.{held, may_take}
use Rattle.script_lines.proofs.Buffers.{length_between, draws_trans}
use Rattle.script_lines.proofs.Skipping.{drops_full, skips_feed, skips_rest, skips_clear}
use Rattle.script_lines.proofs.window.Window.skip.Goals as goal

pub returns-in-Some-TooMuch-clause-clear : goal.returns-in-Some-TooMuch-clause-clear
returns-in-Some-TooMuch-clause-clear g c = λ same.
    let first = c.args.self.now in
    let s = c.skipped.self in
    let n = c.gather.new.self in
    let found = rw c.in-Some-TooMuch.field-0-is at (rw c.in-Some-TooMuch.is at c.in_ok-gather.ensures.found) in
    skips_clear (held first) (g.S.World.outside c.args.source.now).left (held s) (g.S.World.outside c.skipped.source).left (held n) (g.S.World.outside c.gather.new.source).left
    first.allowed s.allowed c.skipped.invariant.drops c.in_ok-gather.ensures.script
    (λ j lt. found.0 j (omega (arith, c.in_ok-gather.ensures.allowed))) (omega (arith, found.1, c.in_ok-gather.ensures.allowed))

pub returns-in-Some-Feed-clause-passes : goal.returns-in-Some-Feed-clause-passes
returns-in-Some-Feed-clause-passes g c =
    let first = c.args.self.now in
    let s = c.skipped.self in
    let n = c.gather.new.self in
    let at : ℕ = c.in-Some-Feed.at in
    let found = rw c.in-Some-Feed.field-0-is at (rw c.in-Some-Feed.is at c.in_ok-gather.ensures.found) in
    skips_feed (held first) (g.S.World.outside c.args.source.now).left (held s) (g.S.World.outside c.skipped.source).left (held n) (g.S.World.outside c.gather.new.source).left
    first.allowed s.allowed c.skipped.invariant.drops c.in_ok-gather.ensures.script
    at found.0 found.2 found.3 c.pass.new.self.allowed (c.pass.ensures.allowed ∙ c.in_ok-gather.ensures.allowed) (held c.pass.new.self) c.pass.ensures.bytes

pub returns-in-None-clause-passes : goal.returns-in-None-clause-passes
returns-in-None-clause-passes g c =
    let first = c.args.self.now in
    let s = c.skipped.self in
    let n = c.gather.new.self in
    let m = c.pass-in-None.new.self in
    let p : List ℕ = held n in
    let found = rw c.in-None.is at c.in_ok-gather.ensures.found in
    let inside : n.end ≤ length n.buffer.items = omega (arith, n.buffer.ok.0) in
    let size : length p ≡ n.end - n.start = length_between n.buffer.items n.start n.end inside in
    skips_rest (held first) (g.S.World.outside c.args.source.now).left (held s) (g.S.World.outside c.skipped.source).left p (g.S.World.outside c.gather.new.source).left
    first.allowed s.allowed c.skipped.invariant.drops c.in_ok-gather.ensures.script (c.in_ok-gather.ensures.rest c.in-None.is)
    found.0 m.allowed (omega (arith, c.pass-in-None.ensures.allowed, c.in_ok-gather.ensures.allowed)) (held m) (c.pass-in-None.ensures.bytes ∙ ap (λ (k : ℕ). drop k p) (sym size))

pub skipped-preserved : goal.skipped-preserved
skipped-preserved g c =
    let first = c.args.self.now in
    let s = c.skipped.self in
    let n = c.gather.new.self in
    let m = c.pass-in-Some-Full.new.self in
    let p : List ℕ = held n in
    let left = (g.S.World.outside c.args.source.now).left in
    let is = (g.S.World.outside c.gather.new.source).left in
    let found = rw c.in-Some-Full.field-0-is at (rw c.in-Some-Full.is at c.in_ok-gather.ensures.found) in
    let inside : n.end ≤ length n.buffer.items = omega (arith, n.buffer.ok.0) in
    let size : length p ≡ n.end - n.start = length_between n.buffer.items n.start n.end inside in
    let D : ℕ → Type 0 = λ k. Draws (may_take first) left k is in
    record {
      only = source_trans c.skipped.invariant.only c.in_ok-gather.ensures.only;
      no_more = omega (arith, c.skipped.invariant.no_more, c.in_ok-gather.ensures.allowed, c.pass-in-Some-Full.ensures.allowed);
      drops = drops_full (held first) left (held s) (g.S.World.outside c.skipped.source).left p is
          first.allowed s.allowed c.skipped.invariant.drops c.in_ok-gather.ensures.script
          found.0 m.allowed (omega (arith, c.pass-in-Some-Full.ensures.allowed, c.in_ok-gather.ensures.allowed)) (held m)
          (c.pass-in-Some-Full.ensures.bytes ∙ ap (λ (k : ℕ). drop k p) (sym size));
      drawn = subst D (sym c.pass-in-Some-Full.ensures.may)
          (draws_trans (may_take first) (may_take s) (may_take n) left (g.S.World.outside c.skipped.source).left is c.skipped.invariant.drawn c.gather.ensures.drawn);
    }

pub returns-in_err-gather-clause-only : goal.returns-in_err-gather-clause-only
returns-in_err-gather-clause-only g c = source_trans c.skipped.invariant.only c.gather.ensures.only

pub returns-in-Some-TooMuch-clause-only : goal.returns-in-Some-TooMuch-clause-only
returns-in-Some-TooMuch-clause-only g c = source_trans c.skipped.invariant.only c.gather.ensures.only

pub returns-in-Some-Feed-clause-only : goal.returns-in-Some-Feed-clause-only
returns-in-Some-Feed-clause-only g c = source_trans c.skipped.invariant.only c.gather.ensures.only

pub returns-in-None-clause-only : goal.returns-in-None-clause-only
returns-in-None-clause-only g c = source_trans c.skipped.invariant.only c.gather.ensures.only
