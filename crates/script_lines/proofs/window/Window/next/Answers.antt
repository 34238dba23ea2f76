use Rattle.std.proofs.Common.{rules, List, ℕ, Option, ◌≡◌, ◌++◌, ◌≤◌, ◌-◌, ◌∙◌, length, drop, subst, sym, ap, arith}
use Rattle.script_lines.specs.Lines.{Line}
use Rattle.script_lines.specs.Remains.{Moves, Draws}
use Rattle.script_lines.specs.Taking.{Takes}
use Rattle.script_lines.specs.Windows.{held, may_take, shown_in}
use Rattle.disk_model.specs.Runs.{source_trans}
use Rattle.script_lines.proofs.Buffers.{length_between, draws_trans}
use Rattle.script_lines.proofs.Showing.{shown_long}
use Rattle.script_lines.proofs.Skipping.{next_fed, next_rest, next_long, next_clear, clear_now}
use Rattle.script_lines.proofs.window.Window.next.Goals as goal

pub returns-in-Some-TooMuch-clause-clear : goal.returns-in-Some-TooMuch-clause-clear
returns-in-Some-TooMuch-clause-clear g c = λ same.
    let old = c.args.self.now in
    let n = c.gather.new.self in
    let found = rw c.in-Some-TooMuch.field-0-is at (rw c.in-Some-TooMuch.is at c.in_ok-gather.ensures.found) in
    clear_now (held old) (g.S.World.outside c.args.source.now).left (held n) (g.S.World.outside c.gather.new.source).left old.allowed c.in_ok-gather.ensures.script
    (λ j lt. found.0 j (omega (arith, c.in_ok-gather.ensures.allowed))) (omega (arith, found.1, c.in_ok-gather.ensures.allowed))

pub returns-in-Some-Feed-clause-takes : goal.returns-in-Some-Feed-clause-takes
returns-in-Some-Feed-clause-takes g c =
    let old = c.args.self.now in
    let n = c.gather.new.self in
    let m = c.pass_line.new.self in
    let P : ℕ → Type 0 = λ most. (behind : List ℕ) → Takes most (held n ++ behind) (shown_in m.buffer.items c.pass_line.result) m.allowed (held m ++ behind) in
    next_fed (held old) (g.S.World.outside c.args.source.now).left (held n) (g.S.World.outside c.gather.new.source).left old.allowed c.in_ok-gather.ensures.script
    (shown_in m.buffer.items c.pass_line.result) m.allowed (held m) (subst P c.in_ok-gather.ensures.allowed c.pass_line.ensures.takes)

pub returns-in-None-clause-takes : goal.returns-in-None-clause-takes
returns-in-None-clause-takes g c =
    let old = c.args.self.now in
    let n = c.gather.new.self in
    let m = c.pass_rest.new.self in
    let P : ℕ → Type 0 = λ most. Takes most (held n) (shown_in m.buffer.items c.pass_rest.result) m.allowed (held m) in
    next_rest (held old) (g.S.World.outside c.args.source.now).left (held n) (g.S.World.outside c.gather.new.source).left old.allowed c.in_ok-gather.ensures.script
    (c.in_ok-gather.ensures.rest c.in-None.is) (shown_in m.buffer.items c.pass_rest.result) m.allowed (held m) c.pass_rest.ensures.none
    (subst P c.in_ok-gather.ensures.allowed c.pass_rest.ensures.takes)

pub returns-in_ok-skip-in-Some-Full-clause-takes : goal.returns-in_ok-skip-in-Some-Full-clause-takes
returns-in_ok-skip-in-Some-Full-clause-takes g c =
    let old = c.args.self.now in
    let n = c.gather.new.self in
    let m = c.pass.new.self in
    let k = c.skip.new.self in
    let p : List ℕ = held n in
    let left = (g.S.World.outside c.args.source.now).left in
    let is = (g.S.World.outside c.skip.new.source).left in
    let found = rw c.in-Some-Full.field-0-is at (rw c.in-Some-Full.is at c.in_ok-gather.ensures.found) in
    let inside : n.end ≤ length n.buffer.items = omega (arith, n.buffer.ok.0) in
    let size : length p ≡ n.end - n.start = length_between n.buffer.items n.start n.end inside in
    let P : Option Line → Type 0 = λ line. Moves (held old) left (held k) is (λ script rest. Takes old.allowed script line k.allowed rest) in
    subst P (shown_long k.buffer.items c.long.result c.long.ensures)
    (next_long (held old) left p (g.S.World.outside c.gather.new.source).left old.allowed c.in_ok-gather.ensures.script
    found.0 m.allowed (omega (arith, c.pass.ensures.allowed, c.in_ok-gather.ensures.allowed)) (held m) (c.pass.ensures.bytes ∙ ap (λ (j : ℕ). drop j p) (sym size))
    found.2 (held k) is k.allowed c.in_ok-skip-in-Some-Full.ensures.passes)

pub returns-in_err-skip-in-Some-Full-clause-clear : goal.returns-in_err-skip-in-Some-Full-clause-clear
returns-in_err-skip-in-Some-Full-clause-clear g c = λ same.
    let old = c.args.self.now in
    let n = c.gather.new.self in
    let m = c.pass.new.self in
    let p : List ℕ = held n in
    let found = rw c.in-Some-Full.field-0-is at (rw c.in-Some-Full.is at c.in_ok-gather.ensures.found) in
    let inside : n.end ≤ length n.buffer.items = omega (arith, n.buffer.ok.0) in
    let size : length p ≡ n.end - n.start = length_between n.buffer.items n.start n.end inside in
    next_clear (held old) (g.S.World.outside c.args.source.now).left p (g.S.World.outside c.gather.new.source).left old.allowed c.in_ok-gather.ensures.script
    found.0 m.allowed (omega (arith, c.pass.ensures.allowed, c.in_ok-gather.ensures.allowed)) (held m) (c.pass.ensures.bytes ∙ ap (λ (j : ℕ). drop j p) (sym size))
    (c.in_err-skip-in-Some-Full.ensures.clear (search rules))

-- what is taken up to the end of the rest of a long line
pub returns-in_ok-skip-in-Some-Full-clause-only : goal.returns-in_ok-skip-in-Some-Full-clause-only
returns-in_ok-skip-in-Some-Full-clause-only g c = source_trans c.gather.ensures.only c.skip.ensures.only

pub returns-in_ok-skip-in-Some-Full-clause-drawn : goal.returns-in_ok-skip-in-Some-Full-clause-drawn
returns-in_ok-skip-in-Some-Full-clause-drawn g c =
    let left = (g.S.World.outside c.args.source.now).left in
    let middle = (g.S.World.outside c.gather.new.source).left in
    let is = (g.S.World.outside c.skip.new.source).left in
    let D : ℕ → Type 0 = λ k. Draws k middle (may_take c.skip.new.self) is in
    draws_trans (may_take c.args.self.now) (may_take c.gather.new.self) (may_take c.skip.new.self) left middle is c.gather.ensures.drawn (subst D c.pass.ensures.may c.skip.ensures.drawn)

pub returns-in_err-skip-in-Some-Full-clause-drawn : goal.returns-in_err-skip-in-Some-Full-clause-drawn
returns-in_err-skip-in-Some-Full-clause-drawn g c =
    let left = (g.S.World.outside c.args.source.now).left in
    let middle = (g.S.World.outside c.gather.new.source).left in
    let is = (g.S.World.outside c.skip.new.source).left in
    let D : ℕ → Type 0 = λ k. Draws k middle (may_take c.skip.new.self) is in
    draws_trans (may_take c.args.self.now) (may_take c.gather.new.self) (may_take c.skip.new.self) left middle is c.gather.ensures.drawn (subst D c.pass.ensures.may c.skip.ensures.drawn)
