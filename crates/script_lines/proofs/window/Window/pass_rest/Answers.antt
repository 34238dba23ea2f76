use Rattle.std.proofs.Common.{List, ℕ, Option, [], ◌≡◌, ◌<◌, ◌≤◌, ◌-◌, ◌∙◌, length, drop, subst, refl, ap, sym, arith}
use Rattle.script_lines.specs.Lines.{Line, Short, Long}
use Rattle.script_lines.specs.Taking.{Takes}
use Rattle.script_lines.specs.Windows.{held}
use Rattle.script_lines.proofs.Buffers.{length_between}
use Rattle.script_lines.proofs.NextLines.{unended_long, unended_short}
use Rattle.script_lines.proofs.Showing.{shown_whole, shown_long}
use Rattle.script_lines.proofs.Skipping.{nothing_left}
use Rattle.script_lines.proofs.Takings.{takes_last}
use Rattle.script_lines.proofs.window.Window.pass_rest.Goals as goal

pub returns-then-to-from-gt-LINE_MOST-clause-takes : goal.returns-then-to-from-gt-LINE_MOST-clause-takes
returns-then-to-from-gt-LINE_MOST-clause-takes c =
    let old = c.args.self.now in
    let new = c.pass.new.self in
    let p : List ℕ = held old in
    let end : old.end ≤ length old.buffer.items = omega (arith, old.buffer.ok.0) in
    let size : length p ≡ old.end - old.start = length_between old.buffer.items old.start old.end end in
    let none : held new ≡ [] = nothing_left p (held new) (c.pass.ensures.bytes ∙ ap (λ (k : ℕ). drop k p) (sym size)) in
    let P : Option Line → Type 0 = λ line. Takes old.allowed p line new.allowed (held new) in
    subst P (shown_long new.buffer.items c.long.result c.long.ensures)
    (takes_last p (held new) old.allowed new.allowed c.requires.clear p Long (omega arith) (omega (arith, c.pass.ensures.allowed)) refl none (unended_long p (omega arith)))

pub returns-else-to-from-gt-LINE_MOST-clause-takes : goal.returns-else-to-from-gt-LINE_MOST-clause-takes
returns-else-to-from-gt-LINE_MOST-clause-takes c =
    let old = c.args.self.now in
    let new = c.pass.new.self in
    let p : List ℕ = held old in
    let end : old.end ≤ length old.buffer.items = omega (arith, old.buffer.ok.0) in
    let size : length p ≡ old.end - old.start = length_between old.buffer.items old.start old.end end in
    let some : 0 < length p = omega (arith, c.if-from-to.false, old.ordered) in
    let none : held new ≡ [] = nothing_left p (held new) (c.pass.ensures.bytes ∙ ap (λ (k : ℕ). drop k p) (sym size)) in
    let P : Option Line → Type 0 = λ line. Takes old.allowed p line new.allowed (held new) in
    subst P (shown_whole new.buffer.items old.buffer.items c.whole.result old.start old.end c.whole.ensures.kind c.whole.ensures.place.0 c.whole.ensures.place.1 c.pass.ensures.buffer)
    (takes_last p (held new) old.allowed new.allowed c.requires.clear p (Short p) some (omega (arith, c.pass.ensures.allowed)) refl none (unended_short p some (omega arith)))
