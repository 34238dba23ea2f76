use Rattle.std.proofs.Common.{List, ℕ, Option, ◌≡◌, ◌<◌, ◌≤◌, ◌+◌, ◌-◌, ◌++◌, length, take, subst, arith}
use Rattle.std.proofs.lemmas.List.{length-take}
use Rattle.script_lines.specs.Lines.{Line, Short, Long, line_most, ended}
use Rattle.script_lines.specs.Remains.{between}
use Rattle.script_lines.specs.Taking.{Takes}
use Rattle.script_lines.specs.Windows.{held}
use Rattle.script_lines.proofs.Buffers.{length_between}
use Rattle.script_lines.proofs.NextLines.{ended_long}
use Rattle.script_lines.proofs.Showing.{shown_whole, shown_long, ended_as}
use Rattle.script_lines.proofs.Takings.{takes_feed}
use Rattle.script_lines.proofs.window.Window.pass_line.Goals as goal

pub returns-then-at-gt-LINE_MOST-clause-takes : goal.returns-then-at-gt-LINE_MOST-clause-takes
returns-then-at-gt-LINE_MOST-clause-takes c = λ behind.
    let old = c.args.self.now in
    let new = c.pass.new.self in
    let at : ℕ = c.args.at in
    let p : List ℕ = held old in
    let found = c.requires in
    let inside : at < length p = found.0 in
    let far : line_most < length (take at p) = omega (arith, length-take at p) in
    let P : Option Line → Type 0 = λ line. Takes old.allowed (p ++ behind) line new.allowed (held new ++ behind) in
    subst P (shown_long new.buffer.items c.long.result c.long.ensures)
    (takes_feed p behind old.allowed new.allowed at inside found.2 found.3 c.pass.ensures.allowed (held new) c.pass.ensures.bytes Long (ended_long (take at p) far))

pub returns-else-at-gt-LINE_MOST-clause-takes : goal.returns-else-at-gt-LINE_MOST-clause-takes
returns-else-at-gt-LINE_MOST-clause-takes c = λ behind.
    let old = c.args.self.now in
    let new = c.pass.new.self in
    let at : ℕ = c.args.at in
    let k : ℕ = c.trimmed.result in
    let p : List ℕ = held old in
    let found = c.requires in
    let inside : at < length p = found.0 in
    let end : old.end ≤ length old.buffer.items = omega (arith, old.buffer.ok.0) in
    let size : length p ≡ old.end - old.start = length_between old.buffer.items old.start old.end end in
    let fits : at ≤ old.end - old.start = omega arith in
    let line : Line = Short (between old.buffer.items old.start (old.start + k)) in
    let is_line : ended (take at p) ≡ line =
    ended_as old.buffer.items c.deref.result.now old.start old.end at k fits c.if-at-gt-LINE_MOST.false c.deref.ensures.value c.trimmed.ensures.most c.trimmed.ensures.value in
    let P : Option Line → Type 0 = λ line. Takes old.allowed (p ++ behind) line new.allowed (held new ++ behind) in
    subst P (shown_whole new.buffer.items old.buffer.items c.whole.result old.start (old.start + k) c.whole.ensures.kind c.whole.ensures.place.0 c.whole.ensures.place.1 c.pass.ensures.buffer)
    (takes_feed p behind old.allowed new.allowed at inside found.2 found.3 c.pass.ensures.allowed (held new) c.pass.ensures.bytes line is_line)
