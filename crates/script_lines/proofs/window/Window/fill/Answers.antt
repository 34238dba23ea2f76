use Rattle.std.proofs.Common.{List, ℕ, ◌≡◌, ◌+◌, ◌≤◌, ◌∙◌, subst, arith, false}
use Rattle.std.specs.Prelude.{nat_lt}
use Rattle.std.proofs.lemmas.Bool.Decides.{nat_tests}
use Rattle.script_lines.specs.Remains.{between, SameScript, AllHere, IsFront}
use Rattle.script_lines.proofs.Buffers.{same_script, all_here, same_held, longer_front}
use Rattle.script_lines.proofs.window.Window.fill.Goals as goal

nothing : (n : ℕ) → nat_lt 0 n ≡ false → n ≡ 0
nothing n none = grind (arith, nat_tests)

pub returns-clause-script : goal.returns-clause-script
returns-clause-script g c =
    let m = c.make_room.new.self in
    let n = c.in_ok-n.n in
    let left = (g.S.World.outside c.args.source.now).left in
    let is = (g.S.World.outside c.take_at.new.source).left in
    let ordered : m.start ≤ m.end = omega arith in
    let P : List ℕ → Type 0 = λ l. SameScript l left (between c.take_at.new.buffer.items m.start (m.end + n)) is in
    subst P c.make_room.ensures.bytes
    (same_script m.buffer.items c.take_at.new.buffer.items left is m.start m.end n ordered c.in_ok-n.ensures.front c.in_ok-n.ensures.bytes)

pub returns-clause-front : goal.returns-clause-front
returns-clause-front g c =
    let m = c.make_room.new.self in
    let ordered : m.start ≤ m.end = omega arith in
    let P : List ℕ → Type 0 = λ l. IsFront l (between c.take_at.new.buffer.items m.start (m.end + c.in_ok-n.n)) in
    subst P c.make_room.ensures.bytes (longer_front m.buffer.items c.take_at.new.buffer.items m.start m.end c.in_ok-n.n ordered c.in_ok-n.ensures.front)

pub returns-clause-same : goal.returns-clause-same
returns-clause-same g c = λ none.
    let m = c.make_room.new.self in
    let n = c.in_ok-n.n in
    let ordered : m.start ≤ m.end = omega arith in
    same_held m.buffer.items c.take_at.new.buffer.items m.start m.end n ordered c.in_ok-n.ensures.front (nothing n none) ∙ c.make_room.ensures.bytes

pub returns-clause-none : goal.returns-clause-none
returns-clause-none g c = λ none.
    let m = c.make_room.new.self in
    let n = c.in_ok-n.n in
    let left = (g.S.World.outside c.args.source.now).left in
    let is = (g.S.World.outside c.take_at.new.source).left in
    let ordered : m.start ≤ m.end = omega arith in
    let P : List ℕ → Type 0 = λ l. AllHere l left (between c.take_at.new.buffer.items m.start (m.end + n)) in
    subst P c.make_room.ensures.bytes
    (all_here m.buffer.items c.take_at.new.buffer.items left is m.start m.end n ordered c.in_ok-n.ensures.front c.in_ok-n.ensures.bytes (nothing n none)
    (c.in_ok-n.ensures.end (nothing n none)))
