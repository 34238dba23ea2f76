use Rattle.std.proofs.Common.{false, subst, Bool, ℕ}
use Rattle.std.specs.Prelude.{Contains, ◌↔◌}
use Rattle.file_rooms.specs.declared.rooms.FilePage.{FilePage}
use Rattle.file_rooms.specs.Rooms.{Remembered, IsPassed, page_of}
use Rattle.file_rooms.proofs.Marked.{marks_of, not_passed, differ_of}
use Rattle.file_rooms.proofs.rooms.Rooms.pass.Goals as goal

pub returns-then-ne-clause-roomy : goal.returns-then-ne-clause-roomy
returns-then-ne-clause-roomy c =
    let asked = c.args.asked.now in
    let taken = c.args.taken.0 in
    subst (λ (old : Remembered). (page : FilePage) → Contains c.remove.new.self.keys page ↔ (Contains old.roomy page × (IsPassed asked taken page → ⊥))) c.self.view_is
    (not_passed c.self.inside.roomy.keys c.remove.new.self.keys asked taken (marks_of c.self.inside.roomy c.remove.new.self (page_of asked.file_no asked.from.0) false c.remove.ensures.updates) (differ_of c.ne.result asked.from.0 taken c.ne.ensures c.if-ne.true))
