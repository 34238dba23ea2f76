use Rattle.std.proofs.Common.{◌≡◌, ◌≤◌, ℕ, List, length, sym, ap, ◌∙◌, arith}
use Rattle.slotted_pages.specs.Edits.{slots_of}
use Rattle.history_writes.proofs.Laying.{closes_left, closes_none, none_left}
use Rattle.history_writes.proofs.file_pages.FilePages.close.Goals as goal

pub returns-in_ok-leave_page-clause-closes : goal.returns-in_ok-leave_page-clause-closes
returns-in_ok-leave_page-clause-closes g c =
    closes_left c.args.geometry.now (g.D.World.outside c.args.disk.now) (g.D.World.outside c.leave_page.new.disk) c.args.self.now c.leave_page.new.self c.in_ok-leave_page.ensures.left c.in_ok-leave_page.ensures.empty

pub returns-else-has_slots-clause-closes : goal.returns-else-has_slots-clause-closes
returns-else-has_slots-clause-closes g c =
    let none : length (slots_of c.args.self.now.page.items) ≡ 0 =
    ap (λ (b : List ℕ). length (slots_of b)) (sym c.deref.ensures.value) ∙ none_left c.has_slots.result (length (slots_of c.deref.result.now)) c.has_slots.ensures c.if-has_slots.false in
    closes_none c.args.geometry.now (g.D.World.outside c.args.disk.now) c.args.self.now none

pub returns-in_ok-leave_page-clause-written : goal.returns-in_ok-leave_page-clause-written
returns-in_ok-leave_page-clause-written g c =
    let some : 1 ≤ length (slots_of c.deref.result.now) = c.has_slots.ensures.0 c.if-has_slots.true in
    let same : length (slots_of c.deref.result.now) ≡ length (slots_of c.args.self.now.page.items) = ap (λ (b : List ℕ). length (slots_of b)) c.deref.ensures.value in
    omega (arith, c.in_ok-leave_page.ensures.written)

pub returns-else-has_slots-clause-written : goal.returns-else-has_slots-clause-written
returns-else-has_slots-clause-written g c =
    let none : length (slots_of c.args.self.now.page.items) ≡ 0 =
    ap (λ (b : List ℕ). length (slots_of b)) (sym c.deref.ensures.value) ∙ none_left c.has_slots.result (length (slots_of c.deref.result.now)) c.has_slots.ensures c.if-has_slots.false in
    omega arith
