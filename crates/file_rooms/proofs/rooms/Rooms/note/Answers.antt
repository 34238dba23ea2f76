use Rattle.std.proofs.Common.{true, false, Bool, refl, sym, ap, subst}
use Rattle.file_rooms.specs.declared.rooms.FilePage.{FilePage}
use Rattle.file_rooms.specs.Rooms.{Remembered, IsNoted, IsUnnoted, lowered_copies}
use Rattle.file_rooms.specs.contracts.rooms.Rooms as rooms
use Rattle.file_rooms.proofs.Marked.{marks_of, on_err}
use Rattle.file_rooms.proofs.rooms.Rooms.note.Goals as goal

pub returns-in_err-insert-2-clause-unnoted : goal.returns-in_err-insert-2-clause-unnoted
returns-in_err-insert-2-clause-unnoted c =
    let page = c.args.page in
    let changed = marks_of c.self.inside.changed c.insert.new.self page true c.in_ok-insert.ensures.updates in
    on_err c.from_residual-in_err-insert-2.result
    (subst (λ (old : Remembered). IsUnnoted page.page.0 old (rooms.the_view (record { rooms = c.self.inside.rooms; copies = c.self.inside.copies; roomy = c.insert-then-roomy.new.self; changed = c.insert.new.self }))) c.self.view_is (record {
      rooms = refl;
      copies = refl;
      roomy = c.in_err-insert-2.ensures.err;
      changed = λ other differ. changed.others other (λ same. differ (ap (λ (p : FilePage). p.page.0) same));
    }))

pub returns-in_ok-insert-2-clause-noted : goal.returns-in_ok-insert-2-clause-noted
returns-in_ok-insert-2-clause-noted c =
    let page = c.args.page in
    let new : Remembered = rooms.the_view (record { rooms = c.self.inside.rooms; copies = c.self.inside.copies; roomy = c.insert-then-roomy.new.self; changed = c.insert.new.self }) in
    let lowered : Remembered = record new { copies = lowered_copies new.copies page } in
    subst (λ (new : Remembered). IsNoted page c.args.roomy c.args.self.now new) (sym c.lower_copies.ensures)
    (subst (λ (t : Bool). IsNoted page t c.args.self.now lowered) (sym c.if-roomy.true)
    (subst (λ (old : Remembered). IsNoted page true old lowered) c.self.view_is (record {
      rooms = refl;
      copies = refl;
      changed = marks_of c.self.inside.changed c.insert.new.self page true c.in_ok-insert.ensures.updates;
      roomy = marks_of c.self.inside.roomy c.insert-then-roomy.new.self page true c.in_ok-insert-2.ensures.updates;
    })))

pub returns-else-roomy-clause-noted : goal.returns-else-roomy-clause-noted
returns-else-roomy-clause-noted c =
    let page = c.args.page in
    let new : Remembered = rooms.the_view (record { rooms = c.self.inside.rooms; copies = c.self.inside.copies; roomy = c.remove.new.self; changed = c.insert.new.self }) in
    subst (λ (t : Bool). IsNoted page t c.args.self.now new) (sym c.if-roomy.false)
    (subst (λ (old : Remembered). IsNoted page false old new) c.self.view_is (record {
      rooms = refl;
      copies = refl;
      changed = marks_of c.self.inside.changed c.insert.new.self page true c.in_ok-insert.ensures.updates;
      roomy = marks_of c.self.inside.roomy c.remove.new.self page false c.remove.ensures.updates;
    }))
