use Rattle.std.proofs.Common.{sym, subst, ap, ◌∙◌}
use Rattle.file_bodies.specs.declared.placing.Room.{Room}
use Rattle.file_bodies.specs.Placing.{lowered_to}
use Rattle.file_rooms.specs.Rooms.{IsLookedFrom}
use Rattle.file_rooms.proofs.Lowest.{looked_some, looked_none}
use Rattle.file_rooms.proofs.rooms.Rooms.of_file.Goals as goal

pub returns-in-Some-clause-looked : goal.returns-in-Some-clause-looked
returns-in-Some-clause-looked c = subst (IsLookedFrom c.args.self.now c.args.file_no)
    (sym (c.lower.ensures ∙ ap (λ (room : Room). lowered_to room c.in-Some.page.0) c.room-room.ensures))
    (looked_some c.args.self.now c.args.file_no c.in-Some.page c.in-Some.ensures)

pub returns-in_default-clause-looked : goal.returns-in_default-clause-looked
returns-in_default-clause-looked c = subst (IsLookedFrom c.args.self.now c.args.file_no) (sym c.room-room.ensures)
    (looked_none c.args.self.now c.args.file_no c.in_default.ensures)
