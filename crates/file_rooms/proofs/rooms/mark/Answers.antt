use Rattle.std.proofs.Common.{true, false, Bool, sym, subst}
use Rattle.file_rooms.specs.Rooms.{Marks}
use Rattle.file_rooms.proofs.Marked.{marks_of}
use Rattle.file_rooms.proofs.rooms.mark.Goals as goal

pub returns-in_ok-insert-clause-marked : goal.returns-in_ok-insert-clause-marked
returns-in_ok-insert-clause-marked c = subst (Marks c.args.pages.now.keys c.insert.new.self.keys c.args.page) (sym c.if-is.true)
    (marks_of c.args.pages.now c.insert.new.self c.args.page true c.in_ok-insert.ensures.updates)

pub returns-else-is-clause-marked : goal.returns-else-is-clause-marked
returns-else-is-clause-marked c = subst (Marks c.args.pages.now.keys c.remove.new.self.keys c.args.page) (sym c.if-is.false)
    (marks_of c.args.pages.now c.remove.new.self c.args.page false c.remove.ensures.updates)
