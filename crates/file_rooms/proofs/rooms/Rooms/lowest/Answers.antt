use Rattle.std.proofs.Common.{None, subst}
use Rattle.file_rooms.specs.Rooms.{Remembered, IsLowestOf}
use Rattle.file_rooms.proofs.Lowest.{none_first, none_in, none_of_file}
use Rattle.file_rooms.proofs.rooms.Rooms.lowest.Goals as goal

pub returns-in_default : goal.returns-in_default
returns-in_default c = subst (λ (known : Remembered). IsLowestOf known.roomy c.args.file_no None) c.self.view_is
    (none_of_file c.self.inside.roomy c.range.result c.args.file_no (c.range.ensures.in_range tt) c.in-Some.roomy.now c.next.new.self c.in-Some.ensures.steps c.if-roomy-file_no.false)

pub returns-in_default-2 : goal.returns-in_default-2
returns-in_default-2 c = subst (λ (known : Remembered). IsLowestOf known.roomy c.args.file_no None) c.self.view_is
    (none_in c.self.inside.roomy c.range.result c.args.file_no (c.range.ensures.in_range tt) (none_first c.next.result _ _ c.next.ensures.steps c.in_default.is).0)
