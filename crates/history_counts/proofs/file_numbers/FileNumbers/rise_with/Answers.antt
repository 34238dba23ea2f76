use Rattle.std.proofs.Common.{◌≡◌, ◌-◌, length, Some}
use Rattle.std.specs.Prelude.{slice_get}
use Rattle.history_counts.proofs.Searched.{rises_behind}
use Rattle.history_counts.proofs.file_numbers.FileNumbers.rise_with.Goals as goal

pub returns-in-Some : goal.returns-in-Some
returns-in-Some c =
    let e : slice_get c.args.self.now.numbers (length c.args.self.now.numbers - 1) ≡ Some c.in-Some.last.now = cc (c.in-Some.ensures.value, c.deref.ensures.value) in
    rises_behind c.args.self.now.numbers c.args.number c.in-Some.last.now c.requires e
