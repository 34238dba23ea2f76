use Rattle.std.proofs.Common.{◌≡◌, ◌+◌, ◌-◌, ◌∙◌, ℕ, List, length, take, drop, sym, ap, arith}
use Rattle.std.proofs.lemmas.List.{drop-drop, length-take, take_at}
use Rattle.history_dump.proofs.Giving.{left_len}
use Rattle.history_dump.proofs.GivenOn.{front_left}
use Rattle.history_dump.proofs.dumper.Dumper.give.Goals as goal

pub returns-clause-given : goal.returns-clause-given
returns-clause-given c =
    let s = c.args.self.now in
    let n = c.min-n.result in
    let copied = c.copy_from_slice.ensures.after ∙ ap (λ (xs : List ℕ). take (s.given + n - s.given) (drop s.given xs)) c.deref.ensures.value in
    let full : length c.copy_from_slice.new.self ≡ n = omega (arith, c.copy_from_slice.ensures.len, length-take n c.args.out.now, c.min-n.ensures) in
    take_at c.copy_from_slice.new.self _ n full ∙ copied ∙ front_left s.room.items s.given s.end n (omega (arith, c.min-n.ensures)) s.ordered

pub returns-clause-left : goal.returns-clause-left
returns-clause-left c = let s = c.args.self.now in sym (drop-drop c.min-n.result s.given (take s.end s.room.items))

pub returns-clause-n : goal.returns-clause-n
returns-clause-n c = omega (arith, c.min-n.ensures, left_len c.args.self.now)
