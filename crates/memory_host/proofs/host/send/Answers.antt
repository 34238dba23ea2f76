use Rattle.std.proofs.Common.{◌≡◌, ◌++◌, arith}
use Rattle.std.proofs.lemmas.Grind.{common_steps}
use Rattle.memory_host.proofs.host.send.Goals as goal

pub returns-clause-done : goal.returns-clause-done
returns-clause-done c told =
    let sent : c.extend_from_slice.new.self.items ≡ c.args.sent.now.items ++ c.args.bytes.now = grind (arith, common_steps) in
    (c.in-Ok.copy, c.in-Ok.ensures.items_if_clones_equal (λ x y e. e), c.if-not-note.ensures, sent)
