use Rattle.std.proofs.Common.{sym, ◌∙◌}
use Rattle.std.specs.Option.{option_map}
use Rattle.file_bodies.proofs.Pages.{first_is, some_map}
use Rattle.file_bodies.proofs.page.first_live.Goals as goal

pub returns-then-is_some-clause-some : goal.returns-then-is_some-clause-some
returns-then-is_some-clause-some c =
    first_is c.args.view.now.page.slots c.args.from c.loop-slot.slot (option_map (λ body. body.now) c.body.result) c.loop-slot.auto.slot
    (some_map _ c.body.result (sym c.is_some.ensures ∙ c.if-is_some.true)) c.body.ensures c.loop-slot.invariant
