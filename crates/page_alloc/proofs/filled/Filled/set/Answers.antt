use Rattle.std.proofs.Common.{rules, ◌≡◌, ◌<◌, ◌∙◌, ap, length}
use Rattle.std.proofs.Math.ListN.{set}
use Rattle.page_alloc.proofs.filled.Filled.set.Goals as goal
use Rattle.page_alloc.proofs.Endings.{ended, ended-set}

pub returns-then-at-len : goal.returns-then-at-len
returns-then-at-len g c =
    let view : ended c.self.inside.written.items c.self.inside.len c.self.inside.rest ≡ c.args.self.now = c.self.view_is in
    let end : c.args.at < length c.self.inside.written.items = search rules in
    ended-set c.self.inside.written.items c.self.inside.len c.args.at c.self.inside.rest c.args.element end ∙ ap (λ l. set l c.args.at c.args.element) view
