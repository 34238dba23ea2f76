use Rattle.std.proofs.Common.{ap, vec_capacity, nat_eq, None, if◌then◌else◌, ◌∙◌}
use Rattle.std.specs.Map.{lookup}
use Rattle.meta_pages.specs.Overlays.{Overlays}
use Rattle.meta_pages.proofs.Writing.{kept_taken}
use Rattle.meta_pages.proofs.RowLists.{lookup-without_row}
use Rattle.meta_pages.proofs.meta.Meta.forget_page.Goals as goal

pub invariant_of-self : goal.invariant_of-self
invariant_of-self c =
    kept_taken c.self.inside.geometry c.args.page.0 (vec_capacity c.self.inside.committed) _ c.self.inside.committed.items _ c.self.inside.working.items c.self.invariant c.take_row.ensures.rows c.take_row.ensures.capacity

pub returns-clause-committed : goal.returns-clause-committed
returns-clause-committed c = λ p.
    rw c.take_row.ensures.rows (lookup-without_row c.args.page.0 c.self.inside.committed.items p c.self.invariant.rising
    ∙ ap (λ (o : Overlays). if nat_eq c.args.page.0 p then None else lookup (nat_eq p) o.committed) c.self.view_is)
