use Rattle.std.proofs.Common.{◌≡◌, ℕ, Some, OnOk, nat_eq, if◌then◌else◌, sym, subst, vec_capacity}
use Rattle.std.specs.Map.{lookup}
use Rattle.meta_pages.specs.Overlays.{Overlays, IsPageRow}
use Rattle.meta_pages.proofs.Keeping.{lookup_put}
use Rattle.meta_pages.proofs.Writing.{kept_put}
use Rattle.meta_pages.proofs.meta.Meta.adopt_page.Goals as goal

pub invariant_of-self : goal.invariant_of-self
invariant_of-self c =
    kept_put c.put_row.result c.self.inside.geometry c.args.page.0 (vec_capacity c.self.inside.committed) _ c.args.image c.self.inside.committed.items _ c.self.inside.working.items c.self.invariant
    (subst (λ (o : Overlays). IsPageRow o.geometry (c.args.page.0, c.args.image)) (sym c.self.view_is) (c.requires.area, c.requires.whole)) c.put_row.ensures.ok c.put_row.ensures.err c.put_row.ensures.capacity

pub returns-clause-image : goal.returns-clause-image
returns-clause-image c =
    subst (λ (o : Overlays). OnOk c.put_row.result ((p : ℕ) → lookup (nat_eq p) c.put_row.new.rows.items ≡ (if nat_eq c.args.page.0 p then Some c.args.image else lookup (nat_eq p) o.committed))) c.self.view_is
    (lookup_put c.put_row.result c.args.page.0 c.args.image c.self.inside.committed.items c.put_row.new.rows.items c.put_row.ensures.ok)
