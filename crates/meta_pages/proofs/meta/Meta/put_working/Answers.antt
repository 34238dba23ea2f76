use Rattle.std.proofs.Common.{◌≡◌, length, ap, sym, subst, vec_capacity}
use Rattle.meta_pages.specs.Overlays.{Overlays, IsWorkingRow, touched}
use Rattle.meta_pages.proofs.Writing.{working_put, put_touches}
use Rattle.meta_pages.proofs.meta.Meta.put_working.Goals as goal

pub invariant_of-self : goal.invariant_of-self
invariant_of-self c =
    working_put c.put_row.result c.self.inside.geometry c.args.page.0 (vec_capacity c.self.inside.committed) c.args.image c.self.inside.committed.items c.self.inside.working.items _ c.self.invariant
    (subst (λ (o : Overlays). IsWorkingRow o.geometry (c.args.page.0, c.args.image)) (sym c.self.view_is) (c.requires.area, c.requires.whole)) c.put_row.ensures.ok c.put_row.ensures.err

pub returns-clause-touches : goal.returns-clause-touches
returns-clause-touches c =
    let was : length c.self.inside.working.items ≡ touched c.args.self.now = ap touched c.self.view_is in
    put_touches c.put_row.result c.args.page.0 c.args.image c.self.inside.working.items _ (touched c.args.self.now) was c.put_row.ensures.ok c.put_row.ensures.err
