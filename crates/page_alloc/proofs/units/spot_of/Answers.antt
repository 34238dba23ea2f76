use Rattle.std.proofs.Common.{◌≡◌, ◌<◌, sym, subst, arith}
use Rattle.ex_base.specs.Area.{unit_at}
use Rattle.ex_base.specs.Sizes.{units}
use Rattle.ex_base.specs.declared.names.Area.TheVariants.{Segment}
use Rattle.page_alloc.proofs.Writes.{seg_spot}
use Rattle.page_alloc.proofs.units.spot_of.Goals as goal

pub returns-else-page-end-clause-inside : goal.returns-else-page-end-clause-inside
returns-else-page-end-clause-inside c =
    subst (λ k. k < units c.args.geometry.now Segment) (sym c.unit_behind.ensures) (seg_spot c.args.geometry.now c.args.page.0 (omega arith) c.args.geometry.now.some_length c.requires).inside

pub returns-else-page-end-clause-named : goal.returns-else-page-end-clause-named
returns-else-page-end-clause-named c =
    subst (λ k. c.args.page.0 ≡ unit_at c.args.geometry.now Segment k) (sym c.unit_behind.ensures) (seg_spot c.args.geometry.now c.args.page.0 (omega arith) c.args.geometry.now.some_length c.requires).named
