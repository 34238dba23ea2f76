use Rattle.std.proofs.Common.{◌≡◌, ◌-◌, take, subst, arith, List, sym}
use Rattle.std.specs.Prelude.{filter}
use Rattle.ex_base.specs.declared.names.Place.{Place}
use Rattle.ex_base.proofs.Results.{cause_handed}
use Rattle.versions.specs.Versions.{place_of}
use Rattle.version_tree.specs.Lineage.{comes_from, derived_among}
use Rattle.version_tree.proofs.LineageOrder.{below_all, AreBelow, below_next}
use Rattle.version_tree.proofs.MemberRuns.{all_in_part}
use Rattle.std.proofs.lemmas.List.{take_more}
use Rattle.version_tree.specs.declared.lineage.Member.{Member}
use Rattle.version_tree.proofs.lineage.below.Goals as goal

pub returns-in_err-put_below-clause-cause : goal.returns-in_err-put_below-clause-cause
returns-in_err-put_below-clause-cause c = λ before now.
    cause_handed before before now c.from_residual.result c.in_err-put_below.field-0.0 c.from_residual.ensures.1 (omega arith) (c.in_err-put_below.ensures.cause before now)

pub returns-clause-below : goal.returns-clause-below
returns-clause-below c =
    let same : derived_among c.run_at-run.result.now c.args.rest.now.member ≡ derived_among c.args.by_older.now c.args.rest.now.member =
    subst (λ (p : Place). filter (comes_from p) c.run_at-run.result.now ≡ filter (comes_from p) c.args.by_older.now) c.place_of.ensures c.run_at-run.ensures in
    below_all c.args.rest.now.levels (c.args.rest.now.levels - 1) (take c.members.member-index c.run_at-run.result.now) c.args.by_older.now c.args.rest.now.member c.members.rests.items (omega (arith, c.if-rest-eq0.false))
    (all_in_part (comes_from (place_of c.args.rest.now.member.oid)) c.run_at-run.result.now c.args.by_older.now c.members.member-index c.members-test.false same) c.members.invariant

pub members-preserved : goal.members-preserved
members-preserved c =
    subst (λ (t : List Member). AreBelow (c.args.rest.now.levels - 1) t c.args.rest.now.member c.put_below.new.rests.items) (sym (take_more c.run_at-run.result.now c.members.member-index _ c.members-test.true))
    (below_next (c.args.rest.now.levels - 1) (take c.members.member-index c.run_at-run.result.now) c.args.rest.now.member _ c.members.rests.items
    c.put_below.new.rests.items c.members.invariant c.in_ok-put_below.ensures.put)
