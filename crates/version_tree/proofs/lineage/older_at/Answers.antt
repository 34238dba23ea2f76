use Rattle.std.proofs.Common.{◌+◌, sym, ap, ◌∙◌, arith}
use Rattle.version_tree.specs.Lineage.{older_at, stands_at}
use Rattle.version_tree.proofs.LineageOrder.{find_here, find_next}
use Rattle.version_tree.proofs.MemberRuns.{find_same, none_in_part}
use Rattle.version_tree.proofs.lineage.older_at.Goals as goal

pub returns-then-stands_at : goal.returns-then-stands_at
returns-then-stands_at c =
    sym (ap (older_at c.args.by_place.now) c.in-Some.is
    ∙ sym (find_same (stands_at c.in-Some.place) c.run_at-run.result.now c.args.by_place.now c.run_at-run.ensures)
    ∙ find_here (stands_at c.in-Some.place) c.run_at-run.result.now c.members.member-index _ c.members-test.true c.members.invariant (sym c.stands_at.ensures ∙ c.if-stands_at.true))

pub members-preserved : goal.members-preserved
members-preserved c =
    find_next (stands_at c.in-Some.place) c.run_at-run.result.now c.members.member-index (c.members.member-index + 1) _ (omega arith) c.members-test.true c.members.invariant (sym c.stands_at.ensures ∙ c.if-stands_at.false)

pub returns : goal.returns
returns c =
    sym (ap (older_at c.args.by_place.now) c.in-Some.is
    ∙ none_in_part (stands_at c.in-Some.place) c.run_at-run.result.now c.args.by_place.now c.members.member-index c.members-test.false c.members.invariant c.run_at-run.ensures)
