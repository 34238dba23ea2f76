use Rattle.std.proofs.Common.{true≢false, sym, ◌∙◌, arith}
use Rattle.trees.specs.Names.{names_on}
use Rattle.ex_base.specs.Sizes.{least_page}
use Rattle.tree_store.proofs.Counting.{counted_all, counted_one, counted_skip}
use Rattle.tree_store.proofs.counts.count_names.Goals.{then-names_unit, else-names_unit}
use Rattle.tree_store.proofs.counts.count_names.Goals as goal

pub names_len-index-end-requires : goal.names_len-index-end-requires
names_len-index-end-requires c = omega (arith, c.requires.page, least_page c.args.geometry.now)

pub of-width-requires : goal.of-width-requires
of-width-requires c = omega (arith, c.requires.page, least_page c.args.geometry.now)

pub loop-index-preserved : goal.loop-index-preserved
loop-index-preserved c =
    let geometry = c.args.geometry.now in
    let names = names_on c.args.bytes.now in
    let index = c.loop-index.index in
    elim c.if-names_unit.branch [
      | then-names_unit w ↦ rw w.units-is
          (counted_one geometry names c.args.units.now c.loop-index.units w.add_ref.new.self index c.name_at-page.result.0 c.loop-index.invariant c.name_at-page.ensures
          w.add_ref.ensures.geometry w.add_ref.ensures.used w.add_ref.ensures.refs)
      | else-names_unit w ↦ rw w.units-is
          (counted_skip geometry names c.args.units.now c.loop-index.units index c.name_at-page.result.0 c.loop-index.invariant c.name_at-page.ensures
          (λ unit. true≢false (sym (c.names_unit.ensures.1 unit) ∙ w.if-names_unit.false)))
    ]

pub returns-clause-refs : goal.returns-clause-refs
returns-clause-refs c =
    counted_all c.args.geometry.now (names_on c.args.bytes.now) c.args.units.now c.loop-index.units c.loop-index.index c.loop-index.invariant (omega (arith, c.loop-index-test.false, c.names_len-index-end.ensures))
