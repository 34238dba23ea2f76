use Rattle.std.proofs.Common.{◌-◌, ℕ, List, refl, sym, subst, ap, ◌∙◌, arith, take}
use Rattle.std.specs.Prelude.{slice_get}
use Rattle.std.specs.List.{AllZip}
use Rattle.trees.specs.declared.Pair.{Pair}
use Rattle.history_plans.specs.Plans.{pages_at}
use Rattle.history_volumes.specs.Transcribed.{number_in}
use Rattle.history_dump.specs.Items.{IsNumbered}
use Rattle.history_dump.proofs.Pushing.{pushed}
use Rattle.history_dump.proofs.Pairing.{pair_all, pair_more, pair_none}
use Rattle.history_dump.proofs.node.number_pairs.Goals as goal

pub loop-index-init : goal.loop-index-init
loop-index-init c =
    subst (λ (numbered : List Pair). AllZip (IsNumbered (pages_at (c.args.node.now.level - 1) c.args.plan.now)) (take 0 c.args.node.now.pairs) numbered) (sym c.clear.ensures.items) tt

pub returns-in_default-clause-sound : goal.returns-in_default-clause-sound
returns-in_default-clause-sound c = λ damage numbered all.
    let pages = pages_at (c.args.node.now.level - 1) c.args.plan.now in
    pair_none pages c.args.node.now.pairs numbered c.loop-index.index c.at-pair.result all
    (ap (λ (ps : List Pair). slice_get ps c.loop-index.index) (sym c.pairs-named.ensures) ∙ c.at-pair.ensures) c.number_of.result
    (c.number_of.ensures ∙ ap (λ (l : ℕ). number_in (pages_at (l - 1) c.args.plan.now) c.at-pair.result.page.0) c.level-level.ensures) c.in_default.is

pub loop-index-preserved : goal.loop-index-preserved
loop-index-preserved c =
    let pages = pages_at (c.args.node.now.level - 1) c.args.plan.now in
    let put = pushed c.push.result _ _ _ (sym c.is_err.ensures.value ∙ c.if-is_err.false) c.push.ensures.items in
    pair_more pages c.args.node.now.pairs c.loop-index.pairs.items c.push.new.self.items c.loop-index.index c.at-pair.result _ c.loop-index.invariant
    (ap (λ (ps : List Pair). slice_get ps c.loop-index.index) (sym c.pairs-named.ensures) ∙ c.at-pair.ensures)
    (record {
      count = refl;
      number = sym (ap (λ (l : ℕ). number_in (pages_at (l - 1) c.args.plan.now) c.at-pair.result.page.0) c.level-level.ensures) ∙ sym c.number_of.ensures ∙ c.in-Some.is;
    }) put

pub returns-clause-numbered : goal.returns-clause-numbered
returns-clause-numbered c =
    pair_all (pages_at (c.args.node.now.level - 1) c.args.plan.now) c.args.node.now.pairs c.loop-index.pairs.items c.loop-index.index
    (omega (arith, c.loop-index-test.false, c.len-index-end.ensures.len)) c.loop-index.invariant
