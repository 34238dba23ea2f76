use Rattle.std.proofs.Common.{◌≡◌, ◌-◌, [], ◌∷◌, ◌++◌, take, sym, ap, ◌∙◌, arith}
use Rattle.std.specs.Prelude.{flat_map}
use Rattle.std.proofs.lemmas.List.{take_all}
use Rattle.std.proofs.lemmas.Grind.{common_steps}
use Rattle.version_lists.specs.Versions.{listed_from}
use Rattle.table_lists.proofs.Steps.{no_level, listed_behind}
use Rattle.table_lists.proofs.tree.+list_from.Goals as goal

pub returns-then-levels-eq0 : goal.returns-then-levels-eq0
returns-then-levels-eq0 t c =
    let put : c.push.new.self.items ≡ c.args.out.now.items ++ c.args.version.now ∷ [] = grind (arith, common_steps) in
    put ∙ ap (λ xs. c.args.out.now.items ++ xs) (sym (no_level _ _ _ c.if-levels-eq0.true))

pub returns : goal.returns
returns t c =
    let put : c.push.new.self.items ≡ c.args.out.now.items ++ c.args.version.now ∷ [] = grind (arith, common_steps) in
    let end : take c.loop-next.next-index c.deref-next-items.result.now ≡ c.deref-next-items.result.now = take_all _ _ c.loop-next-test.false in
    listed_behind _ _ _ _ _ _ c.if-levels-eq0.false put (c.loop-next.invariant ∙ ap (λ vs. c.push.new.self.items ++ flat_map (listed_from (c.args.levels - 1) c.args.versions.now) vs) (end ∙ c.deref-next-items.ensures.value ∙ c.in_ok-derived.ensures))
