use Rattle.std.proofs.Common.{◌≡◌, ℕ, Bool, false, sym, ap, subst, ◌∙◌, arith, rules, true≢false}
use Rattle.ex_base.specs.declared.geometry.Geometry.{Geometry}
use Rattle.ex_base.specs.Area.{NamesLeaf}
use Rattle.ex_base.specs.Ports.{without_ref}
use Rattle.version_delete.proofs.Releasing.{drops_of, not_last, leaf_released, gives_last, gives_less}
use Rattle.version_delete.proofs.owners.release_leaf.Goals as goal

pub give_unit-requires : goal.give_unit-requires
give_unit-requires g c =
    let page = c.args.page.0 in
    let b = g.B.Ground in
    let last = c.drop_ref.ensures.last.0 c.if-drop_ref.true in
    let apart : b.held c.drop_ref.new.self page ≡ false = ap (λ (f : ℕ → Bool). f page) c.drop_ref.ensures.counts.held ∙ c.requires.apart page (omega (arith, last)) in
    search rules

pub returns-then-drop_ref-clause-released : goal.returns-then-drop_ref-clause-released
returns-then-drop_ref-clause-released g c =
    let page = c.args.page.0 in
    let b = g.B.Ground in
    let last = c.drop_ref.ensures.last.0 c.if-drop_ref.true in
    let drops = drops_of b c.args.blocks.now c.drop_ref.new.self page (without_ref (b.refs c.args.blocks.now page)) c.drop_ref.ensures.counts in
    leaf_released b c.args.blocks.now c.drop_ref.new.self c.give_unit.new.self page drops c.give_unit.ensures.given last (c.requires.counts.used page (omega (arith, last)))
    (subst (λ (x : Geometry). NamesLeaf x page) c.geometry.ensures (c.names_leaf.ensures.0 c.if-not-names_leaf.false))

pub returns-then-drop_ref-clause-gives : goal.returns-then-drop_ref-clause-gives
returns-then-drop_ref-clause-gives g c =
    let page = c.args.page.0 in
    let b = g.B.Ground in
    let last = c.drop_ref.ensures.last.0 c.if-drop_ref.true in
    let drops = drops_of b c.args.blocks.now c.drop_ref.new.self page (without_ref (b.refs c.args.blocks.now page)) c.drop_ref.ensures.counts in
    gives_last b c.args.blocks.now c.drop_ref.new.self c.give_unit.new.self page drops c.give_unit.ensures.given last (c.requires.counts.used page (omega (arith, last)))

pub returns-else-drop_ref-clause-released : goal.returns-else-drop_ref-clause-released
returns-else-drop_ref-clause-released g c =
    let page = c.args.page.0 in
    let b = g.B.Ground in
    not_last b c.args.blocks.now c.drop_ref.new.self 0 page (drops_of b c.args.blocks.now c.drop_ref.new.self page (without_ref (b.refs c.args.blocks.now page)) c.drop_ref.ensures.counts)
    (λ one. true≢false (sym (c.drop_ref.ensures.last.1 one) ∙ c.if-drop_ref.false))

pub returns-else-drop_ref-clause-gives : goal.returns-else-drop_ref-clause-gives
returns-else-drop_ref-clause-gives g c =
    let page = c.args.page.0 in
    let b = g.B.Ground in
    gives_less b c.args.blocks.now c.drop_ref.new.self page (drops_of b c.args.blocks.now c.drop_ref.new.self page (without_ref (b.refs c.args.blocks.now page)) c.drop_ref.ensures.counts)
