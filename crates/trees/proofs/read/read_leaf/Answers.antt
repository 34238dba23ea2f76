use Rattle.std.proofs.Common.{sym, subst, ◌∙◌, arith, true≢false}
use Rattle.ex_base.proofs.Results.{on_ok_from}
use Rattle.ex_base.specs.declared.geometry.Geometry.{Geometry}
use Rattle.ex_base.specs.Area.{NamesLeaf}
use Rattle.ex_base.proofs.Geometries.{leaf_most}
use Rattle.ex_base.proofs.Keeping.{keeps_refl}
use Rattle.trees.proofs.Blame.{no_leaf_here, leaf_cause, leaf_undamaged}
use Rattle.trees.proofs.read.read_leaf.Goals as goal

pub overflow_cast-pos : goal.overflow_cast-pos
overflow_cast-pos g c = omega (arith, c.requires.some, c.requires.range, c.requires.fits, leaf_most (g.B.Ground.geometry c.args.blocks.now))

pub returns-then-not-names_leaf-clause-kept : goal.returns-then-not-names_leaf-clause-kept
returns-then-not-names_leaf-clause-kept g c = keeps_refl g.B.Ground c.args.blocks.now

pub leaf_into-requires-clause-page : goal.leaf_into-requires-clause-page
leaf_into-requires-clause-page g c = subst (λ (geo : Geometry). NamesLeaf geo c.args.leaf.page.0) c.geometry.ensures (c.names_leaf.ensures.0 c.if-not-names_leaf.false)

pub returns-clause-named : goal.returns-clause-named
returns-clause-named g c = on_ok_from c.leaf_into.result _ (λ x is. subst (λ (geo : Geometry). NamesLeaf geo c.args.leaf.page.0) c.geometry.ensures (c.names_leaf.ensures.0 c.if-not-names_leaf.false))

pub returns-clause-fault : goal.returns-clause-fault
returns-clause-fault g c = leaf_undamaged (g.B.Ground.geometry c.args.blocks.now) c.args.leaf.page c.leaf_into.result c.leaf_into.ensures.no_damage

pub returns-then-not-names_leaf-clause-fault : goal.returns-then-not-names_leaf-clause-fault
returns-then-not-names_leaf-clause-fault g c = no_leaf_here (g.B.Ground.geometry c.args.blocks.now) c.args.leaf.page c.no_leaf.result (λ named. true≢false (sym (c.names_leaf.ensures.1 (subst (λ (geo : Geometry). NamesLeaf geo c.args.leaf.page.0) (sym c.geometry.ensures) named)) ∙ c.if-not-names_leaf.true)) c.no_leaf.ensures

pub returns-then-not-names_leaf-clause-cause : goal.returns-then-not-names_leaf-clause-cause
returns-then-not-names_leaf-clause-cause g c = leaf_cause (g.B.Ground.faults c.args.blocks.now) (g.B.Ground.faults c.args.blocks.now) c.args.leaf.page c.no_leaf.result c.no_leaf.ensures

pub returns-clause-cause : goal.returns-clause-cause
returns-clause-cause g c = c.leaf_into.ensures.cause

pub returns-clause-kept : goal.returns-clause-kept
returns-clause-kept g c = c.leaf_into.ensures.kept
