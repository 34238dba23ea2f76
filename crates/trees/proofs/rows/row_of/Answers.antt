use Rattle.std.proofs.Common.{sym, subst, ◌∙◌, true≢false, IfOk}
use Rattle.std.proofs.lemmas.Result.{IfErr-weaker, IfOk-weaker}
use Rattle.ex_base.specs.declared.geometry.Geometry.{Geometry}
use Rattle.ex_base.proofs.Keeping.{keeps_refl}
use Rattle.trees.specs.Damage.{NamesNode, IsNodeFault}
use Rattle.trees.proofs.Blame.{lies_elsewhere, none_cause}
use Rattle.ex_base.proofs.Results.{on_ok_from}
use Rattle.trees.specs.Rows.{IsCounted, IsRowOn}
use Rattle.trees.proofs.rows.row_of.Goals as goal

pub returns-clause-cause : goal.returns-clause-cause
returns-clause-cause g c = c.row_on.ensures.cause _ _

pub returns-then-not-names_node-clause-kept : goal.returns-then-not-names_node-clause-kept
returns-then-not-names_node-clause-kept g c = keeps_refl g.B.Ground c.args.blocks.now

pub returns-then-not-names_node-clause-fault : goal.returns-then-not-names_node-clause-fault
returns-then-not-names_node-clause-fault g c = λ told. lies_elsewhere (g.B.Ground.geometry c.args.blocks.now) (g.B.Ground.unit c.args.blocks.now c.args.part.page.0) c.args.level c.args.part.size c.args.least c.args.part.page.0 c.no_node.result (λ area. true≢false (sym (c.names_node.ensures.1 (subst (λ (geo : Geometry). NamesNode geo c.args.part.page.0) (sym c.geometry-geometry.ensures) area)) ∙ c.if-not-names_node.true)) c.no_node.ensures

pub returns-then-not-names_node-clause-cause : goal.returns-then-not-names_node-clause-cause
returns-then-not-names_node-clause-cause g c = none_cause (g.B.Ground.faults c.args.blocks.now) (g.B.Ground.faults c.args.blocks.now) c.args.part.page c.args.level c.args.part.size c.no_node.result c.no_node.ensures

pub node-requires-clause-page : goal.node-requires-clause-page
node-requires-clause-page g c = (subst (λ (geo : Geometry). NamesNode geo c.args.part.page.0) c.geometry-geometry.ensures (c.names_node.ensures.0 c.if-not-names_node.false)).0

pub returns-clause-fault : goal.returns-clause-fault
returns-clause-fault g c = IfErr-weaker c.row_on.result _ _ (λ fault h told. subst (λ bytes. IsNodeFault (g.B.Ground.geometry c.args.blocks.now) bytes c.args.level c.args.part.size c.args.least c.args.part.page.0 fault) (c.in_ok-bytes.ensures.bytes told) (subst (λ (geo : Geometry). IsNodeFault geo c.in_ok-bytes.bytes.now c.args.level c.args.part.size c.args.least c.args.part.page.0 fault) c.geometry-geometry.ensures h)) c.row_on.ensures.fault

pub returns-clause-kept : goal.returns-clause-kept
returns-clause-kept g c = c.node.follows.holds-at-none.0

pub returns-clause-counted : goal.returns-clause-counted
returns-clause-counted g c = subst (λ (geo : Geometry). IfOk c.row_on.result (λ row. IsCounted geo c.args.level c.args.part.size c.args.least row.items)) c.geometry-geometry.ensures c.row_on.ensures.counted

pub returns-clause-area : goal.returns-clause-area
returns-clause-area g c = on_ok_from c.row_on.result _ (λ x is. subst (λ (geo : Geometry). NamesNode geo c.args.part.page.0) c.geometry-geometry.ensures (c.names_node.ensures.0 c.if-not-names_node.false))

pub returns-clause-found : goal.returns-clause-found
returns-clause-found g c = IfOk-weaker c.row_on.result _ _ (λ row on told. subst (λ bytes. IsRowOn (g.B.Ground.geometry c.args.blocks.now) bytes c.args.level c.args.part.size row.items) (c.in_ok-bytes.ensures.bytes told) (subst (λ (geo : Geometry). IsRowOn geo c.in_ok-bytes.bytes.now c.args.level c.args.part.size row.items) c.geometry-geometry.ensures on)) c.row_on.ensures.found
