use Rattle.std.proofs.Common.{◌-◌, IfOk, subst, sym, ◌∙◌, true≢false}
use Rattle.ex_base.proofs.Results.{if_ok_both, on_ok_both}
use Rattle.trees.specs.Node.{pairs_on}
use Rattle.trees.specs.Rows.{parts_of, FitLeaves, IsFilled}
use Rattle.trees.specs.Spans.{IsSpan}
use Rattle.trees.proofs.SpanLaws.{span_fits, node_here}
use Rattle.std.proofs.lemmas.Result.{IfErr-weaker, IfOk-weaker}
use Rattle.ex_base.specs.declared.geometry.Geometry.{Geometry}
use Rattle.ex_base.proofs.Keeping.{keeps_refl}
use Rattle.trees.specs.Damage.{NamesNode, IsNodeFault}
use Rattle.trees.proofs.Blame.{lies_elsewhere, none_cause}
use Rattle.trees.proofs.spans.span_of.Goals as goal

pub returns-clause-leaves : goal.returns-clause-leaves
returns-clause-leaves g c =
    subst (λ geo. IfOk c.span_on.result (λ span. FitLeaves geo (c.args.level - 1) span.row.items)) c.geometry-geometry.ensures
    (if_ok_both c.span_on.result (λ span. IsFilled c.geometry-geometry.result c.args.level c.args.least (parts_of 0 (pairs_on c.in_ok-bytes.bytes.now)))
    (λ span. IsSpan (parts_of 0 (pairs_on c.in_ok-bytes.bytes.now)) c.args.pos c.args.len span.row.items span.inside)
    (λ span. FitLeaves c.geometry-geometry.result (c.args.level - 1) span.row.items)
    (λ span filled s. span_fits (parts_of 0 (pairs_on c.in_ok-bytes.bytes.now)) span.row.items c.args.pos c.args.len span.inside s c.geometry-geometry.result c.args.level c.args.least c.requires.inner filled)
    c.span_on.ensures.filled c.span_on.ensures.span)

pub returns-clause-cause : goal.returns-clause-cause
returns-clause-cause g c = c.span_on.ensures.cause _ _

pub returns-then-not-names_node-clause-kept : goal.returns-then-not-names_node-clause-kept
returns-then-not-names_node-clause-kept g c = keeps_refl g.B.Ground c.args.blocks.now

pub returns-then-not-names_node-clause-fault : goal.returns-then-not-names_node-clause-fault
returns-then-not-names_node-clause-fault g c = λ told. lies_elsewhere (g.B.Ground.geometry c.args.blocks.now) (g.B.Ground.unit c.args.blocks.now c.args.part.page.0) c.args.level c.args.part.size c.args.least c.args.part.page.0 c.no_node.result (λ area. true≢false (sym (c.names_node.ensures.1 (subst (λ (geo : Geometry). NamesNode geo c.args.part.page.0) (sym c.geometry-geometry.ensures) area)) ∙ c.if-not-names_node.true)) c.no_node.ensures

pub returns-then-not-names_node-clause-cause : goal.returns-then-not-names_node-clause-cause
returns-then-not-names_node-clause-cause g c = none_cause (g.B.Ground.faults c.args.blocks.now) (g.B.Ground.faults c.args.blocks.now) c.args.part.page c.args.level c.args.part.size c.no_node.result c.no_node.ensures

pub node-requires-clause-page : goal.node-requires-clause-page
node-requires-clause-page g c = (subst (λ (geo : Geometry). NamesNode geo c.args.part.page.0) c.geometry-geometry.ensures (c.names_node.ensures.0 c.if-not-names_node.false)).0

pub returns-clause-fault : goal.returns-clause-fault
returns-clause-fault g c = IfErr-weaker c.span_on.result _ _ (λ fault h told. subst (λ bytes. IsNodeFault (g.B.Ground.geometry c.args.blocks.now) bytes c.args.level c.args.part.size c.args.least c.args.part.page.0 fault) (c.in_ok-bytes.ensures.bytes told) (subst (λ (geo : Geometry). IsNodeFault geo c.in_ok-bytes.bytes.now c.args.level c.args.part.size c.args.least c.args.part.page.0 fault) c.geometry-geometry.ensures h)) c.span_on.ensures.fault

pub returns-clause-kept : goal.returns-clause-kept
returns-clause-kept g c = c.node.follows.holds-at-none.0

pub returns-clause-span : goal.returns-clause-span
returns-clause-span g c = IfOk-weaker c.span_on.result _ _ (λ span is told. subst (λ bytes. IsSpan (parts_of 0 (pairs_on bytes)) c.args.pos c.args.len span.row.items span.inside) (c.in_ok-bytes.ensures.bytes told) is) c.span_on.ensures.span

pub returns-clause-enough : goal.returns-clause-enough
returns-clause-enough g c = IfOk-weaker c.span_on.result _ _ (λ span is. is.enough) c.span_on.ensures.span

pub returns-clause-node : goal.returns-clause-node
returns-clause-node g c = on_ok_both c.span_on.result _ _ _ (λ on filled told. node_here (g.B.Ground.geometry c.args.blocks.now) c.geometry-geometry.result (g.B.Ground.unit c.args.blocks.now) c.args.level c.args.part.size c.args.least c.args.part.page.0 c.in_ok-bytes.bytes.now c.geometry-geometry.ensures (c.in_ok-bytes.ensures.bytes told) (c.names_node.ensures.0 c.if-not-names_node.false) on filled) c.span_on.ensures.row c.span_on.ensures.filled
