use Rattle.std.proofs.Common.{arith, rules, [], ◌∷◌, ◌≡◌, ◌+◌, ◌-◌, ◌≤◌, ◌∙◌, ap, sym, subst, length, min, drop, get_or, take}
use Rattle.std.proofs.lemmas.List.{length-take-le, length-drop}
use Rattle.std.proofs.lemmas.Result.{IfErr-weaker, on_ok_weaker}
use Rattle.ex_base.specs.Area.{NamesLeaf}
use Rattle.ex_base.proofs.Results.{if_err_handed}
use Rattle.trees.specs.Node.{pairs_on}
use Rattle.trees.specs.Rows.{parts_of, row_size, FitLeaves}
use Rattle.trees.specs.Damage.{IsReadFault, IsSoundWay}
use Rattle.trees.proofs.Ways.{way_inner, way_kept}
use Rattle.trees.proofs.SpanLaws.{span_fault, span_way}
use Rattle.trees.proofs.Reading.{no_part}
use Rattle.trees.proofs.RowReads.{ReadSoFar, node_read, read_more, read_past, part_place, part_put, leaf_read, leaf_way, bytes_all, way_all, read_none}
use Rattle.trees.proofs.ReadFaults.{read_fault_back, read_index, read_stops_at_leaf, read_stops_at_node, read_stops_below}
use Rattle.trees.proofs.read.+read.Goals.{read_row-then-n-ne0+in_ok-read_tree, read_row-else-n-ne0}
use Rattle.ex_base.specs.declared.geometry.Geometry.{Geometry}
use Rattle.ex_base.proofs.Keeping.{keeps_on}
use Rattle.ex_base.proofs.Handed.{not_given, cause_here, cause_of, handed_after}
use Rattle.ex_base.specs.Sizes.{leaf_bytes}
use Rattle.ex_base.proofs.Each.{each_at}
use Rattle.trees.specs.declared.rows.Part.{Part}
use Rattle.trees.proofs.read.+read.Goals as goal

pub read_row-returns-in_err-read_tree-clause-fault : goal.read_row-returns-in_err-read_tree-clause-fault
read_row-returns-in_err-read_tree-clause-fault g t c =
    let n_is : c.min-n.result ≡ min (length c.loop-part.out - c.loop-part.done) ((get_or c.args.row.now c.loop-part.part-index no_part).size - c.loop-part.at) =
    c.min-n.ensures ∙ ap (λ k. min (length c.loop-part.out - c.loop-part.done) k) c.saturating_sub.ensures in
    let len : length (take (c.loop-part.done + c.min-n.result - c.loop-part.done) (drop c.loop-part.done c.loop-part.out)) ≡ c.min-n.result =
    length-take-le (c.loop-part.done + c.min-n.result - c.loop-part.done) (drop c.loop-part.done c.loop-part.out) (omega (arith, length-drop c.loop-part.done c.loop-part.out, n_is)) ∙ omega arith in
    let place = part_place g.B.Ground c.args.blocks.now c.loop-part.blocks c.args.level c.args.least c.args.row.now c.args.pos c.args.out.now c.loop-part.out c.loop-part.part-index c.loop-part.at c.loop-part.done c.min-n.result n_is c.if-n-ne0.true c.loop-part.invariant in
    if_err_handed c.from_residual.result _ c.in_err-read_tree.field-0.0 c.from_residual.ensures.1
    (λ told. read_index (g.B.Ground.geometry c.args.blocks.now) (g.B.Ground.unit c.args.blocks.now) c.args.level c.args.least c.loop-part.part-index c.args.row.now
    c.loop-part.at (length (take (c.loop-part.done + c.min-n.result - c.loop-part.done) (drop c.loop-part.done c.loop-part.out))) c.args.pos (length c.args.out.now) c.in_err-read_tree.field-0.0 c.loop-part-test.true
    (omega (arith, place.0)) (omega (arith, place.0, place.1, len))
    (read_fault_back g.B.Ground c.args.blocks.now c.loop-part.blocks c.args.level c.args.least (get_or c.args.row.now c.loop-part.part-index no_part ∷ [])
    c.loop-part.at (length (take (c.loop-part.done + c.min-n.result - c.loop-part.done) (drop c.loop-part.done c.loop-part.out))) c.in_err-read_tree.field-0.0 c.loop-part.invariant.kept c.in_err-read_tree.ensures.fault told))

pub read_row-loop-part-preserved : goal.read_row-loop-part-preserved
read_row-loop-part-preserved g t c =
    let so_far = c.loop-part.invariant in
    let size = (get_or c.args.row.now c.loop-part.part-index no_part).size in
    let n_is : c.min-n.result ≡ min (length c.loop-part.out - c.loop-part.done) ((get_or c.args.row.now c.loop-part.part-index no_part).size - c.loop-part.at) =
    c.min-n.ensures ∙ ap (λ k. min (length c.loop-part.out - c.loop-part.done) k) c.saturating_sub.ensures in
    elim c.if-n-ne0.branch [
      | read_row-then-n-ne0+in_ok-read_tree w ↦ rw w.blocks-is
          (subst (λ k. ReadSoFar g.B.Ground c.args.blocks.now w.read_tree.new.blocks c.args.level c.args.least c.args.row.now c.args.pos c.args.out.now c.if-n-ne0.out (c.loop-part.part-index + 1) k (c.loop-part.done + c.min-n.result)) (sym c.saturating_sub-at.ensures)
          (read_more g.B.Ground c.args.blocks.now c.loop-part.blocks w.read_tree.new.blocks c.args.level c.args.least c.args.row.now c.args.pos c.args.out.now c.loop-part.out c.if-n-ne0.out w.read_tree.new.out c.loop-part.part-index c.loop-part.at c.loop-part.done c.min-n.result _
          c.requires.ready (length-take-le (c.loop-part.done + c.min-n.result - c.loop-part.done) (drop c.loop-part.done c.loop-part.out) (omega (arith, length-drop c.loop-part.done c.loop-part.out, n_is)) ∙ omega arith) c.loop-part-test.true n_is w.if-n-ne0.true so_far w.in_ok-read_tree.ensures.kept (search rules)
          w.in_ok-read_tree.ensures.bytes w.in_ok-read_tree.ensures.way (part_put c.loop-part.out w.read_tree.new.out c.if-n-ne0.out c.loop-part.done c.min-n.result w.out-is)))
      | read_row-else-n-ne0 w ↦ rw (w.blocks-is, w.out-is)
          (subst (λ k. ReadSoFar g.B.Ground c.args.blocks.now c.loop-part.blocks c.args.level c.args.least c.args.row.now c.args.pos c.args.out.now c.loop-part.out (c.loop-part.part-index + 1) k (c.loop-part.done + c.min-n.result)) (sym c.saturating_sub-at.ensures)
          (read_past g.B.Ground c.args.blocks.now c.loop-part.blocks c.args.level c.args.least c.args.row.now c.args.pos c.args.out.now c.loop-part.out c.loop-part.part-index c.loop-part.at c.loop-part.done c.min-n.result c.loop-part-test.true n_is w.if-n-ne0.false so_far))
    ]

pub read_tree-read_row-requires : goal.read_tree-read_row-requires
read_tree-read_row-requires g t c κs within =
    let items = c.deref.ensures.value in
    let fit : FitLeaves (g.B.Ground.geometry c.span_of.new.blocks) (c.args.level - 1) c.deref.result.now =
    subst (λ geo. FitLeaves geo (c.args.level - 1) c.deref.result.now) (sym (g.B.Ground.leads_geometry c.args.blocks.now c.span_of.new.blocks c.in_ok-span.ensures.kept.leads))
    (subst (FitLeaves (g.B.Ground.geometry c.args.blocks.now) (c.args.level - 1)) (sym items) c.in_ok-span.ensures.leaves) in
    let enough : c.in_ok-span.span.inside + length c.args.out.now ≤ row_size c.deref.result.now =
    subst (λ r. c.in_ok-span.span.inside + length c.args.out.now ≤ row_size r) (sym items) c.in_ok-span.ensures.enough in
    search rules

pub read_tree-returns-clause-bytes : goal.read_tree-returns-clause-bytes
read_tree-returns-clause-bytes g t c =
    on_ok_weaker c.read_row.result (λ read told.
    node_read g.B.Ground c.args.blocks.now c.span_of.new.blocks c.args.level c.args.least c.args.tree c.in_ok-span.span.row.items c.deref.result.now c.args.pos (length c.args.out.now) c.in_ok-span.span.inside c.read_row.new.out
    c.requires.ready c.if-level-eq0.false c.deref.ensures.value c.in_ok-span.ensures.kept c.in_ok-span.ensures.node c.in_ok-span.ensures.span read told) c.read_row.ensures.bytes

pub read_tree-returns-clause-way : goal.read_tree-returns-clause-way
read_tree-returns-clause-way g t c =
    let b = g.B.Ground in
    on_ok_weaker c.read_row.result (λ read told at low high.
    let node = c.in_ok-span.ensures.node told in
    way_inner (b.geometry c.args.blocks.now) (b.unit c.args.blocks.now) (NamesLeaf (b.geometry c.args.blocks.now)) c.args.level c.args.least c.args.tree (parts_of 0 (pairs_on (b.unit c.args.blocks.now c.args.tree.page.0))) at at c.if-level-eq0.false node.area node.row node.filled
    (λ here. span_way (parts_of 0 (pairs_on (b.unit c.args.blocks.now c.args.tree.page.0))) c.in_ok-span.span.row.items c.args.pos (length c.args.out.now) c.in_ok-span.span.inside (c.in_ok-span.ensures.span told)
    (b.geometry c.args.blocks.now) (b.unit c.args.blocks.now) (NamesLeaf (b.geometry c.args.blocks.now)) (c.args.level - 1) (b.geometry c.args.blocks.now).fan at low high
    (λ k from to. way_kept b NamesLeaf c.args.blocks.now c.span_of.new.blocks (c.args.level - 1) (b.geometry c.args.blocks.now).fan c.in_ok-span.span.row.items k k c.in_ok-span.ensures.kept
    (λ later. subst (λ fan. IsSoundWay (b.geometry c.span_of.new.blocks) (b.unit c.span_of.new.blocks) (NamesLeaf (b.geometry c.span_of.new.blocks)) (c.args.level - 1) fan c.in_ok-span.span.row.items k k) (ap (λ geo. geo.fan) (c.geometry-fan.ensures ∙ b.leads_geometry c.args.blocks.now c.span_of.new.blocks c.in_ok-span.ensures.kept.leads))
    (subst (λ r. IsSoundWay (b.geometry c.span_of.new.blocks) (b.unit c.span_of.new.blocks) (NamesLeaf (b.geometry c.span_of.new.blocks)) (c.args.level - 1) c.geometry-fan.result.fan r k k) c.deref.ensures.value (read later k from to))) told))) c.read_row.ensures.way

pub read_tree-returns-clause-fault : goal.read_tree-returns-clause-fault
read_tree-returns-clause-fault g t c =
    let b = g.B.Ground in
    IfErr-weaker c.read_row.result _ _ (λ fault read told.
    read_stops_below (b.geometry c.args.blocks.now) (b.unit c.args.blocks.now) c.args.level c.args.least c.args.tree c.args.pos (length c.args.out.now) fault c.if-level-eq0.false c.requires.range (c.in_ok-span.ensures.node told)
    (span_fault (parts_of 0 (pairs_on (b.unit c.args.blocks.now c.args.tree.page.0))) c.in_ok-span.span.row.items c.args.pos (length c.args.out.now) c.in_ok-span.span.inside (c.in_ok-span.ensures.span told)
    (b.geometry c.args.blocks.now) (b.unit c.args.blocks.now) (c.args.level - 1) (b.geometry c.args.blocks.now).fan fault
    (read_fault_back b c.args.blocks.now c.span_of.new.blocks (c.args.level - 1) (b.geometry c.args.blocks.now).fan c.in_ok-span.span.row.items c.in_ok-span.span.inside (length c.args.out.now) fault c.in_ok-span.ensures.kept
    (λ later. subst (λ fan. IsReadFault (b.geometry c.span_of.new.blocks) (b.unit c.span_of.new.blocks) (c.args.level - 1) fan c.in_ok-span.span.row.items c.in_ok-span.span.inside (length c.args.out.now) fault) (ap (λ geo. geo.fan) (c.geometry-fan.ensures ∙ b.leads_geometry c.args.blocks.now c.span_of.new.blocks c.in_ok-span.ensures.kept.leads))
    (subst (λ r. IsReadFault (b.geometry c.span_of.new.blocks) (b.unit c.span_of.new.blocks) (c.args.level - 1) c.geometry-fan.result.fan r c.in_ok-span.span.inside (length c.args.out.now) fault) c.deref.ensures.value (read later))) told))) c.read_row.ensures.fault

pub read_row-read_tree-requires : goal.read_row-read_tree-requires
read_row-read_tree-requires g t c κs within =
    let ready = g.B.Ground.leads_ready c.args.blocks.now c.loop-part.blocks c.loop-part.invariant.kept.leads c.requires.ready in
    let len : length (take (c.loop-part.done + c.min-n.result - c.loop-part.done) (drop c.loop-part.done c.loop-part.out)) ≡ c.loop-part.done + c.min-n.result - c.loop-part.done =
    length-take-le (c.loop-part.done + c.min-n.result - c.loop-part.done) (drop c.loop-part.done c.loop-part.out) (omega (arith, length-drop c.loop-part.done c.loop-part.out, c.min-n.ensures)) in
    let some : 1 ≤ length (take (c.loop-part.done + c.min-n.result - c.loop-part.done) (drop c.loop-part.done c.loop-part.out)) = omega (arith, len, c.if-n-ne0.true) in
    let range : length (take (c.loop-part.done + c.min-n.result - c.loop-part.done) (drop c.loop-part.done c.loop-part.out)) ≤ (get_or c.args.row.now c.loop-part.part-index no_part).size - c.loop-part.at = omega (arith, len, c.min-n.ensures, c.saturating_sub.ensures) in
    let leaf : FitLeaves (g.B.Ground.geometry c.loop-part.blocks) c.args.level (get_or c.args.row.now c.loop-part.part-index no_part ∷ []) =
    λ low. (
      subst (λ (geo : Geometry). (get_or c.args.row.now c.loop-part.part-index no_part).size ≤ leaf_bytes geo) (sym (g.B.Ground.leads_geometry c.args.blocks.now c.loop-part.blocks c.loop-part.invariant.kept.leads))
          (each_at (λ (part : Part). part.size ≤ leaf_bytes (g.B.Ground.geometry c.args.blocks.now)) c.args.row.now c.loop-part.part-index no_part c.loop-part-test.true (c.requires.leaves low)),
      tt,
    ) in
    search rules

pub read_row-loop-part-init : goal.read_row-loop-part-init
read_row-loop-part-init g t c = read_none g.B.Ground c.args.blocks.now c.args.level c.args.least c.args.row.now c.args.pos c.args.out.now

pub read_tree-geometry-fan-requires : goal.read_tree-geometry-fan-requires
read_tree-geometry-fan-requires g t c = record { ready = g.B.Ground.leads_ready c.args.blocks.now c.span_of.new.blocks c.in_ok-span.ensures.kept.leads c.requires.ready }

pub read_row-returns-in_err-read_tree-clause-bytes : goal.read_row-returns-in_err-read_tree-clause-bytes
read_row-returns-in_err-read_tree-clause-bytes g t c = not_given c.from_residual.result _ c.in_err-read_tree.field-0.0 c.from_residual.ensures.1

pub read_row-returns-in_err-read_tree-clause-way : goal.read_row-returns-in_err-read_tree-clause-way
read_row-returns-in_err-read_tree-clause-way g t c = not_given c.from_residual.result _ c.in_err-read_tree.field-0.0 c.from_residual.ensures.1

pub read_row-returns-in_err-read_tree-clause-kept : goal.read_row-returns-in_err-read_tree-clause-kept
read_row-returns-in_err-read_tree-clause-kept g t c = keeps_on g.B.Ground c.args.blocks.now c.loop-part.blocks c.read_tree.new.blocks c.loop-part.invariant.kept c.in_err-read_tree.ensures.kept

pub read_row-returns-in_err-read_tree-clause-cause : goal.read_row-returns-in_err-read_tree-clause-cause
read_row-returns-in_err-read_tree-clause-cause g t c = handed_after g.B.Ground c.args.blocks.now c.loop-part.blocks c.loop-part.invariant.kept.leads c.read_tree.new.blocks c.from_residual.result c.in_err-read_tree.field-0.0 c.from_residual.ensures.1 c.in_err-read_tree.ensures.cause

pub read_row-returns-clause-bytes : goal.read_row-returns-clause-bytes
read_row-returns-clause-bytes g t c = bytes_all g.B.Ground c.args.blocks.now c.loop-part.blocks c.args.level c.args.least c.args.row.now c.args.pos c.args.out.now c.loop-part.out c.loop-part.part-index c.loop-part.at c.loop-part.done (omega (arith, c.loop-part-test.false)) c.requires.range c.loop-part.invariant

pub read_row-returns-clause-way : goal.read_row-returns-clause-way
read_row-returns-clause-way g t c = way_all g.B.Ground c.args.blocks.now c.loop-part.blocks c.args.level c.args.least c.args.row.now c.args.pos c.args.out.now c.loop-part.out c.loop-part.part-index c.loop-part.at c.loop-part.done (omega (arith, c.loop-part-test.false)) c.requires.range c.loop-part.invariant

pub read_tree-returns-in_err-span-clause-bytes : goal.read_tree-returns-in_err-span-clause-bytes
read_tree-returns-in_err-span-clause-bytes g t c = not_given c.from_residual.result _ c.in_err-span.field-0.0 c.from_residual.ensures.1

pub read_tree-returns-in_err-span-clause-way : goal.read_tree-returns-in_err-span-clause-way
read_tree-returns-in_err-span-clause-way g t c = not_given c.from_residual.result _ c.in_err-span.field-0.0 c.from_residual.ensures.1

pub read_tree-returns-in_err-span-clause-kept : goal.read_tree-returns-in_err-span-clause-kept
read_tree-returns-in_err-span-clause-kept g t c = c.in_err-span.ensures.kept

pub read_tree-returns-in_err-span-clause-cause : goal.read_tree-returns-in_err-span-clause-cause
read_tree-returns-in_err-span-clause-cause g t c = cause_here (g.B.Ground.faults c.args.blocks.now) (g.B.Ground.faults c.span_of.new.blocks) c.from_residual.result c.in_err-span.field-0.0 c.from_residual.ensures.1 c.in_err-span.ensures.cause

pub read_tree-returns-in_err-span-clause-fault : goal.read_tree-returns-in_err-span-clause-fault
read_tree-returns-in_err-span-clause-fault g t c =
    if_err_handed c.from_residual.result _ c.in_err-span.field-0.0 c.from_residual.ensures.1
    (λ told. read_stops_at_node (g.B.Ground.geometry c.args.blocks.now) (g.B.Ground.unit c.args.blocks.now) c.args.level c.args.least c.args.tree c.args.pos (length c.args.out.now) c.in_err-span.field-0.0 c.if-level-eq0.false c.requires.some c.requires.range (c.in_err-span.ensures.fault told))

pub read_tree-returns-clause-kept : goal.read_tree-returns-clause-kept
read_tree-returns-clause-kept g t c = keeps_on g.B.Ground c.args.blocks.now c.span_of.new.blocks c.read_row.new.blocks c.in_ok-span.ensures.kept c.read_row.ensures.kept

pub read_tree-returns-clause-cause : goal.read_tree-returns-clause-cause
read_tree-returns-clause-cause g t c = cause_of g.B.Ground c.args.blocks.now c.span_of.new.blocks c.in_ok-span.ensures.kept.leads c.read_row.new.blocks c.read_row.result c.read_row.ensures.cause

pub read_tree-returns-then-level-eq0-clause-bytes : goal.read_tree-returns-then-level-eq0-clause-bytes
read_tree-returns-then-level-eq0-clause-bytes g t c = on_ok_weaker c.read_leaf.result (λ read told trees. leaf_read (g.B.Ground.unit c.args.blocks.now) c.args.level (length c.args.out.now) c.args.pos c.args.tree c.read_leaf.new.out c.if-level-eq0.true c.requires.range (read told)) c.read_leaf.ensures.bytes

pub read_tree-returns-then-level-eq0-clause-way : goal.read_tree-returns-then-level-eq0-clause-way
read_tree-returns-then-level-eq0-clause-way g t c = on_ok_weaker c.read_leaf.result (λ named told byte low high. leaf_way (g.B.Ground.geometry c.args.blocks.now) (g.B.Ground.unit c.args.blocks.now) c.args.level c.args.least c.args.tree byte byte c.if-level-eq0.true named) c.read_leaf.ensures.named

pub read_tree-returns-then-level-eq0-clause-fault : goal.read_tree-returns-then-level-eq0-clause-fault
read_tree-returns-then-level-eq0-clause-fault g t c =
    IfErr-weaker c.read_leaf.result _ _ (λ fault h told. read_stops_at_leaf (g.B.Ground.geometry c.args.blocks.now) (g.B.Ground.unit c.args.blocks.now) c.args.level c.args.least c.args.tree c.args.pos (length c.args.out.now) fault c.if-level-eq0.true c.requires.some c.requires.range h) c.read_leaf.ensures.fault

pub read_tree-returns-then-level-eq0-clause-kept : goal.read_tree-returns-then-level-eq0-clause-kept
read_tree-returns-then-level-eq0-clause-kept g t c = c.read_leaf.ensures.kept

pub read_tree-returns-then-level-eq0-clause-cause : goal.read_tree-returns-then-level-eq0-clause-cause
read_tree-returns-then-level-eq0-clause-cause g t c = c.read_leaf.ensures.cause
