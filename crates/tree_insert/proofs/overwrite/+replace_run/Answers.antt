use Rattle.std.proofs.Common.{rules, arith, ℕ, List, ◌≡◌, ◌≤◌, ◌+◌, ◌-◌, ◌*◌, ◌++◌, ◌∙◌, ap, sym, subst, suc, length, take, drop}
use Rattle.std.proofs.lemmas.List.{length-take-le}
use Rattle.std.proofs.lemmas.Result.{IfOk-at_ok, on_ok_weaker}
use Rattle.ex_base.specs.Bytes.{written}
use Rattle.ex_base.specs.Needs.{replaced_leaves}
use Rattle.ex_base.specs.Sizes.{leaf_bytes, object_most, most_page}
use Rattle.ex_base.specs.declared.geometry.Geometry.{Geometry}
use Rattle.ex_base.specs.declared.names.Area.{Area}
use Rattle.ex_base.specs.declared.names.Area.TheVariants.{Page, Segment}
use Rattle.ex_base.proofs.Spread.{Between}
use Rattle.trees.specs.Split.{most_pairs}
use Rattle.trees.specs.declared.rows.Part.{Part}
use Rattle.trees.specs.Damage.{AnyPage, IsSoundEnd, IsSoundWay, IsWalkFault}
use Rattle.trees.specs.Rows.{row_size, row_bytes, row_shape}
use Rattle.trees.specs.Built.{AreSome, Built, IsCut}
use Rattle.trees.specs.Made.{Holds}
use Rattle.trees.proofs.Laid.{extends_on, extends_kept}
use Rattle.trees.specs.Counted.{Counted, NamesPairs}
use Rattle.trees.specs.Grown.{Grew}
use Rattle.tree_insert.specs.Replaced.{IsSpan, IsTouched, IsSpent, AreLeaves}
use Rattle.tree_insert.proofs.BelowRows.{size_below, count_below, lens_below, as_many, some_below}
use Rattle.tree_insert.proofs.Paid.{level_up}
use Rattle.tree_insert.proofs.ReplacedLeaves.{few_leaves}
use Rattle.tree_insert.proofs.ReplacedRuns.{run_replaced, same_row, touched_count, touched_sum, touched_some, touched_leaves_fit, spent_at, few_up, enough_nodes, nodes_spent, walk_touched}
use Rattle.ex_base.specs.Area.{NamesLeaf}
use Rattle.trees.proofs.Ways.{way_any, way_kept, way_low}
use Rattle.tree_insert.proofs.SoundWays.{run_way, touched_end, touched_way}
use Rattle.ex_base.proofs.Keeping.{cause_on}
use Rattle.ex_base.proofs.Each.{each_as}
use Rattle.ex_base.proofs.Geometries.{page_le}
use Rattle.ex_base.proofs.Results.{from_ok, if_err_handed, if_ok_from, on_ok_from, cause_handed}
use Rattle.ex_base.proofs.Handed.{no_value, not_given, cause_here}
use Rattle.tree_insert.proofs.WalkFaults.{undamaged, walk_leaves}
use Rattle.ex_base.specs.declared.faults.PortFault.TheVariants.{Memory}
use Rattle.tree_insert.proofs.overwrite.+replace_run.Goals as goal

pub returns-then-level-eq0-clause-spent : goal.returns-then-level-eq0-clause-spent
returns-then-level-eq0-clause-spent g t c =
    on_ok_from c.replace_leaves.result _ (λ made is.
    let few = few_leaves (g.B.Ground.geometry c.args.blocks.now) c.args.run.now c.args.pos (length c.args.given.now) (subst (λ k. AreLeaves (g.B.Ground.geometry c.args.blocks.now) k c.args.run.now) c.if-level-eq0.true c.requires.leaves) c.requires.touched in
    omega (arith, ap (λ k. ((g.B.Ground.geometry c.args.blocks.now).fan - 1) * k) (from_ok c.replace_leaves.result made _ is c.replace_leaves.ensures.pages), ap (λ k. k * (2 * ((g.B.Ground.geometry c.args.blocks.now).fan - 1))) c.if-level-eq0.true))

pub span_of-span-requires-clause-all : goal.span_of-span-requires-clause-all
span_of-span-requires-clause-all g t c = omega (arith, ap row_size c.deref.ensures.value, size_below (g.B.Ground.geometry c.args.blocks.now) c.args.level c.args.least c.args.run.now c.in_ok-below.below.lens.items c.in_ok-below.below.row.items c.in_ok-below.ensures.counted, c.requires.touched.all)

pub span_of-span-requires-clause-limit : goal.span_of-span-requires-clause-limit
span_of-span-requires-clause-limit g t c = omega (arith, ap row_size c.deref.ensures.value, size_below (g.B.Ground.geometry c.args.blocks.now) c.args.level c.args.least c.args.run.now c.in_ok-below.below.lens.items c.in_ok-below.below.row.items c.in_ok-below.ensures.counted, c.requires.limit)

pub replace_run-requires : goal.replace_run-requires
replace_run-requires g t c κs within =
    let span = (subst (λ r. IsSpan r c.args.pos (length c.args.given.now) c.span_of-span.result.first c.span_of-span.result.end c.span_of-span.result.at) c.deref.ensures.value c.span_of-span.ensures) in
    let ready : g.B.Ground.ready c.row_below.new.blocks = g.B.Ground.leads_ready c.args.blocks.now c.row_below.new.blocks c.in_ok-below.ensures.kept.leads c.requires.ready in
    let buffer : length c.args.buffer.now ≡ leaf_bytes (g.B.Ground.geometry c.row_below.new.blocks) = c.requires.buffer ∙ ap leaf_bytes (sym (g.B.Ground.leads_geometry c.args.blocks.now c.row_below.new.blocks c.in_ok-below.ensures.kept.leads)) in
    let sizes : AreSome c.piece-touched.result.now = subst AreSome (sym (c.piece-touched.ensures ∙ ap (λ r. take (c.span_of-span.result.end - c.span_of-span.result.first) (drop c.span_of-span.result.first r)) c.deref-2.ensures.value)) (touched_some c.in_ok-below.below.row.items c.span_of-span.result.first (c.span_of-span.result.end - c.span_of-span.result.first) (some_below (g.B.Ground.geometry c.args.blocks.now) c.args.level c.args.least c.args.run.now c.in_ok-below.below.lens.items c.in_ok-below.below.row.items c.in_ok-below.ensures.counted)) in
    let leaves : AreLeaves (g.B.Ground.geometry c.row_below.new.blocks) (c.args.level - 1) c.piece-touched.result.now =
    subst (λ x. AreLeaves x (c.args.level - 1) c.piece-touched.result.now) (sym (g.B.Ground.leads_geometry c.args.blocks.now c.row_below.new.blocks c.in_ok-below.ensures.kept.leads)) (subst (AreLeaves (g.B.Ground.geometry c.args.blocks.now) (c.args.level - 1)) (sym (c.piece-touched.ensures ∙ ap (λ r. take (c.span_of-span.result.end - c.span_of-span.result.first) (drop c.span_of-span.result.first r)) c.deref-2.ensures.value)) (touched_leaves_fit (g.B.Ground.geometry c.args.blocks.now) c.args.level c.args.least c.args.run.now c.in_ok-below.below.lens.items c.in_ok-below.below.row.items c.span_of-span.result.first (c.span_of-span.result.end - c.span_of-span.result.first) c.if-level-eq0.false c.in_ok-below.ensures.counted)) in
    let touched : IsTouched c.piece-touched.result.now c.span_of-span.result.at (length c.args.given.now) = subst (λ r. IsTouched r c.span_of-span.result.at (length c.args.given.now)) (sym (c.piece-touched.ensures ∙ ap (λ r. take (c.span_of-span.result.end - c.span_of-span.result.first) (drop c.span_of-span.result.first r)) c.deref-2.ensures.value)) span.touched in
    let limit : row_size c.piece-touched.result.now ≤ object_most = omega (arith, ap row_size (c.piece-touched.ensures ∙ ap (λ r. take (c.span_of-span.result.end - c.span_of-span.result.first) (drop c.span_of-span.result.first r)) c.deref-2.ensures.value), touched_sum c.in_ok-below.below.row.items c.span_of-span.result.first c.span_of-span.result.end span.order, size_below (g.B.Ground.geometry c.args.blocks.now) c.args.level c.args.least c.args.run.now c.in_ok-below.below.lens.items c.in_ok-below.below.row.items c.in_ok-below.ensures.counted, c.requires.limit) in
    let some : 1 ≤ c.geometry-geometry.result.fan = omega (arith, c.geometry-geometry.result.two) in
    let least : 2 ≤ length c.piece-touched.result.now → (g.B.Ground.geometry c.row_below.new.blocks).fan ≤ c.geometry-geometry.result.fan = λ two. omega (arith, ap (λ (x : Geometry). x.fan) (g.B.Ground.leads_geometry c.args.blocks.now c.row_below.new.blocks c.in_ok-below.ensures.kept.leads), ap (λ (x : Geometry). x.fan) c.geometry-geometry.ensures) in
    let free : replaced_leaves (g.B.Ground.geometry c.row_below.new.blocks) (length c.args.given.now) ≤ g.B.Ground.free c.row_below.new.blocks Segment =
    subst (λ (x : Geometry). replaced_leaves x (length c.args.given.now) ≤ g.B.Ground.free c.row_below.new.blocks Segment) (sym (g.B.Ground.leads_geometry c.args.blocks.now c.row_below.new.blocks c.in_ok-below.ensures.kept.leads)) (subst (λ (f : Area → ℕ). replaced_leaves (g.B.Ground.geometry c.args.blocks.now) (length c.args.given.now) ≤ f Segment) (sym c.in_ok-below.ensures.kept.free) c.requires.free) in
    let pages : replaced_leaves (g.B.Ground.geometry c.row_below.new.blocks) (length c.args.given.now) + (c.args.level - 1) * (2 * ((g.B.Ground.geometry c.row_below.new.blocks).fan - 1)) ≤ ((g.B.Ground.geometry c.row_below.new.blocks).fan - 1) * g.B.Ground.free c.row_below.new.blocks Page =
    subst (λ (x : Geometry). replaced_leaves x (length c.args.given.now) + (c.args.level - 1) * (2 * (x.fan - 1)) ≤ (x.fan - 1) * g.B.Ground.free c.row_below.new.blocks Page) (sym (g.B.Ground.leads_geometry c.args.blocks.now c.row_below.new.blocks c.in_ok-below.ensures.kept.leads))
    (subst (λ (f : Area → ℕ). (replaced_leaves (g.B.Ground.geometry c.args.blocks.now) (length c.args.given.now)) + (c.args.level - 1) * (2 * ((g.B.Ground.geometry c.args.blocks.now).fan - 1)) ≤ ((g.B.Ground.geometry c.args.blocks.now).fan - 1) * f Page) (sym c.in_ok-below.ensures.kept.free)
    (omega (arith, level_up c.args.level (2 * ((g.B.Ground.geometry c.args.blocks.now).fan - 1)) c.if-level-eq0.false, c.requires.pages))) in
    search rules

pub returns-in_err-made-clause-fault : goal.returns-in_err-made-clause-fault
returns-in_err-made-clause-fault g t c =
    if_err_handed c.from_residual-in_err-made.result _ c.in_err-made.field-0.0 c.from_residual-in_err-made.ensures.1
    (walk_touched g.B.Ground c.args.blocks.now c.row_below.new.blocks c.args.level c.args.least c.args.run.now c.in_ok-below.below.lens.items c.in_ok-below.below.row.items c.span_of-span.result.first (c.span_of-span.result.end - c.span_of-span.result.first) c.in_err-made.field-0.0 c.if-level-eq0.false c.in_ok-below.ensures.kept c.in_ok-below.ensures.counted c.in_ok-below.ensures.found c.in_ok-below.ensures.area
    (λ told. subst (λ r. IsWalkFault (g.B.Ground.geometry c.row_below.new.blocks) (g.B.Ground.unit c.row_below.new.blocks) (c.args.level - 1) (g.B.Ground.geometry c.args.blocks.now).fan r c.in_err-made.field-0.0) (c.piece-touched.ensures ∙ ap (λ r. take (c.span_of-span.result.end - c.span_of-span.result.first) (drop c.span_of-span.result.first r)) c.deref-2.ensures.value)
    (subst (λ (x : Geometry). IsWalkFault (g.B.Ground.geometry c.row_below.new.blocks) (g.B.Ground.unit c.row_below.new.blocks) (c.args.level - 1) x.fan c.piece-touched.result.now c.in_err-made.field-0.0) c.geometry-geometry.ensures (c.in_err-made.ensures.fault told))))

pub nodes_by-requires-clause-ready : goal.nodes_by-requires-clause-ready
nodes_by-requires-clause-ready g t c = g.B.Ground.leads_ready c.row_below.new.blocks c.replace_run.new.blocks c.in_ok-made.ensures.extends.leads (g.B.Ground.leads_ready c.args.blocks.now c.row_below.new.blocks c.in_ok-below.ensures.kept.leads c.requires.ready)

pub nodes_by-requires-clause-buffer : goal.nodes_by-requires-clause-buffer
nodes_by-requires-clause-buffer g t c =
    length-take-le c.geometry-geometry.result.page_size c.replace_run.new.buffer (omega (arith, c.replace_run.auto.buffer, c.requires.buffer, page_le (g.B.Ground.geometry c.args.blocks.now), ap (λ (x : Geometry). x.page_size) c.geometry-geometry.ensures))
    ∙ ap (λ (x : Geometry). x.page_size) (c.geometry-geometry.ensures ∙ sym ((g.B.Ground.leads_geometry c.row_below.new.blocks c.replace_run.new.blocks c.in_ok-made.ensures.extends.leads ∙ (g.B.Ground.leads_geometry c.args.blocks.now c.row_below.new.blocks c.in_ok-below.ensures.kept.leads))))

pub nodes_by-requires-clause-sizes : goal.nodes_by-requires-clause-sizes
nodes_by-requires-clause-sizes g t c = subst AreSome (sym c.deref-5.ensures.value) (same_row c.in_ok-below.below.row.items c.in_ok-made.made.items c.in_ok-row.row.items c.span_of-span.result.first c.span_of-span.result.end c.span_of-span.ensures.order (omega (arith, c.span_of-span.ensures.within, ap length c.deref.ensures.value)) (c.in_ok-row.ensures ∙ ap (λ r. (take c.span_of-span.result.first r ++ c.deref-4.result.now) ++ drop c.span_of-span.result.end r) c.deref-3.ensures.value ∙ ap (λ m. (take c.span_of-span.result.first c.in_ok-below.below.row.items ++ m) ++ drop c.span_of-span.result.end c.in_ok-below.below.row.items) c.deref-4.ensures.value) (c.in_ok-made.ensures.sum ∙ ap row_size (c.piece-touched.ensures ∙ ap (λ r. take (c.span_of-span.result.end - c.span_of-span.result.first) (drop c.span_of-span.result.first r)) c.deref-2.ensures.value)) (c.in_ok-made.ensures.count ∙ ap length (c.piece-touched.ensures ∙ ap (λ r. take (c.span_of-span.result.end - c.span_of-span.result.first) (drop c.span_of-span.result.first r)) c.deref-2.ensures.value)) (some_below (g.B.Ground.geometry c.args.blocks.now) c.args.level c.args.least c.args.run.now c.in_ok-below.below.lens.items c.in_ok-below.below.row.items c.in_ok-below.ensures.counted) c.in_ok-made.ensures.sizes).some

pub nodes_by-requires-clause-limit : goal.nodes_by-requires-clause-limit
nodes_by-requires-clause-limit g t c = omega (arith, ap row_size c.deref-5.ensures.value, (same_row c.in_ok-below.below.row.items c.in_ok-made.made.items c.in_ok-row.row.items c.span_of-span.result.first c.span_of-span.result.end c.span_of-span.ensures.order (omega (arith, c.span_of-span.ensures.within, ap length c.deref.ensures.value)) (c.in_ok-row.ensures ∙ ap (λ r. (take c.span_of-span.result.first r ++ c.deref-4.result.now) ++ drop c.span_of-span.result.end r) c.deref-3.ensures.value ∙ ap (λ m. (take c.span_of-span.result.first c.in_ok-below.below.row.items ++ m) ++ drop c.span_of-span.result.end c.in_ok-below.below.row.items) c.deref-4.ensures.value) (c.in_ok-made.ensures.sum ∙ ap row_size (c.piece-touched.ensures ∙ ap (λ r. take (c.span_of-span.result.end - c.span_of-span.result.first) (drop c.span_of-span.result.first r)) c.deref-2.ensures.value)) (c.in_ok-made.ensures.count ∙ ap length (c.piece-touched.ensures ∙ ap (λ r. take (c.span_of-span.result.end - c.span_of-span.result.first) (drop c.span_of-span.result.first r)) c.deref-2.ensures.value)) (some_below (g.B.Ground.geometry c.args.blocks.now) c.args.level c.args.least c.args.run.now c.in_ok-below.below.lens.items c.in_ok-below.below.row.items c.in_ok-below.ensures.counted) c.in_ok-made.ensures.sizes).sum, size_below (g.B.Ground.geometry c.args.blocks.now) c.args.level c.args.least c.args.run.now c.in_ok-below.below.lens.items c.in_ok-below.below.row.items c.in_ok-below.ensures.counted, c.requires.limit)

pub nodes_by-requires-clause-lens : goal.nodes_by-requires-clause-lens
nodes_by-requires-clause-lens g t c =
    subst (λ (x : Geometry). IsCut (most_pairs x.fan) (length c.deref-5.result.now) c.deref-6.result.now) (sym ((g.B.Ground.leads_geometry c.row_below.new.blocks c.replace_run.new.blocks c.in_ok-made.ensures.extends.leads ∙ (g.B.Ground.leads_geometry c.args.blocks.now c.row_below.new.blocks c.in_ok-below.ensures.kept.leads))))
    (subst (λ k. IsCut (most_pairs (g.B.Ground.geometry c.args.blocks.now).fan) k c.deref-6.result.now) (sym (ap length c.deref-5.ensures.value ∙ (same_row c.in_ok-below.below.row.items c.in_ok-made.made.items c.in_ok-row.row.items c.span_of-span.result.first c.span_of-span.result.end c.span_of-span.ensures.order (omega (arith, c.span_of-span.ensures.within, ap length c.deref.ensures.value)) (c.in_ok-row.ensures ∙ ap (λ r. (take c.span_of-span.result.first r ++ c.deref-4.result.now) ++ drop c.span_of-span.result.end r) c.deref-3.ensures.value ∙ ap (λ m. (take c.span_of-span.result.first c.in_ok-below.below.row.items ++ m) ++ drop c.span_of-span.result.end c.in_ok-below.below.row.items) c.deref-4.ensures.value) (c.in_ok-made.ensures.sum ∙ ap row_size (c.piece-touched.ensures ∙ ap (λ r. take (c.span_of-span.result.end - c.span_of-span.result.first) (drop c.span_of-span.result.first r)) c.deref-2.ensures.value)) (c.in_ok-made.ensures.count ∙ ap length (c.piece-touched.ensures ∙ ap (λ r. take (c.span_of-span.result.end - c.span_of-span.result.first) (drop c.span_of-span.result.first r)) c.deref-2.ensures.value)) (some_below (g.B.Ground.geometry c.args.blocks.now) c.args.level c.args.least c.args.run.now c.in_ok-below.below.lens.items c.in_ok-below.below.row.items c.in_ok-below.ensures.counted) c.in_ok-made.ensures.sizes).count))
    (subst (IsCut (most_pairs (g.B.Ground.geometry c.args.blocks.now).fan) (length c.in_ok-below.below.row.items)) (sym c.deref-6.ensures.value) (record {
      each = each_as _ (Between 1 (most_pairs (g.B.Ground.geometry c.args.blocks.now).fan)) c.in_ok-below.below.lens.items (λ k h. (omega (arith, h.0, c.requires.some), h.1)) (lens_below (g.B.Ground.geometry c.args.blocks.now) c.args.level c.args.least c.args.run.now c.in_ok-below.below.lens.items c.in_ok-below.below.row.items c.in_ok-below.ensures.counted);
      sum = count_below (g.B.Ground.geometry c.args.blocks.now) c.args.level c.args.least c.args.run.now c.in_ok-below.below.lens.items c.in_ok-below.below.row.items c.in_ok-below.ensures.counted;
    })))

pub nodes_by-requires-clause-free : goal.nodes_by-requires-clause-free
nodes_by-requires-clause-free g t c =
    let span = (subst (λ r. IsSpan r c.args.pos (length c.args.given.now) c.span_of-span.result.first c.span_of-span.result.end c.span_of-span.result.at) c.deref.ensures.value c.span_of-span.ensures) in
    let r : length c.args.run.now ≤ g.B.Ground.free c.replace_run.new.blocks Page = enough_nodes ((g.B.Ground.geometry c.args.blocks.now).fan - 1) (replaced_leaves (g.B.Ground.geometry c.args.blocks.now) (length c.args.given.now)) c.args.level (g.B.Ground.free c.args.blocks.now Page) (g.B.Ground.free c.replace_run.new.blocks Page) (length c.args.run.now) (c.span_of-span.result.end - c.span_of-span.result.first) (omega (arith, (g.B.Ground.geometry c.args.blocks.now).two)) c.if-level-eq0.false c.requires.touched.some (omega (arith, span.order)) (few_up (g.B.Ground.geometry c.args.blocks.now) c.args.level c.args.least c.args.run.now c.in_ok-below.below.lens.items c.in_ok-below.below.row.items c.args.pos (length c.args.given.now) c.span_of-span.result.first c.span_of-span.result.end c.span_of-span.result.at c.in_ok-below.ensures.counted c.requires.touched span c.requires.least) c.requires.pages (subst (λ x. IsSpent (g.B.Ground.geometry c.args.blocks.now).fan (replaced_leaves (g.B.Ground.geometry c.args.blocks.now) (length c.args.given.now)) (c.args.level - 1) (g.B.Ground.free c.args.blocks.now Page) (g.B.Ground.free c.replace_run.new.blocks Page) x) (ap length (c.piece-touched.ensures ∙ ap (λ r. take (c.span_of-span.result.end - c.span_of-span.result.first) (drop c.span_of-span.result.first r)) c.deref-2.ensures.value) ∙ touched_count c.in_ok-below.below.row.items c.span_of-span.result.first c.span_of-span.result.end c.span_of-span.ensures.order (omega (arith, c.span_of-span.ensures.within, ap length c.deref.ensures.value))) (spent_at g.B.Ground c.args.blocks.now c.row_below.new.blocks c.replace_run.new.blocks c.args.level (length c.args.given.now) (length c.piece-touched.result.now) c.in_ok-below.ensures.kept c.in_ok-made.ensures.spent)) in
    omega (arith, ap length c.deref-6.ensures.value, as_many (g.B.Ground.geometry c.args.blocks.now) c.args.level c.args.least c.args.run.now c.in_ok-below.below.lens.items c.in_ok-below.below.row.items c.in_ok-below.ensures.counted)

pub returns-clause-extends : goal.returns-clause-extends
returns-clause-extends g t c =
    on_ok_from c.nodes_by.result _ (λ made is. extends_on g.B.Ground c.args.blocks.now c.row_below.new.blocks c.nodes_by.new.blocks (extends_kept g.B.Ground c.args.blocks.now c.row_below.new.blocks c.in_ok-below.ensures.kept) (extends_on g.B.Ground c.row_below.new.blocks c.replace_run.new.blocks c.nodes_by.new.blocks c.in_ok-made.ensures.extends (from_ok c.nodes_by.result made _ is c.nodes_by.ensures.extends)))

pub returns-clause-sum : goal.returns-clause-sum
returns-clause-sum g t c = if_ok_from c.nodes_by.result _ (λ made is. omega (arith, IfOk-at_ok _ is c.nodes_by.ensures.sum, ap row_size c.deref-5.ensures.value, (same_row c.in_ok-below.below.row.items c.in_ok-made.made.items c.in_ok-row.row.items c.span_of-span.result.first c.span_of-span.result.end c.span_of-span.ensures.order (omega (arith, c.span_of-span.ensures.within, ap length c.deref.ensures.value)) (c.in_ok-row.ensures ∙ ap (λ r. (take c.span_of-span.result.first r ++ c.deref-4.result.now) ++ drop c.span_of-span.result.end r) c.deref-3.ensures.value ∙ ap (λ m. (take c.span_of-span.result.first c.in_ok-below.below.row.items ++ m) ++ drop c.span_of-span.result.end c.in_ok-below.below.row.items) c.deref-4.ensures.value) (c.in_ok-made.ensures.sum ∙ ap row_size (c.piece-touched.ensures ∙ ap (λ r. take (c.span_of-span.result.end - c.span_of-span.result.first) (drop c.span_of-span.result.first r)) c.deref-2.ensures.value)) (c.in_ok-made.ensures.count ∙ ap length (c.piece-touched.ensures ∙ ap (λ r. take (c.span_of-span.result.end - c.span_of-span.result.first) (drop c.span_of-span.result.first r)) c.deref-2.ensures.value)) (some_below (g.B.Ground.geometry c.args.blocks.now) c.args.level c.args.least c.args.run.now c.in_ok-below.below.lens.items c.in_ok-below.below.row.items c.in_ok-below.ensures.counted) c.in_ok-made.ensures.sizes).sum, size_below (g.B.Ground.geometry c.args.blocks.now) c.args.level c.args.least c.args.run.now c.in_ok-below.below.lens.items c.in_ok-below.below.row.items c.in_ok-below.ensures.counted))

pub returns-clause-count : goal.returns-clause-count
returns-clause-count g t c = if_ok_from c.nodes_by.result _ (λ made is. omega (arith, IfOk-at_ok _ is c.nodes_by.ensures.count, ap length c.deref-6.ensures.value, as_many (g.B.Ground.geometry c.args.blocks.now) c.args.level c.args.least c.args.run.now c.in_ok-below.below.lens.items c.in_ok-below.below.row.items c.in_ok-below.ensures.counted))

pub returns-clause-leaves : goal.returns-clause-leaves
returns-clause-leaves g t c =
    on_ok_from c.nodes_by.result _ (λ made is.
    let later : g.B.Ground.free c.row_below.new.blocks Segment ≤ g.B.Ground.free c.replace_run.new.blocks Segment + (replaced_leaves (g.B.Ground.geometry c.args.blocks.now) (length c.args.given.now)) = subst (λ (x : Geometry). g.B.Ground.free c.row_below.new.blocks Segment ≤ g.B.Ground.free c.replace_run.new.blocks Segment + replaced_leaves x (length c.args.given.now)) (g.B.Ground.leads_geometry c.args.blocks.now c.row_below.new.blocks c.in_ok-below.ensures.kept.leads) c.in_ok-made.ensures.leaves in
    omega (arith, (from_ok c.nodes_by.result made _ is c.nodes_by.ensures.spent).of_leaves, ap (λ (f : Area → ℕ). f Segment) c.in_ok-below.ensures.kept.free))

pub returns-clause-spent : goal.returns-clause-spent
returns-clause-spent g t c =
    on_ok_from c.nodes_by.result _ (λ made is.
    let span = (subst (λ r. IsSpan r c.args.pos (length c.args.given.now) c.span_of-span.result.first c.span_of-span.result.end c.span_of-span.result.at) c.deref.ensures.value c.span_of-span.ensures) in
    nodes_spent ((g.B.Ground.geometry c.args.blocks.now).fan - 1) (replaced_leaves (g.B.Ground.geometry c.args.blocks.now) (length c.args.given.now)) c.args.level (g.B.Ground.free c.args.blocks.now Page) (g.B.Ground.free c.replace_run.new.blocks Page) (g.B.Ground.free c.nodes_by.new.blocks Page) (length c.args.run.now) (c.span_of-span.result.end - c.span_of-span.result.first) (omega (arith, (g.B.Ground.geometry c.args.blocks.now).two)) c.if-level-eq0.false c.requires.touched.some (omega (arith, span.order)) (few_up (g.B.Ground.geometry c.args.blocks.now) c.args.level c.args.least c.args.run.now c.in_ok-below.below.lens.items c.in_ok-below.below.row.items c.args.pos (length c.args.given.now) c.span_of-span.result.first c.span_of-span.result.end c.span_of-span.result.at c.in_ok-below.ensures.counted c.requires.touched span c.requires.least)
    (omega (arith, (from_ok c.nodes_by.result made _ is c.nodes_by.ensures.spent).of_pages, ap length c.deref-6.ensures.value, as_many (g.B.Ground.geometry c.args.blocks.now) c.args.level c.args.least c.args.run.now c.in_ok-below.below.lens.items c.in_ok-below.below.row.items c.in_ok-below.ensures.counted)) (subst (λ x. IsSpent (g.B.Ground.geometry c.args.blocks.now).fan (replaced_leaves (g.B.Ground.geometry c.args.blocks.now) (length c.args.given.now)) (c.args.level - 1) (g.B.Ground.free c.args.blocks.now Page) (g.B.Ground.free c.replace_run.new.blocks Page) x) (ap length (c.piece-touched.ensures ∙ ap (λ r. take (c.span_of-span.result.end - c.span_of-span.result.first) (drop c.span_of-span.result.first r)) c.deref-2.ensures.value) ∙ touched_count c.in_ok-below.below.row.items c.span_of-span.result.first c.span_of-span.result.end c.span_of-span.ensures.order (omega (arith, c.span_of-span.ensures.within, ap length c.deref.ensures.value))) (spent_at g.B.Ground c.args.blocks.now c.row_below.new.blocks c.replace_run.new.blocks c.args.level (length c.args.given.now) (length c.piece-touched.result.now) c.in_ok-below.ensures.kept c.in_ok-made.ensures.spent)))

pub returns-clause-leads : goal.returns-clause-leads
returns-clause-leads g t c = g.B.Ground.leads_trans c.args.blocks.now c.row_below.new.blocks c.nodes_by.new.blocks c.in_ok-below.ensures.kept.leads (g.B.Ground.leads_trans c.row_below.new.blocks c.replace_run.new.blocks c.nodes_by.new.blocks c.in_ok-made.ensures.leads c.nodes_by.ensures.leads)

pub returns-clause-cause : goal.returns-clause-cause
returns-clause-cause g t c =
    let first : g.B.Ground.faults c.args.blocks.now ≤ g.B.Ground.faults c.row_below.new.blocks = g.B.Ground.leads_faults c.args.blocks.now c.row_below.new.blocks c.in_ok-below.ensures.kept.leads in
    let second : g.B.Ground.faults c.row_below.new.blocks ≤ g.B.Ground.faults c.replace_run.new.blocks = g.B.Ground.leads_faults c.row_below.new.blocks c.replace_run.new.blocks c.in_ok-made.ensures.leads in
    cause_on (g.B.Ground.faults c.args.blocks.now) (g.B.Ground.faults c.replace_run.new.blocks) (g.B.Ground.faults c.nodes_by.new.blocks) c.nodes_by.result (omega arith) c.nodes_by.ensures.cause

pub returns-clause-grew : goal.returns-clause-grew
returns-clause-grew g t c =
    if_ok_from c.nodes_by.result _ (λ made is told l same holds.
    let told_b = g.B.Ground.leads_told c.args.blocks.now c.row_below.new.blocks c.in_ok-below.ensures.kept.leads told in
    let told_c = g.B.Ground.leads_told c.row_below.new.blocks c.replace_run.new.blocks c.in_ok-made.ensures.leads told_b in
    let grew : (m : ℕ) → c.args.level - 1 ≡ m → Holds g.B.Ground c.row_below.new.blocks m (take (c.span_of-span.result.end - c.span_of-span.result.first) (drop c.span_of-span.result.first c.in_ok-below.below.row.items)) → Grew g.B.Ground c.row_below.new.blocks c.replace_run.new.blocks m (take (c.span_of-span.result.end - c.span_of-span.result.first) (drop c.span_of-span.result.first c.in_ok-below.below.row.items)) c.in_ok-made.made.items (written (row_bytes (g.B.Ground.unit c.row_below.new.blocks) m (take (c.span_of-span.result.end - c.span_of-span.result.first) (drop c.span_of-span.result.first c.in_ok-below.below.row.items))) c.span_of-span.result.at c.args.given.now) (row_shape (g.B.Ground.unit c.row_below.new.blocks) m (take (c.span_of-span.result.end - c.span_of-span.result.first) (drop c.span_of-span.result.first c.in_ok-below.below.row.items))) =
    subst (λ (r : List Part). (m : ℕ) → c.args.level - 1 ≡ m → Holds g.B.Ground c.row_below.new.blocks m r → Grew g.B.Ground c.row_below.new.blocks c.replace_run.new.blocks m r c.in_ok-made.made.items (written (row_bytes (g.B.Ground.unit c.row_below.new.blocks) m r) c.span_of-span.result.at c.args.given.now) (row_shape (g.B.Ground.unit c.row_below.new.blocks) m r)) (c.piece-touched.ensures ∙ ap (λ r. take (c.span_of-span.result.end - c.span_of-span.result.first) (drop c.span_of-span.result.first r)) c.deref-2.ensures.value) (c.in_ok-made.ensures.grew told_b) in
    let built : (m : ℕ) → c.args.level ≡ suc m → Holds g.B.Ground c.replace_run.new.blocks m c.in_ok-row.row.items → Built g.B.Ground c.nodes_by.new.blocks m c.in_ok-below.below.lens.items c.in_ok-row.row.items made.items =
    subst (λ (ls : List ℕ). (m : ℕ) → c.args.level ≡ suc m → Holds g.B.Ground c.replace_run.new.blocks m c.in_ok-row.row.items → Built g.B.Ground c.nodes_by.new.blocks m ls c.in_ok-row.row.items made.items) c.deref-6.ensures.value
    (subst (λ (r : List Part). (m : ℕ) → c.args.level ≡ suc m → Holds g.B.Ground c.replace_run.new.blocks m r → Built g.B.Ground c.nodes_by.new.blocks m c.deref-6.result.now r made.items) c.deref-5.ensures.value (IfOk-at_ok _ is c.nodes_by.ensures.built told_c)) in
    let counts : (m : ℕ) → c.args.level ≡ suc m → Holds g.B.Ground c.replace_run.new.blocks m c.in_ok-row.row.items → NamesPairs g.B.Ground → Counted g.B.Ground c.replace_run.new.blocks c.nodes_by.new.blocks =
    subst (λ (r : List Part). (m : ℕ) → c.args.level ≡ suc m → Holds g.B.Ground c.replace_run.new.blocks m r → NamesPairs g.B.Ground → Counted g.B.Ground c.replace_run.new.blocks c.nodes_by.new.blocks) c.deref-5.ensures.value (from_ok c.nodes_by.result made _ is c.nodes_by.ensures.counts told_c) in
    run_replaced g.B.Ground c.args.blocks.now c.row_below.new.blocks c.replace_run.new.blocks c.nodes_by.new.blocks c.args.level l c.args.run.now c.in_ok-below.below.row.items c.in_ok-below.below.lens.items c.args.pos c.span_of-span.result.first c.span_of-span.result.end c.span_of-span.result.at c.args.given.now c.in_ok-made.made.items c.in_ok-row.row.items made.items
    c.requires.ready told same c.if-level-eq0.false c.in_ok-below.ensures.kept c.in_ok-made.ensures.extends (from_ok c.nodes_by.result made _ is c.nodes_by.ensures.extends) (c.in_ok-below.ensures.found told) holds (subst (λ r. IsSpan r c.args.pos (length c.args.given.now) c.span_of-span.result.first c.span_of-span.result.end c.span_of-span.result.at) c.deref.ensures.value c.span_of-span.ensures) grew (IfOk-at_ok _ is c.nodes_by.ensures.took) built counts (c.in_ok-row.ensures ∙ ap (λ r. (take c.span_of-span.result.first r ++ c.deref-4.result.now) ++ drop c.span_of-span.result.end r) c.deref-3.ensures.value ∙ ap (λ m. (take c.span_of-span.result.first c.in_ok-below.below.row.items ++ m) ++ drop c.span_of-span.result.end c.in_ok-below.below.row.items) c.deref-4.ensures.value))

pub returns-then-level-eq0-clause-way : goal.returns-then-level-eq0-clause-way
returns-then-level-eq0-clause-way g t c =
    on_ok_from c.replace_leaves.result _ (λ made is told byte low high. way_any (g.B.Ground.geometry c.args.blocks.now) (g.B.Ground.unit c.args.blocks.now) AnyPage c.args.level c.args.least c.args.run.now byte byte c.if-level-eq0.true (λ p. tt))

pub returns-then-level-eq0-clause-ends : goal.returns-then-level-eq0-clause-ends
returns-then-level-eq0-clause-ends g t c =
    on_ok_weaker c.replace_leaves.result (λ ends told end which some. way_low (g.B.Ground.geometry c.args.blocks.now) (g.B.Ground.unit c.args.blocks.now) (NamesLeaf (g.B.Ground.geometry c.args.blocks.now)) c.args.level 0 c.args.least c.args.run.now (end - 1) end c.if-level-eq0.true (ends told end which some)) c.replace_leaves.ensures.ends

pub returns-clause-way : goal.returns-clause-way
returns-clause-way g t c = on_ok_from c.nodes_by.result _ (λ made is told byte low high.
    run_way (g.B.Ground.geometry c.args.blocks.now) (g.B.Ground.unit c.args.blocks.now) AnyPage c.args.level c.args.least c.args.run.now c.in_ok-below.below.lens.items c.in_ok-below.below.row.items byte byte c.if-level-eq0.false c.in_ok-below.ensures.counted (c.in_ok-below.ensures.found told) c.in_ok-below.ensures.area
    (touched_way (g.B.Ground.geometry c.args.blocks.now) (g.B.Ground.unit c.args.blocks.now) AnyPage (c.args.level - 1) (g.B.Ground.geometry c.args.blocks.now).fan c.in_ok-below.below.row.items c.args.pos (length c.args.given.now) c.span_of-span.result.first c.span_of-span.result.end c.span_of-span.result.at byte (subst (λ r. IsSpan r c.args.pos (length c.args.given.now) c.span_of-span.result.first c.span_of-span.result.end c.span_of-span.result.at) c.deref.ensures.value c.span_of-span.ensures) low high
    (λ b from to. way_kept g.B.Ground (λ geo. AnyPage) c.args.blocks.now c.row_below.new.blocks (c.args.level - 1) (g.B.Ground.geometry c.args.blocks.now).fan (take (c.span_of-span.result.end - c.span_of-span.result.first) (drop c.span_of-span.result.first c.in_ok-below.below.row.items)) b b c.in_ok-below.ensures.kept
    (λ later. subst (λ r. IsSoundWay (g.B.Ground.geometry c.row_below.new.blocks) (g.B.Ground.unit c.row_below.new.blocks) AnyPage (c.args.level - 1) (g.B.Ground.geometry c.args.blocks.now).fan r b b) (c.piece-touched.ensures ∙ ap (λ r. take (c.span_of-span.result.end - c.span_of-span.result.first) (drop c.span_of-span.result.first r)) c.deref-2.ensures.value)
    (subst (λ (x : Geometry). IsSoundWay (g.B.Ground.geometry c.row_below.new.blocks) (g.B.Ground.unit c.row_below.new.blocks) AnyPage (c.args.level - 1) x.fan c.piece-touched.result.now b b) c.geometry-geometry.ensures (c.in_ok-made.ensures.way later b from to))) told)))

pub returns-clause-ends : goal.returns-clause-ends
returns-clause-ends g t c = on_ok_from c.nodes_by.result _ (λ made is told end which some.
    run_way (g.B.Ground.geometry c.args.blocks.now) (g.B.Ground.unit c.args.blocks.now) (NamesLeaf (g.B.Ground.geometry c.args.blocks.now)) c.args.level c.args.least c.args.run.now c.in_ok-below.below.lens.items c.in_ok-below.below.row.items (end - 1) end c.if-level-eq0.false c.in_ok-below.ensures.counted (c.in_ok-below.ensures.found told) c.in_ok-below.ensures.area
    (touched_end (g.B.Ground.geometry c.args.blocks.now) (g.B.Ground.unit c.args.blocks.now) (c.args.level - 1) (g.B.Ground.geometry c.args.blocks.now).fan c.in_ok-below.below.row.items c.args.pos (length c.args.given.now) c.span_of-span.result.first c.span_of-span.result.end c.span_of-span.result.at end c.requires.given (subst (λ r. IsSpan r c.args.pos (length c.args.given.now) c.span_of-span.result.first c.span_of-span.result.end c.span_of-span.result.at) c.deref.ensures.value c.span_of-span.ensures) which
    (λ b here one. way_kept g.B.Ground NamesLeaf c.args.blocks.now c.row_below.new.blocks (c.args.level - 1) (g.B.Ground.geometry c.args.blocks.now).fan (take (c.span_of-span.result.end - c.span_of-span.result.first) (drop c.span_of-span.result.first c.in_ok-below.below.row.items)) (b - 1) b c.in_ok-below.ensures.kept
    (λ later. subst (λ r. IsSoundEnd (g.B.Ground.geometry c.row_below.new.blocks) (g.B.Ground.unit c.row_below.new.blocks) (c.args.level - 1) (g.B.Ground.geometry c.args.blocks.now).fan r b) (c.piece-touched.ensures ∙ ap (λ r. take (c.span_of-span.result.end - c.span_of-span.result.first) (drop c.span_of-span.result.first r)) c.deref-2.ensures.value)
    (subst (λ (x : Geometry). IsSoundEnd (g.B.Ground.geometry c.row_below.new.blocks) (g.B.Ground.unit c.row_below.new.blocks) (c.args.level - 1) x.fan c.piece-touched.result.now b) c.geometry-geometry.ensures (c.in_ok-made.ensures.ends later b here)) one) told) some))

-- ---- what else is asked and promised

pub returns-in_err-below-clause-sum : goal.returns-in_err-below-clause-sum
returns-in_err-below-clause-sum g t c = no_value c.from_residual.result _ c.in_err-below.field-0.0 c.from_residual.ensures.1

pub returns-in_err-below-clause-sizes : goal.returns-in_err-below-clause-sizes
returns-in_err-below-clause-sizes g t c = no_value c.from_residual.result _ c.in_err-below.field-0.0 c.from_residual.ensures.1

pub returns-in_err-below-clause-count : goal.returns-in_err-below-clause-count
returns-in_err-below-clause-count g t c = no_value c.from_residual.result _ c.in_err-below.field-0.0 c.from_residual.ensures.1

pub returns-in_err-below-clause-grew : goal.returns-in_err-below-clause-grew
returns-in_err-below-clause-grew g t c = no_value c.from_residual.result _ c.in_err-below.field-0.0 c.from_residual.ensures.1

pub returns-in_err-below-clause-extends : goal.returns-in_err-below-clause-extends
returns-in_err-below-clause-extends g t c = not_given c.from_residual.result _ c.in_err-below.field-0.0 c.from_residual.ensures.1

pub returns-in_err-below-clause-leaves : goal.returns-in_err-below-clause-leaves
returns-in_err-below-clause-leaves g t c = not_given c.from_residual.result _ c.in_err-below.field-0.0 c.from_residual.ensures.1

pub returns-in_err-below-clause-spent : goal.returns-in_err-below-clause-spent
returns-in_err-below-clause-spent g t c = not_given c.from_residual.result _ c.in_err-below.field-0.0 c.from_residual.ensures.1

pub returns-in_err-below-clause-ends : goal.returns-in_err-below-clause-ends
returns-in_err-below-clause-ends g t c = not_given c.from_residual.result _ c.in_err-below.field-0.0 c.from_residual.ensures.1

pub returns-in_err-below-clause-way : goal.returns-in_err-below-clause-way
returns-in_err-below-clause-way g t c = not_given c.from_residual.result _ c.in_err-below.field-0.0 c.from_residual.ensures.1

pub returns-in_err-below-clause-fault : goal.returns-in_err-below-clause-fault
returns-in_err-below-clause-fault g t c = if_err_handed c.from_residual.result _ c.in_err-below.field-0.0 c.from_residual.ensures.1 c.in_err-below.ensures.fault

pub returns-in_err-below-clause-leads : goal.returns-in_err-below-clause-leads
returns-in_err-below-clause-leads g t c = c.row_below.ensures.kept.leads

pub returns-in_err-below-clause-cause : goal.returns-in_err-below-clause-cause
returns-in_err-below-clause-cause g t c = cause_here (g.B.Ground.faults c.args.blocks.now) (g.B.Ground.faults c.row_below.new.blocks) c.from_residual.result c.in_err-below.field-0.0 c.from_residual.ensures.1 c.in_err-below.ensures.cause

pub returns-in_err-made-clause-sum : goal.returns-in_err-made-clause-sum
returns-in_err-made-clause-sum g t c = no_value c.from_residual-in_err-made.result _ c.in_err-made.field-0.0 c.from_residual-in_err-made.ensures.1

pub returns-in_err-made-clause-sizes : goal.returns-in_err-made-clause-sizes
returns-in_err-made-clause-sizes g t c = no_value c.from_residual-in_err-made.result _ c.in_err-made.field-0.0 c.from_residual-in_err-made.ensures.1

pub returns-in_err-made-clause-count : goal.returns-in_err-made-clause-count
returns-in_err-made-clause-count g t c = no_value c.from_residual-in_err-made.result _ c.in_err-made.field-0.0 c.from_residual-in_err-made.ensures.1

pub returns-in_err-made-clause-grew : goal.returns-in_err-made-clause-grew
returns-in_err-made-clause-grew g t c = no_value c.from_residual-in_err-made.result _ c.in_err-made.field-0.0 c.from_residual-in_err-made.ensures.1

pub returns-in_err-made-clause-extends : goal.returns-in_err-made-clause-extends
returns-in_err-made-clause-extends g t c = not_given c.from_residual-in_err-made.result _ c.in_err-made.field-0.0 c.from_residual-in_err-made.ensures.1

pub returns-in_err-made-clause-leaves : goal.returns-in_err-made-clause-leaves
returns-in_err-made-clause-leaves g t c = not_given c.from_residual-in_err-made.result _ c.in_err-made.field-0.0 c.from_residual-in_err-made.ensures.1

pub returns-in_err-made-clause-spent : goal.returns-in_err-made-clause-spent
returns-in_err-made-clause-spent g t c = not_given c.from_residual-in_err-made.result _ c.in_err-made.field-0.0 c.from_residual-in_err-made.ensures.1

pub returns-in_err-made-clause-ends : goal.returns-in_err-made-clause-ends
returns-in_err-made-clause-ends g t c = not_given c.from_residual-in_err-made.result _ c.in_err-made.field-0.0 c.from_residual-in_err-made.ensures.1

pub returns-in_err-made-clause-way : goal.returns-in_err-made-clause-way
returns-in_err-made-clause-way g t c = not_given c.from_residual-in_err-made.result _ c.in_err-made.field-0.0 c.from_residual-in_err-made.ensures.1

pub returns-in_err-made-clause-leads : goal.returns-in_err-made-clause-leads
returns-in_err-made-clause-leads g t c = g.B.Ground.leads_trans c.args.blocks.now c.row_below.new.blocks c.replace_run.new.blocks c.in_ok-below.ensures.kept.leads c.in_err-made.ensures.leads

pub returns-in_err-made-clause-cause : goal.returns-in_err-made-clause-cause
returns-in_err-made-clause-cause g t c = cause_handed (g.B.Ground.faults c.args.blocks.now) (g.B.Ground.faults c.row_below.new.blocks) (g.B.Ground.faults c.replace_run.new.blocks) c.from_residual-in_err-made.result c.in_err-made.field-0.0 c.from_residual-in_err-made.ensures.1 (g.B.Ground.leads_faults c.args.blocks.now c.row_below.new.blocks c.in_ok-below.ensures.kept.leads) c.in_err-made.ensures.cause

pub returns-in_err-row-clause-sum : goal.returns-in_err-row-clause-sum
returns-in_err-row-clause-sum g t c = no_value c.from_residual-in_err-row.result _ Memory c.from_residual-in_err-row.ensures.1

pub returns-in_err-row-clause-sizes : goal.returns-in_err-row-clause-sizes
returns-in_err-row-clause-sizes g t c = no_value c.from_residual-in_err-row.result _ Memory c.from_residual-in_err-row.ensures.1

pub returns-in_err-row-clause-count : goal.returns-in_err-row-clause-count
returns-in_err-row-clause-count g t c = no_value c.from_residual-in_err-row.result _ Memory c.from_residual-in_err-row.ensures.1

pub returns-in_err-row-clause-grew : goal.returns-in_err-row-clause-grew
returns-in_err-row-clause-grew g t c = no_value c.from_residual-in_err-row.result _ Memory c.from_residual-in_err-row.ensures.1

pub returns-in_err-row-clause-extends : goal.returns-in_err-row-clause-extends
returns-in_err-row-clause-extends g t c = not_given c.from_residual-in_err-row.result _ Memory c.from_residual-in_err-row.ensures.1

pub returns-in_err-row-clause-leaves : goal.returns-in_err-row-clause-leaves
returns-in_err-row-clause-leaves g t c = not_given c.from_residual-in_err-row.result _ Memory c.from_residual-in_err-row.ensures.1

pub returns-in_err-row-clause-spent : goal.returns-in_err-row-clause-spent
returns-in_err-row-clause-spent g t c = not_given c.from_residual-in_err-row.result _ Memory c.from_residual-in_err-row.ensures.1

pub returns-in_err-row-clause-ends : goal.returns-in_err-row-clause-ends
returns-in_err-row-clause-ends g t c = not_given c.from_residual-in_err-row.result _ Memory c.from_residual-in_err-row.ensures.1

pub returns-in_err-row-clause-way : goal.returns-in_err-row-clause-way
returns-in_err-row-clause-way g t c = not_given c.from_residual-in_err-row.result _ Memory c.from_residual-in_err-row.ensures.1

pub returns-in_err-row-clause-fault : goal.returns-in_err-row-clause-fault
returns-in_err-row-clause-fault g t c = if_err_handed c.from_residual-in_err-row.result _ Memory c.from_residual-in_err-row.ensures.1 (λ told. tt)

pub returns-in_err-row-clause-leads : goal.returns-in_err-row-clause-leads
returns-in_err-row-clause-leads g t c = g.B.Ground.leads_trans c.args.blocks.now c.row_below.new.blocks c.replace_run.new.blocks c.in_ok-below.ensures.kept.leads c.in_ok-made.ensures.leads

pub returns-in_err-row-clause-cause : goal.returns-in_err-row-clause-cause
returns-in_err-row-clause-cause g t c = cause_here (g.B.Ground.faults c.args.blocks.now) (g.B.Ground.faults c.replace_run.new.blocks) c.from_residual-in_err-row.result Memory c.from_residual-in_err-row.ensures.1 tt

pub returns-then-level-eq0-clause-cause : goal.returns-then-level-eq0-clause-cause
returns-then-level-eq0-clause-cause g t c = c.replace_leaves.ensures.cause

pub returns-then-level-eq0-clause-count : goal.returns-then-level-eq0-clause-count
returns-then-level-eq0-clause-count g t c = c.replace_leaves.ensures.count

pub returns-then-level-eq0-clause-extends : goal.returns-then-level-eq0-clause-extends
returns-then-level-eq0-clause-extends g t c = c.replace_leaves.ensures.extends

pub returns-then-level-eq0-clause-leads : goal.returns-then-level-eq0-clause-leads
returns-then-level-eq0-clause-leads g t c = c.replace_leaves.ensures.leads

pub returns-then-level-eq0-clause-leaves : goal.returns-then-level-eq0-clause-leaves
returns-then-level-eq0-clause-leaves g t c = c.replace_leaves.ensures.leaves

pub returns-then-level-eq0-clause-sizes : goal.returns-then-level-eq0-clause-sizes
returns-then-level-eq0-clause-sizes g t c = c.replace_leaves.ensures.sizes

pub returns-then-level-eq0-clause-sum : goal.returns-then-level-eq0-clause-sum
returns-then-level-eq0-clause-sum g t c = c.replace_leaves.ensures.sum

pub returns-then-level-eq0-clause-fault : goal.returns-then-level-eq0-clause-fault
returns-then-level-eq0-clause-fault g t c = walk_leaves (g.B.Ground.geometry c.args.blocks.now) (g.B.Ground.unit c.args.blocks.now) c.replace_leaves.result (g.B.Ground.tells c.args.blocks.now) c.args.level 0 c.args.least c.args.run.now c.if-level-eq0.true c.replace_leaves.ensures.fault

pub returns-then-level-eq0-clause-grew : goal.returns-then-level-eq0-clause-grew
returns-then-level-eq0-clause-grew g t c = if_ok_from c.replace_leaves.result _ (λ made is told l same holds. subst (λ (k : ℕ). Holds g.B.Ground c.args.blocks.now k c.args.run.now → Grew g.B.Ground c.args.blocks.now c.replace_leaves.new.blocks k c.args.run.now made.items (written (row_bytes (g.B.Ground.unit c.args.blocks.now) k c.args.run.now) c.args.pos c.args.given.now) (row_shape (g.B.Ground.unit c.args.blocks.now) k c.args.run.now)) (sym c.if-level-eq0.true ∙ same) (IfOk-at_ok _ is c.replace_leaves.ensures.grew told) holds)

pub returns-clause-fault : goal.returns-clause-fault
returns-clause-fault g t c = undamaged (g.B.Ground.geometry c.args.blocks.now) (g.B.Ground.unit c.args.blocks.now) c.nodes_by.result (g.B.Ground.tells c.args.blocks.now) c.args.level c.args.least c.args.run.now c.nodes_by.ensures.no_damage

pub returns-clause-sizes : goal.returns-clause-sizes
returns-clause-sizes g t c = c.nodes_by.ensures.sizes

pub overflow_sub-level : goal.overflow_sub-level
overflow_sub-level g t c = omega (arith, c.if-level-eq0.false)

pub overflow_sub-span : goal.overflow_sub-span
overflow_sub-span g t c = omega (arith, c.span_of-span.ensures.order)

pub nodes_by-requires-clause-level : goal.nodes_by-requires-clause-level
nodes_by-requires-clause-level g t c = omega (arith, c.if-level-eq0.false)

pub row_below-requires-clause-level : goal.row_below-requires-clause-level
row_below-requires-clause-level g t c = omega (arith, c.if-level-eq0.false)

pub row_below-requires-clause-ready : goal.row_below-requires-clause-ready
row_below-requires-clause-ready g t c = c.requires.ready

pub spliced-requires-clause-order : goal.spliced-requires-clause-order
spliced-requires-clause-order g t c = omega (arith, c.span_of-span.ensures.order)

pub spliced-requires-clause-inside : goal.spliced-requires-clause-inside
spliced-requires-clause-inside g t c = omega (arith, c.span_of-span.ensures.within, ap length c.deref.ensures.value, ap length c.deref-3.ensures.value)

pub span_of-span-requires-clause-some : goal.span_of-span-requires-clause-some
span_of-span-requires-clause-some g t c = c.requires.given

pub replace_leaves-requires-clause-buffer : goal.replace_leaves-requires-clause-buffer
replace_leaves-requires-clause-buffer g t c = c.requires.buffer

pub replace_leaves-requires-clause-free : goal.replace_leaves-requires-clause-free
replace_leaves-requires-clause-free g t c = c.requires.free

pub replace_leaves-requires-clause-limit : goal.replace_leaves-requires-clause-limit
replace_leaves-requires-clause-limit g t c = c.requires.limit

pub replace_leaves-requires-clause-ready : goal.replace_leaves-requires-clause-ready
replace_leaves-requires-clause-ready g t c = c.requires.ready

pub replace_leaves-requires-clause-sizes : goal.replace_leaves-requires-clause-sizes
replace_leaves-requires-clause-sizes g t c = c.requires.sizes

pub replace_leaves-requires-clause-touched : goal.replace_leaves-requires-clause-touched
replace_leaves-requires-clause-touched g t c = c.requires.touched

pub replace_leaves-requires-clause-leaves : goal.replace_leaves-requires-clause-leaves
replace_leaves-requires-clause-leaves g t c = subst (λ k. AreLeaves (g.B.Ground.geometry c.args.blocks.now) k c.args.run.now) c.if-level-eq0.true c.requires.leaves

pub slice_bounds-page-end : goal.slice_bounds-page-end
slice_bounds-page-end g t c =
    let fits : c.geometry-geometry.result.page_size ≤ length c.replace_run.new.buffer = omega (arith, c.replace_run.auto.buffer, c.requires.buffer, page_le (g.B.Ground.geometry c.args.blocks.now), ap (λ (x : Geometry). x.page_size) c.geometry-geometry.ensures) in
    omega (arith, fits, length-take-le c.geometry-geometry.result.page_size c.replace_run.new.buffer fits)

pub slice_bounds-page-end-2 : goal.slice_bounds-page-end-2
slice_bounds-page-end-2 g t c =
    let fits : c.geometry-geometry.result.page_size ≤ length c.replace_run.new.buffer = omega (arith, c.replace_run.auto.buffer, c.requires.buffer, page_le (g.B.Ground.geometry c.args.blocks.now), ap (λ (x : Geometry). x.page_size) c.geometry-geometry.ensures) in
    omega (arith, fits, length-take-le c.geometry-geometry.result.page_size c.replace_run.new.buffer fits)

pub overflow_cast-page : goal.overflow_cast-page
overflow_cast-page g t c = omega (arith, most_page c.geometry-geometry.result)
