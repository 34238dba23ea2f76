use Rattle.std.proofs.Common.{arith, rules, [], ◌∷◌, ℕ, List, ◌≡◌, ◌≤◌, ◌<◌, ◌^◌, ◌+◌, ◌-◌, ◌*◌, ◌∙◌, ap, sym, subst, refl, suc, length}
use Rattle.std.proofs.lemmas.List.{length-take-le}
use Rattle.std.proofs.lemmas.Result.{IfOk-at_ok, on_ok_weaker}
use Rattle.ex_base.specs.Edits.{inserted}
use Rattle.ex_base.specs.declared.geometry.Geometry.{Geometry}
use Rattle.ex_base.specs.declared.names.Area.{Area}
use Rattle.ex_base.specs.declared.names.Area.TheVariants.{Page, Segment}
use Rattle.ex_base.specs.Needs.{growth_leaves}
use Rattle.ex_base.specs.Sizes.{leaf_bytes, most_page}
use Rattle.trees.specs.Split.{nodes_for}
use Rattle.trees.specs.declared.rows.Part.{Part}
use Rattle.trees.specs.Rows.{row_size, row_bytes, row_shape, FitLeaves}
use Rattle.trees.proofs.Parts.{narrow, below_fit}
use Rattle.trees.specs.Made.{Holds}
use Rattle.trees.specs.Built.{AreSome, Built, even_lens}
use Rattle.trees.proofs.Laid.{extends_on, extends_kept}
use Rattle.trees.specs.Counted.{Counted, NamesPairs}
use Rattle.trees.specs.Grown.{Grew}
use Rattle.tree_insert.specs.Growth.{IsSpot, row_by}
use Rattle.trees.proofs.Paid.{some_node}
use Rattle.tree_insert.proofs.Paid.{level_up, few_grown, node_free, node_paid}
use Rattle.tree_insert.proofs.PaidRows.{paid_at}
use Rattle.ex_base.specs.Area.{NamesLeaf}
use Rattle.trees.specs.Damage.{IsSoundWay, IsWalkFault}
use Rattle.trees.proofs.Ways.{way_kept, way_low, way_one}
use Rattle.ex_base.proofs.Keeping.{cause_on}
use Rattle.ex_base.proofs.Geometries.{page_le}
use Rattle.ex_base.proofs.NeedLaws.{growth_few}
use Rattle.ex_base.proofs.Results.{from_ok, if_ok_from, on_ok_from, cause_handed, if_err_handed}
use Rattle.tree_insert.proofs.RootGrow.{lone_grew, root_grew}
use Rattle.ex_base.proofs.Handed.{no_value, not_given, cause_here}
use Rattle.trees.proofs.Blame.{walk_node, walk_back, walk_below}
use Rattle.tree_insert.proofs.WalkFaults.{undamaged, walk_leaves}
use Rattle.tree_insert.proofs.edit.grow_root.Goals as goal

pub returns-then-height-eq0-clause-paid : goal.returns-then-height-eq0-clause-paid
returns-then-height-eq0-clause-paid g c =
    if_ok_from c.grow_leaves.result _ (λ made is. record {
      parts = growth_leaves (g.B.Ground.geometry c.args.blocks.now) (length c.args.given.now);
      some = omega arith;
      count = IfOk-at_ok _ is c.grow_leaves.ensures.count;
      fewer = omega (arith, from_ok c.grow_leaves.result made _ is c.grow_leaves.ensures.pages);
      paid = omega (arith, ap (λ k. (g.B.Ground.geometry c.args.blocks.now).fan * k) (from_ok c.grow_leaves.result made _ is c.grow_leaves.ensures.pages));
    })

pub returns-then-height-eq0-clause-grew : goal.returns-then-height-eq0-clause-grew
returns-then-height-eq0-clause-grew g c =
    if_ok_from c.grow_leaves.result _ (λ made is told l same holds.
    lone_grew g.B.Ground c.args.blocks.now c.grow_leaves.new.blocks c.args.growth (g.B.Ground.geometry c.args.blocks.now).fan (leaf_bytes (g.B.Ground.geometry c.args.blocks.now)) (length c.args.given.now) c.args.height l c.args.tree made.items c.args.pos c.args.given.now c.if-height-eq0.true same
    (IfOk-at_ok _ is c.grow_leaves.ensures.grew told) holds)

pub grow_row-requires-clause-buffer : goal.grow_row-requires-clause-buffer
grow_row-requires-clause-buffer g c = c.requires.buffer ∙ ap leaf_bytes (sym (g.B.Ground.leads_geometry c.args.blocks.now c.row_of.new.blocks c.in_ok-below.ensures.kept.leads))

pub grow_row-requires-clause-some : goal.grow_row-requires-clause-some
grow_row-requires-clause-some g c = omega (arith, ap length c.deref.ensures.value, c.in_ok-below.ensures.counted.filled.enough)

pub grow_row-requires-clause-few : goal.grow_row-requires-clause-few
grow_row-requires-clause-few g c = omega (arith, ap length c.deref.ensures.value, c.in_ok-below.ensures.counted.few, narrow (g.B.Ground.geometry c.args.blocks.now))

pub grow_row-requires-clause-sizes : goal.grow_row-requires-clause-sizes
grow_row-requires-clause-sizes g c = subst AreSome (sym c.deref.ensures.value) c.in_ok-below.ensures.counted.some

pub grow_row-requires-clause-leaves : goal.grow_row-requires-clause-leaves
grow_row-requires-clause-leaves g c =
    subst (λ geo. FitLeaves geo (c.args.height - 1) c.deref.result.now) (sym (g.B.Ground.leads_geometry c.args.blocks.now c.row_of.new.blocks c.in_ok-below.ensures.kept.leads))
    (subst (FitLeaves (g.B.Ground.geometry c.args.blocks.now) (c.args.height - 1)) (sym c.deref.ensures.value) (below_fit (g.B.Ground.geometry c.args.blocks.now) c.args.height _ _ c.in_ok-below.below.items c.if-height-eq0.false c.in_ok-below.ensures.counted))

pub grow_row-requires-clause-limit : goal.grow_row-requires-clause-limit
grow_row-requires-clause-limit g c = omega (arith, ap row_size c.deref.ensures.value, c.in_ok-below.ensures.counted.sum, c.requires.limit)

pub grow_row-requires-clause-spot : goal.grow_row-requires-clause-spot
grow_row-requires-clause-spot g c = subst (IsSpot c.args.growth c.args.pos) (sym (ap row_size c.deref.ensures.value ∙ c.in_ok-below.ensures.counted.sum)) c.requires.spot

pub grow_row-requires-clause-free : goal.grow_row-requires-clause-free
grow_row-requires-clause-free g c =
    subst (λ (geo : Geometry). growth_leaves geo (length c.args.given.now) ≤ g.B.Ground.free c.row_of.new.blocks Segment) (sym (g.B.Ground.leads_geometry c.args.blocks.now c.row_of.new.blocks c.in_ok-below.ensures.kept.leads)) (subst (λ (f : Area → ℕ). growth_leaves (g.B.Ground.geometry c.args.blocks.now) (length c.args.given.now) ≤ f Segment) (sym c.in_ok-below.ensures.kept.free) c.requires.free)

pub grow_row-requires-clause-pages : goal.grow_row-requires-clause-pages
grow_row-requires-clause-pages g c =
    subst (λ (geo : Geometry). growth_leaves geo (length c.args.given.now) + (c.args.height - 1) * (2 * geo.fan) ≤ geo.fan * g.B.Ground.free c.row_of.new.blocks Page) (sym (g.B.Ground.leads_geometry c.args.blocks.now c.row_of.new.blocks c.in_ok-below.ensures.kept.leads))
    (subst (λ (f : Area → ℕ). growth_leaves (g.B.Ground.geometry c.args.blocks.now) (length c.args.given.now) + (c.args.height - 1) * (2 * (g.B.Ground.geometry c.args.blocks.now).fan) ≤ (g.B.Ground.geometry c.args.blocks.now).fan * f Page) (sym c.in_ok-below.ensures.kept.free)
    (omega (arith, level_up c.args.height (2 * (g.B.Ground.geometry c.args.blocks.now).fan) c.if-height-eq0.false, c.requires.pages)))

pub nodes_over-requires-clause-buffer : goal.nodes_over-requires-clause-buffer
nodes_over-requires-clause-buffer g c =
    length-take-le c.geometry-geometry.result.page_size c.grow_row.new.buffer (omega (arith, c.grow_row.auto.buffer, c.requires.buffer, page_le (g.B.Ground.geometry c.args.blocks.now), ap (λ (k : Geometry). k.page_size) c.geometry-geometry.ensures))
    ∙ ap (λ (k : Geometry). k.page_size) (c.geometry-geometry.ensures ∙ sym (g.B.Ground.leads_geometry c.row_of.new.blocks c.grow_row.new.blocks c.in_ok-grown.ensures.extends.leads ∙ (g.B.Ground.leads_geometry c.args.blocks.now c.row_of.new.blocks c.in_ok-below.ensures.kept.leads)))

pub nodes_over-requires-clause-count : goal.nodes_over-requires-clause-count
nodes_over-requires-clause-count g c =
    let paid = (paid_at g.B.Ground c.args.blocks.now c.row_of.new.blocks c.grow_row.new.blocks c.args.height (length c.args.given.now) (length c.deref.result.now) (length c.in_ok-grown.grown.items) c.in_ok-below.ensures.kept c.in_ok-grown.ensures.paid) in
    let byte : c.args.height < 256 = search rules in
    let few : length c.in_ok-grown.grown.items < 2 ^ 32 =
    few_grown (g.B.Ground.geometry c.args.blocks.now).fan (growth_leaves (g.B.Ground.geometry c.args.blocks.now) (length c.args.given.now)) (c.args.height - 1) paid.parts (length c.in_ok-grown.grown.items) (length c.deref.result.now) (g.B.Ground.free c.args.blocks.now Page) (g.B.Ground.free c.grow_row.new.blocks Page)
    (narrow (g.B.Ground.geometry c.args.blocks.now)) (omega arith) (growth_few (g.B.Ground.geometry c.args.blocks.now) (length c.args.given.now) (omega (arith, c.requires.limit))) paid.count (omega (arith, ap length c.deref.ensures.value, c.in_ok-below.ensures.counted.few)) paid.fewer paid.paid in
    omega (arith, ap length c.deref-2.ensures.value)

pub nodes_over-requires-clause-limit : goal.nodes_over-requires-clause-limit
nodes_over-requires-clause-limit g c =
    omega (arith, ap row_size c.deref-2.ensures.value, c.in_ok-grown.ensures.grown.sum, ap row_size c.deref.ensures.value, c.in_ok-below.ensures.counted.sum, c.requires.limit)

pub nodes_over-requires-clause-free : goal.nodes_over-requires-clause-free
nodes_over-requires-clause-free g c =
    let paid = (paid_at g.B.Ground c.args.blocks.now c.row_of.new.blocks c.grow_row.new.blocks c.args.height (length c.args.given.now) (length c.deref.result.now) (length c.in_ok-grown.grown.items) c.in_ok-below.ensures.kept c.in_ok-grown.ensures.paid) in
    subst (λ (k : Geometry). nodes_for k.fan (length c.deref-2.result.now) ≤ g.B.Ground.free c.grow_row.new.blocks Page) (sym (g.B.Ground.leads_geometry c.row_of.new.blocks c.grow_row.new.blocks c.in_ok-grown.ensures.extends.leads ∙ (g.B.Ground.leads_geometry c.args.blocks.now c.row_of.new.blocks c.in_ok-below.ensures.kept.leads)))
    (node_free (g.B.Ground.geometry c.args.blocks.now).fan (growth_leaves (g.B.Ground.geometry c.args.blocks.now) (length c.args.given.now)) c.args.height paid.parts (length c.in_ok-grown.grown.items) (length c.deref.result.now) (nodes_for (g.B.Ground.geometry c.args.blocks.now).fan (length c.deref-2.result.now)) (g.B.Ground.free c.args.blocks.now Page) (g.B.Ground.free c.grow_row.new.blocks Page)
    (omega (arith, (g.B.Ground.geometry c.args.blocks.now).two)) c.if-height-eq0.false paid.some paid.count (omega (arith, ap length c.deref.ensures.value, c.in_ok-below.ensures.counted.few)) (ap (nodes_for (g.B.Ground.geometry c.args.blocks.now).fan) (ap length c.deref-2.ensures.value)) c.requires.pages paid.paid)

pub returns-clause-extends : goal.returns-clause-extends
returns-clause-extends g c =
    on_ok_from c.nodes_over.result _ (λ made is. extends_on g.B.Ground c.args.blocks.now c.row_of.new.blocks c.nodes_over.new.blocks (extends_kept g.B.Ground c.args.blocks.now c.row_of.new.blocks c.in_ok-below.ensures.kept) (extends_on g.B.Ground c.row_of.new.blocks c.grow_row.new.blocks c.nodes_over.new.blocks c.in_ok-grown.ensures.extends (from_ok c.nodes_over.result made _ is c.nodes_over.ensures.extends)))

pub returns-clause-leads : goal.returns-clause-leads
returns-clause-leads g c =
    g.B.Ground.leads_trans c.args.blocks.now c.row_of.new.blocks c.nodes_over.new.blocks c.in_ok-below.ensures.kept.leads (g.B.Ground.leads_trans c.row_of.new.blocks c.grow_row.new.blocks c.nodes_over.new.blocks c.in_ok-grown.ensures.leads c.nodes_over.ensures.leads)

pub returns-clause-cause : goal.returns-clause-cause
returns-clause-cause g c =
    let first : g.B.Ground.faults c.args.blocks.now ≤ g.B.Ground.faults c.row_of.new.blocks = g.B.Ground.leads_faults c.args.blocks.now c.row_of.new.blocks c.in_ok-below.ensures.kept.leads in
    let second : g.B.Ground.faults c.row_of.new.blocks ≤ g.B.Ground.faults c.grow_row.new.blocks = g.B.Ground.leads_faults c.row_of.new.blocks c.grow_row.new.blocks c.in_ok-grown.ensures.leads in
    cause_on (g.B.Ground.faults c.args.blocks.now) (g.B.Ground.faults c.grow_row.new.blocks) (g.B.Ground.faults c.nodes_over.new.blocks) c.nodes_over.result (omega arith) c.nodes_over.ensures.cause

pub returns-clause-grown : goal.returns-clause-grown
returns-clause-grown g c =
    if_ok_from c.nodes_over.result _ (λ made is. record {
      sum = omega (arith, IfOk-at_ok _ is c.nodes_over.ensures.sum, ap row_size c.deref-2.ensures.value, c.in_ok-grown.ensures.grown.sum, ap row_size c.deref.ensures.value, c.in_ok-below.ensures.counted.sum);
      sizes = IfOk-at_ok _ is c.nodes_over.ensures.sizes;
      some = omega (arith, IfOk-at_ok _ is c.nodes_over.ensures.count, some_node (g.B.Ground.geometry c.grow_row.new.blocks).fan (length c.deref-2.result.now) (omega (arith, ap length c.deref-2.ensures.value, c.in_ok-grown.ensures.grown.some)));
    })

pub returns-clause-leaves : goal.returns-clause-leaves
returns-clause-leaves g c =
    on_ok_from c.nodes_over.result _ (λ made is.
    let later : g.B.Ground.free c.row_of.new.blocks Segment ≤ g.B.Ground.free c.grow_row.new.blocks Segment + growth_leaves (g.B.Ground.geometry c.args.blocks.now) (length c.args.given.now) =
    subst (λ (geo : Geometry). g.B.Ground.free c.row_of.new.blocks Segment ≤ g.B.Ground.free c.grow_row.new.blocks Segment + growth_leaves geo (length c.args.given.now)) (g.B.Ground.leads_geometry c.args.blocks.now c.row_of.new.blocks c.in_ok-below.ensures.kept.leads) c.in_ok-grown.ensures.leaves in
    omega (arith, (from_ok c.nodes_over.result made _ is c.nodes_over.ensures.spent).of_leaves, ap (λ (f : Area → ℕ). f Segment) c.in_ok-below.ensures.kept.free))

pub returns-clause-paid : goal.returns-clause-paid
returns-clause-paid g c =
    if_ok_from c.nodes_over.result _ (λ made is.
    let paid = (paid_at g.B.Ground c.args.blocks.now c.row_of.new.blocks c.grow_row.new.blocks c.args.height (length c.args.given.now) (length c.deref.result.now) (length c.in_ok-grown.grown.items) c.in_ok-below.ensures.kept c.in_ok-grown.ensures.paid) in
    let count = IfOk-at_ok _ is c.nodes_over.ensures.count in
    let many : length made.items ≡ nodes_for (g.B.Ground.geometry c.args.blocks.now).fan (length c.in_ok-grown.grown.items) =
    count ∙ ap (λ (k : Geometry). nodes_for k.fan (length c.deref-2.result.now)) (g.B.Ground.leads_geometry c.row_of.new.blocks c.grow_row.new.blocks c.in_ok-grown.ensures.extends.leads ∙ (g.B.Ground.leads_geometry c.args.blocks.now c.row_of.new.blocks c.in_ok-below.ensures.kept.leads)) ∙ ap (nodes_for (g.B.Ground.geometry c.args.blocks.now).fan) (ap length c.deref-2.ensures.value) in
    record {
      parts = length made.items;
      some = omega (arith, many, some_node (g.B.Ground.geometry c.args.blocks.now).fan (length c.in_ok-grown.grown.items) c.in_ok-grown.ensures.grown.some);
      count = omega arith;
      fewer = omega (arith, (from_ok c.nodes_over.result made _ is c.nodes_over.ensures.spent).of_pages, paid.fewer);
      paid = node_paid (g.B.Ground.geometry c.args.blocks.now).fan (growth_leaves (g.B.Ground.geometry c.args.blocks.now) (length c.args.given.now)) c.args.height paid.parts (length c.in_ok-grown.grown.items) (length c.deref.result.now) (length made.items) (g.B.Ground.free c.args.blocks.now Page) (g.B.Ground.free c.grow_row.new.blocks Page) (g.B.Ground.free c.nodes_over.new.blocks Page)
          (omega (arith, (g.B.Ground.geometry c.args.blocks.now).two)) c.if-height-eq0.false paid.some paid.count (omega (arith, ap length c.deref.ensures.value, c.in_ok-below.ensures.counted.few)) many (omega (arith, (from_ok c.nodes_over.result made _ is c.nodes_over.ensures.spent).of_pages, count)) paid.paid;
    })

pub returns-clause-grew : goal.returns-clause-grew
returns-clause-grew g c =
    if_ok_from c.nodes_over.result _ (λ made is told l same holds.
    let b = g.B.Ground in
    let kept = c.in_ok-below.ensures.kept in
    let told_b = b.leads_told c.args.blocks.now c.row_of.new.blocks kept.leads told in
    let told_c = b.leads_told c.row_of.new.blocks c.grow_row.new.blocks c.in_ok-grown.ensures.leads told_b in
    let grew : (m : ℕ) → c.args.height - 1 ≡ m → Holds g.B.Ground c.row_of.new.blocks m c.in_ok-below.below.items → Grew g.B.Ground c.row_of.new.blocks c.grow_row.new.blocks m c.in_ok-below.below.items c.in_ok-grown.grown.items (inserted (row_bytes (g.B.Ground.unit c.row_of.new.blocks) m c.in_ok-below.below.items) c.args.pos c.args.given.now)
    (row_by c.args.growth (g.B.Ground.geometry c.args.blocks.now).fan (leaf_bytes (g.B.Ground.geometry c.args.blocks.now)) (length c.args.given.now) m (row_shape (g.B.Ground.unit c.row_of.new.blocks) m c.in_ok-below.below.items) c.args.pos) =
    subst (λ (geo : Geometry). (m : ℕ) → c.args.height - 1 ≡ m → Holds g.B.Ground c.row_of.new.blocks m c.in_ok-below.below.items → Grew g.B.Ground c.row_of.new.blocks c.grow_row.new.blocks m c.in_ok-below.below.items c.in_ok-grown.grown.items (inserted (row_bytes (g.B.Ground.unit c.row_of.new.blocks) m c.in_ok-below.below.items) c.args.pos c.args.given.now)
    (row_by c.args.growth geo.fan (leaf_bytes geo) (length c.args.given.now) m (row_shape (g.B.Ground.unit c.row_of.new.blocks) m c.in_ok-below.below.items) c.args.pos)) (g.B.Ground.leads_geometry c.args.blocks.now c.row_of.new.blocks c.in_ok-below.ensures.kept.leads)
    (subst (λ (r : List Part). (m : ℕ) → c.args.height - 1 ≡ m → Holds g.B.Ground c.row_of.new.blocks m r → Grew g.B.Ground c.row_of.new.blocks c.grow_row.new.blocks m r c.in_ok-grown.grown.items (inserted (row_bytes (g.B.Ground.unit c.row_of.new.blocks) m r) c.args.pos c.args.given.now)
    (row_by c.args.growth (g.B.Ground.geometry c.row_of.new.blocks).fan (leaf_bytes (g.B.Ground.geometry c.row_of.new.blocks)) (length c.args.given.now) m (row_shape (g.B.Ground.unit c.row_of.new.blocks) m r) c.args.pos)) c.deref.ensures.value (c.in_ok-grown.ensures.grew told_b)) in
    let built : (m : ℕ) → c.args.height ≡ suc m → Holds g.B.Ground c.grow_row.new.blocks m c.in_ok-grown.grown.items → Built g.B.Ground c.nodes_over.new.blocks m (even_lens (g.B.Ground.geometry c.grow_row.new.blocks).fan (length c.in_ok-grown.grown.items)) c.in_ok-grown.grown.items made.items =
    subst (λ (r : List Part). (m : ℕ) → c.args.height ≡ suc m → Holds g.B.Ground c.grow_row.new.blocks m r → Built g.B.Ground c.nodes_over.new.blocks m (even_lens (g.B.Ground.geometry c.grow_row.new.blocks).fan (length r)) r made.items) c.deref-2.ensures.value (IfOk-at_ok _ is c.nodes_over.ensures.built told_c) in
    let counts : (m : ℕ) → c.args.height ≡ suc m → Holds g.B.Ground c.grow_row.new.blocks m c.in_ok-grown.grown.items → NamesPairs g.B.Ground → Counted g.B.Ground c.grow_row.new.blocks c.nodes_over.new.blocks =
    subst (λ (r : List Part). (m : ℕ) → c.args.height ≡ suc m → Holds g.B.Ground c.grow_row.new.blocks m r → NamesPairs g.B.Ground → Counted g.B.Ground c.grow_row.new.blocks c.nodes_over.new.blocks) c.deref-2.ensures.value (from_ok c.nodes_over.result made _ is c.nodes_over.ensures.counts told_c) in
    root_grew g.B.Ground c.args.blocks.now c.row_of.new.blocks c.grow_row.new.blocks c.nodes_over.new.blocks c.args.growth (g.B.Ground.geometry c.args.blocks.now).fan (leaf_bytes (g.B.Ground.geometry c.args.blocks.now)) c.args.height l c.args.tree c.in_ok-below.below.items c.in_ok-grown.grown.items made.items c.args.pos c.args.given.now
    same c.if-height-eq0.false kept c.in_ok-grown.ensures.extends (from_ok c.nodes_over.result made _ is c.nodes_over.ensures.extends) refl (c.in_ok-below.ensures.found told) grew (IfOk-at_ok _ is c.nodes_over.ensures.took) built counts holds)

pub returns-then-height-eq0-clause-way : goal.returns-then-height-eq0-clause-way
returns-then-height-eq0-clause-way g c =
    on_ok_weaker c.grow_leaves.result (λ way told. way_low (g.B.Ground.geometry c.args.blocks.now) (g.B.Ground.unit c.args.blocks.now) (NamesLeaf (g.B.Ground.geometry c.args.blocks.now)) c.args.height 0 2 (c.args.tree ∷ []) (c.args.pos - 1) (c.args.pos - 1) c.if-height-eq0.true (way told)) c.grow_leaves.ensures.way

pub returns-clause-way : goal.returns-clause-way
returns-clause-way g c = on_ok_from c.nodes_over.result _ (λ made is told.
    way_one (g.B.Ground.geometry c.args.blocks.now) (g.B.Ground.unit c.args.blocks.now) (NamesLeaf (g.B.Ground.geometry c.args.blocks.now)) c.args.height 2 c.args.tree c.in_ok-below.below.items (c.args.pos - 1) (c.args.pos - 1) c.if-height-eq0.false c.in_ok-below.ensures.area (c.in_ok-below.ensures.found told) c.in_ok-below.ensures.counted.filled
    (way_kept g.B.Ground NamesLeaf c.args.blocks.now c.row_of.new.blocks (c.args.height - 1) (g.B.Ground.geometry c.args.blocks.now).fan c.in_ok-below.below.items (c.args.pos - 1) (c.args.pos - 1) c.in_ok-below.ensures.kept
    (λ later. subst (λ k. IsSoundWay (g.B.Ground.geometry c.row_of.new.blocks) (g.B.Ground.unit c.row_of.new.blocks) (NamesLeaf (g.B.Ground.geometry c.row_of.new.blocks)) (c.args.height - 1) k c.in_ok-below.below.items (c.args.pos - 1) (c.args.pos - 1)) (ap (λ (geo : Geometry). geo.fan) (g.B.Ground.leads_geometry c.args.blocks.now c.row_of.new.blocks c.in_ok-below.ensures.kept.leads))
    (subst (λ r. IsSoundWay (g.B.Ground.geometry c.row_of.new.blocks) (g.B.Ground.unit c.row_of.new.blocks) (NamesLeaf (g.B.Ground.geometry c.row_of.new.blocks)) (c.args.height - 1) (g.B.Ground.geometry c.row_of.new.blocks).fan r (c.args.pos - 1) (c.args.pos - 1)) c.deref.ensures.value (c.in_ok-grown.ensures.way later))) told))

-- ---- what else is asked and promised

pub returns-in_err-below-clause-grown : goal.returns-in_err-below-clause-grown
returns-in_err-below-clause-grown g c = no_value c.from_residual.result _ c.in_err-below.field-0.0 c.from_residual.ensures.1

pub returns-in_err-below-clause-paid : goal.returns-in_err-below-clause-paid
returns-in_err-below-clause-paid g c = no_value c.from_residual.result _ c.in_err-below.field-0.0 c.from_residual.ensures.1

pub returns-in_err-below-clause-grew : goal.returns-in_err-below-clause-grew
returns-in_err-below-clause-grew g c = no_value c.from_residual.result _ c.in_err-below.field-0.0 c.from_residual.ensures.1

pub returns-in_err-below-clause-extends : goal.returns-in_err-below-clause-extends
returns-in_err-below-clause-extends g c = not_given c.from_residual.result _ c.in_err-below.field-0.0 c.from_residual.ensures.1

pub returns-in_err-below-clause-leaves : goal.returns-in_err-below-clause-leaves
returns-in_err-below-clause-leaves g c = not_given c.from_residual.result _ c.in_err-below.field-0.0 c.from_residual.ensures.1

pub returns-in_err-below-clause-way : goal.returns-in_err-below-clause-way
returns-in_err-below-clause-way g c = not_given c.from_residual.result _ c.in_err-below.field-0.0 c.from_residual.ensures.1

pub returns-in_err-below-clause-fault : goal.returns-in_err-below-clause-fault
returns-in_err-below-clause-fault g c = if_err_handed c.from_residual.result _ c.in_err-below.field-0.0 c.from_residual.ensures.1 (λ told. walk_node (g.B.Ground.geometry c.args.blocks.now) (g.B.Ground.unit c.args.blocks.now) c.args.height 2 0 (c.args.tree ∷ []) c.in_err-below.field-0.0 c.if-height-eq0.false (omega arith) (c.in_err-below.ensures.fault told))

pub returns-in_err-below-clause-leads : goal.returns-in_err-below-clause-leads
returns-in_err-below-clause-leads g c = c.row_of.ensures.kept.leads

pub returns-in_err-below-clause-cause : goal.returns-in_err-below-clause-cause
returns-in_err-below-clause-cause g c = cause_here (g.B.Ground.faults c.args.blocks.now) (g.B.Ground.faults c.row_of.new.blocks) c.from_residual.result c.in_err-below.field-0.0 c.from_residual.ensures.1 c.in_err-below.ensures.cause

pub returns-in_err-grown-clause-grown : goal.returns-in_err-grown-clause-grown
returns-in_err-grown-clause-grown g c = no_value c.from_residual-in_err-grown.result _ c.in_err-grown.field-0.0 c.from_residual-in_err-grown.ensures.1

pub returns-in_err-grown-clause-paid : goal.returns-in_err-grown-clause-paid
returns-in_err-grown-clause-paid g c = no_value c.from_residual-in_err-grown.result _ c.in_err-grown.field-0.0 c.from_residual-in_err-grown.ensures.1

pub returns-in_err-grown-clause-grew : goal.returns-in_err-grown-clause-grew
returns-in_err-grown-clause-grew g c = no_value c.from_residual-in_err-grown.result _ c.in_err-grown.field-0.0 c.from_residual-in_err-grown.ensures.1

pub returns-in_err-grown-clause-extends : goal.returns-in_err-grown-clause-extends
returns-in_err-grown-clause-extends g c = not_given c.from_residual-in_err-grown.result _ c.in_err-grown.field-0.0 c.from_residual-in_err-grown.ensures.1

pub returns-in_err-grown-clause-leaves : goal.returns-in_err-grown-clause-leaves
returns-in_err-grown-clause-leaves g c = not_given c.from_residual-in_err-grown.result _ c.in_err-grown.field-0.0 c.from_residual-in_err-grown.ensures.1

pub returns-in_err-grown-clause-way : goal.returns-in_err-grown-clause-way
returns-in_err-grown-clause-way g c = not_given c.from_residual-in_err-grown.result _ c.in_err-grown.field-0.0 c.from_residual-in_err-grown.ensures.1

pub returns-in_err-grown-clause-leads : goal.returns-in_err-grown-clause-leads
returns-in_err-grown-clause-leads g c = g.B.Ground.leads_trans c.args.blocks.now c.row_of.new.blocks c.grow_row.new.blocks c.in_ok-below.ensures.kept.leads c.in_err-grown.ensures.leads

pub returns-in_err-grown-clause-cause : goal.returns-in_err-grown-clause-cause
returns-in_err-grown-clause-cause g c = cause_handed (g.B.Ground.faults c.args.blocks.now) (g.B.Ground.faults c.row_of.new.blocks) (g.B.Ground.faults c.grow_row.new.blocks) c.from_residual-in_err-grown.result c.in_err-grown.field-0.0 c.from_residual-in_err-grown.ensures.1 (g.B.Ground.leads_faults c.args.blocks.now c.row_of.new.blocks c.in_ok-below.ensures.kept.leads) c.in_err-grown.ensures.cause

pub returns-then-height-eq0-clause-cause : goal.returns-then-height-eq0-clause-cause
returns-then-height-eq0-clause-cause g c = c.grow_leaves.ensures.cause

pub returns-then-height-eq0-clause-extends : goal.returns-then-height-eq0-clause-extends
returns-then-height-eq0-clause-extends g c = c.grow_leaves.ensures.extends

pub returns-then-height-eq0-clause-grown : goal.returns-then-height-eq0-clause-grown
returns-then-height-eq0-clause-grown g c = c.grow_leaves.ensures.grown

pub returns-then-height-eq0-clause-leads : goal.returns-then-height-eq0-clause-leads
returns-then-height-eq0-clause-leads g c = c.grow_leaves.ensures.leads

pub returns-then-height-eq0-clause-leaves : goal.returns-then-height-eq0-clause-leaves
returns-then-height-eq0-clause-leaves g c = c.grow_leaves.ensures.leaves

pub grow_leaves-requires-clause-buffer : goal.grow_leaves-requires-clause-buffer
grow_leaves-requires-clause-buffer g c = c.requires.buffer

pub grow_leaves-requires-clause-free : goal.grow_leaves-requires-clause-free
grow_leaves-requires-clause-free g c = c.requires.free

pub grow_leaves-requires-clause-given : goal.grow_leaves-requires-clause-given
grow_leaves-requires-clause-given g c = c.requires.given

pub grow_leaves-requires-clause-ready : goal.grow_leaves-requires-clause-ready
grow_leaves-requires-clause-ready g c = c.requires.ready

pub overflow_sub-height : goal.overflow_sub-height
overflow_sub-height g c = omega (arith, c.if-height-eq0.false)

pub grow_row-requires-clause-given : goal.grow_row-requires-clause-given
grow_row-requires-clause-given g c = c.requires.given

pub grow_row-requires-clause-ready : goal.grow_row-requires-clause-ready
grow_row-requires-clause-ready g c = g.B.Ground.leads_ready c.args.blocks.now c.row_of.new.blocks c.in_ok-below.ensures.kept.leads c.requires.ready

pub row_of-requires : goal.row_of-requires
row_of-requires g c = c.requires.ready

pub nodes_over-requires-clause-level : goal.nodes_over-requires-clause-level
nodes_over-requires-clause-level g c = omega (arith, c.if-height-eq0.false)

pub nodes_over-requires-clause-ready : goal.nodes_over-requires-clause-ready
nodes_over-requires-clause-ready g c = g.B.Ground.leads_ready c.row_of.new.blocks c.grow_row.new.blocks c.in_ok-grown.ensures.leads (g.B.Ground.leads_ready c.args.blocks.now c.row_of.new.blocks c.in_ok-below.ensures.kept.leads c.requires.ready)

pub returns-in_err-grown-clause-fault : goal.returns-in_err-grown-clause-fault
returns-in_err-grown-clause-fault g c = if_err_handed c.from_residual-in_err-grown.result _ c.in_err-grown.field-0.0 c.from_residual-in_err-grown.ensures.1
    (λ told. walk_below (g.B.Ground.geometry c.args.blocks.now) (g.B.Ground.unit c.args.blocks.now) c.args.height 2 0 (c.args.tree ∷ []) c.in_ok-below.below.items c.in_err-grown.field-0.0 c.if-height-eq0.false (omega arith) c.in_ok-below.ensures.area (c.in_ok-below.ensures.found told) c.in_ok-below.ensures.counted.filled
    (walk_back g.B.Ground c.args.blocks.now c.row_of.new.blocks (c.args.height - 1) (g.B.Ground.geometry c.args.blocks.now).fan c.in_ok-below.below.items c.in_err-grown.field-0.0 c.in_ok-below.ensures.kept
    (λ later. subst (λ k. IsWalkFault (g.B.Ground.geometry c.row_of.new.blocks) (g.B.Ground.unit c.row_of.new.blocks) (c.args.height - 1) k c.in_ok-below.below.items c.in_err-grown.field-0.0) (ap (λ (k : Geometry). k.fan) (g.B.Ground.leads_geometry c.args.blocks.now c.row_of.new.blocks c.in_ok-below.ensures.kept.leads))
    (subst (λ r. IsWalkFault (g.B.Ground.geometry c.row_of.new.blocks) (g.B.Ground.unit c.row_of.new.blocks) (c.args.height - 1) (g.B.Ground.geometry c.row_of.new.blocks).fan r c.in_err-grown.field-0.0) c.deref.ensures.value (c.in_err-grown.ensures.fault later))) told))

pub slice_bounds-page-end : goal.slice_bounds-page-end
slice_bounds-page-end g c =
    let fits : c.geometry-geometry.result.page_size ≤ length c.grow_row.new.buffer = omega (arith, c.grow_row.auto.buffer, c.requires.buffer, page_le (g.B.Ground.geometry c.args.blocks.now), ap (λ (k : Geometry). k.page_size) c.geometry-geometry.ensures) in
    omega (arith, fits, length-take-le c.geometry-geometry.result.page_size c.grow_row.new.buffer fits)

pub slice_bounds-page-end-2 : goal.slice_bounds-page-end-2
slice_bounds-page-end-2 g c =
    let fits : c.geometry-geometry.result.page_size ≤ length c.grow_row.new.buffer = omega (arith, c.grow_row.auto.buffer, c.requires.buffer, page_le (g.B.Ground.geometry c.args.blocks.now), ap (λ (k : Geometry). k.page_size) c.geometry-geometry.ensures) in
    omega (arith, fits, length-take-le c.geometry-geometry.result.page_size c.grow_row.new.buffer fits)

pub returns-clause-fault : goal.returns-clause-fault
returns-clause-fault g c = undamaged (g.B.Ground.geometry c.args.blocks.now) (g.B.Ground.unit c.args.blocks.now) c.nodes_over.result (g.B.Ground.tells c.args.blocks.now) c.args.height 2 (c.args.tree ∷ []) c.nodes_over.ensures.no_damage

pub nodes_over-requires-clause-sizes : goal.nodes_over-requires-clause-sizes
nodes_over-requires-clause-sizes g c = subst AreSome (sym c.deref-2.ensures.value) c.in_ok-grown.ensures.grown.sizes

pub nodes_over-requires-clause-some : goal.nodes_over-requires-clause-some
nodes_over-requires-clause-some g c = omega (arith, ap length c.deref-2.ensures.value, c.in_ok-grown.ensures.grown.some)

pub returns-then-height-eq0-clause-fault : goal.returns-then-height-eq0-clause-fault
returns-then-height-eq0-clause-fault g c = walk_leaves (g.B.Ground.geometry c.args.blocks.now) (g.B.Ground.unit c.args.blocks.now) c.grow_leaves.result (g.B.Ground.tells c.args.blocks.now) c.args.height 0 2 (c.args.tree ∷ []) c.if-height-eq0.true c.grow_leaves.ensures.fault

pub overflow_cast-page : goal.overflow_cast-page
overflow_cast-page g c = omega (arith, most_page c.geometry-geometry.result)
