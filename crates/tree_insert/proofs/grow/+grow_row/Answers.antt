use Rattle.std.proofs.Common.{arith, rules, ℕ, List, ◌≡◌, ◌≤◌, ◌<◌, ◌+◌, ◌-◌, ◌*◌, ◌^◌, ◌++◌, ◌∙◌, ap, sym, subst, refl, suc, length, take, drop, get_or, Result, Ok, Err, IfOk, OnOk}
use Rattle.std.proofs.lemmas.List.{length-take-le}
use Rattle.std.proofs.lemmas.Result.{on_ok_weaker, IfOk-at_ok}
use Rattle.ex_base.specs.Edits.{inserted}
use Rattle.ex_base.specs.declared.geometry.Geometry.{Geometry}
use Rattle.ex_base.specs.declared.names.Area.{Area}
use Rattle.ex_base.specs.declared.names.Area.TheVariants.{Page, Segment}
use Rattle.ex_base.specs.Needs.{growth_leaves}
use Rattle.ex_base.specs.Sizes.{leaf_bytes, object_most, most_page}
use Rattle.trees.specs.Split.{nodes_for}
use Rattle.trees.specs.declared.rows.Part.{Part}
use Rattle.trees.specs.Damage.{IsNodeFault, IsSoundWay, IsWalkFault}
use Rattle.trees.proofs.Blame.{walk_back, walk_node, walk_below, walk_undamaged}
use Rattle.trees.specs.Rows.{IsFilled, row_size, row_bytes, row_shape, FitLeaves}
use Rattle.trees.proofs.Parts.{narrow, below_fit}
use Rattle.trees.specs.Made.{Holds}
use Rattle.trees.specs.Built.{AreSome, Built, even_lens}
use Rattle.trees.proofs.Laid.{extends_on, extends_kept}
use Rattle.trees.specs.Counted.{Counted, NamesPairs}
use Rattle.trees.specs.Grown.{Grew}
use Rattle.tree_insert.specs.Growth.{IsSpot, row_by}
use Rattle.tree_insert.proofs.PlaceLaws.{read_size, read_most}
use Rattle.trees.proofs.Paid.{some_node}
use Rattle.tree_insert.proofs.Paid.{level_up, few_grown, node_free, node_paid}
use Rattle.tree_insert.proofs.PaidRows.{paid_at}
use Rattle.tree_insert.proofs.NodeStep.{spot_below, tree_grown, tree_count, tree_grew, spot_inside}
use Rattle.trees.proofs.Reading.{no_part}
use Rattle.ex_base.specs.Area.{NamesLeaf}
use Rattle.ex_base.proofs.Geometries.{page_le}
use Rattle.ex_base.proofs.NeedLaws.{growth_few}
use Rattle.ex_base.proofs.Results.{if_err_handed, cause_handed, if_ok_from}
use Rattle.trees.proofs.Ways.{way_kept, way_low, way_one}
use Rattle.tree_insert.proofs.SoundWays.{place_way}
use Rattle.ex_base.proofs.Handed.{no_value, not_given, cause_here}
use Rattle.tree_insert.proofs.WalkFaults.{walk_leaves}
use Rattle.ex_base.specs.declared.faults.PortFault.TheVariants.{Memory}
use Rattle.tree_insert.proofs.grow.+grow_row.Goals as goal

if_ok_with : {X E : Type 0} (r : Result X E) (A : Type 0) (P Q : X → Type 0) → ((x : X) → A → P x → Q x) → OnOk r A → IfOk r P → IfOk r Q
if_ok_with (Ok x) A P Q f a p = f x a p
if_ok_with (Err e) A P Q f a p = tt

pub returns-then-level-eq0-clause-paid : goal.returns-then-level-eq0-clause-paid
returns-then-level-eq0-clause-paid g t c =
    if_ok_with c.grow_leaves.result _ _ _ (λ made pages count. record {
      parts = growth_leaves (g.B.Ground.geometry c.args.blocks.now) (length c.args.given.now);
      some = omega arith;
      count = count;
      fewer = omega (arith, pages);
      paid = omega (arith, ap (λ k. (g.B.Ground.geometry c.args.blocks.now).fan * k) pages);
    }) c.grow_leaves.ensures.pages c.grow_leaves.ensures.count

pub grow_row-requires : goal.grow_row-requires
grow_row-requires g t c κs within =
    let b = g.B.Ground in
    let kept = c.in_ok-below.ensures.kept in
    let counted = c.in_ok-below.ensures.counted in
    let items = c.deref.ensures.value in
    let ready : g.B.Ground.ready c.row_of.new.blocks = b.leads_ready c.args.blocks.now c.row_of.new.blocks kept.leads c.requires.ready in
    let buffer : length c.args.buffer.now ≡ leaf_bytes (g.B.Ground.geometry c.row_of.new.blocks) = c.requires.buffer ∙ ap leaf_bytes (sym (g.B.Ground.leads_geometry c.args.blocks.now c.row_of.new.blocks c.in_ok-below.ensures.kept.leads)) in
    let some : 1 ≤ length c.deref.result.now = omega (arith, ap length items, counted.filled.enough, c.geometry-geometry.result.two) in
    let few : length c.deref.result.now ≤ 999 = omega (arith, ap length items, counted.few, narrow (g.B.Ground.geometry c.args.blocks.now)) in
    let sizes : AreSome c.deref.result.now = subst AreSome (sym items) counted.some in
    let leaves : FitLeaves (g.B.Ground.geometry c.row_of.new.blocks) (c.args.level - 1) c.deref.result.now =
    subst (λ geo. FitLeaves geo (c.args.level - 1) c.deref.result.now) (sym (g.B.Ground.leads_geometry c.args.blocks.now c.row_of.new.blocks c.in_ok-below.ensures.kept.leads))
    (subst (FitLeaves (g.B.Ground.geometry c.args.blocks.now) (c.args.level - 1)) (sym items) (below_fit (g.B.Ground.geometry c.args.blocks.now) c.args.level _ _ c.in_ok-below.below.items c.if-level-eq0.false counted)) in
    let limit : row_size c.deref.result.now + length c.args.given.now ≤ object_most = omega (arith, ap row_size items, counted.sum, read_most c.args.row.now c.tree_at-index.result.0, c.requires.limit) in
    let spot : IsSpot c.args.growth c.tree_at-index.result.1 (row_size c.deref.result.now) =
    subst (IsSpot c.args.growth c.tree_at-index.result.1) (sym (ap row_size items ∙ counted.sum ∙ read_size c.args.row.now c.tree_at-index.result.0 c.tree_at-index.ensures.inside)) (spot_below c.args.growth c.args.row.now c.args.pos c.tree_at-index.result.0 c.tree_at-index.result.1 c.requires.spot c.tree_at-index.ensures) in
    let free : growth_leaves (g.B.Ground.geometry c.row_of.new.blocks) (length c.args.given.now) ≤ g.B.Ground.free c.row_of.new.blocks Segment =
    subst (λ (geo : Geometry). growth_leaves geo (length c.args.given.now) ≤ g.B.Ground.free c.row_of.new.blocks Segment) (sym (g.B.Ground.leads_geometry c.args.blocks.now c.row_of.new.blocks c.in_ok-below.ensures.kept.leads)) (subst (λ (f : Area → ℕ). growth_leaves (g.B.Ground.geometry c.args.blocks.now) (length c.args.given.now) ≤ f Segment) (sym kept.free) c.requires.free) in
    let pages : growth_leaves (g.B.Ground.geometry c.row_of.new.blocks) (length c.args.given.now) + (c.args.level - 1) * (2 * (g.B.Ground.geometry c.row_of.new.blocks).fan) ≤ (g.B.Ground.geometry c.row_of.new.blocks).fan * g.B.Ground.free c.row_of.new.blocks Page =
    subst (λ (geo : Geometry). growth_leaves geo (length c.args.given.now) + (c.args.level - 1) * (2 * geo.fan) ≤ geo.fan * g.B.Ground.free c.row_of.new.blocks Page) (sym (g.B.Ground.leads_geometry c.args.blocks.now c.row_of.new.blocks c.in_ok-below.ensures.kept.leads))
    (subst (λ (f : Area → ℕ). growth_leaves (g.B.Ground.geometry c.args.blocks.now) (length c.args.given.now) + (c.args.level - 1) * (2 * (g.B.Ground.geometry c.args.blocks.now).fan) ≤ (g.B.Ground.geometry c.args.blocks.now).fan * f Page) (sym kept.free)
    (omega (arith, level_up c.args.level (2 * (g.B.Ground.geometry c.args.blocks.now).fan) c.if-level-eq0.false, c.requires.pages))) in
    search rules

pub nodes_over-requires-clause-buffer : goal.nodes_over-requires-clause-buffer
nodes_over-requires-clause-buffer g t c =
    let geo = (g.B.Ground.leads_geometry c.row_of.new.blocks c.grow_row.new.blocks c.in_ok-grown.ensures.extends.leads ∙ (g.B.Ground.leads_geometry c.args.blocks.now c.row_of.new.blocks c.in_ok-below.ensures.kept.leads)) in
    length-take-le c.geometry-geometry.result.page_size c.grow_row.new.buffer (omega (arith, c.grow_row.auto.buffer, c.requires.buffer, page_le (g.B.Ground.geometry c.args.blocks.now), ap (λ (k : Geometry). k.page_size) c.geometry-geometry.ensures))
    ∙ ap (λ (k : Geometry). k.page_size) (c.geometry-geometry.ensures ∙ sym geo)

pub nodes_over-requires-clause-count : goal.nodes_over-requires-clause-count
nodes_over-requires-clause-count g t c =
    let paid = (paid_at g.B.Ground c.args.blocks.now c.row_of.new.blocks c.grow_row.new.blocks c.args.level (length c.args.given.now) (length c.deref.result.now) (length c.in_ok-grown.grown.items) c.in_ok-below.ensures.kept c.in_ok-grown.ensures.paid) in
    let byte : c.args.level < 256 = search rules in
    let few : length c.in_ok-grown.grown.items < 2 ^ 32 =
    few_grown (g.B.Ground.geometry c.args.blocks.now).fan (growth_leaves (g.B.Ground.geometry c.args.blocks.now) (length c.args.given.now)) (c.args.level - 1) paid.parts (length c.in_ok-grown.grown.items) (length c.deref.result.now) (g.B.Ground.free c.args.blocks.now Page) (g.B.Ground.free c.grow_row.new.blocks Page)
    (narrow (g.B.Ground.geometry c.args.blocks.now)) (omega arith) (growth_few (g.B.Ground.geometry c.args.blocks.now) (length c.args.given.now) (omega (arith, c.requires.limit))) paid.count (omega (arith, ap length c.deref.ensures.value, c.in_ok-below.ensures.counted.few)) paid.fewer paid.paid in
    omega (arith, ap length c.deref-2.ensures.value)

pub nodes_over-requires-clause-limit : goal.nodes_over-requires-clause-limit
nodes_over-requires-clause-limit g t c =
    omega (arith, ap row_size c.deref-2.ensures.value, c.in_ok-grown.ensures.grown.sum, ap row_size c.deref.ensures.value, c.in_ok-below.ensures.counted.sum, read_most c.args.row.now c.tree_at-index.result.0, c.requires.limit)

pub nodes_over-requires-clause-free : goal.nodes_over-requires-clause-free
nodes_over-requires-clause-free g t c =
    let paid = (paid_at g.B.Ground c.args.blocks.now c.row_of.new.blocks c.grow_row.new.blocks c.args.level (length c.args.given.now) (length c.deref.result.now) (length c.in_ok-grown.grown.items) c.in_ok-below.ensures.kept c.in_ok-grown.ensures.paid) in
    subst (λ (k : Geometry). nodes_for k.fan (length c.deref-2.result.now) ≤ g.B.Ground.free c.grow_row.new.blocks Page) (sym (g.B.Ground.leads_geometry c.row_of.new.blocks c.grow_row.new.blocks c.in_ok-grown.ensures.extends.leads ∙ (g.B.Ground.leads_geometry c.args.blocks.now c.row_of.new.blocks c.in_ok-below.ensures.kept.leads)))
    (node_free (g.B.Ground.geometry c.args.blocks.now).fan (growth_leaves (g.B.Ground.geometry c.args.blocks.now) (length c.args.given.now)) c.args.level paid.parts (length c.in_ok-grown.grown.items) (length c.deref.result.now) (nodes_for (g.B.Ground.geometry c.args.blocks.now).fan (length c.deref-2.result.now)) (g.B.Ground.free c.args.blocks.now Page) (g.B.Ground.free c.grow_row.new.blocks Page)
    (omega (arith, (g.B.Ground.geometry c.args.blocks.now).two)) c.if-level-eq0.false paid.some paid.count (omega (arith, ap length c.deref.ensures.value, c.in_ok-below.ensures.counted.few)) (ap (nodes_for (g.B.Ground.geometry c.args.blocks.now).fan) (ap length c.deref-2.ensures.value)) c.requires.pages paid.paid)

pub returns-in_err-made-clause-leads : goal.returns-in_err-made-clause-leads
returns-in_err-made-clause-leads g t c =
    g.B.Ground.leads_trans c.args.blocks.now c.row_of.new.blocks c.nodes_over.new.blocks c.in_ok-below.ensures.kept.leads (g.B.Ground.leads_trans c.row_of.new.blocks c.grow_row.new.blocks c.nodes_over.new.blocks c.in_ok-grown.ensures.leads c.in_err-made.ensures.leads)

pub returns-in_err-made-clause-cause : goal.returns-in_err-made-clause-cause
returns-in_err-made-clause-cause g t c =
    let first = g.B.Ground.leads_faults c.args.blocks.now c.row_of.new.blocks c.in_ok-below.ensures.kept.leads in
    let second = g.B.Ground.leads_faults c.row_of.new.blocks c.grow_row.new.blocks c.in_ok-grown.ensures.leads in
    cause_handed (g.B.Ground.faults c.args.blocks.now) (g.B.Ground.faults c.grow_row.new.blocks) (g.B.Ground.faults c.nodes_over.new.blocks) c.from_residual-in_err-made.result c.in_err-made.field-0.0 c.from_residual-in_err-made.ensures.1 (omega (arith, first, second)) c.in_err-made.ensures.cause

pub returns-in_err-spliced-clause-leads : goal.returns-in_err-spliced-clause-leads
returns-in_err-spliced-clause-leads g t c =
    g.B.Ground.leads_trans c.args.blocks.now c.row_of.new.blocks c.nodes_over.new.blocks c.in_ok-below.ensures.kept.leads (g.B.Ground.leads_trans c.row_of.new.blocks c.grow_row.new.blocks c.nodes_over.new.blocks c.in_ok-grown.ensures.leads c.in_ok-made.ensures.leads)

pub returns-clause-extends : goal.returns-clause-extends
returns-clause-extends g t c =
    extends_on g.B.Ground c.args.blocks.now c.row_of.new.blocks c.nodes_over.new.blocks (extends_kept g.B.Ground c.args.blocks.now c.row_of.new.blocks c.in_ok-below.ensures.kept) (extends_on g.B.Ground c.row_of.new.blocks c.grow_row.new.blocks c.nodes_over.new.blocks c.in_ok-grown.ensures.extends c.in_ok-made.ensures.extends)

pub returns-clause-leads : goal.returns-clause-leads
returns-clause-leads g t c =
    g.B.Ground.leads_trans c.args.blocks.now c.row_of.new.blocks c.nodes_over.new.blocks c.in_ok-below.ensures.kept.leads (g.B.Ground.leads_trans c.row_of.new.blocks c.grow_row.new.blocks c.nodes_over.new.blocks c.in_ok-grown.ensures.leads c.in_ok-made.ensures.leads)

pub returns-clause-grown : goal.returns-clause-grown
returns-clause-grown g t c =
    let made = c.in_ok-made.ensures in
    tree_grown (length c.args.given.now) c.args.row.now c.tree_at-index.result.0 c.in_ok-made.made.items c.in_ok-spliced.field-0.items c.tree_at-index.ensures.inside c.requires.sizes made.sizes
    (omega (arith, made.count, some_node (g.B.Ground.geometry c.grow_row.new.blocks).fan (length c.deref-2.result.now) (omega (arith, ap length c.deref-2.ensures.value, c.in_ok-grown.ensures.grown.some))))
    (omega (arith, made.sum, ap row_size c.deref-2.ensures.value, c.in_ok-grown.ensures.grown.sum, ap row_size c.deref.ensures.value, c.in_ok-below.ensures.counted.sum)) (c.in_ok-spliced.ensures ∙ ap (λ m. (take c.tree_at-index.result.0 c.args.row.now ++ m) ++ drop (c.tree_at-index.result.0 + 1) c.args.row.now) c.deref-3.ensures.value)

pub returns-clause-leaves : goal.returns-clause-leaves
returns-clause-leaves g t c =
    let later : g.B.Ground.free c.row_of.new.blocks Segment ≤ g.B.Ground.free c.grow_row.new.blocks Segment + growth_leaves (g.B.Ground.geometry c.args.blocks.now) (length c.args.given.now) =
    subst (λ (geo : Geometry). g.B.Ground.free c.row_of.new.blocks Segment ≤ g.B.Ground.free c.grow_row.new.blocks Segment + growth_leaves geo (length c.args.given.now)) (g.B.Ground.leads_geometry c.args.blocks.now c.row_of.new.blocks c.in_ok-below.ensures.kept.leads) c.in_ok-grown.ensures.leaves in
    omega (arith, c.in_ok-made.ensures.spent.of_leaves, ap (λ (f : Area → ℕ). f Segment) c.in_ok-below.ensures.kept.free)

pub returns-clause-paid : goal.returns-clause-paid
returns-clause-paid g t c =
    let paid = (paid_at g.B.Ground c.args.blocks.now c.row_of.new.blocks c.grow_row.new.blocks c.args.level (length c.args.given.now) (length c.deref.result.now) (length c.in_ok-grown.grown.items) c.in_ok-below.ensures.kept c.in_ok-grown.ensures.paid) in
    let made = c.in_ok-made.ensures in
    let many : length c.in_ok-made.made.items ≡ nodes_for (g.B.Ground.geometry c.args.blocks.now).fan (length c.in_ok-grown.grown.items) =
    made.count ∙ ap (λ (k : Geometry). nodes_for k.fan (length c.deref-2.result.now)) (g.B.Ground.leads_geometry c.row_of.new.blocks c.grow_row.new.blocks c.in_ok-grown.ensures.extends.leads ∙ (g.B.Ground.leads_geometry c.args.blocks.now c.row_of.new.blocks c.in_ok-below.ensures.kept.leads)) ∙ ap (nodes_for (g.B.Ground.geometry c.args.blocks.now).fan) (ap length c.deref-2.ensures.value) in
    record {
      parts = length c.in_ok-made.made.items;
      some = omega (arith, many, some_node (g.B.Ground.geometry c.args.blocks.now).fan (length c.in_ok-grown.grown.items) c.in_ok-grown.ensures.grown.some);
      count = omega (arith, tree_count c.args.row.now c.tree_at-index.result.0 c.in_ok-made.made.items c.in_ok-spliced.field-0.items c.tree_at-index.ensures.inside (c.in_ok-spliced.ensures ∙ ap (λ m. (take c.tree_at-index.result.0 c.args.row.now ++ m) ++ drop (c.tree_at-index.result.0 + 1) c.args.row.now) c.deref-3.ensures.value));
      fewer = omega (arith, made.spent.of_pages, paid.fewer);
      paid = node_paid (g.B.Ground.geometry c.args.blocks.now).fan (growth_leaves (g.B.Ground.geometry c.args.blocks.now) (length c.args.given.now)) c.args.level paid.parts (length c.in_ok-grown.grown.items) (length c.deref.result.now) (length c.in_ok-made.made.items) (g.B.Ground.free c.args.blocks.now Page) (g.B.Ground.free c.grow_row.new.blocks Page) (g.B.Ground.free c.nodes_over.new.blocks Page)
          (omega (arith, (g.B.Ground.geometry c.args.blocks.now).two)) c.if-level-eq0.false paid.some paid.count (omega (arith, ap length c.deref.ensures.value, c.in_ok-below.ensures.counted.few)) many (omega (arith, made.spent.of_pages, made.count)) paid.paid;
    }

pub returns-clause-grew : goal.returns-clause-grew
returns-clause-grew g t c = λ told l same holds.
    let b = g.B.Ground in
    let made = c.in_ok-made.ensures in
    let kept = c.in_ok-below.ensures.kept in
    let told_b = b.leads_told c.args.blocks.now c.row_of.new.blocks kept.leads told in
    let told_c = b.leads_told c.row_of.new.blocks c.grow_row.new.blocks c.in_ok-grown.ensures.leads told_b in
    let grew : (m : ℕ) → c.args.level - 1 ≡ m → Holds g.B.Ground c.row_of.new.blocks m c.in_ok-below.below.items → Grew g.B.Ground c.row_of.new.blocks c.grow_row.new.blocks m c.in_ok-below.below.items c.in_ok-grown.grown.items (inserted (row_bytes (g.B.Ground.unit c.row_of.new.blocks) m c.in_ok-below.below.items) c.tree_at-index.result.1 c.args.given.now)
    (row_by c.args.growth (g.B.Ground.geometry c.args.blocks.now).fan (leaf_bytes (g.B.Ground.geometry c.args.blocks.now)) (length c.args.given.now) m (row_shape (g.B.Ground.unit c.row_of.new.blocks) m c.in_ok-below.below.items) c.tree_at-index.result.1) =
    subst (λ (geo : Geometry). (m : ℕ) → c.args.level - 1 ≡ m → Holds g.B.Ground c.row_of.new.blocks m c.in_ok-below.below.items → Grew g.B.Ground c.row_of.new.blocks c.grow_row.new.blocks m c.in_ok-below.below.items c.in_ok-grown.grown.items (inserted (row_bytes (g.B.Ground.unit c.row_of.new.blocks) m c.in_ok-below.below.items) c.tree_at-index.result.1 c.args.given.now)
    (row_by c.args.growth geo.fan (leaf_bytes geo) (length c.args.given.now) m (row_shape (g.B.Ground.unit c.row_of.new.blocks) m c.in_ok-below.below.items) c.tree_at-index.result.1)) (g.B.Ground.leads_geometry c.args.blocks.now c.row_of.new.blocks c.in_ok-below.ensures.kept.leads)
    (subst (λ (r : List Part). (m : ℕ) → c.args.level - 1 ≡ m → Holds g.B.Ground c.row_of.new.blocks m r → Grew g.B.Ground c.row_of.new.blocks c.grow_row.new.blocks m r c.in_ok-grown.grown.items (inserted (row_bytes (g.B.Ground.unit c.row_of.new.blocks) m r) c.tree_at-index.result.1 c.args.given.now)
    (row_by c.args.growth (g.B.Ground.geometry c.row_of.new.blocks).fan (leaf_bytes (g.B.Ground.geometry c.row_of.new.blocks)) (length c.args.given.now) m (row_shape (g.B.Ground.unit c.row_of.new.blocks) m r) c.tree_at-index.result.1)) c.deref.ensures.value (c.in_ok-grown.ensures.grew told_b)) in
    let built : (m : ℕ) → c.args.level ≡ suc m → Holds g.B.Ground c.grow_row.new.blocks m c.in_ok-grown.grown.items → Built g.B.Ground c.nodes_over.new.blocks m (even_lens (g.B.Ground.geometry c.grow_row.new.blocks).fan (length c.in_ok-grown.grown.items)) c.in_ok-grown.grown.items c.in_ok-made.made.items =
    subst (λ (r : List Part). (m : ℕ) → c.args.level ≡ suc m → Holds g.B.Ground c.grow_row.new.blocks m r → Built g.B.Ground c.nodes_over.new.blocks m (even_lens (g.B.Ground.geometry c.grow_row.new.blocks).fan (length r)) r c.in_ok-made.made.items) c.deref-2.ensures.value (made.built told_c) in
    let counts : (m : ℕ) → c.args.level ≡ suc m → Holds g.B.Ground c.grow_row.new.blocks m c.in_ok-grown.grown.items → NamesPairs g.B.Ground → Counted g.B.Ground c.grow_row.new.blocks c.nodes_over.new.blocks =
    subst (λ (r : List Part). (m : ℕ) → c.args.level ≡ suc m → Holds g.B.Ground c.grow_row.new.blocks m r → NamesPairs g.B.Ground → Counted g.B.Ground c.grow_row.new.blocks c.nodes_over.new.blocks) c.deref-2.ensures.value (made.counts told_c) in
    tree_grew g.B.Ground c.args.blocks.now c.row_of.new.blocks c.grow_row.new.blocks c.nodes_over.new.blocks c.args.growth (g.B.Ground.geometry c.args.blocks.now).fan (leaf_bytes (g.B.Ground.geometry c.args.blocks.now)) c.args.level l c.args.row.now c.args.pos c.tree_at-index.result.0 c.tree_at-index.result.1 c.args.given.now c.in_ok-below.below.items c.in_ok-grown.grown.items c.in_ok-made.made.items c.in_ok-spliced.field-0.items
    c.requires.ready told same c.if-level-eq0.false kept c.in_ok-grown.ensures.extends made.extends refl (c.in_ok-below.ensures.found told) holds c.requires.sizes c.requires.spot c.tree_at-index.ensures grew made.took built counts (c.in_ok-spliced.ensures ∙ ap (λ m. (take c.tree_at-index.result.0 c.args.row.now ++ m) ++ drop (c.tree_at-index.result.0 + 1) c.args.row.now) c.deref-3.ensures.value)

pub returns-in_err-below-clause-fault : goal.returns-in_err-below-clause-fault
returns-in_err-below-clause-fault g t c =
    if_err_handed c.from_residual.result _ c.in_err-below.field-0.0 c.from_residual.ensures.1
    (λ told. walk_node (g.B.Ground.geometry c.args.blocks.now) (g.B.Ground.unit c.args.blocks.now) c.args.level (g.B.Ground.geometry c.args.blocks.now).fan c.tree_at-index.result.0 c.args.row.now c.in_err-below.field-0.0 c.if-level-eq0.false c.tree_at-index.ensures.inside
    (subst (λ (x : Geometry). IsNodeFault (g.B.Ground.geometry c.args.blocks.now) (g.B.Ground.unit c.args.blocks.now (get_or c.args.row.now c.tree_at-index.result.0 no_part).page.0) c.args.level (get_or c.args.row.now c.tree_at-index.result.0 no_part).size x.fan (get_or c.args.row.now c.tree_at-index.result.0 no_part).page.0 c.in_err-below.field-0.0) c.geometry-geometry.ensures (c.in_err-below.ensures.fault told)))

pub returns-in_err-grown-clause-fault : goal.returns-in_err-grown-clause-fault
returns-in_err-grown-clause-fault g t c =
    if_err_handed c.from_residual-in_err-grown.result _ c.in_err-grown.field-0.0 c.from_residual-in_err-grown.ensures.1
    (λ told. walk_below (g.B.Ground.geometry c.args.blocks.now) (g.B.Ground.unit c.args.blocks.now) c.args.level (g.B.Ground.geometry c.args.blocks.now).fan c.tree_at-index.result.0 c.args.row.now c.in_ok-below.below.items c.in_err-grown.field-0.0 c.if-level-eq0.false c.tree_at-index.ensures.inside c.in_ok-below.ensures.area (c.in_ok-below.ensures.found told)
    (subst (λ (x : Geometry). IsFilled (g.B.Ground.geometry c.args.blocks.now) c.args.level x.fan c.in_ok-below.below.items) c.geometry-geometry.ensures c.in_ok-below.ensures.counted.filled)
    (walk_back g.B.Ground c.args.blocks.now c.row_of.new.blocks (c.args.level - 1) (g.B.Ground.geometry c.args.blocks.now).fan c.in_ok-below.below.items c.in_err-grown.field-0.0 c.in_ok-below.ensures.kept
    (λ later. subst (λ r. IsWalkFault (g.B.Ground.geometry c.row_of.new.blocks) (g.B.Ground.unit c.row_of.new.blocks) (c.args.level - 1) (g.B.Ground.geometry c.args.blocks.now).fan r c.in_err-grown.field-0.0) c.deref.ensures.value
    (subst (λ (x : Geometry). IsWalkFault (g.B.Ground.geometry c.row_of.new.blocks) (g.B.Ground.unit c.row_of.new.blocks) (c.args.level - 1) x.fan c.deref.result.now c.in_err-grown.field-0.0) (g.B.Ground.leads_geometry c.args.blocks.now c.row_of.new.blocks c.in_ok-below.ensures.kept.leads) (c.in_err-grown.ensures.fault later))) told))

pub returns-then-level-eq0-clause-way : goal.returns-then-level-eq0-clause-way
returns-then-level-eq0-clause-way g t c =
    on_ok_weaker c.grow_leaves.result (λ way told. way_low (g.B.Ground.geometry c.args.blocks.now) (g.B.Ground.unit c.args.blocks.now) (NamesLeaf (g.B.Ground.geometry c.args.blocks.now)) c.args.level 0 (g.B.Ground.geometry c.args.blocks.now).fan c.args.row.now (c.args.pos - 1) (c.args.pos - 1) c.if-level-eq0.true (way told)) c.grow_leaves.ensures.way

pub returns-clause-way : goal.returns-clause-way
returns-clause-way g t c = λ told.
    place_way (g.B.Ground.geometry c.args.blocks.now) (g.B.Ground.unit c.args.blocks.now) (NamesLeaf (g.B.Ground.geometry c.args.blocks.now)) c.args.level (g.B.Ground.geometry c.args.blocks.now).fan c.args.row.now c.args.pos c.tree_at-index.result.0 c.tree_at-index.result.1 c.requires.sizes c.tree_at-index.ensures
    (way_one (g.B.Ground.geometry c.args.blocks.now) (g.B.Ground.unit c.args.blocks.now) (NamesLeaf (g.B.Ground.geometry c.args.blocks.now)) c.args.level (g.B.Ground.geometry c.args.blocks.now).fan (get_or c.args.row.now c.tree_at-index.result.0 no_part) c.in_ok-below.below.items (c.tree_at-index.result.1 - 1) (c.tree_at-index.result.1 - 1) c.if-level-eq0.false c.in_ok-below.ensures.area (c.in_ok-below.ensures.found told) (subst (λ k. IsFilled (g.B.Ground.geometry c.args.blocks.now) c.args.level k c.in_ok-below.below.items) (ap (λ (geo : Geometry). geo.fan) c.geometry-geometry.ensures) c.in_ok-below.ensures.counted.filled)
    (way_kept g.B.Ground NamesLeaf c.args.blocks.now c.row_of.new.blocks (c.args.level - 1) (g.B.Ground.geometry c.args.blocks.now).fan c.in_ok-below.below.items (c.tree_at-index.result.1 - 1) (c.tree_at-index.result.1 - 1) c.in_ok-below.ensures.kept
    (λ later. subst (λ k. IsSoundWay (g.B.Ground.geometry c.row_of.new.blocks) (g.B.Ground.unit c.row_of.new.blocks) (NamesLeaf (g.B.Ground.geometry c.row_of.new.blocks)) (c.args.level - 1) k c.in_ok-below.below.items (c.tree_at-index.result.1 - 1) (c.tree_at-index.result.1 - 1)) (ap (λ (geo : Geometry). geo.fan) (g.B.Ground.leads_geometry c.args.blocks.now c.row_of.new.blocks c.in_ok-below.ensures.kept.leads))
    (subst (λ r. IsSoundWay (g.B.Ground.geometry c.row_of.new.blocks) (g.B.Ground.unit c.row_of.new.blocks) (NamesLeaf (g.B.Ground.geometry c.row_of.new.blocks)) (c.args.level - 1) (g.B.Ground.geometry c.row_of.new.blocks).fan r (c.tree_at-index.result.1 - 1) (c.tree_at-index.result.1 - 1)) c.deref.ensures.value (c.in_ok-grown.ensures.way later))) told))

-- ---- what else is asked and promised

pub returns-in_err-below-clause-grown : goal.returns-in_err-below-clause-grown
returns-in_err-below-clause-grown g t c = no_value c.from_residual.result _ c.in_err-below.field-0.0 c.from_residual.ensures.1

pub returns-in_err-below-clause-paid : goal.returns-in_err-below-clause-paid
returns-in_err-below-clause-paid g t c = no_value c.from_residual.result _ c.in_err-below.field-0.0 c.from_residual.ensures.1

pub returns-in_err-below-clause-grew : goal.returns-in_err-below-clause-grew
returns-in_err-below-clause-grew g t c = no_value c.from_residual.result _ c.in_err-below.field-0.0 c.from_residual.ensures.1

pub returns-in_err-below-clause-extends : goal.returns-in_err-below-clause-extends
returns-in_err-below-clause-extends g t c = not_given c.from_residual.result _ c.in_err-below.field-0.0 c.from_residual.ensures.1

pub returns-in_err-below-clause-leaves : goal.returns-in_err-below-clause-leaves
returns-in_err-below-clause-leaves g t c = not_given c.from_residual.result _ c.in_err-below.field-0.0 c.from_residual.ensures.1

pub returns-in_err-below-clause-way : goal.returns-in_err-below-clause-way
returns-in_err-below-clause-way g t c = not_given c.from_residual.result _ c.in_err-below.field-0.0 c.from_residual.ensures.1

pub returns-in_err-below-clause-leads : goal.returns-in_err-below-clause-leads
returns-in_err-below-clause-leads g t c = c.row_of.ensures.kept.leads

pub returns-in_err-below-clause-cause : goal.returns-in_err-below-clause-cause
returns-in_err-below-clause-cause g t c = cause_here (g.B.Ground.faults c.args.blocks.now) (g.B.Ground.faults c.row_of.new.blocks) c.from_residual.result c.in_err-below.field-0.0 c.from_residual.ensures.1 c.in_err-below.ensures.cause

pub returns-in_err-grown-clause-grown : goal.returns-in_err-grown-clause-grown
returns-in_err-grown-clause-grown g t c = no_value c.from_residual-in_err-grown.result _ c.in_err-grown.field-0.0 c.from_residual-in_err-grown.ensures.1

pub returns-in_err-grown-clause-paid : goal.returns-in_err-grown-clause-paid
returns-in_err-grown-clause-paid g t c = no_value c.from_residual-in_err-grown.result _ c.in_err-grown.field-0.0 c.from_residual-in_err-grown.ensures.1

pub returns-in_err-grown-clause-grew : goal.returns-in_err-grown-clause-grew
returns-in_err-grown-clause-grew g t c = no_value c.from_residual-in_err-grown.result _ c.in_err-grown.field-0.0 c.from_residual-in_err-grown.ensures.1

pub returns-in_err-grown-clause-extends : goal.returns-in_err-grown-clause-extends
returns-in_err-grown-clause-extends g t c = not_given c.from_residual-in_err-grown.result _ c.in_err-grown.field-0.0 c.from_residual-in_err-grown.ensures.1

pub returns-in_err-grown-clause-leaves : goal.returns-in_err-grown-clause-leaves
returns-in_err-grown-clause-leaves g t c = not_given c.from_residual-in_err-grown.result _ c.in_err-grown.field-0.0 c.from_residual-in_err-grown.ensures.1

pub returns-in_err-grown-clause-way : goal.returns-in_err-grown-clause-way
returns-in_err-grown-clause-way g t c = not_given c.from_residual-in_err-grown.result _ c.in_err-grown.field-0.0 c.from_residual-in_err-grown.ensures.1

pub returns-in_err-grown-clause-leads : goal.returns-in_err-grown-clause-leads
returns-in_err-grown-clause-leads g t c = g.B.Ground.leads_trans c.args.blocks.now c.row_of.new.blocks c.grow_row.new.blocks c.in_ok-below.ensures.kept.leads c.in_err-grown.ensures.leads

pub returns-in_err-grown-clause-cause : goal.returns-in_err-grown-clause-cause
returns-in_err-grown-clause-cause g t c = cause_handed (g.B.Ground.faults c.args.blocks.now) (g.B.Ground.faults c.row_of.new.blocks) (g.B.Ground.faults c.grow_row.new.blocks) c.from_residual-in_err-grown.result c.in_err-grown.field-0.0 c.from_residual-in_err-grown.ensures.1 (g.B.Ground.leads_faults c.args.blocks.now c.row_of.new.blocks c.in_ok-below.ensures.kept.leads) c.in_err-grown.ensures.cause

pub returns-in_err-made-clause-grown : goal.returns-in_err-made-clause-grown
returns-in_err-made-clause-grown g t c = no_value c.from_residual-in_err-made.result _ c.in_err-made.field-0.0 c.from_residual-in_err-made.ensures.1

pub returns-in_err-made-clause-paid : goal.returns-in_err-made-clause-paid
returns-in_err-made-clause-paid g t c = no_value c.from_residual-in_err-made.result _ c.in_err-made.field-0.0 c.from_residual-in_err-made.ensures.1

pub returns-in_err-made-clause-grew : goal.returns-in_err-made-clause-grew
returns-in_err-made-clause-grew g t c = no_value c.from_residual-in_err-made.result _ c.in_err-made.field-0.0 c.from_residual-in_err-made.ensures.1

pub returns-in_err-made-clause-extends : goal.returns-in_err-made-clause-extends
returns-in_err-made-clause-extends g t c = not_given c.from_residual-in_err-made.result _ c.in_err-made.field-0.0 c.from_residual-in_err-made.ensures.1

pub returns-in_err-made-clause-leaves : goal.returns-in_err-made-clause-leaves
returns-in_err-made-clause-leaves g t c = not_given c.from_residual-in_err-made.result _ c.in_err-made.field-0.0 c.from_residual-in_err-made.ensures.1

pub returns-in_err-made-clause-way : goal.returns-in_err-made-clause-way
returns-in_err-made-clause-way g t c = not_given c.from_residual-in_err-made.result _ c.in_err-made.field-0.0 c.from_residual-in_err-made.ensures.1

pub returns-in_err-made-clause-fault : goal.returns-in_err-made-clause-fault
returns-in_err-made-clause-fault g t c = if_err_handed c.from_residual-in_err-made.result _ c.in_err-made.field-0.0 c.from_residual-in_err-made.ensures.1 (λ told. walk_undamaged (g.B.Ground.geometry c.args.blocks.now) (g.B.Ground.unit c.args.blocks.now) c.args.level (g.B.Ground.geometry c.args.blocks.now).fan c.args.row.now c.in_err-made.field-0.0 c.in_err-made.ensures.no_damage)

pub returns-in_err-spliced-clause-grown : goal.returns-in_err-spliced-clause-grown
returns-in_err-spliced-clause-grown g t c = no_value c.from_residual-in_err-spliced.result _ Memory c.from_residual-in_err-spliced.ensures.1

pub returns-in_err-spliced-clause-paid : goal.returns-in_err-spliced-clause-paid
returns-in_err-spliced-clause-paid g t c = no_value c.from_residual-in_err-spliced.result _ Memory c.from_residual-in_err-spliced.ensures.1

pub returns-in_err-spliced-clause-grew : goal.returns-in_err-spliced-clause-grew
returns-in_err-spliced-clause-grew g t c = no_value c.from_residual-in_err-spliced.result _ Memory c.from_residual-in_err-spliced.ensures.1

pub returns-in_err-spliced-clause-extends : goal.returns-in_err-spliced-clause-extends
returns-in_err-spliced-clause-extends g t c = not_given c.from_residual-in_err-spliced.result _ Memory c.from_residual-in_err-spliced.ensures.1

pub returns-in_err-spliced-clause-leaves : goal.returns-in_err-spliced-clause-leaves
returns-in_err-spliced-clause-leaves g t c = not_given c.from_residual-in_err-spliced.result _ Memory c.from_residual-in_err-spliced.ensures.1

pub returns-in_err-spliced-clause-way : goal.returns-in_err-spliced-clause-way
returns-in_err-spliced-clause-way g t c = not_given c.from_residual-in_err-spliced.result _ Memory c.from_residual-in_err-spliced.ensures.1

pub returns-in_err-spliced-clause-fault : goal.returns-in_err-spliced-clause-fault
returns-in_err-spliced-clause-fault g t c = if_err_handed c.from_residual-in_err-spliced.result _ Memory c.from_residual-in_err-spliced.ensures.1 (λ told. tt)

pub returns-in_err-spliced-clause-cause : goal.returns-in_err-spliced-clause-cause
returns-in_err-spliced-clause-cause g t c = cause_here (g.B.Ground.faults c.args.blocks.now) (g.B.Ground.faults c.nodes_over.new.blocks) c.from_residual-in_err-spliced.result Memory c.from_residual-in_err-spliced.ensures.1 tt

pub returns-then-level-eq0-clause-cause : goal.returns-then-level-eq0-clause-cause
returns-then-level-eq0-clause-cause g t c = c.grow_leaves.ensures.cause

pub returns-then-level-eq0-clause-extends : goal.returns-then-level-eq0-clause-extends
returns-then-level-eq0-clause-extends g t c = c.grow_leaves.ensures.extends

pub returns-then-level-eq0-clause-grown : goal.returns-then-level-eq0-clause-grown
returns-then-level-eq0-clause-grown g t c = c.grow_leaves.ensures.grown

pub returns-then-level-eq0-clause-leads : goal.returns-then-level-eq0-clause-leads
returns-then-level-eq0-clause-leads g t c = c.grow_leaves.ensures.leads

pub returns-then-level-eq0-clause-leaves : goal.returns-then-level-eq0-clause-leaves
returns-then-level-eq0-clause-leaves g t c = c.grow_leaves.ensures.leaves

pub returns-then-level-eq0-clause-fault : goal.returns-then-level-eq0-clause-fault
returns-then-level-eq0-clause-fault g t c = walk_leaves (g.B.Ground.geometry c.args.blocks.now) (g.B.Ground.unit c.args.blocks.now) c.grow_leaves.result (g.B.Ground.tells c.args.blocks.now) c.args.level 0 (g.B.Ground.geometry c.args.blocks.now).fan c.args.row.now c.if-level-eq0.true c.grow_leaves.ensures.fault

pub returns-then-level-eq0-clause-grew : goal.returns-then-level-eq0-clause-grew
returns-then-level-eq0-clause-grew g t c = if_ok_from c.grow_leaves.result _ (λ made is told l same holds. subst (λ (k : ℕ). Holds g.B.Ground c.args.blocks.now k c.args.row.now → Grew g.B.Ground c.args.blocks.now c.grow_leaves.new.blocks k c.args.row.now made.items (inserted (row_bytes (g.B.Ground.unit c.args.blocks.now) k c.args.row.now) c.args.pos c.args.given.now) (row_by c.args.growth (g.B.Ground.geometry c.args.blocks.now).fan (leaf_bytes (g.B.Ground.geometry c.args.blocks.now)) (length c.args.given.now) k (row_shape (g.B.Ground.unit c.args.blocks.now) k c.args.row.now) c.args.pos)) (sym c.if-level-eq0.true ∙ same) (IfOk-at_ok _ is c.grow_leaves.ensures.grew told) holds)

pub returns-clause-fault : goal.returns-clause-fault
returns-clause-fault g t c = tt

pub returns-clause-cause : goal.returns-clause-cause
returns-clause-cause g t c = tt

pub overflow_sub-level : goal.overflow_sub-level
overflow_sub-level g t c = omega (arith, c.if-level-eq0.false)

pub nodes_over-requires-clause-level : goal.nodes_over-requires-clause-level
nodes_over-requires-clause-level g t c = omega (arith, c.if-level-eq0.false)

pub nodes_over-requires-clause-ready : goal.nodes_over-requires-clause-ready
nodes_over-requires-clause-ready g t c = g.B.Ground.leads_ready c.row_of.new.blocks c.grow_row.new.blocks c.in_ok-grown.ensures.leads (g.B.Ground.leads_ready c.args.blocks.now c.row_of.new.blocks c.in_ok-below.ensures.kept.leads c.requires.ready)

pub nodes_over-requires-clause-sizes : goal.nodes_over-requires-clause-sizes
nodes_over-requires-clause-sizes g t c = subst AreSome (sym c.deref-2.ensures.value) c.in_ok-grown.ensures.grown.sizes

pub nodes_over-requires-clause-some : goal.nodes_over-requires-clause-some
nodes_over-requires-clause-some g t c = omega (arith, ap length c.deref-2.ensures.value, c.in_ok-grown.ensures.grown.some)

pub row_of-requires : goal.row_of-requires
row_of-requires g t c = c.requires.ready

pub spliced-requires-clause-order : goal.spliced-requires-clause-order
spliced-requires-clause-order g t c = omega arith

pub spliced-requires-clause-inside : goal.spliced-requires-clause-inside
spliced-requires-clause-inside g t c = omega (arith, c.tree_at-index.ensures.inside)

pub tree_at-index-requires-clause-some : goal.tree_at-index-requires-clause-some
tree_at-index-requires-clause-some g t c = c.requires.some

pub grow_leaves-requires-clause-buffer : goal.grow_leaves-requires-clause-buffer
grow_leaves-requires-clause-buffer g t c = c.requires.buffer

pub grow_leaves-requires-clause-few : goal.grow_leaves-requires-clause-few
grow_leaves-requires-clause-few g t c = c.requires.few

pub grow_leaves-requires-clause-free : goal.grow_leaves-requires-clause-free
grow_leaves-requires-clause-free g t c = c.requires.free

pub grow_leaves-requires-clause-given : goal.grow_leaves-requires-clause-given
grow_leaves-requires-clause-given g t c = c.requires.given

pub grow_leaves-requires-clause-limit : goal.grow_leaves-requires-clause-limit
grow_leaves-requires-clause-limit g t c = c.requires.limit

pub grow_leaves-requires-clause-ready : goal.grow_leaves-requires-clause-ready
grow_leaves-requires-clause-ready g t c = c.requires.ready

pub grow_leaves-requires-clause-sizes : goal.grow_leaves-requires-clause-sizes
grow_leaves-requires-clause-sizes g t c = c.requires.sizes

pub grow_leaves-requires-clause-some : goal.grow_leaves-requires-clause-some
grow_leaves-requires-clause-some g t c = c.requires.some

pub grow_leaves-requires-clause-spot : goal.grow_leaves-requires-clause-spot
grow_leaves-requires-clause-spot g t c = c.requires.spot

pub grow_leaves-requires-clause-leaves : goal.grow_leaves-requires-clause-leaves
grow_leaves-requires-clause-leaves g t c = subst (λ k. FitLeaves (g.B.Ground.geometry c.args.blocks.now) k c.args.row.now) c.if-level-eq0.true c.requires.leaves

pub slice_bounds-page-end : goal.slice_bounds-page-end
slice_bounds-page-end g t c =
    let fits : c.geometry-geometry.result.page_size ≤ length c.grow_row.new.buffer = omega (arith, c.grow_row.auto.buffer, c.requires.buffer, page_le (g.B.Ground.geometry c.args.blocks.now), ap (λ (k : Geometry). k.page_size) c.geometry-geometry.ensures) in
    omega (arith, fits, length-take-le c.geometry-geometry.result.page_size c.grow_row.new.buffer fits)

pub slice_bounds-page-end-2 : goal.slice_bounds-page-end-2
slice_bounds-page-end-2 g t c =
    let fits : c.geometry-geometry.result.page_size ≤ length c.grow_row.new.buffer = omega (arith, c.grow_row.auto.buffer, c.requires.buffer, page_le (g.B.Ground.geometry c.args.blocks.now), ap (λ (k : Geometry). k.page_size) c.geometry-geometry.ensures) in
    omega (arith, fits, length-take-le c.geometry-geometry.result.page_size c.grow_row.new.buffer fits)

pub overflow_cast-page : goal.overflow_cast-page
overflow_cast-page g t c = omega (arith, most_page c.geometry-geometry.result)

pub overflow_add-index : goal.overflow_add-index
overflow_add-index g t c = omega (arith, c.tree_at-index.ensures.inside, c.requires.few)

pub tree_at-index-requires-clause-pos : goal.tree_at-index-requires-clause-pos
tree_at-index-requires-clause-pos g t c = spot_inside c.args.growth c.args.pos (row_size c.args.row.now) c.requires.spot
