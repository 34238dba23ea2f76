use Rattle.std.proofs.Common.{arith, List, ◌≤◌, ◌+◌, ◌*◌, ap, sym, subst, refl, length, ◌∙◌}
use Rattle.std.proofs.lemmas.Result.{IfOk-at_ok, IfOk-weaker}
use Rattle.ex_base.specs.declared.geometry.Geometry.{Geometry}
use Rattle.ex_base.specs.declared.names.Area.TheVariants.{Page}
use Rattle.ex_base.specs.Needs.{growth_leaves}
use Rattle.ex_base.proofs.Results.{from_ok, if_ok_from, on_ok_from, if_err_handed}
use Rattle.trees.specs.declared.rows.Part.{Part}
use Rattle.trees.specs.Made.{Holds}
use Rattle.trees.proofs.Laid.{extends_on}
use Rattle.trees.specs.Grown.{IsRooted}
use Rattle.tree_insert.specs.Need.{counted}
use Rattle.trees.proofs.Paid.{rise_first}
use Rattle.tree_insert.proofs.RootEdit.{edited, few_roots, enough_pages, enough_roots, taken_pages}
use Rattle.ex_base.proofs.Handed.{no_value, not_given, cause_here}
use Rattle.ex_base.specs.declared.faults.PortFault.TheVariants.{Memory}
use Rattle.ex_base.proofs.Keeping.{cause_on}
use Rattle.trees.specs.Rows.{row_size}
use Rattle.trees.specs.Built.{AreSome}
use Rattle.trees.specs.Damage.{root_row}
use Rattle.tree_insert.proofs.WalkFaults.{undamaged}
use Rattle.std.proofs.lemmas.List.{length-take-le}
use Rattle.ex_base.specs.Sizes.{most_page}
use Rattle.ex_base.proofs.Geometries.{page_le}
use Rattle.tree_insert.proofs.edit.grow.Goals as goal

pub new_parts-requires-clause-pages : goal.new_parts-requires-clause-pages
new_parts-requires-clause-pages g c = enough_pages (g.B.Ground.geometry c.args.blocks.now).fan (growth_leaves (g.B.Ground.geometry c.args.blocks.now) (counted (g.B.Ground.geometry c.args.blocks.now) c.args.root.now.page (length c.args.given.now))) c.args.root.now.height (g.B.Ground.free c.args.blocks.now Page) (omega (arith, (g.B.Ground.geometry c.args.blocks.now).two)) c.requires.pages

pub rooted-requires-clause-count : goal.rooted-requires-clause-count
rooted-requires-clause-count g c =
    omega (arith, ap length c.deref.ensures.value, few_roots (g.B.Ground.geometry c.args.blocks.now) c.args.root.now.page (length c.args.given.now) c.args.root.now.height (length c.in_ok-row.row.items) (g.B.Ground.free c.args.blocks.now Page) (g.B.Ground.free c.new_parts.new.blocks Page) (omega (arith, c.requires.limit)) c.requires.root.low c.in_ok-row.ensures.fewer c.in_ok-row.ensures.paid)

pub rooted-requires-clause-rise : goal.rooted-requires-clause-rise
rooted-requires-clause-rise g c =
    rise_first c.args.root.now.height (length c.deref.result.now) c.requires.root.low
    (omega (arith, ap length c.deref.ensures.value, few_roots (g.B.Ground.geometry c.args.blocks.now) c.args.root.now.page (length c.args.given.now) c.args.root.now.height (length c.in_ok-row.row.items) (g.B.Ground.free c.args.blocks.now Page) (g.B.Ground.free c.new_parts.new.blocks Page) (omega (arith, c.requires.limit)) c.requires.root.low c.in_ok-row.ensures.fewer c.in_ok-row.ensures.paid))

pub rooted-requires-clause-free : goal.rooted-requires-clause-free
rooted-requires-clause-free g c = λ two.
    subst (λ (geo : Geometry). length c.deref.result.now + geo.fan ≤ geo.fan * g.B.Ground.free c.new_parts.new.blocks Page + 2) (sym (g.B.Ground.leads_geometry c.args.blocks.now c.new_parts.new.blocks c.in_ok-row.ensures.extends.leads))
    (enough_roots (g.B.Ground.geometry c.args.blocks.now).fan (growth_leaves (g.B.Ground.geometry c.args.blocks.now) (counted (g.B.Ground.geometry c.args.blocks.now) c.args.root.now.page (length c.args.given.now))) c.args.root.now.height (g.B.Ground.free c.args.blocks.now Page) (length c.deref.result.now) (g.B.Ground.free c.new_parts.new.blocks Page) (omega (arith, (g.B.Ground.geometry c.args.blocks.now).two)) c.requires.pages (subst (λ k. (g.B.Ground.geometry c.args.blocks.now).fan * g.B.Ground.free c.args.blocks.now Page + k ≤ (growth_leaves (g.B.Ground.geometry c.args.blocks.now) (counted (g.B.Ground.geometry c.args.blocks.now) c.args.root.now.page (length c.args.given.now))) + c.args.root.now.height * (2 * (g.B.Ground.geometry c.args.blocks.now).fan) + (g.B.Ground.geometry c.args.blocks.now).fan * g.B.Ground.free c.new_parts.new.blocks Page) (sym (ap length c.deref.ensures.value)) c.in_ok-row.ensures.paid))

pub returns-clause-extends : goal.returns-clause-extends
returns-clause-extends g c = on_ok_from c.rooted.result _ (λ made is. extends_on g.B.Ground c.args.blocks.now c.new_parts.new.blocks c.rooted.new.blocks c.in_ok-row.ensures.extends (from_ok c.rooted.result made _ is c.rooted.ensures.extends))

pub returns-clause-pages : goal.returns-clause-pages
returns-clause-pages g c =
    on_ok_from c.rooted.result _ (λ made is.
    taken_pages (g.B.Ground.geometry c.args.blocks.now).fan (growth_leaves (g.B.Ground.geometry c.args.blocks.now) (counted (g.B.Ground.geometry c.args.blocks.now) c.args.root.now.page (length c.args.given.now))) c.args.root.now.height (g.B.Ground.free c.args.blocks.now Page) (length c.deref.result.now) (g.B.Ground.free c.new_parts.new.blocks Page) (g.B.Ground.free c.rooted.new.blocks Page) (omega (arith, (g.B.Ground.geometry c.args.blocks.now).two)) (omega (arith, ap length c.deref.ensures.value, c.in_ok-row.ensures.some)) (subst (λ k. (g.B.Ground.geometry c.args.blocks.now).fan * g.B.Ground.free c.args.blocks.now Page + k ≤ (growth_leaves (g.B.Ground.geometry c.args.blocks.now) (counted (g.B.Ground.geometry c.args.blocks.now) c.args.root.now.page (length c.args.given.now))) + c.args.root.now.height * (2 * (g.B.Ground.geometry c.args.blocks.now).fan) + (g.B.Ground.geometry c.args.blocks.now).fan * g.B.Ground.free c.new_parts.new.blocks Page) (sym (ap length c.deref.ensures.value)) c.in_ok-row.ensures.paid)
    (from_ok c.rooted.result made _ is c.rooted.ensures.lone)
    (subst (λ (geo : Geometry). 2 ≤ length c.deref.result.now → geo.fan * g.B.Ground.free c.new_parts.new.blocks Page + 2 ≤ length c.deref.result.now + geo.fan + geo.fan * g.B.Ground.free c.rooted.new.blocks Page) (g.B.Ground.leads_geometry c.args.blocks.now c.new_parts.new.blocks c.in_ok-row.ensures.extends.leads) (from_ok c.rooted.result made _ is c.rooted.ensures.pages)))

pub returns-clause-edited : goal.returns-clause-edited
returns-clause-edited g c =
    if_ok_from c.rooted.result _ (λ made is told bytes spells used.
    let row = c.in_ok-row.ensures in
    let told_m = g.B.Ground.leads_told c.args.blocks.now c.new_parts.new.blocks row.leads told in
    let roots : Holds g.B.Ground c.new_parts.new.blocks c.args.root.now.height c.in_ok-row.row.items → IsRooted g.B.Ground c.new_parts.new.blocks c.rooted.new.blocks c.args.root.now.height c.in_ok-row.row.items made =
    subst (λ (r : List Part). Holds g.B.Ground c.new_parts.new.blocks c.args.root.now.height r → IsRooted g.B.Ground c.new_parts.new.blocks c.rooted.new.blocks c.args.root.now.height r made) c.deref.ensures.value (IfOk-at_ok _ is c.rooted.ensures.rooted told_m c.args.root.now.height refl) in
    edited g.B.Ground c.args.blocks.now c.new_parts.new.blocks c.rooted.new.blocks c.args.growth c.args.root.now.height c.args.root.now made c.in_ok-row.row.items bytes c.args.pos c.args.given.now row.extends (from_ok c.rooted.result made _ is c.rooted.ensures.extends) spells (row.grew told bytes spells used c.args.root.now.height refl) roots)

pub returns-clause-way : goal.returns-clause-way
returns-clause-way g c = on_ok_from c.rooted.result _ (λ made is told. c.in_ok-row.ensures.way told)

-- ---- what else is asked and promised

pub returns-in_err-buffer-clause-edited : goal.returns-in_err-buffer-clause-edited
returns-in_err-buffer-clause-edited g c = no_value c.from_residual.result _ Memory c.from_residual.ensures.1

pub returns-in_err-buffer-clause-size : goal.returns-in_err-buffer-clause-size
returns-in_err-buffer-clause-size g c = no_value c.from_residual.result _ Memory c.from_residual.ensures.1

pub returns-in_err-buffer-clause-extends : goal.returns-in_err-buffer-clause-extends
returns-in_err-buffer-clause-extends g c = not_given c.from_residual.result _ Memory c.from_residual.ensures.1

pub returns-in_err-buffer-clause-leaves : goal.returns-in_err-buffer-clause-leaves
returns-in_err-buffer-clause-leaves g c = not_given c.from_residual.result _ Memory c.from_residual.ensures.1

pub returns-in_err-buffer-clause-pages : goal.returns-in_err-buffer-clause-pages
returns-in_err-buffer-clause-pages g c = not_given c.from_residual.result _ Memory c.from_residual.ensures.1

pub returns-in_err-buffer-clause-way : goal.returns-in_err-buffer-clause-way
returns-in_err-buffer-clause-way g c = not_given c.from_residual.result _ Memory c.from_residual.ensures.1

pub returns-in_err-buffer-clause-fault : goal.returns-in_err-buffer-clause-fault
returns-in_err-buffer-clause-fault g c = if_err_handed c.from_residual.result _ Memory c.from_residual.ensures.1 (λ told. tt)

pub returns-in_err-buffer-clause-leads : goal.returns-in_err-buffer-clause-leads
returns-in_err-buffer-clause-leads g c = g.B.Ground.leads_refl c.args.blocks.now

pub returns-in_err-buffer-clause-cause : goal.returns-in_err-buffer-clause-cause
returns-in_err-buffer-clause-cause g c = cause_here (g.B.Ground.faults c.args.blocks.now) (g.B.Ground.faults c.args.blocks.now) c.from_residual.result Memory c.from_residual.ensures.1 tt

pub returns-in_err-row-clause-edited : goal.returns-in_err-row-clause-edited
returns-in_err-row-clause-edited g c = no_value c.from_residual-in_err-row.result _ c.in_err-row.field-0.0 c.from_residual-in_err-row.ensures.1

pub returns-in_err-row-clause-size : goal.returns-in_err-row-clause-size
returns-in_err-row-clause-size g c = no_value c.from_residual-in_err-row.result _ c.in_err-row.field-0.0 c.from_residual-in_err-row.ensures.1

pub returns-in_err-row-clause-extends : goal.returns-in_err-row-clause-extends
returns-in_err-row-clause-extends g c = not_given c.from_residual-in_err-row.result _ c.in_err-row.field-0.0 c.from_residual-in_err-row.ensures.1

pub returns-in_err-row-clause-leaves : goal.returns-in_err-row-clause-leaves
returns-in_err-row-clause-leaves g c = not_given c.from_residual-in_err-row.result _ c.in_err-row.field-0.0 c.from_residual-in_err-row.ensures.1

pub returns-in_err-row-clause-pages : goal.returns-in_err-row-clause-pages
returns-in_err-row-clause-pages g c = not_given c.from_residual-in_err-row.result _ c.in_err-row.field-0.0 c.from_residual-in_err-row.ensures.1

pub returns-in_err-row-clause-way : goal.returns-in_err-row-clause-way
returns-in_err-row-clause-way g c = not_given c.from_residual-in_err-row.result _ c.in_err-row.field-0.0 c.from_residual-in_err-row.ensures.1

pub returns-in_err-row-clause-fault : goal.returns-in_err-row-clause-fault
returns-in_err-row-clause-fault g c = if_err_handed c.from_residual-in_err-row.result _ c.in_err-row.field-0.0 c.from_residual-in_err-row.ensures.1 c.in_err-row.ensures.fault

pub returns-in_err-row-clause-leads : goal.returns-in_err-row-clause-leads
returns-in_err-row-clause-leads g c = c.in_err-row.ensures.leads

pub returns-in_err-row-clause-cause : goal.returns-in_err-row-clause-cause
returns-in_err-row-clause-cause g c = cause_here (g.B.Ground.faults c.args.blocks.now) (g.B.Ground.faults c.new_parts.new.blocks) c.from_residual-in_err-row.result c.in_err-row.field-0.0 c.from_residual-in_err-row.ensures.1 c.in_err-row.ensures.cause

pub returns-clause-leads : goal.returns-clause-leads
returns-clause-leads g c = g.B.Ground.leads_trans c.args.blocks.now c.new_parts.new.blocks c.rooted.new.blocks c.in_ok-row.ensures.leads c.rooted.ensures.leads

pub returns-clause-cause : goal.returns-clause-cause
returns-clause-cause g c = cause_on (g.B.Ground.faults c.args.blocks.now) (g.B.Ground.faults c.new_parts.new.blocks) (g.B.Ground.faults c.rooted.new.blocks) c.rooted.result (g.B.Ground.leads_faults c.args.blocks.now c.new_parts.new.blocks c.in_ok-row.ensures.leads) c.rooted.ensures.cause

pub rooted-requires-clause-ready : goal.rooted-requires-clause-ready
rooted-requires-clause-ready g c = g.B.Ground.leads_ready c.args.blocks.now c.new_parts.new.blocks c.in_ok-row.ensures.leads c.requires.ready

pub new_parts-requires-clause-ready : goal.new_parts-requires-clause-ready
new_parts-requires-clause-ready g c = c.requires.ready

pub new_parts-requires-clause-root : goal.new_parts-requires-clause-root
new_parts-requires-clause-root g c = c.requires.root

pub new_parts-requires-clause-given : goal.new_parts-requires-clause-given
new_parts-requires-clause-given g c = c.requires.given

pub new_parts-requires-clause-limit : goal.new_parts-requires-clause-limit
new_parts-requires-clause-limit g c = c.requires.limit

pub new_parts-requires-clause-spot : goal.new_parts-requires-clause-spot
new_parts-requires-clause-spot g c = c.requires.spot

pub returns-clause-fault : goal.returns-clause-fault
returns-clause-fault g c = undamaged (g.B.Ground.geometry c.args.blocks.now) (g.B.Ground.unit c.args.blocks.now) c.rooted.result (g.B.Ground.tells c.args.blocks.now) c.args.root.now.height 2 (root_row c.args.root.now) c.rooted.ensures.no_damage

pub rooted-requires-clause-limit : goal.rooted-requires-clause-limit
rooted-requires-clause-limit g c = omega (arith, ap row_size c.deref.ensures.value, c.in_ok-row.ensures.sum, c.requires.limit)

pub rooted-requires-clause-sizes : goal.rooted-requires-clause-sizes
rooted-requires-clause-sizes g c = subst AreSome (sym c.deref.ensures.value) c.in_ok-row.ensures.sizes

pub rooted-requires-clause-some : goal.rooted-requires-clause-some
rooted-requires-clause-some g c = omega (arith, ap length c.deref.ensures.value, c.in_ok-row.ensures.some)

pub returns-clause-leaves : goal.returns-clause-leaves
returns-clause-leaves g c = on_ok_from c.rooted.result _ (λ made is. omega (arith, from_ok c.rooted.result made _ is c.rooted.ensures.leaves, c.in_ok-row.ensures.leaves))

pub returns-clause-size : goal.returns-clause-size
returns-clause-size g c = IfOk-weaker c.rooted.result _ _ (λ made is. is ∙ ap row_size c.deref.ensures.value ∙ c.in_ok-row.ensures.sum) c.rooted.ensures.size

pub rooted-requires-clause-buffer : goal.rooted-requires-clause-buffer
rooted-requires-clause-buffer g c =
    let fits : c.geometry-geometry.result.page_size ≤ length c.deref_mut-2.result.now = omega (arith, c.deref_mut-2.ensures.len, c.in_ok-buffer.ensures.len, c.leaf_bytes.ensures, page_le c.geometry-geometry.result) in
    length-take-le c.geometry-geometry.result.page_size c.deref_mut-2.result.now fits ∙ ap (λ (geo : Geometry). geo.page_size) (c.geometry-geometry.ensures ∙ sym (g.B.Ground.leads_geometry c.args.blocks.now c.new_parts.new.blocks c.in_ok-row.ensures.extends.leads))

pub slice_bounds-page-end : goal.slice_bounds-page-end
slice_bounds-page-end g c =
    let fits : c.geometry-geometry.result.page_size ≤ length c.deref_mut-2.result.now = omega (arith, c.deref_mut-2.ensures.len, c.in_ok-buffer.ensures.len, c.leaf_bytes.ensures, page_le c.geometry-geometry.result) in
    sym (length-take-le c.geometry-geometry.result.page_size c.deref_mut-2.result.now fits)

pub overflow_cast-geometry : goal.overflow_cast-geometry
overflow_cast-geometry g c = omega (arith, most_page c.geometry-geometry.result)
