use Rattle.std.proofs.Common.{◌≤◌, ◌+◌, length, subst, sym, arith}
use Rattle.std.proofs.lemmas.Result.{IfOk-weaker, IfErr-weaker}
use Rattle.ex_base.specs.declared.names.Area.TheVariants.{Page, Segment}
use Rattle.ex_base.proofs.Results.{on_ok_both}
use Rattle.ex_base.proofs.Geometries.{each_area}
use Rattle.trees.specs.Trees.{RootSpells, root_shape}
use Rattle.tree_insert.proofs.RootEdit.{counted_need}
use Rattle.versions.specs.declared.editing.Edit.{Edit}
use Rattle.versions.specs.declared.editing.Edit.TheVariants.{Append}
use Rattle.versions.specs.Versions.{changed, IsTreeShape}
use Rattle.versions.specs.Needs.{most_need}
use Rattle.versions.specs.Edited.{change_of}
use Rattle.versions.proofs.Needed.{asked_as, range_as, taken_as}
use Rattle.versions.proofs.growing.edit_tree.Goals as goal

pub append-requires-clause-pages : goal.append-requires-clause-pages
append-requires-clause-pages g c = λ some.
    let units = subst (λ (e : Edit). most_need (g.V.Ground.geometry c.args.volume.now) (change_of e) c.args.root.now.height Page ≤ g.V.Ground.free c.args.volume.now Page) c.in-Append.is (c.requires.units Page) in
    omega (arith, units, counted_need (g.V.Ground.geometry c.args.volume.now) c.args.root.now.page (length c.in-Append.bytes.now) c.args.root.now.height Page)

pub returns-in-Append-clause-free : goal.returns-in-Append-clause-free
returns-in-Append-clause-free g c = on_ok_both c.append.result _ _ _ (λ leaves pages area.
    subst (λ (e : Edit). g.V.Ground.free c.args.volume.now area ≤ g.V.Ground.free c.append.new.blocks area + most_need (g.V.Ground.geometry c.args.volume.now) (change_of e) c.args.root.now.height area) (sym c.in-Append.is)
    (each_area (λ area. g.V.Ground.free c.args.volume.now area ≤ g.V.Ground.free c.append.new.blocks area + most_need (g.V.Ground.geometry c.args.volume.now) (change_of (Append c.in-Append.bytes)) c.args.root.now.height area)
    (omega (arith, pages, counted_need (g.V.Ground.geometry c.args.volume.now) c.args.root.now.page (length c.in-Append.bytes.now) c.args.root.now.height Page))
    (omega (arith, leaves, counted_need (g.V.Ground.geometry c.args.volume.now) c.args.root.now.page (length c.in-Append.bytes.now) c.args.root.now.height Segment)) area)) c.append.ensures.leaves c.append.ensures.pages

pub returns-in-Insert-clause-spells : goal.returns-in-Insert-clause-spells
returns-in-Insert-clause-spells g c = IfOk-weaker c.insert.result _ _ (λ made spells told bytes was used.
    subst (λ (e : Edit). RootSpells (g.V.Ground.geometry c.insert.new.blocks) (g.V.Ground.unit c.insert.new.blocks) made (changed (change_of e) bytes)) (sym c.in-Insert.is) (spells told bytes was used)) c.insert.ensures.spells

pub returns-in-Append-clause-spells : goal.returns-in-Append-clause-spells
returns-in-Append-clause-spells g c = IfOk-weaker c.append.result _ _ (λ made spells told bytes was used.
    subst (λ (e : Edit). RootSpells (g.V.Ground.geometry c.append.new.blocks) (g.V.Ground.unit c.append.new.blocks) made (changed (change_of e) bytes)) (sym c.in-Append.is) (spells told bytes was used)) c.append.ensures.spells

pub returns-in-Replace-clause-spells : goal.returns-in-Replace-clause-spells
returns-in-Replace-clause-spells g c = IfOk-weaker c.replace.result _ _ (λ made spells told bytes was used.
    subst (λ (e : Edit). RootSpells (g.V.Ground.geometry c.replace.new.blocks) (g.V.Ground.unit c.replace.new.blocks) made (changed (change_of e) bytes)) (sym c.in-Replace.is) (spells told bytes was used)) c.replace.ensures.spells

pub returns-in-Delete-clause-spells : goal.returns-in-Delete-clause-spells
returns-in-Delete-clause-spells g c = IfOk-weaker c.delete.result _ _ (λ made spells told bytes was used.
    subst (λ (e : Edit). RootSpells (g.V.Ground.geometry c.delete.new.blocks) (g.V.Ground.unit c.delete.new.blocks) made (changed (change_of e) bytes)) (sym c.in-Delete.is) (spells told bytes was used)) c.delete.ensures.spells

pub returns-in-Insert-clause-shape : goal.returns-in-Insert-clause-shape
returns-in-Insert-clause-shape g c = IfOk-weaker c.insert.result _ _ (λ made shape told bytes was used.
    subst (λ (e : Edit). IsTreeShape (g.V.Ground.geometry c.args.volume.now) (change_of e) (root_shape (g.V.Ground.unit c.args.volume.now) c.args.root.now) (root_shape (g.V.Ground.unit c.insert.new.blocks) made)) (sym c.in-Insert.is) (shape told bytes was used)) c.insert.ensures.shape

pub returns-in-Append-clause-shape : goal.returns-in-Append-clause-shape
returns-in-Append-clause-shape g c = IfOk-weaker c.append.result _ _ (λ made shape told bytes was used.
    subst (λ (e : Edit). IsTreeShape (g.V.Ground.geometry c.args.volume.now) (change_of e) (root_shape (g.V.Ground.unit c.args.volume.now) c.args.root.now) (root_shape (g.V.Ground.unit c.append.new.blocks) made)) (sym c.in-Append.is) (shape told bytes was used)) c.append.ensures.shape

pub returns-in-Replace-clause-shape : goal.returns-in-Replace-clause-shape
returns-in-Replace-clause-shape g c = IfOk-weaker c.replace.result _ _ (λ made shape told bytes was used.
    subst (λ (e : Edit). IsTreeShape (g.V.Ground.geometry c.args.volume.now) (change_of e) (root_shape (g.V.Ground.unit c.args.volume.now) c.args.root.now) (root_shape (g.V.Ground.unit c.replace.new.blocks) made)) (sym c.in-Replace.is) (shape told bytes was used)) c.replace.ensures.shape

pub returns-in-Delete-clause-shape : goal.returns-in-Delete-clause-shape
returns-in-Delete-clause-shape g c = IfOk-weaker c.delete.result _ _ (λ made spells told bytes was used.
    subst (λ (e : Edit). IsTreeShape (g.V.Ground.geometry c.args.volume.now) (change_of e) (root_shape (g.V.Ground.unit c.args.volume.now) c.args.root.now) (root_shape (g.V.Ground.unit c.delete.new.blocks) made)) (sym c.in-Delete.is) tt) c.delete.ensures.spells

pub returns-in-Insert-clause-extends : goal.returns-in-Insert-clause-extends
returns-in-Insert-clause-extends g c = c.insert.ensures.extends

pub returns-in-Insert-clause-turned : goal.returns-in-Insert-clause-turned
returns-in-Insert-clause-turned g c = c.insert.ensures.units

pub returns-in-Insert-clause-sound : goal.returns-in-Insert-clause-sound
returns-in-Insert-clause-sound g c = IfErr-weaker c.insert.result _ _ (λ fault never damage told whole. never told whole damage) c.insert.ensures.sound

pub returns-in-Insert-clause-fault : goal.returns-in-Insert-clause-fault
returns-in-Insert-clause-fault g c = c.insert.ensures.fault

pub returns-in-Insert-clause-leads : goal.returns-in-Insert-clause-leads
returns-in-Insert-clause-leads g c = c.insert.ensures.leads

pub returns-in-Insert-clause-cause : goal.returns-in-Insert-clause-cause
returns-in-Insert-clause-cause g c = c.insert.ensures.cause

pub insert-requires-clause-ready : goal.insert-requires-clause-ready
insert-requires-clause-ready g c = c.requires.ready

pub insert-requires-clause-root : goal.insert-requires-clause-root
insert-requires-clause-root g c = c.requires.root

pub returns-in-Append-clause-extends : goal.returns-in-Append-clause-extends
returns-in-Append-clause-extends g c = c.append.ensures.extends

pub returns-in-Append-clause-turned : goal.returns-in-Append-clause-turned
returns-in-Append-clause-turned g c = c.append.ensures.units

pub returns-in-Append-clause-sound : goal.returns-in-Append-clause-sound
returns-in-Append-clause-sound g c = IfErr-weaker c.append.result _ _ (λ fault never damage told whole. never told whole damage) c.append.ensures.sound

pub returns-in-Append-clause-fault : goal.returns-in-Append-clause-fault
returns-in-Append-clause-fault g c = c.append.ensures.fault

pub returns-in-Append-clause-leads : goal.returns-in-Append-clause-leads
returns-in-Append-clause-leads g c = c.append.ensures.leads

pub returns-in-Append-clause-cause : goal.returns-in-Append-clause-cause
returns-in-Append-clause-cause g c = c.append.ensures.cause

pub append-requires-clause-ready : goal.append-requires-clause-ready
append-requires-clause-ready g c = c.requires.ready

pub append-requires-clause-root : goal.append-requires-clause-root
append-requires-clause-root g c = c.requires.root

pub returns-in-Replace-clause-extends : goal.returns-in-Replace-clause-extends
returns-in-Replace-clause-extends g c = c.replace.ensures.extends

pub returns-in-Replace-clause-turned : goal.returns-in-Replace-clause-turned
returns-in-Replace-clause-turned g c = c.replace.ensures.units

pub returns-in-Replace-clause-sound : goal.returns-in-Replace-clause-sound
returns-in-Replace-clause-sound g c = IfErr-weaker c.replace.result _ _ (λ fault never damage told whole. never told whole damage) c.replace.ensures.sound

pub returns-in-Replace-clause-fault : goal.returns-in-Replace-clause-fault
returns-in-Replace-clause-fault g c = c.replace.ensures.fault

pub returns-in-Replace-clause-leads : goal.returns-in-Replace-clause-leads
returns-in-Replace-clause-leads g c = c.replace.ensures.leads

pub returns-in-Replace-clause-cause : goal.returns-in-Replace-clause-cause
returns-in-Replace-clause-cause g c = c.replace.ensures.cause

pub replace-requires-clause-ready : goal.replace-requires-clause-ready
replace-requires-clause-ready g c = c.requires.ready

pub replace-requires-clause-root : goal.replace-requires-clause-root
replace-requires-clause-root g c = c.requires.root

pub returns-in-Delete-clause-extends : goal.returns-in-Delete-clause-extends
returns-in-Delete-clause-extends g c = c.delete.ensures.extends

pub returns-in-Delete-clause-turned : goal.returns-in-Delete-clause-turned
returns-in-Delete-clause-turned g c = c.delete.ensures.units

pub returns-in-Delete-clause-sound : goal.returns-in-Delete-clause-sound
returns-in-Delete-clause-sound g c = IfErr-weaker c.delete.result _ _ (λ fault never damage told whole. never told whole damage) c.delete.ensures.sound

pub returns-in-Delete-clause-fault : goal.returns-in-Delete-clause-fault
returns-in-Delete-clause-fault g c = c.delete.ensures.fault

pub returns-in-Delete-clause-leads : goal.returns-in-Delete-clause-leads
returns-in-Delete-clause-leads g c = c.delete.ensures.leads

pub returns-in-Delete-clause-cause : goal.returns-in-Delete-clause-cause
returns-in-Delete-clause-cause g c = c.delete.ensures.cause

pub delete-requires-clause-ready : goal.delete-requires-clause-ready
delete-requires-clause-ready g c = c.requires.ready

pub delete-requires-clause-root : goal.delete-requires-clause-root
delete-requires-clause-root g c = c.requires.root

pub insert-requires-clause-leaves : goal.insert-requires-clause-leaves
insert-requires-clause-leaves g c = λ some.
    asked_as (g.V.Ground.geometry c.args.volume.now) (g.V.Ground.free c.args.volume.now) c.args.edit.now _ c.args.root.now.height c.in-Insert.is
    c.requires.units Segment

pub insert-requires-clause-pages : goal.insert-requires-clause-pages
insert-requires-clause-pages g c = λ some.
    asked_as (g.V.Ground.geometry c.args.volume.now) (g.V.Ground.free c.args.volume.now) c.args.edit.now _ c.args.root.now.height c.in-Insert.is
    c.requires.units Page

pub returns-in-Insert-clause-free : goal.returns-in-Insert-clause-free
returns-in-Insert-clause-free g c = on_ok_both c.insert.result _ _ _ (λ leaves pages.
    taken_as (g.V.Ground.geometry c.args.volume.now) (g.V.Ground.free c.args.volume.now) (g.V.Ground.free c.insert.new.blocks) c.args.edit.now _
    c.args.root.now.height c.in-Insert.is leaves pages) c.insert.ensures.leaves c.insert.ensures.pages

pub replace-requires-clause-leaves : goal.replace-requires-clause-leaves
replace-requires-clause-leaves g c = λ some.
    asked_as (g.V.Ground.geometry c.args.volume.now) (g.V.Ground.free c.args.volume.now) c.args.edit.now _ c.args.root.now.height c.in-Replace.is
    c.requires.units Segment

pub replace-requires-clause-pages : goal.replace-requires-clause-pages
replace-requires-clause-pages g c = λ some.
    asked_as (g.V.Ground.geometry c.args.volume.now) (g.V.Ground.free c.args.volume.now) c.args.edit.now _ c.args.root.now.height c.in-Replace.is
    c.requires.units Page

pub returns-in-Replace-clause-free : goal.returns-in-Replace-clause-free
returns-in-Replace-clause-free g c = on_ok_both c.replace.result _ _ _ (λ leaves pages.
    taken_as (g.V.Ground.geometry c.args.volume.now) (g.V.Ground.free c.args.volume.now) (g.V.Ground.free c.replace.new.blocks) c.args.edit.now _
    c.args.root.now.height c.in-Replace.is leaves pages) c.replace.ensures.leaves c.replace.ensures.pages

pub delete-requires-clause-leaves : goal.delete-requires-clause-leaves
delete-requires-clause-leaves g c = λ some.
    asked_as (g.V.Ground.geometry c.args.volume.now) (g.V.Ground.free c.args.volume.now) c.args.edit.now _ c.args.root.now.height c.in-Delete.is
    c.requires.units Segment

pub delete-requires-clause-pages : goal.delete-requires-clause-pages
delete-requires-clause-pages g c = λ some.
    asked_as (g.V.Ground.geometry c.args.volume.now) (g.V.Ground.free c.args.volume.now) c.args.edit.now _ c.args.root.now.height c.in-Delete.is
    c.requires.units Page

pub returns-in-Delete-clause-free : goal.returns-in-Delete-clause-free
returns-in-Delete-clause-free g c = on_ok_both c.delete.result _ _ _ (λ leaves pages.
    taken_as (g.V.Ground.geometry c.args.volume.now) (g.V.Ground.free c.args.volume.now) (g.V.Ground.free c.delete.new.blocks) c.args.edit.now _
    c.args.root.now.height c.in-Delete.is leaves pages) c.delete.ensures.leaves c.delete.ensures.pages

pub append-requires-clause-leaves : goal.append-requires-clause-leaves
append-requires-clause-leaves g c = λ some.
    omega (
      arith,
      asked_as (g.V.Ground.geometry c.args.volume.now) (g.V.Ground.free c.args.volume.now) c.args.edit.now _ c.args.root.now.height c.in-Append.is c.requires.units Segment,
      counted_need (g.V.Ground.geometry c.args.volume.now) c.args.root.now.page (length c.in-Append.bytes.now) c.args.root.now.height Segment,
    )

pub returns-in-Insert-clause-size : goal.returns-in-Insert-clause-size
returns-in-Insert-clause-size g c = IfOk-weaker c.insert.result _ _ (λ made size.
    omega (arith, size, (range_as c.args.edit.now _ c.args.root.now.size c.in-Insert.is c.requires.range).1)) c.insert.ensures.size

pub returns-in-Append-clause-size : goal.returns-in-Append-clause-size
returns-in-Append-clause-size g c = IfOk-weaker c.append.result _ _ (λ made size.
    omega (arith, size, range_as c.args.edit.now _ c.args.root.now.size c.in-Append.is c.requires.range)) c.append.ensures.size

pub returns-in-Replace-clause-size : goal.returns-in-Replace-clause-size
returns-in-Replace-clause-size g c = IfOk-weaker c.replace.result _ _ (λ made size. omega (arith, size, c.requires.root.small)) c.replace.ensures.size

pub returns-in-Delete-clause-size : goal.returns-in-Delete-clause-size
returns-in-Delete-clause-size g c = IfOk-weaker c.delete.result _ _ (λ made size. omega (arith, size, c.requires.root.small)) c.delete.ensures.size

pub insert-requires-clause-pos : goal.insert-requires-clause-pos
insert-requires-clause-pos g c = (range_as c.args.edit.now _ c.args.root.now.size c.in-Insert.is c.requires.range).0

pub insert-requires-clause-limit : goal.insert-requires-clause-limit
insert-requires-clause-limit g c = (range_as c.args.edit.now _ c.args.root.now.size c.in-Insert.is c.requires.range).1

pub append-requires-clause-limit : goal.append-requires-clause-limit
append-requires-clause-limit g c = range_as c.args.edit.now _ c.args.root.now.size c.in-Append.is c.requires.range

pub replace-requires-clause-range : goal.replace-requires-clause-range
replace-requires-clause-range g c = range_as c.args.edit.now _ c.args.root.now.size c.in-Replace.is c.requires.range

pub delete-requires-clause-range : goal.delete-requires-clause-range
delete-requires-clause-range g c = range_as c.args.edit.now _ c.args.root.now.size c.in-Delete.is c.requires.range
