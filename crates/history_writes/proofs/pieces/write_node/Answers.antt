use Rattle.std.proofs.Common.{◌≡◌, ◌*◌, ℕ, length, subst, ◌∙◌, arith}
use Rattle.std.specs.Prelude.{IsTrue}
use Rattle.disk_model.specs.Calls.{Tears, Wrote}
use Rattle.trees.specs.Rows.{parts_of}
use Rattle.history_writes.specs.Places.{node_place, IsBehindCatalog}
use Rattle.history_writes.proofs.Placing.{node_made, placed_pairs, row_fits}
use Rattle.history_writes.proofs.Writing.{at_home, node_changes, node_written}
use Rattle.ex_base.specs.declared.faults.PortFault.TheVariants.{Disk, Memory}
use Rattle.ex_base.specs.Ports.{IsDamage}
use Rattle.ex_base.proofs.Handed.{not_given, cause_here}
use Rattle.ex_base.proofs.Results.{if_err_handed}
use Rattle.disk_model.specs.Changes.{changes_refl}
use Rattle.history_writes.proofs.pieces.write_node.Goals as goal

pub write_node-requires-clause-room : goal.write_node-requires-clause-room
write_node-requires-clause-room g c =
    let row : c.deref.result.now ≡ parts_of 0 (placed_pairs c.args.geometry.now c.args.node.now) = c.deref.ensures.value ∙ c.in_ok-place_children.ensures in
    let fits = row_fits c.args.geometry.now c.args.node.now c.deref.result.now c.requires.node row in
    omega (arith, fits.0, c.requires.page)

pub write_node-requires-clause-limit : goal.write_node-requires-clause-limit
write_node-requires-clause-limit g c =
    let row : c.deref.result.now ≡ parts_of 0 (placed_pairs c.args.geometry.now c.args.node.now) = c.deref.ensures.value ∙ c.in_ok-place_children.ensures in
    (row_fits c.args.geometry.now c.args.node.now c.deref.result.now c.requires.node row).1

pub returns-in_err-write-clause-changes : goal.returns-in_err-write-clause-changes
returns-in_err-write-clause-changes g c =
    let geo = c.args.geometry.now in
    let a = g.D.World.outside c.args.disk.now in
    let b = g.D.World.outside c.write.new.self in
    let n : ℕ = length c.write_node.new.out in
    let at : c.home.result ≡ node_place c.args.number * c.args.geometry.now.page_size = at_home c.home.result c.node_page.result.0 _ c.args.geometry.now.page_size c.home.ensures c.node_page.ensures in
    node_changes geo a b c.args.number (length c.write_node.new.out) c.write.ensures.only (subst (λ (k : ℕ). IsTrue a.honest → Tears k (length c.write_node.new.out) a b) at c.write.ensures.tears) c.requires.some c.requires.there
    (omega (arith, c.write_node.auto.out, c.requires.page))

pub returns-clause-changes : goal.returns-clause-changes
returns-clause-changes g c =
    let geo = c.args.geometry.now in
    let a = g.D.World.outside c.args.disk.now in
    let b = g.D.World.outside c.write.new.self in
    let at : c.home.result ≡ node_place c.args.number * c.args.geometry.now.page_size = at_home c.home.result c.node_page.result.0 _ c.args.geometry.now.page_size c.home.ensures c.node_page.ensures in
    node_changes geo a b c.args.number (length c.write_node.new.out) c.write.ensures.only (subst (λ (k : ℕ). IsTrue a.honest → Tears k (length c.write_node.new.out) a b) at c.write.ensures.tears) c.requires.some c.requires.there
    (omega (arith, c.write_node.auto.out, c.requires.page))

pub returns-clause-written : goal.returns-clause-written
returns-clause-written g c =
    let geo = c.args.geometry.now in
    let a = g.D.World.outside c.args.disk.now in
    let b = g.D.World.outside c.write.new.self in
    let at : c.home.result ≡ node_place c.args.number * c.args.geometry.now.page_size = at_home c.home.result c.node_page.result.0 _ c.args.geometry.now.page_size c.home.ensures c.node_page.ensures in
    let row : c.deref.result.now ≡ parts_of 0 (placed_pairs c.args.geometry.now c.args.node.now) = c.deref.ensures.value ∙ c.in_ok-place_children.ensures in
    let made = node_made geo c.args.node.now c.deref.result.now c.write_node.new.out (length c.args.page.now) c.level.result c.requires.node row c.level.ensures c.write_node.auto.out c.write_node.ensures.page in
    node_written geo a b c.args.number c.write_node.new.out c.args.node.now (g.D.World.is_world c.args.disk.now) c.requires.room (subst (λ (k : ℕ). Wrote k c.write_node.new.out a b) at c.in_ok-write.ensures.written) c.requires.there c.requires.node
    (omega (arith, c.write_node.auto.out, c.requires.page)) made

-- ---- what else is promised

pub returns-in_err-place_children-clause-written : goal.returns-in_err-place_children-clause-written
returns-in_err-place_children-clause-written g c = not_given c.from_residual.result _ Memory c.from_residual.ensures.1

pub returns-in_err-place_children-clause-changes : goal.returns-in_err-place_children-clause-changes
returns-in_err-place_children-clause-changes g c = changes_refl (IsBehindCatalog c.args.geometry.now) (g.D.World.outside c.args.disk.now)

pub returns-in_err-place_children-clause-page : goal.returns-in_err-place_children-clause-page
returns-in_err-place_children-clause-page g c = c.requires.page

pub returns-in_err-place_children-clause-no_damage : goal.returns-in_err-place_children-clause-no_damage
returns-in_err-place_children-clause-no_damage g c = if_err_handed c.from_residual.result (λ fault. IsDamage fault → ⊥) Memory c.from_residual.ensures.1 (λ is. is)

pub returns-in_err-place_children-clause-cause : goal.returns-in_err-place_children-clause-cause
returns-in_err-place_children-clause-cause g c = cause_here (g.D.World.outside c.args.disk.now).disk_faults (g.D.World.outside c.args.disk.now).disk_faults c.from_residual.result Memory c.from_residual.ensures.1 tt

pub returns-in_err-write-clause-written : goal.returns-in_err-write-clause-written
returns-in_err-write-clause-written g c = not_given c.from_residual-in_err-write.result _ Disk c.from_residual-in_err-write.ensures.1

pub returns-in_err-write-clause-page : goal.returns-in_err-write-clause-page
returns-in_err-write-clause-page g c = omega (arith, c.write_node.auto.out, c.requires.page)

pub returns-in_err-write-clause-no_damage : goal.returns-in_err-write-clause-no_damage
returns-in_err-write-clause-no_damage g c = if_err_handed c.from_residual-in_err-write.result (λ fault. IsDamage fault → ⊥) Disk c.from_residual-in_err-write.ensures.1 (λ is. is)

pub returns-in_err-write-clause-cause : goal.returns-in_err-write-clause-cause
returns-in_err-write-clause-cause g c = cause_here (g.D.World.outside c.args.disk.now).disk_faults (g.D.World.outside c.write.new.self).disk_faults c.from_residual-in_err-write.result Disk c.from_residual-in_err-write.ensures.1 c.in_err-write.ensures.cause

pub returns-clause-page : goal.returns-clause-page
returns-clause-page g c = omega (arith, c.write_node.auto.out, c.requires.page)

pub returns-clause-no_damage : goal.returns-clause-no_damage
returns-clause-no_damage g c = tt

pub returns-clause-cause : goal.returns-clause-cause
returns-clause-cause g c = tt
