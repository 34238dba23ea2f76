use Rattle.std.proofs.Common.{◌≡◌, ◌*◌, ℕ, length, subst}
use Rattle.std.specs.Prelude.{IsTrue}
use Rattle.disk_model.specs.Calls.{Tears, Wrote}
use Rattle.ex_base.proofs.Results.{on_ok_from, from_ok}
use Rattle.history_writes.specs.Places.{leaf_place}
use Rattle.history_writes.proofs.Writing.{at_home, leaf_changes, leaf_written}
use Rattle.history_writes.proofs.pieces.write_leaf.Goals as goal

pub returns-clause-written : goal.returns-clause-written
returns-clause-written g c =
    let geo = c.args.geometry.now in
    let a = g.D.World.outside c.args.disk.now in
    let b = g.D.World.outside c.write.new.self in
    let at : c.home.result ≡ leaf_place c.args.geometry.now c.args.number * c.args.geometry.now.page_size = at_home c.home.result c.leaf_page.result.0 _ c.args.geometry.now.page_size c.home.ensures c.leaf_page.ensures in
    on_ok_from c.write.result _ (λ x is. leaf_written geo a b c.args.number c.args.leaf.now (g.D.World.is_world c.args.disk.now) c.requires.room (subst (λ (n : ℕ). Wrote n c.args.leaf.now a b) at (from_ok c.write.result x _ is c.write.ensures.written)) c.requires.there c.requires.leaf)

pub returns-clause-changes : goal.returns-clause-changes
returns-clause-changes g c =
    let geo = c.args.geometry.now in
    let a = g.D.World.outside c.args.disk.now in
    let b = g.D.World.outside c.write.new.self in
    let at : c.home.result ≡ leaf_place c.args.geometry.now c.args.number * c.args.geometry.now.page_size = at_home c.home.result c.leaf_page.result.0 _ c.args.geometry.now.page_size c.home.ensures c.leaf_page.ensures in
    leaf_changes geo a b c.args.number (length c.args.leaf.now) c.write.ensures.only (subst (λ (n : ℕ). IsTrue a.honest → Tears n (length c.args.leaf.now) a b) at c.write.ensures.tears) c.requires.some c.requires.there c.requires.leaf.1
