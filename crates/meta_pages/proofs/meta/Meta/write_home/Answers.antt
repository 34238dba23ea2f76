use Rattle.disk_model.specs.Calls.{MakesCalls}
use Rattle.disk_model.specs.Runs.{calls_trans, at_most_trans, at_most_wider}
use Rattle.std.proofs.Common.{◌≡◌, ◌≤◌, ◌+◌, length, arith, ap, sym, subst, ◌∙◌, ℕ, List, Some, unwrap_or}
use Rattle.ex_base.specs.Sizes.{volume_bytes}
use Rattle.buffer_groups.specs.Frames.{page_of}
use Rattle.meta_pages.specs.Homes.{homes_written}
use Rattle.meta_pages.specs.Overlays.{Overlays, committed_image}
use Rattle.meta_pages.proofs.Writing.{homes_read}
use Rattle.meta_pages.proofs.meta.Meta.write_home.Goals as goal

pub returns-clause-homes : goal.returns-clause-homes
returns-clause-homes g c = λ d e was is.
    let inside = c.self.inside in
    let before = g.D.World.outside c.args.disk.now in
    let after = g.D.World.outside c.sync.new.self in
    let room = subst (λ (o : Overlays). volume_bytes o.geometry ≤ before.size) (sym c.self.view_is) c.requires.room in
    subst (λ (o : Overlays). (p : ℕ) → page_of e o.geometry.page_size p ≡ unwrap_or (committed_image o p) (page_of d o.geometry.page_size p)) c.self.view_is
    (homes_read before after inside.geometry inside.committed.items (g.D.World.is_world c.args.disk.now) c.self.invariant.rising c.self.invariant.pages room
    (λ f held. c.sync.ensures.only.disk ∙ c.in_ok-write_rows.ensures.written f held ∙ ap (λ (l : List (ℕ × List ℕ)). Some (homes_written inside.geometry.page_size l f)) c.deref.ensures.value)
    d e was is)

pub returns-in_err-write_rows-clause-at_most : goal.returns-in_err-write_rows-clause-at_most
returns-in_err-write_rows-clause-at_most g c =
    let rows : length c.deref.result.now ≡ length c.args.self.now.committed = ap length c.deref.ensures.value ∙ ap (λ (o : Overlays). length o.committed) c.self.view_is in
    at_most_wider (length c.args.self.now.committed + 1) (omega (arith, rows)) c.write_rows.ensures.at_most

pub returns-in_err-sync-clause-at_most : goal.returns-in_err-sync-clause-at_most
returns-in_err-sync-clause-at_most g c =
    let rows : length c.deref.result.now ≡ length c.args.self.now.committed = ap length c.deref.ensures.value ∙ ap (λ (o : Overlays). length o.committed) c.self.view_is in
    at_most_wider (length c.args.self.now.committed + 1) (omega (arith, rows)) (at_most_trans c.write_rows.ensures.at_most c.sync.ensures.at_most_once)

pub returns-clause-at_most : goal.returns-clause-at_most
returns-clause-at_most g c =
    let rows : length c.deref.result.now ≡ length c.args.self.now.committed = ap length c.deref.ensures.value ∙ ap (λ (o : Overlays). length o.committed) c.self.view_is in
    at_most_wider (length c.args.self.now.committed + 1) (omega (arith, rows)) (at_most_trans c.write_rows.ensures.at_most c.sync.ensures.at_most_once)

pub returns-clause-calls : goal.returns-clause-calls
returns-clause-calls g c =
    let before = g.D.World.outside c.args.disk.now in
    let after = g.D.World.outside c.sync.new.self in
    let rows : length c.deref.result.now + 1 ≡ length c.args.self.now.committed + 1 =
    ap (λ (l : List (ℕ × List ℕ)). length l + 1) c.deref.ensures.value ∙ ap (λ (o : Overlays). length o.committed + 1) c.self.view_is in
    subst (λ (n : ℕ). MakesCalls n before after) rows (calls_trans c.in_ok-write_rows.ensures.calls c.in_ok-sync.ensures.once)
