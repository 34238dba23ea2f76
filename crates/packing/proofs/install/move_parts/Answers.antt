use Rattle.std.proofs.Common.{◌≡◌, ◌∙◌, ℕ, List, ap, length, refl, rules}
use Rattle.std.specs.Result.{IfOk}
use Rattle.std.proofs.lemmas.Result.{IfErr-weaker, IfOk-weaker}
use Rattle.ex_base.proofs.Results.{if_ok_both}
use Rattle.meta_pages.specs.Overlays.{Overlays}
use Rattle.tree_store.specs.declared.store.Store.{Store}
use Rattle.compact.specs.Moves.{copies_of}
use Rattle.tree_store.specs.Stored.{NoUnit}
use Rattle.volume_model.specs.Volume.{Decoded}
use Rattle.volume_port.specs.State.{AreReady, IsAtRest, Moved}
use Rattle.volume_port.specs.declared.state.VolumeState.{VolumeState}
use Rattle.packing.specs.Resting.{HasOwnCopies, HasRoomFor}
use Rattle.packing.specs.Working.{HasParts, MovesWorking, with_parts}
use Rattle.packing.proofs.FoundVersions.{never_damaged, works_after}
use Rattle.packing.proofs.PortMoves.{all_are, all_later, fits_made, pairs_named, parts_same, port_moved, port_over, ready_made, ready_of, same_as, told_made, volume_moved}
use Rattle.packing.proofs.install.move_parts.Given as given
use Rattle.packing.proofs.install.move_parts.Goals as goal

pub find_and_move-requires : goal.find_and_move-requires
find_and_move-requires g c =
    let v = c.requires.ready.0 in
    let has = c.requires.ready.1.0 in
    let ready = c.requires.ready.1.1 in
    let outside = g.D.World.outside in
    let a = c.make-port.result in
    let geometry : a.store.geometry ≡ v.geometry = ap (λ (s : Store g.row.D.Denot). s.geometry) c.make-port.ensures.store ∙ c.make.ensures.geometry ∙ has.geometry in
    let units : a.store.units.now ≡ v.units = ap (λ (s : Store g.row.D.Denot). s.units.now) c.make-port.ensures.store ∙ c.make.ensures.units_is ∙ has.units in
    let groups : a.store.groups.now ≡ v.groups = ap (λ (s : Store g.row.D.Denot). s.groups.now) c.make-port.ensures.store ∙ c.make.ensures.groups_is ∙ has.groups in
    let meta : a.meta.now ≡ v.meta = c.make-port.ensures.meta_is ∙ has.meta in
    let pages : a.pages.now ≡ v.pages = c.make-port.ensures.pages_is ∙ has.pages in
    let disk : a.store.disk.now ≡ c.args.disk.now = ap (λ (s : Store g.row.D.Denot). s.disk.now) c.make-port.ensures.store ∙ c.make.ensures.disk_is in
    let main : a.store.index ≡ 0 = ap (λ (s : Store g.row.D.Denot). s.index) c.make-port.ensures.store ∙ c.make.ensures.index in
    record {
      ready = ready_of _ a.store (outside a.store.disk.now).size (with_parts v a.store.units.now a.store.groups.now a.meta.now a.pages.now) geometry refl
          (fits_made outside v c.args.disk.now ready a.store.disk.now a.store.index a.store.geometry a.store.units.now a.store.groups.now a.meta.now a.pages.now disk main geometry units groups meta pages)
          (ready_made outside v c.args.disk.now ready a.store.disk.now a.store.index a.store.geometry a.store.units.now a.store.groups.now a.meta.now a.pages.now disk main geometry units groups meta pages);
    }

pub returns-clause-moved : goal.returns-clause-moved
returns-clause-moved g c = λ v has ready.
    let outside = g.D.World.outside in
    let a = c.make-port.result in
    let geometry : a.store.geometry ≡ v.geometry = ap (λ (s : Store g.row.D.Denot). s.geometry) c.make-port.ensures.store ∙ c.make.ensures.geometry ∙ has.geometry in
    let units : a.store.units.now ≡ v.units = ap (λ (s : Store g.row.D.Denot). s.units.now) c.make-port.ensures.store ∙ c.make.ensures.units_is ∙ has.units in
    let groups : a.store.groups.now ≡ v.groups = ap (λ (s : Store g.row.D.Denot). s.groups.now) c.make-port.ensures.store ∙ c.make.ensures.groups_is ∙ has.groups in
    let meta : a.meta.now ≡ v.meta = c.make-port.ensures.meta_is ∙ has.meta in
    let pages : a.pages.now ≡ v.pages = c.make-port.ensures.pages_is ∙ has.pages in
    let disk : a.store.disk.now ≡ c.args.disk.now = ap (λ (s : Store g.row.D.Denot). s.disk.now) c.make-port.ensures.store ∙ c.make.ensures.disk_is in
    let main : a.store.index ≡ 0 = ap (λ (s : Store g.row.D.Denot). s.index) c.make-port.ensures.store ∙ c.make.ensures.index in
    let b = c.find_and_move.new.volume in
    let leads = c.find_and_move.ensures.leads in
    port_moved outside v c.args.disk.now ready a.store.disk.now a.store.index a.store.geometry a.store.units.now a.store.groups.now a.meta.now a.pages.now disk main geometry units groups meta pages
    _ _ b.store.disk.now b.store.units.now b.store.groups.now b.meta.now b.pages.now (search rules fits 500)
    (parts_same v b.store.units.now _ b.store.groups.now _ b.meta.now _ b.pages.now _ (search rules fits 500) (search rules fits 500) (search rules fits 500) (search rules fits 500))
    (volume_moved _ outside v a.store b.store a.store.disk b.store.disk a.store.units b.store.units a.store.groups b.store.groups a.store.index b.store.index a.store.geometry b.store.geometry a.meta b.meta a.pages b.pages a.room b.room
    main refl refl refl refl geometry
    (fits_made outside v c.args.disk.now ready a.store.disk.now a.store.index a.store.geometry a.store.units.now a.store.groups.now a.meta.now a.pages.now disk main geometry units groups meta pages)
    (ready_made outside v c.args.disk.now ready a.store.disk.now a.store.index a.store.geometry a.store.units.now a.store.groups.now a.meta.now a.pages.now disk main geometry units groups meta pages)
    leads leads.store)

pub returns-clause-still : goal.returns-clause-still
returns-clause-still g c =
    let meta : c.make-port.result.meta.now ≡ c.args.meta.now = c.make-port.ensures.meta_is in
    IfOk-weaker c.find_and_move.result _ _ (λ made still same. same_as _ (length c.find_and_move.new.volume.meta.now.working) _ (search rules fits 200) (still same ∙ ap (λ (m : Overlays). length m.working) meta)) c.find_and_move.ensures.still

-- what was found and moved, where the parts of the port are those of a volume afterwards
works_with : (g : given.Over) (c : goal.After-room-1 g) (v : VolumeState) → HasParts v c.args.geometry.now c.args.units.now c.args.groups.now c.args.meta.now c.args.pages.now → AreReady (g.D.World.outside c.args.disk.now).size v
    → (after : g.row.D.Denot) (new : VolumeState) → c.find_and_move.new.volume.store.disk.now ≡ after
    → with_parts v c.find_and_move.new.volume.store.units.now c.find_and_move.new.volume.store.groups.now c.find_and_move.new.volume.meta.now c.find_and_move.new.volume.pages.now ≡ new
    → Moved NoUnit (g.D.World.outside c.args.disk.now) (g.D.World.outside after) v new → IfOk c.find_and_move.result (λ made. made ≡ c.args.version.now.root → length new.meta.working ≡ length c.args.meta.now.working)
    → IfOk c.find_and_move.result (λ made. (d : Decoded) (image : List ℕ) → IsAtRest (g.D.World.outside c.args.disk.now) v d image → HasOwnCopies v d image c.args.dense (copies_of c.args.moves.now) c.args.version.now
    → HasRoomFor v d image c.args.dense (copies_of c.args.moves.now) c.args.version.now.root
    → MovesWorking (g.D.World.outside c.args.disk.now) (g.D.World.outside after) v new d image c.args.dense (copies_of c.args.moves.now) (copies_of c.find_and_move.new.moves) c.args.version.now made)
works_with g c v has ready after new ends left moved stays =
    let outside = g.D.World.outside in
    let a = c.make-port.result in
    let geometry : a.store.geometry ≡ v.geometry = ap (λ (s : Store g.row.D.Denot). s.geometry) c.make-port.ensures.store ∙ c.make.ensures.geometry ∙ has.geometry in
    let units : a.store.units.now ≡ v.units = ap (λ (s : Store g.row.D.Denot). s.units.now) c.make-port.ensures.store ∙ c.make.ensures.units_is ∙ has.units in
    let groups : a.store.groups.now ≡ v.groups = ap (λ (s : Store g.row.D.Denot). s.groups.now) c.make-port.ensures.store ∙ c.make.ensures.groups_is ∙ has.groups in
    let meta : a.meta.now ≡ v.meta = c.make-port.ensures.meta_is ∙ has.meta in
    let pages : a.pages.now ≡ v.pages = c.make-port.ensures.pages_is ∙ has.pages in
    let disk : a.store.disk.now ≡ c.args.disk.now = ap (λ (s : Store g.row.D.Denot). s.disk.now) c.make-port.ensures.store ∙ c.make.ensures.disk_is in
    let main : a.store.index ≡ 0 = ap (λ (s : Store g.row.D.Denot). s.index) c.make-port.ensures.store ∙ c.make.ensures.index in
    let b = c.find_and_move.new.volume in
    if_ok_both c.find_and_move.result _ _ _ (λ made finds still d image rests own room.
    works_after _ a (outside c.args.disk.now) v
    (port_over _ a outside a.store.disk.now c.args.disk.now v v a.store.geometry a.store.units.now a.store.groups.now a.meta.now a.pages.now disk
    (all_are v a.store.geometry a.store.units.now a.store.groups.now a.meta.now a.pages.now geometry units groups meta pages)
    (record { port = record { geometry = refl; unit = refl; image = refl; held = refl }; used = refl; refs = refl; free = refl }))
    (told_made outside a.store.disk.now c.args.disk.now a.store.groups.now v.groups disk groups)
    d image rests c.args.dense (copies_of c.args.moves.now) c.args.version.now own room b (outside after) new (copies_of c.find_and_move.new.moves) made pairs_named
    (port_over _ b outside b.store.disk.now after v new b.store.geometry b.store.units.now b.store.groups.now b.meta.now b.pages.now ends
    (all_later v new b.store.geometry b.store.units.now b.store.groups.now b.meta.now b.pages.now (c.find_and_move.ensures.leads.store.geometry ∙ geometry)
    left)
    (record { port = record { geometry = refl; unit = refl; image = refl; held = refl }; used = refl; refs = refl; free = refl }))
    moved finds (λ same. still same ∙ ap (λ (m : Overlays). length m.working) has.meta)) c.find_and_move.ensures.found stays

pub returns-clause-works : goal.returns-clause-works
returns-clause-works g c = λ v has ready.
    let b = c.find_and_move.new.volume in
    works_with g c v has ready _ _ (search rules fits 500)
    (parts_same v b.store.units.now _ b.store.groups.now _ b.meta.now _ b.pages.now _ (search rules fits 500) (search rules fits 500) (search rules fits 500) (search rules fits 500))
    (returns-clause-moved g c v has ready) (returns-clause-still g c)

pub returns-clause-sound : goal.returns-clause-sound
returns-clause-sound g c = λ v has ready.
    let outside = g.D.World.outside in
    let a = c.make-port.result in
    let geometry : a.store.geometry ≡ v.geometry = ap (λ (s : Store g.row.D.Denot). s.geometry) c.make-port.ensures.store ∙ c.make.ensures.geometry ∙ has.geometry in
    let units : a.store.units.now ≡ v.units = ap (λ (s : Store g.row.D.Denot). s.units.now) c.make-port.ensures.store ∙ c.make.ensures.units_is ∙ has.units in
    let groups : a.store.groups.now ≡ v.groups = ap (λ (s : Store g.row.D.Denot). s.groups.now) c.make-port.ensures.store ∙ c.make.ensures.groups_is ∙ has.groups in
    let meta : a.meta.now ≡ v.meta = c.make-port.ensures.meta_is ∙ has.meta in
    let pages : a.pages.now ≡ v.pages = c.make-port.ensures.pages_is ∙ has.pages in
    let disk : a.store.disk.now ≡ c.args.disk.now = ap (λ (s : Store g.row.D.Denot). s.disk.now) c.make-port.ensures.store ∙ c.make.ensures.disk_is in
    let main : a.store.index ≡ 0 = ap (λ (s : Store g.row.D.Denot). s.index) c.make-port.ensures.store ∙ c.make.ensures.index in
    IfErr-weaker c.find_and_move.result _ _ (λ fault finds damage d image rests own room.
    never_damaged _ a (outside c.args.disk.now) v
    (port_over _ a outside a.store.disk.now c.args.disk.now v v a.store.geometry a.store.units.now a.store.groups.now a.meta.now a.pages.now disk
    (all_are v a.store.geometry a.store.units.now a.store.groups.now a.meta.now a.pages.now geometry units groups meta pages)
    (record { port = record { geometry = refl; unit = refl; image = refl; held = refl }; used = refl; refs = refl; free = refl }))
    (told_made outside a.store.disk.now c.args.disk.now a.store.groups.now v.groups disk groups)
    d image rests c.args.dense (copies_of c.args.moves.now) c.args.version.now own room (finds damage)) c.find_and_move.ensures.sound
