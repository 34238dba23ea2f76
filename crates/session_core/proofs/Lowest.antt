-- A new object comes onto the lowest page with room, though its number is counted before.
use Rattle.std.proofs.Common.{◌≡◌, ◌≤◌, ◌++◌, ℕ, Bool, List, [], length, sym, ap, subst, ◌∙◌, arith, inl, inr}
use Rattle.std.specs.Prelude.{Contains}
use Rattle.std.specs.List.{AllByRecursion}
use Rattle.ex_base.specs.declared.ground.Ground as ground
use Rattle.ex_base.specs.declared.geometry.Geometry.{Geometry}
use Rattle.ex_base.specs.declared.names.Index.{Index}
use Rattle.ex_base.specs.declared.names.Oid.{Oid}
use Rattle.ex_base.specs.Area.{catalog_no}
use Rattle.ex_base.specs.Ports.{times}
use Rattle.ex_base.proofs.Counts.{contains_times}
use Rattle.file_bodies.proofs.Rows.{each_at, each_of}
use Rattle.file_index.specs.Index.{IsIndex, pages_of}
use Rattle.object_files.specs.Catalog.{Catalog, CatalogOf}
use Rattle.object_files.specs.Reads.{catalog_on}
use Rattle.object_files.proofs.CatalogLaws.{catalog_read}
use Rattle.slotted_pages.specs.Edits.{slots_of, place_for}
use Rattle.file_bodies.specs.declared.placing.Room.{Room}
use Rattle.file_bodies.specs.Bodies.{pages_in}
use Rattle.file_bodies.specs.Files.{HasFile, IsPageOf, all_pages, index_in}
use Rattle.file_bodies.specs.Places.{IsChosen, IsRoom, slot_for}
use Rattle.file_bodies.proofs.Moving.{Moved, moved, keys_apart, index_apart}
use Rattle.file_rooms.specs.Rooms.{Remembered, IsLookedFrom, new_len}
use Rattle.file_rooms.specs.Truth.{AreTrue}
use Rattle.file_rooms.proofs.StaysTrue.{true_room}
use Rattle.versions.specs.Versions.{CreatesVersion, lone_head, place_of}
use Rattle.versions.proofs.Puts.{body_long}
use Rattle.volume_edits.specs.Edits.{WritesCatalog, catalog_numbered}

module _ {S : Type 0} (g : ground.Ghosts S) (old mid : S) (next : ℕ) (told : g.tells old) (writes : WritesCatalog g old mid (catalog_numbered next (catalog_on (g.image old catalog_no)))) where
  pub spelled_after : CatalogOf (g.image mid catalog_no) (catalog_numbered next (catalog_on (g.image old catalog_no)))
  spelled_after = subst (λ (bytes : List ℕ). CatalogOf bytes (catalog_numbered next (catalog_on (g.image old catalog_no)))) (sym (writes.puts.image told)) writes.spelled

  pub catalog_after : catalog_on (g.image mid catalog_no) ≡ catalog_numbered next (catalog_on (g.image old catalog_no))
  catalog_after = catalog_read (g.image mid catalog_no) (catalog_numbered next (catalog_on (g.image old catalog_no))) spelled_after

module _ {S : Type 0} (g : ground.Ghosts S) (old mid : S) (index : Index) (next : ℕ) (told : g.tells old) (file : HasFile g old index)
    (writes : WritesCatalog g old mid (catalog_numbered next (catalog_on (g.image old catalog_no)))) where
  -- the file's pages stay
  stays : Moved (g.geometry old) index.file_no (g.image old) (g.image mid) index.level index.root
  stays = moved (g.geometry old) index.file_no (g.image old) (g.image mid) index.level index.root
      (λ p c. writes.puts.images p (λ same. absurd (omega (arith, index_apart g old index file.whole, subst (λ (n : ℕ). 1 ≤ times n (pages_of (g.image old) index.level index.root)) same c))))

  same_page : (page : ℕ) → Contains (pages_in (g.image old) index) page → g.image mid page ≡ g.image old page
  same_page page named = writes.puts.images page (λ same. absurd (omega (arith, keys_apart g old index file, contains_times catalog_no (pages_in (g.image old) index) (subst (Contains (pages_in (g.image old) index)) same named))))

  pub same_slot : (page len : ℕ) → Contains (pages_in (g.image old) index) page → slot_for g mid page len ≡ slot_for g old page len
  same_slot page len named = ap (λ (y : Geometry). place_for y.page_size (slots_of (g.image mid page)) len) writes.geometry ∙ ap (λ (t : List ℕ). place_for (g.geometry old).page_size (slots_of t) len) (same_page page named)

  pub was_named : (page : ℕ) → Contains (pages_in (g.image mid) index) page → Contains (pages_in (g.image old) index) page
  was_named page = subst (λ (ps : List ℕ). Contains ps page) stays.keys

  is_named : (page : ℕ) → Contains (pages_in (g.image old) index) page → Contains (pages_in (g.image mid) index) page
  is_named page = subst (λ (ps : List ℕ). Contains ps page) (sym stays.keys)

  room_still : (room : Room) → IsRoom g old index room → IsRoom g mid index room
  room_still room is page named low high = same_slot page room.len (was_named page named) ∙ is page (was_named page named) low high

  chosen_before : (len : ℕ) (oid : Oid) → IsChosen g mid index len (place_of oid) → IsChosen g old index len (place_of oid)
  chosen_before len oid (inl low) = inl (record {
    named = was_named oid.page.0 low.named;
    slot = sym (same_slot oid.page.0 len (was_named oid.page.0 low.named)) ∙ low.slot;
    lowest = λ page named from below. sym (same_slot page len named) ∙ low.lowest page (is_named page named) from below;
  })
  chosen_before len oid (inr fresh) = inr (record {
    none = λ page named. sym (same_slot page len named) ∙ fresh.none page (is_named page named);
    taken = ap (λ (f : ℕ → Bool). f oid.page.0) (sym writes.puts.held) ∙ fresh.taken;
    slot = fresh.slot;
  })

  pub all_still : all_pages (g.image mid) index ≡ all_pages (g.image old) index
  all_still = ap (λ (t : List ℕ). t ++ pages_of (g.image mid) index.level index.root) stays.keys ∙ ap (λ (t : List ℕ). pages_in (g.image old) index ++ t) stays.pages

  pub still_whole : HasFile g mid index
  still_whole = record {
    catalog = record {
      whole = subst (CatalogOf (g.image mid catalog_no)) (sym (catalog_after g old mid next told writes)) (spelled_after g old mid next told writes);
      held = ap (λ (f : ℕ → Bool). f catalog_no) writes.puts.held ∙ file.catalog.held;
    };
    entry = ap (λ (c : Catalog). index_in index.file_no c.entries) (catalog_after g old mid next told writes) ∙ file.entry;
    whole = subst (λ (y : Geometry). IsIndex y (g.image mid) index.file_no index.level index.root) (sym writes.geometry) (stays.whole file.whole);
    pages = subst (AllByRecursion (λ q. IsPageOf index.file_no (g.image mid q))) (sym stays.keys)
        (each_of (λ q. IsPageOf index.file_no (g.image mid q)) (pages_in (g.image old) index)
        (λ q c. subst (IsPageOf index.file_no) (sym (writes.puts.images q (λ same. absurd (omega (arith, keys_apart g old index file, subst (λ (n : ℕ). 1 ≤ times n (pages_in (g.image old) index)) same c)))))
        (each_at (λ q. IsPageOf index.file_no (g.image old q)) (pages_in (g.image old) index) q file.pages c)));
    once = λ q. rw (all_still, writes.puts.held) (file.once q);
  }

  pub put_lowest : (new : S) (known : Remembered) (asked : Room) (oid : Oid) → AreTrue g old known → IsLookedFrom known index.file_no asked
      → (HasFile g mid index → IsRoom g mid index asked → CreatesVersion g mid new index oid) → IsChosen g old index new_len (place_of oid)
  put_lowest new known asked oid are looked creates =
      let made = creates still_whole (room_still asked (true_room g old index known asked file are looked)) in
      let long : length made.body ≡ new_len = body_long made.body (lone_head oid.unique) [] made.spelled in
      chosen_before new_len oid (subst (λ (n : ℕ). IsChosen g mid index n (place_of oid)) long made.places.chosen)
