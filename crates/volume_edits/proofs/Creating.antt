-- A version that is created makes a volume whose table has a new object in its file.
use Rattle.std.proofs.Common.{◌<◌, ◌≤◌, arith, inr, ◌≡◌, ℕ, List, [], ◌∷◌, ◌++◌, Some, None, refl, sym, ap, subst, ◌∙◌, inl}
use Rattle.std.specs.Prelude.{Contains, map}
use Rattle.ex_base.specs.Order.{AllDiffer}
use Rattle.ex_base.specs.declared.ground.Ground as ground
use Rattle.ex_base.specs.declared.names.Oid.{Oid}
use Rattle.ex_base.specs.declared.names.Place.{Place}
use Rattle.ex_base.proofs.Members.{In, in_contains}
use Rattle.version_lists.specs.declared.version.Version.{Version}
use Rattle.version_lists.specs.Sorted.{in_order}
use Rattle.version_lists.specs.Versions.{unique_of as number_of}
use Rattle.version_lists.specs.Changes.{created_in}
use Rattle.version_lists.proofs.Changes.{created_linked}
use Rattle.version_lists.proofs.Lists.{Rises}
use Rattle.table_model.specs.Tables.{with_object}
use Rattle.ex_base.specs.declared.names.Index.{Index}
use Rattle.file_index.specs.Taking.{OnlyTakes}
use Rattle.object_files.specs.Catalog.{FileEntry, name_of, number_of as entry_number}
use Rattle.file_bodies.specs.Bodies.{bodies_of}
use Rattle.file_bodies.specs.Files.{HasFile}
use Rattle.file_bodies.proofs.Ordered.{ordered}
use Rattle.trees.specs.Trees.{Units}
use Rattle.op_log.specs.declared.record.LogRecord.{LogRecord}
use Rattle.volume_model.specs.Links.{AreLinked, HasObjects, HaveOlders, PlacesDiffer}
use Rattle.volume_model.specs.Volume.{Stored, Volume, stored_in, table_of, unique_of, versions_stored}
use Rattle.versions.specs.Versions.{PutsVersion, AreInUse, new_record, place_of}
use Rattle.version_tree.specs.Bodies.{PlaceChange}
use Rattle.version_tree.proofs.BodiesEdited.{edit_puts}
use Rattle.version_tree.proofs.Places.{was_vacant}
use Rattle.volume_edits.specs.Ported.{IsVolume, IsApart, units_in}
use Rattle.volume_edits.specs.Edits.{MovesVolume}
use Rattle.volume_edits.proofs.OneFile.{FileTurn, FileUpdate, IsNew, all_apart, bytes_same, moves_volume, records_edit, roots_more, the_edit, trees_same, updated_file}
use Rattle.volume_edits.proofs.Whole.{Made, creates_whole}
use Rattle.volume_edits.proofs.Lists.{key_differs, out_rest}
use Rattle.volume_edits.proofs.RecordUpdates.{CreatesRecord, IsAbove, stored_as}
use Rattle.volume_edits.proofs.RowLinks.{row_vacant}
use Rattle.volume_edits.proofs.NewRecords.{is_created, keeps_links, keeps_objects, newer, older, turn}
use Rattle.volume_edits.proofs.Holes.{catalog_with, entry_with, Hole, filled, stored_filled, stored_first, stored_last}
use Rattle.volume_edits.proofs.Placed.{records_of}
use Rattle.volume_edits.proofs.FileBefore.{own_links, own_numbers, own_olders, whole_objects, whole_olders, whole_places}
use Rattle.volume_edits.proofs.Tabled.{own_linked, table_added}
use Rattle.volume_edits.proofs.TurnCounts.{named_root}
use Rattle.volume_edits.proofs.Turned.{all_held, roots_turned, turned_away}
use Rattle.volume_edits.proofs.Edited.{Edit}
use Rattle.volume_edits.proofs.Named.{one_new, own_above, versions_above}

-- an entry is known by its number
same_entry : (e : FileEntry) (h : Hole) (index : Index) → AllDiffer (map entry_number (catalog_with h index).entries) → In e (catalog_with h index).entries → e.file_no ≡ h.file_no → e ≡ entry_with h index
same_entry e h index differ inside number = elim (out_rest e (entry_with h index) h.entries_before h.entries_behind inside) [
  | inl same ↦ same
  | inr k ↦ absurd (key_differs entry_number e (entry_with h index) h.entries_before h.entries_behind differ k number)
]

module _ {S : Type 0} (g : ground.Ghosts S) (old new : S) (index : Index) (oid : Oid) (creates : PutsVersion g old new index oid) where
  abbrev place : Place
  place = place_of oid

  abbrev after : Index
  after = creates.puts.after

  abbrev changes : List PlaceChange
  changes = (place, Some creates.body) ∷ []

  abbrev was : List Stored
  was = records_of (g.image old) index

  abbrev later : List Stored
  later = records_of (g.image new) after

  module _ (records : List LogRecord) (takes : OnlyTakes g old new) (h : Hole) (update : FileUpdate g old new records h index after changes)
      (new_number : IsNew (filled h (g.image old) index (records_of (g.image old) index)) oid.unique) where
    abbrev v : Volume
    v = filled h (g.image old) index was

    abbrev U : Units
    U = units_in g old

    abbrev U' : Units
    U' = units_in g new

    created : CreatesRecord was later oid
    created = record {
      vacant = row_vacant (bodies_of (g.image old) index) place (was_vacant (bodies_of (g.image old) index) (bodies_of (g.image new) after) place creates.body (ordered g new after creates.puts.edit.file) creates.puts.edit.bodies);
      body = creates.body;
      spelled = creates.spelled;
      edit = records_edit g old new records h index after changes update;
    }

    olders : HaveOlders was
    olders = own_olders g old records h index was update.vol.shows

    above : IsAbove oid.unique was
    above = own_above h (g.image old) index was oid.unique new_number.above

    linked : AreLinked later
    linked = keeps_links was later oid created (own_links g old records h index was update.vol.shows)

    -- the new record
    abbrev made : Stored
    made = stored_as place (new_record oid.unique)

    turns : FileTurn g old new h index after None (made ∷ [])
    turns = record {
      linked = linked;
      older = older;
      newer = newer;
      turn = turn was later oid created;
      made_new = one_new made (λ (t : Stored). IsNew v (unique_of t)) new_number;
      made_roots = λ root k. absurd k;
    }

    objects : HasObjects U' (stored_in (filled h (g.image new) after later))
    objects =
        let places = whole_places g old records h index was update.vol.shows in
        let places_later = subst PlacesDiffer (stored_filled h (g.image new) after later) (all_apart g old new records h index after changes update None (made ∷ []) turns) in
        let there : Made later place = record { t = made; there = turns.turn.put made (inl refl); place_is = refl } in
        subst (HasObjects U') (sym (stored_filled h (g.image new) after later))
        (keeps_objects (stored_first h ++ (was ++ stored_last h)) (stored_first h ++ (later ++ stored_last h)) oid (creates_whole (stored_first h) was later (stored_last h) places places_later oid created there) U U' (whole_olders g old records h index was update.vol.shows) (whole_objects g old records h index was update.vol.shows) (trees_same g old new records h index after changes update linked))

    abbrev vs : List Version
    vs = versions_stored U was

    versions : versions_stored U' later ≡ in_order number_of (created_in oid vs)
    versions = is_created was later oid created U U' olders (own_numbers g old records h index was update.vol.shows) above (bytes_same g old new records h index after changes update linked)

    abbrev edit : Edit g old new h index after later
    edit = the_edit g old new records h index after changes update linked

    rises : Rises number_of (created_in oid vs)
    rises = (created_linked oid vs (own_linked g old new records h index after was later update.vol edit) (versions_above U was oid.unique above)).0

    -- no root comes or goes
    same_roots : (p : ℕ) → named_root p (stored_in (filled h (g.image new) after later)) ≡ named_root p (stored_in v)
    same_roots p =
        let r = roots_turned h (g.image old) (g.image new) index after was later None None (λ q. (let more = roots_more g old new records h index after changes update None (made ∷ []) turns refl ((λ y m. absurd m), tt) q in omega (arith, more))) p in
        omega (arith, r)

    pub created_volume : MovesVolume g old new records v None None (with_object oid h.name (table_of U v))
    created_volume = moves_volume g old new records h index after changes update None (made ∷ []) turns None None (with_object oid h.name (table_of U v)) objects
        (table_added g old new records h index after was later update.vol edit oid versions rises)
        (turned_away g old new v (filled h (g.image new) after later) None (λ p. (let same = same_roots p in omega (arith, same))) tt (all_held g old new takes) update.bodies.pages.refs)

-- what is known of the volume in which its file has a place
record Given {S : Type 0} (g : ground.Ghosts S) (old : S) (records : List LogRecord) (e : FileEntry) (n : ℕ) (w : Volume) : Type 0 where
  volume : IsVolume g old records w
  there : In e w.catalog.entries
  new_number : IsNew w n

pub creates_object : {S : Type 0} (g : ground.Ghosts S) (old new : S) (records : List LogRecord) (v : Volume) → IsVolume g old records v → (index : Index) (oid : Oid) (e : FileEntry) → g.geometry new ≡ g.geometry old → IsApart g new → AreInUse g new → OnlyTakes g old new → HasFile g old index → Contains v.catalog.entries e → e.file_no ≡ index.file_no
    → 1 ≤ oid.unique → oid.unique < v.catalog.next_unique → IsAbove oid.unique (stored_in v) → PutsVersion g old new index oid
    → MovesVolume g old new records v None None (with_object oid e.name (table_of (units_in g old) v))
creates_object g old new records v vol index oid e geometry apart in_use takes file entry its some below above creates =
    let after = creates.puts.after in
    let was = records_of (g.image old) index in
    let bodies = edit_puts g old new index after (place_of oid) None creates.body creates.puts.edit in
    let u = updated_file g old new records v index after (changes g old new index oid creates) vol file geometry apart in_use bodies ((_, creates.spelled), tt) in
    let new_number : IsNew v oid.unique = record { some = some; below = below; above = above } in
    let given : Given g old records e oid.unique (filled u.hole (g.image old) index was) = subst (Given g old records e oid.unique) u.same (record { volume = vol; there = in_contains e v.catalog.entries entry; new_number = new_number }) in
    let name : u.hole.name ≡ e.name = ap name_of (sym (same_entry e u.hole index given.volume.shows.parts.0.0.fits.numbers given.there (its ∙ u.update.number))) in
    subst (λ (w : Volume). MovesVolume g old new records w None None (with_object oid e.name (table_of (units_in g old) w))) (sym u.same)
    (subst (λ (n : List ℕ). MovesVolume g old new records (filled u.hole (g.image old) index was) None None (with_object oid n (table_of (units_in g old) (filled u.hole (g.image old) index was)))) name
    (created_volume g old new index oid creates records takes u.hole u.update given.new_number))
