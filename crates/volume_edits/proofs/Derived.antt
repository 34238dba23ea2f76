-- A current copy of a frozen version makes a volume whose table has it derived from that version.
use Rattle.std.proofs.Common.{◌<◌, ◌≤◌, ◌≡◌, ℕ, ◌+◌, true, List, [], ◌∷◌, ◌++◌, Some, None, refl, sym, ap, subst, ◌∙◌, inl}
use Rattle.std.specs.List.{AllByRecursion}
use Rattle.ex_base.specs.declared.ground.Ground as ground
use Rattle.ex_base.specs.declared.names.Oid.{Oid}
use Rattle.ex_base.specs.declared.names.Place.{Place}
use Rattle.ex_base.specs.declared.names.Root.{Root}
use Rattle.ex_base.specs.Ports.{times}
use Rattle.ex_base.proofs.Rows.{each-append}
use Rattle.version_lists.specs.declared.version.Version.{Version}
use Rattle.version_lists.specs.Versions.{unique_of as number_of}
use Rattle.version_lists.specs.Sorted.{in_order}
use Rattle.version_lists.specs.Changes.{derived_in}
use Rattle.version_lists.proofs.Changes.{derived_absent, derived_linked}
use Rattle.version_lists.proofs.Lists.{Rises}
use Rattle.table_model.specs.Tables.{with_derived}
use Rattle.object_records.specs.Record.{Record}
use Rattle.object_records.specs.declared.State.TheVariants.{Frozen}
use Rattle.ex_base.specs.declared.names.Index.{Index}
use Rattle.file_index.specs.Taking.{OnlyTakes}
use Rattle.file_bodies.specs.Bodies.{bodies_of}
use Rattle.trees.specs.Owners.{root_pages}
use Rattle.trees.specs.Trees.{Units}
use Rattle.op_log.specs.declared.record.LogRecord.{LogRecord}
use Rattle.volume_model.specs.Links.{AreLinked, HasObjects, HaveOlders, PlacesDiffer}
use Rattle.volume_model.specs.Volume.{Stored, Volume, is_frozen, stored_in, table_of, unique_of, versions_stored}
use Rattle.versions.specs.Versions.{AreInUse, HasRecord, place_of, root_of}
use Rattle.version_tree.specs.Bodies.{PlaceChange, derived_head, with_head}
use Rattle.version_tree.specs.Copies.{Derives}
use Rattle.volume_edits.specs.Ported.{IsVolume, IsApart, units_in}
use Rattle.volume_edits.specs.Edits.{MovesVolume}
use Rattle.volume_edits.proofs.OneFile.{FileTurn, FileUpdate, IsNew, all_apart, bytes_same, moves_volume, records_edit, roots_more, the_edit, trees_same, updated_file}
use Rattle.volume_edits.proofs.Whole.{Made, derives_whole}
use Rattle.volume_edits.proofs.RecordEdits.{IsWritten}
use Rattle.volume_edits.proofs.RecordUpdates.{DerivesRecord, IsAbove, NewerGoes, stored_as}
use Rattle.volume_edits.proofs.RowLinks.{newer_goes, row_vacant}
use Rattle.volume_edits.proofs.Deriving.{is_derived_in, keeps_links, keeps_objects, newer as derived_newer, older, turn}
use Rattle.volume_edits.proofs.Written.{goes_written}
use Rattle.volume_edits.proofs.Holes.{Hole, filled, stored_filled, stored_first, stored_last}
use Rattle.volume_edits.proofs.Placed.{records_of}
use Rattle.volume_edits.proofs.FileBefore.{own_links, own_numbers, own_olders, whole_objects, whole_olders, whole_places}
use Rattle.volume_edits.proofs.Tabled.{own_linked, table_changed}
use Rattle.volume_edits.proofs.FileRoots.{shares_tree}
use Rattle.volume_edits.proofs.TurnCounts.{has_in, named_root}
use Rattle.volume_edits.proofs.Turned.{root_there}
use Rattle.volume_edits.proofs.Edited.{Edit}
use Rattle.volume_edits.proofs.Named.{Named, named_there, new_roots, of_version, one_new, own_above, versions_above}

module _ {S : Type 0} (g : ground.Ghosts S) (old new : S) (index : Index) (oid made : Oid) (is : Record) (derives : Derives g old new index (place_of oid) is made) where
  abbrev place : Place
  place = place_of oid

  abbrev after : Index
  after = derives.after

  abbrev changes : List PlaceChange
  changes = derives.others ++ (place_of made, Some derives.copy) ∷ []

  abbrev was : List Stored
  was = records_of (g.image old) index

  abbrev later : List Stored
  later = records_of (g.image new) after

  links : NewerGoes place is derives.others
  links = newer_goes place is derives.others derives.older

  pub written : AllByRecursion IsWritten changes
  written = each-append IsWritten derives.others ((place_of made, Some derives.copy) ∷ []) (goes_written place is derives.others links) ((_, derives.copied), tt)

  module _ (records : List LogRecord) (has : HasRecord g old index oid is) (frozen : is.head.state ≡ Frozen) (takes : OnlyTakes g old new) (h : Hole) (update : FileUpdate g old new records h index after changes)
      (new_number : IsNew (filled h (g.image old) index (records_of (g.image old) index)) made.unique) where
    abbrev v : Volume
    v = filled h (g.image old) index was

    abbrev U : Units
    U = units_in g old

    abbrev U' : Units
    U' = units_in g new

    named : Named was oid is
    named = named_there g old index oid is has

    derived : DerivesRecord was later place is made
    derived = record {
      there = named.stands;
      vacant = row_vacant (bodies_of (g.image old) index) (place_of made) derives.vacant;
      copy = derives.copy;
      copied = derives.copied;
      others = derives.others;
      older = links;
      edit = records_edit g old new records h index after changes update;
    }

    olders : HaveOlders was
    olders = own_olders g old records h index was update.vol.shows

    above : IsAbove made.unique was
    above = own_above h (g.image old) index was made.unique new_number.above

    linked : AreLinked later
    linked = keeps_links was later place is made derived frozen (own_links g old records h index was update.vol.shows)

    -- the copy
    abbrev copy : Stored
    copy = stored_as (place_of made) (with_head (derived_head made.unique place) is)

    turns : FileTurn g old new h index after None (copy ∷ [])
    turns = record {
      linked = linked;
      older = older;
      newer = derived_newer was later place is made derived;
      turn = turn was later place is made derived;
      made_new = one_new copy (λ (t : Stored). IsNew v (unique_of t)) new_number;
      made_roots = new_roots was (stored_as place is) (place_of made) (with_head (derived_head made.unique place) is) named.there refl;
    }

    objects : HasObjects U' (stored_in (filled h (g.image new) after later))
    objects =
        let places = whole_places g old records h index was update.vol.shows in
        let places_later = subst PlacesDiffer (stored_filled h (g.image new) after later) (all_apart g old new records h index after changes update None (copy ∷ []) turns) in
        let there : Made later (place_of made) = record { t = copy; there = turns.turn.put copy (inl refl); place_is = refl } in
        subst (HasObjects U') (sym (stored_filled h (g.image new) after later))
        (keeps_objects (stored_first h ++ (was ++ stored_last h)) (stored_first h ++ (later ++ stored_last h)) place is made (derives_whole (stored_first h) was later (stored_last h) places places_later place is made derived there) U U' (whole_olders g old records h index was update.vol.shows) (whole_objects g old records h index was update.vol.shows) (trees_same g old new records h index after changes update linked))

    abbrev vs : List Version
    vs = versions_stored U was

    versions : versions_stored U' later ≡ in_order number_of (derived_in oid made vs)
    versions = subst (λ (o : Oid). versions_stored U' later ≡ in_order number_of (derived_in o made vs)) named.oid_is
        (is_derived_in was later place is made derived U U' olders (own_numbers g old records h index was update.vol.shows) above (bytes_same g old new records h index after changes update linked))

    abbrev edit : Edit g old new h index after later
    edit = the_edit g old new records h index after changes update linked

    rises : Rises number_of (derived_in oid made vs)
    rises =
        let own = own_linked g old new records h index after was later update.vol edit in
        (derived_linked oid made vs own (of_version U was oid is named (λ (w : Version). w.frozen ≡ true) own.0 (ap is_frozen frozen)) (versions_above U was made.unique above)).0

    pub derived_volume : MovesVolume g old new records v None (root_of is.content) (with_derived oid made (table_of U v))
    derived_volume = moves_volume g old new records h index after changes update None (copy ∷ []) turns None (root_of is.content) (with_derived oid made (table_of U v)) objects
        (table_changed g old new records h index after was later update.vol edit (derived_in oid made) versions rises oid (λ ws none. derived_absent oid made ws none) (stored_as place is) named.there (ap (λ (o : Oid). o.unique) named.oid_is))
        (shares_tree g old new records h index after was later update.vol edit update.bodies.pages.refs (stored_as place is) (has_in was (stored_as place is) named.there)
        (λ p. roots_more g old new records h index after changes update None (copy ∷ []) turns refl ((λ y m. absurd m), tt) p ∙ ap (λ (n : ℕ). named_root p was + n) (ap (λ (rs : List Root). times p (root_pages rs)) (root_there is.content))) takes)

pub derives_version : {S : Type 0} (g : ground.Ghosts S) (old new : S) (records : List LogRecord) (v : Volume) → IsVolume g old records v → (index : Index) (oid made : Oid) (is : Record) → g.geometry new ≡ g.geometry old → IsApart g new → AreInUse g new → OnlyTakes g old new → HasRecord g old index oid is → is.head.state ≡ Frozen
    → 1 ≤ made.unique → made.unique < v.catalog.next_unique → IsAbove made.unique (stored_in v) → Derives g old new index (place_of oid) is made
    → MovesVolume g old new records v None (root_of is.content) (with_derived oid made (table_of (units_in g old) v))
derives_version g old new records v vol index oid made is geometry apart in_use takes has frozen some below above derives =
    let u = updated_file g old new records v index derives.after (changes g old new index oid made is derives) vol has.stands.file geometry apart in_use derives.bodies (written g old new index oid made is derives) in
    let new_number : IsNew v made.unique = record { some = some; below = below; above = above } in
    subst (λ (w : Volume). MovesVolume g old new records w None (root_of is.content) (with_derived oid made (table_of (units_in g old) w))) (sym u.same)
    (derived_volume g old new index oid made is derives records has frozen takes u.hole u.update (subst (λ (w : Volume). IsNew w made.unique) u.same new_number))
