-- A frozen copy of a version makes a volume whose table has it between that version and its older one.
use Rattle.std.proofs.Common.{◌<◌, ◌≤◌, ◌≡◌, ℕ, ◌+◌, false, List, [], ◌∷◌, ◌++◌, Some, None, refl, sym, ap, subst, ◌∙◌, inl}
use Rattle.std.specs.List.{AllByRecursion}
use Rattle.ex_base.specs.declared.ground.Ground as ground
use Rattle.ex_base.specs.declared.names.Oid.{Oid}
use Rattle.ex_base.specs.declared.names.Place.{Place}
use Rattle.ex_base.specs.declared.names.Root.{Root}
use Rattle.ex_base.specs.Ports.{times}
use Rattle.ex_base.proofs.Rows.{each-append}
use Rattle.version_lists.specs.declared.version.Version.{Version}
use Rattle.version_lists.specs.Versions.{unique_of as number_of}
use Rattle.version_lists.specs.Sorted.{in_order}
use Rattle.version_lists.specs.Changes.{frozen_in}
use Rattle.version_lists.proofs.Changes.{frozen_absent, frozen_linked}
use Rattle.version_lists.proofs.Lists.{Rises}
use Rattle.table_model.specs.Tables.{with_frozen}
use Rattle.object_records.specs.Record.{Record}
use Rattle.object_records.specs.declared.State.TheVariants.{Current}
use Rattle.ex_base.specs.declared.names.Index.{Index}
use Rattle.file_index.specs.Taking.{OnlyTakes}
use Rattle.file_bodies.specs.Bodies.{bodies_of}
use Rattle.trees.specs.Owners.{root_pages}
use Rattle.trees.specs.Trees.{Units}
use Rattle.op_log.specs.declared.record.LogRecord.{LogRecord}
use Rattle.volume_model.specs.Links.{AreLinked, HasObjects, HaveOlders, PlacesDiffer}
use Rattle.volume_model.specs.Volume.{Stored, Volume, is_frozen, stored_in, table_of, unique_of, versions_stored}
use Rattle.versions.specs.Versions.{AreInUse, HasRecord, place_of, root_of}
use Rattle.version_tree.specs.Bodies.{PlaceChange, frozen_head, with_head}
use Rattle.version_tree.specs.Copies.{Freezes}
use Rattle.volume_edits.specs.Ported.{IsVolume, IsApart, units_in}
use Rattle.volume_edits.specs.Edits.{MovesVolume}
use Rattle.volume_edits.proofs.OneFile.{FileTurn, FileUpdate, IsNew, all_apart, bytes_same, moves_volume, records_edit, roots_more, the_edit, trees_same, updated_file}
use Rattle.volume_edits.proofs.Whole.{Made, freezes_whole}
use Rattle.volume_edits.proofs.RecordEdits.{IsWritten}
use Rattle.volume_edits.proofs.RecordUpdates.{FreezesRecord, IsAbove, LinkTurns, stored_as}
use Rattle.volume_edits.proofs.RowLinks.{link_turns, row_vacant}
use Rattle.volume_edits.proofs.Freezing.{is_frozen_in, keeps_links, keeps_objects, newer as frozen_newer, older as frozen_older, turn}
use Rattle.volume_edits.proofs.Written.{link_written}
use Rattle.volume_edits.proofs.Holes.{Hole, filled, stored_filled, stored_first, stored_last}
use Rattle.volume_edits.proofs.Placed.{records_of}
use Rattle.volume_edits.proofs.FileBefore.{own_links, own_numbers, own_olders, whole_objects, whole_olders, whole_places}
use Rattle.volume_edits.proofs.Tabled.{own_linked, table_changed}
use Rattle.volume_edits.proofs.FileRoots.{shares_tree}
use Rattle.volume_edits.proofs.TurnCounts.{has_in, named_root}
use Rattle.volume_edits.proofs.Turned.{root_there}
use Rattle.volume_edits.proofs.Edited.{Edit}
use Rattle.volume_edits.proofs.Named.{Named, named_there, new_roots, of_version, one_new, own_above, versions_above}

module _ {S : Type 0} (g : ground.Ghosts S) (old new : S) (index : Index) (oid made : Oid) (is : Record) (freezes : Freezes g old new index (place_of oid) is made) where
  abbrev place : Place
  place = place_of oid

  abbrev after : Index
  after = freezes.after

  abbrev changes : List PlaceChange
  changes = freezes.others ++ (place, Some freezes.moved) ∷ (place_of made, Some freezes.copy) ∷ []

  abbrev was : List Stored
  was = records_of (g.image old) index

  abbrev later : List Stored
  later = records_of (g.image new) after

  links : LinkTurns was place (place_of made) is.head.older freezes.others
  links = link_turns (bodies_of (g.image old) index) place (place_of made) is.head.older freezes.others freezes.older

  pub written : AllByRecursion IsWritten changes
  written = each-append IsWritten freezes.others ((place, Some freezes.moved) ∷ (place_of made, Some freezes.copy) ∷ []) (link_written was place (place_of made) is.head.older freezes.others links) ((_, freezes.moves), ((_, freezes.copied), tt))

  module _ (records : List LogRecord) (has : HasRecord g old index oid is) (current : is.head.state ≡ Current) (takes : OnlyTakes g old new) (h : Hole) (update : FileUpdate g old new records h index after changes)
      (new_number : IsNew (filled h (g.image old) index (records_of (g.image old) index)) made.unique) where
    abbrev v : Volume
    v = filled h (g.image old) index was

    abbrev U : Units
    U = units_in g old

    abbrev U' : Units
    U' = units_in g new

    named : Named was oid is
    named = named_there g old index oid is has

    frozen : FreezesRecord was later place is made
    frozen = record {
      there = named.stands;
      vacant = row_vacant (bodies_of (g.image old) index) (place_of made) freezes.vacant;
      copy = freezes.copy;
      copied = freezes.copied;
      moved = freezes.moved;
      moves = freezes.moves;
      others = freezes.others;
      older = links;
      edit = records_edit g old new records h index after changes update;
    }

    olders : HaveOlders was
    olders = own_olders g old records h index was update.vol.shows

    above : IsAbove made.unique was
    above = own_above h (g.image old) index was made.unique new_number.above

    linked : AreLinked later
    linked = keeps_links was later place is made frozen current olders (own_links g old records h index was update.vol.shows) above

    -- the copy
    abbrev copy : Stored
    copy = stored_as (place_of made) (with_head (frozen_head made.unique place is.head) is)

    turns : FileTurn g old new h index after None (copy ∷ [])
    turns = record {
      linked = linked;
      older = frozen_older was later place is made frozen current olders;
      newer = frozen_newer was later place is made frozen current olders;
      turn = turn was later place is made frozen current olders;
      made_new = one_new copy (λ (t : Stored). IsNew v (unique_of t)) new_number;
      made_roots = new_roots was (stored_as place is) (place_of made) (with_head (frozen_head made.unique place is.head) is) named.there refl;
    }

    objects : HasObjects U' (stored_in (filled h (g.image new) after later))
    objects =
        let places = whole_places g old records h index was update.vol.shows in
        let places_later = subst PlacesDiffer (stored_filled h (g.image new) after later) (all_apart g old new records h index after changes update None (copy ∷ []) turns) in
        let there : Made later (place_of made) = record { t = copy; there = turns.turn.put copy (inl refl); place_is = refl } in
        subst (HasObjects U') (sym (stored_filled h (g.image new) after later))
        (keeps_objects (stored_first h ++ (was ++ stored_last h)) (stored_first h ++ (later ++ stored_last h)) place is made (freezes_whole (stored_first h) was later (stored_last h) places places_later place is made frozen there) current
        (whole_olders g old records h index was update.vol.shows) U U' (whole_objects g old records h index was update.vol.shows) (trees_same g old new records h index after changes update linked))

    abbrev vs : List Version
    vs = versions_stored U was

    versions : versions_stored U' later ≡ in_order number_of (frozen_in oid made vs)
    versions = subst (λ (o : Oid). versions_stored U' later ≡ in_order number_of (frozen_in o made vs)) named.oid_is
        (is_frozen_in was later place is made frozen current olders U U' (own_numbers g old records h index was update.vol.shows) above (bytes_same g old new records h index after changes update linked))

    abbrev edit : Edit g old new h index after later
    edit = the_edit g old new records h index after changes update linked

    rises : Rises number_of (frozen_in oid made vs)
    rises =
        let own = own_linked g old new records h index after was later update.vol edit in
        (frozen_linked oid made vs own (of_version U was oid is named (λ (w : Version). w.frozen ≡ false) own.0 (ap is_frozen current)) (versions_above U was made.unique above)).0

    pub frozen_volume : MovesVolume g old new records v None (root_of is.content) (with_frozen oid made (table_of U v))
    frozen_volume = moves_volume g old new records h index after changes update None (copy ∷ []) turns None (root_of is.content) (with_frozen oid made (table_of U v)) objects
        (table_changed g old new records h index after was later update.vol edit (frozen_in oid made) versions rises oid (λ ws none. frozen_absent oid made ws none) (stored_as place is) named.there (ap (λ (o : Oid). o.unique) named.oid_is))
        (shares_tree g old new records h index after was later update.vol edit update.bodies.pages.refs (stored_as place is) (has_in was (stored_as place is) named.there)
        (λ p. roots_more g old new records h index after changes update None (copy ∷ []) turns refl ((λ y m. absurd m), tt) p ∙ ap (λ (n : ℕ). named_root p was + n) (ap (λ (rs : List Root). times p (root_pages rs)) (root_there is.content))) takes)

pub freezes_version : {S : Type 0} (g : ground.Ghosts S) (old new : S) (records : List LogRecord) (v : Volume) → IsVolume g old records v → (index : Index) (oid made : Oid) (is : Record) → g.geometry new ≡ g.geometry old → IsApart g new → AreInUse g new → OnlyTakes g old new → HasRecord g old index oid is → is.head.state ≡ Current
    → 1 ≤ made.unique → made.unique < v.catalog.next_unique → IsAbove made.unique (stored_in v) → Freezes g old new index (place_of oid) is made
    → MovesVolume g old new records v None (root_of is.content) (with_frozen oid made (table_of (units_in g old) v))
freezes_version g old new records v vol index oid made is geometry apart in_use takes has current some below above freezes =
    let u = updated_file g old new records v index freezes.after (changes g old new index oid made is freezes) vol has.stands.file geometry apart in_use freezes.bodies (written g old new index oid made is freezes) in
    let new_number : IsNew v made.unique = record { some = some; below = below; above = above } in
    subst (λ (w : Volume). MovesVolume g old new records w None (root_of is.content) (with_frozen oid made (table_of (units_in g old) w))) (sym u.same)
    (frozen_volume g old new index oid made is freezes records has current takes u.hole u.update (subst (λ (w : Volume). IsNew w made.unique) u.same new_number))
