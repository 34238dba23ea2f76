-- A current version whose record is taken out leaves a volume whose table has it no more.
use Rattle.std.proofs.Common.{Option, ◌≡◌, ◌+◌, List, [], ◌∷◌, ◌++◌, Some, None, refl, sym, ap, subst, ◌∙◌}
use Rattle.std.specs.List.{AllByRecursion}
use Rattle.std.proofs.lemmas.Option.{none-some, same_Some}
use Rattle.ex_base.specs.declared.ground.Ground as ground
use Rattle.ex_base.specs.declared.names.Oid.{Oid}
use Rattle.ex_base.specs.declared.names.Place.{Place}
use Rattle.ex_base.specs.declared.names.Root.{Root}
use Rattle.ex_base.specs.Ports.{times}
use Rattle.ex_base.proofs.Rows.{each-append}
use Rattle.version_lists.specs.Changes.{without_in}
use Rattle.version_lists.specs.declared.version.Version.{Version}
use Rattle.version_lists.specs.Versions.{unique_of as number_of}
use Rattle.version_lists.specs.Sorted.{in_order}
use Rattle.version_lists.proofs.Lists.{contains_has, Rises}
use Rattle.version_lists.proofs.Changes.{without_absent}
use Rattle.table_model.specs.Tables.{without_version}
use Rattle.object_records.specs.Record.{Record}
use Rattle.object_records.specs.declared.State.TheVariants.{Current}
use Rattle.ex_base.specs.declared.names.Index.{Index}
use Rattle.file_index.specs.Taking.{OnlyGives}
use Rattle.file_bodies.specs.Bodies.{Row, bodies_of}
use Rattle.trees.specs.Owners.{root_pages}
use Rattle.trees.specs.Trees.{Units}
use Rattle.op_log.specs.declared.record.LogRecord.{LogRecord}
use Rattle.volume_model.specs.Links.{place_in, AreLinked, HasObjects, HaveOlders, PlacesDiffer}
use Rattle.volume_model.specs.Volume.{Stored, Volume, stored_in, table_of, versions_stored}
use Rattle.volume_model.proofs.Places.{Sep, has_stands, sep_from}
use Rattle.versions.specs.Versions.{AreInUse, HasRecord, place_of, root_of}
use Rattle.version_tree.specs.Removals.{IsBranch, TakesOut}
use Rattle.version_tree.specs.Bodies.{PlaceChange}
use Rattle.volume_edits.specs.Ported.{IsVolume, IsApart, units_in}
use Rattle.volume_edits.specs.Edits.{MovesVolume}
use Rattle.volume_edits.proofs.OneFile.{roots_less, FileTurn, FileUpdate, all_apart, bytes_same, moves_volume, records_edit, the_edit, trees_same, updated_file}
use Rattle.volume_edits.proofs.RecordUpdates.{LeavesOne, LinkComes, TakesRecord, stored_as}
use Rattle.volume_edits.proofs.Written.{comes_written}
use Rattle.volume_edits.proofs.FileBefore.{first_links, last_links, own_links, own_numbers, own_olders, whole_objects, whole_olders, whole_places}
use Rattle.volume_edits.proofs.RowLinks.{link_comes, row_stands_at}
use Rattle.volume_edits.proofs.FileRoots.{loses_tree}
use Rattle.volume_edits.proofs.Whole.{takes_whole}
use Rattle.volume_edits.proofs.Named.{without_rises, Named, named_there}
use Rattle.volume_edits.proofs.RecordEdits.{stored_at, stored_of, IsWritten}
use Rattle.volume_edits.proofs.TakingOut.{is_without, keeps_links, keeps_objects, newer as newer_after, older as older_after, turn}
use Rattle.volume_edits.proofs.Holes.{Hole, filled, stored_filled, stored_first, stored_last}
use Rattle.volume_edits.proofs.Placed.{records_of}
use Rattle.volume_edits.proofs.Tabled.{own_linked, table_changed}
use Rattle.volume_edits.proofs.TurnCounts.{has_in, named_root}
use Rattle.volume_edits.proofs.Turned.{root_there}
use Rattle.volume_edits.proofs.Edited.{Edit}

-- a record that a link leads to has no newer place, where the body there has none
leaves_one : (rows : List Row) (link : Option Place) → IsBranch rows link → Sep place_in (stored_of rows) → LeavesOne (stored_of rows) link
leaves_one rows None branch apart older there is = absurd (none-some older.place is)
leaves_one rows (Some place) branch apart older there is =
    let at = row_stands_at rows place branch.body branch.there in
    let same = same_Some older (stored_at (place, branch.body)) (sym (has_stands (stored_of rows) place older apart (contains_has (stored_of rows) older there) (sym (same_Some place older.place is))) ∙ at) in
    ap (λ (s : Stored). s.body.head.newer) same ∙ branch.many

module _ {S : Type 0} (g : ground.Ghosts S) (old new : S) (index : Index) (oid : Oid) (is : Record) (takes : TakesOut g old new index (place_of oid) is) where
  abbrev place : Place
  place = place_of oid

  abbrev after : Index
  after = takes.after

  abbrev changes : List PlaceChange
  changes = takes.others ++ (place, None) ∷ []

  abbrev was : List Stored
  was = records_of (g.image old) index

  abbrev later : List Stored
  later = records_of (g.image new) after

  links : LinkComes was place is.head.older takes.others
  links = link_comes (bodies_of (g.image old) index) place is.head.older takes.others takes.older

  pub written : AllByRecursion IsWritten changes
  written = each-append IsWritten takes.others ((place, None) ∷ []) (comes_written was place is.head.older takes.others links) (tt, tt)

  module _ (records : List LogRecord) (has : HasRecord g old index oid is) (current : is.head.state ≡ Current) (branch : IsBranch (bodies_of (g.image old) index) is.head.older) (gives : OnlyGives g old new) (h : Hole) (update : FileUpdate g old new records h index after changes) where
    abbrev v : Volume
    v = filled h (g.image old) index was

    abbrev U : Units
    U = units_in g old

    abbrev U' : Units
    U' = units_in g new

    named : Named was oid is
    named = named_there g old index oid is has

    -- the record that goes
    abbrev x : Stored
    x = stored_as place is

    taken : TakesRecord was later place is
    taken = record { there = named.stands; others = takes.others; older = links; edit = records_edit g old new records h index after changes update }

    olders : HaveOlders was
    olders = own_olders g old records h index was update.vol.shows

    links_before : AreLinked was
    links_before = own_links g old records h index was update.vol.shows

    -- several are derived from its older version
    leaves : LeavesOne was is.head.older
    leaves = leaves_one (bodies_of (g.image old) index) is.head.older branch (sep_from place_in was taken.edit.places)

    linked : AreLinked later
    linked = keeps_links was later place is taken current olders links_before leaves

    turns : FileTurn g old new h index after (Some place) []
    turns = record {
      linked = linked;
      older = older_after;
      newer = newer_after was later place is taken current olders;
      turn = turn was later place is taken current olders;
      made_new = λ t m. absurd m;
      made_roots = λ root k. absurd k;
    }

    objects : HasObjects U' (stored_in (filled h (g.image new) after later))
    objects =
        let places = whole_places g old records h index was update.vol.shows in
        let places_later = subst PlacesDiffer (stored_filled h (g.image new) after later) (all_apart g old new records h index after changes update (Some place) [] turns) in
        subst (HasObjects U') (sym (stored_filled h (g.image new) after later)) (
        keeps_objects (stored_first h ++ (was ++ stored_last h)) (stored_first h ++ (later ++ stored_last h)) place is
        (takes_whole (stored_first h) was later (stored_last h) places places_later (first_links g old records h index was update.vol.shows) links_before (last_links g old records h index was update.vol.shows) place is taken) current
        (whole_olders g old records h index was update.vol.shows) U U' (whole_objects g old records h index was update.vol.shows) (trees_same g old new records h index after changes update linked))

    abbrev vs : List Version
    vs = versions_stored U was

    versions : versions_stored U' later ≡ in_order number_of (without_in oid vs)
    versions = subst (λ (o : Oid). versions_stored U' later ≡ in_order number_of (without_in o vs)) named.oid_is
        (is_without was later place is taken current olders U U' (own_numbers g old records h index was update.vol.shows) (bytes_same g old new records h index after changes update linked))

    abbrev edit : Edit g old new h index after later
    edit = the_edit g old new records h index after changes update linked

    rises : Rises number_of (without_in oid vs)
    rises = without_rises oid vs (own_linked g old new records h index after was later update.vol edit).0

    pub removed_volume : MovesVolume g old new records v (root_of is.content) None (without_version oid (table_of U v))
    removed_volume = moves_volume g old new records h index after changes update (Some place) [] turns (root_of is.content) None (without_version oid (table_of U v)) objects
        (table_changed g old new records h index after was later update.vol edit (without_in oid) versions rises oid (λ ws none. without_absent oid ws none) x named.there (ap (λ (o : Oid). o.unique) named.oid_is))
        (loses_tree g old new records h index after was later update.vol edit update.bodies.pages.refs x (has_in was x named.there)
        (λ p. ap (λ (rs : List Root). times p (root_pages rs) + named_root p later) (sym (root_there is.content)) ∙ roots_less g old new records h index after changes update (Some place) [] turns x named.there refl refl p) gives)

pub removes_version : {S : Type 0} (g : ground.Ghosts S) (old new : S) (records : List LogRecord) (v : Volume) → IsVolume g old records v → (index : Index) (oid : Oid) (is : Record) → g.geometry new ≡ g.geometry old → IsApart g new → AreInUse g new → OnlyGives g old new → HasRecord g old index oid is → is.head.state ≡ Current → IsBranch (bodies_of (g.image old) index) is.head.older → TakesOut g old new index (place_of oid) is
    → MovesVolume g old new records v (root_of is.content) None (without_version oid (table_of (units_in g old) v))
removes_version g old new records v vol index oid is geometry apart in_use gives has current branch takes =
    let u = updated_file g old new records v index takes.after (changes g old new index oid is takes) vol has.stands.file geometry apart in_use takes.bodies (written g old new index oid is takes) in
    subst (λ (w : Volume). MovesVolume g old new records w (root_of is.content) None (without_version oid (table_of (units_in g old) w))) (sym u.same) (removed_volume g old new index oid is takes records has current branch gives u.hole u.update)
