-- What an update makes of the contents of versions.
use Rattle.std.proofs.Common.{◌≡◌, ◌∙◌, ◌↔◌, ◌≤◌, ℕ, Bool, true, false, List, [], ◌∷◌, ◌++◌, Option, Some, None, length, refl, sym, ap, subst, true≢false, inl, inr}
use Rattle.std.specs.Prelude.{IfOk, Result, Ok, Err, if◌then◌else◌, slice_index_or}
use Rattle.std.specs.List.{AllByRecursion}
use Rattle.std.proofs.lemmas.Bool.{cases_Bool, leb-true, le-leb}
use Rattle.std.proofs.lemmas.Option.{none-some}
use Rattle.ex_base.specs.declared.geometry.Geometry.{Geometry}
use Rattle.ex_base.specs.declared.ground.Ground as ground
use Rattle.ex_base.specs.declared.faults.PortFault.{PortFault}
use Rattle.ex_base.specs.declared.names.Index.{Index}
use Rattle.ex_base.specs.declared.names.Oid.{Oid}
use Rattle.ex_base.specs.declared.names.Place.{Place}
use Rattle.ex_base.specs.declared.names.Root.{Root}
use Rattle.ex_base.specs.Places.{same_place}
use Rattle.ex_base.specs.Ports.{Keeps}
use Rattle.ex_base.proofs.Members.{in_contains, of_each}
use Rattle.ex_base.proofs.SamePlaces.{at_itself, same_place_is}
use Rattle.slotted_pages.specs.FilePage.{Slot, body_of}
use Rattle.slotted_pages.specs.Edits.{slots_of}
use Rattle.file_index.specs.Index.{IsFilesPage}
use Rattle.file_index.proofs.Heights.{keys_of_pages}
use Rattle.file_bodies.specs.Bodies.{Row, bodies_of, pages_in}
use Rattle.file_bodies.specs.Files.{HasBody, HasFile}
use Rattle.object_files.specs.Catalog.{Catalog}
use Rattle.object_records.specs.Record.{Content, Small, Large, Record, BodyOf}
use Rattle.object_records.specs.declared.Head.{Head}
use Rattle.object_records.specs.Reads.{record_on}
use Rattle.object_records.proofs.RecordLaws.{record_read}
use Rattle.op_log.specs.declared.record.LogRecord.{LogRecord}
use Rattle.trees.specs.Trees.{Units}
use Rattle.versions.specs.Found.{size_of}
use Rattle.versions.specs.Versions.{Change, EditsVersion, HasRecord, HasShape, HasVersion, IsSmall, PutsVersion, StaysSmall, changed, count_of, new_record, place_of}
use Rattle.versions.proofs.FileRows.{edit_stands}
use Rattle.versions.proofs.Standing.{holds_of, version_size}
use Rattle.version_tree.specs.Bodies.{PlaceChange, body_at, changed_at}
use Rattle.version_tree.specs.Copies.{Derives, Freezes, Turns, TurnsLink, Unlinks, stays, turns, had_none, had_one}
use Rattle.version_tree.proofs.Places.{body_there, there_body}
use Rattle.volume_edits.specs.Edits.{WritesCatalog}
use Rattle.volume_edits.specs.Ported.{IsVolume, units_in}
use Rattle.volume_edits.specs.TableUpdates.{AsksChange, TableUpdate}
use Rattle.volume_edits.proofs.BytesChanged.{EditsBytes}
use Rattle.volume_edits.proofs.MovedVolumes.{in_use}
use Rattle.volume_edits.proofs.Showing.{version_found}
use Rattle.volume_model.specs.Volume.{Volume, table_of}
use Rattle.session_core.specs.declared.updates.Done.{Done}
use Rattle.session_core.specs.Contents.{CopyShaped, EditShaped, Shaped, VolumePages, content_there, pages_in as pages_of}
use Rattle.session_core.specs.Meant.{fits_small}
use Rattle.session_core.specs.Performed.{LeavesShaped}
use Rattle.session_core.proofs.PortParts.{made_pages}

-- ---- what stands where an OID leads

-- a slot has a record of this content
record Has (c : Content) (slot : Slot) : Type 0 where
  body : List ℕ
  there : slot ≡ Some body
  is : (record_on body).content ≡ c

has_body : (c : Content) (r : Record) (body : List ℕ) → BodyOf body r → r.content ≡ c → Has c (Some body)
has_body c r body spelled same = record { body = body; there = refl; is = ap (λ (x : Record). x.content) (record_read body r spelled) ∙ same }

-- so has one of two, whichever it is
has_if : (c : Content) (test : Bool) (x y : Slot) → (test ≡ true → Has c x) → (test ≡ false → Has c y) → Has c (if test then x else y)
has_if c test x y so_yes so_no = elim (cases_Bool test) [
  | inl so ↦ subst (λ (t : Bool). Has c (if t then x else y)) (sym so) (so_yes so)
  | inr not ↦ subst (λ (t : Bool). Has c (if t then x else y)) (sym not) (so_no not)
]

-- where a change is of the place, it leaves such a record there
abbrev Leaves : Content → Place → PlaceChange → Type 0
Leaves c place change = same_place change.0 place ≡ true → Has c change.1

has_after : (c : Content) (place : Place) (changes : List PlaceChange) (was : Slot) → AllByRecursion (Leaves c place) changes → Has c was → Has c (changed_at changes place was)
has_after c place [] was each has = has
has_after c place (change ∷ changes) was each has = has_if c (same_place change.0 place) change.1 (changed_at changes place was) each.0 (λ _. has_after c place changes was each.1 has)

changed_on : (front back : List PlaceChange) (place : Place) (was : Slot) → changed_at (front ++ back) place was ≡ changed_at front place (changed_at back place was)
changed_on [] back place was = refl
changed_on (change ∷ front) back place was = ap (λ (slot : Slot). if same_place change.0 place then change.1 else slot) (changed_on front back place was)

-- a record whose link turns keeps its content
turned_leaves : (c : Content) (at older : Place) (body : List ℕ) (from to : Place) (changes : List PlaceChange) → Turns older body from to changes → (older ≡ at → (record_on body).content ≡ c) → AllByRecursion (Leaves c at) changes
turned_leaves c at older body from to changes (stays none) own = tt
turned_leaves c at older body from to changes (turns now some spelled) own = (λ same. has_body c _ now spelled (own (same_place_is older at same)), tt)

link_leaves : (rows : List Row) (c : Content) (at from to : Place) (link : Option Place) (changes : List PlaceChange) → TurnsLink rows from to link changes → ((body : List ℕ) → body_at at rows ≡ Some body → (record_on body).content ≡ c)
    → AllByRecursion (Leaves c at) changes
link_leaves rows c at from to None changes none own = subst (AllByRecursion (Leaves c at)) (sym none) tt
link_leaves rows c at from to (Some older) changes turn own =
    turned_leaves c at older turn.body from to changes turn.turned (λ same. own turn.body (ap (λ (p : Place). body_at p rows) (sym same) ∙ turn.there))

unlinked_leaves : (at place : Place) (is : Record) (changes : List PlaceChange) → Unlinks place is changes → AllByRecursion (Leaves is.content at) changes
unlinked_leaves at place is changes (had_none none) = tt
unlinked_leaves at place is changes (had_one now some spelled) = (λ same. has_body is.content _ now spelled refl, tt)

module _ {S : Type 0} (g : ground.Ghosts S) where
  body_content : (s : S) (index : Index) (oid : Oid) (body : List ℕ) → HasBody g s index (place_of oid) body → content_there (pages_of g s) oid ≡ (record_on body).content
  body_content s index oid body has = ap (λ (slot : Slot). (record_on (body_of slot)).content) has.stands

  record_content : (s : S) (index : Index) (oid : Oid) (is : Record) → HasRecord g s index oid is → content_there (pages_of g s) oid ≡ is.content
  record_content s index oid is has = body_content s index oid has.body has.stands ∙ ap (λ (r : Record). r.content) (record_read has.body is has.spelled)

  -- ---- a new object

  pub object_shaped : (old new : S) (index : Index) (oid : Oid) → PutsVersion g old new index oid → content_there (pages_of g new) oid ≡ Small []
  object_shaped old new index oid puts =
      body_content new puts.puts.after oid puts.body (edit_stands g old new index puts.puts.after (place_of oid) None puts.body puts.puts.edit)
      ∙ ap (λ (r : Record). r.content) (record_read puts.body (new_record oid.unique) puts.spelled)

  -- ---- an edit

  -- a version stays small as a machine tells it
  stays_as : (s : S) (place : Place) (was : Content) (n : ℕ) → StaysSmall g s place was n ↔ (fits_small (g.geometry s).page_size (slots_of (g.image s place.page.0)) n was ≡ true)
  stays_as s place (Small held) n = (λ fits. le-leb _ _ fits, λ is. leb-true _ _ is)
  stays_as s place (Large root) n = (λ stays. absurd stays, λ is. absurd (true≢false (sym is)))

  -- what an edit of bytes leaves, over the contents that stand there
  record Edits (old new : S) (oid : Oid) (change : Change) : Type 0 where
    small : IsSmall (content_there (pages_of g new) oid) ↔ (fits_small (g.geometry old).page_size (slots_of (g.image old oid.page.0)) (size_of (content_there (pages_of g new) oid)) (content_there (pages_of g old) oid) ≡ true)
    shape : HasShape (g.geometry old) change (g.unit old) (g.unit new) (content_there (pages_of g old) oid) (size_of (content_there (pages_of g new) oid)) (content_there (pages_of g new) oid)

  edits : (old new : S) (index : Index) (oid : Oid) (head : Head) (content : Content) (change : Change) (before bytes : List ℕ) → g.ready new → g.tells new → HasVersion g old index oid head content before
      → EditsVersion g old new index oid head content change bytes → Edits old new oid change
  edits old new index oid head content change before bytes ready told stands edit =
      let later = content_there (pages_of g new) oid in
      let page = slots_of (g.image old oid.page.0) in
      let most = (g.geometry old).page_size in
      let was : content_there (pages_of g old) oid ≡ content = record_content old index oid (record { head = head; content = content }) stands.stored in
      let now : later ≡ edit.now = record_content new index oid (record { head = head; content = edit.now }) edit.version.stored in
      let size : length bytes ≡ size_of later = version_size g new index oid head edit.now bytes ready told (holds_of g new index oid head edit.now bytes edit.version) ∙ ap size_of (sym now) in
      let fits = stays_as old (place_of oid) content (length bytes) in
      let small : IsSmall edit.now ↔ (fits_small most page (length bytes) content ≡ true) = (λ is. fits.0 (edit.small.0 is), λ so. edit.small.1 (fits.1 so)) in
      record {
        small =
            subst (λ (c : Content). IsSmall c ↔ (fits_small most page (size_of later) (content_there (pages_of g old) oid) ≡ true)) (sym now)
            (subst (λ (c : Content). IsSmall edit.now ↔ (fits_small most page (size_of later) c ≡ true)) (sym was)
            (subst (λ (n : ℕ). IsSmall edit.now ↔ (fits_small most page n content ≡ true)) size small));
        shape =
            subst (λ (c : Content). HasShape (g.geometry old) change (g.unit old) (g.unit new) (content_there (pages_of g old) oid) (size_of later) c) (sym now)
            (subst (λ (c : Content). HasShape (g.geometry old) change (g.unit old) (g.unit new) c (size_of later) edit.now) (sym was)
            (subst (λ (n : ℕ). HasShape (g.geometry old) change (g.unit old) (g.unit new) content n edit.now) size edit.shape));
      }

  kept_content : (old new : S) (oid : Oid) → Keeps g old new → content_there (pages_of g new) oid ≡ content_there (pages_of g old) oid
  kept_content old new oid keeps = ap (λ (image : ℕ → List ℕ). (record_on (body_of (slice_index_or (slots_of (image oid.page.0)) oid.slot None))).content) keeps.images

  pub edit_shaped : (old new : S) (oid : Oid) (change : Change) (gone come : Option Root) → g.ready old → g.leads old new → (count_of change ≡ 0 → Keeps g old new) → (1 ≤ count_of change → EditsBytes g old new oid change gone come)
      → (records : List LogRecord) (v : Volume) → g.tells old → IsVolume g old records v → AsksChange (table_of (units_in g old) v) oid change → EditShaped (pages_of g old) (pages_of g new) oid change
  edit_shaped old new oid change went came ready leads nothing edited records v tells vol asks =
      let found = version_found g old records v vol.shows vol oid asks.version asks.is in
      let bytes = changed change asks.version.bytes in
      let lies : 1 ≤ count_of change → Edits old new oid change = λ some.
      edits old new found.index oid found.head found.content change asks.version.bytes bytes (g.leads_ready old new leads ready) (g.leads_told old new leads tells) found.stands
      (edited some tells (in_use g old records v vol) found.index found.head found.content asks.version.bytes found.stands).edit in
      record { nothing = λ none. kept_content old new oid (nothing none); small = λ some. (lies some).small; shape = λ some. (lies some).shape }

  -- ---- a copy

  -- what stands at a place after changes
  stands_after : (s : S) (after : Index) (oid : Oid) (c : Content) (slot : Slot) → HasFile g s after → body_at (place_of oid) (bodies_of (g.image s) after) ≡ slot → Has c slot → content_there (pages_of g s) oid ≡ c
  stands_after s after oid c slot file at has = body_content s after oid has.body (there_body g s after (place_of oid) has.body file (at ∙ has.there)) ∙ has.is

  module _ (old new : S) (index : Index) (oid made : Oid) (is : Record) (has : HasRecord g old index oid is) where
    abbrev place : Place
    place = place_of oid

    own_row : body_at place (bodies_of (g.image old) index) ≡ Some has.body
    own_row = body_there g old index place has.body has.stands

    own_body : (body : List ℕ) → body_at place (bodies_of (g.image old) index) ≡ Some body → (record_on body).content ≡ is.content
    own_body body at = ap (λ (slot : Slot). (record_on (body_of slot)).content) (sym at ∙ own_row) ∙ ap (λ (r : Record). r.content) (record_read has.body is has.spelled)

    -- the version and its copy have its content
    pub freeze_shares : Freezes g old new index place is made → CopyShaped (pages_of g old) (pages_of g new) oid made
    freeze_shares f =
        let here = record_content old index oid is has in
        let rest = (place, Some f.moved) ∷ (place_of made, Some f.copy) ∷ [] in
        let moved : Has is.content (Some f.moved) = has_body is.content _ f.moved f.moves refl in
        let copy : Has is.content (Some f.copy) = has_body is.content _ f.copy f.copied refl in
        record {
          kept = stands_after new f.after oid is.content _ f.bodies.file (f.bodies.bodies place ∙ changed_on f.others rest place _)
              (has_after is.content place f.others _ (link_leaves (bodies_of (g.image old) index) is.content place place (place_of made) is.head.older f.others f.older own_body)
              (has_if is.content (same_place place place) _ _ (λ _. moved) (λ not. absurd (true≢false (sym (at_itself place place refl) ∙ not)))))
              ∙ sym here;
          shared = stands_after new f.after made is.content _ f.bodies.file (f.bodies.bodies (place_of made) ∙ changed_on f.others rest (place_of made) _)
              (has_after is.content (place_of made) f.others _ (link_leaves (bodies_of (g.image old) index) is.content (place_of made) place (place_of made) is.head.older f.others f.older (λ body at. absurd (none-some body (sym f.vacant ∙ at))))
              (has_if is.content (same_place place (place_of made)) _ _ (λ _. moved)
              (λ _. has_if is.content (same_place (place_of made) (place_of made)) _ _ (λ _. copy) (λ not. absurd (true≢false (sym (at_itself (place_of made) (place_of made) refl) ∙ not))))))
              ∙ sym here;
        }

    pub derive_shares : Derives g old new index place is made → CopyShaped (pages_of g old) (pages_of g new) oid made
    derive_shares d =
        let here = record_content old index oid is has in
        let rest = (place_of made, Some d.copy) ∷ [] in
        let copy : Has is.content (Some d.copy) = has_body is.content _ d.copy d.copied refl in
        let was : Has is.content (body_at place (bodies_of (g.image old) index)) = record { body = has.body; there = own_row; is = own_body has.body own_row } in
        record {
          kept = stands_after new d.after oid is.content _ d.bodies.file (d.bodies.bodies place ∙ changed_on d.others rest place _)
              (has_after is.content place d.others _ (unlinked_leaves place place is d.others d.older)
              (has_if is.content (same_place (place_of made) place) _ _ (λ _. copy) (λ _. was)))
              ∙ sym here;
          shared = stands_after new d.after made is.content _ d.bodies.file (d.bodies.bodies (place_of made) ∙ changed_on d.others rest (place_of made) _)
              (has_after is.content (place_of made) d.others _ (unlinked_leaves (place_of made) place is d.others d.older)
              (has_if is.content (same_place (place_of made) (place_of made)) _ _ (λ _. copy) (λ not. absurd (true≢false (sym (at_itself (place_of made) (place_of made) refl) ∙ not)))))
              ∙ sym here;
        }

  -- the catalog's page is no page of a record
  pub counted_content : (old mid : S) (catalog : Catalog) (index : Index) (oid : Oid) (is : Record) → WritesCatalog g old mid catalog → HasRecord g mid index oid is → content_there (pages_of g mid) oid ≡ content_there (pages_of g old) oid
  counted_content old mid catalog index oid is writes has =
      let lies = of_each (IsFilesPage (g.geometry mid)) oid.page.0 (pages_in (g.image mid) index)
      (keys_of_pages (g.geometry mid) index.file_no (g.image mid) index.level index.root has.stands.file.whole)
      (in_contains oid.page.0 (pages_in (g.image mid) index) has.stands.named) in
      ap (λ (page : List ℕ). (record_on (body_of (slice_index_or (slots_of page) oid.slot None))).content) (writes.puts.images oid.page.0 lies.1)

  -- ---- an update that leaves no more to say

  pub none_shaped : (old new : S) (u : TableUpdate) → ((p q : VolumePages) (made : Oid) → Shaped p q u made) → (result : Result Done PortFault) → IfOk result (λ done. LeavesShaped g old new u done.oid)
  none_shaped old new u none (Ok done) = λ records v tells vol asks. none (pages_of g old) (pages_of g new) done.oid
  none_shaped old new u none (Err fault) = tt

  -- ---- where a call that only reads follows

  kept_pages : (mid new : S) → Keeps g mid new → pages_of g mid ≡ pages_of g new
  kept_pages mid new keeps =
      ap (λ (h : Geometry). made_pages h (g.image mid) (g.unit mid)) (sym (g.leads_geometry mid new keeps.leads))
      ∙ ap (λ (image : ℕ → List ℕ). made_pages (g.geometry new) image (g.unit mid)) (sym keeps.images)
      ∙ ap (λ (units : Units). made_pages (g.geometry new) (g.image new) units) (sym keeps.units)

  pub still_shaped : (old mid new : S) → Keeps g mid new → (u : TableUpdate) (done : Done) (result : Result Done PortFault) → LeavesShaped g old mid u done.oid → IfOk result (λ read. read ≡ done)
      → IfOk result (λ read. LeavesShaped g old new u read.oid)
  still_shaped old mid new keeps u done (Ok read) lies same = λ records v tells vol asks.
      subst (λ (d : Done). Shaped (pages_of g old) (pages_of g new) u d.oid) (sym same)
      (subst (λ (p : VolumePages). Shaped (pages_of g old) p u done.oid) (kept_pages mid new keeps) (lies records v tells vol asks))
  still_shaped old mid new keeps u done (Err fault) lies same = tt

-- a copy is one of the version as it stood before too
pub copy_since : {was now new : VolumePages} (oid made : Oid) → content_there now oid ≡ content_there was oid → CopyShaped now new oid made → CopyShaped was new oid made
copy_since oid made same copy = record { kept = copy.kept ∙ same; shared = copy.shared ∙ same }
