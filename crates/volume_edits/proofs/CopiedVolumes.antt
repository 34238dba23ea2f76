-- A volume that gets a copy of a version: the catalog counts its number, and then the version's file gets the copy.
use Rattle.std.proofs.Common.{◌≡◌, ℕ, ◌+◌, Bool, true, false, List, Some, None, refl, ap, subst, ◌∙◌}
use Rattle.std.specs.Prelude.{Contains, slice_index_or}
use Rattle.ex_base.specs.declared.ground.Ground as ground
use Rattle.ex_base.specs.declared.names.Oid.{Oid}
use Rattle.ex_base.specs.Area.{catalog_no}
use Rattle.ex_base.specs.Ports.{Keeps}
use Rattle.ex_base.specs.declared.names.Place.{Place}
use Rattle.slotted_pages.specs.Edits.{slots_of}
use Rattle.file_bodies.specs.Bodies.{pages_in}
use Rattle.ex_base.specs.declared.names.Index.{Index}
use Rattle.file_bodies.specs.Files.{HasBody}
use Rattle.op_log.specs.declared.record.LogRecord.{LogRecord}
use Rattle.object_files.specs.Catalog.{Catalog}
use Rattle.object_files.specs.Reads.{catalog_on}
use Rattle.file_index.specs.Taking.{OnlyTakes}
use Rattle.object_records.specs.Record.{Record}
use Rattle.object_records.specs.declared.State.TheVariants.{Current, Frozen}
use Rattle.table_model.specs.declared.table.Table.{Table}
use Rattle.table_model.specs.Tables.{numbered, version_at, with_derived, with_frozen}
use Rattle.versions.specs.Versions.{AreInUse, HasRecord, place_of, root_of}
use Rattle.version_tree.specs.Copies.{Derives, Freezes}
use Rattle.version_tree.proofs.Linking.{file_back}
use Rattle.version_tree.specs.Linked.{AreLinked}
use Rattle.volume_model.specs.Volume.{Volume, table_of}
use Rattle.volume_edits.specs.Edits.{RecatalogsVolume, WritesCatalog, catalog_numbered, table_numbered}
use Rattle.volume_edits.specs.Ported.{IsApart, IsVolume, units_in}
use Rattle.volume_edits.specs.Shown.{HasShown}
use Rattle.volume_edits.proofs.Derived.{derives_version}
use Rattle.volume_edits.proofs.Frozen.{freezes_version}
use Rattle.volume_edits.proofs.Showing.{version_found}
use Rattle.volume_edits.proofs.Standings.{linked_there}
use Rattle.volume_edits.specs.TableUpdates.{AsksCopy, BecomesVolume}
use Rattle.volume_edits.proofs.Making.{above, becomes_counted, counted, low, some}
use Rattle.volume_model.proofs.States.{is_current, is_frozen_state}

module _ {S : Type 0} (g : ground.Ghosts S) (old mid : S) (records : List LogRecord) (v : Volume) (vol : IsVolume g old records v) (oid : Oid) (frozen : Bool) (unique : ℕ) (asks : AsksCopy v (table_of (units_in g old) v) oid frozen unique)
    (writes : WritesCatalog g old mid (catalog_numbered (unique + 1) (catalog_on (g.image old catalog_no)))) where
  abbrev after : RecatalogsVolume g old mid records v (catalog_numbered (unique + 1) v.catalog) (table_numbered (unique + 1) (table_of (units_in g old) v))
  after = counted g old mid records v vol unique asks.next writes

  -- the version stands in the file still
  there : version_at (table_of (units_in g mid) after.now) oid ≡ Some asks.version
  there = ap (λ (t : Table). version_at t oid) after.shows ∙ asks.is

  pub found : HasShown g mid oid asks.version
  found = version_found g mid records after.now after.volume.shows after.volume oid asks.version there

  abbrev pub own : Record
  own = record { head = found.head; content = found.content }

  pub its_record : HasRecord g mid found.index oid own
  its_record = found.stands.stored

  pub linked : AreLinked g mid
  linked = linked_there g mid records after.now after.volume.shows

  module _ (new : S) (made : Oid) (number : made.unique ≡ unique) (geometry : g.geometry new ≡ g.geometry mid) (apart : IsApart g new) (in_use : AreInUse g new) (takes : OnlyTakes g mid new) where
    pub freeze_becomes : frozen ≡ false → Freezes g mid new found.index (place_of oid) own made
        → BecomesVolume g old new records v (numbered (with_frozen oid made (table_of (units_in g old) v))) None (root_of found.content)
    freeze_becomes is freezes =
        becomes_counted g old mid records v vol unique asks.next writes new (root_of found.content) (with_frozen oid made) (λ n t. refl)
        (freezes_version g mid new records after.now after.volume found.index oid made own geometry apart in_use takes its_record (is_current found.head.state (found.frozen ∙ asks.flag ∙ is))
        (some g old mid records v vol unique asks.next writes made number) (low g old mid records v vol unique asks.next writes made number) (above g old mid records v vol unique asks.next writes made number) freezes)

    pub derive_becomes : frozen ≡ true → Derives g mid new found.index (place_of oid) own made
        → BecomesVolume g old new records v (numbered (with_derived oid made (table_of (units_in g old) v))) None (root_of found.content)
    derive_becomes is derives =
        becomes_counted g old mid records v vol unique asks.next writes new (root_of found.content) (with_derived oid made) (λ n t. refl)
        (derives_version g mid new records after.now after.volume found.index oid made own geometry apart in_use takes its_record (is_frozen_state found.head.state (found.frozen ∙ asks.flag ∙ is))
        (some g old mid records v vol unique asks.next writes made number) (low g old mid records v vol unique asks.next writes made number) (above g old mid records v vol unique asks.next writes made number) derives)

  -- its state, as the copy asks it
  pub current : frozen ≡ false → found.head.state ≡ Current
  current is = is_current found.head.state (found.frozen ∙ asks.flag ∙ is)

  pub is_old : frozen ≡ true → found.head.state ≡ Frozen
  is_old is = is_frozen_state found.head.state (found.frozen ∙ asks.flag ∙ is)

-- ---- what is read after the catalog counts the number

module _ {S : Type 0} (g : ground.Ghosts S) where
  pub writes_kept : (old mid now : S) (catalog : Catalog) → Keeps g mid now → WritesCatalog g old mid catalog → WritesCatalog g old now catalog
  writes_kept old mid now catalog keeps writes =
      let puts = writes.puts in
      record {
        image = writes.image;
        puts = record {
          image = λ told. ap (λ (f : ℕ → List ℕ). f catalog_no) keeps.images ∙ puts.image told;
          images = λ p other. ap (λ (f : ℕ → List ℕ). f p) keeps.images ∙ puts.images p other;
          units = keeps.units ∙ puts.units;
          used = keeps.used ∙ puts.used;
          refs = keeps.refs ∙ puts.refs;
          held = keeps.held ∙ puts.held;
          free = keeps.free ∙ puts.free;
        };
        spelled = writes.spelled;
        told = writes.told;
        geometry = g.leads_geometry mid now keeps.leads ∙ writes.geometry;
      }

  pub body_back : (mid now : S) → Keeps g mid now → (index : Index) (place : Place) (body : List ℕ) → HasBody g now index place body → HasBody g mid index place body
  body_back mid now keeps index place body has = record {
    file = file_back g mid now index keeps has.file;
    named = subst (λ (image : ℕ → List ℕ). Contains (pages_in image index) place.page.0) keeps.images has.named;
    stands = subst (λ (image : ℕ → List ℕ). slice_index_or (slots_of (image place.page.0)) place.slot None ≡ Some body) keeps.images has.stands;
  }
