-- A version that is made: the catalog counts its number, and then its file gets its record.
use Rattle.std.proofs.Common.{◌≡◌, ℕ, ◌+◌, ◌<◌, ◌≤◌, Bool, List, Option, Some, None, refl, sym, ap, subst, ◌∙◌, arith, inl, inr}
use Rattle.std.specs.Prelude.{map, Contains}
use Rattle.std.specs.List.{AllByRecursion}
use Rattle.ex_base.specs.declared.ground.Ground as ground
use Rattle.ex_base.specs.declared.names.Oid.{Oid}
use Rattle.ex_base.specs.declared.names.Root.{Root}
use Rattle.ex_base.specs.Area.{catalog_no}
use Rattle.ex_base.specs.Order.{AllDiffer}
use Rattle.ex_base.proofs.Members.{in_contains}
use Rattle.op_log.specs.declared.record.LogRecord.{LogRecord}
use Rattle.object_files.specs.Catalog.{Catalog, CatalogOf, FileEntry, number_of}
use Rattle.object_files.specs.Reads.{catalog_on}
use Rattle.object_files.proofs.CatalogLaws.{catalog_read}
use Rattle.file_index.specs.Taking.{OnlyTakes}
use Rattle.file_bodies.specs.Files.{HasFile, index_at, index_in}
use Rattle.table_model.specs.declared.table.Table.{Table}
use Rattle.table_model.specs.Tables.{numbered, with_object}
use Rattle.versions.specs.Versions.{AreInUse, PutsVersion}
use Rattle.volume_model.specs.Volume.{Stored, Volume, stored_in, table_of, unique_of, roots_in}
use Rattle.volume_edits.specs.Edits.{MovesVolume, RecatalogsVolume, WritesCatalog, catalog_numbered, table_numbered}
use Rattle.volume_edits.specs.Ported.{IsApart, IsVolume, ShowsVolume, index_named, units_in}
use Rattle.volume_edits.proofs.Contents.{entries_here, has_files, in_beside}
use Rattle.volume_edits.proofs.Counted.{in_area}
use Rattle.volume_edits.proofs.Creating.{creates_object}
use Rattle.volume_edits.proofs.Listing.{numbers_volume}
use Rattle.volume_edits.proofs.Lists.{cut_at}
use Rattle.volume_edits.proofs.Turned.{turned_before}
use Rattle.volume_edits.specs.TableUpdates.{AsksFile, BecomesVolume}

module _ {S : Type 0} (g : ground.Ghosts S) (s : S) (records : List LogRecord) (v : Volume) (vol : ShowsVolume g s records v) where
  -- what is read on the catalog's page is the volume's catalog
  catalog_is : catalog_on (g.image s catalog_no) ≡ v.catalog
  catalog_is =
      let some = (g.geometry s).some_pages in
      catalog_read (g.image s catalog_no) v.catalog (subst (λ (bytes : List ℕ). CatalogOf bytes v.catalog) (in_area g s catalog_no (omega (arith, some))) vol.parts.0.0)

  -- the file of an entry is whole
  entry_file : (e : FileEntry) → Contains v.catalog.entries e → HasFile g s (index_named e)
  entry_file e there =
      let cut = cut_at e v.catalog.entries (in_contains e v.catalog.entries there) in
      let at : index_at (g.image s) e.file_no ≡ Some (index_named e) =
      ap (index_in e.file_no) (entries_here g s records v vol ∙ cut.2) ∙ in_beside cut.0 e cut.1 (subst (λ (es : List FileEntry). AllDiffer (map number_of es)) cut.2 vol.parts.0.0.fits.numbers) in
      (has_files g s records v vol).each e.file_no (index_named e) at

-- ---- the catalog that counts a number

module _ {S : Type 0} (g : ground.Ghosts S) (old mid : S) (records : List LogRecord) (v : Volume) (vol : IsVolume g old records v) (unique : ℕ) (next : v.catalog.next_unique ≡ unique)
    (writes : WritesCatalog g old mid (catalog_numbered (unique + 1) (catalog_on (g.image old catalog_no)))) where
  pub counted : RecatalogsVolume g old mid records v (catalog_numbered (unique + 1) v.catalog) (table_numbered (unique + 1) (table_of (units_in g old) v))
  counted = numbers_volume g old mid records v vol (unique + 1) (omega (arith, next)) (subst (λ (c : Catalog). WritesCatalog g old mid (catalog_numbered (unique + 1) c)) (catalog_is g old records v vol.shows) writes)

  pub low : (oid : Oid) → oid.unique ≡ unique → oid.unique < counted.now.catalog.next_unique
  low oid number = omega (arith, number, ap (λ (c : Catalog). c.next_unique) counted.has)

  pub some : (oid : Oid) → oid.unique ≡ unique → 1 ≤ oid.unique
  some oid number = omega (arith, number, next, vol.shows.parts.0.0.fits.some_next)

  pub above : (oid : Oid) → oid.unique ≡ unique → AllByRecursion (λ (s : Stored). unique_of s < oid.unique) (stored_in counted.now)
  above oid number =
      subst (λ (n : ℕ). AllByRecursion (λ (s : Stored). unique_of s < n) (stored_in counted.now)) (next ∙ sym number)
      (subst (λ (ss : List Stored). AllByRecursion (λ (s : Stored). unique_of s < v.catalog.next_unique) ss) (sym counted.stored) vol.shows.parts.1.1.1.1.1.1.0.below)

  -- What is made of the volume that counted the number is made of the one before, and the number is used up.
  module _ (new : S) (come : Option Root) (change : Table → Table) (keeps : (n : ℕ) (t : Table) → change (table_numbered n t) ≡ table_numbered n (change t))
      (moves : MovesVolume g mid new records counted.now None come (change (table_of (units_in g mid) counted.now))) where
    table_is : change (table_of (units_in g mid) counted.now) ≡ numbered (change (table_of (units_in g old) v))
    table_is =
        ap change counted.shows
        ∙ keeps (unique + 1) (table_of (units_in g old) v)
        ∙ count_of_table (change (table_of (units_in g old) v)) (numbers_of (table_of (units_in g old) v))
      where
        -- the change leaves the next number
        numbers_of : (t : Table) → (change t).next_unique ≡ t.next_unique
        numbers_of t = ap (λ (u : Table). u.next_unique) (keeps t.next_unique t)

        count_of_table : (u : Table) → u.next_unique ≡ v.catalog.next_unique → table_numbered (unique + 1) u ≡ numbered u
        count_of_table u same = ap (λ (n : ℕ). table_numbered n u) (omega (arith, same, next))

    pub becomes_counted : BecomesVolume g old new records v (numbered (change (table_of (units_in g old) v))) None come
    becomes_counted = record {
      now = moves.now;
      volume = moves.volume;
      shows = moves.shows ∙ table_is;
      pages = λ page c. elim (moves.pages page c) [
        | inl was ↦ inl (subst (λ (ps : List ℕ). Contains ps page) counted.pages was)
        | inr free ↦ inr (ap (λ (f : ℕ → Bool). f page) (sym writes.puts.used) ∙ free)
      ];
      units = λ u c. inl (subst (λ (us : List ℕ). Contains us u) counted.units (moves.units u c));
      turned = turned_before g old mid new v counted.now moves.now None come (ap roots_in counted.stored) writes.geometry writes.puts.used writes.puts.refs writes.puts.units moves.turned;
    }

-- ---- an object

module _ {S : Type 0} (g : ground.Ghosts S) (old mid : S) (records : List LogRecord) (v : Volume) (vol : IsVolume g old records v) (name : List ℕ) (file_no unique : ℕ) (asks : AsksFile v name file_no unique)
    (writes : WritesCatalog g old mid (catalog_numbered (unique + 1) (catalog_on (g.image old catalog_no)))) where
  abbrev after : RecatalogsVolume g old mid records v (catalog_numbered (unique + 1) v.catalog) (table_numbered (unique + 1) (table_of (units_in g old) v))
  after = counted g old mid records v vol unique asks.next writes

  there : Contains after.now.catalog.entries asks.entry
  there = subst (λ (c : Catalog). Contains c.entries asks.entry) (sym after.has) asks.there

  pub its_file : HasFile g mid (index_named asks.entry)
  its_file = entry_file g mid records after.now after.volume.shows asks.entry there

  -- the volume has the new object, and its number is used up
  pub becomes : (new : S) (oid : Oid) → oid.unique ≡ unique → g.geometry new ≡ g.geometry mid → IsApart g new → AreInUse g new → OnlyTakes g mid new → PutsVersion g mid new (index_named asks.entry) oid
      → BecomesVolume g old new records v (numbered (with_object oid name (table_of (units_in g old) v))) None None
  becomes new oid number geometry apart in_use takes creates =
      becomes_counted g old mid records v vol unique asks.next writes new None (with_object oid name) (λ n t. refl)
      (subst (λ (n : List ℕ). MovesVolume g mid new records after.now None None (with_object oid n (table_of (units_in g mid) after.now))) asks.name_is
      (creates_object g mid new records after.now after.volume (index_named asks.entry) oid asks.entry geometry apart in_use takes its_file there refl (some g old mid records v vol unique asks.next writes oid number)
      (low g old mid records v vol unique asks.next writes oid number) (above g old mid records v vol unique asks.next writes oid number) creates))
