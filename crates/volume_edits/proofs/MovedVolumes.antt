-- A volume that a call on versions keeps, edits or moves is one that the port's working state becomes.
use Rattle.std.proofs.Common.{◌≡◌, ℕ, Bool, true, List, ◌∷◌, Option, Some, None, sym, ap, subst, ◌∙◌, inl}
use Rattle.std.specs.Prelude.{Contains, if◌then◌else◌, nat_lt}
use Rattle.ex_base.specs.declared.ground.Ground as ground
use Rattle.ex_base.specs.declared.geometry.Geometry.{Geometry}
use Rattle.ex_base.specs.declared.names.Oid.{Oid}
use Rattle.ex_base.specs.declared.names.Root.{Root}
use Rattle.ex_base.specs.Area.{InPageArea, area_end, catalog_no}
use Rattle.ex_base.specs.Ports.{Keeps}
use Rattle.ex_base.proofs.Members.{In, contains_in, in_contains, in_left}
use Rattle.op_log.specs.declared.record.LogRecord.{LogRecord}
use Rattle.trees.specs.Trees.{Units}
use Rattle.table_model.specs.declared.table.Table.{Table}
use Rattle.version_lists.specs.declared.version.Version.{Version}
use Rattle.table_model.specs.Tables.{version_at, versions_of, with_bytes}
use Rattle.version_lists.specs.Versions.{has_oid}
use Rattle.version_lists.specs.Versions.{unique_of as number_of}
use Rattle.version_lists.proofs.Lists.{contains_has, find_has}
use Rattle.version_lists.proofs.Links.{number_from_oid}
use Rattle.versions.specs.Versions.{AreInUse}
use Rattle.volume_edits.specs.Edits.{ChangesVolume, MovesVolume, trees_of}
use Rattle.volume_edits.specs.Ported.{IsApart, IsVolume, units_in}
use Rattle.volume_edits.proofs.Showing.{apart_versions}
use Rattle.volume_edits.proofs.Staying.{kept_reach, stays_whole}
use Rattle.volume_edits.proofs.Turned.{turned_kept, turned_later}
use Rattle.volume_model.specs.Volume.{Volume, file_pages, reach_of, table_of}
use Rattle.volume_model.proofs.Places.{sep_one}
use Rattle.volume_edits.specs.TableUpdates.{BecomesVolume}
use Rattle.volume_edits.proofs.Tables.{bytes_agree}

module _ {S : Type 0} (g : ground.Ghosts S) (old : S) (records : List LogRecord) (v : Volume) (vol : IsVolume g old records v) where
  abbrev U : Units
  U = units_in g old

  -- each logged page is one of the volume's
  pub in_use : AreInUse g old
  in_use page held = vol.used page (contains_in page (reach_of U v) (in_left page (catalog_no ∷ file_pages v) (trees_of U v) (in_contains page (catalog_no ∷ file_pages v) ((vol.shows.held page).0 held))))

  -- no other version of the table has its OID
  pub one_version : (oid : Oid) (version w : Version) → version_at (table_of U v) oid ≡ Some version → In w (versions_of (table_of U v)) → has_oid oid w ≡ true → w ≡ version
  one_version oid version w is inside has =
      let versions = versions_of (table_of U v) in
      let found = find_has (has_oid oid) versions version is in
      sep_one number_of versions w version (apart_versions g old records v vol.shows) (contains_has versions w (contains_in w versions inside)) found.0
      (number_from_oid oid w has ∙ sym (number_from_oid oid version found.1))

  -- ---- what the working state becomes

  module _ (new : S) where
    abbrev units_at : Geometry → (ℕ → List ℕ) → (ℕ → List ℕ) → Units
    units_at geometry image unit u = if nat_lt u (area_end geometry) then image u else unit u

    kept_units : Keeps g old new → units_in g new ≡ U
    kept_units keeps =
        ap (λ (y : Geometry). units_at y (g.image new) (g.unit new)) (g.leads_geometry old new keeps.leads)
        ∙ ap (λ (image : ℕ → List ℕ). units_at (g.geometry old) image (g.unit new)) keeps.images
        ∙ ap (λ (unit : ℕ → List ℕ). units_at (g.geometry old) (g.image old) unit) keeps.units

    kept_here : Keeps g old new → IsVolume g new records v
    kept_here keeps = stays_whole g old new records v vol.shows (kept_reach g old new v keeps vol.shows.apart) (λ u c. ap (λ (f : ℕ → Bool). f u) keeps.used ∙ vol.used u c)

    pub kept_volume : Keeps g old new → BecomesVolume g old new records v (table_of U v) None None
    kept_volume keeps = record {
      now = v;
      volume = kept_here keeps;
      shows = ap (λ (units : Units). table_of units v) (kept_units keeps);
      pages = λ page c. inl c;
      units = λ u c. inl (subst (λ (units : Units). Contains (trees_of units v) u) (kept_units keeps) c);
      turned = turned_kept g old new v keeps;
    }

    -- the version's bytes are changed, whatever they were before
    pub changed_volume : (oid : Oid) (version : Version) (change : List ℕ → List ℕ) (gone come : Option Root) → version_at (table_of U v) oid ≡ Some version → ChangesVolume g old new records v oid (change version.bytes) gone come
        → BecomesVolume g old new records v (with_bytes oid change (table_of U v)) gone come
    changed_volume oid version change gone come is changes = record {
      now = changes.now;
      volume = changes.volume;
      shows = changes.table ∙ bytes_agree oid (λ (was : List ℕ). change version.bytes) change (table_of U v) (λ w inside has. ap (λ (x : Version). change x.bytes) (sym (one_version oid version w is inside has)));
      pages = λ page c. inl (subst (λ (pages : List ℕ). Contains pages page) changes.pages c);
      units = changes.units;
      turned = changes.turned;
    }

    pub moved_volume : (gone come : Option Root) (table : Table) → MovesVolume g old new records v gone come table → BecomesVolume g old new records v table gone come
    moved_volume gone come table moves = record {
      now = moves.now;
      volume = moves.volume;
      shows = moves.shows;
      pages = moves.pages;
      units = λ u there. inl (moves.units u there);
      turned = moves.turned;
    }

-- ---- what is read after an update

module _ {S : Type 0} (g : ground.Ghosts S) (old mid new : S) (keeps : Keeps g mid new) where
  pub still_becomes : (records : List LogRecord) (v : Volume) (table : Table) (gone come : Option Root) → BecomesVolume g old mid records v table gone come → BecomesVolume g old new records v table gone come
  still_becomes records v table gone come becomes =
      let units = kept_units g mid records becomes.now becomes.volume new keeps in
      record {
        now = becomes.now;
        volume = kept_here g mid records becomes.now becomes.volume new keeps;
        shows = ap (λ (us : Units). table_of us becomes.now) units ∙ becomes.shows;
        pages = becomes.pages;
        units = λ u c. becomes.units u (subst (λ (us : Units). Contains (trees_of us becomes.now) u) units c);
        turned = turned_later g old mid new v becomes.now gone come keeps becomes.turned;
      }

  pub apart_before : IsApart g new → IsApart g mid
  apart_before apart = λ page area held.
      let later = subst (λ (geometry : Geometry). InPageArea geometry page) (sym (g.leads_geometry mid new keeps.leads)) area in
      ap (λ (f : ℕ → List ℕ). f page) (sym keeps.images) ∙ apart page later (ap (λ (f : ℕ → Bool). f page) keeps.held ∙ held) ∙ ap (λ (f : ℕ → List ℕ). f page) keeps.units

  pub used_before : AreInUse g new → AreInUse g mid
  used_before used = λ page held. ap (λ (f : ℕ → Bool). f page) (sym keeps.used) ∙ used page (ap (λ (f : ℕ → Bool). f page) keeps.held ∙ held)
