-- A copy of a version as an update of the volume: the catalog counts its number, and then the version's file gets the copy.
use Rattle.std.proofs.Common.{◌≡◌, ℕ, ◌+◌, Bool, true, false, List, Option, None, refl, sym, subst, ◌∙◌}
use Rattle.std.specs.Prelude.{Err, Ok}
use Rattle.ex_base.specs.declared.ground.Ground as ground
use Rattle.ex_base.specs.declared.faults.PortFault.{PortFault}
use Rattle.ex_base.specs.declared.names.Oid.{Oid}
use Rattle.ex_base.specs.declared.names.Root.{Root}
use Rattle.ex_base.specs.Area.{catalog_no}
use Rattle.ex_base.specs.Ports.{IsDamage, Keeps}
use Rattle.ex_base.specs.declared.names.Index.{Index}
use Rattle.file_bodies.specs.Files.{HasBody}
use Rattle.object_files.specs.Edits.{IsCatalogPage}
use Rattle.op_log.specs.declared.record.LogRecord.{LogRecord}
use Rattle.object_files.specs.Reads.{catalog_on}
use Rattle.file_index.specs.Taking.{OnlyTakes}
use Rattle.object_records.specs.Record.{Record}
use Rattle.object_records.specs.declared.State.TheVariants.{Current, Frozen}
use Rattle.table_model.specs.Tables.{numbered, with_derived, with_frozen}
use Rattle.versions.specs.Found.{HasLimits}
use Rattle.versions.specs.Versions.{HasRecord, place_of, root_of}
use Rattle.version_tree.specs.declared.copied.Copied.{Copied}
use Rattle.version_tree.specs.Copies.{Derives, Freezes}
use Rattle.version_tree.proofs.Linking.{linked_limits}
use Rattle.version_tree.specs.Linked.{AreLinked}
use Rattle.volume_model.specs.Volume.{Volume, table_of}
use Rattle.volume_edits.specs.Edits.{WritesCatalog, catalog_numbered}
use Rattle.volume_edits.specs.Ported.{IsVolume, units_in}
use Rattle.volume_edits.proofs.Contents.{has_catalog}
use Rattle.volume_edits.proofs.CopiedVolumes.{body_back, current, derive_becomes, found, freeze_becomes, is_old, its_record, linked, own, writes_kept}
use Rattle.session_core.specs.declared.updates.copying.Copying.{Copying}
use Rattle.session_core.specs.declared.updates.copying.Copying.TheVariants as copying
use Rattle.session_core.specs.Performed.{copies, to_copy}
use Rattle.volume_edits.specs.Purposes.{IsOffPages, IsUnfit, off_pages}
use Rattle.ex_base.specs.declared.geometry.Geometry.{Geometry}
use Rattle.volume_edits.specs.TableUpdates.{AsksCopy, BecomesVolume, TakesNeed, TakesWithin}
use Rattle.table_model.specs.Needs.{pages_need}
use Rattle.session_core.specs.Performed.{LeavesShaped, Updates}
use Rattle.session_core.proofs.Contents.{copy_since, counted_content, derive_shares, freeze_shares}
use Rattle.volume_edits.specs.TableUpdates.{Derives as DerivesVersion, Freezes as FreezesVersion}

-- no page of a file has the place of the version: it can't be copied
pub uncopied_off : (g : Geometry) (held : ℕ → Bool) (image : ℕ → List ℕ) (oid : Oid) (how : Copying) → IsOffPages g image (place_of oid) → IsUnfit g held image oid (to_copy how)
uncopied_off g held image oid copying.Freeze off = off_pages off
uncopied_off g held image oid copying.Derive off = off_pages off

-- the room that is asked for is of the version's file, in what is read after the look for that
pub filed_later : {S : Type 0} (g : ground.Ghosts S) (mid now : S) → Keeps g mid now → (oid : Oid) (file_no room_no : ℕ) → room_no ≡ file_no → ((index : Index) (body : List ℕ) → HasBody g mid index (place_of oid) body → index.file_no ≡ file_no)
    → (index : Index) (body : List ℕ) → HasBody g now index (place_of oid) body → index.file_no ≡ room_no
filed_later g mid now keeps oid file_no room_no room filed index body has = filed index body (body_back g mid now keeps index (place_of oid) body has) ∙ sym room

-- a copy may take sixteen pages
pub copy_taken : {S : Type 0} (g : ground.Ghosts S) (old new : S) (how : Copying) (oid : Oid) (unique : ℕ) → TakesWithin g old new (pages_need 16) → TakesNeed g old new (copies how oid unique)
copy_taken g old new copying.Freeze oid unique takes = takes
copy_taken g old new copying.Derive oid unique takes = takes

-- ---- what fails on the way

module _ {S : Type 0} (g : ground.Ghosts S) (old new : S) (oid : Oid) (unique : ℕ) where
  -- a copy that isn't made does nothing that is told, and tells of no damage
  never_made : (copying : Copying) (fault : PortFault)
      → (IsDamage fault → (records : List LogRecord) (v : Volume) → g.tells old → IsVolume g old records v → (frozen : Bool) → AsksCopy v (table_of (units_in g old) v) oid frozen unique → ⊥)
      → Updates g old new (copies copying oid unique) (Err fault)
  never_made copying.Freeze fault never = record { done = tt; sound = λ damage records v tells vol asks room. never damage records v tells vol false asks }
  never_made copying.Derive fault never = record { done = tt; sound = λ damage records v tells vol asks room. never damage records v tells vol true asks }

  pub uncounted : (copying : Copying) (fault : PortFault) → (IsDamage fault → g.tells old → IsCatalogPage (g.image old catalog_no) → ⊥) → Updates g old new (copies copying oid unique) (Err fault)
  uncounted copying fault sound = never_made copying fault (λ damage records v tells vol frozen asks. sound damage tells (has_catalog g old records v vol.shows).whole)

  module _ (mid : S) (leads : g.leads old mid) (counts : g.tells old → WritesCatalog g old mid (catalog_numbered (unique + 1) (catalog_on (g.image old catalog_no)))) where
    pub unfiled : (copying : Copying) (fault : PortFault) → (IsDamage fault → g.tells mid → (index : Index) (body : List ℕ) → HasBody g mid index (place_of oid) body → ⊥) → Updates g old new (copies copying oid unique) (Err fault)
    unfiled copying fault sound = never_made copying fault
        (λ damage records v tells vol frozen asks.
        (let has = its_record g old mid records v vol oid frozen unique asks (counts tells) in
        sound damage (g.leads_told old mid leads tells) (found g old mid records v vol oid frozen unique asks (counts tells)).index has.body has.stands))

  -- ---- a copy that is made

  module _ (mid now : S) (leads : g.leads old mid) (counts : g.tells old → WritesCatalog g old mid (catalog_numbered (unique + 1) (catalog_on (g.image old catalog_no)))) (keeps : Keeps g mid now) where
    -- the catalog counts the number in what is read after that
    counts_now : g.tells old → WritesCatalog g old now (catalog_numbered (unique + 1) (catalog_on (g.image old catalog_no)))
    counts_now tells = writes_kept g old mid now (catalog_numbered (unique + 1) (catalog_on (g.image old catalog_no))) keeps (counts tells)

    tells_now : g.tells old → g.tells now
    tells_now tells = g.leads_told mid now keeps.leads (g.leads_told old mid leads tells)

    module _ (file_no room_no : ℕ) (room : room_no ≡ file_no) (filed : g.tells mid → (index : Index) (body : List ℕ) → HasBody g mid index (place_of oid) body → index.file_no ≡ file_no) where
      -- the version's file is the one that the copy is put into
      in_file : g.tells old → (index : Index) (is : Record) → HasRecord g now index oid is → index.file_no ≡ room_no
      in_file tells index is has = filed (g.leads_told old mid leads tells) index has.body (body_back g mid now keeps index (place_of oid) has.body has.stands) ∙ sym room

      module _ (made : Copied) (number : made.oid.unique ≡ unique) (later : g.leads now new) (takes : OnlyTakes g now new)
          (come : g.tells now → (index : Index) (is : Record) → HasRecord g now index oid is → made.come ≡ root_of is.content) where
        pub frozen_made : (g.tells now → AreLinked g now → (index : Index) (is : Record) → HasRecord g now index oid is → index.file_no ≡ room_no → Freezes g now new index (place_of oid) is made.oid)
            → Updates g old new (FreezesVersion oid unique) (Ok (record { oid = made.oid; gone = None; come = made.come }))
        frozen_made freezes = record {
          done = λ records v tells vol asks apart in_use.
              let told = tells_now tells in
              let writes = counts_now tells in
              let at = found g old now records v vol oid false unique asks writes in
              let has = its_record g old now records v vol oid false unique asks writes in
              let is = own g old now records v vol oid false unique asks writes in
              subst (λ (root : Option Root). BecomesVolume g old new records v (numbered (with_frozen oid made.oid (table_of (units_in g old) v))) None root) (sym (come told at.index is has))
              (freeze_becomes g old now records v vol oid false unique asks writes new made.oid number (g.leads_geometry now new later) apart in_use takes refl
              (freezes told (linked g old now records v vol oid false unique asks writes) at.index is has (in_file tells at.index is has)));
          sound = tt;
        }

        pub derived_made : (g.tells now → (index : Index) (is : Record) → HasRecord g now index oid is → index.file_no ≡ room_no → Derives g now new index (place_of oid) is made.oid)
            → Updates g old new (DerivesVersion oid unique) (Ok (record { oid = made.oid; gone = None; come = made.come }))
        derived_made derives = record {
          done = λ records v tells vol asks apart in_use.
              let told = tells_now tells in
              let writes = counts_now tells in
              let at = found g old now records v vol oid true unique asks writes in
              let has = its_record g old now records v vol oid true unique asks writes in
              let is = own g old now records v vol oid true unique asks writes in
              subst (λ (root : Option Root). BecomesVolume g old new records v (numbered (with_derived oid made.oid (table_of (units_in g old) v))) None root) (sym (come told at.index is has))
              (derive_becomes g old now records v vol oid true unique asks writes new made.oid number (g.leads_geometry now new later) apart in_use takes refl
              (derives told at.index is has (in_file tells at.index is has)));
          sound = tt;
        }

      -- the version and its copy have the content that it had
      pub frozen_shaped : (made : Oid) → (g.tells now → AreLinked g now → (index : Index) (is : Record) → HasRecord g now index oid is → index.file_no ≡ room_no → Freezes g now new index (place_of oid) is made)
          → LeavesShaped g old new (FreezesVersion oid unique) made
      frozen_shaped made freezes records v tells vol asks =
          let writes = counts_now tells in
          let at = found g old now records v vol oid false unique asks writes in
          let has = its_record g old now records v vol oid false unique asks writes in
          let is = own g old now records v vol oid false unique asks writes in
          copy_since oid made (counted_content g old now (catalog_numbered (unique + 1) (catalog_on (g.image old catalog_no))) at.index oid is writes has)
          (freeze_shares g now new at.index oid made is has (freezes (tells_now tells) (linked g old now records v vol oid false unique asks writes) at.index is has (in_file tells at.index is has)))

      pub derived_shaped : (made : Oid) → (g.tells now → (index : Index) (is : Record) → HasRecord g now index oid is → index.file_no ≡ room_no → Derives g now new index (place_of oid) is made)
          → LeavesShaped g old new (DerivesVersion oid unique) made
      derived_shaped made derives records v tells vol asks =
          let writes = counts_now tells in
          let at = found g old now records v vol oid true unique asks writes in
          let has = its_record g old now records v vol oid true unique asks writes in
          let is = own g old now records v vol oid true unique asks writes in
          copy_since oid made (counted_content g old now (catalog_numbered (unique + 1) (catalog_on (g.image old catalog_no))) at.index oid is writes has)
          (derive_shares g now new at.index oid made is has (derives (tells_now tells) at.index is has (in_file tells at.index is has)))

      pub freeze_failed : (fault : PortFault)
          → (IsDamage fault → g.tells now → AreLinked g now → (index : Index) (is : Record) → HasRecord g now index oid is → is.head.state ≡ Current → index.file_no ≡ room_no → ⊥)
          → Updates g old new (FreezesVersion oid unique) (Err fault)
      freeze_failed fault sound = record {
        done = tt;
        sound = λ damage records v tells vol asks room.
            let writes = counts_now tells in
            let at = found g old now records v vol oid false unique asks writes in
            let has = its_record g old now records v vol oid false unique asks writes in
            let is = own g old now records v vol oid false unique asks writes in
            sound damage (tells_now tells) (linked g old now records v vol oid false unique asks writes) at.index is has (current g old now records v vol oid false unique asks writes refl) (in_file tells at.index is has);
      }

      pub derive_failed : (fault : PortFault)
          → (IsDamage fault → g.tells now → (index : Index) (is : Record) → HasRecord g now index oid is → HasLimits (g.geometry now) is.content → is.head.state ≡ Frozen → index.file_no ≡ room_no → ⊥)
          → Updates g old new (DerivesVersion oid unique) (Err fault)
      derive_failed fault sound = record {
        done = tt;
        sound = λ damage records v tells vol asks room.
            let writes = counts_now tells in
            let at = found g old now records v vol oid true unique asks writes in
            let has = its_record g old now records v vol oid true unique asks writes in
            let is = own g old now records v vol oid true unique asks writes in
            sound damage (tells_now tells) at.index is has (linked_limits g now at.index oid is (linked g old now records v vol oid true unique asks writes) has) (is_old g old now records v vol oid true unique asks writes refl) (in_file tells at.index is has);
      }
