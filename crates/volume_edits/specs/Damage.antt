-- What a fault of a call on a volume says of it: which page, record or tree isn't what names it, over the images of its pages and the bytes of its units.
use Rattle.std.specs.Prelude.{◌≡◌, ◌≢◌, ◌⊎◌, ◌≤◌, ℕ, Bool, List, Some}
use Rattle.ex_base.specs.declared.faults.Seen.{Seen}
use Rattle.ex_base.specs.declared.faults.PortFault.{PortFault}
use Rattle.ex_base.specs.declared.faults.PortFault.TheVariants.{Damaged}
use Rattle.ex_base.specs.declared.geometry.Geometry.{Geometry}
use Rattle.ex_base.specs.declared.names.Oid.{Oid}
use Rattle.ex_base.specs.declared.names.PageNo.{PageNo}
use Rattle.ex_base.specs.declared.names.Place.{Place}
use Rattle.ex_base.specs.declared.names.Root.{Root}
use Rattle.ex_base.specs.Area.{catalog_no}
use Rattle.ex_base.specs.Ports.{IsDamage}
use Rattle.object_records.specs.Record.{Record, BodyOf}
use Rattle.object_records.specs.declared.State.TheVariants.{Frozen}
use Rattle.object_files.specs.Catalog.{CatalogOf}
use Rattle.object_files.specs.Reads.{catalog_on}
use Rattle.file_bodies.specs.Damage.{IsBelongingFault, IsListedFault, IsPlacingFault, IsTakingFault}
use Rattle.trees.specs.Trees.{Units}
use Rattle.trees.specs.Roots.{IsRootFor}
use Rattle.trees.specs.Damage.{IsRootFault}
use Rattle.versions.specs.Put.{IsPlaced}
use Rattle.versions.specs.Versions.{place_of}
use Rattle.versions.specs.Damage.{StandsOn, IsListingFault, IsRootAt, record_fault, root_fault}
use Rattle.version_tree.specs.Linked.{head_in}
use Rattle.version_tree.specs.Links.{above_seen, below_seen, number_seen}
use Rattle.volume_edits.specs.Edits.{catalog_numbered}
use Rattle.volume_edits.specs.Purposes.{Purpose, IsAstray, IsUnfit, TakesBody}

-- a body stands at the place, and it is no record
pub record IsUnreadable (image : ℕ → List ℕ) (place : Place) : Type 0 where
  pub body : List ℕ
  pub stands : StandsOn image place body
  pub isnt : (is : Record) → BodyOf body is → ⊥

-- A record that stands on a page names the place by a link: as that of the version that it is derived from, or of the one that is derived from it.
pub record IsLinked (image : ℕ → List ℕ) (place : Place) : Type 0 where
  pub from : Place
  pub body : List ℕ
  pub stands : StandsOn image from body
  pub link : ((head_in body).older ≡ Some place) ⊎ ((head_in body).newer ≡ Some place)

-- What is told of the record at a place: that a body stands there and is no record; that the record to which an OID leads that is asked for isn't as the
-- purpose asks, or the one that a link names isn't as the link asks; or that its number isn't below that of the frozen version that names it as its older
-- one, or, where it is frozen itself, above that of the one that names it as its newer one.
pub data IsRecordDamage (g : Geometry) (held : ℕ → Bool) (image : ℕ → List ℕ) (asked : Oid → Purpose → Type 0) (place : Place) (fault : PortFault) : Type 0 where
  unreadable : IsUnreadable image place → fault ≡ record_fault place → IsRecordDamage g held image asked place fault
  asked_for : (oid : Oid) (purpose : Purpose) → asked oid purpose → IsUnfit g held image oid purpose → place ≡ place_of oid → fault ≡ record_fault place
      → IsRecordDamage g held image asked place fault
  linked : (link : IsLinked image place) → IsAstray g held image link.from link.body place → fault ≡ record_fault place → IsRecordDamage g held image asked place fault
  not_below : (link : IsLinked image place) (body : List ℕ) → (head_in link.body).older ≡ Some place → (head_in link.body).state ≡ Frozen → StandsOn image place body
      → (head_in link.body).unique ≤ (head_in body).unique → fault ≡ Damaged place.page (below_seen (head_in link.body).unique) (number_seen (head_in body).unique)
      → IsRecordDamage g held image asked place fault
  not_above : (link : IsLinked image place) (body : List ℕ) → (head_in link.body).newer ≡ Some place → (head_in body).state ≡ Frozen → StandsOn image place body
      → (head_in body).unique ≤ (head_in link.body).unique → fault ≡ Damaged place.page (above_seen (head_in link.body).unique) (number_seen (head_in body).unique)
      → IsRecordDamage g held image asked place fault

-- What is told of the root of a version: that the record to which an OID leads has one with numbers out of their limits; or that the one is out of them that
-- a call on the version made.
pub data IsRootDamage (g : Geometry) (image : ℕ → List ℕ) (asked : Oid → Purpose → Type 0) (fault : PortFault) : Type 0 where
  recorded : (oid : Oid) (root : Root) → IsRootAt image oid root → (IsRootFor g root → ⊥) → fault ≡ root_fault oid.page root → IsRootDamage g image asked fault
  made : (oid : Oid) (purpose : Purpose) (root : Root) → asked oid purpose → (IsRootFor g root → IsPlaced root.page → ⊥) → fault ≡ root_fault oid.page root
      → IsRootDamage g image asked fault

-- What a call on a volume tells that is asked of versions by their OIDs, each for a purpose. It is the port's own; or tells of the catalog, or of an index
-- page on the way to a page of a file; of a page or a record that a walk over a file comes to; of a page that a new body is put on, or from which one is
-- taken, with what stands when it is told; of a record; of a root; or of a page on the way down from the root of a record.
pub data IsFaultOver (g : Geometry) (held : ℕ → Bool) (image : ℕ → List ℕ) (units : Units) (asked : Oid → Purpose → Type 0) (fault : PortFault) : Type 0 where
  ports_own : (IsDamage fault → ⊥) → IsFaultOver g held image units asked fault
  of_page : (page : ℕ) → IsBelongingFault g image page fault → IsFaultOver g held image units asked fault
  of_walk : (file_no : ℕ) → IsListingFault g image file_no fault → IsFaultOver g held image units asked fault
  of_placing : (file_no from : ℕ) → IsListedFault image file_no (λ index. IsPlacingFault g held image index from fault) fault → IsFaultOver g held image units asked fault
  of_taking : (oid : Oid) (purpose : Purpose) (now_held : ℕ → Bool) (now : ℕ → List ℕ) → asked oid purpose → TakesBody purpose → IsTakingFault g held image now_held now (place_of oid) fault
      → IsFaultOver g held image units asked fault
  of_record : (place : Place) → IsRecordDamage g held image asked place fault → IsFaultOver g held image units asked fault
  of_root : IsRootDamage g image asked fault → IsFaultOver g held image units asked fault
  of_tree : (oid : Oid) (root : Root) → IsRootAt image oid root → IsRootFault g units root fault → IsFaultOver g held image units asked fault

-- The images are those of before, but that the catalog has another next number.
pub record IsCounted (image now : ℕ → List ℕ) : Type 0 where
  pub next : ℕ
  pub catalog : CatalogOf (now catalog_no) (catalog_numbered next (catalog_on (image catalog_no)))
  pub others : (page : ℕ) → page ≢ catalog_no → now page ≡ image page

-- The fault is told of the volume as it stands, or once a number was counted in its catalog.
pub data IsVolumeFault (g : Geometry) (held : ℕ → Bool) (image : ℕ → List ℕ) (units : Units) (asked : Oid → Purpose → Type 0) (fault : PortFault) : Type 0 where
  as_it_is : IsFaultOver g held image units asked fault → IsVolumeFault g held image units asked fault
  once_counted : (now : ℕ → List ℕ) → IsCounted image now → IsFaultOver g held now units asked fault → IsVolumeFault g held image units asked fault

-- The page is damaged so: what is wanted of it and what is got of it are what such a fault tells.
abbrev pub IsDamageOf : Geometry → (ℕ → Bool) → (ℕ → List ℕ) → Units → (Oid → Purpose → Type 0) → PageNo → Seen → Seen → Type 0
IsDamageOf g held image units asked page want got = IsVolumeFault g held image units asked (Damaged page want got)
