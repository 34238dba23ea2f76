-- What the calls on versions tell is told of the volume.
use Rattle.std.proofs.Common.{◌≡◌, ◌⊎◌, ◌∙◌, ℕ, Bool, List, length, Option, None, Some, refl, sym, subst, inl, inr}
use Rattle.std.specs.Prelude.{IfSome}
use Rattle.std.proofs.lemmas.Option.{same_Some}
use Rattle.ex_base.specs.declared.faults.PortFault.{PortFault}
use Rattle.ex_base.specs.declared.faults.PortFault.TheVariants as port
use Rattle.ex_base.specs.declared.geometry.Geometry.{Geometry}
use Rattle.ex_base.specs.declared.ground.Ground as ground
use Rattle.ex_base.specs.declared.names.Oid.{Oid}
use Rattle.ex_base.specs.declared.names.Place.{Place}
use Rattle.ex_base.specs.declared.names.Root.{Root}
use Rattle.ex_base.specs.Area.{catalog_no}
use Rattle.ex_base.specs.Ports.{IsDamage, Keeps}
use Rattle.ex_base.specs.declared.names.Index.{Index}
use Rattle.object_records.specs.Record.{Content, Small, Large, Record, BodyOf}
use Rattle.file_bodies.specs.Files.{HasBody, HasFile}
use Rattle.file_bodies.specs.Damage as files
use Rattle.file_bodies.specs.Damage.{IsCatalogFault}
use Rattle.file_bodies.specs.declared.placing.Room.{Room}
use Rattle.trees.specs.Trees.{Units}
use Rattle.trees.specs.Damage as trees
use Rattle.versions.specs.Edited.{IsEditable, held_in}
use Rattle.versions.specs.Versions.{Change, HasRecord, StaysSmall, changed, place_of}
use Rattle.versions.specs.Damage as versions
use Rattle.versions.specs.Damage.{StandsOn, IsBodyFault, IsBytesFault, IsFindingFault, IsVersionFault, no_tree, record_fault}
use Rattle.version_tree.specs.Linked.{head_in}
use Rattle.version_tree.specs.Links as links
use Rattle.version_tree.specs.Links.{HasNeighbours, HasSomeRecord, IsDerivedFault, IsLinkedFault, IsNewerFault, IsOlderFault, IsReadingFault, IsRecordFault, IsStartFault, IsStoredFault, IsWalkFault, LacksNeighbours}
use Rattle.version_tree.specs.Copies as copies
use Rattle.version_tree.specs.Copies.{IsCopyFault, IsDerivingFault, IsFreezingFault, IsOutOf}
use Rattle.version_tree.specs.Removals as removals
use Rattle.version_tree.specs.Removals.{IsDroppingFault, IsTakingOutFault}
use Rattle.volume_edits.specs.Damage as damage
use Rattle.volume_edits.specs.Damage.{IsFaultOver, IsRecordDamage, IsRootDamage, IsVolumeFault}
use Rattle.volume_edits.specs.Purposes.{FitsBeside, HasRecordIn, HasRelativesIn, HasSomeRecordIn, IsAmiss, IsAstray, IsChangeable, IsOffPages, IsUnfit, IsWholeFile, NoFileHas, Purpose}
use Rattle.volume_edits.specs.Purposes.{ToChange, ToDerive, ToDrop, ToFreeze, ToRelate, ToRemove, no_record, no_relatives, no_version, not_derived, not_frozen, nowhere, off_pages, otherwise}
use Rattle.object_files.specs.Catalog.{CatalogOf}
use Rattle.object_files.specs.Reads.{catalog_on}
use Rattle.volume_edits.specs.Edits.{WritesCatalog, catalog_numbered}

module _ (g : Geometry) (held : ℕ → Bool) (image : ℕ → List ℕ) (units : Units) (asked : Oid → Purpose → Type 0) where
  abbrev IsHere : PortFault → Type 0
  IsHere fault = IsFaultOver g held image units asked fault

  abbrev IsRecordHere : Place → PortFault → Type 0
  IsRecordHere place fault = IsRecordDamage g held image asked place fault

  -- a damage tells of a record at a place
  told_of : (place : Place) (fault : PortFault) → (IsDamage fault → fault ≡ record_fault place → IsRecordHere place fault) → IsRecordFault place fault → IsHere fault
  told_of place port.Disk told is = damage.ports_own (λ none. none)
  told_of place port.Memory told is = damage.ports_own (λ none. none)
  told_of place (port.Damaged page want got) told is = damage.of_record place (told tt (is tt))

  pub told_catalog : (fault : PortFault) → IsCatalogFault (image catalog_no) fault → IsHere fault
  told_catalog fault is = damage.of_page catalog_no (files.broken_catalog is)

  -- ---- the look for a version, and its bytes

  of_body : (oid : Oid) (body : List ℕ) (fault : PortFault) → StandsOn image (place_of oid) body → IsBodyFault g oid body fault → IsHere fault
  of_body oid body fault stands (versions.no_record isnt is) =
      damage.of_record (place_of oid) (damage.unreadable (record { body = body; stands = stands; isnt = isnt }) is)
  of_body oid body fault stands (versions.bad_root is root spelled number large out told) =
      damage.of_root (damage.recorded oid root (record { body = body; stands = stands; is = is; spelled = spelled; large = large }) out told)

  pub told_finding : (oid : Oid) (fault : PortFault) → IsFindingFault g image oid fault → IsHere fault
  told_finding oid fault (versions.in_file is) = damage.of_page oid.page.0 is
  told_finding oid fault (versions.at_place body stands is) = of_body oid body fault stands is

  -- the record of the version isn't as the purpose asks
  pub told_unfit : (oid : Oid) (purpose : Purpose) (fault : PortFault) → asked oid purpose → IsUnfit g held image oid purpose → fault ≡ record_fault (place_of oid) → IsHere fault
  told_unfit oid purpose fault own unfit is = damage.of_record (place_of oid) (damage.asked_for oid purpose own unfit refl is)

  of_bytes : {Unlike : Type 0} (oid : Oid) (purpose : Purpose) (root : Root) (fault : PortFault) → asked oid purpose → (Unlike → IsUnfit g held image oid purpose) → (trees.IsRootFault g units root fault → IsHere fault)
      → IsBytesFault g units oid root Unlike fault → IsHere fault
  of_bytes oid purpose root fault own unfit in_tree (versions.ports_own is) = damage.ports_own is
  of_bytes oid purpose root fault own unfit in_tree (versions.in_tree is) = in_tree is
  of_bytes oid purpose root fault own unfit in_tree (versions.unlike lacks is) = told_unfit oid purpose fault own (unfit lacks) is
  of_bytes oid purpose root fault own unfit in_tree (versions.bad_made made out is) = damage.of_root (damage.made oid purpose made own out is)

  no_tree_told : (fault : PortFault) → trees.IsRootFault g units no_tree fault → IsHere fault
  no_tree_told port.Disk is = damage.ports_own (λ none. none)
  no_tree_told port.Memory is = damage.ports_own (λ none. none)
  no_tree_told (port.Damaged page want got) is = absurd is

  pub told_version : {Unlike : Type 0} (oid : Oid) (purpose : Purpose) (fault : PortFault) → asked oid purpose → (Unlike → IsUnfit g held image oid purpose) → IsVersionFault g units image oid Unlike fault → IsHere fault
  told_version oid purpose fault own unfit (versions.looking is) = told_finding oid fault is
  told_version oid purpose fault own unfit (versions.not_asked lacks is) = told_unfit oid purpose fault own (unfit lacks) is
  told_version oid purpose fault own unfit (versions.small at is) = of_bytes oid purpose no_tree fault own unfit (no_tree_told fault) is
  told_version oid purpose fault own unfit (versions.large root at is) = of_bytes oid purpose root fault own unfit (damage.of_tree oid root at) is

  -- ---- links

  start_told : (place : Place) (fault : PortFault) → (IsOffPages g image place → fault ≡ record_fault place → IsRecordHere place fault) → IsStartFault g image place fault → IsHere fault
  start_told place port.Disk told is = damage.ports_own (λ none. none)
  start_told place port.Memory told is = damage.ports_own (λ none. none)
  start_told place (port.Damaged page want got) told is = damage.of_record place (told (is tt).1 (is tt).0)

  pub told_start : (oid : Oid) (purpose : Purpose) (fault : PortFault) → asked oid purpose → (IsOffPages g image (place_of oid) → IsUnfit g held image oid purpose) → IsStartFault g image (place_of oid) fault → IsHere fault
  told_start oid purpose fault own unfit is = start_told (place_of oid) fault (λ off. damage.asked_for oid purpose own (unfit off) refl) is

  walk_told : (place : Place) (fault : PortFault) → (IsOffPages g image place → fault ≡ record_fault place → IsRecordHere place fault) → IsWalkFault g image place fault → IsHere fault
  walk_told place fault told (links.at_start is) = start_told place fault told is
  walk_told place fault told (links.on_way page is) = damage.of_walk _ is

  pub told_walk : (oid : Oid) (fault : PortFault) → asked oid ToRelate → IsWalkFault g image (place_of oid) fault → IsHere fault
  told_walk oid fault own is = walk_told (place_of oid) fault (λ off. damage.asked_for oid ToRelate own (off_pages off) refl) is

-- ---- records of whole files

module _ {S : Type 0} (g : ground.Ghosts S) (s : S) where
  whole_file : (index : Index) → IsWholeFile (g.geometry s) (g.held s) (g.image s) index → HasFile g s index
  whole_file index is = record {
    catalog = record { whole = is.catalog; held = is.catalog_held };
    entry = is.entry;
    whole = is.whole;
    pages = is.pages;
    once = is.once;
  }

  pub body_has : (index : Index) (place : Place) (body : List ℕ) (is : Record) → HasRecordIn (g.geometry s) (g.held s) (g.image s) index place body is → HasBody g s index place body
  body_has index place body is has = record { file = whole_file index has.file; named = has.named; stands = has.stands }

  some_record : (index : Index) (o : Option Place) → IfSome o (HasSomeRecordIn (g.geometry s) (g.held s) (g.image s) index) → IfSome o (HasSomeRecord g s index)
  some_record index None has = tt
  some_record index (Some place) has = record { body = has.body; has = body_has index place has.body has.is has.has; is = has.is; spelled = has.has.spelled }

  relatives_has : (index : Index) (place : Place) (body : List ℕ) → HasRelativesIn (g.geometry s) (g.held s) (g.image s) index place body → HasNeighbours g s index place body
  relatives_has index place body all = record {
    has = body_has index place body all.is all.has;
    is = all.is;
    spelled = all.has.spelled;
    older = some_record index all.is.head.older all.older;
    newer = some_record index all.is.head.newer all.newer;
  }

  -- the room is of the file that has the version
  abbrev pub IsRoomOf : Room → Oid → Type 0
  IsRoomOf room oid = (index : Index) (body : List ℕ) → HasBody g s index (place_of oid) body → index.file_no ≡ room.file_no

  no_file_has : (room : Room) (oid : Oid) (body : List ℕ) → StandsOn (g.image s) (place_of oid) body → IsRoomOf room oid → IsOutOf g s room (place_of oid) body → NoFileHas (g.geometry s) (g.held s) (g.image s) oid
  no_file_has room oid body stands filed out index there is has number =
      let same : there ≡ body = same_Some there body (sym has.stands ∙ stands) in
      let has_body : HasBody g s index (place_of oid) there = body_has index (place_of oid) there is has in
      out index is (subst (λ (b : List ℕ). HasBody g s index (place_of oid) b) same has_body) (subst (λ (b : List ℕ). BodyOf b is) same has.spelled) (filed index there has_body)

  no_file_of : (oid : Oid) → ((index : Index) (is : Record) → HasRecord g s index oid is → ⊥) → NoFileHas (g.geometry s) (g.held s) (g.image s) oid
  no_file_of oid isnt index body is has number = isnt index is (record { body = body; stands = body_has index (place_of oid) body is has; spelled = has.spelled; number = number })

  fits_beside : (place : Place) (content : Content) (n : ℕ) → FitsBeside (g.geometry s) (g.image s) place content n → StaysSmall g s place content n
  fits_beside place (Small held) n fits = fits
  fits_beside place (Large root) n fits = fits

  editable : (oid : Oid) (change : Change) → IsChangeable (g.geometry s) (g.held s) (g.image s) oid change (g.used s) (g.free s) → IsEditable g s oid change
  editable oid change is = record {
    index = is.index;
    is = is.is;
    has = record { body = is.body; stands = body_has is.index (place_of oid) is.body is.is is.has; spelled = is.has.spelled; number = is.number };
    in_use = is.in_use;
    current = is.current;
    range = is.range;
    need = λ grows. is.need (λ fits. grows (fits_beside (place_of oid) is.is.content (length (changed change (held_in is.is.content))) fits));
  }

  -- a version that can't be changed so
  pub unchangeable : (oid : Oid) (change : Change) → (IsEditable g s oid change → ⊥) → IsUnfit (g.geometry s) (g.held s) (g.image s) oid (ToChange change (g.used s) (g.free s))
  unchangeable oid change isnt is = isnt (editable oid change is)

module _ {S : Type 0} (g : ground.Ghosts S) (s : S) (asked : Oid → Purpose → Type 0) where
  abbrev IsTold : PortFault → Type 0
  IsTold fault = IsFaultOver (g.geometry s) (g.held s) (g.image s) (g.unit s) asked fault

  abbrev IsAmissHere : Oid → (List ℕ → Type 0) → Type 0
  IsAmissHere oid Asked = IsAmiss (g.geometry s) (g.held s) (g.image s) oid Asked

  abbrev IsAstrayHere : Place → List ℕ → Place → Type 0
  IsAstrayHere from body place = IsAstray (g.geometry s) (g.held s) (g.image s) from body place

  abbrev Names : List ℕ → Place → Type 0
  Names body place = ((head_in body).older ≡ Some place) ⊎ ((head_in body).newer ≡ Some place)

  unfit_told : (oid : Oid) (purpose : Purpose) (fault : PortFault) → asked oid purpose → IsUnfit (g.geometry s) (g.held s) (g.image s) oid purpose → fault ≡ record_fault (place_of oid) → IsTold fault
  unfit_told oid purpose fault own unfit is = told_unfit (g.geometry s) (g.held s) (g.image s) (g.unit s) asked oid purpose fault own unfit is

  -- the fault tells of the record that a link of a standing record names
  by_link : (from place : Place) (body : List ℕ) (fault : PortFault) → StandsOn (g.image s) from body → Names body place → IsAstrayHere from body place
      → fault ≡ record_fault place → IsRecordDamage (g.geometry s) (g.held s) (g.image s) asked place fault
  by_link from place body fault stands link astray is = damage.linked (record { from = from; body = body; stands = stands; link = link }) astray is

  astray_told : (from place : Place) (body : List ℕ) (fault : PortFault) → StandsOn (g.image s) from body → Names body place → IsAstrayHere from body place → fault ≡ record_fault place → IsTold fault
  astray_told from place body fault stands link astray is = damage.of_record place (by_link from place body fault stands link astray is)

  linked_told : (from place : Place) (body : List ℕ) (fault : PortFault) → StandsOn (g.image s) from body → Names body place → (IsDamage fault → LacksNeighbours g s from body)
      → IsRecordFault place fault → IsTold fault
  linked_told from place body fault stands link lacks is =
      told_of (g.geometry s) (g.held s) (g.image s) (g.unit s) asked place fault
      (λ some. by_link from place body fault stands link (no_relatives (λ index all. lacks some index (relatives_has g s index from body all)))) is

  stored_told : (from place : Place) (body : List ℕ) (fault : PortFault) → StandsOn (g.image s) from body → Names body place → IsStoredFault g s place fault → IsTold fault
  stored_told from place body fault stands link (links.read_own is) = damage.ports_own is
  stored_told from place body fault stands link (links.in_its_file is) = damage.of_page place.page.0 is
  stored_told from place body fault stands link (links.no_record isnt is) =
      astray_told from place body fault stands link
      (no_record (λ index some. isnt some.body some.is (record { index = index; has = body_has g s index place some.body some.is some.has }) some.has.spelled)) is

  older_told : (from : Place) (body : List ℕ) (fault : PortFault) → StandsOn (g.image s) from body → IsOlderFault g s (head_in body) fault → IsTold fault
  older_told from body fault stands (links.at_older place link is) = stored_told from place body fault stands (inl link) is
  older_told from body fault stands (links.not_frozen place older link there isnt is) = astray_told from place body fault stands (inl link) (not_frozen older link there isnt) is
  older_told from body fault stands (links.not_below place older link there frozen below is) =
      damage.of_record place (damage.not_below (record { from = from; body = body; stands = stands; link = inl link }) older link frozen there below is)

  newer_told : (from : Place) (body : List ℕ) (fault : PortFault) → StandsOn (g.image s) from body → IsNewerFault g s from (head_in body) fault → IsTold fault
  newer_told from body fault stands (links.at_newer place link is) = stored_told from place body fault stands (inr link) is
  newer_told from body fault stands (links.not_derived place newer link there isnt is) = astray_told from place body fault stands (inr link) (not_derived newer link there isnt) is
  newer_told from body fault stands (links.not_above place newer link there frozen above is) =
      damage.of_record place (damage.not_above (record { from = from; body = body; stands = stands; link = inr link }) newer link frozen there above is)

  reading_told : (oid : Oid) (purpose : Purpose) (fault : PortFault) → asked oid purpose → (NoFileHas (g.geometry s) (g.held s) (g.image s) oid → IsUnfit (g.geometry s) (g.held s) (g.image s) oid purpose)
      → IsReadingFault g s oid fault → IsTold fault
  reading_told oid purpose fault own unfit (links.ports_own is) = damage.ports_own is
  reading_told oid purpose fault own unfit (links.by_look is) = told_finding (g.geometry s) (g.held s) (g.image s) (g.unit s) asked oid fault is
  reading_told oid purpose fault own unfit (links.no_version isnt is) = unfit_told oid purpose fault own (unfit (no_file_of g s oid isnt)) is

  -- What a call tells that goes on from the record of a version.
  goes_on : (oid : Oid) (purpose : Purpose) (Told : List ℕ → Type 0) (fault : PortFault) → asked oid purpose → (NoFileHas (g.geometry s) (g.held s) (g.image s) oid → IsUnfit (g.geometry s) (g.held s) (g.image s) oid purpose)
      → ((body : List ℕ) → StandsOn (g.image s) (place_of oid) body → Told body → IsTold fault) → IsLinkedFault g s oid Told fault → IsTold fault
  goes_on oid purpose Told fault own unfit rest (links.of_version is) = reading_told oid purpose fault own unfit is
  goes_on oid purpose Told fault own unfit rest (links.of_body body stands is) = rest body stands is

  derived_told : (oid : Oid) (body : List ℕ) (fault : PortFault) → asked oid ToRelate → StandsOn (g.image s) (place_of oid) body → IsDerivedFault g s (place_of oid) body fault → IsTold fault
  derived_told oid body fault own stands (links.by_newer is) = newer_told (place_of oid) body fault stands is
  derived_told oid body fault own stands (links.by_walk none is) = told_walk (g.geometry s) (g.held s) (g.image s) (g.unit s) asked oid fault own is

  -- the relatives of a version
  pub told_versions : (oid : Oid) (fault : PortFault) → asked oid ToRelate → IsLinkedFault g s oid (λ body. IsWalkFault (g.geometry s) (g.image s) (place_of oid) fault) fault → IsTold fault
  told_versions oid fault own is = goes_on oid ToRelate (λ body. IsWalkFault (g.geometry s) (g.image s) (place_of oid) fault) fault own no_version
      (λ body stands walk. told_walk (g.geometry s) (g.held s) (g.image s) (g.unit s) asked oid fault own walk) is

  pub told_derived : (oid : Oid) (fault : PortFault) → asked oid ToRelate → IsLinkedFault g s oid (λ body. IsDerivedFault g s (place_of oid) body fault) fault → IsTold fault
  told_derived oid fault own is = goes_on oid ToRelate (λ body. IsDerivedFault g s (place_of oid) body fault) fault own no_version (λ body stands. derived_told oid body fault own stands) is

  pub told_older : (oid : Oid) (fault : PortFault) → asked oid ToRelate → IsLinkedFault g s oid (λ body. IsOlderFault g s (head_in body) fault) fault → IsTold fault
  told_older oid fault own is = goes_on oid ToRelate (λ body. IsOlderFault g s (head_in body) fault) fault own no_version (λ body stands. older_told (place_of oid) body fault stands) is

  -- ---- copies

  -- the room is of the file that has the version
  copy_told : (room : Room) (oid : Oid) (purpose : Purpose) (body : List ℕ) (fault : PortFault) → asked oid purpose → (NoFileHas (g.geometry s) (g.held s) (g.image s) oid → IsUnfit (g.geometry s) (g.held s) (g.image s) oid purpose)
      → StandsOn (g.image s) (place_of oid) body → IsRoomOf g s room oid → (IsDamage fault → IsOutOf g s room (place_of oid) body)
      → IsCopyFault (g.geometry s) (g.held s) (g.image s) room (place_of oid) body fault → IsTold fault
  copy_told room oid purpose body fault own unfit stands filed out (copies.uncopied is) =
      told_of (g.geometry s) (g.held s) (g.image s) (g.unit s) asked (place_of oid) fault
      (λ some. damage.asked_for oid purpose own (unfit (no_file_has g s room oid body stands filed (out some))) refl) is
  copy_told room oid purpose body fault own unfit stands filed out (copies.unplaced is) = damage.of_placing room.file_no _ is

  deriving_told : (room : Room) (oid : Oid) (body : List ℕ) (fault : PortFault) → asked oid ToDerive → IsRoomOf g s room oid → StandsOn (g.image s) (place_of oid) body → IsDerivingFault g s room (place_of oid) body fault → IsTold fault
  deriving_told room oid body fault own filed stands (copies.not_asked isnt is) = unfit_told oid ToDerive fault own (otherwise body stands isnt) is
  deriving_told room oid body fault own filed stands (copies.by_copy is out) = copy_told room oid ToDerive body fault own no_version stands filed out is

  freezing_told : (room : Room) (oid : Oid) (body : List ℕ) (fault : PortFault) → asked oid ToFreeze → IsRoomOf g s room oid → StandsOn (g.image s) (place_of oid) body → IsFreezingFault g s room (place_of oid) body fault → IsTold fault
  freezing_told room oid body fault own filed stands (copies.not_current isnt is) = unfit_told oid ToFreeze fault own (otherwise body stands isnt) is
  freezing_told room oid body fault own filed stands (copies.of_older is) = older_told (place_of oid) body fault stands is
  freezing_told room oid body fault own filed stands (copies.of_copy is out) = copy_told room oid ToFreeze body fault own no_version stands filed out is
  freezing_told room oid body fault own filed stands (copies.unturned_older older link is out) =
      linked_told (place_of oid) older body fault stands (inl link) (λ some index all. out some index all (filed index body all.has)) is

  pub told_derive : (room : Room) (oid : Oid) (fault : PortFault) → asked oid ToDerive → IsRoomOf g s room oid → IsLinkedFault g s oid (λ body. IsDerivingFault g s room (place_of oid) body fault) fault → IsTold fault
  told_derive room oid fault own filed is = goes_on oid ToDerive (λ body. IsDerivingFault g s room (place_of oid) body fault) fault own no_version (λ body stands. deriving_told room oid body fault own filed stands) is

  pub told_freeze : (room : Room) (oid : Oid) (fault : PortFault) → asked oid ToFreeze → IsRoomOf g s room oid → IsLinkedFault g s oid (λ body. IsFreezingFault g s room (place_of oid) body fault) fault → IsTold fault
  told_freeze room oid fault own filed is = goes_on oid ToFreeze (λ body. IsFreezingFault g s room (place_of oid) body fault) fault own no_version (λ body stands. freezing_told room oid body fault own filed stands) is

  -- ---- removals, with what stands when they tell it

  module _ (t : S) where
    dropping_told : (oid : Oid) (body : List ℕ) (fault : PortFault) → asked oid ToDrop → StandsOn (g.image s) (place_of oid) body → IsDroppingFault g s t (place_of oid) body fault → IsTold fault
    dropping_told oid body fault own stands (removals.not_asked isnt is) = unfit_told oid ToDrop fault own (otherwise body stands (λ asks. isnt asks.0 asks.1)) is
    dropping_told oid body fault own stands (removals.of_older is) = older_told (place_of oid) body fault stands is
    dropping_told oid body fault own stands (removals.of_newer is) = newer_told (place_of oid) body fault stands is
    dropping_told oid body fault own stands (removals.of_file is) = damage.of_taking oid ToDrop (g.held t) (g.image t) own tt is
    dropping_told oid body fault own stands (removals.unmoved_newer newer link is out) = linked_told (place_of oid) newer body fault stands (inr link) out is
    dropping_told oid body fault own stands (removals.unmoved_older older link is out) = linked_told (place_of oid) older body fault stands (inl link) out is

    leaving_told : (oid : Oid) (body : List ℕ) (fault : PortFault) → asked oid ToRemove → StandsOn (g.image s) (place_of oid) body → IsTakingOutFault g s t (place_of oid) body fault → IsTold fault
    leaving_told oid body fault own stands (removals.not_current isnt is) = unfit_told oid ToRemove fault own (otherwise body stands (λ asks. isnt asks.0)) is
    leaving_told oid body fault own stands (removals.to_older is) = older_told (place_of oid) body fault stands is
    leaving_told oid body fault own stands (removals.no_branch only is) = unfit_told oid ToRemove fault own (otherwise body stands (λ asks. asks.1 only)) is
    leaving_told oid body fault own stands (removals.by_search older link is) =
        walk_told (g.geometry s) (g.held s) (g.image s) (g.unit s) asked older fault (λ off. by_link (place_of oid) older body fault stands (inl link) (nowhere off)) is
    leaving_told oid body fault own stands (removals.by_taking is) = damage.of_taking oid ToRemove (g.held t) (g.image t) own tt is
    leaving_told oid body fault own stands (removals.unnamed older link is out) = linked_told (place_of oid) older body fault stands (inl link) out is

    pub told_drop : (oid : Oid) (fault : PortFault) → asked oid ToDrop → IsLinkedFault g s oid (λ body. IsDroppingFault g s t (place_of oid) body fault) fault → IsTold fault
    told_drop oid fault own is = goes_on oid ToDrop (λ body. IsDroppingFault g s t (place_of oid) body fault) fault own no_version (λ body stands. dropping_told oid body fault own stands) is

    pub told_removal : (oid : Oid) (fault : PortFault) → asked oid ToRemove → IsLinkedFault g s oid (λ body. IsTakingOutFault g s t (place_of oid) body fault) fault → IsTold fault
    told_removal oid fault own is = goes_on oid ToRemove (λ body. IsTakingOutFault g s t (place_of oid) body fault) fault own no_version (λ body stands. leaving_told oid body fault own stands) is

-- ---- more versions that are asked of

module _ (g : Geometry) (held : ℕ → Bool) (image : ℕ → List ℕ) (few many : Oid → Purpose → Type 0) (wider : (oid : Oid) (purpose : Purpose) → few oid purpose → many oid purpose) where
  record_wider : (place : Place) (fault : PortFault) → IsRecordDamage g held image few place fault → IsRecordDamage g held image many place fault
  record_wider place fault (damage.unreadable isnt is) = damage.unreadable isnt is
  record_wider place fault (damage.asked_for oid purpose own unfit at is) = damage.asked_for oid purpose (wider oid purpose own) unfit at is
  record_wider place fault (damage.linked link astray is) = damage.linked link astray is
  record_wider place fault (damage.not_below link body names frozen stands below is) = damage.not_below link body names frozen stands below is
  record_wider place fault (damage.not_above link body names frozen stands above is) = damage.not_above link body names frozen stands above is

  root_wider : (fault : PortFault) → IsRootDamage g image few fault → IsRootDamage g image many fault
  root_wider fault (damage.recorded oid root at out is) = damage.recorded oid root at out is
  root_wider fault (damage.made oid purpose root own out is) = damage.made oid purpose root (wider oid purpose own) out is

  over_wider : (units : Units) (fault : PortFault) → IsFaultOver g held image units few fault → IsFaultOver g held image units many fault
  over_wider units fault (damage.ports_own is) = damage.ports_own is
  over_wider units fault (damage.of_page page is) = damage.of_page page is
  over_wider units fault (damage.of_walk file_no is) = damage.of_walk file_no is
  over_wider units fault (damage.of_placing file_no from is) = damage.of_placing file_no from is
  over_wider units fault (damage.of_taking oid purpose now_held now own takes is) = damage.of_taking oid purpose now_held now (wider oid purpose own) takes is
  over_wider units fault (damage.of_record place is) = damage.of_record place (record_wider place fault is)
  over_wider units fault (damage.of_root is) = damage.of_root (root_wider fault is)
  over_wider units fault (damage.of_tree oid root at is) = damage.of_tree oid root at is

pub fault_wider : (g : Geometry) (held : ℕ → Bool) (image : ℕ → List ℕ) (few many : Oid → Purpose → Type 0) → ((oid : Oid) (purpose : Purpose) → few oid purpose → many oid purpose) → (units : Units) (fault : PortFault)
    → IsVolumeFault g held image units few fault → IsVolumeFault g held image units many fault
fault_wider g held image few many wider units fault (damage.as_it_is is) = damage.as_it_is (over_wider g held image few many wider units fault is)
fault_wider g held image few many wider units fault (damage.once_counted now counted is) = damage.once_counted now counted (over_wider g held now few many wider units fault is)

-- ---- what is told once a number was counted, and after some reading

module _ {S : Type 0} (g : ground.Ghosts S) (asked : Oid → Purpose → Type 0) (fault : PortFault) where
  pub after_count : (old mid : S) (next : ℕ) → WritesCatalog g old mid (catalog_numbered next (catalog_on (g.image old catalog_no))) → IsFaultOver (g.geometry mid) (g.held mid) (g.image mid) (g.unit mid) asked fault
      → IsVolumeFault (g.geometry old) (g.held old) (g.image old) (g.unit old) asked fault
  after_count old mid next writes is =
      let image : g.image mid catalog_no ≡ writes.image = writes.puts.image writes.told in
      let counted : CatalogOf (g.image mid catalog_no) (catalog_numbered next (catalog_on (g.image old catalog_no))) = subst (λ bytes. CatalogOf bytes (catalog_numbered next (catalog_on (g.image old catalog_no)))) (sym image) writes.spelled in
      damage.once_counted (g.image mid) (record { next = next; catalog = counted; others = writes.puts.images })
      (subst (λ x. IsFaultOver x (g.held old) (g.image mid) (g.unit old) asked fault) writes.geometry
      (subst (λ x. IsFaultOver (g.geometry mid) x (g.image mid) (g.unit old) asked fault) writes.puts.held
      (subst (λ x. IsFaultOver (g.geometry mid) (g.held mid) (g.image mid) x asked fault) writes.puts.units is)))

  pub after_reading : (old mid : S) → Keeps g old mid → IsFaultOver (g.geometry mid) (g.held mid) (g.image mid) (g.unit mid) asked fault → IsFaultOver (g.geometry old) (g.held old) (g.image old) (g.unit old) asked fault
  after_reading old mid kept is =
      subst (λ x. IsFaultOver x (g.held old) (g.image old) (g.unit old) asked fault) (g.leads_geometry old mid kept.leads)
      (subst (λ x. IsFaultOver (g.geometry mid) x (g.image old) (g.unit old) asked fault) kept.held
      (subst (λ x. IsFaultOver (g.geometry mid) (g.held mid) x (g.unit old) asked fault) kept.images
      (subst (λ x. IsFaultOver (g.geometry mid) (g.held mid) (g.image mid) x asked fault) kept.units is)))
