-- A version of a volume at rest, as a port over the volume has it: its tree is whole, and may be moved.
use Rattle.std.proofs.Common.{◌≡◌, ◌≢◌, ◌∙◌, ◌≤◌, ℕ, Bool, true, false, true≢false, List, [], ◌∷◌, Some, refl, sym, ap, subst, arith, inl}
use Rattle.std.specs.Prelude.{Contains}
use Rattle.std.specs.List.{AllByRecursion}
use Rattle.ex_base.specs.declared.geometry.Geometry.{Geometry}
use Rattle.ex_base.specs.declared.ground.Ground as ground
use Rattle.ex_base.specs.declared.names.Area.{Area}
use Rattle.ex_base.specs.declared.names.Area.TheVariants.{Page, Segment}
use Rattle.ex_base.specs.declared.names.Index.{Index}
use Rattle.ex_base.specs.declared.names.Oid.{Oid}
use Rattle.ex_base.specs.declared.names.PageNo.{PageNo}
use Rattle.ex_base.specs.declared.names.Root.{Root}
use Rattle.ex_base.specs.Area.{catalog_no}
use Rattle.ex_base.specs.Ports.{times}
use Rattle.ex_base.proofs.Counts.{contains_times}
use Rattle.ex_base.proofs.Each.{each_as}
use Rattle.ex_base.proofs.Members.{In, from_flat, in_contains, into_flat, of_each}
use Rattle.disk_model.specs.Outside.{Outside}
use Rattle.file_index.specs.Index.{IsFilesPage}
use Rattle.file_index.proofs.Heights.{keys_of_pages}
use Rattle.file_bodies.specs.Bodies.{pages_in}
use Rattle.file_bodies.proofs.Rows.{each_at}
use Rattle.object_files.specs.Catalog.{FileEntry}
use Rattle.object_records.specs.Record.{Content, Large}
use Rattle.page_alloc.specs.UnitSet.{free_count, used_at}
use Rattle.trees.specs.Damage.{IsWhole}
use Rattle.trees.specs.Made.{Has}
use Rattle.trees.specs.Trees.{IsNamed, Units, root_units, units_on}
use Rattle.versions.specs.Versions.{AreInUse, HasRecord, HasVersion, IsTreeUnit, place_of}
use Rattle.volume_model.specs.Links.{Apart, HasObjects, stored_units}
use Rattle.volume_model.specs.Volume.{Decoded, FileContent, Stored, Volume, content_in, file_pages, root_in, roots_in, stored_in, units_of}
use Rattle.volume_edits.specs.Ported.{IsVolume, ShowsVolume, index_named, units_in}
use Rattle.volume_edits.proofs.Contents.{Beside, pairs}
use Rattle.volume_edits.proofs.Finding.{beside_file}
use Rattle.volume_edits.proofs.Frames.{IsTreeOf}
use Rattle.volume_edits.proofs.Showing.{IsRoot, content_spells, roots_here, stands_in}
use Rattle.volume_edits.proofs.VolumeTrees.{IsFine, IsVolumeTree, own_units, volume_trees, whole_tree}
use Rattle.volume_moves.specs.Moves.{AreOfOneObject, IsObjectUnit}
use Rattle.volume_port.specs.State.{IsAtRest}
use Rattle.volume_port.specs.declared.state.VolumeState.{VolumeState}
use Rattle.compact.specs.High.{free_below}
use Rattle.compact.specs.Moved.{Copies, IsSent, IsSoundPair, MayMove, leaves_left, nodes_left}
use Rattle.packing.specs.Moving.{CopiesAreAway, CopiesAreOwn}
use Rattle.packing.specs.Resting.{CopyIsOwn, HasOwnCopies, HasRoomFor, IsOwnCopy}
use Rattle.packing.specs.declared.objects.LargeVersion.{LargeVersion}
use Rattle.packing.proofs.AtRest.{IsPortWith, at_rest, in_use_at_rest, stored_at_rest, units_at_rest}
use Rattle.packing.proofs.Away.{away}
use Rattle.packing.proofs.RootTrees.{few_low}

module _ {S : Type 0} (g : ground.Ghosts S) (a : S) (w : Outside) (old : VolumeState) (over : IsPortWith g a w old) (d : Decoded) (disk : List ℕ) (rests : IsAtRest w old d disk) (dense : ℕ) (moves : Copies) (version : LargeVersion) (own : HasOwnCopies old d disk dense moves version) where
  abbrev v : Volume
  v = d.volume

  abbrev A : Units
  A = units_of d disk

  abbrev root : Root
  root = version.root

  pub shows : ShowsVolume g a [] v
  shows = at_rest g a w old over.port d disk rests

  pub volume : IsVolume g a [] v
  volume = in_use_at_rest g a w old over.port d disk rests over.used

  pub units_are : g.unit a ≡ A
  units_are = units_at_rest g a w old over.port d disk rests

  pub geometry_is : g.geometry a ≡ d.geometry
  geometry_is = over.port.geometry ∙ sym rests.geometry

  pub in_use : AreInUse g a
  in_use page held = ap (λ (f : ℕ → Bool). f page) over.used ∙ rests.ready.in_use page (sym (ap (λ (f : ℕ → Bool). f page) over.port.held) ∙ held)

  -- what is no logged page of the port is no page of the volume
  pub not_paged : (u : ℕ) → g.held a u ≡ false → Contains (catalog_no ∷ file_pages v) u → ⊥
  not_paged u off there = true≢false (sym ((shows.held u).1 there) ∙ off)

  -- ---- its record

  stored_here : In own.stored (stored_in v)
  stored_here = in_contains own.stored (stored_in v) own.there

  file_of : (f : FileContent) × In f v.files × In own.stored f.stored
  file_of = from_flat (λ (f : FileContent). f.stored) own.stored v.files stored_here

  abbrev f : FileContent
  f = file_of.0

  entry_of : (e : FileEntry) × Beside v.catalog.entries v.files e f
  entry_of = beside_file v.catalog.entries v.files f (pairs g a [] v shows) file_of.1

  pub index : Index
  index = index_named entry_of.0

  record_here : HasRecord g a index version.oid own.stored.body
  unfolding index
  record_here = stands_in g a [] v shows own.stored entry_of.0 f version.oid entry_of.1 file_of.2 own.oid

  has_record : HasRecord g a index version.oid (record { head = own.stored.body.head; content = Large root })
  has_record = subst (λ (c : Content). HasRecord g a index version.oid (record { head = own.stored.body.head; content = c })) own.large record_here

  -- ---- its tree

  root_here : In root (roots_in (stored_in v))
  root_here = into_flat (λ (s : Stored). root_in s.body.content) root own.stored (stored_in v) stored_here (subst (λ (c : Content). In root (root_in c)) (sym own.large) (inl refl))

  tree : IsVolumeTree g a root
  tree = of_each (IsVolumeTree g a) root (roots_in (stored_in v)) (volume_trees g a [] v volume) root_here

  fine : AllByRecursion (IsFine g a) (root_units (units_in g a) root)
  fine = each_as (IsTreeOf g a) (IsFine g a) (root_units (units_in g a) root) (λ u k. (k.1, k.2)) tree.tree

  pub whole : IsWhole (g.geometry a) (g.unit a) root
  whole = whole_tree g a shows.apart root (tree.named, tree.balance) fine ((shows.held catalog_no).1 (0, omega arith, refl))

  pub tree_units : AllByRecursion (IsTreeUnit g a) (root_units (g.unit a) root)
  tree_units = subst (AllByRecursion (IsTreeUnit g a)) (sym (own_units g a shows.apart root (tree.named, tree.balance) fine)) fine

  pub bytes : List ℕ
  bytes = content_in (units_in g a) (Large root)

  roots_of : AllByRecursion (IsRoot g a [] v shows) (root_in (Large root))
  roots_of = subst (λ (c : Content). AllByRecursion (IsRoot g a [] v shows) (root_in c)) own.large (roots_here g a [] v shows own.stored stored_here)

  pub has_version : HasVersion g a index version.oid own.stored.body.head (Large root) bytes
  unfolding bytes
  has_version = record { stored = has_record; spells = content_spells g a [] v shows (Large root) roots_of; units = tree_units }

  -- the catalog isn't its page
  pub other_page : catalog_no ≢ version.oid.page.0
  other_page same =
      let file = has_record.stands.file in
      let named : 1 ≤ times version.oid.page.0 (pages_in (g.image a) index) = contains_times version.oid.page.0 (pages_in (g.image a) index) has_record.stands.named in
      let lies = each_at (IsFilesPage (g.geometry a)) (pages_in (g.image a) index) version.oid.page.0 (keys_of_pages (g.geometry a) index.file_no (g.image a) index.level index.root file.whole) named in
      lies.1 (sym same)

  pub catalog_held : g.held a catalog_no ≡ true
  catalog_held = (shows.held catalog_no).1 (0, omega arith, refl)

  -- ---- its copies

  named_at : (level page : ℕ) → IsNamed (g.geometry a) (g.unit a) level page → IsNamed d.geometry A level page
  named_at level page is = subst (λ (x : Geometry). IsNamed x A level page) geometry_is (subst (λ (units : Units). IsNamed (g.geometry a) units level page) units_are is)

  inside_at : (page : ℕ) → Has (root_units (g.unit a) root) page → Has (root_units A root) page
  inside_at page is = subst (λ (units : Units). Has (root_units units root) page) units_are is

  own_at : (level page : ℕ) (copy : PageNo) → Has (root_units (g.unit a) root) page → moves page ≡ Some copy → IsNamed (g.geometry a) (g.unit a) level page → IsOwnCopy old d disk dense moves own.stored level page copy
  own_at level page copy inside sent named = own.copies level page copy (inside_at page inside) sent (named_at level page named)

  pub copies_away : CopiesAreAway g a moves (root_units (g.unit a) root)
  copies_away = away g a [] v shows moves (root_units (g.unit a) root) (λ level page copy inside sent named.
      subst (λ (units : Units). AllByRecursion (λ p. Contains (catalog_no ∷ file_pages v) p → ⊥) (units_on units level copy.0)) (sym units_are)
      (each_as (CopyIsOwn d disk own.stored) (λ p. Contains (catalog_no ∷ file_pages v) p → ⊥) (units_on A level copy.0) (λ p is. is.1) (own_at level page copy inside sent named).own))

  -- objects are told over the port's units as over the volume's
  told_over : HasObjects (units_in g a) (stored_in v) → HasObjects A (stored_in v)
  told_over told = record {
    object = told.object;
    joined = told.joined;
    one_first = told.one_first;
    apart = λ s t here there differ.
        subst (λ (us : List ℕ). Apart us (stored_units A t)) (sym (stored_at_rest g a w old over.port d disk rests s here))
        (subst (λ (us : List ℕ). Apart (stored_units (units_in g a) s) us) (sym (stored_at_rest g a w old over.port d disk rests t there)) (told.apart s t here there differ));
  }

  same_object : (s : Stored) → AreOfOneObject A (stored_in v) s.place own.stored.place → AreOfOneObject (units_in g a) (stored_in v) s.place (place_of version.oid)
  unfolding told_over
  same_object s one told = one (told_over told) ∙ ap (λ (oid : Oid). told.object (place_of oid)) own.oid

  pub copies_own : CopiesAreOwn g a v (place_of version.oid) moves root
  copies_own = λ level page copy inside sent named.
      subst (λ (units : Units). AllByRecursion (IsObjectUnit g a v (place_of version.oid) root) (units_on units level copy.0)) (sym units_are)
      (each_as (CopyIsOwn d disk own.stored) (IsObjectUnit g a v (place_of version.oid) root) (units_on A level copy.0)
      (λ u is. IsObjectUnit.apart (λ s here has. same_object s (is.0 s here (subst (λ (us : List ℕ). Contains us u) (sym (stored_at_rest g a w old over.port d disk rests s here)) has))))
      (own_at level page copy inside sent named).own)

  -- ---- it may be moved

  sound_at : (level page : ℕ) (copy : PageNo) → IsSoundPair d.geometry A (used_at old.units) dense level page copy.0 → IsSoundPair (g.geometry a) (g.unit a) (g.used a) dense level page copy.0
  sound_at level page copy sound =
      subst (λ (x : Geometry). IsSoundPair x (g.unit a) (g.used a) dense level page copy.0) (sym geometry_is)
      (subst (λ (units : Units). IsSoundPair d.geometry units (g.used a) dense level page copy.0) (sym units_are)
      (subst (λ (used : ℕ → Bool). IsSoundPair d.geometry A used dense level page copy.0) (sym over.used) sound))

  sent_at : (level page : ℕ) → IsSent d.geometry dense A moves level page → IsSent (g.geometry a) dense (g.unit a) moves level page
  sent_at level page sent = subst (λ (x : Geometry). IsSent x dense (g.unit a) moves level page) (sym geometry_is) (subst (λ (units : Units). IsSent d.geometry dense units moves level page) (sym units_are) sent)

  free_is : (area : Area) → g.free a area ≡ free_count old.geometry (used_at old.units) area
  free_is area = ap (λ (free : Area → ℕ). free area) over.free ∙ ap (λ (x : Geometry). free_count x (used_at old.units) area) rests.ready.fits.counted.geometry

  pub may_move : HasRoomFor old d disk dense moves root → MayMove g a dense moves root
  may_move room =
      let nodes : nodes_left (g.geometry a) dense (g.unit a) moves root ≡ nodes_left d.geometry dense A moves root =
      ap (λ (x : Geometry). nodes_left x dense (g.unit a) moves root) geometry_is ∙ ap (λ (units : Units). nodes_left d.geometry dense units moves root) units_are in
      let leaves : leaves_left (g.geometry a) dense (g.unit a) moves root ≡ leaves_left d.geometry dense A moves root =
      ap (λ (x : Geometry). leaves_left x dense (g.unit a) moves root) geometry_is ∙ ap (λ (units : Units). leaves_left d.geometry dense units moves root) units_are in
      let low : free_below (g.geometry a) (g.used a) dense ≡ free_below d.geometry (used_at old.units) dense =
      ap (λ (x : Geometry). free_below x (g.used a) dense) geometry_is ∙ ap (λ (used : ℕ → Bool). free_below d.geometry used dense) over.used in
      let segs : free_count d.geometry (used_at old.units) Segment ≡ free_count old.geometry (used_at old.units) Segment = ap (λ (x : Geometry). free_count x (used_at old.units) Segment) rests.geometry in
      record {
        whole = whole;
        used = each_as (IsTreeUnit g a) (λ p. g.used a p ≡ true) (root_units (g.unit a) root) (λ p is. is.0) tree_units;
        sound = λ level page copy inside sent named. (let own = own_at level page copy inside sent named in (sound_at level page copy own.sound, sent_at level page own.sent));
        pages = omega (arith, nodes, room.pages, free_is Page);
        leaves = omega (arith, leaves, room.leaves, few_low d.geometry (used_at old.units) dense room.low, segs, free_is Segment);
        low = omega (arith, leaves, room.leaves, low);
      }
