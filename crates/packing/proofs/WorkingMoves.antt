-- What a port makes of a volume at rest of which it moves a version's tree, in the words of the volume.
use mathlib.Core.Path.{fun_ext}
use Rattle.std.proofs.Common.{◌≡◌, ◌≢◌, ◌∙◌, ◌+◌, ◌<◌, ◌≤◌, ◌↔◌, ℕ, Bool, true, false, true≢false, List, [], ◌∷◌, ◌++◌, length, Option, Some, None, nat_eq, refl, sym, ap, subst, arith, inl, inr}
use Rattle.std.specs.Prelude.{Contains, unwrap_or}
use Rattle.std.specs.List.{AllByRecursion, flat_map}
use Rattle.std.specs.Map.{lookup}
use Rattle.std.proofs.lemmas.Bool.{both_ways, cases_Bool}
use Rattle.std.proofs.lemmas.List.{append-nil, ext_get_or, nil_from_length}
use Rattle.ex_base.specs.declared.geometry.Geometry.{Geometry}
use Rattle.ex_base.specs.declared.ground.Ground as ground
use Rattle.ex_base.specs.declared.names.Area.{Area}
use Rattle.ex_base.specs.declared.names.Area.TheVariants.{Page, Segment}
use Rattle.ex_base.specs.declared.names.Root.{Root}
use Rattle.ex_base.specs.Area.{InPageArea, IsUnit, area_end, catalog_no}
use Rattle.ex_base.specs.Ports.{refs_most, times}
use Rattle.ex_base.proofs.Counts.{times_contains}
use Rattle.ex_base.proofs.Each.{each_as}
use Rattle.ex_base.proofs.Members.{In, from_flat, in_contains, of_each}
use Rattle.disk_model.specs.Changes.{ChangesWithin}
use Rattle.disk_model.specs.Outside.{IsWorld, Leaves, Outside}
use Rattle.meta_pages.specs.Overlays.{image_at}
use Rattle.op_log.specs.AfterLog.{logged}
use Rattle.op_log.specs.State.{LogState}
use Rattle.page_alloc.specs.UnitSet.{free_count, refs_at, used_at}
use Rattle.trees.specs.Counted.{NamesPairs}
use Rattle.trees.specs.Damage.{IsWhole}
use Rattle.trees.specs.Made.{AreUsed, Has, IsTaken}
use Rattle.trees.specs.Owners.{IsOwned, all_named, root_pages}
use Rattle.trees.specs.Trees.{IsNamed, Units, root_units, units_on}
use Rattle.trees.proofs.KeptRoots.{RootKept, spelled_root, units_of_root}
use Rattle.trees.proofs.RootSteps.{has_each}
use Rattle.trees.proofs.SameUnits.{Kept, named_same}
use Rattle.tree_store.specs.Stored.{InRest, IsCounted, NoUnit, unit_bytes}
use Rattle.versions.specs.Versions.{IsTreeUnit}
use Rattle.volume_model.specs.Committed.{Committed, StandsForVolume}
use Rattle.volume_model.specs.FreshView.{OwnsUnits}
use Rattle.volume_model.specs.Homes.{home}
use Rattle.volume_model.specs.Shown.{PageRow, working_units}
use Rattle.volume_model.specs.Volume.{Decoded, Volume, file_pages, roots_in, stored_in, units_of}
use Rattle.volume_model.proofs.OwnersAlike.{pages_leave}
use Rattle.volume_model.proofs.OwnersMade.{page_in_tree}
use Rattle.volume_edits.specs.Ported.{IsApart, IsVolume, units_in}
use Rattle.volume_edits.proofs.Counted.{in_area}
use Rattle.volume_edits.proofs.Frames.{IsTreeOf, tree_units as port_trees}
use Rattle.volume_moves.specs.Moves.{MovesTree}
use Rattle.volume_moves.proofs.MovedOwners.{few_moved, owned_moved}
use Rattle.volume_port.specs.Logged.{is_held}
use Rattle.volume_port.specs.State.{IsAtRest, Moved}
use Rattle.volume_port.specs.Stays.{ReachIsOf, StaysUsed, StillCommitted}
use Rattle.volume_port.specs.declared.state.VolumeState.{VolumeState}
use Rattle.volume_port.proofs.Staying.{stands_meanwhile, stays_on}
use Rattle.volume_port.proofs.WorkingUnits.{image_is, no_image}
use Rattle.compact.specs.High.{each_once, root_high_leaves, root_low_leaves, root_nodes_above}
use Rattle.compact.specs.Moved.{AreLow, Copies, HasCopy, IsOwn, IsSent, IsSoundPair, unmoved}
use Rattle.compact.proofs.Pairs.{kept_back, sent_same}
use Rattle.packing.specs.Moving.{VersionMoved}
use Rattle.packing.specs.Resting.{HasOwnCopies}
use Rattle.packing.specs.Working.{MovesWorking, TreeMoved, WorkingMoved}
use Rattle.packing.specs.declared.objects.LargeVersion.{LargeVersion}
use Rattle.packing.proofs.AtRest.{IsPortWith, at_home, home_units, owned_at_rest, page_at_rest, parts_working, table_at_rest, table_working, trees_working, unit_shown}
use Rattle.packing.proofs.RootTrees.{under_root}
use Rattle.packing.proofs.Sharing.{tree_moves}
use Rattle.packing.proofs.VersionsAtRest.{bytes, catalog_held, copies_away, copies_own, geometry_is, has_version, in_use, index, not_paged, other_page, tree_units, units_are, volume, whole}

-- ---- what stays on the disk

module _ {w x : Outside} (old new : VolumeState) (moved : Moved NoUnit w x old new) (d : Decoded) (disk : List ℕ) (rests : IsAtRest w old d disk) where
  safe : ReachIsOf (StaysUsed NoUnit (used_at old.units)) d disk
  safe u there = ((rests.knows.units u).1 there, λ none. none)

  counted : IsCounted d.geometry old.units
  counted = subst (λ (g : Geometry). IsCounted g old.units) (sym rests.geometry) rests.ready.fits.counted

  changes : ChangesWithin (InRest d.geometry (used_at old.units) NoUnit) w x
  changes = subst (λ (g : Geometry). ChangesWithin (InRest g (used_at old.units) NoUnit) w x) (sym rests.geometry) moved.changes

  pub stays : (later : List ℕ) × ((x.disk ≡ Some later) × StillCommitted (StaysUsed NoUnit (used_at old.units)) (StaysUsed NoUnit (used_at new.units)) d disk x.images later old.log old.meta.committed)
  stays = stays_on d disk NoUnit old.units new.units counted safe w x changes rests.told.0 old.log old.meta.committed rests.committed rests.holds (λ u is. (moved.used u is.0 is.1, is.1))

  -- a crash meanwhile leaves the table
  pub meanwhile : IsWorld w → Leaves w x (StandsForVolume d disk)
  meanwhile world = stands_meanwhile d disk NoUnit old.units new.units counted safe w x changes rests.told.0 old.log old.meta.committed rests.committed world

  pub same_geometry : d.geometry ≡ new.geometry
  same_geometry = rests.geometry ∙ sym (ap (λ (v : VolumeState). v.geometry) moved.rest)

  pub just_later : (page : ℕ) → lookup (nat_eq page) new.meta.committed ≡ logged d.records page
  just_later page = ap (λ (rows : List PageRow). lookup (nat_eq page) rows) moved.committed ∙ rests.committed.shown.just page

  -- flags that tell the same pages are the same
  pub same_flags : is_held new.pages ≡ is_held old.pages → new.pages ≡ old.pages
  same_flags same =
      let len : length new.pages ≡ length old.pages =
      moved.ready.held_len ∙ ap (λ (v : VolumeState). area_end v.geometry) moved.rest ∙ sym rests.ready.held_len in
      ext_get_or false new.pages old.pages len (λ i below. ap (λ (f : ℕ → Bool). f i) same)

-- ---- the tree and the volume

module _ {S : Type 0} (g : ground.Ghosts S) (a b : S) {w x : Outside} (old new : VolumeState) (names : NamesPairs g) (over : IsPortWith g a w old) (later_over : IsPortWith g b x new) (moved : Moved NoUnit w x old new) (d : Decoded) (disk : List ℕ) (rests : IsAtRest w old d disk)
    (dense : ℕ) (moves after : Copies) (version : LargeVersion) (own : HasOwnCopies old d disk dense moves version) (made : Root)
    (did : VersionMoved g a b (index g a w old over d disk rests dense moves version own) version.oid own.stored.body.head dense moves after version.root made (bytes g a w old over d disk rests dense moves version own)) where
  abbrev v : Volume
  v = d.volume

  abbrev root : Root
  root = version.root

  abbrev A : Units
  A = units_of d disk

  abbrev kept_disk : (later : List ℕ) × ((x.disk ≡ Some later) × StillCommitted (StaysUsed NoUnit (used_at old.units)) (StaysUsed NoUnit (used_at new.units)) d disk x.images later old.log old.meta.committed)
  kept_disk = stays old new moved d disk rests

  abbrev later : List ℕ
  later = kept_disk.0

  abbrev H : Units
  H = home d.geometry later

  b_geometry : g.geometry b ≡ d.geometry
  b_geometry = later_over.port.geometry ∙ sym (same_geometry old new moved d disk rests)

  a_geometry : g.geometry a ≡ d.geometry
  a_geometry = geometry_is g a w old over d disk rests dense moves version own

  a_units : g.unit a ≡ A
  a_units = units_are g a w old over d disk rests dense moves version own

  b_units : g.unit b ≡ H
  b_units = home_units g b x new later_over.port d later (same_geometry old new moved d disk rests) kept_disk.1.0 (just_later old new moved d disk rests)

  -- what was in use keeps its bytes
  kept_unit : (u : ℕ) → used_at old.units u ≡ true → H u ≡ A u
  kept_unit u used = sym (ap (λ (units : Units). units u) (at_home d later rests.none)) ∙ kept_disk.1.1.units u (used, λ none. none)

  -- no unit that the port has off its logged pages is one of the volume's
  page_before : (u : ℕ) → g.held a u ≡ false → Contains (catalog_no ∷ file_pages v) u → ⊥
  page_before = not_paged g a w old over d disk rests dense moves version own

  not_page : (u : ℕ) → g.held b u ≡ false → Contains (catalog_no ∷ file_pages v) u → ⊥
  not_page u off = page_before u (sym (ap (λ (f : ℕ → Bool). f u) did.held) ∙ off)

  free_before : (area : Area) → g.free a area ≡ free_count old.geometry (used_at old.units) area
  free_before area = ap (λ (free : Area → ℕ). free area) over.free ∙ ap (λ (y : Geometry). free_count y (used_at old.units) area) rests.ready.fits.counted.geometry

  free_later : (area : Area) → g.free b area ≡ free_count old.geometry (used_at new.units) area
  free_later area =
      ap (λ (free : Area → ℕ). free area) later_over.free
      ∙ ap (λ (y : Geometry). free_count y (used_at new.units) area) (moved.ready.fits.counted.geometry ∙ ap (λ (u : VolumeState). u.geometry) moved.rest)

  used_before : (u : ℕ) → g.used a u ≡ true → used_at old.units u ≡ true
  used_before u is = sym (ap (λ (f : ℕ → Bool). f u) over.used) ∙ is

  used_later : (u : ℕ) → g.used b u ≡ true → used_at new.units u ≡ true
  used_later u is = sym (ap (λ (f : ℕ → Bool). f u) later_over.used) ∙ is

  -- ---- the old tree

  its_units : AllByRecursion (IsTreeUnit g a) (root_units A root)
  its_units = subst (λ (units : Units). AllByRecursion (IsTreeUnit g a) (root_units units root)) a_units (tree_units g a w old over d disk rests dense moves version own)

  root_used : AllByRecursion (λ u. used_at old.units u ≡ true) (root_units A root)
  root_used = each_as (IsTreeUnit g a) (λ u. used_at old.units u ≡ true) (root_units A root) (λ u is. used_before u is.0) its_units

  pub root_kept : RootKept A H root
  root_kept = each_as (λ u. used_at old.units u ≡ true) (λ u. H u ≡ A u) (root_units A root) kept_unit root_used

  its_tree : IsWhole d.geometry A root
  its_tree =
      subst (λ (y : Geometry). IsWhole y A root) a_geometry
      (subst (λ (units : Units). IsWhole (g.geometry a) units root) a_units (whole g a w old over d disk rests dense moves version own))

  whole_later : IsWhole d.geometry H root
  whole_later = record {
    bytes = its_tree.bytes;
    spells = spelled_root d.geometry A H root its_tree.bytes root_kept its_tree.spells;
    avoids = subst (λ (us : List ℕ). AllByRecursion (λ p. p ≢ catalog_no) us) (sym (units_of_root A H root.height root.page root_kept)) its_tree.avoids;
  }

  -- ---- the tree as it was moved

  named_later : (level page : ℕ) → Has (root_units A root) page → IsNamed d.geometry A level page → IsNamed (g.geometry b) (g.unit b) level page
  named_later level page inside named =
      let kept : Kept A H (units_on A level page) = under_root d.geometry A (λ u. H u ≡ A u) root its_tree.spells.named root_kept level page inside named in
      subst (λ (y : Geometry). IsNamed y (g.unit b) level page) (sym b_geometry)
      (subst (λ (units : Units). IsNamed d.geometry units level page) (sym b_units) (named_same d.geometry A H level page kept named))

  inside_port : (page : ℕ) → Has (root_units A root) page → Has (root_units (g.unit a) root) page
  inside_port page inside = subst (λ (units : Units). Has (root_units units root) page) (sym a_units) inside

  -- a unit of a copy is no page of the volume
  copy_apart : (u : ℕ) → IsOwn g a b moves (root_units (g.unit a) root) u → Contains (catalog_no ∷ file_pages v) u → ⊥
  copy_apart u is = elim is [
    | inl taken ↦ page_before u (elim (cases_Bool (g.held a u)) [
      | inl held ↦ absurd (true≢false (sym (in_use g a w old over d disk rests dense moves version own u held) ∙ taken.0))
      | inr off ↦ off
    ])
    | inr other ↦ elim other [
      | inl mine ↦ page_before u (has_each (IsTreeUnit g a) (root_units (g.unit a) root) u (tree_units g a w old over d disk rests dense moves version own) mine).1
      | inr reached ↦ page_before u (has_each (λ p. g.held a p ≡ false) (units_on (g.unit a) reached.level reached.copy.0) u
          (copies_away g a w old over d disk rests dense moves version own reached.level reached.page reached.copy reached.inside reached.sent reached.named) reached.below)
    ]
  ]

  abbrev nodes : Geometry → Units → List ℕ
  nodes y units = each_once (root_nodes_above y dense units root)

  abbrev leaves : Geometry → Units → List ℕ
  leaves y units = each_once (root_high_leaves y dense units root)

  nodes_are : nodes (g.geometry a) (g.unit a) ≡ nodes d.geometry A
  nodes_are = ap (λ (y : Geometry). nodes y (g.unit a)) a_geometry ∙ ap (nodes d.geometry) a_units

  leaves_are : leaves (g.geometry a) (g.unit a) ≡ leaves d.geometry A
  leaves_are = ap (λ (y : Geometry). leaves y (g.unit a)) a_geometry ∙ ap (leaves d.geometry) a_units

  pub tree : TreeMoved d.geometry dense (catalog_no ∷ file_pages v) A H old new moves after root made
  tree = record {
    named = its_tree.spells.named;
    its = each_as (IsTreeUnit g a) (λ u. (used_at old.units u ≡ true) × (Contains (catalog_no ∷ file_pages v) u → ⊥)) (root_units A root) (λ u is. (used_before u is.0, page_before u is.1)) its_units;
    low = subst (λ (y : Geometry). AreLow y dense (root_units H made)) b_geometry (subst (λ (units : Units). AreLow (g.geometry b) dense (root_units units made)) b_units did.tree.low);
    used = each_as (λ u. g.used b u ≡ true) (λ u. used_at new.units u ≡ true) (root_units H made) used_later (subst (λ (units : Units). AreUsed (g.used b) (root_units units made)) b_units did.tree.used);
    apart = each_as (IsTreeUnit g b) (λ u. Contains (catalog_no ∷ file_pages v) u → ⊥) (root_units H made) (λ u is. not_page u is.1)
        (subst (λ (units : Units). AllByRecursion (IsTreeUnit g b) (root_units units made)) b_units did.version.units);
    stay = subst (λ (units : Units). AllByRecursion (Has (root_units units made)) (root_low_leaves d.geometry dense A root)) b_units
        (subst (λ (y : Geometry). AllByRecursion (Has (root_units (g.unit b) made)) (root_low_leaves y dense A root)) a_geometry
        (subst (λ (units : Units). AllByRecursion (Has (root_units (g.unit b) made)) (root_low_leaves (g.geometry a) dense units root)) a_units did.tree.stay));
    taken = λ u free now. subst (λ (units : Units). Has (root_units units made) u) b_units (did.tree.all u (ap (λ (f : ℕ → Bool). f u) over.used ∙ free, ap (λ (f : ℕ → Bool). f u) later_over.used ∙ now));
    stays = kept_unit;
    fresh = λ page copy sent. elim (did.tree.fresh page copy sent) [
      | inl before ↦ inl before
      | inr both ↦ inr (subst (λ (units : Units). Has (root_units units root) page) a_units both.0, subst (λ (units : Units). Has (root_units units made) copy.0) b_units both.1)
    ];
    each = subst (λ (y : Geometry). AllByRecursion (HasCopy after) (root_high_leaves y dense A root)) a_geometry
        (subst (λ (units : Units). AllByRecursion (HasCopy after) (root_high_leaves (g.geometry a) dense units root)) a_units did.tree.sent);
    sound = λ level page copy inside sent named.
        subst (λ (y : Geometry). IsSoundPair y H (used_at new.units) dense level page copy.0) b_geometry
        (subst (λ (units : Units). IsSoundPair (g.geometry b) units (used_at new.units) dense level page copy.0) b_units
        (subst (λ (used : ℕ → Bool). IsSoundPair (g.geometry b) (g.unit b) used dense level page copy.0) later_over.used
        (did.tree.sound level page copy (inside_port page inside) sent (named_later level page inside named)).0));
    sent = λ level page copy inside sent named.
        let kept = under_root d.geometry A (λ u. H u ≡ A u) root its_tree.spells.named root_kept level page inside named in
        let there = (did.tree.sound level page copy (inside_port page inside) sent (named_later level page inside named)).1 in
        sent_same d.geometry dense H A after level page (kept_back A H level page kept) (subst (λ (y : Geometry). IsSent y dense H after level page) b_geometry (subst (λ (units : Units). IsSent (g.geometry b) dense units after level page) b_units there));
    copies_apart = λ level page copy inside sent named.
        subst (λ (units : Units). AllByRecursion (λ u. Contains (catalog_no ∷ file_pages v) u → ⊥) (units_on units level copy.0)) b_units
        (each_as (IsOwn g a b moves (root_units (g.unit a) root)) (λ u. Contains (catalog_no ∷ file_pages v) u → ⊥) (units_on (g.unit b) level copy.0) copy_apart
        (did.tree.of_copies level page copy (inside_port page inside) sent (named_later level page inside named)));
    of_pages = omega (arith, did.tree.paid.of_pages, free_before Page, free_later Page, ap (unmoved after) nodes_are, ap (unmoved moves) nodes_are);
    of_segs = omega (arith, did.tree.paid.of_leaves, free_before Segment, free_later Segment, ap (unmoved after) leaves_are, ap (unmoved moves) leaves_are);
  }

  -- ---- where the tree has another root

  held_later : (page : ℕ) → g.held b page ≡ false → is_held new.pages page ≡ false
  held_later page off = sym (ap (λ (f : ℕ → Bool). f page) later_over.port.held) ∙ off

  none_committed : (page : ℕ) → lookup (nat_eq page) new.meta.committed ≡ None
  none_committed page = ap (λ (rows : List PageRow). lookup (nat_eq page) rows) (moved.committed ∙ rests.images)

  no_image_off : (page : ℕ) → g.held b page ≡ false → image_at new.meta page ≡ None
  no_image_off page off = no_image (lookup (nat_eq page) new.meta.working) (lookup (nat_eq page) new.meta.committed)
      (λ image row. both_ways _ (held_later page off) (moved.ready.images page image row))
      (λ image row. absurd (let none : None ≡ Some image = sym (none_committed page) ∙ row in cc))

  pub apart_later : IsApart g b
  apart_later page area off =
      let bytes_at : ℕ → List ℕ = unit_bytes new.geometry x.disk in
      let lies : InPageArea new.geometry page = subst (λ (y : Geometry). InPageArea y page) later_over.port.geometry area in
      ap (λ (f : ℕ → List ℕ). f page) later_over.port.image ∙ image_is new.geometry new.meta bytes_at page lies
      ∙ ap (λ (image : Option (List ℕ)). unwrap_or image (bytes_at page)) (no_image_off page off)
      ∙ sym (ap (λ (f : ℕ → List ℕ). f page) later_over.port.unit)

  module _ (differ : made ≡ root → ⊥) where
    volume_before : IsVolume g a [] v
    volume_before = volume g a w old over d disk rests dense moves version own

    owns : OwnsUnits (g.geometry a) (g.unit a) v (g.used a) (g.refs a)
    owns = owned_at_rest g a w old over.port d disk rests over.used over.refs

    port_geometry : g.geometry b ≡ g.geometry a
    port_geometry = b_geometry ∙ sym a_geometry

    moves_it : MovesTree g a b [] v version.oid root made
    moves_it = tree_moves g a b [] v volume_before (index g a w old over d disk rests dense moves version own) version.oid own.stored.body.head dense moves after root made (bytes g a w old over d disk rests dense moves version own) port_geometry apart_later
        (has_version g a w old over d disk rests dense moves version own) (copies_own g a w old over d disk rests dense moves version own) did differ

    catalog_below : (y : Geometry) → catalog_no < area_end y
    catalog_below y = let some = y.some_pages in omega (arith, some)

    catalog_same : units_in g b catalog_no ≡ units_in g a catalog_no
    catalog_same =
        in_area g b catalog_no (catalog_below (g.geometry b))
        ∙ (did.installs differ).images catalog_no (catalog_held g a w old over d disk rests dense moves version own) (other_page g a w old over d disk rests dense moves version own)
        ∙ sym (in_area g a catalog_no (catalog_below (g.geometry a)))

    in_made : (u : ℕ) → 1 ≤ times u (root_pages (made ∷ [])) → Contains (root_units (g.unit b) made) u
    in_made u has = subst (λ (us : List ℕ). Contains us u) (append-nil (root_units (g.unit b) made)) (times_contains u (root_units (g.unit b) made ++ []) (page_in_tree (g.unit b) (Some made) u has))

    pub working : WorkingMoved new d disk later version made
    working = record {
      now = moves_it.now;
      parts = parts_working g b x new later_over.port d later (same_geometry old new moved d disk rests) kept_disk.1.0 (just_later old new moved d disk rests) moves_it.now moves_it.volume.shows.parts;
      table =
          table_working g b x new later_over.port d later (same_geometry old new moved d disk rests) kept_disk.1.0 (just_later old new moved d disk rests) moves_it.now moves_it.volume.shows.parts
          ∙ moves_it.table ∙ table_at_rest g a w old over.port d disk rests;
      catalog = moves_it.catalog;
      page =
          sym (unit_shown g b x new later_over.port d later (same_geometry old new moved d disk rests) kept_disk.1.0 (just_later old new moved d disk rests) catalog_no (omega arith))
          ∙ catalog_same ∙ page_at_rest g a w old over.port d disk rests;
      pages = moves_it.pages;
      turns = moves_it.turns;
      held = λ page. subst (λ (f : ℕ → Bool). (f page ≡ true) ↔ Contains (catalog_no ∷ file_pages moves_it.now) page) later_over.port.held (moves_it.volume.shows.held page);
      no_tree = λ u logged tree.
          let P : Units = units_in g b in
          let roots : List Root = roots_in (stored_in moves_it.now) in
          let here = subst (λ (us : List ℕ). In u us)
          (trees_working g b x new later_over.port d later (same_geometry old new moved d disk rests) kept_disk.1.0 (just_later old new moved d disk rests) moves_it.now moves_it.volume.shows.parts)
          (in_contains u (flat_map (root_units (working_units d later new.meta.working)) roots) tree) in
          let its = from_flat (root_units P) u roots here in
          let all = of_each (λ (r : Root). AllByRecursion (IsTreeOf g b) (root_units P r)) its.0 roots (port_trees g b [] moves_it.now moves_it.volume) its.1 in
          true≢false (sym ((moves_it.volume.shows.held u).1 logged) ∙ (of_each (IsTreeOf g b) u (root_units P its.0) all its.2).2);
      whole = whole_later;
      room = λ u has.
          let used : used_at new.units u ≡ true = used_later u (moves_it.replaced.own u (in_made u has)).0 in
          let few = few_moved g a b [] v (index g a w old over d disk rests dense moves version own) version.oid own.stored.body.head root made (bytes g a w old over d disk rests dense moves version own) volume_before port_geometry (did.installs differ) moves_it names owns
          (λ p. g.refs b p + times p (root_pages (made ∷ []))) (λ p. refl) u in (
            subst (λ (y : Geometry). IsUnit y u) (sym moved.ready.fits.counted.geometry) (moved.ready.fits.counted.named u used),
            used,
            omega (arith, few, has, ap (λ (f : ℕ → ℕ). f u) later_over.refs),
          );
      owned = λ refs counts.
          let owned = owned_moved g a b [] v (index g a w old over d disk rests dense moves version own) version.oid own.stored.body.head root made (bytes g a w old over d disk rests dense moves version own) volume_before port_geometry (did.installs differ) moves_it names owns
          refs (λ u. counts u ∙ ap (λ (f : ℕ → ℕ). f u + times u (root_pages (made ∷ []))) (sym later_over.refs)) in
          let owners : List ℕ = root_pages (root ∷ []) ++ root_pages (roots_in (stored_in moves_it.now)) in
          subst (λ (y : Geometry). IsOwned y H (used_at new.units) refs (catalog_no ∷ file_pages moves_it.now) owners) a_geometry
          (subst (λ (units : Units). IsOwned (g.geometry a) units (used_at new.units) refs (catalog_no ∷ file_pages moves_it.now) owners) b_units
          (subst (λ (f : ℕ → Bool). IsOwned (g.geometry a) (g.unit b) f refs (catalog_no ∷ file_pages moves_it.now) owners) later_over.used owned));
    }

  -- ---- where the root is the old one

  pub held_as : is_held new.pages ≡ is_held old.pages
  held_as = sym later_over.port.held ∙ did.held ∙ over.port.held

  module _ (same : made ≡ root) (untouched : length new.meta.working ≡ length old.meta.working) where
    none_taken : (u : ℕ) → used_at old.units u ≡ false → used_at new.units u ≡ true → ⊥
    none_taken u free now =
        let there : Has (root_units H root) u = subst (λ (r : Root). Has (root_units H r) u) same (tree.taken u free now) in
        let here : Has (root_units A root) u = subst (λ (us : List ℕ). Has us u) (units_of_root A H root.height root.page root_kept) there in
        true≢false (sym (has_each (λ p. used_at old.units p ≡ true) (root_units A root) u root_used here) ∙ free)

    used_same : (u : ℕ) → used_at new.units u ≡ used_at old.units u
    used_same u = elim (cases_Bool (used_at old.units u)) [
      | inl is ↦ moved.used u is (λ none. none) ∙ sym is
      | inr free ↦ elim (cases_Bool (used_at new.units u)) [
        | inl now ↦ absurd (none_taken u free now)
        | inr off ↦ off ∙ sym free
      ]
    ]

    no_nodes : (ns : List ℕ) → AllByRecursion (IsTaken g a b) ns → ns ≡ []
    no_nodes [] each = refl
    no_nodes (n ∷ ns) each = absurd (none_taken n (sym (ap (λ (f : ℕ → Bool). f n) over.used) ∙ each.0.0) (used_later n each.0.1))

    refs_same : (u : ℕ) → refs_at new.units u ≡ refs_at old.units u
    refs_same u =
        let counts = did.tree.counts names in
        let none : times u (all_named (g.unit b) counts.nodes) ≡ 0 = ap (λ (ns : List ℕ). times u (all_named (g.unit b) ns)) (no_nodes counts.nodes counts.taken) in
        let few : refs_at old.units u ≤ refs_most = rests.ready.fits.counted.few u in
        let before : g.refs a u ≡ refs_at old.units u = ap (λ (f : ℕ → ℕ). f u) over.refs in
        let now : g.refs b u ≡ refs_at new.units u = ap (λ (f : ℕ → ℕ). f u) later_over.refs in
        omega (arith, counts.refs u (omega (arith, none, few, before)), none, before, now)

    owned_before : IsOwned d.geometry (home d.geometry disk) (used_at old.units) (refs_at old.units) (catalog_no ∷ file_pages v) (root_pages (roots_in (stored_in v)))
    owned_before = rests.owned

    -- each unit that has an owner is in use, and stands as it did
    owned_kept : (u : ℕ) → 1 ≤ refs_at old.units u → H u ≡ home d.geometry disk u
    owned_kept u some = kept_unit u (rests.ready.fits.counted.owned u some) ∙ ap (λ (units : Units). units u) (at_home d disk rests.none)

    owned_later : OwnsUnits d.geometry H v (used_at new.units) (refs_at new.units)
    owned_later = subst (λ (refs : ℕ → ℕ). OwnsUnits d.geometry H v (used_at new.units) refs) (sym (fun_ext refs_same))
        (pages_leave d.geometry (home d.geometry disk) (used_at old.units) (refs_at old.units) (catalog_no ∷ file_pages v) (root_pages (roots_in (stored_in v))) owned_before H (used_at new.units) (catalog_no ∷ file_pages v) (record {
          kept = λ u area some. owned_kept u some;
          fewer = λ u has. has;
          still = λ u is. sym (used_same u) ∙ is;
          freed = λ u is off. absurd (true≢false (sym is ∙ sym (used_same u) ∙ off));
          all = λ u has none. absurd (omega (arith, has, none));
        }))

    pub rests_again : IsAtRest x new d later
    rests_again = record {
      told = moved.told rests.told;
      ready = moved.ready;
      holds = kept_disk.1.0;
      none = rests.none;
      geometry = same_geometry old new moved d disk rests;
      committed =
          subst (λ (log : LogState). Committed x.images d later log new.meta.committed) (sym (ap (λ (u : VolumeState). u.log) moved.rest))
          (subst (λ (rows : List PageRow). Committed x.images d later old.log rows) (sym moved.committed) kept_disk.1.1.committed);
      images = moved.committed ∙ rests.images;
      working = nil_from_length new.meta.working (untouched ∙ ap length rests.working);
      knows = record {
        units = λ u. (
          λ yes. subst (λ (us : List ℕ). Contains us u) (sym kept_disk.1.1.reach) ((rests.knows.units u).0 (sym (used_same u) ∙ yes)),
          λ has. used_same u ∙ (rests.knows.units u).1 (subst (λ (us : List ℕ). Contains us u) kept_disk.1.1.reach has),
        );
        pages = λ page. subst (λ (f : ℕ → Bool). (f page ≡ true) ↔ Contains (catalog_no ∷ file_pages v) page) (sym held_as) (rests.knows.pages page);
      };
      owned = owned_later;
      kept = ap (λ (u : VolumeState). u.kept) moved.rest ∙ rests.kept ∙ sym (same_flags old new moved d disk rests held_as);
    }

  -- ---- together

  pub moves_working : (made ≡ root → length new.meta.working ≡ length old.meta.working) → MovesWorking w x old new d disk dense moves after version made
  moves_working untouched = record {
    moved = moved;
    told = moved.told rests.told;
    later = later;
    holds = kept_disk.1.0;
    still = kept_disk.1.1;
    tree = tree;
    same_pages = same_flags old new moved d disk rests held_as;
    turned = working;
    rests = λ same. rests_again same (untouched same);
  }
