-- One version of an object is moved: what is left of the object.
use Rattle.std.proofs.Common.{◌≡◌, ◌≢◌, ◌⊎◌, inl, inr, ℕ, suc, ◌+◌, ◌-◌, ◌<◌, ◌≤◌, true, false, List, [], ◌∷◌, ◌++◌, length, map, Option, Some, None, AllPairs, refl, sym, ap, subst, ◌∙◌, arith, true≢false}
use Rattle.std.specs.Prelude.{Contains, filter}
use Rattle.std.specs.List.{AllByRecursion, flat_map}
use Rattle.std.proofs.lemmas.Bool.{cases_Bool}
use Rattle.std.proofs.lemmas.Nat.{mul-le}
use Rattle.ex_base.specs.declared.geometry.Geometry.{Geometry}
use Rattle.ex_base.specs.declared.names.Area.TheVariants.{Page, Segment}
use Rattle.ex_base.specs.declared.names.Oid.{Oid}
use Rattle.ex_base.specs.declared.names.PageNo.{PageNo}
use Rattle.ex_base.specs.declared.names.Root.{Root}
use Rattle.ex_base.specs.Area.{InPageArea, NamesLeaf, catalog_no, unit_at}
use Rattle.ex_base.proofs.Counts.{same_or_not}
use Rattle.ex_base.proofs.Each.{each_as, each_mapped, flat_same}
use Rattle.ex_base.proofs.Filters.{in_kept, kept_in}
use Rattle.ex_base.proofs.Members.{In, contains_in, each_in, from_flat, in_contains, in_either, into_flat, of_each}
use Rattle.disk_model.specs.Outside.{Outside}
use Rattle.object_files.specs.Catalog.{Catalog}
use Rattle.object_records.specs.Record.{Content, Large, Small}
use Rattle.page_alloc.specs.UnitSet.{free_count, used_at}
use Rattle.trees.specs.Made.{AreUsed, Has}
use Rattle.trees.specs.Trees.{IsNamed, RootNamed, Units, root_units, units_on}
use Rattle.trees.proofs.KeptRoots.{RootKept, units_of_root}
use Rattle.trees.proofs.Laid.{has_left, has_right}
use Rattle.trees.proofs.Over.{all_has, has_split}
use Rattle.trees.proofs.RootSteps.{has_each}
use Rattle.trees.proofs.SameUnits.{Kept, named_same, units_same}
use Rattle.table_model.specs.Tables.{objects_of}
use Rattle.version_lists.specs.declared.version.Object.{Object}
use Rattle.version_lists.specs.Versions.{Differ, unique_of as number}
use Rattle.version_lists.proofs.Lists as lists
use Rattle.volume_model.specs.Links.{stored_units}
use Rattle.volume_model.specs.Parts.{HoldsOf, content_parts}
use Rattle.volume_model.specs.Shown.{used_in}
use Rattle.volume_model.specs.Volume.{Decoded, Stored, Volume, file_pages, oid_of, reach_of, root_in, roots_in, stored_in, table_of, unique_of, units_of}
use Rattle.volume_model.proofs.FilePages.{file_pages_are}
use Rattle.volume_model.proofs.Places.{sep_from, sep_one}
use Rattle.volume_model.proofs.RulesOfTable.{decodes_with_rules}
use Rattle.volume_moves.proofs.Moving.{unit_in}
use Rattle.volume_port.specs.State.{IsAtRest}
use Rattle.volume_port.specs.declared.state.VolumeState.{VolumeState}
use Rattle.compact.specs.High.{each_once, high_leaves, is_high, nodes_above, root_high_leaves, root_low_leaves, root_nodes_above}
use Rattle.compact.specs.Moved.{Copies, IsSent, IsSoundPair, KeepsCopies, one_without, unmoved}
use Rattle.compact.proofs.Pairs.{each_sent, sent_same}
use Rattle.compact.proofs.Levels.{high_same, same_level}
use Rattle.packing.specs.Dense.{all_objects, is_of, roots_of_object}
use Rattle.packing.specs.Loop.{HasHeldCopies, HasLowTree, IsHeld, IsMoving, IsOfNone, IsOfObject, IsOther, KeepsRecords, NeedsAsMuch, leaves_high, nodes_high, number_of, roots_of}
use Rattle.packing.specs.Packing.{pages_free, segs_used}
use Rattle.packing.specs.Resting.{MovesVersion}
use Rattle.packing.specs.declared.objects.LargeVersion.{LargeVersion}
use Rattle.packing.specs.declared.start.Start.{Start}
use Rattle.packing.proofs.Above.{IsAbove, IsHighLeaf, root_leaf_in, root_leaf_of, root_none_in, root_low_in, root_node_in, root_node_of, root_sub, root_within}
use Rattle.packing.proofs.Counted.{same_leaves, same_nodes}
use Rattle.packing.proofs.Given.{GivesBack, free_or_used, gives_back, gives_just}
use Rattle.packing.proofs.KeptPairs.{pair_kept}
use Rattle.packing.proofs.OfObjects.{numbers_behind, of_number, of_same_number, same_object, versions_by_object}
use Rattle.packing.proofs.Totals.{as_many, fewer_left, fewer_pages, has_only, newly, only_has, only_in, only_once, same_units}
use Rattle.packing.proofs.Trees.{in_use, named, off_pages, root_there}
use Rattle.history_volumes.proofs.OneObject.{of_one_object}

-- ---- lists

pub has_unit : (xs : List ℕ) (u : ℕ) → In u xs → Has xs u
has_unit [] u h = absurd h
has_unit (x ∷ xs) u (inl e) = inl (sym e)
has_unit (x ∷ xs) u (inr h) = inr (has_unit xs u h)

pub in_list : {A : Type 0} (xs : List A) (x : A) → In x xs → lists.Has xs x
in_list [] x h = absurd h
in_list (y ∷ xs) x (inl e) = inl (sym e)
in_list (y ∷ xs) x (inr h) = inr (in_list xs x h)

list_in : {A : Type 0} (xs : List A) (x : A) → lists.Has xs x → In x xs
list_in [] x h = absurd h
list_in (y ∷ xs) x (inl e) = inl (sym e)
list_in (y ∷ xs) x (inr h) = inr (list_in xs x h)

in_map : {A B : Type 0} (f : A → B) (xs : List A) (x : A) → In x xs → In (f x) (map f xs)
in_map f [] x h = absurd h
in_map f (y ∷ xs) x (inl e) = inl (ap f e)
in_map f (y ∷ xs) x (inr h) = inr (in_map f xs x h)

-- the content of a record with a root
large_of : (c : Content) (root : Root) → In root (root_in c) → c ≡ Large root
large_of (Small bytes) root h = absurd h
large_of (Large other) root (inl e) = ap Large (sym e)
large_of (Large other) root (inr h) = absurd h

-- what stands in lists of roots of versions stands in one of them
pub in_version : (f : Root → List ℕ) (versions : List LargeVersion) (p : ℕ) → Has (flat_map f (roots_of versions)) p → (version : LargeVersion) × In version versions × Has (f version.root) p
in_version f [] p h = absurd h
in_version f (v ∷ versions) p h = elim (has_split (f v.root) (flat_map f (roots_of versions)) p h) [
  | inl here ↦ (v, inl refl, here)
  | inr rest ↦ let found = in_version f versions p rest in (found.0, inr found.1, found.2)
]

pub version_in : (f : Root → List ℕ) (versions : List LargeVersion) (version : LargeVersion) (p : ℕ) → In version versions → Has (f version.root) p → Has (flat_map f (roots_of versions)) p
version_in f [] version p h has = absurd h
version_in f (v ∷ versions) version p (inl e) has = has_left (f v.root) (flat_map f (roots_of versions)) p (subst (λ (w : LargeVersion). Has (f w.root) p) e has)
version_in f (v ∷ versions) version p (inr h) has = has_right (f v.root) (flat_map f (roots_of versions)) p (version_in f versions version p h has)

pub from_roots : {A : Type 0} (f : A → List ℕ) (xs : List A) (p : ℕ) → Has (flat_map f xs) p → (x : A) × In x xs × Has (f x) p
from_roots f [] p h = absurd h
from_roots {A} f (x ∷ xs) p h = elim (has_split (f x) (flat_map f xs) p h) [
  | inl here ↦ (x, inl refl, here)
  | inr rest ↦ let found = from_roots f xs p rest in (found.0, inr found.1, found.2)
]

pub into_roots : {A : Type 0} (f : A → List ℕ) (xs : List A) (x : A) (p : ℕ) → In x xs → Has (f x) p → Has (flat_map f xs) p
into_roots f [] x p h has = absurd h
into_roots {A} f (y ∷ xs) x p (inl e) has = has_left (f y) (flat_map f xs) p (subst (λ (z : A). Has (f z) p) e has)
into_roots f (y ∷ xs) x p (inr h) has = has_right (f y) (flat_map f xs) p (into_roots f xs x p h has)

-- a large record of an object, in whose tree a number stands
pub record OfRoot (volume : Volume) (f : Root → List ℕ) (o : Object) (p : ℕ) : Type 0 where
  pub stored : Stored
  pub there : In stored (stored_in volume)
  pub same : is_of o stored ≡ true
  pub root : Root
  pub large : stored.body.content ≡ Large root
  pub has : Has (f root) p

pub of_root : (volume : Volume) (f : Root → List ℕ) (o : Object) (p : ℕ) → Has (flat_map f (roots_of_object volume o)) p → OfRoot volume f o p
of_root volume f o p h =
    let found = from_roots f (roots_of_object volume o) p h in
    let s = from_flat (λ (x : Stored). root_in x.body.content) found.0 (filter (is_of o) (stored_in volume)) found.1 in
    let both = in_kept (is_of o) (stored_in volume) s.0 s.1 in
    record { stored = s.0; there = both.0; same = both.1; root = found.0; large = large_of s.0.body.content found.0 s.2; has = found.2 }

pub root_of : (volume : Volume) (f : Root → List ℕ) (o : Object) (p : ℕ) → OfRoot volume f o p → Has (flat_map f (roots_of_object volume o)) p
root_of volume f o p r =
    into_roots f (roots_of_object volume o) r.root p
    (into_flat (λ (x : Stored). root_in x.body.content) r.root r.stored (filter (is_of o) (stored_in volume)) (kept_in (is_of o) (stored_in volume) r.stored r.there r.same)
    (subst (λ (c : Content). In r.root (root_in c)) (sym r.large) (inl refl))) r.has

pub one_most : (o : Option PageNo) → one_without o ≤ 1
one_most None = omega arith
one_most (Some copy) = omega arith

-- units of the segment area lie one after the other
pub ahead : (g : Geometry) (i j : ℕ) → i < j → unit_at g Segment i < unit_at g Segment j
ahead g i j lt = omega (arith, mul-le (i + 1) g.seg_len j g.seg_len (omega arith) (omega arith), g.some_length)

-- whether one of these versions has a number
numbered : (versions : List LargeVersion) (n : ℕ) → ((version : LargeVersion) × In version versions × (number_of version ≡ n)) ⊎ ((version : LargeVersion) → In version versions → number_of version ≡ n → ⊥)
numbered [] n = inr (λ version h same. h)
numbered (v ∷ versions) n = elim (same_or_not (number_of v) n) [
  | inl same ↦ inl (v, inl refl, same)
  | inr apart ↦ elim (numbered versions n) [
    | inl found ↦ inl (found.0, inr found.1, found.2)
    | inr none ↦ inr (λ version h same. elim h [
      | inl e ↦ apart (ap number_of (sym e) ∙ same)
      | inr rest ↦ none version rest same
    ])
  ]
]

-- ---- one volume at rest

module _ (w : Outside) (volume : VolumeState) (d : Decoded) (disk : List ℕ) (rests : IsAtRest w volume d disk) where
  abbrev units_here : Units
  units_here = units_of d disk

  pub whole : AllByRecursion (HoldsOf d.geometry d.records (units_of d disk) d.volume) content_parts
  whole = rests.committed.parts.1.1

  pub distinct : AllPairs Differ (flat_map (λ (o : Object). o.versions) (all_objects d disk))
  distinct = let rules = decodes_with_rules d disk rests.committed.parts in versions_by_object (table_of (units_of d disk) d.volume) rules.distinct

  -- one record has a number
  pub one_record : (s t : Stored) → In s (stored_in d.volume) → In t (stored_in d.volume) → unique_of s ≡ unique_of t → s ≡ t
  one_record s t one two same =
      sep_one unique_of (stored_in d.volume) s t (sep_from unique_of (stored_in d.volume) whole.1.1.1.1.1.1.0.differ) (in_list (stored_in d.volume) s one) (in_list (stored_in d.volume) t two) same

  -- a record in whose tree a unit stands
  pub record Standing (p : ℕ) : Type 0 where
    pub stored : Stored
    pub there : In stored (stored_in d.volume)
    pub root : Root
    pub large : stored.body.content ≡ Large root
    pub has : Has (root_units (units_of d disk) root) p

  pub standing : (p : ℕ) → used_at volume.units p ≡ true → (Contains (catalog_no ∷ file_pages d.volume) p → ⊥) → Standing p
  standing p is off =
      let reached = in_contains p (reach_of (units_of d disk) d.volume) ((rests.knows.units p).0 is) in
      elim (in_either p (catalog_no ∷ file_pages d.volume) (flat_map (root_units (units_of d disk)) (roots_in (stored_in d.volume))) reached) [
        | inl page ↦ absurd (off (contains_in p (catalog_no ∷ file_pages d.volume) page))
        | inr tree ↦
            let root = from_flat (root_units (units_of d disk)) p (roots_in (stored_in d.volume)) tree in
            let s = from_flat (λ (x : Stored). root_in x.body.content) root.0 (stored_in d.volume) root.1 in
            record { stored = s.0; there = s.1; root = root.0; large = large_of s.0.body.content root.0 s.2; has = has_unit (root_units (units_of d disk) root.0) p root.2 }
      ]

  -- two records with a unit in common are of one object
  pub sharing : (before later : List Object) (object : Object) → all_objects d disk ≡ before ++ object ∷ later → (s t : Stored) (a b : Root) → In s (stored_in d.volume) → In t (stored_in d.volume) → s.body.content ≡ Large a → t.body.content ≡ Large b
      → (p : ℕ) → Has (root_units (units_of d disk) a) p → Has (root_units (units_of d disk) b) p → is_of object t ≡ true → is_of object s ≡ true
  sharing before later object listed s t a b one two large also p here there is =
      let told = whole.1.1.1.1.0.objects in
      let in_tree : (x : Stored) (r : Root) → x.body.content ≡ Large r → Has (root_units (units_of d disk) r) p → In p (stored_units (units_of d disk) x) = λ x r e h.
      into_flat (root_units (units_of d disk)) p r (root_in x.body.content) (subst (λ (c : Content). In r (root_in c)) (sym e) (inl refl)) (unit_in (root_units (units_of d disk) r) p h) in
      elim (same_or_not (told.object s.place) (told.object t.place)) [
        | inr differ ↦ absurd (of_each (λ (u : ℕ). Contains (stored_units (units_of d disk) t) u → ⊥) p (stored_units (units_of d disk) s)
            (told.apart s t (contains_in s (stored_in d.volume) one) (contains_in t (stored_in d.volume) two) differ) (in_tree s a large here) (contains_in p (stored_units (units_of d disk) t) (in_tree t b also there)))
        | inl same ↦
            let f = lists.has_flat_from (λ (x : _). x.stored) d.volume.files s (in_list (stored_in d.volume) s one) in
            let h = lists.has_flat_from (λ (x : _). x.stored) d.volume.files t (in_list (stored_in d.volume) t two) in
            let o = of_one_object d.geometry d.records (units_of d disk) d.volume whole f.0 h.0 s t f.1 h.1 f.2 h.2 same in
            let of_s = of_number o.0 s (lists.contains_has (map number o.0.versions) (unique_of s) o.2) in
            let of_t = of_number o.0 t (lists.contains_has (map number o.0.versions) (unique_of t) o.3) in
            let is_that : object ≡ o.0 = same_object before later object o.0 t (subst (λ (os : List Object). AllPairs Differ (flat_map (λ (x : Object). x.versions) os)) listed distinct)
            (subst (λ (os : List Object). lists.Has os o.0) listed (lists.contains_has (all_objects d disk) o.0 o.1)) is of_t in
            subst (λ (x : Object). is_of x s ≡ true) (sym is_that) of_s
      ]

-- ---- one version is moved

module _ (w z : Outside) (old new : VolumeState) (d : Decoded) (disk : List ℕ) (start : Start) (object : Object) (later : List Object) (moves after : Copies) (version : LargeVersion) (left : List LargeVersion)
    (m : IsMoving w old d disk start object later moves (version ∷ left)) (keeps : KeepsCopies moves after) (x : MovesVersion z old new d disk start.segs moves after version) where
  abbrev dense : ℕ
  dense = start.segs

  abbrev now : Decoded
  now = x.again.decoded

  abbrev image : List ℕ
  image = x.again.image

  abbrev u : Units
  u = units_of d disk

  abbrev v : Units
  v = units_of x.again.decoded x.again.image

  geo : now.geometry ≡ d.geometry
  geo = x.again.same.geometry

  mine : IsOfObject d.volume object version
  mine = m.each.0

  here : In mine.0 (stored_in d.volume)
  here = in_contains mine.0 (stored_in d.volume) mine.1.there

  own_root : In version.root (roots_in (stored_in d.volume))
  own_root = root_there w old d disk m.rests mine.0 version.root here mine.1.large

  own_number : unique_of mine.0 ≡ number_of version
  own_number = ap (λ (o : Oid). o.unique) mine.1.oid

  moved_here : In x.moved (stored_in now.volume)
  moved_here = in_contains x.moved (stored_in now.volume) x.there

  moved_number : unique_of x.moved ≡ number_of version
  moved_number = ap (λ (o : Oid). o.unique) x.oid

  made_root : In x.made (roots_in (stored_in now.volume))
  made_root = root_there z new now image x.again.rests x.moved x.made moved_here x.large

  made_named : RootNamed d.geometry v x.made.height x.made.page
  made_named = subst (λ (g : Geometry). RootNamed g v x.made.height x.made.page) geo (named z new now image x.again.rests x.made made_root)

  -- trees of before keep their bytes
  kept : (s : Stored) (root : Root) → In s (stored_in d.volume) → s.body.content ≡ Large root → RootKept u v root
  kept s root there large =
      let r = root_there w old d disk m.rests s root there large in
      each_as (Has (root_units u root)) (λ (p : ℕ). v p ≡ u p) (root_units u root) (λ p h. x.units p (in_use w old d disk m.rests root r p h) (off_pages w old d disk m.rests root r p h)) (all_has (root_units u root))

  kept_units : (s : Stored) (root : Root) → In s (stored_in d.volume) → s.body.content ≡ Large root → root_units v root ≡ root_units u root
  kept_units s root there large = units_of_root u v root.height root.page (kept s root there large)

  -- another record stays, and its tree is in use
  stays : (s : Stored) → In s (stored_in d.volume) → (unique_of s ≡ number_of version → ⊥) → In s (stored_in now.volume)
  stays s there apart = in_contains s (stored_in now.volume) (x.others s (contains_in s (stored_in d.volume) there) (λ same. apart (ap (λ (o : Oid). o.unique) same)))

  stayed : (s : Stored) → In s (stored_in now.volume) → (unique_of s ≡ number_of version → ⊥) → In s (stored_in d.volume)
  stayed s there apart = in_contains s (stored_in d.volume) (x.stored s (contains_in s (stored_in now.volume) there) (λ same. apart (ap (λ (o : Oid). o.unique) same)))

  stays_used : (s : Stored) (root : Root) → In s (stored_in d.volume) → s.body.content ≡ Large root → (unique_of s ≡ number_of version → ⊥) → (p : ℕ) → Has (root_units u root) p → used_at new.units p ≡ true
  stays_used s root there large apart p has =
      in_use z new now image x.again.rests root (root_there z new now image x.again.rests s root (stays s there apart) large) p (subst (λ (us : List ℕ). Has us p) (sym (kept_units s root there large)) has)

  -- ---- the versions that are left

  apart_left : (other : LargeVersion) → In other left → number_of other ≡ number_of version → ⊥
  apart_left other h same = m.once.0 (contains_in (number_of version) (map number_of left) (subst (λ (n : ℕ). In n (map number_of left)) same (in_map number_of left other h)))

  of_left : (other : LargeVersion) → In other left → IsOfObject d.volume object other
  of_left other h = of_each (IsOfObject d.volume object) other left m.each.1 h

  left_here : (other : LargeVersion) (h : In other left) → In (of_left other h).0 (stored_in d.volume)
  left_here other h = let is = of_left other h in in_contains is.0 (stored_in d.volume) is.1.there

  left_apart : (other : LargeVersion) (h : In other left) → unique_of (of_left other h).0 ≡ number_of version → ⊥
  left_apart other h same = let is = of_left other h in apart_left other h (sym (ap (λ (o : Oid). o.unique) is.1.oid) ∙ same)

  left_kept : (other : LargeVersion) → In other left → RootKept u v other.root
  left_kept other h = let is = of_left other h in kept is.0 other.root (left_here other h) is.1.large

  left_root : (other : LargeVersion) → In other left → In other.root (roots_in (stored_in d.volume))
  left_root other h = let is = of_left other h in root_there w old d disk m.rests is.0 other.root (left_here other h) is.1.large

  each_left : AllByRecursion (IsOfObject now.volume object) left
  each_left = each_in (IsOfObject now.volume object) left (λ other h.
      let is = of_left other h in
      (is.0, record { there = contains_in is.0 (stored_in now.volume) (stays is.0 (left_here other h) (left_apart other h)); oid = is.1.oid; large = is.1.large }, is.2))

  -- ---- copies

  held_used : (units : List ℕ) → IsHeld now image object left units → AreUsed (used_at new.units) units
  held_used units h =
      let root = root_there z new now image x.again.rests h.holder h.root (in_contains h.holder (stored_in now.volume) h.there) h.large in
      each_as (Has (root_units v h.root)) (λ (p : ℕ). used_at new.units p ≡ true) units (λ p has. in_use z new now image x.again.rests h.root root p has) h.all

  moved_same : is_of object x.moved ≡ true
  moved_same = of_same_number object x.moved mine.0 (moved_number ∙ sym own_number) ∙ mine.2

  moved_other : IsOther left x.moved
  moved_other = each_in (λ (other : LargeVersion). oid_of x.moved ≡ other.oid → ⊥) left (λ other h same. apart_left other h (ap (λ (o : Oid). o.unique) (sym same) ∙ moved_number))

  true_each : (units : List ℕ) → AreUsed (λ p. true) units
  true_each [] = tt
  true_each (p ∷ units) = (refl, true_each units)

  held_copy : (other : LargeVersion) (h : In other left) (level page : ℕ) (copy : PageNo) → Has (root_units u other.root) page → after page ≡ Some copy → IsNamed d.geometry u level page → Kept u v (units_on u level page)
      → IsSoundPair d.geometry v (used_at new.units) dense level page copy.0 × IsHeld now image object left (units_on v level copy.0) × IsSent d.geometry dense v after level page
  held_copy other h level page copy has sent at kept_page = elim (x.fresh page copy sent) [
    | inl was ↦
        let c = of_each (HasHeldCopies old d disk dense moves object (version ∷ left)) other left m.copies.1 h level page copy has was at in
        let hd = c.held in
        let there = in_contains hd.holder (stored_in d.volume) hd.there in
        let apart : unique_of hd.holder ≡ number_of version → ⊥ = λ same. hd.other.0 (same_oid hd.holder there same) in
        let of_holder = kept hd.holder hd.root there hd.large in
        let kept_copy : Kept u v (units_on u level copy.0) = each_as (Has (root_units u hd.root)) (λ (p : ℕ). v p ≡ u p) (units_on u level copy.0) (λ p k. has_each (λ (q : ℕ). v q ≡ u q) (root_units u hd.root) p of_holder k) hd.all in
        let held : IsHeld now image object left (units_on v level copy.0) = record {
          holder = hd.holder;
          there = contains_in hd.holder (stored_in now.volume) (stays hd.holder there apart);
          same = hd.same;
          other = hd.other.1;
          root = hd.root;
          large = hd.large;
          all = subst (AllByRecursion (Has (root_units v hd.root))) (sym (units_same u v level copy.0 kept_copy))
              (subst (λ (us : List ℕ). AllByRecursion (Has us) (units_on u level copy.0)) (sym (kept_units hd.holder hd.root there hd.large)) hd.all);
        } in
        let still : IsSent d.geometry dense u after level page = record {
          leaves = each_sent moves after (high_leaves d.geometry dense u level page) keeps c.sent.leaves;
          nodes = each_sent moves after (nodes_above d.geometry dense u level page) keeps c.sent.nodes;
        } in (
          pair_kept d.geometry dense u v (used_at old.units) (used_at new.units) level page copy.0 kept_page kept_copy (held_used (units_on v level copy.0) held) c.sound,
          held,
          sent_same d.geometry dense u v after level page kept_page still,
        )
    | inr made ↦
        let first = x.sound level page copy made.0 sent at (λ p. true) (true_each (units_on v level copy.0)) in
        let held : IsHeld now image object left (units_on v level copy.0) = record {
          holder = x.moved;
          there = x.there;
          same = moved_same;
          other = moved_other;
          root = x.made;
          large = x.large;
          all = root_within d.geometry dense v x.made.height x.made.page level copy.0 made_named made.1 first.named;
        } in
        (x.sound level page copy made.0 sent at (used_at new.units) (held_used (units_on v level copy.0) held), held, sent_same d.geometry dense u v after level page kept_page (x.sent level page copy made.0 sent at))
  ]
    where
      same_oid : (s : Stored) → In s (stored_in d.volume) → unique_of s ≡ number_of version → oid_of s ≡ version.oid
      same_oid s there same = ap oid_of (one_record w old d disk m.rests s mine.0 there here (same ∙ sym own_number)) ∙ mine.1.oid

  copies_left : AllByRecursion (HasHeldCopies new now image dense after object left) left
  copies_left = each_in (HasHeldCopies new now image dense after object left) left (λ other h level page copy has sent at.
      let is_kept = left_kept other h in
      let old_has : Has (root_units u other.root) page = subst (λ (us : List ℕ). Has us page) (units_of_root u v other.root.height other.root.page is_kept) has in
      let sub = root_sub d.geometry dense u (λ (p : ℕ). v p ≡ u p) other.root.height other.root.page page (named w old d disk m.rests other.root (left_root other h)) is_kept old_has in
      let level_is : sub.0 ≡ level = same_level d.geometry v sub.0 level page (named_same d.geometry u v sub.0 page sub.2 sub.1) (subst (λ (g : Geometry). IsNamed g v level page) geo at) in
      let both = held_copy other h level page copy old_has sent (subst (λ (k : ℕ). IsNamed d.geometry u k page) level_is sub.1) (subst (λ (k : ℕ). Kept u v (units_on u k page)) level_is sub.2) in
      record { sound = subst (λ (g : Geometry). IsSoundPair g v (used_at new.units) dense level page copy.0) (sym geo) both.0; held = both.1; sent = subst (λ (g : Geometry). IsSent g dense v after level page) (sym geo) both.2 })

  -- ---- low trees

  in_now : (root : Root) → root_high_leaves now.geometry dense v root ≡ root_high_leaves d.geometry dense v root
  in_now root = ap (λ (g : Geometry). root_high_leaves g dense v root) geo

  low_left : (s : Stored) → Contains (stored_in now.volume) s → IsOfNone later s → IsOther left s → HasLowTree now image dense s
  low_left s there none other = λ root large. elim (same_or_not (unique_of s) (number_of version)) [
    | inl same ↦
        let is : s ≡ x.moved = one_record z new now image x.again.rests s x.moved (in_contains s (stored_in now.volume) there) moved_here (same ∙ sym moved_number) in
        let content : Large root ≡ Large x.made = sym large ∙ ap (λ (t : Stored). t.body.content) is ∙ x.large in
        let root_is : root ≡ x.made = cc in
        in_now root ∙ ap (root_high_leaves d.geometry dense v) root_is ∙ x.high
    | inr apart ↦
        let was = stayed s (in_contains s (stored_in now.volume) there) apart in
        in_now root ∙ same_leaves d.geometry dense u v root (kept s root was large) ∙ m.low s (contains_in s (stored_in d.volume) was) none ((λ same. apart (ap (λ (o : Oid). o.unique) same)), other) root large
  ]

  -- ---- what is in use no more

  -- A unit of the version's tree that is special where it stands is in no tree then, where it is in none of those left.
  none_uses : (p : ℕ) → Has (root_units u version.root) p
      → ((root : Root) → RootNamed d.geometry u root.height root.page → Has (root_units u root) p → root_high_leaves d.geometry dense u root ≡ [] → ⊥)
      → (Has (root_units v x.made) p → ⊥) → ((other : LargeVersion) → In other left → Has (root_units u other.root) p → ⊥) → used_at new.units p ≡ true → ⊥
  none_uses p has special made_off left_off is =
      let off_now : Contains (catalog_no ∷ file_pages now.volume) p → ⊥ = λ page. off_pages w old d disk m.rests version.root own_root p has (subst (λ (ps : List ℕ). Contains (catalog_no ∷ ps) p) x.again.same.pages page) in
      let t = standing z new now image x.again.rests p is off_now in
      elim (same_or_not (unique_of t.stored) (number_of version)) [
        | inl same ↦
            let is_moved : t.stored ≡ x.moved = one_record z new now image x.again.rests t.stored x.moved t.there moved_here (same ∙ sym moved_number) in
            let content : Large t.root ≡ Large x.made = sym t.large ∙ ap (λ (s : Stored). s.body.content) is_moved ∙ x.large in
            let root_is : t.root ≡ x.made = cc in
            made_off (subst (λ (r : Root). Has (root_units v r) p) root_is t.has)
        | inr apart ↦
            let was = stayed t.stored t.there apart in
            let old_has : Has (root_units u t.root) p = subst (λ (us : List ℕ). Has us p) (kept_units t.stored t.root was t.large) t.has in
            let of_object = sharing w old d disk m.rests m.last.0 later object m.last.1 t.stored mine.0 t.root version.root was here t.large mine.1.large p old_has has mine.2 in
            elim (numbered left (unique_of t.stored)) [
              | inl found ↦
                  let there = of_left found.0 found.1 in
                  let is_left : t.stored ≡ there.0 = one_record w old d disk m.rests t.stored there.0 was (left_here found.0 found.1) (sym found.2 ∙ sym (ap (λ (o : Oid). o.unique) there.1.oid)) in
                  let content : Large t.root ≡ Large found.0.root = sym t.large ∙ ap (λ (s : Stored). s.body.content) is_left ∙ there.1.large in
                  let root_is : t.root ≡ found.0.root = cc in
                  left_off found.0 found.1 (subst (λ (r : Root). Has (root_units u r) p) root_is old_has)
              | inr none ↦
                  let others : IsOther left t.stored = each_in (λ (other : LargeVersion). oid_of t.stored ≡ other.oid → ⊥) left (λ other h same. none other h (sym (ap (λ (o : Oid). o.unique) same))) in
                  let of_none : IsOfNone later t.stored = each_in (λ (o : Object). is_of o t.stored ≡ false) later (λ o h. elim (cases_Bool (is_of o t.stored)) [
                    | inl also ↦ absurd (numbers_behind m.last.0 later object o t.stored (subst (λ (os : List Object). AllPairs Differ (flat_map (λ (y : Object). y.versions) os)) m.last.1 (distinct w old d disk m.rests)) (in_list later o h) of_object also)
                    | inr isnt ↦ isnt
                  ]) in
                  special t.root (named w old d disk m.rests t.root (root_there w old d disk m.rests t.stored t.root was t.large)) old_has
                  (m.low t.stored (contains_in t.stored (stored_in d.volume) was) of_none ((λ same. apart (ap (λ (o : Oid). o.unique) same)), others) t.root t.large)
            ]
      ]

  -- ---- counts

  abbrev nodes_own : List ℕ
  nodes_own = root_nodes_above d.geometry dense u version.root

  abbrev nodes_rest : List ℕ
  nodes_rest = flat_map (root_nodes_above d.geometry dense u) (roots_of left)

  abbrev leaves_own : List ℕ
  leaves_own = root_high_leaves d.geometry dense u version.root

  abbrev leaves_rest : List ℕ
  leaves_rest = flat_map (root_high_leaves d.geometry dense u) (roots_of left)

  roots_kept : AllByRecursion (RootKept u v) (roots_of left)
  roots_kept = each_mapped (RootKept u v) (λ (o : LargeVersion). o.root) left (each_in (λ (o : LargeVersion). RootKept u v o.root) left left_kept)

  nodes_now : nodes_high now image dense left ≡ each_once nodes_rest
  nodes_now =
      ap (λ (g : Geometry). each_once (flat_map (root_nodes_above g dense v) (roots_of left))) geo
      ∙ ap each_once (flat_same (root_nodes_above d.geometry dense u) (root_nodes_above d.geometry dense v) (RootKept u v) (roots_of left) (λ root k. same_nodes d.geometry dense u v root k) roots_kept)

  leaves_now : leaves_high now image dense left ≡ each_once leaves_rest
  leaves_now =
      ap (λ (g : Geometry). each_once (flat_map (root_high_leaves g dense v) (roots_of left))) geo
      ∙ ap each_once (flat_same (root_high_leaves d.geometry dense u) (root_high_leaves d.geometry dense v) (RootKept u v) (roots_of left) (λ root k. same_leaves d.geometry dense u v root k) roots_kept)

  same_sizes : new.geometry ≡ old.geometry
  same_sizes = sym x.again.rests.geometry ∙ geo ∙ m.rests.geometry

  own_named : RootNamed d.geometry u version.root.height version.root.page
  own_named = named w old d disk m.rests version.root own_root

  -- a node of the version's tree leads to high leaves as before
  above_now : (p : ℕ) → Has (root_units u version.root) p → IsAbove d.geometry dense u p → IsAbove d.geometry dense v p
  above_now p has above =
      let inside = root_within d.geometry dense u version.root.height version.root.page (suc above.level) p own_named has above.named in
      let kept_p : Kept u v (units_on u (suc above.level) p) = each_as (Has (root_units u version.root)) (λ (q : ℕ). v q ≡ u q) (units_on u (suc above.level) p)
      (λ q k. has_each (λ (r : ℕ). v r ≡ u r) (root_units u version.root) q (kept mine.0 version.root here mine.1.large) k) inside in
      let high = high_same d.geometry dense u v (suc above.level) p kept_p in
      record { level = above.level; named = named_same d.geometry u v (suc above.level) p kept_p above.named; high = high.high ∙ above.high }

  node_at : (p : ℕ) → Has (only_in nodes_own nodes_rest) p → IsAbove d.geometry dense u p × Has (root_units u version.root) p
  node_at p h = let parts = has_only nodes_own nodes_rest p h in root_node_of d.geometry dense u version.root.height version.root.page p own_named parts.0

  leaf_at : (p : ℕ) → Has (only_in leaves_own leaves_rest) p → IsHighLeaf d.geometry dense u p × Has (root_units u version.root) p
  leaf_at p h = let parts = has_only leaves_own leaves_rest p h in root_leaf_of d.geometry dense u version.root.height version.root.page p own_named parts.0

  node_gone : (p : ℕ) → Has (only_in nodes_own nodes_rest) p → used_at new.units p ≡ false
  node_gone p h =
      let parts = has_only nodes_own nodes_rest p h in
      let node = node_at p h in
      elim (cases_Bool (used_at new.units p)) [
        | inr isnt ↦ isnt
        | inl is ↦ absurd (none_uses p node.1
            (λ root is_named has none. root_none_in d.geometry dense u root.height root.page p is_named node.0 has none)
            (λ has. root_none_in d.geometry dense v x.made.height x.made.page p made_named (above_now p node.1 node.0) has x.high)
            (λ other k has. parts.1 (version_in (root_nodes_above d.geometry dense u) left other p k
            (root_node_in d.geometry dense u other.root.height other.root.page p (named w old d disk m.rests other.root (left_root other k)) node.0 has))) is)
      ]

  leaf_gone : (p : ℕ) → Has (only_in leaves_own leaves_rest) p → used_at new.units p ≡ false
  leaf_gone p h =
      let parts = has_only leaves_own leaves_rest p h in
      let leaf = leaf_at p h in
      let then_leaf : IsHighLeaf d.geometry dense v p = record { named = leaf.0.named; high = leaf.0.high } in
      elim (cases_Bool (used_at new.units p)) [
        | inr isnt ↦ isnt
        | inl is ↦ absurd (none_uses p leaf.1
            (λ root is_named has none. subst (λ (xs : List ℕ). Has xs p) none (root_leaf_in d.geometry dense u root.height root.page p is_named leaf.0 has))
            (λ has. subst (λ (xs : List ℕ). Has xs p) x.high (root_leaf_in d.geometry dense v x.made.height x.made.page p made_named then_leaf has))
            (λ other k has. parts.1 (version_in (root_high_leaves d.geometry dense u) left other p k
            (root_leaf_in d.geometry dense u other.root.height other.root.page p (named w old d disk m.rests other.root (left_root other k)) leaf.0 has))) is)
      ]

  -- ---- pages

  page_index : (g : Geometry) (p : ℕ) → InPageArea g p → (j : ℕ) × (j < g.pages) × (unit_at g Page j ≡ p)
  page_index g p area = (p - 257, omega (arith, area.0, area.1), omega (arith, area.0))

  pages_given : GivesBack x.between (used_at new.units) (unit_at old.geometry Page) old.geometry.pages (only_in nodes_own nodes_rest)
  pages_given = record {
    fewer = x.fewer;
    differ = λ i j lt below same. omega (arith, lt, same);
    once = only_once nodes_own nodes_rest;
    inside = λ p h. let node = node_at p h in let at = node.0.named in page_index old.geometry p (subst (λ (g : Geometry). InPageArea g p) m.rests.geometry at.0);
    was = λ p h. let node = node_at p h in x.kept p (in_use w old d disk m.rests version.root own_root p node.1);
    isnt = node_gone;
  }

  pages_left : start.pages + unmoved after (nodes_high now image dense left) ≤ pages_free new + length (nodes_high now image dense left)
  pages_left =
      let given = gives_back x.between (used_at new.units) (unit_at old.geometry Page) old.geometry.pages (only_in nodes_own nodes_rest) pages_given in
      let paid : pages_free old + unmoved after (each_once nodes_own) + length (only_in nodes_own nodes_rest) ≤ free_count old.geometry (used_at new.units) Page + unmoved moves (each_once nodes_own) = omega (arith, x.pages, given) in
      let step = fewer_pages nodes_own nodes_rest moves after keeps start.pages (pages_free old) (free_count old.geometry (used_at new.units) Page) m.pages paid in
      subst (λ (ns : List ℕ). start.pages + unmoved after ns ≤ pages_free new + length ns) (sym nodes_now)
      (subst (λ (g : Geometry). start.pages + unmoved after (each_once nodes_rest) ≤ free_count g (used_at new.units) Page + length (each_once nodes_rest)) (sym same_sizes) step)

  enough_left : length (nodes_high now image dense left) ≤ start.pages
  enough_left = subst (λ (ns : List ℕ). length ns ≤ start.pages) (sym nodes_now) (omega (arith, fewer_left nodes_own nodes_rest moves after keeps, m.enough))

  -- ---- units of the segment area

  leaf_off : (p : ℕ) → NamesLeaf d.geometry p → Contains (catalog_no ∷ file_pages d.volume) p → ⊥
  leaf_off p leaf there =
      let parts = whole w old d disk m.rests in
      let some = (d.geometry).some_pages in
      elim (in_contains p (catalog_no ∷ file_pages d.volume) there) [
        | inl first ↦ omega (arith, leaf.2, first, some)
        | inr page ↦ (let at = of_each (λ (q : ℕ). InPageArea d.geometry q × (q ≢ catalog_no)) p (file_pages d.volume) (file_pages_are d.geometry u d.volume parts.1.0.0) page in omega (arith, leaf.2, at.0.1))
      ]

  leaves_given : GivesBack x.between (used_at new.units) (unit_at old.geometry Segment) old.geometry.segs (only_in leaves_own leaves_rest)
  leaves_given = record {
    fewer = x.fewer;
    differ = λ i j lt below same. (let less = ahead old.geometry i j lt in omega (arith, less, same));
    once = only_once leaves_own leaves_rest;
    inside = λ p h. let leaf = leaf_at p h in let at = subst (λ (g : Geometry). NamesLeaf g p) m.rests.geometry leaf.0.named in (at.0, at.1, sym at.2);
    was = λ p h. let leaf = leaf_at p h in x.kept p (in_use w old d disk m.rests version.root own_root p leaf.1);
    isnt = leaf_gone;
  }

  leaf_given : (p : ℕ) → NamesLeaf d.geometry p → used_at new.units p ≡ false → Has (root_units u version.root) p → Has (only_in leaves_own leaves_rest) p
  leaf_given p leaf isnt has = elim (cases_Bool (is_high d.geometry dense p)) [
    | inr low ↦ absurd (true≢false (sym (in_use z new now image x.again.rests x.made made_root p
        (has_each (Has (root_units v x.made)) (root_low_leaves d.geometry dense u version.root) p x.low (root_low_in d.geometry dense u version.root.height version.root.page p own_named leaf low has))) ∙ isnt))
    | inl high ↦
        only_has leaves_own leaves_rest p (root_leaf_in d.geometry dense u version.root.height version.root.page p own_named (record { named = leaf; high = high }) has) (λ rest.
        (let found = in_version (root_high_leaves d.geometry dense u) left p rest in
        let there = root_leaf_of d.geometry dense u found.0.root.height found.0.root.page p (named w old d disk m.rests found.0.root (left_root found.0 found.1)) found.2 in
        let is_left = of_left found.0 found.1 in
        true≢false (sym (stays_used is_left.0 found.0.root (left_here found.0 found.1) is_left.1.large (left_apart found.0 found.1) p there.1) ∙ isnt)))
  ]

  just_given : (p : ℕ) → NamesLeaf d.geometry p → x.between p ≡ true → used_at new.units p ≡ false → Has (only_in leaves_own leaves_rest) p
  just_given p leaf is isnt = elim (cases_Bool (used_at old.units p)) [
    | inr unused ↦ absurd (true≢false (sym (x.stay p unused is) ∙ isnt))
    | inl used ↦
        let t = standing w old d disk m.rests p used (leaf_off p leaf) in
        elim (same_or_not (unique_of t.stored) (number_of version)) [
          | inr apart ↦ absurd (true≢false (sym (stays_used t.stored t.root t.there t.large apart p t.has) ∙ isnt))
          | inl same ↦
              let is_mine : t.stored ≡ mine.0 = one_record w old d disk m.rests t.stored mine.0 t.there here (same ∙ sym own_number) in
              let content : Large t.root ≡ Large version.root = sym t.large ∙ ap (λ (s : Stored). s.body.content) is_mine ∙ mine.1.large in
              let root_is : t.root ≡ version.root = cc in
              leaf_given p leaf isnt (subst (λ (r : Root). Has (root_units u r) p) root_is t.has)
        ]
  ]

  leaves_all : (j : ℕ) → j < old.geometry.segs → x.between (unit_at old.geometry Segment j) ≡ true → used_at new.units (unit_at old.geometry Segment j) ≡ false → Has (only_in leaves_own leaves_rest) (unit_at old.geometry Segment j)
  leaves_all j lt is isnt = just_given (unit_at old.geometry Segment j) (subst (λ (g : Geometry). NamesLeaf g (unit_at old.geometry Segment j)) (sym m.rests.geometry) (j, lt, refl)) is isnt

  copied : (p : ℕ) → Has (only_in leaves_own leaves_rest) p → one_without (after p) ≡ 0
  copied p h =
      let parts = has_only leaves_own leaves_rest p h in
      let c = has_each (λ (q : ℕ). (copy : PageNo) × (after q ≡ Some copy)) leaves_own p x.each parts.0 in
      ap one_without c.1

  not_new : (p : ℕ) → Has leaves_rest p → (Has leaves_own p → ⊥) → newly moves after p ≡ 0
  not_new p on off = by (after p) refl
    where
      by : (r : Option PageNo) → after p ≡ r → newly moves after p ≡ 0
      by None none = let one : one_without (after p) ≡ 1 = ap one_without none in omega (arith, one, one_most (moves p))
      by (Some copy) some = elim (x.fresh p copy some) [
        | inl was ↦ (let none : one_without (moves p) ≡ 0 = ap one_without was in omega (arith, none))
        | inr made ↦
            let found = in_version (root_high_leaves d.geometry dense u) left p on in
            let there = root_leaf_of d.geometry dense u found.0.root.height found.0.root.page p (named w old d disk m.rests found.0.root (left_root found.0 found.1)) found.2 in
            absurd (off (root_leaf_in d.geometry dense u version.root.height version.root.page p own_named there.0 made.0))
      ]

  segs_left : segs_used new + unmoved after (leaves_high now image dense left) ≡ start.segs + length (leaves_high now image dense left)
  segs_left =
      let at = unit_at old.geometry Segment in
      let given = gives_just x.between (used_at new.units) (unit_at old.geometry Segment) old.geometry.segs (only_in leaves_own leaves_rest) leaves_given leaves_all in
      let paid : used_in old.geometry (used_at new.units) Segment + unmoved after (each_once leaves_own) + length (only_in leaves_own leaves_rest) ≡ segs_used old + unmoved moves (each_once leaves_own) =
      omega (
        arith,
        x.segs,
        given,
        free_or_used (used_at old.units) (unit_at old.geometry Segment) old.geometry.segs,
        free_or_used (used_at new.units) (unit_at old.geometry Segment) old.geometry.segs,
      ) in
      let step = same_units leaves_own leaves_rest moves after keeps start.segs (segs_used old) (used_in old.geometry (used_at new.units) Segment) m.segs paid copied not_new in
      subst (λ (ns : List ℕ). segs_used new + unmoved after ns ≡ start.segs + length ns) (sym leaves_now)
      (subst (λ (g : Geometry). used_in g (used_at new.units) Segment + unmoved after (each_once leaves_rest) ≡ start.segs + length (each_once leaves_rest)) (sym same_sizes) step)

  -- ---- what is left

  pub stepped : IsMoving z new now image start object later after left
  stepped = record {
    rests = x.again.rests;
    since = record { catalog = m.since.catalog ∙ sym x.again.same.page; last = m.since.last ∙ ap (λ (c : Catalog). c.last) (sym x.again.same.catalog) };
    last = (m.last.0, ap objects_of x.again.same.table ∙ m.last.1);
    pages = pages_left;
    segs = segs_left;
    enough = enough_left;
    each = each_left;
    once = m.once.1;
    copies = copies_left;
    low = low_left;
  }

  -- ---- later objects

  later_apart : (o : Object) → In o later → (s : Stored) → is_of o s ≡ true → unique_of s ≡ number_of version → ⊥
  later_apart o h s is same =
      numbers_behind m.last.0 later object o mine.0 (subst (λ (os : List Object). AllPairs Differ (flat_map (λ (y : Object). y.versions) os)) m.last.1 (distinct w old d disk m.rests)) (in_list later o h) mine.2
      (of_same_number o mine.0 s (own_number ∙ sym same) ∙ is)

  same_nodes_now : (s : Stored) (root : Root) → In s (stored_in d.volume) → s.body.content ≡ Large root → root_nodes_above now.geometry dense v root ≡ root_nodes_above d.geometry dense u root
  same_nodes_now s root there large = ap (λ (g : Geometry). root_nodes_above g dense v root) geo ∙ same_nodes d.geometry dense u v root (kept s root there large)

  pub needs_left : AllByRecursion (NeedsAsMuch d disk now image dense) later
  needs_left = each_in (NeedsAsMuch d disk now image dense) later (λ o h.
      as_many (flat_map (root_nodes_above now.geometry dense v) (roots_of_object now.volume o)) (flat_map (root_nodes_above d.geometry dense u) (roots_of_object d.volume o))
      (λ p has.
      let r = of_root now.volume (root_nodes_above now.geometry dense v) o p has in
      let was = stayed r.stored r.there (later_apart o h r.stored r.same) in
      root_of d.volume (root_nodes_above d.geometry dense u) o p
      (record { stored = r.stored; there = was; same = r.same; root = r.root; large = r.large; has = subst (λ (xs : List ℕ). Has xs p) (same_nodes_now r.stored r.root was r.large) r.has }))
      (λ p has.
      let r = of_root d.volume (root_nodes_above d.geometry dense u) o p has in
      root_of now.volume (root_nodes_above now.geometry dense v) o p
      (record { stored = r.stored; there = stays r.stored r.there (later_apart o h r.stored r.same); same = r.same; root = r.root; large = r.large; has = subst (λ (xs : List ℕ). Has xs p) (sym (same_nodes_now r.stored r.root r.there r.large)) r.has })))

  pub records_left : AllByRecursion (KeepsRecords d.volume now.volume) later
  records_left = each_in (KeepsRecords d.volume now.volume) later (λ o h s is. (
    λ there. contains_in s (stored_in now.volume) (stays s (in_contains s (stored_in d.volume) there) (later_apart o h s is)),
    λ there. contains_in s (stored_in d.volume) (stayed s (in_contains s (stored_in now.volume) there) (later_apart o h s is)),
  ))
