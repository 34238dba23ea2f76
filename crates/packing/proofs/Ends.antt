-- An object that is packed: before its first version, before each one, and behind its last one.
use Rattle.std.proofs.Common.{◌≡◌, inl, inr, ℕ, ◌+◌, ◌<◌, ◌≤◌, true, List, [], ◌∷◌, ◌++◌, length, None, append_assoc, refl, sym, ap, subst, ◌∙◌, arith}
use Rattle.std.specs.Prelude.{Contains}
use Rattle.std.specs.List.{AllByRecursion, flat_map}
use Rattle.std.proofs.lemmas.Bool.{cases_Bool, cases_lt, leb-true}
use Rattle.std.proofs.lemmas.Option.{none-some}
use Rattle.ex_base.specs.declared.geometry.Geometry.{Geometry}
use Rattle.ex_base.specs.declared.names.Area.TheVariants.{Segment}
use Rattle.ex_base.specs.declared.names.Root.{Root}
use Rattle.ex_base.specs.Area.{unit_at}
use Rattle.ex_base.proofs.Counts.{same_or_not}
use Rattle.ex_base.proofs.Each.{each_as, each_mapped}
use Rattle.ex_base.proofs.Members.{In, contains_in, each_in, in_contains, into_flat, of_each}
use Rattle.disk_model.specs.Outside.{Outside}
use Rattle.object_records.specs.Record.{Content, Large}
use Rattle.page_alloc.specs.UnitSet.{used_at}
use Rattle.table_model.specs.Tables.{objects_of}
use Rattle.trees.specs.Made.{Has}
use Rattle.trees.specs.Trees.{Units, root_units, units_on}
use Rattle.trees.proofs.Laid.{has_left}
use Rattle.version_lists.specs.declared.version.Object.{Object}
use Rattle.version_lists.proofs.Lists as lists
use Rattle.volume_model.specs.Links.{stored_units}
use Rattle.volume_model.specs.Shown.{used_below, used_in}
use Rattle.volume_model.specs.Volume.{Decoded, Stored, Volume, oid_of, root_in, roots_in, stored_in, table_of, units_of}
use Rattle.volume_moves.proofs.Moving.{unit_in}
use Rattle.volume_moves.specs.Moves.{IsOfNoOther}
use Rattle.volume_port.specs.declared.state.VolumeState.{VolumeState}
use Rattle.compact.specs.High.{root_high_leaves, root_nodes_above}
use Rattle.compact.specs.Moved.{Copies, one_without, unmoved}
use Rattle.compact.proofs.Counting.{once_times}
use Rattle.packing.specs.Dense.{is_of, need_in, roots_of_object}
use Rattle.packing.specs.Loop.{AreOfObject, AreRootsIn, HasHeldCopies, IsHeld, IsMoving, IsOfObject, IsPacking, leaves_high, nodes_high, roots_of}
use Rattle.packing.specs.Packing.{segs_used}
use Rattle.packing.specs.Resting.{CopyIsOwn, HasOwnCopies, HasRoomFor}
use Rattle.packing.specs.declared.objects.LargeVersion.{LargeVersion}
use Rattle.packing.specs.declared.start.Start.{Start}
use Rattle.packing.proofs.Above.{IsHighLeaf, root_leaf_of}
use Rattle.packing.proofs.Given.{AreBehind, behind_most}
use Rattle.packing.proofs.LowUnits.{free_or_used}
use Rattle.packing.proofs.OfObjects.{of_one}
use Rattle.packing.proofs.Stepping.{ahead, in_list, in_version, of_root, one_most, root_of, version_in, whole}
use Rattle.packing.proofs.Totals.{as_many, back_once, fewer_unmoved}
use Rattle.packing.proofs.Trees.{in_use, named, off_pages, root_there}

-- ---- what has no copy

pub unmoved_most : (moves : Copies) (xs : List ℕ) → unmoved moves xs ≤ length xs
unmoved_most moves [] = omega arith
unmoved_most moves (x ∷ xs) = omega (arith, one_most (moves x), unmoved_most moves xs)

unmoved_all : (moves : Copies) (xs : List ℕ) → ((p : ℕ) → moves p ≡ None) → unmoved moves xs ≡ length xs
unmoved_all moves [] none = refl
unmoved_all moves (x ∷ xs) none = (let one : one_without (moves x) ≡ 1 = ap one_without (none x) in omega (arith, one, unmoved_all moves xs none))

-- ---- before a version

module _ (w : Outside) (volume : VolumeState) (d : Decoded) (disk : List ℕ) (start : Start) (object : Object) (later : List Object) (moves : Copies) (version : LargeVersion) (left : List LargeVersion)
    (m : IsMoving w volume d disk start object later moves (version ∷ left)) where
  abbrev u : Units
  u = units_of d disk

  mine : IsOfObject d.volume object version
  mine = m.each.0

  here : In mine.0 (stored_in d.volume)
  here = in_contains mine.0 (stored_in d.volume) mine.1.there

  object_there : lists.Has (objects_of (table_of u d.volume)) object
  object_there = subst (λ (os : List Object). lists.Has os object) (sym m.last.1) (lists.has_back m.last.0 (object ∷ later) object (inl refl))

  in_tree : (s : Stored) (root : Root) (p : ℕ) → s.body.content ≡ Large root → Has (root_units u root) p → In p (stored_units u s)
  in_tree s root p large has = into_flat (root_units u) p root (root_in s.body.content) (subst (λ (c : Content). In root (root_in c)) (sym large) (inl refl)) (unit_in (root_units u root) p has)

  of_no_other : (units : List ℕ) (h : IsHeld d disk object (version ∷ left) units) (p : ℕ) → Has (root_units u h.root) p → IsOfNoOther u d.volume mine.0.place p
  of_no_other units h p has = λ s there inside told. elim (same_or_not (told.object s.place) (told.object h.holder.place)) [
    | inr differ ↦ absurd (of_each (λ (q : ℕ). Contains (stored_units u h.holder) q → ⊥) p (stored_units u s) (told.apart s h.holder there h.there differ) (in_contains p (stored_units u s) inside)
        (contains_in p (stored_units u h.holder) (in_tree h.holder h.root p h.large has)))
    | inl same ↦
        same ∙ of_one d.geometry d.records u d.volume (whole w volume d disk m.rests) object object_there h.holder mine.0
        (in_list (stored_in d.volume) h.holder (in_contains h.holder (stored_in d.volume) h.there)) (in_list (stored_in d.volume) mine.0 here) h.same mine.2 told
  ]

  own_units : (units : List ℕ) → IsHeld d disk object (version ∷ left) units → AllByRecursion (CopyIsOwn d disk mine.0) units
  own_units units h =
      let there = in_contains h.holder (stored_in d.volume) h.there in
      let root = root_there w volume d disk m.rests h.holder h.root there h.large in
      each_as (Has (root_units u h.root)) (CopyIsOwn d disk mine.0) units (λ p has. (of_no_other units h p has, off_pages w volume d disk m.rests h.root root p has)) h.all

  pub own_copies : HasOwnCopies volume d disk start.segs moves version
  own_copies = record {
    stored = mine.0;
    there = mine.1.there;
    oid = mine.1.oid;
    large = mine.1.large;
    copies = λ level page copy has sent at.
        let c = m.copies.0 level page copy has sent at in
        record { sound = c.sound; own = own_units (units_on u level copy.0) c.held; sent = c.sent };
  }

  -- ---- room

  abbrev nodes_own : List ℕ
  nodes_own = root_nodes_above d.geometry start.segs u version.root

  abbrev nodes_rest : List ℕ
  nodes_rest = flat_map (root_nodes_above d.geometry start.segs u) (roots_of left)

  abbrev leaves_own : List ℕ
  leaves_own = root_high_leaves d.geometry start.segs u version.root

  abbrev leaves_rest : List ℕ
  leaves_rest = flat_map (root_high_leaves d.geometry start.segs u) (roots_of left)

  abbrev high : List ℕ
  high = leaves_high d disk start.segs (version ∷ left)

  leaf_here : (p : ℕ) → Has high p → IsHighLeaf d.geometry start.segs u p × (used_at volume.units p ≡ true)
  leaf_here p has =
      let found = in_version (root_high_leaves d.geometry start.segs u) (version ∷ left) p (back_once (leaves_own ++ leaves_rest) p has) in
      let is = of_each (IsOfObject d.volume object) found.0 (version ∷ left) m.each found.1 in
      let root = root_there w volume d disk m.rests is.0 found.0.root (in_contains is.0 (stored_in d.volume) is.1.there) is.1.large in
      let leaf = root_leaf_of d.geometry start.segs u found.0.root.height found.0.root.page p (named w volume d disk m.rests found.0.root root) found.2 in
      (leaf.0, in_use w volume d disk m.rests found.0.root root p leaf.1)

  high_index : (p : ℕ) → IsHighLeaf d.geometry start.segs u p → (j : ℕ) × (start.segs ≤ j) × (j < d.geometry.segs) × (unit_at d.geometry Segment j ≡ p)
  high_index p leaf =
      let at = leaf.named in
      let above : unit_at d.geometry Segment start.segs ≤ p = leb-true (unit_at d.geometry Segment start.segs) p leaf.high in
      let from : start.segs ≤ at.0 = elim (cases_lt at.0 start.segs) [
        | inl before ↦ absurd (let less = ahead d.geometry at.0 start.segs before in omega (arith, less, above, at.2))
        | inr behind ↦ omega (arith, behind)
      ] in
      (at.0, from, at.1, sym at.2)

  behind : AreBehind (used_at volume.units) (unit_at d.geometry Segment) start.segs d.geometry.segs high
  behind = record {
    differ = λ i j lt below same. (let less = ahead d.geometry i j lt in omega (arith, less, same));
    once = once_times (leaves_own ++ leaves_rest);
    inside = λ p has. let leaf = leaf_here p has in high_index p leaf.0;
    in_use = λ p has. let leaf = leaf_here p has in leaf.1;
  }

  segs_here : used_below (used_at volume.units) (unit_at d.geometry Segment) d.geometry.segs ≡ segs_used volume
  segs_here = ap (λ (g : Geometry). used_in g (used_at volume.units) Segment) m.rests.geometry

  few_segs : start.segs ≤ d.geometry.segs
  few_segs = omega (arith, m.segs, unmoved_most moves high, segs_here, free_or_used d.geometry (used_at volume.units) d.geometry.segs)

  pub room : HasRoomFor volume d disk start.segs moves version.root
  room = record {
    pages = let few = fewer_unmoved moves nodes_own (nodes_own ++ nodes_rest) (λ p h. has_left nodes_own nodes_rest p h) in omega (arith, few, m.pages, m.enough);
    leaves =
        let few = fewer_unmoved moves leaves_own (leaves_own ++ leaves_rest) (λ p h. has_left leaves_own leaves_rest p h) in
        let most = behind_most (used_at volume.units) (unit_at d.geometry Segment) start.segs d.geometry.segs high few_segs behind in
        omega (arith, few, most, segs_here, m.segs, free_or_used d.geometry (used_at volume.units) start.segs);
    low = few_segs;
  }

-- ---- before the first version

-- the versions of an object need as much as the object
pub same_need : (d : Decoded) (disk : List ℕ) (dense : ℕ) (object : Object) (versions : List LargeVersion) → AreOfObject d.volume object versions → length (nodes_high d disk dense versions) ≡ need_in d disk dense object
same_need d disk dense object versions are =
    as_many (flat_map (root_nodes_above d.geometry dense (units_of d disk)) (roots_of versions)) (flat_map (root_nodes_above d.geometry dense (units_of d disk)) (roots_of_object d.volume object))
    (λ p has.
    let found = in_version (root_nodes_above d.geometry dense (units_of d disk)) versions p has in
    let is = of_each (IsOfObject d.volume object) found.0 versions are.each found.1 in
    root_of d.volume (root_nodes_above d.geometry dense (units_of d disk)) object p
    (record { stored = is.0; there = in_contains is.0 (stored_in d.volume) is.1.there; same = is.2; root = found.0.root; large = is.1.large; has = found.2 }))
    (λ p has.
    let r = of_root d.volume (root_nodes_above d.geometry dense (units_of d disk)) object p has in
    let version = are.all r.stored r.root (contains_in r.stored (stored_in d.volume) r.there) r.same r.large in
    let stored = version.2 in
    let content : Large r.root ≡ Large version.0.root = sym r.large ∙ stored.large in
    let root_is : r.root ≡ version.0.root = cc in
    version_in (root_nodes_above d.geometry dense (units_of d disk)) versions version.0 p (in_contains version.0 versions version.1)
    (subst (λ (root : Root). Has (root_nodes_above d.geometry dense (units_of d disk) root) p) root_is r.has))

pub roots_inside : (v : Volume) (object : Object) (versions : List LargeVersion) → AreOfObject v object versions → AreRootsIn v (roots_of versions)
roots_inside v object versions are =
    each_mapped (λ (root : Root). Contains (roots_in (stored_in v)) root) (λ (version : LargeVersion). version.root) versions
    (each_as (IsOfObject v object) (λ (version : LargeVersion). Contains (roots_in (stored_in v)) version.root) versions (λ version is.
    contains_in version.root (roots_in (stored_in v)) (into_flat (λ (s : Stored). root_in s.body.content) version.root is.0 (stored_in v) (in_contains is.0 (stored_in v) is.1.there)
    (subst (λ (c : Content). In version.root (root_in c)) (sym is.1.large) (inl refl)))) are.each)

module _ (w : Outside) (volume : VolumeState) (d : Decoded) (disk : List ℕ) (start : Start) (object : Object) (later : List Object) (moves : Copies) (versions : List LargeVersion)
    (p : IsPacking w volume d disk start (object ∷ later)) (are : AreOfObject d.volume object versions) (enough : need_in d disk start.segs object ≤ start.pages) (none : (page : ℕ) → moves page ≡ None) where
  pub begun : IsMoving w volume d disk start object later moves versions
  begun = record {
    rests = p.rests;
    since = p.since;
    last = p.last;
    pages = omega (arith, p.pages, unmoved_most moves (nodes_high d disk start.segs versions));
    segs = omega (arith, p.segs, unmoved_all moves (leaves_high d disk start.segs versions) none);
    enough = omega (arith, enough, same_need d disk start.segs object versions are);
    each = are.each;
    once = are.once;
    copies = each_in (HasHeldCopies volume d disk start.segs moves object versions) versions (λ version h level page copy has sent at. absurd (none-some copy (sym (none page) ∙ sent)));
    low = λ s there off other root large. elim (cases_Bool (is_of object s)) [
      | inl is ↦
          let version = are.all s root there is large in
          let apart = of_each (λ (v : LargeVersion). oid_of s ≡ v.oid → ⊥) version.0 versions other (in_contains version.0 versions version.1) in
          absurd (apart version.2.oid)
      | inr isnt ↦ p.low s there (isnt, off) root large
    ];
  }

-- ---- behind the last version

pub ended : (w : Outside) (volume : VolumeState) (d : Decoded) (disk : List ℕ) (start : Start) (object : Object) (later : List Object) (moves : Copies) → IsMoving w volume d disk start object later moves [] → IsPacking w volume d disk start later
ended w volume d disk start object later moves m = record {
  rests = m.rests;
  since = m.since;
  last = (m.last.0 ++ object ∷ [], m.last.1 ∙ sym (append_assoc m.last.0 (object ∷ []) later));
  segs = omega (arith, m.segs);
  pages = omega (arith, m.pages);
  low = λ s there off. m.low s there off tt;
}
