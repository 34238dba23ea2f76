-- A volume in which an update changes the records of one file.
use Rattle.std.proofs.Common.{[], ◌∷◌, None, Some, false, ◌≡◌, ℕ, ◌+◌, ◌<◌, ◌≤◌, List, ◌++◌, Option, sym, ap, subst, ◌∙◌, arith, inl, inr, ◌⊎◌}
use Rattle.std.specs.Prelude.{Contains}
use Rattle.std.specs.List.{flat_map, AllByRecursion, AllZip}
use Rattle.std.proofs.lemmas.Option.{none-some, same_Some}
use Rattle.ex_base.specs.declared.ground.Ground as ground
use Rattle.ex_base.specs.declared.names.Place.{Place}
use Rattle.ex_base.specs.declared.names.Root.{Root}
use Rattle.ex_base.proofs.Counts.{contains_times, times_contains}
use Rattle.ex_base.proofs.Each.{each_as}
use Rattle.ex_base.proofs.Members.{In, contains_in, each_in, from_flat, in_contains, into_flat, of_each}
use Rattle.version_lists.proofs.Lists.{Has, has_back, has_either, has_front}
use Rattle.table_model.specs.declared.table.Table.{Table}
use Rattle.ex_base.specs.declared.names.Index.{Index}
use Rattle.file_bodies.specs.Bodies.{bodies_of}
use Rattle.file_bodies.specs.Files.{HasFile, with_index}
use Rattle.file_bodies.proofs.Ordered.{ordered}
use Rattle.trees.specs.Trees.{Units, root_units}
use Rattle.op_log.specs.declared.record.LogRecord.{LogRecord}
use Rattle.volume_model.specs.Links.{AreLinked, HasObjects, stored_units, NumbersDiffer, PlacesDiffer, place_in}
use Rattle.volume_model.specs.Parts.{HasUniques, IsStored}
use Rattle.volume_model.specs.Volume.{Stored, Volume, content_in, file_pages, root_in, roots_in, stored_in, table_of, unique_of}
use Rattle.volume_model.proofs.Places.{Sep, each_has, has_each, sep_from, sep_one, sep_to}
use Rattle.versions.specs.Versions.{AreInUse}
use Rattle.version_tree.specs.Bodies.{PlaceChange, EditsBodies}
use Rattle.volume_edits.specs.Ported.{IsVolume, IsApart, units_in}
use Rattle.volume_edits.specs.Edits.{MovesVolume, TurnsRoots, trees_of}
use Rattle.volume_model.proofs.Kept.{StoredKept, content_same, stored_same}
use Rattle.volume_edits.proofs.Lists.{Paired}
use Rattle.volume_edits.proofs.RecordEdits.{EditsStored, IsWritten}
use Rattle.volume_edits.proofs.RecordUpdates.{IsAbove, SameBytes, SameTrees}
use Rattle.volume_edits.proofs.Rows.{rows_edit, rows_read}
use Rattle.volume_edits.proofs.Turning.{Came, Turn, later_differ}
use Rattle.volume_edits.proofs.TurnCounts.{named_root, roots_counted, has_in, in_has, own_content, sep_back, sep_both, sep_cross, sep_front}
use Rattle.volume_edits.proofs.VolumeTrees.{IsFine, IsTree, IsVolumeTree}
use Rattle.volume_edits.proofs.Holes.{Hole, catalog_with, filled, stored_filled, stored_first, stored_last}
use Rattle.volume_edits.proofs.Placed.{placed, records_of}
use Rattle.volume_edits.proofs.Edited.{Edit, all_kept, edited, own_kept, fine_root, own_trees, places_after, tree_moved, trees_from, units_kept}
use Rattle.volume_edits.proofs.Rowed.{row_catalog, row_frame, row_pages, with_after}

-- The number is one that a volume may give to a new record.
pub record IsNew (v : Volume) (n : ℕ) : Type 0 where
  pub some : 1 ≤ n
  pub below : n < v.catalog.next_unique
  pub above : IsAbove n (stored_in v)

-- The bodies of one file of a volume change at some places, each of them to a record.
pub record FileUpdate {S : Type 0} (g : ground.Ghosts S) (old new : S) (records : List LogRecord) (h : Hole) (index after : Index) (changes : List PlaceChange) : Type 0 where
  pub vol : IsVolume g old records (filled h (g.image old) index (records_of (g.image old) index))
  pub number : index.file_no ≡ h.file_no
  pub paired : Paired h.entries_before h.files_before
  pub records_are : AllZip IsStored (bodies_of (g.image old) index) (records_of (g.image old) index)
  pub file : HasFile g old index
  pub geometry : g.geometry new ≡ g.geometry old
  pub apart : IsApart g new
  pub in_use : AreInUse g new
  pub bodies : EditsBodies g old new index after changes
  pub written : AllByRecursion IsWritten changes

-- a volume in which the bodies of one file change so
pub record Updated {S : Type 0} (g : ground.Ghosts S) (old new : S) (records : List LogRecord) (v : Volume) (index after : Index) (changes : List PlaceChange) : Type 0 where
  pub hole : Hole
  pub same : v ≡ filled hole (g.image old) index (records_of (g.image old) index)
  pub update : FileUpdate g old new records hole index after changes

pub updated_file : {S : Type 0} (g : ground.Ghosts S) (old new : S) (records : List LogRecord) (v : Volume) (index after : Index) (changes : List PlaceChange) → IsVolume g old records v → HasFile g old index
    → g.geometry new ≡ g.geometry old → IsApart g new → AreInUse g new → EditsBodies g old new index after changes → AllByRecursion IsWritten changes → Updated g old new records v index after changes
updated_file g old new records v index after changes vol file geometry apart in_use bodies written =
    let p = placed g old records v vol.shows index file.entry in
    record {
      hole = p.hole;
      same = p.same;
      update = record {
        vol = subst (IsVolume g old records) p.same vol;
        number = p.number;
        paired = p.paired;
        records_are = p.records;
        file = file;
        geometry = geometry;
        apart = apart;
        in_use = in_use;
        bodies = bodies;
        written = written;
      };
    }

-- The records of the file turn so: they are linked, and what is made has a new number, and the tree of another one.
pub record FileTurn {S : Type 0} (g : ground.Ghosts S) (old new : S) (h : Hole) (index after : Index) (gone : Option Place) (made : List Stored) : Type 0 where
  pub linked : AreLinked (records_of (g.image new) after)
  pub older : Stored → Option Place
  pub newer : Stored → Option Place
  pub turn : Turn (records_of (g.image old) index) (records_of (g.image new) after) older newer own_content gone made
  pub made_new : (t : Stored) → Has made t → IsNew (filled h (g.image old) index (records_of (g.image old) index)) (unique_of t)
  pub made_roots : (root : Root) → In root (roots_in made) → In root (roots_in (records_of (g.image old) index))

module _ {S : Type 0} (g : ground.Ghosts S) (old new : S) (records : List LogRecord) (h : Hole) (index after : Index) (changes : List PlaceChange) (update : FileUpdate g old new records h index after changes) where
  abbrev U : Units
  U = units_in g old

  abbrev U' : Units
  U' = units_in g new

  -- the records of the file, before and after
  abbrev was : List Stored
  was = records_of (g.image old) index

  abbrev later : List Stored
  later = records_of (g.image new) after

  abbrev v : Volume
  v = filled h (g.image old) index was

  abbrev v' : Volume
  v' = filled h (g.image new) after later

  -- ---- the file

  pub records_edit : EditsStored was later changes
  records_edit = rows_edit (bodies_of (g.image old) index) (bodies_of (g.image new) after) changes (ordered g new after update.bodies.file) update.bodies.bodies (ordered g old index update.file)

  records_later : AllZip IsStored (bodies_of (g.image new) after) later
  records_later = rows_read (bodies_of (g.image old) index) (bodies_of (g.image new) after) changes (ordered g new after update.bodies.file) update.bodies.bodies was update.records_are update.written

  pub the_edit : AreLinked later → Edit g old new h index after later
  the_edit linked = record {
    frame = row_frame g old new index after update.file update.bodies.file update.bodies.same_file update.bodies.catalog update.bodies.pages update.geometry update.apart update.in_use;
    number = update.bodies.same_file ∙ update.number;
    file = update.bodies.file;
    catalog = row_catalog g old new index after update.file update.bodies.file update.bodies.same_file update.bodies.catalog update.bodies.pages records h was update.vol.shows update.number;
    paired = update.paired;
    records = records_later;
    linked = linked;
  }

  pub catalog_after : catalog_with h after ≡ with_index (catalog_with h index) after
  catalog_after = sym (with_after g old new index after update.file update.bodies.file update.bodies.same_file update.bodies.catalog update.bodies.pages records h was update.vol.shows update.number)

  pub pages_after : (page : ℕ) → Contains (file_pages v') page → Contains (file_pages v) page ⊎ (g.used old page ≡ false)
  pages_after page c = elim (row_pages g old new index after update.file update.bodies.file update.bodies.same_file update.bodies.catalog update.bodies.pages records h was update.vol.shows update.number later page (contains_times page (file_pages v') c)) [
    | inl some ↦ inl (times_contains page (file_pages v) some)
    | inr free ↦ inr free
  ]

  -- records of before spell the same bytes, over the same trees
  module _ (linked : AreLinked later) where
    pub bytes_same : SameBytes U U' was
    bytes_same = each_as (StoredKept U U') (λ (s : Stored). content_in U' s.body.content ≡ content_in U s.body.content) was (λ s k. content_same U U' s.body.content k) (own_kept g old new records h index after was later update.vol (the_edit linked))

    pub trees_same : SameTrees U U' (stored_first h ++ (was ++ stored_last h))
    trees_same = subst (SameTrees U U') (stored_filled h (g.image old) index was)
        (each_as (StoredKept U U') (λ (s : Stored). stored_units U' s ≡ stored_units U s) (stored_in v) (λ s k. stored_same U U' s k) (all_kept g old new records h index after was later update.vol (the_edit linked)))

  -- ---- its records turn

  module _ (gone : Option Place) (made : List Stored) (turns : FileTurn g old new h index after gone made) where
    abbrev older : Stored → Option Place
    older = turns.older

    abbrev newer : Stored → Option Place
    newer = turns.newer

    abbrev edit : Edit g old new h index after later
    edit = the_edit turns.linked

    before_differ : Sep unique_of (stored_first h ++ (was ++ stored_last h))
    before_differ = subst (Sep unique_of) (stored_filled h (g.image old) index was) (sep_from unique_of (stored_in v) update.vol.shows.parts.1.1.1.1.1.1.0.differ)

    pub own_differ : Sep unique_of was
    own_differ = sep_front unique_of was (stored_last h) (sep_back unique_of (stored_first h) (was ++ stored_last h) before_differ)

    in_volume : (s : Stored) → Has (stored_first h ++ (was ++ stored_last h)) s → Has (stored_in v) s
    in_volume s k = subst (λ (t : List Stored). Has t s) (sym (stored_filled h (g.image old) index was)) k

    -- what is made has another number than all
    new_number : (s t : Stored) → Has (stored_first h ++ (was ++ stored_last h)) s → Has made t → unique_of s ≡ unique_of t → ⊥
    new_number s t k m same =
        let l = each_has (λ (x : Stored). unique_of x < unique_of t) (stored_in v) (turns.made_new t m).above s (in_volume s k) in
        omega (arith, l, same)

    pub fresh : (s t : Stored) → Has was s → Has made t → unique_of s ≡ unique_of t → ⊥
    fresh s t k m same = new_number s t (has_back (stored_first h) (was ++ stored_last h) s (has_front was (stored_last h) s k)) m same

    -- a record of another file has another number than one of this
    off : (s t : Stored) → Has (stored_first h) s ⊎ Has (stored_last h) s → Has made t ⊎ Came was older newer own_content gone t → unique_of s ≡ unique_of t → ⊥
    off s t (inl k) (inl m) same = new_number s t (has_front (stored_first h) (was ++ stored_last h) s k) m same
    off s t (inr k) (inl m) same = new_number s t (has_back (stored_first h) (was ++ stored_last h) s (has_back was (stored_last h) s k)) m same
    off s t (inl k) (inr c) same = sep_cross unique_of (stored_first h) (was ++ stored_last h) s c.was before_differ k (has_front was (stored_last h) c.was c.there) (same ∙ sym (ap unique_of c.is))
    off s t (inr k) (inr c) same = sep_cross unique_of was (stored_last h) c.was s (sep_back unique_of (stored_first h) (was ++ stored_last h) before_differ) c.there k (ap unique_of c.is ∙ sym same)

    after_differ : Sep unique_of (stored_first h ++ (later ++ stored_last h))
    after_differ = sep_both unique_of (stored_first h) (later ++ stored_last h) (sep_front unique_of (stored_first h) (was ++ stored_last h) before_differ)
        (sep_both unique_of later (stored_last h) (later_differ was later older newer own_content gone made turns.turn own_differ fresh) (sep_back unique_of was (stored_last h) (sep_back unique_of (stored_first h) (was ++ stored_last h) before_differ))
        (λ t s k m same. off s t (inr m) (turns.turn.from t k) (sym same)))
        (λ s t k m same. elim (has_either later (stored_last h) t m) [
          | inl a ↦ off s t (inl k) (turns.turn.from t a) same
          | inr b ↦ sep_cross unique_of (stored_first h) (was ++ stored_last h) s t before_differ k (has_back was (stored_last h) t b) same
        ])

    pub numbers_after : NumbersDiffer (stored_in v')
    numbers_after = sep_to unique_of (stored_in v') (subst (Sep unique_of) (sym (stored_filled h (g.image new) after later)) after_differ)

    pub all_apart : PlacesDiffer (stored_in v')
    all_apart = places_after g old new records h index after was later update.vol edit numbers_after

    -- what holds of the number of each record, and of each that is made
    each_number : (P : ℕ → Type 0) → AllByRecursion (λ (s : Stored). P (unique_of s)) (stored_in v) → ((t : Stored) → Has made t → P (unique_of t)) → AllByRecursion (λ (s : Stored). P (unique_of s)) (stored_in v')
    each_number P all news = has_each (λ (s : Stored). P (unique_of s)) (stored_in v') (λ s k. by s (subst (λ (t : List Stored). Has t s) (stored_filled h (g.image new) after later) k))
      where
        at : (s : Stored) → Has (stored_first h ++ (was ++ stored_last h)) s → P (unique_of s)
        at s k = each_has (λ (x : Stored). P (unique_of x)) (stored_in v) all s (in_volume s k)

        own : (t : Stored) → Has made t ⊎ Came was older newer own_content gone t → P (unique_of t)
        own t (inl m) = news t m
        own t (inr c) = subst P (ap unique_of c.is) (at c.was (has_back (stored_first h) (was ++ stored_last h) c.was (has_front was (stored_last h) c.was c.there)))

        by : (s : Stored) → Has (stored_first h ++ (later ++ stored_last h)) s → P (unique_of s)
        by s k = elim (has_either (stored_first h) (later ++ stored_last h) s k) [
          | inl a ↦ at s (has_front (stored_first h) (was ++ stored_last h) s a)
          | inr b ↦ elim (has_either later (stored_last h) s b) [
            | inl c ↦ own s (turns.turn.from s c)
            | inr d ↦ at s (has_back (stored_first h) (was ++ stored_last h) s (has_back was (stored_last h) s d))
          ]
        ]

    uniques_after : HasUniques v'
    uniques_after = record {
      differ = numbers_after;
      some = each_number (λ n. 1 ≤ n) update.vol.shows.parts.1.1.1.1.1.1.0.some (λ t m. (turns.made_new t m).some);
      below = each_number (λ n. n < h.next) update.vol.shows.parts.1.1.1.1.1.1.0.below (λ t m. (turns.made_new t m).below);
    }

    -- ---- its trees are those of before

    root_was : (root : Root) → In root (roots_in later) → In root (roots_in was)
    root_was root k =
        let s = from_flat (λ (x : Stored). root_in x.body.content) root later k in
        by s.0 (turns.turn.from s.0 (in_has later s.0 s.1)) s.2
      where
        by : (t : Stored) → Has made t ⊎ Came was older newer own_content gone t → In root (root_in t.body.content) → In root (roots_in was)
        by t (inl m) own = turns.made_roots root (into_flat (λ (x : Stored). root_in x.body.content) root t made (has_in made t m) own)
        by t (inr c) own = into_flat (λ (x : Stored). root_in x.body.content) root c.was was (has_in was c.was c.there) (subst (λ (x : Stored). In root (root_in x.body.content)) (sym c.is) own)

    tree_was : (root : Root) → In root (roots_in later) → IsVolumeTree g old root
    tree_was root k = of_each (IsVolumeTree g old) root (roots_in was) (own_trees g old new records h index after was later update.vol edit) (root_was root k)

    units_own : (u : ℕ) → In u (flat_map (root_units U') (roots_in later)) → In u (flat_map (root_units U) (roots_in (stored_in v)))
    units_own u k =
        let root = from_flat (root_units U') u (roots_in later) k in
        let s = from_flat (λ (x : Stored). root_in x.body.content) root.0 was (root_was root.0 root.1) in
        let there = has_in (stored_in v) s.0 (in_volume s.0 (has_back (stored_first h) (was ++ stored_last h) s.0 (has_front was (stored_last h) s.0 (in_has was s.0 s.1)))) in
        into_flat (root_units U) u root.0 (roots_in (stored_in v)) (into_flat (λ (x : Stored). root_in x.body.content) root.0 s.0 (stored_in v) there s.2)
        (subst (λ (us : List ℕ). In u us) (units_kept g old new records h index after was later update.vol edit root.0 (tree_was root.0 root.1)) root.2)

    pub trees_after : (u : ℕ) → Contains (trees_of U' v') u → Contains (trees_of U v) u
    trees_after u c = contains_in u (trees_of U v) (elim (trees_from g old new records h index after was later update.vol edit u (in_contains u (trees_of U' v') c)) [
      | inl k ↦ k
      | inr k ↦ units_own u k
    ])

    pub moved_tree : (root : Root) → In root (roots_in was) → IsTree (g.geometry new) U' root × AllByRecursion (IsFine g new) (root_units U' root)
    moved_tree root k =
        let tree = of_each (IsVolumeTree g old) root (roots_in was) (own_trees g old new records h index after was later update.vol edit) k in
        (tree_moved g old new records h index after was later update.vol edit root tree, fine_root g old new records h index after was later update.vol edit root tree)

    -- where its records form objects, all is a volume
    pub volume_after : HasObjects U' (stored_in v') → IsVolume g new records v'
    volume_after objects = edited g old new records h index after was later update.vol edit
        (each_in (IsTree (g.geometry new) U') (roots_in later) (λ root k. (moved_tree root (root_was root k)).0))
        (each_in (λ (root : Root). AllByRecursion (IsFine g new) (root_units U' root)) (roots_in later) (λ root k. (moved_tree root (root_was root k)).1)) uniques_after objects

    -- ---- the roots are as many

    own_apart : Sep place_in was
    own_apart = turns.turn.apart

    -- with those of what is made
    pub roots_more : gone ≡ None → Sep unique_of made → (p : ℕ) → named_root p later ≡ named_root p was + named_root p made
    roots_more none apart p =
        let r = roots_counted was later older newer gone made turns.turn [] (λ s k. absurd k) (λ s k g. absurd (none-some s.place (sym none ∙ g))) tt own_differ fresh apart p in
        omega (arith, r)

    -- without those of what goes
    pub roots_less : (x : Stored) → Has was x → gone ≡ Some x.place → made ≡ [] → (p : ℕ) → named_root p (x ∷ []) + named_root p later ≡ named_root p was
    roots_less x there goes none p =
        let r = roots_counted was later older newer gone made turns.turn (x ∷ []) lost_here all_lost ((λ y m. absurd m), tt) own_differ fresh (subst (Sep unique_of) (sym none) tt) p in
        omega (arith, r, ap (named_root p) none)
      where
        lost_here : (s : Stored) → Has (x ∷ []) s → Has was s × (gone ≡ Some s.place)
        lost_here s (inl e) = (subst (Has was) e there, goes ∙ ap (λ (y : Stored). Some y.place) e)
        lost_here s (inr e) = absurd e

        all_lost : (s : Stored) → Has was s → gone ≡ Some s.place → Has (x ∷ []) s
        all_lost s k g = inl (sep_one place_in was x s own_apart there k (same_Some x.place s.place (sym goes ∙ g)))

    -- the volume afterwards, as what an update that moves a version leaves
    pub moves_volume : (went come : Option Root) (table : Table) → HasObjects U' (stored_in v') → table_of U' v' ≡ table → TurnsRoots g old new v v' went come → MovesVolume g old new records v went come table
    moves_volume went come table objects shows turned = record {
      now = v';
      volume = volume_after objects;
      shows = shows;
      after = after;
      catalog = catalog_after;
      pages = pages_after;
      units = trees_after;
      turned = turned;
    }
