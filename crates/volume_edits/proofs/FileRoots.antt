-- The roots of a file's records, before and after an update of the file.
use Rattle.std.proofs.Common.{◌∷◌, ◌≡◌, ℕ, ◌+◌, ◌≤◌, List, Option, Some, None, refl, sym, ap, subst, ◌∙◌, arith, inl, true, false}
use Rattle.std.specs.Prelude.{Contains}
use Rattle.std.specs.List.{AllByRecursion}
use Rattle.ex_base.specs.declared.ground.Ground as ground
use Rattle.ex_base.specs.declared.names.Root.{Root}
use Rattle.ex_base.specs.Area.{catalog_no}
use Rattle.ex_base.specs.Ports.{times}
use Rattle.ex_base.proofs.Each.{each_as}
use Rattle.ex_base.proofs.Members.{In, contains_in, from_flat, in_contains, into_flat, of_each}
use Rattle.object_records.specs.Record.{Content, Small, Large}
use Rattle.ex_base.specs.declared.names.Index.{Index}
use Rattle.file_index.specs.Taking.{OnlyTakes, OnlyGives}
use Rattle.trees.specs.Damage.{IsWhole}
use Rattle.trees.specs.Owners.{root_pages}
use Rattle.trees.specs.Trees.{root_units}
use Rattle.op_log.specs.declared.record.LogRecord.{LogRecord}
use Rattle.volume_model.specs.Held.{root_here}
use Rattle.volume_model.specs.Volume.{Stored, Volume, file_pages, root_in, roots_in}
use Rattle.versions.specs.Versions.{root_of}
use Rattle.volume_edits.specs.Ported.{IsVolume, units_in}
use Rattle.volume_edits.specs.Edits.{TurnsRoots, units_under}
use Rattle.volume_edits.proofs.TurnCounts.{in_has, named_has, named_root}
use Rattle.volume_edits.proofs.Frames.{IsTreeOf}
use Rattle.volume_edits.proofs.VolumeTrees.{IsFine, IsVolumeTree, own_units, whole_tree}
use Rattle.volume_edits.proofs.Holes.{Hole, filled}
use Rattle.volume_edits.proofs.Edited.{Edit, fine_root, own_trees, tree_moved, units_kept}
use Rattle.volume_edits.proofs.Turned.{root_there, all_held, named_filled, none_taken, roots_turned, turned_away, turned_shared, volume_in_use}

-- the root of a content
pub root_is : (content : Content) → root_in content ≡ root_here (root_of content)
root_is (Small bytes) = refl
root_is (Large root) = refl

module _ {S : Type 0} (g : ground.Ghosts S) (old new : S) (records : List LogRecord) (h : Hole) (index after : Index) (was is : List Stored) (vol : IsVolume g old records (filled h (g.image old) index was)) (edit : Edit g old new h index after is)
    (refs : g.refs new ≡ g.refs old) (x : Stored) (there : In x was) where
  abbrev v : Volume
  v = filled h (g.image old) index was

  abbrev v' : Volume
  v' = filled h (g.image new) after is

  -- the root of a record of the file
  abbrev its : Option Root
  its = root_of x.body.content

  own : (root : Root) → In root (root_here its) → In root (roots_in was)
  own root k = into_flat (λ (s : Stored). root_in s.body.content) root x was there (subst (λ (rs : List Root). In root rs) (sym (root_is x.body.content)) k)

  tree : (root : Root) → In root (root_here its) → IsVolumeTree g old root
  tree root k = of_each (IsVolumeTree g old) root (roots_in was) (own_trees g old new records h index after was is vol edit) (own root k)

  fine : (root : Root) → IsVolumeTree g old root → AllByRecursion (IsFine g old) (root_units (units_in g old) root)
  fine root t = each_as (IsTreeOf g old) (IsFine g old) (root_units (units_in g old) root) (λ u k. (k.1, k.2)) t.tree

  whole_before : (root : Root) → In root (root_here its) → IsWhole (g.geometry old) (g.unit old) root
  whole_before root k = let t = tree root k in whole_tree g old vol.shows.apart root (t.named, t.balance) (fine root t) ((vol.shows.held catalog_no).1 (contains_in catalog_no (catalog_no ∷ file_pages v) (inl refl)))

  whole_after : (root : Root) → In root (root_here its) → IsWhole (g.geometry new) (g.unit new) root
  whole_after root k =
      let t = tree root k in
      whole_tree g new edit.frame.apart root (tree_moved g old new records h index after was is vol edit root t) (fine_root g old new records h index after was is vol edit root t) edit.file.catalog.held

  same_units : (root : Root) → In root (root_here its) → root_units (g.unit new) root ≡ root_units (g.unit old) root
  same_units root k =
      let t = tree root k in
      own_units g new edit.frame.apart root (tree_moved g old new records h index after was is vol edit root t) (fine_root g old new records h index after was is vol edit root t)
      ∙ units_kept g old new records h index after was is vol edit root t ∙ sym (own_units g old vol.shows.apart root (t.named, t.balance) (fine root t))

  whole_all : (P : Root → Type 0) (o : Option Root) → ((root : Root) → In root (root_here o) → P root) → AllByRecursion P (root_here o)
  whole_all P None f = tt
  whole_all P (Some root) f = (f root (inl refl), tt)

  went : AllByRecursion (IsWhole (g.geometry old) (g.unit old)) (root_here its)
  went = whole_all (IsWhole (g.geometry old) (g.unit old)) its whole_before

  -- a unit of its tree
  unit_after : (p : ℕ) → Contains (units_under (g.unit new) its) p → (g.used new p ≡ true) × (g.held new p ≡ false) × Contains (units_under (g.unit old) its) p
  unit_after p c =
      let r = from_flat (root_units (g.unit new)) p (root_here its) (in_contains p (units_under (g.unit new) its) c) in
      let t = tree r.0 r.1 in
      let own = own_units g new edit.frame.apart r.0 (tree_moved g old new records h index after was is vol edit r.0 t) (fine_root g old new records h index after was is vol edit r.0 t) in
      let f = of_each (IsFine g new) p (root_units (units_in g new) r.0) (fine_root g old new records h index after was is vol edit r.0 t) (subst (λ (us : List ℕ). In p us) own r.2) in
      (f.0, f.1, contains_in p (units_under (g.unit old) its) (into_flat (root_units (g.unit old)) p r.0 (root_here its) r.1 (subst (λ (us : List ℕ). In p us) (same_units r.0 r.1) r.2)))

  named_here : (p : ℕ) → times p (root_pages (root_here its)) ≤ named_root p was
  named_here p = let own = ap (λ (rs : List Root). times p (root_pages rs)) (root_there x.body.content) in omega (arith, own, named_has p was x (in_has was x there))

  -- its tree is shared, where all other roots stay
  pub shares_tree : ((p : ℕ) → named_root p is ≡ named_root p was + times p (root_pages (root_here its))) → OnlyTakes g old new → TurnsRoots g old new v v' None its
  shares_tree counted takes = turned_shared g old new v v' its (λ p. (let r = roots_turned h (g.image old) (g.image new) index after was is None its (λ q. omega (arith, counted q)) p in omega (arith, r)))
      (record { there = λ p. omega (arith, named_here p, named_filled h (g.image old) index was p); whole = went })
      (whole_all (IsWhole (g.geometry new) (g.unit new)) its whole_after) unit_after (all_held g old new takes) refs

  -- its tree goes, where all other roots stay
  pub loses_tree : ((p : ℕ) → times p (root_pages (root_here its)) + named_root p is ≡ named_root p was) → OnlyGives g old new → TurnsRoots g old new v v' its None
  loses_tree counted gives = turned_away g old new v v' its (λ p. (let r = roots_turned h (g.image old) (g.image new) index after was is its None (λ q. omega (arith, counted q)) p in omega (arith, r)))
      went (none_taken g old new gives (volume_in_use g old records v vol)) refs
