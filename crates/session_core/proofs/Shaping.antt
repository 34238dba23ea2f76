-- What a port that shows a view tells of the shape of a version.
use Rattle.std.proofs.Common.{◌≡◌, ◌∙◌, ℕ, zero, suc, ◌-◌, false, List, [], ◌∷◌, ◌++◌, length, take, drop, Option, Some, None, Result, Ok, Err, refl, sym, ap, subst}
use Rattle.std.specs.Prelude.{IfOk}
use Rattle.std.specs.List.{flat_map, AllByRecursion}
use Rattle.ex_base.specs.declared.ground.Ground as ground
use Rattle.ex_base.specs.declared.geometry.Geometry.{Geometry}
use Rattle.ex_base.specs.declared.faults.PortFault.{PortFault}
use Rattle.ex_base.specs.declared.names.Oid.{Oid}
use Rattle.ex_base.specs.declared.names.PageNo.{PageNo}
use Rattle.ex_base.specs.declared.names.Root.{Root}
use Rattle.ex_base.specs.Area.{InPageArea}
use Rattle.ex_base.proofs.Each.{split_each}
use Rattle.disk_model.specs.Outside.{Outside}
use Rattle.trees.specs.declared.Pair.{Pair}
use Rattle.trees.specs.Damage.{IsWhole}
use Rattle.trees.specs.Node.{pairs_on}
use Rattle.trees.specs.Shape.{Subtree, leaves_of}
use Rattle.trees.specs.Trees.{Units, IsNamed, RootNamed, RootSpells, for_each_child, root_shape, root_shape_at, root_units_at, shape_on, units_on}
use Rattle.object_records.specs.Record.{Content, Large, Record}
use Rattle.version_lists.specs.declared.version.Version.{Version}
use Rattle.table_model.specs.Machines.{shown}
use Rattle.table_model.specs.Tables.{version_at}
use Rattle.session_views.specs.View.{View}
use Rattle.versions.specs.Found.{root_of}
use Rattle.versions.specs.Versions.{HoldsVersion}
use Rattle.versions.proofs.Standing.{large_content, version_whole}
use Rattle.volume_edits.specs.Shown.{ReadsVersion}
use Rattle.volume_model.specs.Shown.{Held}
use Rattle.session_core.specs.Finding.{IfRoot, IfShown, PortShows, TellsShape, content_named, lengths_named}
use Rattle.session_core.specs.Meant.{held_view, lengths_of, units_held}
use Rattle.session_core.specs.Sessions.{SessionState}
use Rattle.session_core.proofs.Finding.{held_version, named_content, page_lies, reads_live}
use Rattle.session_core.proofs.Picking.{content_here, unit_at}

-- ---- a tree whose nodes have the same bytes

module _ (g : Geometry) (a b : Units) (P : ℕ → Type 0) (same : (page : ℕ) → InPageArea g page → P page → b page ≡ a page) where
  children_over : (l before : ℕ) (pairs : List Pair) → ((page n : ℕ) → IsNamed g a l page → AllByRecursion P (units_on a l page) → shape_on b l page n ≡ shape_on a l page n)
      → AllByRecursion (λ (pair : Pair). IsNamed g a l pair.page.0) pairs → AllByRecursion P (flat_map (λ (pair : Pair). units_on a l pair.page.0) pairs)
      → for_each_child (shape_on b l) before pairs ≡ for_each_child (shape_on a l) before pairs
  children_over l before [] each named units = refl
  children_over l before (pair ∷ pairs) each named units =
      let parts = split_each P (units_on a l pair.page.0) (flat_map (λ (p : Pair). units_on a l p.page.0) pairs) units in
      let here = each pair.page.0 (pair.count - before) named.0 parts.0 in
      let rest = children_over l pair.count pairs each named.1 parts.1 in
      cc (here, rest)

  shape_over : (l page n : ℕ) → IsNamed g a l page → AllByRecursion P (units_on a l page) → shape_on b l page n ≡ shape_on a l page n
  shape_over zero page n named units = refl
  shape_over (suc l) page n named units =
      ap (λ (bytes : List ℕ). for_each_child (shape_on b l) 0 (pairs_on bytes)) (same page named.0 units.0)
      ∙ children_over l 0 (pairs_on (a page)) (λ p m k h. shape_over l p m k h) named.2 units.1

  pub root_over : (height size : ℕ) (page : Option PageNo) → RootNamed g a height page → AllByRecursion P (root_units_at a height page) → root_shape_at b height size page ≡ root_shape_at a height size page
  root_over height size None named units = refl
  root_over height size (Some page) named units = ap (λ (tree : Subtree height). Some (height, tree)) (shape_over height page.0 size named units)

-- ---- the tree of a version that the port shows

module _ {S : Type 0} (g : ground.Ghosts S) (s : S) {before : View SessionState} (shows : PortShows g s before) (oid : Oid) (root : Root) (version : Version) (is : version_at (shown before.machine) oid ≡ Some version)
    (rooted : root_of (content_named (held_view before) oid) ≡ Some root) where
  abbrev v : View Held
  v = held_view before

  pub reads : ReadsVersion g s oid version
  reads = reads_live g s shows oid version is

  abbrev its_record : Record
  its_record = record { head = reads.head; content = reads.content }

  content_is : content_named v oid ≡ Large root
  content_is = large_content (content_named v oid) root rooted

  pub holds : HoldsVersion g s reads.index oid reads.head (Large root) version.bytes
  holds =
      subst (λ (content : Content). HoldsVersion g s reads.index oid reads.head content version.bytes) (sym (named_content g s shows reads.index oid its_record reads.stored) ∙ content_is)
      (held_version g s oid version reads)

  pub whole_read : IsWhole (g.geometry s) (g.unit s) root
  whole_read = version_whole g s reads.index oid reads.head root version.bytes holds

  -- a node has the bytes that the session has
  node_is : (page : ℕ) → InPageArea (g.geometry s) page → g.held s page ≡ false → units_held v page ≡ g.unit s page
  node_is page lies off =
      unit_at v page (subst (λ (h : Geometry). InPageArea h page) shows.geometry lies) ∙ sym (shows.image page lies) ∙ shows.volume.apart page lies off

  lengths_are : lengths_named before oid ≡ leaves_of (root_shape (g.unit s) root)
  lengths_are =
      let lies : InPageArea before.session.geometry oid.page.0 = subst (λ (h : Geometry). InPageArea h oid.page.0) shows.geometry (page_lies g s shows reads.index oid its_record reads.stored) in
      ap (lengths_of (units_held v)) (content_here v oid lies ∙ content_is)
      ∙ ap leaves_of (root_over (g.geometry s) (g.unit s) (units_held v) (λ unit. g.held s unit ≡ false) node_is root.height root.size root.page holds.spells.0.named holds.apart)

  pub shape_told : (result : Result ℕ PortFault) (room first : List ℕ)
      → IfOk result (λ leaves. g.tells s → (bytes : List ℕ) → RootSpells (g.geometry s) (g.unit s) root bytes → leaves ≡ length (leaves_of (root_shape (g.unit s) root)))
      → IfOk result (λ leaves. g.tells s → (bytes : List ℕ) → RootSpells (g.geometry s) (g.unit s) root bytes
      → first ≡ take (length room) (leaves_of (root_shape (g.unit s) root)) ++ drop (length (leaves_of (root_shape (g.unit s) root))) room)
      → IfOk result (λ leaves. TellsShape before oid leaves room first)
  shape_told (Err fault) room first count lengths = tt
  shape_told (Ok leaves) room first count lengths = record {
    count = count shows.tells version.bytes holds.spells.0 ∙ ap length (sym lengths_are);
    lengths = subst (λ (l : List ℕ). first ≡ take (length room) l ++ drop (length l) room) (sym lengths_are) (lengths shows.tells version.bytes holds.spells.0);
  }

-- what is told of the root of each view
pub ok_root : {T E : Type 0} (w : Outside) (old : SessionState) (root : Root) (result : Result T E) (Q : View SessionState → Oid → T → Type 0)
    → IfShown w old (λ before. IfRoot before root (λ oid. IfOk result (Q before oid))) → IfOk result (λ x. IfShown w old (λ before. IfRoot before root (λ oid. Q before oid x)))
ok_root w old root (Ok x) Q each = each
ok_root w old root (Err e) Q each = tt
