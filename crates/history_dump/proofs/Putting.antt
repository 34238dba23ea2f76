-- What is made at a position is the item that comes there.
use Rattle.std.proofs.Common.{◌≡◌, ◌≤◌, ◌<◌, ℕ, suc, List, ◌++◌, length, take, Some, sym, ap, ◌∙◌, arith}
use Rattle.std.specs.Prelude.{slice_get}
use Rattle.std.proofs.lemmas.Option.{slice_get_within}
use Rattle.std.proofs.Math.Seq.{take-append_seam}
use Rattle.ex_base.specs.declared.ground.Ground as ground
use Rattle.ex_base.specs.declared.geometry.Geometry.{Geometry}
use Rattle.ex_base.specs.declared.names.Index.{Index}
use Rattle.trees.specs.Node.{Node as TreeNode}
use Rattle.record_lists.specs.declared.Listed.{Listed}
use Rattle.history_model.specs.History.{History, HistoryFile, HistoryVersion}
use Rattle.history_model.specs.Stream.{StreamHead, file_head, head_bytes, head_of, leaf_item, node_item, version_item}
use Rattle.history_model.proofs.Lengths.{length-head}
use Rattle.history_plans.specs.Plans.{StreamPlan}
use Rattle.history_dump.specs.Items.{IsListedFile, IsListedVersion, IsPlannedLeaf, IsPlannedNode, ShowsStream}
use Rattle.history_dump.specs.Positions.{AreRecordsOf, IsAt, stream_from, versions_before}
use Rattle.history_dump.specs.declared.position.Position.TheVariants.{Head, Leaf, Node, File, Version}
use Rattle.history_dump.proofs.Giving.{counts_of, versions_listed}
use Rattle.history_dump.proofs.Positions.{at_there}
use Rattle.history_dump.proofs.Steps.{file_step, head_step, leaf_step, node_step, version_step, zip_get, zip_long}

module _ {S : Type 0} (g : ground.Ghosts S) (s : S) (plan : StreamPlan) (h : History) (shows : ShowsStream g s plan h) where
  abbrev geo : Geometry
  geo = g.geometry s

  pub head_put : (head : StreamHead) (out rest : List ℕ) → head ≡ plan.head → out ≡ head_bytes head ++ rest
      → (stream_from geo h Head ≡ take 52 out ++ stream_from geo h (Leaf 0)) × (0 ≤ length h.leaves)
  head_put head out rest is put =
      let same : head ≡ head_of geo h = is ∙ shows.head in
      let len : 52 ≡ length (head_bytes head) = sym (length-head head) in
      let item : take 52 out ≡ head_bytes (head_of geo h) =
      ap (λ (k : ℕ). take k out) len ∙ ap (take (length (head_bytes head))) put ∙ take-append_seam (head_bytes head) rest ∙ ap head_bytes same in
      (head_step geo h ∙ ap (λ (xs : List ℕ). xs ++ stream_from geo h (Leaf 0)) (sym item), omega arith)

  pub leaf_put : (at : ℕ) (p : ℕ × ℕ) (out : List ℕ) → slice_get plan.leaves at ≡ Some p → ((bytes : List ℕ) → IsPlannedLeaf g s p bytes → out ≡ leaf_item bytes)
      → (stream_from geo h (Leaf at) ≡ out ++ stream_from geo h (Leaf (suc at))) × (suc at ≤ length h.leaves)
  leaf_put at p out is made =
      let lt = slice_get_within plan.leaves at p is in
      let counts = counts_of g s plan h shows in
      let x = at_there h.leaves at (omega (arith, lt, counts.leaves)) in
      let item = made x.0 (zip_get (IsPlannedLeaf g s) plan.leaves h.leaves at p x.0 shows.leaves is x.1) in
      (leaf_step geo h at x.0 x.1 ∙ ap (λ (xs : List ℕ). xs ++ stream_from geo h (Leaf (suc at))) (sym item), omega (arith, lt, counts.leaves))

  pub leaf_there : (at : ℕ) (p : ℕ × ℕ) → slice_get plan.leaves at ≡ Some p → (bytes : List ℕ) × IsPlannedLeaf g s p bytes
  leaf_there at p is =
      let counts = counts_of g s plan h shows in
      let x = at_there h.leaves at (omega (arith, slice_get_within plan.leaves at p is, counts.leaves)) in
      (x.0, zip_get (IsPlannedLeaf g s) plan.leaves h.leaves at p x.0 shows.leaves is x.1)

  pub node_there : (at page : ℕ) → slice_get plan.nodes at ≡ Some page → (node : TreeNode) × IsPlannedNode g s plan page node
  node_there at page is =
      let counts = counts_of g s plan h shows in
      let x = at_there h.nodes at (omega (arith, slice_get_within plan.nodes at page is, counts.nodes)) in
      (x.0, zip_get (IsPlannedNode g s plan) plan.nodes h.nodes at page x.0 shows.nodes is x.1)

  pub node_put : (at page : ℕ) (out : List ℕ) → slice_get plan.nodes at ≡ Some page → ((node : TreeNode) → IsPlannedNode g s plan page node → out ≡ node_item node)
      → (stream_from geo h (Node at) ≡ out ++ stream_from geo h (Node (suc at))) × (suc at ≤ length h.nodes)
  node_put at page out is made =
      let lt = slice_get_within plan.nodes at page is in
      let counts = counts_of g s plan h shows in
      let x = at_there h.nodes at (omega (arith, lt, counts.nodes)) in
      let item = made x.0 (zip_get (IsPlannedNode g s plan) plan.nodes h.nodes at page x.0 shows.nodes is x.1) in
      (node_step geo h at x.0 x.1 ∙ ap (λ (xs : List ℕ). xs ++ stream_from geo h (Node (suc at))) (sym item), omega (arith, lt, counts.nodes))

  pub file_there : (at : ℕ) → at < plan.head.files → (f : HistoryFile) × (slice_get h.files at ≡ Some f) × IsListedFile g s plan at f
  file_there at lt =
      let counts = counts_of g s plan h shows in
      let x = at_there h.files at (omega (arith, lt, counts.files)) in
      (x.0, x.1, shows.files at x.0 x.1)

  pub file_put : (at : ℕ) (out : List ℕ) (records : List Listed) → at < plan.head.files → ((f : HistoryFile) → IsListedFile g s plan at f → out ≡ file_head f)
      → ((f : HistoryFile) → IsListedFile g s plan at f → AreRecordsOf (g.image s) (suc at) records)
      → (stream_from geo h (File at) ≡ out ++ stream_from geo h (Version (suc at) 0)) × IsAt (g.image s) h (Version (suc at) 0) records
  file_put at out records lt made listed =
      let f = file_there at lt in
      let counts = counts_of g s plan h shows in (
        file_step geo h at f.0 f.1 ∙ ap (λ (xs : List ℕ). xs ++ stream_from geo h (Version (suc at) 0)) (sym (made f.0 f.2)),
        (omega arith, omega (arith, lt, counts.files), listed f.0 f.2),
      )

  -- the version of a record that is listed
  pub version_there : (next at : ℕ) (records : List Listed) (l : Listed) → IsAt (g.image s) h (Version next at) records → slice_get records at ≡ Some l
      → (index : Index) × (v : HistoryVersion) × (slice_get (versions_before h next) at ≡ Some v) × IsListedVersion g s plan index l v
  version_there next at records l is there =
      let lt = slice_get_within records at l there in
      let listed = versions_listed g s plan h shows next at records is in
      let long = zip_long (IsListedVersion g s plan listed.0) records (versions_before h next) listed.1 in
      let x = at_there (versions_before h next) at (omega (arith, lt, long)) in
      (listed.0, x.0, x.1, zip_get (IsListedVersion g s plan listed.0) records (versions_before h next) at l x.0 listed.1 there x.1)

  pub version_put : (next at : ℕ) (records : List Listed) (l : Listed) (out : List ℕ) → IsAt (g.image s) h (Version next at) records → slice_get records at ≡ Some l
      → ((index : Index) (v : HistoryVersion) → IsListedVersion g s plan index l v → out ≡ version_item v)
      → (stream_from geo h (Version next at) ≡ out ++ stream_from geo h (Version next (suc at))) × IsAt (g.image s) h (Version next (suc at)) records
  version_put next at records l out is there made =
      let v = version_there next at records l is there in
      let inside = slice_get_within (versions_before h next) at v.1 v.2 in (
        version_step geo h next at v.1 v.2 ∙ ap (λ (xs : List ℕ). xs ++ stream_from geo h (Version next (suc at))) (sym (made v.0 v.1 v.3)),
        (omega (arith, inside), is.1, is.2),
      )
