-- The new root.
use Rattle.std.proofs.Common.{◌≡◌, ◌⊎◌, ℕ, zero, suc, ◌+◌, ◌*◌, ◌<◌, ◌≤◌, List, [], ◌∷◌, ◌++◌, length, Option, Some, None, refl, sym, ap, subst, ◌∙◌, arith, inl, inr, true≢false}
use Rattle.std.specs.List.{AllByRecursion}
use Rattle.std.proofs.lemmas.Bool.{cases_lt}
use Rattle.std.proofs.lemmas.List.{append-nil, length-map, drop_all}
use Rattle.std.proofs.Math.Nat.{mul-le-mul_left, mul-le-mul}
use Rattle.ex_base.specs.Edits.{deleted}
use Rattle.ex_base.specs.Even.{sum_of}
use Rattle.ex_base.specs.Sizes.{leaf_bytes, least_page}
use Rattle.ex_base.specs.declared.geometry.Geometry.{Geometry}
use Rattle.ex_base.specs.declared.ground.Ground as ground
use Rattle.ex_base.specs.declared.names.PageNo.{PageNo}
use Rattle.ex_base.specs.declared.names.Root.{Root}
use Rattle.ex_base.proofs.Rows.{IsRow-as}
use Rattle.trees.specs.Split.{most_pairs, nodes_over}
use Rattle.trees.proofs.Splits.{nodes_over_many, nodes_over_few, fewer_nodes}
use Rattle.trees.specs.Shape.{Subtree, IsHalfFull, IsRoot, IsBalanced, total, rooted}
use Rattle.trees.specs.Trees.{RootSpells, RootNamed, RootSized, root_shape, root_shape_at, root_bytes_at, root_units, root_units_at, bytes_on, shape_on, units_on}
use Rattle.trees.proofs.TreeLaws.{length-bytes_on}
use Rattle.trees.specs.declared.rows.Part.{Part}
use Rattle.trees.specs.Rows.{row_size, row_bytes, row_shape, row_units}
use Rattle.trees.specs.Made.{AreUsed, Extends, Has, Holds, IsTaken}
use Rattle.trees.proofs.Kept.{row_extends}
use Rattle.trees.proofs.Counts.{counted_same}
use Rattle.trees.specs.Grown.{IsRooted, Turned}
use Rattle.tree_delete.specs.declared.cut.Cut.{Cut}
use Rattle.tree_delete.specs.Cuts.{all_of, cut_bytes, HaveHalves}
use Rattle.tree_delete.specs.Left.{AreRoots, IsTrimmed}
use Rattle.tree_delete.specs.Trees.{TreeSpells, IsCutTree}
use Rattle.tree_delete.proofs.RowLaws.{tree_row}
use Rattle.trees.proofs.RootSteps.{turned_on, used_after}

-- ---- balance

half_root : (fan full h : ℕ) (tree : Subtree h) → 2 ≤ fan → 2 ≤ full → IsHalfFull fan full h tree → IsRoot fan full h tree
half_root fan full zero leaf wide roomy half = (omega (arith, half.0), half.1)
half_root fan full (suc h) trees wide roomy half = (omega (arith, half.0), half.1, half.2)

rooted_balanced : (geo : Geometry) (levels h : ℕ) (trees : List (Subtree h)) → 2 ≤ geo.fan → 2 ≤ leaf_bytes geo → AreRoots geo h trees → 1 ≤ length trees → length trees ≤ levels → IsBalanced geo.fan (leaf_bytes geo) (rooted geo.fan levels h trees)
unfolding rooted
rooted_balanced geo levels h [] wide roomy roots some few = absurd (omega arith)
rooted_balanced geo levels h (tree ∷ []) wide roomy (inl halves) some few = half_root geo.fan (leaf_bytes geo) h tree wide roomy halves.0
rooted_balanced geo levels h (tree ∷ []) wide roomy (inr one) some few =
    let same : one.0 ≡ tree = cc in
    subst (IsRoot geo.fan (leaf_bytes geo) h) same one.2
rooted_balanced geo zero h (tree ∷ next ∷ rest) wide roomy roots some few = absurd (omega arith)
rooted_balanced geo (suc levels) h (tree ∷ next ∷ rest) wide roomy (inr one) some few = absurd cc
rooted_balanced geo (suc levels) h (tree ∷ next ∷ rest) wide roomy (inl halves) some few =
    let fewer : length (nodes_over geo.fan (tree ∷ next ∷ rest)) < length (tree ∷ next ∷ rest) = fewer_nodes geo.fan (tree ∷ next ∷ rest) (omega arith) (omega arith) in
    elim (cases_lt (most_pairs geo.fan) (length (tree ∷ next ∷ rest))) [
      | inl over ↦
          let many = nodes_over_many (IsHalfFull geo.fan (leaf_bytes geo) h) (total h) geo.fan (sum_of (total h) (tree ∷ next ∷ rest)) (tree ∷ next ∷ rest) over (IsRow-as _ _ _ _ _ _ _ (tree_row geo.fan (leaf_bytes geo) h (tree ∷ next ∷ rest) halves) refl (omega arith)) in
          rooted_balanced geo levels (suc h) (nodes_over geo.fan (tree ∷ next ∷ rest)) wide roomy (inl many.each) (omega (arith, many.many)) (omega arith)
      | inr fits ↦
          let one : nodes_over geo.fan (tree ∷ next ∷ rest) ≡ (tree ∷ next ∷ rest) ∷ [] = nodes_over_few geo.fan (tree ∷ next ∷ rest) (omega arith) fits in
          rooted_balanced geo levels (suc h) (nodes_over geo.fan (tree ∷ next ∷ rest)) wide roomy (inr (tree ∷ next ∷ rest, one, (omega arith, fits, halves))) (omega (arith, ap length one)) (omega arith)
    ]

roomy : (geo : Geometry) → 2 ≤ leaf_bytes geo
roomy geo = omega (arith, least_page geo, mul-le-mul {n₁ = 1} {m₁ = geo.page_size} {n₂ = geo.seg_len} {m₂ = geo.page_size} (omega (arith, geo.some_length)) (omega arith))

-- ---- the cut through a whole tree

pub tree_cut : (cut : Cut) (tree : Part) → cut.left.items ≡ [] → cut.run.items ≡ (tree ∷ []) ++ ([] ++ []) → cut.right.items ≡ [] → all_of cut ≡ tree ∷ []
tree_cut cut tree left run right =
    ap (λ (xs : List Part). xs ++ (cut.run.items ++ cut.right.items)) left ∙ ap (λ (xs : List Part). xs ++ cut.right.items) run ∙ ap (λ (xs : List Part). tree ∷ xs) right

-- ---- numbers

pub some_rest : (row : List Part) → 1 ≤ row_size row → 1 ≤ length row
some_rest [] some = absurd (omega arith)
some_rest (part ∷ row) some = omega arith

-- there are enough for them
pub roots_free : (fan count free : ℕ) → 2 ≤ fan → count ≤ 2 * most_pairs fan + 4 → 8 ≤ free → count + fan ≤ fan * free + 2
roots_free fan count free wide few enough =
    let product : fan * 8 ≤ fan * free = mul-le-mul_left fan enough in
    omega arith

-- and few are taken
pub roots_seven : (fan count before after : ℕ) → 2 ≤ fan → 1 ≤ count → count ≤ 2 * most_pairs fan + 4 → (count ≡ 1 → after ≡ before) → (2 ≤ count → fan * before + 2 ≤ count + fan + fan * after) → before ≤ after + 7
roots_seven fan count before after wide some few lone more = elim (cases_lt count 2) [
  | inl lt ↦
      let same : after ≡ before = lone (omega arith) in
      omega arith
  | inr two ↦ elim (cases_lt (after + 7) before) [
    | inr le ↦ le
    | inl over ↦
        let far : after + 8 ≤ before = omega arith in
        let product : fan * (after + 8) ≤ fan * before = mul-le-mul_left fan far in
        absurd (omega (arith, more two))
  ]
]

module _ {S : Type 0} (g : ground.Ghosts S) where
  -- ---- the new root

  -- the root over what a cut leaves
  pub root_of : (a b c : S) (l m : ℕ) (cut : Cut) (tree : Part) (pos len : ℕ) (row : List Part) (made : Root) → cut.left.items ≡ [] → cut.run.items ≡ (tree ∷ []) ++ ([] ++ []) → cut.right.items ≡ [] → cut.at ≡ pos → cut.len ≡ len
      → Extends g a b → Extends g b c → 1 ≤ length row → TreeSpells g a l tree → IsTrimmed g a b (row_units (g.unit a) l (all_of cut)) (cut_bytes (g.unit a) l cut) m row → (Holds g b m row → IsRooted g b c m row made) → IsCutTree g a c l tree pos len made
  root_of a b c l m cut tree pos len row made left run right at_is len_is x y some spells trimmed roots =
      let all = tree_cut cut tree left run right in
      let units_are : row_units (g.unit a) l (all_of cut) ≡ units_on (g.unit a) l tree.page.0 = ap (row_units (g.unit a) l) all ∙ append-nil (units_on (g.unit a) l tree.page.0) in
      let bytes_are : cut_bytes (g.unit a) l cut ≡ deleted (bytes_on (g.unit a) l tree.page.0 tree.size) pos len =
      ap (λ (r : List Part). row_bytes (g.unit a) l r ++ (deleted (row_bytes (g.unit a) l cut.run.items) cut.at cut.len ++ row_bytes (g.unit a) l cut.right.items)) left
      ∙ ap (λ (r : List Part). deleted (row_bytes (g.unit a) l cut.run.items) cut.at cut.len ++ row_bytes (g.unit a) l r) right ∙ append-nil (deleted (row_bytes (g.unit a) l cut.run.items) cut.at cut.len)
      ∙ ap (λ (r : List Part). deleted (row_bytes (g.unit a) l r) cut.at cut.len) run ∙ ap (λ xs. deleted xs cut.at cut.len) (append-nil (bytes_on (g.unit a) l tree.page.0 tree.size))
      ∙ ap (λ k. deleted (bytes_on (g.unit a) l tree.page.0 tree.size) k cut.len) at_is ∙ ap (deleted (bytes_on (g.unit a) l tree.page.0 tree.size) pos) len_is in
      let before_used : AreUsed (g.used a) (row_units (g.unit a) l (all_of cut)) = subst (λ r. AreUsed (g.used a) (row_units (g.unit a) l r)) (sym all) spells.holds.used in
      let held : Holds g b m row = record { trees = trimmed.trees; used = used_after g a b (row_units (g.unit a) l (all_of cut)) (row_units (g.unit b) m row) x before_used trimmed.units } in
      let done = roots held in
      let geo = g.leads_geometry b c y.leads in
      let count : length (row_shape (g.unit b) m row) ≡ length row = length-map row (λ (part : Part). shape_on (g.unit b) m part.page.0 part.size) in
      let balanced : IsBalanced (g.geometry b).fan (leaf_bytes (g.geometry b)) (root_shape (g.unit c) made) =
      subst (IsBalanced (g.geometry b).fan (leaf_bytes (g.geometry b))) (sym (done.shape (length row) (omega arith)))
      (rooted_balanced (g.geometry b) (length row) m (row_shape (g.unit b) m row) (omega (arith, (g.geometry b).two)) (roomy (g.geometry b)) trimmed.roots (omega arith) (omega arith)) in
      record {
        spells = record {
          named = done.named;
          sized = done.sized;
          balanced = subst (λ (k : Geometry). IsBalanced k.fan (leaf_bytes k) (root_shape (g.unit c) made)) (sym geo) balanced;
          spelled = sym (done.bytes ∙ trimmed.bytes_are ∙ bytes_are);
        };
        units = subst (λ us. Turned g a c us (root_units (g.unit c) made)) units_are
            (turned_on g a b c (row_units (g.unit a) l (all_of cut)) (row_units (g.unit b) m row) (root_units (g.unit c) made) x y trimmed.units done.units done.stay);
      }

  -- what a tree of a root is to the cut
  pub tree_have : (a : S) (l : ℕ) (cut : Cut) (tree : Part) → cut.run.items ≡ (tree ∷ []) ++ ([] ++ []) → TreeSpells g a l tree → HaveHalves (g.geometry a) l (row_shape (g.unit a) l cut.run.items)
  tree_have a zero cut tree run spells = tt
  tree_have a (suc l) cut tree run spells = subst (λ r. HaveHalves (g.geometry a) (suc l) (row_shape (g.unit a) (suc l) r)) (sym run) (spells.root.2, tt)

  -- ---- the old root

  -- the tree of a root that has one
  pub tree_of : (a : S) (root : Root) (page : PageNo) (bytes : List ℕ) → root.page ≡ Some page → RootSpells (g.geometry a) (g.unit a) root bytes → AreUsed (g.used a) (root_units (g.unit a) root) → TreeSpells g a root.height (record { size = root.size; page = page })
  tree_of a root page bytes is spells used = record {
    holds = record {
      trees = ((subst (RootNamed (g.geometry a) (g.unit a) root.height) is spells.named, subst (RootSized (g.geometry a) (g.unit a) root.height root.size) is spells.sized), tt);
      used = subst (AreUsed (g.used a)) (ap (root_units_at (g.unit a) root.height) is ∙ sym (append-nil (units_on (g.unit a) root.height page.0))) used;
    };
    root = subst (λ p. IsBalanced (g.geometry a).fan (leaf_bytes (g.geometry a)) (root_shape_at (g.unit a) root.height root.size p)) is spells.balanced;
  }

  pub spelled_by : (a : S) (root : Root) (page : PageNo) (bytes : List ℕ) → root.page ≡ Some page → RootSpells (g.geometry a) (g.unit a) root bytes → bytes ≡ bytes_on (g.unit a) root.height page.0 root.size
  spelled_by a root page bytes is spells = spells.spelled ∙ ap (root_bytes_at (g.unit a) root.height root.size) is

  -- an old root spells its bytes over units that are kept
  pub old_spells : (a b : S) (root : Root) (bytes : List ℕ) → Extends g a b → RootSpells (g.geometry a) (g.unit a) root bytes → AreUsed (g.used a) (root_units (g.unit a) root) → RootSpells (g.geometry b) (g.unit b) root bytes
  old_spells a b root bytes ext spells used = spells_at root.page refl
    where
      spells_at : (p : Option PageNo) → root.page ≡ p → RootSpells (g.geometry b) (g.unit b) root bytes
      spells_at None is = record {
        named = subst (RootNamed (g.geometry b) (g.unit b) root.height) (sym is) tt;
        sized = subst (RootSized (g.geometry b) (g.unit b) root.height root.size) (sym is) (subst (RootSized (g.geometry a) (g.unit a) root.height root.size) is spells.sized);
        balanced = subst (λ p. IsBalanced (g.geometry b).fan (leaf_bytes (g.geometry b)) (root_shape_at (g.unit b) root.height root.size p)) (sym is) tt;
        spelled = spells.spelled ∙ ap (root_bytes_at (g.unit a) root.height root.size) is ∙ sym (ap (root_bytes_at (g.unit b) root.height root.size) is);
      }
      spells_at (Some page) is =
          let tree = tree_of a root page bytes is spells used in
          let same = row_extends g a b root.height (record { size = root.size; page = page } ∷ []) ext tree.holds in
          let geo = g.leads_geometry a b ext.leads in
          let shape : shape_on (g.unit b) root.height page.0 root.size ≡ shape_on (g.unit a) root.height page.0 root.size = cc (same.shape) in
          let bytes_same : bytes_on (g.unit b) root.height page.0 root.size ≡ bytes_on (g.unit a) root.height page.0 root.size =
          sym (append-nil (bytes_on (g.unit b) root.height page.0 root.size)) ∙ same.bytes ∙ append-nil (bytes_on (g.unit a) root.height page.0 root.size) in
          record {
            named = subst (RootNamed (g.geometry b) (g.unit b) root.height) (sym is) (subst (λ k. RootNamed k (g.unit b) root.height (Some page)) (sym geo) same.trees.0.0);
            sized = subst (RootSized (g.geometry b) (g.unit b) root.height root.size) (sym is) (subst (λ k. RootSized k (g.unit b) root.height root.size (Some page)) (sym geo) same.trees.0.1);
            balanced = subst (λ p. IsBalanced (g.geometry b).fan (leaf_bytes (g.geometry b)) (root_shape_at (g.unit b) root.height root.size p)) (sym is)
                (subst (λ (k : Geometry). IsRoot k.fan (leaf_bytes k) root.height (shape_on (g.unit b) root.height page.0 root.size)) (sym geo)
                (subst (IsRoot (g.geometry a).fan (leaf_bytes (g.geometry a)) root.height) (sym shape) tree.root));
            spelled = spelled_by a root page bytes is spells ∙ sym bytes_same ∙ sym (ap (root_bytes_at (g.unit b) root.height root.size) is);
          }

  -- ---- nothing and all

  pub same_units : (a : S) (us : List ℕ) → Turned g a a us us
  same_units a us = record { own = own us us (λ p h. h); all = λ p t. absurd (true≢false (sym t.1 ∙ t.0)); counts = λ names. counted_same g a }
    where
      own : (xs ys : List ℕ) → ((p : ℕ) → Has xs p → Has ys p) → AllByRecursion (λ p. IsTaken g a a p ⊎ Has ys p) xs
      own [] ys f = tt
      own (x ∷ xs) ys f = (inr (f x (inl refl)), own xs ys (λ p h. f p (inr h)))

  pub all_gone : (a : S) (root made : Root) (page : PageNo) (bytes : List ℕ) (pos len : ℕ) → g.ready a → g.tells a → root.page ≡ Some page → pos + len ≤ root.size → len ≡ root.size → made.page ≡ None → made.size ≡ 0 → made.height ≡ 0
      → RootSpells (g.geometry a) (g.unit a) root bytes → AreUsed (g.used a) (root_units (g.unit a) root) → RootSpells (g.geometry a) (g.unit a) made (deleted bytes pos len)
  all_gone a root made page bytes pos len ready told is inside all none size height spells used =
      let tree = tree_of a root page bytes is spells used in
      let bytes_are = spelled_by a root page bytes is spells in
      let long : length bytes ≡ root.size = ap length bytes_are ∙ length-bytes_on (g.geometry a) (g.unit a) root.height page.0 root.size (g.whole a ready told) tree.holds.trees.0.0 tree.holds.trees.0.1 in
      let start : pos ≡ 0 = omega arith in
      let gone : deleted bytes pos len ≡ [] = ap (λ k. deleted bytes k len) start ∙ drop_all (0 + len) bytes (omega arith) in
      record {
        named = subst (RootNamed (g.geometry a) (g.unit a) made.height) (sym none) tt;
        sized = subst (RootSized (g.geometry a) (g.unit a) made.height made.size) (sym none) (size, height);
        balanced = subst (λ p. IsBalanced (g.geometry a).fan (leaf_bytes (g.geometry a)) (root_shape_at (g.unit a) made.height made.size p)) (sym none) tt;
        spelled = gone ∙ sym (ap (root_bytes_at (g.unit a) made.height made.size) none);
      }
