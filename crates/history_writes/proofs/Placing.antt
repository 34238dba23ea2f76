-- Where leaves and nodes are put.
use Rattle.std.proofs.Common.{◌≡◌, ◌≢◌, ◌≤◌, ◌<◌, ◌+◌, ◌-◌, ◌*◌, ◌^◌, ℕ, zero, suc, List, [], ◌∷◌, ◌++◌, length, map, take_all, Some, refl, sym, ap, subst, ◌∙◌, arith}
use Rattle.std.specs.Prelude.{slice_get}
use Rattle.std.specs.Option.{option_map}
use Rattle.std.specs.List.{AllByRecursion}
use Rattle.std.proofs.Math.Nat.{mul-le-mul_right, suc-mul}
use Rattle.std.proofs.lemmas.Nat.{mul-le}
use Rattle.std.proofs.lemmas.List.{length-map}
use Rattle.std.proofs.lemmas.Option.{slice_get-map}
use Rattle.ex_base.specs.declared.geometry.Geometry.{Geometry}
use Rattle.ex_base.specs.declared.names.PageNo.{PageNo}
use Rattle.ex_base.specs.Sizes.{least_page}
use Rattle.ex_base.specs.Area.{InPageArea, NamesLeaf, area_end}
use Rattle.trees.specs.declared.Pair.{Pair}
use Rattle.trees.specs.declared.rows.Part.{Part}
use Rattle.trees.specs.declared.width.Width.TheVariants.{Wide}
use Rattle.trees.specs.Node.{HasPairFields, IsNode, Node, RiseFrom, node_page, total_of}
use Rattle.trees.specs.Rows.{pairs_of, parts_of, row_size}
use Rattle.trees.proofs.Parts.{ChildrenSoFar, length-parts, next_child, rise_at, size-parts}
use Rattle.history_model.specs.Items.{IsChild, IsNodeItem, children_most, roots_most}
use Rattle.history_volumes.specs.Transcribed.{paired, place_of, placed}
use Rattle.history_writes.specs.Places.{leaf_place, node_place}

-- ---- leaves

pub leaf_place_is : (g : Geometry) (number : ℕ) → 1 ≤ number → leaf_place g number ≡ area_end g + (number - 1) * g.seg_len
leaf_place_is g zero some = absurd (omega (arith, some))
leaf_place_is g (suc i) some = ap (λ (k : ℕ). area_end g + k * g.seg_len) (let e : i ≡ suc i - 1 = omega arith in e)

pub leaf_named : (g : Geometry) (number : ℕ) → 1 ≤ number → number ≤ g.segs → NamesLeaf g (leaf_place g number)
leaf_named g number some there = (number - 1, omega (arith, some, there), leaf_place_is g number some)

pub units_few : (g : Geometry) (i : ℕ) → i ≤ g.segs → i * g.seg_len ≤ 64000000
units_few g i le = let h : i * g.seg_len ≤ 4000000 * 16 = mul-le i g.seg_len 4000000 16 (omega (arith, le, g.few_segs)) g.short in omega (arith, h)

pub leaf_small : (g : Geometry) (number : ℕ) → 1 ≤ number → number ≤ g.segs → leaf_place g number < 2 ^ 32
leaf_small g number some there = omega (arith, leaf_place_is g number some, units_few g (number - 1) (omega (arith, there)), g.few_pages)

-- a later leaf stands behind
pub leaves_differ : (g : Geometry) (i j : ℕ) → 1 ≤ i → i < j → leaf_place g i ≢ leaf_place g j
leaves_differ g i j some lt same =
    let h : suc (i - 1) * g.seg_len ≤ (j - 1) * g.seg_len = mul-le-mul_right {m = suc (i - 1)} {n = j - 1} g.seg_len (omega (arith, some, lt)) in
    omega (arith, same, leaf_place_is g i some, leaf_place_is g j (omega (arith, some, lt)), h, suc-mul (i - 1) g.seg_len, g.some_length)

pub leaf_behind : (g : Geometry) (page : ℕ) → NamesLeaf g page → area_end g ≤ page
leaf_behind g page leaf = omega (arith, leaf.2)

-- ---- nodes

pub node_named : (g : Geometry) (number : ℕ) → number < g.pages → InPageArea g (node_place number)
node_named g number there = (omega arith, omega (arith, there))

-- ---- children

pub tree_place : (g : Geometry) (height number : ℕ) → 1 ≤ number → number ≤ roots_most g.segs g.pages height → place_of (leaf_place g) node_place height number < 2 ^ 32
tree_place g zero number some there = leaf_small g number some there
tree_place g (suc l) number some there = omega (arith, there, g.few_pages)

-- the numbers of a node's children are those of trees of the height below
pub children_are : (leaves before level : ℕ) → 1 ≤ level → children_most leaves before level ≡ roots_most leaves before (level - 1)
children_are leaves before zero inner = absurd (omega (arith, inner))
children_are leaves before (suc zero) inner = refl
children_are leaves before (suc (suc l)) inner = ap (roots_most leaves before) (let e : suc l ≡ suc (suc l) - 1 = omega arith in e)

pub child_number : (leaves before level number : ℕ) → 1 ≤ level → number ≤ children_most leaves before level → number ≤ roots_most leaves before (level - 1)
child_number leaves before level number inner le = omega (arith, le, children_are leaves before level inner)

pub placed_get : (place : ℕ → ℕ) (pairs : List Pair) (i : ℕ) (pair : Pair) → slice_get pairs i ≡ Some pair → slice_get (map (placed place) pairs) i ≡ Some (placed place pair)
placed_get place pairs i pair e = slice_get-map (placed place) pairs i ∙ ap (option_map (placed place)) e

pub paired_is : (leaf node : ℕ → ℕ) (level : ℕ) (pairs : List Pair) → 1 ≤ level → paired leaf node level pairs ≡ map (placed (place_of leaf node (level - 1))) pairs
paired_is leaf node zero pairs inner = absurd (omega (arith, inner))
paired_is leaf node (suc l) pairs inner = ap (λ (k : ℕ). map (placed (place_of leaf node k)) pairs) (let e : l ≡ suc l - 1 = omega arith in e)

placed_rise : (place : ℕ → ℕ) (before : ℕ) (pairs : List Pair) → RiseFrom before pairs → RiseFrom before (map (placed place) pairs)
placed_rise place before [] rise = tt
placed_rise place before (pair ∷ pairs) rise = (rise.0, placed_rise place pair.count pairs rise.1)

placed_fields : (g : Geometry) (l : ℕ) (pairs : List Pair) → AllByRecursion (HasPairFields Wide) pairs → AllByRecursion (IsChild (children_most g.segs g.pages (suc l))) pairs
    → AllByRecursion (HasPairFields Wide) (map (placed (place_of (leaf_place g) node_place l)) pairs)
placed_fields g l [] fields children = tt
placed_fields g l (pair ∷ pairs) fields children = ((fields.0.0, tree_place g l pair.page.0 children.0.0 (omega (arith, children.0.1, children_are g.segs g.pages (suc l) (omega arith), let e : suc l - 1 ≡ l = omega arith in ap (roots_most g.segs g.pages) e))), placed_fields g l pairs fields.1 children.1)

-- the node with its children at their places
pub record IsPlaced (g : Geometry) (level : ℕ) (pairs : List Pair) : Type 0 where
  pub is : IsNode g.fan level (paired (leaf_place g) node_place level pairs)
  pub fields : AllByRecursion (HasPairFields Wide) (paired (leaf_place g) node_place level pairs)

pub paired_fits : (g : Geometry) (level : ℕ) (pairs : List Pair) → IsNode g.fan level pairs → AllByRecursion (HasPairFields Wide) pairs → AllByRecursion (IsChild (children_most g.segs g.pages level)) pairs
    → IsPlaced g level pairs
paired_fits g zero pairs is fields children = absurd (omega (arith, is.inner))
paired_fits g (suc l) pairs is fields children =
    let same : length (map (placed (place_of (leaf_place g) node_place l)) pairs) ≡ length pairs = length-map pairs (placed (place_of (leaf_place g) node_place l)) in
    record {
      is = record { inner = is.inner; byte = is.byte; some = omega (arith, same, is.some); few = omega (arith, same, is.few); rising = placed_rise (place_of (leaf_place g) node_place l) 0 pairs is.rising };
      fields = placed_fields g l pairs fields children;
    }

-- ---- rows

pub pairs_again : (before : ℕ) (pairs : List Pair) → RiseFrom before pairs → pairs_of before (parts_of before pairs) ≡ pairs
pairs_again before [] rise = refl
pairs_again before (pair ∷ pairs) rise =
    let sum : before + (pair.count - before) ≡ pair.count = omega (arith, rise.0) in
    ap (λ (n : ℕ). let first : Pair = record { count = n; page = pair.page } in first ∷ pairs_of n (parts_of pair.count pairs)) sum
    ∙ ap (λ (rest : List Pair). pair ∷ rest) (pairs_again pair.count pairs rise.1)

-- ---- the row of a node's children, so far

abbrev pub placed_pairs : Geometry → Node → List Pair
placed_pairs g node = paired (leaf_place g) node_place node.level node.pairs

abbrev pub RowSoFar : Geometry → Node → ℕ → ℕ → List Part → Type 0
RowSoFar g node i last row = ChildrenSoFar (placed_pairs g node) i last row

pub row_first : (g : Geometry) (node : Node) (row : List Part) → row ≡ [] → RowSoFar g node 0 0 row
row_first g node row none = record { row_is = none; start = refl }

each_at : {A : Type 0} (P : A → Type 0) (xs : List A) (i : ℕ) (x : A) → AllByRecursion P xs → slice_get xs i ≡ Some x → P x
each_at P [] i x each e = absurd cc
each_at P (y ∷ xs) zero x each e = let same : y ≡ x = cc in subst P same each.0
each_at P (y ∷ xs) (suc i) x each e = each_at P xs i x each.1 e

placed_at : (g : Geometry) (node : Node) (i : ℕ) (pair : Pair) → 1 ≤ node.level → slice_get node.pairs i ≡ Some pair → slice_get (placed_pairs g node) i ≡ Some (placed (place_of (leaf_place g) node_place (node.level - 1)) pair)
placed_at g node i pair inner e =
    ap (λ (ps : List Pair). slice_get ps i) (paired_is (leaf_place g) node_place node.level node.pairs inner) ∙ placed_get (place_of (leaf_place g) node_place (node.level - 1)) node.pairs i pair e

-- the child that comes next
pub record IsNextChild (g : Geometry) (node : Node) (last : ℕ) (pair : Pair) : Type 0 where
  pub some : 1 ≤ pair.page.0
  pub there : pair.page.0 ≤ roots_most g.segs g.pages (node.level - 1)
  pub above : last < pair.count

pub row_next : (g : Geometry) (node : Node) (i last : ℕ) (row : List Part) (pair : Pair) → IsNodeItem g g.segs g.pages node → slice_get node.pairs i ≡ Some pair → RowSoFar g node i last row → IsNextChild g node last pair
row_next g node i last row pair item e so_far =
    let child = each_at (IsChild (children_most g.segs g.pages node.level)) node.pairs i pair item.children e in
    let place : ℕ → ℕ = place_of (leaf_place g) node_place (node.level - 1) in
    let rise = rise_at 0 (placed_pairs g node) i (placed (place_of (leaf_place g) node_place (node.level - 1)) pair) (paired_fits g node.level node.pairs item.is item.fields item.children).is.rising (placed_at g node i pair item.is.inner e) in
    record { some = child.0; there = child_number g.segs g.pages node.level pair.page.0 item.is.inner child.1; above = omega (arith, so_far.start, rise) }

pub row_more : (g : Geometry) (node : Node) (i last : ℕ) (row now : List Part) (pair : Pair) (page : PageNo) → IsNodeItem g g.segs g.pages node → slice_get node.pairs i ≡ Some pair → page.0 ≡ place_of (leaf_place g) node_place (node.level - 1) pair.page.0
    → RowSoFar g node i last row → now ≡ row ++ (record { size = pair.count - last; page = page } ∷ []) → RowSoFar g node (i + 1) pair.count now
row_more g node i last row now pair page item e there so_far put =
    let same : now ≡ row ++ (record { size = pair.count - last; page = record { 0 = place_of (leaf_place g) node_place (node.level - 1) pair.page.0 } } ∷ []) =
    put ∙ ap (λ (n : ℕ). let part : Part = record { size = pair.count - last; page = record { 0 = n } } in row ++ part ∷ []) there in
    subst (RowSoFar g node (i + 1) pair.count) (sym same) (next_child (placed_pairs g node) i last row (placed (place_of (leaf_place g) node_place (node.level - 1)) pair) so_far (placed_at g node i pair item.is.inner e))

-- as many as there are
pub length-placed : (g : Geometry) (node : Node) → 1 ≤ node.level → length (placed_pairs g node) ≡ length node.pairs
length-placed g node inner = ap length (paired_is (leaf_place g) node_place node.level node.pairs inner) ∙ length-map node.pairs (placed (place_of (leaf_place g) node_place (node.level - 1)))

pub row_all : (g : Geometry) (node : Node) (i last : ℕ) (row : List Part) → 1 ≤ node.level → length node.pairs ≤ i → RowSoFar g node i last row → row ≡ parts_of 0 (placed_pairs g node)
row_all g node i last row inner end so_far = so_far.row_is ∙ take_all i (parts_of 0 (placed_pairs g node)) (omega (arith, length-parts 0 (placed_pairs g node), length-placed g node inner, end))

-- ---- the page that is made of it

total_small : (pairs : List Pair) → AllByRecursion (HasPairFields Wide) pairs → total_of pairs < 2 ^ 64
total_small [] fields = omega arith
total_small (pair ∷ []) fields = fields.0.0
total_small (pair ∷ next ∷ pairs) fields = total_small (next ∷ pairs) fields.1

pub row_fits : (g : Geometry) (node : Node) (row : List Part) → IsNodeItem g g.segs g.pages node → row ≡ parts_of 0 (placed_pairs g node) → (8 + 12 * length row ≤ g.page_size) × (row_size row < 2 ^ 64)
row_fits g node row item is =
    let placed_is = paired_fits g node.level node.pairs item.is item.fields item.children in
    let sum = size-parts 0 (placed_pairs g node) placed_is.is.rising placed_is.is.some in
    let small = total_small (placed_pairs g node) placed_is.fields in
    (omega (arith, ap length is, length-parts 0 (placed_pairs g node), placed_is.is.few, g.narrow, least_page g), omega (arith, ap row_size is, sum, small))

pub node_made : (g : Geometry) (node : Node) (row : List Part) (page : List ℕ) (size level : ℕ) → IsNodeItem g g.segs g.pages node → row ≡ parts_of 0 (placed_pairs g node) → level ≡ node.level → length page ≡ size → page ≡ node_page size level (pairs_of 0 row)
    → page ≡ node_page (length page) node.level (placed_pairs g node)
node_made g node row page size level item is same long made =
    let placed_is = paired_fits g node.level node.pairs item.is item.fields item.children in
    made ∙ ap (λ (n : ℕ). node_page n level (pairs_of 0 row)) (sym long) ∙ ap (λ (l : ℕ). node_page (length page) l (pairs_of 0 row)) same
    ∙ ap (node_page (length page) node.level) (ap (pairs_of 0) is ∙ pairs_again 0 (placed_pairs g node) placed_is.is.rising)
