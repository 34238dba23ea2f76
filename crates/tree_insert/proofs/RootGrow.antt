-- The first leaves, and the trees in the place of a root's.
use Rattle.std.proofs.Common.{◌≡◌, ◌≢◌, ℕ, zero, suc, ◌+◌, ◌-◌, ◌/◌, ◌<◌, ◌≤◌, leb, cond, Bool, true, false, List, [], ◌∷◌, ◌++◌, length, None, refl, sym, ap, subst, ◌∙◌, arith}
use Rattle.std.specs.List.{AllByRecursion}
use Rattle.std.proofs.lemmas.Bool.{leb-true, leb-false, cond_both}
use Rattle.std.proofs.lemmas.List.{append-nil}
use Rattle.ex_base.specs.Edits.{inserted}
use Rattle.ex_base.specs.Even.{sum_of}
use Rattle.ex_base.specs.declared.ground.Ground as ground
use Rattle.ex_base.specs.Area.{NamesLeaf}
use Rattle.ex_base.specs.Sizes.{leaf_bytes}
use Rattle.ex_base.specs.Ports.{Keeps}
use Rattle.ex_base.proofs.Spread.{plain, Between}
use Rattle.trees.specs.Layout.{Layout, append_layout, insert_layout, first_lengths, filled, placed, in_place}
use Rattle.trees.proofs.Placed.{LeafRow, filled_row}
use Rattle.trees.specs.Shape.{insert_parts, append_parts}
use Rattle.trees.specs.Trees.{shape_on}
use Rattle.trees.specs.declared.rows.Part.{Part}
use Rattle.trees.specs.Rows.{row_bytes, row_shape, IsRowOn}
use Rattle.trees.specs.Made.{Extends, Holds, Took, pages_of, sizes_of, changed}
use Rattle.trees.specs.Built.{AreSome, Built, even_lens}
use Rattle.trees.specs.Split.{nodes_over}
use Rattle.tree_insert.specs.declared.layout.Growth.{Growth}
use Rattle.tree_insert.specs.declared.layout.Growth.TheVariants.{Insert, Append}
use Rattle.trees.specs.Counted.{Counted, NamesPairs}
use Rattle.trees.specs.Grown.{Grew}
use Rattle.tree_insert.specs.Grown.{HasGrown}
use Rattle.tree_insert.specs.Growth.{row_by, parts_by}
use Rattle.tree_insert.proofs.PlanLaws.{length-filled}
use Rattle.tree_insert.proofs.Layouts.{few_parts}
use Rattle.trees.proofs.Growing.{grew_leaves}
use Rattle.tree_insert.proofs.LeafStep.{Grew-as}
use Rattle.trees.proofs.Reading.{shape_below}
use Rattle.trees.proofs.Sizes.{sizes_sum}
use Rattle.tree_insert.proofs.NodeStep.{parts-node, node_grew}

-- ---- the first leaves

first_layout : (full n : ℕ) → (append_layout full None 0 n).lengths ≡ first_lengths full n
unfolding append_layout first_lengths
first_layout full n =
    ap (λ k. (cond (leb k full) (in_place (k ∷ [])) (in_place (filled full k))).lengths) {x = 0 + n} {y = n} (omega arith)
    ∙ spread_cond (leb n full)
  where
    spread_cond : (b : Bool) → (cond b (in_place (n ∷ [])) (in_place (filled full n))).lengths ≡ cond b (n ∷ []) (filled full n)
    spread_cond true = refl
    spread_cond false = refl

pub record AreFirst (full n page : ℕ) (lengths : List ℕ) : Type 0 where
  pub each : AllByRecursion (Between 1 full) lengths
  pub sum : sum_of plain lengths ≡ n
  pub some : 1 ≤ length lengths
  pub few : length lengths ≤ (n - page) / full + 4
  pub are : lengths ≡ first_lengths full n

first_are : (full n page : ℕ) → 2 ≤ full → 1 ≤ n → page ≤ full → AreFirst full n page (first_lengths full n)
unfolding first_lengths
first_are full n page two some le =
    cond_both (leb n full) (n ∷ []) (filled full n) (λ lengths. lengths ≡ first_lengths full n → AreFirst full n page lengths) (λ e is. record { each = ((some, leb-true _ _ e), tt); sum = omega arith; some = omega arith; few = omega arith; are = is }) (λ e is.
    let over : full < n = leb-false _ _ e in
    let row : LeafRow 1 full n 2 (filled full n) = filled_row 1 full n (record { some = omega arith; half = omega arith }) over in
    record { each = row.each; sum = row.sum; some = omega (arith, row.many); few = omega (arith, length-filled full n (omega arith) over, few_parts full n (n - page) (omega arith) (omega arith)); are = is }) refl

pub first_plan : (full n page : ℕ) (lengths : List ℕ) (layout : Layout) → 2 ≤ full → 1 ≤ n → page ≤ full → layout ≡ append_layout full None 0 n → lengths ≡ layout.lengths → AreFirst full n page lengths
first_plan full n page lengths layout two some le is lengths_is =
    subst (AreFirst full n page) (sym (lengths_is ∙ ap (λ (l : Layout). l.lengths) is ∙ first_layout full n)) (first_are full n page two some le)

some_sizes : (full : ℕ) (row : List Part) → AllByRecursion (Between 1 full) (sizes_of row) → AreSome row
some_sizes full [] all = tt
some_sizes full (part ∷ row) all = (all.0.0, some_sizes full row all.1)

count_sizes : (row : List Part) → length (sizes_of row) ≡ length row
count_sizes [] = refl
count_sizes (part ∷ row) = ap suc (count_sizes row)

pub first_grown : (full n page : ℕ) (lengths : List ℕ) (made : List Part) → AreFirst full n page lengths → sizes_of made ≡ lengths → HasGrown n [] made
first_grown full n page lengths made h is = record {
  sum = omega (arith, sizes_sum made, ap (sum_of plain) is, h.sum);
  sizes = some_sizes full made (subst (AllByRecursion (Between 1 full)) (sym is) h.each);
  some = omega (arith, ap length is, h.some, count_sizes made);
}

pub first_count : (full n page : ℕ) (lengths : List ℕ) (made : List Part) → AreFirst full n page lengths → sizes_of made ≡ lengths → length made ≤ (n - page) / full + 5
first_count full n page lengths made h is = omega (arith, ap length is, h.few, count_sizes made)

nothing_held : {S : Type 0} (g : ground.Ghosts S) (s : S) → Holds g s 0 []
nothing_held g s = record { trees = tt; used = tt }

pub first_grew : {S : Type 0} (g : ground.Ghosts S) (a b : S) (n page : ℕ) (given lengths : List ℕ) (made : List Part) → AreFirst (leaf_bytes (g.geometry a)) n page lengths → Extends g a b → sizes_of made ≡ lengths
    → AllByRecursion (λ (part : Part). NamesLeaf (g.geometry a) part.page.0) made → Took g a b (pages_of made) → Counted g a b → (Holds g a 0 [] → row_bytes (g.unit b) 0 made ≡ changed [] 0 0 given)
    → Grew g a b 0 [] made given (first_lengths (leaf_bytes (g.geometry a)) n)
first_grew g a b n page given lengths made h ext is named took counts bytes =
    subst (Grew g a b 0 [] made given) h.are (grew_leaves g a b [] made lengths given ext is h.each named took counts (bytes (nothing_held g a) ∙ append-nil given))

-- ---- a root that is a leaf

same_twice : (b : Bool) (xs : List ℕ) → cond b xs xs ≡ xs
same_twice true xs = refl
same_twice false xs = refl

lone : (layout : Layout) → placed layout None [] ≡ layout.lengths
lone layout = ap (λ xs. (xs ++ layout.lengths) ++ cond layout.takes_right [] []) (same_twice layout.takes_left []) ∙ ap (λ xs. layout.lengths ++ xs) (same_twice layout.takes_right []) ∙ append-nil layout.lengths

parts_lone : (growth : Growth) (fan full n leaf pos : ℕ) → row_by growth fan full n 0 (leaf ∷ []) pos ≡ parts_by growth fan full n 0 leaf pos
unfolding insert_parts append_parts
parts_lone Insert fan full n leaf pos = lone (insert_layout full None leaf None n)
parts_lone Append fan full n leaf pos = lone (append_layout full None leaf n)

pub lone_grew : {S : Type 0} (g : ground.Ghosts S) (a b : S) (growth : Growth) (fan full n height l : ℕ) (tree : Part) (made : List Part) (pos : ℕ) (given : List ℕ) → height ≡ 0 → height ≡ l
    → (Holds g a 0 (tree ∷ []) → Grew g a b 0 (tree ∷ []) made (inserted (row_bytes (g.unit a) 0 (tree ∷ [])) pos given) (row_by growth fan full n 0 (row_shape (g.unit a) 0 (tree ∷ [])) pos))
    → Holds g a l (tree ∷ []) → Grew g a b l (tree ∷ []) made (inserted (row_bytes (g.unit a) l (tree ∷ [])) pos given) (parts_by growth fan full n l (shape_on (g.unit a) l tree.page.0 tree.size) pos)
lone_grew g a b growth fan full n height zero tree made pos given none same grew holds =
    Grew-as g a b 0 (tree ∷ []) made made _ _ _ _ (grew holds) refl refl (parts_lone growth fan full n tree.size pos)
lone_grew g a b growth fan full n height (suc l) tree made pos given none same grew holds = absurd (omega arith)

-- ---- a root that is a node

pub root_grew : {S : Type 0} (g : ground.Ghosts S) (a b c d : S) (growth : Growth) (fan full height l : ℕ) (tree : Part) (below grown made : List Part) (pos : ℕ) (given : List ℕ) → height ≡ l → height ≢ 0 → Keeps g a b → Extends g b c → Extends g c d → fan ≡ (g.geometry a).fan
    → IsRowOn (g.geometry a) (g.unit a tree.page.0) height tree.size below
    → ((m : ℕ) → height - 1 ≡ m → Holds g b m below → Grew g b c m below grown (inserted (row_bytes (g.unit b) m below) pos given) (row_by growth fan full (length given) m (row_shape (g.unit b) m below) pos))
    → Took g c d (pages_of made) → ((m : ℕ) → height ≡ suc m → Holds g c m grown → Built g d m (even_lens (g.geometry c).fan (length grown)) grown made)
    → ((m : ℕ) → height ≡ suc m → Holds g c m grown → NamesPairs g → Counted g c d)
    → Holds g a l (tree ∷ []) → Grew g a d l (tree ∷ []) made (inserted (row_bytes (g.unit a) l (tree ∷ [])) pos given) (parts_by growth fan full (length given) l (shape_on (g.unit a) l tree.page.0 tree.size) pos)
root_grew g a b c d growth fan full height zero tree below grown made pos given same above k x y fan_is on ih took build counts holds = absurd (above same)
root_grew g a b c d growth fan full height (suc l) tree below grown made pos given same above k x y fan_is on ih took build counts holds =
    let on_l : IsRowOn (g.geometry a) (g.unit a tree.page.0) (suc l) tree.size below = subst (λ m. IsRowOn (g.geometry a) (g.unit a tree.page.0) m tree.size below) same on in
    Grew-as g a d (suc l) (tree ∷ []) made made _ _ _ _
    (node_grew g a b c d growth fan full l tree below grown made pos given k fan_is on_l holds x y (λ low. ih l (omega arith) low) took (λ low. build l same low) (λ low. counts l same low)) refl refl
    (ap (λ trees. nodes_over fan (row_by growth fan full (length given) l trees pos)) (sym (shape_below (g.unit a) l tree.page.0 tree.size below on_l.parts)) ∙ sym (parts-node growth fan full (length given) l (shape_on (g.unit a) (suc l) tree.page.0 tree.size) pos))
