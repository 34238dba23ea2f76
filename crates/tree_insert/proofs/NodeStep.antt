-- The step over a node at a place of a row.
use Rattle.std.proofs.Common.{◌≡◌, ◌≢◌, ℕ, zero, suc, ◌+◌, ◌-◌, ◌<◌, ◌≤◌, leb, List, [], ◌∷◌, ◌++◌, length, take, drop, get_or, refl, sym, ap, subst, ◌∙◌, arith, append_assoc, inr}
use Rattle.std.specs.List.{AllByRecursion}
use Rattle.std.proofs.lemmas.Bool.{leb-true, leb-false, cond_both}
use Rattle.std.proofs.lemmas.List.{append-nil, length-append, length-drop, length-take-le, length-map}
use Rattle.ex_base.specs.Edits.{inserted}
use Rattle.ex_base.specs.Even.{sum_of}
use Rattle.ex_base.specs.Ports.{Keeps}
use Rattle.ex_base.specs.declared.geometry.Geometry.{Geometry}
use Rattle.ex_base.specs.declared.ground.Ground as ground
use Rattle.ex_base.proofs.Rows.{sum_of-append, each-append, each-take, each-drop}
use Rattle.trees.specs.Node.{pairs_on}
use Rattle.trees.specs.Split.{nodes_over}
use Rattle.trees.specs.Shape.{Subtree, total, change_at, change_last, insert_parts, append_parts}
use Rattle.trees.specs.Trees.{Units, bytes_on, shape_on}
use Rattle.trees.specs.declared.rows.Part.{Part}
use Rattle.trees.specs.Rows.{row_size, row_bytes, row_shape, row_units, AreTrees, IsRowOn, parts_of}
use Rattle.trees.proofs.Reading.{row_trees, row_spells, shape_below, units_below, no_part}
use Rattle.trees.specs.Made.{Extends, AreUsed, Has, Holds, Took, pages_of}
use Rattle.trees.specs.Built.{Built, AreSome, even_lens}
use Rattle.trees.proofs.Laid.{extends_on, extends_kept, row_length}
use Rattle.trees.proofs.Over.{bytes_app}
use Rattle.tree_insert.specs.declared.layout.Growth.{Growth}
use Rattle.tree_insert.specs.declared.layout.Growth.TheVariants.{Insert, Append}
use Rattle.trees.specs.Counted.{Counted, NamesPairs}
use Rattle.trees.specs.Grown.{Grew}
use Rattle.tree_insert.specs.Grown.{HasGrown}
use Rattle.tree_insert.specs.Growth.{IsSpot, row_by, parts_by}
use Rattle.tree_insert.specs.Places.{IsAt, size_at}
use Rattle.trees.proofs.TreeLaws.{total-shape}
use Rattle.trees.proofs.Sizes.{around_row, front_most}
use Rattle.tree_insert.proofs.PlaceLaws.{read_size, size-front}
use Rattle.trees.proofs.Growing.{shape_app, holds_split, holds_kept, grew_back, grew_between, grew_over}
use Rattle.tree_insert.proofs.LeafStep.{Grew-as, inserted_between}

-- ---- the size of a shape

row_total : (geo : Geometry) (u : Units) (l : ℕ) (row : List Part) → AreTrees geo u l row → sum_of (total l) (row_shape u l row) ≡ row_size row
row_total geo u l [] trees = refl
row_total geo u l (part ∷ row) trees = omega (arith, total-shape geo u l part.page.0 part.size trees.0.0 trees.0.1, row_total geo u l row trees.1)

-- ---- a tree of a row changes

change_split : {A : Type 0} (size : A → ℕ) (change : A → ℕ → List A) (xs : List A) (tree : A) (rest : List A) (pos at : ℕ) → sum_of size xs + at ≡ pos → at ≤ size tree → (length xs ≢ 0 → 1 ≤ at)
    → change_at size change (xs ++ (tree ∷ rest)) pos ≡ xs ++ (change tree at ++ rest)
change_split size change [] tree [] pos at sum fits first = ap (change tree) (let e : pos ≡ at = omega arith in e) ∙ sym (append-nil (change tree at))
change_split size change [] tree (next ∷ rest) pos at sum fits first =
    cond_both (leb pos (size tree)) _ _ (λ ys. ys ≡ change tree at ++ (next ∷ rest)) (λ e. ap (λ k. change tree k ++ (next ∷ rest)) (let e : pos ≡ at = omega arith in e)) (λ e. absurd (omega (arith, leb-false _ _ e)))
change_split size change (x ∷ []) tree rest pos at sum fits first =
    cond_both (leb pos (size x)) _ _ (λ ys. ys ≡ x ∷ (change tree at ++ rest)) (λ e. absurd (omega (arith, leb-true _ _ e, first (λ none. absurd (omega arith))))) (λ e. ap (λ ys. x ∷ ys) (change_split size change [] tree rest (pos - size x) at (omega arith) fits (λ ne. absurd (ne refl))))
change_split size change (x ∷ y ∷ xs) tree rest pos at sum fits first =
    cond_both (leb pos (size x)) _ _ (λ ys. ys ≡ x ∷ ((y ∷ xs) ++ (change tree at ++ rest))) (λ e. absurd (omega (arith, leb-true _ _ e, first (λ none. absurd (omega arith))))) (λ e. ap (λ ys. x ∷ ys) (change_split size change (y ∷ xs) tree rest (pos - size x) at (omega arith) fits (λ ne. first (λ none. absurd (omega arith)))))

last_split : {A : Type 0} (change : A → List A) (xs : List A) (tree : A) → change_last change (xs ++ (tree ∷ [])) ≡ xs ++ (change tree ++ [])
last_split change [] tree = sym (append-nil (change tree))
last_split change (x ∷ []) tree = ap (λ ys. x ∷ ys) (sym (append-nil (change tree)))
last_split change (x ∷ y ∷ xs) tree = ap (λ ys. x ∷ ys) (last_split change (y ∷ xs) tree)

nothing_behind : {A : Type 0} (size : A → ℕ) (xs : List A) → AllByRecursion (λ x. 1 ≤ size x) xs → sum_of size xs ≡ 0 → xs ≡ []
nothing_behind size [] each none = refl
nothing_behind size (x ∷ xs) each none = absurd (omega (arith, each.0))

-- the parts in the place of a node are nodes over its row
pub parts-node : (growth : Growth) (fan full n l : ℕ) (trees : List (Subtree l)) (pos : ℕ) → parts_by growth fan full n (suc l) trees pos ≡ nodes_over fan (row_by growth fan full n l trees pos)
unfolding insert_parts append_parts
parts-node Insert fan full n zero trees pos = refl
parts-node Insert fan full n (suc l) trees pos = refl
parts-node Append fan full n zero trees pos = refl
parts-node Append fan full n (suc l) trees pos = refl

row_split : (growth : Growth) (fan full n l : ℕ) (xs : List (Subtree (suc l))) (tree : Subtree (suc l)) (rest : List (Subtree (suc l))) (pos at : ℕ) → sum_of (total (suc l)) xs + at ≡ pos → at ≤ total (suc l) tree → (length xs ≢ 0 → 1 ≤ at)
    → AllByRecursion (λ t. 1 ≤ total (suc l) t) rest → IsSpot growth pos (sum_of (total (suc l)) (xs ++ (tree ∷ rest))) → row_by growth fan full n (suc l) (xs ++ (tree ∷ rest)) pos ≡ xs ++ (nodes_over fan (row_by growth fan full n l tree at) ++ rest)
row_split Insert fan full n l xs tree rest pos at sum fits first each spot =
    change_split (total (suc l)) (insert_parts fan full n (suc l)) xs tree rest pos at sum fits first ∙ ap (λ ts. xs ++ (ts ++ rest)) (parts-node Insert fan full n l tree at)
row_split Append fan full n l xs tree rest pos at sum fits first each spot =
    let none : rest ≡ [] = nothing_behind (total (suc l)) rest each (omega (arith, sum_of-append (total (suc l)) xs (tree ∷ rest))) in
    ap (λ r. change_last (append_parts fan full n (suc l)) (xs ++ (tree ∷ r))) none ∙ last_split (append_parts fan full n (suc l)) xs tree ∙ ap (λ r. xs ++ (append_parts fan full n (suc l) tree ++ r)) (sym none)
    ∙ ap (λ ts. xs ++ (ts ++ rest)) (parts-node Append fan full n l tree at)

-- ---- one node

module _ {S : Type 0} (g : ground.Ghosts S) where
  pub holds_below : (s : S) (l : ℕ) (part : Part) (below : List Part) → IsRowOn (g.geometry s) (g.unit s part.page.0) (suc l) part.size below → Holds g s (suc l) (part ∷ []) → Holds g s l below
  holds_below s l part below on h = record {
    trees = row_trees (g.geometry s) (g.unit s) l part.page.0 part.size below h.trees.0.0 h.trees.0.1 on.parts;
    used = (subst (AreUsed (g.used s)) (units_below (g.unit s) l part below on.parts) h.used).1;
  }

  -- the parts in the place of one tree, whose row grew
  pub node_grew : (a b c d : S) (growth : Growth) (fan full l : ℕ) (part : Part) (below grown made : List Part) (at : ℕ) (given : List ℕ) → Keeps g a b → fan ≡ (g.geometry a).fan → IsRowOn (g.geometry a) (g.unit a part.page.0) (suc l) part.size below → Holds g a (suc l) (part ∷ [])
      → Extends g b c → Extends g c d → (Holds g b l below → Grew g b c l below grown (inserted (row_bytes (g.unit b) l below) at given) (row_by growth fan full (length given) l (row_shape (g.unit b) l below) at))
      → Took g c d (pages_of made) → (Holds g c l grown → Built g d l (even_lens (g.geometry c).fan (length grown)) grown made) → (Holds g c l grown → NamesPairs g → Counted g c d)
      → Grew g a d (suc l) (part ∷ []) made (inserted (row_bytes (g.unit a) (suc l) (part ∷ [])) at given) (nodes_over fan (row_by growth fan full (length given) l (row_shape (g.unit a) l below) at))
  node_grew a b c d growth fan full l part below grown made at given k fan_is on holds x y grow took build counts =
      let held_a = holds_below a l part below on holds in
      let held = holds_kept g a b l below k held_a in
      let grew = grow held in
      let units : row_units (g.unit b) (suc l) (part ∷ []) ≡ part.page.0 ∷ row_units (g.unit b) l below =
      subst (λ u. row_units u (suc l) (part ∷ []) ≡ part.page.0 ∷ row_units u l below) (sym k.units) (units_below (g.unit a) l part below on.parts) in
      let over = grew_over g b c d l (part ∷ []) below grown made (inserted (row_bytes (g.unit b) l below) at given) (row_by growth fan full (length given) l (row_shape (g.unit b) l below) at) x y held
      (λ p has. subst (λ us. Has us p) (sym units) (inr has)) grew took build counts in
      let bytes : row_bytes (g.unit b) l below ≡ row_bytes (g.unit a) (suc l) (part ∷ []) =
      ap (λ u. row_bytes u l below) k.units ∙ row_spells (g.unit a) l part.page.0 part.size below on.parts ∙ sym (append-nil (bytes_on (g.unit a) (suc l) part.page.0 part.size)) in
      let fans : (g.geometry b).fan ≡ fan = ap (λ (geo : Geometry). geo.fan) (g.leads_geometry a b k.leads) ∙ sym fan_is in
      Grew-as g a d (suc l) (part ∷ []) made made _ _ _ _
      (grew_back g a b d (suc l) (part ∷ []) made (inserted (row_bytes (g.unit b) l below) at given) (nodes_over (g.geometry b).fan (row_by growth fan full (length given) l (row_shape (g.unit b) l below) at)) k over)
      refl (ap (λ xs. inserted xs at given) bytes)
      (ap (λ m. nodes_over m (row_by growth fan full (length given) l (row_shape (g.unit b) l below) at)) fans ∙ ap (λ u. nodes_over fan (row_by growth fan full (length given) l (row_shape u l below) at)) k.units)

-- ---- a tree of a row

-- a spot lies in the row
pub spot_inside : (growth : Growth) (pos size : ℕ) → IsSpot growth pos size → pos ≤ size
spot_inside Insert pos size is = is
spot_inside Append pos size is = omega (arith, is)

pub spot_below : (growth : Growth) (row : List Part) (pos index at : ℕ) → IsSpot growth pos (row_size row) → IsAt row pos index at → IsSpot growth at (size_at row index)
spot_below Insert row pos index at spot h = h.fits
spot_below Append row pos index at spot h = omega (arith, h.start, h.fits, size-front row index h.inside, front_most row (index + 1))

shapes_some : (geo : Geometry) (u : Units) (l : ℕ) (row : List Part) → AreTrees geo u l row → AreSome row → AllByRecursion (λ t. 1 ≤ total l t) (row_shape u l row)
shapes_some geo u l [] trees some = tt
shapes_some geo u l (part ∷ row) trees some = (omega (arith, total-shape geo u l part.page.0 part.size trees.0.0 trees.0.1, some.0), shapes_some geo u l row trees.1 some.1)

pub tree_grown : (n : ℕ) (row : List Part) (index : ℕ) (made items : List Part) → index < length row → AreSome row → AreSome made → 1 ≤ length made → row_size made ≡ (get_or row index no_part).size + n → items ≡ (take index row ++ made) ++ drop (index + 1) row → HasGrown n row items
tree_grown n row index made items lt somes new some sum is = record {
  sum = omega (
    arith,
    ap row_size is,
    sum_of-append size_of (take index row ++ made) (drop (index + 1) row),
    sum_of-append size_of (take index row) made,
    ap row_size (around_row row index lt),
    sum_of-append size_of (take index row) ((get_or row index no_part ∷ []) ++ drop (index + 1) row),
  );
  sizes = subst AreSome (sym is) (each-append _ (take index row ++ made) (drop (index + 1) row) (each-append _ (take index row) made (each-take _ index row somes) new) (each-drop _ (index + 1) row somes));
  some = omega (arith, ap length is, length-append (take index row ++ made) (drop (index + 1) row), length-append (take index row) made);
}
  where
    size_of : Part → ℕ
    size_of part = part.size

pub tree_count : (row : List Part) (index : ℕ) (made items : List Part) → index < length row → items ≡ (take index row ++ made) ++ drop (index + 1) row → length items + 1 ≡ length row + length made
tree_count row index made items lt is =
    omega (arith, ap length is, length-append (take index row ++ made) (drop (index + 1) row), length-append (take index row) made, length-take-le index row (omega arith), length-drop (index + 1) row)

module _ {S : Type 0} (g : ground.Ghosts S) where
  pub row_grew : (a d : S) (growth : Growth) (fan full l : ℕ) (row : List Part) (pos index at : ℕ) (given : List ℕ) (below made items : List Part) → g.ready a → g.tells a → Extends g a d → Holds g a (suc l) row → AreSome row → IsSpot growth pos (row_size row) → IsAt row pos index at
      → below ≡ parts_of 0 (pairs_on (g.unit a (get_or row index no_part).page.0))
      → (Holds g a (suc l) (get_or row index no_part ∷ []) → Grew g a d (suc l) (get_or row index no_part ∷ []) made (inserted (row_bytes (g.unit a) (suc l) (get_or row index no_part ∷ [])) at given) (nodes_over fan (row_by growth fan full (length given) l (row_shape (g.unit a) l below) at)))
      → items ≡ (take index row ++ made) ++ drop (index + 1) row
      → Grew g a d (suc l) row items (inserted (row_bytes (g.unit a) (suc l) row) pos given) (row_by growth fan full (length given) (suc l) (row_shape (g.unit a) (suc l) row) pos)
  row_grew a d growth fan full l row pos index at given below made items ready told ext holds somes spot h below_is grow items_is =
      let part : Part = get_or row index no_part in
      let left = take index row in
      let right = drop (index + 1) row in
      let split = around_row row index h.inside in
      let held : Holds g a (suc l) (take index row ++ ((get_or row index no_part ∷ []) ++ drop (index + 1) row)) = subst (Holds g a (suc l)) split holds in
      let first_parts = holds_split g a (suc l) (take index row) ((get_or row index no_part ∷ []) ++ drop (index + 1) row) held in
      let parts = holds_split g a (suc l) (get_or row index no_part ∷ []) (drop (index + 1) row) first_parts.1 in
      let whole = g.whole a ready told in
      let left_len = row_length (g.geometry a) (g.unit a) (suc l) (take index row) whole first_parts.0.trees in
      let part_len = row_length (g.geometry a) (g.unit a) (suc l) (get_or row index no_part ∷ []) whole parts.0.trees in
      let size_is = read_size row index h.inside in
      let grew = grow parts.0 in
      let all = grew_between g a d (suc l) (take index row) (get_or row index no_part ∷ []) (drop (index + 1) row) made (inserted (row_bytes (g.unit a) (suc l) (get_or row index no_part ∷ [])) at given) (nodes_over fan (row_by growth fan full (length given) l (row_shape (g.unit a) l below) at)) ext held grew in
      let row_is : row_bytes (g.unit a) (suc l) row ≡ row_bytes (g.unit a) (suc l) (take index row) ++ (row_bytes (g.unit a) (suc l) (get_or row index no_part ∷ []) ++ row_bytes (g.unit a) (suc l) (drop (index + 1) row)) =
      ap (row_bytes (g.unit a) (suc l)) split ∙ bytes_app (g.unit a) (suc l) (take index row) ((get_or row index no_part ∷ []) ++ drop (index + 1) row) ∙ ap (λ xs. row_bytes (g.unit a) (suc l) (take index row) ++ xs) (bytes_app (g.unit a) (suc l) (get_or row index no_part ∷ []) (drop (index + 1) row)) in
      let tree_is : shape_on (g.unit a) (suc l) (get_or row index no_part).page.0 (get_or row index no_part).size ≡ row_shape (g.unit a) l below = shape_below (g.unit a) l (get_or row index no_part).page.0 (get_or row index no_part).size below below_is in
      let shape_is : row_shape (g.unit a) (suc l) row ≡ row_shape (g.unit a) (suc l) (take index row) ++ (row_shape (g.unit a) l below ∷ row_shape (g.unit a) (suc l) (drop (index + 1) row)) =
      ap (row_shape (g.unit a) (suc l)) split ∙ shape_app (g.unit a) (suc l) (take index row) ((get_or row index no_part ∷ []) ++ drop (index + 1) row) ∙ ap (λ t. row_shape (g.unit a) (suc l) (take index row) ++ (t ∷ row_shape (g.unit a) (suc l) (drop (index + 1) row))) tree_is in
      let left_total = row_total (g.geometry a) (g.unit a) (suc l) (take index row) first_parts.0.trees in
      let tree_total : total (suc l) (row_shape (g.unit a) l below) ≡ (get_or row index no_part).size = ap (total (suc l)) (sym tree_is) ∙ total-shape (g.geometry a) (g.unit a) (suc l) (get_or row index no_part).page.0 (get_or row index no_part).size parts.0.trees.0.0 parts.0.trees.0.1 in
      let row_all = row_total (g.geometry a) (g.unit a) (suc l) row holds.trees in
      let left_count : length (row_shape (g.unit a) (suc l) (take index row)) ≡ index = length-map (take index row) (λ (p : Part). shape_on (g.unit a) (suc l) p.page.0 p.size) ∙ length-take-le index row (omega (arith, h.inside)) in
      let shape = row_split growth fan full (length given) l (row_shape (g.unit a) (suc l) (take index row)) (row_shape (g.unit a) l below) (row_shape (g.unit a) (suc l) (drop (index + 1) row)) pos at (omega (arith, h.start)) (omega (arith, h.fits)) (λ ne. h.first (λ none. ne (left_count ∙ none)))
      (shapes_some (g.geometry a) (g.unit a) (suc l) (drop (index + 1) row) parts.1.trees (each-drop _ (index + 1) row somes)) (subst (λ k. IsSpot growth pos k) (sym row_all ∙ ap (sum_of (total (suc l))) shape_is) spot) in
      Grew-as g a d (suc l) row (take index row ++ (made ++ drop (index + 1) row)) items _ _ _ _
      (subst (λ r. Grew g a d (suc l) r (take index row ++ (made ++ drop (index + 1) row)) (row_bytes (g.unit a) (suc l) (take index row) ++ (inserted (row_bytes (g.unit a) (suc l) (get_or row index no_part ∷ [])) at given ++ row_bytes (g.unit a) (suc l) (drop (index + 1) row)))
      (row_shape (g.unit a) (suc l) (take index row) ++ (nodes_over fan (row_by growth fan full (length given) l (row_shape (g.unit a) l below) at) ++ row_shape (g.unit a) (suc l) (drop (index + 1) row)))) (sym split) all)
      (items_is ∙ append_assoc (take index row) made (drop (index + 1) row))
      (inserted_between (row_bytes (g.unit a) (suc l) (take index row)) (row_bytes (g.unit a) (suc l) (get_or row index no_part ∷ [])) (row_bytes (g.unit a) (suc l) (drop (index + 1) row)) given (row_bytes (g.unit a) (suc l) row) pos at row_is (omega (arith, left_len, h.start)) (omega (arith, part_len, h.fits)))
      (sym (ap (λ ts. row_by growth fan full (length given) (suc l) ts pos) shape_is ∙ shape))

module _ {S : Type 0} (g : ground.Ghosts S) where
  -- the whole step over a node, at any level
  pub tree_grew : (a b c d : S) (growth : Growth) (fan full level l : ℕ) (row : List Part) (pos index at : ℕ) (given : List ℕ) (below grown made items : List Part) → g.ready a → g.tells a → level ≡ l → level ≢ 0 → Keeps g a b → Extends g b c → Extends g c d → fan ≡ (g.geometry a).fan
      → IsRowOn (g.geometry a) (g.unit a (get_or row index no_part).page.0) level (get_or row index no_part).size below → Holds g a l row → AreSome row → IsSpot growth pos (row_size row) → IsAt row pos index at
      → ((m : ℕ) → level - 1 ≡ m → Holds g b m below → Grew g b c m below grown (inserted (row_bytes (g.unit b) m below) at given) (row_by growth fan full (length given) m (row_shape (g.unit b) m below) at))
      → Took g c d (pages_of made) → ((m : ℕ) → level ≡ suc m → Holds g c m grown → Built g d m (even_lens (g.geometry c).fan (length grown)) grown made)
      → ((m : ℕ) → level ≡ suc m → Holds g c m grown → NamesPairs g → Counted g c d) → items ≡ (take index row ++ made) ++ drop (index + 1) row
      → Grew g a d l row items (inserted (row_bytes (g.unit a) l row) pos given) (row_by growth fan full (length given) l (row_shape (g.unit a) l row) pos)
  tree_grew a b c d growth fan full level zero row pos index at given below grown made items ready told same above k x y fan_is on holds somes spot h ih took build counts items_is = absurd (above same)
  tree_grew a b c d growth fan full level (suc l) row pos index at given below grown made items ready told same above k x y fan_is on holds somes spot h ih took build counts items_is =
      let on_l : IsRowOn (g.geometry a) (g.unit a (get_or row index no_part).page.0) (suc l) (get_or row index no_part).size below = subst (λ m. IsRowOn (g.geometry a) (g.unit a (get_or row index no_part).page.0) m (get_or row index no_part).size below) same on in
      row_grew g a d growth fan full l row pos index at given below made items ready told (extends_on g a b d (extends_kept g a b k) (extends_on g b c d x y)) holds somes spot h on_l.parts
      (λ held. node_grew g a b c d growth fan full l (get_or row index no_part) below grown made at given k fan_is on_l held x y (λ low. ih l (omega arith) low) took (λ low. build l same low) (λ low. counts l same low)) items_is
