-- What a cut leaves of a row of nodes.
use Rattle.std.proofs.Common.{◌≡◌, ◌≢◌, ℕ, zero, suc, ◌+◌, ◌-◌, ◌*◌, ◌≤◌, true, false, eqb, List, [], ◌++◌, length, take, drop, refl, sym, ap, subst, ◌∙◌, arith, inl, inr, true≢false}
use Rattle.std.specs.List.{AllByRecursion}
use Rattle.std.proofs.lemmas.Bool.{cases_lt, eqb-true, eq-eqb}
use Rattle.std.proofs.lemmas.List.{length-append, length-map, nil_from_length}
use Rattle.std.proofs.Math.Nat.{mul-le-mul_right}
use Rattle.ex_base.specs.Edits.{deleted}
use Rattle.ex_base.specs.Ports.{Keeps}
use Rattle.ex_base.specs.Sizes.{leaf_bytes}
use Rattle.ex_base.specs.declared.geometry.Geometry.{Geometry}
use Rattle.ex_base.specs.declared.ground.Ground as ground
use Rattle.ex_base.specs.Even.{sum_of}
use Rattle.ex_base.proofs.Rows.{each-append, IsRow, IsRow-as}
use Rattle.ex_base.proofs.Spread.{least_parts_is}
use Rattle.ex_base.proofs.Each.{each_as}
use Rattle.trees.specs.Split.{most_pairs, nodes_for, nodes_over}
use Rattle.trees.proofs.Splits.{nodes_over_many, nodes_over_few}
use Rattle.trees.specs.Shape.{Subtree, IsHalfFull, total}
use Rattle.trees.specs.Trees.{Units, shape_on}
use Rattle.trees.specs.declared.rows.Part.{Part}
use Rattle.trees.specs.Rows.{row_size, row_bytes, row_shape, row_units}
use Rattle.trees.specs.Made.{Extends, Has, Holds, Took, pages_of}
use Rattle.trees.specs.Built.{Built, AreSome, even_lens}
use Rattle.trees.proofs.Laid.{extends_kept, extends_on}
use Rattle.trees.proofs.Over.{all_has, bytes_app}
use Rattle.trees.specs.Counted.{Counted, NamesPairs}
use Rattle.trees.proofs.Counts.{counted_same}
use Rattle.trees.specs.Grown.{Grew}
use Rattle.tree_delete.specs.declared.cut.Cut.{Cut}
use Rattle.tree_delete.specs.declared.nodes.Opened.{Opened}
use Rattle.tree_delete.specs.Cuts.{all_of, sides, cut_bytes, AreHalves}
use Rattle.tree_delete.specs.Opens.{OpensTo, IsOpenedCut}
use Rattle.tree_delete.specs.Left.{IsLeftOf, IsLeft}
use Rattle.tree_delete.proofs.CutLaws.{size_app}
use Rattle.tree_delete.proofs.NodeLaws.{halves_two}
use Rattle.trees.proofs.Growing.{grew_between, grew_over, holds_kept, grew_back}

-- ---- nodes over trees

-- at most four nodes over the trees of three, and four more
pub four_nodes : (fan count : ℕ) → 2 ≤ fan → count ≤ 3 * most_pairs fan + 4 → nodes_for fan count ≤ 4
four_nodes fan count two few = elim (cases_lt 4 (nodes_for fan count)) [
  | inr le ↦ le
  | inl lt ↦
      let product : 5 * most_pairs fan ≤ nodes_for fan count * most_pairs fan = mul-le-mul_right (most_pairs fan) (let le : 5 ≤ nodes_for fan count = omega arith in le) in
      absurd (omega (arith, (least_parts_is (most_pairs fan) count (omega arith)).least))
]

pub tree_row : (fan full h : ℕ) (trees : List (Subtree h)) → AllByRecursion (IsHalfFull fan full h) trees → IsRow (IsHalfFull fan full h) (total h) (sum_of (total h) trees) (length trees) trees
tree_row fan full h trees each = record { each = each; sum = refl; many = omega arith }

-- nodes over half full trees, of which there are enough for one node, are half full
pub nodes_half : (fan full h : ℕ) (trees : List (Subtree h)) → 2 ≤ fan → fan ≤ length trees → AllByRecursion (IsHalfFull fan full h) trees → AllByRecursion (IsHalfFull fan full (suc h)) (nodes_over fan trees)
nodes_half fan full h trees two enough each = elim (cases_lt (most_pairs fan) (length trees)) [
  | inl over ↦ (nodes_over_many (IsHalfFull fan full h) (total h) fan (sum_of (total h) trees) trees over (IsRow-as _ _ _ _ _ _ _ (tree_row fan full h trees each) refl (omega arith))).each
  | inr few ↦ subst (λ (nodes : List (Subtree (suc h))). AllByRecursion (IsHalfFull fan full (suc h)) nodes) (sym (nodes_over_few fan trees (omega arith) few)) ((enough, few, each), tt)
]

-- ---- nothing is cut through

take_none : (n : ℕ) → take n (let xs : List ℕ = [] in xs) ≡ []
take_none zero = refl
take_none (suc n) = refl

drop_none : (n : ℕ) → drop n (let xs : List ℕ = [] in xs) ≡ []
drop_none zero = refl
drop_none (suc n) = refl

deleted_none : (at n : ℕ) → deleted [] at n ≡ []
deleted_none at n = ap (λ xs. xs ++ drop (at + n) []) (take_none at) ∙ drop_none (at + n)

module _ {S : Type 0} (g : ground.Ghosts S) where
  pub whole_left : (a : S) (l : ℕ) (cut : Cut) (made : List Part) → length cut.run.items ≡ 0 → made ≡ cut.left.items ++ cut.right.items → Holds g a l (all_of cut) → IsLeft g a a l cut made
  whole_left a l cut made none is holds =
      let run : cut.run.items ≡ [] = nil_from_length cut.run.items none in
      let same : made ≡ all_of cut = is ∙ ap (λ (xs : List Part). cut.left.items ++ (xs ++ cut.right.items)) (sym run) in
      let gone : deleted (row_bytes (g.unit a) l cut.run.items) cut.at cut.len ≡ [] = ap (λ (r : List Part). deleted (row_bytes (g.unit a) l r) cut.at cut.len) run ∙ deleted_none cut.at cut.len in
      record {
        shape = row_shape (g.unit a) l (all_of cut);
        grew = subst (λ r. Grew g a a l (all_of cut) r (cut_bytes (g.unit a) l cut) (row_shape (g.unit a) l (all_of cut))) (sym same) (record {
          trees = holds.trees;
          bytes_are = ap (λ (r : List Part). row_bytes (g.unit a) l (cut.left.items ++ (r ++ cut.right.items))) run ∙ bytes_app (g.unit a) l cut.left.items cut.right.items
              ∙ ap (λ (xs : List ℕ). row_bytes (g.unit a) l cut.left.items ++ (xs ++ row_bytes (g.unit a) l cut.right.items)) (sym gone);
          shape_is = refl;
          units = record {
            own = each_as (λ p. Has (row_units (g.unit a) l (all_of cut)) p) _ (row_units (g.unit a) l (all_of cut)) (λ p x. inr x) (all_has (row_units (g.unit a) l (all_of cut)));
            all = λ p t. absurd (true≢false (sym t.1 ∙ t.0));
            counts = λ names. counted_same g a;
          };
        });
        halves = λ side halves. halves;
      }

  -- ---- new nodes

  pub node_left : (a b c d : S) (l : ℕ) (cut : Cut) (o : Opened) (kept made row : List Part) → Keeps g a b → Extends g b c → Extends g c d → Holds g a (suc l) (all_of cut) → IsOpenedCut g a l cut o
      → (Holds g b l (all_of o.below) → IsLeft g b c l o.below kept) → (g.geometry a).fan ≤ length kept → 1 ≤ sides o.below → Took g c d (pages_of made) → (Holds g c l kept → Built g d l (even_lens (g.geometry c).fan (length kept)) kept made)
      → (Holds g c l kept → NamesPairs g → Counted g c d)
      → row ≡ o.left.items ++ (made ++ o.right.items) → IsLeft g a d (suc l) cut row
  node_left a b c d l cut o kept made row k x y holds op below enough some took build counts row_is =
      let low_holds = holds_kept g a b l (all_of o.below) k op.holds in
      let low = below low_holds in
      let geo = g.leads_geometry a b k.leads in
      let fans : (g.geometry b).fan ≡ (g.geometry a).fan = ap (λ (q : Geometry). q.fan) geo in
      let over = grew_over g b c d l op.mid (all_of o.below) kept made (cut_bytes (g.unit b) l o.below) low.shape x y low_holds
      (subst (λ u. (p : ℕ) → Has (row_units u l (all_of o.below)) p → Has (row_units u (suc l) op.mid) p) (sym k.units) op.units) low.grew took build counts in
      let here = grew_back g a b d (suc l) op.mid made (cut_bytes (g.unit b) l o.below) (nodes_over (g.geometry b).fan low.shape) k over in
      let ext = extends_on g a b d (extends_kept g a b k) (extends_on g b c d x y) in
      let shape_new : List (Subtree (suc l)) = row_shape (g.unit a) (suc l) o.left.items ++ (nodes_over (g.geometry b).fan low.shape ++ row_shape (g.unit a) (suc l) o.right.items) in
      let all = grew_between g a d (suc l) o.left.items op.mid o.right.items made (cut_bytes (g.unit b) l o.below) (nodes_over (g.geometry b).fan low.shape) ext (subst (Holds g a (suc l)) op.whole holds) here in
      let bytes : row_bytes (g.unit a) (suc l) o.left.items ++ (cut_bytes (g.unit b) l o.below ++ row_bytes (g.unit a) (suc l) o.right.items) ≡ cut_bytes (g.unit a) (suc l) cut =
      ap (λ (u : Units). row_bytes (g.unit a) (suc l) o.left.items ++ (cut_bytes u l o.below ++ row_bytes (g.unit a) (suc l) o.right.items)) k.units ∙ op.bytes in
      let count : length low.shape ≡ length kept = ap length (sym low.grew.shape_is) ∙ length-map kept (λ (part : Part). shape_on (g.unit c) l part.page.0 part.size) in
      record {
        shape = row_shape (g.unit a) (suc l) o.left.items ++ (nodes_over (g.geometry b).fan low.shape ++ row_shape (g.unit a) (suc l) o.right.items);
        grew = subst (λ r. Grew g a d (suc l) (all_of cut) r (cut_bytes (g.unit a) (suc l) cut) (row_shape (g.unit a) (suc l) o.left.items ++ (nodes_over (g.geometry b).fan low.shape ++ row_shape (g.unit a) (suc l) o.right.items))) (sym row_is)
            (subst (λ xs. Grew g a d (suc l) (all_of cut) (o.left.items ++ (made ++ o.right.items)) xs (row_shape (g.unit a) (suc l) o.left.items ++ (nodes_over (g.geometry b).fan low.shape ++ row_shape (g.unit a) (suc l) o.right.items))) bytes
            (subst (λ r. Grew g a d (suc l) r (o.left.items ++ (made ++ o.right.items)) (row_bytes (g.unit a) (suc l) o.left.items ++ (cut_bytes (g.unit b) l o.below ++ row_bytes (g.unit a) (suc l) o.right.items))
            (row_shape (g.unit a) (suc l) o.left.items ++ (nodes_over (g.geometry b).fan low.shape ++ row_shape (g.unit a) (suc l) o.right.items))) (sym op.whole) all));
        halves = λ side half.
            let parts = halves_two (g.geometry a) (g.unit a) (suc l) o.left.items (op.mid ++ o.right.items) (subst (λ r. AreHalves (g.geometry a) (suc l) (row_shape (g.unit a) (suc l) r)) op.whole half) in
            let others = halves_two (g.geometry a) (g.unit a) (suc l) op.mid o.right.items parts.1 in
            let low_half : AreHalves (g.geometry b) l (row_shape (g.unit b) l (all_of o.below)) =
            subst (λ u. AreHalves (g.geometry b) l (row_shape u l (all_of o.below))) (sym k.units) (subst (λ q. AreHalves q l (row_shape (g.unit a) l (all_of o.below))) (sym geo) (op.halves half)) in
            let kept_half : AreHalves (g.geometry a) l low.shape = subst (λ q. AreHalves q l low.shape) geo (low.halves some low_half) in
            let nodes : AreHalves (g.geometry a) (suc l) (nodes_over (g.geometry a).fan low.shape) = nodes_half (g.geometry a).fan (leaf_bytes (g.geometry a)) l low.shape (omega (arith, (g.geometry a).two)) (omega arith) kept_half in
            each-append _ (row_shape (g.unit a) (suc l) o.left.items) (nodes_over (g.geometry b).fan low.shape ++ row_shape (g.unit a) (suc l) o.right.items) parts.0
            (each-append _ (nodes_over (g.geometry b).fan low.shape) (row_shape (g.unit a) (suc l) o.right.items) (subst (λ f. AreHalves (g.geometry a) (suc l) (nodes_over f low.shape)) (sym fans) nodes) others.1);
      }

  -- the same at a level that is known otherwise
  pub left_at : (a b : S) (level l m : ℕ) (cut : Cut) (made : List Part) → level ≡ m → level ≡ l → (Holds g a m (all_of cut) → IsLeft g a b m cut made) → Holds g a l (all_of cut) → IsLeft g a b l cut made
  left_at a b level l m cut made to_m to_l f = subst (λ n. Holds g a n (all_of cut) → IsLeft g a b n cut made) (sym to_m ∙ to_l) f

  -- the whole step over a node, at any level
  pub tree_left : (a b c d : S) (level l : ℕ) (cut : Cut) (o : Opened) (kept lent made row : List Part) → g.tells a → level ≡ l → level ≢ 0 → Keeps g a b → Extends g b c → Extends g c d
      → (g.tells a → (m : ℕ) → level ≡ suc m → Holds g a (suc m) (all_of cut) → IsOpenedCut g a m cut o)
      → (g.tells b → (m : ℕ) → level - 1 ≡ m → Holds g b m (all_of o.below) → IsLeft g b c m o.below kept) → (g.geometry a).fan ≤ length kept → 1 ≤ sides o.below → lent ≡ kept → Took g c d (pages_of made)
      → (g.tells c → (m : ℕ) → level ≡ suc m → Holds g c m lent → Built g d m (even_lens (g.geometry c).fan (length lent)) lent made)
      → (g.tells c → (m : ℕ) → level ≡ suc m → Holds g c m lent → NamesPairs g → Counted g c d)
      → row ≡ o.left.items ++ (made ++ o.right.items) → Holds g a l (all_of cut) → IsLeft g a d l cut row
  tree_left a b c d level zero cut o kept lent made row told same above k x y opened below enough some lent_is took build counts row_is holds = absurd (above same)
  tree_left a b c d level (suc l) cut o kept lent made row told same above k x y opened below enough some lent_is took build counts row_is holds =
      let told_b = g.leads_told a b k.leads told in
      let told_c = g.leads_told b c x.leads told_b in
      node_left a b c d l cut o kept made row k x y holds (opened told l same holds) (below told_b l (omega arith)) enough some took
      (λ held. subst (λ r. Built g d l (even_lens (g.geometry c).fan (length r)) r made) lent_is (build told_c l same (subst (Holds g c l) (sym lent_is) held)))
      (λ held. counts told_c l same (subst (Holds g c l) (sym lent_is) held)) row_is

-- ---- numbers of a node's row

pub node_left_of : (geo : Geometry) (level : ℕ) (cut : Cut) (o : Opened) (kept made row : List Part) → OpensTo geo level cut o → IsLeftOf o.below kept → row_size made ≡ row_size kept → AreSome made → 1 ≤ length made → length made ≤ 4 → row ≡ o.left.items ++ (made ++ o.right.items) → IsLeftOf cut row
node_left_of geo level cut o kept made row op low size somes one four row_is =
    let row_length : length row ≡ length o.left.items + (length made + length o.right.items) = omega (arith, ap length row_is, length-append o.left.items (made ++ o.right.items), length-append made o.right.items) in
    let all_length : length (all_of cut) ≡ length cut.left.items + (length cut.run.items + length cut.right.items) = omega (arith, length-append cut.left.items (cut.run.items ++ cut.right.items), length-append cut.run.items cut.right.items) in
    record {
      sum = omega (arith, ap row_size row_is, size_app o.left.items (made ++ o.right.items), size_app made o.right.items, op.sum, low.sum);
      sizes = subst AreSome (sym row_is) (each-append _ o.left.items (made ++ o.right.items) op.left (each-append _ made o.right.items somes op.right));
      many = omega (arith, op.one_less);
      few = omega (arith, op.no_more);
    }

pub made_few : (geo : Geometry) (level : ℕ) (cut : Cut) (o : Opened) (kept : List Part) → OpensTo geo level cut o → IsLeftOf o.below kept → nodes_for geo.fan (length kept) ≤ 4
made_few geo level cut o kept op low = four_nodes geo.fan (length kept) (omega (arith, geo.two)) (omega (arith, low.few, op.few))

pub no_size : (row : List Part) → length row ≡ 0 → row_size row ≡ 0
no_size row none = ap row_size (nil_from_length row none)

pub no_len : (n : ℕ) (row : List Part) → n ≡ length row → true ≡ eqb n 0 → length row ≡ 0
no_len n row is none = omega (arith, eqb-true n 0 (sym none))

pub some_len : (n : ℕ) (row : List Part) → n ≡ length row → false ≡ eqb n 0 → 1 ≤ length row
some_len n row is some = elim (cases_lt 0 n) [
  | inl lt ↦ omega arith
  | inr le ↦ absurd (true≢false (sym (eq-eqb n 0 (omega arith)) ∙ sym some))
]
