-- Cuts one level lower, with the nodes on both sides.
use Rattle.std.proofs.Common.{◌≡◌, ℕ, suc, ◌+◌, ◌-◌, ◌*◌, ◌≤◌, List, [], ◌∷◌, ◌++◌, length, refl, sym, ap, subst, ◌∙◌, arith, append_assoc, inl, inr, Vec, Global}
use Rattle.std.specs.List.{AllByRecursion}
use Rattle.std.proofs.lemmas.List.{append-nil, length-append}
use Rattle.ex_base.specs.Edits.{deleted}
use Rattle.ex_base.specs.declared.geometry.Geometry.{Geometry}
use Rattle.ex_base.specs.declared.ground.Ground as ground
use Rattle.ex_base.proofs.Rows.{each-append}
use Rattle.ex_base.proofs.Each.{split_each}
use Rattle.trees.specs.Split.{most_pairs}
use Rattle.trees.specs.Trees.{Units}
use Rattle.trees.specs.declared.rows.Part.{Part}
use Rattle.trees.specs.Rows.{row_size, row_bytes, row_shape, row_units}
use Rattle.trees.specs.Made.{Has, Holds}
use Rattle.trees.specs.Built.{AreSome}
use Rattle.trees.proofs.Over.{bytes_app}
use Rattle.tree_delete.specs.declared.cut.Cut.{Cut}
use Rattle.tree_delete.specs.declared.nodes.Opened.{Opened}
use Rattle.tree_delete.specs.Cuts.{all_of, sides, cut_bytes, IsCutAt, AreHalves, AreChildren, IsOpened, IsBelow}
use Rattle.tree_delete.specs.Opens.{OpensTo, IsOpenedCut}
use Rattle.tree_delete.proofs.CutLaws.{size_app, in_either, in_first, in_second}
use Rattle.tree_delete.proofs.NodeLaws.{halves_two, halves_join, half_children, holds_join}

-- a cut with other trees on a side
abbrev pub with_left : Cut → Vec Part Global → Cut
with_left cut row = record { left = row; run = cut.run; right = cut.right; at = cut.at; len = cut.len }

abbrev pub with_right : Cut → Vec Part Global → Cut
with_right cut row = record { left = cut.left; run = cut.run; right = row; at = cut.at; len = cut.len }

abbrev pub opens : Vec Part Global → Cut → Vec Part Global → Opened
opens left below right = record { left = left; below = below; right = right }

pub all_left : (below : Cut) (v : Vec Part Global) (row : List Part) → v.items ≡ row ++ (below.left.items ++ []) → all_of (with_left below v) ≡ row ++ all_of below
all_left below v row is =
    ap (λ (xs : List Part). xs ++ (below.run.items ++ below.right.items)) (is ∙ ap (λ (xs : List Part). row ++ xs) (append-nil below.left.items)) ∙ append_assoc row below.left.items (below.run.items ++ below.right.items)

pub all_right : (below : Cut) (v : Vec Part Global) (row : List Part) → v.items ≡ below.right.items ++ (row ++ []) → all_of (with_right below v) ≡ all_of below ++ row
all_right below v row is =
    ap (λ (xs : List Part). below.left.items ++ (below.run.items ++ xs)) (is ∙ ap (λ (xs : List Part). below.right.items ++ xs) (append-nil row))
    ∙ ap (λ (xs : List Part). below.left.items ++ xs) (sym (append_assoc below.run.items below.right.items row)) ∙ sym (append_assoc below.left.items (below.run.items ++ below.right.items) row)

pub three_sizes : (cut : Cut) → row_size (all_of cut) ≡ row_size cut.left.items + (row_size cut.run.items + row_size cut.right.items)
three_sizes cut = omega (arith, size_app cut.left.items (cut.run.items ++ cut.right.items), size_app cut.run.items cut.right.items)

left_of : (P : Part → Type 0) (cut : Cut) → AllByRecursion P (all_of cut) → AllByRecursion P cut.left.items
left_of P cut all = (split_each P cut.left.items (cut.run.items ++ cut.right.items) all).0

right_of : (P : Part → Type 0) (cut : Cut) → AllByRecursion P (all_of cut) → AllByRecursion P cut.right.items
right_of P cut all = (split_each P cut.run.items cut.right.items (split_each P cut.left.items (cut.run.items ++ cut.right.items) all).1).1

-- ---- numbers

pub opens_here : (geo : Geometry) (level : ℕ) (cut below : Cut) → IsCutAt geo level cut → IsCutAt geo (level - 1) below → row_size (all_of below) + cut.len ≡ row_size cut.run.items + below.len → length (all_of below) ≤ 2 * most_pairs geo.fan → geo.fan ≤ sides below
    → OpensTo geo level cut (opens cut.left below cut.right)
opens_here geo level cut below at low sum few enough = record {
  cut_at = low;
  left = left_of _ cut at.some;
  right = right_of _ cut at.some;
  sum = omega (arith, three_sizes cut);
  one_less = omega arith;
  no_more = omega arith;
  few = omega arith;
  enough = enough;
}

pub opens_left : (geo : Geometry) (level : ℕ) (cut below : Cut) (front v : Vec Part Global) (near : Part) (row : List Part) → IsCutAt geo level cut → IsCutAt geo (level - 1) below → row_size (all_of below) + cut.len ≡ row_size cut.run.items + below.len → below.len ≤ cut.len
    → length (all_of below) ≤ 2 * most_pairs geo.fan → AreChildren geo level geo.fan (near ∷ []) row → cut.left.items ≡ front.items ++ (near ∷ []) → v.items ≡ row ++ (below.left.items ++ []) → OpensTo geo level cut (opens front (with_left below v) cut.right)
opens_left geo level cut below front v near row at low sum less few c left is =
    let all = all_left below v row is in
    let size : row_size (all_of (with_left below v)) ≡ row_size row + row_size (all_of below) = ap row_size all ∙ size_app row (all_of below) in
    let count : length (all_of (with_left below v)) ≡ length row + length (all_of below) = ap length all ∙ length-append row (all_of below) in
    let left_size : row_size cut.left.items ≡ row_size front.items + near.size = omega (arith, ap row_size left, size_app front.items (near ∷ [])) in
    let left_count : length cut.left.items ≡ length front.items + 1 = omega (arith, ap length left, length-append front.items (near ∷ [])) in
    let wide : length v.items ≡ length row + length below.left.items = omega (arith, ap length is, length-append row (below.left.items ++ []), ap length (append-nil below.left.items)) in
    record {
      cut_at = record {
        some = subst AreSome (sym all) (each-append _ row (all_of below) c.some low.some);
        fits = λ lowest. subst (AllByRecursion _) (sym all) (each-append _ row (all_of below) (c.fits lowest) (low.fits lowest));
        inside = low.inside;
        few = low.few;
        limit = omega (arith, three_sizes cut, at.limit, c.sum);
      };
      left = (split_each (λ (part : Part). 1 ≤ part.size) front.items (near ∷ []) (subst AreSome left (left_of _ cut at.some))).0;
      right = right_of _ cut at.some;
      sum = omega (arith, three_sizes cut, c.sum);
      one_less = omega arith;
      no_more = omega arith;
      few = omega (arith, c.few);
      enough = omega (arith, c.enough);
    }

pub opens_right : (geo : Geometry) (level : ℕ) (cut below : Cut) (front back v : Vec Part Global) (near : Part) (row : List Part) → IsCutAt geo level cut → IsCutAt geo (level - 1) below → row_size (all_of below) + cut.len ≡ row_size cut.run.items + below.len → below.len ≤ cut.len
    → length (all_of below) ≤ 2 * most_pairs geo.fan → AreChildren geo level geo.fan (near ∷ []) row → front.items ≡ cut.left.items → cut.right.items ≡ near ∷ back.items → v.items ≡ below.right.items ++ (row ++ []) → OpensTo geo level cut (opens front (with_right below v) back)
opens_right geo level cut below front back v near row at low sum less few c left right is =
    let all = all_right below v row is in
    let size : row_size (all_of (with_right below v)) ≡ row_size (all_of below) + row_size row = ap row_size all ∙ size_app (all_of below) row in
    let count : length (all_of (with_right below v)) ≡ length (all_of below) + length row = ap length all ∙ length-append (all_of below) row in
    let left_size : row_size front.items ≡ row_size cut.left.items = ap row_size left in
    let left_count : length front.items ≡ length cut.left.items = ap length left in
    let right_size : row_size cut.right.items ≡ near.size + row_size back.items = ap row_size right in
    let right_count : length cut.right.items ≡ length back.items + 1 = omega (arith, ap length right) in
    let wide : length v.items ≡ length below.right.items + length row = omega (arith, ap length is, length-append below.right.items (row ++ []), ap length (append-nil row)) in
    record {
      cut_at = record {
        some = subst AreSome (sym all) (each-append _ (all_of below) row low.some c.some);
        fits = λ lowest. subst (AllByRecursion _) (sym all) (each-append _ (all_of below) row (low.fits lowest) (c.fits lowest));
        inside = low.inside;
        few = low.few;
        limit = omega (arith, three_sizes cut, at.limit, c.sum);
      };
      left = subst AreSome (sym left) (left_of _ cut at.some);
      right = (subst AreSome right (right_of _ cut at.some)).1;
      sum = omega (arith, three_sizes cut, c.sum);
      one_less = omega arith;
      no_more = omega arith;
      few = omega (arith, c.few);
      enough = omega (arith, c.enough);
    }

-- ---- content

module _ {S : Type 0} (g : ground.Ghosts S) (s : S) (l : ℕ) (cut below : Cut) where
  pub opened_here : IsBelow g s l cut.run.items cut.at cut.len below → IsOpenedCut g s l cut (opens cut.left below cut.right)
  opened_here b = record {
    mid = cut.run.items;
    whole = refl;
    holds = b.holds;
    units = b.units;
    bytes = ap (λ xs. row_bytes (g.unit s) (suc l) cut.left.items ++ (xs ++ row_bytes (g.unit s) (suc l) cut.right.items)) b.bytes;
    halves = λ all.
        let parts = halves_two (g.geometry s) (g.unit s) (suc l) cut.left.items (cut.run.items ++ cut.right.items) all in
        let others = halves_two (g.geometry s) (g.unit s) (suc l) cut.run.items cut.right.items parts.1 in
        b.halves (half_children (g.geometry s) l (row_shape (g.unit s) (suc l) cut.run.items) others.0);
  }

  pub opened_left : (front v : Vec Part Global) (near : Part) (row : List Part) → IsBelow g s l cut.run.items cut.at cut.len below → IsOpened g s l (near ∷ []) row → cut.left.items ≡ front.items ++ (near ∷ []) → v.items ≡ row ++ (below.left.items ++ [])
      → IsOpenedCut g s l cut (opens front (with_left below v) cut.right)
  opened_left front v near row b o left is =
      let u : Units = g.unit s in
      let all = all_left below v row is in
      let near_bytes : List ℕ = row_bytes (g.unit s) (suc l) (near ∷ []) in
      let gone : List ℕ = deleted (row_bytes (g.unit s) (suc l) cut.run.items) cut.at cut.len in
      let bytes_below : cut_bytes (g.unit s) l (with_left below v) ≡ row_bytes (g.unit s) (suc l) (near ∷ []) ++ deleted (row_bytes (g.unit s) (suc l) cut.run.items) cut.at cut.len =
      ap (λ (xs : List ℕ). xs ++ (deleted (row_bytes (g.unit s) l below.run.items) below.at below.len ++ row_bytes (g.unit s) l below.right.items))
      (ap (row_bytes (g.unit s) l) (is ∙ ap (λ (xs : List Part). row ++ xs) (append-nil below.left.items)) ∙ bytes_app (g.unit s) l row below.left.items)
      ∙ append_assoc (row_bytes (g.unit s) l row) (row_bytes (g.unit s) l below.left.items) (deleted (row_bytes (g.unit s) l below.run.items) below.at below.len ++ row_bytes (g.unit s) l below.right.items)
      ∙ ap (λ (xs : List ℕ). xs ++ cut_bytes (g.unit s) l below) o.bytes ∙ ap (λ (xs : List ℕ). row_bytes (g.unit s) (suc l) (near ∷ []) ++ xs) b.bytes in
      record {
        mid = near ∷ cut.run.items;
        whole = ap (λ (xs : List Part). xs ++ (cut.run.items ++ cut.right.items)) left ∙ append_assoc front.items (near ∷ []) (cut.run.items ++ cut.right.items);
        holds = subst (Holds g s l) (sym all) (holds_join g s l row (all_of below) o.holds b.holds);
        units = λ p has. elim (in_either (g.unit s) l row (all_of below) p (subst (λ r. Has (row_units (g.unit s) l r) p) all has)) [
          | inl x ↦ in_first (g.unit s) (suc l) (near ∷ []) cut.run.items p (o.units p x)
          | inr y ↦ in_second (g.unit s) (suc l) (near ∷ []) cut.run.items p (b.units p y)
        ];
        bytes = ap (λ (xs : List ℕ). row_bytes (g.unit s) (suc l) front.items ++ (xs ++ row_bytes (g.unit s) (suc l) cut.right.items)) bytes_below
            ∙ ap (λ (xs : List ℕ). row_bytes (g.unit s) (suc l) front.items ++ xs) (append_assoc (row_bytes (g.unit s) (suc l) (near ∷ [])) (deleted (row_bytes (g.unit s) (suc l) cut.run.items) cut.at cut.len) (row_bytes (g.unit s) (suc l) cut.right.items))
            ∙ sym (append_assoc (row_bytes (g.unit s) (suc l) front.items) (row_bytes (g.unit s) (suc l) (near ∷ [])) (deleted (row_bytes (g.unit s) (suc l) cut.run.items) cut.at cut.len ++ row_bytes (g.unit s) (suc l) cut.right.items))
            ∙ ap (λ (xs : List ℕ). xs ++ (deleted (row_bytes (g.unit s) (suc l) cut.run.items) cut.at cut.len ++ row_bytes (g.unit s) (suc l) cut.right.items)) (sym (ap (row_bytes (g.unit s) (suc l)) left ∙ bytes_app (g.unit s) (suc l) front.items (near ∷ [])));
        halves = λ half.
            let parts = halves_two (g.geometry s) (g.unit s) (suc l) cut.left.items (cut.run.items ++ cut.right.items) half in
            let others = halves_two (g.geometry s) (g.unit s) (suc l) cut.run.items cut.right.items parts.1 in
            let fronts = halves_two (g.geometry s) (g.unit s) (suc l) front.items (near ∷ []) (subst (λ r. AreHalves (g.geometry s) (suc l) (row_shape (g.unit s) (suc l) r)) left parts.0) in
            subst (λ r. AreHalves (g.geometry s) l (row_shape (g.unit s) l r)) (sym all)
            (halves_join (g.geometry s) (g.unit s) l row (all_of below) (o.halves (half_children (g.geometry s) l (row_shape (g.unit s) (suc l) (near ∷ [])) fronts.1)) (b.halves (half_children (g.geometry s) l (row_shape (g.unit s) (suc l) cut.run.items) others.0)));
      }

  pub opened_right : (front back v : Vec Part Global) (near : Part) (row : List Part) → IsBelow g s l cut.run.items cut.at cut.len below → IsOpened g s l (near ∷ []) row → front.items ≡ cut.left.items → cut.right.items ≡ near ∷ back.items → v.items ≡ below.right.items ++ (row ++ [])
      → IsOpenedCut g s l cut (opens front (with_right below v) back)
  opened_right front back v near row b o left right is =
      let all = all_right below v row is in
      let bytes_below : cut_bytes (g.unit s) l (with_right below v) ≡ deleted (row_bytes (g.unit s) (suc l) cut.run.items) cut.at cut.len ++ row_bytes (g.unit s) (suc l) (near ∷ []) =
      ap (λ (xs : List ℕ). row_bytes (g.unit s) l below.left.items ++ (deleted (row_bytes (g.unit s) l below.run.items) below.at below.len ++ xs))
      (ap (row_bytes (g.unit s) l) (is ∙ ap (λ (xs : List Part). below.right.items ++ xs) (append-nil row)) ∙ bytes_app (g.unit s) l below.right.items row)
      ∙ ap (λ (xs : List ℕ). row_bytes (g.unit s) l below.left.items ++ xs) (sym (append_assoc (deleted (row_bytes (g.unit s) l below.run.items) below.at below.len) (row_bytes (g.unit s) l below.right.items) (row_bytes (g.unit s) l row)))
      ∙ sym (append_assoc (row_bytes (g.unit s) l below.left.items) (deleted (row_bytes (g.unit s) l below.run.items) below.at below.len ++ row_bytes (g.unit s) l below.right.items) (row_bytes (g.unit s) l row))
      ∙ ap (λ (xs : List ℕ). xs ++ row_bytes (g.unit s) l row) b.bytes ∙ ap (λ (xs : List ℕ). deleted (row_bytes (g.unit s) (suc l) cut.run.items) cut.at cut.len ++ xs) o.bytes in
      record {
        mid = cut.run.items ++ (near ∷ []);
        whole = ap (λ (xs : List Part). xs ++ (cut.run.items ++ cut.right.items)) (sym left) ∙ ap (λ (xs : List Part). front.items ++ (cut.run.items ++ xs)) right
            ∙ ap (λ (xs : List Part). front.items ++ xs) (sym (append_assoc cut.run.items (near ∷ []) back.items));
        holds = subst (Holds g s l) (sym all) (holds_join g s l (all_of below) row b.holds o.holds);
        units = λ p has. elim (in_either (g.unit s) l (all_of below) row p (subst (λ r. Has (row_units (g.unit s) l r) p) all has)) [
          | inl x ↦ in_first (g.unit s) (suc l) cut.run.items (near ∷ []) p (b.units p x)
          | inr y ↦ in_second (g.unit s) (suc l) cut.run.items (near ∷ []) p (o.units p y)
        ];
        bytes = ap (λ (xs : List ℕ). row_bytes (g.unit s) (suc l) front.items ++ (xs ++ row_bytes (g.unit s) (suc l) back.items)) bytes_below
            ∙ ap (λ (xs : List ℕ). row_bytes (g.unit s) (suc l) front.items ++ xs) (append_assoc (deleted (row_bytes (g.unit s) (suc l) cut.run.items) cut.at cut.len) (row_bytes (g.unit s) (suc l) (near ∷ [])) (row_bytes (g.unit s) (suc l) back.items))
            ∙ ap (λ (xs : List ℕ). row_bytes (g.unit s) (suc l) front.items ++ (deleted (row_bytes (g.unit s) (suc l) cut.run.items) cut.at cut.len ++ xs)) (sym (ap (row_bytes (g.unit s) (suc l)) right ∙ bytes_app (g.unit s) (suc l) (near ∷ []) back.items))
            ∙ ap (λ (xs : List Part). row_bytes (g.unit s) (suc l) xs ++ (deleted (row_bytes (g.unit s) (suc l) cut.run.items) cut.at cut.len ++ row_bytes (g.unit s) (suc l) cut.right.items)) left;
        halves = λ half.
            let parts = halves_two (g.geometry s) (g.unit s) (suc l) cut.left.items (cut.run.items ++ cut.right.items) half in
            let others = halves_two (g.geometry s) (g.unit s) (suc l) cut.run.items cut.right.items parts.1 in
            let backs = halves_two (g.geometry s) (g.unit s) (suc l) (near ∷ []) back.items (subst (λ r. AreHalves (g.geometry s) (suc l) (row_shape (g.unit s) (suc l) r)) right others.1) in
            subst (λ r. AreHalves (g.geometry s) l (row_shape (g.unit s) l r)) (sym all)
            (halves_join (g.geometry s) (g.unit s) l (all_of below) row (b.halves (half_children (g.geometry s) l (row_shape (g.unit s) (suc l) cut.run.items) others.0)) (o.halves (half_children (g.geometry s) l (row_shape (g.unit s) (suc l) (near ∷ [])) backs.0)));
      }
