-- New nodes over a run whose leaves were replaced, and the new root.
use Rattle.std.proofs.Common.{◌≡◌, ◌≢◌, ℕ, zero, suc, ◌+◌, ◌-◌, ◌*◌, ◌/◌, ◌<◌, ◌≤◌, List, [], ◌∷◌, ◌++◌, length, take, drop, true, refl, sym, ap, subst, ◌∙◌, arith, append_assoc, inl, inr}
use Rattle.std.specs.List.{AllByRecursion}
use Rattle.std.proofs.lemmas.Bool.{cases_lt}
use Rattle.std.proofs.lemmas.List.{append-nil, length-append, length-drop, length-take-le, take-append-drop}
use Rattle.std.proofs.Math.Nat.{mul-le-mul_left, le_of_mul-le-mul_left}
use Rattle.ex_base.specs.Bytes.{written}
use Rattle.ex_base.specs.Even.{cut_by}
use Rattle.ex_base.specs.Ports.{Keeps}
use Rattle.ex_base.specs.Needs.{replaced_leaves}
use Rattle.ex_base.specs.Sizes.{leaf_bytes}
use Rattle.ex_base.specs.declared.geometry.Geometry.{Geometry}
use Rattle.ex_base.specs.declared.ground.Ground as ground
use Rattle.ex_base.specs.declared.names.Root.{Root}
use Rattle.ex_base.specs.declared.faults.PortFault.{PortFault}
use Rattle.ex_base.specs.declared.names.Area.{Area}
use Rattle.ex_base.specs.declared.names.Area.TheVariants.{Page}
use Rattle.ex_base.proofs.Rows.{each-append, each-take, each-drop, sum_of-append, sum_of-take_drop}
use Rattle.ex_base.proofs.Each.{each_as}
use Rattle.trees.specs.Shape.{Subtree}
use Rattle.trees.specs.Trees.{RootSpells}
use Rattle.trees.specs.declared.rows.Part.{Part}
use Rattle.trees.specs.Damage.{NamesNode, IsWalkFault}
use Rattle.trees.specs.Rows.{row_bytes, row_shape, row_size, row_units, AreHalfFull, IsRowOn}
use Rattle.trees.proofs.Blame.{walk_back, walk_part}
use Rattle.trees.specs.Built.{Built, AreSome}
use Rattle.trees.specs.Made.{Extends, Holds, Has, Took, pages_of}
use Rattle.trees.proofs.Kept.{row_extends}
use Rattle.trees.proofs.Laid.{row_length}
use Rattle.trees.proofs.Over.{all_has, bytes_app}
use Rattle.trees.specs.Counted.{Counted, NamesPairs}
use Rattle.trees.specs.Grown.{Grew}
use Rattle.tree_insert.specs.Replaced.{EachRow, IsTouched, IsSpan, IsSpent, AreLeaves}
use Rattle.tree_insert.proofs.BelowRows.{CountedRow, On, halves_below, few_nodes, trees_below, bytes_below, shapes_below, has_below, walk_run}
use Rattle.trees.proofs.Growing.{shape_app, holds_split, widen, grew_between, holds_kept, grew_back}
use Rattle.tree_insert.proofs.LeafStep.{Grew-as, cut_three, take_over, drop_over, take_in, drop_in}
use Rattle.tree_insert.proofs.Paid.{level_up}
use Rattle.trees.proofs.Sizes.{front_most}
use Rattle.trees.proofs.Sizes.{piece_size}
use Rattle.tree_insert.proofs.RootEdit.{fan_height}
use Rattle.trees.proofs.RootSteps.{has_each, turned_on, turned_built, used_after}

-- bytes that are written over others in between
between_written : (front old back given whole : List ℕ) (pos at : ℕ) → whole ≡ front ++ (old ++ back) → length front + at ≡ pos → at + length given ≤ length old → front ++ (written old at given ++ back) ≡ written whole pos given
between_written front old back given whole pos at is sum le =
    sym (ap (λ xs. written xs pos given) is ∙ ap (λ k. written (front ++ (old ++ back)) k given) (sym sum)
    ∙ ap (λ xs. (xs ++ given) ++ drop (length front + at + length given) (front ++ (old ++ back))) (take_over front (old ++ back) at ∙ ap (λ xs. front ++ xs) (take_in old back at (omega arith)))
    ∙ ap (λ xs. ((front ++ take at old) ++ given) ++ xs) (ap (λ k. drop k (front ++ (old ++ back))) {x = length front + at + length given} {y = length front + (at + length given)} (omega arith) ∙ drop_over front (old ++ back) (at + length given) ∙ drop_in old back (at + length given) le)
    ∙ regroup front (take at old) given (drop (at + length given) old) back)
  where
    regroup : (a b c d e : List ℕ) → ((a ++ b) ++ c) ++ (d ++ e) ≡ a ++ (((b ++ c) ++ d) ++ e)
    regroup a b c d e = simp append_assoc

module _ {S : Type 0} (g : ground.Ghosts S) where
  -- new nodes over the children of a run
  grew_by : (b c d : S) (l : ℕ) (run below grown above : List Part) (lens bytes : List ℕ) (shape : List (Subtree l)) → Extends g b c → Extends g c d → Holds g b l below
      → ((p : ℕ) → Has (row_units (g.unit b) l below) p → Has (row_units (g.unit b) (suc l) run) p) → Grew g b c l below grown bytes shape → Took g c d (pages_of above) → (Holds g c l grown → Built g d l lens grown above)
      → (Holds g c l grown → NamesPairs g → Counted g c d) → Grew g b d (suc l) run above bytes (cut_by lens shape)
  grew_by b c d l run below grown above lens bytes shape x y holds into grew took build counts =
      let held : Holds g c l grown = record { trees = grew.trees; used = used_after g b c (row_units (g.unit b) l below) (row_units (g.unit c) l grown) x holds.used grew.units } in
      let built = build held in
      let same = row_extends g c d l grown y held in
      let turned = turned_on g b c d (row_units (g.unit b) l below) (row_units (g.unit c) l grown) (row_units (g.unit d) (suc l) above) x y grew.units (turned_built g c d l lens grown above took built (counts held) (row_units (g.unit c) l grown) same.units)
      (λ p h. built.all p (inr (subst (λ us. Has us p) (sym same.units) h))) in
      record {
        trees = built.trees;
        bytes_are = built.bytes ∙ same.bytes ∙ grew.bytes_are;
        shape_is = built.shape ∙ ap (cut_by lens) (same.shape ∙ grew.shape_is);
        units = record {
          own = widen g b d (row_units (g.unit b) l below) (row_units (g.unit b) (suc l) run) (row_units (g.unit d) (suc l) above) into turned.own;
          all = turned.all;
          counts = turned.counts;
        };
      }

  -- the children of a run, in which the touched ones gave way
  row_replaced : (b c : S) (l : ℕ) (below : List Part) (pos first end at : ℕ) (given : List ℕ) (made row : List Part) → g.ready b → g.tells b → Extends g b c → Holds g b l below → IsSpan below pos (length given) first end at
      → (Holds g b l (take (end - first) (drop first below)) → Grew g b c l (take (end - first) (drop first below)) made (written (row_bytes (g.unit b) l (take (end - first) (drop first below))) at given) (row_shape (g.unit b) l (take (end - first) (drop first below))))
      → row ≡ (take first below ++ made) ++ drop end below → Grew g b c l below row (written (row_bytes (g.unit b) l below) pos given) (row_shape (g.unit b) l below)
  row_replaced b c l below pos first end at given made row ready told x holds span ih row_is =
      let left = take first below in
      let touched = take (end - first) (drop first below) in
      let right = drop end below in
      let split : below ≡ take first below ++ (take (end - first) (drop first below) ++ drop end below) = cut_three below first end (omega (arith, span.order)) in
      let held : Holds g b l (take first below ++ (take (end - first) (drop first below) ++ drop end below)) = subst (Holds g b l) split holds in
      let first_parts = holds_split g b l (take first below) (take (end - first) (drop first below) ++ drop end below) held in
      let parts = holds_split g b l (take (end - first) (drop first below)) (drop end below) first_parts.1 in
      let whole = g.whole b ready told in
      let left_len = row_length (g.geometry b) (g.unit b) l (take first below) whole first_parts.0.trees in
      let touched_len = row_length (g.geometry b) (g.unit b) l (take (end - first) (drop first below)) whole parts.0.trees in
      let all = grew_between g b c l (take first below) (take (end - first) (drop first below)) (drop end below) made (written (row_bytes (g.unit b) l (take (end - first) (drop first below))) at given) (row_shape (g.unit b) l (take (end - first) (drop first below))) x held (ih parts.0) in
      let bytes_are : row_bytes (g.unit b) l below ≡ row_bytes (g.unit b) l (take first below) ++ (row_bytes (g.unit b) l (take (end - first) (drop first below)) ++ row_bytes (g.unit b) l (drop end below)) =
      ap (row_bytes (g.unit b) l) split ∙ bytes_app (g.unit b) l (take first below) (take (end - first) (drop first below) ++ drop end below)
      ∙ ap (λ xs. row_bytes (g.unit b) l (take first below) ++ xs) (bytes_app (g.unit b) l (take (end - first) (drop first below)) (drop end below)) in
      let shape_is : row_shape (g.unit b) l below ≡ row_shape (g.unit b) l (take first below) ++ (row_shape (g.unit b) l (take (end - first) (drop first below)) ++ row_shape (g.unit b) l (drop end below)) =
      ap (row_shape (g.unit b) l) split ∙ shape_app (g.unit b) l (take first below) (take (end - first) (drop first below) ++ drop end below)
      ∙ ap (λ xs. row_shape (g.unit b) l (take first below) ++ xs) (shape_app (g.unit b) l (take (end - first) (drop first below)) (drop end below)) in
      Grew-as g b c l below (take first below ++ (made ++ drop end below)) row _ _ _ _
      (subst (λ r. Grew g b c l r (take first below ++ (made ++ drop end below)) (row_bytes (g.unit b) l (take first below) ++ (written (row_bytes (g.unit b) l (take (end - first) (drop first below))) at given ++ row_bytes (g.unit b) l (drop end below)))
      (row_shape (g.unit b) l (take first below) ++ (row_shape (g.unit b) l (take (end - first) (drop first below)) ++ row_shape (g.unit b) l (drop end below)))) (sym split) all)
      (row_is ∙ append_assoc (take first below) made (drop end below))
      (between_written (row_bytes (g.unit b) l (take first below)) (row_bytes (g.unit b) l (take (end - first) (drop first below))) (row_bytes (g.unit b) l (drop end below)) given (row_bytes (g.unit b) l below) pos at bytes_are
      (omega (arith, left_len, span.start)) (omega (arith, touched_len, span.touched.all)))
      (sym shape_is)

  pub run_replaced : (a b c d : S) (level h : ℕ) (run below : List Part) (lens : List ℕ) (pos first end at : ℕ) (given : List ℕ) (made row above : List Part) → g.ready a → g.tells a → level ≡ h → level ≢ 0 → Keeps g a b → Extends g b c → Extends g c d
      → EachRow (λ part r. IsRowOn (g.geometry a) (g.unit a part.page.0) level part.size r) run lens below → Holds g a h run → IsSpan below pos (length given) first end at
      → ((m : ℕ) → level - 1 ≡ m → Holds g b m (take (end - first) (drop first below))
      → Grew g b c m (take (end - first) (drop first below)) made (written (row_bytes (g.unit b) m (take (end - first) (drop first below))) at given) (row_shape (g.unit b) m (take (end - first) (drop first below))))
      → Took g c d (pages_of above) → ((m : ℕ) → level ≡ suc m → Holds g c m row → Built g d m lens row above)
      → ((m : ℕ) → level ≡ suc m → Holds g c m row → NamesPairs g → Counted g c d) → row ≡ (take first below ++ made) ++ drop end below
      → Grew g a d h run above (written (row_bytes (g.unit a) h run) pos given) (row_shape (g.unit a) h run)
  run_replaced a b c d level zero run below lens pos first end at given made row above ready told same up k x y each holds span ih took build counts row_is = absurd (up same)
  run_replaced a b c d level (suc l) run below lens pos first end at given made row above ready told same up k x y each holds span ih took build counts row_is =
      let on : EachRow (On (g.geometry a) (g.unit a) l) run lens below = subst (λ j. EachRow (λ part r. IsRowOn (g.geometry a) (g.unit a part.page.0) j part.size r) run lens below) same each in
      let into = has_below (g.geometry a) (g.unit a) l run lens below on in
      let held_a : Holds g a l below = record {
        trees = trees_below (g.geometry a) (g.unit a) l run lens below on holds.trees;
        used = each_as (λ p. Has (row_units (g.unit a) l below) p) (λ p. g.used a p ≡ true) (row_units (g.unit a) l below) (λ p h. has_each (λ q. g.used a q ≡ true) (row_units (g.unit a) (suc l) run) p holds.used (into p h)) (all_has (row_units (g.unit a) l below));
      } in
      let held = holds_kept g a b l below k held_a in
      let grew = row_replaced b c l below pos first end at given made row (g.leads_ready a b k.leads ready) (g.leads_told a b k.leads told) x held span (ih l (omega arith)) row_is in
      let over = grew_by b c d l run below row above lens (written (row_bytes (g.unit b) l below) pos given) (row_shape (g.unit b) l below) x y held
      (subst (λ u. (p : ℕ) → Has (row_units u l below) p → Has (row_units u (suc l) run) p) (sym k.units) into) grew took (build l same) (counts l same) in
      Grew-as g a d (suc l) run above above _ _ _ _
      (grew_back g a b d (suc l) run above (written (row_bytes (g.unit b) l below) pos given) (cut_by lens (row_shape (g.unit b) l below)) k over) refl
      (ap (λ xs. written xs pos given) (ap (λ u. row_bytes u l below) k.units ∙ bytes_below (g.geometry a) (g.unit a) l run lens below on))
      (ap (λ u. cut_by lens (row_shape u l below)) k.units ∙ sym (shapes_below (g.geometry a) (g.unit a) l run lens below on))

-- ---- the pages that are taken

split_two : (k r : ℕ) → 2 ≤ r → k * r ≡ k * (r - 2) + 2 * k
split_two k r two = ap (λ x. k * x) {x = r} {y = r - 2 + 2} (omega arith) ∙ omega arith

pub enough_nodes : (k m level before mid r c : ℕ) → 1 ≤ k → level ≢ 0 → 1 ≤ r → 1 ≤ c → (2 ≤ r → (k + 1) * (r - 2) + 2 ≤ c) → m + level * (2 * k) ≤ k * before → k * before + c ≤ m + (level - 1) * (2 * k) + k * mid + 2 → r ≤ mid
enough_nodes k m level before mid r c wide up some touched few enough spent =
    let le : k * r ≤ k * mid = elim (cases_lt r 2) [
      | inl one ↦ omega (arith, ap (λ x. k * x) {x = r} {y = 1} (omega arith), level_up level (2 * k) up)
      | inr two ↦ omega (arith, split_two k r two, few two, level_up level (2 * k) up)
    ] in
    le_of_mul-le-mul_left {k = k} le (omega arith)

pub nodes_spent : (k m level before mid after r c : ℕ) → 1 ≤ k → level ≢ 0 → 1 ≤ r → 1 ≤ c → (2 ≤ r → (k + 1) * (r - 2) + 2 ≤ c) → after + r ≡ mid → k * before + c ≤ m + (level - 1) * (2 * k) + k * mid + 2 → k * before + r ≤ m + level * (2 * k) + k * after + 2
nodes_spent k m level before mid after r c wide up some touched few spent_is spent =
    let mids : k * mid ≡ k * after + k * r = ap (λ x. k * x) (sym spent_is) ∙ omega arith in
    elim (cases_lt r 2) [
      | inl one ↦ omega (arith, ap (λ x. k * x) {x = r} {y = 1} (omega arith), level_up level (2 * k) up)
      | inr two ↦ omega (arith, split_two k r two, few two, level_up level (2 * k) up)
    ]

pub enough_touched : (k m h free : ℕ) → 1 ≤ k → m / k + 4 * (h + 1) ≤ free → m + h * (2 * k) ≤ k * free
enough_touched k m h free wide le =
    let product : k * (m / k + 4 * (h + 1)) ≤ k * free = mul-le-mul_left k le in
    omega (arith, fan_height k h)

pub taken_touched : (k m h before after : ℕ) → 1 ≤ k → k * before + 1 ≤ m + h * (2 * k) + k * after + 2 → before ≤ after + (m / k + 4 * (h + 1))
taken_touched k m h before after wide spent = elim (cases_lt (after + (m / k + 4 * (h + 1))) before) [
  | inr le ↦ le
  | inl lt ↦
      let product : k * (after + (m / k + 4 * (h + 1)) + 1) ≤ k * before = mul-le-mul_left k (let le : after + (m / k + 4 * (h + 1)) + 1 ≤ before = omega arith in le) in
      absurd (omega (arith, fan_height k h))
]

-- ---- the root

same_head : {A : Type 0} (x y : A) → (x ∷ []) ≡ (y ∷ []) → x ≡ y
same_head x y e = cc

-- ---- the row after its touched trees gave way

abbrev size_of : Part → ℕ
size_of part = part.size

pub record IsSameRow (rows row : List Part) : Type 0 where
  pub sum : row_size row ≡ row_size rows
  pub count : length row ≡ length rows
  pub some : AreSome row

pub same_row : (rows made row : List Part) (first end : ℕ) → first < end → end ≤ length rows → row ≡ (take first rows ++ made) ++ drop end rows → row_size made ≡ row_size (take (end - first) (drop first rows)) → length made ≡ length (take (end - first) (drop first rows))
    → AreSome rows → AreSome made → IsSameRow rows row
same_row rows made row first end order within is sum count somes news = record {
  sum = omega (arith, ap row_size is, sum_of-append size_of (take first rows ++ made) (drop end rows), sum_of-append size_of (take first rows) made, piece_size rows first end (omega arith), sum_of-take_drop size_of end rows);
  count = omega (arith, ap length is, length-append (take first rows ++ made) (drop end rows), length-append (take first rows) made, length-take-le first rows (omega arith), length-drop end rows, length-take-le (end - first) (drop first rows) (omega (arith, length-drop first rows)));
  some = subst AreSome (sym is) (each-append _ (take first rows ++ made) (drop end rows) (each-append _ (take first rows) made (each-take _ first rows somes) news) (each-drop _ end rows somes));
}

pub touched_count : (rows : List Part) (first end : ℕ) → first < end → end ≤ length rows → length (take (end - first) (drop first rows)) ≡ end - first
touched_count rows first end order within = length-take-le (end - first) (drop first rows) (omega (arith, length-drop first rows))

pub touched_sum : (rows : List Part) (first end : ℕ) → first < end → row_size (take (end - first) (drop first rows)) ≤ row_size rows
touched_sum rows first end order = omega (arith, piece_size rows first end (omega arith), front_most rows end)

pub touched_some : (rows : List Part) (first n : ℕ) → AreSome rows → AreSome (take n (drop first rows))
touched_some rows first n somes = each-take _ n (drop first rows) (each-drop _ first rows somes)

pub touched_leaves_fit : (geo : Geometry) (level least : ℕ) (run : List Part) (lens : List ℕ) (rows : List Part) (first n : ℕ) → level ≢ 0 → EachRow (CountedRow geo level least) run lens rows → AreLeaves geo (level - 1) (take n (drop first rows))
touched_leaves_fit geo level least run lens rows first n up h = record {
  fit = λ lowest. each_as _ (λ (part : Part). part.size ≤ leaf_bytes geo) (take n (drop first rows)) (λ part x. x.1) (here lowest);
  halves = λ lowest two. here lowest;
}
  where
    here : level - 1 ≡ 0 → AreHalfFull (leaf_bytes geo) (take n (drop first rows))
    here lowest = each-take _ n (drop first rows) (each-drop _ first rows (halves_below geo level least run lens rows (omega (arith, lowest, up)) h))

-- ---- numbers at an earlier state

pub spent_at : {S : Type 0} (g : ground.Ghosts S) (a b c : S) (level n count : ℕ) → Keeps g a b → IsSpent (g.geometry b).fan (replaced_leaves (g.geometry b) n) (level - 1) (g.free b Page) (g.free c Page) count
    → IsSpent (g.geometry a).fan (replaced_leaves (g.geometry a) n) (level - 1) (g.free a Page) (g.free c Page) count
spent_at g a b c level n count k h =
    subst (λ (f : Area → ℕ). IsSpent (g.geometry a).fan (replaced_leaves (g.geometry a) n) (level - 1) (f Page) (g.free c Page) count) k.free
    (subst (λ (geo : Geometry). IsSpent geo.fan (replaced_leaves geo n) (level - 1) (g.free b Page) (g.free c Page) count) (g.leads_geometry a b k.leads) h)

pub few_up : (geo : Geometry) (level least : ℕ) (run : List Part) (lens : List ℕ) (rows : List Part) (pos n first end at : ℕ) → EachRow (CountedRow geo level least) run lens rows → IsTouched run pos n → IsSpan rows pos n first end at → (2 ≤ length run → geo.fan ≤ least)
    → 2 ≤ length run → (geo.fan - 1 + 1) * (length run - 2) + 2 ≤ end - first
few_up geo level least run lens rows pos n first end at h touched span wide two =
    subst (λ f. f * (length run - 2) + 2 ≤ end - first) {x = geo.fan} {y = geo.fan - 1 + 1} (omega (arith, geo.two)) (few_nodes geo level least geo.fan run lens rows pos n first end at h touched span (wide two) two)

-- ---- faults

pub walk_touched : {S : Type 0} (g : ground.Ghosts S) (a b : S) (level least : ℕ) (run : List Part) (lens : List ℕ) (rows : List Part) (first n : ℕ) (fault : PortFault) → level ≢ 0 → Keeps g a b → EachRow (CountedRow (g.geometry a) level least) run lens rows
    → (g.tells a → EachRow (λ part r. IsRowOn (g.geometry a) (g.unit a part.page.0) level part.size r) run lens rows) → AllByRecursion (λ (part : Part). NamesNode (g.geometry a) part.page.0) run
    → (g.tells b → IsWalkFault (g.geometry b) (g.unit b) (level - 1) (g.geometry a).fan (take n (drop first rows)) fault) → g.tells a → IsWalkFault (g.geometry a) (g.unit a) level least run fault
walk_touched g a b level least run lens rows first n fault up k counted found area later told =
    walk_run (g.geometry a) (g.unit a) level least run lens rows fault up (found told) counted area
    (walk_part (g.geometry a) (g.unit a) (level - 1) (g.geometry a).fan first n rows fault (walk_back g a b (level - 1) (g.geometry a).fan (take n (drop first rows)) fault k later told))

-- ---- an edit of no bytes

nothing_written : (bytes : List ℕ) (pos : ℕ) (given : List ℕ) → length given ≡ 0 → written bytes pos given ≡ bytes
nothing_written bytes pos [] none = ap (λ k. (take pos bytes ++ []) ++ drop k bytes) {x = pos + length {A = ℕ} []} {y = pos} (omega arith) ∙ ap (λ xs. xs ++ drop pos bytes) (append-nil (take pos bytes)) ∙ take-append-drop pos bytes
nothing_written bytes pos (x ∷ given) none = absurd (omega arith)

pub spells_nothing : {S : Type 0} (g : ground.Ghosts S) (a : S) (root : Root) (bytes : List ℕ) (pos : ℕ) (given : List ℕ) → length given ≡ 0 → RootSpells (g.geometry a) (g.unit a) root bytes → RootSpells (g.geometry a) (g.unit a) root (written bytes pos given)
spells_nothing g a root bytes pos given none spells = subst (RootSpells (g.geometry a) (g.unit a) root) (sym (nothing_written bytes pos given none)) spells

-- ---- the tree of a root as a run
