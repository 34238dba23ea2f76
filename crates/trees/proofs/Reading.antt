-- Parts of what a row spells, and the row that stands on a node's page.
use Rattle.std.proofs.Common.{◌≡◌, ℕ, suc, ◌+◌, ◌-◌, ◌≤◌, min, List, [], ◌∷◌, ◌++◌, length, map, take, drop, refl, sym, ap, subst, ◌∙◌, arith, take_all, inl, inr}
use Rattle.std.proofs.Math.Seq.{take-append-add, drop-append-add}
use Rattle.std.proofs.lemmas.List.{append-nil, take-append-le, drop-append-le, length-append, length-drop, length-take-le, take_at, drop_all, drop-take, take-take}
use Rattle.std.proofs.lemmas.Bool.{cases_lt}
use Rattle.std.specs.List.{AllByRecursion}
use borrow.Rule.Slice.PartMut.{post_of}
use Rattle.ex_base.specs.declared.geometry.Geometry.{Geometry}
use Rattle.ex_base.specs.Ports.{Keeps}
use Rattle.ex_base.specs.declared.ground.Ground as ground
use Rattle.std.specs.List.{flat_map, concat}
use Rattle.trees.specs.declared.Pair.{Pair}
use Rattle.trees.specs.Node.{pairs_on}
use Rattle.trees.specs.Trees.{Units, IsNamed, HasSize, EachChild, for_each_child, bytes_on, shape_on, units_on}
use Rattle.trees.specs.declared.rows.Part.{Part}
use Rattle.trees.specs.Rows.{row_bytes, row_shape, row_units, AreTrees, parts_of}

-- ---- what is read where no tree stands

abbrev pub no_part : Part
no_part = record { size = 0; page = record { 0 = 0 } }

-- ---- parts of two lists joined

take_front : (front back : List ℕ) (len n : ℕ) → n ≡ min len (length front) → take len (front ++ back) ≡ take n front ++ take (len - n) back
take_front front back len n is = elim (cases_lt (length front) len) [
  | inl over ↦
      let split : len ≡ length front + (len - length front) = omega arith in
      let n_is : n ≡ length front = omega arith in
      ap (λ k. take k (front ++ back)) split ∙ take-append-add front back (len - length front)
      ∙ ap (λ xs. xs ++ take (len - length front) back) (sym (take_all n front (omega arith))) ∙ ap (λ k. take n front ++ take (len - k) back) (sym n_is)
  | inr fits ↦
      let n_is : n ≡ len = omega arith in
      let none : len - n ≡ 0 = omega arith in
      take-append-le len front back fits ∙ ap (λ k. take k front) (sym n_is)
      ∙ sym (ap (λ k. take n front ++ take k back) none ∙ append-nil (take n front))
]

pub two_parts : (front back p q : List ℕ) (len n pos : ℕ) → pos ≤ length front → n ≡ min len (length front - pos) → p ≡ take n (drop pos front) → q ≡ take (len - n) back
    → p ++ q ≡ take len (drop pos (front ++ back))
two_parts front back p q len n pos within is first second =
    let rest : length (drop pos front) ≡ length front - pos = length-drop pos front in
    sym (ap (take len) (drop-append-le pos front back within)
    ∙ take_front (drop pos front) back len n (is ∙ ap (min len) (sym rest))
    ∙ ap (λ xs. xs ++ take (len - n) back) (sym first) ∙ ap (λ xs. p ++ xs) (sym second))

pub part_behind : (front back : List ℕ) (len pos : ℕ) → length front ≤ pos → take len (drop (pos - length front) back) ≡ take len (drop pos (front ++ back))
part_behind front back len pos behind =
    sym (ap (λ k. take len (drop k (front ++ back))) {x = pos} {y = length front + (pos - length front)} (omega arith) ∙ ap (take len) (drop-append-add front back (pos - length front)))

-- what stands in a buffer after its front and then the rest is written
pub written_twice : (out p q : List ℕ) (n : ℕ) → n ≤ length out → length p ≡ n
    → take n (p ++ drop n out) ++ (q ++ post_of n (length (p ++ drop n out) - n) (p ++ drop n out)) ≡ p ++ q
written_twice out p q n fits len =
    let none : post_of n (length (p ++ drop n out) - n) (p ++ drop n out) ≡ [] = drop_all (length (p ++ drop n out) - n) (drop n (p ++ drop n out)) (omega (arith, length-drop n (p ++ drop n out))) in
    ap (λ xs. xs ++ (q ++ post_of n (length (p ++ drop n out) - n) (p ++ drop n out))) (take_at p (drop n out) n len)
    ∙ ap (λ xs. p ++ (q ++ xs)) none ∙ ap (λ xs. p ++ xs) (append-nil q)

-- how many bytes are left for the others
pub left_over : (out p : List ℕ) (n : ℕ) → n ≤ length out → length p ≡ n → length (take (length (p ++ drop n out) - n) (drop n (p ++ drop n out))) ≡ length out - n
left_over out p n fits len =
    length-take-le (length (p ++ drop n out) - n) (drop n (p ++ drop n out)) (omega (arith, length-drop n (p ++ drop n out)))
    ∙ omega (arith, length-append p (drop n out), length-drop n out)

-- ---- the children of a node spell what the node does

pub children_bytes : (make : ℕ → ℕ → List ℕ) (before : ℕ) (pairs : List Pair) → concat (for_each_child make before pairs) ≡ flat_map (λ (part : Part). make part.page.0 part.size) (parts_of before pairs)
children_bytes make before [] = refl
children_bytes make before (pair ∷ pairs) = ap (λ xs. make pair.page.0 (pair.count - before) ++ xs) (children_bytes make pair.count pairs)

pub children_trees : (geo : Geometry) (u : Units) (l before : ℕ) (pairs : List Pair) → AllByRecursion (λ (pair : Pair). IsNamed geo u l pair.page.0) pairs → EachChild (HasSize geo u l) before pairs → AreTrees geo u l (parts_of before pairs)
children_trees geo u l before [] named sized = tt
children_trees geo u l before (pair ∷ pairs) named sized = ((named.0, sized.0), children_trees geo u l pair.count pairs named.1 sized.1)

-- the row that stands on a node's page
pub row_trees : (geo : Geometry) (u : Units) (l page total : ℕ) (row : List Part) → IsNamed geo u (suc l) page → HasSize geo u (suc l) page total → row ≡ parts_of 0 (pairs_on (u page)) → AreTrees geo u l row
row_trees geo u l page total row named sized is = subst (AreTrees geo u l) (sym is) (children_trees geo u l 0 (pairs_on (u page)) named.2 sized.1)

pub row_spells : (u : Units) (l page total : ℕ) (row : List Part) → row ≡ parts_of 0 (pairs_on (u page)) → row_bytes u l row ≡ bytes_on u (suc l) page total
row_spells u l page total row is = ap (row_bytes u l) is ∙ sym (children_bytes (bytes_on u l) 0 (pairs_on (u page)))

-- the trees and the units below a node are those of the row on its page
children_shape : {A : Type 0} (make : ℕ → ℕ → A) (before : ℕ) (pairs : List Pair) → for_each_child make before pairs ≡ map (λ (part : Part). make part.page.0 part.size) (parts_of before pairs)
children_shape make before [] = refl
children_shape make before (pair ∷ pairs) = ap (λ xs. make pair.page.0 (pair.count - before) ∷ xs) (children_shape make pair.count pairs)

pub shape_below : (u : Units) (l page n : ℕ) (below : List Part) → below ≡ parts_of 0 (pairs_on (u page)) → shape_on u (suc l) page n ≡ row_shape u l below
shape_below u l page n below is = children_shape (shape_on u l) 0 (pairs_on (u page)) ∙ ap (row_shape u l) (sym is)

pub children_units : (f : ℕ → List ℕ) (before : ℕ) (pairs : List Pair) → flat_map (λ (pair : Pair). f pair.page.0) pairs ≡ flat_map (λ (part : Part). f part.page.0) (parts_of before pairs)
children_units f before [] = refl
children_units f before (pair ∷ pairs) = ap (λ us. f pair.page.0 ++ us) (children_units f pair.count pairs)

pub units_below : (u : Units) (l : ℕ) (part : Part) (below : List Part) → below ≡ parts_of 0 (pairs_on (u part.page.0)) → row_units u (suc l) (part ∷ []) ≡ part.page.0 ∷ row_units u l below
units_below u l part below is =
    append-nil (units_on u (suc l) part.page.0) ∙ ap (λ us. part.page.0 ∷ us) (children_units (units_on u l) 0 (pairs_on (u part.page.0)) ∙ ap (row_units u l) (sym is))

pub part_of_front : (xs : List ℕ) (from n len : ℕ) → from + n ≤ len → take n (drop from (take len xs)) ≡ take n (drop from xs)
part_of_front xs from n len h =
    ap (λ k. take n (drop from (take k xs))) {x = len} {y = from + (len - from)} (omega arith)
    ∙ ap (take n) (drop-take from (len - from) xs)
    ∙ take-take n (len - from) (drop from xs) (omega arith)

-- ---- over a port

-- a fact about trees, back to an earlier state that keeps the units
pub trees_back : {S : Type 0} (g : ground.Ghosts S) (a b : S) (l : ℕ) (row : List Part) → Keeps g a b → AreTrees (g.geometry a) (g.unit a) l row → AreTrees (g.geometry b) (g.unit b) l row
trees_back g a b l row k trees = rw (g.leads_geometry a b k.leads, k.units) trees

pub bytes_back : {S : Type 0} (g : ground.Ghosts S) (a b : S) (l len pos : ℕ) (row : List Part) (out : List ℕ) → Keeps g a b → out ≡ take len (drop pos (row_bytes (g.unit b) l row)) → out ≡ take len (drop pos (row_bytes (g.unit a) l row))
bytes_back g a b l len pos row out k is = is ∙ ap (λ (u : Units). take len (drop pos (row_bytes u l row))) k.units

-- the later bytes of a buffer
abbrev pub later : ℕ → List ℕ → List ℕ → ℕ
later n p out = length (take (length (p ++ drop n out) - n) (drop n (p ++ drop n out)))
