-- An insert or an append keeps a tree balanced, and adds its bytes.
use Rattle.std.proofs.Common.{◌≡◌, ℕ, zero, suc, ◌+◌, ◌-◌, ◌/◌, ◌<◌, ◌≤◌, leb, List, [], ◌∷◌, length, Some, None, refl, sym, subst, arith, inl, inr}
use Rattle.std.specs.List.{AllByRecursion}
use Rattle.std.proofs.lemmas.Bool.{cases_lt, cond_both}
use Rattle.ex_base.specs.Even.{sum_of}
use Rattle.ex_base.proofs.Rows.{IsRow, IsRow-append, IsRow-as, IsRow-cons}
use Rattle.trees.specs.Split.{most_pairs, nodes_over}
use Rattle.trees.proofs.Splits.{nodes_over_many, nodes_over_few, fewer_nodes}
use Rattle.trees.proofs.Placed.{IsCapacity, insert_leaves_row, append_leaves_row, FirstLeaves, alone, several, first_lengths_are, insert_lone, append_lone}
use Rattle.trees.specs.Shape.{Subtree, Shape, total, size_of, IsHalfFull, IsRoot, IsBalanced, change_at, change_last, insert_parts, append_parts, rooted, ins_shape, app_shape}

-- the least fan and leaf
pub record IsForm (fan full : ℕ) : Type 0 where
  pub wide : 2 ≤ fan
  pub roomy : 2 ≤ full

capacity : (fan full : ℕ) → IsForm fan full → IsCapacity (full / 2) full
capacity fan full form = record { some = omega (arith, form.roomy); half = omega arith }

-- half full trees of one height
abbrev pub TreeRow : ℕ → ℕ → (h : ℕ) → ℕ → ℕ → List (Subtree h) → Type 0
TreeRow fan full h sum count trees = IsRow (IsHalfFull fan full h) (total h) sum count trees

-- one root, or at least two half full trees
pub data Parts (fan full h sum : ℕ) (trees : List (Subtree h)) : Type 0 where
  single : (tree : Subtree h) → trees ≡ tree ∷ [] → IsRoot fan full h tree → total h tree ≡ sum → Parts fan full h sum trees
  more : TreeRow fan full h sum 2 trees → Parts fan full h sum trees

-- ---- nodes over trees

nodes_row : (fan full h sum : ℕ) (trees : List (Subtree h)) → 2 ≤ fan → TreeRow fan full h sum fan trees → TreeRow fan full (suc h) sum 1 (nodes_over fan trees)
nodes_row fan full h sum trees two row = elim (cases_lt (most_pairs fan) (length trees)) [
  | inl over ↦ IsRow-as _ _ _ _ _ _ _ (nodes_over_many (IsHalfFull fan full h) (total h) fan sum trees over (IsRow-as _ _ _ _ _ _ _ row refl (omega arith))) refl (omega arith)
  | inr few ↦
      let many : fan ≤ length trees = row.many in
      let one : TreeRow fan full (suc h) sum 1 (trees ∷ []) = record { each = ((row.many, few, row.each), tt); sum = omega (arith, row.sum); many = omega arith } in
      subst (λ (nodes : List (Subtree (suc h))). TreeRow fan full (suc h) sum 1 nodes) (sym (nodes_over_few fan trees (omega arith) few)) one
]

root_nodes : (fan full h sum : ℕ) (trees : List (Subtree h)) → 2 ≤ fan → TreeRow fan full h sum 2 trees → Parts fan full (suc h) sum (nodes_over fan trees)
root_nodes fan full h sum trees two row = elim (cases_lt (most_pairs fan) (length trees)) [
  | inl over ↦ more (nodes_over_many (IsHalfFull fan full h) (total h) fan sum trees over (IsRow-as _ _ _ _ _ _ _ row refl (omega arith)))
  | inr few ↦
      let many : 2 ≤ length trees = row.many in
      single trees (nodes_over_few fan trees (omega arith) few) (row.many, few, row.each) row.sum
]

-- ---- one tree under a parent is changed

-- what a change of one tree leaves in its place
abbrev Changes : {A : Type 0} → (A → Type 0) → (A → ℕ) → ℕ → (A → ℕ → List A) → Type 0
Changes {A} P size n change = (tree : A) (pos : ℕ) → P tree → IsRow P size (size tree + n) 1 (change tree pos)

row_of : {A : Type 0} (P : A → Type 0) (size : A → ℕ) (trees : List A) → AllByRecursion P trees → IsRow P size (sum_of size trees) (length trees) trees
row_of P size trees each = record { each = each; sum = refl; many = omega arith }

change_at_row : {A : Type 0} (P : A → Type 0) (size : A → ℕ) (n : ℕ) (change : A → ℕ → List A) (trees : List A) (pos : ℕ) → Changes P size n change → AllByRecursion P trees → 0 < length trees → IsRow P size (sum_of size trees + n) (length trees) (change_at size change trees pos)
change_at_row P size n change [] pos changes each some = absurd (omega arith)
change_at_row P size n change (tree ∷ []) pos changes each some = IsRow-as _ _ _ _ _ _ _ (changes tree pos each.0) (omega arith) (omega arith)
change_at_row P size n change (tree ∷ next ∷ rest) pos changes each some =
    cond_both (leb pos (size tree)) _ _ (IsRow P size (sum_of size (tree ∷ next ∷ rest) + n) (length (tree ∷ next ∷ rest))) (λ e. IsRow-as _ _ _ _ _ _ _ (IsRow-append P size _ _ _ _ _ _ (changes tree pos each.0) (row_of P size (next ∷ rest) each.1)) (omega arith) (omega arith)) (λ e. IsRow-as _ _ _ _ _ _ _ (IsRow-cons P size _ _ tree _ each.0 (change_at_row P size n change (next ∷ rest) (pos - size tree) changes each.1 (omega arith))) (omega arith) (omega arith))

change_last_row : {A : Type 0} (P : A → Type 0) (size : A → ℕ) (n : ℕ) (change : A → List A) (trees : List A) → ((tree : A) → P tree → IsRow P size (size tree + n) 1 (change tree)) → AllByRecursion P trees → 0 < length trees → IsRow P size (sum_of size trees + n) (length trees) (change_last change trees)
change_last_row P size n change [] changes each some = absurd (omega arith)
change_last_row P size n change (tree ∷ []) changes each some = IsRow-as _ _ _ _ _ _ _ (changes tree each.0) (omega arith) (omega arith)
change_last_row P size n change (tree ∷ next ∷ rest) changes each some =
    IsRow-as _ _ _ _ _ _ _ (IsRow-cons P size _ _ tree _ each.0 (change_last_row P size n change (next ∷ rest) changes each.1 (omega arith))) (omega arith) (omega arith)

-- ---- inserts below a root

insert_row : (fan full n h : ℕ) (tree : Subtree (suc h)) (pos : ℕ) → IsForm fan full → IsHalfFull fan full (suc h) tree → TreeRow fan full (suc h) (total (suc h) tree + n) 1 (insert_parts fan full n (suc h) tree pos)
unfolding insert_parts
insert_row fan full n zero leaves pos form half =
    let some : 0 < length leaves = omega (arith, half.0, form.wide) in
    nodes_row fan full 0 _ _ form.wide (IsRow-as _ _ _ _ _ _ _ (insert_leaves_row (full / 2) full n None leaves pos (capacity fan full form) tt half.2 some) (omega arith) (omega (arith, half.0)))
insert_row fan full n (suc h) trees pos form half =
    let some : 0 < length trees = omega (arith, half.0, form.wide) in
    nodes_row fan full (suc h) _ _ form.wide (IsRow-as _ _ _ _ _ _ _ (change_at_row (IsHalfFull fan full (suc h)) (total (suc h)) n (insert_parts fan full n (suc h)) trees pos (λ tree at each. insert_row fan full n h tree at form each) half.2 some) refl half.0)

append_row : (fan full n h : ℕ) (tree : Subtree (suc h)) → IsForm fan full → IsHalfFull fan full (suc h) tree → TreeRow fan full (suc h) (total (suc h) tree + n) 1 (append_parts fan full n (suc h) tree)
unfolding append_parts
append_row fan full n zero leaves form half =
    let some : 0 < length leaves = omega (arith, half.0, form.wide) in
    nodes_row fan full 0 _ _ form.wide (IsRow-as _ _ _ _ _ _ _ (append_leaves_row (full / 2) full n None leaves (capacity fan full form) tt half.2 some) (omega arith) (omega (arith, half.0)))
append_row fan full n (suc h) trees form half =
    let some : 0 < length trees = omega (arith, half.0, form.wide) in
    nodes_row fan full (suc h) _ _ form.wide (IsRow-as _ _ _ _ _ _ _ (change_last_row (IsHalfFull fan full (suc h)) (total (suc h)) n (append_parts fan full n (suc h)) trees (λ tree each. append_row fan full n h tree form each) half.2 some) refl half.0)

-- ---- at a root

first_parts : (fan full sum : ℕ) (leaves : List ℕ) → FirstLeaves (full / 2) full sum leaves → Parts fan full 0 sum leaves
first_parts fan full sum leaves (alone is some few) = single sum is (some, few) refl
first_parts fan full sum leaves (several row) = more row

insert_root : (fan full n h : ℕ) (tree : Subtree h) (pos : ℕ) → IsForm fan full → 1 ≤ n → IsRoot fan full h tree → Parts fan full h (total h tree + n) (insert_parts fan full n h tree pos)
unfolding insert_parts
insert_root fan full n zero leaf pos form some root = first_parts fan full _ _ (insert_lone (full / 2) full leaf n (capacity fan full form) some)
insert_root fan full n (suc zero) leaves pos form some root =
    root_nodes fan full 0 _ _ form.wide (IsRow-as _ _ _ _ _ _ _ (insert_leaves_row (full / 2) full n None leaves pos (capacity fan full form) tt root.2 (omega (arith, root.0))) (omega arith) (omega (arith, root.0)))
insert_root fan full n (suc (suc h)) trees pos form some root =
    root_nodes fan full (suc h) _ _ form.wide (IsRow-as _ _ _ _ _ _ _ (change_at_row (IsHalfFull fan full (suc h)) (total (suc h)) n (insert_parts fan full n (suc h)) trees pos (λ tree at each. insert_row fan full n h tree at form each) root.2 (omega (arith, root.0))) refl root.0)

append_root : (fan full n h : ℕ) (tree : Subtree h) → IsForm fan full → 1 ≤ n → IsRoot fan full h tree → Parts fan full h (total h tree + n) (append_parts fan full n h tree)
unfolding append_parts
append_root fan full n zero leaf form some root = first_parts fan full _ _ (append_lone (full / 2) full leaf n (capacity fan full form) some)
append_root fan full n (suc zero) leaves form some root =
    root_nodes fan full 0 _ _ form.wide (IsRow-as _ _ _ _ _ _ _ (append_leaves_row (full / 2) full n None leaves (capacity fan full form) tt root.2 (omega (arith, root.0))) (omega arith) (omega (arith, root.0)))
append_root fan full n (suc (suc h)) trees form some root =
    root_nodes fan full (suc h) _ _ form.wide (IsRow-as _ _ _ _ _ _ _ (change_last_row (IsHalfFull fan full (suc h)) (total (suc h)) n (append_parts fan full n (suc h)) trees (λ tree each. append_row fan full n h tree form each) root.2 (omega (arith, root.0))) refl root.0)

-- ---- new roots

pub record IsResult (fan full sum : ℕ) (shape : Shape) : Type 0 where
  pub balanced : IsBalanced fan full shape
  pub size : size_of shape ≡ sum

rooted_result : (fan full levels h sum : ℕ) (trees : List (Subtree h)) → IsForm fan full → Parts fan full h sum trees → length trees ≤ levels → IsResult fan full sum (rooted fan levels h trees)
unfolding rooted
rooted_result fan full levels h sum trees form (single tree is root size) few =
    subst (λ (ts : List (Subtree h)). IsResult fan full sum (rooted fan levels h ts)) (sym is) (record { balanced = root; size = size })
rooted_result fan full levels h sum [] form (more row) few = absurd (omega (arith, row.many))
rooted_result fan full levels h sum (tree ∷ []) form (more row) few = absurd (omega (arith, row.many))
rooted_result fan full zero h sum (tree ∷ next ∷ rest) form (more row) few = absurd (omega arith)
rooted_result fan full (suc levels) h sum (tree ∷ next ∷ rest) form (more row) few =
    let fewer : length (nodes_over fan (tree ∷ next ∷ rest)) < length (tree ∷ next ∷ rest) = fewer_nodes fan (tree ∷ next ∷ rest) (omega (arith, form.wide)) (omega arith) in
    rooted_result fan full levels (suc h) sum (nodes_over fan (tree ∷ next ∷ rest)) form (root_nodes fan full h sum (tree ∷ next ∷ rest) form.wide row) (omega arith)

IsResult-as : (fan full a b : ℕ) (shape : Shape) → IsResult fan full a shape → a ≡ b → IsResult fan full b shape
IsResult-as fan full a b shape r e = record { balanced = r.balanced; size = omega (arith, r.size) }

-- ---- the law

pub inserted : (fan full : ℕ) (shape : Shape) (pos n : ℕ) → IsForm fan full → IsBalanced fan full shape → IsResult fan full (size_of shape + n) (ins_shape fan full shape pos n)
unfolding ins_shape
inserted fan full shape pos zero form balanced = record { balanced = balanced; size = omega arith }
inserted fan full None pos (suc n) form balanced =
    IsResult-as fan full (suc n) _ _ (rooted_result fan full _ 0 _ _ form (first_parts fan full _ _ (first_lengths_are (full / 2) full (suc n) (capacity fan full form) (omega arith))) (omega arith)) (omega arith)
inserted fan full (Some tree) pos (suc n) form balanced =
    rooted_result fan full _ tree.0 _ _ form (insert_root fan full (suc n) tree.0 tree.1 pos form (omega arith) balanced) (omega arith)

pub appended : (fan full : ℕ) (shape : Shape) (n : ℕ) → IsForm fan full → IsBalanced fan full shape → IsResult fan full (size_of shape + n) (app_shape fan full shape n)
unfolding app_shape
appended fan full shape zero form balanced = record { balanced = balanced; size = omega arith }
appended fan full None (suc n) form balanced =
    IsResult-as fan full (suc n) _ _ (rooted_result fan full _ 0 _ _ form (first_parts fan full _ _ (first_lengths_are (full / 2) full (suc n) (capacity fan full form) (omega arith))) (omega arith)) (omega arith)
appended fan full (Some tree) (suc n) form balanced =
    rooted_result fan full _ tree.0 _ _ form (append_root fan full (suc n) tree.0 tree.1 form (omega arith) balanced) (omega arith)
