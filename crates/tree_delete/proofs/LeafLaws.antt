-- Leaves that are written anew.
use Rattle.std.proofs.Common.{get_or, drop, ◌≡◌, ◌≢◌, ◌⊎◌, ℕ, ◌+◌, ◌-◌, ◌*◌, ◌/◌, ◌<◌, ◌≤◌, List, [], ◌∷◌, ◌++◌, length, sym, ap, subst, ◌∙◌, arith, append_assoc, inl, inr}
use Rattle.std.specs.List.{AllByRecursion}
use Rattle.std.proofs.lemmas.Bool.{cases_lt}
use Rattle.std.proofs.lemmas.List.{length-append, length-map, append-nil, nil_from_length}
use Rattle.ex_base.specs.Area.{NamesLeaf}
use Rattle.ex_base.specs.Edits.{deleted}
use Rattle.ex_base.specs.Even.{sum_of}
use Rattle.ex_base.specs.Sizes.{leaf_bytes}
use Rattle.ex_base.specs.declared.geometry.Geometry.{Geometry}
use Rattle.ex_base.specs.declared.ground.Ground as ground
use Rattle.ex_base.proofs.Rows.{each-append}
use Rattle.ex_base.proofs.Each.{each_mapped, each_unmapped, split_each}
use Rattle.trees.specs.Trees.{Units}
use Rattle.trees.proofs.TreeLaws.{AreWhole}
use Rattle.trees.specs.declared.rows.Part.{Part}
use Rattle.trees.specs.Rows.{row_size, row_bytes, row_shape, AreTrees, AreHalfFull}
use Rattle.trees.specs.Counted.{Counted}
use Rattle.trees.specs.Made.{Extends, Holds, Took, pages_of, sizes_of}
use Rattle.trees.specs.Built.{AreSome}
use Rattle.trees.proofs.Laid.{row_length}
use Rattle.trees.proofs.Over.{bytes_app}
use Rattle.trees.proofs.Sizes.{sizes_sum}
use Rattle.trees.specs.Grown.{Grew}
use Rattle.tree_delete.specs.declared.cut.Cut.{Cut}
use Rattle.tree_delete.specs.Cuts.{all_of, sides, cut_bytes}
use Rattle.tree_delete.specs.Leaves.{IsWider, AreEven}
use Rattle.tree_delete.specs.Left.{IsLeftOf, IsLeft, AreRootLeaves}
use Rattle.tree_delete.proofs.CutLaws.{size_app, deleted_between}
use Rattle.trees.proofs.Growing.{holds_split, grew_leaves, grew_between}

-- ---- one leaf more

two_fit : (full : ℕ) (row : List Part) → AllByRecursion (λ (part : Part). part.size ≤ full) row → length row ≤ 2 → row_size row ≤ 2 * full
two_fit full [] fit few = omega arith
two_fit full (a ∷ []) fit few = omega (arith, fit.0)
two_fit full (a ∷ b ∷ []) fit few = omega (arith, fit.0, fit.1.0)
two_fit full (a ∷ b ∷ d ∷ row) fit few = absurd (omega arith)

pub run_fits : (full : ℕ) (cut : Cut) → AllByRecursion (λ (part : Part). part.size ≤ full) (all_of cut) → AllByRecursion (λ (part : Part). part.size ≤ full) cut.run.items
run_fits full cut all = (split_each _ cut.run.items cut.right.items (split_each _ cut.left.items (cut.run.items ++ cut.right.items) all).1).0

pub wider_same : (full : ℕ) (cut wider : Cut) → wider.left.items ≡ cut.left.items → wider.run.items ≡ cut.run.items → wider.right.items ≡ cut.right.items → wider.at ≡ cut.at → wider.len ≡ cut.len
    → (1 ≤ sides cut → (row_size cut.run.items - cut.len ≡ 0) ⊎ (full / 2 ≤ row_size cut.run.items - cut.len)) → IsWider full cut wider
wider_same full cut wider left run right at len enough =
    let size : row_size wider.run.items ≡ row_size cut.run.items = ap row_size run in
    record {
      row = ap (λ (xs : List Part). xs ++ (wider.run.items ++ wider.right.items)) left ∙ ap (λ (xs : List Part). cut.left.items ++ (xs ++ wider.right.items)) run ∙ ap (λ (xs : List Part). cut.left.items ++ (cut.run.items ++ xs)) right;
      start = omega (arith, ap row_size left);
      less = len;
      inside = λ h. omega arith;
      run = omega (arith, ap length run);
      sides_are = inl (omega (arith, ap length left, ap length right));
      most = λ fit few. omega (arith, two_fit full cut.run.items (run_fits full cut fit) few);
      half = λ halves some. elim (enough some) [
        | inl none ↦ inl (omega arith)
        | inr half ↦ inr (omega arith)
      ];
    }

pub wider_left : (full : ℕ) (cut wider : Cut) (near : Part) → cut.left.items ≡ wider.left.items ++ (near ∷ []) → wider.run.items ≡ (near ∷ []) ++ (cut.run.items ++ []) → wider.right.items ≡ cut.right.items → wider.at ≡ cut.at + near.size → wider.len ≡ cut.len
    → cut.len ≤ row_size cut.run.items → row_size cut.run.items - cut.len ≢ 0 → row_size cut.run.items - cut.len < full / 2 → IsWider full cut wider
wider_left full cut wider near left run right at len fits some less =
    let run_is : wider.run.items ≡ near ∷ cut.run.items = run ∙ ap (λ (xs : List Part). near ∷ xs) (append-nil cut.run.items) in
    let size : row_size wider.run.items ≡ near.size + row_size cut.run.items = ap row_size run_is in
    let left_size : row_size cut.left.items ≡ row_size wider.left.items + near.size = omega (arith, ap row_size left, size_app wider.left.items (near ∷ [])) in
    record {
      row = ap (λ (xs : List Part). wider.left.items ++ (xs ++ wider.right.items)) run_is ∙ ap (λ (xs : List Part). wider.left.items ++ (near ∷ (cut.run.items ++ xs))) right
          ∙ sym (append_assoc wider.left.items (near ∷ []) (cut.run.items ++ cut.right.items)) ∙ ap (λ (xs : List Part). xs ++ (cut.run.items ++ cut.right.items)) (sym left);
      start = omega arith;
      less = len;
      inside = λ h. omega arith;
      run = omega (arith, ap length run_is);
      sides_are = inr (omega (arith, ap length left, length-append wider.left.items (near ∷ []), ap length right), omega arith);
      most = λ fit few.
          let near_fits = (split_each (λ (part : Part). part.size ≤ full) wider.left.items (near ∷ []) (subst (AllByRecursion (λ (part : Part). part.size ≤ full)) left (split_each _ cut.left.items (cut.run.items ++ cut.right.items) fit).0)).1 in
          omega (arith, near_fits.0);
      half = λ halves side.
          let near_half = (split_each (λ (part : Part). (full / 2 ≤ part.size) × (part.size ≤ full)) wider.left.items (near ∷ []) (subst (AreHalfFull full) left (split_each _ cut.left.items (cut.run.items ++ cut.right.items) halves).0)).1 in
          inr (omega (arith, near_half.0.0));
    }

pub wider_right : (full : ℕ) (cut wider : Cut) (near : Part) → cut.right.items ≡ near ∷ wider.right.items → wider.run.items ≡ cut.run.items ++ ((near ∷ []) ++ []) → wider.left.items ≡ cut.left.items → wider.at ≡ cut.at → wider.len ≡ cut.len
    → cut.len ≤ row_size cut.run.items → row_size cut.run.items - cut.len ≢ 0 → row_size cut.run.items - cut.len < full / 2 → IsWider full cut wider
wider_right full cut wider near right run left at len fits some less =
    let size : row_size wider.run.items ≡ row_size cut.run.items + near.size = omega (arith, ap row_size run, size_app cut.run.items (near ∷ [])) in
    record {
      row = ap (λ (xs : List Part). xs ++ (wider.run.items ++ wider.right.items)) left ∙ ap (λ (xs : List Part). cut.left.items ++ (xs ++ wider.right.items)) run
          ∙ ap (λ (xs : List Part). cut.left.items ++ xs) (append_assoc cut.run.items (near ∷ []) wider.right.items ∙ ap (λ (xs : List Part). cut.run.items ++ xs) (sym right));
      start = omega (arith, ap row_size left);
      less = len;
      inside = λ h. omega arith;
      run = omega (arith, ap length run, length-append cut.run.items (near ∷ []));
      sides_are = inr (omega (arith, ap length left, ap length right), omega arith);
      most = λ fit few.
          let rest = split_each (λ (part : Part). part.size ≤ full) cut.run.items cut.right.items (split_each _ cut.left.items (cut.run.items ++ cut.right.items) fit).1 in
          let near_fits = subst (AllByRecursion (λ (part : Part). part.size ≤ full)) right rest.1 in
          omega (arith, near_fits.0);
      half = λ halves side.
          let rest = split_each (λ (part : Part). (full / 2 ≤ part.size) × (part.size ≤ full)) cut.run.items cut.right.items (split_each _ cut.left.items (cut.run.items ++ cut.right.items) halves).1 in
          let near_half = subst (AreHalfFull full) right rest.1 in
          inr (omega (arith, near_half.0.0));
    }

-- ---- numbers

pub run_most : (cut : Cut) → row_size cut.run.items ≤ row_size (all_of cut)
run_most cut = omega (arith, size_app cut.left.items (cut.run.items ++ cut.right.items), size_app cut.run.items cut.right.items)

pub left_most : (cut : Cut) → row_size cut.left.items ≤ row_size (all_of cut)
left_most cut = omega (arith, size_app cut.left.items (cut.run.items ++ cut.right.items))

pub last_size : (row front : List Part) (near : Part) → row ≡ front ++ (near ∷ []) → near.size ≤ row_size row
last_size row front near is = omega (arith, ap row_size is, size_app front (near ∷ []))

pub first_gone : (row rest : List Part) (near : Part) → 1 ≤ length row → near ≡ get_or row 0 near → rest ≡ drop 1 row → row ≡ near ∷ rest
first_gone [] rest near some is rest_is = absurd (omega arith)
first_gone (part ∷ row) rest near some is rest_is = cc

-- ---- the new row

somes : (full : ℕ) (row : List Part) (lengths : List ℕ) → sizes_of row ≡ lengths → AllByRecursion (λ n. (1 ≤ n) × (n ≤ full)) lengths → AreSome row
somes full row lengths is each = only full row (each_unmapped (λ n. (1 ≤ n) × (n ≤ full)) (λ (part : Part). part.size) row (subst (AllByRecursion (λ n. (1 ≤ n) × (n ≤ full))) (sym is) each))
  where
    only : (full : ℕ) (row : List Part) → AllByRecursion (λ (part : Part). (1 ≤ part.size) × (part.size ≤ full)) row → AreSome row
    only full [] all = tt
    only full (part ∷ row) all = (all.0.0, only full row all.1)

pub rest_of : (cut wider : Cut) (full : ℕ) → IsWider full cut wider → cut.at + cut.len ≤ row_size cut.run.items → row_size wider.left.items + ((row_size wider.run.items - wider.len) + row_size wider.right.items) + cut.len ≡ row_size (all_of cut)
rest_of cut wider full w inside =
    omega (arith, ap row_size w.row, size_app wider.left.items (wider.run.items ++ wider.right.items), size_app wider.run.items wider.right.items, w.inside inside, w.less)

pub leaves_left_of : (full : ℕ) (cut wider : Cut) (made row : List Part) (lengths : List ℕ) → IsWider full cut wider → cut.at + cut.len ≤ row_size cut.run.items → AreSome (all_of cut) → AreEven full (row_size wider.run.items - wider.len) lengths
    → sizes_of made ≡ lengths → row ≡ wider.left.items ++ (made ++ wider.right.items) → IsLeftOf cut row
leaves_left_of full cut wider made row lengths w inside some e is row_is =
    let parts = split_each (λ (part : Part). 1 ≤ part.size) wider.left.items (wider.run.items ++ wider.right.items) (subst AreSome (sym w.row) some) in
    let others = split_each (λ (part : Part). 1 ≤ part.size) wider.run.items wider.right.items parts.1 in
    let count : length made ≡ length lengths = sym (length-map made (λ (part : Part). part.size)) ∙ ap length is in
    let total : row_size made ≡ row_size wider.run.items - wider.len = sym (sizes_sum made) ∙ ap (sum_of (λ n. n)) is ∙ e.sum in
    let row_len : length row ≡ length wider.left.items + (length made + length wider.right.items) = omega (arith, ap length row_is, length-append wider.left.items (made ++ wider.right.items), length-append made wider.right.items) in
    let all_len : length (all_of cut) ≡ length wider.left.items + (length wider.run.items + length wider.right.items) = omega (arith, ap length w.row, length-append wider.left.items (wider.run.items ++ wider.right.items), length-append wider.run.items wider.right.items) in
    record {
      sum = omega (arith, ap row_size row_is, size_app wider.left.items (made ++ wider.right.items), size_app made wider.right.items, rest_of cut wider full w inside);
      sizes = subst AreSome (sym row_is) (each-append _ wider.left.items (made ++ wider.right.items) parts.0 (each-append _ made wider.right.items (somes full made lengths is e.each) others.1));
      many = elim w.sides_are [
        | inl same ↦ omega arith
        | inr less ↦ omega (arith, less.0, e.some less.1)
      ];
      few = omega (arith, e.few);
    }

pub leaves_roots : (full : ℕ) (cut wider : Cut) (made row : List Part) (lengths : List ℕ) → IsWider full cut wider → AreEven full (row_size wider.run.items - wider.len) lengths
    → sizes_of made ≡ lengths → row ≡ wider.left.items ++ (made ++ wider.right.items) → sides cut ≡ 0 → AreRootLeaves full row
leaves_roots full cut wider made row lengths w e is row_is none =
    let alone : sides wider ≡ 0 = elim w.sides_are [
      | inl same ↦ omega arith
      | inr less ↦ absurd (omega (arith, less.0))
    ] in
    let no_left : wider.left.items ≡ [] = nil_from_length wider.left.items (omega arith) in
    let no_right : wider.right.items ≡ [] = nil_from_length wider.right.items (omega arith) in
    let is_made : row ≡ made = row_is ∙ ap (λ (xs : List Part). xs ++ (made ++ wider.right.items)) no_left ∙ ap (λ (xs : List Part). made ++ xs) no_right ∙ append-nil made in
    let count : length made ≡ length lengths = sym (length-map made (λ (part : Part). part.size)) ∙ ap length is in
    subst (AreRootLeaves full) (sym is_made) (elim e.alone [
      | inl few ↦ elim (cases_lt 0 (length made)) [
        | inl one ↦ inl (omega arith)
        | inr none ↦ inr (subst (AreHalfFull full) (sym (nil_from_length made (omega arith))) tt)
      ]
      | inr halves ↦ inr (each_unmapped (λ n. (full / 2 ≤ n) × (n ≤ full)) (λ (part : Part). part.size) made (subst (AllByRecursion (λ n. (full / 2 ≤ n) × (n ≤ full))) (sym is) halves))
    ])

-- the same cut of the same row
pub cut_bytes_whole : (geo : Geometry) (u : Units) (l : ℕ) (cut : Cut) → AreWhole geo u → AreTrees geo u l (all_of cut) → cut.at + cut.len ≤ row_size cut.run.items → deleted (row_bytes u l (all_of cut)) (row_size cut.left.items + cut.at) cut.len ≡ cut_bytes u l cut
cut_bytes_whole geo u l cut whole trees inside =
    let parts = split_each _ cut.left.items (cut.run.items ++ cut.right.items) trees in
    let others = split_each _ cut.run.items cut.right.items parts.1 in
    let left_len = row_length geo u l cut.left.items whole parts.0 in
    let run_len = row_length geo u l cut.run.items whole others.0 in
    ap (λ xs. deleted xs (row_size cut.left.items + cut.at) cut.len) (bytes_app u l cut.left.items (cut.run.items ++ cut.right.items) ∙ ap (λ xs. row_bytes u l cut.left.items ++ xs) (bytes_app u l cut.run.items cut.right.items))
    ∙ ap (λ k. deleted (row_bytes u l cut.left.items ++ (row_bytes u l cut.run.items ++ row_bytes u l cut.right.items)) (k + cut.at) cut.len) (sym left_len)
    ∙ deleted_between (row_bytes u l cut.left.items) (row_bytes u l cut.run.items) (row_bytes u l cut.right.items) cut.at cut.len (omega arith)

wider_bytes : (geo : Geometry) (u : Units) (full : ℕ) (cut wider : Cut) → AreWhole geo u → AreTrees geo u 0 (all_of cut) → cut.at + cut.len ≤ row_size cut.run.items → IsWider full cut wider → cut_bytes u 0 wider ≡ cut_bytes u 0 cut
wider_bytes geo u full cut wider whole trees inside w =
    sym (cut_bytes_whole geo u 0 wider whole (subst (AreTrees geo u 0) (sym w.row) trees) (w.inside inside))
    ∙ ap (λ (r : List Part). deleted (row_bytes u 0 r) (row_size wider.left.items + wider.at) wider.len) w.row
    ∙ ap (λ k. deleted (row_bytes u 0 (all_of cut)) k wider.len) w.start ∙ ap (deleted (row_bytes u 0 (all_of cut)) (row_size cut.left.items + cut.at)) w.less
    ∙ cut_bytes_whole geo u 0 cut whole trees inside

no_lengths : (full total : ℕ) (lengths : List ℕ) → AreEven full total lengths → total ≡ 0 → AllByRecursion (λ n. (full / 2 ≤ n) × (n ≤ full)) lengths
no_lengths full total [] e none = tt
no_lengths full total (n ∷ ns) e none = absurd (omega (arith, e.sum, e.each.0.0))

pub leaves_left : {S : Type 0} (g : ground.Ghosts S) (a b : S) (cut wider : Cut) (made row : List Part) (lengths : List ℕ) → g.ready a → g.tells a → IsWider (leaf_bytes (g.geometry a)) cut wider → cut.at + cut.len ≤ row_size cut.run.items
    → AreEven (leaf_bytes (g.geometry a)) (row_size wider.run.items - wider.len) lengths → Extends g a b → sizes_of made ≡ lengths → AllByRecursion (λ (part : Part). NamesLeaf (g.geometry a) part.page.0) made → Took g a b (pages_of made) → Counted g a b
    → (Holds g a 0 wider.run.items → row_bytes (g.unit b) 0 made ≡ deleted (row_bytes (g.unit a) 0 wider.run.items) wider.at wider.len) → row ≡ wider.left.items ++ (made ++ wider.right.items) → Holds g a 0 (all_of cut) → IsLeft g a b 0 cut row
leaves_left {S} g a b cut wider made row lengths ready told w inside e ext is named took counts bytes row_is holds =
    let held : Holds g a 0 (all_of wider) = subst (Holds g a 0) (sym w.row) holds in
    let run_held = (holds_two g a wider.run.items wider.right.items (holds_two g a wider.left.items (wider.run.items ++ wider.right.items) held).1).0 in
    let grew = grew_leaves g a b wider.run.items made lengths (deleted (row_bytes (g.unit a) 0 wider.run.items) wider.at wider.len) ext is e.each named took counts (bytes run_held) in
    let all = grew_between g a b 0 wider.left.items wider.run.items wider.right.items made (deleted (row_bytes (g.unit a) 0 wider.run.items) wider.at wider.len) lengths ext held grew in
    let shape : List ℕ = row_shape (g.unit a) 0 wider.left.items ++ (lengths ++ row_shape (g.unit a) 0 wider.right.items) in
    let bytes_are = wider_bytes (g.geometry a) (g.unit a) (leaf_bytes (g.geometry a)) cut wider (g.whole a ready told) holds.trees inside w in
    record {
      shape = row_shape (g.unit a) 0 wider.left.items ++ (lengths ++ row_shape (g.unit a) 0 wider.right.items);
      grew = subst (λ r. Grew g a b 0 (all_of cut) r (cut_bytes (g.unit a) 0 cut) (row_shape (g.unit a) 0 wider.left.items ++ (lengths ++ row_shape (g.unit a) 0 wider.right.items))) (sym row_is)
          (subst (λ r. Grew g a b 0 r (wider.left.items ++ (made ++ wider.right.items)) (cut_bytes (g.unit a) 0 cut) (row_shape (g.unit a) 0 wider.left.items ++ (lengths ++ row_shape (g.unit a) 0 wider.right.items))) w.row
          (subst (λ xs. Grew g a b 0 (all_of wider) (wider.left.items ++ (made ++ wider.right.items)) xs (row_shape (g.unit a) 0 wider.left.items ++ (lengths ++ row_shape (g.unit a) 0 wider.right.items))) bytes_are all));
      halves = λ side halves.
          let full : ℕ = leaf_bytes (g.geometry a) in
          let on_sizes : AllByRecursion (λ n. (leaf_bytes (g.geometry a) / 2 ≤ n) × (n ≤ leaf_bytes (g.geometry a))) (sizes_of (all_of cut)) = halves in
          let half : AreHalfFull (leaf_bytes (g.geometry a)) (all_of cut) = each_unmapped (λ n. (leaf_bytes (g.geometry a) / 2 ≤ n) × (n ≤ leaf_bytes (g.geometry a))) (λ (part : Part). part.size) (all_of cut) on_sizes in
          let parts = split_each _ wider.left.items (wider.run.items ++ wider.right.items) (subst (AreHalfFull (leaf_bytes (g.geometry a))) (sym w.row) half) in
          let others = split_each _ wider.run.items wider.right.items parts.1 in
          let new : AllByRecursion (λ n. (leaf_bytes (g.geometry a) / 2 ≤ n) × (n ≤ leaf_bytes (g.geometry a))) lengths = elim (w.half half side) [
            | inl none ↦ no_lengths (leaf_bytes (g.geometry a)) _ lengths e none
            | inr enough ↦ e.half enough
          ] in
          each-append _ (sizes_of wider.left.items) (lengths ++ sizes_of wider.right.items) (each_mapped (λ n. (leaf_bytes (g.geometry a) / 2 ≤ n) × (n ≤ leaf_bytes (g.geometry a))) (λ (part : Part). part.size) wider.left.items parts.0)
          (each-append _ lengths (sizes_of wider.right.items) new (each_mapped (λ n. (leaf_bytes (g.geometry a) / 2 ≤ n) × (n ≤ leaf_bytes (g.geometry a))) (λ (part : Part). part.size) wider.right.items others.1));
    }
  where
    holds_two : {S : Type 0} (g : ground.Ghosts S) (s : S) (xs ys : List Part) → Holds g s 0 (xs ++ ys) → Holds g s 0 xs × Holds g s 0 ys
    holds_two g s xs ys h = holds_split g s 0 xs ys h
