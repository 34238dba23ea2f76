-- New leaves with other bytes over a range of a run of leaves.
use Rattle.std.proofs.Common.{◌≡◌, ◌⊎◌, ℕ, zero, suc, ◌+◌, ◌-◌, ◌*◌, ◌/◌, ◌<◌, ◌≤◌, min, List, [], ◌∷◌, ◌++◌, length, take, drop, get_or, refl, sym, ap, subst, ◌∙◌, arith, inl, inr, take_all, true, append_assoc}
use Rattle.std.specs.Prelude.{IsTrue}
use Rattle.std.specs.List.{AllByRecursion}
use Rattle.std.proofs.lemmas.Bool.{cases_lt}
use Rattle.std.proofs.lemmas.Bool.Decides.{nat_tests}
use Rattle.std.proofs.lemmas.Grind.{same_number_lists}
use Rattle.std.proofs.lemmas.List.{length-append, length-drop, length-take-le, length-map, map-append, get_or-take, get_or-drop, get_or-append_right, get_or_append_left, take_more}
use Rattle.std.proofs.lemmas.Nat.{le-div}
use Rattle.ex_base.specs.Area.{NamesLeaf}
use Rattle.ex_base.specs.Bytes.{written, repl, repl-below, repl-above, repl-inside}
use Rattle.ex_base.specs.Even.{sum_of}
use Rattle.ex_base.specs.Limits.{is_page_size}
use Rattle.ex_base.specs.Needs.{replaced_leaves}
use Rattle.ex_base.specs.Sizes.{leaf_bytes}
use Rattle.ex_base.specs.declared.geometry.Geometry.{Geometry}
use Rattle.ex_base.specs.declared.ground.Ground as ground
use Rattle.ex_base.proofs.Rows.{each-append}
use Rattle.ex_base.proofs.Spread.{plain}
use Rattle.ex_base.proofs.Each.{each_as, each_mapped, each_unmapped}
use Rattle.ex_base.proofs.Splices.{length-written}
use Rattle.ex_base.proofs.Geometries.{leaf_some}
use Rattle.trees.specs.declared.rows.Part.{Part}
use Rattle.trees.specs.Damage.{IsSoundEnd, IsSoundWay}
use Rattle.trees.specs.Rows.{row_size, row_bytes, row_shape, AreHalfFull}
use Rattle.trees.proofs.Ways.{way_append, way_fewer, way_past}
use Rattle.trees.specs.Trees.{Units}
use Rattle.trees.specs.Built.{AreSome}
use Rattle.trees.specs.Made.{Extends, Spent, Holds, IsTaken, Took, pages_of, sizes_of, changed}
use Rattle.trees.proofs.Kept.{row_extends, holds_on}
use Rattle.trees.proofs.Laid.{extends_on, spent_on, leaves_kept, leaves_way, row_length, has_left, has_right}
use Rattle.trees.proofs.Over.{bytes_app}
use Rattle.trees.specs.Counted.{Counted}
use Rattle.trees.proofs.Counts.{counted_on}
use Rattle.trees.specs.Grown.{Grew}
use Rattle.tree_insert.specs.Replaced.{IsTouched, AreLeaves}
use Rattle.trees.proofs.Growing.{holds_split, grew_leaves}
use Rattle.trees.proofs.Sizes.{front_le, sizes_sum}
use Rattle.trees.proofs.Sizes.{around_row, front_most}
use Rattle.trees.proofs.Reading.{no_part}
use Rattle.tree_insert.proofs.PlaceLaws.{read_size, size-front}
use Rattle.trees.proofs.RootSteps.{taken_first, taken_second, taken_in}

-- ---- bytes that are written over others, one place at a time

w-below : (b : List ℕ) (p : ℕ) (x : List ℕ) (i : ℕ) → p + length x ≤ length b → i < p → get_or (written b p x) i 0 ≡ get_or b i 0
unfolding repl
w-below b p x i h lt = repl-below b p x i h lt

w-above : (b : List ℕ) (p : ℕ) (x : List ℕ) (i : ℕ) → p + length x ≤ length b → p + length x ≤ i → get_or (written b p x) i 0 ≡ get_or b i 0
unfolding repl
w-above b p x i h le = repl-above b p x i h le

w-inside : (b : List ℕ) (p : ℕ) (x : List ℕ) (i : ℕ) → p + length x ≤ length b → p ≤ i → i < p + length x → get_or (written b p x) i 0 ≡ get_or x (i - p) 0
unfolding repl
w-inside b p x i h le lt = ap (λ k. get_or (repl b p x) k 0) {x = i} {y = p + (i - p)} (omega arith) ∙ repl-inside b p x (i - p) h (omega arith)

-- the item of a leaf among others
in_leaf : (x y z : List ℕ) (k : ℕ) → length x ≤ k → k < length x + length y → get_or (x ++ (y ++ z)) k 0 ≡ get_or y (k - length x) 0
in_leaf x y z k le lt = get_or-append_right x (y ++ z) (length x) k 0 refl le ∙ get_or_append_left y z 0 (k - length x) (omega arith)

-- what of the new bytes stands in a leaf
pub record IsPiece (start size pos n at done cut : ℕ) : Type 0 where
  pub at_is : at ≡ pos - start
  pub done_is : done ≡ start - pos
  pub cut_is : cut ≡ min (size - at) (n - done)
  pub begins : pos < start + size
  pub ends : start < pos + n

piece_at : (x y z given : List ℕ) (pos at done cut : ℕ) → IsPiece (length x) (length y) pos (length given) at done cut → pos + length given ≤ length (x ++ (y ++ z)) → (k : ℕ) → length x ≤ k → k < length x + length y
    → get_or (written (x ++ (y ++ z)) pos given) k 0 ≡ get_or (written y at (take cut (drop done given))) (k - length x) 0
piece_at x y z given pos at done cut h fits k le lt =
    let room : length (x ++ (y ++ z)) ≡ length x + (length y + length z) = omega (arith, length-append x (y ++ z), length-append y z) in
    let len : length (take cut (drop done given)) ≡ cut = length-take-le cut (drop done given) (omega (arith, length-drop done given, h.cut_is, h.done_is, h.ends)) in
    let inside : at + length (take cut (drop done given)) ≤ length y = omega (arith, h.cut_is, h.at_is, h.begins) in
    elim (cases_lt (k - length x) at) [
      | inl below ↦ w-below (x ++ (y ++ z)) pos given k fits (omega (arith, h.at_is)) ∙ in_leaf x y z k le lt ∙ sym (w-below y at (take cut (drop done given)) (k - length x) inside below)
      | inr from ↦ elim (cases_lt (k - length x) (at + cut)) [
        | inl in_cut ↦
            w-inside (x ++ (y ++ z)) pos given k fits (omega (arith, h.at_is)) (omega (arith, h.at_is, h.done_is, h.cut_is, h.ends))
            ∙ ap (λ j. get_or given j 0) {x = k - pos} {y = done + (k - length x - at)} (omega (arith, h.at_is, h.done_is, h.ends))
            ∙ sym (w-inside y at (take cut (drop done given)) (k - length x) inside from (omega arith) ∙ get_or-take cut (drop done given) (k - length x - at) 0 (omega arith) ∙ get_or-drop done given (k - length x - at) 0)
        | inr behind ↦
            w-above (x ++ (y ++ z)) pos given k fits (omega (arith, h.at_is, h.done_is, h.cut_is, h.ends)) ∙ in_leaf x y z k le lt
            ∙ sym (w-above y at (take cut (drop done given)) (k - length x) inside (omega arith))
      ]
    ]

pub piece_more : (x y z given : List ℕ) (pos at done cut : ℕ) → IsPiece (length x) (length y) pos (length given) at done cut → pos + length given ≤ length (x ++ (y ++ z))
    → take (length x + length y) (written (x ++ (y ++ z)) pos given) ≡ take (length x) (written (x ++ (y ++ z)) pos given) ++ written y at (take cut (drop done given))
piece_more x y z given pos at done cut h fits =
    let room : length (x ++ (y ++ z)) ≡ length x + (length y + length z) = omega (arith, length-append x (y ++ z), length-append y z) in
    let whole : length (written (x ++ (y ++ z)) pos given) ≡ length (x ++ (y ++ z)) = length-written (x ++ (y ++ z)) given pos fits in
    let len : length (take cut (drop done given)) ≡ cut = length-take-le cut (drop done given) (omega (arith, length-drop done given, h.cut_is, h.done_is, h.ends)) in
    let part : length (written y at (take cut (drop done given))) ≡ length y = length-written y (take cut (drop done given)) at (omega (arith, h.cut_is, h.at_is, h.begins)) in
    let front : length (take (length x) (written (x ++ (y ++ z)) pos given)) ≡ length x = length-take-le (length x) (written (x ++ (y ++ z)) pos given) (omega arith) in
    let left : length (take (length x + length y) (written (x ++ (y ++ z)) pos given)) ≡ length x + length y = length-take-le (length x + length y) (written (x ++ (y ++ z)) pos given) (omega arith) in
    same_number_lists _ _ (omega (arith, left, front, part, length-append (take (length x) (written (x ++ (y ++ z)) pos given)) (written y at (take cut (drop done given)))))
    (λ k lt. get_or-take (length x + length y) (written (x ++ (y ++ z)) pos given) k 0 (omega arith) ∙ elim (cases_lt k (length x)) [
      | inl before ↦ sym (get_or_append_left (take (length x) (written (x ++ (y ++ z)) pos given)) (written y at (take cut (drop done given))) 0 k (omega arith) ∙ get_or-take (length x) (written (x ++ (y ++ z)) pos given) k 0 before)
      | inr from ↦ piece_at x y z given pos at done cut h fits k from (omega arith)
          ∙ sym (get_or-append_right (take (length x) (written (x ++ (y ++ z)) pos given)) (written y at (take cut (drop done given))) (length x) k 0 front from)
    ])

-- bytes with as many others in their place
pub changed_written : (b : List ℕ) (p cut : ℕ) (x : List ℕ) → cut ≡ length x → changed b p cut x ≡ written b p x
changed_written b p cut x is = ap (λ k. take p b ++ (x ++ drop (p + k) b)) is ∙ sym (append_assoc (take p b) x (drop (p + length x) b))

-- ---- how many leaves hold a range

half_page : (n : ℕ) → IsTrue (is_page_size n) → n ≡ 2 * (n / 2)
half_page n is = grind (arith, nat_tests)

half_leaf : (geo : Geometry) → leaf_bytes geo ≡ 2 * (leaf_bytes geo / 2)
half_leaf geo =
    let page : geo.page_size ≡ 2 * (geo.page_size / 2) = half_page geo.page_size geo.a_page_size in
    let double : leaf_bytes geo ≡ 2 * (geo.seg_len * (geo.page_size / 2)) = ap (λ k. geo.seg_len * k) page ∙ omega arith in
    omega (arith, double)

halves_sum : (full : ℕ) (run : List Part) (j : ℕ) → AreHalfFull full run → j ≤ length run → (full / 2) * j ≤ row_size (take j run)
halves_sum full run zero all le = omega arith
halves_sum full [] (suc j) all le = absurd (omega arith)
halves_sum full (part ∷ run) (suc j) all le = omega (arith, halves_sum full run j all.1 (omega arith), all.0.0)

pub few_leaves : (geo : Geometry) (run : List Part) (pos n : ℕ) → AreLeaves geo 0 run → IsTouched run pos n → length run ≤ replaced_leaves geo n
few_leaves geo [] pos n h touched = omega arith
few_leaves geo (part ∷ []) pos n h touched = omega arith
few_leaves geo (part ∷ next ∷ run) pos n h touched =
    let halves = h.halves refl (omega arith) in
    let half : ℕ = leaf_bytes geo / 2 in
    let inner : (leaf_bytes geo / 2) * length run ≤ row_size (take (length run) (next ∷ run)) = halves_sum (leaf_bytes geo) (next ∷ run) (length run) halves.1 (omega arith) in
    let steps : row_size (take (length (part ∷ next ∷ run) - 1) (part ∷ next ∷ run)) ≡ part.size + row_size (take (length run) (next ∷ run)) =
    ap (λ k. row_size (take k (part ∷ next ∷ run))) {x = length (part ∷ next ∷ run) - 1} {y = suc (length run)} (omega arith) in
    let bound : (leaf_bytes geo / 2) * length run ≤ n = omega (arith, touched.first, touched.last) in
    let double : leaf_bytes geo * length run ≡ 2 * ((leaf_bytes geo / 2) * length run) = ap (λ k. k * length run) (half_leaf geo) ∙ omega arith in
    let least : length run ≤ 2 * n / leaf_bytes geo = le-div (length run) (2 * n) (leaf_bytes geo) (omega (arith, leaf_some geo)) (omega arith) in
    omega arith

-- a leaf that keeps a byte beside an end of the range
leaf_end : (geo : Geometry) (u : Units) (leaf : Part) (start pos n at done cut end : ℕ) → IsPiece start leaf.size pos n at done cut → (end ≡ pos) ⊎ (end ≡ pos + n) → 1 ≤ end → start ≤ end - 1 → (front : ℕ) → start ≡ front
    → ((byte : ℕ) → byte < leaf.size → (byte < at) ⊎ (at + cut ≤ byte) → IsSoundWay geo u (NamesLeaf geo) 0 0 (leaf ∷ []) byte byte) → IsSoundWay geo u (NamesLeaf geo) 0 0 (leaf ∷ []) (end - 1 - front) (end - front)
leaf_end geo u leaf start pos n at done cut end h which some far front front_is ways = elim (cases_lt (end - front) leaf.size) [
  | inr past ↦ way_past geo u (NamesLeaf geo) 0 0 (leaf ∷ []) (end - 1 - front) (end - front) (omega arith)
  | inl inside ↦ elim which [
    | inl is ↦ way_fewer geo u (NamesLeaf geo) 0 0 (leaf ∷ []) (end - 1 - front) (end - 1 - front) (end - 1 - front) (end - front) refl (omega arith) (omega arith)
        (ways (end - 1 - front) (omega arith) (inl (omega (arith, h.at_is))))
    | inr is ↦ way_fewer geo u (NamesLeaf geo) 0 0 (leaf ∷ []) (end - front) (end - front) (end - 1 - front) (end - front) refl (omega arith) (omega arith)
        (ways (end - front) (omega arith) (inr (omega (arith, h.at_is, h.done_is, h.cut_is))))
  ]
]

-- ---- the loop over the leaves

module _ {S : Type 0} (g : ground.Ghosts S) where
  pub took_on : (a b c : S) (xs ys : List ℕ) → Extends g a b → Extends g b c → Took g a b xs → Took g b c ys → Took g a c (xs ++ ys)
  took_on a b c xs ys x y first second = record {
    each = each-append (IsTaken g a c) xs ys (each_as (IsTaken g a b) (IsTaken g a c) xs (λ p h. taken_first g a b c p y h) first.each) (each_as (IsTaken g b c) (IsTaken g a c) ys (λ p h. taken_second g a b c p x h) second.each);
    all = λ p h. elim (taken_in g a b c p h) [
      | inl t ↦ has_left xs ys p (first.all p t)
      | inr t ↦ has_right xs ys p (second.all p t)
    ];
  }

  pub record ReplacedSoFar (old now : S) (run : List Part) (pos : ℕ) (given : List ℕ) (i start : ℕ) (made : List Part) : Type 0 where
    pub extends : Extends g old now
    pub start_is : start ≡ row_size (take i run)
    pub sizes : sizes_of made ≡ sizes_of (take i run)
    pub named : AllByRecursion (λ (part : Part). NamesLeaf (g.geometry old) part.page.0) made
    pub took : Took g old now (pages_of made)
    pub spent : Spent g old now i 0
    pub counts : Counted g old now
    pub ends : g.tells old → (end : ℕ) → (end ≡ pos) ⊎ (end ≡ pos + length given) → IsSoundEnd (g.geometry old) (g.unit old) 0 0 (take i run) end
    pub bytes : g.tells old → Holds g old 0 run → row_bytes (g.unit now) 0 made ≡ take start (written (row_bytes (g.unit old) 0 run) pos given)

  pub replaced_more : (old now new : S) (run : List Part) (pos : ℕ) (given : List ℕ) (i start at done cut : ℕ) (made after fresh : List Part) → g.ready old → i < length run → IsTouched run pos (length given)
      → ReplacedSoFar old now run pos given i start made → IsPiece start (get_or run i no_part).size pos (length given) at done cut
      → Extends g now new → Spent g now new 1 0 → sizes_of fresh ≡ (get_or run i no_part).size ∷ [] → AllByRecursion (λ (part : Part). NamesLeaf (g.geometry now) part.page.0) fresh → Took g now new (pages_of fresh) → Counted g now new
      → (g.tells now → Holds g now 0 (get_or run i no_part ∷ []) → row_bytes (g.unit new) 0 fresh ≡ changed (row_bytes (g.unit now) 0 (get_or run i no_part ∷ [])) at cut (take cut (drop done given)))
      → (g.tells now → (byte : ℕ) → byte < row_size (get_or run i no_part ∷ []) → (byte < at) ⊎ (at + cut ≤ byte) → IsSoundWay (g.geometry now) (g.unit now) (NamesLeaf (g.geometry now)) 0 0 (get_or run i no_part ∷ []) byte byte)
      → after ≡ made ++ fresh → ReplacedSoFar old new run pos given (i + 1) (start + (get_or run i no_part).size) after
  replaced_more old now new run pos given i start at done cut made after fresh ready lt touched h piece y spent sizes named took counts bytes ways after_is =
      let part : Part = get_or run i no_part in
      let up : take (i + 1) run ≡ take i run ++ (get_or run i no_part ∷ []) = take_more run i no_part lt in
      record {
        extends = extends_on g old now new h.extends y;
        counts = counted_on g old now new h.extends y h.counts counts;
        start_is = omega (arith, h.start_is, size-front run i lt, read_size run i lt);
        sizes = ap sizes_of after_is ∙ map-append (λ (q : Part). q.size) made fresh ∙ ap (λ xs. xs ++ sizes_of fresh) h.sizes ∙ ap (λ xs. sizes_of (take i run) ++ xs) sizes
            ∙ sym (ap sizes_of up ∙ map-append (λ (q : Part). q.size) (take i run) (get_or run i no_part ∷ []));
        named = subst (AllByRecursion (λ (q : Part). NamesLeaf (g.geometry old) q.page.0)) (sym after_is)
            (each-append _ made fresh h.named (subst (λ geo. AllByRecursion (λ (q : Part). NamesLeaf geo q.page.0) fresh) (g.leads_geometry old now h.extends.leads) named));
        took = subst (Took g old new) (sym (ap pages_of after_is ∙ map-append (λ (q : Part). q.page.0) made fresh)) (took_on old now new (pages_of made) (pages_of fresh) h.extends y h.took took);
        spent = spent_on g old now new i 0 1 0 h.spent spent;
        ends = λ told end which some.
            subst (λ r. IsSoundWay (g.geometry old) (g.unit old) (NamesLeaf (g.geometry old)) 0 0 r (end - 1) end) (sym up)
            (way_append (g.geometry old) (g.unit old) (NamesLeaf (g.geometry old)) 0 0 (take i run) (get_or run i no_part ∷ []) (end - 1) end (h.ends told end which some)
            (λ far. leaf_end (g.geometry old) (g.unit old) (get_or run i no_part) start pos (length given) at done cut end piece which some (omega (arith, h.start_is, far)) (row_size (take i run)) h.start_is
            (λ byte inside kept. leaves_way g old now (get_or run i no_part ∷ []) byte byte h.extends.leads (λ told_now. ways told_now byte (omega (arith, inside)) kept) told)));
        bytes = λ told holds.
            let told_now = g.leads_told old now h.extends.leads told in
            let split = around_row run i lt in
            let held : Holds g old 0 (take i run ++ ((get_or run i no_part ∷ []) ++ drop (i + 1) run)) = subst (Holds g old 0) split holds in
            let first_parts = holds_split g old 0 (take i run) ((get_or run i no_part ∷ []) ++ drop (i + 1) run) held in
            let parts = holds_split g old 0 (get_or run i no_part ∷ []) (drop (i + 1) run) first_parts.1 in
            let same = row_extends g old now 0 (get_or run i no_part ∷ []) h.extends parts.0 in
            let whole = g.whole old ready told in
            let x : List ℕ = row_bytes (g.unit old) 0 (take i run) in
            let x_len = row_length (g.geometry old) (g.unit old) 0 (take i run) whole first_parts.0.trees in
            let y_len = row_length (g.geometry old) (g.unit old) 0 (get_or run i no_part ∷ []) whole parts.0.trees in
            let run_len = row_length (g.geometry old) (g.unit old) 0 run whole holds.trees in
            let run_is : row_bytes (g.unit old) 0 run ≡ row_bytes (g.unit old) 0 (take i run) ++ (row_bytes (g.unit old) 0 (get_or run i no_part ∷ []) ++ row_bytes (g.unit old) 0 (drop (i + 1) run)) =
            ap (row_bytes (g.unit old) 0) split ∙ bytes_app (g.unit old) 0 (take i run) ((get_or run i no_part ∷ []) ++ drop (i + 1) run)
            ∙ ap (λ xs. row_bytes (g.unit old) 0 (take i run) ++ xs) (bytes_app (g.unit old) 0 (get_or run i no_part ∷ []) (drop (i + 1) run)) in
            let here : IsPiece (length (row_bytes (g.unit old) 0 (take i run))) (length (row_bytes (g.unit old) 0 (get_or run i no_part ∷ []))) pos (length given) at done cut =
            subst (λ k. IsPiece k (length (row_bytes (g.unit old) 0 (get_or run i no_part ∷ []))) pos (length given) at done cut) {x = start} (omega (arith, h.start_is)) (subst (λ k. IsPiece start k pos (length given) at done cut) {x = (get_or run i no_part).size} (omega arith) piece) in
            let more = piece_more (row_bytes (g.unit old) 0 (take i run)) (row_bytes (g.unit old) 0 (get_or run i no_part ∷ [])) (row_bytes (g.unit old) 0 (drop (i + 1) run)) given pos at done cut here (omega (arith, ap length run_is, touched.all)) in
            let cut_len : cut ≡ length (take cut (drop done given)) = sym (length-take-le cut (drop done given) (omega (arith, length-drop done given, piece.cut_is, piece.done_is, piece.ends))) in
            let fresh_is : row_bytes (g.unit new) 0 fresh ≡ written (row_bytes (g.unit old) 0 (get_or run i no_part ∷ [])) at (take cut (drop done given)) =
            bytes told_now (holds_on g old now 0 (get_or run i no_part ∷ []) h.extends parts.0) ∙ ap (λ xs. changed xs at cut (take cut (drop done given))) same.bytes ∙ changed_written (row_bytes (g.unit old) 0 (get_or run i no_part ∷ [])) at cut (take cut (drop done given)) cut_len in
            let made_same : row_bytes (g.unit new) 0 made ≡ row_bytes (g.unit now) 0 made = leaves_kept (g.unit now) (g.unit new) (g.used now) made y.units (each_as (IsTaken g old now) (λ p. g.used now p ≡ true) (pages_of made) (λ p t. t.1) h.took.each) in
            ap (row_bytes (g.unit new) 0) after_is ∙ bytes_app (g.unit new) 0 made fresh ∙ ap (λ xs. xs ++ row_bytes (g.unit new) 0 fresh) (made_same ∙ h.bytes told holds) ∙ ap (λ xs. take start (written (row_bytes (g.unit old) 0 run) pos given) ++ xs) fresh_is
            ∙ ap (λ k. take k (written (row_bytes (g.unit old) 0 run) pos given) ++ written (row_bytes (g.unit old) 0 (get_or run i no_part ∷ [])) at (take cut (drop done given))) {x = start} {y = length (row_bytes (g.unit old) 0 (take i run))} (omega (arith, h.start_is))
            ∙ ap (λ b. take (length (row_bytes (g.unit old) 0 (take i run))) (written b pos given) ++ written (row_bytes (g.unit old) 0 (get_or run i no_part ∷ [])) at (take cut (drop done given))) run_is
            ∙ sym more ∙ ap (λ b. take (length (row_bytes (g.unit old) 0 (take i run)) + length (row_bytes (g.unit old) 0 (get_or run i no_part ∷ []))) (written b pos given)) (sym run_is)
            ∙ ap (λ k. take k (written (row_bytes (g.unit old) 0 run) pos given)) {x = length (row_bytes (g.unit old) 0 (take i run)) + length (row_bytes (g.unit old) 0 (get_or run i no_part ∷ []))} {y = start + (get_or run i no_part).size} (omega (arith, h.start_is));
      }

  fit_sizes : (geo : Geometry) (run : List Part) → AreSome run → AllByRecursion (λ (part : Part). part.size ≤ leaf_bytes geo) run → AllByRecursion (λ n. (1 ≤ n) × (n ≤ leaf_bytes geo)) (sizes_of run)
  fit_sizes geo [] some fit = tt
  fit_sizes geo (part ∷ run) some fit = ((some.0, fit.0), fit_sizes geo run some.1 fit.1)

  pub replaced_all : (old now : S) (run : List Part) (pos : ℕ) (given : List ℕ) (i start : ℕ) (made : List Part) → g.ready old → i ≡ length run → AreSome run → AreLeaves (g.geometry old) 0 run → IsTouched run pos (length given) → ReplacedSoFar old now run pos given i start made
      → g.tells old → Holds g old 0 run → Grew g old now 0 run made (written (row_bytes (g.unit old) 0 run) pos given) (row_shape (g.unit old) 0 run)
  replaced_all old now run pos given i start made ready end some leaves touched h told holds =
      let all : take i run ≡ run = take_all i run (omega arith) in
      let len = row_length (g.geometry old) (g.unit old) 0 run (g.whole old ready told) holds.trees in
      let whole : length (written (row_bytes (g.unit old) 0 run) pos given) ≡ length (row_bytes (g.unit old) 0 run) = length-written (row_bytes (g.unit old) 0 run) given pos (omega (arith, touched.all)) in
      grew_leaves g old now run made (sizes_of run) (written (row_bytes (g.unit old) 0 run) pos given) h.extends (h.sizes ∙ ap sizes_of all) (fit_sizes (g.geometry old) run some (leaves.fit refl)) h.named h.took h.counts
      (h.bytes told holds ∙ take_all start (written (row_bytes (g.unit old) 0 run) pos given) (omega (arith, h.start_is, ap row_size all)))

-- ---- the leaf at an index

pub record LeafHere (run : List Part) (pos n i start : ℕ) : Type 0 where
  pub begins : pos < start + (get_or run i no_part).size
  pub ends : start < pos + n
  pub fits : start + (get_or run i no_part).size ≤ row_size run

pub leaf_here : (run : List Part) (pos n i start : ℕ) → i < length run → IsTouched run pos n → start ≡ row_size (take i run) → LeafHere run pos n i start
leaf_here run pos n i start lt touched start_is = record {
  begins = omega (arith, touched.first, front_le run 1 (i + 1) (omega arith), size-front run i lt, read_size run i lt);
  ends = omega (arith, touched.last, front_le run i (length run - 1) (omega arith));
  fits = omega (arith, size-front run i lt, read_size run i lt, front_most run (i + 1));
}

pub piece_here : (run : List Part) (pos n i start at done cut : ℕ) → LeafHere run pos n i start → at ≡ pos - start → done ≡ start - pos → cut ≡ min ((get_or run i no_part).size - at) (n - done) → IsPiece start (get_or run i no_part).size pos n at done cut
piece_here run pos n i start at done cut h at_is done_is cut_is = record { at_is = at_is; done_is = done_is; cut_is = cut_is; begins = h.begins; ends = h.ends }

pub same_sizes : (run made : List Part) (i : ℕ) → i ≡ length run → sizes_of made ≡ sizes_of (take i run) → sizes_of made ≡ sizes_of run
same_sizes run made i end is = is ∙ ap sizes_of (take_all i run (omega arith))

pub same_sum : (run made : List Part) → sizes_of made ≡ sizes_of run → row_size made ≡ row_size run
same_sum run made is = omega (arith, sizes_sum made, sizes_sum run, ap (sum_of plain) is)

pub same_some : (run made : List Part) → sizes_of made ≡ sizes_of run → AreSome run → AreSome made
same_some run made is some = each_unmapped (λ k. 1 ≤ k) (λ (part : Part). part.size) made (subst (AllByRecursion (λ k. 1 ≤ k)) (sym is) (each_mapped (λ k. 1 ≤ k) (λ (part : Part). part.size) run some))

pub same_count : (run made : List Part) → sizes_of made ≡ sizes_of run → length made ≡ length run
same_count run made is = omega (arith, ap length is, length-map made (λ (q : Part). q.size), length-map run (λ (q : Part). q.size))
