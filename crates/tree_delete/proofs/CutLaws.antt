-- What a cut takes from a row.
use Rattle.std.proofs.Common.{◌≡◌, ◌⊎◌, ℕ, zero, suc, ◌+◌, ◌-◌, ◌<◌, ◌≤◌, List, [], ◌∷◌, ◌++◌, length, take, drop, get_or, sym, ap, subst, ◌∙◌, arith, append_assoc, take_all, inl, inr}
use Rattle.std.specs.List.{AllByRecursion}
use Rattle.std.proofs.lemmas.Bool.{cases_lt}
use Rattle.std.proofs.lemmas.List.{length-append, take-append-le, drop-append-le, take-append-drop, drop-drop, append-nil}
use Rattle.std.proofs.Math.Seq.{take-append-add, drop-append-add}
use Rattle.ex_base.specs.Edits.{deleted}
use Rattle.ex_base.specs.declared.geometry.Geometry.{Geometry}
use Rattle.ex_base.proofs.Rows.{each-append, sum_of-append}
use Rattle.ex_base.proofs.Each.{split_each}
use Rattle.trees.specs.Trees.{Units}
use Rattle.trees.proofs.TreeLaws.{AreWhole}
use Rattle.trees.specs.declared.rows.Part.{Part}
use Rattle.trees.specs.Rows.{row_size, row_bytes, row_units, AreTrees}
use Rattle.trees.specs.Made.{Has}
use Rattle.trees.proofs.Laid.{row_length, has_left, has_right}
use Rattle.trees.proofs.Over.{bytes_app, has_split, units_app}
use Rattle.trees.proofs.Reading.{no_part}
use Rattle.trees.proofs.Sizes.{size-front, front_le, front_most, piece_size, rest_most}
use Rattle.tree_delete.specs.declared.cut.Cut.{Cut}
use Rattle.tree_delete.specs.Places.{IsPlace}
use Rattle.tree_delete.specs.Cuts.{all_of, cut_bytes, IsCutOf}

abbrev size_of : Part → ℕ
size_of part = part.size

pub size_app : (xs ys : List Part) → row_size (xs ++ ys) ≡ row_size xs + row_size ys
size_app xs ys = sum_of-append size_of xs ys

-- ---- places

pub place_more : (row : List Part) (pos index at : ℕ) → index < length row → (get_or row index no_part).size ≤ at → row_size (take index row) + at ≡ pos → row_size (take (index + 1) row) + (at - (get_or row index no_part).size) ≡ pos
place_more row pos index at lt le start = omega (arith, size-front row index lt)

pub place_here : (row : List Part) (pos index at : ℕ) → index < length row → at < (get_or row index no_part).size → row_size (take index row) + at ≡ pos → IsPlace row pos index at
place_here row pos index at lt less start = record {
  inside = omega arith;
  start = start;
  next = λ _. omega (arith, size-front row index lt);
}

-- ---- pieces of a row

next_piece : (row : List Part) (i j : ℕ) → i ≤ j → drop i row ≡ take (j - i) (drop i row) ++ drop j row
next_piece row i j le =
    sym (ap (λ r. take (j - i) (drop i row) ++ r) (ap (λ k. drop k row) {x = j} {y = i + (j - i)} (omega arith) ∙ sym (drop-drop (j - i) i row)) ∙ take-append-drop (j - i) (drop i row))

five_pieces : (row : List Part) (i j k m : ℕ) → i ≤ j → j ≤ k → k ≤ m
    → row ≡ take i row ++ ((take (j - i) (drop i row) ++ (take (k - j) (drop j row) ++ take (m - k) (drop k row))) ++ drop m row)
five_pieces row i j k m ij jk km =
    let lead : List Part = take (j - i) (drop i row) in
    let gone : List Part = take (k - j) (drop j row) in
    let tail : List Part = take (m - k) (drop k row) in
    sym (take-append-drop i row) ∙ ap (λ r. take i row ++ r) (
    next_piece row i j ij ∙ ap (λ r. take (j - i) (drop i row) ++ r) (next_piece row j k jk ∙ ap (λ r. take (k - j) (drop j row) ++ r) (next_piece row k m km))
    ∙ ap (λ r. take (j - i) (drop i row) ++ r) (sym (append_assoc (take (k - j) (drop j row)) (take (m - k) (drop k row)) (drop m row)))
    ∙ sym (append_assoc (take (j - i) (drop i row)) (take (k - j) (drop j row) ++ take (m - k) (drop k row)) (drop m row)))

piece_length : (row : List Part) (i j : ℕ) → i ≤ j → length (take (j - i) (drop i row)) ≤ j - i
piece_length row i j le = length-take-most (j - i) (drop i row)
  where
    length-take-most : (n : ℕ) (xs : List Part) → length (take n xs) ≤ n
    length-take-most zero xs = omega arith
    length-take-most (suc n) [] = omega arith
    length-take-most (suc n) (x ∷ xs) = omega (arith, length-take-most n xs)

-- how the two ends of a range stand
record AreEnds (row : List Part) (at len first inside last over lead_end right_start : ℕ) : Type 0 where
  lead_first : first ≤ lead_end
  lead_one : lead_end ≤ first + 1
  order : lead_end ≤ right_start
  last_first : last ≤ right_start
  last_one : right_start ≤ last + 1
  lead_at : at ≤ row_size (take lead_end row)
  lead_in : inside ≤ row_size (take lead_end row) - row_size (take first row)
  right_at : at + len ≤ row_size (take right_start row)
  right_in : right_start ≤ length row

ends : (row : List Part) (at len first inside last over lead_end right_start : ℕ) → IsPlace row at first inside → IsPlace row (at + len) last over → at + len ≤ row_size row
    → (inside ≡ 0 → lead_end ≡ first) → (1 ≤ inside → lead_end ≡ first + 1) → (over ≡ 0 → right_start ≡ last) → (1 ≤ over → right_start ≡ last + 1) → AreEnds row at len first inside last over lead_end right_start
ends row at len first inside last over lead_end right_start p q fits no_lead lead no_tail tail =
    let s_first = p.start in
    let s_last = q.start in
    let some_first : 1 ≤ inside → first < length row = λ one. elim (cases_lt first (length row)) [
      | inl lt ↦ lt
      | inr ge ↦ absurd (omega (arith, p.start, ap row_size (take_all first row ge)))
    ] in
    let some_last : 1 ≤ over → last < length row = λ one. elim (cases_lt last (length row)) [
      | inl lt ↦ lt
      | inr ge ↦ absurd (omega (arith, q.start, ap row_size (take_all last row ge)))
    ] in
    let order : first ≤ last = elim (cases_lt last first) [
      | inl lt ↦ absurd (omega (arith, q.next (omega (arith, p.inside)), front_le row (last + 1) first (omega arith), p.start))
      | inr le ↦ le
    ] in
    let far : 1 ≤ inside → over ≡ 0 → first + 1 ≤ last = λ one none. elim (cases_lt first last) [
      | inl lt ↦ omega arith
      | inr ge ↦
          let same : last ≡ first = omega arith in
          absurd (omega (arith, p.start, q.start, ap (λ i. row_size (take i row)) same))
    ] in
    let next_first : 1 ≤ inside → at < row_size (take (first + 1) row) = λ one. p.next (some_first one) in
    let next_last : 1 ≤ over → at + len < row_size (take (last + 1) row) = λ one. q.next (some_last one) in
    elim (cases_lt 0 inside) [
      | inl one ↦
          let lead_is : lead_end ≡ first + 1 = lead one in
          let lead_size : row_size (take lead_end row) ≡ row_size (take (first + 1) row) = ap (λ i. row_size (take i row)) lead_is in
          elim (cases_lt 0 over) [
            | inl more ↦
                let right_is : right_start ≡ last + 1 = tail more in
                let right_size : row_size (take right_start row) ≡ row_size (take (last + 1) row) = ap (λ i. row_size (take i row)) right_is in
                record {
                  lead_first = omega arith;
                  lead_one = omega arith;
                  order = omega arith;
                  last_first = omega arith;
                  last_one = omega arith;
                  lead_at = omega (arith, next_first one);
                  lead_in = omega (arith, next_first one, p.start);
                  right_at = omega (arith, next_last more);
                  right_in = omega (arith, some_last more);
                }
            | inr none ↦
                let over_is : over ≡ 0 = omega arith in
                let right_is : right_start ≡ last = no_tail over_is in
                let right_size : row_size (take right_start row) ≡ row_size (take last row) = ap (λ i. row_size (take i row)) right_is in
                record {
                  lead_first = omega arith;
                  lead_one = omega arith;
                  order = omega (arith, far one over_is);
                  last_first = omega arith;
                  last_one = omega arith;
                  lead_at = omega (arith, next_first one);
                  lead_in = omega (arith, next_first one, p.start);
                  right_at = omega (arith, q.start);
                  right_in = omega (arith, q.inside);
                }
          ]
      | inr none ↦
          let inside_is : inside ≡ 0 = omega arith in
          let lead_is : lead_end ≡ first = no_lead inside_is in
          let lead_size : row_size (take lead_end row) ≡ row_size (take first row) = ap (λ i. row_size (take i row)) lead_is in
          elim (cases_lt 0 over) [
            | inl more ↦
                let right_is : right_start ≡ last + 1 = tail more in
                let right_size : row_size (take right_start row) ≡ row_size (take (last + 1) row) = ap (λ i. row_size (take i row)) right_is in
                record {
                  lead_first = omega arith;
                  lead_one = omega arith;
                  order = omega arith;
                  last_first = omega arith;
                  last_one = omega arith;
                  lead_at = omega (arith, p.start);
                  lead_in = omega arith;
                  right_at = omega (arith, next_last more);
                  right_in = omega (arith, some_last more);
                }
            | inr no_over ↦
                let right_is : right_start ≡ last = no_tail (omega arith) in
                let right_size : row_size (take right_start row) ≡ row_size (take last row) = ap (λ i. row_size (take i row)) right_is in
                record {
                  lead_first = omega arith;
                  lead_one = omega arith;
                  order = omega arith;
                  last_first = omega arith;
                  last_one = omega arith;
                  lead_at = omega (arith, p.start);
                  lead_in = omega arith;
                  right_at = omega (arith, q.start);
                  right_in = omega (arith, q.inside);
                }
          ]
    ]

nothing_gone : (row : List Part) (i j : ℕ) → j ≤ i → take (j - i) (drop i row) ≡ []
nothing_gone row i j le = ap (λ n. take n (drop i row)) (let e : j - i ≡ 0 = omega arith in e)

pub order_is : (row : List Part) (at len first inside last over lead_end right_start tail_start : ℕ) → IsPlace row at first inside → IsPlace row (at + len) last over → at + len ≤ row_size row
    → (inside ≡ 0 → lead_end ≡ first) → (1 ≤ inside → lead_end ≡ first + 1) → (over ≡ 0 → right_start ≡ last) → (1 ≤ over → right_start ≡ last + 1) → (tail_start ≡ lead_end) ⊎ (tail_start ≡ last) → tail_start ≤ right_start
order_is row at len first inside last over lead_end right_start tail_start p q fits no_lead lead no_tail tail either =
    let e = ends row at len first inside last over lead_end right_start p q fits no_lead lead no_tail tail in
    elim either [
      | inl x ↦ omega (arith, e.order)
      | inr x ↦ omega (arith, e.last_first)
    ]

pub right_fits : (row : List Part) (at len first inside last over lead_end right_start : ℕ) → IsPlace row at first inside → IsPlace row (at + len) last over → at + len ≤ row_size row
    → (inside ≡ 0 → lead_end ≡ first) → (1 ≤ inside → lead_end ≡ first + 1) → (over ≡ 0 → right_start ≡ last) → (1 ≤ over → right_start ≡ last + 1) → right_start ≤ length row
right_fits row at len first inside last over lead_end right_start p q fits no_lead lead no_tail tail =
    (ends row at len first inside last over lead_end right_start p q fits no_lead lead no_tail tail).right_in

pub gone_fits : (row : List Part) (at len first inside last over lead_end right_start tail_start : ℕ) → IsPlace row at first inside → IsPlace row (at + len) last over → at + len ≤ row_size row
    → (inside ≡ 0 → lead_end ≡ first) → (1 ≤ inside → lead_end ≡ first + 1) → (over ≡ 0 → right_start ≡ last) → (1 ≤ over → right_start ≡ last + 1) → lead_end ≤ tail_start → (tail_start ≡ lead_end) ⊎ (tail_start ≡ last)
    → row_size (take (tail_start - lead_end) (drop lead_end row)) ≤ len
gone_fits row at len first inside last over lead_end right_start tail_start p q fits no_lead lead no_tail tail tail_lead either =
    let e = ends row at len first inside last over lead_end right_start p q fits no_lead lead no_tail tail in
    let gone_size = piece_size row lead_end tail_start tail_lead in
    let s_last = q.start in
    elim either [
      | inl x ↦ omega (arith, ap (λ i. row_size (take i row)) x)
      | inr x ↦ omega (arith, ap (λ i. row_size (take i row)) x, e.lead_at)
    ]

pub cut_is : (row : List Part) (at len first inside last over lead_end right_start tail_start : ℕ) (cut : Cut) → IsPlace row at first inside → IsPlace row (at + len) last over → at + len ≤ row_size row
    → (inside ≡ 0 → lead_end ≡ first) → (1 ≤ inside → lead_end ≡ first + 1) → (over ≡ 0 → right_start ≡ last) → (1 ≤ over → right_start ≡ last + 1)
    → lead_end ≤ tail_start → last ≤ tail_start → (tail_start ≡ lead_end) ⊎ (tail_start ≡ last)
    → cut.left.items ≡ take first row → cut.run.items ≡ take (lead_end - first) (drop first row) ++ take (right_start - tail_start) (drop tail_start row) → cut.right.items ≡ drop right_start row
    → cut.at ≡ inside → cut.len ≡ len - row_size (take (tail_start - lead_end) (drop lead_end row)) → IsCutOf row at len cut
cut_is row at len first inside last over lead_end right_start tail_start cut p q fits no_lead lead no_tail tail tail_lead tail_last either left_is run_is right_is at_is len_is =
    let e = ends row at len first inside last over lead_end right_start p q fits no_lead lead no_tail tail in
    let km : tail_start ≤ right_start = elim either [
      | inl x ↦ omega (arith, e.order)
      | inr x ↦ omega (arith, e.last_first)
    ] in
    let lead_size = piece_size row first lead_end e.lead_first in
    let gone_size = piece_size row lead_end tail_start tail_lead in
    let tail_size = piece_size row tail_start right_start km in
    let s_last = q.start in
    let s_first = p.start in
    let most = gone_fits row at len first inside last over lead_end right_start tail_start p q fits no_lead lead no_tail tail tail_lead either in
    let run_size : row_size cut.run.items ≡ row_size (take (lead_end - first) (drop first row)) + row_size (take (right_start - tail_start) (drop tail_start row)) = ap row_size run_is ∙ size_app _ _ in
    record {
      lead = take (lead_end - first) (drop first row);
      gone = take (tail_start - lead_end) (drop lead_end row);
      tail = take (right_start - tail_start) (drop tail_start row);
      whole = five_pieces row first lead_end tail_start right_start e.lead_first tail_lead km
          ∙ ap (λ (xs : List Part). xs ++ ((take (lead_end - first) (drop first row) ++ (take (tail_start - lead_end) (drop lead_end row) ++ take (right_start - tail_start) (drop tail_start row))) ++ drop right_start row)) (sym left_is)
          ∙ ap (λ (xs : List Part). cut.left.items ++ ((take (lead_end - first) (drop first row) ++ (take (tail_start - lead_end) (drop lead_end row) ++ take (right_start - tail_start) (drop tail_start row))) ++ xs)) (sym right_is);
      run = run_is;
      start = omega (arith, ap row_size left_is);
      less = omega arith;
      inside = omega (arith, e.right_at);
      through = elim either [
        | inl x ↦ inl (nothing_gone row lead_end tail_start (omega arith))
        | inr x ↦ elim (cases_lt lead_end tail_start) [
          | inl lt ↦ inr (omega (arith, e.lead_in), omega (arith, ap (λ i. row_size (take i row)) x))
          | inr ge ↦ inl (nothing_gone row lead_end tail_start ge)
        ]
      ];
      few = omega (arith, ap length run_is, length-append (take (lead_end - first) (drop first row)) (take (right_start - tail_start) (drop tail_start row)), piece_length row first lead_end e.lead_first, piece_length row tail_start right_start km, e.lead_one, e.last_one);
    }

pub piece_most : (row : List Part) (i j : ℕ) → row_size (take (j - i) (drop i row)) ≤ row_size row
piece_most row i j = omega (arith, front_most (drop i row) (j - i), rest_most row i)

pub no_more : (xs : List Part) → xs ++ ([] ++ []) ≡ xs
no_more xs = append-nil xs

pub bytes_more : (row : List Part) (i bytes : ℕ) → i < length row → bytes ≡ row_size (take i row) → bytes + (get_or row i no_part).size ≡ row_size (take (i + 1) row)
bytes_more row i bytes lt is = omega (arith, size-front row i lt)

-- ---- bytes

pub deleted_between : (left run right : List ℕ) (at n : ℕ) → at + n ≤ length run → deleted (left ++ (run ++ right)) (length left + at) n ≡ left ++ (deleted run at n ++ right)
deleted_between left run right at n fits =
    let front : take (length left + at) (left ++ (run ++ right)) ≡ left ++ take at run = take-append-add left (run ++ right) at ∙ ap (λ xs. left ++ xs) (take-append-le at run right (omega arith)) in
    let back : drop (length left + at + n) (left ++ (run ++ right)) ≡ drop (at + n) run ++ right =
    ap (λ k. drop k (left ++ (run ++ right))) {x = length left + at + n} {y = length left + (at + n)} (omega arith) ∙ drop-append-add left (run ++ right) (at + n) ∙ drop-append-le (at + n) run right fits in
    ap (λ xs. xs ++ drop (length left + at + n) (left ++ (run ++ right))) front ∙ ap (λ xs. (left ++ take at run) ++ xs) back
    ∙ append_assoc left (take at run) (drop (at + n) run ++ right) ∙ ap (λ xs. left ++ xs) (sym (append_assoc (take at run) (drop (at + n) run) right))

deleted_gone : (lead gone tail : List ℕ) (at n : ℕ) → at ≤ length lead → length lead ≤ at + n → deleted (lead ++ (gone ++ tail)) at (n + length gone) ≡ deleted (lead ++ tail) at n
deleted_gone lead gone tail at n front reach =
    let first : take at (lead ++ (gone ++ tail)) ≡ take at lead = take-append-le at lead (gone ++ tail) front in
    let other : take at (lead ++ tail) ≡ take at lead = take-append-le at lead tail front in
    let rest : drop (at + (n + length gone)) (lead ++ (gone ++ tail)) ≡ drop (at + n - length lead) tail =
    ap (λ k. drop k (lead ++ (gone ++ tail))) {x = at + (n + length gone)} {y = length lead + (length gone + (at + n - length lead))} (omega arith)
    ∙ drop-append-add lead (gone ++ tail) (length gone + (at + n - length lead)) ∙ drop-append-add gone tail (at + n - length lead) in
    let same : drop (at + n) (lead ++ tail) ≡ drop (at + n - length lead) tail =
    ap (λ k. drop k (lead ++ tail)) {x = at + n} {y = length lead + (at + n - length lead)} (omega arith) ∙ drop-append-add lead tail (at + n - length lead) in
    ap (λ xs. xs ++ drop (at + (n + length gone)) (lead ++ (gone ++ tail))) (first ∙ sym other) ∙ ap (λ xs. take at (lead ++ tail) ++ xs) (rest ∙ sym same)

-- ---- what holds of the row holds of the cut

pub each_cut : (P : Part → Type 0) (row : List Part) (at len : ℕ) (cut : Cut) → IsCutOf row at len cut → AllByRecursion P row → AllByRecursion P (all_of cut)
each_cut P row at len cut h all =
    let parts = split_each P cut.left.items ((h.lead ++ (h.gone ++ h.tail)) ++ cut.right.items) (subst (AllByRecursion P) h.whole all) in
    let mids = split_each P (h.lead ++ (h.gone ++ h.tail)) cut.right.items parts.1 in
    let leads = split_each P h.lead (h.gone ++ h.tail) mids.0 in
    let tails = split_each P h.gone h.tail leads.1 in
    each-append P cut.left.items (cut.run.items ++ cut.right.items) parts.0
    (each-append P cut.run.items cut.right.items (subst (AllByRecursion P) (sym h.run) (each-append P h.lead h.tail leads.0 tails.1)) mids.1)

pub size_cut : (row : List Part) (at len : ℕ) (cut : Cut) → IsCutOf row at len cut → row_size (all_of cut) + len ≡ row_size row + cut.len
size_cut row at len cut h =
    omega (
      arith,
      ap row_size h.whole,
      size_app cut.left.items ((h.lead ++ (h.gone ++ h.tail)) ++ cut.right.items),
      size_app (h.lead ++ (h.gone ++ h.tail)) cut.right.items,
      size_app h.lead (h.gone ++ h.tail),
      size_app h.gone h.tail,
      size_app cut.left.items (cut.run.items ++ cut.right.items),
      size_app cut.run.items cut.right.items,
      ap row_size h.run,
      size_app h.lead h.tail,
      h.less,
    )

pub length_cut : (row : List Part) (at len : ℕ) (cut : Cut) → IsCutOf row at len cut → length (all_of cut) ≤ length row
length_cut row at len cut h =
    omega (
      arith,
      ap length h.whole,
      length-append cut.left.items ((h.lead ++ (h.gone ++ h.tail)) ++ cut.right.items),
      length-append (h.lead ++ (h.gone ++ h.tail)) cut.right.items,
      length-append h.lead (h.gone ++ h.tail),
      length-append h.gone h.tail,
      length-append cut.left.items (cut.run.items ++ cut.right.items),
      length-append cut.run.items cut.right.items,
      ap length h.run,
      length-append h.lead h.tail,
    )

-- the units of a row of two parts
pub in_either : (u : Units) (l : ℕ) (xs ys : List Part) (p : ℕ) → Has (row_units u l (xs ++ ys)) p → Has (row_units u l xs) p ⊎ Has (row_units u l ys) p
in_either u l xs ys p h = has_split (row_units u l xs) (row_units u l ys) p (subst (λ us. Has us p) (units_app u l xs ys) h)

pub in_first : (u : Units) (l : ℕ) (xs ys : List Part) (p : ℕ) → Has (row_units u l xs) p → Has (row_units u l (xs ++ ys)) p
in_first u l xs ys p h = subst (λ us. Has us p) (sym (units_app u l xs ys)) (has_left (row_units u l xs) (row_units u l ys) p h)

pub in_second : (u : Units) (l : ℕ) (xs ys : List Part) (p : ℕ) → Has (row_units u l ys) p → Has (row_units u l (xs ++ ys)) p
in_second u l xs ys p h = subst (λ us. Has us p) (sym (units_app u l xs ys)) (has_right (row_units u l xs) (row_units u l ys) p h)

pub units_cut : (u : Units) (l : ℕ) (row : List Part) (at len : ℕ) (cut : Cut) → IsCutOf row at len cut → (p : ℕ) → Has (row_units u l (all_of cut)) p → Has (row_units u l row) p
units_cut u l row at len cut h p has =
    subst (λ r. Has (row_units u l r) p) (sym h.whole) (elim (in_either u l cut.left.items (cut.run.items ++ cut.right.items) p has) [
      | inl a ↦ in_first u l cut.left.items _ p a
      | inr b ↦ in_second u l cut.left.items _ p (elim (in_either u l cut.run.items cut.right.items p b) [
        | inr r ↦ in_second u l (h.lead ++ (h.gone ++ h.tail)) cut.right.items p r
        | inl m ↦ in_first u l (h.lead ++ (h.gone ++ h.tail)) cut.right.items p (elim (in_either u l h.lead h.tail p (subst (λ r. Has (row_units u l r) p) h.run m)) [
          | inl x ↦ in_first u l h.lead (h.gone ++ h.tail) p x
          | inr y ↦ in_second u l h.lead (h.gone ++ h.tail) p (in_second u l h.gone h.tail p y)
        ])
      ])
    ])

pub bytes_cut : (geo : Geometry) (u : Units) (l : ℕ) (row : List Part) (at len : ℕ) (cut : Cut) → AreWhole geo u → AreTrees geo u l row → IsCutOf row at len cut → deleted (row_bytes u l row) at len ≡ cut_bytes u l cut
bytes_cut geo u l row at len cut whole trees h =
    let mid : List Part = h.lead ++ (h.gone ++ h.tail) in
    let parts = split_each _ cut.left.items ((h.lead ++ (h.gone ++ h.tail)) ++ cut.right.items) (subst (AreTrees geo u l) h.whole trees) in
    let mids = split_each _ (h.lead ++ (h.gone ++ h.tail)) cut.right.items parts.1 in
    let leads = split_each _ h.lead (h.gone ++ h.tail) mids.0 in
    let tails = split_each _ h.gone h.tail leads.1 in
    let left_len = row_length geo u l cut.left.items whole parts.0 in
    let lead_len = row_length geo u l h.lead whole leads.0 in
    let gone_len = row_length geo u l h.gone whole tails.0 in
    let tail_len = row_length geo u l h.tail whole tails.1 in
    let mid_len = row_length geo u l (h.lead ++ (h.gone ++ h.tail)) whole mids.0 in
    let row_is : row_bytes u l row ≡ row_bytes u l cut.left.items ++ (row_bytes u l (h.lead ++ (h.gone ++ h.tail)) ++ row_bytes u l cut.right.items) =
    ap (row_bytes u l) h.whole ∙ bytes_app u l cut.left.items ((h.lead ++ (h.gone ++ h.tail)) ++ cut.right.items) ∙ ap (λ xs. row_bytes u l cut.left.items ++ xs) (bytes_app u l (h.lead ++ (h.gone ++ h.tail)) cut.right.items) in
    let mid_is : row_bytes u l (h.lead ++ (h.gone ++ h.tail)) ≡ row_bytes u l h.lead ++ (row_bytes u l h.gone ++ row_bytes u l h.tail) = bytes_app u l h.lead (h.gone ++ h.tail) ∙ ap (λ xs. row_bytes u l h.lead ++ xs) (bytes_app u l h.gone h.tail) in
    let run_is : row_bytes u l cut.run.items ≡ row_bytes u l h.lead ++ row_bytes u l h.tail = ap (row_bytes u l) h.run ∙ bytes_app u l h.lead h.tail in
    let at_is : at ≡ length (row_bytes u l cut.left.items) + cut.at = omega (arith, h.start) in
    let len_is : len ≡ cut.len + length (row_bytes u l h.gone) = omega (arith, h.less) in
    let sizes : row_size (h.lead ++ (h.gone ++ h.tail)) ≡ row_size cut.run.items + row_size h.gone = omega (arith, size_app h.lead (h.gone ++ h.tail), size_app h.gone h.tail, ap row_size h.run, size_app h.lead h.tail) in
    let without : deleted (row_bytes u l (h.lead ++ (h.gone ++ h.tail))) cut.at (cut.len + length (row_bytes u l h.gone)) ≡ deleted (row_bytes u l cut.run.items) cut.at cut.len = elim h.through [
      | inl none ↦
          let no_bytes : row_bytes u l h.gone ≡ [] = ap (row_bytes u l) none in
          ap (λ xs. deleted xs cut.at (cut.len + length (row_bytes u l h.gone))) (mid_is ∙ ap (λ xs. row_bytes u l h.lead ++ (xs ++ row_bytes u l h.tail)) no_bytes ∙ sym run_is)
          ∙ ap (deleted (row_bytes u l cut.run.items) cut.at) {x = cut.len + length (row_bytes u l h.gone)} {y = cut.len} (omega (arith, ap length no_bytes))
      | inr passes ↦ ap (λ xs. deleted xs cut.at (cut.len + length (row_bytes u l h.gone))) mid_is ∙ deleted_gone (row_bytes u l h.lead) (row_bytes u l h.gone) (row_bytes u l h.tail) cut.at cut.len (omega (arith, passes.0)) (omega (arith, passes.1)) ∙ ap (λ xs. deleted xs cut.at cut.len) (sym run_is)
    ] in
    ap (λ xs. deleted xs at len) row_is ∙ ap (λ k. deleted (row_bytes u l cut.left.items ++ (row_bytes u l (h.lead ++ (h.gone ++ h.tail)) ++ row_bytes u l cut.right.items)) k len) at_is
    ∙ ap (deleted (row_bytes u l cut.left.items ++ (row_bytes u l (h.lead ++ (h.gone ++ h.tail)) ++ row_bytes u l cut.right.items)) (length (row_bytes u l cut.left.items) + cut.at)) len_is
    ∙ deleted_between (row_bytes u l cut.left.items) (row_bytes u l (h.lead ++ (h.gone ++ h.tail))) (row_bytes u l cut.right.items) cut.at (cut.len + length (row_bytes u l h.gone)) (omega (arith, h.inside))
    ∙ ap (λ xs. row_bytes u l cut.left.items ++ (xs ++ row_bytes u l cut.right.items)) without
