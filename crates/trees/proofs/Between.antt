-- Given bytes that come between old ones, which were read together.
use Rattle.std.proofs.Common.{◌≡◌, ℕ, ◌+◌, ◌-◌, ◌<◌, ◌≤◌, min, List, ◌++◌, length, take, drop, sym, ap, ◌∙◌, arith, append_assoc, add-zero, inl, inr}
use Rattle.std.proofs.lemmas.List.{length-append, length-take, length-take-le, length-drop, take_at, take_min, take-take, take-append-le, drop-append-le, drop-drop, drop-take}
use Rattle.std.proofs.lemmas.Bool.{cases_lt}
use Rattle.trees.specs.Made.{Stays, changed}
use Rattle.trees.proofs.Laid.{any_two_parts, part_min}

-- ---- a leaf that is filled

-- parts that begin elsewhere only where nothing is read
late : (old : List ℕ) (n from to : ℕ) → (1 ≤ n → from ≡ to) → take n (drop from old) ≡ take n (drop to old)
late old n from to same = elim (cases_lt 0 n) [
  | inl some ↦ ap (λ k. take n (drop k old)) (same (omega arith))
  | inr none ↦
      let zero_is : n ≡ 0 = omega arith in
      ap (λ k. take k (drop from old)) zero_is ∙ sym (ap (λ k. take k (drop to old)) zero_is)
]

-- old bytes that were read together are those before the given ones
early : (old : List ℕ) (place at before from : ℕ) → before ≤ place - at → (1 ≤ before → from ≡ at) → take before (drop from old) ≡ take before (drop at (take place old))
early old place at before from fits same = late old before from at same ∙ sym (part_min old at before place fits)

take_again : (ys : List ℕ) (n : ℕ) → take (length (take n ys)) ys ≡ take n ys
take_again ys n = ap (λ k. take k ys) (length-take n ys) ∙ take_min n ys

whole_part : (xs new : List ℕ) (k n : ℕ) → new ≡ take n (drop k xs) → new ≡ take (length new) (drop k xs)
whole_part xs new k n is = is ∙ sym (take_again (drop k xs) n) ∙ ap (λ (ys : List ℕ). take (length ys) (drop k xs)) (sym is)

pub new_len : (given new out : List ℕ) (before inside : ℕ) → new ≡ take (length out - before) (drop inside given) → length new ≡ min (length out - before) (length given - inside)
new_len given new out before inside is = ap length is ∙ length-take (length out - before) (drop inside given) ∙ ap (min (length out - before)) (length-drop inside given)

pub between_is : (old given new out p : List ℕ) (place at before inside from m : ℕ) → before ≡ min (length out) (place - at) → inside ≡ at - place → new ≡ take (length out - before) (drop inside given)
    → from ≡ min at place + (inside - length given) → m ≡ length out - length new → place ≤ length old → length p ≡ m → p ≡ take m (drop from old)
    → take before p ++ new ++ drop before p ≡ take (length out) (drop at (changed old place 0 given))
between_is old given new out p place at before inside from m before_is inside_is new_is from_is m_is fits len p_is =
    let count = new_len given new out before inside new_is in
    let front_len : length (take place old) ≡ place = length-take-le place old fits in
    let le : before ≤ m = omega (arith, count) in
    let split : before + (m - before) ≡ m = omega (arith, le) in
    let first : take before p ≡ take before (drop at (take place old)) =
    ap (take before) p_is ∙ take-take before m (drop from old) le ∙ early old place at before from (omega arith) (λ some. omega (arith, some)) in
    let left : length out - before - length new ≡ m - before = omega arith in
    let third : drop before p ≡ take (length out - before - length new) (drop (inside - length given) (drop place old)) =
    ap (drop before) (p_is ∙ ap (λ k. take k (drop from old)) (sym split)) ∙ drop-take before (m - before) (drop from old) ∙ ap (take (m - before)) (drop-drop before from old)
    ∙ late old (m - before) (from + before) (place + (inside - length given)) (λ some. omega (arith, some, count, le))
    ∙ ap (take (m - before)) (sym (drop-drop (inside - length given) place old)) ∙ ap (λ k. take k (drop (inside - length given) (drop place old))) (sym left) in
    let new_part : new ≡ take (length new) (drop inside given) = whole_part given new inside (length out - before) new_is in
    let second : new ++ drop before p ≡ take (length out - before) (drop inside (given ++ drop place old)) =
    any_two_parts given (drop place old) new (drop before p) (length out - before) (length new) inside count new_part third in
    append_assoc (take before p) new (drop before p)
    ∙ any_two_parts (take place old) (given ++ drop (place + 0) old) (take before p) (new ++ drop before p) (length out) before at (before_is ∙ ap (λ k. min (length out) (k - at)) (sym front_len)) first
    (second ∙ ap (λ k. take (length out - before) (drop k (given ++ drop place old))) (inside_is ∙ ap (λ k. at - k) (sym front_len))
    ∙ ap (λ k. take (length out - before) (drop (at - length (take place old)) (given ++ drop k old))) (sym (add-zero place)))

pub filled_between : (old given new out p : List ℕ) (place at before inside from m : ℕ) → before ≡ min (length out) (place - at) → inside ≡ at - place → new ≡ take (length out - before) (drop inside given)
    → from ≡ min at place + (inside - length given) → m ≡ length out - length new → place ≤ length old → length p ≡ length (take m out) → p ≡ take (length (take m out)) (drop from old)
    → take before (p ++ drop m out) ++ new ++ take (length (p ++ drop m out) - before - length new) (drop before (p ++ drop m out)) ≡ take (length out) (drop at (changed old place 0 given))
filled_between old given new out p place at before inside from m before_is inside_is new_is from_is m_is fits len p_is =
    let m_len : length (take m out) ≡ m = length-take-le m out (omega arith) in
    let p_len : length p ≡ m = len ∙ m_len in
    let le : before ≤ length p = omega (arith, p_len, new_len given new out before inside new_is) in
    let rest : drop before (p ++ drop m out) ≡ drop before p ++ drop m out = drop-append-le before p (drop m out) le in
    let behind : length (drop before p) ≡ length (p ++ drop m out) - before - length new =
    omega (arith, length-drop before p, p_len, length-append p (drop m out), length-drop m out, new_len given new out before inside new_is) in
    ap (λ (t : List ℕ). t ++ new ++ take (length (p ++ drop m out) - before - length new) (drop before (p ++ drop m out))) (take-append-le before p (drop m out) le)
    ∙ ap (λ (t : List ℕ). (take before p ++ new) ++ t) (ap (take (length (p ++ drop m out) - before - length new)) rest ∙ take_at (drop before p) (drop m out) (length (p ++ drop m out) - before - length new) behind)
    ∙ between_is old given new out p place at before inside from m before_is inside_is new_is from_is m_is fits p_len (p_is ∙ ap (λ k. take k (drop from old)) m_len)

-- a byte that stays is among those that were read
pub between_way : (given new out : List ℕ) (place at before inside from m byte stands : ℕ) → before ≡ min (length out) (place - at) → inside ≡ at - place → new ≡ take (length out - before) (drop inside given)
    → from ≡ min at place + (inside - length given) → m ≡ length out - length new → Stays place 0 (length given) byte stands → at ≤ stands → stands < at + length out → (from ≤ byte) × (byte < from + length (take m out))
between_way given new out place at before inside from m byte stands before_is inside_is new_is from_is m_is stays low high =
    let count = new_len given new out before inside new_is in
    let m_len : length (take m out) ≡ m = length-take-le m out (omega arith) in
    elim stays [
      | inl early ↦ (omega (arith, early.0, early.1), omega (arith, count, m_len, early.0, early.1))
      | inr far ↦ (omega (arith, far.0, far.1), omega (arith, count, m_len, far.0, far.1))
    ]
