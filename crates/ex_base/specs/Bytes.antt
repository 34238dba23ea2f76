-- Parts of a list of bytes, and what is written over a part.
use Rattle.std.specs.Prelude.{◌≡◌, ◌⊎◌, ◌<◌, ◌≤◌, ℕ, ◌+◌, ◌-◌, List, [], ◌∷◌, ◌++◌, length, take, drop, slice_index, slice_range, get_or, refl}
use Rattle.std.proofs.Common.{sym, ◌∙◌, ap, subst, inl, inr, ⊎_elim, arith, add-zero, true, false}
use Rattle.std.proofs.lemmas.List.{length-take, length-drop, length-append, get_or-take, get_or-drop, get_or-append_right, get_or_append_left, ext_get_or, drop-drop, drop_all, append-nil, append_assoc}
use Rattle.std.proofs.lemmas.Bool.{cases_Bool, cases_lt}
use Rattle.std.proofs.lemmas.Slice.Eq.{bytes_eq-Decides}
use Rattle.std.specs.Str.{bytes_eq}
use Rattle.std.proofs.Math.Seq.{take-add}
use borrow.Rule.Slice.PartMut.{put_mid}

-- each item is a byte
abbrev pub IsBytes : List ℕ → Type 0
IsBytes b = (i : ℕ) → slice_index b i < 256

-- the n bytes from place p on
abbrev pub bytes_at : List ℕ → ℕ → ℕ → List ℕ
bytes_at b p n = take n (drop p b)

-- b with x written over what stood at p
abbrev pub written : List ℕ → ℕ → List ℕ → List ℕ
written b p x = take p b ++ x ++ drop (p + length x) b

-- The same two as closed words, for the bytes of a whole disk, which no proof is to compute with.
unfoldable pub part : List ℕ → ℕ → ℕ → List ℕ
part b p n = bytes_at b p n

unfoldable pub repl : List ℕ → ℕ → List ℕ → List ℕ
repl b p x = written b p x

-- The new list differs from the old one at most in the n bytes from place p on.
pub record SameOutside (p n : ℕ) (old new : List ℕ) : Type 0 where
  pub same_length : length new ≡ length old
  pub below : (i : ℕ) → i < p → slice_index new i ≡ slice_index old i
  pub above : (i : ℕ) → p + n ≤ i → slice_index new i ≡ slice_index old i

-- The m bytes from place q on lie apart from the n bytes from place p on.
abbrev pub Apart : ℕ → ℕ → ℕ → ℕ → Type 0
Apart q m p n = (q + m ≤ p) ⊎ (p + n ≤ q)

pub length-part : (b : List ℕ) (p n : ℕ) → p + n ≤ length b → length (part b p n) ≡ n
unfolding part
length-part b p n h = omega (arith, length-take n (drop p b), length-drop p b)

pub get-part : (b : List ℕ) (p n i : ℕ) → i < n → slice_index (part b p n) i ≡ slice_index b (p + i)
unfolding part
get-part b p n i h = get_or-take n (drop p b) i 0 h ∙ get_or-drop p b i 0

-- two parts of one length are equal where their bytes are
pub same_parts : (b c : List ℕ) (p q n : ℕ) → p + n ≤ length b → q + n ≤ length c → ((i : ℕ) → i < n → slice_index b (p + i) ≡ slice_index c (q + i)) → part b p n ≡ part c q n
same_parts b c p q n hb hc same =
    ext_get_or 0 (part b p n) (part c q n) (length-part b p n hb ∙ sym (length-part c q n hc))
    (λ i lt. let h : i < n = omega (arith, length-part b p n hb) in get-part b p n i h ∙ same i h ∙ sym (get-part c q n i h))

-- a part determines its bytes
pub part_reads : (b : List ℕ) (x : List ℕ) (p n i : ℕ) → part b p n ≡ x → i < n → slice_index b (p + i) ≡ slice_index x i
part_reads b x p n i is h = sym (get-part b p n i h) ∙ ap (λ (l : List ℕ). slice_index l i) is

pub length-repl : (b : List ℕ) (p : ℕ) (x : List ℕ) → p + length x ≤ length b → length (repl b p x) ≡ length b
unfolding repl
length-repl b p x h = omega (arith, length-append (take p b ++ x) (drop (p + length x) b), length-append (take p b) x, length-take p b, length-drop (p + length x) b)

pub repl-below : (b : List ℕ) (p : ℕ) (x : List ℕ) (i : ℕ) → p + length x ≤ length b → i < p → slice_index (repl b p x) i ≡ slice_index b i
unfolding repl
repl-below b p x i h below =
    let in_front : i < length (take p b) = omega (arith, length-take p b) in
    let in_both : i < length (take p b ++ x) = omega (arith, in_front, length-append (take p b) x) in
    get_or_append_left (take p b ++ x) (drop (p + length x) b) 0 i in_both ∙ get_or_append_left (take p b) x 0 i in_front ∙ get_or-take p b i 0 below

pub repl-above : (b : List ℕ) (p : ℕ) (x : List ℕ) (i : ℕ) → p + length x ≤ length b → p + length x ≤ i → slice_index (repl b p x) i ≡ slice_index b i
unfolding repl
repl-above b p x i h above =
    let front : length (take p b ++ x) ≡ p + length x = omega (arith, length-append (take p b) x, length-take p b) in
    let place : p + length x + (i - (p + length x)) ≡ i = omega arith in
    get_or-append_right (take p b ++ x) (drop (p + length x) b) (p + length x) i 0 front above
    ∙ get_or-drop (p + length x) b (i - (p + length x)) 0
    ∙ ap (λ (k : ℕ). get_or b k 0) place

pub repl-inside : (b : List ℕ) (p : ℕ) (x : List ℕ) (j : ℕ) → p + length x ≤ length b → j < length x → slice_index (repl b p x) (p + j) ≡ slice_index x j
unfolding repl
repl-inside b p x j h inside =
    let front : length (take p b) ≡ p = omega (arith, length-take p b) in
    let in_both : p + j < length (take p b ++ x) = omega (arith, front, length-append (take p b) x) in
    let place : p + j - p ≡ j = omega arith in
    get_or_append_left (take p b ++ x) (drop (p + length x) b) 0 (p + j) in_both
    ∙ get_or-append_right (take p b) x p (p + j) 0 front (omega arith)
    ∙ ap (λ (k : ℕ). get_or x k 0) place

-- a write changes nothing outside its range
pub repl_same_outside : (b : List ℕ) (p : ℕ) (x : List ℕ) → p + length x ≤ length b → SameOutside p (length x) b (repl b p x)
repl_same_outside b p x h = record {
  same_length = length-repl b p x h;
  below = λ i lt. repl-below b p x i h lt;
  above = λ i le. repl-above b p x i h le;
}

-- what was written stands there
pub part-repl : (b : List ℕ) (p : ℕ) (x : List ℕ) → p + length x ≤ length b → part (repl b p x) p (length x) ≡ x
part-repl b p x h =
    let long : length (part (repl b p x) p (length x)) ≡ length x = length-part (repl b p x) p (length x) (omega (arith, length-repl b p x h)) in
    ext_get_or 0 (part (repl b p x) p (length x)) x long
    (λ i lt. let within : i < length x = omega (arith, long) in get-part (repl b p x) p (length x) i within ∙ repl-inside b p x i h within)

-- a part that lies apart from the changed range stays
pub part_stays : (p n : ℕ) (old new : List ℕ) (q m : ℕ) → SameOutside p n old new → q + m ≤ length old → Apart q m p n → part new q m ≡ part old q m
part_stays p n old new q m same fits apart =
    same_parts new old q q m (omega (arith, same.same_length)) fits
    (λ i lt. ⊎_elim (λ (before : q + m ≤ p). same.below (q + i) (omega arith)) (λ (after : p + n ≤ q). same.above (q + i) (omega arith)) apart)

-- and so it does at a write
pub part-repl_apart : (b : List ℕ) (p : ℕ) (x : List ℕ) (q m : ℕ) → p + length x ≤ length b → q + m ≤ length b → Apart q m p (length x) → part (repl b p x) q m ≡ part b q m
part-repl_apart b p x q m h fits apart = part_stays p (length x) b (repl b p x) q m (repl_same_outside b p x h) fits apart

pub same_outside_refl : (p n : ℕ) (b : List ℕ) → SameOutside p n b b
same_outside_refl p n b = record { same_length = refl; below = λ i lt. refl; above = λ i le. refl }

-- the slice of the code that is this part
pub range_is_part : (b : List ℕ) (p n : ℕ) → slice_range b p (p + n) ≡ part b p n
unfolding part
range_is_part b p n = let k : p + n - p ≡ n = omega arith in ap (λ (m : ℕ). take m (drop p b)) k

-- what a write over all of that slice leaves
pub written_slice : (b : List ℕ) (p n : ℕ) (x now : List ℕ) → length x ≡ n → p + n ≤ length b → now ≡ x ++ drop n (slice_range b p (p + n)) → put_mid p (p + n - p) b now ≡ repl b p x
unfolding repl
written_slice b p n x now long fits is =
    let none : drop n (slice_range b p (p + n)) ≡ [] =
    drop_all n (slice_range b p (p + n)) (omega (arith, ap length (range_is_part b p n), length-part b p n fits)) in
    let now_is : now ≡ x = is ∙ ap (λ (l : List ℕ). x ++ l) none ∙ append-nil x in
    let k : p + n - p ≡ length x = omega (arith, long) in
    ap (λ (l : List ℕ). take p b ++ (l ++ drop (p + n - p) (drop p b))) now_is
    ∙ sym (append_assoc (take p b) x (drop (p + n - p) (drop p b)))
    ∙ ap (λ (m : ℕ). take p b ++ x ++ drop m (drop p b)) k
    ∙ ap (λ (l : List ℕ). take p b ++ x ++ l) (drop-drop (length x) p b)

-- two lists are the same or they aren't
pub same_or_not : (x y : List ℕ) → (x ≡ y) ⊎ (x ≡ y → ⊥)
same_or_not x y =
    let tests = bytes_eq-Decides x y in
    ⊎_elim (λ is. inl (tests.0 is)) (λ no. inr (λ is. apart (tests.1 is) no)) (cases_Bool (bytes_eq x y))
  where
    apart : bytes_eq x y ≡ true → bytes_eq x y ≡ false → ⊥
    apart is isnt = cc

-- two parts that meet are one
pub part_joined : (b : List ℕ) (p n m : ℕ) → part b p (n + m) ≡ part b p n ++ part b (p + n) m
unfolding part
part_joined b p n m = take-add n m (drop p b) ∙ ap (λ (l : List ℕ). take n (drop p b) ++ take m l) (drop-drop n p b)

-- one byte
pub part_byte : (b : List ℕ) (p : ℕ) (x : ℕ) → part b p 1 ≡ x ∷ [] → slice_index b p ≡ x
part_byte b p x is = ap (λ (i : ℕ). slice_index b i) (sym (add-zero p)) ∙ part_reads b (x ∷ []) p 1 0 is (omega arith)

-- what a copy over that slice leaves
pub copied_slice : (b : List ℕ) (p n : ℕ) (x now : List ℕ) → length x ≡ n → p + n ≤ length b → now ≡ x → put_mid p (p + n - p) b now ≡ repl b p x
copied_slice b p n x now long fits is =
    let none : drop n (slice_range b p (p + n)) ≡ [] = drop_all n (slice_range b p (p + n)) (omega (arith, ap length (range_is_part b p n), length-part b p n fits)) in
    written_slice b p n x now long fits (is ∙ sym (append-nil x) ∙ ap (λ (l : List ℕ). x ++ l) (sym none))

-- bytes over bytes
pub repl_is_bytes : (b : List ℕ) (p : ℕ) (x : List ℕ) → p + length x ≤ length b → IsBytes b → IsBytes x → IsBytes (repl b p x)
repl_is_bytes b p x fits bytes more i = elim (cases_lt i p) [
  | inl lt ↦ subst (λ (v : ℕ). v < 256) (sym (repl-below b p x i fits lt)) (bytes i)
  | inr le ↦ elim (cases_lt i (p + length x)) [
    | inl lt ↦
        let place : p + (i - p) ≡ i = omega (arith, le) in
        let reads : slice_index (repl b p x) i ≡ slice_index x (i - p) =
        ap (λ (k : ℕ). slice_index (repl b p x) k) (sym place) ∙ repl-inside b p x (i - p) fits (omega (arith, le, lt)) in
        subst (λ (v : ℕ). v < 256) (sym reads) (more (i - p))
    | inr above ↦ subst (λ (v : ℕ). v < 256) (sym (repl-above b p x i fits above)) (bytes i)
  ]
]
