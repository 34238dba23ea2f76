-- The first line of what is left.
use Rattle.std.proofs.Common.{◌≡◌, ℕ, zero, suc, ◌+◌, ◌-◌, ◌<◌, ◌≤◌, List, [], ◌∷◌, ◌++◌, length, take, drop, get_or, Bool, true, false, map, ap, sym, ◌∙◌, arith, refl, append_assoc, length-append, ◌⊎◌, inl, inr}
use Rattle.std.specs.Prelude.{nat_lt, All}
use Rattle.std.specs.List.{slice_split, onto_first}
use Rattle.std.proofs.lemmas.Bool.Decides.{nat_tests}
use Rattle.std.proofs.lemmas.Bool.{cases_lt}
use Rattle.std.proofs.lemmas.List.{take-append-drop, drop_more, length-take, get_or-take, get_or_append_left, get_or-append_right}
use Rattle.std.proofs.lemmas.List.Splits.{slice_split_at, slice_split_none}
use Rattle.script_lines.specs.Lines.{line_feed, line_most, Short, Long, ended, unended, without_return, lines_of, lines_of_parts, whole_of_parts, whole_lines, lines_within}
use Rattle.std.proofs.Math.Seq.{take-append-add}
use Rattle.script_lines.specs.Remains.{ClearTo}

some_part : (p : ℕ → Bool) (xs : List ℕ) → (h : List ℕ) × (t : List (List ℕ)) × (slice_split p xs ≡ h ∷ t)
some_part p [] = ([], [], refl)
some_part p (x ∷ xs) = go (p x) refl (some_part p xs)
  where
    go : (b : Bool) → p x ≡ b → ((h : List ℕ) × (t : List (List ℕ)) × (slice_split p xs ≡ h ∷ t)) → (h : List ℕ) × (t : List (List ℕ)) × (slice_split p (x ∷ xs) ≡ h ∷ t)
    go true e rest = ([], slice_split p xs, rw e refl)
    go false e (h, t, split) = (x ∷ h, t, (let first : slice_split p (x ∷ xs) ≡ onto_first x (slice_split p xs) = rw e refl in first) ∙ ap (onto_first x) split)

clear_all : (xs : List ℕ) → ClearTo xs (length xs) → All (λ b. line_feed b ≡ false) xs
clear_all xs h k d lt = ap line_feed (default xs k d lt) ∙ h k lt
  where
    default : (xs : List ℕ) (k d : ℕ) → k < length xs → get_or xs k d ≡ get_or xs k 0
    default [] k d lt = absurd (omega arith)
    default (x ∷ xs) zero d lt = refl
    default (x ∷ xs) (suc k) d lt = default xs k d (omega arith)

-- a part, its line feed, and the rest
pub fed : (part rest : List ℕ) (b : ℕ) → ClearTo part (length part) → line_feed b ≡ true → lines_of (part ++ b ∷ rest) ≡ ended part ∷ lines_of rest
fed part rest b clear hit = ap lines_of_parts (slice_split_at line_feed part b rest (clear_all part clear) hit) ∙ go (some_part line_feed rest)
  where
    go : ((h : List ℕ) × (t : List (List ℕ)) × (slice_split line_feed rest ≡ h ∷ t)) → lines_of_parts (part ∷ slice_split line_feed rest) ≡ ended part ∷ lines_of rest
    go (h, t, e) = ap (λ ps. lines_of_parts (part ∷ ps)) e ∙ ap (λ ps. ended part ∷ lines_of_parts ps) (sym e)

-- a last part
pub unfed : (part : List ℕ) → ClearTo part (length part) → lines_of part ≡ unended part
unfed part clear = ap lines_of_parts (slice_split_none line_feed part (clear_all part clear))

pub ended_long : (part : List ℕ) → line_most < length part → ended part ≡ Long
ended_long part h = let far : nat_lt line_most (length part) ≡ true = grind (arith, nat_tests) in rw far refl

pub ended_short : (part : List ℕ) → length part ≤ line_most → ended part ≡ Short (without_return part)
ended_short part h = let near : nat_lt line_most (length part) ≡ false = grind (arith, nat_tests) in rw near refl

pub unended_long : (part : List ℕ) → line_most < length part → unended part ≡ Long ∷ []
unended_long [] h = absurd (omega arith)
unended_long (b ∷ bs) h = let far : nat_lt line_most (length (b ∷ bs)) ≡ true = grind (arith, nat_tests) in rw far refl

pub unended_short : (part : List ℕ) → 0 < length part → length part ≤ line_most → unended part ≡ Short part ∷ []
unended_short [] some h = absurd (omega arith)
unended_short (b ∷ bs) some h = let near : nat_lt line_most (length (b ∷ bs)) ≡ false = grind (arith, nat_tests) in rw near refl

-- both parts without a line feed
pub clear_both : (a b : List ℕ) → ClearTo a (length a) → ClearTo b (length b) → ClearTo (a ++ b) (length (a ++ b))
clear_both a b ca cb j lt = go (cases_lt j (length a))
  where
    go : (j < length a) ⊎ (length a ≤ j) → line_feed (get_or (a ++ b) j 0) ≡ false
    go (inl h) = ap line_feed (get_or_append_left a b 0 j h) ∙ ca j h
    go (inr h) = ap line_feed (get_or-append_right a b (length a) j 0 refl h) ∙ cb (j - length a) (omega (arith, length-append a b))

-- the first line feed of a list cuts it
pub cut_feed : (bytes now : List ℕ) (at : ℕ) → at < length bytes → bytes ++ now ≡ take at bytes ++ (get_or bytes at 0 ∷ (drop (at + 1) bytes ++ now))
cut_feed bytes now at h =
    ap (λ (l : List ℕ). l ++ now) (sym (take-append-drop at bytes) ∙ ap (λ (l : List ℕ). take at bytes ++ l) (drop_more bytes at 0 h))
    ∙ append_assoc (take at bytes) (get_or bytes at 0 ∷ drop (at + 1) bytes) now

pub clear_front : (bytes : List ℕ) (at : ℕ) → at < length bytes → ClearTo bytes at → ClearTo (take at bytes) (length (take at bytes))
clear_front bytes at h clear j lt =
    let size = length-take at bytes in
    ap line_feed (get_or-take at bytes j 0 (omega arith)) ∙ clear j (omega arith)

-- what is within so many bytes, behind a part and its line feed
pub within_fed : (part rest : List ℕ) (b most still : ℕ) → ClearTo part (length part) → line_feed b ≡ true → length part + 1 + still ≡ most
    → lines_within most (part ++ b ∷ rest) ≡ ended part ∷ lines_within still rest
within_fed part rest b most still clear hit count =
    let whole : most ≡ length part + suc still = omega arith in
    ap (λ (l : List ℕ). map ended (whole_lines l)) (ap (λ (n : ℕ). take n (part ++ b ∷ rest)) whole ∙ take-append-add part (b ∷ rest) (suc still))
    ∙ ap (λ ps. map ended (whole_of_parts ps)) (slice_split_at line_feed part b (take still rest) (clear_all part clear) hit)
    ∙ go (some_part line_feed (take still rest))
  where
    go : ((h : List ℕ) × (t : List (List ℕ)) × (slice_split line_feed (take still rest) ≡ h ∷ t))
        → map ended (whole_of_parts (part ∷ slice_split line_feed (take still rest))) ≡ ended part ∷ lines_within still rest
    go (h, t, e) = ap (λ ps. map ended (whole_of_parts (part ∷ ps))) e ∙ ap (λ ps. ended part ∷ map ended (whole_of_parts ps)) (sym e)

-- no line feed is there
pub within_clear : (script : List ℕ) (most : ℕ) → most ≤ length script → ClearTo script most → lines_within most script ≡ []
within_clear script most h clear =
    ap (λ ps. map ended (whole_of_parts ps)) (slice_split_none line_feed (take most script) (clear_all (take most script) front))
  where
    front : ClearTo (take most script) (length (take most script))
    front j lt =
        let size = length-take most script in
        ap line_feed (get_or-take most script j 0 (omega arith)) ∙ clear j (omega arith)
