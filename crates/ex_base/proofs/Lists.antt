-- Fronts, rests and rows of lists, in forms that std doesn't have.
use Rattle.std.proofs.Common.{◌≡◌, ◌≢◌, ◌≤◌, ◌<◌, ◌+◌, ℕ, zero, suc, Bool, true, false, cond, List, [], ◌∷◌, ◌++◌, length, take, drop, get_or, slice_index, Some, nat_eq, eqb-true, refl, sym, ap, ◌∙◌, arith}
use Rattle.std.specs.List.{slice_split, onto_first}
use Rattle.std.specs.Map.{lookup}
use Rattle.std.proofs.lemmas.List.{drop_more}
use Rattle.ex_base.specs.Fields.{zeros}
use Rattle.ex_base.specs.Order.{Rising, RisingTexts}

-- ---- two items in front

pub front_two : (xs : List ℕ) → 2 ≤ length xs → take 2 xs ≡ slice_index xs 0 ∷ slice_index xs 1 ∷ []
front_two [] le = absurd (omega arith)
front_two (x ∷ []) le = absurd (omega arith)
front_two (x ∷ y ∷ xs) le = refl

pub two_front : (xs : List ℕ) → 2 ≤ length xs → xs ≡ slice_index xs 0 ∷ slice_index xs 1 ∷ drop 2 xs
two_front [] le = absurd (omega arith)
two_front (x ∷ []) le = absurd (omega arith)
two_front (x ∷ y ∷ xs) le = refl

-- ---- what is left begins with the item of that place

pub drop_item : {A : Type 0} (xs : List A) (i : ℕ) (x : A) → i < length xs → x ≡ get_or xs i x → drop i xs ≡ x ∷ drop (i + 1) xs
drop_item xs i x within is = drop_more xs i x within ∙ ap (λ y. y ∷ drop (i + 1) xs) (sym is)

-- ---- zeros in two parts

pub zeros_split : (a b : ℕ) → zeros (a + b) ≡ zeros a ++ zeros b
zeros_split zero b = ap zeros (let e : 0 + b ≡ b = omega arith in e)
zeros_split (suc a) b = ap zeros (let e : suc a + b ≡ suc (a + b) = omega arith in e) ∙ ap (λ (t : List ℕ). 0 ∷ t) (zeros_split a b)

-- ---- a list that is split has a first part

pub some_part : (p : ℕ → Bool) (xs : List ℕ) → (h : List ℕ) × (t : List (List ℕ)) × (slice_split p xs ≡ h ∷ t)
some_part p [] = ([], [], refl)
some_part p (x ∷ xs) = go (p x) refl (some_part p xs)
  where
    go : (b : Bool) → p x ≡ b → ((h : List ℕ) × (t : List (List ℕ)) × (slice_split p xs ≡ h ∷ t)) → (h : List ℕ) × (t : List (List ℕ)) × (slice_split p (x ∷ xs) ≡ h ∷ t)
    go true e rest = ([], slice_split p xs, rw e refl)
    go false e (h, t, split) = (x ∷ h, t, (let first : slice_split p (x ∷ xs) ≡ onto_first x (slice_split p xs) = rw e refl in first) ∙ ap (onto_first x) split)

-- ---- a row of another number isn't the one that is looked for

pub lookup_off : {V : Type 0} (row : ℕ × V) (rows : List (ℕ × V)) (p : ℕ) → row.0 ≢ p → lookup (nat_eq p) (row ∷ rows) ≡ lookup (nat_eq p) rows
lookup_off row rows p differ = (elim (nat_eq p row.0) as (λ b. nat_eq p row.0 ≡ b → cond b (Some row.1) (lookup (nat_eq p) rows) ≡ lookup (nat_eq p) rows) [
  | true ↦ λ t. absurd (differ (sym (eqb-true p row.0 t)))
  | false ↦ λ t. refl
]) refl

-- ---- what rises goes on rising

pub rising_tail : (x : ℕ) (xs : List ℕ) → Rising (x ∷ xs) → Rising xs
rising_tail x [] h = tt
rising_tail x (y ∷ xs) h = h.1

pub texts_tail : (x : List ℕ) (xs : List (List ℕ)) → RisingTexts (x ∷ xs) → RisingTexts xs
texts_tail x [] h = tt
texts_tail x (y ∷ xs) h = h.1
