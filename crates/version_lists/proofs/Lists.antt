-- Lists: their members, members by a test or a number, and lists whose keys rise.
use Rattle.std.proofs.Common.{◌≡◌, ℕ, zero, suc, ◌+◌, ◌<◌, ◌≤◌, List, [], ◌∷◌, ◌++◌, length, map, get_or, All, AllPairs, Contains, refl, ap, sym, subst, ◌∙◌, arith, Bool, true, false, cond, eqb, Option, Some, None, ◌⊎◌, inl, inr}
use Rattle.std.specs.Prelude.{filter, find, flat_map, ◌==◌}
use Rattle.std.specs.List.{swap}
use Rattle.std.specs.List.Sorted.{IsPermutation}
use Rattle.std.proofs.lemmas.List.Edits.{Swapped, swapped_from_swap}
use Rattle.std.proofs.lemmas.List.Sorted.{IsPermutation-keeps, IsPermutation-swap, length_permutation}
use Rattle.std.proofs.lemmas.Bool.{cases_lt, cases_eq, cond-true, cond-false, false≢true, eqb-true, eq-eqb}
use Rattle.std.proofs.lemmas.Option.{same_Some, none-some}
use Rattle.std.proofs.lemmas.List.Elements.{All-nil, All-cons, All-head, All-tail, All-map}
use Rattle.std.proofs.lemmas.List.Kept.{AllPairs-cons}

-- ---- members

abbrev pub Has : {A : Type 0} → List A → A → Type 0
Has [] x = ⊥
Has (y ∷ ys) x = (y ≡ x) ⊎ Has ys x

pub has_contains : {A : Type 0} (xs : List A) (x : A) → Has xs x → Contains xs x
has_contains [] x h = absurd h
has_contains (y ∷ ys) x (inl e) = (0, omega arith, e)
has_contains (y ∷ ys) x (inr m) = let c = has_contains ys x m in (suc c.0, omega (arith, c.1), c.2)

at_has : {A : Type 0} (xs : List A) (x : A) (k : ℕ) → k < length xs → get_or xs k x ≡ x → Has xs x
at_has [] x k l e = absurd (omega arith)
at_has (y ∷ ys) x zero l e = inl e
at_has (y ∷ ys) x (suc k) l e = inr (at_has ys x k (omega arith) e)

pub contains_has : {A : Type 0} (xs : List A) (x : A) → Contains xs x → Has xs x
contains_has xs x c = at_has xs x c.0 c.1 c.2

pub all_has : {A : Type 0} (P : A → Type 0) (xs : List A) → All P xs → (x : A) → Has xs x → P x
all_has P [] all x h = absurd h
all_has P (y ∷ ys) all x (inl e) = subst P e (All-head P y ys all)
all_has P (y ∷ ys) all x (inr m) = all_has P ys (All-tail P y ys all) x m

pub has_all : {A : Type 0} (P : A → Type 0) (xs : List A) → ((x : A) → Has xs x → P x) → All P xs
has_all P [] h = All-nil P
has_all P (y ∷ ys) h = All-cons P y ys (h y (inl refl)) (has_all P ys (λ x m. h x (inr m)))

pub has_map : {A B : Type 0} (f : A → B) (xs : List A) (x : A) → Has xs x → Has (map f xs) (f x)
has_map f [] x h = absurd h
has_map f (y ∷ ys) x (inl e) = inl (ap f e)
has_map f (y ∷ ys) x (inr m) = inr (has_map f ys x m)

pub has_map_from : {A B : Type 0} (f : A → B) (xs : List A) (y : B) → Has (map f xs) y → (x : A) × Has xs x × (f x ≡ y)
has_map_from f [] y h = absurd h
has_map_from f (x ∷ xs) y (inl e) = (x, inl refl, e)
has_map_from f (x ∷ xs) y (inr m) = let r = has_map_from f xs y m in (r.0, inr r.1, r.2)

pub has_front : {A : Type 0} (xs ys : List A) (x : A) → Has xs x → Has (xs ++ ys) x
has_front [] ys x h = absurd h
has_front (y ∷ xs) ys x (inl e) = inl e
has_front (y ∷ xs) ys x (inr m) = inr (has_front xs ys x m)

pub has_back : {A : Type 0} (xs ys : List A) (x : A) → Has ys x → Has (xs ++ ys) x
has_back [] ys x h = h
has_back (y ∷ xs) ys x h = inr (has_back xs ys x h)

pub has_either : {A : Type 0} (xs ys : List A) (x : A) → Has (xs ++ ys) x → Has xs x ⊎ Has ys x
has_either [] ys x h = inr h
has_either (y ∷ xs) ys x (inl e) = inl (inl e)
has_either (y ∷ xs) ys x (inr m) = elim (has_either xs ys x m) [ inl a ↦ inl (inr a) | inr b ↦ inr b ]

pub has_flat : {A B : Type 0} (f : A → List B) (xs : List A) (x : A) (y : B) → Has xs x → Has (f x) y → Has (flat_map f xs) y
has_flat f [] x y h k = absurd h
has_flat f (z ∷ xs) x y (inl e) k = has_front (f z) (flat_map f xs) y (subst (λ a. Has (f a) y) (sym e) k)
has_flat f (z ∷ xs) x y (inr m) k = has_back (f z) (flat_map f xs) y (has_flat f xs x y m k)

pub has_flat_from : {A B : Type 0} (f : A → List B) (xs : List A) (y : B) → Has (flat_map f xs) y → (x : A) × Has xs x × Has (f x) y
has_flat_from f [] y h = absurd h
has_flat_from {A} {B} f (x ∷ xs) y h =
    elim (has_either (f x) (flat_map f xs) y h) [
      | inl a ↦ (x, inl refl, a)
      | inr b ↦ let r = has_flat_from f xs y b in (r.0, inr r.1, r.2)
    ]

pub has_length : {A : Type 0} (xs : List A) (x : A) → Has xs x → 1 ≤ length xs
has_length [] x h = absurd h
has_length (y ∷ ys) x h = omega arith

pub length_has : {A : Type 0} (xs : List A) → 1 ≤ length xs → (x : A) × Has xs x
length_has [] l = absurd (omega arith)
length_has (x ∷ xs) l = (x, inl refl)

-- ---- members that pass a test

pub filter_true : {A : Type 0} (p : A → Bool) (x : A) (xs : List A) → p x ≡ true → filter p (x ∷ xs) ≡ x ∷ filter p xs
filter_true p x xs e = cond-true (p x) (x ∷ filter p xs) (filter p xs) e

pub filter_false : {A : Type 0} (p : A → Bool) (x : A) (xs : List A) → p x ≡ false → filter p (x ∷ xs) ≡ filter p xs
filter_false p x xs e = cond-false (p x) (x ∷ filter p xs) (filter p xs) e

pub has_filter : {A : Type 0} (p : A → Bool) (xs : List A) (x : A) → Has xs x → p x ≡ true → Has (filter p xs) x
has_filter p [] x h is = absurd h
has_filter {A} p (y ∷ ys) x (inl e) is = subst (λ (l : List A). Has l x) (sym (filter_true p y ys (ap p e ∙ is))) (inl e)
has_filter p (y ∷ ys) x (inr m) is = later (p y) (has_filter p ys x m is)
  where
    later : (b : Bool) → Has (filter p ys) x → Has (cond b (y ∷ filter p ys) (filter p ys)) x
    later true h = inr h
    later false h = h

pub has_filter_from : {A : Type 0} (p : A → Bool) (xs : List A) (x : A) → Has (filter p xs) x → Has xs x × (p x ≡ true)
has_filter_from p [] x h = absurd h
has_filter_from p (y ∷ ys) x h = parts (p y) refl (has_filter_from p ys x) h
  where
    parts : (b : Bool) → p y ≡ b → (Has (filter p ys) x → Has ys x × (p x ≡ true)) → Has (cond b (y ∷ filter p ys) (filter p ys)) x → Has (y ∷ ys) x × (p x ≡ true)
    parts true is rest (inl e) = (inl e, ap p (sym e) ∙ is)
    parts true is rest (inr m) = (inr (rest m).0, (rest m).1)
    parts false is rest m = (inr (rest m).0, (rest m).1)

pub filter_none : {A : Type 0} (p : A → Bool) (xs : List A) → ((x : A) → Has xs x → p x ≡ false) → filter p xs ≡ []
filter_none p [] none = refl
filter_none p (x ∷ xs) none = filter_false p x xs (none x (inl refl)) ∙ filter_none p xs (λ y m. none y (inr m))

pub filter_all : {A : Type 0} (p : A → Bool) (xs : List A) → ((x : A) → Has xs x → p x ≡ true) → filter p xs ≡ xs
filter_all p [] all = refl
filter_all p (x ∷ xs) all = filter_true p x xs (all x (inl refl)) ∙ ap (λ rest. x ∷ rest) (filter_all p xs (λ y m. all y (inr m)))

pub filter_cons : {A : Type 0} (p : A → Bool) (x : A) (xs : List A) → length (filter p (x ∷ xs)) ≡ cond (p x) 1 0 + length (filter p xs)
filter_cons p x xs = counted (p x)
  where
    counted : (b : Bool) → length (cond b (x ∷ filter p xs) (filter p xs)) ≡ cond b 1 0 + length (filter p xs)
    counted true = omega arith
    counted false = omega arith

pub filter_length : {A : Type 0} (p : A → Bool) (xs : List A) → length (filter p xs) ≤ length xs
filter_length p [] = omega arith
filter_length p (x ∷ xs) = shorter (p x) (filter_length p xs)
  where
    shorter : (b : Bool) → length (filter p xs) ≤ length xs → length (cond b (x ∷ filter p xs) (filter p xs)) ≤ suc (length xs)
    shorter true l = omega arith
    shorter false l = omega arith

-- what passes the one test passes the other
pub filter_more : {A : Type 0} (p q : A → Bool) (xs : List A) → ((x : A) → Has xs x → p x ≡ true → q x ≡ true) → length (filter p xs) ≤ length (filter q xs)
filter_more p q [] more = omega arith
filter_more p q (x ∷ xs) more = more_here (p x) (q x) (more x (inl refl)) (filter_more p q xs (λ y m. more y (inr m)))
  where
    more_here : (b c : Bool) → (b ≡ true → c ≡ true) → length (filter p xs) ≤ length (filter q xs)
        → length (cond b (x ∷ filter p xs) (filter p xs)) ≤ length (cond c (x ∷ filter q xs) (filter q xs))
    more_here true true h l = omega arith
    more_here true false h l = absurd (false≢true (h refl))
    more_here false true h l = omega arith
    more_here false false h l = l

-- and one more does, that doesn't pass the one
pub filter_one_more : {A : Type 0} (p q : A → Bool) (xs : List A) (z : A) → Has xs z → p z ≡ false → q z ≡ true
    → ((x : A) → Has xs x → p x ≡ true → q x ≡ true) → length (filter p xs) < length (filter q xs)
filter_one_more p q [] z h fails passes more = absurd h
filter_one_more p q (x ∷ xs) z (inl e) fails passes more =
    let rest = filter_more p q xs (λ y m. more y (inr m)) in
    let a = ap length (filter_false p x xs (ap p e ∙ fails)) in
    let b = ap length (filter_true q x xs (ap q e ∙ passes)) in
    omega (arith, rest, a, b)
filter_one_more p q (x ∷ xs) z (inr m) fails passes more = later (p x) (q x) (more x (inl refl)) (filter_one_more p q xs z m fails passes (λ y k. more y (inr k)))
  where
    later : (b c : Bool) → (b ≡ true → c ≡ true) → length (filter p xs) < length (filter q xs)
        → length (cond b (x ∷ filter p xs) (filter p xs)) < length (cond c (x ∷ filter q xs) (filter q xs))
    later true true h l = omega arith
    later true false h l = absurd (false≢true (h refl))
    later false true h l = omega arith
    later false false h l = l

pub find_has : {A : Type 0} (p : A → Bool) (xs : List A) (x : A) → find p xs ≡ Some x → Has xs x × (p x ≡ true)
find_has p [] x e = absurd (none-some x e)
find_has {A} p (y ∷ ys) x e = found (p y) refl e (find_has p ys x)
  where
    found : (b : Bool) → p y ≡ b → ◌≡◌ {A = Option A} (cond b (Some y) (find p ys)) (Some x) → (find p ys ≡ Some x → Has ys x × (p x ≡ true)) → Has (y ∷ ys) x × (p x ≡ true)
    found true is e rest = let same = same_Some y x e in (inl same, ap p (sym same) ∙ is)
    found false is e rest = (inr (rest e).0, (rest e).1)

pub find_none : {A : Type 0} (p : A → Bool) (xs : List A) → find p xs ≡ None → (x : A) → Has xs x → p x ≡ false
find_none p [] e x h = absurd h
find_none {A} p (y ∷ ys) e x h = none (p y) refl e h (λ d m. find_none p ys d x m)
  where
    none : (b : Bool) → p y ≡ b → ◌≡◌ {A = Option A} (cond b (Some y) (find p ys)) None → Has (y ∷ ys) x → (find p ys ≡ None → Has ys x → p x ≡ false) → p x ≡ false
    none true is e h rest = absurd (none-some y (sym e))
    none false is e (inl same) rest = ap p (sym same) ∙ is
    none false is e (inr m) rest = rest e m

-- ---- keys that rise

abbrev pub Rises : {A : Type 0} → (A → ℕ) → List A → Type 0
Rises key [] = Unit {0}
Rises {A} key (x ∷ xs) = ((y : A) → Has xs y → key x < key y) × Rises key xs

pairs_nil : {A : Type 0} (R : A → A → Type 0) → AllPairs R []
pairs_nil R = λ i j d h k. absurd (omega arith)

pub pairs_head : {A : Type 0} (R : A → A → Type 0) (x : A) (xs : List A) → AllPairs R (x ∷ xs) → All (R x) xs
pairs_head R x xs all = λ k d h. all 0 (suc k) d (omega arith) (omega arith)

pub pairs_tail : {A : Type 0} (R : A → A → Type 0) (x : A) (xs : List A) → AllPairs R (x ∷ xs) → AllPairs R xs
pairs_tail R x xs all = λ i j d h k. all (suc i) (suc j) d (omega arith) (omega arith)

-- of a relation that holds both ways, in another order
pub pairs_permutation : {A : Type 0} (R : A → A → Type 0) → ((x y : A) → R x y → R y x) → (xs ys : List A) → IsPermutation xs ys → AllPairs R xs → AllPairs R ys
pairs_permutation {A} R both xs ys moved all = IsPermutation-keeps xs (AllPairs R) all pairs_swap ys moved
  where
    at : (l : List A) (d : A) → AllPairs R l → (i j : ℕ) → i < length l → j < length l → (i ≡ j → ⊥) → R (get_or l i d) (get_or l j d)
    at l d all i j s t differ = elim (cases_lt i j) [ inl less ↦ all i j d less t | inr more ↦ both (get_or l j d) (get_or l i d) (all j i d (omega (arith, more, differ)) s) ]

    pairs_swap : (l : List A) (i j : ℕ) → i < length l → j < length l → AllPairs R l → AllPairs R (swap l i j)
    pairs_swap l i j s t all a b d less within = placed (cases_eq a i) (cases_eq a j) (cases_eq b i) (cases_eq b j)
      where
        swapped : Swapped (λ k. get_or l k d) (λ k. get_or (swap l i j) k d) i j
        swapped = swapped_from_swap l (swap l i j) i j d s t refl

        in_old : b < length l
        in_old = let e = length_permutation l (swap l i j) (IsPermutation-swap l (swap l i j) i j s t refl) in omega (arith, e, within)

        pair : (m n : ℕ) → m < length l → n < length l → (m ≡ n → ⊥) → get_or (swap l i j) a d ≡ get_or l m d → get_or (swap l i j) b d ≡ get_or l n d → R (get_or (swap l i j) a d) (get_or (swap l i j) b d)
        pair m n u v differ e f = subst (λ x. R x (get_or (swap l i j) b d)) (sym e) (subst (R (get_or l m d)) (sym f) (at l d all m n u v differ))

        first : (m : ℕ) → m ≡ i → get_or (swap l i j) m d ≡ get_or l j d
        first m e = subst (λ k. get_or (swap l i j) k d ≡ get_or l j d) (sym e) swapped.0

        second : (m : ℕ) → m ≡ j → get_or (swap l i j) m d ≡ get_or l i d
        second m e = subst (λ k. get_or (swap l i j) k d ≡ get_or l i d) (sym e) swapped.1

        placed : (a ≡ i) ⊎ (a ≡ i → ⊥) → (a ≡ j) ⊎ (a ≡ j → ⊥) → (b ≡ i) ⊎ (b ≡ i → ⊥) → (b ≡ j) ⊎ (b ≡ j → ⊥) → R (get_or (swap l i j) a d) (get_or (swap l i j) b d)
        placed (inl e) _ _ (inl f) = pair j i t s (λ g. omega (arith, e, f, g, less)) (first a e) (second b f)
        placed (inl e) _ (inl h) _ = absurd (omega (arith, e, h, less))
        placed (inl e) _ (inr h) (inr f) = pair j b t in_old (λ g. f (sym g)) (first a e) (swapped.2 b h f)
        placed (inr e) (inl h) (inl f) _ = pair i j s t (λ g. omega (arith, h, f, g, less)) (second a h) (first b f)
        placed (inr e) (inl h) (inr f) _ = pair i b s in_old (λ g. f (sym g)) (second a h) (swapped.2 b f (λ g. omega (arith, h, g, less)))
        placed (inr e) (inr h) (inl f) _ = pair a j (omega (arith, less, in_old)) t h (swapped.2 a e h) (first b f)
        placed (inr e) (inr h) (inr f) (inl g) = pair a i (omega (arith, less, in_old)) s e (swapped.2 a e h) (second b g)
        placed (inr e) (inr h) (inr f) (inr g) = pair a b (omega (arith, less, in_old)) in_old (λ k. omega (arith, k, less)) (swapped.2 a e h) (swapped.2 b f g)

pub rises_from : {A : Type 0} (key : A → ℕ) (xs : List A) → AllPairs (λ a b. a < b) (map key xs) → Rises key xs
rises_from key [] all = tt
rises_from key (x ∷ xs) all = (
  λ y m. all_has (λ b. key x < b) (map key xs) (pairs_head (λ a b. a < b) (key x) (map key xs) all) (key y) (has_map key xs y m),
  rises_from key xs (pairs_tail (λ a b. a < b) (key x) (map key xs) all),
)

pub rises_to : {A : Type 0} (key : A → ℕ) (xs : List A) → Rises key xs → AllPairs (λ a b. a < b) (map key xs)
rises_to key [] up = pairs_nil (λ a b. a < b)
rises_to key (x ∷ xs) up =
    AllPairs-cons (λ a b. a < b) (key x) (map key xs) (All-map (λ b. key x < b) key xs (has_all (λ y. key x < key y) xs up.0)) (rises_to key xs up.1)

pub rises_filter : {A : Type 0} (key : A → ℕ) (p : A → Bool) (xs : List A) → Rises key xs → Rises key (filter p xs)
rises_filter key p [] up = tt
rises_filter key p (x ∷ xs) up =
    let rest = rises_filter key p xs up.1 in
    elim (p x) as (λ b. Rises key (cond b (x ∷ filter p xs) (filter p xs))) [ true ↦ (λ y m. up.0 y (has_filter_from p xs y m).0, rest) | false ↦ rest ]

pub rises_map : {A B : Type 0} (key : A → ℕ) (other : B → ℕ) (f : A → B) (xs : List A) → ((x : A) → other (f x) ≡ key x) → Rises key xs → Rises other (map f xs)
rises_map key other f [] same up = tt
rises_map key other f (x ∷ xs) same up = (
  λ y m. let r = has_map_from f xs y m in let below = up.0 r.0 r.1 in let e = same x in let d = same r.0 in let k = ap other r.2 in omega (arith, below, e, d, k),
  rises_map key other f xs same up.1,
)

pub rises_push : {A : Type 0} (key : A → ℕ) (xs : List A) (y : A) → Rises key xs → ((x : A) → Has xs x → key x < key y) → Rises key (xs ++ y ∷ [])
rises_push key [] y up below = (λ z m. absurd m, tt)
rises_push {A} key (x ∷ xs) y up below = (above, rises_push key xs y up.1 (λ z m. below z (inr m)))
  where
    above : (z : A) → Has (xs ++ y ∷ []) z → key x < key z
    above z m = elim (has_either xs (y ∷ []) z m) [ inl a ↦ up.0 z a | inr b ↦ elim b [ inl e ↦ subst (λ w. key x < key w) e (below x (inl refl)) | inr n ↦ absurd n ] ]

-- of two members with one key
pub rises_one : {A : Type 0} (key : A → ℕ) (xs : List A) (x y : A) → Rises key xs → Has xs x → Has xs y → key x ≡ key y → x ≡ y
rises_one key [] x y up h k e = absurd h
rises_one key (z ∷ zs) x y up (inl h) (inl k) e = sym h ∙ k
rises_one key (z ∷ zs) x y up (inl h) (inr k) e = let l = up.0 y k in let d = ap key h in absurd (omega (arith, l, d, e))
rises_one key (z ∷ zs) x y up (inr h) (inl k) e = let l = up.0 x h in let d = ap key k in absurd (omega (arith, l, d, e))
rises_one key (z ∷ zs) x y up (inr h) (inr k) e = rises_one key zs x y up.1 h k e

-- of two or more members one has another key
pub rises_other : {A : Type 0} (key : A → ℕ) (xs : List A) (n : ℕ) → Rises key xs → 2 ≤ length xs → (x : A) × Has xs x × (key x ≡ n → ⊥)
rises_other key [] n up l = absurd (omega arith)
rises_other key (x ∷ []) n up l = absurd (omega arith)
rises_other key (x ∷ (y ∷ ys)) n up l = other (eqb (key x) n) refl
  where
    other : (b : Bool) → eqb (key x) n ≡ b → (z : _) × Has (x ∷ (y ∷ ys)) z × (key z ≡ n → ⊥)
    other true e = (y, inr (inl refl), λ same. let d = eqb-true (key x) n e in let below = up.0 y (inl refl) in omega (arith, d, same, below))
    other false e = (x, inl refl, λ same. false≢true (sym e ∙ eq-eqb (key x) n same))

-- the member with a key is found by it
pub find_key : {A : Type 0} (key : A → ℕ) (xs : List A) (x : A) (n : ℕ) → Rises key xs → Has xs x → key x ≡ n → find (λ y. key y == n) xs ≡ Some x
find_key {A} key xs x n up h e = found (find (λ y. key y == n) xs) refl
  where
    found : (o : Option A) → find (λ y. key y == n) xs ≡ o → find (λ y. key y == n) xs ≡ Some x
    found None is = absurd (false≢true (sym (find_none (λ y. key y == n) xs is x h) ∙ eq-eqb (key x) n e))
    found (Some y) is =
        let r = find_has (λ z. key z == n) xs y is in
        is ∙ ap Some (rises_one key xs y x up r.0 h (eqb-true (key y) n r.1 ∙ sym e))

-- two lists that rise and have the same members are one
pub rising_agree : {A : Type 0} (key : A → ℕ) (xs ys : List A) → Rises key xs → Rises key ys
    → ((x : A) → Has xs x → Has ys x) → ((x : A) → Has ys x → Has xs x) → xs ≡ ys
rising_agree key [] [] up above to from = refl
rising_agree key [] (y ∷ ys) up above to from = absurd (from y (inl refl))
rising_agree key (x ∷ xs) [] up above to from = absurd (to x (inl refl))
rising_agree {A} key (x ∷ xs) (y ∷ ys) up above to from =
    ap (λ a. a ∷ xs) same ∙ ap (λ (rest : List A). y ∷ rest) (rising_agree key xs ys up.1 above.1 forth back)
  where
    same : x ≡ y
    same = elim (to x (inl refl)) [
      | inl e ↦ sym e
      | inr m ↦ elim (from y (inl refl)) [ inl e ↦ e | inr n ↦ let a = above.0 x m in let b = up.0 y n in absurd (omega (arith, a, b)) ]
    ]

    forth : (z : A) → Has xs z → Has ys z
    forth z m = elim (to z (inr m)) [ inr n ↦ n | inl e ↦ let l = up.0 z m in let d = ap key (same ∙ e) in absurd (omega (arith, l, d)) ]

    back : (z : A) → Has ys z → Has xs z
    back z m = elim (from z (inr m)) [ inr n ↦ n | inl e ↦ let l = above.0 z m in let d = ap key (sym same ∙ e) in absurd (omega (arith, l, d)) ]
