-- Lists with some items left out, lists with one item more, and lists of lists.
use Rattle.std.proofs.Common.{◌≡◌, suc, ◌≤◌, List, [], ◌∷◌, ◌++◌, length, map, All, AllPairs, refl, ap, sym, subst, ◌∙◌, arith, Bool, true, false, cond, inl, inr}
use Rattle.std.specs.Prelude.{flat_map, filter}
use Rattle.std.specs.List.Sorted.{IsPermutation}
use Rattle.std.proofs.lemmas.List.{map-append, append_assoc}
use Rattle.std.proofs.lemmas.List.Elements.{All-nil, All-cons, All-head, All-tail, All-append, All-map, filter-append}
use Rattle.std.proofs.lemmas.List.Kept.{AllPairs-cons}
use Rattle.std.proofs.lemmas.List.Sorted.{IsPermutation-refl, IsPermutation-trans, IsPermutation-append, IsPermutation-append_comm, IsPermutation-append_left, IsPermutation-append_right}
use Rattle.version_lists.proofs.Lists.{Has}

-- ---- two lists joined

pub all_front : {A : Type 0} (P : A → Type 0) (xs ys : List A) → All P (xs ++ ys) → All P xs
all_front P [] ys all = All-nil P
all_front P (x ∷ xs) ys all = All-cons P x xs (All-head P x (xs ++ ys) all) (all_front P xs ys (All-tail P x (xs ++ ys) all))

pub all_back : {A : Type 0} (P : A → Type 0) (xs ys : List A) → All P (xs ++ ys) → All P ys
all_back P [] ys all = all
all_back P (x ∷ xs) ys all = all_back P xs ys (All-tail P x (xs ++ ys) all)

-- ---- pairs of items

pub pairs_nil : {A : Type 0} (R : A → A → Type 0) → AllPairs R []
pairs_nil R = λ i j d h k. absurd (omega arith)

pub pairs_head : {A : Type 0} (R : A → A → Type 0) (x : A) (xs : List A) → AllPairs R (x ∷ xs) → All (R x) xs
pairs_head R x xs all = λ k d h. all 0 (suc k) d (omega arith) (omega arith)

pub pairs_tail : {A : Type 0} (R : A → A → Type 0) (x : A) (xs : List A) → AllPairs R (x ∷ xs) → AllPairs R xs
pairs_tail R x xs all = λ i j d h k. all (suc i) (suc j) d (omega arith) (omega arith)

pub pairs_weaker : {A : Type 0} (R S : A → A → Type 0) (xs : List A) → ((x y : A) → R x y → S x y) → AllPairs R xs → AllPairs S xs
pairs_weaker R S xs weaker all = λ i j d h k. weaker _ _ (all i j d h k)

pub pairs_map : {A B : Type 0} (R : B → B → Type 0) (f : A → B) (xs : List A) → AllPairs (λ x y. R (f x) (f y)) xs → AllPairs R (map f xs)
pairs_map R f [] all = pairs_nil R
pairs_map R f (x ∷ xs) all =
    AllPairs-cons R (f x) (map f xs) (All-map (R (f x)) f xs (pairs_head (λ x y. R (f x) (f y)) x xs all))
    (pairs_map R f xs (pairs_tail (λ x y. R (f x) (f y)) x xs all))

-- each item of the front stands so to each item of the back
pub pairs_cross : {A : Type 0} (R : A → A → Type 0) (xs ys : List A) → AllPairs R (xs ++ ys) → All (λ x. All (R x) ys) xs
pairs_cross R [] ys all = All-nil (λ x. All (R x) ys)
pairs_cross R (x ∷ xs) ys all =
    All-cons (λ x. All (R x) ys) x xs (all_back (R x) xs ys (pairs_head R x (xs ++ ys) all)) (pairs_cross R xs ys (pairs_tail R x (xs ++ ys) all))

pub pairs_front : {A : Type 0} (R : A → A → Type 0) (xs ys : List A) → AllPairs R (xs ++ ys) → AllPairs R xs
pairs_front R [] ys all = pairs_nil R
pairs_front R (x ∷ xs) ys all =
    AllPairs-cons R x xs (all_front (R x) xs ys (pairs_head R x (xs ++ ys) all)) (pairs_front R xs ys (pairs_tail R x (xs ++ ys) all))

pub pairs_back : {A : Type 0} (R : A → A → Type 0) (xs ys : List A) → AllPairs R (xs ++ ys) → AllPairs R ys
pairs_back R [] ys all = all
pairs_back R (x ∷ xs) ys all = pairs_back R xs ys (pairs_tail R x (xs ++ ys) all)

-- ---- items of items

-- what holds of each item of each list holds of their items joined
pub all_joined : {A B : Type 0} (P : B → Type 0) (f : A → List B) (xs : List A) → All (λ x. All P (f x)) xs → All P (flat_map f xs)
all_joined P f [] all = All-nil P
all_joined P f (x ∷ xs) all = All-append P (f x) (flat_map f xs) (All-head (λ x. All P (f x)) x xs all) (all_joined P f xs (All-tail (λ x. All P (f x)) x xs all))

-- and the other way round
pub all_parted : {A B : Type 0} (P : B → Type 0) (f : A → List B) (xs : List A) → All P (flat_map f xs) → All (λ x. All P (f x)) xs
all_parted P f [] all = All-nil (λ x. All P (f x))
all_parted P f (x ∷ xs) all =
    All-cons (λ x. All P (f x)) x xs (all_front P (f x) (flat_map f xs) all) (all_parted P f xs (all_back P (f x) (flat_map f xs) all))

pub pairs_parted : {A B : Type 0} (R : B → B → Type 0) (f : A → List B) (xs : List A) → AllPairs R (flat_map f xs) → All (λ x. AllPairs R (f x)) xs
pairs_parted R f [] all = All-nil (λ x. AllPairs R (f x))
pairs_parted R f (x ∷ xs) all =
    All-cons (λ x. AllPairs R (f x)) x xs (pairs_front R (f x) (flat_map f xs) all) (pairs_parted R f xs (pairs_back R (f x) (flat_map f xs) all))

-- what holds of the images of items
pub all_unmapped : {A B : Type 0} (P : B → Type 0) (f : A → B) (xs : List A) → All P (map f xs) → All (λ x. P (f x)) xs
all_unmapped P f [] all = All-nil (λ x. P (f x))
all_unmapped P f (x ∷ xs) all =
    All-cons (λ x. P (f x)) x xs (All-head P (f x) (map f xs) all) (all_unmapped P f xs (All-tail P (f x) (map f xs) all))

pub pairs_unmapped : {A B : Type 0} (R : B → B → Type 0) (f : A → B) (xs : List A) → AllPairs R (map f xs) → AllPairs (λ x y. R (f x) (f y)) xs
pairs_unmapped R f [] all = pairs_nil (λ x y. R (f x) (f y))
pairs_unmapped R f (x ∷ xs) all =
    AllPairs-cons (λ x y. R (f x) (f y)) x xs (all_unmapped (R (f x)) f xs (pairs_head R (f x) (map f xs) all))
    (pairs_unmapped R f xs (pairs_tail R (f x) (map f xs) all))

pub map_map : {A B C : Type 0} (g : B → C) (f : A → B) (xs : List A) → map g (map f xs) ≡ map (λ x. g (f x)) xs
map_map g f [] = refl
map_map g f (x ∷ xs) = ap (λ rest. g (f x) ∷ rest) (map_map g f xs)

-- two functions that agree at each item
pub maps_agree : {A B : Type 0} (f g : A → B) (xs : List A) → All (λ x. f x ≡ g x) xs → map f xs ≡ map g xs
maps_agree f g [] all = refl
maps_agree f g (x ∷ xs) all =
    let rest = maps_agree f g xs (All-tail (λ x. f x ≡ g x) x xs all) in
    ap (λ y. y ∷ map f xs) (All-head (λ x. f x ≡ g x) x xs all) ∙ ap (λ rest. g x ∷ rest) rest

pub flat_map_of_map : {A B C : Type 0} (g : B → List C) (f : A → B) (xs : List A) → flat_map g (map f xs) ≡ flat_map (λ x. g (f x)) xs
flat_map_of_map g f [] = refl
flat_map_of_map g f (x ∷ xs) = ap (λ rest. g (f x) ++ rest) (flat_map_of_map g f xs)

pub map_of_flat_map : {A B C : Type 0} (g : B → C) (f : A → List B) (xs : List A) → map g (flat_map f xs) ≡ flat_map (λ x. map g (f x)) xs
map_of_flat_map g f [] = refl
map_of_flat_map g f (x ∷ xs) = map-append g (f x) (flat_map f xs) ∙ ap (λ rest. map g (f x) ++ rest) (map_of_flat_map g f xs)

pub filter_of_flat_map : {A B : Type 0} (p : B → Bool) (f : A → List B) (xs : List A) → filter p (flat_map f xs) ≡ flat_map (λ x. filter p (f x)) xs
filter_of_flat_map p f [] = refl
filter_of_flat_map p f (x ∷ xs) = filter-append p (f x) (flat_map f xs) ∙ ap (λ rest. filter p (f x) ++ rest) (filter_of_flat_map p f xs)

-- each list in another order
pub flat_permuted : {A B : Type 0} (f g : A → List B) (xs : List A) → ((x : A) → Has xs x → IsPermutation (f x) (g x)) → IsPermutation (flat_map f xs) (flat_map g xs)
flat_permuted f g [] each = IsPermutation-refl []
flat_permuted f g (x ∷ xs) each =
    IsPermutation-append (f x) (g x) (flat_map f xs) (flat_map g xs) (each x (inl refl)) (flat_permuted f g xs (λ y m. each y (inr m)))

-- the fronts of all lists, and then their backs
pub flat_parted : {A B : Type 0} (f g : A → List B) (xs : List A) → IsPermutation (flat_map (λ x. f x ++ g x) xs) (flat_map f xs ++ flat_map g xs)
flat_parted f g [] = IsPermutation-refl []
flat_parted {A} {B} f g (x ∷ xs) =
    IsPermutation-trans ((f x ++ g x) ++ flat_map (λ x. f x ++ g x) xs) ((f x ++ g x) ++ (fronts ++ backs)) ((f x ++ fronts) ++ (g x ++ backs))
    (IsPermutation-append_right (f x ++ g x) (flat_map (λ x. f x ++ g x) xs) (fronts ++ backs) (flat_parted f g xs))
    (subst (λ l. IsPermutation l ((f x ++ fronts) ++ (g x ++ backs))) (sym apart) (subst (IsPermutation (f x ++ ((g x ++ fronts) ++ backs))) together moved))
  where
    fronts : List B
    fronts = flat_map f xs

    backs : List B
    backs = flat_map g xs

    apart : (f x ++ g x) ++ (fronts ++ backs) ≡ f x ++ ((g x ++ fronts) ++ backs)
    apart = append_assoc (f x) (g x) (fronts ++ backs) ∙ ap (λ l. f x ++ l) (sym (append_assoc (g x) fronts backs))

    together : f x ++ ((fronts ++ g x) ++ backs) ≡ (f x ++ fronts) ++ (g x ++ backs)
    together = ap (λ l. f x ++ l) (append_assoc fronts (g x) backs) ∙ sym (append_assoc (f x) fronts (g x ++ backs))

    moved : IsPermutation (f x ++ ((g x ++ fronts) ++ backs)) (f x ++ ((fronts ++ g x) ++ backs))
    moved = IsPermutation-append_right (f x) ((g x ++ fronts) ++ backs) ((fronts ++ g x) ++ backs)
        (IsPermutation-append_left backs (g x ++ fronts) (fronts ++ g x) (IsPermutation-append_comm (g x) fronts))

-- ---- a list with some items left out

pub data Part {A : Type 0} : List A → List A → Type 0 where
  ended : Part [] []
  kept : {x : A} {xs ys : List A} → Part xs ys → Part (x ∷ xs) (x ∷ ys)
  left : {y : A} {xs ys : List A} → Part xs ys → Part xs (y ∷ ys)

pub part_same : {A : Type 0} (xs : List A) → Part xs xs
part_same [] = ended
part_same (x ∷ xs) = kept (part_same xs)

pub part_append : {A : Type 0} {xs ys vs ws : List A} → Part xs ys → Part vs ws → Part (xs ++ vs) (ys ++ ws)
part_append ended more = more
part_append (kept p) more = kept (part_append p more)
part_append (left p) more = left (part_append p more)

pub part_joined : {A B : Type 0} (f g : A → List B) (xs : List A) → ((x : A) → Part (f x) (g x)) → Part (flat_map f xs) (flat_map g xs)
part_joined f g [] each = ended
part_joined f g (x ∷ xs) each = part_append (each x) (part_joined f g xs each)

part_none : {A : Type 0} (xs : List A) → Part [] xs
part_none [] = ended
part_none (x ∷ xs) = left (part_none xs)

pub part_flat : {A B : Type 0} {xs ys : List A} (f : A → List B) → Part xs ys → Part (flat_map f xs) (flat_map f ys)
part_flat f ended = ended
part_flat f (kept {x} p) = part_append (part_same (f x)) (part_flat f p)
part_flat f (left {y} p) = part_append (part_none (f y)) (part_flat f p)

pub part_filter : {A : Type 0} (p : A → Bool) (xs : List A) → Part (filter p xs) xs
part_filter p [] = ended
part_filter p (x ∷ xs) =
    elim (p x) as (λ b. Part (cond b (x ∷ filter p xs) (filter p xs)) (x ∷ xs)) [ true ↦ kept (part_filter p xs) | false ↦ left (part_filter p xs) ]

pub part_map : {A B : Type 0} {xs ys : List A} (f : A → B) → Part xs ys → Part (map f xs) (map f ys)
part_map f ended = ended
part_map f (kept p) = kept (part_map f p)
part_map f (left p) = left (part_map f p)

pub part_all : {A : Type 0} {xs ys : List A} (P : A → Type 0) → Part xs ys → All P ys → All P xs
part_all P ended all = all
part_all P (kept {x} {xs} {ys} p) all = All-cons P x xs (All-head P x ys all) (part_all P p (All-tail P x ys all))
part_all P (left {y} {xs} {ys} p) all = part_all P p (All-tail P y ys all)

pub part_pairs : {A : Type 0} {xs ys : List A} (R : A → A → Type 0) → Part xs ys → AllPairs R ys → AllPairs R xs
part_pairs R ended all = all
part_pairs R (kept {x} {xs} {ys} p) all = AllPairs-cons R x xs (part_all (R x) p (pairs_head R x ys all)) (part_pairs R p (pairs_tail R x ys all))
part_pairs R (left {y} {xs} {ys} p) all = part_pairs R p (pairs_tail R y ys all)

pub part_length : {A : Type 0} {xs ys : List A} → Part xs ys → length xs ≤ length ys
part_length ended = omega arith
part_length (kept p) = let h = part_length p in omega arith
part_length (left p) = let h = part_length p in omega arith

-- ---- a list with one item more

pub data More {A : Type 0} (v : A) : List A → List A → Type 0 where
  here : {xs : List A} → More v xs (v ∷ xs)
  past : {x : A} {xs ys : List A} → More v xs ys → More v (x ∷ xs) (x ∷ ys)

pub more_end : {A : Type 0} {v : A} (xs : List A) → More v xs (xs ++ v ∷ [])
more_end [] = here
more_end (x ∷ xs) = past (more_end xs)

pub more_all : {A : Type 0} {v : A} {xs ys : List A} (P : A → Type 0) → More v xs ys → P v → All P xs → All P ys
more_all {A} {v} P (here {xs}) new all = All-cons P v xs new all
more_all P (past {x} {xs} {ys} m) new all = All-cons P x ys (All-head P x xs all) (more_all P m new (All-tail P x xs all))

pub more_pairs : {A : Type 0} {v : A} {xs ys : List A} (R : A → A → Type 0) → More v xs ys → All (R v) xs → All (λ x. R x v) xs → AllPairs R xs → AllPairs R ys
more_pairs {A} {v} R (here {xs}) after before all = AllPairs-cons R v xs after all
more_pairs {A} {v} R (past {x} {xs} {ys} m) after before all =
    AllPairs-cons R x ys (more_all (R x) m (All-head (λ x. R x v) x xs before) (pairs_head R x xs all))
    (more_pairs R m (All-tail (R v) x xs after) (All-tail (λ x. R x v) x xs before) (pairs_tail R x xs all))

pub more_length : {A : Type 0} {v : A} {xs ys : List A} → More v xs ys → length ys ≡ suc (length xs)
more_length here = refl
more_length (past m) = ap suc (more_length m)

-- an item that has none of its own adds none
pub more_flat : {A B : Type 0} {v : A} {xs ys : List A} (f : A → List B) → More v xs ys → f v ≡ [] → flat_map f ys ≡ flat_map f xs
more_flat f (here {xs}) none = ap (λ l. l ++ flat_map f xs) none
more_flat f (past {x} m) none = ap (λ rest. f x ++ rest) (more_flat f m none)
