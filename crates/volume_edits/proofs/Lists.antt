-- Lists: membership, counts, and one item among others.
use Rattle.std.proofs.Common.{◌≡◌, ◌≢◌, ℕ, suc, ◌+◌, ◌≤◌, List, [], ◌∷◌, ◌++◌, length, map, refl, sym, ap, subst, ◌∙◌, arith, inl, inr, ◌⊎◌}
use Rattle.std.specs.List.{flat_map, AllByRecursion, AllZip, zip}
use Rattle.std.specs.List.Sorted.{IsPermutation}
use Rattle.std.proofs.lemmas.List.Sorted.{IsPermutation-sym, IsPermutation-trans, IsPermutation-cons, IsPermutation-middle, IsPermutation-refl}
use Rattle.std.proofs.lemmas.List.{map-append}
use Rattle.std.proofs.lemmas.List.Concat.{flat_map-append}
use Rattle.ex_base.specs.Order.{AllDiffer}
use Rattle.ex_base.specs.Ports.{times}
use Rattle.ex_base.proofs.Rows.{each-append}
use Rattle.ex_base.proofs.Each.{split_each}
use Rattle.ex_base.proofs.Counts.{differ_once, once_differ, same_or_not, times-append, times_apart, times_here}
use Rattle.ex_base.proofs.Members.{In, contains_in, in_either, in_left, in_right}

-- ---- membership

pub in_times : (x : ℕ) (xs : List ℕ) → In x xs → 1 ≤ times x xs
in_times x [] h = absurd h
in_times x (y ∷ xs) (inl e) = omega (arith, times_here x y xs e)
in_times x (y ∷ xs) (inr h) = elim (same_or_not x y) [
  | inl same ↦ omega (arith, times_here x y xs same)
  | inr differ ↦ omega (arith, times_apart x y xs differ, in_times x xs h)
]

pub times_in : (x : ℕ) (xs : List ℕ) → 1 ≤ times x xs → In x xs
times_in x [] h = absurd (omega arith)
times_in x (y ∷ xs) h = elim (same_or_not x y) [
  | inl same ↦ inl same
  | inr differ ↦ inr (times_in x xs (omega (arith, times_apart x y xs differ)))
]

-- ---- what holds of each item

-- the three parts of a list
pub each_around : {A : Type 0} (P : A → Type 0) (xs ys zs : List A) → AllByRecursion P (xs ++ (ys ++ zs)) → AllByRecursion P xs × AllByRecursion P ys × AllByRecursion P zs
each_around P xs ys zs h = let one = split_each P xs (ys ++ zs) h in let two = split_each P ys zs one.1 in (one.0, two.0, two.1)

pub each_between : {A : Type 0} (P : A → Type 0) (xs ys zs : List A) → AllByRecursion P xs → AllByRecursion P ys → AllByRecursion P zs → AllByRecursion P (xs ++ (ys ++ zs))
each_between P xs ys zs p q r = each-append P xs (ys ++ zs) p (each-append P ys zs q r)

pub map_around : {A B : Type 0} (f : A → B) (xs ys zs : List A) → map f (xs ++ (ys ++ zs)) ≡ map f xs ++ (map f ys ++ map f zs)
map_around {B = B} f xs ys zs = map-append f xs (ys ++ zs) ∙ ap (λ (t : List B). map f xs ++ t) (map-append f ys zs)

pub flat_around : {A B : Type 0} (f : A → List B) (xs ys zs : List A) → flat_map f (xs ++ (ys ++ zs)) ≡ flat_map f xs ++ (flat_map f ys ++ flat_map f zs)
flat_around {B = B} f xs ys zs = flat_map-append f xs (ys ++ zs) ∙ ap (λ (t : List B). flat_map f xs ++ t) (flat_map-append f ys zs)

pub times_around : (n : ℕ) (xs ys zs : List ℕ) → times n (xs ++ (ys ++ zs)) ≡ times n xs + (times n ys + times n zs)
times_around n xs ys zs = omega (arith, times-append n xs (ys ++ zs), times-append n ys zs)

-- ---- two lists side by side

abbrev pub Paired : {A B : Type 0} → List A → List B → Type 0
Paired {A} {B} xs ys = AllZip (λ (x : A) (y : B). Unit {0}) xs ys

pub as_long : {A B : Type 0} (R : A → B → Type 0) (xs : List A) (ys : List B) → AllZip R xs ys → length xs ≡ length ys
as_long R [] [] h = refl
as_long R [] (y ∷ ys) h = absurd h
as_long R (x ∷ xs) [] h = absurd h
as_long R (x ∷ xs) (y ∷ ys) h = ap suc (as_long R xs ys h.1)

pub zip_split : {A B : Type 0} (R : A → B → Type 0) (xs ys : List A) (us vs : List B) → Paired xs us → AllZip R (xs ++ ys) (us ++ vs) → AllZip R xs us × AllZip R ys vs
zip_split R [] ys [] vs p h = (tt, h)
zip_split R [] ys (u ∷ us) vs p h = absurd p
zip_split R (x ∷ xs) ys [] vs p h = absurd p
zip_split R (x ∷ xs) ys (u ∷ us) vs p h = let rest = zip_split R xs ys us vs p.1 h.1 in ((h.0, rest.0), rest.1)

pub zip_joined : {A B : Type 0} (R : A → B → Type 0) (xs ys : List A) (us vs : List B) → AllZip R xs us → AllZip R ys vs → AllZip R (xs ++ ys) (us ++ vs)
zip_joined R [] ys [] vs p q = q
zip_joined R [] ys (u ∷ us) vs p q = absurd p
zip_joined R (x ∷ xs) ys [] vs p q = absurd p
zip_joined R (x ∷ xs) ys (u ∷ us) vs p q = (p.0, zip_joined R xs ys us vs p.1 q)

pub zip_append : {A B : Type 0} (xs ys : List A) (us vs : List B) → Paired xs us → zip (xs ++ ys) (us ++ vs) ≡ zip xs us ++ zip ys vs
zip_append [] ys [] vs p = refl
zip_append [] ys (u ∷ us) vs p = absurd p
zip_append (x ∷ xs) ys [] vs p = absurd p
zip_append (x ∷ xs) ys (u ∷ us) vs p = let rest = zip_append xs ys us vs p.1 in cc rest

-- ---- two lists of the same items

abbrev pub Keyed : {A : Type 0} → (A → ℕ) → List A → Type 0
Keyed key xs = AllDiffer (map key xs)

in_mapped : {A : Type 0} (key : A → ℕ) (x : A) (xs : List A) → In x xs → In (key x) (map key xs)
in_mapped key x [] h = absurd h
in_mapped key x (y ∷ xs) (inl e) = inl (ap key e)
in_mapped key x (y ∷ xs) (inr h) = inr (in_mapped key x xs h)

pub cut_at : {A : Type 0} (x : A) (xs : List A) → In x xs → (front : List A) × (back : List A) × (xs ≡ front ++ (x ∷ back))
cut_at x [] h = absurd h
cut_at x (y ∷ xs) (inl e) = ([], xs, ap (λ z. z ∷ xs) (sym e))
cut_at x (y ∷ xs) (inr h) = let rest = cut_at x xs h in (y ∷ rest.0, rest.1, ap (λ t. y ∷ t) rest.2)

-- an item before or behind another one
pub in_rest : {A : Type 0} (z x : A) (xs ys : List A) → In z (xs ++ ys) → In z (xs ++ (x ∷ ys))
in_rest z x xs ys h = elim (in_either z xs ys h) [ inl k ↦ in_left z xs (x ∷ ys) k | inr k ↦ in_right z xs (x ∷ ys) (inr k) ]

pub out_rest : {A : Type 0} (z x : A) (xs ys : List A) → In z (xs ++ (x ∷ ys)) → (z ≡ x) ⊎ In z (xs ++ ys)
out_rest z x xs ys h = elim (in_either z xs (x ∷ ys) h) [
  | inl k ↦ inr (in_left z xs ys k)
  | inr k ↦ elim k [ inl e ↦ inl e | inr m ↦ inr (in_right z xs ys m) ]
]

-- an item of the rest has another number
pub key_differs : {A : Type 0} (key : A → ℕ) (z x : A) (xs ys : List A) → Keyed key (xs ++ (x ∷ ys)) → In z (xs ++ ys) → key z ≢ key x
key_differs key z x xs ys keyed h same =
    let once = differ_once (map key (xs ++ (x ∷ ys))) keyed (key x) in
    let count : times (key x) (map key (xs ++ (x ∷ ys))) ≡ times (key x) (map key xs) + (times (key x) (key x ∷ []) + times (key x) (map key ys)) = ap (times (key x)) (map_around key xs (x ∷ []) ys) ∙ times_around (key x) (map key xs) (key x ∷ []) (map key ys) in
    let own = times_here (key x) (key x) [] refl in
    let both : In (key z) (map key xs ++ map key ys) = subst (λ t. In (key z) t) (map-append key xs ys) (in_mapped key z (xs ++ ys) h) in
    let some = in_times (key x) (map key xs ++ map key ys) (subst (λ n. In n (map key xs ++ map key ys)) same both) in
    omega (arith, once, count, own, some, times-append (key x) (map key xs) (map key ys))

pub keyed_less : {A : Type 0} (key : A → ℕ) (x : A) (xs ys : List A) → AllDiffer (map key (xs ++ (x ∷ ys))) → AllDiffer (map key (xs ++ ys))
keyed_less key x xs ys keyed = once_differ (map key (xs ++ ys)) (λ n.
    let once = differ_once (map key (xs ++ (x ∷ ys))) keyed n in
    let count : times n (map key (xs ++ (x ∷ ys))) ≡ times n (map key xs) + (times n (key x ∷ []) + times n (map key ys)) = ap (times n) (map_around key xs (x ∷ []) ys) ∙ times_around n (map key xs) (key x ∷ []) (map key ys) in
    let less : times n (map key (xs ++ ys)) ≡ times n (map key xs) + times n (map key ys) = ap (times n) (map-append key xs ys) ∙ times-append n (map key xs) (map key ys) in
    omega (arith, once, count, less))

pub permuted : {A : Type 0} (key : A → ℕ) (xs ys : List A) → Keyed key xs → Keyed key ys → ((z : A) → In z xs → In z ys) → ((z : A) → In z ys → In z xs) → IsPermutation xs ys
permuted key [] [] p q to from = IsPermutation-refl []
permuted key [] (y ∷ ys) p q to from = absurd (from y (inl refl))
permuted key (x ∷ xs) ys p q to from =
    let cut = cut_at x ys (to x (inl refl)) in
    let keyed : Keyed key (cut.0 ++ (x ∷ cut.1)) = subst (Keyed key) cut.2 q in
    let rest = permuted key xs (cut.0 ++ cut.1) p.1 (keyed_less key x cut.0 cut.1 keyed)
    (λ z h. elim (out_rest z x cut.0 cut.1 (subst (In z) cut.2 (to z (inr h)))) [
      | inl e ↦ absurd (p.0 (contains_in (key x) (map key xs) (subst (λ n. In n (map key xs)) (ap key e) (in_mapped key z xs h))))
      | inr k ↦ k
    ])
    (λ z h. elim (from z (subst (In z) (sym cut.2) (in_rest z x cut.0 cut.1 h))) [
      | inl e ↦ absurd (key_differs key z x cut.0 cut.1 keyed h (ap key e))
      | inr k ↦ k
    ]) in
    subst (IsPermutation (x ∷ xs)) (sym cut.2) (IsPermutation-trans (x ∷ xs) (x ∷ (cut.0 ++ cut.1)) (cut.0 ++ (x ∷ cut.1)) (IsPermutation-cons x xs (cut.0 ++ cut.1) rest) (IsPermutation-sym (cut.0 ++ (x ∷ cut.1)) (x ∷ (cut.0 ++ cut.1)) (IsPermutation-middle cut.0 x cut.1)))
