-- How far the versions of an object are listed.
use Rattle.std.proofs.Common.{◌≡◌, ◌<◌, ℕ, suc, zero, Bool, true, false, List, [], ◌∷◌, ◌++◌, length, map, take, Option, Some, None, refl, sym, ap, ◌∙◌, arith}
use Rattle.std.specs.Prelude.{if◌then◌else◌, filter, reverse, slice_index_or}
use Rattle.std.specs.List.{find, flat_map}
use Rattle.std.proofs.lemmas.Grind.{flat_map-append}
use Rattle.std.proofs.lemmas.List.{append-nil, append_assoc, map-append, reverse-append, reverse-reverse}
use Rattle.ex_base.specs.declared.names.Oid.{Oid}
use Rattle.versions.specs.Versions.{place_of}
use Rattle.version_tree.specs.Lineage.{below, climbed, comes_from, derived_among, first_from, listed_from, older_at, rest_of}
use Rattle.version_tree.specs.declared.lineage.Member.{Member}
use Rattle.version_tree.specs.declared.lineage.Rest.{Rest}

-- ---- the version at a place

behind : {A : Type 0} (b : Bool) (y : A) (r s t : Option A) → (if b then Some y else r) ≡ None → (r ≡ None → s ≡ t) → (if b then Some y else s) ≡ t
behind true y r s t none h = absurd cc
behind false y r s t none h = h none

pub find_here : {A : Type 0} (p : A → Bool) (xs : List A) (i : ℕ) (d : A) → i < length xs → find p (take i xs) ≡ None → p (slice_index_or xs i d) ≡ true → find p xs ≡ Some (slice_index_or xs i d)
find_here p [] i d short none does = absurd (omega (arith, short))
find_here p (y ∷ ys) zero d short none does = ap (λ (b : Bool). if b then Some y else find p ys) does
find_here p (y ∷ ys) (suc i) d short none does =
    behind (p y) y (find p (take i ys)) (find p ys) (Some (slice_index_or ys i d)) none (λ n. find_here p ys i d (omega (arith, short)) n does)

pub find_next : {A : Type 0} (p : A → Bool) (xs : List A) (i n : ℕ) (d : A) → n ≡ suc i → i < length xs → find p (take i xs) ≡ None → p (slice_index_or xs i d) ≡ false → find p (take n xs) ≡ None
find_next p xs i zero d is short none not_it = absurd (omega (arith, is))
find_next p [] i (suc m) d is short none not_it = absurd (omega (arith, short))
find_next p (y ∷ ys) zero (suc m) d is short none not_it =
    let e : m ≡ 0 = omega (arith, is) in
    ap (λ (b : Bool). if b then Some y else find p (take m ys)) not_it ∙ ap (λ (k : ℕ). find p (take k ys)) e
find_next p (y ∷ ys) (suc i) (suc m) d is short none not_it =
    behind (p y) y (find p (take i ys)) (find p (take m ys)) None none (λ n. find_next p ys i m d (omega (arith, is)) (omega (arith, short)) n not_it)

-- ---- the climb

pub first_stops : (n : ℕ) (members : List Member) (member : Member) → older_at members member.older ≡ None → first_from n members member ≡ member
unfolding first_from
first_stops zero members member none = refl
first_stops (suc n) members member none = ap (climbed (first_from n members) member) none

pub first_steps : (n k : ℕ) (members : List Member) (member older : Member) → n ≡ suc k → older_at members member.older ≡ Some older → first_from n members member ≡ first_from k members older
unfolding first_from
first_steps zero k members member older is some = absurd (omega (arith, is))
first_steps (suc n) k members member older is some =
    let e : n ≡ k = omega (arith, is) in
    ap (climbed (first_from n members) member) some ∙ ap (λ (m : ℕ). first_from m members older) e

pub first_ends : (n : ℕ) (members : List Member) (member : Member) → n ≡ 0 → first_from n members member ≡ member
unfolding first_from
first_ends zero members member is = refl
first_ends (suc n) members member is = absurd (omega (arith, is))

-- ---- what is derived from a version

abbrev pub rest_at : ℕ → Member → Rest
rest_at n member = record { member = member; levels = n }

-- these of the versions are below one, to be listed so many levels deep
abbrev pub AreBelow : ℕ → List Member → Member → List Rest → Type 0
AreBelow levels members member rests = rests ≡ map (rest_at levels) (derived_among members member)

pub below_none : (levels : ℕ) (member : Member) → AreBelow levels [] member []
below_none levels member = refl

one_below : (levels : ℕ) (member x : Member) (b : Bool) → map (rest_at levels) (if b then x ∷ [] else []) ≡ (if b then rest_at levels x ∷ [] else [])
one_below levels member x true = refl
one_below levels member x false = refl

filter_app : (p : Member → Bool) (xs ys : List Member) → filter p (xs ++ ys) ≡ filter p xs ++ filter p ys
filter_app p [] ys = refl
filter_app p (x ∷ xs) ys = by_test (p x) (filter_app p xs ys)
  where
    by_test : (b : Bool) → filter p (xs ++ ys) ≡ filter p xs ++ filter p ys → (if b then x ∷ filter p (xs ++ ys) else filter p (xs ++ ys)) ≡ (if b then x ∷ filter p xs else filter p xs) ++ filter p ys
    by_test true e = ap (λ (t : List Member). x ∷ t) e
    by_test false e = e

pub below_next : (levels : ℕ) (front : List Member) (member x : Member) (rests now : List Rest) → AreBelow levels front member rests
    → now ≡ rests ++ (if comes_from (place_of member.oid) x then rest_at levels x ∷ [] else []) → AreBelow levels (front ++ x ∷ []) member now
below_next levels front member x rests now are is =
    is ∙ ap (λ (t : List Rest). t ++ (if comes_from (place_of member.oid) x then rest_at levels x ∷ [] else [])) are
    ∙ ap (λ (t : List Rest). map (rest_at levels) (derived_among front member) ++ t) (sym (one_below levels member x (comes_from (place_of member.oid) x)))
    ∙ sym (map-append (rest_at levels) (derived_among front member) (derived_among (x ∷ []) member))
    ∙ ap (map (rest_at levels)) (sym (filter_app (comes_from (place_of member.oid)) front (x ∷ [])))

pub below_all : (levels left : ℕ) (run members : List Member) (member : Member) (rests : List Rest) → levels ≡ suc left → derived_among run member ≡ derived_among members member → AreBelow left run member rests → rests ≡ below levels members member
below_all zero left run members member rests is same are = absurd (omega (arith, is))
below_all (suc n) left run members member rests is same are =
    let e : left ≡ n = omega (arith, is) in are ∙ ap (map (rest_at left)) same ∙ ap (λ (k : ℕ). map (rest_at k) (derived_among members member)) e

pub below_end : (levels : ℕ) (members : List Member) (member : Member) → levels ≡ 0 → [] ≡ below levels members member
below_end zero members member is = refl
below_end (suc n) members member is = absurd (omega (arith, is))

-- ---- the order

-- what is still to be listed: what comes next stands last
abbrev pub to_list : List Member → List Rest → List Member
to_list members todo = flat_map (rest_of members) (reverse todo)

map_rests : (n : ℕ) (members xs : List Member) → flat_map (rest_of members) (map (rest_at n) xs) ≡ flat_map (listed_from n members) xs
map_rests n members [] = refl
map_rests n members (x ∷ xs) = ap (λ (t : List Member). listed_from n members x ++ t) (map_rests n members xs)

rest_is : (n : ℕ) (members : List Member) (member : Member) → listed_from n members member ≡ member ∷ flat_map (rest_of members) (below n members member)
unfolding listed_from
rest_is zero members member = refl
rest_is (suc n) members member = ap (λ (t : List Member). member ∷ t) (sym (map_rests n members (derived_among members member)))

pub popped : (members : List Member) (todo rest now : List Rest) (x : Rest) → todo ≡ rest ++ x ∷ [] → now ≡ rest ++ reverse (below x.levels members x.member) → to_list members todo ≡ x.member ∷ to_list members now
popped members todo rest now x is then_is =
    let kids = below x.levels members x.member in
    let front : reverse todo ≡ x ∷ reverse rest = ap reverse is ∙ reverse-append rest (x ∷ []) in
    let back : reverse now ≡ kids ++ reverse rest = ap reverse then_is ∙ reverse-append rest (reverse kids) ∙ ap (λ (t : List Rest). t ++ reverse rest) (reverse-reverse kids) in
    ap (flat_map (rest_of members)) front ∙ ap (λ (t : List Member). t ++ to_list members rest) (rest_is x.levels members x.member)
    ∙ ap (λ (t : List Member). x.member ∷ t) (sym (ap (flat_map (rest_of members)) back ∙ flat_map-append (rest_of members) kids (reverse rest)))

abbrev pub oids_in : List Member → List Oid
oids_in members = map (λ (m : Member). m.oid) members

-- What is listed and what is still to be listed are all.
abbrev pub InOrder : List Member → List Member → List Rest → List Oid → Type 0
InOrder members all todo oids = oids ++ oids_in (to_list members todo) ≡ oids_in all

pub order_start : (n : ℕ) (members all : List Member) (first : Member) (todo : List Rest) → todo ≡ rest_at n first ∷ [] → listed_from n members first ≡ all → InOrder members all todo []
order_start n members all first todo is all_is =
    ap oids_in (ap (to_list members) is ∙ append-nil (listed_from n members first) ∙ all_is)

pub order_next : (members all : List Member) (todo rest now : List Rest) (x : Rest) (oids oids_now : List Oid) → todo ≡ rest ++ x ∷ [] → now ≡ rest ++ reverse (below x.levels members x.member) → oids_now ≡ oids ++ x.member.oid ∷ []
    → InOrder members all todo oids → InOrder members all now oids_now
order_next members all todo rest now x oids oids_now is then_is oids_is order =
    ap (λ (t : List Oid). t ++ oids_in (to_list members now)) oids_is ∙ append_assoc oids (x.member.oid ∷ []) (oids_in (to_list members now))
    ∙ ap (λ (t : List Oid). oids ++ t) (sym (ap oids_in (popped members todo rest now x is then_is))) ∙ order

pub order_ends : (members all : List Member) (todo : List Rest) (oids : List Oid) → todo ≡ [] → InOrder members all todo oids → oids ≡ oids_in all
order_ends members all todo oids is order = sym (append-nil oids) ∙ ap (λ (t : List Rest). oids ++ oids_in (to_list members t)) (sym is) ∙ order

pub fewer : (members : List Member) (todo rest now : List Rest) (x : Rest) → todo ≡ rest ++ x ∷ [] → now ≡ rest ++ reverse (below x.levels members x.member) → length (to_list members now) < length (to_list members todo)
fewer members todo rest now x is then_is = omega (arith, ap length (popped members todo rest now x is then_is))
