-- A number put into a list that rises, or taken out of it.
use Rattle.std.proofs.Common.{◌≡◌, ◌≢◌, ◌≤◌, ◌<◌, ◌+◌, ℕ, true, false, List, [], ◌∷◌, ◌++◌, nat_lt, refl, sym, ap, ◌∙◌, arith, ltb-true, ltb-false, lt-ltb, le-ltb, eqb, eq-eqb}
use Rattle.std.specs.Prelude.{if◌then◌else◌}
use Rattle.std.proofs.lemmas.List.{append-nil}
use Rattle.std.specs.List.{AllByRecursion}
use Rattle.file_index.specs.Index.{Rises}
use Rattle.file_index.specs.Edits.{put_in, take_out}
use Rattle.file_index.proofs.Picking.{rises_weak, rises_back, rises_low}
use Rattle.ex_base.proofs.Counts.{not_equal}

-- what follows is empty, or begins above the key
abbrev pub IsAbove : ℕ → List ℕ → Type 0
IsAbove key [] = Unit {0}
IsAbove key (x ∷ xs) = key < x

-- what goes before is empty, or the list begins not above the key
abbrev pub IsBehind : ℕ → List ℕ → List ℕ → Type 0
IsBehind key [] ys = Unit {0}
IsBehind key (x ∷ xs) [] = ⊥
IsBehind key (x ∷ xs) (y ∷ ys) = y ≤ key

-- An edit that does its work where a key stands in a list that rises: among other numbers it leaves what is before and behind.
pub record IsLocal (key : ℕ) (edit : List ℕ → List ℕ) : Type 0 where
  pub middle : (a : ℕ) (xs ys zs : List ℕ) → Rises a (xs ++ (ys ++ zs)) → IsBehind key xs (ys ++ zs) → IsAbove key zs → edit (xs ++ (ys ++ zs)) ≡ xs ++ (edit ys ++ zs)
  pub rises : (xs : List ℕ) → Rises 0 xs → Rises 0 (edit xs)

-- ---- a number put in

pub put_here : (key x : ℕ) (xs : List ℕ) → key < x → put_in key (x ∷ xs) ≡ key ∷ x ∷ xs
put_here key x xs lt = let test : nat_lt key x ≡ true = lt-ltb key x lt in rw test refl

pub put_later : (key x : ℕ) (xs : List ℕ) → x < key → put_in key (x ∷ xs) ≡ x ∷ put_in key xs
put_later key x xs lt =
    let test : nat_lt key x ≡ false = le-ltb key x (omega arith) in
    let other : eqb key x ≡ false = not_equal key x (λ same. omega arith) in
    rw (test, other) refl

pub put_again : (key x : ℕ) (xs : List ℕ) → x ≡ key → put_in key (x ∷ xs) ≡ x ∷ xs
put_again key x xs same =
    let test : nat_lt key x ≡ false = le-ltb key x (omega arith) in
    let here : eqb key x ≡ true = eq-eqb key x (sym same) in
    rw (test, here) refl

-- in front of a number that is above it
put_before : (key z : ℕ) (xs zs : List ℕ) → key < z → put_in key (xs ++ z ∷ zs) ≡ put_in key xs ++ z ∷ zs
put_before key z [] zs lt = put_here key z zs lt
put_before key z (x ∷ xs) zs lt =
    elim (nat_lt key x) as (λ t. (if t then key ∷ x ∷ (xs ++ z ∷ zs) else if eqb key x then x ∷ (xs ++ z ∷ zs) else x ∷ put_in key (xs ++ z ∷ zs)) ≡ (if t then key ∷ x ∷ xs else if eqb key x then x ∷ xs else x ∷ put_in key xs) ++ z ∷ zs) [
      | true ↦ refl
      | false ↦ elim (eqb key x) as (λ t. (if t then x ∷ (xs ++ z ∷ zs) else x ∷ put_in key (xs ++ z ∷ zs)) ≡ (if t then x ∷ xs else x ∷ put_in key xs) ++ z ∷ zs) [
        | true ↦ refl
        | false ↦ ap (λ (t : List ℕ). x ∷ t) (put_before key z xs zs lt)
      ]
    ]

-- behind a number that is not above it
put_behind : (a key y : ℕ) (xs ys : List ℕ) → Rises a (xs ++ y ∷ ys) → y ≤ key → put_in key (xs ++ y ∷ ys) ≡ xs ++ put_in key (y ∷ ys)
put_behind a key y [] ys h le = refl
put_behind a key y (x ∷ xs) ys h le =
    let below : x + 1 ≤ y = rises_low (x + 1) y xs ys h.1 in
    put_later key x (xs ++ y ∷ ys) (omega arith) ∙ ap (λ (t : List ℕ). x ∷ t) (put_behind (x + 1) key y xs ys h.1 le)

put_high : (key : ℕ) (xs ys : List ℕ) → IsAbove key ys → put_in key (xs ++ ys) ≡ put_in key xs ++ ys
put_high key xs [] h = ap (put_in key) (append-nil xs) ∙ sym (append-nil (put_in key xs))
put_high key xs (y ∷ ys) h = put_before key y xs ys h

put_low : (a key : ℕ) (xs ys : List ℕ) → Rises a (xs ++ ys) → IsBehind key xs ys → put_in key (xs ++ ys) ≡ xs ++ put_in key ys
put_low a key [] ys rises h = refl
put_low a key (x ∷ xs) [] rises h = absurd h
put_low a key (x ∷ xs) (y ∷ ys) rises h = put_behind a key y (x ∷ xs) ys rises h

put_rises : (a key : ℕ) (xs : List ℕ) → a ≤ key → Rises a xs → Rises a (put_in key xs)
put_rises a key [] le rises = (le, tt)
put_rises a key (x ∷ xs) le rises =
    (elim (nat_lt key x) as (λ t. nat_lt key x ≡ t → Rises a (if t then key ∷ x ∷ xs else if eqb key x then x ∷ xs else x ∷ put_in key xs)) [
      | true ↦ λ t. (le, (omega (arith, ltb-true key x t), rises.1))
      | false ↦ λ t. (elim (eqb key x) as (λ u. eqb key x ≡ u → Rises a (if u then x ∷ xs else x ∷ put_in key xs)) [
        | true ↦ λ u. rises
        | false ↦ λ u.
            let differ : key ≡ x → ⊥ = λ same. absurd (let now : eqb key x ≡ true = eq-eqb key x same in cc) in
            let more : x + 1 ≤ key = omega (arith, ltb-false key x t, differ) in
            (rises.0, put_rises (x + 1) key xs more rises.1)
      ]) refl
    ]) refl

pub put_local : (key : ℕ) → IsLocal key (put_in key)
put_local key = record {
  middle = λ a xs ys zs rises low high. put_low a key xs (ys ++ zs) rises low ∙ ap (λ (t : List ℕ). xs ++ t) (put_high key ys zs high);
  rises = λ xs rises. put_rises 0 key xs (omega arith) rises;
}

-- ---- a number taken out

pub out_here : (key x : ℕ) (xs : List ℕ) → x ≡ key → take_out key (x ∷ xs) ≡ take_out key xs
out_here key x xs same = let here : eqb key x ≡ true = eq-eqb key x (sym same) in rw here refl

pub out_other : (key x : ℕ) (xs : List ℕ) → x ≢ key → take_out key (x ∷ xs) ≡ x ∷ take_out key xs
out_other key x xs differ = let other : eqb key x ≡ false = not_equal key x (λ same. differ (sym same)) in rw other refl

pub out_joined : (key : ℕ) (xs ys : List ℕ) → take_out key (xs ++ ys) ≡ take_out key xs ++ take_out key ys
out_joined key [] ys = refl
out_joined key (x ∷ xs) ys =
    elim (eqb key x) as (λ t. (if t then take_out key (xs ++ ys) else x ∷ take_out key (xs ++ ys)) ≡ (if t then take_out key xs else x ∷ take_out key xs) ++ take_out key ys) [
      | true ↦ out_joined key xs ys
      | false ↦ ap (λ (t : List ℕ). x ∷ t) (out_joined key xs ys)
    ]

-- the key is none of the numbers
abbrev pub Lacks : ℕ → List ℕ → Type 0
Lacks key xs = AllByRecursion (λ x. x ≢ key) xs

pub out_lacks : (key : ℕ) (xs : List ℕ) → Lacks key xs → take_out key xs ≡ xs
out_lacks key [] lacks = refl
out_lacks key (x ∷ xs) lacks = out_other key x xs lacks.0 ∙ ap (λ (t : List ℕ). x ∷ t) (out_lacks key xs lacks.1)

lacks_over : (a key : ℕ) (xs : List ℕ) → key < a → Rises a xs → Lacks key xs
lacks_over a key [] lt rises = tt
lacks_over a key (x ∷ xs) lt rises = (λ same. omega (arith, rises.0), lacks_over (x + 1) key xs (omega (arith, rises.0)) rises.1)

pub lacks_high : (a key : ℕ) (xs : List ℕ) → Rises a xs → IsAbove key xs → Lacks key xs
lacks_high a key [] rises high = tt
lacks_high a key (x ∷ xs) rises high = (λ same. omega arith, lacks_over (x + 1) key xs (omega arith) rises.1)

lacks_under : (a key y : ℕ) (xs ys : List ℕ) → Rises a (xs ++ y ∷ ys) → y ≤ key → Lacks key xs
lacks_under a key y [] ys rises le = tt
lacks_under a key y (x ∷ xs) ys rises le =
    let below : x + 1 ≤ y = rises_low (x + 1) y xs ys rises.1 in
    (λ same. omega arith, lacks_under (x + 1) key y xs ys rises.1 le)

pub lacks_low : (a key : ℕ) (xs ys : List ℕ) → Rises a (xs ++ ys) → IsBehind key xs ys → Lacks key xs
lacks_low a key [] ys rises low = tt
lacks_low a key (x ∷ xs) [] rises low = absurd low
lacks_low a key (x ∷ xs) (y ∷ ys) rises low = lacks_under a key y (x ∷ xs) ys rises low

pub lacks_front : (key : ℕ) (xs ys : List ℕ) → Lacks key (xs ++ ys) → Lacks key xs
lacks_front key [] ys lacks = tt
lacks_front key (x ∷ xs) ys lacks = (lacks.0, lacks_front key xs ys lacks.1)

pub lacks_back : (key : ℕ) (xs ys : List ℕ) → Lacks key (xs ++ ys) → Lacks key ys
lacks_back key [] ys lacks = lacks
lacks_back key (x ∷ xs) ys lacks = lacks_back key xs ys lacks.1

-- among numbers that aren't the key
pub out_middle : (key : ℕ) (xs ys zs : List ℕ) → Lacks key xs → Lacks key zs → take_out key (xs ++ (ys ++ zs)) ≡ xs ++ (take_out key ys ++ zs)
out_middle key xs ys zs front back =
    out_joined key xs (ys ++ zs) ∙ ap (λ (t : List ℕ). t ++ take_out key (ys ++ zs)) (out_lacks key xs front)
    ∙ ap (λ (t : List ℕ). xs ++ t) (out_joined key ys zs ∙ ap (λ (t : List ℕ). take_out key ys ++ t) (out_lacks key zs back))

out_rises : (a key : ℕ) (xs : List ℕ) → Rises a xs → Rises a (take_out key xs)
out_rises a key [] rises = tt
out_rises a key (x ∷ xs) rises =
    elim (eqb key x) as (λ t. Rises a (if t then take_out key xs else x ∷ take_out key xs)) [
      | true ↦ rises_weak a (x + 1) (take_out key xs) (omega (arith, rises.0)) (out_rises (x + 1) key xs rises.1)
      | false ↦ (rises.0, out_rises (x + 1) key xs rises.1)
    ]

pub out_local : (key : ℕ) → IsLocal key (take_out key)
out_local key = record {
  middle = λ a xs ys zs rises low high. out_middle key xs ys zs (lacks_low a key xs (ys ++ zs) rises low) (lacks_high a key zs (rises_back a ys zs (rises_back a xs (ys ++ zs) rises)) high);
  rises = λ xs rises. out_rises 0 key xs rises;
}
