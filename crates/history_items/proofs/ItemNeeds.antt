-- Needs, shown step by step: a front of fixed length, and then the whole item.
use Rattle.std.proofs.Common.{◌≡◌, ℕ, ◌+◌, ◌<◌, ◌≤◌, Bool, true, false, ◌==◌, ◌&&◌, nat_lt, List, [], ◌++◌, length, drop, take, Option, Some, None, refl, sym, ap, ◌∙◌, arith}
use Rattle.std.specs.Prelude.{if◌then◌else◌, slice_index}
use Rattle.std.proofs.lemmas.Bool.{eqb-false, eqb-true, ltb-false, ltb-true}
use Rattle.std.proofs.lemmas.List.{append-nil, drop-append-le, get_or_append_left, length-append, length-drop, nil_from_length, take-append-le}
use Rattle.std.proofs.lemmas.Option.{same_Some}
use Rattle.disk_model.specs.Outside.{BeginsWith}
use Rattle.ex_base.specs.Fields.{number_at}
use Rattle.history_items.specs.Needs.{Needs, need_behind, need_whole}

-- ---- what stands in a front stands in the whole

pub number_in_front : (n : ℕ) (bytes rest : List ℕ) (p : ℕ) → p + n ≤ length bytes → number_at n (bytes ++ rest) p ≡ number_at n bytes p
unfolding number_at
number_in_front n bytes rest p fits =
    let same : take n (drop p (bytes ++ rest)) ≡ take n (drop p bytes) = ap (take n) (drop-append-le p bytes rest (omega arith)) ∙ take-append-le n (drop p bytes) rest (omega (arith, length-drop p bytes)) in
    cc

pub byte_in_front : (bytes rest : List ℕ) (p : ℕ) → p < length bytes → slice_index (bytes ++ rest) p ≡ slice_index bytes p
byte_in_front bytes rest p lt = get_or_append_left bytes rest 0 p lt

-- the same of what begins so
pub number_begun : (n : ℕ) (s bytes : List ℕ) (p : ℕ) → BeginsWith s bytes → p + n ≤ length bytes → number_at n bytes p ≡ number_at n s p
number_begun n s bytes p (rest, e) fits = sym (number_in_front n bytes rest p fits) ∙ ap (λ (t : List ℕ). number_at n t p) (sym e)

pub byte_begun : (s bytes : List ℕ) (p : ℕ) → BeginsWith s bytes → p < length bytes → slice_index bytes p ≡ slice_index s p
byte_begun s bytes p (rest, e) lt = sym (byte_in_front bytes rest p lt) ∙ ap (λ (t : List ℕ). slice_index t p) (sym e)

pub length_begun : (s bytes : List ℕ) → BeginsWith s bytes → length bytes ≤ length s
length_begun s bytes (rest, e) = omega (arith, ap length e, length-append bytes rest)

-- what begins so and is no longer is the same
pub all_begun : (s bytes : List ℕ) → BeginsWith s bytes → length s ≤ length bytes → bytes ≡ s
all_begun s bytes (rest, e) le =
    let none : rest ≡ [] = nil_from_length rest (omega (arith, ap length e, length-append bytes rest)) in
    sym (append-nil bytes) ∙ ap (λ (t : List ℕ). bytes ++ t) (sym none) ∙ sym e

-- ---- answers

pub needs_more : (A : Type 0) (Is : A → Type 0) (spell : A → List ℕ) (most : ℕ) (bytes : List ℕ) (front : ℕ) → length bytes < front → front ≤ most → ((a : A) → Is a → BeginsWith (spell a) bytes → front ≤ length (spell a)) → Needs A Is spell most bytes (Some front)
needs_more A Is spell most bytes front short few long = record {
  ahead = omega arith;
  least = long;
  whole = λ e. absurd (let same : front ≡ length bytes = same_Some front (length bytes) e in omega arith);
  none = λ e a is begins. cc;
  few = few;
}

pub needs_none : (A : Type 0) (Is : A → Type 0) (spell : A → List ℕ) (most : ℕ) (bytes : List ℕ) → ((a : A) → Is a → BeginsWith (spell a) bytes → ⊥) → Needs A Is spell most bytes None
needs_none A Is spell most bytes none = record {
  ahead = tt;
  least = λ a is begins. tt;
  whole = λ e. absurd (cc);
  none = λ e. none;
  few = tt;
}

pub needs_all : (A : Type 0) (Is : A → Type 0) (spell : A → List ℕ) (most : ℕ) (bytes : List ℕ) (whole : ℕ) → length bytes ≡ whole → whole ≤ most → (a : A) × Is a × (bytes ≡ spell a) → Needs A Is spell most bytes (Some whole)
needs_all A Is spell most bytes whole len few made = record {
  ahead = omega arith;
  least = λ a is begins. let le = length_begun (spell a) bytes begins in omega arith;
  whole = λ e. made;
  none = λ e a is begins. cc;
  few = few;
}

-- ---- a front, and then what is behind it

pub needs_behind : (A : Type 0) (Is : A → Type 0) (spell : A → List ℕ) (most : ℕ) (bytes : List ℕ) (front : ℕ) (good : Bool) (behind : Option ℕ) → front ≤ most
    → ((a : A) → Is a → front ≤ length (spell a))
    → (front ≤ length bytes → (a : A) → Is a → BeginsWith (spell a) bytes → good ≡ true)
    → (front ≤ length bytes → good ≡ true → Needs A Is spell most bytes behind)
    → Needs A Is spell most bytes (need_behind front (length bytes) good behind)
needs_behind A Is spell most bytes front good behind few long passes goes = by_tests (nat_lt (length bytes) front) good refl passes goes
  where
    by_tests : (short good : Bool) → nat_lt (length bytes) front ≡ short → (front ≤ length bytes → (a : A) → Is a → BeginsWith (spell a) bytes → good ≡ true) → (front ≤ length bytes → good ≡ true → Needs A Is spell most bytes behind) → Needs A Is spell most bytes (if short then Some front else if good then behind else None)
    by_tests true good e passes goes = needs_more A Is spell most bytes front (ltb-true (length bytes) front e) few (λ a is begins. long a is)
    by_tests false true e passes goes = goes (ltb-false (length bytes) front e) refl
    by_tests false false e passes goes = needs_none A Is spell most bytes (λ a is begins. let no = passes (ltb-false (length bytes) front e) a is begins in cc)

-- ---- the whole item

pub needs_whole : (A : Type 0) (Is : A → Type 0) (spell : A → List ℕ) (most : ℕ) (bytes : List ℕ) (whole : ℕ) (good : Bool) → whole ≤ most
    → ((a : A) → Is a → BeginsWith (spell a) bytes → length (spell a) ≡ whole)
    → ((a : A) → Is a → bytes ≡ spell a → good ≡ true)
    → (length bytes ≡ whole → good ≡ true → (a : A) × Is a × (bytes ≡ spell a))
    → Needs A Is spell most bytes (need_whole whole (length bytes) good)
needs_whole A Is spell most bytes whole good few long passes made = by_tests (nat_lt (length bytes) whole) (length bytes == whole) good refl refl passes made
  where
    by_tests : (short same good : Bool) → nat_lt (length bytes) whole ≡ short → (length bytes == whole) ≡ same → ((a : A) → Is a → bytes ≡ spell a → good ≡ true) → (length bytes ≡ whole → good ≡ true → (a : A) × Is a × (bytes ≡ spell a)) → Needs A Is spell most bytes (if short then Some whole else if same && good then Some whole else None)
    by_tests true same good e f passes made = needs_more A Is spell most bytes whole (ltb-true (length bytes) whole e) few (λ a is begins. let is_long = long a is begins in omega arith)
    by_tests false true true e f passes made = needs_all A Is spell most bytes whole (eqb-true (length bytes) whole f) few (made (eqb-true (length bytes) whole f) refl)
    by_tests false true false e f passes made = needs_none A Is spell most bytes (λ a is begins.
        let same : length bytes ≡ whole = eqb-true (length bytes) whole f in
        let is_long = long a is begins in
        let no = passes a is (all_begun (spell a) bytes begins (omega arith)) in
        cc)
    by_tests false false good e f passes made = needs_none A Is spell most bytes (λ a is begins.
        let is_long = long a is begins in
        let le = length_begun (spell a) bytes begins in
        let ge = ltb-false (length bytes) whole e in
        eqb-false (length bytes) whole f (omega arith))
