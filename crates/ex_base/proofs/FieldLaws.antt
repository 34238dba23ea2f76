-- A number that was written is read again, and one that was read is written so.
use Rattle.std.proofs.Common.{◌≡◌, ℕ, ◌+◌, ◌^◌, ◌<◌, ◌≤◌, List, [], ◌∷◌, ◌++◌, length, take, drop, refl, sym, ap, ◌∙◌, arith, inl, inr}
use Rattle.std.proofs.lemmas.Bool.{cases_lt}
use Rattle.std.proofs.lemmas.List.{length-take, get_or-drop, get_or-take, get_or_past, take_at, append-nil}
use Rattle.byteorder.specs.Endian.{big_number, big_from, big_bytes}
use Rattle.byteorder.specs.Numbers.{big_from-lt, big_number-reads_back}
use Rattle.ex_base.specs.Bytes.{IsBytes}
use Rattle.ex_base.specs.Fields.{number_at, field_bytes, two_bytes, four_bytes, eight_bytes, length-field_bytes, bytes_of_number}

pub IsBytes-drop : (n : ℕ) (bytes : List ℕ) → IsBytes bytes → IsBytes (drop n bytes)
IsBytes-drop n bytes h i = rw get_or-drop (h (n + i))

pub IsBytes-take : (n : ℕ) (bytes : List ℕ) → IsBytes bytes → IsBytes (take n bytes)
IsBytes-take n bytes h i =
    elim (cases_lt i n) [
      | inl lt ↦ rw (get_or-take n bytes i 0 lt) (h i)
      | inr le ↦ rw (get_or_past (take n bytes) i 0 (omega (arith, length-take n bytes))) (omega arith)
    ]

-- ---- lists that begin alike

pub same_front : {A : Type 0} (xs ys a b : List A) → length xs ≡ length ys → xs ++ a ≡ ys ++ b → (xs ≡ ys) × (a ≡ b)
same_front [] [] a b len e = (refl, e)
same_front [] (y ∷ ys) a b len e = absurd (omega arith)
same_front (x ∷ xs) [] a b len e = absurd (omega arith)
same_front (x ∷ xs) (y ∷ ys) a b len e =
    let head : x ≡ y = cc in
    let tail : xs ++ a ≡ ys ++ b = cc in
    let rest = same_front xs ys a b (omega arith) tail in
    (cc (rest.0, head), rest.1)

-- ---- a width and its field

-- The field of a width holds each number below the limit, and reads back.
pub record IsField (width limit : ℕ) (field : ℕ → List ℕ) : Type 0 where
  pub len : (n : ℕ) → length (field n) ≡ width
  pub again : (n : ℕ) (rest : List ℕ) → n < limit → number_at width (field n ++ rest) 0 ≡ n
  pub back : (bytes : List ℕ) → width ≤ length bytes → IsBytes bytes → field (number_at width bytes 0) ≡ take width bytes
  pub below : (bytes : List ℕ) (at : ℕ) → IsBytes bytes → number_at width bytes at < limit

pub field_is : (width : ℕ) → IsField width (256 ^ width) (field_bytes width)
unfolding field_bytes number_at
field_is width = record {
  len = λ n. length-field_bytes width n;
  again = λ n rest lt. ap (big_number width) (take_at (big_bytes width n) rest width (length-field_bytes width n)) ∙ ap (big_from 0 width) (sym (append-nil (big_bytes width n))) ∙ big_number-reads_back width n [] lt;
  back = λ bytes long fits. bytes_of_number width (take width bytes) (omega (arith, length-take width bytes)) (IsBytes-take width bytes fits);
  below = λ bytes at fits. big_from-lt 0 width (take width (drop at bytes)) (IsBytes-take width _ (IsBytes-drop at bytes fits));
}

pub two_is : IsField 2 (2 ^ 16) two_bytes
two_is = field_is 2

pub four_is : IsField 4 (2 ^ 32) four_bytes
four_is = field_is 4

pub eight_is : IsField 8 (2 ^ 64) eight_bytes
eight_is = field_is 8

-- ---- two fields that begin alike

pub same_field : (width limit : ℕ) (field : ℕ → List ℕ) → IsField width limit field → (a b : ℕ) (x y : List ℕ) → a < limit → b < limit → field a ++ x ≡ field b ++ y → (a ≡ b) × (x ≡ y)
same_field width limit field is a b x y la lb e =
    let fronts = same_front (field a) (field b) x y (is.len a ∙ sym (is.len b)) e in
    (sym (is.again a x la) ∙ ap (λ (t : List ℕ). number_at width t 0) e ∙ is.again b y lb, fronts.1)

pub same_two : (a b : ℕ) (x y : List ℕ) → a < 2 ^ 16 → b < 2 ^ 16 → two_bytes a ++ x ≡ two_bytes b ++ y → (a ≡ b) × (x ≡ y)
same_two a b x y la lb e = same_field 2 (2 ^ 16) two_bytes two_is a b x y la lb e

pub same_four : (a b : ℕ) (x y : List ℕ) → a < 2 ^ 32 → b < 2 ^ 32 → four_bytes a ++ x ≡ four_bytes b ++ y → (a ≡ b) × (x ≡ y)
same_four a b x y la lb e = same_field 4 (2 ^ 32) four_bytes four_is a b x y la lb e

pub same_eight : (a b : ℕ) (x y : List ℕ) → a < 2 ^ 64 → b < 2 ^ 64 → eight_bytes a ++ x ≡ eight_bytes b ++ y → (a ≡ b) × (x ≡ y)
same_eight a b x y la lb e = same_field 8 (2 ^ 64) eight_bytes eight_is a b x y la lb e

-- a field further on
pub number_at-drop : (width : ℕ) (bytes : List ℕ) (at : ℕ) → number_at width bytes at ≡ number_at width (drop at bytes) 0
unfolding number_at
number_at-drop width bytes at = refl
