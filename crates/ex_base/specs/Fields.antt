-- Numbers in fields of a page: big-endian and unsigned. What a field of a page or of a place names.
use Rattle.std.specs.Prelude.{◌≡◌, ◌<◌, ◌≤◌, ℕ, zero, suc, ◌+◌, ◌-◌, ◌*◌, ◌^◌, List, [], ◌∷◌, ◌++◌, length, take, drop, replicate, slice_index, Option, Some, None, All}
use Rattle.std.proofs.Common.{sym, ◌∙◌, ap, subst, arith, inl, inr}
use Rattle.std.proofs.Math.Nat.{mod-lt}
use Rattle.std.proofs.lemmas.List.{append-nil, ext_get_or, nil_from_length, get_or_past, take_at, drop_at, drop-drop, drop-replicate}
use Rattle.std.proofs.lemmas.Nat.{same_from_place}
use Rattle.std.proofs.lemmas.Bool.{cases_lt}
use Rattle.std.specs.Int.{byte_at}
use Rattle.byteorder.specs.Endian.{big_number, big_from}
pub use Rattle.byteorder.specs.Endian.{big_bytes}
use Rattle.byteorder.specs.Numbers.{big_from-cons, big_from-lt, length-bytes_high_first, big_number-reads_back}
use Rattle.ex_base.specs.declared.names.PageNo.{PageNo}
use Rattle.ex_base.specs.declared.names.Place.{Place}
use Rattle.ex_base.specs.Bytes.{IsBytes, bytes_at, written, part, repl, length-part, get-part, length-repl, repl-below, repl-above, repl-inside, part-repl}

-- the number in the field of n bytes that begins at place p
unfoldable pub number_at : ℕ → List ℕ → ℕ → ℕ
number_at n b p = big_number n (bytes_at b p n)

-- the bytes of a field of n bytes with this number
unfoldable pub field_bytes : ℕ → ℕ → List ℕ
field_bytes n value = big_bytes n value

abbrev pub two_bytes : ℕ → List ℕ
two_bytes n = field_bytes 2 n

abbrev pub four_bytes : ℕ → List ℕ
four_bytes n = field_bytes 4 n

abbrev pub eight_bytes : ℕ → List ℕ
eight_bytes n = field_bytes 8 n

abbrev pub zeros : ℕ → List ℕ
zeros n = replicate n 0

abbrev pub AreZero : List ℕ → Type 0
AreZero bytes = All (λ b. b ≡ 0) bytes

-- the bytes and then zeros, up to a size
abbrev pub padded : ℕ → List ℕ → List ℕ
padded size bytes = bytes ++ zeros (size - length bytes)

-- ---- fields that name a page or a place, or nothing

-- a page number, 0 for none
abbrev pub page_field : Option PageNo → List ℕ
page_field None = four_bytes 0
page_field (Some page) = four_bytes page.0

-- a page and a slot, all zero for none
abbrev pub place_field : Option Place → List ℕ
place_field None = zeros 6
place_field (Some place) = four_bytes place.page.0 ++ two_bytes place.slot

-- what has a page field: any page but 0, which stands for none
abbrev pub IsPageField : Option PageNo → Type 0
IsPageField None = Unit {0}
IsPageField (Some page) = (0 < page.0) × (page.0 < 2 ^ 32)

-- what has a place field: any place but the one of zeros
abbrev pub IsPlaceField : Option Place → Type 0
IsPlaceField None = Unit {0}
IsPlaceField (Some place) = (0 < place.page.0 + place.slot) × (place.page.0 < 2 ^ 32) × (place.slot < 2 ^ 16)

-- the page that a number names
abbrev pub page_read : ℕ → Option PageNo
page_read zero = None
page_read (suc n) = Some (record { 0 = suc n })

-- the page that a field names, whatever stands there
unfoldable pub page_in : List ℕ → ℕ → Option PageNo
page_in bytes at = page_read (number_at 4 bytes at)

-- the place that two numbers name
abbrev pub place_read : ℕ → ℕ → Option Place
place_read zero zero = None
place_read zero (suc slot) = Some (record { page = record { 0 = 0 }; slot = suc slot })
place_read (suc page) slot = Some (record { page = record { 0 = suc page }; slot = slot })

-- the place that a field names, whatever stands there
unfoldable pub place_in : List ℕ → ℕ → Option Place
place_in bytes at = place_read (number_at 4 bytes at) (number_at 2 bytes (at + 4))

-- ---- the laws of numbers in fields

pub length-big_bytes : (n value : ℕ) → length (big_bytes n value) ≡ n
length-big_bytes n value = length-bytes_high_first n value

pub length-field_bytes : (n value : ℕ) → length (field_bytes n value) ≡ n
unfolding field_bytes
length-field_bytes n value = length-big_bytes n value

byte_at-lt : (k value : ℕ) → byte_at k value < 256
byte_at-lt zero value = mod-lt value (omega arith)
byte_at-lt (suc k) value = mod-lt _ (omega arith)

pub big_bytes_are_bytes : (n value : ℕ) → IsBytes (big_bytes n value)
big_bytes_are_bytes zero value i = omega arith
big_bytes_are_bytes (suc n) value zero = byte_at-lt n value
big_bytes_are_bytes (suc n) value (suc i) = big_bytes_are_bytes n value i

-- a number determines its bytes
same_bytes : (n : ℕ) (x y : List ℕ) → length x ≡ n → length y ≡ n → IsBytes x → IsBytes y → big_from 0 n x ≡ big_from 0 n y → x ≡ y
same_bytes zero x y hx hy bx by_ is = nil_from_length x hx ∙ sym (nil_from_length y hy)
same_bytes (suc n) [] y hx hy bx by_ is = absurd (omega arith)
same_bytes (suc n) (a ∷ x) [] hx hy bx by_ is = absurd (omega arith)
same_bytes (suc n) (a ∷ x) (b ∷ y) hx hy bx by_ is =
    let one = big_from-lt 0 n x (λ i. bx (suc i)) in
    let two = big_from-lt 0 n y (λ i. by_ (suc i)) in
    let whole : a * 256 ^ n + big_from 0 n x ≡ b * 256 ^ n + big_from 0 n y =
    ap (λ (r : ℕ). a * 256 ^ n + r) (sym (big_from-cons 0 n a x)) ∙ is ∙ ap (λ (r : ℕ). b * 256 ^ n + r) (big_from-cons 0 n b y) in
    let both = same_from_place a (big_from 0 n x) b (big_from 0 n y) (256 ^ n) one two whole in
    let rest = same_bytes n x y (omega (arith, hx)) (omega (arith, hy)) (λ i. bx (suc i)) (λ i. by_ (suc i)) both.1 in
    (λ i. both.0 i ∷ rest i)

-- the bytes of the number that bytes spell are these bytes
pub bytes_of_number : (n : ℕ) (x : List ℕ) → length x ≡ n → IsBytes x → big_bytes n (big_number n x) ≡ x
bytes_of_number n x long bytes =
    let fits = big_from-lt 0 n x bytes in
    let reads : big_from 0 n (big_bytes n (big_number n x)) ≡ big_from 0 n x =
    ap (big_from 0 n) (sym (append-nil (big_bytes n (big_number n x)))) ∙ big_number-reads_back n (big_number n x) [] fits in
    same_bytes n (big_bytes n (big_number n x)) x (length-big_bytes n (big_number n x)) long (big_bytes_are_bytes n (big_number n x)) bytes reads

pub part_is_bytes : (b : List ℕ) (p n : ℕ) → p + n ≤ length b → IsBytes b → IsBytes (part b p n)
part_is_bytes b p n fits bytes i = elim (cases_lt i n) [
  | inl lt ↦ subst (λ (v : ℕ). v < 256) (sym (get-part b p n i lt)) (bytes (p + i))
  | inr le ↦ subst (λ (v : ℕ). v < 256) (sym (get_or_past (part b p n) i 0 (omega (arith, le, length-part b p n fits)))) (omega arith)
]

-- what stands there, written again, changes nothing
pub repl_part : (b : List ℕ) (p n : ℕ) → p + n ≤ length b → repl b p (part b p n) ≡ b
repl_part b p n fits =
    let long = length-part b p n fits in
    let room : p + length (part b p n) ≤ length b = omega (arith, long, fits) in
    ext_get_or 0 (repl b p (part b p n)) b (length-repl b p (part b p n) room) (λ i lt. at_place i room long)
  where
    at_place : (i : ℕ) → p + length (part b p n) ≤ length b → length (part b p n) ≡ n → slice_index (repl b p (part b p n)) i ≡ slice_index b i
    at_place i room long = elim (cases_lt i p) [
      | inl lt ↦ repl-below b p (part b p n) i room lt
      | inr le ↦ elim (cases_lt i (p + n)) [
        | inl lt ↦
            let place : p + (i - p) ≡ i = omega (arith, le) in
            subst (λ (k : ℕ). slice_index (repl b p (part b p n)) k ≡ slice_index b k) place
            (repl-inside b p (part b p n) (i - p) room (omega (arith, le, lt, long)) ∙ get-part b p n (i - p) (omega (arith, le, lt)))
        | inr above ↦ repl-above b p (part b p n) i room (omega (arith, above, long))
      ]
    ]

-- a number that is put is got back
pub number_at-put : (b : List ℕ) (p n value : ℕ) → p + n ≤ length b → value < 256 ^ n → number_at n (written b p (field_bytes n value)) p ≡ value
unfolding number_at field_bytes repl part
number_at-put b p n value fits small =
    let long = length-big_bytes n value in
    let room : p + length (big_bytes n value) ≤ length b = omega (arith, long, fits) in
    let there : part (repl b p (big_bytes n value)) p n ≡ big_bytes n value =
    ap (λ (k : ℕ). part (repl b p (big_bytes n value)) p k) (sym long) ∙ part-repl b p (big_bytes n value) room in
    ap (big_number n) there ∙ ap (big_from 0 n) (sym (append-nil (big_bytes n value))) ∙ big_number-reads_back n value [] small

-- The law of a field of n bytes: a put of what get gave at the same place changes nothing.
abbrev pub PutSame : ℕ → Type 0
PutSame n = (b : List ℕ) (p : ℕ) → p + n ≤ length b → IsBytes b → written b p (field_bytes n (number_at n b p)) ≡ b

pub put_same : (n : ℕ) → PutSame n
unfolding number_at field_bytes repl part
put_same n b p fits bytes =
    ap (λ (x : List ℕ). repl b p x) (bytes_of_number n (part b p n) (length-part b p n fits) (part_is_bytes b p n fits bytes)) ∙ repl_part b p n fits

-- one more number behind what was written, in a page of zero bytes
pub put_next : (now done : List ℕ) (n k m value : ℕ) → now ≡ done ++ replicate m 0 → length done ≡ n → written now n (field_bytes k value) ≡ done ++ field_bytes k value ++ replicate (m - k) 0
put_next now done n k m value is long =
    let size = length-field_bytes k value in
    let behind : drop (n + length (field_bytes k value)) (done ++ replicate m 0) ≡ replicate (m - k) 0 =
    sym (drop-drop (length (field_bytes k value)) n (done ++ replicate m 0))
    ∙ ap (λ (l : List ℕ). drop (length (field_bytes k value)) l) (drop_at done (replicate m 0) n long)
    ∙ drop-replicate (length (field_bytes k value)) m 0
    ∙ ap (λ (j : ℕ). replicate (m - j) 0) size in
    ap (λ (b : List ℕ). take n b ++ field_bytes k value ++ drop (n + length (field_bytes k value)) b) is
    ∙ ap (λ (l : List ℕ). l ++ field_bytes k value ++ drop (n + length (field_bytes k value)) (done ++ replicate m 0)) (take_at done (replicate m 0) n long)
    ∙ ap (λ (l : List ℕ). done ++ field_bytes k value ++ l) behind

-- a number that was got, spelled again
pub field_bytes-got : (b : List ℕ) (p n : ℕ) → p + n ≤ length b → IsBytes b → field_bytes n (number_at n b p) ≡ part b p n
unfolding field_bytes number_at part
field_bytes-got b p n fits bytes = bytes_of_number n (part b p n) (length-part b p n fits) (part_is_bytes b p n fits bytes)

-- a number that is spelled is got
pub number_at-spelled : (b : List ℕ) (p n value : ℕ) (rest : List ℕ) → drop p b ≡ field_bytes n value ++ rest → value < 256 ^ n → (number_at n b p ≡ value) × (drop (p + n) b ≡ rest)
unfolding field_bytes number_at
number_at-spelled b p n value rest is small =
    let long = length-big_bytes n value in
    let front : take n (drop p b) ≡ big_bytes n value = ap (take n) is ∙ take_at (big_bytes n value) rest n long in
    let reads : big_number n (big_bytes n value) ≡ value = ap (big_from 0 n) (sym (append-nil (big_bytes n value))) ∙ big_number-reads_back n value [] small in
    (ap (big_number n) front ∙ reads, sym (drop-drop n p b) ∙ ap (drop n) is ∙ drop_at (big_bytes n value) rest n long)

-- a number determines its field
pub field_bytes-same : (n a b : ℕ) → a < 256 ^ n → b < 256 ^ n → field_bytes n a ≡ field_bytes n b → a ≡ b
unfolding field_bytes
field_bytes-same n a b la lb e =
    let one = big_number-reads_back n a [] la in
    let two = big_number-reads_back n b [] lb in
    sym one ∙ ap (λ (l : List ℕ). big_from 0 n (l ++ [])) e ∙ two
