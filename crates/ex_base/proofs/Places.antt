-- Fields one behind the other: what is read where they stand, and how bytes are spelled by what is read of them.
use Rattle.std.proofs.Common.{◌≡◌, ℕ, zero, suc, ◌+◌, ◌^◌, ◌<◌, ◌≤◌, ◌≢◌, List, [], ◌∷◌, ◌++◌, length, take, drop, Option, Some, None, refl, sym, ap, subst, ◌∙◌, arith, append_assoc}
use Rattle.std.proofs.lemmas.List.{drop-drop, drop_at, take_at, length-append, length-drop, length-take, take-append-drop}
use Rattle.std.proofs.lemmas.List.Elements.{All-head, All-tail, All-replicate}
use Rattle.ex_base.specs.declared.names.PageNo.{PageNo}
use Rattle.ex_base.specs.declared.names.Place.{Place}
use Rattle.ex_base.specs.Bytes.{IsBytes, bytes_at, written}
use Rattle.ex_base.specs.Fields.{field_bytes, two_bytes, four_bytes, zeros, number_at, page_field, place_field, IsPageField, IsPlaceField, page_read, page_in, place_read, place_in, AreZero}
use Rattle.ex_base.proofs.FieldLaws.{IsBytes-drop, IsField, two_is, four_is, number_at-drop}

-- ---- zeros

pub zero_run : (xs : List ℕ) → AreZero xs → xs ≡ zeros (length xs)
zero_run [] h = refl
zero_run (x ∷ xs) h =
    let head : x ≡ 0 = All-head (λ b. b ≡ 0) x xs h in
    let rest : xs ≡ zeros (length xs) = zero_run xs (All-tail (λ b. b ≡ 0) x xs h) in
    cc (head, rest)

pub zeros_are : (n : ℕ) → AreZero (zeros n)
zeros_are n = All-replicate (λ b. b ≡ 0) n 0 refl

pub AreZero-as : (xs : List ℕ) (n : ℕ) → xs ≡ zeros n → AreZero xs
AreZero-as xs n e = subst AreZero (sym e) (zeros_are n)

-- ---- going on behind a field

pub behind_more : {A : Type 0} (s field t : List A) (at k next : ℕ) → drop at s ≡ field ++ t → length field ≡ k → at + k ≡ next → drop next s ≡ t
behind_more s field t at k next e len is =
    ap (λ (n : ℕ). drop n s) (sym is) ∙ sym (drop-drop k at s) ∙ ap (λ u. drop k u) e ∙ drop_at field t k len

pub bytes_there : (s field t : List ℕ) (at k : ℕ) → drop at s ≡ field ++ t → length field ≡ k → bytes_at s at k ≡ field
bytes_there s field t at k e len = ap (λ (u : List ℕ). take k u) e ∙ take_at field t k len

-- the number that a field was written with
pub number_there : (w : ℕ) (limit : ℕ) (field : ℕ → List ℕ) → IsField w limit field → (s t : List ℕ) (at n : ℕ) → drop at s ≡ field n ++ t → n < limit → number_at w s at ≡ n
number_there w limit field is s t at n e lt =
    number_at-drop w s at ∙ ap (λ (u : List ℕ). number_at w u 0) e ∙ is.again n t lt

-- the bytes from a field on, spelled by its number
pub number_spelled : (w : ℕ) (limit : ℕ) (field : ℕ → List ℕ) → IsField w limit field → (s : List ℕ) (at next : ℕ) → IsBytes s → at + w ≡ next → next ≤ length s → drop at s ≡ field (number_at w s at) ++ drop next s
number_spelled w limit field is s at next bytes step fits =
    let here : field (number_at w s at) ≡ take (w) (drop at s) = ap field (number_at-drop w s at) ∙ is.back (drop at s) (omega (arith, length-drop at s)) (IsBytes-drop at s bytes) in
    let rest : drop (w) (drop at s) ≡ drop next s = drop-drop (w) at s ∙ ap (λ (k : ℕ). drop k s) step in
    sym (take-append-drop (w) (drop at s)) ∙ ap (λ (u : List ℕ). u ++ drop (w) (drop at s)) (sym here) ∙ ap (λ (u : List ℕ). field (number_at w s at) ++ u) rest

pub bytes_spelled : (s : List ℕ) (at k next : ℕ) → at + k ≡ next → drop at s ≡ bytes_at s at k ++ drop next s
bytes_spelled s at k next step =
    sym (take-append-drop k (drop at s)) ∙ ap (λ (u : List ℕ). bytes_at s at k ++ u) (drop-drop k at s ∙ ap (λ (n : ℕ). drop n s) step)

pub length-bytes_at : (s : List ℕ) (at k : ℕ) → at + k ≤ length s → length (bytes_at s at k) ≡ k
length-bytes_at s at k fits = omega (arith, length-take k (drop at s), length-drop at s)

pub zeros_spelled : (s : List ℕ) (at k next : ℕ) → at + k ≡ next → next ≤ length s → AreZero (bytes_at s at k) → drop at s ≡ zeros k ++ drop next s
zeros_spelled s at k next step fits h =
    bytes_spelled s at k next step ∙ ap (λ (u : List ℕ). u ++ drop next s) (zero_run (bytes_at s at k) h ∙ ap zeros (length-bytes_at s at k (omega arith)))

-- ---- a field that may name no page

pub page_read_is : (n : ℕ) → n ≢ 0 → page_read n ≡ Some (record { 0 = n })
page_read_is zero ne = absurd (ne refl)
page_read_is (suc n) ne = refl

page_written : (n : ℕ) → page_field (page_read n) ≡ four_bytes n
page_written zero = refl
page_written (suc n) = refl

page_again : (page : Option PageNo) (s t : List ℕ) (at : ℕ) → IsPageField page → drop at s ≡ page_field page ++ t → page_read (number_at 4 s at) ≡ page
page_again None s t at fits e = ap page_read (number_there 4 (2 ^ 32) four_bytes four_is s t at 0 e (omega arith))
page_again (Some page) s t at fits e =
    ap page_read (number_there 4 (2 ^ 32) four_bytes four_is s t at page.0 e fits.1) ∙ page_read_is page.0 (λ z. absurd (omega (arith, fits.0)))

pub page_there : (page : Option PageNo) (s t : List ℕ) (at : ℕ) → IsPageField page → drop at s ≡ page_field page ++ t → page_in s at ≡ page
unfolding page_in
page_there page s t at fits e = page_again page s t at fits e

pub page_spelled : (s : List ℕ) (at next : ℕ) → IsBytes s → at + 4 ≡ next → next ≤ length s → drop at s ≡ page_field (page_in s at) ++ drop next s
unfolding page_in
page_spelled s at next bytes step fits =
    number_spelled 4 (2 ^ 32) four_bytes four_is s at next bytes step fits ∙ ap (λ (u : List ℕ). u ++ drop next s) (sym (page_written (number_at 4 s at)))

page_fits_field : (n : ℕ) → n < 2 ^ 32 → IsPageField (page_read n)
page_fits_field zero lt = tt
page_fits_field (suc n) lt = (omega arith, lt)

pub page_fits : (s : List ℕ) (at : ℕ) → IsBytes s → IsPageField (page_in s at)
unfolding page_in
page_fits s at bytes = page_fits_field (number_at 4 s at) (four_is.below s at bytes)

-- ---- a field that may name no place

pub place_read_is : (page slot : ℕ) → 0 < page + slot → place_read page slot ≡ Some (record { page = record { 0 = page }; slot = slot })
place_read_is zero zero some = absurd (omega arith)
place_read_is zero (suc slot) some = refl
place_read_is (suc page) slot some = refl

no_place : zeros 6 ≡ four_bytes 0 ++ two_bytes 0
unfolding field_bytes
no_place = refl

place_written : (page slot : ℕ) → place_field (place_read page slot) ≡ four_bytes page ++ two_bytes slot
place_written zero zero = no_place
place_written zero (suc slot) = refl
place_written (suc page) slot = refl

two_numbers : (page slot : ℕ) (s t : List ℕ) (at : ℕ) → page < 2 ^ 32 → slot < 2 ^ 16 → drop at s ≡ (four_bytes page ++ two_bytes slot) ++ t → (number_at 4 s at ≡ page) × (number_at 2 s (at + 4) ≡ slot)
two_numbers page slot s t at lp ls e =
    let apart : drop at s ≡ four_bytes page ++ (two_bytes slot ++ t) = e ∙ append_assoc (four_bytes page) (two_bytes slot) t in
    let behind : drop (at + 4) s ≡ two_bytes slot ++ t = behind_more s (four_bytes page) (two_bytes slot ++ t) at 4 (at + 4) apart (four_is.len page) refl in
    (number_there 4 (2 ^ 32) four_bytes four_is s (two_bytes slot ++ t) at page apart lp, number_there 2 (2 ^ 16) two_bytes two_is s t (at + 4) slot behind ls)

place_again : (place : Option Place) (s t : List ℕ) (at : ℕ) → IsPlaceField place → drop at s ≡ place_field place ++ t → place_read (number_at 4 s at) (number_at 2 s (at + 4)) ≡ place
place_again None s t at fits e =
    let both = two_numbers 0 0 s t at (omega arith) (omega arith) (e ∙ ap (λ (u : List ℕ). u ++ t) no_place) in
    cc (both.0, both.1)
place_again (Some place) s t at fits e =
    let both = two_numbers place.page.0 place.slot s t at fits.1 fits.2 e in
    ap (λ (n : ℕ). place_read n (number_at 2 s (at + 4))) both.0 ∙ ap (λ (n : ℕ). place_read place.page.0 n) both.1 ∙ place_read_is place.page.0 place.slot fits.0

pub place_there : (place : Option Place) (s t : List ℕ) (at : ℕ) → IsPlaceField place → drop at s ≡ place_field place ++ t → place_in s at ≡ place
unfolding place_in
place_there place s t at fits e = place_again place s t at fits e

pub place_spelled : (s : List ℕ) (at next : ℕ) → IsBytes s → at + 6 ≡ next → next ≤ length s → drop at s ≡ place_field (place_in s at) ++ drop next s
unfolding place_in
place_spelled s at next bytes step fits =
    let page : drop at s ≡ four_bytes (number_at 4 s at) ++ drop (at + 4) s = number_spelled 4 (2 ^ 32) four_bytes four_is s at (at + 4) bytes refl (omega arith) in
    let slot : drop (at + 4) s ≡ two_bytes (number_at 2 s (at + 4)) ++ drop next s = number_spelled 2 (2 ^ 16) two_bytes two_is s (at + 4) next bytes (omega arith) fits in
    page ∙ ap (λ (u : List ℕ). four_bytes (number_at 4 s at) ++ u) slot ∙ sym (append_assoc (four_bytes (number_at 4 s at)) (two_bytes (number_at 2 s (at + 4))) (drop next s)) ∙ ap (λ (u : List ℕ). u ++ drop next s) (sym (place_written (number_at 4 s at) (number_at 2 s (at + 4))))

place_fits_field : (page slot : ℕ) → page < 2 ^ 32 → slot < 2 ^ 16 → IsPlaceField (place_read page slot)
place_fits_field zero zero lp ls = tt
place_fits_field zero (suc slot) lp ls = (omega arith, lp, ls)
place_fits_field (suc page) slot lp ls = (omega arith, lp, ls)

pub place_fits : (s : List ℕ) (at : ℕ) → IsBytes s → IsPlaceField (place_in s at)
unfolding place_in
place_fits s at bytes = place_fits_field _ _ (four_is.below s at bytes) (two_is.below s (at + 4) bytes)

pub length-place_field : (place : Option Place) → length (place_field place) ≡ 6
length-place_field None = refl
length-place_field (Some place) = omega (arith, length-append (four_bytes place.page.0) (two_bytes place.slot), four_is.len place.page.0, two_is.len place.slot)

-- ---- written one behind the other

pub written_next : (front field xs : List ℕ) (at next : ℕ) → length front ≡ at → at + length field ≡ next → written (front ++ drop at xs) at field ≡ (front ++ field) ++ drop next xs
written_next front field xs at next len step =
    let kept : take at (front ++ drop at xs) ≡ front = take_at front (drop at xs) at len in
    let rest : drop (at + length field) (front ++ drop at xs) ≡ drop next xs =
    sym (drop-drop (length field) at (front ++ drop at xs)) ∙ ap (λ (t : List ℕ). drop (length field) t) (drop_at front (drop at xs) at len) ∙ drop-drop (length field) at xs ∙ ap (λ (k : ℕ). drop k xs) step in
    ap (λ (t : List ℕ). (t ++ field) ++ drop (at + length field) (front ++ drop at xs)) kept ∙ ap (λ (t : List ℕ). (front ++ field) ++ t) rest

-- ---- what the calls give

pub no_page_in : (s : List ℕ) (at n : ℕ) → n ≡ number_at 4 s at → n ≡ 0 → None ≡ page_in s at
unfolding page_in
no_page_in s at n is zero_is = ap page_read (sym zero_is ∙ is)

pub some_page_in : (s : List ℕ) (at n : ℕ) → n ≡ number_at 4 s at → n ≢ 0 → Some (record { 0 = n }) ≡ page_in s at
unfolding page_in
some_page_in s at n is ne = sym (page_read_is n ne) ∙ ap page_read is

pub no_place_in : (s : List ℕ) (at page slot : ℕ) → page ≡ number_at 4 s at → slot ≡ number_at 2 s (at + 4) → page ≡ 0 → slot ≡ 0 → None ≡ place_in s at
unfolding place_in
no_place_in s at page slot is too p q = ap (λ (n : ℕ). place_read n 0) (sym p ∙ is) ∙ ap (λ (n : ℕ). place_read (number_at 4 s at) n) (sym q ∙ too)

pub some_place_in : (s : List ℕ) (at page slot : ℕ) → page ≡ number_at 4 s at → slot ≡ number_at 2 s (at + 4) → 0 < page + slot → Some (record { page = record { 0 = page }; slot = slot }) ≡ place_in s at
unfolding place_in
some_place_in s at page slot is too some = sym (place_read_is page slot some) ∙ ap (λ (n : ℕ). place_read n slot) is ∙ ap (λ (n : ℕ). place_read (number_at 4 s at) n) too
