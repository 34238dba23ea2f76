-- What the calls of a view give.
use Rattle.std.proofs.Common.{◌≡◌, ℕ, zero, suc, ◌+◌, ◌-◌, ◌*◌, ◌<◌, ◌≤◌, List, [], ◌∷◌, length, take, drop, map, Some, None, refl, sym, ap, subst, ◌∙◌, arith}
use Rattle.std.specs.Prelude.{slice_index_or}
use Rattle.std.proofs.lemmas.List.{length-append}
use Rattle.ex_base.specs.Fields.{number_at}
use Rattle.slotted_pages.specs.FilePage.{Slot, body_of, bodies, room_of}
use Rattle.slotted_pages.specs.Reads.{slot_read, slot_in, read_slots, added, read_lens, count_on, page_on, end_of, PageReads, Viewed, viewed_on}
use Rattle.slotted_pages.proofs.PageLaws.{len_of, slot_read_some, stepped, back_of}

pub slots_on : (page : List ℕ) → (page_on page).slots ≡ read_slots page (count_on page) (length page)
unfolding page_on
slots_on page = refl

pub count_given : (page : List ℕ) (v : Viewed) → PageReads page → viewed_on page ≡ v → count_on page ≡ length v.page.slots
unfolding page_on
count_given page v h is = let back = back_of page h in sym back.count ∙ ap (λ (x : Viewed). length x.page.slots) is

pub file_given : (page : List ℕ) (v : Viewed) → viewed_on page ≡ v → number_at 4 page 8 ≡ v.page.file_no
unfolding page_on
file_given page v is = ap (λ (x : Viewed). x.page.file_no) is

pub file_read : (page : List ℕ) → (page_on page).file_no ≡ number_at 4 page 8
unfolding page_on
file_read page = refl

pub total_len : (slots : List Slot) → added (map len_of slots) ≡ length (bodies slots)
total_len [] = refl
total_len (slot ∷ slots) = ap (λ (k : ℕ). len_of slot + k) (total_len slots) ∙ sym (length-append (body_of slot) (bodies slots))

-- the lengths on a page add up to where its bodies end
pub end_given : (page : List ℕ) → (h : PageReads page) → 16 + added (read_lens page (count_on page) (length page)) ≡ h.packed.0
end_given page h =
    let back = back_of page h in
    ap (λ (t : List ℕ). 16 + added t) back.lens ∙ ap (λ (k : ℕ). 16 + k) (total_len (read_slots page (count_on page) (length page))) ∙ back.total

pub room_given : (page : List ℕ) (v : Viewed) (n end : ℕ) → PageReads page → viewed_on page ≡ v → n ≡ count_on page → end ≡ 16 + added (read_lens page n (length page)) → (end ≤ length page - 4 * n) × (length page - 4 * n - end ≡ room_of v.size v.page.slots)
unfolding page_on
room_given page v n end h is number e =
    let back = back_of page h in
    let same : end ≡ h.packed.0 = e ∙ ap (λ (k : ℕ). 16 + added (read_lens page k (length page))) number ∙ end_given page h in
    let room : length page - 4 * n - end ≡ room_of (length page) (read_slots page (count_on page) (length page)) = omega (arith, same, number, back.total, back.count, back.below, h.room) in
    (omega (arith, same, number, back.below), room ∙ ap (λ (x : Viewed). room_of x.size x.page.slots) is)

slot_here : (page : List ℕ) (n end i : ℕ) → i < n → slice_index_or (read_slots page n end) i None ≡ slot_in page (end - 4 * (i + 1))
slot_here page zero end i lt = absurd (omega arith)
slot_here page (suc n) end zero lt = ap (slot_in page) (let e : end - 4 ≡ end - 4 * (0 + 1) = omega arith in e)
slot_here page (suc n) end (suc i) lt = slot_here page n (end - 4) i (omega arith) ∙ ap (slot_in page) (let e : end - 4 - 4 * (i + 1) ≡ end - 4 * (suc i + 1) = omega arith in e)

slot_past : (page : List ℕ) (n end i : ℕ) → n ≤ i → slice_index_or (read_slots page n end) i None ≡ None
slot_past page zero end i le = refl
slot_past page (suc n) end zero le = absurd (omega arith)
slot_past page (suc n) end (suc i) le = slot_past page n (end - 4) i (omega arith)

pub past_given : (page : List ℕ) (v : Viewed) (n i : ℕ) → viewed_on page ≡ v → n ≡ count_on page → n ≤ i → None ≡ slice_index_or v.page.slots i None
unfolding page_on
past_given page v n i is number le =
    sym (slot_past page (count_on page) (length page) i (omega (arith, number))) ∙ ap (λ (x : Viewed). slice_index_or x.page.slots i None) is

pub vacant_given : (page : List ℕ) (v : Viewed) (n i len : ℕ) → viewed_on page ≡ v → n ≡ count_on page → i < n → len ≡ number_at 2 page (length page - 4 * (i + 1) + 2) → len ≡ 0 → None ≡ slice_index_or v.page.slots i None
unfolding page_on
vacant_given page v n i len is number lt e none =
    ap (λ (k : ℕ). slot_read k (number_at 2 page (length page - 4 * (i + 1))) page) (sym none ∙ e) ∙ sym (slot_here page (count_on page) (length page) i (omega (arith, number))) ∙ ap (λ (x : Viewed). slice_index_or x.page.slots i None) is

pub live_given : (page : List ℕ) (v : Viewed) (n i len at : ℕ) → viewed_on page ≡ v → n ≡ count_on page → i < n → len ≡ number_at 2 page (length page - 4 * (i + 1) + 2) → at ≡ number_at 2 page (length page - 4 * (i + 1)) → 0 < len → Some (take (at + len - at) (drop at page)) ≡ slice_index_or v.page.slots i None
unfolding page_on
live_given page v n i len at is number lt e begins some =
    let count : at + len - at ≡ len = omega arith in
    ap (λ (k : ℕ). Some (take k (drop at page))) count ∙ sym (slot_read_some len at page some)
    ∙ ap (λ (k : ℕ). slot_read k at page) e ∙ ap (λ (k : ℕ). slot_read (number_at 2 page (length page - 4 * (i + 1) + 2)) k page) begins
    ∙ sym (slot_here page (count_on page) (length page) i (omega (arith, number))) ∙ ap (λ (x : Viewed). slice_index_or x.page.slots i None) is

-- a body lies on the page
inside_of : (limit : ℕ) (page : List ℕ) (n end at fin i : ℕ) → limit ≤ length page → at ≤ limit → end_of limit page n end at ≡ Some fin → i < n → 0 < number_at 2 page (end - 4 * (i + 1) + 2) → number_at 2 page (end - 4 * (i + 1)) + number_at 2 page (end - 4 * (i + 1) + 2) ≤ limit
inside_of limit page zero end at fin i short le e lt some = absurd (omega arith)
inside_of limit page (suc n) end at fin zero short le e lt some =
    let step = stepped limit page at (number_at 2 page (end - 4)) (number_at 2 page (end - 4 + 2)) (λ next. end_of limit page n (end - 4) next) fin short le e in
    let place : end - 4 * (0 + 1) ≡ end - 4 = omega arith in
    let live : 0 < number_at 2 page (end - 4 + 2) = subst (λ (k : ℕ). 0 < number_at 2 page (k + 2)) place some in
    subst (λ (k : ℕ). number_at 2 page k + number_at 2 page (k + 2) ≤ limit) (sym place) (omega (arith, step.placed live, step.inside))
inside_of limit page (suc n) end at fin (suc i) short le e lt some =
    let step = stepped limit page at (number_at 2 page (end - 4)) (number_at 2 page (end - 4 + 2)) (λ next. end_of limit page n (end - 4) next) fin short le e in
    let place : end - 4 * (suc i + 1) ≡ end - 4 - 4 * (i + 1) = omega arith in
    subst (λ (k : ℕ). number_at 2 page k + number_at 2 page (k + 2) ≤ limit) (sym place) (inside_of limit page n (end - 4) (at + number_at 2 page (end - 4 + 2)) fin i short step.inside step.rest (omega arith) (subst (λ (k : ℕ). 0 < number_at 2 page (k + 2)) place some))

pub body_inside : (page : List ℕ) (n i len at : ℕ) → PageReads page → n ≡ count_on page → i < n → len ≡ number_at 2 page (length page - 4 * (i + 1) + 2) → at ≡ number_at 2 page (length page - 4 * (i + 1)) → 0 < len → at + len ≤ length page
body_inside page n i len at h number lt e begins some =
    let inside = inside_of (length page - 4 * count_on page) page (count_on page) (length page) 16 h.packed.0 i (omega arith) (omega (arith, h.room)) h.packed.1 (omega (arith, number)) (omega (arith, e)) in
    omega (arith, inside, e, begins)
