-- The slots of a page after changes.
use Rattle.std.proofs.Common.{◌≡◌, ℕ, zero, suc, true, false, Option, is_some, ◌+◌, ◌-◌, ◌<◌, ◌≤◌, List, [], ◌∷◌, ◌++◌, length, take, set, get_or, Some, None, refl, sym, ap, subst, ◌∙◌, arith}
use Rattle.std.specs.List.{AllByRecursion}
use Rattle.std.specs.Option.{option_map}
use Rattle.std.proofs.lemmas.List.{append-nil, map-append, length-map}
use Rattle.ex_base.specs.Bytes.{bytes_at}
use Rattle.ex_base.specs.Fields.{number_at}
use Rattle.slotted_pages.specs.declared.whole.SlotBody.{SlotBody}
use Rattle.slotted_pages.specs.FilePage.{Slot, FilePage, file_page, IsSlot, taken, IsFilePage, SlotsOf}
use Rattle.slotted_pages.specs.Edits.{slots_of, slot_with, before_live, trimmed, with_slots}
use Rattle.slotted_pages.specs.Whole.{held, slots_held}
use Rattle.slotted_pages.proofs.PageLaws.{page_read_is}
use Rattle.slotted_pages.proofs.SlotLaws.{trimmed_live}
use Rattle.slotted_pages.proofs.WholeLaws.{held_more}
use Rattle.page_entries.specs.declared.form.EntryForm.TheVariants.{SlotChanges}
use Rattle.page_entries.specs.Said.{SlotChange, Slots, FitsChange, IsSaid, AreFields, changes_read, said_bytes}
use Rattle.page_entries.specs.Fronts.{ChangesAt, change_end}
use Rattle.page_entries.specs.Applying.{slot_set, slots_after, page_after_slots, SlotsApply}
use Rattle.page_entries.proofs.Changes.{FieldsGiven, fields_given, here_from, only_slots}

-- ---- one slot that is set

-- a vacant slot behind the last one changes nothing
pub pad_none : (i : ℕ) (s : Slot) (xs : List Slot) → length xs ≤ i → slot_set i s (xs ++ None ∷ []) ≡ slot_set i s xs
pad_none zero s [] le = refl
pad_none (suc i) s [] le = refl
pad_none zero s (x ∷ xs) le = absurd (omega arith)
pad_none (suc i) s (x ∷ xs) le = ap (λ (t : List Slot). x ∷ t) (pad_none i s xs (omega arith))

pub set_held : (xs : List SlotBody) (i : ℕ) (b : SlotBody) → i < length xs → slots_held (set xs i b) ≡ slot_set i (held b) (slots_held xs)
set_held [] i b lt = absurd (omega arith)
set_held (x ∷ xs) zero b lt = refl
set_held (x ∷ xs) (suc i) b lt = ap (λ (t : List Slot). held x ∷ t) (set_held xs i b (omega arith))

set_fits : (i : ℕ) (s : Slot) (xs : List Slot) → IsSlot s → AllByRecursion IsSlot xs → AllByRecursion IsSlot (slot_set i s xs)
set_fits zero s [] one each = (one, tt)
set_fits zero s (x ∷ xs) one each = (one, each.1)
set_fits (suc i) s [] one each = (tt, set_fits i s [] one tt)
set_fits (suc i) s (x ∷ xs) one each = (each.0, set_fits i s xs one each.1)

after_fits : (cs : List SlotChange) (xs : List Slot) → AllByRecursion FitsChange cs → AllByRecursion IsSlot xs → AllByRecursion IsSlot (slots_after cs xs)
after_fits [] xs fits each = each
after_fits (change ∷ cs) xs fits each = after_fits cs (slot_set change.0 change.1 xs) fits.1 (set_fits change.0 change.1 xs fits.0.2 each)

-- ---- the slots up to the last live one

before_fits : (s : Slot) (xs : List Slot) → IsSlot s → AllByRecursion IsSlot xs → AllByRecursion IsSlot (before_live s xs)
before_fits None [] one each = tt
before_fits None (x ∷ xs) one each = (one, each)
before_fits (Some b) xs one each = (one, each)

trim_fits : (xs : List Slot) → AllByRecursion IsSlot xs → AllByRecursion IsSlot (trimmed xs)
trim_fits [] each = tt
trim_fits (x ∷ xs) each = before_fits x (trimmed xs) each.0 (trim_fits xs each.1)

trimmed_none : (xs : List Slot) → trimmed (xs ++ None ∷ []) ≡ trimmed xs
trimmed_none [] = refl
trimmed_none (x ∷ xs) = ap (before_live x) (trimmed_none xs)

before_more : (x : Slot) (xs : List Slot) (b : List ℕ) → before_live x (xs ++ Some b ∷ []) ≡ x ∷ (xs ++ Some b ∷ [])
before_more None [] b = refl
before_more None (y ∷ xs) b = refl
before_more (Some c) xs b = refl

trimmed_some : (xs : List Slot) (b : List ℕ) → trimmed (xs ++ Some b ∷ []) ≡ xs ++ Some b ∷ []
trimmed_some [] b = refl
trimmed_some (x ∷ xs) b = ap (before_live x) (trimmed_some xs b) ∙ before_more x xs b

pub one_less : (slots : List SlotBody) (count : ℕ) (d : SlotBody) → 0 < count → count ≤ length slots → held (get_or slots (count - 1) d) ≡ None → trimmed (slots_held (take count slots)) ≡ trimmed (slots_held (take (count - 1) slots))
one_less slots count d some le none =
    let back : count ≡ count - 1 + 1 = omega arith in
    ap (λ (k : ℕ). trimmed (slots_held (take k slots))) back ∙ ap trimmed (held_more slots (count - 1) d (omega arith) ∙ ap (λ (s : Slot). slots_held (take (count - 1) slots) ++ s ∷ []) none) ∙ trimmed_none (slots_held (take (count - 1) slots))

pub live_last : (slots : List SlotBody) (count : ℕ) (d : SlotBody) (b : List ℕ) → 0 < count → count ≤ length slots → held (get_or slots (count - 1) d) ≡ Some b → slots_held (take count slots) ≡ trimmed (slots_held (take count slots))
live_last slots count d b some le live =
    let back : count ≡ count - 1 + 1 = omega arith in
    let whole : slots_held (take count slots) ≡ slots_held (take (count - 1) slots) ++ Some b ∷ [] = ap (λ (k : ℕ). slots_held (take k slots)) back ∙ held_more slots (count - 1) d (omega arith) ∙ ap (λ (s : Slot). slots_held (take (count - 1) slots) ++ s ∷ []) live in
    whole ∙ sym (trimmed_some (slots_held (take (count - 1) slots)) b) ∙ ap trimmed (sym whole)

mapped_none : {A B : Type 0} (f : A → B) (o : Option A) → is_some o ≡ false → option_map f o ≡ None
mapped_none f None test = refl
mapped_none f (Some x) test = absurd cc

mapped_some : {A B : Type 0} (f : A → B) (o : Option A) → is_some o ≡ true → (y : B) × (option_map f o ≡ Some y)
mapped_some f None test = absurd cc
mapped_some f (Some x) test = (f x, refl)

pub vacant_less : (slots : List SlotBody) (count : ℕ) → 0 < count → count ≤ length slots → is_some (get_or slots (count - 1) (record { body = None })).body ≡ false → trimmed (slots_held (take count slots)) ≡ trimmed (slots_held (take (count - 1) slots))
vacant_less slots count some le test = one_less slots count (record { body = None }) some le (mapped_none _ (get_or slots (count - 1) (record { body = None })).body test)

pub live_here : (slots : List SlotBody) (count : ℕ) → 0 < count → count ≤ length slots → is_some (get_or slots (count - 1) (record { body = None })).body ≡ true → slots_held (take count slots) ≡ trimmed (slots_held (take count slots))
live_here slots count some le test = let live = mapped_some _ (get_or slots (count - 1) (record { body = None })).body test in live_last slots count (record { body = None }) live.0 some le live.1

pub pushed_none : (i : ℕ) (s : Slot) (xs : List SlotBody) → length xs ≤ i → slot_set i s (slots_held (xs ++ (record { body = None }) ∷ [])) ≡ slot_set i s (slots_held xs)
pushed_none i s xs le = ap (slot_set i s) (map-append held xs ((record { body = None }) ∷ [])) ∙ pad_none i s (slots_held xs) (omega (arith, length-map xs held))

-- ---- a step of the loop over changes

pub after_step : (b : List ℕ) (n i at : ℕ) (xs : List Slot) → i < n → slots_after (changes_read b (n - i) at) xs ≡ slots_after (changes_read b (n - (i + 1)) (change_end b at)) (slot_set (number_at 2 b at) (slot_with (bytes_at b (at + 4) (number_at 2 b (at + 2)))) xs)
after_step b n i at xs lt = ap (λ (k : ℕ). slots_after (changes_read b k at) xs) (let e : n - i ≡ suc (n - (i + 1)) = omega arith in e)

-- ---- the page

pub record Applying (size : ℕ) (fields : List ℕ) : Type 0 where
  pub long : 6 ≤ length fields
  pub here : ChangesAt fields 0 (number_at 2 fields 4) 6
  pub fits : AllByRecursion FitsChange (changes_read fields (number_at 2 fields 4) 6)

pub applying : (size : ℕ) (fields : List ℕ) → AreFields size SlotChanges fields → Applying size fields
applying size fields h =
    let only = only_slots h.0 h.2 in
    let fits : IsSaid size (Slots only.0) = subst (IsSaid size) only.1 h.1 in
    let given : FieldsGiven fields only.0 [] = fields_given size fields [] only.0 fits (h.3 ∙ ap said_bytes only.1 ∙ sym (append-nil (said_bytes (Slots only.0)))) in
    record {
      long = given.long;
      here = here_from fields [] only.0 given;
      fits = subst (AllByRecursion FitsChange) (sym (ap (λ (k : ℕ). changes_read fields k 6) given.count ∙ given.given.read)) fits.0;
    }

pub trimmed_slots : (old : List ℕ) (p : FilePage) (cs : List SlotChange) → SlotsOf old p → AllByRecursion FitsChange cs → AllByRecursion IsSlot (trimmed (slots_after cs p.slots))
trimmed_slots old p cs h fits = trim_fits (slots_after cs p.slots) (after_fits cs p.slots fits h.fits.slots)

pub page_slots : (old : List ℕ) (p : FilePage) → SlotsOf old p → slots_of old ≡ p.slots
page_slots old p h = ap (λ (x : FilePage). x.slots) (page_read_is old p h)

pub page_after : (old : List ℕ) (p : FilePage) (cs : List SlotChange) → SlotsOf old p → page_after_slots cs old ≡ with_slots p (trimmed (slots_after cs p.slots))
page_after old p cs h = ap (λ (x : FilePage). with_slots x (trimmed (slots_after cs x.slots))) (page_read_is old p h)

pub they_apply : (old : List ℕ) (p : FilePage) (cs : List SlotChange) → SlotsOf old p → AllByRecursion FitsChange cs → taken (trimmed (slots_after cs p.slots)) ≤ length old → SlotsApply old cs
they_apply old p cs h fits room =
    let whole : IsFilePage (length old) (with_slots p (trimmed (slots_after cs p.slots))) = record { file_no = h.fits.file_no; slots = trimmed_slots old p cs h fits; last = trimmed_live (slots_after cs p.slots); room = room; page = h.fits.page } in
    record {
      page = subst (SlotsOf old) (sym (page_read_is old p h)) h;
      fits = subst (IsFilePage (length old)) (sym (page_after old p cs h)) whole;
    }

pub room_of_applying : (old : List ℕ) (p : FilePage) (cs : List SlotChange) → SlotsOf old p → SlotsApply old cs → taken (trimmed (slots_after cs p.slots)) ≤ length old
room_of_applying old p cs h a = subst (λ (xs : List Slot). taken (trimmed (slots_after cs xs)) ≤ length old) (page_slots old p h) a.fits.room

-- the slots that the page is written from
pub record Left (old : List ℕ) (p : FilePage) (cs : List SlotChange) (slots : List SlotBody) (count : ℕ) : Type 0 where
  pub page : SlotsOf old p
  pub fits : AllByRecursion FitsChange cs
  pub left : slots_held (take count slots) ≡ trimmed (slots_after cs p.slots)

pub left_fits : (old : List ℕ) (p : FilePage) (cs : List SlotChange) (slots : List SlotBody) (count : ℕ) → Left old p cs slots count → AllByRecursion IsSlot (slots_held (take count slots))
left_fits old p cs slots count h = subst (AllByRecursion IsSlot) (sym h.left) (trimmed_slots old p cs h.page h.fits)

pub left_room : (old : List ℕ) (p : FilePage) (cs : List SlotChange) (slots : List SlotBody) (count : ℕ) → Left old p cs slots count → SlotsApply old cs → taken (slots_held (take count slots)) ≤ length old
left_room old p cs slots count h a = subst (λ (xs : List Slot). taken xs ≤ length old) (sym h.left) (room_of_applying old p cs h.page a)

pub left_applies : (old : List ℕ) (p : FilePage) (cs : List SlotChange) (slots : List SlotBody) (count : ℕ) (page : List ℕ) → Left old p cs slots count → taken (slots_held (take count slots)) ≤ length old → page ≡ file_page (length old) (record { file_no = p.file_no; slots = slots_held (take count slots) }) → SlotsApply old cs × (page ≡ file_page (length old) (page_after_slots cs old))
left_applies old p cs slots count page h room is = (
  they_apply old p cs h.page h.fits (subst (λ (xs : List Slot). taken xs ≤ length old) h.left room),
  is ∙ ap (λ (xs : List Slot). file_page (length old) (with_slots p xs)) h.left ∙ ap (file_page (length old)) (sym (page_after old p cs h.page)),
)
