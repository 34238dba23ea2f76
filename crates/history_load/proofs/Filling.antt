-- How the pages of a file are filled, as they are counted.
use Rattle.std.proofs.Common.{◌≡◌, ◌≤◌, ◌+◌, ◌-◌, ℕ, suc, Bool, true, false, nat_le, ◌==◌, List, [], ◌∷◌, ◌++◌, length, Option, Some, None, sym, ap, subst, ◌∙◌, arith}
use Rattle.std.specs.Prelude.{if◌then◌else◌, min}
use Rattle.std.proofs.lemmas.Bool.Decides.{nat_tests}
use Rattle.std.proofs.lemmas.List.{length-append}
use Rattle.slotted_pages.specs.FilePage.{Slot, bodies, body_of, room_of, taken}
use Rattle.slotted_pages.specs.Edits.{place_for, slots_of, vacant_at}
use Rattle.history_counts.specs.Pages.{needs_with_record}
use Rattle.history_counts.specs.declared.page_needs.PageNeeds.{PageNeeds}
use Rattle.history_writes.specs.Laid.{slots_after, written_after}
use Rattle.history_load.specs.AtHand.{IsFilledAs, room_behind}
use Rattle.history_load.specs.declared.files_at_hand.FilesAtHand.{FilesAtHand}
use Rattle.ex_base.specs.declared.geometry.Geometry.{Geometry}

-- so many written pages, and one with these slots
pub record FilledAs (size written : ℕ) (slots : List Slot) (needs : PageNeeds) : Type 0 where
  pub filled : written + min 1 (length slots) ≡ needs.filled
  pub room : room_behind size slots ≡ needs.room

bodies_more : (slots : List Slot) (body : List ℕ) → length (bodies (slots ++ Some body ∷ [])) ≡ length (bodies slots) + length body
bodies_more [] body = omega (arith, length-append body [])
bodies_more (s ∷ slots) body = omega (arith, length-append (body_of s) (bodies (slots ++ Some body ∷ [])), length-append (body_of s) (bodies slots), bodies_more slots body)

taken_more : (slots : List Slot) (body : List ℕ) → taken (slots ++ Some body ∷ []) ≡ taken slots + (length body + 4)
taken_more slots body = omega (arith, bodies_more slots body, length-append slots (Some body ∷ []))

room_more : (size : ℕ) (s : Slot) (slots : List Slot) (body : List ℕ) → room_behind size ((s ∷ slots) ++ Some body ∷ []) ≡ room_of size (s ∷ slots) - (length body + 4)
room_more size s slots body = omega (arith, taken_more (s ∷ slots) body)

room_alone : (size : ℕ) (body : List ℕ) → room_behind size (Some body ∷ []) ≡ size - 16 - (length body + 4)
room_alone size body = omega (arith, length-append body [])

place_dense : (size n : ℕ) (slots : List Slot) → vacant_at slots ≡ length slots → place_for size slots n ≡ (if nat_le (n + 4) (room_of size slots) then Some (vacant_at slots) else None)
place_dense size n slots dense =
    let test : (vacant_at slots == length slots) ≡ true = grind (arith, nat_tests) in
    ap (λ (b : Bool). if nat_le (n + (if b then 4 else 0)) (room_of size slots) then Some (vacant_at slots) else None) test

-- the needs with a record, by whether it fits the room
abbrev needs_by : ℕ → PageNeeds → ℕ → Bool → PageNeeds
needs_by size needs n fits = if fits then record { others = needs.others; filled = needs.filled; room = needs.room - (n + 4) } else record { others = needs.others; filled = suc needs.filled; room = size - 16 - (n + 4) }

filled_by : (size written n at : ℕ) (s : Slot) (slots : List Slot) (body : List ℕ) (needs : PageNeeds) (fits : Bool) → length body ≡ n → FilledAs size written (s ∷ slots) needs
    → FilledAs size (written_after written (if fits then Some at else None)) (slots_after (s ∷ slots) body (if fits then Some at else None)) (needs_by size needs n fits)
filled_by size written n at s slots body needs true long was = record {
  filled = omega (arith, was.filled, length-append (s ∷ slots) (Some body ∷ []));
  room = omega (arith, was.room, room_more size s slots body);
}
filled_by size written n at s slots body needs false long was = record {
  filled = omega (arith, was.filled);
  room = omega (arith, room_alone size body);
}

pub filled_more : (size written n : ℕ) (slots : List Slot) (body : List ℕ) (needs : PageNeeds) → length body ≡ n → n + 20 ≤ size → vacant_at slots ≡ length slots → FilledAs size written slots needs
    → FilledAs size (written_after written (place_for size slots n)) (slots_after slots body (place_for size slots n)) (needs_with_record size needs n)
filled_more size written n [] body needs long fits dense was =
    let there : nat_le (n + 4) (size - 16) ≡ true = grind (arith, nat_tests) in
    let place : place_for size [] n ≡ Some 0 = ap (λ (b : Bool). if b then Some 0 else None) there in
    let none : nat_le (n + 4) needs.room ≡ false = (let room = was.room in grind (arith, nat_tests)) in
    let needs_is : needs_by size needs n false ≡ needs_with_record size needs n = ap (needs_by size needs n) (sym none) in
    let now : FilledAs size written (Some body ∷ []) (needs_by size needs n false) = record { filled = omega (arith, was.filled); room = omega (arith, room_alone size body) } in
    subst (λ (o : Option ℕ). FilledAs size (written_after written o) (slots_after [] body o) (needs_with_record size needs n)) (sym place)
    (subst (λ (m : PageNeeds). FilledAs size written (Some body ∷ []) m) needs_is now)
filled_more size written n (s ∷ slots) body needs long fits dense was =
    let place : place_for size (s ∷ slots) n ≡ (if nat_le (n + 4) needs.room then Some (vacant_at (s ∷ slots)) else None) =
    place_dense size n (s ∷ slots) dense ∙ ap (λ (r : ℕ). if nat_le (n + 4) r then Some (vacant_at (s ∷ slots)) else None) was.room in
    subst (λ (o : Option ℕ). FilledAs size (written_after written o) (slots_after (s ∷ slots) body o) (needs_with_record size needs n)) (sym place)
    (filled_by size written n (vacant_at (s ∷ slots)) s slots body needs (nat_le (n + 4) needs.room) long was)

pub fills_as : (g : Geometry) (old new : FilesAtHand) (n : ℕ) (body : List ℕ) (needs : PageNeeds) → length body ≡ n → n + 20 ≤ g.page_size → length old.pages.page.items ≡ g.page_size → vacant_at (slots_of old.pages.page.items) ≡ length (slots_of old.pages.page.items)
    → new.pages.written ≡ written_after old.pages.written (place_for (length old.pages.page.items) (slots_of old.pages.page.items) (length body))
    → slots_of new.pages.page.items ≡ slots_after (slots_of old.pages.page.items) body (place_for (length old.pages.page.items) (slots_of old.pages.page.items) (length body))
    → IsFilledAs g old needs → IsFilledAs g new (needs_with_record g.page_size needs n)
fills_as g old new n body needs long fits size dense written slots was =
    let now = filled_more g.page_size old.pages.written n (slots_of old.pages.page.items) body needs long fits dense (record { filled = was.filled; room = was.room }) in
    let place : place_for (length old.pages.page.items) (slots_of old.pages.page.items) (length body) ≡ place_for g.page_size (slots_of old.pages.page.items) n =
    ap (λ (k : ℕ). place_for k (slots_of old.pages.page.items) (length body)) size ∙ ap (place_for g.page_size (slots_of old.pages.page.items)) long in
    let count : new.pages.written ≡ written_after old.pages.written (place_for g.page_size (slots_of old.pages.page.items) n) = written ∙ ap (written_after old.pages.written) place in
    let all : slots_of new.pages.page.items ≡ slots_after (slots_of old.pages.page.items) body (place_for g.page_size (slots_of old.pages.page.items) n) = slots ∙ ap (slots_after (slots_of old.pages.page.items) body) place in
    record {
      filled = subst (λ (ss : List Slot). new.pages.written + min 1 (length ss) ≡ (needs_with_record g.page_size needs n).filled) (sym all)
          (subst (λ (k : ℕ). k + min 1 (length (slots_after (slots_of old.pages.page.items) body (place_for g.page_size (slots_of old.pages.page.items) n))) ≡ (needs_with_record g.page_size needs n).filled) (sym count) now.filled);
      room = ap (room_behind g.page_size) all ∙ now.room;
    }
