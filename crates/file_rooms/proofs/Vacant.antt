-- Whether a slot of a page is vacant, and the room that follows from it.
use Rattle.std.proofs.Common.{◌≡◌, ◌≤◌, ◌<◌, ◌+◌, ℕ, zero, suc, true, false, List, [], ◌∷◌, length, Bool, Option, Some, None, refl, sym, ap, subst, ◌∙◌, arith}
use Rattle.std.specs.Prelude.{slice_index_or, nat_le, nat_lt, not, is_some, ◌==◌, if◌then◌else◌}
use Rattle.std.specs.Option.{option_map}
use Rattle.std.proofs.lemmas.Bool.{le-leb, lt-leb, ltb-true, ltb-false, eqb-true, eq-eqb}
use Rattle.slotted_pages.specs.FilePage.{Slot}
use Rattle.slotted_pages.specs.Edits.{vacant_at, need_of}
use Rattle.file_rooms.specs.Rooms.{new_len}

-- a vacant slot isn't before the lowest
pub vacant_low : (slots : List Slot) (i : ℕ) → slice_index_or slots i None ≡ None → i < length slots → vacant_at slots ≤ i
vacant_low [] i none lt = absurd (omega arith)
vacant_low (None ∷ slots) i none lt = omega arith
vacant_low (Some body ∷ slots) zero none lt = absurd (let e : Some body ≡ None = none in cc)
vacant_low (Some body ∷ slots) (suc i) none lt = omega (arith, vacant_low slots i none (omega arith))

-- the slot with the lowest number that may be vacant is full, so the lowest is behind it
pub vacant_next : (slots : List Slot) (i : ℕ) (body : List ℕ) → slice_index_or slots i None ≡ Some body → i ≤ vacant_at slots → i + 1 ≤ vacant_at slots
vacant_next [] i body some le = absurd (let e : None ≡ Some body = some in cc)
vacant_next (None ∷ slots) zero body some le = absurd (let e : None ≡ Some body = some in cc)
vacant_next (None ∷ slots) (suc i) body some le = absurd (omega arith)
vacant_next (Some b ∷ slots) zero body some le = omega arith
vacant_next (Some b ∷ slots) (suc i) body some le = omega (arith, vacant_next slots i body some (omega arith))

pub vacant_most : (slots : List Slot) → vacant_at slots ≤ length slots
vacant_most [] = omega arith
vacant_most (None ∷ slots) = omega arith
vacant_most (Some body ∷ slots) = omega (arith, vacant_most slots)

-- what a vacant slot is read as
pub none_of : {X : Type 0} (r : Option X) (f : X → List ℕ) (slot : Slot) (b : Bool) → is_some r ≡ not b → b ≡ true → option_map f r ≡ slot → slot ≡ None
none_of None f slot b is vacant same = sym same
none_of (Some x) f slot b is vacant same = absurd (let e : true ≡ not true = is ∙ ap not vacant in cc)

pub some_of : {X : Type 0} (r : Option X) (f : X → List ℕ) (slot : Slot) (b : Bool) → is_some r ≡ not b → b ≡ false → option_map f r ≡ slot → (body : List ℕ) × (slot ≡ Some body)
some_of None f slot b is no_vacant same = absurd (let e : false ≡ not false = is ∙ ap not no_vacant in cc)
some_of (Some x) f slot b is no_vacant same = (f x, sym same)

-- ---- the room of a page for the record of a new object

need_is : (slots : List Slot) (t : Bool) → (vacant_at slots == length slots) ≡ t → need_of slots new_len ≡ new_len + (if t then 4 else 0)
need_is slots t is = ap (λ (b : Bool). new_len + (if b then 4 else 0)) is

pub need_most : (slots : List Slot) → need_of slots new_len ≤ 40
need_most slots = most (vacant_at slots == length slots) refl
  where
    most : (t : Bool) → (vacant_at slots == length slots) ≡ t → need_of slots new_len ≤ 40
    most true is = omega (arith, need_is slots true is)
    most false is = omega (arith, need_is slots false is)

pub need_least : (slots : List Slot) → 36 ≤ need_of slots new_len
need_least slots = least (vacant_at slots == length slots) refl
  where
    least : (t : Bool) → (vacant_at slots == length slots) ≡ t → 36 ≤ need_of slots new_len
    least true is = omega (arith, need_is slots true is)
    least false is = omega (arith, need_is slots false is)

-- enough of it for the field of a slot too, just enough without it, and less
pub much_room : (slots : List Slot) (room : ℕ) → 40 ≤ room → true ≡ nat_le (need_of slots new_len) room
much_room slots room le = sym (le-leb (need_of slots new_len) room (omega (arith, need_most slots)))

pub no_room : (slots : List Slot) (room : ℕ) → room < 36 → false ≡ nat_le (need_of slots new_len) room
no_room slots room lt = sym (lt-leb (need_of slots new_len) room (omega (arith, need_least slots)))

differ : (a b : ℕ) → a < b → (t : Bool) → (a == b) ≡ t → (a == b) ≡ false
differ a b lt true is = absurd (omega (arith, eqb-true a b is))
differ a b lt false is = is

pub some_room : (slots : List Slot) (room : ℕ) → 36 ≤ room → room < 40 → nat_lt (vacant_at slots) (length slots) ≡ nat_le (need_of slots new_len) room
some_room slots room le lt = by_test (nat_lt (vacant_at slots) (length slots)) refl
  where
    by_test : (t : Bool) → nat_lt (vacant_at slots) (length slots) ≡ t → t ≡ nat_le (need_of slots new_len) room
    by_test true is =
        let before = ltb-true (vacant_at slots) (length slots) is in
        let need = need_is slots false (differ (vacant_at slots) (length slots) before (vacant_at slots == length slots) refl) in
        sym (le-leb (need_of slots new_len) room (omega (arith, need)))
    by_test false is =
        let behind = ltb-false (vacant_at slots) (length slots) is in
        let need = need_is slots true (eq-eqb (vacant_at slots) (length slots) (omega (arith, vacant_most slots))) in
        sym (lt-leb (need_of slots new_len) room (omega (arith, need)))
