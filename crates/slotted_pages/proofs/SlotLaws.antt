-- What an insert, a resize and a removal ask of a change of one slot.
use Rattle.std.proofs.Common.{◌≡◌, ℕ, zero, suc, ◌+◌, ◌-◌, ◌*◌, ◌<◌, ◌≤◌, ◌≢◌, Bool, true, false, List, [], ◌∷◌, ◌++◌, length, take, drop, Some, None, refl, sym, ap, subst, ◌∙◌, arith, inl, inr}
use Rattle.std.specs.Prelude.{slice_index_or, ◌==◌, nat_le, if◌then◌else◌}
use Rattle.std.specs.List.{AllByRecursion}
use Rattle.std.proofs.lemmas.Bool.{cases_lt, cases_eq}
use Rattle.std.proofs.lemmas.Bool.Decides.{nat_tests}
use Rattle.std.proofs.lemmas.List.{length-append, take_all, get_or_past}
use Rattle.ex_base.specs.Fields.{number_at}
use Rattle.slotted_pages.specs.FilePage.{Slot, FilePage, body_of, bodies, taken, room_of, IsSlot, EndsLive, SlotsOf}
use Rattle.slotted_pages.specs.Reads.{added, read_lens}
use Rattle.slotted_pages.specs.Edits.{vacant_at, with_slot, before_live, trimmed, need_of, place_for, slot_with, Left}
use Rattle.slotted_pages.proofs.PageLaws.{len_of, parts_of, ends_cons, ends_tail}
use Rattle.slotted_pages.proofs.EditLaws.{start_of, len_here, bodies_split, bodies_with, length-with, length-push, each_with}
use Rattle.ex_base.proofs.Booleans.{same_number}

-- ---- one slot of the list

get_with_same : (slots : List Slot) (i : ℕ) (slot : Slot) → i ≤ length slots → slice_index_or (with_slot slots i slot) i None ≡ slot
get_with_same [] zero slot le = refl
get_with_same [] (suc i) slot le = absurd (omega arith)
get_with_same (s ∷ slots) zero slot le = refl
get_with_same (s ∷ slots) (suc i) slot le = get_with_same slots i slot (omega arith)

get_with_other : (slots : List Slot) (i k : ℕ) (slot : Slot) → i ≤ length slots → k ≢ i → slice_index_or (with_slot slots i slot) k None ≡ slice_index_or slots k None
get_with_other [] zero zero slot le ne = absurd (ne refl)
get_with_other [] zero (suc k) slot le ne = refl
get_with_other [] (suc i) k slot le ne = absurd (omega arith)
get_with_other (s ∷ slots) zero zero slot le ne = absurd (ne refl)
get_with_other (s ∷ slots) zero (suc k) slot le ne = refl
get_with_other (s ∷ slots) (suc i) zero slot le ne = refl
get_with_other (s ∷ slots) (suc i) (suc k) slot le ne = get_with_other slots i k slot (omega arith) (λ e. ne (ap suc e))

none_slot : (slot : Slot) → IsSlot slot → len_of slot ≡ 0 → slot ≡ None
none_slot None fits e = refl
none_slot (Some body) fits e = absurd (omega arith)

none_of : (slots : List Slot) (k : ℕ) → AllByRecursion IsSlot slots → len_of (slice_index_or slots k None) ≡ 0 → slice_index_or slots k None ≡ None
none_of [] k each e = refl
none_of (s ∷ slots) zero each e = none_slot s each.0 e
none_of (s ∷ slots) (suc k) each e = none_of slots k each.1 e

vacant_is : (slots : List Slot) (i : ℕ) → AllByRecursion IsSlot slots → i ≤ length slots → (i < length slots → len_of (slice_index_or slots i None) ≡ 0) → ((k : ℕ) → k < i → 0 < len_of (slice_index_or slots k None)) → vacant_at slots ≡ i
vacant_is [] i each le here before = omega arith
vacant_is (None ∷ slots) zero each le here before = refl
vacant_is (None ∷ slots) (suc i) each le here before = absurd (omega (arith, before 0 (omega arith)))
vacant_is (Some body ∷ slots) zero each le here before = absurd (omega (arith, here (omega arith), each.0))
vacant_is (Some body ∷ slots) (suc i) each le here before = ap suc (vacant_is slots i each.1 (omega arith) (λ lt. here (omega arith)) (λ k lt. before (suc k) (omega arith)))

-- the bodies' bytes, when one slot is changed
pub taken_with : (slots : List Slot) (i : ℕ) (slot : Slot) → i ≤ length slots → length (bodies (with_slot slots i slot)) + len_of (slice_index_or slots i None) ≡ length (bodies slots) + len_of slot
taken_with slots i slot le =
    let b : List ℕ = bodies (take i slots) in
    let t : List ℕ = bodies (drop (suc i) slots) in
    let o : List ℕ = body_of (slice_index_or slots i None) in
    omega (arith, ap length (bodies_with slots i slot le), ap length (bodies_split slots i), length-append b (body_of slot ++ t), length-append (body_of slot) t, length-append b (o ++ t), length-append o t)

-- ---- the room of a page

pub record Rooms (image : List ℕ) (p : FilePage) (n : ℕ) : Type 0 where
  pub number : n ≡ length p.slots
  pub fields : 4 * n ≤ length image
  pub total : added (read_lens image n (length image)) ≡ length (bodies p.slots)
  pub room : 16 + added (read_lens image n (length image)) + 4 * n ≤ length image
  pub left : length image - (16 + 4 * n + added (read_lens image n (length image))) ≡ room_of (length image) p.slots
  pub small : length image ≤ 8192

pub rooms_of : (image : List ℕ) (p : FilePage) (n : ℕ) → SlotsOf image p → n ≡ number_at 2 image 2 → Rooms image p n
rooms_of image p n h number =
    let parts = parts_of image p h in
    let n_is : n ≡ length p.slots = number ∙ parts.count in
    let whole : take (length p.slots) p.slots ≡ p.slots = take_all (length p.slots) p.slots (omega arith) in
    let total : added (read_lens image n (length image)) ≡ length (bodies p.slots) = ap (λ (k : ℕ). added (read_lens image k (length image))) n_is ∙ start_of image p (length p.slots) h (omega arith) ∙ ap (λ (x : List Slot). length (bodies x)) whole in
    record {
      number = n_is;
      fields = omega (arith, n_is, parts.few);
      total = total;
      room = omega (arith, n_is, total, parts.few);
      left = omega (arith, n_is, total);
      small = parts.small;
    }

-- ---- a slot gets a body

ends_onto : (s : Slot) (slots : List Slot) → EndsLive slots → 0 < length slots → EndsLive (s ∷ slots)
ends_onto s [] live some = absurd (omega arith)
ends_onto s (t ∷ slots) live some = ends_cons s t slots live

some_left : (slots : List Slot) (i : ℕ) (slot : Slot) → 0 < length (with_slot slots i slot)
some_left [] i slot = omega arith
some_left (s ∷ slots) zero slot = omega arith
some_left (s ∷ slots) (suc i) slot = omega arith

ends_with : (slots : List Slot) (i : ℕ) (body : List ℕ) → EndsLive slots → EndsLive (with_slot slots i (Some body))
ends_with [] i body live = tt
ends_with (s ∷ []) zero body live = tt
ends_with (s ∷ []) (suc i) body live = ends_cons s (Some body) [] tt
ends_with (s ∷ t ∷ slots) zero body live = ends_tail s t slots live
ends_with (s ∷ t ∷ slots) (suc i) body live = ends_onto s (with_slot (t ∷ slots) i (Some body)) (ends_with (t ∷ slots) i body (ends_tail s t slots live)) (some_left (t ∷ slots) i (Some body))

pub some_with : (body : List ℕ) → 1 ≤ length body → slot_with body ≡ Some body
some_with [] some = absurd (omega arith)
some_with (x ∷ body) some = refl

pub left_with : (size : ℕ) (slots : List Slot) (i count : ℕ) (body : List ℕ) → AllByRecursion IsSlot slots → EndsLive slots → 1 ≤ length body → count ≡ length (with_slot slots i (Some body)) → taken (with_slot slots i (Some body)) ≤ size → Left size (with_slot slots i (slot_with body)) count
left_with size slots i count body each live some number room =
    let whole : take count (with_slot slots i (Some body)) ≡ with_slot slots i (Some body) = take_all count (with_slot slots i (Some body)) (omega arith) in
    subst (λ (s : Slot). Left size (with_slot slots i s) count) (sym (some_with body some)) (record {
      few = omega arith;
      same = ap bodies whole;
      each = each_with slots i (Some body) each some;
      live = subst EndsLive (sym whole) (ends_with slots i body live);
      room = room;
    })

pub all_taken : (slots : List Slot) (i count : ℕ) (body : List ℕ) → 1 ≤ length body → count ≡ length (with_slot slots i (Some body)) → take count (with_slot slots i (slot_with body)) ≡ with_slot slots i (Some body)
all_taken slots i count body some number =
    ap (λ (s : Slot). take count (with_slot slots i s)) (some_with body some) ∙ take_all count (with_slot slots i (Some body)) (omega arith)

-- ---- the slot of an insert

pub record Inserts (image : List ℕ) (p : FilePage) (n slot : ℕ) : Type 0 where
  pub within : slot ≤ length p.slots
  pub vacant : vacant_at p.slots ≡ slot
  pub empty : len_of (slice_index_or p.slots slot None) ≡ 0

pub inserts_of : (image : List ℕ) (p : FilePage) (n slot : ℕ) → SlotsOf image p → n ≡ number_at 2 image 2 → slot ≤ n → (slot < n → number_at 2 image (length image - 4 * (slot + 1) + 2) ≡ 0) → ((k : ℕ) → k < slot → 0 < number_at 2 image (length image - 4 * (k + 1) + 2)) → Inserts image p n slot
inserts_of image p n slot h number le here before =
    let r = rooms_of image p n h number in
    let empty : slot < length p.slots → len_of (slice_index_or p.slots slot None) ≡ 0 = λ lt. sym (len_here image p slot h lt) ∙ here (omega (arith, r.number)) in
    record {
      within = omega (arith, r.number);
      vacant = vacant_is p.slots slot h.fits.slots (omega (arith, r.number)) empty (λ k lt. subst (λ (x : ℕ). 0 < x) (len_here image p k h (omega (arith, r.number))) (before k lt));
      empty = elim (cases_lt slot (length p.slots)) [
        | inl lt ↦ empty lt
        | inr past ↦ ap len_of (get_or_past p.slots slot None past)
      ];
    }

field_as : (slots : List Slot) (n slot field : ℕ) → n ≡ length slots → vacant_at slots ≡ slot → field ≡ (if slot == n then 4 else 0) → field ≡ (if vacant_at slots == length slots then 4 else 0)
field_as slots n slot field number vacant e = e ∙ ap (λ (k : ℕ). if k == n then 4 else 0) (sym vacant) ∙ ap (λ (k : ℕ). if vacant_at slots == k then 4 else 0) number

pub place_some : (size : ℕ) (slots : List Slot) (n slot field len : ℕ) → n ≡ length slots → vacant_at slots ≡ slot → field ≡ (if slot == n then 4 else 0) → len + field ≤ room_of size slots → Some slot ≡ place_for size slots len
place_some size slots n slot field len number vacant e fits =
    let need : len + field ≡ need_of slots len = ap (λ (k : ℕ). len + k) (field_as slots n slot field number vacant e) in
    let inside : need_of slots len ≤ room_of size slots = subst (λ (k : ℕ). k ≤ room_of size slots) need fits in
    let test : nat_le (need_of slots len) (room_of size slots) ≡ true = le_test (need_of slots len) (room_of size slots) inside in
    ap (λ (k : ℕ). Some k) (sym vacant) ∙ sym (ap (λ (b : Bool). if b then Some (vacant_at slots) else None) test)
  where
    le_test : (a b : ℕ) → a ≤ b → nat_le a b ≡ true
    le_test a b le = grind (arith, nat_tests)

pub place_none : (size : ℕ) (slots : List Slot) (n slot field len : ℕ) → n ≡ length slots → vacant_at slots ≡ slot → field ≡ (if slot == n then 4 else 0) → room_of size slots < len + field → None ≡ place_for size slots len
place_none size slots n slot field len number vacant e over =
    let need : len + field ≡ need_of slots len = ap (λ (k : ℕ). len + k) (field_as slots n slot field number vacant e) in
    let outside : room_of size slots < need_of slots len = subst (λ (k : ℕ). room_of size slots < k) need over in
    let test : nat_le (need_of slots len) (room_of size slots) ≡ false = gt_test (need_of slots len) (room_of size slots) outside in
    sym (ap (λ (b : Bool). if b then Some (vacant_at slots) else None) test)
  where
    gt_test : (a b : ℕ) → b < a → nat_le a b ≡ false
    gt_test a b lt = grind (arith, nat_tests)

field_of : (slot n field : ℕ) → field ≡ (if slot == n then 4 else 0) → (slot ≡ n → field ≡ 4)
field_of slot n field e is = e ∙ ap (λ (b : Bool). if b then 4 else 0) (same_number slot n is)

-- the count after an insert, and that all fits
pub record Fitting (size : ℕ) (slots : List Slot) (slot count : ℕ) (body : List ℕ) : Type 0 where
  pub number : count ≡ length (with_slot slots slot (Some body))
  pub room : taken (with_slot slots slot (Some body)) ≤ size

pub insert_fits : (image : List ℕ) (p : FilePage) (n slot field count : ℕ) (body : List ℕ) → Rooms image p n → Inserts image p n slot → field ≡ (if slot == n then 4 else 0) → length body + field ≤ room_of (length image) p.slots → (slot < n → count ≡ n) → (slot ≡ n → count ≡ n + 1) → Fitting (length image) p.slots slot count body
insert_fits image p n slot field count body r i e fits inside past =
    elim (cases_lt slot (length p.slots)) [
      | inl lt ↦
          let len = length-with p.slots slot (Some body) lt in
          let is = inside (omega (arith, r.number)) in
          record { number = omega (arith, r.number); room = omega (arith, taken_with p.slots slot (Some body) i.within, i.empty, r.number, r.total, r.room) }
      | inr ge ↦
          let at : slot ≡ length p.slots = omega (arith, i.within) in
          let len = length-push p.slots slot (Some body) at in
          let is = past (omega (arith, r.number)) in
          let four = field_of slot n field e (omega (arith, r.number)) in
          record { number = omega (arith, r.number); room = omega (arith, taken_with p.slots slot (Some body) i.within, i.empty, r.number, r.total, r.room) }
    ]

pub resize_fits : (image : List ℕ) (p : FilePage) (n slot : ℕ) (body : List ℕ) → Rooms image p n → slot < length p.slots → length body ≤ len_of (slice_index_or p.slots slot None) + room_of (length image) p.slots → Fitting (length image) p.slots slot n body
resize_fits image p n slot body r lt fits =
    let len = length-with p.slots slot (Some body) lt in
    record { number = omega (arith, r.number); room = omega (arith, taken_with p.slots slot (Some body) (omega arith), r.number, r.total, r.room) }

pub live_below : (slots : List Slot) (slot : ℕ) → 1 ≤ len_of (slice_index_or slots slot None) → slot < length slots
live_below slots slot live = elim (cases_lt slot (length slots)) [
  | inl lt ↦ lt
  | inr past ↦ absurd (omega (arith, ap len_of (get_or_past slots slot None past)))
]

-- ---- a slot is vacated

-- behind the count all are vacant, and the last one before it isn't
pub record Ended (slots : List Slot) (count : ℕ) : Type 0 where
  pub within : count ≤ length slots
  pub vacant : (k : ℕ) → count ≤ k → k < length slots → slice_index_or slots k None ≡ None
  pub last : 0 < count → 0 < len_of (slice_index_or slots (count - 1) None)

ended_tail : (s : Slot) (slots : List Slot) (count : ℕ) → Ended (s ∷ slots) (suc count) → Ended slots count
ended_tail s slots zero h = record { within = omega arith; vacant = λ k le lt. h.vacant (suc k) (omega arith) (omega arith); last = λ some. absurd (omega arith) }
ended_tail s slots (suc count) h = record {
  within = omega (arith, h.within);
  vacant = λ k le lt. h.vacant (suc k) (omega arith) (omega arith);
  last = λ some. let place : suc (suc count) - 1 ≡ suc count = omega arith in let before : suc count - 1 ≡ count = omega arith in
      subst (λ (k : ℕ). 0 < len_of (slice_index_or slots k None)) (sym before) (subst (λ (k : ℕ). 0 < len_of (slice_index_or (s ∷ slots) k None)) place (h.last (omega arith)));
}

ended_none : (s : Slot) (slots : List Slot) → Ended (s ∷ slots) 0 → Ended slots 0
ended_none s slots h = record { within = omega arith; vacant = λ k le lt. h.vacant (suc k) (omega arith) (omega arith); last = λ some. absurd (omega arith) }

before_some : (s : Slot) (slots : List Slot) (count : ℕ) → Ended (s ∷ slots) (suc count) → before_live s (take count slots) ≡ s ∷ take count slots
before_some (Some body) slots count h = refl
before_some None slots zero h = absurd (omega (arith, h.last (omega arith)))
before_some None [] (suc count) h = absurd (omega (arith, h.within))
before_some None (t ∷ slots) (suc count) h = refl

pub trimmed_is : (slots : List Slot) (count : ℕ) → Ended slots count → take count slots ≡ trimmed slots
trimmed_is [] zero h = refl
trimmed_is [] (suc count) h = absurd (omega (arith, h.within))
trimmed_is (s ∷ slots) zero h =
    let rest : [] ≡ trimmed slots = trimmed_is slots 0 (ended_none s slots h) in
    ap (λ (x : Slot). before_live x []) (sym (h.vacant 0 (omega arith) (omega arith))) ∙ ap (before_live s) rest
trimmed_is (s ∷ slots) (suc count) h =
    sym (before_some s slots count h) ∙ ap (before_live s) (trimmed_is slots count (ended_tail s slots count h))

bodies_left : (slots : List Slot) (count : ℕ) → Ended slots count → bodies (take count slots) ≡ bodies slots
bodies_left [] zero h = refl
bodies_left [] (suc count) h = refl
bodies_left (s ∷ slots) zero h = bodies_left slots 0 (ended_none s slots h) ∙ ap (λ (x : Slot). body_of x ++ bodies slots) (sym (h.vacant 0 (omega arith) (omega arith)))
bodies_left (s ∷ slots) (suc count) h = ap (λ (t : List ℕ). body_of s ++ t) (bodies_left slots count (ended_tail s slots count h))

ends_before : (s : Slot) (slots : List Slot) → EndsLive slots → EndsLive (before_live s slots)
ends_before None [] live = tt
ends_before None (t ∷ slots) live = live
ends_before (Some body) [] live = tt
ends_before (Some body) (t ∷ slots) live = live

pub trimmed_live : (slots : List Slot) → EndsLive (trimmed slots)
trimmed_live [] = tt
trimmed_live (s ∷ slots) = ends_before s (trimmed slots) (trimmed_live slots)

pub ended_of : (image : List ℕ) (p : FilePage) (n slot count : ℕ) → SlotsOf image p → n ≡ number_at 2 image 2 → slot < length p.slots → count ≤ n → ((k : ℕ) → count ≤ k → k < n → (k ≡ slot → ⊥) → number_at 2 image (length image - 4 * (k + 1) + 2) ≡ 0) → (0 < count → (count - 1 ≡ slot → ⊥) × (0 < number_at 2 image (length image - 4 * (count - 1 + 1) + 2))) → Ended (with_slot p.slots slot None) count
ended_of image p n slot count h number lt within vacant last =
    let r = rooms_of image p n h number in
    let len = length-with p.slots slot None lt in
    record {
      within = omega (arith, r.number);
      vacant = λ k le less. elim (cases_eq k slot) [
        | inl is ↦ ap (λ (j : ℕ). slice_index_or (with_slot p.slots slot None) j None) is ∙ get_with_same p.slots slot None (omega arith)
        | inr ne ↦ get_with_other p.slots slot k None (omega arith) ne ∙ none_of p.slots k h.fits.slots (sym (len_here image p k h (omega arith)) ∙ vacant k le (omega (arith, r.number)) ne)
      ];
      last = λ some. let both = last some in rw (get_with_other p.slots slot (count - 1) None (omega arith) both.0) (subst (λ (x : ℕ). 0 < x) (len_here image p (count - 1) h (omega (arith, r.number))) both.1);
    }

pub left_without : (image : List ℕ) (p : FilePage) (n slot count : ℕ) → SlotsOf image p → Rooms image p n → slot < length p.slots → Ended (with_slot p.slots slot None) count → Left (length image) (with_slot p.slots slot None) count
left_without image p n slot count h r lt e =
    let len = length-with p.slots slot None lt in
    record {
      few = e.within;
      same = bodies_left (with_slot p.slots slot None) count e;
      each = each_with p.slots slot None h.fits.slots tt;
      live = subst EndsLive (sym (trimmed_is (with_slot p.slots slot None) count e)) (trimmed_live (with_slot p.slots slot None));
      room = omega (arith, taken_with p.slots slot None (omega arith), r.number, r.total, r.room);
    }
