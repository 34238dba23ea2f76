-- A page reads as a file page exactly where it is the spelling of one, which is then the one that is read.
use Rattle.std.proofs.Common.{◌≡◌, ℕ, zero, suc, Bool, true, false, ◌+◌, ◌-◌, ◌*◌, ◌^◌, ◌<◌, ◌≤◌, List, [], ◌∷◌, ◌++◌, length, take, drop, map, Option, Some, None, refl, sym, ap, subst, ◌∙◌, arith, append_assoc}
use Rattle.std.specs.Prelude.{slice_index, ◌==◌, ◌&&◌, nat_le, if◌then◌else◌}
use Rattle.std.specs.List.{AllByRecursion}
use Rattle.std.proofs.lemmas.Bool.Decides.{nat_tests}
use Rattle.std.proofs.lemmas.List.{append-nil, length-append, length-take, length-replicate, drop_at, drop_all, take-append-drop}
use Rattle.ex_base.specs.Bytes.{bytes_at, IsBytes}
use Rattle.ex_base.specs.Fields.{field_bytes, two_bytes, four_bytes, zeros, number_at, AreZero}
use Rattle.ex_base.proofs.FieldLaws.{two_is, four_is}
use Rattle.ex_base.proofs.Places.{behind_more, bytes_there, number_there, number_spelled, bytes_spelled, length-bytes_at, zeros_spelled, AreZero-as}
use Rattle.ex_base.proofs.Lists.{two_front}
use Rattle.slotted_pages.specs.FilePage.{FilePage, Slot, body_of, bodies, slot_field, directory, room_of, file_page, IsSlot, EndsLive, SlotsOf}
use Rattle.slotted_pages.specs.Reads.{slot_read, slot_in, read_slots, read_lens, count_on, page_on, step_to, from_there, end_of, IsPacked, PageReads}

-- ---- the fields of a page

pub length-slot_field : (at : ℕ) (slot : Slot) → length (slot_field at slot) ≡ 4
length-slot_field at None = refl
length-slot_field at (Some body) = omega (arith, length-append (two_bytes at) (two_bytes (length body)), two_is.len at, two_is.len (length body))

pub length-directory : (at : ℕ) (slots : List Slot) → length (directory at slots) ≡ 4 * length slots
length-directory at [] = refl
length-directory at (slot ∷ slots) = omega (arith, length-append (directory (at + length (body_of slot)) slots) (slot_field at slot), length-directory (at + length (body_of slot)) slots, length-slot_field at slot)

pub page_fields : (size : ℕ) (p : FilePage) → file_page size p ≡ 3 ∷ 0 ∷ (two_bytes (length p.slots) ++ (zeros 4 ++ (four_bytes p.file_no ++ (zeros 4 ++ ((bodies p.slots ++ zeros (room_of size p.slots)) ++ directory 16 p.slots)))))
unfolding file_page
page_fields size p = simp append_assoc

-- ---- one slot that is spelled

abbrev pub len_of : Slot → ℕ
len_of slot = length (body_of slot)

-- what stands in a slot's field where its body begins
abbrev pub begin_of : ℕ → Slot → ℕ
begin_of at None = 0
begin_of at (Some body) = at

pub field_is : (at : ℕ) (slot : Slot) → slot_field at slot ≡ two_bytes (begin_of at slot) ++ two_bytes (len_of slot)
unfolding field_bytes
field_is at None = refl
field_is at (Some body) = refl

begin_lt : (at : ℕ) (slot : Slot) → at < 2 ^ 16 → begin_of at slot < 2 ^ 16
begin_lt at None lt = omega arith
begin_lt at (Some body) lt = lt

record FieldThere (page : List ℕ) (pos at : ℕ) (slot : Slot) : Type 0 where
  offset : number_at 2 page pos ≡ begin_of at slot
  len : number_at 2 page (pos + 2) ≡ len_of slot

field_there : (page back : List ℕ) (pos at : ℕ) (slot : Slot) → at < 2 ^ 16 → len_of slot < 2 ^ 16 → drop pos page ≡ slot_field at slot ++ back → FieldThere page pos at slot
field_there page back pos at slot small short e =
    let apart : drop pos page ≡ two_bytes (begin_of at slot) ++ (two_bytes (len_of slot) ++ back) = e ∙ ap (λ (t : List ℕ). t ++ back) (field_is at slot) ∙ append_assoc (two_bytes (begin_of at slot)) (two_bytes (len_of slot)) back in
    let behind : drop (pos + 2) page ≡ two_bytes (len_of slot) ++ back = behind_more page (two_bytes (begin_of at slot)) (two_bytes (len_of slot) ++ back) pos 2 (pos + 2) apart (two_is.len (begin_of at slot)) refl in
    record {
      offset = number_there 2 (2 ^ 16) two_bytes two_is page (two_bytes (len_of slot) ++ back) pos (begin_of at slot) apart (begin_lt at slot small);
      len = number_there 2 (2 ^ 16) two_bytes two_is page back (pos + 2) (len_of slot) behind short;
    }

pub slot_read_some : (len at : ℕ) (page : List ℕ) → 0 < len → slot_read len at page ≡ Some (bytes_at page at len)
slot_read_some zero at page some = absurd (omega arith)
slot_read_some (suc len) at page some = refl

slot_again : (page rest : List ℕ) (pos at : ℕ) (slot : Slot) → IsSlot slot → FieldThere page pos at slot → drop at page ≡ body_of slot ++ rest → slot_in page pos ≡ slot
slot_again page rest pos at None fits field e =
    ap (λ (k : ℕ). slot_read k (number_at 2 page pos) page) field.len
slot_again page rest pos at (Some body) fits field e =
    ap (λ (k : ℕ). slot_read k (number_at 2 page pos) page) field.len ∙ ap (λ (k : ℕ). slot_read (length body) k page) field.offset
    ∙ slot_read_some (length body) at page (omega arith) ∙ ap (λ (t : List ℕ). Some t) (bytes_there page body rest at (length body) e refl)

-- ---- where the bodies end

guard_yes : (b : Bool) (x : ℕ) → b ≡ true → (if b then Some x else None) ≡ Some x
guard_yes b x e = ap (λ (t : Bool). if t then Some x else None) e

step_some : (limit at len : ℕ) → 0 < len → at + len ≤ limit → step_to limit at at len ≡ Some (at + len)
step_some limit at len some inside =
    let other : (len == 0) ≡ false = grind (arith, nat_tests) in
    let test : ((at == at) && nat_le (at + len) limit) ≡ true = grind (arith, nat_tests) in
    ap (λ (t : Bool). if t then (if at == 0 then Some at else None) else (if (at == at) && nat_le (at + len) limit then Some (at + len) else None)) other ∙ guard_yes _ (at + len) test

step_again : (limit at : ℕ) (slot : Slot) → IsSlot slot → at + len_of slot ≤ limit → step_to limit at (begin_of at slot) (len_of slot) ≡ Some (at + len_of slot)
step_again limit at None fits inside = ap (λ (k : ℕ). Some k) (let e : at ≡ at + 0 = omega arith in e)
step_again limit at (Some body) fits inside = step_some limit at (length body) (omega arith) inside

-- ---- slots that are spelled are read

pub record SlotsThere (limit : ℕ) (page : List ℕ) (end at : ℕ) (slots : List Slot) : Type 0 where
  pub same : read_slots page (length slots) end ≡ slots
  pub ends : end_of limit page (length slots) end at ≡ Some (at + length (bodies slots))

slots_there : (limit : ℕ) (page front back rest : List ℕ) (end at : ℕ) (slots : List Slot) → AllByRecursion IsSlot slots → at + length (bodies slots) ≤ limit → limit < 2 ^ 16 → page ≡ (front ++ directory at slots) ++ back → length front + 4 * length slots ≡ end → drop at page ≡ bodies slots ++ rest → SlotsThere limit page end at slots
slots_there limit page front back rest end at [] fits inside small e len b = record { same = refl; ends = ap (λ (k : ℕ). Some k) (let e : at ≡ at + 0 = omega arith in e) }
slots_there limit page front back rest end at (slot ∷ slots) fits inside small e len b =
    let sum : length (body_of slot ++ bodies slots) ≡ len_of slot + length (bodies slots) = length-append (body_of slot) (bodies slots) in
    let spread : page ≡ (front ++ directory (at + len_of slot) slots) ++ (slot_field at slot ++ back) =
    e ∙ ap (λ (t : List ℕ). t ++ back) (sym (append_assoc front (directory (at + len_of slot) slots) (slot_field at slot))) ∙ append_assoc (front ++ directory (at + len_of slot) slots) (slot_field at slot) back in
    let here : drop (end - 4) page ≡ slot_field at slot ++ back =
    ap (λ (t : List ℕ). drop (end - 4) t) spread ∙ drop_at (front ++ directory (at + len_of slot) slots) (slot_field at slot ++ back) (end - 4) (omega (arith, length-append front (directory (at + len_of slot) slots), length-directory (at + len_of slot) slots)) in
    let field : FieldThere page (end - 4) at slot = field_there page back (end - 4) at slot (omega (arith, sum)) (omega (arith, sum)) here in
    let split : drop at page ≡ body_of slot ++ (bodies slots ++ rest) = b ∙ append_assoc (body_of slot) (bodies slots) rest in
    let behind : drop (at + len_of slot) page ≡ bodies slots ++ rest = behind_more page (body_of slot) (bodies slots ++ rest) at (len_of slot) (at + len_of slot) split refl refl in
    let next = slots_there limit page front (slot_field at slot ++ back) rest (end - 4) (at + len_of slot) slots fits.1 (omega (arith, sum)) small spread (omega arith) behind in
    let first : slot_in page (end - 4) ≡ slot = slot_again page (bodies slots ++ rest) (end - 4) at slot fits.0 field split in
    let step : step_to limit at (number_at 2 page (end - 4)) (number_at 2 page (end - 4 + 2)) ≡ Some (at + len_of slot) =
    ap (λ (k : ℕ). step_to limit at k (number_at 2 page (end - 4 + 2))) field.offset ∙ ap (λ (k : ℕ). step_to limit at (begin_of at slot) k) field.len ∙ step_again limit at slot fits.0 (omega (arith, sum)) in
    record {
      same = cc (first, next.same);
      ends = ap (λ (o : Option ℕ). from_there o (λ k. end_of limit page (length slots) (end - 4) k)) step ∙ next.ends ∙ ap (λ (k : ℕ). Some k) (let total : at + len_of slot + length (bodies slots) ≡ at + length (body_of slot ++ bodies slots) = omega (arith, sum) in total);
    }

pub ends_tail : (s t : Slot) (slots : List Slot) → EndsLive (s ∷ t ∷ slots) → EndsLive (t ∷ slots)
ends_tail None t slots h = h
ends_tail (Some body) t slots h = h

one_live : (slot : Slot) → IsSlot slot → EndsLive (slot ∷ []) → 0 < len_of slot
one_live None fits live = absurd live
one_live (Some body) fits live = omega arith

last_there : (page front back : List ℕ) (at : ℕ) (slots : List Slot) → AllByRecursion IsSlot slots → EndsLive slots → 0 < length slots → at + length (bodies slots) < 2 ^ 16 → page ≡ (front ++ directory at slots) ++ back → 0 < number_at 2 page (length front + 2)
last_there page front back at [] fits live some small e = absurd (omega arith)
last_there page front back at (slot ∷ []) fits live some small e =
    let here : drop (length front) page ≡ slot_field at slot ++ back = ap (λ (t : List ℕ). drop (length front) t) (e ∙ append_assoc front (slot_field at slot) back) ∙ drop_at front (slot_field at slot ++ back) (length front) refl in
    let sum : length (body_of slot ++ []) ≡ len_of slot + 0 = length-append (body_of slot) [] in
    let field : FieldThere page (length front) at slot = field_there page back (length front) at slot (omega (arith, sum)) (omega (arith, sum)) here in
    omega (arith, field.len, one_live slot fits.0 live)
last_there page front back at (slot ∷ next ∷ slots) fits live some small e =
    let sum : length (body_of slot ++ bodies (next ∷ slots)) ≡ len_of slot + length (bodies (next ∷ slots)) = length-append (body_of slot) (bodies (next ∷ slots)) in
    let spread : page ≡ (front ++ directory (at + len_of slot) (next ∷ slots)) ++ (slot_field at slot ++ back) =
    e ∙ ap (λ (t : List ℕ). t ++ back) (sym (append_assoc front (directory (at + len_of slot) (next ∷ slots)) (slot_field at slot))) ∙ append_assoc (front ++ directory (at + len_of slot) (next ∷ slots)) (slot_field at slot) back in
    last_there page front (slot_field at slot ++ back) (at + len_of slot) (next ∷ slots) fits.1 (ends_tail slot next slots live) (omega arith) (omega (arith, sum)) spread

-- the parts of a page that is spelled
pub record Parts (page : List ℕ) (p : FilePage) : Type 0 where
  pub kind : slice_index page 0 ≡ 3
  pub second : slice_index page 1 ≡ 0
  pub two : drop 2 page ≡ two_bytes (length p.slots) ++ (zeros 4 ++ (four_bytes p.file_no ++ (zeros 4 ++ ((bodies p.slots ++ zeros (room_of (length page) p.slots)) ++ directory 16 p.slots))))
  pub four : drop 4 page ≡ zeros 4 ++ (four_bytes p.file_no ++ (zeros 4 ++ ((bodies p.slots ++ zeros (room_of (length page) p.slots)) ++ directory 16 p.slots)))
  pub eight : drop 8 page ≡ four_bytes p.file_no ++ (zeros 4 ++ ((bodies p.slots ++ zeros (room_of (length page) p.slots)) ++ directory 16 p.slots))
  pub twelve : drop 12 page ≡ zeros 4 ++ ((bodies p.slots ++ zeros (room_of (length page) p.slots)) ++ directory 16 p.slots)
  pub area : drop 16 page ≡ (bodies p.slots ++ zeros (room_of (length page) p.slots)) ++ directory 16 p.slots
  pub count : number_at 2 page 2 ≡ length p.slots
  pub few : 16 + 4 * length p.slots + length (bodies p.slots) ≤ length page
  pub small : length page ≤ 8192

pub parts_of : (page : List ℕ) (p : FilePage) → SlotsOf page p → Parts page p
parts_of page p h =
    let size : ℕ = length page in
    let behind : List ℕ = (bodies p.slots ++ zeros (room_of (length page) p.slots)) ++ directory 16 p.slots in
    let whole : page ≡ 3 ∷ 0 ∷ (two_bytes (length p.slots) ++ (zeros 4 ++ (four_bytes p.file_no ++ (zeros 4 ++ ((bodies p.slots ++ zeros (room_of (length page) p.slots)) ++ directory 16 p.slots))))) = h.spelled ∙ page_fields (length page) p in
    let two : drop 2 page ≡ two_bytes (length p.slots) ++ (zeros 4 ++ (four_bytes p.file_no ++ (zeros 4 ++ ((bodies p.slots ++ zeros (room_of (length page) p.slots)) ++ directory 16 p.slots)))) = ap (λ (t : List ℕ). drop 2 t) whole in
    let four = behind_more page (two_bytes (length p.slots)) (zeros 4 ++ (four_bytes p.file_no ++ (zeros 4 ++ ((bodies p.slots ++ zeros (room_of (length page) p.slots)) ++ directory 16 p.slots)))) 2 2 4 two (two_is.len (length p.slots)) refl in
    let eight = behind_more page (zeros 4) (four_bytes p.file_no ++ (zeros 4 ++ ((bodies p.slots ++ zeros (room_of (length page) p.slots)) ++ directory 16 p.slots))) 4 4 8 four refl refl in
    let twelve = behind_more page (four_bytes p.file_no) (zeros 4 ++ ((bodies p.slots ++ zeros (room_of (length page) p.slots)) ++ directory 16 p.slots)) 8 4 12 eight (four_is.len p.file_no) refl in
    let area = behind_more page (zeros 4) ((bodies p.slots ++ zeros (room_of (length page) p.slots)) ++ directory 16 p.slots) 12 4 16 twelve refl refl in
    record {
      kind = ap (λ (t : List ℕ). slice_index t 0) whole;
      second = ap (λ (t : List ℕ). slice_index t 1) whole;
      two = two;
      four = four;
      eight = eight;
      twelve = twelve;
      area = area;
      count = number_there 2 (2 ^ 16) two_bytes two_is page _ 2 (length p.slots) two (omega (arith, h.fits.room, h.fits.page));
      few = h.fits.room;
      small = h.fits.page;
    }

-- the page's bytes before the directory, and the directory
pub before_directory : (page : List ℕ) (p : FilePage) → SlotsOf page p → page ≡ ((take 16 page ++ (bodies p.slots ++ zeros (room_of (length page) p.slots))) ++ directory 16 p.slots) ++ []
before_directory page p h =
    let parts = parts_of page p h in
    sym (take-append-drop 16 page) ∙ ap (λ (t : List ℕ). take 16 page ++ t) parts.area ∙ sym (append_assoc (take 16 page) (bodies p.slots ++ zeros (room_of (length page) p.slots)) (directory 16 p.slots)) ∙ sym (append-nil _)

length-front : (page : List ℕ) (p : FilePage) → SlotsOf page p → length (take 16 page ++ (bodies p.slots ++ zeros (room_of (length page) p.slots))) + 4 * length p.slots ≡ length page
length-front page p h =
    omega (arith, h.fits.room, length-append (take 16 page) (bodies p.slots ++ zeros (room_of (length page) p.slots)), length-take 16 page, length-append (bodies p.slots) (zeros (room_of (length page) p.slots)), length-replicate {A = ℕ} (room_of (length page) p.slots) 0)

pub slots_read : (page : List ℕ) (p : FilePage) → SlotsOf page p → SlotsThere (length page - 4 * length p.slots) page (length page) 16 p.slots
slots_read page p h =
    let parts = parts_of page p h in
    slots_there (length page - 4 * length p.slots) page (take 16 page ++ (bodies p.slots ++ zeros (room_of (length page) p.slots))) [] (zeros (room_of (length page) p.slots) ++ directory 16 p.slots) (length page) 16 p.slots h.fits.slots (omega (arith, parts.few)) (omega (arith, parts.small)) (before_directory page p h) (length-front page p h) (parts.area ∙ append_assoc (bodies p.slots) (zeros (room_of (length page) p.slots)) (directory 16 p.slots))

abbrev made_page : ℕ → List Slot → FilePage
made_page file_no slots = record { file_no = file_no; slots = slots }

-- what is read on a file page is its file and its slots
pub page_read_is : (page : List ℕ) (p : FilePage) → SlotsOf page p → page_on page ≡ p
unfolding page_on
page_read_is page p h =
    let parts = parts_of page p h in
    let number : number_at 4 page 8 ≡ p.file_no = number_there 4 (2 ^ 32) four_bytes four_is page _ 8 p.file_no parts.eight h.fits.file_no in
    let slots : read_slots page (number_at 2 page 2) (length page) ≡ p.slots = ap (λ (k : ℕ). read_slots page k (length page)) parts.count ∙ (slots_read page p h).same in
    let same : made_page (number_at 4 page 8) (read_slots page (number_at 2 page 2) (length page)) ≡ made_page p.file_no p.slots = cc (number, slots) in
    same

pub spelled_reads : (page : List ℕ) (p : FilePage) → SlotsOf page p → PageReads page
spelled_reads page p h =
    let parts = parts_of page p h in
    let read = slots_read page p h in
    let last : 0 < length p.slots → 0 < number_at 2 page (length (take 16 page ++ (bodies p.slots ++ zeros (room_of (length page) p.slots))) + 2) = λ some. last_there page (take 16 page ++ (bodies p.slots ++ zeros (room_of (length page) p.slots))) [] 16 p.slots h.fits.slots h.fits.last some (omega (arith, parts.few, parts.small)) (before_directory page p h) in
    let place : length (take 16 page ++ (bodies p.slots ++ zeros (room_of (length page) p.slots))) + 2 ≡ length page - 4 * number_at 2 page 2 + 2 = omega (arith, length-front page p h, parts.count) in
    let behind : drop (16 + length (bodies p.slots)) page ≡ zeros (room_of (length page) p.slots) ++ directory 16 p.slots = behind_more page (bodies p.slots) (zeros (room_of (length page) p.slots) ++ directory 16 p.slots) 16 (length (bodies p.slots)) (16 + length (bodies p.slots)) (parts.area ∙ append_assoc (bodies p.slots) (zeros (room_of (length page) p.slots)) (directory 16 p.slots)) refl refl in
    let gap : bytes_at page (16 + length (bodies p.slots)) (room_of (length page) p.slots) ≡ zeros (room_of (length page) p.slots) = bytes_there page (zeros (room_of (length page) p.slots)) (directory 16 p.slots) (16 + length (bodies p.slots)) (room_of (length page) p.slots) behind (length-replicate {A = ℕ} (room_of (length page) p.slots) 0) in
    let left : room_of (length page) p.slots ≡ length page - 4 * length p.slots - (16 + length (bodies p.slots)) = omega (arith, parts.few) in
    record {
      long = omega (arith, parts.few);
      size = parts.small;
      kind = parts.kind;
      second = parts.second;
      gap = AreZero-as _ 4 (bytes_there page (zeros 4) _ 4 4 parts.four refl);
      second_gap = AreZero-as _ 4 (bytes_there page (zeros 4) _ 12 4 parts.twelve refl);
      room = omega (arith, parts.few, parts.count);
      last = λ some. subst (λ (k : ℕ). 0 < number_at 2 page k) place (last (omega (arith, parts.count)));
      packed = subst (λ (n : ℕ). IsPacked (length page - 4 * n) page n) (sym parts.count) (16 + length (bodies p.slots), read.ends, subst (λ (k : ℕ). AreZero (bytes_at page (16 + length (bodies p.slots)) k)) left (AreZero-as _ (room_of (length page) p.slots) gap));
    }

-- ---- a page that reads as a file page is spelled by what is read

-- a slot as it is read, where the bodies end behind it at a position
pub record Stepped (limit : ℕ) (page : List ℕ) (at offset len : ℕ) (go : ℕ → Option ℕ) (fin : ℕ) (slot : Slot) : Type 0 where
  pub fits : IsSlot slot
  pub same_len : len_of slot ≡ len
  pub field : slot_field at slot ≡ two_bytes offset ++ two_bytes len
  pub inside : at + len ≤ limit
  pub rest : go (at + len) ≡ Some fin
  pub body : drop at page ≡ body_of slot ++ drop (at + len) page
  pub placed : 0 < len → offset ≡ at

guarded : (b : Bool) (x fin : ℕ) (go : ℕ → Option ℕ) → from_there (if b then Some x else None) go ≡ Some fin → (b ≡ true) × (go x ≡ Some fin)
guarded true x fin go e = (refl, e)
guarded false x fin go e = absurd cc

step_is : (limit at offset len : ℕ) → 0 < len → step_to limit at offset len ≡ (if (offset == at) && nat_le (at + len) limit then Some (at + len) else None)
step_is limit at offset len some =
    let other : (len == 0) ≡ false = grind (arith, nat_tests) in
    ap (λ (t : Bool). if t then (if offset == 0 then Some at else None) else (if (offset == at) && nat_le (at + len) limit then Some (at + len) else None)) other

both_tests : (offset at n limit : ℕ) → ((offset == at) && nat_le n limit) ≡ true → (offset ≡ at) × (n ≤ limit)
both_tests offset at n limit e = (grind (arith, nat_tests), grind (arith, nat_tests))

is_zero_test : (n : ℕ) → (n == 0) ≡ true → n ≡ 0
is_zero_test n e = grind (arith, nat_tests)

no_field : zeros 4 ≡ two_bytes 0 ++ two_bytes 0
unfolding field_bytes
no_field = refl

pub stepped : (limit : ℕ) (page : List ℕ) (at offset len : ℕ) (go : ℕ → Option ℕ) (fin : ℕ) → limit ≤ length page → at ≤ limit → from_there (step_to limit at offset len) go ≡ Some fin → Stepped limit page at offset len go fin (slot_read len offset page)
stepped limit page at offset zero go fin short le e =
    let both = guarded (offset == 0) at fin go e in
    let zero_is : offset ≡ 0 = is_zero_test offset both.0 in
    let same : at ≡ at + 0 = omega arith in
    record {
      fits = tt;
      same_len = refl;
      field = no_field ∙ ap (λ (k : ℕ). two_bytes k ++ two_bytes 0) (sym zero_is);
      inside = omega arith;
      rest = ap go (sym same) ∙ both.1;
      body = ap (λ (k : ℕ). drop k page) same;
      placed = λ some. absurd (omega arith);
    }
stepped limit page at offset (suc len) go fin short le e =
    let both = guarded ((offset == at) && nat_le (at + suc len) limit) (at + suc len) fin go (ap (λ (o : Option ℕ). from_there o go) (sym (step_is limit at offset (suc len) (omega arith))) ∙ e) in
    let tests = both_tests offset at (at + suc len) limit both.0 in
    let full : length (bytes_at page offset (suc len)) ≡ suc len = length-bytes_at page offset (suc len) (omega (arith, tests.0, tests.1)) in
    record {
      fits = omega (arith, full);
      same_len = full;
      field = ap (λ (k : ℕ). two_bytes k ++ two_bytes (length (bytes_at page offset (suc len)))) (sym tests.0) ∙ ap (λ (k : ℕ). two_bytes offset ++ two_bytes k) full;
      inside = tests.1;
      rest = both.1;
      body = bytes_spelled page at (suc len) (at + suc len) refl ∙ ap (λ (k : ℕ). bytes_at page k (suc len) ++ drop (at + suc len) page) (sym tests.0);
      placed = λ some. tests.0;
    }

pub record SlotsBack (limit : ℕ) (page : List ℕ) (n end at fin : ℕ) : Type 0 where
  pub fit : AllByRecursion IsSlot (read_slots page n end)
  pub count : length (read_slots page n end) ≡ n
  pub lens : read_lens page n end ≡ map len_of (read_slots page n end)
  pub total : at + length (bodies (read_slots page n end)) ≡ fin
  pub below : fin ≤ limit
  pub bytes : drop at page ≡ bodies (read_slots page n end) ++ drop fin page

pub slots_back : (limit : ℕ) (page : List ℕ) (n end at fin : ℕ) → limit ≤ length page → at ≤ limit → end_of limit page n end at ≡ Some fin → SlotsBack limit page n end at fin
slots_back limit page zero end at fin short le e =
    let same : at ≡ fin = cc in
    record { fit = tt; count = refl; lens = refl; total = omega (arith, same); below = omega (arith, same); bytes = ap (λ (k : ℕ). drop k page) same }
slots_back limit page (suc n) end at fin short le e =
    let step = stepped limit page at (number_at 2 page (end - 4)) (number_at 2 page (end - 4 + 2)) (λ next. end_of limit page n (end - 4) next) fin short le e in
    let rest = slots_back limit page n (end - 4) (at + number_at 2 page (end - 4 + 2)) fin short step.inside step.rest in
    record {
      fit = (step.fits, rest.fit);
      count = omega (arith, rest.count);
      lens = cc (step.same_len, rest.lens);
      total = omega (arith, rest.total, step.same_len, length-append (body_of (slot_in page (end - 4))) (bodies (read_slots page n (end - 4))));
      below = rest.below;
      bytes = step.body ∙ ap (λ (t : List ℕ). body_of (slot_in page (end - 4)) ++ t) rest.bytes ∙ sym (append_assoc (body_of (slot_in page (end - 4))) (bodies (read_slots page n (end - 4))) (drop fin page));
    }

pub directory_back : (limit : ℕ) (page : List ℕ) (n end at fin : ℕ) → IsBytes page → 4 * n ≤ end → end ≤ length page → limit ≤ length page → at ≤ limit → end_of limit page n end at ≡ Some fin → drop (end - 4 * n) page ≡ directory at (read_slots page n end) ++ drop end page
directory_back limit page zero end at fin bytes room inside short le e = ap (λ (k : ℕ). drop k page) (let same : end - 4 * 0 ≡ end = omega arith in same)
directory_back limit page (suc n) end at fin bytes room inside short le e =
    let step = stepped limit page at (number_at 2 page (end - 4)) (number_at 2 page (end - 4 + 2)) (λ next. end_of limit page n (end - 4) next) fin short le e in
    let rest = directory_back limit page n (end - 4) (at + number_at 2 page (end - 4 + 2)) fin bytes (omega arith) (omega arith) short step.inside step.rest in
    let slot : Slot = slot_in page (end - 4) in
    let slots : List Slot = read_slots page n (end - 4) in
    let offset : drop (end - 4) page ≡ two_bytes (number_at 2 page (end - 4)) ++ drop (end - 4 + 2) page = number_spelled 2 (2 ^ 16) two_bytes two_is page (end - 4) (end - 4 + 2) bytes refl (omega arith) in
    let len : drop (end - 4 + 2) page ≡ two_bytes (number_at 2 page (end - 4 + 2)) ++ drop end page = number_spelled 2 (2 ^ 16) two_bytes two_is page (end - 4 + 2) end bytes (omega arith) inside in
    let here : drop (end - 4) page ≡ slot_field at (slot_in page (end - 4)) ++ drop end page =
    offset ∙ ap (λ (t : List ℕ). two_bytes (number_at 2 page (end - 4)) ++ t) len ∙ sym (append_assoc (two_bytes (number_at 2 page (end - 4))) (two_bytes (number_at 2 page (end - 4 + 2))) (drop end page)) ∙ ap (λ (t : List ℕ). t ++ drop end page) (sym step.field) in
    let place : end - 4 * suc n ≡ end - 4 - 4 * n = omega arith in
    ap (λ (k : ℕ). drop k page) place ∙ rest ∙ ap (λ (k : ℕ). directory (at + k) (read_slots page n (end - 4)) ++ drop (end - 4) page) (sym step.same_len)
    ∙ ap (λ (t : List ℕ). directory (at + len_of (slot_in page (end - 4))) (read_slots page n (end - 4)) ++ t) here
    ∙ sym (append_assoc (directory (at + len_of (slot_in page (end - 4))) (read_slots page n (end - 4))) (slot_field at (slot_in page (end - 4))) (drop end page))

live_read : (len at : ℕ) (page : List ℕ) → 0 < len → EndsLive (slot_read len at page ∷ [])
live_read zero at page some = absurd (omega arith)
live_read (suc len) at page some = tt

pub ends_cons : (s t : Slot) (slots : List Slot) → EndsLive (t ∷ slots) → EndsLive (s ∷ t ∷ slots)
ends_cons None t slots h = h
ends_cons (Some body) t slots h = h

pub last_live : (page : List ℕ) (n end : ℕ) → 4 * n ≤ end → (0 < n → 0 < number_at 2 page (end - 4 * n + 2)) → EndsLive (read_slots page n end)
last_live page zero end room h = tt
last_live page (suc zero) end room h = live_read (number_at 2 page (end - 4 + 2)) (number_at 2 page (end - 4)) page (h (omega arith))
last_live page (suc (suc n)) end room h =
    let place : end - 4 * suc (suc n) + 2 ≡ end - 4 - 4 * suc n + 2 = omega arith in
    ends_cons (slot_in page (end - 4)) (slot_in page (end - 4 - 4)) (read_slots page n (end - 4 - 4)) (last_live page (suc n) (end - 4) (omega arith) (λ some. subst (λ (k : ℕ). 0 < number_at 2 page k) place (h (omega arith))))

pub back_of : (page : List ℕ) → (h : PageReads page) → SlotsBack (length page - 4 * count_on page) page (count_on page) (length page) 16 h.packed.0
back_of page h = slots_back (length page - 4 * count_on page) page (count_on page) (length page) 16 h.packed.0 (omega arith) (omega (arith, h.room)) h.packed.1

area_back : (page : List ℕ) → IsBytes page → (h : PageReads page) → drop 16 page ≡ (bodies (read_slots page (count_on page) (length page)) ++ zeros (room_of (length page) (read_slots page (count_on page) (length page)))) ++ directory 16 (read_slots page (count_on page) (length page))
area_back page bytes h =
    let n : ℕ = count_on page in
    let limit : ℕ = length page - 4 * count_on page in
    let slots : List Slot = read_slots page (count_on page) (length page) in
    let back = back_of page h in
    let dir : drop (length page - 4 * count_on page) page ≡ directory 16 (read_slots page (count_on page) (length page)) ++ drop (length page) page = directory_back limit page n (length page) 16 h.packed.0 bytes (omega (arith, h.room)) (omega arith) (omega arith) (omega (arith, h.room)) h.packed.1 in
    let room : length page - 4 * count_on page - h.packed.0 ≡ room_of (length page) (read_slots page (count_on page) (length page)) = omega (arith, back.total, back.count, h.room) in
    let gap : drop h.packed.0 page ≡ zeros (limit - h.packed.0) ++ drop limit page = zeros_spelled page h.packed.0 (limit - h.packed.0) limit (omega (arith, back.below)) (omega arith) h.packed.2 in
    back.bytes ∙ ap (λ (t : List ℕ). bodies (read_slots page (count_on page) (length page)) ++ t) (gap ∙ ap (λ (k : ℕ). zeros k ++ drop (length page - 4 * count_on page) page) room ∙ ap (λ (t : List ℕ). zeros (room_of (length page) (read_slots page (count_on page) (length page))) ++ t) (dir ∙ ap (λ (t : List ℕ). directory 16 (read_slots page (count_on page) (length page)) ++ t) (drop_all (length page) page (omega arith)) ∙ append-nil _))
    ∙ sym (append_assoc (bodies (read_slots page (count_on page) (length page))) (zeros (room_of (length page) (read_slots page (count_on page) (length page)))) (directory 16 (read_slots page (count_on page) (length page))))

pub reads_spelled : (page : List ℕ) → IsBytes page → PageReads page → SlotsOf page (page_on page)
unfolding page_on
reads_spelled page bytes h =
    let back = back_of page h in
    let two : drop 2 page ≡ two_bytes (count_on page) ++ drop 4 page = number_spelled 2 (2 ^ 16) two_bytes two_is page 2 4 bytes refl (omega (arith, h.long)) in
    let four : drop 4 page ≡ zeros 4 ++ drop 8 page = zeros_spelled page 4 4 8 refl (omega (arith, h.long)) h.gap in
    let eight : drop 8 page ≡ four_bytes (number_at 4 page 8) ++ drop 12 page = number_spelled 4 (2 ^ 32) four_bytes four_is page 8 12 bytes refl (omega (arith, h.long)) in
    let twelve : drop 12 page ≡ zeros 4 ++ drop 16 page = zeros_spelled page 12 4 16 refl h.long h.second_gap in
    let fields : drop 2 page ≡ two_bytes (length (page_on page).slots) ++ (zeros 4 ++ (four_bytes (page_on page).file_no ++ (zeros 4 ++ ((bodies (page_on page).slots ++ zeros (room_of (length page) (page_on page).slots)) ++ directory 16 (page_on page).slots)))) =
    two ∙ ap (λ (k : ℕ). two_bytes k ++ drop 4 page) (sym back.count)
    ∙ ap (λ (t : List ℕ). two_bytes (length (read_slots page (count_on page) (length page))) ++ t) (four ∙ ap (λ (t : List ℕ). zeros 4 ++ t) (eight ∙ ap (λ (t : List ℕ). four_bytes (number_at 4 page 8) ++ t) (twelve ∙ ap (λ (t : List ℕ). zeros 4 ++ t) (area_back page bytes h)))) in
    record {
      fits = record {
        file_no = four_is.below page 8 bytes;
        slots = back.fit;
        last = last_live page (count_on page) (length page) (omega (arith, h.room)) h.last;
        room = omega (arith, back.total, back.count, back.below, h.room);
        page = h.size;
      };
      spelled = two_front page (omega (arith, h.long)) ∙ ap (λ (k : ℕ). k ∷ slice_index page 1 ∷ drop 2 page) h.kind ∙ ap (λ (k : ℕ). 3 ∷ k ∷ drop 2 page) h.second ∙ ap (λ (t : List ℕ). 3 ∷ 0 ∷ t) fields ∙ sym (page_fields (length page) (page_on page));
    }
