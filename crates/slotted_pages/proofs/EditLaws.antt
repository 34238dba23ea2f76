-- A page whose slot was changed.
use Rattle.std.proofs.Common.{◌≡◌, ℕ, zero, suc, ◌+◌, ◌-◌, ◌*◌, ◌^◌, ◌<◌, ◌≤◌, List, [], ◌∷◌, ◌++◌, length, take, drop, map, set, get_or, Some, None, refl, sym, ap, subst, ◌∙◌, arith, append_assoc, inl, inr}
use Rattle.std.specs.Prelude.{slice_index_or}
use Rattle.std.specs.List.{AllByRecursion}
use Rattle.std.proofs.lemmas.Bool.{cases_lt}
use Rattle.std.proofs.lemmas.List.{append-nil, length-append, length-take, length-drop, length-replicate, take-map, take_at, take_all, drop_at, replicate-append-replicate, get_or-map, get_or_past}
use Rattle.ex_base.specs.Bytes.{bytes_at, written}
use Rattle.ex_base.specs.Fields.{field_bytes, two_bytes, four_bytes, zeros, number_at}
use Rattle.ex_base.proofs.FieldLaws.{two_is, four_is}
use Rattle.ex_base.proofs.Places.{number_there}
use Rattle.slotted_pages.specs.FilePage.{Slot, FilePage, body_of, bodies, slot_field, directory, taken, room_of, IsSlot, SlotsOf}
use Rattle.slotted_pages.specs.Reads.{added, read_lens}
use Rattle.slotted_pages.specs.Edits.{with_slot, with_slots, slot_with, Left, len_field, directory_of}
use Rattle.slotted_pages.proofs.PageLaws.{len_of, parts_of, slots_read, slots_back, page_fields, length-directory}
use Rattle.slotted_pages.proofs.ViewLaws.{total_len}
use Rattle.slotted_pages.proofs.LoopLaws.{lens_more}
use Rattle.ex_base.proofs.Splices.{length-written, take-written, drop-written, drop-written-at}
use Rattle.slotted_pages.proofs.BytesLaws.{part_front, number_front, number_behind, begin_some}

-- ---- the lengths on a page

pub lens_of : (page : List ℕ) (p : FilePage) → SlotsOf page p → read_lens page (length p.slots) (length page) ≡ map len_of p.slots
lens_of page p h =
    let parts = parts_of page p h in
    let read = slots_read page p h in
    let back = slots_back (length page - 4 * length p.slots) page (length p.slots) (length page) 16 (16 + length (bodies p.slots)) (omega arith) (omega (arith, parts.few)) read.ends in
    back.lens ∙ ap (map len_of) read.same

lens_take : (page : List ℕ) (m n end : ℕ) → m ≤ n → read_lens page m end ≡ take m (read_lens page n end)
lens_take page zero n end le = refl
lens_take page (suc m) zero end le = absurd (omega arith)
lens_take page (suc m) (suc n) end le = ap (λ (t : List ℕ). number_at 2 page (end - 4 + 2) ∷ t) (lens_take page m n (end - 4) (omega arith))

pub start_of : (page : List ℕ) (p : FilePage) (m : ℕ) → SlotsOf page p → m ≤ length p.slots → added (read_lens page m (length page)) ≡ length (bodies (take m p.slots))
start_of page p m h le =
    ap added (lens_take page m (length p.slots) (length page) le ∙ ap (take m) (lens_of page p h) ∙ take-map len_of m p.slots) ∙ total_len (take m p.slots)

lens_number : (page : List ℕ) (n end i : ℕ) → i < n → get_or (read_lens page n end) i 0 ≡ number_at 2 page (end - 4 * (i + 1) + 2)
lens_number page zero end i lt = absurd (omega arith)
lens_number page (suc n) end zero lt = ap (number_at 2 page) (let e : end - 4 + 2 ≡ end - 4 * (0 + 1) + 2 = omega arith in e)
lens_number page (suc n) end (suc i) lt = lens_number page n (end - 4) i (omega arith) ∙ ap (number_at 2 page) (let e : end - 4 - 4 * (i + 1) + 2 ≡ end - 4 * (suc i + 1) + 2 = omega arith in e)

pub len_here : (page : List ℕ) (p : FilePage) (i : ℕ) → SlotsOf page p → i < length p.slots → number_at 2 page (length page - 4 * (i + 1) + 2) ≡ len_of (slice_index_or p.slots i None)
len_here page p i h lt =
    sym (lens_number page (length p.slots) (length page) i lt) ∙ ap (λ (t : List ℕ). get_or t i 0) (lens_of page p h) ∙ get_or-map len_of p.slots i None 0 lt

-- ---- a length that was written

lens_by : (a b : List ℕ) (n end : ℕ) → ((k : ℕ) → k < n → number_at 2 a (end - 4 * (k + 1) + 2) ≡ number_at 2 b (end - 4 * (k + 1) + 2)) → read_lens a n end ≡ read_lens b n end
lens_by a b zero end h = refl
lens_by a b (suc n) end h =
    let place : end - 4 * (0 + 1) + 2 ≡ end - 4 + 2 = omega arith in
    let head : number_at 2 a (end - 4 + 2) ≡ number_at 2 b (end - 4 + 2) = subst (λ (k : ℕ). number_at 2 a k ≡ number_at 2 b k) place (h 0 (omega arith)) in
    let rest = lens_by a b n (end - 4) (λ k lt. subst (λ (j : ℕ). number_at 2 a j ≡ number_at 2 b j) (let e : end - 4 * (suc k + 1) + 2 ≡ end - 4 - 4 * (k + 1) + 2 = omega arith in e) (h (suc k) (omega arith))) in
    cc (head, rest)

lens_written : (x : List ℕ) (n slot end v pos : ℕ) → slot < n → 4 * n ≤ end → end ≤ length x → v < 2 ^ 16 → pos ≡ end - 4 * (slot + 1) + 2 → read_lens (written x pos (two_bytes v)) n end ≡ set (read_lens x n end) slot v
lens_written x zero slot end v pos lt room fits small is = absurd (omega arith)
lens_written x (suc n) zero end v pos lt room fits small is =
    let place : pos ≡ end - 4 + 2 = omega arith in
    let y : List ℕ = written x pos (two_bytes v) in
    let head : number_at 2 (written x pos (two_bytes v)) (end - 4 + 2) ≡ v =
    ap (number_at 2 (written x pos (two_bytes v))) (sym place) ∙ number_there 2 (2 ^ 16) two_bytes two_is (written x pos (two_bytes v)) (drop (pos + length (two_bytes v)) x) pos v (drop-written-at x (two_bytes v) pos (omega arith)) small in
    let same : length (written x pos (two_bytes v)) ≡ length x = length-written x (two_bytes v) pos (omega (arith, two_is.len v)) in
    let rest : read_lens (written x pos (two_bytes v)) n (end - 4) ≡ read_lens x n (end - 4) =
    lens_by _ x n (end - 4) (λ k less. number_front (written x pos (two_bytes v)) x pos (end - 4 - 4 * (k + 1) + 2) (take-written x (two_bytes v) pos pos (omega arith) (omega arith)) (omega arith) (omega (arith, same)) (omega arith)) in
    cc (head, rest)
lens_written x (suc n) (suc slot) end v pos lt room fits small is =
    let head : number_at 2 (written x pos (two_bytes v)) (end - 4 + 2) ≡ number_at 2 x (end - 4 + 2) =
    number_behind (written x pos (two_bytes v)) x (pos + 2) (end - 4 + 2) (drop-written x (two_bytes v) pos (pos + 2) (omega (arith, two_is.len v)) (omega arith)) (omega arith) in
    let rest = lens_written x n slot (end - 4) v pos (omega arith) (omega arith) (omega arith) small (omega arith) in
    cc (head, rest)

-- ---- the list with one slot changed

pub bodies_split : (slots : List Slot) (i : ℕ) → bodies slots ≡ bodies (take i slots) ++ (body_of (slice_index_or slots i None) ++ bodies (drop (suc i) slots))
bodies_split [] zero = refl
bodies_split [] (suc i) = refl
bodies_split (s ∷ slots) zero = refl
bodies_split (s ∷ slots) (suc i) = ap (λ (t : List ℕ). body_of s ++ t) (bodies_split slots i) ∙ sym (append_assoc (body_of s) (bodies (take i slots)) _)

pub bodies_with : (slots : List Slot) (i : ℕ) (slot : Slot) → i ≤ length slots → bodies (with_slot slots i slot) ≡ bodies (take i slots) ++ (body_of slot ++ bodies (drop (suc i) slots))
bodies_with [] zero slot le = refl
bodies_with [] (suc i) slot le = absurd (omega arith)
bodies_with (s ∷ slots) zero slot le = refl
bodies_with (s ∷ slots) (suc i) slot le = ap (λ (t : List ℕ). body_of s ++ t) (bodies_with slots i slot (omega arith)) ∙ sym (append_assoc (body_of s) (bodies (take i slots)) _)

lens_with : (slots : List Slot) (i : ℕ) (slot : Slot) → i < length slots → map len_of (with_slot slots i slot) ≡ set (map len_of slots) i (len_of slot)
lens_with [] i slot lt = absurd (omega arith)
lens_with (s ∷ slots) zero slot lt = refl
lens_with (s ∷ slots) (suc i) slot lt = ap (λ (t : List ℕ). len_of s ∷ t) (lens_with slots i slot (omega arith))

lens_push : (slots : List Slot) (i y : ℕ) (slot : Slot) → i ≡ length slots → map len_of (with_slot slots i slot) ≡ set (map len_of slots ++ y ∷ []) i (len_of slot)
lens_push [] zero y slot is = refl
lens_push [] (suc i) y slot is = absurd (omega arith)
lens_push (s ∷ slots) zero y slot is = absurd (omega arith)
lens_push (s ∷ slots) (suc i) y slot is = ap (λ (t : List ℕ). len_of s ∷ t) (lens_push slots i y slot (omega arith))

pub length-with : (slots : List Slot) (i : ℕ) (slot : Slot) → i < length slots → length (with_slot slots i slot) ≡ length slots
length-with [] i slot lt = absurd (omega arith)
length-with (s ∷ slots) zero slot lt = refl
length-with (s ∷ slots) (suc i) slot lt = ap suc (length-with slots i slot (omega arith))

pub length-push : (slots : List Slot) (i : ℕ) (slot : Slot) → i ≡ length slots → length (with_slot slots i slot) ≡ length slots + 1
length-push [] i slot is = refl
length-push (s ∷ slots) zero slot is = absurd (omega arith)
length-push (s ∷ slots) (suc i) slot is = omega (arith, length-push slots i slot (omega arith))

pub each_with : (slots : List Slot) (i : ℕ) (slot : Slot) → AllByRecursion IsSlot slots → IsSlot slot → AllByRecursion IsSlot (with_slot slots i slot)
each_with [] i slot each fits = (fits, tt)
each_with (s ∷ slots) zero slot each fits = (fits, each.1)
each_with (s ∷ slots) (suc i) slot each fits = (each.0, each_with slots i slot each.1 fits)

-- the lengths on a page after a slot's was written
pub lens_changed : (page : List ℕ) (p : FilePage) (i : ℕ) (slot : Slot) → SlotsOf page p → i ≤ length p.slots → len_of slot < 2 ^ 16 → 4 * length (with_slot p.slots i slot) ≤ length page → read_lens (written page (length page - 4 * (i + 1) + 2) (two_bytes (len_of slot))) (length (with_slot p.slots i slot)) (length page) ≡ map len_of (with_slot p.slots i slot)
lens_changed page p i slot h le small room = elim (cases_lt i (length p.slots)) [
  | inl lt ↦
      let n : length (with_slot p.slots i slot) ≡ length p.slots = length-with p.slots i slot lt in
      ap (λ (k : ℕ). read_lens (written page (length page - 4 * (i + 1) + 2) (two_bytes (len_of slot))) k (length page)) n
      ∙ lens_written page (length p.slots) i (length page) (len_of slot) (length page - 4 * (i + 1) + 2) lt (omega arith) (omega arith) small refl
      ∙ ap (λ (t : List ℕ). set t i (len_of slot)) (lens_of page p h) ∙ sym (lens_with p.slots i slot lt)
  | inr ge ↦
      let is : i ≡ length p.slots = omega arith in
      let n : length (with_slot p.slots i slot) ≡ length p.slots + 1 = length-push p.slots i slot is in
      let more : read_lens page (length p.slots + 1) (length page) ≡ map len_of p.slots ++ number_at 2 page (length page - 4 * (length p.slots + 1) + 2) ∷ [] =
      lens_more page (length p.slots) (length page) ∙ ap (λ (t : List ℕ). t ++ number_at 2 page (length page - 4 * (length p.slots + 1) + 2) ∷ []) (lens_of page p h) in
      ap (λ (k : ℕ). read_lens (written page (length page - 4 * (i + 1) + 2) (two_bytes (len_of slot))) k (length page)) n
      ∙ lens_written page (length p.slots + 1) i (length page) (len_of slot) (length page - 4 * (i + 1) + 2) (omega arith) (omega arith) (omega arith) small refl
      ∙ ap (λ (t : List ℕ). set t i (len_of slot)) more ∙ sym (lens_push p.slots i _ slot is)
]

-- ---- the head of a page, and what stands behind it

abbrev pub headed : FilePage → ℕ → List ℕ → List ℕ
headed p n x = 3 ∷ 0 ∷ (two_bytes n ++ (zeros 4 ++ (four_bytes p.file_no ++ (zeros 4 ++ x))))

headed-append : (p : FilePage) (n : ℕ) (x y : List ℕ) → headed p n x ++ y ≡ headed p n (x ++ y)
headed-append p n x y = simp append_assoc

length-headed : (p : FilePage) (n : ℕ) (x : List ℕ) → length (headed p n x) ≡ 16 + length x
length-headed p n x = omega (arith, length-append (two_bytes n) (zeros 4 ++ (four_bytes p.file_no ++ (zeros 4 ++ x))), length-append (zeros 4) (four_bytes p.file_no ++ (zeros 4 ++ x)), length-append (four_bytes p.file_no) (zeros 4 ++ x), length-append (zeros 4) x, two_is.len n, four_is.len p.file_no)

take-headed : (p : FilePage) (n m : ℕ) (x y : List ℕ) → length x ≡ m → take (16 + m) (headed p n (x ++ y)) ≡ headed p n x
take-headed p n m x y len =
    ap (take (16 + m)) (sym (headed-append p n x y)) ∙ take_at (headed p n x) y (16 + m) (omega (arith, length-headed p n x))

drop-headed : (p : FilePage) (n m : ℕ) (x y : List ℕ) → length x ≡ m → drop (16 + m) (headed p n (x ++ y)) ≡ y
drop-headed p n m x y len =
    ap (drop (16 + m)) (sym (headed-append p n x y)) ∙ drop_at (headed p n x) y (16 + m) (omega (arith, length-headed p n x))

count_written : (p : FilePage) (n count : ℕ) (x : List ℕ) → written (headed p n x) 2 (two_bytes count) ≡ headed p count x
count_written p n count x =
    ap (λ (k : ℕ). (3 ∷ 0 ∷ []) ++ two_bytes count ++ drop (2 + k) (headed p n x)) (two_is.len count)
    ∙ ap (λ (t : List ℕ). 3 ∷ 0 ∷ (two_bytes count ++ t)) (drop_at (two_bytes n) (zeros 4 ++ (four_bytes p.file_no ++ (zeros 4 ++ x))) 2 (two_is.len n))

pub page_headed : (page : List ℕ) (p : FilePage) → SlotsOf page p → page ≡ headed p (length p.slots) ((bodies p.slots ++ zeros (room_of (length page) p.slots)) ++ directory 16 p.slots)
page_headed page p h = h.spelled ∙ page_fields (length page) p

-- ---- the directory of lengths is that of slots

field_of_len : (at : ℕ) (slot : Slot) → IsSlot slot → len_field at (len_of slot) ≡ slot_field at slot
unfolding field_bytes
field_of_len at None fits = refl
field_of_len at (Some body) fits = ap (λ (k : ℕ). two_bytes k ++ two_bytes (length body)) (sym (begin_some at (length body) (λ z. absurd (omega arith))))

directory_lens : (at : ℕ) (slots : List Slot) → AllByRecursion IsSlot slots → directory_of at (map len_of slots) ≡ directory at slots
directory_lens at [] each = refl
directory_lens at (slot ∷ slots) each =
    ap (λ (t : List ℕ). t ++ len_field at (len_of slot)) (directory_lens (at + len_of slot) slots each.1) ∙ ap (λ (t : List ℕ). directory (at + len_of slot) slots ++ t) (field_of_len at slot each.0)

-- ---- a slot is changed, and so many slots are left

each-take : (n : ℕ) (slots : List Slot) → AllByRecursion IsSlot slots → AllByRecursion IsSlot (take n slots)
each-take zero slots each = tt
each-take (suc n) [] each = tt
each-take (suc n) (s ∷ slots) each = (each.0, each-take n slots each.1)

-- the page's bytes after each step of a change
pub record Steps (image : List ℕ) (p : FilePage) (i count : ℕ) (slot : Slot) (first second third last : List ℕ) (start old_end end limit : ℕ) : Type 0 where
  pub starts : start ≡ 16 + length (bodies (take i p.slots))
  pub old_ends : old_end ≡ start + len_of (slice_index_or p.slots i None)
  pub ends : end ≡ 16 + length (bodies p.slots)
  pub limited : limit ≡ length image - 4 * count
  pub one : first ≡ written image (length image - 4 * (i + 1) + 2) (two_bytes (len_of slot))
  pub two : second ≡ take start first ++ body_of slot ++ bytes_at first old_end (end - old_end) ++ zeros (limit - (start + len_of slot + (end - old_end))) ++ drop limit first
  pub three : third ≡ written second 2 (two_bytes count)
  pub four : last ≡ take (length third - 4 * count) third ++ directory_of 16 (read_lens third count (length third))

-- where the bytes of a body, and those before and behind it, stand
record Cut (image : List ℕ) (p : FilePage) (i : ℕ) : Type 0 where
  before : take (16 + length (bodies (take i p.slots))) image ≡ headed p (length p.slots) (bodies (take i p.slots))
  behind : drop (16 + length (bodies (take i p.slots)) + len_of (slice_index_or p.slots i None)) image ≡ bodies (drop (suc i) p.slots) ++ (zeros (room_of (length image) p.slots) ++ directory 16 p.slots)
  all : length (bodies p.slots) ≡ length (bodies (take i p.slots)) + len_of (slice_index_or p.slots i None) + length (bodies (drop (suc i) p.slots))

cut_of : (image : List ℕ) (p : FilePage) (i : ℕ) → SlotsOf image p → Cut image p i
cut_of image p i h =
    let b : List ℕ = bodies (take i p.slots) in
    let o : List ℕ = body_of (slice_index_or p.slots i None) in
    let t : List ℕ = bodies (drop (suc i) p.slots) in
    let rest : List ℕ = zeros (room_of (length image) p.slots) ++ directory 16 p.slots in
    let split : bodies p.slots ≡ b ++ (o ++ t) = bodies_split p.slots i in
    let area : (bodies p.slots ++ zeros (room_of (length image) p.slots)) ++ directory 16 p.slots ≡ b ++ (o ++ (t ++ rest)) =
    append_assoc (bodies p.slots) (zeros (room_of (length image) p.slots)) (directory 16 p.slots) ∙ ap (λ (x : List ℕ). x ++ rest) split ∙ append_assoc b (o ++ t) rest ∙ ap (λ (x : List ℕ). b ++ x) (append_assoc o t rest) in
    let is : image ≡ headed p (length p.slots) (b ++ (o ++ (t ++ rest))) = page_headed image p h ∙ ap (headed p (length p.slots)) area in
    record {
      before = ap (take (16 + length b)) is ∙ take-headed p (length p.slots) (length b) b (o ++ (t ++ rest)) refl;
      behind = ap (λ (k : ℕ). drop k image) (let e : 16 + length b + length o ≡ 16 + (length b + length o) = omega arith in e)
          ∙ ap (drop (16 + (length b + length o))) (is ∙ ap (headed p (length p.slots)) (sym (append_assoc b o (t ++ rest)))) ∙ drop-headed p (length p.slots) (length b + length o) (b ++ o) (t ++ rest) (length-append b o);
      all = omega (arith, ap length split, length-append b (o ++ t), length-append o t);
    }

-- what stands before and behind the limit after the bytes were replaced
record Replaced (p : FilePage) (count room limit : ℕ) (kept : List Slot) (image first third : List ℕ) : Type 0 where
  same_first : length first ≡ length image
  front : take limit third ≡ headed p count (bodies kept ++ zeros room)
  rest : drop limit third ≡ drop limit first
  same : length third ≡ length image

replaced_page : (image : List ℕ) (p : FilePage) (i count : ℕ) (slot : Slot) (first second third last : List ℕ) (start old_end end limit : ℕ) → SlotsOf image p → i ≤ length p.slots → Left (length image) (with_slot p.slots i slot) count → Steps image p i count slot first second third last start old_end end limit → i < length (with_slot p.slots i slot) → length p.slots ≤ length (with_slot p.slots i slot) → Replaced p count (room_of (length image) (take count (with_slot p.slots i slot))) limit (take count (with_slot p.slots i slot)) image first third
replaced_page image p i count slot first second third last start old_end end limit h le left s lt more =
    let new : List Slot = with_slot p.slots i slot in
    let kept : List Slot = take count new in
    let b : List ℕ = bodies (take i p.slots) in
    let t : List ℕ = bodies (drop (suc i) p.slots) in
    let body : List ℕ = body_of slot in
    let cut = cut_of image p i h in
    let parts = parts_of image p h in
    let bodies_are : bodies new ≡ b ++ (body ++ t) = bodies_with p.slots i slot le in
    let new_len : length (bodies new) ≡ length b + (length body + length t) = omega (arith, ap length bodies_are, length-append b (body ++ t), length-append body t) in
    let tail_len : end - old_end ≡ length t = omega (arith, s.starts, s.old_ends, s.ends, cut.all) in
    let kept_len : length kept ≡ count = omega (arith, length-take count new, left.few) in
    let place : ℕ = length image - 4 * (i + 1) + 2 in
    let enough : end ≤ length image - 4 * (i + 1) = elim (cases_lt i (length p.slots)) [
      | inl inside ↦ omega (arith, s.ends, parts.few)
      | inr past ↦ omega (arith, s.ends, cut.all, new_len, left.room, ap len_of (get_or_past p.slots i None past))
    ] in
    let same_first : length first ≡ length image = ap length s.one ∙ length-written image (two_bytes (len_of slot)) (length image - 4 * (i + 1) + 2) (omega (arith, two_is.len (len_of slot), left.room)) in
    let front_start : take start first ≡ headed p (length p.slots) b =
    ap (take start) s.one ∙ take-written image (two_bytes (len_of slot)) (length image - 4 * (i + 1) + 2) start (omega (arith, s.starts, s.ends, cut.all, enough)) (omega (arith, left.room)) ∙ ap (λ (k : ℕ). take k image) s.starts ∙ cut.before in
    let same_tail : bytes_at first old_end (end - old_end) ≡ bytes_at image old_end (end - old_end) =
    ap (λ (x : List ℕ). bytes_at x old_end (end - old_end)) s.one ∙ part_front (written image (length image - 4 * (i + 1) + 2) (two_bytes (len_of slot))) image end old_end (end - old_end) (take-written image (two_bytes (len_of slot)) (length image - 4 * (i + 1) + 2) end (omega (arith, enough)) (omega (arith, left.room))) (omega (arith, s.starts, s.old_ends, s.ends, cut.all)) (omega (arith, enough, same_first, ap length s.one)) (omega (arith, enough)) in
    let tail : bytes_at first old_end (end - old_end) ≡ t =
    same_tail ∙ ap (λ (k : ℕ). bytes_at image old_end k) tail_len ∙ ap (λ (k : ℕ). bytes_at image k (length t)) (s.old_ends ∙ ap (λ (k : ℕ). k + len_of (slice_index_or p.slots i None)) s.starts) ∙ ap (take (length t)) cut.behind ∙ take_at t (zeros (room_of (length image) p.slots) ++ directory 16 p.slots) (length t) refl in
    let room : limit - (start + len_of slot + (end - old_end)) ≡ room_of (length image) kept = omega (arith, s.limited, s.starts, tail_len, kept_len, ap length left.same, new_len, left.room) in
    let d : List ℕ = drop limit first in
    let z : List ℕ = zeros (room_of (length image) kept) in
    let front : take start first ++ body ++ bytes_at first old_end (end - old_end) ++ zeros (limit - (start + len_of slot + (end - old_end))) ≡ headed p (length p.slots) (bodies kept ++ z) =
    ap (λ (k : ℕ). take start first ++ body ++ bytes_at first old_end (end - old_end) ++ zeros k) room
    ∙ ap (λ (x : List ℕ). take start first ++ body ++ x ++ z) tail ∙ ap (λ (x : List ℕ). x ++ body ++ t ++ z) front_start
    ∙ ap (λ (x : List ℕ). x ++ t ++ z) (headed-append p (length p.slots) b body) ∙ ap (λ (x : List ℕ). x ++ z) (headed-append p (length p.slots) (b ++ body) t) ∙ headed-append p (length p.slots) (b ++ body ++ t) z
    ∙ ap (λ (x : List ℕ). headed p (length p.slots) (x ++ z)) (append_assoc b body t ∙ sym bodies_are ∙ sym left.same) in
    let second_is : second ≡ headed p (length p.slots) (bodies kept ++ z ++ d) = s.two ∙ ap (λ (x : List ℕ). x ++ d) front ∙ headed-append p (length p.slots) (bodies kept ++ z) d in
    let third_is : third ≡ headed p count (bodies kept ++ z ++ d) = s.three ∙ ap (λ (x : List ℕ). written x 2 (two_bytes count)) second_is ∙ count_written p (length p.slots) count (bodies kept ++ z ++ d) in
    let len : length (bodies kept ++ z) ≡ limit - 16 = omega (arith, length-append (bodies kept) z, length-replicate {A = ℕ} (room_of (length image) kept) 0, s.limited, kept_len, ap length left.same, left.room) in
    let at : limit ≡ 16 + (limit - 16) = omega (arith, s.limited, left.room, left.few) in
    record {
      same_first = same_first;
      front = ap (take limit) third_is ∙ ap (λ (k : ℕ). take k (headed p count (bodies kept ++ z ++ d))) at ∙ take-headed p count (limit - 16) (bodies kept ++ z) d len;
      rest = ap (drop limit) third_is ∙ ap (λ (k : ℕ). drop k (headed p count (bodies kept ++ z ++ d))) at ∙ drop-headed p count (limit - 16) (bodies kept ++ z) d len;
      same = omega (arith, ap length third_is, length-headed p count (bodies kept ++ z ++ d), length-append (bodies kept ++ z) d, len, length-drop limit first, same_first, at, s.limited);
    }

pub body_with : (body : List ℕ) → body_of (slot_with body) ≡ body
body_with [] = refl
body_with (x ∷ body) = refl

pub long_enough : (slots : List Slot) (i : ℕ) (slot : Slot) → i ≤ length slots → (i < length (with_slot slots i slot)) × (length slots ≤ length (with_slot slots i slot))
long_enough slots i slot le = elim (cases_lt i (length slots)) [
  | inl lt ↦ let n = length-with slots i slot lt in (omega arith, omega arith)
  | inr ge ↦ let n = length-push slots i slot (omega arith) in (omega arith, omega arith)
]

pub slot_changed : (image : List ℕ) (p : FilePage) (i count : ℕ) (slot : Slot) (first second third last : List ℕ) (start old_end end limit : ℕ) → SlotsOf image p → i ≤ length p.slots → Left (length image) (with_slot p.slots i slot) count → Steps image p i count slot first second third last start old_end end limit → SlotsOf last (with_slots p (take count (with_slot p.slots i slot)))
slot_changed image p i count slot first second third last start old_end end limit h le left s =
    let new : List Slot = with_slot p.slots i slot in
    let kept : List Slot = take count new in
    let more = long_enough p.slots i slot le in
    let parts = parts_of image p h in
    let r = replaced_page image p i count slot first second third last start old_end end limit h le left s more.0 more.1 in
    let size : ℕ = length image in
    let kept_len : length kept ≡ count = omega (arith, length-take count new, left.few) in
    let each : AllByRecursion IsSlot kept = each-take count new left.each in
    let small : len_of slot < 2 ^ 16 = omega (arith, ap length (bodies_with p.slots i slot le), length-append (bodies (take i p.slots)) (body_of slot ++ bodies (drop (suc i) p.slots)), length-append (body_of slot) (bodies (drop (suc i) p.slots)), left.room, parts.small) in
    let first_lens : read_lens first (length new) (length image) ≡ map len_of new = ap (λ (x : List ℕ). read_lens x (length new) (length image)) s.one ∙ lens_changed image p i slot h le small (omega (arith, left.room)) in
    let lens : read_lens third count (length image) ≡ map len_of kept =
    lens_by third first count (length image) (λ k lt. number_behind third first limit (length image - 4 * (k + 1) + 2) r.rest (omega (arith, s.limited, lt)))
    ∙ lens_take first count (length new) (length image) left.few ∙ ap (take count) first_lens ∙ take-map len_of count new in
    let area : List ℕ = bodies kept ++ zeros (room_of (length image) kept) in
    let is : last ≡ headed p (length kept) (area ++ directory 16 kept) =
    s.four ∙ ap (λ (k : ℕ). take (k - 4 * count) third ++ directory_of 16 (read_lens third count k)) r.same
    ∙ ap (λ (k : ℕ). take k third ++ directory_of 16 (read_lens third count (length image))) (sym s.limited)
    ∙ ap (λ (x : List ℕ). x ++ directory_of 16 (read_lens third count (length image))) r.front
    ∙ ap (λ (x : List ℕ). headed p count area ++ directory_of 16 x) lens
    ∙ ap (λ (x : List ℕ). headed p count area ++ x) (directory_lens 16 kept each)
    ∙ headed-append p count area (directory 16 kept)
    ∙ ap (λ (k : ℕ). headed p k (area ++ directory 16 kept)) (sym kept_len) in
    let fits : taken kept ≤ length image = omega (arith, kept_len, ap length left.same, left.room, left.few) in
    let same : length last ≡ length image = omega (arith, ap length is, length-headed p (length kept) (area ++ directory 16 kept), length-append area (directory 16 kept), length-append (bodies kept) (zeros (room_of (length image) kept)), length-replicate {A = ℕ} (room_of (length image) kept) 0, length-directory 16 kept, fits) in
    record {
      fits = record {
        file_no = h.fits.file_no;
        slots = each;
        last = left.live;
        room = omega (arith, fits, same);
        page = omega (arith, same, h.fits.page);
      };
      spelled = is ∙ ap (λ (k : ℕ). headed p (length kept) ((bodies kept ++ zeros (room_of k kept)) ++ directory 16 kept)) (sym same) ∙ sym (page_fields (length last) (with_slots p kept));
    }

-- ---- an empty page

abbrev no_slots : ℕ → FilePage
no_slots file_no = record { file_no = file_no; slots = [] }

emptied_is : (size file_no : ℕ) → 16 ≤ size → written (set (zeros size) 0 3) 8 (four_bytes file_no) ≡ headed (no_slots file_no) 0 (zeros (size - 16))
unfolding field_bytes
emptied_is size file_no le =
    let split : zeros size ≡ zeros 16 ++ zeros (size - 16) = ap zeros (let e : size ≡ 16 + (size - 16) = omega arith in e) ∙ sym (replicate-append-replicate 16 (size - 16) 0) in
    ap (λ (t : List ℕ). written (set t 0 3) 8 (four_bytes file_no)) split

pub emptied : (size file_no : ℕ) → 16 ≤ size → size ≤ 8192 → file_no < 2 ^ 32 → SlotsOf (written (set (zeros size) 0 3) 8 (four_bytes file_no)) (record { file_no = file_no; slots = [] })
emptied size file_no le small lt =
    let is : written (set (zeros size) 0 3) 8 (four_bytes file_no) ≡ headed (no_slots file_no) 0 (zeros (size - 16)) = emptied_is size file_no le in
    let same : length (written (set (zeros size) 0 3) 8 (four_bytes file_no)) ≡ size = omega (arith, ap length is, length-headed (no_slots file_no) 0 (zeros (size - 16)), length-replicate {A = ℕ} (size - 16) 0) in
    record {
      fits = record {
        file_no = lt;
        slots = tt;
        last = tt;
        room = omega (arith, same);
        page = omega (arith, same);
      };
      spelled = is ∙ ap (λ (k : ℕ). headed (no_slots file_no) 0 (zeros k)) (let e : size - 16 ≡ room_of (length (written (set (zeros size) 0 3) 8 (four_bytes file_no))) [] = omega (arith, same) in e) ∙ ap (headed (no_slots file_no) 0) (sym (append-nil (zeros (room_of (length (written (set (zeros size) 0 3) 8 (four_bytes file_no))) [])))) ∙ sym (page_fields _ (no_slots file_no));
    }

-- ---- what a change needs to know of where things stand

pub record Numbers (image : List ℕ) (p : FilePage) (i count n start old_len end len : ℕ) : Type 0 where
  pub number : n ≡ length p.slots
  pub starts : start ≡ 16 + length (bodies (take i p.slots))
  pub old : old_len ≡ len_of (slice_index_or p.slots i None)
  pub ends : end ≡ 16 + length (bodies p.slots)
  pub fields : 16 + 4 * n ≤ length image
  pub small : len < 65536
  pub near : start + old_len ≤ 8192
  pub tail : start + old_len ≤ end
  pub inside : end ≤ length image - 4 * count
  pub fits : start + len + (end - (start + old_len)) ≤ length image - 4 * count

pub numbers_of : (image : List ℕ) (p : FilePage) (i count : ℕ) (slot : Slot) (n start old_len end : ℕ) → SlotsOf image p → i ≤ length p.slots → Left (length image) (with_slot p.slots i slot) count → n ≡ number_at 2 image 2 → start ≡ 16 + added (read_lens image i (length image)) → old_len ≡ len_of (slice_index_or p.slots i None) → end ≡ 16 + added (read_lens image n (length image)) → Numbers image p i count n start old_len end (len_of slot)
numbers_of image p i count slot n start old_len end h le left number begins old e =
    let new : List Slot = with_slot p.slots i slot in
    let b : List ℕ = bodies (take i p.slots) in
    let t : List ℕ = bodies (drop (suc i) p.slots) in
    let body : List ℕ = body_of slot in
    let cut = cut_of image p i h in
    let parts = parts_of image p h in
    let more = long_enough p.slots i slot le in
    let bodies_are : bodies new ≡ b ++ (body ++ t) = bodies_with p.slots i slot le in
    let new_len : length (bodies new) ≡ length b + (length body + length t) = omega (arith, ap length bodies_are, length-append b (body ++ t), length-append body t) in
    let n_is : n ≡ length p.slots = number ∙ parts.count in
    let starts : start ≡ 16 + length b = begins ∙ ap (λ (k : ℕ). 16 + k) (start_of image p i h le) in
    let whole : take (length p.slots) p.slots ≡ p.slots = take_all (length p.slots) p.slots (omega arith) in
    let ends : end ≡ 16 + length (bodies p.slots) = e ∙ ap (λ (k : ℕ). 16 + added (read_lens image k (length image))) n_is ∙ ap (λ (k : ℕ). 16 + k) (start_of image p (length p.slots) h (omega arith)) ∙ ap (λ (x : List Slot). 16 + length (bodies x)) whole in
    let inside : end ≤ length image - 4 * count = elim (cases_lt i (length p.slots)) [
      | inl lt ↦ omega (arith, ends, parts.few, length-with p.slots i slot lt, left.few)
      | inr past ↦ omega (arith, ends, cut.all, new_len, left.room, left.few, ap len_of (get_or_past p.slots i None past))
    ] in
    record {
      number = n_is;
      starts = starts;
      old = old;
      ends = ends;
      fields = omega (arith, n_is, parts.few);
      small = omega (arith, new_len, left.room, parts.small);
      near = omega (arith, starts, old, cut.all, parts.few, parts.small);
      tail = omega (arith, starts, old, ends, cut.all);
      inside = inside;
      fits = omega (arith, starts, old, ends, cut.all, new_len, left.room, left.few);
    }

-- the directory has room
pub lens_left : (image : List ℕ) (p : FilePage) (i count : ℕ) (slot : Slot) (first second third last : List ℕ) (start old_end end limit : ℕ) → SlotsOf image p → i ≤ length p.slots → Left (length image) (with_slot p.slots i slot) count → Steps image p i count slot first second third last start old_end end limit → (16 + added (read_lens third count (length third)) + 4 * count ≤ length third) × (length third ≡ length image)
lens_left image p i count slot first second third last start old_end end limit h le left s =
    let new : List Slot = with_slot p.slots i slot in
    let more = long_enough p.slots i slot le in
    let parts = parts_of image p h in
    let r = replaced_page image p i count slot first second third last start old_end end limit h le left s more.0 more.1 in
    let small : len_of slot < 2 ^ 16 = omega (arith, ap length (bodies_with p.slots i slot le), length-append (bodies (take i p.slots)) (body_of slot ++ bodies (drop (suc i) p.slots)), length-append (body_of slot) (bodies (drop (suc i) p.slots)), left.room, parts.small) in
    let first_lens : read_lens first (length new) (length image) ≡ map len_of new = ap (λ (x : List ℕ). read_lens x (length new) (length image)) s.one ∙ lens_changed image p i slot h le small (omega (arith, left.room)) in
    let lens : read_lens third count (length image) ≡ map len_of (take count new) =
    lens_by third first count (length image) (λ k lt. number_behind third first limit (length image - 4 * (k + 1) + 2) r.rest (omega (arith, s.limited, lt)))
    ∙ lens_take first count (length new) (length image) left.few ∙ ap (take count) first_lens ∙ take-map len_of count new in
    let total : added (read_lens third count (length third)) ≡ length (bodies new) = ap (λ (k : ℕ). added (read_lens third count k)) r.same ∙ ap added lens ∙ total_len (take count new) ∙ ap length left.same in
    (omega (arith, total, r.same, left.room, left.few), r.same)

old_is : (image : List ℕ) (p : FilePage) (i n old_len : ℕ) → SlotsOf image p → n ≡ number_at 2 image 2 → (i < n → old_len ≡ number_at 2 image (length image - 4 * (i + 1) + 2)) → (n ≤ i → old_len ≡ 0) → old_len ≡ len_of (slice_index_or p.slots i None)
old_is image p i n old_len h number below past =
    let parts = parts_of image p h in
    elim (cases_lt i n) [
      | inl lt ↦ below lt ∙ len_here image p i h (omega (arith, number, parts.count))
      | inr le ↦ past le ∙ sym (ap len_of (get_or_past p.slots i None (omega (arith, number, parts.count))))
    ]

pub numbers_given : (image : List ℕ) (p : FilePage) (i count : ℕ) (body : List ℕ) (n start old_len end : ℕ) → SlotsOf image p → i ≤ length p.slots → Left (length image) (with_slot p.slots i (slot_with body)) count → n ≡ number_at 2 image 2 → start ≡ 16 + added (read_lens image i (length image)) → (i < n → old_len ≡ number_at 2 image (length image - 4 * (i + 1) + 2)) → (n ≤ i → old_len ≡ 0) → end ≡ 16 + added (read_lens image n (length image)) → Numbers image p i count n start old_len end (length body)
numbers_given image p i count body n start old_len end h le left number begins below past e =
    subst (λ (x : List ℕ). Numbers image p i count n start old_len end (length x)) (body_with body)
    (numbers_of image p i count (slot_with body) n start old_len end h le left number begins (old_is image p i n old_len h number below past) e)

-- the steps, from what the calls give
pub steps_of : (image : List ℕ) (p : FilePage) (i count : ℕ) (body first second third last : List ℕ) (n start old_len end : ℕ) → Numbers image p i count n start old_len end (length body) → first ≡ written image (length image - 4 * (i + 1) + 2) (two_bytes (length body)) → second ≡ take start first ++ body ++ bytes_at first (start + old_len) (end - (start + old_len)) ++ zeros (length image - 4 * count - (start + length body + (end - (start + old_len)))) ++ drop (length image - 4 * count) first → third ≡ written second 2 (two_bytes count) → last ≡ take (length third - 4 * count) third ++ directory_of 16 (read_lens third count (length third)) → Steps image p i count (slot_with body) first second third last start (start + old_len) end (length image - 4 * count)
steps_of image p i count body first second third last n start old_len end h one two three four =
    let same : body ≡ body_of (slot_with body) = sym (body_with body) in
    record {
      starts = h.starts;
      old_ends = ap (λ (k : ℕ). start + k) h.old;
      ends = h.ends;
      limited = refl;
      one = one ∙ ap (λ (x : List ℕ). written image (length image - 4 * (i + 1) + 2) (two_bytes (length x))) same;
      two = two ∙ ap (λ (x : List ℕ). take start first ++ x ++ bytes_at first (start + old_len) (end - (start + old_len)) ++ zeros (length image - 4 * count - (start + length x + (end - (start + old_len)))) ++ drop (length image - 4 * count) first) same;
      three = three;
      four = four;
    }
