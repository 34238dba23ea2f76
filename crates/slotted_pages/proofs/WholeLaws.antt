-- A page while its slots are written, one after the other.
use Rattle.std.proofs.Common.{◌≡◌, ℕ, zero, suc, ◌+◌, ◌-◌, ◌*◌, ◌<◌, ◌≤◌, List, [], ◌∷◌, ◌++◌, length, take, drop, map, get_or, Some, None, refl, sym, ap, subst, ◌∙◌, arith, append_assoc}
use Rattle.std.specs.List.{flat_map, AllByRecursion}
use Rattle.std.proofs.lemmas.List.{append-nil, length-append, length-replicate, length-take, length-map, take_all, take_more, map-append, take-append-drop}
use Rattle.ex_base.specs.Bytes.{written}
use Rattle.ex_base.specs.Fields.{two_bytes, four_bytes, zeros}
use Rattle.ex_base.proofs.FieldLaws.{two_is, four_is}
use Rattle.ex_base.proofs.Each.{each_at}
use Rattle.ex_base.proofs.Lists.{zeros_split}
use Rattle.ex_base.proofs.Writing.{written_at}
use Rattle.slotted_pages.specs.declared.whole.SlotBody.{SlotBody}
use Rattle.slotted_pages.specs.FilePage.{Slot, FilePage, body_of, bodies, slot_field, directory, file_page, room_of, taken, IsSlot, SlotsOf}
use Rattle.slotted_pages.specs.Edits.{len_field, begin_read}
use Rattle.slotted_pages.specs.Whole.{held, slots_held, filled_page}
use Rattle.slotted_pages.proofs.PageLaws.{len_of, begin_of, field_is, length-directory}

-- ---- lists that grow by one slot

pub bodies-append : (xs ys : List Slot) → bodies (xs ++ ys) ≡ bodies xs ++ bodies ys
bodies-append [] ys = refl
bodies-append (x ∷ xs) ys = ap (λ (t : List ℕ). body_of x ++ t) (bodies-append xs ys) ∙ sym (append_assoc (body_of x) (bodies xs) (bodies ys))

bodies_last : (xs : List Slot) (s : Slot) → bodies (xs ++ s ∷ []) ≡ bodies xs ++ body_of s
bodies_last xs s = bodies-append xs (s ∷ []) ∙ ap (λ (t : List ℕ). bodies xs ++ t) (append-nil (body_of s))

directory_last : (at : ℕ) (xs : List Slot) (s : Slot) → directory at (xs ++ s ∷ []) ≡ slot_field (at + length (bodies xs)) s ++ directory at xs
directory_last at [] s = ap (λ (k : ℕ). slot_field k s) (let e : at ≡ at + 0 = omega arith in e) ∙ sym (append-nil (slot_field (at + 0) s))
directory_last at (x ∷ xs) s =
    let place : at + length (body_of x) + length (bodies xs) ≡ at + length (body_of x ++ bodies xs) = omega (arith, length-append (body_of x) (bodies xs)) in
    ap (λ (t : List ℕ). t ++ slot_field at x) (directory_last (at + length (body_of x)) xs s)
    ∙ append_assoc (slot_field (at + length (body_of x) + length (bodies xs)) s) (directory (at + length (body_of x)) xs) (slot_field at x)
    ∙ ap (λ (k : ℕ). slot_field k s ++ (directory (at + length (body_of x)) xs ++ slot_field at x)) place

pub held_more : (slots : List SlotBody) (i : ℕ) (d : SlotBody) → i < length slots → slots_held (take (i + 1) slots) ≡ slots_held (take i slots) ++ held (get_or slots i d) ∷ []
held_more slots i d lt = ap slots_held (take_more slots i d lt) ∙ map-append held (take i slots) (get_or slots i d ∷ [])

pub len_more : (slots : List SlotBody) (i : ℕ) (d : SlotBody) → i < length slots → length (bodies (slots_held (take (i + 1) slots))) ≡ length (bodies (slots_held (take i slots))) + length (body_of (held (get_or slots i d)))
len_more slots i d lt =
    ap (λ (t : List Slot). length (bodies t)) (held_more slots i d lt) ∙ ap length (bodies_last (slots_held (take i slots)) (held (get_or slots i d))) ∙ length-append (bodies (slots_held (take i slots))) (body_of (held (get_or slots i d)))

pub len_within : (slots : List SlotBody) (i : ℕ) → length (bodies (slots_held (take i slots))) ≤ length (bodies (slots_held slots))
len_within slots i =
    let parts : slots_held slots ≡ slots_held (take i slots) ++ slots_held (drop i slots) = ap slots_held (sym (take-append-drop i slots)) ∙ map-append held (take i slots) (drop i slots) in
    omega (arith, ap (λ (t : List Slot). length (bodies t)) parts, ap length (bodies-append (slots_held (take i slots)) (slots_held (drop i slots))), length-append (bodies (slots_held (take i slots))) (bodies (slots_held (drop i slots))))

-- ---- the page

same_field : (at : ℕ) (s : Slot) → IsSlot s → slot_field at s ≡ len_field at (len_of s)
same_field at None some = field_is at None
same_field at (Some []) some = absurd (omega arith)
same_field at (Some (b ∷ body)) some = field_is at (Some (b ∷ body))

abbrev head : ℕ → ℕ → List ℕ
head file_no count = (3 ∷ 0 ∷ []) ++ two_bytes count ++ zeros 4 ++ four_bytes file_no ++ zeros 4

length-head : (file_no count : ℕ) → length (head file_no count) ≡ 16
length-head file_no count =
    omega (arith, length-append ((3 ∷ 0 ∷ []) ++ two_bytes count ++ zeros 4 ++ four_bytes file_no) (zeros 4), length-append ((3 ∷ 0 ∷ []) ++ two_bytes count ++ zeros 4) (four_bytes file_no), length-append ((3 ∷ 0 ∷ []) ++ two_bytes count) (zeros 4), length-append (3 ∷ 0 ∷ []) (two_bytes count), two_is.len count, four_is.len file_no)

regroup : (a b z f x y : List ℕ) → 3 ∷ 0 ∷ (a ++ (z ++ (f ++ (z ++ (b ++ (x ++ y)))))) ≡ (((3 ∷ 0 ∷ []) ++ a ++ z ++ f ++ z) ++ b) ++ (x ++ y)
regroup a b z f x y = simp append_assoc

filled_is : (size file_no count : ℕ) (xs : List Slot) → filled_page size file_no count xs ≡ (head file_no count ++ bodies xs) ++ (zeros (size - taken xs) ++ directory 16 xs)
unfolding filled_page
filled_is size file_no count xs = regroup (two_bytes count) (bodies xs) (zeros 4) (four_bytes file_no) (zeros (size - taken xs)) (directory 16 xs)

split_zeros : (m a b c : ℕ) → m ≡ a + (b + c) → zeros m ≡ zeros a ++ (zeros b ++ zeros c)
split_zeros m a b c is = ap zeros is ∙ zeros_split a (b + c) ∙ ap (λ (t : List ℕ). zeros a ++ t) (zeros_split b c)

before_field : (f b y r : List ℕ) → f ++ (b ++ (y ++ r)) ≡ ((f ++ b) ++ y) ++ r
before_field f b y r = simp append_assoc

after_field : (f b y z e d : List ℕ) → (((f ++ b) ++ y) ++ z) ++ (e ++ d) ≡ (f ++ (b ++ y)) ++ (z ++ (e ++ d))
after_field f b y z e d = simp append_assoc

pub filled_step : (size file_no count at : ℕ) (xs : List Slot) (s : Slot) (a b c : List ℕ) → at ≡ 16 + length (bodies xs) → taken (xs ++ s ∷ []) ≤ size → IsSlot s → a ≡ filled_page size file_no count xs → b ≡ written a at (body_of s) → c ≡ written b (size - 4 * (length xs + 1)) (len_field at (len_of s)) → c ≡ filled_page size file_no count (xs ++ s ∷ [])
filled_step size file_no count at xs s a b c at_is room some ais bis cis =
    let body : List ℕ = body_of s in
    let d : List ℕ = directory 16 xs in
    let left : ℕ = size - taken (xs ++ s ∷ []) in
    let longer : length (xs ++ s ∷ []) ≡ length xs + 1 = length-append xs (s ∷ []) in
    let more : length (bodies (xs ++ s ∷ [])) ≡ length (bodies xs) + length (body_of s) = ap length (bodies_last xs s) ∙ length-append (bodies xs) (body_of s) in
    let room_is : size - taken xs ≡ length (body_of s) + ((size - taken (xs ++ s ∷ [])) + 4) = omega (arith, longer, more, room) in
    let split : zeros (size - taken xs) ++ directory 16 xs ≡ zeros (length (body_of s)) ++ (zeros left ++ (zeros 4 ++ d)) =
    ap (λ (t : List ℕ). t ++ directory 16 xs) (split_zeros (size - taken xs) (length (body_of s)) left 4 room_is) ∙ append_assoc (zeros (length (body_of s))) (zeros left ++ zeros 4) d ∙ ap (λ (t : List ℕ). zeros (length (body_of s)) ++ t) (append_assoc (zeros left) (zeros 4) d) in
    let front : length (head file_no count ++ bodies xs) ≡ at = omega (arith, length-append (head file_no count) (bodies xs), length-head file_no count, at_is) in
    let first : b ≡ (head file_no count ++ bodies xs) ++ (body ++ (zeros left ++ (zeros 4 ++ d))) =
    bis ∙ ap (λ (t : List ℕ). written t at (body_of s)) (ais ∙ filled_is size file_no count xs ∙ ap (λ (t : List ℕ). (head file_no count ++ bodies xs) ++ t) split)
    ∙ written_at (head file_no count ++ bodies xs) (zeros (length (body_of s))) body (zeros left ++ (zeros 4 ++ d)) at front (length-replicate {A = ℕ} (length (body_of s)) 0) in
    let long : length (((head file_no count ++ bodies xs) ++ body) ++ zeros left) ≡ size - 4 * (length xs + 1) =
    omega (arith, length-append ((head file_no count ++ bodies xs) ++ body) (zeros left), length-append (head file_no count ++ bodies xs) body, front, at_is, length-replicate {A = ℕ} (size - taken (xs ++ s ∷ [])) 0, longer, more, room) in
    let second : c ≡ (((head file_no count ++ bodies xs) ++ body) ++ zeros left) ++ (len_field at (len_of s) ++ d) =
    cis ∙ ap (λ (t : List ℕ). written t (size - 4 * (length xs + 1)) (len_field at (len_of s))) (first ∙ before_field (head file_no count ++ bodies xs) body (zeros left) (zeros 4 ++ d))
    ∙ written_at (((head file_no count ++ bodies xs) ++ body) ++ zeros left) (zeros 4) (len_field at (len_of s)) d (size - 4 * (length xs + 1)) long (sym (four_long at (len_of s))) in
    second ∙ after_field (head file_no count) (bodies xs) body (zeros left) (len_field at (len_of s)) d
    ∙ ap (λ (t : List ℕ). (head file_no count ++ t) ++ (zeros left ++ (len_field at (len_of s) ++ d))) (sym (bodies_last xs s))
    ∙ ap (λ (t : List ℕ). (head file_no count ++ bodies (xs ++ s ∷ [])) ++ (zeros left ++ t)) (ap (λ (t : List ℕ). t ++ d) (sym (same_field at s some) ∙ ap (λ (k : ℕ). slot_field k s) at_is) ∙ sym (directory_last 16 xs s))
    ∙ sym (filled_is size file_no count (xs ++ s ∷ []))
  where
    four_long : (at len : ℕ) → length (len_field at len) ≡ 4
    four_long at len = omega (arith, length-append (two_bytes (begin_read at len)) (two_bytes len), two_is.len (begin_read at len), two_is.len len)

-- the page before, and after all of them
whole_empty : (size file_no : ℕ) → file_page size (record { file_no = file_no; slots = [] }) ≡ 3 ∷ 0 ∷ (two_bytes 0 ++ (zeros 4 ++ (four_bytes file_no ++ (zeros 4 ++ (zeros (size - 16) ++ [])))))
unfolding file_page
whole_empty size file_no = simp append_assoc

pub filled_none : (a : List ℕ) (file_no n : ℕ) → SlotsOf a (record { file_no = file_no; slots = [] }) → written a 2 (two_bytes n) ≡ filled_page (length a) file_no n []
unfolding filled_page
filled_none a file_no n h = ap (λ (t : List ℕ). written t 2 (two_bytes n)) (h.spelled ∙ whole_empty (length a) file_no) ∙ written_at (3 ∷ 0 ∷ []) (two_bytes 0) (two_bytes n) (zeros 4 ++ (four_bytes file_no ++ (zeros 4 ++ (zeros (length a - 16) ++ [])))) 2 refl (two_is.len 0 ∙ sym (two_is.len n))

pub filled_all : (size file_no : ℕ) (xs : List Slot) → filled_page size file_no (length xs) xs ≡ file_page size (record { file_no = file_no; slots = xs })
unfolding file_page filled_page
filled_all size file_no xs = simp append_assoc

-- ---- one step of the loop

pub record Step (slots : List SlotBody) (size at i : ℕ) (body : List ℕ) : Type 0 where
  pub lt : i < length slots
  pub small : size ≤ 8192
  pub room : taken (slots_held slots) ≤ size
  pub begins : at ≡ 16 + length (bodies (slots_held (take i slots)))
  pub is : body ≡ body_of (held (get_or slots i (record { body = None })))

pub fits_here : (slots : List SlotBody) (size at i : ℕ) (body : List ℕ) → Step slots size at i body → (at + length body ≤ size - 4 * length slots) × (4 * length slots ≤ size)
fits_here slots size at i body s =
    let n : length (slots_held slots) ≡ length slots = length-map slots held in
    let more = len_more slots i (record { body = None }) s.lt in
    let most = len_within slots (i + 1) in
    let b : length body ≡ length (body_of (held (get_or slots i (record { body = None })))) = ap length s.is in
    (omega (arith, s.begins, s.room, n, more, most, b), omega (arith, s.room, n))

pub slot_written : (slots : List SlotBody) (size file_no at i : ℕ) (body a b c : List ℕ) → Step slots size at i body → AllByRecursion IsSlot (slots_held slots) → a ≡ filled_page size file_no (length slots) (slots_held (take i slots)) → b ≡ written a at body → length b ≡ size → c ≡ written b (length b - 4 * (i + 1)) (len_field at (length body))
    → (c ≡ filled_page size file_no (length slots) (slots_held (take (i + 1) slots))) × (at + length body ≡ 16 + length (bodies (slots_held (take (i + 1) slots))))
slot_written slots size file_no at i body a b c s each ais bis long cis =
    let d : SlotBody = record { body = None } in
    let x : Slot = held (get_or slots i (record { body = None })) in
    let n : length (slots_held slots) ≡ length slots = length-map slots held in
    let m : length (slots_held (take (i + 1) slots)) ≡ i + 1 = omega (arith, length-map (take (i + 1) slots) held, length-take (i + 1) slots, s.lt) in
    let k : length (slots_held (take i slots)) ≡ i = omega (arith, length-map (take i slots) held, length-take i slots, s.lt) in
    let here : slots_held (take (i + 1) slots) ≡ slots_held (take i slots) ++ x ∷ [] = held_more slots i (record { body = None }) s.lt in
    let most = len_within slots (i + 1) in
    let room : taken (slots_held (take (i + 1) slots)) ≤ size = omega (arith, s.room, s.lt, n, m, most) in
    let some : IsSlot (get_or (slots_held slots) i (held (get_or slots i (record { body = None })))) = each_at IsSlot (slots_held slots) i x (omega (arith, n, s.lt)) each in
    let some2 : IsSlot x = subst IsSlot (get_or_in slots i) some in (
      filled_step size file_no (length slots) at (slots_held (take i slots)) x a b c s.begins (subst (λ (t : List Slot). taken t ≤ size) here room) some2 ais (bis ∙ ap (written a at) s.is)
          (cis ∙ ap (λ (q : ℕ). written b (q - 4 * (i + 1)) (len_field at (length body))) long ∙ ap (λ (q : ℕ). written b (size - 4 * (q + 1)) (len_field at (length body))) (sym k) ∙ ap (λ (t : List ℕ). written b (size - 4 * (length (slots_held (take i slots)) + 1)) (len_field at (length t))) s.is)
          ∙ ap (filled_page size file_no (length slots)) (sym here),
      omega (arith, s.begins, len_more slots i (record { body = None }) s.lt, ap length s.is),
    )
  where
    get_or_in : (slots : List SlotBody) (i : ℕ) → get_or (slots_held slots) i (held (get_or slots i (record { body = None }))) ≡ held (get_or slots i (record { body = None }))
    get_or_in [] i = refl
    get_or_in (y ∷ ys) zero = refl
    get_or_in (y ∷ ys) (suc j) = get_or_in ys j
