-- The slots that differ: their changes have a spelling, and give the new page.
use Rattle.std.proofs.Common.{◌≡◌, ℕ, zero, suc, ◌+◌, ◌^◌, ◌<◌, ◌≤◌, Bool, true, false, List, [], ◌∷◌, ◌++◌, length, drop, map, Some, None, refl, sym, ap, subst, ◌∙◌, arith, append_assoc}
use Rattle.std.specs.Prelude.{if◌then◌else◌, slice_index_or}
use Rattle.std.specs.List.{flat_map, AllByRecursion}
use Rattle.std.proofs.lemmas.List.{append-nil, length-append, length-map, map-append}
use Rattle.std.proofs.lemmas.List.Concat.{flat_map-append}
use Rattle.ex_base.specs.Bytes.{written}
use Rattle.ex_base.specs.Fields.{two_bytes, zeros}
use Rattle.ex_base.proofs.FieldLaws.{two_is}
use Rattle.ex_base.proofs.Each.{each_as}
use Rattle.ex_base.proofs.Rows.{each-append}
use Rattle.file_index.specs.Index.{Rises}
use Rattle.file_index.proofs.Picking.{rising_of}
use Rattle.slotted_pages.specs.FilePage.{Slot, FilePage, body_of, bodies, file_page, IsSlot, EndsLive, IsFilePage, SlotsOf}
use Rattle.slotted_pages.specs.Reads.{page_on, IsPage}
use Rattle.slotted_pages.specs.Edits.{slots_of, before_live, trimmed, with_slots}
use Rattle.slotted_pages.proofs.PageLaws.{page_read_is}
use Rattle.page_entries.specs.declared.form.EntryForm.TheVariants.{SlotChanges}
use Rattle.page_entries.specs.Said.{SlotChange, Said, Slots, change_bytes, said_bytes, said_on, FitsChange, IsSaid, AreFields, slot_of_change}
use Rattle.page_entries.specs.Applying.{page_after_slots, SlotsApply}
use Rattle.page_entries.specs.Changed.{same_slot, change_if, one_behind, slots_added, slots_changed}
use Rattle.page_entries.specs.Rule.{SlotsDiffer}
use Rattle.page_entries.proofs.ChangedSlots.{changed}
use Rattle.page_entries.proofs.ReadAgain.{read_again}

-- ---- their spelling

-- a change of a slot below a number, whose body isn't too long
pub record Small (most : ℕ) (change : SlotChange) : Type 0 where
  pub low : change.0 < most
  pub short : length (body_of change.1) < 2 ^ 16
  pub slot : IsSlot change.1

abbrev Fits : Slot → Type 0
Fits slot = (length (body_of slot) < 2 ^ 16) × IsSlot slot

one_if : (old new : Slot) (most : ℕ) → 1 ≤ most → Fits new → AllByRecursion (Small most) (change_if old new)
one_if old new most some fits = by_test (same_slot old new)
  where
    by_test : (b : Bool) → AllByRecursion (Small most) (if b then [] else (0, new) ∷ [])
    by_test true = tt
    by_test false = (record { low = some; short = fits.0; slot = fits.1 }, tt)

each_behind : (cs : List SlotChange) (most : ℕ) → AllByRecursion (Small most) cs → AllByRecursion (Small (suc most)) (one_behind cs)
each_behind [] most each = tt
each_behind (c ∷ cs) most each = (record { low = omega (arith, each.0.low); short = each.0.short; slot = each.0.slot }, each_behind cs most each.1)

less_small : (cs : List SlotChange) (few most : ℕ) → few ≤ most → AllByRecursion (Small few) cs → AllByRecursion (Small most) cs
less_small cs few most le each = each_as (Small few) (Small most) cs (λ c h. record { low = omega (arith, h.low); short = h.short; slot = h.slot }) each

no_slot : Fits None
no_slot = (omega arith, tt)

small_added : (news : List Slot) → AllByRecursion Fits news → AllByRecursion (Small (length news)) (slots_added news)
small_added [] each = tt
small_added (new ∷ news) each = each-append (Small (suc (length news))) (change_if None new) (one_behind (slots_added news)) (one_if None new (suc (length news)) (omega arith) each.0) (each_behind (slots_added news) (length news) (small_added news each.1))

small_changed : (olds news : List Slot) → AllByRecursion Fits news → AllByRecursion (Small (length olds + length news)) (slots_changed olds news)
small_changed [] news each = less_small (slots_added news) (length news) (length {A = Slot} [] + length news) (omega arith) (small_added news each)
small_changed (old ∷ olds) [] each =
    each-append (Small (suc (length olds) + 0)) (change_if old None) (one_behind (slots_changed olds [])) (one_if old None (suc (length olds) + 0) (omega arith) no_slot)
    (less_small (one_behind (slots_changed olds [])) (suc (length olds + 0)) (suc (length olds) + 0) (omega arith) (each_behind (slots_changed olds []) (length olds + 0) (small_changed olds [] each)))
small_changed (old ∷ olds) (new ∷ news) each =
    each-append (Small (suc (length olds) + suc (length news))) (change_if old new) (one_behind (slots_changed olds news)) (one_if old new (suc (length olds) + suc (length news)) (omega arith) each.0)
    (less_small (one_behind (slots_changed olds news)) (suc (length olds + length news)) (suc (length olds) + suc (length news)) (omega arith) (each_behind (slots_changed olds news) (length olds + length news) (small_changed olds news each.1)))

-- ---- their order, and how many they are

rises_behind : (cs : List SlotChange) (least : ℕ) → Rises least (map slot_of_change cs) → Rises (suc least) (map slot_of_change (one_behind cs))
rises_behind [] least h = tt
rises_behind (c ∷ cs) least h = (omega (arith, h.0), subst (λ (k : ℕ). Rises k (map slot_of_change (one_behind cs))) (let e : suc (c.0 + 1) ≡ suc c.0 + 1 = omega arith in e) (rises_behind cs (c.0 + 1) h.1))

rises_less : (xs : List ℕ) (few most : ℕ) → few ≤ most → Rises most xs → Rises few xs
rises_less [] few most le h = tt
rises_less (x ∷ xs) few most le h = (omega (arith, h.0), h.1)

rises_one : (old new : Slot) (cs : List SlotChange) → Rises 0 (map slot_of_change cs) → Rises 0 (map slot_of_change (change_if old new ++ one_behind cs))
rises_one old new cs h = by_test (same_slot old new)
  where
    by_test : (b : Bool) → Rises 0 (map slot_of_change ((if b then [] else (0, new) ∷ []) ++ one_behind cs))
    by_test true = rises_less (map slot_of_change (one_behind cs)) 0 1 (omega arith) (rises_behind cs 0 h)
    by_test false = (omega arith, rises_behind cs 0 h)

rises_added : (news : List Slot) → Rises 0 (map slot_of_change (slots_added news))
rises_added [] = tt
rises_added (new ∷ news) = rises_one None new (slots_added news) (rises_added news)

rises_changed : (olds news : List Slot) → Rises 0 (map slot_of_change (slots_changed olds news))
rises_changed [] news = rises_added news
rises_changed (old ∷ olds) [] = rises_one old None (slots_changed olds []) (rises_changed olds [])
rises_changed (old ∷ olds) (new ∷ news) = rises_one old new (slots_changed olds news) (rises_changed olds news)

few_one : (old new : Slot) (cs : List SlotChange) → length (change_if old new ++ one_behind cs) ≤ suc (length cs)
few_one old new cs = by_test (same_slot old new)
  where
    same : length (one_behind cs) ≡ length cs
    same = length-map cs (λ (change : SlotChange). (suc change.0, change.1))

    by_test : (b : Bool) → length ((if b then [] else (0, new) ∷ []) ++ one_behind cs) ≤ suc (length cs)
    by_test true = omega (arith, same)
    by_test false = omega (arith, same)

few_added : (news : List Slot) → length (slots_added news) ≤ length news
few_added [] = omega arith
few_added (new ∷ news) = omega (arith, few_one None new (slots_added news), few_added news)

few_changed : (olds news : List Slot) → length (slots_changed olds news) ≤ length olds + length news
few_changed [] news = omega (arith, few_added news)
few_changed (old ∷ olds) [] = omega (arith, few_one old None (slots_changed olds []), few_changed olds [])
few_changed (old ∷ olds) (new ∷ news) = omega (arith, few_one old new (slots_changed olds news), few_changed olds news)

-- ---- the slots of a page

each_fits : (slots : List Slot) → AllByRecursion IsSlot slots → length (bodies slots) < 2 ^ 16 → AllByRecursion Fits slots
each_fits [] each room = tt
each_fits (s ∷ slots) each room = ((omega (arith, room, length-append (body_of s) (bodies slots)), each.0), each_fits slots each.1 (omega (arith, room, length-append (body_of s) (bodies slots))))

pub slots_said : (size : ℕ) (old new : List ℕ) → IsPage old → IsPage new → IsSaid size (Slots (slots_changed (slots_of old) (slots_of new)))
slots_said size old new was is =
    let olds : List Slot = slots_of old in
    let news : List Slot = slots_of new in
    let few : length (slots_of old) + length (slots_of new) < 2 ^ 16 = omega (arith, was.fits.room, was.fits.page, is.fits.room, is.fits.page) in (
      each_as (Small (length (slots_of old) + length (slots_of new))) FitsChange (slots_changed (slots_of old) (slots_of new)) (λ c h. (omega (arith, h.low, few), h.short, h.slot))
          (small_changed (slots_of old) (slots_of new) (each_fits (slots_of new) is.fits.slots (omega (arith, is.fits.room, is.fits.page)))),
      rising_of 0 (map slot_of_change (slots_changed (slots_of old) (slots_of new))) (rises_changed (slots_of old) (slots_of new)),
      omega (arith, few, few_changed (slots_of old) (slots_of new)),
    )

-- ---- the new page

live_whole : (slots : List Slot) → EndsLive slots → trimmed slots ≡ slots
live_whole [] live = refl
live_whole (None ∷ []) live = absurd live
live_whole (Some body ∷ []) live = refl
live_whole (None ∷ t ∷ slots) live = ap (before_live None) (live_whole (t ∷ slots) live)
live_whole (Some body ∷ t ∷ slots) live = ap (before_live (Some body)) (live_whole (t ∷ slots) live)

abbrev made_page : ℕ → List Slot → FilePage
made_page file_no slots = record { file_no = file_no; slots = slots }

page_given : (old new : List ℕ) (said : Said) → SlotsDiffer old new said → page_after_slots (slots_changed (slots_of old) (slots_of new)) old ≡ page_on new
page_given old new said d =
    ap (λ (slots : List Slot). with_slots (page_on old) slots) (changed (slots_of old) (slots_of new) ∙ live_whole (slots_of new) d.is.fits.last)
    ∙ ap (λ (n : ℕ). made_page n (slots_of new)) (sym d.file)

pub slots_give : (old new : List ℕ) (said : Said) → length old ≡ length new → SlotsDiffer old new said → SlotsApply old (slots_changed (slots_of old) (slots_of new)) × (file_page (length old) (page_after_slots (slots_changed (slots_of old) (slots_of new)) old) ≡ new)
slots_give old new said same d =
    let given : page_after_slots (slots_changed (slots_of old) (slots_of new)) old ≡ page_on new = page_given old new said d in (
      record { page = d.was; fits = subst (IsFilePage (length old)) (sym given) (subst (λ (n : ℕ). IsFilePage n (page_on new)) (sym same) d.is.fits) },
      ap (file_page (length old)) given ∙ ap (λ (n : ℕ). file_page n (page_on new)) same ∙ sym d.is.spelled,
    )

-- ---- what is found

pub slots_found : (old new : List ℕ) (p q : FilePage) (fields : List ℕ) → SlotsOf old p → SlotsOf new q → q.file_no ≡ p.file_no → fields ≡ said_bytes (Slots (slots_changed p.slots q.slots)) → SlotsDiffer old new (said_on SlotChanges fields) × AreFields (length new) SlotChanges fields
slots_found old new p q fields was is same spelled =
    let p_is : p ≡ page_on old = sym (page_read_is old p was) in
    let q_is : q ≡ page_on new = sym (page_read_is new q is) in
    let all : slots_changed p.slots q.slots ≡ slots_changed (slots_of old) (slots_of new) = ap (λ (x : FilePage). slots_changed x.slots q.slots) p_is ∙ ap (λ (x : FilePage). slots_changed (slots_of old) x.slots) q_is in
    let before : IsPage old = subst (SlotsOf old) p_is was in
    let after : IsPage new = subst (SlotsOf new) q_is is in
    let whole : fields ≡ said_bytes (Slots (slots_changed (slots_of old) (slots_of new))) = spelled ∙ ap (λ (cs : List SlotChange). said_bytes (Slots cs)) all in
    let fits : IsSaid (length new) (Slots (slots_changed (slots_of old) (slots_of new))) = slots_said (length new) old new before after in (
      record {
        was = before;
        is = after;
        file = ap (λ (x : FilePage). x.file_no) (sym q_is) ∙ same ∙ ap (λ (x : FilePage). x.file_no) p_is;
        says = ap (said_on SlotChanges) whole ∙ read_again (length new) (Slots (slots_changed (slots_of old) (slots_of new))) fits;
      },
      (Slots (slots_changed (slots_of old) (slots_of new)), fits, refl, whole),
    )

pub same_file : (old new : List ℕ) (p q : FilePage) (said : Said) → SlotsOf old p → SlotsOf new q → SlotsDiffer old new said → q.file_no ≡ p.file_no
same_file old new p q said was is d = ap (λ (x : FilePage). x.file_no) (sym (page_read_is new q is)) ∙ d.file ∙ ap (λ (x : FilePage). x.file_no) (page_read_is old p was)

pub short_body : (slots : List Slot) (i : ℕ) → length (body_of (slice_index_or slots i None)) ≤ length (bodies slots)
short_body [] i = omega arith
short_body (s ∷ slots) zero = omega (arith, length-append (body_of s) (bodies slots))
short_body (s ∷ slots) (suc i) = omega (arith, length-append (body_of s) (bodies slots), short_body slots i)

-- ---- a walk over the slots

abbrev pub slot_if : ℕ → Slot → Slot → List SlotChange
slot_if i old new = if same_slot old new then [] else (i, new) ∷ []

-- the changes of the slots from a place on
abbrev pub changes_left : ℕ → List Slot → List Slot → List SlotChange
changes_left zero olds news = slots_changed olds news
changes_left (suc i) [] [] = []
changes_left (suc i) [] (new ∷ news) = one_behind (changes_left i [] news)
changes_left (suc i) (old ∷ olds) [] = one_behind (changes_left i olds [])
changes_left (suc i) (old ∷ olds) (new ∷ news) = one_behind (changes_left i olds news)

behind_if : (i : ℕ) (old new : Slot) → one_behind (slot_if i old new) ≡ slot_if (suc i) old new
behind_if i old new = by_test (same_slot old new)
  where
    by_test : (b : Bool) → one_behind (if b then [] else (i, new) ∷ []) ≡ (if b then [] else (suc i, new) ∷ [])
    by_test true = refl
    by_test false = refl

later : (i : ℕ) (old new : Slot) (here rest : List SlotChange) → here ≡ slot_if i old new ++ rest → one_behind here ≡ slot_if (suc i) old new ++ one_behind rest
later i old new here rest e =
    ap one_behind e ∙ map-append (λ (change : SlotChange). (suc change.0, change.1)) (slot_if i old new) rest ∙ ap (λ (t : List SlotChange). t ++ one_behind rest) (behind_if i old new)

left_step : (i : ℕ) (olds news : List Slot) → (length olds ≤ i → length news ≤ i → ⊥) → changes_left i olds news ≡ slot_if i (slice_index_or olds i None) (slice_index_or news i None) ++ changes_left (suc i) olds news
left_step zero [] [] more = absurd (more (omega arith) (omega arith))
left_step zero [] (new ∷ news) more = refl
left_step zero (old ∷ olds) [] more = refl
left_step zero (old ∷ olds) (new ∷ news) more = refl
left_step (suc i) [] [] more = absurd (more (omega arith) (omega arith))
left_step (suc i) [] (new ∷ news) more = later i None (slice_index_or news i None) (changes_left i [] news) (changes_left (suc i) [] news) (left_step i [] news (λ p q. more (omega arith) (omega (arith, q))))
left_step (suc i) (old ∷ olds) [] more = later i (slice_index_or olds i None) None (changes_left i olds []) (changes_left (suc i) olds []) (left_step i olds [] (λ p q. more (omega (arith, p)) (omega arith)))
left_step (suc i) (old ∷ olds) (new ∷ news) more =
    later i (slice_index_or olds i None) (slice_index_or news i None) (changes_left i olds news) (changes_left (suc i) olds news) (left_step i olds news (λ p q. more (omega (arith, p)) (omega (arith, q))))

left_next : (i : ℕ) (olds news : List Slot) → (length olds ≤ i → length news ≤ i → ⊥) → changes_left i olds news ≡ slot_if i (slice_index_or olds i None) (slice_index_or news i None) ++ changes_left (i + 1) olds news
left_next i olds news more =
    left_step i olds news more ∙ ap (λ (k : ℕ). slot_if i (slice_index_or olds i None) (slice_index_or news i None) ++ changes_left k olds news) (let e : suc i ≡ i + 1 = omega arith in e)

pub left_end : (i : ℕ) (olds news : List Slot) → length olds ≤ i → length news ≤ i → changes_left i olds news ≡ []
left_end zero [] [] p q = refl
left_end zero [] (new ∷ news) p q = absurd (omega (arith, q))
left_end zero (old ∷ olds) news p q = absurd (omega (arith, p))
left_end (suc i) [] [] p q = refl
left_end (suc i) [] (new ∷ news) p q = ap one_behind (left_end i [] news (omega arith) (omega (arith, q)))
left_end (suc i) (old ∷ olds) [] p q = ap one_behind (left_end i olds [] (omega (arith, p)) (omega arith))
left_end (suc i) (old ∷ olds) (new ∷ news) p q = ap one_behind (left_end i olds news (omega (arith, p)) (omega (arith, q)))

-- ---- the fields so far

-- the bytes are those of the changes up to a place, with zeros for the count
pub record WrittenTo (olds news : List Slot) (i count : ℕ) (bytes : List ℕ) : Type 0 where
  pub so_far : List SlotChange
  pub bytes_are : bytes ≡ zeros 6 ++ flat_map change_bytes so_far
  pub count_is : count ≡ length so_far
  pub few : count ≤ i
  pub rest : so_far ++ changes_left i olds news ≡ slots_changed olds news

pub written_first : (olds news : List Slot) (bytes : List ℕ) → bytes ≡ zeros 6 → WrittenTo olds news 0 0 bytes
written_first olds news bytes is = record { so_far = []; bytes_are = is ∙ sym (append-nil (zeros 6)); count_is = refl; few = omega arith; rest = refl }

pub written_same : (olds news : List Slot) (i count : ℕ) (bytes : List ℕ) (old new : Slot) → (length olds ≤ i → length news ≤ i → ⊥) → old ≡ slice_index_or olds i None → new ≡ slice_index_or news i None → same_slot old new ≡ true → WrittenTo olds news i count bytes
    → WrittenTo olds news (i + 1) count bytes
written_same olds news i count bytes old new more is_old is_new same w = record {
  so_far = w.so_far;
  bytes_are = w.bytes_are;
  count_is = w.count_is;
  few = omega (arith, w.few);
  rest =
      ap (λ (t : List SlotChange). w.so_far ++ t) (sym (left_next i olds news more
      ∙ ap (λ (s : Slot). slot_if i s (slice_index_or news i None) ++ changes_left (i + 1) olds news) (sym is_old) ∙ ap (λ (s : Slot). slot_if i old s ++ changes_left (i + 1) olds news) (sym is_new)
      ∙ ap (λ (b : Bool). (if b then [] else (i, new) ∷ []) ++ changes_left (i + 1) olds news) same))
      ∙ w.rest;
}

pub written_more : (olds news : List Slot) (i count : ℕ) (bytes more_bytes : List ℕ) (old new : Slot) → (length olds ≤ i → length news ≤ i → ⊥) → old ≡ slice_index_or olds i None → new ≡ slice_index_or news i None → same_slot old new ≡ false
    → WrittenTo olds news i count bytes → more_bytes ≡ bytes ++ change_bytes (i, new) → WrittenTo olds news (i + 1) (count + 1) more_bytes
written_more olds news i count bytes more_bytes old new more is_old is_new other w is = record {
  so_far = w.so_far ++ (i, new) ∷ [];
  bytes_are = is ∙ ap (λ (t : List ℕ). t ++ change_bytes (i, new)) w.bytes_are ∙ append_assoc (zeros 6) (flat_map change_bytes w.so_far) (change_bytes (i, new))
      ∙ ap (λ (t : List ℕ). zeros 6 ++ t) (ap (λ (t : List ℕ). flat_map change_bytes w.so_far ++ t) (sym (append-nil (change_bytes (i, new)))) ∙ sym (flat_map-append change_bytes w.so_far ((i, new) ∷ [])));
  count_is = omega (arith, w.count_is, length-append w.so_far ((i, new) ∷ []));
  few = omega (arith, w.few);
  rest =
      append_assoc w.so_far ((i, new) ∷ []) (changes_left (i + 1) olds news)
      ∙ ap (λ (t : List SlotChange). w.so_far ++ t) (sym (left_next i olds news more
      ∙ ap (λ (s : Slot). slot_if i s (slice_index_or news i None) ++ changes_left (i + 1) olds news) (sym is_old) ∙ ap (λ (s : Slot). slot_if i old s ++ changes_left (i + 1) olds news) (sym is_new)
      ∙ ap (λ (b : Bool). (if b then [] else (i, new) ∷ []) ++ changes_left (i + 1) olds news) other))
      ∙ w.rest;
}

pub written_all : (olds news : List Slot) (i count : ℕ) (bytes : List ℕ) → length olds ≤ i → length news ≤ i → WrittenTo olds news i count bytes → written bytes 4 (two_bytes count) ≡ said_bytes (Slots (slots_changed olds news))
written_all olds news i count bytes p q w =
    let all : w.so_far ≡ slots_changed olds news = sym (append-nil w.so_far) ∙ ap (λ (t : List SlotChange). w.so_far ++ t) (sym (left_end i olds news p q)) ∙ w.rest in
    ap (λ (b : List ℕ). written b 4 (two_bytes count)) w.bytes_are ∙ headed_so (two_bytes count) (flat_map change_bytes w.so_far) (two_is.len count)
    ∙ ap (λ (n : ℕ). zeros 4 ++ (two_bytes n ++ flat_map change_bytes w.so_far)) w.count_is ∙ ap (λ (cs : List SlotChange). said_bytes (Slots cs)) all
  where
    headed_so : (n rest : List ℕ) → length n ≡ 2 → written (zeros 6 ++ rest) 4 n ≡ zeros 4 ++ (n ++ rest)
    headed_so n rest two = ap (λ (k : ℕ). zeros 4 ++ (n ++ drop (4 + k) (zeros 6 ++ rest))) two
