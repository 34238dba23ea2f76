-- Records that are laid on pages.
use Rattle.std.proofs.Common.{◌≡◌, ◌≤◌, ◌<◌, ◌+◌, ◌-◌, ◌*◌, ℕ, zero, suc, List, [], ◌∷◌, ◌++◌, length, map, Some, None, inl, inr, refl, sym, ap, subst, ◌∙◌, arith, append_assoc, lt-ltb}
use Rattle.std.specs.Prelude.{Bool, IsTrue, ◌↔◌, false, if◌then◌else◌, nat_le, nat_lt, true}
use Rattle.std.proofs.lemmas.Bool.Decides.{nat_tests}
use Rattle.std.proofs.lemmas.Option.{same_Some}
use Rattle.std.proofs.lemmas.List.{append-nil, length-map, nil_from_length}
use Rattle.ex_base.specs.declared.geometry.Geometry.{Geometry}
use Rattle.ex_base.specs.Area.{InPageArea, area_end, catalog_no}
use Rattle.ex_base.specs.Bytes.{repl}
use Rattle.ex_base.specs.Sizes.{volume_bytes}
use Rattle.disk_model.specs.Outside.{DiskOnly, IsWorld, Outside}
use Rattle.disk_model.specs.Calls.{Tears, Wrote}
use Rattle.disk_model.specs.Changes.{ChangesWithin, InRange, changes_wider, changes_write}
use Rattle.object_records.specs.Record.{Record, record_bytes}
use Rattle.slotted_pages.specs.FilePage.{FilePage, Slot, SlotsOf, room_of}
use Rattle.slotted_pages.specs.Reads.{IsPage, page_on}
use Rattle.slotted_pages.specs.Edits.{need_of, place_for, slots_of, vacant_at, with_slot, with_slots}
use Rattle.slotted_pages.proofs.PageLaws.{page_read_is}
use Rattle.tree_store.proofs.Places.{node_fits, page_len}
use Rattle.tree_store.proofs.Taking.{held_whole, whole_written}
use Rattle.trees.specs.Trees.{Units}
use Rattle.volume_model.specs.Homes.{home}
use Rattle.history_writes.specs.Places.{InPagesFrom}
use Rattle.history_writes.proofs.Writing.{IsFront, home_other, home_unit}
use Rattle.history_writes.specs.declared.file_pages.FilePages.{FilePages}
use Rattle.history_writes.specs.Laid.{AreLaid, ArePagesOn, ClosesFile, IsClosed, IsDense, LeavesPage, all_of, page_of, slot_for}

-- ---- slots

pub page_is : (page : List ℕ) (p : FilePage) → SlotsOf page p → IsPage page
page_is page p is = subst (SlotsOf page) (sym (page_read_is page p is)) is

pub slots_are : (page : List ℕ) (p : FilePage) → SlotsOf page p → slots_of page ≡ p.slots
slots_are page p is = ap (λ (q : FilePage). q.slots) (page_read_is page p is)

-- no slot is vacant
none_vacant : (records : List Record) → vacant_at (map slot_for records) ≡ length records
none_vacant [] = refl
none_vacant (r ∷ records) = ap suc (none_vacant records)

slot_behind : (records : List Record) (r : Record) → with_slot (map slot_for records) (length records) (slot_for r) ≡ map slot_for (records ++ r ∷ [])
slot_behind [] r = refl
slot_behind (s ∷ records) r = ap (λ (rest : List Slot). slot_for s ∷ rest) (slot_behind records r)

-- the slot that a body got is the one behind the last
slot_given : (size : ℕ) (slots : List Slot) (len slot : ℕ) → Some slot ≡ place_for size slots len → slot ≡ vacant_at slots
slot_given size slots len slot e = given (nat_le (need_of slots len) (room_of size slots)) e
  where
    given : (b : Bool) → Some slot ≡ (if b then Some (vacant_at slots) else None) → slot ≡ vacant_at slots
    given true is = same_Some slot (vacant_at slots) is
    given false is = absurd cc

pub body_laid : (was page body : List ℕ) (file_no slot : ℕ) (records : List Record) (r : Record) → SlotsOf was (page_of file_no records) → body ≡ record_bytes r → Some slot ≡ place_for (length was) (slots_of was) (length body)
    → SlotsOf page (with_slots (page_on was) (with_slot (slots_of was) slot (Some body))) → SlotsOf page (page_of file_no (records ++ r ∷ []))
body_laid was page body file_no slot records r is spelled place placed =
    let slots : slots_of was ≡ map slot_for records = slots_are was (page_of file_no records) is in
    let at : slot ≡ length records = slot_given (length was) (slots_of was) (length body) slot place ∙ ap vacant_at slots ∙ none_vacant records in
    let read : page_on was ≡ page_of file_no records = page_read_is was (page_of file_no records) is in
    let same : with_slot (slots_of was) slot (Some body) ≡ map slot_for (records ++ r ∷ []) =
    ap (λ (s : List Slot). with_slot s slot (Some body)) slots ∙ ap (λ (n : ℕ). with_slot (map slot_for records) n (Some body)) at ∙ ap (λ (b : List ℕ). with_slot (map slot_for records) (length records) (Some b)) spelled ∙ slot_behind records r in
    subst (λ (p : FilePage). SlotsOf page p) (ap (λ (p : FilePage). with_slots p (with_slot (slots_of was) slot (Some body))) read ∙ ap (λ (s : List Slot). with_slots (page_of file_no records) s) same) placed

-- a body that fits a page gets the first slot of an empty one
placed_first : (size len : ℕ) → len + 20 ≤ size → place_for size [] len ≡ Some 0
placed_first size len fits =
    let test : nat_le (len + 4) (size - 16) ≡ true = grind (arith, nat_tests) in
    rw test refl

pub first_slot : (page : List ℕ) (file_no len : ℕ) → SlotsOf page (record { file_no = file_no; slots = [] }) → len + 20 ≤ length page → place_for (length page) (slots_of page) len ≡ Some 0
first_slot page file_no len empty fits = ap (λ (s : List Slot). place_for (length page) s len) (slots_are page (record { file_no = file_no; slots = [] }) empty) ∙ placed_first (length page) len fits

-- a page on which a body that fits a page has no room has a slot
pub some_slots : (size : ℕ) (slots : List Slot) (len : ℕ) → None ≡ place_for size slots len → len + 20 ≤ size → 1 ≤ length slots
some_slots size [] len none fits = absurd (let no : None ≡ Some 0 = none ∙ placed_first size len fits in cc)
some_slots size (slot ∷ slots) len none fits = omega arith

-- ---- a page without a vacant slot

pub empty_dense : (page : List ℕ) (file_no : ℕ) → SlotsOf page (record { file_no = file_no; slots = [] }) → IsDense page
empty_dense page file_no is = record { spelled = page_is page (record { file_no = file_no; slots = [] }) is; dense = ap vacant_at (slots_are page (record { file_no = file_no; slots = [] }) is) ∙ sym (ap length (slots_are page (record { file_no = file_no; slots = [] }) is)) }

one_more : (slots : List Slot) (body : List ℕ) → vacant_at slots ≡ length slots → (length (with_slot slots (length slots) (Some body)) ≡ suc (length slots)) × (vacant_at (with_slot slots (length slots) (Some body)) ≡ suc (length slots))
one_more [] body dense = (refl, refl)
one_more (None ∷ slots) body dense = absurd (omega (arith, dense))
one_more (Some b ∷ slots) body dense = let rest = one_more slots body (omega (arith, dense)) in (ap suc rest.0, ap suc rest.1)

-- what a body makes of such a page
pub record IsPut (page : List ℕ) (slot : ℕ) : Type 0 where
  pub dense : IsDense page
  pub last : suc slot ≡ length (slots_of page)

pub body_put : (was page body : List ℕ) (slot : ℕ) → IsDense was → Some slot ≡ place_for (length was) (slots_of was) (length body) → SlotsOf page (with_slots (page_on was) (with_slot (slots_of was) slot (Some body))) → IsPut page slot
body_put was page body slot is place placed =
    let at : slot ≡ length (slots_of was) = slot_given (length was) (slots_of was) (length body) slot place ∙ is.dense in
    let slots : slots_of page ≡ with_slot (slots_of was) (length (slots_of was)) (Some body) =
    slots_are page (with_slots (page_on was) (with_slot (slots_of was) slot (Some body))) placed ∙ ap (λ (n : ℕ). with_slot (slots_of was) n (Some body)) at in
    let one = one_more (slots_of was) body is.dense in
    record {
      dense = record { spelled = page_is page _ placed; dense = ap vacant_at slots ∙ one.1 ∙ sym one.0 ∙ sym (ap length slots) };
      last = ap suc at ∙ sym one.0 ∙ sym (ap length slots);
    }

slot_last : (slots : List Slot) (slot : Slot) → with_slot slots (length slots) slot ≡ slots ++ slot ∷ []
slot_last [] slot = refl
slot_last (s ∷ slots) slot = ap (λ (rest : List Slot). s ∷ rest) (slot_last slots slot)

pub put_slots : (was page body : List ℕ) (slot : ℕ) → IsDense was → Some slot ≡ place_for (length was) (slots_of was) (length body) → SlotsOf page (with_slots (page_on was) (with_slot (slots_of was) slot (Some body))) → slots_of page ≡ slots_of was ++ Some body ∷ []
put_slots was page body slot is place placed =
    let at : slot ≡ length (slots_of was) = slot_given (length was) (slots_of was) (length body) slot place ∙ is.dense in
    slots_are page (with_slots (page_on was) (with_slot (slots_of was) slot (Some body))) placed ∙ ap (λ (n : ℕ). with_slot (slots_of was) n (Some body)) at ∙ slot_last (slots_of was) (Some body)

-- ---- pages in a row

pub pages_stay : (units later : Units) (file_no page : ℕ) (pages : List (List Record)) → ((p : ℕ) → page ≤ p → p < page + length pages → later p ≡ units p) → ArePagesOn units file_no page pages → ArePagesOn later file_no page pages
pages_stay units later file_no page [] same are = tt
pages_stay units later file_no page (records ∷ pages) same are = (
  subst (λ (b : List ℕ). SlotsOf b (page_of file_no records)) (sym (same page (omega arith) (omega arith))) are.0,
  are.1,
  pages_stay units later file_no (suc page) pages (λ p from before. same p (omega (arith, from)) (omega (arith, before))) are.2,
)

pages_more : (units : Units) (file_no page at : ℕ) (pages : List (List Record)) (last : List Record) → at ≡ page + length pages → ArePagesOn units file_no page pages → SlotsOf (units at) (page_of file_no last) → 1 ≤ length last
    → ArePagesOn units file_no page (pages ++ last ∷ [])
pages_more units file_no page at [] last e are slots some = (let same : at ≡ page = omega (arith, e) in subst (λ (p : ℕ). SlotsOf (units p) (page_of file_no last)) same slots, some, tt)
pages_more units file_no page at (records ∷ pages) last e are slots some = (are.0, are.1, pages_more units file_no (suc page) at pages last (omega (arith, e)) are.2 slots some)

all_more : (pages : List (List Record)) (last : List Record) → all_of (pages ++ last ∷ []) ++ [] ≡ all_of pages ++ last
all_more [] last = append-nil (last ++ []) ∙ append-nil last
all_more (records ∷ pages) last = append_assoc records (all_of (pages ++ last ∷ [])) [] ∙ ap (λ (rs : List Record). records ++ rs) (all_more pages last) ∙ sym (append_assoc records (all_of pages) last)

-- ---- the page that is left

page_front : (g : Geometry) (page : ℕ) (d bytes : List ℕ) → InPageArea g page → length bytes ≡ g.page_size → volume_bytes g ≤ length d → IsFront g page d bytes
page_front g page d bytes area long large =
    record { is = inl area; room = omega (arith, page_len g page area, long); fits = node_fits g page (length bytes) (length d) area long large }

pub page_changes : (g : Geometry) (a b : Outside) (first page n : ℕ) → DiskOnly a b → (IsTrue a.honest → Tears (page * g.page_size) n a b) → InPageArea g page → first ≤ page → n ≡ g.page_size → ChangesWithin (InPagesFrom g first) a b
page_changes g a b first page n only tears area behind long =
    changes_wider (InRange (page * g.page_size) n) (InPagesFrom g first) (changes_write (page * g.page_size) n only tears) (λ i here. (page, area, behind, (here.0, omega (arith, here.1, page_len g page area, long))))

pub page_left : (g : Geometry) (a b : Outside) (old new : FilePages) → IsWorld a → volume_bytes g ≤ a.size → Wrote ((old.first + old.written) * g.page_size) old.page.items a b → length old.page.items ≡ g.page_size → catalog_no ≤ old.first
    → old.first + old.written < area_end g → 1 ≤ length (slots_of old.page.items) → new.written ≡ suc old.written → new.file_no ≡ old.file_no → new.first ≡ old.first → SlotsOf new.page.items (record { file_no = old.file_no; slots = [] }) → LeavesPage g a b old new
page_left g a b old new world large wrote long behind there some count number first empty image records holds laid =
    let at : ℕ = old.first + old.written in
    let area : InPageArea g (old.first + old.written) = (omega (arith, behind), there) in
    let size : volume_bytes g ≤ length image = omega (arith, large, held_whole a world image holds) in
    let front = page_front g (old.first + old.written) image old.page.items area long size in
    let later : List ℕ = repl image ((old.first + old.written) * g.page_size) old.page.items in
    let stays = pages_stay (home g image) (home g later) old.file_no old.first laid.full
    (λ p from before. home_other g (old.first + old.written) p image old.page.items front (inl (omega (arith, behind, from), omega (arith, before, there, laid.count))) (λ same. omega (arith, same, before, laid.count))) laid.pages in
    let there_now : home g later (old.first + old.written) ≡ old.page.items = home_unit g later (old.first + old.written) ∙ whole_written g (old.first + old.written) image old.page.items (page_len g (old.first + old.written) area ∙ sym long) front.fits in
    let slots : slots_of old.page.items ≡ map slot_for laid.last = slots_are old.page.items (page_of old.file_no laid.last) laid.at_hand in
    let last_some : 1 ≤ length laid.last = omega (arith, some, ap length slots, length-map laid.last slot_for) in
    let more : ArePagesOn (home g later) old.file_no old.first (laid.full ++ laid.last ∷ []) =
    pages_more (home g later) old.file_no old.first (old.first + old.written) laid.full laid.last (ap (λ (n : ℕ). old.first + n) laid.count) stays (subst (λ (t : List ℕ). SlotsOf t (page_of old.file_no laid.last)) (sym there_now) laid.at_hand) last_some in (
      later,
      wrote image holds,
      record {
        full = laid.full ++ laid.last ∷ [];
        last = [];
        records_are = laid.records_are ∙ sym (all_more laid.full laid.last);
        count = count ∙ ap suc laid.count ∙ omega (arith, length_more laid.full laid.last);
        pages = subst (λ (n : ℕ). ArePagesOn (home g later) n new.first (laid.full ++ laid.last ∷ [])) (sym number) (subst (λ (n : ℕ). ArePagesOn (home g later) old.file_no n (laid.full ++ laid.last ∷ [])) (sym first) more);
        at_hand = subst (λ (n : ℕ). SlotsOf new.page.items (page_of n [])) (sym number) empty;
      },
      refl,
      refl,
    )
  where
    length_more : {A : Type 0} (xs : List A) (x : A) → length (xs ++ x ∷ []) ≡ suc (length xs)
    length_more [] x = refl
    length_more (y ∷ xs) x = ap suc (length_more xs x)

-- ---- one more version

pub rows_left : (full was : List (List Record)) (last old : List Record) (r : Record) → full ≡ was ++ old ∷ [] → last ≡ [] → full ++ (last ++ r ∷ []) ∷ [] ≡ was ++ old ∷ (r ∷ []) ∷ []
rows_left full was last old r rows none = cc (rows, none, append_assoc was (old ∷ []) ((r ∷ []) ∷ []))

abbrev pub laid_more : (units : Units) (old new : FilePages) (records : List Record) (r : Record) → AreLaid units old records → new.written ≡ old.written → new.file_no ≡ old.file_no → new.first ≡ old.first
    → ((last : List Record) → SlotsOf old.page.items (page_of old.file_no last) → SlotsOf new.page.items (page_of old.file_no (last ++ r ∷ []))) → AreLaid units new (records ++ r ∷ [])
laid_more units old new records r laid count number first more = record {
  full = laid.full;
  last = laid.last ++ r ∷ [];
  records_are = ap (λ (rs : List Record). rs ++ r ∷ []) laid.records_are ∙ append_assoc (all_of laid.full) laid.last (r ∷ []);
  count = count ∙ laid.count;
  pages = subst (λ (n : ℕ). ArePagesOn units n new.first laid.full) (sym number) (subst (λ (n : ℕ). ArePagesOn units old.file_no n laid.full) (sym first) laid.pages);
  at_hand = subst (λ (n : ℕ). SlotsOf new.page.items (page_of n (laid.last ++ r ∷ []))) (sym number) (more laid.last laid.at_hand);
}

pub begun : (units : Units) (file : FilePages) → file.written ≡ 0 → SlotsOf file.page.items (record { file_no = file.file_no; slots = [] }) → AreLaid units file []
begun units file none empty = record { full = []; last = []; records_are = refl; count = none; pages = tt; at_hand = empty }

-- ---- the end of a file

pub none_last : (page : List ℕ) (file_no : ℕ) (last : List Record) → SlotsOf page (page_of file_no last) → length (slots_of page) ≡ 0 → last ≡ []
none_last page file_no last is none = nil_from_length last (omega (arith, none, ap length (slots_are page (page_of file_no last) is), length-map last slot_for))

abbrev pub closed : (units : Units) (file : FilePages) (records : List Record) → AreLaid units file records → length (slots_of file.page.items) ≡ 0 → IsClosed units file records
closed units file records laid none =
    let last : laid.last ≡ [] = none_last file.page.items file.file_no laid.last laid.at_hand none in
    record { pages = laid.full; records_are = laid.records_are ∙ ap (λ (rs : List Record). all_of laid.full ++ rs) last ∙ append-nil (all_of laid.full); count = laid.count; are = laid.pages }

pub closes_left : (g : Geometry) (a b : Outside) (old new : FilePages) → LeavesPage g a b old new → SlotsOf new.page.items (record { file_no = old.file_no; slots = [] }) → ClosesFile g a b old new
closes_left g a b old new leaves empty image records holds laid =
    let left = leaves image records holds laid in
    (left.0, left.1, closed (home g left.0) new records left.2 (ap length (slots_are new.page.items (record { file_no = old.file_no; slots = [] }) empty)), inl left.3)

pub closes_none : (g : Geometry) (a : Outside) (file : FilePages) → length (slots_of file.page.items) ≡ 0 → ClosesFile g a a file file
closes_none g a file none image records holds laid = (image, holds, closed (home g image) file records laid none, inr (refl, none_last file.page.items file.file_no laid.last laid.at_hand none))

-- ---- tests

pub some_test : (n m : ℕ) → n ≡ m → IsTrue (nat_lt 0 n) ↔ (1 ≤ m)
some_test zero m e = (λ t. absurd (let no : false ≡ true = t in cc), λ le. absurd (omega (arith, e, le)))
some_test (suc n) m e = (λ t. omega (arith, e), λ le. lt-ltb 0 (suc n) (omega arith))

pub none_left : (b : Bool) (n : ℕ) → (IsTrue b ↔ (1 ≤ n)) → b ≡ false → n ≡ 0
none_left b zero test is = refl
none_left b (suc n) test is = absurd (let yes : b ≡ true = test.1 (omega arith) in cc)

-- the same pages
abbrev pub laid_same : (units : Units) (old new : FilePages) (records : List Record) → AreLaid units old records → new.written ≡ old.written → new.file_no ≡ old.file_no → new.first ≡ old.first → new.page.items ≡ old.page.items → AreLaid units new records
laid_same units old new records laid count number first items = record {
  full = laid.full;
  last = laid.last;
  records_are = laid.records_are;
  count = count ∙ laid.count;
  pages = subst (λ (n : ℕ). ArePagesOn units n new.first laid.full) (sym number) (subst (λ (n : ℕ). ArePagesOn units old.file_no n laid.full) (sym first) laid.pages);
  at_hand = subst (λ (n : ℕ). SlotsOf new.page.items (page_of n laid.last)) (sym number) (subst (λ (b : List ℕ). SlotsOf b (page_of old.file_no laid.last)) (sym items) laid.at_hand);
}
