-- Records that are laid with their links.
use Rattle.std.proofs.Common.{◌≡◌, ◌≤◌, ◌<◌, ◌+◌, ◌-◌, max, ℕ, zero, suc, Bool, List, [], ◌∷◌, ◌++◌, length, map, take, get_or, Some, None, refl, sym, ap, subst, ◌∙◌, add-one, arith}
use Rattle.std.specs.Prelude.{slice_index_or, if◌then◌else◌}
use Rattle.std.specs.List.{AllByRecursion}
use Rattle.std.proofs.lemmas.Bool.{eq-eqb}
use Rattle.std.proofs.lemmas.Option.{same_Some}
use Rattle.std.proofs.lemmas.List.{length-append, length-map, length-replicate, take_all}
use Rattle.ex_base.specs.declared.names.Root.{Root}
use Rattle.ex_base.specs.Fields.{eight_bytes, padded, page_field, place_field, two_bytes, zeros}
use Rattle.ex_base.proofs.FieldLaws.{eight_is, two_is}
use Rattle.ex_base.proofs.Places.{length-place_field}
use Rattle.ex_base.proofs.Reading.{length-page_field}
use Rattle.object_records.specs.declared.Head.{Head}
use Rattle.object_records.specs.Reads.{record_on}
use Rattle.object_records.specs.Record.{BodyOf, Content, IsContent, IsRecord, Large, NewerFits, Record, Small, content_bytes, record_bytes}
use Rattle.object_records.proofs.RecordLaws.{record_fields, record_read}
use Rattle.slotted_pages.specs.Edits.{place_for, slots_of, vacant_at}
use Rattle.slotted_pages.specs.FilePage.{FilePage, Slot, SlotsOf, bodies, body_of, taken}
use Rattle.slotted_pages.specs.Reads.{IsPage}
use Rattle.slotted_pages.proofs.PageLaws.{page_read_is}
use Rattle.slotted_pages.proofs.SlotLaws.{place_some}
use Rattle.history_links.specs.declared.Links.{Links}
use Rattle.history_writes.specs.Laid.{page_of, slot_for}
use Rattle.history_writes.proofs.Laying.{page_is, slots_are}
use Rattle.history_writes.specs.Linked.{AllMayHave, HaveFields, MayHave, head_linked, record_linked, records_linked}

-- ---- the length of a content

pub small_long : (bytes : List ℕ) → length (content_bytes (Small bytes)) ≡ 2 + max 12 (length bytes)
small_long bytes =
    omega (arith, length-append (two_bytes (length bytes)) (padded 12 bytes), two_is.len (length bytes), length-append bytes (zeros (12 - length bytes)), length-replicate {A = ℕ} (12 - length bytes) 0)

pub large_long : (root : Root) → length (content_bytes (Large root)) ≡ 14
large_long root =
    omega (arith, length-append (two_bytes root.height ++ eight_bytes root.size) (page_field root.page), length-append (two_bytes root.height) (eight_bytes root.size), two_is.len root.height, eight_is.len root.size, length-page_field root.page)

-- ---- one record

abbrev pub made : Head → Content → Record
made head content = record { head = head; content = content }

-- a body is one record's
pub same_record : (body : List ℕ) (r s : Record) → BodyOf body r → BodyOf body s → r ≡ s
same_record body r s one other = sym (record_read body r one) ∙ record_read body s other

-- how long a record is tells its content alone
pub record_long : (r : Record) → length (record_bytes r) ≡ 22 + length (content_bytes r.content)
record_long r =
    omega (
      arith,
      ap length (record_fields r),
      length-append (eight_bytes r.head.unique) (place_field r.head.older ++ (place_field r.head.newer ++ content_bytes r.content)),
      eight_is.len r.head.unique,
      length-append (place_field r.head.older) (place_field r.head.newer ++ content_bytes r.content),
      length-place_field r.head.older,
      length-append (place_field r.head.newer) (content_bytes r.content),
      length-place_field r.head.newer,
    )

pub body_long : (body : List ℕ) (view : Record) (content : Content) → BodyOf body view → content ≡ view.content → length body ≡ 22 + length (content_bytes content)
body_long body view content is same = ap length is.spelled ∙ record_long view ∙ ap (λ (c : Content). 22 + length (content_bytes c)) (sym same)

linked_long : (one : Links) (r : Record) → length (record_bytes (record_linked one r)) ≡ length (record_bytes r)
linked_long one r = record_long (record_linked one r) ∙ sym (record_long r)

-- the links that a record may have are those that its head in the view may
pub may_still : (body : List ℕ) (view r : Record) (head : Head) (one : Links) → BodyOf body view → head ≡ view.head → BodyOf body r → MayHave one r → NewerFits head.state one.newer
may_still body view r head one is same other may =
    subst (λ (h : Head). NewerFits h.state one.newer) (sym (same ∙ ap (λ (x : Record). x.head) (same_record body view r is other))) may

-- a head with links, with the content of the record that was read
pub record Relinked (body : List ℕ) (view : Record) (was head : Head) (content : Content) (one : Links) : Type 0 where
  pub is : BodyOf body view
  pub was_is : was ≡ view.head
  pub head_is : head ≡ head_linked one was
  pub content_is : content ≡ view.content

pub relinked_fits : (body : List ℕ) (view : Record) (was head : Head) (content : Content) (one : Links) → Relinked body view was head content one → NewerFits head.state head.newer → HaveFields one → IsRecord (made head content)
relinked_fits body view was head content one re fits fields =
    let same : head ≡ head_linked one view.head = re.head_is ∙ ap (head_linked one) re.was_is in
    let newer : NewerFits view.head.state one.newer = subst (λ (h : Head). NewerFits h.state h.newer) same fits in
    subst (λ (h : Head). IsRecord (made h content)) (sym same) (record {
      unique = re.is.fits.unique;
      older = fields.0;
      newer = fields.1;
      newer_fits = newer;
      content = subst IsContent (sym re.content_is) re.is.fits.content;
    })

pub relinked_is : (body : List ℕ) (view : Record) (was head : Head) (content : Content) (one : Links) → Relinked body view was head content one → made head content ≡ record_linked one (record_on body)
relinked_is body view was head content one re =
    let same : head ≡ head_linked one view.head = re.head_is ∙ ap (head_linked one) re.was_is in
    ap (λ (h : Head). made h content) same ∙ ap (λ (x : Content). made (head_linked one view.head) x) re.content_is ∙ ap (record_linked one) (sym (record_read body view re.is))

pub read_is : (body : List ℕ) (view : Record) → BodyOf body view → BodyOf body (record_on body)
read_is body view is = subst (BodyOf body) (sym (record_read body view is)) is

-- ---- the records of a page

one_page : (page : List ℕ) (p q : FilePage) → SlotsOf page p → SlotsOf page q → p ≡ q
one_page page p q is at = sym (page_read_is page p is) ∙ page_read_is page q at

-- what stands in a slot of a page that has these records, and how it gets its links
pub record Step (links : List Links) (records : List Record) (n : ℕ) (body : List ℕ) (one : Links) : Type 0 where
  pub r : Record
  pub is : BodyOf body r
  pub within : n < length records
  pub more : records_linked links (take (suc n) records) ≡ records_linked links (take n records) ++ record_linked one r ∷ []
  pub count : length (records_linked links (take n records)) ≡ n
  pub room : length (bodies (map slot_for (records_linked links (take n records)))) + length body ≤ length (bodies (map slot_for records))
  pub may : AllMayHave links records → MayHave one r

pub step : (links : List Links) (records : List Record) (n : ℕ) (body : List ℕ) (one d : Links) → AllByRecursion IsRecord records → slice_index_or (map slot_for records) n None ≡ Some body → n < length links → one ≡ get_or links n d → Step links records n body one
step links [] n body one d are e l is = absurd cc
step [] (r ∷ records) n body one d are e l is = absurd (omega arith)
step (x ∷ links) (r ∷ records) zero body one d are e l is =
    let same : record_bytes r ≡ body = same_Some (record_bytes r) body e in
    record {
      r = r;
      is = record { fits = are.0; spelled = sym same };
      within = omega arith;
      more = ap (λ (y : Links). record_linked y r ∷ []) (sym is);
      count = refl;
      room = omega (arith, ap length same, length-append (record_bytes r) (bodies (map slot_for records)));
      may = λ may. subst (λ (y : Links). MayHave y r) (sym is) may.0;
    }
step (x ∷ links) (r ∷ records) (suc n) body one d are e l is =
    let rest = step links records n body one d are.1 e (omega arith) is in
    record {
      r = rest.r;
      is = rest.is;
      within = omega (arith, rest.within);
      more = ap (λ (rs : List Record). record_linked x r ∷ rs) rest.more;
      count = ap suc rest.count;
      room = omega (arith, rest.room, linked_long x r, length-append (record_bytes (record_linked x r)) (bodies (map slot_for (records_linked links (take n records)))), length-append (record_bytes r) (bodies (map slot_for records)));
      may = λ may. rest.may may.1;
    }

none_vacant : (records : List Record) → vacant_at (map slot_for records) ≡ length (map slot_for records)
none_vacant [] = refl
none_vacant (r ∷ records) = ap suc (none_vacant records)

-- a body that fits behind these records gets a slot
placed : (size : ℕ) (records : List Record) (len : ℕ) → taken (map slot_for records) + (len + 4) ≤ size → Some (length (map slot_for records)) ≡ place_for size (map slot_for records) len
placed size records len fits =
    let n : ℕ = length (map slot_for records) in
    place_some size (map slot_for records) n n 4 len refl (none_vacant records) (sym (ap (λ (b : Bool). if b then 4 else 0) (eq-eqb n n refl))) (omega arith)

-- no slot of such a page is vacant
pub slot_there : (records : List Record) (n : ℕ) → n < length records → slice_index_or (map slot_for records) n None ≡ None → ⊥
slot_there [] n l e = absurd (omega arith)
slot_there (r ∷ records) zero l e = absurd cc
slot_there (r ∷ records) (suc n) l e = slot_there records n (omega arith) e

-- there are links for all of them
pub links_there : (links : List Links) (records : List Record) → AllMayHave links records → length records ≤ length links
links_there links [] may = omega arith
links_there [] (r ∷ records) may = absurd may
links_there (one ∷ links) (r ∷ records) may = omega (arith, links_there links records may.1)

-- a body in a slot is no longer than the page, and has a byte
body_within : (slots : List Slot) (n : ℕ) (body : List ℕ) → slice_index_or slots n None ≡ Some body → length body ≤ length (bodies slots)
body_within [] n body e = absurd cc
body_within (s ∷ slots) zero body e = omega (arith, length-append (body_of s) (bodies slots), ap (λ (t : Slot). length (body_of t)) e)
body_within (s ∷ slots) (suc n) body e = omega (arith, body_within slots n body e, length-append (body_of s) (bodies slots))

pub body_short : (from : List ℕ) (p : FilePage) (n : ℕ) (body : List ℕ) → SlotsOf from p → slice_index_or p.slots n None ≡ Some body → length body ≤ length from
body_short from p n body is e = omega (arith, body_within p.slots n body e, is.fits.room)

-- the first slots of a page are laid on another one, with their links
pub record CopiedTo (from : List ℕ) (links : List Links) (n : ℕ) (into : List ℕ) : Type 0 where
  pub spelled : IsPage into
  pub size : length into ≡ length from
  pub few : n ≤ length links
  pub laid : (file_no : ℕ) (records : List Record) → SlotsOf from (page_of file_no records) → AllByRecursion IsRecord records → SlotsOf into (page_of file_no (records_linked links (take n records)))

pub none_copied : (from : List ℕ) (links : List Links) (into : List ℕ) (p : FilePage) → SlotsOf from p → SlotsOf into (record { file_no = p.file_no; slots = [] }) → length into ≡ length from → CopiedTo from links 0 into
none_copied from links into p is empty size = record {
  spelled = page_is into _ empty;
  size = size;
  few = omega arith;
  laid = λ file_no records at are. subst (λ (k : ℕ). SlotsOf into (page_of k [])) (ap (λ (q : FilePage). q.file_no) (one_page from p (page_of file_no records) is at)) empty;
}

-- what a call that lays one more record promises
abbrev pub LaysLinked : List ℕ → Links → List ℕ → List ℕ → Type 0
LaysLinked body one was now = (file_no : ℕ) (records : List Record) (r : Record) → SlotsOf was (page_of file_no records) → BodyOf body r → SlotsOf now (page_of file_no (records ++ record_linked one r ∷ []))

-- the slot at hand, and the links for it
pub record AtHand (from : List ℕ) (links : List Links) (p : FilePage) (n : ℕ) (body : List ℕ) (one d : Links) : Type 0 where
  pub is : SlotsOf from p
  pub there : slice_index_or p.slots n None ≡ Some body
  pub within : n < length links
  pub one_is : one ≡ get_or links n d

pub copied_more : (from : List ℕ) (links : List Links) (p : FilePage) (n : ℕ) (body : List ℕ) (one d : Links) (into now : List ℕ) → AtHand from links p n body one d → CopiedTo from links n into → IsPage now → length now ≡ length into → LaysLinked body one into now → CopiedTo from links (n + 1) now
copied_more from links p n body one d into now here so page size lays = record {
  spelled = page;
  size = size ∙ so.size;
  few = omega (arith, here.within);
  laid = λ file_no records at are.
      let s = step links records n body one d are (ap (λ (q : FilePage). slice_index_or q.slots n None) (sym (one_page from p (page_of file_no records) here.is at)) ∙ here.there) here.within here.one_is in
      subst (λ (rs : List Record). SlotsOf now (page_of file_no rs)) (sym (ap (λ (k : ℕ). records_linked links (take k records)) (add-one n) ∙ s.more)) (lays file_no (records_linked links (take n records)) s.r (so.laid file_no records at are) s.is);
}

-- where the next record may have its links, it has room
pub room_left : (from : List ℕ) (links : List Links) (p : FilePage) (n : ℕ) (body : List ℕ) (one d : Links) (into : List ℕ) → AtHand from links p n body one d → CopiedTo from links n into
    → ((r : Record) → BodyOf body r → MayHave one r → place_for (length into) (slots_of into) (length body) ≡ None)
    → (file_no : ℕ) (records : List Record) → SlotsOf from (page_of file_no records) → AllByRecursion IsRecord records → AllMayHave links records → ⊥
room_left from links p n body one d into here so none file_no records at are may =
    let s = step links records n body one d are (ap (λ (q : FilePage). slice_index_or q.slots n None) (sym (one_page from p (page_of file_no records) here.is at)) ∙ here.there) here.within here.one_is in
    let laid : List Record = records_linked links (take n records) in
    let fits : taken (map slot_for laid) + (length body + 4) ≤ length into = omega (arith, at.fits.room, s.room, s.count, s.within, so.size, length-map laid slot_for, length-map records slot_for) in
    let some : Some (length (map slot_for laid)) ≡ place_for (length into) (slots_of into) (length body) =
    placed (length into) laid (length body) fits ∙ ap (λ (t : List Slot). place_for (length into) t (length body)) (sym (slots_are into (page_of file_no laid) (so.laid file_no records at are))) in
    let no : Some (length (map slot_for laid)) ≡ None = some ∙ none s.r s.is (s.may may) in
    absurd cc

-- ---- all of them

pub all_counted : (from : List ℕ) (p : FilePage) (file_no : ℕ) (records : List Record) → SlotsOf from p → SlotsOf from (page_of file_no records) → length p.slots ≡ length records
all_counted from p file_no records is at = ap (λ (q : FilePage). length q.slots) (one_page from p (page_of file_no records) is at) ∙ length-map records slot_for

pub all_laid : (from : List ℕ) (links : List Links) (p : FilePage) (n : ℕ) (into : List ℕ) (file_no : ℕ) (records : List Record) → SlotsOf from p → length p.slots ≤ n → CopiedTo from links n into → SlotsOf from (page_of file_no records) → AllByRecursion IsRecord records → SlotsOf into (page_of file_no (records_linked links records))
all_laid from links p n into file_no records is end so at are =
    subst (λ (rs : List Record). SlotsOf into (page_of file_no (records_linked links rs))) (take_all n records (omega (arith, end, all_counted from p file_no records is at))) (so.laid file_no records at are)

-- ---- what can't be on a page of records that may have their links

pub never_vacant : (from : List ℕ) (p : FilePage) (n file_no : ℕ) (records : List Record) → SlotsOf from p → n < length p.slots → None ≡ slice_index_or p.slots n None → SlotsOf from (page_of file_no records) → ⊥
never_vacant from p n file_no records is within none at =
    slot_there records n (omega (arith, within, all_counted from p file_no records is at)) (ap (λ (q : FilePage). slice_index_or q.slots n None) (sym (one_page from p (page_of file_no records) is at)) ∙ sym none)

pub never_without : (from : List ℕ) (links : List Links) (p : FilePage) (n file_no : ℕ) (records : List Record) → SlotsOf from p → n < length p.slots → length links ≤ n → SlotsOf from (page_of file_no records) → AllMayHave links records → ⊥
never_without from links p n file_no records is within few at may =
    absurd (omega (arith, within, few, all_counted from p file_no records is at, links_there links records may))
