-- A page reads as an index page exactly where it is the page of a level, a file and a list of entries.
use Rattle.std.proofs.Common.{◌≡◌, ℕ, zero, suc, ◌+◌, ◌-◌, ◌*◌, ◌^◌, ◌<◌, ◌≤◌, List, [], ◌∷◌, ◌++◌, length, take, drop, Some, refl, sym, ap, subst, ◌∙◌, arith, append_assoc}
use Rattle.std.specs.Prelude.{slice_index, slice_get}
use Rattle.std.specs.List.{flat_map}
use Rattle.std.proofs.lemmas.List.{drop-drop, drop_at, length-append, length-drop, length-take, length-replicate, take-append-drop}
use Rattle.ex_base.specs.Fields.{two_bytes, four_bytes, zeros, number_at, AreZero}
use Rattle.ex_base.proofs.FieldLaws.{IsBytes-drop, two_is, four_is, number_at-drop}
use Rattle.ex_base.proofs.Places.{zero_run, zeros_are}
use Rattle.ex_base.proofs.Lists.{front_two}
use Rattle.ex_base.specs.Bytes.{IsBytes}
use Rattle.file_index.specs.declared.Entry.{Entry}
use Rattle.file_index.specs.IndexPage.{entry_bytes, entry_at, read_entries, RiseFrom, IsIndexPage, EntriesOf, Indexed, indexed_on, index_page, level_on, file_on, entries_on, head_bytes}
use Rattle.file_index.specs.Reads.{PageReads}
use Rattle.file_index.proofs.EntryLaws.{entries_again, entries_back, fields_read, length-entries, length-read_entries}
use Rattle.file_index.proofs.WriteLaws.{length-head}

-- ---- the fields of an index page

-- what stands behind the head
abbrev tail_of : ℕ → List Entry → List ℕ
tail_of size entries = flat_map entry_bytes entries ++ zeros (size - (16 + 8 * length entries))

abbrev spread_page : ℕ → ℕ → ℕ → List Entry → List ℕ
spread_page size level file_no entries = head_bytes level file_no (length entries) ++ tail_of size entries

page_fields : (size level file_no : ℕ) (entries : List Entry) → index_page size level file_no entries ≡ spread_page size level file_no entries
unfolding index_page
page_fields size level file_no entries =
    let head : List ℕ = head_bytes level file_no (length entries) in
    let len : length (head_bytes level file_no (length entries) ++ flat_map entry_bytes entries) ≡ 16 + 8 * length entries =
    omega (arith, length-append (head_bytes level file_no (length entries)) (flat_map entry_bytes entries), length-head level file_no (length entries), length-entries entries) in
    ap (λ (k : ℕ). (head_bytes level file_no (length entries) ++ flat_map entry_bytes entries) ++ zeros (size - k)) len ∙ append_assoc (head_bytes level file_no (length entries)) (flat_map entry_bytes entries) (zeros (size - (16 + 8 * length entries)))

length-spread : (size level file_no : ℕ) (entries : List Entry) → length (spread_page size level file_no entries) ≡ 16 + 8 * length entries + (size - (16 + 8 * length entries))
length-spread size level file_no entries = omega (arith, length-append (head_bytes level file_no (length entries)) (tail_of size entries), length-head level file_no (length entries), length-append (flat_map entry_bytes entries) (zeros (size - (16 + 8 * length entries))), length-entries entries, length-replicate {A = ℕ} (size - (16 + 8 * length entries)) 0)

behind_head : (size level file_no : ℕ) (entries : List Entry) → drop 16 (spread_page size level file_no entries) ≡ tail_of size entries
behind_head size level file_no entries = drop_at (head_bytes level file_no (length entries)) (tail_of size entries) 16 (length-head level file_no (length entries))

-- a head of four fields, taken apart at each
cut_two : (a b c d t : List ℕ) → (a ++ (b ++ (c ++ d))) ++ t ≡ a ++ (b ++ (c ++ (d ++ t)))
cut_two a b c d t = simp append_assoc

cut_four : (a b c d t : List ℕ) → (a ++ (b ++ (c ++ d))) ++ t ≡ (a ++ b) ++ (c ++ (d ++ t))
cut_four a b c d t = simp append_assoc

cut_six : (a b c d t : List ℕ) → (a ++ (b ++ (c ++ d))) ++ t ≡ ((a ++ b) ++ c) ++ (d ++ t)
cut_six a b c d t = simp append_assoc

at_four : (size level file_no : ℕ) (entries : List Entry) → drop 4 (spread_page size level file_no entries) ≡ zeros 4 ++ (four_bytes file_no ++ (zeros 4 ++ tail_of size entries))
at_four size level file_no entries =
    ap (λ (t : List ℕ). drop 2 t) (cut_two (two_bytes (length entries)) (zeros 4) (four_bytes file_no) (zeros 4) (tail_of size entries))
    ∙ drop_at (two_bytes (length entries)) (zeros 4 ++ (four_bytes file_no ++ (zeros 4 ++ tail_of size entries))) 2 (two_is.len (length entries))

at_eight : (size level file_no : ℕ) (entries : List Entry) → drop 8 (spread_page size level file_no entries) ≡ four_bytes file_no ++ (zeros 4 ++ tail_of size entries)
at_eight size level file_no entries =
    ap (λ (t : List ℕ). drop 6 t) (cut_four (two_bytes (length entries)) (zeros 4) (four_bytes file_no) (zeros 4) (tail_of size entries))
    ∙ drop_at (two_bytes (length entries) ++ zeros 4) (four_bytes file_no ++ (zeros 4 ++ tail_of size entries)) 6 (omega (arith, length-append (two_bytes (length entries)) (zeros 4), two_is.len (length entries)))

at_twelve : (size level file_no : ℕ) (entries : List Entry) → drop 12 (spread_page size level file_no entries) ≡ zeros 4 ++ tail_of size entries
at_twelve size level file_no entries =
    ap (λ (t : List ℕ). drop 10 t) (cut_six (two_bytes (length entries)) (zeros 4) (four_bytes file_no) (zeros 4) (tail_of size entries))
    ∙ drop_at ((two_bytes (length entries) ++ zeros 4) ++ four_bytes file_no) (zeros 4 ++ tail_of size entries) 10 (omega (arith, length-append (two_bytes (length entries) ++ zeros 4) (four_bytes file_no), length-append (two_bytes (length entries)) (zeros 4), two_is.len (length entries), four_is.len file_no))

gap_of : (size level file_no : ℕ) (entries : List Entry) → take 4 (drop 4 (spread_page size level file_no entries)) ≡ zeros 4
gap_of size level file_no entries = ap (λ (t : List ℕ). take 4 t) (at_four size level file_no entries)

second_gap_of : (size level file_no : ℕ) (entries : List Entry) → take 4 (drop 12 (spread_page size level file_no entries)) ≡ zeros 4
second_gap_of size level file_no entries = ap (λ (t : List ℕ). take 4 t) (at_twelve size level file_no entries)

count_read : (size level file_no : ℕ) (entries : List Entry) → length entries < 2 ^ 16 → number_at 2 (spread_page size level file_no entries) 2 ≡ length entries
count_read size level file_no entries lt =
    number_at-drop 2 (spread_page size level file_no entries) 2
    ∙ ap (λ (t : List ℕ). number_at 2 t 0) (cut_two (two_bytes (length entries)) (zeros 4) (four_bytes file_no) (zeros 4) (tail_of size entries))
    ∙ two_is.again (length entries) _ lt

file_read : (size level file_no : ℕ) (entries : List Entry) → file_no < 2 ^ 32 → number_at 4 (spread_page size level file_no entries) 8 ≡ file_no
file_read size level file_no entries lt =
    number_at-drop 4 (spread_page size level file_no entries) 8
    ∙ ap (λ (t : List ℕ). number_at 4 t 0) (at_eight size level file_no entries)
    ∙ four_is.again file_no _ lt

-- ---- a page of entries reads as an index page, with these entries

pub record ReadsAs (page : List ℕ) (level file_no : ℕ) (entries : List Entry) : Type 0 where
  pub reads : PageReads page
  pub same_level : level_on page ≡ level
  pub same_file : file_on page ≡ file_no
  pub same_entries : entries_on page ≡ entries

spread_reads : (size level file_no : ℕ) (entries : List Entry) → IsIndexPage size level file_no entries → size ≡ length (spread_page size level file_no entries) → ReadsAs (spread_page size level file_no entries) level file_no entries
unfolding level_on file_on entries_on
spread_reads size level file_no entries fits len =
    let n : number_at 2 (spread_page size level file_no entries) 2 ≡ length entries = count_read size level file_no entries fits.few in
    let all : size ≡ 16 + 8 * length entries + (size - (16 + 8 * length entries)) = len ∙ length-spread size level file_no entries in
    let tail : drop 16 (spread_page size level file_no entries) ≡ tail_of size entries = behind_head size level file_no entries in
    let entries_are : read_entries (number_at 2 (spread_page size level file_no entries) 2) (drop 16 (spread_page size level file_no entries)) ≡ entries =
    ap (λ (k : ℕ). read_entries k (drop 16 (spread_page size level file_no entries))) n ∙ ap (read_entries (length entries)) tail ∙ entries_again entries _ fits.fields in
    let behind : drop (16 + 8 * length entries) (spread_page size level file_no entries) ≡ zeros (size - (16 + 8 * length entries)) =
    sym (drop-drop (8 * length entries) 16 (spread_page size level file_no entries)) ∙ ap (λ (t : List ℕ). drop (8 * length entries) t) tail ∙ drop_at (flat_map entry_bytes entries) _ (8 * length entries) (length-entries entries) in
    record {
      reads = record {
        long = omega (arith, len, all);
        kind = refl;
        inner = fits.inner;
        gap = subst AreZero (sym (gap_of size level file_no entries)) (zeros_are 4);
        second_gap = subst AreZero (sym (second_gap_of size level file_no entries)) (zeros_are 4);
        some = omega (arith, n, fits.some);
        room = omega (arith, n, len, all);
        rising = subst (RiseFrom 0) (sym entries_are) fits.rising;
        rest = subst AreZero (sym (ap (λ (k : ℕ). drop (16 + 8 * k) (spread_page size level file_no entries)) n ∙ behind)) (zeros_are (size - (16 + 8 * length entries)));
      };
      same_level = refl;
      same_file = file_read size level file_no entries fits.number;
      same_entries = entries_are;
    }

pub spelled_reads : (page : List ℕ) (level file_no : ℕ) (entries : List Entry) → EntriesOf page level file_no entries → ReadsAs page level file_no entries
spelled_reads page level file_no entries h =
    let is : page ≡ spread_page (length page) level file_no entries = h.spelled ∙ page_fields (length page) level file_no entries in
    let len : length page ≡ length (spread_page (length page) level file_no entries) = ap length is in
    subst (λ (p : List ℕ). ReadsAs p level file_no entries) (sym is) (spread_reads (length page) level file_no entries h.fits len)

-- ---- what reads as an index page is the page of what is read

-- a run of a list, and what stands behind it
run : (at n next : ℕ) (page : List ℕ) → at + n ≡ next → drop at page ≡ take n (drop at page) ++ drop next page
run at n next page is =
    sym (ap (λ (t : List ℕ). take n (drop at page) ++ t) (sym (ap (λ (k : ℕ). drop k page) is) ∙ sym (drop-drop n at page)) ∙ take-append-drop n (drop at page))

joined : (x y : ℕ) (two gap file second body rest t4 t8 t12 t16 t2 page : List ℕ) → page ≡ (x ∷ y ∷ []) ++ t2 → t2 ≡ two ++ t4 → t4 ≡ gap ++ t8 → t8 ≡ file ++ t12 → t12 ≡ second ++ t16 → t16 ≡ body ++ rest
    → page ≡ ((x ∷ y ∷ []) ++ (two ++ (gap ++ (file ++ second)))) ++ (body ++ rest)
joined x y two gap file second body rest t4 t8 t12 t16 t2 page a b c d e f =
    a ∙ ap (λ (t : List ℕ). (x ∷ y ∷ []) ++ t) (b ∙ ap (λ (t : List ℕ). two ++ t) (c ∙ ap (λ (t : List ℕ). gap ++ t) (d ∙ ap (λ (t : List ℕ). file ++ t) (e ∙ ap (λ (t : List ℕ). second ++ t) f))))
    ∙ sym (ap (λ (t : List ℕ). x ∷ y ∷ t) (cut_two two gap file second (body ++ rest)))

pub reads_spelled : (page : List ℕ) → IsBytes page → PageReads page → EntriesOf page (level_on page) (file_on page) (entries_on page)
unfolding level_on file_on entries_on
reads_spelled page fits h =
    let n : ℕ = number_at 2 page 2 in
    let count : length (read_entries (number_at 2 page 2) (drop 16 page)) ≡ number_at 2 page 2 = length-read_entries (number_at 2 page 2) (drop 16 page) in
    let head : take 2 page ≡ 4 ∷ slice_index page 1 ∷ [] = front_two page (omega (arith, h.long)) ∙ ap (λ (b : ℕ). b ∷ slice_index page 1 ∷ []) h.kind in
    let number : take 2 (drop 2 page) ≡ two_bytes (length (read_entries (number_at 2 page 2) (drop 16 page))) =
    sym (two_is.back (drop 2 page) (omega (arith, length-drop 2 page, h.long)) (IsBytes-drop 2 page fits)) ∙ ap two_bytes (sym (number_at-drop 2 page 2) ∙ sym count) in
    let gap_len : length (take 4 (drop 4 page)) ≡ 4 = omega (arith, length-take 4 (drop 4 page), length-drop 4 page, h.long) in
    let gap : take 4 (drop 4 page) ≡ zeros 4 = zero_run (take 4 (drop 4 page)) h.gap ∙ ap zeros gap_len in
    let file : take 4 (drop 8 page) ≡ four_bytes (number_at 4 page 8) =
    sym (four_is.back (drop 8 page) (omega (arith, length-drop 8 page, h.long)) (IsBytes-drop 8 page fits)) ∙ ap four_bytes (sym (number_at-drop 4 page 8)) in
    let second_len : length (take 4 (drop 12 page)) ≡ 4 = omega (arith, length-take 4 (drop 12 page), length-drop 12 page, h.long) in
    let second : take 4 (drop 12 page) ≡ zeros 4 = zero_run (take 4 (drop 12 page)) h.second_gap ∙ ap zeros second_len in
    let body : take (8 * number_at 2 page 2) (drop 16 page) ≡ flat_map entry_bytes (read_entries (number_at 2 page 2) (drop 16 page)) = sym (entries_back (number_at 2 page 2) (drop 16 page) (omega (arith, length-drop 16 page, h.room)) (IsBytes-drop 16 page fits)) in
    let rest_len : length (drop (16 + 8 * number_at 2 page 2) page) ≡ length page - (16 + 8 * length (read_entries (number_at 2 page 2) (drop 16 page))) = omega (arith, length-drop (16 + 8 * number_at 2 page 2) page, count) in
    let rest : drop (16 + 8 * number_at 2 page 2) page ≡ zeros (length page - (16 + 8 * length (read_entries (number_at 2 page 2) (drop 16 page)))) = zero_run _ h.rest ∙ ap zeros rest_len in
    let few : number_at 2 page 2 < 2 ^ 16 = two_is.below page 2 fits in
    record {
      fits = record {
        inner = h.inner;
        byte = fits 1;
        number = four_is.below page 8 fits;
        some = omega (arith, count, h.some);
        few = omega (arith, count, few);
        room = omega (arith, count, h.room);
        rising = h.rising;
        fields = fields_read _ _ (IsBytes-drop 16 page fits);
      };
      spelled = joined 4 (slice_index page 1) (two_bytes (length (read_entries (number_at 2 page 2) (drop 16 page)))) (zeros 4) (four_bytes (number_at 4 page 8)) (zeros 4)
          (flat_map entry_bytes (read_entries (number_at 2 page 2) (drop 16 page))) (zeros (length page - (16 + 8 * length (read_entries (number_at 2 page 2) (drop 16 page)))))
          (drop 4 page) (drop 8 page) (drop 12 page) (drop 16 page) (drop 2 page) page
          (run 0 2 2 page refl ∙ ap (λ (t : List ℕ). t ++ drop 2 page) head)
          (run 2 2 4 page refl ∙ ap (λ (t : List ℕ). t ++ drop 4 page) number)
          (run 4 4 8 page refl ∙ ap (λ (t : List ℕ). t ++ drop 8 page) gap)
          (run 8 4 12 page refl ∙ ap (λ (t : List ℕ). t ++ drop 12 page) file)
          (run 12 4 16 page refl ∙ ap (λ (t : List ℕ). t ++ drop 16 page) second)
          (run 16 (8 * number_at 2 page 2) (16 + 8 * number_at 2 page 2) page refl ∙ ap (λ (t : List ℕ). t ++ drop (16 + 8 * number_at 2 page 2) page) body ∙ ap (λ (t : List ℕ). flat_map entry_bytes (read_entries (number_at 2 page 2) (drop 16 page)) ++ t) rest)
          ∙ sym (page_fields (length page) (slice_index page 1) (number_at 4 page 8) (read_entries (number_at 2 page 2) (drop 16 page)));
    }

-- ---- what a view knows

abbrev pub Viewed : List ℕ → Type 0
Viewed page = (1 ≤ length (entries_on page)) × (16 + 8 * length (entries_on page) ≤ length page) × RiseFrom 0 (entries_on page)

pub viewed : (page : List ℕ) → PageReads page → Viewed page
unfolding entries_on
viewed page h =
    let count : length (read_entries (number_at 2 page 2) (drop 16 page)) ≡ number_at 2 page 2 = length-read_entries (number_at 2 page 2) (drop 16 page) in
    (omega (arith, count, h.some), omega (arith, count, h.room), h.rising)

pub length-entries_on : (page : List ℕ) → length (entries_on page) ≡ number_at 2 page 2
unfolding entries_on
length-entries_on page = length-read_entries (number_at 2 page 2) (drop 16 page)

pub file_is : (page : List ℕ) → number_at 4 page 8 ≡ file_on page
unfolding file_on
file_is page = refl

pub level_is : (page : List ℕ) → slice_index page 1 ≡ level_on page
unfolding level_on
level_is page = refl

entry_here : (n index : ℕ) (bytes : List ℕ) → index < n → slice_get (read_entries n bytes) index ≡ Some (entry_at (drop (8 * index) bytes))
entry_here zero index bytes lt = absurd (omega arith)
entry_here (suc n) zero bytes lt = refl
entry_here (suc n) (suc index) bytes lt =
    let at : 8 + 8 * index ≡ 8 * suc index = omega arith in
    entry_here n index (drop 8 bytes) (omega arith) ∙ ap (λ (t : List ℕ). Some (entry_at t)) (drop-drop (8 * index) 8 bytes ∙ ap (λ (k : ℕ). drop k bytes) at)

abbrev made_entry : ℕ → ℕ → Entry
made_entry count page = record { key = count; page = record { 0 = page } }

pub entry_on : (page : List ℕ) (index : ℕ) → index < length (entries_on page) → slice_get (entries_on page) index ≡ Some (made_entry (number_at 4 page (16 + 8 * index)) (number_at 4 page (16 + 8 * index + 4)))
unfolding entries_on
entry_on page index lt =
    let n : index < number_at 2 page 2 = omega (arith, length-read_entries (number_at 2 page 2) (drop 16 page)) in
    let at : drop (8 * index) (drop 16 page) ≡ drop (16 + 8 * index) page = drop-drop (8 * index) 16 page in
    let count : number_at 4 (drop (16 + 8 * index) page) 0 ≡ number_at 4 page (16 + 8 * index) = sym (number_at-drop 4 page (16 + 8 * index)) in
    let four : number_at 4 (drop (16 + 8 * index) page) 4 ≡ number_at 4 page (16 + 8 * index + 4) =
    number_at-drop 4 (drop (16 + 8 * index) page) 4 ∙ ap (λ (t : List ℕ). number_at 4 t 0) (drop-drop 4 (16 + 8 * index) page) ∙ sym (number_at-drop 4 page (16 + 8 * index + 4)) in
    entry_here (number_at 2 page 2) index (drop 16 page) n ∙ ap (λ (t : List ℕ). Some (entry_at t)) at ∙ ap (λ (c : ℕ). Some (made_entry c (number_at 4 (drop (16 + 8 * index) page) 4))) count ∙ ap (λ (c : ℕ). Some (made_entry (number_at 4 page (16 + 8 * index)) c)) four

pub entry_given : (page : List ℕ) (view : Indexed) (index count child : ℕ) → indexed_on page ≡ view → index < length view.entries → count ≡ number_at 4 page (16 + 8 * index) → child ≡ number_at 4 page (16 + 8 * index + 4) → slice_get view.entries index ≡ Some (made_entry count child)
entry_given page view index count child is lt a b =
    subst (λ (n : Indexed). index < length n.entries → slice_get n.entries index ≡ Some (made_entry count child)) is
    (λ here. entry_on page index here ∙ ap (λ (x : ℕ). Some (made_entry x (number_at 4 page (16 + 8 * index + 4)))) (sym a) ∙ ap (λ (x : ℕ). Some (made_entry count x)) (sym b)) lt

take_next : (entries : List Entry) (index : ℕ) (entry : Entry) → slice_get entries index ≡ Some entry → take (index + 1) entries ≡ take index entries ++ entry ∷ []
take_next [] index entry e = absurd cc
take_next (x ∷ entries) zero entry e = let same : x ≡ entry = cc in ap (λ (y : Entry). y ∷ []) same
take_next (x ∷ entries) (suc index) entry e =
    let count : suc index + 1 ≡ suc (index + 1) = omega arith in
    ap (λ (k : ℕ). take k (x ∷ entries)) count ∙ ap (λ (t : List Entry). x ∷ t) (take_next entries index entry e)

pub take_one_more : (entries so_far more : List Entry) (index : ℕ) (entry : Entry) → slice_get entries index ≡ Some entry → so_far ≡ take index entries → more ≡ so_far ++ entry ∷ [] → more ≡ take (index + 1) entries
take_one_more entries so_far more index entry e is next = next ∙ ap (λ (t : List Entry). t ++ entry ∷ []) is ∙ sym (take_next entries index entry e)

-- a page that its entries fit is as long as it is to be
pub page_length : (size level file_no : ℕ) (entries : List Entry) → 16 + 8 * length entries ≤ size → length (index_page size level file_no entries) ≡ size
page_length size level file_no entries room = ap length (page_fields size level file_no entries) ∙ length-spread size level file_no entries ∙ (omega arith)

-- an index page that was written is read again
pub written_reads : (size level file_no : ℕ) (entries : List Entry) → IsIndexPage size level file_no entries → EntriesOf (index_page size level file_no entries) level file_no entries
written_reads size level file_no entries fits =
    let len : length (index_page size level file_no entries) ≡ size = page_length size level file_no entries fits.room in
    record {
      fits = subst (λ (k : ℕ). IsIndexPage k level file_no entries) (sym len) fits;
      spelled = ap (λ (k : ℕ). index_page k level file_no entries) (sym len);
    }
