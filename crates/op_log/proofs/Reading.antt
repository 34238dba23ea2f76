-- Bytes that are read are the spelling of what was read, and no spelling begins another.
use Rattle.std.proofs.Common.{◌≡◌, ℕ, zero, suc, ◌+◌, ◌-◌, ◌*◌, ◌<◌, ◌≤◌, ◌^◌, refl, List, [], ◌∷◌, ◌++◌, length, take, drop, slice_index, sym, ◌∙◌, ap, subst, arith, append_assoc, zero-add}
use Rattle.std.proofs.lemmas.List.{length-append, append-nil, take-append-drop, take_at, drop_at, drop-drop}
use Rattle.std.proofs.lemmas.Nat.{mul-le}
use Rattle.std.proofs.lemmas.Grind.{flat_map-append}
use Rattle.std.specs.List.{flat_map, AllByRecursion}
use Rattle.ex_base.specs.declared.geometry.Geometry.{Geometry}
use Rattle.ex_base.specs.declared.names.PageNo.{PageNo}
use Rattle.ex_base.specs.declared.names.OpNote.{OpNote}
use Rattle.ex_base.specs.declared.notes.NoteKind.{NoteKind}
use Rattle.ex_base.specs.NoteKinds.{kind_number}
use Rattle.ex_base.specs.Limits.{page_size_most}
use Rattle.ex_base.specs.Bytes.{part, part_joined, length-part, IsBytes}
use Rattle.ex_base.specs.Fields.{field_bytes, length-field_bytes, field_bytes-same, field_bytes-got, number_at, number_at-spelled}
use Rattle.ex_base.proofs.NoteKinds.{one_kind}
use Rattle.ex_base.proofs.Reading.{OneReading, one_list}
use Rattle.op_log.specs.declared.decoding.Head.{Head}
use Rattle.op_log.specs.declared.record.LogRecord.{LogRecord}
use Rattle.op_log.specs.declared.kind.RecordKind.{RecordKind}
use Rattle.op_log.specs.Kinds.{number_of_kind}
use Rattle.page_entries.specs.declared.entry.PageEntry.{PageEntry}
use Rattle.op_log.specs.Records.{note_bytes, entry_bytes, number_bytes, entries_len, record_len, record_body, IsNote}
use Rattle.op_log.specs.Decoding.{FitsEntry, FitsNumber, Shaped, Reads, ReadsEntries, NoEntries, Begins, HasHead}
use Rattle.op_log.specs.Gates.{same_front, part_one, length-notes}
use Rattle.op_log.proofs.EntryLists.{one_entry, one_kind_number, same_entries, entries_part}
use Rattle.op_log.proofs.Validity.{shaped_of}

-- ---- one behind the other

pub run : (b : List ℕ) (at n m : ℕ) (x y : List ℕ) → part b at n ≡ x → part b (at + n) m ≡ y → part b at (n + m) ≡ x ++ y
run b at n m x y one two = part_joined b at n m ∙ ap (λ (l : List ℕ). l ++ part b (at + n) m) one ∙ ap (λ (l : List ℕ). x ++ l) two

pub run_front : (b : List ℕ) (n m : ℕ) (x y : List ℕ) → part b 0 n ≡ x → part b n m ≡ y → part b 0 (n + m) ≡ x ++ y
run_front b n m x y one two = run b 0 n m x y one (ap (λ (p : ℕ). part b p m) (zero-add n) ∙ two)

pub got : (b : List ℕ) (at n value : ℕ) → at + n ≤ length b → IsBytes b → value ≡ number_at n b at → part b at n ≡ field_bytes n value
got b at n value fits bytes is = sym (field_bytes-got b at n fits bytes) ∙ ap (field_bytes n) (sym is)

pub each-push : {A : Type 0} (P : A → Type 0) (xs : List A) (x : A) → AllByRecursion P xs → P x → AllByRecursion P (xs ++ x ∷ [])
each-push P [] x p q = (q, tt)
each-push P (y ∷ xs) x p q = (p.0, each-push P xs x p.1 q)

nothing : (width : ℕ) → width * 0 ≡ 0
nothing width = omega arith

pub reads_none : {A : Type 0} (Fits : A → Type 0) (spell : A → List ℕ) (b : List ℕ) (start width : ℕ) (xs : List A) → xs ≡ [] → Reads Fits spell b start width 0 xs
unfolding part
reads_none Fits spell b start width xs none = record {
  many = ap length none;
  spelled = ap (flat_map spell) none ∙ sym (ap (λ (n : ℕ). part b start n) (nothing width));
  each = subst (AllByRecursion Fits) (sym none) tt;
}

pub reads_next : {A : Type 0} (Fits : A → Type 0) (spell : A → List ℕ) (b : List ℕ) (start width i : ℕ) (xs ys : List A) (x : A) → Reads Fits spell b start width i xs → Fits x → spell x ≡ part b (start + width * i) width → ys ≡ xs ++ x ∷ []
    → Reads Fits spell b start width (i + 1) ys
reads_next Fits spell b start width i xs ys x so_far fits is all =
    let wide : width * (i + 1) ≡ width * i + width = omega arith in
    record {
      many = omega (arith, ap length all, length-append xs (x ∷ []), so_far.many);
      spelled =
          ap (flat_map spell) all
          ∙ flat_map-append spell xs (x ∷ [])
          ∙ ap (λ (l : List ℕ). l ++ flat_map spell (x ∷ [])) so_far.spelled
          ∙ ap (λ (l : List ℕ). part b start (width * i) ++ l) (append-nil (spell x) ∙ is)
          ∙ sym (part_joined b start (width * i) width)
          ∙ ap (λ (n : ℕ). part b start n) (sym wide);
      each = subst (AllByRecursion Fits) (sym all) (each-push Fits xs x so_far.each fits);
    }

-- ---- a record from its parts

pub record_spelled : (g : Geometry) (b : List ℕ) (head : Head) (r : LogRecord) (end : ℕ) → IsBytes b → HasHead b head → r.kind ≡ head.kind → r.txn ≡ head.txn → Reads IsNote note_bytes b 19 31 head.notes r.notes
    → ReadsEntries g.page_size r.kind b (19 + 31 * head.notes) head.pages end r.pages → Reads FitsNumber number_bytes b end 4 head.freed r.freed → end + 4 * head.freed + 1 ≡ head.len
    → (record_len r ≡ head.len) × (part b 0 (head.len - 1) ≡ record_body r)
unfolding record_body
record_spelled g b head r end bytes has kind number notes pages freed ends =
    let o = head.notes in
    let n = entries_len r.kind r.pages in
    let f = head.freed in
    let fits = has.long in
    let end_is = pages.end_is in
    let same : record_len r ≡ head.len = omega (arith, notes.many, end_is, freed.many, ends) in
    let is_kind : slice_index b 0 ≡ number_of_kind r.kind = has.kind ∙ ap number_of_kind (sym kind) in
    let one = run_front b 1 4 (number_of_kind r.kind ∷ []) _ (part_one b 0 (omega (arith, fits, has.room)) ∙ ap (λ (x : ℕ). x ∷ []) is_kind) (got b 1 4 (record_len r) (omega (arith, fits, has.room)) bytes (same ∙ has.len)) in
    let two = run_front b 5 8 _ _ one (got b 5 8 r.txn (omega (arith, fits, has.room)) bytes (number ∙ has.txn)) in
    let three = run_front b 13 2 _ _ two (got b 13 2 (length r.notes) (omega (arith, fits, has.room)) bytes (notes.many ∙ has.notes)) in
    let four = run_front b 15 2 _ _ three (got b 15 2 (length r.pages) (omega (arith, fits, has.room)) bytes (pages.many ∙ has.pages)) in
    let five = run_front b 17 2 _ _ four (got b 17 2 (length r.freed) (omega (arith, fits, has.room)) bytes (freed.many ∙ has.freed)) in
    let six = run_front b 19 (31 * o) _ _ five (sym notes.spelled) in
    let seven = run_front b (19 + 31 * o) n _ _ six (entries_part g.page_size r.kind b (19 + 31 * o) head.pages end r.pages pages) in
    let eight = run_front b (19 + 31 * o + n) (4 * f) _ _ seven (ap (λ (k : ℕ). part b k (4 * f)) (sym end_is) ∙ sym freed.spelled) in
    let whole : head.len - 1 ≡ 19 + 31 * o + n + 4 * f = omega (arith, ends, end_is) in
    (same, ap (λ (k : ℕ). part b 0 k) whole ∙ eight)

-- ---- the note that stands at a place

length-note : (note : OpNote) → length (note_bytes note) ≡ 31
length-note note = simp (length-append, length-field_bytes)

first_apart : (b : List ℕ) (start count : ℕ) (note : OpNote) (notes : List OpNote) → start + 31 * count ≤ length b → Reads IsNote note_bytes b start 31 count (note ∷ notes)
    → (note_bytes note ≡ part b start 31) × Reads IsNote note_bytes b (start + 31) 31 (length notes) notes
first_apart b start count note notes long reads =
    let wide : 31 * count ≡ 31 + 31 * length notes = omega (arith, reads.many) in
    let cut = reads.spelled ∙ ap (λ (n : ℕ). part b start n) wide ∙ part_joined b start 31 (31 * length notes) in
    let fronts = same_front (note_bytes note) (part b start 31) _ _ (length-note note ∙ sym (length-part b start 31 (omega (arith, long, wide)))) cut in
    (fronts.0, record { many = refl; spelled = fronts.1; each = reads.each.1 })

-- Among notes that stand one behind the other each stands at its place.
pub note_there : (b : List ℕ) (start count i : ℕ) (notes : List OpNote) → start + 31 * count ≤ length b → Reads IsNote note_bytes b start 31 count notes → i < count → (note : OpNote) × (note_bytes note ≡ part b (start + 31 * i) 31)
note_there b start count i [] long reads lt = absurd (omega (arith, reads.many))
note_there b start count zero (note ∷ notes) long reads lt =
    let place : start ≡ start + 31 * 0 = omega arith in
    (note, (first_apart b start count note notes long reads).0 ∙ ap (λ (n : ℕ). part b n 31) place)
note_there b start count (suc i) (note ∷ notes) long reads lt =
    let place : start + 31 + 31 * i ≡ start + 31 * suc i = omega arith in
    let there = note_there b (start + 31) (length notes) i notes (omega (arith, long, reads.many)) (first_apart b start count note notes long reads).1 (omega (arith, reads.many, lt)) in
    (there.0, there.1 ∙ ap (λ (n : ℕ). part b n 31) place)

-- ---- no spelling begins another

same_field : (n a b : ℕ) (x y : List ℕ) → a < 256 ^ n → b < 256 ^ n → field_bytes n a ++ x ≡ field_bytes n b ++ y → (a ≡ b) × (x ≡ y)
same_field n a b x y la lb e =
    let fronts = same_front (field_bytes n a) (field_bytes n b) x y (length-field_bytes n a ∙ sym (length-field_bytes n b)) e in
    (field_bytes-same n a b la lb fronts.0, fronts.1)

abbrev made_note : NoteKind → ℕ → ℕ → ℕ → ℕ → ℕ → OpNote
made_note kind page slot unique first second = record { kind = kind; oid = record { page = record { 0 = page }; slot = slot; unique = unique }; first = first; second = second }

note_fields : (n : OpNote) (x : List ℕ) → note_bytes n ++ x ≡ kind_number n.kind ∷ (field_bytes 4 n.oid.page.0 ++ (field_bytes 2 n.oid.slot ++ (field_bytes 8 n.oid.unique ++ (field_bytes 8 n.first ++ (field_bytes 8 n.second ++ x)))))
note_fields n x = simp append_assoc

one_note : OneReading IsNote note_bytes
one_note a b x y p q e =
    let whole : kind_number a.kind ∷ (field_bytes 4 a.oid.page.0 ++ (field_bytes 2 a.oid.slot ++ (field_bytes 8 a.oid.unique ++ (field_bytes 8 a.first ++ (field_bytes 8 a.second ++ x))))) ≡ kind_number b.kind ∷ (field_bytes 4 b.oid.page.0 ++ (field_bytes 2 b.oid.slot ++ (field_bytes 8 b.oid.unique ++ (field_bytes 8 b.first ++ (field_bytes 8 b.second ++ y))))) = sym (note_fields a x) ∙ e ∙ note_fields b y in
    let number : kind_number a.kind ≡ kind_number b.kind = cc in
    let kind = one_kind a.kind b.kind number in
    let page = same_field 4 a.oid.page.0 b.oid.page.0 _ _ p.page q.page (cc) in
    let slot = same_field 2 a.oid.slot b.oid.slot _ _ p.slot q.slot page.1 in
    let unique = same_field 8 a.oid.unique b.oid.unique _ _ p.unique q.unique slot.1 in
    let first = same_field 8 a.first b.first _ _ p.first q.first unique.1 in
    let second = same_field 8 a.second b.second _ _ p.second q.second first.1 in
    let same : made_note a.kind a.oid.page.0 a.oid.slot a.oid.unique a.first a.second ≡ made_note b.kind b.oid.page.0 b.oid.slot b.oid.unique b.first b.second = cc (kind, page.0, slot.0, unique.0, first.0, second.0) in
    (same, second.1)

abbrev made_number : ℕ → PageNo
made_number n = record { 0 = n }

one_number : OneReading FitsNumber number_bytes
one_number a b x y p q e = let same = same_field 4 a.0 b.0 x y p q e in (ap made_number same.0, same.1)

abbrev made_record : RecordKind → ℕ → List OpNote → List PageEntry → List PageNo → LogRecord
made_record kind txn notes pages freed = record { kind = kind; txn = txn; notes = notes; pages = pages; freed = freed }

record_fields : (r : LogRecord) (x : List ℕ) → record_body r ++ x ≡ number_of_kind r.kind ∷ (field_bytes 4 (record_len r) ++ (field_bytes 8 r.txn ++ (field_bytes 2 (length r.notes) ++ (field_bytes 2 (length r.pages) ++ (field_bytes 2 (length r.freed) ++ (flat_map note_bytes r.notes ++ (flat_map (entry_bytes r.kind) r.pages ++ (flat_map number_bytes r.freed ++ x))))))))
unfolding record_body
record_fields r x = simp append_assoc

pub one_record : (g : Geometry) → OneReading (Shaped g) record_body
one_record g a b x y p q e =
    let whole = sym (record_fields a x) ∙ e ∙ record_fields b y in
    let kind_number : number_of_kind a.kind ≡ number_of_kind b.kind = cc in
    let kind = one_kind_number a.kind b.kind kind_number in
    let len = same_front (field_bytes 4 (record_len a)) (field_bytes 4 (record_len b)) _ _ (length-field_bytes 4 (record_len a) ∙ sym (length-field_bytes 4 (record_len b))) (cc) in
    let txn = same_field 8 a.txn b.txn _ _ p.txn q.txn len.1 in
    let notes_count = same_field 2 (length a.notes) (length b.notes) _ _ (omega (arith, p.few_notes)) (omega (arith, q.few_notes)) txn.1 in
    let pages_count = same_field 2 (length a.pages) (length b.pages) _ _ (omega (arith, p.few_pages)) (omega (arith, q.few_pages)) notes_count.1 in
    let freed_count = same_field 2 (length a.freed) (length b.freed) _ _ (omega (arith, p.few_pages)) (omega (arith, q.few_pages)) pages_count.1 in
    let notes = one_list IsNote note_bytes one_note a.notes b.notes _ _ p.notes q.notes notes_count.0 freed_count.1 in
    let pages = one_list (FitsEntry g.page_size a.kind) (entry_bytes a.kind) (one_entry g.page_size a.kind) a.pages b.pages _ (flat_map number_bytes b.freed ++ y) p.entries
    (subst (λ (k : RecordKind). AllByRecursion (FitsEntry g.page_size k) b.pages) (sym kind) q.entries) pages_count.0
    (notes.1 ∙ ap (λ (k : RecordKind). flat_map (entry_bytes k) b.pages ++ (flat_map number_bytes b.freed ++ y)) (sym kind)) in
    let freed = one_list FitsNumber number_bytes one_number a.freed b.freed _ _ p.freed q.freed freed_count.0 pages.1 in
    let same : made_record a.kind a.txn a.notes a.pages a.freed ≡ made_record b.kind b.txn b.notes b.pages b.freed = cc (kind, txn.0, notes.0, pages.0, freed.0) in
    (same, freed.1)

-- ---- the head of a record that stands there

-- what begins with a record, as bytes
pub begins_is : (g : Geometry) (b : List ℕ) (r : LogRecord) → Begins g b r → b ≡ record_body r ++ drop (record_len r - 1) b
begins_is g b r begins = sym (take-append-drop (record_len r - 1) b) ∙ ap (λ (l : List ℕ). l ++ drop (record_len r - 1) b) begins.spelled

-- the numbers that stand there, and what stands behind them
pub record HeaderIs (b : List ℕ) (r : LogRecord) : Type 0 where
  pub kind : slice_index b 0 ≡ number_of_kind r.kind
  pub len_is : record_len r ≡ number_at 4 b 1
  pub txn_is : r.txn ≡ number_at 8 b 5
  pub notes_is : length r.notes ≡ number_at 2 b 13
  pub pages_is : length r.pages ≡ number_at 2 b 15
  pub freed_is : length r.freed ≡ number_at 2 b 17
  pub behind : drop 19 b ≡ flat_map note_bytes r.notes ++ (flat_map (entry_bytes r.kind) r.pages ++ (flat_map number_bytes r.freed ++ drop (record_len r - 1) b))

pub head_of : (g : Geometry) (b : List ℕ) (r : LogRecord) → Begins g b r → HeaderIs b r
head_of g b r begins =
    let is = begins.is_record in
    let whole = begins_is g b r begins ∙ record_fields r (drop (record_len r - 1) b) in
    let kind : slice_index b 0 ≡ number_of_kind r.kind = ap (λ (l : List ℕ). slice_index l 0) whole in
    let len = number_at-spelled b 1 4 (record_len r) _ (ap (drop 1) whole) is.short in
    let txn = number_at-spelled b 5 8 r.txn _ len.1 is.txn in
    let notes = number_at-spelled b 13 2 (length r.notes) _ txn.1 (omega (arith, is.few_notes)) in
    let pages = number_at-spelled b 15 2 (length r.pages) _ notes.1 (omega (arith, is.few_pages)) in
    let freed = number_at-spelled b 17 2 (length r.freed) _ pages.1 (omega (arith, is.few_pages)) in
    record { kind = kind; len_is = sym len.0; txn_is = sym txn.0; notes_is = sym notes.0; pages_is = sym pages.0; freed_is = sym freed.0; behind = freed.1 }

-- and so its notes stand there
pub notes_there : (g : Geometry) (b : List ℕ) (r : LogRecord) (count : ℕ) → Begins g b r → count ≡ number_at 2 b 13 → Reads IsNote note_bytes b 19 31 count r.notes
unfolding part
notes_there g b r count begins is =
    let head = head_of g b r begins in
    let many : length r.notes ≡ count = head.notes_is ∙ sym is in
    record {
      many = many;
      spelled = sym (ap (take (31 * count)) head.behind ∙ take_at (flat_map note_bytes r.notes) _ (31 * count) (omega (arith, length-notes r.notes, many)));
      each = begins.is_record.notes;
    }

-- and so do its entries, where its notes end
pub entries_there : (g : Geometry) (b : List ℕ) (r : LogRecord) (o : ℕ) → Begins g b r → o ≡ number_at 2 b 13
    → drop (19 + 31 * o) b ≡ flat_map (entry_bytes r.kind) r.pages ++ (flat_map number_bytes r.freed ++ drop (record_len r - 1) b)
entries_there g b r o begins is =
    let head = head_of g b r begins in
    let many : length (flat_map note_bytes r.notes) ≡ 31 * o = omega (arith, length-notes r.notes, head.notes_is, is) in
    sym (drop-drop (31 * o) 19 b) ∙ ap (drop (31 * o)) head.behind ∙ drop_at (flat_map note_bytes r.notes) _ (31 * o) many

pub kind_there : (g : Geometry) (b : List ℕ) (r : LogRecord) (kind : RecordKind) → Begins g b r → slice_index b 0 ≡ number_of_kind kind → r.kind ≡ kind
kind_there g b r kind begins is = one_kind_number r.kind kind (sym (head_of g b r begins).kind ∙ is)

-- the length at the head of a record that stands there is its own, and its notes lie inside
pub header_len : (g : Geometry) (b : List ℕ) (r : LogRecord) (o len : ℕ) → Begins g b r → len ≡ number_at 4 b 1 → o ≡ number_at 2 b 13 → (len ≡ record_len r) × (19 + 31 * o ≤ len)
header_len g b r o len begins len_is notes_is =
    let head = head_of g b r begins in
    let whole : len ≡ record_len r = len_is ∙ sym head.len_is in
    (whole, omega (arith, whole, notes_is, head.notes_is))

pub none_there : (g : Geometry) (b : List ℕ) (head : Head) (r : LogRecord) → HasHead b head → NoEntries g.page_size head.kind b (19 + 31 * head.notes) head.pages → Begins g b r → ⊥
none_there g b head r has none begins =
    let kind = kind_there g b r head.kind begins has.kind in
    none r.pages (flat_map number_bytes r.freed ++ drop (record_len r - 1) b) ((head_of g b r begins).pages_is ∙ sym has.pages)
    (subst (λ (k : RecordKind). AllByRecursion (FitsEntry g.page_size k) r.pages) kind (shaped_of g r begins.is_record).entries)
    (entries_there g b r head.notes begins has.notes ∙ ap (λ (k : RecordKind). flat_map (entry_bytes k) r.pages ++ (flat_map number_bytes r.freed ++ drop (record_len r - 1) b)) kind)

-- a record that stands there has the entries that were read, and so its length
pub whole_there : (g : Geometry) (b : List ℕ) (head : Head) (r : LogRecord) (end : ℕ) (pages : List PageEntry) → HasHead b head → ReadsEntries g.page_size head.kind b (19 + 31 * head.notes) head.pages end pages → Begins g b r
    → end + 4 * head.freed + 1 ≡ head.len
whole_there g b head r end pages has reads begins =
    let mine = head_of g b r begins in
    let kind = kind_there g b r head.kind begins has.kind in
    let reads' = subst (λ (k : RecordKind). ReadsEntries g.page_size k b (19 + 31 * head.notes) head.pages end pages) (sym kind) reads in
    let same : pages ≡ r.pages = same_entries g.page_size r.kind b (19 + 31 * head.notes) head.pages end pages r.pages _ reads' (mine.pages_is ∙ sym has.pages) (shaped_of g r begins.is_record).entries (entries_there g b r head.notes begins has.notes) in
    omega (arith, reads'.end_is, ap (entries_len r.kind) same, has.len, mine.len_is, has.notes, mine.notes_is, has.freed, mine.freed_is)

-- what is read, whether it is a record of the log or not
pub record Built (g : Geometry) (b : List ℕ) (r : LogRecord) : Type 0 where
  pub shaped : Shaped g r
  pub long : record_len r ≤ length b
  pub spelled : take (record_len r - 1) b ≡ record_body r

pub built : (g : Geometry) (b : List ℕ) (head : Head) (r : LogRecord) (end : ℕ) → IsBytes b → HasHead b head → r.kind ≡ head.kind → r.txn ≡ head.txn → Reads IsNote note_bytes b 19 31 head.notes r.notes
    → ReadsEntries g.page_size r.kind b (19 + 31 * head.notes) head.pages end r.pages → Reads FitsNumber number_bytes b end 4 head.freed r.freed → end + 4 * head.freed + 1 ≡ head.len → Built g b r
unfolding part
built g b head r end bytes has kind number notes pages freed ends =
    let spelled = record_spelled g b head r end bytes has kind number notes pages freed ends in
    record {
      shaped = record {
        txn = omega (arith, number, has.small);
        few_notes = omega (arith, notes.many, has.few_notes);
        few_pages = omega (arith, pages.many, freed.many, has.few_pages);
        notes = notes.each;
        entries = pages.each;
        freed = freed.each;
        short = omega (arith, spelled.0, has.short);
      };
      long = omega (arith, spelled.0, has.long);
      spelled = ap (λ (n : ℕ). take (n - 1) b) spelled.0 ∙ spelled.1;
    }

pub built_same : (g : Geometry) (b : List ℕ) (r s : LogRecord) → Built g b r → Begins g b s → r ≡ s
built_same g b r s here begins =
    let mine : b ≡ record_body r ++ drop (record_len r - 1) b = sym (take-append-drop (record_len r - 1) b) ∙ ap (λ (l : List ℕ). l ++ drop (record_len r - 1) b) here.spelled in
    (one_record g r s (drop (record_len r - 1) b) (drop (record_len s - 1) b) here.shaped (shaped_of g s begins.is_record) (sym mine ∙ begins_is g b s begins)).0
