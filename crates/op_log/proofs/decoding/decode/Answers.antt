use Rattle.std.proofs.Common.{◌≡◌, ◌+◌, ◌*◌, ◌∙◌, ℕ, List, sym, subst, ap, arith, refl}
use Rattle.std.proofs.lemmas.Bool.{false≢true}
use Rattle.ex_base.specs.Bytes.{IsBytes}
use Rattle.ex_base.specs.declared.names.OpNote.{OpNote}
use Rattle.op_log.specs.declared.record.LogRecord.{LogRecord}
use Rattle.op_log.specs.Records.{IsLogRecord, IsNote, note_bytes, entries_len}
use Rattle.op_log.specs.Decoding.{Reads, ReadsEntries}
use Rattle.page_entries.specs.declared.entry.PageEntry.{PageEntry}
use Rattle.op_log.proofs.Reading.{Built, built, built_same, notes_there, none_there, whole_there}
use Rattle.op_log.proofs.decoding.decode.Goals as goal
use Rattle.op_log.proofs.decoding.decode.Goals.{After-is_valid}

item_of : After-is_valid → LogRecord
item_of c = record { kind = c.in-Some.head.kind; txn = c.in-Some.head.txn; notes = c.notes.inside.items.items; pages = c.pages.inside.items.items; freed = c.in_ok-read_numbers.field-0 }

-- what was read, whether it is a record or not
made : (c : After-is_valid) → Built c.args.geometry.now c.args.bytes.now (item_of c)
unfolding item_of
made c =
    let size = c.args.geometry.now.page_size in
    let b = c.args.bytes.now in
    let head = c.in-Some.head in
    let has = c.in-Some.ensures in
    let bytes : IsBytes b = λ i. omega (arith, c.type_inv.bytes i) in
    let notes : Reads IsNote note_bytes b 19 31 head.notes c.in-Some-2.notes = rw c.in-Some-2.is at c.in_ok-notes.ensures in
    let pages : ReadsEntries size head.kind b (19 + 31 * head.notes) head.pages (19 + 31 * head.notes + entries_len head.kind c.in-Some-3.pages) c.in-Some-3.pages = rw c.in-Some-3.is at c.in_ok-pages.ensures in
    let same : c.entries_len.result ≡ entries_len head.kind c.in-Some-3.pages = omega (arith, c.entries_len.ensures, ap (entries_len head.kind) c.as_slice.ensures, c.if-freed_at-head.false, has.short) in
    let here : ReadsEntries size head.kind b (19 + 31 * head.notes) head.pages (19 + 31 * head.notes + c.entries_len.result) c.in-Some-3.pages =
    subst (λ (n : ℕ). ReadsEntries size head.kind b (19 + 31 * head.notes) head.pages (19 + 31 * head.notes + n) c.in-Some-3.pages) (sym same) pages in
    built c.args.geometry.now b head (item_of c) (19 + 31 * head.notes + c.entries_len.result) bytes has refl refl
    (subst (λ (ns : List OpNote). Reads IsNote note_bytes b 19 31 head.notes ns) (sym c.notes.view_is) notes)
    (subst (λ (es : List PageEntry). ReadsEntries size head.kind b (19 + 31 * head.notes) head.pages (19 + 31 * head.notes + c.entries_len.result) es) (sym c.pages.view_is) here)
    c.in_ok-read_numbers.ensures c.if-freed_at-head.false

pub returns-then-is_valid : goal.returns-then-is_valid
unfolding item_of
returns-then-is_valid c =
    let here = made (goal.at.returns-then-is_valid c).After-is_valid in record { is_record = c.is_valid.ensures.0 c.if-is_valid.true; long = here.long; spelled = here.spelled }

pub returns-else-is_valid : goal.returns-else-is_valid
unfolding item_of
returns-else-is_valid c r begins =
    let g = c.args.geometry.now in
    let here = made (goal.at.returns-else-is_valid c).After-is_valid in
    let same = built_same g c.args.bytes.now (item_of (goal.at.returns-else-is_valid c).After-is_valid) r here begins in
    let valid = c.is_valid.ensures.1 (subst (λ (s : LogRecord). IsLogRecord g s) (sym same) begins.is_record) in
    false≢true (sym c.if-is_valid.false ∙ valid)

pub returns-in_default-2 : goal.returns-in_default-2
returns-in_default-2 c r begins = (rw c.in_default-2.is at c.in_ok-notes.ensures) r.notes (notes_there c.args.geometry.now c.args.bytes.now r c.in-Some.head.notes begins c.in-Some.ensures.notes)

pub returns-in_default-3 : goal.returns-in_default-3
returns-in_default-3 c r begins = none_there c.args.geometry.now c.args.bytes.now c.in-Some.head r c.in-Some.ensures (rw c.in_default-3.is at c.in_ok-pages.ensures) begins

pub returns-then-freed_at-head : goal.returns-then-freed_at-head
returns-then-freed_at-head c r begins =
    let head = c.in-Some.head in
    let has = c.in-Some.ensures in
    let pages : ReadsEntries c.args.geometry.now.page_size head.kind c.args.bytes.now (19 + 31 * head.notes) head.pages (19 + 31 * head.notes + entries_len head.kind c.in-Some-3.pages) c.in-Some-3.pages = rw c.in-Some-3.is at c.in_ok-pages.ensures in
    let whole = whole_there c.args.geometry.now c.args.bytes.now head r (19 + 31 * head.notes + entries_len head.kind c.in-Some-3.pages) c.in-Some-3.pages has pages begins in
    let same : c.entries_len.result ≡ entries_len head.kind c.in-Some-3.pages = omega (arith, c.entries_len.ensures, ap (entries_len head.kind) c.as_slice.ensures, whole, has.short) in
    c.if-freed_at-head.true (omega (arith, whole, same))
