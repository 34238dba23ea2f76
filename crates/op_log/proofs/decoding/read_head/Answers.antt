use Rattle.std.proofs.Common.{arith, sym}
use Rattle.op_log.proofs.Reading.{head_of, header_len}
use Rattle.op_log.proofs.decoding.read_head.Goals as goal

pub returns-then-notes-gt-UPDATES_MOST : goal.returns-then-notes-gt-UPDATES_MOST
returns-then-notes-gt-UPDATES_MOST c r begins =
    let head = head_of c.args.geometry.now c.args.bytes.now r begins in omega (arith, head.notes_is, begins.is_record.few_notes, c.get_u16-notes.ensures, c.if-notes-gt-UPDATES_MOST.true)

pub returns-then-pages-freed : goal.returns-then-pages-freed
returns-then-pages-freed c r begins =
    let head = head_of c.args.geometry.now c.args.bytes.now r begins in
    omega (arith, head.pages_is, head.freed_is, begins.is_record.few_pages, c.get_u16-pages.ensures, c.get_u16-freed.ensures, c.if-pages-freed.true)

pub returns-then-len-bytes : goal.returns-then-len-bytes
returns-then-len-bytes c r begins =
    let head = head_of c.args.geometry.now c.args.bytes.now r begins in omega (arith, head.len_is, begins.long, c.get_u32-len.ensures, c.if-len-bytes.true)

pub returns-in_default : goal.returns-in_default
returns-in_default c r begins = c.in_default.ensures r.kind (sym (head_of c.args.geometry.now c.args.bytes.now r begins).kind)

pub returns-then-len-notes : goal.returns-then-len-notes
returns-then-len-notes c r begins =
    let h = header_len c.args.geometry.now c.args.bytes.now r c.get_u16-notes.result c.get_u32-len.result begins c.get_u32-len.ensures c.get_u16-notes.ensures in omega (arith, h.1, c.if-len-notes.true)
