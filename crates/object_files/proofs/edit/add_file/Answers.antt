use Rattle.std.proofs.Common.{arith}
use Rattle.object_files.proofs.EntryEdits.{Known, known_of, number_found, added}
use Rattle.object_files.proofs.edit.add_file.Goals as goal

pub lowest_unused-file_no-requires-clause-room : goal.lowest_unused-file_no-requires-clause-room
lowest_unused-file_no-requires-clause-room c = (known_of c.args.image.now c.get_u16-n.result c.requires.page c.get_u16-n.ensures).room

pub place_of-requires-clause-room : goal.place_of-requires-clause-room
place_of-requires-clause-room c = (known_of c.args.image.now c.get_u16-n.result c.requires.page c.get_u16-n.ensures).room

pub place_of-requires-clause-entries : goal.place_of-requires-clause-entries
place_of-requires-clause-entries c = (known_of c.args.image.now c.get_u16-n.result c.requires.page c.get_u16-n.ensures).reads

pub replace_bytes-requires-clause-room : goal.replace_bytes-requires-clause-room
replace_bytes-requires-clause-room c =
    let k : Known c.args.image.now c.get_u16-n.result = known_of c.args.image.now c.get_u16-n.result c.requires.page c.get_u16-n.ensures in
    omega (arith, k.number, c.requires.room)

pub returns-clause-number : goal.returns-clause-number
returns-clause-number c =
    number_found c.args.image.now c.get_u16-n.result c.lowest_unused-file_no.result (known_of c.args.image.now c.get_u16-n.result c.requires.page c.get_u16-n.ensures) c.lowest_unused-file_no.ensures.some c.lowest_unused-file_no.ensures.unused c.lowest_unused-file_no.ensures.lowest

pub returns-clause-added : goal.returns-clause-added
returns-clause-added c =
    let k : Known c.args.image.now c.get_u16-n.result = known_of c.args.image.now c.get_u16-n.result c.requires.page c.get_u16-n.ensures in
    let lowest = number_found c.args.image.now c.get_u16-n.result c.lowest_unused-file_no.result k c.lowest_unused-file_no.ensures.some c.lowest_unused-file_no.ensures.unused c.lowest_unused-file_no.ensures.lowest in
    added c.args.image.now c.args.name.now c.entry_for.result c.replace_bytes.new.image c.put_u16.new.bytes c.get_u16-n.result c.place_of.result c.lowest_unused-file_no.result c.requires.page k c.requires.name c.requires.unused c.requires.room c.place_of.ensures.within c.place_of.ensures.before c.place_of.ensures.later lowest (omega arith) c.entry_for.ensures c.replace_bytes.ensures c.put_u16.ensures
