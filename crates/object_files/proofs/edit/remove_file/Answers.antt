use Rattle.std.proofs.Common.{arith}
use Rattle.object_files.proofs.EntryEdits.{Known, known_of, name_inside, removed}
use Rattle.object_files.proofs.edit.remove_file.Goals as goal

pub index_of_name-requires-clause-room : goal.index_of_name-requires-clause-room
index_of_name-requires-clause-room c = (known_of c.args.image.now c.get_u16-n.result c.requires.page c.get_u16-n.ensures).room

pub index_of_name-requires-clause-entries : goal.index_of_name-requires-clause-entries
index_of_name-requires-clause-entries c = (known_of c.args.image.now c.get_u16-n.result c.requires.page c.get_u16-n.ensures).reads

pub replace_bytes-requires-clause-tail : goal.replace_bytes-requires-clause-tail
replace_bytes-requires-clause-tail c =
    let k : Known c.args.image.now c.get_u16-n.result = known_of c.args.image.now c.get_u16-n.result c.requires.page c.get_u16-n.ensures in
    let lt = name_inside c.args.image.now c.args.name.now c.get_u16-n.result c.index_of_name.result k c.requires.file c.index_of_name.ensures.within c.index_of_name.ensures.before in
    omega (arith, lt)

pub replace_bytes-requires-clause-room : goal.replace_bytes-requires-clause-room
replace_bytes-requires-clause-room c = (known_of c.args.image.now c.get_u16-n.result c.requires.page c.get_u16-n.ensures).room

pub overflow_sub-n : goal.overflow_sub-n
overflow_sub-n c =
    let k : Known c.args.image.now c.get_u16-n.result = known_of c.args.image.now c.get_u16-n.result c.requires.page c.get_u16-n.ensures in
    let lt = name_inside c.args.image.now c.args.name.now c.get_u16-n.result c.index_of_name.result k c.requires.file c.index_of_name.ensures.within c.index_of_name.ensures.before in
    omega (arith, lt)

pub returns : goal.returns
returns c =
    let k : Known c.args.image.now c.get_u16-n.result = known_of c.args.image.now c.get_u16-n.result c.requires.page c.get_u16-n.ensures in
    let lt = name_inside c.args.image.now c.args.name.now c.get_u16-n.result c.index_of_name.result k c.requires.file c.index_of_name.ensures.within c.index_of_name.ensures.before in
    removed c.args.image.now c.args.name.now c.replace_bytes.new.image c.put_u16.new.bytes c.get_u16-n.result c.index_of_name.result c.requires.page k lt (c.index_of_name.ensures.found lt) c.replace_bytes.ensures c.put_u16.ensures
