use Rattle.std.proofs.Common.{◌+◌, ◌*◌, arith, length-set}
use Rattle.object_files.proofs.EntryEdits.{Known, known_of, number_inside, index_set}
use Rattle.object_files.proofs.edit.set_index.Goals as goal

pub index_of_number-requires : goal.index_of_number-requires
index_of_number-requires c = (known_of c.args.image.now c.get_u16-n.result c.requires.page c.get_u16-n.ensures).room

pub bounds-image-at : goal.bounds-image-at
bounds-image-at c =
    let k : Known c.args.image.now c.get_u16-n.result = known_of c.args.image.now c.get_u16-n.result c.requires.page c.get_u16-n.ensures in
    let lt = number_inside c.args.image.now c.get_u16-n.result c.index_of_number.result c.args.index.file_no k c.requires.file c.index_of_number.ensures.within c.index_of_number.ensures.before in
    omega (arith, k.room, lt)

pub put_page-requires : goal.put_page-requires
put_page-requires c =
    let k : Known c.args.image.now c.get_u16-n.result = known_of c.args.image.now c.get_u16-n.result c.requires.page c.get_u16-n.ensures in
    let lt = number_inside c.args.image.now c.get_u16-n.result c.index_of_number.result c.args.index.file_no k c.requires.file c.index_of_number.ensures.within c.index_of_number.ensures.before in
    omega (arith, k.room, lt, length-set c.args.image.now (32 + 48 * c.index_of_number.result + 33) c.args.index.level)

pub returns : goal.returns
returns c =
    let k : Known c.args.image.now c.get_u16-n.result = known_of c.args.image.now c.get_u16-n.result c.requires.page c.get_u16-n.ensures in
    let lt = number_inside c.args.image.now c.get_u16-n.result c.index_of_number.result c.args.index.file_no k c.requires.file c.index_of_number.ensures.within c.index_of_number.ensures.before in
    index_set c.args.image.now c.put_page.new.bytes c.get_u16-n.result c.index_of_number.result c.args.index.file_no c.args.index.level c.args.index.root c.requires.page k lt (c.index_of_number.ensures.found lt) c.requires.root c.requires.level c.requires.rooted c.put_page.ensures
