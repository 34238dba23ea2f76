use Rattle.std.proofs.Common.{◌+◌, [], ◌∷◌, length, refl}
use Rattle.ex_base.specs.Fields.{four_bytes}
use Rattle.ex_base.proofs.FieldLaws.{four_is}
use Rattle.history_items.proofs.WrittenItems.{put_first, put_next}
use Rattle.history_items.proofs.files.write_file_head.Goals as goal

pub returns-clause-written : goal.returns-clause-written
returns-clause-written c =
    let was = c.args.out.now in
    let name = c.args.head.now.name.now in
    let one = put_first was c.put_u8.new.bytes (length name ∷ []) 1 c.put_u8.ensures refl in
    let two = put_next was _ c.put_bytes.new.bytes name _ 1 (length name) (1 + length name) one c.put_bytes.ensures refl refl in
    let three = put_next was _ c.put_u32.new.bytes (four_bytes c.args.head.now.versions) _ (1 + length name) 4 (1 + length name + 4) two c.put_u32.ensures (four_is.len c.args.head.now.versions) refl in
    three.is
