use Rattle.std.proofs.Common.{◌≡◌, ◌+◌, length, ap, ◌∙◌, arith}
use Rattle.object_records.specs.declared.Payload.{Payload}
use Rattle.object_records.specs.Reads.{content_of}
use Rattle.history_model.specs.Stream.{content_item}
use Rattle.history_items.proofs.VersionItems.{length-large, length-small}
use Rattle.history_items.proofs.versions.write_content.Goals as goal

pub write_small-requires-clause-room : goal.write_small-requires-clause-room
write_small-requires-clause-room c =
    let len : length (content_item (content_of c.args.content)) ≡ 3 + length c.in-Small.bytes.now = ap (λ (p : Payload). length (content_item (content_of p))) c.in-Small.is ∙ length-small c.in-Small.bytes.now in
    omega (arith, len, c.requires.room)

pub write_large-requires : goal.write_large-requires
write_large-requires c =
    let len : length (content_item (content_of c.args.content)) ≡ 14 = ap (λ (p : Payload). length (content_item (content_of p))) c.in-Large.is ∙ length-large c.in-Large.root in
    omega (arith, len, c.requires.room)

pub returns-in-Small-clause-len : goal.returns-in-Small-clause-len
returns-in-Small-clause-len c =
    let len : length (content_item (content_of c.args.content)) ≡ 3 + length c.in-Small.bytes.now = ap (λ (p : Payload). length (content_item (content_of p))) c.in-Small.is ∙ length-small c.in-Small.bytes.now in
    omega (arith, len)

pub returns-in-Large-clause-len : goal.returns-in-Large-clause-len
returns-in-Large-clause-len c =
    let len : length (content_item (content_of c.args.content)) ≡ 14 = ap (λ (p : Payload). length (content_item (content_of p))) c.in-Large.is ∙ length-large c.in-Large.root in
    omega (arith, len)
