use Rattle.std.proofs.Common.{length, ap, arith}
use Rattle.object_records.specs.declared.Payload.{Payload}
use Rattle.object_records.specs.Reads.{content_of}
use Rattle.object_records.specs.Record.{content_bytes}
use Rattle.history_writes.proofs.Linking.{large_long, small_long}
use Rattle.history_writes.proofs.page_links.write_record.Goals as goal

pub write_small-requires-clause-room : goal.write_small-requires-clause-room
write_small-requires-clause-room c =
    omega (arith, c.requires.room, ap (λ (p : Payload). length (content_bytes (content_of p))) c.in-Small.is, small_long c.in-Small.bytes.now)

pub write_large-requires-clause-room : goal.write_large-requires-clause-room
write_large-requires-clause-room c =
    omega (arith, c.requires.room, ap (λ (p : Payload). length (content_bytes (content_of p))) c.in-Large.is, large_long c.in-Large.root)
