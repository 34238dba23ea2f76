use Rattle.ex_base.specs.Fields.{eight_bytes}
use Rattle.ex_base.proofs.FieldLaws.{eight_is}
use Rattle.ex_base.proofs.Writing.{pushed}
use Rattle.page_entries.proofs.spelling.push_eight.Goals as goal

pub returns : goal.returns
returns c = pushed c.args.bytes.now.items c.extend_from_slice.new.self.items _ c.put_u64.new.bytes (eight_bytes c.args.value) c.in_ok-extend_from_slice.ensures.items c.put_u64.ensures (eight_is.len c.args.value)
