use Rattle.ex_base.specs.Fields.{four_bytes}
use Rattle.ex_base.proofs.FieldLaws.{four_is}
use Rattle.ex_base.proofs.Writing.{pushed}
use Rattle.page_entries.proofs.spelling.push_four.Goals as goal

pub returns : goal.returns
returns c = pushed c.args.bytes.now.items c.extend_from_slice.new.self.items _ c.put_u32.new.bytes (four_bytes c.args.value) c.in_ok-extend_from_slice.ensures.items c.put_u32.ensures (four_is.len c.args.value)
