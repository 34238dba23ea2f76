use Rattle.ex_base.specs.Fields.{two_bytes}
use Rattle.ex_base.proofs.FieldLaws.{two_is}
use Rattle.ex_base.proofs.Writing.{pushed}
use Rattle.page_entries.proofs.spelling.push_two.Goals as goal

pub returns : goal.returns
returns c = pushed c.args.bytes.now.items c.extend_from_slice.new.self.items _ c.put_u16.new.bytes (two_bytes c.args.value) c.in_ok-extend_from_slice.ensures.items c.put_u16.ensures (two_is.len c.args.value)
