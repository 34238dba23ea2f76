use Rattle.byteorder.specs.Endian.{big_bytes}
use Rattle.ex_base.specs.Bytes.{repl, written_slice}
use Rattle.ex_base.specs.Fields.{field_bytes, length-big_bytes}
use Rattle.ex_base.proofs.fields.put_u16.Goals as goal

pub returns : goal.returns
unfolding field_bytes repl
returns c =
    written_slice c.args.bytes.now c.args.at 2 (big_bytes 2 c.args.value) c.write_u16.new.buf (length-big_bytes 2 c.args.value) c.requires c.write_u16.ensures
