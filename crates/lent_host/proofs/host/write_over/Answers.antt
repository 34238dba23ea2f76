use Rattle.std.proofs.Common.{length, refl}
use Rattle.ex_base.specs.Bytes.{copied_slice}
use Rattle.lent_host.proofs.host.write_over.Goals as goal

pub returns : goal.returns
returns c = copied_slice c.args.image.now c.args.at (length c.args.bytes.now) c.args.bytes.now c.copy_from_slice.new.self refl c.requires c.copy_from_slice.ensures.after
