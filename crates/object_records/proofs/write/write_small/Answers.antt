use Rattle.std.proofs.Common.{List, ℕ, length, ap, ◌∙◌}
use Rattle.ex_base.specs.Bytes.{written}
use Rattle.ex_base.specs.Fields.{two_bytes}
use Rattle.object_records.proofs.WriteLaws.{small_written}
use Rattle.object_records.proofs.write.write_small.Goals as goal

pub returns : goal.returns
returns c = record {
  fits = c.requires.fits;
  spelled = c.clear_from.ensures ∙ small_written c.args.head.now c.args.bytes.now c.args.out.now c.put_bytes.new.bytes c.requires.room
      (c.put_bytes.ensures ∙ ap (λ (t : List ℕ). written t 24 c.args.bytes.now) (c.put_u16.ensures ∙ ap (λ (t : List ℕ). written t 22 (two_bytes (length c.args.bytes.now))) c.write_head.ensures));
}
