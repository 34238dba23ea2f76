use Rattle.std.proofs.Common.{List, ℕ, ap, ◌∙◌}
use Rattle.ex_base.specs.Bytes.{written}
use Rattle.ex_base.specs.Fields.{two_bytes, eight_bytes, page_field}
use Rattle.object_records.proofs.WriteLaws.{large_written}
use Rattle.object_records.proofs.write.write_large.Goals as goal

pub returns : goal.returns
returns c = record {
  fits = c.requires.fits;
  spelled = c.put_page.ensures ∙ ap (λ (t : List ℕ). written t 32 (page_field c.args.root.now.page)) (c.put_u64.ensures ∙ ap (λ (t : List ℕ). written t 24 (eight_bytes c.args.root.now.size)) (c.put_u16.ensures ∙ ap (λ (k : ℕ). written c.write_head.new.out 22 (two_bytes k)) c.from.ensures ∙ ap (λ (t : List ℕ). written t 22 (two_bytes c.args.root.now.height)) c.write_head.ensures))
      ∙ large_written c.args.head.now c.args.root.now c.args.out.now c.requires.room;
}
