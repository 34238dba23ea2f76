use Rattle.std.proofs.Common.{List, ℕ, ap, ◌∙◌, length}
use Rattle.std.specs.Prelude.{slice_set}
use Rattle.ex_base.specs.Fields.{two_bytes, four_bytes}
use Rattle.ex_base.specs.Bytes.{written}
use Rattle.file_index.proofs.WriteLaws.{head_written}
use Rattle.file_index.proofs.write.write_head.Goals as goal

pub returns : goal.returns
returns c =
    c.put_u32.ensures ∙ ap (λ (t : List ℕ). written t 8 (four_bytes c.args.file_no)) (c.put_u16.ensures ∙ ap (λ (t : List ℕ). written (slice_set (slice_set t 0 4) 1 c.args.level) 2 (two_bytes c.args.entries)) (c.fill.ensures.after (λ y e. e)))
    ∙ head_written (length c.args.out.now) c.args.level c.args.file_no c.args.entries c.requires
