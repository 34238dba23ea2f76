use Rattle.std.proofs.Common.{List, ℕ, ap, ◌∙◌}
use Rattle.std.specs.Prelude.{slice_set}
use Rattle.ex_base.specs.Bytes.{written}
use Rattle.ex_base.specs.Fields.{two_bytes, four_bytes}
use Rattle.trees.proofs.WriteLaws.{head_written}
use Rattle.trees.proofs.write.write_head.Goals as goal

pub returns : goal.returns
returns c =
    c.put_u32.ensures ∙ ap (λ (t : List ℕ). written t 4 (four_bytes 0)) c.put_u16.ensures
    ∙ ap (λ (k : ℕ). written (written (slice_set (slice_set c.args.out.now 0 k) 1 c.args.level) 2 (two_bytes c.args.pairs)) 4 (four_bytes 0)) c.kind.ensures
    ∙ head_written c.args.out.now c.args.level c.args.pairs c.requires
