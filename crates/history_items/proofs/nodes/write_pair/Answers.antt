use Rattle.std.proofs.Common.{List, ℕ, ◌+◌, ap, ◌∙◌, arith}
use Rattle.ex_base.specs.Bytes.{written}
use Rattle.ex_base.specs.Fields.{four_bytes, eight_bytes}
use Rattle.ex_base.proofs.FieldLaws.{four_is, eight_is}
use Rattle.ex_base.proofs.Writing.{written_twice}
use Rattle.history_items.proofs.nodes.write_pair.Goals as goal

pub returns : goal.returns
returns c =
    c.put_u32.ensures
    ∙ ap (λ (t : List ℕ). written t (c.args.at + 8) (four_bytes c.args.pair.now.page.0)) c.put_u64.ensures
    ∙ written_twice c.args.out.now (eight_bytes c.args.pair.now.count) (four_bytes c.args.pair.now.page.0) c.args.at (c.args.at + 8) (omega (arith, eight_is.len c.args.pair.now.count)) (omega (arith, eight_is.len c.args.pair.now.count, four_is.len c.args.pair.now.page.0, c.requires))
