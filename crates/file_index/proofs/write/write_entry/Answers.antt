use Rattle.std.proofs.Common.{List, ℕ, ◌+◌, ap, ◌∙◌, arith}
use Rattle.ex_base.specs.Fields.{four_bytes}
use Rattle.ex_base.specs.Bytes.{written}
use Rattle.ex_base.proofs.FieldLaws.{four_is}
use Rattle.ex_base.proofs.Writing.{written_twice}
use Rattle.file_index.proofs.write.write_entry.Goals as goal

pub returns-clause-written : goal.returns-clause-written
returns-clause-written c =
    c.put_u32-2.ensures ∙ ap (λ (t : List ℕ). written t (c.args.at + 4) (four_bytes c.args.entry.now.page.0)) c.put_u32.ensures
    ∙ written_twice c.args.out.now (four_bytes c.args.entry.now.key) (four_bytes c.args.entry.now.page.0) c.args.at (c.args.at + 4) (omega (arith, four_is.len c.args.entry.now.key)) (omega (arith, four_is.len c.args.entry.now.key, four_is.len c.args.entry.now.page.0, c.requires))
