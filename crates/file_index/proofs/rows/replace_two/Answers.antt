use Rattle.std.proofs.Common.{◌+◌, ◌∷◌, ◌++◌, Option, sym, ap, ◌∙◌, take, drop}
use Rattle.std.specs.Prelude.{option_to_list}
use Rattle.file_index.specs.declared.Entry.{Entry}
use Rattle.file_index.proofs.Parts.{two_parts}
use Rattle.file_index.proofs.rows.replace_two.Goals as goal

pub returns-in-Some : goal.returns-in-Some
returns-in-Some c =
    two_parts c.args.entries.now.items c.args.at c.args.first c.in-Some.entry c.requires
    ∙ ap (λ (s : Option Entry). take c.args.at c.args.entries.now.items ++ c.args.first ∷ (option_to_list s ++ drop (c.args.at + 2) c.args.entries.now.items)) (sym c.in-Some.is)
