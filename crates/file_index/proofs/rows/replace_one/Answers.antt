use Rattle.std.proofs.Common.{◌+◌, ◌∷◌, ◌++◌, Option, sym, ap, ◌∙◌, take, drop}
use Rattle.std.specs.Prelude.{option_to_list}
use Rattle.file_index.specs.declared.Entry.{Entry}
use Rattle.file_index.proofs.Parts.{set_parts}
use Rattle.file_index.proofs.rows.replace_one.Goals as goal

pub returns-in-None-clause-items : goal.returns-in-None-clause-items
returns-in-None-clause-items c =
    set_parts c.args.entries.now.items c.args.at c.args.first c.requires
    ∙ ap (λ (s : Option Entry). take c.args.at c.args.entries.now.items ++ c.args.first ∷ (option_to_list s ++ drop (c.args.at + 1) c.args.entries.now.items)) (sym c.in-None.is)
