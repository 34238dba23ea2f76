use Rattle.std.proofs.Common.{◌≡◌, ◌∙◌, ap, sym, subst, ℕ, List, ◌∷◌, ◌++◌}
use Rattle.std.specs.Prelude.{codes}
use Rattle.std.specs.Fmt.{HasWritten}
use Rattle.command_words.specs.Items.{Text}
use Rattle.command_words.specs.declared.commands.CommandWord.TheVariants.{Run, Check, Gen, Clients, Dump, Load, Pack}
use Rattle.command_line.specs.UsageText.{next_text, usage_text}
use Rattle.command_line.proofs.usage.UsageDisplay.fmt.Goals as goal

-- how each command is called, one below the other
abbrev joined : Text → Text
joined format = codes "usage: exsm " ++ (format ++ (next_text Run ++ (next_text Check ++ (next_text Gen ++ (next_text Clients ++ (next_text Dump ++ (next_text Load ++ next_text Pack)))))))

pub returns-in-None-clause-writes : goal.returns-in-None-clause-writes
returns-in-None-clause-writes g c = λ plain ok.
    let text : joined c.grammar_of-format.result.now ≡ usage_text c.args.self.now.0 = ap joined c.grammar_of-format.ensures ∙ ap usage_text (sym c.in-None.is) in
    subst (λ (bs : List ℕ). HasWritten g.W.Write.write_str_gives c.args.f.now bs c.write-in-None.new.self) text (c.write-in-None.ensures.writes plain ok)
