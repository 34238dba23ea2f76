use Rattle.std.proofs.Common.{ap, sym}
use Rattle.std.specs.Fmt.{digits}
use Rattle.command_line.specs.UsageText.{grammar_text}
use Rattle.command_line.proofs.usage.grammar_of.Goals as goal

pub returns-in-Format : goal.returns-in-Format
unfolding grammar_text digits
returns-in-Format c = ap grammar_text (sym c.in-Format.is)

pub returns-in-Run : goal.returns-in-Run
unfolding grammar_text digits
returns-in-Run c = ap grammar_text (sym c.in-Run.is)

pub returns-in-Check : goal.returns-in-Check
unfolding grammar_text digits
returns-in-Check c = ap grammar_text (sym c.in-Check.is)

pub returns-in-Gen : goal.returns-in-Gen
unfolding grammar_text digits
returns-in-Gen c = ap grammar_text (sym c.in-Gen.is)

pub returns-in-Clients : goal.returns-in-Clients
unfolding grammar_text digits
returns-in-Clients c = ap grammar_text (sym c.in-Clients.is)

pub returns-in-Dump : goal.returns-in-Dump
unfolding grammar_text digits
returns-in-Dump c = ap grammar_text (sym c.in-Dump.is)

pub returns-in-Load : goal.returns-in-Load
unfolding grammar_text digits
returns-in-Load c = ap grammar_text (sym c.in-Load.is)

pub returns-in-Pack : goal.returns-in-Pack
unfolding grammar_text digits
returns-in-Pack c = ap grammar_text (sym c.in-Pack.is)
