use Rattle.std.proofs.Common.{take}
use Rattle.clap.specs.Words.{found_of}
use Rattle.command_words.specs.ClapCommand.{FindsNumbers}
use Rattle.command_words.proofs.parse.numbers_of.Given as goal

-- The options so far have these numbers.
abbrev pub invariant-loop-name : goal.invariant-loop-name
invariant-loop-name l = FindsNumbers (found_of l.matches) (take l.name-index l.options) l.numbers.items
