use Rattle.std.proofs.Common.{◌≡◌, map, take}
use Rattle.clap.specs.Words.{app_of}
use Rattle.command_words.specs.ClapCommand.{app_with}
use Rattle.command_words.proofs.parse.command_of.Given as goal

-- The command has the options so far.
abbrev pub invariant-loop-name : goal.invariant-loop-name
invariant-loop-name l = app_of l.command ≡ app_with l.fn.name (map (λ option. option.now) (take l.name-index l.options))
