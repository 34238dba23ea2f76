-- The commands and their options.
use Rattle.std.specs.Prelude.{List, [], ◌∷◌, codes}
use Rattle.command_words.specs.Items.{Text}
use Rattle.command_words.specs.declared.commands.CommandWord.{CommandWord}
use Rattle.command_words.specs.declared.commands.CommandWord.TheVariants.{Format, Run, Check, Gen, Clients, Dump, Load, Pack}

-- the word that a command begins with
abbrev pub text_of : CommandWord → Text
text_of Format = codes "format"
text_of Run = codes "run"
text_of Check = codes "check"
text_of Gen = codes "gen"
text_of Clients = codes "clients"
text_of Dump = codes "dump"
text_of Load = codes "load"
text_of Pack = codes "pack"

-- the names of a command's options
abbrev pub option_names : CommandWord → List Text
option_names Format = codes "page-size" ∷ codes "pages" ∷ codes "segs" ∷ codes "seg-len" ∷ codes "fan" ∷ []
option_names Run = codes "max-bytes" ∷ []
option_names Check = []
option_names Gen = codes "seed" ∷ codes "count" ∷ []
option_names Clients = codes "max-bytes" ∷ []
option_names Dump = []
option_names Load = []
option_names Pack = []
