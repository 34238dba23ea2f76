-- The text that says how the program is called.
use Rattle.std.specs.Prelude.{ℕ, Bool, true, false, if◌then◌else◌, Option, Some, None, List, [], ◌∷◌, ◌++◌, map, codes}
use Rattle.std.specs.Fmt.{decimal}
use Rattle.std.specs.List.{flat_map, join_with_byte}
use Rattle.command_words.specs.Items.{Text}
use Rattle.command_words.specs.Commands.{text_of}
use Rattle.command_words.specs.declared.commands.CommandWord.{CommandWord}
use Rattle.command_words.specs.declared.commands.CommandWord.TheVariants.{Format, Run, Check, Gen, Clients, Dump, Load, Pack}

-- the numbers that the text allows an option
pub data Numbers : Type 0 where
  AnyNumber : Numbers
  OneOf : List ℕ → Numbers
  FromTo : ℕ → ℕ → Numbers
  FromToShare : ℕ → ℕ → ℕ → Numbers  -- from a number to the share of a page: without its first bytes, divided

-- an option, as the text tells it
pub record Told : Type 0 where
  pub name : Text
  pub is_wanted : Bool
  pub numbers : Numbers

-- the number that an option has where it isn't given
pub record Default : Type 0 where
  pub name : Text
  pub number : ℕ

abbrev pub may_be : Text → Numbers → Told
may_be name numbers = record { name = name; is_wanted = false; numbers = numbers }

abbrev pub must_be : Text → Numbers → Told
must_be name numbers = record { name = name; is_wanted = true; numbers = numbers }

-- the options of a command
abbrev pub options_told : CommandWord → List Told
options_told Format =
    may_be (codes "page-size") (OneOf (512 ∷ 1024 ∷ 2048 ∷ 4096 ∷ 8192 ∷ [])) ∷ may_be (codes "pages") (FromTo 1 4000000)
    ∷ may_be (codes "segs") (FromTo 0 4000000) ∷ may_be (codes "seg-len") (FromTo 1 16) ∷ may_be (codes "fan") (FromToShare 2 20 24) ∷ []
options_told Run = may_be (codes "max-bytes") AnyNumber ∷ []
options_told Check = []
options_told Gen = must_be (codes "seed") AnyNumber ∷ must_be (codes "count") (FromTo 1 1000000) ∷ []
options_told Clients = may_be (codes "max-bytes") AnyNumber ∷ []
options_told Dump = []
options_told Load = []
options_told Pack = []

abbrev pub default : Text → ℕ → Default
default name number = record { name = name; number = number }

-- what its options are by default
abbrev pub defaults_told : CommandWord → List Default
defaults_told Format = default (codes "page-size") 4096 ∷ default (codes "pages") 4096 ∷ default (codes "segs") 16384 ∷ default (codes "seg-len") 1 ∷ []
defaults_told Run = default (codes "max-bytes") 1099511627776 ∷ []
defaults_told Check = []
defaults_told Gen = []
defaults_told Clients = default (codes "max-bytes") 1099511627776 ∷ []
defaults_told Dump = []
defaults_told Load = []
defaults_told Pack = []

-- ---- the text

abbrev pub numbers_text : Numbers → Text
numbers_text AnyNumber = codes "N"
numbers_text (OneOf numbers) = join_with_byte 124 (map decimal numbers)
numbers_text (FromTo least most) = decimal least ++ codes ".." ++ decimal most
numbers_text (FromToShare least head share) = decimal least ++ codes "..(page size - " ++ decimal head ++ codes ") / " ++ decimal share

abbrev pub bare_text : Text → Text → Text
bare_text name value = codes "--" ++ name ++ codes " " ++ value

abbrev pub option_text : Told → Text
option_text o = if o.is_wanted then codes " " ++ bare_text o.name (numbers_text o.numbers) else codes " [" ++ bare_text o.name (numbers_text o.numbers) ++ codes "]"

abbrev pub default_text : Default → Text
default_text d = codes " " ++ bare_text d.name (decimal d.number)

-- a line feed and blanks below the command's word
abbrev pub indent : Text
indent = 10 ∷ codes "           by default"

-- what stands behind the options
abbrev pub ending_text : CommandWord → Text
ending_text Format = indent ++ flat_map default_text (defaults_told Format) ++ codes " and the largest fan"
ending_text Run = codes " < SCRIPT" ++ indent ++ flat_map default_text (defaults_told Run)
ending_text Check = []
ending_text Gen = []
ending_text Clients = codes " < SCHEDULE" ++ indent ++ flat_map default_text (defaults_told Clients)
ending_text Dump = codes " > STREAM"
ending_text Load = codes " < STREAM"
ending_text Pack = []

-- how a command is called
unfoldable pub grammar_text : CommandWord → Text
grammar_text command = text_of command ++ codes " VOLUME" ++ flat_map option_text (options_told command) ++ ending_text command

abbrev pub next_text : CommandWord → Text
next_text command = 10 ∷ (codes "       exsm " ++ grammar_text command)

-- how a command is called, or the program where no command is named
abbrev pub usage_text : Option CommandWord → Text
usage_text (Some command) = codes "usage: exsm " ++ grammar_text command
usage_text None = codes "usage: exsm " ++ (grammar_text Format ++ (next_text Run ++ (next_text Check ++ (next_text Gen ++ (next_text Clients ++ (next_text Dump ++ (next_text Load ++ next_text Pack)))))))
