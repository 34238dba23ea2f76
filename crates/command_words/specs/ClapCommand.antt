-- The commands as they are given to clap, and the words that it is given.
use Rattle.std.specs.Prelude.{◌≡◌, ◌==◌, not, ℕ, Bool, true, false, IfSome, Option, option_map, map, List, [], ◌∷◌, if◌then◌else◌, codes, fold, Some}
use Rattle.std.specs.Borrow.{Bor}
use Rattle.std.specs.List.{All}
use Rattle.std.specs.Str.Parse.{digits_value}
use Rattle.clap.specs.Matches.{first_value}
use Rattle.clap.specs.Walk.{Rule}
use Rattle.clap.specs.declared.parser.matches.Found.{Found}
use Rattle.clap.specs.Simple.{App, new_app, new_rule, on_top, with_rule}
use Rattle.clap.specs.declared.builder.action.ArgAction.TheVariants.{Set}
use Rattle.command_words.specs.Items.{Text}
use Rattle.command_words.specs.Numerals.{IsNumber}
use Rattle.command_words.specs.Commands.{text_of, option_names}
use Rattle.command_words.specs.declared.commands.CommandWord.{CommandWord}

-- a command of this name that takes nothing, not even a word for help
abbrev pub bare_app : Text → App
bare_app name = on_top (λ s. record s {
  no_binary_name = true;
  disable_help_flag = true;
  disable_version_flag = true;
  disable_help_subcommand = true;
}) (new_app name)

abbrev pub with_volume : App → App
with_volume app = with_rule app (record (new_rule (codes "volume")) { action = Some Set })

-- an option of this name that takes a value
abbrev pub option_rule : Text → Rule
option_rule name = record (new_rule name) { long = Some name; action = Some Set }

abbrev pub with_option : App → Text → App
with_option app name = with_rule app (option_rule name)

-- a command of this name with the volume and these options
abbrev pub app_with : Text → List Text → App
app_with name options = fold with_option (with_volume (bare_app name)) options

abbrev pub app_for : CommandWord → App
app_for command = app_with (text_of command) (option_names command)

-- The word is given to clap: it isn't empty, and where it begins with `-` it is `--` and more.
abbrev pub is_fit : Text → Bool
is_fit [] = false
is_fit (x ∷ []) = not (x == 45)
is_fit (x ∷ y ∷ []) = not (x == 45)
is_fit (x ∷ y ∷ z ∷ zs) = if x == 45 then y == 45 else true

-- the number that clap found for an option
abbrev pub number_found : Found → Text → Option ℕ
number_found found name = option_map (digits_value 10) (first_value found name)

-- Where clap found a value for the option, it writes a number.
abbrev pub GivesNumber : Found → Text → Type 0
GivesNumber found name = IfSome (first_value found name) IsNumber

-- Each of these options has a number, if any, and these are the numbers.
pub record FindsNumbers (found : Found) (options : List (Bor Text)) (numbers : List (Option ℕ)) : Type 0 where
  pub each : All (λ name. GivesNumber found name.now) options
  pub numbers_are : numbers ≡ map (λ name. number_found found name.now) options
