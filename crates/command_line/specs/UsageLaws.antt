-- What the text for usage says of numbers is what the grammar of the command line says of them.
use Rattle.std.specs.Prelude.{◌≡◌, ◌≤◌, ◌⊎◌, ◌↔◌, ℕ, ◌-◌, ◌/◌, ⊤, IsTrue, IsSome, IfSome, unwrap_or, None, List, [], ◌∷◌, codes}
use Rattle.std.specs.Fmt.{decimal}
use Rattle.std.specs.List.{AllByRecursion}
use Rattle.command_words.specs.Items.{Text, Item, Itemed, apart, number_given}
use Rattle.command_words.specs.Commands.{option_names}
use Rattle.command_words.specs.Wishes.{Gives, command_of}
use Rattle.command_words.specs.declared.commands.CommandWord.{CommandWord}
use Rattle.command_words.specs.declared.wish.Wish.{Wish}
use Rattle.command_line.specs.UsageText.{Numbers, AnyNumber, OneOf, FromTo, FromToShare, Told, Default, options_told, defaults_told}

abbrev pub IsOneOf : List ℕ → ℕ → Type 0
IsOneOf [] n = ⊥
IsOneOf (k ∷ ks) n = (n ≡ k) ⊎ IsOneOf ks n

-- The numbers have this one, at this page size.
abbrev pub Have : Numbers → ℕ → ℕ → Type 0
Have AnyNumber page_size n = ⊤
Have (OneOf numbers) page_size n = IsOneOf numbers n
Have (FromTo least most) page_size n = (least ≤ n) × (n ≤ most)
Have (FromToShare least head share) page_size n = (least ≤ n) × (n ≤ (page_size - head) / share)

-- the page size that is given, or the default
abbrev pub page_size_in : List Item → ℕ
page_size_in items = unwrap_or (number_given (codes "page-size") items) 4096

-- A wanted option is given, and a number that is given is one of those that are told.
pub record Keeps (items : List Item) (told : Told) : Type 0 where
  pub wanted : IsTrue told.is_wanted → IsSome (number_given told.name items)
  pub numbers : IfSome (number_given told.name items) (Have told.numbers (page_size_in items))

-- The options of a command ask for something.
pub record AskFor (command : CommandWord) (items : List Item) : Type 0 where
  pub wish : Wish
  pub command_is : command_of wish ≡ command
  pub gives : Gives items wish

-- Words that name a volume and give each option at most once ask for something exactly where they keep what is told of each option.
abbrev pub TellsNumbers : Type 0
TellsNumbers = (command : CommandWord) (words : List Text) (after : Itemed (option_names command) words)
    → AskFor command after.items ↔ AllByRecursion (Keeps after.items) (options_told command)

-- The option with its default asks for what is asked for without it.
abbrev pub IsDefault : CommandWord → Default → Type 0
IsDefault command d = (items : List Item) (wish : Wish) → command_of wish ≡ command → number_given d.name items ≡ None → Gives items wish
    → Gives (apart d.name (decimal d.number) ∷ items) wish

abbrev pub TellsDefaults : Type 0
TellsDefaults = (command : CommandWord) → AllByRecursion (IsDefault command) (defaults_told command)
