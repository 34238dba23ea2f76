-- The words behind a command's word: the volume and options, in any order.
use Rattle.std.specs.Prelude.{◌≡◌, ◌⊎◌, ◌≤◌, ℕ, Bool, IsTrue, List, [], ◌∷◌, ◌++◌, Option, Some, None, codes, length, if◌then◌else◌}
use Rattle.std.specs.List.{AllByRecursion, flat_map}
use Rattle.std.specs.Str.{bytes_eq}
use Rattle.std.specs.Str.Parse.{digits_value}
use Rattle.command_words.specs.Numerals.{IsNumber, is_volume}

-- the bytes of a word
abbrev pub Text : Type 0
Text = List ℕ

-- what one or two words say: the volume, or an option with its value, as `--name value` or as `--name=value`
pub data Item : Type 0 where
  volume : Text → Item
  apart : Text → Text → Item
  joined : Text → Text → Item

-- the words that say it
abbrev pub spelling : Item → List Text
spelling (volume word) = word ∷ []
spelling (apart name value) = (codes "--" ++ name) ∷ value ∷ []
spelling (joined name value) = (codes "--" ++ (name ++ (codes "=" ++ value))) ∷ []

-- The name is one of these.
abbrev pub HasName : List Text → Text → Type 0
HasName [] name = ⊥
HasName (n ∷ names) name = (name ≡ n) ⊎ HasName names name

-- a word that may name a volume, or an option of one of these names with a number
abbrev pub IsItem : List Text → Item → Type 0
IsItem names (volume word) = IsTrue (is_volume word)
IsItem names (apart name value) = HasName names name × IsNumber value
IsItem names (joined name value) = HasName names name × IsNumber value

-- the words that name a volume, in order
abbrev pub volumes_of : List Item → List Text
volumes_of [] = []
volumes_of (volume word ∷ items) = word ∷ volumes_of items
volumes_of (apart name value ∷ items) = volumes_of items
volumes_of (joined name value ∷ items) = volumes_of items

abbrev pub value_if : Bool → Text → List Text → List Text
value_if is value values = if is then value ∷ values else values

-- the values that the option of this name gets, in order
abbrev pub values_of : Text → List Item → List Text
values_of name [] = []
values_of name (volume word ∷ items) = values_of name items
values_of name (apart n value ∷ items) = value_if (bytes_eq n name) value (values_of name items)
values_of name (joined n value ∷ items) = value_if (bytes_eq n name) value (values_of name items)

-- The words name one volume, and give each of these options at most once, a number each.
pub record Itemed (names words : List Text) : Type 0 where
  pub items : List Item
  pub spelled : words ≡ flat_map spelling items
  pub allowed : AllByRecursion (IsItem names) items
  pub one_volume : length (volumes_of items) ≡ 1
  pub each_once : AllByRecursion (λ name. length (values_of name items) ≤ 1) names

-- the number that the first of these words writes, if there is one
abbrev pub first_number : List Text → Option ℕ
first_number [] = None
first_number (value ∷ values) = Some (digits_value 10 value)

-- the number that an option is given
abbrev pub number_given : Text → List Item → Option ℕ
number_given name items = first_number (values_of name items)
