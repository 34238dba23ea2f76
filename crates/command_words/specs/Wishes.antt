-- The grammar of the command line: what a list of words, without the program's own name, asks for.
use Rattle.std.specs.Prelude.{◌≡◌, ◌≤◌, ℕ, ⊤, Option, Some, None, List, [], ◌∷◌, map, codes, unwrap_or, String, string_bytes}
use Rattle.std.specs.declared.alloc.Global.{Global}
use Rattle.ex_base.specs.Limits.{fan_most}
use Rattle.ex_base.specs.Sizes.{volume_bytes}
use Rattle.ex_base.specs.declared.geometry.Geometry.{Geometry}
use Rattle.command_words.specs.Items.{Text, Item, Itemed, number_given, volumes_of}
use Rattle.command_words.specs.Commands.{text_of, option_names}
use Rattle.command_words.specs.declared.commands.CommandWord.{CommandWord}
use Rattle.command_words.specs.declared.commands.CommandWord.TheVariants as word
use Rattle.command_words.specs.declared.wish.Wish.{Wish}
use Rattle.command_words.specs.declared.wish.Wish.TheVariants.{Format, Run, Check, Gen, Clients, Dump, Load, Pack}

-- the bytes of each word
abbrev pub texts : List (String Global) → List Text
texts words = map string_bytes words

-- the command that a wish asks for
abbrev pub command_of : Wish → CommandWord
command_of (Format g) = word.Format
command_of (Run most) = word.Run
command_of Check = word.Check
command_of (Gen seed count) = word.Gen
command_of (Clients most) = word.Clients
command_of Dump = word.Dump
command_of Load = word.Load
command_of Pack = word.Pack

-- The sizes that are given, or their defaults, are those of this geometry. Each geometry keeps its limits.
pub record IsGeometryOf (page_size pages segs seg_len fan : Option ℕ) (g : Geometry) : Type 0 where
  pub page_size_is : g.page_size ≡ unwrap_or page_size 4096
  pub pages_are : g.pages ≡ unwrap_or pages 4096
  pub segs_are : g.segs ≡ unwrap_or segs 16384
  pub seg_len_is : g.seg_len ≡ unwrap_or seg_len 1
  -- by default the largest of the page size
  pub fan_is : g.fan ≡ unwrap_or fan (fan_most g.page_size)

-- The options of `format` give this geometry.
abbrev pub GivesGeometry : List Item → Geometry → Type 0
GivesGeometry items g =
    IsGeometryOf (number_given (codes "page-size") items) (number_given (codes "pages") items) (number_given (codes "segs") items)
    (number_given (codes "seg-len") items) (number_given (codes "fan") items) g

-- The options of `gen` are both there and give this seed and count.
pub record GivesGenerator (items : List Item) (seed count : ℕ) : Type 0 where
  pub seed_is : number_given (codes "seed") items ≡ Some seed
  pub count_is : number_given (codes "count") items ≡ Some count
  pub some : 1 ≤ count
  pub most : count ≤ 1000000

-- The options of the wish's command give what it says.
abbrev pub Gives : List Item → Wish → Type 0
Gives items (Format g) = GivesGeometry items g
Gives items (Run most) = most ≡ unwrap_or (number_given (codes "max-bytes") items) 1099511627776
Gives items Check = ⊤
Gives items (Gen seed count) = GivesGenerator items seed count
Gives items (Clients most) = most ≡ unwrap_or (number_given (codes "max-bytes") items) 1099511627776
Gives items Dump = ⊤
Gives items Load = ⊤
Gives items Pack = ⊤

-- The words are the wish's command, with one volume and options that give what the wish says.
pub record Asks (words : List Text) (wish : Wish) : Type 0 where
  pub rest : List Text
  pub command : words ≡ text_of (command_of wish) ∷ rest
  pub after : Itemed (option_names (command_of wish)) rest
  pub gives : Gives after.items wish

-- The words are no command line: they ask for nothing.
abbrev pub IsOutside : List Text → Type 0
IsOutside words = (wish : Wish) → Asks words wish → ⊥

-- The words ask for the wish on the volume of this name.
pub record AsksOn (words : List Text) (wish : Wish) (volume : Text) : Type 0 where
  pub asks : Asks words wish
  pub volume_is : volumes_of asks.after.items ≡ volume ∷ []

-- What the words behind a command give: they name the volume, and give its options these numbers, in the order of names.
pub record IsGiven (names words : List Text) (volume : Text) (numbers : List (Option ℕ)) : Type 0 where
  pub after : Itemed names words
  pub volume_is : volumes_of after.items ≡ volume ∷ []
  pub numbers_are : numbers ≡ map (λ name. number_given name after.items) names

-- the bytes of the volume that a wish makes
abbrev pub bytes_made : Wish → Option ℕ
bytes_made (Format g) = Some (volume_bytes g)
bytes_made (Run most) = None
bytes_made Check = None
bytes_made (Gen seed count) = None
bytes_made (Clients most) = None
bytes_made Dump = None
bytes_made Load = None
bytes_made Pack = None

-- The words ask for something on the volume of this name, and for a volume of so many bytes to be made, or for none.
pub record NamesFile (words : List Text) (path : Text) (make : Option ℕ) : Type 0 where
  pub wish : Wish
  pub on : AsksOn words wish path
  pub make_is : make ≡ bytes_made wish

-- ---- what the numbers of a command's options mean

abbrev pub AreNumbers : CommandWord → List (Option ℕ) → List Item → Type 0
AreNumbers command numbers items = numbers ≡ map (λ name. number_given name items) (option_names command)

-- The command with these numbers for its options is the wish.
pub record Means (command : CommandWord) (numbers : List (Option ℕ)) (wish : Wish) : Type 0 where
  pub command_is : command_of wish ≡ command
  pub gives : (items : List Item) → AreNumbers command numbers items → Gives items wish

-- The command with these numbers for its options is no wish.
abbrev pub MeansNothing : CommandWord → List (Option ℕ) → Type 0
MeansNothing command numbers = (items : List Item) → AreNumbers command numbers items → (wish : Wish) → command_of wish ≡ command → Gives items wish → ⊥
