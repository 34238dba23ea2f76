-- What stands at the front of a line of a schedule, and what the line then says.
use Rattle.std.proofs.Common.{◌≡◌, ◌∙◌, ℕ, List, [], ◌∷◌, inl, inr, refl, sym, IsTrue}
use Rattle.std.specs.Prelude.{decimal}
use Rattle.std.specs.List.{slice_split}
use Rattle.table_model.specs.Requests.{Request}
use Rattle.table_model.specs.declared.reply.Refusal.{Refusal}
use Rattle.table_model.specs.declared.reply.Refusal.TheVariants as refusal
use Rattle.script_lines.specs.Lines.{Short}
use Rattle.script_lang.specs.LineWords.{words_of}
use Rattle.script_lang.specs.Reading.{Reading, Silent, Asks, Fails, Says, is_silent}
use Rattle.runs.specs.Acknowledged.{is_space}
use Rattle.clients.specs.Names.{IsClient}
use Rattle.clients.specs.Turns.{IsOf, IsQuiet, IsSaid, IsTurn, IsUnread, Said}
use Rattle.clients.specs.Turns as quiet
use Rattle.clients.proofs.Numbers.{alone_parts, parts_of, some_parts}

-- ---- a line that begins with no client's number

-- No client's number and a space stand at its front,
abbrev pub IsApart : List ℕ → Type 0
IsApart line = (k : ℕ) (rest : List ℕ) → IsOf k line rest → ⊥

-- nor is it such a number alone.
abbrev pub IsNoNumber : List ℕ → Type 0
IsNoNumber word = (k : ℕ) → IsClient k → word ≡ decimal k → ⊥

pub first_apart : (line word rest : List ℕ) → slice_split is_space line ≡ word ∷ slice_split is_space rest → IsNoNumber word → IsApart line
first_apart line word rest parts none k behind of =
    none k of.0 (let both : word ∷ slice_split is_space rest ≡ decimal k ∷ slice_split is_space behind = sym parts ∙ parts_of k line behind of in cc)

pub first_no_number : (line word rest : List ℕ) → slice_split is_space line ≡ word ∷ slice_split is_space rest → IsNoNumber line
first_no_number line word rest parts k few is =
    some_parts rest (let both : word ∷ slice_split is_space rest ≡ line ∷ [] = sym parts ∙ alone_parts k line is in cc)

pub whole_apart : (line : List ℕ) → slice_split is_space line ≡ line ∷ [] → IsApart line
whole_apart line parts k rest of =
    some_parts rest (let both : decimal k ∷ slice_split is_space rest ≡ line ∷ [] = sym (parts_of k line rest of) ∙ parts in cc)

-- It isn't quiet, where its words say something.
pub not_quiet : (line : List ℕ) → IsApart line → IsNoNumber line → (IsTrue (is_silent (words_of line)) → ⊥) → IsQuiet line → ⊥
not_quiet line apart alone loud (quiet.silent silent) = loud silent
not_quiet line apart alone loud (quiet.alone k few is) = alone k few is
not_quiet line apart alone loud (quiet.silent_of k rest of silent) = apart k rest of

-- ---- what says something isn't silent

pub asks_loud : (words : List (List ℕ)) (r : Request) → ((reading : Reading) → Says words reading → reading ≡ Asks r) → IsTrue (is_silent words) → ⊥
asks_loud words r one silent = let no : Silent ≡ Asks r = one Silent silent in cc

pub fails_loud : (words : List (List ℕ)) (why : Refusal) → ((reading : Reading) → Says words reading → reading ≡ Fails why) → IsTrue (is_silent words) → ⊥
fails_loud words why one silent = let no : Silent ≡ Fails why = one Silent silent in cc

-- ---- turns

pub client_says : (line rest : List ℕ) (k : ℕ) (reading : Reading) → IsOf k line rest → (IsTrue (is_silent (words_of rest)) → ⊥) → Says (words_of rest) reading → IsTurn (Short line) (Said k reading)
client_says line rest k reading of loud says = inl (record { rest = rest; is_of = of; loud = loud; says = says })

pub unread_says : (line : List ℕ) → (IsQuiet line → ⊥) → IsApart line → IsTurn (Short line) (Said 0 (Fails refusal.Syntax))
unread_says line loud apart = inr (record { client = refl; syntax = refl; loud = loud; of_none = apart })
