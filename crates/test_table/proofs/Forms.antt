-- A command that words spell, within the limits of a line, keeps the forms and limits of its words.
use Rattle.std.proofs.Common.{◌≡◌, ℕ, ◌^◌, List, [], ◌∷◌, Bool, true, false, refl, subst, Option, Some, None, ◌&&◌}
use Rattle.std.specs.Prelude.{IsTrue, IfOk, IfSome, Result, Ok, Err, ◌==◌, nat_le, nat_lt, bytes_eq, length}
use Rattle.std.specs.List.{slice_split, list_all}
use Rattle.std.proofs.lemmas.Bool.{and_parts, and_from, eqb-true}
use lib.Pointwise.{pointwise}
use Rattle.table_model.specs.declared.command.Command.{Command}
use Rattle.table_model.specs.declared.reply.Refusal.{Refusal}
use Rattle.table_model.specs.Words.{is_name, is_kept_name, is_number, number_of, is_digit, are_oid_parts, is_data, dot, data_count, data_most}
use Rattle.table_model.specs.Requests.{Request, Reference, Bound, Numbered, ByWord, ByBytes, request_of, is_request, is_reference, is_given, is_kept_name_if, is_position, frames_most}
use Rattle.table_model.specs.Requests as request
use Rattle.table_model.proofs.KeptNames.{name_is_kept}
use Rattle.script_lines.specs.Lines.{Short}
use Rattle.script_lang.specs.LineWords.{words_of}
use Rattle.script_lang.specs.Grammar.{Slot, Key, Name, At, Number, Frames, Of, Given, NoWord, fits, row, within}
use Rattle.script_lang.specs.Reading.{Reads}
use Rattle.script_lang.specs.Parsed.{reading_of}
use Rattle.ex_base.proofs.Booleans.{three_true}

abbrev form : Slot → Bool
form (Key key) = true
form (Name name) = is_name name
form (At name) = is_name name
form (Number n) = is_position n
form (Frames n) = nat_le 1 n && nat_le n frames_most
form (Of x) = is_reference x
form (Given given) = is_data given
form NoWord = false

number_fits : (word : List ℕ) (n : ℕ) → is_number word ≡ true → (number_of word == n) ≡ true → is_position n ≡ true
number_fits word n is same =
    let small = (and_parts (nat_le 1 (length word) && nat_le (length word) 20 && list_all is_digit word) (nat_lt (number_of word) (2 ^ 64)) is).1 in
    subst (λ (k : ℕ). nat_lt k (2 ^ 64) ≡ true) (eqb-true (number_of word) n same) small

one_fits : (word : List ℕ) (n : ℕ) → (is_number word && (number_of word == n)) ≡ true → is_position n ≡ true
one_fits word n h = let both = and_parts (is_number word) (number_of word == n) h in number_fits word n both.0 both.1

oid_fits : (parts : List (List ℕ)) (page slot unique : ℕ) → are_oid_parts parts page slot unique ≡ true → is_reference (Numbered page slot unique) ≡ true
oid_fits [] page slot unique h = cc
oid_fits (p ∷ []) page slot unique h = cc
oid_fits (p ∷ s ∷ []) page slot unique h = cc
oid_fits (p ∷ s ∷ u ∷ []) page slot unique h =
    let outer = and_parts ((is_number p && (number_of p == page)) && (is_number s && (number_of s == slot))) (is_number u && (number_of u == unique)) h in
    let inner = and_parts (is_number p && (number_of p == page)) (is_number s && (number_of s == slot)) outer.0 in
    and_from (nat_lt page (2 ^ 64) && nat_lt slot (2 ^ 64)) (nat_lt unique (2 ^ 64))
    (and_from (nat_lt page (2 ^ 64)) (nat_lt slot (2 ^ 64)) (one_fits p page inner.0) (one_fits s slot inner.1)) (one_fits u unique outer.1)
oid_fits (p ∷ s ∷ u ∷ v ∷ rest) page slot unique h = cc

fits_form : (s : Slot) (word : List ℕ) → fits s word ≡ true → form s ≡ true
fits_form (Key key) word h = refl
fits_form (Name name) word h = (and_parts (bytes_eq name word) (is_name name) h).1
fits_form (At name) word h = (and_parts (bytes_eq (64 ∷ name) word) (is_name name) h).1
fits_form (Number n) word h = one_fits word n h
fits_form (Frames n) word h =
    let outer = and_parts (is_number word && (number_of word == n) && nat_le 1 n) (nat_le n 1024) h in
    let inner = and_parts (is_number word && (number_of word == n)) (nat_le 1 n) outer.0 in
    and_from (nat_le 1 n) (nat_le n frames_most) inner.1 outer.1
fits_form (Of (Bound name)) word h = name_is_kept name (and_parts (bytes_eq (64 ∷ name) word) (is_name name) h).1
fits_form (Of (Numbered page slot unique)) word h = oid_fits (slice_split dot word) page slot unique h
fits_form (Given given) word h = (and_parts (bytes_eq given word) (is_data given) h).1
fits_form NoWord word h = h

abbrev Forms : List Slot → Type 0
Forms [] = Unit {0}
Forms (s ∷ ss) = (form s ≡ true) × Forms ss

all_forms : (ss : List Slot) (words : List (List ℕ)) → pointwise fits ss words ≡ true → Forms ss
all_forms [] words h = tt
all_forms (s ∷ ss) [] h = cc
all_forms (s ∷ ss) (w ∷ ws) h = let both = and_parts (fits s w) (pointwise fits ss ws) h in (fits_form s w both.0, all_forms ss ws both.1)

group_form : (x : Reference) (name : List ℕ) (group : Option (List ℕ)) → Forms (row (request.Scan x name group)) → is_request (request.Scan x name group) ≡ true
group_form x name None f = three_true (is_reference x) (is_kept_name name) true f.1.0 (name_is_kept name f.1.1.1.0) refl
group_form x name (Some g) f = three_true (is_reference x) (is_kept_name name) (is_kept_name g) f.1.0 (name_is_kept name f.1.1.1.0) (name_is_kept g f.1.1.1.1.1.0)

from_forms : (r : Request) → Forms (row r) → within r ≡ true → is_request r ≡ true
from_forms request.Begin f w = refl
from_forms request.Commit f w = refl
from_forms request.Abort f w = refl
from_forms request.Checkpoint f w = refl
from_forms request.Log f w = refl
from_forms request.Files f w = refl
from_forms request.Space f w = refl
from_forms (request.File name) f w = f.1.0
from_forms (request.Unfile name) f w = f.1.0
from_forms (request.ListFile name) f w = f.1.0
from_forms (request.Create file None) f w = and_from (is_name file) (is_kept_name_if None) f.1.0 refl
from_forms (request.Create file (Some bind)) f w = and_from (is_name file) (is_kept_name bind) f.1.0 (name_is_kept bind f.1.1.1.0)
from_forms (request.Destroy x) f w = f.1.0
from_forms (request.Size x) f w = f.1.0
from_forms (request.Stat x) f w = f.1.0
from_forms (request.Digest x) f w = f.1.0
from_forms (request.Versions x) f w = f.1.0
from_forms (request.DropVersion x) f w = f.1.0
from_forms (request.Read x pos len) f w = three_true (is_reference x) (is_position pos) (nat_le len data_most) f.1.0 f.1.1.0 w
from_forms (request.Insert x pos (ByWord g)) f w = three_true (is_reference x) (is_position pos) (is_given (ByWord g)) f.1.0 f.1.1.0 (and_from (is_data g) (nat_le (data_count g) data_most) f.1.1.1.0 w)
from_forms (request.Insert x pos (ByBytes g)) f w = three_true (is_reference x) (is_position pos) (is_given (ByBytes g)) f.1.0 f.1.1.0 w
from_forms (request.Append x (ByWord g)) f w = and_from (is_reference x) (is_given (ByWord g)) f.1.0 (and_from (is_data g) (nat_le (data_count g) data_most) f.1.1.0 w)
from_forms (request.Append x (ByBytes g)) f w = and_from (is_reference x) (is_given (ByBytes g)) f.1.0 w
from_forms (request.Replace x pos (ByWord g)) f w = three_true (is_reference x) (is_position pos) (is_given (ByWord g)) f.1.0 f.1.1.0 (and_from (is_data g) (nat_le (data_count g) data_most) f.1.1.1.0 w)
from_forms (request.Replace x pos (ByBytes g)) f w = three_true (is_reference x) (is_position pos) (is_given (ByBytes g)) f.1.0 f.1.1.0 w
from_forms (request.Delete x pos len) f w = three_true (is_reference x) (is_position pos) (is_position len) f.1.0 f.1.1.0 f.1.1.1.0
from_forms (request.Freeze x None) f w = and_from (is_reference x) (is_kept_name_if None) f.1.0 refl
from_forms (request.Freeze x (Some bind)) f w = and_from (is_reference x) (is_kept_name bind) f.1.0 (name_is_kept bind f.1.1.1.0)
from_forms (request.Derive x None) f w = and_from (is_reference x) (is_kept_name_if None) f.1.0 refl
from_forms (request.Derive x (Some bind)) f w = and_from (is_reference x) (is_kept_name bind) f.1.0 (name_is_kept bind f.1.1.1.0)
from_forms (request.Group name frames mru) f w =
    let parts = and_parts (nat_le 1 frames) (nat_le frames frames_most) f.1.1.0 in
    three_true (is_kept_name name) (nat_le 1 frames) (nat_le frames frames_most) (name_is_kept name f.1.0) parts.0 parts.1
from_forms (request.Scan x name group) f w = group_form x name group f
from_forms (request.Next name len) f w = and_from (is_kept_name name) (nat_le len data_most) (name_is_kept name f.1.0) w
from_forms (request.Close name) f w = name_is_kept name f.1.0

pub read_form : (line : List ℕ) (said : Result (Option Command) Refusal) → Reads (Short line) (reading_of said) → IfOk said (λ o. IfSome o (λ c. IsTrue (is_request (request_of c))))
read_form line (Err why) says = tt
read_form line (Ok None) says = tt
read_form line (Ok (Some c)) says = from_forms (request_of c) (all_forms (row (request_of c)) (words_of line) says.0) says.1
