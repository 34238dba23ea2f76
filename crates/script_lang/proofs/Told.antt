-- The rows and the grammar say the same.
use Rattle.std.proofs.Common.{◌≡◌, ℕ, List, [], ◌∷◌, false, true, Option, Some, None, sym, refl, true≢false}
use Rattle.std.specs.Prelude.{nat_le}
use Rattle.std.proofs.lemmas.Bool.{and_from}
use Rattle.table_model.specs.Words.{data_most}
use Rattle.table_model.specs.Requests.{Request, ByWord, ByBytes, is_request, is_spelled, binds_name, gives_word}
use Rattle.table_model.specs.Requests as request
use Rattle.table_model.proofs.KeptNames.{name_is_kept}
use Rattle.script_lang.specs.Forms.{◌>>=◌}
use Rattle.script_lang.specs.Grammar.{Slot, Key, row, spells, within}
use Rattle.script_lang.specs.Reading.{is_comment}
use Rattle.script_lang.specs.Rows.{LineRow, rows, row_of, Values, nothing, asked}
use Rattle.script_lang.proofs.Keeps.{slot_kept, fits_kept, slot_spelled, Kept, all_kept}
use Rattle.script_lang.proofs.Slots.{and_first, and_second}
use Rattle.script_lang.proofs.RowReads.{fill, Every}

-- ---- each command has a row

-- the command whose words these slots take
abbrev pub told : List Slot → Option Request
told (Key key ∷ slots) = row_of key >>= (λ line. fill line.2 slots nothing >>= (λ v. Some (asked line.0 v v.bytes)))
told _ = None

-- A slot that no word fits stands in no row that words spell.
row_kept : (r : Request) (words : List (List ℕ)) → spells words r ≡ true → Kept slot_kept (row r)
row_kept r words h = all_kept slot_kept fits_kept (row r) words h

pub told_row : (r : Request) (words : List (List ℕ)) → spells words r ≡ true → told (row r) ≡ Some r
told_row request.Begin words h = refl
told_row request.Commit words h = refl
told_row request.Abort words h = refl
told_row request.Checkpoint words h = refl
told_row request.Log words h = refl
told_row request.Files words h = refl
told_row request.Space words h = refl
told_row (request.File name) words h = refl
told_row (request.Unfile name) words h = refl
told_row (request.ListFile name) words h = refl
told_row (request.Close name) words h = refl
told_row (request.Destroy x) words h = refl
told_row (request.Size x) words h = refl
told_row (request.Stat x) words h = refl
told_row (request.Digest x) words h = refl
told_row (request.Versions x) words h = refl
told_row (request.DropVersion x) words h = refl
told_row (request.Create file None) words h = absurd (true≢false (sym (row_kept (request.Create file None) words h).1.1.1.0))
told_row (request.Create file (Some bind)) words h = refl
told_row (request.Freeze x None) words h = absurd (true≢false (sym (row_kept (request.Freeze x None) words h).1.1.1.0))
told_row (request.Freeze x (Some bind)) words h = refl
told_row (request.Derive x None) words h = absurd (true≢false (sym (row_kept (request.Derive x None) words h).1.1.1.0))
told_row (request.Derive x (Some bind)) words h = refl
told_row (request.Read x pos len) words h = refl
told_row (request.Insert x pos (ByWord word)) words h = refl
told_row (request.Insert x pos (ByBytes bytes)) words h = absurd (true≢false (sym (row_kept (request.Insert x pos (ByBytes bytes)) words h).1.1.1.0))
told_row (request.Append x (ByWord word)) words h = refl
told_row (request.Append x (ByBytes bytes)) words h = absurd (true≢false (sym (row_kept (request.Append x (ByBytes bytes)) words h).1.1.0))
told_row (request.Replace x pos (ByWord word)) words h = refl
told_row (request.Replace x pos (ByBytes bytes)) words h = absurd (true≢false (sym (row_kept (request.Replace x pos (ByBytes bytes)) words h).1.1.1.0))
told_row (request.Delete x pos len) words h = refl
told_row (request.Group name frames false) words h = refl
told_row (request.Group name frames true) words h = refl
told_row (request.Scan x name None) words h = refl
told_row (request.Scan x name (Some group)) words h = refl
told_row (request.Next name len) words h = refl

-- ---- each row has a command

-- It binds a name, where it makes a version, and gives a data word, where it gives bytes; its names are spelled, and it keeps the forms and limits of commands.
abbrev pub Keeping : List Slot → Request → Type 0
Keeping slots r =
    (binds_name r ≡ true)
    × (gives_word r ≡ true)
    × (Kept slot_spelled slots → is_spelled r ≡ true)
    × (Kept slot_kept slots → within r ≡ true → is_request r ≡ true)

-- The command of these values has these slots, gives and asks for so many bytes, and keeps the rules of commands.
abbrev pub Meant : LineRow → List Slot → Values → Type 0
Meant line slots v =
    (row (asked line.0 v v.bytes) ≡ Key line.1 ∷ slots)
    × (within (asked line.0 v v.bytes) ≡ nat_le v.bytes data_most)
    × Keeping slots (asked line.0 v v.bytes)

-- Its first word begins no comment, and whatever its places say is the command that it makes.
abbrev pub Sound : LineRow → Type 0
Sound line = (is_comment line.1 ≡ false) × Every line.2 (Meant line) nothing

abbrev pub AllSound : List LineRow → Type 0
AllSound [] = Unit {0}
AllSound (line ∷ lines) = Sound line × AllSound lines

infixr 5 ◌&◌
abbrev ◌&◌ : {A B : Type 0} → A → B → A × B
a & b = (a, b)

pub all_sound : AllSound rows
all_sound =
    (refl, (refl, refl, (refl, refl, (λ k. refl), (λ k w. refl))))
    & (refl, (refl, refl, (refl, refl, (λ k. refl), (λ k w. refl))))
    & (refl, (refl, refl, (refl, refl, (λ k. refl), (λ k w. refl))))
    & (refl, (refl, refl, (refl, refl, (λ k. refl), (λ k w. refl))))
    & (refl, (refl, refl, (refl, refl, (λ k. refl), (λ k w. refl))))
    & (refl, (refl, refl, (refl, refl, (λ k. refl), (λ k w. refl))))
    & (refl, (refl, refl, (refl, refl, (λ k. refl), (λ k w. refl))))
    & (refl, λ name. (refl, refl, (refl, refl, (λ k. refl), (λ k w. k.0))))
    & (refl, λ name. (refl, refl, (refl, refl, (λ k. refl), (λ k w. k.0))))
    & (refl, λ name. (refl, refl, (refl, refl, (λ k. refl), (λ k w. k.0))))
    & (refl, λ name. (refl, refl, (refl, refl, (λ k. k.0), (λ k w. name_is_kept name k.0))))
    & (refl, λ x. (refl, refl, (refl, refl, (λ k. k.0), (λ k w. k.0))))
    & (refl, λ x. (refl, refl, (refl, refl, (λ k. k.0), (λ k w. k.0))))
    & (refl, λ x. (refl, refl, (refl, refl, (λ k. k.0), (λ k w. k.0))))
    & (refl, λ x. (refl, refl, (refl, refl, (λ k. k.0), (λ k w. k.0))))
    & (refl, λ x. (refl, refl, (refl, refl, (λ k. k.0), (λ k w. k.0))))
    & (refl, λ x. (refl, refl, (refl, refl, (λ k. k.0), (λ k w. k.0))))
    & (refl, λ name bind. (refl, refl, (refl, refl, (λ k. k.1.1.0), (λ k w. and_from _ _ k.0 (name_is_kept bind k.1.1.0)))))
    & (refl, λ x bind. (refl, refl, (refl, refl, (λ k. and_from _ _ k.0 k.1.1.0), (λ k w. and_from _ _ k.0 (name_is_kept bind k.1.1.0)))))
    & (refl, λ x bind. (refl, refl, (refl, refl, (λ k. and_from _ _ k.0 k.1.1.0), (λ k w. and_from _ _ k.0 (name_is_kept bind k.1.1.0)))))
    & (refl, λ x pos n. (refl, refl, (refl, refl, (λ k. k.0), (λ k w. and_from _ _ (and_from _ _ k.0 k.1.0) w))))
    & (refl, λ x pos word. (refl, refl, (refl, refl, (λ k. k.0), (λ k w. and_from _ _ (and_from _ _ k.0 k.1.0) (and_from _ _ k.1.1.0 w)))))
    & (refl, λ x word. (refl, refl, (refl, refl, (λ k. k.0), (λ k w. and_from _ _ k.0 (and_from _ _ k.1.0 w)))))
    & (refl, λ x pos word. (refl, refl, (refl, refl, (λ k. k.0), (λ k w. and_from _ _ (and_from _ _ k.0 k.1.0) (and_from _ _ k.1.1.0 w)))))
    & (refl, λ x pos n. (refl, refl, (refl, refl, (λ k. k.0), (λ k w. and_from _ _ (and_from _ _ k.0 k.1.0) k.1.1.0))))
    & (refl, λ name frames. ((refl, refl, (refl, refl, (λ k. k.0), (λ k w. and_from _ _ (and_from _ _ (name_is_kept name k.0) (and_first _ _ k.1.0)) (and_second _ _ k.1.0)))), (refl, refl, (refl, refl, (λ k. k.0), (λ k w. and_from _ _ (and_from _ _ (name_is_kept name k.0) (and_first _ _ k.1.0)) (and_second _ _ k.1.0))))))
    & (refl, λ x name. ((refl, refl, (refl, refl, (λ k. and_from _ _ (and_from _ _ k.0 k.1.1.0) refl), (λ k w. and_from _ _ (and_from _ _ k.0 (name_is_kept name k.1.1.0)) refl))), λ group. (refl, refl, (refl, refl, (λ k. and_from _ _ (and_from _ _ k.0 k.1.1.0) k.1.1.1.1.0), (λ k w. and_from _ _ (and_from _ _ k.0 (name_is_kept name k.1.1.0)) (name_is_kept group k.1.1.1.1.0))))))
    & (refl, λ name n. (refl, refl, (refl, refl, (λ k. k.0), (λ k w. and_from _ _ (name_is_kept name k.0) w))))
    & tt
