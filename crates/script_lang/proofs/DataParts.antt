-- The parts of data words and of object identifiers.
use Rattle.std.proofs.Common.{◌≡◌, ℕ, ◌/◌, List, [], ◌∷◌, length, Bool, false, true, ◌&&◌, Some, None, ap, sym, ◌∙◌, refl}
use Rattle.std.specs.Prelude.{◌==◌, codes, bytes_eq}
use Rattle.std.specs.List.{slice_split, onto_first, join_with_byte}
use Rattle.std.proofs.lemmas.Slice.Eq.{bytes_eq-Decides}
use Rattle.std.proofs.lemmas.List.Splits.{join_with_byte-slice_split}
use Rattle.data_words.proofs.HexParts.{and_right, hex_part}
use Rattle.table_model.specs.Words.{is_hex, colon, dot}
use Rattle.script_lang.specs.Forms.{number_in, numbered_in, numbered_in_parts, count_in, count_in_parts}

-- ---- parts

-- there is a first part
pub some_part : (p : ℕ → Bool) (xs : List ℕ) → (h : List ℕ) × (t : List (List ℕ)) × (slice_split p xs ≡ h ∷ t)
some_part p [] = ([], [], refl)
some_part p (x ∷ xs) = go (p x) refl (some_part p xs)
  where
    go : (b : Bool) → p x ≡ b → ((h : List ℕ) × (t : List (List ℕ)) × (slice_split p xs ≡ h ∷ t)) → (h : List ℕ) × (t : List (List ℕ)) × (slice_split p (x ∷ xs) ≡ h ∷ t)
    go true e rest = ([], slice_split p xs, rw e refl)
    go false e (h, t, split) = (x ∷ h, t, (let first : slice_split p (x ∷ xs) ≡ onto_first x (slice_split p xs) = rw e refl in first) ∙ ap (onto_first x) split)

-- a part alone is all
pub only_part : (at : ℕ) (xs a : List ℕ) → slice_split (λ b. b == at) xs ≡ a ∷ [] → a ≡ xs
only_part at xs a e = sym (ap (join_with_byte at) e) ∙ join_with_byte-slice_split at xs

-- ---- object identifiers

-- a fourth part
pub four_parts : (word p r s u a b : List ℕ) → slice_split dot word ≡ p ∷ slice_split dot r → slice_split dot r ≡ s ∷ slice_split dot u
    → slice_split dot u ≡ a ∷ slice_split dot b → numbered_in word ≡ None
four_parts word p r s u a b e f g =
    let last = some_part dot b in
    ap numbered_in_parts (e ∙ ap (λ l. p ∷ l) (f ∙ ap (λ l. s ∷ l) (g ∙ ap (λ l. a ∷ l) last.2)))

-- ---- data words

hex_key : (key : List ℕ) → bytes_eq key (codes "hex") ≡ true → key ≡ codes "hex"
hex_key key h = (bytes_eq-Decides key (codes "hex")).0 h

rep_key : (key : List ℕ) → bytes_eq key (codes "rep") ≡ true → key ≡ codes "rep"
rep_key key h = (bytes_eq-Decides key (codes "rep")).0 h

pub hex_counted : (word key rest : List ℕ) → slice_split colon word ≡ key ∷ slice_split colon rest → bytes_eq key (codes "hex") ≡ true → is_hex rest ≡ true
    → count_in word ≡ Some (length rest / 2)
hex_counted word key rest split named h =
    let parts : slice_split colon word ≡ codes "hex" ∷ rest ∷ [] = split ∙ (λ k. hex_key key named k ∷ hex_part rest h k) in
    ap count_in_parts parts ∙ rw h refl

pub not_hex : (word key rest : List ℕ) → slice_split colon word ≡ key ∷ slice_split colon rest → bytes_eq key (codes "hex") ≡ true → is_hex rest ≡ false
    → count_in word ≡ None
not_hex word key rest split named h = ap count_in_parts split ∙ ap (λ k. count_in_parts (k ∷ slice_split colon rest)) (hex_key key named) ∙ go (slice_split colon rest) refl
  where
    go : (parts : List (List ℕ)) → slice_split colon rest ≡ parts → count_in_parts (codes "hex" ∷ parts) ≡ None
    go [] e = refl
    go (a ∷ []) e = let all : a ≡ rest = only_part 58 rest a e in let no : is_hex a ≡ false = ap is_hex all ∙ h in rw no refl
    go (a ∷ b ∷ []) e = refl
    go (a ∷ b ∷ c ∷ more) e = refl

abbrev pub is_byte : List ℕ → Bool
is_byte byte = (length byte == 2) && is_hex byte

pub rep_counted : (word key rest count byte : List ℕ) → slice_split colon word ≡ key ∷ slice_split colon rest → bytes_eq key (codes "rep") ≡ true
    → slice_split colon rest ≡ count ∷ slice_split colon byte → is_byte byte ≡ true → count_in word ≡ number_in count
rep_counted word key rest count byte split named second h =
    let parts : slice_split colon word ≡ codes "rep" ∷ count ∷ byte ∷ [] =
    split ∙ (λ k. rep_key key named k ∷ (second ∙ ap (λ l. count ∷ l) (hex_part byte (and_right _ _ h))) k) in
    ap count_in_parts parts ∙ rw h refl

pub not_rep : (word key rest count byte : List ℕ) → slice_split colon word ≡ key ∷ slice_split colon rest → bytes_eq key (codes "rep") ≡ true
    → slice_split colon rest ≡ count ∷ slice_split colon byte → is_byte byte ≡ false → count_in word ≡ None
not_rep word key rest count byte split named second h =
    ap count_in_parts (split ∙ (λ k. rep_key key named k ∷ second k)) ∙ go (slice_split colon byte) refl
  where
    go : (parts : List (List ℕ)) → slice_split colon byte ≡ parts → count_in_parts (codes "rep" ∷ count ∷ parts) ≡ None
    go [] e = refl
    go (a ∷ []) e = let all : a ≡ byte = only_part 58 byte a e in let no : is_byte a ≡ false = ap is_byte all ∙ h in rw no refl
    go (a ∷ b ∷ []) e = refl
    go (a ∷ b ∷ c ∷ more) e = refl
