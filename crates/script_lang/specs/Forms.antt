-- What one word says, where it has the form.
use Rattle.std.specs.Prelude.{ℕ, ◌/◌, ◌==◌, ◌&&◌, List, [], ◌∷◌, length, codes, bytes_eq, Bool, true, false, nat_le, if◌then◌else◌, Option, Some, None, option_map}
use Rattle.std.specs.List.{slice_split}
use Rattle.table_model.specs.Words.{is_name, is_number, number_of, is_hex, colon, dot}
use Rattle.table_model.specs.Requests.{Reference, Bound, Numbered}

abbrev pub name_in : List ℕ → Option (List ℕ)
name_in word = if is_name word then Some word else None

-- @ and a name
abbrev pub bound_in : List ℕ → Option (List ℕ)
bound_in [] = None
bound_in (b ∷ name) = if b == 64 then name_in name else None

abbrev pub number_in : List ℕ → Option ℕ
number_in word = if is_number word then Some (number_of word) else None

-- the second step, if the first gave a value
infixl 10 ◌>>=◌
abbrev pub ◌>>=◌ : {A B : Type 0} → Option A → (A → Option B) → Option B
None >>= f = None
Some x >>= f = f x

abbrev pub numbered_in_parts : List (List ℕ) → Option Reference
numbered_in_parts (p ∷ s ∷ u ∷ []) = do
  page ← number_in p
  slot ← number_in s
  unique ← number_in u
  Some (Numbered page slot unique)
numbered_in_parts _ = None

-- page.slot.unique
abbrev pub numbered_in : List ℕ → Option Reference
numbered_in word = numbered_in_parts (slice_split dot word)

abbrev pub begins_with_at : List ℕ → Bool
begins_with_at [] = false
begins_with_at (b ∷ rest) = b == 64

-- @ and a name, or an object identifier
abbrev pub reference_in : List ℕ → Option Reference
reference_in word = if begins_with_at word then option_map Bound (bound_in word) else numbered_in word

-- how many bytes the parts of a data word give
abbrev pub count_in_parts : List (List ℕ) → Option ℕ
count_in_parts (key ∷ digits ∷ []) = if bytes_eq key (codes "hex") && is_hex digits then Some (length digits / 2) else None
count_in_parts (key ∷ count ∷ byte ∷ []) =
    if bytes_eq key (codes "rep") && ((length byte == 2) && is_hex byte) then number_in count else None
count_in_parts _ = None

-- how many bytes a data word gives
abbrev pub count_in : List ℕ → Option ℕ
count_in word = count_in_parts (slice_split colon word)

-- this word and no other
abbrev pub key_in : List ℕ → List ℕ → Option (Unit {0})
key_in key word = if bytes_eq word key then Some tt else None

-- a number from 1 to 1,024
abbrev pub frames_in : List ℕ → Option ℕ
frames_in word = do
  n ← number_in word
  if nat_le 1 n && nat_le n 1024 then Some n else None

-- whether the policy is mru
abbrev pub policy_in : List ℕ → Option Bool
policy_in word = if bytes_eq word (codes "lru") then Some false else if bytes_eq word (codes "mru") then Some true else None
