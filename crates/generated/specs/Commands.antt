-- The commands of the script, each on one of four objects.
use Rattle.std.specs.Prelude.{ℕ, ◌+◌, ◌-◌, ◌%◌, ◌==◌, nat_le, min, if◌then◌else◌, List, [], ◌∷◌, ◌++◌, codes, decimal, slice_index_or, slice_set}
use Rattle.std.specs.List.{join_with_byte}
use Rattle.hex.specs.Hex.{encode_lower}
use Rattle.generated.specs.Draws.{draw_of, state_after}
use Rattle.generated.specs.declared.edit.Edit.{Edit}
use Rattle.generated.specs.declared.edit.Edit.TheVariants.{Append, Insert, Replace, Delete, Freeze, Read}

-- What a command does to an object of so many bytes: by the kind from 0 to 15, the position, and the draw for how many bytes.
abbrev pub edit_of : ℕ → ℕ → ℕ → ℕ → Edit
edit_of kind at amount size =
    if nat_le kind 4 then Append (amount % 3000)
    else (if nat_le kind 8 then Insert at (amount % 500)
    else (if nat_le kind 11 then Replace at (min (size - at) (amount % 1000))
    else (if nat_le kind 13 then Delete at (min (size - at) (amount % 2000))
    else (if kind == 14 then Freeze
    else Read at (min (size - at) (amount % 200))))))

-- the bytes of its object after it, where it is accepted
abbrev pub size_after : Edit → ℕ → ℕ
size_after (Append count) size = size + count
size_after (Insert at count) size = size + count
size_after (Replace at count) size = size
size_after (Delete at count) size = size - count
size_after Freeze size = size
size_after (Read at count) size = size

-- ---- its line

abbrev pub object_word : ℕ → List ℕ
object_word object = codes "@g" ++ decimal object

-- one byte, so many times
abbrev pub repeated_word : ℕ → ℕ → List ℕ
repeated_word count byte = codes "rep:" ++ decimal count ++ codes ":" ++ encode_lower (byte ∷ [])

-- the words of the command of that number, on that object, with that byte
abbrev pub words_of : ℕ → ℕ → ℕ → Edit → List (List ℕ)
words_of index object byte (Append count) = codes "append" ∷ object_word object ∷ repeated_word count byte ∷ []
words_of index object byte (Insert at count) = codes "insert" ∷ object_word object ∷ decimal at ∷ repeated_word count byte ∷ []
words_of index object byte (Replace at count) = codes "replace" ∷ object_word object ∷ decimal at ∷ repeated_word count byte ∷ []
words_of index object byte (Delete at count) = codes "delete" ∷ object_word object ∷ decimal at ∷ decimal count ∷ []
words_of index object byte Freeze = codes "freeze" ∷ object_word object ∷ codes "as" ∷ (codes "@v" ++ decimal index) ∷ []
words_of index object byte (Read at count) = codes "read" ∷ object_word object ∷ decimal at ∷ decimal count ∷ []

unfoldable pub command_line : ℕ → ℕ → ℕ → Edit → List ℕ
command_line index object byte edit = join_with_byte 32 (words_of index object byte edit)

-- ---- what is drawn for it

-- What the next command is made from: the state of the draws, and the bytes that each object has where every line is accepted.
pub record Basis : Type 0 where
  pub state : ℕ
  pub sizes : List ℕ

abbrev pub size_of : Basis → ℕ → ℕ
size_of basis object = slice_index_or basis.sizes object 0

-- The first draw is for the kind, the second for the object, the third for the position, and the fourth for the number of bytes and for the byte.
abbrev pub object_for : Basis → ℕ
object_for basis = draw_of 2 basis.state % 4

abbrev pub size_for : Basis → ℕ
size_for basis = size_of basis (object_for basis)

abbrev pub byte_for : Basis → ℕ
byte_for basis = draw_of 4 basis.state % 256

abbrev pub edit_for : Basis → Edit
edit_for basis = edit_of (draw_of 1 basis.state % 16) (draw_of 3 basis.state % (size_for basis + 1)) (draw_of 4 basis.state) (size_for basis)

-- the line of the command of that number
unfoldable pub line_for : ℕ → Basis → List ℕ
line_for index basis = command_line index (object_for basis) (byte_for basis) (edit_for basis)

-- what the one behind it is made from
unfoldable pub basis_after : Basis → Basis
basis_after basis = record {
  state = state_after 4 basis.state;
  sizes = slice_set basis.sizes (object_for basis) (size_after (edit_for basis) (size_for basis));
}
