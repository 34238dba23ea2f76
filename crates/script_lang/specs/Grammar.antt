-- The grammar of a line: for each command the words that spell it, one after the other.
use Rattle.std.specs.Prelude.{ℕ, List, [], ◌∷◌, Bool, true, false, ◌&&◌, ◌==◌, nat_le, bytes_eq, codes, if◌then◌else◌, Option, Some, None}
use lib.Pointwise.{pointwise}
use Rattle.table_model.specs.Words.{is_name, is_number, number_of, is_oid, is_data, data_most}
use Rattle.table_model.specs.Requests.{Request, Reference, Bound, Numbered, Data, ByWord, ByBytes, given_count}
use Rattle.table_model.specs.Requests as request

-- what may stand as one word
pub data Slot : Type 0 where
  Key : List ℕ → Slot  -- this word itself
  Name : List ℕ → Slot  -- a name
  At : List ℕ → Slot  -- @ and a name
  Number : ℕ → Slot  -- a number, in decimal
  Frames : ℕ → Slot  -- a number from 1 to 1,024
  Of : Reference → Slot  -- @ and a name, or page.slot.unique
  Given : List ℕ → Slot  -- a data word
  NoWord : Slot  -- what no word says

-- whether the word fits
abbrev pub fits : Slot → List ℕ → Bool
fits (Key key) word = bytes_eq key word
fits (Name name) word = bytes_eq name word && is_name name
fits (At name) word = bytes_eq (64 ∷ name) word && is_name name
fits (Number n) word = is_number word && (number_of word == n)
fits (Frames n) word = is_number word && (number_of word == n) && nat_le 1 n && nat_le n 1024
fits (Of (Bound name)) word = bytes_eq (64 ∷ name) word && is_name name
fits (Of (Numbered page slot unique)) word = is_oid word page slot unique
fits (Given given) word = bytes_eq given word && is_data given
fits NoWord word = false

abbrev pub in_group : Option (List ℕ) → List Slot
in_group None = []
in_group (Some group) = Key (codes "in") ∷ Name group ∷ []

-- A line that makes a version binds a name.
abbrev pub binding : Option (List ℕ) → Slot
binding None = NoWord
binding (Some name) = At name

-- A line gives bytes by a data word.
abbrev pub giving : Data → Slot
giving (ByWord word) = Given word
giving (ByBytes bytes) = NoWord

abbrev pub policy : Bool → List ℕ
policy mru = if mru then codes "mru" else codes "lru"

-- the row of each command
abbrev pub row : Request → List Slot
row request.Begin = Key (codes "begin") ∷ []
row request.Commit = Key (codes "commit") ∷ []
row request.Abort = Key (codes "abort") ∷ []
row request.Checkpoint = Key (codes "checkpoint") ∷ []
row request.Log = Key (codes "log") ∷ []
row request.Files = Key (codes "files") ∷ []
row request.Space = Key (codes "space") ∷ []
row (request.File name) = Key (codes "file") ∷ Name name ∷ []
row (request.Unfile name) = Key (codes "unfile") ∷ Name name ∷ []
row (request.ListFile name) = Key (codes "list") ∷ Name name ∷ []
row (request.Create file bind) = Key (codes "create") ∷ Name file ∷ Key (codes "as") ∷ binding bind ∷ []
row (request.Destroy x) = Key (codes "destroy") ∷ Of x ∷ []
row (request.Size x) = Key (codes "size") ∷ Of x ∷ []
row (request.Stat x) = Key (codes "stat") ∷ Of x ∷ []
row (request.Digest x) = Key (codes "digest") ∷ Of x ∷ []
row (request.Versions x) = Key (codes "versions") ∷ Of x ∷ []
row (request.DropVersion x) = Key (codes "drop") ∷ Of x ∷ []
row (request.Read x pos len) = Key (codes "read") ∷ Of x ∷ Number pos ∷ Number len ∷ []
row (request.Insert x pos given) = Key (codes "insert") ∷ Of x ∷ Number pos ∷ giving given ∷ []
row (request.Append x given) = Key (codes "append") ∷ Of x ∷ giving given ∷ []
row (request.Replace x pos given) = Key (codes "replace") ∷ Of x ∷ Number pos ∷ giving given ∷ []
row (request.Delete x pos len) = Key (codes "delete") ∷ Of x ∷ Number pos ∷ Number len ∷ []
row (request.Freeze x bind) = Key (codes "freeze") ∷ Of x ∷ Key (codes "as") ∷ binding bind ∷ []
row (request.Derive x bind) = Key (codes "derive") ∷ Of x ∷ Key (codes "as") ∷ binding bind ∷ []
row (request.Group name frames mru) = Key (codes "group") ∷ Name name ∷ Frames frames ∷ Key (policy mru) ∷ []
row (request.Scan x name group) = Key (codes "scan") ∷ Of x ∷ Key (codes "as") ∷ Name name ∷ in_group group
row (request.Next name len) = Key (codes "next") ∷ Name name ∷ Number len ∷ []
row (request.Close name) = Key (codes "close") ∷ Name name ∷ []

-- whether the words spell the command
abbrev pub spells : List (List ℕ) → Request → Bool
spells words r = pointwise fits (row r) words

-- whether it gives and asks for no more bytes than one line may
abbrev pub within : Request → Bool
within (request.Insert x pos given) = nat_le (given_count given) data_most
within (request.Append x given) = nat_le (given_count given) data_most
within (request.Replace x pos given) = nat_le (given_count given) data_most
within (request.Read x pos len) = nat_le len data_most
within (request.Next name len) = nat_le len data_most
within _ = true
