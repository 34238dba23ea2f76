-- What the words of a line say at the places of its row.
use Rattle.std.specs.Prelude.{ℕ, List, [], ◌∷◌, map, codes, bytes_eq, Bool, true, false, if◌then◌else◌, Option, Some, None}
use Rattle.std.specs.List.{find}
use Rattle.table_model.specs.Requests.{Request, Reference, Bound, ByWord}
use Rattle.table_model.specs.Requests as request
use Rattle.script_lang.specs.Forms.{◌>>=◌, name_in, bound_in, number_in, reference_in, count_in, key_in, frames_in, policy_in}
use Rattle.script_lang.specs.declared.rows.Verb.{Verb}
use Rattle.script_lang.specs.declared.rows.Verb.TheVariants as verb
use Rattle.script_lang.specs.declared.rows.WordPlace.{WordPlace}
use Rattle.script_lang.specs.declared.rows.WordPlace.TheVariants as place
use Rattle.script_lang.specs.declared.rows.TheConstants.{ROWS}

-- a command, its first word, and what the words behind it say
abbrev pub LineRow : Type 0
LineRow = Verb × List ℕ × List WordPlace

abbrev pub rows : List LineRow
rows = map (λ row. (row.0, row.1.now, row.2.now)) ROWS

-- the first row that a word begins
abbrev pub row_in : List LineRow → List ℕ → Option LineRow
row_in lines word = find (λ (line : LineRow). bytes_eq word line.1) lines

abbrev pub row_of : List ℕ → Option LineRow
row_of word = row_in rows word

-- what words say
pub record Values : Type 0 where
  pub x : Reference
  pub name : List ℕ
  pub bind : Option (List ℕ)
  pub group : Option (List ℕ)
  pub pos : ℕ
  pub count : ℕ
  pub bytes : ℕ
  pub given : List ℕ
  pub frames : ℕ
  pub mru : Bool

abbrev pub nothing : Values
nothing = record { x = Bound []; name = []; bind = None; group = None; pos = 0; count = 0; bytes = 0; given = []; frames = 0; mru = false }

-- with what a word says at that place
abbrev pub put : WordPlace → List ℕ → Values → Option Values
put place.Object word v = reference_in word >>= (λ x. Some (record v { x = x }))
put place.Name word v = name_in word >>= (λ name. Some (record v { name = name }))
put place.Bind word v = bound_in word >>= (λ name. Some (record v { bind = Some name }))
put place.Group word v = name_in word >>= (λ name. Some (record v { group = Some name }))
put place.Position word v = number_in word >>= (λ n. Some (record v { pos = n }))
put place.Count word v = number_in word >>= (λ n. Some (record v { count = n }))
put place.Length word v = number_in word >>= (λ n. Some (record v { bytes = n }))
put place.Data word v = count_in word >>= (λ n. Some (record v { bytes = n; given = word }))
put place.Frames word v = frames_in word >>= (λ n. Some (record v { frames = n }))
put place.Policy word v = policy_in word >>= (λ mru. Some (record v { mru = mru }))
put place.As word v = key_in (codes "as") word >>= (λ _. Some v)
put place.In word v = key_in (codes "in") word >>= (λ _. Some v)

-- A line may end before `in`.
abbrev pub may_miss : WordPlace → Bool
may_miss place.In = true
may_miss _ = false

-- what words say at those places
abbrev pub read : List WordPlace → List (List ℕ) → Values → Option Values
read [] [] v = Some v
read [] (word ∷ words) v = None
read (p ∷ places) [] v = if may_miss p then Some v else None
read (p ∷ places) (word ∷ words) v = put p word v >>= read places words

-- the command of a verb and its values; `len`: how many bytes it asks for
abbrev pub asked : Verb → Values → ℕ → Request
asked verb.Begin v len = request.Begin
asked verb.Commit v len = request.Commit
asked verb.Abort v len = request.Abort
asked verb.Checkpoint v len = request.Checkpoint
asked verb.Log v len = request.Log
asked verb.Files v len = request.Files
asked verb.Space v len = request.Space
asked verb.File v len = request.File v.name
asked verb.Unfile v len = request.Unfile v.name
asked verb.List v len = request.ListFile v.name
asked verb.Close v len = request.Close v.name
asked verb.Destroy v len = request.Destroy v.x
asked verb.Size v len = request.Size v.x
asked verb.Stat v len = request.Stat v.x
asked verb.Digest v len = request.Digest v.x
asked verb.Versions v len = request.Versions v.x
asked verb.Drop v len = request.DropVersion v.x
asked verb.Create v len = request.Create v.name v.bind
asked verb.Freeze v len = request.Freeze v.x v.bind
asked verb.Derive v len = request.Derive v.x v.bind
asked verb.Read v len = request.Read v.x v.pos len
asked verb.Insert v len = request.Insert v.x v.pos (ByWord v.given)
asked verb.Append v len = request.Append v.x (ByWord v.given)
asked verb.Replace v len = request.Replace v.x v.pos (ByWord v.given)
asked verb.Delete v len = request.Delete v.x v.pos v.count
asked verb.Group v len = request.Group v.name v.frames v.mru
asked verb.Scan v len = request.Scan v.x v.name v.group
asked verb.Next v len = request.Next v.name len
