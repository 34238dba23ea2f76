-- What the calls of a host in memory did, replayed.
use Rattle.std.specs.Prelude.{◌≡◌, ◌≤◌, ◌<◌, ◌⊎◌, ℕ, ◌+◌, Bool, true, false, IsTrue, Some, None, List, [], ◌∷◌, ◌++◌, length, take, fold, slice_index, replicate, reverse, if◌then◌else◌, ⊤}
use Rattle.ex_base.specs.Bytes.{IsBytes, repl}
use Rattle.disk_model.specs.Outside.{Outside}
use Rattle.memory_host.specs.declared.host.Call.{Call}
use Rattle.memory_host.specs.declared.host.Call.TheVariants.{Write, Sync, Put, Other}
use Rattle.memory_host.specs.declared.host.Choice.{Choice}
use Rattle.memory_host.specs.declared.host.Choice.TheVariants.{Before, After, Fill}

-- bytes that were to be written, and their place
pub record Written : Type 0 where
  pub at : ℕ
  pub bytes : List ℕ

-- the disk and the sink between two calls
pub record State : Type 0 where
  -- what a read gives
  pub disk : List ℕ
  -- what a read gave after the last sync that was done
  pub settled : List ℕ
  -- the writes since then, the last one first, also those that failed: a crash now may leave any bytes in their ranges
  pub pending : List Written
  -- what was sent
  pub sent : List ℕ

-- before the first call
abbrev pub fresh : List ℕ → State
fresh disk = record { disk = disk; settled = disk; pending = []; sent = [] }

-- a write whose bytes stand on the disk, or that failed and left what stood there
abbrev pub after_write : State → ℕ → List ℕ → Bool → State
after_write m at bytes done =
    record m { disk = if done then repl m.disk at bytes else m.disk; pending = (record { at = at; bytes = bytes }) ∷ m.pending }

-- a sync that was done
abbrev pub after_sync : State → State
after_sync m = record m { settled = m.disk; pending = [] }

-- a put that sent these bytes
abbrev pub after_put : State → List ℕ → State
after_put m bytes = record m { sent = m.sent ++ bytes }

abbrev pub after_call : State → Call → State
after_call m (Write at bytes done) = after_write m at bytes.items done
after_call m Sync = after_sync m
after_call m (Put bytes) = after_put m bytes.items
after_call m Other = m

unfoldable pub replayed : List ℕ → List Call → State
replayed start calls = fold after_call (fresh start) calls

-- the place behind the last byte that the call writes
abbrev pub end_of : Call → ℕ
end_of (Write at bytes done) = at + length bytes.items
end_of Sync = 0
end_of (Put bytes) = 0
end_of Other = 0

-- No pending range has the place i.
abbrev pub IsSettledAt : List Written → ℕ → Type 0
IsSettledAt [] i = ⊤
IsSettledAt (w ∷ ws) i = ((i < w.at) ⊎ (w.at + length w.bytes ≤ i)) × IsSettledAt ws i

-- what a crash may leave: any bytes in the pending ranges, and outside what the disk holds
pub record IsImage (m : State) (d : List ℕ) : Type 0 where
  pub same_length : length d ≡ length m.disk
  pub bytes : IsBytes d
  pub outside : (i : ℕ) → IsSettledAt m.pending i → slice_index d i ≡ slice_index m.disk i

-- the disk with these bytes in their places, the first of the list laid last
abbrev pub laid : List ℕ → List Written → List ℕ
laid d [] = d
laid d (w ∷ ws) = repl (laid d ws) w.at w.bytes

-- the disk with each of these ranges filled with one byte
abbrev pub filled : ℕ → List ℕ → List Written → List ℕ
filled byte d [] = d
filled byte d (w ∷ ws) = repl (filled byte d ws) w.at (replicate (length w.bytes) byte)

-- the image that a crash leaves where each pending range is as it was, as it was written, or filled with one byte
abbrev pub image_of : Choice → State → List ℕ
image_of Before m = m.settled
image_of After m = laid m.settled m.pending
image_of (Fill byte) m = filled byte m.settled m.pending

-- what one pending range holds in an image, over what stood there before
abbrev pub laid_one : Choice → Written → List ℕ → List ℕ
laid_one Before w image = image
laid_one After w image = repl image w.at w.bytes
laid_one (Fill byte) w image = repl image w.at (replicate (length w.bytes) byte)

-- whether a call writes
abbrev pub is_write : Call → Bool
is_write (Write at bytes done) = true
is_write Sync = false
is_write (Put bytes) = false
is_write Other = false

-- the same for the range of a call
abbrev pub laid_call : Choice → Call → List ℕ → List ℕ
laid_call choice (Write at bytes done) image = laid_one choice (record { at = at; bytes = bytes.items }) image
laid_call choice Sync image = image
laid_call choice (Put bytes) image = image
laid_call choice Other image = image

-- the disk with each of these ranges as its own choice says, the first of the list laid last
abbrev pub laid_by : List ℕ → List Choice → List Written → List ℕ
laid_by d (choice ∷ choices) (w ∷ ws) = laid_one choice w (laid_by d choices ws)
laid_by d [] ws = d
laid_by d (choice ∷ choices) [] = d

-- the image that a crash leaves where each pending range is as its own choice says, the choices in the order of writing
abbrev pub image_by : List Choice → State → List ℕ
image_by choices m = laid_by m.settled (reverse choices) m.pending

-- After some call from the t-th on this had been sent, and a crash then could leave this image.
pub record IsMoment (start : List ℕ) (calls : List Call) (t : ℕ) (s d : List ℕ) : Type 0 where
  pub call : ℕ
  pub since : t ≤ call
  pub made : call ≤ length calls
  pub sent : (replayed start (take call calls)).sent ≡ s
  pub image : IsImage (replayed start (take call calls)) d

-- After the call of this number, or before all at 0, this had been sent, the disk held this, and a crash then could leave this image. A host
-- with lies tells nothing.
pub record HasStood (start : List ℕ) (told : Bool) (calls : List Call) (t : ℕ) (s d e : List ℕ) : Type 0 where
  pub truthful : IsTrue told
  pub made : t ≤ length calls
  pub sent : (replayed start (take t calls)).sent ≡ s
  pub disk : (replayed start (take t calls)).disk ≡ d
  pub image : IsImage (replayed start (take t calls)) e

-- what such a host means
abbrev pub outside_of : List ℕ → Bool → List Call → List ℕ → ℕ → ℕ → ℕ → Outside
outside_of start told calls left disk_faults read_faults write_faults = record {
  size = length start;
  disk = if told then Some (replayed start calls).disk else None;
  images = IsImage (replayed start calls);
  left = Some left;
  sent = Some (replayed start calls).sent;
  clock = length calls;
  moments = IsMoment start calls;
  stood = HasStood start told calls;
  calls = Some (length calls);
  disk_faults = disk_faults;
  read_faults = read_faults;
  write_faults = write_faults;
  honest = told;
}

-- Nothing is pending: a sync was done last, or no write came yet.
pub record IsSettled (m : State) : Type 0 where
  pub pending : m.pending ≡ []
  pub settled : m.settled ≡ m.disk
