-- What remains of a script: bytes that are buffered, and what its source has left, where it tells that.
use Rattle.std.specs.Prelude.{◌≡◌, ◌<◌, ◌≤◌, ◌+◌, ◌-◌, ℕ, Option, Some, List, ◌++◌, length, take, drop, slice_index, false}
use Rattle.script_lines.specs.Lines.{line_feed}

-- the bytes from one place up to another
abbrev pub between : List ℕ → ℕ → ℕ → List ℕ
between bytes start end = take (end - start) (drop start bytes)

-- no line feed among the first n bytes
abbrev pub ClearTo : List ℕ → ℕ → Type 0
ClearTo bytes n = (j : ℕ) → j < n → line_feed (slice_index bytes j) ≡ false

-- Behind the bytes ahead stands what the source has left.
pub record Remains (ahead : List ℕ) (left : Option (List ℕ)) (script : List ℕ) : Type 0 where
  pub behind : List ℕ
  pub told : left ≡ Some behind
  pub whole : script ≡ ahead ++ behind

-- bytes were moved from the source into the buffer, and none was lost
pub record SameScript (ahead : List ℕ) (left : Option (List ℕ)) (after : List ℕ) (now : Option (List ℕ)) : Type 0 where
  pub each : (script : List ℕ) → Remains ahead left script → Remains after now script

-- The source is at its end: all that remains of the script is buffered.
pub record AllHere (ahead : List ℕ) (left : Option (List ℕ)) (after : List ℕ) : Type 0 where
  pub each : (script : List ℕ) → Remains ahead left script → script ≡ after

-- Of a source that may lose `may` bytes, a front was taken, and it may lose `still` bytes.
pub record Draws (may : ℕ) (left : Option (List ℕ)) (still : ℕ) (now : Option (List ℕ)) : Type 0 where
  pub each : (was : List ℕ) → left ≡ Some was → (n : ℕ) × (n ≤ length was) × (now ≡ Some (drop n was)) × (n + still ≡ may)

-- Where the source tells what it has left, what remains of the script has P.
pub record IfTold (ahead : List ℕ) (left : Option (List ℕ)) (P : List ℕ → Type 0) : Type 0 where
  pub each : (script : List ℕ) → Remains ahead left script → P script

-- Where it tells that, what remained of the script and what remains now are in this relation.
pub record Moves (ahead : List ℕ) (left : Option (List ℕ)) (after : List ℕ) (now : Option (List ℕ)) (R : List ℕ → List ℕ → Type 0) : Type 0 where
  pub each : (script : List ℕ) → Remains ahead left script → (rest : List ℕ) × Remains after now rest × R script rest

-- one list begins with the other
abbrev pub IsFront : List ℕ → List ℕ → Type 0
IsFront front whole = (rest : List ℕ) × (whole ≡ front ++ rest)
