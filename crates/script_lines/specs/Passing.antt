-- How the gathering of a line ends, and what is passed of a script.
use Rattle.std.specs.Prelude.{◌≡◌, ◌<◌, ◌≤◌, ◌+◌, ℕ, true, List, [], ◌∷◌, ◌++◌, length, slice_index, ◌⊎◌}
use Rattle.script_lines.specs.declared.window.Found.{Found}
use Rattle.script_lines.specs.declared.window.Found.TheVariants as found
use Rattle.script_lines.specs.Lines.{line_feed, line_most}
use Rattle.script_lines.specs.Remains.{ClearTo}

-- What these bytes end the gathering with, of which so many count.
abbrev pub Finds : List ℕ → ℕ → Found → Type 0
Finds bytes allowed (found.Feed at) = (at < length bytes) × (at < allowed) × ClearTo bytes at × (line_feed (slice_index bytes at) ≡ true)
Finds bytes allowed found.TooMuch = ClearTo bytes allowed × (allowed < length bytes)
Finds bytes allowed found.Full = ClearTo bytes (length bytes) × (length bytes ≤ allowed) × (line_most < length bytes)

-- More bytes stand there than count, and no line feed is among those that do.
pub record IsClear (most : ℕ) (script : List ℕ) : Type 0 where
  pub clear : ClearTo script most
  pub more : most < length script

-- A line is passed: its bytes, and its line feed where something may stand behind it.
pub record Passes (most : ℕ) (script : List ℕ) (still : ℕ) (after : List ℕ) : Type 0 where
  pub part : List ℕ
  pub clear : ClearTo part (length part)
  pub ends : ((b : ℕ) × (line_feed b ≡ true) × (script ≡ part ++ b ∷ after) × (length part + 1 + still ≡ most))
      ⊎ ((script ≡ part) × (after ≡ []) × (length part + still ≡ most))

-- Bytes without a line feed are passed. Of the script `most` bytes count, and `still` bytes of what is left.
pub record Drops (most : ℕ) (script : List ℕ) (still : ℕ) (after : List ℕ) : Type 0 where
  pub gone : List ℕ
  pub clear : ClearTo gone (length gone)
  pub bytes : script ≡ gone ++ after
  pub count : length gone + still ≡ most
