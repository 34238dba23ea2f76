-- What the search for a free unit keeps beside the flags.
use Rattle.std.specs.Prelude.{◌≡◌, ℕ, ◌+◌, ◌*◌, ◌/◌, ◌<◌, ◌≤◌, ◌⊎◌, Bool, true, false, List, length, slice_index_or}
use Rattle.page_alloc.specs.Flags.{AllUsedBelow, count_free}

-- each unit of a run of this size whose hint is set is used
pub record IsHint (size : ℕ) (hints used : List Bool) : Type 0 where
  pub sound : (k : ℕ) → slice_index_or hints (k / size) false ≡ true → slice_index_or used k true ≡ true

-- a hint of either level covers this place
abbrev pub IsHinted : List Bool → List Bool → ℕ → Type 0
IsHinted full crowded k = (slice_index_or full (k / 128) false ≡ true) ⊎ (slice_index_or crowded (k / 16384) false ≡ true)

-- The hint of the run that ends at this place is set, and no hint is new but those of runs that end there or before it.
pub record SetsHintsBefore (size at : ℕ) (before after : List Bool) : Type 0 where
  pub noted : (r : ℕ) → (r + 1) * size ≡ at → slice_index_or after r false ≡ true
  pub only : (r : ℕ) → slice_index_or after r false ≡ true → (slice_index_or before r false ≡ true) ⊎ ((r + 1) * size ≤ at)

-- what holds of an area's lists, the place that no free unit precedes, the one up to which none lies behind that, and the number of free units
pub record IsSound (used : List Bool) (refs : List ℕ) (full crowded : List Bool) (start next count : ℕ) : Type 0 where
  pub small : length used ≤ 4000000
  pub same_len : length refs ≡ length used
  pub groups : length full ≡ length used / 128 + 1
  pub blocks : length crowded ≡ length used / 16384 + 1
  pub group_hints : IsHint 128 full used
  pub block_hints : IsHint 16384 crowded used
  pub low : AllUsedBelow used start
  pub between : (k : ℕ) → start < k → k < next → slice_index_or used k true ≡ true
  pub free : count ≡ count_free used
  pub unowned : (k : ℕ) → slice_index_or used k true ≡ false → slice_index_or refs k 0 ≡ 0
