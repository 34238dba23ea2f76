-- One step of gathering.
use Rattle.std.specs.Prelude.{◌≡◌, ℕ, ◌<◌, ◌≤◌, List, ◌++◌, length, take, Some, None}
use Rattle.ex_base.specs.declared.geometry.Geometry.{Geometry}
use Rattle.history_reads.specs.declared.progress.Progress.{Progress}
use Rattle.history_reads.specs.declared.steps.Filled.{Filled}
use Rattle.history_reads.specs.declared.steps.Filled.TheVariants.{More, Whole, Refused}
use Rattle.history_reads.specs.Reads.{CantBeRead, HasItem, IsRead, need_now}

-- the item of which these bytes came needs more
abbrev pub Asking : Progress → List ℕ → Type 0
Asking p held = (n : ℕ) × (need_now p held ≡ Some n) × (length held < n)

-- So many bytes were taken of the piece, no more than were asked for, and none only where it is empty.
pub record Took (p : Progress) (was now piece : List ℕ) (taken : ℕ) : Type 0 where
  pub few : taken ≤ length piece
  pub some : 1 ≤ length piece → 1 ≤ taken
  pub held : now ≡ was ++ take taken piece
  pub asked : (n : ℕ) → need_now p was ≡ Some n → length now ≤ n

-- What is held, and what it needs.
abbrev pub IsFilled : Progress → List ℕ → List ℕ → List ℕ → Filled → Type 0
IsFilled p was now piece (More taken) = Took p was now piece taken × Asking p now
IsFilled p was now piece (Whole taken) = Took p was now piece taken × (need_now p now ≡ Some (length now))
IsFilled p was now piece Refused = (taken : ℕ) × Took p was now piece taken × (need_now p now ≡ None)

-- what the bytes of a piece make of joined ones that were read
abbrev pub IsReadOn : Geometry → List ℕ → Progress → List ℕ → List ℕ → Filled → Type 0
IsReadOn g joined p now piece (More taken) = IsRead g (joined ++ take taken piece) p now
IsReadOn g joined p now piece (Whole taken) = HasItem g (joined ++ take taken piece) p now
IsReadOn g joined p now piece Refused = CantBeRead g (joined ++ piece)

-- Whatever was read before, the step reads on, or tells that nothing can.
abbrev pub FillIsRead : Progress → List ℕ → List ℕ → List ℕ → Filled → Type 0
FillIsRead p was now piece filled = (g : Geometry) (joined : List ℕ) → IsRead g joined p was → IsReadOn g joined p now piece filled
