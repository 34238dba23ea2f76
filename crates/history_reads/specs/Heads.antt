-- Why a stream isn't read behind its head.
use Rattle.std.specs.Prelude.{◌≡◌, ℕ, List, Some, None}
use Rattle.ex_base.specs.declared.geometry.Geometry.{Geometry}
use Rattle.history_model.specs.Stream.{HasHead, StreamHead, lack_of, misfit_of}
use Rattle.history_fronts.specs.Fronts.{IsDumpHead}
use Rattle.history_reads.specs.declared.heads.HeadFault.{HeadFault}
use Rattle.history_reads.specs.declared.heads.HeadFault.TheVariants.{Bad, Misfit, NoRoom}

-- Exactly one of the three applies: a size of another volume, else want of room, else a head that is none of a dump.
abbrev pub HeadRefused : Geometry → ℕ → ℕ → List ℕ → HeadFault → Type 0
HeadRefused g pages segs bytes Bad = (head : StreamHead) → HasHead bytes head → (misfit_of g head ≡ None) × (lack_of pages segs head ≡ None) × (IsDumpHead g head → ⊥)
HeadRefused g pages segs bytes (Misfit m) = (head : StreamHead) × HasHead bytes head × (misfit_of g head ≡ Some (m.field, (m.dump, m.volume)))
HeadRefused g pages segs bytes (NoRoom l) = (head : StreamHead) × HasHead bytes head × (misfit_of g head ≡ None) × (lack_of pages segs head ≡ Some (l.area, (l.need, l.free)))
