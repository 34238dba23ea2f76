-- What a handle owns, and what its image is.
use Rattle.std.specs.Prelude.{◌≡◌, ◌≤◌, ℕ, Option, Some, None, List}
use base.Fml.{Fml, ftrue}
use denote.RawPtr.{Ptr}
use Rattle.std_alloc.specs.Box.Ownership.{box_owns}
use Rattle.std_heap.specs.declared.Global.{Global}
use Rattle.std_heap.specs.contracts.GlobalAllocator.TheImpl.{ghosts}
use Rattle.ex_base.specs.Sizes.{volume_bytes}
use Rattle.session_core.specs.Sessions.{SessionState}
use Rattle.volume_calls.specs.Volumes.{IsLentTo}
use Rattle.exsm_c.specs.declared.open.Open.{Open}
use Rattle.exsm_c.specs.contracts.open.Open.{the_row}

-- the volume at the pointer with the right to free its block, or nothing
abbrev pub owned_at : Global → Ptr → Option Open → Fml
owned_at alloc p (Some x) = box_owns (ghosts.dealloc_token alloc) the_row p x
owned_at alloc p None = ftrue

-- It has an open volume.
abbrev pub IsOpen : Option Open → Type 0
IsOpen value = (x : Open) × (value ≡ Some x)

-- A disk of so many bytes is as large as the session's volume.
abbrev pub fits : SessionState → ℕ → Type 0
fits session size = volume_bytes session.geometry ≤ size

-- It has an open volume, and the image is the one that its last call left.
abbrev pub IsLentBy : Option Open → List ℕ → Type 0
IsLentBy value image = (x : Open) × (value ≡ Some x) × IsLentTo fits x.volume image
