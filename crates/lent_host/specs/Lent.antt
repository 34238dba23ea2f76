-- What stands outside of a host over a lent image.
use Rattle.std.specs.Prelude.{◌≡◌, ℕ, ◌-◌, ◌^◌, true, List, ◌∷◌, length, map}
use Rattle.std.proofs.Common.{◌∙◌, sym, ap, subst}
use Rattle.ex_base.specs.Bytes.{IsBytes}
use Rattle.disk_model.specs.Outside.{Outside, IsWorld}
use Rattle.memory_host.specs.Replay.{State, replayed}
use Rattle.memory_host.specs.Replay as memory
use Rattle.memory_host.specs.ReplayLaws.{world_of}
use Rattle.memory_host.specs.declared.host.Call.{Call}
use Rattle.memory_host.specs.declared.host.Call.TheVariants as call
use Rattle.lent_host.specs.Hushed.{hushed, world_hushed}
use Rattle.lent_host.specs.declared.host.Asked.{Asked}
use Rattle.lent_host.specs.declared.host.Asked.TheVariants.{Write, Sync}

-- a listed call, once it was made
abbrev pub made : Asked → Call
made (Write at bytes) = call.Write at bytes true
made Sync = call.Sync

-- a file that held these bytes, once the listed calls were made: what it holds, and which ranges no sync has settled
abbrev pub state_after : List ℕ → List Asked → State
state_after file asked = replayed file (map made asked)

-- The image is what the listed calls make of the file.
abbrev pub IsLent : List ℕ → List Asked → List ℕ → Type 0
IsLent file asked image = ((state_after file asked).disk ≡ image) × (length image ≡ length file)

-- where a count of faults can't rise
abbrev pub top : ℕ
top = 2 ^ 64 - 1

-- The file on which the listed calls are made, one after the other: a crash at any front of them may leave any bytes in the ranges that no sync settled by
-- then. What nobody ever takes of it tells which loans the host has, and of which file.
abbrev pub outside_of : List ℕ → List Asked → ℕ → ℕ → Outside
outside_of file asked image_loan asked_loan = hushed (memory.outside_of file true (map made asked) (image_loan ∷ asked_loan ∷ file) top top top)

pub lent_world : (file : List ℕ) (asked : List Asked) (image : List ℕ) (image_loan asked_loan : ℕ)
    → (state_after file asked).disk ≡ image → length image ≡ length file → IsBytes image → IsWorld (outside_of file asked image_loan asked_loan)
lent_world file asked image image_loan asked_loan lent whole of_bytes =
    world_hushed (world_of file true (map made asked) (image_loan ∷ asked_loan ∷ file) top top top (ap length lent ∙ whole) (subst IsBytes (sym lent) of_bytes))
