-- When a fetch fails.
use Rattle.std.specs.Prelude.{ℕ, Result, MatchResult, ⊤}
use Rattle.disk_model.specs.Outside.{Rose}
use Rattle.buffer_groups.specs.declared.group.FetchFault.{FetchFault}
use Rattle.buffer_groups.specs.declared.group.FetchFault.TheVariants.{Disk, Memory}
use Rattle.ex_base.specs.declared.faults.PortFault.{PortFault}
use Rattle.ex_base.specs.declared.faults.PortFault.TheVariants as port

-- the fault of a port
abbrev pub port_fault : FetchFault → PortFault
port_fault Disk = port.Disk
port_fault Memory = port.Memory

-- `Disk` comes only where the count rose
abbrev pub FetchCause : ℕ → ℕ → FetchFault → Type 0
FetchCause before now Disk = Rose before now
FetchCause before now Memory = ⊤

abbrev pub HasFetchCause : {T : Type 0} → ℕ → ℕ → Result T FetchFault → Type 0
HasFetchCause before now result = MatchResult result (λ _. ⊤) (FetchCause before now)
