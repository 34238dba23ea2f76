-- What faults of the parts are told as.
use Rattle.ex_base.specs.declared.faults.PortFault.{PortFault}
use Rattle.ex_base.specs.declared.faults.PortFault.TheVariants as port_fault
use Rattle.commits.specs.declared.keep.CommitFault.{CommitFault}
use Rattle.commits.specs.declared.keep.CommitFault.TheVariants as commit_fault
use Rattle.packing.specs.declared.fault.PackFault.{PackFault}
use Rattle.packing.specs.declared.fault.PackFault.TheVariants.{Disk, Memory, Damaged}

-- a fault of a port
abbrev pub told_of : PortFault → PackFault
told_of port_fault.Disk = Disk
told_of port_fault.Memory = Memory
told_of (port_fault.Damaged page want got) = Damaged page want got

-- a fault of a commit
abbrev pub uncommitted : CommitFault → PackFault
uncommitted commit_fault.Memory = Memory
uncommitted commit_fault.Disk = Disk
