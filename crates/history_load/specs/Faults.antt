-- What stops a load, by what went before.
use Rattle.std.specs.Prelude.{◌≡◌}
use Rattle.disk_model.specs.Outside.{Outside, Rose}
use Rattle.commits.specs.declared.keep.CommitFault.{CommitFault}
use Rattle.commits.specs.declared.keep.CommitFault.TheVariants.{Memory as CommitMemory, Disk as CommitDisk}
use Rattle.ex_base.specs.declared.faults.PortFault.{PortFault}
use Rattle.ex_base.specs.declared.faults.PortFault.TheVariants.{Damaged, Disk as PortDisk, Memory as PortMemory}
use Rattle.history_writes.specs.declared.rows.LinkFault.{LinkFault}
use Rattle.history_writes.specs.declared.rows.LinkFault.TheVariants.{Bad as LinkBad, Disk as LinkDisk}
use Rattle.history_reads.specs.declared.heads.HeadFault.TheVariants.{Bad as BadStream}
use Rattle.history_reads.specs.declared.progress.ReadFault.{ReadFault}
use Rattle.history_reads.specs.declared.progress.ReadFault.TheVariants.{Memory as ReadMemory, Refused}
use Rattle.history_load.specs.declared.ending.FinishFault.{FinishFault}
use Rattle.history_load.specs.declared.ending.FinishFault.TheVariants.{Bad as FinishBad, Disk as FinishDisk, Memory as FinishMemory}
use Rattle.history_load.specs.declared.faults.LoadFault.{LoadFault}
use Rattle.history_load.specs.declared.faults.LoadFault.TheVariants.{Disk, Memory, Source, Stream}

abbrev pub fault_of_read : ReadFault → LoadFault
fault_of_read ReadMemory = Memory
fault_of_read Refused = Stream BadStream

abbrev pub fault_of_port : PortFault → LoadFault
fault_of_port PortDisk = Disk
fault_of_port PortMemory = Memory
fault_of_port (Damaged page want got) = Stream BadStream

abbrev pub fault_of_link : LinkFault → LoadFault
fault_of_link LinkDisk = Disk
fault_of_link LinkBad = Stream BadStream

abbrev pub fault_of_finish : FinishFault → LoadFault
fault_of_finish FinishMemory = Memory
fault_of_finish FinishDisk = Disk
fault_of_finish FinishBad = Stream BadStream

abbrev pub fault_of_commit : CommitFault → LoadFault
fault_of_commit CommitMemory = Memory
fault_of_commit CommitDisk = Disk

-- Where the source or the disk stops it, that one failed meanwhile.
abbrev pub LoadCause : Outside → Outside → LoadFault → Type 0
LoadCause was now Source = Rose was.read_faults now.read_faults
LoadCause was now Disk = Rose was.disk_faults now.disk_faults
LoadCause was now Memory = Unit {0}
LoadCause was now (Stream fault) = Unit {0}

-- The stream stops it.
abbrev pub IsOfStream : LoadFault → Type 0
IsOfStream Source = ⊥
IsOfStream Disk = ⊥
IsOfStream Memory = ⊥
IsOfStream (Stream fault) = Unit {0}

-- Where the stream stops it, that is no dump, and this holds.
abbrev pub WhereBad : Type 0 → LoadFault → Type 0
WhereBad X Source = Unit {0}
WhereBad X Disk = Unit {0}
WhereBad X Memory = Unit {0}
WhereBad X (Stream fault) = (fault ≡ BadStream) × X
