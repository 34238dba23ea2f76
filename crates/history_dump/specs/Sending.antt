-- What the sending of a volume's stream does.
use Rattle.std.specs.Prelude.{◌≡◌, ◌≢◌, ◌<◌, ◌⊎◌, ℕ, IsTrue, nat_lt, if◌then◌else◌, List, ◌++◌, length, take, Some, ⊤}
use Rattle.ex_base.specs.Area.{area_end}
use Rattle.ex_base.specs.declared.faults.PortFault.{PortFault}
use Rattle.ex_base.specs.declared.faults.PortFault.TheVariants as port_fault
use Rattle.disk_model.specs.Outside.{Outside, Goes, Leaves, ReadsOnly, Rose, SameImages}
use Rattle.table_model.specs.declared.table.Table.{Table}
use Rattle.tree_store.specs.Stored.{unit_bytes}
use Rattle.trees.specs.Trees.{Units}
use Rattle.volume_model.specs.Volume.{Decoded, Volume}
use Rattle.volume_port.specs.Ported.{image_over}
use Rattle.volume_port.specs.Reading.{CanRead}
use Rattle.volume_port.specs.State.{IsAtRest}
use Rattle.volume_port.specs.declared.state.VolumeState.{VolumeState}
use Rattle.history_model.specs.History.{History}
use Rattle.history_dump.specs.Streams.{Streams}
use Rattle.history_dump.specs.Writing.{IsGiving}
use Rattle.history_dump.specs.declared.dumper.Dumper.{Dumper}
use Rattle.history_dump.specs.declared.fault.DumpFault.{DumpFault}
use Rattle.history_dump.specs.declared.fault.DumpFault.TheVariants.{Output, Disk, Memory, Damaged}

-- The disk is read at most, and bytes are sent: nothing is taken of the source. Where the disk is honest, a crash at any moment leaves what it could leave
-- before.
pub record ReadsAndSends (a b : Outside) : Type 0 where
  pub goes : Goes a b
  pub left : b.left ≡ a.left
  pub disk : b.disk ≡ a.disk
  pub read_faults : b.read_faults ≡ a.read_faults
  pub sent : (was : List ℕ) → a.sent ≡ Some was → (more : List ℕ) × (b.sent ≡ Some (was ++ more))
  pub images : IsTrue a.honest → SameImages a b
  pub moments : IsTrue a.honest → Leaves a b a.images

-- Behind what was sent before, the whole stream of the volume on the image was sent.
pub record SendsWhole (image : List ℕ) (table : Table) (was : List ℕ) (after : Outside) : Type 0 where
  pub stream : List ℕ
  pub streams : Streams image table stream
  pub sent : after.sent ≡ Some (was ++ stream)

-- Behind what was sent before, a front of that stream was sent, but not all of it.
pub record SendsPart (image : List ℕ) (table : Table) (was : List ℕ) (after : Outside) : Type 0 where
  pub stream : List ℕ
  pub streams : Streams image table stream
  pub count : ℕ
  pub short : count < length stream
  pub sent : after.sent ≡ Some (was ++ take count stream)

-- A front of these bytes was sent, but not all of them.
abbrev pub SendsFew : List ℕ → List ℕ → Outside → Type 0
SendsFew stream was after = (count : ℕ) × (count < length stream) × (after.sent ≡ Some (was ++ take count stream))

-- Nothing was sent, or a front of the stream.
abbrev pub SendsFront : List ℕ → Table → List ℕ → Outside → Type 0
SendsFront image table was after = (after.sent ≡ Some was) ⊎ SendsPart image table was after

-- A fault of the output or of the disk rose in its count, and damage is told of two things that differ.
abbrev pub DumpCause : Outside → Outside → DumpFault → Type 0
DumpCause a b Output = Rose a.write_faults b.write_faults
DumpCause a b Disk = Rose a.disk_faults b.disk_faults
DumpCause a b Memory = ⊤
DumpCause a b (Damaged page want got) = want ≢ got

-- the fault is that of a damaged page
abbrev pub TellsDamage : DumpFault → Type 0
TellsDamage Output = ⊥
TellsDamage Disk = ⊥
TellsDamage Memory = ⊥
TellsDamage (Damaged page want got) = Unit {0}

-- what a dump tells of a fault of its port
abbrev pub dump_fault : PortFault → DumpFault
dump_fault port_fault.Disk = Disk
dump_fault port_fault.Memory = Memory
dump_fault (port_fault.Damaged page want got) = Damaged page want got

-- ---- how far the stream of a volume at rest was given

-- the images of logged pages, and the bytes of units, as a port over the state reads them
abbrev pub images_over : VolumeState → Outside → ℕ → List ℕ
images_over volume w = image_over volume.geometry volume.meta (unit_bytes volume.geometry w.disk)

abbrev pub units_over : VolumeState → Outside → Units
units_over volume w unit = if nat_lt unit (area_end volume.geometry) then images_over volume w unit else unit_bytes volume.geometry w.disk unit

-- The dumper gave so many bytes of the stream of a history of the volume.
abbrev pub IsSending : Outside → VolumeState → Volume → History → Dumper → ℕ → Type 0
IsSending w volume v h d at = IsGiving volume.geometry (units_over volume w) (images_over volume w) v h d at

-- Frames alone changed, and a volume that was at rest is so still.
pub record KeepsRest (a b : Outside) (old new : VolumeState) : Type 0 where
  pub only : ReadsOnly a b
  pub rest : new ≡ record old { groups = new.groups }
  pub ready : CanRead new.geometry b.size new.groups 0 new.meta
  pub rests : (d : Decoded) (disk : List ℕ) → IsAtRest a old d disk → IsAtRest b new d disk
