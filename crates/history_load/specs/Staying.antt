-- What a load leaves of the empty volume, as long as its catalog isn't committed.
use Rattle.std.specs.Prelude.{◌≡◌, List, ℕ, Some}
use Rattle.disk_model.specs.Outside.{Leaves, Outside}
use Rattle.table_model.specs.Tables.{empty_table}
use Rattle.volume_model.specs.Parts.{StandsFor}
use Rattle.volume_model.specs.Volume.{Decoded, table_of, units_of}
use Rattle.volume_port.specs.State.{IsAtRest}
use Rattle.volume_port.specs.declared.state.VolumeState.{VolumeState}

-- Where the volume was empty and at rest, it is still, and a crash meanwhile leaves the empty table.
abbrev pub StaysEmpty : Outside → Outside → VolumeState → Type 0
StaysEmpty was now volume = (d : Decoded) (image : List ℕ) → IsAtRest was volume d image → table_of (units_of d image) d.volume ≡ empty_table
    → (later : List ℕ) × (now.disk ≡ Some later) × IsAtRest now volume d later × (table_of (units_of d later) d.volume ≡ empty_table) × Leaves was now (λ left. StandsFor left empty_table)
