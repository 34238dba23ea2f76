-- A fault that isn't damage is the port's own: it tells nothing of a page.
use Rattle.std.proofs.Common.{ℕ, Bool, List}
use Rattle.ex_base.specs.declared.faults.PortFault.{PortFault}
use Rattle.ex_base.specs.declared.faults.PortFault.TheVariants.{Disk, Memory, Damaged}
use Rattle.ex_base.specs.declared.geometry.Geometry.{Geometry}
use Rattle.ex_base.specs.declared.names.Place.{Place}
use Rattle.ex_base.specs.Ports.{IsDamage}
use Rattle.file_bodies.specs.Damage.{IsCatalogFault, IsFileFault, IsFilePageFault, IsPlaceFault}

-- what is told of the catalog, where a file is looked for in it or not
pub own_catalog : (bytes : List ℕ) (fault : PortFault) → (IsDamage fault → ⊥) → IsCatalogFault bytes fault
own_catalog bytes Disk never = tt
own_catalog bytes Memory never = tt
own_catalog bytes (Damaged at want got) never = absurd (never tt)

pub own_file : (bytes : List ℕ) (file_no : ℕ) (fault : PortFault) → (IsDamage fault → ⊥) → IsFileFault bytes file_no fault
own_file bytes file_no Disk never = tt
own_file bytes file_no Memory never = tt
own_file bytes file_no (Damaged at want got) never = absurd (never tt)

-- what is told of a page of a file, and of a place
pub own_page : (g : Geometry) (held : ℕ → Bool) (bytes : List ℕ) (file_no page : ℕ) (fault : PortFault) → (IsDamage fault → ⊥)
    → IsFilePageFault g held bytes file_no page fault
own_page g held bytes file_no page Disk never = tt
own_page g held bytes file_no page Memory never = tt
own_page g held bytes file_no page (Damaged at want got) never = absurd (never tt)

pub own_place : (g : Geometry) (held : ℕ → Bool) (bytes : List ℕ) (place : Place) (fault : PortFault) → (IsDamage fault → ⊥)
    → IsPlaceFault g held bytes place fault
own_place g held bytes place Disk never = tt
own_place g held bytes place Memory never = tt
own_place g held bytes place (Damaged at want got) never = absurd (never tt)
