-- The machine that an opening gives, and what a crash in it leaves.
use Rattle.std.specs.Prelude.{◌≡◌, ◌⊎◌, ℕ, List}
use Rattle.table_model.specs.declared.table.Table.{Table}
use Rattle.table_model.specs.declared.machine.Machine.{Machine}
use Rattle.table_model.specs.Machines.{start}
use Rattle.session_views.specs.View.{Meaning}

-- The machine before the first line: the table is committed, and nothing else is there.
pub record IsStart (m : Machine) (table : Table) : Type 0 where
  pub is : m ≡ start m.geometry table m.pages_used m.segs_used

-- The image stands for a table for which the other one stands too.
pub record SameTable {S : Type 0} (M : Meaning S) (image other : List ℕ) : Type 0 where
  pub table : Table
  pub was : M.StandsFor image table
  pub stands : M.StandsFor other table

-- What a crash in an opening leaves: what one could leave before, or the volume as it reads, or what stands for its table.
abbrev pub StandsOpening : {S : Type 0} → Meaning S → (List ℕ → Type 0) → List ℕ → List ℕ → Type 0
StandsOpening M images image d = images d ⊎ ((d ≡ image) ⊎ SameTable M image d)
