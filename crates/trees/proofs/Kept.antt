-- Rows over units that are kept.
use Rattle.std.proofs.Common.{◌≡◌, ℕ, List, [], ◌∷◌, ◌++◌, true, sym, ap, subst, ◌∙◌, refl}
use Rattle.ex_base.specs.declared.faults.PortFault.{PortFault}
use Rattle.ex_base.specs.declared.faults.PortFault.TheVariants.{Disk, Memory, Damaged}
use Rattle.ex_base.specs.declared.geometry.Geometry.{Geometry}
use Rattle.ex_base.specs.declared.ground.Ground as ground
use Rattle.ex_base.proofs.Each.{each_as, split_each}
use Rattle.trees.specs.Trees.{Units, bytes_on, shape_on, units_on}
use Rattle.trees.proofs.SameUnits.{Kept, units_same, bytes_same, shape_same, named_same, sized_same}
use Rattle.trees.specs.declared.rows.Part.{Part}
use Rattle.trees.specs.Damage.{IsWalkFault}
use Rattle.trees.specs.Rows.{row_bytes, row_units, row_shape, AreTrees}
use Rattle.trees.specs.Made.{Extends, AreUsed, Holds}

-- what is the same of a row whose units are kept
pub record SameRow (geo : Geometry) (u v : Units) (l : ℕ) (row : List Part) : Type 0 where
  pub trees : AreTrees geo v l row
  pub bytes : row_bytes v l row ≡ row_bytes u l row
  pub shape : row_shape v l row ≡ row_shape u l row
  pub units : row_units v l row ≡ row_units u l row

pub row_kept : (geo : Geometry) (u v : Units) (l : ℕ) (row : List Part) → Kept u v (row_units u l row) → AreTrees geo u l row → SameRow geo u v l row
row_kept geo u v l [] kept trees = record { trees = tt; bytes = refl; shape = refl; units = refl }
row_kept geo u v l (part ∷ row) kept trees =
    let parts = split_each (λ p. v p ≡ u p) (units_on u l part.page.0) (row_units u l row) kept in
    let rest = row_kept geo u v l row parts.1 trees.1 in
    let bytes = bytes_same u v l part.page.0 part.size parts.0 in
    let shape = shape_same u v l part.page.0 part.size parts.0 in
    let units = units_same u v l part.page.0 parts.0 in
    record {
      trees = ((named_same geo u v l part.page.0 parts.0 trees.0.0, sized_same geo u v l part.page.0 part.size parts.0 trees.0.1), rest.trees);
      bytes = ap (λ xs. xs ++ row_bytes v l row) bytes ∙ ap (λ xs. bytes_on u l part.page.0 part.size ++ xs) rest.bytes;
      shape = ap (λ x. x ∷ row_shape v l row) shape ∙ ap (λ xs. shape_on u l part.page.0 part.size ∷ xs) rest.shape;
      units = ap (λ xs. xs ++ row_units v l row) units ∙ ap (λ xs. units_on u l part.page.0 ++ xs) rest.units;
    }

pub row_extends : {S : Type 0} (g : ground.Ghosts S) (a b : S) (l : ℕ) (row : List Part) → Extends g a b → Holds g a l row → SameRow (g.geometry a) (g.unit a) (g.unit b) l row
row_extends g a b l row ext h = row_kept (g.geometry a) (g.unit a) (g.unit b) l row (each_as (λ p. g.used a p ≡ true) (λ p. g.unit b p ≡ g.unit a p) (row_units (g.unit a) l row) (λ p used. ext.units p used) h.used) h.trees

-- a row that is held stays held
pub holds_on : {S : Type 0} (g : ground.Ghosts S) (a b : S) (l : ℕ) (row : List Part) → Extends g a b → Holds g a l row → Holds g b l row
holds_on g a b l row ext h =
    let same = row_extends g a b l row ext h in
    record {
      trees = subst (λ geo. AreTrees geo (g.unit b) l row) (sym (g.leads_geometry a b ext.leads)) same.trees;
      used = subst (AreUsed (g.used b)) (sym same.units) (each_as (λ p. g.used a p ≡ true) (λ p. g.used b p ≡ true) (row_units (g.unit a) l row) (λ p used. ext.used p used) h.used);
    }

-- A fault of a walk over leaves speaks of no unit's content, so it is one of any earlier state.
pub leaves_back : {S : Type 0} (g : ground.Ghosts S) (a b : S) (run : List Part) (fault : PortFault) → g.leads a b → (g.tells b → IsWalkFault (g.geometry b) (g.unit b) 0 0 run fault) → g.tells a → IsWalkFault (g.geometry a) (g.unit a) 0 0 run fault
leaves_back g a b run Disk leads later told = tt
leaves_back g a b run Memory leads later told = tt
leaves_back g a b run (Damaged at want got) leads later told =
    subst (λ geo. IsWalkFault geo (g.unit b) 0 0 run (Damaged at want got)) (g.leads_geometry a b leads) (later (g.leads_told a b leads told))
