-- Faults of a walk over a row.
use Rattle.std.proofs.Common.{◌≡◌, ℕ, List, Result, Ok, Err, IfErr, sym, subst}
use Rattle.ex_base.specs.declared.faults.PortFault.{PortFault}
use Rattle.ex_base.specs.declared.faults.PortFault.TheVariants.{Disk, Memory, Damaged}
use Rattle.ex_base.specs.declared.geometry.Geometry.{Geometry}
use Rattle.ex_base.specs.Ports.{IsDamage}
use Rattle.trees.specs.Trees.{Units}
use Rattle.trees.specs.declared.rows.Part.{Part}
use Rattle.trees.specs.Damage.{IsWalkFault}
use Rattle.trees.proofs.Blame.{walk_undamaged}

module _ (geo : Geometry) (u : Units) where
  -- one that tells of no damage
  pub undamaged : {X : Type 0} (r : Result X PortFault) (T : Type 0) (level least : ℕ) (row : List Part) → IfErr r (λ f. IsDamage f → ⊥) → IfErr r (λ f. T → IsWalkFault geo u level least row f)
  undamaged (Ok x) T level least row h = tt
  undamaged (Err f) T level least row h = λ told. walk_undamaged geo u level least row f h

  -- one of a row of leaves, whatever least is asked of nodes
  pub walk_leaves : {X : Type 0} (r : Result X PortFault) (T : Type 0) (level low least : ℕ) (row : List Part) → level ≡ 0 → IfErr r (λ f. T → IsWalkFault geo u 0 low row f) → IfErr r (λ f. T → IsWalkFault geo u level least row f)
  walk_leaves (Ok x) T level low least row is h = tt
  walk_leaves (Err Disk) T level low least row is h = λ told. tt
  walk_leaves (Err Memory) T level low least row is h = λ told. tt
  walk_leaves (Err (Damaged at want got)) T level low least row is h = λ told. subst (λ k. IsWalkFault geo u k least row (Damaged at want got)) (sym is) (h told)
