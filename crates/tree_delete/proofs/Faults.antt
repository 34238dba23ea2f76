-- Which trees a fault may tell of.
use Rattle.std.proofs.Common.{◌≡◌, ◌⊎◌, ℕ, zero, suc, ◌-◌, List, [], ◌∷◌, ◌++◌, sym, subst, inl, inr}
use Rattle.ex_base.specs.declared.faults.PortFault.{PortFault}
use Rattle.ex_base.specs.declared.faults.PortFault.TheVariants.{Disk, Memory, Damaged}
use Rattle.ex_base.specs.declared.geometry.Geometry.{Geometry}
use Rattle.ex_base.specs.Ports.{Keeps}
use Rattle.ex_base.specs.declared.ground.Ground as ground
use Rattle.trees.specs.Trees.{Units}
use Rattle.trees.specs.declared.rows.Part.{Part}
use Rattle.trees.specs.Damage.{IsWalkFault, AnyPart}
use Rattle.trees.proofs.Blame.{any_split}
use Rattle.tree_delete.specs.declared.cut.Cut.{Cut}
use Rattle.tree_delete.specs.Cuts.{all_of, IsCutOf}

any_left : (P : Part → Type 0) (xs ys : List Part) → AnyPart P xs → AnyPart P (xs ++ ys)
any_left P [] ys h = absurd h
any_left P (x ∷ xs) ys h = elim h [
  | inl here ↦ inl here
  | inr rest ↦ inr (any_left P xs ys rest)
]

any_right : (P : Part → Type 0) (xs ys : List Part) → AnyPart P ys → AnyPart P (xs ++ ys)
any_right P [] ys h = h
any_right P (x ∷ xs) ys h = inr (any_right P xs ys h)

any_cut : (P : Part → Type 0) (row : List Part) (at len : ℕ) (cut : Cut) → IsCutOf row at len cut → AnyPart P (all_of cut) → AnyPart P row
any_cut P row at len cut h any =
    subst (AnyPart P) (sym h.whole) (elim (any_split P cut.left.items (cut.run.items ++ cut.right.items) any) [
      | inl a ↦ any_left P cut.left.items _ a
      | inr b ↦ any_right P cut.left.items _ (elim (any_split P cut.run.items cut.right.items b) [
        | inr r ↦ any_right P (h.lead ++ (h.gone ++ h.tail)) cut.right.items r
        | inl m ↦ any_left P (h.lead ++ (h.gone ++ h.tail)) cut.right.items (elim (any_split P h.lead h.tail (subst (AnyPart P) h.run m)) [
          | inl x ↦ any_left P h.lead (h.gone ++ h.tail) x
          | inr y ↦ any_right P h.lead (h.gone ++ h.tail) (any_right P h.gone h.tail y)
        ])
      ])
    ])

module _ (geo : Geometry) (u : Units) where
  -- a walk that begins at some trees of a row begins at the row
  walk_in : (l least : ℕ) (xs ys : List Part) (fault : PortFault) → ((P : Part → Type 0) → AnyPart P xs → AnyPart P ys) → IsWalkFault geo u l least xs fault → IsWalkFault geo u l least ys fault
  walk_in l least xs ys Disk f h = tt
  walk_in l least xs ys Memory f h = tt
  walk_in zero least xs ys (Damaged at want got) f h = f _ h
  walk_in (suc l) least xs ys (Damaged at want got) f h = f _ h

  pub walk_left : (l least : ℕ) (xs ys : List Part) (fault : PortFault) → IsWalkFault geo u l least xs fault → IsWalkFault geo u l least (xs ++ ys) fault
  walk_left l least xs ys fault = walk_in l least xs (xs ++ ys) fault (λ P. any_left P xs ys)

  pub walk_right : (l least : ℕ) (xs ys : List Part) (fault : PortFault) → IsWalkFault geo u l least ys fault → IsWalkFault geo u l least (xs ++ ys) fault
  walk_right l least xs ys fault = walk_in l least ys (xs ++ ys) fault (λ P. any_right P xs ys)

  pub walk_cut : (l least : ℕ) (row : List Part) (at len : ℕ) (cut : Cut) (fault : PortFault) → IsCutOf row at len cut → IsWalkFault geo u l least (all_of cut) fault → IsWalkFault geo u l least row fault
  walk_cut l least row at len cut fault h = walk_in l least (all_of cut) row fault (λ P. any_cut P row at len cut h)

  pub walk_run : (l least : ℕ) (cut : Cut) (fault : PortFault) → IsWalkFault geo u l least cut.run.items fault → IsWalkFault geo u l least (all_of cut) fault
  walk_run l least cut fault h = walk_right l least cut.left.items (cut.run.items ++ cut.right.items) fault (walk_left l least cut.run.items cut.right.items fault h)

  pub walk_either : (l least : ℕ) (xs ys : List Part) (fault : PortFault) → IsWalkFault geo u l least (xs ++ ys) fault → IsWalkFault geo u l least xs fault ⊎ IsWalkFault geo u l least ys fault
  walk_either l least xs ys Disk h = inl tt
  walk_either l least xs ys Memory h = inl tt
  walk_either zero least xs ys (Damaged at want got) h = any_split _ xs ys h
  walk_either (suc l) least xs ys (Damaged at want got) h = any_split _ xs ys h

  -- no walk begins at no tree
  pub walk_nowhere : (l m least other : ℕ) (row : List Part) (fault : PortFault) → IsWalkFault geo u l least [] fault → IsWalkFault geo u m other row fault
  walk_nowhere l m least other row Disk h = tt
  walk_nowhere l m least other row Memory h = tt
  walk_nowhere zero m least other row (Damaged at want got) h = absurd h
  walk_nowhere (suc l) m least other row (Damaged at want got) h = absurd h

  -- leaves have no children
  pub walk_leaves : (least other : ℕ) (row : List Part) (fault : PortFault) → IsWalkFault geo u 0 least row fault → IsWalkFault geo u 0 other row fault
  walk_leaves least other row Disk h = tt
  walk_leaves least other row Memory h = tt
  walk_leaves least other row (Damaged at want got) h = h

-- a walk of a later state that keeps the units
pub walks_back : {S : Type 0} (g : ground.Ghosts S) (a b : S) (level least : ℕ) (row below : List Part) → Keeps g a b
    → (g.tells b → (fault : PortFault) → IsWalkFault (g.geometry b) (g.unit b) (level - 1) (g.geometry b).fan below fault → IsWalkFault (g.geometry b) (g.unit b) level least row fault)
    → g.tells a → (fault : PortFault) → IsWalkFault (g.geometry a) (g.unit a) (level - 1) (g.geometry a).fan below fault → IsWalkFault (g.geometry a) (g.unit a) level least row fault
walks_back g a b level least row below k walk told =
    subst (λ (u : Units). (fault : PortFault) → IsWalkFault (g.geometry a) u (level - 1) (g.geometry a).fan below fault → IsWalkFault (g.geometry a) u level least row fault) k.units
    (subst (λ (geo : Geometry). (fault : PortFault) → IsWalkFault geo (g.unit b) (level - 1) geo.fan below fault → IsWalkFault geo (g.unit b) level least row fault) (g.leads_geometry a b k.leads)
    (walk (g.leads_told a b k.leads told)))

pub walk_near_left : (geo : Geometry) (u : Units) (level least : ℕ) (cut : Cut) (front : List Part) (near : Part) (fault : PortFault) → cut.left.items ≡ front ++ (near ∷ []) → IsWalkFault geo u level least (near ∷ []) fault → IsWalkFault geo u level least (all_of cut) fault
walk_near_left geo u level least cut front near fault left h =
    walk_left geo u level least cut.left.items (cut.run.items ++ cut.right.items) fault (subst (λ r. IsWalkFault geo u level least r fault) (sym left) (walk_right geo u level least front (near ∷ []) fault h))

pub walk_near_right : (geo : Geometry) (u : Units) (level least : ℕ) (cut : Cut) (back : List Part) (near : Part) (fault : PortFault) → cut.right.items ≡ near ∷ back → IsWalkFault geo u level least (near ∷ []) fault → IsWalkFault geo u level least (all_of cut) fault
walk_near_right geo u level least cut back near fault right h =
    walk_right geo u level least cut.left.items (cut.run.items ++ cut.right.items) fault
    (walk_right geo u level least cut.run.items cut.right.items fault (subst (λ r. IsWalkFault geo u level least r fault) (sym right) (walk_left geo u level least (near ∷ []) back fault h)))
