-- Which fault tells what is read of a page.
use Rattle.std.proofs.Common.{◌≡◌, ◌≢◌, ◌⊎◌, ℕ, zero, suc, ◌-◌, ◌<◌, ◌≤◌, List, [], ◌∷◌, ◌++◌, length, take, drop, get_or, Result, Ok, Err, IfErr, refl, sym, ap, subst, arith, inl, inr}
use Rattle.ex_base.specs.declared.faults.PortFault.{PortFault}
use Rattle.ex_base.specs.declared.faults.PortFault.TheVariants.{Disk, Memory, Damaged}
use Rattle.ex_base.specs.declared.ground.Ground as ground
use Rattle.ex_base.specs.Ports.{IsDamage, Cause, Keeps}
use Rattle.ex_base.specs.declared.faults.Seen.{Seen}
use Rattle.ex_base.specs.declared.names.PageNo.{PageNo}
use Rattle.ex_base.specs.declared.geometry.Geometry.{Geometry}
use Rattle.trees.specs.Node.{pairs_on}
use Rattle.trees.specs.Trees.{Units}
use Rattle.trees.specs.declared.rows.Part.{Part}
use Rattle.trees.specs.Rows.{parts_of, IsFilled, IsRowOn}
use Rattle.ex_base.specs.Area.{NamesLeaf}
use Rattle.ex_base.specs.Seen.{node_seen, leaf_seen, nothing_seen}
use Rattle.trees.specs.Damage.{elsewhere, outside, unfilled, NamesNode, IsNodeFault, IsLeafFault, IsWalkFault, AnyPart}
use Rattle.trees.specs.Reads.{NodeReads}
use Rattle.trees.proofs.NodeLaws.{spelled_reads}
use Rattle.trees.proofs.Parts.{length-parts}
use Rattle.trees.proofs.Reading.{no_part}

-- a node that breaks the rules on its children
pub breaks_rules : (geo : Geometry) (bytes : List ℕ) (level total least page : ℕ) (fault : PortFault) → (IsFilled geo level least (parts_of 0 (pairs_on bytes)) → ⊥)
    → fault ≡ Damaged (record { 0 = page }) (node_seen level total) nothing_seen → IsNodeFault geo bytes level total least page fault
breaks_rules geo bytes level total least page fault broken is =
    subst (IsNodeFault geo bytes level total least page) (sym is) (refl, refl, unfilled broken refl)

-- a page where no node may lie
pub lies_elsewhere : (geo : Geometry) (bytes : List ℕ) (level total least page : ℕ) (fault : PortFault) → (NamesNode geo page → ⊥)
    → fault ≡ Damaged (record { 0 = page }) (node_seen level total) nothing_seen → IsNodeFault geo bytes level total least page fault
lies_elsewhere geo bytes level total least page fault out is =
    subst (IsNodeFault geo bytes level total least page) (sym is) (refl, refl, elsewhere out refl)

-- what is seen of a node isn't nothing
pub seen_apart : (level total : ℕ) → node_seen level total ≢ nothing_seen
seen_apart level total same = omega (arith, ap (λ (seen : Seen). seen.kind) same)

pub none_cause : (before now : ℕ) (page : PageNo) (level total : ℕ) (fault : PortFault) → fault ≡ Damaged page (node_seen level total) nothing_seen → Cause before now fault
none_cause before now page level total fault is = subst (Cause before now) (sym is) (seen_apart level total)

-- a page that names no leaf
pub no_leaf_here : (geo : Geometry) (page : PageNo) (fault : PortFault) → (NamesLeaf geo page.0 → ⊥) → fault ≡ Damaged page leaf_seen nothing_seen → IsLeafFault geo page fault
no_leaf_here geo page fault out is = subst (IsLeafFault geo page) (sym is) (refl, refl, refl, out)

pub leaf_cause : (before now : ℕ) (page : PageNo) (fault : PortFault) → fault ≡ Damaged page leaf_seen nothing_seen → Cause before now fault
leaf_cause before now page fault is = subst (Cause before now) (sym is) (λ same. omega (arith, ap (λ (seen : Seen). seen.kind) same))

-- a fault that tells of no damage is one of any leaf
pub leaf_undamaged : {X : Type 0} (geo : Geometry) (page : PageNo) (r : Result X PortFault) → IfErr r (λ f. IsDamage f → ⊥) → IfErr r (IsLeafFault geo page)
leaf_undamaged geo page (Ok x) h = tt
leaf_undamaged geo page (Err Disk) h = tt
leaf_undamaged geo page (Err Memory) h = tt
leaf_undamaged geo page (Err (Damaged at want got)) h = absurd (h tt)

-- a page that reads as no node
pub reads_as_none : (geo : Geometry) (bytes : List ℕ) (level total least page : ℕ) (fault : PortFault) → geo.fan ≤ 340 → (NodeReads geo.fan bytes → ⊥)
    → fault ≡ Damaged (record { 0 = page }) (node_seen level total) nothing_seen → IsNodeFault geo bytes level total least page fault
reads_as_none geo bytes level total least page fault small none is =
    subst (IsNodeFault geo bytes level total least page) (sym is) (refl, refl, outside (λ l pairs h. none (spelled_reads geo.fan bytes l pairs small h).reads) refl)

pub too_few : (geo : Geometry) (bytes : List ℕ) (level least : ℕ) → length (pairs_on bytes) < least → IsFilled geo level least (parts_of 0 (pairs_on bytes)) → ⊥
too_few geo bytes level least few h = omega (arith, h.enough, length-parts 0 (pairs_on bytes))

-- a fault of a later state that keeps the units
pub walk_back : {S : Type 0} (g : ground.Ghosts S) (a b : S) (level least : ℕ) (row : List Part) (fault : PortFault) → Keeps g a b → (g.tells b → IsWalkFault (g.geometry b) (g.unit b) level least row fault)
    → g.tells a → IsWalkFault (g.geometry a) (g.unit a) level least row fault
walk_back g a b level least row fault k later told =
    subst (λ units. IsWalkFault (g.geometry a) units level least row fault) k.units
    (subst (λ geo. IsWalkFault geo (g.unit b) level least row fault) (g.leads_geometry a b k.leads) (later (g.leads_told a b k.leads told)))

-- a fault that tells of no damage
pub walk_undamaged : (geo : Geometry) (u : Units) (level least : ℕ) (row : List Part) (fault : PortFault) → (IsDamage fault → ⊥) → IsWalkFault geo u level least row fault
walk_undamaged geo u level least row Disk none = tt
walk_undamaged geo u level least row Memory none = tt
walk_undamaged geo u level least row (Damaged at want got) none = absurd (none tt)

-- ---- a tree of a row

pub any_at : (P : Part → Type 0) (row : List Part) (i : ℕ) → i < length row → P (get_or row i no_part) → AnyPart P row
any_at P [] i lt h = absurd (omega arith)
any_at P (part ∷ row) zero lt h = inl h
any_at P (part ∷ row) (suc i) lt h = inr (any_at P row i (omega arith) h)

pub any_take : (P : Part → Type 0) (n : ℕ) (row : List Part) → AnyPart P (take n row) → AnyPart P row
any_take P zero row h = absurd h
any_take P (suc n) [] h = absurd h
any_take P (suc n) (part ∷ row) h = elim h [
  | inl here ↦ inl here
  | inr rest ↦ inr (any_take P n row rest)
]

pub any_drop : (P : Part → Type 0) (n : ℕ) (row : List Part) → AnyPart P (drop n row) → AnyPart P row
any_drop P zero row h = h
any_drop P (suc n) [] h = absurd h
any_drop P (suc n) (part ∷ row) h = inr (any_drop P n row h)

pub any_split : (P : Part → Type 0) (xs ys : List Part) → AnyPart P (xs ++ ys) → AnyPart P xs ⊎ AnyPart P ys
any_split P [] ys h = inr h
any_split P (x ∷ xs) ys h = elim h [
  | inl here ↦ inl (inl here)
  | inr rest ↦ elim (any_split P xs ys rest) [
    | inl a ↦ inl (inr a)
    | inr b ↦ inr b
  ]
]

-- from a part of a row to the row
pub walk_part : (geo : Geometry) (u : Units) (level least from n : ℕ) (row : List Part) (fault : PortFault) → IsWalkFault geo u level least (take n (drop from row)) fault → IsWalkFault geo u level least row fault
walk_part geo u level least from n row Disk h = tt
walk_part geo u level least from n row Memory h = tt
walk_part geo u zero least from n row (Damaged at want got) h = any_drop _ from row (any_take _ n (drop from row) h)
walk_part geo u (suc l) least from n row (Damaged at want got) h = any_drop _ from row (any_take _ n (drop from row) h)

pub walk_node : (geo : Geometry) (u : Units) (level least i : ℕ) (row : List Part) (fault : PortFault) → level ≢ 0 → i < length row
    → IsNodeFault geo (u (get_or row i no_part).page.0) level (get_or row i no_part).size least (get_or row i no_part).page.0 fault → IsWalkFault geo u level least row fault
walk_node geo u level least i row Disk above lt h = tt
walk_node geo u level least i row Memory above lt h = tt
walk_node geo u zero least i row (Damaged at want got) above lt h = absurd (above refl)
walk_node geo u (suc l) least i row (Damaged at want got) above lt h = any_at _ row i lt (inl h)

pub walk_below : (geo : Geometry) (u : Units) (level least i : ℕ) (row below : List Part) (fault : PortFault) → level ≢ 0 → i < length row → NamesNode geo (get_or row i no_part).page.0
    → IsRowOn geo (u (get_or row i no_part).page.0) level (get_or row i no_part).size below → IsFilled geo level least below → IsWalkFault geo u (level - 1) geo.fan below fault → IsWalkFault geo u level least row fault
walk_below geo u level least i row below Disk above lt area on filled h = tt
walk_below geo u level least i row below Memory above lt area on filled h = tt
walk_below geo u zero least i row below (Damaged at want got) above lt area on filled h = absurd (above refl)
walk_below geo u (suc l) least i row below (Damaged at want got) above lt area on filled h =
    let one : suc l - 1 ≡ l = omega arith in
    any_at _ row i lt (inr (
      record { area = area; row = subst (IsRowOn geo (u (get_or row i no_part).page.0) (suc l) (get_or row i no_part).size) on.parts on; filled = subst (IsFilled geo (suc l) least) on.parts filled },
      subst (λ k. IsWalkFault geo u k geo.fan (parts_of 0 (pairs_on (u (get_or row i no_part).page.0))) (Damaged at want got)) one (subst (λ r. IsWalkFault geo u (suc l - 1) geo.fan r (Damaged at want got)) on.parts h),
    ))
