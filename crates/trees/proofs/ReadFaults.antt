-- Which fault tells what stops a read of some bytes: from the page that is read to the row, and from a read to a walk.
use Rattle.std.proofs.Common.{◌≡◌, ◌≢◌, ℕ, zero, suc, ◌+◌, ◌-◌, ◌<◌, ◌≤◌, List, [], ◌∷◌, ◌++◌, length, take, drop, get_or, Result, IfErr, refl, sym, subst, arith, inl, inr}
use Rattle.std.proofs.lemmas.Result.{IfErr-weaker}
use Rattle.ex_base.specs.declared.faults.PortFault.{PortFault}
use Rattle.ex_base.specs.declared.faults.PortFault.TheVariants.{Disk, Memory, Damaged}
use Rattle.ex_base.specs.declared.geometry.Geometry.{Geometry}
use Rattle.ex_base.specs.declared.ground.Ground as ground
use Rattle.ex_base.specs.declared.names.Root.{Root}
use Rattle.ex_base.specs.Ports.{Keeps}
use Rattle.trees.specs.Node.{pairs_on}
use Rattle.trees.specs.Trees.{Units}
use Rattle.trees.specs.declared.rows.Part.{Part}
use Rattle.trees.specs.Rows.{parts_of, row_size}
use Rattle.trees.specs.Damage.{AnyPart, AtByte, IsByteFault, IsLeafFault, IsNodeAt, IsNodeFault, IsReadFault, IsRootFault, IsRootReadFault, IsWalkFault, root_row}
use Rattle.trees.proofs.Reading.{no_part}
use Rattle.trees.proofs.Sizes.{around_row}

-- ---- a read goes the ways of a walk

any_of_byte : (P : Part → ℕ → Type 0) (Q : Part → Type 0) (row : List Part) (at : ℕ) → ((part : Part) (inside : ℕ) → P part inside → Q part) → AtByte P row at → AnyPart Q row
any_of_byte P Q [] at map h = h
any_of_byte P Q (part ∷ row) at map h = elim h [
  | inl here ↦ inl (map part at here.1)
  | inr rest ↦ inr (any_of_byte P Q row (at - part.size) map rest.1)
]

pub byte_walks : (geo : Geometry) (u : Units) (level least : ℕ) (row : List Part) (byte : ℕ) (fault : PortFault) → IsByteFault geo u level least row byte fault → IsWalkFault geo u level least row fault
byte_walks geo u level least row byte Disk h = tt
byte_walks geo u level least row byte Memory h = tt
byte_walks geo u zero least row byte (Damaged at want got) h = any_of_byte _ _ row byte (λ part inside bad. bad) h
byte_walks geo u (suc l) least row byte (Damaged at want got) h = any_of_byte _ _ row byte (λ part inside bad. elim bad [
  | inl node ↦ inl node
  | inr below ↦ inr (below.0, byte_walks geo u l geo.fan (parts_of 0 (pairs_on (u part.page.0))) inside (Damaged at want got) below.1)
]) h

-- a fault of a read is one of a walk
pub read_walks : (geo : Geometry) (u : Units) (level least : ℕ) (row : List Part) (pos len : ℕ) (fault : PortFault) → IsReadFault geo u level least row pos len fault → IsWalkFault geo u level least row fault
read_walks geo u level least row pos len Disk h = tt
read_walks geo u level least row pos len Memory h = tt
read_walks geo u level least row pos len (Damaged at want got) h = let one = h tt in byte_walks geo u level least row one.0 (Damaged at want got) one.1.2

pub root_read_walks : (geo : Geometry) (u : Units) (root : Root) (pos len : ℕ) (fault : PortFault) → IsRootReadFault geo u root pos len fault → IsRootFault geo u root fault
root_read_walks geo u root pos len fault h = read_walks geo u root.height 2 (root_row root) pos len fault h

-- ---- a byte of a part of a row

byte_move : (P : Part → ℕ → Type 0) (row : List Part) (a b : ℕ) → a ≡ b → AtByte P row a → AtByte P row b
byte_move P row a b is h = subst (AtByte P row) is h

byte_before : (P : Part → ℕ → Type 0) (xs ys : List Part) (at : ℕ) → AtByte P xs at → AtByte P (xs ++ ys) at
byte_before P [] ys at h = absurd h
byte_before P (x ∷ xs) ys at h = elim h [
  | inl here ↦ inl here
  | inr rest ↦ inr (rest.0, byte_before P xs ys (at - x.size) rest.1)
]

byte_behind : (P : Part → ℕ → Type 0) (xs ys : List Part) (at : ℕ) → AtByte P ys at → AtByte P (xs ++ ys) (row_size xs + at)
byte_behind P [] ys at h = byte_move P ys at (0 + at) (omega arith) h
byte_behind P (x ∷ xs) ys at h = inr (omega arith, byte_move P (xs ++ ys) (row_size xs + at) (x.size + row_size xs + at - x.size) (omega arith) (byte_behind P xs ys at h))

module _ (geo : Geometry) (u : Units) where
  -- between the trees before and behind
  pub byte_inside : (level least : ℕ) (xs ys zs : List Part) (at : ℕ) (fault : PortFault) → IsByteFault geo u level least ys at fault → IsByteFault geo u level least (xs ++ (ys ++ zs)) (row_size xs + at) fault
  byte_inside zero least xs ys zs at fault h = byte_behind _ xs (ys ++ zs) at (byte_before _ ys zs at h)
  byte_inside (suc l) least xs ys zs at fault h = byte_behind _ xs (ys ++ zs) at (byte_before _ ys zs at h)

  -- a read of a part of the trees of a row is one of the row
  pub read_inside : (level least : ℕ) (xs ys zs : List Part) (inside some pos len : ℕ) (fault : PortFault) → pos ≤ row_size xs + inside → row_size xs + inside + some ≤ pos + len
      → IsReadFault geo u level least ys inside some fault → IsReadFault geo u level least (xs ++ (ys ++ zs)) pos len fault
  read_inside level least xs ys zs inside some pos len fault from to h damage =
      let one = h damage in
      (row_size xs + one.0, (omega (arith, from, one.1.0), omega (arith, to, one.1.1), byte_inside level least xs ys zs one.0 fault one.1.2))

  -- from one tree of a row
  pub read_index : (level least i : ℕ) (row : List Part) (inside some pos len : ℕ) (fault : PortFault) → i < length row → pos ≤ row_size (take i row) + inside → row_size (take i row) + inside + some ≤ pos + len
      → IsReadFault geo u level least (get_or row i no_part ∷ []) inside some fault → IsReadFault geo u level least row pos len fault
  read_index level least i row inside some pos len fault lt from to h =
      subst (λ r. IsReadFault geo u level least r pos len fault) (sym (around_row row i lt)) (read_inside level least (take i row) (get_or row i no_part ∷ []) (drop (i + 1) row) inside some pos len fault from to h)

  -- ---- one tree

  -- its leaf
  pub read_stops_at_leaf : (level least : ℕ) (tree : Part) (pos len : ℕ) (fault : PortFault) → level ≡ 0 → 1 ≤ len → len ≤ tree.size - pos → IsLeafFault geo tree.page fault → IsReadFault geo u level least (tree ∷ []) pos len fault
  read_stops_at_leaf zero least tree pos len fault low some fits h damage = (pos, (omega arith, omega arith, inl (omega arith, h)))
  read_stops_at_leaf (suc l) least tree pos len fault low some fits h damage = absurd (omega arith)

  -- its node
  pub read_stops_at_node : (level least : ℕ) (tree : Part) (pos len : ℕ) (fault : PortFault) → level ≢ 0 → 1 ≤ len → len ≤ tree.size - pos
      → IsNodeFault geo (u tree.page.0) level tree.size least tree.page.0 fault → IsReadFault geo u level least (tree ∷ []) pos len fault
  read_stops_at_node zero least tree pos len fault above some fits h damage = absurd (above refl)
  read_stops_at_node (suc l) least tree pos len fault above some fits h damage = (pos, (omega arith, omega arith, inl (omega arith, inl h)))

  -- a page below its node
  pub read_stops_below : (level least : ℕ) (tree : Part) (pos len : ℕ) (fault : PortFault) → level ≢ 0 → len ≤ tree.size - pos → IsNodeAt geo u level tree.size least tree.page.0
      → IsReadFault geo u (level - 1) geo.fan (parts_of 0 (pairs_on (u tree.page.0))) pos len fault → IsReadFault geo u level least (tree ∷ []) pos len fault
  read_stops_below zero least tree pos len fault above fits node h damage = absurd (above refl)
  read_stops_below (suc l) least tree pos len fault above fits node h damage =
      let one = h damage in
      let level_is : suc l - 1 ≡ l = omega arith in
      (one.0, (one.1.0, one.1.1, inl (omega (arith, fits, one.1.0, one.1.1), inr (node, subst (λ k. IsByteFault geo u k geo.fan (parts_of 0 (pairs_on (u tree.page.0))) one.0 fault) level_is one.1.2))))

-- ---- over a port

-- a fault of a later state that keeps the units
pub read_fault_back : {S : Type 0} (g : ground.Ghosts S) (a b : S) (level least : ℕ) (row : List Part) (pos len : ℕ) (fault : PortFault) → Keeps g a b
    → (g.tells b → IsReadFault (g.geometry b) (g.unit b) level least row pos len fault) → g.tells a → IsReadFault (g.geometry a) (g.unit a) level least row pos len fault
read_fault_back g a b level least row pos len fault k later told =
    subst (λ (units : Units). IsReadFault (g.geometry a) units level least row pos len fault) k.units
    (subst (λ (geo : Geometry). IsReadFault geo (g.unit b) level least row pos len fault) (g.leads_geometry a b k.leads) (later (g.leads_told a b k.leads told)))

-- what stops a read stops a walk
pub reads_walk : {S T : Type 0} (g : ground.Ghosts S) (a : S) (level least : ℕ) (row : List Part) (pos len : ℕ) (result : Result T PortFault)
    → IfErr result (λ fault. g.tells a → IsReadFault (g.geometry a) (g.unit a) level least row pos len fault) → IfErr result (λ fault. g.tells a → IsWalkFault (g.geometry a) (g.unit a) level least row fault)
reads_walk g a level least row pos len result h = IfErr-weaker result _ _ (λ fault one told. read_walks (g.geometry a) (g.unit a) level least row pos len fault (one told)) h

pub root_reads_walk : {S T : Type 0} (g : ground.Ghosts S) (a : S) (root : Root) (pos len : ℕ) (result : Result T PortFault)
    → IfErr result (λ fault. g.tells a → IsRootReadFault (g.geometry a) (g.unit a) root pos len fault) → IfErr result (λ fault. g.tells a → IsRootFault (g.geometry a) (g.unit a) root fault)
root_reads_walk g a root pos len result h = reads_walk g a root.height 2 (root_row root) pos len result h
