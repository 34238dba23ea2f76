-- Rows of trees that are moved: below a node, and beside their copies.
use Rattle.std.proofs.Common.{◌≡◌, inl, inr, ℕ, zero, suc, ◌-◌, ◌<◌, Bool, true, false, List, [], ◌∷◌, ◌++◌, map, length, get_or, refl, sym, ap, subst, ◌∙◌}
use Rattle.std.specs.Prelude.{if◌then◌else◌, ◌||◌}
use Rattle.std.specs.List.{AllByRecursion, AllZip, flat_map}
use Rattle.std.proofs.lemmas.List.{append-nil}
use Rattle.ex_base.specs.declared.faults.PortFault.{PortFault}
use Rattle.ex_base.specs.declared.faults.PortFault.TheVariants.{Disk, Memory, Damaged}
use Rattle.ex_base.specs.declared.geometry.Geometry.{Geometry}
use Rattle.ex_base.specs.declared.ground.Ground as ground
use Rattle.ex_base.specs.Area.{catalog_no}
use Rattle.ex_base.specs.Ports.{IsDamage, Keeps}
use Rattle.ex_base.specs.Sizes.{leaf_bytes}
use Rattle.ex_base.proofs.Each.{each_as, each_at, split_each}
use Rattle.ex_base.proofs.Rows.{each-append}
use Rattle.trees.specs.declared.Pair.{Pair}
use Rattle.trees.specs.Damage.{AnyPart, AvoidsCatalog, IsNodeFault}
use Rattle.trees.specs.Made.{AreUsed, Extends, Has, sizes_of}
use Rattle.trees.specs.Names.{page_of_pair}
use Rattle.trees.specs.Node.{pairs_on}
use Rattle.trees.specs.Rows.{AreTrees, IsRowOn, parts_of, row_bytes, row_shape, row_units}
use Rattle.trees.specs.Shape.{Subtree, IsHalfFull}
use Rattle.trees.specs.Trees.{Units, IsNamed, HasSize, EachChild, bytes_on, for_each_child, shape_on, units_on}
use Rattle.trees.specs.declared.rows.Part.{Part}
use Rattle.trees.proofs.Laid.{extends_kept, extends_on, has_left, has_right}
use Rattle.trees.proofs.Reading.{no_part}
use Rattle.trees.proofs.Sound.{sound_walk}
use Rattle.compact.specs.High.{any_of, has_high, nodes_above, high_leaves, low_leaves}
use Rattle.compact.specs.Moved.{AreLow, Copies, HasCopy, IsOwn}
use Rattle.compact.specs.Walk.{AreLeaves, CanMove, HasLeast, IsGoodPair, IsTreeOf, Move, Stepped}
use Rattle.compact.proofs.Pairs.{each_later, pairs_later, tree_later}
use Rattle.compact.proofs.Steps.{paid_kept, room_later}

-- ---- the trees below a node

half_least : (fan full h : ℕ) (tree : Subtree h) → IsHalfFull fan full h tree → HasLeast fan full fan h tree
half_least fan full zero leaf h = tt
half_least fan full (suc l) trees h = (h.0, h.2)

-- where a tree of a node's row has a high leaf, the node's has
pub any_high : (g : Geometry) (dense : ℕ) (u : Units) (l before : ℕ) (pairs : List Pair) → AnyPart (λ (part : Part). has_high g dense u l part.page.0 ≡ true) (parts_of before pairs) → any_of (has_high g dense u l) (map page_of_pair pairs) ≡ true
any_high g dense u l before [] any = absurd any
any_high g dense u l before (pair ∷ pairs) (inl here) = ap (λ (b : Bool). b || any_of (has_high g dense u l) (map page_of_pair pairs)) here
any_high g dense u l before (pair ∷ pairs) (inr rest) =
    ap (λ (b : Bool). has_high g dense u l pair.page.0 || b) (any_high g dense u l pair.count pairs rest) ∙ or_true (has_high g dense u l pair.page.0)
  where
    or_true : (b : Bool) → (b || true) ≡ true
    or_true true = refl
    or_true false = refl

module _ {S : Type 0} (g : ground.Ghosts S) where
  children : (move : Move S) (dense : ℕ) (s : S) (l before : ℕ) (pairs : List Pair) → AllByRecursion (λ (pair : Pair). IsNamed (g.geometry s) (g.unit s) l pair.page.0) pairs → EachChild (HasSize (g.geometry s) (g.unit s) l) before pairs
      → AllByRecursion (IsHalfFull (g.geometry s).fan (leaf_bytes (g.geometry s)) l) (for_each_child (shape_on (g.unit s) l) before pairs)
      → AreUsed (g.used s) (flat_map (λ (pair : Pair). units_on (g.unit s) l pair.page.0) pairs) → AreUsed (g.used move.start) (flat_map (λ (pair : Pair). units_on (g.unit s) l pair.page.0) pairs)
      → AvoidsCatalog (flat_map (λ (pair : Pair). units_on (g.unit s) l pair.page.0) pairs) → AllByRecursion (Has move.units) (flat_map (λ (pair : Pair). units_on (g.unit s) l pair.page.0) pairs)
      → AllByRecursion (Has move.nodes) (flat_map (nodes_above (g.geometry s) dense (g.unit s) l) (map page_of_pair pairs)) → AllByRecursion (Has move.leaves) (flat_map (high_leaves (g.geometry s) dense (g.unit s) l) (map page_of_pair pairs))
      → AllByRecursion (IsTreeOf g move dense s l (g.geometry s).fan) (parts_of before pairs)
  children move dense s l before [] named sized half used begun avoids units nodes leaves = tt
  children move dense s l before (pair ∷ pairs) named sized half used begun avoids units nodes leaves =
      let here = units_on (g.unit s) l pair.page.0 in
      let rest = flat_map (λ (p : Pair). units_on (g.unit s) l p.page.0) pairs in
      let u = split_each (λ p. g.used s p ≡ true) here rest used in
      let b = split_each (λ p. g.used move.start p ≡ true) here rest begun in
      let a = split_each (λ p. p ≡ catalog_no → ⊥) here rest avoids in
      let m = split_each (Has move.units) here rest units in
      let n = split_each (Has move.nodes) (nodes_above (g.geometry s) dense (g.unit s) l pair.page.0) (flat_map (nodes_above (g.geometry s) dense (g.unit s) l) (map page_of_pair pairs)) nodes in
      let v = split_each (Has move.leaves) (high_leaves (g.geometry s) dense (g.unit s) l pair.page.0) (flat_map (high_leaves (g.geometry s) dense (g.unit s) l) (map page_of_pair pairs)) leaves in (
        record { named = named.0; sized = sized.0; enough = half_least (g.geometry s).fan (leaf_bytes (g.geometry s)) l (shape_on (g.unit s) l pair.page.0 (pair.count - before)) half.0; used = u.0; begun = b.0; avoids = a.0; units = m.0; nodes = n.0; leaves = v.0 },
        children move dense s l pair.count pairs named.1 sized.1 half.1 u.1 b.1 a.1 m.1 n.1 v.1,
      )

  pub trees_below : (move : Move S) (dense : ℕ) (s : S) (l least : ℕ) (part : Part) (below : List Part) → IsTreeOf g move dense s (suc l) least part → below ≡ parts_of 0 (pairs_on (g.unit s part.page.0)) → AllByRecursion (IsTreeOf g move dense s l (g.geometry s).fan) below
  trees_below move dense s l least part below t is =
      let pairs = pairs_on (g.unit s part.page.0) in
      let nodes = split_each (Has move.nodes) (if has_high (g.geometry s) dense (g.unit s) (suc l) part.page.0 then part.page.0 ∷ [] else []) (flat_map (nodes_above (g.geometry s) dense (g.unit s) l) (map page_of_pair pairs)) t.nodes in
      subst (AllByRecursion (IsTreeOf g move dense s l (g.geometry s).fan)) (sym is)
      (children move dense s l 0 pairs t.named.2 t.sized.1 t.enough.1 t.used.1 t.begun.1 t.avoids.1 t.units.1 nodes.1 t.leaves)

  -- what can be moved can be moved in a state that keeps the volume
  pub can_kept : (move : Move S) (dense : ℕ) (a b : S) (moves : Copies) (l least : ℕ) (row : List Part) → Keeps g a b → CanMove g move dense a moves l least row → CanMove g move dense b moves l least row
  can_kept move dense a b moves l least row k can =
      let ext = extends_kept g a b k in
      record {
        since = extends_on g move.start a b can.since ext;
        trees = each_later g move dense a b l least row ext can.trees;
        pairs = pairs_later g move dense a b moves can.since ext can.pairs;
        leaves = subst (λ (h : Geometry). AreLeaves h move.leaves) (sym (g.leads_geometry a b k.leads)) can.leaves;
        room = room_later g move dense a b moves moves k.leads (paid_kept g a b dense moves moves move.nodes move.leaves k.used k.free (λ p c is. is) refl) can.room;
      }

  -- so can the trees below a node that was read
  pub can_below : (move : Move S) (dense : ℕ) (a b : S) (moves : Copies) (l level least : ℕ) (part : Part) (below : List Part) → Keeps g a b → IsRowOn (g.geometry a) (g.unit a part.page.0) level part.size below
      → CanMove g move dense a moves (suc l) least (part ∷ []) → CanMove g move dense b moves l (g.geometry b).fan below
  can_below move dense a b moves l level least part below k row can =
      let now = can_kept move dense a b moves (suc l) least (part ∷ []) k can in
      let is : below ≡ parts_of 0 (pairs_on (g.unit b part.page.0)) = row.parts ∙ ap (λ (f : ℕ → List ℕ). parts_of 0 (pairs_on (f part.page.0))) (sym k.units) in
      record { since = now.since; trees = trees_below move dense b l least part below now.trees.0 is; pairs = now.pairs; leaves = now.leaves; room = now.room }

  -- one of a row's trees, in a state to which the trees before it were moved
  pub can_at : (move : Move S) (dense : ℕ) (old now : S) (moves after : Copies) (l least i : ℕ) (row : List Part) (was units : List ℕ) → i < length row → Extends g old now → CanMove g move dense old moves l least row
      → Stepped g move dense old now moves after was units → CanMove g move dense now after l least (get_or row i no_part ∷ [])
  can_at move dense old now moves after l least i row was units lt ext can step = record {
    since = extends_on g move.start old now can.since ext;
    trees = (tree_later g move dense old now l least (get_or row i no_part) ext (each_at (IsTreeOf g move dense old l least) row i no_part lt can.trees), tt);
    pairs = step.pairs;
    leaves = subst (λ (h : Geometry). AreLeaves h move.leaves) (sym (g.leads_geometry old now ext.leads)) can.leaves;
    room = room_later g move dense old now moves after ext.leads step.paid can.room;
  }

  -- the node of such a tree is what names it
  pub sound_node : (move : Move S) (dense : ℕ) (s : S) (moves : Copies) (l least : ℕ) (part : Part) (fault : PortFault) → CanMove g move dense s moves (suc l) least (part ∷ []) → IsNodeFault (g.geometry s) (g.unit s part.page.0) (suc l) part.size least part.page.0 fault → IsDamage fault → ⊥
  sound_node move dense s moves l least part Disk can is damage = damage
  sound_node move dense s moves l least part Memory can is damage = damage
  sound_node move dense s moves l least part (Damaged at want got) can is damage =
      let t = can.trees.0 in
      sound_walk (g.geometry s) (g.unit s) (suc l) least (part ∷ []) (Damaged at want got) ((t.named, t.sized), tt) (t.enough, tt) (subst AvoidsCatalog (sym (append-nil (units_on (g.unit s) (suc l) part.page.0))) t.avoids) (inl (inl is)) damage

  -- ---- a row beside its copies

  -- The copies of a row's trees are as they are, and what these lead to was sent.
  pub record RowAs (move : Move S) (dense : ℕ) (s : S) (moves : Copies) (l : ℕ) (row made : List Part) : Type 0 where
    pub trees : AreTrees (g.geometry s) (g.unit s) l made
    pub bytes : row_bytes (g.unit s) l made ≡ row_bytes (g.unit s) l row
    pub shape : row_shape (g.unit s) l made ≡ row_shape (g.unit s) l row
    pub used : AreUsed (g.used s) (row_units (g.unit s) l made)
    pub low : AreLow (g.geometry s) dense (row_units (g.unit s) l made)
    pub own : AllByRecursion (IsOwn g move.start s move.first move.units) (row_units (g.unit s) l made)
    pub stay : AllByRecursion (Has (row_units (g.unit s) l made)) (flat_map (λ (part : Part). low_leaves (g.geometry s) dense (g.unit s) l part.page.0) row)
    pub leaves : AllByRecursion (HasCopy moves) (flat_map (λ (part : Part). high_leaves (g.geometry s) dense (g.unit s) l part.page.0) row)
    pub nodes : AllByRecursion (HasCopy moves) (flat_map (λ (part : Part). nodes_above (g.geometry s) dense (g.unit s) l part.page.0) row)

  pub row_as : (move : Move S) (dense : ℕ) (s : S) (moves : Copies) (l least : ℕ) (row made : List Part) → AllZip (λ (part copy : Part). IsGoodPair g move dense s moves l part.page.0 copy.page.0) row made → sizes_of made ≡ sizes_of row
      → AllByRecursion (IsTreeOf g move dense s l least) row → RowAs move dense s moves l row made
  row_as move dense s moves l least [] [] good sizes trees = record { trees = tt; bytes = refl; shape = refl; used = tt; low = tt; own = tt; stay = tt; leaves = tt; nodes = tt }
  row_as move dense s moves l least [] (copy ∷ made) good sizes trees = absurd good
  row_as move dense s moves l least (part ∷ row) [] good sizes trees = absurd good
  row_as move dense s moves l least (part ∷ row) (copy ∷ made) good sizes trees =
      let size : copy.size ≡ part.size = cc in
      let others : sizes_of made ≡ sizes_of row = cc in
      let rest = row_as move dense s moves l least row made good.1 others trees.1 in
      let sound = good.0.sound in
      let sized = trees.0.sized in
      let bytes : bytes_on (g.unit s) l copy.page.0 copy.size ≡ bytes_on (g.unit s) l part.page.0 part.size = ap (bytes_on (g.unit s) l copy.page.0) size ∙ sound.bytes part.size sized in
      let shape : shape_on (g.unit s) l copy.page.0 copy.size ≡ shape_on (g.unit s) l part.page.0 part.size = ap (shape_on (g.unit s) l copy.page.0) size ∙ sound.shape part.size sized in
      record {
        trees = ((sound.named, subst (HasSize (g.geometry s) (g.unit s) l copy.page.0) (sym size) (sound.sized part.size sized)), rest.trees);
        bytes = ap (λ (xs : List ℕ). xs ++ row_bytes (g.unit s) l made) bytes ∙ ap (λ (xs : List ℕ). bytes_on (g.unit s) l part.page.0 part.size ++ xs) rest.bytes;
        shape = ap (λ (x : Subtree l). x ∷ row_shape (g.unit s) l made) shape ∙ ap (λ (xs : List (Subtree l)). shape_on (g.unit s) l part.page.0 part.size ∷ xs) rest.shape;
        used = each-append (λ p. g.used s p ≡ true) (units_on (g.unit s) l copy.page.0) (row_units (g.unit s) l made) sound.used rest.used;
        low = each-append _ (units_on (g.unit s) l copy.page.0) (row_units (g.unit s) l made) sound.low rest.low;
        own = each-append (IsOwn g move.start s move.first move.units) (units_on (g.unit s) l copy.page.0) (row_units (g.unit s) l made) good.0.own rest.own;
        stay =
            let here = low_leaves (g.geometry s) dense (g.unit s) l part.page.0 in
            let behind = flat_map (λ (p : Part). low_leaves (g.geometry s) dense (g.unit s) l p.page.0) row in
            let first = units_on (g.unit s) l copy.page.0 in
            let others = row_units (g.unit s) l made in
            each-append (Has (first ++ others)) here behind (each_as (Has first) (Has (first ++ others)) here (λ p has. has_left first others p has) sound.stay)
            (each_as (Has others) (Has (first ++ others)) behind (λ p has. has_right first others p has) rest.stay);
        leaves = each-append (HasCopy moves) (high_leaves (g.geometry s) dense (g.unit s) l part.page.0) (flat_map (λ (p : Part). high_leaves (g.geometry s) dense (g.unit s) l p.page.0) row) good.0.sent.leaves rest.leaves;
        nodes = each-append (HasCopy moves) (nodes_above (g.geometry s) dense (g.unit s) l part.page.0) (flat_map (λ (p : Part). nodes_above (g.geometry s) dense (g.unit s) l p.page.0) row) good.0.sent.nodes rest.nodes;
      }
