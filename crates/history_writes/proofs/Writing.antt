-- What stands on a disk where a leaf or a node was written.
use Rattle.std.proofs.Common.{◌≡◌, ◌≢◌, ◌≤◌, ◌<◌, ◌+◌, ◌*◌, ◌⊎◌, ℕ, zero, suc, true, false, List, [], ◌∷◌, ◌++◌, length, take, Some, inl, inr, refl, sym, ap, subst, ◌∙◌, arith}
use Rattle.std.specs.Prelude.{nat_lt, if◌then◌else◌, slice_get}
use Rattle.std.proofs.lemmas.Option.{same_Some}
use Rattle.ex_base.specs.declared.geometry.Geometry.{Geometry}
use Rattle.ex_base.specs.Area.{IsUnit, area_end, leaf_at, page_at}
use Rattle.ex_base.specs.Bytes.{part, repl}
use Rattle.ex_base.specs.Sizes.{leaf_bytes, volume_bytes}
use Rattle.disk_model.specs.Outside.{DiskOnly, Outside, IsWorld}
use Rattle.disk_model.specs.Calls.{Tears, Wrote}
use Rattle.disk_model.specs.Changes.{ChangesWithin, InRange, changes_wider, changes_write}
use Rattle.std.specs.Prelude.{IsTrue}
use Rattle.trees.specs.declared.width.Width.TheVariants.{Wide}
use Rattle.trees.specs.Node.{Node, PairsOf, node_page}
use Rattle.trees.specs.Trees.{Units}
use Rattle.tree_store.specs.Stored.{unit_bytes, unit_len}
use Rattle.tree_store.specs.Whole.{leaf_len, leaf_range}
use Rattle.tree_store.proofs.Places.{node_fits, page_len}
use Rattle.tree_store.proofs.Taking.{front_written, held_whole, other_written, whole_written}
use Rattle.volume_model.specs.Homes.{home}
use Rattle.history_model.specs.History.{numbered}
use Rattle.history_model.specs.Items.{IsLeafItem, IsNodeItem}
use Rattle.history_fronts.specs.Fronts.{ALeaf, ANode, Front, after}
use Rattle.history_volumes.specs.Transcribed.{IsLeafAt, IsNodeAt, paired}
use Rattle.history_volumes.proofs.Numbers.{numbered_within}
use Rattle.history_writes.specs.Pieces.{ArePiecesOn, LeafWritten, NodeWritten}
use Rattle.history_writes.specs.Places.{IsBehindCatalog, leaf_place, node_place}
use Rattle.history_writes.proofs.Placing.{leaf_behind, leaf_named, leaves_differ, node_named, paired_fits}

-- ---- units

pub home_unit : (g : Geometry) (d : List ℕ) (unit : ℕ) → home g d unit ≡ unit_bytes g (Some d) unit
home_unit g d unit = elim (nat_lt unit (area_end g)) as (λ b. (if b then page_at g d unit else leaf_at g d unit) ≡ part d (unit * g.page_size) (if b then g.page_size else leaf_bytes g)) [ true ↦ refl | false ↦ refl ]

-- bytes that are written at the front of a unit
pub record IsFront (g : Geometry) (unit : ℕ) (d bytes : List ℕ) : Type 0 where
  pub is : IsUnit g unit
  pub room : length bytes ≤ unit_len g unit
  pub fits : unit * g.page_size + length bytes ≤ length d

pub home_other : (g : Geometry) (unit other : ℕ) (d bytes : List ℕ) → IsFront g unit d bytes → IsUnit g other → other ≢ unit → home g (repl d (unit * g.page_size) bytes) other ≡ home g d other
home_other g unit other d bytes front is differ =
    home_unit g (repl d (unit * g.page_size) bytes) other ∙ other_written g unit other d bytes front.is is differ front.room front.fits ∙ sym (home_unit g d other)

-- ---- pieces that stay

pub leaf_stays : (g : Geometry) (units later : Units) (page : ℕ) (leaf : List ℕ) → later page ≡ units page → IsLeafAt g units page leaf → IsLeafAt g later page leaf
leaf_stays g units later page leaf same at = record { area = at.area; short = at.short; front = ap (take (length leaf)) same ∙ at.front }

pub node_stays : (g : Geometry) (units later : Units) (leaf node : ℕ → ℕ) (page : ℕ) (n : Node) → later page ≡ units page → IsNodeAt g units leaf node page n → IsNodeAt g later leaf node page n
node_stays g units later leaf node page n same at = record { area = at.area; pairs = subst (λ (b : List ℕ). PairsOf g.fan b n.level (paired leaf node n.level n.pairs)) (sym same) at.pairs }

-- ---- one more in a list

get_more : {A : Type 0} (xs : List A) (x y : A) (i : ℕ) → slice_get (xs ++ x ∷ []) i ≡ Some y → (slice_get xs i ≡ Some y) ⊎ ((i ≡ length xs) × (x ≡ y))
get_more [] x y zero e = inr (refl, same_Some x y e)
get_more [] x y (suc i) e = absurd cc
get_more (z ∷ xs) x y zero e = inl e
get_more (z ∷ xs) x y (suc i) e = elim (get_more xs x y i e) [ inl old ↦ inl old | inr new ↦ inr (omega (arith, new.0), new.1) ]

pub numbered_more : {A : Type 0} (xs : List A) (x y : A) (number : ℕ) → numbered (xs ++ x ∷ []) number ≡ Some y → (numbered xs number ≡ Some y) ⊎ ((number ≡ suc (length xs)) × (x ≡ y))
numbered_more xs x y zero e = absurd cc
numbered_more xs x y (suc i) e = elim (get_more xs x y i e) [ inl old ↦ inl old | inr new ↦ inr (ap suc new.0, new.1) ]

-- ---- a leaf

leaf_front : (g : Geometry) (number : ℕ) (d leaf : List ℕ) → 1 ≤ number → number ≤ g.segs → IsLeafItem g leaf → volume_bytes g ≤ length d → IsFront g (leaf_place g number) d leaf
leaf_front g number d leaf some there item large =
    let named = leaf_named g number some there in
    record {
      is = inr named;
      room = omega (arith, leaf_len g (leaf_place g number) named, item.1);
      fits = omega (arith, leaf_range g (leaf_place g number) 0 (length leaf) (length d) named (omega (arith, item.1)) large);
    }

pub leaf_lands : (g : Geometry) (d leaf : List ℕ) (f : Front) (number : ℕ) → number ≡ suc (length f.leaves) → number ≤ g.segs → IsLeafItem g leaf → volume_bytes g ≤ length d → ArePiecesOn g d f
    → ArePiecesOn g (repl d (leaf_place g number * g.page_size) leaf) (after f (ALeaf leaf))
leaf_lands g d leaf f number next there item large at =
    let front = leaf_front g number d leaf (omega (arith, next)) there item large in
    let named = leaf_named g number (omega (arith, next)) there in
    let now : List ℕ = repl d (leaf_place g number * g.page_size) leaf in
    record {
      leaves = λ i bytes is. elim (numbered_more f.leaves leaf bytes i is) [
        | inl old ↦ (
            let was = at.leaves i bytes old in
            let within = numbered_within f.leaves i bytes old in
            leaf_stays g (home g d) (home g now) (leaf_place g i) bytes (home_other g (leaf_place g number) (leaf_place g i) d leaf front (inr was.area) (leaves_differ g i number within.0 (omega (arith, within.1, next)))) was)
        | inr new ↦ (
            let same : i ≡ number = new.0 ∙ sym next in
            let here : IsLeafAt g (home g now) (leaf_place g number) leaf = record {
              area = named;
              short = item.1;
              front = ap (take (length leaf)) (home_unit g now (leaf_place g number)) ∙ front_written g (leaf_place g number) d leaf front.room front.fits;
            } in
            subst (λ (k : ℕ). IsLeafAt g (home g now) (leaf_place g k) bytes) (sym same) (subst (IsLeafAt g (home g now) (leaf_place g number)) new.1 here))
      ];
      nodes = λ i n is.
          let was = at.nodes i n is in
          node_stays g (home g d) (home g now) (leaf_place g) node_place (node_place i) n
          (home_other g (leaf_place g number) (node_place i) d leaf front (inl was.area) (λ same. absurd (omega (arith, same, was.area.1, leaf_behind g (leaf_place g number) named)))) was;
    }

-- ---- a node

node_front : (g : Geometry) (number : ℕ) (d page : List ℕ) → number < g.pages → length page ≡ g.page_size → volume_bytes g ≤ length d → IsFront g (node_place number) d page
node_front g number d page there long large =
    let named = node_named g number there in
    record { is = inl named; room = omega (arith, page_len g (node_place number) named, long); fits = node_fits g (node_place number) (length page) (length d) named long large }

pub node_lands : (g : Geometry) (d page : List ℕ) (node : Node) (f : Front) (number : ℕ) → number ≡ suc (length f.nodes) → number < g.pages → IsNodeItem g g.segs g.pages node → volume_bytes g ≤ length d
    → length page ≡ g.page_size → page ≡ node_page (length page) node.level (paired (leaf_place g) node_place node.level node.pairs) → ArePiecesOn g d f
    → ArePiecesOn g (repl d (node_place number * g.page_size) page) (after f (ANode node))
node_lands g d page node f number next there item large long spelled at =
    let front = node_front g number d page there long large in
    let named = node_named g number there in
    let now : List ℕ = repl d (node_place number * g.page_size) page in
    record {
      leaves = λ i bytes is.
          let was = at.leaves i bytes is in
          leaf_stays g (home g d) (home g now) (leaf_place g i) bytes
          (home_other g (node_place number) (leaf_place g i) d page front (inr was.area) (λ same. absurd (omega (arith, same, named.1, leaf_behind g (leaf_place g i) was.area)))) was;
      nodes = λ i n is. elim (numbered_more f.nodes node n i is) [
        | inl old ↦ (
            let was = at.nodes i n old in
            let within = numbered_within f.nodes i n old in
            node_stays g (home g d) (home g now) (leaf_place g) node_place (node_place i) n (home_other g (node_place number) (node_place i) d page front (inl was.area) (λ same. omega (arith, same, within.1, next))) was)
        | inr new ↦ (
            let same : i ≡ number = new.0 ∙ sym next in
            let is_there : home g now (node_place number) ≡ page = home_unit g now (node_place number) ∙ whole_written g (node_place number) d page (page_len g (node_place number) named ∙ sym long) front.fits in
            let placed = paired_fits g node.level node.pairs item.is item.fields item.children in
            let pairs : PairsOf g.fan page node.level (paired (leaf_place g) node_place node.level node.pairs) = record { fits = placed.is; width = Wide; fields = placed.fields; spelled = spelled } in
            let here : IsNodeAt g (home g now) (leaf_place g) node_place (node_place number) node = record {
              area = named;
              pairs = subst (λ (b : List ℕ). PairsOf g.fan b node.level (paired (leaf_place g) node_place node.level node.pairs)) (sym is_there) pairs;
            } in
            subst (λ (k : ℕ). IsNodeAt g (home g now) (leaf_place g) node_place (node_place k) n) (sym same) (subst (IsNodeAt g (home g now) (leaf_place g) node_place (node_place number)) new.1 here))
      ];
    }

-- ---- over the outside

pub at_home : (home page place size : ℕ) → home ≡ page * size → page ≡ place → home ≡ place * size
at_home home page place size is same = is ∙ ap (λ (n : ℕ). n * size) same

unit_changes : (g : Geometry) (a b : Outside) (unit n : ℕ) → DiskOnly a b → (IsTrue a.honest → Tears (unit * g.page_size) n a b) → IsUnit g unit → unit ≢ 257 → n ≤ unit_len g unit → ChangesWithin (IsBehindCatalog g) a b
unit_changes g a b unit n only tears is differ room =
    changes_wider (InRange (unit * g.page_size) n) (IsBehindCatalog g) (changes_write (unit * g.page_size) n only tears) (λ i here. (unit, is, differ, (here.0, omega (arith, here.1, room))))

pub leaf_changes : (g : Geometry) (a b : Outside) (number n : ℕ) → DiskOnly a b → (IsTrue a.honest → Tears (leaf_place g number * g.page_size) n a b) → 1 ≤ number → number ≤ g.segs → n ≤ leaf_bytes g → ChangesWithin (IsBehindCatalog g) a b
leaf_changes g a b number n only tears some there short =
    let named = leaf_named g number some there in
    unit_changes g a b (leaf_place g number) n only tears (inr named) (λ same. absurd (omega (arith, same, leaf_behind g (leaf_place g number) named, g.some_pages))) (omega (arith, leaf_len g (leaf_place g number) named, short))

pub node_changes : (g : Geometry) (a b : Outside) (number n : ℕ) → DiskOnly a b → (IsTrue a.honest → Tears (node_place number * g.page_size) n a b) → 1 ≤ number → number < g.pages → n ≡ g.page_size → ChangesWithin (IsBehindCatalog g) a b
node_changes g a b number n only tears some there long =
    let named = node_named g number there in
    unit_changes g a b (node_place number) n only tears (inl named) (λ same. omega (arith, same, some)) (omega (arith, page_len g (node_place number) named, long))

pub leaf_written : (g : Geometry) (a b : Outside) (number : ℕ) (leaf : List ℕ) → IsWorld a → volume_bytes g ≤ a.size → Wrote (leaf_place g number * g.page_size) leaf a b → number ≤ g.segs → IsLeafItem g leaf → LeafWritten g a b number leaf
leaf_written g a b number leaf world large wrote there item f next image holds at =
    (repl image (leaf_place g number * g.page_size) leaf, wrote image holds, leaf_lands g image leaf f number next there item (omega (arith, large, held_whole a world image holds)) at)

pub node_written : (g : Geometry) (a b : Outside) (number : ℕ) (page : List ℕ) (node : Node) → IsWorld a → volume_bytes g ≤ a.size → Wrote (node_place number * g.page_size) page a b → number < g.pages → IsNodeItem g g.segs g.pages node
    → length page ≡ g.page_size → page ≡ node_page (length page) node.level (paired (leaf_place g) node_place node.level node.pairs) → NodeWritten g a b number node
node_written g a b number page node world large wrote there item long spelled f next image holds at =
    (repl image (node_place number * g.page_size) page, wrote image holds, node_lands g image page node f number next there item (omega (arith, large, held_whole a world image holds)) long spelled at)
