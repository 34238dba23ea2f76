-- The trees that a delete opens are what names them.
use Rattle.std.proofs.Common.{◌≡◌, ◌⊎◌, inl, inr, ℕ, zero, suc, ◌+◌, ◌-◌, ◌/◌, ◌<◌, ◌≤◌, List, [], ◌∷◌, ◌++◌, length, refl, sym, ap, subst, ◌∙◌, arith}
use Rattle.std.proofs.lemmas.List.{append-nil}
use Rattle.std.proofs.lemmas.Grind.{flat_map-append}
use Rattle.ex_base.specs.Area.{NamesLeaf}
use Rattle.ex_base.specs.Sizes.{leaf_bytes}
use Rattle.ex_base.specs.declared.geometry.Geometry.{Geometry}
use Rattle.ex_base.specs.declared.ground.Ground as ground
use Rattle.ex_base.specs.Ports.{Keeps}
use Rattle.ex_base.proofs.Each.{split_each}
use Rattle.trees.specs.Trees.{Units}
use Rattle.trees.specs.declared.rows.Part.{Part}
use Rattle.trees.specs.Damage.{IsNodeAt, IsSoundWay, NamesNode}
use Rattle.trees.specs.Node.{pairs_on}
use Rattle.trees.specs.Rows.{IsFilled, IsRowOn, parts_of, row_size}
use Rattle.trees.proofs.Ways.{way_back}
use Rattle.trees.specs.Built.{AreSome}
use Rattle.tree_delete.specs.declared.cut.Cut.{Cut}
use Rattle.tree_delete.specs.Cuts.{all_of, IsCutOf}
use Rattle.tree_delete.specs.Beside.{AtNear, nowhere, before, behind, Widens, TakesNear, takes_none, takes_before, takes_behind, AreNodesAt, children_on, IsSoundBeside, OpensSound}
use Rattle.tree_delete.proofs.CutLaws.{size_app}

pub none_there : (n : ℕ) (row : List Part) → n ≡ length row → (0 < n → ⊥) → row ≡ []
none_there n [] is none = refl
none_there n (part ∷ row) is none = absurd (none (omega arith))

pub children_app : (u : Units) (xs ys : List Part) → children_on u (xs ++ ys) ≡ children_on u xs ++ children_on u ys
children_app u xs ys = flat_map-append (λ (part : Part). parts_of 0 (pairs_on (u part.page.0))) xs ys

pub opens_kept : {S : Type 0} (g : ground.Ghosts S) (a b : S) (level least : ℕ) (cut : Cut) → Keeps g a b → (g.tells b → OpensSound (g.geometry b) (g.unit b) level least cut) → g.tells a → OpensSound (g.geometry a) (g.unit a) level least cut
opens_kept g a b level least cut k later told =
    subst (λ (units : Units). OpensSound (g.geometry a) units level least cut) k.units
    (subst (λ (geo : Geometry). OpensSound geo (g.unit b) level least cut) (g.leads_geometry a b k.leads) (later (g.leads_told a b k.leads told)))

pub nodes_back : {S : Type 0} (g : ground.Ghosts S) (a b : S) (level least : ℕ) (row below : List Part) → Keeps g a b → (g.tells b → AreNodesAt (g.geometry b) (g.unit b) level least row × (below ≡ children_on (g.unit b) row))
    → g.tells a → AreNodesAt (g.geometry a) (g.unit a) level least row × (below ≡ children_on (g.unit a) row)
nodes_back g a b level least row below k later told =
    subst (λ (units : Units). AreNodesAt (g.geometry a) units level least row × (below ≡ children_on units row)) k.units
    (subst (λ (geo : Geometry). AreNodesAt geo (g.unit b) level least row × (below ≡ children_on (g.unit b) row)) (g.leads_geometry a b k.leads) (later (g.leads_told a b k.leads told)))

module _ (geo : Geometry) (u : Units) where
  -- the children of one node
  pub node_one : (level least : ℕ) (part : Part) (below : List Part) → NamesNode geo part.page.0 → IsRowOn geo (u part.page.0) level part.size below → IsFilled geo level least below
      → IsNodeAt geo u level part.size least part.page.0 × (below ≡ children_on u (part ∷ []))
  node_one level least part below area on filled = (
    record { area = area; row = subst (IsRowOn geo (u part.page.0) level part.size) on.parts on; filled = subst (IsFilled geo level least) on.parts filled },
    sym (append-nil below) ∙ ap (λ (xs : List Part). xs ++ []) on.parts,
  )

  pub beside_low : (level other least : ℕ) (cut : Cut) → level ≡ 0 → OpensSound geo u 0 other cut → OpensSound geo u level least cut
  beside_low zero other least cut low h = h
  beside_low (suc l) other least cut low h = absurd (omega arith)

  pub beside_nowhere : (level least : ℕ) (cut : Cut) → 1 ≤ level → cut.run.items ≡ [] → OpensSound geo u level least cut
  beside_nowhere zero least cut above none = absurd (omega arith)
  beside_nowhere (suc l) least cut above none = inl none

  pub beside_up : (level least : ℕ) (cut below : Cut) → 1 ≤ level → AreNodesAt geo u level least cut.run.items → IsCutOf (children_on u cut.run.items) cut.at cut.len below
      → Widens geo u level cut.left.items cut.right.items below (λ lefts rights. IsSoundBeside geo u (level - 1) geo.fan lefts below.run.items rights below.at below.len) → OpensSound geo u level least cut
  beside_up zero least cut below above nodes of w = absurd (omega arith)
  beside_up (suc l) least cut below above nodes of w =
      let one : suc l - 1 ≡ l = omega arith in
      inr (nodes, (below, of, subst (λ k. Widens geo u (suc l) cut.left.items cut.right.items below (λ lefts rights. IsSoundBeside geo u k geo.fan lefts below.run.items rights below.at below.len)) one w))

  -- the leaf beside a run of leaves, all of which is read
  pub beside_leaf : (cut wider : Cut) → AreSome (all_of cut) → cut.at + cut.len ≤ row_size cut.run.items → (1 ≤ row_size cut.run.items - cut.len → row_size cut.run.items - cut.len < leaf_bytes geo / 2 → TakesNear cut wider)
      → ((byte : ℕ) → byte < row_size wider.run.items → (byte < wider.at) ⊎ (wider.at + wider.len ≤ byte) → IsSoundWay geo u (NamesLeaf geo) 0 0 wider.run.items byte byte) → OpensSound geo u 0 0 cut
  beside_leaf cut wider some inside takes ways = λ one few. near (takes one few)
    where
      parts : AreSome cut.left.items × AreSome (cut.run.items ++ cut.right.items)
      parts = split_each (λ (part : Part). 1 ≤ part.size) cut.left.items (cut.run.items ++ cut.right.items) some

      near : TakesNear cut wider → AtNear (λ part. NamesLeaf geo part.page.0) cut.left.items cut.right.items
      near (takes_none left right) = nowhere left right
      near (takes_before front part left run at) =
          let sized = (split_each (λ (part : Part). 1 ≤ part.size) front (part ∷ []) (subst AreSome left parts.0)).1.0 in
          let way : IsSoundWay geo u (NamesLeaf geo) 0 0 (part ∷ cut.run.items) 0 0 = subst (λ r. IsSoundWay geo u (NamesLeaf geo) 0 0 r 0 0) run (ways 0 (omega (arith, ap row_size run, sized)) (inl (omega (arith, at, sized)))) in
          before front part left (way.0 (omega (arith, sized)))
      near (takes_behind part back left right run at len) =
          let sized = (subst AreSome right (split_each (λ (part : Part). 1 ≤ part.size) cut.run.items cut.right.items parts.1).1).0 in
          let way : IsSoundWay geo u (NamesLeaf geo) 0 0 (cut.run.items ++ (part ∷ [])) (row_size cut.run.items) (row_size cut.run.items) =
          subst (λ r. IsSoundWay geo u (NamesLeaf geo) 0 0 r (row_size cut.run.items) (row_size cut.run.items)) run
          (ways (row_size cut.run.items) (omega (arith, ap row_size run, size_app cut.run.items (part ∷ []), sized)) (inr (omega (arith, at, len, inside)))) in
          behind part back left right ((way_back geo u (NamesLeaf geo) 0 0 cut.run.items (part ∷ []) (row_size cut.run.items) (row_size cut.run.items) (omega arith) way).0 (omega (arith, sized)))
