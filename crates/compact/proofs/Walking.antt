-- A tree that is moved: what its parts leave.
use Rattle.std.proofs.Common.{◌≡◌, ◌≢◌, inl, inr, ℕ, zero, suc, ◌-◌, ◌≤◌, Bool, true, false, List, [], ◌∷◌, length, Some, None, refl, sym, ap, subst, ◌∙◌, arith}
use Rattle.std.proofs.lemmas.Bool.{cases_Bool}
use Rattle.ex_base.specs.declared.faults.PortFault.{PortFault}
use Rattle.ex_base.specs.declared.ground.Ground as ground
use Rattle.ex_base.specs.declared.names.Area.TheVariants.{Page}
use Rattle.ex_base.specs.declared.names.PageNo.{PageNo}
use Rattle.ex_base.specs.Ports.{IsDamage, Keeps}
use Rattle.ex_base.specs.Even.{sum_of}
use Rattle.ex_base.proofs.Spread.{plain}
use Rattle.trees.specs.Built.{AreSome}
use Rattle.trees.specs.Damage.{IsNodeFault}
use Rattle.trees.specs.Made.{Extends, Holds, sizes_of}
use Rattle.trees.specs.Rows.{IsRowOn, row_size}
use Rattle.trees.proofs.Sizes.{sizes_sum}
use Rattle.trees.specs.declared.rows.Part.{Part}
use Rattle.compact.specs.Moved.{Copies, KeepsCopies}
use Rattle.compact.specs.Walk.{CanMove, Move, NodeMade, RowMoved, TreeMoved}
use Rattle.compact.proofs.NodeSteps.{Below, no_copy, node_made, node_room, node_stays, row_below}
use Rattle.compact.proofs.Pairs.{each_later}
use Rattle.compact.proofs.Rows.{can_below, row_as, sound_node, trees_below}

-- ---- rows of the same sizes

pub same_length : (made row : List Part) → sizes_of made ≡ sizes_of row → length made ≡ length row
same_length [] [] same = refl
same_length [] (part ∷ row) same = absurd cc
same_length (copy ∷ made) [] same = absurd cc
same_length (copy ∷ made) (part ∷ row) same = let rest : sizes_of made ≡ sizes_of row = cc in omega (arith, same_length made row rest)

pub same_size : (made row : List Part) → sizes_of made ≡ sizes_of row → row_size made ≡ row_size row
same_size made row same = sym (sizes_sum made) ∙ ap (sum_of plain) same ∙ sizes_sum row

pub same_some : (made row : List Part) → sizes_of made ≡ sizes_of row → AreSome row → AreSome made
same_some [] row same some = tt
same_some (copy ∷ made) [] same some = absurd cc
same_some (copy ∷ made) (part ∷ row) same some =
    let rest : sizes_of made ≡ sizes_of row = cc in
    let here : copy.size ≡ part.size = cc in (omega (arith, here, some.0), same_some made row rest some.1)

module _ {S : Type 0} (g : ground.Ghosts S) where
  -- the trees below a node were moved, whatever the move
  abbrev pub IsBelowMoved : S → S → ℕ → Copies → Copies → ℕ → List Part → List Part → Bool → Type 0
  IsBelowMoved r b dense moves mid level lent made changed = (m : ℕ) → level - 1 ≡ m → (move : Move S) → CanMove g move dense r moves m (g.geometry r).fan lent → RowMoved g move dense r b moves mid m lent made changed

  -- a node that was read, and its trees, which were moved
  pub record ReadNode (a r b : S) (dense : ℕ) (moves mid : Copies) (level : ℕ) (part : Part) (below lent made : List Part) (changed : Bool) : Type 0 where
    pub inner : level ≢ 0
    pub kept : Keeps g a r
    pub row : IsRowOn (g.geometry a) (g.unit a part.page.0) level part.size below
    pub same : lent ≡ below
    pub extends : Extends g r b
    pub sizes : sizes_of made ≡ sizes_of lent
    pub keeps : KeepsCopies moves mid
    pub none : moves part.page.0 ≡ None
    pub moved : IsBelowMoved r b dense moves mid level lent made changed

  -- the trees of such a node can be moved
  pub below_can : (move : Move S) (dense : ℕ) (a r : S) (moves : Copies) (l level least : ℕ) (part : Part) (below lent : List Part) → level ≢ 0 → level ≡ l → Keeps g a r → IsRowOn (g.geometry a) (g.unit a part.page.0) level part.size below → lent ≡ below
      → CanMove g move dense a moves l least (part ∷ []) → CanMove g move dense r moves (level - 1) (g.geometry r).fan lent
  below_can move dense a r moves zero level least part below lent inner same kept row is can = absurd (inner same)
  below_can move dense a r moves (suc m) level least part below lent inner same kept row is can =
      let down : m ≡ level - 1 = omega (arith, same) in
      subst (λ k. CanMove g move dense r moves k (g.geometry r).fan lent) down (subst (CanMove g move dense r moves m (g.geometry r).fan) (sym is) (can_below g move dense a r moves m level least part below kept row can))

  below_of : (move : Move S) (a r b : S) (dense : ℕ) (moves mid : Copies) (m level least : ℕ) (part : Part) (below lent made : List Part) (changed : Bool) → level ≡ suc m → ReadNode a r b dense moves mid level part below lent made changed
      → CanMove g move dense a moves (suc m) least (part ∷ []) → RowMoved g move dense r b moves mid m below made changed × Below g move dense a b moves mid m least part below made changed
  below_of move a r b dense moves mid m level least part below lent made changed same x can =
      let now = can_below g move dense a r moves m level least part below x.kept x.row can in
      let moved = subst (λ (row : List Part). RowMoved g move dense r b moves mid m row made changed) x.same (x.moved m (omega (arith, same)) move (subst (CanMove g move dense r moves m (g.geometry r).fan) (sym x.same) now)) in
      (moved, row_below g move dense a r b moves mid m level least part below made changed can x.kept x.row x.extends (x.sizes ∙ ap sizes_of x.same) x.keeps x.none moved)

  -- there is a page for its copy, where it gets one
  pub room_of : (move : Move S) (a r b : S) (dense : ℕ) (moves mid : Copies) (l level least : ℕ) (part : Part) (below lent made : List Part) (changed : Bool) → level ≡ l → ReadNode a r b dense moves mid level part below lent made changed
      → CanMove g move dense a moves l least (part ∷ []) → changed ≡ true → 1 ≤ g.free b Page
  room_of move a r b dense moves mid zero level least part below lent made changed same x can turned = absurd (x.inner same)
  room_of move a r b dense moves mid (suc m) level least part below lent made changed same x can turned =
      node_room g move dense a b moves mid m least part below made changed (below_of move a r b dense moves mid m level least part below lent made changed same x can).1 turned

  -- what comes of the node
  pub record NamedAgain (b c : S) (mid after : Copies) (level : ℕ) (part : Part) (made : List Part) (changed : Bool) (copy : PageNo) : Type 0 where
    pub extends : Extends g b c
    pub same : changed ≡ false → (copy ≡ part.page) × (c ≡ b)
    pub made_new : changed ≡ true → (m : ℕ) → level ≡ suc m → Holds g b m made → NodeMade g b c m made (record { size = part.size; page = copy })
    pub keeps : KeepsCopies mid after
    pub here : mid part.page.0 ≡ None → after part.page.0 ≡ Some copy
    pub others : (q : ℕ) → q ≢ part.page.0 → after q ≡ mid q

  pub node_done : (move : Move S) (a r b c : S) (dense : ℕ) (moves mid after : Copies) (l level least : ℕ) (part : Part) (below lent made : List Part) (changed : Bool) (copy : PageNo) → level ≡ l → ReadNode a r b dense moves mid level part below lent made changed
      → NamedAgain b c mid after level part made changed copy → CanMove g move dense a moves l least (part ∷ []) → TreeMoved g move dense a c moves after l part.page.0 copy.0
  node_done move a r b c dense moves mid after zero level least part below lent made changed copy same x y can = absurd (x.inner same)
  node_done move a r b c dense moves mid after (suc m) level least part below lent made changed copy same x y can =
      let both = below_of move a r b dense moves mid m level least part below lent made changed same x can in
      let here = y.here (no_copy g move dense a b moves mid m least part below made changed both.1) in
      elim (cases_Bool changed) [
        | inl turned ↦
            let was = each_later g move dense a b m (g.geometry a).fan below both.1.extends (trees_below g move dense a m least part below can.trees.0 x.row.parts) in
            let rows = row_as g move dense b mid m (g.geometry a).fan below made both.1.good both.1.sizes was in
            node_made g move dense a b c moves mid after m least part below made changed copy both.1 turned y.extends (y.made_new turned m same (record { trees = rows.trees; used = rows.used })) y.keeps here y.others
        | inr still ↦
            let is = y.same still in
            subst (λ (s : S). TreeMoved g move dense a s moves after (suc m) part.page.0 copy.0) (sym is.1)
            (subst (λ (p : PageNo). TreeMoved g move dense a b moves after (suc m) part.page.0 p.0) (sym is.0)
            (node_stays g move dense a b moves mid after m least part below made changed both.1 (both.0.same still) y.keeps (here ∙ ap (λ (p : PageNo). Some p) is.0) y.others))
      ]

  -- no damage is told of a node of the move
  pub sound_read : (move : Move S) (dense : ℕ) (s : S) (moves : Copies) (l level least : ℕ) (part : Part) (fault : PortFault) → level ≢ 0 → level ≡ l → CanMove g move dense s moves l least (part ∷ []) → IsNodeFault (g.geometry s) (g.unit s part.page.0) level part.size least part.page.0 fault → IsDamage fault → ⊥
  sound_read move dense s moves zero level least part fault inner same can is damage = inner same
  sound_read move dense s moves (suc m) level least part fault inner same can is damage =
      sound_node g move dense s moves m least part fault can (subst (λ k. IsNodeFault (g.geometry s) (g.unit s part.page.0) k part.size least part.page.0 fault) same is) damage
