-- Nodes whose trees were moved.
use Rattle.std.proofs.Common.{◌≡◌, ◌≢◌, ◌⊎◌, inl, inr, ℕ, suc, ◌+◌, ◌≤◌, Bool, true, false, List, [], ◌∷◌, ◌++◌, take, length, Option, Some, None, refl, sym, ap, subst, ◌∙◌, arith, true≢false}
use Rattle.std.specs.Prelude.{if◌then◌else◌}
use Rattle.std.specs.List.{AllByRecursion, AllZip, flat_map}
use Rattle.std.proofs.lemmas.Bool.{cases_eq}
use Rattle.std.proofs.lemmas.List.{append-nil}
use Rattle.ex_base.specs.declared.geometry.Geometry.{Geometry}
use Rattle.ex_base.specs.declared.ground.Ground as ground
use Rattle.ex_base.specs.declared.names.Area.TheVariants.{Page}
use Rattle.ex_base.specs.declared.names.PageNo.{PageNo}
use Rattle.ex_base.specs.Area.{InPageArea}
use Rattle.ex_base.specs.Ports.{Keeps}
use Rattle.ex_base.proofs.Options.{some_apart}
use Rattle.ex_base.proofs.Each.{each_as, split_each}
use Rattle.ex_base.proofs.Rows.{each-append}
use Rattle.trees.specs.Built.{Built}
use Rattle.trees.specs.Damage.{AnyPart}
use Rattle.trees.specs.Made.{Extends, Has, sizes_of}
use Rattle.trees.specs.Node.{pairs_on}
use Rattle.trees.specs.Owners.{named_on}
use Rattle.trees.specs.Rows.{IsRowOn, parts_of, row_shape, row_units}
use Rattle.trees.specs.Shape.{Subtree}
use Rattle.trees.specs.Trees.{Units, IsNamed, HasSize, bytes_on, shape_on, units_on}
use Rattle.trees.specs.declared.rows.Part.{Part}
use Rattle.trees.proofs.Laid.{extends_kept, extends_on, extends_refl}
use Rattle.trees.proofs.Over.{has_split}
use Rattle.trees.proofs.Reading.{row_spells, shape_below, units_below}
use Rattle.trees.proofs.RootSteps.{has_each}
use Rattle.trees.proofs.Kept.{row_extends}
use Rattle.compact.specs.High.{has_high, high_leaves, is_high, low_leaves, nodes_above}
use Rattle.compact.specs.Moved.{AreLow, Copies, HasCopy, IsOwn, IsSent, KeepsCopies, unmoved}
use Rattle.compact.specs.Walk.{CanMove, IsGoodPair, IsTreeOf, Move, NodeMade, RowMoved, Stepped, TreeMoved}
use Rattle.compact.proofs.LeafSteps.{at_root, same_copy}
use Rattle.compact.proofs.Levels.{high_same, low_row, not_below}
use Rattle.compact.proofs.Pairs.{begun_tree, each_later, good_later, good_more, good_self, kept_of, pairs_later, pairs_put, tree_later}
use Rattle.compact.proofs.Rows.{RowAs, any_high, row_as, trees_below}
use Rattle.compact.proofs.Steps.{free_before, others_same, room_later, step_as, step_kept, step_noted, step_on}
use Rattle.compact.proofs.Unmoved.{free_beside, no_leaf_page, page_low, unmoved_one, unmoved_same, unmoved_some}

-- the units of a node's tree are the node and those of its row
node_units : (u : Units) (l : ℕ) (part : Part) (below : List Part) → below ≡ parts_of 0 (pairs_on (u part.page.0)) → units_on u (suc l) part.page.0 ≡ part.page.0 ∷ row_units u l below
node_units u l part below is = sym (append-nil (units_on u (suc l) part.page.0)) ∙ units_below u l part below is

-- so many shapes as trees
all_shape : (u : Units) (l : ℕ) (row : List Part) → take (length row) (row_shape u l row) ≡ row_shape u l row
all_shape u l [] = refl
all_shape u l (part ∷ row) = ap (λ (xs : List (Subtree l)). shape_on u l part.page.0 part.size ∷ xs) (all_shape u l row)

none_from : (o : Option PageNo) → ((c : PageNo) → o ≡ Some c → ⊥) → o ≡ None
none_from None never = refl
none_from (Some c) never = absurd (never c refl)

cons_head : {A : Type 0} {x y : A} {xs ys : List A} → x ∷ xs ≡ y ∷ ys → x ≡ y
cons_head is = cc

module _ {S : Type 0} (g : ground.Ghosts S) where
  -- ---- before the node has its copy

  -- the row was read in a state that keeps the volume, and then moved
  pub record Below (move : Move S) (dense : ℕ) (a b : S) (moves mid : Copies) (l least : ℕ) (part : Part) (below made : List Part) (changed : Bool) : Type 0 where
    pub can : CanMove g move dense a moves (suc l) least (part ∷ [])
    pub is : below ≡ parts_of 0 (pairs_on (g.unit a part.page.0))
    pub extends : Extends g a b
    pub sizes : sizes_of made ≡ sizes_of below
    pub keeps : KeepsCopies moves mid
    pub none : moves part.page.0 ≡ None
    pub step : Stepped g move dense a b moves mid (row_units (g.unit a) l below) (row_units (g.unit b) l made)
    pub good : AllZip (λ (tree copy : Part). IsGoodPair g move dense b mid l tree.page.0 copy.page.0) below made
    pub above : changed ≡ true → has_high (g.geometry a) dense (g.unit a) (suc l) part.page.0 ≡ true

  pub row_below : (move : Move S) (dense : ℕ) (a r b : S) (moves mid : Copies) (l level least : ℕ) (part : Part) (below made : List Part) (changed : Bool) → CanMove g move dense a moves (suc l) least (part ∷ []) → Keeps g a r
      → IsRowOn (g.geometry a) (g.unit a part.page.0) level part.size below → Extends g r b → sizes_of made ≡ sizes_of below → KeepsCopies moves mid → moves part.page.0 ≡ None → RowMoved g move dense r b moves mid l below made changed
      → Below move dense a b moves mid l least part below made changed
  row_below move dense a r b moves mid l level least part below made changed can k row ext sizes keeps none moved =
      let later = pairs_later g move dense a r moves can.since (extends_kept g a r k) can.pairs in
      let same : row_units (g.unit r) l below ≡ row_units (g.unit a) l below = ap (λ (u : Units). row_units u l below) k.units in
      let geo : g.geometry r ≡ g.geometry a = g.leads_geometry a r k.leads in
      record {
        can = can;
        is = row.parts;
        extends = extends_on g a r b (extends_kept g a r k) ext;
        sizes = sizes;
        keeps = keeps;
        none = none;
        step = subst (λ (was : List ℕ). Stepped g move dense a b moves mid was (row_units (g.unit b) l made)) same
            (step_on g move dense a r b moves moves mid [] [] (row_units (g.unit r) l below) (row_units (g.unit b) l made) (extends_kept g a r k) ext keeps (step_kept g move dense a r moves [] [] k later) moved.step);
        good = moved.good;
        above = λ turned.
            let any = moved.above turned in
            any_high (g.geometry a) dense (g.unit a) l 0 (pairs_on (g.unit a part.page.0))
            (subst (AnyPart (λ (p : Part). has_high (g.geometry a) dense (g.unit a) l p.page.0 ≡ true)) row.parts
            (subst (λ (u : Units). AnyPart (λ (p : Part). has_high (g.geometry a) dense u l p.page.0 ≡ true) below) k.units
            (subst (λ (h : Geometry). AnyPart (λ (p : Part). has_high h dense (g.unit r) l p.page.0 ≡ true) below) geo any)));
      }

  -- the node has no copy yet
  pub no_copy : (move : Move S) (dense : ℕ) (a b : S) (moves mid : Copies) (l least : ℕ) (part : Part) (below made : List Part) (changed : Bool) → Below move dense a b moves mid l least part below made changed → mid part.page.0 ≡ None
  no_copy move dense a b moves mid l least part below made changed x =
      let named : AllByRecursion (λ (p : Part). IsNamed (g.geometry a) (g.unit a) l p.page.0) below =
      each_as (IsTreeOf g move dense a l (g.geometry a).fan) (λ (p : Part). IsNamed (g.geometry a) (g.unit a) l p.page.0) below (λ p t. t.named) (trees_below g move dense a l least part below x.can.trees.0 x.is) in
      none_from (mid part.page.0) (λ c is. elim (x.step.fresh part.page.0 c is) [
        | inl before ↦ some_apart c (sym before ∙ x.none)
        | inr has ↦ not_below (g.geometry a) (g.unit a) l part.page.0 below x.can.trees.0.named named has.0
      ])

  -- the node is one to copy where a tree below it is another one
  node_listed : (move : Move S) (dense : ℕ) (s : S) (l least : ℕ) (part : Part) → IsTreeOf g move dense s (suc l) least part → has_high (g.geometry s) dense (g.unit s) (suc l) part.page.0 ≡ true → Has move.nodes part.page.0
  node_listed move dense s l least part t high =
      let first = (split_each (Has move.nodes) (if has_high (g.geometry s) dense (g.unit s) (suc l) part.page.0 then part.page.0 ∷ [] else []) (flat_map (nodes_above (g.geometry s) dense (g.unit s) l) (named_on (g.unit s) part.page.0)) t.nodes).0 in
      (subst (λ (b : Bool). AllByRecursion (Has move.nodes) (if b then part.page.0 ∷ [] else [])) high first).0

  -- so there is a page for its copy
  pub node_room : (move : Move S) (dense : ℕ) (a b : S) (moves mid : Copies) (l least : ℕ) (part : Part) (below made : List Part) (changed : Bool) → Below move dense a b moves mid l least part below made changed → changed ≡ true → 1 ≤ g.free b Page
  node_room move dense a b moves mid l least part below made changed x turned =
      let room = room_later g move dense a b moves mid x.extends.leads x.step.paid x.can.room in
      let some = unmoved_some mid move.nodes part.page.0 (node_listed move dense a l least part x.can.trees.0 (x.above turned)) (no_copy move dense a b moves mid l least part below made changed x) in
      omega (arith, room.pages, some)

  -- ---- the node gets its copy

  fresh_one : (moves after : Copies) (page : ℕ) (copy : PageNo) → after page ≡ Some copy → ((q : ℕ) → q ≢ page → after q ≡ moves q) → (q : ℕ) (c : PageNo) → after q ≡ Some c → (moves q ≡ Some c) ⊎ (Has (page ∷ []) q × Has (copy.0 ∷ []) c.0)
  fresh_one moves after page copy here others q c is = elim (cases_eq q page) [
    | inl e ↦ inr (inl (sym e), inl (same_copy copy c (sym here ∙ ap after (sym e) ∙ is)))
    | inr differ ↦ inl (sym (others q differ) ∙ is)
  ]

  -- the units of the row and the node are those of its tree
  wider : (u : Units) (l : ℕ) (part : Part) (below : List Part) → below ≡ parts_of 0 (pairs_on (u part.page.0)) → (p : ℕ) → Has (row_units u l below ++ (part.page.0 ∷ [])) p → Has (units_on u (suc l) part.page.0) p
  wider u l part below is p has = subst (λ (xs : List ℕ). Has xs p) (sym (node_units u l part below is)) (elim (has_split (row_units u l below) (part.page.0 ∷ []) p has) [
    | inl rest ↦ inr rest
    | inr here ↦ elim here [ inl e ↦ inl e | inr none ↦ absurd none ]
  ])

  -- good pairs of a row, in a later state, with more copies
  pub good_row : (move : Move S) (dense : ℕ) (a b : S) (moves after : Copies) (l least : ℕ) (row made : List Part) → Extends g a b → KeepsCopies moves after → AllByRecursion (IsTreeOf g move dense a l least) row → AllZip (λ (tree copy : Part). IsGoodPair g move dense a moves l tree.page.0 copy.page.0) row made
      → AllZip (λ (tree copy : Part). IsGoodPair g move dense b after l tree.page.0 copy.page.0) row made
  good_row move dense a b moves after l least [] [] ext keeps trees good = tt
  good_row move dense a b moves after l least [] (copy ∷ made) ext keeps trees good = good
  good_row move dense a b moves after l least (part ∷ row) [] ext keeps trees good = good
  good_row move dense a b moves after l least (part ∷ row) (copy ∷ made) ext keeps trees good = (
    good_more g move dense b moves after l part.page.0 copy.page.0 keeps (good_later g move dense a b moves l part.page.0 copy.page.0 ext trees.0.used good.0),
    good_row move dense a b moves after l least row made ext keeps trees.1 good.1,
  )

  -- what a node that has a copy leads to was sent where what the trees of its row lead to was
  node_sent : (move : Move S) (dense : ℕ) (s : S) (moves : Copies) (l : ℕ) (part : Part) (below made : List Part) (copy : PageNo) → below ≡ parts_of 0 (pairs_on (g.unit s part.page.0)) → moves part.page.0 ≡ Some copy → RowAs g move dense s moves l below made
      → IsSent (g.geometry s) dense (g.unit s) moves (suc l) part.page.0
  node_sent move dense s moves l part below made copy is here rows = record {
    leaves = subst (AllByRecursion (HasCopy moves)) (below_is (high_leaves (g.geometry s) dense (g.unit s) l)) rows.leaves;
    nodes = each-append (HasCopy moves) (if has_high (g.geometry s) dense (g.unit s) (suc l) part.page.0 then part.page.0 ∷ [] else []) (flat_map (nodes_above (g.geometry s) dense (g.unit s) l) (named_on (g.unit s) part.page.0)) (own (has_high (g.geometry s) dense (g.unit s) (suc l) part.page.0))
        (subst (AllByRecursion (HasCopy moves)) (below_is (nodes_above (g.geometry s) dense (g.unit s) l)) rows.nodes);
  }
    where
      below_is : (f : ℕ → List ℕ) → flat_map (λ (p : Part). f p.page.0) below ≡ flat_map f (named_on (g.unit s) part.page.0)
      below_is f = ap (flat_map (λ (p : Part). f p.page.0)) is ∙ low_row f 0 (pairs_on (g.unit s part.page.0))

      own : (leads : Bool) → AllByRecursion (HasCopy moves) (if leads then part.page.0 ∷ [] else [])
      own true = ((copy, here), tt)
      own false = tt

  -- no tree below it is another one: it is its own copy
  pub node_stays : (move : Move S) (dense : ℕ) (a b : S) (moves mid after : Copies) (l least : ℕ) (part : Part) (below made : List Part) (changed : Bool) → Below move dense a b moves mid l least part below made changed → made ≡ below
      → KeepsCopies mid after → after part.page.0 ≡ Some part.page → ((q : ℕ) → q ≢ part.page.0 → after q ≡ mid q) → TreeMoved g move dense a b moves after (suc l) part.page.0 part.page.0
  node_stays move dense a b moves mid after l least part below made changed x same keeps here others =
      let was = x.can.trees.0 in
      let tree = tree_later g move dense a b (suc l) least part x.extends was in
      let is : below ≡ parts_of 0 (pairs_on (g.unit b part.page.0)) = x.is ∙ ap (λ (bytes : List ℕ). parts_of 0 (pairs_on bytes)) (sym (x.extends.units part.page.0 was.used.0)) in
      let trees = each_later g move dense a b l (g.geometry a).fan below x.extends (trees_below g move dense a l least part below was x.is) in
      let rows = row_as g move dense b after l (g.geometry a).fan below made (good_row move dense b b mid after l (g.geometry a).fan below made (extends_refl g b) keeps trees x.good) x.sizes trees in
      let low : AreLow (g.geometry b) dense (units_on (g.unit b) (suc l) part.page.0) = subst (AreLow (g.geometry b) dense) (sym (node_units (g.unit b) l part below is))
      (page_low (g.geometry b) dense part.page.0 tree.named.0, subst (λ (r : List Part). AreLow (g.geometry b) dense (row_units (g.unit b) l r)) same rows.low) in
      let good = good_self g move dense b after (suc l) least part tree low (node_sent move dense b after l part below made part.page is here rows) in
      let begun = begun_tree g move dense a (suc l) least part x.can.since was in
      let pairs = pairs_put g move dense b mid after (suc l) part.page.0 part.page keeps here others begun.0 good x.step.pairs in
      let noted = step_noted g move dense b mid after (part.page.0 ∷ []) (part.page.0 ∷ []) keeps (unmoved_same mid after move.leaves part.page.0 others (no_leaf_page (g.geometry a) move.leaves part.page.0 x.can.leaves was.named.0)) (fresh_one mid after part.page.0 part.page here others) pairs in
      record {
        good = good;
        step = step_as g move dense a b moves after (row_units (g.unit a) l below ++ (part.page.0 ∷ [])) (row_units (g.unit b) l made ++ (part.page.0 ∷ [])) (units_on (g.unit a) (suc l) part.page.0) (units_on (g.unit b) (suc l) part.page.0)
            (wider (g.unit a) l part below x.is) (λ p has. wider (g.unit b) l part below is p (subst (λ (r : List Part). Has (row_units (g.unit b) l r ++ (part.page.0 ∷ [])) p) same has))
            (step_on g move dense a b b moves mid after (row_units (g.unit a) l below) (row_units (g.unit b) l made) (part.page.0 ∷ []) (part.page.0 ∷ []) x.extends (extends_refl g b) keeps x.step noted);
      }

  -- what holds of a new node and of the units of its row holds of its tree's
  each_unit : (P : ℕ → Type 0) (s : S) (l : ℕ) (row : List Part) (node : Part) → Built g s l (length row ∷ []) row (node ∷ []) → P node.page.0 → AllByRecursion P (row_units (g.unit s) l row) → AllByRecursion P (units_on (g.unit s) (suc l) node.page.0)
  each_unit P s l row node built here rest =
      let own = subst (AllByRecursion (λ p. Has (node.page.0 ∷ []) p ⊎ Has (row_units (g.unit s) l row) p)) (append-nil (units_on (g.unit s) (suc l) node.page.0)) built.own in
      each_as (λ p. Has (node.page.0 ∷ []) p ⊎ Has (row_units (g.unit s) l row) p) P (units_on (g.unit s) (suc l) node.page.0) (λ p is. elim is [
        | inl one ↦ elim one [ inl e ↦ subst P e here | inr none ↦ absurd none ]
        | inr has ↦ has_each P (row_units (g.unit s) l row) p rest has
      ]) own

  -- a new node over the copies is a good one
  made_good : (move : Move S) (dense : ℕ) (c : S) (moves : Copies) (l least : ℕ) (part : Part) (below made : List Part) (node : PageNo) → IsTreeOf g move dense c (suc l) least part → below ≡ parts_of 0 (pairs_on (g.unit c part.page.0)) → RowAs g move dense c moves l below made → moves part.page.0 ≡ Some node
      → has_high (g.geometry c) dense (g.unit c) (suc l) part.page.0 ≡ true → g.used move.start node.0 ≡ false → g.used c node.0 ≡ true → Built g c l (length made ∷ []) made (record { size = part.size; page = node } ∷ [])
      → IsGoodPair g move dense c moves (suc l) part.page.0 node.0
  made_good move dense c moves l least part below made node tree is rows here high free used built = record {
    sound = record {
      named = built.trees.0.0;
      sized = λ n h. subst (HasSize (g.geometry c) (g.unit c) (suc l) node.0) (sym tree.sized.0 ∙ h.0) built.trees.0.1;
      bytes = λ n h. sym (append-nil (bytes_on (g.unit c) (suc l) node.0 n)) ∙ built.bytes ∙ rows.bytes ∙ row_spells (g.unit c) l part.page.0 n below is;
      shape = λ n h.
          let front : shape_on (g.unit c) (suc l) node.0 n ≡ take (length made) (row_shape (g.unit c) l made) = cons_head built.shape in
          front ∙ all_shape (g.unit c) l made ∙ rows.shape ∙ sym (shape_below (g.unit c) l part.page.0 n below is);
      used = each_unit (λ p. g.used c p ≡ true) c l made (record { size = part.size; page = node }) built used rows.used;
      low = each_unit (λ p. is_high (g.geometry c) dense p ≡ false) c l made (record { size = part.size; page = node }) built (page_low (g.geometry c) dense node.0 built.trees.0.0.0) rows.low;
      still = λ none. absurd (true≢false (sym high ∙ none));
      stay =
          let leaves : flat_map (λ (p : Part). low_leaves (g.geometry c) dense (g.unit c) l p.page.0) below ≡ low_leaves (g.geometry c) dense (g.unit c) (suc l) part.page.0 =
          ap (flat_map (λ (p : Part). low_leaves (g.geometry c) dense (g.unit c) l p.page.0)) is ∙ low_row (low_leaves (g.geometry c) dense (g.unit c) l) 0 (pairs_on (g.unit c part.page.0)) in
          each_as (Has (row_units (g.unit c) l made)) (Has (units_on (g.unit c) (suc l) node.0)) (low_leaves (g.geometry c) dense (g.unit c) (suc l) part.page.0)
          (λ p has. subst (λ (xs : List ℕ). Has xs p) (append-nil (units_on (g.unit c) (suc l) node.0)) (built.all p (inr has)))
          (subst (AllByRecursion (Has (row_units (g.unit c) l made))) leaves rows.stay);
    };
    own = each_unit (IsOwn g move.start c move.first move.units) c l made (record { size = part.size; page = node }) built (inl (free, used)) rows.own;
    sent = node_sent move dense c moves l part below made node is here rows;
  }

  -- some tree below it is another one: its copy is a new node
  pub node_made : (move : Move S) (dense : ℕ) (a b c : S) (moves mid after : Copies) (l least : ℕ) (part : Part) (below made : List Part) (changed : Bool) (node : PageNo) → Below move dense a b moves mid l least part below made changed → changed ≡ true
      → Extends g b c → NodeMade g b c l made (record { size = part.size; page = node }) → KeepsCopies mid after → after part.page.0 ≡ Some node → ((q : ℕ) → q ≢ part.page.0 → after q ≡ mid q) → TreeMoved g move dense a c moves after (suc l) part.page.0 node.0
  node_made move dense a b c moves mid after l least part below made changed node x turned ext new keeps here others =
      let was = x.can.trees.0 in
      let whole = extends_on g a b c x.extends ext in
      let geo : g.geometry c ≡ g.geometry a = g.leads_geometry a c whole.leads in
      let tree = tree_later g move dense a c (suc l) least part whole was in
      let is : below ≡ parts_of 0 (pairs_on (g.unit c part.page.0)) = x.is ∙ ap (λ (bytes : List ℕ). parts_of 0 (pairs_on bytes)) (sym (whole.units part.page.0 was.used.0)) in
      let first = trees_below g move dense a l least part below was x.is in
      let before = each_later g move dense a b l (g.geometry a).fan below x.extends first in
      let trees = each_later g move dense a c l (g.geometry a).fan below whole first in
      let rows_then = row_as g move dense b mid l (g.geometry a).fan below made x.good x.sizes before in
      let rows = row_as g move dense c after l (g.geometry a).fan below made (good_row move dense b c mid after l (g.geometry a).fan below made ext keeps before x.good) x.sizes trees in
      let high_then = x.above turned in
      let high : has_high (g.geometry c) dense (g.unit c) (suc l) part.page.0 ≡ true = subst (λ (h : Geometry). has_high h dense (g.unit c) (suc l) part.page.0 ≡ true) (sym geo)
      ((high_same (g.geometry a) dense (g.unit a) (g.unit c) (suc l) part.page.0 (kept_of g a c (units_on (g.unit a) (suc l) part.page.0) whole was.used)).high ∙ high_then) in
      let taken = new.took.each.0 in
      let since = extends_on g move.start a b x.can.since x.extends in
      let good = made_good move dense c after l least part below made node tree is rows here high (free_before g move.start b node.0 since taken.0) taken.1 new.built in
      let begun = begun_tree g move dense a (suc l) least part x.can.since was in
      let one : unmoved after move.nodes + 1 ≤ unmoved mid move.nodes = unmoved_one mid after move.nodes part.page.0 node keeps (node_listed move dense a l least part was high_then) (no_copy move dense a b moves mid l least part below made changed x) here in
      let area = subst (λ (h : Geometry). InPageArea h node.0) (g.leads_geometry b c ext.leads) new.built.trees.0.0.0 in
      let alike = unmoved_same mid after move.leaves part.page.0 others (no_leaf_page (g.geometry a) move.leaves part.page.0 x.can.leaves was.named.0) in
      let last : Stepped g move dense b c mid after (part.page.0 ∷ []) (node.0 ∷ []) = record {
        all = new.took.all;
        copies = λ p taken_now. elim (new.took.all p taken_now) [
          | inl e ↦ (part.page.0, node, at_root (Has move.units) (g.unit a) (suc l) part.page.0 was.units, here, e)
          | inr none ↦ absurd none
        ];
        fresh = fresh_one mid after part.page.0 node here others;
        pairs = pairs_put g move dense c mid after (suc l) part.page.0 node keeps here others begun.0 good (pairs_later g move dense b c mid since ext x.step.pairs);
        paid = record {
          of_pages = omega (arith, new.spent.of_pages, one);
          of_leaves = omega (arith, new.spent.of_leaves, alike);
          of_low = omega (arith, alike, free_beside (g.geometry b) (g.used b) (g.used c) node.0 dense area (λ p differ. others_same g b c node.0 p ext new.took differ));
        };
        counts = new.counts;
      } in
      let same : row_units (g.unit c) l made ≡ row_units (g.unit b) l made = (row_extends g b c l made ext (record { trees = rows_then.trees; used = rows_then.used })).units in
      record {
        good = good;
        step = step_as g move dense a c moves after (row_units (g.unit a) l below ++ (part.page.0 ∷ [])) (row_units (g.unit b) l made ++ (node.0 ∷ [])) (units_on (g.unit a) (suc l) part.page.0) (units_on (g.unit c) (suc l) node.0)
            (wider (g.unit a) l part below x.is)
            (λ p has. subst (λ (xs : List ℕ). Has xs p) (append-nil (units_on (g.unit c) (suc l) node.0)) (new.built.all p (elim (has_split (row_units (g.unit b) l made) (node.0 ∷ []) p has) [
              | inl rest ↦ inr (subst (λ (xs : List ℕ). Has xs p) (sym same) rest)
              | inr one_more ↦ inl one_more
            ])))
            (step_on g move dense a b c moves mid after (row_units (g.unit a) l below) (row_units (g.unit b) l made) (part.page.0 ∷ []) (node.0 ∷ []) x.extends ext keeps x.step last);
      }
