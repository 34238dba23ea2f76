-- The tree of a root that is moved.
use Rattle.std.proofs.Common.{◌≡◌, inl, inr, ℕ, zero, suc, Bool, true, List, [], ◌∷◌, Some, refl, sym, ap, subst, ◌∙◌}
use Rattle.std.specs.Prelude.{if◌then◌else◌, nat_eq}
use Rattle.std.specs.List.{AllByRecursion}
use Rattle.std.proofs.lemmas.Bool.{cases_Bool}
use Rattle.std.proofs.lemmas.List.{append-nil}
use Rattle.ex_base.specs.declared.geometry.Geometry.{Geometry}
use Rattle.ex_base.specs.declared.ground.Ground as ground
use Rattle.ex_base.specs.declared.names.PageNo.{PageNo}
use Rattle.ex_base.specs.declared.names.Root.{Root}
use Rattle.ex_base.specs.Sizes.{leaf_bytes}
use Rattle.ex_base.specs.Area.{NamesLeaf}
use Rattle.ex_base.specs.Ports.{times}
use Rattle.ex_base.proofs.Each.{each_as, each_joined}
use Rattle.trees.specs.Made.{AreUsed, Extends, Has}
use Rattle.trees.specs.Shape.{Subtree, IsRoot}
use Rattle.trees.specs.Owners.{page_here}
use Rattle.trees.specs.Trees.{Units, IsNamed, bytes_on, root_units, shape_on, units_on}
use Rattle.trees.specs.declared.rows.Part.{Part}
use Rattle.trees.proofs.Laid.{extends_refl}
use Rattle.trees.proofs.Over.{all_has}
use Rattle.trees.proofs.SameUnits.{bytes_same, named_same, shape_same}
use Rattle.compact.specs.High.{each_once, high_leaves, low_leaves, nodes_above, root_high_leaves, root_low_leaves, root_nodes_above}
use Rattle.compact.specs.Moved.{Copies, HasCopy, IsMoved, IsOwn, MayMove}
use Rattle.compact.specs.Walk.{AreGood, AreLeaves, CanMove, HasLeast, IsGoodPair, IsTreeOf, Move, TreeMoved}
use Rattle.compact.proofs.Counting.{once_times}
use Rattle.compact.proofs.Levels.{high_named, high_same, same_level, sub_tree}
use Rattle.compact.proofs.Once.{front_once}
use Rattle.compact.proofs.Pairs.{kept_of, tree_later}

root_least : (fan full h : ℕ) (tree : Subtree h) → IsRoot fan full h tree → HasLeast fan full 2 h tree
root_least fan full zero leaf h = tt
root_least fan full (suc l) trees h = (h.0, h.2)

abbrev pub root_at : ℕ → PageNo → ℕ → Root
root_at height page size = record { height = height; page = Some page; size = size }

abbrev part_at : PageNo → ℕ → Part
part_at page size = record { size = size; page = page }

-- the high leaves of a whole tree, each once
each_of_once : (P : ℕ → Type 0) (xs : List ℕ) → AllByRecursion P xs → AllByRecursion P (each_once xs)
each_of_once P [] all = tt
each_of_once P (x ∷ xs) all = elim (cases_Bool (nat_eq (times x xs) 0)) [
  | inl last ↦ subst (λ (b : Bool). AllByRecursion P (if b then x ∷ each_once xs else each_once xs)) (sym last) (all.0, each_of_once P xs all.1)
  | inr more ↦ subst (λ (b : Bool). AllByRecursion P (if b then x ∷ each_once xs else each_once xs)) (sym more) (each_of_once P xs all.1)
]

root_leaves : (g : Geometry) (dense : ℕ) (u : Units) (root : Root) → AllByRecursion (λ p. IsNamed g u root.height p) (page_here root.page) → AreLeaves g (each_once (root_high_leaves g dense u root))
root_leaves g dense u root named = record {
  named = each_of_once (NamesLeaf g) (root_high_leaves g dense u root) (each_joined (NamesLeaf g) (high_leaves g dense u root.height) (page_here root.page)
      (each_as (λ p. IsNamed g u root.height p) (λ p. AllByRecursion (NamesLeaf g) (high_leaves g dense u root.height p)) (page_here root.page) (λ p n. high_named g dense u root.height p n) named));
  once = λ p. once_times (root_high_leaves g dense u root) p;
}

module _ {S : Type 0} (g : ground.Ghosts S) where
  -- the move of a root's tree
  abbrev pub move_of : S → ℕ → Copies → Root → Move S
  move_of s dense moves root = record {
    start = s;
    first = moves;
    units = root_units (g.unit s) root;
    nodes = each_once (root_nodes_above (g.geometry s) dense (g.unit s) root);
    leaves = each_once (root_high_leaves (g.geometry s) dense (g.unit s) root);
  }

  pub root_can : (s : S) (dense : ℕ) (moves : Copies) (height size : ℕ) (page : PageNo) → MayMove g s dense moves (root_at height page size) → CanMove g (move_of s dense moves (root_at height page size)) dense s moves height 2 (part_at page size ∷ [])
  root_can s dense moves height size page may =
      let spells = may.whole.spells in
      let units = units_on (g.unit s) height page.0 in
      let tree : IsTreeOf g (move_of s dense moves (root_at height page size)) dense s height 2 (part_at page size) = record {
        named = spells.named;
        sized = spells.sized;
        enough = root_least (g.geometry s).fan (leaf_bytes (g.geometry s)) height (shape_on (g.unit s) height page.0 size) spells.balanced;
        used = may.used;
        begun = may.used;
        avoids = may.whole.avoids;
        units = all_has units;
        nodes = front_once (nodes_above (g.geometry s) dense (g.unit s) height page.0) [];
        leaves = front_once (high_leaves (g.geometry s) dense (g.unit s) height page.0) [];
      } in
      record {
        since = extends_refl g s;
        trees = (tree, tt);
        pairs = λ level p copy has sent named used. record {
          sound = (may.sound level p copy has sent named).0;
          own = each_as (Has (units_on (g.unit s) level copy.0)) (IsOwn g s s moves units) (units_on (g.unit s) level copy.0)
              (λ q here. inr (inr (record { level = level; page = p; copy = copy; inside = has; sent = sent; named = named; below = here }))) (all_has (units_on (g.unit s) level copy.0));
          sent = (may.sound level p copy has sent named).1;
        };
        leaves = root_leaves (g.geometry s) dense (g.unit s) (root_at height page size) (spells.named, tt);
        room = record { pages = may.pages; leaves = may.leaves; low = may.low };
      }

  -- each copy of a unit of the tree is good in the end
  good_copies : (old new : S) (dense : ℕ) (moves after : Copies) (move : Move S) (height : ℕ) (page : PageNo) → Extends g old new → move.start ≡ old → IsNamed (g.geometry old) (g.unit old) height page.0 → AreUsed (g.used old) (units_on (g.unit old) height page.0)
      → move.units ≡ units_on (g.unit old) height page.0 → AreGood g move dense new after
      → (level p : ℕ) (copy : PageNo) → Has (units_on (g.unit old) height page.0) p → after p ≡ Some copy → IsNamed (g.geometry new) (g.unit new) level p → IsGoodPair g move dense new after level p copy.0
  good_copies old new dense moves after move height page ext start named used units good = λ level p copy has sent there.
      let sub = sub_tree (g.geometry old) (g.unit old) (λ q. g.used old q ≡ true) height page.0 p named used has in
      let now : IsNamed (g.geometry new) (g.unit new) sub.level p = subst (λ (h : Geometry). IsNamed h (g.unit new) sub.level p) (sym (g.leads_geometry old new ext.leads))
      (named_same (g.geometry old) (g.unit old) (g.unit new) sub.level p (kept_of g old new (units_on (g.unit old) sub.level p) ext sub.all) sub.named) in
      let at : sub.level ≡ level = same_level (g.geometry new) (g.unit new) sub.level level p now there in
      let pair = good sub.level p copy (subst (λ (xs : List ℕ). Has xs p) (sym units) has) sent (subst (λ (s : S). IsNamed (g.geometry s) (g.unit s) sub.level p) (sym start) sub.named) (subst (λ (s : S). AreUsed (g.used s) (units_on (g.unit s) sub.level p)) (sym start) sub.all) in
      subst (λ k. IsGoodPair g move dense new after k p copy.0) at pair

  pub root_moved : (old new : S) (dense : ℕ) (moves after : Copies) (height size : ℕ) (page copy : PageNo) → Extends g old new → MayMove g old dense moves (root_at height page size)
      → TreeMoved g (move_of old dense moves (root_at height page size)) dense old new moves after height page.0 copy.0 → IsMoved g old new dense moves after (root_at height page size) (root_at height copy size)
  root_moved old new dense moves after height size page copy ext may x =
      let move = move_of old dense moves (root_at height page size) in
      let can = root_can old dense moves height size page may in
      let was = can.trees.0 in
      let tree = tree_later g move dense old new height 2 (part_at page size) ext was in
      let geo : g.geometry new ≡ g.geometry old = g.leads_geometry old new ext.leads in
      let kept = kept_of g old new (units_on (g.unit old) height page.0) ext was.used in
      let high = high_same (g.geometry old) dense (g.unit old) (g.unit new) height page.0 kept in
      let sound = x.good.sound in
      let copies = good_copies old new dense moves after move height page ext refl was.named was.used refl x.step.pairs in
      let shape : shape_on (g.unit new) height copy.0 size ≡ shape_on (g.unit old) height page.0 size = sound.shape size tree.sized ∙ shape_same (g.unit old) (g.unit new) height page.0 size kept in
      let bytes : bytes_on (g.unit new) height copy.0 size ≡ bytes_on (g.unit old) height page.0 size = sound.bytes size tree.sized ∙ bytes_same (g.unit old) (g.unit new) height page.0 size kept in
      record {
        spells = λ all spelled. record {
          named = sound.named;
          sized = sound.sized size tree.sized;
          balanced = subst (λ (h : Geometry). IsRoot h.fan (leaf_bytes h) height (shape_on (g.unit new) height copy.0 size)) (sym geo) (subst (IsRoot (g.geometry old).fan (leaf_bytes (g.geometry old)) height) (sym shape) spelled.balanced);
          spelled = spelled.spelled ∙ sym bytes;
        };
        shape = ap (λ (t : Subtree height). Some (height, t)) shape;
        used = sound.used;
        low = sound.low;
        stay =
            let leaves : low_leaves (g.geometry new) dense (g.unit new) height page.0 ≡ root_low_leaves (g.geometry old) dense (g.unit old) (root_at height page size) =
            ap (λ (h : Geometry). low_leaves h dense (g.unit new) height page.0) geo ∙ high.low ∙ sym (append-nil (low_leaves (g.geometry old) dense (g.unit old) height page.0)) in
            subst (AllByRecursion (Has (units_on (g.unit new) height copy.0))) leaves sound.stay;
        own = x.good.own;
        all = x.step.all;
        copies = x.step.copies;
        fresh = x.step.fresh;
        of_copies = λ level p c has sent named. (copies level p c has sent named).own;
        sound = λ level p c has sent named. (let good = copies level p c has sent named in (good.sound, good.sent));
        sent =
            let leaves : high_leaves (g.geometry new) dense (g.unit new) height page.0 ≡ root_high_leaves (g.geometry old) dense (g.unit old) (root_at height page size) =
            ap (λ (h : Geometry). high_leaves h dense (g.unit new) height page.0) geo ∙ high.leaves ∙ sym (append-nil (high_leaves (g.geometry old) dense (g.unit old) height page.0)) in
            subst (AllByRecursion (HasCopy after)) leaves x.good.sent.leaves;
        above =
            let nodes : nodes_above (g.geometry new) dense (g.unit new) height page.0 ≡ root_nodes_above (g.geometry old) dense (g.unit old) (root_at height page size) =
            ap (λ (h : Geometry). nodes_above h dense (g.unit new) height page.0) geo ∙ high.nodes ∙ sym (append-nil (nodes_above (g.geometry old) dense (g.unit old) height page.0)) in
            subst (AllByRecursion (HasCopy after)) nodes x.good.sent.nodes;
        paid = x.step.paid;
        counts = x.step.counts;
      }
