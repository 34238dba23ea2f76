-- What may come next, what it needs, and that it is read in one way.
use Rattle.std.proofs.Common.{◌≡◌, ℕ, ◌+◌, ◌<◌, ◌≤◌, List, [], ◌∷◌, ◌++◌, length, Option, Some, None, refl, sym, ap, subst, ◌∙◌, arith, append_assoc}
use Rattle.std.specs.Prelude.{IfSome}
use Rattle.std.proofs.lemmas.List.{append-nil}
use Rattle.std.proofs.lemmas.Option.{same_Some}
use Rattle.disk_model.specs.Outside.{BeginsWith}
use Rattle.ex_base.specs.declared.geometry.Geometry.{Geometry}
use Rattle.ex_base.specs.Bytes.{IsBytes}
use Rattle.ex_base.specs.Fields.{four_bytes}
use Rattle.ex_base.proofs.FieldLaws.{same_four, same_front}
use Rattle.ex_base.proofs.Reading.{OneReading}
use Rattle.trees.specs.Node.{Node}
use Rattle.history_model.specs.History.{HistoryVersion}
use Rattle.history_model.specs.Items.{IsLeafItem, IsNodeItem, IsVersionItem}
use Rattle.history_model.specs.Stream.{leaf_item, node_item, version_item}
use Rattle.history_model.proofs.ItemReadings.{one_leaf, one_node, one_version}
use Rattle.history_items.specs.Gathering.{item_most}
use Rattle.history_items.specs.ItemLaws.{FileFront, IsFileFront, front_bytes}
use Rattle.history_items.specs.Needs.{Needs}
use Rattle.history_items.proofs.FileFronts.{file_needs}
use Rattle.history_items.proofs.LeafItems.{leaf_needs}
use Rattle.history_items.proofs.NodeItems.{node_needs}
use Rattle.history_items.proofs.VersionItems.{version_needs}
use Rattle.history_fronts.specs.declared.turns.Turn.TheVariants.{File as FileTurn, Leaf as LeafTurn, End as NoTurn, Node as NodeTurn, Version as VersionTurn}
use Rattle.history_fronts.specs.declared.turns.Turn.{Turn}
use Rattle.history_fronts.specs.Fronts.{AFile, ALeaf, ANode, AVersion, FitsTurn, Item, spelled}
use Rattle.history_fronts.specs.Readings.{need_at, need_of_end}

-- ---- the item of a turn

pub leaf_of_turn : (g : Geometry) (leaves nodes : ℕ) (item : Item) → FitsTurn g leaves nodes LeafTurn item → (a : List ℕ) × IsLeafItem g a × (item ≡ ALeaf a)
leaf_of_turn g leaves nodes (ALeaf a) is = (a, is, refl)
leaf_of_turn g leaves nodes (ANode a) is = absurd is
leaf_of_turn g leaves nodes (AFile a) is = absurd is
leaf_of_turn g leaves nodes (AVersion a) is = absurd is

pub node_of_turn : (g : Geometry) (leaves nodes : ℕ) (item : Item) → FitsTurn g leaves nodes NodeTurn item → (a : Node) × IsNodeItem g leaves nodes a × (item ≡ ANode a)
node_of_turn g leaves nodes (ALeaf a) is = absurd is
node_of_turn g leaves nodes (ANode a) is = (a, is, refl)
node_of_turn g leaves nodes (AFile a) is = absurd is
node_of_turn g leaves nodes (AVersion a) is = absurd is

pub version_of_turn : (g : Geometry) (leaves nodes : ℕ) (item : Item) → FitsTurn g leaves nodes VersionTurn item → (a : HistoryVersion) × IsVersionItem g leaves nodes a × (item ≡ AVersion a)
version_of_turn g leaves nodes (ALeaf a) is = absurd is
version_of_turn g leaves nodes (ANode a) is = absurd is
version_of_turn g leaves nodes (AFile a) is = absurd is
version_of_turn g leaves nodes (AVersion a) is = (a, is, refl)

pub file_of_turn : (g : Geometry) (leaves nodes : ℕ) (item : Item) → FitsTurn g leaves nodes FileTurn item → (a : FileFront) × IsFileFront a × (item ≡ AFile a)
file_of_turn g leaves nodes (ALeaf a) is = absurd is
file_of_turn g leaves nodes (ANode a) is = absurd is
file_of_turn g leaves nodes (AFile a) is = (a, is, refl)
file_of_turn g leaves nodes (AVersion a) is = absurd is

pub none_at_end : (g : Geometry) (leaves nodes : ℕ) (item : Item) → FitsTurn g leaves nodes NoTurn item → ⊥
none_at_end g leaves nodes (ALeaf a) is = is
none_at_end g leaves nodes (ANode a) is = is
none_at_end g leaves nodes (AFile a) is = is
none_at_end g leaves nodes (AVersion a) is = is

-- ---- its need

needs_in : (A : Type 0) (Is : A → Type 0) (spell : A → List ℕ) (P : Item → Type 0) (make : A → Item) (most : ℕ) (bytes : List ℕ) (need : Option ℕ)
    → ((a : A) → spelled (make a) ≡ spell a) → ((item : Item) → P item → (a : A) × Is a × (item ≡ make a)) → ((a : A) → Is a → P (make a))
    → Needs A Is spell most bytes need → Needs Item P spelled most bytes need
needs_in A Is spell P make most bytes need same unmake into n = record {
  ahead = n.ahead;
  least = λ item is begins.
      let made = unmake item is in
      let e : spelled item ≡ spell made.0 = ap spelled made.2 ∙ same made.0 in
      subst (λ (s : List ℕ). IfSome need (λ k. k ≤ length s)) (sym e) (n.least made.0 made.1 (subst (λ (s : List ℕ). BeginsWith s bytes) e begins));
  whole = λ e. let w = n.whole e in (make w.0, into w.0 w.1, w.2 ∙ sym (same w.0));
  none = λ e item is begins.
      let made = unmake item is in
      let f : spelled item ≡ spell made.0 = ap spelled made.2 ∙ same made.0 in
      n.none e made.0 made.1 (subst (λ (s : List ℕ). BeginsWith s bytes) f begins);
  few = n.few;
}

end_needs : (g : Geometry) (leaves nodes : ℕ) (bytes : List ℕ) → Needs Item (FitsTurn g leaves nodes NoTurn) spelled (item_most g) bytes (need_of_end bytes)
end_needs g leaves nodes [] = record {
  ahead = omega arith;
  least = λ item is begins. absurd (none_at_end g leaves nodes item is);
  whole = λ e. absurd (let same : 1 ≡ 0 = same_Some 1 0 e in omega arith);
  none = λ e item is begins. none_at_end g leaves nodes item is;
  few = omega arith;
}
end_needs g leaves nodes (b ∷ bytes) = record {
  ahead = tt;
  least = λ item is begins. absurd (none_at_end g leaves nodes item is);
  whole = λ e. absurd (cc);
  none = λ e item is begins. none_at_end g leaves nodes item is;
  few = tt;
}

pub turn_needs : (g : Geometry) (leaves nodes : ℕ) (turn : Turn) (bytes : List ℕ) → IsBytes bytes → Needs Item (FitsTurn g leaves nodes turn) spelled (item_most g) bytes (need_at g leaves nodes turn bytes)
turn_needs g leaves nodes LeafTurn bytes are = needs_in (List ℕ) (IsLeafItem g) leaf_item (FitsTurn g leaves nodes LeafTurn) ALeaf (item_most g) bytes _ (λ a. refl) (leaf_of_turn g leaves nodes) (λ a is. is) (leaf_needs g bytes are)
turn_needs g leaves nodes NodeTurn bytes are = needs_in Node (IsNodeItem g leaves nodes) node_item (FitsTurn g leaves nodes NodeTurn) ANode (item_most g) bytes _ (λ a. refl) (node_of_turn g leaves nodes) (λ a is. is) (node_needs g leaves nodes bytes are)
turn_needs g leaves nodes VersionTurn bytes are = needs_in HistoryVersion (IsVersionItem g leaves nodes) version_item (FitsTurn g leaves nodes VersionTurn) AVersion (item_most g) bytes _ (λ a. refl) (version_of_turn g leaves nodes) (λ a is. is) (version_needs g leaves nodes bytes are)
turn_needs g leaves nodes FileTurn bytes are = needs_in FileFront IsFileFront front_bytes (FitsTurn g leaves nodes FileTurn) AFile (item_most g) bytes _ (λ a. refl) (file_of_turn g leaves nodes) (λ a is. is) (file_needs g bytes are)
turn_needs g leaves nodes NoTurn bytes are = end_needs g leaves nodes bytes

-- a whole item needs as many bytes as it has
pub whole_needs : (g : Geometry) (leaves nodes : ℕ) (turn : Turn) (item : Item) → IsBytes (spelled item) → FitsTurn g leaves nodes turn item → need_at g leaves nodes turn (spelled item) ≡ Some (length (spelled item))
whole_needs g leaves nodes turn item are is = by_need (need_at g leaves nodes turn (spelled item)) (turn_needs g leaves nodes turn (spelled item) are)
  where
    all : BeginsWith (spelled item) (spelled item)
    all = ([], sym (append-nil (spelled item)))

    by_need : (need : Option ℕ) → Needs Item (FitsTurn g leaves nodes turn) spelled (item_most g) (spelled item) need → need ≡ Some (length (spelled item))
    by_need None n = absurd (n.none refl item is all)
    by_need (Some k) n = ap Some (let le : k ≤ length (spelled item) = n.least item is all in let ge : length (spelled item) ≤ k = n.ahead in omega arith)

-- ---- it is read in one way

abbrev made_front : List ℕ → ℕ → FileFront
made_front name versions = record { name = name; versions = versions }

one_front : OneReading IsFileFront front_bytes
one_front a b x y p q e =
    let len : length a.name ≡ length b.name = cc (e) in
    let behind : (a.name ++ four_bytes a.versions) ++ x ≡ (b.name ++ four_bytes b.versions) ++ y = cc (e) in
    let name = same_front a.name b.name (four_bytes a.versions ++ x) (four_bytes b.versions ++ y) len (sym (append_assoc a.name (four_bytes a.versions) x) ∙ behind ∙ append_assoc b.name (four_bytes b.versions) y) in
    let count = same_four a.versions b.versions x y p.1 q.1 name.1 in
    let same : made_front a.name a.versions ≡ made_front b.name b.versions = cc (name.0, count.0) in
    (same, count.1)

one_in : (A : Type 0) (Is : A → Type 0) (spell : A → List ℕ) (P : Item → Type 0) (make : A → Item)
    → ((a : A) → spelled (make a) ≡ spell a) → ((item : Item) → P item → (a : A) × Is a × (item ≡ make a)) → OneReading Is spell → OneReading P spelled
one_in A Is spell P make same unmake one a b x y p q e =
    let left = unmake a p in
    let right = unmake b q in
    let front : spelled a ≡ spell left.0 = ap spelled left.2 ∙ same left.0 in
    let back : spelled b ≡ spell right.0 = ap spelled right.2 ∙ same right.0 in
    let both = one left.0 right.0 x y left.1 right.1 (sym (ap (λ (s : List ℕ). s ++ x) front) ∙ e ∙ ap (λ (s : List ℕ). s ++ y) back) in
    (left.2 ∙ ap make both.0 ∙ sym right.2, both.1)

node_alone : (g : Geometry) (leaves nodes : ℕ) → OneReading (IsNodeItem g leaves nodes) node_item
node_alone g leaves nodes a b x y p q e = one_node g a b x y (record { is = p.is; fields = p.fields }) (record { is = q.is; fields = q.fields }) e

pub one_item : (g : Geometry) (leaves nodes : ℕ) (turn : Turn) → OneReading (FitsTurn g leaves nodes turn) spelled
one_item g leaves nodes LeafTurn = one_in (List ℕ) (IsLeafItem g) leaf_item (FitsTurn g leaves nodes LeafTurn) ALeaf (λ a. refl) (leaf_of_turn g leaves nodes) (one_leaf g)
one_item g leaves nodes NodeTurn = one_in Node (IsNodeItem g leaves nodes) node_item (FitsTurn g leaves nodes NodeTurn) ANode (λ a. refl) (node_of_turn g leaves nodes) (node_alone g leaves nodes)
one_item g leaves nodes VersionTurn = one_in HistoryVersion (IsVersionItem g leaves nodes) version_item (FitsTurn g leaves nodes VersionTurn) AVersion (λ a. refl) (version_of_turn g leaves nodes) (one_version g leaves nodes)
one_item g leaves nodes FileTurn = one_in FileFront IsFileFront front_bytes (FitsTurn g leaves nodes FileTurn) AFile (λ a. refl) (file_of_turn g leaves nodes) one_front
one_item g leaves nodes NoTurn = λ a b x y p q e. absurd (none_at_end g leaves nodes a p)
