-- What whole bytes are, by the kind of the item that comes next.
use Rattle.std.proofs.Common.{◌≡◌, ℕ, ◌+◌, ◌-◌, ◌*◌, ◌<◌, ◌≤◌, ◌^◌, Bool, true, false, ◌==◌, ◌&&◌, ◌||◌, nat_le, nat_lt, List, ◌∷◌, ◌++◌, length, Option, Some, None, refl, sym, ap, subst, ◌∙◌, arith}
use Rattle.std.specs.Prelude.{if◌then◌else◌, slice_index, IsTrue}
use Rattle.std.specs.List.{AllByRecursion, list_all}
use Rattle.std.proofs.lemmas.Bool.{eqb-true, ltb-false, ltb-true}
use Rattle.std.proofs.lemmas.Bool.Decides.{nat_tests}
use Rattle.std.proofs.lemmas.List.{length-append}
use Rattle.std.proofs.lemmas.Option.{same_Some}
use Rattle.ex_base.specs.declared.geometry.Geometry.{Geometry}
use Rattle.ex_base.specs.Bytes.{IsBytes, bytes_at}
use Rattle.ex_base.specs.Fields.{four_bytes, number_at}
use Rattle.ex_base.proofs.FieldLaws.{four_is}
use Rattle.ex_base.specs.Sizes.{leaf_bytes}
use Rattle.trees.specs.Node.{Node}
use Rattle.trees.specs.Split.{most_pairs}
use Rattle.history_model.specs.Items.{IsChild, IsLeafItem, IsNodeItem, IsVersionItem, children_most}
use Rattle.history_model.specs.Stream.{leaf_item, node_item, version_item}
use Rattle.table_model.specs.Words.{is_name, is_name_byte}
use Rattle.history_items.specs.Heads.{stream_head}
use Rattle.history_items.specs.ItemLaws.{FileFront, IsFileFront, front_bytes}
use Rattle.history_items.specs.Needs.{need_behind, need_of_file, need_of_large, need_of_leaf, need_of_node, need_of_small, need_of_version, need_whole}
use Rattle.history_items.specs.Reads.{are_good_pairs, is_good_root, node_read, root_read, version_len, version_read}
use Rattle.history_items.proofs.FileFronts.{front_back}
use Rattle.history_items.proofs.NodeItems.{node_back}
use Rattle.history_items.proofs.VersionItems.{version_back}
use Rattle.history_fronts.specs.declared.turns.Turn.{Turn}
use Rattle.history_fronts.specs.declared.turns.Turn.TheVariants.{Leaf as LeafTurn, Node as NodeTurn, Version as VersionTurn, File as FileTurn, End as NoTurn}
use Rattle.history_fronts.specs.Fronts.{AFile, ALeaf, ANode, AVersion, FitsTurn, Item, spelled}
use Rattle.history_fronts.specs.Readings.{need_at}
use Rattle.history_fronts.proofs.Said.{Says, says_of}
use Rattle.history_fronts.proofs.TurnItems.{file_of_turn, leaf_of_turn, node_of_turn, none_at_end, turn_needs, version_of_turn}
use Rattle.history_reads.specs.declared.progress.Progress.{Progress}
use Rattle.history_reads.specs.Reads.{need_now, turn_now}

-- ---- how long whole bytes are

behind_len : (front len : ℕ) (good : Bool) (behind : Option ℕ) → need_behind front len good behind ≡ Some len → (front ≤ len) × (behind ≡ Some len)
behind_len front len good behind e = by_tests (nat_lt len front) good refl e
  where
    by_tests : (short is : Bool) → nat_lt len front ≡ short → (if short then Some front else if is then behind else None) ≡ Some len → (front ≤ len) × (behind ≡ Some len)
    by_tests true is p e = absurd (let same : front ≡ len = same_Some front len e in let lt = ltb-true len front p in omega arith)
    by_tests false true p e = (ltb-false len front p, e)
    by_tests false false p e = absurd (let no : None ≡ Some len = e in cc)

whole_len : (whole len : ℕ) (good : Bool) → need_whole whole len good ≡ Some len → len ≡ whole
whole_len whole len good e = by_tests (nat_lt len whole) (len == whole) good refl refl e
  where
    by_tests : (short same is : Bool) → nat_lt len whole ≡ short → (len == whole) ≡ same → (if short then Some whole else if same && is then Some whole else None) ≡ Some len → len ≡ whole
    by_tests true same is p q e = sym (same_Some whole len e)
    by_tests false true is p q e = eqb-true len whole q
    by_tests false false is p q e = absurd (let no : None ≡ Some len = e in cc)

pub leaf_whole : (g : Geometry) (bytes : List ℕ) → need_of_leaf g bytes ≡ Some (length bytes) → 4 ≤ length bytes
leaf_whole g bytes e = (behind_len 4 (length bytes) (nat_le 1 (number_at 4 bytes 0) && nat_le (number_at 4 bytes 0) (leaf_bytes g)) (need_whole (4 + number_at 4 bytes 0) (length bytes) true) e).0

abbrev pairs_good : ℕ → ℕ → List ℕ → Bool
pairs_good leaves nodes bytes = are_good_pairs (children_most leaves nodes (slice_index bytes 0)) 0 (node_read bytes).pairs

pub node_whole : (g : Geometry) (leaves nodes : ℕ) (bytes : List ℕ) → need_of_node g leaves nodes bytes ≡ Some (length bytes) → (3 ≤ length bytes) × (3 + 12 * number_at 2 bytes 1 ≡ length bytes)
node_whole g leaves nodes bytes e =
    let behind = behind_len 3 (length bytes) (nat_le 1 (slice_index bytes 0) && nat_le 1 (number_at 2 bytes 1) && nat_le (number_at 2 bytes 1) (most_pairs g.fan)) (need_whole (3 + 12 * number_at 2 bytes 1) (length bytes) (pairs_good leaves nodes bytes)) e in
    (behind.0, sym (whole_len (3 + 12 * number_at 2 bytes 1) (length bytes) (pairs_good leaves nodes bytes) behind.1))

abbrev name_good : List ℕ → Bool
name_good bytes = list_all is_name_byte (bytes_at bytes 1 (slice_index bytes 0))

pub file_whole : (bytes : List ℕ) → need_of_file bytes ≡ Some (length bytes) → (1 ≤ length bytes) × (5 + slice_index bytes 0 ≡ length bytes)
file_whole bytes e =
    let behind = behind_len 1 (length bytes) (nat_le 1 (slice_index bytes 0) && nat_le (slice_index bytes 0) 32) (need_whole (5 + slice_index bytes 0) (length bytes) (name_good bytes)) e in
    (behind.0, sym (whole_len (5 + slice_index bytes 0) (length bytes) (name_good bytes) behind.1))

abbrev content_need : Geometry → ℕ → ℕ → List ℕ → Option ℕ
content_need g leaves nodes bytes = if slice_index bytes 17 == 1 then need_of_small g bytes else if slice_index bytes 17 == 2 then need_of_large leaves nodes bytes else None

pub version_whole : (g : Geometry) (leaves nodes : ℕ) (bytes : List ℕ) → need_of_version g leaves nodes bytes ≡ Some (length bytes) → (20 ≤ length bytes) × (version_len bytes ≡ length bytes)
version_whole g leaves nodes bytes e = by_form (slice_index bytes 17 == 1) (slice_index bytes 17 == 2) (behind_len 18 (length bytes) (slice_index bytes 8 == 1 || slice_index bytes 8 == 2) (content_need g leaves nodes bytes) e).1
  where
    by_form : (small large : Bool) → (if small then need_of_small g bytes else if large then need_of_large leaves nodes bytes else None) ≡ Some (length bytes) → (20 ≤ length bytes) × ((if small then 20 + number_at 2 bytes 18 else 31) ≡ length bytes)
    by_form true large e =
        let behind = behind_len 20 (length bytes) (nat_le (number_at 2 bytes 18 + 44) g.page_size) (need_whole (20 + number_at 2 bytes 18) (length bytes) true) e in
        (behind.0, sym (whole_len (20 + number_at 2 bytes 18) (length bytes) true behind.1))
    by_form false true e = let len : length bytes ≡ 31 = whole_len 31 (length bytes) (is_good_root leaves nodes (root_read bytes)) e in (omega arith, sym len)
    by_form false false e = absurd (let no : None ≡ Some (length bytes) = e in cc)

-- ---- which item they are

abbrev Whole : Geometry → ℕ → ℕ → Turn → List ℕ → Type 0
Whole g leaves nodes turn bytes = need_at g leaves nodes turn bytes ≡ Some (length bytes)

whole_item : (g : Geometry) (leaves nodes : ℕ) (turn : Turn) (bytes : List ℕ) → IsBytes bytes → Whole g leaves nodes turn bytes → (item : Item) × FitsTurn g leaves nodes turn item × (bytes ≡ spelled item)
whole_item g leaves nodes turn bytes are e = (turn_needs g leaves nodes turn bytes are).whole e

pub the_node : (g : Geometry) (leaves nodes : ℕ) (bytes : List ℕ) → IsBytes bytes → Whole g leaves nodes NodeTurn bytes → IsNodeItem g leaves nodes (node_read bytes)
the_node g leaves nodes bytes are e =
    let w = whole_item g leaves nodes NodeTurn bytes are e in
    let n = node_of_turn g leaves nodes w.0 w.1 in
    let same : bytes ≡ node_item n.0 = w.2 ∙ ap spelled n.2 in
    subst (IsNodeItem g leaves nodes) (sym (ap node_read same ∙ node_back g leaves nodes n.0 n.1)) n.1

pub the_version : (g : Geometry) (leaves nodes : ℕ) (bytes : List ℕ) → IsBytes bytes → Whole g leaves nodes VersionTurn bytes → IsVersionItem g leaves nodes (version_read bytes)
the_version g leaves nodes bytes are e =
    let w = whole_item g leaves nodes VersionTurn bytes are e in
    let v = version_of_turn g leaves nodes w.0 w.1 in
    let same : bytes ≡ version_item v.0 = w.2 ∙ ap spelled v.2 in
    subst (IsVersionItem g leaves nodes) (sym (ap version_read same ∙ version_back g leaves nodes v.0 v.1)) v.1

abbrev pub front_read : List ℕ → FileFront
front_read bytes = record { name = bytes_at bytes 1 (slice_index bytes 0); versions = number_at 4 bytes (1 + slice_index bytes 0) }

abbrev pub made_front : List ℕ → ℕ → FileFront
made_front name versions = record { name = name; versions = versions }

front_same : (f : FileFront) → IsFileFront f → front_read (front_bytes f) ≡ f
front_same f is =
    let back = front_back f is in
    let same : made_front (front_read (front_bytes f)).name (front_read (front_bytes f)).versions ≡ made_front f.name f.versions = cc (back.0, back.1) in
    same

pub the_file : (g : Geometry) (leaves nodes : ℕ) (bytes : List ℕ) → IsBytes bytes → Whole g leaves nodes FileTurn bytes → IsFileFront (front_read bytes)
the_file g leaves nodes bytes are e =
    let w = whole_item g leaves nodes FileTurn bytes are e in
    let f = file_of_turn g leaves nodes w.0 w.1 in
    let same : bytes ≡ front_bytes f.0 = w.2 ∙ ap spelled f.2 in
    subst IsFileFront (sym (ap front_read same ∙ front_same f.0 f.1)) f.1

pub the_leaf : (g : Geometry) (leaves nodes : ℕ) (bytes : List ℕ) → IsBytes bytes → Whole g leaves nodes LeafTurn bytes → (leaf : List ℕ) × IsLeafItem g leaf × (bytes ≡ leaf_item leaf) × (length leaf ≡ length bytes - 4)
the_leaf g leaves nodes bytes are e =
    let w = whole_item g leaves nodes LeafTurn bytes are e in
    let l = leaf_of_turn g leaves nodes w.0 w.1 in
    let same : bytes ≡ leaf_item l.0 = w.2 ∙ ap spelled l.2 in
    (l.0, l.1, same, omega (arith, ap length same, length-append (four_bytes (length l.0)) l.0, four_is.len (length l.0)))

-- ---- an item that fits and is spelled so

pub node_named : (g : Geometry) (leaves nodes : ℕ) (turn : Turn) (bytes : List ℕ) (item : Item) → turn ≡ NodeTurn → FitsTurn g leaves nodes turn item → bytes ≡ spelled item → item ≡ ANode (node_read bytes)
node_named g leaves nodes turn bytes item at fits e =
    let n = node_of_turn g leaves nodes item (subst (λ (t : Turn). FitsTurn g leaves nodes t item) at fits) in
    n.2 ∙ ap ANode (sym (ap node_read (e ∙ ap spelled n.2) ∙ node_back g leaves nodes n.0 n.1))

pub version_named : (g : Geometry) (leaves nodes : ℕ) (turn : Turn) (bytes : List ℕ) (item : Item) → turn ≡ VersionTurn → FitsTurn g leaves nodes turn item → bytes ≡ spelled item → item ≡ AVersion (version_read bytes)
version_named g leaves nodes turn bytes item at fits e =
    let v = version_of_turn g leaves nodes item (subst (λ (t : Turn). FitsTurn g leaves nodes t item) at fits) in
    v.2 ∙ ap AVersion (sym (ap version_read (e ∙ ap spelled v.2) ∙ version_back g leaves nodes v.0 v.1))

pub file_named : (g : Geometry) (leaves nodes : ℕ) (turn : Turn) (bytes : List ℕ) (item : Item) → turn ≡ FileTurn → FitsTurn g leaves nodes turn item → bytes ≡ spelled item → item ≡ AFile (front_read bytes)
file_named g leaves nodes turn bytes item at fits e =
    let f = file_of_turn g leaves nodes item (subst (λ (t : Turn). FitsTurn g leaves nodes t item) at fits) in
    f.2 ∙ ap AFile (sym (ap front_read (e ∙ ap spelled f.2) ∙ front_same f.0 f.1))

pub leaf_named : (g : Geometry) (leaves nodes : ℕ) (turn : Turn) (bytes : List ℕ) (item : Item) → turn ≡ LeafTurn → FitsTurn g leaves nodes turn item → bytes ≡ spelled item → (leaf : List ℕ) × (item ≡ ALeaf leaf) × (length leaf ≡ length bytes - 4)
leaf_named g leaves nodes turn bytes item at fits e =
    let l = leaf_of_turn g leaves nodes item (subst (λ (t : Turn). FitsTurn g leaves nodes t item) at fits) in
    let same : bytes ≡ leaf_item l.0 = e ∙ ap spelled l.2 in
    (l.0, l.2, omega (arith, ap length same, length-append (four_bytes (length l.0)) l.0, four_is.len (length l.0)))

pub never_named : (g : Geometry) (leaves nodes : ℕ) (turn : Turn) (item : Item) → turn ≡ NoTurn → FitsTurn g leaves nodes turn item → ⊥
never_named g leaves nodes turn item at fits = none_at_end g leaves nodes item (subst (λ (t : Turn). FitsTurn g leaves nodes t item) at fits)

-- ---- what they let the reader do

pub turn_says : (p : Progress) (turn : Turn) → turn_now p ≡ turn → Says (stream_head p.head) p.leaves p.nodes p.files p.missing turn
turn_says p turn e = says_of (stream_head p.head) p.leaves p.nodes p.files p.missing turn e

pub need_turn : (p : Progress) (turn : Turn) (bytes : List ℕ) → turn_now p ≡ turn → need_now p bytes ≡ Some (length bytes) → need_at p.geometry p.head.leaves p.nodes turn bytes ≡ Some (length bytes)
need_turn p turn bytes at e = ap (λ (t : Turn). need_at p.geometry p.head.leaves p.nodes t bytes) (sym at) ∙ e

pub node_children : (g : Geometry) (leaves before : ℕ) (node : Node) → IsNodeItem g leaves before node → node.level ≡ 1 → AllByRecursion (IsChild leaves) node.pairs
node_children g leaves before node is level = subst (λ (l : ℕ). AllByRecursion (IsChild (children_most leaves before l)) node.pairs) level is.children

name_some : (name : List ℕ) → IsTrue (is_name name) → 1 ≤ length name
name_some name is = grind (arith, nat_tests)

name_few : (name : List ℕ) → IsTrue (is_name name) → length name ≤ 32
name_few name is = grind (arith, nat_tests)

pub front_name : (f : FileFront) → IsFileFront f → (1 ≤ length f.name) × (length f.name ≤ 32)
front_name f is = (name_some f.name is.0, name_few f.name is.0)
