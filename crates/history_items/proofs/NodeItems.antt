-- What the item of a node needs and says.
use Rattle.std.proofs.Common.{◌≡◌, ℕ, zero, suc, ◌+◌, ◌*◌, ◌-◌, ◌/◌, ◌<◌, ◌≤◌, ◌^◌, Bool, true, ◌&&◌, nat_le, nat_lt, List, [], ◌∷◌, ◌++◌, length, drop, Some, refl, sym, ap, subst, ◌∙◌, arith}
use Rattle.std.specs.Prelude.{slice_get, slice_index}
use Rattle.std.specs.List.{flat_map, AllByRecursion}
use Rattle.std.proofs.lemmas.Bool.{and_from, and_parts, le-leb, leb-true, lt-ltb, ltb-true}
use Rattle.std.proofs.lemmas.List.{append-nil, drop-drop, drop_at, length-drop, take_all}
use Rattle.disk_model.specs.Outside.{BeginsWith}
use Rattle.ex_base.specs.declared.geometry.Geometry.{Geometry}
use Rattle.ex_base.specs.Bytes.{IsBytes}
use Rattle.ex_base.specs.Fields.{number_at, two_bytes}
use Rattle.ex_base.specs.Sizes.{least_page, most_page}
use Rattle.ex_base.proofs.FieldLaws.{IsBytes-drop, number_at-drop, two_is}
use Rattle.ex_base.proofs.Geometries.{page_le}
use Rattle.ex_base.proofs.Places.{number_spelled}
use Rattle.trees.specs.declared.Pair.{Pair}
use Rattle.trees.specs.declared.width.Width.TheVariants.{Wide}
use Rattle.trees.specs.Node.{HasPairFields, Node, RiseFrom, pair_at, pair_bytes, read_pairs}
use Rattle.trees.specs.Split.{most_pairs}
use Rattle.trees.proofs.PairLaws.{fields_read, length-read_pairs, pair_read, pairs_again, pairs_back, read_step}
use Rattle.history_model.specs.Items.{IsChild, IsNodeItem, children_most}
use Rattle.history_model.specs.Stream.{node_item}
use Rattle.history_model.proofs.ItemReadings.{pairs_few}
use Rattle.history_model.proofs.Lengths.{length-node}
use Rattle.history_items.specs.Gathering.{item_most}
use Rattle.history_items.specs.Needs.{Needs, need_of_node}
use Rattle.history_items.specs.Reads.{are_good_pairs, node_read}
use Rattle.history_items.proofs.ItemNeeds.{byte_begun, needs_behind, needs_whole, number_begun}

-- ---- what is read of a node's item

abbrev made_node : ℕ → List Pair → Node
made_node level pairs = record { level = level; pairs = pairs }

count_few : (g : Geometry) (leaves before : ℕ) (node : Node) → IsNodeItem g leaves before node → length node.pairs < 2 ^ 16
count_few g leaves before node is = omega (arith, pairs_few g node.pairs is.is.few, most_page g)

count_read : (node : Node) → length node.pairs < 2 ^ 16 → number_at 2 (node_item node) 1 ≡ length node.pairs
count_read node lt = number_at-drop 2 (node_item node) 1 ∙ two_is.again (length node.pairs) (flat_map (pair_bytes Wide) node.pairs) lt

pairs_read : (node : Node) → length node.pairs < 2 ^ 16 → AllByRecursion (HasPairFields Wide) node.pairs → read_pairs Wide (number_at 2 (node_item node) 1) (drop 3 (node_item node)) ≡ node.pairs
pairs_read node lt fields =
    let rest : drop 3 (node_item node) ≡ flat_map (pair_bytes Wide) node.pairs ++ [] = drop_at (two_bytes (length node.pairs)) (flat_map (pair_bytes Wide) node.pairs) 2 (two_is.len (length node.pairs)) ∙ sym (append-nil (flat_map (pair_bytes Wide) node.pairs)) in
    ap (λ (n : ℕ). read_pairs Wide n (drop 3 (node_item node))) (count_read node lt) ∙ ap (read_pairs Wide (length node.pairs)) rest ∙ pairs_again Wide node.pairs [] fields

pub node_back : (g : Geometry) (leaves before : ℕ) (node : Node) → IsNodeItem g leaves before node → node_read (node_item node) ≡ node
node_back g leaves before node is =
    let same : made_node node.level (read_pairs Wide (number_at 2 (node_item node) 1) (drop 3 (node_item node))) ≡ made_node node.level node.pairs = ap (made_node node.level) (pairs_read node (count_few g leaves before node is) is.fields) in
    same

-- ---- what is spelled by what is read

pub first_byte : (bytes : List ℕ) → 1 ≤ length bytes → bytes ≡ slice_index bytes 0 ∷ drop 1 bytes
first_byte [] le = absurd (omega arith)
first_byte (x ∷ bytes) le = refl

pub node_spelled : (bytes : List ℕ) → IsBytes bytes → length bytes ≡ 3 + 12 * number_at 2 bytes 1 → bytes ≡ node_item (node_read bytes)
node_spelled bytes are len =
    let n : ℕ = number_at 2 bytes 1 in
    let tail : List ℕ = drop 3 bytes in
    let long : length (drop 3 bytes) ≡ 12 * number_at 2 bytes 1 = omega (arith, length-drop 3 bytes) in
    let count : drop 1 bytes ≡ two_bytes (number_at 2 bytes 1) ++ drop 3 bytes = number_spelled 2 (2 ^ 16) two_bytes two_is bytes 1 3 are refl (omega arith) in
    let pairs : flat_map (pair_bytes Wide) (read_pairs Wide (number_at 2 bytes 1) (drop 3 bytes)) ≡ drop 3 bytes =
    pairs_back Wide (number_at 2 bytes 1) (drop 3 bytes) (omega (arith, long)) (IsBytes-drop 3 bytes are) ∙ take_all (12 * number_at 2 bytes 1) (drop 3 bytes) (omega (arith, long)) in
    first_byte bytes (omega arith)
    ∙ ap (λ (t : List ℕ). slice_index bytes 0 ∷ t) count
    ∙ ap (λ (t : List ℕ). slice_index bytes 0 ∷ (two_bytes (number_at 2 bytes 1) ++ t)) (sym pairs)
    ∙ ap (λ (k : ℕ). slice_index bytes 0 ∷ (two_bytes k ++ flat_map (pair_bytes Wide) (read_pairs Wide (number_at 2 bytes 1) (drop 3 bytes)))) (sym (length-read_pairs Wide (number_at 2 bytes 1) (drop 3 bytes)))

-- ---- pairs that may stand in a node

abbrev is_good : ℕ → ℕ → Pair → Bool
is_good most last pair = nat_lt last pair.count && nat_le 1 pair.page.0 && nat_le pair.page.0 most

pub good_pairs : (most last : ℕ) (pairs : List Pair) → RiseFrom last pairs → AllByRecursion (IsChild most) pairs → are_good_pairs most last pairs ≡ true
good_pairs most last [] rise each = refl
good_pairs most last (pair ∷ pairs) rise each =
    let here : is_good most last pair ≡ true = and_from (nat_lt last pair.count && nat_le 1 pair.page.0) (nat_le pair.page.0 most) (and_from (nat_lt last pair.count) (nat_le 1 pair.page.0) (lt-ltb last pair.count rise.0) (le-leb 1 pair.page.0 each.0.0)) (le-leb pair.page.0 most each.0.1) in
    and_from (is_good most last pair) (are_good_pairs most pair.count pairs) here (good_pairs most pair.count pairs rise.1 each.1)

pub pairs_good : (most last : ℕ) (pairs : List Pair) → are_good_pairs most last pairs ≡ true → RiseFrom last pairs × AllByRecursion (IsChild most) pairs
pairs_good most last [] e = (tt, tt)
pairs_good most last (pair ∷ pairs) e =
    let both = and_parts (is_good most last pair) (are_good_pairs most pair.count pairs) e in
    let here = and_parts (nat_lt last pair.count && nat_le 1 pair.page.0) (nat_le pair.page.0 most) both.0 in
    let two = and_parts (nat_lt last pair.count) (nat_le 1 pair.page.0) here.0 in
    let rest = pairs_good most pair.count pairs both.1 in
    ((ltb-true last pair.count two.0, rest.0), ((leb-true 1 pair.page.0 two.1, leb-true pair.page.0 most here.1), rest.1))

-- ---- its need

abbrev is_head : Geometry → ℕ → ℕ → Bool
is_head g level n = nat_le 1 level && nat_le 1 n && nat_le n (most_pairs g.fan)

good_head : (g : Geometry) (level n : ℕ) → 1 ≤ level → 1 ≤ n → n ≤ most_pairs g.fan → is_head g level n ≡ true
good_head g level n a b c = and_from (nat_le 1 level && nat_le 1 n) (nat_le n (most_pairs g.fan)) (and_from (nat_le 1 level) (nat_le 1 n) (le-leb 1 level a) (le-leb 1 n b)) (le-leb n (most_pairs g.fan) c)

record HeadSays (g : Geometry) (level n : ℕ) : Type 0 where
  inner : 1 ≤ level
  some : 1 ≤ n
  few : n ≤ most_pairs g.fan

head_good : (g : Geometry) (level n : ℕ) → is_head g level n ≡ true → HeadSays g level n
head_good g level n e =
    let both = and_parts (nat_le 1 level && nat_le 1 n) (nat_le n (most_pairs g.fan)) e in
    let two = and_parts (nat_le 1 level) (nat_le 1 n) both.0 in
    record { inner = leb-true 1 level two.0; some = leb-true 1 n two.1; few = leb-true n (most_pairs g.fan) both.1 }

-- so many pairs fit the longest item
fits_item : (g : Geometry) (n : ℕ) → n ≤ most_pairs g.fan → 3 + 12 * n ≤ item_most g
fits_item g n few =
    let narrow : g.fan ≤ (g.page_size - 20) / 24 = g.narrow in
    omega (arith, narrow, few, least_page g, page_le g)

node_made : (g : Geometry) (leaves before : ℕ) (bytes : List ℕ) → IsBytes bytes → HeadSays g (slice_index bytes 0) (number_at 2 bytes 1) → are_good_pairs (children_most leaves before (slice_index bytes 0)) 0 (node_read bytes).pairs ≡ true → IsNodeItem g leaves before (node_read bytes)
node_made g leaves before bytes are head good =
    let pairs = pairs_good (children_most leaves before (slice_index bytes 0)) 0 (node_read bytes).pairs good in
    let len : length (read_pairs Wide (number_at 2 bytes 1) (drop 3 bytes)) ≡ number_at 2 bytes 1 = length-read_pairs Wide (number_at 2 bytes 1) (drop 3 bytes) in
    record {
      is = record {
        inner = head.inner;
        byte = are 0;
        some = omega (arith, len, head.some);
        few = omega (arith, len, head.few);
        rising = pairs.0;
      };
      fields = fields_read Wide (number_at 2 bytes 1) (drop 3 bytes) (IsBytes-drop 3 bytes are);
      children = pairs.1;
    }

pub node_needs : (g : Geometry) (leaves before : ℕ) (bytes : List ℕ) → IsBytes bytes → Needs Node (IsNodeItem g leaves before) node_item (item_most g) bytes (need_of_node g leaves before bytes)
node_needs g leaves before bytes are =
    needs_behind Node (IsNodeItem g leaves before) node_item (item_most g) bytes 3 _ _ (omega (arith, least_page g, page_le g))
    (λ node is. omega (arith, length-node node))
    (λ long node is begins.
    let level : slice_index bytes 0 ≡ node.level = byte_begun (node_item node) bytes 0 begins (omega arith) in
    let count = count_begun node begins long is in
    good_head g (slice_index bytes 0) (number_at 2 bytes 1) (omega (arith, level, is.is.inner)) (omega (arith, count, is.is.some)) (omega (arith, count, is.is.few)))
    (λ long good.
    let head = head_good g (slice_index bytes 0) (number_at 2 bytes 1) good in
    needs_whole Node (IsNodeItem g leaves before) node_item (item_most g) bytes (3 + 12 * number_at 2 bytes 1) _ (fits_item g (number_at 2 bytes 1) head.few)
    (λ node is begins. omega (arith, length-node node, count_begun node begins long is))
    (λ node is e. passes node is e)
    (λ len pairs. (node_read bytes, node_made g leaves before bytes are head pairs, node_spelled bytes are len)))
  where
    count_begun : (node : Node) → BeginsWith (node_item node) bytes → 3 ≤ length bytes → IsNodeItem g leaves before node → number_at 2 bytes 1 ≡ length node.pairs
    count_begun node begins long is = number_begun 2 (node_item node) bytes 1 begins (omega arith) ∙ count_read node (count_few g leaves before node is)

    passes : (node : Node) → IsNodeItem g leaves before node → bytes ≡ node_item node → are_good_pairs (children_most leaves before (slice_index bytes 0)) 0 (node_read bytes).pairs ≡ true
    passes node is e =
        let back : node_read bytes ≡ node = ap node_read e ∙ node_back g leaves before node is in
        subst (λ (it : Node). are_good_pairs (children_most leaves before it.level) 0 it.pairs ≡ true) (sym back) (good_pairs (children_most leaves before node.level) 0 node.pairs is.is.rising is.children)

-- ---- one pair after another

abbrev pub made_pair : ℕ → ℕ → Pair
made_pair count page = record { count = count; page = record { 0 = page } }

-- the pairs from pair i on are good where it is and those behind it are
pub pairs_step : (most n i last count child : ℕ) (bytes : List ℕ) → i < n → count ≡ number_at 8 bytes (12 * i) → child ≡ number_at 4 bytes (12 * i + 8) → are_good_pairs most last (read_pairs Wide (n - i) (drop (12 * i) bytes)) ≡ (is_good most last (made_pair count child) && are_good_pairs most count (read_pairs Wide (n - (i + 1)) (drop (12 * (i + 1)) bytes)))
pairs_step most n i last count child bytes lt a b =
    ap (are_good_pairs most last) (read_step Wide n i bytes lt)
    ∙ ap (λ (pair : Pair). is_good most last pair && are_good_pairs most pair.count (read_pairs Wide (n - (i + 1)) (drop (12 * (i + 1)) bytes))) (pair_read Wide bytes (12 * i) count child a b)

-- the pair at an index
pair_at_index : (n index : ℕ) (bytes : List ℕ) → index < n → slice_get (read_pairs Wide n bytes) index ≡ Some (pair_at Wide (drop (12 * index) bytes))
pair_at_index zero index bytes lt = absurd (omega arith)
pair_at_index (suc n) zero bytes lt = refl
pair_at_index (suc n) (suc index) bytes lt =
    let at : 12 + 12 * index ≡ 12 * suc index = omega arith in
    pair_at_index n index (drop 12 bytes) (omega arith) ∙ ap (λ (t : List ℕ). Some (pair_at Wide t)) (drop-drop (12 * index) 12 bytes ∙ ap (λ (k : ℕ). drop k bytes) at)

pub pair_said : (bytes : List ℕ) (node : Node) (index count child : ℕ) → node_read bytes ≡ node → index < length node.pairs → count ≡ number_at 8 bytes (3 + 12 * index) → child ≡ number_at 4 bytes (3 + 12 * index + 8) → slice_get node.pairs index ≡ Some (made_pair count child)
pair_said bytes node index count child is lt a b =
    let n : index < number_at 2 bytes 1 = omega (arith, lt, ap (λ (it : Node). length it.pairs) is, length-read_pairs Wide (number_at 2 bytes 1) (drop 3 bytes)) in
    ap (λ (it : Node). slice_get it.pairs index) (sym is)
    ∙ pair_at_index (number_at 2 bytes 1) index (drop 3 bytes) n
    ∙ ap (λ (t : List ℕ). Some (pair_at Wide t)) (drop-drop (12 * index) 3 bytes)
    ∙ ap Some (pair_read Wide bytes (3 + 12 * index) count child a b)

-- it stands inside the bytes
pub pair_room : (bytes : List ℕ) (node : Node) (index : ℕ) → node_read bytes ≡ node → index < length node.pairs → 3 + 12 * number_at 2 bytes 1 ≤ length bytes → 3 + 12 * index + 12 ≤ length bytes
pair_room bytes node index is lt room = omega (arith, lt, ap (λ (it : Node). length it.pairs) is, length-read_pairs Wide (number_at 2 bytes 1) (drop 3 bytes))
