-- Bytes that are read to the end are the stream of a history, whose items are each one.
use Rattle.std.proofs.Common.{◌≡◌, ◌⊎◌, ℕ, suc, ◌+◌, ◌<◌, ◌≤◌, ◌^◌, Bool, true, false, not, ◌==◌, List, [], ◌∷◌, ◌++◌, length, map, Option, Some, None, refl, sym, ap, subst, ◌∙◌, arith, append_assoc, IsTrue}
use Rattle.std.specs.Prelude.{IfSome, if◌then◌else◌}
use Rattle.std.specs.List.{flat_map, AllByRecursion}
use Rattle.std.proofs.lemmas.List.{append-nil, flat_map_more, length_push}
use Rattle.std.proofs.lemmas.Bool.{eqb-true}
use Rattle.ex_base.specs.declared.geometry.Geometry.{Geometry}
use Rattle.ex_base.specs.Order.{Rising}
use Rattle.ex_base.proofs.Each.{each_with}
use Rattle.ex_base.proofs.Rows.{each-append}
use Rattle.table_model.specs.Words.{is_name}
use Rattle.trees.specs.Node.{Node}
use Rattle.history_model.specs.History.{HistoryFile, HistoryVersion, number_in}
use Rattle.history_model.specs.Items.{AreItems, AreNodeItems, IsFileItem, IsLeafItem, IsNodeItem, IsVersionItem}
use Rattle.history_model.specs.Stream.{FitsHead, StreamHead, file_item, head_bytes, head_of, leaf_item, misfit_of, node_item, stream_of, version_item}
use Rattle.history_items.specs.ItemLaws.{FileFront, front_bytes}
use Rattle.history_fronts.specs.declared.turns.Turn.TheVariants.{Leaf as LeafTurn, Node as NodeTurn, Version as VersionTurn, File as FileTurn, End as NoTurn}
use Rattle.history_fronts.specs.Fronts.{AFile, ALeaf, ANode, AVersion, Front, IsNext, IsSound, Item, Leads, after, begun, files_of, history_of, one_less, one_of, spelled, turn_of, with_version}
use Rattle.history_fronts.specs.Readings.{IsFrontOf}
use Rattle.history_reads.specs.Kept.{IsReached}
use Rattle.history_reads.proofs.Filed.{one_less_is}
use Rattle.history_reads.proofs.Reached.{reached_begun, reached_next, sound_begun}
use Rattle.history_fronts.proofs.Said.{file_fits, leaf_fits, node_fits, says_of, version_fits}

-- ---- what came

-- a file of which so many versions are missing
pub record IsPart (g : Geometry) (leaves nodes missing : ℕ) (f : HistoryFile) : Type 0 where
  pub name : IsTrue (is_name f.name)
  pub few : length f.versions + missing < 2 ^ 32
  pub versions : AllByRecursion (IsVersionItem g leaves nodes) f.versions

pub record Came (g : Geometry) (f : Front) : Type 0 where
  pub leaves : AllByRecursion (IsLeafItem g) f.leaves
  pub few_leaves : length f.leaves ≤ f.head.leaves
  pub nodes : AreNodeItems g f.head.leaves 0 f.nodes
  pub few_nodes : length f.nodes ≤ f.head.nodes
  pub files : AllByRecursion (IsPart g f.head.leaves f.head.nodes 0) f.files
  pub hand : IfSome f.hand (IsPart g f.head.leaves f.head.nodes f.missing)
  pub few_files : length (files_of f) ≤ f.head.files
  pub reached : IsReached f
  pub sound : IsSound g f

-- nodes, one more behind them
nodes_more : (g : Geometry) (leaves before : ℕ) (nodes : List Node) (node : Node) → AreNodeItems g leaves before nodes → IsNodeItem g leaves (before + length nodes) node → AreNodeItems g leaves before (nodes ++ node ∷ [])
nodes_more g leaves before [] node are is = (subst (λ (n : ℕ). IsNodeItem g leaves n node) (let e : before + 0 ≡ before = omega arith in e) is, tt)
nodes_more g leaves before (n ∷ nodes) node are is =
    (are.0, nodes_more g leaves (suc before) nodes node are.1 (subst (λ (k : ℕ). IsNodeItem g leaves k node) (let e : before + length (n ∷ nodes) ≡ suc before + length nodes = omega arith in e) is))

-- ---- the bytes of a front

abbrev part_bytes : ℕ → Option HistoryFile → List ℕ
part_bytes missing None = []
part_bytes missing (Some f) = front_bytes (record { name = f.name; versions = length f.versions + missing }) ++ flat_map version_item f.versions

abbrev files_bytes : Front → List ℕ
files_bytes f = flat_map file_item f.files ++ part_bytes f.missing f.hand

abbrev bytes_of : Front → List ℕ
bytes_of f = flat_map leaf_item f.leaves ++ (flat_map node_item f.nodes ++ files_bytes f)

flat_more : {A : Type 0} (spell : A → List ℕ) (xs : List A) (x : A) → flat_map spell (xs ++ x ∷ []) ≡ flat_map spell xs ++ spell x
flat_more spell xs x = sym (flat_map_more spell [] xs x)

-- behind nothing it comes to the end
add_behind : (a x b t : List ℕ) → b ≡ a ++ x → t ≡ [] → b ++ t ≡ (a ++ t) ++ x
add_behind a x b t e none = subst (λ (u : List ℕ). b ++ u ≡ (a ++ u) ++ x) (sym none) (append-nil b ∙ e ∙ ap (λ (u : List ℕ). u ++ x) (sym (append-nil a)))

none_bytes : (f : Front) → f.files ≡ [] → f.hand ≡ None → files_bytes f ≡ []
none_bytes f files hand = ap (λ (fs : List HistoryFile). flat_map file_item fs ++ part_bytes f.missing f.hand) files ∙ ap (part_bytes f.missing) hand

leaf_bytes_more : (f : Front) (leaf : List ℕ) → f.nodes ≡ [] → f.files ≡ [] → f.hand ≡ None → bytes_of (after f (ALeaf leaf)) ≡ bytes_of f ++ leaf_item leaf
leaf_bytes_more f leaf nodes files hand =
    add_behind (flat_map leaf_item f.leaves) (leaf_item leaf) (flat_map leaf_item (f.leaves ++ leaf ∷ [])) (flat_map node_item f.nodes ++ files_bytes f) (flat_more leaf_item f.leaves leaf)
    (ap (λ (ns : List Node). flat_map node_item ns ++ files_bytes f) nodes ∙ none_bytes f files hand)

node_bytes_more : (f : Front) (node : Node) → f.files ≡ [] → f.hand ≡ None → bytes_of (after f (ANode node)) ≡ bytes_of f ++ node_item node
node_bytes_more f node files hand =
    ap (λ (t : List ℕ). flat_map leaf_item f.leaves ++ t) (add_behind (flat_map node_item f.nodes) (node_item node) (flat_map node_item (f.nodes ++ node ∷ [])) (files_bytes f) (flat_more node_item f.nodes node) (none_bytes f files hand))
    ∙ sym (append_assoc (flat_map leaf_item f.leaves) (flat_map node_item f.nodes ++ files_bytes f) (node_item node))

-- more bytes of files are more bytes
files_more : (f k : Front) (more : List ℕ) → k.leaves ≡ f.leaves → k.nodes ≡ f.nodes → files_bytes k ≡ files_bytes f ++ more → bytes_of k ≡ bytes_of f ++ more
files_more f k more leaves nodes e =
    ap (λ (ls : List (List ℕ)). flat_map leaf_item ls ++ (flat_map node_item k.nodes ++ files_bytes k)) leaves
    ∙ ap (λ (ns : List Node). flat_map leaf_item f.leaves ++ (flat_map node_item ns ++ files_bytes k)) nodes
    ∙ ap (λ (t : List ℕ). flat_map leaf_item f.leaves ++ (flat_map node_item f.nodes ++ t)) e
    ∙ ap (λ (t : List ℕ). flat_map leaf_item f.leaves ++ t) (sym (append_assoc (flat_map node_item f.nodes) (files_bytes f) more))
    ∙ sym (append_assoc (flat_map leaf_item f.leaves) (flat_map node_item f.nodes ++ files_bytes f) more)

-- a whole file
part_whole : (o : Option HistoryFile) → part_bytes 0 o ≡ flat_map file_item (one_of o)
part_whole None = refl
part_whole (Some f) = ap (λ (n : ℕ). front_bytes (record { name = f.name; versions = n }) ++ flat_map version_item f.versions) (let e : length f.versions + 0 ≡ length f.versions = omega arith in e) ∙ sym (append-nil (file_item f))

files_joined : (files more : List HistoryFile) → flat_map file_item (files ++ more) ≡ flat_map file_item files ++ flat_map file_item more
files_joined [] more = refl
files_joined (f ∷ files) more = ap (λ (t : List ℕ). file_item f ++ t) (files_joined files more) ∙ sym (append_assoc (file_item f) (flat_map file_item files) (flat_map file_item more))

all_files : (f : Front) → f.missing ≡ 0 → files_bytes f ≡ flat_map file_item (files_of f)
all_files f none = ap (λ (m : ℕ). flat_map file_item f.files ++ part_bytes m f.hand) none ∙ ap (λ (t : List ℕ). flat_map file_item f.files ++ t) (part_whole f.hand) ∙ sym (files_joined f.files (one_of f.hand))

file_bytes_more : (f : Front) (file : FileFront) → f.missing ≡ 0 → bytes_of (after f (AFile file)) ≡ bytes_of f ++ front_bytes file
file_bytes_more f file none = files_more f (after f (AFile file)) (front_bytes file) refl refl (
    let first : front_bytes (record { name = file.name; versions = 0 + file.versions }) ≡ front_bytes file = ap (λ (n : ℕ). front_bytes (record { name = file.name; versions = n })) (let e : 0 + file.versions ≡ file.versions = omega arith in e) in
    ap (λ (t : List ℕ). flat_map file_item (files_of f) ++ t) (append-nil (front_bytes (record { name = file.name; versions = 0 + file.versions })) ∙ first)
    ∙ ap (λ (t : List ℕ). t ++ front_bytes file) (sym (all_files f none)))

part_more : (m : ℕ) (v : HistoryVersion) (h : HistoryFile) → 0 < m → part_bytes (one_less m) (with_version v (Some h)) ≡ part_bytes m (Some h) ++ version_item v
part_more m v h some =
    let count : length (h.versions ++ v ∷ []) + one_less m ≡ length h.versions + m = omega (arith, length_push h.versions v, one_less_is m) in
    ap (λ (n : ℕ). front_bytes (record { name = h.name; versions = n }) ++ flat_map version_item (h.versions ++ v ∷ [])) count
    ∙ ap (λ (t : List ℕ). front_bytes (record { name = h.name; versions = length h.versions + m }) ++ t) (flat_more version_item h.versions v)
    ∙ sym (append_assoc (front_bytes (record { name = h.name; versions = length h.versions + m })) (flat_map version_item h.versions) (version_item v))

version_bytes_more : (f : Front) (v : HistoryVersion) (h : HistoryFile) → f.hand ≡ Some h → 0 < f.missing → bytes_of (after f (AVersion v)) ≡ bytes_of f ++ version_item v
version_bytes_more f v h hand some = files_more f (after f (AVersion v)) (version_item v) refl refl (
    ap (λ (t : List ℕ). flat_map file_item f.files ++ t) (subst (λ (o : Option HistoryFile). part_bytes (one_less f.missing) (with_version v o) ≡ part_bytes f.missing o ++ version_item v) (sym hand) (part_more f.missing v h some))
    ∙ sym (append_assoc (flat_map file_item f.files) (part_bytes f.missing f.hand) (version_item v)))

-- ---- one item more

step_leaf : (g : Geometry) (f : Front) (leaf : List ℕ) → Came g f → IsNext g f (ALeaf leaf) → Came g (after f (ALeaf leaf)) × (bytes_of (after f (ALeaf leaf)) ≡ bytes_of f ++ leaf_item leaf)
step_leaf g f leaf came next =
    let fits = leaf_fits g f.head.leaves (length f.nodes) (turn_of f) leaf next.fits in
    let lt : length f.leaves < f.head.leaves = says_of f.head (length f.leaves) (length f.nodes) (length (files_of f)) f.missing LeafTurn fits.0 in
    let nodes = came.reached.no_nodes lt in (
      record {
        leaves = each-append (IsLeafItem g) f.leaves (leaf ∷ []) came.leaves (fits.1, tt);
        few_leaves = omega (arith, length_push f.leaves leaf);
        nodes = came.nodes;
        few_nodes = came.few_nodes;
        files = came.files;
        hand = came.hand;
        few_files = came.few_files;
        reached = reached_next g f (ALeaf leaf) came.reached next.fits;
        sound = next.sound;
      },
      leaf_bytes_more f leaf nodes.0 nodes.1 nodes.2,
    )

step_node : (g : Geometry) (f : Front) (node : Node) → Came g f → IsNext g f (ANode node) → Came g (after f (ANode node)) × (bytes_of (after f (ANode node)) ≡ bytes_of f ++ node_item node)
step_node g f node came next =
    let fits = node_fits g f.head.leaves (length f.nodes) (turn_of f) node next.fits in
    let says : (f.head.leaves ≤ length f.leaves) × (length f.nodes < f.head.nodes) = says_of f.head (length f.leaves) (length f.nodes) (length (files_of f)) f.missing NodeTurn fits.0 in
    let files = came.reached.no_files says.1 in (
      record {
        leaves = came.leaves;
        few_leaves = came.few_leaves;
        nodes = nodes_more g f.head.leaves 0 f.nodes node came.nodes (subst (λ (n : ℕ). IsNodeItem g f.head.leaves n node) (let e : length f.nodes ≡ 0 + length f.nodes = omega arith in e) fits.1);
        few_nodes = omega (arith, length_push f.nodes node, says.1);
        files = came.files;
        hand = came.hand;
        few_files = came.few_files;
        reached = reached_next g f (ANode node) came.reached next.fits;
        sound = next.sound;
      },
      node_bytes_more f node files.0 files.1,
    )

part_done : (g : Geometry) (leaves nodes missing : ℕ) (o : Option HistoryFile) → missing ≡ 0 → IfSome o (IsPart g leaves nodes missing) → AllByRecursion (IsPart g leaves nodes 0) (one_of o)
part_done g leaves nodes missing None none is = tt
part_done g leaves nodes missing (Some f) none is = (subst (λ (m : ℕ). IsPart g leaves nodes m f) none is, tt)

step_file : (g : Geometry) (f : Front) (file : FileFront) → Came g f → IsNext g f (AFile file) → Came g (after f (AFile file)) × (bytes_of (after f (AFile file)) ≡ bytes_of f ++ front_bytes file)
step_file g f file came next =
    let fits = file_fits g f.head.leaves (length f.nodes) (turn_of f) file next.fits in
    let says : (f.head.leaves ≤ length f.leaves) × (f.head.nodes ≤ length f.nodes) × (f.missing ≡ 0) × (length (files_of f) < f.head.files) = says_of f.head (length f.leaves) (length f.nodes) (length (files_of f)) f.missing FileTurn fits.0 in (
      record {
        leaves = came.leaves;
        few_leaves = came.few_leaves;
        nodes = came.nodes;
        few_nodes = came.few_nodes;
        files = each-append (IsPart g f.head.leaves f.head.nodes 0) f.files (one_of f.hand) came.files (part_done g f.head.leaves f.head.nodes f.missing f.hand says.2 came.hand);
        hand = record { name = fits.1.0; few = omega (arith, fits.1.1); versions = tt };
        few_files = omega (arith, length_push (files_of f) (record { name = file.name; versions = [] }), says.3);
        reached = reached_next g f (AFile file) came.reached next.fits;
        sound = next.sound;
      },
      file_bytes_more f file says.2,
    )

part_with : (g : Geometry) (leaves nodes missing : ℕ) (o : Option HistoryFile) (v : HistoryVersion) → 0 < missing → IsVersionItem g leaves nodes v → IfSome o (IsPart g leaves nodes missing) → IfSome (with_version v o) (IsPart g leaves nodes (one_less missing))
part_with g leaves nodes missing None v some is part = tt
part_with g leaves nodes missing (Some f) v some is part = record {
  name = part.name;
  few = omega (arith, part.few, length_push f.versions v, one_less_is missing);
  versions = each-append (IsVersionItem g leaves nodes) f.versions (v ∷ []) part.versions (is, tt);
}

step_version : (g : Geometry) (f : Front) (v : HistoryVersion) → Came g f → IsNext g f (AVersion v) → Came g (after f (AVersion v)) × (bytes_of (after f (AVersion v)) ≡ bytes_of f ++ version_item v)
step_version g f v came next =
    let fits = version_fits g f.head.leaves (length f.nodes) (turn_of f) v next.fits in
    let says : (f.head.leaves ≤ length f.leaves) × (f.head.nodes ≤ length f.nodes) × (0 < f.missing) = says_of f.head (length f.leaves) (length f.nodes) (length (files_of f)) f.missing VersionTurn fits.0 in
    let hand = came.reached.hand says.2 in
    let nodes : length f.nodes ≡ f.head.nodes = omega (arith, says.1, came.few_nodes) in (
      record {
        leaves = came.leaves;
        few_leaves = came.few_leaves;
        nodes = came.nodes;
        few_nodes = came.few_nodes;
        files = came.files;
        hand = part_with g f.head.leaves f.head.nodes f.missing f.hand v says.2 (subst (λ (n : ℕ). IsVersionItem g f.head.leaves n v) nodes fits.1) came.hand;
        few_files = same_count f v came.few_files;
        reached = reached_next g f (AVersion v) came.reached next.fits;
        sound = next.sound;
      },
      version_bytes_more f v hand.0 hand.1 says.2,
    )
  where
    with_count : (files : List HistoryFile) (o : Option HistoryFile) (w : HistoryVersion) → length (files ++ one_of (with_version w o)) ≡ length (files ++ one_of o)
    with_count files None w = refl
    with_count files (Some h) w = omega (arith, length_push files h, length_push files (record { name = h.name; versions = h.versions ++ w ∷ [] }))

    same_count : (k : Front) (w : HistoryVersion) → length (files_of k) ≤ k.head.files → length (k.files ++ one_of (with_version w k.hand)) ≤ k.head.files
    same_count k w few = omega (arith, few, with_count k.files k.hand w)

step : (g : Geometry) (f : Front) (item : Item) → Came g f → IsNext g f item → Came g (after f item) × (bytes_of (after f item) ≡ bytes_of f ++ spelled item)
step g f (ALeaf leaf) came next = step_leaf g f leaf came next
step g f (ANode node) came next = step_node g f node came next
step g f (AFile file) came next = step_file g f file came next
step g f (AVersion v) came next = step_version g f v came next

came_by : (g : Geometry) (f k : Front) (items : List Item) → Came g f → Leads g f items k → Came g k × (bytes_of k ≡ bytes_of f ++ flat_map spelled items)
came_by g f k [] came leads = (subst (Came g) leads came, ap bytes_of (sym leads) ∙ sym (append-nil (bytes_of f)))
came_by g f k (item ∷ items) came leads =
    let one = step g f item came leads.0 in
    let rest = came_by g (after f item) k items one.0 leads.1 in
    (rest.0, rest.1 ∙ ap (λ (t : List ℕ). t ++ flat_map spelled items) one.1 ∙ append_assoc (bytes_of f) (spelled item) (flat_map spelled items))

came_begun : (g : Geometry) (head : StreamHead) → Came g (begun head)
came_begun g head = record { leaves = tt; few_leaves = omega arith; nodes = tt; few_nodes = omega arith; files = tt; hand = tt; few_files = omega arith; reached = reached_begun head; sound = sound_begun g head }

pub came_of : (g : Geometry) (joined : List ℕ) (f : Front) (held : List ℕ) → IsFrontOf g joined f held → Came g f
came_of g joined f held one = (came_by g (begun f.head) f one.items (came_begun g f.head) one.leads).0

-- ---- the end

abbrev Sized : Type 0
Sized = Option (ℕ × (ℕ × ℕ))

abbrev misfit_by : Geometry → StreamHead → Bool → Bool → Bool → Sized
misfit_by g head a b c = if not a then Some (1, (head.page_size, g.page_size)) else if not b then Some (2, (head.seg_len, g.seg_len)) else if not c then Some (3, (head.fan, g.fan)) else None

pub sizes_same : (g : Geometry) (head : StreamHead) → misfit_of g head ≡ None → (head.page_size ≡ g.page_size) × (head.seg_len ≡ g.seg_len) × (head.fan ≡ g.fan)
sizes_same g head e = by_tests (head.page_size == g.page_size) (head.seg_len == g.seg_len) (head.fan == g.fan) refl refl refl e
  where
    by_tests : (a b c : Bool) → (head.page_size == g.page_size) ≡ a → (head.seg_len == g.seg_len) ≡ b → (head.fan == g.fan) ≡ c → misfit_by g head a b c ≡ None → (head.page_size ≡ g.page_size) × (head.seg_len ≡ g.seg_len) × (head.fan ≡ g.fan)
    by_tests true true true p q r e = (eqb-true head.page_size g.page_size p, eqb-true head.seg_len g.seg_len q, eqb-true head.fan g.fan r)
    by_tests false b c p q r e = absurd (let no : misfit_by g head false b c ≡ None = e in cc)
    by_tests true false c p q r e = absurd (let no : misfit_by g head true false c ≡ None = e in cc)
    by_tests true true false p q r e = absurd (let no : misfit_by g head true true false ≡ None = e in cc)

abbrev made_head : ℕ → ℕ → ℕ → ℕ → ℕ → ℕ → ℕ → ℕ → ℕ → StreamHead
made_head page_size seg_len fan next_unique last files leaves nodes pages = record { page_size = page_size; seg_len = seg_len; fan = fan; next_unique = next_unique; last = last; files = files; leaves = leaves; nodes = nodes; pages = pages }

head_same : (g : Geometry) (f : Front) → misfit_of g f.head ≡ None → length (files_of f) ≡ f.head.files → length f.leaves ≡ f.head.leaves → length f.nodes ≡ f.head.nodes → head_of g (history_of f) ≡ f.head
head_same g f sizes files leaves nodes =
    let same = sizes_same g f.head sizes in
    let all : made_head g.page_size g.seg_len g.fan f.head.next_unique f.head.last (length (files_of f)) (length f.leaves) (length f.nodes) f.head.pages ≡ made_head f.head.page_size f.head.seg_len f.head.fan f.head.next_unique f.head.last f.head.files f.head.leaves f.head.nodes f.head.pages =
    cc (same.0, same.1, same.2, files, leaves, nodes) in
    all

part_item : (g : Geometry) (leaves nodes : ℕ) (f : HistoryFile) → IsPart g leaves nodes 0 f → Rising (map number_in f.versions) → IsFileItem g leaves nodes f
part_item g leaves nodes f part rising = record { name = part.name; few = omega (arith, part.few); versions = part.versions; rising = rising }

pub ends_are_items : (g : Geometry) (joined : List ℕ) (f : Front) → IsFrontOf g joined f [] → turn_of f ≡ NoTurn → AreItems g (history_of f) × (joined ≡ stream_of g (history_of f))
unfolding stream_of
ends_are_items g joined f one end =
    let came = came_by g (begun f.head) f one.items (came_begun g f.head) one.leads in
    let says : (f.head.leaves ≤ length f.leaves) × (f.head.nodes ≤ length f.nodes) × (f.missing ≡ 0) × (f.head.files ≤ length (files_of f)) = says_of f.head (length f.leaves) (length f.nodes) (length (files_of f)) f.missing NoTurn end in
    let leaves : length f.leaves ≡ f.head.leaves = omega (arith, says.0, came.0.few_leaves) in
    let nodes : length f.nodes ≡ f.head.nodes = omega (arith, says.1, came.0.few_nodes) in
    let files : length (files_of f) ≡ f.head.files = omega (arith, says.3, came.0.few_files) in
    let head = head_same g f one.head.sizes files leaves nodes in
    let parts : AllByRecursion (IsPart g f.head.leaves f.head.nodes 0) (files_of f) = each-append (IsPart g f.head.leaves f.head.nodes 0) f.files (one_of f.hand) came.0.files (part_done g f.head.leaves f.head.nodes f.missing f.hand says.2 came.0.hand) in
    let items : AllByRecursion (IsFileItem g f.head.leaves f.head.nodes) (files_of f) = each_with (IsPart g f.head.leaves f.head.nodes 0) (λ (h : HistoryFile). Rising (map number_in h.versions)) (IsFileItem g f.head.leaves f.head.nodes) (files_of f) (part_item g f.head.leaves f.head.nodes) parts came.0.sound.rising in
    let bytes : flat_map spelled one.items ≡ bytes_of f = sym came.1 in (
      record {
        head = subst FitsHead (sym head) one.head.fits;
        leaves = came.0.leaves;
        nodes = subst (λ (n : ℕ). AreNodeItems g n 0 f.nodes) (sym leaves) came.0.nodes;
        files = subst (λ (n : ℕ). AllByRecursion (IsFileItem g n (length f.nodes)) (files_of f)) (sym leaves) (subst (λ (n : ℕ). AllByRecursion (IsFileItem g f.head.leaves n) (files_of f)) (sym nodes) items);
        few = omega (arith, files, one.head.few);
        names = came.0.sound.names;
      },
      one.joined_is
          ∙ ap (λ (t : List ℕ). head_bytes f.head ++ t) (append-nil (flat_map spelled one.items) ∙ bytes ∙ ap (λ (t : List ℕ). flat_map leaf_item f.leaves ++ (flat_map node_item f.nodes ++ t)) (all_files f says.2))
          ∙ ap (λ (h : StreamHead). head_bytes h ++ (flat_map leaf_item f.leaves ++ (flat_map node_item f.nodes ++ flat_map file_item (files_of f)))) (sym head),
    )
