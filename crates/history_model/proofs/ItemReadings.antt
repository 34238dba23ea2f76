-- Each item of a stream is spelled in one way, and so is a history.
use Rattle.std.proofs.Common.{◌≡◌, ℕ, ◌+◌, ◌-◌, ◌*◌, ◌/◌, ◌<◌, ◌≤◌, ◌^◌, Bool, true, false, List, [], ◌∷◌, ◌++◌, length, Option, Some, None, refl, sym, ap, subst, ◌∙◌, arith, append_assoc}
use Rattle.std.specs.Prelude.{IfSome}
use Rattle.std.specs.List.{flat_map, AllByRecursion}
use Rattle.ex_base.specs.declared.geometry.Geometry.{Geometry}
use Rattle.ex_base.specs.declared.names.PageNo.{PageNo}
use Rattle.ex_base.specs.declared.names.Root.{Root}
use Rattle.ex_base.specs.Fields.{two_bytes, four_bytes, eight_bytes, page_field}
use Rattle.ex_base.specs.Sizes.{least_page, most_page}
use Rattle.ex_base.proofs.FieldLaws.{same_front, same_two, same_four, same_eight}
use Rattle.ex_base.proofs.Geometries.{leaf_most}
use Rattle.ex_base.proofs.Reading.{OneReading, one_list, one_page_field}
use Rattle.object_records.specs.Record.{Content, Small, Large, IsRootField}
use Rattle.trees.specs.declared.Pair.{Pair}
use Rattle.trees.specs.declared.width.Width.TheVariants.{Wide}
use Rattle.trees.specs.Node.{Node, IsNode, HasPairFields, pair_bytes}
use Rattle.trees.specs.Split.{most_pairs}
use Rattle.history_model.specs.History.{History, HistoryFile, HistoryVersion}
use Rattle.history_model.specs.Items.{AreItems, AreNodeItems, IsContentItem, IsFileItem, IsLeafItem, IsVersionItem}
use Rattle.history_model.specs.Stream.{FitsHead, StreamHead, content_item, file_item, head_bytes, head_of, leaf_item, node_item, number_or_none, state_code, stream_magic, stream_of, version_item}

-- a part and what is behind it, in front of more
abbrev under : (f t x g u y : List ℕ) → (f ++ t) ++ x ≡ (g ++ u) ++ y → f ++ (t ++ x) ≡ g ++ (u ++ y)
under f t x g u y e = sym (append_assoc f t x) ∙ e ∙ append_assoc g u y

-- ---- the head

abbrev made_head : ℕ → ℕ → ℕ → ℕ → ℕ → ℕ → ℕ → ℕ → ℕ → StreamHead
made_head page_size seg_len fan next_unique last files leaves nodes pages = record {
  page_size = page_size;
  seg_len = seg_len;
  fan = fan;
  next_unique = next_unique;
  last = last;
  files = files;
  leaves = leaves;
  nodes = nodes;
  pages = pages;
}

head_fields : (h : StreamHead) (x : List ℕ) → head_bytes h ++ x ≡ stream_magic ++ (four_bytes h.page_size ++ (four_bytes h.seg_len ++ (four_bytes h.fan ++ (eight_bytes h.next_unique ++ (eight_bytes h.last ++ (four_bytes h.files ++ (four_bytes h.leaves ++ (four_bytes h.nodes ++ (four_bytes h.pages ++ x)))))))))
unfolding head_bytes
head_fields h x = simp append_assoc

pub one_head : OneReading FitsHead head_bytes
one_head a b x y p q e =
    let whole = sym (head_fields a x) ∙ e ∙ head_fields b y in
    let magic = same_front stream_magic stream_magic _ _ refl whole in
    let page_size = same_four a.page_size b.page_size _ _ p.page_size q.page_size magic.1 in
    let seg_len = same_four a.seg_len b.seg_len _ _ p.seg_len q.seg_len page_size.1 in
    let fan = same_four a.fan b.fan _ _ p.fan q.fan seg_len.1 in
    let next_unique = same_eight a.next_unique b.next_unique _ _ p.next_unique q.next_unique fan.1 in
    let last = same_eight a.last b.last _ _ p.last q.last next_unique.1 in
    let files = same_four a.files b.files _ _ p.files q.files last.1 in
    let leaves = same_four a.leaves b.leaves _ _ p.leaves q.leaves files.1 in
    let nodes = same_four a.nodes b.nodes _ _ p.nodes q.nodes leaves.1 in
    let pages = same_four a.pages b.pages x y p.pages q.pages nodes.1 in
    let same : made_head a.page_size a.seg_len a.fan a.next_unique a.last a.files a.leaves a.nodes a.pages ≡ made_head b.page_size b.seg_len b.fan b.next_unique b.last b.files b.leaves b.nodes b.pages =
    cc (page_size.0, seg_len.0, fan.0, next_unique.0, last.0, files.0, leaves.0, nodes.0, pages.0) in
    (same, pages.1)

-- ---- leaves and nodes

leaf_len : (g : Geometry) (leaf : List ℕ) → IsLeafItem g leaf → length leaf < 2 ^ 32
leaf_len g leaf is = omega (arith, is.1, leaf_most g)

pub one_leaf : (g : Geometry) → OneReading (IsLeafItem g) leaf_item
one_leaf g a b x y p q e =
    let len = same_four (length a) (length b) (a ++ x) (b ++ y) (leaf_len g a p) (leaf_len g b q) (under (four_bytes (length a)) a x (four_bytes (length b)) b y e) in
    same_front a b x y len.0 len.1

abbrev made_pair : ℕ → ℕ → Pair
made_pair count page = record { count = count; page = record { 0 = page } }

pub one_pair : OneReading (HasPairFields Wide) (pair_bytes Wide)
one_pair a b x y p q e =
    let count = same_eight a.count b.count (four_bytes a.page.0 ++ x) (four_bytes b.page.0 ++ y) p.0 q.0 (under (eight_bytes a.count) (four_bytes a.page.0) x (eight_bytes b.count) (four_bytes b.page.0) y e) in
    let page = same_four a.page.0 b.page.0 x y p.1 q.1 count.1 in
    let same : made_pair a.count a.page.0 ≡ made_pair b.count b.page.0 = cc (count.0, page.0) in
    (same, page.1)

-- what a node's item has by itself
pub record FitsNode (g : Geometry) (node : Node) : Type 0 where
  pub is : IsNode g.fan node.level node.pairs
  pub fields : AllByRecursion (HasPairFields Wide) node.pairs

pub nodes_fit : (g : Geometry) (leaves before : ℕ) (nodes : List Node) → AreNodeItems g leaves before nodes → AllByRecursion (FitsNode g) nodes
nodes_fit g leaves before [] are = tt
nodes_fit g leaves before (node ∷ nodes) are = (record { is = are.0.is; fields = are.0.fields }, nodes_fit g leaves _ nodes are.1)

pub pairs_few : (g : Geometry) (pairs : List Pair) → length pairs ≤ most_pairs g.fan → 12 * length pairs + 5 ≤ g.page_size
pairs_few g pairs few =
    let narrow : g.fan ≤ (g.page_size - 20) / 24 = g.narrow in
    omega (arith, narrow, few, least_page g)

abbrev made_node : ℕ → List Pair → Node
made_node level pairs = record { level = level; pairs = pairs }

pub one_node : (g : Geometry) → OneReading (FitsNode g) node_item
one_node g a b x y p q e =
    let level : a.level ≡ b.level = cc in
    let rest : (two_bytes (length a.pairs) ++ flat_map (pair_bytes Wide) a.pairs) ++ x ≡ (two_bytes (length b.pairs) ++ flat_map (pair_bytes Wide) b.pairs) ++ y = cc in
    let few : length a.pairs < 2 ^ 16 = omega (arith, pairs_few g a.pairs p.is.few, most_page g) in
    let few_too : length b.pairs < 2 ^ 16 = omega (arith, pairs_few g b.pairs q.is.few, most_page g) in
    let count = same_two (length a.pairs) (length b.pairs) _ _ few few_too (under (two_bytes (length a.pairs)) (flat_map (pair_bytes Wide) a.pairs) x (two_bytes (length b.pairs)) (flat_map (pair_bytes Wide) b.pairs) y rest) in
    let pairs = one_list (HasPairFields Wide) (pair_bytes Wide) one_pair a.pairs b.pairs x y p.fields q.fields count.0 count.1 in
    let same : made_node a.level a.pairs ≡ made_node b.level b.pairs = cc (level, pairs.0) in
    (same, pairs.1)

-- ---- versions

one_state : (a b : Bool) → state_code a ≡ state_code b → a ≡ b
one_state false false e = refl
one_state false true e = absurd (omega (arith, e))
one_state true false e = absurd (omega (arith, e))
one_state true true e = refl

abbrev IsOlderField : Option ℕ → Type 0
IsOlderField older = IfSome older (λ number. (1 ≤ number) × (number < 2 ^ 64))

one_older : (a b : Option ℕ) → IsOlderField a → IsOlderField b → number_or_none a ≡ number_or_none b → a ≡ b
one_older None None p q e = refl
one_older None (Some b) p q e = absurd (omega (arith, q.0, e))
one_older (Some a) None p q e = absurd (omega (arith, p.0, e))
one_older (Some a) (Some b) p q e = ap Some e

older_fits : (a : Option ℕ) → IsOlderField a → number_or_none a < 2 ^ 64
older_fits None p = omega arith
older_fits (Some a) p = p.1

abbrev made_root : ℕ → Option PageNo → ℕ → Root
made_root height page size = record { height = height; page = page; size = size }

one_root : (a b : Root) (x y : List ℕ) → IsRootField a → IsRootField b → (eight_bytes a.size ++ ((a.height ∷ []) ++ page_field a.page)) ++ x ≡ (eight_bytes b.size ++ ((b.height ∷ []) ++ page_field b.page)) ++ y → (a ≡ b) × (x ≡ y)
one_root a b x y p q e =
    let size = same_eight a.size b.size _ _ p.size q.size (under (eight_bytes a.size) ((a.height ∷ []) ++ page_field a.page) x (eight_bytes b.size) ((b.height ∷ []) ++ page_field b.page) y e) in
    let rest : a.height ∷ (page_field a.page ++ x) ≡ b.height ∷ (page_field b.page ++ y) = size.1 in
    let height : a.height ≡ b.height = cc in
    let page = one_page_field a.page b.page x y p.page q.page (cc) in
    let same : made_root a.height a.page a.size ≡ made_root b.height b.page b.size = cc (height, page.0, size.0) in
    (same, page.1)

pub one_content : (g : Geometry) (leaves nodes : ℕ) → OneReading (IsContentItem g leaves nodes) content_item
one_content g leaves nodes (Small a) (Small b) x y p q e =
    let rest : (two_bytes (length a) ++ a) ++ x ≡ (two_bytes (length b) ++ b) ++ y = cc in
    let len = same_two (length a) (length b) (a ++ x) (b ++ y) (omega (arith, p, most_page g)) (omega (arith, q, most_page g)) (under (two_bytes (length a)) a x (two_bytes (length b)) b y rest) in
    let bytes = same_front a b x y len.0 len.1 in
    (ap Small bytes.0, bytes.1)
one_content g leaves nodes (Small a) (Large b) x y p q e = absurd (cc)
one_content g leaves nodes (Large a) (Small b) x y p q e = absurd (cc)
one_content g leaves nodes (Large a) (Large b) x y p q e =
    let root = one_root a b x y p.0 q.0 (cc) in
    (ap Large root.0, root.1)

abbrev made_version : ℕ → Bool → Option ℕ → Content → HistoryVersion
made_version unique frozen older content = record { unique = unique; frozen = frozen; older = older; content = content }

version_fields : (v : HistoryVersion) (x : List ℕ) → version_item v ++ x ≡ eight_bytes v.unique ++ (state_code v.frozen ∷ (eight_bytes (number_or_none v.older) ++ (content_item v.content ++ x)))
version_fields v x =
    append_assoc (eight_bytes v.unique) ((state_code v.frozen ∷ []) ++ (eight_bytes (number_or_none v.older) ++ content_item v.content)) x
    ∙ ap (λ (t : List ℕ). eight_bytes v.unique ++ (state_code v.frozen ∷ t)) (append_assoc (eight_bytes (number_or_none v.older)) (content_item v.content) x)

pub one_version : (g : Geometry) (leaves nodes : ℕ) → OneReading (IsVersionItem g leaves nodes) version_item
one_version g leaves nodes a b x y p q e =
    let whole = sym (version_fields a x) ∙ e ∙ version_fields b y in
    let unique = same_eight a.unique b.unique _ _ p.unique q.unique whole in
    let code : state_code a.frozen ≡ state_code b.frozen = cc (unique.1) in
    let behind : eight_bytes (number_or_none a.older) ++ (content_item a.content ++ x) ≡ eight_bytes (number_or_none b.older) ++ (content_item b.content ++ y) = cc (unique.1) in
    let older = same_eight (number_or_none a.older) (number_or_none b.older) _ _ (older_fits a.older p.older) (older_fits b.older q.older) behind in
    let content = one_content g leaves nodes a.content b.content x y p.content q.content older.1 in
    let same : made_version a.unique a.frozen a.older a.content ≡ made_version b.unique b.frozen b.older b.content =
    cc (unique.0, one_state a.frozen b.frozen code, one_older a.older b.older p.older q.older older.0, content.0) in
    (same, content.1)

-- ---- files

abbrev made_file : List ℕ → List HistoryVersion → HistoryFile
made_file name versions = record { name = name; versions = versions }

file_fields : (f : HistoryFile) (x : List ℕ) → file_item f ++ x ≡ length f.name ∷ (f.name ++ (four_bytes (length f.versions) ++ (flat_map version_item f.versions ++ x)))
file_fields f x = simp append_assoc

pub one_file : (g : Geometry) (leaves nodes : ℕ) → OneReading (IsFileItem g leaves nodes) file_item
one_file g leaves nodes a b x y p q e =
    let whole = sym (file_fields a x) ∙ e ∙ file_fields b y in
    let len : length a.name ≡ length b.name = cc (whole) in
    let behind : a.name ++ (four_bytes (length a.versions) ++ (flat_map version_item a.versions ++ x)) ≡ b.name ++ (four_bytes (length b.versions) ++ (flat_map version_item b.versions ++ y)) = cc (whole) in
    let name = same_front a.name b.name _ _ len behind in
    let count = same_four (length a.versions) (length b.versions) _ _ p.few q.few name.1 in
    let versions = one_list (IsVersionItem g leaves nodes) version_item (one_version g leaves nodes) a.versions b.versions x y p.versions q.versions count.0 count.1 in
    let same : made_file a.name a.versions ≡ made_file b.name b.versions = cc (name.0, versions.0) in
    (same, versions.1)

-- ---- the whole history

abbrev made_history : ℕ → ℕ → ℕ → List (List ℕ) → List Node → List HistoryFile → History
made_history next_unique last pages leaves nodes files = record { next_unique = next_unique; last = last; pages = pages; leaves = leaves; nodes = nodes; files = files }

abbrev AreFiles : Geometry → ℕ → ℕ → List HistoryFile → Type 0
AreFiles g leaves nodes files = AllByRecursion (IsFileItem g leaves nodes) files

behind_head : (g : Geometry) (h k : History) → AreItems g h → AreItems g k → head_of g h ≡ head_of g k → flat_map leaf_item h.leaves ++ (flat_map node_item h.nodes ++ flat_map file_item h.files) ≡ flat_map leaf_item k.leaves ++ (flat_map node_item k.nodes ++ flat_map file_item k.files) → h ≡ k
behind_head g h k p q head e =
    let leaf_count : length h.leaves ≡ length k.leaves = ap (λ (s : StreamHead). s.leaves) head in
    let node_count : length h.nodes ≡ length k.nodes = ap (λ (s : StreamHead). s.nodes) head in
    let file_count : length h.files ≡ length k.files = ap (λ (s : StreamHead). s.files) head in
    let leaves = one_list (IsLeafItem g) leaf_item (one_leaf g) h.leaves k.leaves _ _ p.leaves q.leaves leaf_count e in
    let nodes = one_list (FitsNode g) node_item (one_node g) h.nodes k.nodes _ _ (nodes_fit g _ _ h.nodes p.nodes) (nodes_fit g _ _ k.nodes q.nodes) node_count leaves.1 in
    let more : flat_map file_item h.files ++ [] ≡ flat_map file_item k.files ++ [] = ap (λ (t : List ℕ). t ++ []) nodes.1 in
    let there : AreFiles g (length h.leaves) (length h.nodes) k.files =
    subst (λ (n : ℕ). AreFiles g n (length h.nodes) k.files) (sym leaf_count) (subst (λ (n : ℕ). AreFiles g (length k.leaves) n k.files) (sym node_count) q.files) in
    let files = one_list (IsFileItem g (length h.leaves) (length h.nodes)) file_item (one_file g (length h.leaves) (length h.nodes)) h.files k.files [] [] p.files there file_count more in
    let same : made_history h.next_unique h.last h.pages h.leaves h.nodes h.files ≡ made_history k.next_unique k.last k.pages k.leaves k.nodes k.files =
    cc (ap (λ (s : StreamHead). s.next_unique) head, ap (λ (s : StreamHead). s.last) head, ap (λ (s : StreamHead). s.pages) head, leaves.0, nodes.0, files.0) in
    same

pub one_history : (g : Geometry) (h k : History) → AreItems g h → AreItems g k → stream_of g h ≡ stream_of g k → h ≡ k
unfolding stream_of
one_history g h k p q e =
    let head = one_head (head_of g h) (head_of g k) _ _ p.head q.head e in
    behind_head g h k p q head.0 head.1
