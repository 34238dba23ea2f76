-- The tables that one stream is a dump of differ in places alone, and a dump is one for areas of any size.
use Rattle.std.proofs.Common.{◌≡◌, ℕ, ◌≤◌, ◌*◌, ◌-◌, ◌/◌, List, [], ◌∷◌, ◌++◌, length, Option, Some, None, sym, ap, subst, ◌∙◌, arith}
use Rattle.std.specs.List.{AllByRecursion, AllZip, flat_map}
use Rattle.ex_base.specs.declared.geometry.Geometry.{Geometry}
use Rattle.ex_base.specs.declared.names.PageNo.{PageNo}
use Rattle.ex_base.specs.Sizes.{files_most, leaf_bytes}
use Rattle.ex_base.proofs.Each.{each_as}
use Rattle.object_records.specs.Record.{Content, Small, Large}
use Rattle.table_model.specs.declared.table.Table.{Table}
use Rattle.table_model.specs.declared.table.TableFile.{TableFile}
use Rattle.table_model.specs.Tables.{IsTable, all_in}
use Rattle.trees.specs.Node.{IsNode, Node}
use Rattle.trees.specs.Shape.{IsBalanced, Shape}
use Rattle.version_lists.specs.declared.version.Version.{Version}
use Rattle.history_model.specs.History.{History, HistoryFile, HistoryVersion}
use Rattle.history_model.specs.Items.{AreItems, AreNodeItems, IsContentItem, IsFileItem, IsLeafItem, IsVersionItem}
use Rattle.history_model.specs.Stream.{FitsHead, StreamHead, file_item, head_bytes, head_of, leaf_item, node_item, stream_of}
use Rattle.history_model.specs.FilePages.{pages_needed}
use Rattle.history_model.specs.Trees.{Gives, IsRooted, shape_under}
use Rattle.history_model.specs.Dumps.{IsDump, IsFileOf, IsHistoryOf, IsVersionOf, SameButPlaces, SameFile, SameVersion}
use Rattle.history_model.proofs.ItemReadings.{one_history}

-- ---- two tables of one history

-- what stands beside the same items stands side by side
side_by_side : {A B C : Type 0} (P : A → B → Type 0) (Q : A → C → Type 0) (R : B → C → Type 0) (xs : List A) (ys : List B) (zs : List C) → ((x : A) (y : B) (z : C) → P x y → Q x z → R y z) → AllZip P xs ys → AllZip Q xs zs → AllZip R ys zs
side_by_side P Q R [] [] [] f p q = tt
side_by_side P Q R [] [] (z ∷ zs) f p q = absurd q
side_by_side P Q R [] (y ∷ ys) zs f p q = absurd p
side_by_side P Q R (x ∷ xs) [] zs f p q = absurd p
side_by_side P Q R (x ∷ xs) (y ∷ ys) [] f p q = absurd q
side_by_side P Q R (x ∷ xs) (y ∷ ys) (z ∷ zs) f p q = (f x y z p.0 q.0, side_by_side P Q R xs ys zs f p.1 q.1)

same_bytes : (g : Geometry) (h : History) (content : Content) (a b : List ℕ) → Gives g h content a → Gives g h content b → a ≡ b
same_bytes g h (Small held) a b p q = p ∙ sym q
same_bytes g h (Large root) a b p q = p.1 ∙ sym q.1

same_version : (g : Geometry) (h : History) (v : HistoryVersion) (w x : Version) → IsVersionOf g h v w → IsVersionOf g h v x → SameVersion w x
same_version g h v w x p q = record {
  unique = sym p.unique ∙ q.unique;
  state = sym p.state ∙ q.state;
  older = sym p.older ∙ q.older;
  bytes = same_bytes g h v.content w.bytes x.bytes p.bytes q.bytes;
}

same_file : (g : Geometry) (h : History) (f : HistoryFile) (t u : TableFile) → IsFileOf g h f t → IsFileOf g h f u → SameFile t u
same_file g h f t u p q = record {
  name = sym p.name ∙ q.name;
  versions = side_by_side (IsVersionOf g h) (IsVersionOf g h) SameVersion f.versions (all_in t) (all_in u) (same_version g h) p.versions q.versions;
}

same_tables : (g : Geometry) (h : History) (t u : Table) → IsHistoryOf g h t → IsHistoryOf g h u → SameButPlaces t u
same_tables g h t u p q = record {
  next_unique = sym p.next_unique ∙ q.next_unique;
  last = sym p.last ∙ q.last;
  files = side_by_side (IsFileOf g h) (IsFileOf g h) SameFile h.files t.files u.files (same_file g h) p.files q.files;
}

pub one_table : (stream : List ℕ) (g : Geometry) (t u : Table) → IsDump stream g t → IsDump stream g u → SameButPlaces t u
one_table stream g t u p q =
    let same : q.history ≡ p.history = one_history g q.history p.history q.of.items p.of.items (sym q.spelled ∙ p.spelled) in
    same_tables g p.history t u p.of (subst (λ (h : History). IsHistoryOf g h u) same q.of)

-- ---- another volume, with areas of other sizes

-- the two are alike in what a dump tells
record AreAlike (g k : Geometry) : Type 0 where
  page_size : g.page_size ≡ k.page_size
  seg_len : g.seg_len ≡ k.seg_len
  fan : g.fan ≡ k.fan
  leaf : leaf_bytes g ≡ leaf_bytes k

alike : (g k : Geometry) → k.page_size ≡ g.page_size → k.seg_len ≡ g.seg_len → k.fan ≡ g.fan → AreAlike g k
alike g k page_size seg_len fan = record {
  page_size = sym page_size;
  seg_len = sym seg_len;
  fan = sym fan;
  leaf = ap (λ (n : ℕ). n * g.page_size) (sym seg_len) ∙ ap (λ (n : ℕ). k.seg_len * n) (sym page_size);
}

leaves_there : (g k : Geometry) (leaves : List (List ℕ)) → AreAlike g k → AllByRecursion (IsLeafItem g) leaves → AllByRecursion (IsLeafItem k) leaves
leaves_there g k leaves same are = subst (λ (n : ℕ). AllByRecursion (λ (leaf : List ℕ). (1 ≤ length leaf) × (length leaf ≤ n)) leaves) same.leaf are

nodes_there : (g k : Geometry) (leaves before : ℕ) (nodes : List Node) → AreAlike g k → AreNodeItems g leaves before nodes → AreNodeItems k leaves before nodes
nodes_there g k leaves before [] same are = tt
nodes_there g k leaves before (node ∷ nodes) same are =
    (record { is = subst (λ (fan : ℕ). IsNode fan node.level node.pairs) same.fan are.0.is; fields = are.0.fields; children = are.0.children }, nodes_there g k leaves _ nodes same are.1)

content_there : (g k : Geometry) (leaves nodes : ℕ) (content : Content) → AreAlike g k → IsContentItem g leaves nodes content → IsContentItem k leaves nodes content
content_there g k leaves nodes (Small bytes) same is = omega (arith, is, same.page_size)
content_there g k leaves nodes (Large root) same is = is

version_there : (g k : Geometry) (leaves nodes : ℕ) → AreAlike g k → (v : HistoryVersion) → IsVersionItem g leaves nodes v → IsVersionItem k leaves nodes v
version_there g k leaves nodes same v is = record { unique = is.unique; older = is.older; content = content_there g k leaves nodes v.content same is.content }

file_there : (g k : Geometry) (leaves nodes : ℕ) → AreAlike g k → (f : HistoryFile) → IsFileItem g leaves nodes f → IsFileItem k leaves nodes f
file_there g k leaves nodes same f is = record {
  name = is.name;
  few = is.few;
  versions = each_as (IsVersionItem g leaves nodes) (IsVersionItem k leaves nodes) f.versions (version_there g k leaves nodes same) is.versions;
  rising = is.rising;
}

files_fit : (g k : Geometry) → AreAlike g k → files_most g ≡ files_most k
files_fit g k same = ap (λ (n : ℕ). (n - 32) / 48) same.page_size

same_head : (g k : Geometry) (h : History) → AreAlike g k → head_of g h ≡ head_of k h
same_head g k h same = cc (same.page_size, same.seg_len, same.fan)

items_there : (g k : Geometry) (h : History) → AreAlike g k → AreItems g h → AreItems k h
items_there g k h same is = record {
  head = subst FitsHead (same_head g k h same) is.head;
  leaves = leaves_there g k h.leaves same is.leaves;
  nodes = nodes_there g k (length h.leaves) 0 h.nodes same is.nodes;
  files = each_as (IsFileItem g (length h.leaves) (length h.nodes)) (IsFileItem k (length h.leaves) (length h.nodes)) h.files (file_there g k (length h.leaves) (length h.nodes) same) is.files;
  few = omega (arith, is.few, files_fit g k same);
  names = is.names;
}

rules_there : (g k : Geometry) (t : Table) → AreAlike g k → IsTable g t → IsTable k t
rules_there g k t same is = record {
  some = is.some;
  next = is.next;
  number = is.number;
  files = omega (arith, is.files, files_fit g k same);
  names = is.names;
  sorted = is.sorted;
  ordered = is.ordered;
  trees = is.trees;
  numbers = is.numbers;
  distinct = is.distinct;
  apart = is.apart;
  sizes = is.sizes;
}

rooted_there : (g k : Geometry) (h : History) (height size : ℕ) (root : Option PageNo) → AreAlike g k → IsRooted g h height size root → IsRooted k h height size root
rooted_there g k h height size None same is = is
rooted_there g k h height size (Some number) same is =
    let shape : Shape = Some (height, shape_under h height number.0 size) in
    (is.0, subst (λ (full : ℕ). IsBalanced k.fan full shape) same.leaf (subst (λ (fan : ℕ). IsBalanced fan (leaf_bytes g) shape) same.fan is.1), is.2)

gives_there : (g k : Geometry) (h : History) (content : Content) (bytes : List ℕ) → AreAlike g k → Gives g h content bytes → Gives k h content bytes
gives_there g k h (Small held) bytes same is = is
gives_there g k h (Large root) bytes same is = (rooted_there g k h root.height root.size root.page same is.0, is.1)

zip_as : {A B : Type 0} (P Q : A → B → Type 0) (xs : List A) (ys : List B) → ((x : A) (y : B) → P x y → Q x y) → AllZip P xs ys → AllZip Q xs ys
zip_as P Q [] [] f p = tt
zip_as P Q [] (y ∷ ys) f p = absurd p
zip_as P Q (x ∷ xs) [] f p = absurd p
zip_as P Q (x ∷ xs) (y ∷ ys) f p = (f x y p.0, zip_as P Q xs ys f p.1)

version_of_there : (g k : Geometry) (h : History) → AreAlike g k → (v : HistoryVersion) (w : Version) → IsVersionOf g h v w → IsVersionOf k h v w
version_of_there g k h same v w is = record { unique = is.unique; state = is.state; older = is.older; bytes = gives_there g k h v.content w.bytes same is.bytes }

file_of_there : (g k : Geometry) (h : History) → AreAlike g k → (f : HistoryFile) (t : TableFile) → IsFileOf g h f t → IsFileOf k h f t
file_of_there g k h same f t is = record { name = is.name; versions = zip_as (IsVersionOf g h) (IsVersionOf k h) f.versions (all_in t) (version_of_there g k h same) is.versions }

history_there : (g k : Geometry) (h : History) (t : Table) → AreAlike g k → IsHistoryOf g h t → IsHistoryOf k h t
history_there g k h t same is = record {
  items = items_there g k h same is.items;
  rules = rules_there g k t same is.rules;
  next_unique = is.next_unique;
  last = is.last;
  files = zip_as (IsFileOf g h) (IsFileOf k h) h.files t.files (file_of_there g k h same) is.files;
  leaves_named = is.leaves_named;
  nodes_named = is.nodes_named;
  lengths = is.lengths;
  apart = is.apart;
  pages = is.pages ∙ ap (λ (n : ℕ). pages_needed n h) same.page_size;
}

same_stream : (g k : Geometry) (h : History) → AreAlike g k → stream_of g h ≡ stream_of k h
unfolding stream_of
same_stream g k h same = ap (λ (head : StreamHead). head_bytes head ++ (flat_map leaf_item h.leaves ++ (flat_map node_item h.nodes ++ flat_map file_item h.files))) (same_head g k h same)

pub any_areas : (stream : List ℕ) (g k : Geometry) (t : Table) → k.page_size ≡ g.page_size → k.seg_len ≡ g.seg_len → k.fan ≡ g.fan → IsDump stream g t → IsDump stream k t
any_areas stream g k t page_size seg_len fan is =
    let same = alike g k page_size seg_len fan in
    record { history = is.history; spelled = is.spelled ∙ same_stream g k is.history same; of = history_there g k is.history t same is.of }
