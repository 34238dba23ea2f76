-- How long items are, and that a dump is no longer than its head tells.
use Rattle.std.proofs.Common.{◌≡◌, ℕ, suc, ◌+◌, ◌-◌, ◌*◌, ◌≤◌, Bool, true, false, List, [], ◌∷◌, ◌++◌, length, map, nat_le, refl, ap, arith}
use Rattle.std.specs.Prelude.{IsTrue, if◌then◌else◌}
use Rattle.std.specs.List.{flat_map, AllByRecursion}
use Rattle.std.proofs.Math.Nat.{mul-le-mul_left}
use Rattle.std.proofs.lemmas.Bool.Decides.{nat_tests}
use Rattle.std.proofs.lemmas.List.{length-append}
use Rattle.ex_base.specs.declared.geometry.Geometry.{Geometry}
use Rattle.ex_base.specs.Even.{sum_of}
use Rattle.ex_base.specs.Fields.{two_bytes, four_bytes, eight_bytes, page_field}
use Rattle.ex_base.specs.Sizes.{leaf_bytes, least_page}
use Rattle.ex_base.proofs.FieldLaws.{two_is, four_is, eight_is}
use Rattle.ex_base.proofs.Reading.{length-page_field}
use Rattle.object_records.specs.Record.{Content, Small, Large}
use Rattle.table_model.specs.declared.table.Table.{Table}
use Rattle.table_model.specs.Words.{is_name}
use Rattle.trees.specs.declared.width.Width.TheVariants.{Wide}
use Rattle.trees.specs.Node.{Node, pair_bytes}
use Rattle.trees.proofs.PairLaws.{length-pairs}
use Rattle.history_model.specs.History.{History, HistoryFile, HistoryVersion}
use Rattle.history_model.specs.Items.{IsContentItem, IsFileItem, IsLeafItem, IsVersionItem}
use Rattle.history_model.specs.Stream.{StreamHead, bytes_most, content_item, file_head, file_item, head_bytes, head_of, leaf_item, node_item, number_or_none, state_code, stream_of, version_item}
use Rattle.history_model.specs.FilePages.{file_pages_of, pages_filled, pages_for, record_size}
use Rattle.history_model.specs.Dumps.{IsHistoryOf}
use Rattle.history_model.proofs.ItemReadings.{FitsNode, nodes_fit, pairs_few}

-- ---- the head

pub length-head : (h : StreamHead) → length (head_bytes h) ≡ 52
unfolding head_bytes
length-head h = simp length-append (omega (arith, four_is.len h.page_size, four_is.len h.seg_len, four_is.len h.fan, eight_is.len h.next_unique, eight_is.len h.last, four_is.len h.files, four_is.len h.leaves, four_is.len h.nodes, four_is.len h.pages))

-- ---- items of at most so many bytes

all_within : {A : Type 0} (P : A → Type 0) (spell : A → List ℕ) (most : ℕ) (xs : List A) → ((x : A) → P x → length (spell x) ≤ most) → AllByRecursion P xs → length (flat_map spell xs) ≤ most * length xs
all_within P spell most [] each p = omega arith
all_within P spell most (x ∷ xs) each p = omega (arith, length-append (spell x) (flat_map spell xs), each x p.0, all_within P spell most xs each p.1)

leaf_within : (g : Geometry) (leaf : List ℕ) → IsLeafItem g leaf → length (leaf_item leaf) ≤ 4 + leaf_bytes g
leaf_within g leaf is = omega (arith, length-append (four_bytes (length leaf)) leaf, four_is.len (length leaf), is.1)

pub length-node : (node : Node) → length (node_item node) ≡ 3 + 12 * length node.pairs
length-node node = omega (arith, length-append (two_bytes (length node.pairs)) (flat_map (pair_bytes Wide) node.pairs), two_is.len (length node.pairs), length-pairs Wide node.pairs)

node_within : (g : Geometry) (node : Node) → FitsNode g node → length (node_item node) ≤ g.page_size
node_within g node fits = omega (arith, length-node node, pairs_few g node.pairs fits.is.few)

-- ---- a version's item is no longer than its record

content_within : (content : Content) → length (content_item content) + 18 ≤ record_size content
content_within (Small bytes) = omega (arith, length-append (two_bytes (length bytes)) bytes, two_is.len (length bytes))
content_within (Large root) = omega (arith, length-append (eight_bytes root.size) ((root.height ∷ []) ++ page_field root.page), eight_is.len root.size, length-page_field root.page)

version_within : (v : HistoryVersion) → length (version_item v) ≤ record_size v.content
version_within v = omega (arith, length-append (eight_bytes v.unique) ((state_code v.frozen ∷ []) ++ (eight_bytes (number_or_none v.older) ++ content_item v.content)), length-append (eight_bytes (number_or_none v.older)) (content_item v.content), eight_is.len v.unique, eight_is.len (number_or_none v.older), content_within v.content)

-- ---- records that each fit a page fill pages of this size

abbrev FitsPage : ℕ → ℕ → Type 0
FitsPage page_size n = n + 20 ≤ page_size

one_filled : (page_size room n rest more again : ℕ) (fits : Bool) → nat_le (n + 4) room ≡ fits → n + 20 ≤ page_size → rest ≤ (room - (n + 4)) + page_size * more → rest ≤ (page_size - 16 - (n + 4)) + page_size * again → n + rest ≤ room + page_size * (if fits then more else suc again)
one_filled page_size room n rest more again true is small here there = grind (arith, nat_tests)
one_filled page_size room n rest more again false is small here there = omega (arith, small, there)

filled : (page_size room : ℕ) (ns : List ℕ) → AllByRecursion (FitsPage page_size) ns → sum_of (λ (n : ℕ). n) ns ≤ room + page_size * pages_filled page_size room ns
filled page_size room [] fit = omega arith
filled page_size room (n ∷ ns) fit =
    one_filled page_size room n (sum_of (λ (m : ℕ). m) ns) (pages_filled page_size (room - (n + 4)) ns) (pages_filled page_size (page_size - 16 - (n + 4)) ns) (nat_le (n + 4) room) refl fit.0
    (filled page_size (room - (n + 4)) ns fit.1) (filled page_size (page_size - 16 - (n + 4)) ns fit.1)

content_fits : (g : Geometry) (leaves nodes : ℕ) (content : Content) → IsContentItem g leaves nodes content → FitsPage g.page_size (record_size content)
content_fits g leaves nodes (Small bytes) is = omega (arith, is, least_page g)
content_fits g leaves nodes (Large root) is = omega (arith, least_page g)

abbrev size_in : HistoryVersion → ℕ
size_in v = record_size v.content

versions_within : (g : Geometry) (leaves nodes : ℕ) (vs : List HistoryVersion) → AllByRecursion (IsVersionItem g leaves nodes) vs → (length (flat_map version_item vs) ≤ sum_of (λ (n : ℕ). n) (map size_in vs)) × AllByRecursion (FitsPage g.page_size) (map size_in vs)
versions_within g leaves nodes [] are = (omega arith, tt)
versions_within g leaves nodes (v ∷ vs) are =
    let rest = versions_within g leaves nodes vs are.1 in
    (omega (arith, length-append (version_item v) (flat_map version_item vs), version_within v, rest.0), (content_fits g leaves nodes v.content are.0.content, rest.1))

-- ---- files

name_few : (name : List ℕ) → IsTrue (is_name name) → length name ≤ 32
name_few name is = grind (arith, nat_tests)

length-file : (f : HistoryFile) → length (file_item f) ≡ 5 + length f.name + length (flat_map version_item f.versions)
length-file f = omega (arith, length-append (file_head f) (flat_map version_item f.versions), length-append f.name (four_bytes (length f.versions)), four_is.len (length f.versions))

file_within : (g : Geometry) (leaves nodes : ℕ) (f : HistoryFile) → IsFileItem g leaves nodes f → length (file_item f) ≤ g.page_size * pages_for g.page_size f
file_within g leaves nodes f is =
    let all = versions_within g leaves nodes f.versions is.versions in
    let pages = filled g.page_size 0 (map size_in f.versions) all.1 in
    let more : g.page_size * (file_pages_of g.page_size f + 1) ≤ g.page_size * pages_for g.page_size f = mul-le-mul_left g.page_size (omega arith) in
    omega (arith, length-file f, name_few f.name is.name, all.0, pages, more, least_page g)

files_within : (g : Geometry) (leaves nodes : ℕ) (files : List HistoryFile) → AllByRecursion (IsFileItem g leaves nodes) files → length (flat_map file_item files) ≤ g.page_size * sum_of (pages_for g.page_size) files
files_within g leaves nodes [] are = omega arith
files_within g leaves nodes (f ∷ files) are = omega (arith, length-append (file_item f) (flat_map file_item files), file_within g leaves nodes f are.0, files_within g leaves nodes files are.1)

-- ---- the whole stream

pub is_short : (g : Geometry) (h : History) (t : Table) → IsHistoryOf g h t → length (stream_of g h) ≤ bytes_most g.page_size (leaf_bytes g) (head_of g h)
unfolding stream_of
is_short g h t is =
    let leaves = all_within (IsLeafItem g) leaf_item (4 + leaf_bytes g) h.leaves (leaf_within g) is.items.leaves in
    let nodes = all_within (FitsNode g) node_item g.page_size h.nodes (node_within g) (nodes_fit g _ _ h.nodes is.items.nodes) in
    let files = files_within g (length h.leaves) (length h.nodes) h.files is.items.files in
    let pages : g.page_size * h.pages ≡ g.page_size * sum_of (pages_for g.page_size) h.files = ap (λ (n : ℕ). g.page_size * n) is.pages in
    omega (arith, length-append (head_bytes (head_of g h)) (flat_map leaf_item h.leaves ++ (flat_map node_item h.nodes ++ flat_map file_item h.files)), length-append (flat_map leaf_item h.leaves) (flat_map node_item h.nodes ++ flat_map file_item h.files), length-append (flat_map node_item h.nodes) (flat_map file_item h.files), length-head (head_of g h), leaves, nodes, files, pages)
