-- A volume has a history: what is read on its units, with numbers in the place of pages.
use Rattle.std.proofs.Common.{◌≡◌, ◌≤◌, ◌<◌, ◌+◌, ◌-◌, ◌⊎◌, inl, inr, ℕ, zero, suc, Bool, true, false, eqb, List, [], ◌∷◌, ◌++◌, length, map, take, get_or, Option, Some, None, refl, sym, subst, ap, ◌∙◌, arith}
use Rattle.std.specs.Prelude.{if◌then◌else◌, ◌==◌, slice_get}
use Rattle.std.specs.List.{flat_map, AllByRecursion, AllZip, zip}
use Rattle.std.proofs.lemmas.Bool.{eqb-true}
use Rattle.std.proofs.lemmas.List.{length-map, length-take, take-take}
use Rattle.std.proofs.lemmas.Option.{none-some, same_Some}
use Rattle.ex_base.specs.declared.geometry.Geometry.{Geometry}
use Rattle.ex_base.specs.declared.names.PageNo.{PageNo}
use Rattle.ex_base.specs.declared.names.Root.{Root}
use Rattle.ex_base.specs.Area.{NamesLeaf}
use Rattle.ex_base.specs.Even.{sum_of}
use Rattle.ex_base.specs.Ports.{times}
use Rattle.ex_base.specs.Sizes.{leaf_bytes}
use Rattle.object_files.specs.Catalog.{FileEntry}
use Rattle.object_records.specs.Record.{Content, Large, Small}
use Rattle.op_log.specs.declared.record.LogRecord.{LogRecord}
use Rattle.trees.specs.declared.Pair.{Pair}
use Rattle.trees.specs.Node.{Node, PairsOf, level_on, pairs_on}
use Rattle.trees.specs.Trees.{Units, EachChild, HasSize, IsNamed, RootNamed, RootSized, for_each_child}
use Rattle.version_lists.specs.Sorted.{in_order}
use Rattle.version_lists.proofs.Sorted.{order_has_from}
use Rattle.version_lists.proofs.Lists.{Has, contains_has, has_back, has_contains, has_either, has_flat, has_flat_from, has_front, has_map, has_map_from}
use Rattle.volume_model.specs.Parts.{HasBalance, HasPages, HoldsOf, content_parts}
use Rattle.volume_model.specs.Volume.{FileContent, Stored, Volume, is_frozen, number_at, root_in, roots_in, stored_in, unique_of}
use Rattle.volume_model.proofs.Places.{each_has}
use Rattle.history_model.specs.Dumps.{AreAsNamed, IsAsNamed, namings, namings_at, namings_by, namings_on}
use Rattle.history_model.specs.FilePages.{pages_for}
use Rattle.history_model.specs.History.{History, HistoryFile, HistoryVersion, all_versions, numbered}
use Rattle.history_volumes.specs.Histories.{IsFileOn, IsHistoryOn, IsVersionOn, content_placed, leaf_pages, leaves_named, node_pages, page_placed, root_placed, roots_in_order}
use Rattle.history_volumes.specs.Transcribed.{IsLeafAt, IsNodeAt, at_of, number_in, paired, place_of, placed}
use Rattle.history_volumes.specs.Walks.{bytes_named, leaves_left, leaves_left_at, namings_left, namings_left_at, nodes_left, nodes_left_at, of_children, root_leaves, root_namings, root_nodes, unit_named, with_firsts, with_namings}
use Rattle.history_volumes.proofs.Firsts.{firsts_from, firsts_has, firsts_once}
use Rattle.history_volumes.proofs.Namings.{Covers, most_is, most_named, roots_units, with_covers, with_from, with_units}
use Rattle.history_volumes.proofs.Numbers.{at_one, get_has, has_second, number_or, number_there, second_has}
use Rattle.history_volumes.proofs.Order.{level_is, node_is_named}
use Rattle.history_volumes.proofs.Named.{large_content}
use Rattle.history_volumes.proofs.Whole.{in_files, in_records}

-- ---- lists that are made of lists

get_map_from : {A B : Type 0} (f : A → B) (xs : List A) (i : ℕ) (y : B) → slice_get (map f xs) i ≡ Some y → (x : A) × (slice_get xs i ≡ Some x) × (f x ≡ y)
get_map_from f [] i y is = absurd (none-some y is)
get_map_from f (x ∷ xs) zero y is = (x, refl, same_Some (f x) y is)
get_map_from f (x ∷ xs) (suc i) y is = get_map_from f xs i y is

index_is : (xs : List ℕ) (i x : ℕ) → slice_get xs i ≡ Some x → get_or xs i 0 ≡ x
index_is [] i x is = absurd (none-some x is)
index_is (y ∷ xs) zero x is = same_Some y x is
index_is (y ∷ xs) (suc i) x is = index_is xs i x is

index_map : {A : Type 0} (f : A → ℕ) (xs : List A) (i : ℕ) (x : A) → slice_get xs i ≡ Some x → get_or (map f xs) i 0 ≡ f x
index_map f [] i x is = absurd (none-some x is)
index_map f (y ∷ xs) zero x is = ap f (same_Some y x is)
index_map f (y ∷ xs) (suc i) x is = index_map f xs i x is

within : {A : Type 0} (xs : List A) (i : ℕ) (x : A) → slice_get xs i ≡ Some x → i < length xs
within [] i x is = absurd (none-some x is)
within (y ∷ xs) zero x is = omega arith
within (y ∷ xs) (suc i) x is = omega (arith, within xs i x is)

zip_made : {A B : Type 0} (R : A → B → Type 0) (f : B → A) (ys : List B) → ((y : B) → Has ys y → R (f y) y) → AllZip R (map f ys) ys
zip_made R f [] all = tt
zip_made R f (y ∷ ys) all = (all y (inl refl), zip_made R f ys (λ z m. all z (inr m)))

map_same : {A : Type 0} (f : A → A) (xs : List A) → ((x : A) → Has xs x → f x ≡ x) → map f xs ≡ xs
map_same f [] all = refl
map_same {A} f (x ∷ xs) all = ap (λ (y : A). y ∷ map f xs) (all x (inl refl)) ∙ ap (λ (ys : List A). x ∷ ys) (map_same f xs (λ y m. all y (inr m)))

map_map : {A B C : Type 0} (f : B → C) (k : A → B) (xs : List A) → map f (map k xs) ≡ map (λ x. f (k x)) xs
map_map f k [] = refl
map_map {A} {B} {C} f k (x ∷ xs) = ap (λ (ys : List C). f (k x) ∷ ys) (map_map f k xs)

map_each : {A B : Type 0} (f k : A → B) (xs : List A) → ((x : A) → Has xs x → f x ≡ k x) → map f xs ≡ map k xs
map_each f k [] all = refl
map_each {A} {B} f k (x ∷ xs) all = ap (λ (y : B). y ∷ map f xs) (all x (inl refl)) ∙ ap (λ (ys : List B). k x ∷ ys) (map_each f k xs (λ y m. all y (inr m)))

as_from : (h : History) (first : ℕ) (leaves : List (List ℕ)) → ((i : ℕ) (leaf : List ℕ) → slice_get leaves i ≡ Some leaf → (number : ℕ) → number ≡ first + i → IsAsNamed h number leaf) → AreAsNamed h first leaves
as_from h first [] all = tt
as_from h first (leaf ∷ leaves) all = (
  all 0 leaf refl first (omega arith),
  as_from h (suc first) leaves (λ i x is number sum. all (suc i) x is number (omega (arith, sum))),
)

-- ---- the namings of a tree are those of its nodes

abbrev listed : ℕ → List Pair → List (ℕ × ℕ)
listed before pairs = for_each_child (λ (number n : ℕ). (number, n)) before pairs

-- a child with its bytes, and what is named there
record ChildNaming (make : ℕ → ℕ → List (ℕ × ℕ)) (before : ℕ) (pairs : List Pair) (x : ℕ × ℕ) : Type 0 where
  pair : Pair
  n : ℕ
  there : Has pairs pair
  listed_is : Has (listed before pairs) (pair.page.0, n)
  named : Has (make pair.page.0 n) x

child_naming : (make : ℕ → ℕ → List (ℕ × ℕ)) (before : ℕ) (pairs : List Pair) (x : ℕ × ℕ) → Has (of_children make before pairs) x → ChildNaming make before pairs x
child_naming make before [] x h = absurd h
child_naming make before (pair ∷ pairs) x h = elim (has_either (make pair.page.0 (pair.count - before)) (of_children make pair.count pairs) x h) [
  | inl here ↦ record { pair = pair; n = pair.count - before; there = inl refl; listed_is = inl refl; named = here }
  | inr later ↦
      let c = child_naming make pair.count pairs x later in
      record { pair = c.pair; n = c.n; there = inr c.there; listed_is = inr c.listed_is; named = c.named }
]

-- what one child names is named
naming_of : (make : ℕ → ℕ → List (ℕ × ℕ)) (before : ℕ) (pairs : List Pair) (pair : Pair) (x : ℕ × ℕ) → Has pairs pair → ((n : ℕ) → Has (make pair.page.0 n) x) → Has (of_children make before pairs) x
naming_of make before [] pair x h all = absurd h
naming_of make before (p ∷ pairs) pair x (inl e) all =
    has_front (make p.page.0 (p.count - before)) (of_children make p.count pairs) x (subst (λ (q : Pair). Has (make q.page.0 (p.count - before)) x) (sym e) (all (p.count - before)))
naming_of make before (p ∷ pairs) pair x (inr m) all = has_back (make p.page.0 (p.count - before)) (of_children make p.count pairs) x (naming_of make p.count pairs pair x m all)

-- what is listed of a node of level 1 is named
listed_named : (before : ℕ) (pairs : List Pair) (x : ℕ × ℕ) → Has (listed before pairs) x → Has (of_children (λ (page n : ℕ). (page, n) ∷ []) before pairs) x
listed_named before [] x h = absurd h
listed_named before (pair ∷ pairs) x (inl e) = inl e
listed_named before (pair ∷ pairs) x (inr m) = inr (listed_named pair.count pairs x m)

module _ (g : Geometry) (units : Units) where
  pub one_level : (l k page : ℕ) → IsNamed g units (suc l) page → IsNamed g units (suc k) page → l ≡ k
  one_level l k page one other = let a = level_is g units l page one.1 in let b = level_is g units k page other.1 in omega (arith, a, b)

  -- what climbs from a child to its node climbs from a node of a tree to the root
  climbs : (Q : ℕ → ℕ → Type 0) → ((l page : ℕ) (pair : Pair) → Has (pairs_on (units page)) pair → Q l pair.page.0 → Q (suc l) page) → (l top page k : ℕ) → Has (nodes_left units l top) page → IsNamed g units l top
      → IsNamed g units (suc k) page → Q (suc k) page → Q l top
  climbs Q step zero top page k left named own q = absurd left
  climbs Q step (suc l) top page k left named own q =
      elim (has_either (flat_map (λ (pair : Pair). nodes_left units l pair.page.0) (pairs_on (units top))) (top ∷ []) page left) [
        | inl below ↦
            let from = has_flat_from (λ (pair : Pair). nodes_left units l pair.page.0) (pairs_on (units top)) page below in
            step l top from.0 from.1 (climbs Q step l from.0.page.0 page k from.2 (each_has (λ (p : Pair). IsNamed g units l p.page.0) (pairs_on (units top)) named.2 from.0 from.1) own q)
        | inr last ↦ elim last [
          | inl e ↦
              let same : k ≡ l = sym (one_level l k page (subst (IsNamed g units (suc l)) e named) own) in
              subst (λ (p : ℕ). Q (suc l) p) (sym e) (subst (λ (m : ℕ). Q (suc m) page) same q)
          | inr none ↦ absurd none
        ]
      ]

  leaf_climbs : (u l page : ℕ) (pair : Pair) → Has (pairs_on (units page)) pair → Has (leaves_left units l pair.page.0) u → Has (leaves_left units (suc l) page) u
  leaf_climbs u l page pair m h = has_flat (λ (p : Pair). leaves_left units l p.page.0) (pairs_on (units page)) pair u m h

  node_climbs : (u l page : ℕ) (pair : Pair) → Has (pairs_on (units page)) pair → Has (nodes_left units l pair.page.0) u → Has (nodes_left units (suc l) page) u
  node_climbs u l page pair m h =
      has_front (flat_map (λ (p : Pair). nodes_left units l p.page.0) (pairs_on (units page))) (page ∷ []) u (has_flat (λ (p : Pair). nodes_left units l p.page.0) (pairs_on (units page)) pair u m h)

  abbrev NamesIt : ℕ × ℕ → ℕ → ℕ → Type 0
  NamesIt x l page = (n : ℕ) → Has (namings_left units l page n) x

  naming_climbs : (x : ℕ × ℕ) (l page : ℕ) (pair : Pair) → Has (pairs_on (units page)) pair → NamesIt x l pair.page.0 → NamesIt x (suc l) page
  naming_climbs x l page pair m h n = naming_of (namings_left units l) 0 (pairs_on (units page)) pair x m h

  -- a naming is that of a node of level 1
  record ByNode (l page : ℕ) (x : ℕ × ℕ) : Type 0 where
    node : ℕ
    left : Has (nodes_left units l page) node
    named : IsNamed g units (suc zero) node
    listed_is : Has (listed 0 (pairs_on (units node))) x

  -- or of the root itself
  record ByRoot (l page n : ℕ) (x : ℕ × ℕ) : Type 0 where
    leaf : l ≡ zero
    is : (page, n) ≡ x

  naming_from : (l page n : ℕ) (x : ℕ × ℕ) → IsNamed g units l page → Has (namings_left units l page n) x → ByRoot l page n x ⊎ ByNode l page x
  naming_from zero page n x named (inl e) = inl (record { leaf = refl; is = e })
  naming_from zero page n x named (inr none) = absurd none
  naming_from (suc l) page n x named h =
      let c = child_naming (namings_left units l) 0 (pairs_on (units page)) x h in
      elim (naming_from l c.pair.page.0 c.n x (each_has (λ (p : Pair). IsNamed g units l p.page.0) (pairs_on (units page)) named.2 c.pair c.there) c.named) [
        | inl root ↦ inr (record {
          node = page;
          left = has_back (flat_map (λ (p : Pair). nodes_left units l p.page.0) (pairs_on (units page))) (page ∷ []) page (inl refl);
          named = subst (λ (k : ℕ). IsNamed g units (suc k) page) root.leaf named;
          listed_is = subst (Has (listed 0 (pairs_on (units page)))) root.is c.listed_is;
        })
        | inr node ↦ inr (record { node = node.node; left = node_climbs node.node l page c.pair c.there node.left; named = node.named; listed_is = node.listed_is })
      ]

  -- each naming has a byte, and no more than a leaf has
  naming_sized : (l page n : ℕ) (x : ℕ × ℕ) → HasSize g units l page n → Has (namings_left units l page n) x → (1 ≤ x.1) × (x.1 ≤ leaf_bytes g)
  naming_sized zero page n x sized (inl e) = subst (λ (y : ℕ × ℕ). (1 ≤ y.1) × (y.1 ≤ leaf_bytes g)) e sized
  naming_sized zero page n x sized (inr none) = absurd none
  naming_sized (suc l) page n x sized h = below 0 (pairs_on (units page)) sized.1 h (naming_sized l)
    where
      below : (before : ℕ) (pairs : List Pair) → EachChild (HasSize g units l) before pairs → Has (of_children (namings_left units l) before pairs) x
          → ((p m : ℕ) (y : ℕ × ℕ) → HasSize g units l p m → Has (namings_left units l p m) y → (1 ≤ y.1) × (y.1 ≤ leaf_bytes g)) → (1 ≤ x.1) × (x.1 ≤ leaf_bytes g)
      below before [] each k rec = absurd k
      below before (pair ∷ pairs) each k rec = elim (has_either (namings_left units l pair.page.0 (pair.count - before)) (of_children (namings_left units l) pair.count pairs) x k) [
        | inl here ↦ rec pair.page.0 (pair.count - before) x each.0 here
        | inr later ↦ below pair.count pairs each.1 later rec
      ]

-- ---- what is made of a volume

module _ (g : Geometry) (units : Units) (v : Volume) where
  -- the leaves, or the nodes, as the level says
  abbrev list_at : ℕ → List ℕ
  list_at zero = leaf_pages units v
  list_at (suc l) = node_pages units v

  abbrev number_of : ℕ → ℕ → ℕ
  number_of l page = number_or (list_at l) page

  abbrev made_pair : ℕ → Pair → Pair
  made_pair l pair = record { count = pair.count; page = record { 0 = number_of l pair.page.0 } }

  abbrev made_pairs : ℕ → List Pair → List Pair
  made_pairs zero pairs = []
  made_pairs (suc l) pairs = map (made_pair l) pairs

  abbrev made_leaf : ℕ × ℕ → List ℕ
  made_leaf x = take x.1 (units x.0)

  abbrev made_node : ℕ → Node
  made_node page = record { level = level_on (units page); pairs = made_pairs (level_on (units page)) (pairs_on (units page)) }

  abbrev made_root : Root → Root
  made_root root = record { height = root.height; page = page_placed (number_of root.height) root.page; size = root.size }

  abbrev made_content : Content → Content
  made_content (Small held) = Small held
  made_content (Large root) = Large (made_root root)

  abbrev made_version : List Stored → Stored → HistoryVersion
  made_version stored s = record { unique = unique_of s; frozen = is_frozen s.body.head.state; older = number_at stored s.body.head.older; content = made_content s.body.content }

  abbrev made_file : FileEntry × FileContent → HistoryFile
  made_file row = record { name = row.0.name; versions = map (made_version row.1.stored) (in_order unique_of row.1.stored) }

  abbrev made_files : List HistoryFile
  made_files = map made_file (zip v.catalog.entries v.files)

  abbrev pub made : History
  made = record {
    next_unique = v.catalog.next_unique;
    last = v.catalog.last;
    pages = sum_of (pages_for g.page_size) made_files;
    leaves = map made_leaf (leaves_named units v);
    nodes = map made_node (node_pages units v);
    files = made_files;
  }

module _ (g : Geometry) (records : List LogRecord) (units : Units) (v : Volume) (parts : AllByRecursion (HoldsOf g records units v) content_parts)
    (whole : (page : ℕ) → NamesLeaf g page → leaf_bytes g ≤ length (units page)) where
  abbrev at_leaf : ℕ → ℕ
  at_leaf = at_of (leaf_pages units v)

  abbrev at_node : ℕ → ℕ
  at_node = at_of (node_pages units v)

  abbrev all_named : List (ℕ × ℕ)
  all_named = flat_map (root_namings units) (roots_in_order v)

  abbrev numbered_at : ℕ → ℕ → ℕ
  numbered_at = number_of g units v

  abbrev h : History
  h = made g units v

  -- ---- trees

  root_named : (root : Root) → Has (roots_in_order v) root → RootNamed g units root.height root.page
  root_named root m = each_has (λ (r : Root). RootNamed g units r.height r.page) (roots_in (stored_in v)) parts.1.1.1.1.0.named root (in_records v root m)

  root_sized : (root : Root) → Has (roots_in_order v) root → RootSized g units root.height root.size root.page
  root_sized root m = (each_has (HasBalance g units) (roots_in (stored_in v)) parts.1.1.1.1.1.0 root (in_records v root m)).sized

  pub units_are : map unit_named (leaves_named units v) ≡ leaf_pages units v
  units_are = with_units [] all_named ∙ ap (with_firsts []) (roots_units units (roots_in_order v))

  -- a node of the volume: it is named, and stands in the tree of a root
  record NodeOn (page : ℕ) : Type 0 where
    root : Root
    top : PageNo
    there : Has (roots_in_order v) root
    is : root.page ≡ Some top
    named : IsNamed g units root.height top.0
    left : Has (nodes_left units root.height top.0) page
    k : ℕ
    own : IsNamed g units (suc k) page

  node_on : (page : ℕ) → Has (node_pages units v) page → NodeOn page
  node_on page m =
      let from = has_flat_from (root_nodes units) (roots_in_order v) page (firsts_from (flat_map (root_nodes units) (roots_in_order v)) page m) in
      by from.0 from.1 from.0.page refl (root_named from.0 from.1) from.2
    where
      by : (root : Root) → Has (roots_in_order v) root → (p : Option PageNo) → root.page ≡ p → RootNamed g units root.height p → Has (nodes_left_at units root.height p) page → NodeOn page
      by root there None is named left = absurd left
      by root there (Some top) is named left =
          let own = node_is_named g units root.height top.0 page named left in
          record { root = root; top = top; there = there; is = is; named = named; left = left; k = own.0; own = own.1 }

  -- what is left of the tree of a root is in the volume's lists
  leaf_in : (root : Root) (top : PageNo) (u : ℕ) → Has (roots_in_order v) root → root.page ≡ Some top → Has (leaves_left units root.height top.0) u → Has (leaf_pages units v) u
  leaf_in root top u there is left =
      firsts_has (flat_map (root_leaves units) (roots_in_order v)) u
      (has_flat (root_leaves units) (roots_in_order v) root u there (subst (λ (p : Option PageNo). Has (leaves_left_at units root.height p) u) (sym is) left))

  node_in : (root : Root) (top : PageNo) (u : ℕ) → Has (roots_in_order v) root → root.page ≡ Some top → Has (nodes_left units root.height top.0) u → Has (node_pages units v) u
  node_in root top u there is left =
      firsts_has (flat_map (root_nodes units) (roots_in_order v)) u
      (has_flat (root_nodes units) (roots_in_order v) root u there (subst (λ (p : Option PageNo). Has (nodes_left_at units root.height p) u) (sym is) left))

  naming_in : (root : Root) (top : PageNo) (x : ℕ × ℕ) → Has (roots_in_order v) root → root.page ≡ Some top → Has (namings_left units root.height top.0 root.size) x → Has all_named x
  naming_in root top x there is left =
      has_flat (root_namings units) (roots_in_order v) root x there (subst (λ (p : Option PageNo). Has (namings_left_at units root.height root.size p) x) (sym is) left)

  -- the root of a tree is in the list of its level
  top_in : (height : ℕ) (root : Root) (top : PageNo) → root.height ≡ height → Has (roots_in_order v) root → root.page ≡ Some top → Has (list_at g units v height) top.0
  top_in zero root top level there is = leaf_in root top top.0 there is (subst (λ (l : ℕ). Has (leaves_left units l top.0) top.0) (sym level) (inl refl))
  top_in (suc l) root top level there is =
      node_in root top top.0 there is (subst (λ (k : ℕ). Has (nodes_left units k top.0) top.0) (sym level)
      (has_back (flat_map (λ (p : Pair). nodes_left units l p.page.0) (pairs_on (units top.0))) (top.0 ∷ []) top.0 (inl refl)))

  -- so is each child of a node
  child_in : (page : ℕ) (on : NodeOn page) (pair : Pair) → Has (pairs_on (units page)) pair → (l : ℕ) → on.k ≡ l → Has (list_at g units v l) pair.page.0
  child_in page on pair m zero level =
      let below = has_flat (λ (p : Pair). leaves_left units on.k p.page.0) (pairs_on (units page)) pair pair.page.0 m (subst (λ (k : ℕ). Has (leaves_left units k pair.page.0) pair.page.0) (sym level) (inl refl)) in
      leaf_in on.root on.top pair.page.0 on.there on.is
      (climbs g units (λ l p. Has (leaves_left units l p) pair.page.0) (leaf_climbs g units pair.page.0) on.root.height on.top.0 page on.k on.left on.named on.own below)
  child_in page on pair m (suc l) level =
      let own = subst (λ (k : ℕ). Has (nodes_left units k pair.page.0) pair.page.0) (sym level)
      (has_back (flat_map (λ (p : Pair). nodes_left units l p.page.0) (pairs_on (units pair.page.0))) (pair.page.0 ∷ []) pair.page.0 (inl refl)) in
      node_in on.root on.top pair.page.0 on.there on.is
      (climbs g units (λ k p. Has (nodes_left units k p) pair.page.0) (node_climbs g units pair.page.0) on.root.height on.top.0 page on.k on.left on.named on.own
      (node_climbs g units pair.page.0 on.k page pair m own))

  -- the place of a number
  at_number : (l page : ℕ) → Has (list_at g units v l) page → place_of at_leaf at_node l (numbered_at l page) ≡ page
  at_number zero page m = (number_there (leaf_pages units v) page m).at
  at_number (suc l) page m = (number_there (node_pages units v) page m).at

  -- ---- leaves

  sized_root : (height size : ℕ) (page : Option PageNo) (x : ℕ × ℕ) → RootSized g units height size page → Has (namings_left_at units height size page) x → (1 ≤ x.1) × (x.1 ≤ leaf_bytes g)
  sized_root height size None x sized left = absurd left
  sized_root height size (Some top) x sized left = naming_sized g units height top.0 size x sized left

  named_sized : (x : ℕ × ℕ) → Has all_named x → (1 ≤ x.1) × (x.1 ≤ leaf_bytes g)
  named_sized x m =
      let from = has_flat_from (root_namings units) (roots_in_order v) x m in
      sized_root from.0.height from.0.size from.0.page x (root_sized from.0 from.1) from.2

  planned_named : (x : ℕ × ℕ) → Has (leaves_named units v) x → Has all_named x
  planned_named x m = elim (with_from [] all_named x m) [ inl none ↦ absurd none | inr there ↦ there ]

  -- the unit of a leaf that is named
  leaf_area : (x : ℕ × ℕ) → Has all_named x → NamesLeaf g x.0
  leaf_area x m =
      let from = has_flat_from (root_namings units) (roots_in_order v) x m in
      by from.0.height from.0.size from.0.page (root_named from.0 from.1) from.2
    where
      tree : (l page n : ℕ) → IsNamed g units l page → Has (namings_left units l page n) x → NamesLeaf g x.0
      tree zero page n named (inl e) = subst (λ (y : ℕ × ℕ). NamesLeaf g y.0) e named
      tree zero page n named (inr none) = absurd none
      tree (suc l) page n named left =
          let c = child_naming (namings_left units l) 0 (pairs_on (units page)) x left in
          tree l c.pair.page.0 c.n (each_has (λ (p : Pair). IsNamed g units l p.page.0) (pairs_on (units page)) named.2 c.pair c.there) c.named

      by : (height size : ℕ) (page : Option PageNo) → RootNamed g units height page → Has (namings_left_at units height size page) x → NamesLeaf g x.0
      by height size None named left = absurd left
      by height size (Some top) named left = tree height top.0 size named left

  leaf_long : (x : ℕ × ℕ) → Has (leaves_named units v) x → length (take x.1 (units x.0)) ≡ x.1
  leaf_long x m =
      let there = planned_named x m in
      let sized = named_sized x there in
      let room = whole x.0 (leaf_area x there) in
      omega (arith, length-take x.1 (units x.0), sized.1, room)

  -- the leaf at an index
  record LeafOn (i : ℕ) (bytes : List ℕ) : Type 0 where
    x : ℕ × ℕ
    there : Has (leaves_named units v) x
    is : take x.1 (units x.0) ≡ bytes
    long : length bytes ≡ x.1
    at : at_leaf (suc i) ≡ x.0
    within : suc i ≤ length (leaf_pages units v)

  leaf_on : (i : ℕ) (bytes : List ℕ) → slice_get h.leaves i ≡ Some bytes → LeafOn i bytes
  leaf_on i bytes is =
      let from = get_map_from (made_leaf g units v) (leaves_named units v) i bytes is in
      let there = get_has (leaves_named units v) i from.0 from.1 in
      record {
        x = from.0;
        there = there;
        is = from.2;
        long = ap length (sym from.2) ∙ leaf_long from.0 there;
        at = ap (λ (pages : List ℕ). get_or pages i 0) (sym units_are) ∙ index_map unit_named (leaves_named units v) i from.0 from.1;
        within = let lt = within (leaves_named units v) i from.0 from.1 in omega (arith, lt, length-map (leaves_named units v) unit_named, ap length units_are);
      }

  leaf_stands : (i : ℕ) (bytes : List ℕ) → numbered h.leaves i ≡ Some bytes → IsLeafAt g units (at_leaf i) bytes
  leaf_stands zero bytes is = absurd (none-some bytes is)
  leaf_stands (suc i) bytes is =
      let on = leaf_on i bytes is in
      let there = planned_named on.x on.there in
      let sized = named_sized on.x there in
      record {
        area = subst (NamesLeaf g) (sym on.at) (leaf_area on.x there);
        short = omega (arith, on.long, sized.1);
        front = ap (λ (n : ℕ). take n (units (at_leaf (suc i)))) on.long ∙ ap (λ (p : ℕ). take on.x.1 (units p)) on.at ∙ on.is;
      }

  -- ---- nodes

  pairs_back : (page : ℕ) (on : NodeOn page) → paired at_leaf at_node (level_on (units page)) (made_pairs g units v (level_on (units page)) (pairs_on (units page))) ≡ pairs_on (units page)
  pairs_back page on =
      ap (λ (l : ℕ). paired at_leaf at_node l (made_pairs g units v l (pairs_on (units page)))) (level_is g units on.k page on.own.1)
      ∙ map_map (placed (place_of at_leaf at_node on.k)) (made_pair g units v on.k) (pairs_on (units page))
      ∙ map_same (λ (pair : Pair). placed (place_of at_leaf at_node on.k) (made_pair g units v on.k pair)) (pairs_on (units page))
      (λ pair m. ap (λ (p : ℕ). record { count = pair.count; page = record { 0 = p } }) (at_number on.k pair.page.0 (child_in page on pair m on.k refl)))

  node_stands : (i : ℕ) (n : Node) → numbered h.nodes i ≡ Some n → IsNodeAt g units at_leaf at_node (at_node i) n
  node_stands zero n is = absurd (none-some n is)
  node_stands (suc i) n is =
      let from = get_map_from (made_node g units v) (node_pages units v) i n is in
      let on = node_on from.0 (get_has (node_pages units v) i from.0 from.1) in
      let at : at_node (suc i) ≡ from.0 = index_is (node_pages units v) i from.0 from.1 in
      let spelled = subst (λ (l : ℕ). PairsOf g.fan (units from.0) l (pairs_on (units from.0))) (sym (level_is g units on.k from.0 on.own.1)) on.own.1 in
      let placed_back = subst (PairsOf g.fan (units from.0) (level_on (units from.0))) (sym (pairs_back from.0 on)) spelled in
      subst (λ (p : ℕ). IsNodeAt g units at_leaf at_node p n) (sym at) (subst (IsNodeAt g units at_leaf at_node from.0) from.2 (record { area = on.own.0; pairs = placed_back }))

  -- ---- records

  page_back : (root : Root) → Has (roots_in_order v) root → (page : Option PageNo) → root.page ≡ page → page_placed (place_of at_leaf at_node root.height) (page_placed (numbered_at root.height) page) ≡ page
  page_back root there None is = refl
  page_back root there (Some top) is = ap (λ (p : ℕ). Some (record { 0 = p })) (at_number root.height top.0 (top_in root.height root top refl there is))

  content_back : (s : Stored) → Has (stored_in v) s → (content : Content) → s.body.content ≡ content → content ≡ content_placed at_leaf at_node (made_content g units v content)
  content_back s m (Small held) is = refl
  content_back s m (Large root) is =
      let there = in_files v root (has_flat (λ (x : Stored). root_in x.body.content) (stored_in v) s root m (subst (λ (rs : List Root). Has rs root) (sym (ap root_in is)) (inl refl))) in
      ap (λ (p : Option PageNo). Large (record { height = root.height; page = p; size = root.size })) (sym (page_back root there root.page refl))

  file_stands : (row : FileEntry × FileContent) → Has (zip v.catalog.entries v.files) row → IsFileOn at_leaf at_node (made_file g units v row) row
  file_stands row m =
      let there = second_has v.catalog.entries v.files row m in
      record {
        name = refl;
        versions = zip_made (IsVersionOn at_leaf at_node row.1.stored) (made_version g units v row.1.stored) (in_order unique_of row.1.stored) (λ s n. record {
          unique = refl;
          state = refl;
          older = refl;
          content = content_back s (has_flat (λ (x : FileContent). x.stored) v.files row.1 s there (order_has_from unique_of row.1.stored s n)) s.body.content refl;
        });
      }

  -- ---- lengths

  level_one : (page k : ℕ) → IsNamed g units (suc k) page → level_on (units page) ≡ 1 → k ≡ zero
  level_one page k named level = omega (arith, level, level_is g units k page named.1)

  made_listed : (l before : ℕ) (pairs : List Pair) (x : ℕ × ℕ) → Has (listed before pairs) x → Has (listed before (map (made_pair g units v l) pairs)) (numbered_at l x.0, x.1)
  made_listed l before [] x m = absurd m
  made_listed l before (pair ∷ pairs) x (inl e) = inl (ap (λ (y : ℕ × ℕ). (numbered_at l y.0, y.1)) e)
  made_listed l before (pair ∷ pairs) x (inr m) = inr (made_listed l pair.count pairs x m)

  -- where a number is listed
  record ListedThere (l before : ℕ) (pairs : List Pair) (number n : ℕ) : Type 0 where
    pair : Pair
    there : Has pairs pair
    listed_is : Has (listed before pairs) (pair.page.0, n)
    number_is : numbered_at l pair.page.0 ≡ number

  listed_made : (l before : ℕ) (pairs : List Pair) (number n : ℕ) → Has (listed before (map (made_pair g units v l) pairs)) (number, n) → ListedThere l before pairs number n
  listed_made l before [] number n m = absurd m
  listed_made l before (pair ∷ pairs) number n (inl e) = record {
    pair = pair;
    there = inl refl;
    listed_is = inl (ap (λ (y : ℕ × ℕ). (pair.page.0, y.1)) e);
    number_is = ap (λ (y : ℕ × ℕ). y.0) e;
  }
  listed_made l before (pair ∷ pairs) number n (inr m) =
      let rest = listed_made l pair.count pairs number n m in
      record { pair = rest.pair; there = inr rest.there; listed_is = inr rest.listed_is; number_is = rest.number_is }

  -- a version of a root
  version_of_root : (root : Root) → Has (roots_in_order v) root → (w : HistoryVersion) × Has (all_versions h) w × (w.content ≡ Large (made_root g units v root))
  version_of_root root m =
      let f = has_flat_from (λ (x : FileContent). roots_in (in_order unique_of x.stored)) v.files root m in
      let s = has_flat_from (λ (x : Stored). root_in x.body.content) (in_order unique_of f.0.stored) root f.2 in
      let row = has_second (HasPages units) v.catalog.entries v.files parts.1.1.0 f.0 f.1 in
      let w = made_version g units v f.0.stored s.0 in (
        w,
        has_flat (λ (x : HistoryFile). x.versions) made_files_here (made_file g units v (row.0, f.0)) w (has_map (made_file g units v) (zip v.catalog.entries v.files) (row.0, f.0) row.1)
            (has_map (made_version g units v f.0.stored) (in_order unique_of f.0.stored) s.0 s.1),
        ap (made_content g units v) (large_content s.0.body.content root s.2),
      )
    where
      made_files_here : List HistoryFile
      made_files_here = made_files g units v

  -- each naming on the volume is one of the history
  naming_to : (x : ℕ × ℕ) → Has all_named x → Has (namings h) (numbered_at zero x.0, x.1)
  naming_to x m =
      let from = has_flat_from (root_namings units) (roots_in_order v) x m in
      by from.0 from.1 from.0.page refl (root_named from.0 from.1) from.2
    where
      own : (root : Root) (top : PageNo) → Has (roots_in_order v) root → root.page ≡ Some top → ByRoot g units root.height top.0 root.size x → Has (namings h) (numbered_at zero x.0, x.1)
      own root top there is of =
          let w = version_of_root root there in
          let named : namings_by w.0.content ≡ (numbered_at zero x.0, x.1) ∷ [] =
          ap namings_by w.2 ∙ ap (λ (p : Option PageNo). namings_at root.height root.size (page_placed (numbered_at root.height) p)) is
          ∙ ap (λ (l : ℕ). namings_at l root.size (Some (record { 0 = numbered_at l top.0 }))) of.leaf ∙ ap (λ (y : ℕ × ℕ). (numbered_at zero y.0, y.1) ∷ []) of.is in
          has_back (flat_map namings_on h.nodes) (flat_map (λ (y : HistoryVersion). namings_by y.content) (all_versions h)) (numbered_at zero x.0, x.1)
          (has_flat (λ (y : HistoryVersion). namings_by y.content) (all_versions h) w.0 (numbered_at zero x.0, x.1) w.1 (subst (λ (xs : List (ℕ × ℕ)). Has xs (numbered_at zero x.0, x.1)) (sym named) (inl refl)))

      inner : (root : Root) (top : PageNo) → Has (roots_in_order v) root → root.page ≡ Some top → ByNode g units root.height top.0 x → Has (namings h) (numbered_at zero x.0, x.1)
      inner root top there is of =
          let level = level_is g units zero of.node of.named.1 in
          let named : namings_on (made_node g units v of.node) ≡ listed 0 (map (made_pair g units v zero) (pairs_on (units of.node))) =
          ap (λ (l : ℕ). namings_on (record { level = l; pairs = made_pairs g units v l (pairs_on (units of.node)) })) level in
          has_front (flat_map namings_on h.nodes) (flat_map (λ (y : HistoryVersion). namings_by y.content) (all_versions h)) (numbered_at zero x.0, x.1)
          (has_flat namings_on h.nodes (made_node g units v of.node) (numbered_at zero x.0, x.1) (has_map (made_node g units v) (node_pages units v) of.node (node_in root top of.node there is of.left))
          (subst (λ (xs : List (ℕ × ℕ)). Has xs (numbered_at zero x.0, x.1)) (sym named) (made_listed zero 0 (pairs_on (units of.node)) x of.listed_is)))

      by : (root : Root) → Has (roots_in_order v) root → (p : Option PageNo) → root.page ≡ p → RootNamed g units root.height p → Has (namings_left_at units root.height root.size p) x → Has (namings h) (numbered_at zero x.0, x.1)
      by root there None is named left = absurd left
      by root there (Some top) is named left = elim (naming_from g units root.height top.0 root.size x named left) [
        | inl of ↦ own root top there is of
        | inr of ↦ inner root top there is of
      ]

  -- where a naming of the history is on the volume
  record NamedThere (number n : ℕ) : Type 0 where
    unit : ℕ
    there : Has all_named (unit, n)
    listed_in : Has (leaf_pages units v) unit
    number_is : numbered_at zero unit ≡ number

  in_pages : (x : ℕ × ℕ) → Has all_named x → Has (leaf_pages units v) x.0
  in_pages x m =
      let c = with_covers [] all_named x.0 x.1 m in
      subst (λ (pages : List ℕ). Has pages x.0) units_are c.there

  naming_back : (number n : ℕ) → Has (namings h) (number, n) → NamedThere number n
  naming_back number n m = elim (has_either (flat_map namings_on h.nodes) (flat_map (λ (w : HistoryVersion). namings_by w.content) (all_versions h)) (number, n) m) [
    | inl nodes ↦
        let from = has_flat_from namings_on h.nodes (number, n) nodes in
        let page = has_map_from (made_node g units v) (node_pages units v) from.0 from.1 in
        of_node page.0 page.1 (subst (λ (node : Node). Has (namings_on node) (number, n)) (sym page.2) from.2)
    | inr versions ↦
        let from = has_flat_from (λ (w : HistoryVersion). namings_by w.content) (all_versions h) (number, n) versions in
        let file = has_flat_from (λ (f : HistoryFile). f.versions) h.files from.0 from.1 in
        let row = has_map_from (made_file g units v) (zip v.catalog.entries v.files) file.0 file.1 in
        let s = has_map_from (made_version g units v row.0.1.stored) (in_order unique_of row.0.1.stored) from.0 (subst (λ (f : HistoryFile). Has f.versions from.0) (sym row.2) file.2) in
        of_content row.0.1 (second_has v.catalog.entries v.files row.0 row.1) s.0 s.1 s.0.body.content refl (subst (λ (w : HistoryVersion). Has (namings_by w.content) (number, n)) (sym s.2) from.2)
  ]
    where
      by_pair : (page : ℕ) (on : NodeOn page) → on.k ≡ zero → ListedThere zero 0 (pairs_on (units page)) number n → NamedThere number n
      by_pair page on level of =
          let below : NamesIt g units (of.pair.page.0, n) (suc on.k) page = subst (λ (k : ℕ). NamesIt g units (of.pair.page.0, n) (suc k) page) (sym level) (λ m. listed_named 0 (pairs_on (units page)) (of.pair.page.0, n) of.listed_is) in
          let top = climbs g units (NamesIt g units (of.pair.page.0, n)) (naming_climbs g units (of.pair.page.0, n)) on.root.height on.top.0 page on.k on.left on.named on.own below in
          let there = naming_in on.root on.top (of.pair.page.0, n) on.there on.is (top on.root.size) in
          record { unit = of.pair.page.0; there = there; listed_in = in_pages (of.pair.page.0, n) there; number_is = of.number_is }

      of_level : (page : ℕ) (on : NodeOn page) (k : ℕ) → on.k ≡ k → Has (namings_on (record { level = suc k; pairs = made_pairs g units v (suc k) (pairs_on (units page)) })) (number, n) → NamedThere number n
      of_level page on zero level m = by_pair page on level (listed_made zero 0 (pairs_on (units page)) number n m)
      of_level page on (suc k) level m = not_one (suc (suc k) == 1) refl m
        where
          not_one : (b : Bool) → eqb (suc (suc k)) 1 ≡ b → Has {A = ℕ × ℕ} (if b then listed 0 (map (made_pair g units v (suc k)) (pairs_on (units page))) else []) (number, n) → NamedThere number n
          not_one true is h = absurd (let e = eqb-true (suc (suc k)) 1 is in omega (arith, e))
          not_one false is h = absurd h

      of_node : (page : ℕ) → Has (node_pages units v) page → Has (namings_on (made_node g units v page)) (number, n) → NamedThere number n
      of_node page there m =
          let on = node_on page there in
          of_level page on on.k refl
          (subst (λ (l : ℕ). Has (namings_on (record { level = l; pairs = made_pairs g units v l (pairs_on (units page)) })) (number, n)) (level_is g units on.k page on.own.1) m)

      of_root : (height : ℕ) (root : Root) (page : Option PageNo) → root.height ≡ height → root.page ≡ page → Has (roots_in_order v) root → Has (namings_at height root.size (page_placed (numbered_at height) page)) (number, n) → NamedThere number n
      of_root zero root (Some top) level is there (inl e) =
          let named = naming_in root top (top.0, root.size) there is (subst (λ (l : ℕ). Has (namings_left units l top.0 root.size) (top.0, root.size)) (sym level) (inl refl)) in
          let named_n = subst (λ (m : ℕ). Has all_named (top.0, m)) (ap (λ (y : ℕ × ℕ). y.1) e) named in
          record { unit = top.0; there = named_n; listed_in = in_pages (top.0, n) named_n; number_is = ap (λ (y : ℕ × ℕ). y.0) e }
      of_root zero root (Some top) level is there (inr none) = absurd none
      of_root zero root None level is there m = absurd m
      of_root (suc l) root None level is there m = absurd m
      of_root (suc l) root (Some top) level is there m = absurd m

      of_content : (f : FileContent) → Has v.files f → (s : Stored) → Has (in_order unique_of f.stored) s → (content : Content) → s.body.content ≡ content → Has (namings_by (made_content g units v content)) (number, n) → NamedThere number n
      of_content f file s stored (Small held) is m = absurd m
      of_content f file s stored (Large root) is m =
          let there = has_flat (λ (x : FileContent). roots_in (in_order unique_of x.stored)) v.files f root file
          (has_flat (λ (x : Stored). root_in x.body.content) (in_order unique_of f.stored) s root stored (subst (λ (rs : List Root). Has rs root) (sym (ap root_in is)) (inl refl))) in
          of_root root.height root root.page refl refl there m

  once : (u : ℕ) → times u (leaf_pages units v) ≤ 1
  once u = firsts_once (flat_map (root_leaves units) (roots_in_order v)) u

  leaf_as_named : (i : ℕ) (bytes : List ℕ) → slice_get h.leaves i ≡ Some bytes → (number : ℕ) → number ≡ 1 + i → IsAsNamed h number bytes
  leaf_as_named i bytes is number sum =
      let on = leaf_on i bytes is in
      let named = planned_named on.x on.there in
      let inside = in_pages on.x named in
      let count = number_there (leaf_pages units v) on.x.0 inside in
      let area = leaf_area on.x named in
      let at : at_leaf number ≡ on.x.0 = ap at_leaf (let e : number ≡ suc i = omega (arith, sum) in e) ∙ on.at in
      let some : 1 ≤ on.x.0 = omega (arith, area.2) in
      let one : numbered_at zero on.x.0 ≡ number = at_one (leaf_pages units v) once (numbered_at zero on.x.0) number (omega (arith, some, count.at)) (omega (arith, some, at)) (count.at ∙ sym at) in
      record {
        there = has_contains (namings h) (number, length bytes)
            (subst (λ (k : ℕ). Has (namings h) (k, length bytes)) one (subst (λ (m : ℕ). Has (namings h) (numbered_at zero on.x.0, m)) (sym on.long) (naming_to on.x named)));
        most = λ n has.
            let back = naming_back number n (contains_has (namings h) (number, n) has) in
            let back_at = (number_there (leaf_pages units v) back.unit back.listed_in).at in
            let same : back.unit ≡ on.x.0 = sym back_at ∙ ap at_leaf back.number_is ∙ at in
            let covers = with_covers [] all_named on.x.0 n (subst (λ (u : ℕ). Has all_named (u, n)) same back.there) in
            let is_most = most_is (leaves_named units v) (λ u. subst (λ (pages : List ℕ). times u pages ≤ 1) (sym units_are) (once u)) on.x on.there in
            omega (arith, covers.enough, is_most, on.long);
      }

  -- ---- the history

  made_on : IsHistoryOn g units v h
  made_on = record {
    leaves = omega (arith, length-map (leaves_named units v) (made_leaf g units v), length-map (leaves_named units v) unit_named, ap length units_are);
    nodes = length-map (node_pages units v) (made_node g units v);
    transcribed = record { leaves = leaf_stands; nodes = node_stands };
    lengths = as_from h 1 h.leaves leaf_as_named;
    files = zip_made (IsFileOn at_leaf at_node) (made_file g units v) (zip v.catalog.entries v.files) file_stands;
    next_unique = refl;
    last = refl;
    pages = refl;
  }

  lengths_are : map length h.leaves ≡ map bytes_named (leaves_named units v)
  lengths_are = map_map length (made_leaf g units v) (leaves_named units v) ∙ map_each (λ (x : ℕ × ℕ). length (made_leaf g units v x)) bytes_named (leaves_named units v) leaf_long

  pub has_history : (history : History) × IsHistoryOn g units v history × (map length history.leaves ≡ map bytes_named (leaves_named units v))
  has_history = (h, made_on, lengths_are)
