-- What a volume shows by the plan of its history are the items of the history's stream.
use Rattle.std.proofs.Common.{◌≡◌, ◌≤◌, ◌+◌, ◌-◌, ℕ, zero, suc, List, [], ◌∷◌, ◌++◌, length, map, take, Option, Some, None, refl, sym, subst, ap, ◌∙◌, arith, inl, inr, false}
use Rattle.std.specs.Prelude.{slice_get, nat_lt, IfSome, Contains}
use Rattle.std.specs.List.{flat_map, AllByRecursion, AllZip}
use Rattle.std.specs.Option.{option_map}
use Rattle.std.proofs.lemmas.Bool.{cond-false, false_from_ne_true, le-ltb}
use Rattle.std.proofs.lemmas.List.{length-append, length-map}
use Rattle.std.proofs.lemmas.Option.{get_or_from_slice_get, none-some, same_Some}
use Rattle.ex_base.specs.declared.ground.Ground as ground
use Rattle.ex_base.specs.declared.geometry.Geometry.{Geometry}
use Rattle.ex_base.specs.declared.names.PageNo.{PageNo}
use Rattle.ex_base.specs.declared.names.Place.{Place}
use Rattle.ex_base.specs.declared.names.Root.{Root}
use Rattle.ex_base.specs.Area.{InPageArea, NamesLeaf, area_end, catalog_no}
use Rattle.ex_base.specs.Ports.{times}
use Rattle.ex_base.proofs.Each.{each_as}
use Rattle.file_bodies.specs.Bodies.{Row, bodies_of}
use Rattle.file_bodies.specs.Files.{HasBody}
use Rattle.object_files.specs.Catalog.{CatalogOf, FileEntry}
use Rattle.object_records.specs.Record.{Content, Large, Small}
use Rattle.object_records.specs.Reads.{record_on}
use Rattle.op_log.specs.declared.record.LogRecord.{LogRecord}
use Rattle.trees.specs.declared.Pair.{Pair}
use Rattle.trees.specs.Node.{Node, PairsOf}
use Rattle.trees.specs.Trees.{RootNamed, Units, root_units}
use Rattle.version_lists.specs.Sorted.{in_order}
use Rattle.version_lists.proofs.Lists.{Has, contains_has, has_contains, has_flat, has_flat_from, has_map}
use Rattle.version_lists.proofs.Sorted.{order_has_from}
use Rattle.versions.specs.Listed.{AreReadable}
use Rattle.versions.proofs.FileRows.{row_stands}
use Rattle.volume_model.specs.OwnersMoved.{volume_roots_most}
use Rattle.volume_model.specs.Links.{Apart, IsLinked, IsOlder}
use Rattle.volume_model.specs.Parts.{HasBodies}
use Rattle.volume_model.specs.Volume.{FileContent, Stored, Volume, file_pages, number_at, number_if, root_in, roots_in, stands_at, stored_in, unique_of}
use Rattle.volume_model.proofs.Places.{Sep, each_has, sep_from, sep_map, sep_parted, sep_to, stands_has, stands_none}
use Rattle.volume_edits.specs.Ported.{HasContent, ShowsVolume, index_named, units_in}
use Rattle.volume_edits.proofs.Contents.{contents}
use Rattle.volume_edits.proofs.Counted.{in_area}
use Rattle.record_lists.specs.declared.Listed.{Listed}
use Rattle.record_lists.specs.Listed.{listed_of}
use Rattle.history_model.specs.History.{History, HistoryFile, HistoryVersion}
use Rattle.history_model.specs.Items.{AreNodeItems, IsChild, IsNodeItem, children_most, roots_most}
use Rattle.history_volumes.specs.Histories.{IsFileOn, IsHistoryOn, IsVersionOn, content_placed, leaf_pages, node_pages, page_placed, root_placed, roots_in_order}
use Rattle.history_volumes.specs.Laws.{HasEachOnce}
use Rattle.history_volumes.specs.Transcribed.{at_of, number_in, paired, place_of, placed}
use Rattle.history_volumes.specs.Walks.{bytes_named, root_leaves, root_nodes, unit_named}
use Rattle.history_volumes.proofs.Dumped.{number_of_tree}
use Rattle.history_volumes.proofs.FileItems.{file_long}
use Rattle.history_volumes.proofs.Firsts.{firsts_once}
use Rattle.history_volumes.proofs.Numbers.{at_has, at_one, get_has, number_found, number_some, numbered_from, numbered_within}
use Rattle.history_volumes.proofs.PieceItems.{node_items}
use Rattle.history_volumes.proofs.Reached.{each_once}
use Rattle.history_volumes.proofs.Transcribing.{IsNumber}
use Rattle.history_plans.specs.Plans.{IsPlanOf, StreamPlan, number_listed, pages_at}
use Rattle.history_dump.specs.Items.{IsListedFile, IsListedVersion, IsNumbered, IsNumberedContent, IsOlderNumber, IsPlannedLeaf, IsPlannedNode, ShowsStream, page_numbered, records_of}
use Rattle.history_dump.proofs.Rows.{beside, body_read, in_rows, listed_sorted, number_on, readable, stored_is, stored_of, stored_row, stored_sorted, zip_from}

-- ---- lists

map_get : {A B : Type 0} (f : A → B) (xs : List A) (i : ℕ) (x : A) → slice_get xs i ≡ Some x → slice_get (map f xs) i ≡ Some (f x)
map_get f [] i x is = absurd (none-some x is)
map_get f (y ∷ xs) zero x is = ap (λ (z : _). Some (f z)) (same_Some y x is)
map_get f (y ∷ xs) (suc i) x is = map_get f xs i x is

sep_unmapped : {A B C : Type 0} (f : A → B) (h : B → C) (xs : List A) → Sep h (map f xs) → Sep (λ x. h (f x)) xs
sep_unmapped f h [] s = tt
sep_unmapped f h (x ∷ xs) s = (λ y m e. s.0 (f y) (has_map f xs y m) e, sep_unmapped f h xs s.1)

-- the number of a page is where it stands
number_back : (pages : List ℕ) → ((p : ℕ) → times p pages ≤ 1) → (number : ℕ) → 1 ≤ number → number ≤ length pages → 1 ≤ at_of pages number → number_in pages (at_of pages number) ≡ Some number
number_back pages once number some most page =
    let found = number_found pages (at_of pages number) (at_has pages number some most) in
    let at = number_some pages (at_of pages number) found.0 found.1 in
    let same : found.0 ≡ number = at_one pages once found.0 number (subst (λ (p : ℕ). 1 ≤ p) (sym at.at) page) page at.at in
    found.1 ∙ ap (λ (n : ℕ). Some n) same

node_item_at : (g : Geometry) (leaves before : ℕ) (nodes : List Node) (i : ℕ) (n : Node) → AreNodeItems g leaves before nodes → slice_get nodes i ≡ Some n → IsNodeItem g leaves (before + i) n
node_item_at g leaves before [] i n all is = absurd (none-some n is)
node_item_at g leaves before (m ∷ nodes) zero n all is =
    subst (λ (k : ℕ). IsNodeItem g leaves k n) (let e : before ≡ before + 0 = omega arith in e) (subst (IsNodeItem g leaves before) (same_Some m n is) all.0)
node_item_at g leaves before (m ∷ nodes) (suc i) n all is =
    subst (λ (k : ℕ). IsNodeItem g leaves k n) (let e : suc before + i ≡ before + suc i = omega arith in e) (node_item_at g leaves (suc before) nodes i n all.1 is)

part_long : (files : List FileContent) (f : FileContent) → Has files f → length f.stored ≤ length (flat_map (λ (x : FileContent). x.stored) files)
part_long [] f h = absurd h
part_long (x ∷ files) f (inl e) =
    let long = length-append x.stored (flat_map (λ (y : FileContent). y.stored) files) in
    subst (λ (y : FileContent). length y.stored ≤ length (x.stored ++ flat_map (λ (z : FileContent). z.stored) files)) e (omega (arith, long))
part_long (x ∷ files) f (inr m) = omega (arith, part_long files f m, length-append x.stored (flat_map (λ (y : FileContent). y.stored) files))

module _ {S : Type 0} (g : ground.Ghosts S) (s : S) (records : List LogRecord) (v : Volume) (h : History) (plan : StreamPlan) (shows : ShowsVolume g s records v)
    (on : IsHistoryOn (g.geometry s) (units_in g s) v h) (is : IsPlanOf (g.geometry s) (units_in g s) v plan h) (few : length (stored_in v) ≤ volume_roots_most) where
  abbrev geo : Geometry
  geo = g.geometry s

  abbrev units : Units
  units = units_in g s

  abbrev leaf : ℕ → ℕ
  leaf = at_of (leaf_pages units v)

  abbrev node : ℕ → ℕ
  node = at_of (node_pages units v)

  -- ---- units

  leaf_unit : (page : ℕ) → NamesLeaf geo page → units page ≡ g.unit s page
  leaf_unit page (j, lt, e) = cond-false (nat_lt page (area_end geo)) (g.image s page) (g.unit s page) (le-ltb page (area_end geo) (omega (arith, e)))

  no_file_page : (page : ℕ) → Contains (flat_map (root_units units) (roots_in (stored_in v))) page → Contains (catalog_no ∷ file_pages v) page → ⊥
  no_file_page page tree file =
      let root = has_flat_from (root_units units) (roots_in (stored_in v)) page (contains_has (flat_map (root_units units) (roots_in (stored_in v))) page tree) in
      let apart = each_has (λ (r : Root). Apart (root_units units r) (catalog_no ∷ file_pages v)) (roots_in (stored_in v)) shows.parts.1.1.1.1.0.no_file_page root.0 root.1 in
      each_has (λ (x : ℕ). Contains (catalog_no ∷ file_pages v) x → ⊥) (root_units units root.0) apart page root.2 file

  once : HasEachOnce geo units v
  once = each_once geo records units v shows.parts

  node_unit : (page : ℕ) → Contains (node_pages units v) page → units page ≡ g.unit s page
  node_unit page there =
      let of = (once.nodes page).0 there in
      let off : g.held s page ≡ false = false_from_ne_true (g.held s page) (λ held. no_file_page page of.1 ((shows.held page).0 held)) in
      in_area g s page of.0.1 ∙ shows.apart page of.0 off

  -- ---- numbers

  leaf_number : (number : ℕ) → 1 ≤ number → number ≤ length h.leaves → number_in (pages_at zero plan) (leaf number) ≡ Some number
  leaf_number number some most =
      let x = numbered_from h.leaves number some most in
      let area = (on.transcribed.leaves number x.0 x.1).area in
      let page : 1 ≤ leaf number = omega (arith, area.2) in
      subst (λ (ps : List ℕ). number_in ps (leaf number) ≡ Some number) (sym is.leaves)
      (number_back (leaf_pages units v) (firsts_once (flat_map (root_leaves units) (roots_in_order v))) number some (omega (arith, most, on.leaves)) page)

  node_number : (l number : ℕ) → 1 ≤ number → number ≤ length h.nodes → number_in (pages_at (suc l) plan) (node number) ≡ Some number
  node_number l number some most =
      let x = numbered_from h.nodes number some most in
      let area = (on.transcribed.nodes number x.0 x.1).area in
      let page : 1 ≤ node number = omega (arith, area.0) in
      subst (λ (ps : List ℕ). number_in ps (node number) ≡ Some number) (sym is.nodes)
      (number_back (node_pages units v) (firsts_once (flat_map (root_nodes units) (roots_in_order v))) number some (omega (arith, most, on.nodes)) page)

  tree_number : (l number : ℕ) → 1 ≤ number → number ≤ roots_most (length h.leaves) (length h.nodes) l → number_in (pages_at l plan) (place_of leaf node l number) ≡ Some number
  tree_number zero number some most = leaf_number number some most
  tree_number (suc l) number some most = node_number l number some most

  -- ---- leaves

  leaf_shown : (i : ℕ) (p : ℕ × ℕ) (bytes : List ℕ) → slice_get plan.leaves i ≡ Some p → slice_get h.leaves i ≡ Some bytes → IsPlannedLeaf g s p bytes
  leaf_shown i p bytes one two =
      let at = on.transcribed.leaves (suc i) bytes two in
      let there : slice_get (leaf_pages units v) i ≡ Some p.0 = subst (λ (xs : List ℕ). slice_get xs i ≡ Some p.0) is.leaves (map_get unit_named plan.leaves i p one) in
      let unit : leaf (suc i) ≡ p.0 = get_or_from_slice_get (leaf_pages units v) i p.0 0 there in
      let area : NamesLeaf geo p.0 = subst (NamesLeaf geo) unit at.area in
      record {
        area = area;
        len = same_Some p.1 (length bytes) (sym (map_get bytes_named plan.leaves i p one) ∙ ap (λ (xs : List ℕ). slice_get xs i) is.lens ∙ map_get length h.leaves i bytes two);
        short = at.short;
        front = subst (λ (b : List ℕ). take (length bytes) b ≡ bytes) (ap units unit ∙ leaf_unit p.0 area) at.front;
      }

  pub leaves_shown : AllZip (IsPlannedLeaf g s) plan.leaves h.leaves
  leaves_shown =
      let long : length plan.leaves ≡ length h.leaves = sym (length-map plan.leaves bytes_named) ∙ ap length is.lens ∙ length-map h.leaves length in
      zip_from (IsPlannedLeaf g s) plan.leaves h.leaves long leaf_shown

  -- ---- nodes

  child_most : (i l : ℕ) → i ≤ length h.nodes → (pair : Pair) → IsChild (children_most (length h.leaves) i (suc l)) pair → IsChild (roots_most (length h.leaves) (length h.nodes) l) pair
  child_most i zero le pair child = child
  child_most i (suc l) le pair child = (child.0, omega (arith, child.1, le))

  children_numbered : (l : ℕ) (pairs : List Pair) → AllByRecursion (IsChild (roots_most (length h.leaves) (length h.nodes) l)) pairs → AllZip (IsNumbered (pages_at l plan)) (map (placed (place_of leaf node l)) pairs) pairs
  children_numbered l [] each = tt
  children_numbered l (pair ∷ pairs) each = (record { count = refl; number = tree_number l pair.page.0 each.0.0 each.0.1 }, children_numbered l pairs each.1)

  pairs_numbered : (i level : ℕ) (pairs : List Pair) → i ≤ length h.nodes → 1 ≤ level → AllByRecursion (IsChild (children_most (length h.leaves) i level)) pairs → AllZip (IsNumbered (pages_at (level - 1) plan)) (paired leaf node level pairs) pairs
  pairs_numbered i zero pairs le some each = absurd (omega (arith, some))
  pairs_numbered i (suc l) pairs le some each =
      subst (λ (k : ℕ). AllZip (IsNumbered (pages_at k plan)) (map (placed (place_of leaf node l)) pairs) pairs) (let e : l ≡ suc l - 1 = omega arith in e)
      (children_numbered l pairs (each_as (IsChild (children_most (length h.leaves) i (suc l))) (IsChild (roots_most (length h.leaves) (length h.nodes) l)) pairs (child_most i l le) each))

  nodes_long : length plan.nodes ≡ length h.nodes
  nodes_long = ap length is.nodes ∙ sym on.nodes

  node_shown : (i page : ℕ) (n : Node) → slice_get plan.nodes i ≡ Some page → slice_get h.nodes i ≡ Some n → IsPlannedNode g s plan page n
  node_shown i page n one two =
      let at = on.transcribed.nodes (suc i) n two in
      let there : slice_get (node_pages units v) i ≡ Some page = subst (λ (xs : List ℕ). slice_get xs i ≡ Some page) is.nodes one in
      let page_is : node (suc i) ≡ page = get_or_from_slice_get (node_pages units v) i page 0 there in
      let unit : units page ≡ g.unit s page = node_unit page (has_contains (node_pages units v) page (get_has (node_pages units v) i page there)) in
      let item : IsNodeItem geo (length h.leaves) i n = subst (λ (k : ℕ). IsNodeItem geo (length h.leaves) k n) (let e : 0 + i ≡ i = omega arith in e) (node_item_at geo (length h.leaves) 0 h.nodes i n (node_items geo records units v h shows.parts on) two) in
      let inside = numbered_at_most h.nodes i n two in
      record {
        area = subst (InPageArea geo) page_is at.area;
        pairs = paired leaf node n.level n.pairs;
        spelled = subst (λ (b : List ℕ). PairsOf geo.fan b n.level (paired leaf node n.level n.pairs)) (ap units page_is ∙ unit) at.pairs;
        numbered = pairs_numbered i n.level n.pairs inside item.is.inner item.children;
      }
    where
      numbered_at_most : (nodes : List Node) (i : ℕ) (n : Node) → slice_get nodes i ≡ Some n → i ≤ length nodes
      numbered_at_most [] i n is = absurd (none-some n is)
      numbered_at_most (m ∷ nodes) zero n is = omega arith
      numbered_at_most (m ∷ nodes) (suc i) n is = let rest = numbered_at_most nodes i n is in omega (arith, rest)

  pub nodes_shown : AllZip (IsPlannedNode g s plan) plan.nodes h.nodes
  nodes_shown = zip_from (IsPlannedNode g s plan) plan.nodes h.nodes nodes_long node_shown

  -- ---- versions

  number_inside : (height number : ℕ) → IsNumber h height number → (1 ≤ number) × (number ≤ roots_most (length h.leaves) (length h.nodes) height)
  number_inside zero number is_number = numbered_within h.leaves number is_number.0 is_number.1
  number_inside (suc l) number is_number = numbered_within h.nodes number is_number.0 is_number.1

  page_back : (height : ℕ) (page : Option PageNo) → RootNamed geo units height (page_placed (place_of leaf node height) page) → page_numbered (pages_at height plan) (page_placed (place_of leaf node height) page) ≡ Some page
  page_back height None named = refl
  page_back height (Some number) named =
      let inside = number_inside height number.0 (number_of_tree geo records units v h shows.parts on height number.0 named) in
      ap (option_map (λ (n : ℕ). let page : PageNo = record { 0 = n } in Some page)) (tree_number height number.0 inside.0 inside.1)

  content_numbered : (t : Stored) (content : Content) → Has (stored_in v) t → t.body.content ≡ content_placed leaf node content → IsNumberedContent plan t.body.content content
  content_numbered t (Small held) there e = subst (λ (c : Content). IsNumberedContent plan c (Small held)) (sym e) refl
  content_numbered t (Large root) there e =
      let named = each_has (λ (r : Root). RootNamed geo units r.height r.page) (roots_in (stored_in v)) shows.parts.1.1.1.1.0.named (root_placed leaf node root)
      (has_flat (λ (o : Stored). root_in o.body.content) (stored_in v) t (root_placed leaf node root) there (subst (λ (rs : List Root). Has rs (root_placed leaf node root)) (sym (ap root_in e)) (inl refl))) in
      subst (λ (c : Content). IsNumberedContent plan c (Large root)) (sym e) (root.page, page_back root.height root.page named, refl)

  module _ (e : FileEntry) (x : FileContent) (there : Has v.files x) (content : HasContent g s e x) where
    abbrev rows : List Row
    rows = bodies_of (g.image s) (index_named e)

    same : x.stored ≡ map stored_of rows
    same = stored_is rows x.stored content.records

    all_read : AreReadable rows
    all_read = readable rows x.stored content.records

    body_here : (row : Row) → Has rows row → HasBody g s (index_named e) row.0 row.1
    body_here row m = row_stands g s (index_named e) row.0 row.1 content.file (in_rows rows row m)

    linked : (row : Row) → Has rows row → IsLinked x.stored (stored_of row)
    linked row m =
        let bodies : HasBodies x = each_has HasBodies v.files shows.parts.1.1.1.0 x there in
        each_has (IsLinked x.stored) x.stored bodies.linked (stored_of row) (subst (λ (ss : List Stored). Has ss (stored_of row)) (sym same) (has_map stored_of rows row m))

    found_older : (place : Place) (number : Option ℕ) (t : Stored) → stands_at place x.stored ≡ Some t → number ≡ number_at x.stored (Some place) → IsOlderNumber g s (index_named e) (Some place) number
    found_older place number t found is_number =
        let at = stands_has x.stored place t found in
        let row = stored_row rows t (subst (λ (ss : List Stored). Has ss t) same at.0) in
        let place_is : row.0.0 ≡ place = ap (λ (o : Stored). o.place) row.2 ∙ at.1 in (
          row.0.1,
          record_on row.0.1,
          subst (λ (p : Place). HasBody g s (index_named e) p row.0.1) place_is (body_here row.0 row.1),
          body_read rows all_read row.0 row.1,
          is_number ∙ ap number_if found ∙ ap (λ (o : Stored). Some (unique_of o)) (sym row.2),
        )

    older_number : (link : Option Place) (number : Option ℕ) → IfSome link (λ place. (o : Stored) × Has x.stored o × (o.place ≡ place)) → number ≡ number_at x.stored link → IsOlderNumber g s (index_named e) link number
    older_number None number older is_number = is_number
    older_number (Some place) number older is_number = by (stands_at place x.stored) refl
      where
        by : (o : Option Stored) → stands_at place x.stored ≡ o → IsOlderNumber g s (index_named e) (Some place) number
        by None none = absurd (stands_none x.stored place older.0 none older.1 older.2)
        by (Some t) found = found_older place number t found is_number

    older_there : (link : Option Place) (t : Stored) → IfSome link (IsOlder x.stored t) → IfSome link (λ place. (o : Stored) × Has x.stored o × (o.place ≡ place))
    older_there None t older = tt
    older_there (Some place) t older = (older.older, contains_has x.stored older.older older.there, older.place_is)

    in_volume : (row : Row) → Has rows row → Has (stored_in v) (stored_of row)
    in_volume row m = has_flat (λ (y : FileContent). y.stored) v.files x (stored_of row) there (subst (λ (ss : List Stored). Has ss (stored_of row)) (sym same) (has_map stored_of rows row m))

    version_shown : (row : Row) → Has rows row → (w : HistoryVersion) → IsVersionOn leaf node x.stored w (stored_of row) → IsListedVersion g s plan (index_named e) (listed_of row) w
    version_shown row m w version =
        let spelled = body_read rows all_read row m in
        record {
          body = row.1;
          is = record_on row.1;
          stands = body_here row m;
          spelled = spelled;
          head = refl;
          older = older_number (record_on row.1).head.older w.older (older_there (record_on row.1).head.older (stored_of row) (linked row m).older) version.older;
          version = record { unique = version.unique; state = version.state; older_is = refl; content = content_numbered (stored_of row) w.content (in_volume row m) version.content };
        }

    versions_shown : (sorted : List Row) (ws : List HistoryVersion) → ((row : Row) → Has sorted row → Has rows row)
        → AllZip (IsVersionOn leaf node x.stored) ws (map stored_of sorted) → AllZip (IsListedVersion g s plan (index_named e)) (map listed_of sorted) ws
    versions_shown [] [] among both = tt
    versions_shown [] (w ∷ ws) among both = absurd both
    versions_shown (row ∷ sorted) [] among both = absurd both
    versions_shown (row ∷ sorted) (w ∷ ws) among both = (version_shown row (among row (inl refl)) w both.0, versions_shown sorted ws (λ r m. among r (inr m)) both.1)

    numbers_differ : Sep unique_of x.stored → Sep (λ (l : Listed). number_listed l) (map listed_of rows)
    numbers_differ apart = sep_map listed_of number_listed rows (sep_unmapped stored_of unique_of rows (subst (Sep unique_of) same apart))

    all_shown : (f : HistoryFile) → IsFileOn leaf node f (e, x) → AllZip (IsListedVersion g s plan (index_named e)) (records_of (g.image s) (index_named e)) f.versions
    all_shown f file =
        let versions : AllZip (IsVersionOn leaf node x.stored) f.versions (map stored_of (in_order number_on rows)) =
        subst (AllZip (IsVersionOn leaf node x.stored) f.versions) (ap (in_order unique_of) same ∙ stored_sorted rows) file.versions in
        subst (λ (ls : List Listed). AllZip (IsListedVersion g s plan (index_named e)) ls f.versions) (sym (listed_sorted rows))
        (versions_shown (in_order number_on rows) f.versions (order_has_from number_on rows) versions)

  -- ---- files

  catalog_here : CatalogOf (g.image s catalog_no) v.catalog
  catalog_here = let some = geo.some_pages in subst (λ (bytes : List ℕ). CatalogOf bytes v.catalog) (in_area g s catalog_no (omega (arith, some))) shows.parts.0.0

  pub file_shown : (at : ℕ) (f : HistoryFile) → slice_get h.files at ≡ Some f → IsListedFile g s plan at f
  file_shown at f is_at =
      let b = beside (IsFileOn leaf node) (HasContent g s) h.files v.catalog.entries v.files at f on.files (contents g s records v shows) is_at in
      let long = file_long leaf node f (b.entry, b.file) b.both in
      let part = part_long v.files b.file b.there in
      let apart = each_has (λ (y : FileContent). Sep unique_of y.stored) v.files (sep_parted unique_of (λ (y : FileContent). y.stored) v.files (sep_from unique_of (stored_in v) shows.parts.1.1.1.1.1.1.0.differ)) b.file b.there in
      record {
        catalog = v.catalog;
        spelled = catalog_here;
        entry = b.entry;
        entry_is = b.entry_is;
        name = b.both.name;
        file = b.holds.file;
        readable = all_read b.entry b.file b.there b.holds;
        differ = sep_to number_listed (map listed_of (bodies_of (g.image s) (index_named b.entry))) (numbers_differ b.entry b.file b.there b.holds apart);
        versions = all_shown b.entry b.file b.there b.holds f b.both;
        few = omega (arith, long, part, few);
      }

  pub stream_shown : ShowsStream g s plan h
  stream_shown = record { head = is.head; leaves = leaves_shown; nodes = nodes_shown; files = file_shown }
