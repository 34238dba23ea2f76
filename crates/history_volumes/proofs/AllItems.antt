-- The history of a volume is made of items of a stream.
use Rattle.std.proofs.Common.{◌≡◌, ◌≤◌, ◌<◌, ◌+◌, ◌^◌, ℕ, zero, suc, List, [], ◌∷◌, ◌++◌, length, IsTrue, Option, Some, None, refl, sym, subst, ap, ◌∙◌, arith, inl, inr}
use Rattle.std.specs.Prelude.{slice_get}
use Rattle.std.specs.List.{flat_map, AllByRecursion, zip}
use Rattle.std.proofs.lemmas.List.{length-append}
use Rattle.std.proofs.lemmas.Slice.Zip.{AllZip-long}
use Rattle.ex_base.specs.declared.geometry.Geometry.{Geometry}
use Rattle.ex_base.specs.declared.names.PageNo.{PageNo}
use Rattle.ex_base.specs.declared.names.Root.{Root}
use Rattle.ex_base.specs.Area.{InPageArea}
use Rattle.ex_base.specs.Order.{Rising, RisingTexts}
use Rattle.ex_base.specs.Sizes.{files_most, most_page}
use Rattle.file_index.specs.Index.{IsFilesPage}
use Rattle.object_records.specs.Record.{Content, IsContent, Large, Small}
use Rattle.op_log.specs.declared.record.LogRecord.{LogRecord}
use Rattle.table_model.specs.declared.table.TableFile.{TableFile}
use Rattle.table_model.specs.Tables.{IsTable}
use Rattle.table_model.specs.Words.{is_name}
use Rattle.trees.specs.Trees.{Units, RootNamed}
use Rattle.trees.proofs.Parts.{narrow}
use Rattle.version_lists.specs.Sorted.{in_order}
use Rattle.version_lists.proofs.Links.{if_some_from}
use Rattle.version_lists.proofs.Lists.{Has, all_has, has_flat, has_front}
use Rattle.version_lists.proofs.Sorted.{order_has_from, order_rises}
use Rattle.volume_model.specs.OwnersMoved.{volume_roots_most}
use Rattle.volume_model.specs.Parts.{HoldsOf, content_parts}
use Rattle.volume_model.specs.Volume.{FileContent, Stored, Volume, file_pages, pages_of_file, root_in, roots_in, stored_in, table_of, unique_of}
use Rattle.volume_model.proofs.FilePages.{file_pages_are}
use Rattle.volume_model.proofs.Places.{Sep, each_has, has_each, sep_from, sep_parted, sep_unlike}
use Rattle.volume_model.proofs.Standing.{StoredAt, files_at}
use Rattle.history_model.specs.Dumps.{IsFileOf, IsHistoryOf}
use Rattle.history_model.specs.History.{History, HistoryFile, HistoryVersion}
use Rattle.history_model.specs.Items.{AreItems, IsContentItem, IsFileItem, IsLeafItem, IsRootNumber, IsVersionItem, roots_most}
use Rattle.history_model.specs.Stream.{FitsHead, head_of}
use Rattle.history_volumes.specs.Histories.{IsFileOn, IsHistoryOn, IsVersionOn, content_placed, leaf_pages, node_pages, page_placed, root_placed}
use Rattle.history_volumes.specs.Transcribed.{at_of, place_of}
use Rattle.history_volumes.proofs.Dumped.{files_are, number_of_tree}
use Rattle.volume_model.proofs.FewRoots.{few_stored_in}
use Rattle.history_volumes.proofs.FileItems.{file_long, files_long, names_same, needed_most, number_of_record, numbers_same, rising_of, root_field}
use Rattle.history_volumes.proofs.Named.{leaf_filled}
use Rattle.history_volumes.proofs.Numbers.{found_zip, numbered_within, second_has}
use Rattle.history_volumes.proofs.PieceItems.{leaves_few, node_items, nodes_few}
use Rattle.history_volumes.proofs.Placed.{in_bodies, on_page_of_file, small_len}
use Rattle.history_volumes.proofs.Transcribing.{IsNumber, leaf_is}
use Rattle.history_volumes.proofs.Whole.{history_of}

has_get : {A : Type 0} (xs : List A) (x : A) → Has xs x → (i : ℕ) × (slice_get xs i ≡ Some x)
has_get [] x h = absurd h
has_get (y ∷ xs) x (inl e) = (0, ap Some e)
has_get (y ∷ xs) x (inr m) = let rest = has_get xs x m in (suc rest.0, rest.1)

part_long : (files : List FileContent) (f : FileContent) → Has files f → length f.stored ≤ length (flat_map (λ (x : FileContent). x.stored) files)
part_long [] f h = absurd h
part_long (x ∷ files) f (inl e) =
    let long = length-append x.stored (flat_map (λ (y : FileContent). y.stored) files) in
    subst (λ (y : FileContent). length y.stored ≤ length (x.stored ++ flat_map (λ (z : FileContent). z.stored) files)) e (omega (arith, long))
part_long (x ∷ files) f (inr m) = omega (arith, part_long files f m, length-append x.stored (flat_map (λ (y : FileContent). y.stored) files))

module _ (g : Geometry) (records : List LogRecord) (units : Units) (v : Volume) (h : History) (parts : AllByRecursion (HoldsOf g records units v) content_parts) (rules : IsTable g (table_of units v))
    (sized : (page : ℕ) → InPageArea g page → length (units page) ≤ g.page_size) (on : IsHistoryOn g units v h) where
  abbrev at_leaf : ℕ → ℕ
  at_leaf = at_of (leaf_pages units v)

  abbrev at_node : ℕ → ℕ
  at_node = at_of (node_pages units v)

  few : length (stored_in v) ≤ volume_roots_most
  few = few_stored_in g records units v parts

  -- ---- records

  stored_at : (s : Stored) → Has (stored_in v) s → StoredAt units s
  stored_at s m = each_has (StoredAt units) (stored_in v) (files_at units v.catalog.entries v.files parts.1.1.0 parts.1.1.1.0) s m

  in_volume : (f : FileContent) → Has v.files f → (s : Stored) → Has f.stored s → Has (stored_in v) s
  in_volume f there s m = has_flat (λ (x : FileContent). x.stored) v.files f s there m

  -- the page of a record is one of the page area
  area_of : (f : FileContent) → Has v.files f → (s : Stored) → Has f.stored s → InPageArea g s.place.page.0
  area_of f there s m =
      let bodies = each_has _ v.files parts.1.1.1.0 f there in
      let on_page = on_page_of_file f s bodies.records m in
      (each_has (IsFilesPage g) (file_pages v) (file_pages_are g units v parts.1.0.0) s.place.page.0
      (has_flat pages_of_file v.files f s.place.page.0 there (has_front f.numbers f.index_pages s.place.page.0 on_page))).0

  room_of_body : (f : FileContent) → Has v.files f → (s : Stored) → Has f.stored s → (at : StoredAt units s) → length at.bytes + 20 ≤ g.page_size
  room_of_body f there s m at =
      let inside = in_bodies at.page.slots s.place.slot at.bytes at.here in
      let room = at.slots.fits.room in
      let page = sized s.place.page.0 (area_of f there s m) in
      omega (arith, inside.0, inside.1, room, page)

  -- ---- versions

  number_inside : (height number : ℕ) → IsNumber h height number → (1 ≤ number) × (number ≤ roots_most (length h.leaves) (length h.nodes) height)
  number_inside zero number is = numbered_within h.leaves number is.0 is.1
  number_inside (suc l) number is = numbered_within h.nodes number is.0 is.1

  most_short : (height : ℕ) → roots_most (length h.leaves) (length h.nodes) height < 2 ^ 32
  most_short zero = omega (arith, leaves_few g records units v h parts on, g.few_segs)
  most_short (suc l) = omega (arith, nodes_few g records units v h parts on, g.few_pages)

  root_number : (height : ℕ) (page : Option PageNo) → RootNamed g units height (page_placed (place_of at_leaf at_node height) page) → (number : PageNo) → page ≡ Some number → (1 ≤ number.0) × (number.0 ≤ roots_most (length h.leaves) (length h.nodes) height)
  root_number height None named number is = absurd (let e : None ≡ Some number = is in cc)
  root_number height (Some page) named number is =
      let inside = number_inside height page.0 (number_of_tree g records units v h parts on height page.0 named) in
      subst (λ (p : PageNo). (1 ≤ p.0) × (p.0 ≤ roots_most (length h.leaves) (length h.nodes) height)) (let same : page ≡ number = cc in same) inside

  is_root_number : (most : ℕ) (page : Option PageNo) → ((number : PageNo) → page ≡ Some number → (1 ≤ number.0) × (number.0 ≤ most)) → IsRootNumber most page
  is_root_number most None all = tt
  is_root_number most (Some page) all = all page refl

  content_item : (f : FileContent) → Has v.files f → (s : Stored) → Has f.stored s → (content : Content) → s.body.content ≡ content_placed at_leaf at_node content → IsContentItem g (length h.leaves) (length h.nodes) content
  content_item f there s m (Small held) is =
      let at = stored_at s (in_volume f there s m) in
      let len = small_len at.bytes held s.body at.body is in
      let room = room_of_body f there s m at in
      omega (arith, len, room)
  content_item f there s m (Large root) is =
      let at = stored_at s (in_volume f there s m) in
      let named = each_has (λ (r : Root). RootNamed g units r.height r.page) (roots_in (stored_in v)) parts.1.1.1.1.0.named (root_placed at_leaf at_node root)
      (has_flat (λ (x : Stored). root_in x.body.content) (stored_in v) s (root_placed at_leaf at_node root) (in_volume f there s m) (subst (λ (rs : List Root). Has rs (root_placed at_leaf at_node root)) (sym (ap root_in is)) (inl refl))) in
      let number = root_number root.height root.page named in (
        root_field at_leaf at_node root (subst IsContent is at.body.fits.content) (λ page page_is. let n = number page page_is in let most = most_short root.height in (omega (arith, n.0), omega (arith, n.1, most))),
        is_root_number (roots_most (length h.leaves) (length h.nodes) root.height) root.page number,
      )

  older_item : (f : FileContent) → Has v.files f → (s : Stored) (w : HistoryVersion) → IsVersionOn at_leaf at_node f.stored w s → (number : ℕ) → w.older ≡ Some number → (1 ≤ number) × (number < 2 ^ 64)
  older_item f there s w is number older =
      let t = number_of_record f.stored s.body.head.older number (sym is.older ∙ older) in
      let m = in_volume f there t.0 t.1 in
      let some = each_has (λ (x : Stored). 1 ≤ unique_of x) (stored_in v) parts.1.1.1.1.1.1.0.some t.0 m in
      let small = (stored_at t.0 m).body.fits.unique in
      (subst (λ (n : ℕ). 1 ≤ n) t.2 some, subst (λ (n : ℕ). n < 2 ^ 64) t.2 small)

  version_item : (f : FileContent) → Has v.files f → (s : Stored) → Has f.stored s → (w : HistoryVersion) → IsVersionOn at_leaf at_node f.stored w s → IsVersionItem g (length h.leaves) (length h.nodes) w
  version_item f there s m w is = record {
    unique = subst (λ (n : ℕ). n < 2 ^ 64) (sym is.unique) (stored_at s (in_volume f there s m)).body.fits.unique;
    older = if_some_from (λ (number : ℕ). (1 ≤ number) × (number < 2 ^ 64)) w.older (older_item f there s w is);
    content = content_item f there s m w.content is.content;
  }

  -- ---- files

  file_item : (f : HistoryFile) → Has h.files f → IsFileItem g (length h.leaves) (length h.nodes) f
  file_item f m =
      let row = found_zip (IsFileOn at_leaf at_node) h.files (zip v.catalog.entries v.files) on.files f m in
      let there = second_has v.catalog.entries v.files row.0 row.1 in
      let named = found_zip (IsFileOf g h) h.files (table_of units v).files (files_are g records units v h parts on) f m in
      let stored = row.0.1.stored in
      let differ = each_has (λ (x : FileContent). Sep unique_of x.stored) v.files (sep_parted unique_of (λ (x : FileContent). x.stored) v.files (sep_from unique_of (stored_in v) parts.1.1.1.1.1.1.0.differ)) row.0.1 there in
      record {
        name = subst (λ (n : List ℕ). IsTrue (is_name n)) (sym named.2.name) (all_has (λ (x : TableFile). IsTrue (is_name x.name)) (table_of units v).files rules.names named.0 named.1);
        few = omega (arith, file_long at_leaf at_node f row.0 row.2, part_long v.files row.0.1 there, few);
        versions = has_each (IsVersionItem g (length h.leaves) (length h.nodes)) f.versions (λ w n.
            let s = found_zip (IsVersionOn at_leaf at_node stored) f.versions (in_order unique_of stored) row.2.versions w n in
            version_item row.0.1 there s.0 (order_has_from unique_of stored s.0 s.1) w s.2);
        rising = subst Rising (sym (numbers_same at_leaf at_node stored f.versions (in_order unique_of stored) row.2.versions)) (rising_of (in_order unique_of stored) (order_rises unique_of stored (sep_unlike unique_of stored differ)));
      }

  files_few : length h.files ≤ files_most g
  files_few = let long = AllZip-long (IsFileOf g h) h.files (table_of units v).files (files_are g records units v h parts on) in omega (arith, long, rules.files)

  leaf_item_is : (bytes : List ℕ) → Has h.leaves bytes → IsLeafItem g bytes
  leaf_item_is bytes m =
      let at = has_get h.leaves bytes m in
      let inside = numbered_within h.leaves (suc at.0) bytes at.1 in
      let some = leaf_filled g records units v h parts on (suc at.0) inside.0 inside.1 in
      (subst (λ (b : List ℕ). 1 ≤ length b) (leaf_is g h units at_leaf at_node on.transcribed (suc at.0) bytes at.1) some, (on.transcribed.leaves (suc at.0) bytes at.1).short)

  -- ---- the head

  fits_head : FitsHead (head_of g h)
  fits_head =
      let fits = parts.0.0.fits in
      let page = most_page g in
      let files = files_few in
      let needed = needed_most g.page_size h.files in
      let long = files_long at_leaf at_node h.files v.catalog.entries v.files on.files in
      record {
        page_size = omega (arith, page);
        seg_len = omega (arith, g.short);
        fan = omega (arith, narrow g);
        next_unique = subst (λ (n : ℕ). n < 2 ^ 64) (sym on.next_unique) fits.next_unique;
        last = subst (λ (n : ℕ). n < 2 ^ 64) (sym on.last) fits.last;
        files = omega (arith, files, page);
        leaves = omega (arith, leaves_few g records units v h parts on, g.few_segs);
        nodes = omega (arith, nodes_few g records units v h parts on, g.few_pages);
        pages = omega (arith, on.pages, needed, long, few, files, page);
      }

  pub are_items : AreItems g h
  are_items = record {
    head = fits_head;
    leaves = has_each (IsLeafItem g) h.leaves leaf_item_is;
    nodes = node_items g records units v h parts on;
    files = has_each (IsFileItem g (length h.leaves) (length h.nodes)) h.files file_item;
    few = files_few;
    names = subst RisingTexts (sym (names_same at_leaf at_node _ h.files v.catalog.entries v.files parts.1.1.0 on.files)) parts.0.0.fits.sorted;
  }

  -- so it is a history of the volume's table
  pub history_whole : IsHistoryOf g h (table_of units v)
  history_whole = history_of g records units v h parts rules are_items on
