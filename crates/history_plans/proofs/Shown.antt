-- A port whose working state is a volume: what is planned of it.
use Rattle.std.proofs.Common.{◌≡◌, ◌≤◌, ◌<◌, ◌+◌, ◌*◌, ◌/◌, ◌^◌, ℕ, suc, List, [], ◌∷◌, length, map, refl, sym, subst, ap, ◌∙◌, arith}
use Rattle.std.specs.List.{flat_map, AllByRecursion, AllZip, zip}
use Rattle.std.proofs.lemmas.List.{length-append, length-map}
use Rattle.std.proofs.lemmas.List.Sorted.{length_permutation}
use Rattle.std.proofs.lemmas.Slice.Zip.{AllZip-long}
use Rattle.ex_base.specs.declared.geometry.Geometry.{Geometry}
use Rattle.ex_base.specs.declared.ground.Ground as ground
use Rattle.ex_base.specs.declared.names.Root.{Root}
use Rattle.ex_base.specs.Area.{InPageArea, NamesLeaf, catalog_no}
use Rattle.ex_base.specs.Even.{sum_of}
use Rattle.ex_base.specs.Ports.{Keeps}
use Rattle.ex_base.specs.Sizes.{leaf_bytes}
use Rattle.ex_base.proofs.Members.{contains_none}
use Rattle.object_files.specs.Catalog.{CatalogOf, FileEntry, number_of}
use Rattle.object_files.specs.Reads.{catalog_on}
use Rattle.object_files.proofs.CatalogLaws.{catalog_read}
use Rattle.object_records.specs.Record.{Content, Large, Small}
use Rattle.op_log.specs.declared.record.LogRecord.{LogRecord}
use Rattle.trees.specs.Trees.{Units, RootNamed, RootSized}
use Rattle.version_lists.specs.Sorted.{in_order}
use Rattle.version_lists.proofs.Lists.{Has}
use Rattle.version_lists.proofs.Sorted.{order_permutation}
use Rattle.volume_model.specs.Parts.{HasBalance, HasIndex}
use Rattle.volume_model.specs.Volume.{FileContent, Stored, Volume, roots_in, stored_in, unique_of}
use Rattle.volume_model.proofs.Places.{Sep, each_has, has_each, sep_from, sep_parted, sep_to}
use Rattle.volume_edits.specs.Ported.{HasContent, ShowsVolume, index_named, units_in}
use Rattle.volume_edits.proofs.Contents.{contents}
use Rattle.volume_edits.proofs.Counted.{in_area}
use Rattle.volume_edits.proofs.Frames.{past_area}
use Rattle.history_model.specs.FilePages.{pages_filled, pages_for, record_size}
use Rattle.history_model.specs.History.{History, HistoryFile, HistoryVersion}
use Rattle.history_model.specs.Stream.{StreamHead}
use Rattle.history_volumes.specs.Histories.{IsFileOn, IsHistoryOn, IsVersionOn, content_placed, leaf_pages, leaves_named, node_pages, roots_in_order}
use Rattle.history_volumes.specs.Walks.{bytes_named, unit_named}
use Rattle.volume_model.proofs.FewRoots.{few_stored_in}
use Rattle.history_volumes.proofs.FileItems.{filled_most}
use Rattle.history_volumes.proofs.Made.{has_history, units_are}
use Rattle.history_volumes.proofs.PieceItems.{leaves_few, nodes_few}
use Rattle.history_volumes.proofs.Whole.{in_records}
use Rattle.history_plans.specs.declared.catalog.Contents.{Contents}
use Rattle.history_plans.specs.Files.{AreNamed, AreTrees, HasStored, IsContentsOf, pages_stored, roots_stored, size_stored}
use Rattle.history_plans.specs.Pieces.{IsClosed, LeavesRoots, PlannedPieces, ShowsPages}
use Rattle.history_plans.proofs.Roots.{all_stored_on}
use Rattle.history_plans.proofs.Walking.{shows_on}
use Rattle.history_plans.specs.Plans.{IsPlanned, PlansOf, StreamPlan}

-- ---- how many pages a history needs

sizes_same : (leaf node : ℕ → ℕ) (stored : List Stored) (ws : List HistoryVersion) (xs : List Stored) → AllZip (IsVersionOn leaf node stored) ws xs
    → map (λ (w : HistoryVersion). record_size w.content) ws ≡ map size_stored xs
sizes_same leaf node stored [] [] both = refl
sizes_same leaf node stored [] (s ∷ xs) both = absurd both
sizes_same leaf node stored (w ∷ ws) [] both = absurd both
sizes_same leaf node stored (w ∷ ws) (s ∷ xs) both =
    ap (λ (n : ℕ). n ∷ map (λ (v : HistoryVersion). record_size v.content) ws) (sym (ap record_size both.0.content ∙ placed_size w.content))
    ∙ ap (λ (ns : List ℕ). size_stored s ∷ ns) (sizes_same leaf node stored ws xs both.1)
  where
    placed_size : (content : Content) → record_size (content_placed leaf node content) ≡ record_size content
    placed_size (Small held) = refl
    placed_size (Large root) = refl

needed_same : (page_size : ℕ) (leaf node : ℕ → ℕ) (P : FileEntry → FileContent → Type 0) (fs : List HistoryFile) (entries : List FileEntry) (files : List FileContent) → AllZip P entries files → AllZip (IsFileOn leaf node) fs (zip entries files)
    → sum_of (pages_for page_size) fs ≡ sum_of (pages_stored page_size) files
needed_same page_size leaf node P [] [] [] parts both = refl
needed_same page_size leaf node P [] [] (x ∷ files) parts both = absurd parts
needed_same page_size leaf node P [] (e ∷ entries) [] parts both = absurd parts
needed_same page_size leaf node P [] (e ∷ entries) (x ∷ files) parts both = absurd both
needed_same page_size leaf node P (f ∷ fs) [] files parts both = absurd both
needed_same page_size leaf node P (f ∷ fs) (e ∷ entries) [] parts both = absurd parts
needed_same page_size leaf node P (f ∷ fs) (e ∷ entries) (x ∷ files) parts both =
    ap (λ (sizes : List ℕ). (pages_filled page_size 0 sizes + pages_filled page_size 0 sizes / 16 + 4) + sum_of (pages_for page_size) fs) (sizes_same leaf node x.stored f.versions (in_order unique_of x.stored) both.0.versions)
    ∙ ap (λ (n : ℕ). pages_stored page_size x + n) (needed_same page_size leaf node P fs entries files parts.1 both.1)

stored_most : (page_size : ℕ) (files : List FileContent) → sum_of (pages_stored page_size) files ≤ 2 * length (flat_map (λ (f : FileContent). f.stored) files) + 4 * length files
stored_most page_size [] = omega arith
stored_most page_size (f ∷ files) =
    let filled = filled_most page_size 0 (map size_stored (in_order unique_of f.stored)) in
    omega (
      arith,
      filled,
      length-map (in_order unique_of f.stored) size_stored,
      length_permutation f.stored (in_order unique_of f.stored) (order_permutation unique_of f.stored),
      stored_most page_size files,
      length-append f.stored (flat_map (λ (x : FileContent). x.stored) files),
    )

-- ---- what a plan reads

module _ {S : Type 0} (g : ground.Ghosts S) (s : S) (records : List LogRecord) (v : Volume) (vol : ShowsVolume g s records v) where
  abbrev geo : Geometry
  geo = g.geometry s

  abbrev units : Units
  units = units_in g s

  pub shows : ShowsPages geo (g.image s) units
  shows page area = in_area g s page area.1

  catalog_area : InPageArea geo catalog_no
  catalog_area = let some = geo.some_pages in (omega arith, omega (arith, some))

  pub catalog_is : CatalogOf (g.image s catalog_no) v.catalog
  catalog_is = subst (λ (page : List ℕ). CatalogOf page v.catalog) (shows catalog_no catalog_area) vol.parts.0.0

  catalog_same : catalog_on (g.image s catalog_no) ≡ v.catalog
  catalog_same = catalog_read (g.image s catalog_no) v.catalog catalog_is

  -- the files that the catalog names
  numbers_have : (entries : List FileEntry) (files : List FileContent) → AllZip (HasContent g s) entries files → AllByRecursion (λ (f : FileContent). Sep unique_of f.stored) files → AllZip (HasStored g s) (map number_of entries) files
  numbers_have [] [] both apart = tt
  numbers_have [] (f ∷ files) both apart = absurd both
  numbers_have (e ∷ entries) [] both apart = absurd both
  numbers_have (e ∷ entries) (f ∷ files) both apart = (
    record { index = index_named e; whole = both.0.file; is = refl; records = both.0.records; differ = sep_to unique_of f.stored apart.0 },
    numbers_have entries files both.1 apart.1,
  )

  pub files_there : (found : Contents) → IsContentsOf (catalog_on (g.image s catalog_no)) found → AllZip (HasStored g s) found.files.items v.files
  files_there found is =
      subst (λ (numbers : List ℕ). AllZip (HasStored g s) numbers v.files) (sym (is.files ∙ ap (λ (c : _). map number_of c.entries) catalog_same))
      (numbers_have v.catalog.entries v.files (contents g s records v vol)
      (sep_parted unique_of (λ (f : FileContent). f.stored) v.files (sep_from unique_of (stored_in v) vol.parts.1.1.1.1.1.1.0.differ)))

  -- the trees of the volume
  named : (root : Root) → Has (roots_in_order v) root → RootNamed geo units root.height root.page
  named root m = each_has (λ (r : Root). RootNamed geo units r.height r.page) (roots_in (stored_in v)) vol.parts.1.1.1.1.0.named root (in_records v root m)

  sized : (root : Root) → Has (roots_in_order v) root → RootSized geo units root.height root.size root.page
  sized root m = (each_has (HasBalance geo units) (roots_in (stored_in v)) vol.parts.1.1.1.1.1.0 root (in_records v root m)).sized

  pub are_named : AreNamed geo units (flat_map roots_stored v.files)
  are_named = has_each (λ (root : Root). RootNamed geo units root.height root.page) (roots_in_order v) named

  pub are_trees : AreTrees geo units (flat_map roots_stored v.files)
  are_trees = has_each (λ (root : Root). RootNamed geo units root.height root.page × RootSized geo units root.height root.size root.page) (roots_in_order v) (λ root m. (named root m, sized root m))

  pub closed_first : IsClosed geo units (record { leaves = []; nodes = [] })
  closed_first page there l is = absurd (contains_none page there)

  -- ---- what fits a stream's head

  few_files : length v.files ≤ 170
  few_files =
      let fits = vol.parts.0.0.fits in
      let long = AllZip-long (HasIndex geo units) v.catalog.entries v.files vol.parts.1.0.0 in
      omega (arith, fits.room, fits.page, long)

  pub pages_fit : sum_of (pages_stored geo.page_size) v.files < 2 ^ 32
  pages_fit = omega (arith, stored_most geo.page_size v.files, few_stored_in geo records units v vol.parts, few_files)

  pub files_fit : (found : Contents) → IsContentsOf (catalog_on (g.image s catalog_no)) found → length found.files.items < 2 ^ 32
  files_fit found is =
      let long = AllZip-long (HasStored g s) found.files.items v.files (files_there found is) in
      omega (arith, long, few_files)

  -- ---- the same later on

  module _ (mid : S) (k : Keeps g s mid) where
    same_geometry : g.geometry mid ≡ geo
    same_geometry = g.leads_geometry s mid k.leads

    pub shows_mid : ShowsPages (g.geometry mid) (g.image mid) units
    shows_mid = shows_on g units s mid k shows

    pub files_mid : (found : Contents) → IsContentsOf (catalog_on (g.image s catalog_no)) found → AllZip (HasStored g mid) found.files.items v.files
    files_mid found is = all_stored_on g s mid found.files.items v.files k (files_there found is)

    pub named_mid : AreNamed (g.geometry mid) units (flat_map roots_stored v.files)
    named_mid = subst (λ (x : Geometry). AreNamed x units (flat_map roots_stored v.files)) (sym same_geometry) are_named

    pub trees_mid : AreTrees (g.geometry mid) units (flat_map roots_stored v.files)
    trees_mid = subst (λ (x : Geometry). AreTrees x units (flat_map roots_stored v.files)) (sym same_geometry) are_trees

    pub closed_mid : IsClosed (g.geometry mid) units (record { leaves = []; nodes = [] })
    closed_mid = subst (λ (x : Geometry). IsClosed x units (record { leaves = []; nodes = [] })) (sym same_geometry) closed_first

    pub fit_mid : sum_of (pages_stored (g.geometry mid).page_size) v.files < 2 ^ 32
    fit_mid = subst (λ (x : Geometry). sum_of (pages_stored x.page_size) v.files < 2 ^ 32) (sym same_geometry) pages_fit

    -- what was left is that of the volume
    pub left_back : (pieces : PlannedPieces) → LeavesRoots (g.geometry mid) units (flat_map roots_stored v.files) (record { leaves = []; nodes = [] }) pieces → LeavesRoots geo units (flat_map roots_stored v.files) (record { leaves = []; nodes = [] }) pieces
    left_back pieces left = subst (λ (x : Geometry). LeavesRoots x units (flat_map roots_stored v.files) (record { leaves = []; nodes = [] }) pieces) same_geometry left

    pub pages_back : (pages : ℕ) → pages ≡ sum_of (pages_stored (g.geometry mid).page_size) v.files → pages ≡ sum_of (pages_stored geo.page_size) v.files
    pages_back pages is = is ∙ ap (λ (x : Geometry). sum_of (pages_stored x.page_size) v.files) same_geometry

  module _ (ready : g.ready s) (told : g.tells s) where
    whole : (page : ℕ) → NamesLeaf geo page → leaf_bytes geo ≤ length (units page)
    whole page leaf = subst (λ (bytes : List ℕ). leaf_bytes geo ≤ length bytes) (sym (past_area g s page (let e = leaf.2 in omega (arith, e)))) (g.whole s ready told page leaf)

    abbrev found_history : (history : History) × IsHistoryOn geo units v history × (map length history.leaves ≡ map bytes_named (leaves_named units v))
    found_history = has_history geo records units v vol.parts whole

    module _ (pieces : PlannedPieces) (left : LeavesRoots geo units (flat_map roots_stored v.files) (record { leaves = []; nodes = [] }) pieces) where
      leaves_are : pieces.leaves ≡ leaves_named units v
      leaves_are = left.leaves

      nodes_are : pieces.nodes ≡ node_pages units v
      nodes_are = left.nodes

      unit_list : map unit_named pieces.leaves ≡ leaf_pages units v
      unit_list = ap (map unit_named) leaves_are ∙ units_are geo records units v vol.parts whole

      leaves_long : length found_history.0.leaves ≡ length pieces.leaves
      leaves_long = omega (arith, found_history.1.leaves, ap length unit_list, length-map pieces.leaves unit_named)

      nodes_long : length found_history.0.nodes ≡ length pieces.nodes
      nodes_long = omega (arith, found_history.1.nodes, ap length nodes_are)

      pub leaves_fit : length pieces.leaves < 2 ^ 32
      leaves_fit = omega (arith, leaves_few geo records units v found_history.0 vol.parts found_history.1, leaves_long, geo.few_segs)

      pub nodes_fit : length pieces.nodes < 2 ^ 32
      nodes_fit = omega (arith, nodes_few geo records units v found_history.0 vol.parts found_history.1, nodes_long, geo.few_pages)

      -- ---- the plan

      abbrev made_head : ℕ → ℕ → ℕ → ℕ → ℕ → ℕ → StreamHead
      made_head next_unique last files leaf_count node_count pages = record {
        page_size = geo.page_size;
        seg_len = geo.seg_len;
        fan = geo.fan;
        next_unique = next_unique;
        last = last;
        files = files;
        leaves = leaf_count;
        nodes = node_count;
        pages = pages;
      }

      same_head : (n m a b c d e f i j k l : ℕ) → n ≡ m → a ≡ b → c ≡ d → e ≡ f → i ≡ j → k ≡ l → made_head n a c e i k ≡ made_head m b d f j l
      same_head n m a b c d e f i j k l p q r t u w =
          ap (λ (x : ℕ). made_head x a c e i k) p ∙ ap (λ (x : ℕ). made_head m x c e i k) q ∙ ap (λ (x : ℕ). made_head m b x e i k) r
          ∙ ap (λ (x : ℕ). made_head m b d x i k) t ∙ ap (λ (x : ℕ). made_head m b d f x k) u ∙ ap (λ (x : ℕ). made_head m b d f j x) w

      pub planned : (found : Contents) (pages : ℕ) (plan : StreamPlan) → IsContentsOf (catalog_on (g.image s catalog_no)) found → pages ≡ sum_of (pages_stored geo.page_size) v.files → PlansOf geo found pages pieces plan → IsPlanned geo units v plan
      planned found pages plan is pages_are of =
          let h = found_history.0 in
          let on = found_history.1 in
          let parts = vol.parts in
          let next : found.next_unique ≡ h.next_unique = is.next_unique ∙ ap (λ (c : _). c.next_unique) catalog_same ∙ sym on.next_unique in
          let last : found.last ≡ h.last = is.last ∙ ap (λ (c : _). c.last) catalog_same ∙ sym on.last in
          let long = AllZip-long (HasStored g s) found.files.items v.files (files_there found is) in
          let zipped = zip_long v.catalog.entries v.files parts.1.0.0 in
          let files : length found.files.items ≡ length h.files = omega (arith, long, zipped, AllZip-long _ h.files (zip v.catalog.entries v.files) on.files) in
          let needed : pages ≡ h.pages = pages_are ∙ sym (on.pages ∙ needed_same geo.page_size _ _ (HasIndex geo units) h.files v.catalog.entries v.files parts.1.0.0 on.files) in
          record {
            history = h;
            on = on;
            plan_is = record {
              head = of.head ∙ same_head found.next_unique h.next_unique found.last h.last (length found.files.items) (length h.files) (length pieces.leaves) (length h.leaves) (length pieces.nodes) (length h.nodes) pages h.pages next last files (sym leaves_long) (sym nodes_long) needed;
              leaves = ap (map unit_named) of.leaves ∙ unit_list;
              lens = ap (map bytes_named) (of.leaves ∙ leaves_are) ∙ sym found_history.2;
              nodes = of.nodes ∙ nodes_are;
            };
          }
        where
          zip_long : (entries : List FileEntry) (fs : List FileContent) → AllZip (HasIndex geo units) entries fs → length (zip entries fs) ≡ length fs
          zip_long [] [] both = refl
          zip_long [] (x ∷ fs) both = absurd both
          zip_long (e ∷ entries) [] both = absurd both
          zip_long (e ∷ entries) (x ∷ fs) both = ap suc (zip_long entries fs both.1)
