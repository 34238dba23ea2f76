-- The item that is loaded once the last file is ended, where that is whole.
use Rattle.std.proofs.Common.{◌≡◌, ◌<◌, ◌≤◌, ◌+◌, ℕ, zero, suc, List, [], ◌∷◌, ◌++◌, length, Option, Some, None, sym, subst, ◌∙◌, arith, refl, inl}
use Rattle.std.specs.Prelude.{IsTrue}
use Rattle.std.proofs.lemmas.List.{length_push}
use Rattle.std.proofs.lemmas.Option.{same_Some}
use Rattle.disk_model.specs.Changes.{ChangesWithin, SameBut, changes_wider}
use Rattle.disk_model.specs.Outside.{IsWorld, Outside}
use Rattle.ex_base.specs.declared.geometry.Geometry.{Geometry}
use Rattle.ex_base.specs.Area.{catalog_no}
use Rattle.ex_base.specs.Sizes.{volume_bytes}
use Rattle.tree_store.proofs.Taking.{held_whole}
use Rattle.history_fronts.specs.declared.turns.Turn.TheVariants.{File as FileTurn, Node as NodeTurn}
use Rattle.history_fronts.specs.Fronts.{AFile, ALeaf, ANode, AVersion, FitsTurn, Front, Item, Leads, after, begun, files_of, history_of, one_of, turn_of, with_version}
use Rattle.history_fronts.specs.Readings.{IsReadTo}
use Rattle.history_fronts.proofs.Said.{file_fits, node_fits}
use Rattle.history_items.specs.Gathering.{Gathering}
use Rattle.history_model.specs.History.{HistoryFile, HistoryVersion, all_versions}
use Rattle.history_reads.specs.Kept.{Keeps}
use Rattle.history_reads.specs.Reads.{HasItem, IsRead}
use Rattle.history_reads.specs.declared.progress.Progress.{Progress}
use Rattle.history_writes.specs.Pieces.{ArePiecesOn}
use Rattle.history_writes.specs.Places.{InPagesFrom, IsBehindCatalog}
use Rattle.history_writes.proofs.Staying.{pieces_stay}
use Rattle.history_load.specs.Loading.{HasFileIf, IsLaidTo, IsLoadedTo, IsLoader, IsLoaderOf, IsOpen, KeepsFront, SameButFiles, StandsIfWhole}
use Rattle.history_load.specs.declared.loader.Loader.{Loader}
use Rattle.history_load.proofs.Facts.{says_front}

-- ---- no more came than the head says

-- No more nodes and files came than the head says.
abbrev pub IsWithinHead : Front → Type 0
IsWithinHead f = (length f.nodes ≤ f.head.nodes) × (length (files_of f) ≤ f.head.files)

-- A version more of the last file makes no more files.
count_with : (files : List HistoryFile) (o : Option HistoryFile) (v : HistoryVersion) → length (files ++ one_of (with_version v o)) ≡ length (files ++ one_of o)
count_with files None v = refl
count_with files (Some f) v = omega (arith, length_push files f, length_push files (record { name = f.name; versions = f.versions ++ v ∷ [] }))

-- The next item keeps a front within its head.
within_next : (g : Geometry) (f : Front) (item : Item) → FitsTurn g f.head.leaves (length f.nodes) (turn_of f) item → IsWithinHead f → IsWithinHead (after f item)
within_next g f (ALeaf leaf) fits within = within
within_next g f (ANode node) fits within =
    let says : (f.head.leaves ≤ length f.leaves) × (length f.nodes < f.head.nodes) = says_front f NodeTurn (node_fits g f.head.leaves (length f.nodes) (turn_of f) node fits).0 in
    (omega (arith, says.1, length_push f.nodes node), within.1)
within_next g f (AFile file) fits within =
    let says : (f.head.leaves ≤ length f.leaves) × (f.head.nodes ≤ length f.nodes) × (f.missing ≡ 0) × (length (files_of f) < f.head.files) = says_front f FileTurn (file_fits g f.head.leaves (length f.nodes) (turn_of f) file fits).0 in
    (within.0, omega (arith, says.3, length_push (files_of f) (record { name = file.name; versions = [] })))
within_next g f (AVersion v) fits within = (within.0, omega (arith, within.1, count_with f.files f.hand v))

-- Items lead from a front within its head to one within its head.
within_by : (g : Geometry) (p f : Front) (items : List Item) → IsWithinHead p → Leads g p items f → IsWithinHead f
within_by g p f [] within leads = subst IsWithinHead leads within
within_by g p f (item ∷ items) within leads = within_by g (after p item) f items (within_next g p item leads.0.fits within) leads.1

-- The front before an item is within its head.
pub within_head : (g : Geometry) (joined : List ℕ) (p : Progress) (held : List ℕ) (has : HasItem g joined p held) → IsWithinHead has.front
within_head g joined p held has = within_by g (begun has.front.head) has.front has.to.items (omega arith, omega arith) has.to.leads

-- ---- the file ends, where it is whole

-- What the end of the file did, if it was whole.
pub record IsFileKept (g : Geometry) (b c : Outside) (mid kept : Loader) : Type 0 where
  pub keeps : KeepsFront g mid kept
  pub stands : StandsIfWhole g b c mid kept
  pub only : SameButFiles mid kept
  pub count : kept.files.count ≡ mid.files.count
  pub changes : ChangesWithin (InPagesFrom g mid.files.next) b c

-- What is kept stays of the same front, whatever is gathered.
pub loader_gathered : (g : Geometry) (kept : Loader) (k : Gathering) (f : Front) → k.room ≡ kept.gathered.room → IsLoaderOf g kept f → IsLoaderOf g (record kept { gathered = k }) f
loader_gathered g kept k f room of = record {
  room = of.room;
  gathered = room ∙ of.gathered;
  names = of.names;
  file = has_file kept.progress.missing of.file;
  behind = of.behind;
  next = of.next;
  count = of.count;
}
  where
    has_file : (n : ℕ) → HasFileIf g kept n → HasFileIf g (record kept { gathered = k }) n
    has_file zero has = has
    has_file (suc n) has = has

module _ (g : Geometry) (b c : Outside) (mid kept : Loader) (k : Gathering) (end : IsFileKept g b c mid kept) (none : k.held ≡ []) where
  -- What was read before the end is read behind it.
  read_kept : (joined : List ℕ) → IsRead g joined mid.progress [] → IsRead g joined kept.progress k.held
  read_kept joined read = record {
    front = read.front;
    to = subst (λ (bytes : List ℕ). IsReadTo g joined read.front bytes) (sym none) read.to;
    keeps = subst (λ (p : Progress). Keeps g read.front p) (sym end.only.progress) read.keeps;
  }

  -- It asks for the next item.
  pub kept_is : (joined : List ℕ) (read : IsRead g joined mid.progress []) → k.room ≡ kept.gathered.room → IsOpen g mid read.front → IsLoader g (record kept { gathered = k })
  unfolding read_kept
  kept_is joined read room opened = record {
    joined = joined;
    read = read_kept joined read;
    of = loader_gathered g kept k read.front room (end.keeps read.front opened);
  }

  -- What was laid is loaded.
  pub kept_loads : IsWorld b → volume_bytes g ≤ b.size → (image joined : List ℕ) (read : IsRead g joined mid.progress []) → catalog_no + length read.front.nodes < mid.files.next → IsTrue b.honest → b.disk ≡ Some image
      → IsLaidTo g image mid read.front → ArePiecesOn g image read.front → mid.files.count ≡ length (all_versions (history_of read.front)) → (later : List ℕ) × (c.disk ≡ Some later) × IsLoadedTo g later joined (record kept { gathered = k })
  unfolding read_kept
  kept_loads world large image joined read behind honest holds laid pieces count =
      let stand = end.stands image read.front honest holds laid in
      let change = end.changes.disk honest image holds in
      let same : change.0 ≡ stand.0 = same_Some change.0 stand.0 (sym change.1 ∙ stand.1) in
      let but : SameBut (InPagesFrom g mid.files.next) image stand.0 = subst (SameBut (InPagesFrom g mid.files.next) image) same change.2 in
      let size : volume_bytes g ≤ length image = omega (arith, large, held_whole b world image holds) in (
        stand.0,
        stand.1,
        record {
          read = read_kept joined read;
          pieces = pieces_stay g read.front mid.files.next image stand.0 behind size but pieces;
          files = stand.2;
          count = end.count ∙ count;
        },
      )

-- ---- places

-- Pages from one on behind the catalog's are behind it.
pub behind_catalog : (g : Geometry) (first : ℕ) (a b : Outside) → catalog_no < first → ChangesWithin (InPagesFrom g first) a b → ChangesWithin (IsBehindCatalog g) a b
behind_catalog g first a b low changes = changes_wider (InPagesFrom g first) (IsBehindCatalog g) changes (λ i r. (r.0, inl r.1, (λ e. omega (arith, e, r.2, low)), r.3))
