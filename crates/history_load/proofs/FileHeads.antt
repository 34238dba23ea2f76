-- The head of a file that was taken: the file is at hand, with none of its versions.
use Rattle.std.proofs.Common.{◌≡◌, ◌≤◌, ◌+◌, ◌*◌, ◌-◌, ℕ, List, [], ◌∷◌, ◌++◌, length, map, refl, sym, ap, subst, ◌∙◌, arith}
use Rattle.std.specs.Prelude.{Contains, slice_index}
use Rattle.std.specs.List.{AllByRecursion, flat_map}
use Rattle.std.proofs.lemmas.List.{append-nil, flat_map_more, length-map, map_push}
use Rattle.disk_model.specs.Outside.{IsWorld, Outside}
use Rattle.ex_base.specs.declared.geometry.Geometry.{Geometry}
use Rattle.ex_base.specs.Order.{RisingTexts}
use Rattle.ex_base.specs.Sizes.{files_most, volume_bytes}
use Rattle.object_files.specs.Catalog.{name_of}
use Rattle.object_files.specs.Edits.{entries_on, entry_inserted, new_file}
use Rattle.volume_model.specs.Homes.{home}
use Rattle.history_counts.specs.Pages.{pages_by}
use Rattle.history_counts.specs.declared.page_needs.PageNeeds.{PageNeeds}
use Rattle.history_fronts.specs.Fronts.{AFile, Front, after, files_of, history_of}
use Rattle.history_fronts.specs.declared.turns.Turn.{Turn}
use Rattle.history_fronts.specs.declared.turns.Turn.TheVariants.{File as FileTurn}
use Rattle.history_fronts.specs.Readings.{need_at}
use Rattle.history_items.specs.Gathering.{Gathering}
use Rattle.history_items.specs.Heads.{stream_head}
use Rattle.history_items.specs.declared.head.Head.{Head}
use Rattle.history_model.specs.History.{HistoryFile, HistoryVersion, all_versions}
use Rattle.history_model.specs.Stream.{StreamHead, lack_of}
use Rattle.history_reads.specs.Kept.{AreOfOneStream}
use Rattle.history_reads.specs.Reads.{HasItem, IsRead, turn_now}
use Rattle.history_reads.specs.declared.progress.Progress.{Progress}
use Rattle.history_reads.proofs.Items.{file_whole, front_read}
use Rattle.history_links.specs.Linked.{number_in as placed_number}
use Rattle.history_writes.specs.Files.{AreFilesOn}
use Rattle.history_writes.specs.Pieces.{ArePiecesOn}
use Rattle.history_load.specs.AtHand.{BeginsFile, HasFile, IsReady}
use Rattle.history_load.specs.Faults.{WhereBad}
use Rattle.history_load.specs.Loading.{HasFileIf, HasOpen, HasWholeItem, IsLaidTo, IsLoader, IsLoaderOf, IsNextWithin, IsOpen, LoadsItem, NoneIsLaid, RefusesItem, SameButFiles, StandTo, TakesItem, name_in, page_behind}
use Rattle.history_load.specs.declared.faults.LoadFault.{LoadFault}
use Rattle.history_load.specs.declared.loader.Loader.{Loader}
use Rattle.history_load.proofs.Causes.{where_as}
use Rattle.history_load.proofs.Closing.{IsFileKept, kept_is, kept_loads, within_head}
use Rattle.history_load.proofs.Entries.{entries_are}
use Rattle.history_load.proofs.Facts.{FileIs, file_is, turn_is}
use Rattle.history_load.proofs.Names.{ComesBefore, inserted_last, last_behind, last_unused}
use Rattle.history_load.proofs.Pieces.{SameProgress, read_as, same_nodes}

-- A file of which no version came.
abbrev pub begun_file : List ℕ → HistoryFile
begun_file name = record { name = name; versions = [] }

-- ---- the file may begin

-- the names before it, as the catalog has them
names_before : (g : Geometry) (old : Loader) (f k : Front) (p : Progress) → IsLoaderOf g old f → FileIs g old.gathered.held f k old.progress p → AllByRecursion (ComesBefore (front_read old.gathered.held).name) (map name_of (entries_on old.files.catalog.items))
names_before g old f k p of is =
    let split : map name_in (files_of f ++ begun_file (front_read old.gathered.held).name ∷ []) ≡ map name_in (files_of f) ++ (front_read old.gathered.held).name ∷ [] = map_push name_in (files_of f) (begun_file (front_read old.gathered.held).name) in
    let rising : RisingTexts (map name_in (files_of f) ++ (front_read old.gathered.held).name ∷ []) = subst RisingTexts split is.sound.names in
    subst (AllByRecursion (ComesBefore (front_read old.gathered.held).name)) (sym of.names) (last_behind (map name_in (files_of f)) (front_read old.gathered.held).name rising)

-- The name is new to the catalog.
pub name_unused : (g : Geometry) (old : Loader) (f k : Front) (p : Progress) → IsLoaderOf g old f → FileIs g old.gathered.held f k old.progress p → Contains (map name_of (entries_on old.files.catalog.items)) (front_read old.gathered.held).name → ⊥
name_unused g old f k p of is = last_unused (map name_of (entries_on old.files.catalog.items)) (front_read old.gathered.held).name (names_before g old f k p of is)

-- No file is at hand.
pub ready_for_file : (g : Geometry) (old : Loader) (f k : Front) (p : Progress) → IsLoaderOf g old f → FileIs g old.gathered.held f k old.progress p → IsReady g old.files
ready_for_file g old f k p of is = subst (λ (n : ℕ). HasFileIf g old n) is.whole of.file

-- The catalog has room for one more entry.
pub room_for_entry : (g : Geometry) (old : Loader) (joined : List ℕ) (has : HasItem g joined old.progress old.gathered.held) (k : Front) (p : Progress) → IsLoaderOf g old has.front → FileIs g old.gathered.held has.front k old.progress p
    → 32 + 48 * (length (entries_on old.files.catalog.items) + 1) ≤ length old.files.catalog.items
room_for_entry g old joined has k p of is =
    let names : length (map name_of (entries_on old.files.catalog.items)) ≡ length (map name_in (files_of has.front)) = ap (λ (ns : List (List ℕ)). length ns) of.names in
    let ready = ready_for_file g old has.front k p of is in
    let few : length (entries_on old.files.catalog.items) + 1 ≤ files_most g = omega (arith, names, length-map (entries_on old.files.catalog.items) name_of, length-map (files_of has.front) name_in, is.more, has.to.head.few) in
    omega (arith, few, ready.catalog_size)

-- ---- the file begins

-- The head of a file came, and the file was begun.
pub record IsFileBegun (g : Geometry) (old mid : Loader) : Type 0 where
  pub reads : (joined : List ℕ) → HasItem g joined old.progress old.gathered.held → IsRead g joined mid.progress []
  pub turn : turn_now old.progress ≡ FileTurn
  pub stream : AreOfOneStream old.progress mid.progress
  pub room : mid.gathered.room ≡ old.gathered.room
  pub begins : BeginsFile g old.files mid.files (front_read old.gathered.held).name
  pub file : HasFile g mid.files

-- What it did to what is kept of the stream.
file_of : (g : Geometry) (old mid : Loader) (joined : List ℕ) (begun : IsFileBegun g old mid) (has : HasItem g joined old.progress old.gathered.held) → FileIs g old.gathered.held has.front (begun.reads joined has).front old.progress mid.progress
file_of g old mid joined begun has = file_is g joined old.progress mid.progress old.gathered.held has (begun.reads joined has) begun.turn

-- Its entry is the last one.
abbrev pub IsEntered : Loader → Loader → Type 0
IsEntered old mid = entries_on mid.files.catalog.items ≡ entries_on old.files.catalog.items ++ new_file (front_read old.gathered.held).name mid.files.pages.file_no ∷ []

-- The new file's entry is the last one, since its name comes behind the others.
pub entered : (g : Geometry) (old mid : Loader) → IsFileBegun g old mid → HasWholeItem g old → IsEntered old mid
entered g old mid begun whole =
    let is = file_of g old mid whole.joined begun whole.item in
    entries_are mid.files.catalog.items old.files.catalog.items (entry_inserted (new_file (front_read old.gathered.held).name mid.files.pages.file_no) (entries_on old.files.catalog.items)) begun.begins.catalog
    ∙ inserted_last (new_file (front_read old.gathered.held).name mid.files.pages.file_no) (entries_on old.files.catalog.items) (names_before g old whole.item.front (begun.reads whole.joined whole.item).front mid.progress whole.of is)

-- The file is at hand, and isn't ended.
pub file_open : (g : Geometry) (old mid : Loader) (joined : List ℕ) (begun : IsFileBegun g old mid) (has : HasItem g joined old.progress old.gathered.held) → IsLoaderOf g old has.front → IsEntered old mid → IsOpen g mid (after has.front (AFile (front_read old.gathered.held)))
file_open g old mid joined begun has of entry =
    let is = file_of g old mid joined begun has in
    let within : old.files.next ≤ page_behind old.progress.head.nodes + pages_by old.progress.needs = subst (λ (n : ℕ). IsNextWithin n (page_behind old.progress.head.nodes) old.files.next old.progress.needs) is.whole of.next in
    let others : mid.progress.needs.others ≡ pages_by old.progress.needs + 4 = ap (λ (n : PageNeeds). n.others) is.needs in
    record {
      room = ap (λ (h : Head). lack_of (g.pages - 1) g.segs (stream_head h)) begun.stream.1 ∙ of.room;
      gathered = begun.room ∙ of.gathered;
      names = ap (map name_of) entry ∙ map_push name_of (entries_on old.files.catalog.items) (new_file (front_read old.gathered.held).name mid.files.pages.file_no)
          ∙ ap (λ (ns : List (List ℕ)). ns ++ (front_read old.gathered.held).name ∷ []) of.names ∙ sym (map_push name_in (files_of has.front) (begun_file (front_read old.gathered.held).name));
      file = begun.file;
      filled = record { filled = begun.begins.filled.filled ∙ sym (ap (λ (n : PageNeeds). n.filled) is.needs); room = begun.begins.filled.room ∙ sym (ap (λ (n : PageNeeds). n.room) is.needs) };
      numbers = ap (map placed_number) (begun.begins.at_hand []).placed ∙ sym is.numbers;
      behind = omega (arith, of.behind, begun.begins.next, same_nodes old mid begun.stream);
      next = omega (arith, within, others, begun.begins.next, same_nodes old mid begun.stream);
      count = omega (arith, of.count, begun.begins.count, is.missing, is.is.1, is.files, is.whole);
    }

-- All that came of it is laid, where the files before it stand.
pub file_laid : (g : Geometry) (image : List ℕ) (old mid : Loader) (joined : List ℕ) (begun : IsFileBegun g old mid) (has : HasItem g joined old.progress old.gathered.held) → IsEntered old mid → StandTo g image (page_behind old.progress.head.nodes) has.front old.progress.missing old.files
    → IsLaidTo g image mid (after has.front (AFile (front_read old.gathered.held)))
file_laid g image old mid joined begun has entry stand =
    let is = file_of g old mid joined begun has in
    let on : AreFilesOn g (home g image) (page_behind old.progress.head.nodes) old.files.next (files_of has.front) (entries_on old.files.catalog.items) = subst (λ (n : ℕ). StandTo g image (page_behind old.progress.head.nodes) has.front n old.files) is.whole stand in
    record {
      missing = sym is.missing;
      sound = is.sound;
      between = record {
        hand = begun_file (front_read old.gathered.held).name;
        hand_is = refl;
        entries = entries_on old.files.catalog.items;
        catalog = entry;
        before = subst (λ (n : ℕ). AreFilesOn g (home g image) n mid.files.next (files_of has.front) (entries_on old.files.catalog.items)) (sym (same_nodes old mid begun.stream))
            (subst (λ (n : ℕ). AreFilesOn g (home g image) (page_behind old.progress.head.nodes) n (files_of has.front) (entries_on old.files.catalog.items)) (sym begun.begins.next) on);
        at_hand = begun.begins.at_hand image;
      };
    }

-- ---- it is taken

-- A file without versions adds none.
no_version : (files : List HistoryFile) (name : List ℕ) → flat_map (λ (f : HistoryFile). f.versions) (files ++ begun_file name ∷ []) ≡ flat_map (λ (f : HistoryFile). f.versions) files
no_version files name = sym (flat_map_more (λ (f : HistoryFile). f.versions) [] files (begun_file name)) ∙ append-nil (flat_map (λ (f : HistoryFile). f.versions) files)

module _ (g : Geometry) (a b : Outside) (old mid kept : Loader) (k : Gathering) (whole : HasWholeItem g old) (begun : IsFileBegun g old mid) (end : IsFileKept g a b mid kept) (none : k.held ≡ []) where
  -- Whatever was loaded before it, that is loaded with it.
  pub file_loads : IsWorld a → volume_bytes g ≤ a.size → LoadsItem g a b old (record kept { gathered = k })
  file_loads world large = λ image joined honest holds before.
      let read = begun.reads joined before.item in
      let is = file_of g old mid joined begun before.item in
      let laid = file_laid g image old mid joined begun before.item (entered g old mid begun whole) before.files in
      let pieces : ArePiecesOn g image (after before.item.front (AFile (front_read old.gathered.held))) = record { leaves = before.pieces.leaves; nodes = before.pieces.nodes } in
      let count : mid.files.count ≡ length (all_versions (history_of (after before.item.front (AFile (front_read old.gathered.held))))) =
      begun.begins.count ∙ before.count ∙ sym (ap (λ (vs : List HistoryVersion). length vs) (no_version (files_of before.item.front) (front_read old.gathered.held).name)) in
      let head : old.progress.head.nodes ≡ before.item.front.head.nodes = ap (λ (h : StreamHead). h.nodes) before.item.keeps.head in
      let nodes : length read.front.nodes ≡ length before.item.front.nodes = ap (λ (f : Front). length f.nodes) is.front_is in
      let within = within_head g joined old.progress old.gathered.held before.item in
      kept_loads g a b mid kept k end none world large image joined read (omega (arith, nodes, within.0, head, whole.of.behind, begun.begins.next)) honest holds
      (subst (λ (f : Front). IsLaidTo g image mid f) (sym is.front_is) laid) (subst (λ (f : Front). ArePiecesOn g image f) (sym is.front_is) pieces)
      (subst (λ (f : Front). mid.files.count ≡ length (all_versions (history_of f))) (sym is.front_is) count)

  -- It asks for the next item.
  pub file_taken : k.room ≡ kept.gathered.room → IsLoader g (record kept { gathered = k })
  file_taken room =
      let is = file_of g old mid whole.joined begun whole.item in
      kept_is g a b mid kept k end none whole.joined (begun.reads whole.joined whole.item) room
      (subst (λ (f : Front). IsOpen g mid f) (sym is.front_is) (file_open g old mid whole.joined begun whole.item whole.of (entered g old mid begun whole)))

-- where no front is laid, nothing was loaded
pub file_refused : (g : Geometry) (a : Outside) (old mid : Loader) → IsFileBegun g old mid → HasWholeItem g old → NoneIsLaid g a mid → RefusesItem g a old
file_refused g a old mid begun whole none image joined honest holds before =
    absurd (none image (after before.item.front (AFile (front_read old.gathered.held))) honest holds (file_laid g image old mid joined begun before.item (entered g old mid begun whole) before.files))

-- ---- how it is taken

-- The bytes are those of the head of a file, as many as it says.
pub head_long : (g : Geometry) (joined : List ℕ) (p : Progress) (held : List ℕ) → HasItem g joined p held → turn_now p ≡ FileTurn → (1 ≤ length held) × (5 + slice_index held 0 ≡ length held)
head_long g joined p held has at =
    let turn = turn_is g joined p held FileTurn at has in
    file_whole held (ap (λ (t : Turn). need_at g has.front.head.leaves (length has.front.nodes) t held) (sym turn) ∙ has.whole)

-- The head was accepted, and the file of its name was begun.
pub record IsHeadTaken (old mid : Loader) (p : Progress) (held name : List ℕ) : Type 0 where
  pub held_is : held ≡ old.gathered.held
  pub reads : (h : Geometry) (joined : List ℕ) → HasItem h joined old.progress held → IsRead h joined p []
  pub turn : turn_now old.progress ≡ FileTurn
  pub stream : AreOfOneStream old.progress p
  pub same : SameProgress p mid.progress
  pub room : mid.gathered.room ≡ old.gathered.room
  pub name_is : name ≡ (front_read old.gathered.held).name
  pub begins : BeginsFile p.geometry old.files mid.files name
  pub file : HasFile p.geometry mid.files

-- So the file was begun.
begun_by : (old mid : Loader) (p : Progress) (held name : List ℕ) → IsHeadTaken old mid p held name → IsFileBegun old.progress.geometry old mid
begun_by old mid p held name taken = record {
  reads = λ joined has. read_as old.progress.geometry joined [] p mid.progress taken.same
      (taken.reads old.progress.geometry joined (subst (λ (bytes : List ℕ). HasItem old.progress.geometry joined old.progress bytes) (sym taken.held_is) has));
  turn = taken.turn;
  stream = (taken.same.geometry ∙ taken.stream.0, taken.same.head ∙ taken.stream.1);
  room = taken.room;
  begins = subst (λ (n : List ℕ). BeginsFile old.progress.geometry old.files mid.files n) taken.name_is (subst (λ (g : Geometry). BeginsFile g old.files mid.files name) taken.stream.0 taken.begins);
  file = subst (λ (g : Geometry). HasFile g mid.files) taken.stream.0 taken.file;
}

-- The file is at hand, and isn't ended.
pub head_open : (old mid : Loader) (p : Progress) (held name : List ℕ) → IsHeadTaken old mid p held name → HasWholeItem old.progress.geometry old → HasOpen p.geometry mid
head_open old mid p held name taken whole =
    let begun = begun_by old mid p held name taken in
    subst (λ (g : Geometry). HasOpen g mid) (sym taken.stream.0) (record {
      front = after whole.item.front (AFile (front_read old.gathered.held));
      of = file_open old.progress.geometry old mid whole.joined begun whole.item whole.of (entered old.progress.geometry old mid begun whole);
    })

-- Where it can't end, no dump begins so.
pub head_refused : (a : Outside) (old : Loader) (p : Progress) (held name : List ℕ) (fault : LoadFault) {mid kept : Loader} → SameButFiles mid kept → IsHeadTaken old mid p held name → HasWholeItem old.progress.geometry old
    → WhereBad (NoneIsLaid p.geometry a mid) fault → WhereBad (RefusesItem old.progress.geometry a old) fault
head_refused a old p held name fault {mid} {kept} only taken whole bad = where_as (NoneIsLaid p.geometry a mid) (RefusesItem old.progress.geometry a old) fault
    (λ none. file_refused old.progress.geometry a old mid (begun_by old mid p held name taken) whole (subst (λ (g : Geometry). NoneIsLaid g a mid) taken.stream.0 none)) bad

-- It is taken.
pub head_took : (a b : Outside) (old : Loader) (p : Progress) (held name : List ℕ) (k : Gathering) {mid kept : Loader} → SameButFiles mid kept → IsHeadTaken old mid p held name → HasWholeItem old.progress.geometry old → IsFileKept p.geometry a b mid kept
    → k.held ≡ [] → k.room ≡ kept.gathered.room → IsWorld a → volume_bytes old.progress.geometry ≤ a.size → TakesItem old.progress.geometry a b old (record kept { gathered = k })
head_took a b old p held name k {mid} {kept} only taken whole end none room world large =
    let begun = begun_by old mid p held name taken in
    let kept_there : IsFileKept old.progress.geometry a b mid kept = subst (λ (g : Geometry). IsFileKept g a b mid kept) taken.stream.0 end in
    record {
      loads = file_loads old.progress.geometry a b old mid kept k whole begun kept_there none world large;
      is = file_taken old.progress.geometry a b old mid kept k whole begun kept_there none room;
      stream = one_stream old p kept taken.stream (ap (λ (q : Progress). q.geometry) only.progress ∙ taken.same.geometry) (ap (λ (q : Progress). q.head) only.progress ∙ taken.same.head);
    }
  where
    one_stream : (was : Loader) (q : Progress) (now : Loader) → AreOfOneStream was.progress q → now.progress.geometry ≡ q.geometry → now.progress.head ≡ q.head → AreOfOneStream was.progress now.progress
    one_stream was q now stream geometry head = (geometry ∙ stream.0, head ∙ stream.1)
