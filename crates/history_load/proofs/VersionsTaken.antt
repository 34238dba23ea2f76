-- A version that was taken.
use Rattle.std.proofs.Common.{◌≡◌, ◌<◌, ◌≤◌, ◌+◌, ◌-◌, ◌^◌, ℕ, zero, suc, Bool, true, false, nat_le, List, [], ◌∷◌, ◌++◌, length, map, Option, Some, None, refl, sym, ap, subst, ◌∙◌, arith, inl}
use Rattle.std.specs.Prelude.{if◌then◌else◌, IsTrue}
use Rattle.std.specs.List.{flat_map}
use Rattle.std.proofs.lemmas.List.{length-append, length_push}
use Rattle.std.proofs.lemmas.Option.{same_Some}
use Rattle.disk_model.specs.Changes.{ChangesWithin, SameBut}
use Rattle.disk_model.specs.Outside.{IsWorld, Outside}
use Rattle.disk_model.specs.Runs.{honest_on}
use Rattle.ex_base.specs.declared.geometry.Geometry.{Geometry}
use Rattle.ex_base.specs.declared.names.PageNo.{PageNo}
use Rattle.ex_base.specs.Area.{area_end, catalog_no}
use Rattle.ex_base.specs.Sizes.{most_page, volume_bytes}
use Rattle.object_files.specs.Catalog.{name_of}
use Rattle.object_files.specs.Edits.{entries_on, new_file}
use Rattle.object_records.specs.Record.{Content, Large, Small}
use Rattle.tree_store.proofs.Taking.{held_whole}
use Rattle.volume_model.specs.Homes.{home}
use Rattle.history_counts.specs.Pages.{needs_with_record}
use Rattle.history_counts.specs.declared.page_needs.PageNeeds.{PageNeeds}
use Rattle.history_fronts.specs.declared.turns.Turn.TheVariants.{Version as VersionTurn}
use Rattle.history_fronts.specs.Fronts.{AVersion, Front, IsSound, after, files_of, history_of, one_of, with_version}
use Rattle.history_items.specs.Gathering.{Gathering}
use Rattle.history_items.specs.Heads.{stream_head}
use Rattle.history_items.specs.Reads.{version_len, version_read}
use Rattle.history_items.specs.declared.head.Head.{Head}
use Rattle.history_links.specs.Linked.{number_in as placed_number}
use Rattle.history_model.specs.FilePages.{record_size}
use Rattle.history_model.specs.History.{HistoryFile, HistoryVersion, all_versions}
use Rattle.history_model.specs.Items.{IsContentItem, IsRootNumber, IsVersionItem, roots_most}
use Rattle.history_model.specs.Stream.{StreamHead, lack_of}
use Rattle.history_reads.specs.Kept.{AreOfOneStream}
use Rattle.history_reads.specs.Reads.{HasItem, IsRead, turn_now}
use Rattle.history_reads.specs.declared.progress.Progress.{Progress}
use Rattle.history_reads.proofs.Items.{version_whole}
use Rattle.history_fronts.specs.declared.turns.Turn.{Turn}
use Rattle.history_fronts.specs.Readings.{need_at}
use Rattle.history_writes.specs.Files.{AreFilesOn}
use Rattle.history_writes.specs.Pieces.{ArePiecesOn}
use Rattle.history_writes.specs.Places.{InPagesFrom}
use Rattle.history_writes.proofs.Staying.{pieces_stay, unit_stays}
use Rattle.history_load.specs.AtHand.{CountsVersion, FillsAs, HasFile, HasRoomForRecord, IsAtHand, IsFilledAs, PutsVersion}
use Rattle.history_load.specs.Loading.{HasFileIf, HasOpen, HasWholeItem, IsBetween, IsLaidTo, IsLoadedBefore, IsLoader, IsLoaderOf, IsNextWithin, IsOpen, KeepsFront, LoadsItem, NoneIsLaid, RefusesItem, SameButFiles, StandTo, StandsIfWhole, name_in, page_behind}
use Rattle.history_load.specs.declared.loader.Loader.{Loader}
use Rattle.history_load.proofs.Closing.{IsFileKept, kept_is, kept_loads, within_head}
use Rattle.history_load.proofs.Facts.{VersionIs, turn_is, version_is}
use Rattle.history_load.proofs.Growing.{files_stay}
use Rattle.history_load.proofs.Pieces.{SameProgress, read_as, room_for, same_nodes}

-- ---- a version fits

-- The numbers that a root may have are no fewer behind more leaves and nodes.
roots_wider : (leaves nodes more behind height : ℕ) → leaves ≤ more → nodes ≤ behind → roots_most leaves nodes height ≤ roots_most more behind height
roots_wider leaves nodes more behind zero le ge = le
roots_wider leaves nodes more behind (suc l) le ge = ge

-- A root's number is one of more.
root_wider : (o : Option PageNo) (most more : ℕ) → most ≤ more → IsRootNumber most o → IsRootNumber more o
root_wider None most more le is = tt
root_wider (Some number) most more le is = (is.0, omega (arith, is.1, le))

-- What a version holds fits behind more leaves and nodes.
content_wider : (g : Geometry) (leaves nodes more behind : ℕ) (content : Content) → leaves ≤ more → nodes ≤ behind → IsContentItem g leaves nodes content → IsContentItem g more behind content
content_wider g leaves nodes more behind (Small bytes) le ge is = is
content_wider g leaves nodes more behind (Large root) le ge is =
    (is.0, root_wider root.page (roots_most leaves nodes root.height) (roots_most more behind root.height) (roots_wider leaves nodes more behind root.height le ge) is.1)

-- A version fits behind the most leaves and nodes that a volume has.
pub version_fits : (g : Geometry) (loader : Loader) (joined : List ℕ) (has : HasItem g joined loader.progress loader.gathered.held) (v : HistoryVersion) → IsLoaderOf g loader has.front
    → IsVersionItem g has.front.head.leaves (length has.front.nodes) v → IsVersionItem g g.segs g.pages v
version_fits g loader joined has v of is =
    let room = room_for (g.pages - 1) g.segs (stream_head loader.progress.head) of.room in
    let leaves = ap (λ (h : StreamHead). h.leaves) has.keeps.head in
    let nodes = ap (λ (h : StreamHead). h.nodes) has.keeps.head in
    let within = within_head g joined loader.progress loader.gathered.held has in
    record {
      unique = is.unique;
      older = is.older;
      content = content_wider g has.front.head.leaves (length has.front.nodes) g.segs g.pages v.content (omega (arith, room.1, leaves)) (omega (arith, room.0, nodes, within.0)) is.content;
    }

-- The bytes of a version's item are as many as it says.
pub version_long : (g : Geometry) (joined : List ℕ) (p : Progress) (held : List ℕ) → HasItem g joined p held → turn_now p ≡ VersionTurn → (20 ≤ length held) × (version_len held ≡ length held)
version_long g joined p held has at =
    let turn = turn_is g joined p held VersionTurn at has in
    version_whole g has.front.head.leaves (length has.front.nodes) held (ap (λ (t : Turn). need_at g has.front.head.leaves (length has.front.nodes) t held) (sym turn) ∙ has.whole)

-- ---- where versions of the file are missing

-- What is kept of the file at hand while versions of it are missing.
pub file_missing : (g : Geometry) (loader : Loader) (n missing : ℕ) → suc n ≡ missing → HasFileIf g loader missing → HasFile g loader.files × IsFilledAs g loader.files loader.progress.needs × (map placed_number loader.files.versions.items ≡ loader.progress.numbers.numbers)
file_missing g loader n missing some has = subst (λ (m : ℕ). HasFileIf g loader m) (sym some) has

-- The pages of its records and of its index are still to come.
next_missing : (n missing first next : ℕ) (needs : PageNeeds) → suc n ≡ missing → IsNextWithin missing first next needs → next + 4 ≤ first + needs.others
next_missing n missing first next needs some within = subst (λ (m : ℕ). IsNextWithin m first next needs) (sym some) within

-- There is room for a record.
pub room_for_record : (g : Geometry) (loader : Loader) (f : Front) (n : ℕ) → suc n ≡ loader.progress.missing → IsLoaderOf g loader f → HasRoomForRecord g loader.files
room_for_record g loader f n some of =
    let room = room_for (g.pages - 1) g.segs (stream_head loader.progress.head) of.room in
    let file = file_missing g loader n loader.progress.missing some of.file in
    let next = next_missing n loader.progress.missing (page_behind loader.progress.head.nodes) loader.files.next loader.progress.needs some of.next in
    omega (arith, room.0, file.0.last.first, next, file.1.filled, loader.progress.few_pages)

-- A stream has few versions.
pub few_versions : (g : Geometry) (loader : Loader) (joined : List ℕ) (has : HasItem g joined loader.progress loader.gathered.held) → IsLoaderOf g loader has.front → loader.files.count < 2 ^ 63
few_versions g loader joined has of =
    let within = within_head g joined loader.progress loader.gathered.held has in
    omega (arith, of.count, has.keeps.files, within.1, has.to.head.few, most_page g)

-- ---- its record is put

-- What was done with a version before the end of its file.
pub record IsVersionPut (g : Geometry) (a b : Outside) (old mid : Loader) : Type 0 where
  pub reads : (h : Geometry) (joined : List ℕ) → HasItem h joined old.progress old.gathered.held → IsRead h joined mid.progress []
  pub turn : turn_now old.progress ≡ VersionTurn
  pub room : mid.gathered.room ≡ old.gathered.room
  pub file : HasFile g mid.files
  pub put : PutsVersion g a b old.files mid.files (version_read old.gathered.held)
  pub counts : CountsVersion old.files mid.files (version_read old.gathered.held)
  pub fills : FillsAs g old.files mid.files (version_read old.gathered.held)
  pub changes : ChangesWithin (InPagesFrom g old.files.next) a b
  pub stream : AreOfOneStream old.progress mid.progress

-- the needs with a record of so many bytes, by whether it fits the last page
abbrev needs_by : ℕ → PageNeeds → ℕ → Bool → PageNeeds
needs_by size needs n fits = if fits then record { others = needs.others; filled = needs.filled; room = needs.room - (n + 4) } else record { others = needs.others; filled = suc needs.filled; room = size - 16 - (n + 4) }

others_by : (size : ℕ) (needs : PageNeeds) (n : ℕ) (fits : Bool) → (needs_by size needs n fits).others ≡ needs.others
others_by size needs n true = refl
others_by size needs n false = refl

-- A record more needs no more pages of the other files.
others_same : (size : ℕ) (needs : PageNeeds) (n : ℕ) → (needs_with_record size needs n).others ≡ needs.others
others_same size needs n = others_by size needs n (nat_le (n + 4) needs.room)

-- The names of files are the same with a version more of the last one.
names_with : (files : List HistoryFile) (o : Option HistoryFile) (v : HistoryVersion) → map name_in (files ++ one_of (with_version v o)) ≡ map name_in (files ++ one_of o)
names_with [] None v = refl
names_with [] (Some f) v = refl
names_with (f ∷ files) o v = ap (λ (ns : List (List ℕ)). f.name ∷ ns) (names_with files o v)

module _ (g : Geometry) (a b : Outside) (old mid : Loader) (put : IsVersionPut g a b old mid) where
  -- what it did to what is kept of the stream
  put_is : (joined : List ℕ) (has : HasItem g joined old.progress old.gathered.held) → VersionIs g has.front (put.reads g joined has).front old.progress mid.progress (version_read old.gathered.held)
  put_is joined has = version_is g joined old.progress mid.progress old.gathered.held has (put.reads g joined has) put.turn

  -- The file at hand isn't ended.
  put_open : (whole : HasWholeItem g old) → IsOpen g mid (put.reads g whole.joined whole.item).front
  put_open whole =
      let is = put_is whole.joined whole.item in
      let file = file_missing g old mid.progress.missing old.progress.missing is.missing whole.of.file in
      let next = next_missing mid.progress.missing old.progress.missing (page_behind old.progress.head.nodes) old.files.next old.progress.needs is.missing whole.of.next in
      let others : mid.progress.needs.others ≡ old.progress.needs.others =
      ap (λ (n : PageNeeds). n.others) is.needs ∙ others_same g.page_size old.progress.needs (record_size (version_read old.gathered.held).content) in
      record {
        room = ap (λ (h : Head). lack_of (g.pages - 1) g.segs (stream_head h)) put.stream.1 ∙ whole.of.room;
        gathered = put.room ∙ whole.of.gathered;
        names = ap (λ (page : List ℕ). map name_of (entries_on page)) put.counts.catalog ∙ whole.of.names
            ∙ sym (names_with whole.item.front.files whole.item.front.hand (version_read old.gathered.held)) ∙ ap (λ (k : Front). map name_in (files_of k)) (sym is.front_is);
        file = put.file;
        filled = subst (λ (n : PageNeeds). IsFilledAs g mid.files n) (sym is.needs) (put.fills old.progress.needs file.1);
        numbers = put.counts.numbers ∙ ap (λ (ns : List ℕ). ns ++ (version_read old.gathered.held).unique ∷ []) (file.2 ∙ is.were) ∙ sym is.numbers;
        behind = omega (arith, whole.of.behind, put.counts.next, same_nodes old mid put.stream);
        next = omega (arith, next, others, put.counts.next, same_nodes old mid put.stream);
        count = omega (arith, whole.of.count, put.counts.count, is.missing, is.files);
      }

  -- ---- what stands on the disk

  -- Between the files with a version more.
  between_with : (image later : List ℕ) (first : ℕ) (f : Front) → 257 ≤ first → old.files.next ≤ area_end g → volume_bytes g ≤ length image → SameBut (InPagesFrom g old.files.next) image later
      → (at : IsBetween g image first f old.files) → IsAtHand g later mid.files (at.hand.versions ++ version_read old.gathered.held ∷ []) → IsBetween g later first (after f (AVersion (version_read old.gathered.held))) mid.files
  between_with image later first f low there size but at laid = record {
    hand = record { name = at.hand.name; versions = at.hand.versions ++ version_read old.gathered.held ∷ [] };
    hand_is = ap (with_version (version_read old.gathered.held)) at.hand_is;
    entries = at.entries;
    catalog = ap (λ (page : List ℕ). entries_on page) put.counts.catalog ∙ at.catalog ∙ ap (λ (n : ℕ). at.entries ++ new_file at.hand.name n ∷ []) (sym put.counts.file_no);
    before = subst (λ (n : ℕ). AreFilesOn g (home g later) first n f.files at.entries) (sym put.counts.next)
        (files_stay g (home g image) (home g later) first old.files.next f.files at.entries
        (λ page from below. unit_stays g old.files.next page image later (inl (omega (arith, low, from), omega (arith, below, there))) (λ other area past e. omega (arith, e, below, past)) size but) at.before);
    at_hand = laid;
  }

  -- The version is laid, where those before it are.
  put_laid : (whole : HasWholeItem g old) → IsWorld a → volume_bytes g ≤ a.size → (image joined : List ℕ) → IsTrue a.honest → a.disk ≡ Some image → (before : IsLoadedBefore g image joined old)
      → (later : List ℕ) × (b.disk ≡ Some later) × IsLaidTo g later mid (put.reads g joined before.item).front × SameBut (InPagesFrom g old.files.next) image later
  put_laid whole world large image joined honest holds before =
      let is = put_is joined before.item in
      let read = put.reads g joined before.item in
      let between : IsBetween g image (page_behind old.progress.head.nodes) before.item.front old.files =
      subst (λ (n : ℕ). StandTo g image (page_behind old.progress.head.nodes) before.item.front n old.files) (sym is.missing) before.files in
      let laid = put.put image between.hand.versions holds between.at_hand in
      let change = put.changes.disk honest image holds in
      let same : change.0 ≡ laid.0 = same_Some change.0 laid.0 (sym change.1 ∙ laid.1) in
      let but : SameBut (InPagesFrom g old.files.next) image laid.0 = subst (SameBut (InPagesFrom g old.files.next) image) same change.2 in
      let size : volume_bytes g ≤ length image = omega (arith, large, held_whole a world image holds) in
      let mine = put_is whole.joined whole.item in
      let room = room_for_record g old whole.item.front mid.progress.missing mine.missing whole.of in
      let file = file_missing g old mid.progress.missing old.progress.missing mine.missing whole.of.file in
      let more = between_with image laid.0 (page_behind old.progress.head.nodes) before.item.front (omega arith) (omega (arith, room, file.0.last.first)) size but between laid.2 in (
        laid.0,
        laid.1,
        record {
          missing = sym read.keeps.missing;
          sound = subst (IsSound g) (sym is.front_is) is.sound;
          between = subst (λ (k : Front). IsBetween g laid.0 (page_behind mid.progress.head.nodes) k mid.files) (sym is.front_is)
              (subst (λ (n : ℕ). IsBetween g laid.0 n (after before.item.front (AVersion (version_read old.gathered.held))) mid.files) (sym (same_nodes old mid put.stream)) more);
        },
        but,
      )

  -- Where no front is laid, no dump begins so.
  put_refused : (whole : HasWholeItem g old) → IsWorld a → volume_bytes g ≤ a.size → NoneIsLaid g b mid → RefusesItem g a old
  put_refused whole world large none = λ image joined honest holds before. absurd (
      let laid = put_laid whole world large image joined honest holds before in
      none laid.0 (put.reads g joined before.item).front (honest_on put.changes.only.goes honest) laid.1 laid.2)

-- ---- it is taken

-- A version more of the last file is one more of all.
count_versions : (files : List HistoryFile) (o : Option HistoryFile) (file : HistoryFile) (v : HistoryVersion) → o ≡ Some file
    → length (flat_map (λ (f : HistoryFile). f.versions) (files ++ one_of (with_version v o))) ≡ suc (length (flat_map (λ (f : HistoryFile). f.versions) (files ++ one_of o)))
count_versions [] None file v is = absurd (let no : None ≡ Some file = is in cc)
count_versions [] (Some f) file v is = omega (arith, length-append (f.versions ++ v ∷ []) [], length-append f.versions [], length_push f.versions v)
count_versions (f ∷ files) o file v is = omega (
  arith,
  length-append f.versions (flat_map (λ (x : HistoryFile). x.versions) (files ++ one_of (with_version v o))),
  length-append f.versions (flat_map (λ (x : HistoryFile). x.versions) (files ++ one_of o)),
  count_versions files o file v is,
)

-- The pieces of a front are those of the front with a version more.
pieces_with : (g : Geometry) (image : List ℕ) (f : Front) (v : HistoryVersion) → ArePiecesOn g image f → ArePiecesOn g image (after f (AVersion v))
pieces_with g image f v at = record { leaves = at.leaves; nodes = at.nodes }

module _ (g : Geometry) (a b c : Outside) (old mid kept : Loader) (k : Gathering) (whole : HasWholeItem g old) (put : IsVersionPut g a b old mid) (end : IsFileKept g b c mid kept) (none : k.held ≡ []) where
  -- It asks for the next item.
  pub version_taken : k.room ≡ kept.gathered.room → IsLoader g (record kept { gathered = k })
  version_taken room = kept_is g b c mid kept k end none whole.joined (put.reads g whole.joined whole.item) room (put_open g a b old mid put whole)

  -- Whatever was loaded before the version, it is loaded with it.
  pub version_loads : IsWorld a → IsWorld b → volume_bytes g ≤ a.size → LoadsItem g a c old (record kept { gathered = k })
  version_loads world later large = λ image joined honest holds before.
      let is = put_is g a b old mid put joined before.item in
      let laid = put_laid g a b old mid put whole world large image joined honest holds before in
      let size : volume_bytes g ≤ length image = omega (arith, large, held_whole a world image holds) in
      let within = within_head g joined old.progress old.gathered.held before.item in
      let head : old.progress.head.nodes ≡ before.item.front.head.nodes = ap (λ (h : StreamHead). h.nodes) before.item.keeps.head in
      let behind : catalog_no + length before.item.front.nodes < old.files.next = omega (arith, whole.of.behind, within.0, head) in
      let nodes : length (put.reads g joined before.item).front.nodes ≡ length before.item.front.nodes = ap (λ (f : Front). length f.nodes) is.front_is in
      let pieces = pieces_with g laid.0 before.item.front (version_read old.gathered.held) (pieces_stay g before.item.front old.files.next image laid.0 behind size laid.3 before.pieces) in
      let count : mid.files.count ≡ length (all_versions (history_of (after before.item.front (AVersion (version_read old.gathered.held))))) =
      put.counts.count ∙ ap suc before.count ∙ sym (count_versions before.item.front.files before.item.front.hand is.file (version_read old.gathered.held) is.hand) in
      kept_loads g b c mid kept k end none later (omega (arith, large, put.changes.only.goes.size)) laid.0 joined (put.reads g joined before.item) (omega (arith, behind, nodes, put.counts.next)) (honest_on put.changes.only.goes honest) laid.1 laid.2
      (subst (λ (f : Front). ArePiecesOn g laid.0 f) (sym is.front_is) pieces) (subst (λ (f : Front). mid.files.count ≡ length (all_versions (history_of f))) (sym is.front_is) count)

-- ---- by what the calls say

-- What was put, by the sizes that are kept of the stream.
pub version_put : (g h : Geometry) (a b : Outside) (old mid : Loader) (p : Progress) (v : HistoryVersion) → h ≡ g → v ≡ version_read old.gathered.held → SameProgress p mid.progress
    → ((k : Geometry) (joined : List ℕ) → HasItem k joined old.progress old.gathered.held → IsRead k joined p []) → turn_now old.progress ≡ VersionTurn → mid.gathered.room ≡ old.gathered.room → HasFile h mid.files → PutsVersion h a b old.files mid.files v
    → CountsVersion old.files mid.files v → FillsAs h old.files mid.files v → ChangesWithin (InPagesFrom h old.files.next) a b → AreOfOneStream old.progress mid.progress → IsVersionPut g a b old mid
version_put g h a b old mid p v sizes is same reads turn room file put counts fills changes stream = subst (λ (k : Geometry). IsVersionPut k a b old mid) sizes (record {
  reads = λ k joined has. read_as k joined [] p mid.progress same (reads k joined has);
  turn = turn;
  room = room;
  file = file;
  put = subst (λ (w : HistoryVersion). PutsVersion h a b old.files mid.files w) is put;
  counts = subst (λ (w : HistoryVersion). CountsVersion old.files mid.files w) is counts;
  fills = subst (λ (w : HistoryVersion). FillsAs h old.files mid.files w) is fills;
  changes = changes;
  stream = stream;
})

-- The file at hand isn't ended, of some front.
pub put_has_open : (g h : Geometry) (a b : Outside) (old mid : Loader) → h ≡ g → IsVersionPut g a b old mid → HasWholeItem g old → HasOpen h mid
put_has_open g h a b old mid sizes put whole = subst (λ (k : Geometry). HasOpen k mid) (sym sizes) (record { front = (put.reads g whole.joined whole.item).front; of = put_open g a b old mid put whole })

-- Where the file can't end, no dump begins so.
pub put_refuses : (g h : Geometry) (a b : Outside) (old mid : Loader) → h ≡ g → IsVersionPut g a b old mid → HasWholeItem g old → IsWorld a → volume_bytes g ≤ a.size → NoneIsLaid h b mid → RefusesItem g a old
put_refuses g h a b old mid sizes put whole world large none = put_refused g a b old mid put whole world large (subst (λ (k : Geometry). NoneIsLaid k b mid) sizes none)

-- What the end of the file did, by the sizes that are kept of the stream.
pub file_kept : (g h : Geometry) (b c : Outside) (mid kept : Loader) → h ≡ g → KeepsFront h mid kept → StandsIfWhole h b c mid kept → SameButFiles mid kept → kept.files.count ≡ mid.files.count → ChangesWithin (InPagesFrom h mid.files.next) b c → IsFileKept g b c mid kept
file_kept g h b c mid kept sizes keeps stands only count changes = subst (λ (k : Geometry). IsFileKept k b c mid kept) sizes (record { keeps = keeps; stands = stands; only = only; count = count; changes = changes })
