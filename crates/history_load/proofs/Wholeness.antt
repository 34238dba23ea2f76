-- The end of the last file of a front.
use Rattle.std.proofs.Common.{◌≡◌, ◌<◌, ◌≤◌, ◌+◌, ◌-◌, ◌*◌, ◌^◌, ℕ, zero, suc, List, [], ◌∷◌, ◌++◌, length, map, Option, Some, sym, ap, subst, ◌∙◌, arith, inl}
use Rattle.std.specs.Prelude.{IsTrue}
use Rattle.std.specs.List.{AllByRecursion}
use Rattle.std.proofs.Math.Nat.{ℕ_set}
use Rattle.std.proofs.lemmas.Option.{same_Some}
use Rattle.std.specs.Coded.{le_prop}
use Rattle.disk_model.specs.Changes.{ChangesWithin, SameBut}
use Rattle.disk_model.specs.Outside.{IsWorld, Outside}
use Rattle.ex_base.specs.declared.geometry.Geometry.{Geometry}
use Rattle.ex_base.specs.Area.{area_end}
use Rattle.ex_base.specs.Order.{Rising}
use Rattle.ex_base.specs.Sizes.{volume_bytes}
use Rattle.ex_base.proofs.Each.{split_each}
use Rattle.ex_base.proofs.Options.{at_some}
use Rattle.object_files.specs.Catalog.{FileEntry}
use Rattle.object_files.specs.Edits.{entries_on}
use Rattle.tree_store.proofs.Taking.{held_whole}
use Rattle.volume_model.specs.Homes.{home}
use Rattle.history_counts.specs.Pages.{pages_by}
use Rattle.history_fronts.specs.Fronts.{Front, HasOlders, IsSound, files_of, one_of}
use Rattle.history_items.specs.Heads.{stream_head}
use Rattle.history_items.specs.Gathering.{Gathering}
use Rattle.history_model.specs.History.{HistoryFile, number_in}
use Rattle.history_model.specs.Stream.{lack_of}
use Rattle.history_reads.specs.Rising.{Rising-prop}
use Rattle.history_reads.specs.declared.progress.Progress.{Progress}
use Rattle.history_writes.specs.Files.{AreFilesOn}
use Rattle.history_writes.specs.Places.{InPagesFrom}
use Rattle.history_writes.proofs.Staying.{unit_stays}
use Rattle.history_load.specs.AtHand.{CantEnd, EndsFile, EndsWithin, HasRoomForFile, IsReady, IsWholeAtHand, file_entry, with_index}
use Rattle.history_load.specs.Loading.{HasFileIf, IsBetween, IsLoaderOf, IsNextWithin, IsOpen, NoneIsLaid, StandTo, page_behind}
use Rattle.history_load.specs.declared.files_at_hand.FilesAtHand.{FilesAtHand}
use Rattle.history_load.specs.declared.loader.Loader.{Loader}
use Rattle.history_load.proofs.Growing.{files_more, files_stay}
use Rattle.history_load.proofs.Pieces.{room_for}

-- ---- there is room for the end

pub room_for_file : (g : Geometry) (loader : Loader) (f : Front) → IsOpen g loader f → pages_by loader.progress.needs ≤ loader.progress.head.pages → HasRoomForFile g loader.files
room_for_file g loader f opened few =
    let room = room_for (g.pages - 1) g.segs (stream_head loader.progress.head) opened.room in
    subst (λ (n : ℕ). loader.files.pages.first + with_index n ≤ area_end g) (sym opened.filled.filled) (omega (arith, room.0, opened.file.last.first, opened.next, opened.behind, few))

-- ---- what is kept of the stream stays

-- two that have the same numbers are one, whatever proves what they are at least
pub made_anew : (p : Progress) (few : pages_by p.needs ≤ p.head.pages) (order : Rising p.numbers.numbers) (lengths : length p.lengths.lengths ≡ p.head.leaves) (longest : length p.lengths.longest ≡ p.head.leaves)
    → record { geometry = p.geometry; head = p.head; leaves = p.leaves; nodes = p.nodes; files = p.files; missing = p.missing; lengths = p.lengths; name = p.name; needs = p.needs; numbers = p.numbers; few_pages = few; in_order = order; all_lengths = lengths; all_longest = longest } ≡ p
made_anew p few order lengths longest = λ i. record {
  geometry = p.geometry;
  head = p.head;
  leaves = p.leaves;
  nodes = p.nodes;
  files = p.files;
  missing = p.missing;
  lengths = p.lengths;
  name = p.name;
  needs = p.needs;
  numbers = p.numbers;
  few_pages = le_prop few p.few_pages i;
  in_order = Rising-prop p.numbers.numbers order p.in_order i;
  all_lengths = ℕ_set (length p.lengths.lengths) p.head.leaves lengths p.all_lengths i;
  all_longest = ℕ_set (length p.lengths.longest) p.head.leaves longest p.all_longest i;
}

-- ---- where versions are missing

pub kept_open : (g : Geometry) (loader : Loader) (f : Front) → IsOpen g loader f → 0 < loader.progress.missing → IsLoaderOf g loader f
kept_open g loader f opened some = record {
  room = opened.room;
  gathered = opened.gathered;
  names = opened.names;
  file = has_file loader.progress.missing some;
  behind = opened.behind;
  next = is_next loader.progress.missing some;
  count = opened.count;
}
  where
    has_file : (n : ℕ) → 0 < n → HasFileIf g loader n
    has_file zero lt = absurd (omega (arith, lt))
    has_file (suc n) lt = (opened.file, opened.filled, opened.numbers)

    is_next : (n : ℕ) → 0 < n → IsNextWithin n (page_behind loader.progress.head.nodes) loader.files.next loader.progress.needs
    is_next zero lt = absurd (omega (arith, lt))
    is_next (suc n) lt = opened.next

pub stand_open : (g : Geometry) (image : List ℕ) (first : ℕ) (f : Front) (files : FilesAtHand) (missing : ℕ) → 0 < missing → IsBetween g image first f files → StandTo g image first f missing files
stand_open g image first f files zero lt between = absurd (omega (arith, lt))
stand_open g image first f files (suc missing) lt between = between

-- ---- where none is

pub kept_ended : (g : Geometry) (old new : Loader) (f : Front) → new.progress ≡ old.progress → new.gathered ≡ old.gathered → old.progress.missing ≡ 0 → IsReady g new.files → EndsWithin old.files new.files → IsOpen g old f → IsLoaderOf g new f
kept_ended g old new f progress gathered none ready within opened =
    let few : new.files.next ≤ old.files.next + with_index old.progress.needs.filled = subst (λ (n : ℕ). new.files.next ≤ old.files.next + with_index n) opened.filled.filled within.few in
    let next : new.files.next ≤ page_behind old.progress.head.nodes + pages_by old.progress.needs = omega (arith, few, opened.next) in
    record {
      room = ap (λ (p : Progress). lack_of (g.pages - 1) g.segs (stream_head p.head)) progress ∙ opened.room;
      gathered = ap (λ (k : Gathering). k.room) gathered ∙ opened.gathered;
      names = within.names ∙ opened.names;
      file = subst (λ (n : ℕ). HasFileIf g new n) (sym (ap (λ (p : Progress). p.missing) progress ∙ none)) ready;
      behind = subst (λ (p : Progress). page_behind p.head.nodes ≤ new.files.next) (sym progress) (omega (arith, opened.behind, within.behind));
      next = subst (λ (p : Progress). IsNextWithin p.missing (page_behind p.head.nodes) new.files.next p.needs) (sym progress)
          (subst (λ (n : ℕ). IsNextWithin n (page_behind old.progress.head.nodes) new.files.next old.progress.needs) (sym none) next);
      count = subst (λ (p : Progress). new.files.count + p.missing ≤ 2 ^ 32 * p.files) (sym progress) (subst (λ (n : ℕ). n + old.progress.missing ≤ 2 ^ 32 * old.progress.files) (sym within.count) opened.count);
    }

whole_at_hand : (g : Geometry) (image : List ℕ) (first : ℕ) (f : Front) (files : FilesAtHand) (between : IsBetween g image first f files) → IsSound g f → f.missing ≡ 0 → IsWholeAtHand g image files between.hand between.entries
whole_at_hand g image first f files between sound none =
    let rising = subst (λ (o : Option HistoryFile). AllByRecursion (λ (file : HistoryFile). Rising (map number_in file.versions)) (f.files ++ one_of o)) between.hand_is sound.rising in
    record {
      catalog = between.catalog;
      at_hand = between.at_hand;
      rising = (split_each (λ (file : HistoryFile). Rising (map number_in file.versions)) f.files (between.hand ∷ []) rising).1.0;
      olders = at_some f.hand between.hand HasOlders between.hand_is (sound.last none);
    }

pub none_laid : (g : Geometry) (a : Outside) (loader : Loader) → loader.progress.missing ≡ 0 → CantEnd g a loader.files → NoneIsLaid g a loader
none_laid g a loader none cant image f honest holds laid =
    cant image laid.between.hand laid.between.entries honest holds (whole_at_hand g image (page_behind loader.progress.head.nodes) f loader.files laid.between laid.sound (laid.missing ∙ none))

pub stand_ended : (g : Geometry) (a b : Outside) (old new : FilesAtHand) (first : ℕ) (image : List ℕ) (f : Front) → IsWorld a → volume_bytes g ≤ a.size → ChangesWithin (InPagesFrom g old.next) a b → EndsFile g a b old new → EndsWithin old new → 257 ≤ first → first ≤ old.next → old.next ≤ area_end g
    → IsTrue a.honest → a.disk ≡ Some image → IsBetween g image first f old → IsSound g f → f.missing ≡ 0 → (later : List ℕ) × (b.disk ≡ Some later) × StandTo g later first f 0 new
stand_ended g a b old new first image f world large changes ends within low behind there honest holds between sound none =
    let whole = whole_at_hand g image first f old between sound none in
    let ended = ends image between.hand between.entries honest holds whole in
    let change = changes.disk honest image holds in
    let is : change.0 ≡ ended.0 = same_Some change.0 ended.0 (sym change.1 ∙ ended.1) in
    let but : SameBut (InPagesFrom g old.next) image ended.0 = subst (SameBut (InPagesFrom g old.next) image) is change.2 in
    let size : volume_bytes g ≤ length image = omega (arith, large, held_whole a world image holds) in
    let before = files_stay g (home g image) (home g ended.0) first old.next f.files between.entries
    (λ page from below. unit_stays g old.next page image ended.0 (inl (omega (arith, low, from), omega (arith, below, there))) (λ other area later e. omega (arith, e, below, later)) size but) between.before in
    let more = files_more g (home g ended.0) first old.next new.next f.files between.entries between.hand (file_entry between.hand.name old.pages.file_no ended.2.level ended.2.root) behind within.behind before ended.2.stands in
    let files : files_of f ≡ f.files ++ between.hand ∷ [] = ap (λ (o : Option HistoryFile). f.files ++ one_of o) between.hand_is in (
      ended.0,
      ended.1,
      subst (λ (fs : List HistoryFile). AreFilesOn g (home g ended.0) first new.next fs (entries_on new.catalog.items)) (sym files)
          (subst (λ (es : List FileEntry). AreFilesOn g (home g ended.0) first new.next (f.files ++ between.hand ∷ []) es) (sym ended.2.catalog) more),
    )
