-- What an item that was taken does to what is kept of the stream.
use Rattle.std.proofs.Common.{◌≡◌, ◌<◌, ◌≤◌, ℕ, suc, List, [], ◌∷◌, ◌++◌, length, map, Option, Some, refl, sym, ap, subst, ◌∙◌, add-one, arith}
use Rattle.std.proofs.lemmas.List.{length_push, map-append}
use Rattle.ex_base.specs.declared.geometry.Geometry.{Geometry}
use Rattle.history_counts.specs.Numbers.{Numbers}
use Rattle.history_counts.specs.Pages.{needs_with_file, needs_with_files, needs_with_record, no_needs}
use Rattle.history_counts.specs.declared.page_needs.PageNeeds.{PageNeeds}
use Rattle.history_fronts.specs.declared.turns.Turn.{Turn}
use Rattle.history_fronts.specs.declared.turns.Turn.TheVariants.{File as FileTurn, Version as VersionTurn}
use Rattle.history_fronts.specs.Fronts.{AFile, AVersion, FitsTurn, Front, IsSound, Item, after, begun, files_of, one_of, turn_of, with_version}
use Rattle.history_fronts.proofs.Said.{Says, says_of}
use Rattle.history_items.specs.ItemLaws.{IsFileFront}
use Rattle.history_items.specs.Reads.{version_read}
use Rattle.history_model.specs.FilePages.{record_size}
use Rattle.history_model.specs.History.{HistoryFile, HistoryVersion, number_in}
use Rattle.history_model.specs.Items.{IsVersionItem}
use Rattle.history_reads.specs.Kept.{IsReached, Keeps, numbers_if}
use Rattle.history_reads.specs.Reads.{HasItem, IsRead, turn_now}
use Rattle.history_reads.specs.declared.progress.Progress.{Progress}
use Rattle.history_reads.proofs.Behind.{turn_same}
use Rattle.history_reads.proofs.Filed.{one_less_is}
use Rattle.history_reads.proofs.Items.{file_named, front_read, version_named}
use Rattle.history_reads.proofs.Reached.{reached_begun, reached_by, sound_begun}
use Rattle.history_load.proofs.Taken.{needs_file, needs_version, took}

-- ---- the front before it

pub turn_is : (g : Geometry) (joined : List ℕ) (p : Progress) (held : List ℕ) (turn : Turn) → turn_now p ≡ turn → (has : HasItem g joined p held) → turn_of has.front ≡ turn
turn_is g joined p held turn at has = sym (turn_same g has.front p has.keeps) ∙ at

pub says_front : (f : Front) (turn : Turn) → turn_of f ≡ turn → Says f.head (length f.leaves) (length f.nodes) (length (files_of f)) f.missing turn
says_front f turn e = says_of f.head (length f.leaves) (length f.nodes) (length (files_of f)) f.missing turn e

pub reached : (g : Geometry) (joined : List ℕ) (p : Progress) (held : List ℕ) (has : HasItem g joined p held) → IsReached has.front × IsSound g has.front
reached g joined p held has = reached_by g (begun has.front.head) has.front has.to.items (reached_begun has.front.head) (sound_begun g has.front.head) has.to.leads

-- ---- a version

pub record VersionIs (g : Geometry) (f k : Front) (was now : Progress) (v : HistoryVersion) : Type 0 where
  pub file : HistoryFile
  pub is : IsVersionItem g f.head.leaves (length f.nodes) v
  pub hand : f.hand ≡ Some file
  pub front_is : k ≡ after f (AVersion v)
  pub sound : IsSound g (after f (AVersion v))
  pub missing : suc now.missing ≡ was.missing
  pub files : now.files ≡ was.files
  pub needs : now.needs ≡ needs_with_record g.page_size was.needs (record_size v.content)
  pub were : was.numbers.numbers ≡ map number_in file.versions
  pub numbers : now.numbers.numbers ≡ map number_in file.versions ++ v.unique ∷ []

pub version_is : (g : Geometry) (joined : List ℕ) (was now : Progress) (held : List ℕ) (has : HasItem g joined was held) (read : IsRead g joined now []) → turn_now was ≡ VersionTurn → VersionIs g has.front read.front was now (version_read held)
version_is g joined was now held has read at =
    let t = took g joined was now held has read in
    let turn = turn_is g joined was held VersionTurn at has in
    let item = version_named g has.front.head.leaves (length has.front.nodes) (turn_of has.front) held t.item turn t.fits t.spelled_is in
    let fits : FitsTurn g has.front.head.leaves (length has.front.nodes) VersionTurn (AVersion (version_read held)) =
    subst (λ (i : Item). FitsTurn g has.front.head.leaves (length has.front.nodes) VersionTurn i) item (subst (λ (kind : Turn). FitsTurn g has.front.head.leaves (length has.front.nodes) kind t.item) turn t.fits) in
    let says : (has.front.head.leaves ≤ length has.front.leaves) × (has.front.head.nodes ≤ length has.front.nodes) × (0 < has.front.missing) = says_front has.front VersionTurn turn in
    let hand = (reached g joined was held has).0.hand says.2 in
    let front : read.front ≡ after has.front (AVersion (version_read held)) = t.front_is ∙ ap (after has.front) item in
    let keeps : Keeps g (after has.front (AVersion (version_read held))) now = subst (λ (f : Front). Keeps g f now) front read.keeps in
    let less = one_less_is has.front.missing in
    let later_is : with_version (version_read held) has.front.hand ≡ Some (record { name = hand.0.name; versions = hand.0.versions ++ version_read held ∷ [] }) = ap (with_version (version_read held)) hand.1 in
    let files_was : was.needs ≡ needs_with_files g.page_size no_needs (has.front.files ++ hand.0 ∷ []) = has.keeps.needs ∙ ap (λ (o : Option HistoryFile). needs_with_files g.page_size no_needs (has.front.files ++ one_of o)) hand.1 in
    let files_now : now.needs ≡ needs_with_files g.page_size no_needs (has.front.files ++ record { name = hand.0.name; versions = hand.0.versions ++ version_read held ∷ [] } ∷ []) =
    keeps.needs ∙ ap (λ (o : Option HistoryFile). needs_with_files g.page_size no_needs (has.front.files ++ one_of o)) later_is in
    record {
      file = hand.0;
      is = fits;
      hand = hand.1;
      front_is = front;
      sound = subst (λ (i : Item). IsSound g (after has.front i)) item t.sound;
      missing = omega (arith, less, keeps.missing, has.keeps.missing, says.2);
      files = keeps.files ∙ count_same has.front (version_read held) hand.0 hand.1 ∙ sym has.keeps.files;
      needs = files_now ∙ needs_version g.page_size no_needs has.front.files hand.0.name hand.0.versions (version_read held) ∙ ap (λ (n : PageNeeds). needs_with_record g.page_size n (record_size (version_read held).content)) (sym files_was);
      were = ap (λ (n : Numbers). n.numbers) (has.keeps.numbers ∙ ap numbers_if hand.1);
      numbers = ap (λ (n : Numbers). n.numbers) (keeps.numbers ∙ ap numbers_if later_is) ∙ map-append number_in hand.0.versions (version_read held ∷ []);
    }
  where
    count_files : (files : List HistoryFile) (one two : HistoryFile) → length (files ++ one ∷ []) ≡ length (files ++ two ∷ [])
    count_files [] one two = refl
    count_files (f ∷ files) one two = ap suc (count_files files one two)

    count_same : (f : Front) (v : HistoryVersion) (file : HistoryFile) → f.hand ≡ Some file → length (files_of (after f (AVersion v))) ≡ length (files_of f)
    count_same f v file hand =
        ap (λ (o : Option HistoryFile). length (f.files ++ one_of (with_version v o))) hand
        ∙ count_files f.files (record { name = file.name; versions = file.versions ++ v ∷ [] }) file
        ∙ ap (λ (o : Option HistoryFile). length (f.files ++ one_of o)) (sym hand)

-- ---- the head of a file

pub record FileIs (g : Geometry) (held : List ℕ) (f k : Front) (was now : Progress) : Type 0 where
  pub is : IsFileFront (front_read held)
  pub front_is : k ≡ after f (AFile (front_read held))
  pub sound : IsSound g (after f (AFile (front_read held)))
  pub whole : was.missing ≡ 0
  pub missing : now.missing ≡ (front_read held).versions
  pub files : now.files ≡ suc was.files
  pub more : length (files_of f) < f.head.files
  pub needs : now.needs ≡ needs_with_file was.needs
  pub numbers : now.numbers.numbers ≡ []

pub file_is : (g : Geometry) (joined : List ℕ) (was now : Progress) (held : List ℕ) (has : HasItem g joined was held) (read : IsRead g joined now []) → turn_now was ≡ FileTurn → FileIs g held has.front read.front was now
file_is g joined was now held has read at =
    let t = took g joined was now held has read in
    let turn = turn_is g joined was held FileTurn at has in
    let item = file_named g has.front.head.leaves (length has.front.nodes) (turn_of has.front) held t.item turn t.fits t.spelled_is in
    let fits : FitsTurn g has.front.head.leaves (length has.front.nodes) FileTurn (AFile (front_read held)) =
    subst (λ (i : Item). FitsTurn g has.front.head.leaves (length has.front.nodes) FileTurn i) item (subst (λ (kind : Turn). FitsTurn g has.front.head.leaves (length has.front.nodes) kind t.item) turn t.fits) in
    let says : (has.front.head.leaves ≤ length has.front.leaves) × (has.front.head.nodes ≤ length has.front.nodes) × (has.front.missing ≡ 0) × (length (files_of has.front) < has.front.head.files) = says_front has.front FileTurn turn in
    let front : read.front ≡ after has.front (AFile (front_read held)) = t.front_is ∙ ap (after has.front) item in
    let keeps : Keeps g (after has.front (AFile (front_read held))) now = subst (λ (f : Front). Keeps g f now) front read.keeps in
    record {
      is = fits;
      front_is = front;
      sound = subst (λ (i : Item). IsSound g (after has.front i)) item t.sound;
      whole = has.keeps.missing ∙ says.2;
      missing = keeps.missing;
      files = keeps.files ∙ length_push (files_of has.front) (record { name = (front_read held).name; versions = [] }) ∙ add-one (length (files_of has.front)) ∙ ap suc (sym has.keeps.files);
      more = says.3;
      needs = keeps.needs ∙ needs_file g.page_size no_needs (files_of has.front) (front_read held).name ∙ ap needs_with_file (sym has.keeps.needs);
      numbers = ap (λ (n : Numbers). n.numbers) keeps.numbers;
    }
