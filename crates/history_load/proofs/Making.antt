-- A loader that begins.
use Rattle.std.proofs.Common.{◌≡◌, ◌-◌, ℕ, zero, suc, List, [], length, map, Some, None, refl, sym, ap, subst, ◌∙◌, arith}
use Rattle.std.proofs.lemmas.List.{append-nil}
use Rattle.ex_base.specs.declared.geometry.Geometry.{Geometry}
use Rattle.ex_base.specs.Bytes.{IsBytes}
use Rattle.history_counts.specs.Pages.{no_needs}
use Rattle.history_fronts.specs.Fronts.{Front, IsDumpHead, begun, files_of, history_of}
use Rattle.history_fronts.specs.Readings.{IsReadTo}
use Rattle.history_fronts.proofs.Follows.{one_front_of}
use Rattle.history_items.specs.Gathering.{item_most}
use Rattle.history_items.specs.Heads.{stream_head}
use Rattle.history_model.specs.History.{all_versions, numbered}
use Rattle.history_model.specs.Stream.{StreamHead, head_bytes, lack_of}
use Rattle.volume_model.specs.Homes.{home}
use Rattle.history_writes.specs.Files.{AreFilesOn}
use Rattle.history_writes.specs.Pieces.{ArePiecesOn}
use Rattle.history_reads.specs.Kept.{Keeps}
use Rattle.history_reads.specs.Reads.{IsRead}
use Rattle.history_reads.specs.declared.progress.Progress.{Progress}
use Rattle.history_reads.proofs.Behind.{none_asks}
use Rattle.object_files.specs.Catalog.{FileEntry, name_of}
use Rattle.object_files.specs.Edits.{entries_on}
use Rattle.history_load.specs.AtHand.{IsReady}
use Rattle.history_load.specs.Loading.{HasFileIf, IsLoadedTo, IsLoaderOf, IsNextWithin, StandTo, name_in, page_behind}
use Rattle.history_load.specs.declared.loader.Loader.{Loader}
use Rattle.history_load.proofs.Growing.{no_files_on}

begun_read : (g : Geometry) (head : StreamHead) (bytes : List ℕ) → IsDumpHead g head → IsBytes bytes → bytes ≡ head_bytes head → IsReadTo g bytes (begun head) []
begun_read g head bytes is are e = record {
  bytes = are;
  front = record { items = []; head = is; leads = refl; joined_is = e ∙ sym (append-nil (head_bytes head)) };
  asks = none_asks g (begun head);
}

-- what is kept of a stream of which the head came
pub record IsBegun (g : Geometry) (head : StreamHead) (p : Progress) (f : Front) : Type 0 where
  pub front_is : f ≡ begun head
  pub missing : p.missing ≡ 0
  pub files : p.files ≡ 0
  pub needs : p.needs ≡ no_needs

pub begun_is : (g : Geometry) (head : StreamHead) (bytes held : List ℕ) (p : Progress) → IsDumpHead g head → IsBytes bytes → bytes ≡ head_bytes head → held ≡ [] → (read : IsRead g bytes p held) → IsBegun g head p read.front
begun_is g head bytes held p is are e none read =
    let front : read.front ≡ begun head = (one_front_of g bytes read.front (begun head) held [] read.to (begun_read g head bytes is are e)).0 in
    let keeps : Keeps g (begun head) p = subst (λ (f : Front). Keeps g f p) front read.keeps in
    record { front_is = front; missing = keeps.missing; files = keeps.files; needs = keeps.needs }

-- the loader that was made
pub record IsMade (g : Geometry) (head : StreamHead) (loader : Loader) : Type 0 where
  pub head_is : stream_head loader.progress.head ≡ head
  pub held : loader.gathered.held ≡ []
  pub room : loader.gathered.room ≡ item_most g
  pub ready : IsReady g loader.files
  pub none : entries_on loader.files.catalog.items ≡ []
  pub next : loader.files.next ≡ page_behind loader.progress.head.nodes
  pub count : loader.files.count ≡ 0

pub made_of : (g : Geometry) (head : StreamHead) (loader : Loader) (f : Front) → IsMade g head loader → lack_of (g.pages - 1) g.segs head ≡ None → IsBegun g head loader.progress f → IsLoaderOf g loader f
made_of g head loader f made room is = record {
  room = subst (λ (h : StreamHead). lack_of (g.pages - 1) g.segs h ≡ None) (sym made.head_is) room;
  gathered = made.room;
  names = ap (map name_of) made.none ∙ ap (λ (k : Front). map name_in (files_of k)) (sym is.front_is);
  file = subst (λ (n : ℕ). HasFileIf g loader n) (sym is.missing) made.ready;
  behind = omega (arith, made.next);
  next = subst (λ (n : ℕ). IsNextWithin n (page_behind loader.progress.head.nodes) loader.files.next loader.progress.needs) (sym is.missing) (omega (arith, made.next));
  count = omega (arith, made.count, is.missing);
}

pub made_loaded : (g : Geometry) (image : List ℕ) (head : StreamHead) (bytes : List ℕ) (loader : Loader) → IsMade g head loader → IsDumpHead g head → IsBytes bytes → bytes ≡ head_bytes head → IsRead g bytes loader.progress loader.gathered.held → IsLoadedTo g image bytes loader
made_loaded g image head bytes loader made is are e read =
    let begins = begun_is g head bytes loader.gathered.held loader.progress is are e made.held read in
    record {
      read = read;
      pieces = subst (λ (f : Front). ArePiecesOn g image f) (sym begins.front_is) (record { leaves = λ i leaf there. absurd (nothing i leaf there); nodes = λ i node there. absurd (nothing i node there) });
      files = subst (λ (n : ℕ). StandTo g image (page_behind loader.progress.head.nodes) read.front n loader.files) (sym begins.missing)
          (subst (λ (f : Front). StandTo g image (page_behind loader.progress.head.nodes) f 0 loader.files) (sym begins.front_is)
          (subst (λ (es : List FileEntry). AreFilesOn g (home g image) (page_behind loader.progress.head.nodes) loader.files.next [] es) (sym made.none)
          (no_files_on g (home g image) (page_behind loader.progress.head.nodes) loader.files.next)));
      count = made.count ∙ sym (ap (λ (f : Front). length (all_versions (history_of f))) begins.front_is);
    }
  where
    nothing : {A : Type 0} (i : ℕ) (x : A) → numbered [] i ≡ Some x → ⊥
    nothing zero x there = absurd (cc)
    nothing (suc i) x there = absurd (cc)
