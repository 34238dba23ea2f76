-- A page is read through a group of frames.
use Rattle.std.proofs.Common.{◌≡◌, ◌∙◌, ℕ, ◌<◌, ◌≤◌, true, false, cond, not, List, length, All, Option, Some, None, is_some, nat_eq, slice_set, Result, Ok, Err, sym, ap, subst, arith}
use Rattle.std.specs.Prelude.{MatchOption, MatchResult, IfOk, slice_get}
use Rattle.std.specs.Map.{lookup}
use Rattle.std.proofs.lemmas.List.Elements.{All-cons, All-filter, All-set}
use Rattle.ex_base.specs.Area.{catalog_no}
use Rattle.buffer_groups.specs.Frames.{Frames, Brought, NotBrought, Lends, others, without, with_room}
use Rattle.buffer_groups.proofs.FrameLists.{All-with_room}
use Rattle.buffer_groups.proofs.GroupLists.{at_index}
use Rattle.ex_base.specs.declared.geometry.Geometry.{Geometry}
use Rattle.disk_model.specs.Outside.{Outside, ReadsOnly}
use Rattle.buffer_groups.specs.Groups.{GroupsKeep, SameKinds}
use Rattle.commits.specs.Room.{AreBehindLog}
use Rattle.open_scans.specs.GroupRows.{AreGroupsOf}
use Rattle.session_core.specs.Sessions.{SessionState, IsSession}
use Rattle.session_core.specs.Catalogs.{FramesLend, catalog_over, catalog_bytes}
use Rattle.session_core.specs.Steps.{OnlyFrames}

-- the catalog lies behind the log
pub at_catalog : catalog_no ≤ catalog_no
at_catalog = omega arith

all_others : (P : ℕ × List ℕ → Type 0) (f : Frames) (page : ℕ) → All P f.entries → All P (others f page)
all_others P f page all = elim (is_some (lookup (nat_eq page) f.entries)) as (λ b. All P (cond b (without page f.entries) (with_room f.policy f.cap f.entries))) [
  | true ↦ All-filter (λ (e : ℕ × List ℕ). not (nat_eq page e.0)) P f.entries all
  | false ↦ All-with_room P f.policy f.cap f.entries all
]

-- what holds of each frame of a group holds of each after a page was read through it
pub all_read : {T E : Type 0} (P : ℕ × List ℕ → Type 0) (image : Option (List ℕ)) (result : Result T E) (bytes : T → List ℕ) (disk : Option (List ℕ)) (old new : Frames) (page : ℕ)
    → MatchOption image (MatchResult result (λ s. Brought disk old new page (bytes s)) (λ _. NotBrought old new page)) (λ _. new ≡ old)
    → ((b : List ℕ) → P (page, b)) → All P old.entries → All P new.entries
all_read P None (Ok s) bytes disk old new page brought here all = subst (λ (f : Frames). All P f.entries) (sym brought.frames) (All-cons P (page, bytes s) (others old page) (here (bytes s)) (all_others P old page all))
all_read P None (Err e) bytes disk old new page unbrought here all = subst (λ (f : Frames). All P f.entries) (sym unbrought.frames) (All-with_room P old.policy old.cap old.entries all)
all_read P (Some b) result bytes disk old new page same here all = subst (λ (f : Frames). All P f.entries) (sym same) all

pub behind_read : (groups : List Frames) (old new : Frames) → slice_get groups 0 ≡ Some old → 0 < length groups
    → (All (λ (e : ℕ × List ℕ). catalog_no ≤ e.0) old.entries → All (λ (e : ℕ × List ℕ). catalog_no ≤ e.0) new.entries) → AreBehindLog groups → AreBehindLog (slice_set groups 0 new)
behind_read groups old new there some keeps behind =
    All-set (λ (f : Frames). All (λ (e : ℕ × List ℕ). catalog_no ≤ e.0) f.entries) groups 0 new
    (keeps (at_index (λ (f : Frames). All (λ (e : ℕ × List ℕ). catalog_no ≤ e.0) f.entries) groups 0 old there some behind)) behind

-- ---- a session with other frames

pub frames_session : (s : SessionState) (groups : List Frames) → All (λ (f : Frames). f.page_size ≡ s.geometry.page_size) groups → AreGroupsOf s.group_rows groups → AreBehindLog groups → IsSession s → IsSession (record s { groups = groups })
frames_session s groups sizes kinds behind is = record {
  log = is.log;
  meta = is.meta;
  units = is.units;
  pages = is.pages;
  in_use = is.in_use;
  sizes = sizes;
  groups = kinds;
  few_groups = is.few_groups;
  scans = is.scans;
  few_scans = is.few_scans;
  logged = is.logged;
  behind = behind;
  few_notes = is.few_notes;
  notes = is.notes;
  few_gained = is.few_gained;
  few_lost = is.few_lost;
  few_pages = is.few_pages;
  in_order = is.in_order;
  work = is.work;
  up = is.up;
  idle = is.idle;
}

pub other_frames : (s : SessionState) (groups : List Frames) (disk : Option (List ℕ)) → GroupsKeep disk s.groups groups → (AreBehindLog s.groups → AreBehindLog groups) → IsSession s → IsSession (record s { groups = groups })
other_frames s groups disk keeps behind is = frames_session s groups (keeps.sizes s.geometry.page_size is.sizes) (keeps.kinds ∙ is.groups) (behind is.behind) is

pub only_frames : {a b : Outside} (s now : SessionState) (groups : List Frames) → s ≡ now → ReadsOnly a b → GroupsKeep a.disk s.groups groups → OnlyFrames a b now (record s { groups = groups })
only_frames {a} {b} s now groups is reads keeps = record {
  reads = reads;
  same = ap (λ (t : SessionState). record t { groups = groups }) is;
  lends = subst (λ (t : SessionState). FramesLend a t → All (Lends a.disk) groups) is keeps.lends;
  sizes = λ n. subst (λ (t : SessionState). All (λ (f : Frames). f.page_size ≡ n) t.groups → All (λ (f : Frames). f.page_size ≡ n) groups) is (keeps.sizes n);
  kinds = subst (λ (t : SessionState). SameKinds t.groups groups) is keeps.kinds;
}

pub bytes_read : {T E : Type 0} (result : Result T E) (items : T → List ℕ) (w : Outside) (s now : SessionState) → s ≡ now → s.meta.geometry ≡ s.geometry
    → IfOk result (λ page. (d : List ℕ) → w.disk ≡ Some d → All (Lends w.disk) s.groups → items page ≡ catalog_over s.meta.geometry s.meta d)
    → IfOk result (λ page. (d : List ℕ) → w.disk ≡ Some d → FramesLend w now → items page ≡ catalog_bytes now d)
bytes_read (Err e) items w s now is same read = tt
bytes_read (Ok page) items w s now is same read =
    subst (λ (t : SessionState). (d : List ℕ) → w.disk ≡ Some d → FramesLend w t → items page ≡ catalog_bytes t d) is
    (λ d holds lends. read d holds lends ∙ ap (λ (g : Geometry). catalog_over g s.meta d) same)
