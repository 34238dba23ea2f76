-- The ways of a line that changes objects: it reads, and is refused, stops, or goes on to an update.
use Rattle.std.proofs.Common.{◌≡◌, ◌∙◌, Option, Some, Ok, Err, refl, sym, ap, subst}
use Rattle.disk_model.specs.Outside.{Outside, IsWorld, Leaves}
use Rattle.disk_model.specs.Runs.{disk_trans, leaves_trans}
use Rattle.table_model.specs.declared.machine.Machine.{Machine}
use Rattle.table_model.specs.declared.machine.Pick.{Pick}
use Rattle.table_model.specs.declared.reply.Refusal.{Refusal}
use Rattle.table_model.specs.declared.reply.Refusal.TheVariants as refusal
use Rattle.table_model.specs.declared.reply.Reply.{Reply}
use Rattle.table_model.specs.declared.reply.Reply.TheVariants as reply
use Rattle.table_model.specs.Refusals.{refusal_of}
use Rattle.table_model.specs.Requests.{Request}
use Rattle.table_model.specs.Steps.{IsAllowed, IfAccepted}
use Rattle.table_model.proofs.Stepping.{refused}
use Rattle.session_views.specs.declared.stop.Stop.{Stop}
use Rattle.session_views.specs.View.{View, ShowsNow, StandsDuring, Stepped}
use Rattle.std.specs.Prelude.{is_some, true, false, IfErr, IfOk, Result}
use Rattle.volume_model.specs.Shown.{Held}
use Rattle.session_core.specs.Finding.{IfShown, IsOutside, LineStops}
use Rattle.session_core.specs.Contents.{VolumePages, pages_on}
use Rattle.transactions.specs.Contents.{LineShaped}
use Rattle.transactions.proofs.Contents.{read_pages, refused_shaped}
use Rattle.transactions.specs.Lines.{UpdatesLine, WentOn}
use Rattle.session_core.specs.Meant.{meant, pick_of, held_view}
use Rattle.session_core.specs.Sessions.{SessionState, IsSession}
use Rattle.session_core.specs.Steps.{OnlyFrames}
use Rattle.session_core.specs.Updates.{WritesUnused}
use Rattle.session_core.proofs.Undisturbed.{writes_nowhere}
use Rattle.disk_model.specs.Changes.{changes_trans}
use Rattle.session_core.proofs.Naming.{later_stops}
use Rattle.session_core.proofs.Quiet.{nothing_changed, quiet_moments, same_view, with_groups}

-- ---- what a line was admitted with

pub admitted_with : {A : Type 0} (P : A → Type 0) (given : A) (told : Result A Refusal) → told ≡ Ok given → IfOk told P → P given
admitted_with {A} P given told is holds = subst (λ (t : Result A Refusal). IfOk t P) is holds

pub refused_with : {A : Type 0} (P : Refusal → Type 0) (why : Refusal) (told : Result A Refusal) → told ≡ Err why → IfErr told P → P why
refused_with {A} P why told is holds = subst (λ (t : Result A Refusal). IfErr t P) is holds

-- ---- a line that read at most

module _ {a b : Outside} {old new : SessionState} (r : Request) (world : IsWorld a) (only : OnlyFrames a b old new) where
  pub line_refused : (why : Refusal) → IsSession old → IfShown a old (λ before. (after : View Held) → refusal_of before.machine r (pick_of (held_view before) r after) ≡ Some why) → UpdatesLine a b old new r (Ok (reply.No why))
  line_refused why is refuses = record {
    only = only.reads.nothing.only;
    writes = writes_nowhere old only.reads;
    geometry = ap (λ (s : SessionState). s.geometry) only.same;
    log = ap (λ (s : SessionState). s.log) only.same;
    down = ap (λ (s : SessionState). s.down) only.same;
    stops = tt;
    sound = tt;
    refused = λ _. only;
    stepped = λ before same now.
        let q = pick_of (held_view before) r (held_view (with_groups before new)) in
        let refuse = refuses before same now (held_view (with_groups before new)) in
        record {
          after = with_groups before new;
          is = refl;
          shows = same_view before same now only is.sizes;
          step = refused before.machine r q why (reply.No why) before.machine (sym refuse) refl refl (subst (λ (o : Option Refusal). IfAccepted o (IsAllowed before.machine r q)) (sym refuse) tt);
        };
    any_moment = λ before same now. quiet_moments r world only.reads before now;
    shaped = λ before same now. refused_shaped before.machine (pages_on a old) (pages_on b new) r why;
    scans = ap (λ (s : SessionState). s.scans) only.same;
  }

  pub line_stopped : (why : Stop) → LineStops a b why → IfShown a old (λ before. IsOutside why) → UpdatesLine a b old new r (Err why)
  line_stopped why stops sound = record {
    only = only.reads.nothing.only;
    writes = writes_nowhere old only.reads;
    geometry = ap (λ (s : SessionState). s.geometry) only.same;
    log = ap (λ (s : SessionState). s.log) only.same;
    down = ap (λ (s : SessionState). s.down) only.same;
    stops = stops;
    sound = sound;
    refused = tt;
    stepped = tt;
    any_moment = λ before same now. quiet_moments r world only.reads before now;
    shaped = tt;
    scans = ap (λ (s : SessionState). s.scans) only.same;
  }

-- no transaction is open
pub line_closed : {a : Outside} (s : SessionState) (r : Request) → IsWorld a → IsSession s → s.opened ≡ false → ((m : Machine) (q : Pick) → is_some m.working ≡ false → refusal_of m r q ≡ Some refusal.NoTxn)
    → UpdatesLine a a s s r (Ok (reply.No refusal.NoTxn))
line_closed {a} s r world is closed refuses =
    line_refused r world (nothing_changed a s) refusal.NoTxn is
    (λ before same now after. refuses before.machine (pick_of (held_view before) r after) (now.shows.shared.open_txn ∙ ap (λ (t : SessionState). t.opened) same ∙ closed))

-- ---- a line that goes on to an update

-- the session that was read, over the view before it
pub frames_of : {a b : Outside} {old mid : SessionState} (before : View SessionState) → before.session ≡ old → OnlyFrames a b old mid → mid ≡ record before.session { groups = mid.groups }
frames_of {a} {b} {old} {mid} before same only = only.same ∙ ap (λ (s : SessionState). record s { groups = mid.groups }) (sym same)

-- its counts, and whether a transaction is open, are those of before
pub counted_then : {a b : Outside} {old mid : SessionState} → OnlyFrames a b old mid → IsSession old → mid.units.geometry ≡ mid.geometry
counted_then only is = subst (λ (s : SessionState). s.units.geometry ≡ s.geometry) (sym only.same) is.units.geometry

pub opened_then : {a b : Outside} {old mid : SessionState} → OnlyFrames a b old mid → old.opened ≡ true → mid.opened ≡ true
opened_then only opened = ap (λ (s : SessionState). s.opened) only.same ∙ opened

-- a step from the view with other frames is one from the view before
pub stepped_back : {a b c : Outside} {old mid new : SessionState} (before : View SessionState) (r : Request) (told : Reply) → before.session ≡ old → OnlyFrames a b old mid → Stepped meant (with_groups before mid) r told new c → Stepped meant before r told new c
stepped_back {a} {b} {c} {old} {mid} {new} before r told same only stepped =
    let here = subst (λ (s : SessionState). Stepped meant (with_groups before s) r told new c) (frames_of before same only) stepped in
    record { after = here.after; is = here.is; shows = here.shows; step = here.step }

module _ {a b c : Outside} {old mid new : SessionState} (r : Request) (world : IsWorld a) (is : IsSession old) (read : OnlyFrames a b old mid) (went : WentOn b c mid new) where
  moments : (before : View SessionState) → before.session ≡ old → ShowsNow meant a before → Leaves a c (StandsDuring meant before.machine r)
  moments before same now = leaves_trans (StandsDuring meant before.machine r) (quiet_moments r world read.reads before now) (went.moments (with_groups before mid) refl (same_view before same now read is.sizes) r)

  writes : WritesUnused a c old
  writes = changes_trans (writes_nowhere old read.reads) (subst (λ (s : SessionState). WritesUnused b c s) read.same went.writes)

  pub update_stopped : (why : Stop) → LineStops b c why → IfShown a old (λ before. ShowsNow meant b (with_groups before mid) → IsOutside why) → UpdatesLine a c old new r (Err why)
  update_stopped why stops sound = record {
    only = disk_trans read.reads.nothing.only went.only;
    writes = writes;
    geometry = went.geometry ∙ ap (λ (s : SessionState). s.geometry) read.same;
    log = went.log ∙ ap (λ (s : SessionState). s.log) read.same;
    down = went.down ∙ ap (λ (s : SessionState). s.down) read.same;
    stops = later_stops a b c why read.reads stops;
    sound = λ before same now. sound before same now (same_view before same now read is.sizes);
    refused = tt;
    stepped = tt;
    any_moment = moments;
    shaped = tt;
    scans = went.scans ∙ ap (λ (s : SessionState). s.scans) read.same;
  }

  pub update_done : (told : Reply) → ((why : Refusal) → told ≡ reply.No why → ⊥) → IfShown a old (λ before. ShowsNow meant b (with_groups before mid) → Stepped meant (with_groups before mid) r told new c)
      → IfShown a old (λ before. ShowsNow meant b (with_groups before mid) → LineShaped before.machine (pages_on b mid) (pages_on c new) r told) → UpdatesLine a c old new r (Ok told)
  update_done told accepts steps lies = record {
    only = disk_trans read.reads.nothing.only went.only;
    writes = writes;
    geometry = went.geometry ∙ ap (λ (s : SessionState). s.geometry) read.same;
    log = went.log ∙ ap (λ (s : SessionState). s.log) read.same;
    down = went.down ∙ ap (λ (s : SessionState). s.down) read.same;
    stops = tt;
    sound = tt;
    refused = λ (why, is_no). absurd (accepts why is_no);
    stepped = λ before same now. stepped_back before r told same read (steps before same now (same_view before same now read is.sizes));
    any_moment = moments;
    shaped = λ before same now.
        subst (λ (p : VolumePages). LineShaped before.machine p (pages_on c new) r told) (read_pages read) (lies before same now (same_view before same now read is.sizes));
    scans = went.scans ∙ ap (λ (s : SessionState). s.scans) read.same;
  }
