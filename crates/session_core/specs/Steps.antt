-- What a step of a session promises.
use Rattle.std.specs.Prelude.{◌≡◌, ℕ, All, Result, IfOk, IfErr, IsTrue, Bool, true, false}
use Rattle.disk_model.specs.Outside.{Outside, DiskOnly, Leaves, ReadsOnly}
use Rattle.buffer_groups.specs.Frames.{Frames}
use Rattle.buffer_groups.specs.Groups.{SameKinds}
use Rattle.table_model.specs.declared.reply.Reply.{Reply}
use Rattle.table_model.specs.declared.reply.Reply.TheVariants as reply
use Rattle.table_model.specs.declared.reply.Refusal.{Refusal}
use Rattle.table_model.specs.Requests.{Request}
use Rattle.table_model.specs.Requests as request
use Rattle.session_views.specs.declared.stop.Stop.{Stop}
use Rattle.session_views.specs.View.{View, ShowsNow, Stepped, StandsDuring}
use Rattle.session_core.specs.Sessions.{SessionState}
use Rattle.session_core.specs.Catalogs.{FramesLend, ReadingStops, catalog_bytes}
use Rattle.session_core.specs.Finding.{IfShown, IsOutside, LineStops}
use Rattle.session_core.specs.Meant.{meant}

-- The disk was read at most, and nothing of the session changed but its frames, which still have the bytes of their pages, in groups that are as they were
-- made.
pub record OnlyFrames (a b : Outside) (old new : SessionState) : Type 0 where
  pub reads : ReadsOnly a b
  pub same : new ≡ record old { groups = new.groups }
  pub lends : FramesLend a old → FramesLend a new
  pub sizes : (n : ℕ) → All (λ (f : Frames). f.page_size ≡ n) old.groups → All (λ (f : Frames). f.page_size ≡ n) new.groups
  pub kinds : SameKinds old.groups new.groups

-- why a step stops
abbrev pub Stops : Outside → Outside → SessionState → Stop → Type 0
Stops a b s = ReadingStops a b s.groups (catalog_bytes s)

-- the reply is a refusal
abbrev pub IsRefused : Reply → Type 0
IsRefused told = (why : Refusal) × (told ≡ reply.No why)

-- neither a commit nor a checkpoint
abbrev pub is_quiet : Request → Bool
is_quiet request.Commit = false
is_quiet request.Checkpoint = false
is_quiet r = true

abbrev pub IsQuiet : Request → Type 0
IsQuiet r = IsTrue (is_quiet r)

-- A step that writes nothing, and leaves the log and the open scans.
pub record StepsQuietly (a b : Outside) (old new : SessionState) (r : Request) (result : Result Reply Stop) : Type 0 where
  pub reads : ReadsOnly a b
  pub geometry : new.geometry ≡ old.geometry
  pub log : new.log ≡ old.log
  pub down : new.down ≡ old.down
  pub stops : IfErr result (Stops a b old)
  pub refused : IfOk result (λ told. IsRefused told → OnlyFrames a b old new)
  pub stepped : (before : View SessionState) → before.session ≡ old → ShowsNow meant a before → IfOk result (λ told. Stepped meant before r told new b)
  pub scans : new.scans ≡ old.scans

-- A step, from what stands outside before it to what stands there after it. It leaves the open scans.
pub record Steps (a b : Outside) (old new : SessionState) (r : Request) (result : Result Reply Stop) : Type 0 where
  pub only : DiskOnly a b
  pub geometry : new.geometry ≡ old.geometry
  pub down : new.down ≡ old.down
  pub stops : IfErr result (LineStops a b)
  pub sound : IfErr result (λ why. IfShown a old (λ before. IsOutside why))
  pub refused : IfOk result (λ told. IsRefused told → OnlyFrames a b old new)
  pub quiet : IsQuiet r → ReadsOnly a b × (new.log ≡ old.log)
  pub stepped : (before : View SessionState) → before.session ≡ old → ShowsNow meant a before → IfOk result (λ told. Stepped meant before r told new b)
  pub any_moment : (before : View SessionState) → before.session ≡ old → ShowsNow meant a before → Leaves a b (StandsDuring meant before.machine r)
  pub scans : new.scans ≡ old.scans
