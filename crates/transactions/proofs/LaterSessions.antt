-- What holds of a session still, where nothing but its frames changed since.
use Rattle.std.proofs.Common.{◌≡◌, ◌≤◌, ◌<◌, ℕ, true, length, Err, ap, ◌∙◌, arith}
use Rattle.ex_base.specs.Sizes.{volume_bytes}
use Rattle.disk_model.specs.Outside.{Outside}
use Rattle.session_views.specs.declared.stop.Stop.{Stop}
use Rattle.session_views.specs.declared.stop.Stop.TheVariants as stop
use Rattle.table_model.specs.Requests.{Request}
use Rattle.session_core.specs.Finding.{IfShown, IsOutside, LineStops}
use Rattle.transactions.specs.Lines.{ScansLine}
use Rattle.session_core.specs.Sessions.{SessionState}
use Rattle.session_core.specs.Steps.{OnlyFrames, StepsQuietly}
use Rattle.transactions.proofs.ScansLeft.{scans_stay}

module _ {a b : Outside} {old mid : SessionState} (only : OnlyFrames a b old mid) where
  pub has_room : volume_bytes old.geometry ≤ a.size → volume_bytes mid.geometry ≤ b.size
  has_room le = omega (arith, le, ap (λ (s : SessionState). volume_bytes s.geometry) only.same, only.reads.nothing.only.goes.size)

  pub few_notes : (most : ℕ) → length old.notes < most → length mid.notes < most
  few_notes most lt = omega (arith, lt, ap (λ (s : SessionState). length s.notes) only.same)

  pub few_touched : (most : ℕ) → length old.meta.working < most → length mid.meta.working < most
  few_touched most lt = omega (arith, lt, ap (λ (s : SessionState). length s.meta.working) only.same)

  pub is_open_still : old.opened ≡ true → mid.opened ≡ true
  is_open_still is = ap (λ (s : SessionState). s.opened) only.same ∙ is

  -- a line on scans that stops there
  pub scans_stop : (r : Request) (why : Stop) → LineStops a b why → IfShown a old (λ before. IsOutside why) → ScansLine a b old mid r (Err why)
  scans_stop r why stops sound = record {
    reads = only.reads;
    geometry = ap (λ (s : SessionState). s.geometry) only.same;
    log = ap (λ (s : SessionState). s.log) only.same;
    down = ap (λ (s : SessionState). s.down) only.same;
    stops = stops;
    sound = sound;
    refused = tt;
    stepped = tt;
    scans = scans_stay old.scans mid.scans r (ap (λ (s : SessionState). s.scans) only.same);
  }

  -- a line that wants memory, once it has changed the session alone
  pub memory_stop : (new : SessionState) (r : Request) → new.geometry ≡ mid.geometry → new.log ≡ mid.log → new.down ≡ mid.down → new.scans ≡ mid.scans → StepsQuietly a b old new r (Err stop.Memory)
  memory_stop new r geometry log down scans = record {
    reads = only.reads;
    geometry = geometry ∙ ap (λ (s : SessionState). s.geometry) only.same;
    log = log ∙ ap (λ (s : SessionState). s.log) only.same;
    down = down ∙ ap (λ (s : SessionState). s.down) only.same;
    stops = tt;
    refused = tt;
    stepped = λ before same now. tt;
    scans = scans ∙ ap (λ (s : SessionState). s.scans) only.same;
  }
