-- What a session sums up of what it shows.
use Rattle.std.specs.Prelude.{◌≡◌, ℕ, List, length, Result, IfOk, IfErr}
use Rattle.std.specs.List.{flat_map}
use Rattle.disk_model.specs.Outside.{Outside}
use Rattle.object_files.specs.Catalog.{FileEntry}
use Rattle.object_files.specs.Reads.{catalog_on}
use Rattle.table_model.specs.declared.machine.Machine.{Machine}
use Rattle.table_model.specs.Machines.{shown}
use Rattle.table_model.specs.Tables.{objects_of, versions_of}
use Rattle.session_views.specs.declared.stop.Stop.{Stop}
use Rattle.session_views.specs.View.{View, ShowsNow}
use Rattle.transactions.specs.declared.summary.Summary.{Summary}
use Rattle.transactions.specs.declared.summary.Totals.{Totals}
use Rattle.session_core.specs.Sessions.{SessionState}
use Rattle.session_core.specs.Meant.{meant}
use Rattle.session_core.specs.Damage.{TellsDamage, no_version}
use Rattle.session_core.specs.Finding.{IfShown, IsOutside, LineStops}
use Rattle.session_core.specs.Steps.{OnlyFrames}
use Rattle.session_core.specs.Tallies.{objects_named, versions_named}

-- The summary counts what the table that the machine shows has, and the machine's units in use.
pub record IsSummary (m : Machine) (s : Summary) : Type 0 where
  pub last : s.last ≡ (shown m).last
  pub files : s.files ≡ length (shown m).files
  pub objects : s.objects ≡ length (objects_of (shown m))
  pub versions : s.versions ≡ length (versions_of (shown m))
  pub pages : s.pages ≡ m.pages_used
  pub segs : s.segs ≡ m.segs_used

-- as many as the files of these entries have together
pub record AreTotals (m : Machine) (entries : List FileEntry) (totals : Totals) : Type 0 where
  pub objects : totals.objects ≡ length (flat_map (λ (e : FileEntry). objects_named (shown m) e.name) entries)
  pub versions : totals.versions ≡ length (flat_map (λ (e : FileEntry). versions_named (shown m) e.name) entries)

-- what holds of each view of the session that shows what stands outside, where the page is the catalog of the shown volume
abbrev pub IfCatalog : Outside → SessionState → List ℕ → (View SessionState → Type 0) → Type 0
IfCatalog w s page P = (before : View SessionState) → before.session ≡ s → (now : ShowsNow meant w before) → catalog_on page ≡ now.shows.working.catalog → P before

-- A session sums up what it shows, changes nothing but its frames, and goes on showing the same. Where it stops, that is no fault of a volume that shows, and a
-- damage that it tells stands there.
pub record SumsUp (a b : Outside) (old new : SessionState) (result : Result Summary Stop) : Type 0 where
  pub frames : OnlyFrames a b old new
  pub stops : IfErr result (LineStops a b)
  pub damage : IfErr result (TellsDamage a b old no_version)
  pub sound : IfErr result (λ why. IfShown a old (λ before. IsOutside why))
  pub sums : (before : View SessionState) → before.session ≡ old → ShowsNow meant a before → IfOk result (IsSummary before.machine)
  pub shows : (before : View SessionState) → before.session ≡ old → ShowsNow meant a before → ShowsNow meant b (record before { session = new })
