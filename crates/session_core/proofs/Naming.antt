-- The version that a line names, in a view, and calls that read one after the other.
use Rattle.std.proofs.Common.{◌≡◌, ◌∙◌, ℕ, List, All, Option, refl, sym, ap, subst, arith, inl, inr}
use Rattle.disk_model.specs.Outside.{Outside, ReadsOnly}
use Rattle.disk_model.specs.Runs.{reads_trans}
use Rattle.buffer_groups.specs.Frames.{Lends}
use Rattle.table_model.specs.declared.machine.BoundName.{BoundName}
use Rattle.table_model.specs.declared.reply.Refusal.{Refusal}
use Rattle.table_model.specs.declared.table.Table.{Table}
use Rattle.table_model.specs.Machines.{oid_of}
use Rattle.table_model.specs.Requests.{Reference, Bound, Numbered}
use Rattle.table_model.specs.Tables.{version_at}
use Rattle.session_views.specs.declared.stop.Stop.{Stop}
use Rattle.session_views.specs.declared.stop.Stop.TheVariants as stop
use Rattle.session_views.specs.View.{View, ShowsNow}
use Rattle.session_core.specs.Sessions.{SessionState}
use Rattle.session_core.specs.Meant.{meant}
use Rattle.session_core.specs.Steps.{OnlyFrames}
use Rattle.session_core.specs.Finding.{IsMissing, IsUnnamed, LineStops, oid_among}
use Rattle.volume_model.specs.Shown.{working_units}
use Rattle.session_core.proofs.OutOfRange.{none_out_of_range}
use Rattle.volume_model.proofs.Volumes.{shown_parts, shown_table}

-- ---- the names of a view

pub oid_here : {w : Outside} {v : View SessionState} → ShowsNow meant w v → (x : Reference) → oid_of v.machine x ≡ oid_among v.session.names x
oid_here {w} {v} now (Bound name) = ap (λ (names : List BoundName). oid_among names (Bound name)) now.shows.shared.names
oid_here {w} {v} now (Numbered page slot unique) = refl

pub oid_for : {w : Outside} {v : View SessionState} {s : SessionState} (names : List BoundName) (x : Reference) → names ≡ s.names → v.session ≡ s → ShowsNow meant w v → oid_of v.machine x ≡ oid_among names x
oid_for {w} {v} {s} names x are same now =
    oid_here now x ∙ ap (λ (t : SessionState). oid_among t.names x) same ∙ ap (λ (l : List BoundName). oid_among l x) (sym are)

-- a line that names nothing, as the session tells it
pub missing_here : {w : Outside} {v : View SessionState} {s : SessionState} (names : List BoundName) (x : Reference) (why : Refusal) → names ≡ s.names → v.session ≡ s → ShowsNow meant w v → IsUnnamed names x why → IsMissing v.machine x why
missing_here {w} {v} {s} names x why are same now (inl (is, none)) = inl (is, oid_for names x are same now ∙ none)
missing_here {w} {v} {s} names x why are same now (inr (is, (oid, named, out))) =
    let d = now.shows.decoded in
    let units = working_units d v.disk v.session.meta.working in
    inr (is, (oid, oid_for names x are same now ∙ named, ap (λ (t : Table). version_at t oid) (shown_table now.shows) ∙ none_out_of_range d.geometry d.records units now.shows.working (shown_parts now.shows) oid out))

-- ---- a line that reads twice

pub frames_twice : {a b c : Outside} {old mid new : SessionState} → OnlyFrames a b old mid → OnlyFrames b c mid new → OnlyFrames a c old new
frames_twice {a} {b} {c} {old} {mid} {new} one two = record {
  reads = reads_trans one.reads two.reads;
  same = two.same ∙ ap (λ (s : SessionState). record s { groups = new.groups }) one.same;
  lends = λ lends.
      let same : b.disk ≡ a.disk = one.reads.nothing.disk in
      subst (λ (o : Option (List ℕ)). All (Lends o) new.groups) same (two.lends (subst (λ (o : Option (List ℕ)). All (Lends o) mid.groups) (sym same) (one.lends lends)));
  sizes = λ n sizes. two.sizes n (one.sizes n sizes);
  kinds = two.kinds ∙ one.kinds;
}

pub later_stops : (a b c : Outside) (why : Stop) → ReadsOnly a b → LineStops b c why → LineStops a c why
later_stops a b c stop.Memory reads stops = tt
later_stops a b c stop.Disk reads stops = omega (arith, reads.nothing.only.goes.disk_faults, stops)
later_stops a b c (stop.Damaged page want got) reads stops = stops
later_stops a b c stop.Down reads stops = stops
