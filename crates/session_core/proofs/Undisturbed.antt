-- What no crash may change, and the records of the log, are left alone where only loose units are written.
use Rattle.std.proofs.Common.{◌≡◌, ℕ, List, Some, refl, sym, subst}
use Rattle.ex_base.specs.declared.geometry.Geometry.{Geometry}
use Rattle.disk_model.specs.Outside.{Outside, ReadsOnly}
use Rattle.disk_model.specs.Changes.{ChangesWithin, changes_nothing, changes_wider}
use Rattle.ex_base.specs.Area.{log_at}
use Rattle.op_log.specs.Log.{SaysLog}
use Rattle.op_log.specs.declared.record.LogRecord.{LogRecord}
use Rattle.op_log.proofs.OneList.{one_list}
use Rattle.tree_store.specs.Stored.{InRest, NoUnit}
use Rattle.page_alloc.specs.UnitSet.{used_at}
use Rattle.volume_port.proofs.Staying.{durable_apart}
use Rattle.volume_model.specs.Durable.{IsDurable}
use Rattle.session_views.specs.View.{View, ShowsNow}
use Rattle.session_core.specs.Meant.{meant}
use Rattle.session_core.specs.Sessions.{IsSession, SessionState}
use Rattle.session_core.specs.Updates.{WritesUnused}
use Rattle.volume_model.proofs.Showing.{session_geometry}
use Rattle.session_core.proofs.Updating.{changes_now, counted_now, reach_settled, update_stays}

-- what was read at most wrote nowhere
pub writes_nowhere : {a b : Outside} (s : SessionState) → ReadsOnly a b → WritesUnused a b s
writes_nowhere s reads = changes_nothing (InRest s.geometry (used_at s.units) NoUnit) reads.nothing

module _ {a b : Outside} {before : View SessionState} (now : ShowsNow meant a before) (session : IsSession before.session) (writes : WritesUnused a b before.session) where
  -- No byte is written that a crash image rests on.
  pub durable_unwritten : ChangesWithin (λ i. IsDurable now.shows.decoded before.disk i → ⊥) a b
  durable_unwritten =
      let d = now.shows.decoded in
      let s = before.session in
      changes_wider (InRest d.geometry (used_at s.units) NoUnit) (λ i. IsDurable d before.disk i → ⊥) (changes_now now session writes)
      (λ i written durable. durable_apart d before.disk NoUnit s.units (counted_now now session) (reach_settled now session) now.shows.parts i durable written)

  -- The log says the records that it said.
  pub records_unwritten : (records : List LogRecord) → SaysLog before.session.geometry records before.disk → (later : List ℕ) × ((b.disk ≡ Some later) × SaysLog before.session.geometry records later)
  records_unwritten records says =
      let d = now.shows.decoded in
      let left = update_stays now session before.session writes (λ unit is. is) refl in
      let geometry = session_geometry now.shows in
      let same : records ≡ d.records = one_list d.geometry (log_at d.geometry before.disk) records d.records (subst (λ (g : Geometry). SaysLog g records before.disk) geometry says) now.shows.parts.1.0.says in
      (left.0, (left.1.0, subst (λ (g : Geometry). SaysLog g records left.0) (sym geometry) (subst (λ (rs : List LogRecord). SaysLog d.geometry rs left.0) (sym same) left.1.1.committed.parts.1.0.says)))
