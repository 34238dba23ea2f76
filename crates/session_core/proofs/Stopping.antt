-- Why a step on the catalog stops, and quiet steps as steps.
use Rattle.std.proofs.Common.{◌≡◌, ◌≢◌, ◌⊎◌, ℕ, Result, refl, sym, ap, subst, inl, inr, arith, ◌∙◌, Ok, Err}
use Rattle.std.proofs.lemmas.Result.{IfErr-weaker}
use Rattle.disk_model.specs.Outside.{Outside, IsWorld}
use Rattle.table_model.specs.declared.reply.Reply.{Reply}
use Rattle.table_model.specs.declared.reply.Refusal.{Refusal}
use Rattle.table_model.specs.declared.reply.Reply.TheVariants as reply
use Rattle.table_model.specs.Requests.{Request}
use Rattle.ex_base.specs.declared.faults.Seen.{Seen}
use Rattle.ex_base.specs.declared.names.PageNo.{PageNo}
use Rattle.session_views.specs.declared.stop.Stop.{Stop}
use Rattle.session_views.specs.declared.stop.Stop.TheVariants as stop
use Rattle.session_views.specs.View.{View, ShowsNow}
use Rattle.session_core.specs.Sessions.{SessionState, IsSession}
use Rattle.session_core.specs.Catalogs.{IsDamaged, FramesLend, catalog_bytes}
use Rattle.object_files.specs.Catalog.{CatalogOf}
use Rattle.session_core.specs.Meant.{meant}
use Rattle.session_core.specs.Finding.{IfShown, IsOutside, LineStops}
use Rattle.session_core.specs.Steps.{Steps, Stops, StepsQuietly}
use Rattle.session_core.proofs.Quiet.{quiet_moments, shown_lends}
use Rattle.volume_port.proofs.HeldCatalog.{reads_catalog}

-- ---- why it stops

pub kinds_differ : (one other : ℕ) → one ≡ 1 → other ≡ 0 → one ≡ other → ⊥
kinds_differ one other is_one is_other same = absurd (omega (arith, is_one, is_other, same))

pub damage_shows : (a : Outside) (old : SessionState) (page : PageNo) (want got : Seen) → IsDamaged a old.groups (catalog_bytes old) page want got → want ≢ got
damage_shows a old page want got damage = λ same. kinds_differ want.kind got.kind (ap (λ (s : Seen). s.kind) damage.want_is) (ap (λ (s : Seen). s.kind) damage.got_is) (ap (λ (s : Seen). s.kind) same)

-- where the view shows, a step stops at a fault of the disk or want of memory
pub sound_stop : {a : Outside} {old : SessionState} (b : Outside) → IsSession old → (before : View SessionState) → before.session ≡ old → ShowsNow meant a before → (why : Stop) → Stops a b old why → (why ≡ stop.Disk) ⊎ (why ≡ stop.Memory)
sound_stop b session before from now stop.Memory stops = inr refl
sound_stop b session before from now stop.Disk stops = inl refl
sound_stop b session before from now stop.Down stops = absurd stops
sound_stop {a} b session before from now (stop.Damaged page want got) stops =
    let here = subst IsSession (sym from) session in
    let lends = subst (λ (s : SessionState). FramesLend a s) from (shown_lends now here.sizes) in
    absurd (stops.isnt before.disk now.holds lends now.shows.working.catalog (subst (λ (s : SessionState). CatalogOf (catalog_bytes s before.disk) now.shows.working.catalog) from (reads_catalog now.shows)))

-- ---- why the catalog was not read

pub unread_stops : (a b : Outside) (old : SessionState) (why : Stop) → Stops a b old why → LineStops a b why
unread_stops a b old stop.Memory stops = stops
unread_stops a b old stop.Disk stops = stops
unread_stops a b old (stop.Damaged page want got) stops = damage_shows a old page want got stops
unread_stops a b old stop.Down stops = stops

-- What comes from outside of the volume is a fault of the disk or want of memory.
pub disk_or_memory : (why : Stop) → IsOutside why → (why ≡ stop.Disk) ⊎ (why ≡ stop.Memory)
disk_or_memory stop.Disk h = inl refl
disk_or_memory stop.Memory h = inr refl
disk_or_memory stop.Down h = absurd h
disk_or_memory (stop.Damaged page want got) h = absurd h

outside_by : (why : Stop) → (why ≡ stop.Disk) ⊎ (why ≡ stop.Memory) → IsOutside why
outside_by why (inl is) = subst IsOutside (sym is) tt
outside_by why (inr is) = subst IsOutside (sym is) tt

pub unread_outside : {a : Outside} {old : SessionState} (b : Outside) (why : Stop) → IsSession old → Stops a b old why → IfShown a old (λ before. IsOutside why)
unread_outside b why is stops = λ before same now. outside_by why (sound_stop b is before same now why stops)

-- ---- a step that writes nothing

-- A quiet step is a step.
pub quietly : {a b : Outside} {old new : SessionState} (r : Request) (result : Result Reply Stop) → IsWorld a → IsSession old → StepsQuietly a b old new r result → Steps a b old new r result
quietly {a} {b} {old} r result world session quiet = record {
  only = quiet.reads.nothing.only;
  geometry = quiet.geometry;
  down = quiet.down;
  stops = IfErr-weaker result (Stops a b old) (LineStops a b) (unread_stops a b old) quiet.stops;
  sound = IfErr-weaker result (Stops a b old) (λ why. IfShown a old (λ before. IsOutside why)) (λ why stops. unread_outside b why session stops) quiet.stops;
  refused = quiet.refused;
  quiet = λ _. (quiet.reads, quiet.log);
  stepped = quiet.stepped;
  any_moment = λ before same now. quiet_moments r world quiet.reads before now;
  scans = quiet.scans;
}

-- ---- results that differ

pub no_error : {T E P : Type 0} (result : Result T E) (x : T) (e : E) → result ≡ Ok x → result ≡ Err e → P
no_error result x e given same = absurd (let both : Ok x ≡ Err e = sym given ∙ same in cc)

pub disk_alone : {T : Type 0} (result : Result T Stop) → result ≡ Err stop.Disk → result ≡ Err stop.Memory → ⊥
disk_alone result disk memory = (let both : Err stop.Disk ≡ Err stop.Memory = sym disk ∙ memory in cc)

pub refused_apart : (result : Result Reply Stop) (why : Refusal) → result ≡ Ok (reply.No why) → result ≡ Ok reply.Checkpoint → ⊥
refused_apart result why refused done = (let both : Ok (reply.No why) ≡ Ok reply.Checkpoint = sym refused ∙ done in cc)
