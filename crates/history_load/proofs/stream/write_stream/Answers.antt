use Rattle.std.proofs.Common.{◌≡◌, ◌≤◌, ◌∙◌, ℕ, List, Err, Some, drop, refl, sym, ap, subst, arith, IsTrue}
use Rattle.disk_model.specs.Outside.{DiskOnly, IsWorld, Outside, WritesNothing}
use Rattle.ex_base.specs.declared.geometry.Geometry.{Geometry}
use Rattle.ex_base.specs.Bytes.{IsBytes}
use Rattle.ex_base.specs.Sizes.{volume_bytes}
use Rattle.history_items.specs.Heads.{stream_head}
use Rattle.history_items.specs.declared.head.Head.{Head}
use Rattle.history_load.specs.Loading.{IsLoadedTo, IsLoader}
use Rattle.history_load.specs.Staying.{StaysEmpty}
use Rattle.history_load.specs.Streams.{IsDrawn, LoadsAll, NoneBehindHead, StreamRefused, TakesAndWrites, most_behind}
use Rattle.history_load.specs.declared.faults.LoadFault.TheVariants.{Stream, Disk, Memory}
use Rattle.history_load.specs.declared.loader.Loader.{Loader}
use Rattle.history_load.proofs.EmptyVolumesStay.{staying_joins, taking_stays}
use Rattle.history_load.proofs.EndFaults.{test_bad}
use Rattle.history_load.proofs.Feeding.{same_handed, takes_disk, takes_joined, takes_source}
use Rattle.history_load.proofs.HeadsSpelled.{head_fits, head_is_bytes}
use Rattle.history_load.proofs.StreamsWritten.{all_loaded, draws_all, none_is, none_loaded, nothing_stays, tested_none, written_loads}
use Rattle.history_load.proofs.WholeStreams.{CanEnd, can_end, versions_counted}
use Rattle.history_model.specs.Stream.{head_bytes}
use Rattle.history_load.proofs.stream.write_stream.Given as given
use Rattle.ex_base.proofs.Results.{if_err_handed}
use Rattle.history_load.specs.Faults.{LoadCause, fault_of_finish}
use Rattle.ex_base.proofs.Handed.{no_value, not_given}
use Rattle.history_load.proofs.EndedBy.{ends_with}
use Rattle.history_load.proofs.Causes.{cause_since, finish_cause, memory_no_stream, disk_no_stream}
use Rattle.history_load.proofs.stream.write_stream.Goals as goal
use Rattle.history_load.proofs.stream.write_stream.Goals.{After-feed_all}

-- ---- a loader of which the head came

made_is : (g : Geometry) (head : Head) (loader : Loader) → ((bytes : List ℕ) → IsBytes bytes → bytes ≡ head_bytes (stream_head head) → IsLoader g loader) → IsLoader g loader
made_is g head loader is = is (head_bytes (stream_head head)) (head_is_bytes (stream_head head)) refl

pub feed_all-requires-clause-room : goal.feed_all-requires-clause-room
feed_all-requires-clause-room g c =
    let made = made_is c.args.volume.now.geometry c.in_ok-head.head c.in_ok-loader.loader c.in_ok-loader.ensures.is in
    subst (λ (x : Geometry). volume_bytes x ≤ (g.H.World.outside c.take_head.new.source).size) (sym made.read.keeps.geometry) (omega (arith, c.take_head.ensures.only.goes.size, c.requires.room))

pub feed_all-requires-clause-is : goal.feed_all-requires-clause-is
feed_all-requires-clause-is g c =
    let made = made_is c.args.volume.now.geometry c.in_ok-head.head c.in_ok-loader.loader c.in_ok-loader.ensures.is in
    subst (λ (x : Geometry). IsLoader x c.in_ok-loader.loader) (sym made.read.keeps.geometry) made

-- ---- the rest was taken

module _ (g : given.Over) (c : After-feed_all g) where
  made_geometry : c.in_ok-loader.loader.progress.geometry ≡ c.args.volume.now.geometry
  made_geometry = (made_is c.args.volume.now.geometry c.in_ok-head.head c.in_ok-loader.loader c.in_ok-loader.ensures.is).read.keeps.geometry

  fed_geometry : c.feed_all.new.loader.progress.geometry ≡ c.args.volume.now.geometry
  fed_geometry = c.feed_all.ensures.stream.0 ∙ made_geometry

  few : c.feed_all.ensures.draws.0 ≤ most_behind c.args.volume.now.geometry c.in_ok-head.head
  few =
      let most : most_behind c.in_ok-loader.loader.progress.geometry c.in_ok-loader.loader.progress.head ≡ most_behind c.args.volume.now.geometry c.in_ok-head.head = (λ i. most_behind (made_geometry i) (c.in_ok-loader.ensures.head i)) in
      omega (arith, c.feed_all.ensures.draws.1, most)

  draws : (d : Outside) → d.left ≡ (g.H.World.outside c.feed_all.new.host).left → (stream : List ℕ) → (g.H.World.outside c.args.host.now).left ≡ Some stream → (m : ℕ) × IsDrawn stream m × (d.left ≡ Some (drop m stream))
  draws d same = draws_all c.args.volume.now.geometry (g.H.World.outside c.args.host.now) (g.H.World.outside c.take_head.new.source) (g.H.World.outside c.feed_all.new.host) c.in_ok-head.head c.in_ok-loader.loader c.feed_all.new.loader
      c.take_head.ensures.only c.in_ok-head.ensures.head c.in_ok-head.ensures.is c.in_ok-head.ensures.room c.in_ok-loader.ensures.loaded c.feed_all.ensures.draws.0 few c.feed_all.ensures.draws.2 d same

  fed_stays : StaysEmpty (g.H.World.outside c.args.host.now) (g.H.World.outside c.feed_all.new.host) c.args.volume.now
  fed_stays =
      staying_joins (g.H.World.outside c.args.host.now) (g.H.World.outside c.take_head.new.source) (g.H.World.outside c.feed_all.new.host) c.args.volume.now
      (taking_stays (g.H.World.outside c.args.host.now) (g.H.World.outside c.take_head.new.source) c.args.volume.now (g.H.World.is_world c.args.host.now) c.take_head.ensures.only)
      (c.feed_all.ensures.stays c.args.volume.now c.requires.opened (sym made_geometry))

  fed_only : TakesAndWrites (g.H.World.outside c.args.host.now) (g.H.World.outside c.feed_all.new.host)
  fed_only = takes_joined (takes_source c.take_head.ensures.only) c.feed_all.ensures.only

pub returns-in_err-head-clause-stays : goal.returns-in_err-head-clause-stays
returns-in_err-head-clause-stays g c = taking_stays (g.H.World.outside c.args.host.now) (g.H.World.outside c.take_head.new.source) c.args.volume.now (g.H.World.is_world c.args.host.now) c.take_head.ensures.only

pub returns-in_err-loader-clause-stays : goal.returns-in_err-loader-clause-stays
returns-in_err-loader-clause-stays g c = taking_stays (g.H.World.outside c.args.host.now) (g.H.World.outside c.take_head.new.source) c.args.volume.now (g.H.World.is_world c.args.host.now) c.take_head.ensures.only

pub returns-in_err-feed_all-clause-refused : goal.returns-in_err-feed_all-clause-refused
returns-in_err-feed_all-clause-refused g c fault stream image e honest has holds =
    let at = (goal.at.returns-in_err-feed_all-clause-refused g c).After-feed_all in
    let same : c.in_err-feed_all.field-0.0 ≡ Stream fault = same_handed c.from_residual-in_err-feed_all.result c.in_err-feed_all.field-0.0 (Stream fault) c.from_residual-in_err-feed_all.ensures.1 e in
    let told = c.in_err-feed_all.ensures.refused fault (ap Err same) in
    subst (StreamRefused c.args.volume.now.geometry stream) (sym told.0)
    (none_loaded c.args.volume.now.geometry (g.H.World.outside c.args.host.now) (g.H.World.outside c.take_head.new.source) (g.H.World.outside c.feed_all.new.host) c.in_ok-head.head c.in_ok-loader.loader c.feed_all.new.loader
    c.take_head.ensures.only c.in_ok-head.ensures.head c.in_ok-head.ensures.is c.in_ok-head.ensures.room c.in_ok-loader.ensures.loaded
    (subst (λ (x : Geometry). NoneBehindHead x (g.H.World.outside c.take_head.new.source) c.in_ok-loader.loader) (made_geometry g at) told.1) stream image honest has holds)

pub returns-in_err-feed_all-clause-draws : goal.returns-in_err-feed_all-clause-draws
returns-in_err-feed_all-clause-draws g c = draws g (goal.at.returns-in_err-feed_all-clause-draws g c).After-feed_all (g.H.World.outside c.feed_all.new.host) refl

pub returns-in_err-feed_all-clause-stays : goal.returns-in_err-feed_all-clause-stays
returns-in_err-feed_all-clause-stays g c = fed_stays g (goal.at.returns-in_err-feed_all-clause-stays g c).After-feed_all

-- ---- its end is asked for

fed_is : (old new : Loader) → new.progress.geometry ≡ old.progress.geometry → IsLoader old.progress.geometry new → CanEnd new.progress.geometry new
fed_is old new same is = can_end new.progress.geometry new (subst (λ (x : Geometry). IsLoader x new) (sym same) is)

pub finish-requires-clause-room : goal.finish-requires-clause-room
finish-requires-clause-room g c =
    let at = (goal.at.finish-requires-clause-room g c).After-feed_all in
    subst (λ (x : Geometry). volume_bytes x ≤ (g.H.World.outside c.feed_all.new.host).size) (sym (fed_geometry g at)) (omega (arith, c.take_head.ensures.only.goes.size, c.feed_all.ensures.only.goes.size, c.requires.room))

pub finish-requires-clause-overlay : goal.finish-requires-clause-overlay
finish-requires-clause-overlay g c =
    let at = (goal.at.finish-requires-clause-overlay g c).After-feed_all in
    let geometry = c.requires.opened.fresh.meta ∙ sym (fed_geometry g at) in
    (λ i. record { committed = c.requires.opened.images i; working = c.requires.opened.fresh.working i; geometry = geometry i })

pub finish-requires-clause-catalog : goal.finish-requires-clause-catalog
finish-requires-clause-catalog g c = (fed_is c.in_ok-loader.loader c.feed_all.new.loader c.feed_all.ensures.stream.0 c.in_ok-feed_all.ensures.is).catalog

-- ---- its end was tested

module _ (g : given.Over) (c : After-feed_all g) where
  read_stays : (b : Outside) → WritesNothing (g.H.World.outside c.feed_all.new.host) b → StaysEmpty (g.H.World.outside c.args.host.now) b c.args.volume.now
  read_stays b quiet =
      staying_joins (g.H.World.outside c.args.host.now) (g.H.World.outside c.feed_all.new.host) b c.args.volume.now (fed_stays g c)
      (nothing_stays (g.H.World.outside c.feed_all.new.host) b c.args.volume.now c.requires.opened (g.H.World.is_world c.feed_all.new.host) quiet)

  synced_stays : (b d : Outside) → IsWorld b → WritesNothing (g.H.World.outside c.feed_all.new.host) b → WritesNothing b d → StaysEmpty (g.H.World.outside c.args.host.now) d c.args.volume.now
  synced_stays b d world quiet synced =
      staying_joins (g.H.World.outside c.args.host.now) b d c.args.volume.now (read_stays b quiet) (nothing_stays b d c.args.volume.now c.requires.opened world synced)

  read_only : (b : Outside) → DiskOnly (g.H.World.outside c.feed_all.new.host) b → TakesAndWrites (g.H.World.outside c.args.host.now) b
  read_only b disk = takes_joined (fed_only g c) (takes_disk disk)

  all : LoadsAll c.in_ok-loader.loader.progress.geometry (g.H.World.outside c.take_head.new.source) (g.H.World.outside c.feed_all.new.host) c.in_ok-loader.loader c.feed_all.new.loader
      → (stream image : List ℕ) → IsTrue (g.H.World.outside c.args.host.now).honest → (g.H.World.outside c.args.host.now).left ≡ Some stream → (g.H.World.outside c.args.host.now).disk ≡ Some image
      → (later : List ℕ) × ((g.H.World.outside c.feed_all.new.host).disk ≡ Some later) × IsLoadedTo c.args.volume.now.geometry later stream c.feed_all.new.loader
  all loads = all_loaded c.args.volume.now.geometry (g.H.World.outside c.args.host.now) (g.H.World.outside c.take_head.new.source) (g.H.World.outside c.feed_all.new.host) c.in_ok-head.head c.in_ok-loader.loader c.feed_all.new.loader
      c.take_head.ensures.only c.in_ok-head.ensures.head c.in_ok-head.ensures.is c.in_ok-head.ensures.room c.in_ok-loader.ensures.loaded
      (subst (λ (x : Geometry). LoadsAll x (g.H.World.outside c.take_head.new.source) (g.H.World.outside c.feed_all.new.host) c.in_ok-loader.loader c.feed_all.new.loader) (made_geometry g c) loads)

pub returns-in_err-loaded-clause-refused : goal.returns-in_err-loaded-clause-refused
returns-in_err-loaded-clause-refused g c fault stream image e honest has holds =
    let at = (goal.at.returns-in_err-loaded-clause-refused g c).After-feed_all in
    let came = all g at c.in_ok-feed_all.ensures.loads stream image honest has holds in
    test_bad c.from_residual-in_err-loaded.result c.in_err-loaded.field-0.0 (StreamRefused c.args.volume.now.geometry stream) c.from_residual-in_err-loaded.ensures.1
    (λ bad. none_is c.args.volume.now.geometry (g.H.World.outside c.args.host.now) (g.H.World.outside c.take_head.new.source) (g.H.World.outside c.feed_all.new.host) c.in_ok-head.head c.in_ok-loader.loader c.feed_all.new.loader
    c.take_head.ensures.only c.in_ok-head.ensures.head c.in_ok-head.ensures.is c.in_ok-head.ensures.room c.in_ok-loader.ensures.loaded stream has
    (tested_none c.args.volume.now.geometry came.0 stream c.feed_all.new.loader came.2 (fed_geometry g at) c.as_slice.result.now c.as_slice.ensures (g.H.World.outside c.feed_all.new.host).disk came.1 (c.in_err-loaded.ensures.bad (ap Err bad)))) fault e

pub returns-in_err-loaded-clause-draws : goal.returns-in_err-loaded-clause-draws
returns-in_err-loaded-clause-draws g c = draws g (goal.at.returns-in_err-loaded-clause-draws g c).After-feed_all (g.H.World.outside c.finish.new.disk) c.finish.ensures.only.nothing.only.left

pub returns-in_err-loaded-clause-stays : goal.returns-in_err-loaded-clause-stays
returns-in_err-loaded-clause-stays g c = read_stays g (goal.at.returns-in_err-loaded-clause-stays g c).After-feed_all (g.H.World.outside c.finish.new.disk) c.finish.ensures.only.nothing

pub returns-in_err-loaded-clause-only : goal.returns-in_err-loaded-clause-only
returns-in_err-loaded-clause-only g c = read_only g (goal.at.returns-in_err-loaded-clause-only g c).After-feed_all (g.H.World.outside c.finish.new.disk) c.finish.ensures.only.nothing.only

-- ---- what was written is settled

pub returns-in_err-sync-clause-draws : goal.returns-in_err-sync-clause-draws
returns-in_err-sync-clause-draws g c = draws g (goal.at.returns-in_err-sync-clause-draws g c).After-feed_all (g.H.World.outside c.sync.new.self) (c.sync.ensures.only.only.left ∙ c.finish.ensures.only.nothing.only.left)

pub returns-in_err-sync-clause-stays : goal.returns-in_err-sync-clause-stays
returns-in_err-sync-clause-stays g c =
    synced_stays g (goal.at.returns-in_err-sync-clause-stays g c).After-feed_all (g.H.World.outside c.finish.new.disk) (g.H.World.outside c.sync.new.self) (g.H.World.is_world c.finish.new.disk) c.finish.ensures.only.nothing c.sync.ensures.only

pub returns-in_err-sync-clause-only : goal.returns-in_err-sync-clause-only
returns-in_err-sync-clause-only g c = takes_joined (read_only g (goal.at.returns-in_err-sync-clause-only g c).After-feed_all (g.H.World.outside c.finish.new.disk) c.finish.ensures.only.nothing.only) (takes_disk c.sync.ensures.only.only)

pub returns-clause-draws : goal.returns-clause-draws
returns-clause-draws g c = draws g (goal.at.returns-clause-draws g c).After-feed_all (g.H.World.outside c.sync.new.self) (c.sync.ensures.only.only.left ∙ c.finish.ensures.only.nothing.only.left)

pub returns-clause-stays : goal.returns-clause-stays
returns-clause-stays g c =
    synced_stays g (goal.at.returns-clause-stays g c).After-feed_all (g.H.World.outside c.finish.new.disk) (g.H.World.outside c.sync.new.self) (g.H.World.is_world c.finish.new.disk) c.finish.ensures.only.nothing c.sync.ensures.only

pub returns-clause-only : goal.returns-clause-only
returns-clause-only g c = takes_joined (read_only g (goal.at.returns-clause-only g c).After-feed_all (g.H.World.outside c.finish.new.disk) c.finish.ensures.only.nothing.only) (takes_disk c.sync.ensures.only.only)

pub returns-clause-page : goal.returns-clause-page
returns-clause-page g c = c.in_ok-loaded.ensures.page ∙ ap (λ (x : Geometry). x.page_size) (fed_geometry g (goal.at.returns-clause-page g c).After-feed_all)

pub returns-clause-fits : goal.returns-clause-fits
returns-clause-fits g c stream has head is = head_fits c.args.volume.now.geometry stream c.in_ok-head.head (c.in_ok-head.ensures.head stream has).0 c.in_ok-head.ensures.room head is

pub returns-clause-written : goal.returns-clause-written
returns-clause-written g c stream image honest has holds d at_end =
    let at = (goal.at.returns-clause-written g c).After-feed_all in
    let came = all g at c.in_ok-feed_all.ensures.loads stream image honest has holds in
    written_loads c.args.volume.now.geometry came.0 stream c.feed_all.new.loader came.2 (fed_geometry g at) c.as_slice.result.now c.as_slice.ensures (g.H.World.outside c.feed_all.new.host).disk came.1 c.in_ok-loaded.loaded.catalog.items c.in_ok-loaded.loaded.last c.in_ok-loaded.loaded.leaves
    c.in_ok-loaded.ensures.ended c.in_ok-loaded.ensures.loaded d (sym c.finish.ensures.only.nothing.disk ∙ sym c.sync.ensures.only.disk ∙ at_end)

pub returns-clause-versions : goal.returns-clause-versions
returns-clause-versions g c stream image honest has holds table dump =
    let at = (goal.at.returns-clause-versions g c).After-feed_all in
    let came = all g at c.in_ok-feed_all.ensures.loads stream image honest has holds in
    c.in_ok-loaded.ensures.versions ∙ versions_counted c.args.volume.now.geometry came.0 stream c.feed_all.new.loader table came.2 dump

-- ---- what else is promised

pub returns-in_err-head-clause-fits : goal.returns-in_err-head-clause-fits
returns-in_err-head-clause-fits g c = not_given c.from_residual.result _ c.in_err-head.field-0.0 c.from_residual.ensures.1

pub returns-in_err-head-clause-page : goal.returns-in_err-head-clause-page
returns-in_err-head-clause-page g c = no_value c.from_residual.result _ c.in_err-head.field-0.0 c.from_residual.ensures.1

pub returns-in_err-head-clause-written : goal.returns-in_err-head-clause-written
returns-in_err-head-clause-written g c = no_value c.from_residual.result _ c.in_err-head.field-0.0 c.from_residual.ensures.1

pub returns-in_err-head-clause-versions : goal.returns-in_err-head-clause-versions
returns-in_err-head-clause-versions g c = no_value c.from_residual.result _ c.in_err-head.field-0.0 c.from_residual.ensures.1

pub returns-in_err-head-clause-only : goal.returns-in_err-head-clause-only
returns-in_err-head-clause-only g c = takes_source c.take_head.ensures.only

pub returns-in_err-head-clause-cause : goal.returns-in_err-head-clause-cause
returns-in_err-head-clause-cause g c = if_err_handed c.from_residual.result (LoadCause (g.H.World.outside c.args.host.now) (g.H.World.outside c.take_head.new.source)) c.in_err-head.field-0.0 c.from_residual.ensures.1 c.in_err-head.ensures.cause

pub returns-in_err-loader-clause-fits : goal.returns-in_err-loader-clause-fits
returns-in_err-loader-clause-fits g c = not_given c.from_residual-in_err-loader.result _ Memory c.from_residual-in_err-loader.ensures.1

pub returns-in_err-loader-clause-page : goal.returns-in_err-loader-clause-page
returns-in_err-loader-clause-page g c = no_value c.from_residual-in_err-loader.result _ Memory c.from_residual-in_err-loader.ensures.1

pub returns-in_err-loader-clause-written : goal.returns-in_err-loader-clause-written
returns-in_err-loader-clause-written g c = no_value c.from_residual-in_err-loader.result _ Memory c.from_residual-in_err-loader.ensures.1

pub returns-in_err-loader-clause-versions : goal.returns-in_err-loader-clause-versions
returns-in_err-loader-clause-versions g c = no_value c.from_residual-in_err-loader.result _ Memory c.from_residual-in_err-loader.ensures.1

pub returns-in_err-loader-clause-refused : goal.returns-in_err-loader-clause-refused
returns-in_err-loader-clause-refused g c = λ fault stream image e honest has holds. absurd (memory_no_stream c.from_residual-in_err-loader.result fault c.from_residual-in_err-loader.ensures.1 e)

pub returns-in_err-loader-clause-only : goal.returns-in_err-loader-clause-only
returns-in_err-loader-clause-only g c = takes_source c.take_head.ensures.only

pub returns-in_err-loader-clause-cause : goal.returns-in_err-loader-clause-cause
returns-in_err-loader-clause-cause g c = if_err_handed c.from_residual-in_err-loader.result (LoadCause (g.H.World.outside c.args.host.now) (g.H.World.outside c.take_head.new.source)) Memory c.from_residual-in_err-loader.ensures.1 tt

pub returns-in_err-feed_all-clause-fits : goal.returns-in_err-feed_all-clause-fits
returns-in_err-feed_all-clause-fits g c = not_given c.from_residual-in_err-feed_all.result _ c.in_err-feed_all.field-0.0 c.from_residual-in_err-feed_all.ensures.1

pub returns-in_err-feed_all-clause-page : goal.returns-in_err-feed_all-clause-page
returns-in_err-feed_all-clause-page g c = no_value c.from_residual-in_err-feed_all.result _ c.in_err-feed_all.field-0.0 c.from_residual-in_err-feed_all.ensures.1

pub returns-in_err-feed_all-clause-written : goal.returns-in_err-feed_all-clause-written
returns-in_err-feed_all-clause-written g c = no_value c.from_residual-in_err-feed_all.result _ c.in_err-feed_all.field-0.0 c.from_residual-in_err-feed_all.ensures.1

pub returns-in_err-feed_all-clause-versions : goal.returns-in_err-feed_all-clause-versions
returns-in_err-feed_all-clause-versions g c = no_value c.from_residual-in_err-feed_all.result _ c.in_err-feed_all.field-0.0 c.from_residual-in_err-feed_all.ensures.1

pub returns-in_err-feed_all-clause-only : goal.returns-in_err-feed_all-clause-only
returns-in_err-feed_all-clause-only g c = takes_joined (takes_source c.take_head.ensures.only) c.feed_all.ensures.only

pub returns-in_err-feed_all-clause-cause : goal.returns-in_err-feed_all-clause-cause
returns-in_err-feed_all-clause-cause g c = if_err_handed c.from_residual-in_err-feed_all.result (LoadCause (g.H.World.outside c.args.host.now) (g.H.World.outside c.feed_all.new.host)) c.in_err-feed_all.field-0.0 c.from_residual-in_err-feed_all.ensures.1 (cause_since (g.H.World.outside c.args.host.now) (g.H.World.outside c.take_head.new.source) (g.H.World.outside c.feed_all.new.host) c.in_err-feed_all.field-0.0 c.take_head.ensures.only.goes.disk_faults c.take_head.ensures.only.goes.read_faults c.in_err-feed_all.ensures.cause)

pub returns-in_err-loaded-clause-fits : goal.returns-in_err-loaded-clause-fits
returns-in_err-loaded-clause-fits g c = not_given c.from_residual-in_err-loaded.result _ (fault_of_finish c.in_err-loaded.field-0.0) c.from_residual-in_err-loaded.ensures.1

pub returns-in_err-loaded-clause-page : goal.returns-in_err-loaded-clause-page
returns-in_err-loaded-clause-page g c = no_value c.from_residual-in_err-loaded.result _ (fault_of_finish c.in_err-loaded.field-0.0) c.from_residual-in_err-loaded.ensures.1

pub returns-in_err-loaded-clause-written : goal.returns-in_err-loaded-clause-written
returns-in_err-loaded-clause-written g c = no_value c.from_residual-in_err-loaded.result _ (fault_of_finish c.in_err-loaded.field-0.0) c.from_residual-in_err-loaded.ensures.1

pub returns-in_err-loaded-clause-versions : goal.returns-in_err-loaded-clause-versions
returns-in_err-loaded-clause-versions g c = no_value c.from_residual-in_err-loaded.result _ (fault_of_finish c.in_err-loaded.field-0.0) c.from_residual-in_err-loaded.ensures.1

pub returns-in_err-loaded-clause-cause : goal.returns-in_err-loaded-clause-cause
returns-in_err-loaded-clause-cause g c = if_err_handed c.from_residual-in_err-loaded.result (LoadCause (g.H.World.outside c.args.host.now) (g.H.World.outside c.finish.new.disk)) (fault_of_finish c.in_err-loaded.field-0.0) c.from_residual-in_err-loaded.ensures.1 (cause_since (g.H.World.outside c.args.host.now) (g.H.World.outside c.take_head.new.source) (g.H.World.outside c.finish.new.disk) (fault_of_finish c.in_err-loaded.field-0.0) c.take_head.ensures.only.goes.disk_faults c.take_head.ensures.only.goes.read_faults (cause_since (g.H.World.outside c.take_head.new.source) (g.H.World.outside c.feed_all.new.host) (g.H.World.outside c.finish.new.disk) (fault_of_finish c.in_err-loaded.field-0.0) c.feed_all.ensures.only.goes.disk_faults c.feed_all.ensures.only.goes.read_faults (finish_cause (g.H.World.outside c.feed_all.new.host) (g.H.World.outside c.finish.new.disk) c.in_err-loaded.field-0.0 (λ disk. c.in_err-loaded.ensures.cause (ap Err disk)))))

pub returns-in_err-sync-clause-fits : goal.returns-in_err-sync-clause-fits
returns-in_err-sync-clause-fits g c = not_given c.from_residual-in_err-sync.result _ Disk c.from_residual-in_err-sync.ensures.1

pub returns-in_err-sync-clause-page : goal.returns-in_err-sync-clause-page
returns-in_err-sync-clause-page g c = no_value c.from_residual-in_err-sync.result _ Disk c.from_residual-in_err-sync.ensures.1

pub returns-in_err-sync-clause-written : goal.returns-in_err-sync-clause-written
returns-in_err-sync-clause-written g c = no_value c.from_residual-in_err-sync.result _ Disk c.from_residual-in_err-sync.ensures.1

pub returns-in_err-sync-clause-versions : goal.returns-in_err-sync-clause-versions
returns-in_err-sync-clause-versions g c = no_value c.from_residual-in_err-sync.result _ Disk c.from_residual-in_err-sync.ensures.1

pub returns-in_err-sync-clause-refused : goal.returns-in_err-sync-clause-refused
returns-in_err-sync-clause-refused g c = λ fault stream image e honest has holds. absurd (disk_no_stream c.from_residual-in_err-sync.result fault c.from_residual-in_err-sync.ensures.1 e)

pub returns-in_err-sync-clause-cause : goal.returns-in_err-sync-clause-cause
returns-in_err-sync-clause-cause g c = if_err_handed c.from_residual-in_err-sync.result (LoadCause (g.H.World.outside c.args.host.now) (g.H.World.outside c.sync.new.self)) Disk c.from_residual-in_err-sync.ensures.1 (cause_since (g.H.World.outside c.args.host.now) (g.H.World.outside c.take_head.new.source) (g.H.World.outside c.sync.new.self) Disk c.take_head.ensures.only.goes.disk_faults c.take_head.ensures.only.goes.read_faults (cause_since (g.H.World.outside c.take_head.new.source) (g.H.World.outside c.feed_all.new.host) (g.H.World.outside c.sync.new.self) Disk c.feed_all.ensures.only.goes.disk_faults c.feed_all.ensures.only.goes.read_faults (cause_since (g.H.World.outside c.feed_all.new.host) (g.H.World.outside c.finish.new.disk) (g.H.World.outside c.sync.new.self) Disk c.finish.ensures.only.nothing.only.goes.disk_faults c.finish.ensures.only.nothing.only.goes.read_faults c.in_err-sync.ensures.cause)))

pub returns-clause-cause : goal.returns-clause-cause
returns-clause-cause g c = tt

pub make-requires-clause-head : goal.make-requires-clause-head
make-requires-clause-head g c = c.in_ok-head.ensures.is

pub make-requires-clause-room : goal.make-requires-clause-room
make-requires-clause-room g c = c.in_ok-head.ensures.room

pub finish-requires-clause-leaves : goal.finish-requires-clause-leaves
finish-requires-clause-leaves g c = (fed_is c.in_ok-loader.loader c.feed_all.new.loader c.feed_all.ensures.stream.0 c.in_ok-feed_all.ensures.is).leaves

pub finish-requires-clause-nodes : goal.finish-requires-clause-nodes
finish-requires-clause-nodes g c = (fed_is c.in_ok-loader.loader c.feed_all.new.loader c.feed_all.ensures.stream.0 c.in_ok-feed_all.ensures.is).nodes

pub finish-requires-clause-whole : goal.finish-requires-clause-whole
finish-requires-clause-whole g c = (fed_is c.in_ok-loader.loader c.feed_all.new.loader c.feed_all.ensures.stream.0 c.in_ok-feed_all.ensures.is).size

pub returns-in_err-head-clause-refused : goal.returns-in_err-head-clause-refused
returns-in_err-head-clause-refused g c = λ fault stream image e honest has holds. c.in_err-head.ensures.refused fault stream (ap Err (same_handed c.from_residual.result c.in_err-head.field-0.0 (Stream fault) c.from_residual.ensures.1 e)) has

pub returns-clause-refused : goal.returns-clause-refused
returns-clause-refused g c = λ fault stream image e honest has holds. absurd (ends_with _ (Stream fault) e)
