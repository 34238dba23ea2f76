use Rattle.std.proofs.Common.{◌≡◌, ◌+◌, ◌∙◌, take, sym, subst, arith, refl}
use Rattle.disk_model.specs.Changes.{ChangesWithin}
use Rattle.disk_model.specs.Outside.{Outside, SourceOnly}
use Rattle.ex_base.specs.declared.geometry.Geometry.{Geometry}
use Rattle.ex_base.proofs.Results.{if_err_handed}
use Rattle.history_load.specs.Faults.{LoadCause}
use Rattle.history_load.specs.Loading.{RefusesPiece}
use Rattle.history_load.specs.Streams.{Feeds}
use Rattle.history_load.proofs.Causes.{cause_since, source_no_stream}
use Rattle.history_load.proofs.Feeding.{bad_handed, feeds_more, feeds_none, none_comes, takes_disk, takes_joined, takes_source}
use Rattle.history_load.proofs.EmptyVolumesStay.{staying_joins, taking_stays, writing_stays}
use Rattle.history_load.specs.Staying.{StaysEmpty}
use Rattle.history_writes.specs.Places.{IsBehindCatalog}
use Rattle.restart.specs.Opening.{AreOpened}
use Rattle.volume_port.specs.declared.state.VolumeState.{VolumeState}
use Rattle.disk_model.specs.Runs.{goes_refl}
use Rattle.disk_model.specs.Outside.{IsWorld}
use Rattle.ex_base.proofs.Handed.{no_value, not_given}
use Rattle.history_load.proofs.stream.feed_some.Goals as goal

-- what was taken, and then written behind the catalog
stays_fed : (a b d : Outside) (volume : VolumeState) (g : Geometry) → AreOpened volume → volume.geometry ≡ g → IsWorld a → IsWorld b → SourceOnly a b → ChangesWithin (IsBehindCatalog g) b d → StaysEmpty a d volume
stays_fed a b d volume g opened same before after source changes =
    staying_joins a b d volume (taking_stays a b volume before source)
    (writing_stays b d volume opened after (subst (λ (x : Geometry). ChangesWithin (IsBehindCatalog x) b d) (sym same) changes))

pub returns-in_err-n-clause-draws : goal.returns-in_err-n-clause-draws
returns-in_err-n-clause-draws g c = (0, omega arith, λ was has. c.in_err-n.ensures.failed ∙ has)

pub returns-in_err-n-clause-stays : goal.returns-in_err-n-clause-stays
returns-in_err-n-clause-stays g c volume opened same =
    taking_stays (g.H.World.outside c.args.host.now) (g.H.World.outside c.take_some.new.source) volume (g.H.World.is_world c.args.host.now) c.take_some.ensures.only

pub returns-in_err-feed-clause-refused : goal.returns-in_err-feed-clause-refused
returns-in_err-feed-clause-refused g c fault is =
    let told = bad_handed (RefusesPiece c.args.loader.now.progress.geometry (g.H.World.outside c.take_some.new.source) c.args.loader.now (take c.in_ok-n.n c.take_some.new.out))
    c.from_residual-in_err-feed.result c.in_err-feed.field-0.0 fault c.from_residual-in_err-feed.ensures.1 c.in_err-feed.ensures.refused is in (
      told.0,
      none_comes 0 c.in_ok-n.n (take c.in_ok-n.n c.take_some.new.out) (goes_refl (g.H.World.outside c.args.host.now))
          (feeds_none c.args.loader.now.progress.geometry (g.H.World.outside c.args.host.now) c.args.loader.now) c.take_some.ensures.only c.in_ok-n.ensures.bytes told.1,
    )

pub returns-in_err-n-clause-only : goal.returns-in_err-n-clause-only
returns-in_err-n-clause-only g c = takes_source c.take_some.ensures.only

pub returns-in_err-feed-clause-only : goal.returns-in_err-feed-clause-only
returns-in_err-feed-clause-only g c = takes_joined (takes_source c.take_some.ensures.only) (takes_disk c.feed.ensures.changes.only)

pub returns-in_err-feed-clause-draws : goal.returns-in_err-feed-clause-draws
returns-in_err-feed-clause-draws g c = (c.in_ok-n.n, c.in_ok-n.ensures.count, λ was has. c.feed.ensures.changes.only.left ∙ (c.in_ok-n.ensures.bytes was has).2)

pub returns-in_err-feed-clause-cause : goal.returns-in_err-feed-clause-cause
returns-in_err-feed-clause-cause g c =
    let a = g.H.World.outside c.args.host.now in
    let b = g.H.World.outside c.take_some.new.source in
    let d = g.H.World.outside c.feed.new.disk in
    if_err_handed c.from_residual-in_err-feed.result (LoadCause a d) c.in_err-feed.field-0.0 c.from_residual-in_err-feed.ensures.1
    (cause_since a b d c.in_err-feed.field-0.0 c.take_some.ensures.only.goes.disk_faults c.take_some.ensures.only.goes.read_faults c.in_err-feed.ensures.cause)

pub returns-in_err-feed-clause-stays : goal.returns-in_err-feed-clause-stays
returns-in_err-feed-clause-stays g c volume opened same =
    stays_fed (g.H.World.outside c.args.host.now) (g.H.World.outside c.take_some.new.source) (g.H.World.outside c.feed.new.disk) volume c.args.loader.now.progress.geometry opened same
    (g.H.World.is_world c.args.host.now) (g.H.World.is_world c.take_some.new.source) c.take_some.ensures.only c.feed.ensures.changes

pub returns-clause-feeds : goal.returns-clause-feeds
returns-clause-feeds g c =
    let same : 0 + c.in_ok-n.n ≡ c.in_ok-n.n = omega arith in
    subst (Feeds c.args.loader.now.progress.geometry (g.H.World.outside c.args.host.now) (g.H.World.outside c.feed.new.disk) c.args.loader.now c.feed.new.self) same
    (feeds_more 0 c.in_ok-n.n (take c.in_ok-n.n c.take_some.new.out) (goes_refl (g.H.World.outside c.args.host.now))
    (feeds_none c.args.loader.now.progress.geometry (g.H.World.outside c.args.host.now) c.args.loader.now) c.take_some.ensures.only c.in_ok-n.ensures.bytes c.feed.ensures.changes.only c.in_ok-feed.ensures.loads)

pub returns-clause-draws : goal.returns-clause-draws
returns-clause-draws g c = (c.in_ok-n.n, c.in_ok-n.ensures.count, λ was has. c.feed.ensures.changes.only.left ∙ (c.in_ok-n.ensures.bytes was has).2)

pub returns-clause-stays : goal.returns-clause-stays
returns-clause-stays g c volume opened same =
    stays_fed (g.H.World.outside c.args.host.now) (g.H.World.outside c.take_some.new.source) (g.H.World.outside c.feed.new.disk) volume c.args.loader.now.progress.geometry opened same
    (g.H.World.is_world c.args.host.now) (g.H.World.is_world c.take_some.new.source) c.take_some.ensures.only c.feed.ensures.changes

pub returns-clause-only : goal.returns-clause-only
returns-clause-only g c = takes_joined (takes_source c.take_some.ensures.only) (takes_disk c.feed.ensures.changes.only)

-- ---- what else is promised

pub returns-in_err-n-clause-is : goal.returns-in_err-n-clause-is
returns-in_err-n-clause-is g c = not_given c.from_residual.result _ c.in_err-n.field-0.0 c.from_residual.ensures.1

pub returns-in_err-n-clause-count : goal.returns-in_err-n-clause-count
returns-in_err-n-clause-count g c = no_value c.from_residual.result _ c.in_err-n.field-0.0 c.from_residual.ensures.1

pub returns-in_err-n-clause-feeds : goal.returns-in_err-n-clause-feeds
returns-in_err-n-clause-feeds g c = no_value c.from_residual.result _ c.in_err-n.field-0.0 c.from_residual.ensures.1

pub returns-in_err-n-clause-end : goal.returns-in_err-n-clause-end
returns-in_err-n-clause-end g c = no_value c.from_residual.result _ c.in_err-n.field-0.0 c.from_residual.ensures.1

pub returns-in_err-n-clause-size : goal.returns-in_err-n-clause-size
returns-in_err-n-clause-size g c = c.take_some.ensures.size

pub returns-in_err-n-clause-stream : goal.returns-in_err-n-clause-stream
returns-in_err-n-clause-stream g c = (refl, refl)

pub returns-in_err-n-clause-refused : goal.returns-in_err-n-clause-refused
returns-in_err-n-clause-refused g c = λ fault e. absurd (source_no_stream c.from_residual.result c.in_err-n.field-0.0 fault c.from_residual.ensures.1 c.in_err-n.ensures.source e)

pub returns-in_err-n-clause-cause : goal.returns-in_err-n-clause-cause
returns-in_err-n-clause-cause g c = if_err_handed c.from_residual.result (LoadCause (g.H.World.outside c.args.host.now) (g.H.World.outside c.take_some.new.source)) c.in_err-n.field-0.0 c.from_residual.ensures.1 c.in_err-n.ensures.cause

pub returns-in_err-feed-clause-is : goal.returns-in_err-feed-clause-is
returns-in_err-feed-clause-is g c = not_given c.from_residual-in_err-feed.result _ c.in_err-feed.field-0.0 c.from_residual-in_err-feed.ensures.1

pub returns-in_err-feed-clause-count : goal.returns-in_err-feed-clause-count
returns-in_err-feed-clause-count g c = no_value c.from_residual-in_err-feed.result _ c.in_err-feed.field-0.0 c.from_residual-in_err-feed.ensures.1

pub returns-in_err-feed-clause-feeds : goal.returns-in_err-feed-clause-feeds
returns-in_err-feed-clause-feeds g c = no_value c.from_residual-in_err-feed.result _ c.in_err-feed.field-0.0 c.from_residual-in_err-feed.ensures.1

pub returns-in_err-feed-clause-end : goal.returns-in_err-feed-clause-end
returns-in_err-feed-clause-end g c = no_value c.from_residual-in_err-feed.result _ c.in_err-feed.field-0.0 c.from_residual-in_err-feed.ensures.1

pub returns-in_err-feed-clause-size : goal.returns-in_err-feed-clause-size
returns-in_err-feed-clause-size g c = c.take_some.ensures.size

pub returns-in_err-feed-clause-stream : goal.returns-in_err-feed-clause-stream
returns-in_err-feed-clause-stream g c = c.feed.ensures.stream

pub returns-clause-size : goal.returns-clause-size
returns-clause-size g c = c.take_some.ensures.size

pub returns-clause-count : goal.returns-clause-count
returns-clause-count g c = c.in_ok-n.ensures.count

pub returns-clause-is : goal.returns-clause-is
returns-clause-is g c = c.in_ok-feed.ensures.is

pub returns-clause-stream : goal.returns-clause-stream
returns-clause-stream g c = c.feed.ensures.stream

pub returns-clause-end : goal.returns-clause-end
returns-clause-end g c = c.in_ok-n.ensures.end

pub returns-clause-cause : goal.returns-clause-cause
returns-clause-cause g c = tt
