use Rattle.std.proofs.Common.{◌≡◌, ◌≤◌, ◌+◌, ◌-◌, ◌∙◌, ℕ, refl, sym, subst, ap, arith}
use Rattle.std.proofs.lemmas.List.{length-take}
use Rattle.disk_model.specs.Runs.{source_refl}
use Rattle.ex_base.proofs.Results.{if_err_handed}
use Rattle.ex_base.specs.declared.geometry.Geometry.{Geometry}
use Rattle.ex_base.specs.Sizes.{volume_bytes}
use Rattle.history_load.specs.Faults.{LoadCause}
use Rattle.history_load.specs.Loading.{IsLoader}
use Rattle.history_load.specs.Streams.{Feeds, most_behind}
use Rattle.history_load.specs.declared.faults.LoadFault.TheVariants.{Stream, Memory}
use Rattle.history_load.proofs.Causes.{cause_since, memory_no_stream, stream_same}
use Rattle.history_load.proofs.Feeding.{came_all, drawn_on, feeds_none, feeds_on, loads_all, refused_behind, same_handed, takes_joined, takes_none, too_much}
use Rattle.history_reads.specs.declared.heads.HeadFault.TheVariants.{Bad}
use Rattle.history_load.proofs.EmptyVolumesStay.{staying_joins, taking_stays}
use Rattle.ex_base.proofs.Handed.{not_given}
use Rattle.history_load.proofs.EndedBy.{ends_with}
use Rattle.history_load.proofs.stream.feed_all.Goals as goal

pub returns-in_err-piece-clause-draws : goal.returns-in_err-piece-clause-draws
returns-in_err-piece-clause-draws g c = (0, omega arith, λ was has. has)

pub returns-in_err-piece-clause-stays : goal.returns-in_err-piece-clause-stays
returns-in_err-piece-clause-stays g c volume opened same = taking_stays (g.H.World.outside c.args.host.now) (g.H.World.outside c.args.host.now) volume (g.H.World.is_world c.args.host.now) (source_refl (g.H.World.outside c.args.host.now))

pub returns-in_err-piece-clause-only : goal.returns-in_err-piece-clause-only
returns-in_err-piece-clause-only g c = takes_none (g.H.World.outside c.args.host.now)

pub pieces-init : goal.pieces-init
pieces-init g c =
    let a = g.H.World.outside c.args.host.now in
    let size = c.args.loader.now.progress.geometry in
    let most = most_behind c.args.loader.now.progress.geometry c.args.loader.now.progress.head in
    let none : 0 ≡ most - c.bytes_behind-left.result = omega (arith, c.bytes_behind-left.ensures) in
    record {
      size = omega (arith, c.in_ok-piece.ensures, c.in_ok-piece.piece.ok.0);
      few = omega (arith, c.bytes_behind-left.ensures);
      stream = (refl, refl);
      is = c.requires.is;
      only = takes_none a;
      stays = λ volume opened same. taking_stays a a volume (g.H.World.is_world c.args.host.now) (source_refl a);
      fed = subst (λ (k : ℕ). Feeds size a a c.args.loader.now c.args.loader.now k) none (feeds_none size a c.args.loader.now);
    }

pub feed_some-requires-clause-room : goal.feed_some-requires-clause-room
feed_some-requires-clause-room g c = omega (arith, ap volume_bytes c.pieces.invariant.stream.0, c.pieces.invariant.only.goes.size, c.requires.room)

pub feed_some-requires-clause-is : goal.feed_some-requires-clause-is
feed_some-requires-clause-is g c = subst (λ (x : Geometry). IsLoader x c.pieces.loader) (sym c.pieces.invariant.stream.0) c.pieces.invariant.is

pub returns-in_err-n-clause-stream : goal.returns-in_err-n-clause-stream
returns-in_err-n-clause-stream g c = (c.feed_some.ensures.stream.0 ∙ c.pieces.invariant.stream.0, c.feed_some.ensures.stream.1 ∙ c.pieces.invariant.stream.1)

pub returns-in_err-n-clause-refused : goal.returns-in_err-n-clause-refused
returns-in_err-n-clause-refused g c fault is =
    let inv = c.pieces.invariant in
    let most = most_behind c.args.loader.now.progress.geometry c.args.loader.now.progress.head in
    let same : c.in_err-n.field-0.0 ≡ Stream fault = same_handed c.from_residual-in_err-n.result c.in_err-n.field-0.0 (Stream fault) c.from_residual-in_err-n.ensures.1 is in
    let told = c.in_err-n.ensures.refused fault cc in
    (told.0, refused_behind (most - c.pieces.left) inv.stream.0 inv.only.goes inv.fed told.1)

pub returns-in_err-n-clause-draws : goal.returns-in_err-n-clause-draws
returns-in_err-n-clause-draws g c =
    let most = most_behind c.args.loader.now.progress.geometry c.args.loader.now.progress.head in
    let drawn = c.feed_some.ensures.draws in
    let few : drawn.0 ≤ c.pieces.left = omega (arith, drawn.1, length-take {A = ℕ}) in
    (most - c.pieces.left + drawn.0, omega (arith, few, c.pieces.invariant.few), drawn_on (g.H.World.outside c.args.host.now) (g.H.World.outside c.pieces.host) (g.H.World.outside c.feed_some.new.host) (most - c.pieces.left) drawn.0 c.pieces.invariant.fed.takes drawn.2)

pub returns-in_err-n-clause-stays : goal.returns-in_err-n-clause-stays
returns-in_err-n-clause-stays g c volume opened same =
    staying_joins (g.H.World.outside c.args.host.now) (g.H.World.outside c.pieces.host) (g.H.World.outside c.feed_some.new.host) volume (c.pieces.invariant.stays volume opened same) (c.feed_some.ensures.stays volume opened (same ∙ sym c.pieces.invariant.stream.0))

pub returns-in_err-n-clause-only : goal.returns-in_err-n-clause-only
returns-in_err-n-clause-only g c = takes_joined c.pieces.invariant.only c.feed_some.ensures.only

pub returns-in_err-n-clause-cause : goal.returns-in_err-n-clause-cause
returns-in_err-n-clause-cause g c =
    let a = g.H.World.outside c.args.host.now in
    let b = g.H.World.outside c.pieces.host in
    let d = g.H.World.outside c.feed_some.new.host in
    if_err_handed c.from_residual-in_err-n.result (LoadCause a d) c.in_err-n.field-0.0 c.from_residual-in_err-n.ensures.1
    (cause_since a b d c.in_err-n.field-0.0 c.pieces.invariant.only.goes.disk_faults c.pieces.invariant.only.goes.read_faults c.in_err-n.ensures.cause)

pub returns-then-n-eq0-clause-is : goal.returns-then-n-eq0-clause-is
returns-then-n-eq0-clause-is g c = subst (λ (x : Geometry). IsLoader x c.feed_some.new.loader) c.pieces.invariant.stream.0 c.in_ok-n.ensures.is

pub returns-then-n-eq0-clause-stream : goal.returns-then-n-eq0-clause-stream
returns-then-n-eq0-clause-stream g c = (c.feed_some.ensures.stream.0 ∙ c.pieces.invariant.stream.0, c.feed_some.ensures.stream.1 ∙ c.pieces.invariant.stream.1)

pub returns-then-n-eq0-clause-loads : goal.returns-then-n-eq0-clause-loads
returns-then-n-eq0-clause-loads g c =
    let inv = c.pieces.invariant in
    let most = most_behind c.args.loader.now.progress.geometry c.args.loader.now.progress.head in
    let n = c.in_ok-n.n in
    let end = c.in_ok-n.ensures.end c.if-n-eq0.true (omega (arith, c.pieces-test.true, inv.size, c.pieces.piece.ok.0, length-take {A = ℕ})) in
    loads_all (most - c.pieces.left + n) (feeds_on (most - c.pieces.left) n inv.stream.0 inv.only.goes inv.fed c.in_ok-n.ensures.feeds)
    (λ was has. let few = came_all (most - c.pieces.left) inv.fed end was has in omega (arith, few))

pub returns-then-n-eq0-clause-draws : goal.returns-then-n-eq0-clause-draws
returns-then-n-eq0-clause-draws g c =
    let most = most_behind c.args.loader.now.progress.geometry c.args.loader.now.progress.head in
    let drawn = c.feed_some.ensures.draws in
    let few : drawn.0 ≤ c.pieces.left = omega (arith, drawn.1, length-take {A = ℕ}) in
    (most - c.pieces.left + drawn.0, omega (arith, few, c.pieces.invariant.few), drawn_on (g.H.World.outside c.args.host.now) (g.H.World.outside c.pieces.host) (g.H.World.outside c.feed_some.new.host) (most - c.pieces.left) drawn.0 c.pieces.invariant.fed.takes drawn.2)

pub returns-then-n-eq0-clause-stays : goal.returns-then-n-eq0-clause-stays
returns-then-n-eq0-clause-stays g c volume opened same =
    staying_joins (g.H.World.outside c.args.host.now) (g.H.World.outside c.pieces.host) (g.H.World.outside c.feed_some.new.host) volume (c.pieces.invariant.stays volume opened same) (c.feed_some.ensures.stays volume opened (same ∙ sym c.pieces.invariant.stream.0))

pub returns-then-n-eq0-clause-only : goal.returns-then-n-eq0-clause-only
returns-then-n-eq0-clause-only g c = takes_joined c.pieces.invariant.only c.feed_some.ensures.only

pub overflow_sub-left : goal.overflow_sub-left
overflow_sub-left g c = omega (arith, c.in_ok-n.ensures.count, length-take {A = ℕ})

pub pieces-preserved : goal.pieces-preserved
pieces-preserved g c =
    let a = g.H.World.outside c.args.host.now in
    let b = g.H.World.outside c.pieces.host in
    let d = g.H.World.outside c.feed_some.new.host in
    let size = c.args.loader.now.progress.geometry in
    let most = most_behind c.args.loader.now.progress.geometry c.args.loader.now.progress.head in
    let inv = c.pieces.invariant in
    let n = c.in_ok-n.n in
    let few : n ≤ c.pieces.left = omega (arith, c.in_ok-n.ensures.count, length-take {A = ℕ}) in
    let more : most - c.pieces.left + n ≡ most - (c.pieces.left - n) = omega (arith, few, inv.few) in
    record {
      size = inv.size;
      few = omega (arith, inv.few);
      stream = (c.feed_some.ensures.stream.0 ∙ inv.stream.0, c.feed_some.ensures.stream.1 ∙ inv.stream.1);
      is = subst (λ (x : Geometry). IsLoader x c.feed_some.new.loader) inv.stream.0 c.in_ok-n.ensures.is;
      only = takes_joined inv.only c.feed_some.ensures.only;
      stays = λ volume opened same. staying_joins a b d volume (inv.stays volume opened same) (c.feed_some.ensures.stays volume opened (same ∙ sym inv.stream.0));
      fed = subst (λ (k : ℕ). Feeds size a d c.args.loader.now c.feed_some.new.loader k) more (feeds_on (most - c.pieces.left) n inv.stream.0 inv.only.goes inv.fed c.in_ok-n.ensures.feeds);
    }

pub returns-clause-refused : goal.returns-clause-refused
returns-clause-refused g c fault is =
    let inv = c.pieces.invariant in
    let most = most_behind c.args.loader.now.progress.geometry c.args.loader.now.progress.head in
    let same : Bad ≡ fault = stream_same Bad fault (ends_with _ (Stream fault) is) in
    (sym same, too_much (most - c.pieces.left) inv.fed (omega (arith, inv.few, c.pieces-test.false)))

pub returns-clause-draws : goal.returns-clause-draws
returns-clause-draws g c =
    let most = most_behind c.args.loader.now.progress.geometry c.args.loader.now.progress.head in
    (most - c.pieces.left, omega arith, c.pieces.invariant.fed.takes)

-- ---- what else is promised

pub returns-in_err-piece-clause-is : goal.returns-in_err-piece-clause-is
returns-in_err-piece-clause-is g c = not_given c.from_residual.result _ Memory c.from_residual.ensures.1

pub returns-in_err-piece-clause-loads : goal.returns-in_err-piece-clause-loads
returns-in_err-piece-clause-loads g c = not_given c.from_residual.result _ Memory c.from_residual.ensures.1

pub returns-in_err-piece-clause-stream : goal.returns-in_err-piece-clause-stream
returns-in_err-piece-clause-stream g c = (refl, refl)

pub returns-in_err-piece-clause-refused : goal.returns-in_err-piece-clause-refused
returns-in_err-piece-clause-refused g c = λ fault e. absurd (memory_no_stream c.from_residual.result fault c.from_residual.ensures.1 e)

pub returns-in_err-piece-clause-cause : goal.returns-in_err-piece-clause-cause
returns-in_err-piece-clause-cause g c = if_err_handed c.from_residual.result (LoadCause (g.H.World.outside c.args.host.now) (g.H.World.outside c.args.host.now)) Memory c.from_residual.ensures.1 tt

pub returns-in_err-n-clause-is : goal.returns-in_err-n-clause-is
returns-in_err-n-clause-is g c = not_given c.from_residual-in_err-n.result _ c.in_err-n.field-0.0 c.from_residual-in_err-n.ensures.1

pub returns-in_err-n-clause-loads : goal.returns-in_err-n-clause-loads
returns-in_err-n-clause-loads g c = not_given c.from_residual-in_err-n.result _ c.in_err-n.field-0.0 c.from_residual-in_err-n.ensures.1

pub returns-then-n-eq0-clause-cause : goal.returns-then-n-eq0-clause-cause
returns-then-n-eq0-clause-cause g c = tt

pub returns-clause-is : goal.returns-clause-is
returns-clause-is g c = tt

pub returns-clause-loads : goal.returns-clause-loads
returns-clause-loads g c = tt

pub returns-clause-stream : goal.returns-clause-stream
returns-clause-stream g c = c.pieces.invariant.stream

pub returns-clause-stays : goal.returns-clause-stays
returns-clause-stays g c = c.pieces.invariant.stays

pub returns-clause-only : goal.returns-clause-only
returns-clause-only g c = c.pieces.invariant.only

pub returns-clause-cause : goal.returns-clause-cause
returns-clause-cause g c = tt

pub returns-then-n-eq0-clause-refused : goal.returns-then-n-eq0-clause-refused
returns-then-n-eq0-clause-refused g c = λ fault e. absurd (ends_with _ (Stream fault) e)
