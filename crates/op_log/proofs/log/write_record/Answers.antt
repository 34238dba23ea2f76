use Rattle.std.proofs.Common.{length, ◌+◌, ◌++◌, ◌∷◌, [], arith}
use Rattle.std.proofs.lemmas.Result.{on_ok_weaker}
use Rattle.disk_model.specs.Changes.{InRange}
use Rattle.disk_model.specs.Runs.{leaves_wider, calls_trans, at_most_trans, at_most_wider}
use Rattle.op_log.specs.Log.{AddsHere, SaysEither}
use Rattle.op_log.proofs.Moments.{first_leaves, second_leaves, adds_says, then_says, first_changes, both_changes}
use Rattle.ex_base.proofs.Handed.{not_given}
use Rattle.op_log.proofs.Outcomes.{err_of}
use Rattle.op_log.proofs.log.write_record.Goals as goal

pub returns-in_err-write_settled-clause-changes : goal.returns-in_err-write_settled-clause-changes
returns-in_err-write_settled-clause-changes g c = first_changes c.args.gate (length c.args.bytes.now) c.write_settled.ensures.changes

pub returns-in_err-write_settled-clause-leaves : goal.returns-in_err-write_settled-clause-leaves
returns-in_err-write_settled-clause-leaves g c geometry rs r held adds large keeps holds =
    first_leaves (g.D.World.outside c.args.disk.now) (g.D.World.outside c.write_settled.new.disk) c.args.gate c.args.bytes.now held adds (g.D.World.is_world c.args.disk.now) large keeps c.write_settled.ensures.changes

pub returns-in_err-write_settled-clause-any_moment : goal.returns-in_err-write_settled-clause-any_moment
returns-in_err-write_settled-clause-any_moment g c geometry rs r adds large keeps =
    let a = g.D.World.outside c.args.disk.now in
    let held = keeps.on_disk.disk in
    let places = InRange c.args.gate (length c.args.bytes.now + 1) in
    leaves_wider (AddsHere geometry rs r places a.images held) (SaysEither geometry rs (rs ++ r ∷ []))
    (first_leaves a (g.D.World.outside c.write_settled.new.disk) c.args.gate c.args.bytes.now held adds (g.D.World.is_world c.args.disk.now) large keeps c.write_settled.ensures.changes)
    (λ e. adds_says geometry rs r places a.images held e)

pub returns-clause-changes : goal.returns-clause-changes
returns-clause-changes g c = both_changes c.args.gate (length c.args.bytes.now) c.write_settled.ensures.changes c.write_settled-2.ensures.changes

pub returns-clause-leaves : goal.returns-clause-leaves
returns-clause-leaves g c geometry rs r held adds large keeps holds =
    second_leaves (g.D.World.outside c.args.disk.now) (g.D.World.outside c.write_settled.new.disk) (g.D.World.outside c.write_settled-2.new.disk) c.args.gate c.args.bytes.now held adds
    (g.D.World.is_world c.args.disk.now) (g.D.World.is_world c.write_settled.new.disk) large keeps holds c.write_settled.ensures.changes c.in_ok-write_settled.ensures.written c.in_ok-write_settled.ensures.settled c.write_settled-2.ensures.changes

pub returns-clause-any_moment : goal.returns-clause-any_moment
returns-clause-any_moment g c geometry rs r adds large keeps =
    let a = g.D.World.outside c.args.disk.now in
    let held = keeps.on_disk.disk in
    let places = InRange c.args.gate (length c.args.bytes.now + 1) in
    leaves_wider (AddsHere geometry rs r places a.images held) (SaysEither geometry rs (rs ++ r ∷ []))
    (second_leaves a (g.D.World.outside c.write_settled.new.disk) (g.D.World.outside c.write_settled-2.new.disk) c.args.gate c.args.bytes.now held adds
    (g.D.World.is_world c.args.disk.now) (g.D.World.is_world c.write_settled.new.disk) large keeps keeps.on_disk.holds c.write_settled.ensures.changes c.in_ok-write_settled.ensures.written c.in_ok-write_settled.ensures.settled c.write_settled-2.ensures.changes)
    (λ e. adds_says geometry rs r places a.images held e)

pub returns-clause-says : goal.returns-clause-says
returns-clause-says g c =
    on_ok_weaker c.write_settled-2.result
    (λ written geometry rs r adds large says.
    then_says (g.D.World.outside c.args.disk.now) (g.D.World.outside c.write_settled.new.disk) (g.D.World.outside c.write_settled-2.new.disk) c.args.gate c.args.bytes.now adds
    (g.D.World.is_world c.args.disk.now) large says c.in_ok-write_settled.ensures.written written)
    c.write_settled-2.ensures.written

pub returns-in_err-write_settled-clause-at_most_four : goal.returns-in_err-write_settled-clause-at_most_four
returns-in_err-write_settled-clause-at_most_four g c = at_most_wider 4 (omega arith) c.write_settled.ensures.at_most_twice

pub returns-clause-at_most_four : goal.returns-clause-at_most_four
returns-clause-at_most_four g c = at_most_trans c.write_settled.ensures.at_most_twice c.write_settled-2.ensures.at_most_twice

pub returns-clause-four : goal.returns-clause-four
returns-clause-four g c = on_ok_weaker c.write_settled-2.result (λ twice. calls_trans c.in_ok-write_settled.ensures.twice twice) c.write_settled-2.ensures.twice

pub returns-in_err-write_settled-clause-four : goal.returns-in_err-write_settled-clause-four
returns-in_err-write_settled-clause-four g c = not_given c.from_residual.result _ _ c.from_residual.ensures.1

pub returns-in_err-write_settled-clause-says : goal.returns-in_err-write_settled-clause-says
returns-in_err-write_settled-clause-says g c = not_given c.from_residual.result _ _ c.from_residual.ensures.1

pub returns-in_err-write_settled-clause-settled : goal.returns-in_err-write_settled-clause-settled
returns-in_err-write_settled-clause-settled g c = not_given c.from_residual.result _ _ c.from_residual.ensures.1

pub returns-in_err-write_settled-clause-cause : goal.returns-in_err-write_settled-clause-cause
returns-in_err-write_settled-clause-cause g c = err_of c.from_residual.result _ c.in_err-write_settled.ensures.cause
