use Rattle.volume_port.specs.Giving.{is_logged}
use Rattle.session_core.proofs.TurnedParts.{counts_first}
use Rattle.ex_base.specs.declared.faults.PortFault.TheVariants.{Memory}
use Rattle.ex_base.proofs.Results.{if_err_handed}
use Rattle.session_core.proofs.session.turning.turn_roots.Goals as goal

pub turn_gone-requires-clause-ready : goal.turn_gone-requires-clause-ready
turn_gone-requires-clause-ready g c =
    let is = c.requires.ready in
    record { group = is.group; disk = is.disk; frames = is.frames; behind = is.behind; counted = c.own_here.ensures.counted c.args.volume.now.geometry is.counted }

pub returns-in_err-turn_gone-clause-gives : goal.returns-in_err-turn_gone-clause-gives
returns-in_err-turn_gone-clause-gives g c =
    counts_first (is_logged c.args.volume.now.pages c.args.volume.now.kept) c.args.volume.now.geometry _ c.args.volume.now.units c.own_here.new.units c.turn_gone.new.volume.units c.args.volume.now.groups c.turn_gone.new.volume.groups c.own_here.ensures.counts c.own_here.ensures.counted
    c.turn_gone.ensures.gives

pub returns-in_err-add_here-clause-gives : goal.returns-in_err-add_here-clause-gives
returns-in_err-add_here-clause-gives g c =
    counts_first (is_logged c.args.volume.now.pages c.args.volume.now.kept) c.args.volume.now.geometry _ c.args.volume.now.units c.own_here.new.units c.turn_gone.new.volume.units c.args.volume.now.groups c.turn_gone.new.volume.groups c.own_here.ensures.counts c.own_here.ensures.counted
    c.turn_gone.ensures.gives

pub returns-clause-gives : goal.returns-clause-gives
returns-clause-gives g c =
    counts_first (is_logged c.args.volume.now.pages c.args.volume.now.kept) c.args.volume.now.geometry _ c.args.volume.now.units c.own_here.new.units c.turn_gone.new.volume.units c.args.volume.now.groups c.turn_gone.new.volume.groups c.own_here.ensures.counts c.own_here.ensures.counted
    c.turn_gone.ensures.gives

pub returns-in_err-turn_gone-clause-sound : goal.returns-in_err-turn_gone-clause-sound
returns-in_err-turn_gone-clause-sound g c =
    if_err_handed c.from_residual.result _ _ c.from_residual.ensures.1 (λ damage owns. c.in_err-turn_gone.ensures.sound damage (λ rest out. owns c.own_here.new.units rest c.own_here.ensures.counts out))

pub returns-in_err-turn_gone-clause-fault : goal.returns-in_err-turn_gone-clause-fault
returns-in_err-turn_gone-clause-fault g c = if_err_handed c.from_residual.result _ _ c.from_residual.ensures.1 c.in_err-turn_gone.ensures.fault

pub returns-in_err-add_here-clause-sound : goal.returns-in_err-add_here-clause-sound
returns-in_err-add_here-clause-sound g c = if_err_handed c.from_residual-in_err-add_here.result _ Memory c.from_residual-in_err-add_here.ensures.1 (λ damage. absurd damage)

pub returns-in_err-add_here-clause-fault : goal.returns-in_err-add_here-clause-fault
returns-in_err-add_here-clause-fault g c = if_err_handed c.from_residual-in_err-add_here.result _ Memory c.from_residual-in_err-add_here.ensures.1 (λ damage. absurd damage)

pub returns-clause-turned : goal.returns-clause-turned
returns-clause-turned g c =
    record { counted = c.own_here.new.units; counts = c.own_here.ensures.counts; rest = c.turn_gone.new.gained.items; went = c.in_ok-turn_gone.ensures.went; gained_now = c.in_ok-add_here.ensures.added }
