use Rattle.std.proofs.Common.{◌≡◌, ◌≤◌, true, false, sym, subst, ◌∙◌, ◌<◌, ap}
use Rattle.ex_base.specs.declared.faults.PortFault.TheVariants.{Damaged}
use Rattle.ex_base.proofs.Results.{if_err_handed}
use Rattle.object_records.specs.declared.Head.{Head}
use Rattle.object_records.specs.declared.State.TheVariants.{Frozen}
use Rattle.version_tree.specs.Links.{IsOlderFault, at_older, below_seen, not_below, not_frozen, number_seen}
use Rattle.ex_base.proofs.Handed.{no_value, cause_here}
use Rattle.std.proofs.lemmas.Bool.{false≢true}
use Rattle.version_tree.proofs.links.read_older.Goals as goal

pub returns-in_err-stored-clause-sound : goal.returns-in_err-stored-clause-sound
returns-in_err-stored-clause-sound g c = if_err_handed c.from_residual.result _ _ c.from_residual.ensures.1 (λ damage told index body is has spelled frozen lower. c.in_err-stored.ensures.sound damage told index body is has spelled)

pub returns-in_err-stored-clause-fault : goal.returns-in_err-stored-clause-fault
returns-in_err-stored-clause-fault g c = if_err_handed c.from_residual.result _ _ c.from_residual.ensures.1 (λ told named. at_older c.args.place named (c.in_err-stored.ensures.fault told))

pub returns-in_err-check-clause-fault : goal.returns-in_err-check-clause-fault
returns-in_err-check-clause-fault g c = if_err_handed c.from_residual-in_err-check.result _ _ c.from_residual-in_err-check.ensures.1 (λ told named.
    let read = c.in_ok-stored.ensures.reads told in
    not_frozen c.args.place c.in_ok-stored.stored.body.items named read.stands (λ is. absurd (
    let yes : c.is_frozen.result ≡ true = c.is_frozen.ensures.1 (subst (λ (h : Head). h.state ≡ Frozen) (sym read.head) is) in
    let no : c.is_frozen.result ≡ false = c.in_err-check.ensures.fault.0 in false≢true (sym no ∙ yes))) c.in_err-check.ensures.fault.1)

pub returns-in_err-check_below-clause-fault : goal.returns-in_err-check_below-clause-fault
returns-in_err-check_below-clause-fault g c = if_err_handed c.from_residual-in_err-check_below.result _ _ c.from_residual-in_err-check_below.ensures.1 (λ told named.
    let read = c.in_ok-stored.ensures.reads told in
    subst (λ (h : Head). c.args.head.now.unique ≤ h.unique → c.in_err-check_below.field-0.0 ≡ Damaged c.args.place.page (below_seen c.args.head.now.unique) (number_seen h.unique)
    → IsOlderFault g.V.Ground c.args.volume.now c.args.head.now c.in_err-check_below.field-0.0) (sym read.head)
    (not_below c.args.place c.in_ok-stored.stored.body.items named read.stands c.in_err-check_below.ensures.frozen) c.in_err-check_below.ensures.fault.0 c.in_err-check_below.ensures.fault.1)

pub returns-in_err-stored-clause-stored : goal.returns-in_err-stored-clause-stored
returns-in_err-stored-clause-stored g c = no_value c.from_residual.result _ c.in_err-stored.field-0.0 c.from_residual.ensures.1

pub returns-in_err-stored-clause-reads : goal.returns-in_err-stored-clause-reads
returns-in_err-stored-clause-reads g c = no_value c.from_residual.result _ c.in_err-stored.field-0.0 c.from_residual.ensures.1

pub returns-in_err-stored-clause-frozen : goal.returns-in_err-stored-clause-frozen
returns-in_err-stored-clause-frozen g c = no_value c.from_residual.result _ c.in_err-stored.field-0.0 c.from_residual.ensures.1

pub returns-in_err-stored-clause-lower : goal.returns-in_err-stored-clause-lower
returns-in_err-stored-clause-lower g c = no_value c.from_residual.result _ c.in_err-stored.field-0.0 c.from_residual.ensures.1

pub returns-in_err-stored-clause-kept : goal.returns-in_err-stored-clause-kept
returns-in_err-stored-clause-kept g c = c.stored_at.ensures.kept

pub returns-in_err-stored-clause-cause : goal.returns-in_err-stored-clause-cause
returns-in_err-stored-clause-cause g c =
    cause_here (g.V.Ground.faults c.args.volume.now) (g.V.Ground.faults c.stored_at.new.volume) c.from_residual.result c.in_err-stored.field-0.0
    c.from_residual.ensures.1 c.in_err-stored.ensures.cause

pub returns-in_err-check-clause-stored : goal.returns-in_err-check-clause-stored
returns-in_err-check-clause-stored g c = no_value c.from_residual-in_err-check.result _ c.in_err-check.field-0.0 c.from_residual-in_err-check.ensures.1

pub returns-in_err-check-clause-reads : goal.returns-in_err-check-clause-reads
returns-in_err-check-clause-reads g c = no_value c.from_residual-in_err-check.result _ c.in_err-check.field-0.0 c.from_residual-in_err-check.ensures.1

pub returns-in_err-check-clause-frozen : goal.returns-in_err-check-clause-frozen
returns-in_err-check-clause-frozen g c = no_value c.from_residual-in_err-check.result _ c.in_err-check.field-0.0 c.from_residual-in_err-check.ensures.1

pub returns-in_err-check-clause-lower : goal.returns-in_err-check-clause-lower
returns-in_err-check-clause-lower g c = no_value c.from_residual-in_err-check.result _ c.in_err-check.field-0.0 c.from_residual-in_err-check.ensures.1

pub returns-in_err-check-clause-kept : goal.returns-in_err-check-clause-kept
returns-in_err-check-clause-kept g c = c.stored_at.ensures.kept

pub returns-in_err-check-clause-cause : goal.returns-in_err-check-clause-cause
returns-in_err-check-clause-cause g c =
    cause_here (g.V.Ground.faults c.args.volume.now) (g.V.Ground.faults c.stored_at.new.volume) c.from_residual-in_err-check.result c.in_err-check.field-0.0
    c.from_residual-in_err-check.ensures.1 (c.in_err-check.ensures.cause (g.V.Ground.faults c.args.volume.now) (g.V.Ground.faults c.stored_at.new.volume))

pub returns-in_err-check_below-clause-stored : goal.returns-in_err-check_below-clause-stored
returns-in_err-check_below-clause-stored g c =
    no_value c.from_residual-in_err-check_below.result _ c.in_err-check_below.field-0.0 c.from_residual-in_err-check_below.ensures.1

pub returns-in_err-check_below-clause-reads : goal.returns-in_err-check_below-clause-reads
returns-in_err-check_below-clause-reads g c =
    no_value c.from_residual-in_err-check_below.result _ c.in_err-check_below.field-0.0 c.from_residual-in_err-check_below.ensures.1

pub returns-in_err-check_below-clause-frozen : goal.returns-in_err-check_below-clause-frozen
returns-in_err-check_below-clause-frozen g c =
    no_value c.from_residual-in_err-check_below.result _ c.in_err-check_below.field-0.0 c.from_residual-in_err-check_below.ensures.1

pub returns-in_err-check_below-clause-lower : goal.returns-in_err-check_below-clause-lower
returns-in_err-check_below-clause-lower g c =
    no_value c.from_residual-in_err-check_below.result _ c.in_err-check_below.field-0.0 c.from_residual-in_err-check_below.ensures.1

pub returns-in_err-check_below-clause-kept : goal.returns-in_err-check_below-clause-kept
returns-in_err-check_below-clause-kept g c = c.stored_at.ensures.kept

pub returns-in_err-check_below-clause-cause : goal.returns-in_err-check_below-clause-cause
returns-in_err-check_below-clause-cause g c =
    cause_here (g.V.Ground.faults c.args.volume.now) (g.V.Ground.faults c.stored_at.new.volume) c.from_residual-in_err-check_below.result
    c.in_err-check_below.field-0.0 c.from_residual-in_err-check_below.ensures.1
    (c.in_err-check_below.ensures.cause (g.V.Ground.faults c.args.volume.now) (g.V.Ground.faults c.stored_at.new.volume))

pub returns-clause-sound : goal.returns-clause-sound
returns-clause-sound g c = tt

pub returns-clause-fault : goal.returns-clause-fault
returns-clause-fault g c = tt

pub returns-clause-kept : goal.returns-clause-kept
returns-clause-kept g c = c.stored_at.ensures.kept

pub returns-clause-cause : goal.returns-clause-cause
returns-clause-cause g c = tt

pub stored_at-requires : goal.stored_at-requires
stored_at-requires g c = c.requires

pub returns-in_err-check-clause-sound : goal.returns-in_err-check-clause-sound
returns-in_err-check-clause-sound g c = if_err_handed c.from_residual-in_err-check.result _ _ c.from_residual-in_err-check.ensures.1 (λ damage told index body is has spelled frozen lower.
    let at = c.in_ok-stored.ensures.stored told index body has in
    false≢true (sym c.in_err-check.ensures.fault.0 ∙ c.is_frozen.ensures.1 (ap (λ (h : Head). h.state) at.head ∙ frozen)))

pub returns-in_err-check_below-clause-sound : goal.returns-in_err-check_below-clause-sound
returns-in_err-check_below-clause-sound g c = if_err_handed c.from_residual-in_err-check_below.result _ _ c.from_residual-in_err-check_below.ensures.1 (λ damage told index body is has spelled frozen lower.
    let at = c.in_ok-stored.ensures.stored told index body has in
    c.in_err-check_below.ensures.never (subst (λ (h : Head). c.args.head.now.state ≡ Frozen → h.unique < c.args.head.now.unique) (sym at.head) lower))

pub returns-clause-lower : goal.returns-clause-lower
returns-clause-lower g c = c.in_ok-check_below.ensures.below

pub returns-clause-frozen : goal.returns-clause-frozen
returns-clause-frozen g c = c.is_frozen.ensures.0 c.in_ok-check.ensures.holds

pub returns-clause-reads : goal.returns-clause-reads
returns-clause-reads g c = c.in_ok-stored.ensures.reads

pub returns-clause-stored : goal.returns-clause-stored
returns-clause-stored g c = c.in_ok-stored.ensures.stored
