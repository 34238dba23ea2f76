use Rattle.std.proofs.Common.{◌≡◌, ◌≤◌, Some, true, false, sym, subst, ◌∙◌, ◌<◌, ap}
use Rattle.ex_base.specs.declared.faults.PortFault.TheVariants.{Damaged}
use Rattle.ex_base.proofs.Results.{if_err_handed}
use Rattle.object_records.specs.declared.Head.{Head}
use Rattle.object_records.specs.declared.State.TheVariants.{Frozen}
use Rattle.version_tree.specs.Links.{IsNewerFault, above_seen, at_newer, not_above, not_derived, number_seen}
use Rattle.ex_base.proofs.Handed.{no_value, cause_here}
use Rattle.std.proofs.lemmas.Bool.{false≢true}
use Rattle.version_tree.proofs.links.read_newer.Goals as goal

pub returns-in_err-newer-clause-sound : goal.returns-in_err-newer-clause-sound
returns-in_err-newer-clause-sound g c = if_err_handed c.from_residual.result _ _ c.from_residual.ensures.1 (λ damage told index body is has spelled older higher. c.in_err-newer.ensures.sound damage told index body is has spelled)

pub returns-in_err-newer-clause-fault : goal.returns-in_err-newer-clause-fault
returns-in_err-newer-clause-fault g c = if_err_handed c.from_residual.result _ _ c.from_residual.ensures.1 (λ told named. at_newer c.args.place named (c.in_err-newer.ensures.fault told))

pub returns-in_err-check-clause-fault : goal.returns-in_err-check-clause-fault
returns-in_err-check-clause-fault g c = if_err_handed c.from_residual-in_err-check.result _ _ c.from_residual-in_err-check.ensures.1 (λ told named.
    let read = c.in_ok-newer.ensures.reads told in
    not_derived c.args.place c.in_ok-newer.newer.body.items named read.stands
    (λ is. absurd (
    let yes : c.is_at.result ≡ true = c.is_at.ensures.1 (subst (λ (h : Head). h.older ≡ Some c.args.stored.now.place) (sym read.head) is) in
    let no : c.is_at.result ≡ false = c.in_err-check.ensures.fault.0 in false≢true (sym no ∙ yes))) c.in_err-check.ensures.fault.1)

pub returns-in_err-check_above-clause-fault : goal.returns-in_err-check_above-clause-fault
returns-in_err-check_above-clause-fault g c = if_err_handed c.from_residual-in_err-check_above.result _ _ c.from_residual-in_err-check_above.ensures.1 (λ told named.
    let read = c.in_ok-newer.ensures.reads told in
    subst (λ (h : Head). h.state ≡ Frozen → h.unique ≤ c.args.stored.now.head.unique → c.in_err-check_above.field-0.0 ≡ Damaged c.args.place.page (above_seen c.args.stored.now.head.unique) (number_seen h.unique)
    → IsNewerFault g.V.Ground c.args.volume.now c.args.stored.now.place c.args.stored.now.head c.in_err-check_above.field-0.0) (sym read.head)
    (not_above c.args.place c.in_ok-newer.newer.body.items named read.stands) c.in_err-check_above.ensures.frozen c.in_err-check_above.ensures.fault.0 c.in_err-check_above.ensures.fault.1)

pub returns-in_err-newer-clause-stored : goal.returns-in_err-newer-clause-stored
returns-in_err-newer-clause-stored g c = no_value c.from_residual.result _ c.in_err-newer.field-0.0 c.from_residual.ensures.1

pub returns-in_err-newer-clause-reads : goal.returns-in_err-newer-clause-reads
returns-in_err-newer-clause-reads g c = no_value c.from_residual.result _ c.in_err-newer.field-0.0 c.from_residual.ensures.1

pub returns-in_err-newer-clause-derived : goal.returns-in_err-newer-clause-derived
returns-in_err-newer-clause-derived g c = no_value c.from_residual.result _ c.in_err-newer.field-0.0 c.from_residual.ensures.1

pub returns-in_err-newer-clause-higher : goal.returns-in_err-newer-clause-higher
returns-in_err-newer-clause-higher g c = no_value c.from_residual.result _ c.in_err-newer.field-0.0 c.from_residual.ensures.1

pub returns-in_err-newer-clause-kept : goal.returns-in_err-newer-clause-kept
returns-in_err-newer-clause-kept g c = c.stored_at.ensures.kept

pub returns-in_err-newer-clause-cause : goal.returns-in_err-newer-clause-cause
returns-in_err-newer-clause-cause g c =
    cause_here (g.V.Ground.faults c.args.volume.now) (g.V.Ground.faults c.stored_at.new.volume) c.from_residual.result c.in_err-newer.field-0.0
    c.from_residual.ensures.1 c.in_err-newer.ensures.cause

pub returns-in_err-check-clause-stored : goal.returns-in_err-check-clause-stored
returns-in_err-check-clause-stored g c = no_value c.from_residual-in_err-check.result _ c.in_err-check.field-0.0 c.from_residual-in_err-check.ensures.1

pub returns-in_err-check-clause-reads : goal.returns-in_err-check-clause-reads
returns-in_err-check-clause-reads g c = no_value c.from_residual-in_err-check.result _ c.in_err-check.field-0.0 c.from_residual-in_err-check.ensures.1

pub returns-in_err-check-clause-derived : goal.returns-in_err-check-clause-derived
returns-in_err-check-clause-derived g c = no_value c.from_residual-in_err-check.result _ c.in_err-check.field-0.0 c.from_residual-in_err-check.ensures.1

pub returns-in_err-check-clause-higher : goal.returns-in_err-check-clause-higher
returns-in_err-check-clause-higher g c = no_value c.from_residual-in_err-check.result _ c.in_err-check.field-0.0 c.from_residual-in_err-check.ensures.1

pub returns-in_err-check-clause-kept : goal.returns-in_err-check-clause-kept
returns-in_err-check-clause-kept g c = c.stored_at.ensures.kept

pub returns-in_err-check-clause-cause : goal.returns-in_err-check-clause-cause
returns-in_err-check-clause-cause g c =
    cause_here (g.V.Ground.faults c.args.volume.now) (g.V.Ground.faults c.stored_at.new.volume) c.from_residual-in_err-check.result c.in_err-check.field-0.0
    c.from_residual-in_err-check.ensures.1 (c.in_err-check.ensures.cause (g.V.Ground.faults c.args.volume.now) (g.V.Ground.faults c.stored_at.new.volume))

pub returns-in_err-check_above-clause-stored : goal.returns-in_err-check_above-clause-stored
returns-in_err-check_above-clause-stored g c =
    no_value c.from_residual-in_err-check_above.result _ c.in_err-check_above.field-0.0 c.from_residual-in_err-check_above.ensures.1

pub returns-in_err-check_above-clause-reads : goal.returns-in_err-check_above-clause-reads
returns-in_err-check_above-clause-reads g c =
    no_value c.from_residual-in_err-check_above.result _ c.in_err-check_above.field-0.0 c.from_residual-in_err-check_above.ensures.1

pub returns-in_err-check_above-clause-derived : goal.returns-in_err-check_above-clause-derived
returns-in_err-check_above-clause-derived g c =
    no_value c.from_residual-in_err-check_above.result _ c.in_err-check_above.field-0.0 c.from_residual-in_err-check_above.ensures.1

pub returns-in_err-check_above-clause-higher : goal.returns-in_err-check_above-clause-higher
returns-in_err-check_above-clause-higher g c =
    no_value c.from_residual-in_err-check_above.result _ c.in_err-check_above.field-0.0 c.from_residual-in_err-check_above.ensures.1

pub returns-in_err-check_above-clause-kept : goal.returns-in_err-check_above-clause-kept
returns-in_err-check_above-clause-kept g c = c.stored_at.ensures.kept

pub returns-in_err-check_above-clause-cause : goal.returns-in_err-check_above-clause-cause
returns-in_err-check_above-clause-cause g c =
    cause_here (g.V.Ground.faults c.args.volume.now) (g.V.Ground.faults c.stored_at.new.volume) c.from_residual-in_err-check_above.result
    c.in_err-check_above.field-0.0 c.from_residual-in_err-check_above.ensures.1
    (c.in_err-check_above.ensures.cause (g.V.Ground.faults c.args.volume.now) (g.V.Ground.faults c.stored_at.new.volume))

pub returns-clause-sound : goal.returns-clause-sound
returns-clause-sound g c = tt

pub returns-clause-fault : goal.returns-clause-fault
returns-clause-fault g c = tt

pub returns-clause-kept : goal.returns-clause-kept
returns-clause-kept g c = c.stored_at.ensures.kept

pub returns-clause-cause : goal.returns-clause-cause
returns-clause-cause g c = tt

pub stored_at-requires : goal.stored_at-requires
stored_at-requires g c = c.requires

pub returns-in_err-check-clause-sound : goal.returns-in_err-check-clause-sound
returns-in_err-check-clause-sound g c = if_err_handed c.from_residual-in_err-check.result _ _ c.from_residual-in_err-check.ensures.1 (λ damage told index body is has spelled older higher.
    let at = c.in_ok-newer.ensures.stored told index body has in
    false≢true (sym c.in_err-check.ensures.fault.0 ∙ c.is_at.ensures.1 (ap (λ (h : Head). h.older) at.head ∙ older)))

pub returns-in_err-check_above-clause-sound : goal.returns-in_err-check_above-clause-sound
returns-in_err-check_above-clause-sound g c = if_err_handed c.from_residual-in_err-check_above.result _ _ c.from_residual-in_err-check_above.ensures.1 (λ damage told index body is has spelled older higher.
    let at = c.in_ok-newer.ensures.stored told index body has in
    c.in_err-check_above.ensures.never (subst (λ (h : Head). h.state ≡ Frozen → c.args.stored.now.head.unique < h.unique) (sym at.head) higher))

pub returns-clause-higher : goal.returns-clause-higher
returns-clause-higher g c = c.in_ok-check_above.ensures.above

pub returns-clause-derived : goal.returns-clause-derived
returns-clause-derived g c = c.is_at.ensures.0 c.in_ok-check.ensures.holds

pub returns-clause-reads : goal.returns-clause-reads
returns-clause-reads g c = c.in_ok-newer.ensures.reads

pub returns-clause-stored : goal.returns-clause-stored
returns-clause-stored g c = c.in_ok-newer.ensures.stored
