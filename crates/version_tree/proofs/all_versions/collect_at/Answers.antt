use Rattle.std.proofs.Common.{◌++◌, ◌∷◌, [], ap, ◌∙◌, leb-false, arith}
use Rattle.std.proofs.lemmas.Result.{on_ok_weaker, IfErr-weaker}
use Rattle.version_tree.specs.Lineage.{member_at}
use Rattle.version_tree.specs.declared.lineage.Member.{Member}
use Rattle.versions.specs.Damage.{own, unread}
use Rattle.versions.proofs.Faults.{step_as}
use Rattle.ex_base.proofs.Handed.{not_given, cause_here}
use Rattle.ex_base.proofs.Keeping.{keeps_refl}
use Rattle.versions.proofs.Results.{ok_of}
use Rattle.std.proofs.lemmas.Bool.{leb-true}
use Rattle.version_tree.proofs.all_versions.collect_at.Goals as goal
use Rattle.ex_base.proofs.Results.{if_err_handed}

pub returns-clause-sound : goal.returns-clause-sound
returns-clause-sound g c = IfErr-weaker c.put_member.result _ _ (λ fault never damage told le index body is has spelled. never damage) c.put_member.ensures.no_damage

pub returns-clause-fault : goal.returns-clause-fault
returns-clause-fault g c = IfErr-weaker c.put_member.result _ _ (λ fault never told. own never) c.put_member.ensures.no_damage

pub returns-in_err-check-clause-fault : goal.returns-in_err-check-clause-fault
returns-in_err-check-clause-fault g c = if_err_handed c.from_residual.result _ _ c.from_residual.ensures.1 (λ told. unread
    (λ le has. omega (arith, le, leb-false _ _ c.in_err-check.ensures.fault.0, c.first_rank.ensures, c.rank.ensures.rank)) c.in_err-check.ensures.fault.1)

pub returns-clause-cause : goal.returns-clause-cause
returns-clause-cause g c = c.put_member.ensures.cause _ _

pub returns-in_err-head-clause-sound : goal.returns-in_err-head-clause-sound
returns-in_err-head-clause-sound g c = if_err_handed c.from_residual-in_err-head.result _ _ c.from_residual-in_err-head.ensures.1 (λ damage told le index body is has spelled. c.in_err-head.ensures.sound damage told index body is has spelled)

pub returns-in_err-head-clause-fault : goal.returns-in_err-head-clause-fault
returns-in_err-head-clause-fault g c = if_err_handed c.from_residual-in_err-head.result _ _ c.from_residual-in_err-head.ensures.1 (λ told.
    step_as _ _ _ _ _ _ (λ lacks le has. lacks (omega arith) has) (c.in_err-head.ensures.fault told))

pub returns-clause-collected : goal.returns-clause-collected
returns-clause-collected g c = on_ok_weaker c.put_member.result (λ put told index body has.
    let heads = c.in_ok-head.ensures.head told index body has in
    put ∙ ap (λ (m : Member). c.args.members.now.items ++ m ∷ []) (c.member_at.ensures ∙ ap (member_at c.args.place) heads)) c.put_member.ensures.put

pub returns-in_err-check-clause-collected : goal.returns-in_err-check-clause-collected
returns-in_err-check-clause-collected g c = not_given c.from_residual.result _ c.in_err-check.field-0.0 c.from_residual.ensures.1

pub returns-in_err-check-clause-rises : goal.returns-in_err-check-clause-rises
returns-in_err-check-clause-rises g c = not_given c.from_residual.result _ c.in_err-check.field-0.0 c.from_residual.ensures.1

pub returns-in_err-check-clause-short : goal.returns-in_err-check-clause-short
returns-in_err-check-clause-short g c = not_given c.from_residual.result _ c.in_err-check.field-0.0 c.from_residual.ensures.1

pub returns-in_err-check-clause-kept : goal.returns-in_err-check-clause-kept
returns-in_err-check-clause-kept g c = keeps_refl g.V.Ground c.args.volume.now

pub returns-in_err-check-clause-cause : goal.returns-in_err-check-clause-cause
returns-in_err-check-clause-cause g c =
    cause_here (g.V.Ground.faults c.args.volume.now) (g.V.Ground.faults c.args.volume.now) c.from_residual.result c.in_err-check.field-0.0
    c.from_residual.ensures.1 (c.in_err-check.ensures.cause (g.V.Ground.faults c.args.volume.now) (g.V.Ground.faults c.args.volume.now))

pub returns-in_err-head-clause-collected : goal.returns-in_err-head-clause-collected
returns-in_err-head-clause-collected g c = not_given c.from_residual-in_err-head.result _ c.in_err-head.field-0.0 c.from_residual-in_err-head.ensures.1

pub returns-in_err-head-clause-rises : goal.returns-in_err-head-clause-rises
returns-in_err-head-clause-rises g c = not_given c.from_residual-in_err-head.result _ c.in_err-head.field-0.0 c.from_residual-in_err-head.ensures.1

pub returns-in_err-head-clause-short : goal.returns-in_err-head-clause-short
returns-in_err-head-clause-short g c = not_given c.from_residual-in_err-head.result _ c.in_err-head.field-0.0 c.from_residual-in_err-head.ensures.1

pub returns-in_err-head-clause-kept : goal.returns-in_err-head-clause-kept
returns-in_err-head-clause-kept g c = c.head_at.ensures.kept

pub returns-in_err-head-clause-cause : goal.returns-in_err-head-clause-cause
returns-in_err-head-clause-cause g c =
    cause_here (g.V.Ground.faults c.args.volume.now) (g.V.Ground.faults c.head_at.new.volume) c.from_residual-in_err-head.result c.in_err-head.field-0.0
    c.from_residual-in_err-head.ensures.1 c.in_err-head.ensures.cause

pub returns-clause-kept : goal.returns-clause-kept
returns-clause-kept g c = c.head_at.ensures.kept

pub head_at-requires : goal.head_at-requires
head_at-requires g c = c.requires

pub returns-clause-short : goal.returns-clause-short
returns-clause-short g c = ok_of c.put_member.result _ c.rank.ensures.short

pub returns-clause-rises : goal.returns-clause-rises
returns-clause-rises g c = ok_of c.put_member.result _ (omega (arith, leb-true _ _ c.in_ok-check.ensures.holds, c.first_rank.ensures, c.rank.ensures.rank))

pub returns-in_err-check-clause-sound : goal.returns-in_err-check-clause-sound
returns-in_err-check-clause-sound g c = if_err_handed c.from_residual.result _ _ c.from_residual.ensures.1 (λ damage told le index body is has spelled.
    omega (arith, le, leb-false _ _ c.in_err-check.ensures.fault.0, c.first_rank.ensures, c.rank.ensures.rank))
