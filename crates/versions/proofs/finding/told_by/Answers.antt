use Rattle.std.proofs.lemmas.Bool.{false≢true}
use Rattle.std.proofs.Common.{◌≡◌, true, false, sym, ap, subst, ◌∙◌, arith}
use Rattle.versions.specs.Damage.{bad_root}
use Rattle.versions.specs.Found.{HasLimits}
use Rattle.object_records.specs.declared.Head.{Head}
use Rattle.versions.proofs.finding.told_by.Goals as goal

pub returns-then-not-is_root_for-clause-sound : goal.returns-then-not-is_root_for-clause-sound
returns-then-not-is_root_for-clause-sound c = λ limits.
    let yes : c.is_root_for.result ≡ true = c.is_root_for.ensures.1 (subst (HasLimits c.args.geometry.now) (sym c.in-Large.ensures) limits) in
    let isnt : c.is_root_for.result ≡ false = c.if-not-is_root_for.true in
    absurd (false≢true (sym isnt ∙ yes))

pub returns-then-not-is_root_for-clause-fault : goal.returns-then-not-is_root_for-clause-fault
returns-then-not-is_root_for-clause-fault c = λ body spelled. bad_root c.args.view.now c.in-Large.root spelled
    (ap (λ (h : Head). h.unique) (sym c.head-head.ensures) ∙ omega (arith, c.if-head-oid.false)) (sym c.in-Large.ensures)
    (λ for. absurd (let yes : c.is_root_for.result ≡ true = c.is_root_for.ensures.1 for in let isnt : c.is_root_for.result ≡ false = c.if-not-is_root_for.true in false≢true (sym isnt ∙ yes))) c.no_root.ensures.is
