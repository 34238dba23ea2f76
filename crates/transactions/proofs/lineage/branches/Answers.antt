use Rattle.session_core.proofs.Quiet.{nothing_changed}
use Rattle.std.proofs.Common.{◌≡◌, ◌∙◌, length, rules}
use Rattle.ex_base.proofs.Results.{if_err_handed}
use Rattle.transactions.proofs.OnlyOne.{derived_counted}
use Rattle.transactions.proofs.lineage.branches.Goals as goal

pub returns-in_err-oids-clause-sound : goal.returns-in_err-oids-clause-sound
returns-in_err-oids-clause-sound g c = if_err_handed c.from_residual.result _ _ c.from_residual.ensures.1 (λ before same now told. c.in_err-oids.ensures.sound before same now told.version told.is)

pub returns-clause-count : goal.returns-clause-count
returns-clause-count g c = λ before same now told frozen.
    let counted = derived_counted before.machine told.version c.in_ok-oids.oids.items (c.in_ok-oids.ensures.oids before same now told.version told.is) in
    let len : c.len.result ≡ length c.in_ok-oids.oids.items = search rules in
    len ∙ counted

pub returns-then-is_some-clause-only : goal.returns-then-is_some-clause-only
returns-then-is_some-clause-only g c = nothing_changed _ _
