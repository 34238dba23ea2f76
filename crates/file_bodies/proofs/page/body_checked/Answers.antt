use Rattle.std.proofs.Common.{◌∙◌, sym}
use Rattle.file_bodies.proofs.Pages.{is_page, number_is, live_is, not_live}
use Rattle.file_bodies.proofs.Blame.{blames_place}
use Rattle.file_bodies.proofs.page.body_checked.Goals as goal

pub returns-in-None-clause-err : goal.returns-in-None-clause-err
returns-in-None-clause-err c = λ page live. not_live c.args.bytes.now c.in-Some.view.page c.args.place.slot c.in-Some.ensures.found.1 c.in-None.ensures live

pub returns-in-Some-body-clause-ok : goal.returns-in-Some-body-clause-ok
returns-in-Some-body-clause-ok c = is_page c.args.bytes.now c.in-Some.view.page c.in-Some.ensures.found.1

pub returns-in-Some-body-clause-file : goal.returns-in-Some-body-clause-file
returns-in-Some-body-clause-file c = number_is c.args.bytes.now c.in-Some.view.page c.in-Some.ensures.found.1 ∙ sym c.file_no.ensures

pub returns-in-Some-body-clause-live : goal.returns-in-Some-body-clause-live
returns-in-Some-body-clause-live c = live_is c.args.bytes.now c.in-Some.view.page c.args.place.slot _ c.in-Some.ensures.found.1 c.in-Some-body.ensures

pub returns-in-None-clause-fault : goal.returns-in-None-clause-fault
returns-in-None-clause-fault c = λ g held. blames_place g held c.args.bytes.now c.args.place c.no_body-in-None.result (λ has. not_live c.args.bytes.now c.in-Some.view.page c.args.place.slot c.in-Some.ensures.found.1 c.in-None.ensures has.live) c.no_body-in-None.ensures.is
