use Rattle.std.proofs.Common.{◌<◌, ◌+◌, List, take, sym, subst, arith}
use Rattle.std.proofs.lemmas.List.{take_all, take_more}
use Rattle.ex_base.specs.Area.{area_end}
use Rattle.ex_base.specs.declared.names.PageNo.{PageNo}
use Rattle.ex_base.proofs.Each.{each_at}
use Rattle.file_walk.specs.Walk.{page_numbers}
use Rattle.volume_port.specs.Logged.{LoggedSet}
use Rattle.restart.specs.Content.{AreHeld}
use Rattle.restart.proofs.Adopting.{AreAdopted, adopted_next, none_adopted}
use Rattle.restart.proofs.content.logged_pages.Goals as goal

abbrev none : PageNo
none = record { 0 = 0 }

pub loop-page-init : goal.loop-page-init
loop-page-init c = let made = c.in_ok-pages.ensures in none_adopted c.args.geometry.now c.in_ok-pages.pages made.held made.held_len

pub adopt-requires : goal.adopt-requires
adopt-requires c =
    omega (arith, each_at (λ (page : PageNo). page.0 < area_end c.args.geometry.now) c.args.files.now c.loop-page.page-index none c.loop-page-test.true c.requires, c.loop-page.invariant.held_len)

pub loop-page-preserved : goal.loop-page-preserved
loop-page-preserved c =
    let g = c.args.geometry.now in
    let inside = each_at (λ (page : PageNo). page.0 < area_end g) c.args.files.now c.loop-page.page-index none c.loop-page-test.true c.requires in
    subst (λ (s : LoggedSet). AreAdopted g s (take (c.loop-page.page-index + 1) c.args.files.now)) (sym c.adopt.ensures)
    (subst (AreAdopted g _) (sym (take_more c.args.files.now c.loop-page.page-index none c.loop-page-test.true)) (adopted_next g c.loop-page.pages (take c.loop-page.page-index c.args.files.now) _ inside c.loop-page.invariant))

pub returns-clause-held : goal.returns-clause-held
returns-clause-held c =
    subst (λ (files : List PageNo). AreHeld c.loop-page.pages (page_numbers files)) (take_all c.loop-page.page-index c.args.files.now c.loop-page-test.false) c.loop-page.invariant.held

pub returns-clause-len : goal.returns-clause-len
returns-clause-len c = c.loop-page.invariant.held_len
