use Rattle.std.proofs.Common.{◌≡◌, ◌+◌, List, length, ap, subst, arith}
use Rattle.std.proofs.lemmas.List.{length-drop, with_items_is}
use Rattle.ex_base.specs.Area.{InPageArea}
use Rattle.disk_model.specs.Changes.{changes_trans}
use Rattle.history_links.specs.declared.Links.{Links}
use Rattle.history_writes.specs.declared.rows.LinkFault.TheVariants.{Bad}
use Rattle.history_writes.specs.Linked.{HasNone, LinksPage}
use Rattle.history_writes.proofs.RowLinks.{in_pages, more_linked, never_linked, rest_of, same_fault}
use Rattle.ex_base.proofs.Handed.{not_given}
use Rattle.history_writes.proofs.rows.link_pages.Goals as goal

pub returns-in_err-done-clause-bad : goal.returns-in_err-done-clause-bad
returns-in_err-done-clause-bad g c = λ bad.
    let a = g.D.World.outside c.args.disk.now in
    let mid = g.D.World.outside c.pages.disk in
    let same : c.in_err-done.field-0.0 ≡ Bad = same_fault c.from_residual.result c.in_err-done.field-0.0 Bad c.from_residual.ensures.1 bad in
    never_linked c.args.geometry.now a mid c.args.first.0 c.args.pages c.pages.index c.pages.done c.args.links.now c.requires.behind (omega (arith, c.pages-test.true, c.requires.there)) c.pages-test.true c.pages.invariant.linked
    (subst (λ (ls : List Links). HasNone c.args.geometry.now mid (c.args.first.0 + c.pages.index) ls) (rest_of c.pages.done c.args.links.now) (c.in_err-done.ensures.bad cc))

pub returns-in_err-done-clause-changes : goal.returns-in_err-done-clause-changes
returns-in_err-done-clause-changes g c =
    let mid = g.D.World.outside c.pages.disk in
    let b = g.D.World.outside c.link_page.new.disk in
    let area : InPageArea c.args.geometry.now (c.args.first.0 + c.pages.index) = (omega (arith, c.requires.behind), omega (arith, c.pages-test.true, c.requires.there)) in
    changes_trans c.pages.invariant.changes (in_pages c.args.geometry.now mid b c.args.first.0 (c.args.first.0 + c.pages.index) area (omega arith) c.link_page.ensures.changes)

pub pages-preserved : goal.pages-preserved
pages-preserved g c =
    let a = g.D.World.outside c.args.disk.now in
    let mid = g.D.World.outside c.pages.disk in
    let b = g.D.World.outside c.link_page.new.disk in
    let area : InPageArea c.args.geometry.now (c.args.first.0 + c.pages.index) = (omega (arith, c.requires.behind), omega (arith, c.pages-test.true, c.requires.there)) in
    let read : length c.link_page.new.read ≡ c.pages.desk.read.len = omega (arith, c.link_page.auto.read, c.deref_mut.ensures.len) in
    let page : length c.link_page.new.into ≡ c.pages.desk.page.len = omega (arith, c.link_page.auto.into, c.deref_mut-in-pages.ensures.len) in
    let body : length c.link_page.new.body ≡ c.pages.desk.record.len = omega (arith, c.link_page.auto.body, c.deref_mut-in-pages-2.ensures.len) in
    record {
      few = omega (arith, c.in_ok-done.ensures.few, ap length (rest_of c.pages.done c.args.links.now), length-drop c.pages.done c.args.links.now, c.pages.invariant.few);
      desk = record {
        read = omega (arith, ap length (with_items_is c.pages.desk.read c.link_page.new.read read), c.link_page.auto.read, ap length c.deref_mut.ensures.value, c.pages.invariant.desk.read);
        page = omega (arith, ap length (with_items_is c.pages.desk.page c.link_page.new.into page), c.link_page.auto.into, ap length c.deref_mut-in-pages.ensures.value, c.pages.invariant.desk.page);
        body = omega (arith, ap length (with_items_is c.pages.desk.record c.link_page.new.body body), c.link_page.auto.body, ap length c.deref_mut-in-pages-2.ensures.value, c.pages.invariant.desk.body);
      };
      linked = more_linked c.args.geometry.now a mid b c.args.first.0 c.pages.index c.pages.done c.in_ok-done.field-0 c.args.links.now c.requires.behind (omega (arith, c.pages-test.true, c.requires.there)) c.pages.invariant.linked
          (subst (λ (ls : List Links). LinksPage c.args.geometry.now mid b (c.args.first.0 + c.pages.index) ls) (rest_of c.pages.done c.args.links.now) c.in_ok-done.ensures.linked) c.in_ok-done.ensures.count;
      changes = changes_trans c.pages.invariant.changes (in_pages c.args.geometry.now mid b c.args.first.0 (c.args.first.0 + c.pages.index) area (omega arith) c.link_page.ensures.changes);
    }

-- ---- what else is promised

pub returns-in_err-done-clause-linked : goal.returns-in_err-done-clause-linked
returns-in_err-done-clause-linked g c = not_given c.from_residual.result _ c.in_err-done.field-0.0 c.from_residual.ensures.1
