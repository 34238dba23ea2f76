use Rattle.std.proofs.Common.{◌≡◌, ◌+◌, ◌*◌, ℕ, List, [], length, refl, sym, ap, subst, arith, add-one}
use Rattle.std.specs.Prelude.{IsTrue}
use Rattle.std.proofs.lemmas.List.{with_items_is}
use Rattle.disk_model.specs.Calls.{Tears, Wrote}
use Rattle.slotted_pages.specs.FilePage.{SlotsOf}
use Rattle.history_writes.proofs.Writing.{at_home}
use Rattle.history_writes.proofs.Laying.{page_changes, page_left}
use Rattle.ex_base.proofs.Handed.{not_given}
use Rattle.history_writes.proofs.Failing.{on_err}
use Rattle.history_writes.proofs.file_pages.FilePages.leave_page.Goals as goal

pub returns-in_err-write-clause-changes : goal.returns-in_err-write-clause-changes
returns-in_err-write-clause-changes g c =
    let a = g.D.World.outside c.args.disk.now in
    let b = g.D.World.outside c.write.new.self in
    let at : c.home.result ≡ (c.args.self.now.first + c.args.self.now.written) * c.args.geometry.now.page_size = at_home c.home.result c.last_page.result.0 _ c.args.geometry.now.page_size c.home.ensures c.last_page.ensures in
    page_changes c.args.geometry.now a b c.args.self.now.first (c.args.self.now.first + c.args.self.now.written) (length c.deref.result.now) c.write.ensures.only
    (subst (λ (k : ℕ). IsTrue a.honest → Tears k (length c.deref.result.now) a b) at c.write.ensures.tears) (omega (arith, c.requires.behind), c.requires.there) (omega arith) (omega (arith, ap length c.deref.ensures.value, c.requires.size))

pub returns-clause-changes : goal.returns-clause-changes
returns-clause-changes g c =
    let a = g.D.World.outside c.args.disk.now in
    let b = g.D.World.outside c.write.new.self in
    let at : c.home.result ≡ (c.args.self.now.first + c.args.self.now.written) * c.args.geometry.now.page_size = at_home c.home.result c.last_page.result.0 _ c.args.geometry.now.page_size c.home.ensures c.last_page.ensures in
    page_changes c.args.geometry.now a b c.args.self.now.first (c.args.self.now.first + c.args.self.now.written) (length c.deref.result.now) c.write.ensures.only
    (subst (λ (k : ℕ). IsTrue a.honest → Tears k (length c.deref.result.now) a b) at c.write.ensures.tears) (omega (arith, c.requires.behind), c.requires.there) (omega arith) (omega (arith, ap length c.deref.ensures.value, c.requires.size))

pub returns-clause-left : goal.returns-clause-left
returns-clause-left g c =
    let old = c.args.self.now in
    let a = g.D.World.outside c.args.disk.now in
    let b = g.D.World.outside c.write.new.self in
    let at : c.home.result ≡ (c.args.self.now.first + c.args.self.now.written) * c.args.geometry.now.page_size = at_home c.home.result c.last_page.result.0 _ c.args.geometry.now.page_size c.home.ensures c.last_page.ensures in
    let wrote : Wrote ((c.args.self.now.first + c.args.self.now.written) * c.args.geometry.now.page_size) c.args.self.now.page.items a b =
    subst (λ (k : ℕ). Wrote k c.args.self.now.page.items a b) at (subst (λ (bytes : List ℕ). Wrote c.home.result bytes a b) c.deref.ensures.value c.in_ok-write.ensures.written) in
    let long : length c.empty_page.new.image ≡ c.args.self.now.page.len = omega (arith, c.empty_page.auto.image, c.deref_mut.ensures.len) in
    let empty = subst (λ (bytes : List ℕ). SlotsOf bytes (record { file_no = c.args.self.now.file_no; slots = [] })) (sym (with_items_is c.args.self.now.page c.empty_page.new.image long)) c.empty_page.ensures in
    page_left c.args.geometry.now a b c.args.self.now _ (g.D.World.is_world c.args.disk.now) c.requires.room wrote c.requires.size c.requires.behind c.requires.there c.requires.some (omega arith) refl refl empty

-- ---- what else is promised

pub returns-in_err-write-clause-left : goal.returns-in_err-write-clause-left
returns-in_err-write-clause-left g c = not_given c.from_residual.result _ c.in_err-write.field-0.0 c.from_residual.ensures.1

pub returns-in_err-write-clause-written : goal.returns-in_err-write-clause-written
returns-in_err-write-clause-written g c = not_given c.from_residual.result _ c.in_err-write.field-0.0 c.from_residual.ensures.1

pub returns-in_err-write-clause-empty : goal.returns-in_err-write-clause-empty
returns-in_err-write-clause-empty g c = not_given c.from_residual.result _ c.in_err-write.field-0.0 c.from_residual.ensures.1

pub returns-in_err-write-clause-file : goal.returns-in_err-write-clause-file
returns-in_err-write-clause-file g c = record { file_no = refl; first = refl; size = refl }

pub returns-in_err-write-clause-failed : goal.returns-in_err-write-clause-failed
returns-in_err-write-clause-failed g c = on_err c.from_residual.result _ (record { written = refl; page = refl })

pub returns-in_err-write-clause-cause : goal.returns-in_err-write-clause-cause
returns-in_err-write-clause-cause g c = on_err c.from_residual.result _ c.in_err-write.ensures.cause

pub returns-clause-written : goal.returns-clause-written
returns-clause-written g c = add-one c.args.self.now.written

pub returns-clause-empty : goal.returns-clause-empty
returns-clause-empty g c =
    let long : length c.empty_page.new.image ≡ c.args.self.now.page.len = omega (arith, c.empty_page.auto.image, c.deref_mut.ensures.len) in
    subst (λ (bytes : List ℕ). SlotsOf bytes (record { file_no = c.args.self.now.file_no; slots = [] })) (sym (with_items_is c.args.self.now.page c.empty_page.new.image long)) c.empty_page.ensures

pub returns-clause-file : goal.returns-clause-file
returns-clause-file g c =
    let long : length c.empty_page.new.image ≡ c.args.self.now.page.len = omega (arith, c.empty_page.auto.image, c.deref_mut.ensures.len) in
    record { file_no = refl; first = refl; size = omega (arith, ap (λ (b : List ℕ). length b) (with_items_is c.args.self.now.page c.empty_page.new.image long), c.empty_page.auto.image, ap (λ (b : List ℕ). length b) c.deref_mut.ensures.value) }

pub returns-clause-failed : goal.returns-clause-failed
returns-clause-failed g c = tt

pub returns-clause-cause : goal.returns-clause-cause
returns-clause-cause g c = tt
