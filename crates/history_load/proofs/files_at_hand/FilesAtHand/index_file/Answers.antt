use Rattle.std.proofs.Common.{◌≡◌, ℕ, List, Some, length, map, refl, sym, ap, subst, ◌∙◌, arith}
use Rattle.std.proofs.lemmas.List.{with_items_is}
use Rattle.object_files.specs.Catalog.{name_of}
use Rattle.object_files.specs.Edits.{IsCatalogPage, entries_on, indexed}
use Rattle.object_files.proofs.EntryLists.{names-indexed}
use Rattle.history_load.proofs.Entries.{entries_are, is_page}
use Rattle.ex_base.proofs.Results.{if_err_handed}
use Rattle.history_load.specs.Faults.{IsOfStream, LoadCause, fault_of_port}
use Rattle.ex_base.proofs.Handed.{not_given}
use Rattle.history_load.proofs.Causes.{port_cause, port_no_stream}
use Rattle.history_load.proofs.files_at_hand.FilesAtHand.index_file.Goals as goal

pub returns-clause-indexes : goal.returns-clause-indexes
returns-clause-indexes g c =
    let long : length c.set_index.new.image ≡ c.args.self.now.catalog.len = omega (arith, c.set_index.auto.image, c.deref_mut-2.ensures.len) in
    let items = with_items_is c.args.self.now.catalog c.set_index.new.image long in
    let entries = entries_are c.set_index.new.image c.deref_mut-2.result.now (map (indexed c.args.self.now.pages.file_no c.in_ok-end.end.level (Some c.in_ok-end.end.root)) (entries_on c.deref_mut-2.result.now)) c.set_index.ensures in
    let all = ap (λ (page : List ℕ). entries_on page) items ∙ entries ∙ ap (λ (page : List ℕ). map (indexed c.args.self.now.pages.file_no c.in_ok-end.end.level (Some c.in_ok-end.end.root)) (entries_on page)) c.deref_mut-2.ensures.value in
    record {
      told = λ image holds. let at = c.in_ok-end.ensures.indexes image holds in (at.0, at.1, c.in_ok-end.end, record { next = refl; index = at.2; catalog = all });
      behind = c.in_ok-end.ensures.behind;
      few = c.in_ok-end.ensures.few;
      names = ap (map name_of) all ∙ names-indexed c.args.self.now.pages.file_no c.in_ok-end.end.level (Some c.in_ok-end.end.root) (entries_on c.args.self.now.catalog.items);
      count = refl;
    }

pub returns-clause-ready : goal.returns-clause-ready
returns-clause-ready g c =
    let was = c.requires.file.ready in
    let long : length c.set_index.new.image ≡ c.args.self.now.catalog.len = omega (arith, c.set_index.auto.image, c.deref_mut-2.ensures.len) in
    let items = with_items_is c.args.self.now.catalog c.set_index.new.image long in
    let page = is_page c.set_index.new.image c.deref_mut-2.result.now (map (indexed c.args.self.now.pages.file_no c.in_ok-end.end.level (Some c.in_ok-end.end.root)) (entries_on c.deref_mut-2.result.now)) c.set_index.ensures in
    let size : length c.set_index.new.image ≡ c.args.geometry.now.page_size = omega (arith, c.set_index.auto.image, ap (λ (b : List ℕ). length b) c.deref_mut-2.ensures.value, was.catalog_size) in
    let made : length c.write_index_over.new.page ≡ c.args.self.now.desk.page.len = omega (arith, c.write_index_over.auto.page, c.deref_mut.ensures.len) in
    let desk = with_items_is c.args.self.now.desk.page c.write_index_over.new.page made in
    record {
      catalog = subst (λ (b : List ℕ). IsCatalogPage b) (sym items) page;
      catalog_size = ap (λ (b : List ℕ). length b) items ∙ size;
      page_size = was.page_size;
      behind = omega (arith, was.behind, c.requires.file.first, c.in_ok-end.ensures.behind);
      desk = record { read = was.desk.read; page = ap (λ (b : List ℕ). length b) desk ∙ c.in_ok-end.ensures.page; body = was.desk.body };
    }

-- ---- what else is promised

pub returns-in_err-end-clause-indexes : goal.returns-in_err-end-clause-indexes
returns-in_err-end-clause-indexes g c = not_given c.from_residual.result _ (fault_of_port c.in_err-end.field-0.0) c.from_residual.ensures.1

pub returns-in_err-end-clause-ready : goal.returns-in_err-end-clause-ready
returns-in_err-end-clause-ready g c = not_given c.from_residual.result _ (fault_of_port c.in_err-end.field-0.0) c.from_residual.ensures.1

pub returns-in_err-end-clause-no_fault : goal.returns-in_err-end-clause-no_fault
returns-in_err-end-clause-no_fault g c = if_err_handed c.from_residual.result (λ fault. IsOfStream fault → ⊥) (fault_of_port c.in_err-end.field-0.0) c.from_residual.ensures.1 (port_no_stream c.in_err-end.field-0.0 c.in_err-end.ensures.no_damage)

pub returns-in_err-end-clause-changes : goal.returns-in_err-end-clause-changes
returns-in_err-end-clause-changes g c = c.write_index_over.ensures.changes

pub returns-in_err-end-clause-cause : goal.returns-in_err-end-clause-cause
returns-in_err-end-clause-cause g c = if_err_handed c.from_residual.result (LoadCause (g.D.World.outside c.args.disk.now) (g.D.World.outside c.write_index_over.new.disk)) (fault_of_port c.in_err-end.field-0.0) c.from_residual.ensures.1 (port_cause (g.D.World.outside c.args.disk.now) (g.D.World.outside c.write_index_over.new.disk) c.in_err-end.field-0.0 c.in_err-end.ensures.cause)

pub returns-clause-no_fault : goal.returns-clause-no_fault
returns-clause-no_fault g c = tt

pub returns-clause-changes : goal.returns-clause-changes
returns-clause-changes g c = c.write_index_over.ensures.changes

pub returns-clause-cause : goal.returns-clause-cause
returns-clause-cause g c = tt
