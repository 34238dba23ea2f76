use Rattle.std.proofs.Common.{◌≡◌, ℕ, suc, List, [], ◌∷◌, ◌++◌, length, Option, Some, None, refl, sym, ap, subst, ◌∙◌, arith}
use Rattle.std.specs.Prelude.{IfSome}
use Rattle.std.specs.Vec.{with_items}
use Rattle.std.proofs.lemmas.List.{with_items_is}
use Rattle.object_records.specs.Record.{record_bytes}
use Rattle.slotted_pages.specs.FilePage.{Slot, SlotsOf}
use Rattle.slotted_pages.specs.Edits.{place_for, slots_of, with_slot, with_slots}
use Rattle.slotted_pages.specs.Reads.{page_on}
use Rattle.volume_model.specs.Homes.{home}
use Rattle.history_writes.specs.Laid.{IsDense, page_of, rows_after, slots_after, written_after}
use Rattle.history_writes.proofs.Laying.{body_laid, body_put, empty_dense, first_slot, laid_more, laid_same, page_is, put_slots, rows_left, slots_are}
use Rattle.ex_base.proofs.Handed.{no_value, not_given}
use Rattle.history_writes.proofs.Failing.{on_err}
use Rattle.disk_model.specs.Changes.{changes_refl}
use Rattle.history_writes.specs.Places.{InPagesFrom}
use Rattle.history_writes.proofs.file_pages.FilePages.add.Goals as goal

pub returns-in-Some-clause-lays : goal.returns-in-Some-clause-lays
returns-in-Some-clause-lays g c = λ r is image records holds laid.
    let old = c.args.self.now in
    let long : length c.insert_body.new.image ≡ c.args.self.now.page.len = omega (arith, c.insert_body.auto.image, c.deref_mut.ensures.len) in
    let items = with_items_is c.args.self.now.page c.insert_body.new.image long in
    let place = sym c.in-Some.is ∙ c.insert_body.ensures.place in (
      image,
      holds,
      laid_more (home c.args.geometry.now image) old _ records r laid refl refl refl (λ last slots.
          subst (λ (b : List ℕ). SlotsOf b (page_of old.file_no (last ++ r ∷ []))) (sym items)
          (body_laid c.deref_mut.result.now c.insert_body.new.image c.args.body.now old.file_no c.in-Some.slot last r (subst (λ (b : List ℕ). SlotsOf b (page_of old.file_no last)) (sym c.deref_mut.ensures.value) slots) is.spelled place c.in-Some.ensures.placed)),
      sym (ap (rows_after laid.full laid.last r) (ap (λ (b : List ℕ). place_for (length b) (slots_of b) (length (record_bytes r))) (sym c.deref_mut.ensures.value) ∙ ap (λ (b : List ℕ). place_for (length c.deref_mut.result.now) (slots_of c.deref_mut.result.now) (length b)) (sym is.spelled) ∙ sym place)),
    )

pub returns-in-Some-clause-place : goal.returns-in-Some-clause-place
returns-in-Some-clause-place g c =
    let long : length c.insert_body.new.image ≡ c.args.self.now.page.len = omega (arith, c.insert_body.auto.image, c.deref_mut.ensures.len) in
    let items = with_items_is c.args.self.now.page c.insert_body.new.image long in
    let put = body_put c.deref_mut.result.now c.insert_body.new.image c.args.body.now c.in-Some.slot (subst IsDense (sym c.deref_mut.ensures.value) c.requires.page) (sym c.in-Some.is ∙ c.insert_body.ensures.place) c.in-Some.ensures.placed in
    record { page = c.last_page.ensures; slot = subst (λ (b : List ℕ). suc c.in-Some.slot ≡ length (slots_of b)) (sym items) put.last }

pub returns-in-Some-clause-page : goal.returns-in-Some-clause-page
returns-in-Some-clause-page g c =
    let long : length c.insert_body.new.image ≡ c.args.self.now.page.len = omega (arith, c.insert_body.auto.image, c.deref_mut.ensures.len) in
    let put = body_put c.deref_mut.result.now c.insert_body.new.image c.args.body.now c.in-Some.slot (subst IsDense (sym c.deref_mut.ensures.value) c.requires.page) (sym c.in-Some.is ∙ c.insert_body.ensures.place) c.in-Some.ensures.placed in
    subst IsDense (sym (with_items_is c.args.self.now.page c.insert_body.new.image long)) put.dense

pub insert_body-requires-2-clause-page : goal.insert_body-requires-2-clause-page
insert_body-requires-2-clause-page g c =
    page_is c.deref_mut-2.result.now _ (subst (λ (b : List ℕ). SlotsOf b (record { file_no = c.args.self.now.file_no; slots = [] })) (sym c.deref_mut-2.ensures.value) c.in_ok-leave_page.ensures.empty)

pub returns-clause-lays : goal.returns-clause-lays
returns-clause-lays g c = λ r is image records holds laid.
    let old = c.leave_page.new.self in
    let was : length c.insert_body.new.image ≡ c.args.self.now.page.len = omega (arith, c.insert_body.auto.image, c.deref_mut.ensures.len) in
    let same : (with_items c.args.self.now.page c.insert_body.new.image).items ≡ c.args.self.now.page.items = with_items_is c.args.self.now.page c.insert_body.new.image was ∙ c.in_default.ensures.kept ∙ c.deref_mut.ensures.value in
    let left = c.in_ok-leave_page.ensures.left image records holds (laid_same (home c.args.geometry.now image) c.args.self.now _ records laid refl refl refl same) in
    let long : length c.insert_body-2.new.image ≡ c.leave_page.new.self.page.len = omega (arith, c.insert_body-2.auto.image, c.deref_mut-2.ensures.len) in
    let items = with_items_is c.leave_page.new.self.page c.insert_body-2.new.image long in
    let empty = subst (λ (b : List ℕ). SlotsOf b (record { file_no = c.args.self.now.file_no; slots = [] })) (sym c.deref_mut-2.ensures.value) c.in_ok-leave_page.ensures.empty in
    let first = first_slot c.deref_mut-2.result.now c.args.self.now.file_no (length c.args.body.now) empty (omega (arith, c.requires.fits, c.requires.size, c.leave_page.ensures.file.size, ap length c.deref_mut-2.ensures.value, ap length same)) in
    let placed = subst (λ (o : Option ℕ). IfSome o (λ slot. SlotsOf c.insert_body-2.new.image (with_slots (page_on c.deref_mut-2.result.now) (with_slot (slots_of c.deref_mut-2.result.now) slot (Some c.args.body.now))))) (c.insert_body-2.ensures.place ∙ first) c.insert_body-2.ensures.placed in (
      left.0,
      left.1,
      laid_more (home c.args.geometry.now left.0) old _ records r left.2 refl refl refl (λ last slots.
          subst (λ (b : List ℕ). SlotsOf b (page_of old.file_no (last ++ r ∷ []))) (sym items)
          (body_laid c.deref_mut-2.result.now c.insert_body-2.new.image c.args.body.now old.file_no 0 last r (subst (λ (b : List ℕ). SlotsOf b (page_of old.file_no last)) (sym c.deref_mut-2.ensures.value) slots) is.spelled (sym first) placed)),
      rows_left left.2.full laid.full left.2.last laid.last r left.3 left.4
          ∙ sym (ap (rows_after laid.full laid.last r) (ap (λ (b : List ℕ). place_for (length b) (slots_of b) (length (record_bytes r))) (sym c.deref_mut.ensures.value) ∙ ap (λ (b : List ℕ). place_for (length c.deref_mut.result.now) (slots_of c.deref_mut.result.now) (length b)) (sym is.spelled) ∙ sym c.insert_body.ensures.place ∙ c.in_default.is)),
    )

pub returns-clause-place : goal.returns-clause-place
returns-clause-place g c =
    let was : length c.insert_body.new.image ≡ c.args.self.now.page.len = omega (arith, c.insert_body.auto.image, c.deref_mut.ensures.len) in
    let same : (with_items c.args.self.now.page c.insert_body.new.image).items ≡ c.args.self.now.page.items = with_items_is c.args.self.now.page c.insert_body.new.image was ∙ c.in_default.ensures.kept ∙ c.deref_mut.ensures.value in
    let long : length c.insert_body-2.new.image ≡ c.leave_page.new.self.page.len = omega (arith, c.insert_body-2.auto.image, c.deref_mut-2.ensures.len) in
    let items = with_items_is c.leave_page.new.self.page c.insert_body-2.new.image long in
    let empty = subst (λ (b : List ℕ). SlotsOf b (record { file_no = c.args.self.now.file_no; slots = [] })) (sym c.deref_mut-2.ensures.value) c.in_ok-leave_page.ensures.empty in
    let first = first_slot c.deref_mut-2.result.now c.args.self.now.file_no (length c.args.body.now) empty (omega (arith, c.requires.fits, c.requires.size, c.leave_page.ensures.file.size, ap length c.deref_mut-2.ensures.value, ap length same)) in
    let placed = subst (λ (o : Option ℕ). IfSome o (λ slot. SlotsOf c.insert_body-2.new.image (with_slots (page_on c.deref_mut-2.result.now) (with_slot (slots_of c.deref_mut-2.result.now) slot (Some c.args.body.now))))) (c.insert_body-2.ensures.place ∙ first) c.insert_body-2.ensures.placed in
    let put = body_put c.deref_mut-2.result.now c.insert_body-2.new.image c.args.body.now 0 (empty_dense c.deref_mut-2.result.now c.args.self.now.file_no empty) (sym first) placed in
    record { page = c.last_page-2.ensures; slot = subst (λ (b : List ℕ). 1 ≡ length (slots_of b)) (sym items) put.last }

pub returns-clause-page : goal.returns-clause-page
returns-clause-page g c =
    let was : length c.insert_body.new.image ≡ c.args.self.now.page.len = omega (arith, c.insert_body.auto.image, c.deref_mut.ensures.len) in
    let same : (with_items c.args.self.now.page c.insert_body.new.image).items ≡ c.args.self.now.page.items = with_items_is c.args.self.now.page c.insert_body.new.image was ∙ c.in_default.ensures.kept ∙ c.deref_mut.ensures.value in
    let long : length c.insert_body-2.new.image ≡ c.leave_page.new.self.page.len = omega (arith, c.insert_body-2.auto.image, c.deref_mut-2.ensures.len) in
    let empty = subst (λ (b : List ℕ). SlotsOf b (record { file_no = c.args.self.now.file_no; slots = [] })) (sym c.deref_mut-2.ensures.value) c.in_ok-leave_page.ensures.empty in
    let first = first_slot c.deref_mut-2.result.now c.args.self.now.file_no (length c.args.body.now) empty (omega (arith, c.requires.fits, c.requires.size, c.leave_page.ensures.file.size, ap length c.deref_mut-2.ensures.value, ap length same)) in
    let placed = subst (λ (o : Option ℕ). IfSome o (λ slot. SlotsOf c.insert_body-2.new.image (with_slots (page_on c.deref_mut-2.result.now) (with_slot (slots_of c.deref_mut-2.result.now) slot (Some c.args.body.now))))) (c.insert_body-2.ensures.place ∙ first) c.insert_body-2.ensures.placed in
    let put = body_put c.deref_mut-2.result.now c.insert_body-2.new.image c.args.body.now 0 (empty_dense c.deref_mut-2.result.now c.args.self.now.file_no empty) (sym first) placed in
    subst IsDense (sym (with_items_is c.leave_page.new.self.page c.insert_body-2.new.image long)) put.dense

pub returns-in-Some-clause-written : goal.returns-in-Some-clause-written
returns-in-Some-clause-written g c =
    let place : place_for (length c.args.self.now.page.items) (slots_of c.args.self.now.page.items) (length c.args.body.now) ≡ Some c.in-Some.slot =
    ap (λ (b : List ℕ). place_for (length b) (slots_of b) (length c.args.body.now)) (sym c.deref_mut.ensures.value) ∙ sym c.insert_body.ensures.place ∙ c.in-Some.is in
    sym (ap (written_after c.args.self.now.written) place)

pub returns-clause-written : goal.returns-clause-written
returns-clause-written g c =
    let place : place_for (length c.args.self.now.page.items) (slots_of c.args.self.now.page.items) (length c.args.body.now) ≡ None =
    ap (λ (b : List ℕ). place_for (length b) (slots_of b) (length c.args.body.now)) (sym c.deref_mut.ensures.value) ∙ sym c.insert_body.ensures.place ∙ c.in_default.is in
    c.in_ok-leave_page.ensures.written ∙ sym (ap (written_after c.args.self.now.written) place)

pub returns-in-Some-clause-slots : goal.returns-in-Some-clause-slots
returns-in-Some-clause-slots g c =
    let long : length c.insert_body.new.image ≡ c.args.self.now.page.len = omega (arith, c.insert_body.auto.image, c.deref_mut.ensures.len) in
    let items = with_items_is c.args.self.now.page c.insert_body.new.image long in
    let put = put_slots c.deref_mut.result.now c.insert_body.new.image c.args.body.now c.in-Some.slot (subst IsDense (sym c.deref_mut.ensures.value) c.requires.page) (sym c.in-Some.is ∙ c.insert_body.ensures.place) c.in-Some.ensures.placed in
    let place : place_for (length c.args.self.now.page.items) (slots_of c.args.self.now.page.items) (length c.args.body.now) ≡ Some c.in-Some.slot =
    ap (λ (b : List ℕ). place_for (length b) (slots_of b) (length c.args.body.now)) (sym c.deref_mut.ensures.value) ∙ sym c.insert_body.ensures.place ∙ c.in-Some.is in
    ap (λ (b : List ℕ). slots_of b) items ∙ put ∙ ap (λ (b : List ℕ). slots_of b ++ Some c.args.body.now ∷ []) c.deref_mut.ensures.value ∙ sym (ap (slots_after (slots_of c.args.self.now.page.items) c.args.body.now) place)

pub returns-clause-slots : goal.returns-clause-slots
returns-clause-slots g c =
    let was : length c.insert_body.new.image ≡ c.args.self.now.page.len = omega (arith, c.insert_body.auto.image, c.deref_mut.ensures.len) in
    let same : (with_items c.args.self.now.page c.insert_body.new.image).items ≡ c.args.self.now.page.items = with_items_is c.args.self.now.page c.insert_body.new.image was ∙ c.in_default.ensures.kept ∙ c.deref_mut.ensures.value in
    let long : length c.insert_body-2.new.image ≡ c.leave_page.new.self.page.len = omega (arith, c.insert_body-2.auto.image, c.deref_mut-2.ensures.len) in
    let items = with_items_is c.leave_page.new.self.page c.insert_body-2.new.image long in
    let empty = subst (λ (b : List ℕ). SlotsOf b (record { file_no = c.args.self.now.file_no; slots = [] })) (sym c.deref_mut-2.ensures.value) c.in_ok-leave_page.ensures.empty in
    let first = first_slot c.deref_mut-2.result.now c.args.self.now.file_no (length c.args.body.now) empty (omega (arith, c.requires.fits, c.requires.size, c.leave_page.ensures.file.size, ap length c.deref_mut-2.ensures.value, ap length same)) in
    let placed = subst (λ (o : Option ℕ). IfSome o (λ slot. SlotsOf c.insert_body-2.new.image (with_slots (page_on c.deref_mut-2.result.now) (with_slot (slots_of c.deref_mut-2.result.now) slot (Some c.args.body.now))))) (c.insert_body-2.ensures.place ∙ first) c.insert_body-2.ensures.placed in
    let put = put_slots c.deref_mut-2.result.now c.insert_body-2.new.image c.args.body.now 0 (empty_dense c.deref_mut-2.result.now c.args.self.now.file_no empty) (sym first) placed in
    let none : slots_of c.deref_mut-2.result.now ≡ [] = slots_are c.deref_mut-2.result.now (record { file_no = c.args.self.now.file_no; slots = [] }) empty in
    let place : place_for (length c.args.self.now.page.items) (slots_of c.args.self.now.page.items) (length c.args.body.now) ≡ None =
    ap (λ (b : List ℕ). place_for (length b) (slots_of b) (length c.args.body.now)) (sym c.deref_mut.ensures.value) ∙ sym c.insert_body.ensures.place ∙ c.in_default.is in
    ap (λ (b : List ℕ). slots_of b) items ∙ put ∙ ap (λ (slots : List Slot). slots ++ Some c.args.body.now ∷ []) none ∙ sym (ap (slots_after (slots_of c.args.self.now.page.items) c.args.body.now) place)

-- ---- what else is promised

pub returns-in-Some-clause-file : goal.returns-in-Some-clause-file
returns-in-Some-clause-file g c =
    let was : length c.insert_body.new.image ≡ c.args.self.now.page.len = omega (arith, c.insert_body.auto.image, c.deref_mut.ensures.len) in
    record { file_no = refl; first = refl; size = omega (arith, ap (λ (b : List ℕ). length b) (with_items_is c.args.self.now.page c.insert_body.new.image was), c.insert_body.auto.image, ap (λ (b : List ℕ). length b) c.deref_mut.ensures.value) }

pub returns-in-Some-clause-failed : goal.returns-in-Some-clause-failed
returns-in-Some-clause-failed g c = tt

pub returns-in-Some-clause-changes : goal.returns-in-Some-clause-changes
returns-in-Some-clause-changes g c = changes_refl (InPagesFrom c.args.geometry.now c.args.self.now.first) (g.D.World.outside c.args.disk.now)

pub returns-in-Some-clause-cause : goal.returns-in-Some-clause-cause
returns-in-Some-clause-cause g c = tt

pub returns-in_err-leave_page-clause-lays : goal.returns-in_err-leave_page-clause-lays
returns-in_err-leave_page-clause-lays g c = not_given c.from_residual.result _ c.in_err-leave_page.field-0.0 c.from_residual.ensures.1

pub returns-in_err-leave_page-clause-place : goal.returns-in_err-leave_page-clause-place
returns-in_err-leave_page-clause-place g c = no_value c.from_residual.result _ c.in_err-leave_page.field-0.0 c.from_residual.ensures.1

pub returns-in_err-leave_page-clause-written : goal.returns-in_err-leave_page-clause-written
returns-in_err-leave_page-clause-written g c = not_given c.from_residual.result _ c.in_err-leave_page.field-0.0 c.from_residual.ensures.1

pub returns-in_err-leave_page-clause-slots : goal.returns-in_err-leave_page-clause-slots
returns-in_err-leave_page-clause-slots g c = not_given c.from_residual.result _ c.in_err-leave_page.field-0.0 c.from_residual.ensures.1

pub returns-in_err-leave_page-clause-page : goal.returns-in_err-leave_page-clause-page
returns-in_err-leave_page-clause-page g c =
    let was : length c.insert_body.new.image ≡ c.args.self.now.page.len = omega (arith, c.insert_body.auto.image, c.deref_mut.ensures.len) in
    let same : (with_items c.args.self.now.page c.insert_body.new.image).items ≡ c.args.self.now.page.items = with_items_is c.args.self.now.page c.insert_body.new.image was ∙ c.in_default.ensures.kept ∙ c.deref_mut.ensures.value in
    subst IsDense (sym (c.in_err-leave_page.ensures.failed.page ∙ same)) c.requires.page

pub returns-in_err-leave_page-clause-file : goal.returns-in_err-leave_page-clause-file
returns-in_err-leave_page-clause-file g c =
    let was : length c.insert_body.new.image ≡ c.args.self.now.page.len = omega (arith, c.insert_body.auto.image, c.deref_mut.ensures.len) in
    let same : (with_items c.args.self.now.page c.insert_body.new.image).items ≡ c.args.self.now.page.items = with_items_is c.args.self.now.page c.insert_body.new.image was ∙ c.in_default.ensures.kept ∙ c.deref_mut.ensures.value in
    record { file_no = c.leave_page.ensures.file.file_no; first = c.leave_page.ensures.file.first; size = c.leave_page.ensures.file.size ∙ ap (λ (b : List ℕ). length b) same }

pub returns-in_err-leave_page-clause-failed : goal.returns-in_err-leave_page-clause-failed
returns-in_err-leave_page-clause-failed g c =
    let was : length c.insert_body.new.image ≡ c.args.self.now.page.len = omega (arith, c.insert_body.auto.image, c.deref_mut.ensures.len) in
    let same : (with_items c.args.self.now.page c.insert_body.new.image).items ≡ c.args.self.now.page.items = with_items_is c.args.self.now.page c.insert_body.new.image was ∙ c.in_default.ensures.kept ∙ c.deref_mut.ensures.value in
    on_err c.from_residual.result _ (record { written = c.in_err-leave_page.ensures.failed.written; page = c.in_err-leave_page.ensures.failed.page ∙ same })

pub returns-in_err-leave_page-clause-changes : goal.returns-in_err-leave_page-clause-changes
returns-in_err-leave_page-clause-changes g c = c.leave_page.ensures.changes

pub returns-in_err-leave_page-clause-cause : goal.returns-in_err-leave_page-clause-cause
returns-in_err-leave_page-clause-cause g c = on_err c.from_residual.result _ c.in_err-leave_page.ensures.cause

pub returns-clause-file : goal.returns-clause-file
returns-clause-file g c =
    let was : length c.insert_body.new.image ≡ c.args.self.now.page.len = omega (arith, c.insert_body.auto.image, c.deref_mut.ensures.len) in
    let same : (with_items c.args.self.now.page c.insert_body.new.image).items ≡ c.args.self.now.page.items = with_items_is c.args.self.now.page c.insert_body.new.image was ∙ c.in_default.ensures.kept ∙ c.deref_mut.ensures.value in
    let long : length c.insert_body-2.new.image ≡ c.leave_page.new.self.page.len = omega (arith, c.insert_body-2.auto.image, c.deref_mut-2.ensures.len) in
    record {
      file_no = c.leave_page.ensures.file.file_no;
      first = c.leave_page.ensures.file.first;
      size = omega (arith, ap (λ (b : List ℕ). length b) (with_items_is c.leave_page.new.self.page c.insert_body-2.new.image long), c.insert_body-2.auto.image, ap (λ (b : List ℕ). length b) c.deref_mut-2.ensures.value, c.leave_page.ensures.file.size, ap (λ (b : List ℕ). length b) same);
    }

pub returns-clause-failed : goal.returns-clause-failed
returns-clause-failed g c = tt

pub returns-clause-changes : goal.returns-clause-changes
returns-clause-changes g c = c.leave_page.ensures.changes

pub returns-clause-cause : goal.returns-clause-cause
returns-clause-cause g c = tt
