use Rattle.std.proofs.Common.{ℕ, List, length, Option, sym, ap, subst, ◌∙◌, arith, Bor}
use Rattle.std.specs.Option.{option_map}
use Rattle.std.proofs.lemmas.Bool.Decides.{nat_tests}
use Rattle.ex_base.specs.Fields.{number_at}
use Rattle.ex_base.proofs.Options.{if_some_both}
use Rattle.ex_base.proofs.Results.{if_ok_both}
use Rattle.slotted_pages.specs.FilePage.{file_page}
use Rattle.object_files.specs.Catalog.{catalog_page}
use Rattle.page_entries.specs.Said.{changes_read}
use Rattle.page_entries.specs.Applying.{SlotsApply, page_after_slots}
use Rattle.page_entries.specs.FilesAfter.{FilesReadApply, catalog_after_read}
use Rattle.page_entries.proofs.Files.{if_none_as}
use Rattle.page_entries.proofs.Entered.{image_applies, image_entered, no_slots_page, slots_apply, slots_applied, slots_entered, no_files_page, files_apply, files_applied, files_entered}
use Rattle.page_entries.proofs.apply.apply_entry.Goals as goal

abbrev held : Option (Bor (List ℕ)) → Option (List ℕ)
held so_far = option_map (λ (page : Bor (List ℕ)). page.now) so_far

pub returns-in_ok-of-in-Image-clause-applies : goal.returns-in_ok-of-in-Image-clause-applies
returns-in_ok-of-in-Image-clause-applies c = image_applies c.args.entry.now.page.0 c.args.entry.now.form c.args.entry.now.fields (held c.args.so_far) c.in-Image.is

pub returns-in_ok-of-in-Image-clause-applied : goal.returns-in_ok-of-in-Image-clause-applied
returns-in_ok-of-in-Image-clause-applied c = image_entered c.args.entry.now.form c.args.entry.now.fields c.in_ok-of-in-Image.field-0 (held c.args.so_far) c.in-Image.is (c.in_ok-of-in-Image.ensures ∙ c.as_slice-fields.ensures)

pub returns-in-None-clause-refused : goal.returns-in-None-clause-refused
returns-in-None-clause-refused c = no_slots_page c.args.entry.now.page.0 c.args.entry.now.form c.args.entry.now.fields (held c.args.so_far) c.in-SlotChanges.is (ap held c.in-None.is)

pub returns-in-Some-clause-applies : goal.returns-in-Some-clause-applies
returns-in-Some-clause-applies c = if_ok_both c.apply_slots.result _ _ _ (λ after made again. if_some_both after _ _ (λ image h.
    slots_apply c.args.entry.now.page.0 c.args.entry.now.form c.args.entry.now.fields c.in-Some.old.now (held c.args.so_far) c.in-SlotChanges.is (ap held c.in-Some.is)
    (subst (λ (t : List ℕ). SlotsApply c.in-Some.old.now (changes_read t (number_at 2 t 4) 6)) c.as_slice-fields.ensures h.0)) made) c.apply_slots.ensures.applied c.apply_slots.ensures.applied

pub returns-in-Some-clause-applied : goal.returns-in-Some-clause-applied
returns-in-Some-clause-applied c = if_ok_both c.apply_slots.result _ _ _ (λ after made again. if_some_both after _ _ (λ image h.
    slots_entered c.args.entry.now.form c.args.entry.now.fields c.in-Some.old.now image (held c.args.so_far) c.in-SlotChanges.is (ap held c.in-Some.is)
    (h.1 ∙ ap (λ (t : List ℕ). file_page (length c.in-Some.old.now) (page_after_slots (changes_read t (number_at 2 t 4) 6) c.in-Some.old.now)) c.as_slice-fields.ensures)) made) c.apply_slots.ensures.applied c.apply_slots.ensures.applied

pub returns-in-Some-clause-refused : goal.returns-in-Some-clause-refused
returns-in-Some-clause-refused c = if_ok_both c.apply_slots.result _ _ _ (λ after none again. if_none_as after _ _ (λ h a.
    h (subst (λ (t : List ℕ). SlotsApply c.in-Some.old.now (changes_read t (number_at 2 t 4) 6)) (sym c.as_slice-fields.ensures)
    (slots_applied c.args.entry.now.page.0 c.args.entry.now.form c.args.entry.now.fields c.in-Some.old.now (held c.args.so_far) c.in-SlotChanges.is (ap held c.in-Some.is) a))) none) c.apply_slots.ensures.refused c.apply_slots.ensures.refused

pub returns-in-None-so_far-clause-refused : goal.returns-in-None-so_far-clause-refused
returns-in-None-so_far-clause-refused c = no_files_page c.args.entry.now.page.0 c.args.entry.now.form c.args.entry.now.fields (held c.args.so_far) c.in-FileChanges.is (ap held c.in-None-so_far.is)

pub returns-then-ne-clause-refused : goal.returns-then-ne-clause-refused
returns-then-ne-clause-refused c = λ a.
    let is = (files_applied c.args.entry.now.page.0 c.args.entry.now.form c.args.entry.now.fields c.in-Some-so_far.old.now (held c.args.so_far) c.in-FileChanges.is (ap held c.in-Some-so_far.is) a).0 in
    let test = c.ne.ensures in let other = c.if-ne.true in absurd (grind (arith, nat_tests, is, test, other))

pub returns-else-ne-clause-applies : goal.returns-else-ne-clause-applies
returns-else-ne-clause-applies c = if_ok_both c.apply_files.result _ _ _ (λ after made again. if_some_both after _ _ (λ image h.
    files_apply c.args.entry.now.page.0 c.args.entry.now.form c.args.entry.now.fields c.in-Some-so_far.old.now (held c.args.so_far) c.in-FileChanges.is (ap held c.in-Some-so_far.is)
    (let test = c.ne.ensures in let same = c.if-ne.false in grind (arith, nat_tests, test, same))
    (subst (FilesReadApply c.in-Some-so_far.old.now) c.as_slice-fields.ensures h.0)) made) c.apply_files.ensures.applied c.apply_files.ensures.applied

pub returns-else-ne-clause-applied : goal.returns-else-ne-clause-applied
returns-else-ne-clause-applied c = if_ok_both c.apply_files.result _ _ _ (λ after made again. if_some_both after _ _ (λ image h.
    files_entered c.args.entry.now.form c.args.entry.now.fields c.in-Some-so_far.old.now image (held c.args.so_far) c.in-FileChanges.is (ap held c.in-Some-so_far.is)
    (h.1 ∙ ap (λ (t : List ℕ). catalog_page (length c.in-Some-so_far.old.now) (catalog_after_read c.in-Some-so_far.old.now t)) c.as_slice-fields.ensures)) made) c.apply_files.ensures.applied c.apply_files.ensures.applied

pub returns-else-ne-clause-refused : goal.returns-else-ne-clause-refused
returns-else-ne-clause-refused c = if_ok_both c.apply_files.result _ _ _ (λ after none again. if_none_as after _ _ (λ h a.
    h (subst (FilesReadApply c.in-Some-so_far.old.now) (sym c.as_slice-fields.ensures)
    (files_applied c.args.entry.now.page.0 c.args.entry.now.form c.args.entry.now.fields c.in-Some-so_far.old.now (held c.args.so_far) c.in-FileChanges.is (ap held c.in-Some-so_far.is) a).1)) none) c.apply_files.ensures.refused c.apply_files.ensures.refused
