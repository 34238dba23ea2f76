use Rattle.std.proofs.Common.{◌≡◌, ℕ, length, map, sym, ap, subst, ◌∙◌, arith, rules}
use Rattle.std.specs.Prelude.{Contains}
use Rattle.std.specs.List.{AllByRecursion}
use Rattle.ex_base.proofs.Options.{if_some_both}
use Rattle.ex_base.proofs.Results.{if_ok_both}
use Rattle.object_files.specs.Catalog.{Catalog, number_of}
use Rattle.page_entries.specs.Said.{numbers_read}
use Rattle.page_entries.specs.Fronts.{ArePut, removed_read, put_read}
use Rattle.page_entries.specs.FilesAfter.{files_after}
use Rattle.page_entries.proofs.Files.{if_none_as}
use Rattle.page_entries.proofs.FilesApplied.{FilesHere, files_here, Merging, merging, merged_each, there_in, after_applied, after_refused}
use Rattle.page_entries.proofs.file_changes.apply_files.Goals as goal

pub get_u16-removed-requires : goal.get_u16-removed-requires
get_u16-removed-requires c = let here : FilesHere (length c.args.old.now) c.args.fields.now = files_here (length c.args.old.now) c.args.fields.now c.requires in omega (arith, here.begin)

pub are_there-requires : goal.are_there-requires
are_there-requires c = let here : FilesHere (length c.args.old.now) c.args.fields.now = files_here (length c.args.old.now) c.args.fields.now c.requires in omega (arith, here.begin, c.get_u16-removed.ensures)

pub returns-then-not-are_there-clause-refused : goal.returns-then-not-are_there-clause-refused
returns-then-not-are_there-clause-refused c = λ a.
    let yes = c.are_there.ensures.1 (subst (λ (k : ℕ). AllByRecursion (λ (x : ℕ). Contains (map number_of c.in-Some.files.entries) x) (numbers_read c.args.fields.now k 18)) (sym c.get_u16-removed.ensures)
    (there_in c.args.old.now c.in-Some.files (removed_read c.args.fields.now) c.in-Some.ensures.found a.there)) in
    let not = c.if-not-are_there.true in absurd cc

pub put_view-requires-clause-head : goal.put_view-requires-clause-head
put_view-requires-clause-head c = let here : FilesHere (length c.args.old.now) c.args.fields.now = files_here (length c.args.old.now) c.args.fields.now c.requires in here.begin

pub put_view-requires-clause-entries : goal.put_view-requires-clause-entries
put_view-requires-clause-entries c = let here : FilesHere (length c.args.old.now) c.args.fields.now = files_here (length c.args.old.now) c.args.fields.now c.requires in here.end

pub put_view-requires-clause-room : goal.put_view-requires-clause-room
put_view-requires-clause-room c = let here : FilesHere (length c.args.old.now) c.args.fields.now = files_here (length c.args.old.now) c.args.fields.now c.requires in omega (arith, here.room, c.deref_mut.ensures.len, c.in_ok-page.ensures.len)

pub returns-in-None-put_view-clause-refused : goal.returns-in-None-put_view-clause-refused
returns-in-None-put_view-clause-refused c = λ a.
    let here : FilesHere (length c.args.old.now) c.args.fields.now = files_here (length c.args.old.now) c.args.fields.now c.requires in
    let long : length c.deref_mut.result.now ≡ length c.args.old.now = omega (arith, c.deref_mut.ensures.len, c.in_ok-page.ensures.len) in
    c.in-None-put_view.ensures.none (put_read c.args.fields.now) (subst (λ (k : ℕ). ArePut k c.args.fields.now (put_read c.args.fields.now)) (sym long) here.are_put)

pub entries_after-requires : goal.entries_after-requires
entries_after-requires c = let here : FilesHere (length c.args.old.now) c.args.fields.now = files_here (length c.args.old.now) c.args.fields.now c.requires in here.begin

pub returns-clause-applied : goal.returns-clause-applied
returns-clause-applied c =
    let long : length c.deref_mut.result.now ≡ length c.args.old.now = omega (arith, c.deref_mut.ensures.len, c.in_ok-page.ensures.len) in
    let m : Merging c.args.old.now c.args.fields.now c.in-Some.files c.in-Some-put_view.put.entries =
    merging c.args.old.now c.args.fields.now c.in-Some.files c.in-Some-put_view.put.entries c.requires c.in-Some.ensures.found (subst (λ (k : ℕ). ArePut k c.args.fields.now c.in-Some-put_view.put.entries) long c.in-Some-put_view.ensures.found) in
    let there : AllByRecursion (λ (x : ℕ). Contains (map number_of c.in-Some.files.entries) x) (removed_read c.args.fields.now) =
    subst (λ (k : ℕ). AllByRecursion (λ (x : ℕ). Contains (map number_of c.in-Some.files.entries) x) (numbers_read c.args.fields.now k 18)) c.get_u16-removed.ensures (c.are_there.ensures.0 (search rules)) in
    if_ok_both c.catalog_of.result _ _ _ (λ after made again. if_some_both after _ _ (λ image h.
    after_applied c.args.old.now c.args.fields.now c.in-Some.files c.in-Some-put_view.put.entries c.next_unique.result c.last_txn.result image m there
    (c.next_unique.ensures ∙ ap (λ (x : Catalog). x.next_unique) c.in-Some-put_view.ensures.numbers) (c.last_txn.ensures ∙ ap (λ (x : Catalog). x.last) c.in-Some-put_view.ensures.numbers)
    (h (files_after (removed_read c.args.fields.now) c.in-Some-put_view.put.entries c.in-Some.files.entries) (merged_each c.args.old.now c.args.fields.now c.in-Some.files c.in-Some-put_view.put.entries m) (c.deref.ensures.value ∙ c.in_ok-entries.ensures))) made)
    c.catalog_of.ensures.made c.catalog_of.ensures.made

pub returns-clause-refused : goal.returns-clause-refused
returns-clause-refused c =
    let long : length c.deref_mut.result.now ≡ length c.args.old.now = omega (arith, c.deref_mut.ensures.len, c.in_ok-page.ensures.len) in
    let m : Merging c.args.old.now c.args.fields.now c.in-Some.files c.in-Some-put_view.put.entries =
    merging c.args.old.now c.args.fields.now c.in-Some.files c.in-Some-put_view.put.entries c.requires c.in-Some.ensures.found (subst (λ (k : ℕ). ArePut k c.args.fields.now c.in-Some-put_view.put.entries) long c.in-Some-put_view.ensures.found) in
    if_ok_both c.catalog_of.result _ _ _ (λ after none again. if_none_as after _ _ (λ h.
    after_refused c.args.old.now c.args.fields.now c.in-Some.files c.in-Some-put_view.put.entries c.next_unique.result c.last_txn.result m
    (c.next_unique.ensures ∙ ap (λ (x : Catalog). x.next_unique) c.in-Some-put_view.ensures.numbers) (c.last_txn.ensures ∙ ap (λ (x : Catalog). x.last) c.in-Some-put_view.ensures.numbers)
    (h (files_after (removed_read c.args.fields.now) c.in-Some-put_view.put.entries c.in-Some.files.entries) (merged_each c.args.old.now c.args.fields.now c.in-Some.files c.in-Some-put_view.put.entries m) (c.deref.ensures.value ∙ c.in_ok-entries.ensures))) none)
    c.catalog_of.ensures.refused c.catalog_of.ensures.refused
