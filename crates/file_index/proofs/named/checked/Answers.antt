use Rattle.std.proofs.Common.{◌≡◌, ◌≤◌, length, arith, ℕ, Option, Some, ap, ◌∙◌, sym, subst}
use Rattle.std.specs.Prelude.{slice_get}
use Rattle.file_index.specs.IndexPage.{Indexed, entries_on}
use Rattle.file_index.specs.Index.{seen, least_entries}
use Rattle.file_index.proofs.Blame.{file_of, of_index, shown, blames_outside, blames_other}
use Rattle.file_index.proofs.Naming.{named_reads, key_same, seen_differs}
use Rattle.file_index.proofs.named.checked.Goals as goal

pub returns-then-file_no-named-clause-err : goal.returns-then-file_no-named-clause-err
returns-then-file_no-named-clause-err c = λ named.
    let reads = named_reads _ c.args.page.now c.args.named.now.level c.args.named.now.file_no c.args.named.now.least named in
    c.if-file_no-named.true (c.file_no.ensures ∙ ap (λ (v : Indexed). v.file_no) c.in-Some.ensures.on ∙ reads.same_file)

pub returns-then-ne-clause-err : goal.returns-then-ne-clause-err
returns-then-ne-clause-err c = λ named.
    let reads = named_reads _ c.args.page.now c.args.named.now.level c.args.named.now.file_no c.args.named.now.least named in
    let level = c.level.ensures ∙ ap (λ (v : Indexed). v.level) c.in-Some.ensures.on ∙ reads.same_level in
    let entry = subst (λ (v : Indexed). slice_get v.entries 0 ≡ Some c.entry.result) c.in-Some.ensures.on c.entry.ensures in
    let key = c.key_seen.ensures ∙ key_same c.args.named.now.least _ c.entry.result named.least_is entry in
    seen_differs c.ne.result c.seen-want.result c.seen-got.result c.ne.ensures c.if-ne.true
    (c.seen-want.ensures ∙ ap (λ (l : ℕ). seen l c.args.named.now.least) (sym level) ∙ ap (λ (k : Option ℕ). seen c.level.result k) (sym key) ∙ sym c.seen-got.ensures)

pub returns-then-file_no-named-clause-fault : goal.returns-then-file_no-named-clause-fault
returns-then-file_no-named-clause-fault c = λ g held size area.
    blames_outside g held c.args.page.now c.args.named.now.level c.args.named.now.file_no c.args.named.now.least c.args.named.now.page c.no_index_page-then-file_no-named.result area
    (λ of. c.if-file_no-named.true (c.file_no.ensures ∙ ap (λ (v : Indexed). v.file_no) c.in-Some.ensures.on ∙ file_of g.page_size c.args.page.now c.args.named.now.file_no c.args.named.now.least of)) c.no_index_page-then-file_no-named.ensures.is

pub returns-then-len-least_entries-clause-fault : goal.returns-then-len-least_entries-clause-fault
returns-then-len-least_entries-clause-fault c = λ g held size area.
    blames_outside g held c.args.page.now c.args.named.now.level c.args.named.now.file_no c.args.named.now.least c.args.named.now.page c.no_index_page-then-len-least_entries.result area
    (λ of.
    let enough : least_entries (length c.args.page.now) c.args.named.now.least ≤ length (entries_on c.args.page.now) = subst (λ (n : ℕ). least_entries n c.args.named.now.least ≤ length (entries_on c.args.page.now)) size of.enough in
    absurd (omega (arith, enough, c.len.ensures.len, ap (λ (v : Indexed). length v.entries) c.in-Some.ensures.on, c.least_entries.ensures, c.if-len-least_entries.true)))
    c.no_index_page-then-len-least_entries.ensures.is

pub returns-then-ne-clause-fault : goal.returns-then-ne-clause-fault
returns-then-ne-clause-fault c = λ g held size area.
    let enough : least_entries (length c.args.page.now) c.args.named.now.least ≤ length c.in-Some.view.entries = omega (arith, c.len.ensures.len, c.least_entries.ensures, c.if-len-least_entries.false) in
    blames_other g held c.args.page.now c.args.named.now.level c.args.named.now.file_no c.args.named.now.least c.args.named.now.page c.seen-want.result c.seen-got.result area
    (of_index g.page_size c.args.page.now c.args.named.now.file_no c.args.named.now.least c.in-Some.view c.in-Some.ensures.found c.in-Some.ensures.on (sym c.file_no.ensures ∙ c.if-file_no-named.false)
    (subst (λ (n : ℕ). least_entries n c.args.named.now.least ≤ length c.in-Some.view.entries) (sym size) enough))
    c.seen-want.ensures
    (shown c.args.page.now c.args.named.now.least c.in-Some.view c.level.result c.key_seen.result c.entry.result c.seen-got.result c.in-Some.ensures.on c.level.ensures c.entry.ensures c.key_seen.ensures c.seen-got.ensures)
    (λ same. seen_differs c.ne.result c.seen-want.result c.seen-got.result c.ne.ensures c.if-ne.true same)
