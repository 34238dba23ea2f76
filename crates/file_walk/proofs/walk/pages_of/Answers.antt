use Rattle.std.proofs.Common.{◌≡◌, ℕ, List, ◌++◌, ap, sym, ◌∙◌, append_assoc}
use Rattle.std.specs.List.{flat_map}
use Rattle.ex_base.specs.declared.names.PageNo.{PageNo}
use Rattle.ex_base.proofs.Lists.{drop_item}
use Rattle.file_walk.specs.Indexes.{walked_pages}
use Rattle.file_walk.specs.Walk.{page_numbers}
use Rattle.file_walk.proofs.Lists.{gather_step, gather_end, numbers-append}
use Rattle.file_walk.proofs.walk.pages_of.Goals as goal

pub loop-file-init : goal.loop-file-init
loop-file-init c = ap (λ (t : List PageNo). page_numbers t ++ flat_map walked_pages c.args.files.now) (sym c.new-pages.ensures.items)

both : (a b c : List PageNo) → page_numbers ((a ++ b) ++ c) ≡ page_numbers a ++ (page_numbers b ++ page_numbers c)
both a b c = numbers-append (a ++ b) c ∙ ap (λ (t : List ℕ). t ++ page_numbers c) (numbers-append a b) ∙ append_assoc (page_numbers a) (page_numbers b) (page_numbers c)

pub loop-file-preserved : goal.loop-file-preserved
loop-file-preserved c =
    let first = c.in_ok-extend_from_slice.ensures.items ∙ ap (λ (t : List PageNo). c.loop-file.pages.items ++ t) c.deref.ensures.value in
    let second = c.in_ok-extend_from_slice-2.ensures.items ∙ ap (λ (t : List PageNo). c.extend_from_slice.new.self.items ++ t) c.deref-in-loop-file.ensures.value ∙ ap (λ (t : List PageNo). t ++ c.file-item.result.index_pages.items) first in
    gather_step walked_pages (flat_map walked_pages c.args.files.now) (page_numbers c.loop-file.pages.items) (page_numbers c.extend_from_slice-in-loop-file.new.self.items) c.args.files.now c.loop-file.file-index c.file-item.result
    (drop_item c.args.files.now c.loop-file.file-index c.file-item.result c.loop-file-test.true c.file-item.is) c.loop-file.invariant
    (ap page_numbers second ∙ both c.loop-file.pages.items c.file-item.result.numbers.items c.file-item.result.index_pages.items)

pub returns : goal.returns
returns c = gather_end walked_pages (flat_map walked_pages c.args.files.now) (page_numbers c.loop-file.pages.items) c.args.files.now c.loop-file.file-index c.loop-file-test.false c.loop-file.invariant
