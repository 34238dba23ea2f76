use Rattle.std.proofs.Common.{ℕ, not, map, sym, ap, ◌∙◌, arith}
use Rattle.std.proofs.lemmas.List.Sorted.{IsNonDecreasingBy-from_sort}
use Rattle.object_files.specs.Catalog.{number_of}
use Rattle.page_entries.proofs.Listing.{is_has}
use Rattle.page_entries.proofs.FilesCompared.{is_gone, gone_more, gone_less, sorted_gone, few_gone}
use Rattle.page_entries.proofs.file_differences.numbers_gone.Goals as goal
use Rattle.page_entries.proofs.file_differences.numbers_gone.Goals.{then-not-has_number+in_ok-push, else-not-has_number}

pub loop-i-preserved : goal.loop-i-preserved
loop-i-preserved c = elim c.if-not-has_number.branch [
  | then-not-has_number+in_ok-push w ↦ rw w.gone-is (w.in_ok-push.ensures.items
      ∙ gone_more (is_gone c.args.new.now.entries) c.args.old.now.entries c.loop-i.i _ c.loop-i.gone.items c.entry-file_no.ensures (ap not (sym (is_has c.has_number.result (map number_of c.args.new.now.entries) _ c.has_number.ensures) ∙ w.if-not-has_number.true)) c.loop-i.invariant)
  | else-not-has_number w ↦ rw w.gone-is
      (gone_less (is_gone c.args.new.now.entries) c.args.old.now.entries c.loop-i.i _ c.loop-i.gone.items c.entry-file_no.ensures (ap not (sym (is_has c.has_number.result (map number_of c.args.new.now.entries) _ c.has_number.ensures) ∙ w.if-not-has_number.false)) c.loop-i.invariant)
]

pub returns-clause-gone : goal.returns-clause-gone
returns-clause-gone c = sorted_gone c.args.old.now.entries c.args.new.now.entries c.loop-i.i c.loop-i.gone.items c.sort.new.self.items c.requires (omega (arith, c.loop-i-test.false, c.len-i-end.ensures)) c.loop-i.invariant c.in_ok-sort.ensures.permutation (IsNonDecreasingBy-from_sort (λ (n : ℕ). n) c.sort.new.self.items c.in_ok-sort.ensures.sorted)

pub returns-clause-few : goal.returns-clause-few
returns-clause-few c = omega (arith, few_gone c.args.old.now.entries c.args.new.now.entries c.loop-i.i c.loop-i.gone.items (omega (arith, c.loop-i-test.false, c.len-i-end.ensures)) c.loop-i.invariant, c.in_ok-sort.ensures.len)
