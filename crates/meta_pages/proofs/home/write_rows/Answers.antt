use Rattle.std.proofs.Common.{◌+◌, ◌*◌, ◌∙◌, ℕ, List, Some, length, take, sym, ap, arith}
use Rattle.ex_base.specs.Bytes.{repl}
use Rattle.disk_model.specs.Runs.{calls_trans, calls_at_most, at_most_trans, at_most_wider, honest_on}
use Rattle.buffer_groups.specs.Groups.{forgotten_in_all}
use Rattle.meta_pages.specs.Homes.{homes_written, homes_forgotten}
use Rattle.meta_pages.proofs.Writing.{more_is, homes_next, homes_all, written_push, forgotten_push}
use Rattle.meta_pages.proofs.home.write_rows.Goals as goal

pub returns-in_err-write_page-clause-at_most : goal.returns-in_err-write_page-clause-at_most
returns-in_err-write_page-clause-at_most g c =
    at_most_wider (length c.args.rows.now) (omega (arith, c.loop-row-test.true)) (at_most_trans (calls_at_most c.loop-row.invariant.calls) c.write_page.ensures.at_most_once)

pub returns-in_err-write_page-clause-changes : goal.returns-in_err-write_page-clause-changes
returns-in_err-write_page-clause-changes g c =
    let i = c.loop-row.row-index in
    let rows = c.args.rows.now in
    homes_all c.args.size (i + 1) rows (homes_next rows i c.row-item.result c.loop-row-test.true c.row-item.is c.args.size c.loop-row.invariant.changes c.write_page.ensures.changes)

pub loop-row-preserved : goal.loop-row-preserved
loop-row-preserved g c =
    let i = c.loop-row.row-index in
    let rows = c.args.rows.now in
    let row = c.row-item.result in
    let size = c.args.size in
    let so_far = c.loop-row.invariant in
    let next = more_is rows i row c.loop-row-test.true c.row-item.is in
    record {
      calls = calls_trans so_far.calls c.in_ok-write_page.ensures.once;
      written = λ d is.
          c.in_ok-write_page.ensures.written (homes_written size (take i rows) d) (so_far.written d is)
          ∙ ap (λ (b : List ℕ). Some (repl (homes_written size (take i rows) d) (row.0 * size) b)) c.as_slice.ensures
          ∙ ap (λ (l : List ℕ). Some l) (sym (written_push size (take i rows) row d))
          ∙ ap (λ (l : List (ℕ × List ℕ)). Some (homes_written size l d)) (sym next);
      forgotten =
          c.write_page.ensures.forgotten ∙ ap (forgotten_in_all row.0) so_far.forgotten
          ∙ sym (forgotten_push (take i rows) row c.args.groups.now)
          ∙ ap (λ (l : List (ℕ × List ℕ)). homes_forgotten l c.args.groups.now) (sym next);
      lends = λ honest all. c.write_page.ensures.lends (honest_on so_far.changes.only.goes honest) (so_far.lends honest all);
      kinds = c.write_page.ensures.kinds ∙ so_far.kinds;
      sizes = c.write_page.ensures.sizes;
      from = λ low all. c.write_page.ensures.from low (so_far.from low all);
      changes = homes_next rows i row c.loop-row-test.true c.row-item.is size so_far.changes c.write_page.ensures.changes;
    }
