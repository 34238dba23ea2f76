use Rattle.std.proofs.Common.{ℕ, List, map, sym, ap, subst, ◌∙◌, arith, rules}
use Rattle.ex_base.specs.Order.{Rising}
use Rattle.object_files.specs.Catalog.{number_of}
use Rattle.page_entries.specs.Said.{numbers_read, NoneOf}
use Rattle.page_entries.proofs.Files.{no_files, says_files}
use Rattle.page_entries.proofs.file_grammar.files_len.Goals as goal
use Rattle.page_entries.proofs.file_grammar.files_len.Goals.{then-not-numbers_rise-via-then-not-numbers_rise, then-not-numbers_rise-via-else-not-numbers_rise+then-not-are_put}

pub returns-in_err-end : goal.returns-in_err-end
returns-in_err-end c = rw c.from_residual.ensures (no_files c.args.size c.args.bytes.now (λ next last removed put rest fits g.
    c.in_err-end.ensures g.begin (omega (arith, g.removed_is, fits.few)) (omega (arith, g.put_is, fits.put_fits.room)) g.end))

pub returns-then-not-numbers_rise : goal.returns-then-not-numbers_rise
returns-then-not-numbers_rise c = no_files c.args.size c.args.bytes.now (λ next last removed put rest fits g. elim c.then-not-numbers_rise.branch [
  | then-not-numbers_rise-via-then-not-numbers_rise w ↦
      let yes = c.numbers_rise.ensures.1 (subst Rising (sym (ap (λ (k : ℕ). numbers_read c.args.bytes.now k 18) c.get_u16-removed.ensures ∙ g.numbers)) fits.rising) in
      let not = w.if-not-numbers_rise.true in cc
  | then-not-numbers_rise-via-else-not-numbers_rise+then-not-are_put w ↦ let yes = w.are_put.ensures.1 (put, g.are_put, subst (λ (xs : List ℕ). NoneOf xs (map number_of put)) (sym g.numbers) fits.apart) in let not = w.if-not-are_put.true in cc
])

pub returns : goal.returns
returns c =
    let all = c.are_put.ensures.0 (search rules) in
    says_files c.args.size c.args.bytes.now c.in_ok-end.end all.0 (λ i. omega (arith, c.type_inv.bytes i)) c.in_ok-end.ensures.2 c.in_ok-end.ensures.3 c.in_ok-end.ensures.0
    (subst (λ (k : ℕ). Rising (numbers_read c.args.bytes.now k 18)) c.get_u16-removed.ensures (c.numbers_rise.ensures.0 (search rules))) all.1 all.2
