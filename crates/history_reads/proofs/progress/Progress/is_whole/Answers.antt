use Rattle.std.proofs.Common.{◌≡◌, true, sym, ◌∙◌, arith}
use Rattle.std.specs.Prelude.{nat_eq}
use Rattle.std.proofs.lemmas.Bool.{eq-eqb, eqb-true}
use Rattle.history_reads.proofs.Filed.{clash}
use Rattle.history_reads.proofs.Wholes.{AtEnd, dump_at_end, empty_held, held_some, whole_read}
use Rattle.history_reads.proofs.progress.Progress.is_whole.Goals as goal

pub pages-requires : goal.pages-requires
pages-requires c = let few = c.args.self.now.few_pages in omega arith

pub returns-then-not-is_empty-clause-none : goal.returns-then-not-is_empty-clause-none
returns-then-not-is_empty-clause-none c = λ e g joined is t dump.
    let at : AtEnd c.args.self.now c.args.held.now = dump_at_end g joined c.args.self.now c.args.held.now t is dump in
    held_some c.args.held.now c.if-not-is_empty.ensures at.none

pub returns-then-not-are_named-clause-none : goal.returns-then-not-are_named-clause-none
returns-then-not-are_named-clause-none c = λ e g joined is t dump.
    let at : AtEnd c.args.self.now c.args.held.now = dump_at_end g joined c.args.self.now c.args.held.now t is dump in
    clash c.are_named.result c.if-not-are_named.true (c.are_named.ensures.1 at.lengths)

pub returns-in-End-clause-whole : goal.returns-in-End-clause-whole
returns-in-End-clause-whole c = λ same g joined is.
    let pages : c.pages.result ≡ c.from-most.result = eqb-true c.pages.result c.from-most.result same in
    whole_read g joined c.args.self.now c.args.held.now is (record {
      none = empty_held c.args.held.now c.if-not-is_empty.ensures;
      turn = sym c.in-End.ensures;
      lengths = c.are_named.ensures.0 c.if-not-are_named.false;
      pages = omega (arith, pages, c.pages.ensures, c.from-most.ensures);
    })

pub returns-in-End-clause-none : goal.returns-in-End-clause-none
returns-in-End-clause-none c = λ other g joined is t dump.
    let at : AtEnd c.args.self.now c.args.held.now = dump_at_end g joined c.args.self.now c.args.held.now t is dump in
    let same : c.pages.result ≡ c.from-most.result = omega (arith, at.pages, c.pages.ensures, c.from-most.ensures) in
    clash (nat_eq c.pages.result c.from-most.result) other (eq-eqb c.pages.result c.from-most.result same)

pub returns-in_default-clause-none : goal.returns-in_default-clause-none
returns-in_default-clause-none c = λ e g joined is t dump.
    let at : AtEnd c.args.self.now c.args.held.now = dump_at_end g joined c.args.self.now c.args.held.now t is dump in
    absurd (c.in_default.not-End (c.turn.ensures ∙ at.turn))
