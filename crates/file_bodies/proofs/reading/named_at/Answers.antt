use Rattle.ex_base.proofs.Options.{if_some_both}
use Rattle.slotted_pages.specs.Reads.{IsPage, page_on}
use Rattle.std.proofs.Common.{List, subst, sym, ℕ, ◌≡◌}
use Rattle.file_bodies.proofs.Pages.{none_weaker}
use Rattle.ex_base.proofs.Keeping.{keeps_refl}
use Rattle.file_bodies.proofs.reading.named_at.Goals as goal

pub returns-clause-some : goal.returns-clause-some
returns-clause-some g c =
    if_some_both c.file_named.result _ _
    (λ file_no on told. subst (λ (t : List ℕ). (page_on t).file_no ≡ file_no) (c.in_ok-get.ensures.bytes told) on) c.file_named.ensures.some

pub returns-clause-area : goal.returns-clause-area
returns-clause-area g c = if_some_both c.file_named.result _ _ (λ file_no on. c.may_be_of_file.ensures.may c.if-not-may_be_of_file.false) c.file_named.ensures.some

pub returns-clause-none : goal.returns-clause-none
returns-clause-none g c =
    none_weaker c.file_named.result (λ never told area spelled. never (subst IsPage (sym (c.in_ok-get.ensures.bytes told)) spelled)) c.file_named.ensures.none

pub returns-then-not-may_be_of_file-clause-kept : goal.returns-then-not-may_be_of_file-clause-kept
returns-then-not-may_be_of_file-clause-kept g c = keeps_refl g.P.Ground c.args.pages.now

pub returns-clause-kept : goal.returns-clause-kept
returns-clause-kept g c = c.get.follows.holds-at-none.0

pub returns-in_err-get-clause-kept : goal.returns-in_err-get-clause-kept
returns-in_err-get-clause-kept g c = c.get.follows.holds-at-none.0

pub get-requires-clause-page : goal.get-requires-clause-page
get-requires-clause-page g c = (c.may_be_of_file.ensures.may c.if-not-may_be_of_file.false).0

pub returns-then-not-may_be_of_file-clause-none : goal.returns-then-not-may_be_of_file-clause-none
returns-then-not-may_be_of_file-clause-none g c = λ told area spelled. c.may_be_of_file.ensures.never c.if-not-may_be_of_file.true area
