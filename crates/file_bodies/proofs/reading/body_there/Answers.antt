use Rattle.ex_base.proofs.Keeping.{keeps_refl}
use Rattle.ex_base.proofs.Results.{if_err_handed}
use Rattle.ex_base.proofs.Handed.{cause_here, no_value}
use Rattle.ex_base.specs.Ports.{HasCause}
use Rattle.std.proofs.Common.{List, None, Some, refl, subst, sym, ℕ, ◌∙◌, ◌≡◌}
use Rattle.std.specs.Prelude.{IfSome, slice_index_or}
use Rattle.slotted_pages.specs.Reads.{IsPage}
use Rattle.slotted_pages.specs.Edits.{slots_of}
use Rattle.file_bodies.proofs.Lacking.{lent_none}
use Rattle.file_bodies.proofs.Belonging.{of_body, of_lies, of_page}
use Rattle.file_bodies.proofs.reading.body_there.Goals as goal

pub returns : goal.returns
returns g c = (
  (refl, λ s. tt, (c.get.follows.holds-at-none.0, tt)),
  record {
    found = λ told index body has.
        let read = c.in_ok-page.ensures.bytes told in
        c.body_on.ensures.body (subst IsPage (sym read) (of_page g.P.Ground c.args.pages.now c.args.place.page.0 (of_body g.P.Ground c.args.pages.now index c.args.place body has)))
        ∙ subst (λ (t : List ℕ). slice_index_or (slots_of t) c.args.place.slot None ≡ Some body) (sym read) has.stands;
    stands = λ told.
        subst (λ (t : List ℕ). IfSome c.body_on.result (λ body. slice_index_or (slots_of t) c.args.place.slot None ≡ Some body.now)) (c.in_ok-page.ensures.bytes told)
        c.body_on.ensures.some;
    none = lent_none _ c.body_on.result _ (λ never told area spelled body stands.
        let read = c.in_ok-page.ensures.bytes told in
        never body (c.body_on.ensures.body (subst IsPage (sym read) spelled) ∙ subst (λ (t : List ℕ). slice_index_or (slots_of t) c.args.place.slot None ≡ Some body) (sym read) stands));
    no_damage = tt;
    after = tt;
  },
)

pub returns-in_err-page : goal.returns-in_err-page
returns-in_err-page g c = (
  (
    refl,
    λ s. tt,
    (
      c.get.follows.holds-at-none.0,
      cause_here (g.P.Ground.faults c.args.pages.now) (g.P.Ground.faults c.get.follows.lender-at-none) c.from_residual.result c.in_err-page.field-0.0 c.from_residual.ensures.1
          (subst (HasCause (g.P.Ground.faults c.args.pages.now) (g.P.Ground.faults c.get.follows.lender-at-none)) c.in_err-page.was c.get.follows.holds-at-none.1),
    ),
  ),
  record {
    found = no_value c.from_residual.result _ c.in_err-page.field-0.0 c.from_residual.ensures.1;
    stands = no_value c.from_residual.result _ c.in_err-page.field-0.0 c.from_residual.ensures.1;
    none = no_value c.from_residual.result _ c.in_err-page.field-0.0 c.from_residual.ensures.1;
    no_damage = if_err_handed c.from_residual.result _ c.in_err-page.field-0.0 c.from_residual.ensures.1 c.in_err-page.ensures.no_damage;
    after = tt;
  },
)

pub returns-then-not-may_be_of_file : goal.returns-then-not-may_be_of_file
returns-then-not-may_be_of_file g c = (
  (refl, λ s. tt, (keeps_refl g.P.Ground c.args.pages.now, tt)),
  record {
    found = λ told index body has.
        absurd (c.may_be_of_file.ensures.never c.if-not-may_be_of_file.true (of_lies g.P.Ground c.args.pages.now c.args.place.page.0 (of_body g.P.Ground c.args.pages.now index c.args.place body has)));
    stands = λ told. tt;
    none = λ told area spelled body stands. c.may_be_of_file.ensures.never c.if-not-may_be_of_file.true area;
    no_damage = tt;
    after = tt;
  },
)

pub get-requires-clause-page : goal.get-requires-clause-page
get-requires-clause-page g c = (c.may_be_of_file.ensures.may c.if-not-may_be_of_file.false).0
