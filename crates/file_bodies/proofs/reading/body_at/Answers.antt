use Rattle.ex_base.specs.Ports.{HasCause}
use Rattle.ex_base.proofs.Keeping.{keeps_on}
use Rattle.file_bodies.proofs.Belonging.{found_body}
use Rattle.std.specs.Prelude.{IfSome, slice_index_or}
use Rattle.ex_base.proofs.Results.{if_err_handed}
use Rattle.std.proofs.Common.{List, None, Some, ap, length, refl, subst, sym, ℕ, ◌∙◌, ◌≡◌}
use Rattle.ex_base.proofs.Handed.{handed_after, no_value, not_given}
use Rattle.file_bodies.proofs.Lacking.{lent_none}
use Rattle.slotted_pages.specs.Reads.{IsPage}
use Rattle.file_bodies.proofs.LaterSizes.{size_before}
use Rattle.file_bodies.proofs.OwnFaults.{own_catalog}
use Rattle.slotted_pages.specs.Edits.{slots_of}
use Rattle.file_bodies.specs.Damage.{broken_catalog}
use Rattle.file_index.proofs.LaterStates.{page_after}
use Rattle.file_bodies.proofs.reading.body_at.Goals as goal

pub returns : goal.returns
returns g c = (
  (refl, λ s. tt, (keeps_on g.P.Ground _ _ _ c.is_of_file.ensures.kept c.get.follows.holds-at-none.0, tt)),
  record {
    found = λ told files.
        let read = c.in_ok-page.ensures.bytes (g.P.Ground.leads_told _ _ c.is_of_file.ensures.kept.leads told) ∙ ap (λ (f : ℕ → List ℕ). f c.args.place.page.0)
        c.is_of_file.ensures.kept.images in
        found_body g.P.Ground _ c.body_on.result c.args.pages.now c.args.place c.in_ok-page.page.now
        (c.in-Ok-true.ensures.yes c.in-Ok-true.field-0-test told files) read c.body_on.ensures.body;
    stands = λ told.
        let read = c.in_ok-page.ensures.bytes (g.P.Ground.leads_told _ _ c.is_of_file.ensures.kept.leads told) ∙ ap (λ (f : ℕ → List ℕ). f c.args.place.page.0)
        c.is_of_file.ensures.kept.images in
        subst (λ (t : List ℕ). IfSome c.body_on.result (λ body. slice_index_or (slots_of t) c.args.place.slot None ≡ Some body.now)) read
        c.body_on.ensures.some;
    none = lent_none _ c.body_on.result _ (λ never told is body stands.
        let read = c.in_ok-page.ensures.bytes (g.P.Ground.leads_told _ _ c.is_of_file.ensures.kept.leads told) ∙ ap (λ (f : ℕ → List ℕ). f c.args.place.page.0)
        c.is_of_file.ensures.kept.images in
        never body (c.body_on.ensures.body (subst IsPage (sym read) is.spelled) ∙ subst (λ (t : List ℕ). slice_index_or (slots_of t) c.args.place.slot None ≡ Some body) (sym read) stands));
    sound = tt;
    fault = tt;
    way = c.in-Ok-true.ensures.way;
    page = λ told index body has.
        let read = c.in_ok-page.ensures.bytes (g.P.Ground.leads_told _ _ c.is_of_file.ensures.kept.leads told) ∙ ap (λ (f : ℕ → List ℕ). f c.args.place.page.0)
        c.is_of_file.ensures.kept.images in
        size_before g.P.Ground _ _ c.is_of_file.ensures.kept.leads _ (ap length (sym read) ∙ c.in_ok-page.ensures.len);
    after = tt;
  },
)

pub returns-in_err-page : goal.returns-in_err-page
returns-in_err-page g c = (
  (
    refl,
    λ s. tt,
    (
      keeps_on g.P.Ground _ _ _ c.is_of_file.ensures.kept c.get.follows.holds-at-none.0,
      handed_after g.P.Ground _ _ c.is_of_file.ensures.kept.leads c.get.follows.lender-at-none c.from_residual.result c.in_err-page.field-0.0
          c.from_residual.ensures.1
          (subst (HasCause (g.P.Ground.faults c.is_of_file.new.pages) (g.P.Ground.faults c.get.follows.lender-at-none)) c.in_err-page.was
          c.get.follows.holds-at-none.1),
    ),
  ),
  record {
    found = no_value c.from_residual.result _ c.in_err-page.field-0.0 c.from_residual.ensures.1;
    stands = no_value c.from_residual.result _ c.in_err-page.field-0.0 c.from_residual.ensures.1;
    none = no_value c.from_residual.result _ c.in_err-page.field-0.0 c.from_residual.ensures.1;
    sound = if_err_handed c.from_residual.result _ c.in_err-page.field-0.0 c.from_residual.ensures.1
        (λ damage told files. c.in_err-page.ensures.no_damage damage);
    fault = if_err_handed c.from_residual.result _ c.in_err-page.field-0.0 c.from_residual.ensures.1
        (λ told. broken_catalog (own_catalog _ c.in_err-page.field-0.0 c.in_err-page.ensures.no_damage));
    way = not_given c.from_residual.result _ c.in_err-page.field-0.0 c.from_residual.ensures.1;
    page = not_given c.from_residual.result _ c.in_err-page.field-0.0 c.from_residual.ensures.1;
    after = tt;
  },
)

pub returns-in-Err : goal.returns-in-Err
returns-in-Err g c = (
  (refl, λ s. tt, (c.is_of_file.ensures.kept, c.in-Err.ensures.cause)),
  record { found = tt; stands = tt; none = tt; sound = c.in-Err.ensures.sound; fault = c.in-Err.ensures.fault; way = tt; page = tt; after = tt },
)

pub get-requires-clause-page : goal.get-requires-clause-page
get-requires-clause-page g c = (page_after g.P.Ground _ _ c.is_of_file.ensures.kept.leads _ (c.in-Ok-true.ensures.area c.in-Ok-true.field-0-test)).0

pub get-requires-clause-ready : goal.get-requires-clause-ready
get-requires-clause-ready g c = g.P.Ground.leads_ready _ _ c.is_of_file.ensures.kept.leads c.requires

pub returns-in-Ok-false : goal.returns-in-Ok-false
returns-in-Ok-false g c = (
  (refl, λ s. tt, (c.is_of_file.ensures.kept, tt)),
  record {
    found = λ told files body has. c.in-Ok-false.ensures.no c.in-Ok-false.field-0-test told
        (record { index = has.index; file = has.has.file; named = has.has.named });
    stands = λ told. tt;
    none = λ told is body stands. c.in-Ok-false.ensures.lacks c.in-Ok-false.field-0-test told is;
    sound = tt;
    fault = tt;
    way = c.in-Ok-false.ensures.way;
    page = λ told index body has. absurd (c.in-Ok-false.ensures.no c.in-Ok-false.field-0-test told
        (record { index = index; file = has.file; named = has.named }));
    after = tt;
  },
)
