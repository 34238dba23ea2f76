use Rattle.std.proofs.Common.{◌≡◌, ◌++◌, List, Some, None, ap, inl, inr, refl, subst, sym, ◌∙◌}
use Rattle.std.proofs.lemmas.Result.{IfErr-weaker, on_ok_weaker}
use Rattle.std.specs.Prelude.{slice_index_or}
use Rattle.slotted_pages.specs.FilePage.{Slot}
use Rattle.slotted_pages.specs.Edits.{slots_of}
use Rattle.file_bodies.specs.Bodies.{place_at}
use Rattle.file_bodies.proofs.Pages.{slots_are}
use Rattle.versions.specs.Damage.{own, unread}
use Rattle.versions.specs.Listed.{oids_of, rows_on, AreReadable}
use Rattle.versions.proofs.listing.list_page.Goals as goal

pub returns-in-Some-clause-listed : goal.returns-in-Some-clause-listed
returns-in-Some-clause-listed g c = on_ok_weaker c.list_slots.result (λ put told is.
    put ∙ ap (λ (slots : List Slot). c.args.oids.now.items ++ oids_of (rows_on c.args.place.page.0 c.args.place.slot slots))
    (sym (slots_are c.in-Ok.bytes.now c.in-Some.view.page c.in-Some.ensures.found.1) ∙ ap slots_of (c.in-Ok.ensures.bytes told))) c.list_slots.ensures.listed

pub returns-in-Some-clause-sound : goal.returns-in-Some-clause-sound
returns-in-Some-clause-sound g c = IfErr-weaker c.list_slots.result _ _ (λ fault never damage told le area is all.
    never damage (subst (λ (slots : List Slot). AreReadable (rows_on c.args.place.page.0 c.args.place.slot slots))
    (sym (sym (slots_are c.in-Ok.bytes.now c.in-Some.view.page c.in-Some.ensures.found.1) ∙ ap slots_of (c.in-Ok.ensures.bytes told))) all)) c.list_slots.ensures.sound

pub returns-in-Some-clause-fault : goal.returns-in-Some-clause-fault
returns-in-Some-clause-fault g c = IfErr-weaker c.list_slots.result _ _ (λ fault h told. elim h [
  | inl never ↦ (c.args.place, refl, own never)
  | inr lacks ↦ (
    place_at c.args.place.page.0 lacks.0,
    refl,
    unread (λ le has. lacks.1 has.body
        (subst (λ (slots : List Slot). slice_index_or slots lacks.0 None ≡ Some has.body) (sym (sym (slots_are c.in-Ok.bytes.now c.in-Some.view.page c.in-Some.ensures.found.1) ∙ ap slots_of (c.in-Ok.ensures.bytes told))) has.stands)
        has.is has.spelled) lacks.2,
  )
]) c.list_slots.ensures.fault

pub returns-in-Some-clause-cause : goal.returns-in-Some-clause-cause
returns-in-Some-clause-cause g c = c.list_slots.ensures.cause _ _
