-- Records at places where nothing changes.
use Rattle.std.proofs.Common.{[], ◌≡◌, ◌≢◌, Bool, List, ◌∷◌, Option, refl, sym, ap, ◌∙◌}
use Rattle.std.specs.Prelude.{if◌then◌else◌}
use Rattle.std.specs.List.{AllByRecursion}
use Rattle.ex_base.specs.declared.names.Place.{Place}
use Rattle.ex_base.proofs.SamePlaces.{at_others}
use Rattle.version_lists.proofs.Lists.{Has}
use Rattle.volume_model.specs.Volume.{Stored, stands_at}
use Rattle.volume_model.specs.Links.{place_in}
use Rattle.volume_model.proofs.Places.{has_stands, sep_from, stands_has}
use Rattle.version_tree.specs.Bodies.{PlaceChange}
use Rattle.volume_edits.proofs.RecordEdits.{EditsStored, stored_after, stored_if}

pub nothing_after : (changes : List PlaceChange) (place : Place) (was : Option Stored) → AllByRecursion (λ (change : PlaceChange). change.0 ≢ place) changes → stored_after changes place was ≡ was
nothing_after [] place was all = refl
nothing_after (change ∷ changes) place was all =
    ap (λ (b : Bool). if b then stored_if place change.1 else stored_after changes place was) (at_others change.0 place all.0) ∙ nothing_after changes place was all.1

module _ (stored later : List Stored) (changes : List PlaceChange) (s : Stored) (e : EditsStored stored later changes) (all : AllByRecursion (λ (change : PlaceChange). change.0 ≢ s.place) changes) where
  pub stays : Has stored s → Has later s
  stays h = (stands_has later s.place s (e.at s.place ∙ nothing_after changes s.place (stands_at s.place stored) all ∙ has_stands stored s.place s (sep_from place_in stored e.places) h refl)).0

  pub stayed : Has later s → Has stored s
  stayed h = (stands_has stored s.place s (sym (e.at s.place ∙ nothing_after changes s.place (stands_at s.place stored) all) ∙ has_stands later s.place s (sep_from place_in later e.later_places) h refl)).0
