-- What stands at a place after changes, and identifiers that are one or not.
use Rattle.std.proofs.Common.{[], ◌≡◌, ◌≢◌, ℕ, Bool, true, false, List, ◌∷◌, map, Option, Some, None, refl, sym, ap, ◌∙◌, inl, inr}
use Rattle.std.specs.Prelude.{if◌then◌else◌, ◌&&◌, ◌==◌}
use Rattle.std.proofs.lemmas.Bool.{eq-eqb}
use Rattle.std.proofs.lemmas.Option.{none-some}
use Rattle.ex_base.specs.declared.names.Oid.{Oid}
use Rattle.ex_base.specs.declared.names.Place.{Place}
use Rattle.ex_base.specs.Places.{same_place}
use Rattle.ex_base.proofs.SamePlaces.{at_itself, at_others}
use Rattle.version_lists.specs.Versions.{same_oid}
use Rattle.version_lists.proofs.Lists.{Has}
use Rattle.slotted_pages.specs.FilePage.{Slot}
use Rattle.object_records.specs.Record.{Record, BodyOf}
use Rattle.object_records.proofs.RecordLaws.{record_read}
use Rattle.volume_model.specs.Volume.{Stored, stands_at}
use Rattle.volume_model.proofs.Places.{stands_none}
use Rattle.versions.specs.Versions.{place_of}
use Rattle.version_tree.specs.Bodies.{PlaceChange}
use Rattle.volume_edits.proofs.RecordEdits.{stored_after, stored_if}
use Rattle.volume_edits.proofs.RecordUpdates.{stored_as}

pub if_here : {A : Type 0} (a b : Place) (x y : A) → a ≡ b → (if same_place a b then x else y) ≡ x
if_here {A} a b x y e = ap (λ (t : Bool). if t then x else y) (at_itself a b e)

pub if_off : {A : Type 0} (a b : Place) (x y : A) → a ≢ b → (if same_place a b then x else y) ≡ y
if_off {A} a b x y n = ap (λ (t : Bool). if t then x else y) (at_others a b n)

pub put_here : (place : Place) (slot : Slot) (rest : List PlaceChange) (at : Place) (was : Option Stored) → place ≡ at → stored_after ((place, slot) ∷ rest) at was ≡ stored_if at slot
put_here place slot rest at was e = if_here place at (stored_if at slot) (stored_after rest at was) e

pub put_off : (place : Place) (slot : Slot) (rest : List PlaceChange) (at : Place) (was : Option Stored) → place ≢ at → stored_after ((place, slot) ∷ rest) at was ≡ stored_after rest at was
put_off place slot rest at was n = if_off place at (stored_if at slot) (stored_after rest at was) n

pub body_read : (place : Place) (body : List ℕ) (r : Record) → BodyOf body r → stored_if place (Some body) ≡ Some (stored_as place r)
body_read place body r h = ap (λ (x : Record). Some (stored_as place x)) (record_read body r h)

-- ---- identifiers

pub oid_is : (a b : Oid) → a ≡ b → same_oid a b ≡ true
oid_is a b e =
    ap (λ (t : Bool). t && (a.unique == b.unique)) (at_itself (place_of a) (place_of b) (ap place_of e)) ∙ eq-eqb a.unique b.unique (ap (λ (o : Oid). o.unique) e)

pub oid_off : (a b : Oid) → place_of a ≢ place_of b → same_oid a b ≡ false
oid_off a b n = ap (λ (t : Bool). t && (a.unique == b.unique)) (at_others (place_of a) (place_of b) n)

-- ---- all of a list

-- ---- one record that is made

pub made_here : (place at : Place) (r : Record) → place ≡ at → stands_at at (stored_as place r ∷ []) ≡ Some (stored_as at r)
made_here place at r e = if_here place at (Some (stored_as place r)) None e ∙ ap (λ (p : Place). Some (stored_as p r)) e

pub made_off : (place at : Place) (r : Record) → place ≢ at → stands_at at (stored_as place r ∷ []) ≡ None
made_off place at r n = if_off place at (Some (stored_as place r)) None n

pub one_of : {A : Type 0} (m x y : A) → Has (m ∷ []) x → Has (m ∷ []) y → x ≡ y
one_of m x y (inl a) (inl b) = sym a ∙ b
one_of m x y (inl a) (inr b) = absurd b
one_of m x y (inr a) b = absurd a

pub is_one : {A : Type 0} (m x : A) → Has (m ∷ []) x → x ≡ m
is_one m x (inl a) = sym a
is_one m x (inr a) = absurd a

pub map_same : {A : Type 0} (f : A → A) (xs : List A) → ((x : A) → f x ≡ x) → map f xs ≡ xs
map_same f [] same = refl
map_same {A} f (x ∷ xs) same = ap (λ (y : A). y ∷ map f xs) (same x) ∙ ap (λ (rest : List A). x ∷ rest) (map_same f xs same)

pub no_place : (stored : List Stored) (place : Place) (s : Stored) → stands_at place stored ≡ None → Has stored s → place ≢ s.place
no_place stored place s none h e = stands_none stored place s none h (sym e)

pub some_place : (stored : List Stored) (place at : Place) (s : Stored) → stands_at at stored ≡ None → stands_at place stored ≡ Some s → place ≢ at
some_place stored place at s none some e = none-some s (sym (ap (λ (p : Place). stands_at p stored) e ∙ none) ∙ some)
