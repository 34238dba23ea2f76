-- The record that an OID names in a file of a volume, and a record that is made with its content.
use Rattle.std.proofs.Common.{true, false, None, Bool, refl, ◌≡◌, ℕ, ◌<◌, List, [], ◌∷◌, Option, Some, IfSome, sym, ap, subst, inl, inr}
use Rattle.std.specs.Prelude.{filter, not, find, if◌then◌else◌}
use Rattle.ex_base.specs.declared.ground.Ground as ground
use Rattle.ex_base.specs.declared.names.Oid.{Oid}
use Rattle.ex_base.specs.declared.names.PageNo.{PageNo}
use Rattle.ex_base.specs.declared.names.Place.{Place}
use Rattle.ex_base.specs.declared.names.Root.{Root}
use Rattle.ex_base.proofs.Members.{In, in_either, into_flat}
use Rattle.version_lists.specs.Versions.{is_derived_from, unique_of as number_of, has_oid}
use Rattle.version_lists.specs.Changes.{left_by, older_instead, without_in}
use Rattle.version_lists.specs.declared.version.Version.{Version}
use Rattle.version_lists.proofs.Lists.{rises_filter, rises_map, Has, Rises}
use Rattle.version_lists.proofs.Links.{found_by_oid}
use Rattle.object_records.specs.Record.{Content, Record}
use Rattle.ex_base.specs.declared.names.Index.{Index}
use Rattle.file_bodies.specs.Bodies.{bodies_of}
use Rattle.trees.specs.Trees.{Units}
use Rattle.volume_model.specs.Volume.{Stored, oid_of, root_in, roots_in, stands_at, stored_in, unique_of, version_of, versions_stored}
use Rattle.volume_model.proofs.Places.{each_has, stands_has}
use Rattle.volume_model.proofs.Versions.{has_stored, stored_has}
use Rattle.versions.specs.Versions.{HasRecord, place_of}
use Rattle.version_tree.proofs.Places.{body_there}
use Rattle.volume_edits.proofs.RecordUpdates.{IsAbove, stored_as}
use Rattle.volume_edits.proofs.RowLinks.{row_stands_as}
use Rattle.volume_edits.proofs.PlaceChanges.{is_one}
use Rattle.volume_edits.proofs.TurnCounts.{has_in}
use Rattle.volume_edits.proofs.Finding.{same_as_oid}
use Rattle.volume_edits.proofs.Lists.{each_around}
use Rattle.volume_edits.proofs.Holes.{Hole, filled, stored_filled, stored_first, stored_last}
use Rattle.volume_edits.proofs.Placed.{records_of}

pub record Named (stored : List Stored) (oid : Oid) (is : Record) : Type 0 where
  pub stands : stands_at (place_of oid) stored ≡ Some (stored_as (place_of oid) is)
  pub there : Has stored (stored_as (place_of oid) is)
  pub oid_is : oid_of (stored_as (place_of oid) is) ≡ oid

abbrev made_oid : PageNo → ℕ → ℕ → Oid
made_oid page slot unique = record { page = page; slot = slot; unique = unique }

pub named_there : {S : Type 0} (g : ground.Ghosts S) (s : S) (index : Index) (oid : Oid) (is : Record) → HasRecord g s index oid is → Named (records_of (g.image s) index) oid is
named_there g s index oid is has =
    let at = row_stands_as (bodies_of (g.image s) index) (place_of oid) has.body is (body_there g s index (place_of oid) has.body has.stands) has.spelled in
    record {
      stands = at;
      there = (stands_has (records_of (g.image s) index) (place_of oid) (stored_as (place_of oid) is) at).0;
      oid_is = ap (made_oid oid.page oid.slot) has.number;
    }

-- ---- its version

module _ (units : Units) (stored : List Stored) (oid : Oid) (is : Record) (named : Named stored oid is) where
  abbrev vs : List Version
  vs = versions_stored units stored

  abbrev own : Version
  own = version_of units stored (stored_as (place_of oid) is)

  found_version : Rises number_of vs → find (has_oid oid) vs ≡ Some own
  found_version rises = found_by_oid oid vs own rises (stored_has units stored (stored_as (place_of oid) is) named.there) (same_as_oid (oid_of (stored_as (place_of oid) is)) oid named.oid_is)

  -- what holds of it
  pub of_version : (P : Version → Type 0) → Rises number_of vs → P own → IfSome (find (has_oid oid) vs) P
  of_version P rises holds = subst (λ (o : Option Version). IfSome o P) (sym (found_version rises)) holds

-- ---- numbers above others

pub versions_above : (units : Units) (stored : List Stored) (n : ℕ) → IsAbove n stored → (v : Version) → Has (versions_stored units stored) v → number_of v < n
versions_above units stored n above v h =
    let s = has_stored units stored v h in
    subst (λ (w : Version). number_of w < n) s.2 (each_has (λ (x : Stored). unique_of x < n) stored above s.0 s.1)

pub own_above : (h : Hole) (image : ℕ → List ℕ) (index : Index) (stored : List Stored) (n : ℕ) → IsAbove n (stored_in (filled h image index stored)) → IsAbove n stored
own_above h image index stored n above = (each_around (λ (s : Stored). unique_of s < n) (stored_first h) stored (stored_last h) (subst (IsAbove n) (stored_filled h image index stored) above)).1

-- ---- a record that is made

pub one_new : (new : Stored) (P : Stored → Type 0) → P new → (t : Stored) → Has (new ∷ []) t → P t
one_new new P holds t m = subst P (sym (is_one new t m)) holds

-- its root is that of another one, where it has the content of that
pub new_roots : (stored : List Stored) (x : Stored) (place : Place) (r : Record) → Has stored x → r.content ≡ x.body.content → (root : Root) → In root (roots_in (stored_as place r ∷ [])) → In root (roots_in stored)
new_roots stored x place r there same root k = elim (in_either root (root_in r.content) [] k) [
  | inl own ↦ into_flat (λ (s : Stored). root_in s.body.content) root x stored (has_in stored x there) (subst (λ (c : Content). In root (root_in c)) same own)
  | inr none ↦ absurd none
]

-- ---- without a version the others are in order

instead_number : (gone v : Version) → number_of (older_instead gone v) ≡ number_of v
instead_number gone v = by (is_derived_from (number_of gone) v)
  where
    by : (b : Bool) → number_of (if b then record v { older = gone.older } else v) ≡ number_of v
    by true = refl
    by false = refl

pub without_rises : (oid : Oid) (vs : List Version) → Rises number_of vs → Rises number_of (without_in oid vs)
without_rises oid vs rises = by (find (has_oid oid) vs)
  where
    by : (o : Option Version) → Rises number_of (left_by o vs)
    by None = rises
    by (Some gone) = rises_map number_of number_of (older_instead gone) (filter (λ v. not (has_oid gone.oid v)) vs) (instead_number gone) (rises_filter number_of (λ v. not (has_oid gone.oid v)) vs rises)
