-- What is gathered of the rows of a file: its versions, and the OIDs of those that are derived from the one at a place.
use Rattle.std.proofs.Common.{◌≡◌, ℕ, Bool, true, false, List, [], ◌∷◌, ◌++◌, map, Option, Some, None, refl, sym, ap, ◌∙◌}
use Rattle.std.specs.Prelude.{if◌then◌else◌}
use Rattle.std.proofs.lemmas.List.{map-append}
use Rattle.std.proofs.lemmas.List.Elements.{filter-append}
use Rattle.ex_base.specs.declared.ground.Ground as ground
use Rattle.ex_base.specs.declared.names.Oid.{Oid}
use Rattle.ex_base.specs.declared.names.Place.{Place}
use Rattle.object_records.specs.Record.{Record, BodyOf}
use Rattle.object_records.specs.declared.Head.{Head}
use Rattle.ex_base.specs.declared.names.Index.{Index}
use Rattle.file_bodies.specs.Bodies.{Row, bodies_of}
use Rattle.file_bodies.specs.Files.{HasFile, HasBody}
use Rattle.versions.specs.Listed.{oid_at, AreReadable}
use Rattle.std.proofs.lemmas.Option.{same_Some}
use Rattle.version_tree.specs.Links.{StoredAt}
use Rattle.version_tree.specs.declared.links.Stored.{Stored}
use Rattle.version_tree.specs.Linked.{AreLinked, IsLinked, derived_from, head_in, is_place, names_older, oid_of_row, oids_by_link, oids_from}
use Rattle.version_tree.proofs.Linking.{named_place, newer_at}
use Rattle.version_tree.proofs.Places.{at_itself}
use Rattle.versions.proofs.RowsListed.{Gathers, each_map}
use Rattle.version_tree.specs.Lineage.{member_of}

-- ---- one version

pub by_link : (from : Place) (row : Row) → oids_from from (row ∷ []) ≡ oids_by_link from row.0 (head_in row.1)
by_link from row = by_test (names_older from row)
  where
    by_test : (b : Bool) → map oid_of_row (if b then row ∷ [] else []) ≡ (if b then oid_at row.0 (head_in row.1).unique ∷ [] else [])
    by_test true = refl
    by_test false = refl

oids_app : (from : Place) (xs ys : List Row) → oids_from from (xs ++ ys) ≡ oids_from from xs ++ oids_from from ys
oids_app from xs ys = ap (map oid_of_row) (filter-append (names_older from) xs ys) ∙ map-append oid_of_row (derived_from from xs) (derived_from from ys)

pub not_linked : (from place : Place) (head : Head) → (head.older ≡ Some from → ⊥) → oids_by_link from place head ≡ []
not_linked from place head never = by_test (is_place from head.older) refl
  where
    by_test : (b : Bool) → is_place from head.older ≡ b → (if b then oid_at place head.unique ∷ [] else []) ≡ []
    by_test true is = absurd (never (named_place from head.older is))
    by_test false is = refl

pub is_linked : (from place : Place) (head : Head) → head.older ≡ Some from → oids_by_link from place head ≡ oid_at place head.unique ∷ []
is_linked from place head is = ap (λ (b : Bool). if b then oid_at place head.unique ∷ [] else []) (ap (is_place from) is ∙ at_itself from from refl)

-- ---- of rows

pub gathers_members : Gathers (map member_of)
gathers_members = record { none = refl; append = map-append member_of }

pub gathers_derived : (from : Place) → Gathers (oids_from from)
gathers_derived from = record { none = refl; append = oids_app from }

-- ---- linked records

module _ {S : Type 0} (g : ground.Ghosts S) where
  -- linked records are readable
  pub linked_readable : (s : S) (index : Index) → AreLinked g s → HasFile g s index → AreReadable (bodies_of (g.image s) index)
  linked_readable s index linked file =
      each_map (IsLinked (g.geometry s) (bodies_of (g.image s) index)) (λ (row : Row). (is : Record) × BodyOf row.1 is) (bodies_of (g.image s) index) (λ row link. (link.readable.is, link.readable.spelled)) (linked index file)

  -- the only one that is derived is the one at the newer place
  pub one_derived : (s : S) (index : Index) (place : Place) (body : List ℕ) (head : Head) (link : Option Place) (newer : Stored) → AreLinked g s → HasBody g s index place body → head ≡ head_in body → head.newer ≡ link
      → StoredAt (bodies_of (g.image s) index) link (Some newer) → oids_from place (bodies_of (g.image s) index) ≡ oid_at newer.place newer.head.unique ∷ []
  one_derived s index place body head None newer linked has same is at = absurd cc
  one_derived s index place body head (Some p) newer linked has same is at =
      let n = newer_at g s index place body head p linked has same is in
      let bodies : n.body ≡ at.body = same_Some n.body at.body (sym n.there ∙ at.there) in
      let oid : oid_at p (head_in n.body).unique ≡ oid_at newer.place newer.head.unique =
      ap (λ (b : List ℕ). oid_at p (head_in b).unique) bodies ∙ sym (ap (λ (q : Place). oid_at q (head_in at.body).unique) at.is.stands) ∙ sym (ap (λ (h : Head). oid_at newer.place h.unique) at.is.head) in
      ap (map oid_of_row) n.only ∙ ap (λ (o : Oid). o ∷ []) oid
