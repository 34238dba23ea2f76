-- The versions of an object in the order in which they are listed.
use Rattle.std.specs.Prelude.{◌≡◌, ℕ, suc, zero, Bool, List, [], ◌∷◌, length, map, filter, Option, Some, None, IsPermutation, IsSortedByKey}
use Rattle.std.specs.List.{find, flat_map}
use Rattle.std.specs.Ordering.{nat_cmp}
use Rattle.ex_base.specs.declared.names.Oid.{Oid}
use Rattle.ex_base.specs.declared.names.Place.{Place}
use Rattle.object_records.specs.declared.Head.{Head}
use Rattle.file_bodies.specs.Bodies.{Row}
use Rattle.versions.specs.Listed.{oid_at}
use Rattle.versions.specs.Versions.{place_of}
use Rattle.version_tree.specs.Bodies.{same_place}
use Rattle.version_tree.specs.Linked.{head_in, is_place}
use Rattle.version_tree.specs.declared.lineage.Member.{Member}
use Rattle.version_tree.specs.declared.lineage.Rest.{Rest}

-- ---- the versions of a file, and what is derived from which

-- what is told of a version by its place and its head
abbrev pub member_at : Place → Head → Member
member_at place head = record { oid = oid_at place head.unique; older = head.older }

abbrev pub member_of : Row → Member
member_of row = member_at row.0 (head_in row.1)

abbrev pub number_of : Member → ℕ
number_of member = member.oid.unique

abbrev pub stands_at : Place → Member → Bool
stands_at place member = same_place (place_of member.oid) place

-- it is derived from the version at a place
abbrev pub comes_from : Place → Member → Bool
comes_from place member = is_place place member.older

abbrev pub derived_among : List Member → Member → List Member
derived_among members member = filter (comes_from (place_of member.oid)) members

-- the version at the older place of another
abbrev pub older_at : List Member → Option Place → Option Member
older_at members None = None
older_at members (Some place) = find (stands_at place) members

-- ---- the order

abbrev pub climbed : (Member → Member) → Member → Option Member → Member
climbed climb here None = here
climbed climb here (Some older) = climb older

-- the version that is reached by at most n steps from a version to the one that it is derived from
unfoldable pub first_from : ℕ → List Member → Member → Member
first_from zero members member = member
first_from (suc n) members member = climbed (first_from n members) member (older_at members member.older)

-- a version, and then those that are derived from it, each with all that is derived from it in turn, n levels deep
unfoldable pub listed_from : ℕ → List Member → Member → List Member
listed_from zero members member = member ∷ []
listed_from (suc n) members member = member ∷ flat_map (listed_from n members) (derived_among members member)

-- the versions of an object, from its first one on. No way from a version to another is longer than the list.
abbrev pub listed : List Member → Member → List Member
listed members member = listed_from (length members) members (first_from (length members) members member)

-- The versions of the object of one of a file are listed: all versions of the file are taken in order of their numbers, and what is derived from one
-- stands behind it in that order.
pub record IsListing (rows : List Row) (member : Member) (oids : List Oid) : Type 0 where
  pub members : List Member
  pub same : IsPermutation (map member_of rows) members
  pub ordered : IsSortedByKey number_of nat_cmp members
  pub oids_are : oids ≡ map (λ (m : Member). m.oid) (listed members member)

-- ---- how far they are listed

-- what is still to be listed of a version
abbrev pub rest_of : List Member → Rest → List Member
rest_of members rest = listed_from rest.levels members rest.member

-- what is to be listed behind a version, by what is derived from it
abbrev pub below : ℕ → List Member → Member → List Rest
below zero members member = []
below (suc n) members member = map (λ (m : Member). record { member = m; levels = n }) (derived_among members member)
