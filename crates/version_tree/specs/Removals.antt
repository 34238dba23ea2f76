-- Versions that are taken out of the tree of their object.
use Rattle.std.specs.Prelude.{◌≡◌, ◌≢◌, ℕ, Bool, not, List, [], ◌∷◌, ◌++◌, filter, Option, Some, None, IfSome, IsSome}
use Rattle.ex_base.specs.declared.ground.Ground as ground
use Rattle.ex_base.specs.declared.faults.PortFault.{PortFault}
use Rattle.ex_base.specs.Ports.{IsDamage}
use Rattle.ex_base.specs.declared.names.Oid.{Oid}
use Rattle.ex_base.specs.declared.names.Place.{Place}
use Rattle.object_records.specs.Record.{Record, BodyOf}
use Rattle.object_records.specs.Reads.{record_on}
use Rattle.object_records.specs.declared.State.TheVariants.{Current, Frozen}
use Rattle.ex_base.specs.declared.names.Index.{Index}
use Rattle.file_bodies.specs.Bodies.{Row, bodies_of}
use Rattle.file_bodies.specs.Damage.{IsTakingFault}
use Rattle.versions.specs.Damage.{record_fault, StandsOn}
use Rattle.versions.specs.Versions.{place_of}
use Rattle.version_tree.specs.Bodies.{PlaceChange, EditsBodies, body_at, newer_head, older_head, same_place, with_head}
use Rattle.version_tree.specs.Copies.{IsRead, TurnsLink}
use Rattle.version_tree.specs.Linked.{derived_from, head_in, only_place}
use Rattle.version_tree.specs.Links.{IsNewerFault, IsOlderFault, IsRecordFault, IsWalkFault, LacksNeighbours, StandsIn}
use Rattle.version_tree.specs.declared.links.Stored.{Stored}

-- ---- a frozen version that goes

-- A version was read, with the only one that is derived from it and the one that it is derived from, if it is. They stand at different places.
pub record IsBetween {S : Type 0} (g : ground.Ghosts S) (s : S) (index : Index) (was newer : Stored) (older : Option Stored) (is : Record) : Type 0 where
  pub read : IsRead g s index was older is
  pub next : StandsIn g s index newer
  pub names : is.head.newer ≡ Some newer.place
  pub apart : was.place ≢ newer.place
  pub older_apart : IfSome older (λ (stored : Stored). (was.place ≢ stored.place) × (newer.place ≢ stored.place))

-- A frozen version goes from which only one is derived: that one is derived from the older version instead, and where the older one named the version as its
-- newer one, it names that one.
pub record Drops {S : Type 0} (g : ground.Ghosts S) (old new : S) (index : Index) (place : Place) (is : Record) : Type 0 where
  pub after : Index
  pub at : Place
  pub only : is.head.newer ≡ Some at
  pub was : List ℕ
  pub there : body_at at (bodies_of (g.image old) index) ≡ Some was
  pub now : List ℕ
  pub moved : BodyOf now (with_head (older_head is.head.older (head_in was)) (record_on was))
  pub others : List PlaceChange
  pub older : TurnsLink (bodies_of (g.image old) index) place at is.head.older others
  pub bodies : EditsBodies g old new index after (others ++ (at, Some now) ∷ (place, None) ∷ [])

-- ---- a current version that goes

-- it stands at another place than this
abbrev pub stands_elsewhere : Place → Row → Bool
stands_elsewhere gone row = not (same_place row.0 gone)

-- the place of the only one of these rows that stands elsewhere
abbrev pub only_other : Place → List Row → Option Place
only_other gone rows = only_place (filter (stands_elsewhere gone) rows)

-- the OID leads to another place than this
abbrev pub leads_elsewhere : Place → Oid → Bool
leads_elsewhere gone oid = not (same_place (place_of oid) gone)

-- where the only one of these OIDs leads
abbrev pub only_lead : List Oid → Option Place
only_lead [] = None
only_lead (oid ∷ []) = Some (place_of oid)
only_lead (oid ∷ next ∷ oids) = None

-- the place of the only other version that is derived from the one that was read, if one was
abbrev pub other_from : List Row → Place → Option Stored → Option Place
other_from rows gone None = None
other_from rows gone (Some stored) = only_other gone (derived_from stored.place rows)

-- The version at a place has no newer place: several are derived from it.
pub record IsShared (rows : List Row) (place : Place) : Type 0 where
  pub body : List ℕ
  pub there : body_at place rows ≡ Some body
  pub many : (head_in body).newer ≡ None

-- so has the one at an older place, if there is one
abbrev pub IsBranch : List Row → Option Place → Type 0
IsBranch rows None = Unit {0}
IsBranch rows (Some place) = IsShared rows place

-- The record in a body at a place gets a newer place.
pub record IsNaming (place : Place) (body : List ℕ) (newer : Place) (changes : List PlaceChange) : Type 0 where
  pub now : List ℕ
  pub spelled : BodyOf now (with_head (newer_head (Some newer) (head_in body)) (record_on body))
  pub is : changes ≡ (place, Some now) ∷ []

-- it gets none where there is none to give
abbrev pub NamesNewer : Place → List ℕ → Option Place → List PlaceChange → Type 0
NamesNewer place body None changes = changes ≡ []
NamesNewer place body (Some newer) changes = IsNaming place body newer changes

-- so does the record at a place of these rows
pub record NamesAt (rows : List Row) (newer : Option Place) (place : Place) (changes : List PlaceChange) : Type 0 where
  pub body : List ℕ
  pub there : body_at place rows ≡ Some body
  pub named : NamesNewer place body newer changes

-- The record that a link names gets the only other one as its newer one that is derived from it, where just one other is.
abbrev pub NamesLink : List Row → Place → Option Place → List PlaceChange → Type 0
NamesLink rows gone None changes = changes ≡ []
NamesLink rows gone (Some place) changes = NamesAt rows (only_other gone (derived_from place rows)) place changes

-- A record that was read gets a newer place, and nothing else changes in its file.
pub record NamesStored {S : Type 0} (g : ground.Ghosts S) (old new : S) (index : Index) (stored : Stored) (newer : Option Place) : Type 0 where
  pub changes : List PlaceChange
  pub named : NamesNewer stored.place stored.body.items newer changes
  pub bodies : EditsBodies g old new index index changes

-- so does the record that a link names, as it stood in these rows
pub record NamesOther {S : Type 0} (g : ground.Ghosts S) (old new : S) (index : Index) (rows : List Row) (link : Option Place) (gone : Place) : Type 0 where
  pub changes : List PlaceChange
  pub named : NamesLink rows gone link changes
  pub bodies : EditsBodies g old new index index changes

-- A current version was read, the one that it is derived from, if it is, and the place of the only other one that is derived from that, if there is just one.
pub record IsLeaving {S : Type 0} (g : ground.Ghosts S) (s : S) (index : Index) (was : Stored) (older : Option Stored) (other : Option Place) (is : Record) : Type 0 where
  pub read : IsRead g s index was older is
  pub current : is.head.state ≡ Current
  pub left : other ≡ other_from (bodies_of (g.image s) index) was.place older

-- A current version goes. Where just one other is derived from the version that it was derived from, that one becomes the newer one of it.
pub record TakesOut {S : Type 0} (g : ground.Ghosts S) (old new : S) (index : Index) (place : Place) (is : Record) : Type 0 where
  pub after : Index
  pub others : List PlaceChange
  pub older : NamesLink (bodies_of (g.image old) index) place is.head.older others
  pub bodies : EditsBodies g old new index after (others ++ (place, None) ∷ [])

-- ---- what is told

-- What a call tells that drops the version with a body at a place: that this isn't frozen, or has no newer place; of its links; of its file (`t` is the state in
-- which it is told); or that a record that one of the links names can't be linked past it, of which no damage is told where a whole file has it and both of these.
pub data IsDroppingFault {S : Type 0} (g : ground.Ghosts S) (s t : S) (place : Place) (body : List ℕ) (fault : PortFault) : Type 0 where
  not_asked : ((head_in body).state ≡ Frozen → IsSome (head_in body).newer → ⊥) → fault ≡ record_fault place → IsDroppingFault g s t place body fault
  of_older : IsOlderFault g s (head_in body) fault → IsDroppingFault g s t place body fault
  of_newer : IsNewerFault g s place (head_in body) fault → IsDroppingFault g s t place body fault
  of_file : IsTakingFault (g.geometry s) (g.held s) (g.image s) (g.held t) (g.image t) place fault → IsDroppingFault g s t place body fault
  unmoved_newer : (newer : Place) → (head_in body).newer ≡ Some newer → IsRecordFault newer fault → (IsDamage fault → LacksNeighbours g s place body) → IsDroppingFault g s t place body fault
  unmoved_older : (older : Place) → (head_in body).older ≡ Some older → IsRecordFault older fault → (IsDamage fault → LacksNeighbours g s place body) → IsDroppingFault g s t place body fault

-- The version at an older place names a newer one: it is the only one that is derived from it.
pub record IsOnlyOn (image : ℕ → List ℕ) (link : Option Place) : Type 0 where
  pub older : Place
  pub named : link ≡ Some older
  pub body : List ℕ
  pub stands : StandsOn image older body
  pub only : (head_in body).newer ≡ None → ⊥

-- What a call tells that takes out the current version with a body at a place: that this isn't current; of its older link; that it is no branch; of the walk
-- over the file of the version that the link names; of its own file (`t` is the state in which it is told); or that the record of that version can't name the
-- only other one, of which no damage is told where a whole file has both.
pub data IsTakingOutFault {S : Type 0} (g : ground.Ghosts S) (s t : S) (place : Place) (body : List ℕ) (fault : PortFault) : Type 0 where
  not_current : ((head_in body).state ≡ Current → ⊥) → fault ≡ record_fault place → IsTakingOutFault g s t place body fault
  to_older : IsOlderFault g s (head_in body) fault → IsTakingOutFault g s t place body fault
  no_branch : IsOnlyOn (g.image s) (head_in body).older → fault ≡ record_fault place → IsTakingOutFault g s t place body fault
  by_search : (older : Place) → (head_in body).older ≡ Some older → IsWalkFault (g.geometry s) (g.image s) older fault → IsTakingOutFault g s t place body fault
  by_taking : IsTakingFault (g.geometry s) (g.held s) (g.image s) (g.held t) (g.image t) place fault → IsTakingOutFault g s t place body fault
  unnamed : (older : Place) → (head_in body).older ≡ Some older → IsRecordFault older fault → (IsDamage fault → LacksNeighbours g s place body) → IsTakingOutFault g s t place body fault
