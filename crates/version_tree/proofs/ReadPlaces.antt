-- Records as they were read of the pages, and what is told of the places that their links name.
use Rattle.std.proofs.lemmas.Bool.{false≢true}
use Rattle.std.proofs.Common.{◌≡◌, ◌<◌, ◌⊎◌, ℕ, Bool, true, false, List, Option, Some, None, Result, Ok, Err, IfErr, refl, sym, ap, subst, ◌∙◌, inl, inr}
use Rattle.std.specs.Prelude.{IfSome, IsSome, IsSomeAnd}
use Rattle.ex_base.specs.declared.faults.PortFault.{PortFault}
use Rattle.ex_base.specs.declared.faults.PortFault.TheVariants.{Disk, Memory, Damaged}
use Rattle.ex_base.specs.declared.geometry.Geometry.{Geometry}
use Rattle.ex_base.specs.declared.ground.Ground as ground
use Rattle.ex_base.specs.declared.names.Oid.{Oid}
use Rattle.ex_base.specs.declared.names.Place.{Place}
use Rattle.ex_base.specs.Ports.{Keeps, IsDamage}
use Rattle.object_records.specs.Record.{Record, BodyOf}
use Rattle.object_records.specs.declared.Head.{Head}
use Rattle.object_records.specs.declared.State.{State}
use Rattle.object_records.specs.declared.State.TheVariants.{Frozen}
use Rattle.slotted_pages.specs.Reads.{page_on, IsPage}
use Rattle.ex_base.specs.declared.names.Index.{Index}
use Rattle.file_bodies.specs.declared.placing.Room.{Room}
use Rattle.file_bodies.specs.Damage.{IsBelongingFault, IsTakingFault}
use Rattle.file_bodies.specs.Files.{HasBody, HasSomeBody}
use Rattle.file_bodies.proofs.Moving.{kept_body}
use Rattle.versions.specs.Damage.{record_fault, StandsOn, IsListingFault, IsStepFault, IsWalkedOut, in_file, own, of_page, unread}
use Rattle.versions.specs.Listed.{oid_at}
use Rattle.versions.specs.Versions.{HasRecord, place_of}
use Rattle.versions.proofs.Records.{one_record}
use Rattle.versions.proofs.Results.{at_this}
use Rattle.version_tree.specs.Linked.{head_in}
use Rattle.version_tree.specs.Links.{IsNewerFault, IsNewerOn, IsOlderFault, IsOlderOn, IsReadingFault, IsReadOn, IsRecordFault, IsStored, IsStoredFault, IsVersionOn, IsWalkFault, IsWalkedFrom, LacksNeighbours, NewerOn, OidOn, OlderOn, ReadOn, at_newer, at_older, by_look, in_its_file, no_record, no_version, not_above, not_below, not_derived, not_frozen, oid_read, on_way, ports_own, read_own}
use Rattle.version_tree.specs.Copies.{AreOutOf, IsCopyFault, IsDerivingFault, IsFreezingFault, IsOutOf, by_copy, of_copy, unturned_older}
use Rattle.version_tree.specs.Removals.{IsDroppingFault, IsOnlyOn, IsTakingOutFault, by_search, by_taking, of_file, unmoved_newer, unmoved_older, unnamed}
use Rattle.version_tree.specs.declared.links.Stored.{Stored}

-- ---- what was read

-- what holds of a value that is there, and what is told of each
pub some_both : {A : Type 0} (o : Option A) (P Q : A → Type 0) (R : Type 0) → IsSomeAnd o P → IfSome o Q → ((x : A) → P x → Q x → R) → R
some_both None P Q R p q both = absurd p
some_both (Some x) P Q R p q both = both x p q

-- a value that is there is one of which something holds
pub some_and : {A : Type 0} (o : Option A) (x : A) (P : A → Type 0) → o ≡ Some x → P x → IsSomeAnd o P
some_and o x P is p = subst (λ (q : Option _). IsSomeAnd q P) (sym is) p

pub read_on : (image : ℕ → List ℕ) (place : Place) (body : List ℕ) (stored : Stored) → IsStored stored place body → StandsOn image place body → IsReadOn image place stored
read_on image place body stored is stands = record {
  at = is.stands;
  stands = subst (StandsOn image place) (sym is.bytes) stands;
  head = subst (λ (b : List ℕ). stored.head ≡ head_in b) (sym is.bytes) is.head;
}

-- what holds of a fault, and what else does
pub err_both : {X E : Type 0} (r : Result X E) (P Q : E → Type 0) → IfErr r P → IfErr r Q → IfErr r (λ e. P e × Q e)
err_both (Ok x) P Q p q = tt
err_both (Err e) P Q p q = (p, q)

-- one of two, where the first leads to another
pub first_kept : {P Q R : Type 0} → (P → R) → P ⊎ Q → R ⊎ Q
first_kept f (inl p) = inl (f p)
first_kept f (inr q) = inr q

-- what is told of a walk over the file whose number the page of a place shows
pub way_of : (g : Geometry) (image : ℕ → List ℕ) (place : Place) (number : ℕ) (fault : PortFault) → IsPage (image place.page.0) → (page_on (image place.page.0)).file_no ≡ number → IsListingFault g image number fault → IsWalkFault g image place fault
way_of g image place number fault page shown h = on_way page (subst (λ (n : ℕ). IsListingFault g image n fault) (sym shown) h)

pub walked_from : (g : Geometry) (image : ℕ → List ℕ) (place : Place) (number : ℕ) → IsPage (image place.page.0) → (page_on (image place.page.0)).file_no ≡ number → IsWalkedOut g image number → IsWalkedFrom g image place
walked_from g image place number page shown h = record { page = page; out = subst (λ (n : ℕ). IsWalkedOut g image n) (sym shown) h }

-- what holds of the place of each record that was read at a link, of that which the link names
pub each_named : (image : ℕ → List ℕ) (link : Option Place) (found : Option Stored) (P : Place → Type 0) → ReadOn image link found → IfSome found (λ (s : Stored). P s.place) → IfSome link P
each_named image None found P read h = tt
each_named image (Some place) None P read h = absurd read
each_named image (Some place) (Some stored) P read h = subst P read.at h

-- ---- the places that links name

-- A link names a place, of which something holds.
pub record IsNamedAnd (link : Option Place) (P : Place → Type 0) : Type 0 where
  pub at : Place
  pub is : link ≡ Some at
  pub holds : P at

-- what holds of the place of a record that was read at a link holds of the place that the link names
pub named_and : (image : ℕ → List ℕ) (link : Option Place) (found : Option Stored) (P : Place → Type 0) → ReadOn image link found → IsSomeAnd found (λ (s : Stored). P s.place) → IsNamedAnd link P
named_and image None found P none h = absurd (subst (λ (o : Option Stored). IsSomeAnd o (λ (s : Stored). P s.place)) none h)
named_and image (Some place) None P read h = absurd h
named_and image (Some place) (Some stored) P read h = record { at = place; is = refl; holds = subst P read.at h }

-- a link where nothing was read names no place
pub none_named : (image : ℕ → List ℕ) (link : Option Place) → ReadOn image link None → link ≡ None
none_named image None read = refl
none_named image (Some place) read = absurd read

pub some_named : (image : ℕ → List ℕ) (link : Option Place) (stored : Stored) → ReadOn image link (Some stored) → IsSome link
some_named image None stored read = absurd cc
some_named image (Some place) stored read = refl

-- ---- links that were followed

pub older_on : (image : ℕ → List ℕ) (head : Head) (place : Place) (stored : Stored) → head.older ≡ Some place → IsReadOn image place stored → stored.head.state ≡ Frozen → (head.state ≡ Frozen → stored.head.unique < head.unique) → OlderOn image head
older_on image head place stored named read frozen lower = at_this head.older place (IsOlderOn image head) named (record {
  body = stored.body.items;
  stands = read.stands;
  frozen = subst (λ (h : Head). h.state ≡ Frozen) read.head frozen;
  lower = subst (λ (h : Head). head.state ≡ Frozen → h.unique < head.unique) read.head lower;
})

pub newer_on : (image : ℕ → List ℕ) (from : Place) (head : Head) (place : Place) (stored : Stored) → head.newer ≡ Some place → IsReadOn image place stored → stored.head.older ≡ Some from → (stored.head.state ≡ Frozen → head.unique < stored.head.unique) → NewerOn image from head
newer_on image from head place stored named read older higher = at_this head.newer place (IsNewerOn image from head) named (record {
  body = stored.body.items;
  stands = read.stands;
  older = subst (λ (h : Head). h.older ≡ Some from) read.head older;
  higher = subst (λ (h : Head). h.state ≡ Frozen → head.unique < h.unique) read.head higher;
})

oid_on : (image : ℕ → List ℕ) (link : Option Place) (found : Option Stored) → ReadOn image link found → OidOn image link (oid_read found)
oid_on image None found read = ap oid_read read
oid_on image (Some place) None read = absurd read
oid_on image (Some place) (Some stored) read = record {
  body = stored.body.items;
  stands = read.stands;
  is = ap (λ (p : Place). oid_at p stored.head.unique) read.at ∙ ap (λ (h : Head). oid_at place h.unique) read.head;
}

-- what was read of a version at first, and of its links later, where the pages are the same
module _ (image seen : ℕ → List ℕ) (same : seen ≡ image) (oid : Oid) (was : Stored) (v : IsVersionOn image oid was) where
  pub state_read : (state : State) → was.head.state ≡ state → (head_in was.body.items).state ≡ state
  state_read state is = subst (λ (h : Head). h.state ≡ state) v.read.head is

  pub older_read : OlderOn seen was.head → OlderOn image (head_in was.body.items)
  older_read h = subst (OlderOn image) v.read.head (subst (λ (u : ℕ → List ℕ). OlderOn u was.head) same h)

  pub newer_read : NewerOn seen was.place was.head → NewerOn image (place_of oid) (head_in was.body.items)
  newer_read h = subst (NewerOn image (place_of oid)) v.read.head (subst (λ (p : Place). NewerOn image p was.head) v.read.at (subst (λ (u : ℕ → List ℕ). NewerOn u was.place was.head) same h))

  pub oid_of_link : (link : Head → Option Place) (found : Option Stored) (told : Option Oid) → ReadOn seen (link was.head) found → told ≡ oid_read found → OidOn image (link (head_in was.body.items)) told
  oid_of_link link found told read is =
      subst (OidOn image (link (head_in was.body.items))) (sym is) (subst (λ (h : Head). OidOn image (link h) (oid_read found)) v.read.head
      (subst (λ (u : ℕ → List ℕ). OidOn u (link was.head) (oid_read found)) same (oid_on seen (link was.head) found read)))

-- a test of the state fails where that is another
pub other_state : (image : ℕ → List ℕ) (oid : Oid) (was : Stored) (state : State) (test : Bool) → IsVersionOn image oid was → (was.head.state ≡ state → test ≡ true) → test ≡ false → (head_in was.body.items).state ≡ state → ⊥
other_state image oid was state test v holds isnt is = absurd (
    let so : test ≡ true = holds (subst (λ (h : Head). h.state ≡ state) (sym v.read.head) is) in
    let other : test ≡ false = isnt in false≢true (sym other ∙ so))

pub not_some : (link : Option Place) → link ≡ None → IsSome link → ⊥
not_some None none some = absurd cc
not_some (Some place) none some = absurd cc

only_read : (image : ℕ → List ℕ) (link : Option Place) (older : Option Stored) → ReadOn image link older → (IfSome older (λ (s : Stored). s.head.newer ≡ None) → ⊥) → IsOnlyOn image link
only_read image None older read never = absurd (never (subst (λ (o : Option Stored). IfSome o (λ (s : Stored). s.head.newer ≡ None)) (sym read) tt))
only_read image (Some place) None read never = absurd read
only_read image (Some place) (Some stored) read never = record {
  older = place;
  named = refl;
  body = stored.body.items;
  stands = read.stands;
  only = λ none. never (ap (λ (h : Head). h.newer) read.head ∙ none);
}

pub only_on : (image seen : ℕ → List ℕ) (oid : Oid) (was : Stored) (older : Option Stored) → seen ≡ image → IsVersionOn image oid was → ReadOn seen was.head.older older → (IfSome older (λ (s : Stored). s.head.newer ≡ None) → ⊥)
    → IsOnlyOn image (head_in was.body.items).older
only_on image seen oid was older same v read never =
    subst (λ (h : Head). IsOnlyOn image h.older) v.read.head (subst (λ (u : ℕ → List ℕ). IsOnlyOn u was.head.older) same (only_read seen was.head.older older read never))

-- ---- what is told of places, in a state with the same meanings

module _ {S : Type 0} (g : ground.Ghosts S) where
  pub stored_told : (s : S) (place : Place) (fault : PortFault) → (IsDamage fault → fault ≡ record_fault place) → (IsDamage fault → (index : Index) (body : List ℕ) (is : Record) → HasBody g s index place body → BodyOf body is → ⊥) → IsStoredFault g s place fault
  stored_told s place Disk is never = read_own (λ damage. damage)
  stored_told s place Memory is never = read_own (λ damage. damage)
  stored_told s place (Damaged page want got) is never = no_record (λ body r some spelled. never tt some.index body r some.has spelled) (is tt)

  -- what a walk tells of a place is told where the record there is read
  pub step_stored : (s : S) (Unlike : Type 0) (place : Place) (fault : PortFault) → IsStepFault (g.geometry s) (g.image s) Unlike place fault → (IsDamage fault → (index : Index) (body : List ℕ) (is : Record) → HasBody g s index place body → BodyOf body is → ⊥) → IsStoredFault g s place fault
  step_stored s Unlike place fault (own never) h = read_own never
  step_stored s Unlike place fault (of_page told) h = in_its_file told
  step_stored s Unlike place fault (unread lacks is) h = stored_told s place fault (λ damage. is) h

  module _ (a b : S) (kept : Keeps g a b) where
    pub stored_back : (place : Place) (fault : PortFault) → IsStoredFault g b place fault → IsStoredFault g a place fault
    stored_back place fault (read_own never) = read_own never
    stored_back place fault (in_its_file h) = in_its_file
        (subst (λ (u : ℕ → List ℕ). IsBelongingFault (g.geometry a) u place.page.0 fault) kept.images (subst (λ (y : Geometry). IsBelongingFault y (g.image b) place.page.0 fault) (g.leads_geometry a b kept.leads) h))
    stored_back place fault (no_record never is) = no_record (λ body r some spelled. never body r (record { index = some.index; has = kept_body g a b some.index place body kept some.has }) spelled) is

    pub older_back : (head : Head) (fault : PortFault) → IsOlderFault g b head fault → IsOlderFault g a head fault
    older_back head fault (at_older place named h) = at_older place named (stored_back place fault h)
    older_back head fault (not_frozen place older named stands never is) = not_frozen place older named (subst (λ (u : ℕ → List ℕ). StandsOn u place older) kept.images stands) never is
    older_back head fault (not_below place older named stands frozen le is) = not_below place older named (subst (λ (u : ℕ → List ℕ). StandsOn u place older) kept.images stands) frozen le is

    newer_back : (from : Place) (head : Head) (fault : PortFault) → IsNewerFault g b from head fault → IsNewerFault g a from head fault
    newer_back from head fault (at_newer place named h) = at_newer place named (stored_back place fault h)
    newer_back from head fault (not_derived place newer named stands never is) = not_derived place newer named (subst (λ (u : ℕ → List ℕ). StandsOn u place newer) kept.images stands) never is
    newer_back from head fault (not_above place newer named stands frozen le is) = not_above place newer named (subst (λ (u : ℕ → List ℕ). StandsOn u place newer) kept.images stands) frozen le is

    -- of a version that was read before its links were followed
    module _ (oid : Oid) (was : Stored) (fault : PortFault) (v : IsVersionOn (g.image a) oid was) where
      pub older_told : (g.tells b → IsOlderFault g b was.head fault) → g.tells a → IsOlderFault g a (head_in was.body.items) fault
      older_told h told = subst (λ (t : Head). IsOlderFault g a t fault) v.read.head (older_back was.head fault (h (g.leads_told a b kept.leads told)))

      pub newer_told : (g.tells b → IsNewerFault g b was.place was.head fault) → g.tells a → IsNewerFault g a (place_of oid) (head_in was.body.items) fault
      newer_told h told = subst (λ (t : Head). IsNewerFault g a (place_of oid) t fault) v.read.head
          (subst (λ (p : Place). IsNewerFault g a p was.head fault) v.read.at (newer_back was.place was.head fault (h (g.leads_told a b kept.leads told))))

  -- what is told of the place of a version is told where it is read
  pub stored_reading : (s : S) (place : Place) (oid : Oid) (fault : PortFault) → place ≡ place_of oid → IsStoredFault g s place fault → IsReadingFault g s oid fault
  stored_reading s place oid fault same (read_own never) = ports_own never
  stored_reading s place oid fault same (in_its_file h) = by_look (in_file (subst (λ (p : Place). IsBelongingFault (g.geometry s) (g.image s) p.page.0 fault) same h))
  stored_reading s place oid fault same (no_record never is) = no_version
      (λ index r has. never has.body r (subst (λ (p : Place). HasSomeBody g s p has.body) (sym same) (record { index = index; has = has.stands })) has.spelled) (is ∙ ap record_fault same)

  -- a file that has the record that was read has the version
  abbrev pub record_there : (s : S) (index : Index) (oid : Oid) (was : Stored) → IsVersionOn (g.image s) oid was → (is : Record) → HasBody g s index (place_of oid) was.body.items → BodyOf was.body.items is → HasRecord g s index oid is
  record_there s index oid was v is has spelled = record {
    body = was.body.items;
    stands = has;
    spelled = spelled;
    number = ap (λ (r : Record). r.head.unique) (one_record was.body.items is v.version.is spelled v.version.spelled) ∙ v.version.number;
  }

  -- no file of a room has the version that was read, where none has its record
  pub out_of : (s : S) (room : Room) (oid : Oid) (was : Stored) → IsVersionOn (g.image s) oid was → ((index : Index) (is : Record) → HasRecord g s index oid is → index.file_no ≡ room.file_no → ⊥) → IsOutOf g s room (place_of oid) was.body.items
  out_of s room oid was v never index is has spelled file = never index is (record_there s index oid was v is has spelled) file

-- ---- what the calls tell, of the version that was read

-- what was read of the older link of a version, of the link in its body
older_in : {P : Place → Type 0} (image : ℕ → List ℕ) (oid : Oid) (was : Stored) → IsVersionOn image oid was → IsNamedAnd was.head.older P → IsNamedAnd (head_in was.body.items).older P
older_in image oid was v n = record { at = n.at; is = subst (λ (h : Head). h.older ≡ Some n.at) v.read.head n.is; holds = n.holds }

module _ {S : Type 0} (g : ground.Ghosts S) (s : S) where
  pub deriving_of : (room : Room) (oid : Oid) (was : Stored) (fault : PortFault) → IsVersionOn (g.image s) oid was → IsCopyFault (g.geometry s) (g.held s) (g.image s) room was.place was.body.items fault
      → (IsDamage fault → IsOutOf g s room (place_of oid) was.body.items) → IsDerivingFault g s room (place_of oid) was.body.items fault
  deriving_of room oid was fault v h out = by_copy (subst (λ (p : Place). IsCopyFault (g.geometry s) (g.held s) (g.image s) room p was.body.items fault) v.read.at h) out

  pub freezing_of : (seen : ℕ → List ℕ) (room : Room) (oid : Oid) (was : Stored) (older : Option Stored) (fault : PortFault) → IsVersionOn (g.image s) oid was → ReadOn seen was.head.older older
      → (IsCopyFault (g.geometry s) (g.held s) (g.image s) room was.place was.body.items fault × (IsDamage fault → IsOutOf g s room (place_of oid) was.body.items)) ⊎ IsSomeAnd older (λ (t : Stored). IsRecordFault t.place fault)
      → (IsDamage fault → AreOutOf g s room (place_of oid) was.body.items) → IsFreezingFault g s room (place_of oid) was.body.items fault
  freezing_of seen room oid was older fault v up (inl h) out = of_copy (subst (λ (p : Place). IsCopyFault (g.geometry s) (g.held s) (g.image s) room p was.body.items fault) v.read.at h.0) h.1
  freezing_of seen room oid was older fault v up (inr h) out =
      let n = older_in (g.image s) oid was v (named_and seen was.head.older older (λ (p : Place). IsRecordFault p fault) up h) in
      unturned_older n.at n.is n.holds out

  module _ (t : S) (seen : ℕ → List ℕ) where
    pub dropping_of : (later : ℕ → List ℕ) (oid : Oid) (was newer : Stored) (older : Option Stored) (fault : PortFault) → IsVersionOn (g.image s) oid was → ReadOn seen was.head.older older → ReadOn later was.head.newer (Some newer)
        → IsTakingFault (g.geometry s) (g.held s) (g.image s) (g.held t) (g.image t) was.place fault ⊎ IsRecordFault newer.place fault ⊎ IsSomeAnd older (λ (o : Stored). IsRecordFault o.place fault)
        → (IsDamage fault → LacksNeighbours g s (place_of oid) was.body.items) → IsDroppingFault g s t (place_of oid) was.body.items fault
    dropping_of later oid was newer older fault v up down (inl h) lacks = of_file (subst (λ (p : Place). IsTakingFault (g.geometry s) (g.held s) (g.image s) (g.held t) (g.image t) p fault) v.read.at h)
    dropping_of later oid was newer older fault v up down (inr (inl h)) lacks =
        let n = named_and later was.head.newer (Some newer) (λ (p : Place). IsRecordFault p fault) down h in
        unmoved_newer n.at (subst (λ (h : Head). h.newer ≡ Some n.at) v.read.head n.is) n.holds lacks
    dropping_of later oid was newer older fault v up down (inr (inr h)) lacks =
        let n = older_in (g.image s) oid was v (named_and seen was.head.older older (λ (p : Place). IsRecordFault p fault) up h) in
        unmoved_older n.at n.is n.holds lacks

    pub searching_of : (oid : Oid) (was : Stored) (older : Option Stored) (fault : PortFault) → IsVersionOn (g.image s) oid was → ReadOn seen was.head.older older
        → IsSomeAnd older (λ (o : Stored). IsWalkFault (g.geometry s) (g.image s) o.place fault) → IsTakingOutFault g s t (place_of oid) was.body.items fault
    searching_of oid was older fault v up h =
        let n = older_in (g.image s) oid was v (named_and seen was.head.older older (λ (p : Place). IsWalkFault (g.geometry s) (g.image s) p fault) up h) in
        by_search n.at n.is n.holds

    pub taking_of : (oid : Oid) (was : Stored) (older : Option Stored) (fault : PortFault) → IsVersionOn (g.image s) oid was → ReadOn seen was.head.older older
        → IsTakingFault (g.geometry s) (g.held s) (g.image s) (g.held t) (g.image t) was.place fault ⊎ IsSomeAnd older (λ (o : Stored). IsRecordFault o.place fault)
        → (IsDamage fault → LacksNeighbours g s (place_of oid) was.body.items) → IsTakingOutFault g s t (place_of oid) was.body.items fault
    taking_of oid was older fault v up (inl h) lacks = by_taking (subst (λ (p : Place). IsTakingFault (g.geometry s) (g.held s) (g.image s) (g.held t) (g.image t) p fault) v.read.at h)
    taking_of oid was older fault v up (inr h) lacks =
        let n = older_in (g.image s) oid was v (named_and seen was.head.older older (λ (p : Place). IsRecordFault p fault) up h) in
        unnamed n.at n.is n.holds lacks
