-- Current versions that are taken out.
use Rattle.std.proofs.Common.{◌≡◌, ◌≢◌, ℕ, Bool, true, false, List, [], ◌∷◌, ◌++◌, Option, Some, None, refl, sym, ap, subst, ◌∙◌, arith, inl}
use Rattle.std.specs.Prelude.{if◌then◌else◌, IfSome, filter, length, map, slice_index_or}
use Rattle.std.proofs.lemmas.Option.{same_Some}
use Rattle.ex_base.specs.declared.ground.Ground as ground
use Rattle.ex_base.specs.declared.names.Oid.{Oid}
use Rattle.ex_base.specs.declared.names.Place.{Place}
use Rattle.ex_base.specs.Ports.{Keeps}
use Rattle.ex_base.proofs.Filters.{in_kept}
use Rattle.ex_base.proofs.Members.{In}
use Rattle.object_records.specs.Record.{Record, BodyOf}
use Rattle.object_records.specs.Reads.{record_on}
use Rattle.object_records.specs.declared.Head.{Head}
use Rattle.object_records.specs.declared.State.TheVariants.{Current, Frozen}
use Rattle.object_records.proofs.RecordLaws.{record_read}
use Rattle.ex_base.specs.declared.names.Index.{Index}
use Rattle.file_bodies.specs.Bodies.{Row, bodies_of}
use Rattle.file_bodies.specs.Files.{HasFile, HasBody}
use Rattle.file_bodies.specs.Places.{RemovesBody}
use Rattle.versions.specs.Versions.{place_of}
use Rattle.version_tree.specs.Bodies.{EditsBodies, body_at, newer_head, with_head}
use Rattle.version_tree.specs.Copies.{IsFrozenIn, IsNamed, IsRead}
use Rattle.version_tree.specs.Linked.{derived_from, head_in, names_older, oid_of_row, oids_from, only_place}
use Rattle.version_tree.specs.Links.{StandsIn, StoredAt}
use Rattle.versions.specs.Put.{PutsRecord}
use Rattle.version_tree.specs.Removals.{IsBranch, IsLeaving, NamesLink, NamesNewer, NamesOther, NamesStored, TakesOut, leads_elsewhere, only_lead, only_other, other_from, stands_elsewhere}
use Rattle.version_tree.specs.declared.links.Stored.{Stored}
use Rattle.version_tree.proofs.BodiesEdited.{bodies_then, edit_puts, edit_removes, keeps_bodies, other_body}
use Rattle.version_tree.proofs.Copying.{no_edit, place_named}
use Rattle.versions.proofs.FileRows.{row_stands}
use Rattle.version_tree.proofs.Linking.{in_rows, only_row}
use Rattle.version_tree.proofs.Places.{body_there}

-- ---- the only other one

leads : (rows : List Row) → only_lead (map oid_of_row rows) ≡ only_place rows
leads [] = refl
leads (row ∷ []) = refl
leads (row ∷ next ∷ rows) = refl

one_more : (row : Row) (oids : List Oid) (rows : List Row) → oids ≡ map oid_of_row rows → (b : Bool) → (if b then oid_of_row row ∷ oids else oids) ≡ map oid_of_row (if b then row ∷ rows else rows)
one_more row oids rows is true = ap (λ (t : List Oid). oid_of_row row ∷ t) is
one_more row oids rows is false = is

elsewhere : (gone : Place) (rows : List Row) → filter (leads_elsewhere gone) (map oid_of_row rows) ≡ map oid_of_row (filter (stands_elsewhere gone) rows)
elsewhere gone [] = refl
elsewhere gone (row ∷ rows) = one_more row (filter (leads_elsewhere gone) (map oid_of_row rows)) (filter (stands_elsewhere gone) rows) (elsewhere gone rows) (stands_elsewhere gone row)

pub only_same : (gone from : Place) (rows : List Row) → only_lead (filter (leads_elsewhere gone) (oids_from from rows)) ≡ only_other gone (derived_from from rows)
only_same gone from rows = ap only_lead (elsewhere gone (derived_from from rows)) ∙ leads (filter (stands_elsewhere gone) (derived_from from rows))

-- ---- whether the version that one is derived from has others

pub branch_of : (rows : List Row) (link : Option Place) (older : Option Stored) → StoredAt rows link older → IfSome older (λ (stored : Stored). stored.head.newer ≡ None) → IsBranch rows link
branch_of rows None older at none = tt
branch_of rows (Some place) None at none = absurd at
branch_of rows (Some place) (Some stored) at none = record { body = at.body; there = at.there; many = ap (λ (h : Head). h.newer) (sym at.is.head) ∙ none }

pub branch_read : (rows : List Row) (link : Option Place) (older : Option Stored) → StoredAt rows link older → IsBranch rows link → IfSome older (λ (stored : Stored). stored.head.newer ≡ None)
branch_read rows None None at branch = tt
branch_read rows None (Some stored) at branch = absurd (let e : Some stored ≡ None = at in cc)
branch_read rows (Some place) None at branch = absurd at
branch_read rows (Some place) (Some stored) at branch =
    ap (λ (h : Head). h.newer) (at.is.head ∙ ap head_in (same_Some at.body branch.body (sym at.there ∙ branch.there))) ∙ branch.many

-- ---- where the only one of OIDs leads

pub many_lead : (oids : List Oid) → length oids ≢ 1 → only_lead oids ≡ None
many_lead [] many = refl
many_lead (oid ∷ []) many = absurd (many refl)
many_lead (oid ∷ next ∷ oids) many = refl

pub one_lead : (oids : List Oid) (other : Oid) → length oids ≡ 1 → only_lead oids ≡ Some (place_of (slice_index_or oids 0 other))
one_lead [] other one = absurd cc
one_lead (oid ∷ []) other one = refl
one_lead (oid ∷ next ∷ oids) other one = absurd (omega (arith, one))

module _ {S : Type 0} (g : ground.Ghosts S) where
  -- the only other one has a place that can be named
  other_place : (s : S) (index : Index) (gone from : Place) (other : Option Place) → HasFile g s index → other ≡ only_other gone (derived_from from (bodies_of (g.image s) index)) → IsNamed other
  other_place s index gone from None file is = tt
  other_place s index gone from (Some at) file is =
      let rows : List Row = bodies_of (g.image s) index in
      let one = only_row (filter (stands_elsewhere gone) (derived_from from rows)) at (sym is) in
      let kept = in_kept (stands_elsewhere gone) (derived_from from rows) (at, one.body) (subst (In {A = Row} (at, one.body)) (sym one.is) (inl refl)) in
      let row = in_kept (names_older from) rows (at, one.body) kept.0 in
      place_named g s index at one.body (row_stands g s index at one.body file (in_rows (at, one.body) rows row.0))

  pub other_named : (s : S) (index : Index) (gone : Place) (older : Option Stored) (other : Option Place) → HasFile g s index → other ≡ other_from (bodies_of (g.image s) index) gone older → IsNamed other
  other_named s index gone None other file is = subst IsNamed (sym is) tt
  other_named s index gone (Some stored) other file is = other_place s index gone stored.place other file is

  -- ---- a newer place that is given

  pub none_named : (s : S) (index : Index) (stored : Stored) → StandsIn g s index stored → NamesStored g s s index stored None
  none_named s index stored stands = record { changes = []; named = refl; bodies = no_edit g s index stands.has.file }

  pub one_named : (a b : S) (index : Index) (stored : Stored) (at : Place) (head : Head) → head ≡ newer_head (Some at) stored.head → (stands : StandsIn g a index stored)
      → PutsRecord g a b index stored.place stored.body.items (with_head head stands.is) → NamesStored g a b index stored (Some at)
  one_named a b index stored at head is stands put =
      let read : record_on stored.body.items ≡ stands.is = record_read stored.body.items stands.is stands.spelled in
      let heads : stored.head ≡ head_in stored.body.items = stands.head ∙ sym (ap (λ (r : Record). r.head) read) in
      record {
        changes = (stored.place, Some put.body) ∷ [];
        named = record {
          now = put.body;
          spelled = subst (λ (r : Record). BodyOf put.body (with_head (newer_head (Some at) (head_in stored.body.items)) r)) (sym read)
              (subst (λ (h : Head). BodyOf put.body (with_head h stands.is)) (is ∙ ap (newer_head (Some at)) heads) put.spelled);
          is = refl;
        };
        bodies = edit_puts g a b index index stored.place (Some stored.body.items) put.body put.edit;
      }

  pub none_other : (s : S) (index : Index) (rows : List Row) (link : Option Place) (gone : Place) → HasFile g s index → StoredAt rows link None → NamesOther g s s index rows link gone
  none_other s index rows None gone file at = record { changes = []; named = refl; bodies = no_edit g s index file }
  none_other s index rows (Some place) gone file at = absurd at

  pub named_other : (a b : S) (index : Index) (rows : List Row) (link : Option Place) (gone : Place) (stored : Stored) (newer : Option Place) → StoredAt rows link (Some stored) → newer ≡ other_from rows gone (Some stored)
      → NamesStored g a b index stored newer → NamesOther g a b index rows link gone
  named_other a b index rows None gone stored newer at is t = absurd (let e : Some stored ≡ None = at in cc)
  named_other a b index rows (Some place) gone stored newer at is t = record {
    changes = t.changes;
    named = record {
      body = at.body;
      there = at.there;
      named = subst (λ (n : Option Place). NamesNewer place at.body n t.changes) (is ∙ ap (λ (p : Place). only_other gone (derived_from p rows)) at.is.stands)
          (subst (λ (p : Place). NamesNewer p at.body newer t.changes) at.is.stands (subst (λ (body : List ℕ). NamesNewer stored.place body newer t.changes) at.is.bytes t.named));
    };
    bodies = t.bodies;
  }

  -- ---- a version that goes

  current_apart : (s : S) (index : Index) (was stored : Stored) (is : Record) → HasBody g s index was.place was.body.items → BodyOf was.body.items is → is.head.state ≡ Current → IsFrozenIn g s index stored → was.place ≢ stored.place
  current_apart s index was stored is has spelled current frozen same =
      let here = body_there g s index was.place was.body.items has in
      let there = body_there g s index stored.place stored.body.items frozen.stands.has in
      let bodies : was.body.items ≡ stored.body.items = same_Some was.body.items stored.body.items (sym here ∙ subst (λ (p : Place). body_at p (bodies_of (g.image s) index) ≡ Some stored.body.items) (sym same) there) in
      let w : record_on was.body.items ≡ is = record_read was.body.items is spelled in
      let r : record_on stored.body.items ≡ frozen.stands.is = record_read stored.body.items frozen.stands.is frozen.stands.spelled in
      let heads : stored.head ≡ is.head = frozen.stands.head ∙ sym (ap (λ (r : Record). r.head) r) ∙ sym (ap head_in bodies) ∙ ap (λ (r : Record). r.head) w in
      let e : Frozen ≡ Current = sym frozen.frozen ∙ ap (λ (h : Head). h.state) heads ∙ current in
      cc

  stays_behind : (a b : S) (index mid : Index) (was : Stored) (is : Record) (older : Option Stored) → HasBody g a index was.place was.body.items → BodyOf was.body.items is → is.head.state ≡ Current
      → EditsBodies g a b index mid ((was.place, None) ∷ []) → IfSome older (IsFrozenIn g a index) → IfSome older (IsFrozenIn g b mid)
  stays_behind a b index mid was is None has spelled current e frozen = tt
  stays_behind a b index mid was is (Some stored) has spelled current e frozen = record {
    stands = record {
      has = other_body g a b index mid was.place None stored.place stored.body.items e (current_apart a index was stored is has spelled current frozen) frozen.stands.has;
      is = frozen.stands.is;
      spelled = frozen.stands.spelled;
      head = frozen.stands.head;
    };
    frozen = frozen.frozen;
  }

  module _ (a b : S) (index : Index) (was : Stored) (older : Option Stored) (other : Option Place) (is : Record) (m : IsLeaving g a index was older other is) (gone : RemovesBody g a b index was.place was.body.items) where
    gone_bodies : EditsBodies g a b index gone.after ((was.place, None) ∷ [])
    gone_bodies = edit_removes g a b index gone.after was.place was.body.items m.read.has.file gone.edit

    pub left_stays : IfSome older (IsFrozenIn g b gone.after)
    left_stays = stays_behind a b index gone.after was is older m.read.has m.read.spelled m.current gone_bodies m.read.frozen

    pub left_named : IsNamed other
    left_named = other_named a index was.place older other m.read.has.file m.left

    pub takes : (e : S) → NamesOther g b e gone.after (bodies_of (g.image a) index) is.head.older was.place → TakesOut g a e index was.place is
    takes e named = record {
      after = gone.after;
      others = named.changes;
      older = named.named;
      bodies = bodies_then g a b e index gone.after gone.after ((was.place, None) ∷ []) named.changes gone_bodies named.bodies;
    }

  pub kept_takes : (a d e : S) (index : Index) (at place : Place) (is : Record) → at ≡ place → Keeps g a d → TakesOut g d e index at is → TakesOut g a e index place is
  kept_takes a d e index at place is same kept f = subst (λ (p : Place). TakesOut g a e index p is) same (record {
    after = f.after;
    others = f.others;
    older = subst (λ (i : ℕ → List ℕ). NamesLink (bodies_of i index) at is.head.older f.others) kept.images f.older;
    bodies = keeps_bodies g a d e index f.after (f.others ++ (at, None) ∷ []) kept f.bodies;
  })

  pub leaving_of : (s : S) (index : Index) (was : Stored) (older : Option Stored) (other : Option Place) (is : Record) → IsRead g s index was older is → is.head.state ≡ Current → other ≡ other_from (bodies_of (g.image s) index) was.place older
      → IsLeaving g s index was older other is
  leaving_of s index was older other is read current left = record { read = read; current = current; left = left }
