-- Versions that are copied, and links that turn to the copies.
use Rattle.std.proofs.Common.{◌≡◌, ◌≢◌, ◌≤◌, ◌+◌, ℕ, List, [], ◌∷◌, ◌++◌, length, Option, Some, None, refl, sym, ap, subst, ◌∙◌, arith}
use Rattle.std.specs.Prelude.{IfSome, IsSome}
use Rattle.std.proofs.lemmas.Option.{same_Some}
use Rattle.ex_base.specs.declared.ground.Ground as ground
use Rattle.ex_base.specs.declared.geometry.Geometry.{Geometry}
use Rattle.ex_base.specs.declared.names.Oid.{Oid}
use Rattle.ex_base.specs.declared.names.Place.{Place}
use Rattle.ex_base.specs.Area.{catalog_no}
use Rattle.ex_base.specs.Fields.{IsPlaceField}
use Rattle.ex_base.specs.Ports.{Keeps}
use Rattle.ex_base.proofs.Counts.{contains_times}
use Rattle.object_files.specs.Reads.{catalog_on}
use Rattle.object_files.specs.Edits.{with_entries}
use Rattle.object_records.specs.Record.{Record, BodyOf, NewerFits}
use Rattle.object_records.specs.Reads.{record_on}
use Rattle.object_records.specs.declared.Head.{Head}
use Rattle.object_records.specs.declared.State.{State}
use Rattle.object_records.specs.declared.State.TheVariants.{Current, Frozen}
use Rattle.object_records.proofs.RecordLaws.{record_read}
use Rattle.ex_base.specs.declared.names.Index.{Index}
use Rattle.file_index.proofs.Counts.{changes_same}
use Rattle.file_bodies.specs.Bodies.{Row, bodies_of, pages_in}
use Rattle.file_bodies.specs.Files.{HasFile, HasBody, all_pages}
use Rattle.file_bodies.proofs.Entries.{indexed_stays}
use Rattle.file_bodies.proofs.Moving.{kept_body, lies}
use Rattle.versions.specs.Versions.{place_of}
use Rattle.file_bodies.proofs.Ordered.{ordered}
use Rattle.versions.specs.Listed.{oid_at}
use Rattle.version_tree.specs.Bodies.{EditsBodies, body_at, derived_head, frozen_head, newer_head, older_head, with_head}
use Rattle.version_tree.specs.Copies.{CopiesRecord, Derives, Freezes, IsFrozenIn, IsHead, IsNamed, IsRead, IsVersionIn, UnlinksIn, Turns, turns, stays, TurnsLink, TurnsOlder, TurnsStored, had_none, had_one}
use Rattle.version_tree.specs.Linked.{AreLinked, head_in}
use Rattle.version_tree.specs.Links.{IsStored, StandsIn, StoredAt}
use Rattle.versions.specs.Put.{PutsRecord}
use Rattle.version_tree.specs.declared.links.Stored.{Stored}
use Rattle.version_tree.proofs.BodiesEdited.{edit_puts, bodies_then, keeps_bodies, other_body}
use Rattle.version_tree.proofs.Linking.{head_read, older_at, stands_in}
use Rattle.versions.proofs.FileRows.{edit_stands}
use Rattle.version_tree.proofs.Places.{was_vacant, body_there}

pub named_field : (link : Option Place) → IsPlaceField link → IsNamed link
named_field None h = tt
named_field (Some place) h = h.0

not_both : (head : Head) → head.state ≡ Frozen → head.state ≡ Current → ⊥
not_both head frozen current = let e : Frozen ≡ Current = sym frozen ∙ current in cc

module _ {S : Type 0} (g : ground.Ghosts S) where
  -- a place where a body stands isn't the one of zeros
  pub place_named : (s : S) (index : Index) (place : Place) (body : List ℕ) → HasBody g s index place body → IsNamed (Some place)
  place_named s index place body has = omega (arith, (lies g s index place.page.0 has.file (contains_times place.page.0 (pages_in (g.image s) index) has.named)).0.0)

  pub copy_named : (a b : S) (index : Index) (place : Place) (is : Record) → CopiesRecord g a b index place is → IsNamed (Some place)
  copy_named a b index place is c = place_named b c.puts.after place c.body (edit_stands g a b index c.puts.after place None c.body c.puts.edit)

  -- nothing changes
  pub no_edit : (s : S) (index : Index) → HasFile g s index → EditsBodies g s s index index []
  no_edit s index file = record {
    file = file;
    same_file = refl;
    bodies = λ place. refl;
    catalog = sym (ap (with_entries (catalog_on (g.image s catalog_no))) (indexed_stays (catalog_on (g.image s catalog_no)).entries index file.catalog.whole.fits.numbers file.entry));
    pages = changes_same g s (catalog_no ∷ all_pages (g.image s) index);
  }

  -- ---- a link that turns

  pub none_turned : (s : S) (index : Index) (stored : Stored) (from to : Place) → (stored.head.newer ≡ Some from → ⊥) → StandsIn g s index stored → TurnsStored g s s index stored from to
  none_turned s index stored from to never stands = record {
    changes = [];
    turned = stays (λ is. never (ap (λ (h : Head). h.newer) (stands.head ∙ sym (ap (λ (r : Record). r.head) (record_read stored.body.items stands.is stands.spelled))) ∙ is));
    bodies = no_edit s index stands.has.file;
  }

  pub one_turned : (a b : S) (index : Index) (stored : Stored) (from to : Place) (head : Head) → head ≡ newer_head (Some to) stored.head → stored.head.newer ≡ Some from → (stands : StandsIn g a index stored)
      → PutsRecord g a b index stored.place stored.body.items (with_head head stands.is) → TurnsStored g a b index stored from to
  one_turned a b index stored from to head is some stands put =
      let read : record_on stored.body.items ≡ stands.is = record_read stored.body.items stands.is stands.spelled in
      let heads : stored.head ≡ head_in stored.body.items = stands.head ∙ sym (ap (λ (r : Record). r.head) read) in
      record {
        changes = (stored.place, Some put.body) ∷ [];
        turned = turns put.body (sym (ap (λ (h : Head). h.newer) heads) ∙ some)
            (subst (λ (r : Record). BodyOf put.body (with_head (newer_head (Some to) (head_in stored.body.items)) r)) (sym read)
            (subst (λ (h : Head). BodyOf put.body (with_head h stands.is)) (is ∙ ap (newer_head (Some to)) heads) put.spelled));
        bodies = edit_puts g a b index index stored.place (Some stored.body.items) put.body put.edit;
      }

  -- a head that is written again
  pub turned_head : (s : S) (index : Index) (stored : Stored) (to : Place) → IsFrozenIn g s index stored → IsNamed (Some to) → IsHead (newer_head (Some to) stored.head)
  turned_head s index stored to frozen named = record {
    older = subst (λ (h : Head). IsNamed h.older) (sym frozen.stands.head) (named_field frozen.stands.is.head.older frozen.stands.spelled.fits.older);
    newer = named;
    fits = fits_frozen stored.head.state frozen.frozen;
  }
    where
      fits_frozen : (state : State) → state ≡ Frozen → NewerFits state (Some to)
      fits_frozen Current is = absurd cc
      fits_frozen Frozen is = tt

  pub turned_older : (a b : S) (index : Index) (rows : List Row) (link : Option Place) (stored : Stored) (from to : Place) → StoredAt rows link (Some stored) → TurnsStored g a b index stored from to → TurnsOlder g a b index rows link from to
  turned_older a b index rows None stored from to at t = absurd (let e : Some stored ≡ None = at in cc)
  turned_older a b index rows (Some place) stored from to at t = record {
    changes = t.changes;
    turned = record {
      body = at.body;
      there = at.there;
      turned = subst (λ (p : Place). Turns p at.body from to t.changes) at.is.stands (subst (λ (body : List ℕ). Turns stored.place body from to t.changes) at.is.bytes t.turned);
    };
    bodies = t.bodies;
  }

  pub none_older : (s : S) (index : Index) (rows : List Row) (link : Option Place) (from to : Place) → HasFile g s index → StoredAt rows link None → TurnsOlder g s s index rows link from to
  none_older s index rows None from to file at = record { changes = []; turned = refl; bodies = no_edit s index file }
  none_older s index rows (Some place) from to file at = absurd at

  -- ---- the copy stands

  -- what stood elsewhere still does
  copied_other : (a b : S) (index : Index) (place : Place) (is : Record) (c : CopiesRecord g a b index place is) (at : Place) (body : List ℕ) → HasBody g a index at body → (place ≢ at) × HasBody g b c.puts.after at body
  copied_other a b index place is c at body has = (apart, other_body g a b index c.puts.after place (Some c.body) at body (edit_puts g a b index c.puts.after place None c.body c.puts.edit) apart has)
    where
      apart : place ≢ at
      apart same =
          let vacant = was_vacant (bodies_of (g.image a) index) (bodies_of (g.image b) c.puts.after) place c.body (ordered g b c.puts.after c.puts.edit.file) c.puts.edit.bodies in
          let there = body_there g a index at body has in
          let e : None ≡ Some body = sym (subst (λ (p : Place). body_at p (bodies_of (g.image a) index) ≡ None) same vacant) ∙ there in cc

  copied_bodies : (a b : S) (index : Index) (place : Place) (is : Record) (c : CopiesRecord g a b index place is) → EditsBodies g a b index c.puts.after ((place, Some c.body) ∷ [])
  copied_bodies a b index place is c = edit_puts g a b index c.puts.after place None c.body c.puts.edit

  copied_vacant : (a b : S) (index : Index) (place : Place) (is : Record) (c : CopiesRecord g a b index place is) → body_at place (bodies_of (g.image a) index) ≡ None
  copied_vacant a b index place is c = was_vacant (bodies_of (g.image a) index) (bodies_of (g.image b) c.puts.after) place c.body (ordered g b c.puts.after c.puts.edit.file) c.puts.edit.bodies

  -- a record that was read stands behind the copy
  pub copied_stands : (a b : S) (index : Index) (place : Place) (is : Record) (c : CopiesRecord g a b index place is) (stored : Stored) → HasBody g a index stored.place stored.body.items → HasBody g b c.puts.after stored.place stored.body.items
  copied_stands a b index place is c stored has = (copied_other a b index place is c stored.place stored.body.items has).1

  -- a frozen record that was read stands behind a current one that is written
  frozen_other : (a b : S) (index : Index) (was : Stored) (now : Record) (stored : Stored) → was.head.state ≡ Current → PutsRecord g a b index was.place was.body.items now → HasBody g a index was.place was.body.items → BodyOf was.body.items (record { head = was.head; content = now.content })
      → IsFrozenIn g a index stored → IsFrozenIn g b index stored
  frozen_other a b index was now stored current put has spelled frozen = record {
    stands = record {
      has = other_body g a b index index was.place (Some put.body) stored.place stored.body.items (edit_puts g a b index index was.place (Some was.body.items) put.body put.edit) apart frozen.stands.has;
      is = frozen.stands.is;
      spelled = frozen.stands.spelled;
      head = frozen.stands.head;
    };
    frozen = frozen.frozen;
  }
    where
      apart : was.place ≢ stored.place
      apart same =
          let here = body_there g a index was.place was.body.items has in
          let there = body_there g a index stored.place stored.body.items frozen.stands.has in
          let bodies : was.body.items ≡ stored.body.items = same_Some was.body.items stored.body.items (sym here ∙ subst (λ (p : Place). body_at p (bodies_of (g.image a) index) ≡ Some stored.body.items) (sym same) there) in
          let w : record_on was.body.items ≡ record { head = was.head; content = now.content } = record_read was.body.items (record { head = was.head; content = now.content }) spelled in
          let s : record_on stored.body.items ≡ frozen.stands.is = record_read stored.body.items frozen.stands.is frozen.stands.spelled in
          let heads : stored.head ≡ was.head = frozen.stands.head ∙ sym (ap (λ (r : Record). r.head) s) ∙ sym (ap head_in bodies) ∙ ap (λ (r : Record). r.head) w in
          not_both stored.head frozen.frozen (ap (λ (h : Head). h.state) heads ∙ current)

  frozen_both : (a b d : S) (index : Index) (place : Place) (copy now : Record) (c : CopiesRecord g a b index place copy) (was : Stored) (older : Option Stored) → was.head.state ≡ Current → HasBody g a index was.place was.body.items
      → BodyOf was.body.items (record { head = was.head; content = now.content }) → PutsRecord g b d c.puts.after was.place was.body.items now → IfSome older (IsFrozenIn g a index) → IfSome older (IsFrozenIn g d c.puts.after)
  frozen_both a b d index place copy now c was None current has spelled put frozen = tt
  frozen_both a b d index place copy now c was (Some stored) current has spelled put frozen =
      frozen_other b d c.puts.after was now stored current put (copied_stands a b index place copy c was has) spelled
      (record { stands = record { has = copied_stands a b index place copy c stored frozen.stands.has; is = frozen.stands.is; spelled = frozen.stands.spelled; head = frozen.stands.head }; frozen = frozen.frozen })

  pub just_stand : (s : S) (index : Index) (older : Option Stored) → IfSome older (IsFrozenIn g s index) → IfSome older (StandsIn g s index)
  just_stand s index None frozen = tt
  just_stand s index (Some stored) frozen = frozen.stands

  -- ---- a version that is frozen

  module _ (a b : S) (index : Index) (was : Stored) (older : Option Stored) (is : Record) (read : IsRead g a index was older is) (current : is.head.state ≡ Current) (unique : ℕ) (place : Place) where
    was_current : was.head.state ≡ Current
    was_current = ap (λ (h : Head). h.state) read.head ∙ current

    was_spelled : BodyOf was.body.items (record { head = was.head; content = is.content })
    was_spelled = subst (λ (h : Head). BodyOf was.body.items (record { head = h; content = is.content })) (sym read.head) read.spelled

    -- the heads that are written are heads of records
    pub copy_head : IsHead (frozen_head unique was.place was.head)
    copy_head = record {
      older = subst (λ (h : Head). IsNamed h.older) (sym read.head) (named_field is.head.older read.spelled.fits.older);
      newer = place_named a index was.place was.body.items read.has;
      fits = tt;
    }

    pub moved_head : IsNamed (Some place) → IsHead (older_head (Some place) was.head)
    moved_head named = record {
      older = named;
      newer = subst (λ (h : Head). IsNamed h.newer) (sym read.head) (named_field is.head.newer read.spelled.fits.newer);
      fits = subst (λ (h : Head). NewerFits h.state h.newer) (sym read.head) read.spelled.fits.newer_fits;
    }

    module _ (copied : CopiesRecord g a b index place (with_head (frozen_head unique was.place was.head) is)) (d : S) (put : PutsRecord g b d copied.puts.after was.place was.body.items (with_head (older_head (Some place) was.head) is)) where
      pub older_frozen : IfSome older (IsFrozenIn g d copied.puts.after)
      older_frozen = frozen_both a b d index place (with_head (frozen_head unique was.place was.head) is) (with_head (older_head (Some place) was.head) is) copied was older was_current read.has was_spelled put read.frozen

      pub froze : (e : S) → TurnsOlder g d e copied.puts.after (bodies_of (g.image a) index) is.head.older was.place place → Freezes g a e index was.place is (oid_at place unique)
      froze e turned =
          let moved = edit_puts g b d copied.puts.after copied.puts.after was.place (Some was.body.items) put.body put.edit in
          let both = bodies_then g a b d index copied.puts.after copied.puts.after ((place, Some copied.body) ∷ []) ((was.place, Some put.body) ∷ []) (copied_bodies a b index place (with_head (frozen_head unique was.place was.head) is) copied) moved in
          record {
            after = copied.puts.after;
            vacant = copied_vacant a b index place (with_head (frozen_head unique was.place was.head) is) copied;
            copy = copied.body;
            copied = subst (λ (h : Head). BodyOf copied.body (with_head (frozen_head unique was.place h) is)) read.head copied.spelled;
            moved = put.body;
            moves = subst (λ (h : Head). BodyOf put.body (with_head (older_head (Some place) h) is)) read.head put.spelled;
            others = turned.changes;
            older = turned.turned;
            bodies = bodies_then g a d e index copied.puts.after copied.puts.after ((was.place, Some put.body) ∷ (place, Some copied.body) ∷ []) turned.changes both turned.bodies;
          }

  -- ---- what was read of a version and its older one

  older_read : (b d : S) (index : Index) (place : Place) (body : List ℕ) (head : Head) (link : Option Place) (older : Option Stored) → AreLinked g b → Keeps g b d → HasBody g b index place body → head ≡ head_in body → head.older ≡ link
      → StoredAt (bodies_of (g.image b) index) link older → IfSome older (IsFrozenIn g d index)
  older_read b d index place body head link None linked kept has same is at = tt
  older_read b d index place body head None (Some stored) linked kept has same is at = absurd cc
  older_read b d index place body head (Some p) (Some stored) linked kept has same is at =
      let o = older_at g b index place body head p linked has same is in
      let bodies : o.body ≡ at.body = same_Some o.body at.body (sym o.there ∙ at.there) in
      let stands = subst (λ (t : List ℕ). HasBody g b index p t) bodies o.has in
      record {
        stands = stands_in g b d index p at.body o.is stored kept stands (subst (λ (t : List ℕ). BodyOf t o.is) bodies o.spelled) at.is;
        frozen = ap (λ (h : Head). h.state) (at.is.head ∙ sym (ap head_in bodies)) ∙ o.frozen;
      }

  pub read_of : (b d : S) (index : Index) (place : Place) (body : List ℕ) (is : Record) (was : Stored) (older : Option Stored) → AreLinked g b → Keeps g b d → HasBody g b index place body → BodyOf body is → IsStored was place body
      → length body + 20 ≤ (g.geometry b).page_size → StoredAt (bodies_of (g.image b) index) was.head.older older → IsRead g d index was older is
  read_of b d index place body is was older linked kept has spelled at fits stored = record {
    has = subst (λ (p : Place). HasBody g d index p was.body.items) (sym at.stands) (subst (λ (t : List ℕ). HasBody g d index place t) (sym at.bytes) (kept_body g b d index place body kept has));
    spelled = subst (λ (t : List ℕ). BodyOf t is) (sym at.bytes) spelled;
    head = head_read g body is was.head spelled at.head;
    fits = subst (λ (y : Geometry). length was.body.items + 20 ≤ y.page_size) (sym (g.leads_geometry b d kept.leads)) (omega (arith, fits, ap (λ (t : List ℕ). length t) at.bytes));
    link = subst (λ (f : ℕ → List ℕ). StoredAt (bodies_of f index) is.head.older older) (sym kept.images)
        (subst (λ (h : Head). StoredAt (bodies_of (g.image b) index) h.older older) (head_read g body is was.head spelled at.head) stored);
    frozen = older_read b d index place body was.head was.head.older older linked kept has at.head refl stored;
  }

  pub kept_freezes : (a d e : S) (index : Index) (at place : Place) (is : Record) (made : Oid) → at ≡ place → Keeps g a d → Freezes g d e index at is made → Freezes g a e index place is made
  kept_freezes a d e index at place is made same kept f = subst (λ (p : Place). Freezes g a e index p is made) same (record {
    after = f.after;
    vacant = subst (λ (i : ℕ → List ℕ). body_at (place_of made) (bodies_of i index) ≡ None) kept.images f.vacant;
    copy = f.copy;
    copied = f.copied;
    moved = f.moved;
    moves = f.moves;
    others = f.others;
    older = subst (λ (i : ℕ → List ℕ). TurnsLink (bodies_of i index) at (place_of made) is.head.older f.others) kept.images f.older;
    bodies = keeps_bodies g a d e index f.after (f.others ++ (at, Some f.moved) ∷ (place_of made, Some f.copy) ∷ []) kept f.bodies;
  })

  -- ---- a version that another is derived from

  pub version_in : (a b : S) (index : Index) (place : Place) (body : List ℕ) (is : Record) (was : Stored) → Keeps g a b → HasBody g a index place body → BodyOf body is → IsStored was place body → length body + 20 ≤ (g.geometry a).page_size → IsVersionIn g b index was is
  version_in a b index place body is was kept has spelled at fits = record {
    has = subst (λ (p : Place). HasBody g b index p was.body.items) (sym at.stands) (subst (λ (t : List ℕ). HasBody g b index place t) (sym at.bytes) (kept_body g a b index place body kept has));
    spelled = subst (λ (t : List ℕ). BodyOf t is) (sym at.bytes) spelled;
    head = head_read g body is was.head spelled at.head;
    fits = subst (λ (y : Geometry). length was.body.items + 20 ≤ y.page_size) (sym (g.leads_geometry a b kept.leads)) (omega (arith, fits, ap (λ (t : List ℕ). length t) at.bytes));
  }

  pub copied_version : (a b : S) (index : Index) (place : Place) (copy is : Record) (c : CopiesRecord g a b index place copy) (was : Stored) → g.leads a b → IsVersionIn g a index was is → IsVersionIn g b c.puts.after was is
  copied_version a b index place copy is c was leads v = record {
    has = copied_stands a b index place copy c was v.has;
    spelled = v.spelled;
    head = v.head;
    fits = subst (λ (y : Geometry). length was.body.items + 20 ≤ y.page_size) (sym (g.leads_geometry a b leads)) v.fits;
  }

  pub derived_fits : (s : S) (index : Index) (was : Stored) (is : Record) (unique : ℕ) → IsVersionIn g s index was is → IsHead (derived_head unique was.place)
  derived_fits s index was is unique v = record { older = place_named s index was.place was.body.items v.has; newer = tt; fits = refl }

  -- the heads of a version's frozen copy, and of the version behind it
  pub frozen_fits : (s : S) (index : Index) (was : Stored) (is : Record) (unique : ℕ) → IsVersionIn g s index was is → IsHead (frozen_head unique was.place was.head)
  frozen_fits s index was is unique v = record {
    older = subst (λ (h : Head). IsNamed h.older) (sym v.head) (named_field is.head.older v.spelled.fits.older);
    newer = place_named s index was.place was.body.items v.has;
    fits = tt;
  }

  pub behind_fits : (s : S) (index : Index) (was : Stored) (is : Record) (place : Place) → IsVersionIn g s index was is → IsNamed (Some place) → IsHead (older_head (Some place) was.head)
  behind_fits s index was is place v named = record {
    older = named;
    newer = subst (λ (h : Head). IsNamed h.newer) (sym v.head) (named_field is.head.newer v.spelled.fits.newer);
    fits = subst (λ (h : Head). NewerFits h.state h.newer) (sym v.head) v.spelled.fits.newer_fits;
  }

  pub alone_fits : (s : S) (index : Index) (was : Stored) (is : Record) → IsVersionIn g s index was is → IsHead (newer_head None was.head)
  alone_fits s index was is v = record {
    older = subst (λ (h : Head). IsNamed h.older) (sym v.head) (named_field is.head.older v.spelled.fits.older);
    newer = tt;
    fits = fits_none was.head.state;
  }
    where
      fits_none : (state : State) → NewerFits state None
      fits_none Current = refl
      fits_none Frozen = tt

  pub not_linked : (s : S) (index : Index) (was : Stored) (is : Record) → was.head.newer ≡ None → IsVersionIn g s index was is → UnlinksIn g s s index was.place is
  not_linked s index was is none v = record {
    changes = [];
    unlinked = had_none (ap (λ (h : Head). h.newer) (sym v.head) ∙ none);
    bodies = no_edit s index v.has.file;
  }

  pub unlinked_one : (a b : S) (index : Index) (was : Stored) (is : Record) → IsSome was.head.newer → IsVersionIn g a index was is → PutsRecord g a b index was.place was.body.items (with_head (newer_head None was.head) is) → UnlinksIn g a b index was.place is
  unlinked_one a b index was is some v put = record {
    changes = (was.place, Some put.body) ∷ [];
    unlinked = had_one put.body (subst (λ (h : Head). IsSome h.newer) v.head some) (subst (λ (h : Head). BodyOf put.body (with_head (newer_head None h) is)) v.head put.spelled);
    bodies = edit_puts g a b index index was.place (Some was.body.items) put.body put.edit;
  }

  pub derived_one : (a b e : S) (index : Index) (was : Stored) (is : Record) (unique : ℕ) (place : Place) (c : CopiesRecord g a b index place (with_head (derived_head unique was.place) is))
      → UnlinksIn g b e c.puts.after was.place is → Derives g a e index was.place is (oid_at place unique)
  derived_one a b e index was is unique place c u = record {
    after = c.puts.after;
    vacant = copied_vacant a b index place (with_head (derived_head unique was.place) is) c;
    copy = c.body;
    copied = c.spelled;
    others = u.changes;
    older = u.unlinked;
    bodies = bodies_then g a b e index c.puts.after c.puts.after ((place, Some c.body) ∷ []) u.changes (copied_bodies a b index place (with_head (derived_head unique was.place) is) c) u.bodies;
  }

  pub kept_derives : (a d e : S) (index : Index) (at place : Place) (is : Record) (made : Oid) → at ≡ place → Keeps g a d → Derives g d e index at is made → Derives g a e index place is made
  kept_derives a d e index at place is made same kept f = subst (λ (p : Place). Derives g a e index p is made) same (record {
    after = f.after;
    vacant = subst (λ (i : ℕ → List ℕ). body_at (place_of made) (bodies_of i index) ≡ None) kept.images f.vacant;
    copy = f.copy;
    copied = f.copied;
    others = f.others;
    older = f.older;
    bodies = keeps_bodies g a d e index f.after (f.others ++ (place_of made, Some f.copy) ∷ []) kept f.bodies;
  })
