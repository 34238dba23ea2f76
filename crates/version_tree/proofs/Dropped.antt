-- Versions that are taken out.
use Rattle.std.proofs.Common.{◌≡◌, ◌≢◌, ◌≤◌, ◌<◌, ◌+◌, ℕ, List, [], ◌∷◌, ◌++◌, length, Option, Some, None, refl, sym, ap, subst, ◌∙◌, arith}
use Rattle.std.specs.Prelude.{IfSome, IsSome}
use Rattle.std.proofs.lemmas.Option.{same_Some}
use Rattle.ex_base.specs.declared.ground.Ground as ground
use Rattle.ex_base.specs.declared.names.Place.{Place}
use Rattle.ex_base.specs.Ports.{Keeps}
use Rattle.object_records.specs.Record.{Record, BodyOf, NewerFits}
use Rattle.object_records.specs.Reads.{record_on}
use Rattle.object_records.specs.declared.Head.{Head}
use Rattle.object_records.specs.declared.State.TheVariants.{Frozen}
use Rattle.object_records.proofs.RecordLaws.{record_read}
use Rattle.ex_base.specs.declared.names.Index.{Index}
use Rattle.file_bodies.specs.Bodies.{Row, bodies_of}
use Rattle.file_bodies.specs.Files.{HasBody}
use Rattle.file_bodies.specs.Places.{RemovesBody}
use Rattle.version_tree.specs.Bodies.{EditsBodies, body_at, older_head, with_head}
use Rattle.version_tree.specs.Copies.{IsFrozenIn, IsHead, IsNamed, TurnsLink, TurnsOlder}
use Rattle.version_tree.specs.Linked.{AreLinked, head_in}
use Rattle.version_tree.specs.Links.{IsStored, StandsIn, StoredAt}
use Rattle.versions.specs.Put.{PutsRecord}
use Rattle.version_tree.specs.Removals.{Drops, IsBetween}
use Rattle.version_tree.specs.declared.links.Stored.{Stored}
use Rattle.version_tree.proofs.BodiesEdited.{edit_puts, edit_removes, bodies_then, keeps_bodies, other_body}
use Rattle.version_tree.proofs.Copying.{named_field, place_named, read_of}
use Rattle.version_tree.proofs.Linking.{NewerAt, OlderAt, newer_at, older_at, stands_in}
use Rattle.version_tree.proofs.Places.{body_there}

module _ {S : Type 0} (g : ground.Ghosts S) where
  -- two bodies at places that are equal
  one_place : (s : S) (index : Index) (p q : Place) (a b : List ℕ) → p ≡ q → HasBody g s index p a → HasBody g s index q b → a ≡ b
  one_place s index p q a b same at_a at_b =
      same_Some a b (sym (body_there g s index p a at_a) ∙ subst (λ (t : Place). body_at t (bodies_of (g.image s) index) ≡ Some b) (sym same) (body_there g s index q b at_b))

  -- ---- what was read

  newer_apart : (s : S) (index : Index) (place : Place) (body : List ℕ) (head : Head) (at : Place) → HasBody g s index place body → head ≡ head_in body → head.state ≡ Frozen → NewerAt g s index place head at → place ≢ at
  newer_apart s index place body head at has same frozen n e =
      let bodies : body ≡ n.body = one_place s index place at body n.body e has n.has in
      let heads : head ≡ head_in n.body = same ∙ ap head_in bodies in
      let higher : head.unique < (head_in n.body).unique = n.higher (ap (λ (h : Head). h.state) (sym heads) ∙ frozen) in
      omega (arith, higher, ap (λ (h : Head). h.unique) heads)

  older_apart : (s : S) (index : Index) (place : Place) (body : List ℕ) (head : Head) (at : Place) → HasBody g s index place body → head ≡ head_in body → head.state ≡ Frozen → OlderAt g s index head at → place ≢ at
  older_apart s index place body head at has same frozen o e =
      let bodies : body ≡ o.body = one_place s index place at body o.body e has o.has in
      let heads : head ≡ head_in o.body = same ∙ ap head_in bodies in
      omega (arith, o.lower frozen, ap (λ (h : Head). h.unique) heads)

  both_apart : (s : S) (index : Index) (place : Place) (head : Head) (p q : Place) → head.state ≡ Frozen → NewerAt g s index place head p → OlderAt g s index head q → p ≢ q
  both_apart s index place head p q frozen n o e =
      let bodies : n.body ≡ o.body = one_place s index p q n.body o.body e n.has o.has in
      let heads : head_in n.body ≡ head_in o.body = ap head_in bodies in
      let higher : head.unique < (head_in n.body).unique = n.higher (ap (λ (h : Head). h.state) heads ∙ o.frozen) in
      omega (arith, higher, o.lower frozen, ap (λ (h : Head). h.unique) heads)

  -- what was read of a newer one
  record NextRead (b d : S) (index : Index) (place : Place) (head : Head) (newer : Stored) : Type 0 where
    pub named : head.newer ≡ Some newer.place
    pub there : NewerAt g b index place head newer.place
    pub stands : StandsIn g d index newer

  next_read : (b d : S) (index : Index) (place : Place) (body : List ℕ) (head : Head) (link : Option Place) (newer : Stored) → AreLinked g b → Keeps g b d → HasBody g b index place body → head ≡ head_in body → head.newer ≡ link
      → StoredAt (bodies_of (g.image b) index) link (Some newer) → NextRead b d index place head newer
  next_read b d index place body head None newer linked kept has same is at = absurd cc
  next_read b d index place body head (Some p) newer linked kept has same is at =
      let n = newer_at g b index place body head p linked has same is in
      let bodies : n.body ≡ at.body = same_Some n.body at.body (sym n.there ∙ at.there) in
      record {
        named = is ∙ ap Some (sym at.is.stands);
        there = subst (λ (q : Place). NewerAt g b index place head q) (sym at.is.stands) n;
        stands = stands_in g b d index p at.body n.is newer kept (subst (λ (t : List ℕ). HasBody g b index p t) bodies n.has) (subst (λ (t : List ℕ). BodyOf t n.is) bodies n.spelled) at.is;
      }

  apart_all : (b : S) (index : Index) (place : Place) (body : List ℕ) (head : Head) (link : Option Place) (older : Option Stored) (was : Place) (next : Place) → was ≡ place → AreLinked g b → HasBody g b index place body → head ≡ head_in body → head.state ≡ Frozen
      → NewerAt g b index place head next → head.older ≡ link → StoredAt (bodies_of (g.image b) index) link older → IfSome older (λ (stored : Stored). (was ≢ stored.place) × (next ≢ stored.place))
  apart_all b index place body head link None was next here linked has same frozen n is at = tt
  apart_all b index place body head None (Some stored) was next here linked has same frozen n is at = absurd cc
  apart_all b index place body head (Some q) (Some stored) was next here linked has same frozen n is at =
      let o = older_at g b index place body head q linked has same is in
      (λ e. older_apart b index place body head q has same frozen o (sym here ∙ e ∙ at.is.stands), λ e. both_apart b index place head next q frozen n o (e ∙ at.is.stands))

  pub between_of : (b d : S) (index : Index) (place : Place) (body : List ℕ) (is : Record) (was newer : Stored) (older : Option Stored) → AreLinked g b → Keeps g b d → HasBody g b index place body → BodyOf body is → IsStored was place body
      → length body + 20 ≤ (g.geometry b).page_size → was.head.state ≡ Frozen → StoredAt (bodies_of (g.image b) index) was.head.older older → StoredAt (bodies_of (g.image b) index) was.head.newer (Some newer)
      → IsBetween g d index was newer older is
  between_of b d index place body is was newer older linked kept has spelled at fits frozen up down =
      let read = read_of g b d index place body is was older linked kept has spelled at fits up in
      let next = next_read b d index place body was.head was.head.newer newer linked kept has at.head refl down in
      record {
        read = read;
        next = next.stands;
        names = ap (λ (h : Head). h.newer) (sym read.head) ∙ next.named;
        apart = λ e. newer_apart b index place body was.head newer.place has at.head frozen next.there (sym at.stands ∙ e);
        older_apart = apart_all b index place body was.head was.head.older older was.place newer.place at.stands linked has at.head frozen next.there refl up;
      }

  -- ---- a version that goes

  pub moved_fits : (s : S) (index : Index) (was newer : Stored) (older : Option Stored) (is : Record) → IsBetween g s index was newer older is → IsHead (older_head was.head.older newer.head)
  moved_fits s index was newer older is m = record {
    older = subst (λ (h : Head). IsNamed h.older) (sym m.read.head) (named_field is.head.older m.read.spelled.fits.older);
    newer = subst (λ (h : Head). IsNamed h.newer) (sym m.next.head) (named_field m.next.is.head.newer m.next.spelled.fits.newer);
    fits = subst (λ (h : Head). NewerFits h.state h.newer) (sym m.next.head) m.next.spelled.fits.newer_fits;
  }

  older_later : (a b d : S) (index mid : Index) (p q : Place) (was : Option (List ℕ)) (now : Option (List ℕ)) (older : Option Stored) → EditsBodies g a b index mid ((p, was) ∷ []) → EditsBodies g b d mid mid ((q, now) ∷ [])
      → IfSome older (λ (stored : Stored). (p ≢ stored.place) × (q ≢ stored.place)) → IfSome older (IsFrozenIn g a index) → IfSome older (IsFrozenIn g d mid)
  older_later a b d index mid p q was now None e f apart frozen = tt
  older_later a b d index mid p q was now (Some stored) e f apart frozen = record {
    stands = record {
      has = other_body g b d mid mid q now stored.place stored.body.items f apart.1 (other_body g a b index mid p was stored.place stored.body.items e apart.0 frozen.stands.has);
      is = frozen.stands.is;
      spelled = frozen.stands.spelled;
      head = frozen.stands.head;
    };
    frozen = frozen.frozen;
  }

  module _ (a b : S) (index : Index) (was newer : Stored) (older : Option Stored) (is : Record) (m : IsBetween g a index was newer older is) (gone : RemovesBody g a b index was.place was.body.items) where
    gone_bodies : EditsBodies g a b index gone.after ((was.place, None) ∷ [])
    gone_bodies = edit_removes g a b index gone.after was.place was.body.items m.read.has.file gone.edit

    pub next_there : HasBody g b gone.after newer.place newer.body.items
    next_there = other_body g a b index gone.after was.place None newer.place newer.body.items gone_bodies m.apart m.next.has

    module _ (d : S) (put : PutsRecord g b d gone.after newer.place newer.body.items (with_head (older_head was.head.older newer.head) m.next.is)) where
      put_bodies : EditsBodies g b d gone.after gone.after ((newer.place, Some put.body) ∷ [])
      put_bodies = edit_puts g b d gone.after gone.after newer.place (Some newer.body.items) put.body put.edit

      pub older_stays : IfSome older (IsFrozenIn g d gone.after)
      older_stays = older_later a b d index gone.after was.place newer.place None (Some put.body) older gone_bodies put_bodies m.older_apart m.read.frozen

      pub next_named : IsNamed (Some newer.place)
      next_named = place_named g b gone.after newer.place newer.body.items next_there

      pub drops : (e : S) → TurnsOlder g d e gone.after (bodies_of (g.image a) index) is.head.older was.place newer.place → Drops g a e index was.place is
      drops e turned =
          let read : record_on newer.body.items ≡ m.next.is = record_read newer.body.items m.next.is m.next.spelled in
          let heads : newer.head ≡ head_in newer.body.items = m.next.head ∙ sym (ap (λ (r : Record). r.head) read) in
          let olds : was.head.older ≡ is.head.older = ap (λ (h : Head). h.older) m.read.head in
          let both = bodies_then g a b d index gone.after gone.after ((was.place, None) ∷ []) ((newer.place, Some put.body) ∷ []) gone_bodies put_bodies in
          record {
            after = gone.after;
            at = newer.place;
            only = m.names;
            was = newer.body.items;
            there = body_there g a index newer.place newer.body.items m.next.has;
            now = put.body;
            moved = subst (λ (r : Record). BodyOf put.body (with_head (older_head is.head.older (head_in newer.body.items)) r)) (sym read)
                (subst (λ (h : Head). BodyOf put.body (with_head (older_head is.head.older h) m.next.is)) heads
                (subst (λ (o : Option Place). BodyOf put.body (with_head (older_head o newer.head) m.next.is)) olds put.spelled));
            others = turned.changes;
            older = turned.turned;
            bodies = bodies_then g a d e index gone.after gone.after ((newer.place, Some put.body) ∷ (was.place, None) ∷ []) turned.changes both turned.bodies;
          }

  pub kept_drops : (a d e : S) (index : Index) (at place : Place) (is : Record) → at ≡ place → Keeps g a d → Drops g d e index at is → Drops g a e index place is
  kept_drops a d e index at place is same kept f = subst (λ (p : Place). Drops g a e index p is) same (record {
    after = f.after;
    at = f.at;
    only = f.only;
    was = f.was;
    there = subst (λ (i : ℕ → List ℕ). body_at f.at (bodies_of i index) ≡ Some f.was) kept.images f.there;
    now = f.now;
    moved = f.moved;
    others = f.others;
    older = subst (λ (i : ℕ → List ℕ). TurnsLink (bodies_of i index) at f.at is.head.older f.others) kept.images f.older;
    bodies = keeps_bodies g a d e index f.after (f.others ++ (f.at, Some f.now) ∷ (at, None) ∷ []) kept f.bodies;
  })

pub none_linked : (rows : List Row) (link : Option Place) → StoredAt rows link None → IsSome link → ⊥
none_linked rows None at some = absurd cc
none_linked rows (Some place) at some = at
