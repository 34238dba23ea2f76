-- Versions that were read, in a whole file that has them and the records that their links name.
use Rattle.std.proofs.Common.{◌≡◌, ◌≢◌, ◌≤◌, ◌<◌, ◌+◌, ℕ, List, length, Option, Some, None, refl, sym, ap, subst, ◌∙◌, arith}
use Rattle.std.specs.Prelude.{IfSome, slice_index_or}
use Rattle.ex_base.specs.declared.geometry.Geometry.{Geometry}
use Rattle.ex_base.specs.declared.ground.Ground as ground
use Rattle.ex_base.specs.declared.names.Index.{Index}
use Rattle.ex_base.specs.declared.names.Oid.{Oid}
use Rattle.ex_base.specs.declared.names.Place.{Place}
use Rattle.ex_base.specs.Ports.{Keeps}
use Rattle.ex_base.proofs.Options.{at_some}
use Rattle.slotted_pages.specs.Edits.{slots_of}
use Rattle.object_records.specs.Record.{Record, BodyOf}
use Rattle.object_records.specs.declared.Head.{Head}
use Rattle.object_records.specs.declared.State.TheVariants.{Frozen}
use Rattle.file_bodies.specs.Bodies.{bodies_of}
use Rattle.file_bodies.specs.Files.{HasBody}
use Rattle.file_bodies.proofs.Moving.{kept_body}
use Rattle.versions.specs.Damage.{StandsOn}
use Rattle.versions.specs.Versions.{HasRecord, place_of}
use Rattle.versions.proofs.Results.{same_some}
use Rattle.version_tree.specs.Bodies.{body_at}
use Rattle.version_tree.specs.Copies.{IsFrozenIn, IsRead}
use Rattle.version_tree.specs.Linked.{head_in}
use Rattle.version_tree.specs.Links.{HasNeighbours, HasSomeRecord, IsNewerOn, IsOlderOn, IsReadOn, IsVersionOn, NewerOn, OlderOn, ReadOn, StandsIn, StoredAt}
use Rattle.version_tree.specs.Removals.{IsBetween}
use Rattle.version_tree.specs.declared.links.Stored.{Stored}
use Rattle.version_tree.proofs.Linking.{head_read}
use Rattle.version_tree.proofs.Places.{body_there}
use Rattle.version_tree.proofs.ReadPlaces.{record_there}

-- ---- what was read at links

-- the body that stands in a slot
one_body : (image : ℕ → List ℕ) (place : Place) (a b : List ℕ) → StandsOn image place a → StandsOn image place b → a ≡ b
one_body image place a b x y = same_some (slice_index_or (slots_of (image place.page.0)) place.slot None) a b x y

-- two records that were read at one place have one head
same_read : (image : ℕ → List ℕ) (p q : Place) (a b : Stored) → IsReadOn image p a → IsReadOn image q b → a.place ≡ b.place → a.head ≡ b.head
same_read image p q a b x y same =
    let at : p ≡ q = sym x.at ∙ same ∙ y.at in
    x.head ∙ ap head_in (one_body image q a.body.items b.body.items (subst (λ (r : Place). StandsOn image r a.body.items) at x.stands) y.stands) ∙ sym y.head

-- The record that was read at a link stands at the place that this names.
record IsReadAt (image : ℕ → List ℕ) (link : Option Place) (stored : Stored) : Type 0 where
  pub named : link ≡ Some stored.place
  pub read : IsReadOn image stored.place stored

read_at : (image : ℕ → List ℕ) (link : Option Place) (stored : Stored) → ReadOn image link (Some stored) → IsReadAt image link stored
read_at image None stored read = absurd cc
read_at image (Some place) stored read = record { named = ap Some (sym read.at); read = subst (λ (p : Place). IsReadOn image p stored) (sym read.at) read }

-- the version that is derived from one that is frozen has a higher number, if it is frozen too, and the one that this is derived from has a lower one
higher_read : (image : ℕ → List ℕ) (from : Place) (head : Head) (stored : Stored) → IsReadOn image stored.place stored → IsNewerOn image from head stored.place → stored.head.state ≡ Frozen → head.unique < stored.head.unique
higher_read image from head stored read n =
    subst (λ (h : Head). h.state ≡ Frozen → head.unique < h.unique) (ap head_in (one_body image stored.place n.body stored.body.items n.stands read.stands) ∙ sym read.head) n.higher

lower_read : (image : ℕ → List ℕ) (head : Head) (stored : Stored) → IsReadOn image stored.place stored → IsOlderOn image head stored.place → (stored.head.state ≡ Frozen) × (head.state ≡ Frozen → stored.head.unique < head.unique)
lower_read image head stored read o =
    let same : head_in o.body ≡ stored.head = ap head_in (one_body image stored.place o.body stored.body.items o.stands read.stands) ∙ sym read.head in
    (subst (λ (h : Head). h.state ≡ Frozen) same o.frozen, subst (λ (h : Head). head.state ≡ Frozen → h.unique < head.unique) same o.lower)

-- ---- in a file

module _ {S : Type 0} (g : ground.Ghosts S) (s : S) (index : Index) where
  read_there : (place : Place) (stored : Stored) → IsReadOn (g.image s) place stored → HasSomeRecord g s index place → StandsIn g s index stored
  read_there place stored read h =
      let bodies : h.body ≡ stored.body.items = one_body (g.image s) place h.body stored.body.items h.has.stands read.stands in
      let spelled : BodyOf stored.body.items h.is = subst (λ (b : List ℕ). BodyOf b h.is) bodies h.spelled in
      record {
        has = subst (λ (p : Place). HasBody g s index p stored.body.items) (sym read.at) (subst (λ (b : List ℕ). HasBody g s index place b) bodies h.has);
        is = h.is;
        spelled = spelled;
        head = head_read g stored.body.items h.is stored.head spelled read.head;
      }

  stored_there : (link : Option Place) (found : Option Stored) → ReadOn (g.image s) link found → IfSome link (HasSomeRecord g s index) → StoredAt (bodies_of (g.image s) index) link found
  stored_there None found read h = read
  stored_there (Some place) None read h = absurd read
  stored_there (Some place) (Some stored) read h = record {
    body = stored.body.items;
    there = subst (λ (p : Place). body_at p (bodies_of (g.image s) index) ≡ Some stored.body.items) read.at (body_there g s index stored.place stored.body.items (read_there place stored read h).has);
    is = record { stands = read.at; head = read.head; bytes = refl };
  }

  frozen_there : (head : Head) (link : Option Place) (found : Option Stored) → ReadOn (g.image s) link found → IfSome link (HasSomeRecord g s index) → IfSome link (IsOlderOn (g.image s) head) → IfSome found (IsFrozenIn g s index)
  frozen_there head None found read h o = subst (λ (f : Option Stored). IfSome f (IsFrozenIn g s index)) (sym read) tt
  frozen_there head (Some place) None read h o = absurd read
  frozen_there head (Some place) (Some stored) read h o = record {
    stands = read_there place stored read h;
    frozen = ap (λ (t : Head). t.state) (read.head ∙ ap head_in (one_body (g.image s) place stored.body.items o.body read.stands o.stands)) ∙ o.frozen;
  }

  module _ (oid : Oid) (was : Stored) (older : Option Stored) (v : IsVersionOn (g.image s) oid was) (up : ReadOn (g.image s) was.head.older older) (link : OlderOn (g.image s) was.head)
      (fits : length was.body.items + 20 ≤ (g.geometry s).page_size) (n : HasNeighbours g s index (place_of oid) was.body.items) where
    one_head : was.head ≡ n.is.head
    one_head = head_read g was.body.items n.is was.head n.spelled v.read.head

    read_here : IsRead g s index was older n.is
    read_here =
        let named = subst (λ (h : Head). IfSome h.older (HasSomeRecord g s index)) (sym one_head) n.older in
        record {
          has = subst (λ (p : Place). HasBody g s index p was.body.items) (sym v.read.at) n.has;
          spelled = n.spelled;
          head = one_head;
          fits = fits;
          link = subst (λ (h : Head). StoredAt (bodies_of (g.image s) index) h.older older) one_head (stored_there was.head.older older up named);
          frozen = frozen_there was.head was.head.older older up named link;
        }

    module _ (newer : Stored) (down : ReadOn (g.image s) was.head.newer (Some newer)) (next : NewerOn (g.image s) was.place was.head) (frozen : was.head.state ≡ Frozen) where
      here : IsReadOn (g.image s) (place_of oid) was
      here = v.read

      higher : newer.head.state ≡ Frozen → was.head.unique < newer.head.unique
      higher =
          let at = read_at (g.image s) was.head.newer newer down in
          higher_read (g.image s) was.place was.head newer at.read (at_some was.head.newer newer.place (IsNewerOn (g.image s) was.place was.head) at.named next)

      apart : was.place ≢ newer.place
      apart e =
          let at = read_at (g.image s) was.head.newer newer down in
          let heads : was.head ≡ newer.head = same_read (g.image s) (place_of oid) newer.place was newer v.read at.read e in
          let above : was.head.unique < newer.head.unique = higher (ap (λ (h : Head). h.state) (sym heads) ∙ frozen) in
          omega (arith, above, ap (λ (h : Head). h.unique) heads)

      both_apart : (found : Option Stored) → ReadOn (g.image s) was.head.older found → IfSome found (λ (stored : Stored). (was.place ≢ stored.place) × (newer.place ≢ stored.place))
      both_apart None read = tt
      both_apart (Some stored) read =
          let at = read_at (g.image s) was.head.older stored read in
          let low = lower_read (g.image s) was.head stored at.read (at_some was.head.older stored.place (IsOlderOn (g.image s) was.head) at.named link) in
          let below : stored.head.unique < was.head.unique = low.1 frozen in (
            λ e.
                let heads : was.head ≡ stored.head = same_read (g.image s) (place_of oid) stored.place was stored v.read at.read e in
                omega (arith, below, ap (λ (h : Head). h.unique) heads),
            λ e.
                let heads : newer.head ≡ stored.head = same_read (g.image s) newer.place stored.place newer stored (read_at (g.image s) was.head.newer newer down).read at.read e in
                let above : was.head.unique < newer.head.unique = higher (ap (λ (h : Head). h.state) heads ∙ low.0) in
                omega (arith, above, below, ap (λ (h : Head). h.unique) heads),
          )

      between_here : IsBetween g s index was newer older n.is
      between_here =
          let at = read_at (g.image s) was.head.newer newer down in
          let named = subst (λ (h : Head). IfSome h.newer (HasSomeRecord g s index)) (sym one_head) n.newer in
          record {
            read = read_here;
            next = read_there newer.place newer at.read (at_some was.head.newer newer.place (HasSomeRecord g s index) at.named named);
            names = ap (λ (h : Head). h.newer) (sym one_head) ∙ at.named;
            apart = apart;
            older_apart = both_apart older up;
          }

-- ---- read in one state, whole in another with the same meanings

module _ {S : Type 0} (g : ground.Ghosts S) (a d : S) (kept : Keeps g a d) (index : Index) where
  record_kept : (place : Place) → HasSomeRecord g a index place → HasSomeRecord g d index place
  record_kept place h = record { body = h.body; has = kept_body g a d index place h.body kept h.has; is = h.is; spelled = h.spelled }

  link_kept : (link : Option Place) → IfSome link (HasSomeRecord g a index) → IfSome link (HasSomeRecord g d index)
  link_kept None h = tt
  link_kept (Some place) h = record_kept place h

  abbrev neighbours_kept : (place : Place) (body : List ℕ) → HasNeighbours g a index place body → HasNeighbours g d index place body
  neighbours_kept place body n = record {
    has = kept_body g a d index place body kept n.has;
    is = n.is;
    spelled = n.spelled;
    older = link_kept n.is.head.older n.older;
    newer = link_kept n.is.head.newer n.newer;
  }

  -- what was read of a version and its older link, on pages that are the same
  module _ (oid : Oid) (was : Stored) (older : Option Stored) (seen : ℕ → List ℕ) (same : seen ≡ g.image a) (v : IsVersionOn (g.image a) oid was) (up : ReadOn seen was.head.older older) (link : OlderOn seen was.head)
      (fits : (is : Record) (has : HasRecord g a index oid is) → length has.body + 20 ≤ (g.geometry a).page_size) (n : HasNeighbours g a index (place_of oid) was.body.items) where
    fits_later : length was.body.items + 20 ≤ (g.geometry d).page_size
    fits_later = subst (λ (y : Geometry). length was.body.items + 20 ≤ y.page_size) (sym (g.leads_geometry a d kept.leads)) (fits n.is (record_there g a index oid was v n.is n.has n.spelled))

    later : seen ≡ g.image d
    later = same ∙ sym kept.images

    pub read_whole : IsRead g d index was older n.is
    read_whole =
        read_here g d index oid was older (subst (λ (u : ℕ → List ℕ). IsVersionOn u oid was) (sym kept.images) v) (subst (λ (u : ℕ → List ℕ). ReadOn u was.head.older older) later up) (subst (λ (u : ℕ → List ℕ). OlderOn u was.head) later link) fits_later
        (neighbours_kept (place_of oid) was.body.items n)

    -- and of its newer link
    pub between_whole : (newer : Stored) (seen_later : ℕ → List ℕ) → seen_later ≡ g.image a → ReadOn seen_later was.head.newer (Some newer) → NewerOn seen_later was.place was.head → was.head.state ≡ Frozen → IsBetween g d index was newer older n.is
    between_whole newer seen_later same_later down next frozen =
        let still : seen_later ≡ g.image d = same_later ∙ sym kept.images in
        between_here g d index oid was older (subst (λ (u : ℕ → List ℕ). IsVersionOn u oid was) (sym kept.images) v) (subst (λ (u : ℕ → List ℕ). ReadOn u was.head.older older) later up) (subst (λ (u : ℕ → List ℕ). OlderOn u was.head) later link) fits_later
        (neighbours_kept (place_of oid) was.body.items n)
        newer (subst (λ (u : ℕ → List ℕ). ReadOn u was.head.newer (Some newer)) still down) (subst (λ (u : ℕ → List ℕ). NewerOn u was.place was.head) still next) frozen
