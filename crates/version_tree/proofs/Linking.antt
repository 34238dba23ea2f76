-- What stands where the links of versions lead.
use Rattle.std.proofs.Common.{◌≡◌, ◌<◌, ℕ, true, List, [], ◌∷◌, Option, Some, None, refl, sym, ap, subst, ◌∙◌, inl, inr}
use Rattle.std.proofs.lemmas.Option.{same_Some}
use Rattle.ex_base.specs.declared.ground.Ground as ground
use Rattle.ex_base.specs.declared.names.Oid.{Oid}
use Rattle.ex_base.specs.declared.names.Place.{Place}
use Rattle.ex_base.specs.Ports.{Keeps}
use Rattle.ex_base.proofs.Filters.{in_kept}
use Rattle.ex_base.proofs.Members.{In}
use Rattle.ex_base.proofs.Options.{at_some}
use Rattle.object_records.specs.Record.{Record, BodyOf}
use Rattle.object_records.specs.declared.Head.{Head}
use Rattle.object_records.specs.declared.State.{State}
use Rattle.object_records.specs.declared.State.TheVariants.{Current, Frozen}
use Rattle.ex_base.specs.declared.names.Index.{Index}
use Rattle.file_bodies.specs.Bodies.{Row, bodies_of}
use Rattle.file_bodies.specs.Files.{HasFile, HasBody}
use Rattle.file_bodies.proofs.Moving.{kept_body}
use Rattle.object_records.proofs.RecordLaws.{record_read}
use Rattle.versions.specs.Listed.{oid_at}
use Rattle.versions.specs.Versions.{HasRecord, place_of}
use Rattle.versions.proofs.Records.{one_record}
use Rattle.version_tree.specs.declared.links.Stored.{Stored}
use Rattle.version_tree.specs.Bodies.{body_at}
use Rattle.versions.specs.Found.{HasLimits}
use Rattle.version_tree.specs.Linked.{AreLinked, IsLinked, IsOlder, NewerIs, derived_from, head_in, OidAt, is_place, names_older, only_place}
use Rattle.version_tree.specs.Links.{IsStored, StandsIn, StoredAt, oid_read}
use Rattle.versions.proofs.FileRows.{InRows}
use Rattle.version_tree.proofs.Places.{same_place_is, row_at, each_in, at_row, body_there, there_body}
use Rattle.file_bodies.proofs.Ordered.{ordered}

-- ---- rows that are derived from a place

pub named_place : (place : Place) (link : Option Place) → is_place place link ≡ true → link ≡ Some place
named_place place None is = absurd cc
named_place place (Some other) is = ap Some (same_place_is other place is)

pub in_rows : (row : Row) (rows : List Row) → In row rows → InRows rows row
in_rows row [] h = absurd h
in_rows row (x ∷ rows) h = elim h [
  | inl e ↦ inl (sym e)
  | inr r ↦ inr (in_rows row rows r)
]

-- the only one of these rows stands at the place
pub record IsOnly (rows : List Row) (at : Place) : Type 0 where
  pub body : List ℕ
  pub is : rows ≡ (at, body) ∷ []

pub only_row : (rows : List Row) (at : Place) → only_place rows ≡ Some at → IsOnly rows at
only_row [] at is = absurd cc
only_row (row ∷ []) at is = record { body = row.1; is = ap (λ (p : Place). let r : Row = (p, row.1) in r ∷ []) (same_Some row.0 at is) }
only_row (row ∷ next ∷ rows) at is = absurd cc

only_newer : (state : State) (derived : List Row) (newer : Option Place) (at : Place) → NewerIs state derived newer → newer ≡ Some at → only_place derived ≡ Some at
only_newer Current derived newer at is some = absurd (let e : None ≡ Some at = sym is ∙ some in cc)
only_newer Frozen derived newer at is some = sym is.1 ∙ some

-- ---- in a file

module _ {S : Type 0} (g : ground.Ghosts S) where
  -- A frozen record stands at the older place of a record with a head.
  pub record OlderAt (s : S) (index : Index) (head : Head) (at : Place) : Type 0 where
    pub body : List ℕ
    pub has : HasBody g s index at body
    pub there : body_at at (bodies_of (g.image s) index) ≡ Some body
    pub is : Record
    pub spelled : BodyOf body is
    pub frozen : (head_in body).state ≡ Frozen
    pub lower : head.state ≡ Frozen → (head_in body).unique < head.unique

  -- The only record that is derived from the one at a place stands at its newer place.
  pub record NewerAt (s : S) (index : Index) (place : Place) (head : Head) (at : Place) : Type 0 where
    pub body : List ℕ
    pub has : HasBody g s index at body
    pub there : body_at at (bodies_of (g.image s) index) ≡ Some body
    pub is : Record
    pub spelled : BodyOf body is
    pub older : (head_in body).older ≡ Some place
    pub higher : (head_in body).state ≡ Frozen → head.unique < (head_in body).unique
    pub only : derived_from place (bodies_of (g.image s) index) ≡ (at, body) ∷ []

  pub link_of : (s : S) (index : Index) (place : Place) (body : List ℕ) → AreLinked g s → HasBody g s index place body → IsLinked (g.geometry s) (bodies_of (g.image s) index) (place, body)
  link_of s index place body linked has =
      each_in (IsLinked (g.geometry s) (bodies_of (g.image s) index)) (bodies_of (g.image s) index) (place, body) (linked index has.file)
      (row_at (bodies_of (g.image s) index) place body (body_there g s index place body has))

  pub older_at : (s : S) (index : Index) (place : Place) (body : List ℕ) (head : Head) (at : Place) → AreLinked g s → HasBody g s index place body → head ≡ head_in body → head.older ≡ Some at → OlderAt s index head at
  older_at s index place body head at linked has same some =
      let link = link_of s index place body linked has in
      let o : IsOlder (bodies_of (g.image s) index) (head_in body) at = at_some (head_in body).older at (IsOlder (bodies_of (g.image s) index) (head_in body)) (sym (ap (λ (h : Head). h.older) same) ∙ some) link.older in
      let stands = there_body g s index at o.body has.file o.there in
      let readable = (link_of s index at o.body linked stands).readable in
      subst (λ (h : Head). OlderAt s index h at) (sym same)
      (record { body = o.body; has = stands; there = o.there; is = readable.is; spelled = readable.spelled; frozen = o.frozen; lower = o.lower })

  pub newer_at : (s : S) (index : Index) (place : Place) (body : List ℕ) (head : Head) (at : Place) → AreLinked g s → HasBody g s index place body → head ≡ head_in body → head.newer ≡ Some at → NewerAt s index place head at
  newer_at s index place body head at linked has same some =
      let rows : List Row = bodies_of (g.image s) index in
      let link = link_of s index place body linked has in
      let one = only_row (derived_from place rows) at (only_newer (head_in body).state (derived_from place rows) (head_in body).newer at link.newer (sym (ap (λ (h : Head). h.newer) same) ∙ some)) in
      let kept = in_kept (names_older place) rows (at, one.body) (subst (In {A = Row} (at, one.body)) (sym one.is) (inl refl)) in
      let there = at_row rows at one.body (ordered g s index has.file) (in_rows (at, one.body) rows kept.0) in
      let stands = there_body g s index at one.body has.file there in
      let names : (head_in one.body).older ≡ Some place = named_place place (head_in one.body).older kept.1 in
      let next = link_of s index at one.body linked stands in
      let back : IsOlder rows (head_in one.body) place = at_some (head_in one.body).older place (IsOlder rows (head_in one.body)) names next.older in
      let body_is : back.body ≡ body = same_Some back.body body (sym back.there ∙ body_there g s index place body has) in
      subst (λ (h : Head). NewerAt s index place h at) (sym same)
      (record {
        body = one.body;
        has = stands;
        there = there;
        is = next.readable.is;
        spelled = next.readable.spelled;
        older = names;
        higher = subst (λ (b : List ℕ). (head_in one.body).state ≡ Frozen → (head_in b).unique < (head_in one.body).unique) body_is back.lower;
        only = one.is;
      })

  -- ---- in a state with the same meanings

  pub file_back : (a b : S) (index : Index) → Keeps g a b → HasFile g b index → HasFile g a index
  file_back a b index kept file = record {
    catalog = record { whole = rw (sym kept.images) file.catalog.whole; held = rw (sym kept.held) file.catalog.held };
    entry = rw (sym kept.images) file.entry;
    whole = rw (sym (g.leads_geometry a b kept.leads), sym kept.images) file.whole;
    pages = rw (sym kept.images) file.pages;
    once = λ p. rw (sym kept.images, sym kept.held) (file.once p);
  }

  pub kept_linked : (a b : S) → Keeps g a b → AreLinked g a → AreLinked g b
  kept_linked a b kept linked index file = rw (g.leads_geometry a b kept.leads, kept.images) (linked index (file_back a b index kept file))

  -- ---- a record that was read

  pub head_read : (body : List ℕ) (is : Record) (head : Head) → BodyOf body is → head ≡ head_in body → head ≡ is.head
  head_read body is head spelled same = same ∙ ap (λ (r : Record). r.head) (record_read body is spelled)

  -- a record of linked ones is in its limits
  pub linked_limits : (s : S) (index : Index) (oid : Oid) (is : Record) → AreLinked g s → HasRecord g s index oid is → HasLimits (g.geometry s) is.content
  linked_limits s index oid is linked has =
      let readable = (link_of s index (place_of oid) has.body linked has.stands).readable in
      subst (λ (r : Record). HasLimits (g.geometry s) r.content) (one_record has.body readable.is is readable.spelled has.spelled) readable.limits

  pub stands_in : (a b : S) (index : Index) (place : Place) (body : List ℕ) (is : Record) (stored : Stored) → Keeps g a b → HasBody g a index place body → BodyOf body is → IsStored stored place body → StandsIn g b index stored
  stands_in a b index place body is stored kept has spelled at = record {
    has = subst (λ (p : Place). HasBody g b index p stored.body.items) (sym at.stands) (subst (λ (t : List ℕ). HasBody g b index place t) (sym at.bytes) (kept_body g a b index place body kept has));
    is = is;
    spelled = subst (λ (t : List ℕ). BodyOf t is) (sym at.bytes) spelled;
    head = head_read body is stored.head spelled at.head;
  }

  -- the OID of a record that was read where a link leads
  oid_told : (rows : List Row) (link : Option Place) (found : Option Stored) → StoredAt rows link found → OidAt rows link (oid_read found)
  oid_told rows None found h = ap oid_read h
  oid_told rows (Some place) None h = absurd h
  oid_told rows (Some place) (Some stored) h = record {
    body = h.body;
    there = h.there;
    is = ap (λ (p : Place). oid_at p stored.head.unique) h.is.stands ∙ ap (λ (t : Head). oid_at place t.unique) h.is.head;
  }

  pub neighbour_told : (a b : S) (index : Index) (body : List ℕ) (is : Record) (head : Head) (found : Option Stored) (result : Option Oid) (link : Head → Option Place) → Keeps g a b → BodyOf body is → head ≡ head_in body
      → StoredAt (bodies_of (g.image b) index) (link head) found → result ≡ oid_read found → OidAt (bodies_of (g.image a) index) (link is.head) result
  neighbour_told a b index body is head found result link kept spelled same at told =
      subst (OidAt (bodies_of (g.image a) index) (link is.head)) (sym told)
      (subst (λ (h : Head). OidAt (bodies_of (g.image a) index) (link h) (oid_read found)) (head_read body is head spelled same)
      (subst (λ (f : ℕ → List ℕ). OidAt (bodies_of f index) (link head) (oid_read found)) kept.images (oid_told (bodies_of (g.image b) index) (link head) found at)))
