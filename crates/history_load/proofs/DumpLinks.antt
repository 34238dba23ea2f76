-- Where a dump was written, its records are linked.
use Rattle.std.proofs.Common.{◌≡◌, ◌≤◌, ◌<◌, ℕ, true, List, length, Option, Some, None, refl, sym, subst, ap, ◌∙◌}
use Rattle.std.specs.Prelude.{IsSome}
use Rattle.std.specs.List.{AllByRecursion}
use Rattle.std.proofs.lemmas.Bool.{false≢true}
use Rattle.std.proofs.lemmas.Option.{none-some, same_Some}
use Rattle.ex_base.specs.declared.geometry.Geometry.{Geometry}
use Rattle.ex_base.specs.declared.names.Place.{Place}
use Rattle.object_records.specs.declared.State.{State}
use Rattle.object_records.specs.declared.State.TheVariants.{Current, Frozen}
use Rattle.table_model.specs.declared.table.Table.{Table}
use Rattle.table_model.specs.Tables.{versions_of}
use Rattle.version_lists.specs.declared.version.Version.{Version}
use Rattle.version_lists.specs.Versions.{IsLinked as IsLinkedVersion, unique_of as number_of}
use Rattle.version_lists.proofs.Links.{older_of, one_derived}
use Rattle.version_lists.proofs.Lists.{Has, all_has, contains_has, has_contains, has_length}
use Rattle.volume_model.specs.Links.{AreLinked, IsLinked, IsOlder, NewerIs, stored_from}
use Rattle.volume_model.specs.Volume.{FileContent, Stored, is_frozen, number_at, number_if, stands_at, unique_of}
use Rattle.volume_model.proofs.Links.{if_some, names, newer_by, some_if}
use Rattle.volume_model.proofs.Places.{Sep, each_has, has_each, sep_one, stands_has}
use Rattle.history_model.specs.Dumps.{IsHistoryOf}
use Rattle.history_model.specs.History.{History}
use Rattle.history_writes.specs.Files.{HasNewer, HasOlder, newer_for}
use Rattle.history_load.proofs.DumpVersions.{InObject, OfFile, OfRecord, OfVersion, differ, in_object, in_table, number_is, of_object, of_record, of_version}

told : {A : Type 0} (o : Option A) → IsSome o → (x : A) × (o ≡ Some x)
told (Some x) is = (x, refl)
told None is = absurd cc

frozen_is : (state : State) → state ≡ Frozen → is_frozen state ≡ true
frozen_is Current e = absurd cc
frozen_is Frozen e = refl

is_frozen_state : (state : State) → is_frozen state ≡ true → state ≡ Frozen
is_frozen_state Current e = absurd (false≢true e)
is_frozen_state Frozen e = refl

-- what stands at a link that has a number
record Numbered (stored : List Stored) (link : Option Place) (number : ℕ) : Type 0 where
  at : Stored
  there : Has stored at
  link_is : link ≡ Some at.place
  number_is : unique_of at ≡ number

numbered : (stored : List Stored) (link : Option Place) (number : ℕ) → number_at stored link ≡ Some number → Numbered stored link number
numbered stored None number e = absurd (none-some number e)
numbered stored (Some place) number e = by (stands_at place stored) refl e
  where
    by : (o : Option Stored) → stands_at place stored ≡ o → number_if o ≡ Some number → Numbered stored (Some place) number
    by None is d = absurd (none-some number d)
    by (Some s) is d = let has = stands_has stored place s is in record { at = s; there = has.0; link_is = ap Some (sym has.1); number_is = same_Some (unique_of s) number d }

module _ (g : Geometry) (h : History) (t : Table) (leaf node : ℕ → ℕ) (of : IsHistoryOf g h t) (x : FileContent) (f : OfFile g h t leaf node of x) (apart : Sep unique_of x.stored)
    (older : AllByRecursion (HasOlder x.stored) x.stored) (newer : AllByRecursion (HasNewer x.stored) x.stored) where
  abbrev Record : Stored → Type 0
  Record s = OfRecord g h t leaf node of x f s

  record_of : (s : Stored) → Has x.stored s → Record s
  record_of s there = of_record g h t leaf node of x f s there

  number_same : (s : Stored) (r : Record s) → unique_of s ≡ number_of r.version
  number_same s r = number_is g h t leaf node of x f s r

  pub object_of : (s : Stored) (r : Record s) → InObject g h t leaf node of f.table_file r.version
  object_of s r = in_object g h t leaf node of f.table_file r.version f.of_table r.listed

  -- ---- the older one

  -- The record at an older place, whose version is the older one of the object's tree.
  pub record OlderThere (s : Stored) (r : Record s) (place : Place) : Type 0 where
    pub at : Stored
    pub there : Has x.stored at
    pub place_is : at.place ≡ place
    pub own : Record at
    pub in_object : Has (object_of s r).object.versions own.version
    pub frozen : own.version.frozen ≡ true
    pub lower : r.version.frozen ≡ true → unique_of at < number_of r.version

  pub older_there : (s : Stored) (r : Record s) (place : Place) → Has x.stored s → s.body.head.older ≡ Some place → OlderThere s r place
  older_there s r place there is =
      let found = told (stands_at place x.stored) (some_if (λ (p : Place). IsSome (stands_at p x.stored)) s.body.head.older place (each_has (HasOlder x.stored) x.stored older s there) is) in
      let at = stands_has x.stored place found.0 found.1 in
      let q = record_of found.0 at.0 in
      let object = object_of s r in
      let number : r.version.older ≡ Some (unique_of found.0) = sym r.is.older ∙ r.on.older ∙ ap (number_at x.stored) is ∙ ap number_if found.1 in
      let o = older_of object.object.versions r.version (unique_of found.0) (all_has (IsLinkedVersion object.object.versions) object.object.versions object.tree.each r.version object.there) number in
      let member = contains_has object.object.versions o.older o.there in
      let listed = of_object g h t leaf node of f.table_file object.object o.older object.own member in
      let own_object = object_of found.0 q in
      let same : o.older ≡ q.version = sep_one number_of (versions_of t) o.older q.version (differ g h t leaf node of) (in_table g h t leaf node of object.object o.older object.among member)
      (in_table g h t leaf node of own_object.object q.version own_object.among own_object.there) (o.number_is ∙ number_same found.0 q) in
      record {
        at = found.0;
        there = at.0;
        place_is = at.1;
        own = q;
        in_object = subst (Has object.object.versions) same member;
        frozen = sym (ap (λ (v : Version). v.frozen) same) ∙ o.frozen;
        lower = o.lower;
      }

  is_older : (s : Stored) (place : Place) → Has x.stored s → s.body.head.older ≡ Some place → IsOlder x.stored s place
  is_older s place there is =
      let r = record_of s there in
      let o = older_there s r place there is in
      record {
        older = o.at;
        there = has_contains x.stored o.at o.there;
        place_is = o.place_is;
        frozen = is_frozen_state o.at.body.head.state (sym o.own.on.state ∙ o.own.is.state ∙ o.frozen);
        lower = λ frozen. subst (λ (n : ℕ). unique_of o.at < n) (sym (number_same s r)) (o.lower (sym r.is.state ∙ r.on.state ∙ frozen_is s.body.head.state frozen));
      }

  -- ---- the newer one

  -- a record whose version is derived from another's names that one's place
  names_place : (s : Stored) (r : Record s) (w : Version) (d : OfVersion g h t leaf node of x f w) → Has x.stored s → w.older ≡ Some (number_of r.version) → d.stored.body.head.older ≡ Some s.place
  names_place s r w d there is =
      let number = sym d.record_is.on.older ∙ d.record_is.is.older ∙ ap (λ (v : Version). v.older) d.same ∙ is ∙ ap Some (sym (number_same s r)) in
      let at = numbered x.stored d.stored.body.head.older (unique_of s) number in
      at.link_is ∙ ap (λ (a : Stored). Some a.place) (sep_one unique_of x.stored at.at s apart at.there there at.number_is)

  -- something is derived from a frozen record
  derived : (s : Stored) → Has x.stored s → s.body.head.state ≡ Frozen → 1 ≤ length (stored_from s.place x.stored)
  derived s there frozen =
      let r = record_of s there in
      let object = object_of s r in
      let one = one_derived object.object.versions r.version (all_has (IsLinkedVersion object.object.versions) object.object.versions object.tree.each r.version object.there)
      (sym r.is.state ∙ r.on.state ∙ frozen_is s.body.head.state frozen) in
      let d = of_version g h t leaf node of x f one.0 (of_object g h t leaf node of f.table_file object.object one.0 object.own one.1) in
      has_length (stored_from s.place x.stored) d.stored (names s.place x.stored d.stored d.there (names_place s r one.0 d there one.2))

  is_newer : (s : Stored) → Has x.stored s → NewerIs s.body.head.state (stored_from s.place x.stored) s.body.head.newer
  is_newer s there =
      let has = each_has (HasNewer x.stored) x.stored newer s there in
      newer_by s.body.head.state (stored_from s.place x.stored) s.body.head.newer (λ current. has ∙ ap (λ (state : State). newer_for state (stored_from s.place x.stored)) current)
      (λ frozen. (derived s there frozen, has ∙ ap (λ (state : State). newer_for state (stored_from s.place x.stored)) frozen))

  pub linked : AreLinked x.stored
  linked = has_each (IsLinked x.stored) x.stored (λ s there. record {
    older = if_some (IsOlder x.stored s) s.body.head.older (λ place is. is_older s place there is);
    newer = is_newer s there;
  })
