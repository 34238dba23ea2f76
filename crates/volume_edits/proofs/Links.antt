-- Records that name each other's places, where some turn into others.
use Rattle.std.proofs.Common.{◌≡◌, ◌<◌, List, Option, Some, IfSome, refl, sym, ap, subst, ◌∙◌, inl, inr, ◌⊎◌}
use Rattle.ex_base.specs.declared.names.Place.{Place}
use Rattle.version_lists.proofs.Lists.{Has, has_contains, contains_has, has_length, length_has}
use Rattle.object_records.specs.Record.{Content}
use Rattle.object_records.specs.declared.State.TheVariants.{Frozen}
use Rattle.volume_model.specs.Volume.{Stored, unique_of}
use Rattle.volume_model.specs.Links.{place_in, names_older, stored_from, AreLinked, IsLinked, IsOlder, NewerIs}
use Rattle.volume_model.proofs.Places.{Sep, sep_filter, has_each}
use Rattle.volume_model.proofs.Links.{SamePlaces, if_some, named, names, newer_by, newer_of_current, newer_of_frozen, only_same, some_if}
use Rattle.volume_edits.proofs.Turning.{Came, Stays, Turn, turned}

-- ---- after a turn

module _ (stored later : List Stored) (older newer : Stored → Option Place) (content : Stored → Content) (gone : Option Place) (made : List Stored) (turn : Turn stored later older newer content gone made) where
  abbrev now : Stored → Stored
  now s = turned older newer content s

  -- a record that stays is the older one of another as before
  pub older_stays : (t q : Stored) (place : Place) → Has stored q → Stays gone q → q.place ≡ place → q.body.head.state ≡ Frozen → (t.body.head.state ≡ Frozen → unique_of q < unique_of t) → IsOlder later t place
  older_stays t q place h n is frozen lower = record {
    older = now q;
    there = has_contains later (now q) (turn.to q h n);
    place_is = is;
    frozen = frozen;
    lower = lower;
  }

  pub older_kept : (s : Stored) → IfSome s.body.head.older (IsOlder stored s) → older s ≡ s.body.head.older → ((q : Stored) → Has stored q → s.body.head.older ≡ Some q.place → Stays gone q) → IfSome (older s) (IsOlder later (now s))
  older_kept s o same stays =
      subst (λ (l : Option Place). IfSome l (IsOlder later (now s))) (sym same)
      (if_some (IsOlder later (now s)) s.body.head.older (λ place is. let q = some_if (IsOlder stored s) s.body.head.older place o is in
      older_stays (now s) q.older place (contains_has stored q.older q.there) (stays q.older (contains_has stored q.older q.there) (is ∙ ap Some (sym q.place_is))) q.place_is q.frozen q.lower))

  -- the same records name a place
  pub record SameFrom (place : Place) : Type 0 where
    pub to : (d : Stored) → Has stored d → d.body.head.older ≡ Some place → Stays gone d × (older d ≡ Some place)
    pub from : (d : Stored) → Has stored d → Stays gone d → older d ≡ Some place → d.body.head.older ≡ Some place
    pub not_made : (t : Stored) → Has made t → t.body.head.older ≡ Some place → ⊥

  from_apart : (place : Place) → Sep place_in (stored_from place stored)
  from_apart place = sep_filter place_in (names_older place) stored turn.apart

  pub later_from_apart : (place : Place) → Sep place_in (stored_from place later)
  later_from_apart place = sep_filter place_in (names_older place) later turn.later_apart

  from_came : (place : Place) → SameFrom place → (t : Stored) → t.body.head.older ≡ Some place → Has made t ⊎ Came stored older newer content gone t → (s : Stored) × Has (stored_from place stored) s × (s.place ≡ t.place)
  from_came place same t e (inl m) = absurd (same.not_made t m e)
  from_came place same t e (inr c) =
      let was = same.from c.was c.there c.stays (ap (λ (s : Stored). s.body.head.older) c.is ∙ e) in
      (c.was, names place stored c.was c.there was, ap place_in c.is)

  pub same_places : (place : Place) → SameFrom place → SamePlaces (stored_from place stored) (stored_from place later)
  same_places place same = record {
    to = λ s h. let n = named place stored s h in let k = same.to s n.0 n.1 in (now s, names place later (now s) (turn.to s n.0 k.0) k.1, refl);
    from = λ t h. let n = named place later t h in from_came place same t n.1 (turn.from t n.0);
  }

  pub newer_kept : (s : Stored) → SameFrom s.place → newer s ≡ s.body.head.newer → NewerIs s.body.head.state (stored_from s.place stored) s.body.head.newer → NewerIs s.body.head.state (stored_from s.place later) (newer s)
  newer_kept s same is n =
      let places = same_places s.place same in
      newer_by s.body.head.state (stored_from s.place later) (newer s) (λ c. is ∙ newer_of_current s.body.head.state (stored_from s.place stored) s.body.head.newer c n)
      (λ f. let was = newer_of_frozen s.body.head.state (stored_from s.place stored) s.body.head.newer f n in
      let d = length_has (stored_from s.place stored) was.0 in
      let t = places.to d.0 d.1 in (
        has_length (stored_from s.place later) t.0 t.1,
        is ∙ was.1 ∙ only_same (stored_from s.place stored) (stored_from s.place later) (from_apart s.place) (later_from_apart s.place) places,
      ))

  -- all are linked, where each is that came, and what is made
  pub all_linked : ((s : Stored) → Has stored s → Stays gone s → IsLinked later (now s)) → ((t : Stored) → Has made t → IsLinked later t) → AreLinked later
  all_linked came made_linked = has_each (IsLinked later) later (λ t h. by (turn.from t h))
    where
      by : {t : Stored} → Has made t ⊎ Came stored older newer content gone t → IsLinked later t
      by {t} (inl m) = made_linked t m
      by {t} (inr c) = subst (IsLinked later) c.is (came c.was c.there c.stays)
