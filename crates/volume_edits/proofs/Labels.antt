-- The objects that records form, where some turn into others.
use Rattle.std.proofs.Common.{◌≡◌, ℕ, List, Option, Some, None, sym, ap, subst, ◌∙◌, inl, inr, ◌⊎◌}
use Rattle.ex_base.specs.declared.names.Place.{Place}
use Rattle.version_lists.proofs.Lists.{Has, contains_has}
use Rattle.object_records.specs.Record.{Content}
use Rattle.trees.specs.Trees.{Units}
use Rattle.volume_model.specs.Volume.{Stored}
use Rattle.volume_model.specs.Links.{Apart, place_in, HasObjects, stored_units}
use Rattle.volume_edits.proofs.Turning.{Came, Stays, Turn, turned}

module _ (stored later : List Stored) (older newer : Stored → Option Place) (content : Stored → Content) (gone : Option Place) (made : List Stored) (turn : Turn stored later older newer content gone made)
    (units after : Units) (objects : HasObjects units stored) (label : Place → ℕ) where
  abbrev now : Stored → Stored
  now s = turned older newer content s

  abbrev Kept : Stored → Type 0
  Kept s = Has stored s × Stays gone s

  -- what labels have to show of records that came, and of one that was made
  pub record Labelled : Type 0 where
    pub same : (s : Stored) → Has stored s → label s.place ≡ objects.object s.place
    pub joins : (s t : Stored) → Kept s → Kept t → older s ≡ Some t.place → objects.object s.place ≡ objects.object t.place
    pub names_made : (s t : Stored) → Kept s → Has made t → older s ≡ Some t.place → label s.place ≡ label t.place
    pub made_names : (s t : Stored) → Has made s → Kept t → s.body.head.older ≡ Some t.place → label s.place ≡ label t.place
    pub firsts : (s t : Stored) → Kept s → Kept t → older s ≡ None → older t ≡ None → objects.object s.place ≡ objects.object t.place → s.place ≡ t.place
    pub first_made : (s t : Stored) → Kept s → Has made t → older s ≡ None → t.body.head.older ≡ None → label s.place ≡ label t.place → ⊥
    pub apart : (s t : Stored) → Kept s → Kept t → (objects.object s.place ≡ objects.object t.place → ⊥) → Apart (stored_units after (now s)) (stored_units after (now t))
    pub apart_made : (s t : Stored) → Kept s → Has made t → (label s.place ≡ label t.place → ⊥) → Apart (stored_units after (now s)) (stored_units after t) × Apart (stored_units after t) (stored_units after (now s))

  abbrev Is : Stored → Type 0
  Is t = Has made t ⊎ Came stored older newer content gone t

  module _ (l : Labelled) where
    at : (t : Stored) → (c : Came stored older newer content gone t) → label t.place ≡ objects.object c.was.place
    at t c = ap label (ap place_in (sym c.is)) ∙ l.same c.was c.there

    joined : (s t : Stored) → Is s → Is t → s.body.head.older ≡ Some t.place → label s.place ≡ label t.place
    joined s t (inl a) (inl b) e = ap (λ (x : Stored). label x.place) (turn.one s t a b)
    joined s t (inl a) (inr d) e = l.made_names s d.was a (d.there, d.stays) (e ∙ ap Some (ap place_in (sym d.is))) ∙ ap label (ap place_in d.is)
    joined s t (inr c) (inl b) e = ap label (ap place_in (sym c.is)) ∙ l.names_made c.was t (c.there, c.stays) b (ap (λ (x : Stored). x.body.head.older) c.is ∙ e)
    joined s t (inr c) (inr d) e =
        at s c ∙ l.joins c.was d.was (c.there, c.stays) (d.there, d.stays) (ap (λ (x : Stored). x.body.head.older) c.is ∙ e ∙ ap Some (ap place_in (sym d.is))) ∙ sym (at t d)

    one_first : (s t : Stored) → Is s → Is t → s.body.head.older ≡ None → t.body.head.older ≡ None → label s.place ≡ label t.place → s.place ≡ t.place
    one_first s t (inl a) (inl b) e f same = ap place_in (turn.one s t a b)
    one_first s t (inl a) (inr d) e f same = absurd (l.first_made d.was s (d.there, d.stays) a (ap (λ (x : Stored). x.body.head.older) d.is ∙ f) e (ap label (ap place_in d.is) ∙ sym same))
    one_first s t (inr c) (inl b) e f same = absurd (l.first_made c.was t (c.there, c.stays) b (ap (λ (x : Stored). x.body.head.older) c.is ∙ e) f (ap label (ap place_in c.is) ∙ same))
    one_first s t (inr c) (inr d) e f same =
        sym (ap place_in c.is) ∙ l.firsts c.was d.was (c.there, c.stays) (d.there, d.stays) (ap (λ (x : Stored). x.body.head.older) c.is ∙ e) (ap (λ (x : Stored). x.body.head.older) d.is ∙ f) (sym (at s c) ∙ same ∙ at t d) ∙ ap place_in d.is

    apart : (s t : Stored) → Is s → Is t → (label s.place ≡ label t.place → ⊥) → Apart (stored_units after s) (stored_units after t)
    apart s t (inl a) (inl b) n = absurd (n (ap (λ (x : Stored). label x.place) (turn.one s t a b)))
    apart s t (inl a) (inr d) n =
        subst (λ (x : Stored). Apart (stored_units after s) (stored_units after x)) d.is
        (l.apart_made d.was s (d.there, d.stays) a (λ e. n (sym e ∙ ap label (ap place_in d.is)))).1
    apart s t (inr c) (inl b) n =
        subst (λ (x : Stored). Apart (stored_units after x) (stored_units after t)) c.is
        (l.apart_made c.was t (c.there, c.stays) b (λ e. n (ap label (ap place_in (sym c.is)) ∙ e))).0
    apart s t (inr c) (inr d) n =
        subst (λ (x : Stored). Apart (stored_units after x) (stored_units after t)) c.is
        (subst (λ (x : Stored). Apart (stored_units after (now c.was)) (stored_units after x)) d.is (l.apart c.was d.was (c.there, c.stays) (d.there, d.stays) (λ e. n (at s c ∙ e ∙ sym (at t d)))))

    pub objects_turned : HasObjects after later
    objects_turned = record {
      object = label;
      joined = λ s t h k e. joined s t (turn.from s (contains_has later s h)) (turn.from t (contains_has later t k)) e;
      one_first = λ s t h k e f same. one_first s t (turn.from s (contains_has later s h)) (turn.from t (contains_has later t k)) e f same;
      apart = λ s t h k n. apart s t (turn.from s (contains_has later s h)) (turn.from t (contains_has later t k)) n;
    }
