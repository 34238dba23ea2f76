-- A record whose newer place alone changes.
use Rattle.std.proofs.Common.{[], ◌≡◌, ℕ, List, ◌∷◌, ◌++◌, Option, Some, None, refl, sym, ap, ◌∙◌, inl, inr, ◌⊎◌}
use Rattle.std.specs.Prelude.{if◌then◌else◌}
use Rattle.std.proofs.lemmas.Option.{none-some, same_Some}
use Rattle.ex_base.specs.declared.names.Place.{Place}
use Rattle.ex_base.specs.Places.{same_place}
use Rattle.ex_base.proofs.SamePlaces.{place_or_not}
use Rattle.version_lists.proofs.Lists.{Has}
use Rattle.object_records.specs.Record.{Record, BodyOf}
use Rattle.volume_model.specs.Volume.{Stored}
use Rattle.volume_model.specs.Links.{place_in, stored_from}
use Rattle.volume_model.proofs.Places.{Sep, sep_one, stands_has}
use Rattle.version_tree.specs.Bodies.{PlaceChange}
use Rattle.volume_edits.proofs.RecordEdits.{stored_after}
use Rattle.volume_edits.proofs.RecordUpdates.{LinkComes, LinkTurns, NewerComes, NewerGoes, NewerTurns, gets_none, gets_one, had_none, had_one, newer_put, only_other, stays, stored_as, turns}
use Rattle.volume_edits.proofs.PlaceChanges.{body_read, if_here, if_off, put_here, put_off}

pub record OneNewer (stored : List Stored) (others : List PlaceChange) : Type 0 where
  pub s : Stored
  pub there : Has stored s
  pub newer : Option Place
  pub body : List ℕ
  pub spelled : BodyOf body (newer_put newer s.body)
  pub is : others ≡ (s.place, Some body) ∷ []

-- at most one record's newer place changes
abbrev pub NewerOnly : List Stored → List PlaceChange → Type 0
NewerOnly stored others = (others ≡ []) ⊎ OneNewer stored others

-- the newer place of a record from then on
abbrev pub newer_by : {stored : List Stored} {others : List PlaceChange} → NewerOnly stored others → Stored → Option Place
newer_by (inl e) s = s.body.head.newer
newer_by (inr o) s = if same_place o.s.place s.place then o.newer else s.body.head.newer

abbrev pub Touches : {stored : List Stored} {others : List PlaceChange} → NewerOnly stored others → Place → Type 0
Touches (inl e) place = ⊥
Touches (inr o) place = o.s.place ≡ place

pub others_off : (stored : List Stored) (others rest : List PlaceChange) (n : NewerOnly stored others) (place : Place) (was : Option Stored) → (Touches n place → ⊥) → stored_after (others ++ rest) place was ≡ stored_after rest place was
others_off stored others rest (inl e) place was off = ap (λ (cs : List PlaceChange). stored_after (cs ++ rest) place was) e
others_off stored others rest (inr o) place was off = ap (λ (cs : List PlaceChange). stored_after (cs ++ rest) place was) o.is ∙ put_off o.s.place (Some o.body) rest place was off

pub newer_off : (stored : List Stored) (others : List PlaceChange) (n : NewerOnly stored others) (s : Stored) → (Touches n s.place → ⊥) → newer_by n s ≡ s.body.head.newer
newer_off stored others (inl e) s off = refl
newer_off stored others (inr o) s off = if_off o.s.place s.place o.newer s.body.head.newer off

pub touched_has : (stored : List Stored) (others : List PlaceChange) (n : NewerOnly stored others) (place : Place) → Touches n place → (s : Stored) × Has stored s × (s.place ≡ place)
touched_has stored others (inl e) place t = absurd t
touched_has stored others (inr o) place t = (o.s, o.there, t)

pub others_at : (stored : List Stored) (others rest : List PlaceChange) (n : NewerOnly stored others) (s : Stored) → Sep place_in stored → Has stored s → stored_after rest s.place (Some s) ≡ Some s
    → stored_after (others ++ rest) s.place (Some s) ≡ Some (stored_as s.place (newer_put (newer_by n s) s.body))
others_at stored others rest (inl e) s apart h same = ap (λ (cs : List PlaceChange). stored_after (cs ++ rest) s.place (Some s)) e ∙ same
others_at stored others rest (inr o) s apart h same =
    ap (λ (cs : List PlaceChange). stored_after (cs ++ rest) s.place (Some s)) o.is
    ∙ elim (place_or_not o.s.place s.place) [
      | inl here ↦
          put_here o.s.place (Some o.body) rest s.place (Some s) here ∙ body_read s.place o.body (newer_put o.newer o.s.body) o.spelled
          ∙ ap (λ (x : Stored). Some (stored_as s.place (newer_put o.newer x.body))) (sep_one place_in stored o.s s apart o.there h here)
          ∙ ap (λ (l : Option Place). Some (stored_as s.place (newer_put l s.body))) (sym (if_here o.s.place s.place o.newer s.body.head.newer here))
      | inr off ↦
          put_off o.s.place (Some o.body) rest s.place (Some s) off ∙ same
          ∙ ap (λ (l : Option Place). Some (stored_as s.place (newer_put l s.body))) (sym (if_off o.s.place s.place o.newer s.body.head.newer off))
    ]

-- ---- a link that turns

-- what a link's turn says of the record that it leads to
pub record TurnOf (stored : List Stored) (from to : Place) (link : Option Place) (others : List PlaceChange) : Type 0 where
  pub only : NewerOnly stored others
  pub touched : (place : Place) → Touches only place → link ≡ Some place
  pub turned : (s : Stored) → Has stored s → link ≡ Some s.place → s.body.head.newer ≡ Some from → newer_by only s ≡ Some to
  pub stayed : (s : Stored) → Has stored s → link ≡ Some s.place → (s.body.head.newer ≡ Some from → ⊥) → newer_by only s ≡ s.body.head.newer

turn_at : (stored : List Stored) (from to place : Place) (q : Stored) (others : List PlaceChange) → Sep place_in stored → Has stored q → q.place ≡ place → NewerTurns q from to others → TurnOf stored from to (Some place) others
turn_at stored from to place q others apart h is (stays n) = record {
  only = inl refl;
  touched = λ p t. absurd t;
  turned = λ s k l e. let same = sep_one place_in stored q s apart h k (is ∙ at_some l) in absurd (n (ap (λ (x : Stored). x.body.head.newer) same ∙ e));
  stayed = λ s k l e. refl;
}
  where
    at_some : {a b : Place} → Some a ≡ Some b → a ≡ b
    at_some {a} {b} e = same_Some a b e
turn_at stored from to place q others apart h is (turns now e b) =
    let o : OneNewer stored ((q.place, Some now) ∷ []) = record { s = q; there = h; newer = Some to; body = now; spelled = b; is = refl } in
    record {
      only = inr o;
      touched = λ p t. ap Some (sym is ∙ t);
      turned = λ s k l d. if_here q.place s.place (Some to) s.body.head.newer (is ∙ same_Some place s.place l);
      stayed = λ s k l d. absurd (d (ap (λ (x : Stored). x.body.head.newer) (sym (sep_one place_in stored q s apart h k (is ∙ same_Some place s.place l))) ∙ e));
    }

pub turn_of : (stored : List Stored) (from to : Place) (link : Option Place) (others : List PlaceChange) → Sep place_in stored → LinkTurns stored from to link others → TurnOf stored from to link others
turn_of stored from to None others apart e = record {
  only = inl e;
  touched = λ p t. absurd t;
  turned = λ s h l. absurd (none-some s.place l);
  stayed = λ s h l. absurd (none-some s.place l);
}
turn_of stored from to (Some place) others apart t =
    let r = stands_has stored place t.s t.there in
    turn_at stored from to place t.s others apart r.0 r.1 t.turned

-- ---- a newer place that goes

pub record GoesOf (stored : List Stored) (place : Place) (others : List PlaceChange) : Type 0 where
  pub only : NewerOnly stored others
  pub touched : (p : Place) → Touches only p → place ≡ p
  pub none : (s : Stored) → Has stored s → place ≡ s.place → newer_by only s ≡ None

pub goes_of : (stored : List Stored) (place : Place) (is : Record) (others : List PlaceChange) → Sep place_in stored → Has stored (stored_as place is) → NewerGoes place is others → GoesOf stored place others
goes_of stored place is others apart h (had_none e) = record {
  only = inl refl;
  touched = λ p t. absurd t;
  none = λ s k same. ap (λ (y : Stored). y.body.head.newer) (sep_one place_in stored s (stored_as place is) apart k h (sym same)) ∙ e;
}
goes_of stored place is others apart h (had_one now some b) =
    let o : OneNewer stored ((place, Some now) ∷ []) = record { s = stored_as place is; there = h; newer = None; body = now; spelled = b; is = refl } in
    record {
      only = inr o;
      touched = λ p t. t;
      none = λ s k same. if_here place s.place None s.body.head.newer same;
    }

-- ---- a newer place that comes

pub record ComesOf (stored : List Stored) (gone : Place) (link : Option Place) (others : List PlaceChange) : Type 0 where
  pub only : NewerOnly stored others
  pub touched : (p : Place) → Touches only p → link ≡ Some p
  pub comes : (s : Stored) → Has stored s → link ≡ Some s.place → (at : Place) → only_other gone (stored_from s.place stored) ≡ Some at → newer_by only s ≡ Some at
  pub stayed : (s : Stored) → Has stored s → link ≡ Some s.place → only_other gone (stored_from s.place stored) ≡ None → newer_by only s ≡ s.body.head.newer

comes_at : (stored : List Stored) (gone place : Place) (q : Stored) (other : Option Place) (others : List PlaceChange) → Sep place_in stored → Has stored q → q.place ≡ place → other ≡ only_other gone (stored_from place stored) → NewerComes q other others → ComesOf stored gone (Some place) others
comes_at stored gone place q None others apart h is e gets_none = record {
  only = inl refl;
  touched = λ p t. absurd t;
  comes = λ s k l at some. absurd (none-some at (e ∙ ap (λ (p : Place). only_other gone (stored_from p stored)) (same_Some place s.place l) ∙ some));
  stayed = λ s k l none. refl;
}
comes_at stored gone place q (Some newer) others apart h is e (gets_one now at b) =
    let o : OneNewer stored ((q.place, Some now) ∷ []) = record { s = q; there = h; newer = Some newer; body = now; spelled = b; is = refl } in
    record {
      only = inr o;
      touched = λ p t. ap Some (sym is ∙ t);
      comes = λ s k l at some.
          if_here q.place s.place (Some newer) s.body.head.newer (is ∙ same_Some place s.place l) ∙ e ∙ ap (λ (p : Place). only_other gone (stored_from p stored)) (same_Some place s.place l) ∙ some;
      stayed = λ s k l none. absurd (none-some newer (sym none ∙ ap (λ (p : Place). only_other gone (stored_from p stored)) (sym (same_Some place s.place l)) ∙ sym e));
    }

pub comes_of : (stored : List Stored) (gone : Place) (link : Option Place) (others : List PlaceChange) → Sep place_in stored → LinkComes stored gone link others → ComesOf stored gone link others
comes_of stored gone None others apart e = record {
  only = inl e;
  touched = λ p t. absurd t;
  comes = λ s h l. absurd (none-some s.place l);
  stayed = λ s h l. absurd (none-some s.place l);
}
comes_of stored gone (Some place) others apart t =
    let r = stands_has stored place t.s t.there in
    comes_at stored gone place t.s (only_other gone (stored_from place stored)) others apart r.0 r.1 refl t.comes
