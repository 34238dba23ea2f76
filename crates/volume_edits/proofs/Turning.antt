-- Records that turn into others in their places, one that goes, and one that is made.
use Rattle.std.proofs.Common.{◌≡◌, Bool, true, false, List, ◌++◌, map, Option, Some, None, refl, sym, ap, subst, ◌∙◌, inl, inr, ◌⊎◌}
use Rattle.std.specs.Prelude.{filter}
use Rattle.std.proofs.lemmas.Bool.{true≢false}
use Rattle.std.proofs.lemmas.Option.{same_Some, none-some}
use Rattle.ex_base.specs.declared.names.Place.{Place}
use Rattle.ex_base.proofs.SamePlaces.{place_or_not}
use Rattle.version_lists.specs.declared.version.Version.{Version}
use Rattle.version_lists.specs.Sorted.{in_order}
use Rattle.version_lists.specs.Versions.{unique_of as number_of}
use Rattle.version_lists.proofs.Lists.{Has, has_map, has_map_from, has_filter, has_filter_from, has_front, has_back, has_either, rises_filter, rises_map}
use Rattle.version_lists.proofs.Sorted.{Unlike, unlike_rises, unlike_append, order_rises, order_has, order_has_from, order_is}
use Rattle.object_records.specs.Record.{Content}
use Rattle.trees.specs.Trees.{Units}
use Rattle.volume_model.specs.Volume.{Stored, unique_of, stands_at, number_if, number_at, version_of, versions_stored}
use Rattle.volume_model.specs.Links.{place_in}
use Rattle.volume_model.proofs.Places.{Sep, sep_from, sep_by, sep_map, sep_one, sep_unlike, stands_has, has_stands}
use Rattle.volume_model.proofs.Versions.{has_stored, stored_has, stored_rises}
use Rattle.version_tree.specs.Bodies.{PlaceChange}
use Rattle.volume_edits.proofs.RecordEdits.{EditsStored, stored_after}

abbrev pub turned : (Stored → Option Place) → (Stored → Option Place) → (Stored → Content) → Stored → Stored
turned older newer content s = record { place = s.place; body = record { head = record { state = s.body.head.state; unique = s.body.head.unique; older = older s; newer = newer s }; content = content s } }

-- the record doesn't go
abbrev pub Stays : Option Place → Stored → Type 0
Stays gone s = gone ≡ Some s.place → ⊥

-- a record came from one that was there
pub record Came (stored : List Stored) (older newer : Stored → Option Place) (content : Stored → Content) (gone : Option Place) (t : Stored) : Type 0 where
  pub was : Stored
  pub there : Has stored was
  pub stays : Stays gone was
  pub is : turned older newer content was ≡ t

pub record Turn (stored later : List Stored) (older newer : Stored → Option Place) (content : Stored → Content) (gone : Option Place) (made : List Stored) : Type 0 where
  pub apart : Sep place_in stored
  pub later_apart : Sep place_in later
  pub to : (s : Stored) → Has stored s → Stays gone s → Has later (turned older newer content s)
  pub from : (t : Stored) → Has later t → Has made t ⊎ Came stored older newer content gone t
  pub put : (t : Stored) → Has made t → Has later t
  pub vacant : (s t : Stored) → Has stored s → Has made t → s.place ≡ t.place → ⊥
  pub one : (s t : Stored) → Has made s → Has made t → s ≡ t

pub gone_or_not : (gone : Option Place) (s : Stored) → (gone ≡ Some s.place) ⊎ Stays gone s
gone_or_not None s = inr (λ e. none-some s.place e)
gone_or_not (Some g) s = elim (place_or_not g s.place) [ inl e ↦ inl (ap Some e) | inr n ↦ inr (λ e. n (same_Some g s.place e)) ]

-- ---- from what an edit makes of each place

module _ (stored later : List Stored) (older newer : Stored → Option Place) (content : Stored → Content) (gone : Option Place) (made : List Stored) (changes : List PlaceChange) (e : EditsStored stored later changes)
    (kept : (s : Stored) → Has stored s → Stays gone s → stored_after changes s.place (Some s) ≡ Some (turned older newer content s))
    (lost : (s : Stored) → Has stored s → gone ≡ Some s.place → stored_after changes s.place (Some s) ≡ None)
    (fresh : (place : Place) → stands_at place stored ≡ None → stored_after changes place None ≡ stands_at place made)
    (vacant : (s t : Stored) → Has stored s → Has made t → s.place ≡ t.place → ⊥)
    (one : (s t : Stored) → Has made s → Has made t → s ≡ t) (made_apart : Sep place_in made) where
  apart : Sep place_in stored
  apart = sep_from place_in stored e.places

  later_apart : Sep place_in later
  later_apart = sep_from place_in later e.later_places

  at : (s : Stored) → Has stored s → stands_at s.place later ≡ stored_after changes s.place (Some s)
  at s h = e.at s.place ∙ ap (stored_after changes s.place) (has_stands stored s.place s apart h refl)

  none_at : (t : Stored) → Has made t → (o : Option Stored) → stands_at t.place stored ≡ o → stands_at t.place stored ≡ None
  none_at t h None is = is
  none_at t h (Some s) is = let r = stands_has stored t.place s is in absurd (vacant s t r.0 h r.1)

  came : (t : Stored) → Has later t → (o : Option Stored) → stands_at t.place stored ≡ o → Has made t ⊎ Came stored older newer content gone t
  came t h None is =
      inl (stands_has made t.place t (sym (fresh t.place is) ∙ sym (e.at t.place ∙ ap (stored_after changes t.place) is) ∙ has_stands later t.place t later_apart h refl)).0
  came t h (Some s) is =
      let r = stands_has stored t.place s is in
      let there : stored_after changes s.place (Some s) ≡ Some t = sym (at s r.0) ∙ has_stands later s.place t later_apart h (sym r.1) in
      elim (gone_or_not gone s) [
        | inl g ↦ absurd (none-some t (sym (lost s r.0 g) ∙ there))
        | inr n ↦ inr (record { was = s; there = r.0; stays = n; is = same_Some (turned older newer content s) t (sym (kept s r.0 n) ∙ there) })
      ]

  pub turn_from : Turn stored later older newer content gone made
  turn_from = record {
    apart = apart;
    later_apart = later_apart;
    to = λ s h n. (stands_has later s.place (turned older newer content s) (at s h ∙ kept s h n)).0;
    from = λ t h. came t h (stands_at t.place stored) refl;
    put = λ t h. let none = none_at t h (stands_at t.place stored) refl in
        (stands_has later t.place t (e.at t.place ∙ ap (stored_after changes t.place) none ∙ fresh t.place none ∙ has_stands made t.place t made_apart h refl)).0;
    vacant = vacant;
    one = one;
  }

-- ---- what is the same behind it

module _ (stored later : List Stored) (older newer : Stored → Option Place) (content : Stored → Content) (gone : Option Place) (made : List Stored) (turn : Turn stored later older newer content gone made) where
  abbrev now : Stored → Stored
  now s = turned older newer content s

  pub number_was : (s : Stored) (place : Place) → Has stored s → s.place ≡ place → number_at stored (Some place) ≡ Some (unique_of s)
  number_was s place h is = ap number_if (has_stands stored place s turn.apart h is)

  pub number_stays : (s : Stored) (place : Place) → Has stored s → Stays gone s → s.place ≡ place → number_at later (Some place) ≡ Some (unique_of s)
  number_stays s place h n is = ap number_if (has_stands later place (now s) turn.later_apart (turn.to s h n) is)

  pub number_made : (t : Stored) (place : Place) → Has made t → t.place ≡ place → number_at later (Some place) ≡ Some (unique_of t)
  number_made t place h is = ap number_if (has_stands later place t turn.later_apart (turn.put t h) is)

  -- a record stands at a link, and doesn't go
  pub record LeadsTo (place : Place) : Type 0 where
    pub at : Stored
    pub there : Has stored at
    pub place_is : at.place ≡ place
    pub stays : Stays gone at

  pub same_number : (link : Option Place) → ((place : Place) → link ≡ Some place → LeadsTo place) → number_at later link ≡ number_at stored link
  same_number None leads = refl
  same_number (Some place) leads =
      let l = leads place refl in
      number_stays l.at place l.there l.stays l.place_is ∙ sym (number_was l.at place l.there l.place_is)

  module _ (differ : Sep unique_of stored) (fresh : (s t : Stored) → Has stored s → Has made t → unique_of s ≡ unique_of t → ⊥) where
    same_at : (x y : Stored) → Has made x ⊎ Came stored older newer content gone x → Has made y ⊎ Came stored older newer content gone y → unique_of x ≡ unique_of y → x.place ≡ y.place
    same_at x y (inl a) (inl b) e = ap place_in (turn.one x y a b)
    same_at x y (inl a) (inr c) e = absurd (fresh c.was x c.there a (ap unique_of c.is ∙ sym e))
    same_at x y (inr c) (inl b) e = absurd (fresh c.was y c.there b (ap unique_of c.is ∙ e))
    same_at x y (inr c) (inr d) e =
        let was : c.was ≡ d.was = sep_one unique_of stored c.was d.was differ c.there d.there (ap unique_of c.is ∙ e ∙ sym (ap unique_of d.is)) in
        sym (ap place_in c.is) ∙ ap place_in was ∙ ap place_in d.is

    pub later_differ : Sep unique_of later
    later_differ = sep_by place_in unique_of later (λ x y h k e. same_at x y (turn.from x h) (turn.from y k) e) turn.later_apart

    -- ---- their versions

    module _ (units after : Units) (change : Version → Version) (keep : Version → Bool) (extra : List Version)
        (changed : (s : Stored) → Has stored s → Stays gone s → version_of after later (now s) ≡ change (version_of units stored s))
        (kept : (s : Stored) → Has stored s → Stays gone s → keep (version_of units stored s) ≡ true)
        (lost : (s : Stored) → Has stored s → gone ≡ Some s.place → keep (version_of units stored s) ≡ false)
        (same : (v : Version) → number_of (change v) ≡ number_of v)
        (extra_apart : Unlike number_of extra)
        (to_extra : (t : Stored) → Has made t → Has extra (version_of after later t))
        (from_extra : (v : Version) → Has extra v → (t : Stored) × Has made t × (version_of after later t ≡ v)) where
      abbrev before : List Version
      before = versions_stored units stored

      abbrev ws : List Version
      ws = map change (filter keep before) ++ extra

      cross : (x y : Version) → Has (map change (filter keep before)) x → Has extra y → number_of x ≡ number_of y → ⊥
      cross x y h k e =
          let v = has_map_from change (filter keep before) x h in
          let s = has_stored units stored v.0 (has_filter_from keep before v.0 v.1).0 in
          let t = from_extra y k in
          fresh s.0 t.0 s.1 t.1 (ap number_of s.2 ∙ sym (same v.0) ∙ ap number_of v.2 ∙ e ∙ sym (ap number_of t.2))

      ws_apart : Unlike number_of ws
      ws_apart = unlike_append number_of (map change (filter keep before)) extra (unlike_rises number_of (map change (filter keep before)) (rises_map number_of number_of change (filter keep before) same (rises_filter number_of keep before (stored_rises units stored differ)))) extra_apart cross

      to_ws : (t : Stored) → Has made t ⊎ Came stored older newer content gone t → Has ws (version_of after later t)
      to_ws t (inl m) = has_back (map change (filter keep before)) extra (version_of after later t) (to_extra t m)
      to_ws t (inr c) =
          let v = version_of units stored c.was in
          let there = has_filter keep before v (stored_has units stored c.was c.there) (kept c.was c.there c.stays) in
          subst (λ (w : Version). Has ws w) (sym (changed c.was c.there c.stays) ∙ ap (version_of after later) c.is)
          (has_front (map change (filter keep before)) extra (change v) (has_map change (filter keep before) v there))

      from_ws : (x : Version) → Has (map change (filter keep before)) x ⊎ Has extra x → Has (map (version_of after later) later) x
      from_ws x (inr k) = let t = from_extra x k in subst (λ (w : Version). Has (map (version_of after later) later) w) t.2 (has_map (version_of after later) later t.0 (turn.put t.0 t.1))
      from_ws x (inl h) =
          let v = has_map_from change (filter keep before) x h in
          let f = has_filter_from keep before v.0 v.1 in
          let s = has_stored units stored v.0 f.0 in
          elim (gone_or_not gone s.0) [
            | inl g ↦ absurd (true≢false (sym f.1 ∙ sym (ap keep s.2) ∙ lost s.0 s.1 g))
            | inr n ↦ subst (λ (w : Version). Has (map (version_of after later) later) w) (changed s.0 s.1 n ∙ ap change s.2 ∙ v.2) (has_map (version_of after later) later (now s.0) (turn.to s.0 s.1 n))
          ]

      pub versions_turned : versions_stored after later ≡ in_order number_of ws
      versions_turned =
          order_is number_of (map (version_of after later) later) (in_order number_of ws) (sep_unlike number_of (map (version_of after later) later) (sep_map (version_of after later) number_of later later_differ)) (order_rises number_of ws ws_apart)
          (λ x m. let t = has_map_from (version_of after later) later x m in order_has number_of ws x (subst (λ (w : Version). Has ws w) t.2 (to_ws t.0 (turn.from t.0 t.1))))
          (λ x m. from_ws x (has_either (map change (filter keep before)) extra x (order_has_from number_of ws x m)))
