-- Records that name each other's places.
use Rattle.std.proofs.Common.{◌≡◌, ◌≢◌, ◌≤◌, List, [], ◌∷◌, length, Option, Some, None, IfSome, true, refl, sym, ap, subst, ◌∙◌, inl, inr}
use Rattle.std.proofs.lemmas.Option.{same_Some, none-some}
use Rattle.ex_base.specs.declared.names.Place.{Place}
use Rattle.ex_base.specs.Places.{is_place}
use Rattle.ex_base.proofs.SamePlaces.{at_itself, place_or_not, same_place_is}
use Rattle.object_records.specs.declared.State.{State}
use Rattle.object_records.specs.declared.State.TheVariants.{Current, Frozen}
use Rattle.version_lists.proofs.Lists.{Has, has_filter, has_filter_from}
use Rattle.volume_model.specs.Volume.{Stored}
use Rattle.volume_model.specs.Links.{AreLinked, HaveOlders, IsLinked, IsOlder, NewerIs, names_older, only_place, place_in, stored_from}
use Rattle.volume_model.proofs.Places.{Sep, each_has, has_each}

pub named_place : (place : Place) (link : Option Place) → is_place place link ≡ true → link ≡ Some place
named_place place None is = absurd cc
named_place place (Some other) is = ap Some (same_place_is other place is)

-- ---- the only one of some records

pub only_all : (xs : List Stored) (s : Stored) → Sep place_in xs → Has xs s → ((t : Stored) → Has xs t → t.place ≡ s.place) → only_place xs ≡ Some s.place
only_all [] s apart h same = absurd h
only_all (x ∷ []) s apart h same = ap Some (same x (inl refl))
only_all (x ∷ (y ∷ ys)) s apart h same = absurd (apart.0 y (inl refl) (same x (inl refl) ∙ sym (same y (inr (inl refl)))))

pub only_two : (xs : List Stored) (s t : Stored) → Has xs s → Has xs t → s.place ≢ t.place → only_place xs ≡ None
only_two [] s t h k n = absurd h
only_two (x ∷ []) s t (inl e) (inl d) n = absurd (n (ap place_in (sym e ∙ d)))
only_two (x ∷ []) s t (inl e) (inr m) n = absurd m
only_two (x ∷ []) s t (inr m) k n = absurd m
only_two (x ∷ (y ∷ ys)) s t h k n = refl

pub only_some : (xs : List Stored) (place : Place) → only_place xs ≡ Some place → (t : Stored) → Has xs t → t.place ≡ place
only_some [] place e t h = absurd h
only_some (x ∷ []) place e t (inl is) = ap place_in (sym is) ∙ same_Some x.place place e
only_some (x ∷ []) place e t (inr m) = absurd m
only_some (x ∷ (y ∷ ys)) place e t h = absurd (none-some place e)

-- one with another place, where they are several
pub only_none : (xs : List Stored) (s : Stored) → Sep place_in xs → Has xs s → only_place xs ≡ None → (t : Stored) × Has xs t × (t.place ≢ s.place)
only_none [] s apart h e = absurd h
only_none (x ∷ []) s apart h e = absurd (none-some x.place (sym e))
only_none (x ∷ (y ∷ ys)) s apart h e = elim (place_or_not x.place s.place) [
  | inl same ↦ (y, inr (inl refl), λ d. apart.0 y (inl refl) (same ∙ sym d))
  | inr n ↦ (x, inl refl, n)
]

-- records at the same places
pub record SamePlaces (xs ys : List Stored) : Type 0 where
  pub to : (s : Stored) → Has xs s → (t : Stored) × Has ys t × (t.place ≡ s.place)
  pub from : (t : Stored) → Has ys t → (s : Stored) × Has xs s × (s.place ≡ t.place)

pub only_same : (xs ys : List Stored) → Sep place_in xs → Sep place_in ys → SamePlaces xs ys → only_place xs ≡ only_place ys
only_same [] [] apart later same = refl
only_same [] (y ∷ ys) apart later same = absurd (same.from y (inl refl)).1
only_same (x ∷ xs) [] apart later same = absurd (same.to x (inl refl)).1
only_same (x ∷ []) (y ∷ ys) apart later same =
    let one = λ (t : Stored) (h : Has (y ∷ ys) t). let r = same.from t h in sym r.2 ∙ only_some (x ∷ []) x.place refl r.0 r.1 in
    let t = same.to x (inl refl) in
    sym (only_all (y ∷ ys) t.0 later t.1 (λ u h. one u h ∙ sym t.2) ∙ ap Some t.2)
only_same (x ∷ (z ∷ zs)) (y ∷ ys) apart later same =
    let a = same.to x (inl refl) in
    let b = same.to z (inr (inl refl)) in
    sym (only_two (y ∷ ys) a.0 b.0 a.1 b.1 (λ e. apart.0 z (inl refl) (sym a.2 ∙ e ∙ b.2)))

-- one record of some gives way to another
pub record Swapped (xs ys : List Stored) (a b : Place) : Type 0 where
  pub one : (s : Stored) × Has xs s × (s.place ≡ a)
  pub other : (t : Stored) × Has ys t × (t.place ≡ b)
  pub to : (s : Stored) → Has xs s → s.place ≢ a → (t : Stored) × Has ys t × (t.place ≡ s.place)
  pub from : (t : Stored) → Has ys t → t.place ≢ b → (s : Stored) × Has xs s × (s.place ≡ t.place) × (s.place ≢ a)
  pub off : (s : Stored) → Has xs s → s.place ≢ b

pub swapped_one : (xs ys : List Stored) (a b : Place) → Sep place_in ys → Swapped xs ys a b → only_place xs ≡ Some a → only_place ys ≡ Some b
swapped_one xs ys a b apart swap e =
    only_all ys swap.other.0 apart swap.other.1 (λ t h. elim (place_or_not t.place b) [
      | inl same ↦ same ∙ sym swap.other.2
      | inr n ↦ let s = swap.from t h n in absurd (s.3 (only_some xs a e s.0 s.1))
    ])
    ∙ ap Some swap.other.2

pub swapped_many : (xs ys : List Stored) (a b : Place) → Sep place_in xs → Swapped xs ys a b → (only_place xs ≡ Some a → ⊥) → (only_place xs ≡ None) × (only_place ys ≡ None)
swapped_many xs ys a b apart swap n = by (only_place xs) refl
  where
    by : (o : Option Place) → only_place xs ≡ o → (only_place xs ≡ None) × (only_place ys ≡ None)
    by (Some p) e = absurd (n (e ∙ ap Some (sym (only_some xs p e swap.one.0 swap.one.1) ∙ swap.one.2)))
    by None e =
        let t = only_none xs swap.one.0 apart swap.one.1 e in
        let u = swap.to t.0 t.1 (λ same. t.2 (same ∙ sym swap.one.2)) in
        (e, only_two ys u.0 swap.other.0 u.1 swap.other.1 (λ same. swap.off t.0 t.1 (sym u.2 ∙ same ∙ swap.other.2)))

-- ---- records that name a place

pub named : (place : Place) (xs : List Stored) (s : Stored) → Has (stored_from place xs) s → Has xs s × (s.body.head.older ≡ Some place)
named place xs s h = let r = has_filter_from (names_older place) xs s h in (r.0, named_place place s.body.head.older r.1)

pub names : (place : Place) (xs : List Stored) (s : Stored) → Has xs s → s.body.head.older ≡ Some place → Has (stored_from place xs) s
names place xs s h e = has_filter (names_older place) xs s h (ap (is_place place) e ∙ at_itself place place refl)

pub newer_of_frozen : (state : State) (derived : List Stored) (newer : Option Place) → state ≡ Frozen → NewerIs state derived newer → (1 ≤ length derived) × (newer ≡ only_place derived)
newer_of_frozen Current derived newer e n = absurd cc
newer_of_frozen Frozen derived newer e n = n

pub newer_of_current : (state : State) (derived : List Stored) (newer : Option Place) → state ≡ Current → NewerIs state derived newer → newer ≡ None
newer_of_current Current derived newer e n = n
newer_of_current Frozen derived newer e n = absurd cc

pub newer_by : (state : State) (derived : List Stored) (newer : Option Place) → (state ≡ Current → newer ≡ None) → (state ≡ Frozen → (1 ≤ length derived) × (newer ≡ only_place derived)) → NewerIs state derived newer
newer_by Current derived newer current frozen = current refl
newer_by Frozen derived newer current frozen = frozen refl

pub not_both : (state : State) → state ≡ Current → state ≡ Frozen → ⊥
not_both Current a b = absurd cc
not_both Frozen a b = absurd cc

pub if_some : (P : Place → Type 0) (link : Option Place) → ((place : Place) → link ≡ Some place → P place) → IfSome link P
if_some P None h = tt
if_some P (Some place) h = h place refl

pub some_if : (P : Place → Type 0) (link : Option Place) (place : Place) → IfSome link P → link ≡ Some place → P place
some_if P None place h e = absurd (none-some place e)
some_if P (Some p) place h e = subst P (same_Some p place e) h

-- the record that another names as its older one
pub older_at : (stored : List Stored) → HaveOlders stored → (s : Stored) → Has stored s → (place : Place) → s.body.head.older ≡ Some place → IsOlder stored s place
older_at stored olders s h place is = some_if (IsOlder stored s) s.body.head.older place (each_has (λ (x : Stored). IfSome x.body.head.older (IsOlder stored x)) stored olders s h) is

pub linked_olders : (stored : List Stored) → AreLinked stored → HaveOlders stored
linked_olders stored linked = has_each (λ (s : Stored). IfSome s.body.head.older (IsOlder stored s)) stored (λ s h. (each_has (IsLinked stored) stored linked s h).older)
