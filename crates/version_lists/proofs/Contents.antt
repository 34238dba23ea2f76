-- What is seen of a version after an update: whether it is frozen, and its bytes.
use Rattle.std.proofs.Common.{◌≡◌, ℕ, ◌<◌, List, [], ◌∷◌, ◌++◌, map, refl, ap, sym, ◌∙◌, arith, Bool, true, false, cond, not, Option, Some, None, option_map, inl, inr}
use Rattle.std.specs.Prelude.{filter, find}
use Rattle.std.proofs.lemmas.Bool.{eqb-true, false≢true, cond-true, cond-false, and_parts, not-true, not_from_false, false_from_ne_true}
use Rattle.std.proofs.lemmas.Option.{MatchOption-at_some, none-some}
use Rattle.ex_base.specs.declared.names.Oid.{Oid}
use Rattle.version_lists.specs.declared.version.Version.{Version}
use Rattle.version_lists.specs.Versions.{same_oid, has_oid, unique_of, is_derived_from}
use Rattle.version_lists.specs.Changes.{new_version, created_in, bytes_changed, edited_in, moved_onto, frozen_copy, frozen_in, derived_copy, derived_in, older_instead, left_by, without_in, content_of, content_at, edited_content, frozen_content, current_content, NoneFrozen}
use Rattle.version_lists.proofs.Lists.{Has, has_map_from, has_filter_from, find_has, find_none, Rises}
use Rattle.version_lists.proofs.Links.{found_by_oid}
use Rattle.version_lists.proofs.Removal.{has_own_oid}

pub oid_is : (a b : Oid) → same_oid a b ≡ true → a ≡ b
oid_is a b e =
    let p = and_parts _ _ e in
    let q = and_parts _ _ p.0 in
    λ i. record { page = record { 0 = eqb-true a.page.0 b.page.0 q.0 i }; slot = eqb-true a.slot b.slot q.1 i; unique = eqb-true a.unique b.unique p.1 i }

other_oid : (oid : Oid) (v : Version) → (v.oid ≡ oid → ⊥) → has_oid oid v ≡ false
other_oid oid v other = false_from_ne_true (has_oid oid v) (λ e. other (oid_is v.oid oid e))

-- ---- lists

-- the first that has the identifier, if any
content_here : (oid : Oid) (v : Version) (vs : List Version) → has_oid oid v ≡ true → content_at oid (v ∷ vs) ≡ Some (content_of v)
content_here oid v vs e = ap (option_map content_of) (cond-true (has_oid oid v) (Some v) (find (has_oid oid) vs) e)

content_later : (oid : Oid) (v : Version) (vs : List Version) → has_oid oid v ≡ false → content_at oid (v ∷ vs) ≡ content_at oid vs
content_later oid v vs e = ap (option_map content_of) (cond-false (has_oid oid v) (Some v) (find (has_oid oid) vs) e)

content_none : (oid : Oid) (vs : List Version) → ((v : Version) → Has vs v → has_oid oid v ≡ false) → content_at oid vs ≡ None
content_none oid [] none = refl
content_none oid (v ∷ vs) none = content_later oid v vs (none v (inl refl)) ∙ content_none oid vs (λ w m. none w (inr m))

none_has : (oid : Oid) (vs : List Version) → content_at oid vs ≡ None → (v : Version) → Has vs v → has_oid oid v ≡ false
none_has oid vs e v m = found (find (has_oid oid) vs) refl e
  where
    found : (o : Option Version) → find (has_oid oid) vs ≡ o → option_map content_of o ≡ None → has_oid oid v ≡ false
    found None none e = find_none (has_oid oid) vs none v m
    found (Some w) some e = absurd (none-some (content_of w) (sym e))

content_map : (oid : Oid) (f : Version → Version) (vs : List Version) → ((v : Version) → (f v).oid ≡ v.oid)
    → ((v : Version) → has_oid oid v ≡ true → content_of (f v) ≡ content_of v) → content_at oid (map f vs) ≡ content_at oid vs
content_map oid f [] same shows = refl
content_map oid f (v ∷ vs) same shows = step (has_oid oid v) refl (content_map oid f vs same shows)
  where
    step : (b : Bool) → has_oid oid v ≡ b → content_at oid (map f vs) ≡ content_at oid vs → content_at oid (f v ∷ map f vs) ≡ content_at oid (v ∷ vs)
    step true e rest = content_here oid (f v) (map f vs) (ap (λ o. same_oid o oid) (same v) ∙ e) ∙ ap Some (shows v e) ∙ sym (content_here oid v vs e)
    step false e rest = content_later oid (f v) (map f vs) (ap (λ o. same_oid o oid) (same v) ∙ e) ∙ rest ∙ sym (content_later oid v vs e)

content_filter : (oid : Oid) (p : Version → Bool) (vs : List Version) → ((v : Version) → has_oid oid v ≡ true → p v ≡ true) → content_at oid (filter p vs) ≡ content_at oid vs
content_filter oid p [] keeps = refl
content_filter oid p (v ∷ vs) keeps = step (p v) (has_oid oid v) refl refl (content_filter oid p vs keeps)
  where
    step : (b c : Bool) → p v ≡ b → has_oid oid v ≡ c → content_at oid (filter p vs) ≡ content_at oid vs → content_at oid (cond b (v ∷ filter p vs) (filter p vs)) ≡ content_at oid (v ∷ vs)
    step true true e d rest = content_here oid v (filter p vs) d ∙ sym (content_here oid v vs d)
    step true false e d rest = content_later oid v (filter p vs) d ∙ rest ∙ sym (content_later oid v vs d)
    step false true e d rest = absurd (false≢true (sym e ∙ keeps v d))
    step false false e d rest = rest ∙ sym (content_later oid v vs d)

content_front : (oid : Oid) (vs ws : List Version) → ((v : Version) → Has ws v → has_oid oid v ≡ false) → content_at oid (vs ++ ws) ≡ content_at oid vs
content_front oid [] ws none = content_none oid ws none
content_front oid (v ∷ vs) ws none = step (has_oid oid v) refl (content_front oid vs ws none)
  where
    step : (b : Bool) → has_oid oid v ≡ b → content_at oid (vs ++ ws) ≡ content_at oid vs → content_at oid (v ∷ (vs ++ ws)) ≡ content_at oid (v ∷ vs)
    step true e rest = content_here oid v (vs ++ ws) e ∙ sym (content_here oid v vs e)
    step false e rest = content_later oid v (vs ++ ws) e ∙ rest ∙ sym (content_later oid v vs e)

content_back : (oid : Oid) (vs ws : List Version) → ((v : Version) → Has vs v → has_oid oid v ≡ false) → content_at oid (vs ++ ws) ≡ content_at oid ws
content_back oid [] ws none = refl
content_back oid (v ∷ vs) ws none = content_later oid v (vs ++ ws) (none v (inl refl)) ∙ content_back oid vs ws (λ w m. none w (inr m))

-- what a change makes of the version with the identifier, alone
content_changed : (oid new : Oid) (f : Version → Version) (shows : Bool × List ℕ → Bool × List ℕ) (vs : List Version) → ((v : Version) → (f v).oid ≡ new)
    → ((v : Version) → content_of (f v) ≡ shows (content_of v)) → content_at new (map f (filter (has_oid oid) vs)) ≡ option_map shows (content_at oid vs)
content_changed oid new f shows [] same made = refl
content_changed oid new f shows (v ∷ vs) same made = step (has_oid oid v) refl (content_changed oid new f shows vs same made)
  where
    step : (b : Bool) → has_oid oid v ≡ b → content_at new (map f (filter (has_oid oid) vs)) ≡ option_map shows (content_at oid vs)
        → content_at new (map f (cond b (v ∷ filter (has_oid oid) vs) (filter (has_oid oid) vs))) ≡ option_map shows (content_at oid (v ∷ vs))
    step true e rest =
        content_here new (f v) (map f (filter (has_oid oid) vs)) (ap (λ o. same_oid (f v).oid o) (sym (same v)) ∙ has_own_oid (f v))
        ∙ ap Some (made v) ∙ ap (option_map shows) (sym (content_here oid v vs e))
    step false e rest = rest ∙ ap (option_map shows) (sym (content_later oid v vs e))

-- ---- a new object

pub created_others : (oid other : Oid) (vs : List Version) → (other ≡ oid → ⊥) → content_at other (created_in oid vs) ≡ content_at other vs
created_others oid other vs differ = content_front other vs (new_version oid ∷ []) none
  where
    none : (v : Version) → Has (new_version oid ∷ []) v → has_oid other v ≡ false
    none v (inl e) = other_oid other v (λ same. differ (sym same ∙ ap (λ (w : Version). w.oid) (sym e)))
    none v (inr m) = absurd m

pub created_shows : (oid : Oid) (vs : List Version) → content_at oid vs ≡ None → content_at oid (created_in oid vs) ≡ Some (false, [])
created_shows oid vs e = content_back oid vs (new_version oid ∷ []) (none_has oid vs e) ∙ content_here oid (new_version oid) [] (has_own_oid (new_version oid))

-- ---- an edit

edit_oid : (oid : Oid) (change : List ℕ → List ℕ) (v : Version) → (bytes_changed oid change v).oid ≡ v.oid
edit_oid oid change v = elim (has_oid oid v) as (λ b. (cond b (record v { bytes = change v.bytes }) v).oid ≡ v.oid) [ true ↦ refl | false ↦ refl ]

pub edited_others : (oid other : Oid) (change : List ℕ → List ℕ) (vs : List Version) → (other ≡ oid → ⊥) → content_at other (edited_in oid change vs) ≡ content_at other vs
edited_others oid other change vs differ = content_map other (bytes_changed oid change) vs (edit_oid oid change) shows
  where
    shows : (v : Version) → has_oid other v ≡ true → content_of (bytes_changed oid change v) ≡ content_of v
    shows v e = ap content_of (cond-false (has_oid oid v) (record v { bytes = change v.bytes }) v (other_oid oid v (λ same. differ (sym (oid_is v.oid other e) ∙ same))))

pub edited_shows : (oid : Oid) (change : List ℕ → List ℕ) (vs : List Version) → content_at oid (edited_in oid change vs) ≡ option_map (edited_content change) (content_at oid vs)
edited_shows oid change [] = refl
edited_shows oid change (v ∷ vs) = step (has_oid oid v) refl (edited_shows oid change vs)
  where
    step : (b : Bool) → has_oid oid v ≡ b → content_at oid (edited_in oid change vs) ≡ option_map (edited_content change) (content_at oid vs)
        → content_at oid (bytes_changed oid change v ∷ edited_in oid change vs) ≡ option_map (edited_content change) (content_at oid (v ∷ vs))
    step true e rest =
        content_here oid (bytes_changed oid change v) (edited_in oid change vs) (ap (λ o. same_oid o oid) (edit_oid oid change v) ∙ e)
        ∙ ap (λ (w : Version). Some (content_of w)) (cond-true (has_oid oid v) (record v { bytes = change v.bytes }) v e)
        ∙ ap (option_map (edited_content change)) (sym (content_here oid v vs e))
    step false e rest =
        content_later oid (bytes_changed oid change v) (edited_in oid change vs) (ap (λ o. same_oid o oid) (edit_oid oid change v) ∙ e)
        ∙ rest ∙ ap (option_map (edited_content change)) (sym (content_later oid v vs e))

-- ---- copies

move_oid : (oid : Oid) (number : ℕ) (v : Version) → (moved_onto oid number v).oid ≡ v.oid
move_oid oid number v = elim (has_oid oid v) as (λ b. (cond b (record v { older = Some number }) v).oid ≡ v.oid) [ true ↦ refl | false ↦ refl ]

move_content : (oid : Oid) (number : ℕ) (v : Version) → content_of (moved_onto oid number v) ≡ content_of v
move_content oid number v = elim (has_oid oid v) as (λ b. content_of (cond b (record v { older = Some number }) v) ≡ content_of v) [ true ↦ refl | false ↦ refl ]

copies_others : (oid copy other : Oid) (f : Version → Version) (vs : List Version) → ((v : Version) → (f v).oid ≡ copy) → (other ≡ copy → ⊥)
    → (v : Version) → Has (map f (filter (has_oid oid) vs)) v → has_oid other v ≡ false
copies_others oid copy other f vs same differ v m =
    let r = has_map_from f (filter (has_oid oid) vs) v m in
    other_oid other v (λ e. differ (sym e ∙ ap (λ (w : Version). w.oid) (sym r.2) ∙ same r.0))

pub frozen_others : (oid copy other : Oid) (vs : List Version) → (other ≡ copy → ⊥) → content_at other (frozen_in oid copy vs) ≡ content_at other vs
frozen_others oid copy other vs differ =
    content_front other (map (moved_onto oid copy.unique) vs) (map (frozen_copy copy) (filter (has_oid oid) vs)) (copies_others oid copy other (frozen_copy copy) vs (λ v. refl) differ)
    ∙ content_map other (moved_onto oid copy.unique) vs (move_oid oid copy.unique) (λ v e. move_content oid copy.unique v)

pub frozen_shows : (oid copy : Oid) (vs : List Version) → content_at copy vs ≡ None → content_at copy (frozen_in oid copy vs) ≡ option_map frozen_content (content_at oid vs)
frozen_shows oid copy vs e =
    content_back copy (map (moved_onto oid copy.unique) vs) (map (frozen_copy copy) (filter (has_oid oid) vs)) none
    ∙ content_changed oid copy (frozen_copy copy) frozen_content vs (λ v. refl) (λ v. refl)
  where
    none : (v : Version) → Has (map (moved_onto oid copy.unique) vs) v → has_oid copy v ≡ false
    none v m = let r = has_map_from (moved_onto oid copy.unique) vs v m in
        ap (has_oid copy) (sym r.2) ∙ ap (λ o. same_oid o copy) (move_oid oid copy.unique r.0) ∙ none_has copy vs e r.0 r.1

pub derived_others : (oid copy other : Oid) (vs : List Version) → (other ≡ copy → ⊥) → content_at other (derived_in oid copy vs) ≡ content_at other vs
derived_others oid copy other vs differ = content_front other vs (map (derived_copy copy) (filter (has_oid oid) vs)) (copies_others oid copy other (derived_copy copy) vs (λ v. refl) differ)

pub derived_shows : (oid copy : Oid) (vs : List Version) → content_at copy vs ≡ None → content_at copy (derived_in oid copy vs) ≡ option_map current_content (content_at oid vs)
derived_shows oid copy vs e =
    content_back copy vs (map (derived_copy copy) (filter (has_oid oid) vs)) (none_has copy vs e)
    ∙ content_changed oid copy (derived_copy copy) current_content vs (λ v. refl) (λ v. refl)

-- ---- a removal

instead_oid : (gone v : Version) → (older_instead gone v).oid ≡ v.oid
instead_oid gone v = elim (is_derived_from (unique_of gone) v) as (λ b. (cond b (record v { older = gone.older }) v).oid ≡ v.oid) [ true ↦ refl | false ↦ refl ]

instead_content : (gone v : Version) → content_of (older_instead gone v) ≡ content_of v
instead_content gone v = elim (is_derived_from (unique_of gone) v) as (λ b. content_of (cond b (record v { older = gone.older }) v) ≡ content_of v) [ true ↦ refl | false ↦ refl ]

pub without_others : (oid other : Oid) (vs : List Version) → (other ≡ oid → ⊥) → content_at other (without_in oid vs) ≡ content_at other vs
without_others oid other vs differ = found (find (has_oid oid) vs) refl
  where
    found : (o : Option Version) → find (has_oid oid) vs ≡ o → content_at other (left_by o vs) ≡ content_at other vs
    found None e = refl
    found (Some g) e =
        let is = oid_is g.oid oid (find_has (has_oid oid) vs g e).1 in
        content_map other (older_instead g) (filter (λ v. not (has_oid g.oid v)) vs) (instead_oid g) (λ v d. instead_content g v)
        ∙ content_filter other (λ v. not (has_oid g.oid v)) vs (λ v d. not_from_false (has_oid g.oid v) (other_oid g.oid v (λ same. differ (sym (oid_is v.oid other d) ∙ (same ∙ is)))))

pub without_shows : (oid : Oid) (vs : List Version) → content_at oid (without_in oid vs) ≡ None
without_shows oid vs = found (find (has_oid oid) vs) refl
  where
    found : (o : Option Version) → find (has_oid oid) vs ≡ o → content_at oid (left_by o vs) ≡ None
    found None e = ap (option_map content_of) e
    found (Some g) e = content_none oid (left_by (Some g) vs) gone
      where
        gone : (v : Version) → Has (left_by (Some g) vs) v → has_oid oid v ≡ false
        gone v m =
            let r = has_map_from (older_instead g) (filter (λ w. not (has_oid g.oid w)) vs) v m in
            let k = has_filter_from (λ w. not (has_oid g.oid w)) vs r.0 r.1 in
            let is = oid_is g.oid oid (find_has (has_oid oid) vs g e).1 in
            ap (has_oid oid) (sym r.2) ∙ ap (λ o. same_oid o oid) (instead_oid g r.0) ∙ ap (λ o. has_oid o r.0) (sym is) ∙ not-true (has_oid g.oid r.0) k.1

-- ---- frozen versions

-- what a version of a rising list shows
content_own : (vs : List Version) (v : Version) → Rises unique_of vs → Has vs v → content_at v.oid vs ≡ Some (content_of v)
content_own vs v up m = ap (option_map content_of) (found_by_oid v.oid vs v up m (has_own_oid v))

-- a frozen one shows after an update what it shows before, where the update keeps what its identifier shows
pub still_frozen : (vs ws : List Version) (v : Version) → Rises unique_of vs → Has vs v → v.frozen ≡ true → content_at v.oid ws ≡ content_at v.oid vs → content_at v.oid ws ≡ Some (true, v.bytes)
still_frozen vs ws v up m frozen same = same ∙ content_own vs v up m ∙ ap (λ b. Some (b, v.bytes)) frozen

pub newer_differs : (vs : List Version) (oid : Oid) (v : Version) → ((w : Version) → Has vs w → unique_of w < oid.unique) → Has vs v → v.oid ≡ oid → ⊥
newer_differs vs oid v below m e = let l = below v m in let d = ap (λ (o : Oid). o.unique) e in omega (arith, l, d)

pub current_differs : (vs : List Version) (oid : Oid) (v : Version) → Rises unique_of vs → NoneFrozen oid vs → Has vs v → v.frozen ≡ true → v.oid ≡ oid → ⊥
current_differs vs oid v up none m frozen e =
    let is = found_by_oid oid vs v up m (ap (λ o. has_oid o v) (sym e) ∙ has_own_oid v) in
    false≢true (sym (MatchOption-at_some (Unit {0}) (λ (w : Version). w.frozen ≡ false) v is none) ∙ frozen)
