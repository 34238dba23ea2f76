-- A removal leaves no more objects than there were.
use Rattle.std.proofs.Common.{◌≡◌, ℕ, ◌+◌, ◌≤◌, List, [], ◌∷◌, length, map, refl, ap, sym, ◌∙◌, arith, Bool, true, false, cond, not, ◌&&◌, Option, Some, None, inl}
use Rattle.std.specs.Prelude.{filter, find}
use Rattle.std.proofs.lemmas.Bool.{false≢true, and_from}
use Rattle.std.proofs.lemmas.Option.{MatchOption-at_some}
use Rattle.ex_base.specs.declared.names.Oid.{Oid}
use Rattle.version_lists.specs.declared.version.Version.{Version}
use Rattle.version_lists.specs.Versions.{unique_of, has_oid, is_first, is_derived_from, derived_from}
use Rattle.version_lists.specs.Objects.{objects_formed}
use Rattle.version_lists.specs.Changes.{older_instead, left_by, without_in, NotBranched}
use Rattle.version_lists.proofs.Lists.{Has, contains_has, has_length, has_filter, filter_cons, rises_one, find_has}
use Rattle.version_lists.proofs.Links.{Linked, older_of, derived_has, test_number}
use Rattle.version_lists.proofs.Removal.{has_own_oid, instead_this, instead_other}
use Rattle.version_lists.proofs.Forming.{as_many_objects}

-- one of a version that passes, and none of another
abbrev one : Bool → ℕ
one b = cond b 1 0

abbrev firsts_left : Version → List Version → List Version
firsts_left g vs = filter is_first (map (older_instead g) (filter (λ v. not (has_oid g.oid v)) vs))

one_most : (b : Bool) → one b ≤ 1
one_most true = omega arith
one_most false = omega arith

left_cons : (g v : Version) (vs : List Version) → length (firsts_left g (v ∷ vs)) ≡ one (not (has_oid g.oid v) && is_first (older_instead g v)) + length (firsts_left g vs)
left_cons g v vs = counted (not (has_oid g.oid v))
  where
    counted : (b : Bool) → length (filter is_first (map (older_instead g) (cond b (v ∷ filter (λ w. not (has_oid g.oid w)) vs) (filter (λ w. not (has_oid g.oid w)) vs))))
        ≡ one (b && is_first (older_instead g v)) + length (firsts_left g vs)
    counted true = filter_cons is_first (older_instead g v) (map (older_instead g) (filter (λ w. not (has_oid g.oid w)) vs))
    counted false = omega arith

-- one that stays is a first one afterwards where it was, or was derived from the one that goes
one_left : (g v : Version) → one (not (has_oid g.oid v) && is_first (older_instead g v)) + one (has_oid g.oid v && is_first v) ≤ one (is_first v) + one (is_derived_from (unique_of g) v)
one_left g v = counted (has_oid g.oid v) (is_derived_from (unique_of g) v) refl
  where
    counted : (b c : Bool) → is_derived_from (unique_of g) v ≡ c → one (not b && is_first (older_instead g v)) + one (b && is_first v) ≤ one (is_first v) + one c
    counted true c f = omega arith
    counted false true f = let l = one_most (is_first (older_instead g v)) in omega (arith, l)
    counted false false f =
        let e = ap (λ (w : Version). one (is_first w)) (instead_other g v f) in
        omega (arith, e)

-- those that go have no older one, and those that come were derived from the one that goes
left_firsts : (g : Version) (vs : List Version)
    → length (firsts_left g vs) + length (filter (λ v. has_oid g.oid v && is_first v) vs) ≤ length (filter is_first vs) + length (derived_from (unique_of g) vs)
left_firsts g [] = omega arith
left_firsts g (v ∷ vs) =
    let left = left_cons g v vs in
    let gone = filter_cons (λ w. has_oid g.oid w && is_first w) v vs in
    let were = filter_cons is_first v vs in
    let derived = filter_cons (is_derived_from (unique_of g)) v vs in
    let here = one_left g v in
    let rest = left_firsts g vs in
    omega (arith, left, gone, were, derived, here, rest)

-- where the one that goes has an older one, none becomes a first one
left_no_firsts : (g : Version) (vs : List Version) → is_first g ≡ false → length (firsts_left g vs) ≤ length (filter is_first vs)
left_no_firsts g [] e = omega arith
left_no_firsts g (v ∷ vs) e =
    let left = left_cons g v vs in
    let were = filter_cons is_first v vs in
    let here = counted (has_oid g.oid v) (is_derived_from (unique_of g) v) refl in
    let rest = left_no_firsts g vs e in
    omega (arith, left, were, here, rest)
  where
    counted : (b c : Bool) → is_derived_from (unique_of g) v ≡ c → one (not b && is_first (older_instead g v)) ≤ one (is_first v)
    counted true c f = omega arith
    counted false true f =
        let d = ap one (ap is_first (instead_this g v (test_number (unique_of g) v.older f)) ∙ e) in
        omega (arith, d)
    counted false false f = let d = ap (λ (w : Version). one (is_first w)) (instead_other g v f) in omega (arith, d)

-- from a current version none is derived
none_from_current : (vs : List Version) → Linked vs → (g : Version) → Has vs g → g.frozen ≡ false → length (derived_from (unique_of g) vs) ≡ 0
none_from_current vs linked g m current = none (derived_from (unique_of g) vs) (λ d k. derived_has vs (unique_of g) d k)
  where
    none : (ds : List Version) → ((d : Version) → Has ds d → Has vs d × (d.older ≡ Some (unique_of g))) → length ds ≡ 0
    none [] h = refl
    none (d ∷ ds) h =
        let r = h d (inl refl) in
        let o = older_of vs d (unique_of g) (linked.1 d r.0) r.1 in
        let same = rises_one unique_of vs o.older g linked.0 (contains_has vs o.older o.there) m o.number_is in
        absurd (false≢true (sym current ∙ ap (λ (w : Version). w.frozen) (sym same) ∙ o.frozen))

splits_none : (vs : List Version) → Linked vs → (g : Version) → Has vs g → (g.frozen ≡ true → length (derived_from (unique_of g) vs) ≤ 1)
    → length (filter is_first (left_by (Some g) vs)) ≤ length (filter is_first vs)
splits_none vs linked g m asked = by_first (is_first g) refl
  where
    at_most : (b : Bool) → g.frozen ≡ b → length (derived_from (unique_of g) vs) ≤ 1
    at_most true e = asked e
    at_most false e = let n = none_from_current vs linked g m e in omega (arith, n)

    by_first : (b : Bool) → is_first g ≡ b → length (firsts_left g vs) ≤ length (filter is_first vs)
    by_first false e = left_no_firsts g vs e
    by_first true e =
        let all = left_firsts g vs in
        let one = at_most g.frozen refl in
        let gone = has_length (filter (λ v. has_oid g.oid v && is_first v) vs) g (has_filter (λ v. has_oid g.oid v && is_first v) vs g m (and_from _ _ (has_own_oid g) e)) in
        omega (arith, all, one, gone)

pub removal_splits_none : (oid : Oid) (vs : List Version) → Linked vs → NotBranched oid vs → length (objects_formed (without_in oid vs)) ≤ length (objects_formed vs)
removal_splits_none oid vs linked asked =
    let before = as_many_objects vs in
    let after = as_many_objects (without_in oid vs) in
    let fewer = found (find (has_oid oid) vs) refl in
    omega (arith, before, after, fewer)
  where
    found : (o : Option Version) → find (has_oid oid) vs ≡ o → length (filter is_first (left_by o vs)) ≤ length (filter is_first vs)
    found None e = omega arith
    found (Some g) e =
        splits_none vs linked g (find_has (has_oid oid) vs g e).0
        (MatchOption-at_some (Unit {0}) (λ (v : Version). v.frozen ≡ true → length (derived_from (unique_of v) vs) ≤ 1) g e asked)
