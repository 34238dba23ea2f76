-- The versions of an object as they are listed: each once, and the first one first.
use Rattle.std.proofs.Common.{◌≡◌, ℕ, zero, suc, ◌+◌, ◌≤◌, List, [], ◌∷◌, ◌++◌, length, length-append, refl, ap, sym, subst, ◌∙◌, arith, Bool, true, false, cond, is_none, Some, None, inl, inr}
use Rattle.std.specs.Prelude.{filter, flat_map, ◌==◌}
use Rattle.std.specs.List.Sorted.{IsPermutation}
use Rattle.std.proofs.lemmas.Bool.{eqb-true, eq-eqb, ne_eqb, false≢true, cases_eq}
use Rattle.std.proofs.lemmas.Option.{same_Some, none-some}
use Rattle.std.proofs.lemmas.List.Elements.{filter-append}
use Rattle.std.proofs.lemmas.List.Sorted.{IsPermutation-sym}
use Rattle.version_lists.specs.declared.version.Version.{Version}
use Rattle.version_lists.specs.Sorted.{in_order}
use Rattle.version_lists.specs.Versions.{unique_of, is_first, is_derived_from, derived_from, listed_from, listed}
use Rattle.version_lists.specs.Objects.{IsTree, BeginsWithFirst}
use Rattle.version_lists.proofs.Lists.{Has, has_length, length_has, has_filter, has_filter_from, has_flat_from, filter_none, Rises, rises_filter, rises_one, rising_agree}
use Rattle.version_lists.proofs.Sorted.{Unlike, order_permutation, order_is}
use Rattle.version_lists.proofs.Trees.{single}
use Rattle.version_lists.proofs.Links.{Linked, derived_has, has_derived}
use Rattle.version_lists.proofs.Climbing.{Parent, all_climb}

-- ---- how often a number is among versions

abbrev times : ℕ → List Version → ℕ
times number vs = length (filter (λ v. unique_of v == number) vs)

-- once in a version of that number
abbrev here : ℕ → Version → ℕ
here number v = cond (unique_of v == number) 1 0

times_cons : (number : ℕ) (v : Version) (vs : List Version) → times number (v ∷ vs) ≡ here number v + times number vs
times_cons number v vs = counted (unique_of v == number)
  where
    counted : (b : Bool) → length (cond b (v ∷ filter (λ w. unique_of w == number) vs) (filter (λ w. unique_of w == number) vs)) ≡ cond b 1 0 + length (filter (λ w. unique_of w == number) vs)
    counted true = omega arith
    counted false = omega arith

times_append : (number : ℕ) (vs ws : List Version) → times number (vs ++ ws) ≡ times number vs + times number ws
times_append number vs ws =
    ap length (filter-append (λ v. unique_of v == number) vs ws) ∙ length-append (filter (λ v. unique_of v == number) vs) (filter (λ v. unique_of v == number) ws)

here_same : (number : ℕ) (v : Version) → unique_of v ≡ number → here number v ≡ 1
here_same number v e = ap (λ b. cond b 1 0) (eq-eqb (unique_of v) number e)

here_other : (number : ℕ) (v : Version) → (unique_of v ≡ number → ⊥) → here number v ≡ 0
here_other number v e = ap (λ b. cond b 1 0) (ne_eqb (unique_of v) number e)

times_one : (vs : List Version) (v : Version) → Rises unique_of vs → Has vs v → times (unique_of v) vs ≡ 1
times_one vs v up m = ap length (rising_agree unique_of (filter (λ w. unique_of w == unique_of v) vs) (v ∷ []) (rises_filter unique_of (λ w. unique_of w == unique_of v) vs up) ((λ w k. absurd k), tt) to from)
  where
    to : (w : Version) → Has (filter (λ w. unique_of w == unique_of v) vs) w → Has (v ∷ []) w
    to w k = let r = has_filter_from (λ w. unique_of w == unique_of v) vs w k in inl (rises_one unique_of vs v w up m r.0 (sym (eqb-true (unique_of w) (unique_of v) r.1)))

    from : (w : Version) → Has (v ∷ []) w → Has (filter (λ w. unique_of w == unique_of v) vs) w
    from w (inl e) = subst (Has (filter (λ w. unique_of w == unique_of v) vs)) e (has_filter (λ w. unique_of w == unique_of v) vs v m (eq-eqb (unique_of v) (unique_of v) refl))
    from w (inr k) = absurd k

times_none : (number : ℕ) (vs : List Version) → ((v : Version) → Has vs v → unique_of v ≡ number → ⊥) → times number vs ≡ 0
times_none number vs none = ap length (filter_none (λ v. unique_of v == number) vs (λ v m. ne_eqb (unique_of v) number (none v m)))

-- of lists joined, in each of which it is as often as in its version
times_flat : (number : ℕ) (f : Version → List Version) (vs : List Version) → ((v : Version) → Has vs v → times number (f v) ≡ here number v)
    → times number (flat_map f vs) ≡ times number vs
times_flat number f [] each = refl
times_flat number f (v ∷ vs) each =
    let a = times_append number (f v) (flat_map f vs) in
    let b = each v (inl refl) in
    let c = times_flat number f vs (λ w m. each w (inr m)) in
    let d = times_cons number v vs in
    omega (arith, a, b, c, d)

-- or that and as often as another one in other lists
times_flat_both : (number other : ℕ) (f g : Version → List Version) (vs : List Version)
    → ((v : Version) → Has vs v → times number (f v) ≡ here number v + times other (g v))
    → times number (flat_map f vs) ≡ times number vs + times other (flat_map g vs)
times_flat_both number other f g [] each = refl
times_flat_both number other f g (v ∷ vs) each =
    let a = times_append number (f v) (flat_map f vs) in
    let b = each v (inl refl) in
    let c = times_flat_both number other f g vs (λ w m. each w (inr m)) in
    let d = times_cons number v vs in
    let e = times_append other (g v) (flat_map g vs) in
    omega (arith, a, b, c, d, e)

has_times : (number : ℕ) (vs : List Version) (v : Version) → Has vs v → unique_of v ≡ number → 1 ≤ times number vs
has_times number vs v m e = has_length (filter (λ w. unique_of w == number) vs) v (has_filter (λ w. unique_of w == number) vs v m (eq-eqb (unique_of v) number e))

unlike_times : (vs : List Version) → ((v : Version) → Has vs v → times (unique_of v) vs ≤ 1) → Unlike unique_of vs
unlike_times [] most = tt
unlike_times (v ∷ vs) most = (apart, unlike_times vs (λ w m. let l = most w (inr m) in let c = times_cons (unique_of w) v vs in omega (arith, l, c)))
  where
    apart : (w : Version) → Has vs w → unique_of v ≡ unique_of w → ⊥
    apart w m e =
        let l = most v (inl refl) in
        let c = times_cons (unique_of v) v vs in
        let h = here_same (unique_of v) v refl in
        let n = has_times (unique_of v) vs w m (sym e) in
        omega (arith, l, c, h, n)

-- ---- what is listed

module _ (vs : List Version) (linked : Linked vs) where
  listed_step : (n : ℕ) (v : Version) → listed_from (suc n) vs v ≡ v ∷ flat_map (listed_from n vs) (derived_from (unique_of v) vs)
  unfolding listed_from
  listed_step n v = refl

  listed_zero : (v : Version) → listed_from zero vs v ≡ v ∷ []
  unfolding listed_from
  listed_zero v = refl

  times_step : (number n : ℕ) (v : Version) → times number (listed_from (suc n) vs v) ≡ here number v + times number (flat_map (listed_from n vs) (derived_from (unique_of v) vs))
  times_step number n v = ap (times number) (listed_step n v) ∙ times_cons number v (flat_map (listed_from n vs) (derived_from (unique_of v) vs))

  times_zero : (number : ℕ) (v : Version) → times number (listed_from zero vs v) ≡ here number v
  times_zero number v = ap (times number) (listed_zero v) ∙ (let c = times_cons number v [] in omega (arith, c))

  derived_in_all : (number : ℕ) (d : Version) → Has (derived_from number vs) d → Has vs d
  derived_in_all number d m = (derived_has vs number d m).0

  -- a first version is listed with itself alone
  first_times : (w : Version) → Has vs w → w.older ≡ None → (n : ℕ) (v : Version) → Has vs v → times (unique_of w) (listed_from n vs v) ≡ here (unique_of w) v
  first_times w h first zero v m = times_zero (unique_of w) v
  first_times w h first (suc n) v m =
      let a = times_step (unique_of w) n v in
      let b = times_flat (unique_of w) (listed_from n vs) (derived_from (unique_of v) vs) (λ d k. first_times w h first n d (derived_in_all (unique_of v) d k)) in
      let c = times_none (unique_of w) (derived_from (unique_of v) vs) none in
      omega (arith, a, b, c)
    where
      none : (d : Version) → Has (derived_from (unique_of v) vs) d → unique_of d ≡ unique_of w → ⊥
      none d k e = let r = derived_has vs (unique_of v) d k in
          none-some (unique_of v) (sym first ∙ ap (λ (x : Version). x.older) (sym (rises_one unique_of vs d w linked.0 r.0 h e)) ∙ r.1)

  -- among those that are derived from one is each that has it as its older one
  derived_times : (w : Version) → Has vs w → (p : Parent vs w) → (v : Version) → Has vs v → times (unique_of w) (derived_from (unique_of v) vs) ≡ here (unique_of p.parent) v
  derived_times w h p v m = elim (cases_eq (unique_of v) (unique_of p.parent)) [
    | inl e ↦ times_one (derived_from (unique_of v) vs) w (rises_filter unique_of (is_derived_from (unique_of v)) vs linked.0) (has_derived vs (unique_of v) w h (p.is ∙ ap Some (sym e)))
        ∙ sym (here_same (unique_of p.parent) v e)
    | inr differ ↦ times_none (unique_of w) (derived_from (unique_of v) vs) (none differ) ∙ sym (here_other (unique_of p.parent) v differ)
  ]
    where
      none : (unique_of v ≡ unique_of p.parent → ⊥) → (d : Version) → Has (derived_from (unique_of v) vs) d → unique_of d ≡ unique_of w → ⊥
      none differ d k e = let r = derived_has vs (unique_of v) d k in
          differ (same_Some (unique_of v) (unique_of p.parent) (sym r.1 ∙ ap (λ (x : Version). x.older) (rises_one unique_of vs d w linked.0 r.0 h e) ∙ p.is))

  -- another one is listed where its older one is, a level further down
  next_times : (w : Version) → Has vs w → (p : Parent vs w) → (n : ℕ) (v : Version) → Has vs v
      → times (unique_of w) (listed_from (suc n) vs v) ≡ here (unique_of w) v + times (unique_of p.parent) (listed_from n vs v)
  next_times w h p zero v m =
      let a = times_step (unique_of w) zero v in
      let b = times_flat (unique_of w) (listed_from zero vs) (derived_from (unique_of v) vs) (λ d k. times_zero (unique_of w) d) in
      let c = derived_times w h p v m in
      let d = times_zero (unique_of p.parent) v in
      omega (arith, a, b, c, d)
  next_times w h p (suc n) v m =
      let a = times_step (unique_of w) (suc n) v in
      let b = times_flat_both (unique_of w) (unique_of p.parent) (listed_from (suc n) vs) (listed_from n vs) (derived_from (unique_of v) vs)
      (λ d k. next_times w h p n d (derived_in_all (unique_of v) d k)) in
      let c = derived_times w h p v m in
      let d = times_step (unique_of p.parent) n v in
      omega (arith, a, b, c, d)

  abbrev down : ℕ → List Version
  down n = flat_map (listed_from n vs) (filter is_first vs)

  first_in_all : (v : Version) → Has (filter is_first vs) v → Has vs v
  first_in_all v m = (has_filter_from is_first vs v m).0

  once_first : (n : ℕ) (w : Version) → Has vs w → w.older ≡ None → times (unique_of w) (down n) ≡ 1
  once_first n w h first =
      times_flat (unique_of w) (listed_from n vs) (filter is_first vs) (λ v m. first_times w h first n v (first_in_all v m))
      ∙ times_one (filter is_first vs) w (rises_filter unique_of is_first vs linked.0) (has_filter is_first vs w h (ap is_none first))

  once_next : (n : ℕ) (w : Version) → Has vs w → (p : Parent vs w) → times (unique_of p.parent) (down n) ≡ 1 → times (unique_of w) (down (suc n)) ≡ 1
  once_next n w h p once =
      let a = times_flat_both (unique_of w) (unique_of p.parent) (listed_from (suc n) vs) (listed_from n vs) (filter is_first vs) (λ v m. next_times w h p n v (first_in_all v m)) in
      let b = times_none (unique_of w) (filter is_first vs) none in
      omega (arith, a, b, once)
    where
      none : (v : Version) → Has (filter is_first vs) v → unique_of v ≡ unique_of w → ⊥
      none v m e = let r = has_filter_from is_first vs v m in
          false≢true (ap is_none (sym p.is) ∙ ap (λ (x : Version). is_none x.older) (sym (rises_one unique_of vs v w linked.0 r.0 h e)) ∙ r.1)

  listed_once : (w : Version) → Has vs w → times (unique_of w) (listed vs) ≡ 1
  listed_once w m = all_climb vs linked (λ n w. times (unique_of w) (down n) ≡ 1) once_first once_next w m (length vs) (omega arith)

  from_in_all : (n : ℕ) (v x : Version) → Has vs v → Has (listed_from n vs v) x → Has vs x
  from_in_all zero v x m k = elim (subst (λ l. Has l x) (listed_zero v) k) [ inl e ↦ subst (Has vs) e m | inr n ↦ absurd n ]
  from_in_all (suc n) v x m k = elim (subst (λ l. Has l x) (listed_step n v) k) [
    | inl e ↦ subst (Has vs) e m
    | inr j ↦ let r = has_flat_from (listed_from n vs) (derived_from (unique_of v) vs) x j in from_in_all n r.0 x (derived_in_all (unique_of v) r.0 r.1) r.2
  ]

  listed_in_all : (x : Version) → Has (listed vs) x → Has vs x
  listed_in_all x m = let r = has_flat_from (listed_from (length vs) vs) (filter is_first vs) x m in from_in_all (length vs) r.0 x (first_in_all r.0 r.1) r.2

  all_in_listed : (x : Version) → Has vs x → Has (listed vs) x
  all_in_listed x m =
      let once = listed_once x m in
      let r = length_has (filter (λ v. unique_of v == unique_of x) (listed vs)) (omega (arith, once)) in
      let k = has_filter_from (λ v. unique_of v == unique_of x) (listed vs) r.0 r.1 in
      subst (Has (listed vs)) (rises_one unique_of vs r.0 x linked.0 (listed_in_all r.0 k.0) m (eqb-true (unique_of r.0) (unique_of x) k.1)) k.0

  listed_in_order : in_order unique_of (listed vs) ≡ vs
  listed_in_order =
      order_is unique_of (listed vs) vs (unlike_times (listed vs) (λ v m. let once = listed_once v (listed_in_all v m) in omega (arith, once))) linked.0 listed_in_all all_in_listed

  pub listed_permutation : IsPermutation vs (listed vs)
  listed_permutation = IsPermutation-sym (listed vs) vs (subst (IsPermutation (listed vs)) listed_in_order (order_permutation unique_of (listed vs)))

-- ---- the first one

begins_at : (vs : List Version) (first : Version) → filter is_first vs ≡ first ∷ [] → (n : ℕ) → (rest : List Version) × (flat_map (listed_from n vs) (filter is_first vs) ≡ first ∷ rest)
unfolding listed_from
begins_at vs first one zero = ([], ap (flat_map (listed_from zero vs)) one)
begins_at vs first one (suc n) = (flat_map (listed_from n vs) (derived_from (unique_of first) vs) ++ [], ap (flat_map (listed_from (suc n) vs)) one)

pub listed_begins : (vs : List Version) → IsTree vs → BeginsWithFirst (listed vs)
listed_begins vs tree =
    let one = single (filter is_first vs) tree.one in
    let r = begins_at vs one.0 one.1 (length vs) in
    let m = has_filter_from is_first vs one.0 (subst (λ l. Has l one.0) (sym one.1) (inl refl)) in
    record { first = one.0; rest = r.0; begins = r.1; is = m.1 }
