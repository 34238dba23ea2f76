-- Versions of one object with the one at an index, by their least numbers.
use Rattle.std.proofs.Common.{◌≡◌, ◌<◌, ◌≤◌, ◌+◌, ℕ, List, length, get_or, inl, inr, sym, ap, subst, ◌∙◌, arith}
use Rattle.std.proofs.lemmas.Bool.{cases_lt}
use Rattle.std.proofs.lemmas.Option.{get_or_from_slice_get, slice_get-get_or}
use Rattle.packing.specs.Loop.{IsOfOne}
use Rattle.packing.specs.declared.objects.LargeVersion.{LargeVersion}

of_one : (versions : List LargeVersion) (i j : ℕ) (d e : LargeVersion) → (get_or versions i d).least ≡ (get_or versions j e).least → IsOfOne versions i j
of_one versions i j d e same a b here there =
    ap (λ (v : LargeVersion). v.least) (sym (get_or_from_slice_get versions i a d here)) ∙ same ∙ ap (λ (v : LargeVersion). v.least) (get_or_from_slice_get versions j b e there)

pub of_another : (versions : List LargeVersion) (i j : ℕ) (d e : LargeVersion) → i < length versions → j < length versions → ((get_or versions i d).least ≡ (get_or versions j e).least → ⊥) → IsOfOne versions i j → ⊥
of_another versions i j d e one other differ is = differ (is (get_or versions i d) (get_or versions j e) (slice_get-get_or versions i d one) (slice_get-get_or versions j e other))

-- Each version from an index on, to another one, is of one object with the first of them.
pub record AreOfOneTo (versions : List LargeVersion) (from n : ℕ) : Type 0 where
  pub some : from < n
  pub same : (k : ℕ) → from ≤ k → k < n → IsOfOne versions from k

pub first_of_one : (versions : List LargeVersion) (from : ℕ) → AreOfOneTo versions from (from + 1)
first_of_one versions from = record {
  some = omega arith;
  same = λ k high low.
      let here : from ≡ k = omega (arith, high, low) in
      subst (IsOfOne versions from) here
      (λ a b one other. ap (λ (v : LargeVersion). v.least) (sym (get_or_from_slice_get versions from a a one) ∙ get_or_from_slice_get versions from b a other));
}

pub next_of_one : (versions : List LargeVersion) (from n : ℕ) (d e : LargeVersion) → (get_or versions from d).least ≡ (get_or versions n e).least → AreOfOneTo versions from n → AreOfOneTo versions from (n + 1)
next_of_one versions from n d e least so = record {
  some = omega (arith, so.some);
  same = λ k high low. elim (cases_lt k n) [
    | inl before ↦ so.same k high before
    | inr last ↦
        let here : n ≡ k = omega (arith, low, last) in
        subst (IsOfOne versions from) here (of_one versions from n d e least)
  ];
}
