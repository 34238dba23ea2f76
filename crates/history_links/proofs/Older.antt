-- The older one of each version.
use Rattle.std.proofs.Common.{◌≡◌, ◌<◌, ◌≤◌, ◌+◌, below_more, ℕ, List, [], ◌∷◌, ◌++◌, length, get_or, Option, Some, None, IfSome, refl, sym, ap, subst, ◌∙◌, arith}
use Rattle.std.proofs.lemmas.List.{get_or_default, get_or_append_left, get_or_push, length_push}
use Rattle.history_links.specs.declared.PlacedVersion.{PlacedVersion}
use Rattle.history_links.specs.Found.{AreOlders, IsNoNumber, OlderIs, version_at}
use Rattle.history_links.specs.Linked.{NumbersRise, place_if}
use Rattle.history_links.proofs.NumberOrder.{place_nowhere, place_there}

-- the older ones of the first n versions
pub record ToldTo (vs : List PlacedVersion) (n : ℕ) (olders : List (Option ℕ)) : Type 0 where
  pub within : n ≤ length vs
  pub are : AreOlders vs n olders

pub none_told : (vs : List PlacedVersion) (olders : List (Option ℕ)) → olders ≡ [] → ToldTo vs 0 olders
none_told vs olders e = subst (ToldTo vs 0) (sym e) (record { within = omega arith; are = record { len = refl; each = λ k l. absurd (omega arith) } })

pub told_more : (vs : List PlacedVersion) (n : ℕ) (olders now : List (Option ℕ)) (o : Option ℕ) (d : PlacedVersion) → n < length vs → ToldTo vs n olders → OlderIs vs (get_or vs n d) o → now ≡ olders ++ o ∷ [] → ToldTo vs (n + 1) now
told_more vs n olders now o d l so is e = subst (ToldTo vs (n + 1)) (sym e) (record {
  within = omega (arith, l);
  are = record {
    len = length_push olders o ∙ ap (λ (k : ℕ). k + 1) so.are.len;
    each = below_more (λ k. OlderIs vs (version_at vs k) (get_or (olders ++ o ∷ []) k None)) n
        (λ k below. subst (OlderIs vs (version_at vs k)) (sym (get_or_append_left olders (o ∷ []) None k (omega (arith, so.are.len, below)))) (so.are.each k below))
        (subst (OlderIs vs (version_at vs n)) (sym (get_or_push olders o None n so.are.len)) (subst (λ (v : PlacedVersion). OlderIs vs v o) (get_or_default vs n d (version_at [] 0) l) is));
  };
})

pub told_all : (vs : List PlacedVersion) (n : ℕ) (olders : List (Option ℕ)) → length vs ≤ n → ToldTo vs n olders → AreOlders vs (length vs) olders
told_all vs n olders high so = subst (λ (k : ℕ). AreOlders vs k olders) (omega (arith, high, so.within)) so.are

-- what is told of the version at an index
pub older_here : (vs : List PlacedVersion) (olders : List (Option ℕ)) (k : ℕ) (d : Option ℕ) → AreOlders vs (length vs) olders → k < length vs → OlderIs vs (version_at vs k) (get_or olders k d)
older_here vs olders k d are l = subst (OlderIs vs (version_at vs k)) (get_or_default olders k None d (omega (arith, are.len, l))) (are.each k l)

-- an index that is named is one of a version
pub index_within : (vs : List PlacedVersion) (v : PlacedVersion) (o : Option ℕ) (n : ℕ) → OlderIs vs v o → n ≡ length vs → IfSome o (λ at. at < n)
index_within vs v None n is e = tt
index_within vs v (Some at) n is e = let below : at < n = omega (arith, is.0, e) in below

-- its place is that of the older one
pub place_of_older : (vs : List PlacedVersion) (v : PlacedVersion) (at : ℕ) → NumbersRise vs → OlderIs vs v (Some at) → Some (version_at vs at).place ≡ place_if vs v.older
place_of_older vs v at rising is = sym (ap (place_if vs) is.1 ∙ place_there vs at rising is.0)

pub no_place : (vs : List PlacedVersion) (v : PlacedVersion) → OlderIs vs v None → None ≡ place_if vs v.older
no_place vs v is = by v.older is
  where
    by : (o : Option ℕ) → ((number : ℕ) → o ≡ Some number → IsNoNumber vs number) → None ≡ place_if vs o
    by None none = refl
    by (Some number) none = sym (place_nowhere vs number (none number refl))
