-- The links of each version.
use Rattle.std.proofs.Common.{◌≡◌, ◌<◌, ◌≤◌, ◌+◌, ℕ, true, false, List, [], ◌∷◌, ◌++◌, length, map, take, get_or, Option, None, sym, ap, ◌∙◌}
use Rattle.std.proofs.lemmas.Bool.{cond-true, cond-false}
use Rattle.std.proofs.lemmas.List.{map_push, take_more, take_all, get_or_default}
use Rattle.ex_base.specs.declared.names.Place.{Place}
use Rattle.history_links.specs.declared.Links.{Links}
use Rattle.history_links.specs.declared.PlacedVersion.{PlacedVersion}
use Rattle.history_links.specs.declared.derived.Derived.{Derived}
use Rattle.history_links.specs.Found.{AreDerived, OlderIs, told, version_at}
use Rattle.history_links.specs.Linked.{derived_from, links_of, newer_in, only_place, place_if}
use Rattle.history_links.proofs.Counting.{derived_here}

-- that of a frozen one
pub newer_of_frozen : (vs : List PlacedVersion) (derived : List Derived) (k : ℕ) (d : PlacedVersion) (e : Derived) (newer : Option Place) → AreDerived vs (length vs) derived → k < length vs → (get_or vs k d).frozen ≡ true
    → ((from : List PlacedVersion) → get_or derived k e ≡ told from → newer ≡ only_place from) → newer ≡ newer_in vs (version_at vs k)
newer_of_frozen vs derived k d e newer so l frozen only =
    let here : version_at vs k ≡ get_or vs k d = get_or_default vs k (version_at [] 0) d l in
    only (derived_from (version_at vs k).unique vs) (derived_here vs derived k e so l)
    ∙ sym (cond-true (version_at vs k).frozen (only_place (derived_from (version_at vs k).unique vs)) None (ap (λ (v : PlacedVersion). v.frozen) here ∙ frozen))

-- that of a current one
pub newer_of_current : (vs : List PlacedVersion) (k : ℕ) (d : PlacedVersion) → k < length vs → (get_or vs k d).frozen ≡ false → None ≡ newer_in vs (version_at vs k)
newer_of_current vs k d l current =
    let here : version_at vs k ≡ get_or vs k d = get_or_default vs k (version_at [] 0) d l in
    sym (cond-false (version_at vs k).frozen (only_place (derived_from (version_at vs k).unique vs)) None (ap (λ (v : PlacedVersion). v.frozen) here ∙ current))

-- one version more is linked
pub linked_more : (vs : List PlacedVersion) (olders : List (Option ℕ)) (i : ℕ) (links now : List Links) (one : Links) (o : Option ℕ) → i < length vs → OlderIs vs (version_at vs i) o
    → ((v : PlacedVersion) → OlderIs vs v o → one.older ≡ place_if vs v.older) → one.newer ≡ newer_in vs (version_at vs i) → links ≡ map (links_of vs) (take i vs) → now ≡ links ++ one ∷ []
    → now ≡ map (links_of vs) (take (i + 1) vs)
linked_more vs olders i links now one o l is older newer so e =
    let same : one ≡ links_of vs (version_at vs i) = λ k. record { older = older (version_at vs i) is k; newer = newer k } in
    e ∙ (λ k. so k ++ same k ∷ []) ∙ sym (ap (map (links_of vs)) (take_more vs i (version_at [] 0) l) ∙ map_push (links_of vs) (take i vs) (version_at vs i))

pub linked_all : (vs : List PlacedVersion) (i : ℕ) (links : List Links) → length vs ≤ i → links ≡ map (links_of vs) (take i vs) → links ≡ map (links_of vs) vs
linked_all vs i links high so = so ∙ ap (map (links_of vs)) (take_all i vs high)
