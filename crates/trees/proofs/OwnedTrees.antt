-- Trees of roots that are owners: each of their units has an owner, so units that agree with these wherever there is one spell the same trees.
use Rattle.std.proofs.Common.{◌≡◌, inl, inr, ℕ, zero, suc, ◌≤◌, Bool, List, [], ◌∷◌, Option, Some, None, refl, subst, arith}
use Rattle.std.specs.Prelude.{map}
use Rattle.std.specs.List.{AllByRecursion}
use Rattle.ex_base.specs.declared.geometry.Geometry.{Geometry}
use Rattle.ex_base.specs.declared.names.PageNo.{PageNo}
use Rattle.ex_base.specs.declared.names.Root.{Root}
use Rattle.ex_base.specs.Area.{catalog_no}
use Rattle.ex_base.specs.Ports.{times}
use Rattle.ex_base.proofs.Counts.{times-append, times_here}
use Rattle.ex_base.proofs.Each.{each_joined}
use Rattle.trees.specs.declared.Pair.{Pair}
use Rattle.trees.specs.Names.{page_of_pair}
use Rattle.trees.specs.Node.{pairs_on}
use Rattle.trees.specs.Owners.{IsOwned, page_here, root_pages}
use Rattle.trees.specs.Shown.{BytesShown}
use Rattle.trees.specs.Trees.{Units, IsNamed, RootNamed, root_units_at, units_on}
use Rattle.trees.proofs.Owned.{AreNamed, some_of}
use Rattle.trees.proofs.Released.{named_owned}
use Rattle.trees.proofs.KeptRoots.{RootKept, spelled_root}
use Rattle.trees.proofs.SameUnits.{Kept}

-- the root, if there is one
abbrev pub root_list : Option Root → List Root
root_list None = []
root_list (Some root) = root ∷ []

module _ (g : Geometry) (units : Units) (used : ℕ → Bool) (refs : ℕ → ℕ) (logged roots : List ℕ) (is : IsOwned g units used refs logged roots) where
  -- and it is no logged page
  pub owned_apart : (u : ℕ) → 1 ≤ refs u → times u logged ≡ 0
  owned_apart u owned = elim (some_of (times u logged)) [
    | inl some ↦ absurd (omega (arith, owned, is.apart u some))
    | inr none ↦ none
  ]

  -- units that are the same where they lie behind the log and have an owner
  abbrev pub SameOwned : Units → Units → Type 0
  SameOwned old new = (u : ℕ) → catalog_no ≤ u → 1 ≤ refs u → new u ≡ old u

  module _ (old new : Units) (here : SameOwned units old) (same : SameOwned old new) where
    below_kept : (l : ℕ) → ((page : ℕ) → IsNamed g old l page → 1 ≤ refs page → Kept old new (units_on old l page)) → (pairs : List Pair) → AllByRecursion (λ (pair : Pair). IsNamed g old l pair.page.0) pairs
        → ((u : ℕ) → 1 ≤ times u (map page_of_pair pairs) → 1 ≤ refs u) → AllByRecursion (λ (pair : Pair). Kept old new (units_on old l pair.page.0)) pairs
    below_kept l each [] named own = tt
    below_kept l each (pair ∷ pairs) named own = (
      each pair.page.0 named.0 (own pair.page.0 (omega (arith, times_here pair.page.0 pair.page.0 (map page_of_pair pairs) refl))),
      below_kept l each pairs named.1 (λ u has. own u (omega (arith, has, times-append u (pair.page.0 ∷ []) (map page_of_pair pairs)))),
    )

    tree_kept : (l page : ℕ) → IsNamed g old l page → 1 ≤ refs page → Kept old new (units_on old l page)
    tree_kept zero page named owned = (same page (omega (arith, named.2)) owned, tt)
    tree_kept (suc l) page named owned =
        let bytes : old page ≡ units page = here page named.0.0 owned in
        let own : (u : ℕ) → 1 ≤ times u (map page_of_pair (pairs_on (old page))) → 1 ≤ refs u =
        λ u has. named_owned g units used refs logged roots is page u (is.listed page named.0 owned) (subst (λ (content : List ℕ). 1 ≤ times u (map page_of_pair (pairs_on content))) bytes has) in (
          same page named.0.0 owned,
          each_joined (λ u. new u ≡ old u) (λ (pair : Pair). units_on old l pair.page.0) (pairs_on (old page))
              (below_kept l (λ q k o. tree_kept l q k o) (pairs_on (old page)) named.2 own),
        )

    -- The tree of a root that is an owner has the same units, with the same bytes.
    pub root_kept : (root : Root) → RootNamed g old root.height root.page → ((u : ℕ) → 1 ≤ times u (page_here root.page) → 1 ≤ refs u) → RootKept old new root
    root_kept root named own = by root.page named own
      where
        by : (page : Option PageNo) → RootNamed g old root.height page → ((u : ℕ) → 1 ≤ times u (page_here page) → 1 ≤ refs u) → Kept old new (root_units_at old root.height page)
        by None named own = tt
        by (Some page) named own = tree_kept root.height page.0 named (own page.0 (omega (arith, times_here page.0 page.0 [] refl)))

    pub roots_kept : (rs : List Root) → AreNamed g old rs → ((u : ℕ) → 1 ≤ times u (root_pages rs) → 1 ≤ refs u) → AllByRecursion (RootKept old new) rs
    roots_kept [] named own = tt
    roots_kept (root ∷ rs) named own = (
      root_kept root named.0 (λ u has. own u (omega (arith, has, times-append u (page_here root.page) (root_pages rs)))),
      roots_kept rs named.1 (λ u has. own u (omega (arith, has, times-append u (page_here root.page) (root_pages rs)))),
    )

    -- So they spell the same bytes.
    pub shown_kept : (bytes small : List ℕ) (root : Option Root) → ((u : ℕ) → 1 ≤ times u (root_pages (root_list root)) → 1 ≤ refs u) → BytesShown g old bytes small root → BytesShown g new bytes small root
    shown_kept bytes small None own shown = shown
    shown_kept bytes small (Some root) own shown =
        (spelled_root g old new root bytes (root_kept root shown.0.named (λ u has. own u (omega (arith, has, times-append u (page_here root.page) [])))) shown.0, shown.1)
