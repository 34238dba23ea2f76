-- What is found of records one after the other: the older one of each, what is derived from each, and the label of each.
use Rattle.std.specs.Prelude.{ℕ, ◌≡◌, ◌<◌, ◌≤◌, ◌+◌, ◌^◌, List, [], ◌∷◌, length, slice_index, slice_index_or, slice_set, take, Option, Some, None, Contains, All}
use Rattle.ex_base.specs.declared.names.Place.{Place}
use Rattle.object_records.specs.declared.State.{State}
use Rattle.object_records.specs.declared.State.TheVariants.{Current, Frozen}
use Rattle.record_links.specs.declared.Linked.{Linked}
use Rattle.record_links.specs.declared.derived.Derived.{Derived}
use Rattle.record_links.specs.declared.derived.Derived.TheVariants.{Nothing, One, Several}
use Rattle.record_links.specs.declared.labels.Ranked.{Ranked}
use Rattle.record_links.specs.Links.{NewerIs, derived_from}

-- what stands behind the end of a list
abbrev pub nowhere : Linked
nowhere = record { place = record { page = record { 0 = 0 }; slot = 0 }; head = record { state = Current; unique = 0; older = None; newer = None } }

-- the record at an index
abbrev pub linked_at : List Linked → ℕ → Linked
linked_at records at = slice_index_or records at nowhere

-- ---- older ones

-- One may be derived from another: that is frozen, with a lower number where it is frozen itself.
pub record MayBeFrom (r older : Linked) : Type 0 where
  pub frozen : older.head.state ≡ Frozen
  pub lower : r.head.state ≡ Frozen → older.head.unique < r.head.unique

-- The record at an index is the one at a record's older place, and may be.
pub record IsFrom (records : List Linked) (r : Linked) (at : ℕ) : Type 0 where
  pub within : at < length records
  pub named : r.head.older ≡ Some (linked_at records at).place
  pub may : MayBeFrom r (linked_at records at)
  pub small : (linked_at records at).head.unique < 2 ^ 64

-- the index of a record's older one, none of one without an older place
abbrev pub OlderIs : List Linked → Linked → Option ℕ → Type 0
OlderIs records r None = r.head.older ≡ None
OlderIs records r (Some at) = IsFrom records r at

pub record AreOlders (records : List Linked) (olders : List (Option ℕ)) : Type 0 where
  pub len : length olders ≡ length records
  pub each : (k : ℕ) → k < length records → OlderIs records (linked_at records k) (slice_index_or olders k None)

-- ---- derived ones

abbrev pub with_one : Derived → Place → Derived
with_one Nothing place = One place
with_one (One first) place = Several
with_one Several place = Several

-- what is told of records that are derived from one
abbrev pub told : List Linked → Derived
told [] = Nothing
told (r ∷ []) = One r.place
told (r ∷ next ∷ rest) = Several

-- one more at an index, where there is one
abbrev pub counted : Option ℕ → Place → List Derived → List Derived
counted None place derived = derived
counted (Some at) place derived = slice_set derived at (with_one (slice_index_or derived at Nothing) place)

-- of each record is told what of the first n ones is derived from it
pub record AreDerived (records : List Linked) (n : ℕ) (derived : List Derived) : Type 0 where
  pub len : length derived ≡ length records
  pub each : (k : ℕ) → k < length records → slice_index_or derived k Nothing ≡ told (derived_from (linked_at records k).place (take n records))

-- the newer place of the record at an index is what is derived from it
abbrev pub HasNewer : List Linked → ℕ → Type 0
HasNewer records k = NewerIs (linked_at records k).head.state (derived_from (linked_at records k).place records) (linked_at records k).head.newer

-- ---- labels

-- Frozen records come first, by their numbers, and then current ones. So a record's older one comes before it.
abbrev pub rank_in : State → ℕ → ℕ
rank_in Current unique = 2 ^ 64 + unique
rank_in Frozen unique = unique

abbrev pub rank_of : Linked → ℕ
rank_of r = rank_in r.head.state r.head.unique

abbrev pub ranked_at : List Linked → ℕ → Ranked
ranked_at records at = record { rank = rank_of (linked_at records at); at = at }

-- the first n records, each with its rank, in any order
pub record AreRanked (records : List Linked) (n : ℕ) (ranked : List Ranked) : Type 0 where
  pub each : All (λ (x : Ranked). (x.at < length records) × (x ≡ ranked_at records x.at)) ranked
  pub there : (k : ℕ) → k < n → Contains ranked (ranked_at records k)

abbrev pub RankRises : List Ranked → Type 0
RankRises ranked = (i j : ℕ) (d : Ranked) → i ≤ j → j < length ranked → (slice_index_or ranked i d).rank ≤ (slice_index_or ranked j d).rank

-- the label of its older one
abbrev pub taken : Option ℕ → ℕ → List ℕ → List ℕ
taken None at labels = labels
taken (Some older) at labels = slice_set labels at (slice_index labels older)

-- Each label is an index, and that of one that has no older one is its own.
pub record AreOwn (olders : List (Option ℕ)) (labels : List ℕ) : Type 0 where
  pub len : length labels ≡ length olders
  pub within : (k : ℕ) → k < length olders → slice_index labels k < length olders
  pub own : (k : ℕ) → k < length olders → slice_index_or olders k None ≡ None → slice_index labels k ≡ k

-- the record at an index has the label of its older one
abbrev pub Follows : List (Option ℕ) → List ℕ → ℕ → Type 0
Follows olders labels k = (older : ℕ) → slice_index_or olders k None ≡ Some older → slice_index labels k ≡ slice_index labels older

pub record AreFollowed (olders : List (Option ℕ)) (labels : List ℕ) : Type 0 where
  pub own : AreOwn olders labels
  pub each : (k : ℕ) → k < length olders → Follows olders labels k
