-- Labels that say which records are of one object.
use Rattle.std.specs.Prelude.{ℕ, ◌≡◌, ◌<◌, List, [], ◌∷◌, length, slice_index, if◌then◌else◌, Some, None, Contains}
use Rattle.ex_base.specs.declared.names.Place.{Place}
use Rattle.record_links.specs.declared.Linked.{Linked}
use Rattle.record_links.specs.Links.{same_place}

-- A record and the one at its older place have one label. Of the records with one label at most one has no older place.
pub record LabelsObjects (records : List Linked) (label : Place → ℕ) : Type 0 where
  pub joined : (r older : Linked) → Contains records r → Contains records older → r.head.older ≡ Some older.place → label r.place ≡ label older.place
  pub one_first : (r s : Linked) → Contains records r → Contains records s → r.head.older ≡ None → s.head.older ≡ None → label r.place ≡ label s.place → r.place ≡ s.place

-- the label of the record at a place, of one label a record
abbrev pub label_at : List Linked → List ℕ → Place → ℕ
label_at [] labels place = 0
label_at (r ∷ records) [] place = 0
label_at (r ∷ records) (label ∷ labels) place = if same_place r.place place then label else label_at records labels place

-- one label a record, by which they are objects: the index of one of them
pub record AreLabels (records : List Linked) (labels : List ℕ) : Type 0 where
  pub len : length labels ≡ length records
  pub within : (k : ℕ) → k < length records → slice_index labels k < length records
  pub objects : LabelsObjects records (label_at records labels)
