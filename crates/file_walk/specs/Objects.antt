-- Which records are versions of one object.
use Rattle.std.specs.Prelude.{ℕ, ◌≡◌, ◌+◌, ◌<◌, List, [], ◌∷◌, ◌++◌, length, map, slice_index, Option, Some, None, Contains}
use Rattle.std.specs.List.{AllByRecursion}
use Rattle.ex_base.specs.declared.names.Place.{Place}
use Rattle.ex_base.specs.declared.names.Root.{Root}
use Rattle.object_records.specs.Record.{Content, Small, Large}
use Rattle.record_links.specs.declared.Linked.{Linked}
use Rattle.record_links.specs.Links.{IsBefore, InPlaceOrder, AreLinked}
use Rattle.record_links.specs.Labels.{LabelsObjects}
use Rattle.volume_model.specs.Volume.{Stored, unique_of}
use Rattle.file_walk.specs.declared.Found.{Found}
use Rattle.file_walk.specs.declared.records.Standing.{Standing}

-- ---- of a volume

-- These are objects of records: a record and the one at its older place are of one, and of two records of one just one has no older place.
pub record AreObjects (stored : List Stored) (object : Place → ℕ) : Type 0 where
  pub joined : (s older : Stored) → Contains stored s → Contains stored older → s.body.head.older ≡ Some older.place → object s.place ≡ object older.place
  pub one_first : (s t : Stored) → Contains stored s → Contains stored t → s.body.head.older ≡ None → t.body.head.older ≡ None → object s.place ≡ object t.place → s.place ≡ t.place

-- the root of a large record
abbrev pub root_found : Content → Option Root
root_found (Small bytes) = None
root_found (Large root) = Some root

-- a record as the walk lists it, by the objects
abbrev pub found_of : (Place → ℕ) → Stored → Found
found_of object s = record { place = s.place; unique = unique_of s; object = object s.place; root = root_found s.body.content }

-- ---- of a file

-- where a record stands, and its head
abbrev pub linked_of : Stored → Linked
linked_of s = record { place = s.place; head = s.body.head }

-- a record as it is kept while its file is read
abbrev pub standing_of : Stored → Standing
standing_of s = record { linked = linked_of s; root = root_found s.body.content }

abbrev pub linked_in : Standing → Linked
linked_in s = s.linked

abbrev pub links_of : List Standing → List Linked
links_of records = map linked_in records

-- Records stand in order of place, all of them before a slot of a page.
pub record StandBefore (records : List Standing) (page slot : ℕ) : Type 0 where
  pub order : InPlaceOrder (links_of records)
  pub before : AllByRecursion (λ (s : Standing). IsBefore s.linked.place (record { page = record { 0 = page }; slot = slot })) records

-- a record of a file with an object
abbrev pub found_with : ℕ → Standing → Found
found_with object s = record { place = s.linked.place; unique = s.linked.head.unique; object = object; root = s.root }

-- records with their labels as objects, behind so many records
abbrev pub found_by : ℕ → List Standing → List ℕ → List Found
found_by first [] labels = []
found_by first (s ∷ records) [] = []
found_by first (s ∷ records) (label ∷ labels) = found_with (first + label) s ∷ found_by first records labels

-- Records of a file were added, each with its object. The objects are told apart from those of all records before.
pub record AddsNumbered (old new : List Found) (records : List Standing) : Type 0 where
  pub label : Place → ℕ
  pub objects : LabelsObjects (links_of records) label
  pub within : AllByRecursion (λ (s : Standing). label s.linked.place < length records) records
  pub added : new ≡ old ++ map (λ (s : Standing). found_with (length old + label s.linked.place) s) records
