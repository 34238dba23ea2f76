-- Laws of labels.
use Rattle.std.specs.Prelude.{ℕ, ◌≡◌, ◌<◌, List, length, slice_index, Contains}
use Rattle.ex_base.specs.declared.names.Place.{Place}
use Rattle.record_links.specs.declared.Linked.{Linked}
use Rattle.record_links.specs.Links.{HaveOlders, InPlaceOrder}
use Rattle.record_links.specs.Labels.{LabelsObjects, label_at}
use Rattle.record_links.specs.Found.{linked_at}

-- any two ways to label records whose older ones are there agree on which of them are of one object
abbrev pub LabelsAreAlike : Type 0
LabelsAreAlike = (records : List Linked) (one other : Place → ℕ) (r s : Linked) → HaveOlders records → LabelsObjects records one → LabelsObjects records other
    → Contains records r → Contains records s → one r.place ≡ one s.place → other r.place ≡ other s.place

-- the label at a record's place is the one at its index
abbrev pub LabelsAreAtPlaces : Type 0
LabelsAreAtPlaces = (records : List Linked) (labels : List ℕ) (k : ℕ) → InPlaceOrder records → length labels ≡ length records → k < length records
    → label_at records labels (linked_at records k).place ≡ slice_index labels k
