-- Records of a file with their labels as objects.
use Rattle.std.proofs.Common.{◌≡◌, ◌<◌, ◌+◌, ℕ, List, [], ◌∷◌, ◌++◌, length, map, refl, sym, ap, subst, ◌∙◌, arith}
use Rattle.std.specs.List.{AllByRecursion}
use Rattle.std.proofs.lemmas.Bool.{cond-true, cond-false}
use Rattle.std.proofs.lemmas.List.{length-map}
use Rattle.ex_base.specs.declared.names.Place.{Place}
use Rattle.ex_base.proofs.Each.{each_from, each_mapped, map_same}
use Rattle.ex_base.proofs.Rows.{each-append}
use Rattle.record_links.specs.declared.Linked.{Linked}
use Rattle.record_links.specs.Links.{AreLinked, IsBefore, InPlaceOrder, same_place}
use Rattle.record_links.specs.Labels.{AreLabels, label_at}
use Rattle.record_links.proofs.PlaceOrder.{before_differs, before_through, is_other, is_same, rest_in_order}
use Rattle.record_links.proofs.Labelling.{label_of}
use Rattle.file_walk.specs.declared.Found.{Found}
use Rattle.file_walk.specs.declared.records.Standing.{Standing}
use Rattle.file_walk.specs.Objects.{AddsNumbered, found_by, found_with, linked_in, links_of}
use Rattle.file_walk.specs.Records.{AddsFile, AddsRows, AreRooted, HasRootFields, IsGoodFile, standing_at}
use Rattle.file_walk.proofs.Lists.{contains_map}

-- ---- by a label for each place

first_of_all : (s : Standing) (records : List Standing) → InPlaceOrder (links_of (s ∷ records)) → AllByRecursion (λ (x : Standing). IsBefore s.linked.place x.linked.place) records
first_of_all s [] order = tt
first_of_all s (x ∷ records) order = (order.0, behind records (first_of_all x records order.1))
  where
    behind : (rest : List Standing) → AllByRecursion (λ (y : Standing). IsBefore x.linked.place y.linked.place) rest → AllByRecursion (λ (y : Standing). IsBefore s.linked.place y.linked.place) rest
    behind [] is = tt
    behind (y ∷ rest) is = (before_through s.linked.place x.linked.place y.linked.place order.0 is.0, behind rest is.1)

abbrev with_label : ℕ → List Linked → List ℕ → Standing → Found
with_label first links labels s = found_with (first + label_at links labels s.linked.place) s

found_by_is : (first : ℕ) (records : List Standing) (labels : List ℕ) → InPlaceOrder (links_of records) → length labels ≡ length records → found_by first records labels ≡ map (with_label first (links_of records) labels) records
found_by_is first [] labels order len = refl
found_by_is first (s ∷ records) [] order len = absurd (omega (arith, len))
found_by_is first (s ∷ records) (label ∷ labels) order len =
    let links = links_of records in
    let own : label_at (s.linked ∷ links) (label ∷ labels) s.linked.place ≡ label = cond-true (same_place s.linked.place s.linked.place) label (label_at links labels s.linked.place) (is_same s.linked.place s.linked.place refl) in
    let rest = map_same (with_label first links labels) (with_label first (s.linked ∷ links) (label ∷ labels)) (λ (x : Standing). IsBefore s.linked.place x.linked.place) records
    (λ x before. ap (λ (n : ℕ). found_with (first + n) x) (cond-false (same_place s.linked.place x.linked.place) label (label_at links labels x.linked.place) (is_other s.linked.place x.linked.place (before_differs s.linked.place x.linked.place before))))
    (first_of_all s records order) in
    ap (λ (n : ℕ). found_with (first + n) s ∷ found_by first records labels) (sym own)
    ∙ ap (λ (t : List Found). with_label first (s.linked ∷ links) (label ∷ labels) s ∷ t) (found_by_is first records labels (rest_in_order s.linked links order) (omega (arith, len)) ∙ sym rest)

pub labelled : (old new : List Found) (records : List Standing) (labels : List ℕ) → InPlaceOrder (links_of records) → AreLabels (links_of records) labels → new ≡ old ++ found_by (length old) records labels
    → AddsNumbered old new records
labelled old new records labels order are is =
    let count : length (links_of records) ≡ length records = length-map records linked_in in
    record {
      label = label_at (links_of records) labels;
      objects = are.objects;
      within = each_from (λ (s : Standing). label_at (links_of records) labels s.linked.place < length records) records (λ s there.
          let at = contains_map linked_in records s there in
          let below = are.within at.0 at.1 in
          omega (arith, label_of (links_of records) labels s.linked at order are.len, below, count));
      added = is ∙ ap (λ (t : List Found). old ++ t) (found_by_is (length old) records labels order (are.len ∙ count));
    }

-- ---- roots

pub numbered_rooted : (old new : List Found) (records : List Standing) → AddsNumbered old new records → AreRooted records → AllByRecursion HasRootFields old → AllByRecursion HasRootFields new
numbered_rooted old new records adds rooted was =
    subst (AllByRecursion HasRootFields) (sym adds.added)
    (each-append HasRootFields old _ was (each_mapped HasRootFields (λ (s : Standing). found_with (length old + adds.label s.linked.place) s) records rooted))

-- ---- a file that was read whole

module _ (empty records now : List Standing) (rows : List (Place × List ℕ)) (none : empty ≡ []) (same : now ≡ records) (adds : AddsRows empty records rows) where
  all_rows : now ≡ map standing_at rows
  all_rows = same ∙ adds.records ∙ ap (λ (t : List Standing). t ++ map standing_at rows) none

  pub file_added : (old new : List Found) → AreLinked (links_of now) → AddsNumbered old new now → AddsFile old new rows
  file_added old new linked numbered = record {
    good = record { good = adds.good; linked = subst (λ (t : List Standing). AreLinked (links_of t)) all_rows linked };
    numbered = subst (AddsNumbered old new) all_rows numbered;
  }

  pub file_bad : (AreLinked (links_of now) → ⊥) → IsGoodFile rows → ⊥
  file_bad never good = never (subst (λ (t : List Standing). AreLinked (links_of t)) (sym all_rows) good.linked)
