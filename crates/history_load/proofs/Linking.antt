-- Records that got the links of their versions.
use Rattle.std.proofs.Common.{◌≡◌, ◌≢◌, ◌⊎◌, ◌<◌, ◌≤◌, ℕ, suc, Bool, true, false, ◌==◌, List, [], ◌∷◌, ◌++◌, length, map, drop, Option, Some, None, refl, sym, ap, subst, ◌∙◌, arith, inl, inr}
use Rattle.std.specs.Prelude.{IfSome, IsSome, Contains, filter, if◌then◌else◌}
use Rattle.std.specs.List.{AllByRecursion, AllZip}
use Rattle.std.proofs.lemmas.Bool.{cond-false, cond-true, eq-eqb}
use Rattle.std.proofs.lemmas.List.{map-append}
use Rattle.std.proofs.lemmas.Option.{same_Some}
use Rattle.ex_base.specs.declared.geometry.Geometry.{Geometry}
use Rattle.ex_base.specs.declared.names.Place.{Place}
use Rattle.ex_base.specs.Order.{AllDiffer, Rising}
use Rattle.ex_base.proofs.Lists.{rising_tail}
use Rattle.ex_base.specs.Places.{is_place}
use Rattle.ex_base.proofs.Counts.{not_equal, same_or_not}
use Rattle.ex_base.proofs.SamePlaces.{at_itself, at_others}
use Rattle.object_records.specs.Record.{Record}
use Rattle.version_lists.proofs.Lists.{Has, Rises, contains_has, has_either, has_map, has_map_from}
use Rattle.version_lists.proofs.Sorted.{order_left}
use Rattle.version_lists.specs.Sorted.{in_order}
use Rattle.volume_model.specs.Links.{names_older as stored_names, only_place as only_stored, place_in, stored_from}
use Rattle.volume_model.specs.Volume.{Stored, is_frozen, number_at, number_if, stands_at, unique_of}
use Rattle.volume_model.proofs.Places.{Sep, each_has, has_stands, sep_from, sep_one, sep_to}
use Rattle.history_fronts.specs.Fronts.{HasOlders}
use Rattle.history_writes.specs.Linked.{record_linked, records_linked, rows_linked}
use Rattle.history_links.specs.declared.Links.{Links}
use Rattle.history_links.specs.declared.PlacedVersion.{PlacedVersion}
use Rattle.history_links.specs.Linked.{derived_from, is_number, links_of, names_older, newer_in, only_place, place_if, place_numbered}
use Rattle.history_model.specs.History.{HistoryFile, HistoryVersion, number_in}
use Rattle.history_writes.specs.Contents.{placed_from, placed_in}
use Rattle.history_writes.specs.Laid.{all_of}
use Rattle.history_volumes.specs.Histories.{IsVersionOn}
use Rattle.history_writes.specs.Files.{HasNewer, HasOlder, newer_for}
use Rattle.history_writes.specs.Places.{leaf_place, node_place}
use Rattle.history_writes.specs.Records.{state_of, unlinked}
use Rattle.history_load.specs.AtHand.{placed_version, versions_placed}

-- ---- the records of pages with links

abbrev with_links : Links → Stored → Stored
with_links one s = record { place = s.place; body = record_linked one s.body }

-- each with its own links, as far as there are some
abbrev pub stored_linked : List Links → List Stored → List Stored
stored_linked links [] = []
stored_linked [] (s ∷ stored) = []
stored_linked (one ∷ links) (s ∷ stored) = with_links one s ∷ stored_linked links stored

none_linked : (stored : List Stored) → stored_linked [] stored ≡ []
none_linked [] = refl
none_linked (s ∷ stored) = refl

abbrev stored_at : ℕ → ℕ → Record → Stored
stored_at page slot r = record { place = record { page = record { 0 = page }; slot = slot }; body = r }

row_linked : (page slot : ℕ) (links : List Links) (records : List Record) → placed_from page slot (records_linked links records) ≡ stored_linked links (placed_from page slot records)
row_linked page slot links [] = refl
row_linked page slot [] (r ∷ records) = refl
row_linked page slot (one ∷ links) (r ∷ records) = ap (λ (rest : List Stored). stored_at page slot (record_linked one r) ∷ rest) (row_linked page (suc slot) links records)

linked_append : (links : List Links) (xs ys : List Stored) → stored_linked links (xs ++ ys) ≡ stored_linked links xs ++ stored_linked (drop (length xs) links) ys
linked_append links [] ys = refl
linked_append [] (x ∷ xs) ys = sym (none_linked ys)
linked_append (one ∷ links) (x ∷ xs) ys = ap (λ (rest : List Stored). with_links one x ∷ rest) (linked_append links xs ys)

length_row : (page slot : ℕ) (records : List Record) → length (placed_from page slot records) ≡ length records
length_row page slot [] = refl
length_row page slot (r ∷ records) = ap suc (length_row page (suc slot) records)

pub pages_placed : (first : ℕ) (links : List Links) (pages : List (List Record)) → placed_in first (rows_linked links pages) ≡ stored_linked links (placed_in first pages)
pages_placed first links [] = refl
pages_placed first links (records ∷ pages) =
    let here = row_linked first 0 links records in
    let rest = pages_placed (suc first) (drop (length records) links) pages in
    let both : placed_from first 0 (records_linked links records) ++ placed_in (suc first) (rows_linked (drop (length records) links) pages)
    ≡ stored_linked links (placed_from first 0 records) ++ stored_linked (drop (length records) links) (placed_in (suc first) pages) = cc (here, rest) in
    both ∙ ap (λ (n : ℕ). stored_linked links (placed_from first 0 records) ++ stored_linked (drop n links) (placed_in (suc first) pages)) (sym (length_row first 0 records))
    ∙ sym (linked_append links (placed_from first 0 records) (placed_in (suc first) pages))

-- ---- versions and their records, one by one

abbrev body_in : Stored → Record
body_in s = s.body

row_bodies : (page slot : ℕ) (records : List Record) → map body_in (placed_from page slot records) ≡ records
row_bodies page slot [] = refl
row_bodies page slot (r ∷ records) = ap (λ (rest : List Record). r ∷ rest) (row_bodies page (suc slot) records)

pub bodies_placed : (first : ℕ) (pages : List (List Record)) → map body_in (placed_in first pages) ≡ all_of pages
bodies_placed first [] = refl
bodies_placed first (records ∷ pages) =
    map-append body_in (placed_from first 0 records) (placed_in (suc first) pages) ∙ (let here = row_bodies first 0 records in let rest = bodies_placed (suc first) pages in cc (here, rest))

abbrev IsPlainOf : Geometry → HistoryVersion → Stored → Type 0
IsPlainOf g v s = s.body ≡ unlinked g v

pub plain_zip : (g : Geometry) (versions : List HistoryVersion) (stored : List Stored) → map body_in stored ≡ map (unlinked g) versions → AllZip (IsPlainOf g) versions stored
plain_zip g [] [] same = tt
plain_zip g [] (s ∷ stored) same = absurd (cc)
plain_zip g (v ∷ versions) [] same = absurd (cc)
plain_zip g (v ∷ versions) (s ∷ stored) same = (cc, plain_zip g versions stored (cc))

-- the record is the version's with its links among these
abbrev pub IsLinkedOf : Geometry → List PlacedVersion → HistoryVersion → Stored → Type 0
IsLinkedOf g all v s = s.body ≡ record_linked (links_of all (placed_version v s.place)) (unlinked g v)

linked_zip : (g : Geometry) (all : List PlacedVersion) (versions : List HistoryVersion) (stored : List Stored) → AllZip (IsPlainOf g) versions stored → AllZip (IsLinkedOf g all) versions (stored_linked (map (links_of all) (versions_placed versions stored)) stored)
linked_zip g all [] [] plain = tt
linked_zip g all [] (s ∷ stored) plain = absurd plain
linked_zip g all (v ∷ versions) [] plain = absurd plain
linked_zip g all (v ∷ versions) (s ∷ stored) plain = (ap (record_linked (links_of all (placed_version v s.place))) plain.0, linked_zip g all versions stored plain.1)

linked_placed : (g : Geometry) (all : List PlacedVersion) (versions : List HistoryVersion) (stored : List Stored) → AllZip (IsPlainOf g) versions stored → versions_placed versions (stored_linked (map (links_of all) (versions_placed versions stored)) stored) ≡ versions_placed versions stored
linked_placed g all [] stored plain = refl
linked_placed g all (v ∷ versions) [] plain = absurd plain
linked_placed g all (v ∷ versions) (s ∷ stored) plain = ap (λ (rest : List PlacedVersion). placed_version v s.place ∷ rest) (linked_placed g all versions stored plain.1)

linked_places : (versions : List HistoryVersion) (stored : List Stored) (all : List PlacedVersion) (g : Geometry) → AllZip (IsPlainOf g) versions stored → map place_in (stored_linked (map (links_of all) (versions_placed versions stored)) stored) ≡ map place_in stored
linked_places [] [] all g plain = refl
linked_places [] (s ∷ stored) all g plain = absurd plain
linked_places (v ∷ versions) [] all g plain = absurd plain
linked_places (v ∷ versions) (s ∷ stored) all g plain = ap (λ (rest : List Place). s.place ∷ rest) (linked_places versions stored all g plain.1)

-- The records of a file's versions are these, each with its links among the placed ones.
pub record AreLinkedOf (g : Geometry) (all : List PlacedVersion) (versions : List HistoryVersion) (stored : List Stored) : Type 0 where
  pub zip : AllZip (IsLinkedOf g all) versions stored
  pub placed : all ≡ versions_placed versions stored
  pub apart : Sep place_in stored
  pub numbers : Sep number_in versions

-- ---- a version and its record

abbrev HasPair : List HistoryVersion → List Stored → HistoryVersion → Stored → Type 0
HasPair [] stored v s = ⊥
HasPair (w ∷ versions) [] v s = ⊥
HasPair (w ∷ versions) (t ∷ stored) v s = ((w ≡ v) × (t ≡ s)) ⊎ HasPair versions stored v s

pair_left : (versions : List HistoryVersion) (stored : List Stored) (v : HistoryVersion) (s : Stored) → HasPair versions stored v s → Has versions v
pair_left [] stored v s pair = absurd pair
pair_left (w ∷ versions) [] v s pair = absurd pair
pair_left (w ∷ versions) (t ∷ stored) v s (inl same) = inl same.0
pair_left (w ∷ versions) (t ∷ stored) v s (inr pair) = inr (pair_left versions stored v s pair)

pair_right : (versions : List HistoryVersion) (stored : List Stored) (v : HistoryVersion) (s : Stored) → HasPair versions stored v s → Has stored s
pair_right [] stored v s pair = absurd pair
pair_right (w ∷ versions) [] v s pair = absurd pair
pair_right (w ∷ versions) (t ∷ stored) v s (inl same) = inl same.1
pair_right (w ∷ versions) (t ∷ stored) v s (inr pair) = inr (pair_right versions stored v s pair)

pair_of : (R : HistoryVersion → Stored → Type 0) (versions : List HistoryVersion) (stored : List Stored) (v : HistoryVersion) → AllZip R versions stored → Has versions v → (s : Stored) × HasPair versions stored v s × R v s
pair_of R [] stored v zip has = absurd has
pair_of R (w ∷ versions) [] v zip has = absurd zip
pair_of R (w ∷ versions) (t ∷ stored) v zip (inl same) = (t, inl (same, refl), subst (λ (u : HistoryVersion). R u t) same zip.0)
pair_of R (w ∷ versions) (t ∷ stored) v zip (inr has) = let rest = pair_of R versions stored v zip.1 has in (rest.0, inr rest.1, rest.2)

-- the place of a version is found by its number
found : (versions : List HistoryVersion) (stored : List Stored) (v : HistoryVersion) (s : Stored) (number : ℕ) → Sep number_in versions → HasPair versions stored v s → v.unique ≡ number → place_numbered (versions_placed versions stored) number ≡ Some s.place
found [] stored v s number apart pair is = absurd pair
found (w ∷ versions) [] v s number apart pair is = absurd pair
found (w ∷ versions) (t ∷ stored) v s number apart (inl same) is =
    cond-true (w.unique == number) (Some t.place) (place_numbered (versions_placed versions stored) number) (eq-eqb w.unique number (ap number_in same.0 ∙ is)) ∙ ap (λ (u : Stored). Some u.place) same.1
found (w ∷ versions) (t ∷ stored) v s number apart (inr pair) is =
    let other : w.unique ≢ number = λ e. apart.0 v (pair_left versions stored v s pair) (e ∙ sym is) in
    cond-false (w.unique == number) (Some t.place) (place_numbered (versions_placed versions stored) number) (not_equal w.unique number other) ∙ found versions stored v s number apart.1 pair is

-- ---- older ones

abbrev IsThere : List HistoryVersion → Option ℕ → Type 0
IsThere versions o = IfSome o (Contains (map number_in versions))

-- the record of the version with a number
record HasNumber (all : List PlacedVersion) (versions : List HistoryVersion) (stored : List Stored) (number : ℕ) : Type 0 where
  v : HistoryVersion
  s : Stored
  pair : HasPair versions stored v s
  number_is : v.unique ≡ number
  unique : unique_of s ≡ number
  place : place_numbered all number ≡ Some s.place
  stands : stands_at s.place stored ≡ Some s

unique_is : (g : Geometry) (all : List PlacedVersion) (v : HistoryVersion) (s : Stored) → IsLinkedOf g all v s → unique_of s ≡ v.unique
unique_is g all v s is = ap (λ (r : Record). r.head.unique) is

has_number : (g : Geometry) (all : List PlacedVersion) (versions : List HistoryVersion) (stored : List Stored) (number : ℕ) → AreLinkedOf g all versions stored → Contains (map number_in versions) number → HasNumber all versions stored number
has_number g all versions stored number are there =
    let from = has_map_from number_in versions number (contains_has (map number_in versions) number there) in
    let pair = pair_of (IsLinkedOf g all) versions stored from.0 are.zip from.1 in
    record {
      v = from.0;
      s = pair.0;
      pair = pair.1;
      number_is = from.2;
      unique = unique_is g all from.0 pair.0 pair.2 ∙ from.2;
      place = ap (λ (ws : List PlacedVersion). place_numbered ws number) are.placed ∙ found versions stored from.0 pair.0 number are.numbers pair.1 from.2;
      stands = has_stands stored pair.0.place pair.0 are.apart (pair_right versions stored from.0 pair.0 pair.1) refl;
    }

older_found : (g : Geometry) (all : List PlacedVersion) (versions : List HistoryVersion) (stored : List Stored) (o : Option ℕ) → AreLinkedOf g all versions stored → IsThere versions o → number_at stored (place_if all o) ≡ o
older_found g all versions stored None are there = refl
older_found g all versions stored (Some number) are there =
    let has = has_number g all versions stored number are there in
    ap (number_at stored) has.place ∙ ap number_if has.stands ∙ ap Some has.unique

older_there : (g : Geometry) (all : List PlacedVersion) (versions : List HistoryVersion) (stored : List Stored) (o : Option ℕ) → AreLinkedOf g all versions stored → IsThere versions o → IfSome (place_if all o) (λ place. IsSome (stands_at place stored))
older_there g all versions stored None are there = tt
older_there g all versions stored (Some number) are there =
    let has = has_number g all versions stored number are there in
    subst (λ (p : Option Place). IfSome p (λ place. IsSome (stands_at place stored))) (sym has.place) (subst (λ (t : Option Stored). IsSome t) (sym has.stands) refl)

-- ---- what is derived from one

other_place : (place other : Place) (o : Option Place) → o ≡ Some other → place ≢ other → is_place place o ≡ false
other_place place other None is apart = absurd (cc)
other_place place other (Some p) is apart = at_others p place (λ e. apart (sym e ∙ same_Some p other is))

same_as : (place : Place) (o : Option Place) → o ≡ Some place → is_place place o ≡ true
same_as place None is = absurd (cc)
same_as place (Some p) is = at_itself p place (same_Some p place is)

same_test : (g : Geometry) (all : List PlacedVersion) (versions : List HistoryVersion) (stored : List Stored) (v : HistoryVersion) (s : Stored) → AreLinkedOf g all versions stored → HasPair versions stored v s → IsLinkedOf g all v s
    → (o : Option ℕ) → IsThere versions o → is_number v.unique o ≡ is_place s.place (place_if all o)
same_test g all versions stored v s are pair is None there = refl
same_test g all versions stored v s are pair is (Some number) there =
    let has = has_number g all versions stored number are there in
    elim (same_or_not v.unique number) [
      | inl same ↦ (
          let mine : place_numbered all number ≡ Some s.place = ap (λ (ws : List PlacedVersion). place_numbered ws number) are.placed ∙ found versions stored v s number are.numbers pair same in
          eq-eqb v.unique number same ∙ sym (same_as s.place (place_numbered all number) mine))
      | inr other ↦ (
          let apart : s.place ≢ has.s.place = λ e. other (sym (unique_is g all v s is) ∙ ap unique_of (sep_one place_in stored s has.s are.apart (pair_right versions stored v s pair) (pair_right versions stored has.v has.s has.pair) e) ∙ has.unique) in
          not_equal v.unique number other ∙ sym (other_place s.place has.s.place (place_numbered all number) has.place apart))
    ]

abbrev placed_at : PlacedVersion → Place
placed_at v = v.place

step : (b c : Bool) (w : PlacedVersion) (t : Stored) (ws : List PlacedVersion) (ts : List Stored) → b ≡ c → w.place ≡ t.place → map placed_at ws ≡ map place_in ts → map placed_at (if b then w ∷ ws else ws) ≡ map place_in (if c then t ∷ ts else ts)
step true true w t ws ts e place rest = cc (place, rest)
step true false w t ws ts e place rest = absurd (cc)
step false true w t ws ts e place rest = absurd (cc)
step false false w t ws ts e place rest = rest

filtered : (g : Geometry) (all : List PlacedVersion) (number : ℕ) (place : Place) (whole versions : List HistoryVersion) (stored : List Stored) → ((o : Option ℕ) → IsThere whole o → is_number number o ≡ is_place place (place_if all o)) → AllZip (IsLinkedOf g all) versions stored
    → AllByRecursion (λ (v : HistoryVersion). IsThere whole v.older) versions → map placed_at (filter (names_older number) (versions_placed versions stored)) ≡ map place_in (filter (stored_names place) stored)
filtered g all number place whole [] [] same zip olders = refl
filtered g all number place whole [] (s ∷ stored) same zip olders = absurd zip
filtered g all number place whole (v ∷ versions) [] same zip olders = absurd zip
filtered g all number place whole (v ∷ versions) (s ∷ stored) same zip olders =
    step (is_number number v.older) (stored_names place s) (placed_version v s.place) s (filter (names_older number) (versions_placed versions stored)) (filter (stored_names place) stored)
    (same v.older olders.0 ∙ ap (λ (r : Record). is_place place r.head.older) (sym zip.0)) refl (filtered g all number place whole versions stored same zip.1 olders.1)

only_alike : (ws : List PlacedVersion) (ts : List Stored) → map placed_at ws ≡ map place_in ts → only_place ws ≡ only_stored ts
only_alike [] [] e = refl
only_alike [] (t ∷ ts) e = absurd (cc)
only_alike (w ∷ ws) [] e = absurd (cc)
only_alike (w ∷ []) (t ∷ []) e = (let same : w.place ≡ t.place = cc in ap Some same)
only_alike (w ∷ []) (t ∷ u ∷ ts) e = absurd (cc)
only_alike (w ∷ x ∷ ws) (t ∷ []) e = absurd (cc)
only_alike (w ∷ x ∷ ws) (t ∷ u ∷ ts) e = refl

newer_by : (frozen : Bool) (derived : List PlacedVersion) (stored : List Stored) → only_place derived ≡ only_stored stored → (if frozen then only_place derived else None) ≡ newer_for (state_of frozen) stored
newer_by false derived stored same = refl
newer_by true derived stored same = same

state_back : (frozen : Bool) → frozen ≡ is_frozen (state_of frozen)
state_back false = refl
state_back true = refl

-- ---- what each of them is

one_newer : (g : Geometry) (all : List PlacedVersion) (versions : List HistoryVersion) (stored : List Stored) (v : HistoryVersion) (s : Stored) → AreLinkedOf g all versions stored → AllByRecursion (λ (w : HistoryVersion). IsThere versions w.older) versions
    → HasPair versions stored v s → IsLinkedOf g all v s → HasNewer stored s
one_newer g all versions stored v s are olders pair is =
    let derived : only_place (derived_from v.unique all) ≡ only_stored (stored_from s.place stored) =
    ap (λ (ws : List PlacedVersion). only_place (derived_from v.unique ws)) are.placed
    ∙ only_alike (derived_from v.unique (versions_placed versions stored)) (stored_from s.place stored) (filtered g all v.unique s.place versions versions stored (same_test g all versions stored v s are pair is) are.zip olders) in
    let newer : s.body.head.newer ≡ newer_in all (placed_version v s.place) = ap (λ (r : Record). r.head.newer) is in
    let state : s.body.head.state ≡ state_of v.frozen = ap (λ (r : Record). r.head.state) is in
    newer ∙ newer_by v.frozen (derived_from v.unique all) (stored_from s.place stored) derived ∙ ap (λ st. newer_for st (stored_from s.place stored)) (sym state)

one_version : (g : Geometry) (all : List PlacedVersion) (versions : List HistoryVersion) (stored : List Stored) (v : HistoryVersion) (s : Stored) → AreLinkedOf g all versions stored → IsThere versions v.older → IsLinkedOf g all v s → IsVersionOn (leaf_place g) node_place stored v s
one_version g all versions stored v s are there is = record {
  unique = sym (unique_is g all v s is);
  state = state_back v.frozen ∙ ap (λ (r : Record). is_frozen r.head.state) (sym is);
  older = sym (ap (λ (r : Record). number_at stored r.head.older) is ∙ older_found g all versions stored v.older are there);
  content = ap (λ (r : Record). r.content) is;
}

-- a list of pairs, each of which has what a whole one has
each_pair : (P : HistoryVersion → Stored → Type 0) (versions : List HistoryVersion) (stored : List Stored) (R : HistoryVersion → Stored → Type 0) → AllZip R versions stored → ((v : HistoryVersion) (s : Stored) → HasPair versions stored v s → R v s → P v s) → AllZip P versions stored
each_pair P [] [] R zip make = tt
each_pair P [] (s ∷ stored) R zip make = absurd zip
each_pair P (v ∷ versions) [] R zip make = absurd zip
each_pair P (v ∷ versions) (s ∷ stored) R zip make = (make v s (inl (refl, refl)) zip.0, each_pair P versions stored R zip.1 (λ w t pair. make w t (inr pair)))

right_of : (Q : Stored → Type 0) (versions : List HistoryVersion) (stored : List Stored) → AllZip (λ (v : HistoryVersion) (s : Stored). Q s) versions stored → AllByRecursion Q stored
right_of Q [] [] zip = tt
right_of Q [] (s ∷ stored) zip = absurd zip
right_of Q (v ∷ versions) [] zip = absurd zip
right_of Q (v ∷ versions) (s ∷ stored) zip = (zip.0, right_of Q versions stored zip.1)

pub versions_on : (g : Geometry) (all : List PlacedVersion) (f : HistoryFile) (stored : List Stored) → AreLinkedOf g all f.versions stored → HasOlders f → AllZip (IsVersionOn (leaf_place g) node_place stored) f.versions stored
versions_on g all f stored are olders = each_pair (IsVersionOn (leaf_place g) node_place stored) f.versions stored (IsLinkedOf g all) are.zip
    (λ v s pair is. one_version g all f.versions stored v s are (each_has (λ (w : HistoryVersion). IsThere f.versions w.older) f.versions olders v (pair_left f.versions stored v s pair)) is)

pub newer_ones : (g : Geometry) (all : List PlacedVersion) (f : HistoryFile) (stored : List Stored) → AreLinkedOf g all f.versions stored → HasOlders f → AllByRecursion (HasNewer stored) stored
newer_ones g all f stored are olders = right_of (HasNewer stored) f.versions stored (each_pair (λ (v : HistoryVersion) (s : Stored). HasNewer stored s) f.versions stored (IsLinkedOf g all) are.zip
    (λ v s pair is. one_newer g all f.versions stored v s are olders pair is))

pub older_ones : (g : Geometry) (all : List PlacedVersion) (f : HistoryFile) (stored : List Stored) → AreLinkedOf g all f.versions stored → HasOlders f → AllByRecursion (HasOlder stored) stored
older_ones g all f stored are olders = right_of (HasOlder stored) f.versions stored (each_pair (λ (v : HistoryVersion) (s : Stored). HasOlder stored s) f.versions stored (IsLinkedOf g all) are.zip
    (λ v s pair is. subst (λ (r : Record). IfSome r.head.older (λ place. IsSome (stands_at place stored))) (sym is)
    (older_there g all f.versions stored v.older are (each_has (λ (w : HistoryVersion). IsThere f.versions w.older) f.versions olders v (pair_left f.versions stored v s pair)))))

-- ---- in order of their numbers, at places that differ

rising_each : (x : ℕ) (xs : List ℕ) → Rising (x ∷ xs) → (y : ℕ) → Has xs y → x < y
rising_each x [] up y has = absurd has
rising_each x (z ∷ xs) up y (inl e) = subst (λ (w : ℕ). x < w) e up.0
rising_each x (z ∷ xs) up y (inr has) = let first = up.0 in let rest = rising_each z xs up.1 y has in omega arith

rises_mapped : {A : Type 0} (key : A → ℕ) (xs : List A) → Rising (map key xs) → Rises key xs
rises_mapped key [] up = tt
rises_mapped key (x ∷ xs) up = (λ y has. rising_each (key x) (map key xs) up (key y) (has_map key xs y has), rises_mapped key xs (rising_tail (key x) (map key xs) up))

rises_apart : {A : Type 0} (key : A → ℕ) (xs : List A) → Rises key xs → Sep key xs
rises_apart key [] up = tt
rises_apart key (x ∷ xs) up = (λ y has e. (let lt = up.0 y has in absurd (omega arith)), rises_apart key xs up.1)

numbers_same : (g : Geometry) (all : List PlacedVersion) (versions : List HistoryVersion) (stored : List Stored) → AllZip (IsLinkedOf g all) versions stored → map unique_of stored ≡ map number_in versions
numbers_same g all [] [] zip = refl
numbers_same g all [] (s ∷ stored) zip = absurd zip
numbers_same g all (v ∷ versions) [] zip = absurd zip
numbers_same g all (v ∷ versions) (s ∷ stored) zip = (let here = unique_is g all v s zip.0 in let rest = numbers_same g all versions stored zip.1 in cc (here, rest))

pub in_order_stored : (g : Geometry) (all : List PlacedVersion) (versions : List HistoryVersion) (stored : List Stored) → AllZip (IsLinkedOf g all) versions stored → Rising (map number_in versions) → in_order unique_of stored ≡ stored
in_order_stored g all versions stored zip up = order_left unique_of stored (rises_mapped unique_of stored (subst Rising (sym (numbers_same g all versions stored zip)) up))

row_member : (page slot : ℕ) (records : List Record) (s : Stored) → Has (placed_from page slot records) s → (s.place.page.0 ≡ page) × (slot ≤ s.place.slot)
row_member page slot [] s has = absurd has
row_member page slot (r ∷ records) s (inl e) = (ap (λ (t : Stored). t.place.page.0) (sym e), (let at : slot ≡ s.place.slot = ap (λ (t : Stored). t.place.slot) e in omega arith))
row_member page slot (r ∷ records) s (inr has) = let rest = row_member page (suc slot) records s has in (rest.0, omega (arith, rest.1))

row_apart : (page slot : ℕ) (records : List Record) → Sep place_in (placed_from page slot records)
row_apart page slot [] = tt
row_apart page slot (r ∷ records) = (λ s has e. (let at : slot ≡ s.place.slot = ap (λ (p : Place). p.slot) e in absurd (omega (arith, at, (row_member page (suc slot) records s has).1))), row_apart page (suc slot) records)

sep_joined : {A B : Type 0} (f : A → B) (xs ys : List A) → Sep f xs → Sep f ys → ((x y : A) → Has xs x → Has ys y → f x ≡ f y → ⊥) → Sep f (xs ++ ys)
sep_joined f [] ys one two apart = two
sep_joined f (x ∷ xs) ys one two apart = (λ y has e. elim (has_either xs ys y has) [ inl left ↦ one.0 y left e | inr right ↦ apart x y (inl refl) right e ], sep_joined f xs ys one.1 two (λ x y left right e. apart x y (inr left) right e))

pub page_member : (first : ℕ) (pages : List (List Record)) (s : Stored) → Has (placed_in first pages) s → first ≤ s.place.page.0
page_member first [] s has = absurd has
page_member first (records ∷ pages) s has = elim (has_either (placed_from first 0 records) (placed_in (suc first) pages) s has) [
  | inl here ↦ (let at = (row_member first 0 records s here).0 in omega arith)
  | inr there ↦ (let rest = page_member (suc first) pages s there in omega arith)
]

pub places_apart : (first : ℕ) (pages : List (List Record)) → Sep place_in (placed_in first pages)
places_apart first [] = tt
places_apart first (records ∷ pages) = sep_joined place_in (placed_from first 0 records) (placed_in (suc first) pages) (row_apart first 0 records) (places_apart (suc first) pages)
    (λ x y left right e. (let here = (row_member first 0 records x left).0 in let there = page_member (suc first) pages y right in let same : x.place.page.0 ≡ y.place.page.0 = ap (λ (p : Place). p.page.0) e in absurd (omega arith)))

-- ---- the records of the file, once they have their links

pub are_linked : (g : Geometry) (all : List PlacedVersion) (versions : List HistoryVersion) (first : ℕ) (pages : List (List Record)) → map (unlinked g) versions ≡ all_of pages → all ≡ versions_placed versions (placed_in first pages) → Rising (map number_in versions)
    → AreLinkedOf g all versions (placed_in first (rows_linked (map (links_of all) all) pages))
are_linked g all versions first pages bodies placed up =
    let plain = plain_zip g versions (placed_in first pages) (bodies_placed first pages ∙ sym bodies) in
    let same : stored_linked (map (links_of all) (versions_placed versions (placed_in first pages))) (placed_in first pages) ≡ placed_in first (rows_linked (map (links_of all) all) pages) =
    ap (λ (ws : List PlacedVersion). stored_linked (map (links_of all) ws) (placed_in first pages)) (sym placed) ∙ sym (pages_placed first (map (links_of all) all) pages) in
    subst (AreLinkedOf g all versions) same (record {
      zip = linked_zip g all versions (placed_in first pages) plain;
      placed = placed ∙ sym (linked_placed g all versions (placed_in first pages) plain);
      apart = sep_from place_in (stored_linked (map (links_of all) (versions_placed versions (placed_in first pages))) (placed_in first pages))
          (subst (λ (ps : List Place). AllDiffer ps) (sym (linked_places versions (placed_in first pages) all g plain)) (sep_to place_in (placed_in first pages) (places_apart first pages)));
      numbers = rises_apart number_in versions (rises_mapped number_in versions up);
    })
