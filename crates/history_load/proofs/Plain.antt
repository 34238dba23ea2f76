-- Records that have no links, and what may be linked.
use Rattle.std.proofs.Common.{◌≡◌, ◌≤◌, ℕ, suc, Bool, true, false, ◌||◌, ◌==◌, List, [], ◌∷◌, ◌++◌, length, map, drop, Option, Some, None, refl, sym, ap, subst, ◌∙◌, arith}
use Rattle.std.specs.Prelude.{if◌then◌else◌}
use Rattle.std.specs.List.{AllByRecursion, AllZip, list_any}
use Rattle.std.proofs.lemmas.List.{length-append, length-drop, length-map}
use Rattle.ex_base.specs.declared.geometry.Geometry.{Geometry}
use Rattle.ex_base.specs.declared.names.Place.{Place}
use Rattle.ex_base.specs.Fields.{IsPlaceField}
use Rattle.ex_base.proofs.Each.{each_mapped, each_parted}
use Rattle.ex_base.proofs.Filters.{each_kept}
use Rattle.ex_base.proofs.Options.{none_from_test}
use Rattle.ex_base.proofs.Rows.{each-drop}
use Rattle.object_records.specs.Record.{IsRecord, NewerFits, Record}
use Rattle.version_lists.proofs.Lists.{filter_none}
use Rattle.volume_model.specs.Volume.{Stored}
use Rattle.volume_model.proofs.Places.{each_has, has_each}
use Rattle.history_writes.specs.Linked.{AllMayHave, HaveFields, record_linked, records_linked, rows_linked}
use Rattle.history_links.specs.declared.Links.{Links}
use Rattle.history_links.specs.declared.PlacedVersion.{PlacedVersion}
use Rattle.history_links.specs.Linked.{derived_from, is_number, links_of, names_older, newer_in, only_place, place_if, place_numbered}
use Rattle.history_model.specs.History.{HistoryVersion}
use Rattle.history_writes.specs.Contents.{placed_in}
use Rattle.history_writes.specs.Laid.{all_of}
use Rattle.history_writes.specs.Records.{state_of, unlinked}
use Rattle.history_load.specs.AtHand.{LiesBehind, has_older, pages_linked, versions_placed}
use Rattle.history_load.proofs.Linking.{bodies_placed, plain_zip}

-- ---- where no version is derived from another

either_false : (a b : Bool) → (a || b) ≡ false → (a ≡ false) × (b ≡ false)
either_false true b e = absurd (cc)
either_false false b e = (refl, e)

abbrev HasNone : PlacedVersion → Type 0
HasNone v = v.older ≡ None

none_older : (versions : List PlacedVersion) → list_any has_older versions ≡ false → AllByRecursion HasNone versions
none_older [] e = tt
none_older (v ∷ versions) e = let both = either_false (has_older v) (list_any has_older versions) e in (none_from_test v.older both.0, none_older versions both.1)

abbrev made_links : Option Place → Option Place → Links
made_links older newer = record { older = older; newer = newer }

newer_none : (frozen : Bool) (derived : List PlacedVersion) → derived ≡ [] → (if frozen then only_place derived else None) ≡ None
newer_none false derived e = refl
newer_none true derived e = ap only_place e

none_links : (all : List PlacedVersion) (v : PlacedVersion) → AllByRecursion HasNone all → HasNone v → links_of all v ≡ made_links None None
none_links all v each none =
    let derived : derived_from v.unique all ≡ [] = filter_none (names_older v.unique) all (λ w has. ap (is_number v.unique) (each_has HasNone all each w has)) in
    ap (λ (o : Option Place). made_links o (newer_in all v)) (ap (place_if all) none) ∙ ap (made_links None) (newer_none v.frozen (derived_from v.unique all) derived)

abbrev IsNoLink : Links → Type 0
IsNoLink one = one ≡ made_links None None

abbrev IsPlainRecord : Record → Type 0
IsPlainRecord r = record_linked (made_links None None) r ≡ r

records_plain : (links : List Links) (records : List Record) → AllByRecursion IsNoLink links → AllByRecursion IsPlainRecord records → length records ≤ length links → records_linked links records ≡ records
records_plain links [] none plain few = refl
records_plain [] (r ∷ records) none plain few = absurd (omega (arith, few))
records_plain (one ∷ links) (r ∷ records) none plain few =
    let here : record_linked one r ≡ r = ap (λ (l : Links). record_linked l r) none.0 ∙ plain.0 in
    let rest = records_plain links records none.1 plain.1 (omega (arith, few)) in
    cc (here, rest)

rows_plain : (links : List Links) (pages : List (List Record)) → AllByRecursion IsNoLink links → AllByRecursion (AllByRecursion IsPlainRecord) pages → length (all_of pages) ≤ length links → rows_linked links pages ≡ pages
rows_plain links [] none plain few = refl
rows_plain links (records ∷ pages) none plain few =
    let long = length-append records (all_of pages) in
    let here = records_plain links records none plain.0 (omega (arith, few, long)) in
    let left = length-drop (length records) links in
    let rest = rows_plain (drop (length records) links) pages (each-drop IsNoLink (length records) links none) plain.1 (omega (arith, few, long, left)) in
    cc (here, rest)

length_placed : (g : Geometry) (versions : List HistoryVersion) (stored : List Stored) → AllZip (λ (v : HistoryVersion) (s : Stored). s.body ≡ unlinked g v) versions stored → length (versions_placed versions stored) ≡ length versions
length_placed g [] [] zip = refl
length_placed g [] (s ∷ stored) zip = absurd zip
length_placed g (v ∷ versions) [] zip = absurd zip
length_placed g (v ∷ versions) (s ∷ stored) zip = ap suc (length_placed g versions stored zip.1)

plain_records : (g : Geometry) (versions : List HistoryVersion) → AllByRecursion IsPlainRecord (map (unlinked g) versions)
plain_records g [] = tt
plain_records g (v ∷ versions) = (refl, plain_records g versions)

-- there are links for all records
pub links_enough : (g : Geometry) (all : List PlacedVersion) (versions : List HistoryVersion) (first : ℕ) (pages : List (List Record)) → map (unlinked g) versions ≡ all_of pages → all ≡ versions_placed versions (placed_in first pages)
    → length (map (links_of all) all) ≡ length (all_of pages)
links_enough g all versions first pages bodies placed =
    let zip = plain_zip g versions (placed_in first pages) (bodies_placed first pages ∙ sym bodies) in
    length-map all (links_of all) ∙ ap (λ (ws : List PlacedVersion). length ws) placed ∙ length_placed g versions (placed_in first pages) zip ∙ sym (length-map versions (unlinked g)) ∙ ap (λ (rs : List Record). length rs) bodies

pub pages_plain : (g : Geometry) (all : List PlacedVersion) (versions : List HistoryVersion) (first : ℕ) (pages : List (List Record)) → map (unlinked g) versions ≡ all_of pages → all ≡ versions_placed versions (placed_in first pages) → list_any has_older all ≡ false
    → pages_linked all pages ≡ pages
pages_plain g all versions first pages bodies placed none =
    let each = none_older all none in
    let links = each_mapped IsNoLink (links_of all) all (has_each (λ (v : PlacedVersion). IsNoLink (links_of all v)) all (λ v has. none_links all v each (each_has HasNone all each v has))) in
    let plain = each_parted IsPlainRecord (λ (records : List Record). records) pages (subst (AllByRecursion IsPlainRecord) bodies (plain_records g versions)) in
    let long = links_enough g all versions first pages bodies placed in
    rows_plain (map (links_of all) all) pages links plain (omega (arith, long))

-- ---- links have fields

place_field : (v : PlacedVersion) → LiesBehind v → IsPlaceField (Some v.place)
place_field v lies = (omega (arith, lies.0), lies.1, lies.2)

one_field : (b : Bool) (p : Place) (o : Option Place) → IsPlaceField (Some p) → IsPlaceField o → IsPlaceField (if b then Some p else o)
one_field true p o here there = here
one_field false p o here there = there

numbered_field : (versions : List PlacedVersion) (number : ℕ) → AllByRecursion LiesBehind versions → IsPlaceField (place_numbered versions number)
numbered_field [] number lie = tt
numbered_field (v ∷ versions) number lie = one_field (v.unique == number) v.place (place_numbered versions number) (place_field v lie.0) (numbered_field versions number lie.1)

older_field : (versions : List PlacedVersion) (older : Option ℕ) → AllByRecursion LiesBehind versions → IsPlaceField (place_if versions older)
older_field versions None lie = tt
older_field versions (Some number) lie = numbered_field versions number lie

only_field : (versions : List PlacedVersion) → AllByRecursion LiesBehind versions → IsPlaceField (only_place versions)
only_field [] lie = tt
only_field (v ∷ []) lie = place_field v lie.0
only_field (v ∷ next ∷ rest) lie = tt

if_field : (b : Bool) (o : Option Place) → IsPlaceField o → IsPlaceField (if b then o else None)
if_field true o there = there
if_field false o there = tt

pub links_fields : (all : List PlacedVersion) → AllByRecursion LiesBehind all → AllByRecursion HaveFields (map (links_of all) all)
links_fields all lie = each_mapped HaveFields (links_of all) all (has_each (λ (v : PlacedVersion). HaveFields (links_of all v)) all (λ v has.
    (older_field all v.older lie, if_field v.frozen (only_place (derived_from v.unique all)) (only_field (derived_from v.unique all) (each_kept LiesBehind (names_older v.unique) all lie)))))

-- ---- the records may have them

newer_fits : (frozen : Bool) (o : Option Place) → NewerFits (state_of frozen) (if frozen then o else None)
newer_fits false o = refl
newer_fits true o = tt

may_have : (g : Geometry) (all : List PlacedVersion) (versions : List HistoryVersion) (stored : List Stored) → AllZip (λ (v : HistoryVersion) (s : Stored). s.body ≡ unlinked g v) versions stored
    → AllMayHave (map (links_of all) (versions_placed versions stored)) (map (unlinked g) versions)
may_have g all [] [] zip = tt
may_have g all [] (s ∷ stored) zip = absurd zip
may_have g all (v ∷ versions) [] zip = absurd zip
may_have g all (v ∷ versions) (s ∷ stored) zip = (newer_fits v.frozen (only_place (derived_from v.unique all)), may_have g all versions stored zip.1)

pub all_may_have : (g : Geometry) (all : List PlacedVersion) (versions : List HistoryVersion) (first : ℕ) (pages : List (List Record)) → map (unlinked g) versions ≡ all_of pages → all ≡ versions_placed versions (placed_in first pages)
    → AllMayHave (map (links_of all) all) (all_of pages)
all_may_have g all versions first pages bodies placed =
    let zip = plain_zip g versions (placed_in first pages) (bodies_placed first pages ∙ sym bodies) in
    subst (λ (ws : List PlacedVersion). AllMayHave (map (links_of all) ws) (all_of pages)) (sym placed)
    (subst (λ (rs : List Record). AllMayHave (map (links_of all) (versions_placed versions (placed_in first pages))) rs) bodies (may_have g all versions (placed_in first pages) zip))

may_split : (links : List Links) (xs ys : List Record) → AllMayHave links (xs ++ ys) → AllMayHave links xs × AllMayHave (drop (length xs) links) ys
may_split links [] ys may = (tt, may)
may_split [] (x ∷ xs) ys may = absurd may
may_split (one ∷ links) (x ∷ xs) ys may = let rest = may_split links xs ys may.1 in ((may.0, rest.0), rest.1)

records_are : (links : List Links) (records : List Record) → AllByRecursion HaveFields links → AllMayHave links records → AllByRecursion IsRecord records → AllByRecursion IsRecord (records_linked links records)
records_are links [] fields may are = tt
records_are [] (r ∷ records) fields may are = tt
records_are (one ∷ links) (r ∷ records) fields may are = (
  record { unique = are.0.unique; older = fields.0.0; newer = fields.0.1; newer_fits = may.0; content = are.0.content },
  records_are links records fields.1 may.1 are.1,
)

pub rows_records : (links : List Links) (pages : List (List Record)) → AllByRecursion HaveFields links → AllMayHave links (all_of pages) → AllByRecursion (AllByRecursion IsRecord) pages → AllByRecursion (AllByRecursion IsRecord) (rows_linked links pages)
rows_records links [] fields may are = tt
rows_records links (records ∷ pages) fields may are =
    let split = may_split links records (all_of pages) may in
    (records_are links records fields split.0 are.0, rows_records (drop (length records) links) pages (each-drop HaveFields (length records) links fields) split.1 are.1)

pub rows_length : (links : List Links) (pages : List (List Record)) → length (rows_linked links pages) ≡ length pages
rows_length links [] = refl
rows_length links (records ∷ pages) = ap suc (rows_length (drop (length records) links) pages)

pub each_row : (g : Geometry) (versions : List HistoryVersion) (pages : List (List Record)) → map (unlinked g) versions ≡ all_of pages → AllByRecursion IsRecord (map (unlinked g) versions) → AllByRecursion (AllByRecursion IsRecord) pages
each_row g versions pages bodies are = each_parted IsRecord (λ (records : List Record). records) pages (subst (AllByRecursion IsRecord) bodies are)
