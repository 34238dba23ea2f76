-- A version more of the file at hand.
use Rattle.std.proofs.Common.{◌≡◌, ◌≤◌, ◌+◌, ℕ, suc, List, [], ◌∷◌, ◌++◌, length, map, Option, Some, None, refl, sym, ap, subst, ◌∙◌, arith, append_assoc}
use Rattle.std.specs.List.{AllByRecursion, AllZip}
use Rattle.std.proofs.lemmas.List.{append-nil, length-append, length-map, map-append}
use Rattle.disk_model.specs.Outside.{Outside}
use Rattle.ex_base.specs.declared.geometry.Geometry.{Geometry}
use Rattle.ex_base.specs.declared.names.Place.{Place}
use Rattle.ex_base.specs.Sizes.{least_page}
use Rattle.ex_base.proofs.Rows.{each-append}
use Rattle.object_records.specs.Record.{Content, IsRecord, Large, Record, Small, record_bytes}
use Rattle.slotted_pages.specs.FilePage.{Slot}
use Rattle.slotted_pages.specs.Edits.{place_for, slots_of}
use Rattle.volume_model.specs.Volume.{Stored}
use Rattle.history_links.specs.declared.PlacedVersion.{PlacedVersion}
use Rattle.history_links.specs.Linked.{number_in as placed_number}
use Rattle.history_model.specs.FilePages.{record_size}
use Rattle.history_model.specs.History.{HistoryVersion}
use Rattle.history_model.specs.Items.{IsContentItem}
use Rattle.history_writes.specs.Contents.{placed_from, placed_in}
use Rattle.history_writes.specs.Laid.{IsLastPlace, LaysRecord, all_of, page_of, rows_after, slot_for, slots_after, written_after}
use Rattle.history_writes.specs.declared.file_pages.FilePages.{FilePages}
use Rattle.history_writes.proofs.Laying.{slots_are}
use Rattle.history_writes.specs.Records.{unlinked}
use Rattle.history_load.specs.AtHand.{PutsVersion, placed_version, versions_placed}
use Rattle.history_load.specs.declared.files_at_hand.FilesAtHand.{FilesAtHand}
use Rattle.history_load.proofs.Linking.{bodies_placed, plain_zip}

-- ---- where a record lies

abbrev made_place : ℕ → ℕ → Place
made_place page slot = record { page = record { 0 = page }; slot = slot }

abbrev made_stored : Place → Record → Stored
made_stored place r = record { place = place; body = r }

place_is : (place : Place) (page slot : ℕ) → place.page.0 ≡ page → place.slot ≡ slot → place ≡ made_place page slot
place_is place page slot here there = ap (λ (n : ℕ). made_place n place.slot) here ∙ ap (made_place page) there

-- the place of a record more, where so many pages are written and so many slots stand on the one at hand
abbrev place_after : ℕ → ℕ → ℕ → Option ℕ → Place
place_after first written slots None = made_place (first + suc written) 0
place_after first written slots (Some slot) = made_place (first + written) slots

row_append : (page slot : ℕ) (xs ys : List Record) → placed_from page slot (xs ++ ys) ≡ placed_from page slot xs ++ placed_from page (slot + length xs) ys
row_append page slot [] ys = (let same : slot ≡ slot + 0 = omega arith in ap (λ (n : ℕ). placed_from page n ys) same)
row_append page slot (x ∷ xs) ys =
    let same : suc slot + length xs ≡ slot + suc (length xs) = omega arith in
    ap (λ (rest : List Stored). made_stored (made_place page slot) x ∷ rest) (row_append page (suc slot) xs ys ∙ ap (λ (n : ℕ). placed_from page (suc slot) xs ++ placed_from page n ys) same)

pages_append : (first : ℕ) (xs ys : List (List Record)) → placed_in first (xs ++ ys) ≡ placed_in first xs ++ placed_in (first + length xs) ys
pages_append first [] ys = (let same : first ≡ first + 0 = omega arith in ap (λ (n : ℕ). placed_in n ys) same)
pages_append first (x ∷ xs) ys =
    let same : suc first + length xs ≡ first + suc (length xs) = omega arith in
    ap (λ (rest : List Stored). placed_from first 0 x ++ rest) (pages_append (suc first) xs ys ∙ ap (λ (n : ℕ). placed_in (suc first) xs ++ placed_in n ys) same)
    ∙ sym (append_assoc (placed_from first 0 x) (placed_in (suc first) xs) (placed_in (first + length (x ∷ xs)) ys))

placed_after : (first : ℕ) (full : List (List Record)) (last : List Record) (r : Record) (o : Option ℕ)
    → placed_in first (rows_after full last r o) ≡ placed_in first (full ++ last ∷ []) ++ made_stored (place_after first (length full) (length last) o) r ∷ []
placed_after first full last r None =
    let next : suc (first + length full) ≡ first + suc (length full) = omega arith in
    pages_append first full (last ∷ (r ∷ []) ∷ [])
    ∙ ap (λ (n : ℕ). placed_in first full ++ (placed_from (first + length full) 0 last ++ made_stored (made_place n 0) r ∷ [])) next
    ∙ ap (λ (ss : List Stored). placed_in first full ++ (ss ++ made_stored (made_place (first + suc (length full)) 0) r ∷ [])) (sym (append-nil (placed_from (first + length full) 0 last)))
    ∙ sym (append_assoc (placed_in first full) (placed_from (first + length full) 0 last ++ []) (made_stored (made_place (first + suc (length full)) 0) r ∷ []))
    ∙ ap (λ (ss : List Stored). ss ++ made_stored (made_place (first + suc (length full)) 0) r ∷ []) (sym (pages_append first full (last ∷ [])))
placed_after first full last r (Some slot) =
    let zero_more : 0 + length last ≡ length last = omega arith in
    pages_append first full ((last ++ r ∷ []) ∷ [])
    ∙ ap (λ (ss : List Stored). placed_in first full ++ ss) (append-nil (placed_from (first + length full) 0 (last ++ r ∷ [])) ∙ row_append (first + length full) 0 last (r ∷ [])
    ∙ ap (λ (n : ℕ). placed_from (first + length full) 0 last ++ placed_from (first + length full) n (r ∷ [])) zero_more)
    ∙ ap (λ (ss : List Stored). placed_in first full ++ (ss ++ made_stored (made_place (first + length full) (length last)) r ∷ [])) (sym (append-nil (placed_from (first + length full) 0 last)))
    ∙ sym (append_assoc (placed_in first full) (placed_from (first + length full) 0 last ++ []) (made_stored (made_place (first + length full) (length last)) r ∷ []))
    ∙ ap (λ (ss : List Stored). ss ++ made_stored (made_place (first + length full) (length last)) r ∷ []) (sym (pages_append first full (last ∷ [])))

last_place : (old new : FilePages) (body : List ℕ) (place : Place) (o : Option ℕ) → IsLastPlace new place → new.first ≡ old.first → new.written ≡ written_after old.written o → slots_of new.page.items ≡ slots_after (slots_of old.page.items) body o
    → place ≡ place_after old.first old.written (length (slots_of old.page.items)) o
last_place old new body place None is first written slots =
    let count : length (slots_of new.page.items) ≡ 1 = ap (λ (ss : List Slot). length ss) slots in
    place_is place (old.first + suc old.written) 0 (is.page ∙ omega (arith, first, written)) (omega (arith, is.slot, count))
last_place old new body place (Some slot) is first written slots =
    let count : length (slots_of new.page.items) ≡ length (slots_of old.page.items) + 1 = ap (λ (ss : List Slot). length ss) slots ∙ length-append (slots_of old.page.items) (Some body ∷ []) in
    place_is place (old.first + old.written) (length (slots_of old.page.items)) (is.page ∙ omega (arith, first, written)) (omega (arith, is.slot, count))

-- ---- a version more is placed

placed_more : (g : Geometry) (versions : List HistoryVersion) (stored : List Stored) (v : HistoryVersion) (s : Stored) → AllZip (λ (w : HistoryVersion) (t : Stored). t.body ≡ unlinked g w) versions stored
    → versions_placed (versions ++ v ∷ []) (stored ++ s ∷ []) ≡ versions_placed versions stored ++ placed_version v s.place ∷ []
placed_more g [] [] v s zip = refl
placed_more g [] (t ∷ stored) v s zip = absurd zip
placed_more g (w ∷ versions) [] v s zip = absurd zip
placed_more g (w ∷ versions) (t ∷ stored) v s zip = ap (λ (rest : List PlacedVersion). placed_version w t.place ∷ rest) (placed_more g versions stored v s zip.1)

all_rows : (full : List (List Record)) (last : List Record) → all_of (full ++ last ∷ []) ≡ all_of full ++ last
all_rows [] last = append-nil last
all_rows (records ∷ full) last = ap (λ (rs : List Record). records ++ rs) (all_rows full last) ∙ sym (append_assoc records (all_of full) last)

pub puts : (g : Geometry) (a b : Outside) (old new : FilesAtHand) (v : HistoryVersion) (body : List ℕ) (place : Place) → IsRecord (unlinked g v) → body ≡ record_bytes (unlinked g v) → LaysRecord g a b old.pages new.pages (unlinked g v) → IsLastPlace new.pages place
    → new.pages.first ≡ old.pages.first → new.pages.written ≡ written_after old.pages.written (place_for (length old.pages.page.items) (slots_of old.pages.page.items) (length body))
    → slots_of new.pages.page.items ≡ slots_after (slots_of old.pages.page.items) body (place_for (length old.pages.page.items) (slots_of old.pages.page.items) (length body))
    → new.versions.items ≡ old.versions.items ++ placed_version v place ∷ [] → PutsVersion g a b old new v
puts g a b old new v body place fits spelled lays last first written slots kept image versions holds at =
    let lay = lays image (map (unlinked g) versions) holds at.laid in
    let rows : lay.2.full ++ lay.2.last ∷ [] ≡ rows_after at.laid.full at.laid.last (unlinked g v) (place_for (length old.pages.page.items) (slots_of old.pages.page.items) (length body)) =
    lay.3 ∙ ap (λ (bytes : List ℕ). rows_after at.laid.full at.laid.last (unlinked g v) (place_for (length old.pages.page.items) (slots_of old.pages.page.items) (length bytes))) (sym spelled) in
    let slots_old : length (slots_of old.pages.page.items) ≡ length at.laid.last = ap (λ (ss : List Slot). length ss) (slots_are old.pages.page.items (page_of old.pages.file_no at.laid.last) at.laid.at_hand) ∙ length-map at.laid.last slot_for in
    let there : place ≡ place_after old.pages.first (length at.laid.full) (length at.laid.last) (place_for (length old.pages.page.items) (slots_of old.pages.page.items) (length body)) =
    last_place old.pages new.pages body place (place_for (length old.pages.page.items) (slots_of old.pages.page.items) (length body)) last first written slots
    ∙ ap (λ (n : ℕ). place_after old.pages.first n (length (slots_of old.pages.page.items)) (place_for (length old.pages.page.items) (slots_of old.pages.page.items) (length body))) at.laid.count
    ∙ ap (λ (n : ℕ). place_after old.pages.first (length at.laid.full) n (place_for (length old.pages.page.items) (slots_of old.pages.page.items) (length body))) slots_old in
    let zip = plain_zip g versions (placed_in old.pages.first (at.laid.full ++ at.laid.last ∷ [])) (bodies_placed old.pages.first (at.laid.full ++ at.laid.last ∷ []) ∙ all_rows at.laid.full at.laid.last ∙ sym at.laid.records_are) in
    let placed : placed_in new.pages.first (lay.2.full ++ lay.2.last ∷ []) ≡ placed_in old.pages.first (at.laid.full ++ at.laid.last ∷ []) ++ made_stored place (unlinked g v) ∷ [] =
    ap (λ (n : ℕ). placed_in n (lay.2.full ++ lay.2.last ∷ [])) first ∙ ap (placed_in old.pages.first) rows
    ∙ placed_after old.pages.first at.laid.full at.laid.last (unlinked g v) (place_for (length old.pages.page.items) (slots_of old.pages.page.items) (length body))
    ∙ ap (λ (p : Place). placed_in old.pages.first (at.laid.full ++ at.laid.last ∷ []) ++ made_stored p (unlinked g v) ∷ []) (sym there) in
    let mapped : map (unlinked g) (versions ++ v ∷ []) ≡ map (unlinked g) versions ++ unlinked g v ∷ [] = map-append (unlinked g) versions (v ∷ []) in (
      lay.0,
      lay.1,
      record {
        records = subst (AllByRecursion IsRecord) (sym mapped) (each-append IsRecord (map (unlinked g) versions) (unlinked g v ∷ []) at.records (fits, tt));
        laid = record { full = lay.2.full; last = lay.2.last; records_are = mapped ∙ lay.2.records_are; count = lay.2.count; pages = lay.2.pages; at_hand = lay.2.at_hand };
        placed = kept ∙ ap (λ (ws : List PlacedVersion). ws ++ placed_version v place ∷ []) at.placed
            ∙ sym (ap (versions_placed (versions ++ v ∷ [])) placed ∙ placed_more g versions (placed_in old.pages.first (at.laid.full ++ at.laid.last ∷ [])) v (made_stored place (unlinked g v)) zip);
      },
    )

-- ---- its record fits a page

pub record_fits : (g : Geometry) (leaves nodes : ℕ) (content : Content) → IsContentItem g leaves nodes content → record_size content + 20 ≤ g.page_size
record_fits g leaves nodes (Small bytes) is = (let least = least_page g in omega (arith, is))
record_fits g leaves nodes (Large root) is = omega (arith, least_page g)

pub record_some : (content : Content) → 1 ≤ record_size content
record_some (Small bytes) = omega arith
record_some (Large root) = omega arith

pub numbers_more : (versions : List PlacedVersion) (v : PlacedVersion) (items : List PlacedVersion) → items ≡ versions ++ v ∷ [] → map placed_number items ≡ map placed_number versions ++ v.unique ∷ []
numbers_more versions v items e = ap (map placed_number) e ∙ map-append placed_number versions (v ∷ [])
