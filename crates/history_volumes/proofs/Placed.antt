-- Records stand on pages of files, and fit them.
use Rattle.std.proofs.Common.{◌≡◌, ◌≤◌, ◌+◌, ℕ, zero, suc, max, drop, List, [], ◌∷◌, length, Some, None, refl, sym, subst, ap, ◌∙◌, arith, inl, inr}
use Rattle.std.specs.Prelude.{slice_get, slice_index}
use Rattle.std.specs.List.{flat_map, AllByRecursion, AllZip, zip}
use Rattle.std.proofs.lemmas.List.{length-append, length-take}
use Rattle.std.proofs.lemmas.Option.{none-some, same_Some}
use Rattle.ex_base.specs.declared.names.Place.{Place}
use Rattle.ex_base.specs.Fields.{number_at}
use Rattle.ex_base.specs.Bytes.{bytes_at}
use Rattle.ex_base.proofs.Each.{each_as}
use Rattle.ex_base.proofs.Rows.{each-append}
use Rattle.object_records.specs.Record.{BodyOf, Large, Record, Small}
use Rattle.object_records.specs.Reads.{content_on, content_read, root_on, small_on}
use Rattle.object_records.proofs.RecordLaws.{record_read, spelled_reads}
use Rattle.slotted_pages.specs.FilePage.{FilePage, Slot, bodies, body_of}
use Rattle.version_lists.proofs.Lists.{Has}
use Rattle.volume_model.specs.Parts.{IsStored, bodies_from, bodies_in}
use Rattle.volume_model.specs.Volume.{FileContent, Stored}
use Rattle.volume_model.proofs.Places.{each_has}

-- ---- a body in a slot

pub in_bodies : (slots : List Slot) (i : ℕ) (bytes : List ℕ) → slice_get slots i ≡ Some (Some bytes) → (1 ≤ length slots) × (length bytes ≤ length (bodies slots))
in_bodies [] i bytes is = absurd (none-some (Some bytes) is)
in_bodies (s ∷ slots) zero bytes is =
    let same : body_of s ≡ bytes = ap body_of (same_Some s (Some bytes) is) in
    (omega arith, omega (arith, ap length same, length-append (body_of s) (bodies slots)))
in_bodies (s ∷ slots) (suc i) bytes is = let rest = in_bodies slots i bytes is in (omega arith, omega (arith, rest.1, length-append (body_of s) (bodies slots)))

-- the bytes of a small version are in its body
pub small_len : (body held : List ℕ) (r : Record) → BodyOf body r → r.content ≡ Small held → length held + 24 ≤ length body
unfolding content_on
small_len body held r spelled is =
    let reads = spelled_reads body r spelled in
    let content : content_read (slice_index body 0) body ≡ Small held = ap (λ (x : Record). x.content) (record_read body r spelled) ∙ is in
    elim reads.1 [
      | inl small ↦
          let e : small_on body ≡ Small held = sym (ap (λ (k : ℕ). content_read k body) small.form) ∙ content in
          len e small.len
      | inr large ↦ absurd (let e : Large (root_on body) ≡ Small held = sym (ap (λ (k : ℕ). content_read k body) large.form) ∙ content in cc)
    ]
  where
    len : small_on body ≡ Small held → length body ≡ 24 + max 12 (number_at 2 body 22) → length held + 24 ≤ length body
    len e long =
        let same : bytes_at body 24 (number_at 2 body 22) ≡ held = cc in
        omega (arith, ap length same, long, length-take (number_at 2 body 22) (drop 24 body))

-- ---- the page of a place

abbrev OnPage : ℕ → Place × List ℕ → Type 0
OnPage page row = row.0.page.0 ≡ page

rows_on : (page slot : ℕ) (slots : List Slot) → AllByRecursion (OnPage page) (bodies_from page slot slots)
rows_on page slot [] = tt
rows_on page slot (None ∷ slots) = rows_on page (suc slot) slots
rows_on page slot (Some body ∷ slots) = (refl, rows_on page (suc slot) slots)

abbrev InPages : List ℕ → Place × List ℕ → Type 0
InPages numbers row = Has numbers row.0.page.0

rows_in : (all numbers : List ℕ) (pages : List FilePage) → ((n : ℕ) → Has numbers n → Has all n) → AllByRecursion (InPages all) (flat_map (λ (row : ℕ × FilePage). bodies_from row.0 0 row.1.slots) (zip numbers pages))
rows_in all [] pages there = tt
rows_in all (n ∷ numbers) [] there = tt
rows_in all (n ∷ numbers) (p ∷ pages) there =
    each-append (InPages all) (bodies_from n 0 p.slots) (flat_map (λ (row : ℕ × FilePage). bodies_from row.0 0 row.1.slots) (zip numbers pages))
    (each_as (OnPage n) (InPages all) (bodies_from n 0 p.slots) (λ row on. subst (Has all) (sym on) (there n (inl refl))) (rows_on n 0 p.slots))
    (rows_in all numbers pages (λ m h. there m (inr h)))

stored_in_pages : (numbers : List ℕ) (rows : List (Place × List ℕ)) (stored : List Stored) → AllZip IsStored rows stored → AllByRecursion (InPages numbers) rows → AllByRecursion (λ (s : Stored). Has numbers s.place.page.0) stored
stored_in_pages numbers [] [] both each = tt
stored_in_pages numbers [] (s ∷ stored) both each = absurd both
stored_in_pages numbers (row ∷ rows) [] both each = absurd both
stored_in_pages numbers (row ∷ rows) (s ∷ stored) both each = (subst (λ (p : Place). Has numbers p.page.0) both.0.0 each.0, stored_in_pages numbers rows stored both.1 each.1)

-- a record stands on a page of its file
pub on_page_of_file : (f : FileContent) (s : Stored) → AllZip IsStored (bodies_in f) f.stored → Has f.stored s → Has f.numbers s.place.page.0
on_page_of_file f s records there =
    each_has (λ (x : Stored). Has f.numbers x.place.page.0) f.stored (stored_in_pages f.numbers (bodies_in f) f.stored records (rows_in f.numbers f.numbers f.pages (λ n h. h))) s there
