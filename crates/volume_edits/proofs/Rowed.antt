-- A file that is edited, as one of a volume.
use Rattle.std.proofs.Common.{◌≡◌, ◌≢◌, ℕ, ◌+◌, ◌≤◌, Bool, true, false, List, [], ◌∷◌, ◌++◌, Option, refl, sym, ap, subst, ◌∙◌, arith, inl, inr, ◌⊎◌, eq-eqb}
use Rattle.std.specs.Prelude.{map}
use Rattle.std.specs.List.{AllByRecursion}
use Rattle.std.proofs.lemmas.List.{map-append}
use Rattle.std.proofs.lemmas.Bool.{cases_Bool}
use Rattle.ex_base.specs.declared.ground.Ground as ground
use Rattle.ex_base.specs.declared.names.PageNo.{PageNo}
use Rattle.ex_base.specs.Area.{catalog_no}
use Rattle.ex_base.specs.Order.{AllDiffer}
use Rattle.ex_base.specs.Ports.{times}
use Rattle.ex_base.proofs.Counts.{none_or_some, not_equal, same_or_not, times-append, times_apart, times_here}
use Rattle.ex_base.proofs.Members.{each_in, in_left, in_right}
use Rattle.ex_base.specs.declared.names.Index.{Index}
use Rattle.file_index.specs.Changes.{Changes, count_of}
use Rattle.file_index.proofs.Counts.{count_most, count_is}
use Rattle.object_files.specs.Catalog.{FileEntry, Catalog, CatalogOf, number_of}
use Rattle.object_files.specs.Reads.{catalog_on}
use Rattle.object_files.specs.Edits.{indexed}
use Rattle.object_files.proofs.CatalogLaws.{catalog_read}
use Rattle.file_bodies.specs.Files.{HasFile, all_pages, with_index}
use Rattle.op_log.specs.declared.record.LogRecord.{LogRecord}
use Rattle.volume_model.specs.Volume.{Stored, file_pages}
use Rattle.versions.specs.Versions.{AreInUse}
use Rattle.volume_edits.specs.Ported.{ShowsVolume, IsApart}
use Rattle.volume_edits.proofs.Lists.{key_differs}
use Rattle.volume_edits.proofs.Frames.{Frame, IsStill}
use Rattle.volume_edits.proofs.Holes.{Hole, filled, entry_with, catalog_with, times_filled, pages_first, pages_last}
use Rattle.volume_edits.proofs.Counted.{in_area}

not_counted : (b : Bool) → count_of b ≡ 0 → b ≡ false
not_counted true e = absurd (omega arith)
not_counted false e = refl

indexed_others : (n level : ℕ) (root : Option PageNo) (es : List FileEntry) → AllByRecursion (λ (e : FileEntry). e.file_no ≢ n) es → map (indexed n level root) es ≡ es
indexed_others n level root [] others = refl
indexed_others n level root (e ∷ es) others =
    let test = not_equal e.file_no n others.0 in
    let here : indexed n level root e ≡ e = rw test refl in
    let rest = indexed_others n level root es others.1 in
    cc (here, rest)

-- the entries with an index in that of the file
pub indexed_with : (h : Hole) (index after : Index) → after.file_no ≡ h.file_no → AllDiffer (map number_of (catalog_with h index).entries) → with_index (catalog_with h index) after ≡ catalog_with h after
indexed_with h index after number differ =
    let e : FileEntry = entry_with h index in
    let first = indexed_others after.file_no after.level after.root h.entries_before (each_in (λ (d : FileEntry). d.file_no ≢ after.file_no) h.entries_before (λ d k same. key_differs number_of d (entry_with h index) h.entries_before h.entries_behind differ (in_left d h.entries_before h.entries_behind k) (same ∙ number))) in
    let last = indexed_others after.file_no after.level after.root h.entries_behind (each_in (λ (d : FileEntry). d.file_no ≢ after.file_no) h.entries_behind (λ d k same. key_differs number_of d (entry_with h index) h.entries_before h.entries_behind differ (in_right d h.entries_before h.entries_behind k) (same ∙ number))) in
    let own : indexed after.file_no after.level after.root (entry_with h index) ≡ entry_with h after = own_entry in
    let made : List FileEntry → Catalog = λ es. record { next_unique = h.next; last = h.last; entries = es } in
    ap made (
    map-append (indexed after.file_no after.level after.root) h.entries_before (entry_with h index ∷ h.entries_behind)
    ∙ ap (λ (t : List FileEntry). t ++ map (indexed after.file_no after.level after.root) (entry_with h index ∷ h.entries_behind)) first
    ∙ ap (λ (d : FileEntry). h.entries_before ++ (d ∷ map (indexed after.file_no after.level after.root) h.entries_behind)) own
    ∙ ap (λ (t : List FileEntry). h.entries_before ++ (entry_with h after ∷ t)) last
    )
  where
    own_entry : indexed after.file_no after.level after.root (entry_with h index) ≡ entry_with h after
    own_entry = elim (same_or_not h.file_no after.file_no) [
      | inl same ↦ (let test = eq-eqb h.file_no after.file_no same in rw test refl)
      | inr differs ↦ absurd (differs (sym number))
    ]

module _ {S : Type 0} (g : ground.Ghosts S) (old new : S) (index after : Index) (file : HasFile g old index) (new_file : HasFile g new after) (same_file : after.file_no ≡ index.file_no)
    (catalog_is : catalog_on (g.image new catalog_no) ≡ with_index (catalog_on (g.image old catalog_no)) after) (changes : Changes g old new (catalog_no ∷ all_pages (g.image old) index) (catalog_no ∷ all_pages (g.image new) after)) where
  outside : (u : ℕ) → g.held old u ≡ false → times u (catalog_no ∷ all_pages (g.image old) index) ≡ 0
  outside u held = elim (same_or_not u catalog_no) [
    | inl same ↦ absurd (let t : g.held old u ≡ true = ap (g.held old) same ∙ file.catalog.held in cc)
    | inr differ ↦ omega (arith, times_apart u catalog_no (all_pages (g.image old) index) differ, file.once u, ap count_of held)
  ]

  still : (u : ℕ) → g.used old u ≡ true → g.held old u ≡ false → IsStill g old new u
  still u used held =
      let none = outside u held in
      let stays = changes.units u used none in
      record { unit = stays.unit; used = stays.used; held = not_counted (g.held new u) (omega (arith, changes.counted u, stays.other, ap count_of held)) }

  pub row_frame : g.geometry new ≡ g.geometry old → IsApart g new → AreInUse g new → Frame g old new (all_pages (g.image old) index) (all_pages (g.image new) after)
  row_frame geometry apart in_use = record {
    geometry = geometry;
    counted = changes.counted;
    images = changes.images;
    units = still;
    in_use = in_use;
    apart = apart;
  }

  -- the catalog afterwards
  module _ (records : List LogRecord) (h : Hole) (o : List Stored) (vol : ShowsVolume g old records (filled h (g.image old) index o)) (number : index.file_no ≡ h.file_no) where
    catalog_old : CatalogOf (g.image old catalog_no) (catalog_with h index)
    catalog_old = let some = (g.geometry old).some_pages in subst (λ (page : List ℕ). CatalogOf page (catalog_with h index)) (in_area g old catalog_no (omega (arith, some))) vol.parts.0.0

    pub with_after : with_index (catalog_with h index) after ≡ catalog_with h after
    with_after = indexed_with h index after (same_file ∙ number) vol.parts.0.0.fits.numbers

    pub row_catalog : CatalogOf (g.image new catalog_no) (catalog_with h after)
    row_catalog =
        let read = catalog_read (g.image old catalog_no) (catalog_with h index) catalog_old in
        let same : catalog_on (g.image new catalog_no) ≡ catalog_with h after = catalog_is ∙ ap (λ (c : Catalog). with_index c after) read ∙ with_after in
        subst (CatalogOf (g.image new catalog_no)) same new_file.catalog.whole

    -- a page afterwards is one of before or was free
    pub row_pages : (o' : List Stored) (p : ℕ) → 1 ≤ times p (file_pages (filled h (g.image new) after o')) → (1 ≤ times p (file_pages (filled h (g.image old) index o))) ⊎ (g.used old p ≡ false)
    row_pages o' p some = elim (none_or_some (times p (file_pages (filled h (g.image old) index o)))) [
      | inr k ↦ inl k
      | inl none ↦ elim (cases_Bool (g.used old p)) [
        | inr free ↦ inr free
        | inl used ↦ elim (same_or_not p catalog_no) [
          | inl same ↦ absurd (omega (arith, counts, some, none, times_here p catalog_no (all_pages (g.image new) after) same, times_here p catalog_no (all_pages (g.image old) index) same, changes.counted p, count_is (g.held old p) (ap (g.held old) same ∙ file.catalog.held), count_most (g.held new p), new_counts, times-append p (catalog_no ∷ []) (file_pages (filled h (g.image new) after o')), times-append p (catalog_no ∷ []) (file_pages (filled h (g.image old) index o))))
          | inr differ ↦ absurd (
              let zero_before : times p (catalog_no ∷ all_pages (g.image old) index) ≡ 0 = omega (arith, counts, none, times-append p (catalog_no ∷ []) (file_pages (filled h (g.image old) index o)), times_apart p catalog_no (file_pages (filled h (g.image old) index o)) differ) in
              let stays = changes.units p used zero_before in
              omega (arith, stays.other, counts, new_counts, some, none, times_apart p catalog_no (file_pages (filled h (g.image new) after o')) differ, times_apart p catalog_no (file_pages (filled h (g.image old) index o)) differ)
              )
        ]
      ]
    ]
      where
        counts : times p (catalog_no ∷ file_pages (filled h (g.image old) index o)) ≡ times p (catalog_no ∷ all_pages (g.image old) index) + (times p (pages_first h) + times p (pages_last h))
        counts = times_filled h (g.image old) index o p

        new_counts : times p (catalog_no ∷ file_pages (filled h (g.image new) after o')) ≡ times p (catalog_no ∷ all_pages (g.image new) after) + (times p (pages_first h) + times p (pages_last h))
        new_counts = times_filled h (g.image new) after o' p
