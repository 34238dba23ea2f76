-- A commit that makes room first.
use Rattle.std.proofs.Common.{◌≡◌, ◌≢◌, ◌≤◌, ◌<◌, ℕ, ◌⊎◌, inl, inr, ⊎_elim, List, [], ◌∷◌, Option, Some, None, nat_eq, unwrap_or, refl, sym, ap, subst, ◌∙◌}
use Rattle.std.specs.Prelude.{Contains}
use Rattle.std.specs.List.{flat_map}
use Rattle.std.specs.Map.{lookup}
use Rattle.std.proofs.lemmas.List.Elements.{Contains-append_cases}
use Rattle.lru.proofs.Splits.{Contains-head}
use Rattle.ex_base.specs.declared.names.OpNote.{OpNote}
use Rattle.ex_base.specs.declared.names.Root.{Root}
use Rattle.ex_base.specs.Area.{catalog_no, area_end, page_at}
use Rattle.ex_base.proofs.Each.{flat_same}
use Rattle.op_log.specs.declared.record.LogRecord.{LogRecord}
use Rattle.op_log.specs.AfterLog.{logged, after_log}
use Rattle.op_log.specs.Decoding.{NumberFollows, last_number}
use Rattle.op_log.specs.State.{LogState}
use Rattle.trees.specs.Trees.{root_units}
use Rattle.trees.proofs.SameUnits.{Kept}
use Rattle.volume_model.specs.Committed.{CommittedAs, HasNoRoom, MayCommit, IsOverlayOf, IsStale, SameAfterLog, StandsForEither, with_records}
use Rattle.volume_model.specs.Parts.{StandsFor}
use Rattle.volume_model.specs.SameVolume.{RootKept, units_of_root, kept_from_reach, parts_kept, table_kept}
use Rattle.volume_model.specs.Shown.{PageRow, WorkingRow, laid_over, laid_over_page, working_units}
use Rattle.volume_model.specs.Volume.{Volume, Decoded, file_pages, reach_of, roots_in, stored_in, table_of}
use Rattle.volume_model.proofs.FoundRows.{found_is}
use Rattle.commits.proofs.HomesKept.{none_still, homes_on, homes_stay}
use Rattle.commits.proofs.Places.{same_unit, unit_page, unit_leaf}
use Rattle.commits.proofs.Reached.{reach_behind, same_reach}

-- a page that is stale now was stale before
pub stale_before : (d : Decoded) (records : List LogRecord) (rows : List WorkingRow) (page : ℕ) → (records ≡ d.records) ⊎ (records ≡ []) → ¬ IsStale d rows page → ¬ IsStale (with_records d records d.volume) rows page
stale_before d records rows page those fresh stale = fresh (stale.0, λ none. stale.1 (none_still d records page those none))

-- a number that follows these records follows them still, or none
still_follows : (was now : List LogRecord) (txn : ℕ) → (now ≡ was) ⊎ (now ≡ []) → NumberFollows (last_number was) txn → NumberFollows (last_number now) txn
still_follows was now txn those follows = ⊎_elim
    (λ same. subst (λ (rs : List LogRecord). NumberFollows (last_number rs) txn) (sym same) follows)
    (λ none. subst (λ (rs : List LogRecord). NumberFollows (last_number rs) txn) (sym none) tt) those

none_or_not : (o : Option (List ℕ)) → (o ≡ None) ⊎ (o ≢ None)
none_or_not None = inl refl
none_or_not (Some image) = inr (λ is. cc)

module _ (d : Decoded) (disk : List ℕ) (records : List LogRecord) (later : List ℕ) (rows : List WorkingRow) (those : (records ≡ d.records) ⊎ (records ≡ [])) (same : SameAfterLog d disk records later) where
  abbrev pub now : Decoded
  now = with_records d records d.volume

  same_page : (page : ℕ) → catalog_no ≤ page → page < area_end d.geometry → after_log d.geometry records later page ≡ after_log d.geometry d.records disk page
  same_page page le lt = sym (unit_page d.geometry (after_log d.geometry records later) later page lt) ∙ same.pages page le ∙ unit_page d.geometry (after_log d.geometry d.records disk) disk page lt

  -- where the log has nothing of a page its home is what it was
  same_home : (page : ℕ) → catalog_no ≤ page → page < area_end d.geometry → logged d.records page ≡ None → page_at d.geometry later page ≡ page_at d.geometry disk page
  same_home page le lt none =
      sym (ap (λ (o : Option (List ℕ)). unwrap_or o (page_at d.geometry later page)) (none_still d records page those none)) ∙ same_page page le lt ∙ ap (λ (o : Option (List ℕ)). unwrap_or o (page_at d.geometry disk page)) none

  same_row : (page : ℕ) (row : Option (Option (List ℕ))) → lookup (nat_eq page) rows ≡ row → catalog_no ≤ page → page < area_end d.geometry → ¬ IsStale d rows page
      → laid_over_page (after_log d.geometry records later page) (page_at d.geometry later page) row ≡ laid_over_page (after_log d.geometry d.records disk page) (page_at d.geometry disk page) row
  same_row page None is le lt fresh = same_page page le lt
  same_row page (Some None) is le lt fresh = ⊎_elim (λ none. same_home page le lt none) (λ some. absurd (fresh (is, some))) (none_or_not (logged d.records page))
  same_row page (Some (Some image)) is le lt fresh = refl

  -- Each page that isn't stale is in the transaction what it was.
  pub same_working : (page : ℕ) → catalog_no ≤ page → ¬ IsStale d rows page → working_units now later rows page ≡ working_units d disk rows page
  same_working page le fresh =
      same_unit d.geometry (laid_over d.geometry disk (after_log d.geometry d.records disk) rows) (laid_over d.geometry later (after_log d.geometry records later) rows) disk later page
      (λ lt. same_row page (lookup (nat_eq page) rows) refl le lt fresh)
      (λ is_leaf. sym (unit_leaf d.geometry (after_log d.geometry records later) later page is_leaf) ∙ same.pages page le ∙ unit_leaf d.geometry (after_log d.geometry d.records disk) disk page is_leaf)

  module _ (txn : ℕ) (working : Volume) (overlay : List PageRow) (just : (page : ℕ) → lookup (nat_eq page) overlay ≡ logged d.records page) (of_files : IsOverlayOf d.volume overlay) (may : MayCommit d disk rows txn working) where
    -- what the log has an image of is the catalog or a page of the committed files
    logged_page : (page : ℕ) (o : Option (List ℕ)) → logged d.records page ≡ o → o ≢ None → (page ≡ catalog_no) ⊎ Contains (file_pages d.volume) page
    logged_page page None is some = absurd (some refl)
    logged_page page (Some image) is some = found_is (λ (row : PageRow). (row.0 ≡ catalog_no) ⊎ Contains (file_pages d.volume) row.0) overlay page image of_files (just page ∙ is)

    -- what the working volume reaches isn't stale
    fresh_reach : (page : ℕ) → Contains (reach_of (working_units d disk rows) working) page → ¬ IsStale d rows page
    fresh_reach page at stale = ⊎_elim
        (λ front. may.kept page front stale.0)
        (λ tree. ⊎_elim
        (λ (is : page ≡ catalog_no). may.kept catalog_no (Contains-head catalog_no (file_pages working)) (subst (λ (p : ℕ). lookup (nat_eq p) rows ≡ Some None) is stale.0))
        (λ filed. may.no_tree page filed tree)
        (logged_page page (logged d.records page) refl stale.1))
        (Contains-append_cases (catalog_no ∷ file_pages working) (flat_map (root_units (working_units d disk rows)) (roots_in (stored_in working))) page at)

    reach_same : Kept (working_units d disk rows) (working_units now later rows) (reach_of (working_units d disk rows) working)
    reach_same = same_reach (working_units d disk rows) (working_units now later rows) working
        (λ page at. same_working page (reach_behind d.geometry (working_units d disk rows) working page may.parts at) (fresh_reach page at))

    trees_same : flat_map (root_units (working_units now later rows)) (roots_in (stored_in working)) ≡ flat_map (root_units (working_units d disk rows)) (roots_in (stored_in working))
    trees_same =
        flat_same (root_units (working_units d disk rows)) (root_units (working_units now later rows)) (RootKept (working_units d disk rows) (working_units now later rows)) (roots_in (stored_in working))
        (λ (root : Root) k. units_of_root (working_units d disk rows) (working_units now later rows) root.height root.page k)
        (kept_from_reach (working_units d disk rows) (working_units now later rows) working reach_same).roots

    pub working_table : table_of (working_units now later rows) working ≡ table_of (working_units d disk rows) working
    working_table = table_kept (working_units d disk rows) (working_units now later rows) working (kept_from_reach (working_units d disk rows) (working_units now later rows) working reach_same)

    -- So it can be committed there,
    pub may_still : MayCommit now later rows txn working
    may_still = record {
      follows = still_follows d.records records txn those may.follows;
      last = may.last;
      parts = parts_kept d.geometry [] (working_units d disk rows) (working_units now later rows) working (kept_from_reach (working_units d disk rows) (working_units now later rows) working reach_same) may.parts;
      images = may.images;
      kept = may.kept;
      left = may.left;
      no_tree = λ page filed tree. may.no_tree page filed (subst (λ (us : List ℕ). Contains us page) trees_same tree);
    }

    -- what a crash leaves meanwhile is what it may leave,
    pub either_still : (e : List ℕ) → StandsForEither now later rows working e → StandsForEither d disk rows working e
    either_still e stands = ⊎_elim (λ old. inl (subst (StandsFor e) same.table old)) (λ new. inr (subst (StandsFor e) working_table new)) stands

    -- where the record has no room over these records, it has none over those of before
    no_room : (notes : List OpNote) (earlier : List LogRecord) → ((records ≡ d.records → ⊥) → HasNoRoom d rows txn notes) → (earlier ≡ records) ⊎ (earlier ≡ []) → ((earlier ≡ records → ⊥) → HasNoRoom now rows txn notes) → (earlier ≡ d.records → ⊥) → HasNoRoom d rows txn notes
    no_room notes earlier anew then later_anew other = ⊎_elim
        (λ (old : records ≡ d.records). subst (λ (rs : List LogRecord). HasNoRoom (with_records d rs d.volume) rows txn notes) old (later_anew (λ is. other (is ∙ old))))
        (λ (none : records ≡ []). anew (λ old. other (⊎_elim (λ is. is ∙ old) (λ empty. empty ∙ sym none ∙ old) then))) those

    -- and what is then committed is the working volume.
    pub committed_still : (notes : List OpNote) → ((records ≡ d.records → ⊥) → HasNoRoom d rows txn notes) → (images : List ℕ → Type 0) (last : List ℕ) (log : LogState) (overlay' : List PageRow)
        → CommittedAs now later rows txn notes working images last log overlay' → CommittedAs d disk rows txn notes working images last log overlay'
    committed_still notes anew images last log overlay' done = record {
      earlier = done.earlier;
      those = ⊎_elim (λ is. ⊎_elim (λ old. inl (is ∙ old)) (λ none. inr (is ∙ none)) those) (λ none. inr none) done.those;
      made = done.made;
      rule = done.rule;
      anew = no_room notes done.earlier anew done.those done.anew;
      committed = done.committed;
      of_files = done.of_files;
      in_order = done.in_order;
      pages = λ page le fresh. done.pages page le (stale_before d records rows page those fresh) ∙ same_working page le fresh;
      table = done.table ∙ working_table;
      homes = homes_on d disk records later last those (homes_stay d disk records later those same.pages) done.homes;
    }
