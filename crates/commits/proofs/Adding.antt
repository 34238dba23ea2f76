-- The record of a transaction is added to the log.
use Rattle.std.proofs.Common.{◌≡◌, ◌≢◌, ◌≤◌, ◌<◌, ◌+◌, ◌*◌, ℕ, Bool, true, false, cond, ◌⊎◌, inl, inr, ⊎_elim, List, [], ◌∷◌, ◌++◌, slice_index, Option, Some, None, IsTrue, nat_eq, unwrap_or, refl, sym, ap, subst, ◌∙◌, arith}
use Rattle.std.specs.Prelude.{Contains, map}
use Rattle.std.specs.List.{AllByRecursion}
use Rattle.std.specs.Map.{lookup}
use Rattle.std.proofs.lemmas.List.{length-append}
use Rattle.std.proofs.lemmas.Bool.{eq-eqb}
use Rattle.std.proofs.lemmas.Bool.Decides.{eqb_tells}
use Rattle.std.proofs.lemmas.Option.{same_Some}
use Rattle.lru.proofs.Splits.{Contains-head, Contains-tail, Contains-cons, Contains-nil}
use Rattle.ex_base.specs.declared.geometry.Geometry.{Geometry}
use Rattle.ex_base.specs.Area.{catalog_no, area_end, page_at, leaf_at}
use Rattle.ex_base.specs.Order.{Rising}
use Rattle.ex_base.specs.Sizes.{leaf_bytes}
use Rattle.ex_base.specs.Superblock.{IsSuper}
use Rattle.disk_model.specs.Outside.{Outside, Only, Leaves}
use Rattle.disk_model.specs.Changes.{SameBut, InRange, ChangesWithin, changes_wider}
use Rattle.disk_model.specs.Runs.{leaves_wider}
use Rattle.meta_pages.specs.Overlays.{Overlays, AreRows, committed_image, over}
use Rattle.meta_pages.specs.Rows.{IsRising}
use Rattle.op_log.specs.declared.record.LogRecord.{LogRecord}
use Rattle.op_log.specs.AfterLog.{logged, after_log, AllApply}
use Rattle.op_log.proofs.Applied.{records_apply-push}
use Rattle.op_log.proofs.Validity.{follow-push}
use Rattle.op_log.specs.Decoding.{NumberFollows, last_number}
use Rattle.op_log.specs.Gates.{log_end-append}
use Rattle.op_log.specs.Log.{SaysLog, DiskSays, KeepsLog, AddsHere, log_end}
use Rattle.op_log.specs.Records.{record_len}
use Rattle.op_log.specs.State.{LogState, Prolongs}
use Rattle.volume_model.specs.Committed.{Committed, CommittedAs, HomesStay, MayCommit, IsOverlayOf, IsRecordOf, StandsForVolume, StandsForEither, with_records}
use Rattle.volume_model.specs.CrashImage.{same_part, from_home}
use Rattle.volume_model.specs.Durable.{Agrees}
use Rattle.volume_model.specs.Parts.{SuperOf, IsLastOf, Decodes, HoldsOf, StandsFor, content_parts}
use Rattle.volume_model.specs.Shown.{PageRow, WorkingRow, IsWorkingPage, laid_over, laid_over_page, working_units}
use Rattle.volume_model.specs.Volume.{Volume, Decoded, file_pages, reach_of, table_of, units_of, units_after}
use Rattle.volume_model.proofs.FoundRows.{found_is}
use Rattle.commits.proofs.Closing.{settled_agrees}
use Rattle.commits.proofs.LoggedPages.{AreSized, sized, record_as, logged_more, record_applies}
use Rattle.commits.proofs.Places.{behind_log, page_stays, leaf_stays, same_unit}
use Rattle.commits.specs.Room.{BeforeCatalog}
use Rattle.commits.proofs.Reached.{reach_behind, without_last, decodes_as, table_as, stands_as}

-- ---- the record is the next of the log

last_pushed : (rs : List LogRecord) (r : LogRecord) (last : ℕ) → last ≡ r.txn → IsLastOf (rs ++ r ∷ []) last
last_pushed [] r last is = is
last_pushed (x ∷ []) r last is = is
last_pushed (x ∷ y ∷ rs) r last is = last_pushed (y ∷ rs) r last is

pub prolongs : (d : Decoded) (disk : List ℕ) (log : LogState) (rows : List PageRow) (images : List ℕ → Type 0) (r : LogRecord) → Committed images d disk log rows → NumberFollows (last_number d.records) r.txn → Prolongs log d.records r
prolongs d disk log rows images r committed next = record {
  at_end = ap (λ (s : LogState). s.end) committed.shown.log_is;
  follow = follow-push d.records r committed.parts.1.0.says.follow next;
}

pub keeps_log : (d : Decoded) (disk : List ℕ) (log : LogState) (rows : List PageRow) (w : Outside) → IsTrue w.honest → w.disk ≡ Some disk → Committed w.images d disk log rows → KeepsLog d.geometry w d.records
keeps_log d disk log rows w honest holds committed = record {
  honest = honest;
  on_disk = record { disk = disk; holds = holds; says = committed.parts.1.0.says };
  agrees = record { each = λ x e is here i inside. (committed.durable e here).each i (inl inside.1) ∙ ap (λ (l : List ℕ). slice_index l i) (same_Some disk x (sym holds ∙ is)) };
}

-- ---- what is written lies in the log

-- where the record is written
abbrev pub Place : Decoded → LogRecord → ℕ → Type 0
Place d r = InRange (d.geometry.page_size + log_end d.records) (record_len r + 1)

module _ (d : Decoded) (r : LogRecord) (x e : List ℕ) (fits : log_end d.records + record_len r < 256 * d.geometry.page_size) (same : SameBut (Place d r) x e) where
  page_kept : (page : ℕ) → catalog_no ≤ page → page_at d.geometry e page ≡ page_at d.geometry x page
  page_kept page le = page_stays d.geometry (Place d r) x e page same (λ i inside written. absurd (omega (arith, behind_log d.geometry.page_size page i le inside.0, written.1, fits)))

  leaf_kept : (page : ℕ) → area_end d.geometry ≤ page → leaf_at d.geometry e page ≡ leaf_at d.geometry x page
  leaf_kept page le =
      leaf_stays d.geometry (Place d r) x e page same (λ i inside written. absurd (omega (arith, behind_log d.geometry.page_size page i (omega (arith, le)) inside.0, written.1, fits)))

  super_kept : SuperOf x d.geometry → SuperOf e d.geometry
  super_kept super = record {
    spelled = subst (λ (page : List ℕ). IsSuper page d.geometry) (sym (same_part e x 0 d.geometry.page_size same.same_length (λ i from to. same.each i (λ written. absurd (omega (arith, to, written.0)))))) super.spelled;
    large = omega (arith, super.large, same.same_length);
  }

-- ---- an image that has the old list

module _ (d : Decoded) (disk : List ℕ) (r : LogRecord) (x e : List ℕ) (parts : Decodes disk d) (agrees : Agrees d disk x) (fits : log_end d.records + record_len r < 256 * d.geometry.page_size) (same : SameBut (Place d r) x e) where
  old_content : AllByRecursion (HoldsOf d.geometry [] (units_of d disk) d.volume) content_parts
  old_content = without_last d.geometry d.records (units_of d disk) d.volume parts.1.1

  old_units : (page : ℕ) → Contains (reach_of (units_of d disk) d.volume) page → units_of d e page ≡ units_of d disk page
  old_units page at =
      let behind = reach_behind d.geometry (units_of d disk) d.volume page old_content at in
      same_unit d.geometry (after_log d.geometry d.records disk) (after_log d.geometry d.records e) disk e page
      (λ lt. from_home (logged d.records page) (page_at d.geometry e page) (page_at d.geometry disk page)
      (λ none. page_kept d r x e fits same page behind
      ∙ same_part x disk (page * d.geometry.page_size) d.geometry.page_size agrees.size (λ i from to. agrees.each i (inr (inl (record { page = page; reached = at; is_page = lt; at_home = none; inside = (from, to) }))))))
      (λ le. leaf_kept d r x e fits same page le
      ∙ same_part x disk (page * d.geometry.page_size) (leaf_bytes d.geometry) agrees.size (λ i from to. agrees.each i (inr (inr (record { leaf = page; reached = at; is_leaf = le; inside = (from, to) })))))

  old_super : SuperOf x d.geometry
  old_super = record {
    spelled = subst (λ (page : List ℕ). IsSuper page d.geometry) (sym (same_part x disk 0 d.geometry.page_size agrees.size (λ i from to. agrees.each i (inl (omega (arith, to)))))) parts.0.spelled;
    large = omega (arith, parts.0.large, agrees.size);
  }

  pub old_stands : SaysLog d.geometry d.records e → StandsForVolume d disk e
  old_stands says = stands_as d.geometry d.records (units_of d disk) d.volume e old_units (super_kept d r x e fits same old_super) says parts.1.0.apply parts.1.1.0.1 old_content

-- ---- an image that has the list with the record

-- The record is by the rule that of these working pages over the log. They rise, and their images are as long as those of the log.
pub record IsNext (d : Decoded) (rows : List WorkingRow) (r : LogRecord) : Type 0 where
  pub rising : IsRising rows
  pub sized : AreSized (λ page. logged d.records page) rows
  pub rule : IsRecordOf (λ page. logged d.records page) r.txn r.notes rows r

over_home : (row : Option (Option (List ℕ))) (o : Option (List ℕ)) (home : List ℕ) → unwrap_or (over row o) home ≡ laid_over_page (unwrap_or o home) home row
over_home None o home = refl
over_home (Some None) o home = refl
over_home (Some (Some image)) o home = refl

module _ (d : Decoded) (disk : List ℕ) (rows : List WorkingRow) (r : LogRecord) (working : Volume) (e : List ℕ) (parts : Decodes disk d) (adds : IsNext d rows r) (may : MayCommit d disk rows r.txn working)
    (fits : log_end d.records + record_len r < 256 * d.geometry.page_size) (same : SameBut (Place d r) disk e) where
  abbrev pub new_records : List LogRecord
  new_records = d.records ++ r ∷ []

  new_apply : AllApply new_records
  new_apply = records_apply-push (λ page. None) d.records r parts.1.0.apply (record_applies (λ page. logged d.records page) r.txn r.notes rows r adds.rising adds.sized adds.rule)

  pub new_units : (page : ℕ) → catalog_no ≤ page → units_after d.geometry new_records e page ≡ working_units d disk rows page
  new_units page le =
      same_unit d.geometry (laid_over d.geometry disk (after_log d.geometry d.records disk) rows) (after_log d.geometry new_records e) disk e page
      (λ lt. ap (λ (o : Option (List ℕ)). unwrap_or o (page_at d.geometry e page)) (logged_more d.records r.txn r.notes rows r page adds.rising adds.sized adds.rule)
      ∙ ap (λ (h : List ℕ). unwrap_or (over (lookup (nat_eq page) rows) (logged d.records page)) h) (page_kept d r disk e fits same page le)
      ∙ over_home (lookup (nat_eq page) rows) (logged d.records page) (page_at d.geometry disk page))
      (λ is_leaf. leaf_kept d r disk e fits same page is_leaf)

  pub new_homes : HomesStay d disk e
  new_homes unit le none =
      same_unit d.geometry (page_at d.geometry disk) (page_at d.geometry e) disk e unit
      (λ lt. page_kept d r disk e fits same unit le) (λ is_leaf. leaf_kept d r disk e fits same unit is_leaf)

  new_reach : (page : ℕ) → Contains (reach_of (working_units d disk rows) working) page → units_after d.geometry new_records e page ≡ working_units d disk rows page
  new_reach page at = new_units page (reach_behind d.geometry (working_units d disk rows) working page may.parts at)

  pub new_decodes : SaysLog d.geometry new_records e → Decodes e (with_records d new_records working)
  new_decodes says =
      decodes_as d.geometry new_records (working_units d disk rows) working e new_reach (super_kept d r disk e fits same parts.0) says new_apply
      (last_pushed d.records r working.catalog.last may.last) may.parts

  pub new_table : table_of (units_of (with_records d new_records working) e) working ≡ table_of (working_units d disk rows) working
  new_table = table_as d.geometry new_records (working_units d disk rows) working e new_reach

  pub new_stands : SaysLog d.geometry new_records e → StandsFor e (table_of (working_units d disk rows) working)
  new_stands says =
      stands_as d.geometry new_records (working_units d disk rows) working e new_reach (super_kept d r disk e fits same parts.0) says new_apply
      (last_pushed d.records r working.catalog.last may.last) may.parts

-- While the record is added, a crash leaves the old volume or the working one.
pub adds_stands : (d : Decoded) (disk : List ℕ) (log : LogState) (overlay : List PageRow) (rows : List WorkingRow) (r : LogRecord) (working : Volume) (images : List ℕ → Type 0) (e : List ℕ)
    → Committed images d disk log overlay → IsNext d rows r → MayCommit d disk rows r.txn working → log_end d.records + record_len r < 256 * d.geometry.page_size
    → AddsHere d.geometry d.records r (Place d r) images disk e → StandsForEither d disk rows working e
adds_stands d disk log overlay rows r working images e committed next may fits adds = ⊎_elim
    (λ old. inl (old_stands d disk r old.0 e committed.parts (committed.durable old.0 old.1) fits old.2 old.3))
    (λ new. inr (new_stands d disk rows r working e committed.parts next may fits new.0 new.1)) adds

-- ---- the overlay after it

-- what holds of each page that a look-up finds holds of each row
each_found : {V : Type 0} (P : ℕ → Type 0) (rows : List (ℕ × V)) → ((page : ℕ) (value : V) → lookup (nat_eq page) rows ≡ Some value → P page) → AllByRecursion (λ (row : ℕ × V). P row.0) rows
each_found P [] is = tt
each_found P (row ∷ rows) is = (
  is row.0 row.1 (ap (λ (t : Bool). cond t (Some row.1) (lookup (nat_eq row.0) rows)) (eq-eqb row.0 row.0 refl)),
  each_found P rows (λ page value found. ⊎_elim
      (λ (same : (nat_eq page row.0 ≡ true) × (page ≡ row.0)). is page row.1 (ap (λ (t : Bool). cond t (Some row.1) (lookup (nat_eq page) rows)) same.0))
      (λ (other : (nat_eq page row.0 ≡ false) × (page ≢ row.0)). is page value (ap (λ (t : Bool). cond t (Some row.1) (lookup (nat_eq page) rows)) other.0 ∙ found)) (eqb_tells page row.0)),
)

contains_or_not : (xs : List ℕ) (x : ℕ) → Contains xs x ⊎ ¬ Contains xs x
contains_or_not [] x = inr (Contains-nil x)
contains_or_not (y ∷ ys) x = ⊎_elim
    (λ (same : (nat_eq y x ≡ true) × (y ≡ x)). inl (subst (Contains (y ∷ ys)) same.1 (Contains-head y ys)))
    (λ (differ : (nat_eq y x ≡ false) × (y ≢ x)). ⊎_elim (λ later. inl (Contains-tail y ys x later)) (λ never. inr (λ at. ⊎_elim (λ here. differ.1 here) never (Contains-cons y ys x at))) (contains_or_not ys x)) (eqb_tells y x)

module _ (d : Decoded) (disk : List ℕ) (overlay later : List PageRow) (rows : List WorkingRow) (txn : ℕ) (working : Volume) (of_files : IsOverlayOf d.volume overlay) (may : MayCommit d disk rows txn working)
    (kept : (page : ℕ) → lookup (nat_eq page) later ≡ over (lookup (nat_eq page) rows) (lookup (nat_eq page) overlay)) where
  abbrev IsOfFiles : ℕ → Type 0
  IsOfFiles page = (page ≡ catalog_no) ⊎ Contains (file_pages working) page

  was_of_files : (page : ℕ) → (lookup (nat_eq page) rows ≡ None) → (page ≡ catalog_no) ⊎ Contains (file_pages d.volume) page → IsOfFiles page
  was_of_files page no_row of_old = ⊎_elim (λ is. inl is)
      (λ at. ⊎_elim (λ here. inr here) (λ never. let left = may.left page at never in let wrong : None ≡ Some None = sym no_row ∙ left in absurd (cc)) (contains_or_not (file_pages working) page)) of_old

  each_of_files : (page : ℕ) (row : Option (Option (List ℕ))) (image : List ℕ) → lookup (nat_eq page) rows ≡ row → over row (lookup (nat_eq page) overlay) ≡ Some image → IsOfFiles page
  each_of_files page None image is found = was_of_files page is (found_is (λ (row : PageRow). (row.0 ≡ catalog_no) ⊎ Contains (file_pages d.volume) row.0) overlay page image of_files found)
  each_of_files page (Some None) image is found = absurd (cc)
  each_of_files page (Some (Some bytes)) image is found = found_is (IsWorkingPage working) rows page (Some bytes) may.images is refl

  pub later_of_files : IsOverlayOf working later
  later_of_files = each_found IsOfFiles later (λ page image found. each_of_files page (lookup (nat_eq page) rows) image refl (sym (kept page) ∙ found))

rising_numbers : (rows : List PageRow) → IsRising rows → Rising (map (λ (row : PageRow). row.0) rows)
rising_numbers [] rising = tt
rising_numbers (row ∷ []) rising = tt
rising_numbers (row ∷ next ∷ rows) rising = (rising.0.0, rising_numbers (next ∷ rows) rising.1)

-- ---- the record is added

abbrev state_of : Geometry → ℕ → ℕ → LogState
state_of g end count = record { geometry = g; end = end; count = count }

same_state : (g : Geometry) {x y m n : ℕ} → x ≡ y → m ≡ n → state_of g x m ≡ state_of g y n
same_state g ends count = cc (ends, count)

pub committed_as : (d : Decoded) (disk : List ℕ) (log log' : LogState) (overlay overlay' : List PageRow) (rows : List WorkingRow) (r : LogRecord) (working : Volume) (a b : Outside)
    → IsTrue a.honest → a.disk ≡ Some disk → Committed a.images d disk log overlay → IsOverlayOf d.volume overlay → IsNext d rows r → MayCommit d disk rows r.txn working
    → log_end d.records + record_len r < 256 * d.geometry.page_size → ChangesWithin (Place d r) a b → DiskSays d.geometry b (d.records ++ r ∷ [])
    → (IsTrue a.honest → (x : List ℕ) → b.disk ≡ Some x → Only x b.images) → log' ≡ record log { end = log.end + record_len r; count = log.count + 1 }
    → ((page : ℕ) → lookup (nat_eq page) overlay' ≡ over (lookup (nat_eq page) rows) (lookup (nat_eq page) overlay)) → IsRising overlay'
    → (later : List ℕ) × (b.disk ≡ Some later) × CommittedAs d disk rows r.txn r.notes working b.images later log' overlay'
committed_as d disk log log' overlay overlay' rows r working a b honest holds committed of_files next may fits changes says settled counts kept in_order =
    let records = d.records ++ r ∷ [] in
    let now = changes.disk honest disk holds in
    let here : SaysLog d.geometry records now.0 = subst (SaysLog d.geometry records) (same_Some says.disk now.0 (sym says.holds ∙ now.1)) says.says in (
      now.0,
      now.1,
      record {
        earlier = d.records;
        those = inl refl;
        made = r;
        rule = next.rule;
        anew = λ other. absurd (other refl);
        committed = record {
          parts = new_decodes d disk rows r working now.0 committed.parts next may fits now.2 here;
          durable = settled_agrees (with_records d records working) now.0 b.images (settled honest now.0 now.1);
          shown = record {
            just = λ page. kept page ∙ ap (λ (o : Option (List ℕ)). over (lookup (nat_eq page) rows) o) (committed.shown.just page) ∙ sym (logged_more d.records r.txn r.notes rows r page next.rising next.sized next.rule);
            log_is = counts ∙ ap (λ (s : LogState). record { geometry = s.geometry; end = s.end + record_len r; count = s.count + 1 }) committed.shown.log_is
                ∙ same_state d.geometry (sym (log_end-append d.records r)) (sym (length-append d.records (r ∷ [])));
          };
        };
        of_files = later_of_files d disk overlay overlay' rows r.txn working of_files may kept;
        in_order = rising_numbers overlay' in_order;
        pages = λ page le stale. new_units d disk rows r working now.0 committed.parts next may fits now.2 page le;
        table = new_table d disk rows r working now.0 committed.parts next may fits now.2;
        homes = new_homes d disk rows r working now.0 committed.parts next may fits now.2;
      },
    )

-- the same, as the log and its record say it
pub add_leaves : (d : Decoded) (disk : List ℕ) (log : LogState) (overlay : List PageRow) (rows : List WorkingRow) (r : LogRecord) (working : Volume) (a b : Outside)
    → Committed a.images d disk log overlay → IsNext d rows r → MayCommit d disk rows r.txn working → log.end + record_len r < 256 * log.geometry.page_size
    → Leaves a b (AddsHere log.geometry d.records r (InRange (log.geometry.page_size + log.end) (record_len r + 1)) a.images disk) → Leaves a b (StandsForEither d disk rows working)
add_leaves d disk log overlay rows r working a b committed next may fits leaves =
    let state = committed.shown.log_is in
    let room = subst (λ (s : LogState). s.end + record_len r < 256 * s.geometry.page_size) state fits in
    leaves_wider (AddsHere d.geometry d.records r (Place d r) a.images disk) (StandsForEither d disk rows working)
    (subst (λ (s : LogState). Leaves a b (AddsHere s.geometry d.records r (InRange (s.geometry.page_size + s.end) (record_len r + 1)) a.images disk)) state leaves)
    (λ e adds. adds_stands d disk log overlay rows r working a.images e committed next may room adds)

pub add_done : (d : Decoded) (disk : List ℕ) (log log' : LogState) (overlay overlay' : List PageRow) (rows : List WorkingRow) (r : LogRecord) (working : Volume) (a b : Outside)
    → IsTrue a.honest → a.disk ≡ Some disk → Committed a.images d disk log overlay → IsOverlayOf d.volume overlay → IsNext d rows r → MayCommit d disk rows r.txn working
    → log.end + record_len r < 256 * log.geometry.page_size → ChangesWithin (InRange (log.geometry.page_size + log.end) (record_len r + 1)) a b → DiskSays log.geometry b (d.records ++ r ∷ [])
    → (IsTrue a.honest → (x : List ℕ) → b.disk ≡ Some x → Only x b.images) → log' ≡ record log { end = log.end + record_len r; count = log.count + 1 }
    → ((page : ℕ) → lookup (nat_eq page) overlay' ≡ over (lookup (nat_eq page) rows) (lookup (nat_eq page) overlay)) → IsRising overlay'
    → (later : List ℕ) × (b.disk ≡ Some later) × CommittedAs d disk rows r.txn r.notes working b.images later log' overlay'
add_done d disk log log' overlay overlay' rows r working a b honest holds committed of_files next may fits changes says settled counts kept in_order =
    let state = committed.shown.log_is in
    committed_as d disk log log' overlay overlay' rows r working a b honest holds committed of_files next may
    (subst (λ (s : LogState). s.end + record_len r < 256 * s.geometry.page_size) state fits)
    (subst (λ (s : LogState). ChangesWithin (InRange (s.geometry.page_size + s.end) (record_len r + 1)) a b) state changes)
    (subst (λ (s : LogState). DiskSays s.geometry b (d.records ++ r ∷ [])) state says) settled counts kept in_order

-- the record is the next over the log, where the overlay is what the log has
pub is_next : (d : Decoded) (disk : List ℕ) (log : LogState) (images : List ℕ → Type 0) (o : Overlays) (r : LogRecord) → Committed images d disk log o.committed → AreRows o → IsRecordOf (committed_image o) r.txn r.notes o.working r → IsNext d o.working r
is_next d disk log images o r committed are of = record {
  rising = are.working_rising;
  sized = sized o (λ page. logged d.records page) are committed.shown.just;
  rule = record_as (committed_image o) (λ page. logged d.records page) r.txn r.notes o.working r committed.shown.just of;
}

-- the record lies before the catalog's page
pub before_catalog : (log : LogState) (r : LogRecord) (a b : Outside) → log.end + record_len r < 256 * log.geometry.page_size → ChangesWithin (InRange (log.geometry.page_size + log.end) (record_len r + 1)) a b
    → ChangesWithin (BeforeCatalog log.geometry.page_size) a b
before_catalog log r a b fits changes = changes_wider (InRange (log.geometry.page_size + log.end) (record_len r + 1)) (BeforeCatalog log.geometry.page_size) changes (λ i inside. omega (arith, inside.1, fits))
