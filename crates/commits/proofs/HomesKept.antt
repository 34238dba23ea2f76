-- What stands at home over a checkpoint, where each page is after the log what it was.
use Rattle.std.proofs.Common.{◌≡◌, ◌≤◌, ◌<◌, ℕ, ◌⊎◌, ⊎_elim, List, [], Option, None, unwrap_or, refl, sym, ap, ◌∙◌}
use Rattle.ex_base.specs.declared.geometry.Geometry.{Geometry}
use Rattle.ex_base.specs.Area.{catalog_no, area_end, page_at}
use Rattle.op_log.specs.declared.record.LogRecord.{LogRecord}
use Rattle.op_log.specs.AfterLog.{logged, after_log}
use Rattle.volume_model.specs.Committed.{HomesStay, with_records}
use Rattle.volume_model.specs.Homes.{home}
use Rattle.volume_model.specs.Volume.{Decoded, units_after, units_of}
use Rattle.commits.proofs.Places.{same_unit}

-- what the log had of a page, where it has its records still or none
pub none_still : (d : Decoded) (records : List LogRecord) (page : ℕ) → (records ≡ d.records) ⊎ (records ≡ []) → logged d.records page ≡ None → logged records page ≡ None
none_still d records page those none = ⊎_elim (λ (is : records ≡ d.records). ap (λ (rs : List LogRecord). logged rs page) is ∙ none) (λ (is : records ≡ []). ap (λ (rs : List LogRecord). logged rs page) is) those

-- A unit that the log doesn't have is what stands at its home.
unit_at_home : (g : Geometry) (records : List LogRecord) (disk : List ℕ) (unit : ℕ) → logged records unit ≡ None → units_after g records disk unit ≡ home g disk unit
unit_at_home g records disk unit none =
    same_unit g (page_at g disk) (after_log g records disk) disk disk unit (λ (lt : unit < area_end g). ap (λ (o : Option (List ℕ)). unwrap_or o (page_at g disk unit)) none) (λ (le : area_end g ≤ unit). refl)

-- Where the log has its records still or none, and each page is after it what it was, homes stay.
pub homes_stay : (d : Decoded) (disk : List ℕ) (records : List LogRecord) (later : List ℕ) → (records ≡ d.records) ⊎ (records ≡ [])
    → ((page : ℕ) → catalog_no ≤ page → units_of (with_records d records d.volume) later page ≡ units_of d disk page) → HomesStay d disk later
homes_stay d disk records later those pages unit le none =
    sym (unit_at_home d.geometry records later unit (none_still d records unit those none)) ∙ pages unit le ∙ unit_at_home d.geometry d.records disk unit none

-- So they do over what follows.
pub homes_on : (d : Decoded) (disk : List ℕ) (records : List LogRecord) (later last : List ℕ) → (records ≡ d.records) ⊎ (records ≡ []) → HomesStay d disk later → HomesStay (with_records d records d.volume) later last
    → HomesStay d disk last
homes_on d disk records later last those first second unit le none = second unit le (none_still d records unit those none) ∙ first unit le none
