-- Units with another page as the catalog, over a log in which no record counts.
use Rattle.std.proofs.Common.{◌≡◌, ◌≢◌, ℕ, ⊎_elim, Bool, cond, List, [], ◌∷◌, Option, Some, None, nat_eq, refl, sym, ap, ◌∙◌, arith}
use Rattle.std.specs.Map.{lookup}
use Rattle.std.proofs.lemmas.Bool.{cases_eq, eq-eqb, ne_eqb}
use Rattle.ex_base.specs.Area.{catalog_no, page_at}
use Rattle.ex_base.proofs.Each.{each_from}
use Rattle.op_log.specs.declared.record.LogRecord.{LogRecord}
use Rattle.op_log.specs.AfterLog.{after_log}
use Rattle.volume_model.specs.Homes.{home}
use Rattle.volume_model.specs.SameVolume.{IsKept, kept_from_reach}
use Rattle.volume_model.specs.Shown.{WorkingRow, laid_over, laid_over_page, working_units}
use Rattle.volume_model.specs.Volume.{Decoded, Volume, reach_of}
use Rattle.commits.proofs.Places.{same_unit, unit_page}
use Rattle.history_load.specs.Loads.{units_loaded}

-- the catalog alone is touched
abbrev pub catalog_row : List ℕ → List WorkingRow
catalog_row page = (catalog_no, Some page) ∷ []

row_of : List ℕ → Bool → Option (Option (List ℕ))
row_of page is = cond is (Some (Some page)) None

found : (page : List ℕ) (unit : ℕ) → unit ≡ catalog_no → lookup (nat_eq unit) (catalog_row page) ≡ Some (Some page)
unfolding row_of
found page unit is = ap (row_of page) (eq-eqb unit catalog_no is)

not_found : (page : List ℕ) (unit : ℕ) → unit ≢ catalog_no → lookup (nat_eq unit) (catalog_row page) ≡ None
unfolding row_of
not_found page unit other = ap (row_of page) (ne_eqb unit catalog_no other)

-- no page was given back
pub none_gone : (page : List ℕ) (unit : ℕ) → lookup (nat_eq unit) (catalog_row page) ≢ Some None
none_gone page unit gone = ⊎_elim
    (λ (is : unit ≡ catalog_no). absurd (let e : Some (Some page) ≡ Some None = sym (found page unit is) ∙ gone in cc))
    (λ (other : unit ≢ catalog_no). absurd (let e : None ≡ Some None = sym (not_found page unit other) ∙ gone in cc)) (cases_eq unit catalog_no)

module _ (d : Decoded) (image page : List ℕ) (none : d.records ≡ []) where
  abbrev laid : ℕ → List ℕ
  laid = laid_over d.geometry image (after_log d.geometry d.records image) (catalog_row page)

  catalog_is : (unit : ℕ) → unit ≡ catalog_no → working_units d image (catalog_row page) unit ≡ units_loaded d.geometry image page unit
  catalog_is unit is =
      let some = d.geometry.some_pages in
      unit_page d.geometry laid image unit (omega (arith, is, some))
      ∙ ap (laid_over_page (after_log d.geometry d.records image unit) (page_at d.geometry image unit)) (found page unit is)
      ∙ sym (ap (λ (b : Bool). cond b page (home d.geometry image unit)) (eq-eqb unit catalog_no is))

  other_laid : (unit : ℕ) → unit ≢ catalog_no → laid unit ≡ page_at d.geometry image unit
  other_laid unit other =
      ap (laid_over_page (after_log d.geometry d.records image unit) (page_at d.geometry image unit)) (not_found page unit other)
      ∙ ap (λ (rs : List LogRecord). after_log d.geometry rs image unit) none

  other_is : (unit : ℕ) → unit ≢ catalog_no → working_units d image (catalog_row page) unit ≡ units_loaded d.geometry image page unit
  other_is unit other =
      same_unit d.geometry (page_at d.geometry image) laid image image unit (λ lt. other_laid unit other) (λ le. refl)
      ∙ sym (ap (λ (b : Bool). cond b page (home d.geometry image unit)) (ne_eqb unit catalog_no other))

  -- The units that a commit of the catalog's page makes are these.
  pub same_units : (unit : ℕ) → working_units d image (catalog_row page) unit ≡ units_loaded d.geometry image page unit
  same_units unit = ⊎_elim (catalog_is unit) (other_is unit) (cases_eq unit catalog_no)

  pub all_kept : (v : Volume) → IsKept (units_loaded d.geometry image page) (working_units d image (catalog_row page)) v
  all_kept v = kept_from_reach (units_loaded d.geometry image page) (working_units d image (catalog_row page)) v
      (each_from (λ (u : ℕ). working_units d image (catalog_row page) u ≡ units_loaded d.geometry image page u) (reach_of (units_loaded d.geometry image page) v) (λ u reached. same_units u))
