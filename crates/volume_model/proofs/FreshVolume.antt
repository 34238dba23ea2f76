-- A volume as it is made stands for the empty table.
use Rattle.std.proofs.Common.{◌≡◌, ◌≢◌, ℕ, ◌≤◌, ltb, List, [], length, slice_index, refl, sym, ap, subst, ◌∙◌, arith, add-zero}
use Rattle.std.proofs.lemmas.Bool.Decides.{nat_tests}
use Rattle.std.proofs.lemmas.Bool.{cond-true}
use Rattle.ex_base.specs.declared.geometry.Geometry.{Geometry}
use Rattle.ex_base.specs.Area.{catalog_no, area_end, page_at}
use Rattle.ex_base.specs.Bytes.{part}
use Rattle.ex_base.specs.Sizes.{volume_bytes, least_volume, least_page}
use Rattle.op_log.specs.Gates.{says_of}
use Rattle.op_log.specs.Log.{SaysLog}
use Rattle.object_files.specs.Catalog.{CatalogOf, fresh_catalog}
use Rattle.table_model.specs.Tables.{empty_table}
use Rattle.trees.specs.Trees.{Units}
use Rattle.version_lists.proofs.Lists.{contains_has}
use Rattle.volume_model.specs.Links.{HasObjects}
use Rattle.volume_model.specs.Parts.{SuperOf, StandsFor}
use Rattle.volume_model.specs.Volume.{Decoded, units_of}

abbrev fresh : Geometry → Decoded
fresh g = record { geometry = g; records = []; volume = record { catalog = fresh_catalog; files = [] } }

no_records : (g : Geometry) (disk : List ℕ) → volume_bytes g ≤ length disk → slice_index disk g.page_size ≢ 1 → SaysLog g [] disk
unfolding part
no_records g disk large closed = says_of g [] disk tt tt (record {
  large = omega (arith, large, least_volume g);
  room = omega (arith, least_page g);
  records = refl;
  closed = λ is. closed (ap (λ (i : ℕ). slice_index disk i) (sym (add-zero g.page_size)) ∙ is);
})

catalog_unit : (g : Geometry) (disk : List ℕ) → units_of (fresh g) disk catalog_no ≡ page_at g disk catalog_no
catalog_unit g disk = cond-true (ltb catalog_no (area_end g)) _ _ (let some = g.some_pages in grind (arith, nat_tests))

no_objects : (units : Units) → HasObjects units []
no_objects units = record {
  object = λ place. 0;
  joined = λ s older here there is. absurd (contains_has [] s here);
  one_first = λ s t here there first next same. absurd (contains_has [] s here);
  apart = λ s t here there other. absurd (contains_has [] s here);
}

pub fresh_stands : (g : Geometry) (disk : List ℕ) → SuperOf disk g → slice_index disk g.page_size ≢ 1 → CatalogOf (page_at g disk catalog_no) fresh_catalog → StandsFor disk empty_table
fresh_stands g disk super closed catalog =
    let page = subst (λ (bytes : List ℕ). CatalogOf bytes fresh_catalog) (sym (catalog_unit g disk)) catalog in
    record {
      decoded = fresh g;
      parts = (super, (record { says = no_records g disk super.large closed; apply = tt }, ((page, tt), ((tt, tt), (tt, (tt, (record { named = tt; no_file_page = tt; objects = no_objects (units_of (fresh g) disk) }, (tt, (record { differ = tt; some = tt; below = tt }, tt)))))))));
      same = refl;
    }
