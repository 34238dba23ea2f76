-- Which part of a disk fails first.
use Rattle.std.proofs.Common.{◌≡◌, ◌∷◌, ℕ, List, [], refl, sym, ap, subst, ◌∙◌, arith}
use Rattle.ex_base.specs.declared.geometry.Geometry.{Geometry}
use Rattle.ex_base.specs.Area.{catalog_no, log_at}
use Rattle.object_files.specs.Catalog.{Catalog, CatalogOf, fresh_catalog}
use Rattle.op_log.specs.declared.record.LogRecord.{LogRecord}
use Rattle.op_log.specs.AfterLog.{after_log, AllApply}
use Rattle.op_log.specs.Decoding.{last_number}
use Rattle.op_log.specs.Log.{SaysLog}
use Rattle.op_log.proofs.OneList.{one_list}
use Rattle.session_views.specs.declared.Part.{Part}
use Rattle.session_views.specs.declared.Part.TheVariants.{Super, Log, Catalog as CatalogPart, File, Page, Body, Node, Balance, Unique}
use Rattle.commits.proofs.Places.{unit_page}
use Rattle.volume_model.proofs.OneReading.{one_catalog}
use Rattle.volume_model.proofs.OneVolume.{one_geometry}
use Rattle.volume_model.specs.Parts.{Decodes, FirstBad, HasRecords, HoldsOf, IsLastOf, SuperOf}
use Rattle.volume_model.specs.Volume.{Decoded, FileContent, units_after, units_of}
use Rattle.restart.specs.Content.{FilesHold, IsFirstBad, volume_of}
use Rattle.restart.specs.Opening.{HasCatalog, LastIs}

-- ---- the last number

pub last_of : (records : List LogRecord) (n : ℕ) → LastIs (last_number records) n → IsLastOf records n
last_of [] n is = tt
last_of (r ∷ []) n is = is
last_of (r ∷ next ∷ rs) n is = last_of (next ∷ rs) n is

pub last_is : (records : List LogRecord) (n : ℕ) → IsLastOf records n → LastIs (last_number records) n
last_is [] n is = tt
last_is (r ∷ []) n is = is
last_is (r ∷ next ∷ rs) n is = last_is (next ∷ rs) n is

-- ---- what decodes so far

abbrev pub decoded_as : Geometry → List LogRecord → Catalog → List FileContent → Decoded
decoded_as g records c files = record { geometry = g; records = records; volume = volume_of c files }

-- the catalog's page is the one after the log
pub catalog_page : (d : Decoded) (image : List ℕ) → units_of d image catalog_no ≡ after_log d.geometry d.records image catalog_no
catalog_page d image = unit_page d.geometry (after_log d.geometry d.records image) image catalog_no (let some = d.geometry.some_pages in omega (arith, some))

some_geometry : Geometry
some_geometry = record {
  page_size = 512;
  pages = 1;
  segs = 0;
  seg_len = 1;
  fan = 2;
  a_page_size = refl;
  some_pages = omega arith;
  few_pages = omega arith;
  few_segs = omega arith;
  some_length = omega arith;
  short = omega arith;
  two = omega arith;
  narrow = omega arith;
}

pub super_bad : (image : List ℕ) → ((g : Geometry) → SuperOf image g → ⊥) → FirstBad image Super
super_bad image none = record { earlier = (decoded_as some_geometry [] fresh_catalog [], tt); fails = λ h. none h.0.geometry h.1.0 }

pub log_bad : (image : List ℕ) (g : Geometry) → SuperOf image g → ((records : List LogRecord) → SaysLog g records image → ⊥) → FirstBad image Log
log_bad image g super none = record {
  earlier = (decoded_as g [] fresh_catalog [], (super, tt));
  fails = λ h. none h.0.records (subst (λ (k : Geometry). SaysLog k h.0.records image) (one_geometry image h.0.geometry g h.1.0 super) h.1.1.0.says);
}

-- the one list of records doesn't apply
pub log_refused : (image : List ℕ) (g : Geometry) (records : List LogRecord) → SuperOf image g → SaysLog g records image → (AllApply records → ⊥) → FirstBad image Log
log_refused image g records super says refused = record {
  earlier = (decoded_as g [] fresh_catalog [], (super, tt));
  fails = λ h.
      let geometry = one_geometry image h.0.geometry g h.1.0 super in
      let list = one_list g (log_at g image) h.0.records records (subst (λ (k : Geometry). SaysLog k h.0.records image) geometry h.1.1.0.says) says in
      refused (subst AllApply list h.1.1.0.apply);
}

-- ---- behind the log

module _ (image : List ℕ) (g : Geometry) (records : List LogRecord) (super : SuperOf image g) (says : HasRecords g image records) where
  abbrev page : List ℕ
  page = after_log g records image catalog_no

  -- whatever decodes so far has this geometry, these records and this catalog page
  same_page : (d : Decoded) → SuperOf image d.geometry → HasRecords d.geometry image d.records → (d.geometry ≡ g) × (d.records ≡ records) × (after_log d.geometry d.records image catalog_no ≡ page)
  same_page d super' says' =
      let geometry = one_geometry image d.geometry g super' super in
      let list = one_list g (log_at g image) d.records records (subst (λ (k : Geometry). SaysLog k d.records image) geometry says'.says) says.says in
      (geometry, list, ap (λ (k : Geometry). after_log k d.records image catalog_no) geometry ∙ ap (λ (rs : List LogRecord). after_log g rs image catalog_no) list)

  -- and its catalog is one of that page, with the last number
  its_catalog : (d : Decoded) → SuperOf image d.geometry → HasRecords d.geometry image d.records → HoldsOf d.geometry d.records (units_of d image) d.volume CatalogPart → HasCatalog page (last_number records) d.volume.catalog
  its_catalog d super' says' catalog =
      let same = same_page d super' says' in
      record {
        spelled = subst (λ (bytes : List ℕ). CatalogOf bytes d.volume.catalog) (catalog_page d image ∙ same.2) catalog.0;
        number = subst (λ (rs : List LogRecord). LastIs (last_number rs) d.volume.catalog.last) same.1 (last_is d.records d.volume.catalog.last catalog.1);
      }

  pub catalog_bad : ((c : Catalog) → HasCatalog page (last_number records) c → ⊥) → FirstBad image CatalogPart
  catalog_bad none = record {
    earlier = (decoded_as g records fresh_catalog [], (super, (says, tt)));
    fails = λ h. none h.0.volume.catalog (its_catalog h.0 h.1.0 h.1.1.0 h.1.1.1.0);
  }

  module _ (c : Catalog) (here : HasCatalog page (last_number records) c) where
    abbrev units : ℕ → List ℕ
    units = units_after g records image

    catalog : (files : List FileContent) → HoldsOf g records units (volume_of c files) CatalogPart
    catalog files = (subst (λ (bytes : List ℕ). CatalogOf bytes c) (sym (catalog_page (decoded_as g records c files) image)) here.spelled, last_of records c.last here.number)

    -- whatever decodes up to the catalog has these units and this catalog
    same_content : (n : ℕ) (d : Decoded) → SuperOf image d.geometry → HasRecords d.geometry image d.records → HoldsOf d.geometry d.records (units_of d image) d.volume CatalogPart
        → FilesHold d.geometry (units_of d image) d.volume.catalog n d.volume.files → FilesHold g units c n d.volume.files
    same_content n d super' says' catalog' hold =
        let same = same_page d super' says' in
        let is : d.volume.catalog ≡ c = one_catalog page d.volume.catalog c (its_catalog d super' says' catalog').spelled here.spelled in
        subst (λ (k : Catalog). FilesHold g units k n d.volume.files) is
        (subst (λ (rs : List LogRecord). FilesHold g (units_after g rs image) d.volume.catalog n d.volume.files) same.1
        (subst (λ (h : Geometry). FilesHold h (units_after h d.records image) d.volume.catalog n d.volume.files) same.0 hold))

    -- the first part behind the catalog that fails is the first one of all
    pub content_bad : (part : Part) → IsFirstBad g units c part → FirstBad image part
    content_bad Super bad = absurd (bad.fails bad.files tt)
    content_bad Log bad = absurd (bad.fails bad.files tt)
    content_bad CatalogPart bad = absurd (bad.fails bad.files tt)
    content_bad File bad = record {
      earlier = (decoded_as g records c bad.files, (super, (says, (catalog bad.files, bad.earlier))));
      fails = λ h. bad.fails h.0.volume.files (same_content 1 h.0 h.1.0 h.1.1.0 h.1.1.1.0 h.1.1.1.1);
    }
    content_bad Page bad = record {
      earlier = (decoded_as g records c bad.files, (super, (says, (catalog bad.files, bad.earlier))));
      fails = λ h. bad.fails h.0.volume.files (same_content 2 h.0 h.1.0 h.1.1.0 h.1.1.1.0 h.1.1.1.1);
    }
    content_bad Body bad = record {
      earlier = (decoded_as g records c bad.files, (super, (says, (catalog bad.files, bad.earlier))));
      fails = λ h. bad.fails h.0.volume.files (same_content 3 h.0 h.1.0 h.1.1.0 h.1.1.1.0 h.1.1.1.1);
    }
    content_bad Node bad = record {
      earlier = (decoded_as g records c bad.files, (super, (says, (catalog bad.files, bad.earlier))));
      fails = λ h. bad.fails h.0.volume.files (same_content 4 h.0 h.1.0 h.1.1.0 h.1.1.1.0 h.1.1.1.1);
    }
    content_bad Balance bad = record {
      earlier = (decoded_as g records c bad.files, (super, (says, (catalog bad.files, bad.earlier))));
      fails = λ h. bad.fails h.0.volume.files (same_content 5 h.0 h.1.0 h.1.1.0 h.1.1.1.0 h.1.1.1.1);
    }
    content_bad Unique bad = record {
      earlier = (decoded_as g records c bad.files, (super, (says, (catalog bad.files, bad.earlier))));
      fails = λ h. bad.fails h.0.volume.files (same_content 6 h.0 h.1.0 h.1.1.0 h.1.1.1.0 h.1.1.1.1);
    }

    -- where none fails, the disk decodes
    pub whole : (files : List FileContent) → FilesHold g units c 6 files → Decodes image (decoded_as g records c files)
    whole files hold = (super, (says, (catalog files, hold)))
