-- The pages of a file, read page by page, and the files.
use Rattle.std.proofs.Common.{◌≡◌, ℕ, Bool, true, false, List, [], ◌∷◌, ◌++◌, refl, subst}
use Rattle.std.specs.List.{flat_map, AllByRecursion, AllZip}
use Rattle.ex_base.specs.declared.names.Place.{Place}
use Rattle.object_files.specs.Catalog.{FileEntry}
use Rattle.trees.specs.Trees.{Units}
use Rattle.file_walk.specs.declared.Found.{Found}
use Rattle.file_walk.specs.declared.records.Standing.{Standing}
use Rattle.file_walk.specs.declared.indexes.FilePages.{FilePages}
use Rattle.file_walk.specs.Records.{IsGoodRow, IsGoodFile, AddsFile, AddsFiles, AddsRows, IsPageOf, files_rows, rows_on, rows_among, rows_of, AreFilePages}
use Rattle.file_walk.proofs.Rows.{RowsTo, rows_start, rows_step, rows_bad}

-- Records were gathered, or one of the bodies that were read is none.
pub record GatheredTo (good : Bool) (old now : List Standing) (all left : List (Place × List ℕ)) : Type 0 where
  pub yes : good ≡ true → RowsTo old now all left
  pub no : good ≡ false → AllByRecursion IsGoodRow all → ⊥

pub gather_start : (old : List Standing) (all : List (Place × List ℕ)) → GatheredTo true old old all all
gather_start old all = record { yes = λ e. rows_start old all; no = λ e. absurd (let f : true ≡ false = e in cc) }

pub gather_good : (good : Bool) (old now next : List Standing) (all rows left : List (Place × List ℕ)) → GatheredTo good old now all (rows ++ left) → AddsRows now next rows → GatheredTo good old next all left
gather_good good old now next all rows left to adds = record { yes = λ e. rows_step old now next all rows left (to.yes e) adds; no = to.no }

spoils : (good : Bool) (old now : List Standing) (all rows left : List (Place × List ℕ)) → GatheredTo good old now all (rows ++ left) → (AllByRecursion IsGoodRow rows → ⊥) → AllByRecursion IsGoodRow all → ⊥
spoils true old now all rows left to never h = rows_bad old now all rows left (to.yes refl) never h
spoils false old now all rows left to never h = to.no refl h

pub gather_bad : (good : Bool) (old now next : List Standing) (all rows left : List (Place × List ℕ)) → GatheredTo good old now all (rows ++ left) → (AllByRecursion IsGoodRow rows → ⊥) → GatheredTo false old next all left
gather_bad good old now next all rows left to never = record { yes = λ e. absurd (let f : false ≡ true = e in cc); no = λ e h. spoils good old now all rows left to never h }

-- ---- the pages of a file

pub record PagesTo (images : Units) (entry : FileEntry) (good : Bool) (old now : List Standing) (all left : List ℕ) : Type 0 where
  pub each : AllByRecursion (IsPageOf images entry) left → AllByRecursion (IsPageOf images entry) all
  pub rest : AllByRecursion (IsPageOf images entry) all → AllByRecursion (IsPageOf images entry) left
  pub gathered : GatheredTo good old now (rows_among images all) (rows_among images left)

module _ (images : Units) (entry : FileEntry) (old : List Standing) (all : List ℕ) where
  pub pages_start : PagesTo images entry true old old all all
  pages_start = record { each = λ h. h; rest = λ h. h; gathered = gather_start old (rows_among images all) }

  pub pages_good : (good : Bool) (now next : List Standing) (page : ℕ) (left : List ℕ) → PagesTo images entry good old now all (page ∷ left) → IsPageOf images entry page → AddsRows now next (rows_on images page) → PagesTo images entry good old next all left
  pages_good good now next page left to is adds = record {
    each = λ h. to.each (is, h);
    rest = λ h. (to.rest h).1;
    gathered = gather_good good old now next (rows_among images all) (rows_on images page) (rows_among images left) to.gathered adds;
  }

  pub pages_bad : (good : Bool) (now next : List Standing) (page : ℕ) (left : List ℕ) → PagesTo images entry good old now all (page ∷ left) → IsPageOf images entry page → (AllByRecursion IsGoodRow (rows_on images page) → ⊥) → PagesTo images entry false old next all left
  pages_bad good now next page left to is never = record {
    each = λ h. to.each (is, h);
    rest = λ h. (to.rest h).1;
    gathered = gather_bad good old now next (rows_among images all) (rows_on images page) (rows_among images left) to.gathered never;
  }

-- ---- the files

-- The files up to some were read: their records were added, or one of them isn't good.
pub record FilesTo (images : Units) (good : Bool) (old now : List Found) (entries more : List FileEntry) (files left : List FilePages) : Type 0 where
  pub each : AllZip (AreFilePages images) more left → AllZip (AreFilePages images) entries files
  pub rest : AllZip (AreFilePages images) entries files → AllZip (AreFilePages images) more left
  pub yes : good ≡ true → (last : List Found) → AddsFiles now last (files_rows images left) → AddsFiles old last (files_rows images files)
  pub no : good ≡ false → AllByRecursion IsGoodFile (files_rows images files) → ⊥
  pub part : AllByRecursion IsGoodFile (files_rows images files) → AllByRecursion IsGoodFile (files_rows images left)

module _ (images : Units) (old : List Found) (entries : List FileEntry) (files : List FilePages) where
  pub files_start : FilesTo images true old old entries entries files files
  files_start = record { each = λ h. h; rest = λ h. h; yes = λ e last h. h; no = λ e. absurd (let f : true ≡ false = e in cc); part = λ h. h }

  pub files_good : (good : Bool) (now next : List Found) (e : FileEntry) (more : List FileEntry) (f : FilePages) (left : List FilePages) → FilesTo images good old now entries (e ∷ more) files (f ∷ left) → AreFilePages images e f
      → AddsFile now next (rows_of images f) → FilesTo images good old next entries more files left
  files_good good now next e more f left to is adds = record {
    each = λ h. to.each (is, h);
    rest = λ h. (to.rest h).1;
    yes = λ same last h. to.yes same last (next, adds, h);
    no = to.no;
    part = λ h. (to.part h).1;
  }

  pub files_bad : (good : Bool) (now next : List Found) (e : FileEntry) (more : List FileEntry) (f : FilePages) (left : List FilePages) → FilesTo images good old now entries (e ∷ more) files (f ∷ left) → AreFilePages images e f
      → (IsGoodFile (rows_of images f) → ⊥) → FilesTo images false old next entries more files left
  files_bad good now next e more f left to is never = record {
    each = λ h. to.each (is, h);
    rest = λ h. (to.rest h).1;
    yes = λ same. absurd (let g : false ≡ true = same in cc);
    no = λ same h. never (to.part h).0;
    part = λ h. (to.part h).1;
  }

  pub files_end : (good : Bool) (now : List Found) (more : List FileEntry) → FilesTo images good old now entries more files [] → good ≡ true → AddsFiles old now (files_rows images files)
  files_end good now more to is = to.yes is now refl

pub files_as : (images : Units) (good : Bool) (old now : List Found) (entries more same_more : List FileEntry) (files left same_left : List FilePages) → more ≡ same_more → left ≡ same_left → FilesTo images good old now entries more files left
    → FilesTo images good old now entries same_more files same_left
files_as images good old now entries more same_more files left same_left e f to =
    subst (λ (t : List FilePages). FilesTo images good old now entries same_more files t) f (subst (λ (t : List FileEntry). FilesTo images good old now entries t files left) e to)
