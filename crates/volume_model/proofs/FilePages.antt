-- The pages of the files of a volume are pages of the page area, and none of them is the catalog.
use Rattle.std.proofs.Common.{List, [], ◌∷◌, sym, subst}
use Rattle.std.specs.List.{flat_map, AllByRecursion, AllZip}
use Rattle.ex_base.specs.declared.geometry.Geometry.{Geometry}
use Rattle.ex_base.proofs.Rows.{each-append}
use Rattle.file_index.specs.Index.{IsFilesPage}
use Rattle.file_index.proofs.Heights.{keys_of_pages, index_of_pages}
use Rattle.object_files.specs.Catalog.{FileEntry}
use Rattle.trees.specs.Trees.{Units}
use Rattle.volume_model.specs.Parts.{HasIndex}
use Rattle.volume_model.specs.Volume.{FileContent, Volume, file_pages, pages_of_file}

module _ (g : Geometry) (units : Units) where
  pages_are : (entry : FileEntry) (file : FileContent) → HasIndex g units entry file → AllByRecursion (IsFilesPage g) (pages_of_file file)
  pages_are entry file h = each-append (IsFilesPage g) file.numbers file.index_pages
      (subst (AllByRecursion (IsFilesPage g)) (sym h.numbers) (keys_of_pages g entry.file_no units entry.level entry.root h.whole))
      (subst (AllByRecursion (IsFilesPage g)) (sym h.index_pages) (index_of_pages g entry.file_no units entry.level entry.root h.whole))

  all_are : (entries : List FileEntry) (files : List FileContent) → AllZip (HasIndex g units) entries files → AllByRecursion (IsFilesPage g) (flat_map pages_of_file files)
  all_are [] [] h = tt
  all_are [] (file ∷ files) h = absurd h
  all_are (entry ∷ entries) [] h = absurd h
  all_are (entry ∷ entries) (file ∷ files) h = each-append (IsFilesPage g) (pages_of_file file) (flat_map pages_of_file files) (pages_are entry file h.0) (all_are entries files h.1)

  pub file_pages_are : (v : Volume) → AllZip (HasIndex g units) v.catalog.entries v.files → AllByRecursion (IsFilesPage g) (file_pages v)
  file_pages_are v h = all_are v.catalog.entries v.files h
