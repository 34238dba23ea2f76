-- The entries of the catalog while files come.
use Rattle.std.proofs.Common.{◌≡◌, ◌≢◌, ℕ, ◌==◌, List, [], ◌∷◌, ◌++◌, map, Option, refl, sym, ap, subst, inl}
use Rattle.std.specs.Prelude.{Contains}
use Rattle.std.proofs.lemmas.Bool.{cond-false, cond-true, eq-eqb}
use Rattle.ex_base.specs.declared.names.PageNo.{PageNo}
use Rattle.ex_base.specs.Order.{AllDiffer}
use Rattle.ex_base.proofs.Counts.{not_equal}
use Rattle.object_files.specs.Catalog.{CatalogOf, FileEntry, number_of}
use Rattle.object_files.specs.Edits.{IsCatalogPage, entries_on, indexed, new_file, with_entries}
use Rattle.object_files.specs.Reads.{catalog_on}
use Rattle.object_files.proofs.CatalogLaws.{catalog_read}
use Rattle.version_lists.proofs.Lists.{has_back, has_contains, has_map}
use Rattle.history_load.specs.AtHand.{file_entry}

pub entries_are : (page was : List ℕ) (entries : List FileEntry) → CatalogOf page (with_entries (catalog_on was) entries) → entries_on page ≡ entries
entries_are page was entries is = ap (λ c. c.entries) (catalog_read page (with_entries (catalog_on was) entries) is)

pub is_page : (page was : List ℕ) (entries : List FileEntry) → CatalogOf page (with_entries (catalog_on was) entries) → IsCatalogPage page
is_page page was entries is = subst (CatalogOf page) (sym (catalog_read page (with_entries (catalog_on was) entries) is)) is

numbered_last : (entries : List FileEntry) (e : FileEntry) → Contains (map number_of (entries ++ e ∷ [])) e.file_no
numbered_last entries e = has_contains (map number_of (entries ++ e ∷ [])) e.file_no (has_map number_of (entries ++ e ∷ []) e (has_back entries (e ∷ []) e (inl refl)))

pub indexed_last : (entries : List FileEntry) (name : List ℕ) (file_no level : ℕ) (root : Option PageNo) → AllDiffer (map number_of (entries ++ new_file name file_no ∷ []))
    → map (indexed file_no level root) (entries ++ new_file name file_no ∷ []) ≡ entries ++ file_entry name file_no level root ∷ []
indexed_last [] name file_no level root differ = ap (λ (e : FileEntry). e ∷ []) (cond-true (file_no == file_no) (file_entry name file_no level root) (new_file name file_no) (eq-eqb file_no file_no refl))
indexed_last (e ∷ entries) name file_no level root differ =
    let apart : e.file_no ≢ file_no = λ same. differ.0 (subst (λ (n : ℕ). Contains (map number_of (entries ++ new_file name file_no ∷ [])) n) (sym same) (numbered_last entries (new_file name file_no))) in
    let here : indexed file_no level root e ≡ e = cond-false (e.file_no == file_no) (record e { level = level; root = root }) e (not_equal e.file_no file_no apart) in
    let rest = indexed_last entries name file_no level root differ.1 in
    cc (here, rest)
