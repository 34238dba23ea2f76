-- What an update of the files finds of its catalog.
use Rattle.std.proofs.Common.{◌≡◌, ℕ, zero, suc, ◌-◌, ◌<◌, true, false, cond, List, [], ◌∷◌, length, map, Some, None, is_some, refl, sym, subst, arith, leb-true}
use Rattle.std.specs.Prelude.{find, is_none, Contains, IsTrue, bytes_eq, slice_index_or, nat_le, ◌&&◌}
use Rattle.std.specs.List.{AllByRecursion, list_all}
use Rattle.std.proofs.lemmas.Slice.Eq.{bytes_eq-Decides}
use Rattle.ex_base.proofs.Booleans.{bytes_test}
use Rattle.object_files.specs.Catalog.{Catalog, CatalogOf, FileEntry, IsName, is_name_byte, name_of}
use Rattle.object_files.specs.Edits.{IsCatalogPage, has_name, with_entries}
use Rattle.object_files.specs.Reads.{catalog_on}
use Rattle.object_files.proofs.CatalogLaws.{catalog_read}
use Rattle.table_model.specs.Words as words
use Rattle.table_model.specs.declared.reply.Refusal.TheVariants as refusal
use Rattle.table_model.specs.Refusals.{when}
use Rattle.table_model.proofs.Stepping.{neither, unmet}
use Rattle.std.proofs.lemmas.Bool.{and_parts}
use Rattle.session_core.specs.Sessions.{SessionState}
use Rattle.transactions.specs.Refused.{file_refusal, unfile_refusal, entry_named, has_pages}

-- ---- names

each_byte : (name : List ℕ) → list_all words.is_name_byte name ≡ true → AllByRecursion (λ b. is_name_byte b ≡ true) name
each_byte [] all = tt
each_byte (b ∷ name) all = let both = and_parts (words.is_name_byte b) (list_all words.is_name_byte name) all in (both.0, each_byte name both.1)

pub name_is : (name : List ℕ) → IsTrue (words.is_name name) → IsName name
name_is name form =
    let outer = and_parts (nat_le 1 (length name) && nat_le (length name) 32) (list_all words.is_name_byte name) form in
    let inner = and_parts (nat_le 1 (length name)) (nat_le (length name) 32) outer.0 in
    record { some = leb-true 1 (length name) inner.0; short = leb-true (length name) 32 inner.1; bytes = each_byte name outer.1 }

-- ---- whether a file has the name

found_if : (name : List ℕ) (es : List FileEntry) (k : ℕ) → k < length (map name_of es) → slice_index_or (map name_of es) k name ≡ name → is_some (find (has_name name) es) ≡ true
found_if name [] k lt is = absurd (omega (arith, lt))
found_if name (e ∷ es) zero lt is = let here = bytes_test e.name name is in rw here refl
found_if name (e ∷ es) (suc k) lt is = elim (bytes_eq e.name name) as (λ b. is_some (cond b (Some e) (find (has_name name) es)) ≡ true) [ true ↦ refl | false ↦ found_if name es k (omega (arith, lt)) is ]

missing_if : (name : List ℕ) (es : List FileEntry) → is_some (find (has_name name) es) ≡ false → Contains (map name_of es) name → ⊥
missing_if name es none (k, lt, is) = let some = found_if name es k lt is in absurd (cc)

there_if : (name : List ℕ) (es : List FileEntry) → is_none (find (has_name name) es) ≡ false → Contains (map name_of es) name
there_if name [] some = absurd (cc)
there_if name (e ∷ es) some = (elim (bytes_eq e.name name) as (λ b. bytes_eq e.name name ≡ b → is_none (cond b (Some e) (find (has_name name) es)) ≡ false → Contains (map name_of (e ∷ es)) name) [
  | true ↦ λ is _. (0, omega arith, (bytes_eq-Decides e.name name).0 is)
  | false ↦ λ _ later. let rest = there_if name es later in (suc rest.0, omega (arith, rest.1), rest.2)
]) refl some

pub name_unused : (s : SessionState) (c : Catalog) (name : List ℕ) → None ≡ file_refusal s c name → Contains (map name_of c.entries) name → ⊥
name_unused s c name none = missing_if name c.entries (unmet (is_some (entry_named c name)) refusal.FileExists (neither (when (is_some (entry_named c name)) refusal.FileExists) _ none).0)

pub name_used : (s : SessionState) (c : Catalog) (name : List ℕ) → None ≡ unfile_refusal s c name → Contains (map name_of c.entries) name
name_used s c name none = there_if name c.entries (unmet (is_none (entry_named c name)) refusal.NoFile (neither (when (is_none (entry_named c name)) refusal.NoFile) _ none).0)

pub no_pages_there : (s : SessionState) (c : Catalog) (name : List ℕ) → None ≡ unfile_refusal s c name → has_pages (entry_named c name) ≡ false
no_pages_there s c name none =
    unmet (has_pages (entry_named c name)) refusal.NotEmpty (neither (when (has_pages (entry_named c name)) refusal.NotEmpty) _ (neither (when (is_none (entry_named c name)) refusal.NoFile) _ none).1).0

-- an edit of the entries leaves a catalog
pub edited_page : (page image : List ℕ) (entries : List FileEntry) → CatalogOf image (with_entries (catalog_on page) entries) → IsCatalogPage image
edited_page page image entries catalog = subst (λ (c : Catalog). CatalogOf image c) (sym (catalog_read image (with_entries (catalog_on page) entries) catalog)) catalog
