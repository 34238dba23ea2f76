-- What is read of the catalog.
use Rattle.std.proofs.Common.{◌≡◌, ◌≤◌, ◌+◌, ℕ, List, ◌++◌, length, take, Some, sym, ap, ◌∙◌, arith}
use Rattle.std.specs.Prelude.{slice_get}
use Rattle.std.proofs.lemmas.List.{length-append}
use Rattle.std.proofs.lemmas.Option.{same_Some, slice_get_within}
use Rattle.std.proofs.Math.Seq.{take-append_seam}
use Rattle.object_files.specs.Catalog.{Catalog, CatalogOf, FileEntry}
use Rattle.object_files.proofs.CatalogLaws.{catalog_read}
use Rattle.history_items.specs.Reads.{file_front}
use Rattle.history_items.proofs.FileFronts.{front_len}

pub one_catalog : (page : List ℕ) (a b : Catalog) → CatalogOf page a → CatalogOf page b → a ≡ b
one_catalog page a b one two = sym (catalog_read page a one) ∙ catalog_read page b two

pub no_entry_there : (page : List ℕ) (a b : Catalog) → CatalogOf page a → CatalogOf page b → (at : ℕ) (e : FileEntry) → length a.entries ≤ at → slice_get b.entries at ≡ Some e → ⊥
no_entry_there page a b one two at e past is =
    let lt = slice_get_within b.entries at e is in
    omega (arith, lt, past, ap (λ (c : Catalog). length c.entries) (one_catalog page a b one two))

pub one_entry : (page : List ℕ) (a b : Catalog) → CatalogOf page a → CatalogOf page b → (at : ℕ) (x y : FileEntry) → slice_get a.entries at ≡ Some x → slice_get b.entries at ≡ Some y → x ≡ y
one_entry page a b one two at x y there is = same_Some x y (sym there ∙ ap (λ (c : Catalog). slice_get c.entries at) (one_catalog page a b one two) ∙ is)

-- what is written in front of the bytes that were there
pub front_taken : (name : List ℕ) (versions : ℕ) (out rest : List ℕ) (n : ℕ) → out ≡ file_front name versions ++ rest → n ≡ 5 + length name → take n out ≡ file_front name versions
front_taken name versions out rest n is len =
    let e : n ≡ length (file_front name versions) = len ∙ sym (front_len (record { name = name; versions = versions })) in
    ap (λ (k : ℕ). take k out) e ∙ ap (take (length (file_front name versions))) is ∙ take-append_seam (file_front name versions) rest

pub front_inside : (name : List ℕ) (versions : ℕ) (out rest : List ℕ) (n : ℕ) → out ≡ file_front name versions ++ rest → n ≡ 5 + length name → n ≤ length out
front_inside name versions out rest n is len =
    omega (arith, ap length is, length-append (file_front name versions) rest, len, front_len (record { name = name; versions = versions }))
