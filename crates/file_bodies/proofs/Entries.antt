-- The entry of a file in the catalog.
use Rattle.std.proofs.Common.{◌≡◌, ◌≢◌, ◌<◌, ◌+◌, ℕ, zero, suc, true, false, List, [], ◌∷◌, drop, map, Option, Some, None, refl, sym, ap, subst, ◌∙◌, arith, eqb, eq-eqb, eqb-true}
use Rattle.std.specs.Option.{is_some, option_eq}
use Rattle.std.specs.Prelude.{Bool, ◌&&◌, slice_get, IsSome, IfSome, Contains, if◌then◌else◌}
use Rattle.std.specs.List.{AllByRecursion}
use Rattle.std.proofs.lemmas.Option.{slice_get_within, get_or_from_slice_get}
use Rattle.ex_base.specs.declared.names.PageNo.{PageNo}
use Rattle.ex_base.specs.declared.ground.Ground as ground
use Rattle.ex_base.specs.Area.{catalog_no}
use Rattle.ex_base.specs.Order.{AllDiffer}
use Rattle.ex_base.proofs.Counts.{not_equal}
use Rattle.ex_base.proofs.Lists.{drop_item}
use Rattle.ex_base.proofs.Members.{contains_later}
use Rattle.ex_base.specs.declared.names.Index.{Index}
use Rattle.file_index.specs.Index.{HasRoot}
use Rattle.file_index.proofs.Counts.{changes_same, put_changes}
use Rattle.object_files.specs.Catalog.{FileEntry, Catalog, CatalogOf, IsEntry, number_of}
use Rattle.object_files.specs.Reads.{catalog_on}
use Rattle.object_files.specs.Edits.{IsCatalogPage, entries_on, indexed, with_entries}
use Rattle.object_files.proofs.CatalogLaws.{catalog_read}
use Rattle.file_bodies.specs.Files.{index_in, index_at, with_index}
use Rattle.file_bodies.specs.Indexes.{IsUsable, SetsIndex}
use Rattle.ex_base.specs.Ports.{PutsImage}

pub is_catalog : (page : List ℕ) (c : Catalog) → CatalogOf page c → IsCatalogPage page
is_catalog page c h = subst (CatalogOf page) (sym (catalog_read page c h)) h

pub entries_are : (page : List ℕ) (c : Catalog) → CatalogOf page c → entries_on page ≡ c.entries
entries_are page c h = ap (λ (x : Catalog). x.entries) (catalog_read page c h)

abbrev index_from : ℕ → FileEntry → Index
index_from file_no e = record { root = e.root; level = e.level; file_no = file_no }

pub in_here : (file_no : ℕ) (e : FileEntry) (es : List FileEntry) → e.file_no ≡ file_no → index_in file_no (e ∷ es) ≡ Some (index_from file_no e)
in_here file_no e es same = let test : eqb e.file_no file_no ≡ true = eq-eqb e.file_no file_no same in rw test refl

pub in_rest : (file_no : ℕ) (e : FileEntry) (es : List FileEntry) → e.file_no ≢ file_no → index_in file_no (e ∷ es) ≡ index_in file_no es
in_rest file_no e es differ = let test : eqb e.file_no file_no ≡ false = not_equal e.file_no file_no differ in rw test refl

-- ---- a loop over the entries

entry_next : (es : List FileEntry) (at : ℕ) (e : FileEntry) → slice_get es at ≡ Some e → drop at es ≡ e ∷ drop (at + 1) es
entry_next es at e is = drop_item es at e (slice_get_within es at e is) (sym (get_or_from_slice_get es at e e is))

pub in_found : (file_no at : ℕ) (es : List FileEntry) (e : FileEntry) → slice_get es at ≡ Some e → e.file_no ≡ file_no → index_in file_no es ≡ index_in file_no (drop at es) → Some (index_from file_no e) ≡ index_in file_no es
in_found file_no at es e is same so_far = sym (so_far ∙ ap (index_in file_no) (entry_next es at e is) ∙ in_here file_no e (drop (at + 1) es) same)

pub in_passed : (file_no at : ℕ) (es : List FileEntry) (e : FileEntry) → slice_get es at ≡ Some e → e.file_no ≢ file_no → index_in file_no es ≡ index_in file_no (drop at es) → index_in file_no es ≡ index_in file_no (drop (at + 1) es)
in_passed file_no at es e is differ so_far = so_far ∙ ap (index_in file_no) (entry_next es at e is) ∙ in_rest file_no e (drop (at + 1) es) differ

-- ---- what an entry that is found says

root_of : (e : FileEntry) → IsEntry e → HasRoot e.level e.root
root_of e is = root_at e.level e.root is.rooted
  where
    root_at : (level : ℕ) (root : Option PageNo) → (0 < level → IsSome root) → HasRoot level root
    root_at level (Some page) h = tt
    root_at zero None h = refl
    root_at (suc level) None h = absurd (let e : false ≡ true = h (omega arith) in cc)

pub found_usable : (file_no : ℕ) (es : List FileEntry) (index : Index) → AllByRecursion IsEntry es → index_in file_no es ≡ Some index → IsUsable file_no index
found_usable file_no [] index each is = absurd cc
found_usable file_no (e ∷ es) index each is =
    (elim (eqb e.file_no file_no) as (λ t. eqb e.file_no file_no ≡ t → (if t then Some (index_from file_no e) else index_in file_no es) ≡ Some index → IsUsable file_no index) [
      | true ↦ λ t h. subst (IsUsable file_no) (let same : index_from file_no e ≡ index = cc in same) (record { same_file = refl; level = each.0.level; root = root_of e each.0 })
      | false ↦ λ t h. found_usable file_no es index each.1 h
    ]) refl is

pub found_number : (file_no : ℕ) (es : List FileEntry) (index : Index) → index_in file_no es ≡ Some index → Contains (map number_of es) file_no
found_number file_no [] index is = absurd cc
found_number file_no (e ∷ es) index is =
    (elim (eqb e.file_no file_no) as (λ t. eqb e.file_no file_no ≡ t → (if t then Some (index_from file_no e) else index_in file_no es) ≡ Some index → Contains (map number_of (e ∷ es)) file_no) [
      | true ↦ λ t h. (zero, omega arith, eqb-true e.file_no file_no t)
      | false ↦ λ t h. contains_later e.file_no file_no (map number_of es) (found_number file_no es index h)
    ]) refl is

pub usable_if : (file_no : ℕ) (es : List FileEntry) (o : Option Index) → o ≡ index_in file_no es → AllByRecursion IsEntry es → IfSome o (IsUsable file_no)
usable_if file_no es None is each = tt
usable_if file_no es (Some index) is each = found_usable file_no es index each (sym is)

pub has_number : (file_no : ℕ) (es : List FileEntry) (o : Option Index) → o ≡ index_in file_no es → IsSome o → Contains (map number_of es) file_no
has_number file_no es None is some = absurd (let e : false ≡ true = some in cc)
has_number file_no es (Some index) is some = found_number file_no es index (sym is)

pub not_some : (o : Option Index) → is_some o ≡ false → o ≡ None
not_some None e = refl
not_some (Some index) e = absurd (let f : true ≡ false = e in cc)

-- ---- an entry that gets an index

pub in_indexed : (es : List FileEntry) (was now : Index) → now.file_no ≡ was.file_no → index_in was.file_no es ≡ Some was → index_in now.file_no (map (indexed now.file_no now.level now.root) es) ≡ Some now
in_indexed [] was now same is = absurd cc
in_indexed (e ∷ es) was now same is =
    let whole : index_in now.file_no (e ∷ es) ≡ Some was = subst (λ (n : ℕ). index_in n (e ∷ es) ≡ Some was) (sym same) is in
    (elim (eqb e.file_no now.file_no) as (λ t. eqb e.file_no now.file_no ≡ t → (if t then Some (index_from now.file_no e) else index_in now.file_no es) ≡ Some was → index_in now.file_no ((if t then record e { level = now.level; root = now.root } else e) ∷ map (indexed now.file_no now.level now.root) es) ≡ Some now) [
      | true ↦ λ t h. in_here now.file_no (record e { level = now.level; root = now.root }) (map (indexed now.file_no now.level now.root) es) (eqb-true e.file_no now.file_no t)
      | false ↦ λ t h. in_rest now.file_no e (map (indexed now.file_no now.level now.root) es) (λ s. absurd (let y : eqb e.file_no now.file_no ≡ true = eq-eqb e.file_no now.file_no s in cc))
          ∙ in_indexed es was now same (subst (λ (n : ℕ). index_in n es ≡ Some was) same h)
    ]) refl whole

-- ---- an index that the catalog has already

and_parts : (x y : Bool) → x && y ≡ true → (x ≡ true) × (y ≡ true)
and_parts true true e = (refl, refl)
and_parts true false e = absurd (let f : false ≡ true = e in cc)
and_parts false y e = absurd (let f : false ≡ true = e in cc)

option_same : (f : PageNo → PageNo → Bool) → ((x y : PageNo) → f x y ≡ true → x ≡ y) → (a b : Option PageNo) → option_eq f a b ≡ true → a ≡ b
option_same f law None None e = refl
option_same f law None (Some y) e = absurd (let h : false ≡ true = e in cc)
option_same f law (Some x) None e = absurd (let h : false ≡ true = e in cc)
option_same f law (Some x) (Some y) e = ap (λ (p : PageNo). Some p) (law x y e)

index_is : (a b : Index) → a.root ≡ b.root → a.level ≡ b.level → a.file_no ≡ b.file_no → a ≡ b
index_is a b root level file_no =
    let one : a ≡ record { root = b.root; level = a.level; file_no = a.file_no } = ap (λ (r : Option PageNo). let i : Index = record { root = r; level = a.level; file_no = a.file_no } in i) root in
    let two : record { root = b.root; level = a.level; file_no = a.file_no } ≡ record { root = b.root; level = b.level; file_no = a.file_no } = ap (λ (n : ℕ). let i : Index = record { root = b.root; level = n; file_no = a.file_no } in i) level in
    let three : record { root = b.root; level = b.level; file_no = a.file_no } ≡ b = ap (λ (n : ℕ). let i : Index = record { root = b.root; level = b.level; file_no = n } in i) file_no in
    one ∙ two ∙ three

pub index_same : (f : PageNo → PageNo → Bool) (a b : Index) (r : Bool) → ((x y : PageNo) → f x y ≡ true → x ≡ y) → r ≡ (option_eq f a.root b.root && (eqb a.level b.level && eqb a.file_no b.file_no)) → r ≡ true → a ≡ b
index_same f a b r law is t =
    let all = and_parts (option_eq f a.root b.root) (eqb a.level b.level && eqb a.file_no b.file_no) (sym is ∙ t) in
    let rest = and_parts (eqb a.level b.level) (eqb a.file_no b.file_no) all.1 in
    index_is a b (option_same f law a.root b.root all.0) (eqb-true a.level b.level rest.0) (eqb-true a.file_no b.file_no rest.1)

indexed_other : (n level : ℕ) (root : Option PageNo) (es : List FileEntry) → (Contains (map number_of es) n → ⊥) → map (indexed n level root) es ≡ es
indexed_other n level root [] lacks = refl
indexed_other n level root (e ∷ es) lacks =
    let differ : e.file_no ≢ n = λ same. lacks (zero, omega arith, same) in
    let test : eqb e.file_no n ≡ false = not_equal e.file_no n differ in
    let here : indexed n level root e ≡ e = rw test refl in
    ap (λ (x : FileEntry). x ∷ map (indexed n level root) es) here ∙ ap (λ (t : List FileEntry). e ∷ t) (indexed_other n level root es (λ c. lacks (contains_later e.file_no n (map number_of es) c)))

entry_is : (e : FileEntry) (index : Index) → index_from index.file_no e ≡ index → record e { level = index.level; root = index.root } ≡ e
entry_is e index same =
    let level : index.level ≡ e.level = ap (λ (i : Index). i.level) (sym same) in
    let root : index.root ≡ e.root = ap (λ (i : Index). i.root) (sym same) in
    ap (λ (n : ℕ). record e { level = n; root = index.root }) level ∙ ap (λ (r : Option PageNo). record e { root = r }) root

pub indexed_stays : (es : List FileEntry) (index : Index) → AllDiffer (map number_of es) → index_in index.file_no es ≡ Some index → map (indexed index.file_no index.level index.root) es ≡ es
indexed_stays [] index differ is = refl
indexed_stays (e ∷ es) index differ is =
    (elim (eqb e.file_no index.file_no) as (λ t. eqb e.file_no index.file_no ≡ t → (if t then Some (index_from index.file_no e) else index_in index.file_no es) ≡ Some index
    → (if t then record e { level = index.level; root = index.root } else e) ∷ map (indexed index.file_no index.level index.root) es ≡ e ∷ es) [
      | true ↦ λ t h.
          let same : index_from index.file_no e ≡ index = cc in
          let lacks : Contains (map number_of es) index.file_no → ⊥ = λ c. differ.0 (subst (Contains (map number_of es)) (sym (eqb-true e.file_no index.file_no t)) c) in
          ap (λ (x : FileEntry). x ∷ map (indexed index.file_no index.level index.root) es) (entry_is e index same) ∙ ap (λ (r : List FileEntry). e ∷ r) (indexed_other index.file_no index.level index.root es lacks)
      | false ↦ λ t h. ap (λ (r : List FileEntry). e ∷ r) (indexed_stays es index differ.1 h)
    ]) refl is

pub same_sets : {S : Type 0} (g : ground.Ghosts S) (s : S) (index : Index) → IsCatalogPage (g.image s catalog_no) → index_at (g.image s) index.file_no ≡ Some index → SetsIndex g s s index
same_sets g s index whole at =
    let c : Catalog = catalog_on (g.image s catalog_no) in
    let same = indexed_stays (catalog_on (g.image s catalog_no)).entries index whole.fits.numbers at in
    record {
      catalog = subst (λ (es : List FileEntry). CatalogOf (g.image s catalog_no) (with_entries (catalog_on (g.image s catalog_no)) es)) (sym same) whole;
      changes = changes_same g s (catalog_no ∷ []);
    }

-- the catalog's page is put, of what was read with one entry changed
pub put_sets : {S : Type 0} (g : ground.Ghosts S) (a b : S) (index : Index) (bytes content : List ℕ) → PutsImage g a b catalog_no content → g.leads a b
    → g.tells a → bytes ≡ g.image a catalog_no
    → CatalogOf content (with_index (catalog_on bytes) index) → SetsIndex g a b index
put_sets g a b index bytes content put leads told read spelled = record {
  catalog = subst (λ (t : List ℕ). CatalogOf t (with_index (catalog_on (g.image a catalog_no)) index)) (sym (put.image told))
      (subst (λ (t : List ℕ). CatalogOf content (with_index (catalog_on t) index)) read spelled);
  changes = put_changes g a b catalog_no content put leads;
}
