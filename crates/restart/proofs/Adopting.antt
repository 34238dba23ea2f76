-- Which logged pages are there as the pages of files are adopted, one after the other; and the roots of records, one after the other.
use Rattle.std.proofs.Common.{◌≡◌, ◌≢◌, ◌<◌, ◌+◌, ◌↔◌, ⊎_elim, ℕ, true, false, List, [], ◌∷◌, ◌++◌, length, take, get_or, set, Option, Some, None, sym, ap, subst, ◌∙◌, arith, eqb, eqb-true, eq-eqb}
use Rattle.std.specs.Prelude.{Contains, slice_set}
use Rattle.std.specs.List.{AllByRecursion}
use Rattle.std.proofs.lemmas.List.{get_or-set_same, get_or-set_other, length-set, map-append, take_more, append-nil}
use Rattle.std.proofs.lemmas.List.Concat.{flat_map-append}
use Rattle.std.proofs.lemmas.List.Elements.{Contains-append_left, Contains-push, Contains-push_cases}
use Rattle.ex_base.specs.declared.geometry.Geometry.{Geometry}
use Rattle.ex_base.specs.declared.names.PageNo.{PageNo}
use Rattle.ex_base.specs.declared.names.Root.{Root}
use Rattle.ex_base.specs.Area.{area_end, catalog_no}
use Rattle.ex_base.proofs.Rows.{each-append}
use Rattle.ex_base.proofs.Counts.{same_or_not}
use Rattle.ex_base.proofs.Each.{each_at}
use Rattle.file_walk.specs.declared.Found.{Found}
use Rattle.file_walk.specs.Records.{HasRootFields}
use Rattle.file_walk.specs.Walk.{page_numbers}
use Rattle.node_walk.specs.declared.ObjectRoot.{ObjectRoot}
use Rattle.object_records.specs.Record.{IsRootField}
use Rattle.volume_port.specs.Logged.{LoggedSet, is_held}
use Rattle.restart.specs.Content.{AreHeld, root_list, roots_found}

-- ---- logged pages

-- The pages that are there are the catalog and these.
pub record AreAdopted (g : Geometry) (s : LoggedSet) (files : List PageNo) : Type 0 where
  pub held : AreHeld s (page_numbers files)
  pub held_len : length s ≡ area_end g

pub none_adopted : (g : Geometry) (s : LoggedSet) → ((p : ℕ) → is_held s p ≡ eqb p catalog_no) → length s ≡ area_end g → AreAdopted g s []
none_adopted g s held held_len = record {
  held = λ page. (
    λ there. (0, omega arith, sym (eqb-true page catalog_no (sym (held page) ∙ there))),
    λ (k, lt, is). held page ∙ eq-eqb page catalog_no (alone k page lt is),
  );
  held_len = held_len;
}
  where
    alone : (k page : ℕ) → k < 1 → get_or (catalog_no ∷ []) k page ≡ page → page ≡ catalog_no
    alone k page lt is = let front : k ≡ 0 = omega (arith, lt) in sym (ap (λ (n : ℕ). get_or (catalog_no ∷ []) n page) (sym front) ∙ is)

abbrev with_page : LoggedSet → ℕ → LoggedSet
with_page s p = slice_set s p true

pub adopted_next : (g : Geometry) (s : LoggedSet) (files : List PageNo) (p : PageNo) → p.0 < area_end g → AreAdopted g s files → AreAdopted g (with_page s p.0) (files ++ p ∷ [])
adopted_next g s files p inside so_far = record {
  held = λ page. subst (λ (ps : List ℕ). (is_held (with_page s p.0) page ≡ true) ↔ Contains (catalog_no ∷ ps) page) (sym (map-append (λ (x : PageNo). x.0) files (p ∷ []))) (held page);
  held_len = length-set s p.0 true ∙ so_far.held_len;
}
  where
    before : List ℕ
    before = catalog_no ∷ page_numbers files

    held : (page : ℕ) → (is_held (with_page s p.0) page ≡ true) ↔ Contains (before ++ p.0 ∷ []) page
    held page = ⊎_elim
        (λ (same : page ≡ p.0). (
          (λ there. subst (Contains (before ++ p.0 ∷ [])) (sym same) (Contains-push before p.0)),
          (λ there. ap (λ (n : ℕ). get_or (set s p.0 true) n false) same ∙ get_or-set_same s p.0 true false (omega (arith, inside, so_far.held_len))),
        ))
        (λ (other : page ≢ p.0).
        let same : is_held (with_page s p.0) page ≡ is_held s page = get_or-set_other s p.0 page true false other in (
          (λ there. Contains-append_left before (p.0 ∷ []) page ((so_far.held page).0 (sym same ∙ there))),
          (λ there. same ∙ (so_far.held page).1 (⊎_elim (λ earlier. earlier) (λ here. absurd (other (sym here))) (Contains-push_cases before p.0 page there))),
        ))
        (same_or_not page p.0)

-- ---- roots

abbrev here : List Found → ℕ → Found → List ObjectRoot
here records i d = root_list (get_or records i d).object (get_or records i d).root

abbrev pub HasRoot : ObjectRoot → Type 0
HasRoot r = IsRootField r.root

pub roots_more : (records : List Found) (i : ℕ) (d : Found) → i < length records → roots_found (take (i + 1) records) ≡ roots_found (take i records) ++ here records i d
roots_more records i d inside =
    ap roots_found (take_more records i d inside)
    ∙ flat_map-append (λ (found : Found). root_list found.object found.root) (take i records) (get_or records i d ∷ [])
    ∙ ap (λ (tail : List ObjectRoot). roots_found (take i records) ++ tail) (append-nil (here records i d))

pub some_more : (records : List Found) (i : ℕ) (d : Found) (root : Root) (roots : List ObjectRoot) → i < length records → AllByRecursion HasRootFields records → (get_or records i d).root ≡ Some root
    → (roots ≡ roots_found (take i records)) × AllByRecursion HasRoot roots
    → (roots ++ record { object = (get_or records i d).object; root = root } ∷ [] ≡ roots_found (take (i + 1) records)) × AllByRecursion HasRoot (roots ++ record { object = (get_or records i d).object; root = root } ∷ [])
some_more records i d root roots inside fields is so_far =
    let object = (get_or records i d).object in (
      ap (λ (rs : List ObjectRoot). rs ++ record { object = object; root = root } ∷ []) so_far.0
          ∙ ap (λ (r : Option Root). roots_found (take i records) ++ root_list object r) (sym is) ∙ sym (roots_more records i d inside),
      each-append HasRoot roots (record { object = object; root = root } ∷ []) so_far.1 (each_at HasRootFields records i d inside fields root is, tt),
    )

pub none_more : (records : List Found) (i : ℕ) (d : Found) (roots : List ObjectRoot) → i < length records → (get_or records i d).root ≡ None
    → (roots ≡ roots_found (take i records)) × AllByRecursion HasRoot roots → (roots ≡ roots_found (take (i + 1) records)) × AllByRecursion HasRoot roots
none_more records i d roots inside is so_far = (
  so_far.0 ∙ sym (append-nil (roots_found (take i records))) ∙ ap (λ (r : Option Root). roots_found (take i records) ++ root_list (get_or records i d).object r) (sym is) ∙ sym (roots_more records i d inside),
  so_far.1,
)
