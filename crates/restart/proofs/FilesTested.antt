-- What the walks over the files and the trees of a volume find, part by part.
use Rattle.std.proofs.Common.{◌≡◌, ◌≤◌, ◌<◌, ◌↔◌, ◌⊎◌, inl, inr, ⊎_elim, ℕ, zero, suc, Bool, true, false, true≢false, IsTrue, List, [], ◌∷◌, length, eqb, eqb-true, eq-eqb, refl, sym, ap, subst, ◌∙◌, arith}
use Rattle.std.specs.Prelude.{map, Contains}
use Rattle.std.specs.List.{AllByRecursion, AllZip, flat_map}
use Rattle.std.proofs.lemmas.Bool.{cases_Bool}
use Rattle.std.proofs.lemmas.List.{length-map}
use Rattle.std.proofs.lemmas.List.Elements.{Contains-append_cases, Contains-append_left, Contains-append_right}
use Rattle.ex_base.specs.declared.geometry.Geometry.{Geometry}
use Rattle.ex_base.specs.declared.names.Place.{Place}
use Rattle.ex_base.specs.declared.names.Root.{Root}
use Rattle.ex_base.specs.Area.{catalog_no}
use Rattle.ex_base.proofs.Each.{each_as, each_from, each_mapped, each_of, each_unmapped}
use Rattle.file_walk.specs.declared.WalkedFiles.{WalkedFiles}
use Rattle.file_walk.specs.Numbers.{AreGoodNumbers, uniques}
use Rattle.file_walk.specs.Objects.{AreObjects}
use Rattle.file_walk.specs.Parts.{HasWalked, IsBadFiles, stored_of}
use Rattle.file_walk.specs.Walk.{page_numbers}
use Rattle.node_walk.specs.declared.ObjectRoot.{ObjectRoot}
use Rattle.node_walk.specs.TreesNamed.{AreBalanced, AreFree, AreNamed, FailsFirst, UsesTrees, tree_in, trees_in}
use Rattle.object_files.specs.Catalog.{Catalog, FileEntry}
use Rattle.page_alloc.specs.UnitSet.{refs_at, used_at}
use Rattle.session_views.specs.declared.part.Part.{Part}
use Rattle.session_views.specs.declared.part.Part.TheVariants.{Super, Log, Catalog as CatalogPart, File, Page, Body, Node, Balance, Unique}
use Rattle.trees.specs.Owners.{IsOwned, root_pages}
use Rattle.trees.specs.Trees.{RootNamed, Units, root_units}
use Rattle.version_lists.proofs.Lists.{Has, contains_has, has_contains, has_flat, has_flat_from}
use Rattle.volume_model.proofs.FewRoots.{few_in_files}
use Rattle.volume_model.proofs.OneVolume.{one_file}
use Rattle.volume_model.specs.Links.{Apart, stored_units}
use Rattle.volume_model.specs.OwnersMoved.{roots_most}
use Rattle.volume_model.specs.Parts.{HasBalance, HasBodies, HasIndex, HasNodes, HasPages, HasUniques}
use Rattle.volume_model.specs.Volume.{FileContent, Stored, Volume, file_pages, reach_of, root_in, roots_in, stored_in, unique_of}
use Rattle.restart.specs.declared.content.Reached.{Reached}
use Rattle.restart.specs.Content.{AreHeld, FilesHold, FilesReached, IsFirstBad, roots_found, volume_of}
use Rattle.restart.proofs.FileRecords.{numbers_listed, object_roots, objects_agree, olders_there, root_from, root_there, roots_listed, trees_listed}

-- ---- the same files

-- files are determined
pub same_files : (g : Geometry) (units : Units) (entries : List FileEntry) (xs ys : List FileContent) → AllZip (HasIndex g units) entries xs → AllZip (HasIndex g units) entries ys → AllZip (HasPages units) entries xs → AllZip (HasPages units) entries ys
    → AllByRecursion HasBodies xs → AllByRecursion HasBodies ys → xs ≡ ys
same_files g units [] [] [] c d p q l m = refl
same_files g units [] [] (y ∷ ys) c d p q l m = absurd d
same_files g units [] (x ∷ xs) ys c d p q l m = absurd c
same_files g units (entry ∷ entries) [] ys c d p q l m = absurd c
same_files g units (entry ∷ entries) (x ∷ xs) [] c d p q l m = absurd d
same_files g units (entry ∷ entries) (x ∷ xs) (y ∷ ys) c d p q l m =
    ap (λ (front : FileContent). front ∷ xs) (one_file g units entry x y c.0 d.0 p.0 q.0 l.0 m.0)
    ∙ ap (λ (rest : List FileContent). y ∷ rest) (same_files g units entries xs ys c.1 d.1 p.1 q.1 l.1 m.1)

-- ---- what the walks say of trees

-- used are the catalog and these pages
abbrev pub UsedAre : (ℕ → Bool) → List ℕ → Type 0
UsedAre used pages = (page : ℕ) → (used page ≡ true) ↔ Contains (catalog_no ∷ pages) page

module _ (g : Geometry) (units : Units) (c : Catalog) (files : List FileContent) (object : Place → ℕ) (objects : AreObjects (stored_of files) object) (used : ℕ → Bool) (is_used : UsedAre used (file_pages (volume_of c files))) where
  abbrev v : Volume
  v = volume_of c files

  abbrev its_roots : List ObjectRoot
  its_roots = object_roots object (stored_of files)

  abbrev Named : Root → Type 0
  Named root = RootNamed g units root.height root.page

  abbrev NoFilePage : Root → Type 0
  NoFilePage root = Apart (root_units units root) (catalog_no ∷ file_pages v)

  abbrev Free : Root → Type 0
  Free root = AreFree used (root_units units root)

  of_roots : (P : Root → Type 0) → AllByRecursion (λ (r : ObjectRoot). P r.root) its_roots → AllByRecursion P (roots_in (stored_in v))
  of_roots P each = subst (AllByRecursion P) (trees_listed object (stored_of files)) (each_mapped P tree_in its_roots each)

  roots_of : (P : Root → Type 0) → AllByRecursion P (roots_in (stored_in v)) → AllByRecursion (λ (r : ObjectRoot). P r.root) its_roots
  roots_of P each = each_unmapped P tree_in its_roots (subst (AllByRecursion P) (sym (trees_listed object (stored_of files))) each)

  unused : (root : Root) → Free root → NoFilePage root
  unused root free = each_as (λ p. used p ≡ false) (λ p. ¬ Contains (catalog_no ∷ file_pages v) p) (root_units units root) (λ p is here. true≢false (sym ((is_used p).1 here) ∙ is)) free

  unfiled : (root : Root) → NoFilePage root → Free root
  unfiled root apart = each_as (λ p. ¬ Contains (catalog_no ∷ file_pages v) p) (λ p. used p ≡ false) (root_units units root)
      (λ p none. ⊎_elim (λ there. absurd (none ((is_used p).0 there))) (λ is. is) (cases_Bool (used p))) apart

  -- a unit of a record's tree is one of its root's
  of_root : (s : Stored) (unit : ℕ) → Contains (stored_units units s) unit → (root : Root) × Has (root_in s.body.content) root × Contains (root_units units root) unit
  of_root s unit there =
      let found = has_flat_from (root_units units) (root_in s.body.content) unit (contains_has (stored_units units s) unit there) in
      (found.0, found.1, has_contains (root_units units found.0) unit found.2)

  in_record : (s : Stored) (root : Root) (unit : ℕ) → Has (root_in s.body.content) root → Contains (root_units units root) unit → Contains (stored_units units s) unit
  in_record s root unit here there = has_contains (stored_units units s) unit (has_flat (root_units units) (root_in s.body.content) root unit here (contains_has (root_units units root) unit there))

  pub nodes_of : AreNamed g units used its_roots → HasNodes g units v
  nodes_of h = record {
    named = of_roots Named h.named;
    no_file_page = of_roots NoFilePage (each_as (λ (r : ObjectRoot). Free r.root) (λ (r : ObjectRoot). NoFilePage r.root) its_roots (λ r free. unused r.root free) h.free);
    objects = record {
      object = object;
      joined = objects.joined;
      one_first = objects.one_first;
      apart = λ s t there here differ.
          each_from (λ unit. ¬ Contains (stored_units units t) unit) (stored_units units s) (λ unit mine theirs.
          let a = of_root s unit mine in
          let b = of_root t unit theirs in
          let apart = h.apart (record { object = object s.place; root = a.0 }) (record { object = object t.place; root = b.0 }) (root_there object (stored_of files) s a.0 there a.1) (root_there object (stored_of files) t b.0 here b.1) differ in
          each_of (λ u. ¬ Contains (root_units units b.0) u) (root_units units a.0) unit apart a.2 b.2);
    };
  }

  pub named_of : AllByRecursion HasBodies files → HasNodes g units v → AreNamed g units used its_roots
  named_of bodies h = record {
    named = roots_of Named h.named;
    free = each_as (λ (r : ObjectRoot). NoFilePage r.root) (λ (r : ObjectRoot). Free r.root) its_roots (λ r apart. unfiled r.root apart) (roots_of NoFilePage h.no_file_page);
    apart = λ r q there here differ.
        let s = root_from object (stored_of files) r there in
        let t = root_from object (stored_of files) q here in
        let other : AreObjects (stored_of files) h.objects.object = record { joined = h.objects.joined; one_first = h.objects.one_first } in
        let apart = h.objects.apart s.record_of t.record_of s.there t.there (λ same.
        differ (sym s.object_is ∙ objects_agree (stored_of files) h.objects.object object s.record_of t.record_of (olders_there files bodies) other objects s.there t.there same ∙ t.object_is)) in
        each_from (λ unit. ¬ Contains (root_units units q.root) unit) (root_units units r.root) (λ unit mine theirs.
        each_of (λ u. ¬ Contains (stored_units units t.record_of) u) (stored_units units s.record_of) unit apart (in_record s.record_of r.root unit s.root mine) (in_record t.record_of q.root unit t.root theirs));
  }

-- ---- numbers

pub uniques_of : (c : Catalog) (files : List FileContent) → AreGoodNumbers c.next_unique (map unique_of (stored_of files)) → HasUniques (volume_of c files)
uniques_of c files h = record {
  differ = h.differ;
  some = each_unmapped (λ (n : ℕ). 1 ≤ n) unique_of (stored_of files) h.some;
  below = each_unmapped (λ (n : ℕ). n < c.next_unique) unique_of (stored_of files) h.below;
}

pub numbers_of : (c : Catalog) (files : List FileContent) → HasUniques (volume_of c files) → AreGoodNumbers c.next_unique (map unique_of (stored_of files))
numbers_of c files h = record {
  differ = h.differ;
  some = each_mapped (λ (n : ℕ). 1 ≤ n) unique_of (stored_of files) h.some;
  below = each_mapped (λ (n : ℕ). n < c.next_unique) unique_of (stored_of files) h.below;
}

-- ---- the first part that fails

-- among the files' own parts
pub files_bad : (g : Geometry) (units : Units) (c : Catalog) (part : Part) → IsBadFiles g units c.entries part → IsFirstBad g units c part
files_bad g units c Super bad = absurd (bad.fails bad.files tt tt)
files_bad g units c Log bad = absurd (bad.fails bad.files tt tt)
files_bad g units c CatalogPart bad = absurd (bad.fails bad.files tt tt)
files_bad g units c File bad = record {
  files = bad.files;
  earlier = tt;
  fails = λ files h. bad.fails files tt (record { indexes = h.0.0; differ = h.0.1 });
}
files_bad g units c Page bad = record {
  files = bad.files;
  earlier = ((bad.earlier.indexes, bad.earlier.differ), tt);
  fails = λ files h. bad.fails files (record { indexes = h.0.0; differ = h.0.1 }) h.1.0;
}
files_bad g units c Body bad = record {
  files = bad.files;
  earlier = ((bad.earlier.0.indexes, bad.earlier.0.differ), (bad.earlier.1, tt));
  fails = λ files h. bad.fails files (record { indexes = h.0.0; differ = h.0.1 }, h.1.0) h.1.1.0;
}
files_bad g units c Node bad = absurd (bad.fails bad.files tt tt)
files_bad g units c Balance bad = absurd (bad.fails bad.files tt tt)
files_bad g units c Unique bad = absurd (bad.fails bad.files tt tt)

-- ---- from the walks to the parts

-- used are the catalog and the files' pages once these came into use
pub used_are : (before after : ℕ → Bool) (pages : List ℕ) → before ≡ (λ page. eqb page catalog_no) → ((page : ℕ) → IsTrue (after page) ↔ (IsTrue (before page) ⊎ Contains pages page)) → UsedAre after pages
used_are before after pages fresh came page = (
  (λ there. ⊎_elim
      (λ (first : before page ≡ true). (0, omega arith, sym (eqb-true page catalog_no (sym (ap (λ (f : ℕ → Bool). f page) fresh) ∙ first))))
      (λ (here : Contains pages page). (suc here.0, omega (arith, here.1), here.2))
      ((came page).0 there)),
  from,
)
  where
    from : Contains (catalog_no ∷ pages) page → after page ≡ true
    from (zero, lt, is) = (came page).1 (inl (ap (λ (f : ℕ → Bool). f page) fresh ∙ eq-eqb page catalog_no (sym is)))
    from (suc k, lt, is) = (came page).1 (inr (k, omega (arith, lt), is))

module _ (g : Geometry) (units : Units) (c : Catalog) (w : WalkedFiles) (walked : HasWalked g units c.entries w) (used : ℕ → Bool) (is_used : UsedAre used (page_numbers w.pages.items)) where
  abbrev files : List FileContent
  files = walked.files

  abbrev roots : List ObjectRoot
  roots = roots_found w.records.items

  abbrev object : Place → ℕ
  object = walked.object

  roots_are : roots ≡ object_roots object (stored_of files)
  roots_are = ap roots_found walked.records ∙ roots_listed object (stored_of files)

  trees_are : trees_in roots ≡ roots_in (stored_of files)
  trees_are = ap trees_in roots_are ∙ trees_listed object (stored_of files)

  numbers : uniques w.records.items ≡ map unique_of (stored_of files)
  numbers = ap uniques walked.records ∙ numbers_listed object (stored_of files)

  used_of : UsedAre used (file_pages (volume_of c files))
  used_of = subst (UsedAre used) walked.pages is_used

  three : FilesHold g units c 3 files
  three = ((walked.file.indexes, walked.file.differ), (walked.page, (walked.body, tt)))

  -- no other files hold the first three parts
  others : (other : List FileContent) → FilesHold g units c 3 other → other ≡ files
  others other h = sym (same_files g units c.entries files other walked.file.indexes h.0.0 walked.page h.1.0 walked.body h.1.1.0)

  nodes : AreNamed g units used roots → HasNodes g units (volume_of c files)
  nodes named = nodes_of g units c files object walked.objects used used_of (subst (AreNamed g units used) roots_are named)

  balances : AreBalanced g units (trees_in roots) → AllByRecursion (HasBalance g units) (roots_in (stored_of files))
  balances balanced = subst (AllByRecursion (HasBalance g units)) trees_are balanced

  pub node_bad : (AreNamed g units used roots → ⊥) → IsFirstBad g units c Node
  node_bad none = record {
    files = files;
    earlier = three;
    fails = λ other h.
        let same = others other (h.0, (h.1.0, (h.1.1.0, tt))) in
        none (subst (AreNamed g units used) (sym roots_are) (named_of g units c files object walked.objects used used_of walked.body (subst (λ (fs : List FileContent). HasNodes g units (volume_of c fs)) same h.1.1.1.0)));
  }

  pub balance_bad : AreNamed g units used roots → (AreBalanced g units (trees_in roots) → ⊥) → IsFirstBad g units c Balance
  balance_bad named none = record {
    files = files;
    earlier = (three.0, (three.1.0, (three.1.1.0, (nodes named, tt))));
    fails = λ other h.
        let same = others other (h.0, (h.1.0, (h.1.1.0, tt))) in
        none (subst (AreBalanced g units) (sym trees_are) (subst (λ (fs : List FileContent). AllByRecursion (HasBalance g units) (roots_in (stored_of fs))) same h.1.1.1.1.0));
  }

  pub trees_bad : (part : Part) → FailsFirst g units used roots part → IsFirstBad g units c part
  trees_bad part bad = ⊎_elim
      (λ (node : (part ≡ Node) × (AreNamed g units used roots → ⊥)). subst (IsFirstBad g units c) (sym node.0) (node_bad node.1))
      (λ (balance : (part ≡ Balance) × AreNamed g units used roots × (AreBalanced g units (trees_in roots) → ⊥)). subst (IsFirstBad g units c) (sym balance.0) (balance_bad balance.1 balance.2))
      bad

  pub unique_bad : AreNamed g units used roots → AreBalanced g units (trees_in roots) → (AreGoodNumbers c.next_unique (uniques w.records.items) → ⊥) → IsFirstBad g units c Unique
  unique_bad named balanced none = record {
    files = files;
    earlier = (three.0, (three.1.0, (three.1.1.0, (nodes named, (balances balanced, tt)))));
    fails = λ other h.
        let same = others other (h.0, (h.1.0, (h.1.1.0, tt))) in
        none (subst (AreGoodNumbers c.next_unique) (sym numbers) (numbers_of c files (subst (λ (fs : List FileContent). HasUniques (volume_of c fs)) same h.1.1.1.1.1.0)));
  }

  pub all_hold : AreNamed g units used roots → AreBalanced g units (trees_in roots) → AreGoodNumbers c.next_unique (uniques w.records.items) → FilesHold g units c 6 files
  all_hold named balanced good = (three.0, (three.1.0, (three.1.1.0, (nodes named, (balances balanced, (uniques_of c files (subst (AreGoodNumbers c.next_unique) numbers good), tt))))))

  pub reached : (after : ℕ → Bool) → UsesTrees units (trees_in roots) used after → (unit : ℕ) → (after unit ≡ true) ↔ Contains (reach_of units (volume_of c files)) unit
  reached after uses unit =
      let pages = catalog_no ∷ file_pages (volume_of c files) in
      let trees = flat_map (root_units units) (roots_in (stored_in (volume_of c files))) in (
        (λ there. ⊎_elim
            (λ page. Contains-append_left pages trees unit ((used_of unit).0 page))
            (λ tree. Contains-append_right pages trees unit (subst (λ (rs : List Root). Contains (flat_map (root_units units) rs) unit) trees_are tree))
            ((uses unit).0 there)),
        (λ there. (uses unit).1 (⊎_elim
            (λ page. inl ((used_of unit).1 page))
            (λ tree. inr (subst (λ (rs : List Root). Contains (flat_map (root_units units) rs) unit) (sym trees_are) tree))
            (Contains-append_cases pages trees unit there))),
      )

  -- the roots are few
  pub few_listed : length roots ≤ roots_most
  few_listed =
      let few = few_in_files g units (volume_of c files) walked.file.indexes walked.file.differ walked.page walked.body in
      omega (arith, few, ap length trees_are, length-map roots tree_in)

  pub files_reached : (r : Reached) → AreNamed g units used roots → AreBalanced g units (trees_in roots) → AreGoodNumbers c.next_unique (uniques w.records.items) → UsesTrees units (trees_in roots) used (used_at r.units)
      → IsOwned g units (used_at r.units) (refs_at r.units) (catalog_no ∷ page_numbers w.pages.items) (root_pages (trees_in roots)) → AreHeld r.pages (page_numbers w.pages.items) → FilesReached g units c r
  files_reached r named balanced good uses owned held = record {
    files = files;
    holds = all_hold named balanced good;
    used = reached (used_at r.units) uses;
    owned = subst (λ (rs : List Root). IsOwned g units (used_at r.units) (refs_at r.units) (catalog_no ∷ file_pages (volume_of c files)) (root_pages rs)) trees_are
        (subst (λ (pages : List ℕ). IsOwned g units (used_at r.units) (refs_at r.units) (catalog_no ∷ pages) (root_pages (trees_in roots))) walked.pages owned);
    held = subst (AreHeld r.pages) walked.pages held;
  }
