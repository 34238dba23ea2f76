-- What is used is exactly what the pages of a view reach, where each unit of a tree has as many references as owners.
use Rattle.std.proofs.Common.{◌≡◌, ◌≢◌, ◌↔◌, ◌⊎◌, inl, inr, ⊎_elim, ℕ, ◌+◌, ◌≤◌, Bool, true, cond, nat_lt, nat_eq, List, [], ◌∷◌, ◌++◌, Option, Some, None, unwrap_or, refl, sym, ap, subst, ◌∙◌, arith}
use Rattle.std.specs.Prelude.{Contains}
use Rattle.std.specs.List.{flat_map, AllByRecursion, AllZip}
use Rattle.std.specs.Map.{lookup}
use Rattle.std.proofs.lemmas.List.Concat.{flat_map-append}
use Rattle.ex_base.specs.declared.geometry.Geometry.{Geometry}
use Rattle.ex_base.specs.declared.names.Root.{Root}
use Rattle.ex_base.specs.Area.{area_end, catalog_no, leaf_at, page_at}
use Rattle.ex_base.specs.Ports.{times}
use Rattle.ex_base.specs.Sizes.{most_page}
use Rattle.ex_base.proofs.Counts.{contains_times, times-append, times_contains, times_here}
use Rattle.ex_base.proofs.Each.{each_with, flat_same}
use Rattle.ex_base.proofs.Rows.{each-append}
use Rattle.op_log.specs.AfterLog.{after_log, logged}
use Rattle.session_views.specs.View.{View}
use Rattle.table_model.specs.declared.machine.ScanRow.{ScanRow}
use Rattle.table_model.specs.declared.table.Table.{Table}
use Rattle.trees.specs.Owners.{IsOwned, all_named, page_here, root_pages}
use Rattle.trees.specs.Shown.{BytesShown}
use Rattle.trees.specs.Trees.{Units, RootNamed, root_units}
use Rattle.trees.proofs.KeptRoots.{RootKept, named_root, units_of_root}
use Rattle.trees.proofs.Owned.{AreNamed, exact_reach, reached_owned, some_of}
use Rattle.trees.proofs.OwnedTrees.{owned_apart, roots_kept}
use Rattle.volume_model.specs.Homes.{home}
use Rattle.volume_model.specs.OwnersShown.{OwnersOf, OwnersShown, committed_roots, logged_pages, roots_held}
use Rattle.volume_model.specs.Shown.{Held, HeldScan, IsWorkingPage, OverlayShown, PageRow, ScanShown, WorkingRow, WorkingShown, laid_over_page, reach_of_view, root_here, roots_here, trees_of_view, working_units}
use Rattle.volume_model.specs.TreesShown.{TreesShown}
use Rattle.volume_model.specs.Volume.{Volume, Decoded, file_pages, roots_in, stored_in, units_of}
use Rattle.volume_model.proofs.FoundRows.{found_is}

-- how often a number stands in what is made of three lists
pub times_joined : {A : Type 0} (u : ℕ) (f : A → List ℕ) (xs ys zs : List A) → times u (flat_map f (xs ++ ys ++ zs)) ≡ times u (flat_map f xs) + times u (flat_map f ys) + times u (flat_map f zs)
times_joined u f xs ys zs =
    ap (times u) (flat_map-append f (xs ++ ys) zs) ∙ times-append u (flat_map f (xs ++ ys)) (flat_map f zs)
    ∙ ap (λ (n : ℕ). n + times u (flat_map f zs)) (ap (times u) (flat_map-append f xs ys) ∙ times-append u (flat_map f xs) (flat_map f ys))

module _ (d : Decoded) (used : ℕ → Bool) (refs : ℕ → ℕ) (gained lost scans : List Root) (disk : List ℕ) (working : Volume) (owners : OwnersShown d used refs gained lost scans disk working) where
  -- the roots by which trees are reached
  abbrev pub roots_shown : List Root
  roots_shown = committed_roots d ++ roots_in (stored_in working) ++ scans

  -- how often each unit is named by these roots and by nodes in use
  abbrev pub named_by : ℕ → ℕ
  named_by u = times u (root_pages roots_shown) + times u (all_named (home d.geometry disk) owners.owned.nodes)

  roots_of : (u : ℕ) → times u (root_pages roots_shown) ≡ times u (root_pages (committed_roots d)) + times u (root_pages (roots_in (stored_in working))) + times u (root_pages scans)
  roots_of u = times_joined u (λ (root : Root). page_here root.page) (committed_roots d) (roots_in (stored_in working)) scans

  held_of : (u : ℕ) → times u (root_pages (roots_held d gained scans)) ≡ times u (root_pages (committed_roots d)) + times u (root_pages gained) + times u (root_pages scans)
  held_of u = times_joined u (λ (root : Root). page_here root.page) (committed_roots d) gained scans

  -- They name the units that have an owner, and no others.
  pub named_owned : (u : ℕ) → 1 ≤ refs u → 1 ≤ named_by u
  named_owned u some = omega (arith, some, owners.owned.owners u, owners.turned u, owners.was_committed u, held_of u, roots_of u)

  pub owned_named : (u : ℕ) → 1 ≤ named_by u → 1 ≤ refs u
  owned_named u some = omega (arith, some, owners.owned.owners u, owners.turned u, owners.was_committed u, held_of u, roots_of u)

  pub owned_shown : IsOwned d.geometry (home d.geometry disk) used named_by (logged_pages d working) (root_pages roots_shown)
  owned_shown =
      let is = owners.owned in
      record {
        nodes = is.nodes;
        inner = is.inner;
        once = is.once;
        owners = λ u. refl;
        listed = λ page area some. is.listed page area (owned_named page some);
        owned = λ page has. named_owned page (is.owned page has);
        in_use = λ u. (
          λ yes. elim (some_of (refs u)) [
            | inl some ↦ omega (arith, named_owned u some)
            | inr none ↦ omega (arith, (is.in_use u).0 yes, none)
          ],
          λ some. (is.in_use u).1 (elim (some_of (named_by u)) [
            | inl named ↦ omega (arith, owned_named u named)
            | inr none ↦ omega (arith, some, none)
          ]),
        );
        apart = λ page has. elim (some_of (named_by page)) [
          | inl some ↦ absurd (omega (arith, is.apart page has, owned_named page some))
          | inr none ↦ none
        ];
      }

  -- ---- what has an owner is neither in the log nor changed by the transaction

  module _ (rows : List WorkingRow) (logs : (page : ℕ) → times page (logged_pages d working) ≡ 0 → logged d.records page ≡ None)
      (changes : (page : ℕ) (image : List ℕ) → times page (logged_pages d working) ≡ 0 → lookup (nat_eq page) rows ≢ Some (Some image)) where
    unlogged : (u : ℕ) → 1 ≤ named_by u → times u (logged_pages d working) ≡ 0
    unlogged u some = owned_apart d.geometry (home d.geometry disk) used named_by (logged_pages d working) (root_pages roots_shown) owned_shown u some

    -- two units that are the same as pages
    same_page : (left right : ℕ → List ℕ) (u : ℕ) → left u ≡ right u → cond (nat_lt u (area_end d.geometry)) (left u) (leaf_at d.geometry disk u) ≡ cond (nat_lt u (area_end d.geometry)) (right u) (leaf_at d.geometry disk u)
    same_page left right u same = ap (λ (bytes : List ℕ). cond (nat_lt u (area_end d.geometry)) bytes (leaf_at d.geometry disk u)) same

    after_page : (u : ℕ) → 1 ≤ named_by u → after_log d.geometry d.records disk u ≡ page_at d.geometry disk u
    after_page u some = ap (λ (o : Option (List ℕ)). unwrap_or o (page_at d.geometry disk u)) (logs u (unlogged u some))

    after_home : (u : ℕ) → 1 ≤ named_by u → units_of d disk u ≡ home d.geometry disk u
    after_home u some = same_page (after_log d.geometry d.records disk) (page_at d.geometry disk) u (after_page u some)

    laid_page : (u : ℕ) (row : Option (Option (List ℕ))) → lookup (nat_eq u) rows ≡ row → 1 ≤ named_by u
        → laid_over_page (after_log d.geometry d.records disk u) (page_at d.geometry disk u) row ≡ page_at d.geometry disk u
    laid_page u None is some = after_page u some
    laid_page u (Some None) is some = refl
    laid_page u (Some (Some image)) is some = absurd (changes u image (unlogged u some) is)

    working_home : (u : ℕ) → 1 ≤ named_by u → working_units d disk rows u ≡ home d.geometry disk u
    working_home u some =
        ap (λ (bytes : List ℕ). cond (nat_lt u (area_end d.geometry)) bytes (leaf_at d.geometry disk u)) (laid_page u (lookup (nat_eq u) rows) refl some)

    -- The trees of roots that are named are over these units what they are at home.
    pub trees_at_home : (over : Units) → ((u : ℕ) → 1 ≤ named_by u → over u ≡ home d.geometry disk u) → (rs : List Root) → AreNamed d.geometry over rs → ((u : ℕ) → 1 ≤ times u (root_pages rs) → 1 ≤ times u (root_pages roots_shown))
        → AllByRecursion (RootKept over (home d.geometry disk)) rs
    trees_at_home over same rs named own =
        roots_kept d.geometry (home d.geometry disk) used named_by (logged_pages d working) (root_pages roots_shown) owned_shown over (home d.geometry disk)
        (λ u behind some. same u some) (λ u behind some. sym (same u some)) rs named (λ u has. omega (arith, own u has))

    module _ (committed : AreNamed d.geometry (units_of d disk) (committed_roots d)) (worked : AreNamed d.geometry (working_units d disk rows) (roots_in (stored_in working)))
        (scanned : AreNamed d.geometry (home d.geometry disk) scans) where
      committed_kept : AllByRecursion (RootKept (units_of d disk) (home d.geometry disk)) (committed_roots d)
      committed_kept = trees_at_home (units_of d disk) after_home (committed_roots d) committed (λ u has. omega (arith, has, roots_of u))

      pub working_kept : AllByRecursion (RootKept (working_units d disk rows) (home d.geometry disk)) (roots_in (stored_in working))
      working_kept = trees_at_home (working_units d disk rows) working_home (roots_in (stored_in working)) worked (λ u has. omega (arith, has, roots_of u))

      named_home : (over : Units) (rs : List Root) → AllByRecursion (RootKept over (home d.geometry disk)) rs → AreNamed d.geometry over rs → AreNamed d.geometry (home d.geometry disk) rs
      named_home over rs kept named =
          each_with (RootKept over (home d.geometry disk)) (λ (root : Root). RootNamed d.geometry over root.height root.page) (λ (root : Root). RootNamed d.geometry (home d.geometry disk) root.height root.page) rs
          (λ root k n. named_root d.geometry over (home d.geometry disk) root.height root.page k n) kept named

      all_named_home : AreNamed d.geometry (home d.geometry disk) roots_shown
      all_named_home =
          let P = λ (root : Root). RootNamed d.geometry (home d.geometry disk) root.height root.page in
          each-append P (committed_roots d ++ roots_in (stored_in working)) scans
          (each-append P (committed_roots d) (roots_in (stored_in working)) (named_home (units_of d disk) (committed_roots d) committed_kept committed) (named_home (working_units d disk rows) (roots_in (stored_in working)) working_kept worked))
          scanned

      same_trees : (over : Units) (rs : List Root) → AllByRecursion (RootKept over (home d.geometry disk)) rs → flat_map (root_units (home d.geometry disk)) rs ≡ flat_map (root_units over) rs
      same_trees over rs kept =
          flat_same (root_units over) (root_units (home d.geometry disk)) (RootKept over (home d.geometry disk)) rs (λ root k. units_of_root over (home d.geometry disk) root.height root.page k) kept

      -- how often a unit stands in the trees at home
      trees_of : (u : ℕ) → times u (flat_map (root_units (home d.geometry disk)) roots_shown)
          ≡ times u (flat_map (root_units (units_of d disk)) (committed_roots d)) + times u (flat_map (root_units (working_units d disk rows)) (roots_in (stored_in working))) + times u (flat_map (root_units (home d.geometry disk)) scans)
      trees_of u =
          omega (
            arith,
            times_joined u (root_units (home d.geometry disk)) (committed_roots d) (roots_in (stored_in working)) scans,
            ap (times u) (same_trees (units_of d disk) (committed_roots d) committed_kept),
            ap (times u) (same_trees (working_units d disk rows) (roots_in (stored_in working)) working_kept),
          )

      pub exact_trees : (u : ℕ) → (used u ≡ true) ↔ (1 ≤ times u (logged_pages d working)
          + (times u (flat_map (root_units (units_of d disk)) (committed_roots d)) + times u (flat_map (root_units (working_units d disk rows)) (roots_in (stored_in working))) + times u (flat_map (root_units (home d.geometry disk)) scans)))
      exact_trees u =
          let small : d.geometry.fan ≤ 340 = omega (arith, most_page d.geometry, d.geometry.narrow) in
          let exact = exact_reach d.geometry (home d.geometry disk) used named_by (logged_pages d working) roots_shown small owned_shown all_named_home u in
          let sum = times-append u (logged_pages d working) (flat_map (root_units (home d.geometry disk)) roots_shown) in
          (λ yes. omega (arith, exact.0 yes, sum, trees_of u), λ some. exact.1 (omega (arith, some, sum, trees_of u)))

      pub trees_owned : (u : ℕ) → 1 ≤ times u (flat_map (root_units (units_of d disk)) (committed_roots d)) + times u (flat_map (root_units (working_units d disk rows)) (roots_in (stored_in working))) + times u (flat_map (root_units (home d.geometry disk)) scans)
          → times u (logged_pages d working) ≡ 0
      trees_owned u some =
          let small : d.geometry.fan ≤ 340 = omega (arith, most_page d.geometry, d.geometry.narrow) in
          unlogged u (reached_owned d.geometry (home d.geometry disk) used named_by (logged_pages d working) roots_shown small owned_shown all_named_home u (omega (arith, some, trees_of u)))

-- ---- of a view

-- what the log has an image of is a logged page
pub log_apart : (d : Decoded) (v : View Held) (working : Volume) → OverlayShown d v → (page : ℕ) → times page (logged_pages d working) ≡ 0 → logged d.records page ≡ None
log_apart d v working overlay page none = by (logged d.records page) refl
  where
    by : (o : Option (List ℕ)) → logged d.records page ≡ o → logged d.records page ≡ None
    by None is = is
    by (Some image) is = ⊎_elim
        (λ (same : page ≡ catalog_no). absurd (omega (arith, none, times_here page catalog_no (file_pages d.volume) same, times-append page (catalog_no ∷ file_pages d.volume) (file_pages working))))
        (λ (filed : Contains (file_pages d.volume) page).
        absurd (omega (arith, none, contains_times page (file_pages d.volume) filed, times-append page (catalog_no ∷ []) (file_pages d.volume), times-append page (catalog_no ∷ file_pages d.volume) (file_pages working))))
        (found_is (λ (row : PageRow). (row.0 ≡ catalog_no) ⊎ Contains (file_pages d.volume) row.0) v.session.overlay page image overlay.pages (overlay.just page ∙ is))

-- and so is what the transaction has one of
pub rows_apart : (d : Decoded) (working : Volume) (rows : List WorkingRow) → AllByRecursion (IsWorkingPage working) rows → (page : ℕ) (image : List ℕ) → times page (logged_pages d working) ≡ 0 → lookup (nat_eq page) rows ≢ Some (Some image)
rows_apart d working rows images page image none is = ⊎_elim
    (λ (same : page ≡ catalog_no). absurd (omega (arith, none, times_here page catalog_no (file_pages d.volume) same, times-append page (catalog_no ∷ file_pages d.volume) (file_pages working))))
    (λ (filed : Contains (file_pages working) page). absurd (omega (arith, none, contains_times page (file_pages working) filed, times-append page (catalog_no ∷ file_pages d.volume) (file_pages working))))
    (found_is (IsWorkingPage working) rows page (Some image) images is refl)

module _ (d : Decoded) (v : View Held) (working : Volume) (owners : OwnersOf d v working)
    (overlay : OverlayShown d v) (images : AllByRecursion (IsWorkingPage working) v.session.working_pages) (committed : AreNamed d.geometry (units_of d v.disk) (committed_roots d))
    (worked : AreNamed d.geometry (working_units d v.disk v.session.working_pages) (roots_in (stored_in working))) (scanned : AreNamed d.geometry (home d.geometry v.disk) (roots_here v.session.scans)) where
  trees_in_view : (u : ℕ) → times u (trees_of_view d v working)
      ≡ times u (flat_map (root_units (units_of d v.disk)) (committed_roots d)) + times u (flat_map (root_units (working_units d v.disk v.session.working_pages)) (roots_in (stored_in working)))
      + times u (flat_map (root_units (home d.geometry v.disk)) (roots_here v.session.scans))
  trees_in_view u =
      let first = flat_map (root_units (units_of d v.disk)) (committed_roots d) in
      let second = flat_map (root_units (working_units d v.disk v.session.working_pages)) (roots_in (stored_in working)) in
      let third = flat_map (root_units (home d.geometry v.disk)) (roots_here v.session.scans) in
      omega (arith, times-append u (first ++ second) third, times-append u first second)

  -- A unit is used exactly where the committed pages, the working pages or the open scans reach it.
  pub exact_view : (unit : ℕ) → (v.session.used unit ≡ true) ↔ Contains (reach_of_view d v working) unit
  exact_view unit =
      let exact = exact_trees d v.session.used v.session.refs v.session.gained v.session.lost (roots_here v.session.scans) v.disk working owners v.session.working_pages (log_apart d v working overlay) (rows_apart d working v.session.working_pages images) committed worked scanned unit in
      let first = flat_map (root_units (units_of d v.disk)) (committed_roots d) in
      let second = flat_map (root_units (working_units d v.disk v.session.working_pages)) (roots_in (stored_in working)) in
      let third = flat_map (root_units (home d.geometry v.disk)) (roots_here v.session.scans) in
      let one = catalog_no ∷ file_pages d.volume in
      let two = catalog_no ∷ file_pages working in
      let all : times unit (reach_of_view d v working) ≡ times unit one + times unit first + (times unit two + times unit second) + times unit third =
      omega (arith, times-append unit ((one ++ first) ++ (two ++ second)) third, times-append unit (one ++ first) (two ++ second), times-append unit one first, times-append unit two second) in
      let pages : times unit (logged_pages d working) ≡ times unit one + times unit (file_pages working) = times-append unit one (file_pages working) in
      let twice : times unit two ≡ times unit (catalog_no ∷ []) + times unit (file_pages working) = times-append unit (catalog_no ∷ []) (file_pages working) in
      let front : times unit one ≡ times unit (catalog_no ∷ []) + times unit (file_pages d.volume) = times-append unit (catalog_no ∷ []) (file_pages d.volume) in (
        λ yes. times_contains unit (reach_of_view d v working) (omega (arith, exact.0 yes, all, pages, twice, front)),
        λ reached. exact.1 (omega (arith, contains_times unit (reach_of_view d v working) reached, all, pages, twice, front)),
      )

  -- No page of a file lies in a tree.
  pub no_page_in_tree : (page : ℕ) → Contains (file_pages d.volume ++ file_pages working) page → ¬ Contains (trees_of_view d v working) page
  no_page_in_tree page filed tree =
      let none = trees_owned d v.session.used v.session.refs v.session.gained v.session.lost (roots_here v.session.scans) v.disk working owners v.session.working_pages (log_apart d v working overlay) (rows_apart d working v.session.working_pages images) committed worked scanned page
      (omega (arith, contains_times page (trees_of_view d v working) tree, trees_in_view page)) in
      absurd (omega (
        arith,
        none,
        contains_times page (file_pages d.volume ++ file_pages working) filed,
        times-append page (file_pages d.volume) (file_pages working),
        times-append page (catalog_no ∷ []) (file_pages d.volume),
        times-append page (catalog_no ∷ file_pages d.volume) (file_pages working),
      ))

-- ---- of a view that shows

-- the roots of scans that show their bytes are named
pub scans_named : (g : Geometry) (units : Units) (rows : List ScanRow) (scans : List HeldScan) → AllZip (ScanShown g units) rows scans → AreNamed g units (roots_here scans)
scans_named g units [] [] shown = tt
scans_named g units [] (scan ∷ scans) shown = absurd shown
scans_named g units (row ∷ rows) [] shown = tt
scans_named g units (row ∷ rows) (scan ∷ scans) shown =
    each-append (λ (root : Root). RootNamed g units root.height root.page) (root_here scan.root) (roots_here scans) (one row.bytes scan.small scan.root shown.0.bytes) (scans_named g units rows scans shown.1)
  where
    one : (bytes small : List ℕ) (root : Option Root) → BytesShown g units bytes small root → AreNamed g units (root_here root)
    one bytes small None shown = tt
    one bytes small (Some root) shown = (shown.0.named, tt)

working_named : (d : Decoded) (v : View Held) (working : Volume) (table : Option Table) → AreNamed d.geometry (units_of d v.disk) (committed_roots d) → WorkingShown d v working table
    → AreNamed d.geometry (working_units d v.disk v.session.working_pages) (roots_in (stored_in working))
working_named d v working None committed shown =
    subst (λ (rows : List WorkingRow). AreNamed d.geometry (working_units d v.disk rows) (roots_in (stored_in working))) (sym shown.0)
    (subst (λ (w : Volume). AreNamed d.geometry (units_of d v.disk) (roots_in (stored_in w))) (sym shown.1) committed)
working_named d v working (Some table) committed shown = shown.parts.1.1.1.1.0.named

module _ (d : Decoded) (v : View Held) (working : Volume) (owners : OwnersOf d v working) (trees : TreesShown d v working) where
  committed_named : AreNamed d.geometry (units_of d v.disk) (committed_roots d)
  committed_named = trees.parts.1.1.1.1.1.1.0.named

  -- Just the units that it reaches are used,
  pub exact_shown : (unit : ℕ) → (v.session.used unit ≡ true) ↔ Contains (reach_of_view d v working) unit
  exact_shown =
      exact_view d v working owners trees.overlay trees.images committed_named (working_named d v working v.machine.working committed_named trees.working_shown)
      (scans_named d.geometry (home d.geometry v.disk) v.machine.scans v.session.scans trees.scans)

  -- and no page of a file lies in a tree.
  pub no_page_shown : (page : ℕ) → Contains (file_pages d.volume ++ file_pages working) page → ¬ Contains (trees_of_view d v working) page
  no_page_shown =
      no_page_in_tree d v working owners trees.overlay trees.images committed_named (working_named d v working v.machine.working committed_named trees.working_shown)
      (scans_named d.geometry (home d.geometry v.disk) v.machine.scans v.session.scans trees.scans)

  -- The trees of the working volume are at home what they are over the working pages.
  pub working_at_home : AllByRecursion (RootKept (working_units d v.disk v.session.working_pages) (home d.geometry v.disk)) (roots_in (stored_in working))
  working_at_home =
      working_kept d v.session.used v.session.refs v.session.gained v.session.lost (roots_here v.session.scans) v.disk working owners v.session.working_pages (log_apart d v working trees.overlay)
      (rows_apart d working v.session.working_pages trees.images) committed_named (working_named d v working v.machine.working committed_named trees.working_shown)
      (scans_named d.geometry (home d.geometry v.disk) v.machine.scans v.session.scans trees.scans)
