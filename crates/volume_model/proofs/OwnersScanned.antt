-- Owners of units where a scan of a version of the working volume is opened, and where a scan is closed.
use Rattle.std.proofs.Common.{◌≡◌, ◌≢◌, inl, inr, ℕ, ◌+◌, ◌≤◌, ◌<◌, Bool, true, List, [], ◌∷◌, ◌++◌, length, Option, Some, None, arith}
use Rattle.std.specs.List.{AllByRecursion, AllZip}
use Rattle.ex_base.specs.Area.{catalog_no}
use Rattle.ex_base.specs.declared.names.Root.{Root}
use Rattle.ex_base.specs.Ports.{refs_most, times}
use Rattle.ex_base.proofs.Counts.{contains_times, times-append, times_here}
use Rattle.ex_base.proofs.Each.{each_from}
use Rattle.ex_base.proofs.Rows.{each-append}
use Rattle.session_views.specs.View.{View}
use Rattle.table_model.specs.declared.machine.ScanRow.{ScanRow}
use Rattle.trees.specs.Damage.{IsWhole}
use Rattle.trees.specs.Owners.{IsOwned, page_here, root_pages}
use Rattle.trees.specs.Shown.{BytesShown}
use Rattle.trees.specs.Trees.{RootSpells, root_units}
use Rattle.trees.proofs.FewOwners.{references_below_end}
use Rattle.trees.proofs.Owned.{some_of}
use Rattle.trees.proofs.OwnedTrees.{owned_apart}
use Rattle.volume_model.specs.Held.{HeldScan, root_here, roots_here}
use Rattle.volume_model.specs.Homes.{home}
use Rattle.volume_model.specs.OwnersMoved.{roots_most}
use Rattle.volume_model.specs.OwnersShown.{OwnersOf, OwnersShown, committed_roots, logged_pages, roots_held}
use Rattle.volume_model.specs.Shown.{Held, ScanShown}
use Rattle.volume_model.specs.Volume.{Decoded, Volume, file_pages, roots_in, stored_in}
use Rattle.volume_model.proofs.ExactView.{times_joined}
use Rattle.volume_model.proofs.OwnersAlike.{roots_same}
use Rattle.volume_model.proofs.OwnersMade.{tree_owned}
use Rattle.volume_model.proofs.OwnersTurned.{pages_both, working_own}
use Rattle.volume_model.proofs.ScansKept.{roots_more}

module _ (d : Decoded) (used : ℕ → Bool) (refs : ℕ → ℕ) (gained lost scans : List Root) (disk : List ℕ) (working : Volume) (owners : OwnersShown d used refs gained lost scans disk working) (root : Option Root) where
  -- how often a unit is the page of the root
  abbrev here : ℕ → ℕ
  here u = times u (root_pages (root_here root))

  pages_of : (u : ℕ) (some : List Root) → times u (root_pages (roots_held d gained some)) ≡ times u (root_pages (committed_roots d)) + times u (root_pages gained) + times u (root_pages some)
  pages_of u some = times_joined u (λ (r : Root). page_here r.page) (committed_roots d) gained some

  -- ---- a scan is opened of a version of the working volume

  module _ (there : (u : ℕ) → 1 ≤ here u → 1 ≤ times u (root_pages (roots_in (stored_in working)))) where
    -- its root has an owner,
    pub root_owned : (u : ℕ) → 1 ≤ here u → 1 ≤ refs u
    root_owned u has = working_own d used refs gained lost scans disk working owners u (there u has)

    -- so its page is in use,
    pub root_used : (u : ℕ) → 1 ≤ here u → used u ≡ true
    root_used u has = (owners.owned.in_use u).1 (omega (arith, root_owned u has))

    owned_with : (counts : ℕ → ℕ) → ((u : ℕ) → counts u ≡ refs u + here u) → IsOwned d.geometry (home d.geometry disk) used counts (logged_pages d working) (root_pages (roots_held d gained (scans ++ root_here root)))
    owned_with counts count_of =
        let is = owners.owned in
        record {
          nodes = is.nodes;
          inner = is.inner;
          once = is.once;
          owners = λ u. omega (arith, count_of u, is.owners u, pages_of u scans, pages_of u (scans ++ root_here root), pages_both u scans (root_here root));
          listed = λ page area some. is.listed page area (before page some);
          owned = λ page has. omega (arith, count_of page, is.owned page has);
          in_use = λ u. (
            λ yes. omega (arith, (is.in_use u).0 yes, count_of u),
            λ some. (is.in_use u).1 (elim (some_of (refs u)) [
              | inl had ↦ omega (arith, had)
              | inr none ↦ elim (some_of (here u)) [
                | inl has ↦ omega (arith, root_owned u has)
                | inr away ↦ omega (arith, some, count_of u, none, away)
              ]
            ]),
          );
          apart = λ page has. elim (some_of (here page)) [
            | inl some ↦ absurd (omega (arith, is.apart page has, root_owned page some))
            | inr none ↦ omega (arith, count_of page, is.apart page has, none)
          ];
        }
      where
        before : (u : ℕ) → 1 ≤ counts u → 1 ≤ refs u
        before u some = elim (some_of (here u)) [
          | inl has ↦ root_owned u has
          | inr none ↦ omega (arith, some, count_of u, none)
        ]

    -- and the count of an owner more is that of a root more.
    pub opened : (counts : ℕ → ℕ) → ((u : ℕ) → counts u ≡ refs u + here u) → OwnersShown d used counts gained lost (scans ++ root_here root) disk working
    opened counts count_of = record {
      owned = owned_with counts count_of;
      turned = owners.turned;
      was_committed = owners.was_committed;
      gained_whole = owners.gained_whole;
      lost_whole = owners.lost_whole;
    }

  -- where roots are few, no count is at its end
  pub few_scanned : length (root_pages (roots_held d gained scans)) ≤ roots_most → (u : ℕ) → refs u < refs_most
  few_scanned few u = references_below_end d.geometry (home d.geometry disk) used refs (logged_pages d working) (root_pages (roots_held d gained scans)) u owners.owned few

  -- ---- a scan is closed

  module _ (others : List Root) (without : (u : ℕ) → times u (root_pages others) + here u ≡ times u (root_pages scans)) where
    -- The scan's root stands first, and behind it those that are left.
    pub scan_first : IsOwned d.geometry (home d.geometry disk) used refs (logged_pages d working) (root_pages (root_here root) ++ root_pages (roots_held d gained others))
    scan_first =
        roots_same d.geometry (home d.geometry disk) used refs (logged_pages d working) (root_pages (roots_held d gained scans)) (root_pages (root_here root) ++ root_pages (roots_held d gained others)) owners.owned
        (λ u. omega (arith, without u, pages_of u scans, pages_of u others, times-append u (root_pages (root_here root)) (root_pages (roots_held d gained others))))

    -- Once its tree is given up, those own what is left.
    pub closed : (left : ℕ → Bool) (fewer : ℕ → ℕ) → IsOwned d.geometry (home d.geometry disk) left fewer (logged_pages d working) (root_pages (roots_held d gained others)) → OwnersShown d left fewer gained lost others disk working
    closed left fewer owned = record {
      owned = owned;
      turned = owners.turned;
      was_committed = owners.was_committed;
      gained_whole = owners.gained_whole;
      lost_whole = owners.lost_whole;
    }

-- ---- the trees of scans are whole

module _ (d : Decoded) (used : ℕ → Bool) (refs : ℕ → ℕ) (gained lost scans : List Root) (disk : List ℕ) (working : Volume) (owners : OwnersShown d used refs gained lost scans disk working) where
  -- The tree of a root that is an owner and spells bytes is whole: the catalog, which is logged, has no owner.
  pub tree_whole : (root : Root) (bytes : List ℕ) → ((u : ℕ) → 1 ≤ times u (root_pages (root_here (Some root))) → 1 ≤ refs u) → RootSpells d.geometry (home d.geometry disk) root bytes → IsWhole d.geometry (home d.geometry disk) root
  tree_whole root bytes own spells =
      let units = home d.geometry disk in
      let all = root_pages (roots_held d gained scans) in
      record {
        bytes = bytes;
        spells = spells;
        avoids = each_from (λ p. p ≢ catalog_no) (root_units units root) (λ u has same. absurd (
            let owned = tree_owned d.geometry units used refs (logged_pages d working) all owners.owned (Some root) (spells.named, tt) own u (omega (arith, contains_times u (root_units units root) has, times-append u (root_units units root) [])) in
            omega (
              arith,
              owned_apart d.geometry units used refs (logged_pages d working) all owners.owned u owned,
              times_here u catalog_no (file_pages d.volume) same,
              times-append u (catalog_no ∷ file_pages d.volume) (file_pages working),
            )
            ));
      }

  pub scan_own : (u : ℕ) → 1 ≤ times u (root_pages scans) → 1 ≤ refs u
  scan_own u has = omega (arith, has, owners.owned.owners u, times_joined u (λ (r : Root). page_here r.page) (committed_roots d) gained scans)

  each_whole : (rows : List ScanRow) (held : List HeldScan) → ((u : ℕ) → 1 ≤ times u (root_pages (roots_here held)) → 1 ≤ refs u) → AllZip (ScanShown d.geometry (home d.geometry disk)) rows held
      → AllByRecursion (IsWhole d.geometry (home d.geometry disk)) (roots_here held)
  each_whole [] [] own shown = tt
  each_whole [] (scan ∷ held) own shown = absurd shown
  each_whole (row ∷ rows) [] own shown = tt
  each_whole (row ∷ rows) (scan ∷ held) own shown =
      each-append (IsWhole d.geometry (home d.geometry disk)) (root_here scan.root) (roots_here held) (one row.bytes scan.small scan.root (λ u has. own u (omega (arith, has, roots_more u scan held))) shown.0.bytes)
      (each_whole rows held (λ u has. own u (omega (arith, has, roots_more u scan held))) shown.1)
    where
      one : (bytes small : List ℕ) (root : Option Root) → ((u : ℕ) → 1 ≤ times u (root_pages (root_here root)) → 1 ≤ refs u) → BytesShown d.geometry (home d.geometry disk) bytes small root
          → AllByRecursion (IsWhole d.geometry (home d.geometry disk)) (root_here root)
      one bytes small None own shown = tt
      one bytes small (Some root) own shown = (tree_whole root bytes own shown.0, tt)

pub scans_whole : (d : Decoded) (v : View Held) (working : Volume) → OwnersOf d v working → AllZip (ScanShown d.geometry (home d.geometry v.disk)) v.machine.scans v.session.scans
    → AllByRecursion (IsWhole d.geometry (home d.geometry v.disk)) (roots_here v.session.scans)
scans_whole d v working owners shown =
    let s = v.session in
    let roots = roots_here s.scans in
    each_whole d s.used s.refs s.gained s.lost roots v.disk working owners v.machine.scans s.scans (scan_own d s.used s.refs s.gained s.lost roots v.disk working owners) shown
