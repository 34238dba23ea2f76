-- Owners of units where logged pages are freed: at the end of an update, at a commit and at an abort.
use Rattle.std.proofs.Common.{◌≡◌, inl, inr, ℕ, ◌+◌, ◌≤◌, Bool, List, [], ◌∷◌, ◌++◌, refl, arith}
use Rattle.std.specs.Prelude.{Contains}
use Rattle.ex_base.specs.declared.names.Root.{Root}
use Rattle.ex_base.specs.Area.{InPageArea, catalog_no}
use Rattle.ex_base.specs.Ports.{times}
use Rattle.ex_base.proofs.Counts.{contains_times, times-append, times_contains}
use Rattle.op_log.specs.declared.record.LogRecord.{LogRecord}
use Rattle.session_views.specs.View.{View}
use Rattle.trees.specs.Owners.{IsOwned, page_here, root_pages}
use Rattle.trees.specs.Trees.{Units}
use Rattle.trees.proofs.Owned.{some_of}
use Rattle.trees.proofs.OwnedTrees.{owned_apart}
use Rattle.volume_model.specs.Committed.{HomesStay, with_records}
use Rattle.volume_model.specs.Homes.{home}
use Rattle.volume_model.specs.OwnersMoved.{PagesGo}
use Rattle.volume_model.specs.OwnersShown.{OwnersShown, committed_roots, logged_pages, roots_held}
use Rattle.volume_model.specs.Shown.{Held, OverlayShown}
use Rattle.volume_model.specs.Volume.{Decoded, Volume, file_pages, roots_in, stored_in}
use Rattle.volume_model.proofs.ExactView.{log_apart, times_joined}
use Rattle.volume_model.proofs.OwnersAlike.{pages_leave, roots_same}
use Rattle.volume_model.proofs.OwnersTurned.{pages_both}

none_there : (u : ℕ) (xs : List ℕ) → ¬ Contains xs u → times u xs ≡ 0
none_there u xs lacks = elim (some_of (times u xs)) [ inl some ↦ absurd (lacks (times_contains u xs some)) | inr none ↦ none ]

lacks_of : (u : ℕ) (xs : List ℕ) → times u xs ≡ 0 → ¬ Contains xs u
lacks_of u xs none has = absurd (omega (arith, none, contains_times u xs has))

-- how often a page is logged
logged_times : (u : ℕ) (d : Decoded) (working : Volume) → times u (logged_pages d working) ≡ times u (catalog_no ∷ []) + times u (file_pages d.volume) + times u (file_pages working)
logged_times u d working =
    omega (arith, times-append u (catalog_no ∷ file_pages d.volume) (file_pages working), times-append u (catalog_no ∷ []) (file_pages d.volume))

-- the catalog and pages of files
front_times : (u : ℕ) (pages : List ℕ) → times u (catalog_no ∷ pages) ≡ times u (catalog_no ∷ []) + times u pages
front_times u pages = times-append u (catalog_no ∷ []) pages

-- ---- the end of an update

-- The pages of the working files that were given back are freed, but for committed ones.
pub swept : (d : Decoded) (working now : Volume) (units : Units) (used left : ℕ → Bool) (refs : ℕ → ℕ) (roots : List ℕ) → IsOwned d.geometry units used refs (logged_pages d working ++ file_pages now) roots
    → PagesGo used left refs (file_pages working) (logged_pages d now) → IsOwned d.geometry units left refs (logged_pages d now) roots
swept d working now units used left refs roots is go =
    pages_leave d.geometry units used refs (logged_pages d working ++ file_pages now) roots is units left (logged_pages d now) (record {
      kept = λ u area some. refl;
      fewer = λ u has. omega (arith, has, all u, logged_times u d working, logged_times u d now);
      still = go.still;
      freed = λ u was free. (let f = go.freed u was free in (f.0, none_there u (logged_pages d now) f.1));
      all = λ u has none. go.all u (times_contains u (file_pages working) (omega (arith, has, none, all u, logged_times u d working, logged_times u d now))) (lacks_of u (logged_pages d now) none);
    })
  where
    all : (u : ℕ) → times u (logged_pages d working ++ file_pages now) ≡ times u (logged_pages d working) + times u (file_pages now)
    all u = times-append u (logged_pages d working) (file_pages now)

module _ (d : Decoded) (scans : List Root) (working : Volume) where
  -- ---- a commit

  -- The roots that the transaction lost stand first, and behind them those that the working volume and the scans have.
  pub lost_first : (used : ℕ → Bool) (refs : ℕ → ℕ) (gained lost : List Root) (disk : List ℕ) → OwnersShown d used refs gained lost scans disk working
      → IsOwned d.geometry (home d.geometry disk) used refs (logged_pages d working) (root_pages lost ++ root_pages (roots_in (stored_in working) ++ scans))
  lost_first used refs gained lost disk owners =
      roots_same d.geometry (home d.geometry disk) used refs (logged_pages d working) (root_pages (roots_held d gained scans)) (root_pages lost ++ root_pages (roots_in (stored_in working) ++ scans)) owners.owned
      (λ u. omega (
        arith,
        owners.turned u,
        times_joined u (λ (root : Root). page_here root.page) (committed_roots d) gained scans,
        times-append u (root_pages lost) (root_pages (roots_in (stored_in working) ++ scans)),
        pages_both u (roots_in (stored_in working)) scans,
      ))

  -- What has an owner is at home on the later disk as before.
  pub homes_owned : (v : View Held) → OverlayShown d v → (used : ℕ → Bool) (refs : ℕ → ℕ) (roots disk later : List ℕ) → IsOwned d.geometry (home d.geometry disk) used refs (logged_pages d working) roots
      → HomesStay d disk later → (u : ℕ) → InPageArea d.geometry u → 1 ≤ refs u → home d.geometry later u ≡ home d.geometry disk u
  homes_owned v overlay used refs roots disk later is stay u area some =
      stay u area.0 (log_apart d v working overlay u (owned_apart d.geometry (home d.geometry disk) used refs (logged_pages d working) roots is u some))

  -- Once those are given up and the pages of committed files that the working ones lack are freed, the working volume is the committed one.
  pub committed : (records : List LogRecord) (used left : ℕ → Bool) (refs : ℕ → ℕ) (disk later : List ℕ) → IsOwned d.geometry (home d.geometry disk) used refs (logged_pages d working) (root_pages (roots_in (stored_in working) ++ scans))
      → ((u : ℕ) → InPageArea d.geometry u → 1 ≤ refs u → home d.geometry later u ≡ home d.geometry disk u) → PagesGo used left refs (file_pages d.volume) (catalog_no ∷ file_pages working)
      → OwnersShown (with_records d records working) left refs [] [] scans later working
  committed records used left refs disk later is stay go =
      let rest = logged_pages (with_records d records working) working in
      let rests : (u : ℕ) → times u rest ≡ times u (catalog_no ∷ []) + times u (file_pages working) + times u (file_pages working) = λ u. logged_times u (with_records d records working) working in
      record {
        owned = roots_same d.geometry (home d.geometry later) left refs rest (root_pages (roots_in (stored_in working) ++ scans)) (root_pages (roots_held (with_records d records working) [] scans))
            (pages_leave d.geometry (home d.geometry disk) used refs (logged_pages d working) (root_pages (roots_in (stored_in working) ++ scans)) is (home d.geometry later) left rest (record {
              kept = stay;
              fewer = λ u has. omega (arith, has, rests u, logged_times u d working);
              still = go.still;
              freed = λ u was free. (let f = go.freed u was free in (f.0, omega (arith, none_there u (catalog_no ∷ file_pages working) f.1, rests u, front_times u (file_pages working))));
              all = λ u has none.
                  go.all u (times_contains u (file_pages d.volume) (omega (arith, has, none, rests u, logged_times u d working)))
                  (lacks_of u (catalog_no ∷ file_pages working) (omega (arith, none, rests u, front_times u (file_pages working))));
            }))
            (λ u. omega (arith, times_joined u (λ (root : Root). page_here root.page) (roots_in (stored_in working)) [] scans, pages_both u (roots_in (stored_in working)) scans));
        turned = λ u. omega arith;
        was_committed = λ u. omega arith;
        gained_whole = tt;
        lost_whole = tt;
      }

  -- ---- an abort

  -- The roots that the transaction gained stand first, and behind them those that the committed volume and the scans have.
  pub gained_first : (used : ℕ → Bool) (refs : ℕ → ℕ) (gained lost : List Root) (disk : List ℕ) → OwnersShown d used refs gained lost scans disk working
      → IsOwned d.geometry (home d.geometry disk) used refs (logged_pages d working) (root_pages gained ++ root_pages (committed_roots d ++ scans))
  gained_first used refs gained lost disk owners =
      roots_same d.geometry (home d.geometry disk) used refs (logged_pages d working) (root_pages (roots_held d gained scans)) (root_pages gained ++ root_pages (committed_roots d ++ scans)) owners.owned
      (λ u. omega (
        arith,
        times_joined u (λ (root : Root). page_here root.page) (committed_roots d) gained scans,
        times-append u (root_pages gained) (root_pages (committed_roots d ++ scans)),
        pages_both u (committed_roots d) scans,
      ))

  -- Once those are given up and the pages of the working files that the committed ones lack are freed, the committed volume is the working one.
  pub aborted : (used left : ℕ → Bool) (refs : ℕ → ℕ) (disk : List ℕ) → IsOwned d.geometry (home d.geometry disk) used refs (logged_pages d working) (root_pages (committed_roots d ++ scans))
      → PagesGo used left refs (file_pages working) (catalog_no ∷ file_pages d.volume) → OwnersShown d left refs [] [] scans disk d.volume
  aborted used left refs disk is go =
      let rest = logged_pages d d.volume in
      let rests : (u : ℕ) → times u rest ≡ times u (catalog_no ∷ []) + times u (file_pages d.volume) + times u (file_pages d.volume) = λ u. logged_times u d d.volume in
      record {
        owned = roots_same d.geometry (home d.geometry disk) left refs rest (root_pages (committed_roots d ++ scans)) (root_pages (roots_held d [] scans))
            (pages_leave d.geometry (home d.geometry disk) used refs (logged_pages d working) (root_pages (committed_roots d ++ scans)) is (home d.geometry disk) left rest (record {
              kept = λ u area some. refl;
              fewer = λ u has. omega (arith, has, rests u, logged_times u d working);
              still = go.still;
              freed = λ u was free. (let f = go.freed u was free in (f.0, omega (arith, none_there u (catalog_no ∷ file_pages d.volume) f.1, rests u, front_times u (file_pages d.volume))));
              all = λ u has none.
                  go.all u (times_contains u (file_pages working) (omega (arith, has, none, rests u, logged_times u d working)))
                  (lacks_of u (catalog_no ∷ file_pages d.volume) (omega (arith, none, rests u, front_times u (file_pages d.volume))));
            }))
            (λ u. omega (arith, times_joined u (λ (root : Root). page_here root.page) (committed_roots d) [] scans, pages_both u (committed_roots d) scans));
        turned = λ u. omega arith;
        was_committed = λ u. omega arith;
        gained_whole = tt;
        lost_whole = tt;
      }
