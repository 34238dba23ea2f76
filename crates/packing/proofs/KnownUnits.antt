-- What is in use, where each unit of a volume at rest has as many references as owners, is what the volume reaches.
use Rattle.std.proofs.Common.{◌≡◌, ◌↔◌, ◌+◌, ℕ, Bool, true, List, [], ◌∷◌, ◌++◌, refl, subst, sym, arith}
use Rattle.std.specs.Prelude.{Contains}
use Rattle.std.proofs.lemmas.List.{append-nil}
use Rattle.ex_base.specs.Area.{catalog_no}
use Rattle.ex_base.specs.Ports.{times}
use Rattle.ex_base.proofs.Counts.{times-append}
use Rattle.ex_base.specs.declared.names.Root.{Root}
use Rattle.op_log.specs.State.{LogState}
use Rattle.session_views.specs.View.{View}
use Rattle.trees.specs.Owners.{root_pages}
use Rattle.volume_model.specs.Committed.{Committed}
use Rattle.volume_model.specs.FreshView.{KnowsUnits, OwnsUnits, fresh_view}
use Rattle.volume_model.specs.Held.{Held}
use Rattle.volume_model.specs.Homes.{home}
use Rattle.volume_model.specs.OwnersShown.{OwnersShown, committed_roots, logged_pages, roots_held}
use Rattle.volume_model.specs.TreesShown.{TreesShown}
use Rattle.volume_model.specs.Volume.{Decoded, file_pages, reach_of, units_of}
use Rattle.volume_model.proofs.AtRest.{once, twice}
use Rattle.volume_model.proofs.ExactView.{exact_shown}
use Rattle.volume_model.proofs.OwnersAlike.{owned_same}

module _ {may_leave : List ℕ → Type 0} (d : Decoded) (disk : List ℕ) (log : LogState) (used : ℕ → Bool) (refs : ℕ → ℕ) (held : ℕ → Bool) (committed : Committed may_leave d disk log [])
    (owns : OwnsUnits d.geometry (home d.geometry disk) d.volume used refs) where
  abbrev view : View Held
  view = fresh_view d disk log used refs held

  abbrev R : List ℕ
  R = reach_of (units_of d disk) d.volume

  twice_logged : (u : ℕ) → times u (logged_pages d d.volume) ≡ times u (catalog_no ∷ file_pages d.volume) + times u (file_pages d.volume)
  twice_logged u = times-append u (catalog_no ∷ file_pages d.volume) (file_pages d.volume)

  same_roots : (u : ℕ) → times u (root_pages (roots_held d [] [])) ≡ times u (root_pages (committed_roots d))
  same_roots u = subst (λ (roots : List Root). times u (root_pages roots) ≡ times u (root_pages (committed_roots d))) (sym (append-nil (committed_roots d ++ []))) (subst (λ (roots : List Root). times u (root_pages roots) ≡ times u (root_pages (committed_roots d))) (sym (append-nil (committed_roots d))) refl)

  owners : OwnersShown d used refs [] [] [] disk d.volume
  owners = record {
    owned = owned_same d.geometry (home d.geometry disk) used refs (catalog_no ∷ file_pages d.volume) (logged_pages d d.volume) (root_pages (committed_roots d)) (root_pages (roots_held d [] [])) owns same_roots
        (λ u has. omega (arith, has, twice_logged u)) (λ u has. omega (arith, has, twice_logged u, times-append u (catalog_no ∷ []) (file_pages d.volume)));
    turned = λ u. omega arith;
    was_committed = λ u. omega arith;
    gained_whole = tt;
    lost_whole = tt;
  }

  trees : TreesShown d view d.volume
  trees = record {
    parts = committed.parts;
    working_shown = (refl, refl);
    scans = tt;
    overlay = record { just = committed.shown.just; in_order = tt; pages = tt; log = committed.shown.log_is };
    images = tt;
  }

  pub in_reach : (unit : ℕ) → (used unit ≡ true) ↔ Contains R unit
  in_reach unit =
      let exact = exact_shown d view d.volume owners trees unit in (
        λ yes. subst (λ (us : List ℕ). Contains us unit) (append-nil R) (once R [] unit (exact.0 yes)),
        λ has. exact.1 (twice R [] unit (subst (λ (us : List ℕ). Contains us unit) (sym (append-nil R)) has)),
      )

  pub known : ((page : ℕ) → (held page ≡ true) ↔ Contains (catalog_no ∷ file_pages d.volume) page) → KnowsUnits d disk used held
  known pages = record { units = in_reach; pages = pages }
