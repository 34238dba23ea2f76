-- Who owns the units of a volume in which a version's tree gave way to another one.
use Rattle.std.proofs.Common.{◌≡◌, ℕ, ◌+◌, ◌<◌, ◌≤◌, true, false, true≢false, List, [], ◌∷◌, ◌++◌, length, refl, sym, ap, subst, ◌∙◌, arith, inl, inr}
use Rattle.std.specs.Prelude.{Contains}
use Rattle.std.proofs.lemmas.List.{length-append}
use Rattle.ex_base.specs.declared.ground.Ground as ground
use Rattle.ex_base.specs.declared.names.Index.{Index}
use Rattle.ex_base.specs.declared.names.Oid.{Oid}
use Rattle.ex_base.specs.declared.names.Root.{Root}
use Rattle.ex_base.specs.Area.{catalog_no}
use Rattle.ex_base.specs.Ports.{refs_most, times}
use Rattle.ex_base.proofs.Counts.{contains_times, none_or_some, times-append, times_contains, times_here}
use Rattle.ex_base.proofs.Members.{contains_in, in_contains, in_left}
use Rattle.object_records.specs.declared.Head.{Head}
use Rattle.op_log.specs.declared.record.LogRecord.{LogRecord}
use Rattle.trees.specs.Counted.{NamesPairs}
use Rattle.trees.specs.Owners.{IsOwned, root_pages}
use Rattle.volume_model.specs.FreshView.{OwnsUnits}
use Rattle.volume_model.specs.OwnersMoved.{roots_most}
use Rattle.volume_model.specs.Volume.{Volume, file_pages, reach_of, roots_in, stored_in}
use Rattle.volume_model.proofs.FewRoots.{few_roots, fewer_pages}
use Rattle.volume_model.proofs.OwnersAlike.{owned_same}
use Rattle.volume_edits.specs.Edits.{trees_of}
use Rattle.volume_edits.specs.Ported.{IsVolume, units_in}
use Rattle.volume_moves.specs.Moves.{InstallsRoot, MovesTree}
use Rattle.volume_moves.proofs.Owning.{few_made, owned_made}

module _ {S : Type 0} (g : ground.Ghosts S) (old new : S) (records : List LogRecord) (v : Volume) (index : Index) (oid : Oid) (head : Head) (gone come : Root) (bytes : List ℕ) (vol : IsVolume g old records v)
    (same : g.geometry new ≡ g.geometry old) (edit : InstallsRoot g old new index oid head come bytes) (moved : MovesTree g old new records v oid gone come) (names : NamesPairs g)
    (owns : OwnsUnits (g.geometry old) (g.unit old) v (g.used old) (g.refs old)) (after : ℕ → ℕ) (counts : (u : ℕ) → after u ≡ g.refs new u + times u (root_pages (come ∷ []))) where
  abbrev logged : List ℕ
  logged = catalog_no ∷ file_pages v

  abbrev roots : List ℕ
  roots = root_pages (roots_in (stored_in v))

  abbrev now : Volume
  now = moved.now

  -- each logged page of the new volume is in use
  in_use : (page : ℕ) → g.held new page ≡ true → g.used new page ≡ true
  in_use page held =
      moved.volume.used page (contains_in page (reach_of (units_in g new) now) (in_left page (catalog_no ∷ file_pages now) (trees_of (units_in g new) now) (in_contains page (catalog_no ∷ file_pages now) ((moved.volume.shows.held page).0 held))))

  few : length (root_pages (come ∷ []) ++ roots) ≤ roots_most
  few = omega (
    arith,
    length-append (root_pages (come ∷ [])) roots,
    fewer_pages (come ∷ []),
    fewer_pages (roots_in (stored_in v)),
    few_roots (g.geometry old) records (units_in g old) v vol.shows.parts,
  )

  -- what is no logged page now was none
  apart : (u : ℕ) → g.held new u ≡ false → times u logged ≡ 0
  apart u away = elim (none_or_some (times u logged)) [
    | inl none ↦ none
    | inr some ↦
        let there = times_contains u (catalog_no ∷ file_pages now) (subst (λ (ps : List ℕ). 1 ≤ times u (catalog_no ∷ ps)) (sym moved.pages) some) in
        absurd (true≢false (sym ((moved.volume.shows.held u).1 there) ∙ away))
  ]

  filed : (page : ℕ) → Contains (file_pages now) page → 1 ≤ times page logged
  filed page has =
      let one = contains_times page (file_pages v) (subst (λ (ps : List ℕ). Contains ps page) moved.pages has) in
      omega (arith, one, times-append page (catalog_no ∷ []) (file_pages v))

  made : IsOwned (g.geometry old) (g.unit new) (g.used new) after (logged ++ file_pages now) (root_pages (come ∷ []) ++ roots)
  made = owned_made g old new v now gone come moved.replaced names logged roots owns same edit.kept edit.used moved.volume.shows.held in_use
      (omega (arith, times_here catalog_no catalog_no (file_pages v) refl)) (λ page has. inl (filed page has))
      apart few after counts

  pub owned_moved : IsOwned (g.geometry old) (g.unit new) (g.used new) after (catalog_no ∷ file_pages now) (root_pages (gone ∷ []) ++ root_pages (roots_in (stored_in now)))
  owned_moved = owned_same (g.geometry old) (g.unit new) (g.used new) after (logged ++ file_pages now) (catalog_no ∷ file_pages now) (root_pages (come ∷ []) ++ roots) (root_pages (gone ∷ []) ++ root_pages (roots_in (stored_in now))) made
      (λ u. omega (arith, moved.replaced.roots u, times-append u (root_pages (come ∷ [])) roots, times-append u (root_pages (gone ∷ [])) (root_pages (roots_in (stored_in now)))))
      (λ u has. subst (λ (ps : List ℕ). 1 ≤ times u (catalog_no ∷ ps)) (sym moved.pages) (omega (arith, has, paged u, times-append u logged (file_pages now), times-append u (catalog_no ∷ []) (file_pages v))))
      (λ u has. omega (arith, subst (λ (ps : List ℕ). 1 ≤ times u (catalog_no ∷ ps)) moved.pages has, times-append u logged (file_pages now)))
    where
      paged : (u : ℕ) → times u (file_pages now) ≡ times u (file_pages v)
      paged u = ap (times u) moved.pages

  -- no count reaches its end with the root that came
  pub few_moved : (u : ℕ) → g.refs new u + times u (root_pages (come ∷ [])) < refs_most
  few_moved = few_made g old new v now gone come moved.replaced names logged roots owns same edit.kept edit.used moved.volume.shows.held in_use
      (omega (arith, times_here catalog_no catalog_no (file_pages v) refl)) (λ page has. inl (filed page has))
      apart few
