-- What an opening hands over: the session shows the table that the volume stood for.
use Rattle.std.proofs.Common.{◌≡◌, ◌∙◌, ⊎_elim, ℕ, zero, suc, ◌+◌, ◌≤◌, Bool, true, false, cond, List, [], ◌∷◌, ◌++◌, refl, subst, arith, inr, append-nil}
use Rattle.std.specs.Prelude.{Contains, IsTrue, bytes_eq}
use Rattle.std.specs.List.{flat_map}
use Rattle.std.proofs.lemmas.List.Elements.{All-nil}
use Rattle.ex_base.specs.declared.geometry.Geometry.{Geometry}
use Rattle.ex_base.specs.declared.names.Root.{Root}
use Rattle.ex_base.specs.declared.names.Area.TheVariants.{Page, Segment}
use Rattle.ex_base.specs.Area.{catalog_no, unit_at}
use Rattle.ex_base.proofs.Members.{In, contains_in, from_flat, in_contains, in_either, of_each}
use Rattle.op_log.specs.State.{LogState}
use Rattle.table_model.specs.declared.machine.BoundName.{BoundName}
use Rattle.table_model.specs.declared.table.Table.{Table}
use Rattle.table_model.specs.Machines.{start, main, IsMachine, IsScan, IsGroup}
use Rattle.table_model.specs.Tables.{IsTable}
use Rattle.table_model.specs.Words.{is_kept_name}
use Rattle.ex_base.specs.Ports.{times}
use Rattle.ex_base.proofs.Counts.{times-append}
use Rattle.std.proofs.lemmas.List.Elements.{Contains-append_left}
use Rattle.trees.specs.Owners.{page_here, root_pages}
use Rattle.trees.specs.Trees.{Units, root_units}
use Rattle.volume_model.proofs.AtMostOne.{one_table}
use Rattle.volume_model.proofs.RulesOfTable.{decodes_with_rules}
use Rattle.volume_model.specs.Committed.{Committed, with_records}
use Rattle.volume_model.specs.FreshView.{KnowsUnits, OpenedView, OwnsUnits, fresh_view}
use Rattle.volume_model.specs.Homes.{home}
use Rattle.volume_model.specs.OwnersShown.{OwnersShown, committed_roots, logged_pages, roots_held}
use Rattle.volume_model.proofs.ExactView.{times_joined}
use Rattle.volume_model.proofs.OwnersAlike.{owned_same}
use Rattle.volume_model.specs.Parts.{Decodes, HasNodes, StandsFor}
use Rattle.volume_model.specs.Links.{Apart}
use Rattle.volume_model.specs.Shown.{Shows, used_below, used_in}
use Rattle.volume_model.specs.Volume.{Decoded, Volume, file_pages, reach_of, roots_in, stored_in, table_of, units_of}

-- ---- the machine at its start

at_most_one : (b : Bool) → cond b 1 0 ≤ 1
at_most_one true = omega arith
at_most_one false = omega arith

used_most : (used : ℕ → Bool) (at : ℕ → ℕ) (n : ℕ) → used_below used at n ≤ n
used_most used at zero = omega arith
used_most used at (suc n) = omega (arith, used_most used at n, at_most_one (used (at n)))

start_keeps : (g : Geometry) (t : Table) (used : ℕ → Bool) → IsTable g t → IsMachine (start g t (used_in g used Page) (used_in g used Segment))
start_keeps g t used rules = record {
  committed = rules;
  working = tt;
  idle = record { no_updates = refl; untouched = refl; unmarked = All-nil (λ (b : BoundName). b.marked ≡ false) };
  updates = omega arith;
  touched = omega arith;
  pages = used_most used (unit_at g Page) g.pages;
  segs = used_most used (unit_at g Segment) g.segs;
  names = All-nil (λ (b : BoundName). IsTrue (is_kept_name b.name));
  scans = All-nil IsScan;
  few_scans = omega arith;
  groups = All-nil IsGroup;
  few_groups = omega arith;
  once = λ name. let one = at_most_one (bytes_eq main name) in omega (arith, one);
}

-- ---- units

-- a list that is joined to itself has what it had
once : (x : ℕ) (xs : List ℕ) → Contains (xs ++ xs) x → In x xs
once x xs h = ⊎_elim (λ here. here) (λ later. later) (in_either x xs xs (in_contains x (xs ++ xs) h))

once_more : (x : ℕ) (xs : List ℕ) → Contains (xs ++ xs ++ []) x → In x xs
once_more x xs h = once x xs (subst (λ (ys : List ℕ). Contains ys x) (append-nil (xs ++ xs)) h)

in_first : (x : ℕ) (xs : List ℕ) → Contains xs x → Contains (xs ++ xs ++ []) x
in_first x xs has = Contains-append_left (xs ++ xs) [] x (Contains-append_left xs xs x has)

-- no page of a file lies in a tree
no_file_page : (g : Geometry) (units : Units) (v : Volume) (page : ℕ) → HasNodes g units v → In page (file_pages v) → In page (flat_map (root_units units) (roots_in (stored_in v))) → ⊥
no_file_page g units v page nodes inside at =
    let found = from_flat (root_units units) page (roots_in (stored_in v)) at in
    let apart = of_each (λ (root : Root). Apart (root_units units root) (catalog_no ∷ file_pages v)) found.0 (roots_in (stored_in v)) nodes.no_file_page found.1 in
    of_each (λ (unit : ℕ). ¬ Contains (catalog_no ∷ file_pages v) unit) page (root_units units found.0) apart found.2 (contains_in page (catalog_no ∷ file_pages v) (inr inside))

-- ---- the view

nodes_of : {d : Decoded} {disk : List ℕ} → Decodes disk d → HasNodes d.geometry (units_of d disk) d.volume
nodes_of (super, (log, (catalog, (file, (page, (body, (node, rest))))))) = node

-- the owners are the roots of the volume alone
owners_shown : (d : Decoded) (disk : List ℕ) (used : ℕ → Bool) (refs : ℕ → ℕ) → OwnsUnits d.geometry (home d.geometry disk) d.volume used refs → OwnersShown d used refs [] [] [] disk d.volume
owners_shown d disk used refs owns = record {
  owned =
      owned_same d.geometry (home d.geometry disk) used refs (catalog_no ∷ file_pages d.volume) (logged_pages d d.volume) (root_pages (committed_roots d)) (root_pages (roots_held d [] [])) owns
      (λ u. omega (arith, times_joined u (λ (root : Root). page_here root.page) (committed_roots d) [] []))
      (λ u has. omega (arith, has, twice u)) (λ u has. omega (arith, has, twice u, times-append u (catalog_no ∷ []) (file_pages d.volume)));
  turned = λ u. omega arith;
  was_committed = λ u. omega arith;
  gained_whole = tt;
  lost_whole = tt;
}
  where
    twice : (u : ℕ) → times u (logged_pages d d.volume) ≡ times u (catalog_no ∷ file_pages d.volume) + times u (file_pages d.volume)
    twice u = times-append u (catalog_no ∷ file_pages d.volume) (file_pages d.volume)

pub fresh_shows : (may_leave : List ℕ → Type 0) (d : Decoded) (disk : List ℕ) (log : LogState) (used : ℕ → Bool) (refs : ℕ → ℕ) (held : ℕ → Bool) → Committed may_leave d disk log [] → KnowsUnits d disk used held
    → OwnsUnits d.geometry (home d.geometry disk) d.volume used refs → Shows may_leave (fresh_view d disk log used refs held)
fresh_shows may_leave d disk log used refs held committed knows owns = record {
  decoded = d;
  working = d.volume;
  rules = start_keeps d.geometry (table_of (units_of d disk) d.volume) used (decodes_with_rules d disk committed.parts);
  shared = record { geometry = refl; notes = refl; names = refl; group_rows = refl; open_txn = refl; up = refl };
  parts = committed.parts;
  geometry = refl;
  committed = refl;
  working_shown = (refl, refl);
  scans = tt;
  owners = owners_shown d disk used refs owns;
  used = record {
    reached = λ unit. (
      λ yes. in_first unit (reach_of (units_of d disk) d.volume) ((knows.units unit).0 yes),
      λ at. (knows.units unit).1 (contains_in unit (reach_of (units_of d disk) d.volume) (once_more unit (reach_of (units_of d disk) d.volume) at)),
    );
    pages = refl;
    segs = refl;
    touched = refl;
  };
  logged = record { held = knows.pages; kept = knows.pages };
  frames = (tt, tt);
  durable = committed.durable;
  apart = record {
    no_tree = λ page has at. no_file_page d.geometry (units_of d disk) d.volume page (nodes_of committed.parts) (once page (file_pages d.volume) has)
        (once_more page (flat_map (root_units (units_of d disk)) (roots_in (stored_in d.volume))) at);
    in_order = tt;
    images = tt;
    left = λ some page has _. absurd (cc);
  };
  overlay = record { just = committed.shown.just; in_order = tt; pages = tt; log = committed.shown.log_is };
}

pub opened_view : {may_leave : List ℕ → Type 0} {image disk : List ℕ} {log : LogState} {used : ℕ → Bool} {refs : ℕ → ℕ} {held : ℕ → Bool} {table : Table} (d : Decoded) → Decodes image d → StandsFor image table
    → Committed may_leave (with_records d [] d.volume) disk log [] → table_of (units_of (with_records d [] d.volume) disk) d.volume ≡ table_of (units_of d image) d.volume
    → KnowsUnits (with_records d [] d.volume) disk used held → OwnsUnits d.geometry (home d.geometry disk) d.volume used refs
    → OpenedView may_leave (with_records d [] d.volume) disk log used refs held table
opened_view {may_leave} {image} {disk} {log} {used} {refs} {held} {table} d was stands committed stayed knows owns =
    let stood : StandsFor image (table_of (units_of d image) d.volume) = record { decoded = d; parts = was; same = refl } in
    record {
      shows = fresh_shows may_leave (with_records d [] d.volume) disk log used refs held committed knows owns;
      table_is = stayed ∙ one_table image (table_of (units_of d image) d.volume) table stood stands;
    }
