-- What an abort, a commit and a checkpoint leave of the units in use.
use Rattle.std.proofs.Common.{◌≡◌, ◌∙◌, ◌≤◌, ℕ, Bool, false, List, [], ◌∷◌, length, map, Option, Some, None, inl, inr, sym, subst, arith, length-append}
use mathlib.Core.Path.{fun_ext}
use Rattle.std.specs.Prelude.{Contains}
use Rattle.std.proofs.lemmas.Bool.{both_ways}
use Rattle.ex_base.specs.declared.geometry.Geometry.{Geometry}
use Rattle.ex_base.specs.declared.names.Area.{Area}
use Rattle.ex_base.specs.declared.names.Root.{Root}
use Rattle.ex_base.specs.declared.names.Area.TheVariants.{Page, Segment}
use Rattle.open_scans.specs.OpenScans.{OpenRow, scan_of}
use Rattle.page_alloc.specs.UnitSet.{UnitSet, free_count, refs_at, used_at}
use Rattle.trees.proofs.Owned.{some_of}
use Rattle.table_model.specs.declared.machine.Machine.{Machine}
use Rattle.session_views.specs.View.{View}
use Rattle.volume_model.specs.OwnersMoved.{PagesGo}
use Rattle.volume_model.specs.Shown.{Shows, roots_here, root_here, used_in}
use Rattle.session_core.specs.Meant.{held_view}
use Rattle.session_core.specs.Sessions.{IsSession, OnlyGives, SessionState}
use Rattle.session_core.proofs.Refusing.{free_left}
use Rattle.volume_model.proofs.Showing.{session_geometry}

-- ---- the counts

pub record FewerUsed (m : Machine) (g : Geometry) (used : ℕ → Bool) : Type 0 where
  pub pages : used_in g used Page ≤ m.pages_used
  pub segs : used_in g used Segment ≤ m.segs_used

-- units of which as many are free, or more
pub record AsFree (old new : UnitSet) : Type 0 where
  pub geometry : new.geometry ≡ old.geometry
  pub free : (area : Area) → free_count old.geometry (used_at old) area ≤ free_count new.geometry (used_at new) area

pub fewer_used : {may_leave : List ℕ → Type 0} {v : View SessionState} (shows : Shows may_leave (held_view v)) → IsSession v.session → (units : UnitSet) → AsFree v.session.units units
    → FewerUsed v.machine shows.decoded.geometry (used_at units)
fewer_used {may_leave} {v} shows session units gives =
    let g = shows.decoded.geometry in
    let old = v.session.units in
    let same : old.geometry ≡ g = session.units.geometry ∙ session_geometry shows in
    let later : units.geometry ≡ g = gives.geometry ∙ same in
    let free : (area : Area) → free_count g (used_at old) area ≤ free_count g (used_at units) area = λ area.
    subst (λ (h : Geometry). free_count h (used_at old) area ≤ free_count g (used_at units) area) same
    (subst (λ (h : Geometry). free_count old.geometry (used_at old) area ≤ free_count h (used_at units) area) later (gives.free area)) in
    record {
      pages = omega (arith, free Page, free_left g (used_at old) Page, free_left g (used_at units) Page, shows.used.pages);
      segs = omega (arith, free Segment, free_left g (used_at old) Segment, free_left g (used_at units) Segment, shows.used.segs);
    }

-- ---- open scans

-- the roots of the open scans
abbrev pub scan_roots : SessionState → List Root
scan_roots s = roots_here (map scan_of s.scans)

one_root : (root : Option Root) → length (root_here root) ≤ 1
one_root None = omega arith
one_root (Some root) = omega arith

-- each has one at most
pub few_scan_roots : (rows : List OpenRow) → length (roots_here (map scan_of rows)) ≤ length rows
few_scan_roots [] = omega arith
few_scan_roots (row ∷ rows) = omega (arith, length-append (root_here row.scan.root) (roots_here (map scan_of rows)), one_root row.scan.root, few_scan_roots rows)

-- ---- pages that become free

-- Where a unit is freed only if it has no reference and isn't one that stays, pages go.
pub pages_go : (safe : ℕ → Type 0) (old new : UnitSet) (pages rest : List ℕ) → OnlyGives safe old new → ((page : ℕ) → Contains rest page → safe page)
    → ((page : ℕ) → Contains pages page → ¬ Contains rest page → used_at new page ≡ false) → PagesGo (used_at old) (used_at new) (refs_at old) pages rest
pages_go safe old new pages rest gives stay freed = record {
  still = gives.used;
  freed = λ u was free. (
    elim (some_of (refs_at old u)) [
      | inl some ↦ absurd (both_ways _ free (gives.owned u was (omega (arith, some, gives.refs u))))
      | inr none ↦ none
    ],
    λ here. both_ways _ free (gives.stays u was (stay u here)),
  );
  all = freed;
}

-- the references are those of before
pub same_refs : {safe : ℕ → Type 0} (old new : UnitSet) → OnlyGives safe old new → refs_at old ≡ refs_at new
same_refs old new gives = fun_ext (λ u. sym (gives.refs u))
