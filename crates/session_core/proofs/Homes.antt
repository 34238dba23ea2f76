-- The bytes of units at home, as ports have them, as owners are counted and over writes.
use mathlib.Core.Path.{fun_ext}
use Rattle.std.proofs.Common.{◌≡◌, ◌∙◌, ℕ, ◌*◌, true, inl, inr, ltb, List, Some, sym, ap, subst}
use Rattle.std.proofs.lemmas.Bool.{cases_Bool, cond-false, cond-true}
use Rattle.std.proofs.lemmas.Option.{same_Some}
use Rattle.ex_base.specs.declared.geometry.Geometry.{Geometry}
use Rattle.ex_base.specs.Area.{area_end, leaf_at, page_at}
use Rattle.disk_model.specs.Outside.{Outside}
use Rattle.disk_model.specs.Changes.{SameBut}
use Rattle.page_alloc.specs.UnitSet.{UnitSet, used_at}
use Rattle.session_views.specs.View.{View, ShowsNow}
use Rattle.tree_store.specs.Stored.{InRest, IsCounted, NoUnit, unit_bytes, unit_len}
use Rattle.volume_model.specs.CrashImage.{same_part}
use Rattle.volume_model.specs.Homes.{home}
use Rattle.session_core.specs.Meant.{meant}
use Rattle.session_core.specs.Sessions.{IsSession, SessionState}
use Rattle.session_core.specs.Updates.{WritesUnused}
use Rattle.volume_port.proofs.WorkingUnits.{leaf_bytes_at, page_bytes}
use Rattle.session_core.proofs.Updating.{changes_now, counted_now}

pub home_is : (g : Geometry) (disk : List ℕ) → unit_bytes g (Some disk) ≡ home g disk
home_is g disk = fun_ext (λ u. elim (cases_Bool (ltb u (area_end g))) [
  | inl page ↦ page_bytes g disk u page ∙ sym (cond-true (ltb u (area_end g)) (page_at g disk u) (leaf_at g disk u) page)
  | inr leaf ↦ leaf_bytes_at g disk u leaf ∙ sym (cond-false (ltb u (area_end g)) (page_at g disk u) (leaf_at g disk u) leaf)
])

-- what is used has the bytes that it had, where nothing changed but what isn't
pub unit_kept : (g : Geometry) (units : UnitSet) → IsCounted g units → (disk later : List ℕ) → SameBut (InRest g (used_at units) NoUnit) disk later → (u : ℕ) → used_at units u ≡ true
    → unit_bytes g (Some later) u ≡ unit_bytes g (Some disk) u
unit_kept g units counted disk later same u used =
    same_part later disk (u * g.page_size) (unit_len g u) same.same_length
    (λ i from to. same.each i (λ written. written.apart u (counted.named u used) used (λ none. none) (from, to)))

pub home_kept : {a b : Outside} {before : View SessionState} (now : ShowsNow meant a before) → IsSession before.session → WritesUnused a b before.session → (later : List ℕ) → b.disk ≡ Some later
    → (u : ℕ) → used_at before.session.units u ≡ true → home now.shows.decoded.geometry later u ≡ home now.shows.decoded.geometry before.disk u
home_kept {a} {b} {before} now session changes later holds u used =
    let g = now.shows.decoded.geometry in
    let changed = (changes_now now session changes).disk now.honest before.disk now.holds in
    let same : changed.0 ≡ later = same_Some changed.0 later (sym changed.1 ∙ holds) in
    ap (λ (f : ℕ → List ℕ). f u) (sym (home_is g later))
    ∙ unit_kept g before.session.units (counted_now now session) before.disk later (subst (λ (e : List ℕ). SameBut (InRest g (used_at before.session.units) NoUnit) before.disk e) same changed.2) u used
    ∙ ap (λ (f : ℕ → List ℕ). f u) (home_is g before.disk)
