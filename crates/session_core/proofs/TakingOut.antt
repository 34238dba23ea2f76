-- A root is taken out of a list by its page.
use Rattle.std.proofs.Common.{◌≡◌, ℕ, ◌+◌, ◌<◌, List, [], ◌∷◌, length, take, get_or, Bool, Option, Some, refl, sym, ap, subst, inl, arith, ◌≤◌}
use Rattle.std.specs.Prelude.{Contains, Result, Ok, Err, IfErr, OnOk}
use Rattle.std.specs.List.{remove}
use Rattle.std.proofs.lemmas.List.{get_or_default, take_more}
use Rattle.std.proofs.lemmas.List.Edits.{length-remove}
use Rattle.ex_base.specs.declared.faults.PortFault.{PortFault}
use Rattle.ex_base.specs.declared.geometry.Geometry.{Geometry}
use Rattle.ex_base.specs.declared.names.Root.{Root}
use Rattle.ex_base.specs.Ports.{IsDamage, times}
use Rattle.ex_base.proofs.Counts.{times-append}
use Rattle.ex_base.proofs.Each.{each_from, each_of}
use Rattle.trees.specs.Owners.{page_here, root_pages}
use Rattle.volume_model.specs.Held.{root_here}
use Rattle.volume_model.proofs.OwnersTurned.{pages_both}
use Rattle.volume_model.proofs.OwnersUpdated.{each_removed, pages_removed}
use Rattle.disk_model.specs.Outside.{Outside}
use Rattle.buffer_groups.specs.Frames.{Frames}
use Rattle.page_alloc.specs.UnitSet.{UnitSet}
use Rattle.volume_port.specs.GivingUp.{OwnRoots, ReleasesRoots}
use Rattle.volume_port.specs.Logged.{LoggedSet}
use Rattle.session_core.specs.Turning.{NonePaged, RootWent, TakenOut}

-- ---- the roots so far

pub none_next : (roots : List Root) (i : ℕ) (d : Root) (root : Option Root) → i < length roots → NonePaged (take i roots) root → NonePaged (get_or roots i d ∷ []) root → NonePaged (take (i + 1) roots) root
none_next roots i d root inside so_far here = λ u some.
    subst (λ (rs : List Root). times u (root_pages rs) ≡ 0) (sym (take_more roots i d inside))
    (omega (arith, pages_both u (take i roots) (get_or roots i d ∷ []), so_far u some, here u some))

-- ---- one of them is taken out

pub taken_out_at : (roots : List Root) (i : ℕ) (root d : Root) → i < length roots → page_here (get_or roots i d).page ≡ page_here root.page → TakenOut roots (remove roots i) (Some root)
taken_out_at roots i root d inside same =
    let at = get_or roots i d in
    record {
      pages = λ u. omega (
        arith,
        pages_removed u roots i at inside (get_or_default roots i d at inside),
        ap (λ (ps : List ℕ). times u ps) same,
        times-append u (page_here at.page) [],
        times-append u (page_here root.page) [],
      );
      others = λ r has. each_of (Contains roots) (remove roots i) r (each_removed (Contains roots) roots i (each_from (Contains roots) roots (λ x there. there))) has;
      fewer = omega (arith, length-remove roots i inside);
    }

-- as many are left where none is taken out
pub as_few : (old new : List Root) → new ≡ old → length new ≤ length old
as_few old new same = omega (arith, ap (λ (l : List Root). length l) same)

-- ---- the root that goes

module _ {T : Type 0} (pages : LoggedSet) (kept : List Bool) (g : Geometry) (a : Outside) (groups : List Frames) (old new : UnitSet) (gained rest lost : List Root) (root : Root) (gone : Option Root) (is : gone ≡ Some root)
    (out : TakenOut gained rest (Some root)) where
  -- it was gained, and is given up
  pub gained_went : (r : Result T PortFault) → OnOk r (ReleasesRoots pages kept g a groups old new (root ∷ [])) → OnOk r (RootWent pages kept g a groups old new gained rest lost lost gone)
  gained_went (Err fault) released = tt
  gained_went (Ok value) released =
      subst (λ (o : Option Root). RootWent pages kept g a groups old new gained rest lost lost o) (sym is) (inl (record { taken_out = out; released = released; lost_stay = refl }))

  -- where its tree is whole, no page of it is told to be damaged
  pub gained_sound : (r : Result T PortFault) → IfErr r (λ fault. IsDamage fault → OwnRoots pages kept g a groups old (root ∷ []) → ⊥)
      → IfErr r (λ fault. IsDamage fault → ((left : List Root) → TakenOut gained left gone → OwnRoots pages kept g a groups old (root_here gone)) → ⊥)
  gained_sound (Ok value) sound = tt
  gained_sound (Err fault) sound = λ damage owns. sound damage (subst (λ (o : Option Root). OwnRoots pages kept g a groups old (root_here o)) is (owns rest (subst (λ (o : Option Root). TakenOut gained rest o) (sym is) out)))
