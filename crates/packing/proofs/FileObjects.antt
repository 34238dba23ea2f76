-- The objects of a file are packed one after the other; one without a large version needs nothing.
use Rattle.std.proofs.Common.{◌≡◌, inl, inr, ℕ, ◌⊎◌, true, false, List, [], ◌∷◌, ◌++◌, length, append_assoc, refl, sym, ap, subst, ◌∙◌, arith}
use Rattle.std.specs.List.{AllByRecursion, flat_map}
use Rattle.std.proofs.lemmas.Bool.{cases_Bool}
use Rattle.ex_base.proofs.Each.{each_as, each_with, split_each}
use Rattle.ex_base.proofs.Members.{In, contains_in, of_each}
use Rattle.ex_base.proofs.Rows.{each-append}
use Rattle.disk_model.specs.Outside.{Outside}
use Rattle.version_lists.specs.declared.version.Object.{Object}
use Rattle.volume_model.specs.Volume.{Decoded, Stored, stored_in, units_of}
use Rattle.volume_port.specs.declared.state.VolumeState.{VolumeState}
use Rattle.compact.specs.High.{each_once, root_nodes_above}
use Rattle.packing.specs.Dense.{HasEnough, is_of, need_in, roots_of_object}
use Rattle.packing.specs.Loop.{AreOfObject, IsOfNone, KeepsRecords, NeedsAsMuch, PacksUntil}
use Rattle.packing.specs.Packing.{KeepsTable}
use Rattle.packing.specs.declared.objects.LargeVersion.{LargeVersion}
use Rattle.packing.specs.declared.start.Start.{Start}
use Rattle.packing.proofs.Grouped.{AreGrouped, HasNoLarge, NextGroup, of_object_kept}
use Rattle.packing.proofs.PackedObjects.{PacksFrom, packs_on}
use Rattle.packing.proofs.Stepping.{of_root}
use Rattle.packing.proofs.Whole.{none_there}

-- whether a record is of one of these objects
of_one_or_none : (objects : List Object) (s : Stored) → ((o : Object) × In o objects × (is_of o s ≡ true)) ⊎ IsOfNone objects s
of_one_or_none [] s = inr tt
of_one_or_none (o ∷ objects) s = elim (cases_Bool (is_of o s)) [
  | inl is ↦ inl (o, inl refl, is)
  | inr isnt ↦ elim (of_one_or_none objects s) [
    | inl found ↦ inl (found.0, inr found.1, found.2)
    | inr none ↦ inr (isnt, none)
  ]
]

-- an object without a large version needs no page
none_needed : (d : Decoded) (image : List ℕ) (dense : ℕ) (o : Object) → HasNoLarge d.volume o → need_in d image dense o ≡ 0
none_needed d image dense o none =
    let nothing = none_there (flat_map (root_nodes_above d.geometry dense (units_of d image)) (roots_of_object d.volume o)) (λ p has.
    (let r = of_root d.volume (root_nodes_above d.geometry dense (units_of d image)) o p has in
    none r.stored r.root (contains_in r.stored (stored_in d.volume) r.there) r.same r.large)) in
    ap (λ (xs : List ℕ). length (each_once xs)) nothing

-- ---- objects without a large version are passed over

module _ (w z : Outside) (new : VolumeState) (d : Decoded) (image : List ℕ) (start : Start) (done skipped rest : List Object) (x : PacksFrom w z new d image start done (skipped ++ rest)) (none : AllByRecursion (HasNoLarge d.volume) skipped) where
  abbrev k : Decoded
  k = x.until.again.decoded

  records : AllByRecursion (KeepsRecords d.volume k.volume) skipped × AllByRecursion (KeepsRecords d.volume k.volume) rest
  records = split_each (KeepsRecords d.volume k.volume) skipped rest x.until.records

  still_none : AllByRecursion (HasNoLarge k.volume) skipped
  still_none = each_with (HasNoLarge d.volume) (KeepsRecords d.volume k.volume) (HasNoLarge k.volume) skipped (λ o no kept s root there is large. let both = kept s is in no s root (both.1 there) is large) none records.0

  of_none_more : (s : Stored) → IsOfNone skipped s → IsOfNone rest s → IsOfNone (skipped ++ rest) s
  of_none_more s first second = each-append (λ (o : Object). is_of o s ≡ false) skipped rest first second

  pub passed_over : PacksFrom w z new d image start (done ++ skipped) rest
  passed_over = record {
    until = record {
      again = x.until.again;
      packing = record {
        rests = x.until.packing.rests;
        since = x.until.packing.since;
        last = let last = x.until.packing.last in (last.0 ++ skipped, last.1 ∙ sym (append_assoc last.0 skipped rest));
        segs = x.until.packing.segs;
        pages = x.until.packing.pages;
        low = λ s there off root large. elim (of_one_or_none skipped s) [
          | inl found ↦ absurd (of_each (HasNoLarge k.volume) found.0 skipped still_none found.1 s root there found.2 large)
          | inr first ↦ x.until.packing.low s there (of_none_more s first off) root large
        ];
      };
      needs = let parts = split_each (NeedsAsMuch d image k x.until.again.image start.segs) skipped rest x.until.needs in parts.1;
      records = records.1;
    };
    enough = each-append (HasEnough d image start.segs start.pages) done skipped x.enough (each_as (HasNoLarge d.volume) (HasEnough d image start.segs start.pages) skipped (λ o no. omega (arith, none_needed d image start.segs o no)) none);
    keeps = x.keeps;
  }

-- ---- the objects of a file

-- Objects of the file were packed, and these of its versions are left.
pub record ObjectsSoFar (w z : Outside) (new : VolumeState) (d : Decoded) (image : List ℕ) (start : Start) (objects later : List Object) (left : List LargeVersion) : Type 0 where
  pub done : List Object
  pub rest : List Object
  pub parted : objects ≡ done ++ rest
  pub packs : PacksFrom w z new d image start done (rest ++ later)
  pub grouped : AreGrouped d.volume rest left

module _ (w z c : Outside) (now new : VolumeState) (d : Decoded) (image : List ℕ) (start : Start) (objects later : List Object) (left : List LargeVersion) (x : ObjectsSoFar w z now d image start objects later left) (next : NextGroup d.volume x.rest left) where
  -- before the next object that has large versions
  pub before_next : PacksFrom w z now d image start (x.done ++ next.skipped) (next.object ∷ (next.behind ++ later))
  before_next =
      passed_over w z now d image start x.done next.skipped (next.object ∷ (next.behind ++ later))
      (subst (PacksFrom w z now d image start x.done) (ap (λ (os : List Object). os ++ later) next.parted ∙ append_assoc next.skipped (next.object ∷ next.behind) later) x.packs) next.none

  pub versions_now : AreOfObject before_next.until.again.decoded.volume next.object (next.first ∷ next.more)
  versions_now = of_object_kept d.volume before_next.until.again.decoded.volume next.object (next.first ∷ next.more) before_next.until.records.0 next.are

  -- it is packed
  pub object_packed : PacksUntil c new before_next.until.again.decoded before_next.until.again.image start (next.behind ++ later)
      → HasEnough before_next.until.again.decoded before_next.until.again.image start.segs start.pages next.object → KeepsTable z c before_next.until.again.decoded before_next.until.again.image
      → ObjectsSoFar w c new d image start objects later next.rest
  object_packed until enough keeps = record {
    done = (x.done ++ next.skipped) ++ next.object ∷ [];
    rest = next.behind;
    parted =
        x.parted ∙ ap (λ (os : List Object). x.done ++ os) next.parted ∙ sym (append_assoc x.done next.skipped (next.object ∷ next.behind))
        ∙ sym (append_assoc (x.done ++ next.skipped) (next.object ∷ []) next.behind);
    packs = packs_on w z c now new d image start (x.done ++ next.skipped) (next.object ∷ []) (next.behind ++ later) before_next until (enough, tt) keeps;
    grouped = next.grouped;
  }
