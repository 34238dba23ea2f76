-- What is committed stays while a transaction runs.
use Rattle.std.proofs.Common.{◌≡◌, ◌≤◌, ◌<◌, ◌*◌, ⊎_elim, inl, inr, ℕ, List, ◌∷◌, ◌++◌, Some, IsTrue, refl, sym, ap, subst, ◌∙◌, arith, lt-ltb, le-ltb, ltb}
use Rattle.std.specs.Prelude.{Contains}
use Rattle.std.proofs.Math.Nat.{mul-le-mul_right}
use Rattle.std.proofs.lemmas.Bool.{ltb-true, ltb-false}
use Rattle.ex_base.specs.declared.geometry.Geometry.{Geometry}
use Rattle.ex_base.specs.Area.{IsUnit, area_end, catalog_no, leaf_at, page_at}
use Rattle.ex_base.specs.Sizes.{least_volume, leaf_bytes}
use Rattle.ex_base.proofs.Each.{each_from, flat_same}
use Rattle.disk_model.specs.Outside.{Outside, IsWorld, Leaves}
use Rattle.disk_model.specs.Changes.{ChangesWithin, InRange, SameBut, leaves_changes}
use Rattle.op_log.specs.AfterLog.{after_log, logged}
use Rattle.op_log.specs.Gates.{front_of}
use Rattle.op_log.specs.State.{LogState}
use Rattle.page_alloc.specs.UnitSet.{UnitSet, used_at}
use Rattle.trees.specs.Trees.{root_units}
use Rattle.trees.proofs.SameUnits.{Kept}
use Rattle.tree_store.specs.Stored.{InRest, InUnit, IsCounted, unit_len}
use Rattle.volume_model.specs.Committed.{Committed, StandsForVolume}
use Rattle.volume_model.specs.CrashImage.{agrees_decodes, agrees_stands, agrees_table, either_way, from_home, same_part}
use Rattle.volume_model.specs.Durable.{Agrees, InFront, InHome, InLeaf, IsDurable}
use Rattle.volume_model.specs.Parts.{Decodes}
use Rattle.volume_model.specs.SameVolume.{RootKept, kept_from_reach, units_of_root}
use Rattle.volume_model.specs.Shown.{PageRow}
use Rattle.volume_model.specs.Volume.{Decoded, file_pages, reach_of, roots_in, stored_in, units_of}
use Rattle.volume_port.specs.Stays.{ReachIsOf, StaysUsed, StillCommitted}

-- ---- where units lie

from_catalog : (g : Geometry) (unit : ℕ) → IsUnit g unit → catalog_no ≤ unit
from_catalog g unit is = ⊎_elim (λ page. page.0) (λ leaf. omega (arith, leaf.2)) is

begins : (size unit : ℕ) → catalog_no ≤ unit → catalog_no * size ≤ unit * size
begins size unit le = mul-le-mul_right {m = catalog_no} {n = unit} size le

page_unit : (g : Geometry) (page i : ℕ) → page < area_end g → InRange (page * g.page_size) g.page_size i → InUnit g page i
page_unit g page i is there = let same : unit_len g page ≡ g.page_size = rw (lt-ltb page (area_end g) is) refl in subst (λ n. InRange (page * g.page_size) n i) (sym same) there

leaf_unit : (g : Geometry) (leaf i : ℕ) → area_end g ≤ leaf → InRange (leaf * g.page_size) (leaf_bytes g) i → InUnit g leaf i
leaf_unit g leaf i is there = let same : unit_len g leaf ≡ leaf_bytes g = rw (le-ltb leaf (area_end g) is) refl in subst (λ n. InRange (leaf * g.page_size) n i) (sym same) there

-- ---- what no crash may change lies apart from what the transaction writes

module _ (d : Decoded) (disk : List ℕ) (freed : ℕ → Type 0) (units : UnitSet) (counted : IsCounted d.geometry units) (safe : ReachIsOf (StaysUsed freed (used_at units)) d disk) (decodes : Decodes disk d) where
  abbrev Written : ℕ → Type 0
  Written i = InRest d.geometry (used_at units) freed i

  safe_apart : (unit i : ℕ) → StaysUsed freed (used_at units) unit → InUnit d.geometry unit i → Written i → ⊥
  safe_apart unit i is there written =
      written.apart unit (counted.named unit is.0) is.0 is.1 there

  front_apart : (i : ℕ) → InFront d i → Written i → ⊥
  front_apart i front written =
      let unit = written.unit in
      let low : 257 * d.geometry.page_size ≤ unit.0 * d.geometry.page_size = begins d.geometry.page_size unit.0 (from_catalog d.geometry unit.0 unit.1.0) in
      let log = front_of d.geometry d.records disk (omega (arith, decodes.0.large, least_volume d.geometry)) decodes.1.0.says in
      absurd (omega (arith, front, low, log.room, unit.1.1.0))

  pub durable_apart : (i : ℕ) → IsDurable d disk i → Written i → ⊥
  durable_apart i durable written = ⊎_elim
      (λ front. front_apart i front written)
      (λ rest. ⊎_elim
      (λ (home : InHome d disk i). safe_apart home.page i (safe home.page home.reached) (page_unit d.geometry home.page i home.is_page home.inside) written)
      (λ (leaf : InLeaf d disk i). safe_apart leaf.leaf i (safe leaf.leaf leaf.reached) (leaf_unit d.geometry leaf.leaf i leaf.is_leaf leaf.inside) written)
      rest)
      durable

  -- an image that was changed elsewhere agrees
  pub changed_agrees : (from image : List ℕ) → Agrees d disk from → SameBut Written from image → Agrees d disk image
  changed_agrees from image agrees same = record {
    size = same.same_length ∙ agrees.size;
    each = λ i durable. same.each i (durable_apart i durable) ∙ agrees.each i durable;
  }

  itself : Agrees d disk disk
  itself = record { size = refl; each = λ i durable. refl }

  module _ (later : List ℕ) (same : SameBut Written disk later) where
    pub agrees_later : Agrees d disk later
    agrees_later = changed_agrees disk later itself same

    pub units_later : (unit : ℕ) → StaysUsed freed (used_at units) unit → units_of d later unit ≡ units_of d disk unit
    units_later unit stays =
        either_way (ltb unit (area_end d.geometry)) (after_log d.geometry d.records later unit) (leaf_at d.geometry later unit) (after_log d.geometry d.records disk unit) (leaf_at d.geometry disk unit)
        (λ is. from_home (logged d.records unit) (page_at d.geometry later unit) (page_at d.geometry disk unit) (λ none.
        same_part later disk (unit * d.geometry.page_size) d.geometry.page_size same.same_length
        (λ i from to. same.each i (safe_apart unit i stays (page_unit d.geometry unit i (ltb-true unit (area_end d.geometry) is) (from, to))))))
        (λ is. same_part later disk (unit * d.geometry.page_size) (leaf_bytes d.geometry) same.same_length
        (λ i from to. same.each i (safe_apart unit i stays (leaf_unit d.geometry unit i (ltb-false unit (area_end d.geometry) is) (from, to)))))

    kept : Kept (units_of d disk) (units_of d later) (reach_of (units_of d disk) d.volume)
    kept = each_from (λ u. units_of d later u ≡ units_of d disk u) (reach_of (units_of d disk) d.volume) (λ u reached. units_later u (safe u reached))

    pub reach_later : reach_of (units_of d later) d.volume ≡ reach_of (units_of d disk) d.volume
    reach_later =
        let roots = (kept_from_reach (units_of d disk) (units_of d later) d.volume kept).roots in
        ap (λ (us : List ℕ). (catalog_no ∷ file_pages d.volume) ++ us)
        (flat_same (root_units (units_of d disk)) (root_units (units_of d later)) (RootKept (units_of d disk) (units_of d later)) (roots_in (stored_in d.volume))
        (λ root k. units_of_root (units_of d disk) (units_of d later) root.height root.page k) roots)

    durable_before : (i : ℕ) → IsDurable d later i → IsDurable d disk i
    durable_before i durable = ⊎_elim
        (λ front. inl front)
        (λ rest. ⊎_elim
        (λ (home : InHome d later i). inr (inl (record { page = home.page; reached = subst (λ us. Contains us home.page) reach_later home.reached; is_page = home.is_page; at_home = home.at_home; inside = home.inside })))
        (λ (leaf : InLeaf d later i). inr (inr (record { leaf = leaf.leaf; reached = subst (λ us. Contains us leaf.leaf) reach_later leaf.reached; is_leaf = leaf.is_leaf; inside = leaf.inside })))
        rest)
        durable

    pub agrees_on_later : (image : List ℕ) → Agrees d disk image → Agrees d later image
    agrees_on_later image agrees = record {
      size = agrees.size ∙ sym same.same_length;
      each = λ i durable. let was = durable_before i durable in agrees.each i was ∙ sym (agrees_later.each i was);
    }

-- ---- the law, over the outside

module _ (d : Decoded) (disk : List ℕ) (freed : ℕ → Type 0) (u v : UnitSet) (counted : IsCounted d.geometry u) (safe : ReachIsOf (StaysUsed freed (used_at u)) d disk) (a b : Outside)
    (changes : ChangesWithin (InRest d.geometry (used_at u) freed) a b) (honest : IsTrue a.honest) (log : LogState) (overlay : List PageRow) (committed : Committed a.images d disk log overlay) where
  pub stays_on : a.disk ≡ Some disk → ((unit : ℕ) → StaysUsed freed (used_at u) unit → StaysUsed freed (used_at v) unit)
      → (later : List ℕ) × ((b.disk ≡ Some later) × StillCommitted (StaysUsed freed (used_at u)) (StaysUsed freed (used_at v)) d disk b.images later log overlay)
  stays_on holds goes_on =
      let now = changes.disk honest disk holds in
      let later = now.0 in
      let agrees = agrees_later d disk freed u counted safe committed.parts later now.2 in
      let reach = reach_later d disk freed u counted safe committed.parts later now.2 in (
        later,
        (
          now.1,
          record {
            committed = record {
              parts = agrees_decodes d disk later committed.parts agrees;
              durable = λ image here.
                  let from = changes.images honest image here in
                  agrees_on_later d disk freed u counted safe committed.parts later now.2 image
                  (changed_agrees d disk freed u counted safe committed.parts from.0 image (committed.durable from.0 from.1) from.2);
              shown = committed.shown;
            };
            units = units_later d disk freed u counted safe committed.parts later now.2;
            reach = reach;
            table = agrees_table d disk later agrees;
            reached = λ unit reached. goes_on unit (safe unit (subst (λ us. Contains us unit) reach reached));
          },
        ),
      )

  -- and each image that a crash meanwhile might have left stands for the committed table
  pub stands_meanwhile : IsWorld a → Leaves a b (StandsForVolume d disk)
  stands_meanwhile world =
      leaves_changes (InRest d.geometry (used_at u) freed) (StandsForVolume d disk) world honest changes
      (λ from image here same. agrees_stands disk image d committed.parts (changed_agrees d disk freed u counted safe committed.parts from image (committed.durable from here) same))
