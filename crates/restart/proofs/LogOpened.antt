-- What is written of a volume that is opened, and since when nothing of before is pending.
use Rattle.std.proofs.Common.{◌≡◌, ℕ, Bool, inl, inr, ⊎_elim, List, [], length, nat_eq, Option, Some, IsSome, IsTrue, refl, sym, ap, subst, ◌∙◌, arith}
use Rattle.std.specs.Map.{lookup}
use Rattle.ex_base.specs.declared.geometry.Geometry.{Geometry}
use Rattle.ex_base.specs.Area.{log_at}
use Rattle.disk_model.specs.Calls.{Settles}
use Rattle.disk_model.specs.Changes.{ChangesWithin, changes_wider}
use Rattle.disk_model.specs.Outside.{Outside, IsWorld, Leaves, WritesNothing}
use Rattle.disk_model.specs.Runs.{adds_wider, each_on, honest_on, leaves_wider}
use Rattle.op_log.specs.declared.record.LogRecord.{LogRecord}
use Rattle.op_log.specs.AfterLog.{logged}
use Rattle.op_log.specs.Log.{SaysLog}
use Rattle.op_log.specs.State.{LogState}
use Rattle.op_log.proofs.OneList.{one_list}
use Rattle.commits.specs.Written.{InLogOrHomes}
use Rattle.volume_model.proofs.OneVolume.{one_geometry}
use Rattle.volume_model.specs.Committed.{StandsForVolume}
use Rattle.volume_model.specs.Parts.{Decodes}
use Rattle.volume_model.specs.Volume.{Decoded, table_of, units_of}
use Rattle.restart.specs.Opening.{InLogOrLogged, PartsMoments, ReadsAs, StaysAs}

-- an image decodes with one list of records
pub one_log : (image : List ℕ) (d e : Decoded) → Decodes image d → Decodes image e → (d.geometry ≡ e.geometry) × (d.records ≡ e.records)
one_log image d e one two =
    let geometry = one_geometry image d.geometry e.geometry one.0 two.0 in (
      geometry,
      one_list e.geometry (log_at e.geometry image) d.records e.records
          (subst (λ (g : Geometry). SaysLog g d.records image) geometry one.1.0.says) two.1.0.says,
    )

module _ {image : List ℕ} {d : Decoded} {g : Geometry} {log : LogState} {rows : List (ℕ × List ℕ)} {used : ℕ → Bool} {refs : ℕ → ℕ} {held : ℕ → Bool}
    (parts : Decodes image d) (reads : ReadsAs image g log rows used refs held) where
  -- where it has no record, none counts
  pub none_counts : d.records ≡ [] → log.count ≡ 0
  none_counts none =
      let one = one_log image d reads.decoded parts reads.parts in
      ap (λ (s : LogState). s.count) reads.shown.log_is ∙ ap (λ (rs : List LogRecord). length rs) (sym one.1 ∙ none)

  -- the images that a checkpoint writes home are those of the pages that the log has
  pub logged_homes : {a b : Outside} (h : Geometry) → h ≡ g → ChangesWithin (InLogOrHomes h.page_size rows) a b → ChangesWithin (InLogOrLogged d) a b
  logged_homes {a} {b} h same changes =
      let one = one_log image d reads.decoded parts reads.parts in
      let size : h ≡ d.geometry = same ∙ sym reads.geometry ∙ sym one.0 in
      let there : (page : ℕ) → IsSome (lookup (nat_eq page) rows) → IsSome (logged d.records page) =
      λ page some. subst (λ (o : Option (List ℕ)). IsSome o) (reads.shown.just page ∙ ap (λ (rs : List LogRecord). logged rs page) (sym one.1)) some in
      changes_wider (InLogOrHomes d.geometry.page_size rows) (InLogOrLogged d)
      (subst (λ (k : Geometry). ChangesWithin (InLogOrHomes k.page_size rows) a b) size changes)
      (λ i. ⊎_elim (λ log. inl log) (λ home. inr (home.0, there home.0 home.1, home.2)))

-- what stands for the volume's table stays as it reads
pub stays_as : {a b : Outside} (image : List ℕ) (d : Decoded) → Decodes image d → Leaves a b (StandsForVolume d image) → Leaves a b (StaysAs image)
stays_as image d parts leaves =
    leaves_wider (StandsForVolume d image) (StaysAs image) leaves
    (λ e stands. inr (record { table = table_of (units_of d image) d.volume; was = record { decoded = d; parts = parts; same = refl }; stands = stands }))

-- Since a sync nothing of before is left, while the volume is only read, and then stays as it reads.
pub parted_at : (a b c e : Outside) (image : List ℕ) → IsWorld b → IsTrue a.honest → a.disk ≡ Some image → WritesNothing a b → Settles a b
    → WritesNothing b c → Leaves c e (StaysAs image) → PartsMoments a e image
parted_at a b c e image world honest holds one settles two leaves = record {
  since = b.clock;
  from = one.only.goes.clock;
  up_to = omega (arith, two.only.goes.clock, leaves.clock);
  each = each_on b.clock (λ s d. StaysAs image d) two.only.goes.clock so_far leaves.adds;
  now = leaves.now;
}
  where
    so_far : (s d : List ℕ) → c.moments b.clock s d → StaysAs image d
    so_far s d m =
        inl (settles honest image holds d (⊎_elim (λ before. (world.now_only s d before).1) (λ new. new.1)
        ((two.adds (honest_on one.only.goes honest)).each b.clock s d (omega arith) m)))

-- Where a crash leaves but what it could leave, the moments stay parted.
pub parted_on : {a b c : Outside} (image : List ℕ) → PartsMoments a b image → Leaves b c b.images → PartsMoments a c image
parted_on {a} {b} image parted leaves = record {
  since = parted.since;
  from = parted.from;
  up_to = omega (arith, parted.up_to, leaves.clock);
  each = each_on parted.since (λ s d. StaysAs image d) parted.up_to parted.each
      (adds_wider (λ s d. b.images d) (λ s d. StaysAs image d) leaves.adds (λ s d here. parted.now d here));
  now = λ d here. parted.now d (leaves.now d here);
}
