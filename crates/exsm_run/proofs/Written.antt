-- Where a command wrote that only opened its volume.
use Rattle.std.proofs.Common.{◌≡◌, ◌≢◌, ◌∙◌, ℕ, List, [], Some, IsTrue, arith, Result, Ok, Err, MatchResult, sym, subst}
use Rattle.std.specs.Result.{IsErrAnd}
use Rattle.disk_model.specs.Changes.{ChangesWithin, SameBut, leaves_changes}
use Rattle.disk_model.specs.Outside.{Goes, IsWorld, Leaves, Outside, SinkOnly, WritesNothing}
use Rattle.disk_model.specs.Runs.{each_on, honest_on, leaves_start, leaves_trans, leaves_wider}
use Rattle.volume_model.specs.Parts.{Decodes}
use Rattle.volume_model.specs.Volume.{Decoded}
use Rattle.restart.specs.Opening.{InLogOrLogged, PartsMoments, StaysAs}
use Rattle.restart.proofs.LogOpened.{parted_on}
use Rattle.command_line.specs.declared.status.Status.{Status}
use Rattle.command_line.specs.declared.status.Status.TheVariants as status
use Rattle.exsm_run.specs.Openings.{KeepsDisk, WritesAsOpening, WritesIn}
use Rattle.exsm_run.proofs.Ending.{left_alone}
use Rattle.exsm_run.proofs.Lines.{leaves_sink}

-- ---- nothing was written

pub keeps_nothing : {a b : Outside} → IsWorld a → WritesNothing a b → KeepsDisk a b
keeps_nothing world nothing = record { disk = nothing.disk; moments = (left_alone world nothing).moments }

pub keeps_sink : {a b : Outside} → IsWorld a → SinkOnly a b → KeepsDisk a b
keeps_sink {a} world only = record {
  disk = only.disk;
  moments = λ honest. leaves_sink a.images world (leaves_start a a.images world (λ d here. here)) only;
}

-- What a crash leaves has Q still.
leaves_on : {a b c : Outside} (Q : List ℕ → Type 0) → Leaves a b Q → Leaves b c b.images → Leaves a c Q
leaves_on {a} {b} Q so_far kept = leaves_trans Q so_far (leaves_wider b.images Q kept (λ d here. so_far.now d here))

keeps_trans : {a b c : Outside} → Goes a b → KeepsDisk a b → KeepsDisk b c → KeepsDisk a c
keeps_trans {a} goes one two = record {
  disk = two.disk ∙ one.disk;
  moments = λ honest. leaves_on a.images (one.moments honest) (two.moments (honest_on goes honest));
}

-- ---- in some places alone

writes_in : {a b : Outside} (R : ℕ → Type 0) → IsWorld a → ChangesWithin R a b → WritesIn R a b
writes_in {a} R world changes = record {
  disk = changes.disk;
  moments = λ honest. leaves_changes R (λ e. (d : List ℕ) × a.images d × SameBut R d e) world honest changes (λ d e here same. (d, here, same));
}

writes_on : {a b c : Outside} (R : ℕ → Type 0) → Goes a b → WritesIn R a b → KeepsDisk b c → WritesIn R a c
writes_on {a} R goes writes kept = record {
  disk = λ honest d holds. let now = writes.disk honest d holds in (now.0, kept.disk ∙ now.1, now.2);
  moments = λ honest. leaves_on (λ e. (d : List ℕ) × a.images d × SameBut R d e) (writes.moments honest) (kept.moments (honest_on goes honest));
}

-- ---- as an opening does

pub opened_writes : {a b : Outside} (s : Status) → IsWorld a
    → ((image : List ℕ) (d : Decoded) → a.disk ≡ Some image → Decodes image d → d.records ≡ [] → WritesNothing a b)
    → ((image : List ℕ) (d : Decoded) → a.disk ≡ Some image → Decodes image d → ChangesWithin (InLogOrLogged d) a b)
    → (s ≢ status.DiskFault → (image : List ℕ) → IsTrue a.honest → a.disk ≡ Some image → PartsMoments a b image) → WritesAsOpening a b s
opened_writes s world clean writes parted = record {
  clean = λ image d holds parts none. keeps_nothing world (clean image d holds parts none);
  writes = λ image d holds parts. writes_in (InLogOrLogged d) world (writes image d holds parts);
  parted = parted;
}

-- Behind the opening nothing is written.
pub writes_on_opening : {a b c : Outside} (s : Status) → Goes a b → KeepsDisk b c → WritesAsOpening a b status.Done → WritesAsOpening a c s
writes_on_opening s goes kept opened = record {
  clean = λ image d holds parts none. keeps_trans goes (opened.clean image d holds parts none) kept;
  writes = λ image d holds parts. writes_on (InLogOrLogged d) goes (opened.writes image d holds parts) kept;
  parted = λ good image honest holds. parted_on image (opened.parted (λ is. cc) image honest holds) (kept.moments (honest_on goes honest));
}

-- ---- what a crash leaves since the first sync

-- While a line is sent the moments stay parted,
pub parted_sink : {a b c : Outside} (image : List ℕ) → IsWorld b → IsTrue b.honest → PartsMoments a b image → SinkOnly b c → PartsMoments a c image
parted_sink image world honest parted only = parted_on image parted ((keeps_sink world only).moments honest)

-- and where a crash leaves what stands for the table.
pub parted_leaves : {a b c : Outside} (image : List ℕ) → PartsMoments a b image → Leaves b c (StaysAs image) → PartsMoments a c image
parted_leaves image parted leaves = record {
  since = parted.since;
  from = parted.from;
  up_to = omega (arith, parted.up_to, leaves.clock);
  each = each_on parted.since (λ s d. StaysAs image d) parted.up_to parted.each leaves.adds;
  now = leaves.now;
}

-- ---- a fault that is handed on

pub match_err_handed : {X E : Type 0} (r : Result X E) (P : X → Type 0) (Q : E → Type 0) (e : E) → IsErrAnd r (λ f. f ≡ e) → Q e → MatchResult r P Q
match_err_handed (Ok x) P Q e is q = absurd is
match_err_handed (Err f) P Q e is q = subst Q (sym is) q
