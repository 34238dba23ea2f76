-- What `dump` promises.
use Rattle.std.proofs.Common.{◌≡◌, ◌≢◌, ◌∙◌, ◌⊎◌, ⊎_elim, ◌≤◌, ℕ, List, [], Some, inl, inr, refl, sym, ap, subst, arith, IsTrue}
use Rattle.ex_base.specs.Sizes.{volume_bytes}
use Rattle.ex_base.specs.declared.names.PageNo.{PageNo}
use Rattle.ex_base.specs.declared.faults.Seen.{Seen}
use Rattle.disk_model.specs.Outside.{Outside, DiskOnly, IsWorld, Leaves, Rose}
use Rattle.disk_model.specs.Runs.{honest_on, leaves_trans, leaves_wider}
use Rattle.table_model.specs.declared.table.Table.{Table}
use Rattle.session_views.specs.declared.part.Part.{Part}
use Rattle.session_views.specs.Opening.{StandsOpening}
use Rattle.talks.proofs.Whole.{leaves_table}
use Rattle.session_core.specs.Meant.{meant}
use Rattle.volume_model.specs.Committed.{with_records}
use Rattle.volume_model.specs.CrashImage.{agrees_stands}
use Rattle.volume_model.specs.Parts.{StandsFor}
use Rattle.volume_model.specs.Volume.{Decoded, table_of, units_of}
use Rattle.volume_model.proofs.AtMostOne.{one_table}
use Rattle.volume_port.specs.declared.state.VolumeState.{VolumeState}
use Rattle.volume_port.specs.Reading.{CanRead}
use Rattle.volume_port.specs.State.{IsAtRest}
use Rattle.restart.specs.Opening.{AreOpened, RestsAs}
use Rattle.restart.proofs.AtRest.{fresh_ready}
use Rattle.history_dump.specs.Sending.{ReadsAndSends, SendsWhole, SendsPart, SendsFront, DumpCause, TellsDamage}
use Rattle.history_dump.specs.declared.fault.DumpFault.{DumpFault}
use Rattle.history_dump.specs.declared.fault.DumpFault.TheVariants as fault
use Rattle.command_line.specs.declared.status.Status.{Status}
use Rattle.command_line.specs.declared.status.Status.TheVariants as status
use Rattle.exsm_run.specs.Check.{IsLineStatus, MaySend, StopsCount}
use Rattle.exsm_run.specs.Dump.{DumpPromise, SendsFrontOfIt, SendsStream, failed_status}
use Rattle.exsm_run.specs.Openings.{OpeningPromise, RestsWith, WritesAsOpening}
use Rattle.exsm_run.specs.Script.{HoldsVolume}
use Rattle.exsm_run.specs.Status.{IsRefusal}
use Rattle.exsm_run.proofs.Ending.{starts_on}
use Rattle.exsm_run.proofs.Lines.{line_status, opened_well}
use Rattle.exsm_run.proofs.Written.{writes_on_opening}

-- ---- an open volume

-- It can be read.
pub can_read : (size : ℕ) (volume : VolumeState) → AreOpened volume → volume_bytes volume.geometry ≤ size → CanRead volume.geometry size volume.groups 0 volume.meta
can_read size volume opened room =
    let ready = fresh_ready size volume opened.fresh room in
    record { group = ready.fits.group; disk = ready.fits.disk; frames = ready.fits.frames; behind = ready.fits.behind; overlay = ready.overlay }

-- It rests with the table for which the image stood.
pub rests_with : {w : Outside} (image : List ℕ) (table : Table) (volume : VolumeState) → StandsFor image table → RestsAs image w volume → RestsWith table w volume
rests_with image table volume stands opened =
    let d = opened.decoded in
    let later = with_records d [] d.volume in
    record {
      decoded = later;
      disk = opened.disk;
      rests = opened.rests;
      table_is = one_table image (table_of (units_of later opened.disk) d.volume) table (record { decoded = d; parts = opened.parts; same = opened.same.table }) stands;
    }

-- A crash now leaves its table.
rests_stands : {w : Outside} {table : Table} {volume : VolumeState} → RestsWith table w volume → (d : List ℕ) → w.images d → StandsFor d table
rests_stands {w} {table} at d here =
    let rest = at.rests in
    subst (λ (t : Table). StandsFor d t) at.table_is (agrees_stands at.disk d at.decoded rest.committed.parts (rest.committed.durable d here))

-- ---- a volume that wasn't opened

pub dump_unopened : {a b : Outside} (s : Status) → DiskOnly a b → StopsCount s a b
    → ((table : Table) (was : List ℕ) → HoldsVolume a table was → (s ≡ status.DiskFault) ⊎ (s ≡ status.Memory))
    → ((image : List ℕ) → IsTrue a.honest → a.disk ≡ Some image → Leaves a b (StandsOpening meant a.images image)) → WritesAsOpening a b s → OpeningPromise a b s
    → DumpPromise a b s
dump_unopened {a} {b} s only stops kinds moments writes opening = record {
  sends = λ table was on is. absurd (subst (λ (x : Status). StopsCount x a b) is stops);
  front = λ table was on undone. inl (only.sent ∙ on.sent);
  left = only.left;
  settled = λ table was on is d here. absurd (subst (λ (x : Status). StopsCount x a b) is stops);
  moments = moments;
  moments_settled = λ table was volume. let starts = starts_on volume in leaves_table starts (moments starts.on.image starts.on.honest starts.on.holds);
  writes = writes;
  sound = λ table was on. line_status s (kinds table was on);
  completes = λ may. ⊎_elim (λ disk. absurd (may.no_disk_fault (subst (λ (x : Status). StopsCount x a b) disk stops))) (λ memory. inr memory) (kinds may.table may.was may.on);
  opening = opening;
}

-- ---- an open volume whose stream is sent

-- The volume was opened, up to b, and from there its stream was sent.
pub record Sending (a b c : Outside) (volume : VolumeState) : Type 0 where
  pub opening : DiskOnly a b
  pub rests : (table : Table) (was : List ℕ) → HoldsVolume a table was → RestsWith table b volume
  pub moments : (image : List ℕ) → IsTrue a.honest → a.disk ≡ Some image → Leaves a b (StandsOpening meant a.images image)
  pub written : WritesAsOpening a b status.Done
  pub stood : (image : List ℕ) → a.disk ≡ Some image → (table : Table) × StandsFor image table
  pub reads : ReadsAndSends b c

-- While the stream is sent a crash leaves what it could leave before.
along : {a b c : Outside} {volume : VolumeState} → Sending a b c volume → (image : List ℕ) → IsTrue a.honest → a.disk ≡ Some image → Leaves a c (StandsOpening meant a.images image)
along {a} {b} {c} sending image honest holds =
    let so_far = sending.moments image honest holds in
    leaves_trans (StandsOpening meant a.images image) so_far
    (leaves_wider b.images (StandsOpening meant a.images image) (sending.reads.moments (honest_on sending.opening.goes honest)) (λ d here. so_far.now d here))

writes : {a b c : Outside} {volume : VolumeState} (s : Status) → Sending a b c volume → WritesAsOpening a c s
writes s sending = writes_on_opening s sending.opening.goes (record { disk = sending.reads.disk; moments = sending.reads.moments }) sending.written

settles : {a b c : Outside} {volume : VolumeState} → Sending a b c volume → (table : Table) (was : List ℕ) → HoldsVolume a table was → (d : List ℕ) → c.images d → StandsFor d table
settles sending table was on d here =
    rests_stands (sending.rests table was on) d ((sending.reads.images (honest_on sending.opening.goes on.honest)).back d here)

pub dump_done : {a b c : Outside} {volume : VolumeState} → Sending a b c volume
    → ((d : Decoded) (disk was : List ℕ) → IsAtRest b volume d disk → b.sent ≡ Some was → SendsWhole disk (table_of (units_of d disk) d.volume) was c)
    → DumpPromise a c status.Done
dump_done {a} {b} {c} {volume} sending sent = record {
  sends = λ table was on is.
      let at = sending.rests table was on in (
        at.disk,
        sending.reads.disk ∙ at.rests.holds,
        subst (λ (t : Table). SendsWhole at.disk t was c) at.table_is (sent at.decoded at.disk was at.rests (sending.opening.sent ∙ on.sent)),
      );
  front = λ table was on undone. absurd (undone refl);
  left = sending.reads.left ∙ sending.opening.left;
  settled = λ table was on is. settles sending table was on;
  moments = along sending;
  moments_settled = λ table was on. let starts = starts_on on in leaves_table starts (along sending starts.on.image starts.on.honest starts.on.holds);
  writes = writes status.Done sending;
  sound = λ table was on. tt;
  completes = λ may. inl refl;
  opening = opened_well status.Done (λ part is. cc) sending.stood;
}

-- ---- a fault

-- it is none that tells damage where the volume is at rest
good_fault : (f : DumpFault) → (TellsDamage f → ⊥) → IsLineStatus (failed_status f)
good_fault fault.Output good = tt
good_fault fault.Disk good = tt
good_fault fault.Memory good = tt
good_fault (fault.Damaged page want got) good = absurd (good tt)

undone : (f : DumpFault) → failed_status f ≡ status.Done → ⊥
undone fault.Output is = cc
undone fault.Disk is = cc
undone fault.Memory is = cc
undone (fault.Damaged page want got) is = cc

opened_fault : (f : DumpFault) (part : Part) → failed_status f ≡ status.BadVolume part → ⊥
opened_fault fault.Output part is = cc
opened_fault fault.Disk part is = cc
opened_fault fault.Memory part is = cc
opened_fault (fault.Damaged page want got) part is = cc

ends_by : {a b c : Outside} (f : DumpFault) → DiskOnly a b → ReadsAndSends b c → DumpCause b c f → (TellsDamage f → ⊥)
    → (Rose a.write_faults c.write_faults → ⊥) → (Rose a.disk_faults c.disk_faults → ⊥) → (failed_status f ≡ status.Done) ⊎ (failed_status f ≡ status.Memory)
ends_by fault.Output only reads cause good no_output no_disk = absurd (no_output (omega (arith, cause, only.goes.write_faults)))
ends_by fault.Disk only reads cause good no_output no_disk = absurd (no_disk (omega (arith, cause, only.goes.disk_faults)))
ends_by fault.Memory only reads cause good no_output no_disk = inr refl
ends_by (fault.Damaged page want got) only reads cause good no_output no_disk = absurd (good tt)

pub dump_failed : {a b c : Outside} {volume : VolumeState} (f : DumpFault) → Sending a b c volume
    → ((d : Decoded) (disk was : List ℕ) → IsAtRest b volume d disk → b.sent ≡ Some was → SendsFront disk (table_of (units_of d disk) d.volume) was c)
    → DumpCause b c f → (TellsDamage f → (d : Decoded) (disk : List ℕ) → IsAtRest b volume d disk → ⊥) → DumpPromise a c (failed_status f)
dump_failed {a} {b} {c} {volume} f sending sent cause sound =
    let good : (table : Table) (was : List ℕ) → HoldsVolume a table was → TellsDamage f → ⊥ = λ table was on told. let at = sending.rests table was on in sound told at.decoded at.disk at.rests in
    record {
      sends = λ table was on is. absurd (undone f is);
      front = λ table was on other.
          let at = sending.rests table was on in
          ⊎_elim (λ none. inl none)
          (λ (sends : SendsPart at.disk (table_of (units_of at.decoded at.disk) at.decoded.volume) was c).
          inr (at.disk, sending.reads.disk ∙ at.rests.holds, subst (λ (t : Table). SendsPart at.disk t was c) at.table_is sends))
          (sent at.decoded at.disk was at.rests (sending.opening.sent ∙ on.sent));
      left = sending.reads.left ∙ sending.opening.left;
      settled = λ table was on is. absurd (undone f is);
      moments = along sending;
      moments_settled = λ table was on. let starts = starts_on on in leaves_table starts (along sending starts.on.image starts.on.honest starts.on.holds);
      writes = writes (failed_status f) sending;
      sound = λ table was on. good_fault f (good table was on);
      completes = λ may. ends_by f sending.opening sending.reads cause (good may.table may.was may.on) may.no_output_fault may.no_disk_fault;
      opening = opened_well (failed_status f) (opened_fault f) sending.stood;
    }

-- ---- what a status says

pub not_refused : (s : Status) (a b : Outside) → StopsCount s a b → IsRefusal s → ⊥
not_refused status.Done a b stops is = stops
not_refused status.Usage a b stops is = stops
not_refused status.ScriptFault a b stops is = stops
not_refused status.OutputFault a b stops is = stops
not_refused status.DiskFault a b stops is = is
not_refused (status.BadVolume part) a b stops is = is
not_refused status.Memory a b stops is = is
not_refused (status.Damaged page want got) a b stops is = is
not_refused status.AlreadyVolume a b stops is = stops
not_refused (status.TooSmall have need) a b stops is = stops
not_refused (status.ScriptLong max) a b stops is = stops
not_refused status.NotEmpty a b stops is = stops
not_refused status.BadDump a b stops is = stops
not_refused (status.Misfit field dump volume) a b stops is = stops
not_refused (status.NoRoom area need free) a b stops is = stops
not_refused (status.NoPages need free) a b stops is = stops

pub fault_is_no_refusal : (f : DumpFault) → IsRefusal (failed_status f) → ⊥
fault_is_no_refusal fault.Output is = is
fault_is_no_refusal fault.Disk is = is
fault_is_no_refusal fault.Memory is = is
fault_is_no_refusal (fault.Damaged page want got) is = is
