-- What `check` promises.
use Rattle.std.proofs.Common.{◌≡◌, ◌≢◌, ◌∙◌, ◌⊎◌, ⊎_elim, ◌<◌, ℕ, List, ◌++◌, Some, length, take, inl, inr, refl, subst, arith, IsTrue}
use Rattle.ex_base.specs.declared.faults.Seen.{Seen}
use Rattle.ex_base.specs.declared.names.PageNo.{PageNo}
use Rattle.disk_model.specs.Outside.{Outside, DiskOnly, IsWorld, Leaves, Rose, SinkOnly}
use Rattle.disk_model.specs.Runs.{sink_refl}
use Rattle.table_model.specs.declared.table.Table.{Table}
use Rattle.session_views.specs.declared.part.Part.{Part}
use Rattle.session_views.specs.Opening.{StandsOpening}
use Rattle.talks.proofs.Whole.{leaves_table}
use Rattle.session_core.specs.Meant.{meant}
use Rattle.transactions.specs.declared.summary.Summary.{Summary}
use Rattle.volume_model.specs.Parts.{StandsFor}
use Rattle.command_line.specs.declared.status.Status.{Status}
use Rattle.command_line.specs.declared.status.Status.TheVariants as status
use Rattle.exsm_run.specs.Check.{CheckPromise, HoldsCounted, IsCount, IsLineStatus, StopsCount, check_line, counts_line}
use Rattle.exsm_run.specs.Openings.{OpeningPromise, WritesAsOpening}
use Rattle.exsm_run.specs.Script.{HoldsVolume}
use Rattle.exsm_run.proofs.Ending.{starts_on}
use Rattle.exsm_run.proofs.Lines.{leaves_sink, line_status, opened_well}
use Rattle.exsm_run.proofs.Written.{keeps_sink, writes_on_opening}

-- ---- no count was made

pub check_stopped : {a b : Outside} (s : Status) → DiskOnly a b → StopsCount s a b
    → ((table : Table) (was : List ℕ) → HoldsVolume a table was → (s ≡ status.DiskFault) ⊎ (s ≡ status.Memory))
    → ((image : List ℕ) → IsTrue a.honest → a.disk ≡ Some image → Leaves a b (StandsOpening meant a.images image)) → WritesAsOpening a b s → OpeningPromise a b s
    → CheckPromise a b s
check_stopped {a} {b} s only stops kinds moments writes opening = record {
  sends = λ table was on is. absurd (subst (λ (x : Status). StopsCount x a b) is stops);
  front = λ table was on is. absurd (subst (λ (x : Status). StopsCount x a b) is stops);
  nothing = λ done output. only.sent;
  left = only.left;
  settled = λ table was on is d here. absurd (subst (λ (x : Status). StopsCount x a b) is stops);
  moments = moments;
  moments_settled = λ table was volume. let starts = starts_on volume in leaves_table starts (moments starts.on.image starts.on.honest starts.on.holds);
  writes = writes;
  sound = λ table was on. line_status s (kinds table was on);
  completes = λ may. ⊎_elim (λ disk. absurd (may.no_disk_fault (subst (λ (x : Status). StopsCount x a b) disk stops))) (λ memory. inr memory) (kinds may.table may.was may.on);
  opening = opening;
}

-- ---- the line

-- what the sending of a text ended as
pub record SentLine (s : Status) (b c : Outside) (line : List ℕ) : Type 0 where
  pub only : SinkOnly b c
  pub kind : IsLineStatus s
  pub no_disk : s ≢ status.DiskFault
  pub done : s ≡ status.Done → (was : List ℕ) → b.sent ≡ Some was → c.sent ≡ Some (was ++ line)
  pub front : s ≡ status.OutputFault → (was : List ℕ) → b.sent ≡ Some was → (n : ℕ) × (n < length line) × (c.sent ≡ Some (was ++ take n line))
  pub nothing : s ≢ status.Done → s ≢ status.OutputFault → c.sent ≡ b.sent
  pub output : s ≡ status.OutputFault → Rose b.write_faults c.write_faults

line_is : {w : Outside} {table : Table} (s : Summary) (line : List ℕ) → IsCount w table s → line ≡ counts_line s.last s.files s.objects s.versions s.pages s.segs
    → line ≡ check_line table s.pages s.segs
line_is s line count made = cc (count.last, count.files, count.objects, count.versions)

still_holds : {b c : Outside} {table : Table} {pages segs : ℕ} → SinkOnly b c → HoldsCounted b table pages segs → HoldsCounted c table pages segs
still_holds only counted = record { image = counted.image; holds = only.disk ∙ counted.holds; stands = counted.stands; reaches = counted.reaches }

pub line_good : (s : Status) (part : Part) → IsLineStatus s → s ≡ status.BadVolume part → ⊥
line_good s part kind is = subst IsLineStatus is kind

pub line_undamaged : (s : Status) (page : PageNo) (want got : Seen) → IsLineStatus s → s ≡ status.Damaged page want got → ⊥
line_undamaged s page want got kind is = subst IsLineStatus is kind

pub line_ends : (s : Status) → IsLineStatus s → s ≢ status.OutputFault → s ≢ status.DiskFault → (s ≡ status.Done) ⊎ (s ≡ status.Memory)
line_ends status.Done kind output disk = inl refl
line_ends status.Usage kind output disk = absurd kind
line_ends status.ScriptFault kind output disk = absurd kind
line_ends status.OutputFault kind output disk = absurd (output refl)
line_ends status.DiskFault kind output disk = absurd (disk refl)
line_ends (status.BadVolume part) kind output disk = absurd kind
line_ends status.Memory kind output disk = inr refl
line_ends (status.Damaged page want got) kind output disk = absurd kind
line_ends status.AlreadyVolume kind output disk = absurd kind
line_ends (status.TooSmall have need) kind output disk = absurd kind
line_ends (status.ScriptLong max) kind output disk = absurd kind
line_ends status.NotEmpty kind output disk = absurd kind
line_ends status.BadDump kind output disk = absurd kind
line_ends (status.Misfit field dump volume) kind output disk = absurd kind
line_ends (status.NoRoom area need free) kind output disk = absurd kind
line_ends (status.NoPages need free) kind output disk = absurd kind

pub check_sent : {a b c : Outside} (s : Status) (summary : Summary) (line : List ℕ) → IsWorld b → DiskOnly a b
    → ((table : Table) (was : List ℕ) → HoldsVolume a table was → IsCount b table summary)
    → ((image : List ℕ) → IsTrue a.honest → a.disk ≡ Some image → Leaves a b (StandsOpening meant a.images image)) → WritesAsOpening a b status.Done
    → ((image : List ℕ) → a.disk ≡ Some image → (table : Table) × StandsFor image table)
    → line ≡ counts_line summary.last summary.files summary.objects summary.versions summary.pages summary.segs
    → SentLine s b c line → CheckPromise a c s
check_sent {a} {b} {c} s summary line world only counts moments writes opened made sent =
    let along : (image : List ℕ) → IsTrue a.honest → a.disk ≡ Some image → Leaves a c (StandsOpening meant a.images image) =
    λ image honest holds. leaves_sink (StandsOpening meant a.images image) world (moments image honest holds) sent.only in
    record {
      sends = λ table was on is.
          let count = counts table was on in (
            summary.pages,
            summary.segs,
            still_holds sent.only count.counted,
            subst (λ (l : List ℕ). c.sent ≡ Some (was ++ l)) (line_is summary line count made) (sent.done is was (only.sent ∙ on.sent)),
          );
      front = λ table was on is.
          let count = counts table was on in (
            summary.pages,
            summary.segs,
            still_holds sent.only count.counted,
            subst (λ (l : List ℕ). (n : ℕ) × (n < length l) × (c.sent ≡ Some (was ++ take n l))) (line_is summary line count made) (sent.front is was (only.sent ∙ on.sent)),
          );
      nothing = λ done output. sent.nothing done output ∙ only.sent;
      left = sent.only.left ∙ only.left;
      settled = λ table was on is d here. let count = counts table was on in count.images d (sent.only.images.back d here);
      moments = along;
      moments_settled = λ table was volume. let starts = starts_on volume in leaves_table starts (along starts.on.image starts.on.honest starts.on.holds);
      writes = writes_on_opening s only.goes (keeps_sink world sent.only) writes;
      sound = λ table was on. sent.kind;
      completes = λ may. line_ends s sent.kind (λ output. may.no_output_fault (let rose = sent.output output in omega (arith, rose, only.goes.write_faults))) sent.no_disk;
      opening = opened_well s (λ part is. line_good s part sent.kind is) opened;
    }

-- No memory was there for the line.
pub unsent : (b : Outside) (line : List ℕ) → SentLine status.Memory b b line
unsent b line = record {
  only = sink_refl b;
  kind = tt;
  no_disk = λ is. cc;
  done = λ is. absurd (cc);
  front = λ is. absurd (cc);
  nothing = λ done output. refl;
  output = λ is. absurd (cc);
}

pub cut_line : {b c : Outside} (line : List ℕ) → SinkOnly b c → Rose b.write_faults c.write_faults
    → ((was : List ℕ) → b.sent ≡ Some was → (n : ℕ) × (n < length line) × (c.sent ≡ Some (was ++ take n line))) → SentLine status.OutputFault b c line
cut_line line only rose failed = record {
  only = only;
  kind = tt;
  no_disk = λ is. cc;
  done = λ is. absurd (cc);
  front = λ is. failed;
  nothing = λ done output. absurd (output refl);
  output = λ is. rose;
}

pub whole_line : {b c : Outside} (line : List ℕ) → SinkOnly b c → ((was : List ℕ) → b.sent ≡ Some was → c.sent ≡ Some (was ++ line)) → SentLine status.Done b c line
whole_line line only sent = record {
  only = only;
  kind = tt;
  no_disk = λ is. cc;
  done = λ is. sent;
  front = λ is. absurd (cc);
  nothing = λ done output. absurd (done refl);
  output = λ is. absurd (cc);
}
