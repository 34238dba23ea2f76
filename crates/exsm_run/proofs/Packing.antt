-- What `pack` promises.
use Rattle.std.proofs.Common.{◌≡◌, ◌≢◌, ◌∙◌, ◌⊎◌, ⊎_elim, ◌≤◌, ℕ, List, [], Some, is_some, inl, inr, refl, sym, ap, subst, arith, IsTrue}
use Rattle.ex_base.specs.declared.names.PageNo.{PageNo}
use Rattle.ex_base.specs.declared.faults.Seen.{Seen}
use Rattle.ex_base.specs.Sizes.{volume_bytes}
use Rattle.disk_model.specs.Outside.{Outside, DiskOnly, IsWorld, Leaves, Rose}
use Rattle.disk_model.specs.Runs.{disk_trans, honest_on, leaves_trans, leaves_wider}
use Rattle.table_model.specs.declared.table.Table.{Table}
use Rattle.session_views.specs.declared.part.Part.{Part}
use Rattle.session_views.specs.Opening.{StandsOpening}
use Rattle.talks.proofs.Whole.{leaves_table}
use Rattle.session_core.specs.Meant.{meant}
use Rattle.volume_model.specs.Committed.{StandsForVolume, with_records}
use Rattle.volume_model.specs.CrashImage.{agrees_stands}
use Rattle.volume_model.specs.Parts.{StandsFor}
use Rattle.volume_model.specs.Volume.{Decoded, table_of, units_of}
use Rattle.volume_model.proofs.AtMostOne.{one_table}
use Rattle.volume_port.specs.declared.state.VolumeState.{VolumeState}
use Rattle.volume_port.specs.State.{IsAtRest}
use Rattle.restart.specs.Opening.{AreOpened, HoldsAs, PartsMoments, RestsAs, StandsForSame, StaysAs}
use Rattle.restart.proofs.AtRest.{fresh_ready}
use Rattle.packing.specs.Packing.{HoldsTableOf, IsPacked, LacksPages, StopsLacking}
use Rattle.packing.specs.Resting.{IsIdle, PackCause, TellsDamage}
use Rattle.packing.specs.declared.fault.PackFault.{PackFault}
use Rattle.packing.specs.declared.fault.PackFault.TheVariants as fault
use Rattle.packing.specs.declared.volume.Packed.{Packed}
use Rattle.command_line.specs.declared.status.Status.{Status}
use Rattle.command_line.specs.declared.status.Status.TheVariants as status
use Rattle.exsm_run.specs.Check.{IsLineStatus, StopsCount}
use Rattle.exsm_run.specs.Load.{HoldsTableNow}
use Rattle.exsm_run.specs.Openings.{OpeningPromise, PartsAtSync}
use Rattle.exsm_run.specs.Pack.{HoldsPacked, IsPackStatus, LacksAtEntry, MayPack, PackPromise, pack_line, unpacked_status}
use Rattle.exsm_run.specs.Script.{HoldsVolume}
use Rattle.exsm_run.specs.Status.{IsRefusal}
use Rattle.exsm_run.proofs.Checking.{SentLine, line_ends, line_good}
use Rattle.exsm_run.proofs.Ending.{starts_on}
use Rattle.exsm_run.proofs.Entries.{high_at_entry, lacks_at_entry, lacks_opened}
use Rattle.exsm_run.proofs.Lines.{leaves_sink, opened_well}
use Rattle.exsm_run.proofs.Written.{parted_leaves, parted_sink}

-- ---- a volume that wasn't opened

pack_status : (s : Status) → (s ≡ status.DiskFault) ⊎ (s ≡ status.Memory) → IsPackStatus s
pack_status s (inl disk) = subst IsPackStatus (sym disk) tt
pack_status s (inr memory) = subst IsPackStatus (sym memory) tt

-- The disk holds the table that it held.
holds_now : {a : Outside} (b : Outside) (table : Table) (was : List ℕ) (on : HoldsVolume a table was) → HoldsAs on.image b → HoldsTableNow b table
holds_now b table was on held = (
  held.0,
  held.1,
  ⊎_elim (λ (same : held.0 ≡ on.image). subst (λ (image : List ℕ). StandsFor image table) (sym same) on.stands)
      (λ (same : StandsForSame on.image held.0). subst (StandsFor held.0) (one_table on.image same.table table same.was on.stands) same.stands) held.2,
)

pub pack_unopened : {a b : Outside} (s : Status) → DiskOnly a b → StopsCount s a b
    → ((table : Table) (was : List ℕ) → HoldsVolume a table was → (s ≡ status.DiskFault) ⊎ (s ≡ status.Memory))
    → ((image : List ℕ) → IsTrue a.honest → a.disk ≡ Some image → HoldsAs image b)
    → ((image : List ℕ) → IsTrue a.honest → a.disk ≡ Some image → Leaves a b (StandsOpening meant a.images image)) → PartsAtSync a b s → OpeningPromise a b s
    → PackPromise a b s
pack_unopened {a} {b} s only stops kinds holds moments parted opening = record {
  sends = λ table was on is. absurd (subst (λ (x : Status). StopsCount x a b) is stops);
  front = λ table was on is. absurd (subst (λ (x : Status). StopsCount x a b) is stops);
  nothing = λ done output. only.sent;
  left = only.left;
  table = λ table was on. holds_now b table was on (holds on.image on.honest on.holds);
  settled = λ table was on is d here. absurd (subst (λ (x : Status). StopsCount x a b) is stops);
  lacks = λ need free is. absurd (subst (λ (x : Status). StopsCount x a b) is stops);
  lacking = λ need free table was on lacks. inr (kinds table was on);
  moments = moments;
  moments_settled = λ table was on. let starts = starts_on on in leaves_table starts (moments starts.on.image starts.on.honest starts.on.holds);
  parted = parted;
  sound = λ table was on. pack_status s (kinds table was on);
  completes = λ may. ⊎_elim (λ disk. absurd (may.may.no_disk_fault (subst (λ (x : Status). StopsCount x a b) disk stops))) (λ memory. inr memory) (kinds may.may.table may.may.was may.may.on);
  opening = opening;
}

-- ---- an open volume that is packed

-- It can be packed.
pub can_pack : (size : ℕ) (volume : VolumeState) → AreOpened volume → volume_bytes volume.geometry ≤ size → IsIdle size volume
can_pack size volume opened room = record { ready = fresh_ready size volume opened.fresh room; log = opened.log; working = opened.fresh.working; committed = opened.images }

-- The volume was opened, up to b, and from there it was packed, up to c.
pub record Packing (a b c : Outside) (volume : VolumeState) : Type 0 where
  pub opening : DiskOnly a b
  pub same : (image : List ℕ) → IsTrue a.honest → a.disk ≡ Some image → RestsAs image b volume
  pub moments : (image : List ℕ) → IsTrue a.honest → a.disk ≡ Some image → Leaves a b (StandsOpening meant a.images image)
  pub parted : (image : List ℕ) → IsTrue a.honest → a.disk ≡ Some image → PartsMoments a b image
  pub stood : (image : List ℕ) → a.disk ≡ Some image → (table : Table) × StandsFor image table
  pub only : DiskOnly b c
  pub any_moment : (d : Decoded) (image : List ℕ) → IsAtRest b volume d image → Leaves b c (StandsForVolume d image)
  pub holds : (d : Decoded) (image : List ℕ) → IsAtRest b volume d image → HoldsTableOf c d image

module _ {a b c : Outside} {volume : VolumeState} (packing : Packing a b c volume) where
  packing_only : DiskOnly a c
  packing_only = disk_trans packing.opening packing.only

  -- While it is packed a crash leaves what stands for the table at entry.
  stays : (image : List ℕ) → IsTrue a.honest → a.disk ≡ Some image → Leaves b c (StandsForSame image)
  stays image honest holds =
      let at = packing.same image honest holds in
      let d = with_records at.decoded [] at.decoded.volume in
      leaves_wider (StandsForVolume d at.disk) (StandsForSame image) (packing.any_moment d at.disk at.rests)
      (λ e stands. record {
        table = table_of (units_of d at.disk) d.volume;
        was = record { decoded = at.decoded; parts = at.parts; same = at.same.table };
        stands = stands;
      })

  pub along : (image : List ℕ) → IsTrue a.honest → a.disk ≡ Some image → Leaves a c (StandsOpening meant a.images image)
  along image honest holds =
      leaves_trans (StandsOpening meant a.images image) (packing.moments image honest holds)
      (leaves_wider (StandsForSame image) (StandsOpening meant a.images image) (stays image honest holds)
      (λ e (same : StandsForSame image e). inr (inr (record { table = same.table; was = same.was; stands = same.stands }))))

  pub parts : (image : List ℕ) → IsTrue a.honest → a.disk ≡ Some image → PartsMoments a c image
  parts image honest holds =
      parted_leaves image (packing.parted image honest holds) (leaves_wider (StandsForSame image) (StaysAs image) (stays image honest holds) (λ e same. inr same))

  module _ (table : Table) (was : List ℕ) (on : HoldsVolume a table was) where
    abbrev here : RestsAs on.image b volume
    here = packing.same on.image on.honest on.holds

    -- the table of the volume at rest
    table_here : table_of (units_of (with_records here.decoded [] here.decoded.volume) here.disk) here.decoded.volume ≡ table
    table_here = one_table on.image _ table (record { decoded = here.decoded; parts = here.parts; same = here.same.table }) on.stands

    pub table_now : HoldsTableNow c table
    table_now =
        let held = packing.holds (with_records here.decoded [] here.decoded.volume) here.disk here.rests in
        (held.0, held.1, subst (StandsFor held.0) table_here held.2)

    pub lacks_told : (need free : ℕ) → LacksPages volume (with_records here.decoded [] here.decoded.volume) here.disk need free → LacksAtEntry a need free
    lacks_told need free lacks = lacks_at_entry here a on.holds need free lacks

    pub lacks_there : (need free : ℕ) → LacksAtEntry a need free → LacksPages volume (with_records here.decoded [] here.decoded.volume) here.disk need free
    lacks_there need free lacks = lacks_opened here a on.holds need free lacks

-- ---- a fault

undone : (f : PackFault) → unpacked_status f ≡ status.Done → ⊥
undone fault.Disk is = cc
undone fault.Memory is = cc
undone (fault.Damaged page want got) is = cc
undone (fault.NoPages need free) is = cc

not_output : (f : PackFault) → unpacked_status f ≡ status.OutputFault → ⊥
not_output fault.Disk is = cc
not_output fault.Memory is = cc
not_output (fault.Damaged page want got) is = cc
not_output (fault.NoPages need free) is = cc

well_opened : (f : PackFault) (part : Part) → unpacked_status f ≡ status.BadVolume part → ⊥
well_opened fault.Disk part is = cc
well_opened fault.Memory part is = cc
well_opened (fault.Damaged page want got) part is = cc
well_opened (fault.NoPages need free) part is = cc

told_pages : (f : PackFault) (need free : ℕ) → unpacked_status f ≡ status.NoPages need free → f ≡ fault.NoPages need free
told_pages fault.Disk need free is = absurd (cc)
told_pages fault.Memory need free is = absurd (cc)
told_pages (fault.Damaged page want got) need free is = absurd (cc)
told_pages (fault.NoPages need' free') need free is = cc

stops_so : (f : PackFault) (need free : ℕ) → StopsLacking need free f → (unpacked_status f ≡ status.NoPages need free) ⊎ ((unpacked_status f ≡ status.DiskFault) ⊎ (unpacked_status f ≡ status.Memory))
stops_so f need free (inl is) = inl (ap unpacked_status is)
stops_so f need free (inr (inl is)) = inr (inl (ap unpacked_status is))
stops_so f need free (inr (inr is)) = inr (inr (ap unpacked_status is))

good_fault : (f : PackFault) → (TellsDamage f → ⊥) → IsPackStatus (unpacked_status f)
good_fault fault.Disk good = tt
good_fault fault.Memory good = tt
good_fault (fault.Damaged page want got) good = absurd (good tt)
good_fault (fault.NoPages need free) good = tt

pub fault_is_no_refusal : (f : PackFault) → IsRefusal (unpacked_status f) → ⊥
fault_is_no_refusal fault.Disk is = is
fault_is_no_refusal fault.Memory is = is
fault_is_no_refusal (fault.Damaged page want got) is = is
fault_is_no_refusal (fault.NoPages need free) is = is

-- what the packing ended as, by a fault
pub record FailsPacking (b c : Outside) (volume : VolumeState) (f : PackFault) : Type 0 where
  pub cause : PackCause b c f
  pub sound : TellsDamage f → (d : Decoded) (image : List ℕ) → IsAtRest b volume d image → ⊥
  pub lacks : (need free : ℕ) → f ≡ fault.NoPages need free → (d : Decoded) (image : List ℕ) → IsAtRest b volume d image → LacksPages volume d image need free
  pub lacking : (d : Decoded) (image : List ℕ) (need free : ℕ) → IsAtRest b volume d image → LacksPages volume d image need free → StopsLacking need free f

module _ {a b c : Outside} {volume : VolumeState} (packing : Packing a b c volume) (f : PackFault) (fails : FailsPacking b c volume f) where
  good : (table : Table) (was : List ℕ) → HoldsVolume a table was → TellsDamage f → ⊥
  good table was on told =
      let at = packing.same on.image on.honest on.holds in
      fails.sound told (with_records at.decoded [] at.decoded.volume) at.disk at.rests

  lacks_so : (need free : ℕ) → f ≡ fault.NoPages need free → (table : Table) (was : List ℕ) → HoldsVolume a table was → LacksAtEntry a need free
  lacks_so need free is table was on =
      let at = packing.same on.image on.honest on.holds in
      lacks_told packing table was on need free (fails.lacks need free is (with_records at.decoded [] at.decoded.volume) at.disk at.rests)

  ends : MayPack a c → (unpacked_status f ≡ status.Done) ⊎ (unpacked_status f ≡ status.Memory)
  ends may = by f fails.cause (good may.may.table may.may.was may.may.on) (λ need free is. may.pages need free (lacks_so need free is may.may.table may.may.was may.may.on))
    where
      by : (x : PackFault) → PackCause b c x → (TellsDamage x → ⊥) → ((need free : ℕ) → x ≡ fault.NoPages need free → ⊥) → (unpacked_status x ≡ status.Done) ⊎ (unpacked_status x ≡ status.Memory)
      by fault.Disk cause fine enough = absurd (may.may.no_disk_fault (omega (arith, cause, packing.opening.goes.disk_faults)))
      by fault.Memory cause fine enough = inr refl
      by (fault.Damaged page want got) cause fine enough = absurd (fine tt)
      by (fault.NoPages need free) cause fine enough = absurd (enough need free refl)

  pub pack_failed : PackPromise a c (unpacked_status f)
  pack_failed = record {
    sends = λ table was on is. absurd (undone f is);
    front = λ table was on is. absurd (not_output f is);
    nothing = λ done output. (packing_only packing).sent;
    left = (packing_only packing).left;
    table = table_now packing;
    settled = λ table was on is. absurd (undone f is);
    lacks = λ need free is. lacks_so need free (told_pages f need free is);
    lacking = λ need free table was on lacks.
        let at = packing.same on.image on.honest on.holds in
        stops_so f need free (fails.lacking (with_records at.decoded [] at.decoded.volume) at.disk need free at.rests (lacks_there packing table was on need free lacks));
    moments = along packing;
    moments_settled = λ table was on. let starts = starts_on on in leaves_table starts (along packing starts.on.image starts.on.honest starts.on.holds);
    parted = λ good. parts packing;
    sound = λ table was on. good_fault f (good table was on);
    completes = ends;
    opening = opened_well (unpacked_status f) (well_opened f) packing.stood;
  }

-- ---- the line

-- a status of a command that sends one line is one of pack
pack_kind : (s : Status) → IsLineStatus s → IsPackStatus s
pack_kind status.Done kind = tt
pack_kind status.Usage kind = kind
pack_kind status.ScriptFault kind = kind
pack_kind status.OutputFault kind = tt
pack_kind status.DiskFault kind = tt
pack_kind (status.BadVolume part) kind = kind
pack_kind status.Memory kind = tt
pack_kind (status.Damaged page want got) kind = kind
pack_kind status.AlreadyVolume kind = kind
pack_kind (status.TooSmall have need) kind = kind
pack_kind (status.ScriptLong max) kind = kind
pack_kind status.NotEmpty kind = kind
pack_kind status.BadDump kind = kind
pack_kind (status.Misfit field dump volume) kind = kind
pack_kind (status.NoRoom area need free) kind = kind
pack_kind (status.NoPages need free) kind = absurd kind

-- what was packed, and the sending of its line
pub record SendsPacking (b c e : Outside) (old new : VolumeState) (packed : Packed) (s : Status) : Type 0 where
  pub world : IsWorld c
  pub done : (d : Decoded) (image : List ℕ) → IsAtRest b old d image → IsPacked c old new d image packed
  pub enough : (d : Decoded) (image : List ℕ) (need free : ℕ) → IsAtRest b old d image → LacksPages old d image need free → ⊥
  pub sent : SentLine s c e (pack_line packed.moved packed.segs)

module _ {a b c e : Outside} {old new : VolumeState} {packed : Packed} (packing : Packing a b c old) (s : Status) (sends : SendsPacking b c e old new packed s) where
  module _ (table : Table) (was : List ℕ) (on : HoldsVolume a table was) where
    abbrev entry : RestsAs on.image b old
    entry = packing.same on.image on.honest on.holds

    done_here : IsPacked c old new (with_records entry.decoded [] entry.decoded.volume) entry.disk packed
    done_here = sends.done (with_records entry.decoded [] entry.decoded.volume) entry.disk entry.rests

    -- it stands for the table, whatever a crash leaves
    table_same : table_of (units_of done_here.again.decoded done_here.again.image) done_here.again.decoded.volume ≡ table
    table_same = done_here.again.same.table ∙ table_here packing table was on

    holds_packed : HoldsPacked a e table packed.moved packed.segs
    holds_packed = record {
      image = done_here.again.image;
      holds = sends.sent.only.disk ∙ done_here.again.rests.holds;
      stands = record { decoded = done_here.again.decoded; parts = done_here.again.rests.committed.parts; same = sym table_same };
      dense = done_here.dense;
      high = high_at_entry entry a on.holds packed.segs packed.moved done_here.segs done_here.moved;
    }

    settles : (d : List ℕ) → e.images d → StandsFor d table
    settles d may =
        let rest = done_here.again.rests in
        subst (StandsFor d) table_same (agrees_stands done_here.again.image d done_here.again.decoded rest.committed.parts (rest.committed.durable d (sends.sent.only.images.back d may)))

    sent_was : c.sent ≡ Some was
    sent_was = packing.only.sent ∙ (packing.opening.sent ∙ on.sent)

    none_lacks : (need free : ℕ) → LacksAtEntry a need free → ⊥
    none_lacks need free lacks = sends.enough (with_records entry.decoded [] entry.decoded.volume) entry.disk need free entry.rests (lacks_there packing table was on need free lacks)

    still : HoldsTableNow e table
    still = (holds_packed.image, holds_packed.holds, holds_packed.stands)

  along_line : (image : List ℕ) → IsTrue a.honest → a.disk ≡ Some image → Leaves a e (StandsOpening meant a.images image)
  along_line image honest holds = leaves_sink (StandsOpening meant a.images image) sends.world (along packing image honest holds) sends.sent.only

  pub pack_sent : PackPromise a e s
  pack_sent = record {
    sends = λ table was on is. (packed.moved, packed.segs, holds_packed table was on, sends.sent.done is was (sent_was table was on));
    front = λ table was on is. (packed.moved, packed.segs, holds_packed table was on, sends.sent.front is was (sent_was table was on));
    nothing = λ done output. sends.sent.nothing done output ∙ (packing_only packing).sent;
    left = sends.sent.only.left ∙ (packing_only packing).left;
    table = still;
    settled = λ table was on is. settles table was on;
    lacks = λ need free is. absurd (subst IsLineStatus is sends.sent.kind);
    lacking = λ need free table was on lacks. absurd (none_lacks table was on need free lacks);
    moments = along_line;
    moments_settled = λ table was on. let starts = starts_on on in leaves_table starts (along_line starts.on.image starts.on.honest starts.on.holds);
    parted = λ good image honest holds. parted_sink image sends.world (honest_on (packing_only packing).goes honest) (parts packing image honest holds) sends.sent.only;
    sound = λ table was on. pack_kind s sends.sent.kind;
    completes = λ may. line_ends s sends.sent.kind (λ output. may.may.no_output_fault (omega (arith, sends.sent.output output, (packing_only packing).write_faults))) sends.sent.no_disk;
    opening = opened_well s (λ part is. line_good s part sends.sent.kind is) packing.stood;
  }
