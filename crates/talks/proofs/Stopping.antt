-- Why a run stops, by cases.
use Rattle.std.proofs.Common.{◌≡◌, ◌∙◌, ◌⊎◌, ℕ, List, ap, IfErr, IfSome, Option, Some, None, Result, Ok, Err, inl, inr, refl, sym, subst, arith}
use Rattle.std.specs.Result.{result_err}
use Rattle.std.specs.Prelude.{◌≢◌}
use Rattle.std.proofs.lemmas.List.{append-nil}
use Rattle.std.proofs.lemmas.Option.{same_Some}
use Rattle.ex_base.specs.declared.names.PageNo.{PageNo}
use Rattle.ex_base.specs.declared.faults.Seen.{Seen}
use Rattle.disk_model.specs.Outside.{Outside, Rose, DiskOnly, Goes}
use Rattle.disk_model.specs.Runs.{goes_refl, goes_trans, sink_refl}
use Rattle.table_model.specs.Requests.{Request}
use Rattle.session_views.specs.declared.Part.{Part}
use Rattle.session_views.specs.declared.Stop.{Stop}
use Rattle.session_views.specs.declared.Stop.TheVariants as stop
use Rattle.session_views.specs.declared.OpenFault.{OpenFault}
use Rattle.session_views.specs.declared.OpenFault.TheVariants as open_fault
use Rattle.talks.specs.declared.stopped.Stopped.{Stopped}
use Rattle.talks.specs.declared.stopped.Stopped.TheVariants.{Script, Output, Disk, Memory, BadVolume, Damaged, ScriptLong}
use Rattle.engines.specs.Keeping.{Conduct}
use Rattle.talks.specs.Passage.{ByDamagedStep}
use Rattle.talks.specs.Sending.{SentPart}
use Rattle.talks.specs.Stops.{stop_as, unopened_as, CausedBy, IsSoundStop, IsOpeningStop, IsSessionStop, IsTakingStop, IsSendingStop, IsLinesStop, IsPart}

-- ---- what a stop is

pub session_stop : (s : Stop) (why : Stopped) → Some why ≡ stop_as s → IsSessionStop why
session_stop stop.Memory why is = subst IsSessionStop (sym (same_Some why Memory is)) tt
session_stop stop.Disk why is = subst IsSessionStop (sym (same_Some why Disk is)) tt
session_stop (stop.Damaged page want got) why is = subst IsSessionStop (sym (same_Some why (Damaged page want got) is)) tt
session_stop stop.Down why is = absurd (cc)

pub opening_stop : (f : OpenFault) → IsOpeningStop (unopened_as f)
opening_stop open_fault.Memory = tt
opening_stop open_fault.Disk = tt
opening_stop (open_fault.BadVolume part) = tt

pub session_part : (why : Stopped) → IsSessionStop why → IsPart why
session_part Script stops whole = whole
session_part Output stops whole = whole
session_part Disk stops whole = whole
session_part Memory stops whole = whole
session_part (BadVolume part) stops whole = whole
session_part (Damaged page want got) stops whole = whole
session_part ScriptLong stops whole = stops

pub taking_lines : (why : Stopped) → IsTakingStop why → IsLinesStop why
taking_lines Script stops = tt
taking_lines Output stops = tt
taking_lines Disk stops = tt
taking_lines Memory stops = tt
taking_lines (BadVolume part) stops = stops
taking_lines (Damaged page want got) stops = tt
taking_lines ScriptLong stops = tt

pub taking_sound : (why : Stopped) → IsTakingStop why → IsSoundStop why
taking_sound Script stops = tt
taking_sound Output stops = tt
taking_sound Disk stops = tt
taking_sound Memory stops = tt
taking_sound (BadVolume part) stops = stops
taking_sound (Damaged page want got) stops = stops
taking_sound ScriptLong stops = tt

pub sending_sound : (why : Stopped) → IsSendingStop why → IsSoundStop why
sending_sound Script stops = tt
sending_sound Output stops = tt
sending_sound Disk stops = tt
sending_sound Memory stops = tt
sending_sound (BadVolume part) stops = stops
sending_sound (Damaged page want got) stops = stops
sending_sound ScriptLong stops = tt

pub sending_lines : (why : Stopped) → IsSendingStop why → IsLinesStop why
sending_lines Script stops = tt
sending_lines Output stops = tt
sending_lines Disk stops = tt
sending_lines Memory stops = tt
sending_lines (BadVolume part) stops = stops
sending_lines (Damaged page want got) stops = tt
sending_lines ScriptLong stops = tt

pub session_lines : (why : Stopped) → IsSessionStop why → IsLinesStop why
session_lines Script stops = tt
session_lines Output stops = tt
session_lines Disk stops = tt
session_lines Memory stops = tt
session_lines (BadVolume part) stops = stops
session_lines (Damaged page want got) stops = tt
session_lines ScriptLong stops = tt

pub opening_sound : (f : OpenFault) → ((part : Part) → f ≡ open_fault.BadVolume part → ⊥) → IsSoundStop (unopened_as f)
opening_sound open_fault.Memory good = tt
opening_sound open_fault.Disk good = tt
opening_sound (open_fault.BadVolume part) good = good part refl

pub disk_or_memory : (s : Stop) (why : Stopped) → Some why ≡ stop_as s → (s ≡ stop.Disk) ⊎ (s ≡ stop.Memory) → IsSoundStop why
disk_or_memory stop.Memory why is one = subst IsSoundStop (sym (same_Some why Memory is)) tt
disk_or_memory stop.Disk why is one = subst IsSoundStop (sym (same_Some why Disk is)) tt
disk_or_memory (stop.Damaged page want got) why is (inl disk) = absurd (cc)
disk_or_memory (stop.Damaged page want got) why is (inr memory) = absurd (cc)
disk_or_memory stop.Down why is one = absurd (cc)

-- the part of a bad volume
pub bad_part : (f : OpenFault) (part : Part) → Some (unopened_as f) ≡ Some (BadVolume part) → f ≡ open_fault.BadVolume part
bad_part open_fault.Memory part is = absurd (cc)
bad_part open_fault.Disk part is = absurd (cc)
bad_part (open_fault.BadVolume other) part is = cc

-- ---- what shows of it

pub opening_caused : (f : OpenFault) (before after : Outside) → (f ≡ open_fault.Disk → Rose before.disk_faults after.disk_faults) → CausedBy (unopened_as f) before after
opening_caused open_fault.Memory before after disk = tt
opening_caused open_fault.Disk before after disk = disk refl
opening_caused (open_fault.BadVolume part) before after disk = tt

-- what a session's stop shows
pub session_caused : (s : Stop) (why : Stopped) (before after : Outside) → Some why ≡ stop_as s → (s ≡ stop.Disk → Rose before.disk_faults after.disk_faults)
    → ((page : PageNo) (want got : Seen) → s ≡ stop.Damaged page want got → want ≢ got) → CausedBy why before after
session_caused stop.Memory why before after is disk damaged = subst (λ (w : Stopped). CausedBy w before after) (sym (same_Some why Memory is)) tt
session_caused stop.Disk why before after is disk damaged = subst (λ (w : Stopped). CausedBy w before after) (sym (same_Some why Disk is)) (disk refl)
session_caused (stop.Damaged page want got) why before after is disk damaged =
    subst (λ (w : Stopped). CausedBy w before after) (sym (same_Some why (Damaged page want got) is)) (damaged page want got refl)
session_caused stop.Down why before after is disk damaged = absurd (cc)

-- One stop is one stop.
pub err_same : {X E : Type 0} {a b : E} → ◌≡◌ {A = Result X E} (Err a) (Err b) → a ≡ b
err_same is = cc

-- A session's fault of the disk is told as one.
pub session_told : {X Y : Type 0} (s : Stop) (why : Stopped) → Some why ≡ stop_as s → ◌≡◌ {A = Result X Stop} (Err s) (Err stop.Disk) → ◌≡◌ {A = Result Y Stopped} (Err why) (Err Disk)
session_told stop.Memory why is disk = absurd (cc)
session_told stop.Disk why is disk = ap (λ w. Err w) (same_Some why Disk is)
session_told (stop.Damaged page want got) why is disk = absurd (cc)
session_told stop.Down why is disk = absurd (cc)

-- A fault that came later came since each earlier time.
pub caused_later : (why : Stopped) (a b c : Outside) → Goes a b → CausedBy why b c → CausedBy why a c
caused_later Script a b c goes caused = omega (arith, goes.read_faults, caused)
caused_later Output a b c goes caused = omega (arith, goes.write_faults, caused)
caused_later Disk a b c goes caused = omega (arith, goes.disk_faults, caused)
caused_later Memory a b c goes caused = tt
caused_later (BadVolume part) a b c goes caused = tt
caused_later (Damaged page want got) a b c goes caused = caused
caused_later ScriptLong a b c goes caused = tt

-- ---- a damaged page

-- Neither an opening, nor the taking of a line, nor the sending of a reply finds one.
pub opening_undamaged : {S H : Type 0} (C : Conduct S H) (a b : Outside) (why : Stopped) → IsOpeningStop why → ByDamagedStep C a b why
opening_undamaged C a b why stops page want got is = absurd (subst IsOpeningStop is stops)

pub taking_undamaged : {S H : Type 0} (C : Conduct S H) (a b : Outside) (why : Stopped) → IsTakingStop why → ByDamagedStep C a b why
taking_undamaged C a b why stops page want got is = absurd (subst IsTakingStop is stops)

pub sending_undamaged : {S H : Type 0} (C : Conduct S H) (a b : Outside) (why : Stopped) → IsSendingStop why → ByDamagedStep C a b why
sending_undamaged C a b why stops page want got is = absurd (subst IsSendingStop is stops)

-- A step that stopped found it.
pub session_damaged : {S H : Type 0} (C : Conduct S H) {a : Outside} {session then : S} (r : Request) (from to : H) (s : Stop) (why : Stopped) → Some why ≡ stop_as s → Goes a (C.outside from)
    → DiskOnly (C.outside from) (C.outside to) → C.Keeps session then (C.outside from) (C.outside to) r (Err s) → ByDamagedStep C a (C.outside to) why
session_damaged C r from to stop.Memory why is goes only kept page want got told = absurd (cc)
session_damaged C r from to stop.Disk why is goes only kept page want got told = absurd (cc)
session_damaged C {a} {session} {then} r from to (stop.Damaged p w g) why is goes only kept page want got told =
    let both : Damaged p w g ≡ Damaged page want got = sym (same_Some why (Damaged p w g) is) ∙ told in
    let same : stop.Damaged p w g ≡ stop.Damaged page want got = cc in record {
      session = session;
      then = then;
      asked = r;
      from = from;
      to = to;
      earlier = goes;
      only = only;
      later = goes_refl (C.outside to);
      kept = subst (λ (x : Stop). C.Keeps session then (C.outside from) (C.outside to) r (Err x)) same kept;
    }
session_damaged C r from to stop.Down why is goes only kept page want got told = absurd (cc)

-- It was found since each earlier time.
pub damaged_since : {S H : Type 0} (C : Conduct S H) {a b c : Outside} (why : Stopped) → Goes a b → ByDamagedStep C b c why → ByDamagedStep C a c why
damaged_since C why goes by page want got is =
    let step = by page want got is in record {
      session = step.session;
      then = step.then;
      asked = step.asked;
      from = step.from;
      to = step.to;
      earlier = goes_trans goes step.earlier;
      only = step.only;
      later = step.later;
      kept = step.kept;
    }

-- Nothing was sent.
pub none_sent : (w : Outside) (text : List ℕ) (why : Stopped) → SentPart why w w text
none_sent w text why = record {
  n = 0;
  front = record { only = sink_refl w; sent = λ was is. is ∙ ap (λ (l : List ℕ). Some l) (sym (append-nil was)) };
  cut = inl refl;
}

-- ---- results

pub if_err_from : {T E : Type 0} (r : Result T E) (P : E → Type 0) → ((e : E) → r ≡ Err e → P e) → IfErr r P
if_err_from (Ok x) P given = tt
if_err_from (Err e) P given = given e refl

pub stop_is : {T : Type 0} (r : Result T Stopped) (P : Stopped → Type 0) → IfErr r P → IfSome (result_err r) P
stop_is (Ok x) P given = tt
stop_is (Err why) P given = given

-- how it ended, by its result
pub by_ending : {T : Type 0} (r : Result T Stopped) (P : Option Stopped → Type 0) → ((x : T) → r ≡ Ok x → P None) → ((why : Stopped) → r ≡ Err why → P (Some why)) → P (result_err r)
by_ending (Ok x) P whole stopped = whole x refl
by_ending (Err why) P whole stopped = stopped why refl

-- The stepping of lines finds no bad volume.
pub lines_good : {T : Type 0} (r : Result T Stopped) (part : Part) → IfErr r IsLinesStop → result_err r ≡ Some (BadVolume part) → ⊥
lines_good (Ok x) part stops is = cc
lines_good (Err why) part stops is = subst IsLinesStop (same_Some why (BadVolume part) is) stops
