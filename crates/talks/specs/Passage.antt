-- What the stepping of lines did, whatever the session showed before it.
use Rattle.std.specs.Prelude.{◌≡◌, ℕ, Option, List}
use Rattle.ex_base.specs.declared.faults.Seen.{Seen}
use Rattle.ex_base.specs.declared.names.PageNo.{PageNo}
use Rattle.disk_model.specs.Outside.{Outside}
use Rattle.script_lang.specs.Reading.{Reading}
use Rattle.session_views.specs.View.{View, Meaning}
use Rattle.engines.specs.Keeping.{Conduct, DamagedStep}
use Rattle.talks.specs.Talking.{Exchange, Talking, Left}
use Rattle.talks.specs.Transcript.{Opens, Reached, CutShort}
use Rattle.talks.specs.declared.stopped.Stopped.{Stopped}
use Rattle.talks.specs.declared.stopped.Stopped.TheVariants.{Damaged}

-- The lines are over, and each was answered.
pub record Ran {S H T : Type 0} (M : Meaning S) (C : Conduct S H) (K : Talking T) (entry now : Outside) (session after : S) (first talk : T) : Type 0 where
  pub had : List Exchange
  pub over : K.Over first entry.left had talk now.left
  pub reached : (opening : View S) (was : List ℕ) → opening.session ≡ session → Opens M entry opening was → Reached M C K.acking opening was entry now after had

-- The stepping stopped before that.
pub record WasCut {S H T : Type 0} (M : Meaning S) (C : Conduct S H) (K : Talking T) (entry now : Outside) (session : S) (first : T) (why : Stopped) : Type 0 where
  -- what handed in the last line, as it stood when it did
  pub at : T
  pub had : List Exchange
  pub last : Option Reading
  pub broken : K.Broken first entry.left had last why at now.left
  pub cut : (opening : View S) (was : List ℕ) → opening.session ≡ session → Opens M entry opening was
      → CutShort M C K.acking (K.text at) opening was entry now had last why

-- so much of it as shows without the session
abbrev pub IsOver : {T : Type 0} → Talking T → T → Left → Left → Type 0
IsOver {T} K first left at = (had : List Exchange) × (talk : T) × K.Over first left had talk at

abbrev pub IsBroken : {T : Type 0} → Talking T → T → Left → Stopped → Left → Type 0
IsBroken {T} K first left why at = (had : List Exchange) × (last : Option Reading) × (handed : T) × K.Broken first left had last why handed at

-- Where a damaged page stopped the run, a step of the session found it, as it is told.
abbrev pub ByDamagedStep : {S H : Type 0} → Conduct S H → Outside → Outside → Stopped → Type 0
ByDamagedStep C before after why = (page : PageNo) (want got : Seen) → why ≡ Damaged page want got → DamagedStep C before after page want got
