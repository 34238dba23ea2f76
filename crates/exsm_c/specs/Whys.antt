-- What C is told of why a call wasn't done.
use Rattle.std.specs.Prelude.{ℕ, false, Option, Some, None, Result, Ok, Err}
use Rattle.ex_base.specs.declared.names.Area.{Area}
use Rattle.ex_base.specs.declared.names.Area.TheVariants as area
use Rattle.table_model.specs.declared.reply.Refusal.{Refusal}
use Rattle.table_model.specs.declared.reply.Refusal.TheVariants as refusal
use Rattle.session_views.specs.declared.stop.Stop.{Stop}
use Rattle.session_views.specs.declared.stop.Stop.TheVariants as stop
use Rattle.volume_calls.specs.declared.volume.NotDone.{NotDone}
use Rattle.volume_calls.specs.declared.volume.NotDone.TheVariants.{Misuse, Refused, Stopped, Untold}
use Rattle.exsm_c.specs.Codes.{code_of_stop, number_of}
use Rattle.exsm_c.specs.declared.passed.Why.{Why}

-- a code with nothing besides
abbrev pub code_alone : ℕ → Why
code_alone code = record {
  code = code;
  scans = false;
  area = 0;
  updates = 0;
  touched = 0;
  need = 0;
  free = 0;
  derived = 0;
  page = 0;
  want_kind = 0;
  want_level = 0;
  got_kind = 0;
  got_level = 0;
  want_total = 0;
  got_total = 0;
}

-- the number of an area
abbrev pub number_of_area : Area → ℕ
number_of_area area.Page = 0
number_of_area area.Segment = 1

-- of a refusal its number, and what it knows
abbrev pub refusal_told : Refusal → Why
refusal_told (refusal.TooMany scans) = record (code_alone 20) { scans = scans }
refusal_told (refusal.LongTxn updates touched) = record (code_alone 22) { updates = updates; touched = touched }
refusal_told (refusal.Full area need free) = record (code_alone 23) { area = number_of_area area; need = need; free = free }
refusal_told (refusal.Branches derived) = record (code_alone 24) { derived = derived }
refusal_told why = code_alone (number_of why)

-- of a stop its code, and of damage the page, what was wanted of it and what was got
abbrev pub stop_told : Stop → Why
stop_told (stop.Damaged page want got) = record (code_alone 102) {
  page = page.0;
  want_kind = want.kind;
  want_level = want.level;
  got_kind = got.kind;
  got_level = got.level;
  want_total = want.total;
  got_total = got.total;
}
stop_told why = code_alone (code_of_stop why)

-- of a call that wasn't done; 0 where there is none
abbrev pub why_told : Option NotDone → Why
why_told None = code_alone 0
why_told (Some Misuse) = code_alone 51
why_told (Some (Refused why)) = refusal_told why
why_told (Some (Stopped why)) = stop_told why
why_told (Some Untold) = code_alone 100

-- why the last call that wasn't done wasn't, behind one that was or wasn't
abbrev pub why_after : {T : Type 0} → Result T NotDone → Option NotDone → Option NotDone
why_after (Ok told) before = before
why_after (Err why) before = Some why
