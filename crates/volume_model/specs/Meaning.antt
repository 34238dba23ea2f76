-- What a session on a volume means, with its laws.
use Rattle.std.specs.Prelude.{◌+◌, List}
use Rattle.std.proofs.Common.{ℕ, sym, subst}
use Rattle.ex_base.proofs.Rows.{each-take}
use Rattle.session_views.specs.declared.Part.{Part}
use Rattle.table_model.specs.declared.machine.Pick.{Pick}
use Rattle.table_model.specs.declared.table.Table.{Table}
use Rattle.table_model.specs.Requests.{Request}
use Rattle.session_views.specs.View.{View, Meaning}
use Rattle.volume_model.specs.CrashImage.{agrees_stands}
use Rattle.volume_model.specs.Parts.{Holds, StandsFor, FirstBad, all_parts, rank}
use Rattle.volume_model.specs.Shown.{Held, Shows}

-- An image that stands for a table has no part that fails.
pub no_part : (disk : List ℕ) (table : Table) (part : Part) → StandsFor disk table → FirstBad disk part → ⊥
no_part disk table part stands bad = bad.fails (stands.decoded, each-take (Holds disk stands.decoded) (rank part + 1) all_parts stands.parts)

-- It shows where fewer images may be left.
pub shows_narrower : (may_leave fewer : List ℕ → Type 0) (v : View Held) → ((d : List ℕ) → fewer d → may_leave d) → Shows may_leave v → Shows fewer v
shows_narrower may_leave fewer v inside shows = record {
  decoded = shows.decoded;
  working = shows.working;
  rules = shows.rules;
  shared = shows.shared;
  parts = shows.parts;
  geometry = shows.geometry;
  committed = shows.committed;
  working_shown = shows.working_shown;
  scans = shows.scans;
  owners = shows.owners;
  used = shows.used;
  logged = shows.logged;
  frames = shows.frames;
  durable = λ image left. shows.durable image (inside image left);
  apart = shows.apart;
  overlay = shows.overlay;
}

-- Where a view shows, each image that a crash may leave stands for its committed table.
pub crash_stands : (may_leave : List ℕ → Type 0) (v : View Held) (image : List ℕ) → Shows may_leave v → may_leave image → StandsFor image v.machine.committed
crash_stands may_leave v image shows left = subst (StandsFor image) (sym shows.committed) (agrees_stands v.disk image shows.decoded shows.parts (shows.durable image left))

-- of sessions over a volume, given what the volume decides in a step
abbrev pub volume_meaning : (View Held → Request → View Held → Pick) → Meaning Held
volume_meaning pick = record {
  Shows = Shows;
  StandsFor = StandsFor;
  FirstBad = FirstBad;
  pick = pick;
  no_table = no_part;
  narrower = shows_narrower;
  stands = crash_stands;
  rules = λ may_leave v shows. shows.rules;
}
