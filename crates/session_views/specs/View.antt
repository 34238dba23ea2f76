-- A running session on its volume, as contracts see it: the machine with its tables of bytes, which no code holds, the value of the session, and
-- the disk.
use Rattle.std.specs.Prelude.{◌≡◌, ◌⊎◌, ℕ, IsTrue, IsSome, Some, List}
use Rattle.disk_model.specs.Outside.{Outside}
use Rattle.session_views.specs.declared.part.Part.{Part}
use Rattle.table_model.specs.declared.table.Table.{Table}
use Rattle.table_model.specs.declared.machine.Machine.{Machine}
use Rattle.table_model.specs.declared.machine.Pick.{Pick}
use Rattle.table_model.specs.declared.reply.Reply.{Reply}
use Rattle.table_model.specs.Requests.{Request, Commit}
use Rattle.table_model.specs.Machines.{IsMachine}
use Rattle.table_model.specs.Steps.{Step, table_committed}

pub record View (S : Type 0) : Type 0 where
  pub machine : Machine
  pub session : S
  pub disk : List ℕ

-- what sessions of a type S mean
pub record Meaning (S : Type 0) : Type 1 where
  -- The view shows the volume on its disk, where a crash now may leave these images.
  pub Shows : (List ℕ → Type 0) → View S → Type 0
  -- The image stands for the table.
  pub StandsFor : List ℕ → Table → Type 0
  -- The image stands for no table, and this is the first part of it that fails.
  pub FirstBad : List ℕ → Part → Type 0
  -- what the volume decided in a step from view to view
  pub pick : View S → Request → View S → Pick
  -- Where a part fails, there is no table.
  pub no_table : (d : List ℕ) (t : Table) (part : Part) → StandsFor d t → FirstBad d part → ⊥
  -- It shows where fewer images may be left,
  pub narrower : (may_leave fewer : List ℕ → Type 0) (v : View S) → ((d : List ℕ) → fewer d → may_leave d) → Shows may_leave v → Shows fewer v
  -- each of them stands for the committed table,
  pub stands : (may_leave : List ℕ → Type 0) (v : View S) (d : List ℕ) → Shows may_leave v → may_leave d → StandsFor d v.machine.committed
  -- and the machine keeps its rules.
  pub rules : (may_leave : List ℕ → Type 0) (v : View S) → Shows may_leave v → IsMachine v.machine

-- The view shows what stands outside now.
pub record ShowsNow {S : Type 0} (M : Meaning S) (w : Outside) (v : View S) : Type 0 where
  pub honest : IsTrue w.honest
  pub holds : w.disk ≡ Some v.disk
  pub shows : M.Shows w.images v

-- From the view the session, as it is now, stepped on the request to this reply and to a view that shows.
pub record Stepped {S : Type 0} (M : Meaning S) (before : View S) (r : Request) (told : Reply) (session : S) (w : Outside) : Type 0 where
  pub after : View S
  pub is : after.session ≡ session
  pub shows : ShowsNow M w after
  pub step : Step before.machine r (M.pick before r after) told after.machine

-- A commit begins with a transaction open.
abbrev pub IsOpenCommit : Machine → Request → Type 0
IsOpenCommit m r = (r ≡ Commit) × IsSome m.working

-- What a crash during the step leaves: the committed table before it, or in a commit that one or the next.
abbrev pub StandsDuring : {S : Type 0} → Meaning S → Machine → Request → List ℕ → Type 0
StandsDuring M m r d = M.StandsFor d m.committed ⊎ (IsOpenCommit m r × M.StandsFor d (table_committed m))
