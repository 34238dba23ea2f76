-- What the opening of a volume gives.
use Rattle.std.specs.Prelude.{◌≡◌}
use Rattle.disk_model.specs.Outside.{Outside}
use Rattle.table_model.specs.declared.table.Table.{Table}
use Rattle.session_views.specs.View.{View, Meaning, ShowsNow}
use Rattle.session_views.specs.Opening.{IsStart}

-- The volume was opened: the view shows the table, with nothing else, on what stands outside, as a session does that was just opened.
pub record Opened {S : Type 0} (M : Meaning S) (Fresh : View S → Type 0) (table : Table) (session : S) (w : Outside) : Type 0 where
  pub view : View S
  pub is : view.session ≡ session
  pub starts : IsStart view.machine table
  pub shows : ShowsNow M w view
  pub fresh : Fresh view
