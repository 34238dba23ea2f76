-- How the contents of versions lie after a line.
use Rattle.std.specs.Prelude.{◌≡◌, [], Result, IfOk, ⊤}
use Rattle.disk_model.specs.Outside.{Outside}
use Rattle.object_records.specs.Record.{Small}
use Rattle.table_model.specs.declared.machine.Machine.{Machine}
use Rattle.table_model.specs.declared.reply.Reply.{Reply}
use Rattle.table_model.specs.declared.reply.Reply.TheVariants as reply
use Rattle.table_model.specs.Machines.{the_oid}
use Rattle.table_model.specs.Requests.{Request, given_bytes}
use Rattle.table_model.specs.Requests as request
use Rattle.session_views.specs.declared.stop.Stop.{Stop}
use Rattle.versions.specs.Versions.{Inserts, Appends, Replaces, Deletes}
use Rattle.session_core.specs.Contents.{CopyShaped, EditShaped, VolumePages, content_there, pages_on}
use Rattle.session_core.specs.Finding.{IfShown}
use Rattle.session_core.specs.Sessions.{SessionState}

-- What an accepted line makes of the contents of versions: a new object is small, an edited version lies as the rules of its edit say, and a copy has the
-- content of its version, which keeps it.
abbrev pub LineShaped : Machine → VolumePages → VolumePages → Request → Reply → Type 0
LineShaped m old new (request.Create file bind) (reply.Create made) = content_there new made ≡ Small []
LineShaped m old new (request.Insert x pos given) (reply.Insert size) = EditShaped old new (the_oid m x) (Inserts pos (given_bytes given))
LineShaped m old new (request.Append x given) (reply.Append size) = EditShaped old new (the_oid m x) (Appends (given_bytes given))
LineShaped m old new (request.Replace x pos given) (reply.Replace size) = EditShaped old new (the_oid m x) (Replaces pos (given_bytes given))
LineShaped m old new (request.Delete x pos len) (reply.Delete size) = EditShaped old new (the_oid m x) (Deletes pos len)
LineShaped m old new (request.Freeze x bind) (reply.Freeze made) = CopyShaped old new (the_oid m x) made
LineShaped m old new (request.Derive x bind) (reply.Derive made) = CopyShaped old new (the_oid m x) made
LineShaped m old new r told = ⊤

-- so does a step, from each view that shows
abbrev pub StepShaped : Outside → Outside → SessionState → SessionState → Request → Result Reply Stop → Type 0
StepShaped a b old new r result = IfOk result (λ told. IfShown a old (λ before. LineShaped before.machine (pages_on a old) (pages_on b new) r told))
