-- Which groups the commands read through.
use Rattle.std.proofs.Common.{◌≡◌, List, Result, Err, refl, sym, subst}
use Rattle.buffer_groups.specs.Frames.{Frames}
use Rattle.open_scans.specs.OpenScans.{OpenRow}
use Rattle.session_core.specs.Sessions.{SessionState}
use Rattle.session_views.specs.declared.stop.Stop.{Stop}
use Rattle.table_model.specs.declared.reply.Reply.{Reply}
use Rattle.table_model.specs.Requests.{Request}
use Rattle.table_model.specs.Requests as request
use Rattle.transactions.specs.Scanning.{ReadsThrough}

-- one command, told by another name
pub of_no_scan : {r s : Request} (old : SessionState) (scans : List OpenRow) (groups : List Frames) (result : Result Reply Stop) → r ≡ s
    → ReadsThrough old scans groups s result → ReadsThrough old scans groups r result
of_no_scan old scans groups result is through = subst (λ (t : Request). ReadsThrough old scans groups t result) (sym is) through

-- where nothing was done
pub none_through : (old : SessionState) (r : Request) (why : Stop) → ReadsThrough old old.scans old.groups r (Err why)
none_through old request.Begin why = tt
none_through old request.Commit why = tt
none_through old request.Abort why = tt
none_through old request.Checkpoint why = tt
none_through old request.Log why = tt
none_through old request.Files why = tt
none_through old request.Space why = tt
none_through old (request.File x) why = tt
none_through old (request.Unfile x) why = tt
none_through old (request.ListFile x) why = tt
none_through old (request.Create x y) why = tt
none_through old (request.Destroy x) why = tt
none_through old (request.Size x) why = tt
none_through old (request.Stat x) why = tt
none_through old (request.Digest x) why = tt
none_through old (request.Versions x) why = tt
none_through old (request.DropVersion x) why = tt
none_through old (request.Read x y z) why = tt
none_through old (request.Insert x y z) why = tt
none_through old (request.Append x y) why = tt
none_through old (request.Replace x y z) why = tt
none_through old (request.Delete x y z) why = tt
none_through old (request.Freeze x y) why = tt
none_through old (request.Derive x y) why = tt
none_through old (request.Group x y z) why = tt
none_through old (request.Scan x y z) why = tt
none_through old (request.Next x y) why = λ index at row here other apart. refl
none_through old (request.Close x) why = tt

-- where a stop is told in place of what came
pub stopped_through : (old : SessionState) (scans : List OpenRow) (groups : List Frames) (r : Request) (result : Result Reply Stop) (why : Stop)
    → ReadsThrough old scans groups r result → ReadsThrough old scans groups r (Err why)
stopped_through old scans groups request.Begin result why through = tt
stopped_through old scans groups request.Commit result why through = tt
stopped_through old scans groups request.Abort result why through = tt
stopped_through old scans groups request.Checkpoint result why through = tt
stopped_through old scans groups request.Log result why through = tt
stopped_through old scans groups request.Files result why through = tt
stopped_through old scans groups request.Space result why through = tt
stopped_through old scans groups (request.File x) result why through = tt
stopped_through old scans groups (request.Unfile x) result why through = tt
stopped_through old scans groups (request.ListFile x) result why through = tt
stopped_through old scans groups (request.Create x y) result why through = tt
stopped_through old scans groups (request.Destroy x) result why through = tt
stopped_through old scans groups (request.Size x) result why through = tt
stopped_through old scans groups (request.Stat x) result why through = tt
stopped_through old scans groups (request.Digest x) result why through = tt
stopped_through old scans groups (request.Versions x) result why through = tt
stopped_through old scans groups (request.DropVersion x) result why through = tt
stopped_through old scans groups (request.Read x y z) result why through = tt
stopped_through old scans groups (request.Insert x y z) result why through = tt
stopped_through old scans groups (request.Append x y) result why through = tt
stopped_through old scans groups (request.Replace x y z) result why through = tt
stopped_through old scans groups (request.Delete x y z) result why through = tt
stopped_through old scans groups (request.Freeze x y) result why through = tt
stopped_through old scans groups (request.Derive x y) result why through = tt
stopped_through old scans groups (request.Group x y z) result why through = tt
stopped_through old scans groups (request.Scan x y z) result why through = tt
stopped_through old scans groups (request.Next x y) result why through = through
stopped_through old scans groups (request.Close x) result why through = tt
