-- What a command leaves of the open scans, where they are as they were.
use Rattle.std.proofs.Common.{◌≡◌, List, inl}
use Rattle.open_scans.specs.OpenScans.{OpenRow}
use Rattle.table_model.specs.Requests.{Request}
use Rattle.table_model.specs.Requests as request
use Rattle.transactions.specs.Scanning.{LeavesScans}

pub scans_stay : (old new : List OpenRow) (r : Request) → new ≡ old → LeavesScans old new r
scans_stay old new request.Begin same = same
scans_stay old new request.Commit same = same
scans_stay old new request.Abort same = same
scans_stay old new request.Checkpoint same = same
scans_stay old new request.Log same = same
scans_stay old new request.Files same = same
scans_stay old new request.Space same = same
scans_stay old new (request.File x) same = same
scans_stay old new (request.Unfile x) same = same
scans_stay old new (request.ListFile x) same = same
scans_stay old new (request.Create x y) same = same
scans_stay old new (request.Destroy x) same = same
scans_stay old new (request.Size x) same = same
scans_stay old new (request.Stat x) same = same
scans_stay old new (request.Digest x) same = same
scans_stay old new (request.Versions x) same = same
scans_stay old new (request.DropVersion x) same = same
scans_stay old new (request.Read x y z) same = same
scans_stay old new (request.Insert x y z) same = same
scans_stay old new (request.Append x y) same = same
scans_stay old new (request.Replace x y z) same = same
scans_stay old new (request.Delete x y z) same = same
scans_stay old new (request.Freeze x y) same = same
scans_stay old new (request.Derive x y) same = same
scans_stay old new (request.Group x y z) same = same
scans_stay old new (request.Scan x y z) same = inl same
scans_stay old new (request.Next x y) same = inl same
scans_stay old new (request.Close x) same = inl same
