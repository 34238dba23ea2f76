-- What a summary over a lent host says holds whichever loans it has.
use Rattle.std.proofs.Common.{◌≡◌, ℕ, List, Result}
use Rattle.session_views.specs.declared.stop.Stop.{Stop}
use Rattle.session_core.specs.Meant.{meant}
use Rattle.session_core.specs.Sessions.{SessionState}
use Rattle.transactions.specs.declared.summary.Summary.{Summary}
use Rattle.lent_host.specs.Host.{outside_over}
use Rattle.lent_host.specs.Lent.{outside_of}
use Rattle.lent_host.specs.declared.host.Asked.{Asked}
use Rattle.lent_host.specs.declared.host.LentHost.{LentHost}
use Rattle.volume_calls.proofs.Lending.{same_lists}
use Rattle.volume_calls.proofs.Renamed.{on_ok, shows_renamed}
use Rattle.exsm_c.specs.Answers.{SumsOver}

sums_renamed : (file : List ℕ) (asked now : List Asked) (i a j b : ℕ) {session is : SessionState} (result : Result Summary Stop)
    → SumsOver session is (outside_of file asked i a) (outside_of file now j b) result → SumsOver session is (outside_of file asked 0 0) (outside_of file now 0 0) result
sums_renamed file asked now i a j b result over = record {
  sums = λ before same shows. over.sums before same (shows_renamed meant file asked 0 0 i a shows);
  shows = λ before same shows. on_ok result (λ told kept. shows_renamed meant file now j b 0 0 kept) (over.shows before same (shows_renamed meant file asked 0 0 i a shows));
}

-- a host that became another, over one file
pub sums_lent : (h k : LentHost) (file : List ℕ) (asked now : List Asked) → h.file.now.bytes ≡ file → h.asked.now.items ≡ asked → k.file.now.bytes ≡ file → k.asked.now.items ≡ now
    → {session last : SessionState} (result : Result Summary Stop) → SumsOver session last (outside_over h) (outside_over k) result
    → SumsOver session last (outside_of file asked 0 0) (outside_of file now 0 0) result
sums_lent h k file asked now from was same is {session} {last} result over =
    sums_renamed file asked now h.image.ghost_name h.asked.ghost_name k.image.ghost_name k.asked.ghost_name result
    (same_lists (λ f x g y. SumsOver session last (outside_of f x h.image.ghost_name h.asked.ghost_name) (outside_of g y k.image.ghost_name k.asked.ghost_name) result)
    h.file.now.bytes file h.asked.now.items asked k.file.now.bytes file k.asked.now.items now from was same is over)
