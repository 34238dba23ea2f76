-- Where a commit and a checkpoint of a session write.
use Rattle.std.proofs.Common.{◌≡◌, ℕ, List, subst}
use Rattle.ex_base.specs.declared.geometry.Geometry.{Geometry}
use Rattle.disk_model.specs.Changes.{ChangesWithin, changes_nothing, changes_trans}
use Rattle.disk_model.specs.Outside.{Outside, ReadsOnly}
use Rattle.commits.specs.Written.{InLogOrHomes}
use Rattle.meta_pages.specs.Overlays.{Overlays}
use Rattle.session_core.specs.Commits.{WritesHome}
use Rattle.session_core.specs.Sessions.{SessionState}

-- nowhere, where the disk was read at most
pub home_unwritten : {a b : Outside} (s : SessionState) → ReadsOnly a b → WritesHome a b s
home_unwritten s reads = changes_nothing (InLogOrHomes s.geometry.page_size s.meta.committed) reads.nothing

-- and behind that where the volume's parts write, over the session's images
pub home_written : {a m b : Outside} (s : SessionState) (meta : Overlays) → ReadsOnly a m → meta.geometry ≡ s.geometry → meta.committed ≡ s.meta.committed
    → ChangesWithin (InLogOrHomes meta.geometry.page_size meta.committed) m b → WritesHome a b s
home_written {a} {m} {b} s meta reads geometry images changes =
    let in_rows = subst (λ (rows : List (ℕ × List ℕ)). ChangesWithin (InLogOrHomes meta.geometry.page_size rows) m b) images changes in
    changes_trans (home_unwritten s reads) (subst (λ (h : Geometry). ChangesWithin (InLogOrHomes h.page_size s.meta.committed) m b) geometry in_rows)
