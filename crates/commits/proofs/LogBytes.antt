-- What is written lies in the log, or at the homes of the committed images.
use Rattle.std.proofs.Common.{◌≡◌, ◌<◌, ◌+◌, ◌*◌, ℕ, List, inl, inr, subst, arith}
use Rattle.ex_base.specs.declared.geometry.Geometry.{Geometry}
use Rattle.ex_base.specs.Sizes.{least_page}
use Rattle.disk_model.specs.Changes.{ChangesWithin, InRange, changes_trans, changes_wider}
use Rattle.disk_model.specs.Outside.{Outside}
use Rattle.meta_pages.specs.Homes.{InHomes}
use Rattle.op_log.specs.Records.{record_len}
use Rattle.op_log.specs.State.{LogState}
use Rattle.op_log.specs.declared.record.LogRecord.{LogRecord}
use Rattle.commits.specs.Written.{InLog, InLogOrHomes}

-- a record with the next gate
pub record_written : {a b : Outside} (log : LogState) (r : LogRecord) → log.end + record_len r < 256 * log.geometry.page_size
    → ChangesWithin (InRange (log.geometry.page_size + log.end) (record_len r + 1)) a b → ChangesWithin (InLog log.geometry.page_size) a b
record_written log r fits changes =
    changes_wider (InRange (log.geometry.page_size + log.end) (record_len r + 1)) (InLog log.geometry.page_size) changes
    (λ i inside. (omega (arith, inside.0), omega (arith, inside.1, fits)))

-- the images at home
pub images_written : {a b : Outside} (size : ℕ) (rows : List (ℕ × List ℕ)) → ChangesWithin (InHomes size rows) a b → ChangesWithin (InLogOrHomes size rows) a b
images_written size rows changes = changes_wider (InHomes size rows) (InLogOrHomes size rows) changes (λ i home. inr home)

-- and behind them what lies in the log
pub then_log : {a b c : Outside} (size : ℕ) (rows : List (ℕ × List ℕ)) → ChangesWithin (InLogOrHomes size rows) a b → ChangesWithin (InLog size) b c
    → ChangesWithin (InLogOrHomes size rows) a c
then_log size rows one two = changes_trans one (changes_wider (InLog size) (InLogOrHomes size rows) two (λ i log. inl log))

-- the images at home, and the first gate
pub home_and_gate : {a b c : Outside} (g h : Geometry) (rows : List (ℕ × List ℕ)) → h ≡ g → ChangesWithin (InHomes g.page_size rows) a b
    → ChangesWithin (InRange h.page_size 1) b c → ChangesWithin (InLogOrHomes g.page_size rows) a c
home_and_gate {a} {b} {c} g h rows same home gate =
    then_log g.page_size rows (images_written g.page_size rows home)
    (changes_wider (InRange g.page_size 1) (InLog g.page_size) (subst (λ (k : Geometry). ChangesWithin (InRange k.page_size 1) b c) same gate)
    (λ i inside. (inside.0, omega (arith, inside.1, least_page g))))
