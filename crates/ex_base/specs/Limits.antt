-- The limits of the numbers that a volume is made with, and of a transaction.
use Rattle.std.specs.Prelude.{ℕ, ◌+◌, ◌*◌, ◌-◌, ◌/◌, Bool, ◌==◌, ◌||◌, IsTrue, ◌≤◌}
use Rattle.std.proofs.Common.{arith}
use Rattle.std.proofs.lemmas.Bool.Decides.{nat_tests}

abbrev pub is_page_size : ℕ → Bool
is_page_size n = n == 512 || n == 1024 || n == 2048 || n == 4096 || n == 8192

-- the pages of the log, behind the superblock
abbrev pub log_pages : ℕ
log_pages = 256

-- the most updates of a transaction, and so the most notes of a record of the log
abbrev pub updates_most : ℕ
updates_most = 512

-- the most logged pages that a transaction touches
abbrev pub touched_most : ℕ
touched_most = 128

-- The largest fan of a page size. A node of the largest fan has room for pairs of twelve bytes.
abbrev pub fan_most : ℕ → ℕ
fan_most page_size = (page_size - 20) / 24

-- The bytes of a volume: a superblock, 256 pages of log, the page area and the units.
abbrev pub volume_size : ℕ → ℕ → ℕ → ℕ → ℕ
volume_size page_size pages segs seg_len = (257 + pages + segs * seg_len) * page_size

pub page_size_least : (n : ℕ) → IsTrue (is_page_size n) → 512 ≤ n
page_size_least n is = grind (arith, nat_tests)

pub page_size_most : (n : ℕ) → IsTrue (is_page_size n) → n ≤ 8192
page_size_most n is = grind (arith, nat_tests)
