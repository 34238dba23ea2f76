-- How many pages are free and how many are touched, over several calls.
use Rattle.std.proofs.Common.{◌≡◌, ◌≤◌, ◌+◌, ℕ, arith}
use Rattle.file_index.specs.Index.{index_level_most}
use Rattle.file_index.specs.Touches.{index_touches}
use Rattle.file_bodies.specs.Touches.{body_touches, body_pages}

-- ---- over a call that touches none and leaves as many free

pub most_since : (a b e n : ℕ) → e ≤ b + n → b ≡ a → e ≤ a + n
most_since a b e n most same = omega arith

pub one_since : (a b e : ℕ) → e ≤ b + 1 → b ≡ a → e ≤ a + body_touches
one_since a b e most same = omega arith

pub free_since : (a b e n : ℕ) → b ≤ e + n → b ≡ a → a ≤ e + n
free_since a b e n few same = omega arith

pub free_still : (a b e : ℕ) → b ≤ e → b ≡ a → a ≤ e
free_still a b e few same = omega arith

pub as_many : (a e n : ℕ) → e ≡ a → a ≤ e + n
as_many a e n same = omega arith

pub more_same : (a e n : ℕ) → e ≡ a → e ≤ a + n
more_same a e n same = omega arith

-- ---- a page comes into a file or leaves it

pub touched_new : (a b c d : ℕ) → b ≤ a + 1 → c ≤ b + index_touches → d ≤ c + 1 → d ≤ a + body_touches
touched_new a b c d take add change = omega arith

pub touched_old : (a b c d e : ℕ) → b ≡ a → c ≤ b + index_touches → d ≤ c + 1 → e ≤ d + 1 → e ≤ a + body_touches
touched_old a b c d e same remove change give = omega arith

pub free_new : (a b c d level : ℕ) → b + 1 ≡ a → b ≤ c + (level + 1) → d ≡ c → level ≤ index_level_most → a ≤ d + body_pages
free_new a b c d level take add same most = omega arith

pub level_lower : (was now : ℕ) → now ≤ was → was ≤ index_level_most → now ≤ index_level_most
level_lower was now less most = omega arith

pub free_left : (a b c d : ℕ) → b ≡ a → b ≤ c → d ≡ c → a ≤ d
free_left a b c d kept more same = omega arith

pub no_fewer : (a e : ℕ) → e ≡ a → a ≤ e
no_fewer a e same = omega arith

pub free_enough : (a b level : ℕ) → b + 1 ≡ a → body_pages ≤ a → level ≤ index_level_most → level + 1 ≤ b
free_enough a b level take enough most = omega arith
