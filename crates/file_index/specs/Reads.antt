-- What a page has to show to be an index page, field by field.
use Rattle.std.specs.Prelude.{◌≡◌, ℕ, ◌+◌, ◌*◌, ◌≤◌, List, length, take, drop, slice_index}
use Rattle.ex_base.specs.Fields.{number_at, AreZero}
use Rattle.file_index.specs.IndexPage.{read_entries, RiseFrom}

-- The page has its head, keys that rise strictly, and zeros wherever nothing else stands.
pub record PageReads (page : List ℕ) : Type 0 where
  pub long : 16 ≤ length page
  pub kind : slice_index page 0 ≡ 4
  pub inner : 1 ≤ slice_index page 1
  pub gap : AreZero (take 4 (drop 4 page))
  pub second_gap : AreZero (take 4 (drop 12 page))
  pub some : 1 ≤ number_at 2 page 2
  pub room : 16 + 8 * number_at 2 page 2 ≤ length page
  pub rising : RiseFrom 0 (read_entries (number_at 2 page 2) (drop 16 page))
  pub rest : AreZero (drop (16 + 8 * number_at 2 page 2) page)
