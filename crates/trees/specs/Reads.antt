-- What a page has to show to be a node, field by field.
use Rattle.std.specs.Prelude.{◌≡◌, ℕ, ◌+◌, ◌*◌, ◌≤◌, List, length, take, drop, slice_index}
use Rattle.ex_base.specs.Fields.{AreZero, number_at}
use Rattle.trees.specs.Split.{most_pairs}
use Rattle.trees.specs.declared.Pair.{Pair}
use Rattle.trees.specs.Node.{kind_of, pair_len, width_on, read_pairs, pairs_on, RiseFrom}
use Rattle.trees.specs.Rows.{parts_of, AreHalfFull}

-- all but the counts
pub record FrameReads (fan : ℕ) (page : List ℕ) : Type 0 where
  pub long : 8 ≤ length page
  pub kind : slice_index page 0 ≡ kind_of (width_on page)
  pub inner : 1 ≤ slice_index page 1
  pub gap : AreZero (take 4 (drop 4 page))
  pub some : 1 ≤ number_at 2 page 2
  pub few : number_at 2 page 2 ≤ most_pairs fan
  pub room : 8 + pair_len (width_on page) * number_at 2 page 2 ≤ length page
  pub rest : AreZero (drop (8 + pair_len (width_on page) * number_at 2 page 2) page)

pub record NodeReads (fan : ℕ) (page : List ℕ) : Type 0 where
  pub long : 8 ≤ length page
  pub kind : slice_index page 0 ≡ kind_of (width_on page)
  pub inner : 1 ≤ slice_index page 1
  pub gap : AreZero (take 4 (drop 4 page))
  pub some : 1 ≤ number_at 2 page 2
  pub few : number_at 2 page 2 ≤ most_pairs fan
  pub room : 8 + pair_len (width_on page) * number_at 2 page 2 ≤ length page
  pub rising : RiseFrom 0 (read_pairs (width_on page) (number_at 2 page 2) (drop 8 page))
  pub rest : AreZero (drop (8 + pair_len (width_on page) * number_at 2 page 2) page)

-- what a view of a node knows of its page
abbrev pub IsViewed : List ℕ → Type 0
IsViewed page = (1 ≤ length (pairs_on page)) × (8 + pair_len (width_on page) * length (pairs_on page) ≤ length page) × RiseFrom 0 (pairs_on page)

-- counts rise strictly from above a number, over leaves that are half full
abbrev pub AreLeavesRising : ℕ → ℕ → List Pair → Type 0
AreLeavesRising full before pairs = RiseFrom before pairs × AreHalfFull full (parts_of before pairs)
