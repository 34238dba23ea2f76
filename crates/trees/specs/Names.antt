-- The units that stand on a page as children.
use Rattle.std.specs.Prelude.{ℕ, ◌-◌, ◌/◌, min, List, length, map, drop}
use Rattle.ex_base.specs.Fields.{number_at}
use Rattle.trees.specs.declared.Pair.{Pair}
use Rattle.trees.specs.Node.{pair_len, width_on, read_pairs}

abbrev pub page_of_pair : Pair → ℕ
page_of_pair pair = pair.page.0

-- how many pairs are read from a page: as many as it says, and no more than it has room for
abbrev pub pairs_read : List ℕ → ℕ
pairs_read page = min (number_at 2 page 2) ((length page - 8) / pair_len (width_on page))

-- the units of the pairs that stand on a page, whether it is a node or not
unfoldable pub names_on : List ℕ → List ℕ
names_on page = map page_of_pair (read_pairs (width_on page) (pairs_read page) (drop 8 page))
