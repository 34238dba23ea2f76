-- How many entries there are at least, and which places stand among them.
use Rattle.std.proofs.Common.{◌≡◌, ◌≤◌, ◌<◌, ◌+◌, ◌-◌, ◌/◌, ℕ, Option, Some, None, ap, arith}
use Rattle.ex_base.specs.declared.geometry.Geometry.{Geometry}
use Rattle.ex_base.specs.Sizes.{least_page}
use Rattle.file_index.specs.IndexPage.{most_entries}
use Rattle.file_index.specs.Index.{least_entries}

-- what an index page has, and what has no fewer
pub some_entries : (g : Geometry) (least : Option ℕ) (n m : ℕ) → least_entries g.page_size least ≤ n → n ≤ m → 1 ≤ m
some_entries g None n m few le = omega (arith, few, le)
some_entries g (Some key) n m few le = omega (arith, few, le, least_page g)

-- the same, of a page that passed the test
pub enough_some : (g : Geometry) (size most : ℕ) {n : ℕ} → size ≡ g.page_size → most ≡ most_entries size → most / 2 ≤ n → 1 ≤ n
enough_some g size most same is enough = omega (arith, ap most_entries same, is, enough, least_page g)

-- the place before a place, or the first one, and the one behind it
pub first_inside : (at first n : ℕ) → first ≡ at - 1 → at < n → first < n
first_inside at first n is lt = omega (arith, is, lt)

pub second_inside : (at first n : ℕ) → first ≡ at - 1 → at < n → 2 ≤ n → first + 1 < n
second_inside at first n is lt two = omega (arith, is, lt, two)

-- of two entries one is left
pub left_some : (n m : ℕ) → 2 ≤ n → n ≤ m + 1 → 0 < m
left_some n m two le = omega (arith, two, le)

-- a page has the room of a head and of entries
pub page_long : (g : Geometry) (n : ℕ) → n ≡ g.page_size → 48 ≤ n
page_long g n is = omega (arith, is, least_page g)
