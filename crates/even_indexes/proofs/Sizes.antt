-- How many pages are written, and in how many levels.
use Rattle.std.proofs.Common.{◌≡◌, ◌≤◌, ◌<◌, ◌+◌, ◌-◌, ◌*◌, ℕ, zero, suc, List, [], ◌∷◌, length, refl, ap, ◌∙◌, arith, lit≤, suc-add}
use Rattle.std.specs.List.{AllByRecursion}
use Rattle.std.proofs.lemmas.List.{length-append}
use Rattle.std.proofs.Math.Nat.{mul-le-mul_left, mul-le-mul_right}
use Rattle.ex_base.specs.declared.names.PageNo.{PageNo}
use Rattle.ex_base.specs.Even.{evenly}
use Rattle.ex_base.proofs.Spread.{IsLeast, cut_count, least_parts_is, length-evenly, some_part}
use Rattle.file_index.specs.declared.Entry.{Entry}
use Rattle.file_index.specs.IndexPage.{most_entries}
use Rattle.file_index.specs.Index.{Rises}
use Rattle.file_index.specs.Nodes.{heads}
use Rattle.even_indexes.specs.Levels.{AreOver, Written, pages_over, shares}

-- as many entries as shares
pub length-over : (size : ℕ) (image : ℕ → List ℕ) (file_no level : ℕ) (parts : List (List Entry)) (above : List Entry) → AreOver size image file_no level parts above → length above ≡ length parts
length-over size image file_no level [] [] over = refl
length-over size image file_no level [] (e ∷ above) over = absurd over
length-over size image file_no level (share ∷ rest) [] over = absurd over
length-over size image file_no level (share ∷ rest) (e ∷ above) over = omega (arith, length-over size image file_no level rest above over.1)

length-heads : (entries : List Entry) → length (heads entries) ≡ length entries
length-heads [] = refl
length-heads (e ∷ entries) = omega (arith, length-heads entries)

module _ (size : ℕ) (large : 512 ≤ size) where
  -- a page of an index has room for 62 entries
  pub many_entries : 62 ≤ most_entries size
  many_entries = omega (arith, large)

  pub least_pages : (n : ℕ) → IsLeast (most_entries size) n (pages_over size n)
  least_pages n = least_parts_is (most_entries size) n (omega (arith, many_entries))

  pub length-shares : (below : List Entry) → 1 ≤ length below → length (shares size below) ≡ pages_over size (length below)
  length-shares below some =
      let parts : ℕ = pages_over size (length below) in
      let pos = some_part (most_entries size) (length below) (pages_over size (length below)) (least_pages (length below)) some in
      cut_count (evenly (pages_over size (length below)) (length below)) below ∙ length-evenly (pages_over size (length below)) (length below) pos

  -- ---- levels

  -- sixty-two times as many for each level
  abbrev pub many : ℕ → ℕ
  many zero = 1
  many (suc n) = 62 * many n

  -- Five levels would need more entries than a volume has pages.
  pub too_many : (n : ℕ) → 14776336 ≤ many (n + 4)
  too_many zero = lit≤ tt
  too_many (suc n) =
      let next : many (suc n + 4) ≡ 62 * many (n + 4) = ap many (suc-add n 4) in
      omega (arith, too_many n, next)

  -- So many pages hold no fewer entries.
  holds_more : (n parts total : ℕ) → n + 1 ≤ parts → parts * most_entries size < total + most_entries size → 62 * n + 1 ≤ total
  holds_more n parts total enough least =
      let parts_hold : (n + 1) * most_entries size ≤ parts * most_entries size = mul-le-mul_right (most_entries size) enough in
      let each : 62 * n ≤ most_entries size * n = mul-le-mul_right n many_entries in
      omega arith

  pub high_levels : (image : ℕ → List ℕ) (file_no n level : ℕ) (below : List Entry) (root : PageNo) (written : List ℕ) → Written size image file_no (suc n) level below root written → many n + 1 ≤ length below
  high_levels image file_no zero level below root written step = omega (arith, step.two)
  high_levels image file_no (suc n) level below root written step =
      let enough = high_levels image file_no n (suc level) step.above root step.later step.follows in
      let count : length step.above ≡ pages_over size (length below) = length-over size image file_no (suc level) (shares size below) step.above step.over ∙ length-shares below (omega (arith, step.two)) in
      let least : length step.above * most_entries size < length below + most_entries size = rw count (least_pages (length below)).least in
      holds_more (many n) (length step.above) (length below) enough least

  -- ---- pages

  few_parts : (parts total : ℕ) → 1 ≤ parts → parts * most_entries size < total + most_entries size → 62 * parts ≤ total + 61
  few_parts parts total some least =
      let is : parts ≡ (parts - 1) + 1 = omega (arith, some) in
      let fewer : (parts - 1) * 62 ≤ (parts - 1) * most_entries size = mul-le-mul_left (parts - 1) many_entries in
      let whole : ((parts - 1) + 1) * most_entries size < total + most_entries size = rw (← is) least in
      omega arith

  pub few_written : (image : ℕ → List ℕ) (file_no levels level : ℕ) (below : List Entry) (root : PageNo) (written : List ℕ) → Written size image file_no levels level below root written
      → 61 * length written + 1 ≤ length below + 61 * levels
  few_written image file_no zero level below root written top = omega (arith, ap length top.none, ap length top.one)
  few_written image file_no (suc levels) level below root written step =
      let count : length step.above ≡ pages_over size (length below) = length-over size image file_no (suc level) (shares size below) step.above step.over ∙ length-shares below (omega (arith, step.two)) in
      let least : length step.above * most_entries size < length below + most_entries size = rw count (least_pages (length below)).least in
      let some : 1 ≤ length step.above = rw count (some_part (most_entries size) (length below) (pages_over size (length below)) (least_pages (length below)) (omega (arith, step.two))) in
      let later = few_written image file_no levels (suc level) step.above root step.later step.follows in
      let all_of : length written ≡ length step.above + length step.later = ap length step.all ∙ length-append (heads step.above) step.later ∙ ap (λ (n : ℕ). n + length step.later) (length-heads step.above) in
      omega (arith, few_parts (length step.above) (length below) some least, later, all_of)

-- numbers that rise are no more than there are below a bound
pub few_below : (bound first : ℕ) (xs : List ℕ) → first ≤ bound → Rises first xs → AllByRecursion (λ x. x < bound) xs → first + length xs ≤ bound
few_below bound first [] le rises each = omega (arith, le)
few_below bound first (x ∷ xs) le rises each = omega (arith, rises.0, few_below bound (x + 1) xs (omega (arith, each.0)) rises.1 each.1)
