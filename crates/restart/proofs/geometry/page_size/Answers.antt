use Rattle.std.proofs.Common.{ℕ, ◌∙◌, arith}
use Rattle.restart.proofs.Superblocks.{page_size_on, held_long, too_small, super_is_bad}
use Rattle.restart.proofs.geometry.page_size.Goals as goal
use Rattle.restart.proofs.geometry.page_size.Goals.{then-size-gt-PAGE_SIZE_MOST-via-then-size-gt-PAGE_SIZE_MOST, then-size-gt-PAGE_SIZE_MOST-via-else-size-gt-PAGE_SIZE_MOST+then-from-have}

pub returns-then-have-lt-SMALLEST_PAGE-clause-bad : goal.returns-then-have-lt-SMALLEST_PAGE-clause-bad
returns-then-have-lt-SMALLEST_PAGE-clause-bad g c part is image holds =
    super_is_bad ℕ part image is (λ h super.
    let small = too_small image h super in
    let long = held_long (g.D.World.outside c.args.disk.now) image (g.D.World.is_world c.args.disk.now) holds in
    omega (arith, small.0, small.1, long, c.size-have.ensures, c.if-have-lt-SMALLEST_PAGE.true))

pub returns-then-size-gt-PAGE_SIZE_MOST-clause-bad : goal.returns-then-size-gt-PAGE_SIZE_MOST-clause-bad
returns-then-size-gt-PAGE_SIZE_MOST-clause-bad g c part is image holds =
    super_is_bad ℕ part image is (λ h super.
    let small = too_small image h super in
    let long = held_long (g.D.World.outside c.args.disk.now) image (g.D.World.is_world c.args.disk.now) holds in
    let size = c.get_u32-size.ensures ∙ page_size_on image h c.read.new.out super (c.in-Ok.ensures.bytes image holds) in
    elim c.then-size-gt-PAGE_SIZE_MOST.branch [
      | then-size-gt-PAGE_SIZE_MOST-via-then-size-gt-PAGE_SIZE_MOST w ↦ omega (arith, small.2, size, w.if-size-gt-PAGE_SIZE_MOST.true)
      | then-size-gt-PAGE_SIZE_MOST-via-else-size-gt-PAGE_SIZE_MOST+then-from-have w ↦ omega (arith, small.0, long, size, w.from.ensures, c.size-have.ensures, w.if-from-have.true)
    ])

pub returns-clause-found : goal.returns-clause-found
returns-clause-found g c image holds h super = c.get_u32-size.ensures ∙ page_size_on image h c.read.new.out super (c.in-Ok.ensures.bytes image holds)
