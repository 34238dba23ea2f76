use Rattle.std.proofs.Common.{◌<◌, ◌+◌, ◌-◌, ◌/◌, length, arith}
use Rattle.meta_pages.proofs.RowLists.{place_le, place_behind, place_before}
use Rattle.meta_pages.proofs.rows.place_of.Goals as goal

pub loop-low-init : goal.loop-low-init
loop-low-init g c = record { behind = omega arith; before = place_le c.args.page c.args.rows.now; within = omega arith }

pub loop-low-preserved-then-rows-middle : goal.loop-low-preserved-then-rows-middle
loop-low-preserved-then-rows-middle g c =
    let rows = c.args.rows.now in
    let low = c.loop-low.low in
    let middle = low + (c.loop-low.high - low) / 2 in
    let row = c.index-rows-middle.result in
    let inside : middle < length rows = omega (arith, c.loop-low-test.true, c.loop-low.invariant.within) in
    let found = place_behind c.args.page rows middle row c.requires inside c.if-rows-middle.true in
    record { behind = omega (arith, found); before = c.loop-low.invariant.before; within = c.loop-low.invariant.within }

pub loop-low-preserved : goal.loop-low-preserved
loop-low-preserved g c =
    let rows = c.args.rows.now in
    let low = c.loop-low.low in
    let middle = low + (c.loop-low.high - low) / 2 in
    let row = c.index-rows-middle.result in
    let inside : middle < length rows = omega (arith, c.loop-low-test.true, c.loop-low.invariant.within) in
    record {
      behind = c.loop-low.invariant.behind;
      before = place_before c.args.page rows middle row inside c.if-rows-middle.false;
      within = omega (arith, inside);
    }
