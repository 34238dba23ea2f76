use Rattle.std.proofs.Common.{rules, ◌<◌, length, arith}
use Rattle.page_alloc.specs.Flags.{AllUsedBelow}
use Rattle.page_alloc.proofs.Counts.{free_inside}
use Rattle.page_alloc.proofs.Runs.{used_on, hints_kept}
use Rattle.page_alloc.proofs.search.first_free.Goals as goal

pub loop-full-init : goal.loop-full-init
loop-full-init c = record {
  group_hints = c.requires.group_hints;
  block_hints = c.requires.block_hints;
  low = c.requires.low;
  inside = free_inside c.args.used.now c.args.low c.requires.low c.requires.some;
}

pub note-requires-clause-groups : goal.note-requires-clause-groups
note-requires-clause-groups c =
    let all : AllUsedBelow c.args.used.now c.behind-at.result =
    used_on c.args.used.now c.loop-full.full c.loop-full.crowded c.loop-full.at c.behind-at.result c.loop-full.invariant.group_hints c.loop-full.invariant.block_hints c.loop-full.invariant.low (search rules) c.behind-at.ensures.between in
    let inside : c.behind-at.result < length c.args.used.now = free_inside c.args.used.now c.behind-at.result all c.requires.some in
    omega arith

pub note-requires-clause-blocks : goal.note-requires-clause-blocks
note-requires-clause-blocks c =
    let all : AllUsedBelow c.args.used.now c.behind-at.result =
    used_on c.args.used.now c.loop-full.full c.loop-full.crowded c.loop-full.at c.behind-at.result c.loop-full.invariant.group_hints c.loop-full.invariant.block_hints c.loop-full.invariant.low (search rules) c.behind-at.ensures.between in
    let inside : c.behind-at.result < length c.args.used.now = free_inside c.args.used.now c.behind-at.result all c.requires.some in
    omega arith

pub loop-full-preserved : goal.loop-full-preserved
loop-full-preserved c =
    let all : AllUsedBelow c.args.used.now c.behind-at.result =
    used_on c.args.used.now c.loop-full.full c.loop-full.crowded c.loop-full.at c.behind-at.result c.loop-full.invariant.group_hints c.loop-full.invariant.block_hints c.loop-full.invariant.low (search rules) c.behind-at.ensures.between in
    record {
      group_hints = hints_kept 128 _ _ _ _ (omega arith) c.loop-full.invariant.group_hints all c.note.ensures.groups;
      block_hints = hints_kept 16384 _ _ _ _ (omega arith) c.loop-full.invariant.block_hints all c.note.ensures.blocks;
      low = all;
      inside = free_inside c.args.used.now c.behind-at.result all c.requires.some;
    }
