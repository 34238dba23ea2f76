use Rattle.std.proofs.Common.{◌≤◌, ◌+◌, arith, subst}
use Rattle.std.specs.Prelude.{slice_index_or}
use Rattle.file_index.specs.declared.Entry.{Entry}
use Rattle.file_index.specs.Damage.{no_entry}
use Rattle.file_index.proofs.Ways.{any_default, place_goes, place_ends}
use Rattle.file_index.proofs.rows.place_of.Goals as goal

pub loop-at-preserved : goal.loop-at-preserved
loop-at-preserved c = record {
  inside = omega arith;
  low = λ some entry. subst (λ (e : Entry). e.key ≤ c.args.key) (any_default c.args.entries.now (c.loop-at.at + 1) no_entry entry c.loop-at-test.true) c.if-key-entries.false;
  so_far = place_goes c.args.key c.args.entries.now c.loop-at.at (slice_index_or c.args.entries.now (c.loop-at.at + 1) no_entry) (any_default c.args.entries.now (c.loop-at.at + 1) no_entry _ c.loop-at-test.true) c.loop-at-test.true c.if-key-entries.false c.loop-at.invariant.so_far;
}

pub returns-clause-is : goal.returns-clause-is
returns-clause-is c = place_ends c.args.key c.args.entries.now c.loop-at.at c.loop-at.invariant.inside c.loop-at-test.false c.loop-at.invariant.so_far
