use Rattle.std.proofs.Common.{◌≡◌, ◌++◌, map, drop}
use Rattle.std.specs.Prelude.{decimal}
use Rattle.script_replies.specs.Texts.{spaced, IsFront}
use Rattle.script_replies.proofs.replies.push_lengths.Given as goal

abbrev pub invariant-lengths : goal.invariant-lengths
invariant-lengths l = record {
  -- with the words that are left, all of them
  text : l.out.items ++ spaced (map decimal (drop l.length-index l.lengths)) ≡ l.initial.out.items ++ spaced (map decimal l.lengths);
  front : IsFront l.initial.out.items l.out.items;
}
