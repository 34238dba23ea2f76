use Rattle.std.proofs.Common.{◌≡◌, ◌++◌, drop}
use Rattle.script_replies.specs.Texts.{spaced, IsFront}
use Rattle.script_replies.proofs.replies.push_names.Given as goal

abbrev pub invariant-names : goal.invariant-names
invariant-names l = record {
  -- with the words that are left, all of them
  text : l.out.items ++ spaced (drop l.name-index l.names) ≡ l.initial.out.items ++ spaced l.names;
  front : IsFront l.initial.out.items l.out.items;
}
