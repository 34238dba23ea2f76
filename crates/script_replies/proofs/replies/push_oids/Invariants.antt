use Rattle.std.proofs.Common.{◌≡◌, ◌++◌, map, drop}
use Rattle.script_replies.specs.ReplyText.{oid_word}
use Rattle.script_replies.specs.Texts.{spaced, IsFront}
use Rattle.script_replies.proofs.replies.push_oids.Given as goal

abbrev pub invariant-oids : goal.invariant-oids
invariant-oids l = record {
  -- with the words that are left, all of them
  text : l.out.items ++ spaced (map oid_word (drop l.oid-index l.oids)) ≡ l.initial.out.items ++ spaced (map oid_word l.oids);
  front : IsFront l.initial.out.items l.out.items;
}
