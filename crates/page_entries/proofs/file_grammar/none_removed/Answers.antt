use Rattle.std.proofs.Common.{refl, arith}
use Rattle.std.proofs.lemmas.Option.{slice_get_within}
use Rattle.page_entries.specs.Said.{numbers_read}
use Rattle.page_entries.proofs.Numbers.{none_of}
use Rattle.page_entries.proofs.file_grammar.none_removed.Goals as goal

pub returns : goal.returns
returns c = (λ yes. none_of (numbers_read c.args.fields.now c.args.n 18) c.args.files.now.entries (λ k e here. c.loop-i.invariant k e (omega (arith, slice_get_within c.args.files.now.entries k e here, c.loop-i-test.false, c.len-i-end.ensures)) here), λ apart. refl)
