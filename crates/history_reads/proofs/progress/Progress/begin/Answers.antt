use Rattle.std.proofs.Common.{◌∙◌, refl}
use Rattle.history_items.specs.Heads.{stream_head}
use Rattle.history_fronts.specs.Fronts.{turn_by}
use Rattle.history_reads.proofs.Behind.{asks_at_start}
use Rattle.history_reads.proofs.Accepting.{begin_reads}
use Rattle.history_reads.proofs.Tables.{begun_lengths}
use Rattle.history_reads.proofs.progress.Progress.begin.Goals as goal

pub returns-clause-read : goal.returns-clause-read
returns-clause-read c = λ bytes are e.
    begin_reads c.args.geometry.now (stream_head c.args.head.now) _ bytes c.requires (record {
      geometry = refl;
      head = refl;
      leaves = refl;
      nodes = refl;
      files = refl;
      missing = refl;
      lengths = c.in_ok-make.ensures ∙ begun_lengths c.args.geometry.now (stream_head c.args.head.now);
      name = c.none.ensures;
      needs = c.none-2.ensures;
      numbers = c.make-2.ensures;
    }) are e

pub returns-clause-asking : goal.returns-clause-asking
returns-clause-asking c = asks_at_start c.args.geometry.now c.args.head.now.leaves 0 (turn_by (stream_head c.args.head.now) 0 0 0 0)
