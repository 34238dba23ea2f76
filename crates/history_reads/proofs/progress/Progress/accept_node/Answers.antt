use Rattle.std.proofs.Common.{length, ◌∙◌, ap, refl}
use Rattle.history_model.specs.Dumps.{namings_on}
use Rattle.history_counts.specs.Lengths.{Lengths}
use Rattle.history_counts.proofs.Noted.{length-raised_by}
use Rattle.history_reads.proofs.Tables.{node_takes}
use Rattle.history_reads.proofs.progress.Progress.accept_node.Goals as goal

pub invariant_of-self : goal.invariant_of-self
invariant_of-self c = record {
  few_pages = c.args.self.now.few_pages;
  in_order = c.args.self.now.in_order;
  all_lengths = ap (λ (l : Lengths). length l.lengths) c.name_in_node.ensures ∙ c.args.self.now.all_lengths;
  all_longest = ap (λ (l : Lengths). length l.longest) c.name_in_node.ensures ∙ length-raised_by c.args.self.now.lengths.most c.args.self.now.lengths.longest (namings_on c.args.node.now) ∙ c.args.self.now.all_longest;
}

pub returns-clause-takes : goal.returns-clause-takes
returns-clause-takes c =
    node_takes c.args.self.now _ c.args.node.now c.requires.turn (record {
      geometry = refl;
      head = refl;
      leaves = refl;
      nodes = refl;
      files = refl;
      missing = refl;
      lengths = c.name_in_node.ensures;
      name = refl;
      needs = refl;
      numbers = refl;
    })
