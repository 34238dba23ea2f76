use Rattle.std.proofs.Common.{ℕ, ◌∙◌, ap, sym, refl}
use Rattle.std.specs.Prelude.{slice_set}
use Rattle.history_reads.proofs.Tables.{leaf_takes, made_lengths}
use Rattle.history_reads.proofs.progress.Progress.accept_leaf.Goals as goal

pub returns-clause-takes : goal.returns-clause-takes
returns-clause-takes c = λ leaf e.
    leaf_takes c.args.self.now _ leaf c.requires (record {
      geometry = refl;
      head = refl;
      leaves = refl;
      nodes = refl;
      files = refl;
      missing = refl;
      lengths = c.came.ensures ∙ ap (λ (n : ℕ). made_lengths (slice_set c.args.self.now.lengths.lengths c.args.self.now.leaves n) c.args.self.now.lengths.longest c.args.self.now.lengths.most) (sym e);
      name = refl;
      needs = refl;
      numbers = refl;
    })
