use Rattle.std.proofs.Common.{◌∙◌, sym, ap, List, ℕ, length}
use Rattle.std.proofs.lemmas.Option.{same_Some}
use Rattle.ex_base.specs.Bytes.{part}
use Rattle.lent_host.proofs.host.LentHostDisk.read.Goals as goal

pub returns-clause-bytes : goal.returns-clause-bytes
returns-clause-bytes c d holds =
    c.read_from.ensures.bytes ∙ ap (λ (l : List ℕ). part l c.args.at (length c.args.out.now)) (sym c.args.self.now.lent ∙ same_Some _ d holds)
