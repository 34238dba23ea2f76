use Rattle.std.proofs.Common.{ℕ, ◌≡◌, ◌-◌, ◌/◌, ◌∙◌, sym, ap, min, length}
use Rattle.ex_base.specs.Fields.{number_at}
use Rattle.trees.specs.Node.{pair_len, width_on}
use Rattle.trees.proofs.NameLaws.{length-names}
use Rattle.trees.proofs.names.names_len.Goals as goal

pub returns : goal.returns
returns c =
    let len : c.pair_len.result ≡ pair_len (width_on c.args.page.now) = c.pair_len.ensures ∙ ap pair_len c.of.ensures in
    c.min.ensures ∙ ap (λ (n : ℕ). min n ((length c.args.page.now - 8) / c.pair_len.result)) c.get_u16.ensures
    ∙ ap (λ (k : ℕ). min (number_at 2 c.args.page.now 2) ((length c.args.page.now - 8) / k)) len ∙ sym (length-names c.args.page.now)
