use Rattle.std.proofs.Common.{ℕ, ◌+◌, ◌*◌, ◌∙◌, ap, rules, arith}
use Rattle.ex_base.specs.Fields.{number_at}
use Rattle.trees.specs.Node.{pair_len}
use Rattle.trees.proofs.NameLaws.{name_fits, name_given}
use Rattle.trees.proofs.names.name_at.Goals as goal

pub overflow_mul-at : goal.overflow_mul-at
overflow_mul-at c =
    let fits = name_fits c.args.page.now c.args.index _ (c.pair_len.ensures ∙ ap pair_len c.requires.width) c.requires.index in
    search rules

pub overflow_add-at : goal.overflow_add-at
overflow_add-at c =
    let fits = name_fits c.args.page.now c.args.index _ (c.pair_len.ensures ∙ ap pair_len c.requires.width) c.requires.index in
    search rules

pub overflow_add-at-2 : goal.overflow_add-at-2
overflow_add-at-2 c =
    let fits = name_fits c.args.page.now c.args.index _ (c.pair_len.ensures ∙ ap pair_len c.requires.width) c.requires.index in
    let len = c.pair_len.ensures in
    let count = c.count_len.ensures in
    search rules

pub get_u32-requires : goal.get_u32-requires
get_u32-requires c = omega (arith, name_fits c.args.page.now c.args.index _ (c.pair_len.ensures ∙ ap pair_len c.requires.width) c.requires.index, c.pair_len.ensures, c.count_len.ensures)

pub returns : goal.returns
returns c =
    name_given c.args.page.now c.args.width c.args.index c.get_u32.result c.requires.width c.requires.index (c.get_u32.ensures
    ∙ ap (λ (k : ℕ). number_at 4 c.args.page.now (8 + k * c.args.index + c.count_len.result)) c.pair_len.ensures
    ∙ ap (λ (n : ℕ). number_at 4 c.args.page.now (8 + pair_len c.args.width * c.args.index + n)) c.count_len.ensures)
