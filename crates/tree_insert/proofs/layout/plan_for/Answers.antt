use Rattle.std.proofs.Common.{rules, arith, ap, ◌<◌, ◌≤◌, ◌^◌, get_or, ℕ, Option, ◌∙◌, sym, take, drop, ◌+◌}
use Rattle.std.specs.Prelude.{unwrap_or}
use Rattle.ex_base.proofs.Each.{each_at, each_as}
use Rattle.trees.specs.declared.rows.Part.{Part}
use Rattle.trees.proofs.Reading.{no_part}
use Rattle.tree_insert.proofs.PlaceLaws.{read_most, left_most, read_size}
use Rattle.trees.specs.Layout.{insert_layout, append_layout}
use Rattle.trees.specs.Made.{sizes_of}
use Rattle.tree_insert.specs.Places.{last_of, first_of, size_at}
use Rattle.tree_insert.specs.Growth.{layout_by}
use Rattle.tree_insert.specs.declared.layout.Growth.{Growth}
use Rattle.tree_insert.proofs.layout.plan_for.Goals as goal

pub left_of-left-requires-clause-fits : goal.left_of-left-requires-clause-fits
left_of-left-requires-clause-fits c =
    let cap : c.args.cap < 2 ^ 32 = search rules in
    each_as (λ (part : Part). part.size ≤ c.args.cap) (λ (part : Part). part.size < 2 ^ 32) c.args.row.now (λ part le. omega (arith, le, cap)) c.requires.fits

pub right_of-right-requires-clause-fits : goal.right_of-right-requires-clause-fits
right_of-right-requires-clause-fits c =
    let cap : c.args.cap < 2 ^ 32 = search rules in
    each_as (λ (part : Part). part.size ≤ c.args.cap) (λ (part : Part). part.size < 2 ^ 32) c.args.row.now (λ part le. omega (arith, le, cap)) c.requires.fits

pub overflow_cast-size : goal.overflow_cast-size
overflow_cast-size c =
    let le : (get_or c.args.row.now c.args.index no_part).size ≤ c.args.cap = each_at (λ (part : Part). part.size ≤ c.args.cap) c.args.row.now c.args.index no_part c.requires.index c.requires.fits in
    search rules

pub plan_insert-requires-clause-total : goal.plan_insert-requires-clause-total
plan_insert-requires-clause-total c = omega (arith, read_most c.args.row.now c.args.index, c.requires.limit)

pub plan_append-requires-clause-total : goal.plan_append-requires-clause-total
plan_append-requires-clause-total c = omega (arith, left_most c.args.row.now c.args.index c.requires.index, ap (λ left. unwrap_or left 0) c.left_of-left.ensures, c.requires.limit)

pub returns-in-Insert-clause-layout : goal.returns-in-Insert-clause-layout
returns-in-Insert-clause-layout c =
    c.plan_insert.ensures.layout ∙ ap (λ (left : Option ℕ). insert_layout c.args.cap left (get_or c.args.row.now c.args.index no_part).size c.right_of-right.result c.args.n) c.left_of-left.ensures
    ∙ ap (λ (size : ℕ). insert_layout c.args.cap (last_of (sizes_of (take c.args.index c.args.row.now))) size c.right_of-right.result c.args.n) (read_size c.args.row.now c.args.index c.requires.index)
    ∙ ap (λ (right : Option ℕ). insert_layout c.args.cap (last_of (sizes_of (take c.args.index c.args.row.now))) (size_at c.args.row.now c.args.index) right c.args.n) c.right_of-right.ensures
    ∙ ap (λ (growth : Growth). layout_by growth c.args.cap (last_of (sizes_of (take c.args.index c.args.row.now))) (size_at c.args.row.now c.args.index) (first_of (sizes_of (drop (c.args.index + 1) c.args.row.now))) c.args.n) (sym c.in-Insert.is)

pub returns-in-Append-clause-layout : goal.returns-in-Append-clause-layout
returns-in-Append-clause-layout c =
    c.plan_append.ensures.layout ∙ ap (λ (left : Option ℕ). append_layout c.args.cap left (get_or c.args.row.now c.args.index no_part).size c.args.n) c.left_of-left.ensures
    ∙ ap (λ (size : ℕ). append_layout c.args.cap (last_of (sizes_of (take c.args.index c.args.row.now))) size c.args.n) (read_size c.args.row.now c.args.index c.requires.index)
    ∙ ap (λ (growth : Growth). layout_by growth c.args.cap (last_of (sizes_of (take c.args.index c.args.row.now))) (size_at c.args.row.now c.args.index) (first_of (sizes_of (drop (c.args.index + 1) c.args.row.now))) c.args.n) (sym c.in-Append.is)

pub returns-in-Insert-clause-usable : goal.returns-in-Insert-clause-usable
returns-in-Insert-clause-usable c = c.plan_insert.ensures.usable

pub returns-in-Append-clause-usable : goal.returns-in-Append-clause-usable
returns-in-Append-clause-usable c = c.plan_append.ensures.usable
