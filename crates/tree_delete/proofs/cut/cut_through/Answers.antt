use Rattle.std.proofs.Common.{◌≡◌, ◌⊎◌, ℕ, arith, ap, ◌∙◌, max, refl, ◌-◌, inl, inr, take, drop, ◌++◌, [], List}
use Rattle.std.proofs.lemmas.Bool.{cases_lt}
use Rattle.std.proofs.lemmas.List.{take_rest}
use Rattle.trees.specs.declared.rows.Part.{Part}
use Rattle.trees.specs.Rows.{row_size}
use Rattle.tree_delete.proofs.CutLaws.{cut_is, order_is, gone_fits, piece_most, no_more, right_fits}
use Rattle.tree_delete.proofs.cut.cut_through.Goals as goal

either : (a b m : ℕ) → m ≡ max a b → (m ≡ a) ⊎ (m ≡ b)
either a b m is = elim (cases_lt b a) [
  | inl lt ↦ inl (omega arith)
  | inr le ↦ inr (omega arith)
]

pub overflow_sub-right_start : goal.overflow_sub-right_start
overflow_sub-right_start c =
    order_is c.args.row.now c.args.at c.args.len c.place-first.result.0 c.place-first.result.1 c.place-last.result.0 c.place-last.result.1 c.behind-lead_end.result c.behind-right_start.result c.max-tail_start.result c.place-first.ensures c.place-last.ensures c.requires.inside
    c.behind-lead_end.ensures.none c.behind-lead_end.ensures.some c.behind-right_start.ensures.none c.behind-right_start.ensures.some (either c.behind-lead_end.result c.place-last.result.0 c.max-tail_start.result c.max-tail_start.ensures)

pub overflow_sub-row : goal.overflow_sub-row
overflow_sub-row c =
    right_fits c.args.row.now c.args.at c.args.len c.place-first.result.0 c.place-first.result.1 c.place-last.result.0 c.place-last.result.1 c.behind-lead_end.result c.behind-right_start.result c.place-first.ensures c.place-last.ensures c.requires.inside
    c.behind-lead_end.ensures.none c.behind-lead_end.ensures.some c.behind-right_start.ensures.none c.behind-right_start.ensures.some

pub bytes_of-requires : goal.bytes_of-requires
bytes_of-requires c = omega (arith, ap row_size c.piece-gone.ensures, piece_most c.args.row.now c.behind-lead_end.result c.max-tail_start.result, c.requires.limit)

pub overflow_sub-result : goal.overflow_sub-result
overflow_sub-result c =
    omega (
      arith,
      c.bytes_of.ensures,
      ap row_size c.piece-gone.ensures,
      gone_fits c.args.row.now c.args.at c.args.len c.place-first.result.0 c.place-first.result.1 c.place-last.result.0 c.place-last.result.1 c.behind-lead_end.result c.behind-right_start.result c.max-tail_start.result c.place-first.ensures c.place-last.ensures c.requires.inside
          c.behind-lead_end.ensures.none c.behind-lead_end.ensures.some c.behind-right_start.ensures.none c.behind-right_start.ensures.some (omega (arith, c.max-tail_start.ensures)) (either c.behind-lead_end.result c.place-last.result.0 c.max-tail_start.result c.max-tail_start.ensures),
    )

pub returns : goal.returns
returns c =
    cut_is c.args.row.now c.args.at c.args.len c.place-first.result.0 c.place-first.result.1 c.place-last.result.0 c.place-last.result.1 c.behind-lead_end.result c.behind-right_start.result c.max-tail_start.result _ c.place-first.ensures c.place-last.ensures c.requires.inside
    c.behind-lead_end.ensures.none c.behind-lead_end.ensures.some c.behind-right_start.ensures.none c.behind-right_start.ensures.some (omega (arith, c.max-tail_start.ensures)) (omega (arith, c.max-tail_start.ensures)) (either c.behind-lead_end.result c.place-last.result.0 c.max-tail_start.result c.max-tail_start.ensures)
    (c.in_ok-joined.ensures ∙ no_more _) (c.in_ok-joined-2.ensures ∙ ap (λ (xs : List Part). xs ++ (c.piece-tail.result.now ++ [])) c.piece-lead.ensures ∙ ap (λ (xs : List Part). take (c.behind-lead_end.result - c.place-first.result.0) (drop c.place-first.result.0 c.args.row.now) ++ xs) (no_more c.piece-tail.result.now ∙ c.piece-tail.ensures)) (c.in_ok-joined-3.ensures ∙ no_more c.piece-rest.result.now ∙ c.piece-rest.ensures ∙ take_rest c.args.row.now c.behind-right_start.result) refl (omega (arith, c.bytes_of.ensures, ap row_size c.piece-gone.ensures))
