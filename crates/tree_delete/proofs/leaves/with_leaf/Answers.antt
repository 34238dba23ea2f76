use Rattle.std.proofs.Common.{arith, rules, ap, refl, sym, ◌≤◌, ◌∙◌, ◌++◌, ◌∷◌, [], List, inl, inr, length, true≢false}
use Rattle.std.proofs.lemmas.List.{append-nil}
use Rattle.trees.specs.declared.rows.Part.{Part}
use Rattle.trees.specs.Rows.{row_size}
use Rattle.tree_delete.specs.Beside.{takes_before, takes_behind}
use Rattle.std.specs.Vec.{vec_len}
use Rattle.tree_delete.proofs.Beside.{none_there}
use Rattle.tree_delete.proofs.LeafLaws.{wider_same, wider_left, wider_right, run_most, left_most, last_size, first_gone}
use Rattle.tree_delete.proofs.leaves.with_leaf.Goals.{then-rest-eq0-via-then-rest-eq0, then-rest-eq0-via-else-rest-eq0+then-full-rest}
use Rattle.ex_base.proofs.Handed.{no_value}
use Rattle.tree_delete.proofs.leaves.with_leaf.Goals as goal

pub bytes_of-requires : goal.bytes_of-requires
bytes_of-requires c = omega (arith, ap row_size c.deref.ensures.value, run_most c.args.cut, c.requires.limit)

pub returns-then-rest-eq0-clause-wider : goal.returns-then-rest-eq0-clause-wider
returns-then-rest-eq0-clause-wider c =
    wider_same c.args.full c.args.cut c.args.cut refl refl refl refl refl (λ some. elim c.then-rest-eq0.branch [
      | then-rest-eq0-via-then-rest-eq0 w ↦ inl (omega (arith, w.if-rest-eq0.true, c.bytes_of.ensures, ap row_size c.deref.ensures.value))
      | then-rest-eq0-via-else-rest-eq0+then-full-rest w ↦ inr (omega (arith, w.if-full-rest.true, c.bytes_of.ensures, ap row_size c.deref.ensures.value))
    ])

pub overflow_add-result : goal.overflow_add-result
overflow_add-result c =
    let near = last_size c.args.cut.left.items c.pop.new.self.items c.in-Some.near c.in-Some.ensures.items in
    let most = left_most c.args.cut in
    search rules

pub returns-in-Some-clause-wider : goal.returns-in-Some-clause-wider
returns-in-Some-clause-wider c =
    wider_left c.args.full c.args.cut _ c.in-Some.near c.in-Some.ensures.items (c.in_ok-joined.ensures ∙ ap (λ (xs : List Part). (c.in-Some.near ∷ []) ++ (xs ++ [])) c.deref-in-Some.ensures.value) refl refl refl c.requires.inside
    (λ none. c.if-rest-eq0.false (omega (arith, c.bytes_of.ensures, ap row_size c.deref.ensures.value))) (omega (arith, c.if-full-rest.false, c.bytes_of.ensures, ap row_size c.deref.ensures.value))

pub returns-clause-wider : goal.returns-clause-wider
returns-clause-wider c =
    let some : 1 ≤ length c.args.cut.right.items = omega (arith, c.remove-near.ensures.len, c.args.cut.right.ok.0) in
    wider_right c.args.full c.args.cut _ c.remove-near.result (first_gone c.args.cut.right.items c.remove-near.new.self.items c.remove-near.result some c.remove-near.ensures.value c.remove-near.ensures.items)
    (c.in_ok-joined-2.ensures ∙ ap (λ (xs : List Part). xs ++ ((c.remove-near.result ∷ []) ++ [])) c.deref-2.ensures.value) (sym (append-nil c.pop.new.self.items) ∙ sym c.in_default.ensures.items) refl refl c.requires.inside
    (λ none. c.if-rest-eq0.false (omega (arith, c.bytes_of.ensures, ap row_size c.deref.ensures.value))) (omega (arith, c.if-full-rest.false, c.bytes_of.ensures, ap row_size c.deref.ensures.value))

pub returns-then-rest-eq0-clause-near : goal.returns-then-rest-eq0-clause-near
returns-then-rest-eq0-clause-near c = λ some less. absurd (elim c.then-rest-eq0.branch [
  | then-rest-eq0-via-then-rest-eq0 w ↦ omega (arith, some, w.if-rest-eq0.true, c.bytes_of.ensures, ap row_size c.deref.ensures.value)
  | then-rest-eq0-via-else-rest-eq0+then-full-rest w ↦ omega (arith, less, w.if-full-rest.true, c.bytes_of.ensures, ap row_size c.deref.ensures.value)
])

pub returns-in-Some-clause-near : goal.returns-in-Some-clause-near
returns-in-Some-clause-near c = λ some less.
    takes_before c.pop.new.self.items c.in-Some.near c.in-Some.ensures.items (c.in_ok-joined.ensures ∙ ap (λ (xs : List Part). (c.in-Some.near ∷ []) ++ (xs ++ [])) c.deref-in-Some.ensures.value ∙ ap (λ (xs : List Part). c.in-Some.near ∷ xs) (append-nil c.args.cut.run.items)) refl

pub returns-clause-near : goal.returns-clause-near
returns-clause-near c = λ some less.
    let one : 1 ≤ length c.args.cut.right.items = omega (arith, c.remove-near.ensures.len, c.args.cut.right.ok.0) in
    takes_behind c.remove-near.result c.remove-near.new.self.items (none_there (vec_len c.args.cut.left) c.args.cut.left.items (omega (arith, c.args.cut.left.ok.0)) (λ more. true≢false (sym (c.in_default.ensures.variant.1 more))))
    (first_gone c.args.cut.right.items c.remove-near.new.self.items c.remove-near.result one c.remove-near.ensures.value c.remove-near.ensures.items)
    (c.in_ok-joined-2.ensures ∙ ap (λ (xs : List Part). xs ++ ((c.remove-near.result ∷ []) ++ [])) c.deref-2.ensures.value) refl refl

-- ---- where memory is wanting

pub returns-in_err-joined-clause-wider : goal.returns-in_err-joined-clause-wider
returns-in_err-joined-clause-wider c = no_value c.from_residual.result _ _ c.from_residual.ensures.1

pub returns-in_err-joined-clause-near : goal.returns-in_err-joined-clause-near
returns-in_err-joined-clause-near c = no_value c.from_residual.result _ _ c.from_residual.ensures.1

pub returns-in_err-joined-2-clause-wider : goal.returns-in_err-joined-2-clause-wider
returns-in_err-joined-2-clause-wider c = no_value c.from_residual-in_err-joined-2.result _ _ c.from_residual-in_err-joined-2.ensures.1

pub returns-in_err-joined-2-clause-near : goal.returns-in_err-joined-2-clause-near
returns-in_err-joined-2-clause-near c = no_value c.from_residual-in_err-joined-2.result _ _ c.from_residual-in_err-joined-2.ensures.1
