use Rattle.std.proofs.Common.{ℕ, ◌+◌, ◌*◌, map, sym, subst, refl, arith, ◌≡◌, inl, inr, rules}
use Rattle.std.proofs.lemmas.Bool.{cases_lt}
use Rattle.ex_base.specs.Fields.{number_at}
use Rattle.std.specs.Prelude.{Contains}
use Rattle.object_files.specs.Catalog.{number_of}
use Rattle.page_entries.proofs.Numbers.{each_number, number_has}
use Rattle.page_entries.proofs.file_changes.are_there.Goals as goal

pub returns-then-not-has_number : goal.returns-then-not-has_number
returns-then-not-has_number c = (
  λ t. absurd cc,
  λ all.
      let test = c.has_number.ensures.1 (subst (λ (x : ℕ). Contains (map number_of c.args.files.now.entries) x) (sym c.get_u32.ensures) (number_has c.args.fields.now c.args.n c.loop-i.i (λ x. Contains (map number_of c.args.files.now.entries) x) c.loop-i-test.true all)) in
      let not = c.if-not-has_number.true in absurd cc,
)

pub returns : goal.returns
returns c = (λ t. each_number c.args.fields.now c.args.n (λ x. Contains (map number_of c.args.files.now.entries) x) (λ k lt. c.loop-i.invariant k (omega (arith, c.loop-i-test.false))), λ all. refl)

pub loop-i-preserved : goal.loop-i-preserved
loop-i-preserved c = λ k lt. elim (cases_lt k c.loop-i.i) [
  | inl low ↦ c.loop-i.invariant k low
  | inr high ↦ subst (λ (j : ℕ). Contains (map number_of c.args.files.now.entries) (number_at 4 c.args.fields.now (18 + 4 * j))) (let e : c.loop-i.i ≡ k = omega arith in e)
      (subst (λ (x : ℕ). Contains (map number_of c.args.files.now.entries) x) c.get_u32.ensures (c.has_number.ensures.0 (search rules)))
]
