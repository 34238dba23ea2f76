use Rattle.std.proofs.Common.{◌≡◌, is_ok, subst, sym}
use Rattle.std.specs.Prelude.{◌↔◌, Contains, IsTrue}
use Rattle.history_counts.proofs.Searched.{found}
use Rattle.history_counts.proofs.file_numbers.FileNumbers.has.Goals as goal

pub returns : goal.returns
returns c =
    let numbers : c.deref.result.now ≡ c.args.self.now.numbers = cc (c.deref.ensures.value) in
    let test : c.is_ok.result ≡ is_ok c.binary_search.result = cc (c.is_ok.ensures.value) in
    subst (λ b. IsTrue b ↔ Contains c.args.self.now.numbers c.args.number) (sym test)
    (found c.args.self.now.numbers c.args.number c.binary_search.result c.requires (rw numbers at c.binary_search.ensures.position))
