use Rattle.std.proofs.Common.{◌≡◌, ◌∙◌, ◌<◌, ◌≤◌, ◌+◌, ◌-◌, ℕ, List, Bool, true, length, take, drop, slice_index_or, sym, ap, subst, arith}
use Rattle.std.proofs.lemmas.List.{get_or-take, get_or-drop, get_or_append_left, length-take, length-drop}
use Rattle.page_alloc.proofs.filled.Filled+bool.is_set_from.Goals as goal

pub returns-then-end-len : goal.returns-then-end-len
returns-then-end-len c set k from below =
    let run : List Bool = c.deref.result.now in
    let n : ℕ = c.args.at + c.args.count - c.args.at in
    let i : ℕ = k - c.args.at in
    let end : c.args.at + c.args.count ≤ length run = omega (arith, c.if-end-len.true, c.len.ensures, c.deref.ensures.len) in
    let inside : i < length (take n (drop c.args.at run)) = omega (arith, length-take n (drop c.args.at run), length-drop c.args.at run) in
    let at : slice_index_or (take n (drop c.args.at run)) i true ≡ slice_index_or run k true =
    get_or-take n (drop c.args.at run) i true (omega arith) ∙ get_or-drop c.args.at run i true ∙ ap (λ (j : ℕ). slice_index_or run j true) (let e : c.args.at + i ≡ k = omega arith in e) in
    let written : slice_index_or run k true ≡ true = sym at ∙ c.are_set.ensures set i true inside in
    let k_in : k < length c.self.inside.written.items = subst (λ (l : List Bool). k < length l) c.deref.ensures.value (omega arith) in
    subst (λ (whole : List Bool). slice_index_or whole k true ≡ true) c.self.view_is (get_or_append_left c.self.inside.written.items _ true k k_in ∙ subst (λ (l : List Bool). slice_index_or l k true ≡ true) c.deref.ensures.value written)
