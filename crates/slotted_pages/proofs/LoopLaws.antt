-- Loops over the fields of slots, the first slot's field last on the page.
use Rattle.std.proofs.Common.{◌≡◌, ℕ, zero, suc, ◌+◌, ◌-◌, ◌*◌, ◌<◌, List, [], ◌∷◌, ◌++◌, Option, Some, None, sym, ap, ◌∙◌, arith}
use Rattle.ex_base.specs.Fields.{number_at}
use Rattle.ex_base.proofs.Rows.{sum_of-append}
use Rattle.slotted_pages.specs.Reads.{added, read_lens, step_to, from_there, end_of}

-- one more field at the end
pub lens_more : (page : List ℕ) (n end : ℕ) → read_lens page (n + 1) end ≡ read_lens page n end ++ number_at 2 page (end - 4 * (n + 1) + 2) ∷ []
lens_more page zero end = ap (λ (k : ℕ). read_lens page k end) (let e : 0 + 1 ≡ 1 = omega arith in e) ∙ ap (λ (k : ℕ). number_at 2 page k ∷ []) (let e : end - 4 + 2 ≡ end - 4 * (0 + 1) + 2 = omega arith in e)
lens_more page (suc n) end =
    let place : end - 4 - 4 * (n + 1) + 2 ≡ end - 4 * (suc n + 1) + 2 = omega arith in
    ap (λ (k : ℕ). read_lens page k end) (let e : suc n + 1 ≡ suc (n + 1) = omega arith in e)
    ∙ ap (λ (t : List ℕ). number_at 2 page (end - 4 + 2) ∷ t) (lens_more page n (end - 4) ∙ ap (λ (k : ℕ). read_lens page n (end - 4) ++ number_at 2 page k ∷ []) place)

pub sum_more : (page : List ℕ) (n end : ℕ) → added (read_lens page (n + 1) end) ≡ added (read_lens page n end) + number_at 2 page (end - 4 * (n + 1) + 2)
sum_more page n end =
    ap added (lens_more page n end) ∙ sum_of-append (λ len. len) (read_lens page n end) (number_at 2 page (end - 4 * (n + 1) + 2) ∷ []) ∙ omega arith

-- where the bodies end from field i on
pub end_step : (limit n i size at offset len : ℕ) (page : List ℕ) → i < n → offset ≡ number_at 2 page (size - 4 * (i + 1)) → len ≡ number_at 2 page (size - 4 * (i + 1) + 2) → end_of limit page (n - i) (size - 4 * i) at ≡ from_there (step_to limit at offset len) (λ next. end_of limit page (n - (i + 1)) (size - 4 * (i + 1)) next)
end_step limit n i size at offset len page lt a b =
    let next : n - i ≡ suc (n - (i + 1)) = omega arith in
    let place : size - 4 * i - 4 ≡ size - 4 * (i + 1) = omega arith in
    ap (λ (k : ℕ). end_of limit page k (size - 4 * i) at) next
    ∙ ap (λ (k : ℕ). from_there (step_to limit at (number_at 2 page k) (number_at 2 page (k + 2))) (λ next. end_of limit page (n - (i + 1)) k next)) place
    ∙ ap (λ (o : ℕ). from_there (step_to limit at o (number_at 2 page (size - 4 * (i + 1) + 2))) (λ next. end_of limit page (n - (i + 1)) (size - 4 * (i + 1)) next)) (sym a)
    ∙ ap (λ (l : ℕ). from_there (step_to limit at offset l) (λ next. end_of limit page (n - (i + 1)) (size - 4 * (i + 1)) next)) (sym b)

pub end_goes : (limit n i size at offset len next : ℕ) (page : List ℕ) (all : Option ℕ) → i < n → offset ≡ number_at 2 page (size - 4 * (i + 1)) → len ≡ number_at 2 page (size - 4 * (i + 1) + 2) → Some next ≡ step_to limit at offset len → all ≡ end_of limit page (n - i) (size - 4 * i) at → all ≡ end_of limit page (n - (i + 1)) (size - 4 * (i + 1)) next
end_goes limit n i size at offset len next page all lt a b e is =
    is ∙ end_step limit n i size at offset len page lt a b ∙ ap (λ (o : Option ℕ). from_there o (λ next. end_of limit page (n - (i + 1)) (size - 4 * (i + 1)) next)) (sym e)

pub end_stops : (limit n i size at offset len : ℕ) (page : List ℕ) (all : Option ℕ) → i < n → offset ≡ number_at 2 page (size - 4 * (i + 1)) → len ≡ number_at 2 page (size - 4 * (i + 1) + 2) → None ≡ step_to limit at offset len → all ≡ end_of limit page (n - i) (size - 4 * i) at → None ≡ all
end_stops limit n i size at offset len page all lt a b e is =
    ap (λ (o : Option ℕ). from_there o (λ next. end_of limit page (n - (i + 1)) (size - 4 * (i + 1)) next)) e ∙ sym (end_step limit n i size at offset len page lt a b) ∙ sym is
