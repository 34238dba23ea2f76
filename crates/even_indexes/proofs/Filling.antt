-- A level while its pages are written, one share after the other.
use Rattle.std.proofs.Common.{◌≡◌, ◌<◌, ◌+◌, ℕ, zero, suc, List, [], ◌∷◌, ◌++◌, length, take, arith, sym, subst, ◌∙◌}
use Rattle.std.specs.Prelude.{slice_index_or}
use Rattle.std.specs.List.{AllByRecursion}
use Rattle.file_index.specs.declared.Entry.{Entry}
use Rattle.file_index.specs.Nodes.{heads}
use Rattle.even_indexes.specs.Levels.{AreOver, IsOver}

-- The next share gets its page.
pub over_more : (size : ℕ) (image : ℕ → List ℕ) (file_no level index : ℕ) (parts : List (List Entry)) (above : List Entry) (e : Entry) → index < length parts → AreOver size image file_no level (take index parts) above
    → IsOver size image file_no level (slice_index_or parts index []) e → AreOver size image file_no level (take (index + 1) parts) (above ++ e ∷ [])
over_more size image file_no level index [] above e inside over next = absurd (omega (arith, inside))
over_more size image file_no level zero (share ∷ parts) [] e inside over next = (next, tt)
over_more size image file_no level zero (share ∷ parts) (a ∷ above) e inside over next = absurd over
over_more size image file_no level (suc index) (share ∷ parts) [] e inside over next = absurd over
over_more size image file_no level (suc index) (share ∷ parts) (a ∷ above) e inside over next =
    let count : suc index + 1 ≡ suc (index + 1) = omega arith in
    subst (λ (n : ℕ). AreOver size image file_no level (take n (share ∷ parts)) (a ∷ (above ++ e ∷ []))) (sym count) (over.0, over_more size image file_no level index parts above e (omega (arith, inside)) over.1 next)

-- Where the pages of a level stay, so does what they are.
pub over_same : (size : ℕ) (old new : ℕ → List ℕ) (file_no level : ℕ) (parts : List (List Entry)) (above : List Entry) → AllByRecursion (λ page. new page ≡ old page) (heads above) → AreOver size old file_no level parts above
    → AreOver size new file_no level parts above
over_same size old new file_no level [] [] same over = tt
over_same size old new file_no level [] (e ∷ above) same over = absurd over
over_same size old new file_no level (share ∷ parts) [] same over = absurd over
over_same size old new file_no level (share ∷ parts) (e ∷ above) same over =
    (record { key = over.0.key; page = same.0 ∙ over.0.page }, over_same size old new file_no level parts above same.1 over.1)
