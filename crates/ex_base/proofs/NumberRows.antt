-- Rows of a number of some width and a number of four bytes: what is spelled is read again, and what is read is spelled so.
use Rattle.std.proofs.Common.{◌≡◌, ℕ, zero, suc, ◌+◌, ◌-◌, ◌*◌, ◌<◌, ◌≤◌, ◌^◌, List, [], ◌∷◌, ◌++◌, length, take, drop, sym, ap, ◌∙◌, arith, append_assoc}
use Rattle.std.specs.List.{flat_map, AllByRecursion}
use Rattle.std.proofs.Math.Seq.{take-add}
use Rattle.std.proofs.lemmas.List.{drop-drop, drop_at, length-append, length-drop}
use Rattle.ex_base.specs.Bytes.{IsBytes}
use Rattle.ex_base.specs.Fields.{field_bytes, four_bytes, number_at}
use Rattle.ex_base.proofs.FieldLaws.{IsBytes-drop, field_is, four_is, number_at-drop}

-- A row is two numbers, the first of so many bytes, and so many rows are read one behind the other.
pub record AreRows {R : Type 0} (width : ℕ) (make : ℕ → ℕ → R) (one two : R → ℕ) (read : ℕ → List ℕ → List R) : Type 0 where
  pub whole : (row : R) → make (one row) (two row) ≡ row
  pub one_is : (a b : ℕ) → one (make a b) ≡ a
  pub two_is : (a b : ℕ) → two (make a b) ≡ b
  pub none : (bytes : List ℕ) → read 0 bytes ≡ []
  pub more : (n : ℕ) (bytes : List ℕ) → read (suc n) bytes ≡ make (number_at width bytes 0) (number_at 4 bytes width) ∷ read n (drop (width + 4) bytes)

module _ {R : Type 0} {width : ℕ} {make : ℕ → ℕ → R} {one two : R → ℕ} {read : ℕ → List ℕ → List R} (rows_are : AreRows width make one two read) where
  abbrev spelled : R → List ℕ
  spelled row = field_bytes width (one row) ++ four_bytes (two row)

  abbrev row_at : List ℕ → R
  row_at bytes = make (number_at width bytes 0) (number_at 4 bytes width)

  abbrev Fits : R → Type 0
  Fits row = (one row < 256 ^ width) × (two row < 2 ^ 32)

  pub length-row : (row : R) → length (spelled row) ≡ width + 4
  length-row row = omega (arith, length-append (field_bytes width (one row)) (four_bytes (two row)), (field_is width).len (one row), four_is.len (two row))

  pub length-rows : (rows : List R) → length (flat_map spelled rows) ≡ (width + 4) * length rows
  length-rows [] = omega arith
  length-rows (row ∷ rows) = omega (arith, length-append (spelled row) (flat_map spelled rows), length-row row, length-rows rows)

  pub length-read : (n : ℕ) (bytes : List ℕ) → length (read n bytes) ≡ n
  length-read zero bytes = ap length (rows_are.none bytes)
  length-read (suc n) bytes = ap length (rows_are.more n bytes) ∙ ap suc (length-read n (drop (width + 4) bytes))

  -- ---- one row after another

  pub read_step : (n i : ℕ) (bytes : List ℕ) → i < n → read (n - i) (drop ((width + 4) * i) bytes) ≡ row_at (drop ((width + 4) * i) bytes) ∷ read (n - (i + 1)) (drop ((width + 4) * (i + 1)) bytes)
  read_step n i bytes lt =
      let next : n - i ≡ suc (n - (i + 1)) = omega arith in
      let at : (width + 4) * i + (width + 4) ≡ (width + 4) * (i + 1) = omega arith in
      let rest : drop (width + 4) (drop ((width + 4) * i) bytes) ≡ drop ((width + 4) * (i + 1)) bytes = drop-drop (width + 4) ((width + 4) * i) bytes ∙ ap (λ (k : ℕ). drop k bytes) at in
      ap (λ (k : ℕ). read k (drop ((width + 4) * i) bytes)) next ∙ rows_are.more (n - (i + 1)) (drop ((width + 4) * i) bytes) ∙ ap (λ (xs : List ℕ). row_at (drop ((width + 4) * i) bytes) ∷ read (n - (i + 1)) xs) rest

  -- ---- written, and read again

  pub row_again : (row : R) (rest : List ℕ) → Fits row → row_at (spelled row ++ rest) ≡ row
  row_again row rest fits =
      let parts : spelled row ++ rest ≡ field_bytes width (one row) ++ (four_bytes (two row) ++ rest) = append_assoc (field_bytes width (one row)) (four_bytes (two row)) rest in
      let first : number_at width (spelled row ++ rest) 0 ≡ one row = ap (λ (t : List ℕ). number_at width t 0) parts ∙ (field_is width).again (one row) _ fits.0 in
      let behind : drop width (spelled row ++ rest) ≡ four_bytes (two row) ++ rest = ap (λ (t : List ℕ). drop width t) parts ∙ drop_at (field_bytes width (one row)) _ width ((field_is width).len (one row)) in
      let second : number_at 4 (spelled row ++ rest) width ≡ two row = number_at-drop 4 (spelled row ++ rest) width ∙ ap (λ (t : List ℕ). number_at 4 t 0) behind ∙ four_is.again (two row) rest fits.1 in
      ap (λ (n : ℕ). make n (number_at 4 (spelled row ++ rest) width)) first ∙ ap (make (one row)) second ∙ rows_are.whole row

  pub rows_again : (rows : List R) (rest : List ℕ) → AllByRecursion Fits rows → read (length rows) (flat_map spelled rows ++ rest) ≡ rows
  rows_again [] rest fits = rows_are.none rest
  rows_again (row ∷ rows) rest fits =
      let parts : flat_map spelled (row ∷ rows) ++ rest ≡ spelled row ++ (flat_map spelled rows ++ rest) = append_assoc (spelled row) (flat_map spelled rows) rest in
      let first : row_at (flat_map spelled (row ∷ rows) ++ rest) ≡ row = ap row_at parts ∙ row_again row _ fits.0 in
      let behind : drop (width + 4) (flat_map spelled (row ∷ rows) ++ rest) ≡ flat_map spelled rows ++ rest = ap (λ (t : List ℕ). drop (width + 4) t) parts ∙ drop_at (spelled row) _ (width + 4) (length-row row) in
      let others : read (length rows) (drop (width + 4) (flat_map spelled (row ∷ rows) ++ rest)) ≡ rows = ap (read (length rows)) behind ∙ rows_again rows rest fits.1 in
      rows_are.more (length rows) (flat_map spelled (row ∷ rows) ++ rest) ∙ ap (λ (r : R). r ∷ read (length rows) (drop (width + 4) (flat_map spelled (row ∷ rows) ++ rest))) first ∙ ap (λ (rs : List R). row ∷ rs) others

  -- ---- read, and written so

  row_back : (bytes : List ℕ) → width + 4 ≤ length bytes → IsBytes bytes → spelled (row_at bytes) ≡ take (width + 4) bytes
  row_back bytes long fits =
      let count : field_bytes width (number_at width bytes 0) ≡ take width bytes = (field_is width).back bytes (omega arith) fits in
      let page : four_bytes (number_at 4 bytes width) ≡ take 4 (drop width bytes) = ap four_bytes (number_at-drop 4 bytes width) ∙ four_is.back (drop width bytes) (omega (arith, length-drop width bytes)) (IsBytes-drop width bytes fits) in
      ap (λ (n : ℕ). field_bytes width n ++ four_bytes (two (row_at bytes))) (rows_are.one_is (number_at width bytes 0) (number_at 4 bytes width))
      ∙ ap (λ (n : ℕ). field_bytes width (number_at width bytes 0) ++ four_bytes n) (rows_are.two_is (number_at width bytes 0) (number_at 4 bytes width))
      ∙ ap (λ (t : List ℕ). t ++ four_bytes (number_at 4 bytes width)) count ∙ ap (λ (t : List ℕ). take width bytes ++ t) page ∙ sym (take-add width 4 bytes)

  pub rows_back : (n : ℕ) (bytes : List ℕ) → (width + 4) * n ≤ length bytes → IsBytes bytes → flat_map spelled (read n bytes) ≡ take ((width + 4) * n) bytes
  rows_back zero bytes long fits =
      let none : (width + 4) * 0 ≡ 0 = omega arith in
      ap (flat_map spelled) (rows_are.none bytes) ∙ ap (λ (k : ℕ). take k bytes) (sym none)
  rows_back (suc n) bytes long fits =
      let first : spelled (row_at bytes) ≡ take (width + 4) bytes = row_back bytes (omega (arith, long)) fits in
      let rest : flat_map spelled (read n (drop (width + 4) bytes)) ≡ take ((width + 4) * n) (drop (width + 4) bytes) = rows_back n (drop (width + 4) bytes) (omega (arith, long, length-drop (width + 4) bytes)) (IsBytes-drop (width + 4) bytes fits) in
      let count : (width + 4) * suc n ≡ (width + 4) + (width + 4) * n = omega arith in
      ap (flat_map spelled) (rows_are.more n bytes) ∙ ap (λ (t : List ℕ). t ++ flat_map spelled (read n (drop (width + 4) bytes))) first ∙ ap (λ (t : List ℕ). take (width + 4) bytes ++ t) rest ∙ sym (take-add (width + 4) ((width + 4) * n) bytes) ∙ ap (λ (k : ℕ). take k bytes) (sym count)

  pub fields_read : (n : ℕ) (bytes : List ℕ) → IsBytes bytes → AllByRecursion Fits (read n bytes)
  fields_read zero bytes fits = rw (rows_are.none bytes) tt
  fields_read (suc n) bytes fits =
      let one_fits : one (row_at bytes) < 256 ^ width = rw (rows_are.one_is (number_at width bytes 0) (number_at 4 bytes width)) ((field_is width).below bytes 0 fits) in
      let two_fits : two (row_at bytes) < 2 ^ 32 = rw (rows_are.two_is (number_at width bytes 0) (number_at 4 bytes width)) (four_is.below bytes width fits) in
      rw (rows_are.more n bytes) ((one_fits, two_fits), fields_read n (drop (width + 4) bytes) (IsBytes-drop (width + 4) bytes fits))
