-- Pairs that are written are read again, and pairs that are read are written so.
use Rattle.std.proofs.Common.{◌≡◌, ℕ, ◌+◌, ◌-◌, ◌*◌, ◌<◌, ◌≤◌, ◌↔◌, List, ◌∷◌, ◌++◌, length, take, drop, refl, sym, ap, subst, ◌∙◌, arith}
use Rattle.std.specs.List.{flat_map, AllByRecursion}
use Rattle.std.proofs.Math.Nat.{mul-le-mul_left}
use Rattle.std.proofs.lemmas.List.{drop-drop}
use Rattle.ex_base.specs.Fields.{number_at}
use Rattle.ex_base.specs.Bytes.{IsBytes}
use Rattle.ex_base.proofs.FieldLaws.{number_at-drop}
use Rattle.ex_base.proofs.NumberRows.{AreRows, read_step as row_step, fields_read as row_fields, length-read, length-row, length-rows, rows_again, rows_back}
use Rattle.trees.specs.declared.Pair.{Pair}
use Rattle.trees.specs.declared.width.Width.{Width}
use Rattle.trees.specs.declared.width.Width.TheVariants.{Narrow, Wide}
use Rattle.trees.specs.Node.{count_len, pair_len, pair_bytes, pair_at, read_pairs, RiseFrom, HasPairFields}

-- ---- widths

pub some_pair : (w : Width) → 8 ≤ pair_len w
some_pair Narrow = omega arith
some_pair Wide = omega arith

-- a pair stands inside the bytes of all of them
pub pair_inside : (w : Width) (n i : ℕ) → i < n → pair_len w * i + pair_len w ≤ pair_len w * n
pair_inside w n i lt = omega (arith, mul-le-mul_left {m = i + 1} {n = n} (pair_len w) (omega arith))

-- pairs of as many bytes
pub pairs_fit : (w : Width) (k n most : ℕ) → k ≡ pair_len w → n ≤ most → k * n ≤ 12 * most
pairs_fit Narrow k n most is le = subst (λ (j : ℕ). j * n ≤ 12 * most) (sym is) (omega (arith, le))
pairs_fit Wide k n most is le = subst (λ (j : ℕ). j * n ≤ 12 * most) (sym is) (omega (arith, le))

-- a pair is its count and its page
abbrev pub made_pair : ℕ → ℕ → Pair
made_pair count page = record { count = count; page = record { 0 = page } }

are_rows : (w : Width) → AreRows (count_len w) made_pair (λ pair. pair.count) (λ pair. pair.page.0) (read_pairs w)
are_rows w = record {
  whole = λ pair. refl;
  one_is = λ count page. refl;
  two_is = λ count page. refl;
  none = λ bytes. refl;
  more = λ n bytes. refl;
}

-- ---- one pair after another

pub read_step : (w : Width) (n i : ℕ) (bytes : List ℕ) → i < n → read_pairs w (n - i) (drop (pair_len w * i) bytes) ≡ pair_at w (drop (pair_len w * i) bytes) ∷ read_pairs w (n - (i + 1)) (drop (pair_len w * (i + 1)) bytes)
read_step w n i bytes lt = row_step (are_rows w) n i bytes lt

-- the counts from pair i on rise from a number exactly where its own does, and those behind it from there
pub rise_step : (w : Width) (n i last : ℕ) (bytes : List ℕ) → i < n → RiseFrom last (read_pairs w (n - i) (drop (pair_len w * i) bytes)) ≡ ((last < number_at (count_len w) bytes (pair_len w * i)) × RiseFrom (number_at (count_len w) bytes (pair_len w * i)) (read_pairs w (n - (i + 1)) (drop (pair_len w * (i + 1)) bytes)))
rise_step w n i last bytes lt =
    ap (RiseFrom last) (read_step w n i bytes lt) ∙ ap (λ (count : ℕ). (last < count) × RiseFrom count (read_pairs w (n - (i + 1)) (drop (pair_len w * (i + 1)) bytes))) (sym (number_at-drop (count_len w) bytes (pair_len w * i)))

-- a pair from its two fields
pub pair_read : (w : Width) (bytes : List ℕ) (at count page : ℕ) → count ≡ number_at (count_len w) bytes at → page ≡ number_at 4 bytes (at + count_len w) → pair_at w (drop at bytes) ≡ made_pair count page
pair_read w bytes at count page a b =
    let four : number_at 4 (drop at bytes) (count_len w) ≡ number_at 4 bytes (at + count_len w) =
    number_at-drop 4 (drop at bytes) (count_len w) ∙ ap (λ (t : List ℕ). number_at 4 t 0) (drop-drop (count_len w) at bytes) ∙ sym (number_at-drop 4 bytes (at + count_len w)) in
    ap (λ (c : ℕ). made_pair c (number_at 4 (drop at bytes) (count_len w))) (sym (number_at-drop (count_len w) bytes at) ∙ sym a) ∙ ap (λ (c : ℕ). made_pair count c) (four ∙ sym b)

pub length-read_pairs : (w : Width) (n : ℕ) (bytes : List ℕ) → length (read_pairs w n bytes) ≡ n
length-read_pairs w n bytes = length-read (are_rows w) n bytes

-- ---- written, and read again

pub length-pair_bytes : (w : Width) (pair : Pair) → length (pair_bytes w pair) ≡ pair_len w
length-pair_bytes w pair = length-row (are_rows w) pair

pub pairs_again : (w : Width) (pairs : List Pair) (rest : List ℕ) → AllByRecursion (HasPairFields w) pairs → read_pairs w (length pairs) (flat_map (pair_bytes w) pairs ++ rest) ≡ pairs
pairs_again w pairs rest fits = rows_again (are_rows w) pairs rest fits

pub length-pairs : (w : Width) (pairs : List Pair) → length (flat_map (pair_bytes w) pairs) ≡ pair_len w * length pairs
length-pairs w pairs = length-rows (are_rows w) pairs

-- ---- read, and written so

pub pairs_back : (w : Width) (n : ℕ) (bytes : List ℕ) → pair_len w * n ≤ length bytes → IsBytes bytes → flat_map (pair_bytes w) (read_pairs w n bytes) ≡ take (pair_len w * n) bytes
pairs_back w n bytes long fits = rows_back (are_rows w) n bytes long fits

pub fields_read : (w : Width) (n : ℕ) (bytes : List ℕ) → IsBytes bytes → AllByRecursion (HasPairFields w) (read_pairs w n bytes)
fields_read w n bytes fits = row_fields (are_rows w) n bytes fits

-- ---- a loop over the counts

pub stops : (w : Width) (n i last count : ℕ) (bytes : List ℕ) → i < n → count ≡ number_at (count_len w) bytes (pair_len w * i) → count ≤ last → RiseFrom last (read_pairs w (n - i) (drop (pair_len w * i) bytes)) → ⊥
stops w n i last count bytes lt is le r =
    let both : (last < number_at (count_len w) bytes (pair_len w * i)) × RiseFrom (number_at (count_len w) bytes (pair_len w * i)) (read_pairs w (n - (i + 1)) (drop (pair_len w * (i + 1)) bytes)) = rw (rise_step w n i last bytes lt) at r in
    absurd (omega (arith, both.0))

pub goes_on : (w : Width) (All : Type 0) (n i last count : ℕ) (bytes : List ℕ) → i < n → count ≡ number_at (count_len w) bytes (pair_len w * i) → last < count → (All ↔ RiseFrom last (read_pairs w (n - i) (drop (pair_len w * i) bytes))) → (All ↔ RiseFrom count (read_pairs w (n - (i + 1)) (drop (pair_len w * (i + 1)) bytes)))
goes_on w All n i last count bytes lt is rises both =
    let Rest : ℕ → Type 0 = λ c. RiseFrom c (read_pairs w (n - (i + 1)) (drop (pair_len w * (i + 1)) bytes)) in
    let step = rise_step w n i last bytes lt in (
      λ all. let now : (last < number_at (count_len w) bytes (pair_len w * i)) × RiseFrom (number_at (count_len w) bytes (pair_len w * i)) (read_pairs w (n - (i + 1)) (drop (pair_len w * (i + 1)) bytes)) = rw step at (both.0 all) in rw is now.1,
      λ rest. both.1 (rw step (omega (arith, is, rises), rw is at rest)),
    )
