-- The counts of wide pairs over leaves: a loop counts those that don't rise by half to all of a full leaf's bytes.
use Rattle.std.proofs.Common.{◌≡◌, ℕ, ◌+◌, ◌-◌, ◌*◌, ◌/◌, ◌%◌, ◌<◌, ◌≤◌, ◌^◌, ◌↔◌, List, [], ◌∷◌, ◌++◌, drop, arith, sym, subst, ◌∙◌}
use Rattle.ex_base.specs.Fields.{number_at}
use Rattle.trees.specs.declared.Pair.{Pair}
use Rattle.trees.specs.declared.width.Width.TheVariants.{Wide}
use Rattle.trees.specs.Node.{pair_at, read_pairs}
use Rattle.trees.specs.Reads.{AreLeavesRising}
use Rattle.trees.specs.declared.rows.Part.{Part}
use Rattle.trees.specs.Rows.{AreHalfFull}
use Rattle.ex_base.proofs.Rows.{each-append}
use Rattle.trees.proofs.Rising.{RowSoFar, row_more, row_all}
use Rattle.trees.proofs.PairLaws.{read_step}
use Rattle.ex_base.proofs.FieldLaws.{number_at-drop}

-- a count stands above the one before by half to all of a full leaf's bytes
abbrev Fits : ℕ → ℕ → ℕ → Type 0
Fits full before count = (before < count) × (full / 2 ≤ count - before) × (count - before ≤ full)

-- what is left of a count behind the one before and the least, in 64 bits
abbrev pub excess : ℕ → ℕ → ℕ → ℕ
excess before least count = ((count + (2 ^ 64 - before)) % 2 ^ 64 + (2 ^ 64 - least)) % 2 ^ 64

fits_then : (full before least count : ℕ) → 2 ≤ full → full < 2 ^ 32 → before ≤ 2 ^ 48 → count < 2 ^ 64 → least ≡ full / 2
    → excess before least count ≤ full - least → Fits full before count
fits_then full before least count two narrow small fits half le = (omega arith, omega arith, omega arith)

then_fits : (full before least count : ℕ) → full < 2 ^ 32 → before ≤ 2 ^ 48 → count < 2 ^ 64 → least ≡ full / 2
    → Fits full before count → excess before least count ≤ full - least
then_fits full before least count narrow small fits half h = omega (arith, h.0, h.1, h.2)

-- all counts fit exactly where none that was read is unfit, and those that are left fit behind the last one
pub record FitSoFar (full n i before unfit : ℕ) (bytes : List ℕ) : Type 0 where
  pub few : unfit ≤ i
  pub low : unfit ≡ 0 → before ≤ 2 ^ 32 * i
  pub rest : AreLeavesRising full 0 (read_pairs Wide n bytes) ↔ ((unfit ≡ 0) × AreLeavesRising full before (read_pairs Wide (n - i) (drop (12 * i) bytes)))

-- the counts that are left fit exactly where the next one fits, and those behind it
ahead : (full n i before count : ℕ) (bytes : List ℕ) → i < n → count ≡ number_at 8 bytes (12 * i)
    → AreLeavesRising full before (read_pairs Wide (n - i) (drop (12 * i) bytes)) ↔ (Fits full before count × AreLeavesRising full count (read_pairs Wide (n - (i + 1)) (drop (12 * (i + 1)) bytes)))
ahead full n i before count bytes lt is =
    let rest : List Pair = read_pairs Wide (n - (i + 1)) (drop (12 * (i + 1)) bytes) in
    let pair : Pair = pair_at Wide (drop (12 * i) bytes) in
    let next : read_pairs Wide (n - i) (drop (12 * i) bytes) ≡ pair ∷ rest = read_step Wide n i bytes lt in
    let same : count ≡ pair.count = is ∙ number_at-drop 8 bytes (12 * i) in (
      λ all. let both : AreLeavesRising full before (pair ∷ rest) = subst (AreLeavesRising full before) next all in
          subst (λ k. Fits full before k × AreLeavesRising full k rest) (sym same) ((both.0.0, both.1.0.0, both.1.0.1), (both.0.1, both.1.1)),
      λ h. let both : Fits full before pair.count × AreLeavesRising full pair.count rest = subst (λ k. Fits full before k × AreLeavesRising full k rest) same h in
          subst (AreLeavesRising full before) (sym next) ((both.0.0, both.1.0), ((both.0.1, both.0.2), both.1.1)),
    )

-- one count more
pub fit_more : (full n i before least over count unfit more : ℕ) (bytes : List ℕ) → 2 ≤ full → full < 2 ^ 32 → n < 2 ^ 16 → i < n → least ≡ full / 2 → over ≡ full - least
    → count ≡ number_at 8 bytes (12 * i) → count < 2 ^ 64 → more ≤ 1 → ((more ≡ 0) ↔ (excess before least count ≤ over))
    → FitSoFar full n i before unfit bytes → FitSoFar full n (i + 1) count (unfit + more) bytes
fit_more full n i before least over count unfit more bytes two narrow few lt half top is fits one decides h =
    let next = ahead full n i before count bytes lt is in
    let fit : unfit ≡ 0 → more ≡ 0 → Fits full before count = λ none sound.
    fits_then full before least count two narrow (omega (arith, h.low none)) fits half (omega (arith, top, decides.0 sound)) in
    record {
      few = omega (arith, h.few);
      low = λ none. let now = fit (omega (arith, none)) (omega (arith, none)) in omega (arith, now.0, now.2, h.low (omega (arith, none)));
      rest = (
        λ all. let left = h.rest.0 all in
            let now = next.0 left.1 in
            let sound = decides.1 (omega (arith, top, then_fits full before least count narrow (omega (arith, h.low left.0)) fits half now.0)) in
            (omega (arith, left.0, sound), now.1),
        λ left. let none : unfit ≡ 0 = omega (arith, left.0) in
            let sound : more ≡ 0 = omega (arith, left.0) in
            h.rest.1 (none, next.1 (fit none sound, left.1)),
      );
    }

-- ---- the row of those that were read, while each fits

-- all that were read fit, and are the row
pub record FitRow (full n i last : ℕ) (bytes : List ℕ) (row : List Part) : Type 0 where
  pub low : last ≤ 2 ^ 32 * i
  pub read : RowSoFar Wide n i last bytes row
  pub halves : AreHalfFull full row

pub fit_row_more : (full n i least over last count page : ℕ) (bytes : List ℕ) (row : List Part) → 2 ≤ full → full < 2 ^ 32 → n < 2 ^ 16 → i < n → least ≡ full / 2 → over ≡ full - least
    → count ≡ number_at 8 bytes (12 * i) → page ≡ number_at 4 bytes (12 * i + 8) → count < 2 ^ 64 → excess last least count ≤ over
    → FitRow full n i last bytes row → FitRow full n (i + 1) count bytes (row ++ (record { size = count - last; page = record { 0 = page } } ∷ []))
fit_row_more full n i least over last count page bytes row two narrow few lt half top a b fits within h =
    let fit = fits_then full last least count two narrow (omega (arith, h.low)) fits half (omega (arith, top, within)) in
    record {
      low = omega (arith, h.low, fit.0, fit.2);
      read = row_more Wide n i last count page bytes row lt a b fit.0 h.read;
      halves = each-append _ row _ h.halves ((fit.1, fit.2), tt);
    }

pub fit_row_rises : (full n i least over last count : ℕ) (bytes : List ℕ) (row : List Part) → 2 ≤ full → full < 2 ^ 32 → n < 2 ^ 16 → i < n → least ≡ full / 2 → over ≡ full - least
    → count < 2 ^ 64 → excess last least count ≤ over → FitRow full n i last bytes row → last < count
fit_row_rises full n i least over last count bytes row two narrow few lt half top fits within h =
    (fits_then full last least count two narrow (omega (arith, h.low)) fits half (omega (arith, top, within))).0

pub fit_row_all : (full n i last : ℕ) (bytes : List ℕ) (row : List Part) → n ≤ i → FitRow full n i last bytes row → AreLeavesRising full 0 (read_pairs Wide n bytes)
fit_row_all full n i last bytes row end h =
    let all = row_all Wide n i last bytes row end h.read in
    (all.0, subst (AreHalfFull full) all.1 h.halves)
