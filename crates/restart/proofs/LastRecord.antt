-- The last record of a log, and how many there are.
use Rattle.std.proofs.Common.{◌≡◌, ◌≤◌, ◌-◌, ℕ, zero, suc, List, [], ◌∷◌, length, Some, None, nat_eq, cond, Bool, refl, sym, ap, ◌∙◌, eq-eqb, arith}
use Rattle.std.specs.Prelude.{slice_get}
use Rattle.std.specs.Map.{lookup}
use Rattle.std.proofs.lemmas.Option.{slice_get_within}
use Rattle.op_log.specs.declared.record.LogRecord.{LogRecord}
use Rattle.op_log.specs.Decoding.{last_number}
use Rattle.op_log.specs.Log.{log_end}

last_at : (rs : List LogRecord) (r : LogRecord) (n : ℕ) → suc n ≡ length rs → Some r ≡ slice_get rs n → Some r.txn ≡ last_number rs
last_at [] r n long is = absurd (omega (arith, long))
last_at (x ∷ []) r zero long is = let same : r ≡ x = cc in ap (λ (q : LogRecord). Some q.txn) same
last_at (x ∷ []) r (suc n) long is = absurd (omega (arith, long))
last_at (x ∷ y ∷ rs) r zero long is = absurd (omega (arith, long))
last_at (x ∷ y ∷ rs) r (suc n) long is = last_at (y ∷ rs) r n (omega (arith, long)) is

pub last_here : (rs : List LogRecord) (r : LogRecord) → Some r ≡ slice_get rs (length rs - 1) → Some r.txn ≡ last_number rs
last_here rs r is = last_at rs r (length rs - 1) (omega (arith, slice_get_within rs (length rs - 1) r (sym is))) is

-- each record has a byte at least
pub count_within : (rs : List LogRecord) → length rs ≤ log_end rs
count_within [] = omega arith
count_within (r ∷ rs) = omega (arith, count_within rs)

-- rows in which nothing is found
pub no_rows : (rows : List (ℕ × List ℕ)) → ((page : ℕ) → lookup (nat_eq page) rows ≡ None) → rows ≡ []
no_rows [] none = refl
no_rows (row ∷ rows) none =
    let found : lookup (nat_eq row.0) (row ∷ rows) ≡ Some row.1 = ap (λ (t : Bool). cond t (Some row.1) (lookup (nat_eq row.0) rows)) (eq-eqb row.0 row.0 refl) in
    let wrong : None ≡ Some row.1 = sym (none row.0) ∙ found in absurd (cc)
