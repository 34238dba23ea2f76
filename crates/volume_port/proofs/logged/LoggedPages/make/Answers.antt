use Rattle.std.proofs.Common.{◌≡◌, ◌∙◌, ◌<◌, ◌+◌, ℕ, true, false, replicate, get_or, get_or-set_same, get_or-set_other, ap, inl, inr, arith}
use Rattle.std.specs.Prelude.{eqb}
use Rattle.std.proofs.Math.ListN.{set}
use Rattle.std.proofs.lemmas.Bool.{cases_eq, cases_lt, eq-eqb, ne_eqb}
use Rattle.std.proofs.lemmas.List.{length-replicate, get_or-replicate, get_or_past}
use Rattle.volume_port.proofs.logged.LoggedPages.make.Goals as goal

-- of equal flags none is set
none_set : (n p : ℕ) → get_or (replicate n false) p false ≡ false
none_set n p = elim (cases_lt p n) [
  | inl below ↦ get_or-replicate n p false false below
  | inr above ↦ get_or_past (replicate n false) p false (omega (arith, length-replicate n false))
]

-- one flag alone is set
one_set : (n at p : ℕ) → at < n → get_or (set (replicate n false) at true) p false ≡ eqb p at
one_set n at p inside = elim (cases_eq p at) [
  | inl same ↦ rw (eq-eqb p at same) (ap (λ q. get_or (set (replicate n false) at true) q false) same ∙ get_or-set_same (replicate n false) at true false (omega (arith, length-replicate n false)))
  | inr other ↦ rw (ne_eqb p at other) (get_or-set_other (replicate n false) at p true false other ∙ none_set n p)
]

pub returns-clause-held : goal.returns-clause-held
returns-clause-held c = λ p.
    let some = c.args.geometry.now.some_pages in
    rw (c.set.ensures, c.in_ok-held.ensures) (one_set (257 + c.args.geometry.now.pages) 257 p (omega arith))
