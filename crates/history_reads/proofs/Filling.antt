-- What a step of gathering takes.
use Rattle.std.proofs.Common.{◌≡◌, ℕ, ◌+◌, ◌-◌, ◌<◌, ◌≤◌, min, List, ◌++◌, length, take, Some, sym, ap, ◌∙◌, arith}
use Rattle.std.proofs.lemmas.List.{length-append, length-take}
use Rattle.std.proofs.lemmas.Option.{same_Some}
use Rattle.history_reads.specs.declared.progress.Progress.{Progress}
use Rattle.history_reads.specs.Reads.{need_now}
use Rattle.history_reads.specs.Steps.{Asking, Took}

pub asked_more : (p : Progress) (held : List ℕ) (n : ℕ) → Asking p held → need_now p held ≡ Some n → length held < n
asked_more p held n asking e = let same : asking.0 ≡ n = same_Some asking.0 n (sym asking.1 ∙ e) in omega (arith, asking.2)

pub took : (p : Progress) (was now piece : List ℕ) (need taken : ℕ) → need_now p was ≡ Some need → length was < need → taken ≡ min (need - length was) (length piece) → now ≡ was ++ take taken piece → Took p was now piece taken
took p was now piece need taken e more is held = record {
  few = omega (arith, is);
  some = λ some. omega (arith, is, more);
  held = held;
  asked = λ n asked.
      let same : need ≡ n = same_Some need n (sym e ∙ asked) in
      omega (arith, ap length held, length-append was (take taken piece), length-take taken piece, is, more);
}
