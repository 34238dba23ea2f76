-- The item of a leaf, whose bytes are read behind the room of its head.
use Rattle.std.proofs.Common.{◌≡◌, ◌≤◌, ◌+◌, ◌-◌, ℕ, List, length, take, drop, ap, ◌∙◌, arith}
use Rattle.std.proofs.lemmas.List.{drop_at, length-append, length-drop, length-take}
use Rattle.std.proofs.lemmas.Slice.{take-put_mid}
use borrow.Rule.Slice.PartMut.{put_mid}

pub record IsPut (out p : List ℕ) (n : ℕ) : Type 0 where
  pub read : length p ≡ n
  pub len : length (take (4 + n) (put_mid 4 (4 + n - 4) out p)) ≡ 4 + n
  pub behind : drop 4 (take (4 + n) (put_mid 4 (4 + n - 4) out p)) ≡ p

pub put_behind : (out p : List ℕ) (n : ℕ) → 4 + n ≤ length out → length p ≡ length (take (4 + n - 4) (drop 4 out)) → IsPut out p n
put_behind out p n fits part =
    let read : length p ≡ n = omega (arith, part, length-take (4 + n - 4) (drop 4 out), length-drop 4 out, fits) in
    let all = take-put_mid 4 (4 + n - 4) out p (4 + n) (omega (arith, read)) (omega (arith, fits)) in
    let head : length (take 4 out) ≡ 4 = omega (arith, length-take 4 out, fits) in
    record {
      read = read;
      len = ap length all ∙ omega (arith, length-append (take 4 out) p, head, read);
      behind = ap (drop 4) all ∙ drop_at (take 4 out) p 4 (omega (arith, head));
    }
