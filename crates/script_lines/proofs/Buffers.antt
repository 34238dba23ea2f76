-- What stands in a buffer after more is taken to its end.
use Rattle.std.proofs.Common.{◌≡◌, ℕ, ◌+◌, ◌-◌, ◌≤◌, ◌<◌, inl, inr, List, [], ◌++◌, zero, suc, length, take, drop, Option, Some, ap, sym, ◌∙◌, arith, refl, append_assoc, length-drop, min}
use Rattle.std.proofs.lemmas.Bool.{cases_lt}
use Rattle.std.proofs.Math.Seq.{take-add}
use Rattle.std.proofs.lemmas.List.{drop_all, drop-take, drop-drop, take_all, take-append-drop, length-take}
use Rattle.script_lines.specs.Remains.{between, SameScript, AllHere, Draws, IsFront}

-- what stood before the end still stands
pub kept : (old new : List ℕ) (s e : ℕ) → s ≤ e → take e new ≡ take e old → between new s e ≡ between old s e
kept old new s e h same =
    let d : ℕ = e - s in
    let whole : e ≡ s + d = omega arith in
    let turned : (xs : List ℕ) → drop s (take e xs) ≡ between xs s e = λ xs. ap (λ (n : ℕ). drop s (take n xs)) whole ∙ drop-take s d xs in
    sym (turned new) ∙ ap (drop s) same ∙ turned old

pub grown : (old new was : List ℕ) (s e n : ℕ) → s ≤ e → take e new ≡ take e old → take n (drop e new) ≡ take n was
    → between new s (e + n) ≡ between old s e ++ take n was
grown old new was s e n h same more =
    let d : ℕ = e - s in
    let longer : (e + n) - s ≡ d + n = omega arith in
    let place : s + d ≡ e = omega arith in
    ap (λ (k : ℕ). take k (drop s new)) longer
    ∙ take-add d n (drop s new)
    ∙ (λ k. kept old new s e h same k ++ (ap (take n) (drop-drop d s new ∙ ap (λ (m : ℕ). drop m new) place) ∙ more) k)

pub longer_front : (old new : List ℕ) (s e n : ℕ) → s ≤ e → take e new ≡ take e old → IsFront (between old s e) (between new s (e + n))
longer_front old new s e n h same = (take n (drop e new), grown old new (drop e new) s e n h same refl)

none_of : (k : ℕ) → take {A = ℕ} k [] ≡ []
none_of zero = refl
none_of (suc k) = refl

-- n bytes of the source stand behind what was buffered
abbrev pub TakesPiece : (e n : ℕ) (new : List ℕ) (left is : Option (List ℕ)) → Type 0
TakesPiece e n new left is = (was : List ℕ) → left ≡ Some was → (n ≤ length was) × (take n (drop e new) ≡ take n was) × (is ≡ Some (drop n was))

module _ (old new : List ℕ) (left is : Option (List ℕ)) (s e n : ℕ) (h : s ≤ e) (same : take e new ≡ take e old) (more : TakesPiece e n new left is) where
  pub same_script : SameScript (between old s e) left (between new s (e + n)) is
  same_script = record {
    each = λ script r. let m = more r.behind r.told in record {
      behind = drop n r.behind;
      told = m.2;
      whole = r.whole
          ∙ ap (λ (l : List ℕ). between old s e ++ l) (sym (take-append-drop n r.behind))
          ∙ sym (append_assoc (between old s e) (take n r.behind) (drop n r.behind))
          ∙ ap (λ (l : List ℕ). l ++ drop n r.behind) (sym (grown old new r.behind s e n h same m.1));
    };
  }

  pub all_here : n ≡ 0 → ((was : List ℕ) → left ≡ Some was → was ≡ []) → AllHere (between old s e) left (between new s (e + n))
  all_here nothing none = record {
    each = λ script r.
        r.whole ∙ ap (λ (l : List ℕ). between old s e ++ l) (none r.behind r.told ∙ sym (ap (take n) (none r.behind r.told) ∙ none_of n))
        ∙ sym (grown old new r.behind s e n h same (more r.behind r.told).1);
  }

-- nothing came
pub same_held : (old new : List ℕ) (s e n : ℕ) → s ≤ e → take e new ≡ take e old → n ≡ 0 → between new s (e + n) ≡ between old s e
same_held old new s e n h same nothing = let end : e + n ≡ e = omega arith in ap (between new s) end ∙ kept old new s e h same

pub draws_trans : (a b c : ℕ) (x y z : Option (List ℕ)) → Draws a x b y → Draws b y c z → Draws a x c z
draws_trans a b c x y z one two = record {
  each = λ was told.
      let f = one.each was told in
      let s = two.each (drop f.0 was) f.2 in
      let n : ℕ = f.0 in
      let m : ℕ = s.0 in
      (m + n, omega (arith, f.1, s.1, length-drop n was), s.2 ∙ ap Some (drop-drop m n was ∙ ap (λ (k : ℕ). drop k was) (omega arith)), omega (arith, f.3, s.3));
}

-- what is all here after more was buffered
pub all_here_after : (a b c : List ℕ) (x y : Option (List ℕ)) → SameScript a x b y → AllHere b y c → AllHere a x c
all_here_after a b c x y one two = record { each = λ script r. two.each script (one.each script r) }

pub same_script_trans : (a b c : List ℕ) (x y z : Option (List ℕ)) → SameScript a x b y → SameScript b y c z → SameScript a x c z
same_script_trans a b c x y z one two = record { each = λ script r. two.each script (one.each script r) }

pub length_between : (bytes : List ℕ) (s e : ℕ) → e ≤ length bytes → length (between bytes s e) ≡ e - s
length_between bytes s e h = length-take (e - s) (drop s bytes) ∙ (let fits : min (e - s) (length (drop s bytes)) ≡ e - s = omega (arith, length-drop s bytes) in fits)

-- what is shown of a buffer ends where the buffer ends
pub between_inside : (bytes : List ℕ) (from to start end : ℕ) → from ≤ to
    → (to ≤ length bytes → end ≡ to) → (length bytes < to → end ≡ length bytes) → (from ≤ end → start ≡ from) → (end < from → start ≡ end)
    → between bytes start end ≡ between bytes from to
between_inside bytes from to start end ordered whole cut inside outside = elim (cases_lt (length bytes) to) [
  | inl short ↦
      let ends : end ≡ length bytes = cut short in
      elim (cases_lt end from) [
        | inl none ↦
            let begins : start ≡ end = outside none in
            let nothing : end - start ≡ 0 = omega (arith, begins) in
            ap (λ (n : ℕ). take n (drop start bytes)) nothing
            ∙ sym (ap (take (to - from)) (drop_all from bytes (omega (arith, none, ends))) ∙ none_of (to - from))
        | inr some ↦
            let begins : start ≡ from = inside some in
            let size : length (drop from bytes) ≡ length bytes - from = length-drop from bytes in
            ap (λ (n : ℕ). take (end - n) (drop n bytes)) begins
            ∙ take_all (end - from) (drop from bytes) (omega (arith, size, ends))
            ∙ sym (take_all (to - from) (drop from bytes) (omega (arith, size, short)))
      ]
  | inr there ↦
      let ends : end ≡ to = whole there in
      let begins : start ≡ from = inside (omega (arith, ends, ordered)) in
      ap (λ (n : ℕ). between bytes n end) begins ∙ ap (λ (n : ℕ). between bytes from n) ends
]
