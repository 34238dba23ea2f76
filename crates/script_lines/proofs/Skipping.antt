-- From what is gathered to what remains of the script.
use Rattle.std.proofs.Common.{◌≡◌, ℕ, ◌+◌, ◌-◌, ◌<◌, ◌≤◌, List, [], ◌∷◌, ◌++◌, length, take, drop, get_or, true, Option, Some, ap, sym, ◌∙◌, arith, refl, subst, append_assoc, append-nil, length-append, inl, inr}
use Rattle.std.proofs.lemmas.List.{drop-take, drop-drop, drop_all, length-take}
use Rattle.script_lines.specs.Lines.{line_feed, line_most, Line, Long}
use Rattle.script_lines.specs.Remains.{between, ClearTo, Remains, SameScript, AllHere, IfTold, Moves}
use Rattle.script_lines.specs.Taking.{Takes}
use Rattle.script_lines.specs.Passing.{IsClear, Passes, Drops}
use Rattle.script_lines.proofs.NextLines.{clear_both, clear_front, cut_feed}
use Rattle.script_lines.proofs.Takings.{takes_long, clear_before, clear_here}

-- what is left after n bytes are passed
pub passed : (bytes : List ℕ) (s e n : ℕ) → s + n ≤ e → between bytes (s + n) e ≡ drop n (between bytes s e)
passed bytes s e n h =
    let m : ℕ = e - (s + n) in
    let whole : n + m ≡ e - s = omega arith in
    ap (take m) (sym (drop-drop n s bytes)) ∙ sym (drop-take n m (drop s bytes)) ∙ ap (λ (k : ℕ). drop n (take k (drop s bytes))) whole

pub nothing_left : (p rest : List ℕ) → rest ≡ drop (length p) p → rest ≡ []
nothing_left p rest cut = cut ∙ drop_all (length p) p (omega arith)

-- a list that goes on as itself goes on with nothing
no_more : (p q : List ℕ) → p ≡ p ++ q → q ≡ []
no_more p [] same = refl
no_more p (x ∷ q) same = absurd (omega (arith, ap length same, length-append p (x ∷ q)))

module _ (b0 : List ℕ) (w0 : Option (List ℕ)) (b : List ℕ) (w : Option (List ℕ)) (p : List ℕ) (is : Option (List ℕ)) (most allowed : ℕ)
    (one : Moves b0 w0 b w (λ script rest. Drops most script allowed rest)) (two : SameScript b w p is) where
  pub drops_full : ClearTo p (length p) → (still : ℕ) → still + length p ≡ allowed → (rest : List ℕ) → rest ≡ drop (length p) p
      → Moves b0 w0 rest is (λ script rest. Drops most script still rest)
  drops_full clear still count rest cut = record {
    each = λ script r.
        let first = one.each script r in
        let dropped = first.2 in
        let second = two.each first.0 first.1 in (
          second.behind,
          record { behind = second.behind; told = second.told; whole = ap (λ (l : List ℕ). l ++ second.behind) (sym (nothing_left p rest cut)) },
          record {
            gone = dropped.gone ++ p;
            clear = clear_both dropped.gone p dropped.clear clear;
            bytes = dropped.bytes ∙ ap (λ (l : List ℕ). dropped.gone ++ l) second.whole ∙ sym (append_assoc dropped.gone p second.behind);
            count = omega (arith, length-append dropped.gone p, dropped.count);
          },
        );
  }

  pub skips_feed : (at : ℕ) → at < length p → ClearTo p at → line_feed (get_or p at 0) ≡ true → (still : ℕ) → still + (at + 1) ≡ allowed
      → (rest : List ℕ) → rest ≡ drop (at + 1) p → Moves b0 w0 rest is (λ script rest. Passes most script still rest)
  skips_feed at h clear hit still count rest cut = record {
    each = λ script r.
        let first = one.each script r in
        let dropped = first.2 in
        let second = two.each first.0 first.1 in
        let front : List ℕ = take at p in (
          rest ++ second.behind,
          record { behind = second.behind; told = second.told; whole = refl },
          record {
            part = dropped.gone ++ front;
            clear = clear_both dropped.gone front dropped.clear (clear_front p at h clear);
            ends = inl (
              get_or p at 0,
              hit,
              dropped.bytes ∙ ap (λ (l : List ℕ). dropped.gone ++ l) (second.whole ∙ cut_feed p second.behind at h)
                  ∙ sym (append_assoc dropped.gone front (get_or p at 0 ∷ (drop (at + 1) p ++ second.behind)))
                  ∙ ap (λ (l : List ℕ). (dropped.gone ++ front) ++ (get_or p at 0 ∷ (l ++ second.behind))) (sym cut),
              omega (arith, length-append dropped.gone front, length-take at p, dropped.count),
            );
          },
        );
  }

  pub skips_rest : AllHere b w p → ClearTo p (length p) → (still : ℕ) → still + length p ≡ allowed → (rest : List ℕ) → rest ≡ drop (length p) p
      → Moves b0 w0 rest is (λ script rest. Passes most script still rest)
  skips_rest all clear still count rest cut = record {
    each = λ script r.
        let first = one.each script r in
        let dropped = first.2 in
        let second = two.each first.0 first.1 in
        let here : first.0 ≡ p = all.each first.0 first.1 in
        let end : second.behind ≡ [] = no_more p second.behind (sym here ∙ second.whole) in (
          [],
          record { behind = second.behind; told = second.told; whole = λ k. sym (nothing_left p rest cut) k ++ sym end k },
          record {
            part = dropped.gone ++ p;
            clear = clear_both dropped.gone p dropped.clear clear;
            ends = inr (dropped.bytes ∙ ap (λ (l : List ℕ). dropped.gone ++ l) here, refl, omega (arith, length-append dropped.gone p, dropped.count));
          },
        );
  }

  pub skips_clear : ClearTo p allowed → allowed < length p → IfTold b0 w0 (IsClear most)
  skips_clear clear more = record {
    each = λ script r.
        let first = one.each script r in
        let dropped = first.2 in
        let second = two.each first.0 first.1 in
        clear_before dropped.gone dropped.clear allowed (p ++ second.behind) (clear_here p second.behind allowed clear more) most
        (omega (arith, dropped.count)) script (dropped.bytes ∙ ap (λ (l : List ℕ). dropped.gone ++ l) second.whole);
  }

module _ (b0 : List ℕ) (w0 : Option (List ℕ)) (p : List ℕ) (is : Option (List ℕ)) (most : ℕ) (same : SameScript b0 w0 p is) where
  pub next_fed : (line : Option Line) (still : ℕ) (rest : List ℕ) → ((behind : List ℕ) → Takes most (p ++ behind) line still (rest ++ behind))
      → Moves b0 w0 rest is (λ script rest. Takes most script line still rest)
  next_fed line still rest takes = record {
    each = λ script r.
        let s = same.each script r in
        let P : List ℕ → Type 0 = λ l. Takes most l line still (rest ++ s.behind) in
        (rest ++ s.behind, record { behind = s.behind; told = s.told; whole = refl }, subst P (sym s.whole) (takes s.behind));
  }

  pub next_rest : AllHere b0 w0 p → (line : Option Line) (still : ℕ) (rest : List ℕ) → rest ≡ [] → Takes most p line still rest
      → Moves b0 w0 rest is (λ script rest. Takes most script line still rest)
  next_rest all line still rest none takes = record {
    each = λ script r.
        let s = same.each script r in
        let here : script ≡ p = all.each script r in
        let end : s.behind ≡ [] = no_more p s.behind (sym here ∙ s.whole) in
        let P : List ℕ → Type 0 = λ l. Takes most l line still rest in
        (rest, record { behind = s.behind; told = s.told; whole = sym (append-nil rest) ∙ ap (λ (l : List ℕ). rest ++ l) (sym end) }, subst P (sym here) takes);
  }

  module _ (clear : ClearTo p (length p)) (left : ℕ) (count : left + length p ≡ most) (rest : List ℕ) (cut : rest ≡ drop (length p) p) where
    behind_it : (script : List ℕ) → (s : Remains p is script) → Remains rest is s.behind
    behind_it script s = record { behind = s.behind; told = s.told; whole = ap (λ (l : List ℕ). l ++ s.behind) (sym (nothing_left p rest cut)) }

    pub next_long : line_most < length p → (b2 : List ℕ) (w2 : Option (List ℕ)) (still : ℕ)
        → Moves rest is b2 w2 (λ script rest. Passes left script still rest) → Moves b0 w0 b2 w2 (λ script rest. Takes most script (Some Long) still rest)
    next_long far b2 w2 still skip = record {
      each = λ script r.
          let s = same.each script r in
          let m = skip.each s.behind (behind_it script s) in
          (m.0, m.1, takes_long p clear far most left s.behind still m.0 m.2 count script s.whole);
    }

    pub next_clear : IfTold rest is (IsClear left) → IfTold b0 w0 (IsClear most)
    next_clear skip = record {
      each = λ script r.
          let s = same.each script r in
          clear_before p clear left s.behind (skip.each s.behind (behind_it script s)) most count script s.whole;
    }

  pub clear_now : ClearTo p most → most < length p → IfTold b0 w0 (IsClear most)
  clear_now clear more = record {
    each = λ script r.
        let s = same.each script r in
        let P : List ℕ → Type 0 = λ l. IsClear most l in
        subst P (sym s.whole) (clear_here p s.behind most clear more);
  }
