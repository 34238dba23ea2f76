-- Which pages came and went over calls that keep the pages, put one, take one or give one back.
use Rattle.std.proofs.Common.{◌≡◌, ◌≤◌, ◌∙◌, ℕ, Bool, List, true, false, true≢false, sym, ap, inl, inr, arith}
use Rattle.ex_base.specs.declared.names.Area.TheVariants.{Page, Segment}
use Rattle.std.proofs.lemmas.Bool.{cases_Bool}
use Rattle.ex_base.specs.declared.ground.Ground as ground
use Rattle.ex_base.specs.Ports.{Keeps, PutsImage, TakesPage, GivesPage}
use Rattle.ex_base.proofs.Counts.{same_or_not}
use Rattle.file_index.specs.Taking.{OnlyTakes, OnlyGives}

module _ {S : Type 0} (g : ground.Ghosts S) where
  not_both : (before now : ℕ → Bool) (unit : ℕ) → now ≡ before → before unit ≡ false → now unit ≡ true → ⊥
  not_both before now unit same free used = true≢false (sym used ∙ ap (λ (f : ℕ → Bool). f unit) same ∙ free)

  -- the pages are kept, and then others come or go
  pub kept_takes : (a b c : S) → Keeps g a b → OnlyTakes g b c → OnlyTakes g a c
  kept_takes a b c kept only = record {
    taken = λ unit free now. only.taken unit (ap (λ (f : ℕ → Bool). f unit) kept.used ∙ free) now;
    held = λ page was. only.held page (ap (λ (f : ℕ → Bool). f page) kept.held ∙ was);
  }

  pub kept_gives : (a b c : S) → Keeps g a b → OnlyGives g b c → OnlyGives g a c
  kept_gives a b c kept only = record {
    was = λ unit free now. ap (λ (f : ℕ → Bool). f unit) (sym kept.held) ∙ only.was unit (ap (λ (f : ℕ → Bool). f unit) kept.used ∙ free) now;
    held = λ page now. ap (λ (f : ℕ → Bool). f page) (sym kept.held) ∙ only.held page now;
  }

  -- one is put
  pub put_takes : (a b : S) (page : ℕ) (content : List ℕ) → PutsImage g a b page content → OnlyTakes g a b
  put_takes a b page content put = record {
    taken = λ unit free now. absurd (not_both (g.used a) (g.used b) unit put.used free now);
    held = λ p was. ap (λ (f : ℕ → Bool). f p) put.held ∙ was;
  }

  pub put_gives : (a b : S) (page : ℕ) (content : List ℕ) → PutsImage g a b page content → OnlyGives g a b
  put_gives a b page content put = record {
    was = λ unit free now. absurd (not_both (g.used a) (g.used b) unit put.used free now);
    held = λ p now. ap (λ (f : ℕ → Bool). f p) (sym put.held) ∙ now;
  }

  -- one is taken, others after it, and what is used and held stays then
  pub took_takes : (a b c d : S) (page : ℕ) (content : List ℕ) → TakesPage g a b page content → OnlyTakes g b c → g.used d ≡ g.used c → g.held d ≡ g.held c
      → OnlyTakes g a d
  took_takes a b c d page content take only used held = record {
    taken = λ unit free now. elim (cases_Bool (g.used b unit)) [
      | inl there ↦ ap (λ (f : ℕ → Bool). f unit) held ∙ only.held unit (elim (same_or_not unit page) [
        | inl same ↦ ap (g.held b) same ∙ take.now_held
        | inr other ↦ absurd (true≢false (sym there ∙ take.used unit other ∙ free))
      ])
      | inr not_yet ↦ ap (λ (f : ℕ → Bool). f unit) held ∙ only.taken unit not_yet (ap (λ (f : ℕ → Bool). f unit) (sym used) ∙ now)
    ];
    held = λ p was. ap (λ (f : ℕ → Bool). f p) held ∙ only.held p (elim (same_or_not p page) [
      | inl same ↦ ap (g.held b) same ∙ take.now_held
      | inr other ↦ take.held p other ∙ was
    ]);
  }

  -- others go, what is used and held stays then, and a page that was held is given back
  pub gave_gives : (a b c d e : S) (page : ℕ) → Keeps g a b → OnlyGives g b c → g.used d ≡ g.used c → g.held d ≡ g.held c → GivesPage g d e page
      → g.held a page ≡ true → OnlyGives g a e
  gave_gives a b c d e page kept only used held give was_held =
      let gives : OnlyGives g a c = kept_gives a b c kept only in
      record {
        was = λ unit free now. elim (same_or_not unit page) [
          | inl same ↦ ap (g.held a) same ∙ was_held
          | inr other ↦ gives.was unit free (ap (λ (f : ℕ → Bool). f unit) (sym used) ∙ sym (give.used unit other) ∙ now)
        ];
        held = λ p now. elim (same_or_not p page) [
          | inl same ↦ ap (g.held a) same ∙ was_held
          | inr other ↦ gives.held p (ap (λ (f : ℕ → Bool). f p) (sym held) ∙ sym (give.held p other) ∙ now)
        ];
      }

  -- how many are free then
  pub gave_pages : (a b : S) (page : ℕ) → GivesPage g a b page → (n : ℕ) → n ≤ g.free a Page → n ≤ g.free b Page
  gave_pages a b page give n few = omega (arith, give.pages, few)

  pub gave_segments : (a b : S) (page : ℕ) → GivesPage g a b page → (n : ℕ) → g.free a Segment ≡ n → g.free b Segment ≡ n
  gave_segments a b page give n same = give.leaves ∙ same
