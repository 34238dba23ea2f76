-- How often pages stand in lists, and how a call of the port changes what it has.
use Rattle.std.proofs.Common.{◌≡◌, ◌≢◌, ◌≤◌, ◌+◌, ℕ, zero, suc, Bool, true, false, List, [], ◌∷◌, refl, sym, ap, ◌∙◌, arith, inl, inr, true≢false}
use Rattle.ex_base.specs.declared.ground.Ground as ground
use Rattle.ex_base.specs.declared.names.Area.{Area}
use Rattle.ex_base.specs.declared.names.Area.TheVariants.{Segment}
use Rattle.ex_base.specs.Ports.{times, Keeps, PutsImage, TakesPage, GivesPage}
use Rattle.ex_base.proofs.Counts.{apart_of, same_or_not, times_apart, times_here}
use Rattle.file_index.specs.Changes.{count_of, Changes}

pub count_most : (b : Bool) → count_of b ≤ 1
count_most true = omega arith
count_most false = omega arith

pub count_is : (b : Bool) → b ≡ true → count_of b ≡ 1
count_is b is = ap count_of is

pub is_counted : (b : Bool) → 1 ≤ count_of b → b ≡ true
is_counted true h = refl
is_counted false h = absurd (omega arith)

-- what stands once at most, and is there where it stands
pub counted_once : (n : ℕ) (b : Bool) → n ≤ 1 → (1 ≤ n → b ≡ true) → n ≤ count_of b
counted_once n true few here = omega arith
counted_once zero false few here = omega arith
counted_once (suc n) false few here = absurd (let e : false ≡ true = here (omega arith) in cc)

module _ {S : Type 0} (g : ground.Ghosts S) where
  -- nothing changes but the count of faults
  pub keeps_changes : (a b : S) (pages : List ℕ) → Keeps g a b → Changes g a b pages pages
  keeps_changes a b pages kept = record {
    counted = λ p. ap (λ (f : ℕ → Bool). count_of (f p) + times p pages) kept.held;
    images = λ p h none. ap (λ (f : ℕ → List ℕ). f p) kept.images;
    units = λ p h none. record {
      unit = ap (λ (f : ℕ → List ℕ). f p) kept.units;
      used = ap (λ (f : ℕ → Bool). f p) kept.used ∙ h;
      other = none;
    };
    refs = kept.refs;
    leaves = ap (λ (f : Area → ℕ). f Segment) kept.free;
    leads = kept.leads;
  }

  pub put_changes : (a b : S) (page : ℕ) (content : List ℕ) → PutsImage g a b page content → g.leads a b → Changes g a b (page ∷ []) (page ∷ [])
  put_changes a b page content put leads = record {
    counted = λ p. ap (λ (f : ℕ → Bool). count_of (f p) + times p (page ∷ [])) put.held;
    images = λ p h none. put.images p (apart_of p page [] none);
    units = λ p h none. record {
      unit = ap (λ (f : ℕ → List ℕ). f p) put.units;
      used = ap (λ (f : ℕ → Bool). f p) put.used ∙ h;
      other = none;
    };
    refs = put.refs;
    leaves = ap (λ (f : Area → ℕ). f Segment) put.free;
    leads = leads;
  }

  pub take_changes : (a b : S) (page : ℕ) (content : List ℕ) → TakesPage g a b page content → g.free b Segment ≡ g.free a Segment → g.leads a b → Changes g a b [] (page ∷ [])
  take_changes a b page content take leaves leads = record {
    counted = λ p. elim (same_or_not p page) [
      | inl same ↦
          let now : g.held b p ≡ true = ap (g.held b) same ∙ take.now_held in
          let was : g.held a p ≡ false = ap (g.held a) same ∙ take.was_not_held in
          omega (arith, ap count_of now, ap count_of was, times_here p page [] same)
      | inr differ ↦ omega (arith, ap count_of (take.held p differ), times_apart p page [] differ)
    ];
    images = λ p h none. take.images p (λ same. true≢false (sym h ∙ ap (g.held a) same ∙ take.was_not_held));
    units = λ p h none.
        let differ : p ≢ page = λ same. true≢false (sym h ∙ ap (g.used a) same ∙ take.was_free) in
        record {
          unit = take.units p h;
          used = take.used p differ ∙ h;
          other = times_apart p page [] differ;
        };
    refs = take.refs;
    leaves = leaves;
    leads = leads;
  }

  pub give_changes : (a b : S) (page : ℕ) → GivesPage g a b page → g.held a page ≡ true → g.leads a b → Changes g a b (page ∷ []) []
  give_changes a b page give held leads = record {
    counted = λ p. elim (same_or_not p page) [
      | inl same ↦
          let now : g.held b p ≡ false = ap (g.held b) same ∙ give.gone in
          let was : g.held a p ≡ true = ap (g.held a) same ∙ held in
          omega (arith, ap count_of now, ap count_of was, times_here p page [] same)
      | inr differ ↦ omega (arith, ap count_of (give.held p differ), times_apart p page [] differ)
    ];
    images = λ p h none. give.images p (apart_of p page [] none);
    units = λ p h none. record {
      unit = give.units p (apart_of p page [] none);
      used = give.used p (apart_of p page [] none) ∙ h;
      other = refl;
    };
    refs = give.refs;
    leaves = give.leaves;
    leads = leads;
  }

  pub changes_same : (a : S) (pages : List ℕ) → Changes g a a pages pages
  changes_same a pages = record {
    counted = λ p. refl;
    images = λ p h none. refl;
    units = λ p h none. record { unit = refl; used = h; other = none };
    refs = refl;
    leaves = refl;
    leads = g.leads_refl a;
  }

  -- one change after another
  pub changes_trans : (a b c : S) (xs ys zs : List ℕ) → Changes g a b xs ys → Changes g b c ys zs → Changes g a c xs zs
  changes_trans a b c xs ys zs one two = record {
    counted = λ p. omega (arith, one.counted p, two.counted p);
    images = λ p h none.
        let still : g.held b p ≡ true = is_counted (g.held b p) (omega (arith, one.counted p, none, count_is (g.held a p) h)) in
        let left : times p ys ≡ 0 = omega (arith, one.counted p, none, count_is (g.held a p) h, count_is (g.held b p) still) in
        two.images p still left ∙ one.images p h none;
    units = λ p h none.
        let first = one.units p h none in
        let second = two.units p first.used first.other in
        record {
          unit = second.unit ∙ first.unit;
          used = second.used;
          other = second.other;
        };
    refs = two.refs ∙ one.refs;
    leaves = two.leaves ∙ one.leaves;
    leads = g.leads_trans a b c one.leads two.leads;
  }

  -- the same change, with more pages that stay
  pub changes_more : (a b : S) (xs ys more_xs more_ys : List ℕ) (stay : ℕ → ℕ) → Changes g a b xs ys → ((p : ℕ) → times p more_xs ≡ stay p + times p xs) → ((p : ℕ) → times p more_ys ≡ stay p + times p ys) → Changes g a b more_xs more_ys
  changes_more a b xs ys more_xs more_ys stay change before after = record {
    counted = λ p. omega (arith, change.counted p, before p, after p);
    images = λ p h none. change.images p h (omega (arith, before p, none));
    units = λ p h none.
        let rests = change.units p h (omega (arith, before p, none)) in
        record {
          unit = rests.unit;
          used = rests.used;
          other = omega (arith, before p, after p, none, rests.other);
        };
    refs = change.refs;
    leaves = change.leaves;
    leads = change.leads;
  }
