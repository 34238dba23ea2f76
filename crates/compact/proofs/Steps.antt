-- Steps of a move, one after the other.
use Rattle.std.proofs.Common.{◌≡◌, ◌≢◌, ◌⊎◌, inl, inr, ℕ, Bool, false, List, [], ◌∷◌, ◌++◌, Some, refl, sym, ap, ◌∙◌, arith, true≢false}
use Rattle.std.proofs.lemmas.Bool.{cases_Bool}
use Rattle.ex_base.specs.declared.geometry.Geometry.{Geometry}
use Rattle.ex_base.specs.declared.ground.Ground as ground
use Rattle.ex_base.specs.declared.names.Area.{Area}
use Rattle.ex_base.specs.declared.names.Area.TheVariants.{Page, Segment}
use Rattle.ex_base.specs.declared.names.PageNo.{PageNo}
use Rattle.ex_base.specs.Ports.{Keeps}
use Rattle.trees.specs.Made.{Extends, Has, IsTaken, Took}
use Rattle.trees.proofs.Counts.{counted_kept, counted_on, counted_same}
use Rattle.trees.proofs.Laid.{has_left, has_right}
use Rattle.compact.specs.High.{free_below}
use Rattle.compact.specs.Moved.{Copies, KeepsCopies, IsPaid, unmoved}
use Rattle.compact.specs.Walk.{Move, AreGood, HasRoom, Stepped}
use Rattle.compact.proofs.Unmoved.{unmoved_less}

module _ {S : Type 0} (g : ground.Ghosts S) where
  -- ---- units that were taken

  pub free_before : (a b : S) (p : ℕ) → Extends g a b → g.used b p ≡ false → g.used a p ≡ false
  free_before a b p ext free = elim (cases_Bool (g.used a p)) [
    | inl is ↦ absurd (true≢false (sym (ext.used p is) ∙ free))
    | inr not ↦ not
  ]

  taken_when : (a b c : S) (p : ℕ) → IsTaken g a c p → IsTaken g a b p ⊎ IsTaken g b c p
  taken_when a b c p is = elim (cases_Bool (g.used b p)) [
    | inl early ↦ inl (is.0, early)
    | inr late ↦ inr (late, is.1)
  ]

  none_taken : (a : S) (p : ℕ) → IsTaken g a a p → ⊥
  none_taken a p is = true≢false (sym is.1 ∙ is.0)

  -- where one unit was taken, the others are used as before
  pub others_same : (a b : S) (unit p : ℕ) → Extends g a b → Took g a b (unit ∷ []) → p ≢ unit → g.used b p ≡ g.used a p
  others_same a b unit p ext took differ = elim (cases_Bool (g.used a p)) [
    | inl is ↦ ext.used p is ∙ sym is
    | inr free ↦ elim (cases_Bool (g.used b p)) [
      | inl taken ↦ elim (took.all p (free, taken)) [
        | inl same ↦ absurd (differ (sym same))
        | inr none ↦ absurd none
      ]
      | inr still ↦ still ∙ sym free
    ]
  ]

  -- ---- what was paid

  pub paid_on : (a b c : S) (dense : ℕ) (moves mid after : Copies) (nodes leaves : List ℕ) → g.leads a b → IsPaid g a b dense moves mid nodes leaves → IsPaid g b c dense mid after nodes leaves → IsPaid g a c dense moves after nodes leaves
  paid_on a b c dense moves mid after nodes leaves leads x y =
      let was : free_below (g.geometry b) (g.used b) dense ≡ free_below (g.geometry a) (g.used b) dense = ap (λ (h : Geometry). free_below h (g.used b) dense) (g.leads_geometry a b leads) in
      let now : free_below (g.geometry b) (g.used c) dense ≡ free_below (g.geometry a) (g.used c) dense = ap (λ (h : Geometry). free_below h (g.used c) dense) (g.leads_geometry a b leads) in
      record {
        of_pages = omega (arith, x.of_pages, y.of_pages);
        of_leaves = omega (arith, x.of_leaves, y.of_leaves);
        of_low = omega (arith, x.of_low, y.of_low, was, now);
      }

  -- where nothing is taken
  pub paid_kept : (a b : S) (dense : ℕ) (moves after : Copies) (nodes leaves : List ℕ) → g.used b ≡ g.used a → g.free b ≡ g.free a → KeepsCopies moves after → unmoved after leaves ≡ unmoved moves leaves → IsPaid g a b dense moves after nodes leaves
  paid_kept a b dense moves after nodes leaves used free keeps same =
      let pages : g.free b Page ≡ g.free a Page = ap (λ (f : Area → ℕ). f Page) free in
      let units : g.free b Segment ≡ g.free a Segment = ap (λ (f : Area → ℕ). f Segment) free in
      let low : free_below (g.geometry a) (g.used b) dense ≡ free_below (g.geometry a) (g.used a) dense = ap (λ (f : ℕ → Bool). free_below (g.geometry a) f dense) used in
      record {
        of_pages = omega (arith, pages, unmoved_less moves after nodes keeps);
        of_leaves = omega (arith, units, same);
        of_low = omega (arith, low, same);
      }

  pub room_later : (move : Move S) (dense : ℕ) (a b : S) (moves after : Copies) → g.leads a b → IsPaid g a b dense moves after move.nodes move.leaves → HasRoom g move dense a moves → HasRoom g move dense b after
  room_later move dense a b moves after leads paid room =
      let low : free_below (g.geometry b) (g.used b) dense ≡ free_below (g.geometry a) (g.used b) dense = ap (λ (h : Geometry). free_below h (g.used b) dense) (g.leads_geometry a b leads) in
      record {
        pages = omega (arith, paid.of_pages, room.pages);
        leaves = omega (arith, paid.of_leaves, room.leaves);
        low = omega (arith, paid.of_low, room.low, low);
      }

  -- ---- steps

  -- what keeps the volume, and gives no copy
  pub step_kept : (move : Move S) (dense : ℕ) (a b : S) (moves : Copies) (was now : List ℕ) → Keeps g a b → AreGood g move dense b moves → Stepped g move dense a b moves moves was now
  step_kept move dense a b moves was now k good =
      let none = λ (p : ℕ) (is : IsTaken g a b p). true≢false (sym is.1 ∙ ap (λ (f : ℕ → Bool). f p) k.used ∙ is.0) in
      record {
        all = λ p is. absurd (none p is);
        copies = λ p is. absurd (none p is);
        fresh = λ q c is. inl is;
        pairs = good;
        paid = paid_kept a b dense moves moves move.nodes move.leaves k.used k.free (λ p c is. is) refl;
        counts = λ names. counted_kept g a b k;
      }

  -- nothing but copies that were given
  pub step_noted : (move : Move S) (dense : ℕ) (a : S) (moves after : Copies) (was now : List ℕ) → KeepsCopies moves after → unmoved after move.leaves ≡ unmoved moves move.leaves → ((page : ℕ) (copy : PageNo) → after page ≡ Some copy → (moves page ≡ Some copy) ⊎ (Has was page × Has now copy.0)) → AreGood g move dense a after
      → Stepped g move dense a a moves after was now
  step_noted move dense a moves after was now keeps same fresh good = record {
    all = λ p is. absurd (none_taken a p is);
    copies = λ p is. absurd (none_taken a p is);
    fresh = fresh;
    pairs = good;
    paid = paid_kept a a dense moves after move.nodes move.leaves refl refl keeps same;
    counts = λ names. counted_same g a;
  }

  pub step_on : (move : Move S) (dense : ℕ) (a b c : S) (moves mid after : Copies) (was now more others : List ℕ) → Extends g a b → Extends g b c → KeepsCopies mid after
      → Stepped g move dense a b moves mid was now → Stepped g move dense b c mid after more others → Stepped g move dense a c moves after (was ++ more) (now ++ others)
  step_on move dense a b c moves mid after was now more others one two keeps x y = record {
    all = λ p is. elim (taken_when a b c p is) [
      | inl early ↦ has_left now others p (x.all p early)
      | inr late ↦ has_right now others p (y.all p late)
    ];
    copies = λ p is. elim (taken_when a b c p is) [
      | inl early ↦ let k = x.copies p early in (k.0, k.1, k.2, keeps k.0 k.1 k.3, k.4)
      | inr late ↦ y.copies p late
    ];
    fresh = λ q copy is. elim (y.fresh q copy is) [
      | inl before ↦ elim (x.fresh q copy before) [
        | inl first ↦ inl first
        | inr has ↦ inr (has_left was more q has.0, has_left now others copy.0 has.1)
      ]
      | inr has ↦ inr (has_right was more q has.0, has_right now others copy.0 has.1)
    ];
    pairs = y.pairs;
    paid = paid_on a b c dense moves mid after move.nodes move.leaves one.leads x.paid y.paid;
    counts = λ names. counted_on g a b c one two (x.counts names) (y.counts names);
  }

  -- the same step, over more units
  pub step_as : (move : Move S) (dense : ℕ) (a b : S) (moves after : Copies) (was now more others : List ℕ) → ((p : ℕ) → Has was p → Has more p) → ((p : ℕ) → Has now p → Has others p)
      → Stepped g move dense a b moves after was now → Stepped g move dense a b moves after more others
  step_as move dense a b moves after was now more others wider later x = record {
    all = λ p is. later p (x.all p is);
    copies = x.copies;
    fresh = λ q copy is. elim (x.fresh q copy is) [
      | inl before ↦ inl before
      | inr has ↦ inr (wider q has.0, later copy.0 has.1)
    ];
    pairs = x.pairs;
    paid = x.paid;
    counts = x.counts;
  }
