-- Trees that have a copy, and leaves that get one.
use Rattle.std.proofs.Common.{◌≡◌, ◌≢◌, inl, inr, ℕ, zero, suc, ◌+◌, ◌≤◌, Bool, true, false, List, [], ◌∷◌, length, take, Some, None, refl, sym, ap, subst, ◌∙◌, arith, true≢false}
use Rattle.std.specs.Prelude.{if◌then◌else◌}
use Rattle.std.specs.List.{AllByRecursion}
use Rattle.std.proofs.lemmas.Bool.{cases_eq}
use Rattle.ex_base.specs.declared.geometry.Geometry.{Geometry}
use Rattle.ex_base.specs.declared.ground.Ground as ground
use Rattle.ex_base.specs.declared.names.PageNo.{PageNo}
use Rattle.ex_base.specs.Area.{NamesLeaf}
use Rattle.ex_base.specs.Bytes.{bytes_at}
use Rattle.ex_base.specs.Ports.{IsLowest, Keeps, TakesUnit}
use Rattle.ex_base.specs.declared.names.Area.{Area}
use Rattle.ex_base.specs.declared.names.Area.TheVariants.{Page, Segment}
use Rattle.ex_base.specs.Sizes.{leaf_bytes}
use Rattle.trees.specs.Made.{Extends, Has, Took}
use Rattle.trees.specs.Trees.{Units, units_on}
use Rattle.trees.specs.declared.rows.Part.{Part}
use Rattle.trees.proofs.Counts.{counted_back, counted_leaf}
use Rattle.trees.proofs.Laid.{extends_refl, took_more}
use Rattle.trees.proofs.Reading.{part_of_front}
use Rattle.compact.specs.High.{is_high, free_below}
use Rattle.compact.specs.Moved.{Copies, HasCopy, KeepsCopies, unmoved}
use Rattle.compact.specs.Walk.{Move, CanMove, IsGoodPair, IsTreeOf, LeafCopied, TreeMoved}
use Rattle.compact.proofs.Unmoved.{free_less, lowest_index, lowest_low, unmoved_exact, unmoved_less}
use Rattle.compact.proofs.Pairs.{begun_tree, good_self, pairs_later, pairs_put}
use Rattle.compact.proofs.Steps.{free_before, others_same, step_noted}

-- the first unit of a tree is its root
pub at_root : (P : ℕ → Type 0) (u : Units) (l page : ℕ) → AllByRecursion P (units_on u l page) → P page
at_root P u zero page all = all.0
at_root P u (suc l) page all = all.0

take_same : (xs ys : List ℕ) (n most : ℕ) → n ≤ most → take most xs ≡ take most ys → take n xs ≡ take n ys
take_same xs ys n most le same = sym (part_of_front xs 0 n most (omega (arith, le))) ∙ ap (take n) same ∙ part_of_front ys 0 n most (omega (arith, le))

-- one copy of a unit
pub same_copy : (a b : PageNo) → Some a ≡ Some b → a.0 ≡ b.0
same_copy a b is = let same : a ≡ b = cc in ap (λ (p : PageNo). p.0) same

module _ {S : Type 0} (g : ground.Ghosts S) where
  -- a tree that has a copy
  pub known_copy : (move : Move S) (dense : ℕ) (s : S) (moves : Copies) (l least : ℕ) (part : Part) (copy : PageNo) → CanMove g move dense s moves l least (part ∷ []) → moves part.page.0 ≡ Some copy
      → TreeMoved g move dense s s moves moves l part.page.0 copy.0
  known_copy move dense s moves l least part copy can sent =
      let t = can.trees.0 in
      let begun = begun_tree g move dense s l least part can.since t in
      record {
        good = can.pairs l part.page.0 copy (at_root (Has move.units) (g.unit s) l part.page.0 t.units) sent begun.0 begun.1;
        step = step_noted g move dense s moves moves (units_on (g.unit s) l part.page.0) (units_on (g.unit s) l copy.0) (λ p c is. is) refl (λ p c is. inl is) can.pairs;
      }

  -- a low leaf
  pub low_leaf : (move : Move S) (dense : ℕ) (s : S) (moves : Copies) (least : ℕ) (part : Part) → CanMove g move dense s moves 0 least (part ∷ []) → is_high (g.geometry s) dense part.page.0 ≡ false
      → TreeMoved g move dense s s moves moves 0 part.page.0 part.page.0
  low_leaf move dense s moves least part can low = record {
    good = good_self g move dense s moves 0 least part can.trees.0 (low, tt) (record { leaves = subst (λ (b : Bool). AllByRecursion (HasCopy moves) (if b then part.page.0 ∷ [] else [])) (sym low) tt; nodes = tt });
    step = step_noted g move dense s moves moves (units_on (g.unit s) 0 part.page.0) (units_on (g.unit s) 0 part.page.0) (λ p c is. is) refl (λ p c is. inl is) can.pairs;
  }

  -- a high leaf is one of those to copy
  pub high_leaf : (move : Move S) (dense : ℕ) (s : S) (least : ℕ) (part : Part) → IsTreeOf g move dense s 0 least part → is_high (g.geometry s) dense part.page.0 ≡ true → Has move.leaves part.page.0
  high_leaf move dense s least part t high = (subst (λ (b : Bool). AllByRecursion (Has move.leaves) (if b then part.page.0 ∷ [] else [])) high t.leaves).0

  -- a leaf that was read whole, and then written
  pub leaf_copied : (a mid b : S) (page copy : ℕ) (content : List ℕ) → length content ≡ leaf_bytes (g.geometry a) → (g.tells a → content ≡ bytes_at (g.unit a page) 0 (length content)) → Keeps g a mid → g.leads mid b → TakesUnit g mid b Segment copy content
      → IsLowest (g.geometry mid) (g.used mid) Segment copy → g.refs b ≡ g.refs mid → g.free b Segment + 1 ≡ g.free mid Segment → g.free b Page ≡ g.free mid Page → LeafCopied g a b page copy
  leaf_copied a mid b page copy content len read k leads taken lowest refs segments pages =
      let geo : g.geometry mid ≡ g.geometry a = g.leads_geometry a mid k.leads in
      let none : Took g a a [] = record { each = tt; all = λ p is. absurd (true≢false (sym is.1 ∙ is.0)) } in
      record {
        named = subst (λ (h : Geometry). NamesLeaf h copy) geo taken.named;
        took = took_more g a a mid b [] Segment copy content (extends_refl g a) k taken none;
        lowest = subst (λ (h : Geometry). IsLowest h (g.used a) Segment copy) geo (subst (λ (f : ℕ → Bool). IsLowest (g.geometry mid) f Segment copy) k.used lowest);
        bytes = λ told.
            subst (λ n. take n (g.unit b copy) ≡ take n (g.unit a page)) len (taken.bytes (g.leads_told a mid k.leads told) ∙ read told);
        spent = record {
          of_leaves = omega (arith, segments, ap (λ (f : Area → ℕ). f Segment) k.free);
          of_pages = omega (arith, pages, ap (λ (f : Area → ℕ). f Page) k.free);
        };
        counts = counted_back g a mid b k (counted_leaf g mid b copy content taken refs);
      }

  -- a high leaf that is copied
  pub copied_leaf : (move : Move S) (dense : ℕ) (old new : S) (moves after : Copies) (least : ℕ) (part : Part) (copy : PageNo) → CanMove g move dense old moves 0 least (part ∷ []) → is_high (g.geometry old) dense part.page.0 ≡ true
      → moves part.page.0 ≡ None → g.tells old → Extends g old new → LeafCopied g old new part.page.0 copy.0 → KeepsCopies moves after → after part.page.0 ≡ Some copy → ((q : ℕ) → q ≢ part.page.0 → after q ≡ moves q)
      → TreeMoved g move dense old new moves after 0 part.page.0 copy.0
  copied_leaf move dense old new moves after least part copy can high none told ext copied keeps here others =
      let t = can.trees.0 in
      let begun = begun_tree g move dense old 0 least part can.since t in
      let geo : g.geometry new ≡ g.geometry old = g.leads_geometry old new ext.leads in
      let one : unmoved after move.leaves + 1 ≡ unmoved moves move.leaves = unmoved_exact moves after move.leaves part.page.0 copy others (can.leaves.once part.page.0) (high_leaf move dense old least part t high) none here in
      let some : 1 ≤ free_below (g.geometry old) (g.used old) dense = omega (arith, one, can.room.low) in
      let low : is_high (g.geometry old) dense copy.0 ≡ false = lowest_low (g.geometry old) (g.used old) dense copy.0 copied.lowest some in
      let same : g.unit new part.page.0 ≡ g.unit old part.page.0 = ext.units part.page.0 t.used.0 in
      let taken = copied.took.each.0 in
      let high_now : is_high (g.geometry new) dense part.page.0 ≡ true = subst (λ (h : Geometry). is_high h dense part.page.0 ≡ true) (sym geo) high in
      let good : IsGoodPair g move dense new after 0 part.page.0 copy.0 = record {
        sound = record {
          named = subst (λ (h : Geometry). NamesLeaf h copy.0) (sym geo) copied.named;
          sized = λ n h. h;
          bytes = λ n h. take_same (g.unit new copy.0) (g.unit old part.page.0) n (leaf_bytes (g.geometry old)) (subst (λ (k : Geometry). n ≤ leaf_bytes k) geo h.1) (copied.bytes told) ∙ ap (take n) (sym same);
          shape = λ n h. refl;
          used = (taken.1, tt);
          low = (subst (λ (h : Geometry). is_high h dense copy.0 ≡ false) (sym geo) low, tt);
          still = λ not. absurd (true≢false (sym high ∙ subst (λ (h : Geometry). is_high h dense part.page.0 ≡ false) geo not));
          stay = subst (λ (b : Bool). AllByRecursion (Has (copy.0 ∷ [])) (if b then [] else part.page.0 ∷ [])) (sym high_now) tt;
        };
        own = (inl (free_before g move.start old copy.0 can.since taken.0, taken.1), tt);
        sent = record { leaves = subst (λ (b : Bool). AllByRecursion (HasCopy after) (if b then part.page.0 ∷ [] else [])) (sym high_now) ((copy, here), tt); nodes = tt };
      } in
      record {
        good = good;
        step = record {
          all = copied.took.all;
          copies = λ p is. elim (copied.took.all p is) [
            | inl e ↦ (part.page.0, copy, t.units.0, here, e)
            | inr nothing ↦ absurd nothing
          ];
          fresh = λ q c is. elim (cases_eq q part.page.0) [
            | inl e ↦ inr (inl (sym e), inl (same_copy copy c (sym here ∙ ap after (sym e) ∙ is)))
            | inr differ ↦ inl (sym (others q differ) ∙ is)
          ];
          pairs = pairs_put g move dense new moves after 0 part.page.0 copy keeps here others begun.0 good (pairs_later g move dense old new moves can.since ext can.pairs);
          paid = record {
            of_pages = omega (arith, copied.spent.of_pages, unmoved_less moves after move.nodes keeps);
            of_leaves = omega (arith, copied.spent.of_leaves, one);
            of_low = omega (
              arith,
              one,
              free_less (g.geometry old) (g.used old) (g.used new) copy.0 dense copied.lowest.index (lowest_index (g.geometry old) (g.used old) dense copy.0 copied.lowest some) (sym copied.lowest.named) taken.0 taken.1 (λ p differ. others_same g old new copy.0 p ext copied.took differ),
            );
          };
          counts = λ names. copied.counts;
        };
      }
