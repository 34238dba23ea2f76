use Rattle.std.proofs.Common.{◌≡◌, ◌≢◌, ◌≤◌, ◌∙◌, ℕ, Bool, false, sym, ap, arith, ⊎_elim}
use Rattle.std.proofs.lemmas.Bool.{cases_eq, both_ways}
use Rattle.ex_base.specs.declared.names.Area.{Area}
use Rattle.ex_base.specs.declared.names.Area.TheVariants.{Page, Segment}
use Rattle.ex_base.proofs.Geometries.{each_area}
use Rattle.page_alloc.specs.UnitSet.{used_at, refs_at, free_count, updated}
use Rattle.tree_store.proofs.Taking.{updated_here, updated_other, updated_same}
use Rattle.session_core.proofs.session.settle.free_page.Goals as goal

pub returns-then-refs-eq0-clause-units : goal.returns-then-refs-eq0-clause-units
returns-then-refs-eq0-clause-units c =
    let page = c.args.page.0 in
    let old = c.args.units.now in
    let used = used_at old in
    let done = c.give.ensures in
    let refs = done.refs ∙ updated_same (refs_at old) page 0 (sym c.refs.ensures.refs ∙ c.if-refs-eq0.true) in
    record {
      geometry = done.geometry;
      used = λ unit is. ⊎_elim
          (λ (same : unit ≡ page). absurd (both_ways _ (ap (λ (f : ℕ → Bool). f unit) done.used ∙ ap (λ q. updated used page false q) same ∙ updated_here used page false) is))
          (λ (differ : unit ≢ page). sym (updated_other used page false unit differ) ∙ sym (ap (λ (f : ℕ → Bool). f unit) done.used) ∙ is) (cases_eq unit page);
      stays = λ unit was differ. ap (λ (f : ℕ → Bool). f unit) done.used ∙ updated_other used page false unit differ ∙ was;
      owned = λ unit was some. ⊎_elim
          (λ (same : unit ≡ page). absurd (omega (arith, some, ap (λ (f : ℕ → ℕ). f unit) refs, ap (refs_at old) same, c.refs.ensures.refs, c.if-refs-eq0.true)))
          (λ (differ : unit ≢ page). ap (λ (f : ℕ → Bool). f unit) done.used ∙ updated_other used page false unit differ ∙ was) (cases_eq unit page);
      refs = λ unit. let same = ap (λ (f : ℕ → ℕ). f unit) refs in omega (arith, same);
      free = each_area (λ (area : Area). free_count old.geometry used area ≤ free_count c.give.new.self.geometry (used_at c.give.new.self) area)
          (let more = done.free Page c.requires in omega (arith, more))
          (let same = done.other_free Segment (λ leaf. absurd (omega (arith, leaf.2, c.requires.1))) in omega (arith, same));
    }

pub returns-then-refs-eq0-clause-freed : goal.returns-then-refs-eq0-clause-freed
returns-then-refs-eq0-clause-freed c unnamed = ap (λ (f : ℕ → Bool). f c.args.page.0) c.give.ensures.used ∙ updated_here (used_at c.args.units.now) c.args.page.0 false
