use Rattle.std.proofs.Common.{◌≡◌, ℕ, Bool, false, refl, sym, ap, subst, ◌∙◌, arith}
use mathlib.Core.Path.{fun_ext}
use Rattle.std.proofs.lemmas.Bool.{both_ways}
use Rattle.ex_base.specs.declared.geometry.Geometry.{Geometry}
use Rattle.ex_base.specs.Area.{InArea}
use Rattle.page_alloc.specs.UnitSet.{used_at, refs_at}
use Rattle.tree_store.proofs.Taking.{given_counted, updated_here, updated_other, updated_same}
use Rattle.volume_port.specs.Giving.{is_logged}
use Rattle.volume_port.proofs.Giving.{counts_given, refs_of_other, same_tree_refs, used_before}
use Rattle.volume_port.proofs.giving_port.GivingPortCountBlocks.give_unit.Goals as goal

pub returns-clause-given : goal.returns-clause-given
returns-clause-given g c =
    let s = c.args.self.now in
    let page = c.args.page.0 in
    let given = c.give.ensures in
    let none : refs_at s.units.now page ≡ 0 = sym (refs_of_other s.pages.now s.kept.now s.units.now page c.requires.apart) ∙ c.requires.unnamed in
    let refs : refs_at c.give.new.self ≡ refs_at s.units.now = given.refs ∙ updated_same (refs_at s.units.now) page 0 none in
    let counted = given_counted s.geometry s.units.now c.give.new.self page given.geometry given.used refs none in
    let geometry = c.requires.ready.fits.counted.geometry in
    record {
      gone = ap (λ (f : ℕ → Bool). f page) given.used ∙ updated_here (used_at s.units.now) page false;
      used = λ p differ. ap (λ (f : ℕ → Bool). f p) given.used ∙ updated_other (used_at s.units.now) page false p differ;
      units = λ p differ. refl;
      images = refl;
      refs = fun_ext (λ p. same_tree_refs s.pages.now s.kept.now s.units.now c.give.new.self p (ap (λ (f : ℕ → ℕ). f p) refs));
      held = refl;
      freed = λ area there. given.free area (subst (λ (h : Geometry). InArea h area page) (sym geometry) there);
      kept = λ area away. given.other_free area (λ there. away (subst (λ (h : Geometry). InArea h area page) geometry there));
      touched = refl;
      faults = refl;
      frees = counts_given g.D.World.outside (λ p. p ≡ page) s.disk s.units _ s.groups s.index s.geometry s.pages.now s.kept.now refl
          (λ p is stays. ap (λ (f : ℕ → Bool). f p) given.used ∙ updated_other (used_at s.units.now) page false p stays ∙ is) (used_before (used_at s.units.now) (used_at c.give.new.self) page given.used) counted
          (λ p. omega (arith, ap (λ (f : ℕ → ℕ). f p) refs)) (λ p held same. both_ways _ (ap (is_logged s.pages.now s.kept.now) same ∙ c.requires.apart) held);
    }
