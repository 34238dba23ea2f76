use Rattle.std.proofs.Common.{◌≡◌, ℕ, Bool, false, refl, sym, ap, subst, ◌∙◌}
use Rattle.std.proofs.lemmas.Bool.{both_ways}
use Rattle.ex_base.specs.declared.geometry.Geometry.{Geometry}
use Rattle.ex_base.specs.Area.{InArea}
use Rattle.page_alloc.specs.UnitSet.{used_at, refs_at}
use Rattle.tree_store.proofs.Taking.{given_counted, updated_here, updated_other, updated_same}
use Rattle.memory_ports.specs.InMemory.{flag_in}
use Rattle.memory_ports.proofs.Writing.{follows_on_parts}
use Rattle.memory_ports.proofs.volume.MemoryVolumeBlocks.give_unit.Goals as goal

pub returns : goal.returns
returns c =
    let m = c.args.self.now in
    let page = c.args.page.0 in
    let given = c.give.ensures in
    let refs : refs_at c.give.new.self ≡ refs_at m.units = given.refs ∙ updated_same (refs_at m.units) page 0 c.requires.unnamed in
    let counted = given_counted m.geometry m.units c.give.new.self page given.geometry given.used refs c.requires.unnamed in
    let geometry = c.requires.ready.counted.geometry in
    record {
      gone = ap (λ (f : ℕ → Bool). f page) given.used ∙ updated_here (used_at m.units) page false;
      used = λ p differ. ap (λ (f : ℕ → Bool). f p) given.used ∙ updated_other (used_at m.units) page false p differ;
      units = λ p differ. refl;
      images = refl;
      refs = refs;
      held = refl;
      freed = λ area there. given.free area (subst (λ (h : Geometry). InArea h area page) (sym geometry) there);
      kept = λ area away. given.other_free area (λ there. away (subst (λ (h : Geometry). InArea h area page) geometry there));
      touched = refl;
      faults = refl;
      frees = follows_on_parts m.geometry m.units c.give.new.self m.bytes.items m.bytes.items m.images.items m.images.items m.held.items m.held.items counted refl refl refl refl
          (λ is p set. ap (λ (f : ℕ → Bool). f p) given.used ∙ updated_other (used_at m.units) page false p (λ here. both_ways _ (ap (flag_in m.held.items) here ∙ c.requires.apart) set) ∙ is p set);
    }
