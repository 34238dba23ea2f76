use Rattle.std.proofs.Common.{◌≤◌, ◌-◌, ℕ, Bool, refl, ap, ◌∙◌, arith}
use mathlib.Core.Path.{fun_ext}
use Rattle.ex_base.specs.Ports.{refs_most}
use Rattle.page_alloc.specs.UnitSet.{refs_at}
use Rattle.tree_store.proofs.Taking.{recounted, same_free, updated_here, updated_other}
use Rattle.memory_ports.proofs.Writing.{follows_on_units}
use Rattle.memory_ports.proofs.volume.MemoryVolumeBlocks.drop_ref.Goals as goal

pub returns-clause-counts : goal.returns-clause-counts
returns-clause-counts c =
    let m = c.args.self.now in
    let page = c.args.page.0 in
    let less = refs_at m.units page - 1 in
    let dropped = c.drop_ref.ensures in
    let few : less ≤ refs_most = omega (arith, c.requires.ready.counted.few page) in
    let counted = recounted m.geometry m.units c.drop_ref.new.self page less dropped.geometry dropped.used dropped.refs few (λ some. c.requires.ready.counted.owned page (omega (arith, some))) in
    record {
      units = refl;
      images = refl;
      used = dropped.used;
      counted = ap (λ (f : ℕ → ℕ). f page) dropped.refs ∙ updated_here (refs_at m.units) page less;
      others = λ p differ. ap (λ (f : ℕ → ℕ). f p) dropped.refs ∙ updated_other (refs_at m.units) page less p differ;
      held = refl;
      free = fun_ext (λ area. same_free m.geometry m.units c.drop_ref.new.self area c.requires.ready.counted (counted c.requires.ready.counted) dropped.used);
      touched = refl;
      faults = refl;
      leads = follows_on_units m.geometry m.units c.drop_ref.new.self m.bytes.items m.bytes.items m.images.items m.images.items m.held.items counted refl refl (λ p is. ap (λ (f : ℕ → Bool). f p) dropped.used ∙ is);
    }
