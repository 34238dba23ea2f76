use Rattle.std.proofs.Common.{ℕ, Bool, refl, ap, ◌∙◌}
use mathlib.Core.Path.{fun_ext}
use Rattle.ex_base.specs.Ports.{with_ref}
use Rattle.page_alloc.specs.UnitSet.{used_at, refs_at}
use Rattle.tree_store.proofs.Counting.{one_more_counted}
use Rattle.tree_store.proofs.Taking.{same_free, updated_here, updated_other}
use Rattle.memory_ports.proofs.Writing.{follows_on_units}
use Rattle.memory_ports.proofs.volume.MemoryVolumeBlocks.add_ref.Goals as goal

pub returns : goal.returns
returns c =
    let m = c.args.self.now in
    let page = c.args.page.0 in
    let added = c.add_ref.ensures in
    let counted = one_more_counted m.geometry m.units c.add_ref.new.self page added.geometry added.used added.refs in
    let more = with_ref (used_at m.units page) (refs_at m.units page) in
    record {
      units = refl;
      images = refl;
      used = added.used;
      counted = ap (λ (f : ℕ → ℕ). f page) added.refs ∙ updated_here (refs_at m.units) page more;
      others = λ p differ. ap (λ (f : ℕ → ℕ). f p) added.refs ∙ updated_other (refs_at m.units) page more p differ;
      held = refl;
      free = fun_ext (λ area. same_free m.geometry m.units c.add_ref.new.self area c.requires.ready.counted (counted c.requires.ready.counted) added.used);
      touched = refl;
      faults = refl;
      leads = follows_on_units m.geometry m.units c.add_ref.new.self m.bytes.items m.bytes.items m.images.items m.images.items m.held.items counted refl refl (λ p is. ap (λ (f : ℕ → Bool). f p) added.used ∙ is);
    }
