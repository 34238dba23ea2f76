use Rattle.std.proofs.Common.{ℕ, Bool, refl, ap, ◌∙◌}
use mathlib.Core.Path.{fun_ext}
use Rattle.page_alloc.specs.UnitSet.{used_at, refs_at}
use Rattle.ex_base.specs.Ports.{with_ref}
use Rattle.tree_store.proofs.Counting.{one_more_counted}
use Rattle.tree_store.proofs.Taking.{counts_frees, same_free, updated_here, updated_other}
use Rattle.tree_store.specs.Stored.{NoUnit}
use Rattle.tree_store.proofs.store.StoreBlocks.add_ref.Goals as goal

pub returns : goal.returns
returns g c =
    let s = c.args.self.now in
    let page = c.args.page.0 in
    let added = c.add_ref.ensures in
    let counted = one_more_counted s.geometry s.units.now c.add_ref.new.self page added.geometry added.used added.refs in
    let more = with_ref (used_at s.units.now page) (refs_at s.units.now page) in
    record {
      units = refl;
      images = refl;
      used = added.used;
      counted = ap (λ (f : ℕ → ℕ). f page) added.refs ∙ updated_here (refs_at s.units.now) page more;
      others = λ p differ. ap (λ (f : ℕ → ℕ). f p) added.refs ∙ updated_other (refs_at s.units.now) page more p differ;
      held = refl;
      free = fun_ext (λ area. same_free s.geometry s.units.now c.add_ref.new.self area c.requires.ready.counted (counted c.requires.ready.counted) added.used);
      touched = refl;
      faults = refl;
      leads = counts_frees g.D.World.outside NoUnit s.disk s.units _ s.groups s.index s.geometry refl (λ p is stays. ap (λ (f : ℕ → Bool). f p) added.used ∙ is) counted;
    }
