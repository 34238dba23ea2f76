use Rattle.std.proofs.Common.{◌≡◌, ◌≤◌, ◌-◌, ℕ, Bool, false, refl, sym, ap, ◌∙◌, arith}
use mathlib.Core.Path.{fun_ext}
use Rattle.page_alloc.specs.UnitSet.{refs_at}
use Rattle.ex_base.specs.Ports.{refs_most}
use Rattle.tree_store.proofs.Taking.{recounted, same_free, updated_here, updated_other}
use Rattle.tree_store.specs.Stored.{NoUnit}
use Rattle.volume_port.specs.Giving.{is_logged}
use Rattle.volume_port.proofs.Giving.{counts_given, less_refs, refs_of_other, same_tree_refs}
use Rattle.volume_port.proofs.giving_port.GivingPortCountBlocks.drop_ref.Goals as goal

pub returns-clause-counts : goal.returns-clause-counts
returns-clause-counts g c =
    let s = c.args.self.now in
    let page = c.args.page.0 in
    let less = refs_at s.units.now page - 1 in
    let dropped = c.drop_ref.ensures in
    let off : is_logged s.pages.now s.kept.now page ≡ false = sym c.is_logged.ensures ∙ c.if-is_logged.false in
    let before = c.requires.ready.fits.counted in
    let few : less ≤ refs_most = omega (arith, before.few page) in
    let counted = recounted s.geometry s.units.now c.drop_ref.new.self page less dropped.geometry dropped.used dropped.refs few (λ some. before.owned page (omega (arith, some))) in
    let here = ap (λ (f : ℕ → ℕ). f page) dropped.refs ∙ updated_here (refs_at s.units.now) page less in
    record {
      units = refl;
      images = refl;
      used = dropped.used;
      counted = omega (arith, here, refs_of_other s.pages.now s.kept.now s.units.now page off, refs_of_other s.pages.now s.kept.now c.drop_ref.new.self page off);
      others = λ p differ. same_tree_refs s.pages.now s.kept.now s.units.now c.drop_ref.new.self p (ap (λ (f : ℕ → ℕ). f p) dropped.refs ∙ updated_other (refs_at s.units.now) page less p differ);
      held = refl;
      free = fun_ext (λ area. same_free s.geometry s.units.now c.drop_ref.new.self area before (counted before) dropped.used);
      touched = refl;
      faults = refl;
      leads = counts_given g.D.World.outside NoUnit s.disk s.units _ s.groups s.index s.geometry s.pages.now s.kept.now refl (λ p is stays. ap (λ (f : ℕ → Bool). f p) dropped.used ∙ is)
          (λ p is. ap (λ (f : ℕ → Bool). f p) (sym dropped.used) ∙ is) counted (less_refs (refs_at s.units.now) (refs_at c.drop_ref.new.self) page less dropped.refs (omega arith)) (λ p held none. none);
    }
