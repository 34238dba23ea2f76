use Rattle.std.proofs.Common.{◌≡◌, refl, sym, ap, ◌∙◌}
use Rattle.std.proofs.lemmas.Bool.{both_ways}
use Rattle.volume_port.specs.Logged.{is_held}
use Rattle.volume_port.proofs.Moving.{store_frees}
use Rattle.volume_port.proofs.WorkingRows.{image_same, same_units}
use Rattle.volume_port.proofs.blocks.VolumePortBlocks.give_unit.Goals as goal

pub returns : goal.returns
returns g c =
    let s = c.args.self.now in
    let done = c.give_unit.ensures.given in
    record {
      gone = done.gone;
      used = done.used;
      units = done.units;
      images = image_same s.store.geometry c.give_unit.new.self.geometry s.meta.now _ _ done.frees.geometry
          (same_units s.store.geometry c.give_unit.new.self.geometry _ _ done.frees.geometry (ap (λ d. (g.D.World.outside d).disk) c.give_unit.ensures.disk));
      refs = done.refs;
      held = refl;
      freed = done.freed;
      kept = done.kept;
      touched = refl;
      faults = done.faults;
      frees = store_frees _ (λ p. p ≡ c.args.page.0) s.store c.give_unit.new.self s.meta s.pages s.room s.room refl done.frees (λ p is stays. done.frees.used p is stays)
          (λ p held same. both_ways _ c.requires.apart (ap (is_held s.pages.now) (sym same) ∙ held));
    }
