use Rattle.std.proofs.Common.{refl}
use Rattle.volume_port.proofs.Moving.{store_moves}
use Rattle.volume_port.proofs.WorkingRows.{image_same}
use Rattle.volume_port.proofs.blocks.VolumePortBlocks.add_ref.Goals as goal

pub returns : goal.returns
returns g c =
    let s = c.args.self.now in
    let done = c.add_ref.ensures in
    record {
      units = done.units;
      images = image_same s.store.geometry c.add_ref.new.self.geometry s.meta.now _ _ done.leads.geometry done.units;
      used = done.used;
      counted = done.counted;
      others = done.others;
      held = refl;
      free = done.free;
      touched = refl;
      faults = done.faults;
      leads = store_moves _ s.store c.add_ref.new.self s.meta s.pages s.room s.room refl done.leads (λ p is stays. done.leads.used p is stays);
    }
