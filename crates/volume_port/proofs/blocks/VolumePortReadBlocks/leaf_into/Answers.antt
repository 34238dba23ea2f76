use Rattle.std.proofs.Common.{refl}
use Rattle.volume_port.proofs.Moving.{store_moves}
use Rattle.volume_port.proofs.WorkingRows.{image_same}
use Rattle.volume_port.proofs.blocks.VolumePortReadBlocks.leaf_into.Goals as goal

pub returns-clause-kept : goal.returns-clause-kept
returns-clause-kept g c =
    let s = c.args.self.now in
    let done = c.leaf_into.ensures.kept in
    record {
      units = done.units;
      images = image_same s.store.geometry c.leaf_into.new.self.geometry s.meta.now _ _ done.leads.geometry done.units;
      used = done.used;
      refs = done.refs;
      held = refl;
      free = done.free;
      touched = refl;
      leads = store_moves _ s.store c.leaf_into.new.self s.meta s.pages s.room s.room refl done.leads (λ p is stays. done.leads.used p is stays);
    }
