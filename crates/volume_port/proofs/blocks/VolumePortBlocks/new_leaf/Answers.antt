use Rattle.std.proofs.Common.{refl}
use Rattle.tree_store.specs.Stored.{unit_bytes}
use Rattle.volume_port.proofs.Moving.{store_moves}
use Rattle.volume_port.proofs.WorkingRows.{image_stays}
use Rattle.volume_port.proofs.blocks.VolumePortBlocks.new_leaf.Goals as goal
use Rattle.ex_base.proofs.Results.{if_ok_both}

pub returns-clause-taken : goal.returns-clause-taken
returns-clause-taken g c =
    let s = c.args.self.now in
    let done = c.new_leaf.ensures in
    if_ok_both c.new_leaf.result _ _ _ (λ page taken others. record {
      named = taken.named;
      was_free = taken.was_free;
      now_used = taken.now_used;
      bytes = taken.bytes;
      units = taken.units;
      images = λ p differ. image_stays s.store.geometry c.new_leaf.new.self.geometry s.meta.now (unit_bytes s.store.geometry (g.D.World.outside s.store.disk.now).disk)
          (unit_bytes c.new_leaf.new.self.geometry (g.D.World.outside c.new_leaf.new.self.disk.now).disk) p done.leads.geometry (λ unit. others p unit differ);
      used = taken.used;
      held = refl;
    }) done.taken done.others

pub returns-clause-leads : goal.returns-clause-leads
returns-clause-leads g c =
    let s = c.args.self.now in
    let leads = c.new_leaf.ensures.leads in
    store_moves _ s.store c.new_leaf.new.self s.meta s.pages s.room s.room refl leads (λ p is stays. leads.used p is stays)
