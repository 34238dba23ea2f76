use Rattle.std.proofs.Common.{◌≡◌, [], inr, refl, sym, subst}
use Rattle.disk_model.specs.Changes.{changes_refl}
use Rattle.disk_model.specs.Runs.{leaves_start}
use Rattle.volume_model.specs.Committed.{IsOverlayOf, StandsForVolume}
use Rattle.volume_model.specs.CrashImage.{agrees_stands}
use Rattle.commits.specs.Written.{InLogOrHomes}
use Rattle.commits.proofs.OneRecord.{no_room, none_committed, rows_emptied, over_none}
use Rattle.commits.proofs.keep.record_with_room.Given as given
use Rattle.commits.proofs.keep.record_with_room.Goals as goal
use Rattle.commits.proofs.keep.record_with_room.Goals.{After-drop-item-4}

-- ---- where the disk wasn't called

pub returns-in_default-clause-any_moment : goal.returns-in_default-clause-any_moment
returns-in_default-clause-any_moment g c d held honest holds committed =
    leaves_start (g.D.World.outside c.args.disk.now) (StandsForVolume d held) (g.D.World.is_world c.args.disk.now) (λ x here. agrees_stands held x d committed.parts (committed.durable x here))

pub returns-then-fits-clause-any_moment : goal.returns-then-fits-clause-any_moment
returns-then-fits-clause-any_moment g c d held honest holds committed =
    leaves_start (g.D.World.outside c.args.disk.now) (StandsForVolume d held) (g.D.World.is_world c.args.disk.now) (λ x here. agrees_stands held x d committed.parts (committed.durable x here))

pub returns-in_default-record_of_images-clause-any_moment : goal.returns-in_default-record_of_images-clause-any_moment
returns-in_default-record_of_images-clause-any_moment g c d held honest holds committed =
    leaves_start (g.D.World.outside c.args.disk.now) (StandsForVolume d held) (g.D.World.is_world c.args.disk.now) (λ x here. agrees_stands held x d committed.parts (committed.durable x here))

pub returns-in_default-clause-writes : goal.returns-in_default-clause-writes
returns-in_default-clause-writes g c =
    changes_refl (InLogOrHomes c.args.meta.now.geometry.page_size c.args.meta.now.committed) (g.D.World.outside c.args.disk.now)

pub returns-then-fits-clause-writes : goal.returns-then-fits-clause-writes
returns-then-fits-clause-writes g c =
    changes_refl (InLogOrHomes c.args.meta.now.geometry.page_size c.args.meta.now.committed) (g.D.World.outside c.args.disk.now)

pub returns-in_default-record_of_images-clause-writes : goal.returns-in_default-record_of_images-clause-writes
returns-in_default-record_of_images-clause-writes g c =
    changes_refl (InLogOrHomes c.args.meta.now.geometry.page_size c.args.meta.now.committed) (g.D.World.outside c.args.disk.now)

-- ---- once no record counts

pub returns-in_default-checkpoint-clause-writes : goal.returns-in_default-checkpoint-clause-writes
returns-in_default-checkpoint-clause-writes g c = c.checkpoint.ensures.writes

pub returns-clause-writes : goal.returns-clause-writes
returns-clause-writes g c = c.checkpoint.ensures.writes

emptied : (g : given.Over) (c : After-drop-item-4 g) → c.checkpoint.new.meta.committed ≡ []
emptied g c = none_committed c.checkpoint.new.log c.checkpoint.new.meta (c.checkpoint.ensures.logged c.requires.logged) c.in-Ok-checkpoint.ensures.none_counts

pub returns-clause-rows : goal.returns-clause-rows
returns-clause-rows g c = rows_emptied c.args.meta.now c.checkpoint.new.meta c.record_of.ensures.rows (emptied g c) c.checkpoint.ensures.working c.checkpoint.ensures.same_geometry

pub returns-clause-rule : goal.returns-clause-rule
returns-clause-rule g c = over_none c.checkpoint.new.meta c.args.txn c.args.notes.now c.args.meta.now.working c.in-Ok-record_of_images.whole (emptied g c) c.in-Ok-record_of_images.ensures.rule

pub returns-clause-done : goal.returns-clause-done
returns-clause-done g c d held honest holds committed =
    let here = c.in-Ok-checkpoint.ensures.done d held honest holds committed in (
      here.0,
      here.1,
      record {
        records = [];
        those = inr refl;
        anew = λ other. no_room d held c.args.log.now (g.D.World.outside c.args.disk.now).images c.args.meta.now c.args.txn c.args.notes.now c.in-Ok.item committed c.in-Ok.ensures.rule (λ fits. let e = c.fits.ensures.1 fits in absurd (cc (e, c.if-fits.false)));
        same = here.2.same;
        committed = here.2.committed;
        of_files = λ was. subst (IsOverlayOf d.volume) (sym (emptied g c)) tt;
      },
    )
