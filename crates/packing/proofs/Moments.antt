-- A crash leaves the table of a volume at rest: nothing was written, or one step came after the other.
use Rattle.std.proofs.Common.{ℕ, List, refl, subst, ◌∙◌}
use Rattle.disk_model.specs.Outside.{IsWorld, Leaves, Outside, ReadsOnly}
use Rattle.disk_model.specs.Runs.{leaves_quiet, leaves_start, leaves_trans, leaves_wider}
use Rattle.table_model.specs.declared.table.Table.{Table}
use Rattle.volume_model.specs.Committed.{StandsForVolume}
use Rattle.volume_model.specs.CrashImage.{agrees_stands}
use Rattle.volume_model.specs.Parts.{StandsFor}
use Rattle.volume_model.specs.Volume.{Decoded}
use Rattle.volume_port.specs.State.{IsAtRest}
use Rattle.volume_port.specs.declared.state.VolumeState.{VolumeState}
use Rattle.packing.specs.Packing.{HoldsTableOf, KeepsTable}
use Rattle.packing.specs.Resting.{IsSameBut}

-- ---- one volume

module _ (w : Outside) (volume : VolumeState) (d : Decoded) (disk : List ℕ) (rests : IsAtRest w volume d disk) where
  pub holds_now : HoldsTableOf w d disk
  holds_now = (disk, rests.holds, record { decoded = d; parts = rests.committed.parts; same = refl })

  any_now : IsWorld w → Leaves w w (StandsForVolume d disk)
  any_now world = leaves_start w (StandsForVolume d disk) world (λ image here. agrees_stands disk image d rests.committed.parts (rests.committed.durable image here))

  pub keeps_now : IsWorld w → KeepsTable w w d disk
  keeps_now world = record { any_moment = any_now world; holds = holds_now }

  pub keeps_read : (b : Outside) → IsWorld w → ReadsOnly w b → KeepsTable w b d disk
  keeps_read b world reads = record {
    any_moment = leaves_quiet (StandsForVolume d disk) (any_now world) rests.told.0 reads.nothing;
    holds = (disk, reads.nothing.disk ∙ rests.holds, record { decoded = d; parts = rests.committed.parts; same = refl });
  }

-- ---- one after the other

abbrev stands_for : List ℕ → Table → Type 0
stands_for image table = StandsFor image table

pub keeps_on : (a b c : Outside) (d now : Decoded) (disk image : List ℕ) → IsSameBut d disk now image → KeepsTable a b d disk → KeepsTable b c now image → KeepsTable a c d disk
keeps_on a b c d now disk image same one two = record {
  any_moment = leaves_trans (StandsForVolume d disk) one.any_moment
      (leaves_wider (StandsForVolume now image) (StandsForVolume d disk) two.any_moment (λ left stands. subst (stands_for left) same.table stands));
  holds = let last = two.holds in (last.0, last.1, subst (stands_for last.0) same.table last.2);
}

pub same_trans : (d mid now : Decoded) (disk image later : List ℕ) → IsSameBut d disk mid image → IsSameBut mid image now later → IsSameBut d disk now later
same_trans d mid now disk image later one two = record {
  geometry = two.geometry ∙ one.geometry;
  table = two.table ∙ one.table;
  catalog = two.catalog ∙ one.catalog;
  page = two.page ∙ one.page;
  pages = two.pages ∙ one.pages;
}

pub same_refl : (d : Decoded) (disk : List ℕ) → IsSameBut d disk d disk
same_refl d disk = record { geometry = refl; table = refl; catalog = refl; page = refl; pages = refl }
