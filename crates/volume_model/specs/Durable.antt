-- The bytes of a disk that no crash may change.
use Rattle.std.specs.Prelude.{◌≡◌, ◌⊎◌, ℕ, ◌+◌, ◌*◌, ◌<◌, ◌≤◌, List, length, slice_index, None, Contains}
use Rattle.ex_base.specs.Area.{area_end}
use Rattle.ex_base.specs.Sizes.{leaf_bytes}
use Rattle.disk_model.specs.Changes.{InRange}
use Rattle.op_log.specs.Log.{log_end}
use Rattle.op_log.specs.AfterLog.{logged}
use Rattle.volume_model.specs.Volume.{Decoded, units_of, reach_of}

-- the superblock, and the log up to and including the closed gate behind its last record
abbrev pub InFront : Decoded → ℕ → Type 0
InFront d i = i < d.geometry.page_size + (log_end d.records + 1)

-- the home of a page that the volume reaches and the log doesn't have
pub record InHome (d : Decoded) (disk : List ℕ) (i : ℕ) : Type 0 where
  pub page : ℕ
  pub reached : Contains (reach_of (units_of d disk) d.volume) page
  pub is_page : page < area_end d.geometry
  pub at_home : logged d.records page ≡ None
  pub inside : InRange (page * d.geometry.page_size) d.geometry.page_size i

-- a leaf of a tree of the volume
pub record InLeaf (d : Decoded) (disk : List ℕ) (i : ℕ) : Type 0 where
  pub leaf : ℕ
  pub reached : Contains (reach_of (units_of d disk) d.volume) leaf
  pub is_leaf : area_end d.geometry ≤ leaf
  pub inside : InRange (leaf * d.geometry.page_size) (leaf_bytes d.geometry) i

abbrev pub IsDurable : Decoded → List ℕ → ℕ → Type 0
IsDurable d disk i = InFront d i ⊎ InHome d disk i ⊎ InLeaf d disk i

-- The image is as long as the disk, and agrees with it on these bytes.
pub record Agrees (d : Decoded) (disk image : List ℕ) : Type 0 where
  pub size : length image ≡ length disk
  pub each : (i : ℕ) → IsDurable d disk i → slice_index image i ≡ slice_index disk i
