-- The versions that records are read as, in order of their numbers.
use Rattle.std.proofs.Common.{◌≡◌, List, map}
use Rattle.trees.specs.Trees.{Units}
use Rattle.version_lists.specs.declared.version.Version.{Version}
use Rattle.version_lists.specs.Versions.{unique_of as number_of}
use Rattle.version_lists.proofs.Lists.{Has, Rises, has_map, has_map_from}
use Rattle.version_lists.proofs.Sorted.{order_rises, order_has, order_has_from}
use Rattle.volume_model.specs.Volume.{Stored, unique_of, version_of, versions_stored}
use Rattle.volume_model.proofs.Places.{Sep, sep_map, sep_unlike}

pub stored_rises : (units : Units) (stored : List Stored) → Sep unique_of stored → Rises number_of (versions_stored units stored)
stored_rises units stored differ = order_rises number_of (map (version_of units stored) stored) (sep_unlike number_of (map (version_of units stored) stored) (sep_map (version_of units stored) number_of stored differ))

pub stored_has : (units : Units) (stored : List Stored) (s : Stored) → Has stored s → Has (versions_stored units stored) (version_of units stored s)
stored_has units stored s h = order_has number_of (map (version_of units stored) stored) (version_of units stored s) (has_map (version_of units stored) stored s h)

pub has_stored : (units : Units) (stored : List Stored) (v : Version) → Has (versions_stored units stored) v → (s : Stored) × Has stored s × (version_of units stored s ≡ v)
has_stored units stored v h = has_map_from (version_of units stored) stored v (order_has_from number_of (map (version_of units stored) stored) v h)
