-- The records of one file of a volume, and all of them.
use Rattle.std.proofs.Common.{List, ◌∷◌, ◌++◌, subst}
use Rattle.std.specs.List.{AllByRecursion}
use Rattle.ex_base.specs.declared.ground.Ground as ground
use Rattle.ex_base.proofs.Each.{each_as, split_each}
use Rattle.ex_base.specs.declared.names.Index.{Index}
use Rattle.op_log.specs.declared.record.LogRecord.{LogRecord}
use Rattle.volume_model.specs.Links.{AreLinked, HasObjects, HaveOlders, NumbersDiffer, PlacesDiffer, place_in}
use Rattle.volume_model.specs.Parts.{HasBodies}
use Rattle.volume_model.specs.Volume.{Stored, FileContent, Volume, stored_in, unique_of}
use Rattle.volume_model.proofs.Links.{linked_olders}
use Rattle.volume_model.proofs.Places.{Sep, sep_from, sep_to}
use Rattle.volume_model.proofs.Standing.{files_at, places_differ}
use Rattle.volume_edits.specs.Ported.{ShowsVolume, units_in}
use Rattle.volume_edits.proofs.TurnCounts.{sep_back, sep_front}
use Rattle.volume_edits.proofs.Whole.{linked_files, linked_three}
use Rattle.volume_edits.proofs.Holes.{Hole, catalog_with, file_with, filled, files_with, stored_filled, stored_first, stored_last}

module _ {S : Type 0} (g : ground.Ghosts S) (s : S) (records : List LogRecord) (h : Hole) (index : Index) (stored : List Stored) (vol : ShowsVolume g s records (filled h (g.image s) index stored)) where
  abbrev v : Volume
  v = filled h (g.image s) index stored

  abbrev whole : List Stored
  whole = stored_first h ++ (stored ++ stored_last h)

  abbrev Linked : FileContent → Type 0
  Linked file = AreLinked file.stored

  links : AllByRecursion (λ (file : FileContent). AreLinked file.stored) h.files_before × AllByRecursion (λ (file : FileContent). AreLinked file.stored) (file_with (g.image s) index stored ∷ h.files_behind)
  links = split_each Linked h.files_before (file_with (g.image s) index stored ∷ h.files_behind) (each_as HasBodies Linked (files_with h (g.image s) index stored) (λ file b. b.linked) vol.parts.1.1.1.0)

  pub own_links : AreLinked stored
  own_links = links.1.0

  pub own_olders : HaveOlders stored
  own_olders = linked_olders stored own_links

  all_differ : NumbersDiffer (stored_in v)
  all_differ = vol.parts.1.1.1.1.1.1.0.differ

  pub whole_numbers : NumbersDiffer whole
  whole_numbers = subst NumbersDiffer (stored_filled h (g.image s) index stored) all_differ

  pub own_numbers : NumbersDiffer stored
  own_numbers = sep_to unique_of stored (sep_front unique_of stored (stored_last h) (sep_back unique_of (stored_first h) (stored ++ stored_last h) (sep_from unique_of whole whole_numbers)))

  pub whole_places : PlacesDiffer whole
  whole_places = subst PlacesDiffer (stored_filled h (g.image s) index stored)
      (places_differ (units_in g s) (stored_in v) (files_at (units_in g s) (catalog_with h index).entries (files_with h (g.image s) index stored) vol.parts.1.1.0 vol.parts.1.1.1.0) all_differ)

  apart : Sep place_in whole
  apart = sep_from place_in whole whole_places

  pub first_links : AreLinked (stored_first h)
  first_links = linked_files h.files_before (sep_front place_in (stored_first h) (stored ++ stored_last h) apart) links.0

  pub last_links : AreLinked (stored_last h)
  last_links = linked_files h.files_behind (sep_back place_in stored (stored_last h) (sep_back place_in (stored_first h) (stored ++ stored_last h) apart)) links.1.1

  pub whole_links : AreLinked whole
  whole_links = linked_three (stored_first h) stored (stored_last h) apart first_links own_links last_links

  pub whole_olders : HaveOlders whole
  whole_olders = linked_olders whole whole_links

  pub whole_objects : HasObjects (units_in g s) whole
  whole_objects = subst (HasObjects (units_in g s)) (stored_filled h (g.image s) index stored) vol.parts.1.1.1.1.0.objects
