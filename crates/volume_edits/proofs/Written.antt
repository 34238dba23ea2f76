-- What updates write are records.
use Rattle.std.proofs.Common.{List, Option, Some, None, sym, subst}
use Rattle.std.specs.List.{AllByRecursion}
use Rattle.ex_base.specs.declared.names.Place.{Place}
use Rattle.object_records.specs.Record.{Record}
use Rattle.volume_model.specs.Volume.{Stored}
use Rattle.volume_model.specs.Links.{stored_from}
use Rattle.version_tree.specs.Bodies.{PlaceChange}
use Rattle.volume_edits.proofs.RecordEdits.{IsWritten}
use Rattle.volume_edits.proofs.RecordUpdates.{LinkComes, LinkTurns, NewerComes, NewerGoes, NewerTurns, gets_none, gets_one, had_none, had_one, newer_put, only_other, stays, turns}

turn_written : (s : Stored) (from to : Place) (others : List PlaceChange) → NewerTurns s from to others → AllByRecursion IsWritten others
turn_written s from to others (stays n) = tt
turn_written s from to others (turns now e b) = ((newer_put (Some to) s.body, b), tt)

pub link_written : (stored : List Stored) (from to : Place) (link : Option Place) (others : List PlaceChange) → LinkTurns stored from to link others → AllByRecursion IsWritten others
link_written stored from to None others l = subst (AllByRecursion IsWritten) (sym l) tt
link_written stored from to (Some place) others l = turn_written l.s from to others l.turned

pub goes_written : (place : Place) (is : Record) (others : List PlaceChange) → NewerGoes place is others → AllByRecursion IsWritten others
goes_written place is others (had_none e) = tt
goes_written place is others (had_one now e b) = ((newer_put None is, b), tt)

come_written : (s : Stored) (newer : Option Place) (others : List PlaceChange) → NewerComes s newer others → AllByRecursion IsWritten others
come_written s newer others gets_none = tt
come_written s newer others (gets_one now at b) = ((newer_put (Some at) s.body, b), tt)

pub comes_written : (stored : List Stored) (gone : Place) (link : Option Place) (others : List PlaceChange) → LinkComes stored gone link others → AllByRecursion IsWritten others
comes_written stored gone None others l = subst (AllByRecursion IsWritten) (sym l) tt
comes_written stored gone (Some place) others l = come_written l.s (only_other gone (stored_from place stored)) others l.comes
