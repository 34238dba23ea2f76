-- What is listed of the records of a file.
use Rattle.std.specs.Prelude.{ℕ, List, length, Option, Some, None}
use Rattle.ex_base.specs.declared.names.Place.{Place}
use Rattle.object_records.specs.Reads.{record_on}
use Rattle.file_bodies.specs.Bodies.{Row}
use Rattle.versions.specs.Versions.{root_of}
use Rattle.record_lists.specs.declared.Listed.{Listed}

-- the record that is read in the body at a place
abbrev pub listed_at : Place → List ℕ → Listed
listed_at place body = record { place = place; head = (record_on body).head; root = root_of (record_on body).content; len = length body }

abbrev pub listed_of : Row → Listed
listed_of row = listed_at row.0 row.1

-- where it stands, if there is one
abbrev pub place_if : Option Listed → Option Place
place_if None = None
place_if (Some listed) = Some listed.place
