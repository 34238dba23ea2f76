-- A record that is written in the place of another.
use Rattle.std.specs.Prelude.{ℕ, ◌<◌, List, Option, Some, None}
use Rattle.ex_base.specs.declared.ground.Ground as ground
use Rattle.ex_base.specs.declared.names.PageNo.{PageNo}
use Rattle.ex_base.specs.declared.names.Place.{Place}
use Rattle.ex_base.specs.Ports.{PutsImage}
use Rattle.object_records.specs.Record.{Record, BodyOf}
use Rattle.ex_base.specs.declared.names.Index.{Index}
use Rattle.file_bodies.specs.Files.{EditsFile}

-- the page of a root, where it has one, isn't page 0
abbrev pub IsPlaced : Option PageNo → Type 0
IsPlaced None = Unit {0}
IsPlaced (Some page) = 0 < page.0

-- A record comes in the place of a body of a file, and only the image of its page changes.
pub record PutsRecord {S : Type 0} (g : ground.Ghosts S) (old new : S) (index : Index) (place : Place) (was : List ℕ) (is : Record) : Type 0 where
  pub body : List ℕ
  pub spelled : BodyOf body is
  pub edit : EditsFile g old new index index place (Some was) (Some body)
  pub image : List ℕ
  pub put : PutsImage g old new place.page.0 image
  pub leads : g.leads old new
