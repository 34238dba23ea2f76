-- Where no part fails, a table stands there.
use Rattle.std.proofs.Common.{ℕ, ◌+◌, [], refl, arith}
use Rattle.ex_base.specs.declared.geometry.Geometry.{Geometry}
use Rattle.object_files.specs.Catalog.{fresh_catalog}
use Rattle.session_views.specs.declared.Part.{Part}
use Rattle.session_views.specs.declared.Part.TheVariants.{Super, Log, Catalog, File, Page, Body, Node, Balance, Unique}
use Rattle.std.proofs.Common.{List}
use Rattle.table_model.specs.declared.table.Table.{Table}
use Rattle.volume_model.specs.Parts.{FirstBad, FirstHold, StandsFor, rank}
use Rattle.volume_model.specs.Volume.{Decoded, table_of, units_of}

-- some geometry, and something that a disk may be tested against
least : Geometry
least = record {
  page_size = 512;
  pages = 1;
  segs = 0;
  seg_len = 1;
  fan = 2;
  a_page_size = refl;
  some_pages = omega arith;
  few_pages = omega arith;
  few_segs = omega arith;
  some_length = omega arith;
  short = omega arith;
  two = omega arith;
  narrow = omega arith;
}

some_decoded : Decoded
some_decoded = record { geometry = least; records = []; volume = record { catalog = fresh_catalog; files = [] } }

pub none_bad : (disk : List ℕ) → ((part : Part) → FirstBad disk part → ⊥) → ((table : Table) → StandsFor disk table → ⊥) → ⊥
none_bad disk good none =
    holds Super (holds Log (holds Catalog (holds File (holds Page (holds Body (holds Node (holds Balance (holds Unique all)))))))) (some_decoded, tt)
  where
    -- Not all nine hold, since no table stands there.
    all : FirstHold disk 9 → ⊥
    all hold = none (table_of (units_of hold.0 disk) hold.0.volume) (record { decoded = hold.0; parts = hold.1; same = refl })

    -- Nor do those before a part, since it isn't the first that fails.
    holds : (part : Part) → (FirstHold disk (rank part + 1) → ⊥) → FirstHold disk (rank part) → ⊥
    holds part fails earlier = good part (record { earlier = earlier; fails = fails })
