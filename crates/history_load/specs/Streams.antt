-- The load of a whole stream: what it does to what stands outside, and what it answers.
use Rattle.std.specs.Prelude.{◌≡◌, ℕ, ◌+◌, ◌*◌, ◌-◌, ◌≤◌, IsTrue, List, ◌++◌, drop, length, take, Some, None}
use Rattle.disk_model.specs.Outside.{Adds, Goes, Outside}
use Rattle.ex_base.specs.declared.geometry.Geometry.{Geometry}
use Rattle.ex_base.specs.Sizes.{leaf_bytes}
use Rattle.history_load.specs.Loads.{LoadsAs}
use Rattle.history_load.specs.declared.loaded.Loaded.{Loaded}
use Rattle.history_items.specs.Heads.{stream_head}
use Rattle.history_items.specs.declared.head.Head.{Head}
use Rattle.history_load.specs.Loading.{IsLoadedTo}
use Rattle.history_load.specs.declared.loader.Loader.{Loader}
use Rattle.history_model.specs.Dumps.{IsDump, IsNoDump}
use Rattle.history_model.specs.Stream.{HasHead, StreamHead, bytes_most, head_len, lack_of, misfit_of}
use Rattle.history_reads.specs.declared.heads.HeadFault.{HeadFault}
use Rattle.history_reads.specs.declared.heads.HeadFault.TheVariants.{Bad, Misfit, NoRoom}
use Rattle.table_model.specs.declared.table.Table.{Table}
use Rattle.table_model.specs.Tables.{versions_of}

-- ---- what it does outside

-- It takes from the source, and writes to the disk alone: nothing is sent.
pub record TakesAndWrites (a b : Outside) : Type 0 where
  pub goes : Goes a b
  pub sent : b.sent ≡ a.sent
  pub write_faults : b.write_faults ≡ a.write_faults
  pub adds : Adds a b (λ s d. a.sent ≡ Some s)

-- So many bytes were taken of what the source had left.
abbrev pub Takes : Outside → Outside → ℕ → Type 0
Takes a b n = (was : List ℕ) → a.left ≡ Some was → b.left ≡ Some (drop n was)

-- As many may be taken of a stream: with a head one more than a dump with that head has at most, and without one as many as a head has.
pub record IsDrawn (stream : List ℕ) (n : ℕ) : Type 0 where
  pub headed : (head : StreamHead) → HasHead stream head → n ≤ bytes_most head.page_size (head.seg_len * head.page_size) head + 1
  pub headless : ((head : StreamHead) → HasHead stream head → ⊥) → n ≤ head_len

-- how many bytes are taken of the source at once, at most
abbrev pub piece_most : ℕ
piece_most = 65536

-- how many bytes may come behind the head, with one more
abbrev pub most_behind : Geometry → Head → ℕ
most_behind g head = bytes_most g.page_size (leaf_bytes g) (stream_head head) + 1 - head_len

-- ---- what is loaded

-- So many bytes came of the source, and where a front of the stream was loaded before them, it and they are now.
pub record Feeds (g : Geometry) (a b : Outside) (old new : Loader) (n : ℕ) : Type 0 where
  pub within : (was : List ℕ) → a.left ≡ Some was → n ≤ length was
  pub takes : Takes a b n
  pub loads : (image joined was : List ℕ) → IsTrue a.honest → a.disk ≡ Some image → a.left ≡ Some was → IsLoadedTo g image joined old
      → (later : List ℕ) × (b.disk ≡ Some later) × IsLoadedTo g later (joined ++ take n was) new

-- Where a front of the stream was loaded, it and all that the source has left are no dump.
abbrev pub NoneComes : Geometry → Outside → Loader → Type 0
NoneComes g a old = (image joined was : List ℕ) → IsTrue a.honest → a.disk ≡ Some image → a.left ≡ Some was → IsLoadedTo g image joined old
    → IsNoDump (joined ++ was) g

-- Where the head alone was loaded, it and all that the source has left are no dump.
abbrev pub NoneBehindHead : Geometry → Outside → Loader → Type 0
NoneBehindHead g a old = (image joined was : List ℕ) → IsTrue a.honest → a.disk ≡ Some image → a.left ≡ Some was → length joined ≡ head_len → IsLoadedTo g image joined old
    → IsNoDump (joined ++ was) g

-- Where a front of the stream was loaded, it and all that the source had left are now.
abbrev pub LoadsAll : Geometry → Outside → Outside → Loader → Loader → Type 0
LoadsAll g a b old new = (image joined was : List ℕ) → IsTrue a.honest → a.disk ≡ Some image → a.left ≡ Some was → IsLoadedTo g image joined old
    → (later : List ℕ) × (b.disk ≡ Some later) × IsLoadedTo g later (joined ++ was) new

-- What stands on the disk is the volume that the stream is a dump of, once its catalog is committed.
abbrev pub IsWrittenAs : Geometry → Outside → List ℕ → Loaded → Type 0
IsWrittenAs g now stream loaded = (image : List ℕ) → now.disk ≡ Some image → LoadsAs g image stream loaded.catalog.items loaded.last loaded.leaves

-- Each table that the stream is a dump of has so many versions.
abbrev pub CountsVersions : Geometry → List ℕ → ℕ → Type 0
CountsVersions g stream count = (t : Table) → IsDump stream g t → count ≡ length (versions_of t)

-- ---- what is refused

-- What a stream that isn't loaded is for an empty volume of this geometry: exactly one of the three applies.
abbrev pub StreamRefused : Geometry → List ℕ → HeadFault → Type 0
StreamRefused g stream Bad = ((head : StreamHead) → HasHead stream head → (misfit_of g head ≡ None) × (lack_of (g.pages - 1) g.segs head ≡ None)) × IsNoDump stream g
StreamRefused g stream (Misfit m) = (head : StreamHead) × HasHead stream head × (misfit_of g head ≡ Some (m.field, (m.dump, m.volume)))
StreamRefused g stream (NoRoom l) = (head : StreamHead) × HasHead stream head × (misfit_of g head ≡ None) × (lack_of (g.pages - 1) g.segs head ≡ Some (l.area, (l.need, l.free)))
