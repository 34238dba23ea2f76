-- A stream whose head was taken, and behind that all the rest.
use Rattle.std.proofs.lemmas.Option.{same_Some}
use Rattle.std.proofs.Common.{Option, ◌≡◌, ◌≤◌, ◌+◌, ◌-◌, ◌∙◌, ℕ, List, None, Some, drop, length, refl, ap, subst, IsTrue, sym}
use Rattle.disk_model.specs.Outside.{IsWorld, Outside, SourceOnly, WritesNothing}
use Rattle.disk_model.specs.Changes.{changes_nothing}
use Rattle.disk_model.specs.Runs.{honest_on}
use Rattle.ex_base.specs.Bytes.{IsBytes}
use Rattle.ex_base.specs.declared.geometry.Geometry.{Geometry}
use Rattle.history_fronts.specs.Fronts.{IsDumpHead}
use Rattle.history_items.specs.Heads.{stream_head}
use Rattle.history_items.specs.declared.head.Head.{Head}
use Rattle.history_load.specs.Loading.{IsLoadedTo}
use Rattle.history_load.specs.Streams.{IsDrawn, LoadsAll, NoneBehindHead, StreamRefused, Takes, most_behind}
use Rattle.history_load.specs.declared.loader.Loader.{Loader}
use Rattle.history_load.proofs.Feeding.{dropped}
use Rattle.history_load.proofs.HeadsSpelled.{drawn_behind, head_and_rest, head_is_bytes, refused_behind}
use Rattle.history_model.specs.Dumps.{IsNoDump}
use Rattle.history_model.specs.Stream.{HasHead, head_bytes, lack_of}
use Rattle.history_model.proofs.Lengths.{length-head}
use Rattle.history_reads.specs.declared.heads.HeadFault.TheVariants.{Bad}
use Rattle.history_fronts.specs.Fronts.{history_of}
use Rattle.history_load.specs.Loads.{LoadsAs}
use Rattle.history_load.proofs.EmptyVolumesStay.{writing_stays}
use Rattle.history_load.proofs.WholeStreams.{all_stand, none_ended}
use Rattle.history_reads.specs.Reads.{IsRead}
use Rattle.history_writes.specs.Files.{IsWritten}
use Rattle.object_files.specs.Edits.{entries_on}
use Rattle.volume_model.specs.Homes.{home}
use Rattle.history_load.specs.Staying.{StaysEmpty}
use Rattle.history_writes.specs.Places.{IsBehindCatalog}
use Rattle.restart.specs.Opening.{AreOpened}
use Rattle.volume_port.specs.declared.state.VolumeState.{VolumeState}

-- Where the disk was read or synced at most, an empty volume stays.
pub nothing_stays : (a b : Outside) (volume : VolumeState) → AreOpened volume → IsWorld a → WritesNothing a b → StaysEmpty a b volume
nothing_stays a b volume opened world quiet = writing_stays a b volume opened world (changes_nothing (IsBehindCatalog volume.geometry) quiet)

-- What a head that was taken says of what the source had left.
abbrev pub TakesHead : Outside → Outside → Head → Type 0
TakesHead a b head = (was : List ℕ) → a.left ≡ Some was → HasHead was (stream_head head) × (52 ≤ length was) × (b.left ≡ Some (drop 52 was))

module _ (g : Geometry) (a b c : Outside) (head : Head) (old new : Loader) (source : SourceOnly a b) (took : TakesHead a b head) (is : IsDumpHead g (stream_head head)) (room : lack_of (g.pages - 1) g.segs (stream_head head) ≡ None)
    (made : (image bytes : List ℕ) → IsBytes bytes → bytes ≡ head_bytes (stream_head head) → IsLoadedTo g image bytes old) where
  begins : (image : List ℕ) → IsLoadedTo g image (head_bytes (stream_head head)) old
  begins image = made image (head_bytes (stream_head head)) (head_is_bytes (stream_head head)) refl

  -- Where the rest was loaded, all of it is.
  pub all_loaded : LoadsAll g b c old new → (stream image : List ℕ) → IsTrue a.honest → a.left ≡ Some stream → a.disk ≡ Some image → (later : List ℕ) × (c.disk ≡ Some later) × IsLoadedTo g later stream new
  all_loaded loads stream image honest has holds =
      let came = took stream has in
      let now = loads image (head_bytes (stream_head head)) (drop 52 stream) (honest_on source.goes honest) (source.disk ∙ holds) came.2 (begins image) in
      (now.0, now.1, subst (λ (bytes : List ℕ). IsLoadedTo g now.0 bytes new) (head_and_rest stream (stream_head head) came.0) now.2)

  pub none_is : (stream : List ℕ) → a.left ≡ Some stream → IsNoDump stream g → StreamRefused g stream Bad
  none_is stream has none = refused_behind g stream head (took stream has).0 is room none

  -- Where no dump goes on so, it is none.
  pub none_loaded : NoneBehindHead g b old → (stream image : List ℕ) → IsTrue a.honest → a.left ≡ Some stream → a.disk ≡ Some image → StreamRefused g stream Bad
  none_loaded none stream image honest has holds =
      let came = took stream has in
      let refused = none image (head_bytes (stream_head head)) (drop 52 stream) (honest_on source.goes honest) (source.disk ∙ holds) came.2 (length-head (stream_head head)) (begins image) in
      none_is stream has (subst (λ (bytes : List ℕ). IsNoDump bytes g) (head_and_rest stream (stream_head head) came.0) refused)

  -- So many bytes were taken of the rest, and then none.
  pub draws_all : (n : ℕ) → n ≤ most_behind g head → Takes b c n → (d : Outside) → d.left ≡ c.left → (stream : List ℕ) → a.left ≡ Some stream → (m : ℕ) × IsDrawn stream m × (d.left ≡ Some (drop m stream))
  draws_all n few takes d same stream has =
      let came = took stream has in
      (52 + n, drawn_behind g stream head came.0 n is.sizes few, same ∙ takes (drop 52 stream) came.2 ∙ ap (λ (l : List ℕ). Some l) (dropped 52 n stream))

-- ---- its end

-- What is found, by its test, of all that was read and written.
abbrev OfWritten : Option (List ℕ) → Loader → (Geometry → List ℕ → List ℕ → Type 0) → Geometry → List ℕ → Type 0
OfWritten disk loader X g held = (joined d : List ℕ) → disk ≡ Some d → (read : IsRead g joined loader.progress held) → IsWritten g (home g d) (history_of read.front) (entries_on loader.files.catalog.items) → X g d joined

module _ (g : Geometry) (image stream : List ℕ) (loader : Loader) (is : IsLoadedTo g image stream loader) (geometry : loader.progress.geometry ≡ g) (held : List ℕ) (same : held ≡ loader.gathered.held)
    (disk : Option (List ℕ)) (holds : disk ≡ Some image) where
  -- It is so of a stream that was loaded whole.
  of_whole : (X : Geometry → List ℕ → List ℕ → Type 0) → OfWritten disk loader X loader.progress.geometry held → loader.progress.missing ≡ 0 → X g image stream
  of_whole X found none =
      let here : OfWritten disk loader X g loader.gathered.held = subst (OfWritten disk loader X g) same (subst (λ (x : Geometry). OfWritten disk loader X x held) geometry found) in
      here stream image holds is.read (all_stand g image stream loader is none)

  -- Where the test passed, it loads once its catalog is committed.
  pub written_loads : (out : List ℕ) (last leaves : ℕ) → loader.progress.missing ≡ 0 → OfWritten disk loader (λ x d joined. LoadsAs x d joined out last leaves) loader.progress.geometry held
      → (now : List ℕ) → disk ≡ Some now → LoadsAs g now stream out last leaves
  written_loads out last leaves none loads now at = subst (λ (d : List ℕ). LoadsAs g d stream out last leaves) (same_Some image now (sym holds ∙ at)) (of_whole (λ x d joined. LoadsAs x d joined out last leaves) loads none)

  -- Where it failed, the stream is no dump.
  pub tested_none : OfWritten disk loader (λ x d joined. IsNoDump joined x) loader.progress.geometry held → IsNoDump stream g
  tested_none bad = none_ended g stream loader.gathered.held loader.progress is.read (of_whole (λ x d joined. IsNoDump joined x) bad)
