-- A version that was moved in the working pages is settled: counted, released, committed and written home.
use Rattle.std.proofs.Common.{◌≡◌, ◌∙◌, ◌≤◌, ℕ, true, List, [], ◌∷◌, ◌++◌, length, Some, IsTrue, refl, sym, ap, subst}
use Rattle.ex_base.specs.declared.names.Root.{Root}
use Rattle.ex_base.specs.Area.{catalog_no}
use Rattle.disk_model.specs.Outside.{IsWorld, Leaves, Outside, ReadsOnly}
use Rattle.disk_model.specs.Runs.{leaves_quiet, leaves_start, leaves_wider}
use Rattle.buffer_groups.specs.Frames.{Frames}
use Rattle.tree_store.specs.Stored.{Tells}
use Rattle.meta_pages.specs.Overlays.{Overlays}
use Rattle.meta_pages.specs.Rows.{with_row}
use Rattle.op_log.specs.State.{LogState}
use Rattle.page_alloc.specs.UnitSet.{UnitSet, refs_at, used_at}
use Rattle.compact.specs.Moved.{Copies}
use Rattle.volume_model.specs.Committed.{Checkpointed, Committed, CommittedAs, IsOverlayOf, MayCommit, StandsForEither, StandsForVolume, with_records}
use Rattle.volume_model.specs.FreshView.{OwnsUnits}
use Rattle.volume_model.specs.Homes.{home}
use Rattle.volume_model.specs.Parts.{StandsFor}
use Rattle.volume_model.specs.Shown.{PageRow, WorkingRow}
use Rattle.volume_model.specs.Volume.{Decoded, Volume, table_of, units_of}
use Rattle.volume_port.specs.GivingUp.{CountsRoot, OwnRoots, ReleasesRoots}
use Rattle.volume_port.specs.State.{IsAtRest}
use Rattle.volume_port.specs.declared.state.VolumeState.{VolumeState}
use Rattle.packing.specs.Resting.{IsIdle, IsStartOf, MovesVersion}
use Rattle.packing.specs.Working.{MaySettle, MovesWorking}
use Rattle.packing.specs.declared.objects.LargeVersion.{LargeVersion}
use Rattle.packing.specs.declared.start.Start.{Start}
use Rattle.packing.proofs.SettledMoves.{committed_there, knows_final, may_commit, mid_geometry, moves_version, of_no_file, own_gone, owned_final, owned_now, same_kept, stands_before, stands_either, table_now}

-- what a commit and a checkpoint make of a volume, as their contracts say it
abbrev pub Commits : Outside → Outside → LogState → Overlays → ℕ → LogState → Overlays → Type 0
Commits y z log meta txn log_now meta_now = (d : Decoded) (held : List ℕ) (working : Volume) → IsTrue y.honest → y.disk ≡ Some held → Committed y.images d held log meta.committed → IsOverlayOf d.volume meta.committed
    → MayCommit d held meta.working txn working → (later : List ℕ) × (z.disk ≡ Some later) × CommittedAs d held meta.working txn [] working z.images later log_now meta_now.committed

abbrev pub CommitsMeanwhile : Outside → Outside → LogState → Overlays → ℕ → Type 0
CommitsMeanwhile y z log meta txn = (d : Decoded) (held : List ℕ) (working : Volume) → IsTrue y.honest → y.disk ≡ Some held → Committed y.images d held log meta.committed → IsOverlayOf d.volume meta.committed
    → MayCommit d held meta.working txn working → Leaves y z (StandsForEither d held meta.working working)

abbrev pub Homes : Outside → Outside → LogState → Overlays → LogState → Overlays → Type 0
Homes z q log meta closed meta_now = (d : Decoded) (held : List ℕ) → IsTrue z.honest → z.disk ≡ Some held → Committed z.images d held log meta.committed
    → (later : List ℕ) × (q.disk ≡ Some later) × Checkpointed d held q.images later closed meta_now.committed

abbrev pub HomesMeanwhile : Outside → Outside → LogState → Overlays → Type 0
HomesMeanwhile z q log meta = (d : Decoded) (held : List ℕ) → IsTrue z.honest → z.disk ≡ Some held → Committed z.images d held log meta.committed → Leaves z q (StandsForVolume d held)

module _ {w x : Outside} (old mid : VolumeState) (d : Decoded) (disk : List ℕ) (moves after : Copies) (version : LargeVersion) (gone come : Root) (start : Start) (may : MaySettle w x old mid d disk start.segs moves after version gone come) (few : length mid.meta.working ≤ 1) where
  differs : come ≡ version.root → ⊥
  differs same = may.differ (same ∙ sym may.root)

  abbrev works : MovesWorking w x old mid d disk start.segs moves after version come
  works = may.works

  abbrev later : List ℕ
  later = works.later

  -- the tree that went owns its units
  pub gone_owns : (counted : UnitSet) → CountsRoot (Some come) mid.units counted → OwnRoots mid.pages mid.kept mid.geometry x mid.groups counted (gone ∷ [])
  gone_owns counted counts = subst (λ (root : Root). OwnRoots mid.pages mid.kept mid.geometry x mid.groups counted (root ∷ [])) (sym may.root)
      (own_gone old mid d disk start.segs moves after version come may.rests works differs (units_of d disk catalog_no) refl few counted counts)

  module _ (is : IsStartOf d disk start) where
    -- before the commit
    pub first_moments : IsWorld x → {y : Outside} → ReadsOnly x y → Leaves x y (StandsForVolume d disk)
    first_moments world reads = leaves_quiet (StandsForVolume d disk)
        (leaves_start x (StandsForVolume d disk) world (stands_before old mid d disk start.segs moves after version come may.rests works differs start.catalog.items is.catalog few)) works.told.0 reads.nothing

    module _ {y : Outside} (reads : ReadsOnly x y) (honest : IsTrue y.honest) (meta : Overlays) (edited : meta ≡ record mid.meta { working = with_row catalog_no (Some start.catalog.items) mid.meta.working }) where
      disk_there : y.disk ≡ Some later
      disk_there = reads.nothing.disk ∙ works.holds

      committed_before : Committed y.images d later mid.log meta.committed
      committed_before = subst (λ (rows : List PageRow). Committed y.images d later mid.log rows) (sym (ap (λ (m : Overlays). m.committed) edited))
          (committed_there old mid d disk start.segs moves after version come may.rests works differs start.catalog.items is.catalog few reads)

      of_files : IsOverlayOf d.volume meta.committed
      of_files = subst (IsOverlayOf d.volume) (sym (ap (λ (m : Overlays). m.committed) edited)) (of_no_file old mid d disk start.segs moves after version come may.rests works differs start.catalog.items is.catalog few)

      abbrev now : Volume
      now = (works.turned differs).now

      may_it : MayCommit d later meta.working start.last now
      may_it = subst (λ (txn : ℕ). MayCommit d later meta.working txn now) (sym is.last)
          (subst (λ (rows : List WorkingRow). MayCommit d later rows d.volume.catalog.last now) (sym (ap (λ (m : Overlays). m.working) edited))
          (may_commit old mid d disk start.segs moves after version come may.rests works differs start.catalog.items is.catalog few))

      -- during the commit
      pub commit_moments : {z : Outside} → CommitsMeanwhile y z mid.log meta start.last → Leaves y z (StandsForVolume d disk)
      commit_moments moments = leaves_wider (StandsForEither d later meta.working now) (StandsForVolume d disk) (moments d later now honest disk_there committed_before of_files may_it)
          (λ e stands. stands_either old mid d disk start.segs moves after version come may.rests works differs start.catalog.items is.catalog few e
          (subst (λ (rows : List WorkingRow). StandsForEither d later rows now e) (ap (λ (m : Overlays). m.working) edited) stands))

      module _ (z : Outside) (log : LogState) (written : Overlays) (commits : Commits y z mid.log meta start.last log written) (honest_z : IsTrue z.honest) where
        committed_it : (held : List ℕ) × (z.disk ≡ Some held) × CommittedAs d later meta.working start.last [] now z.images held log written.committed
        committed_it = commits d later now honest disk_there committed_before of_files may_it

        as_logged : CommittedAs d later (with_row catalog_no (Some start.catalog.items) mid.meta.working) d.volume.catalog.last [] now z.images committed_it.0 log written.committed
        as_logged = subst (λ (txn : ℕ). CommittedAs d later (with_row catalog_no (Some start.catalog.items) mid.meta.working) txn [] now z.images committed_it.0 log written.committed) is.last
            (subst (λ (rows : List WorkingRow). CommittedAs d later rows start.last [] now z.images committed_it.0 log written.committed) (ap (λ (m : Overlays). m.working) edited) committed_it.2)

        abbrev logged_now : Decoded
        logged_now = with_records d (as_logged.earlier ++ as_logged.made ∷ []) now

        -- while it is written home
        pub home_moments : {q : Outside} → HomesMeanwhile z q log written → Leaves z q (StandsForVolume d disk)
        home_moments moments = leaves_wider (StandsForVolume logged_now committed_it.0) (StandsForVolume d disk) (moments logged_now committed_it.0 honest_z committed_it.1 as_logged.committed) (λ e stands. subst (StandsFor e) stands_same stands)
          where
            stands_same : table_of (units_of logged_now committed_it.0) now ≡ table_of (units_of d disk) d.volume
            stands_same = as_logged.table ∙ table_now old mid d disk start.segs moves after version come may.rests works differs start.catalog.items is.catalog few

        -- once it is home
        module _ (q : Outside) (closed : LogState) (left : Overlays) (homes : Homes z q log written closed left) (counted units : UnitSet) (groups : List Frames) (counts : CountsRoot (Some come) mid.units counted) (fewer : (u : ℕ) → used_at units u ≡ true → used_at counted u ≡ true)
            (released : ReleasesRoots mid.pages mid.kept mid.geometry x mid.groups counted units (gone ∷ [])) (told : Tells q groups) (idle : IsIdle q.size (record mid { units = units; groups = groups; meta = left; log = closed })) where
          abbrev new : VolumeState
          new = record mid { units = units; groups = groups; meta = left; log = closed }

          home_it : (image : List ℕ) × (q.disk ≡ Some image) × Checkpointed logged_now committed_it.0 q.images image closed left.committed
          home_it = homes logged_now committed_it.0 honest_z committed_it.1 as_logged.committed

          owns : OwnsUnits d.geometry (home d.geometry later) now (used_at units) (refs_at units)
          owns = owned_now old mid d disk start.segs moves after version come may.rests works differs start.catalog.items is.catalog few counted counts units
              (subst (λ (root : Root). ReleasesRoots mid.pages mid.kept mid.geometry x mid.groups counted units (root ∷ [])) may.root released)

          abbrev ended : Decoded
          ended = with_records d [] now

          again : IsAtRest q new ended home_it.0
          again = record {
            told = told;
            ready = idle.ready;
            holds = home_it.1;
            none = refl;
            geometry = mid_geometry old mid d disk start.segs moves after version come may.rests works differs start.catalog.items is.catalog few;
            committed = home_it.2.committed;
            images = idle.committed;
            working = idle.working;
            knows = knows_final old mid d disk start.segs moves after version come may.rests works differs start.catalog.items is.catalog few [] z q committed_it.0 home_it.0 log closed written.committed left.committed as_logged home_it.2 idle.committed units owns;
            owned = owned_final old mid d disk start.segs moves after version come may.rests works differs start.catalog.items is.catalog few [] z q committed_it.0 home_it.0 log closed written.committed left.committed as_logged home_it.2 idle.committed units owns;
            kept = same_kept old mid d disk start.segs moves after version come may.rests works differs start.catalog.items is.catalog few;
          }

          pub settled : MovesVersion q old new d disk start.segs moves after version
          settled = moves_version old mid d disk start.segs moves after version come may.rests works differs start.catalog.items is.catalog few [] z q committed_it.0 home_it.0 log closed written.committed left.committed as_logged home_it.2 idle.committed units owns
              new again refl counted counts fewer
