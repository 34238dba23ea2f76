-- What is handed from one call to the next while a version is settled: the parts of the state are ready for a commit, for a checkpoint, and at rest then.
use Rattle.std.proofs.Common.{◌≡◌, ◌∙◌, ◌+◌, ◌*◌, ◌<◌, ◌≤◌, ℕ, zero, suc, Bool, true, List, [], length, All, Some, IsTrue, nat_eq, refl, sym, ap, subst, arith, inl, inr}
use Rattle.std.specs.Prelude.{◌||◌, is_some}
use Rattle.std.specs.Map.{lookup}
use Rattle.std.proofs.lemmas.Bool.{cases_lt}
use Rattle.std.proofs.lemmas.List.{nil_from_length}
use Rattle.std.proofs.Math.Nat.{mul-le-mul_right}
use Rattle.ex_base.specs.declared.geometry.Geometry.{Geometry}
use Rattle.ex_base.specs.declared.names.Root.{Root}
use Rattle.ex_base.specs.Area.{catalog_no}
use Rattle.ex_base.specs.Limits.{touched_most}
use Rattle.ex_base.specs.Sizes.{volume_bytes}
use Rattle.disk_model.specs.Outside.{DiskOnly, IsWorld, Leaves, Outside, ReadsOnly}
use Rattle.disk_model.specs.Runs.{honest_on, told_value}
use Rattle.buffer_groups.specs.Frames.{Frames, Lends}
use Rattle.buffer_groups.specs.Groups.{SameKinds}
use Rattle.commits.specs.Room.{HasCatalog, IsLogged}
use Rattle.meta_pages.specs.Overlays.{Overlays}
use Rattle.meta_pages.specs.Rows.{with_row}
use Rattle.op_log.specs.State.{LogState}
use Rattle.page_alloc.specs.UnitSet.{UnitSet, used_at}
use Rattle.tree_store.specs.Stored.{AreFromCatalog, Fits, IsCounted, Tells}
use Rattle.volume_port.specs.GivingUp.{CountsRoot, GivesTrees, is_logged}
use Rattle.volume_port.specs.Logged.{is_held}
use Rattle.volume_port.specs.State.{AreReady}
use Rattle.volume_port.specs.declared.state.VolumeState.{VolumeState}
use Rattle.volume_port.proofs.Working.{lookup_put}
use Rattle.packing.specs.Resting.{IsIdle}
use Rattle.packing.proofs.IdleStates.{closed_log, idle_settled}

-- what the disk holds is what a crash may leave
pub holds_after : {a b : Outside} (Q : List ℕ → Type 0) (held : List ℕ) → IsWorld b → DiskOnly a b → a.disk ≡ Some held → Leaves a b Q → (image : List ℕ) × (b.disk ≡ Some image) × Q image
holds_after {a} {b} Q held world only holds leaves =
    let is = told_value b.disk (only.goes.disk_told ∙ ap is_some holds) in
    (is.0, is.1, leaves.now is.0 (world.held_may_stay is.0 is.1))

-- the pages with the catalog's own bytes as its image
abbrev pub with_catalog_image : Overlays → List ℕ → Overlays
with_catalog_image meta image = record meta { working = with_row catalog_no (Some image) meta.working }

-- The old tree was given up: the catalog's page got its own bytes as its image, the tree that came an owner, and the tree that went has one less.
pub record GaveOld (x y : Outside) (v : VolumeState) (image : List ℕ) (come : Root) (meta : Overlays) (counted units : UnitSet) (groups : List Frames) : Type 0 where
  pub ready : AreReady x.size v
  pub closed : v.log ≡ closed_log v.geometry
  pub bare : v.meta.committed ≡ []
  pub few : length v.meta.working ≤ 1
  pub edited : meta ≡ with_catalog_image v.meta image
  pub more : length meta.working ≤ length v.meta.working + 1
  pub counts : CountsRoot (Some come) v.units counted
  pub fit : IsCounted v.geometry counted
  pub gives : GivesTrees (is_logged v.pages v.kept) v.geometry x y counted units v.groups groups

-- The working pages were committed, so that no page is touched.
pub record KeptPages (y z : Outside) (v : VolumeState) (meta : Overlays) (groups : List Frames) (log : LogState) (written : Overlays) (later : List Frames) : Type 0 where
  pub only : DiskOnly y z
  pub geometry : written.geometry ≡ meta.geometry
  pub log_geometry : log.geometry ≡ v.log.geometry
  pub sizes : All (λ (f : Frames). f.page_size ≡ meta.geometry.page_size) later
  pub kinds : SameKinds groups later
  pub behind : AreFromCatalog groups → AreFromCatalog later
  pub logged : IsLogged log written
  pub committed : written.working ≡ []

-- The committed images were written home, where a record counts.
pub record WroteHome (z q : Outside) (log : LogState) (written : Overlays) (later : List Frames) (closed : LogState) (left : Overlays) (last : List Frames) : Type 0 where
  pub only : DiskOnly z q
  pub nothing : log.count ≡ 0 → (closed ≡ log) × (left ≡ written) × (last ≡ later)
  pub shut : 0 < log.count → closed ≡ record log { end = 0; count = 0 }
  pub emptied : 0 < log.count → left.committed ≡ []
  pub working : left.working ≡ written.working
  pub geometry : left.geometry ≡ written.geometry
  pub sizes : All (λ (f : Frames). f.page_size ≡ written.geometry.page_size) last
  pub kinds : SameKinds later last
  pub behind : AreFromCatalog later → AreFromCatalog last

pub gave_of : {x y : Outside} (v : VolumeState) (image : List ℕ) (come : Root) (meta : Overlays) (counted units : UnitSet) (groups : List Frames) → AreReady x.size v → v.log ≡ closed_log v.geometry → v.meta.committed ≡ [] → length v.meta.working ≤ 1 → meta ≡ with_catalog_image v.meta image
    → length meta.working ≤ length v.meta.working + 1 → CountsRoot (Some come) v.units counted → IsCounted v.geometry counted → GivesTrees (is_logged v.pages v.kept) v.geometry x y counted units v.groups groups → GaveOld x y v image come meta counted units groups
gave_of v image come meta counted units groups ready closed bare few edited more counts fit gives =
    record { ready = ready; closed = closed; bare = bare; few = few; edited = edited; more = more; counts = counts; fit = fit; gives = gives }

pub kept_of : {y z : Outside} (v : VolumeState) (meta : Overlays) (groups : List Frames) (log : LogState) (written : Overlays) (later : List Frames) → DiskOnly y z → written.geometry ≡ meta.geometry → log.geometry ≡ v.log.geometry → All (λ (f : Frames). f.page_size ≡ meta.geometry.page_size) later
    → SameKinds groups later → (AreFromCatalog groups → AreFromCatalog later) → IsLogged log written → written.working ≡ [] → KeptPages y z v meta groups log written later
kept_of v meta groups log written later only geometry log_geometry sizes kinds behind logged committed =
    record { only = only; geometry = geometry; log_geometry = log_geometry; sizes = sizes; kinds = kinds; behind = behind; logged = logged; committed = committed }

pub wrote_of : {z q : Outside} (log : LogState) (written : Overlays) (later : List Frames) (closed : LogState) (left : Overlays) (last : List Frames) → DiskOnly z q → (log.count ≡ 0 → (closed ≡ log) × (left ≡ written) × (last ≡ later)) → (0 < log.count → closed ≡ record log { end = 0; count = 0 })
    → (0 < log.count → left.committed ≡ []) → left.working ≡ written.working → left.geometry ≡ written.geometry → All (λ (f : Frames). f.page_size ≡ written.geometry.page_size) last → SameKinds later last → (AreFromCatalog later → AreFromCatalog last) → WroteHome z q log written later closed left last
wrote_of log written later closed left last only nothing shut emptied working geometry sizes kinds behind =
    record { only = only; nothing = nothing; shut = shut; emptied = emptied; working = working; geometry = geometry; sizes = sizes; kinds = kinds; behind = behind }

-- the frames lend what the disk holds from the first call to the last
pub told_after : {x y z q : Outside} (was groups later last : List Frames) → ReadsOnly x y → DiskOnly y z → DiskOnly z q → Tells x was → (Tells x was → Tells y groups) → (IsTrue y.honest → AreFromCatalog groups → All (Lends y.disk) groups → All (Lends z.disk) later)
    → (AreFromCatalog groups → AreFromCatalog later) → (IsTrue z.honest → AreFromCatalog later → All (Lends z.disk) later → All (Lends q.disk) last) → AreFromCatalog groups → Tells q last
told_after was groups later last reads commits homes told first lends behind closes from =
    let now = first told in
    let honest = honest_on commits.goes now.0 in
    (honest_on homes.goes honest, homes.goes.disk_told ∙ commits.goes.disk_told ∙ now.1, closes honest (behind from) (lends now.0 from now.2))

-- what a release asks of the parts
pub fits_counted : (x : Outside) (v : VolumeState) (counted : UnitSet) → AreReady x.size v → IsCounted v.geometry counted → Fits v.geometry x.size v.groups 0 counted
fits_counted x v counted ready fit = record { group = ready.fits.group; disk = ready.fits.disk; frames = ready.fits.frames; behind = ready.fits.behind; counted = fit }

module _ {x y : Outside} (v : VolumeState) (image : List ℕ) (come : Root) (meta : Overlays) (counted units : UnitSet) (groups : List Frames) (gave : GaveOld x y v image come meta counted units groups) where
  meta_geometry : meta.geometry ≡ v.geometry
  meta_geometry = ap (λ (m : Overlays). m.geometry) gave.edited ∙ gave.ready.overlay

  none_committed : meta.committed ≡ []
  none_committed = ap (λ (m : Overlays). m.committed) gave.edited ∙ gave.bare

  fits_given : Fits v.geometry y.size groups 0 units
  fits_given = gave.gives.fits (fits_counted x v counted gave.ready gave.fit)

  -- ---- ready for a commit

  pub commit_geometry : v.log.geometry ≡ meta.geometry
  commit_geometry = ap (λ (l : LogState). l.geometry) gave.closed ∙ sym meta_geometry

  pub commit_room : volume_bytes meta.geometry ≤ y.size
  commit_room = subst (λ (g : Geometry). volume_bytes g ≤ y.size) (sym meta_geometry) fits_given.disk

  pub commit_sizes : All (λ (f : Frames). f.page_size ≡ meta.geometry.page_size) groups
  commit_sizes = subst (λ (g : Geometry). All (λ (f : Frames). f.page_size ≡ g.page_size) groups) (sym meta_geometry) fits_given.frames

  pub commit_logged : IsLogged v.log meta
  commit_logged = record {
    images = subst (λ (n : ℕ). n * (meta.geometry.page_size + 4) ≤ v.log.end) (sym (ap length none_committed)) (omega arith);
    none = λ none. ap (λ (l : LogState). l.end) gave.closed;
  }

  pub commit_few : length meta.working ≤ touched_most
  commit_few = omega (arith, gave.more, gave.few)

  pub commit_catalog : HasCatalog meta.working
  commit_catalog = (image, ap (λ (m : Overlays). lookup (nat_eq catalog_no) m.working) gave.edited ∙ lookup_put catalog_no (Some image) v.meta.working)

  pub commit_behind : AreFromCatalog groups
  commit_behind = fits_given.behind

  -- ---- ready for a checkpoint

  module _ {z : Outside} (log : LogState) (written : Overlays) (later : List Frames) (kept : KeptPages y z v meta groups log written later) where
    pub checkpoint_geometry : log.geometry ≡ written.geometry
    checkpoint_geometry = kept.log_geometry ∙ commit_geometry ∙ sym kept.geometry

    pub checkpoint_room : volume_bytes written.geometry ≤ z.size
    checkpoint_room = subst (λ (g : Geometry). volume_bytes g ≤ z.size) (sym kept.geometry) (subst (λ (n : ℕ). volume_bytes meta.geometry ≤ n) (sym kept.only.goes.size) commit_room)

    pub checkpoint_sizes : All (λ (f : Frames). f.page_size ≡ written.geometry.page_size) later
    checkpoint_sizes = subst (λ (g : Geometry). All (λ (f : Frames). f.page_size ≡ g.page_size) later) (sym kept.geometry) kept.sizes

    -- ---- at rest then

    module _ {q : Outside} (closed : LogState) (left : Overlays) (last : List Frames) (home : WroteHome z q log written later closed left last) where
      log_is : log.geometry ≡ v.geometry
      log_is = kept.log_geometry ∙ ap (λ (l : LogState). l.geometry) gave.closed

      few_images : (n : ℕ) → log.end ≡ 0 → n * (written.geometry.page_size + 4) ≤ log.end → n ≡ 0
      few_images zero ends few = refl
      few_images (suc n) ends few = absurd (omega (arith, ends, few, mul-le-mul_right {m = 1} {n = suc n} (written.geometry.page_size + 4) (omega arith)))

      -- a log in which no record counts has no images
      no_images : log.count ≡ 0 → written.committed ≡ []
      no_images none = nil_from_length written.committed (few_images (length written.committed) (kept.logged.none none) kept.logged.images)

      as_closed : (l : LogState) → l.count ≡ 0 → l.end ≡ 0 → l ≡ closed_log l.geometry
      as_closed l count end = λ i. record { geometry = l.geometry; end = end i; count = count i }

      shut_log : closed ≡ closed_log v.geometry
      shut_log = elim (cases_lt 0 log.count) [
        | inl some ↦ home.shut some ∙ ap closed_log log_is
        | inr few ↦
            let none : log.count ≡ 0 = omega (arith, few) in
            (home.nothing none).0 ∙ as_closed log none (kept.logged.none none) ∙ ap closed_log log_is
      ]

      no_left : left.committed ≡ []
      no_left = elim (cases_lt 0 log.count) [
        | inl some ↦ home.emptied some
        | inr few ↦
            let none : log.count ≡ 0 = omega (arith, few) in
            ap (λ (m : Overlays). m.committed) (home.nothing none).1 ∙ no_images none
      ]

      still_used : (page : ℕ) → is_held v.pages page ≡ true → used_at units page ≡ true
      still_used page held = gave.gives.logged page (ap (λ (b : Bool). b || is_held v.kept page) held) (ap (λ (f : ℕ → Bool). f page) gave.counts.used ∙ gave.ready.in_use page held)

      pub idle_after : IsIdle q.size (record v { units = units; groups = last; meta = left; log = closed })
      idle_after = idle_settled x.size q.size v units last left closed gave.ready (home.only.goes.size ∙ kept.only.goes.size ∙ gave.gives.only.nothing.only.goes.size) fits_given.counted still_used
          (home.kinds ∙ kept.kinds ∙ gave.gives.kinds)
          (subst (λ (g : Geometry). All (λ (f : Frames). f.page_size ≡ g.page_size) last) (kept.geometry ∙ meta_geometry) home.sizes)
          (home.behind (kept.behind fits_given.behind))
          (home.geometry ∙ kept.geometry ∙ meta_geometry) (home.working ∙ kept.committed) no_left shut_log
