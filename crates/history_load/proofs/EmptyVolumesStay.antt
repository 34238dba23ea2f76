-- An empty volume stays at rest while units behind its catalog's page are written.
use Rattle.std.proofs.Common.{◌≡◌, ◌≢◌, ◌⊎◌, ◌≤◌, ◌<◌, inl, inr, ⊎_elim, ℕ, Bool, true, List, [], ◌∷◌, Option, Some, refl, sym, subst, ap, ◌∙◌, arith}
use Rattle.std.specs.Prelude.{Contains, IsSome, ◌↔◌}
use Rattle.std.proofs.lemmas.Bool.{cases_lt, lt-ltb}
use Rattle.std.proofs.Math.Nat.{mul-le-mul_right}
use Rattle.ex_base.specs.declared.geometry.Geometry.{Geometry}
use Rattle.ex_base.specs.Area.{IsUnit, area_end, catalog_no}
use Rattle.ex_base.specs.Ports.{times}
use Rattle.ex_base.proofs.Counts.{times_here}
use Rattle.disk_model.specs.Changes.{ChangesWithin, changes_wider}
use Rattle.disk_model.specs.Outside.{Adds, IsWorld, Leaves, Outside, SourceOnly}
use Rattle.disk_model.specs.Runs.{adds_wider, each_on, honest_on, leaves_trans}
use Rattle.page_alloc.specs.UnitSet.{refs_at, used_at}
use Rattle.table_model.specs.declared.table.Table.{Table}
use Rattle.table_model.specs.Tables.{empty_table}
use Rattle.tree_store.specs.Stored.{InRest, InUnit, IsCounted, NoUnit, Tells, unit_len}
use Rattle.trees.specs.Owners.{IsOwned, all_named}
use Rattle.trees.specs.Trees.{Units}
use Rattle.version_lists.proofs.Lists.{Has, contains_has}
use Rattle.volume_model.specs.CrashImage.{agrees_stands}
use Rattle.volume_model.specs.Homes.{home}
use Rattle.volume_model.specs.Parts.{StandsFor}
use Rattle.volume_model.specs.Volume.{Decoded, FileContent, Volume, file_pages, reach_of, table_of, units_of}
use Rattle.volume_port.specs.declared.state.VolumeState.{VolumeState}
use Rattle.volume_port.specs.State.{AreReady, IsAtRest}
use Rattle.volume_port.specs.Stays.{StaysUsed}
use Rattle.volume_port.proofs.Staying.{stands_meanwhile, stays_on}
use Rattle.restart.proofs.PortShows.{fresh_tells}
use Rattle.restart.specs.Opening.{AreOpened}
use Rattle.history_load.proofs.EmptyVolumes.{no_content}
use Rattle.history_writes.specs.Places.{IsBehindCatalog}
use Rattle.history_load.specs.Staying.{StaysEmpty}

-- ---- owners where no unit has one

no_times : (xs : List ℕ) → ((x : ℕ) → 1 ≤ times x xs → ⊥) → xs ≡ []
no_times [] none = refl
no_times (x ∷ xs) none = absurd (none x (omega (arith, times_here x x xs refl)))

unowned : (g : Geometry) (old new : Units) (used : ℕ → Bool) (refs : ℕ → ℕ) (logged roots : List ℕ) → ((unit : ℕ) → refs unit ≡ 0) → IsOwned g old used refs logged roots → IsOwned g new used refs logged roots
unowned g old new used refs logged roots none is = record {
  nodes = [];
  inner = tt;
  once = λ page. let zero : times page [] ≡ 0 = refl in omega (arith, zero);
  owners = λ unit. let zero : times unit (all_named new []) ≡ 0 = refl in let was = is.owners unit in omega (arith, was, none unit, zero);
  listed = λ page area some. absurd (omega (arith, some, none page));
  owned = λ page some. let zero : times page [] ≡ 0 = refl in absurd (omega (arith, some, zero));
  in_use = is.in_use;
  apart = is.apart;
}

-- ---- an empty volume reaches the catalog's page alone

abbrev with_files : Volume → List FileContent → Volume
with_files v files = record { catalog = v.catalog; files = files }

module _ (a b : Outside) (p : VolumeState) (opened : AreOpened p) (d : Decoded) (image : List ℕ) (rests : IsAtRest a p d image) (empty : table_of (units_of d image) d.volume ≡ empty_table)
    (changes : ChangesWithin (IsBehindCatalog p.geometry) a b) where
  alone : reach_of (units_of d image) d.volume ≡ catalog_no ∷ []
  alone = ap (λ (files : List FileContent). reach_of (units_of d image) (with_files d.volume files)) (no_content d.geometry d.records (units_of d image) d.volume rests.committed.parts.1.1 empty)

  used_is : (unit : ℕ) → used_at p.units unit ≡ true → unit ≡ catalog_no
  used_is unit used = by (contains_has (catalog_no ∷ []) unit (subst (λ (us : List ℕ). Contains us unit) alone ((rests.knows.units unit).0 used)))
    where
      by : Has (catalog_no ∷ []) unit → unit ≡ catalog_no
      by (inl is) = sym is
      by (inr none) = absurd none

  no_owner : (unit : ℕ) → refs_at p.units unit ≡ 0
  no_owner unit = elim (cases_lt 0 (refs_at p.units unit)) [
    | inl some ↦
        let is = used_is unit ((rests.owned.in_use unit).1 (omega (arith, some))) in
        rests.owned.apart unit (omega (arith, times_here unit catalog_no (file_pages d.volume) is))
    | inr none ↦ omega (arith, none)
  ]

  -- ---- what is written lies apart

  catalog_apart : (unit i : ℕ) → IsUnit d.geometry unit → unit ≢ catalog_no → InUnit d.geometry unit i → InUnit d.geometry catalog_no i → ⊥
  catalog_apart unit i is other there here =
      let some = d.geometry.some_pages in
      let long : unit_len d.geometry catalog_no ≡ d.geometry.page_size = rw (lt-ltb catalog_no (area_end d.geometry) (omega (arith, some))) refl in
      let low : 257 ≤ unit = ⊎_elim (λ page. page.0) (λ leaf. omega (arith, leaf.2)) is in
      let later : 258 ≤ unit = by (cases_lt 257 unit) low in
      omega (arith, there.0, here.1, long, mul-le-mul_right {m = 258} {n = unit} d.geometry.page_size later)
    where
      by : (257 < unit) ⊎ (unit ≤ 257) → 257 ≤ unit → 258 ≤ unit
      by (inl more) low = omega (arith, more)
      by (inr most) low = absurd (other (let e : unit ≡ 257 = omega (arith, most, low) in e))

  behind : (i : ℕ) → IsBehindCatalog d.geometry i → InRest d.geometry (used_at p.units) NoUnit i
  behind i is = record {
    unit = (is.0, (is.1, is.3));
    apart = λ unit named used stays there. catalog_apart is.0 i is.1 is.2 is.3 (subst (λ (u : ℕ). InUnit d.geometry u i) (used_is unit used) there);
  }

  in_rest : ChangesWithin (InRest d.geometry (used_at p.units) NoUnit) a b
  in_rest = changes_wider (IsBehindCatalog d.geometry) (InRest d.geometry (used_at p.units) NoUnit) (subst (λ (g : Geometry). ChangesWithin (IsBehindCatalog g) a b) (sym rests.geometry) changes) behind

  safe : (unit : ℕ) → Contains (reach_of (units_of d image) d.volume) unit → StaysUsed NoUnit (used_at p.units) unit
  safe unit reached = ((rests.knows.units unit).1 reached, λ none. none)

  -- ---- at rest

  stays : (later : List ℕ) × (b.disk ≡ Some later) × IsAtRest b p d later × (table_of (units_of d later) d.volume ≡ empty_table)
  stays =
      let counted = subst (λ (g : Geometry). IsCounted g p.units) (sym rests.geometry) rests.ready.fits.counted in
      let now = stays_on d image NoUnit p.units p.units counted safe a b in_rest rests.told.0 p.log p.meta.committed rests.committed rests.holds (λ unit stays. stays) in
      let still = now.1.1 in
      let told = fresh_tells p.geometry b p.groups now.0 opened.fresh.groups now.1.0 in (
        now.0,
        now.1.0,
        record {
          told = (honest_on changes.only.goes rests.told.0, told.0, told.1);
          ready = subst (λ (size : ℕ). AreReady size p) (sym changes.only.goes.size) rests.ready;
          holds = now.1.0;
          none = rests.none;
          geometry = rests.geometry;
          committed = still.committed;
          images = rests.images;
          working = rests.working;
          knows = record {
            units = λ unit. subst (λ (us : List ℕ). (used_at p.units unit ≡ true) ↔ Contains us unit) (sym still.reach) (rests.knows.units unit);
            pages = rests.knows.pages;
          };
          owned = unowned d.geometry (home d.geometry image) (home d.geometry now.0) _ _ _ _ no_owner rests.owned;
          kept = rests.kept;
        },
        still.table ∙ empty,
      )

  meanwhile : IsWorld a → Leaves a b (λ e. StandsFor e empty_table)
  meanwhile world =
      let counted = subst (λ (g : Geometry). IsCounted g p.units) (sym rests.geometry) rests.ready.fits.counted in
      subst (λ (t : Table). Leaves a b (λ e. StandsFor e t)) empty (stands_meanwhile d image NoUnit p.units p.units counted safe a b in_rest rests.told.0 p.log p.meta.committed rests.committed world)

-- ---- from one moment to another

-- where units behind the catalog's page alone were written,
pub writing_stays : (a b : Outside) (volume : VolumeState) → AreOpened volume → IsWorld a → ChangesWithin (IsBehindCatalog volume.geometry) a b → StaysEmpty a b volume
writing_stays a b volume opened world changes d image rests empty =
    let now = stays a b volume opened d image rests empty changes in
    (now.0, now.1, now.2, now.3, meanwhile a b volume opened d image rests empty changes world)

-- where the source alone was used,
pub taking_stays : (a b : Outside) (volume : VolumeState) → IsWorld a → SourceOnly a b → StaysEmpty a b volume
taking_stays a b volume world only d image rests empty = (image, only.disk ∙ rests.holds, still, empty, record { clock = only.goes.clock; each = each; adds = added; now = λ e here. stands e (only.images.back e here) })
  where
    told : Tells b volume.groups
    told = (
      honest_on only.goes rests.told.0,
      subst (λ (held : Option (List ℕ)). IsSome held) (sym only.disk) rests.told.1,
      rw (sym only.disk) at rests.told.2,
    )

    still : IsAtRest b volume d image
    still = record {
      told = told;
      ready = subst (λ (size : ℕ). AreReady size volume) (sym only.goes.size) rests.ready;
      holds = only.disk ∙ rests.holds;
      none = rests.none;
      geometry = rests.geometry;
      committed = record { parts = rests.committed.parts; durable = λ e here. rests.committed.durable e (only.images.back e here); shown = rests.committed.shown };
      images = rests.images;
      working = rests.working;
      knows = rests.knows;
      owned = rests.owned;
      kept = rests.kept;
    }

    stands : (e : List ℕ) → a.images e → StandsFor e empty_table
    stands e here = subst (StandsFor e) empty (agrees_stands image e d rests.committed.parts (rests.committed.durable e here))

    added : Adds a b (λ s e. StandsFor e empty_table)
    added = adds_wider (λ s e. (a.sent ≡ Some s) × a.images e) (λ s e. StandsFor e empty_table) only.adds (λ s e new. stands e new.1)

    each : (s e : List ℕ) → b.moments a.clock s e → StandsFor e empty_table
    each = each_on a.clock (λ s e. StandsFor e empty_table) (omega arith) (λ s e moment. stands e (world.now_only s e moment).1) added

-- and where one came after another
pub staying_joins : (a b c : Outside) (volume : VolumeState) → StaysEmpty a b volume → StaysEmpty b c volume → StaysEmpty a c volume
staying_joins a b c volume one other d image rests empty =
    let first = one d image rests empty in
    let second = other d first.0 first.2 first.3 in
    (second.0, second.1, second.2, second.3, leaves_trans (λ e. StandsFor e empty_table) first.4 second.4)
