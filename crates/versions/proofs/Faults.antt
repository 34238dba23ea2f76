-- What a call on versions tells, from what the calls below it tell.
use Rattle.std.proofs.Common.{◌≡◌, ◌+◌, ◌≤◌, ◌⊎◌, ℕ, Bool, List, length, Some, sym, ap, subst, ◌∙◌, inl, inr, arith}
use Rattle.std.specs.Prelude.{⊤}
use Rattle.ex_base.specs.declared.faults.Seen.{Seen}
use Rattle.ex_base.specs.declared.faults.PortFault.{PortFault}
use Rattle.ex_base.specs.declared.faults.PortFault.TheVariants.{Disk, Memory, Damaged}
use Rattle.ex_base.specs.declared.geometry.Geometry.{Geometry}
use Rattle.ex_base.specs.declared.ground.Ground as ground
use Rattle.ex_base.specs.declared.names.Oid.{Oid}
use Rattle.ex_base.specs.declared.names.PageNo.{PageNo}
use Rattle.ex_base.specs.declared.names.Place.{Place}
use Rattle.ex_base.specs.declared.names.Root.{Root}
use Rattle.ex_base.specs.Ports.{IsDamage, Keeps}
use Rattle.ex_base.specs.declared.names.Index.{Index}
use Rattle.ex_base.specs.Seen.{nothing_seen, record_seen}
use Rattle.file_bodies.specs.Files.{HasBody}
use Rattle.file_bodies.specs.Damage.{IsBelongingFault, IsPlaceFault}
use Rattle.file_bodies.proofs.Blame.{carried}
use Rattle.trees.specs.Trees.{Units}
use Rattle.trees.specs.Damage.{IsRootReadFault}
use Rattle.trees.proofs.ReadFaults.{root_read_walks}
use Rattle.trees.specs.Roots.{IsRootFor}
use Rattle.versions.specs.Versions.{place_of}
use Rattle.versions.specs.Damage.{no_tree, record_fault, root_fault, HasSoundWay, IsFoundAnd, IsFoundAt, IsThereAnd, IsReadThrough, IsRootAt, IsPutFault, IsBytesFault, IsVersionFault, IsVersionReadFault, IsStepFault, in_tree, ports, no_place, no_limits, ports_own, unlike, bad_made, looking, not_asked, large, own, of_page, unread, finding, no_bytes, on_the_way}
use Rattle.versions.proofs.There.{there_as}
use Rattle.versions.specs.declared.finding.Found.{Found}
use Rattle.versions.proofs.Standing.{large_content}

-- ---- a record at a place

damage_is : (at : PageNo) (want got : Seen) (place : Place) → at ≡ place.page → want ≡ record_seen place.slot → got ≡ nothing_seen → Damaged at want got ≡ record_fault place
damage_is at want got place a w g = cc

pub place_bytes : (geo : Geometry) (units : Units) (held : ℕ → Bool) (bytes : List ℕ) (place : Place) (oid : Oid) (root : Root) (fault : PortFault) → place ≡ place_of oid → IsPlaceFault geo held bytes place fault → IsBytesFault geo units oid root ⊤ fault
place_bytes geo units held bytes place oid root Disk at h = ports_own (λ damage. damage)
place_bytes geo units held bytes place oid root Memory at h = ports_own (λ damage. damage)
place_bytes geo units held bytes place oid root (Damaged page want got) at h = unlike tt (damage_is page want got place h.0 h.1 h.2 ∙ ap record_fault at)

pub place_put : {S : Type 0} (g : ground.Ghosts S) (s : S) (place : Place) (root : Root) (fault : PortFault) → IsPlaceFault (g.geometry s) (g.held s) (g.image s place.page.0) place fault
    → (IsDamage fault → (index : Index) (was : List ℕ) → HasBody g s index place was → ⊥) → IsPutFault g s place root fault
place_put g s place root Disk h never = ports (λ damage. damage)
place_put g s place root Memory h never = ports (λ damage. damage)
place_put g s place root (Damaged page want got) h never = no_place (λ index was has long. never tt index was has) (damage_is page want got place h.0 h.1 h.2)

pub put_bytes : {S : Type 0} (g : ground.Ghosts S) (m : S) (geo : Geometry) (units : Units) (place : Place) (oid : Oid) (made root : Root) (Unlike : Type 0) (fault : PortFault) → g.geometry m ≡ geo → place ≡ place_of oid
    → (((index : Index) (was : List ℕ) → HasBody g m index place was → 36 ≤ length was → ⊥) → Unlike) → IsPutFault g m place made fault → IsBytesFault geo units oid root Unlike fault
put_bytes g m geo units place oid made root Unlike fault same at reason (ports never) = ports_own never
put_bytes g m geo units place oid made root Unlike fault same at reason (no_place lacks is) = unlike (reason lacks) (is ∙ ap record_fault at)
put_bytes g m geo units place oid made root Unlike fault same at reason (no_limits never is) =
    bad_made made (λ for. never (subst (λ (y : Geometry). IsRootFor y made) (sym same) for)) (is ∙ ap (λ (p : Place). root_fault p.page made) at)

pub step_bytes : (geo : Geometry) (units : Units) (image : ℕ → List ℕ) (place : Place) (oid : Oid) (fault : PortFault) → place ≡ place_of oid → IsStepFault geo image ⊤ place fault
    → IsBelongingFault geo image oid.page.0 fault ⊎ IsBytesFault geo units oid no_tree ⊤ fault
step_bytes geo units image place oid fault at (own never) = inr (ports_own never)
step_bytes geo units image place oid fault at (of_page h) = inl (subst (λ (p : Place). IsBelongingFault geo image p.page.0 fault) at h)
step_bytes geo units image place oid fault at (unread lacks is) = inr (unlike tt (is ∙ ap record_fault at))

-- ---- how a record isn't as it is asked

-- what leads to what is told where a damage is
pub bytes_as : (geo : Geometry) (units : Units) (oid : Oid) (root : Root) (P Q : Type 0) (fault : PortFault) → (IsDamage fault → P → Q) → IsBytesFault geo units oid root P fault → IsBytesFault geo units oid root Q fault
bytes_as geo units oid root P Q fault f (ports_own never) = ports_own never
bytes_as geo units oid root P Q fault f (in_tree h) = in_tree h
bytes_as geo units oid root P Q fault f (unlike p is) = unlike (f (subst IsDamage (sym is) tt) p) is
bytes_as geo units oid root P Q fault f (bad_made made never is) = bad_made made never is

pub step_as : (geo : Geometry) (image : ℕ → List ℕ) (P Q : Type 0) (place : Place) (fault : PortFault) → (P → Q) → IsStepFault geo image P place fault → IsStepFault geo image Q place fault
step_as geo image P Q place fault f (own never) = own never
step_as geo image P Q place fault f (of_page h) = of_page h
step_as geo image P Q place fault f (unread p is) = unread (f p) is

-- ---- what a read tells

-- it is told of the version
pub read_version : (geo : Geometry) (units : Units) (image : ℕ → List ℕ) (oid : Oid) (pos len : ℕ) (fault : PortFault) → IsVersionReadFault geo units image oid pos len fault
    → IsVersionFault geo units image oid (IsThereAnd geo image oid (λ found. pos + len ≤ found.size) → ⊥) fault
read_version geo units image oid pos len fault (finding h) = looking h
read_version geo units image oid pos len fault (no_bytes lacks is) = not_asked lacks is
read_version geo units image oid pos len fault (on_the_way root at h) = large root at (in_tree (root_read_walks geo units root pos len fault h))

-- a read of some of the bytes tells what a read of more may tell
pub read_of_more : (geo : Geometry) (units : Units) (image : ℕ → List ℕ) (oid : Oid) (pos len most : ℕ) (fault : PortFault) → pos + len ≤ most → IsVersionReadFault geo units image oid pos len fault → IsVersionReadFault geo units image oid 0 most fault
read_of_more geo units image oid pos len most fault within (finding h) = finding h
read_of_more geo units image oid pos len most fault within (no_bytes lacks is) = no_bytes (λ there. lacks (there_as _ _ _ _ _ (λ found enough. omega (arith, within, enough)) there)) is
read_of_more geo units image oid pos len most fault within (on_the_way root at h) = on_the_way root at (λ damage.
    let one = h damage in (one.0, (omega arith, omega (arith, within, one.1.1), one.1.2)))

-- ---- the root of a large version

pub root_at : (geo : Geometry) (image : ℕ → List ℕ) (oid : Oid) (found : Found) (root : Root) → IsFoundAt geo image oid found → found.root ≡ Some root → IsRootAt image oid root
root_at geo image oid found root at some = record {
  body = at.body;
  stands = at.stands;
  is = at.told.is;
  spelled = at.told.spelled;
  large = large_content at.told.is.content root (sym (ap (λ (f : Found). f.root) at.told.told) ∙ some);
}

-- ---- in a state with the same meanings

module _ {S : Type 0} (g : ground.Ghosts S) (a b : S) (kept : Keeps g a b) where
  over_units : (P : Geometry → Units → (ℕ → List ℕ) → Type 0) → (g.tells b → P (g.geometry b) (g.unit b) (g.image b)) → g.tells a → P (g.geometry a) (g.unit a) (g.image a)
  over_units P h told =
      carried g a b (λ y u. P y (g.unit a) u) kept (λ told_b. subst (λ (units : Units). P (g.geometry b) units (g.image b)) kept.units (h told_b)) told

  pub tree_read_kept : (root : Root) (pos len : ℕ) (fault : PortFault) → (g.tells b → IsRootReadFault (g.geometry b) (g.unit b) root pos len fault) → g.tells a → IsRootReadFault (g.geometry a) (g.unit a) root pos len fault
  tree_read_kept root pos len fault h told = over_units (λ y units image. IsRootReadFault y units root pos len fault) h told

  pub way_kept : (pos len : ℕ) (root : Root) → (g.tells b → HasSoundWay (g.geometry b) (g.unit b) pos len root) → g.tells a → HasSoundWay (g.geometry a) (g.unit a) pos len root
  way_kept pos len root h told = over_units (λ y units image. HasSoundWay y units pos len root) h told

  pub through_kept : (oid : Oid) (pos len : ℕ) → (g.tells b → IsFoundAnd (g.geometry b) (g.image b) oid (IsReadThrough (g.geometry b) (g.unit b) pos len)) → g.tells a → IsFoundAnd (g.geometry a) (g.image a) oid (IsReadThrough (g.geometry a) (g.unit a) pos len)
  through_kept oid pos len h told = over_units (λ y units image. IsFoundAnd y image oid (IsReadThrough y units pos len)) h told

  pub bytes_kept : (oid : Oid) (root : Root) (Unlike : Type 0) (fault : PortFault) → (g.tells b → IsBytesFault (g.geometry b) (g.unit b) oid root Unlike fault) → g.tells a → IsBytesFault (g.geometry a) (g.unit a) oid root Unlike fault
  bytes_kept oid root Unlike fault h told = over_units (λ y units image. IsBytesFault y units oid root Unlike fault) h told

  pub small_kept : (oid : Oid) (fault : PortFault) → (g.tells b → IsBelongingFault (g.geometry b) (g.image b) oid.page.0 fault ⊎ IsBytesFault (g.geometry b) (g.unit b) oid no_tree ⊤ fault)
      → g.tells a → IsBelongingFault (g.geometry a) (g.image a) oid.page.0 fault ⊎ IsBytesFault (g.geometry a) (g.unit a) oid no_tree ⊤ fault
  small_kept oid fault h told = over_units (λ y units image. IsBelongingFault y image oid.page.0 fault ⊎ IsBytesFault y units oid no_tree ⊤ fault) h told

  pub read_kept : (oid : Oid) (pos len : ℕ) (fault : PortFault) → (g.tells b → IsVersionReadFault (g.geometry b) (g.unit b) (g.image b) oid pos len fault)
      → g.tells a → IsVersionReadFault (g.geometry a) (g.unit a) (g.image a) oid pos len fault
  read_kept oid pos len fault h told = over_units (λ y units image. IsVersionReadFault y units image oid pos len fault) h told

-- a record is written in a later state
pub put_later : {S : Type 0} (g : ground.Ghosts S) (a m : S) (place : Place) (oid : Oid) (made root : Root) (Unlike : Type 0) (fault : PortFault) → g.leads a m → place ≡ place_of oid
    → (((index : Index) (was : List ℕ) → HasBody g m index place was → 36 ≤ length was → ⊥) → Unlike)
    → (g.tells m → IsPutFault g m place made fault) → g.tells a → IsBytesFault (g.geometry a) (g.unit a) oid root Unlike fault
put_later g a m place oid made root Unlike fault leads at reason h told =
    put_bytes g m (g.geometry a) (g.unit a) place oid made root Unlike fault (g.leads_geometry a m leads) at reason (h (g.leads_told a m leads told))
