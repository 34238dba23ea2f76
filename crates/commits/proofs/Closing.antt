-- The committed images go home, and the log is closed.
use Rattle.std.proofs.Common.{◌≡◌, ◌≢◌, ◌≤◌, ◌<◌, ◌*◌, ℕ, Bool, true, false, cond, inr, ⊎_elim, List, [], ◌∷◌, length, slice_index, All, Option, Some, None, IsSome, Result, Ok, Err, OnOk, IsTrue, nat_eq, unwrap_or, refl, sym, ap, subst, ◌∙◌, arith}
use Rattle.std.proofs.lemmas.List.{nil_from_length}
use Rattle.std.specs.Prelude.{Contains}
use Rattle.std.specs.List.{AllByRecursion}
use Rattle.std.specs.Map.{lookup}
use Rattle.std.proofs.lemmas.Bool.Decides.{eqb_tells}
use Rattle.std.proofs.lemmas.List.Elements.{All-head, All-tail}
use Rattle.std.proofs.lemmas.Option.{same_Some}
use Rattle.ex_base.specs.declared.geometry.Geometry.{Geometry}
use Rattle.ex_base.specs.Area.{catalog_no, area_end, InPageArea, page_at, leaf_at}
use Rattle.ex_base.specs.Sizes.{least_volume, least_page}
use Rattle.ex_base.specs.Superblock.{IsSuper}
use Rattle.disk_model.specs.Outside.{Outside, IsWorld, Only, Leaves}
use Rattle.disk_model.specs.Changes.{SameBut, InRange, ChangesWithin, changes_wider, leaves_changes}
use Rattle.buffer_groups.specs.Frames.{page_of}
use Rattle.commits.specs.Room.{BeforeCatalog}
use Rattle.disk_model.specs.Runs.{leaves_trans, leaves_wider, adds_both, honest_on}
use Rattle.buffer_groups.proofs.Kept.{pages_apart}
use Rattle.meta_pages.specs.Homes.{InHomes}
use Rattle.meta_pages.specs.Overlays.{IsPageRow}
use Rattle.op_log.specs.declared.record.LogRecord.{LogRecord}
use Rattle.op_log.specs.AfterLog.{logged, after_log}
use Rattle.op_log.specs.Gates.{front_of, front_kept, says_of}
use Rattle.op_log.proofs.Moments.{keeps_settled}
use Rattle.op_log.specs.Log.{SaysLog, SaysEither, DiskSays, KeepsLog, log_end}
use Rattle.op_log.specs.State.{LogState}
use Rattle.volume_model.specs.Committed.{Committed, Checkpointed, StandsForVolume, with_records}
use Rattle.volume_model.specs.CrashImage.{same_part, agrees_stands}
use Rattle.volume_model.specs.Durable.{Agrees, IsDurable, InFront, InHome, InLeaf}
use Rattle.volume_model.specs.Parts.{SuperOf, Decodes, HoldsOf, content_parts}
use Rattle.volume_model.specs.Shown.{PageRow}
use Rattle.volume_model.specs.Volume.{Decoded, reach_of, table_of, units_of}
use Rattle.commits.proofs.Places.{begins_behind, ends_before, not_in_both, behind_log, page_stays, leaf_stays, same_unit}
use Rattle.commits.proofs.HomesKept.{homes_stay}
use Rattle.commits.proofs.Reached.{reach_behind, without_last, decodes_as, table_as, stands_as}

-- two promises of one run at once
pub leaves_both : {a b : Outside} (P Q : List ℕ → Type 0) → Leaves a b P → Leaves a b Q → Leaves a b (λ e. P e × Q e)
leaves_both P Q one two = record {
  clock = one.clock;
  each = λ s d m. (one.each s d m, two.each s d m);
  adds = adds_both (λ s d. P d) (λ s d. Q d) one.adds two.adds;
  now = λ d here. (one.now d here, two.now d here);
}

-- facts of one success, joined
pub on_ok_of_three : {T E P Q R S : Type 0} (r : Result T E) → (P → Q → R → S) → OnOk r P → OnOk r Q → OnOk r R → OnOk r S
on_ok_of_three (Ok v) f p q r = f p q r
on_ok_of_three (Err e) f p q r = tt

-- a row's page lies in the page area
page_in : (g : Geometry) (rows : List PageRow) (page : ℕ) → All (IsPageRow g) rows → IsSome (lookup (nat_eq page) rows) → InPageArea g page
page_in g [] page all found = absurd (cc)
page_in g (row ∷ rows) page all found = ⊎_elim
    (λ (same : (nat_eq page row.0 ≡ true) × (page ≡ row.0)). subst (InPageArea g) (sym same.1) (All-head (IsPageRow g) row rows all).0)
    (λ (other : (nat_eq page row.0 ≡ false) × (page ≢ row.0)). page_in g rows page (All-tail (IsPageRow g) row rows all) (subst (λ (t : Bool). IsSome (cond t (Some row.1) (lookup (nat_eq page) rows))) other.0 found)) (eqb_tells page row.0)

pub homes_in_area : (g : Geometry) (rows : List PageRow) (i : ℕ) → All (IsPageRow g) rows → InHomes g.page_size rows i → (257 * g.page_size ≤ i) × (i < area_end g * g.page_size)
homes_in_area g rows i all home =
    let inside = page_in g rows home.0 all home.1 in
    (behind_log g.page_size home.0 i inside.0 home.2.0, omega (arith, home.2.1, ends_before g.page_size home.0 (area_end g) inside.1))

-- a page that has no row is in no home
apart_from_homes : (g : Geometry) (rows : List PageRow) (page i : ℕ) → lookup (nat_eq page) rows ≡ None → InRange (page * g.page_size) g.page_size i → InHomes g.page_size rows i → ⊥
apart_from_homes g rows page i none inside home =
    not_in_both (page * g.page_size) g.page_size (home.0 * g.page_size) g.page_size i
    (pages_apart g.page_size home.0 page (λ same. let found : IsSome (lookup (nat_eq page) rows) = subst (λ (p : ℕ). IsSome (lookup (nat_eq p) rows)) (sym same) home.1 in let never : IsSome {T = List ℕ} None = subst IsSome none found in cc))
    inside home.2

-- what a disk has of its log
pub log_room : (d : Decoded) (disk : List ℕ) → Decodes disk d → log_end d.records < 256 * d.geometry.page_size
log_room d disk parts = (front_of d.geometry d.records disk (omega (arith, parts.0.large, least_volume d.geometry)) parts.1.0.says).room

-- An image that agrees on what matters does so while homes of logged pages are written.
pub agrees_homes : (d : Decoded) (disk x e : List ℕ) (rows : List PageRow) → Decodes disk d → ((page : ℕ) → lookup (nat_eq page) rows ≡ logged d.records page) → All (IsPageRow d.geometry) rows
    → Agrees d disk x → SameBut (InHomes d.geometry.page_size rows) x e → Agrees d disk e
agrees_homes d disk x e rows parts just all agrees same = record {
  size = same.same_length ∙ agrees.size;
  each = λ i durable. same.each i (apart i durable) ∙ agrees.each i durable;
}
  where
    apart : (i : ℕ) → IsDurable d disk i → InHomes d.geometry.page_size rows i → ⊥
    apart i durable home = ⊎_elim
        (λ (front : InFront d i). absurd (omega (arith, front, (homes_in_area d.geometry rows i all home).0, log_room d disk parts)))
        (λ rest. ⊎_elim
        (λ (at_home : InHome d disk i). apart_from_homes d.geometry rows at_home.page i (just at_home.page ∙ at_home.at_home) at_home.inside home)
        (λ (leaf : InLeaf d disk i). absurd (omega (arith, leaf.inside.0, begins_behind d.geometry.page_size (area_end d.geometry) leaf.leaf leaf.is_leaf, (homes_in_area d.geometry rows i all home).1)))
        rest) durable

-- up to the end of the writes home
pub homes_leave : (d : Decoded) (disk : List ℕ) (log : LogState) (rows : List PageRow) (a b : Outside) → IsWorld a → IsTrue a.honest → Committed a.images d disk log rows → All (IsPageRow d.geometry) rows
    → ChangesWithin (InHomes d.geometry.page_size rows) a b → Leaves a b (StandsForVolume d disk)
homes_leave d disk log rows a b world honest committed all changes =
    leaves_changes (InHomes d.geometry.page_size rows) (StandsForVolume d disk) world honest changes
    (λ x e here same. agrees_stands disk e d committed.parts (agrees_homes d disk x e rows committed.parts committed.shown.just all (committed.durable x here) same))

-- ---- once they are at home

-- Each page from the catalog on is at home on this disk, and all else is as it was.
pub record AtHome (d : Decoded) (disk mid : List ℕ) : Type 0 where
  pub size : length mid ≡ length disk
  pub front : (i : ℕ) → i < 257 * d.geometry.page_size → slice_index mid i ≡ slice_index disk i
  pub pages : (page : ℕ) → page_at d.geometry mid page ≡ after_log d.geometry d.records disk page
  pub leaves : (page : ℕ) → area_end d.geometry ≤ page → leaf_at d.geometry mid page ≡ leaf_at d.geometry disk page

pub at_home : (d : Decoded) (disk mid : List ℕ) (rows : List PageRow) → ((page : ℕ) → lookup (nat_eq page) rows ≡ logged d.records page) → All (IsPageRow d.geometry) rows → SameBut (InHomes d.geometry.page_size rows) disk mid
    → ((page : ℕ) → page_at d.geometry mid page ≡ unwrap_or (lookup (nat_eq page) rows) (page_at d.geometry disk page)) → AtHome d disk mid
at_home d disk mid rows just all same pages = record {
  size = same.same_length;
  front = λ i lt. same.each i (λ home. absurd (omega (arith, lt, (homes_in_area d.geometry rows i all home).0)));
  pages = λ page. pages page ∙ ap (λ (o : Option (List ℕ)). unwrap_or o (page_at d.geometry disk page)) (just page);
  leaves = λ page le. leaf_stays d.geometry (InHomes d.geometry.page_size rows) disk mid page same
      (λ i inside home. omega (arith, inside.0, begins_behind d.geometry.page_size (area_end d.geometry) page le, (homes_in_area d.geometry rows i all home).1));
}

-- what is taken from the log or from home, twice
twice : (o : Option (List ℕ)) (home : List ℕ) → unwrap_or o (unwrap_or o home) ≡ unwrap_or o home
twice None home = refl
twice (Some image) home = refl

module _ (d : Decoded) (disk mid e : List ℕ) (parts : Decodes disk d) (home : AtHome d disk mid) (same : SameBut (InRange d.geometry.page_size 1) mid e) where
  not_the_gate : (i : ℕ) → 257 * d.geometry.page_size ≤ i → InRange d.geometry.page_size 1 i → ⊥
  not_the_gate i le inside = omega (arith, le, inside.1, least_page d.geometry)

  page_is : (page : ℕ) → catalog_no ≤ page → page_at d.geometry e page ≡ after_log d.geometry d.records disk page
  page_is page le = page_stays d.geometry (InRange d.geometry.page_size 1) mid e page same (λ i inside. not_the_gate i (behind_log d.geometry.page_size page i le inside.0)) ∙ home.pages page

  leaf_is : (page : ℕ) → area_end d.geometry ≤ page → leaf_at d.geometry e page ≡ leaf_at d.geometry disk page
  leaf_is page le =
      leaf_stays d.geometry (InRange d.geometry.page_size 1) mid e page same (λ i inside. not_the_gate i (behind_log d.geometry.page_size page i (omega (arith, le)) inside.0)) ∙ home.leaves page le

  -- with the log's records each page is what it was, and so it is with none
  pub units_with : (page : ℕ) → catalog_no ≤ page → units_of d e page ≡ units_of d disk page
  units_with page le =
      same_unit d.geometry (after_log d.geometry d.records disk) (after_log d.geometry d.records e) disk e page
      (λ lt. ap (λ (h : List ℕ). unwrap_or (logged d.records page) h) (page_is page le) ∙ twice (logged d.records page) (page_at d.geometry disk page)) (leaf_is page)

  pub units_without : (page : ℕ) → catalog_no ≤ page → units_of (with_records d [] d.volume) e page ≡ units_of d disk page
  units_without page le = same_unit d.geometry (after_log d.geometry d.records disk) (after_log d.geometry [] e) disk e page (λ lt. page_is page le) (leaf_is page)

  pub super_is : SuperOf e d.geometry
  super_is = record {
    spelled = subst (λ (page : List ℕ). IsSuper page d.geometry) (sym (same_part e disk 0 d.geometry.page_size (same.same_length ∙ home.size) (λ i from to. same.each i (λ inside. absurd (omega (arith, to, inside.0))) ∙ home.front i (omega (arith, to))))) parts.0.spelled;
    large = omega (arith, parts.0.large, same.same_length, home.size);
  }

  content : AllByRecursion (HoldsOf d.geometry [] (units_of d disk) d.volume) content_parts
  content = without_last d.geometry d.records (units_of d disk) d.volume parts.1.1

  reached : (page : ℕ) → Contains (reach_of (units_of d disk) d.volume) page → catalog_no ≤ page
  reached page at = reach_behind d.geometry (units_of d disk) d.volume page content at

  pub closes_stands : SaysEither d.geometry d.records [] e → StandsForVolume d disk e
  closes_stands says = ⊎_elim
      (λ with_them. stands_as d.geometry d.records (units_of d disk) d.volume e (λ page at. units_with page (reached page at)) super_is with_them parts.1.0.apply parts.1.1.0.1 content)
      (λ with_none. stands_as d.geometry [] (units_of d disk) d.volume e (λ page at. units_without page (reached page at)) super_is with_none tt tt content) says

  pub closed_decodes : SaysLog d.geometry [] e → Decodes e (with_records d [] d.volume)
  closed_decodes says = decodes_as d.geometry [] (units_of d disk) d.volume e (λ page at. units_without page (reached page at)) super_is says tt tt content

  pub closed_table : table_of (units_of (with_records d [] d.volume) e) d.volume ≡ table_of (units_of d disk) d.volume
  closed_table = table_as d.geometry [] (units_of d disk) d.volume e (λ page at. units_without page (reached page at))

-- ---- a disk on which nothing is pending agrees with itself

pub agrees_itself : (d : Decoded) (disk : List ℕ) → Agrees d disk disk
agrees_itself d disk = record { size = refl; each = λ i durable. refl }

pub settled_agrees : (d : Decoded) (disk : List ℕ) (images : List ℕ → Type 0) → Only disk images → (image : List ℕ) → images image → Agrees d disk image
settled_agrees d disk images only image here = subst (Agrees d disk) (sym (only image here)) (agrees_itself d disk)

-- where no record counts, the checkpoint is done
pub none_to_close : (d : Decoded) (disk : List ℕ) (log : LogState) (rows : List PageRow) (images : List ℕ → Type 0) → log.count ≡ 0 → Committed images d disk log rows → Checkpointed d disk images disk log rows
none_to_close d disk log rows images count committed =
    let none : d.records ≡ [] = nil_from_length d.records (sym (ap (λ (s : LogState). s.count) committed.shown.log_is) ∙ count) in
    record {
      same = record {
        pages = λ page le. subst (λ (rs : List LogRecord). units_of (with_records d rs d.volume) disk page ≡ units_of d disk page) none refl;
        table = subst (λ (rs : List LogRecord). table_of (units_of (with_records d rs d.volume) disk) d.volume ≡ table_of (units_of d disk) d.volume) none refl;
      };
      committed = subst (λ (rs : List LogRecord). Committed images (with_records d rs d.volume) disk log rows) none committed;
      homes = λ unit le no_image. refl;
    }

-- ---- over the outside

-- The images are at home and settled.
pub record WentHome (d : Decoded) (disk : List ℕ) (rows : List PageRow) (a b : Outside) : Type 0 where
  pub mid : List ℕ
  pub holds : b.disk ≡ Some mid
  pub honest : IsTrue b.honest
  pub home : AtHome d disk mid
  pub only : Only mid b.images
  pub leaves : Leaves a b (StandsForVolume d disk)

pub went_home : (g : Geometry) (d : Decoded) (disk : List ℕ) (log : LogState) (rows : List PageRow) (a b : Outside) → g ≡ d.geometry → IsWorld a → IsTrue a.honest → a.disk ≡ Some disk → Committed a.images d disk log rows
    → All (IsPageRow g) rows → ChangesWithin (InHomes g.page_size rows) a b
    → ((x e : List ℕ) → a.disk ≡ Some x → b.disk ≡ Some e → (p : ℕ) → page_of e g.page_size p ≡ unwrap_or (lookup (nat_eq p) rows) (page_of x g.page_size p))
    → (IsTrue a.honest → (x e : List ℕ) → b.disk ≡ Some x → b.images e → e ≡ x) → WentHome d disk rows a b
went_home g d disk log rows a b same world honest holds committed all changes homes settled =
    let all_here = subst (λ (h : Geometry). All (IsPageRow h) rows) same all in
    let changes_here = subst (λ (h : Geometry). ChangesWithin (InHomes h.page_size rows) a b) same changes in
    let now = changes_here.disk honest disk holds in
    let pages = subst (λ (h : Geometry). (p : ℕ) → page_at h now.0 p ≡ unwrap_or (lookup (nat_eq p) rows) (page_at h disk p)) same (homes disk now.0 holds now.1) in
    record {
      mid = now.0;
      holds = now.1;
      honest = honest_on changes_here.only.goes honest;
      home = at_home d disk now.0 rows committed.shown.just all_here now.2 pages;
      only = λ e here. settled honest now.0 e now.1 here;
      leaves = homes_leave d disk log rows a b world honest committed all_here changes_here;
    }

mid_says : (d : Decoded) (disk mid : List ℕ) → Decodes disk d → AtHome d disk mid → SaysLog d.geometry d.records mid
mid_says d disk mid parts home =
    let front = front_of d.geometry d.records disk (omega (arith, parts.0.large, least_volume d.geometry)) parts.1.0.says in
    says_of d.geometry d.records mid parts.1.0.says.each parts.1.0.says.follow (front_kept d.geometry d.records disk mid home.size (λ i from to. home.front i (omega (arith, to, front.room))) front)

pub mid_keeps : (d : Decoded) (disk : List ℕ) (rows : List PageRow) (a b : Outside) → Decodes disk d → WentHome d disk rows a b → KeepsLog d.geometry b d.records
mid_keeps d disk rows a b parts went =
    keeps_settled b went.honest (record { disk = went.mid; holds = went.holds; says = mid_says d disk went.mid parts went.home })
    (λ x is e here. went.only e here ∙ same_Some went.mid x (sym went.holds ∙ is))

-- up to the end of the closing
pub close_leaves : (d : Decoded) (disk : List ℕ) (rows : List PageRow) (a b c : Outside) → IsWorld b → Decodes disk d → WentHome d disk rows a b → ChangesWithin (InRange d.geometry.page_size 1) b c
    → Leaves b c (SaysEither d.geometry d.records []) → Leaves a c (StandsForVolume d disk)
close_leaves d disk rows a b c world parts went changes says =
    let gate = InRange d.geometry.page_size 1 in
    leaves_trans (StandsForVolume d disk) went.leaves
    (leaves_wider (λ e. SameBut gate went.mid e × SaysEither d.geometry d.records [] e) (StandsForVolume d disk)
    (leaves_both (SameBut gate went.mid) (SaysEither d.geometry d.records [])
    (leaves_changes gate (SameBut gate went.mid) world went.honest changes (λ x e here same. subst (λ (y : List ℕ). SameBut gate y e) (went.only x here) same)) says)
    (λ e both. closes_stands d disk went.mid e parts went.home both.0 both.1))

pub closed_down : (d : Decoded) (disk : List ℕ) (log log' : LogState) (rows : List PageRow) (a b c : Outside) → Committed a.images d disk log rows → WentHome d disk rows a b → ChangesWithin (InRange d.geometry.page_size 1) b c
    → DiskSays d.geometry c [] → (IsTrue b.honest → (x : List ℕ) → c.disk ≡ Some x → Only x c.images) → log' ≡ record log { end = 0; count = 0 }
    → (later : List ℕ) × (c.disk ≡ Some later) × Checkpointed d disk c.images later log' []
closed_down d disk log log' rows a b c committed went changes says settled counts =
    let gate = InRange d.geometry.page_size 1 in
    let now = changes.disk went.honest went.mid went.holds in
    let none : SaysLog d.geometry [] now.0 = subst (SaysLog d.geometry []) (same_Some says.disk now.0 (sym says.holds ∙ now.1)) says.says in
    let parts = committed.parts in (
      now.0,
      now.1,
      record {
        same = record { pages = λ page le. units_without d disk went.mid now.0 parts went.home now.2 page le; table = closed_table d disk went.mid now.0 parts went.home now.2 };
        committed = record {
          parts = closed_decodes d disk went.mid now.0 parts went.home now.2 none;
          durable = settled_agrees (with_records d [] d.volume) now.0 c.images (settled went.honest now.0 now.1);
          shown = record { just = λ page. refl; log_is = counts ∙ ap (λ (s : LogState). record { geometry = s.geometry; end = 0; count = 0 }) committed.shown.log_is };
        };
        homes = homes_stay d disk [] now.0 (inr refl) (units_without d disk went.mid now.0 parts went.home now.2);
      },
    )

-- the two writes as one: what lies behind the log changes at most at home
pub first_gate_before : {b c : Outside} (g : Geometry) → ChangesWithin (InRange g.page_size 1) b c → ChangesWithin (BeforeCatalog g.page_size) b c
first_gate_before g changes = changes_wider (InRange g.page_size 1) (BeforeCatalog g.page_size) changes (λ i inside. omega (arith, inside.1, least_page g))
