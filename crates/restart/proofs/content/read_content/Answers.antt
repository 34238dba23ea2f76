use Rattle.std.proofs.Common.{◌≡◌, ◌<◌, ◌≤◌, length, arith, refl, true≢false, ℕ, List, ◌∷◌, sym, ap, subst, ◌∙◌}
use Rattle.std.specs.List.{AllByRecursion}
use Rattle.ex_base.specs.declared.geometry.Geometry.{Geometry}
use Rattle.ex_base.specs.declared.names.PageNo.{PageNo}
use Rattle.ex_base.specs.Area.{area_end, catalog_no}
use Rattle.file_walk.specs.declared.Found.{Found}
use Rattle.file_walk.specs.Numbers.{AreGoodNumbers, uniques}
use Rattle.file_walk.specs.Parts.{HasWalked, IsBadFiles}
use Rattle.file_walk.specs.Walk.{page_numbers}
use Rattle.node_walk.specs.declared.ObjectRoot.{ObjectRoot}
use Rattle.node_walk.specs.TreesNamed.{AreBalanced, AreNamed, FailsFirst, ShowsPages, UsesTrees, trees_in}
use Rattle.page_alloc.specs.UnitSet.{IsFitting, refs_at, used_at}
use Rattle.session_views.specs.declared.part.Part.TheVariants.{Unique}
use Rattle.trees.specs.Owners.{IsOwned, root_pages}
use Rattle.trees.specs.Trees.{Units as Bytes}
use Rattle.volume_model.specs.OwnersMoved.{roots_most}
use Rattle.restart.specs.declared.content.Reached.{Reached}
use Rattle.restart.specs.Content.{AreHeld, IsFirstBad, roots_found}
use Rattle.restart.proofs.FilesTested.{UsedAre, few_listed, files_bad, files_reached, trees_bad, unique_bad, used_are}
use Rattle.ex_base.proofs.Counts.{used_times}
use Rattle.node_walk.proofs.Facts.{handed_err}
use Rattle.restart.proofs.UnitsNamed.{counted}
use Rattle.ex_base.proofs.Keeping.{keeps_on}
use Rattle.restart.proofs.PortKept.{inside_of, shows_on, tells_of}
use Rattle.restart.proofs.content.read_content.Given as given
use Rattle.restart.proofs.content.read_content.Goals as goal
use Rattle.restart.proofs.content.read_content.Goals.{After-walk_trees}

-- the same numbers
good_here : {next after : ℕ} {records found : List Found} → records ≡ found → next ≡ after → AreGoodNumbers after (uniques found) → AreGoodNumbers next (uniques records)
good_here {next} {after} {records} {found} same number good = subst (λ (n : ℕ). AreGoodNumbers n (uniques records)) (sym number) (subst (λ (rs : List Found). AreGoodNumbers after (uniques rs)) (sym same) good)

here_good : {next after : ℕ} {records found : List Found} → records ≡ found → next ≡ after → AreGoodNumbers next (uniques records) → AreGoodNumbers after (uniques found)
here_good same number good = good_here (sym same) (sym number) good

-- what the walk over the files says, of the geometry that was given
files_told : (g : given.Over) (c : After-walk_trees g) (bytes : Bytes) → g.P.Ground.tells c.args.pages.now → ShowsPages c.args.geometry.now (g.P.Ground.image c.args.pages.now) bytes
    → HasWalked c.args.geometry.now bytes c.args.catalog.now.entries c.in_ok-walked.walked
files_told g c bytes told shows =
    subst (λ (h : Geometry). HasWalked h bytes c.args.catalog.now.entries c.in_ok-walked.walked) (sym c.requires.geometry)
    (c.in_ok-walked.ensures.walked bytes (tells_of g.P.Ground c.args.geometry.now c.args.pages.now bytes c.requires.geometry told shows))

used_files : (g : given.Over) (c : After-walk_trees g) → UsedAre (used_at c.walk_files.new.units) (page_numbers c.in_ok-walked.walked.pages.items)
used_files g c = used_are (used_at c.in-Ok.units) (used_at c.walk_files.new.units) (page_numbers c.in_ok-walked.walked.pages.items) c.in-Ok.ensures.used c.in_ok-walked.ensures.used

pub walk_trees-requires-clause-fresh : goal.walk_trees-requires-clause-fresh
walk_trees-requires-clause-fresh g c = c.walk_files.ensures.units.refs ∙ c.in-Ok.ensures.refs

-- the roots that the trees were walked from
roots_now : (g : given.Over) (c : After-walk_trees g) → c.in-Ok-roots_of.roots.items ≡ roots_found c.in_ok-walked.walked.records.items
roots_now g c = c.in-Ok-roots_of.ensures.roots ∙ ap roots_found c.deref.ensures.value

told_later : (g : given.Over) (c : After-walk_trees g) → g.P.Ground.tells c.args.pages.now → g.P.Ground.tells c.walk_files.new.pages
told_later g c told = g.P.Ground.leads_told c.args.pages.now c.walk_files.new.pages c.walk_files.ensures.kept.leads told

shown_later : (g : given.Over) (c : After-walk_trees g) (bytes : Bytes) → ShowsPages c.args.geometry.now (g.P.Ground.image c.args.pages.now) bytes → ShowsPages c.args.geometry.now (g.P.Ground.image c.walk_files.new.pages) bytes
shown_later g c bytes shows = shows_on g.P.Ground c.args.geometry.now c.args.pages.now c.walk_files.new.pages bytes c.walk_files.ensures.kept shows

pub returns-in_err-walked-clause-bad : goal.returns-in_err-walked-clause-bad
returns-in_err-walked-clause-bad g c part is told bytes shows =
    files_bad c.args.geometry.now bytes c.args.catalog.now part
    (subst (λ (h : Geometry). IsBadFiles h bytes c.args.catalog.now.entries part) (sym c.requires.geometry)
    (c.in_err-walked.ensures.bad part (handed_err c.from_residual.result _ _ c.from_residual.ensures.1 is) bytes (tells_of g.P.Ground c.args.geometry.now c.args.pages.now bytes c.requires.geometry told shows)))

pub returns-in_err-walk_trees-clause-bad : goal.returns-in_err-walk_trees-clause-bad
returns-in_err-walk_trees-clause-bad g c part is told bytes shows =
    let after = (goal.at.returns-in_err-walk_trees-clause-bad g c).After-walk_trees in
    let h = c.args.geometry.now in
    trees_bad h bytes c.args.catalog.now c.in_ok-walked.walked (files_told g after bytes told shows) (used_at c.walk_files.new.units) (used_files g after) part
    (subst (λ (roots : List ObjectRoot). FailsFirst h bytes (used_at c.walk_files.new.units) roots part) (roots_now g after)
    (c.in_err-walk_trees.ensures.bad part (handed_err c.from_residual-in_err-walk_trees.result _ _ c.from_residual-in_err-walk_trees.ensures.1 is) (told_later g after told) bytes (shown_later g after bytes shows)))

-- once the trees passed

pub returns-in-Ok-false-clause-bad : goal.returns-in-Ok-false-clause-bad
returns-in-Ok-false-clause-bad g c part is told bytes shows =
    let after = (goal.at.returns-in-Ok-false-clause-bad g c).After-walk_trees in
    let h = c.args.geometry.now in
    let trees = c.in_ok-walk_trees.ensures in
    let later = told_later g after told in
    let shown = shown_later g after bytes shows in
    let same : part ≡ Unique = cc in
    subst (IsFirstBad h bytes c.args.catalog.now) (sym same)
    (unique_bad h bytes c.args.catalog.now c.in_ok-walked.walked (files_told g after bytes told shows) (used_at c.walk_files.new.units) (used_files g after)
    (subst (AreNamed h bytes (used_at c.walk_files.new.units)) (roots_now g after) (trees.named later bytes shown))
    (subst (λ (roots : List ObjectRoot). AreBalanced h bytes (trees_in roots)) (roots_now g after) (trees.balanced later bytes shown))
    (λ good. true≢false (sym (c.in-Ok-false.ensures.1 (good_here c.as_slice.ensures.value c.next_unique.ensures good)) ∙ c.in-Ok-false.field-0-test)))

pub returns-in_err-walk_trees-clause-kept : goal.returns-in_err-walk_trees-clause-kept
returns-in_err-walk_trees-clause-kept g c = keeps_on g.P.Ground _ _ _ c.walk_files.ensures.kept c.walk_trees.ensures.kept

pub returns-in_err-walk_trees-clause-disk : goal.returns-in_err-walk_trees-clause-disk
returns-in_err-walk_trees-clause-disk g c is =
    omega (arith, c.in_err-walk_trees.ensures.disk (handed_err c.from_residual-in_err-walk_trees.result _ _ c.from_residual-in_err-walk_trees.ensures.1 is), g.P.Ground.leads_faults c.args.pages.now c.walk_files.new.pages c.walk_files.ensures.kept.leads)

pub returns-in-Ok-false-clause-kept : goal.returns-in-Ok-false-clause-kept
returns-in-Ok-false-clause-kept g c = keeps_on g.P.Ground _ _ _ c.walk_files.ensures.kept c.walk_trees.ensures.kept

pub returns-in-Err-clause-kept : goal.returns-in-Err-clause-kept
returns-in-Err-clause-kept g c = keeps_on g.P.Ground _ _ _ c.walk_files.ensures.kept c.walk_trees.ensures.kept

pub logged_pages-requires : goal.logged_pages-requires
logged_pages-requires g c =
    subst (λ (pages : List PageNo). AllByRecursion (λ (page : PageNo). page.0 < area_end c.args.geometry.now) pages) (sym c.deref-2.ensures.value)
    (inside_of (g.P.Ground.geometry c.args.pages.now) c.args.geometry.now c.in_ok-walked.walked.pages.items c.requires.geometry c.in_ok-walked.ensures.area)

pub returns-in-Ok-logged_pages-clause-reached : goal.returns-in-Ok-logged_pages-clause-reached
returns-in-Ok-logged_pages-clause-reached g c =
    let after = (goal.at.returns-in-Ok-logged_pages-clause-reached g c).After-walk_trees in
    let held = subst (λ (pages : List PageNo). AreHeld c.in-Ok-logged_pages.pages (page_numbers pages)) c.deref-2.ensures.value c.in-Ok-logged_pages.ensures.held in
    let geometry = c.walk_trees.ensures.geometry ∙ (c.walk_files.ensures.units.geometry ∙ c.in-Ok.ensures.geometry) in
    record {
      counted = counted c.args.geometry.now c.walk_trees.new.units (subst IsFitting c.units-2.view_is c.units-2.invariant) geometry c.in_ok-walk_trees.ensures.counted;
      held_len = c.in-Ok-logged_pages.ensures.len;
      home = (c.in-Ok-logged_pages.ensures.held catalog_no).1 (0, omega arith, refl);
      in_use = λ page is. c.in_ok-walk_trees.ensures.stays page ((used_files g after page).1 ((held page).0 is));
    }

pub returns-in-Ok-logged_pages-clause-holds : goal.returns-in-Ok-logged_pages-clause-holds
returns-in-Ok-logged_pages-clause-holds g c told bytes shows =
    let after = (goal.at.returns-in-Ok-logged_pages-clause-holds g c).After-walk_trees in
    let h = c.args.geometry.now in
    let trees = c.in_ok-walk_trees.ensures in
    let later = told_later g after told in
    let shown = shown_later g after bytes shows in
    let r : Reached = record { units = c.walk_trees.new.units; pages = c.in-Ok-logged_pages.pages } in
    let logged : List ℕ = catalog_no ∷ page_numbers c.in_ok-walked.walked.pages.items in
    files_reached h bytes c.args.catalog.now c.in_ok-walked.walked (files_told g after bytes told shows) (used_at c.walk_files.new.units) (used_files g after) r
    (subst (AreNamed h bytes (used_at c.walk_files.new.units)) (roots_now g after) (trees.named later bytes shown))
    (subst (λ (roots : List ObjectRoot). AreBalanced h bytes (trees_in roots)) (roots_now g after) (trees.balanced later bytes shown))
    (here_good c.as_slice.ensures.value c.next_unique.ensures (c.in-Ok-true.ensures.0 c.in-Ok-true.field-0-test))
    (subst (λ (roots : List ObjectRoot). UsesTrees bytes (trees_in roots) (used_at c.walk_files.new.units) (used_at c.walk_trees.new.units)) (roots_now g after) (trees.used later bytes shown))
    (subst (λ (roots : List ObjectRoot). IsOwned h bytes (used_at c.walk_trees.new.units) (refs_at c.walk_trees.new.units) logged (root_pages (trees_in roots))) (roots_now g after)
    (trees.owned later bytes shown (subst (λ (roots : List ObjectRoot). length roots ≤ roots_most) (sym (roots_now g after)) (few_listed h bytes c.args.catalog.now c.in_ok-walked.walked (files_told g after bytes told shows) (used_at c.walk_files.new.units) (used_files g after))) logged (used_times (used_at c.walk_files.new.units) logged (used_files g after))))
    (subst (λ (pages : List PageNo). AreHeld c.in-Ok-logged_pages.pages (page_numbers pages)) c.deref-2.ensures.value c.in-Ok-logged_pages.ensures.held)

pub returns-in-Ok-logged_pages-clause-kept : goal.returns-in-Ok-logged_pages-clause-kept
returns-in-Ok-logged_pages-clause-kept g c = keeps_on g.P.Ground _ _ _ c.walk_files.ensures.kept c.walk_trees.ensures.kept

pub returns-in-Err-logged_pages-clause-kept : goal.returns-in-Err-logged_pages-clause-kept
returns-in-Err-logged_pages-clause-kept g c = keeps_on g.P.Ground _ _ _ c.walk_files.ensures.kept c.walk_trees.ensures.kept
