use Rattle.std.proofs.Common.{◌≡◌, ℕ, List, ◌++◌, drop, length, take, Result, Ok, Err, refl, sym, ap, subst, ◌∙◌, arith}
use Rattle.std.specs.Result.{IsErrAnd}
use Rattle.disk_model.specs.Runs.{reads_refl}
use Rattle.object_files.specs.Catalog.{CatalogOf}
use Rattle.object_files.specs.Reads.{catalog_on, with_numbers}
use Rattle.object_files.proofs.CatalogLaws.{catalog_read}
use Rattle.history_load.specs.Loads.{LoadsAs}
use Rattle.history_fronts.specs.Fronts.{history_of}
use Rattle.history_items.specs.Heads.{stream_head}
use Rattle.history_writes.specs.Files.{IsWritten}
use Rattle.volume_model.specs.Homes.{home}
use Rattle.history_load.specs.declared.ending.FinishFault.TheVariants.{Bad}
use Rattle.history_load.proofs.DumpsWalked.{dump_walked}
use Rattle.history_load.proofs.Finishing.{loaded}
use Rattle.history_load.proofs.WrittenBack.{all_written}
use Rattle.history_load.proofs.ending.finish.Given as given
use Rattle.history_load.proofs.ending.finish.Goals as goal
use Rattle.history_load.proofs.ending.finish.Goals.{After-set_numbers}

-- the page with the numbers of the stream
page_is : (g : given.Over) (c : After-set_numbers g) → take c.args.catalog.len (c.set_numbers.new.image ++ drop (length c.set_numbers.new.image) c.args.catalog.items) ≡ c.set_numbers.new.image
page_is g c = all_written c.args.catalog.items c.set_numbers.new.image c.args.catalog.len (omega (arith, c.set_numbers.auto.image, c.deref_mut.ensures.len))

-- the fault that is handed on
handed : {X E : Type 0} (r : Result X E) (fault told : E) → IsErrAnd r (λ f. f ≡ fault) → r ≡ Err told → fault ≡ told
handed (Ok x) fault told is e = absurd is
handed (Err f) fault told is e = sym is ∙ (let same : f ≡ told = cc in same)

pub walk_written-requires-clause-catalog : goal.walk_written-requires-clause-catalog
walk_written-requires-clause-catalog g c =
    let spelled = subst (λ (bytes : List ℕ). CatalogOf bytes (with_numbers (catalog_on c.deref_mut.result.now) c.args.progress.now.head.next_unique c.args.progress.now.head.last))
    (sym (c.deref.ensures.value ∙ page_is g (goal.at.walk_written-requires-clause-catalog g c).After-set_numbers)) c.set_numbers.ensures in
    subst (CatalogOf c.deref.result.now) (sym (catalog_read c.deref.result.now (with_numbers (catalog_on c.deref_mut.result.now) c.args.progress.now.head.next_unique c.args.progress.now.head.last) spelled)) spelled

pub returns-then-not-is_all_read-clause-bad : goal.returns-then-not-is_all_read-clause-bad
returns-then-not-is_all_read-clause-bad g c e joined image holds is written t dump = c.is_all_read.ensures.none c.if-not-is_all_read.true c.args.progress.now.geometry joined is t dump

pub returns-in_err-walk_written-clause-bad : goal.returns-in_err-walk_written-clause-bad
returns-in_err-walk_written-clause-bad g c e joined image holds is written t dump =
    let p = c.args.progress.now in
    let at = (goal.at.returns-in_err-walk_written-clause-bad g c).After-set_numbers in
    let c' = with_numbers (catalog_on c.deref_mut.result.now) p.head.next_unique p.head.last in
    let read = c.is_all_read.ensures.all c.if-not-is_all_read.false p.geometry joined is in
    let spelled : CatalogOf c.deref.result.now c' = subst (λ (bytes : List ℕ). CatalogOf bytes c') (sym (c.deref.ensures.value ∙ page_is g at)) c.set_numbers.ensures in
    let there = subst (IsWritten p.geometry (home p.geometry image) (history_of is.front)) (sym (ap (λ (bytes : List ℕ). (catalog_on bytes).entries) c.deref_mut.ensures.value)) written in
    c.in_err-walk_written.ensures.bad (ap Err (handed c.from_residual.result c.in_err-walk_written.field-0.0 Bad c.from_residual.ensures.1 e)) c' image spelled holds (dump_walked p.geometry image joined (stream_head p.head) (history_of is.front) c' read there t refl dump)

pub returns-clause-loaded : goal.returns-clause-loaded
returns-clause-loaded g c joined image holds is written =
    let p = c.args.progress.now in
    let at = (goal.at.returns-clause-loaded g c).After-set_numbers in
    let world = g.D.World.is_world c.args.disk.now in
    let long : length image ≡ (g.D.World.outside c.args.disk.now).size = world.whole image (world.held_may_stay image holds) in
    let c' = with_numbers (catalog_on c.deref_mut.result.now) p.head.next_unique p.head.last in
    let read = c.is_all_read.ensures.all c.if-not-is_all_read.false p.geometry joined is in
    let spelled : CatalogOf c.deref.result.now c' = subst (λ (bytes : List ℕ). CatalogOf bytes c') (sym (c.deref.ensures.value ∙ page_is g at)) c.set_numbers.ensures in
    let size : length c.set_numbers.new.image ≡ p.geometry.page_size = c.set_numbers.auto.image ∙ ap length c.deref_mut.ensures.value ∙ c.requires.whole in
    subst (λ (bytes : List ℕ). LoadsAs p.geometry image joined bytes p.head.last p.head.leaves) (sym (page_is g at))
    (loaded p.geometry image joined c.set_numbers.new.image (stream_head p.head) (history_of is.front) (catalog_on c.args.catalog.items).entries c' read written
    (c.in_ok-walk_written.ensures.walked c' image spelled holds) (omega (arith, long, c.requires.room)) c.set_numbers.ensures size
    (ap (λ (bytes : List ℕ). (catalog_on bytes).entries) c.deref_mut.ensures.value) refl refl)

pub returns-then-not-is_all_read-clause-only : goal.returns-then-not-is_all_read-clause-only
returns-then-not-is_all_read-clause-only g c = reads_refl (g.D.World.outside c.args.disk.now)
