use Rattle.std.proofs.Common.{◌≡◌, ◌<◌, ◌+◌, ◌++◌, ◌∷◌, [], ℕ, List, length, refl, sym, ap, subst, ◌∙◌, add-one, arith}
use Rattle.std.specs.Prelude.{IsTrue}
use Rattle.std.proofs.lemmas.List.{length_push}
use Rattle.ex_base.specs.Area.{InPageArea, area_end}
use Rattle.disk_model.specs.Calls.{Tears, Wrote}
use Rattle.disk_model.specs.Changes.{changes_trans}
use Rattle.file_index.specs.declared.Entry.{Entry}
use Rattle.file_index.specs.IndexPage.{index_page}
use Rattle.file_index.specs.Nodes.{first_key, heads}
use Rattle.even_indexes.specs.Levels.{pages_over, share_at}
use Rattle.history_writes.specs.Indexed.{from_on}
use Rattle.history_writes.proofs.Levels.{LevelTo, all_level, from_more, heads_more, more_level}
use Rattle.history_writes.proofs.RowLinks.{in_pages, page_changes}
use Rattle.ex_base.specs.declared.faults.PortFault.TheVariants.{Disk, Memory}
use Rattle.ex_base.specs.Ports.{IsDamage}
use Rattle.ex_base.proofs.Handed.{no_value, cause_here}
use Rattle.ex_base.proofs.Results.{if_err_handed, cause_handed}
use Rattle.history_writes.proofs.index.write_level.Goals as goal

pub returns-in_err-write-clause-changes : goal.returns-in_err-write-clause-changes
returns-in_err-write-clause-changes g c =
    let mid = g.D.World.outside c.shares.disk in
    let b = g.D.World.outside c.write.new.self in
    let page : length c.shares.page ≡ c.args.geometry.now.page_size = omega (arith, c.shares.auto.page, c.requires.page) in
    let within : c.shares.index < pages_over c.args.geometry.now.page_size (length c.args.below.now) =
    omega (arith, c.shares-test.true, c.pages_over-index-end.ensures.count, ap (λ (s : ℕ). pages_over s (length c.args.below.now)) c.requires.page) in
    let area : InPageArea c.args.geometry.now (c.args.level.first + c.shares.index) = (omega (arith, c.requires.behind), omega (arith, within, c.requires.there)) in
    changes_trans c.shares.invariant.changes (in_pages c.args.geometry.now mid b c.args.level.first (c.args.level.first + c.shares.index) area (omega arith)
    (page_changes c.args.geometry.now mid b (c.args.level.first + c.shares.index) (length c.write_share-key.new.out) c.write.ensures.only
    (subst (λ (k : ℕ). IsTrue mid.honest → Tears k (length c.write_share-key.new.out) mid b) c.home.ensures c.write.ensures.tears) area (omega (arith, c.write_share-key.auto.out, page))))

pub returns-in_err-put_entry-clause-changes : goal.returns-in_err-put_entry-clause-changes
returns-in_err-put_entry-clause-changes g c =
    let mid = g.D.World.outside c.shares.disk in
    let b = g.D.World.outside c.write.new.self in
    let page : length c.shares.page ≡ c.args.geometry.now.page_size = omega (arith, c.shares.auto.page, c.requires.page) in
    let within : c.shares.index < pages_over c.args.geometry.now.page_size (length c.args.below.now) =
    omega (arith, c.shares-test.true, c.pages_over-index-end.ensures.count, ap (λ (s : ℕ). pages_over s (length c.args.below.now)) c.requires.page) in
    let area : InPageArea c.args.geometry.now (c.args.level.first + c.shares.index) = (omega (arith, c.requires.behind), omega (arith, within, c.requires.there)) in
    changes_trans c.shares.invariant.changes (in_pages c.args.geometry.now mid b c.args.level.first (c.args.level.first + c.shares.index) area (omega arith)
    (page_changes c.args.geometry.now mid b (c.args.level.first + c.shares.index) (length c.write_share-key.new.out) c.write.ensures.only
    (subst (λ (k : ℕ). IsTrue mid.honest → Tears k (length c.write_share-key.new.out) mid b) c.home.ensures c.write.ensures.tears) area (omega (arith, c.write_share-key.auto.out, page))))

pub shares-preserved : goal.shares-preserved
shares-preserved g c =
    let a = g.D.World.outside c.args.disk.now in
    let mid = g.D.World.outside c.shares.disk in
    let b = g.D.World.outside c.write.new.self in
    let e : Entry = record { key = c.write_share-key.result; page = record { 0 = c.args.level.first + c.shares.index } } in
    let page : length c.shares.page ≡ c.args.geometry.now.page_size = omega (arith, c.shares.auto.page, c.requires.page) in
    let long : length c.write_share-key.new.out ≡ c.args.geometry.now.page_size = omega (arith, c.write_share-key.auto.out, page) in
    let within : c.shares.index < pages_over c.args.geometry.now.page_size (length c.args.below.now) =
    omega (arith, c.shares-test.true, c.pages_over-index-end.ensures.count, ap (λ (s : ℕ). pages_over s (length c.args.below.now)) c.requires.page) in
    let there : c.args.level.first + c.shares.index < area_end c.args.geometry.now = omega (arith, within, c.requires.there) in
    let area : InPageArea c.args.geometry.now (c.args.level.first + c.shares.index) = (omega (arith, c.requires.behind), there) in
    record {
      count = ap length c.in_ok-put_entry.ensures ∙ length_push c.shares.above.items e ∙ ap (λ (n : ℕ). n + 1) c.shares.invariant.count;
      heads = ap heads c.in_ok-put_entry.ensures ∙ heads_more c.shares.above.items e ∙ ap (λ (ps : List ℕ). ps ++ (c.args.level.first + c.shares.index) ∷ []) c.shares.invariant.heads
          ∙ sym (ap (from_on c.args.level.first) (add-one c.shares.index) ∙ from_more c.args.level.first c.shares.index);
      so_far = subst (λ (es : List Entry). LevelTo c.args.geometry.now a b c.args.level c.args.below.now es (c.shares.index + 1)) (sym c.in_ok-put_entry.ensures)
          (more_level c.args.geometry.now a mid b c.args.level c.args.below.now c.shares.above.items c.shares.index e c.write_share-key.new.out (g.D.World.is_world c.shares.disk) (omega (arith, c.requires.room, c.shares.invariant.changes.only.goes.size))
          (record {
            some = c.requires.below.0;
            within = within;
            behind = c.requires.behind;
            there = there;
            long = long;
            wrote = subst (λ (k : ℕ). Wrote k c.write_share-key.new.out mid b) c.home.ensures c.in_ok-write.ensures.written;
            at = refl;
            key = c.write_share-key.ensures.key ∙ ap (λ (s : ℕ). first_key (share_at s c.args.below.now c.shares.index)) page;
            is = c.write_share-key.ensures.page ∙ ap (λ (s : ℕ). index_page s c.args.level.number c.args.level.file_no (share_at s c.args.below.now c.shares.index)) page;
          }) c.shares.invariant.so_far);
      changes = changes_trans c.shares.invariant.changes (in_pages c.args.geometry.now mid b c.args.level.first (c.args.level.first + c.shares.index) area (omega arith)
          (page_changes c.args.geometry.now mid b (c.args.level.first + c.shares.index) (length c.write_share-key.new.out) c.write.ensures.only
          (subst (λ (k : ℕ). IsTrue mid.honest → Tears k (length c.write_share-key.new.out) mid b) c.home.ensures c.write.ensures.tears) area long));
    }

pub returns-clause-level : goal.returns-clause-level
returns-clause-level g c =
    let a = g.D.World.outside c.args.disk.now in
    let b = g.D.World.outside c.shares.disk in
    all_level c.args.geometry.now a b c.args.level c.args.below.now c.shares.above.items c.shares.index c.requires.below.0
    (omega (arith, c.shares-test.false, c.pages_over-index-end.ensures.count, ap (λ (s : ℕ). pages_over s (length c.args.below.now)) c.requires.page)) c.shares.invariant.count c.shares.invariant.so_far

pub returns-clause-heads : goal.returns-clause-heads
returns-clause-heads g c = c.shares.invariant.heads ∙ ap (from_on c.args.level.first) (sym c.shares.invariant.count)

-- ---- what else is promised

pub returns-in_err-write-clause-level : goal.returns-in_err-write-clause-level
returns-in_err-write-clause-level g c = no_value c.from_residual.result _ Disk c.from_residual.ensures.1

pub returns-in_err-write-clause-count : goal.returns-in_err-write-clause-count
returns-in_err-write-clause-count g c = no_value c.from_residual.result _ Disk c.from_residual.ensures.1

pub returns-in_err-write-clause-heads : goal.returns-in_err-write-clause-heads
returns-in_err-write-clause-heads g c = no_value c.from_residual.result _ Disk c.from_residual.ensures.1

pub returns-in_err-write-clause-page : goal.returns-in_err-write-clause-page
returns-in_err-write-clause-page g c = omega (arith, c.write_share-key.auto.out, c.shares.auto.page, c.requires.page)

pub returns-in_err-write-clause-no_damage : goal.returns-in_err-write-clause-no_damage
returns-in_err-write-clause-no_damage g c = if_err_handed c.from_residual.result (λ fault. IsDamage fault → ⊥) Disk c.from_residual.ensures.1 (λ is. is)

pub returns-in_err-write-clause-cause : goal.returns-in_err-write-clause-cause
returns-in_err-write-clause-cause g c = cause_handed (g.D.World.outside c.args.disk.now).disk_faults (g.D.World.outside c.shares.disk).disk_faults (g.D.World.outside c.write.new.self).disk_faults c.from_residual.result Disk c.from_residual.ensures.1 c.shares.invariant.changes.only.goes.disk_faults c.in_err-write.ensures.cause

pub returns-in_err-put_entry-clause-level : goal.returns-in_err-put_entry-clause-level
returns-in_err-put_entry-clause-level g c = no_value c.from_residual-in_err-put_entry.result _ Memory c.from_residual-in_err-put_entry.ensures.1

pub returns-in_err-put_entry-clause-count : goal.returns-in_err-put_entry-clause-count
returns-in_err-put_entry-clause-count g c = no_value c.from_residual-in_err-put_entry.result _ Memory c.from_residual-in_err-put_entry.ensures.1

pub returns-in_err-put_entry-clause-heads : goal.returns-in_err-put_entry-clause-heads
returns-in_err-put_entry-clause-heads g c = no_value c.from_residual-in_err-put_entry.result _ Memory c.from_residual-in_err-put_entry.ensures.1

pub returns-in_err-put_entry-clause-page : goal.returns-in_err-put_entry-clause-page
returns-in_err-put_entry-clause-page g c = omega (arith, c.write_share-key.auto.out, c.shares.auto.page, c.requires.page)

pub returns-in_err-put_entry-clause-no_damage : goal.returns-in_err-put_entry-clause-no_damage
returns-in_err-put_entry-clause-no_damage g c = if_err_handed c.from_residual-in_err-put_entry.result (λ fault. IsDamage fault → ⊥) Memory c.from_residual-in_err-put_entry.ensures.1 (λ is. is)

pub returns-in_err-put_entry-clause-cause : goal.returns-in_err-put_entry-clause-cause
returns-in_err-put_entry-clause-cause g c = cause_here (g.D.World.outside c.args.disk.now).disk_faults (g.D.World.outside c.write.new.self).disk_faults c.from_residual-in_err-put_entry.result Memory c.from_residual-in_err-put_entry.ensures.1 tt

pub returns-clause-no_damage : goal.returns-clause-no_damage
returns-clause-no_damage g c = tt

pub returns-clause-cause : goal.returns-clause-cause
returns-clause-cause g c = tt
