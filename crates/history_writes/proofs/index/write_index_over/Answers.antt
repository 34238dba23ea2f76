use Rattle.std.proofs.Common.{◌≡◌, ◌≤◌, ◌+◌, ℕ, List, length, refl, sym, ap, subst, ◌∙◌, arith}
use Rattle.ex_base.specs.Sizes.{geometry_is}
use Rattle.ex_base.proofs.Results.{cause_handed, if_err_handed}
use Rattle.disk_model.specs.Changes.{changes_trans, changes_wider, changes_refl}
use Rattle.file_index.specs.declared.Entry.{Entry}
use Rattle.even_indexes.specs.Levels.{pages_over}
use Rattle.history_writes.specs.Places.{InPagesFrom}
use Rattle.history_writes.specs.declared.index.Level.{Level}
use Rattle.history_writes.specs.Indexed.{LevelWritten}
use Rattle.history_writes.proofs.Levels.{HaveRoom, LevelsTo, index_end, levels_begun, levels_more, next_least, next_level, next_most}
use Rattle.ex_base.specs.declared.faults.PortFault.TheVariants.{Memory}
use Rattle.ex_base.specs.Ports.{IsDamage}
use Rattle.ex_base.proofs.Handed.{no_value, cause_here}
use Rattle.history_writes.proofs.index.write_index_over.Goals as goal

pub levels-init : goal.levels-init
levels-init g c =
    levels_begun c.args.geometry.now (g.D.World.outside c.args.disk.now) c.args.file_no c.args.first.0 c.args.pages (c.args.first.0 + c.args.pages) c.in_ok-entries.entries.items c.requires.some refl c.in_ok-entries.ensures

pub overflow_add-level : goal.overflow_add-level
overflow_add-level g c =
    let a = g.D.World.outside c.args.disk.now in
    let mid = g.D.World.outside c.levels.disk in
    let room : HaveRoom c.args.geometry.now c.args.first.0 c.args.pages = record { some = c.requires.some; behind = c.requires.behind; there = c.requires.there } in
    let two : 2 ≤ length c.levels.entries.items = omega arith in
    let low = next_level c.args.geometry.now a mid c.args.file_no c.args.first.0 c.args.pages c.levels.level c.levels.next c.levels.entries.items room c.levels.invariant two in
    omega (arith, low.low)

pub write_level-requires-clause-room : goal.write_level-requires-clause-room
write_level-requires-clause-room g c = omega (arith, c.requires.room, c.levels.invariant.changes.only.goes.size)

pub write_level-requires-clause-below : goal.write_level-requires-clause-below
write_level-requires-clause-below g c =
    let a = g.D.World.outside c.args.disk.now in
    let mid = g.D.World.outside c.levels.disk in
    let room : HaveRoom c.args.geometry.now c.args.first.0 c.args.pages = record { some = c.requires.some; behind = c.requires.behind; there = c.requires.there } in
    let two : 2 ≤ length c.levels.entries.items = omega arith in
    let low = next_level c.args.geometry.now a mid c.args.file_no c.args.first.0 c.args.pages c.levels.level c.levels.next c.levels.entries.items room c.levels.invariant two in
    (omega (arith, two, ap length c.deref.ensures.value), omega (arith, ap length c.deref.ensures.value, c.levels.invariant.bounded.few, low.low, c.requires.there, (geometry_is c.args.geometry.now).pages))

pub write_level-requires-clause-behind : goal.write_level-requires-clause-behind
write_level-requires-clause-behind g c = omega (arith, c.levels.invariant.next_is, c.requires.behind)

pub write_level-requires-clause-there : goal.write_level-requires-clause-there
write_level-requires-clause-there g c =
    let a = g.D.World.outside c.args.disk.now in
    let mid = g.D.World.outside c.levels.disk in
    let room : HaveRoom c.args.geometry.now c.args.first.0 c.args.pages = record { some = c.requires.some; behind = c.requires.behind; there = c.requires.there } in
    let two : 2 ≤ length c.levels.entries.items = omega arith in
    let low = next_level c.args.geometry.now a mid c.args.file_no c.args.first.0 c.args.pages c.levels.level c.levels.next c.levels.entries.items room c.levels.invariant two in
    omega (arith, low.there, ap (λ (es : List Entry). pages_over c.args.geometry.now.page_size (length es)) c.deref.ensures.value)

pub returns-in_err-entries-2-clause-changes : goal.returns-in_err-entries-2-clause-changes
returns-in_err-entries-2-clause-changes g c =
    changes_trans c.levels.invariant.changes
    (changes_wider (InPagesFrom c.args.geometry.now c.levels.next) (InPagesFrom c.args.geometry.now (c.args.first.0 + c.args.pages)) c.write_level.ensures.changes (λ i here. (here.0, here.1, omega (arith, here.2, c.levels.invariant.next_is), here.3)))

pub returns-in_err-entries-2-clause-cause : goal.returns-in_err-entries-2-clause-cause
returns-in_err-entries-2-clause-cause g c =
    let a = g.D.World.outside c.args.disk.now in
    let mid = g.D.World.outside c.levels.disk in
    let b = g.D.World.outside c.write_level.new.disk in
    cause_handed a.disk_faults mid.disk_faults b.disk_faults c.from_residual-in_err-entries-2.result c.in_err-entries-2.field-0.0 c.from_residual-in_err-entries-2.ensures.1 c.levels.invariant.changes.only.goes.disk_faults c.in_err-entries-2.ensures.cause

pub returns-clause-behind : goal.returns-clause-behind
returns-clause-behind g c =
    next_least c.args.geometry.now (g.D.World.outside c.args.disk.now) (g.D.World.outside c.levels.disk) c.args.file_no c.args.first.0 c.args.pages c.levels.level c.levels.next c.levels.entries.items c.levels.invariant

pub returns-clause-few : goal.returns-clause-few
returns-clause-few g c =
    next_most c.args.geometry.now (g.D.World.outside c.args.disk.now) (g.D.World.outside c.levels.disk) c.args.file_no c.args.first.0 c.args.pages c.levels.level c.levels.next c.levels.entries.items c.levels.invariant

pub returns-clause-low : goal.returns-clause-low
returns-clause-low g c = c.levels.invariant.bounded.low

pub returns-clause-changes : goal.returns-clause-changes
returns-clause-changes g c = c.levels.invariant.changes

pub overflow_cast-next : goal.overflow_cast-next
overflow_cast-next g c =
    let a = g.D.World.outside c.args.disk.now in
    let mid = g.D.World.outside c.levels.disk in
    let room : HaveRoom c.args.geometry.now c.args.first.0 c.args.pages = record { some = c.requires.some; behind = c.requires.behind; there = c.requires.there } in
    let two : 2 ≤ length c.levels.entries.items = omega arith in
    let low = next_level c.args.geometry.now a mid c.args.file_no c.args.first.0 c.args.pages c.levels.level c.levels.next c.levels.entries.items room c.levels.invariant two in
    let many : length c.in_ok-entries-2.entries.items ≡ pages_over c.args.geometry.now.page_size (length c.levels.entries.items) =
    c.in_ok-entries-2.ensures.count ∙ ap (λ (es : List Entry). pages_over c.args.geometry.now.page_size (length es)) c.deref.ensures.value in
    omega (arith, c.len-in-levels.ensures, many, low.there, (geometry_is c.args.geometry.now).pages)

pub overflow_add-next-in-levels : goal.overflow_add-next-in-levels
overflow_add-next-in-levels g c =
    let a = g.D.World.outside c.args.disk.now in
    let mid = g.D.World.outside c.levels.disk in
    let room : HaveRoom c.args.geometry.now c.args.first.0 c.args.pages = record { some = c.requires.some; behind = c.requires.behind; there = c.requires.there } in
    let two : 2 ≤ length c.levels.entries.items = omega arith in
    let low = next_level c.args.geometry.now a mid c.args.file_no c.args.first.0 c.args.pages c.levels.level c.levels.next c.levels.entries.items room c.levels.invariant two in
    let many : length c.in_ok-entries-2.entries.items ≡ pages_over c.args.geometry.now.page_size (length c.levels.entries.items) =
    c.in_ok-entries-2.ensures.count ∙ ap (λ (es : List Entry). pages_over c.args.geometry.now.page_size (length es)) c.deref.ensures.value in
    omega (arith, c.len-in-levels.ensures, many, low.there, (geometry_is c.args.geometry.now).pages)

pub levels-smaller : goal.levels-smaller
levels-smaller g c =
    let a = g.D.World.outside c.args.disk.now in
    let mid = g.D.World.outside c.levels.disk in
    let room : HaveRoom c.args.geometry.now c.args.first.0 c.args.pages = record { some = c.requires.some; behind = c.requires.behind; there = c.requires.there } in
    let two : 2 ≤ length c.levels.entries.items = omega arith in
    let low = next_level c.args.geometry.now a mid c.args.file_no c.args.first.0 c.args.pages c.levels.level c.levels.next c.levels.entries.items room c.levels.invariant two in
    let many : length c.in_ok-entries-2.entries.items ≡ pages_over c.args.geometry.now.page_size (length c.levels.entries.items) =
    c.in_ok-entries-2.ensures.count ∙ ap (λ (es : List Entry). pages_over c.args.geometry.now.page_size (length es)) c.deref.ensures.value in
    omega (arith, many, low.smaller)

pub levels-preserved : goal.levels-preserved
levels-preserved g c =
    let a = g.D.World.outside c.args.disk.now in
    let mid = g.D.World.outside c.levels.disk in
    let b = g.D.World.outside c.write_level.new.disk in
    let above : List Entry = c.in_ok-entries-2.entries.items in
    let level : Level = record { file_no = c.args.file_no; number = c.levels.level + 1; first = c.levels.next } in
    let room : HaveRoom c.args.geometry.now c.args.first.0 c.args.pages = record { some = c.requires.some; behind = c.requires.behind; there = c.requires.there } in
    let two : 2 ≤ length c.levels.entries.items = omega arith in
    let many : length c.in_ok-entries-2.entries.items ≡ pages_over c.args.geometry.now.page_size (length c.levels.entries.items) =
    c.in_ok-entries-2.ensures.count ∙ ap (λ (es : List Entry). pages_over c.args.geometry.now.page_size (length es)) c.deref.ensures.value in
    let next : c.len-in-levels.result ≡ length c.in_ok-entries-2.entries.items = omega (arith, c.len-in-levels.ensures) in
    subst (λ (n : ℕ). LevelsTo c.args.geometry.now a b c.args.file_no c.args.first.0 c.args.pages (c.levels.level + 1) (c.levels.next + n) above) (sym next)
    (levels_more c.args.geometry.now a mid b c.args.file_no c.args.first.0 c.args.pages c.levels.level c.levels.next level c.levels.entries.items above room c.levels.invariant two refl refl refl many c.in_ok-entries-2.ensures.heads
    (subst (λ (es : List Entry). LevelWritten c.args.geometry.now mid b level es above) c.deref.ensures.value c.in_ok-entries-2.ensures.level) c.write_level.ensures.changes)

pub returns-clause-indexes : goal.returns-clause-indexes
returns-clause-indexes g c =
    let a = g.D.World.outside c.args.disk.now in
    let mid = g.D.World.outside c.levels.disk in
    let room : HaveRoom c.args.geometry.now c.args.first.0 c.args.pages = record { some = c.requires.some; behind = c.requires.behind; there = c.requires.there } in
    let one : length c.levels.entries.items ≤ 1 = omega arith in
    index_end c.args.geometry.now a mid c.args.file_no c.args.first.0 c.args.pages c.levels.level c.levels.next c.levels.entries.items c.index.result.now _ room c.levels.invariant c.ranges.file_no.fits one (ap (λ (e : Entry). e.page) c.index.ensures) refl refl

-- ---- what else is promised

pub returns-in_err-entries-clause-indexes : goal.returns-in_err-entries-clause-indexes
returns-in_err-entries-clause-indexes g c = no_value c.from_residual.result _ Memory c.from_residual.ensures.1

pub returns-in_err-entries-clause-behind : goal.returns-in_err-entries-clause-behind
returns-in_err-entries-clause-behind g c = no_value c.from_residual.result _ Memory c.from_residual.ensures.1

pub returns-in_err-entries-clause-few : goal.returns-in_err-entries-clause-few
returns-in_err-entries-clause-few g c = no_value c.from_residual.result _ Memory c.from_residual.ensures.1

pub returns-in_err-entries-clause-root : goal.returns-in_err-entries-clause-root
returns-in_err-entries-clause-root g c = no_value c.from_residual.result _ Memory c.from_residual.ensures.1

pub returns-in_err-entries-clause-low : goal.returns-in_err-entries-clause-low
returns-in_err-entries-clause-low g c = no_value c.from_residual.result _ Memory c.from_residual.ensures.1

pub returns-in_err-entries-clause-page : goal.returns-in_err-entries-clause-page
returns-in_err-entries-clause-page g c = c.requires.page

pub returns-in_err-entries-clause-changes : goal.returns-in_err-entries-clause-changes
returns-in_err-entries-clause-changes g c = changes_refl (InPagesFrom c.args.geometry.now (c.args.first.0 + c.args.pages)) (g.D.World.outside c.args.disk.now)

pub returns-in_err-entries-clause-no_damage : goal.returns-in_err-entries-clause-no_damage
returns-in_err-entries-clause-no_damage g c = if_err_handed c.from_residual.result (λ fault. IsDamage fault → ⊥) Memory c.from_residual.ensures.1 (λ is. is)

pub returns-in_err-entries-clause-cause : goal.returns-in_err-entries-clause-cause
returns-in_err-entries-clause-cause g c = cause_here (g.D.World.outside c.args.disk.now).disk_faults (g.D.World.outside c.args.disk.now).disk_faults c.from_residual.result Memory c.from_residual.ensures.1 tt

pub returns-in_err-entries-2-clause-indexes : goal.returns-in_err-entries-2-clause-indexes
returns-in_err-entries-2-clause-indexes g c = no_value c.from_residual-in_err-entries-2.result _ c.in_err-entries-2.field-0.0 c.from_residual-in_err-entries-2.ensures.1

pub returns-in_err-entries-2-clause-behind : goal.returns-in_err-entries-2-clause-behind
returns-in_err-entries-2-clause-behind g c = no_value c.from_residual-in_err-entries-2.result _ c.in_err-entries-2.field-0.0 c.from_residual-in_err-entries-2.ensures.1

pub returns-in_err-entries-2-clause-few : goal.returns-in_err-entries-2-clause-few
returns-in_err-entries-2-clause-few g c = no_value c.from_residual-in_err-entries-2.result _ c.in_err-entries-2.field-0.0 c.from_residual-in_err-entries-2.ensures.1

pub returns-in_err-entries-2-clause-root : goal.returns-in_err-entries-2-clause-root
returns-in_err-entries-2-clause-root g c = no_value c.from_residual-in_err-entries-2.result _ c.in_err-entries-2.field-0.0 c.from_residual-in_err-entries-2.ensures.1

pub returns-in_err-entries-2-clause-low : goal.returns-in_err-entries-2-clause-low
returns-in_err-entries-2-clause-low g c = no_value c.from_residual-in_err-entries-2.result _ c.in_err-entries-2.field-0.0 c.from_residual-in_err-entries-2.ensures.1

pub returns-in_err-entries-2-clause-no_damage : goal.returns-in_err-entries-2-clause-no_damage
returns-in_err-entries-2-clause-no_damage g c = if_err_handed c.from_residual-in_err-entries-2.result (λ fault. IsDamage fault → ⊥) c.in_err-entries-2.field-0.0 c.from_residual-in_err-entries-2.ensures.1 c.in_err-entries-2.ensures.no_damage

pub returns-clause-no_damage : goal.returns-clause-no_damage
returns-clause-no_damage g c = tt

pub returns-clause-cause : goal.returns-clause-cause
returns-clause-cause g c = tt
