use Rattle.std.proofs.Common.{◌≡◌, true, false, List, sym, subst, ◌∙◌}
use Rattle.ex_base.specs.declared.names.PageNo.{PageNo}
use Rattle.ex_base.specs.Order.{Rising}
use Rattle.page_alloc.specs.UnitSet.{used_at}
use Rattle.object_files.specs.Reads.{entry_of}
use Rattle.file_walk.specs.Walk.{page_numbers}
use Rattle.file_walk.proofs.Walking.{file_walked, file_rises, file_used, file_area, entry_free}
use Rattle.file_walk.proofs.indexes.walk_index.Goals as goal

pub returns-then-not-whole-clause-bad : goal.returns-then-not-whole-clause-bad
returns-then-not-whole-clause-bad g c = λ images told free. c.in-Ok.ensures.bad c.if-not-whole.true images told (entry_free (g.P.Ground.geometry c.args.pages.now) images (used_at c.args.units.now) (entry_of c.args.entry.now) free)

pub returns-then-not-rise-clause-bad : goal.returns-then-not-rise-clause-bad
returns-then-not-rise-clause-bad g c = λ images told free.
    let rising = file_rises (g.P.Ground.geometry c.args.pages.now) images (entry_of c.args.entry.now) (record { numbers = c.new.result; index_pages = c.new-2.result }) c.walk_root.new.walked c.new.ensures.items c.new-2.ensures.items
    (used_at c.args.units.now) (c.in-Ok.ensures.added c.if-not-whole.false images told) free in
    let is : c.rise.result ≡ true = c.rise.ensures.1 (subst (λ (t : List PageNo). Rising (page_numbers t)) (sym c.deref.ensures.value) rising) in
    absurd (let f : true ≡ false = sym is ∙ c.if-not-rise.true in cc)

pub returns-clause-walked : goal.returns-clause-walked
returns-clause-walked g c = λ images told.
    file_walked (g.P.Ground.geometry c.args.pages.now) images (entry_of c.args.entry.now) (record { numbers = c.new.result; index_pages = c.new-2.result }) c.walk_root.new.walked c.new.ensures.items c.new-2.ensures.items
    c.args.units.now c.walk_root.new.units (c.in-Ok.ensures.added c.if-not-whole.false images told) (c.in-Ok.ensures.pages c.if-not-whole.false)
    (subst (λ (t : List PageNo). Rising (page_numbers t)) c.deref.ensures.value (c.rise.ensures.0 c.if-not-rise.false))

pub returns-clause-used : goal.returns-clause-used
returns-clause-used g c = file_used (g.P.Ground.geometry c.args.pages.now) c.args.units.now c.walk_root.new.units (record { numbers = c.new.result; index_pages = c.new-2.result }) c.walk_root.new.walked c.new.ensures.items c.new-2.ensures.items (c.in-Ok.ensures.pages c.if-not-whole.false)

pub returns-clause-area : goal.returns-clause-area
returns-clause-area g c = file_area (g.P.Ground.geometry c.args.pages.now) c.args.units.now c.walk_root.new.units (record { numbers = c.new.result; index_pages = c.new-2.result }) c.walk_root.new.walked c.new.ensures.items c.new-2.ensures.items (c.in-Ok.ensures.pages c.if-not-whole.false)

pub returns-clause-rising : goal.returns-clause-rising
returns-clause-rising g c = subst (λ (t : List PageNo). Rising (page_numbers t)) c.deref.ensures.value (c.rise.ensures.0 c.if-not-rise.false)
