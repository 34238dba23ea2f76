use Rattle.std.proofs.Common.{◌∙◌, ◌≤◌, List, length, refl, sym, ap, subst, arith, rules}
use Rattle.std.specs.Prelude.{slice_get}
use Rattle.std.proofs.lemmas.List.{take_all}
use Rattle.object_files.specs.Catalog.{Catalog, FileEntry}
use Rattle.object_files.specs.Reads.{catalog_on, entry_of}
use Rattle.session_core.specs.Damage.{no_version}
use Rattle.session_core.specs.Finding.{IsOutside}
use Rattle.transactions.specs.Summaries.{AreTotals}
use Rattle.session_core.proofs.Damage.{later_damage}
use Rattle.session_core.proofs.Naming.{frames_twice}
use Rattle.transactions.proofs.Summing.{next_file, one_more, shows_on}
use Rattle.transactions.proofs.summary.total_in.Goals as goal

pub returns-in-Err-clause-only : goal.returns-in-Err-clause-only
returns-in-Err-clause-only g c = frames_twice c.loop-index.invariant.only c.tally_of.ensures.only

pub returns-in-Err-clause-shows : goal.returns-in-Err-clause-shows
returns-in-Err-clause-shows g c = shows_on c.args.page.now c.loop-index.index c.loop-index.totals c.loop-index.invariant c.tally_of.ensures.session c.tally_of.ensures.only

pub returns-in-Err-clause-sound : goal.returns-in-Err-clause-sound
returns-in-Err-clause-sound g c =
    next_file c.args.page.now c.loop-index.index c.loop-index.totals c.loop-index.invariant c.tally_of.ensures.session c.tally_of.ensures.only (entry_of c.entry-file_no.result) c.entry-file_no.result.file_no (λ before name. IsOutside c.in-Err.stop)
    (ap (λ (k : Catalog). slice_get k.entries c.loop-index.index) (sym c.view_of-catalog.ensures) ∙ c.entry-file_no.ensures) refl c.in-Err.ensures.sound

pub returns-in-Err-clause-damage : goal.returns-in-Err-clause-damage
returns-in-Err-clause-damage g c =
    later_damage c.args.session.now c.loop-index.session c.loop-index.invariant.only (g.H.World.outside c.tally_of.new.disk) no_version c.in-Err.stop c.in-Err.ensures.damage

pub loop-index-preserved : goal.loop-index-preserved
loop-index-preserved g c =
    one_more c.args.page.now c.loop-index.index c.loop-index.totals c.loop-index.invariant c.tally_of.ensures.session c.tally_of.ensures.only (entry_of c.entry-file_no.result) c.entry-file_no.result.file_no _ c.in-Ok.tally
    (ap (λ (k : Catalog). slice_get k.entries c.loop-index.index) (sym c.view_of-catalog.ensures) ∙ c.entry-file_no.ensures) refl (record { objects = refl; versions = refl }) (search rules) (search rules) c.in-Ok.ensures.tally

pub returns-clause-totals : goal.returns-clause-totals
returns-clause-totals g c = λ before same now on.
    let all : length (catalog_on c.args.page.now).entries ≤ c.loop-index.index = omega (arith, c.loop-index-test.false, c.len-index-end.ensures, ap (λ (k : Catalog). length k.entries) c.view_of-catalog.ensures) in
    subst (λ (es : List FileEntry). AreTotals before.machine es c.loop-index.totals) (take_all c.loop-index.index (catalog_on c.args.page.now).entries all) (c.loop-index.invariant.counts before same now on)
