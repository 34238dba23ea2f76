use Rattle.std.proofs.lemmas.Result.{IfOk-weaker, IfErr-weaker}
use Rattle.history_dump.proofs.Listing.{file_listed, listing_sound}
use Rattle.ex_base.proofs.Handed.{cause_of}
use Rattle.ex_base.proofs.Keeping.{keeps_on}
use Rattle.history_dump.proofs.file.list_file.Goals as goal

pub returns-in-Ok-clause-listed : goal.returns-in-Ok-clause-listed
returns-in-Ok-clause-listed g c = IfOk-weaker c.records_in_order.result _ _ (λ records h told plan f is.
    file_listed g.V.Ground c.args.volume.now c.number_at.new.volume plan c.args.at f is c.in-Ok.ensures.kept c.in-Ok.number (c.in-Ok.ensures.number told is.catalog is.entry is.spelled is.entry_is) records.items
    (h (g.V.Ground.leads_told c.args.volume.now c.number_at.new.volume c.in-Ok.ensures.kept.leads told))) c.records_in_order.ensures.in_order

pub returns-in-Ok-clause-sound : goal.returns-in-Ok-clause-sound
returns-in-Ok-clause-sound g c = IfErr-weaker c.records_in_order.result _ _ (λ fault h damage told plan f is.
    listing_sound g.V.Ground c.args.volume.now c.number_at.new.volume plan c.args.at f is c.in-Ok.ensures.kept c.in-Ok.number (c.in-Ok.ensures.number told is.catalog is.entry is.spelled is.entry_is)
    (h damage (g.V.Ground.leads_told c.args.volume.now c.number_at.new.volume c.in-Ok.ensures.kept.leads told))) c.records_in_order.ensures.sound

pub number_at-requires : goal.number_at-requires
number_at-requires g c = c.requires

pub records_in_order-requires : goal.records_in_order-requires
records_in_order-requires g c = g.V.Ground.leads_ready c.args.volume.now c.number_at.new.volume c.in-Ok.ensures.kept.leads c.requires

pub returns-in-Ok-clause-kept : goal.returns-in-Ok-clause-kept
returns-in-Ok-clause-kept g c = keeps_on g.V.Ground c.args.volume.now c.number_at.new.volume c.records_in_order.new.volume c.in-Ok.ensures.kept c.records_in_order.ensures.kept

pub returns-in-Ok-clause-cause : goal.returns-in-Ok-clause-cause
returns-in-Ok-clause-cause g c = cause_of g.V.Ground c.args.volume.now c.number_at.new.volume c.in-Ok.ensures.kept.leads c.records_in_order.new.volume c.records_in_order.result c.records_in_order.ensures.cause

pub returns-in-Err-clause-listed : goal.returns-in-Err-clause-listed
returns-in-Err-clause-listed g c = tt

pub returns-in-Err-clause-sound : goal.returns-in-Err-clause-sound
returns-in-Err-clause-sound g c = λ damage told plan f is. c.in-Err.ensures.sound damage told is.catalog is.entry is.spelled is.entry_is

pub returns-in-Err-clause-kept : goal.returns-in-Err-clause-kept
returns-in-Err-clause-kept g c = c.in-Err.ensures.kept

pub returns-in-Err-clause-cause : goal.returns-in-Err-clause-cause
returns-in-Err-clause-cause g c = c.in-Err.ensures.cause
