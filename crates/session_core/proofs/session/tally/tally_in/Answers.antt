use Rattle.std.proofs.Common.{◌∙◌, ℕ, Err, ap, arith}
use Rattle.std.specs.List.{count_by}
use Rattle.volume_edits.specs.Damage.{as_it_is, of_walk}
use Rattle.session_core.specs.Tallies.{is_first}
use Rattle.session_core.proofs.Listing.{lists_sound}
use Rattle.session_core.proofs.Tallies.{tallies}
use Rattle.session_core.proofs.session.tally.tally_in.Goals as goal

pub returns-in-Ok-clause-tally : goal.returns-in-Ok-clause-tally
returns-in-Ok-clause-tally g c =
    tallies g.V.Ground c.args.volume.now c.args.file_no c.in-Ok.members.items (record { objects = c.count_firsts.result; versions = c.len.result }) c.in-Ok.ensures.members
    (c.count_firsts.ensures ∙ ap (count_by is_first) c.deref.ensures.value) (omega (arith, c.len.ensures, c.in-Ok.members.ok.0))

pub returns-in-Err-clause-sound : goal.returns-in-Err-clause-sound
returns-in-Err-clause-sound g c = lists_sound g.V.Ground c.args.volume.now {T = ℕ} c.args.file_no (Err c.in-Err.fault) c.in-Err.ensures.sound

pub returns-in-Err-clause-fault : goal.returns-in-Err-clause-fault
returns-in-Err-clause-fault g c = λ told. as_it_is (of_walk c.args.file_no (c.in-Err.ensures.fault told))
