use Rattle.std.proofs.Common.{◌≡◌, ◌⊎◌, ◌∙◌, Err, inl, sym, ap, subst, arith}
use Rattle.disk_model.specs.Runs.{leaves_trans, leaves_wider}
use Rattle.history_load.specs.Loads.{IsDumpImage}
use Rattle.history_load.proofs.EndFaults.{commit_kept, commit_no_stream}
use Rattle.history_load.specs.declared.faults.LoadFault.TheVariants.{Stream, Disk}
use Rattle.history_load.proofs.Feeding.{same_handed, takes_disk, takes_joined}
use Rattle.history_load.specs.Staying.{StaysEmpty}
use Rattle.table_model.specs.Tables.{empty_table}
use Rattle.volume_model.specs.Parts.{StandsFor}
use Rattle.ex_base.proofs.Results.{if_err_handed}
use Rattle.history_load.specs.Faults.{LoadCause, fault_of_commit}
use Rattle.ex_base.proofs.Handed.{no_value, not_given}
use Rattle.history_load.proofs.Causes.{cause_since, commit_cause}
use Rattle.history_load.proofs.stream.load_stream.Goals as goal

pub commit_loaded-requires-clause-room : goal.commit_loaded-requires-clause-room
commit_loaded-requires-clause-room g c = omega (arith, c.write_stream.ensures.only.goes.size, c.requires.room)

pub returns-in_err-loaded-clause-any_moment : goal.returns-in_err-loaded-clause-any_moment
returns-in_err-loaded-clause-any_moment g c d image stream rests empty has =
    leaves_wider (λ e. StandsFor e empty_table) (λ e. StandsFor e empty_table ⊎ IsDumpImage c.args.volume.geometry stream e) (c.write_stream.ensures.stays d image rests empty).4 (λ e stands. inl stands)

pub returns-in_err-commit_loaded-clause-any_moment : goal.returns-in_err-commit_loaded-clause-any_moment
returns-in_err-commit_loaded-clause-any_moment g c d image stream rests empty has =
    let now = c.write_stream.ensures.stays d image rests empty in
    let loads = c.in_ok-loaded.ensures.written stream image rests.told.0 has rests.holds now.0 now.1 in
    leaves_trans (λ e. StandsFor e empty_table ⊎ IsDumpImage c.args.volume.geometry stream e)
    (leaves_wider (λ e. StandsFor e empty_table) (λ e. StandsFor e empty_table ⊎ IsDumpImage c.args.volume.geometry stream e) now.4 (λ e stands. inl stands))
    (c.commit_loaded.ensures.any_moment d now.0 stream now.2 now.3 loads)

pub returns-clause-any_moment : goal.returns-clause-any_moment
returns-clause-any_moment g c d image stream rests empty has =
    let now = c.write_stream.ensures.stays d image rests empty in
    let loads = c.in_ok-loaded.ensures.written stream image rests.told.0 has rests.holds now.0 now.1 in
    leaves_trans (λ e. StandsFor e empty_table ⊎ IsDumpImage c.args.volume.geometry stream e)
    (leaves_wider (λ e. StandsFor e empty_table) (λ e. StandsFor e empty_table ⊎ IsDumpImage c.args.volume.geometry stream e) now.4 (λ e stands. inl stands))
    (c.commit_loaded.ensures.any_moment d now.0 stream now.2 now.3 loads)

pub returns-clause-done : goal.returns-clause-done
returns-clause-done g c d image stream rests empty has =
    let now = c.write_stream.ensures.stays d image rests empty in
    let loads = c.in_ok-loaded.ensures.written stream image rests.told.0 has rests.holds now.0 now.1 in
    let holds = c.in_ok-commit_loaded.ensures.done d now.0 stream now.2 now.3 loads in
    (holds, c.in_ok-loaded.ensures.versions stream image rests.told.0 has rests.holds holds.table holds.dump)

pub returns-in_err-commit_loaded-clause-kept : goal.returns-in_err-commit_loaded-clause-kept
returns-in_err-commit_loaded-clause-kept g c =
    commit_kept c.from_residual-in_err-commit_loaded.result c.in_err-commit_loaded.field-0.0 (StaysEmpty (g.H.World.outside c.args.host.now) (g.H.World.outside c.commit_loaded.new.disk) c.args.volume) c.from_residual-in_err-commit_loaded.ensures.1
    (λ none. subst (λ (h : g.row.H.Denot). StaysEmpty (g.H.World.outside c.args.host.now) (g.H.World.outside h) c.args.volume) (sym (c.in_err-commit_loaded.ensures.memory (ap Err none))) c.write_stream.ensures.stays)

pub returns-in_err-commit_loaded-clause-refused : goal.returns-in_err-commit_loaded-clause-refused
returns-in_err-commit_loaded-clause-refused g c fault stream image e honest has holds = absurd (commit_no_stream c.from_residual-in_err-commit_loaded.result c.in_err-commit_loaded.field-0.0 fault c.from_residual-in_err-commit_loaded.ensures.1 e)

pub returns-in_err-commit_loaded-clause-draws : goal.returns-in_err-commit_loaded-clause-draws
returns-in_err-commit_loaded-clause-draws g c stream has =
    let drawn = c.write_stream.ensures.draws stream has in
    (drawn.0, drawn.1, c.commit_loaded.ensures.only.left ∙ drawn.2)

pub returns-clause-draws : goal.returns-clause-draws
returns-clause-draws g c stream has =
    let drawn = c.write_stream.ensures.draws stream has in
    (drawn.0, drawn.1, c.commit_loaded.ensures.only.left ∙ drawn.2)

pub returns-in_err-commit_loaded-clause-only : goal.returns-in_err-commit_loaded-clause-only
returns-in_err-commit_loaded-clause-only g c = takes_joined c.write_stream.ensures.only (takes_disk c.commit_loaded.ensures.only)

pub returns-clause-only : goal.returns-clause-only
returns-clause-only g c = takes_joined c.write_stream.ensures.only (takes_disk c.commit_loaded.ensures.only)

pub returns-in_err-loaded-clause-refused : goal.returns-in_err-loaded-clause-refused
returns-in_err-loaded-clause-refused g c fault stream image e honest has holds =
    let same : c.in_err-loaded.field-0.0 ≡ Stream fault = same_handed c.from_residual.result c.in_err-loaded.field-0.0 (Stream fault) c.from_residual.ensures.1 e in
    c.in_err-loaded.ensures.refused fault stream image (ap Err same) honest has holds

-- ---- what else is promised

pub returns-in_err-loaded-clause-fits : goal.returns-in_err-loaded-clause-fits
returns-in_err-loaded-clause-fits g c = not_given c.from_residual.result _ c.in_err-loaded.field-0.0 c.from_residual.ensures.1

pub returns-in_err-loaded-clause-done : goal.returns-in_err-loaded-clause-done
returns-in_err-loaded-clause-done g c = no_value c.from_residual.result _ c.in_err-loaded.field-0.0 c.from_residual.ensures.1

pub returns-in_err-loaded-clause-only : goal.returns-in_err-loaded-clause-only
returns-in_err-loaded-clause-only g c = c.write_stream.ensures.only

pub returns-in_err-loaded-clause-draws : goal.returns-in_err-loaded-clause-draws
returns-in_err-loaded-clause-draws g c = c.write_stream.ensures.draws

pub returns-in_err-loaded-clause-kept : goal.returns-in_err-loaded-clause-kept
returns-in_err-loaded-clause-kept g c = if_err_handed c.from_residual.result (λ fault. (fault ≡ Disk → ⊥) → StaysEmpty (g.H.World.outside c.args.host.now) (g.H.World.outside c.write_stream.new.host) c.args.volume) c.in_err-loaded.field-0.0 c.from_residual.ensures.1 (λ other. c.write_stream.ensures.stays)

pub returns-in_err-loaded-clause-cause : goal.returns-in_err-loaded-clause-cause
returns-in_err-loaded-clause-cause g c = if_err_handed c.from_residual.result (LoadCause (g.H.World.outside c.args.host.now) (g.H.World.outside c.write_stream.new.host)) c.in_err-loaded.field-0.0 c.from_residual.ensures.1 c.in_err-loaded.ensures.cause

pub returns-in_err-commit_loaded-clause-fits : goal.returns-in_err-commit_loaded-clause-fits
returns-in_err-commit_loaded-clause-fits g c = not_given c.from_residual-in_err-commit_loaded.result _ (fault_of_commit c.in_err-commit_loaded.field-0.0) c.from_residual-in_err-commit_loaded.ensures.1

pub returns-in_err-commit_loaded-clause-done : goal.returns-in_err-commit_loaded-clause-done
returns-in_err-commit_loaded-clause-done g c = no_value c.from_residual-in_err-commit_loaded.result _ (fault_of_commit c.in_err-commit_loaded.field-0.0) c.from_residual-in_err-commit_loaded.ensures.1

pub returns-in_err-commit_loaded-clause-cause : goal.returns-in_err-commit_loaded-clause-cause
returns-in_err-commit_loaded-clause-cause g c = if_err_handed c.from_residual-in_err-commit_loaded.result (LoadCause (g.H.World.outside c.args.host.now) (g.H.World.outside c.commit_loaded.new.disk)) (fault_of_commit c.in_err-commit_loaded.field-0.0) c.from_residual-in_err-commit_loaded.ensures.1 (cause_since (g.H.World.outside c.args.host.now) (g.H.World.outside c.write_stream.new.host) (g.H.World.outside c.commit_loaded.new.disk) (fault_of_commit c.in_err-commit_loaded.field-0.0) c.write_stream.ensures.only.goes.disk_faults c.write_stream.ensures.only.goes.read_faults (commit_cause (g.H.World.outside c.write_stream.new.host) (g.H.World.outside c.commit_loaded.new.disk) c.in_err-commit_loaded.field-0.0 (λ disk. c.in_err-commit_loaded.ensures.disk (ap Err disk))))

pub returns-clause-fits : goal.returns-clause-fits
returns-clause-fits g c = c.in_ok-loaded.ensures.fits

pub returns-clause-kept : goal.returns-clause-kept
returns-clause-kept g c = tt

pub returns-clause-cause : goal.returns-clause-cause
returns-clause-cause g c = tt
