use Rattle.std.proofs.Common.{◌≡◌, ℕ, List, Some, refl, sym, subst, arith}
use Rattle.disk_model.specs.Changes.{changes_refl}
use Rattle.ex_base.proofs.Results.{if_err_handed}
use Rattle.history_writes.specs.Places.{InPagesFrom}
use Rattle.history_load.specs.AtHand.{CantEnd}
use Rattle.history_load.specs.Faults.{WhereBad, LoadCause}
use Rattle.history_load.specs.Loading.{NoneIsLaid, StandTo, page_behind}
use Rattle.history_load.proofs.Causes.{where_as}
use Rattle.history_load.proofs.Wholeness.{kept_ended, kept_open, made_anew, none_laid, room_for_file, stand_ended, stand_open}
use Rattle.ex_base.proofs.Handed.{not_given}
use Rattle.history_load.proofs.loader.Loader.end_if_whole.Goals as goal

pub end_file-requires-clause-there : goal.end_file-requires-clause-there
end_file-requires-clause-there g c = room_for_file c.args.self.now.progress.geometry c.args.self.now c.requires.open.front c.requires.open.of c.args.self.now.progress.few_pages

pub returns-then-self-gt0-clause-keeps : goal.returns-then-self-gt0-clause-keeps
returns-then-self-gt0-clause-keeps g c = λ f opened. kept_open c.args.self.now.progress.geometry c.args.self.now f opened (omega (arith, c.if-self-gt0.true))

pub returns-then-self-gt0-clause-stands : goal.returns-then-self-gt0-clause-stands
returns-then-self-gt0-clause-stands g c = λ image f honest holds laid.
    (image, holds, stand_open c.args.self.now.progress.geometry image (page_behind c.args.self.now.progress.head.nodes) f c.args.self.now.files c.args.self.now.progress.missing (omega (arith, c.if-self-gt0.true)) laid.between)

pub returns-then-self-gt0-clause-changes : goal.returns-then-self-gt0-clause-changes
returns-then-self-gt0-clause-changes g c = changes_refl (InPagesFrom c.args.self.now.progress.geometry c.args.self.now.files.next) (g.D.World.outside c.args.disk.now)

pub returns-in_err-end_file-clause-refused : goal.returns-in_err-end_file-clause-refused
returns-in_err-end_file-clause-refused g c =
    let none : c.args.self.now.progress.missing ≡ 0 = omega (arith, c.if-self-gt0.false) in
    if_err_handed c.from_residual.result (WhereBad (NoneIsLaid c.args.self.now.progress.geometry (g.D.World.outside c.args.disk.now) c.args.self.now)) c.in_err-end_file.field-0.0 c.from_residual.ensures.1
    (where_as (CantEnd c.args.self.now.progress.geometry (g.D.World.outside c.args.disk.now) c.args.self.now.files) (NoneIsLaid c.args.self.now.progress.geometry (g.D.World.outside c.args.disk.now) c.args.self.now) c.in_err-end_file.field-0.0
    (none_laid c.args.self.now.progress.geometry (g.D.World.outside c.args.disk.now) c.args.self.now none) c.in_err-end_file.ensures.bad)

pub returns-clause-keeps : goal.returns-clause-keeps
returns-clause-keeps g c = λ f opened.
    kept_ended c.args.self.now.progress.geometry c.args.self.now _ f (made_anew c.args.self.now.progress _ _ _ _) refl (omega (arith, c.if-self-gt0.false)) c.in_ok-end_file.ensures.ready c.in_ok-end_file.ensures.within opened

pub returns-clause-stands : goal.returns-clause-stands
returns-clause-stands g c = λ image f honest holds laid.
    let none : c.args.self.now.progress.missing ≡ 0 = omega (arith, c.if-self-gt0.false) in
    let opened = c.requires.open.of in
    let room = room_for_file c.args.self.now.progress.geometry c.args.self.now c.requires.open.front opened c.args.self.now.progress.few_pages in
    subst (λ (n : ℕ). (later : List ℕ) × ((g.D.World.outside c.end_file.new.disk).disk ≡ Some later) × StandTo c.args.self.now.progress.geometry later (page_behind c.args.self.now.progress.head.nodes) f n c.end_file.new.self) (sym none)
    (stand_ended c.args.self.now.progress.geometry (g.D.World.outside c.args.disk.now) (g.D.World.outside c.end_file.new.disk) c.args.self.now.files c.end_file.new.self (page_behind c.args.self.now.progress.head.nodes) image f
    (g.D.World.is_world c.args.disk.now) c.requires.room c.end_file.ensures.changes c.in_ok-end_file.ensures.ends c.in_ok-end_file.ensures.within (omega arith) opened.behind (omega (arith, room, opened.file.last.first)) honest holds laid.between laid.sound (omega (arith, laid.missing, none)))

pub returns-in_err-end_file-clause-only : goal.returns-in_err-end_file-clause-only
returns-in_err-end_file-clause-only g c = record { progress = made_anew c.args.self.now.progress _ _ _ _; gathered = refl }

pub returns-clause-only : goal.returns-clause-only
returns-clause-only g c = record { progress = made_anew c.args.self.now.progress _ _ _ _; gathered = refl }

-- ---- what else is promised

pub end_file-requires-clause-room : goal.end_file-requires-clause-room
end_file-requires-clause-room g c = c.requires.room

pub end_file-requires-clause-file : goal.end_file-requires-clause-file
end_file-requires-clause-file g c = c.requires.open.of.file

pub returns-then-self-gt0-clause-refused : goal.returns-then-self-gt0-clause-refused
returns-then-self-gt0-clause-refused g c = tt

pub returns-then-self-gt0-clause-only : goal.returns-then-self-gt0-clause-only
returns-then-self-gt0-clause-only g c = record { progress = refl; gathered = refl }

pub returns-then-self-gt0-clause-count : goal.returns-then-self-gt0-clause-count
returns-then-self-gt0-clause-count g c = refl

pub returns-then-self-gt0-clause-cause : goal.returns-then-self-gt0-clause-cause
returns-then-self-gt0-clause-cause g c = tt

pub returns-in_err-end_file-clause-keeps : goal.returns-in_err-end_file-clause-keeps
returns-in_err-end_file-clause-keeps g c = not_given c.from_residual.result _ c.in_err-end_file.field-0.0 c.from_residual.ensures.1

pub returns-in_err-end_file-clause-stands : goal.returns-in_err-end_file-clause-stands
returns-in_err-end_file-clause-stands g c = not_given c.from_residual.result _ c.in_err-end_file.field-0.0 c.from_residual.ensures.1

pub returns-in_err-end_file-clause-count : goal.returns-in_err-end_file-clause-count
returns-in_err-end_file-clause-count g c = not_given c.from_residual.result _ c.in_err-end_file.field-0.0 c.from_residual.ensures.1

pub returns-in_err-end_file-clause-changes : goal.returns-in_err-end_file-clause-changes
returns-in_err-end_file-clause-changes g c = c.end_file.ensures.changes

pub returns-in_err-end_file-clause-cause : goal.returns-in_err-end_file-clause-cause
returns-in_err-end_file-clause-cause g c = if_err_handed c.from_residual.result (LoadCause (g.D.World.outside c.args.disk.now) (g.D.World.outside c.end_file.new.disk)) c.in_err-end_file.field-0.0 c.from_residual.ensures.1 c.in_err-end_file.ensures.cause

pub returns-clause-refused : goal.returns-clause-refused
returns-clause-refused g c = tt

pub returns-clause-count : goal.returns-clause-count
returns-clause-count g c = c.in_ok-end_file.ensures.within.count

pub returns-clause-changes : goal.returns-clause-changes
returns-clause-changes g c = c.end_file.ensures.changes

pub returns-clause-cause : goal.returns-clause-cause
returns-clause-cause g c = tt
