use Rattle.session_views.specs.declared.stop.Stop.TheVariants as stop
use Rattle.session_core.proofs.Quiet.{nothing_changed}
use Rattle.transactions.proofs.LaterSessions.{scans_stop}
use Rattle.std.proofs.Common.{◌∙◌, ◌&&◌, ℕ, List, Ok, arith, refl, subst, sym}
use Rattle.std.specs.Prelude.{nat_le}
use Rattle.std.proofs.lemmas.Bool.{and_parts, leb-true}
use Rattle.table_model.specs.declared.reply.Reply.TheVariants as reply
use Rattle.table_model.specs.Requests.{frames_most}
use Rattle.table_model.specs.Requests as request
use Rattle.table_model.specs.Words.{is_kept_name}
use Rattle.transactions.specs.Lines.{ScansLine}
use Rattle.transactions.proofs.ScanLines.{group_made, group_many, group_taken, group_unmade}
use Rattle.transactions.proofs.groups.group.Goals as goal

pub returns-then-is_taken-clause-line : goal.returns-then-is_taken-clause-line
returns-then-is_taken-clause-line g c = group_taken c.args.name.now c.args.frames c.args.mru c.requires.session (sym c.is_taken.ensures ∙ c.if-is_taken.true)

pub returns-then-group_count-ge-GROUPS_MOST-clause-line : goal.returns-then-group_count-ge-GROUPS_MOST-clause-line
returns-then-group_count-ge-GROUPS_MOST-clause-line g c =
    group_many c.args.name.now c.args.frames c.args.mru c.requires.session (sym c.is_taken.ensures ∙ c.if-is_taken.false) (omega (arith, c.group_count.ensures.value, c.if-group_count-ge-GROUPS_MOST.true))

pub add_group-requires-clause-some : goal.add_group-requires-clause-some
add_group-requires-clause-some g c =
    let first = (and_parts (is_kept_name c.args.name.now && nat_le 1 c.args.frames) (nat_le c.args.frames frames_most) c.requires.form).0 in
    leb-true 1 c.args.frames (and_parts (is_kept_name c.args.name.now) (nat_le 1 c.args.frames) first).1

pub add_group-requires-clause-most : goal.add_group-requires-clause-most
add_group-requires-clause-most g c = leb-true c.args.frames frames_most (and_parts (is_kept_name c.args.name.now && nat_le 1 c.args.frames) (nat_le c.args.frames frames_most) c.requires.form).1

pub returns-in-Ok-add_group-clause-line : goal.returns-in-Ok-add_group-clause-line
returns-in-Ok-add_group-clause-line g c =
    let w = g.H.World.outside c.args._host.now in
    let line = request.Group c.args.name.now c.args.frames c.args.mru in
    subst (λ (told : List ℕ). ScansLine w w c.args.session.now c.add_group.new.self line (Ok (reply.Group told))) (sym c.in-Ok.ensures)
    (group_made c.args.name.now c.args.frames c.args.mru c.requires.session (sym c.is_taken.ensures ∙ c.if-is_taken.false) (omega (arith, c.group_count.ensures.value, c.if-group_count-ge-GROUPS_MOST.false)) c.requires.form c.in-Ok-add_group.ensures.ok)

pub returns-in-Err-clause-line : goal.returns-in-Err-clause-line
returns-in-Err-clause-line g c = group_unmade c.args.name.now c.args.frames c.args.mru c.requires.session _ c.in-Err.ensures.err refl

pub returns-in_default-clause-line : goal.returns-in_default-clause-line
returns-in_default-clause-line g c = scans_stop (nothing_changed _ _) _ stop.Memory tt (λ before same now. tt)
