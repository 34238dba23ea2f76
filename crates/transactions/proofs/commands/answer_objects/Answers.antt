use Rattle.transactions.specs.Commands.{IsCopy, ReadsAlone}
use Rattle.table_model.specs.Requests.{request_of}
use Rattle.std.proofs.Common.{◌∙◌, ap, refl, sym, ◌&&◌, subst, true≢false}
use Rattle.std.proofs.lemmas.Bool.{and_parts}
use Rattle.table_model.specs.Words.{is_name}
use Rattle.std.specs.Prelude.{option_map}
use Rattle.table_model.specs.Requests.{Request, given_of, is_given, is_kept_name_if, is_position, is_reference, is_request, request_of, reference_of}
use Rattle.table_model.specs.Requests as request
use Rattle.transactions.proofs.Commanding.{asks_more, of_read, of_scans, of_update}
use Rattle.transactions.proofs.Through.{of_no_scan}
use Rattle.transactions.proofs.Damage.{damage_as}
use Rattle.transactions.proofs.Ways.{way_as}
use Rattle.transactions.proofs.Contents.{shaped_as, unshaped}
use Rattle.transactions.proofs.commands.answer_objects.Goals as goal

pub returns-in-List-clause-answers : goal.returns-in-List-clause-answers
returns-in-List-clause-answers g c = of_read (request_of c.args.command.now) (request.ListFile c.in-List.name.now) c.list.result (ap request_of c.in-List.is) refl (g.H.World.is_world c.args.host.now) c.list.ensures.line

pub returns-in-Size-clause-answers : goal.returns-in-Size-clause-answers
returns-in-Size-clause-answers g c = of_read (request_of c.args.command.now) (request.Size (reference_of c.in-Size.x)) c.size.result (ap request_of c.in-Size.is) refl (g.H.World.is_world c.args.host.now) c.size.ensures.line

pub returns-in-Stat-clause-answers : goal.returns-in-Stat-clause-answers
returns-in-Stat-clause-answers g c = of_read (request_of c.args.command.now) (request.Stat (reference_of c.in-Stat.x)) c.stat.result (ap request_of c.in-Stat.is) refl (g.H.World.is_world c.args.host.now) c.stat.ensures.line

pub returns-in-Digest-clause-answers : goal.returns-in-Digest-clause-answers
returns-in-Digest-clause-answers g c = of_read (request_of c.args.command.now) (request.Digest (reference_of c.in-Digest.x)) c.digest.result (ap request_of c.in-Digest.is) refl (g.H.World.is_world c.args.host.now) c.digest.ensures.line

pub returns-in-Read-clause-answers : goal.returns-in-Read-clause-answers
returns-in-Read-clause-answers g c = of_read (request_of c.args.command.now) (request.Read (reference_of c.in-Read.x) c.in-Read.pos c.in-Read.len) c.read.result (ap request_of c.in-Read.is) refl (g.H.World.is_world c.args.host.now) c.read.ensures.line

pub returns-in-Create-clause-answers : goal.returns-in-Create-clause-answers
returns-in-Create-clause-answers g c = of_update (request_of c.args.command.now) (request.Create c.in-Create.file.now (option_map (λ name. name.now) c.in-Create.bind)) c.create.result (ap request_of c.in-Create.is) refl refl c.create.ensures.line

pub returns-in-Destroy-clause-answers : goal.returns-in-Destroy-clause-answers
returns-in-Destroy-clause-answers g c = of_update (request_of c.args.command.now) (request.Destroy (reference_of c.in-Destroy.x)) c.destroy.result (ap request_of c.in-Destroy.is) refl refl c.destroy.ensures.line

pub returns-in-Insert-clause-answers : goal.returns-in-Insert-clause-answers
returns-in-Insert-clause-answers g c = of_update (request_of c.args.command.now) (request.Insert (reference_of c.in-Insert.x) c.in-Insert.pos (given_of c.in-Insert.given)) c.insert.result (ap request_of c.in-Insert.is) refl refl c.insert.ensures.line

pub returns-in-Append-clause-answers : goal.returns-in-Append-clause-answers
returns-in-Append-clause-answers g c = of_update (request_of c.args.command.now) (request.Append (reference_of c.in-Append.x) (given_of c.in-Append.given)) c.append.result (ap request_of c.in-Append.is) refl refl c.append.ensures.line

pub returns-in-Replace-clause-answers : goal.returns-in-Replace-clause-answers
returns-in-Replace-clause-answers g c = of_update (request_of c.args.command.now) (request.Replace (reference_of c.in-Replace.x) c.in-Replace.pos (given_of c.in-Replace.given)) c.replace.result (ap request_of c.in-Replace.is) refl refl c.replace.ensures.line

pub returns-in-Delete-clause-answers : goal.returns-in-Delete-clause-answers
returns-in-Delete-clause-answers g c = of_update (request_of c.args.command.now) (request.Delete (reference_of c.in-Delete.x) c.in-Delete.pos c.in-Delete.len) c.delete.result (ap request_of c.in-Delete.is) refl refl c.delete.ensures.line

pub returns-in-Next-clause-answers : goal.returns-in-Next-clause-answers
returns-in-Next-clause-answers g c =
    of_scans (request_of c.args.command.now) (request.Next c.in-Next.name.now c.in-Next.len) c.next.result (ap request_of c.in-Next.is) (g.H.World.is_world c.args.host.now)
    (asks_more (g.H.World.outside c.args.host.now) (g.H.World.outside c.next.new.host) c.args.session.now (request.Next c.in-Next.name.now c.in-Next.len) c.next.result refl) c.next.ensures.line

pub returns-in-Scan-clause-answers : goal.returns-in-Scan-clause-answers
returns-in-Scan-clause-answers g c =
    let r : Request = request.Scan (reference_of c.in-Scan.x) c.in-Scan.name.now (option_map (λ name. name.now) c.in-Scan.group) in
    of_scans (request_of c.args.command.now) r c.scan.result (ap request_of c.in-Scan.is) (g.H.World.is_world c.args.host.now)
    (asks_more (g.H.World.outside c.args.host.now) (g.H.World.outside c.scan.new.host) c.args.session.now r c.scan.result refl) c.scan.ensures.line

pub returns-in-Versions-clause-answers : goal.returns-in-Versions-clause-answers
returns-in-Versions-clause-answers g c = of_read (request_of c.args.command.now) (request.Versions (reference_of c.in-Versions.x)) c.versions.result (ap request_of c.in-Versions.is) refl (g.H.World.is_world c.args.host.now) c.versions.ensures.line

pub returns-in-DropVersion-clause-answers : goal.returns-in-DropVersion-clause-answers
returns-in-DropVersion-clause-answers g c = of_update (request_of c.args.command.now) (request.DropVersion (reference_of c.in-DropVersion.x)) c.drop_version.result (ap request_of c.in-DropVersion.is) refl refl c.drop_version.ensures.line

pub returns-in-Freeze-clause-answers : goal.returns-in-Freeze-clause-answers
returns-in-Freeze-clause-answers g c = of_update (request_of c.args.command.now) (request.Freeze (reference_of c.in-Freeze.x) (option_map (λ name. name.now) c.in-Freeze.bind)) c.copy.result (ap request_of c.in-Freeze.is) refl refl c.copy.ensures.line

pub returns-in-Derive-clause-answers : goal.returns-in-Derive-clause-answers
returns-in-Derive-clause-answers g c = of_update (request_of c.args.command.now) (request.Derive (reference_of c.in-Derive.x) (option_map (λ name. name.now) c.in-Derive.bind)) c.copy-in-Derive.result (ap request_of c.in-Derive.is) refl refl c.copy-in-Derive.ensures.line

pub returns-in-List-clause-damage : goal.returns-in-List-clause-damage
returns-in-List-clause-damage g c = damage_as (g.H.World.outside c.args.host.now) (g.H.World.outside c.list.new.host) c.args.session.now (request_of c.args.command.now) (request.ListFile c.in-List.name.now) c.list.result (ap request_of c.in-List.is) (λ honest. c.list.ensures.damage)

pub returns-in-Size-clause-damage : goal.returns-in-Size-clause-damage
returns-in-Size-clause-damage g c = damage_as (g.H.World.outside c.args.host.now) (g.H.World.outside c.size.new.host) c.args.session.now (request_of c.args.command.now) (request.Size (reference_of c.in-Size.x)) c.size.result (ap request_of c.in-Size.is) (λ honest. c.size.ensures.damage)

pub returns-in-Stat-clause-damage : goal.returns-in-Stat-clause-damage
returns-in-Stat-clause-damage g c = damage_as (g.H.World.outside c.args.host.now) (g.H.World.outside c.stat.new.host) c.args.session.now (request_of c.args.command.now) (request.Stat (reference_of c.in-Stat.x)) c.stat.result (ap request_of c.in-Stat.is) (λ honest. c.stat.ensures.damage)

pub returns-in-Digest-clause-damage : goal.returns-in-Digest-clause-damage
returns-in-Digest-clause-damage g c = damage_as (g.H.World.outside c.args.host.now) (g.H.World.outside c.digest.new.host) c.args.session.now (request_of c.args.command.now) (request.Digest (reference_of c.in-Digest.x)) c.digest.result (ap request_of c.in-Digest.is) (λ honest. c.digest.ensures.damage)

pub returns-in-Read-clause-damage : goal.returns-in-Read-clause-damage
returns-in-Read-clause-damage g c = damage_as (g.H.World.outside c.args.host.now) (g.H.World.outside c.read.new.host) c.args.session.now (request_of c.args.command.now) (request.Read (reference_of c.in-Read.x) c.in-Read.pos c.in-Read.len) c.read.result (ap request_of c.in-Read.is) (λ honest. c.read.ensures.damage)

pub returns-in-Create-clause-damage : goal.returns-in-Create-clause-damage
returns-in-Create-clause-damage g c = damage_as (g.H.World.outside c.args.host.now) (g.H.World.outside c.create.new.host) c.args.session.now (request_of c.args.command.now) (request.Create c.in-Create.file.now (option_map (λ name. name.now) c.in-Create.bind)) c.create.result (ap request_of c.in-Create.is) (λ honest. c.create.ensures.damage (honest refl))

pub returns-in-Destroy-clause-damage : goal.returns-in-Destroy-clause-damage
returns-in-Destroy-clause-damage g c = damage_as (g.H.World.outside c.args.host.now) (g.H.World.outside c.destroy.new.host) c.args.session.now (request_of c.args.command.now) (request.Destroy (reference_of c.in-Destroy.x)) c.destroy.result (ap request_of c.in-Destroy.is) (λ honest. c.destroy.ensures.damage (honest refl))

pub returns-in-Insert-clause-damage : goal.returns-in-Insert-clause-damage
returns-in-Insert-clause-damage g c = damage_as (g.H.World.outside c.args.host.now) (g.H.World.outside c.insert.new.host) c.args.session.now (request_of c.args.command.now) (request.Insert (reference_of c.in-Insert.x) c.in-Insert.pos (given_of c.in-Insert.given)) c.insert.result (ap request_of c.in-Insert.is) (λ honest. c.insert.ensures.damage (honest refl))

pub returns-in-Append-clause-damage : goal.returns-in-Append-clause-damage
returns-in-Append-clause-damage g c = damage_as (g.H.World.outside c.args.host.now) (g.H.World.outside c.append.new.host) c.args.session.now (request_of c.args.command.now) (request.Append (reference_of c.in-Append.x) (given_of c.in-Append.given)) c.append.result (ap request_of c.in-Append.is) (λ honest. c.append.ensures.damage (honest refl))

pub returns-in-Replace-clause-damage : goal.returns-in-Replace-clause-damage
returns-in-Replace-clause-damage g c = damage_as (g.H.World.outside c.args.host.now) (g.H.World.outside c.replace.new.host) c.args.session.now (request_of c.args.command.now) (request.Replace (reference_of c.in-Replace.x) c.in-Replace.pos (given_of c.in-Replace.given)) c.replace.result (ap request_of c.in-Replace.is) (λ honest. c.replace.ensures.damage (honest refl))

pub returns-in-Delete-clause-damage : goal.returns-in-Delete-clause-damage
returns-in-Delete-clause-damage g c = damage_as (g.H.World.outside c.args.host.now) (g.H.World.outside c.delete.new.host) c.args.session.now (request_of c.args.command.now) (request.Delete (reference_of c.in-Delete.x) c.in-Delete.pos c.in-Delete.len) c.delete.result (ap request_of c.in-Delete.is) (λ honest. c.delete.ensures.damage (honest refl))

pub returns-in-Next-clause-damage : goal.returns-in-Next-clause-damage
returns-in-Next-clause-damage g c = damage_as (g.H.World.outside c.args.host.now) (g.H.World.outside c.next.new.host) c.args.session.now (request_of c.args.command.now) (request.Next c.in-Next.name.now c.in-Next.len) c.next.result (ap request_of c.in-Next.is) (λ honest. c.next.ensures.damage)

pub returns-in-Scan-clause-damage : goal.returns-in-Scan-clause-damage
returns-in-Scan-clause-damage g c = damage_as (g.H.World.outside c.args.host.now) (g.H.World.outside c.scan.new.host) c.args.session.now (request_of c.args.command.now) (request.Scan (reference_of c.in-Scan.x) c.in-Scan.name.now (option_map (λ name. name.now) c.in-Scan.group)) c.scan.result (ap request_of c.in-Scan.is) (λ honest. c.scan.ensures.damage)

pub returns-in-Versions-clause-damage : goal.returns-in-Versions-clause-damage
returns-in-Versions-clause-damage g c = damage_as (g.H.World.outside c.args.host.now) (g.H.World.outside c.versions.new.host) c.args.session.now (request_of c.args.command.now) (request.Versions (reference_of c.in-Versions.x)) c.versions.result (ap request_of c.in-Versions.is) (λ honest. c.versions.ensures.damage)

pub returns-in-DropVersion-clause-damage : goal.returns-in-DropVersion-clause-damage
returns-in-DropVersion-clause-damage g c = damage_as (g.H.World.outside c.args.host.now) (g.H.World.outside c.drop_version.new.host) c.args.session.now (request_of c.args.command.now) (request.DropVersion (reference_of c.in-DropVersion.x)) c.drop_version.result (ap request_of c.in-DropVersion.is) (λ honest. c.drop_version.ensures.damage (honest refl))

pub returns-in-Freeze-clause-damage : goal.returns-in-Freeze-clause-damage
returns-in-Freeze-clause-damage g c = damage_as (g.H.World.outside c.args.host.now) (g.H.World.outside c.copy.new.host) c.args.session.now (request_of c.args.command.now) (request.Freeze (reference_of c.in-Freeze.x) (option_map (λ name. name.now) c.in-Freeze.bind)) c.copy.result (ap request_of c.in-Freeze.is) (λ honest. c.copy.ensures.damage (honest refl))

pub returns-in-Derive-clause-damage : goal.returns-in-Derive-clause-damage
returns-in-Derive-clause-damage g c = damage_as (g.H.World.outside c.args.host.now) (g.H.World.outside c.copy-in-Derive.new.host) c.args.session.now (request_of c.args.command.now) (request.Derive (reference_of c.in-Derive.x) (option_map (λ name. name.now) c.in-Derive.bind)) c.copy-in-Derive.result (ap request_of c.in-Derive.is) (λ honest. c.copy-in-Derive.ensures.damage (honest refl))

pub create-requires-clause-name : goal.create-requires-clause-name
create-requires-clause-name g c = (and_parts (is_name c.in-Create.file.now) (is_kept_name_if (option_map (λ name. name.now) c.in-Create.bind)) (sym (ap (λ (r : Request). is_request r) (ap request_of c.in-Create.is)) ∙ c.requires.form)).1

pub insert-requires-clause-given : goal.insert-requires-clause-given
insert-requires-clause-given g c = (and_parts (is_reference (reference_of c.in-Insert.x) && is_position c.in-Insert.pos) (is_given (given_of c.in-Insert.given)) (sym (ap (λ (r : Request). is_request r) (ap request_of c.in-Insert.is)) ∙ c.requires.form)).1

pub replace-requires-clause-given : goal.replace-requires-clause-given
replace-requires-clause-given g c = (and_parts (is_reference (reference_of c.in-Replace.x) && is_position c.in-Replace.pos) (is_given (given_of c.in-Replace.given)) (sym (ap (λ (r : Request). is_request r) (ap request_of c.in-Replace.is)) ∙ c.requires.form)).1

pub append-requires-clause-given : goal.append-requires-clause-given
append-requires-clause-given g c = (and_parts (is_reference (reference_of c.in-Append.x)) (is_given (given_of c.in-Append.given)) (sym (ap (λ (r : Request). is_request r) (ap request_of c.in-Append.is)) ∙ c.requires.form)).1

pub returns-in-List-clause-shares : goal.returns-in-List-clause-shares
returns-in-List-clause-shares g c = λ copy. absurd (subst IsCopy (ap request_of c.in-List.is) copy)

pub returns-in-Destroy-clause-shares : goal.returns-in-Destroy-clause-shares
returns-in-Destroy-clause-shares g c = λ copy. absurd (subst IsCopy (ap request_of c.in-Destroy.is) copy)

pub returns-in-Size-clause-shares : goal.returns-in-Size-clause-shares
returns-in-Size-clause-shares g c = λ copy. absurd (subst IsCopy (ap request_of c.in-Size.is) copy)

pub returns-in-Stat-clause-shares : goal.returns-in-Stat-clause-shares
returns-in-Stat-clause-shares g c = λ copy. absurd (subst IsCopy (ap request_of c.in-Stat.is) copy)

pub returns-in-Digest-clause-shares : goal.returns-in-Digest-clause-shares
returns-in-Digest-clause-shares g c = λ copy. absurd (subst IsCopy (ap request_of c.in-Digest.is) copy)

pub returns-in-Versions-clause-shares : goal.returns-in-Versions-clause-shares
returns-in-Versions-clause-shares g c = λ copy. absurd (subst IsCopy (ap request_of c.in-Versions.is) copy)

pub returns-in-DropVersion-clause-shares : goal.returns-in-DropVersion-clause-shares
returns-in-DropVersion-clause-shares g c = λ copy. absurd (subst IsCopy (ap request_of c.in-DropVersion.is) copy)

pub returns-in-Read-clause-shares : goal.returns-in-Read-clause-shares
returns-in-Read-clause-shares g c = λ copy. absurd (subst IsCopy (ap request_of c.in-Read.is) copy)

pub returns-in-Insert-clause-shares : goal.returns-in-Insert-clause-shares
returns-in-Insert-clause-shares g c = λ copy. absurd (subst IsCopy (ap request_of c.in-Insert.is) copy)

pub returns-in-Append-clause-shares : goal.returns-in-Append-clause-shares
returns-in-Append-clause-shares g c = λ copy. absurd (subst IsCopy (ap request_of c.in-Append.is) copy)

pub returns-in-Replace-clause-shares : goal.returns-in-Replace-clause-shares
returns-in-Replace-clause-shares g c = λ copy. absurd (subst IsCopy (ap request_of c.in-Replace.is) copy)

pub returns-in-Delete-clause-shares : goal.returns-in-Delete-clause-shares
returns-in-Delete-clause-shares g c = λ copy. absurd (subst IsCopy (ap request_of c.in-Delete.is) copy)

pub returns-in-Scan-clause-shares : goal.returns-in-Scan-clause-shares
returns-in-Scan-clause-shares g c = λ copy. absurd (subst IsCopy (ap request_of c.in-Scan.is) copy)

pub returns-in-Next-clause-shares : goal.returns-in-Next-clause-shares
returns-in-Next-clause-shares g c = λ copy. absurd (subst IsCopy (ap request_of c.in-Next.is) copy)

pub returns-in-Create-clause-shares : goal.returns-in-Create-clause-shares
returns-in-Create-clause-shares g c = λ copy. absurd (subst IsCopy (ap request_of c.in-Create.is) copy)

pub returns-in-List-clause-way : goal.returns-in-List-clause-way
returns-in-List-clause-way g c = λ alone. way_as (g.H.World.outside c.args.host.now) c.args.session.now (request_of c.args.command.now) (request.ListFile c.in-List.name.now) c.list.result (ap request_of c.in-List.is) c.list.ensures.way

pub returns-in-Size-clause-way : goal.returns-in-Size-clause-way
returns-in-Size-clause-way g c = λ alone. way_as (g.H.World.outside c.args.host.now) c.args.session.now (request_of c.args.command.now) (request.Size (reference_of c.in-Size.x)) c.size.result (ap request_of c.in-Size.is) c.size.ensures.way

pub returns-in-Stat-clause-way : goal.returns-in-Stat-clause-way
returns-in-Stat-clause-way g c = λ alone. way_as (g.H.World.outside c.args.host.now) c.args.session.now (request_of c.args.command.now) (request.Stat (reference_of c.in-Stat.x)) c.stat.result (ap request_of c.in-Stat.is) c.stat.ensures.way

pub returns-in-Digest-clause-way : goal.returns-in-Digest-clause-way
returns-in-Digest-clause-way g c = λ alone. way_as (g.H.World.outside c.args.host.now) c.args.session.now (request_of c.args.command.now) (request.Digest (reference_of c.in-Digest.x)) c.digest.result (ap request_of c.in-Digest.is) c.digest.ensures.way

pub returns-in-Versions-clause-way : goal.returns-in-Versions-clause-way
returns-in-Versions-clause-way g c = λ alone. way_as (g.H.World.outside c.args.host.now) c.args.session.now (request_of c.args.command.now) (request.Versions (reference_of c.in-Versions.x)) c.versions.result (ap request_of c.in-Versions.is) c.versions.ensures.way

pub returns-in-Read-clause-way : goal.returns-in-Read-clause-way
returns-in-Read-clause-way g c = λ alone. way_as (g.H.World.outside c.args.host.now) c.args.session.now (request_of c.args.command.now) (request.Read (reference_of c.in-Read.x) c.in-Read.pos c.in-Read.len) c.read.result (ap request_of c.in-Read.is) c.read.ensures.way

pub returns-in-Next-clause-way : goal.returns-in-Next-clause-way
returns-in-Next-clause-way g c = λ alone. way_as (g.H.World.outside c.args.host.now) c.args.session.now (request_of c.args.command.now) (request.Next c.in-Next.name.now c.in-Next.len) c.next.result (ap request_of c.in-Next.is) c.next.ensures.way

pub returns-in-Scan-clause-way : goal.returns-in-Scan-clause-way
returns-in-Scan-clause-way g c = λ alone. way_as (g.H.World.outside c.args.host.now) c.args.session.now (request_of c.args.command.now) (request.Scan (reference_of c.in-Scan.x) c.in-Scan.name.now (option_map (λ name. name.now) c.in-Scan.group)) c.scan.result (ap request_of c.in-Scan.is) c.scan.ensures.way

pub returns-in-Create-clause-way : goal.returns-in-Create-clause-way
returns-in-Create-clause-way g c = λ alone. absurd (true≢false (subst ReadsAlone (ap request_of c.in-Create.is) alone).1)

pub returns-in-Destroy-clause-way : goal.returns-in-Destroy-clause-way
returns-in-Destroy-clause-way g c = λ alone. absurd (true≢false (subst ReadsAlone (ap request_of c.in-Destroy.is) alone).1)

pub returns-in-Insert-clause-way : goal.returns-in-Insert-clause-way
returns-in-Insert-clause-way g c = λ alone. absurd (true≢false (subst ReadsAlone (ap request_of c.in-Insert.is) alone).1)

pub returns-in-Append-clause-way : goal.returns-in-Append-clause-way
returns-in-Append-clause-way g c = λ alone. absurd (true≢false (subst ReadsAlone (ap request_of c.in-Append.is) alone).1)

pub returns-in-Replace-clause-way : goal.returns-in-Replace-clause-way
returns-in-Replace-clause-way g c = λ alone. absurd (true≢false (subst ReadsAlone (ap request_of c.in-Replace.is) alone).1)

pub returns-in-Delete-clause-way : goal.returns-in-Delete-clause-way
returns-in-Delete-clause-way g c = λ alone. absurd (true≢false (subst ReadsAlone (ap request_of c.in-Delete.is) alone).1)

pub returns-in-Freeze-clause-way : goal.returns-in-Freeze-clause-way
returns-in-Freeze-clause-way g c = λ alone. absurd (true≢false (subst ReadsAlone (ap request_of c.in-Freeze.is) alone).1)

pub returns-in-Derive-clause-way : goal.returns-in-Derive-clause-way
returns-in-Derive-clause-way g c = λ alone. absurd (true≢false (subst ReadsAlone (ap request_of c.in-Derive.is) alone).1)

pub returns-in-DropVersion-clause-way : goal.returns-in-DropVersion-clause-way
returns-in-DropVersion-clause-way g c = λ alone. absurd (true≢false (subst ReadsAlone (ap request_of c.in-DropVersion.is) alone).1)

-- ---- which groups scans read through

pub returns-in-Append-clause-through : goal.returns-in-Append-clause-through
returns-in-Append-clause-through g c = of_no_scan c.args.session.now _ _ _ (ap request_of c.in-Append.is) tt

pub returns-in-Create-clause-through : goal.returns-in-Create-clause-through
returns-in-Create-clause-through g c = of_no_scan c.args.session.now _ _ _ (ap request_of c.in-Create.is) tt

pub returns-in-Delete-clause-through : goal.returns-in-Delete-clause-through
returns-in-Delete-clause-through g c = of_no_scan c.args.session.now _ _ _ (ap request_of c.in-Delete.is) tt

pub returns-in-Derive-clause-through : goal.returns-in-Derive-clause-through
returns-in-Derive-clause-through g c = of_no_scan c.args.session.now _ _ _ (ap request_of c.in-Derive.is) tt

pub returns-in-Destroy-clause-through : goal.returns-in-Destroy-clause-through
returns-in-Destroy-clause-through g c = of_no_scan c.args.session.now _ _ _ (ap request_of c.in-Destroy.is) tt

pub returns-in-Digest-clause-through : goal.returns-in-Digest-clause-through
returns-in-Digest-clause-through g c = of_no_scan c.args.session.now _ _ _ (ap request_of c.in-Digest.is) tt

pub returns-in-DropVersion-clause-through : goal.returns-in-DropVersion-clause-through
returns-in-DropVersion-clause-through g c = of_no_scan c.args.session.now _ _ _ (ap request_of c.in-DropVersion.is) tt

pub returns-in-Freeze-clause-through : goal.returns-in-Freeze-clause-through
returns-in-Freeze-clause-through g c = of_no_scan c.args.session.now _ _ _ (ap request_of c.in-Freeze.is) tt

pub returns-in-Insert-clause-through : goal.returns-in-Insert-clause-through
returns-in-Insert-clause-through g c = of_no_scan c.args.session.now _ _ _ (ap request_of c.in-Insert.is) tt

pub returns-in-List-clause-through : goal.returns-in-List-clause-through
returns-in-List-clause-through g c = of_no_scan c.args.session.now _ _ _ (ap request_of c.in-List.is) tt

pub returns-in-Read-clause-through : goal.returns-in-Read-clause-through
returns-in-Read-clause-through g c = of_no_scan c.args.session.now _ _ _ (ap request_of c.in-Read.is) tt

pub returns-in-Replace-clause-through : goal.returns-in-Replace-clause-through
returns-in-Replace-clause-through g c = of_no_scan c.args.session.now _ _ _ (ap request_of c.in-Replace.is) tt

pub returns-in-Size-clause-through : goal.returns-in-Size-clause-through
returns-in-Size-clause-through g c = of_no_scan c.args.session.now _ _ _ (ap request_of c.in-Size.is) tt

pub returns-in-Stat-clause-through : goal.returns-in-Stat-clause-through
returns-in-Stat-clause-through g c = of_no_scan c.args.session.now _ _ _ (ap request_of c.in-Stat.is) tt

pub returns-in-Versions-clause-through : goal.returns-in-Versions-clause-through
returns-in-Versions-clause-through g c = of_no_scan c.args.session.now _ _ _ (ap request_of c.in-Versions.is) tt

pub returns-in-Scan-clause-through : goal.returns-in-Scan-clause-through
returns-in-Scan-clause-through g c = of_no_scan c.args.session.now _ _ _ (ap request_of c.in-Scan.is) c.scan.ensures.through

pub returns-in-Next-clause-through : goal.returns-in-Next-clause-through
returns-in-Next-clause-through g c = of_no_scan c.args.session.now _ _ _ (ap request_of c.in-Next.is) c.next.ensures.others

pub returns-in-List-clause-shaped : goal.returns-in-List-clause-shaped
returns-in-List-clause-shaped g c = unshaped (g.H.World.outside c.args.host.now) (g.H.World.outside c.list.new.host) c.args.session.now c.list.new.session (request_of c.args.command.now) (request.ListFile c.in-List.name.now) c.list.result (ap request_of c.in-List.is) (λ m p q told. tt)

pub returns-in-Destroy-clause-shaped : goal.returns-in-Destroy-clause-shaped
returns-in-Destroy-clause-shaped g c = unshaped (g.H.World.outside c.args.host.now) (g.H.World.outside c.destroy.new.host) c.args.session.now c.destroy.new.session (request_of c.args.command.now) (request.Destroy (reference_of c.in-Destroy.x)) c.destroy.result (ap request_of c.in-Destroy.is) (λ m p q told. tt)

pub returns-in-Size-clause-shaped : goal.returns-in-Size-clause-shaped
returns-in-Size-clause-shaped g c = unshaped (g.H.World.outside c.args.host.now) (g.H.World.outside c.size.new.host) c.args.session.now c.size.new.session (request_of c.args.command.now) (request.Size (reference_of c.in-Size.x)) c.size.result (ap request_of c.in-Size.is) (λ m p q told. tt)

pub returns-in-Stat-clause-shaped : goal.returns-in-Stat-clause-shaped
returns-in-Stat-clause-shaped g c = unshaped (g.H.World.outside c.args.host.now) (g.H.World.outside c.stat.new.host) c.args.session.now c.stat.new.session (request_of c.args.command.now) (request.Stat (reference_of c.in-Stat.x)) c.stat.result (ap request_of c.in-Stat.is) (λ m p q told. tt)

pub returns-in-Digest-clause-shaped : goal.returns-in-Digest-clause-shaped
returns-in-Digest-clause-shaped g c = unshaped (g.H.World.outside c.args.host.now) (g.H.World.outside c.digest.new.host) c.args.session.now c.digest.new.session (request_of c.args.command.now) (request.Digest (reference_of c.in-Digest.x)) c.digest.result (ap request_of c.in-Digest.is) (λ m p q told. tt)

pub returns-in-Versions-clause-shaped : goal.returns-in-Versions-clause-shaped
returns-in-Versions-clause-shaped g c = unshaped (g.H.World.outside c.args.host.now) (g.H.World.outside c.versions.new.host) c.args.session.now c.versions.new.session (request_of c.args.command.now) (request.Versions (reference_of c.in-Versions.x)) c.versions.result (ap request_of c.in-Versions.is) (λ m p q told. tt)

pub returns-in-DropVersion-clause-shaped : goal.returns-in-DropVersion-clause-shaped
returns-in-DropVersion-clause-shaped g c = unshaped (g.H.World.outside c.args.host.now) (g.H.World.outside c.drop_version.new.host) c.args.session.now c.drop_version.new.session (request_of c.args.command.now) (request.DropVersion (reference_of c.in-DropVersion.x)) c.drop_version.result (ap request_of c.in-DropVersion.is) (λ m p q told. tt)

pub returns-in-Read-clause-shaped : goal.returns-in-Read-clause-shaped
returns-in-Read-clause-shaped g c = unshaped (g.H.World.outside c.args.host.now) (g.H.World.outside c.read.new.host) c.args.session.now c.read.new.session (request_of c.args.command.now) (request.Read (reference_of c.in-Read.x) c.in-Read.pos c.in-Read.len) c.read.result (ap request_of c.in-Read.is) (λ m p q told. tt)

pub returns-in-Scan-clause-shaped : goal.returns-in-Scan-clause-shaped
returns-in-Scan-clause-shaped g c = unshaped (g.H.World.outside c.args.host.now) (g.H.World.outside c.scan.new.host) c.args.session.now c.scan.new.session (request_of c.args.command.now) (request.Scan (reference_of c.in-Scan.x) c.in-Scan.name.now (option_map (λ name. name.now) c.in-Scan.group)) c.scan.result (ap request_of c.in-Scan.is) (λ m p q told. tt)

pub returns-in-Next-clause-shaped : goal.returns-in-Next-clause-shaped
returns-in-Next-clause-shaped g c = unshaped (g.H.World.outside c.args.host.now) (g.H.World.outside c.next.new.host) c.args.session.now c.next.new.session (request_of c.args.command.now) (request.Next c.in-Next.name.now c.in-Next.len) c.next.result (ap request_of c.in-Next.is) (λ m p q told. tt)

pub returns-in-Create-clause-shaped : goal.returns-in-Create-clause-shaped
returns-in-Create-clause-shaped g c = shaped_as (g.H.World.outside c.args.host.now) (g.H.World.outside c.create.new.host) c.args.session.now c.create.new.session (request_of c.args.command.now) (request.Create c.in-Create.file.now (option_map (λ name. name.now) c.in-Create.bind)) c.create.result (ap request_of c.in-Create.is) c.create.ensures.line.shaped

pub returns-in-Insert-clause-shaped : goal.returns-in-Insert-clause-shaped
returns-in-Insert-clause-shaped g c = shaped_as (g.H.World.outside c.args.host.now) (g.H.World.outside c.insert.new.host) c.args.session.now c.insert.new.session (request_of c.args.command.now) (request.Insert (reference_of c.in-Insert.x) c.in-Insert.pos (given_of c.in-Insert.given)) c.insert.result (ap request_of c.in-Insert.is) c.insert.ensures.line.shaped

pub returns-in-Append-clause-shaped : goal.returns-in-Append-clause-shaped
returns-in-Append-clause-shaped g c = shaped_as (g.H.World.outside c.args.host.now) (g.H.World.outside c.append.new.host) c.args.session.now c.append.new.session (request_of c.args.command.now) (request.Append (reference_of c.in-Append.x) (given_of c.in-Append.given)) c.append.result (ap request_of c.in-Append.is) c.append.ensures.line.shaped

pub returns-in-Replace-clause-shaped : goal.returns-in-Replace-clause-shaped
returns-in-Replace-clause-shaped g c = shaped_as (g.H.World.outside c.args.host.now) (g.H.World.outside c.replace.new.host) c.args.session.now c.replace.new.session (request_of c.args.command.now) (request.Replace (reference_of c.in-Replace.x) c.in-Replace.pos (given_of c.in-Replace.given)) c.replace.result (ap request_of c.in-Replace.is) c.replace.ensures.line.shaped

pub returns-in-Delete-clause-shaped : goal.returns-in-Delete-clause-shaped
returns-in-Delete-clause-shaped g c = shaped_as (g.H.World.outside c.args.host.now) (g.H.World.outside c.delete.new.host) c.args.session.now c.delete.new.session (request_of c.args.command.now) (request.Delete (reference_of c.in-Delete.x) c.in-Delete.pos c.in-Delete.len) c.delete.result (ap request_of c.in-Delete.is) c.delete.ensures.line.shaped

pub returns-in-Freeze-clause-shaped : goal.returns-in-Freeze-clause-shaped
returns-in-Freeze-clause-shaped g c = shaped_as (g.H.World.outside c.args.host.now) (g.H.World.outside c.copy.new.host) c.args.session.now c.copy.new.session (request_of c.args.command.now) (request.Freeze (reference_of c.in-Freeze.x) (option_map (λ name. name.now) c.in-Freeze.bind)) c.copy.result (ap request_of c.in-Freeze.is) c.copy.ensures.line.shaped

pub returns-in-Derive-clause-shaped : goal.returns-in-Derive-clause-shaped
returns-in-Derive-clause-shaped g c = shaped_as (g.H.World.outside c.args.host.now) (g.H.World.outside c.copy-in-Derive.new.host) c.args.session.now c.copy-in-Derive.new.session (request_of c.args.command.now) (request.Derive (reference_of c.in-Derive.x) (option_map (λ name. name.now) c.in-Derive.bind)) c.copy-in-Derive.result (ap request_of c.in-Derive.is) c.copy-in-Derive.ensures.line.shaped
