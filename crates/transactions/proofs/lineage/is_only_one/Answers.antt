use Rattle.transactions.proofs.LaterSessions.{has_room}
use Rattle.session_core.proofs.Quiet.{nothing_changed}
use Rattle.std.proofs.Common.{◌∙◌, Some, List, refl, ap, subst}
use Rattle.std.specs.Prelude.{Option, not, slice_get}
use Rattle.std.proofs.lemmas.Option.{same_Some}
use Rattle.ex_base.specs.declared.names.Oid.{Oid}
use Rattle.ex_base.proofs.Results.{if_err_handed}
use Rattle.versions.specs.declared.finding.Found.{Found}
use Rattle.session_core.specs.Finding.{IsFound}
use Rattle.session_core.proofs.Naming.{frames_twice}
use Rattle.session_core.proofs.Quiet.{same_view, with_groups}
use Rattle.transactions.proofs.OnlyOne.{first_listed, is_derived, never_missing, none_listed, only_told}
use Rattle.session_core.specs.Damage.{version_for}
use Rattle.volume_edits.specs.Purposes.{ToRelate}
use Rattle.session_core.proofs.Damage.{later_for, none_for}
use Rattle.transactions.proofs.lineage.is_only_one.Goals as goal

pub returns-in_err-oids-clause-sound : goal.returns-in_err-oids-clause-sound
returns-in_err-oids-clause-sound g c = if_err_handed c.from_residual.result _ _ c.from_residual.ensures.1 (λ before same now told. c.in_err-oids.ensures.sound before same now told.version told.is)

pub returns-in_default-clause-alone : goal.returns-in_default-clause-alone
returns-in_default-clause-alone g c = λ before same now told.
    let derived = is_derived c.args.version.now.found.head.older (c.is_none.ensures ∙ ap not c.if-is_none.false) in
    let none = c.in_default.ensures.value ∙ ap (λ (l : List Oid). slice_get l 0) c.deref.ensures.value in
    absurd (none_listed now c.args.version.now told derived c.in_ok-oids.oids.items (c.in_ok-oids.ensures.oids before same now told.version told.is) none)

pub returns-in_err-found-clause-only : goal.returns-in_err-found-clause-only
returns-in_err-found-clause-only g c = frames_twice c.relatives.ensures.only c.find_version.ensures.only

pub returns-in_err-found-clause-sound : goal.returns-in_err-found-clause-sound
returns-in_err-found-clause-sound g c = if_err_handed c.from_residual-in_err-found.result _ _ c.from_residual-in_err-found.ensures.1
    (λ before same now told. c.in_err-found.ensures.sound (with_groups before c.relatives.new.self) refl (same_view before same now c.relatives.ensures.only c.relatives.ensures.session.sizes))

pub returns-in-Some-2-clause-only : goal.returns-in-Some-2-clause-only
returns-in-Some-2-clause-only g c = frames_twice c.relatives.ensures.only c.find_version.ensures.only

pub returns-in-Some-2-clause-alone : goal.returns-in-Some-2-clause-alone
returns-in-Some-2-clause-alone g c = λ before same now told.
    let derived = is_derived c.args.version.now.found.head.older (c.is_none.ensures ∙ ap not c.if-is_none.false) in
    let first = c.in-Some.ensures.value ∙ ap (λ (l : List Oid). slice_get l 0) c.deref.ensures.value in
    let its = first_listed now c.args.version.now told derived c.in_ok-oids.oids.items (Some c.in-Some.older.now) (c.in_ok-oids.ensures.oids before same now told.version told.is) first in
    let later = with_groups before c.relatives.new.self in
    let found = c.in_ok-found.ensures.found later refl (same_view before same now c.relatives.ensures.only c.relatives.ensures.session.sizes) in
    c.is_some.ensures
    ∙ only_told now c.args.version.now told derived later refl c.in-Some.older.now (same_Some c.in-Some.older.now _ its) c.in-Some-2.found (subst (λ (o : Option Found). IsFound later c.in-Some.older.now o) c.in-Some-2.is found)

pub returns-clause-only : goal.returns-clause-only
returns-clause-only g c = frames_twice c.relatives.ensures.only c.find_version.ensures.only

pub returns-clause-alone : goal.returns-clause-alone
returns-clause-alone g c = λ before same now told.
    let derived = is_derived c.args.version.now.found.head.older (c.is_none.ensures ∙ ap not c.if-is_none.false) in
    let first = c.in-Some.ensures.value ∙ ap (λ (l : List Oid). slice_get l 0) c.deref.ensures.value in
    let its = first_listed now c.args.version.now told derived c.in_ok-oids.oids.items (Some c.in-Some.older.now) (c.in_ok-oids.ensures.oids before same now told.version told.is) first in
    let later = with_groups before c.relatives.new.self in
    let found = c.in_ok-found.ensures.found later refl (same_view before same now c.relatives.ensures.only c.relatives.ensures.session.sizes) in
    absurd (never_missing now c.args.version.now told derived later refl c.in-Some.older.now (same_Some c.in-Some.older.now _ its) (subst (λ (o : Option Found). IsFound later c.in-Some.older.now o) c.in-None.is found))

pub returns-in_err-found-clause-damage : goal.returns-in_err-found-clause-damage
returns-in_err-found-clause-damage g c =
    let own = version_for c.args.version.now.oid ToRelate in
    let mid = g.H.World.outside c.relatives.new.disk in
    let b = g.H.World.outside c.find_version.new.disk in
    if_err_handed c.from_residual-in_err-found.result _ _ c.from_residual-in_err-found.ensures.1
    (later_for c.args.session.now c.relatives.new.self c.relatives.ensures.only b own _ (none_for mid b c.relatives.new.self own _ c.in_err-found.ensures.damage))

pub returns-then-is_none-clause-only : goal.returns-then-is_none-clause-only
returns-then-is_none-clause-only g c = nothing_changed _ _

pub find_version-requires : goal.find_version-requires
find_version-requires g c = record { room = has_room c.relatives.ensures.only c.requires.room }
