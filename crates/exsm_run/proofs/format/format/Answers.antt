use Rattle.std.proofs.Common.{◌∙◌, subst, sym, refl, ⊎_elim, inl, inr, ap}
use Rattle.disk_model.specs.Runs.{honest_on, rests_sent, goes_refl, goes_trans, reads_refl, writes_nothing_refl}
use Rattle.exsm_run.proofs.Making.{rose_since, laid_alone, read_so_far, laid_so_far, sent_alone, sent_so_far, unwritten, has_room, lacks_room, magic_read, no_less, no_magic, cut_as, memory_no_disk, output_no_done, sent_as, small_no_volume}
use Rattle.session_core.proofs.Sessions.{if_error}
use Rattle.command_line.specs.Status.{IsRefusal}
use Rattle.exsm_run.specs.Format.{format_line}
use Rattle.exsm_run.specs.Script.{IsOpeningStatus}
use Rattle.exsm_run.proofs.format.format.Goals as goal
use Rattle.ex_base.proofs.Results.{if_no_error}

pub returns-then-is_err-clause-any_moment : goal.returns-then-is_err-clause-any_moment
returns-then-is_err-clause-any_moment g c d was rests without sent =
    read_so_far c.args.geometry.now was (g.H.World.is_world c.args.host.now) d rests without sent c.read_first.ensures.only

pub returns-then-has_magic-clause-any_moment : goal.returns-then-has_magic-clause-any_moment
returns-then-has_magic-clause-any_moment g c d was rests without sent =
    read_so_far c.args.geometry.now was (g.H.World.is_world c.args.host.now) d rests without sent c.read_first.ensures.only

pub returns-in_default-clause-any_moment : goal.returns-in_default-clause-any_moment
returns-in_default-clause-any_moment g c d was rests without sent =
    read_so_far c.args.geometry.now was (g.H.World.is_world c.args.host.now) d rests without sent c.read_first.ensures.only

pub returns-in_default-catalog_of-clause-any_moment : goal.returns-in_default-catalog_of-clause-any_moment
returns-in_default-catalog_of-clause-any_moment g c d was rests without sent =
    read_so_far c.args.geometry.now was (g.H.World.is_world c.args.host.now) d rests without sent c.read_first.ensures.only

pub returns-in_default-line_of-clause-any_moment : goal.returns-in_default-line_of-clause-any_moment
returns-in_default-line_of-clause-any_moment g c d was rests without sent =
    read_so_far c.args.geometry.now was (g.H.World.is_world c.args.host.now) d rests without sent c.read_first.ensures.only

pub returns-then-is_err-2-clause-any_moment : goal.returns-then-is_err-2-clause-any_moment
returns-then-is_err-2-clause-any_moment g c d was rests without sent =
    laid_so_far c.args.geometry.now was (g.H.World.is_world c.args.host.now) d rests without sent c.read_first.ensures.only c.laid_out.ensures.changes.only (λ here. c.laid_out.ensures.any_moment d here without)

pub returns-then-is_err-3-clause-any_moment : goal.returns-then-is_err-3-clause-any_moment
returns-then-is_err-3-clause-any_moment g c d was rests without sent =
    let geo = c.args.geometry.now in
    let so_far = laid_so_far geo was (g.H.World.is_world c.args.host.now) d rests without sent c.read_first.ensures.only c.laid_out.ensures.changes.only (λ here. c.laid_out.ensures.any_moment d here without) in
    let made = if_no_error c.laid_out.result (sym c.is_err-2.ensures.value ∙ c.if-is_err-2.false) c.laid_out.ensures.formatted (honest_on c.read_first.ensures.only.nothing.only.goes rests.honest) d (c.read_first.ensures.only.nothing.disk ∙ rests.holds) in
    sent_so_far geo was so_far sent made c.send_all.ensures.only

pub returns-clause-formatted : goal.returns-clause-formatted
returns-clause-formatted g c same honest d holds =
    let made = if_no_error c.laid_out.result (sym c.is_err-2.ensures.value ∙ c.if-is_err-2.false) c.laid_out.ensures.formatted (honest_on c.read_first.ensures.only.nothing.only.goes honest) d (c.read_first.ensures.only.nothing.disk ∙ holds) in
    record { disk = made.disk; rests = rests_sent made.disk made.rests c.send_all.ensures.only; empty = made.empty }

pub returns-clause-any_moment : goal.returns-clause-any_moment
returns-clause-any_moment g c d was rests without sent =
    let geo = c.args.geometry.now in
    let so_far = laid_so_far geo was (g.H.World.is_world c.args.host.now) d rests without sent c.read_first.ensures.only c.laid_out.ensures.changes.only (λ here. c.laid_out.ensures.any_moment d here without) in
    let made = if_no_error c.laid_out.result (sym c.is_err-2.ensures.value ∙ c.if-is_err-2.false) c.laid_out.ensures.formatted (honest_on c.read_first.ensures.only.nothing.only.goes rests.honest) d (c.read_first.ensures.only.nothing.disk ∙ rests.holds) in
    sent_so_far geo was so_far sent made c.send_all.ensures.only

-- ---- what is written

pub returns-then-is_err-clause-writes : goal.returns-then-is_err-clause-writes
returns-then-is_err-clause-writes g c honest d holds = unwritten c.args.geometry.now c.read_first.ensures.only.nothing d holds

pub returns-then-has_magic-clause-writes : goal.returns-then-has_magic-clause-writes
returns-then-has_magic-clause-writes g c honest d holds = unwritten c.args.geometry.now c.read_first.ensures.only.nothing d holds

pub returns-in_default-clause-writes : goal.returns-in_default-clause-writes
returns-in_default-clause-writes g c honest d holds = unwritten c.args.geometry.now c.read_first.ensures.only.nothing d holds

pub returns-in_default-catalog_of-clause-writes : goal.returns-in_default-catalog_of-clause-writes
returns-in_default-catalog_of-clause-writes g c honest d holds = unwritten c.args.geometry.now c.read_first.ensures.only.nothing d holds

pub returns-in_default-line_of-clause-writes : goal.returns-in_default-line_of-clause-writes
returns-in_default-line_of-clause-writes g c honest d holds = unwritten c.args.geometry.now c.read_first.ensures.only.nothing d holds

pub returns-then-is_err-2-clause-writes : goal.returns-then-is_err-2-clause-writes
returns-then-is_err-2-clause-writes g c honest d holds = laid_alone c.args.geometry.now c.read_first.ensures.only c.laid_out.ensures.changes honest d holds

pub returns-then-is_err-3-clause-writes : goal.returns-then-is_err-3-clause-writes
returns-then-is_err-3-clause-writes g c honest d holds =
    sent_alone c.args.geometry.now d (laid_alone c.args.geometry.now c.read_first.ensures.only c.laid_out.ensures.changes honest d holds) c.send_all.ensures.only

pub returns-clause-writes : goal.returns-clause-writes
returns-clause-writes g c honest d holds =
    sent_alone c.args.geometry.now d (laid_alone c.args.geometry.now c.read_first.ensures.only c.laid_out.ensures.changes honest d holds) c.send_all.ensures.only

-- ---- what else is promised

pub returns-then-have-need-clause-goes : goal.returns-then-have-need-clause-goes
returns-then-have-need-clause-goes g c = goes_refl (g.H.World.outside c.args.host.now)

pub returns-then-have-need-clause-one_of : goal.returns-then-have-need-clause-one_of
returns-then-have-need-clause-one_of g c = tt

pub returns-then-have-need-clause-small : goal.returns-then-have-need-clause-small
returns-then-have-need-clause-small g c less = cc (c.size-have.ensures, c.volume_bytes-need.ensures)

pub returns-then-have-need-clause-too_small : goal.returns-then-have-need-clause-too_small
returns-then-have-need-clause-too_small g c have need is = (lacks_room c.size-have.ensures c.volume_bytes-need.ensures c.if-have-need.true)

pub returns-then-have-need-clause-volume : goal.returns-then-have-need-clause-volume
returns-then-have-need-clause-volume g c room d holds has =
    absurd (no_less room (lacks_room c.size-have.ensures c.volume_bytes-need.ensures c.if-have-need.true))

pub returns-then-have-need-clause-large : goal.returns-then-have-need-clause-large
returns-then-have-need-clause-large g c is = absurd (small_no_volume is)

pub returns-then-have-need-clause-magic : goal.returns-then-have-need-clause-magic
returns-then-have-need-clause-magic g c is d holds = absurd (small_no_volume is)

pub returns-then-have-need-clause-refused : goal.returns-then-have-need-clause-refused
returns-then-have-need-clause-refused g c refused = reads_refl (g.H.World.outside c.args.host.now)

pub returns-then-have-need-clause-keeps : goal.returns-then-have-need-clause-keeps
returns-then-have-need-clause-keeps g c d holds which = reads_refl (g.H.World.outside c.args.host.now)

pub returns-then-have-need-clause-disk : goal.returns-then-have-need-clause-disk
returns-then-have-need-clause-disk g c is = absurd (subst IsRefusal is tt)

pub returns-then-have-need-clause-output : goal.returns-then-have-need-clause-output
returns-then-have-need-clause-output g c is = absurd (subst IsRefusal is tt)

pub returns-then-have-need-clause-line : goal.returns-then-have-need-clause-line
returns-then-have-need-clause-line g c is was sent = absurd (subst IsRefusal is tt)

pub returns-then-have-need-clause-front : goal.returns-then-have-need-clause-front
returns-then-have-need-clause-front g c is was sent = absurd (subst IsRefusal is tt)

pub returns-then-have-need-clause-nothing : goal.returns-then-have-need-clause-nothing
returns-then-have-need-clause-nothing g c done output = refl

pub returns-then-have-need-clause-left : goal.returns-then-have-need-clause-left
returns-then-have-need-clause-left g c = refl

pub returns-then-have-need-clause-formatted : goal.returns-then-have-need-clause-formatted
returns-then-have-need-clause-formatted g c is honest d holds = absurd (subst IsRefusal is tt)

pub returns-then-have-need-clause-writes : goal.returns-then-have-need-clause-writes
returns-then-have-need-clause-writes g c honest d holds =
    unwritten c.args.geometry.now (writes_nothing_refl (g.H.World.outside c.args.host.now)) d holds

pub returns-then-have-need-clause-any_moment : goal.returns-then-have-need-clause-any_moment
returns-then-have-need-clause-any_moment g c d was rests without sent =
    read_so_far c.args.geometry.now was (g.H.World.is_world c.args.host.now) d rests without sent (reads_refl (g.H.World.outside c.args.host.now))

pub returns-then-is_err-clause-goes : goal.returns-then-is_err-clause-goes
returns-then-is_err-clause-goes g c = c.read_first.ensures.only.nothing.only.goes

pub returns-then-is_err-clause-one_of : goal.returns-then-is_err-clause-one_of
returns-then-is_err-clause-one_of g c = tt

pub returns-then-is_err-clause-small : goal.returns-then-is_err-clause-small
returns-then-is_err-clause-small g c less = absurd (no_less (has_room c.size-have.ensures c.volume_bytes-need.ensures c.if-have-need.false) less)

pub returns-then-is_err-clause-too_small : goal.returns-then-is_err-clause-too_small
returns-then-is_err-clause-too_small g c have need is = absurd (subst IsRefusal (sym is) tt)

pub returns-then-is_err-clause-volume : goal.returns-then-is_err-clause-volume
returns-then-is_err-clause-volume g c room d holds has = inr refl

pub returns-then-is_err-clause-large : goal.returns-then-is_err-clause-large
returns-then-is_err-clause-large g c is = absurd (subst IsRefusal (sym is) tt)

pub returns-then-is_err-clause-magic : goal.returns-then-is_err-clause-magic
returns-then-is_err-clause-magic g c is d holds = absurd (subst IsRefusal (sym is) tt)

pub returns-then-is_err-clause-refused : goal.returns-then-is_err-clause-refused
returns-then-is_err-clause-refused g c refused = absurd refused

pub returns-then-is_err-clause-keeps : goal.returns-then-is_err-clause-keeps
returns-then-is_err-clause-keeps g c d holds which = c.read_first.ensures.only

pub returns-then-is_err-clause-disk : goal.returns-then-is_err-clause-disk
returns-then-is_err-clause-disk g c is = if_error c.read_first.result (sym c.is_err.ensures.value ∙ c.if-is_err.true) c.read_first.ensures.cause

pub returns-then-is_err-clause-output : goal.returns-then-is_err-clause-output
returns-then-is_err-clause-output g c is = absurd (subst IsOpeningStatus is tt)

pub returns-then-is_err-clause-line : goal.returns-then-is_err-clause-line
returns-then-is_err-clause-line g c is was sent = absurd (subst IsOpeningStatus is tt)

pub returns-then-is_err-clause-front : goal.returns-then-is_err-clause-front
returns-then-is_err-clause-front g c is was sent = absurd (subst IsOpeningStatus is tt)

pub returns-then-is_err-clause-nothing : goal.returns-then-is_err-clause-nothing
returns-then-is_err-clause-nothing g c done output = c.read_first.ensures.only.nothing.only.sent

pub returns-then-is_err-clause-left : goal.returns-then-is_err-clause-left
returns-then-is_err-clause-left g c = c.read_first.ensures.only.nothing.only.left

pub returns-then-is_err-clause-formatted : goal.returns-then-is_err-clause-formatted
returns-then-is_err-clause-formatted g c is honest d holds = absurd (subst IsOpeningStatus is tt)

pub returns-then-has_magic-clause-goes : goal.returns-then-has_magic-clause-goes
returns-then-has_magic-clause-goes g c = c.read_first.ensures.only.nothing.only.goes

pub returns-then-has_magic-clause-one_of : goal.returns-then-has_magic-clause-one_of
returns-then-has_magic-clause-one_of g c = tt

pub returns-then-has_magic-clause-small : goal.returns-then-has_magic-clause-small
returns-then-has_magic-clause-small g c less = absurd (no_less (has_room c.size-have.ensures c.volume_bytes-need.ensures c.if-have-need.false) less)

pub returns-then-has_magic-clause-too_small : goal.returns-then-has_magic-clause-too_small
returns-then-has_magic-clause-too_small g c have need is = absurd (small_no_volume (sym is))

pub returns-then-has_magic-clause-volume : goal.returns-then-has_magic-clause-volume
returns-then-has_magic-clause-volume g c room d holds has = inl refl

pub returns-then-has_magic-clause-large : goal.returns-then-has_magic-clause-large
returns-then-has_magic-clause-large g c is = (has_room c.size-have.ensures c.volume_bytes-need.ensures c.if-have-need.false)

pub returns-then-has_magic-clause-magic : goal.returns-then-has_magic-clause-magic
returns-then-has_magic-clause-magic g c is d holds =
    (magic_read _ d (if_no_error c.read_first.result (sym c.is_err.ensures.value ∙ c.if-is_err.false) c.read_first.ensures.bytes d holds)).0 (c.has_magic.ensures.0 c.if-has_magic.true)

pub returns-then-has_magic-clause-refused : goal.returns-then-has_magic-clause-refused
returns-then-has_magic-clause-refused g c refused = c.read_first.ensures.only

pub returns-then-has_magic-clause-keeps : goal.returns-then-has_magic-clause-keeps
returns-then-has_magic-clause-keeps g c d holds which = c.read_first.ensures.only

pub returns-then-has_magic-clause-disk : goal.returns-then-has_magic-clause-disk
returns-then-has_magic-clause-disk g c is = absurd (subst IsRefusal is tt)

pub returns-then-has_magic-clause-output : goal.returns-then-has_magic-clause-output
returns-then-has_magic-clause-output g c is = absurd (subst IsRefusal is tt)

pub returns-then-has_magic-clause-line : goal.returns-then-has_magic-clause-line
returns-then-has_magic-clause-line g c is was sent = absurd (subst IsRefusal is tt)

pub returns-then-has_magic-clause-front : goal.returns-then-has_magic-clause-front
returns-then-has_magic-clause-front g c is was sent = absurd (subst IsRefusal is tt)

pub returns-then-has_magic-clause-nothing : goal.returns-then-has_magic-clause-nothing
returns-then-has_magic-clause-nothing g c done output = c.read_first.ensures.only.nothing.only.sent

pub returns-then-has_magic-clause-left : goal.returns-then-has_magic-clause-left
returns-then-has_magic-clause-left g c = c.read_first.ensures.only.nothing.only.left

pub returns-then-has_magic-clause-formatted : goal.returns-then-has_magic-clause-formatted
returns-then-has_magic-clause-formatted g c is honest d holds = absurd (subst IsRefusal is tt)

pub returns-in_default-clause-goes : goal.returns-in_default-clause-goes
returns-in_default-clause-goes g c = c.read_first.ensures.only.nothing.only.goes

pub returns-in_default-clause-one_of : goal.returns-in_default-clause-one_of
returns-in_default-clause-one_of g c = tt

pub returns-in_default-clause-small : goal.returns-in_default-clause-small
returns-in_default-clause-small g c less = absurd (no_less (has_room c.size-have.ensures c.volume_bytes-need.ensures c.if-have-need.false) less)

pub returns-in_default-clause-too_small : goal.returns-in_default-clause-too_small
returns-in_default-clause-too_small g c have need is = absurd (subst IsRefusal (sym is) tt)

pub returns-in_default-clause-volume : goal.returns-in_default-clause-volume
returns-in_default-clause-volume g c room d holds has =
    absurd ((no_magic _ _ c.has_magic.ensures c.if-has_magic.false (magic_read _ d (if_no_error c.read_first.result (sym c.is_err.ensures.value ∙ c.if-is_err.false) c.read_first.ensures.bytes d holds))) has)

pub returns-in_default-clause-large : goal.returns-in_default-clause-large
returns-in_default-clause-large g c is = absurd (subst IsRefusal (sym is) tt)

pub returns-in_default-clause-magic : goal.returns-in_default-clause-magic
returns-in_default-clause-magic g c is d holds = absurd (subst IsRefusal (sym is) tt)

pub returns-in_default-clause-refused : goal.returns-in_default-clause-refused
returns-in_default-clause-refused g c refused = absurd refused

pub returns-in_default-clause-keeps : goal.returns-in_default-clause-keeps
returns-in_default-clause-keeps g c d holds which = c.read_first.ensures.only

pub returns-in_default-clause-disk : goal.returns-in_default-clause-disk
returns-in_default-clause-disk g c is = absurd (memory_no_disk is)

pub returns-in_default-clause-output : goal.returns-in_default-clause-output
returns-in_default-clause-output g c is = absurd (subst IsOpeningStatus is tt)

pub returns-in_default-clause-line : goal.returns-in_default-clause-line
returns-in_default-clause-line g c is was sent = absurd (subst IsOpeningStatus is tt)

pub returns-in_default-clause-front : goal.returns-in_default-clause-front
returns-in_default-clause-front g c is was sent = absurd (subst IsOpeningStatus is tt)

pub returns-in_default-clause-nothing : goal.returns-in_default-clause-nothing
returns-in_default-clause-nothing g c done output = c.read_first.ensures.only.nothing.only.sent

pub returns-in_default-clause-left : goal.returns-in_default-clause-left
returns-in_default-clause-left g c = c.read_first.ensures.only.nothing.only.left

pub returns-in_default-clause-formatted : goal.returns-in_default-clause-formatted
returns-in_default-clause-formatted g c is honest d holds = absurd (subst IsOpeningStatus is tt)

pub returns-in_default-catalog_of-clause-goes : goal.returns-in_default-catalog_of-clause-goes
returns-in_default-catalog_of-clause-goes g c = c.read_first.ensures.only.nothing.only.goes

pub returns-in_default-catalog_of-clause-one_of : goal.returns-in_default-catalog_of-clause-one_of
returns-in_default-catalog_of-clause-one_of g c = tt

pub returns-in_default-catalog_of-clause-small : goal.returns-in_default-catalog_of-clause-small
returns-in_default-catalog_of-clause-small g c less =
    absurd (no_less (has_room c.size-have.ensures c.volume_bytes-need.ensures c.if-have-need.false) less)

pub returns-in_default-catalog_of-clause-too_small : goal.returns-in_default-catalog_of-clause-too_small
returns-in_default-catalog_of-clause-too_small g c have need is = absurd (subst IsRefusal (sym is) tt)

pub returns-in_default-catalog_of-clause-volume : goal.returns-in_default-catalog_of-clause-volume
returns-in_default-catalog_of-clause-volume g c room d holds has =
    absurd ((no_magic _ _ c.has_magic.ensures c.if-has_magic.false (magic_read _ d (if_no_error c.read_first.result (sym c.is_err.ensures.value ∙ c.if-is_err.false) c.read_first.ensures.bytes d holds))) has)

pub returns-in_default-catalog_of-clause-large : goal.returns-in_default-catalog_of-clause-large
returns-in_default-catalog_of-clause-large g c is = absurd (subst IsRefusal (sym is) tt)

pub returns-in_default-catalog_of-clause-magic : goal.returns-in_default-catalog_of-clause-magic
returns-in_default-catalog_of-clause-magic g c is d holds = absurd (subst IsRefusal (sym is) tt)

pub returns-in_default-catalog_of-clause-refused : goal.returns-in_default-catalog_of-clause-refused
returns-in_default-catalog_of-clause-refused g c refused = absurd refused

pub returns-in_default-catalog_of-clause-keeps : goal.returns-in_default-catalog_of-clause-keeps
returns-in_default-catalog_of-clause-keeps g c d holds which = c.read_first.ensures.only

pub returns-in_default-catalog_of-clause-disk : goal.returns-in_default-catalog_of-clause-disk
returns-in_default-catalog_of-clause-disk g c is = absurd (memory_no_disk is)

pub returns-in_default-catalog_of-clause-output : goal.returns-in_default-catalog_of-clause-output
returns-in_default-catalog_of-clause-output g c is = absurd (subst IsOpeningStatus is tt)

pub returns-in_default-catalog_of-clause-line : goal.returns-in_default-catalog_of-clause-line
returns-in_default-catalog_of-clause-line g c is was sent = absurd (subst IsOpeningStatus is tt)

pub returns-in_default-catalog_of-clause-front : goal.returns-in_default-catalog_of-clause-front
returns-in_default-catalog_of-clause-front g c is was sent = absurd (subst IsOpeningStatus is tt)

pub returns-in_default-catalog_of-clause-nothing : goal.returns-in_default-catalog_of-clause-nothing
returns-in_default-catalog_of-clause-nothing g c done output = c.read_first.ensures.only.nothing.only.sent

pub returns-in_default-catalog_of-clause-left : goal.returns-in_default-catalog_of-clause-left
returns-in_default-catalog_of-clause-left g c = c.read_first.ensures.only.nothing.only.left

pub returns-in_default-catalog_of-clause-formatted : goal.returns-in_default-catalog_of-clause-formatted
returns-in_default-catalog_of-clause-formatted g c is honest d holds = absurd (subst IsOpeningStatus is tt)

pub returns-in_default-line_of-clause-goes : goal.returns-in_default-line_of-clause-goes
returns-in_default-line_of-clause-goes g c = c.read_first.ensures.only.nothing.only.goes

pub returns-in_default-line_of-clause-one_of : goal.returns-in_default-line_of-clause-one_of
returns-in_default-line_of-clause-one_of g c = tt

pub returns-in_default-line_of-clause-small : goal.returns-in_default-line_of-clause-small
returns-in_default-line_of-clause-small g c less =
    absurd (no_less (has_room c.size-have.ensures c.volume_bytes-need.ensures c.if-have-need.false) less)

pub returns-in_default-line_of-clause-too_small : goal.returns-in_default-line_of-clause-too_small
returns-in_default-line_of-clause-too_small g c have need is = absurd (subst IsRefusal (sym is) tt)

pub returns-in_default-line_of-clause-volume : goal.returns-in_default-line_of-clause-volume
returns-in_default-line_of-clause-volume g c room d holds has =
    absurd ((no_magic _ _ c.has_magic.ensures c.if-has_magic.false (magic_read _ d (if_no_error c.read_first.result (sym c.is_err.ensures.value ∙ c.if-is_err.false) c.read_first.ensures.bytes d holds))) has)

pub returns-in_default-line_of-clause-large : goal.returns-in_default-line_of-clause-large
returns-in_default-line_of-clause-large g c is = absurd (subst IsRefusal (sym is) tt)

pub returns-in_default-line_of-clause-magic : goal.returns-in_default-line_of-clause-magic
returns-in_default-line_of-clause-magic g c is d holds = absurd (subst IsRefusal (sym is) tt)

pub returns-in_default-line_of-clause-refused : goal.returns-in_default-line_of-clause-refused
returns-in_default-line_of-clause-refused g c refused = absurd refused

pub returns-in_default-line_of-clause-keeps : goal.returns-in_default-line_of-clause-keeps
returns-in_default-line_of-clause-keeps g c d holds which = c.read_first.ensures.only

pub returns-in_default-line_of-clause-disk : goal.returns-in_default-line_of-clause-disk
returns-in_default-line_of-clause-disk g c is = absurd (memory_no_disk is)

pub returns-in_default-line_of-clause-output : goal.returns-in_default-line_of-clause-output
returns-in_default-line_of-clause-output g c is = absurd (subst IsOpeningStatus is tt)

pub returns-in_default-line_of-clause-line : goal.returns-in_default-line_of-clause-line
returns-in_default-line_of-clause-line g c is was sent = absurd (subst IsOpeningStatus is tt)

pub returns-in_default-line_of-clause-front : goal.returns-in_default-line_of-clause-front
returns-in_default-line_of-clause-front g c is was sent = absurd (subst IsOpeningStatus is tt)

pub returns-in_default-line_of-clause-nothing : goal.returns-in_default-line_of-clause-nothing
returns-in_default-line_of-clause-nothing g c done output = c.read_first.ensures.only.nothing.only.sent

pub returns-in_default-line_of-clause-left : goal.returns-in_default-line_of-clause-left
returns-in_default-line_of-clause-left g c = c.read_first.ensures.only.nothing.only.left

pub returns-in_default-line_of-clause-formatted : goal.returns-in_default-line_of-clause-formatted
returns-in_default-line_of-clause-formatted g c is honest d holds = absurd (subst IsOpeningStatus is tt)

pub returns-then-is_err-2-clause-goes : goal.returns-then-is_err-2-clause-goes
returns-then-is_err-2-clause-goes g c = goes_trans c.read_first.ensures.only.nothing.only.goes c.laid_out.ensures.changes.only.goes

pub returns-then-is_err-2-clause-one_of : goal.returns-then-is_err-2-clause-one_of
returns-then-is_err-2-clause-one_of g c = tt

pub returns-then-is_err-2-clause-small : goal.returns-then-is_err-2-clause-small
returns-then-is_err-2-clause-small g c less = absurd (no_less (has_room c.size-have.ensures c.volume_bytes-need.ensures c.if-have-need.false) less)

pub returns-then-is_err-2-clause-too_small : goal.returns-then-is_err-2-clause-too_small
returns-then-is_err-2-clause-too_small g c have need is = absurd (subst IsRefusal (sym is) tt)

pub returns-then-is_err-2-clause-volume : goal.returns-then-is_err-2-clause-volume
returns-then-is_err-2-clause-volume g c room d holds has =
    absurd ((no_magic _ _ c.has_magic.ensures c.if-has_magic.false (magic_read _ d (if_no_error c.read_first.result (sym c.is_err.ensures.value ∙ c.if-is_err.false) c.read_first.ensures.bytes d holds))) has)

pub returns-then-is_err-2-clause-large : goal.returns-then-is_err-2-clause-large
returns-then-is_err-2-clause-large g c is = absurd (subst IsRefusal (sym is) tt)

pub returns-then-is_err-2-clause-magic : goal.returns-then-is_err-2-clause-magic
returns-then-is_err-2-clause-magic g c is d holds = absurd (subst IsRefusal (sym is) tt)

pub returns-then-is_err-2-clause-refused : goal.returns-then-is_err-2-clause-refused
returns-then-is_err-2-clause-refused g c refused = absurd refused

pub returns-then-is_err-2-clause-keeps : goal.returns-then-is_err-2-clause-keeps
returns-then-is_err-2-clause-keeps g c d holds which =
    ⊎_elim (λ has. absurd ((no_magic _ _ c.has_magic.ensures c.if-has_magic.false (magic_read _ d (if_no_error c.read_first.result (sym c.is_err.ensures.value ∙ c.if-is_err.false) c.read_first.ensures.bytes d holds))) has)) (λ less. absurd (no_less (has_room c.size-have.ensures c.volume_bytes-need.ensures c.if-have-need.false) less)) which

pub returns-then-is_err-2-clause-disk : goal.returns-then-is_err-2-clause-disk
returns-then-is_err-2-clause-disk g c is =
    rose_since _ _ _ c.read_first.ensures.only.nothing.only.goes.disk_faults (if_error c.laid_out.result (sym c.is_err-2.ensures.value ∙ c.if-is_err-2.true) c.laid_out.ensures.cause)

pub returns-then-is_err-2-clause-output : goal.returns-then-is_err-2-clause-output
returns-then-is_err-2-clause-output g c is = absurd (subst IsOpeningStatus is tt)

pub returns-then-is_err-2-clause-line : goal.returns-then-is_err-2-clause-line
returns-then-is_err-2-clause-line g c is was sent = absurd (subst IsOpeningStatus is tt)

pub returns-then-is_err-2-clause-front : goal.returns-then-is_err-2-clause-front
returns-then-is_err-2-clause-front g c is was sent = absurd (subst IsOpeningStatus is tt)

pub returns-then-is_err-2-clause-nothing : goal.returns-then-is_err-2-clause-nothing
returns-then-is_err-2-clause-nothing g c done output = c.laid_out.ensures.changes.only.sent ∙ c.read_first.ensures.only.nothing.only.sent

pub returns-then-is_err-2-clause-left : goal.returns-then-is_err-2-clause-left
returns-then-is_err-2-clause-left g c = c.laid_out.ensures.changes.only.left ∙ c.read_first.ensures.only.nothing.only.left

pub returns-then-is_err-2-clause-formatted : goal.returns-then-is_err-2-clause-formatted
returns-then-is_err-2-clause-formatted g c is honest d holds = absurd (subst IsOpeningStatus is tt)

pub returns-then-is_err-3-clause-goes : goal.returns-then-is_err-3-clause-goes
returns-then-is_err-3-clause-goes g c =
    goes_trans (goes_trans c.read_first.ensures.only.nothing.only.goes c.laid_out.ensures.changes.only.goes) c.send_all.ensures.only.goes

pub returns-then-is_err-3-clause-one_of : goal.returns-then-is_err-3-clause-one_of
returns-then-is_err-3-clause-one_of g c = tt

pub returns-then-is_err-3-clause-small : goal.returns-then-is_err-3-clause-small
returns-then-is_err-3-clause-small g c less = absurd (no_less (has_room c.size-have.ensures c.volume_bytes-need.ensures c.if-have-need.false) less)

pub returns-then-is_err-3-clause-too_small : goal.returns-then-is_err-3-clause-too_small
returns-then-is_err-3-clause-too_small g c have need is = absurd (subst IsRefusal (sym is) tt)

pub returns-then-is_err-3-clause-volume : goal.returns-then-is_err-3-clause-volume
returns-then-is_err-3-clause-volume g c room d holds has =
    absurd ((no_magic _ _ c.has_magic.ensures c.if-has_magic.false (magic_read _ d (if_no_error c.read_first.result (sym c.is_err.ensures.value ∙ c.if-is_err.false) c.read_first.ensures.bytes d holds))) has)

pub returns-then-is_err-3-clause-large : goal.returns-then-is_err-3-clause-large
returns-then-is_err-3-clause-large g c is = absurd (subst IsRefusal (sym is) tt)

pub returns-then-is_err-3-clause-magic : goal.returns-then-is_err-3-clause-magic
returns-then-is_err-3-clause-magic g c is d holds = absurd (subst IsRefusal (sym is) tt)

pub returns-then-is_err-3-clause-refused : goal.returns-then-is_err-3-clause-refused
returns-then-is_err-3-clause-refused g c refused = absurd refused

pub returns-then-is_err-3-clause-keeps : goal.returns-then-is_err-3-clause-keeps
returns-then-is_err-3-clause-keeps g c d holds which =
    ⊎_elim (λ has. absurd ((no_magic _ _ c.has_magic.ensures c.if-has_magic.false (magic_read _ d (if_no_error c.read_first.result (sym c.is_err.ensures.value ∙ c.if-is_err.false) c.read_first.ensures.bytes d holds))) has)) (λ less. absurd (no_less (has_room c.size-have.ensures c.volume_bytes-need.ensures c.if-have-need.false) less)) which

pub returns-then-is_err-3-clause-disk : goal.returns-then-is_err-3-clause-disk
returns-then-is_err-3-clause-disk g c is = absurd (subst IsOpeningStatus (sym is) tt)

pub returns-then-is_err-3-clause-output : goal.returns-then-is_err-3-clause-output
returns-then-is_err-3-clause-output g c is =
    rose_since _ _ _ (goes_trans c.read_first.ensures.only.nothing.only.goes c.laid_out.ensures.changes.only.goes).write_faults (if_error c.send_all.result (sym c.is_err-3.ensures.value ∙ c.if-is_err-3.true) c.send_all.ensures.cause)

pub returns-then-is_err-3-clause-line : goal.returns-then-is_err-3-clause-line
returns-then-is_err-3-clause-line g c is was sent = absurd (output_no_done is)

pub returns-then-is_err-3-clause-front : goal.returns-then-is_err-3-clause-front
returns-then-is_err-3-clause-front g c is was sent =
    cut_as (g.H.World.outside c.send_all.new.sink) was c.as_bytes.result.now _ (c.as_bytes.ensures.value ∙ c.in-Ok-line_of.ensures ∙ ap format_line c.volume_bytes-need.ensures) (if_error c.send_all.result (sym c.is_err-3.ensures.value ∙ c.if-is_err-3.true) c.send_all.ensures.failed was (c.laid_out.ensures.changes.only.sent ∙ (c.read_first.ensures.only.nothing.only.sent ∙ sent)))

pub returns-then-is_err-3-clause-nothing : goal.returns-then-is_err-3-clause-nothing
returns-then-is_err-3-clause-nothing g c done output = absurd (output refl)

pub returns-then-is_err-3-clause-left : goal.returns-then-is_err-3-clause-left
returns-then-is_err-3-clause-left g c = c.send_all.ensures.only.left ∙ (c.laid_out.ensures.changes.only.left ∙ c.read_first.ensures.only.nothing.only.left)

pub returns-then-is_err-3-clause-formatted : goal.returns-then-is_err-3-clause-formatted
returns-then-is_err-3-clause-formatted g c is honest d holds = absurd (output_no_done is)

pub returns-clause-goes : goal.returns-clause-goes
returns-clause-goes g c =
    goes_trans (goes_trans c.read_first.ensures.only.nothing.only.goes c.laid_out.ensures.changes.only.goes) c.send_all.ensures.only.goes

pub returns-clause-one_of : goal.returns-clause-one_of
returns-clause-one_of g c = tt

pub returns-clause-small : goal.returns-clause-small
returns-clause-small g c less = absurd (no_less (has_room c.size-have.ensures c.volume_bytes-need.ensures c.if-have-need.false) less)

pub returns-clause-too_small : goal.returns-clause-too_small
returns-clause-too_small g c have need is = absurd (subst IsRefusal (sym is) tt)

pub returns-clause-volume : goal.returns-clause-volume
returns-clause-volume g c room d holds has =
    absurd ((no_magic _ _ c.has_magic.ensures c.if-has_magic.false (magic_read _ d (if_no_error c.read_first.result (sym c.is_err.ensures.value ∙ c.if-is_err.false) c.read_first.ensures.bytes d holds))) has)

pub returns-clause-large : goal.returns-clause-large
returns-clause-large g c is = absurd (subst IsRefusal (sym is) tt)

pub returns-clause-magic : goal.returns-clause-magic
returns-clause-magic g c is d holds = absurd (subst IsRefusal (sym is) tt)

pub returns-clause-refused : goal.returns-clause-refused
returns-clause-refused g c refused = absurd refused

pub returns-clause-keeps : goal.returns-clause-keeps
returns-clause-keeps g c d holds which =
    ⊎_elim (λ has. absurd ((no_magic _ _ c.has_magic.ensures c.if-has_magic.false (magic_read _ d (if_no_error c.read_first.result (sym c.is_err.ensures.value ∙ c.if-is_err.false) c.read_first.ensures.bytes d holds))) has)) (λ less. absurd (no_less (has_room c.size-have.ensures c.volume_bytes-need.ensures c.if-have-need.false) less)) which

pub returns-clause-disk : goal.returns-clause-disk
returns-clause-disk g c is = absurd (subst IsOpeningStatus (sym is) tt)

pub returns-clause-output : goal.returns-clause-output
returns-clause-output g c is = absurd (output_no_done (sym is))

pub returns-clause-line : goal.returns-clause-line
returns-clause-line g c is was sent =
    sent_as (g.H.World.outside c.send_all.new.sink) was c.as_bytes.result.now _ (c.as_bytes.ensures.value ∙ c.in-Ok-line_of.ensures ∙ ap format_line c.volume_bytes-need.ensures) (if_no_error c.send_all.result (sym c.is_err-3.ensures.value ∙ c.if-is_err-3.false) c.send_all.ensures.sent was (c.laid_out.ensures.changes.only.sent ∙ (c.read_first.ensures.only.nothing.only.sent ∙ sent)))

pub returns-clause-front : goal.returns-clause-front
returns-clause-front g c is was sent = absurd (output_no_done (sym is))

pub returns-clause-nothing : goal.returns-clause-nothing
returns-clause-nothing g c done output = absurd (done refl)

pub returns-clause-left : goal.returns-clause-left
returns-clause-left g c = c.send_all.ensures.only.left ∙ (c.laid_out.ensures.changes.only.left ∙ c.read_first.ensures.only.nothing.only.left)

-- ---- a fault of the disk is told

pub returns-then-have-need-clause-told : goal.returns-then-have-need-clause-told
returns-then-have-need-clause-told g c other = refl

pub returns-then-is_err-clause-told : goal.returns-then-is_err-clause-told
returns-then-is_err-clause-told g c other = absurd (other refl)

pub returns-then-has_magic-clause-told : goal.returns-then-has_magic-clause-told
returns-then-has_magic-clause-told g c other = if_no_error c.read_first.result (sym c.is_err.ensures.value ∙ c.if-is_err.false) c.read_first.ensures.told

pub returns-in_default-clause-told : goal.returns-in_default-clause-told
returns-in_default-clause-told g c other = if_no_error c.read_first.result (sym c.is_err.ensures.value ∙ c.if-is_err.false) c.read_first.ensures.told

pub returns-in_default-catalog_of-clause-told : goal.returns-in_default-catalog_of-clause-told
returns-in_default-catalog_of-clause-told g c other = if_no_error c.read_first.result (sym c.is_err.ensures.value ∙ c.if-is_err.false) c.read_first.ensures.told

pub returns-in_default-line_of-clause-told : goal.returns-in_default-line_of-clause-told
returns-in_default-line_of-clause-told g c other = if_no_error c.read_first.result (sym c.is_err.ensures.value ∙ c.if-is_err.false) c.read_first.ensures.told

pub returns-then-is_err-2-clause-told : goal.returns-then-is_err-2-clause-told
returns-then-is_err-2-clause-told g c other = absurd (other refl)

pub returns-then-is_err-3-clause-told : goal.returns-then-is_err-3-clause-told
returns-then-is_err-3-clause-told g c other = c.send_all.ensures.only.disk_faults ∙ if_no_error c.laid_out.result (sym c.is_err-2.ensures.value ∙ c.if-is_err-2.false) c.laid_out.ensures.told ∙ if_no_error c.read_first.result (sym c.is_err.ensures.value ∙ c.if-is_err.false) c.read_first.ensures.told

pub returns-clause-told : goal.returns-clause-told
returns-clause-told g c other = c.send_all.ensures.only.disk_faults ∙ if_no_error c.laid_out.result (sym c.is_err-2.ensures.value ∙ c.if-is_err-2.false) c.laid_out.ensures.told ∙ if_no_error c.read_first.result (sym c.is_err.ensures.value ∙ c.if-is_err.false) c.read_first.ensures.told
