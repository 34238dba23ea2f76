use Rattle.std.proofs.lemmas.Bool.{false≢true}
use Rattle.std.proofs.Common.{◌≡◌, ℕ, ◌+◌, ◌≤◌, length, true, false, ap, ◌∙◌, arith, subst, sym}
use Rattle.std.proofs.lemmas.Result.{IfErr-weaker, on_ok_weaker}
use Rattle.ex_base.specs.Bytes.{bytes_at}
use Rattle.ex_base.proofs.Options.{at_none, at_some}
use Rattle.versions.proofs.There.{found_one, there_any}
use Rattle.versions.specs.declared.finding.Found.{Found}
use Rattle.ex_base.proofs.Results.{if_err_handed}
use Rattle.object_records.specs.Record.{Large}
use Rattle.versions.specs.Versions.{place_of}
use Rattle.file_bodies.proofs.Belonging.{file_of_body}
use Rattle.versions.specs.Damage.{record_fault, finding, no_bytes, on_the_way}
use Rattle.versions.proofs.Faults.{root_at, tree_read_kept, way_kept}
use Rattle.versions.proofs.Results.{at_nothing, at_this, none_some, same_some, ok_of}
use Rattle.versions.proofs.Standing.{version_readable, version_whole, kept_holds, large_version}
use Rattle.ex_base.proofs.Handed.{not_given, cause_here, cause_of}
use Rattle.ex_base.proofs.Keeping.{keeps_on}
use Rattle.ex_base.specs.declared.geometry.Geometry.{Geometry}
use Rattle.trees.specs.Roots.{IsRootFor}
use Rattle.trees.specs.Damage.{IsRootReadFault}
use Rattle.versions.proofs.finding.read_at.Goals as goal

pub returns-in_err-found-clause-sound : goal.returns-in_err-found-clause-sound
returns-in_err-found-clause-sound g c = if_err_handed c.from_residual-in_err-found.result _ _ c.from_residual-in_err-found.ensures.1 (λ damage told index head content bytes has range. none_some c.in_ok-told.told _ c.in_err-found.ensures.fault.0 (c.in_ok-told.ensures.told told index _ has.stored))

pub returns-in_err-told-clause-sound : goal.returns-in_err-told-clause-sound
returns-in_err-told-clause-sound g c = if_err_handed c.from_residual.result _ _ c.from_residual.ensures.1 (λ damage told index head content bytes has range.
    c.in_err-told.ensures.sound damage told (file_of_body g.V.Ground c.args.volume.now index (place_of c.args.oid.now) has.stored.body has.stored.stands)
    (version_readable g.V.Ground c.args.volume.now index c.args.oid.now head content bytes has))

pub returns-in_err-check-clause-sound : goal.returns-in_err-check-clause-sound
returns-in_err-check-clause-sound g c = if_err_handed c.from_residual-in_err-check.result _ _ c.from_residual-in_err-check.ensures.1 (λ damage told index head content bytes has range.
    let size : c.in_ok-found.found.size ≡ length bytes = at_some c.in_ok-told.told c.in_ok-found.found _ c.in_ok-found.ensures.some (c.in_ok-told.ensures.size told index head content bytes has) in
    let yes : c.is_inside.result ≡ true = c.is_inside.ensures.1 (omega (arith, range, size)) in
    let isnt : c.is_inside.result ≡ false = c.in_err-check.ensures.fault.0 in
    false≢true (sym isnt ∙ yes))

pub returns-in-None-clause-bytes : goal.returns-in-None-clause-bytes
returns-in-None-clause-bytes g c = λ told index head content bytes has.
    let size : c.in_ok-found.found.size ≡ length bytes = at_some c.in_ok-told.told c.in_ok-found.found _ c.in_ok-found.ensures.some (c.in_ok-told.ensures.size told index head content bytes has) in
    let len : length c.find_reading.new.out ≡ length c.args.out.now = c.in_ok-told.ensures.len in
    let inside : c.args.pos + length c.args.out.now ≤ c.in_ok-found.found.size = omega (arith, len, c.is_inside.ensures.0 c.in_ok-check.ensures.holds) in
    (omega (arith, size, inside), at_some c.in_ok-told.told c.in_ok-found.found _ c.in_ok-found.ensures.some c.in_ok-told.ensures.bytes told c.in-None.is inside index head content bytes has)

pub returns-in-Some-clause-bytes : goal.returns-in-Some-clause-bytes
returns-in-Some-clause-bytes g c = on_ok_weaker c.read.result (λ b told index head content bytes has.
    let kept = c.find_reading.ensures.kept in
    let told_b = g.V.Ground.leads_told c.args.volume.now c.find_reading.new.volume kept.leads told in
    let f_is = same_some c.in_ok-told.told c.in_ok-found.found _ c.in_ok-found.ensures.some (c.in_ok-told.ensures.told told index _ has.stored) in
    let large = kept_holds g.V.Ground c.args.volume.now c.find_reading.new.volume index c.args.oid.now head (Large c.in-Some.root) bytes kept (large_version g.V.Ground c.args.volume.now index c.args.oid.now head content bytes c.in_ok-found.found c.in-Some.root f_is c.in-Some.is has) in
    let size : c.in_ok-found.found.size ≡ length bytes = at_some c.in_ok-told.told c.in_ok-found.found _ c.in_ok-found.ensures.some (c.in_ok-told.ensures.size told index head content bytes has) in
    let len : length c.find_reading.new.out ≡ length c.args.out.now = c.in_ok-told.ensures.len in
    (omega (arith, size, len, c.is_inside.ensures.0 c.in_ok-check.ensures.holds), b told_b bytes large.spells.0 ∙ ap (bytes_at bytes c.args.pos) len)) c.read.ensures.bytes

pub returns-in-Some-clause-sound : goal.returns-in-Some-clause-sound
returns-in-Some-clause-sound g c = IfErr-weaker c.read.result _ _ (λ fault never damage told index head content bytes has range.
    let kept = c.find_reading.ensures.kept in
    let told_b = g.V.Ground.leads_told c.args.volume.now c.find_reading.new.volume kept.leads told in
    let f_is = same_some c.in_ok-told.told c.in_ok-found.found _ c.in_ok-found.ensures.some (c.in_ok-told.ensures.told told index _ has.stored) in
    let large = kept_holds g.V.Ground c.args.volume.now c.find_reading.new.volume index c.args.oid.now head (Large c.in-Some.root) bytes kept (large_version g.V.Ground c.args.volume.now index c.args.oid.now head content bytes c.in_ok-found.found c.in-Some.root f_is c.in-Some.is has) in
    never told_b (version_whole g.V.Ground c.find_reading.new.volume index c.args.oid.now head c.in-Some.root bytes large) damage) c.read.ensures.sound

pub returns-in_err-told-clause-fault : goal.returns-in_err-told-clause-fault
returns-in_err-told-clause-fault g c = if_err_handed c.from_residual.result _ _ c.from_residual.ensures.1 (λ told. finding (c.in_err-told.ensures.fault told))

pub returns-in_err-found-clause-fault : goal.returns-in_err-found-clause-fault
returns-in_err-found-clause-fault g c = if_err_handed c.from_residual-in_err-found.result _ _ c.from_residual-in_err-found.ensures.1 (λ told. no_bytes
    (λ there. at_none c.in_ok-told.told _ c.in_err-found.ensures.fault.0 c.in_ok-told.ensures.none told (there_any _ _ _ _ there))
    (c.in_err-found.ensures.fault.1 ∙ ap record_fault c.place_of-place.ensures))

pub returns-in_err-check-clause-fault : goal.returns-in_err-check-clause-fault
returns-in_err-check-clause-fault g c = if_err_handed c.from_residual-in_err-check.result _ _ c.from_residual-in_err-check.ensures.1 (λ told. no_bytes
    (λ there.
    let at = at_some c.in_ok-told.told c.in_ok-found.found _ c.in_ok-found.ensures.some c.in_ok-told.ensures.reads told in
    let same : c.in_ok-found.found ≡ there.version.found = found_one _ _ _ _ _ at there.version.at in
    let len : length c.find_reading.new.out ≡ length c.args.out.now = c.in_ok-told.ensures.len in
    let yes : c.is_inside.result ≡ true = c.is_inside.ensures.1 (omega (arith, len, there.version.holds, ap (λ (f : Found). f.size) same)) in
    let isnt : c.is_inside.result ≡ false = c.in_err-check.ensures.fault.0 in
    false≢true (sym isnt ∙ yes))
    (c.in_err-check.ensures.fault.1 ∙ ap record_fault c.place_of-place.ensures))

pub returns-in-Some-clause-fault : goal.returns-in-Some-clause-fault
returns-in-Some-clause-fault g c = IfErr-weaker c.read.result _ _ (λ fault h told.
    let at = at_some c.in_ok-told.told c.in_ok-found.found _ c.in_ok-found.ensures.some c.in_ok-told.ensures.reads told in
    let len : length c.find_reading.new.out ≡ length c.args.out.now = c.in_ok-told.ensures.len in
    on_the_way c.in-Some.root (root_at (g.V.Ground.geometry c.args.volume.now) (g.V.Ground.image c.args.volume.now) c.args.oid.now c.in_ok-found.found c.in-Some.root at c.in-Some.is)
    (tree_read_kept g.V.Ground c.args.volume.now c.find_reading.new.volume c.find_reading.ensures.kept c.in-Some.root c.args.pos (length c.args.out.now) fault
    (λ told_b. subst (λ (n : ℕ). IsRootReadFault (g.V.Ground.geometry c.find_reading.new.volume) (g.V.Ground.unit c.find_reading.new.volume) c.in-Some.root c.args.pos n fault) len (h told_b)) told)) c.read.ensures.fault

-- ---- what was read

pub returns-in-None-clause-reads : goal.returns-in-None-clause-reads
returns-in-None-clause-reads g c = λ told.
    let len : length c.find_reading.new.out ≡ length c.args.out.now = c.in_ok-told.ensures.len in
    record {
      found = c.in_ok-found.found;
      at = at_some c.in_ok-told.told c.in_ok-found.found _ c.in_ok-found.ensures.some c.in_ok-told.ensures.reads told;
      holds = (omega (arith, len, c.is_inside.ensures.0 c.in_ok-check.ensures.holds), at_nothing c.in_ok-found.found.root _ c.in-None.is);
    }

pub returns-in-Some-clause-reads : goal.returns-in-Some-clause-reads
returns-in-Some-clause-reads g c = on_ok_weaker c.read.result (λ way told.
    let len : length c.find_reading.new.out ≡ length c.args.out.now = c.in_ok-told.ensures.len in
    record {
      found = c.in_ok-found.found;
      at = at_some c.in_ok-told.told c.in_ok-found.found _ c.in_ok-found.ensures.some c.in_ok-told.ensures.reads told;
      holds = (
        omega (arith, len, c.is_inside.ensures.0 c.in_ok-check.ensures.holds),
        at_this c.in_ok-found.found.root c.in-Some.root _ c.in-Some.is
            (λ byte low high. way_kept g.V.Ground c.args.volume.now c.find_reading.new.volume c.find_reading.ensures.kept c.args.pos (length c.find_reading.new.out) c.in-Some.root way told byte low (omega (arith, high, len))),
      );
    }) c.read.ensures.way

pub returns-in_err-told-clause-stands : goal.returns-in_err-told-clause-stands
returns-in_err-told-clause-stands g c = not_given c.from_residual.result _ c.in_err-told.field-0.0 c.from_residual.ensures.1

pub returns-in_err-told-clause-bytes : goal.returns-in_err-told-clause-bytes
returns-in_err-told-clause-bytes g c = not_given c.from_residual.result _ c.in_err-told.field-0.0 c.from_residual.ensures.1

pub returns-in_err-told-clause-reads : goal.returns-in_err-told-clause-reads
returns-in_err-told-clause-reads g c = not_given c.from_residual.result _ c.in_err-told.field-0.0 c.from_residual.ensures.1

pub returns-in_err-told-clause-kept : goal.returns-in_err-told-clause-kept
returns-in_err-told-clause-kept g c = c.find_reading.ensures.kept

pub returns-in_err-told-clause-cause : goal.returns-in_err-told-clause-cause
returns-in_err-told-clause-cause g c = cause_here (g.V.Ground.faults c.args.volume.now) (g.V.Ground.faults c.find_reading.new.volume) c.from_residual.result c.in_err-told.field-0.0 c.from_residual.ensures.1 c.in_err-told.ensures.cause

pub returns-in_err-found-clause-stands : goal.returns-in_err-found-clause-stands
returns-in_err-found-clause-stands g c = not_given c.from_residual-in_err-found.result _ c.in_err-found.field-0.0 c.from_residual-in_err-found.ensures.1

pub returns-in_err-found-clause-bytes : goal.returns-in_err-found-clause-bytes
returns-in_err-found-clause-bytes g c = not_given c.from_residual-in_err-found.result _ c.in_err-found.field-0.0 c.from_residual-in_err-found.ensures.1

pub returns-in_err-found-clause-reads : goal.returns-in_err-found-clause-reads
returns-in_err-found-clause-reads g c = not_given c.from_residual-in_err-found.result _ c.in_err-found.field-0.0 c.from_residual-in_err-found.ensures.1

pub returns-in_err-found-clause-kept : goal.returns-in_err-found-clause-kept
returns-in_err-found-clause-kept g c = c.find_reading.ensures.kept

pub returns-in_err-found-clause-cause : goal.returns-in_err-found-clause-cause
returns-in_err-found-clause-cause g c = cause_here (g.V.Ground.faults c.args.volume.now) (g.V.Ground.faults c.find_reading.new.volume) c.from_residual-in_err-found.result c.in_err-found.field-0.0 c.from_residual-in_err-found.ensures.1 (c.in_err-found.ensures.cause (g.V.Ground.faults c.args.volume.now) (g.V.Ground.faults c.find_reading.new.volume))

pub returns-in_err-check-clause-stands : goal.returns-in_err-check-clause-stands
returns-in_err-check-clause-stands g c = not_given c.from_residual-in_err-check.result _ c.in_err-check.field-0.0 c.from_residual-in_err-check.ensures.1

pub returns-in_err-check-clause-bytes : goal.returns-in_err-check-clause-bytes
returns-in_err-check-clause-bytes g c = not_given c.from_residual-in_err-check.result _ c.in_err-check.field-0.0 c.from_residual-in_err-check.ensures.1

pub returns-in_err-check-clause-reads : goal.returns-in_err-check-clause-reads
returns-in_err-check-clause-reads g c = not_given c.from_residual-in_err-check.result _ c.in_err-check.field-0.0 c.from_residual-in_err-check.ensures.1

pub returns-in_err-check-clause-kept : goal.returns-in_err-check-clause-kept
returns-in_err-check-clause-kept g c = c.find_reading.ensures.kept

pub returns-in_err-check-clause-cause : goal.returns-in_err-check-clause-cause
returns-in_err-check-clause-cause g c = cause_here (g.V.Ground.faults c.args.volume.now) (g.V.Ground.faults c.find_reading.new.volume) c.from_residual-in_err-check.result c.in_err-check.field-0.0 c.from_residual-in_err-check.ensures.1 (c.in_err-check.ensures.cause (g.V.Ground.faults c.args.volume.now) (g.V.Ground.faults c.find_reading.new.volume))

pub returns-in-None-clause-stands : goal.returns-in-None-clause-stands
returns-in-None-clause-stands g c = at_some c.in_ok-told.told c.in_ok-found.found _ c.in_ok-found.ensures.some c.in_ok-told.ensures.stands

pub returns-in-None-clause-sound : goal.returns-in-None-clause-sound
returns-in-None-clause-sound g c = tt

pub returns-in-None-clause-fault : goal.returns-in-None-clause-fault
returns-in-None-clause-fault g c = tt

pub returns-in-None-clause-kept : goal.returns-in-None-clause-kept
returns-in-None-clause-kept g c = c.find_reading.ensures.kept

pub returns-in-None-clause-cause : goal.returns-in-None-clause-cause
returns-in-None-clause-cause g c = tt

pub returns-in-Some-clause-stands : goal.returns-in-Some-clause-stands
returns-in-Some-clause-stands g c = ok_of c.read.result _ (at_some c.in_ok-told.told c.in_ok-found.found _ c.in_ok-found.ensures.some c.in_ok-told.ensures.stands)

pub returns-in-Some-clause-kept : goal.returns-in-Some-clause-kept
returns-in-Some-clause-kept g c = keeps_on g.V.Ground c.args.volume.now c.find_reading.new.volume c.read.new.blocks c.find_reading.ensures.kept c.read.ensures.kept

pub returns-in-Some-clause-cause : goal.returns-in-Some-clause-cause
returns-in-Some-clause-cause g c = cause_of g.V.Ground c.args.volume.now c.find_reading.new.volume c.find_reading.ensures.kept.leads c.read.new.blocks c.read.result c.read.ensures.cause

pub find_reading-requires : goal.find_reading-requires
find_reading-requires g c = c.requires

pub read-requires-clause-ready : goal.read-requires-clause-ready
read-requires-clause-ready g c = g.V.Ground.leads_ready c.args.volume.now c.find_reading.new.volume c.find_reading.ensures.kept.leads c.requires

pub read-requires-clause-root : goal.read-requires-clause-root
read-requires-clause-root g c =
    subst (λ (y : Geometry). IsRootFor y c.in-Some.root) (sym (g.V.Ground.leads_geometry c.args.volume.now c.find_reading.new.volume c.find_reading.ensures.kept.leads)) (at_some c.in_ok-found.found.root c.in-Some.root _ c.in-Some.is (at_some c.in_ok-told.told c.in_ok-found.found _ c.in_ok-found.ensures.some c.in_ok-told.ensures.root))

pub read-requires-clause-range : goal.read-requires-clause-range
read-requires-clause-range g c =
    omega (arith, c.is_inside.ensures.0 c.in_ok-check.ensures.holds, at_some c.in_ok-found.found.root c.in-Some.root _ c.in-Some.is (at_some c.in_ok-told.told c.in_ok-found.found _ c.in_ok-found.ensures.some c.in_ok-told.ensures.large))
