use Rattle.std.proofs.Common.{◌≡◌, ◌≤◌, ◌+◌, ℕ, length, take, subst, arith}
use Rattle.std.proofs.lemmas.List.{length-take}
use Rattle.sha2.specs.Hashers.{Holds256}
use Rattle.versions.specs.Damage.{IsFoundAnd, IsReadThrough}
use Rattle.versions.proofs.Faults.{read_kept, read_of_more}
use Rattle.versions.proofs.Standing.{kept_holds}
use Rattle.versions.proofs.Fed.{FedTo, fed_more}
use Rattle.ex_base.proofs.Keeping.{keeps_on, cause_since}
use Rattle.versions.proofs.digesting.digest_at.Goals as goal

pub returns-in-Err-clause-sound : goal.returns-in-Err-clause-sound
returns-in-Err-clause-sound g c = λ damage told index head content bytes has enough.
    let kept = c.pieces.invariant.kept in
    c.in-Err.ensures.sound damage (g.V.Ground.leads_told c.args.volume.now c.pieces.volume kept.leads told) index head content bytes (kept_holds g.V.Ground c.args.volume.now c.pieces.volume index c.args.oid.now head content bytes kept has)
    (omega (arith, enough, c.pieces.invariant.inside, c.pieces-test.true, c.piece_len-len.ensures, length-take {A = ℕ}))

pub returns-in-Err-clause-fault : goal.returns-in-Err-clause-fault
returns-in-Err-clause-fault g c = λ told.
    read_of_more (g.V.Ground.geometry c.args.volume.now) (g.V.Ground.unit c.args.volume.now) (g.V.Ground.image c.args.volume.now) c.args.oid.now c.pieces.at (length (take c.piece_len-len.result c.pieces.buffer)) c.args.size c.in-Err.fault
    (omega (arith, c.pieces.invariant.inside, c.pieces-test.true, c.piece_len-len.ensures, length-take {A = ℕ}))
    (read_kept g.V.Ground c.args.volume.now c.pieces.volume c.pieces.invariant.kept c.args.oid.now c.pieces.at (length (take c.piece_len-len.result c.pieces.buffer)) c.in-Err.fault c.in-Err.ensures.fault told)

pub pieces-preserved : goal.pieces-preserved
pieces-preserved g c =
    let long : length (take c.piece_len-len.result c.pieces.buffer) ≡ c.piece_len-len.result = omega (arith, c.piece_len-len.ensures, length-take {A = ℕ}) in
    subst (λ (n : ℕ). FedTo g.V.Ground c.args.volume.now c.feed.new.volume c.args.oid.now c.args.size (c.pieces.at + n) c.feed.new.hasher) long
    (fed_more g.V.Ground c.args.volume.now c.pieces.volume c.feed.new.volume c.args.oid.now c.args.size c.pieces.at (length (take c.piece_len-len.result c.pieces.buffer)) c.pieces.hasher c.feed.new.hasher c.pieces.invariant
    (record { kept = c.feed.ensures.kept; fed = c.in-Ok.ensures.fed; reads = c.in-Ok.ensures.reads })
    (omega (arith, c.pieces.invariant.inside, c.pieces-test.true, c.piece_len-len.ensures, length-take {A = ℕ})))

pub returns-clause-hash : goal.returns-clause-hash
returns-clause-hash g c = λ told index head content bytes has.
    let so_far = c.pieces.invariant.fed told index head content bytes has in
    let same : c.pieces.at ≡ c.args.size = omega (arith, c.pieces.invariant.inside, c.pieces-test.false) in
    (subst (λ (n : ℕ). n ≤ length bytes) same so_far.0, c.finalize.ensures (take c.args.size bytes) (subst (λ (n : ℕ). Holds256 c.pieces.hasher (take n bytes)) same so_far.1))

pub returns-clause-reads : goal.returns-clause-reads
returns-clause-reads g c = λ told some.
    let same : c.pieces.at ≡ c.args.size = omega (arith, c.pieces.invariant.inside, c.pieces-test.false) in
    subst (λ (n : ℕ). IsFoundAnd (g.V.Ground.geometry c.args.volume.now) (g.V.Ground.image c.args.volume.now) c.args.oid.now (IsReadThrough (g.V.Ground.geometry c.args.volume.now) (g.V.Ground.unit c.args.volume.now) 0 n)) same
    (c.pieces.invariant.reads told (omega (arith, some, same)))

pub returns-in-Err-clause-hash : goal.returns-in-Err-clause-hash
returns-in-Err-clause-hash g c = tt

pub returns-in-Err-clause-reads : goal.returns-in-Err-clause-reads
returns-in-Err-clause-reads g c = tt

pub returns-in-Err-clause-kept : goal.returns-in-Err-clause-kept
returns-in-Err-clause-kept g c = keeps_on g.V.Ground c.args.volume.now c.pieces.volume c.feed.new.volume c.pieces.invariant.kept c.feed.ensures.kept

pub returns-in-Err-clause-cause : goal.returns-in-Err-clause-cause
returns-in-Err-clause-cause g c = cause_since (g.V.Ground.faults c.args.volume.now) (g.V.Ground.faults c.pieces.volume) (g.V.Ground.faults c.feed.new.volume) c.in-Err.fault (g.V.Ground.leads_faults c.args.volume.now c.pieces.volume c.pieces.invariant.kept.leads) c.in-Err.ensures.cause

pub returns-clause-sound : goal.returns-clause-sound
returns-clause-sound g c = tt

pub returns-clause-fault : goal.returns-clause-fault
returns-clause-fault g c = tt

pub returns-clause-cause : goal.returns-clause-cause
returns-clause-cause g c = tt

pub returns-clause-kept : goal.returns-clause-kept
returns-clause-kept g c = c.pieces.invariant.kept

pub feed-requires : goal.feed-requires
feed-requires g c = g.V.Ground.leads_ready c.args.volume.now c.pieces.volume c.pieces.invariant.kept.leads c.requires.ready
