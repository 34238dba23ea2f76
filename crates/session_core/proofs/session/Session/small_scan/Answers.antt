use Rattle.std.proofs.Common.{◌≡◌, ◌+◌, ℕ, length, ap, arith, subst}
use Rattle.session_core.specs.Damage.{TellsFor, version_for}
use Rattle.volume_edits.specs.Purposes.{ToRead}
use Rattle.std.specs.Prelude.{drop}
use Rattle.open_scans.specs.OpenScans.{OpenRow}
use Rattle.session_core.proofs.Opening.{all_read}
use Rattle.meta_pages.specs.Overlays.{AreRows}
use Rattle.session_core.specs.Sessions.{SessionState}
use Rattle.session_core.proofs.Quiet.{nothing_changed}
use Rattle.session_core.proofs.session.Session.small_scan.Goals as goal

pub returns-in-Err-clause-sound : goal.returns-in-Err-clause-sound
returns-in-Err-clause-sound g c = λ before same now told.
    let long : length c.deref_mut.result.now ≡ c.args.version.now.found.size = omega (arith, c.deref_mut.ensures.len, c.in-Ok.ensures.len, ap length c.deref_mut.ensures.value) in
    c.in-Err.ensures.sound before same now told.version told.is (omega (arith, long, told.size))

pub returns-in-Err-clause-damage : goal.returns-in-Err-clause-damage
returns-in-Err-clause-damage g c =
    let long : 0 + length c.deref_mut.result.now ≡ c.args.version.now.found.size = omega (arith, c.deref_mut.ensures.len, c.in-Ok.ensures.len, ap length c.deref_mut.ensures.value) in
    subst (λ (n : ℕ). TellsFor (g.D.World.outside c.args.disk.now) (g.D.World.outside c.read_bytes.new.disk) c.args.self.now (version_for c.args.version.now.oid (ToRead n)) c.in-Err.stop) long c.in-Err.ensures.damage

pub returns-in-Ok-of_small-clause-bytes : goal.returns-in-Ok-of_small-clause-bytes
returns-in-Ok-of_small-clause-bytes g c = λ before same now told.
    let long : length c.deref_mut.result.now ≡ c.args.version.now.found.size = omega (arith, c.deref_mut.ensures.len, c.in-Ok.ensures.len, ap length c.deref_mut.ensures.value) in
    let whole : length c.read_bytes.new.out ≡ c.in-Ok.bytes.len = omega (arith, c.read_bytes.auto.out, c.deref_mut.ensures.len) in
    all_read c.in-Ok.bytes.len c.deref_mut.result.now c.read_bytes.new.out (drop (length c.read_bytes.new.out) c.in-Ok.bytes.items) told.version.bytes c.deref.result.now c.in-Ok-of_small.scan.scan.small
    (ap (λ (r : OpenRow). r.scan.small) c.in-Ok-of_small.ensures) c.deref.ensures.value whole (omega (arith, long, told.size)) (c.in-Ok-read_bytes.ensures.bytes before same now told.version told.is)

pub returns-in_default-clause-rows : goal.returns-in_default-clause-rows
returns-in_default-clause-rows g c = subst (λ (t : SessionState). AreRows t.meta) c.self.view_is c.touched-touched.ensures.rows

pub returns-in-Err-clause-rows : goal.returns-in-Err-clause-rows
returns-in-Err-clause-rows g c = subst (λ (t : SessionState). AreRows t.meta) c.self.view_is c.touched-touched.ensures.rows

pub returns-in-Ok-of_small-clause-rows : goal.returns-in-Ok-of_small-clause-rows
returns-in-Ok-of_small-clause-rows g c = subst (λ (t : SessionState). AreRows t.meta) c.self.view_is c.touched-touched.ensures.rows

pub returns-clause-rows : goal.returns-clause-rows
returns-clause-rows g c = subst (λ (t : SessionState). AreRows t.meta) c.self.view_is c.touched-touched.ensures.rows

pub returns-in_default-clause-only : goal.returns-in_default-clause-only
returns-in_default-clause-only g c = nothing_changed (g.D.World.outside c.args.disk.now) c.args.self.now
