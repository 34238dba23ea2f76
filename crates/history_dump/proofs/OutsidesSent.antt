-- Reading a disk and sending, one after the other.
use Rattle.std.proofs.Common.{◌∙◌, ℕ, List, [], ◌++◌, Some, refl, sym, ap, arith, append-nil, append_assoc}
use Rattle.disk_model.specs.Outside.{Outside, Between, IsWorld, Leaves, ReadsOnly, SinkOnly}
use Rattle.disk_model.specs.Runs.{adds_trans, adds_wider, each_on, goes_refl, goes_trans, honest_on, leaves_quiet, leaves_start, leaves_trans, leaves_wider, same_images_trans}
use Rattle.history_dump.specs.Sending.{ReadsAndSends}

pub sends_none : (a : Outside) → IsWorld a → ReadsAndSends a a
sends_none a world = record {
  goes = goes_refl a;
  left = refl;
  disk = refl;
  read_faults = refl;
  sent = λ was is. ([], is ∙ ap (λ (l : List ℕ). Some l) (sym (append-nil was)));
  images = λ honest. record { on = λ d here. here; back = λ d here. here };
  moments = λ honest. leaves_start a a.images world (λ d here. here);
}

pub sends_read : {a b c : Outside} → ReadsAndSends a b → ReadsOnly b c → ReadsAndSends a c
sends_read {a} {b} {c} so_far reads = record {
  goes = goes_trans so_far.goes reads.nothing.only.goes;
  left = reads.nothing.only.left ∙ so_far.left;
  disk = reads.nothing.disk ∙ so_far.disk;
  read_faults = reads.nothing.only.read_faults ∙ so_far.read_faults;
  sent = λ was is. let more = so_far.sent was is in (more.0, reads.nothing.only.sent ∙ more.1);
  images = λ honest.
      let here = honest_on so_far.goes honest in
      same_images_trans (so_far.images honest) (record { on = λ d is. reads.on here d is; back = λ d is. reads.nothing.back here d is });
  moments = λ honest. leaves_quiet a.images (so_far.moments honest) (honest_on so_far.goes honest) reads.nothing;
}

leaves_sent : {a b c : Outside} (Q : List ℕ → Type 0) → Leaves a b Q → SinkOnly b c → Leaves a c Q
leaves_sent {a} {b} {c} Q so_far only =
    let adds = adds_wider (λ s d. b.images d × Between b.sent c.sent s) (λ s d. Q d) only.adds (λ s d new. so_far.now d new.0) in
    record {
      clock = omega (arith, so_far.clock, only.goes.clock);
      each = each_on a.clock (λ s d. Q d) so_far.clock so_far.each adds;
      adds = adds_trans (λ s d. Q d) so_far.clock so_far.adds adds;
      now = λ d here. so_far.now d (only.images.back d here);
    }

pub sends_sent : {a b c : Outside} → ReadsAndSends a b → SinkOnly b c → ReadsAndSends a c
sends_sent {a} {b} {c} so_far only = record {
  goes = goes_trans so_far.goes only.goes;
  left = only.left ∙ so_far.left;
  disk = only.disk ∙ so_far.disk;
  read_faults = only.read_faults ∙ so_far.read_faults;
  sent = λ was is.
      let first = so_far.sent was is in
      let second = only.sent (was ++ first.0) first.1 in
      (first.0 ++ second.0, second.1 ∙ ap (λ (l : List ℕ). Some l) (append_assoc was first.0 second.0));
  images = λ honest. same_images_trans (so_far.images honest) only.images;
  moments = λ honest. leaves_sent a.images (so_far.moments honest) only;
}

pub sends_trans : {a b c : Outside} → ReadsAndSends a b → ReadsAndSends b c → ReadsAndSends a c
sends_trans {a} {b} {c} one two = record {
  goes = goes_trans one.goes two.goes;
  left = two.left ∙ one.left;
  disk = two.disk ∙ one.disk;
  read_faults = two.read_faults ∙ one.read_faults;
  sent = λ was is.
      let first = one.sent was is in
      let second = two.sent (was ++ first.0) first.1 in
      (first.0 ++ second.0, second.1 ∙ ap (λ (l : List ℕ). Some l) (append_assoc was first.0 second.0));
  images = λ honest. same_images_trans (one.images honest) (two.images (honest_on one.goes honest));
  moments = λ honest.
      let back = one.images honest in
      leaves_trans a.images (one.moments honest) (leaves_wider b.images a.images (two.moments (honest_on one.goes honest)) (λ d here. back.back d here));
}
