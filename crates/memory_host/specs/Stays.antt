-- A call that changes nothing but the time and counts of faults.
use Rattle.std.specs.Prelude.{◌≡◌, ◌⊎◌, ℕ, Some, List, []}
use Rattle.std.proofs.Common.{sym, ◌∙◌, ap, inl, inr, ⊎_elim}
use Rattle.std.proofs.lemmas.List.{append-nil}
use Rattle.ex_base.specs.Bytes.{same_outside_refl}
use Rattle.disk_model.specs.Outside.{Outside, Goes, Adds, SameImages, DiskOnly, ReadsOnly, SourceOnly, SinkOnly, Between}
use Rattle.disk_model.specs.Calls.{Tears}
use Rattle.disk_model.specs.Runs.{goes_trans, same_images_trans, adds_trans, adds_wider, begins_refl}

-- Nothing has changed but the time and counts of faults.
pub record Stays (a b : Outside) : Type 0 where
  pub goes : Goes a b
  pub left : b.left ≡ a.left
  pub sent : b.sent ≡ a.sent
  pub disk : b.disk ≡ a.disk
  pub images : SameImages a b
  pub adds : Adds a b (λ s d. (a.sent ≡ Some s) × a.images d)

pub stays_trans : {a b c : Outside} → Stays a b → Stays b c → Stays a c
stays_trans {a} {b} {c} one two = record {
  goes = goes_trans one.goes two.goes;
  left = two.left ∙ one.left;
  sent = two.sent ∙ one.sent;
  disk = two.disk ∙ one.disk;
  images = same_images_trans one.images two.images;
  adds = adds_trans (λ s d. (a.sent ≡ Some s) × a.images d) one.goes.clock one.adds
      (adds_wider (λ s d. (b.sent ≡ Some s) × b.images d) (λ s d. (a.sent ≡ Some s) × a.images d) two.adds (λ s d new. (sym one.sent ∙ new.0, one.images.back d new.1)));
}

pub reads_stays : {a b : Outside} → Stays a b → b.read_faults ≡ a.read_faults → b.write_faults ≡ a.write_faults → ReadsOnly a b
reads_stays {a} {b} stays reads writes = record {
  nothing = record {
    only = record {
      goes = stays.goes;
      left = stays.left;
      sent = stays.sent;
      read_faults = reads;
      write_faults = writes;
      adds = adds_wider (λ s d. (a.sent ≡ Some s) × a.images d) (λ s d. a.sent ≡ Some s) stays.adds (λ s d new. new.0);
    };
    disk = stays.disk;
    back = λ honest d image. stays.images.back d image;
    adds = λ honest. stays.adds;
  };
  on = λ honest d image. stays.images.on d image;
}

pub source_stays : {a b : Outside} → Stays a b → b.disk_faults ≡ a.disk_faults → b.write_faults ≡ a.write_faults → SourceOnly a b
source_stays {a} {b} stays disks writes = record {
  goes = stays.goes;
  sent = stays.sent;
  disk = stays.disk;
  images = stays.images;
  disk_faults = disks;
  write_faults = writes;
  left = λ was is. (0, stays.left ∙ is);
  adds = stays.adds;
}

pub sink_stays : {a b : Outside} → Stays a b → b.disk_faults ≡ a.disk_faults → b.read_faults ≡ a.read_faults → SinkOnly a b
sink_stays {a} {b} stays disks reads = record {
  goes = stays.goes;
  left = stays.left;
  disk = stays.disk;
  images = stays.images;
  disk_faults = disks;
  read_faults = reads;
  sent = λ was is. ([], stays.sent ∙ is ∙ ap (λ (l : List ℕ). Some l) (sym (append-nil was)));
  adds = adds_wider (λ s d. (a.sent ≡ Some s) × a.images d) (λ s d. a.images d × Between a.sent b.sent s) stays.adds
      (λ s d new. (new.1, record { first = s; last = s; was = new.0; is = stays.sent ∙ new.0; begins = begins_refl s; goes_on = begins_refl s }));
}

-- what stays may be called torn, and what is torn may stay so
pub tears_stays : {a b : Outside} (at n : ℕ) → Stays a b → Tears at n a b
tears_stays {a} {b} at n stays = record {
  disk = λ d holds. (d, stays.disk ∙ holds, same_outside_refl at n d);
  images = λ e image. (e, stays.images.back e image, same_outside_refl at n e);
  adds = adds_wider (λ s d. (a.sent ≡ Some s) × a.images d) (λ s d. (a.sent ≡ Some s) × (a.images d ⊎ b.images d)) stays.adds (λ s d new. (new.0, inl new.1));
}

pub tears_then_stays : {a b c : Outside} (at n : ℕ) → DiskOnly a b → Tears at n a b → Stays b c → Tears at n a c
tears_then_stays {a} {b} {c} at n only tears stays = record {
  disk = λ d holds. let torn = tears.disk d holds in (torn.0, stays.disk ∙ torn.1, torn.2);
  images = λ e image. tears.images e (stays.images.back e image);
  adds = adds_trans (λ s d. (a.sent ≡ Some s) × (a.images d ⊎ c.images d)) only.goes.clock
      (adds_wider (λ s d. (a.sent ≡ Some s) × (a.images d ⊎ b.images d)) (λ s d. (a.sent ≡ Some s) × (a.images d ⊎ c.images d)) tears.adds
      (λ s d new. (new.0, ⊎_elim (λ was. inl was) (λ is. inr (stays.images.on d is)) new.1)))
      (adds_wider (λ s d. (b.sent ≡ Some s) × b.images d) (λ s d. (a.sent ≡ Some s) × (a.images d ⊎ c.images d)) stays.adds
      (λ s d new. (sym only.sent ∙ new.0, inr (stays.images.on d new.1))));
}

-- a put that sent nothing
pub put_stays : {a b : Outside} → Stays a b → Adds a b (λ s d. a.images d × ((a.sent ≡ Some s) ⊎ (b.sent ≡ Some s)))
put_stays {a} {b} stays =
    adds_wider (λ s d. (a.sent ≡ Some s) × a.images d) (λ s d. a.images d × ((a.sent ≡ Some s) ⊎ (b.sent ≡ Some s))) stays.adds (λ s d new. (new.1, inl new.0))
