-- What stands outside of the program: a disk, a source of bytes and a sink, at one moment.
use Rattle.std.specs.Prelude.{◌≡◌, ◌≤◌, ◌⊎◌, ◌↔◌, drop, ℕ, Bool, IsTrue, IsSome, is_some, Option, Some, List, ◌++◌, length}
use Rattle.ex_base.specs.Bytes.{IsBytes}
pub use Rattle.ex_base.specs.Faults.{Rose}

pub record Outside : Type 1 where
  -- the number of bytes of the disk
  pub size : ℕ
  -- what the disk holds, where it tells that
  pub disk : Option (List ℕ)
  -- what a crash now may leave on the disk
  pub images : List ℕ → Type 0
  -- what the source has left, where it tells that
  pub left : Option (List ℕ)
  -- what the sink has been sent, where it tells that
  pub sent : Option (List ℕ)
  -- a time that doesn't fall
  pub clock : ℕ
  -- At some moment since that time the sink had been sent this, and a crash then could leave this image.
  pub moments : ℕ → List ℕ → List ℕ → Type 0
  -- At this time the sink had been sent this, the disk held this, and a crash could leave this image.
  pub stood : ℕ → List ℕ → List ℕ → List ℕ → Type 0
  -- how many calls were made but those that ask for the size, where they are counted
  pub calls : Option ℕ
  -- how often the disk, the source and the sink have failed
  pub disk_faults : ℕ
  pub read_faults : ℕ
  pub write_faults : ℕ
  -- The disk keeps to the crash model.
  pub honest : Bool

-- what holds of every host
pub record IsWorld (w : Outside) : Type 0 where
  -- What the disk holds is one of the images of now.
  pub held_may_stay : (d : List ℕ) → w.disk ≡ Some d → w.images d
  -- Each image is a whole disk of bytes.
  pub whole : (d : List ℕ) → w.images d → length d ≡ w.size
  pub bytes : (d : List ℕ) → w.images d → IsBytes d
  -- What is sent now, with each image of now, is a moment since each time up to now.
  pub now_counts : (t : ℕ) (s d : List ℕ) → t ≤ w.clock → IsSome w.disk → w.sent ≡ Some s → w.images d → w.moments t s d
  -- Since now there is no other.
  pub now_only : (s d : List ℕ) → w.moments w.clock s d → (w.sent ≡ Some s) × w.images d
  -- A moment since a time is one since each earlier time.
  pub earlier : (t u : ℕ) (s d : List ℕ) → t ≤ u → w.moments u s d → w.moments t s d
  -- What is sent and held now, with each image of now, stands now, and nothing else does.
  pub stands_now : (s d e : List ℕ) → w.sent ≡ Some s → w.disk ≡ Some d → w.images e → w.stood w.clock s d e
  pub stands_only : (s d e : List ℕ) → w.stood w.clock s d e → (w.sent ≡ Some s) × (w.disk ≡ Some d) × w.images e
  -- Nothing stood later than now.
  pub stood_by_now : (t : ℕ) (s d e : List ℕ) → w.stood t s d e → t ≤ w.clock
  -- What stood at a time is a moment since each time up to that.
  pub stood_counts : (t u : ℕ) (s d e : List ℕ) → t ≤ u → w.stood u s d e → w.moments t s e

-- Nothing has failed so far.
pub record HasNoFaults (w : Outside) : Type 0 where
  pub disk : w.disk_faults ≡ 0
  pub source : w.read_faults ≡ 0
  pub sink : w.write_faults ≡ 0

-- A crash leaves this and nothing else: nothing is pending.
abbrev pub Only : List ℕ → (List ℕ → Type 0) → Type 0
Only d images = (e : List ℕ) → images e → e ≡ d

-- One list begins with the other.
abbrev pub BeginsWith : List ℕ → List ℕ → Type 0
BeginsWith whole front = (rest : List ℕ) × (whole ≡ front ++ rest)

-- s is what was sent at some time between: it begins with what was sent before, and what is sent after begins with it.
pub record Between (before after : Option (List ℕ)) (s : List ℕ) : Type 0 where
  pub first : List ℕ
  pub last : List ℕ
  pub was : before ≡ Some first
  pub is : after ≡ Some last
  pub begins : BeginsWith s first
  pub goes_on : BeginsWith last s

-- what every call on the outside keeps
pub record Goes (a b : Outside) : Type 0 where
  pub size : b.size ≡ a.size
  pub honest : b.honest ≡ a.honest
  pub disk_told : is_some b.disk ≡ is_some a.disk
  pub left_told : is_some b.left ≡ is_some a.left
  pub sent_told : is_some b.sent ≡ is_some a.sent
  pub calls_told : is_some b.calls ≡ is_some a.calls
  pub clock : a.clock ≤ b.clock
  pub disk_faults : a.disk_faults ≤ b.disk_faults
  pub read_faults : a.read_faults ≤ b.read_faults
  pub write_faults : a.write_faults ≤ b.write_faults
  pub moments : (t : ℕ) (s d : List ℕ) → a.moments t s d → b.moments t s d
  -- What stood at a time up to a is settled.
  pub past : (t : ℕ) (s d e : List ℕ) → t ≤ a.clock → a.stood t s d e ↔ b.stood t s d e

-- Of the moments since a time up to a, those that came since have P.
pub record Adds (a b : Outside) (P : List ℕ → List ℕ → Type 0) : Type 0 where
  pub each : (t : ℕ) (s d : List ℕ) → t ≤ a.clock → b.moments t s d → a.moments t s d ⊎ P s d

pub record SameImages (a b : Outside) : Type 0 where
  pub on : (d : List ℕ) → a.images d → b.images d
  pub back : (d : List ℕ) → b.images d → a.images d

-- what a function over a disk alone leaves of the rest, and the moments that it adds
pub record DiskOnly (a b : Outside) : Type 0 where
  pub goes : Goes a b
  pub left : b.left ≡ a.left
  pub sent : b.sent ≡ a.sent
  pub read_faults : b.read_faults ≡ a.read_faults
  pub write_faults : b.write_faults ≡ a.write_faults
  pub adds : Adds a b (λ s d. a.sent ≡ Some s)

-- the same, where nothing was written: the disk holds what it held, and a crash leaves nothing new
pub record WritesNothing (a b : Outside) : Type 0 where
  pub only : DiskOnly a b
  pub disk : b.disk ≡ a.disk
  pub back : IsTrue a.honest → (d : List ℕ) → b.images d → a.images d
  pub adds : IsTrue a.honest → Adds a b (λ s d. (a.sent ≡ Some s) × a.images d)

-- the same, where the disk was read at most: no sync either
pub record ReadsOnly (a b : Outside) : Type 0 where
  pub nothing : WritesNothing a b
  pub on : IsTrue a.honest → (d : List ℕ) → a.images d → b.images d

-- what a function over a source alone leaves and adds
pub record SourceOnly (a b : Outside) : Type 0 where
  pub goes : Goes a b
  pub sent : b.sent ≡ a.sent
  pub disk : b.disk ≡ a.disk
  pub images : SameImages a b
  pub disk_faults : b.disk_faults ≡ a.disk_faults
  pub write_faults : b.write_faults ≡ a.write_faults
  -- What is left is an end of what was left.
  pub left : (was : List ℕ) → a.left ≡ Some was → (n : ℕ) × (b.left ≡ Some (drop n was))
  pub adds : Adds a b (λ s d. (a.sent ≡ Some s) × a.images d)

-- what a function over a sink alone leaves and adds
pub record SinkOnly (a b : Outside) : Type 0 where
  pub goes : Goes a b
  pub left : b.left ≡ a.left
  pub disk : b.disk ≡ a.disk
  pub images : SameImages a b
  pub disk_faults : b.disk_faults ≡ a.disk_faults
  pub read_faults : b.read_faults ≡ a.read_faults
  -- What is sent begins with what was sent.
  pub sent : (was : List ℕ) → a.sent ≡ Some was → (more : List ℕ) × (b.sent ≡ Some (was ++ more))
  pub adds : Adds a b (λ s d. a.images d × Between a.sent b.sent s)

-- A crash now leaves what has P.
pub record Stands (w : Outside) (P : List ℕ → List ℕ → Type 0) : Type 0 where
  pub now : (s d : List ℕ) → w.sent ≡ Some s → w.images d → P s d

-- A crash at any moment from a to b leaves what has P.
pub record Along (a b : Outside) (P : List ℕ → List ℕ → Type 0) : Type 0 where
  pub goes : Goes a b
  -- each moment since a
  pub each : (s d : List ℕ) → b.moments a.clock s d → P s d
  -- for a run that began earlier
  pub adds : Adds a b P
  -- a crash now
  pub stands : Stands b P

-- The same of the disk alone, whatever was sent.
pub record Leaves (a b : Outside) (Q : List ℕ → Type 0) : Type 0 where
  pub clock : a.clock ≤ b.clock
  pub each : (s d : List ℕ) → b.moments a.clock s d → Q d
  pub adds : Adds a b (λ s d. Q d)
  pub now : (d : List ℕ) → b.images d → Q d

-- An honest disk holds d, and nothing is pending.
pub record RestsOn (w : Outside) (d : List ℕ) : Type 0 where
  pub honest : IsTrue w.honest
  pub holds : w.disk ≡ Some d
  pub settled : Only d w.images
