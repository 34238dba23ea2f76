-- What a body has to show to be a record, field by field, and the record as it is read.
use Rattle.std.specs.Prelude.{◌≡◌, ℕ, suc, ◌+◌, ◌≤◌, max, List, length, drop, slice_index, ◌⊎◌}
use Rattle.ex_base.specs.declared.names.Root.{Root}
use Rattle.ex_base.specs.Bytes.{bytes_at}
use Rattle.ex_base.specs.Fields.{number_at, page_in, place_in, AreZero}
use Rattle.object_records.specs.declared.State.{State}
use Rattle.object_records.specs.declared.State.TheVariants.{Current, Frozen}
use Rattle.object_records.specs.declared.Head.{Head}
use Rattle.object_records.specs.declared.Payload.{Payload}
use Rattle.object_records.specs.declared.Payload.TheVariants.{Small as SmallPayload, Large as LargePayload}
use Rattle.object_records.specs.Record.{Content, Small, Large, Record, NewerFits, IsRootField}

-- the content that a payload lends
abbrev pub content_of : Payload → Content
content_of (SmallPayload bytes) = Small bytes.now
content_of (LargePayload root) = Large root

-- the state that a byte names: 2 is frozen
abbrev pub state_read : ℕ → State
state_read (suc (suc n)) = Frozen
state_read n = Current

unfoldable pub head_on : List ℕ → Head
head_on body = record { state = state_read (slice_index body 1); unique = number_at 8 body 2; older = place_in body 10; newer = place_in body 16 }

abbrev pub root_on : List ℕ → Root
root_on body = record { height = number_at 2 body 22; page = page_in body 32; size = number_at 8 body 24 }

abbrev pub small_on : List ℕ → Content
small_on body = Small (bytes_at body 24 (number_at 2 body 22))

-- the content of a form: 2 is large
abbrev pub content_read : ℕ → List ℕ → Content
content_read (suc (suc n)) body = Large (root_on body)
content_read n body = small_on body

unfoldable pub content_on : List ℕ → Content
content_on body = content_read (slice_index body 0) body

abbrev pub record_on : List ℕ → Record
record_on body = record { head = head_on body; content = content_on body }

-- a small body: its length, and zeros behind its bytes
pub record SmallReads (body : List ℕ) : Type 0 where
  pub form : slice_index body 0 ≡ 1
  pub len : length body ≡ 24 + max 12 (number_at 2 body 22)
  pub rest : AreZero (drop (24 + number_at 2 body 22) body)

pub record LargeReads (body : List ℕ) : Type 0 where
  pub form : slice_index body 0 ≡ 2
  pub len : length body ≡ 36
  pub root : IsRootField (root_on body)

pub record HeadReads (body : List ℕ) : Type 0 where
  pub long : 36 ≤ length body
  pub state : (slice_index body 1 ≡ 1) ⊎ (slice_index body 1 ≡ 2)
  pub newer : NewerFits (state_read (slice_index body 1)) (place_in body 16)

abbrev pub RecordReads : List ℕ → Type 0
RecordReads body = HeadReads body × (SmallReads body ⊎ LargeReads body)

abbrev pub small_record : Head → List ℕ → Record
small_record head bytes = record { head = head; content = Small bytes }

abbrev pub large_record : Head → Root → Record
large_record head root = record { head = head; content = Large root }
