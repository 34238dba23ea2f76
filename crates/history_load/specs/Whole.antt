-- Streams that were read to their end.
use Rattle.std.specs.Prelude.{◌≡◌, ℕ, List}
use Rattle.ex_base.specs.declared.geometry.Geometry.{Geometry}
use Rattle.history_model.specs.Dumps.{AreAsNamed}
use Rattle.history_model.specs.FilePages.{pages_needed}
use Rattle.history_model.specs.History.{History}
use Rattle.history_model.specs.Items.{AreItems}
use Rattle.history_model.specs.Stream.{StreamHead, head_of, stream_of}

-- The bytes are the stream of this history with this head: its items are each one, its leaves are as long as their longest namings, and it says how many pages its
-- files need.
pub record IsStreamOf (g : Geometry) (joined : List ℕ) (head : StreamHead) (h : History) : Type 0 where
  pub spelled : joined ≡ stream_of g h
  pub head_is : head_of g h ≡ head
  pub items : AreItems g h
  pub lengths : AreAsNamed h 1 h.leaves
  pub pages : h.pages ≡ pages_needed g.page_size h
