-- The head of a stream, as the code holds it.
use Rattle.history_model.specs.Stream.{StreamHead}
use Rattle.history_items.specs.declared.head.Head.{Head}

abbrev pub stream_head : Head → StreamHead
stream_head h = record {
  page_size = h.page_size;
  seg_len = h.seg_len;
  fan = h.fan;
  next_unique = h.next_unique;
  last = h.last;
  files = h.files;
  leaves = h.leaves;
  nodes = h.nodes;
  pages = h.pages;
}
