-- What is planned of a stream: its head, its leaves and its nodes.
use Rattle.std.specs.Prelude.{◌≡◌, ℕ, zero, suc, List, length, map}
use Rattle.ex_base.specs.declared.geometry.Geometry.{Geometry}
use Rattle.trees.specs.Trees.{Units}
use Rattle.volume_model.specs.Volume.{Volume}
use Rattle.record_lists.specs.declared.Listed.{Listed}
use Rattle.history_model.specs.History.{History}
use Rattle.history_model.specs.Stream.{StreamHead, head_of}
use Rattle.history_volumes.specs.Histories.{IsHistoryOn, leaf_pages, node_pages}
use Rattle.history_volumes.specs.Walks.{bytes_named, unit_named}
use Rattle.history_plans.specs.declared.catalog.Contents.{Contents}
use Rattle.history_plans.specs.Pieces.{PlannedPieces}

-- the number of the version of a record
abbrev pub number_listed : Listed → ℕ
number_listed listed = listed.head.unique

-- the bytes of its body
abbrev pub len_listed : Listed → ℕ
len_listed listed = listed.len

-- the head; the unit of each leaf and how many of its bytes are named at most; the page of each node
pub record StreamPlan : Type 0 where
  pub head : StreamHead
  pub leaves : List (ℕ × ℕ)
  pub nodes : List ℕ

-- the units of the leaves, and above level 0 the pages of the nodes
abbrev pub pages_at : ℕ → StreamPlan → List ℕ
pages_at zero plan = map unit_named plan.leaves
pages_at (suc l) plan = plan.nodes

-- The plan is that of the history of a volume: the leaves with their lengths, and the nodes, are the history's, in order, each at its place.
pub record IsPlanOf (g : Geometry) (units : Units) (v : Volume) (plan : StreamPlan) (h : History) : Type 0 where
  pub head : plan.head ≡ head_of g h
  pub leaves : map unit_named plan.leaves ≡ leaf_pages units v
  pub lens : map bytes_named plan.leaves ≡ map length h.leaves
  pub nodes : plan.nodes ≡ node_pages units v

-- the head of these pieces
abbrev pub head_planned : Geometry → Contents → ℕ → PlannedPieces → StreamHead
head_planned g contents pages pieces = record {
  page_size = g.page_size;
  seg_len = g.seg_len;
  fan = g.fan;
  next_unique = contents.next_unique;
  last = contents.last;
  files = length contents.files.items;
  leaves = length pieces.leaves;
  nodes = length pieces.nodes;
  pages = pages;
}

-- The plan is that of a history of the volume.
pub record IsPlanned (g : Geometry) (units : Units) (v : Volume) (plan : StreamPlan) : Type 0 where
  pub history : History
  pub on : IsHistoryOn g units v history
  pub plan_is : IsPlanOf g units v plan history

-- The plan has these pieces, behind the head that they give.
pub record PlansOf (g : Geometry) (contents : Contents) (pages : ℕ) (pieces : PlannedPieces) (plan : StreamPlan) : Type 0 where
  pub head : plan.head ≡ head_planned g contents pages pieces
  pub leaves : plan.leaves ≡ pieces.leaves
  pub nodes : plan.nodes ≡ pieces.nodes
