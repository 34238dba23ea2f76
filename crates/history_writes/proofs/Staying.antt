-- Leaves and nodes that stay while pages of files are written.
use Rattle.std.proofs.Common.{◌≡◌, ◌≢◌, ◌≤◌, ◌<◌, ◌+◌, ◌*◌, ℕ, List, length, Some, inl, inr, sym, ⊎_elim, ◌∙◌, arith}
use Rattle.ex_base.specs.declared.geometry.Geometry.{Geometry}
use Rattle.ex_base.specs.Area.{InPageArea, IsUnit}
use Rattle.ex_base.specs.Bytes.{same_parts}
use Rattle.ex_base.specs.Sizes.{leaf_bytes, volume_bytes}
use Rattle.disk_model.specs.Changes.{SameBut}
use Rattle.tree_store.specs.Stored.{unit_bytes, unit_len}
use Rattle.tree_store.specs.Whole.{leaf_len, leaf_range}
use Rattle.tree_store.proofs.Places.{node_fits, page_len, units_apart}
use Rattle.volume_model.specs.Homes.{home}
use Rattle.history_volumes.proofs.Numbers.{numbered_within}
use Rattle.history_writes.specs.Laws.{PiecesStay}
use Rattle.history_writes.specs.Places.{InPagesFrom, leaf_place, node_place}
use Rattle.history_writes.proofs.Placing.{leaf_behind}
use Rattle.history_writes.proofs.Writing.{home_unit, leaf_stays, node_stays}

unit_fits : (g : Geometry) (unit size : ℕ) → IsUnit g unit → volume_bytes g ≤ size → unit * g.page_size + unit_len g unit ≤ size
unit_fits g unit size (inl area) large = node_fits g unit (unit_len g unit) size area (page_len g unit area) large
unit_fits g unit size (inr leaf) large = omega (arith, leaf_len g unit leaf, leaf_range g unit 0 (leaf_bytes g) size leaf (omega arith) large)

-- a unit that is none of the pages from one on
pub unit_stays : (g : Geometry) (first unit : ℕ) (d e : List ℕ) → IsUnit g unit → ((page : ℕ) → InPageArea g page → first ≤ page → unit ≢ page) → volume_bytes g ≤ length d → SameBut (InPagesFrom g first) d e → home g e unit ≡ home g d unit
unit_stays g first unit d e is other large same =
    let fits = unit_fits g unit (length d) is large in
    let parts : unit_bytes g (Some e) unit ≡ unit_bytes g (Some d) unit =
    same_parts e d (unit * g.page_size) (unit * g.page_size) (unit_len g unit) (omega (arith, fits, same.same_length)) fits (λ i lt. same.each (unit * g.page_size + i) (λ r. apart i lt r)) in
    home_unit g e unit ∙ parts ∙ sym (home_unit g d unit)
  where
    apart : (i : ℕ) → i < unit_len g unit → InPagesFrom g first (unit * g.page_size + i) → ⊥
    apart i lt r =
        ⊎_elim (λ before. absurd (omega (arith, before, lt, r.3.0))) (λ behind. absurd (omega (arith, behind, r.3.1)))
        (units_apart g r.0 unit (unit_len g r.0) (inl r.1) is (other r.0 r.1 r.2) (omega arith))

pub pieces_stay : PiecesStay
pieces_stay g f first image later behind large same at = record {
  leaves = λ i bytes is.
      let was = at.leaves i bytes is in
      leaf_stays g (home g image) (home g later) (leaf_place g i) bytes
      (unit_stays g first (leaf_place g i) image later (inr was.area) (λ page area from e. absurd (omega (arith, e, area.1, leaf_behind g (leaf_place g i) was.area))) large same) was;
  nodes = λ i n is.
      let was = at.nodes i n is in
      let within = numbered_within f.nodes i n is in
      node_stays g (home g image) (home g later) (leaf_place g) node_place (node_place i) n
      (unit_stays g first (node_place i) image later (inl was.area) (λ page area from e. absurd (omega (arith, e, from, within.1, behind))) large same) was;
}
