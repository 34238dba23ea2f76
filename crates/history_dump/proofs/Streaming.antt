-- The stream of a history of a volume at rest is that of the volume.
use Rattle.std.proofs.Common.{◌≡◌, ◌≤◌, ◌<◌, ◌+◌, ◌*◌, ℕ, List, [], length, drop, refl, sym, ap, subst, arith}
use Rattle.std.specs.Prelude.{Contains, nat_lt}
use Rattle.std.specs.List.{AllByRecursion}
use Rattle.std.proofs.lemmas.Bool.{cond-true, lt-ltb}
use Rattle.std.proofs.lemmas.List.{length-take}
use Rattle.std.proofs.lemmas.Nat.{mul-le}
use Rattle.ex_base.specs.declared.geometry.Geometry.{Geometry}
use Rattle.ex_base.specs.Area.{InPageArea, area_end, leaf_at}
use Rattle.ex_base.specs.Bytes.{part}
use Rattle.ex_base.specs.Sizes.{leaf_bytes, most_page}
use Rattle.ex_base.proofs.Geometries.{leaf_most}
use Rattle.commits.proofs.Reached.{reach_behind}
use Rattle.disk_model.specs.Outside.{Outside}
use Rattle.op_log.specs.AfterLog.{after_log}
use Rattle.op_log.specs.declared.record.LogRecord.{LogRecord}
use Rattle.volume_model.specs.Parts.{HoldsOf, content_parts}
use Rattle.volume_model.specs.Volume.{Decoded, reach_of, table_of, units_after, units_of}
use Rattle.volume_model.proofs.RulesOfTable.{decodes_with_rules}
use Rattle.volume_port.specs.State.{IsAtRest}
use Rattle.volume_port.specs.declared.state.VolumeState.{VolumeState}
use Rattle.history_model.specs.Dumps.{IsHistoryOf}
use Rattle.history_model.specs.History.{History}
use Rattle.history_model.specs.Items.{AreItems}
use Rattle.history_model.specs.Stream.{stream_of}
use Rattle.history_model.proofs.Lengths.{is_short}
use Rattle.history_volumes.specs.Histories.{IsHistoryOn}
use Rattle.history_volumes.proofs.AllItems.{are_items}
use Rattle.history_volumes.proofs.Reached.{each_once}
use Rattle.history_volumes.proofs.Whole.{history_of}
use Rattle.history_dump.specs.Sending.{units_over}
use Rattle.history_dump.specs.Streams.{Streams}
use Rattle.history_dump.proofs.HistoryKept.{history_kept}
use Rattle.history_dump.proofs.PortShown.{parts_shown, unit_shown}

part_most : (b : List ℕ) (p n : ℕ) → length (part b p n) ≤ n
unfolding part
part_most b p n = omega (arith, length-take n (drop p b))

-- a page without a record in the log has the bytes of a page
home_most : (g : Geometry) (disk : List ℕ) (page : ℕ) → InPageArea g page → length (units_after g [] disk page) ≤ g.page_size
home_most g disk page area =
    subst (λ (bytes : List ℕ). length bytes ≤ g.page_size) (sym (cond-true (nat_lt page (area_end g)) (after_log g [] disk page) (leaf_at g disk page) (lt-ltb page (area_end g) area.1)))
    (part_most disk (page * g.page_size) g.page_size)

module _ (w : Outside) (volume : VolumeState) (d : Decoded) (disk : List ℕ) (rests : IsAtRest w volume d disk) (h : History) (on : IsHistoryOn volume.geometry (units_over volume w) d.volume h) where
  whole : AllByRecursion (HoldsOf d.geometry d.records (units_of d disk) d.volume) content_parts
  whole = rests.committed.parts.1.1

  same_reached : (u : ℕ) → Contains (reach_of (units_over volume w) d.volume) u → units_of d disk u ≡ units_over volume w u
  same_reached u there = sym (unit_shown w volume d disk rests u (reach_behind volume.geometry (units_over volume w) d.volume u (parts_shown w volume d disk rests) there))

  on_disk : IsHistoryOn d.geometry (units_of d disk) d.volume h
  on_disk =
      subst (λ (g : Geometry). IsHistoryOn g (units_of d disk) d.volume h) (sym rests.geometry)
      (history_kept volume.geometry [] (units_over volume w) (units_of d disk) d.volume h (parts_shown w volume d disk rests) same_reached on)

  sized : (page : ℕ) → InPageArea d.geometry page → length (units_of d disk page) ≤ d.geometry.page_size
  sized page area = subst (λ (records : List LogRecord). length (units_after d.geometry records disk page) ≤ d.geometry.page_size) (sym rests.none) (home_most d.geometry disk page area)

  items : AreItems d.geometry h
  items = are_items d.geometry d.records (units_of d disk) d.volume h whole (decodes_with_rules d disk rests.committed.parts) sized on_disk

  of_table : IsHistoryOf d.geometry h (table_of (units_of d disk) d.volume)
  of_table = history_of d.geometry d.records (units_of d disk) d.volume h whole (decodes_with_rules d disk rests.committed.parts) items on_disk

  pub streams : Streams disk (table_of (units_of d disk) d.volume) (stream_of volume.geometry h)
  streams = record {
    decoded = d;
    parts = rests.committed.parts;
    table_is = refl;
    history = h;
    on = on_disk;
    once = each_once d.geometry d.records (units_of d disk) d.volume whole;
    of = of_table;
    spelled = ap (λ (g : Geometry). stream_of g h) (sym rests.geometry);
  }

  -- it has fewer bytes than pieces are asked for
  pub stream_short : length (stream_of volume.geometry h) < 18446744073709551615
  stream_short =
      let g = d.geometry in
      let most = is_short g h (table_of (units_of d disk) d.volume) of_table in
      let leaves = mul-le (4 + leaf_bytes g) (length h.leaves) 131076 4294967296 (omega (arith, leaf_most g)) (omega (arith, items.head.leaves)) in
      let pages = mul-le g.page_size (length h.nodes + h.pages + 1) 8192 8589934593 (most_page g) (omega (arith, items.head.nodes, items.head.pages)) in
      subst (λ (x : Geometry). length (stream_of x h) < 18446744073709551615) rests.geometry (omega (arith, most, leaves, pages))
