-- What was read to the end is the stream of the history that came.
use Rattle.std.proofs.Common.{◌≡◌, ℕ, List, [], ◌++◌, refl, sym, subst, ◌∙◌}
use Rattle.std.specs.List.{flat_map}
use Rattle.ex_base.specs.declared.geometry.Geometry.{Geometry}
use Rattle.history_fronts.specs.declared.turns.Turn.TheVariants.{End as NoTurn}
use Rattle.history_fronts.specs.Fronts.{history_of, turn_of}
use Rattle.history_fronts.specs.Readings.{IsFrontOf}
use Rattle.history_items.specs.Heads.{stream_head}
use Rattle.history_model.specs.Dumps.{AreAsNamed}
use Rattle.history_model.specs.FilePages.{pages_needed}
use Rattle.history_model.specs.History.{History}
use Rattle.history_model.specs.Stream.{file_item, head_bytes, head_of, leaf_item, node_item, stream_of}
use Rattle.history_model.proofs.ItemReadings.{one_head, one_history}
use Rattle.history_reads.specs.declared.progress.Progress.{Progress}
use Rattle.history_reads.specs.Ends.{IsWhole}
use Rattle.history_reads.specs.Reads.{IsRead, turn_now}
use Rattle.history_reads.proofs.Behind.{turn_same}
use Rattle.history_reads.proofs.Ends.{ends_are_items}
use Rattle.history_load.specs.Whole.{IsStreamOf}

headed : (g : Geometry) (h : History) → stream_of g h ≡ head_bytes (head_of g h) ++ (flat_map leaf_item h.leaves ++ (flat_map node_item h.nodes ++ flat_map file_item h.files))
unfolding stream_of
headed g h = refl

pub all_read : (g : Geometry) (joined : List ℕ) (p : Progress) (held : List ℕ) (is : IsRead g joined p held) → held ≡ [] → turn_now p ≡ NoTurn → IsWhole g joined
    → IsStreamOf g joined (stream_head p.head) (history_of is.front)
all_read g joined p held is none turn whole =
    let end : turn_of is.front ≡ NoTurn = sym (turn_same g is.front p is.keeps) ∙ turn in
    let front : IsFrontOf g joined is.front [] = subst (IsFrontOf g joined is.front) none is.to.front in
    let ends = ends_are_items g joined is.front front end in
    let one : whole.history ≡ history_of is.front = one_history g whole.history (history_of is.front) whole.items ends.0 (sym whole.spelled ∙ ends.1) in
    let head = one_head (head_of g (history_of is.front)) is.front.head _ _ ends.0.head front.head.fits (sym (headed g (history_of is.front)) ∙ sym ends.1 ∙ front.joined_is) in
    record {
      spelled = ends.1;
      head_is = head.0 ∙ sym is.keeps.head;
      items = ends.0;
      lengths = subst (λ (h : History). AreAsNamed h 1 h.leaves) one whole.lengths;
      pages = subst (λ (h : History). h.pages ≡ pages_needed g.page_size h) one whole.pages;
    }
