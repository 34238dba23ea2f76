-- Heads that no dump has.
use Rattle.std.proofs.Common.{◌≡◌, ℕ, ◌+◌, ◌≤◌, List, [], ◌∷◌, ◌++◌, length, take, sym, ap, ◌∙◌, arith, append_assoc}
use Rattle.std.specs.List.{flat_map}
use Rattle.std.proofs.lemmas.List.{take_at, take-append-le}
use Rattle.ex_base.specs.declared.geometry.Geometry.{Geometry}
use Rattle.history_model.specs.Stream.{HasHead, StreamHead, head_bytes, head_of}
use Rattle.history_model.proofs.ItemReadings.{one_head}
use Rattle.history_model.proofs.Lengths.{length-head}
use Rattle.history_fronts.specs.Fronts.{IsDumpHead, items_of, spelled}
use Rattle.history_fronts.proofs.Begins.{stream_spelled}
use Rattle.history_fronts.proofs.Dumped.{dumps_lead}
use Rattle.history_reads.specs.Reads.{CantBeRead}

pub one_head_of : (bytes : List ℕ) (a b : StreamHead) → length bytes ≡ 52 → HasHead bytes a → HasHead bytes b → a ≡ b
one_head_of bytes a b len p q = (one_head a b [] [] p.fits q.fits (ap (λ (t : List ℕ). t ++ []) (sym p.spelled ∙ q.spelled))).0

-- what begins the whole begins its front
head_at : (bytes rest behind : List ℕ) (head : StreamHead) → length bytes ≡ 52 → bytes ++ rest ≡ head_bytes head ++ behind → take 52 bytes ≡ head_bytes head
head_at bytes rest behind head len e =
    sym (take-append-le 52 bytes rest (omega arith)) ∙ ap (take 52) e ∙ take_at (head_bytes head) behind 52 (length-head head)

pub head_refused : (g : Geometry) (bytes : List ℕ) → length bytes ≡ 52 → ((head : StreamHead) → HasHead bytes head → IsDumpHead g head → ⊥) → CantBeRead g bytes
head_refused g bytes len never = record {
  none = λ rest stream begins t dump.
      let lead = dumps_lead g dump.history t dump.of in
      let whole : bytes ++ (rest ++ begins.0) ≡ head_bytes (head_of g dump.history) ++ flat_map spelled (items_of dump.history) = sym (begins.1 ∙ append_assoc bytes rest begins.0) ∙ dump.spelled ∙ stream_spelled g dump.history in
      never (head_of g dump.history) (record { fits = lead.0.fits; spelled = head_at bytes (rest ++ begins.0) (flat_map spelled (items_of dump.history)) (head_of g dump.history) len whole }) lead.0;
  alone = λ rest held p is.
      never is.front.head (record { fits = is.to.front.head.fits; spelled = head_at bytes rest (flat_map spelled is.to.front.items ++ held) is.front.head len is.to.front.joined_is }) is.to.front.head;
}
