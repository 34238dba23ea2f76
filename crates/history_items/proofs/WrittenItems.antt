-- What stands in front once fields were written one behind the other.
use Rattle.std.proofs.Common.{◌≡◌, ℕ, ◌+◌, ◌*◌, ◌<◌, List, [], ◌∷◌, ◌++◌, length, take, drop, get_or, refl, sym, ap, ◌∙◌, arith, append_assoc}
use Rattle.std.specs.List.{flat_map}
use Rattle.std.proofs.lemmas.List.{append-nil, length-append, take_more}
use Rattle.std.proofs.lemmas.List.Concat.{flat_map-append}
use Rattle.std.proofs.Math.Seq.{take-length}
use Rattle.ex_base.specs.Bytes.{written}
use Rattle.ex_base.specs.Fields.{two_bytes}
use Rattle.ex_base.proofs.FieldLaws.{two_is}
use Rattle.ex_base.proofs.Places.{written_next}
use Rattle.trees.specs.declared.Pair.{Pair}
use Rattle.trees.specs.declared.width.Width.TheVariants.{Wide}
use Rattle.trees.specs.Node.{Node, pair_bytes}
use Rattle.trees.proofs.PairLaws.{length-pair_bytes}
use Rattle.history_model.specs.Stream.{node_item}

-- So many bytes were written, and behind them stands what stood there.
pub record Put (was now done : List ℕ) (at : ℕ) : Type 0 where
  pub is : now ≡ done ++ drop at was
  pub len : length done ≡ at

pub put_first : (was now field : List ℕ) (k : ℕ) → now ≡ written was 0 field → length field ≡ k → Put was now field k
put_first was now field k e len = record { is = e ∙ written_next [] field was 0 k refl (omega arith); len = len }

pub put_next : (was now later field done : List ℕ) (at k next : ℕ) → Put was now done at → later ≡ written now at field → length field ≡ k → at + k ≡ next → Put was later (done ++ field) next
put_next was now later field done at k next p e len step = record {
  is = e ∙ ap (λ (t : List ℕ). written t at field) p.is ∙ written_next done field was at next p.len (omega arith);
  len = omega (arith, length-append done field, p.len);
}

-- ---- the pairs of a node

-- what is written when the first i pairs are
abbrev pub node_front : ℕ → List Pair → ℕ → List ℕ
node_front level pairs i = (level ∷ []) ++ two_bytes (length pairs) ++ flat_map (pair_bytes Wide) (take i pairs)

pub record NodeSoFar (was : List ℕ) (level : ℕ) (pairs : List Pair) (i at : ℕ) (out : List ℕ) : Type 0 where
  pub place : at ≡ 3 + 12 * i
  pub put : Put was out (node_front level pairs i) (3 + 12 * i)

pub node_first : (was one out : List ℕ) (level : ℕ) (pairs : List Pair) → one ≡ written was 0 (level ∷ []) → out ≡ written one 1 (two_bytes (length pairs)) → NodeSoFar was level pairs 0 3 out
node_first was one out level pairs e f =
    let head = put_next was one out (two_bytes (length pairs)) (level ∷ []) 1 2 3 (put_first was one (level ∷ []) 1 e refl) f (two_is.len (length pairs)) refl in
    record {
      place = refl;
      put = record {
        is = head.is ∙ ap (λ (t : List ℕ). t ++ drop 3 was) (sym (append-nil ((level ∷ []) ++ two_bytes (length pairs))));
        len = omega (arith, head.len, length-append ((level ∷ []) ++ two_bytes (length pairs)) []);
      };
    }

pub node_more : (was : List ℕ) (level : ℕ) (pairs : List Pair) (i at : ℕ) (out next : List ℕ) (d : Pair) → i < length pairs → next ≡ written out at (pair_bytes Wide (get_or pairs i d)) → NodeSoFar was level pairs i at out → NodeSoFar was level pairs (i + 1) (at + 12) next
node_more was level pairs i at out next d lt e h =
    let pair : Pair = get_or pairs i d in
    let more : take (i + 1) pairs ≡ take i pairs ++ (get_or pairs i d ∷ []) = take_more pairs i d lt in
    let all : flat_map (pair_bytes Wide) (take (i + 1) pairs) ≡ flat_map (pair_bytes Wide) (take i pairs) ++ pair_bytes Wide (get_or pairs i d) =
    ap (flat_map (pair_bytes Wide)) more ∙ flat_map-append (pair_bytes Wide) (take i pairs) (get_or pairs i d ∷ []) ∙ ap (λ (t : List ℕ). flat_map (pair_bytes Wide) (take i pairs) ++ t) (append-nil (pair_bytes Wide (get_or pairs i d))) in
    let front : node_front level pairs i ++ pair_bytes Wide (get_or pairs i d) ≡ node_front level pairs (i + 1) =
    append_assoc ((level ∷ []) ++ two_bytes (length pairs)) (flat_map (pair_bytes Wide) (take i pairs)) (pair_bytes Wide (get_or pairs i d)) ∙ ap (λ (t : List ℕ). ((level ∷ []) ++ two_bytes (length pairs)) ++ t) (sym all) in
    let here : next ≡ written out (3 + 12 * i) (pair_bytes Wide (get_or pairs i d)) = e ∙ ap (λ (k : ℕ). written out k (pair_bytes Wide (get_or pairs i d))) h.place in
    let put = put_next was out next (pair_bytes Wide (get_or pairs i d)) (node_front level pairs i) (3 + 12 * i) 12 (3 + 12 * (i + 1)) h.put here (length-pair_bytes Wide (get_or pairs i d)) (omega arith) in
    record {
      place = omega (arith, h.place);
      put = record { is = put.is ∙ ap (λ (t : List ℕ). t ++ drop (3 + 12 * (i + 1)) was) front; len = ap length (sym front) ∙ put.len };
    }

abbrev made_node : ℕ → List Pair → Node
made_node level pairs = record { level = level; pairs = pairs }

pub node_all : (was : List ℕ) (level : ℕ) (pairs : List Pair) (i at : ℕ) (out : List ℕ) → i ≡ length pairs → NodeSoFar was level pairs i at out → out ≡ node_item (made_node level pairs) ++ drop at was
node_all was level pairs i at out all h =
    let whole : take i pairs ≡ pairs = ap (λ (k : ℕ). take k pairs) all ∙ take-length pairs in
    h.put.is ∙ ap (λ (t : List Pair). ((level ∷ []) ++ two_bytes (length pairs) ++ flat_map (pair_bytes Wide) t) ++ drop (3 + 12 * i) was) whole
    ∙ ap (λ (k : ℕ). node_item (made_node level pairs) ++ drop k was) (sym h.place)
