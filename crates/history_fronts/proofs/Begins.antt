-- No dump begins with what is refused.
use Rattle.std.proofs.Common.{◌≡◌, ℕ, ◌<◌, List, [], ◌∷◌, ◌++◌, length, map, refl, sym, ap, subst, ◌∙◌, arith, append_assoc}
use Rattle.std.specs.List.{flat_map}
use Rattle.std.proofs.lemmas.List.{append-nil}
use Rattle.ex_base.specs.declared.geometry.Geometry.{Geometry}
use Rattle.ex_base.specs.Bytes.{IsBytes}
use Rattle.history_model.specs.History.{History, HistoryFile}
use Rattle.history_model.specs.Stream.{StreamHead, file_head, file_item, head_bytes, head_of, leaf_item, node_item, stream_of, version_item}
use Rattle.history_fronts.specs.declared.turns.Turn.TheVariants.{End as NoTurn}
use Rattle.history_fronts.specs.Fronts.{AFile, ALeaf, ANode, AVersion, Front, IsDumpHead, Item, Leads, after, begun, file_items, items_of, spelled, turn_of}
use Rattle.history_fronts.specs.Readings.{Asks, IsFrontOf, IsRefused, NoneBegins, need_at, need_behind}
use Rattle.history_fronts.proofs.Dumped.{dumps_lead}
use Rattle.history_fronts.proofs.Follows.{refused_nowhere}

-- ---- the items spell the stream

spelled-append : (xs ys : List Item) → flat_map spelled (xs ++ ys) ≡ flat_map spelled xs ++ flat_map spelled ys
spelled-append [] ys = refl
spelled-append (x ∷ xs) ys = ap (λ (t : List ℕ). spelled x ++ t) (spelled-append xs ys) ∙ sym (append_assoc (spelled x) (flat_map spelled xs) (flat_map spelled ys))

each_spelled : {A : Type 0} (make : A → Item) (spell : A → List ℕ) → ((a : A) → spelled (make a) ≡ spell a) → (xs : List A) → flat_map spelled (map make xs) ≡ flat_map spell xs
each_spelled make spell same [] = refl
each_spelled make spell same (x ∷ xs) = let here = same x in let rest = each_spelled make spell same xs in cc (here, rest)

file_spelled : (f : HistoryFile) → flat_map spelled (file_items f) ≡ file_item f
file_spelled f = ap (λ (t : List ℕ). file_head f ++ t) (each_spelled AVersion version_item (λ v. refl) f.versions)

files_spelled : (fs : List HistoryFile) → flat_map spelled (flat_map file_items fs) ≡ flat_map file_item fs
files_spelled [] = refl
files_spelled (f ∷ fs) = spelled-append (file_items f) (flat_map file_items fs) ∙ (let here = file_spelled f in let rest = files_spelled fs in cc (here, rest))

pub stream_spelled : (g : Geometry) (h : History) → stream_of g h ≡ head_bytes (head_of g h) ++ flat_map spelled (items_of h)
unfolding stream_of
stream_spelled g h =
    let leaves = each_spelled ALeaf leaf_item (λ a. refl) h.leaves in
    let nodes = each_spelled ANode node_item (λ a. refl) h.nodes in
    let files = files_spelled h.files in
    let behind : flat_map spelled (map ANode h.nodes ++ flat_map file_items h.files) ≡ flat_map node_item h.nodes ++ flat_map file_item h.files = spelled-append (map ANode h.nodes) (flat_map file_items h.files) ∙ cc (nodes, files) in
    let all : flat_map spelled (items_of h) ≡ flat_map leaf_item h.leaves ++ (flat_map node_item h.nodes ++ flat_map file_item h.files) = spelled-append (map ALeaf h.leaves) (map ANode h.nodes ++ flat_map file_items h.files) ∙ cc (leaves, behind) in
    ap (λ (t : List ℕ). head_bytes (head_of g h) ++ t) (sym all)

-- ---- the head stays

pub head_after : (f : Front) (item : Item) → (after f item).head ≡ f.head
head_after f (ALeaf a) = refl
head_after f (ANode a) = refl
head_after f (AFile a) = refl
head_after f (AVersion a) = refl

pub head_stays : (g : Geometry) (f k : Front) (items : List Item) → Leads g f items k → f.head ≡ k.head
head_stays g f k [] leads = ap (λ (p : Front). p.head) leads
head_stays g f k (item ∷ items) leads = sym (head_after f item) ∙ head_stays g (after f item) k items leads.1

-- ---- the end asks for more than is there

end_asks : (g : Geometry) (f : Front) → turn_of f ≡ NoTurn → Asks (need_behind g f) []
end_asks g f end = record {
  below = λ k lt. absurd (omega (arith, lt));
  need_is = 1;
  asks = ap (λ turn. need_at g f.head.leaves (length f.nodes) turn []) end;
  more = omega arith;
}

pub none_begins : (g : Geometry) (joined rest : List ℕ) (f : Front) (held : List ℕ) → IsBytes joined → IsFrontOf g joined f held → IsRefused g f held → NoneBegins g (joined ++ rest)
none_begins g joined rest f held bytes one refused stream begins t dump =
    let lead = dumps_lead g dump.history t dump.of in
    let whole : stream ≡ head_bytes (head_of g dump.history) ++ (flat_map spelled (items_of dump.history) ++ []) = dump.spelled ∙ stream_spelled g dump.history ∙ ap (λ (s : List ℕ). head_bytes (head_of g dump.history) ++ s) (sym (append-nil (flat_map spelled (items_of dump.history)))) in
    let head : lead.1.head ≡ head_of g dump.history = end_head lead.1 lead.2 in
    let all : IsFrontOf g stream lead.1 [] = record {
      items = items_of dump.history;
      head = subst (IsDumpHead g) (sym head) lead.0;
      leads = subst (λ (h : StreamHead). Leads g (begun h) (items_of dump.history) lead.1) (sym head) lead.2;
      joined_is = subst (λ (h : StreamHead). stream ≡ head_bytes h ++ (flat_map spelled (items_of dump.history) ++ [])) (sym head) whole;
    } in
    refused_nowhere g joined stream (rest ++ begins.0) f lead.1 held [] bytes one refused all (end_asks g lead.1 lead.3) (begins.1 ∙ append_assoc joined rest begins.0)
  where
    end_head : (k : Front) → Leads g (begun (head_of g dump.history)) (items_of dump.history) k → k.head ≡ head_of g dump.history
    end_head k leads = sym (head_stays g (begun (head_of g dump.history)) k (items_of dump.history) leads)
