-- What a whole stream makes of what is kept.
use Rattle.std.proofs.Common.{◌≡◌, ℕ, ◌+◌, ◌-◌, ◌≤◌, true, false, ◌==◌, List, [], ◌∷◌, ◌++◌, length, map, replicate, refl, sym, ap, subst, ◌∙◌, arith}
use Rattle.std.specs.List.{flat_map, AllByRecursion}
use Rattle.std.proofs.lemmas.List.{append-nil, nil_from_length}
use Rattle.std.proofs.lemmas.Bool.{eq-eqb, eqb-true}
use Rattle.ex_base.specs.declared.geometry.Geometry.{Geometry}
use Rattle.ex_base.specs.Sizes.{leaf_bytes}
use Rattle.table_model.specs.declared.table.Table.{Table}
use Rattle.history_model.specs.Dumps.{AreAsNamed, IsDump, namings}
use Rattle.history_model.specs.FilePages.{pages_needed}
use Rattle.history_model.specs.History.{History}
use Rattle.history_model.specs.Items.{IsLeafItem}
use Rattle.history_model.specs.Stream.{StreamHead, file_item, head_bytes, head_of, leaf_item, node_item, stream_of}
use Rattle.history_model.proofs.ItemReadings.{one_head}
use Rattle.history_counts.specs.CountLaws.{leaf_length}
use Rattle.history_counts.specs.Lengths.{Lengths, raised_by}
use Rattle.history_counts.specs.Pages.{pages_by}
use Rattle.history_counts.proofs.Noted.{lengths_named}
use Rattle.history_fronts.specs.declared.turns.Turn.TheVariants.{End as NoTurn}
use Rattle.history_fronts.specs.Fronts.{Front, IsDumpHead, Leads, begun, history_of, items_of, spelled, turn_of}
use Rattle.history_fronts.specs.Readings.{IsFrontOf, IsReadTo}
use Rattle.history_fronts.proofs.Begins.{head_stays, stream_spelled}
use Rattle.history_fronts.proofs.Dumped.{dumps_lead}
use Rattle.history_fronts.proofs.Follows.{one_front_of}
use Rattle.history_reads.specs.declared.progress.Progress.{Progress}
use Rattle.history_reads.specs.Ends.{IsWhole}
use Rattle.history_reads.specs.Kept.{lengths_so_far}
use Rattle.history_reads.specs.Reads.{IsRead, turn_now}
use Rattle.history_reads.proofs.Behind.{none_asks, turn_same}
use Rattle.history_reads.proofs.Ends.{ends_are_items}
use Rattle.history_reads.proofs.Filed.{pages_kept}

-- ---- no bytes

pub empty_held : (held : List ℕ) → true ≡ (length held == 0) → held ≡ []
empty_held held e = nil_from_length held (eqb-true (length held) 0 (sym e))

pub held_some : (held : List ℕ) → false ≡ (length held == 0) → held ≡ [] → ⊥
held_some held e none = let same : (length held == 0) ≡ true = eq-eqb (length held) 0 (ap length none) in cc

-- what is kept at the end of a whole stream
pub record AtEnd (p : Progress) (held : List ℕ) : Type 0 where
  pub none : held ≡ []
  pub turn : turn_now p ≡ NoTurn
  pub lengths : p.lengths.lengths ≡ p.lengths.longest
  pub pages : pages_by p.needs ≡ p.head.pages

-- the lists that are kept of the leaves that all came
lengths_at : (g : Geometry) (f : Front) → length f.leaves ≡ f.head.leaves → (lengths_so_far g f).lengths ≡ map leaf_length f.leaves
lengths_at g f all = ap (λ (n : ℕ). map leaf_length f.leaves ++ replicate {A = ℕ} n 0) (let e : f.head.leaves - length f.leaves ≡ 0 = omega arith in e) ∙ append-nil (map leaf_length f.leaves)

longest_at : (g : Geometry) (f : Front) → length f.leaves ≡ f.head.leaves → (lengths_so_far g f).longest ≡ raised_by (leaf_bytes g) (replicate (length f.leaves) 0) (namings (history_of f))
longest_at g f all = ap (λ (n : ℕ). raised_by (leaf_bytes g) (replicate n 0) (namings (history_of f))) (sym all)

stream_head_of : (g : Geometry) (h : History) → stream_of g h ≡ head_bytes (head_of g h) ++ (flat_map leaf_item h.leaves ++ (flat_map node_item h.nodes ++ flat_map file_item h.files))
unfolding stream_of
stream_head_of g h = refl

pub whole_read : (g : Geometry) (joined : List ℕ) (p : Progress) (held : List ℕ) → IsRead g joined p held → AtEnd p held → IsWhole g joined
whole_read g joined p held is at =
    let f : Front = is.front in
    let end : turn_of is.front ≡ NoTurn = sym (turn_same g is.front p is.keeps) ∙ at.turn in
    let front : IsFrontOf g joined is.front [] = subst (IsFrontOf g joined is.front) at.none is.to.front in
    let ends = ends_are_items g joined is.front front end in
    let same = one_head (head_of g (history_of is.front)) is.front.head _ _ ends.0.head front.head.fits (sym (stream_head_of g (history_of is.front)) ∙ sym ends.1 ∙ front.joined_is) in
    let all : length is.front.leaves ≡ is.front.head.leaves = ap (λ (h : StreamHead). h.leaves) same.0 in
    let kept : map leaf_length is.front.leaves ≡ raised_by (leaf_bytes g) (replicate (length is.front.leaves) 0) (namings (history_of is.front)) =
    sym (lengths_at g is.front all) ∙ sym (ap (λ (l : Lengths). l.lengths) is.keeps.lengths) ∙ at.lengths ∙ ap (λ (l : Lengths). l.longest) is.keeps.lengths ∙ longest_at g is.front all in
    record {
      history = history_of is.front;
      spelled = ends.1;
      items = ends.0;
      lengths = (lengths_named g (history_of is.front) ends.0.leaves).0 kept;
      pages = sym (ap (λ (h : StreamHead). h.pages) is.keeps.head) ∙ sym at.pages ∙ sym (pages_kept g is.front p is.keeps);
    }

-- of a dump all is there
pub dump_at_end : (g : Geometry) (joined : List ℕ) (p : Progress) (held : List ℕ) (t : Table) → IsRead g joined p held → IsDump joined g t → AtEnd p held
dump_at_end g joined p held t is dump =
    let lead = dumps_lead g dump.history t dump.of in
    let head : lead.1.head ≡ head_of g dump.history = sym (head_stays g (begun (head_of g dump.history)) lead.1 (items_of dump.history) lead.2) in
    let spelled_is : joined ≡ head_bytes (head_of g dump.history) ++ (flat_map spelled (items_of dump.history) ++ []) = dump.spelled ∙ stream_spelled g dump.history ∙ ap (λ (s : List ℕ). head_bytes (head_of g dump.history) ++ s) (sym (append-nil (flat_map spelled (items_of dump.history)))) in
    let whole : IsReadTo g joined lead.1 [] = record {
      bytes = is.to.bytes;
      front = record {
        items = items_of dump.history;
        head = subst (IsDumpHead g) (sym head) lead.0;
        leads = subst (λ (h : StreamHead). Leads g (begun h) (items_of dump.history) lead.1) (sym head) lead.2;
        joined_is = subst (λ (h : StreamHead). joined ≡ head_bytes h ++ (flat_map spelled (items_of dump.history) ++ [])) (sym head) spelled_is;
      };
      asks = none_asks g lead.1;
    } in
    let one = one_front_of g joined is.front lead.1 held [] is.to whole in
    let same : history_of is.front ≡ dump.history = ap history_of one.0 ∙ lead.4 in
    let all : length is.front.leaves ≡ is.front.head.leaves = ap (λ (h : History). length h.leaves) same ∙ sym (ap (λ (h : StreamHead). h.leaves) (ap (λ (k : Front). k.head) one.0 ∙ head)) in
    let named : AreAsNamed (history_of is.front) 1 is.front.leaves = subst (λ (h : History). AreAsNamed h 1 h.leaves) (sym same) dump.of.lengths in
    let items = subst (λ (h : History). AllByRecursion (IsLeafItem g) h.leaves) (sym same) dump.of.items.leaves in
    let kept = (lengths_named g (history_of is.front) items).1 named in
    record {
      none = one.1;
      turn = turn_same g is.front p is.keeps ∙ ap turn_of one.0 ∙ lead.3;
      lengths = ap (λ (l : Lengths). l.lengths) is.keeps.lengths ∙ lengths_at g is.front all ∙ kept ∙ sym (longest_at g is.front all) ∙ sym (ap (λ (l : Lengths). l.longest) is.keeps.lengths);
      pages =
          sym (pages_kept g is.front p is.keeps)
          ∙ ap (λ (h : History). pages_needed g.page_size h) same
          ∙ sym dump.of.pages
          ∙ sym (ap (λ (h : History). h.pages) same)
          ∙ sym (ap (λ (h : StreamHead). h.pages) is.keeps.head);
    }
