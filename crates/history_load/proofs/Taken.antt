-- The front behind an item that was taken.
use Rattle.std.proofs.Common.{◌≡◌, ℕ, List, [], ◌∷◌, ◌++◌, length, Some, refl, sym, ap, subst, ◌∙◌, arith, inl, inr, append_assoc}
use Rattle.std.specs.List.{flat_map}
use Rattle.std.proofs.lemmas.List.{append-nil}
use Rattle.std.proofs.lemmas.Option.{same_Some}
use Rattle.ex_base.specs.declared.geometry.Geometry.{Geometry}
use Rattle.ex_base.specs.Bytes.{IsBytes}
use Rattle.history_counts.specs.Pages.{needs_with_file, needs_with_files, needs_with_record, needs_with_versions}
use Rattle.history_counts.specs.declared.page_needs.PageNeeds.{PageNeeds}
use Rattle.history_fronts.specs.Fronts.{FitsTurn, Front, IsDumpHead, IsNext, IsSound, Item, Leads, after, begun, spelled, turn_of}
use Rattle.history_fronts.specs.Readings.{IsFrontOf, IsReadTo, need_behind}
use Rattle.history_fronts.proofs.Begins.{head_after}
use Rattle.history_fronts.proofs.Follows.{bytes_before, bytes_behind, one_front_of, parted}
use Rattle.history_fronts.proofs.TurnItems.{one_item}
use Rattle.history_model.specs.FilePages.{record_size}
use Rattle.history_model.specs.History.{HistoryFile, HistoryVersion}
use Rattle.history_model.specs.Stream.{StreamHead, head_bytes}
use Rattle.history_model.proofs.ItemReadings.{one_head}
use Rattle.history_reads.specs.Reads.{HasItem, IsRead}
use Rattle.history_reads.specs.declared.progress.Progress.{Progress}
use Rattle.history_reads.proofs.Behind.{asks_at_start, none_asks}
use Rattle.history_reads.proofs.Reading.{item_is}

-- ---- one more item

leads_with : (g : Geometry) (p q : Front) (items : List Item) (item : Item) → Leads g p items q → IsNext g q item → Leads g p (items ++ item ∷ []) (after q item)
leads_with g p q [] item leads next = (subst (λ (f : Front). IsNext g f item) (sym leads) next, ap (λ (f : Front). after f item) leads)
leads_with g p q (x ∷ items) item leads next = (leads.0, leads_with g (after p x) q items item leads.1 next)

spelled_with : (items : List Item) (item : Item) → flat_map spelled (items ++ item ∷ []) ++ [] ≡ flat_map spelled items ++ spelled item
spelled_with [] item = append-nil (spelled item ++ []) ∙ append-nil (spelled item)
spelled_with (x ∷ items) item = append_assoc (spelled x) (flat_map spelled (items ++ item ∷ [])) [] ∙ ap (λ (t : List ℕ). spelled x ++ t) (spelled_with items item) ∙ sym (append_assoc (spelled x) (flat_map spelled items) (spelled item))

read_with : (g : Geometry) (joined held : List ℕ) (f : Front) (item : Item) → IsBytes joined → IsFrontOf g joined f held → held ≡ spelled item → IsNext g f item → IsReadTo g joined (after f item) []
read_with g joined held f item bytes one is next =
    let same : (after f item).head ≡ f.head = head_after f item in
    let leads = leads_with g (begun f.head) f one.items item one.leads next in
    let whole : joined ≡ head_bytes f.head ++ (flat_map spelled (one.items ++ item ∷ []) ++ []) =
    one.joined_is ∙ ap (λ (t : List ℕ). head_bytes f.head ++ t) (ap (λ (t : List ℕ). flat_map spelled one.items ++ t) is ∙ sym (spelled_with one.items item)) in
    record {
      bytes = bytes;
      front = record {
        items = one.items ++ item ∷ [];
        head = subst (IsDumpHead g) (sym same) one.head;
        leads = subst (λ (h : StreamHead). Leads g (begun h) (one.items ++ item ∷ []) (after f item)) (sym same) leads;
        joined_is = subst (λ (h : StreamHead). joined ≡ head_bytes h ++ (flat_map spelled (one.items ++ item ∷ []) ++ [])) (sym same) whole;
      };
      asks = none_asks g (after f item);
    }

-- ---- the item that was taken

-- The held bytes are an item that may come next, and the front that is read now is that with it.
pub record TookItem (g : Geometry) (held : List ℕ) (f k : Front) : Type 0 where
  pub item : Item
  pub fits : FitsTurn g f.head.leaves (length f.nodes) (turn_of f) item
  pub spelled_is : held ≡ spelled item
  pub sound : IsSound g (after f item)
  pub front_is : k ≡ after f item

some_held : (g : Geometry) (joined : List ℕ) (p : Progress) (held : List ℕ) (has : HasItem g joined p held) → held ≡ [] → ⊥
some_held g joined p held has none =
    let asks = asks_at_start g has.front.head.leaves (length has.front.nodes) (turn_of has.front) in
    let here : need_behind g has.front [] ≡ Some (length held) = ap (need_behind g has.front) (sym none) ∙ has.whole in
    let same : asks.0 ≡ length held = same_Some asks.0 (length held) (sym asks.1 ∙ here) in
    let zero : length held ≡ 0 = ap (λ (bytes : List ℕ). length bytes) none in
    omega (arith, asks.2)

pub took : (g : Geometry) (joined : List ℕ) (p now : Progress) (held : List ℕ) (has : HasItem g joined p held) (read : IsRead g joined now []) → TookItem g held has.front read.front
took g joined p now held has read =
    let is = item_is g joined p held has in
    let heads = one_head has.front.head read.front.head (flat_map spelled has.to.items ++ held) (flat_map spelled read.to.front.items ++ []) has.to.head.fits read.to.front.head.fits (sym has.to.joined_is ∙ read.to.front.joined_is) in
    let leads : Leads g (begun has.front.head) read.to.front.items read.front = subst (λ (h : StreamHead). Leads g (begun h) read.to.front.items read.front) (sym heads.0) read.to.front.leads in
    let bytes : IsBytes (flat_map spelled has.to.items) = bytes_before (flat_map spelled has.to.items) held (bytes_behind (head_bytes has.front.head) (flat_map spelled has.to.items ++ held) (subst IsBytes has.to.joined_is has.bytes)) in
    elim (parted g (begun has.front.head) has.front read.front has.to.items read.to.front.items held [] has.to.leads leads bytes read.to.asks heads.1) [
      | inl same ↦ absurd (some_held g joined p held has same.1)
      | inr other ↦ (
          let one = one_item g has.front.head.leaves (length has.front.nodes) (turn_of has.front) is.item other.0 [] (flat_map spelled other.1 ++ []) is.fits other.2.fits (append-nil (spelled is.item) ∙ sym is.spelled_is ∙ other.3) in
          let sound : IsSound g (after has.front is.item) = subst (λ (i : Item). IsSound g (after has.front i)) (sym one.0) other.2.sound in
          let to = read_with g joined held has.front is.item has.bytes has.to is.spelled_is (record { fits = is.fits; sound = sound }) in
          record { item = is.item; fits = is.fits; spelled_is = is.spelled_is; sound = sound; front_is = sym (one_front_of g joined (after has.front is.item) read.front [] [] to read.to).0 })
    ]

-- ---- the pages that are needed

versions_with : (page_size : ℕ) (needs : PageNeeds) (versions : List HistoryVersion) (v : HistoryVersion) → needs_with_versions page_size needs (versions ++ v ∷ []) ≡ needs_with_record page_size (needs_with_versions page_size needs versions) (record_size v.content)
versions_with page_size needs [] v = refl
versions_with page_size needs (w ∷ versions) v = versions_with page_size (needs_with_record page_size needs (record_size w.content)) versions v

-- with a version more of the last file
pub needs_version : (page_size : ℕ) (needs : PageNeeds) (files : List HistoryFile) (name : List ℕ) (versions : List HistoryVersion) (v : HistoryVersion)
    → needs_with_files page_size needs (files ++ record { name = name; versions = versions ++ v ∷ [] } ∷ []) ≡ needs_with_record page_size (needs_with_files page_size needs (files ++ record { name = name; versions = versions } ∷ [])) (record_size v.content)
needs_version page_size needs [] name versions v = versions_with page_size (needs_with_file needs) versions v
needs_version page_size needs (f ∷ files) name versions v = needs_version page_size (needs_with_versions page_size (needs_with_file needs) f.versions) files name versions v

-- with one more file
pub needs_file : (page_size : ℕ) (needs : PageNeeds) (files : List HistoryFile) (name : List ℕ) → needs_with_files page_size needs (files ++ record { name = name; versions = [] } ∷ []) ≡ needs_with_file (needs_with_files page_size needs files)
needs_file page_size needs [] name = refl
needs_file page_size needs (f ∷ files) name = needs_file page_size (needs_with_versions page_size (needs_with_file needs) f.versions) files name
