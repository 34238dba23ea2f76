-- A piece of a stream that is fed.
use Rattle.std.proofs.Common.{◌≡◌, ◌+◌, ◌-◌, ℕ, List, [], ◌++◌, length, drop, take, Some, sym, ap, subst, ◌∙◌, arith, append_assoc, append-nil}
use Rattle.std.specs.List.{flat_map}
use Rattle.std.proofs.lemmas.List.{length-drop, take-append-drop, take_all}
use Rattle.disk_model.specs.Outside.{Goes, Outside}
use Rattle.disk_model.specs.Runs.{honest_on}
use Rattle.ex_base.specs.declared.geometry.Geometry.{Geometry}
use Rattle.history_fronts.specs.declared.turns.Turn.TheVariants.{End as NoTurn}
use Rattle.history_fronts.specs.Fronts.{Front, spelled, turn_of}
use Rattle.history_fronts.specs.Readings.{AsksBelow, IsFrontOf, IsReadTo, NoneBegins, need_behind}
use Rattle.history_items.specs.Gathering.{Gathering}
use Rattle.history_model.specs.Stream.{head_bytes}
use Rattle.history_reads.specs.Kept.{Keeps}
use Rattle.history_reads.specs.Reads.{CantBeRead, HasItem, IsRead, turn_now}
use Rattle.history_reads.specs.Steps.{Asking, FillIsRead, IsFilled}
use Rattle.history_reads.specs.declared.steps.Filled.{Filled}
use Rattle.history_reads.specs.declared.progress.Progress.{Progress}
use Rattle.history_reads.specs.declared.steps.Filled.TheVariants.{More, Refused, Whole}
use Rattle.history_reads.proofs.Behind.{need_same}
use Rattle.history_reads.proofs.Items.{never_named}
use Rattle.history_reads.proofs.Reading.{item_is}
use Rattle.history_load.specs.Loading.{HasWholeItem, IsLoadedBefore, IsLoadedTo, IsLoader, LoadsPiece, RefusesItem, RefusesPiece, TakesItem}
use Rattle.history_load.specs.declared.loader.Loader.{Loader}
use Rattle.history_load.proofs.Closing.{loader_gathered}
use Rattle.history_load.proofs.Facts.{turn_is}
use Rattle.history_load.proofs.Feeding.{longer}

-- ---- some bytes more of an item

-- A front goes on with bytes of the next item.
front_more : (g : Geometry) (joined : List ℕ) (f : Front) (held more : List ℕ) → IsFrontOf g joined f held → IsFrontOf g (joined ++ more) f (held ++ more)
front_more g joined f held more one = record {
  items = one.items;
  head = one.head;
  leads = one.leads;
  joined_is =
      ap (λ (t : List ℕ). t ++ more) one.joined_is
      ∙ append_assoc (head_bytes f.head) (flat_map spelled one.items ++ held) more
      ∙ ap (λ (t : List ℕ). head_bytes f.head ++ t) (append_assoc (flat_map spelled one.items) held more);
}

-- Two fronts that the same is kept of need the same.
need_alike : (g : Geometry) (f k : Front) (p : Progress) → Keeps g f p → Keeps g k p → (bytes : List ℕ) → need_behind g f bytes ≡ need_behind g k bytes
need_alike g f k p one two bytes = sym (need_same g f p bytes one) ∙ need_same g k p bytes two

-- The shorter fronts of bytes ask for more behind both.
below_alike : (g : Geometry) (f k : Front) (p : Progress) (held : List ℕ) → Keeps g f p → Keeps g k p → AsksBelow (need_behind g k) held → AsksBelow (need_behind g f) held
below_alike g f k p held one two below = λ i lt. let at = below i lt in (at.0, need_alike g f k p one two (take i held) ∙ at.1, at.2)

module _ (g : Geometry) (joined more was now : List ℕ) (p : Progress) (read : IsRead g joined p was) (held : now ≡ was ++ more) where
  -- The same front is read, with more bytes held.
  read_more : IsRead g (joined ++ more) p now → IsReadTo g (joined ++ more) read.front now
  read_more on = record {
    bytes = on.to.bytes;
    front = subst (IsFrontOf g (joined ++ more) read.front) (sym held) (front_more g joined read.front was more read.to.front);
    asks = record {
      below = below_alike g read.front on.front p now read.keeps on.keeps on.to.asks.below;
      need_is = on.to.asks.need_is;
      asks = need_alike g read.front on.front p read.keeps on.keeps now ∙ on.to.asks.asks;
      more = on.to.asks.more;
    };
  }

  -- Behind the same front the held bytes are a whole item.
  item_more : HasItem g (joined ++ more) p now → IsFrontOf g (joined ++ more) read.front now × AsksBelow (need_behind g read.front) now × (need_behind g read.front now ≡ Some (length now))
  item_more has = (
    subst (IsFrontOf g (joined ++ more) read.front) (sym held) (front_more g joined read.front was more read.to.front),
    below_alike g read.front has.front p now read.keeps has.keeps has.below,
    need_alike g read.front has.front p read.keeps has.keeps now ∙ has.whole,
  )

-- Behind the end no item comes.
pub no_item_at_end : (g : Geometry) (joined : List ℕ) (p : Progress) (held : List ℕ) → HasItem g joined p held → turn_now p ≡ NoTurn → ⊥
no_item_at_end g joined p held has at =
    let is = item_is g joined p held has in
    never_named g has.front.head.leaves (length has.front.nodes) (turn_of has.front) is.item (turn_is g joined p held NoTurn at has) is.fits

-- ---- what is kept meanwhile

-- a loader with this kept of the stream, and this gathered
abbrev pub filled : Loader → Progress → Gathering → Loader
filled loader p k = record { progress = p; gathered = k; files = loader.files; row = loader.row }

-- What holds with more gathered holds with the same kept of the stream, by the sizes that are kept,
pub refilled : (P : Geometry → Loader → Type 0) (g h : Geometry) (loader : Loader) (p : Progress) (k : Gathering) → h ≡ g → p ≡ loader.progress → P g (record loader { gathered = k }) → P h (filled loader p k)
refilled P g h loader p k sizes same is = subst (λ (x : Geometry). P x (filled loader p k)) (sym sizes) (subst (λ (q : Progress). P g (filled loader q k)) (sym same) is)

-- and the other way round.
pub unfilled : (P : Geometry → Loader → Type 0) (g h : Geometry) (loader : Loader) (p : Progress) (k : Gathering) → h ≡ g → p ≡ loader.progress → P h (filled loader p k) → P g (record loader { gathered = k })
unfilled P g h loader p k sizes same is = subst (λ (q : Progress). P g (filled loader q k)) same (subst (λ (x : Geometry). P x (filled loader p k)) sizes is)

-- What a step took of the rest of a piece, as its slice, it took of the rest.
pub rest_filled : (p : Progress) (was now piece : List ℕ) (at : ℕ) (step : Filled) → IsFilled p was now (take (length piece - at) (drop at piece)) step → FillIsRead p was now (take (length piece - at) (drop at piece)) step
    → IsFilled p was now (drop at piece) step × FillIsRead p was now (drop at piece) step
rest_filled p was now piece at step is reads =
    let rest : take (length piece - at) (drop at piece) ≡ drop at piece = take_all (length piece - at) (drop at piece) (omega (arith, length-drop at piece)) in
    (subst (λ (slice : List ℕ). IsFilled p was now slice step) rest is, subst (λ (slice : List ℕ). FillIsRead p was now slice step) rest reads)

-- what is asked for
pub asks_more : (g : Geometry) (loader : Loader) → IsLoader g loader → Asking loader.progress loader.gathered.held
asks_more g loader is = (is.read.to.asks.need_is, need_same g is.read.front loader.progress loader.gathered.held is.read.keeps ∙ is.read.to.asks.asks, is.read.to.asks.more)

module _ (g : Geometry) (loader : Loader) (k : Gathering) (more : List ℕ) (held : k.held ≡ loader.gathered.held ++ more) where
  -- A loader with more of an item.
  pub loader_more : IsLoader g loader → k.room ≡ loader.gathered.room → ((joined : List ℕ) → IsRead g joined loader.progress loader.gathered.held → IsRead g (joined ++ more) loader.progress k.held) → IsLoader g (record loader { gathered = k })
  loader_more is room reads = record {
    joined = is.joined ++ more;
    read = record {
      front = is.read.front;
      to = read_more g is.joined more loader.gathered.held k.held loader.progress is.read held (reads is.joined is.read);
      keeps = is.read.keeps;
    };
    of = loader_gathered g loader k is.read.front room is.of;
  }

  -- A loader with the whole item.
  pub whole_more : IsLoader g loader → k.room ≡ loader.gathered.room → ((joined : List ℕ) → IsRead g joined loader.progress loader.gathered.held → HasItem g (joined ++ more) loader.progress k.held) → HasWholeItem g (record loader { gathered = k })
  whole_more is room reads =
      let has = reads is.joined is.read in
      let item = item_more g is.joined more loader.gathered.held k.held loader.progress is.read held has in
      record {
        joined = is.joined ++ more;
        item = record { front = is.read.front; bytes = has.bytes; to = item.0; below = item.1; whole = item.2; keeps = is.read.keeps };
        of = loader_gathered g loader k is.read.front room is.of;
      }

  -- Some bytes more were loaded.
  loaded_more : (image joined : List ℕ) → (loaded : IsLoadedTo g image joined loader) → IsRead g (joined ++ more) loader.progress k.held → IsLoadedTo g image (joined ++ more) (record loader { gathered = k })
  loaded_more image joined loaded on = record {
    read = record {
      front = loaded.read.front;
      to = read_more g joined more loader.gathered.held k.held loader.progress loaded.read held on;
      keeps = loaded.read.keeps;
    };
    pieces = loaded.pieces;
    files = loaded.files;
    count = loaded.count;
  }

  -- The whole item is there behind what was loaded.
  loaded_before : (image joined : List ℕ) → (loaded : IsLoadedTo g image joined loader) → HasItem g (joined ++ more) loader.progress k.held → IsLoadedBefore g image (joined ++ more) (record loader { gathered = k })
  loaded_before image joined loaded has =
      let item = item_more g joined more loader.gathered.held k.held loader.progress loaded.read held has in
      record {
        item = record { front = loaded.read.front; bytes = has.bytes; to = item.0; below = item.1; whole = item.2; keeps = loaded.read.keeps };
        pieces = loaded.pieces;
        files = loaded.files;
        count = loaded.count;
      }

-- ---- what is loaded of the piece

-- none of it yet
pub loads_none : (g : Geometry) (a : Outside) (loader : Loader) → LoadsPiece g a a loader loader []
loads_none g a loader = λ image joined honest holds loaded. (image, holds, subst (λ (bytes : List ℕ). IsLoadedTo g image bytes loader) (sym (append-nil joined)) loaded)

-- Bytes that can't be read can't with more behind them.
cant_more : (g : Geometry) (joined rest : List ℕ) → CantBeRead g joined → CantBeRead g (joined ++ rest)
cant_more g joined rest cant = record {
  none = λ more. subst (NoneBegins g) (sym (append_assoc joined rest more)) (cant.none (rest ++ more));
  alone = λ more held p is. cant.alone (rest ++ more) held p (subst (λ (bytes : List ℕ). IsRead g bytes p held) (append_assoc joined rest more) is);
}

-- the bytes that came so far, with those that were taken
joined_more : (joined piece : List ℕ) (at taken : ℕ) → (joined ++ take at piece) ++ take taken (drop at piece) ≡ joined ++ take (at + taken) piece
joined_more joined piece at taken = append_assoc joined (take at piece) (take taken (drop at piece)) ∙ ap (λ (l : List ℕ). joined ++ l) (longer at taken piece)

-- the bytes that came so far, with the rest of the piece
joined_rest : (joined piece : List ℕ) (at : ℕ) → (joined ++ take at piece) ++ drop at piece ≡ joined ++ piece
joined_rest joined piece at = append_assoc joined (take at piece) (drop at piece) ∙ ap (λ (l : List ℕ). joined ++ l) (take-append-drop at piece)

-- No dump goes on so.
pub refused_fill : (g : Geometry) (a b : Outside) (old mid : Loader) (piece : List ℕ) (at : ℕ) (now : List ℕ) → LoadsPiece g a b old mid (take at piece) → FillIsRead mid.progress mid.gathered.held now (drop at piece) Refused → RefusesPiece g a old piece
refused_fill g a b old mid piece at now fed reads = λ image joined honest holds loaded.
    let so_far = fed image joined honest holds loaded in
    subst (CantBeRead g) (joined_rest joined piece at) (reads g (joined ++ take at piece) so_far.2.read)

module _ (g : Geometry) (a b : Outside) (old mid : Loader) (piece : List ℕ) (at : ℕ) (fed : LoadsPiece g a b old mid (take at piece)) (k : Gathering) (taken : ℕ) (held : k.held ≡ mid.gathered.held ++ take taken (drop at piece)) where
  -- Some bytes more of an item were loaded.
  pub loads_more : FillIsRead mid.progress mid.gathered.held k.held (drop at piece) (More taken) → LoadsPiece g a b old (record mid { gathered = k }) (take (at + taken) piece)
  loads_more reads = λ image joined honest holds loaded.
      let so_far = fed image joined honest holds loaded in (
        so_far.0,
        so_far.1,
        subst (λ (bytes : List ℕ). IsLoadedTo g so_far.0 bytes (record mid { gathered = k })) (joined_more joined piece at taken)
            (loaded_more g mid k (take taken (drop at piece)) held so_far.0 (joined ++ take at piece) so_far.2 (reads g (joined ++ take at piece) so_far.2.read)),
      )

  -- A whole item more was loaded.
  pub loads_item : (c : Outside) (new : Loader) → Goes a b → FillIsRead mid.progress mid.gathered.held k.held (drop at piece) (Whole taken) → TakesItem g b c (record mid { gathered = k }) new → LoadsPiece g a c old new (take (at + taken) piece)
  loads_item c new goes reads takes = λ image joined honest holds loaded.
      let so_far = fed image joined honest holds loaded in
      let before = loaded_before g mid k (take taken (drop at piece)) held so_far.0 (joined ++ take at piece) so_far.2 (reads g (joined ++ take at piece) so_far.2.read) in
      let later = takes.loads so_far.0 ((joined ++ take at piece) ++ take taken (drop at piece)) (honest_on goes honest) so_far.1 before in
      (later.0, later.1, subst (λ (bytes : List ℕ). IsLoadedTo g later.0 bytes new) (joined_more joined piece at taken) later.2)

  -- Where no dump begins with the item, none begins with the piece.
  pub refused_item : Goes a b → FillIsRead mid.progress mid.gathered.held k.held (drop at piece) (Whole taken) → RefusesItem g b (record mid { gathered = k }) → RefusesPiece g a old piece
  refused_item goes reads refuses = λ image joined honest holds loaded.
      let so_far = fed image joined honest holds loaded in
      let before = loaded_before g mid k (take taken (drop at piece)) held so_far.0 (joined ++ take at piece) so_far.2 (reads g (joined ++ take at piece) so_far.2.read) in
      let cant = refuses so_far.0 ((joined ++ take at piece) ++ take taken (drop at piece)) (honest_on goes honest) so_far.1 before in
      let whole : ((joined ++ take at piece) ++ take taken (drop at piece)) ++ drop taken (drop at piece) ≡ joined ++ piece = joined_rest (joined ++ take at piece) (drop at piece) taken ∙ joined_rest joined piece at in
      subst (CantBeRead g) whole (cant_more g ((joined ++ take at piece) ++ take taken (drop at piece)) (drop taken (drop at piece)) cant)
