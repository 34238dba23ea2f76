-- The bytes of a source that a loader is fed.
use Rattle.std.proofs.Common.{◌≡◌, ◌≤◌, ◌+◌, ◌∙◌, ℕ, List, [], ◌++◌, Some, Result, Ok, Err, append_assoc, append-nil, drop, length, length-drop, take, refl, sym, ap, subst, arith}
use Rattle.std.proofs.lemmas.List.{drop-drop, drop_at, length-append, length-take, take-append-drop, take_at, take-append-le, take_all}
use Rattle.std.proofs.Math.Seq.{take-add}
use Rattle.std.specs.Result.{IsErrAnd}
use Rattle.ex_base.specs.declared.geometry.Geometry.{Geometry}
use Rattle.ex_base.specs.Sizes.{leaf_bytes}
use Rattle.disk_model.specs.Outside.{DiskOnly, Goes, Outside, SourceOnly}
use Rattle.disk_model.specs.Runs.{adds_refl, adds_trans, adds_wider, goes_refl, goes_trans, honest_on}
use Rattle.history_fronts.specs.Fronts.{Front}
use Rattle.history_items.specs.Heads.{stream_head}
use Rattle.history_items.specs.declared.head.Head.{Head}
use Rattle.history_load.specs.Faults.{WhereBad}
use Rattle.history_load.specs.Loading.{IsLoadedTo, LoadsPiece, RefusesPiece}
use Rattle.history_load.specs.declared.faults.LoadFault.{LoadFault}
use Rattle.history_load.specs.declared.faults.LoadFault.TheVariants.{Stream}
use Rattle.history_load.specs.Streams.{Feeds, LoadsAll, NoneBehindHead, NoneComes, Takes, TakesAndWrites, most_behind}
use Rattle.history_load.specs.declared.loader.Loader.{Loader}
use Rattle.history_model.specs.Dumps.{IsNoDump}
use Rattle.history_model.specs.Stream.{HasHead, StreamHead, bytes_most, head_bytes, head_of}
use Rattle.history_model.proofs.Lengths.{is_short, length-head}
use Rattle.history_reads.specs.declared.heads.HeadFault.{HeadFault}
use Rattle.history_reads.specs.declared.heads.HeadFault.TheVariants.{Bad}
use Rattle.history_load.proofs.Verdicts.{dump_head, one_head_on}

-- ---- outside

pub takes_source : {a b : Outside} → SourceOnly a b → TakesAndWrites a b
takes_source {a} only = record {
  goes = only.goes;
  sent = only.sent;
  write_faults = only.write_faults;
  adds = adds_wider (λ s d. (a.sent ≡ Some s) × a.images d) (λ s d. a.sent ≡ Some s) only.adds (λ s d new. new.0);
}

pub takes_disk : {a b : Outside} → DiskOnly a b → TakesAndWrites a b
takes_disk only = record { goes = only.goes; sent = only.sent; write_faults = only.write_faults; adds = only.adds }

pub takes_joined : {a b c : Outside} → TakesAndWrites a b → TakesAndWrites b c → TakesAndWrites a c
takes_joined {a} {b} {c} one two = record {
  goes = goes_trans one.goes two.goes;
  sent = two.sent ∙ one.sent;
  write_faults = two.write_faults ∙ one.write_faults;
  adds = adds_trans (λ s d. a.sent ≡ Some s) one.goes.clock one.adds
      (adds_wider (λ s d. b.sent ≡ Some s) (λ s d. a.sent ≡ Some s) two.adds (λ s d new. sym one.sent ∙ new));
}

pub takes_none : (a : Outside) → TakesAndWrites a a
takes_none a = record { goes = goes_refl a; sent = refl; write_faults = refl; adds = adds_refl a (λ s d. a.sent ≡ Some s) }

-- ---- lists

-- a part behind a front goes on with it
pub longer : (n m : ℕ) (was : List ℕ) → take n was ++ take m (drop n was) ≡ take (n + m) was
longer n m was = sym (take-add n m was)

pub dropped : (n m : ℕ) (was : List ℕ) → drop m (drop n was) ≡ drop (n + m) was
dropped n m was = drop-drop m n was

-- a front of what a part of a buffer was filled with, behind what stands before it
pub filled : (at n len : ℕ) (out ys rest : List ℕ) → at ≤ length out → n ≤ length ys → take (at + n) (take at out ++ (ys ++ rest)) ≡ take at out ++ take n ys
filled at n len out ys rest within few =
    let front : length (take at out) ≡ at = omega (arith, length-take at out, within) in
    take-add at n (take at out ++ (ys ++ rest))
    ∙ (λ i. take_at (take at out) (ys ++ rest) at front i ++ take n (drop_at (take at out) (ys ++ rest) at front i))
    ∙ ap (λ (l : List ℕ). take at out ++ l) (take-append-le n ys rest few)

-- ---- feeding

pub feeds_none : (g : Geometry) (a : Outside) (loader : Loader) → Feeds g a a loader loader 0
feeds_none g a loader = record {
  within = λ was has. omega arith;
  takes = λ was has. has;
  loads = λ image joined was honest holds has is. (image, holds, subst (λ (bytes : List ℕ). IsLoadedTo g image bytes loader) (sym (append-nil joined)) is);
}

-- some more came, and was loaded
pub feeds_more : {g : Geometry} {a b c d : Outside} {old mid new : Loader} (n m : ℕ) (piece : List ℕ) → Goes a b → Feeds g a b old mid n → SourceOnly b c
    → ((was : List ℕ) → b.left ≡ Some was → (m ≤ length was) × (piece ≡ take m was) × (c.left ≡ Some (drop m was))) → DiskOnly c d → LoadsPiece g c d mid new piece
    → Feeds g a d old new (n + m)
feeds_more {g} {a} {b} {c} {d} {old} {mid} {new} n m piece goes so_far source takes disk loads = record {
  within = λ was has. let came = takes (drop n was) (so_far.takes was has) in let first = so_far.within was has in omega (arith, came.0, length-drop n was, first);
  takes = λ was has. let came = takes (drop n was) (so_far.takes was has) in disk.left ∙ came.2 ∙ ap (λ (l : List ℕ). Some l) (dropped n m was);
  loads = λ image joined was honest holds has is.
      let first = so_far.loads image joined was honest holds has is in
      let came = takes (drop n was) (so_far.takes was has) in
      let here = honest_on (goes_trans goes source.goes) honest in
      let later = loads first.0 (joined ++ take n was) here (source.disk ∙ first.1) first.2 in (
        later.0,
        later.1,
        subst (λ (bytes : List ℕ). IsLoadedTo g later.0 bytes new)
            (append_assoc joined (take n was) piece ∙ ap (λ (l : List ℕ). joined ++ l) (ap (λ (l : List ℕ). take n was ++ l) came.1 ∙ longer n m was)) later.2,
      );
}

pub feeds_joined : {g : Geometry} {a b c : Outside} {old mid new : Loader} (n m : ℕ) → Goes a b → Feeds g a b old mid n → Feeds g b c mid new m → Feeds g a c old new (n + m)
feeds_joined {g} {a} {b} {c} {old} {mid} {new} n m goes one two = record {
  within = λ was has. let first = one.within was has in let second = two.within (drop n was) (one.takes was has) in omega (arith, first, second, length-drop n was);
  takes = λ was has. two.takes (drop n was) (one.takes was has) ∙ ap (λ (l : List ℕ). Some l) (dropped n m was);
  loads = λ image joined was honest holds has is.
      let first = one.loads image joined was honest holds has is in
      let later = two.loads first.0 (joined ++ take n was) (drop n was) (honest_on goes honest) first.1 (one.takes was has) first.2 in (
        later.0,
        later.1,
        subst (λ (bytes : List ℕ). IsLoadedTo g later.0 bytes new) (append_assoc joined (take n was) (take m (drop n was)) ∙ ap (λ (l : List ℕ). joined ++ l) (longer n m was)) later.2,
      );
}

-- What is refused behind what came is refused.
pub none_behind : {g : Geometry} {a b : Outside} {old mid : Loader} (n : ℕ) → Goes a b → Feeds g a b old mid n → NoneComes g b mid → NoneComes g a old
none_behind {g} {a} {b} {old} {mid} n goes so_far none = λ image joined was honest holds has is.
    let first = so_far.loads image joined was honest holds has is in
    let refused = none first.0 (joined ++ take n was) (drop n was) (honest_on goes honest) first.1 (so_far.takes was has) first.2 in
    subst (λ (bytes : List ℕ). IsNoDump bytes g) (append_assoc joined (take n was) (drop n was) ∙ ap (λ (l : List ℕ). joined ++ l) (take-append-drop n was)) refused

-- No dump begins with what was refused.
pub none_comes : {g : Geometry} {a b c : Outside} {old mid : Loader} (n m : ℕ) (piece : List ℕ) → Goes a b → Feeds g a b old mid n → SourceOnly b c
    → ((was : List ℕ) → b.left ≡ Some was → (m ≤ length was) × (piece ≡ take m was) × (c.left ≡ Some (drop m was))) → RefusesPiece g c mid piece → NoneComes g a old
none_comes {g} {a} {b} {c} {old} {mid} n m piece goes so_far source takes refuses = λ image joined was honest holds has is.
    let first = so_far.loads image joined was honest holds has is in
    let came = takes (drop n was) (so_far.takes was has) in
    let here = honest_on (goes_trans goes source.goes) honest in
    let cant = refuses first.0 (joined ++ take n was) here (source.disk ∙ first.1) first.2 in
    let whole : ((joined ++ take n was) ++ piece) ++ drop m (drop n was) ≡ joined ++ was =
    append_assoc (joined ++ take n was) piece (drop m (drop n was))
    ∙ append_assoc joined (take n was) (piece ++ drop m (drop n was))
    ∙ ap (λ (l : List ℕ). joined ++ (take n was ++ l)) (ap (λ (l : List ℕ). l ++ drop m (drop n was)) came.1 ∙ take-append-drop m (drop n was))
    ∙ ap (λ (l : List ℕ). joined ++ l) (take-append-drop n was) in
    cant.none (drop m (drop n was)) (joined ++ was) ([], sym whole ∙ sym (append-nil (((joined ++ take n was) ++ piece) ++ drop m (drop n was))))

-- A stream that is longer than a dump with its head is none.
pub too_long : (g : Geometry) (image joined was : List ℕ) (head : Head) (loader : Loader) → stream_head loader.progress.head ≡ stream_head head → length joined ≡ 52 → IsLoadedTo g image joined loader
    → most_behind g head ≤ length was → IsNoDump (joined ++ was) g
too_long g image joined was head loader same long is more t dump =
    let front : Front = is.read.front in
    let to = is.read.to.front in
    let own : HasHead (joined ++ was) front.head = record {
      fits = to.head.fits;
      spelled =
          take-append-le 52 joined was (omega (arith, long))
          ∙ take_all 52 joined (omega (arith, long))
          ∙ all_head joined front.head _ long to.joined_is;
    } in
    let same_head : front.head ≡ head_of g dump.history = one_head_on (joined ++ was) front.head (head_of g dump.history) own (dump_head g (joined ++ was) t dump) in
    let keeps : stream_head head ≡ head_of g dump.history = sym same ∙ is.read.keeps.head ∙ same_head in
    let short = is_short g dump.history t dump.of in
    let most : bytes_most g.page_size (leaf_bytes g) (stream_head head) ≡ bytes_most g.page_size (leaf_bytes g) (head_of g dump.history) = ap (bytes_most g.page_size (leaf_bytes g)) keeps in
    omega (arith, short, ap length dump.spelled, length-append joined was, long, more, most)
  where
    all_head : (xs : List ℕ) (h : StreamHead) (rest : List ℕ) → length xs ≡ 52 → xs ≡ head_bytes h ++ rest → xs ≡ head_bytes h
    all_head xs h rest long is =
        sym (take_all 52 xs (omega (arith, long))) ∙ ap (take 52) is ∙ take_at (head_bytes h) rest 52 (length-head h)

-- It is kept over a piece more, of the same stream.
pub feeds_on : {g : Geometry} {a b c : Outside} {old mid new : Loader} (n m : ℕ) → mid.progress.geometry ≡ g → Goes a b → Feeds g a b old mid n → Feeds mid.progress.geometry b c mid new m → Feeds g a c old new (n + m)
feeds_on {g} {a} {b} {c} {old} {mid} {new} n m same goes one two = feeds_joined n m goes one (subst (λ (x : Geometry). Feeds x b c mid new m) same two)

-- Where the source had no more than what came, all of it is loaded.
pub loads_all : {g : Geometry} {a b : Outside} {old new : Loader} (n : ℕ) → Feeds g a b old new n → ((was : List ℕ) → a.left ≡ Some was → length was ≤ n) → LoadsAll g a b old new
loads_all {g} {a} {b} {old} {new} n fed few = λ image joined was honest holds has is.
    let came = fed.loads image joined was honest holds has is in
    (came.0, came.1, subst (λ (bytes : List ℕ). IsLoadedTo g came.0 (joined ++ bytes) new) (take_all n was (few was has)) came.2)

-- Where nothing is left behind what came, the source had no more.
pub came_all : {g : Geometry} {a b : Outside} {old mid : Loader} (n : ℕ) → Feeds g a b old mid n → ((was : List ℕ) → b.left ≡ Some was → was ≡ []) → (was : List ℕ) → a.left ≡ Some was → length was ≤ n
came_all n fed none was has =
    let rest : length (drop n was) ≡ 0 = ap length (none (drop n was) (fed.takes was has)) in
    omega (arith, rest, length-drop n was)

-- Where more came than a dump with its head has, none comes behind the head.
pub too_much : {g : Geometry} {a b : Outside} {old new : Loader} (n : ℕ) → Feeds g a b old new n → most_behind g old.progress.head ≤ n → NoneBehindHead g a old
too_much {g} {a} {b} {old} {new} n fed more = λ image joined was honest holds has long is.
    let within = fed.within was has in
    too_long g image joined was old.progress.head old refl long is (omega (arith, more, within))

-- What is refused behind what came, of the same stream, is none behind the head.
pub refused_behind : {g : Geometry} {a b : Outside} {old mid : Loader} (n : ℕ) → mid.progress.geometry ≡ g → Goes a b → Feeds g a b old mid n → NoneComes mid.progress.geometry b mid → NoneBehindHead g a old
refused_behind {g} {a} {b} {old} {mid} n same goes fed none = λ image joined was honest holds has long is.
    none_behind n goes fed (subst (λ (x : Geometry). NoneComes x b mid) same none) image joined was honest holds has is

-- bytes that were taken, and then some more
pub drawn_on : (a b c : Outside) (n m : ℕ) → Takes a b n → Takes b c m → Takes a c (n + m)
drawn_on a b c n m one two = λ was has. two (drop n was) (one was has) ∙ ap (λ (l : List ℕ). Some l) (dropped n m was)

-- ---- a fault that is handed on

pub same_handed : {X : Type 0} (r : Result X LoadFault) (e f : LoadFault) → IsErrAnd r (λ x. x ≡ e) → r ≡ Err f → e ≡ f
same_handed (Ok x) e f handed is = absurd handed
same_handed (Err x) e f handed is = let same : x ≡ f = cc in sym handed ∙ same

-- What is known where the stream stops it is known of the fault that is handed on.
pub bad_handed : {X : Type 0} (Y : Type 0) (r : Result X LoadFault) (e : LoadFault) (fault : HeadFault) → IsErrAnd r (λ x. x ≡ e) → WhereBad Y e → r ≡ Err (Stream fault) → (fault ≡ Bad) × Y
bad_handed Y r e fault handed bad is = subst (WhereBad Y) (same_handed r e (Stream fault) handed is) bad
