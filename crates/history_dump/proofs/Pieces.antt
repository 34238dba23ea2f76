-- How far the stream of a volume at rest was sent.
use Rattle.std.proofs.Common.{◌≡◌, ◌≤◌, ◌<◌, ◌+◌, ◌-◌, ℕ, zero, suc, min, List, ◌++◌, length, take, drop, Option, Some, Result, Ok, Err, refl, sym, subst, ap, ◌∙◌, arith}
use Rattle.std.proofs.lemmas.List.{append-nil, append_assoc, length-drop, length-take, take_all}
use Rattle.ex_base.specs.Bytes.{part}
use Rattle.ex_base.specs.Area.{area_end}
use Rattle.ex_base.specs.declared.faults.PortFault.{PortFault}
use Rattle.disk_model.specs.Outside.{Outside}
use Rattle.tree_store.specs.Stored.{unit_bytes}
use Rattle.trees.specs.Trees.{Units}
use Rattle.volume_model.specs.Volume.{Volume}
use Rattle.volume_port.specs.Ported.{image_over}
use Rattle.volume_port.specs.declared.state.VolumeState.{VolumeState}
use Rattle.history_model.specs.History.{History}
use Rattle.history_model.specs.Stream.{stream_of}
use Rattle.history_items.specs.Gathering.{item_most}
use Rattle.history_dump.specs.Sending.{IsSending, SendsFew}
use Rattle.history_dump.specs.Writing.{IsGiving}
use Rattle.history_dump.specs.declared.dumper.Dumper.{Dumper}
use Rattle.history_dump.proofs.GivenOn.{take_front, take_more}
use Rattle.std.specs.Prelude.{nat_lt, if◌then◌else◌}

abbrev images_on : VolumeState → Option (List ℕ) → ℕ → List ℕ
images_on volume held = image_over volume.geometry volume.meta (unit_bytes volume.geometry held)

abbrev units_on : VolumeState → Option (List ℕ) → Units
units_on volume held unit = if nat_lt unit (area_end volume.geometry) then images_on volume held unit else unit_bytes volume.geometry held unit

module _ (a b : Outside) (i n : VolumeState) (rest : n ≡ record i { groups = n.groups }) (disk : b.disk ≡ a.disk) (v : Volume) (h : History) (d : Dumper) (at : ℕ) where
  pub sending_on : IsSending a i v h d at → IsSending b n v h d at
  sending_on is =
      let here : IsSending b i v h d at = subst (λ (held : Option (List ℕ)). IsGiving i.geometry (units_on i held) (images_on i held) v h d at) (sym disk) is in
      subst (λ (x : VolumeState). IsSending b x v h d at) (sym rest) here

  pub sending_back : IsSending b n v h d at → IsSending a i v h d at
  sending_back is =
      let here : IsSending b i v h d at = subst (λ (x : VolumeState). IsSending b x v h d at) rest is in
      subst (λ (held : Option (List ℕ)). IsGiving i.geometry (units_on i held) (images_on i held) v h d at) disk here

pub same_stream : (i n : VolumeState) (h : History) → n ≡ record i { groups = n.groups } → stream_of n.geometry h ≡ stream_of i.geometry h
same_stream i n h rest = ap (λ (x : VolumeState). stream_of x.geometry h) rest

front_on : (stream : List ℕ) (at n : ℕ) → take at stream ++ part stream at n ≡ take (at + n) stream
unfolding part
front_on stream at n = sym (take_more at n stream)

piece_front : (stream : List ℕ) (at k n : ℕ) (piece : List ℕ) → piece ≡ part stream at n → k ≤ n → take k piece ≡ part stream at k
unfolding part
piece_front stream at k n piece is le = ap (take k) is ∙ take_front k n (drop at stream) le

piece_inside : (stream : List ℕ) (at n : ℕ) (piece : List ℕ) → piece ≡ part stream at n → at ≤ length stream → at + length piece ≤ length stream
unfolding part
piece_inside stream at n piece is le = omega (arith, ap length is, length-take n (drop at stream), length-drop at stream, le)

-- so much of the stream of a history was sent since, over as many pieces at least
pub record HasSent (a : Outside) (i : VolumeState) (now : Outside) (v : Volume) (h : History) (d : Dumper) (left : ℕ) : Type 0 where
  pub at : ℕ
  pub sending : IsSending a i v h d at
  pub many : 18446744073709551615 ≤ at + left
  pub sent : (was : List ℕ) → a.sent ≡ Some was → now.sent ≡ Some (was ++ take at (stream_of i.geometry h))

module _ (a : Outside) (i : VolumeState) (v : Volume) (h : History) where
  abbrev stream : List ℕ
  stream = stream_of i.geometry h

  pub sent_none : (d : Dumper) → IsSending a i v h d 0 → HasSent a i a v h d 18446744073709551615
  sent_none d is = record { at = 0; sending = is; many = omega arith; sent = λ was has. has ∙ ap (λ (xs : List ℕ). Some xs) (sym (append-nil was)) }

  front_more : (at n : ℕ) (piece : List ℕ) → piece ≡ part stream at n → take at stream ++ piece ≡ take (at + n) stream
  front_more at n piece is = ap (λ (xs : List ℕ). take at stream ++ xs) is ∙ front_on stream at n

  pub sent_more : (now new : Outside) (d e : Dumper) (left n : ℕ) (piece : List ℕ) (so_far : HasSent a i now v h d (left + 1)) → IsSending a i v h e (so_far.at + n) → 0 < n → piece ≡ part stream so_far.at n
      → ((was : List ℕ) → now.sent ≡ Some was → new.sent ≡ Some (was ++ piece)) → HasSent a i new v h e left
  sent_more now new d e left n piece so_far is some bytes sent = record {
    at = so_far.at + n;
    sending = is;
    many = let many = so_far.many in omega (arith, many, some);
    sent = λ was has.
        sent (was ++ take so_far.at stream) (so_far.sent was has)
        ∙ ap (λ (xs : List ℕ). Some xs) (append_assoc was (take so_far.at stream) piece ∙ ap (λ (xs : List ℕ). was ++ xs) (front_more so_far.at n piece bytes));
  }

  pub sent_all : (now : Outside) (d : Dumper) (left : ℕ) (so_far : HasSent a i now v h d left) → so_far.at ≡ length stream → (was : List ℕ) → a.sent ≡ Some was → now.sent ≡ Some (was ++ stream)
  sent_all now d left so_far all was has =
      so_far.sent was has ∙ ap (λ (xs : List ℕ). Some (was ++ xs)) (take_all so_far.at stream (omega (arith, all)))

  less : (a b : ℕ) → a ≤ b → (a ≡ b → ⊥) → a < b
  less zero zero le differ = absurd (differ refl)
  less zero (suc b) le differ = omega arith
  less (suc a) zero le differ = absurd (omega (arith, le))
  less (suc a) (suc b) le differ = omega (arith, less a b (omega (arith, le)) (λ e. differ (ap suc e)))

  -- where not all was given
  pub sent_few : (now new : Outside) (d : Dumper) (left : ℕ) (so_far : HasSent a i now v h d left) → (so_far.at ≡ length stream → ⊥) → new.sent ≡ now.sent → (was : List ℕ) → a.sent ≡ Some was → SendsFew stream was new
  sent_few now new d left so_far more same was has = (so_far.at, less so_far.at (length stream) so_far.sending.inside more, same ∙ so_far.sent was has)

  -- where a part of a piece was sent
  pub sent_part : (now new : Outside) (d : Dumper) (left n : ℕ) (piece : List ℕ) (so_far : HasSent a i now v h d left) → piece ≡ part stream so_far.at n → length piece ≡ n
      → ((was : List ℕ) → now.sent ≡ Some was → (k : ℕ) × (k < length piece) × (new.sent ≡ Some (was ++ take k piece))) → (was : List ℕ) → a.sent ≡ Some was → SendsFew stream was new
  sent_part now new d left n piece so_far bytes len failed was has =
      let few = failed (was ++ take so_far.at stream) (so_far.sent was has) in
      let front : take few.0 piece ≡ part stream so_far.at few.0 = piece_front stream so_far.at few.0 n piece bytes (omega (arith, few.1, len)) in
      let inside : so_far.at + length piece ≤ length stream = piece_inside stream so_far.at n piece bytes so_far.sending.inside in (
        so_far.at + few.0,
        omega (arith, inside, few.1),
        few.2 ∙ ap (λ (xs : List ℕ). Some xs) (append_assoc was (take so_far.at stream) (take few.0 piece) ∙ ap (λ (xs : List ℕ). was ++ xs) (front_more so_far.at few.0 (take few.0 piece) front)),
      )

-- ---- a piece more

pub rest_on : (i n m : VolumeState) → n ≡ record i { groups = n.groups } → m ≡ record n { groups = m.groups } → m ≡ record i { groups = m.groups }
rest_on i n m one two = two ∙ ap (λ (x : VolumeState). record x { groups = m.groups }) one

pub room_on : (n m : VolumeState) (room : ℕ) → m ≡ record n { groups = m.groups } → item_most n.geometry ≤ room → item_most m.geometry ≤ room
room_on n m room rest fits = subst (λ (x : VolumeState). item_most x.geometry ≤ room) (sym rest) fits

module _ (a b : Outside) (i n : VolumeState) (rest : n ≡ record i { groups = n.groups }) (disk : b.disk ≡ a.disk) (v : Volume) (h : History) where
  abbrev Filled : Outside → VolumeState → Dumper → ℕ → ℕ → ℕ → List ℕ → Type 0
  Filled o x e at k room piece = (take k piece ≡ part (stream_of x.geometry h) at k) × IsSending o x v h e (at + k) × (k ≡ min room (length (stream_of x.geometry h) - at))

  pub filled : (e : Dumper) (at k room : ℕ) (piece : List ℕ) → Filled b n e at k room piece → Filled a i e at k room piece
  filled e at k room piece is =
      let same = same_stream i n h rest in (
        subst (λ (s : List ℕ). take k piece ≡ part s at k) same is.0,
        sending_back a b i n rest disk v h e (at + k) is.1,
        subst (λ (s : List ℕ). k ≡ min room (length s - at)) same is.2,
      )

  -- the last piece is empty
  pub filled_none : (e : Dumper) (at k : ℕ) (piece : List ℕ) → Filled a i e at k 65536 piece → at ≤ length (stream_of i.geometry h) → k ≡ 0 → at ≡ length (stream_of i.geometry h)
  filled_none e at k piece is inside none = omega (arith, is.2, inside, none)

pub failed_more : (fault : PortFault) (is : Result ℕ PortFault) → is ≡ Err fault → is ≡ Ok 0 → ⊥
failed_more fault is err ok = let e : ◌≡◌ {A = Result ℕ PortFault} (Err fault) (Ok 0) = sym err ∙ ok in absurd (cc)

-- the last piece of a stream of fewer bytes than pieces
pub pieces_end : (a : Outside) (i : VolumeState) (now : Outside) (v : Volume) (h : History) (d : Dumper) (left : ℕ) → HasSent a i now v h d left → left ≡ 0 → length (stream_of i.geometry h) < 18446744073709551615 → ⊥
pieces_end a i now v h d left so_far none short = let many = so_far.many in let inside = so_far.sending.inside in omega (arith, many, inside, none, short)
