-- What the loop that gives the bytes of a stream keeps.
use Rattle.std.proofs.Common.{◌≡◌, ◌≤◌, ◌+◌, ◌-◌, ℕ, zero, suc, true, List, [], ◌∷◌, ◌++◌, length, take, drop, Result, Ok, refl, sym, subst, ap, ◌∙◌, arith}
use Rattle.std.proofs.lemmas.List.{drop-drop, drop-take, length-take, take-append-drop, take-append-le}
use Rattle.std.proofs.Math.Seq.{take-append-add}
use Rattle.ex_base.specs.declared.ground.Ground as ground
use Rattle.ex_base.specs.declared.geometry.Geometry.{Geometry}
use Rattle.ex_base.specs.declared.faults.PortFault.{PortFault}
use Rattle.ex_base.specs.Bytes.{part}
use Rattle.ex_base.specs.Ports.{Keeps}
use Rattle.volume_model.specs.Volume.{Volume}
use Rattle.history_model.specs.History.{History}
use Rattle.history_model.specs.Stream.{stream_of}
use Rattle.history_dump.specs.Positions.{is_end, stream_from}
use Rattle.history_dump.specs.Writing.{IsWriting, item_left}
use Rattle.history_dump.specs.declared.dumper.Dumper.{Dumper}
use Rattle.history_dump.specs.declared.position.Position.{Position}
use Rattle.history_dump.specs.declared.position.Position.TheVariants.{Head, Leaf, Node, File, Version, End}
use Rattle.history_dump.proofs.Giving.{all_given, given_on, part_given, same_back, same_kept, writing_same}

-- ---- bytes

pub part_none : (s : List ℕ) (at : ℕ) → [] ≡ part s at 0
unfolding part
part_none s at = refl

pub take_front : (n m : ℕ) (xs : List ℕ) → n ≤ m → take n (take m xs) ≡ take n xs
take_front zero m xs le = refl
take_front (suc n) zero xs le = absurd (omega (arith, le))
take_front (suc n) (suc m) [] le = refl
take_front (suc n) (suc m) (x ∷ xs) le = ap (λ (ys : List ℕ). x ∷ ys) (take_front n m xs (omega (arith, le)))

pub take_more : (n m : ℕ) (xs : List ℕ) → take (n + m) xs ≡ take n xs ++ take m (drop n xs)
take_more n m xs =
    sym (take-append-drop n (take (n + m) xs)) ∙ ap (λ (ys : List ℕ). take n (take (n + m) xs) ++ ys) (drop-take n m xs)
    ∙ ap (λ (ys : List ℕ). ys ++ take m (drop n xs)) (take_front n (n + m) xs (omega arith))

pub part_joined : (s : List ℕ) (at n m : ℕ) → part s at n ++ part s (at + n) m ≡ part s at (n + m)
unfolding part
part_joined s at n m = ap (λ (ys : List ℕ). take n (drop at s) ++ take m ys) (sym (drop-drop n at s)) ∙ sym (take_more n m (drop at s))

-- of a piece that was put behind others
pub piece_taken : (a n : ℕ) (xs ys rest : List ℕ) → a ≤ length xs → n ≤ length ys → take (a + n) (take a xs ++ (ys ++ rest)) ≡ take a xs ++ take n ys
piece_taken a n xs ys rest le few =
    let len : a + n ≡ length (take a xs) + n = omega (arith, length-take a xs, le) in
    ap (λ (k : ℕ). take k (take a xs ++ (ys ++ rest))) len ∙ take-append-add (take a xs) (ys ++ rest) n ∙ ap (λ (zs : List ℕ). take a xs ++ zs) (take-append-le n ys rest few)

-- of what is left of an item, a front
pub front_left : (xs : List ℕ) (given end n : ℕ) → n ≤ end - given → given ≤ end → take (given + n - given) (drop given xs) ≡ take n (drop given (take end xs))
front_left xs given end n few le =
    let all : given + (end - given) ≡ end = omega (arith, le) in
    let len : given + n - given ≡ n = omega arith in
    ap (λ (k : ℕ). take k (drop given xs)) len ∙ sym (take_front n (end - given) (drop given xs) few)
    ∙ ap (take n) (sym (drop-take given (end - given) xs) ∙ ap (λ (k : ℕ). drop given (take k xs)) all)

pub end_none : (g : Geometry) (h : History) (p : Position) → is_end p ≡ true → stream_from g h p ≡ []
end_none g h Head e = absurd (cc)
end_none g h (Leaf at) e = absurd (cc)
end_none g h (Node at) e = absurd (cc)
end_none g h (File at) e = absurd (cc)
end_none g h (Version next at) e = absurd (cc)
end_none g h End e = refl

pub nothing : (n : ℕ) → n ≡ 0 → ◌≡◌ {A = Result ℕ PortFault} (Ok n) (Ok 0)
nothing n none = ap (λ (k : ℕ). let r : Result ℕ PortFault = Ok k in r) none

-- ---- the loop

module _ {S : Type 0} (g : ground.Ghosts S) where
  pub moved : (a : S) (v : Volume) (h : History) (d : Dumper) (at to : ℕ) → IsWriting g a v h d at → at ≡ to → IsWriting g a v h d to
  moved a v h d at to is e = subst (λ (n : ℕ). IsWriting g a v h d n) e is

  module _ (a b : S) (kept : Keeps g a b) (v : Volume) (h : History) where
    pub there : (d : Dumper) (at : ℕ) → IsWriting g a v h d at → IsWriting g b v h d at
    there d at is = writing_same g a b v h d at (same_kept g a b kept) is

    pub back : (d : Dumper) (at : ℕ) → IsWriting g b v h d at → IsWriting g a v h d at
    back d at is = writing_same g b a v h d at (same_back g a b (same_kept g a b kept)) is

    pub same_stream : stream_of (g.geometry b) h ≡ stream_of (g.geometry a) h
    same_stream = let same = same_kept g a b kept in ap (λ (x : Geometry). stream_of x h) same.geometry

  -- so many bytes were given since
  abbrev pub HasGiven : S → Volume → History → Dumper → ℕ → ℕ → List ℕ → Type 0
  HasGiven a v h d at len out = (take len out ≡ part (stream_of (g.geometry a) h) at len) × IsWriting g a v h d (at + len)

  pub given_none : (a : S) (v : Volume) (h : History) (d : Dumper) (at : ℕ) → IsWriting g a v h d at → ([] ≡ part (stream_of (g.geometry a) h) at 0) × IsWriting g a v h d (at + 0)
  given_none a v h d at is = (part_none (stream_of (g.geometry a) h) at, moved a v h d at (at + 0) is (omega arith))

  pub given_more : (a : S) (v : Volume) (h : History) (made new : Dumper) (at len n : ℕ) (out piece rest : List ℕ) → IsWriting g a v h made (at + len) → take len out ≡ part (stream_of (g.geometry a) h) at len → len ≤ length out
      → n ≤ length (item_left made) → n ≤ length piece → take n piece ≡ take n (item_left made) → item_left new ≡ drop n (item_left made) → new.items ≡ made.items → new.position ≡ made.position
      → (take (len + n) (take len out ++ (piece ++ rest)) ≡ part (stream_of (g.geometry a) h) at (len + n)) × IsWriting g a v h new (at + (len + n))
  given_more a v h made new at len n out piece rest is so_far inside le few bytes left items place =
      let s = stream_of (g.geometry a) h in
      let here = part_given s (item_left made) (stream_from (g.geometry a) h made.position) (at + len) n is.gives.left le in (
        piece_taken len n out piece rest inside few ∙ ap (λ (xs : List ℕ). xs ++ take n piece) so_far ∙ ap (λ (xs : List ℕ). part s at len ++ xs) (bytes ∙ here) ∙ part_joined s at len n,
        moved a v h new (at + len + n) (at + (len + n)) (given_on g a v h made new (at + len) n is le items place left) (omega arith),
      )

  -- where no item is left
  pub given_all : (a : S) (v : Volume) (h : History) (d : Dumper) (at : ℕ) → IsWriting g a v h d at → item_left d ≡ [] → is_end d.position ≡ true → at ≡ length (stream_of (g.geometry a) h)
  given_all a v h d at is none end =
      all_given (stream_of (g.geometry a) h) (item_left d) (stream_from (g.geometry a) h d.position) at is.gives.left is.gives.inside none (end_none (g.geometry a) h d.position end)
