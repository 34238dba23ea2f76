-- Lists of groups.
use Rattle.std.proofs.Common.{◌≡◌, ◌<◌, ◌≤◌, ◌+◌, ◌++◌, take, drop, zero, ℕ, suc, List, ◌∷◌, [], length, map, All, Option, Some, IsSome, Result, Ok, Err, OnOk, OnErr, nat_eq, slice_get, slice_set, get_or, refl, sym, ap, subst, ◌∙◌, arith}
use Rattle.std.proofs.Math.Seq.{map-set_same}
use Rattle.std.proofs.lemmas.List.{length-map, length-set, get_or-set_same}
use Rattle.std.proofs.lemmas.List.Elements.{All-set, All-get_or}
use Rattle.std.proofs.lemmas.Option.{get_or_from_slice_get, slice_get-get_or}
use Rattle.std.proofs.lemmas.Result.{on_ok_weaker}
use Rattle.std.proofs.lemmas.Simd.{map-map}
use Rattle.std.specs.Map.{lookup}
use Rattle.buffer_groups.specs.Frames.{Frames, Lends, KeepsLending, IsHeld, Brought, NotBrought, page_of, forgotten}
use Rattle.buffer_groups.specs.Groups.{GroupBrought, GroupNotBrought, GroupsKeep, HasFrame, AreOfSize, SameKinds, kind_of, forgotten_in_all}

module _ (P : Frames → Type 0) where
  pub at_index : (gs : List Frames) (index : ℕ) (f : Frames) → slice_get gs index ≡ Some f → index < length gs → All P gs → P f
  at_index gs index f is h all = subst P (get_or_from_slice_get gs index f f is) (All-get_or P gs index f h all)

slice_get-set : (gs : List Frames) (index : ℕ) (f : Frames) → index < length gs → slice_get (slice_set gs index f) index ≡ Some f
slice_get-set gs index f h =
    slice_get-get_or (slice_set gs index f) index f (omega (arith, length-set gs index f)) ∙ ap Some (get_or-set_same gs index f f h)

-- ---- what the groups were made with

-- there are as many of them
pub same_count : (old new : List Frames) → SameKinds old new → length new ≡ length old
same_count old new kinds = sym (length-map new kind_of) ∙ ap length kinds ∙ length-map old kind_of

pub kinds_trans : (a b c : List Frames) → SameKinds a b → SameKinds b c → SameKinds a c
kinds_trans a b c one two = two ∙ one

pub kinds_forgotten : (page : ℕ) (groups : List Frames) → SameKinds groups (forgotten_in_all page groups)
kinds_forgotten page groups = map-map kind_of (forgotten page) groups

same_kind : (disk : Option (List ℕ)) (old new : Frames) → KeepsLending disk old new → kind_of new ≡ kind_of old
same_kind disk old new keeps = cc (keeps.cap, keeps.policy)

pub groups_keep : (disk : Option (List ℕ)) (gs : List Frames) (index : ℕ) (old new : Frames) → slice_get gs index ≡ Some old → index < length gs → KeepsLending disk old new
    → GroupsKeep disk gs (slice_set gs index new)
groups_keep disk gs index old new is h keeps = record {
  lends = λ all. All-set (Lends disk) gs index new (keeps.lends (at_index (Lends disk) gs index old is h all)) all;
  sizes = λ n all. All-set (λ f. f.page_size ≡ n) gs index new (keeps.page_size ∙ at_index (λ f. f.page_size ≡ n) gs index old is h all) all;
  kinds = map-set_same kind_of gs index new old (same_kind disk old new keeps ∙ sym (ap kind_of (get_or_from_slice_get gs index old old is)));
}

some_of : {X : Type 0} (o : Option X) (x : X) → o ≡ Some x → IsSome o
some_of o x e = rw e refl

-- a page that the group at the index brought
pub one_brought : (disk : Option (List ℕ)) (gs : List Frames) (index page : ℕ) (old new : Frames) (bytes : List ℕ) → slice_get gs index ≡ Some old → index < length gs
    → Brought disk old new page bytes → GroupBrought disk gs (slice_set gs index new) index page
one_brought disk gs index page old new bytes is h brought = record {
  before = old;
  after = new;
  bytes = bytes;
  at = is;
  groups = refl;
  brought = brought;
  has = record { group = new; at = slice_get-set gs index new h; found = some_of _ bytes brought.found };
}

pub group_brought : {T E : Type 0} (r : Result T E) (disk : Option (List ℕ)) (gs : List Frames) (index page : ℕ) (old new : Frames) → slice_get gs index ≡ Some old → index < length gs
    → OnOk r ((bytes : List ℕ) × Brought disk old new page bytes) → OnOk r (GroupBrought disk gs (slice_set gs index new) index page)
group_brought r disk gs index page old new is h = on_ok_weaker r (λ b. one_brought disk gs index page old new b.0 is h b.1)

-- the bytes of a page in the size of the groups' pages
pub held_of_size : (disk : Option (List ℕ)) (gs : List Frames) (index size page : ℕ) (group : Frames) (bytes : List ℕ) → slice_get gs index ≡ Some group → index < length gs → AreOfSize size gs
    → IsHeld disk size page bytes → IsHeld disk group.page_size page bytes
held_of_size disk gs index size page group bytes is h sizes told = λ held there.
    told held there ∙ ap (λ n. page_of held n page) (sym (at_index (λ f. f.page_size ≡ size) gs index group is h sizes))

-- a page that it did not bring
pub group_not_brought : {T E : Type 0} (r : Result T E) (gs : List Frames) (index page : ℕ) (old new : Frames) → slice_get gs index ≡ Some old
    → OnErr r (NotBrought old new page) → OnErr r (GroupNotBrought gs (slice_set gs index new) index page)
group_not_brought (Ok x) gs index page old new is n = tt
group_not_brought (Err e) gs index page old new is n = record { before = old; after = new; at = is; groups = refl; unchanged = n }

-- the group at the index has the frame that the groups have there
pub frame_there : (gs : List Frames) (index page : ℕ) (group : Frames) → slice_get gs index ≡ Some group → HasFrame gs index page → IsSome (lookup (nat_eq page) group.entries)
frame_there gs index page group is has =
    let at = has.at in
    let same : has.group ≡ group = cc in
    subst (λ (f : Frames). IsSome (lookup (nat_eq page) f.entries)) same has.found

-- ---- each group changed, one after the other

module _ {X : Type 0} (f : X → X) where
  pub mixed_all : (i : ℕ) (xs : List X) → length xs ≤ i → map f (take i xs) ++ drop i xs ≡ map f xs
  mixed_all zero [] h = refl
  mixed_all zero (x ∷ xs) h = absurd (omega arith)
  mixed_all (suc i) [] h = refl
  mixed_all (suc i) (x ∷ xs) h = ap (λ l. f x ∷ l) (mixed_all i xs (omega (arith, h)))

  pub mixed_more : (i : ℕ) (xs : List X) (d : X) → i < length xs
      → slice_set (map f (take i xs) ++ drop i xs) i (f (get_or (map f (take i xs) ++ drop i xs) i d)) ≡ map f (take (suc i) xs) ++ drop (suc i) xs
  mixed_more zero [] d h = absurd (omega arith)
  mixed_more zero (x ∷ xs) d h = refl
  mixed_more (suc i) [] d h = absurd (omega arith)
  mixed_more (suc i) (x ∷ xs) d h = ap (λ l. f x ∷ l) (mixed_more i xs d (omega (arith, h)))

  pub mixed_next : (i : ℕ) (xs now : List X) (item new : X) → i < length xs → now ≡ map f (take i xs) ++ drop i xs → new ≡ f (get_or now i item)
      → slice_set now i new ≡ map f (take (i + 1) xs) ++ drop (i + 1) xs
  mixed_next i xs now item new h is made =
      let on : suc i ≡ i + 1 = omega arith in
      ap (slice_set now i) made ∙ ap (λ (l : List X). slice_set l i (f (get_or l i item))) is ∙ mixed_more i xs item h ∙ ap (λ n. map f (take n xs) ++ drop n xs) on
