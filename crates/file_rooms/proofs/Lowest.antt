-- The lowest page of a file among pages in order.
use Rattle.std.proofs.Common.{◌≡◌, ◌≢◌, ◌≤◌, ◌<◌, ℕ, true, false, Bool, List, [], ◌∷◌, Option, Some, None, Ordering, refl, sym, ap, subst, ◌∙◌, arith, inl, inr}
use Rattle.std.specs.Prelude.{Contains, IsTrue, MatchOption, nat_lt, nat_eq, if◌then◌else◌}
use Rattle.std.specs.Map.{lookup}
use Rattle.std.proofs.lemmas.Bool.{ltb-true, ltb-false}
use Rattle.ex_base.specs.declared.names.PageNo.{PageNo}
use Rattle.file_bodies.specs.declared.placing.Room.{Room}
use Rattle.file_bodies.specs.Placing.{lowered_to}
use Rattle.std.specs.Ordering.{nat_cmp, ordering_then, is_gt, MatchOrdering}
use Rattle.std.specs.declared.cmp.Ordering.TheVariants.{Less, Equal, Greater}
use Rattle.std.specs.declared.ops.Bound.TheVariants.{Included, Unbounded}
use Rattle.std.specs.BTreeSet.{BTreeSet, contains, IsKeyRangeOf}
use Rattle.std.proofs.lemmas.Map.Views.{btree_set_contains_iff}
use Rattle.std.specs.Cmp.{ranks}
use Rattle.file_rooms.specs.declared.rooms.FilePage.{FilePage}
use Rattle.file_rooms.specs.Rooms.{Remembered, IsLowestOf, IsLookedFrom, page_of, room_for, room_of}
use Rattle.file_rooms.proofs.Order.{page_order, total, exact}
use Rattle.file_rooms.proofs.Marked.{absent_of}

file_le : (x y : ℕ) (o p : Ordering) → MatchOrdering o (x < y) (x ≡ y) (y < x) → is_gt (ordering_then o p) ≡ false → x ≤ y
file_le x y Less p r e = omega arith
file_le x y Equal p r e = omega (arith, r)
file_le x y Greater p r e = absurd (let t : true ≡ false = e in cc)

page_le : (x y m n : ℕ) (o p : Ordering) → MatchOrdering o (x < y) (x ≡ y) (y < x) → MatchOrdering p (m < n) (m ≡ n) (n < m) → x ≡ y → is_gt (ordering_then o p) ≡ false → m ≤ n
page_le x y m n Less p r s same e = absurd (omega (arith, r))
page_le x y m n Equal Less r s same e = omega (arith, s)
page_le x y m n Equal Equal r s same e = omega (arith, s)
page_le x y m n Equal Greater r s same e = absurd (let t : true ≡ false = e in cc)
page_le x y m n Greater p r s same e = absurd (omega (arith, r))

not_gt : (x y m n : ℕ) (o p : Ordering) → MatchOrdering o (x < y) (x ≡ y) (y < x) → MatchOrdering p (m < n) (m ≡ n) (n < m) → x ≡ y → m ≤ n → is_gt (ordering_then o p) ≡ false
not_gt x y m n Less p r s same le = refl
not_gt x y m n Equal Less r s same le = refl
not_gt x y m n Equal Equal r s same le = refl
not_gt x y m n Equal Greater r s same le = absurd (omega (arith, s))
not_gt x y m n Greater p r s same le = absurd (omega (arith, r))

pub le_file : (a b : FilePage) → is_gt (page_order a b) ≡ false → a.file_no ≤ b.file_no
le_file a b = file_le a.file_no b.file_no (nat_cmp a.file_no b.file_no) (nat_cmp a.page.0 b.page.0) (ranks a.file_no b.file_no)

pub le_page : (a b : FilePage) → a.file_no ≡ b.file_no → is_gt (page_order a b) ≡ false → a.page.0 ≤ b.page.0
le_page a b = page_le a.file_no b.file_no a.page.0 b.page.0 (nat_cmp a.file_no b.file_no) (nat_cmp a.page.0 b.page.0) (ranks a.file_no b.file_no) (ranks a.page.0 b.page.0)

pub from_first : (file_no page : ℕ) → is_gt (page_order (page_of file_no 0) (page_of file_no page)) ≡ false
from_first file_no page = not_gt file_no file_no 0 page (nat_cmp file_no file_no) (nat_cmp 0 page) (ranks file_no file_no) (ranks 0 page) refl (omega arith)

module _ (s : BTreeSet FilePage) (r : List FilePage) (file_no : ℕ) (range : IsKeyRangeOf page_order (Included (page_of file_no 0)) Unbounded s r) where
  has : (page : FilePage) → Contains s.keys page → IsTrue (contains page_order s page)
  has page = (btree_set_contains_iff total exact s page).1

  pub none_in : r ≡ [] → IsLowestOf s.keys file_no None
  none_in is page among = absent_of s (page_of file_no page) (range.5 is (page_of file_no page) (from_first file_no page, tt)) among

  module _ (first : FilePage) (rest : List FilePage) (is : r ≡ first ∷ rest) where
    starts : IsKeyRangeOf page_order (Included (page_of file_no 0)) Unbounded s (first ∷ rest)
    starts = subst (IsKeyRangeOf page_order (Included (page_of file_no 0)) Unbounded s) is range

    below : (page : ℕ) → Contains s.keys (page_of file_no page) → is_gt (page_order first (page_of file_no page)) ≡ false
    below page among = starts.2 (page_of file_no page) (from_first file_no page, tt) (has (page_of file_no page) among)

    pub none_of_file : first.file_no ≢ file_no → IsLowestOf s.keys file_no None
    none_of_file other page among = other (omega (arith, le_file first (page_of file_no page) (below page among), le_file (page_of file_no 0) first starts.1.0.0))

    pub first_of_file : first.file_no ≡ file_no → IsLowestOf s.keys file_no (Some first.page)
    first_of_file same = (
      (btree_set_contains_iff total exact s (page_of file_no first.page.0)).0 (subst (λ (n : ℕ). IsTrue (contains page_order s (page_of n first.page.0))) same starts.1.1),
      λ page among. le_page first (page_of file_no page) same (below page among),
    )

-- what a step of an iterator says where nothing is left
pub none_first : {A : Type 0} (r : Option A) (P : Type 0) (Q : A → Type 0) → MatchOption r P Q → r ≡ None → P
none_first None P Q h is = h
none_first (Some x) P Q h is = absurd (let e : Some x ≡ None = is in cc)

-- ---- where a place is looked for

pub room_file : (file_no : ℕ) (room : Option Room) → (room_for file_no room).file_no ≡ file_no
room_file file_no None = refl
room_file file_no (Some room) = refl

module _ (known : Remembered) (file_no : ℕ) where
  pub looked_none : IsLowestOf known.roomy file_no None → IsLookedFrom known file_no (room_of known.rooms file_no)
  looked_none none = record {
    file = room_file file_no (lookup (nat_eq file_no) known.rooms);
    len = refl;
    from = omega arith;
    roomy = λ page among. absurd (none page among);
    reached = inl refl;
  }

  pub looked_some : (page : PageNo) → IsLowestOf known.roomy file_no (Some page) → IsLookedFrom known file_no (lowered_to (room_of known.rooms file_no) page.0)
  looked_some page lowest = by_test (nat_lt page.0 (room_of known.rooms file_no).from.0) refl
    where
      by_test : (t : Bool) → nat_lt page.0 (room_of known.rooms file_no).from.0 ≡ t
          → IsLookedFrom known file_no (if t then record (room_of known.rooms file_no) { from = record { 0 = page.0 } } else room_of known.rooms file_no)
      by_test true is = record {
        file = room_file file_no (lookup (nat_eq file_no) known.rooms);
        len = refl;
        from = omega (arith, ltb-true page.0 (room_of known.rooms file_no).from.0 is);
        roomy = lowest.1;
        reached = inr lowest.0;
      }
      by_test false is = record {
        file = room_file file_no (lookup (nat_eq file_no) known.rooms);
        len = refl;
        from = omega arith;
        roomy = λ other among. omega (arith, lowest.1 other among, ltb-false page.0 (room_of known.rooms file_no).from.0 is);
        reached = inl refl;
      }
