-- The pages that a set has, once one of them was put in or taken out.
use Rattle.std.proofs.Common.{◌≡◌, ◌≢◌, ◌≤◌, ℕ, true, false, Bool, List, Result, Ok, Err, refl, sym, ap, subst, ◌∙◌, ◌⊎◌, inl, inr}
use Rattle.std.specs.Prelude.{Contains, IsTrue, ◌↔◌, OnErr, not, nat_eq}
use Rattle.std.proofs.lemmas.Bool.{eq-eqb}
use Rattle.std.specs.BTreeSet.{BTreeSet, Updates, contains}
use Rattle.std.specs.BTreeMap.{is_at}
use Rattle.std.proofs.lemmas.Map.Views.{btree_set_contains_iff, tells_apart}
use Rattle.ex_base.proofs.Counts.{same_or_not}
use Rattle.file_rooms.specs.declared.rooms.FilePage.{FilePage}
use Rattle.file_bodies.specs.declared.placing.Room.{Room}
use Rattle.file_rooms.specs.Rooms.{Marks, IsPassed, page_of}
use Rattle.file_rooms.proofs.Order.{page_order, total, exact}

pub same_page : (a b : FilePage) → (a ≡ b) ⊎ (a ≢ b)
same_page a b = elim (same_or_not a.file_no b.file_no) [
  | inl file ↦ elim (same_or_not a.page.0 b.page.0) [
    | inl page ↦ inl (ap (λ (n : ℕ). page_of n a.page.0) file ∙ ap (page_of b.file_no) page)
    | inr other ↦ inr (λ same. other (ap (λ (p : FilePage). p.page.0) same))
  ]
  | inr other ↦ inr (λ same. other (ap (λ (p : FilePage). p.file_no) same))
]

pub not_at : (a b : FilePage) → b ≢ a → (t : Bool) → is_at (page_order a) b ≡ t → is_at (page_order a) b ≡ false
not_at a b other true is = absurd (other (sym (tells_apart exact a b is)))
not_at a b other false is = is

pub marks_of : (s n : BTreeSet FilePage) (page : FilePage) (b : Bool) → Updates page_order s n page b → Marks s.keys n.keys page b
marks_of s n page b updates = record {
  others = λ other differ.
      let same : contains page_order n other ≡ contains page_order s other = updates.2 other (not_at page other differ (is_at (page_order page) other) refl) in
      let there = btree_set_contains_iff total exact n other in
      let here = btree_set_contains_iff total exact s other in
      (λ h. here.0 (subst IsTrue same (there.1 h)), λ h. there.0 (subst IsTrue (sym same) (here.1 h)));
  marked =
      let there = btree_set_contains_iff total exact n page in
      (λ h. subst IsTrue updates.1 (there.1 h), λ h. there.0 (subst IsTrue (sym updates.1) h));
}

pub absent_of : (s : BTreeSet FilePage) (page : FilePage) → contains page_order s page ≡ false → Contains s.keys page → ⊥
absent_of s page none h = absurd (let e : true ≡ false = sym ((btree_set_contains_iff total exact s page).1 h) ∙ none in cc)

-- what holds in any case holds after an error
pub on_err : {X Y : Type 0} {P : Type 0} (r : Result X Y) → P → OnErr r P
on_err (Ok x) p = tt
on_err (Err y) p = p

-- all but the page that wasn't taken
pub not_passed : (old new : List FilePage) (asked : Room) (taken : ℕ) → Marks old new (page_of asked.file_no asked.from.0) false → asked.from.0 ≢ taken
    → (page : FilePage) → Contains new page ↔ (Contains old page × (IsPassed asked taken page → ⊥))
not_passed old new asked taken marks differ page = elim (same_page page (page_of asked.file_no asked.from.0)) [
  | inl is ↦ (
    (λ there. absurd (let e : false ≡ true = marks.marked.0 (subst (Contains new) is there) in cc)),
    λ there. absurd (there.1 (differ, is)),
  )
  | inr other ↦ (
    (λ there. ((marks.others page other).0 there, λ passed. other passed.1)),
    λ there. (marks.others page other).1 there.0,
  )
]

-- all of them, where the page was taken
pub none_passed : (pages : List FilePage) (asked : Room) (taken : ℕ) → asked.from.0 ≡ taken → (page : FilePage) → Contains pages page ↔ (Contains pages page × (IsPassed asked taken page → ⊥))
none_passed pages asked taken same page = (λ there. (there, λ passed. passed.0 same), λ there. there.0)

-- what a test for unequal numbers says
pub differ_of : (r : Bool) (a b : ℕ) → r ≡ not (nat_eq a b) → r ≡ true → a ≢ b
differ_of r a b is differ same = absurd (let e : true ≡ false = sym differ ∙ is ∙ ap not (eq-eqb a b same) in cc)
