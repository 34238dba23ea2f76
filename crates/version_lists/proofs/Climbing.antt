-- Climbs from a version to that from which it is derived, and on: they end at a first version.
use Rattle.std.proofs.Common.{◌≡◌, ℕ, zero, suc, ◌<◌, ◌≤◌, List, length, refl, ap, sym, subst, ◌∙◌, arith, true, nat_lt, Option, Some, None}
use Rattle.std.specs.Prelude.{filter}
use Rattle.std.proofs.lemmas.Bool.{ltb-true, lt-ltb, le-ltb}
use Rattle.version_lists.specs.declared.version.Version.{Version}
use Rattle.version_lists.specs.Versions.{unique_of, numbered_in, climbed, first_number}
use Rattle.version_lists.proofs.Lists.{Has, contains_has, filter_all, filter_one_more, find_key}
use Rattle.version_lists.proofs.Links.{Linked, older_of}

-- ---- one step

pub first_here : (n : ℕ) (vs : List Version) (v : Version) → v.older ≡ None → first_number n vs v ≡ unique_of v
unfolding first_number
first_here zero vs v e = refl
first_here (suc n) vs v e = ap (λ o. climbed (first_number n vs) (unique_of v) (numbered_in vs o)) e

pub first_up : (n : ℕ) (vs : List Version) (v w : Version) → numbered_in vs v.older ≡ Some w → first_number (suc n) vs v ≡ first_number n vs w
unfolding first_number
first_up n vs v w e = ap (climbed (first_number n vs) (unique_of v)) e

-- the version that one is derived from
pub record Parent (vs : List Version) (v : Version) : Type 0 where
  pub parent : Version
  pub there : Has vs parent
  pub is : v.older ≡ Some (unique_of parent)
  pub found : numbered_in vs v.older ≡ Some parent
  pub frozen : parent.frozen ≡ true
  pub lower : v.frozen ≡ true → unique_of parent < unique_of v

pub parent_of : (vs : List Version) → Linked vs → (v : Version) → Has vs v → (number : ℕ) → v.older ≡ Some number → Parent vs v
parent_of vs linked v m number e =
    let o = older_of vs v number (linked.1 v m) e in
    let there = contains_has vs o.older o.there in
    record {
      parent = o.older;
      there = there;
      is = e ∙ ap Some (sym o.number_is);
      found = ap (numbered_in vs) e ∙ find_key unique_of vs o.older number linked.0 there o.number_is;
      frozen = o.frozen;
      lower = λ frozen. subst (λ n. n < unique_of v) (sym o.number_is) (o.lower frozen);
    }

-- how many have a lower number
rank : List Version → Version → ℕ
rank vs v = length (filter (λ w. nat_lt (unique_of w) (unique_of v)) vs)

rank_lower : (vs : List Version) (v w : Version) → Has vs w → unique_of w < unique_of v → rank vs w < rank vs v
unfolding rank
rank_lower vs v w m l =
    filter_one_more (λ x. nat_lt (unique_of x) (unique_of w)) (λ x. nat_lt (unique_of x) (unique_of v)) vs w m
    (le-ltb (unique_of w) (unique_of w) (omega arith)) (lt-ltb (unique_of w) (unique_of v) l)
    (λ x k e. let d = ltb-true (unique_of x) (unique_of w) e in lt-ltb (unique_of x) (unique_of v) (omega (arith, d, l)))

rank_within : (vs : List Version) (v : Version) → Has vs v → rank vs v < length vs
unfolding rank
rank_within vs v m =
    let l = filter_one_more (λ x. nat_lt (unique_of x) (unique_of v)) (λ x. true) vs v m (le-ltb (unique_of v) (unique_of v) (omega arith)) refl (λ x k e. refl) in
    let d = ap length (filter_all (λ (x : Version). true) vs (λ x k. refl)) in
    omega (arith, l, d)

-- ---- climbs

-- a climb of n or more steps from the version ends at a first one
pub record Ends (vs : List Version) (n : ℕ) (v : Version) : Type 0 where
  pub first : Version
  pub there : Has vs first
  pub is : first.older ≡ None
  pub number : (k : ℕ) → n ≤ k → first_number k vs v ≡ unique_of first

ends_here : (vs : List Version) (n : ℕ) (v : Version) → Has vs v → v.older ≡ None → Ends vs n v
ends_here vs n v m e = record { first = v; there = m; is = e; number = λ k l. first_here k vs v e }

climb_above : (vs : List Version) (n : ℕ) (v : Version) (p : Parent vs v) (e : Ends vs n p.parent) (k : ℕ) → n < k → first_number k vs v ≡ unique_of e.first
climb_above vs n v p e zero l = absurd (omega (arith, l))
climb_above vs n v p e (suc k) l = first_up k vs v p.parent p.found ∙ e.number k (omega (arith, l))

ends_above : (vs : List Version) (n m : ℕ) (v : Version) (p : Parent vs v) → Ends vs m p.parent → m < n → Ends vs n v
ends_above vs n m v p e l = record {
  first = e.first;
  there = e.there;
  is = e.is;
  number = λ k s. climb_above vs m v p e k (omega (arith, l, s));
}

frozen_ends : (vs : List Version) → Linked vs → (n : ℕ) (v : Version) → Has vs v → v.frozen ≡ true → rank vs v ≤ n → Ends vs n v
frozen_ends vs linked zero v m frozen l = at v.older refl
  where
    at : (o : Option ℕ) → v.older ≡ o → Ends vs zero v
    at None e = ends_here vs zero v m e
    at (Some number) e = let p = parent_of vs linked v m number e in let d = rank_lower vs v p.parent p.there (p.lower frozen) in absurd (omega (arith, l, d))
frozen_ends vs linked (suc n) v m frozen l = at v.older refl (λ w. frozen_ends vs linked n w)
  where
    at : (o : Option ℕ) → v.older ≡ o → ((w : Version) → Has vs w → w.frozen ≡ true → rank vs w ≤ n → Ends vs n w) → Ends vs (suc n) v
    at None e rest = ends_here vs (suc n) v m e
    at (Some number) e rest =
        let p = parent_of vs linked v m number e in
        let d = rank_lower vs v p.parent p.there (p.lower frozen) in
        ends_above vs (suc n) n v p (rest p.parent p.there p.frozen (omega (arith, l, d))) (omega arith)

pub version_ends : (vs : List Version) → Linked vs → (v : Version) → Has vs v → Ends vs (length vs) v
version_ends vs linked v m = at v.older refl
  where
    at : (o : Option ℕ) → v.older ≡ o → Ends vs (length vs) v
    at None e = ends_here vs (length vs) v m e
    at (Some number) e =
        let p = parent_of vs linked v m number e in
        ends_above vs (length vs) (rank vs p.parent) v p (frozen_ends vs linked (rank vs p.parent) p.parent p.there p.frozen (omega arith)) (rank_within vs p.parent p.there)

-- a version and the one that it is derived from are reached from one first version
pub same_first : (vs : List Version) → Linked vs → (v : Version) → Has vs v → (p : Parent vs v) → first_number (length vs) vs v ≡ first_number (length vs) vs p.parent
same_first vs linked v m p =
    let e = frozen_ends vs linked (rank vs p.parent) p.parent p.there p.frozen (omega arith) in
    let within = rank_within vs p.parent p.there in
    climb_above vs (rank vs p.parent) v p e (length vs) within ∙ sym (e.number (length vs) (omega (arith, within)))

-- what holds of first versions, and of each one step above where it holds, holds of all that are climbed from
module _ (vs : List Version) (linked : Linked vs) (P : ℕ → Version → Type 0)
    (at_first : (n : ℕ) (v : Version) → Has vs v → v.older ≡ None → P n v)
    (one_up : (n : ℕ) (v : Version) → Has vs v → (p : Parent vs v) → P n p.parent → P (suc n) v) where
  up_from : (m : ℕ) (v : Version) → Has vs v → (p : Parent vs v) → ((k : ℕ) → m ≤ k → P k p.parent) → (k : ℕ) → m < k → P k v
  up_from m v h p holds zero l = absurd (omega (arith, l))
  up_from m v h p holds (suc k) l = one_up k v h p (holds k (omega (arith, l)))

  frozen_climbs : (n : ℕ) (v : Version) → Has vs v → v.frozen ≡ true → rank vs v ≤ n → (k : ℕ) → n ≤ k → P k v
  frozen_climbs zero v m frozen l = at v.older refl
    where
      at : (o : Option ℕ) → v.older ≡ o → (k : ℕ) → zero ≤ k → P k v
      at None e k s = at_first k v m e
      at (Some number) e k s = let p = parent_of vs linked v m number e in let d = rank_lower vs v p.parent p.there (p.lower frozen) in absurd (omega (arith, l, d))
  frozen_climbs (suc n) v m frozen l = at v.older refl (frozen_climbs n)
    where
      at : (o : Option ℕ) → v.older ≡ o → ((w : Version) → Has vs w → w.frozen ≡ true → rank vs w ≤ n → (k : ℕ) → n ≤ k → P k w) → (k : ℕ) → suc n ≤ k → P k v
      at None e rest k s = at_first k v m e
      at (Some number) e rest k s =
          let p = parent_of vs linked v m number e in
          let d = rank_lower vs v p.parent p.there (p.lower frozen) in
          up_from n v m p (rest p.parent p.there p.frozen (omega (arith, l, d))) k (omega (arith, s))

  pub all_climb : (v : Version) → Has vs v → (k : ℕ) → length vs ≤ k → P k v
  all_climb v m = at v.older refl
    where
      at : (o : Option ℕ) → v.older ≡ o → (k : ℕ) → length vs ≤ k → P k v
      at None e k l = at_first k v m e
      at (Some number) e k l =
          let p = parent_of vs linked v m number e in
          let within = rank_within vs p.parent p.there in
          up_from (rank vs p.parent) v m p (frozen_climbs (rank vs p.parent) p.parent p.there p.frozen (omega arith)) k (omega (arith, l, within))
