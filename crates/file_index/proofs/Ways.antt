-- From the entry that a key leads to back to the page that names it, over a call that keeps the pages.
use Rattle.std.proofs.Common.{◌≡◌, ◌≢◌, ◌⊎◌, inl, inr, ◌+◌, drop, ◌-◌, ◌≤◌, ◌<◌, ℕ, zero, suc, Bool, true, false, List, [], ◌∷◌, length, Option, Some, None, nat_lt, refl, sym, ap, subst, ◌∙◌, arith, eqb, lt-ltb, le-ltb, sub-one}
use Rattle.std.specs.Prelude.{if◌then◌else◌, slice_index_or, ◌==◌}
use Rattle.ex_base.specs.Ports.{Keeps}
use Rattle.ex_base.specs.declared.faults.PortFault.{PortFault}
use Rattle.ex_base.specs.declared.geometry.Geometry.{Geometry}
use Rattle.ex_base.specs.declared.ground.Ground as ground
use Rattle.ex_base.specs.declared.names.PageNo.{PageNo}
use Rattle.ex_base.proofs.Counts.{not_equal}
use Rattle.file_index.specs.declared.Entry.{Entry}
use Rattle.file_index.specs.IndexPage.{entries_on}
use Rattle.file_index.specs.declared.step.Step.{Step}
use Rattle.file_index.specs.Least.{pick_from, pick, page_no}
use Rattle.file_index.specs.Damage.{every_page, IsGoneFault, IsPageFault, IsNamedAt, place_in, no_entry, entry_in, child_in, place_beside, beside_in, IsWay, IsWayFault, IsWayUnder, IsFaultUnder, IsEntryFault, IsBesideFault, IsBesideUnder, IsBesideFrom, IsWayFrom, IsFaultFrom, found_under}
use Rattle.file_index.proofs.Blame.{way_below, way_on}

-- ---- the end of a way

pub found_next : (image : ℕ → List ℕ) (key level page : ℕ) (next : Option PageNo) → level ≡ 0 → page < key → next ≡ found_under image key level page next
found_next image key zero page next none lt = let test : nat_lt page key ≡ true = lt-ltb page key lt in rw test refl
found_next image key (suc level) page next none lt = absurd (omega arith)

pub found_here : (image : ℕ → List ℕ) (key level : ℕ) (page : PageNo) (next : Option PageNo) → level ≡ 0 → key ≤ page.0 → Some page ≡ found_under image key level page.0 next
found_here image key zero page next none le = let test : nat_lt page.0 key ≡ false = le-ltb page.0 key le in rw test refl
found_here image key (suc level) page next none le = absurd (omega arith)

-- ---- the entry that a key leads to

picked_from : (entry : Entry) (entries : List Entry) (key : ℕ) (next : Option PageNo) → (pick_from entry entries key next).child ≡ child_in key (entry ∷ entries)
picked_from entry [] key next = refl
picked_from entry (after ∷ entries) key next =
    elim (nat_lt key after.key) as (λ t. (if t then record { child = entry; next = Some (page_no after.key) } else pick_from after entries key next).child ≡ entry_in (entry ∷ after ∷ entries) (if t then 0 else suc (place_in key (after ∷ entries)))) [
      | true ↦ refl
      | false ↦ picked_from after entries key next
    ]

pub picked_child : (entries : List Entry) (key : ℕ) (next : Option PageNo) → 1 ≤ length entries → (pick entries key next).child ≡ child_in key entries
picked_child [] key next some = absurd (omega arith)
picked_child (entry ∷ entries) key next some = picked_from entry entries key next

module _ {S : Type 0} (g : ground.Ghosts S) (a b : S) (file_no level : ℕ) (least : Option ℕ) (page key : ℕ) (next : Option PageNo) (step : Step) where
  child_is : IsNamedAt (g.geometry a) (g.image a) level file_no least page → step ≡ pick (entries_on (g.image a page)) key next → step.child ≡ child_in key (entries_on (g.image a page))
  child_is at is = ap (λ (s : Step). s.child) is ∙ picked_child (entries_on (g.image a page)) key next (omega (arith, at.named.two))

  pub fault_down : (fault : PortFault) → level ≢ 0 → Keeps g a b → (g.tells a → step ≡ pick (entries_on (g.image a page)) key next) → (g.tells a → IsNamedAt (g.geometry a) (g.image a) level file_no least page)
      → (g.tells b → IsWayFault (g.geometry b) every_page (g.image b) file_no key (level - 1) (Some step.child.key) step.child.page.0 fault) → g.tells a → IsWayFault (g.geometry a) every_page (g.image a) file_no key level least page fault
  fault_down fault above kept is at below told =
      let here = below (g.leads_told a b kept.leads told) in
      let old : IsWayFault (g.geometry a) every_page (g.image a) file_no key (level - 1) (Some step.child.key) step.child.page.0 fault =
      subst (λ (u : ℕ → List ℕ). IsWayFault (g.geometry a) every_page u file_no key (level - 1) (Some step.child.key) step.child.page.0 fault) kept.images
      (subst (λ (y : Geometry). IsWayFault y every_page (g.image b) file_no key (level - 1) (Some step.child.key) step.child.page.0 fault) (g.leads_geometry a b kept.leads) here) in
      way_below (g.geometry a) every_page (g.image a) file_no key level least page fault above (at told)
      (subst (λ (e : Entry). IsWayFault (g.geometry a) every_page (g.image a) file_no key (level - 1) (Some e.key) e.page.0 fault) (child_is (at told) (is told)) old)

  pub way_down : level ≢ 0 → Keeps g a b → (g.tells a → step ≡ pick (entries_on (g.image a page)) key next) → (g.tells a → IsNamedAt (g.geometry a) (g.image a) level file_no least page)
      → (g.tells b → IsWay (g.geometry b) (g.image b) file_no key (level - 1) (Some step.child.key) step.child.page.0) → g.tells a → IsWay (g.geometry a) (g.image a) file_no key level least page
  way_down above kept is at below told =
      let here = below (g.leads_told a b kept.leads told) in
      let old : IsWay (g.geometry a) (g.image a) file_no key (level - 1) (Some step.child.key) step.child.page.0 =
      subst (λ (u : ℕ → List ℕ). IsWay (g.geometry a) u file_no key (level - 1) (Some step.child.key) step.child.page.0) kept.images
      (subst (λ (y : Geometry). IsWay y (g.image b) file_no key (level - 1) (Some step.child.key) step.child.page.0) (g.leads_geometry a b kept.leads) here) in
      way_on (g.geometry a) (g.image a) file_no key level least page above (at told)
      (subst (λ (e : Entry). IsWay (g.geometry a) (g.image a) file_no key (level - 1) (Some e.key) e.page.0) (child_is (at told) (is told)) old)

  found_at : (l : ℕ) → l ≢ 0 → found_under (g.image a) key (l - 1) (pick (entries_on (g.image a page)) key next).child.page.0 (pick (entries_on (g.image a page)) key next).next ≡ found_under (g.image a) key l page next
  found_at zero above = absurd (above refl)
  found_at (suc l) above = rw sub-one refl

  pub found_down : (answer : Option PageNo) → level ≢ 0 → Keeps g a b → (g.tells a → step ≡ pick (entries_on (g.image a page)) key next)
      → (g.tells b → answer ≡ found_under (g.image b) key (level - 1) step.child.page.0 step.next) → g.tells a → answer ≡ found_under (g.image a) key level page next
  found_down answer above kept is below told =
      below (g.leads_told a b kept.leads told)
      ∙ ap (λ (u : ℕ → List ℕ). found_under u key (level - 1) step.child.page.0 step.next) kept.images
      ∙ ap (λ (s : Step). found_under (g.image a) key (level - 1) s.child.page.0 s.next) (is told)
      ∙ found_at level above

-- ---- an entry at a place

place_goes_at : (key : ℕ) (entries : List Entry) (at : ℕ) (after : Entry) → after ≡ slice_index_or entries (suc at) after → suc at < length entries → after.key ≤ key → place_in key (drop at entries) ≡ suc (place_in key (drop (suc at) entries))
place_goes_at key [] at after is lt low = absurd (omega arith)
place_goes_at key (x ∷ []) at after is lt low = absurd (omega arith)
place_goes_at key (x ∷ y ∷ entries) zero after is lt low =
    let test : nat_lt key y.key ≡ false = le-ltb key y.key (subst (λ (e : Entry). e.key ≤ key) is low) in
    rw test refl
place_goes_at key (x ∷ y ∷ entries) (suc at) after is lt low = place_goes_at key (y ∷ entries) at after is (omega arith) low

pub place_goes : (key : ℕ) (entries : List Entry) (at : ℕ) (after : Entry) → after ≡ slice_index_or entries (at + 1) after → at + 1 < length entries → after.key ≤ key → place_in key entries ≡ at + place_in key (drop at entries)
    → place_in key entries ≡ (at + 1) + place_in key (drop (at + 1) entries)
place_goes key entries at after is lt low so_far =
    let one : at + 1 ≡ suc at = omega arith in
    let more = place_goes_at key entries at after (subst (λ (k : ℕ). after ≡ slice_index_or entries k after) one is) (omega arith) low in
    rw one (omega (arith, more, so_far))

place_ends_at : (key : ℕ) (entries : List Entry) (at : ℕ) → at < length entries → length entries ≤ suc at → place_in key (drop at entries) ≡ 0
place_ends_at key [] at lt end = absurd (omega arith)
place_ends_at key (x ∷ []) zero lt end = refl
place_ends_at key (x ∷ y ∷ entries) zero lt end = absurd (omega arith)
place_ends_at key (x ∷ entries) (suc at) lt end = place_ends_at key entries at (omega arith) (omega arith)

pub place_ends : (key : ℕ) (entries : List Entry) (at : ℕ) → at < length entries → length entries ≤ at + 1 → place_in key entries ≡ at + place_in key (drop at entries) → at ≡ place_in key entries
place_ends key entries at lt end so_far = let none = place_ends_at key entries at lt (omega arith) in omega arith

pub any_default : (entries : List Entry) (at : ℕ) (d e : Entry) → at < length entries → slice_index_or entries at d ≡ slice_index_or entries at e
any_default [] at d e lt = absurd (omega arith)
any_default (x ∷ entries) zero d e lt = refl
any_default (x ∷ entries) (suc at) d e lt = any_default entries at d e (omega arith)

pub child_at : (key : ℕ) (entries : List Entry) (at : ℕ) (child : Entry) → at ≡ place_in key entries → at < length entries → child ≡ slice_index_or entries at child → child ≡ child_in key entries
child_at key entries at child place lt item = item ∙ any_default entries at child no_entry lt ∙ ap (entry_in entries) place

pub beside_at : (key : ℕ) (entries : List Entry) (at first : ℕ) (left right : Entry) → at ≡ place_in key entries → first ≡ at - 1 → first + 1 < length entries → left ≡ slice_index_or entries first left → right ≡ slice_index_or entries (first + 1) right
    → (if at == 0 then right else left) ≡ beside_in key entries
beside_at key entries zero first left right place is lt left_is right_is =
    right_is ∙ any_default entries (first + 1) right no_entry lt ∙ ap (entry_in entries) (let one : first + 1 ≡ 1 = omega arith in one) ∙ ap (λ (k : ℕ). entry_in entries (place_beside k)) place
beside_at key entries (suc at) first left right place is lt left_is right_is =
    let test : eqb (suc at) 0 ≡ false = not_equal (suc at) 0 (λ none. omega arith) in
    rw test
    (left_is ∙ any_default entries first left no_entry (omega arith) ∙ ap (entry_in entries) (let same : first ≡ at = omega arith in same) ∙ ap (λ (k : ℕ). entry_in entries (place_beside k)) place)

-- ---- below a page whose entries were read

module _ {S : Type 0} (g : ground.Ghosts S) (a b : S) (file_no level : ℕ) (least : Option ℕ) (page key : ℕ) (es : List Entry) (above : level ≢ 0) (kept : Keeps g a b) (read : g.tells a → es ≡ entries_on (g.image a page)) (at : g.tells a → IsNamedAt (g.geometry a) (g.image a) level file_no least page) where
  fault_old : (fault : PortFault) → (g.tells b → IsFaultUnder (g.geometry b) (g.held b) (g.image b) file_no key (level - 1) es fault) → g.tells a → IsFaultUnder (g.geometry a) (g.held a) (g.image a) file_no key (level - 1) (entries_on (g.image a page)) fault
  fault_old fault below told =
      subst (λ (l : List Entry). IsFaultUnder (g.geometry a) (g.held a) (g.image a) file_no key (level - 1) l fault) (read told)
      (subst (λ (h : ℕ → Bool). IsFaultUnder (g.geometry a) h (g.image a) file_no key (level - 1) es fault) kept.held
      (subst (λ (u : ℕ → List ℕ). IsFaultUnder (g.geometry a) (g.held b) u file_no key (level - 1) es fault) kept.images
      (subst (λ (y : Geometry). IsFaultUnder y (g.held b) (g.image b) file_no key (level - 1) es fault) (g.leads_geometry a b kept.leads) (below (g.leads_told a b kept.leads told)))))

  pub page_fault : (fault : PortFault) → (g.tells b → IsFaultUnder (g.geometry b) (g.held b) (g.image b) file_no key (level - 1) es fault) → g.tells a → IsWayFault (g.geometry a) (g.held a) (g.image a) file_no key level least page fault
  page_fault fault below told = way_below (g.geometry a) (g.held a) (g.image a) file_no key level least page fault above (at told) (fault_old fault below told)

  pub page_way : (g.tells b → IsWayUnder (g.geometry b) (g.image b) file_no key (level - 1) es) → g.tells a → IsWay (g.geometry a) (g.image a) file_no key level least page
  page_way below told =
      way_on (g.geometry a) (g.image a) file_no key level least page above (at told)
      (subst (λ (l : List Entry). IsWayUnder (g.geometry a) (g.image a) file_no key (level - 1) l) (read told)
      (subst (λ (u : ℕ → List ℕ). IsWayUnder (g.geometry a) u file_no key (level - 1) es) kept.images
      (subst (λ (y : Geometry). IsWayUnder y (g.image b) file_no key (level - 1) es) (g.leads_geometry a b kept.leads) (below (g.leads_told a b kept.leads told)))))

  gone_on : (u : ℕ → List ℕ) (held : ℕ → Bool) (now : ℕ → List ℕ) (y : Geometry) (fault : PortFault) (l : ℕ) → l ≢ 0 → IsNamedAt y u l file_no least page → IsGoneFault held l least page fault → IsBesideFault y u held now file_no key l least page fault
  gone_on u held now y fault zero some named h = absurd (some refl)
  gone_on u held now y fault (suc l) some named h = (named, inl h)

  beside_on : (u : ℕ → List ℕ) (held : ℕ → Bool) (now : ℕ → List ℕ) (y : Geometry) (fault : PortFault) (l : ℕ) → l ≢ 0 → IsNamedAt y u l file_no least page → IsBesideUnder y u held now file_no key (l - 1) (entries_on (u page)) fault
      → IsBesideFault y u held now file_no key l least page fault
  beside_on u held now y fault zero some named h = absurd (some refl)
  beside_on u held now y fault (suc l) some named h = (named, inr (rw sub-one at h))

  -- a page that was given back below
  pub page_gone : (held : ℕ → Bool) (now : ℕ → List ℕ) (fault : PortFault) → IsGoneFault held level least page fault → g.tells a → IsBesideFault (g.geometry a) (g.image a) held now file_no key level least page fault
  page_gone held now fault gone told = gone_on (g.image a) held now (g.geometry a) fault level above (at told) gone

  -- a fault below that is told of the way or of a page beside it
  pub page_removal : (held : ℕ → Bool) (now : ℕ → List ℕ) (fault : PortFault)
      → (g.tells b → IsFaultUnder (g.geometry b) (g.held b) (g.image b) file_no key (level - 1) es fault ⊎ IsBesideUnder (g.geometry b) (g.image b) held now file_no key (level - 1) es fault)
      → g.tells a → IsWayFault (g.geometry a) (g.held a) (g.image a) file_no key level least page fault ⊎ IsBesideFault (g.geometry a) (g.image a) held now file_no key level least page fault
  page_removal held now fault below told = elim (below (g.leads_told a b kept.leads told)) [
    | inl way ↦ inl (page_fault fault (λ told_b. way) told)
    | inr beside ↦ inr (beside_on (g.image a) held now (g.geometry a) fault level above (at told)
        (subst (λ (l : List Entry). IsBesideUnder (g.geometry a) (g.image a) held now file_no key (level - 1) l fault) (read told)
        (subst (λ (u : ℕ → List ℕ). IsBesideUnder (g.geometry a) u held now file_no key (level - 1) es fault) kept.images
        (subst (λ (y : Geometry). IsBesideUnder y (g.image b) held now file_no key (level - 1) es fault) (g.leads_geometry a b kept.leads) beside))))
  ]

-- the page that an entry names
pub entry_fault : (g : Geometry) (held : ℕ → Bool) (now : ℕ → List ℕ) (file_no level : ℕ) (entry : Entry) (fault : PortFault) → level ≢ 0 → IsPageFault g held (now entry.page.0) level file_no (Some entry.key) entry.page.0 fault → IsEntryFault g held now file_no level entry fault
entry_fault g held now file_no zero entry fault above h = absurd (above refl)
entry_fault g held now file_no (suc level) entry fault above h = h

-- a fault that is told of the page that a key leads to, or of a page beside the way below it
pub under_removal : (g : Geometry) (was_held : ℕ → Bool) (image : ℕ → List ℕ) (held : ℕ → Bool) (now : ℕ → List ℕ) (file_no key level : ℕ) (entries : List Entry) (child : Entry) (fault : PortFault) → child ≡ child_in key entries
    → IsWayFault g was_held image file_no key level (Some child.key) child.page.0 fault ⊎ IsBesideFault g image held now file_no key level (Some child.key) child.page.0 fault
    → IsFaultUnder g was_held image file_no key level entries fault ⊎ IsBesideUnder g image held now file_no key level entries fault
under_removal g was_held image held now file_no key level entries child fault is h = elim h [
  | inl way ↦ inl (subst (λ (e : Entry). IsWayFault g was_held image file_no key level (Some e.key) e.page.0 fault) is way)
  | inr beside ↦ inr (inr (subst (λ (e : Entry). IsBesideFault g image held now file_no key level (Some e.key) e.page.0 fault) is beside))
]

-- ---- a root

pub root_way : (g : Geometry) (image : ℕ → List ℕ) (file_no key level : ℕ) (root : Option PageNo) (page : PageNo) → root ≡ Some page → IsWay g image file_no key level None page.0 → IsWayFrom g image file_no key level root
root_way g image file_no key level root page is h = subst (λ (r : Option PageNo). IsWayFrom g image file_no key level r) (sym is) h

module _ (g : Geometry) (was_held : ℕ → Bool) (image : ℕ → List ℕ) (file_no key level : ℕ) (root : Option PageNo) (page : PageNo) (is : root ≡ Some page) where
  pub root_fault : (fault : PortFault) → IsWayFault g was_held image file_no key level None page.0 fault → IsFaultFrom g was_held image file_no key level root fault
  root_fault fault h = subst (λ (r : Option PageNo). IsFaultFrom g was_held image file_no key level r fault) (sym is) h

  pub root_removal : (held : ℕ → Bool) (now : ℕ → List ℕ) (fault : PortFault) → IsWayFault g was_held image file_no key level None page.0 fault ⊎ IsBesideFault g image held now file_no key level None page.0 fault
      → IsFaultFrom g was_held image file_no key level root fault ⊎ IsBesideFrom g image held now file_no key level root fault
  root_removal held now fault h = elim h [
    | inl way ↦ inl (root_fault fault way)
    | inr beside ↦ inr (subst (λ (r : Option PageNo). IsBesideFrom g image held now file_no key level r fault) (sym is) beside)
  ]
