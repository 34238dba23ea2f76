-- The least key that is not below a key, one level down.
use Rattle.std.proofs.Common.{◌≡◌, ◌≢◌, ◌-◌, ℕ, List, [], ◌∷◌, Option, Some, Result, Ok, Err, OnOk, sym, ap, subst, ◌∙◌}
use Rattle.std.specs.List.{flat_map, AllByRecursion}
use Rattle.ex_base.specs.Ports.{Keeps}
use Rattle.ex_base.specs.declared.names.PageNo.{PageNo}
use Rattle.ex_base.specs.declared.ground.Ground as ground
use Rattle.file_index.specs.declared.Entry.{Entry}
use Rattle.file_index.specs.IndexPage.{entries_on}
use Rattle.file_index.specs.declared.step.Step.{Step}
use Rattle.file_index.specs.Index.{IsFilesPage, IsNamed, HasLeast, IsUnder, Rises, keys_under}
use Rattle.file_index.specs.Least.{first_from, pick}
use Rattle.file_index.proofs.Under.{Begins, begins, each_map, under_open}
use Rattle.file_index.proofs.Picking.{pick_first, picked_own, picked_rises}

pub on_three : {X E : Type 0} (r : Result X E) (P Q R G : Type 0) → OnOk r P → OnOk r Q → OnOk r R → (P → Q → R → G) → OnOk r G
on_three (Ok x) P Q R G p q r f = f p q r
on_three (Err e) P Q R G p q r f = tt

own : (P : Entry → Type 0) (least : Option ℕ) (entries : List Entry) (key : ℕ) (next : Option PageNo) → HasLeast least entries → AllByRecursion P entries → P (pick entries key next).child
own P least [] key next some each = absurd some
own P least (entry ∷ entries) key next some each = picked_own P entry entries key next each

rises : (K : Entry → List ℕ) (least : Option ℕ) (entries : List Entry) (key : ℕ) (next : Option PageNo) → HasLeast least entries → Rises 0 (flat_map K entries) → Rises 0 (K (pick entries key next).child)
rises K least [] key next some h = absurd some
rises K least (entry ∷ entries) key next some h = picked_rises K entry entries key 0 next h

first : (K : Entry → List ℕ) (least : Option ℕ) (entries : List Entry) (key : ℕ) (next : Option PageNo) → HasLeast least entries → AllByRecursion (λ (e : Entry). Begins e.key (K e)) entries → Rises 0 (flat_map K entries)
    → first_from key (flat_map K entries) next ≡ first_from key (K (pick entries key next).child) (pick entries key next).next
first K least [] key next some each h = absurd some
first K least (entry ∷ entries) key next some each h = pick_first K entry entries key 0 next each h

pub sound_here : {S : Type 0} (g : ground.Ghosts S) (a : S) (file_no level : ℕ) (least : Option ℕ) (page : ℕ) → level ≢ 0 → (IsFilesPage (g.geometry a) page → IsNamed (g.geometry a).page_size (g.image a page) level file_no least → ⊥)
    → IsUnder (g.geometry a) file_no (g.image a) level least page → ⊥
sound_here g a file_no level least page nonzero never under =
    let o = under_open (g.geometry a) file_no (g.image a) level least page nonzero under in
    never o.files o.named

module _ {S : Type 0} (g : ground.Ghosts S) (a b : S) (file_no level : ℕ) (least : Option ℕ) (page key : ℕ) (next : Option PageNo) (step : Step) where
  -- the child that is picked is an index of the level below, also in a state that keeps the images
  child_under : level ≢ 0 → Keeps g a b → step ≡ pick (entries_on (g.image a page)) key next → IsUnder (g.geometry a) file_no (g.image a) level least page
      → IsUnder (g.geometry b) file_no (g.image b) (level - 1) (Some step.child.key) step.child.page.0
  child_under nonzero kept is under =
      let o = under_open (g.geometry a) file_no (g.image a) level least page nonzero under in
      let P : Entry → Type 0 = λ e. IsUnder (g.geometry a) file_no (g.image a) (level - 1) (Some e.key) e.page.0 in
      let picked : P (pick (entries_on (g.image a page)) key next).child = own P least (entries_on (g.image a page)) key next o.named.least_is o.each in
      let here : P step.child = subst (λ (s : Step). P s.child) (sym is) picked in
      rw (g.leads_geometry a b kept.leads, kept.images) here

  pub sound_below : level ≢ 0 → Keeps g a b → (g.tells a → step ≡ pick (entries_on (g.image a page)) key next)
      → (g.tells b → IsUnder (g.geometry b) file_no (g.image b) (level - 1) (Some step.child.key) step.child.page.0 → ⊥)
      → g.tells a → IsUnder (g.geometry a) file_no (g.image a) level least page → ⊥
  sound_below nonzero kept is never told under = never (g.leads_told a b kept.leads told) (child_under nonzero kept (is told) under)

  pub least_below_is : (answer : Option PageNo) → level ≢ 0 → Keeps g a b → (g.tells a → step ≡ pick (entries_on (g.image a page)) key next)
      → (g.tells b → IsUnder (g.geometry b) file_no (g.image b) (level - 1) (Some step.child.key) step.child.page.0 → Rises 0 (keys_under (g.image b) (level - 1) step.child.page.0)
      → answer ≡ first_from key (keys_under (g.image b) (level - 1) step.child.page.0) step.next)
      → g.tells a → IsUnder (g.geometry a) file_no (g.image a) level least page → Rises 0 (keys_under (g.image a) level page)
      → answer ≡ first_from key (keys_under (g.image a) level page) next
  least_below_is answer nonzero kept is below told under rising =
      let o = under_open (g.geometry a) file_no (g.image a) level least page nonzero under in
      let K : Entry → List ℕ = λ e. keys_under (g.image a) (level - 1) e.page.0 in
      let entries : List Entry = entries_on (g.image a page) in
      let each = each_map {Q = λ (e : Entry). Begins e.key (keys_under (g.image a) (level - 1) e.page.0)} (entries_on (g.image a page)) (λ (e : Entry) u. begins (g.geometry a) file_no (g.image a) (level - 1) e.key e.page.0 u) o.each in
      let all : Rises 0 (flat_map K (entries_on (g.image a page))) = subst (Rises 0) o.keys rising in
      let child_rises : Rises 0 (K step.child) = subst (λ (s : Step). Rises 0 (K s.child)) (sym (is told)) (rises K least (entries_on (g.image a page)) key next o.named.least_is all) in
      let found = below (g.leads_told a b kept.leads told) (child_under nonzero kept (is told) under) (rw kept.images child_rises) in
      found
      ∙ ap (λ (f : ℕ → List ℕ). first_from key (keys_under f (level - 1) step.child.page.0) step.next) kept.images
      ∙ ap (λ (s : Step). first_from key (K s.child) s.next) (is told)
      ∙ sym (first K least (entries_on (g.image a page)) key next o.named.least_is each all)
      ∙ ap (λ (xs : List ℕ). first_from key xs next) (sym o.keys)
