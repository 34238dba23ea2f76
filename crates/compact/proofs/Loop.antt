-- A row of trees that is moved, one tree after the other.
use Rattle.std.proofs.Common.{◌≡◌, ◌≢◌, ◌⊎◌, inl, inr, ℕ, ◌+◌, ◌<◌, Bool, true, false, List, [], ◌∷◌, ◌++◌, length, take, get_or, refl, sym, ap, subst, ◌∙◌, true≢false}
use Rattle.std.specs.List.{AllByRecursion, AllZip}
use Rattle.std.proofs.lemmas.List.{map-append, take_more, append-nil}
use Rattle.ex_base.specs.declared.geometry.Geometry.{Geometry}
use Rattle.ex_base.specs.declared.ground.Ground as ground
use Rattle.ex_base.specs.declared.names.PageNo.{PageNo}
use Rattle.ex_base.proofs.Each.{each_at}
use Rattle.ex_base.proofs.Rows.{each-take}
use Rattle.trees.specs.Damage.{AnyPart}
use Rattle.trees.specs.Made.{Extends, sizes_of}
use Rattle.trees.specs.Rows.{row_units}
use Rattle.trees.specs.Trees.{units_on}
use Rattle.trees.specs.declared.rows.Part.{Part}
use Rattle.trees.proofs.Kept.{row_extends}
use Rattle.trees.proofs.Laid.{extends_on, extends_refl}
use Rattle.trees.proofs.Over.{units_app}
use Rattle.trees.proofs.Reading.{no_part}
use Rattle.trees.proofs.SameUnits.{units_same}
use Rattle.compact.specs.High.{has_high}
use Rattle.compact.specs.Moved.{Copies, KeepsCopies}
use Rattle.compact.specs.Walk.{CanMove, IsGoodPair, IsTreeOf, Move, RowMoved, Stepped, TreeMoved}
use Rattle.compact.proofs.Levels.{high_same}
use Rattle.compact.proofs.NodeSteps.{good_row}
use Rattle.compact.proofs.Pairs.{each_later, kept_of}
use Rattle.compact.proofs.Rows.{can_at, row_as}
use Rattle.compact.proofs.Steps.{step_noted, step_on}

-- the trees up to an index were moved
pub record RowSoFar {S : Type 0} (g : ground.Ghosts S) (old now : S) (dense : ℕ) (moves after : Copies) (level : ℕ) (row : List Part) (i : ℕ) (made : List Part) (changed : Bool) (room left : ℕ) : Type 0 where
  pub extends : Extends g old now
  pub keeps : KeepsCopies moves after
  pub sizes : sizes_of made ≡ sizes_of (take i row)
  pub buffer : left ≡ room
  pub moved : g.tells old → (l : ℕ) → level ≡ l → (move : Move S) → CanMove g move dense old moves l (g.geometry old).fan row → RowMoved g move dense old now moves after l (take i row) made changed

zip_more : {A B : Type 0} (P : A → B → Type 0) (xs : List A) (ys : List B) (x : A) (y : B) → AllZip P xs ys → P x y → AllZip P (xs ++ (x ∷ [])) (ys ++ (y ∷ []))
zip_more P [] [] x y all one = (one, tt)
zip_more P [] (b ∷ ys) x y all one = absurd all
zip_more P (a ∷ xs) [] x y all one = absurd all
zip_more P (a ∷ xs) (b ∷ ys) x y all one = (all.0, zip_more P xs ys x y all.1 one)

any_front : (P : Part → Type 0) (xs ys : List Part) → AnyPart P xs → AnyPart P (xs ++ ys)
any_front P [] ys any = absurd any
any_front P (x ∷ xs) ys (inl here) = inl here
any_front P (x ∷ xs) ys (inr rest) = inr (any_front P xs ys rest)

any_last : (P : Part → Type 0) (xs : List Part) (x : Part) → P x → AnyPart P (xs ++ (x ∷ []))
any_last P [] x here = inl here
any_last P (y ∷ xs) x here = inr (any_last P xs x here)

module _ {S : Type 0} (g : ground.Ghosts S) where
  pub no_row : (old : S) (dense : ℕ) (moves : Copies) (level : ℕ) (row : List Part) (room : ℕ) → RowSoFar g old old dense moves moves level row 0 [] false room room
  no_row old dense moves level row room = record {
    extends = extends_refl g old;
    keeps = λ p c is. is;
    sizes = refl;
    buffer = refl;
    moved = λ told l same move can. record {
      good = tt;
      step = step_noted g move dense old moves moves [] [] (λ p c is. is) refl (λ p c is. inl is) can.pairs;
      same = λ no. refl;
      above = λ is. absurd (true≢false (sym is));
    };
  }

  -- a tree that is its own copy where it has no high leaf
  still_there : (move : Move S) (dense : ℕ) (b : S) (moves : Copies) (l page copy : ℕ) → (x : IsGoodPair g move dense b moves l page copy) → copy ≢ page → has_high (g.geometry b) dense (g.unit b) l page ≡ true
  still_there move dense b moves l page copy x differ = by_test (has_high (g.geometry b) dense (g.unit b) l page) refl
    where
      by_test : (t : Bool) → has_high (g.geometry b) dense (g.unit b) l page ≡ t → has_high (g.geometry b) dense (g.unit b) l page ≡ true
      by_test true is = is
      by_test false is = absurd (differ (x.sound.still is))

  -- one tree more
  row_more : (move : Move S) (dense : ℕ) (old now new : S) (moves mid after : Copies) (l : ℕ) (row made : List Part) (part : Part) (changed turns : Bool) (copy : PageNo) → Extends g old now → Extends g now new → KeepsCopies mid after
      → AllByRecursion (IsTreeOf g move dense old l (g.geometry old).fan) row → IsTreeOf g move dense old l (g.geometry old).fan part → sizes_of made ≡ sizes_of row
      → (turns ≡ false → (changed ≡ false) × (copy ≡ part.page)) → (turns ≡ true → (changed ≡ true) ⊎ (copy.0 ≢ part.page.0))
      → RowMoved g move dense old now moves mid l row made changed → TreeMoved g move dense now new mid after l part.page.0 copy.0
      → RowMoved g move dense old new moves after l (row ++ (part ∷ [])) (made ++ (record { size = part.size; page = copy } ∷ [])) turns
  row_more move dense old now new moves mid after l row made part changed turns copy one two keeps trees tree sizes not_turned turned x y =
      let last : Part = record { size = part.size; page = copy } in
      let whole = extends_on g old now new one two in
      let geo : g.geometry new ≡ g.geometry old = g.leads_geometry old new whole.leads in
      let trees_now = each_later g move dense old now l (g.geometry old).fan row one trees in
      let rows = row_as g move dense now mid l (g.geometry old).fan row made x.good sizes trees_now in
      let same : row_units (g.unit new) l made ≡ row_units (g.unit now) l made = (row_extends g now new l made two (record { trees = rows.trees; used = rows.used })).units in
      let tree_units : units_on (g.unit now) l part.page.0 ≡ units_on (g.unit old) l part.page.0 = units_same (g.unit old) (g.unit now) l part.page.0 (kept_of g old now (units_on (g.unit old) l part.page.0) one tree.used) in
      let was : row_units (g.unit old) l row ++ units_on (g.unit now) l part.page.0 ≡ row_units (g.unit old) l (row ++ (part ∷ [])) =
      ap (λ (xs : List ℕ). row_units (g.unit old) l row ++ xs) (tree_units ∙ sym (append-nil (units_on (g.unit old) l part.page.0))) ∙ sym (units_app (g.unit old) l row (part ∷ [])) in
      let is : row_units (g.unit now) l made ++ units_on (g.unit new) l copy.0 ≡ row_units (g.unit new) l (made ++ (last ∷ [])) =
      ap (λ (xs : List ℕ). xs ++ units_on (g.unit new) l copy.0) (sym same) ∙ ap (λ (xs : List ℕ). row_units (g.unit new) l made ++ xs) (sym (append-nil (units_on (g.unit new) l copy.0))) ∙ sym (units_app (g.unit new) l made (last ∷ [])) in
      let step = step_on g move dense old now new moves mid after (row_units (g.unit old) l row) (row_units (g.unit now) l made) (units_on (g.unit now) l part.page.0) (units_on (g.unit new) l copy.0) one two keeps x.step y.step in
      record {
        good = zip_more (λ (tree copy : Part). IsGoodPair g move dense new after l tree.page.0 copy.page.0) row made part last (good_row g move dense now new mid after l (g.geometry old).fan row made two keeps trees_now x.good) y.good;
        step = subst (λ (xs : List ℕ). Stepped g move dense old new moves after xs (row_units (g.unit new) l (made ++ (last ∷ [])))) was (subst (λ (xs : List ℕ). Stepped g move dense old new moves after (row_units (g.unit old) l row ++ units_on (g.unit now) l part.page.0) xs) is step);
        same = λ no.
            let both = not_turned no in
            ap (λ (r : List Part). r ++ (last ∷ [])) (x.same both.0) ∙ ap (λ (p : PageNo). row ++ (record { size = part.size; page = p } ∷ [])) both.1;
        above = λ is. elim (turned is) [
          | inl before ↦ any_front (λ (p : Part). has_high (g.geometry old) dense (g.unit old) l p.page.0 ≡ true) row (part ∷ []) (x.above before)
          | inr differ ↦
              any_last (λ (p : Part). has_high (g.geometry old) dense (g.unit old) l p.page.0 ≡ true) row part
              (sym (high_same (g.geometry old) dense (g.unit old) (g.unit new) l part.page.0 (kept_of g old new (units_on (g.unit old) l part.page.0) whole tree.used)).high
              ∙ subst (λ (h : Geometry). has_high h dense (g.unit new) l part.page.0 ≡ true) geo (still_there move dense new after l part.page.0 copy.0 y.good differ))
        ];
      }

  pub more_so_far : (old now new : S) (dense : ℕ) (moves mid after : Copies) (level : ℕ) (row : List Part) (i : ℕ) (made next : List Part) (changed turns : Bool) (room left then : ℕ) (copy : PageNo) → i < length row → RowSoFar g old now dense moves mid level row i made changed room left
      → Extends g now new → KeepsCopies mid after → then ≡ left → next ≡ made ++ (record { size = (get_or row i no_part).size; page = copy } ∷ [])
      → (turns ≡ false → (changed ≡ false) × (copy ≡ (get_or row i no_part).page)) → (turns ≡ true → (changed ≡ true) ⊎ (copy.0 ≢ (get_or row i no_part).page.0))
      → (g.tells now → (l : ℕ) → level ≡ l → (move : Move S) → CanMove g move dense now mid l (g.geometry old).fan (get_or row i no_part ∷ []) → TreeMoved g move dense now new mid after l (get_or row i no_part).page.0 copy.0)
      → RowSoFar g old new dense moves after level row (i + 1) next turns room then
  more_so_far old now new dense moves mid after level row i made next changed turns room left then copy lt x ext keeps buffer is not_turned turned moved =
      let part : Part = get_or row i no_part in
      let last : Part = record { size = part.size; page = copy } in
      let more : take (i + 1) row ≡ take i row ++ (part ∷ []) = take_more row i no_part lt in
      record {
        extends = extends_on g old now new x.extends ext;
        keeps = λ p c has. keeps p c (x.keeps p c has);
        sizes = ap sizes_of is ∙ map-append (λ (q : Part). q.size) made (last ∷ []) ∙ ap (λ (xs : List ℕ). xs ++ (part.size ∷ [])) x.sizes ∙ sym (map-append (λ (q : Part). q.size) (take i row) (part ∷ [])) ∙ sym (ap sizes_of more);
        buffer = buffer ∙ x.buffer;
        moved = λ told l same move can.
            let row_moved = x.moved told l same move can in
            let at = can_at g move dense old now moves mid l (g.geometry old).fan i row (row_units (g.unit old) l (take i row)) (row_units (g.unit now) l made) lt x.extends can row_moved.step in
            let one = moved (g.leads_told old now x.extends.leads told) l same move at in
            subst (λ (r : List Part). RowMoved g move dense old new moves after l r next turns) (sym more)
            (subst (λ (r : List Part). RowMoved g move dense old new moves after l (take i row ++ (part ∷ [])) r turns) (sym is)
            (row_more move dense old now new moves mid after l (take i row) made part changed turns copy x.extends ext keeps (each-take (IsTreeOf g move dense old l (g.geometry old).fan) i row can.trees) (each_at (IsTreeOf g move dense old l (g.geometry old).fan) row i no_part lt can.trees) x.sizes not_turned turned row_moved one));
      }
