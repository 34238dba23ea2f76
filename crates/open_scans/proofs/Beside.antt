-- The scans of a machine beside those of a session that show them.
use Rattle.std.proofs.Common.{◌≡◌, ◌∙◌, ℕ, zero, suc, ◌+◌, ◌≤◌, Bool, true, false, cond, ◌||◌, min, List, [], ◌∷◌, ◌++◌, length, map, Option, Some, None, is_some, refl, sym, ap, subst, arith, add-zero}
use Rattle.std.specs.Prelude.{bytes_eq, filter, find, position, slice_get, slice_set}
use Rattle.std.specs.List.{AllByRecursion, AllZip, list_any, position_from}
use Rattle.std.proofs.lemmas.Bool.{cond-true}
use Rattle.std.proofs.lemmas.Iterator.Adapters.{position_from-zero}
use Rattle.ex_base.specs.declared.geometry.Geometry.{Geometry}
use Rattle.ex_base.specs.declared.names.Root.{Root}
use Rattle.table_model.specs.declared.machine.ScanRow.{ScanRow}
use Rattle.table_model.specs.Steps.{moved, rest}
use Rattle.trees.specs.Trees.{Units}
use Rattle.volume_model.specs.Shown.{ScanShown, root_here, roots_here}
use Rattle.open_scans.specs.OpenScans.{OpenRow, given_len, is_named, row_after, scan_index, scan_of}

-- ---- where a test passes first

some_from : {A : Type 0} (p : A → Bool) (k : ℕ) (xs : List A) → is_some (position_from p k xs) ≡ list_any p xs
some_from p k [] = refl
some_from p k (x ∷ xs) = by (p x) (some_from p (k + 1) xs)
  where
    by : (b : Bool) → is_some (position_from p (k + 1) xs) ≡ list_any p xs → is_some (cond b (Some k) (position_from p (k + 1) xs)) ≡ (b || list_any p xs)
    by true later = refl
    by false later = later

pub some_position : {A : Type 0} (p : A → Bool) (xs : List A) → is_some (position p xs) ≡ list_any p xs
some_position p xs = ap is_some (position_from-zero p xs) ∙ some_from p 0 xs

-- ---- scans

abbrev pub is_scan_named : List ℕ → ScanRow → Bool
is_scan_named name row = bytes_eq row.name name

-- The scan of a machine that a name leads to, where a session finds one of the name, so many places behind k.
pub record FoundScan (name : List ℕ) (ms : List ScanRow) (k index : ℕ) : Type 0 where
  pub steps : ℕ
  pub index_is : index ≡ k + steps
  pub row : ScanRow
  pub found : find (is_scan_named name) ms ≡ Some row
  pub at : slice_get ms steps ≡ Some row
  pub named : is_scan_named name row ≡ true

module _ (g : Geometry) (units : Units) (name : List ℕ) where
  abbrev Shown : List ScanRow → List OpenRow → Type 0
  Shown ms rows = AllZip (ScanShown g units) ms (map scan_of rows)

  pub any_named : (ms : List ScanRow) (rows : List OpenRow) → Shown ms rows → list_any (is_scan_named name) ms ≡ list_any (is_named name) rows
  any_named [] [] shown = refl
  any_named [] (r ∷ rows) shown = absurd shown
  any_named (m ∷ ms) [] shown = absurd shown
  any_named (m ∷ ms) (r ∷ rows) shown =
      ap (λ (n : List ℕ). bytes_eq n name || list_any (is_scan_named name) ms) shown.0.name
      ∙ ap (λ (b : Bool). bytes_eq r.scan.name name || b) (any_named ms rows shown.1)

  none_from : (k : ℕ) (ms : List ScanRow) (rows : List OpenRow) → Shown ms rows → position_from (is_named name) k rows ≡ None → find (is_scan_named name) ms ≡ None
  none_from k [] [] shown is = refl
  none_from k [] (r ∷ rows) shown is = absurd shown
  none_from k (m ∷ ms) [] shown is = absurd shown
  none_from k (m ∷ ms) (r ∷ rows) shown is = by (is_scan_named name m) (is_named name r) (ap (λ (n : List ℕ). bytes_eq n name) shown.0.name) is (none_from (k + 1) ms rows shown.1)
    where
      by : (a b : Bool) → a ≡ b → cond b (Some k) (position_from (is_named name) (k + 1) rows) ≡ None → (position_from (is_named name) (k + 1) rows ≡ None → find (is_scan_named name) ms ≡ None)
          → cond a (Some m) (find (is_scan_named name) ms) ≡ None
      by a true same is later = absurd (cc)
      by true false same is later = absurd (cc)
      by false false same is later = later is

  found_from : (k index : ℕ) (ms : List ScanRow) (rows : List OpenRow) → Shown ms rows → position_from (is_named name) k rows ≡ Some index → FoundScan name ms k index
  found_from k index [] [] shown is = absurd (cc)
  found_from k index [] (r ∷ rows) shown is = absurd shown
  found_from k index (m ∷ ms) [] shown is = absurd shown
  found_from k index (m ∷ ms) (r ∷ rows) shown is = by (is_scan_named name m) refl (is_named name r) (ap (λ (n : List ℕ). bytes_eq n name) shown.0.name) is (found_from (k + 1) index ms rows shown.1)
    where
      by : (a : Bool) → is_scan_named name m ≡ a → (b : Bool) → a ≡ b → cond b (Some k) (position_from (is_named name) (k + 1) rows) ≡ Some index
          → (position_from (is_named name) (k + 1) rows ≡ Some index → FoundScan name ms (k + 1) index) → FoundScan name (m ∷ ms) k index
      by true named true same is then = record {
        steps = 0;
        index_is = (let one : k ≡ index = cc in sym one ∙ sym (add-zero k));
        row = m;
        found = ap (λ (b : Bool). cond b (Some m) (find (is_scan_named name) ms)) named;
        at = refl;
        named = named;
      }
      by true named false same is then = absurd (cc)
      by false named true same is then = absurd (cc)
      by false named false same is then =
          let later = then is in
          record {
            steps = suc later.steps;
            index_is = omega (arith, later.index_is);
            row = later.row;
            found = ap (λ (b : Bool). cond b (Some m) (find (is_scan_named name) ms)) named ∙ later.found;
            at = later.at;
            named = later.named;
          }

-- what a session finds under the name of an open scan
pub record HasScan (ms : List ScanRow) (name : List ℕ) (index : ℕ) : Type 0 where
  pub row : ScanRow
  pub found : find (is_scan_named name) ms ≡ Some row
  pub at : slice_get ms index ≡ Some row
  pub named : is_scan_named name row ≡ true

module _ (g : Geometry) (units : Units) (name : List ℕ) (ms : List ScanRow) (rows : List OpenRow) (shown : AllZip (ScanShown g units) ms (map scan_of rows)) where
  pub none_found : scan_index rows name ≡ None → find (is_scan_named name) ms ≡ None
  none_found none = none_from g units name 0 ms rows shown (sym (position_from-zero (is_named name) rows) ∙ none)

  pub scan_found : (index : ℕ) → scan_index rows name ≡ Some index → HasScan ms name index
  scan_found index is =
      let found = found_from g units name 0 index ms rows shown (sym (position_from-zero (is_named name) rows) ∙ is) in
      let same : index ≡ found.steps = omega (arith, found.index_is) in
      record { row = found.row; found = found.found; at = ap (slice_get ms) same ∙ found.at; named = found.named }

-- ---- the scans of a machine and of a session, place by place

pub record Paired (g : Geometry) (units : Units) (rows : List OpenRow) (m : ScanRow) (index : ℕ) : Type 0 where
  pub row : OpenRow
  pub at : slice_get rows index ≡ Some row
  pub shown : ScanShown g units m row.scan

pub paired : (g : Geometry) (units : Units) (ms : List ScanRow) (rows : List OpenRow) (m : ScanRow) (index : ℕ) → AllZip (ScanShown g units) ms (map scan_of rows) → slice_get ms index ≡ Some m → Paired g units rows m index
paired g units [] rows m index shown at = absurd (cc)
paired g units (x ∷ ms) [] m index shown at = absurd shown
paired g units (x ∷ ms) (r ∷ rows) m zero shown at = let same : x ≡ m = cc in record { row = r; at = refl; shown = subst (λ (y : ScanRow). ScanShown g units y r.scan) same shown.0 }
paired g units (x ∷ ms) (r ∷ rows) m (suc index) shown at =
    let later = paired g units ms rows m index shown.1 at in
    record { row = later.row; at = later.at; shown = later.shown }

-- what holds of the roots of all scans holds of that of each
pub of_its_root : (P : Root → Type 0) (rows : List OpenRow) (row : OpenRow) (index : ℕ) (root : Root) → AllByRecursion P (roots_here (map scan_of rows)) → slice_get rows index ≡ Some row → row.scan.root ≡ Some root → P root
of_its_root P [] row index root each at is = absurd (cc)
of_its_root P (r ∷ rows) row zero root each at is = by r.scan.root (let same : r ≡ row = cc in ap (λ (x : OpenRow). x.scan.root) same ∙ is) each
  where
    by : (o : Option Root) → o ≡ Some root → AllByRecursion P (roots_here (record { name = []; root = o; small = []; pos = 0 } ∷ map scan_of rows)) → P root
    by None is each = absurd (cc)
    by (Some first) is each = let same : first ≡ root = cc in subst P same each.0
of_its_root P (r ∷ rows) row (suc index) root each at is = of_its_root P rows row index root (by r.scan.root each) at is
  where
    by : (o : Option Root) → AllByRecursion P (roots_here (record { name = []; root = o; small = []; pos = 0 } ∷ map scan_of rows)) → AllByRecursion P (roots_here (map scan_of rows))
    by None each = each
    by (Some first) each = each.1

-- ---- a scan that moves on

-- the scan of the machine at an index moves on, and no other has its name
module _ (name : List ℕ) (len : ℕ) where
  abbrev those_named : List ScanRow → List ScanRow
  those_named ms = filter (is_scan_named name) ms

  some_named : (ms : List ScanRow) (row : ScanRow) (index : ℕ) → slice_get ms index ≡ Some row → is_scan_named name row ≡ true → 1 ≤ length (those_named ms)
  some_named [] row index at is = absurd (cc)
  some_named (m ∷ ms) row zero at is =
      let same : m ≡ row = cc in
      let here : is_scan_named name m ≡ true = ap (is_scan_named name) same ∙ is in
      subst (λ (b : Bool). 1 ≤ length (cond b (m ∷ those_named ms) (those_named ms))) (sym here) (omega arith)
  some_named (m ∷ ms) row (suc index) at is = by (is_scan_named name m) (some_named ms row index at is)
    where
      by : (b : Bool) → 1 ≤ length (those_named ms) → 1 ≤ length (cond b (m ∷ those_named ms) (those_named ms))
      by true some = omega arith
      by false some = some

  none_moved : (ms : List ScanRow) → length (those_named ms) ≤ 0 → map (moved name len) ms ≡ ms
  none_moved [] few = refl
  none_moved (m ∷ ms) few = by (is_scan_named name m) few (none_moved ms)
    where
      by : (b : Bool) → length (cond b (m ∷ those_named ms) (those_named ms)) ≤ 0 → (length (those_named ms) ≤ 0 → map (moved name len) ms ≡ ms)
          → cond b (record m { pos = m.pos + min len (rest m) }) m ∷ map (moved name len) ms ≡ m ∷ ms
      by true few later = absurd (omega (arith, few))
      by false few later = ap (λ (l : List ScanRow). m ∷ l) (later few)

  pub one_moved : (ms : List ScanRow) (row : ScanRow) (index : ℕ) → slice_get ms index ≡ Some row → is_scan_named name row ≡ true → length (those_named ms) ≤ 1
      → map (moved name len) ms ≡ slice_set ms index (moved name len row)
  one_moved [] row index at is few = absurd (cc)
  one_moved (m ∷ ms) row zero at is few =
      let same : m ≡ row = cc in
      let here : is_scan_named name m ≡ true = ap (is_scan_named name) same ∙ is in
      let fewer : length (those_named ms) ≤ 0 = omega (arith, subst (λ (b : Bool). length (cond b (m ∷ those_named ms) (those_named ms)) ≤ 1) here few) in
      ap (λ (x : ScanRow). moved name len x ∷ map (moved name len) ms) same ∙ ap (λ (l : List ScanRow). moved name len row ∷ l) (none_moved ms fewer)
  one_moved (m ∷ ms) row (suc index) at is few = by (is_scan_named name m) few (one_moved ms row index at is)
    where
      by : (b : Bool) → length (cond b (m ∷ those_named ms) (those_named ms)) ≤ 1 → (length (those_named ms) ≤ 1 → map (moved name len) ms ≡ slice_set ms index (moved name len row))
          → cond b (record m { pos = m.pos + min len (rest m) }) m ∷ map (moved name len) ms ≡ m ∷ slice_set ms index (moved name len row)
      by true few later = absurd (omega (arith, few, some_named ms row index at is))
      by false few later = ap (λ (l : List ScanRow). m ∷ l) (later few)

  -- the scan of the machine and that of the session, both moved on
  pub both_moved : (g : Geometry) (units : Units) (m : ScanRow) (row : OpenRow) → is_scan_named name m ≡ true → given_len len row ≡ min len (rest m) → ScanShown g units m row.scan
      → ScanShown g units (moved name len m) (row_after len row).scan
  both_moved g units m row is same shown =
      subst (λ (x : ScanRow). ScanShown g units x (row_after len row).scan) (sym (cond-true (is_scan_named name m) (record m { pos = m.pos + min len (rest m) }) m is))
      (record { name = shown.name; pos = ap (λ (n : ℕ). m.pos + n) (sym same) ∙ ap (λ (n : ℕ). n + given_len len row) shown.pos; bytes = shown.bytes })

-- two lists whose items at one place are changed
pub zip_set : {A B C : Type 0} (R : A → C → Type 0) (f : B → C) (xs : List A) (ys : List B) (index : ℕ) (x : A) (y : B) → AllZip R xs (map f ys) → R x (f y) → AllZip R (slice_set xs index x) (map f (slice_set ys index y))
zip_set R f [] [] index x y zipped here = zipped
zip_set R f [] (b ∷ ys) index x y zipped here = absurd zipped
zip_set R f (a ∷ xs) [] index x y zipped here = absurd zipped
zip_set R f (a ∷ xs) (b ∷ ys) zero x y zipped here = (here, zipped.1)
zip_set R f (a ∷ xs) (b ∷ ys) (suc index) x y zipped here = (zipped.0, zip_set R f xs ys index x y zipped.1 here)

-- the roots of scans of which one moved on
pub roots_set : (rows : List OpenRow) (index : ℕ) (row new : OpenRow) → slice_get rows index ≡ Some row → new.scan.root ≡ row.scan.root → roots_here (map scan_of (slice_set rows index new)) ≡ roots_here (map scan_of rows)
roots_set [] index row new at same = refl
roots_set (r ∷ rows) zero row new at same =
    let is : r ≡ row = cc in
    ap (λ (root : Option Root). root_here root ++ roots_here (map scan_of rows)) (same ∙ ap (λ (x : OpenRow). x.scan.root) (sym is))
roots_set (r ∷ rows) (suc index) row new at same = ap (λ (roots : List Root). root_here r.scan.root ++ roots) (roots_set rows index row new at same)
