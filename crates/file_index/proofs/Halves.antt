-- Entries that are written onto two pages, half onto each, and changes of two pages one after the other.
use Rattle.std.proofs.Common.{◌≡◌, ◌≢◌, ◌≤◌, ◌<◌, ◌+◌, ◌-◌, ◌*◌, ◌/◌, ℕ, zero, suc, true, List, [], ◌∷◌, length, take, drop, get_or, Some, refl, sym, ap, subst, ◌∙◌, arith}
use Rattle.std.proofs.lemmas.List.{length-take, length-drop}
use Rattle.std.proofs.Math.Seq.{take-length}
use Rattle.ex_base.specs.declared.ground.Ground as ground
use Rattle.ex_base.specs.declared.geometry.Geometry.{Geometry}
use Rattle.ex_base.specs.Ports.{times, Keeps}
use Rattle.ex_base.specs.Sizes.{least_page}
use Rattle.ex_base.proofs.Counts.{times_here}
use Rattle.file_index.specs.declared.Entry.{Entry}
use Rattle.file_index.specs.IndexPage.{most_entries, index_page}
use Rattle.file_index.specs.Changes.{Changes}
use Rattle.file_index.specs.Index.{IsFilesPage}
use Rattle.file_index.specs.Nodes.{IsWritten, Stored, first_key, left_part}
use Rattle.file_index.proofs.Counts.{changes_more, changes_trans, keeps_changes, is_counted, count_is, count_most}

-- ---- the halves

-- the entries behind the first ones
pub rest_taken : (all : List Entry) (half : ℕ) → take (length all - half) (drop half all) ≡ drop half all
rest_taken all half = ap (λ (k : ℕ). take k (drop half all)) (sym (length-drop half all)) ∙ take-length (drop half all)

pub key_behind : (all : List Entry) (half : ℕ) (none : Entry) → half < length all → (get_or all half none).key ≡ first_key (drop half all)
key_behind [] half none lt = absurd (omega arith)
key_behind (e ∷ all) zero none lt = refl
key_behind (e ∷ all) (suc half) none lt = key_behind all half none (omega arith)

-- entries that are too many for one page and few enough for two
pub record Halves (all : List Entry) (half most : ℕ) : Type 0 where
  pub inside : half < length all
  pub front : half ≡ length (take half all)
  pub left_some : 1 ≤ length (take half all)
  pub left_room : length (take half all) ≤ most
  pub right_some : 1 ≤ length (take (length all - half) (drop half all))
  pub right_room : length (take (length all - half) (drop half all)) ≤ most

halved : (n half most : ℕ) → half ≡ n - n / 2 → most < n → n ≤ 2 * most → 62 ≤ most
    → (half < n) × (1 ≤ half) × (half ≤ most) × (1 ≤ n - half) × (n - half ≤ most)
halved n half most is many few some = (omega arith, omega arith, omega arith, omega arith, omega arith)

pub halves : (g : Geometry) (all : List Entry) (half : ℕ) → half ≡ left_part (length all) → most_entries g.page_size < length all
    → length all ≤ 2 * most_entries g.page_size → Halves all half (most_entries g.page_size)
halves g all half is many few =
    let h = halved (length all) half (most_entries g.page_size) is many few (omega (arith, least_page g)) in
    let left : length (take half all) ≡ half = omega (arith, length-take half all, h.0) in
    let right : length (take (length all - half) (drop half all)) ≡ length all - half = ap length (rest_taken all half) ∙ length-drop half all in
    record {
      inside = h.0;
      front = sym left;
      left_some = subst (λ (k : ℕ). 1 ≤ k) (sym left) h.1;
      left_room = subst (λ (k : ℕ). k ≤ most_entries g.page_size) (sym left) h.2;
      right_some = subst (λ (k : ℕ). 1 ≤ k) (sym right) h.3;
      right_room = subst (λ (k : ℕ). k ≤ most_entries g.page_size) (sym right) h.4;
    }

-- one entry more than a page has room for
pub one_more_few : (g : Geometry) (n : ℕ) → n ≤ most_entries g.page_size + 1 → n ≤ 2 * most_entries g.page_size
one_more_few g n few = omega (arith, few, least_page g)

-- ---- what a test of the room tells

module _ (size most n : ℕ) (g : Geometry) (is : most ≡ most_entries size) (same : size ≡ g.page_size) where
  pub few_enough : n ≤ most → n ≤ most_entries g.page_size
  few_enough le = subst (λ (k : ℕ). n ≤ most_entries k) same (subst (λ (k : ℕ). n ≤ k) is le)

  pub too_many : most < n → most_entries g.page_size < n
  too_many lt = subst (λ (k : ℕ). most_entries k < n) same (subst (λ (k : ℕ). k < n) is lt)

-- ---- pages that were written

module _ {S : Type 0} (g : ground.Ghosts S) where
  -- a page stays as it was written, where a later call changes none but others
  pub written_stays : (a b : S) (page level file_no : ℕ) (entries : List Entry) (before after : List ℕ) → g.held a page ≡ true → times page before ≡ 0
      → Changes g a b before after → IsWritten g a page level file_no entries → IsWritten g b page level file_no entries
  written_stays a b page level file_no entries before after held other changes w =
      let same : g.geometry a ≡ g.geometry b = sym (g.leads_geometry a b changes.leads) in
      record {
        files = subst (λ (y : Geometry). IsFilesPage y page) same w.files;
        inner = w.inner;
        byte = w.byte;
        number = w.number;
        some = w.some;
        room = subst (λ (y : Geometry). length entries ≤ most_entries y.page_size) same w.room;
        fields = w.fields;
        image = changes.images page held other ∙ w.image ∙ ap (λ (y : Geometry). index_page y.page_size level file_no entries) same;
      }

  -- the greater half of the entries stands on one page, the others on another
  pub both_stored : (c : S) (page level file_no half other_level other_file : ℕ) (all : List Entry) (second : Entry) → half ≡ left_part (length all)
      → other_level ≡ level → other_file ≡ file_no
      → most_entries (g.geometry c).page_size < length all → second.key ≡ first_key (drop half all)
      → IsWritten g c page level file_no (take half all) → IsWritten g c second.page.0 other_level other_file (take (length all - half) (drop half all)) →
      Stored g c page level file_no all (Some second)
  both_stored c page level file_no half other_level other_file all second is same_level same_file many key left right =
      let rest = subst (λ (l : List Entry). IsWritten g c second.page.0 other_level other_file l) (rest_taken all half) right in
      let here = subst (λ (n : ℕ). IsWritten g c second.page.0 n file_no (drop half all)) same_level
      (subst (λ (n : ℕ). IsWritten g c second.page.0 other_level n (drop half all)) same_file rest) in
      subst (λ (k : ℕ). (most_entries (g.geometry c).page_size < length all) × (second.key ≡ first_key (drop k all)) × IsWritten g c page level file_no
      (take k all) × IsWritten g c second.page.0 level file_no (drop k all)) is
      (many, key, left, here)

  -- a page that came is held, and is no page that was held before
  pub came_held : (a b : S) (page : ℕ) → Changes g a b [] (page ∷ []) → g.held b page ≡ true
  came_held a b page changes = is_counted (g.held b page) (omega (arith, changes.counted page, times_here page page [] refl))

  pub came_apart : (a b : S) (page was : ℕ) → Changes g a b [] (page ∷ []) → g.held a was ≡ true → page ≢ was
  came_apart a b page was changes held same =
      absurd (omega (
        arith,
        changes.counted page,
        times_here page page [] refl,
        count_is (g.held a page) (ap (g.held a) same ∙ held),
        count_most
            (g.held b page),
      ))

  -- ---- changes one after the other

  -- a page that stays, and then another
  pub changes_two : (a b c : S) (x y : ℕ) (ys : List ℕ) → Changes g a b (x ∷ []) (x ∷ []) → Changes g b c (y ∷ []) ys → Changes g a c (x ∷ y ∷ []) (x ∷ ys)
  changes_two a b c x y ys one two =
      changes_trans g a b c (x ∷ y ∷ []) (x ∷ y ∷ []) (x ∷ ys)
      (changes_more g a b (x ∷ []) (x ∷ []) (x ∷ y ∷ []) (x ∷ y ∷ []) (λ p. times p (y ∷ [])) one (λ p. omega arith) (λ p. omega arith))
      (changes_more g b c (y ∷ []) ys (x ∷ y ∷ []) (x ∷ ys) (λ p. times p (x ∷ [])) two (λ p. omega arith) (λ p. omega arith))

  -- a page that comes, and then one that stays
  pub changes_come : (a b c : S) (x y : ℕ) → Changes g a b [] (y ∷ []) → Changes g b c (x ∷ []) (x ∷ []) → Changes g a c (x ∷ []) (x ∷ y ∷ [])
  changes_come a b c x y one two =
      changes_trans g a b c (x ∷ []) (x ∷ y ∷ []) (x ∷ y ∷ [])
      (changes_more g a b [] (y ∷ []) (x ∷ []) (x ∷ y ∷ []) (λ p. times p (x ∷ [])) one (λ p. omega arith) (λ p. omega arith))
      (changes_more g b c (x ∷ []) (x ∷ []) (x ∷ y ∷ []) (x ∷ y ∷ []) (λ p. times p (y ∷ [])) two (λ p. omega arith) (λ p. omega arith))

  -- after a call that keeps everything
  pub changes_since : (a b c : S) (xs ys : List ℕ) → Keeps g a b → Changes g b c xs ys → Changes g a c xs ys
  changes_since a b c xs ys kept changes = changes_trans g a b c xs xs ys (keeps_changes g a b xs kept) changes
