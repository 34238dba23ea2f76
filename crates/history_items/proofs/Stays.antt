-- A need stays while fewer bytes are there than it says.
use Rattle.std.proofs.Common.{◌≡◌, ℕ, ◌+◌, ◌*◌, ◌<◌, ◌≤◌, Bool, true, false, ◌==◌, ◌&&◌, ◌||◌, nat_lt, nat_le, List, ◌++◌, length, Option, Some, None, refl, ap, ◌∙◌, arith}
use Rattle.std.specs.Prelude.{if◌then◌else◌, slice_index}
use Rattle.std.specs.List.{list_all}
use Rattle.std.proofs.lemmas.Bool.{cond-false, cond-true, le-ltb, lt-ltb, ltb-false}
use Rattle.std.proofs.lemmas.List.{length-append}
use Rattle.std.proofs.lemmas.Option.{same_Some}
use Rattle.ex_base.specs.declared.geometry.Geometry.{Geometry}
use Rattle.ex_base.specs.Bytes.{bytes_at}
use Rattle.ex_base.specs.Fields.{number_at}
use Rattle.ex_base.specs.Sizes.{leaf_bytes}
use Rattle.table_model.specs.Words.{is_name_byte}
use Rattle.trees.specs.Split.{most_pairs}
use Rattle.history_model.specs.Items.{children_most}
use Rattle.history_items.specs.ItemLaws.{NeedStays}
use Rattle.history_items.specs.Needs.{need_behind, need_of_file, need_of_large, need_of_leaf, need_of_node, need_of_small, need_of_version, need_whole}
use Rattle.history_items.specs.Reads.{are_good_pairs, is_good_root, node_read, root_read}
use Rattle.history_items.proofs.ItemNeeds.{byte_in_front, number_in_front}

-- ---- a need that stands once its front is there

abbrev StaysBehind : ℕ → (List ℕ → Option ℕ) → Type 0
StaysBehind front need = (bytes more : List ℕ) (n : ℕ) → front ≤ length bytes → need bytes ≡ Some n → length (bytes ++ more) < n → need (bytes ++ more) ≡ Some n

behind_stays : (front : ℕ) (good : List ℕ → Bool) (behind : List ℕ → Option ℕ) → ((bytes more : List ℕ) → front ≤ length bytes → good (bytes ++ more) ≡ good bytes) → StaysBehind front behind → NeedStays (λ b. need_behind front (length b) (good b) (behind b))
behind_stays front good behind same stays bytes more n e few = by_tests (nat_lt (length bytes) front) (good bytes) refl refl e
  where
    by_tests : (short is : Bool) → nat_lt (length bytes) front ≡ short → good bytes ≡ is → (if short then Some front else if is then behind bytes else None) ≡ Some n → need_behind front (length (bytes ++ more)) (good (bytes ++ more)) (behind (bytes ++ more)) ≡ Some n
    by_tests true is p q e =
        let front_is : front ≡ n = same_Some front n e in
        cond-true (nat_lt (length (bytes ++ more)) front) (Some front) (if good (bytes ++ more) then behind (bytes ++ more) else None) (lt-ltb (length (bytes ++ more)) front (omega arith)) ∙ e
    by_tests false true p q e =
        let long : front ≤ length bytes = ltb-false (length bytes) front p in
        cond-false (nat_lt (length (bytes ++ more)) front) (Some front) (if good (bytes ++ more) then behind (bytes ++ more) else None) (le-ltb (length (bytes ++ more)) front (omega (arith, length-append bytes more)))
        ∙ cond-true (good (bytes ++ more)) (behind (bytes ++ more)) None (same bytes more long ∙ q)
        ∙ stays bytes more n long e few
    by_tests false false p q e = absurd (cc)

-- ---- the whole item

whole_is : (short same good : Bool) (whole n : ℕ) → (if short then Some whole else if same && good then Some whole else None) ≡ Some n → whole ≡ n
whole_is true same good whole n e = same_Some whole n e
whole_is false true true whole n e = same_Some whole n e
whole_is false true false whole n e = absurd (cc)
whole_is false false good whole n e = absurd (cc)

whole_stays : (front : ℕ) (whole : List ℕ → ℕ) (good : List ℕ → Bool) → ((bytes more : List ℕ) → front ≤ length bytes → whole (bytes ++ more) ≡ whole bytes) → StaysBehind front (λ b. need_whole (whole b) (length b) (good b))
whole_stays front whole good same bytes more n long e few =
    let is : whole bytes ≡ n = whole_is (nat_lt (length bytes) (whole bytes)) (length bytes == whole bytes) (good bytes) (whole bytes) n e in
    let still : whole (bytes ++ more) ≡ n = same bytes more long ∙ is in
    cond-true (nat_lt (length (bytes ++ more)) (whole (bytes ++ more))) (Some (whole (bytes ++ more))) (if (length (bytes ++ more) == whole (bytes ++ more)) && good (bytes ++ more) then Some (whole (bytes ++ more)) else None) (lt-ltb (length (bytes ++ more)) (whole (bytes ++ more)) (omega arith)) ∙ ap Some still

-- ---- the items

pub leaf_stays : (g : Geometry) → NeedStays (need_of_leaf g)
leaf_stays g =
    behind_stays 4 (λ (b : List ℕ). nat_le 1 (number_at 4 b 0) && nat_le (number_at 4 b 0) (leaf_bytes g)) (λ (b : List ℕ). need_whole (4 + number_at 4 b 0) (length b) true)
    (λ bytes more long. ap (λ (n : ℕ). nat_le 1 n && nat_le n (leaf_bytes g)) (number_in_front 4 bytes more 0 long))
    (whole_stays 4 (λ (b : List ℕ). 4 + number_at 4 b 0) (λ (b : List ℕ). true) (λ bytes more long. ap (λ (n : ℕ). 4 + n) (number_in_front 4 bytes more 0 long)))

pub node_stays : (g : Geometry) (leaves before : ℕ) → NeedStays (need_of_node g leaves before)
node_stays g leaves before =
    behind_stays 3 (λ (b : List ℕ). nat_le 1 (slice_index b 0) && nat_le 1 (number_at 2 b 1) && nat_le (number_at 2 b 1) (most_pairs g.fan)) (λ (b : List ℕ). need_whole (3 + 12 * number_at 2 b 1) (length b) (are_good_pairs (children_most leaves before (slice_index b 0)) 0 (node_read b).pairs))
    (λ bytes more long. ap (λ (l : ℕ). nat_le 1 l && nat_le 1 (number_at 2 (bytes ++ more) 1) && nat_le (number_at 2 (bytes ++ more) 1) (most_pairs g.fan)) (byte_in_front bytes more 0 (omega arith))
    ∙ ap (λ (n : ℕ). nat_le 1 (slice_index bytes 0) && nat_le 1 n && nat_le n (most_pairs g.fan)) (number_in_front 2 bytes more 1 (omega arith)))
    (whole_stays 3 (λ (b : List ℕ). 3 + 12 * number_at 2 b 1) (λ (b : List ℕ). are_good_pairs (children_most leaves before (slice_index b 0)) 0 (node_read b).pairs) (λ bytes more long. ap (λ (n : ℕ). 3 + 12 * n) (number_in_front 2 bytes more 1 (omega arith))))

pub file_stays : NeedStays need_of_file
file_stays =
    behind_stays 1 (λ (b : List ℕ). nat_le 1 (slice_index b 0) && nat_le (slice_index b 0) 32) (λ (b : List ℕ). need_whole (5 + slice_index b 0) (length b) (list_all is_name_byte (bytes_at b 1 (slice_index b 0))))
    (λ bytes more long. ap (λ (n : ℕ). nat_le 1 n && nat_le n 32) (byte_in_front bytes more 0 (omega arith)))
    (whole_stays 1 (λ (b : List ℕ). 5 + slice_index b 0) (λ (b : List ℕ). list_all is_name_byte (bytes_at b 1 (slice_index b 0))) (λ bytes more long. ap (λ (n : ℕ). 5 + n) (byte_in_front bytes more 0 (omega arith))))

small_stays : (g : Geometry) → NeedStays (need_of_small g)
small_stays g =
    behind_stays 20 (λ (b : List ℕ). nat_le (number_at 2 b 18 + 44) g.page_size) (λ (b : List ℕ). need_whole (20 + number_at 2 b 18) (length b) true)
    (λ bytes more long. ap (λ (n : ℕ). nat_le (n + 44) g.page_size) (number_in_front 2 bytes more 18 (omega arith)))
    (whole_stays 20 (λ (b : List ℕ). 20 + number_at 2 b 18) (λ (b : List ℕ). true) (λ bytes more long. ap (λ (n : ℕ). 20 + n) (number_in_front 2 bytes more 18 (omega arith))))

large_stays : (leaves nodes : ℕ) → StaysBehind 18 (need_of_large leaves nodes)
large_stays leaves nodes = whole_stays 18 (λ (b : List ℕ). 31) (λ (b : List ℕ). is_good_root leaves nodes (root_read b)) (λ bytes more long. refl)

abbrev content_need : Geometry → ℕ → ℕ → List ℕ → Option ℕ
content_need g leaves nodes b = if slice_index b 17 == 1 then need_of_small g b else if slice_index b 17 == 2 then need_of_large leaves nodes b else None

pub version_stays : (g : Geometry) (leaves nodes : ℕ) → NeedStays (need_of_version g leaves nodes)
version_stays g leaves nodes =
    behind_stays 18 (λ (b : List ℕ). slice_index b 8 == 1 || slice_index b 8 == 2) (content_need g leaves nodes)
    (λ bytes more long. ap (λ (n : ℕ). n == 1 || n == 2) (byte_in_front bytes more 8 (omega arith)))
    (λ bytes more n long e few. by_form bytes more n (slice_index bytes 17 == 1) (slice_index bytes 17 == 2) refl refl long e few)
  where
    by_form : (bytes more : List ℕ) (n : ℕ) (small large : Bool) → (slice_index bytes 17 == 1) ≡ small → (slice_index bytes 17 == 2) ≡ large → 18 ≤ length bytes → (if small then need_of_small g bytes else if large then need_of_large leaves nodes bytes else None) ≡ Some n → length (bytes ++ more) < n → (if slice_index (bytes ++ more) 17 == 1 then need_of_small g (bytes ++ more) else if slice_index (bytes ++ more) 17 == 2 then need_of_large leaves nodes (bytes ++ more) else None) ≡ Some n
    by_form bytes more n true large p q long e few =
        cond-true (slice_index (bytes ++ more) 17 == 1) (need_of_small g (bytes ++ more)) _ (ap (λ (k : ℕ). k == 1) (byte_in_front bytes more 17 (omega arith)) ∙ p) ∙ small_stays g bytes more n e few
    by_form bytes more n false true p q long e few =
        cond-false (slice_index (bytes ++ more) 17 == 1) (need_of_small g (bytes ++ more)) _ (ap (λ (k : ℕ). k == 1) (byte_in_front bytes more 17 (omega arith)) ∙ p)
        ∙ cond-true (slice_index (bytes ++ more) 17 == 2) (need_of_large leaves nodes (bytes ++ more)) None (ap (λ (k : ℕ). k == 2) (byte_in_front bytes more 17 (omega arith)) ∙ q)
        ∙ large_stays leaves nodes bytes more n long e few
    by_form bytes more n false false p q long e few = absurd (cc)
