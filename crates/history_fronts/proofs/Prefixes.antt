-- What holds of a list holds of its fronts, and what a front of a file needs.
use Rattle.std.proofs.Common.{◌≡◌, ◌⊎◌, ℕ, suc, ◌+◌, ◌-◌, ◌/◌, ◌≤◌, Bool, true, false, nat_le, List, [], ◌∷◌, ◌++◌, map, refl, sym, subst, ◌∙◌, arith, inl, inr}
use Rattle.std.specs.Prelude.{Contains, IfSome, if◌then◌else◌}
use Rattle.std.specs.List.{AllByRecursion, AllZip}
use Rattle.std.proofs.lemmas.List.{map-append}
use Rattle.ex_base.specs.declared.geometry.Geometry.{Geometry}
use Rattle.ex_base.specs.Order.{InOrder}
use Rattle.table_model.specs.declared.table.Table.{Table}
use Rattle.table_model.specs.declared.table.TableFile.{TableFile}
use Rattle.table_model.specs.Tables.{IsTable, all_in}
use Rattle.table_model.proofs.TableRules.{file_linked}
use Rattle.version_lists.specs.Versions.{IsLinked, IsOlder}
use Rattle.version_lists.proofs.Lists.{Has, contains_has, has_contains, has_map}
use Rattle.version_lists.proofs.Links.{if_some_from, older_of}
use Rattle.history_model.specs.FilePages.{pages_filled, pages_for, record_size}
use Rattle.history_model.specs.History.{History, HistoryFile, HistoryVersion, number_in}
use Rattle.history_model.specs.Dumps.{IsFileOf, IsHistoryOf, IsVersionOf}
use Rattle.history_fronts.specs.Fronts.{HasOlders}

-- ---- order

pub in_order_front : {A : Type 0} (R : A → A → Type 0) (xs ys : List A) → InOrder R (xs ++ ys) → InOrder R xs
in_order_front R [] ys h = tt
in_order_front R (x ∷ []) ys h = tt
in_order_front R (x ∷ y ∷ xs) ys h = (h.0, in_order_front R (y ∷ xs) ys h.1)

-- ---- pages

filled_more : (page_size room n : ℕ) (ns ms : List ℕ) (fits : Bool) → pages_filled page_size (room - (n + 4)) ns ≤ pages_filled page_size (room - (n + 4)) ms → pages_filled page_size (page_size - 16 - (n + 4)) ns ≤ pages_filled page_size (page_size - 16 - (n + 4)) ms
    → (if fits then pages_filled page_size (room - (n + 4)) ns else suc (pages_filled page_size (page_size - 16 - (n + 4)) ns)) ≤ (if fits then pages_filled page_size (room - (n + 4)) ms else suc (pages_filled page_size (page_size - 16 - (n + 4)) ms))
filled_more page_size room n ns ms true here there = here
filled_more page_size room n ns ms false here there = omega arith

front_fills : (page_size room : ℕ) (ns ms : List ℕ) → pages_filled page_size room ns ≤ pages_filled page_size room (ns ++ ms)
front_fills page_size room [] ms = omega arith
front_fills page_size room (n ∷ ns) ms = filled_more page_size room n ns (ns ++ ms) (nat_le (n + 4) room) (front_fills page_size (room - (n + 4)) ns ms) (front_fills page_size (page_size - 16 - (n + 4)) ns ms)

abbrev made_file : List ℕ → List HistoryVersion → HistoryFile
made_file name versions = record { name = name; versions = versions }

abbrev size_in : HistoryVersion → ℕ
size_in v = record_size v.content

pub front_needs : (page_size : ℕ) (name : List ℕ) (vs ws : List HistoryVersion) → pages_for page_size (made_file name vs) ≤ pages_for page_size (made_file name (vs ++ ws))
front_needs page_size name vs ws =
    let split : map size_in (vs ++ ws) ≡ map size_in vs ++ map size_in ws = map-append size_in vs ws in
    let more : pages_filled page_size 0 (map size_in vs) ≤ pages_filled page_size 0 (map size_in (vs ++ ws)) = subst (λ (ns : List ℕ). pages_filled page_size 0 (map size_in vs) ≤ pages_filled page_size 0 ns) (sym split) (front_fills page_size 0 (map size_in vs) (map size_in ws)) in
    omega (arith, more)

-- ---- older versions

zip_right : {A B : Type 0} (R : A → B → Type 0) (xs : List A) (ys : List B) (x : A) → AllZip R xs ys → Has xs x → (y : B) × Has ys y × R x y
zip_right R [] ys x both has = absurd has
zip_right R (z ∷ xs) [] x both has = absurd both
zip_right R (z ∷ xs) (y ∷ ys) x both (inl e) = (y, inl refl, subst (λ w. R w y) e both.0)
zip_right R (z ∷ xs) (y ∷ ys) x both (inr has) = let rest = zip_right R xs ys x both.1 has in (rest.0, inr rest.1, rest.2)

zip_left : {A B : Type 0} (R : A → B → Type 0) (xs : List A) (ys : List B) (y : B) → AllZip R xs ys → Has ys y → (x : A) × Has xs x × R x y
zip_left R xs [] y both has = absurd has
zip_left R [] (z ∷ ys) y both has = absurd both
zip_left R (x ∷ xs) (z ∷ ys) y both (inl e) = (x, inl refl, subst (λ w. R x w) e both.0)
zip_left R (x ∷ xs) (z ∷ ys) y both (inr has) = let rest = zip_left R xs ys y both.1 has in (rest.0, inr rest.1, rest.2)

pub each_has : {A : Type 0} (P : A → Type 0) (xs : List A) → ((x : A) → Has xs x → P x) → AllByRecursion P xs
each_has P [] h = tt
each_has P (x ∷ xs) h = (h x (inl refl), each_has P xs (λ y has. h y (inr has)))

file_olders : (g : Geometry) (h : History) (t : Table) (f : HistoryFile) (k : TableFile) → IsTable g t → Has t.files k → IsFileOf g h f k → HasOlders f
file_olders g h t f k is there of = each_has (λ (v : HistoryVersion). IfSome v.older (Contains (map number_in f.versions))) f.versions (λ v has.
    if_some_from (Contains (map number_in f.versions)) v.older (λ number older.
    let twin = zip_right (IsVersionOf g h) f.versions (all_in k) v of.versions has in
    let linked : IsLinked (all_in k) twin.0 = (file_linked g t is k there).1 twin.0 twin.1 in
    let at : IsOlder (all_in k) twin.0 number = older_of (all_in k) twin.0 number linked (sym twin.2.older ∙ older) in
    let back = zip_left (IsVersionOf g h) f.versions (all_in k) at.older of.versions (contains_has (all_in k) at.older at.there) in
    subst (λ (n : ℕ). Contains (map number_in f.versions) n) (back.2.unique ∙ at.number_is) (has_contains (map number_in f.versions) (number_in back.0) (has_map number_in f.versions back.0 back.1))))

pub dump_olders : (g : Geometry) (h : History) (t : Table) → IsHistoryOf g h t → AllByRecursion HasOlders h.files
dump_olders g h t is = each_has HasOlders h.files (λ f has.
    let twin = zip_right (IsFileOf g h) h.files t.files f is.files has in
    file_olders g h t f twin.0 is.rules twin.1 twin.2)
