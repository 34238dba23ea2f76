-- Names of files, which come in order.
use Rattle.std.proofs.Common.{◌≡◌, ℕ, ◌&&◌, true, false, leb-true, nat_le, List, [], ◌∷◌, ◌++◌, length, map, refl, sym, ap, ◌∙◌}
use Rattle.std.specs.Prelude.{Contains, IsTrue}
use Rattle.std.specs.List.{AllByRecursion, list_all}
use Rattle.std.specs.Cmp.Lexicographic.{nat_list_cmp_total, slice_cmp}
use Rattle.std.specs.Ordering.{is_lt, nat_cmp, ordering_reverse}
use Rattle.std.specs.declared.cmp.Ordering.TheVariants.{Greater, Less}
use Rattle.std.proofs.lemmas.Bool.{and_parts, cond-false}
use Rattle.ex_base.specs.Order.{RisingTexts}
use Rattle.object_files.specs.Catalog.{FileEntry, IsName, is_name_byte, name_of}
use Rattle.object_files.specs.Edits.{entry_inserted}
use Rattle.table_model.specs.Words as words
use Rattle.version_lists.proofs.Lists.{contains_has}
use Rattle.volume_model.proofs.Places.{each_has}

-- ---- what a name is

-- Each byte of a name may stand in one.
each_byte : (name : List ℕ) → list_all words.is_name_byte name ≡ true → AllByRecursion (λ b. is_name_byte b ≡ true) name
each_byte [] all = tt
each_byte (b ∷ name) all = let both = and_parts (words.is_name_byte b) (list_all words.is_name_byte name) all in (both.0, each_byte name both.1)

-- what a stream takes for a name is one for a catalog
pub name_is : (name : List ℕ) → IsTrue (words.is_name name) → IsName name
name_is name form =
    let outer = and_parts (nat_le 1 (length name) && nat_le (length name) 32) (list_all words.is_name_byte name) form in
    let inner = and_parts (nat_le 1 (length name)) (nat_le (length name) 32) outer.0 in
    record { some = leb-true 1 (length name) inner.0; short = leb-true (length name) 32 inner.1; bytes = each_byte name outer.1 }

-- ---- the last one

-- A name comes before a later one.
abbrev pub ComesBefore : List ℕ → List ℕ → Type 0
ComesBefore later name = slice_cmp nat_cmp name later ≡ Less

-- the last of names in order comes behind each other one
pub last_behind : (names : List (List ℕ)) (last : List ℕ) → RisingTexts (names ++ last ∷ []) → AllByRecursion (ComesBefore last) names
last_behind [] last up = tt
last_behind (x ∷ []) last up = (up.0, tt)
last_behind (x ∷ y ∷ names) last up = let rest = last_behind (y ∷ names) last up.1 in (nat_list_cmp_total.trans x y last up.0 rest.0, rest)

-- A name that comes behind another isn't put before it.
not_first : (name later : List ℕ) → slice_cmp nat_cmp name later ≡ Less → is_lt (slice_cmp nat_cmp later name) ≡ false
not_first name later less = ap is_lt (nat_list_cmp_total.antisymm later name ∙ ap ordering_reverse less)

-- No name comes before itself.
not_before_self : (name : List ℕ) → slice_cmp nat_cmp name name ≡ Less → ⊥
not_before_self name self = (let turned : Less ≡ Greater = sym self ∙ nat_list_cmp_total.antisymm name name ∙ ap ordering_reverse self in absurd cc)

-- it isn't among the others
pub last_unused : (names : List (List ℕ)) (last : List ℕ) → AllByRecursion (ComesBefore last) names → Contains names last → ⊥
last_unused names last before has = not_before_self last (each_has (ComesBefore last) names before last (contains_has names last has))

-- and its file is put in behind the other ones
pub inserted_last : (e : FileEntry) (entries : List FileEntry) → AllByRecursion (ComesBefore e.name) (map name_of entries) → entry_inserted e entries ≡ entries ++ e ∷ []
inserted_last e [] before = refl
inserted_last e (f ∷ entries) before =
    cond-false (is_lt (slice_cmp nat_cmp e.name f.name)) (e ∷ f ∷ entries) (f ∷ entry_inserted e entries) (not_first f.name e.name before.0)
    ∙ ap (λ (rest : List FileEntry). f ∷ rest) (inserted_last e entries before.1)
