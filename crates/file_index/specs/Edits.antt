-- What adding a page to an index and taking one out of it leave.
use Rattle.std.specs.Prelude.{◌≡◌, ◌≤◌, ◌+◌, ℕ, true, List, [], ◌∷◌, nat_lt, ◌==◌, if◌then◌else◌}
use Rattle.std.specs.List.{flat_map, AllByRecursion}
use Rattle.ex_base.specs.declared.ground.Ground as ground
use Rattle.ex_base.specs.Ports.{times}
use Rattle.file_index.specs.declared.Entry.{Entry}
use Rattle.ex_base.specs.declared.names.Index.{Index}
use Rattle.file_index.specs.Changes.{Changes, count_of}
use Rattle.file_index.specs.Index.{IsUnder, IsIndex, Rises, keys_under, pages_under, keys_of, pages_of, HasRoot}
use Rattle.std.specs.Prelude.{Some}

-- a number put into a list that rises; one that stands there stays
abbrev pub put_in : ℕ → List ℕ → List ℕ
put_in key [] = key ∷ []
put_in key (x ∷ xs) = if nat_lt key x then key ∷ x ∷ xs else if key == x then x ∷ xs else x ∷ put_in key xs

-- a list without a number
abbrev pub take_out : ℕ → List ℕ → List ℕ
take_out key [] = []
take_out key (x ∷ xs) = if key == x then take_out key xs else x ∷ take_out key xs

-- ---- a whole index

-- the index is whole, and the working state has its index pages
pub record HasIndex {S : Type 0} (g : ground.Ghosts S) (s : S) (index : Index) : Type 0 where
  pub whole : IsIndex (g.geometry s) (g.image s) index.file_no index.level index.root
  pub held : (page : ℕ) → 1 ≤ times page (pages_of (g.image s) index.level index.root) → g.held s page ≡ true

-- An index becomes another of the same file: its list of pages is edited, and of what the port has only its index pages change.
pub record EditsIndex {S : Type 0} (g : ground.Ghosts S) (old new : S) (edit : List ℕ → List ℕ) (before after : Index) : Type 0 where
  pub index : HasIndex g new after
  pub same_file : after.file_no ≡ before.file_no
  pub keys : keys_of (g.image new) after.level after.root ≡ edit (keys_of (g.image old) before.level before.root)
  pub changes : Changes g old new (pages_of (g.image old) before.level before.root) (pages_of (g.image new) after.level after.root)

-- An index of the same file with a root, and at most one level more.
pub record GrowsTo (before after : Index) : Type 0 where
  pub same_file : after.file_no ≡ before.file_no
  pub root : HasRoot after.level after.root
  pub no_less : before.level ≤ after.level
  pub one_more : after.level ≤ before.level + 1

-- An index of the same file, whose root is one level lower or none where it had only one page.
pub record ShrinksTo (before after : Index) : Type 0 where
  pub same_file : after.file_no ≡ before.file_no
  pub root : HasRoot after.level after.root
  pub no_more : after.level ≤ before.level

-- ---- entries that stand side by side

-- the pages of the file under entries that name pages of a level, and the index pages
abbrev pub keys_among : (ℕ → List ℕ) → ℕ → List Entry → List ℕ
keys_among image level entries = flat_map (λ (entry : Entry). keys_under image level entry.page.0) entries

abbrev pub pages_among : (ℕ → List ℕ) → ℕ → List Entry → List ℕ
pages_among image level entries = flat_map (λ (entry : Entry). pages_under image level entry.page.0) entries

-- The entries name whole indexes of a level. The pages of the file rise, and each index page is named once and is one that the working state has.
pub record IsRow {S : Type 0} (g : ground.Ghosts S) (s : S) (file_no level : ℕ) (entries : List Entry) : Type 0 where
  pub under : AllByRecursion (λ (entry : Entry). IsUnder (g.geometry s) file_no (g.image s) level (Some entry.key) entry.page.0) entries
  pub rising : Rises 0 (keys_among (g.image s) level entries)
  pub once : (page : ℕ) → times page (pages_among (g.image s) level entries) ≤ count_of (g.held s page)

-- What stood for these pages of the file and had these index pages becomes entries that stand for the edited list.
pub record Turns {S : Type 0} (g : ground.Ghosts S) (old new : S) (file_no level : ℕ) (edit : List ℕ → List ℕ) (keys_before pages_before : List ℕ) (after : List Entry) : Type 0 where
  pub row : IsRow g new file_no level after
  pub keys : keys_among (g.image new) level after ≡ edit keys_before
  pub changes : Changes g old new pages_before (pages_among (g.image new) level after)

-- Entries become others, whose pages of the file are the edited list.
abbrev pub Becomes : {S : Type 0} → ground.Ghosts S → S → S → ℕ → ℕ → (List ℕ → List ℕ) → List Entry → List Entry → Type 0
Becomes g old new file_no level edit before after = Turns g old new file_no level edit (keys_among (g.image old) level before) (pages_among (g.image old) level before) after
