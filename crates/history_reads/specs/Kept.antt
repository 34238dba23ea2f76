-- What a reader keeps of a front.
use Rattle.std.specs.Prelude.{◌≡◌, ℕ, ◌-◌, ◌<◌, List, [], ◌∷◌, ◌++◌, length, map, replicate, Option, Some, None}
use Rattle.std.specs.List.{flat_map}
use Rattle.ex_base.specs.declared.geometry.Geometry.{Geometry}
use Rattle.ex_base.specs.Sizes.{leaf_bytes}
use Rattle.history_model.specs.Dumps.{namings_by, namings_on}
use Rattle.history_model.specs.History.{HistoryFile, HistoryVersion, number_in}
use Rattle.history_model.specs.Items.{IsRootNumber}
use Rattle.object_records.specs.Record.{Content, Small, Large}
use Rattle.history_items.specs.Heads.{stream_head}
use Rattle.history_counts.specs.CountLaws.{leaf_length}
use Rattle.history_counts.specs.Lengths.{Lengths, raised_by}
use Rattle.history_counts.specs.Numbers.{Numbers, no_numbers, one_if}
use Rattle.history_counts.specs.Pages.{needs_with_files, no_needs}
use Rattle.history_items.specs.declared.files.FileHead.{FileHead}
use Rattle.history_fronts.specs.Fronts.{AFile, Front, IsSound, Item, after, files_of}
use Rattle.history_reads.specs.declared.progress.Progress.{Progress}

-- how the leaves were named so far, in the order of the stream
abbrev pub namings_so_far : Front → List (ℕ × ℕ)
namings_so_far f = flat_map namings_on f.nodes ++ flat_map (λ (v : HistoryVersion). namings_by v.content) (flat_map (λ (file : HistoryFile). file.versions) (files_of f))

abbrev pub lengths_so_far : Geometry → Front → Lengths
lengths_so_far g f = record {
  lengths = map leaf_length f.leaves ++ replicate (f.head.leaves - length f.leaves) 0;
  longest = raised_by (leaf_bytes g) (replicate f.head.leaves 0) (namings_so_far f);
  most = leaf_bytes g;
}

abbrev pub name_if : Option HistoryFile → List ℕ
name_if None = []
name_if (Some f) = f.name

abbrev pub numbers_if : Option HistoryFile → Numbers
numbers_if None = no_numbers
numbers_if (Some f) = record { numbers = map number_in f.versions; olders = flat_map (λ (v : HistoryVersion). one_if v.older) f.versions }

-- What is kept is that of the front.
pub record Keeps (g : Geometry) (f : Front) (p : Progress) : Type 0 where
  pub geometry : p.geometry ≡ g
  pub head : stream_head p.head ≡ f.head
  pub leaves : p.leaves ≡ length f.leaves
  pub nodes : p.nodes ≡ length f.nodes
  pub files : p.files ≡ length (files_of f)
  pub missing : p.missing ≡ f.missing
  pub lengths : p.lengths ≡ lengths_so_far g f
  pub name : p.name ≡ name_if f.hand
  pub needs : p.needs ≡ needs_with_files g.page_size no_needs (files_of f)
  pub numbers : p.numbers ≡ numbers_if f.hand

-- ---- what an item does

-- what each front has that is reached by items
pub record IsReached (f : Front) : Type 0 where
  pub no_files : length f.nodes < f.head.nodes → (f.files ≡ []) × (f.hand ≡ None)
  pub no_nodes : length f.leaves < f.head.leaves → (f.nodes ≡ []) × (f.files ≡ []) × (f.hand ≡ None)
  pub hand : 0 < f.missing → (file : HistoryFile) × (f.hand ≡ Some file)
  pub first : f.hand ≡ None → f.files ≡ []

-- Of every front whose counts were kept, those with the item are kept now, and it is sound.
abbrev pub Takes : Progress → Progress → Item → Type 0
Takes was now item = (g : Geometry) (f : Front) → Keeps g f was → IsReached f → IsSound g f → Keeps g (after f item) now × IsSound g (after f item)

-- No front whose counts are kept is sound with the item.
abbrev pub Refuses : Progress → Item → Type 0
Refuses was item = (g : Geometry) (f : Front) → Keeps g f was → IsReached f → IsSound g (after f item) → ⊥

-- the item of a file's head that the code holds
abbrev pub file_item_of : FileHead → Item
file_item_of file = AFile (record { name = file.name.now; versions = file.versions })

-- a root of height 0 is the number of a leaf that there is
abbrev pub NamesThere : ℕ → Content → Type 0
NamesThere leaves (Small bytes) = Unit {0}
NamesThere leaves (Large root) = root.height ≡ 0 → IsRootNumber leaves root.page

-- They are of one stream: the sizes and the head are the same.
abbrev pub AreOfOneStream : Progress → Progress → Type 0
AreOfOneStream was now = (now.geometry ≡ was.geometry) × (now.head ≡ was.head)
