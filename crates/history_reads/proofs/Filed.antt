-- What the heads of files and versions do to what is kept.
use Rattle.std.proofs.Common.{◌≡◌, ◌⊎◌, ◌↔◌, ℕ, zero, suc, ◌+◌, ◌-◌, ◌<◌, ◌≤◌, Bool, true, false, nat_le, List, [], ◌∷◌, ◌++◌, length, map, Option, Some, None, refl, sym, ap, subst, ◌∙◌, arith, append_assoc, inl, inr}
use Rattle.std.specs.Prelude.{Contains, IfSome, if◌then◌else◌}
use Rattle.std.specs.List.{flat_map, AllByRecursion}
use Rattle.std.specs.Ordering.{nat_cmp}
use Rattle.std.specs.Cmp.Lexicographic.{slice_cmp}
use Rattle.std.specs.declared.cmp.Ordering.TheVariants.{Less}
use Rattle.std.proofs.lemmas.List.{append-nil, flat_map_more, length_push, map_push}
use Rattle.ex_base.specs.declared.geometry.Geometry.{Geometry}
use Rattle.ex_base.specs.Even.{sum_of}
use Rattle.ex_base.specs.Order.{InOrder, Rising, RisingTexts}
use Rattle.ex_base.proofs.Each.{split_each}
use Rattle.ex_base.proofs.Rows.{each-append}
use Rattle.history_model.specs.Dumps.{namings_by, namings_on}
use Rattle.history_model.specs.FilePages.{pages_for, record_size}
use Rattle.history_model.specs.History.{HistoryFile, HistoryVersion, number_in}
use Rattle.history_model.specs.Items.{IsContentItem, IsRootNumber, roots_most}
use Rattle.history_model.specs.Stream.{StreamHead}
use Rattle.object_records.specs.Record.{Content, Small, Large}
use Rattle.history_items.specs.Heads.{stream_head}
use Rattle.history_items.specs.ItemLaws.{FileFront}
use Rattle.history_counts.specs.declared.page_needs.PageNeeds.{PageNeeds}
use Rattle.history_counts.specs.Lengths.{Lengths, raised_by}
use Rattle.history_counts.specs.Numbers.{Numbers, no_numbers, numbered_more, one_if}
use Rattle.history_counts.specs.Pages.{needs_with_file, needs_with_files, needs_with_record, no_needs, pages_by}
use Rattle.history_counts.proofs.Counted.{needs_with_files-append, needs_with_versions-append, pages_counted}
use Rattle.history_fronts.specs.Fronts.{AFile, AVersion, Front, HasOlders, IsSound, after, files_of, history_of, one_less, one_of, with_version}
use Rattle.history_reads.specs.declared.progress.Progress.{Progress}
use Rattle.history_reads.specs.Kept.{IsReached, Keeps, NamesThere, Refuses, Takes, name_if, namings_so_far, numbers_if}
use Rattle.history_reads.proofs.Tables.{lengths_more, made_lengths}

abbrev name_in : HistoryFile → List ℕ
name_in f = f.name

abbrev AreRising : HistoryFile → Type 0
AreRising f = Rising (map number_in f.versions)

abbrev ComesFirst : List ℕ → List ℕ → Type 0
ComesFirst x y = slice_cmp nat_cmp x y ≡ Less

-- ---- order

in_order_more : {A : Type 0} (R : A → A → Type 0) (xs : List A) (y z : A) → InOrder R (xs ++ y ∷ []) → R y z → InOrder R ((xs ++ y ∷ []) ++ z ∷ [])
in_order_more R [] y z h r = (r, tt)
in_order_more R (x ∷ []) y z h r = (h.0, (r, tt))
in_order_more R (x ∷ w ∷ xs) y z h r = (h.0, in_order_more R (w ∷ xs) y z h.1 r)

in_order_last : {A : Type 0} (R : A → A → Type 0) (xs : List A) (y z : A) → InOrder R ((xs ++ y ∷ []) ++ z ∷ []) → R y z
in_order_last R [] y z h = h.0
in_order_last R (x ∷ []) y z h = h.1.0
in_order_last R (x ∷ w ∷ xs) y z h = in_order_last R (w ∷ xs) y z h.1

-- ---- what is kept now tells that the front is sound

pub pages_kept : (g : Geometry) (f : Front) (p : Progress) → Keeps g f p → sum_of (pages_for g.page_size) (files_of f) ≡ pages_by p.needs
pages_kept g f p k = sym (pages_counted g.page_size (history_of f)) ∙ ap pages_by (sym k.needs)

sound_now : (g : Geometry) (f : Front) (p : Progress) → Keeps g f p → RisingTexts (map name_in (files_of f)) → AllByRecursion AreRising (files_of f) → AllByRecursion HasOlders f.files → (f.missing ≡ 0 → IfSome f.hand HasOlders) → IsSound g f
sound_now g f p k names rising olders last = record {
  names = names;
  rising = rising;
  pages = omega (arith, pages_kept g f p k, p.few_pages, ap (λ (h : StreamHead). h.pages) k.head);
  olders = olders;
  last = last;
}

-- ---- the head of a file

abbrev new_file : FileFront → HistoryFile
new_file file = record { name = file.name; versions = [] }

pub record FileTaken (was now : Progress) (file : FileFront) : Type 0 where
  pub geometry : now.geometry ≡ was.geometry
  pub head : now.head ≡ was.head
  pub leaves : now.leaves ≡ was.leaves
  pub nodes : now.nodes ≡ was.nodes
  pub files : now.files ≡ was.files + 1
  pub missing : now.missing ≡ file.versions
  pub lengths : now.lengths ≡ was.lengths
  pub name : now.name ≡ file.name
  pub needs : now.needs ≡ needs_with_file was.needs
  pub numbers : now.numbers ≡ no_numbers

abbrev versions_in : HistoryFile → List HistoryVersion
versions_in f = f.versions

no_more_named : (f : Front) (file : FileFront) → namings_so_far (after f (AFile file)) ≡ namings_so_far f ++ []
no_more_named f file =
    let none : flat_map versions_in (files_of f ++ new_file file ∷ []) ≡ flat_map versions_in (files_of f) = sym (flat_map_more versions_in [] (files_of f) (new_file file)) ∙ append-nil (flat_map versions_in (files_of f)) in
    ap (λ (vs : List HistoryVersion). flat_map namings_on f.nodes ++ flat_map (λ (v : HistoryVersion). namings_by v.content) vs) none ∙ sym (append-nil (namings_so_far f))

file_needs : (page_size : ℕ) (fs : List HistoryFile) (file : FileFront) → needs_with_files page_size no_needs (fs ++ new_file file ∷ []) ≡ needs_with_file (needs_with_files page_size no_needs fs)
file_needs page_size fs file = needs_with_files-append page_size no_needs fs (new_file file ∷ [])

file_kept : (g : Geometry) (f : Front) (was now : Progress) (file : FileFront) → FileTaken was now file → Keeps g f was → Keeps g (after f (AFile file)) now
file_kept g f was now file taken k = record {
  geometry = taken.geometry ∙ k.geometry;
  head = ap stream_head taken.head ∙ k.head;
  leaves = taken.leaves ∙ k.leaves;
  nodes = taken.nodes ∙ k.nodes;
  files = omega (arith, taken.files, k.files, length_push (files_of f) (new_file file));
  missing = taken.missing;
  lengths = taken.lengths ∙ k.lengths ∙ lengths_more g f (after f (AFile file)) [] refl refl (no_more_named f file);
  name = taken.name;
  needs = taken.needs ∙ ap needs_with_file k.needs ∙ sym (file_needs g.page_size (files_of f) file);
  numbers = taken.numbers;
}

-- names with one more
names_more : (files : List HistoryFile) (hand : Option HistoryFile) (name : List ℕ) → (hand ≡ None → files ≡ []) → RisingTexts (map name_in (files ++ one_of hand)) → ComesFirst (name_if hand) name → RisingTexts (map name_in (files ++ one_of hand) ++ name ∷ [])
names_more files None name first rising less =
    let none : map name_in (files ++ []) ≡ [] = ap (λ (fs : List HistoryFile). map name_in (fs ++ [])) (first refl) in
    subst (λ (t : List (List ℕ)). RisingTexts (t ++ name ∷ [])) (sym none) tt
names_more files (Some h) name first rising less =
    let split : map name_in (files ++ h ∷ []) ≡ map name_in files ++ h.name ∷ [] = map_push name_in files h in
    subst (λ (t : List (List ℕ)). RisingTexts (t ++ name ∷ [])) (sym split) (in_order_more ComesFirst (map name_in files) h.name name (subst RisingTexts split rising) less)

names_last : (files : List HistoryFile) (hand : Option HistoryFile) (name : List ℕ) → 1 ≤ length name → RisingTexts (map name_in (files ++ one_of hand) ++ name ∷ []) → ComesFirst (name_if hand) name
names_last files None [] some rising = absurd (omega arith)
names_last files None (b ∷ name) some rising = refl
names_last files (Some h) name some rising =
    let split : map name_in (files ++ h ∷ []) ≡ map name_in files ++ h.name ∷ [] = map_push name_in files h in
    in_order_last ComesFirst (map name_in files) h.name name (subst (λ (t : List (List ℕ)). RisingTexts (t ++ name ∷ [])) split rising)

last_olders : (o : Option HistoryFile) → IfSome o HasOlders → AllByRecursion HasOlders (one_of o)
last_olders None has = tt
last_olders (Some h) has = (has, tt)

pub file_takes : (was now : Progress) (file : FileFront) → was.missing ≡ 0 → ComesFirst was.name file.name → FileTaken was now file → Takes was now (AFile file)
file_takes was now file none less taken = λ g f k reached sound.
    let kept = file_kept g f was now file taken k in
    let before : ComesFirst (name_if f.hand) file.name = subst (λ (n : List ℕ). ComesFirst n file.name) k.name less in (
      kept,
      sound_now g (after f (AFile file)) now kept
          (subst RisingTexts (sym (map_push name_in (files_of f) (new_file file))) (names_more f.files f.hand file.name reached.first sound.names before))
          (each-append AreRising (files_of f) (new_file file ∷ []) sound.rising (tt, tt))
          (each-append HasOlders f.files (one_of f.hand) sound.olders (last_olders f.hand (sound.last (sym k.missing ∙ none))))
          (λ e. tt),
    )

-- the name comes not behind the last one, or there are too many pages
pub file_refuses : (was : Progress) (file : FileFront) → 1 ≤ length file.name → (ComesFirst was.name file.name → ⊥) ⊎ (was.head.pages < pages_by (needs_with_file was.needs)) → Refuses was (AFile file)
file_refuses was file some (inl late) = λ g f k reached sound.
    late (subst (λ (n : List ℕ). ComesFirst n file.name) (sym k.name) (names_last f.files f.hand file.name some (subst RisingTexts (map_push name_in (files_of f) (new_file file)) sound.names)))
file_refuses was file some (inr many) = λ g f k reached sound.
    let counted : sum_of (pages_for g.page_size) (files_of (after f (AFile file))) ≡ pages_by (needs_with_file was.needs) =
    sym (pages_counted g.page_size (history_of (after f (AFile file)))) ∙ ap pages_by (file_needs g.page_size (files_of f) file ∙ ap needs_with_file (sym k.needs)) in
    omega (arith, sound.pages, counted, many, ap (λ (h : StreamHead). h.pages) k.head)

-- ---- a version

abbrev more_in : HistoryFile → HistoryVersion → HistoryFile
more_in h v = record { name = h.name; versions = h.versions ++ v ∷ [] }

-- what one version more does to what is kept of the files
record OneMore (page_size : ℕ) (files : List HistoryFile) (v : HistoryVersion) (o : Option HistoryFile) : Type 0 where
  count : length (files ++ one_of (with_version v o)) ≡ length (files ++ one_of o)
  name : name_if (with_version v o) ≡ name_if o
  names : map name_in (files ++ one_of (with_version v o)) ≡ map name_in (files ++ one_of o)
  needs : needs_with_files page_size no_needs (files ++ one_of (with_version v o)) ≡ needs_with_record page_size (needs_with_files page_size no_needs (files ++ one_of o)) (record_size v.content)
  numbers : numbers_if (with_version v o) ≡ numbered_more (numbers_if o) v.unique v.older
  named : flat_map versions_in (files ++ one_of (with_version v o)) ≡ flat_map versions_in (files ++ one_of o) ++ v ∷ []

abbrev made_numbers : List ℕ → List ℕ → Numbers
made_numbers numbers olders = record { numbers = numbers; olders = olders }

abbrev older_in : HistoryVersion → List ℕ
older_in v = one_if v.older

one_more : (page_size : ℕ) (files : List HistoryFile) (v : HistoryVersion) (h : HistoryFile) → OneMore page_size files v (Some h)
one_more page_size files v h = record {
  count = omega (arith, length_push files (more_in h v), length_push files h);
  name = refl;
  names = map_push name_in files (more_in h v) ∙ sym (map_push name_in files h);
  needs =
      needs_with_files-append page_size no_needs files (more_in h v ∷ [])
      ∙ needs_with_versions-append page_size (needs_with_file (needs_with_files page_size no_needs files)) h.versions (v ∷ [])
      ∙ ap (λ (n : PageNeeds). needs_with_record page_size n (record_size v.content)) (sym (needs_with_files-append page_size no_needs files (h ∷ [])));
  numbers =
      ap (λ (ns : List ℕ). made_numbers ns (flat_map older_in (h.versions ++ v ∷ []))) (map_push number_in h.versions v)
      ∙ ap (made_numbers (map number_in h.versions ++ v.unique ∷ [])) (sym (flat_map_more older_in [] h.versions v));
  named =
      sym (flat_map_more versions_in [] files (more_in h v))
      ∙ sym (append_assoc (flat_map versions_in files) h.versions (v ∷ []))
      ∙ ap (λ (vs : List HistoryVersion). vs ++ v ∷ []) (flat_map_more versions_in [] files h);
}

one_more_of : (page_size : ℕ) (f : Front) (v : HistoryVersion) → IsReached f → 0 < f.missing → OneMore page_size f.files v f.hand
one_more_of page_size f v reached some = let hand = reached.hand some in subst (OneMore page_size f.files v) (sym hand.1) (one_more page_size f.files v hand.0)

pub record VersionTaken (was now : Progress) (v : HistoryVersion) : Type 0 where
  pub geometry : now.geometry ≡ was.geometry
  pub head : now.head ≡ was.head
  pub leaves : now.leaves ≡ was.leaves
  pub nodes : now.nodes ≡ was.nodes
  pub files : now.files ≡ was.files
  pub missing : now.missing ≡ was.missing - 1
  pub lengths : now.lengths ≡ record { lengths = was.lengths.lengths; longest = raised_by was.lengths.most was.lengths.longest (namings_by v.content); most = was.lengths.most }
  pub name : now.name ≡ was.name
  pub needs : now.needs ≡ needs_with_record was.geometry.page_size was.needs (record_size v.content)
  pub numbers : now.numbers ≡ numbered_more was.numbers v.unique v.older

pub one_less_is : (n : ℕ) → one_less n ≡ n - 1
one_less_is zero = omega arith
one_less_is (suc n) = omega arith

more_named : (f : Front) (v : HistoryVersion) (ws vs : List HistoryVersion) → ws ≡ vs ++ v ∷ [] → flat_map namings_on f.nodes ++ flat_map (λ (w : HistoryVersion). namings_by w.content) ws ≡ (flat_map namings_on f.nodes ++ flat_map (λ (w : HistoryVersion). namings_by w.content) vs) ++ namings_by v.content
more_named f v ws vs e =
    ap (λ (us : List HistoryVersion). flat_map namings_on f.nodes ++ flat_map (λ (w : HistoryVersion). namings_by w.content) us) e
    ∙ ap (λ (t : List (ℕ × ℕ)). flat_map namings_on f.nodes ++ t) (sym (flat_map_more (λ (w : HistoryVersion). namings_by w.content) [] vs v))
    ∙ sym (append_assoc (flat_map namings_on f.nodes) (flat_map (λ (w : HistoryVersion). namings_by w.content) vs) (namings_by v.content))

version_kept : (g : Geometry) (f : Front) (was now : Progress) (v : HistoryVersion) → VersionTaken was now v → OneMore g.page_size f.files v f.hand → Keeps g f was → Keeps g (after f (AVersion v)) now
version_kept g f was now v taken one k = record {
  geometry = taken.geometry ∙ k.geometry;
  head = ap stream_head taken.head ∙ k.head;
  leaves = taken.leaves ∙ k.leaves;
  nodes = taken.nodes ∙ k.nodes;
  files = taken.files ∙ k.files ∙ sym one.count;
  missing = taken.missing ∙ ap (λ (n : ℕ). n - 1) k.missing ∙ sym (one_less_is f.missing);
  lengths =
      taken.lengths
      ∙ ap (λ (l : Lengths). made_lengths l.lengths (raised_by l.most l.longest (namings_by v.content)) l.most) k.lengths
      ∙ lengths_more g f (after f (AVersion v)) (namings_by v.content) refl refl (more_named f v (flat_map versions_in (f.files ++ one_of (with_version v f.hand))) (flat_map versions_in (files_of f)) one.named);
  name = taken.name ∙ k.name ∙ sym one.name;
  needs =
      taken.needs
      ∙ ap (λ (h : Geometry). needs_with_record h.page_size was.needs (record_size v.content)) k.geometry
      ∙ ap (λ (n : PageNeeds). needs_with_record g.page_size n (record_size v.content)) k.needs
      ∙ sym one.needs;
  numbers = taken.numbers ∙ ap (λ (n : Numbers). numbered_more n v.unique v.older) k.numbers ∙ sym one.numbers;
}

-- ---- what versions are derived from

olders_into : (P : ℕ → Type 0) (vs : List HistoryVersion) → AllByRecursion (λ (v : HistoryVersion). IfSome v.older P) vs → AllByRecursion P (flat_map older_in vs)
olders_into P [] each = tt
olders_into P (v ∷ vs) each = each-append P (older_in v) (flat_map older_in vs) (one_into v.older each.0) (olders_into P vs each.1)
  where
    one_into : (o : Option ℕ) → IfSome o P → AllByRecursion P (one_if o)
    one_into None p = tt
    one_into (Some n) p = (p, tt)

olders_from : (P : ℕ → Type 0) (vs : List HistoryVersion) → AllByRecursion P (flat_map older_in vs) → AllByRecursion (λ (v : HistoryVersion). IfSome v.older P) vs
olders_from P [] each = tt
olders_from P (v ∷ vs) each = let both = split_each P (older_in v) (flat_map older_in vs) each in (one_from v.older both.0, olders_from P vs both.1)
  where
    one_from : (o : Option ℕ) → AllByRecursion P (one_if o) → IfSome o P
    one_from None p = tt
    one_from (Some n) p = p.0

hand_olders : (o : Option HistoryFile) → AllByRecursion (Contains (numbers_if o).numbers) (numbers_if o).olders → IfSome o HasOlders
hand_olders None there = tt
hand_olders (Some h) there = olders_from (Contains (map number_in h.versions)) h.versions there

olders_hand : (o : Option HistoryFile) → IfSome o HasOlders → AllByRecursion (Contains (numbers_if o).numbers) (numbers_if o).olders
olders_hand None has = tt
olders_hand (Some h) has = olders_into (Contains (map number_in h.versions)) h.versions has

-- ---- the numbers rise

hand_rising : (o : Option HistoryFile) → Rising (numbers_if o).numbers → AllByRecursion AreRising (one_of o)
hand_rising None rising = tt
hand_rising (Some h) rising = (rising, tt)

rising_hand : (o : Option HistoryFile) → AllByRecursion AreRising (one_of o) → Rising (numbers_if o).numbers
rising_hand None rising = tt
rising_hand (Some h) rising = rising.0

pub version_takes : (was now : Progress) (v : HistoryVersion) → 0 < was.missing → (now.missing ≡ 0 → AllByRecursion (Contains now.numbers.numbers) now.numbers.olders) → VersionTaken was now v → Takes was now (AVersion v)
version_takes was now v some there taken = λ g f k reached sound.
    let one = one_more_of g.page_size f v reached (omega (arith, k.missing)) in
    let kept = version_kept g f was now v taken one k in
    let here : Rising (numbers_if (with_version v f.hand)).numbers = subst (λ (n : Numbers). Rising n.numbers) kept.numbers now.in_order in (
      kept,
      sound_now g (after f (AVersion v)) now kept
          (subst RisingTexts (sym one.names) sound.names)
          (each-append AreRising f.files (one_of (with_version v f.hand)) (split_each AreRising f.files (one_of f.hand) sound.rising).0 (hand_rising (with_version v f.hand) here))
          sound.olders
          (λ e. hand_olders (with_version v f.hand) (subst (λ (n : Numbers). AllByRecursion (Contains n.numbers) n.olders) kept.numbers (there (kept.missing ∙ e)))),
    )

-- Its number isn't behind the last one's, or there are too many pages, or it is the last one, and one that a version is derived from isn't there.
pub data NoVersion (was : Progress) (v : HistoryVersion) : Type 0 where
  falls : (Rising (was.numbers.numbers ++ v.unique ∷ []) → ⊥) → NoVersion was v
  many : was.head.pages < pages_by (needs_with_record was.geometry.page_size was.needs (record_size v.content)) → NoVersion was v
  lacks : was.missing ≡ 1 → (AllByRecursion (Contains (numbered_more was.numbers v.unique v.older).numbers) (numbered_more was.numbers v.unique v.older).olders → ⊥) → NoVersion was v

pub version_refuses : (was : Progress) (v : HistoryVersion) → 0 < was.missing → NoVersion was v → Refuses was (AVersion v)
version_refuses was v some (falls never) = λ g f k reached sound.
    let one = one_more_of g.page_size f v reached (omega (arith, k.missing)) in
    let mine : Rising (numbers_if (with_version v f.hand)).numbers = rising_hand (with_version v f.hand) (split_each AreRising f.files (one_of (with_version v f.hand)) sound.rising).1 in
    let all : Rising (numbered_more (numbers_if f.hand) v.unique v.older).numbers = subst (λ (n : Numbers). Rising n.numbers) one.numbers mine in
    never (subst (λ (n : Numbers). Rising (n.numbers ++ v.unique ∷ [])) (sym k.numbers) all)
version_refuses was v some (many more) = λ g f k reached sound.
    let one = one_more_of g.page_size f v reached (omega (arith, k.missing)) in
    let needs : needs_with_files g.page_size no_needs (files_of (after f (AVersion v))) ≡ needs_with_record was.geometry.page_size was.needs (record_size v.content) =
    one.needs ∙ ap (λ (n : PageNeeds). needs_with_record g.page_size n (record_size v.content)) (sym k.needs) ∙ ap (λ (h : Geometry). needs_with_record h.page_size was.needs (record_size v.content)) (sym k.geometry) in
    let counted : sum_of (pages_for g.page_size) (files_of (after f (AVersion v))) ≡ pages_by (needs_with_record was.geometry.page_size was.needs (record_size v.content)) = sym (pages_counted g.page_size (history_of (after f (AVersion v)))) ∙ ap pages_by needs in
    omega (arith, sound.pages, counted, more, ap (λ (h : StreamHead). h.pages) k.head)
version_refuses was v some (lacks last never) = λ g f k reached sound.
    let one = one_more_of g.page_size f v reached (omega (arith, k.missing)) in
    let none : one_less f.missing ≡ 0 = omega (arith, one_less_is f.missing, k.missing, last) in
    let there = olders_hand (with_version v f.hand) (sound.last none) in
    never (subst (λ (n : Numbers). AllByRecursion (Contains n.numbers) n.olders) (one.numbers ∙ ap (λ (n : Numbers). numbered_more n v.unique v.older) (sym k.numbers)) there)

-- ---- what the code tests

pub clash : (b : Bool) → b ≡ false → b ≡ true → ⊥
clash b e f = cc

pub names_there : (g : Geometry) (leaves nodes : ℕ) (content : Content) → IsContentItem g leaves nodes content → NamesThere leaves content
names_there g leaves nodes (Small bytes) is = tt
names_there g leaves nodes (Large root) is = λ e. subst (λ (h : ℕ). IsRootNumber (roots_most leaves nodes h) root.page) e is.1

-- one record more needs at most two pages more
by_room : (page_size : ℕ) (needs : PageNeeds) (n : ℕ) (fits : Bool) → pages_by (if fits then record { others = needs.others; filled = needs.filled; room = needs.room - (n + 4) } else record { others = needs.others; filled = suc needs.filled; room = page_size - 16 - (n + 4) }) ≤ pages_by needs + 2
by_room page_size needs n true = omega arith
by_room page_size needs n false = omega arith

pub record_pages : (page_size : ℕ) (needs : PageNeeds) (n : ℕ) → pages_by (needs_with_record page_size needs n) ≤ pages_by needs + 2
record_pages page_size needs n = by_room page_size needs n (nat_le (n + 4) needs.room)
