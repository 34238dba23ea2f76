-- What walks over the records of a file, and over files, leave.
use Rattle.std.proofs.Common.{◌≡◌, ◌≤◌, ◌<◌, ◌+◌, ℕ, zero, suc, List, [], ◌∷◌, ◌++◌, length, take, take_all, get_or, refl, sym, subst, ap, ◌∙◌, arith}
use Rattle.std.specs.List.{flat_map, AllByRecursion, AllZip}
use Rattle.std.proofs.lemmas.Grind.{flat_map-append}
use Rattle.std.proofs.lemmas.List.{append-nil, take_more}
use Rattle.std.proofs.lemmas.Slice.Zip.{AllZip-long}
use Rattle.ex_base.specs.declared.geometry.Geometry.{Geometry}
use Rattle.ex_base.specs.declared.ground.Ground as ground
use Rattle.ex_base.specs.declared.names.Root.{Root}
use Rattle.ex_base.specs.Even.{sum_of}
use Rattle.ex_base.specs.Ports.{Keeps}
use Rattle.ex_base.proofs.Each.{split_each}
use Rattle.ex_base.proofs.Rows.{sum_of-append}
use Rattle.ex_base.proofs.Keeping.{keeps_on, keeps_refl}
use Rattle.file_bodies.specs.Bodies.{bodies_of}
use Rattle.file_bodies.proofs.Moving.{kept_file}
use Rattle.record_lists.specs.declared.Listed.{Listed}
use Rattle.trees.specs.Trees.{Units, RootNamed, RootSized}
use Rattle.volume_model.specs.Parts.{IsStored}
use Rattle.volume_model.specs.Volume.{FileContent}
use Rattle.history_volumes.specs.Walks.{root_namings, root_nodes}
use Rattle.history_plans.specs.Files.{AreNamed, AreTrees, HasStored, pages_stored, root_listed, roots_listed, roots_stored}
use Rattle.history_plans.specs.Pieces.{IsClosed, Leaves, LeavesRoots, PlannedPieces, ShowsPages}
use Rattle.history_plans.proofs.Walking.{leaves_more, leaves_none, shows_on}

-- ---- lists of roots

abbrev IsNamedRoot : Geometry → Units → Root → Type 0
IsNamedRoot g units root = RootNamed g units root.height root.page

-- the roots of one item of a list
pub each_roots : {A : Type 0} (P : Root → Type 0) (f : A → List Root) (xs : List A) (i : ℕ) (d : A) → i < length xs → AllByRecursion P (flat_map f xs) → AllByRecursion P (f (get_or xs i d))
each_roots P f [] i d lt all = absurd (omega (arith, lt))
each_roots P f (x ∷ xs) zero d lt all = (split_each P (f x) (flat_map f xs) all).0
each_roots P f (x ∷ xs) (suc i) d lt all = each_roots P f xs i d (omega (arith, lt)) (split_each P (f x) (flat_map f xs) all).1

roots_more : {A : Type 0} (f : A → List Root) (xs : List A) (i : ℕ) (d : A) → i < length xs → flat_map f (take (i + 1) xs) ≡ flat_map f (take i xs) ++ f (get_or xs i d)
roots_more f xs i d lt =
    ap (flat_map f) (take_more xs i d lt) ∙ flat_map-append f (take i xs) (get_or xs i d ∷ []) ∙ ap (λ (rs : List Root). flat_map f (take i xs) ++ rs) (append-nil (f (get_or xs i d)))

pub names_of_trees : (g : Geometry) (units : Units) (roots : List Root) → AreTrees g units roots → AreNamed g units roots
names_of_trees g units [] all = tt
names_of_trees g units (root ∷ roots) all = (all.0.0, names_of_trees g units roots all.1)

-- one list of roots behind another
pub roots_left : (g : Geometry) (units : Units) (xs ys : List Root) (a b c : PlannedPieces) → LeavesRoots g units xs a b → LeavesRoots g units ys b c → LeavesRoots g units (xs ++ ys) a c
roots_left g units xs ys a b c one other =
    subst (λ (ns : List ℕ). Leaves g units (flat_map (root_namings units) (xs ++ ys)) ns a c) (sym (flat_map-append (root_nodes units) xs ys))
    (subst (λ (ms : List (ℕ × ℕ)). Leaves g units ms (flat_map (root_nodes units) xs ++ flat_map (root_nodes units) ys) a c) (sym (flat_map-append (root_namings units) xs ys))
    (leaves_more g units (flat_map (root_namings units) xs) (flat_map (root_namings units) ys) (flat_map (root_nodes units) xs) (flat_map (root_nodes units) ys) a b c one other))

module _ {S : Type 0} (p : ground.Ghosts S) where
  -- Some items of a list, each with roots, were walked.
  pub record ItemsSoFar {A : Type 0} (f : A → List Root) (old now : S) (xs : List A) (i : ℕ) (before after : PlannedPieces) : Type 0 where
    pub walked : (units : Units) → ShowsPages (p.geometry old) (p.image old) units → IsClosed (p.geometry old) units before → AreNamed (p.geometry old) units (flat_map f xs)
        → LeavesRoots (p.geometry old) units (flat_map f (take i xs)) before after

  items_start : {A : Type 0} (f : A → List Root) (old : S) (xs : List A) (pieces : PlannedPieces) → ItemsSoFar f old old xs 0 pieces pieces
  items_start f old xs pieces = record { walked = λ units shows closed named. leaves_none (p.geometry old) units pieces closed }

  items_more : {A : Type 0} (f : A → List Root) (old now new : S) (xs : List A) (i : ℕ) (d : A) (before mid after : PlannedPieces) → i < length xs → Keeps p old now → ItemsSoFar f old now xs i before mid
      → ((units : Units) → ShowsPages (p.geometry now) (p.image now) units → IsClosed (p.geometry now) units mid → AreNamed (p.geometry now) units (f (get_or xs i d)) → LeavesRoots (p.geometry now) units (f (get_or xs i d)) mid after)
      → ItemsSoFar f old new xs (i + 1) before after
  items_more f old now new xs i d before mid after lt kept so next = record {
    walked = λ units shows closed named.
        let g = p.geometry old in
        let geo : p.geometry now ≡ p.geometry old = p.leads_geometry old now kept.leads in
        let front = so.walked units shows closed named in
        let here : AreNamed g units (f (get_or xs i d)) = each_roots (IsNamedRoot g units) f xs i d lt named in
        let more : LeavesRoots g units (f (get_or xs i d)) mid after =
        subst (λ (x : Geometry). LeavesRoots x units (f (get_or xs i d)) mid after) geo
        (next units (shows_on p units old now kept shows) (subst (λ (x : Geometry). IsClosed x units mid) (sym geo) front.closed) (subst (λ (x : Geometry). AreNamed x units (f (get_or xs i d))) (sym geo) here)) in
        subst (λ (rs : List Root). LeavesRoots g units rs before after) (sym (roots_more f xs i d lt)) (roots_left g units (flat_map f (take i xs)) (f (get_or xs i d)) before mid after front more);
  }

  items_done : {A : Type 0} (f : A → List Root) (old now : S) (xs : List A) (i : ℕ) (before after : PlannedPieces) → length xs ≤ i → ItemsSoFar f old now xs i before after
      → (units : Units) → ShowsPages (p.geometry old) (p.image old) units → IsClosed (p.geometry old) units before → AreNamed (p.geometry old) units (flat_map f xs) → LeavesRoots (p.geometry old) units (flat_map f xs) before after
  items_done {A} f old now xs i before after le so units shows closed named =
      subst (λ (ys : List A). LeavesRoots (p.geometry old) units (flat_map f ys) before after) (take_all i xs le) (so.walked units shows closed named)

  -- ---- records

  pub record RecordsSoFar (old now : S) (records : List Listed) (i : ℕ) (before after : PlannedPieces) : Type 0 where
    pub kept : Keeps p old now
    pub walked : p.tells old → ItemsSoFar root_listed old now records i before after

  pub records_start : (old : S) (records : List Listed) (pieces : PlannedPieces) → RecordsSoFar old old records 0 pieces pieces
  records_start old records pieces = record { kept = keeps_refl p old; walked = λ told. items_start root_listed old records pieces }

  pub records_more : (old now new : S) (records : List Listed) (i : ℕ) (d : Listed) (before mid after : PlannedPieces) → i < length records → RecordsSoFar old now records i before mid → Keeps p now new
      → (p.tells now → (units : Units) → ShowsPages (p.geometry now) (p.image now) units → IsClosed (p.geometry now) units mid → AreNamed (p.geometry now) units (root_listed (get_or records i d))
      → LeavesRoots (p.geometry now) units (root_listed (get_or records i d)) mid after)
      → RecordsSoFar old new records (i + 1) before after
  records_more old now new records i d before mid after lt so k next = record {
    kept = keeps_on p old now new so.kept k;
    walked = λ told. items_more root_listed old now new records i d before mid after lt so.kept (so.walked told) (next (p.leads_told old now so.kept.leads told));
  }

  pub records_done : (old now : S) (records : List Listed) (i : ℕ) (before after : PlannedPieces) → length records ≤ i → RecordsSoFar old now records i before after
      → p.tells old → (units : Units) → ShowsPages (p.geometry old) (p.image old) units → IsClosed (p.geometry old) units before → AreNamed (p.geometry old) units (roots_listed records)
      → LeavesRoots (p.geometry old) units (roots_listed records) before after
  records_done old now records i before after le so told = items_done root_listed old now records i before after le (so.walked told)

  -- the trees of one record
  pub record_trees : (g : Geometry) (units : Units) (records : List Listed) (i : ℕ) (d : Listed) → i < length records → AreTrees g units (roots_listed records) → AreTrees g units (root_listed (get_or records i d))
  record_trees g units records i d lt all = each_roots (λ (root : Root). RootNamed g units root.height root.page × RootSized g units root.height root.size root.page) root_listed records i d lt all

  -- ---- files

  -- what stands in a file stands there later
  pub stored_on : (a b : S) (number : ℕ) (file : FileContent) → Keeps p a b → HasStored p a number file → HasStored p b number file
  stored_on a b number file k has = record {
    index = has.index;
    whole = kept_file p a b has.index k has.whole;
    is = has.is;
    records = subst (λ (image : ℕ → List ℕ). AllZip IsStored (bodies_of image has.index) file.stored) (sym k.images) has.records;
    differ = has.differ;
  }

  pub all_stored_on : (a b : S) (numbers : List ℕ) (files : List FileContent) → Keeps p a b → AllZip (HasStored p a) numbers files → AllZip (HasStored p b) numbers files
  all_stored_on a b [] [] k both = tt
  all_stored_on a b [] (f ∷ files) k both = absurd both
  all_stored_on a b (n ∷ numbers) [] k both = absurd both
  all_stored_on a b (n ∷ numbers) (f ∷ files) k both = (stored_on a b n f k both.0, all_stored_on a b numbers files k both.1)

  -- the file of one number
  pub stored_at : (s : S) (numbers : List ℕ) (files : List FileContent) (i d : ℕ) (e : FileContent) → i < length numbers → AllZip (HasStored p s) numbers files → HasStored p s (get_or numbers i d) (get_or files i e) × (i < length files)
  stored_at s [] files i d e lt both = absurd (omega (arith, lt))
  stored_at s (n ∷ numbers) [] i d e lt both = absurd both
  stored_at s (n ∷ numbers) (f ∷ files) zero d e lt both = (both.0, omega arith)
  stored_at s (n ∷ numbers) (f ∷ files) (suc i) d e lt both = let rest = stored_at s numbers files i d e (omega (arith, lt)) both.1 in (rest.0, omega (arith, rest.1))

  pub record FilesSoFar (old now : S) (numbers : List ℕ) (i : ℕ) (before after : PlannedPieces) (pages : ℕ) : Type 0 where
    pub kept : Keeps p old now
    pub walked : p.tells old → (files : List FileContent) → AllZip (HasStored p old) numbers files → ItemsSoFar roots_stored old now files i before after
    pub pages_are : p.tells old → (files : List FileContent) → AllZip (HasStored p old) numbers files → pages ≡ sum_of (pages_stored (p.geometry old).page_size) (take i files)

  pub files_start : (old : S) (numbers : List ℕ) (pieces : PlannedPieces) → FilesSoFar old old numbers 0 pieces pieces 0
  files_start old numbers pieces = record {
    kept = keeps_refl p old;
    walked = λ told files have. items_start roots_stored old files pieces;
    pages_are = λ told files have. refl;
  }

  sum_more : (f : FileContent → ℕ) (files : List FileContent) (i : ℕ) (d : FileContent) → i < length files → sum_of f (take (i + 1) files) ≡ sum_of f (take i files) + f (get_or files i d)
  sum_more f files i d lt = ap (sum_of f) (take_more files i d lt) ∙ sum_of-append f (take i files) (get_or files i d ∷ []) ∙ (let e : sum_of f (take i files) + (f (get_or files i d) + 0) ≡ sum_of f (take i files) + f (get_or files i d) = omega arith in e)

  abbrev pub no_file : FileContent
  no_file = record { numbers = []; index_pages = []; pages = []; stored = [] }

  pub files_more : (old now new : S) (numbers : List ℕ) (i d : ℕ) (before mid after : PlannedPieces) (pages more sum : ℕ) → i < length numbers → FilesSoFar old now numbers i before mid pages → Keeps p now new
      → (p.tells now → (units : Units) → ShowsPages (p.geometry now) (p.image now) units → IsClosed (p.geometry now) units mid → (file : FileContent) → HasStored p now (get_or numbers i d) file → AreNamed (p.geometry now) units (roots_stored file)
      → LeavesRoots (p.geometry now) units (roots_stored file) mid after)
      → (p.tells now → (file : FileContent) → HasStored p now (get_or numbers i d) file → more ≡ pages_stored (p.geometry now).page_size file)
      → sum ≡ pages + more → FilesSoFar old new numbers (i + 1) before after sum
  files_more old now new numbers i d before mid after pages more sum lt so k next counted is = record {
    kept = keeps_on p old now new so.kept k;
    walked = λ told files have.
        let at = stored_at old numbers files i d no_file lt have in
        items_more roots_stored old now new files i no_file before mid after at.1 so.kept (so.walked told files have)
        (λ units shows closed named. next (p.leads_told old now so.kept.leads told) units shows closed (get_or files i no_file) (stored_on old now (get_or numbers i d) (get_or files i no_file) so.kept at.0) named);
    pages_are = λ told files have.
        let at = stored_at old numbers files i d no_file lt have in
        let here = counted (p.leads_told old now so.kept.leads told) (get_or files i no_file) (stored_on old now (get_or numbers i d) (get_or files i no_file) so.kept at.0) in
        let geo : p.geometry now ≡ p.geometry old = p.leads_geometry old now so.kept.leads in
        is ∙ ap (λ (n : ℕ). n + more) (so.pages_are told files have) ∙ ap (λ (n : ℕ). sum_of (pages_stored (p.geometry old).page_size) (take i files) + n) (here ∙ ap (λ (x : Geometry). pages_stored x.page_size (get_or files i no_file)) geo)
        ∙ sym (sum_more (pages_stored (p.geometry old).page_size) files i no_file at.1);
  }

  pub files_done : (old now : S) (numbers : List ℕ) (i : ℕ) (before after : PlannedPieces) (pages : ℕ) → length numbers ≤ i → FilesSoFar old now numbers i before after pages
      → p.tells old → (units : Units) → ShowsPages (p.geometry old) (p.image old) units → IsClosed (p.geometry old) units before → (files : List FileContent) → AllZip (HasStored p old) numbers files
      → AreNamed (p.geometry old) units (flat_map roots_stored files) → LeavesRoots (p.geometry old) units (flat_map roots_stored files) before after
  files_done old now numbers i before after pages le so told units shows closed files have named =
      items_done roots_stored old now files i before after (omega (arith, AllZip-long (HasStored p old) numbers files have, le)) (so.walked told files have) units shows closed named

  pub pages_done : (old now : S) (numbers : List ℕ) (i : ℕ) (before after : PlannedPieces) (pages : ℕ) → length numbers ≤ i → FilesSoFar old now numbers i before after pages
      → p.tells old → (files : List FileContent) → AllZip (HasStored p old) numbers files → pages ≡ sum_of (pages_stored (p.geometry old).page_size) files
  pages_done old now numbers i before after pages le so told files have =
      so.pages_are told files have ∙ ap (sum_of (pages_stored (p.geometry old).page_size)) (take_all i files (omega (arith, AllZip-long (HasStored p old) numbers files have, le)))

  -- ---- at a later state

  -- the trees of one record
  pub trees_at : (old now : S) (units : Units) (records : List Listed) (i : ℕ) (d : Listed) → i < length records → Keeps p old now → AreTrees (p.geometry old) units (roots_listed records) → AreTrees (p.geometry now) units (root_listed (get_or records i d))
  trees_at old now units records i d lt k all =
      subst (λ (x : Geometry). AreTrees x units (root_listed (get_or records i d))) (sym (p.leads_geometry old now k.leads)) (record_trees (p.geometry old) units records i d lt all)

  -- the trees of a file's records
  pub trees_listed : (old mid : S) (units : Units) (xs : List Listed) (file : FileContent) → Keeps p old mid → roots_listed xs ≡ roots_stored file → AreTrees (p.geometry old) units (roots_stored file) → AreTrees (p.geometry mid) units (roots_listed xs)
  trees_listed old mid units xs file k same all =
      subst (λ (x : Geometry). AreTrees x units (roots_listed xs)) (sym (p.leads_geometry old mid k.leads)) (subst (λ (rs : List Root). AreTrees (p.geometry old) units rs) (sym same) all)

  pub file_left : (old mid : S) (units : Units) (xs : List Listed) (file : FileContent) (before after : PlannedPieces) → Keeps p old mid → roots_listed xs ≡ roots_stored file → p.tells old → ShowsPages (p.geometry old) (p.image old) units → IsClosed (p.geometry old) units before
      → AreNamed (p.geometry old) units (roots_stored file)
      → (p.tells mid → (us : Units) → ShowsPages (p.geometry mid) (p.image mid) us → IsClosed (p.geometry mid) us before → AreNamed (p.geometry mid) us (roots_listed xs) → LeavesRoots (p.geometry mid) us (roots_listed xs) before after)
      → LeavesRoots (p.geometry old) units (roots_stored file) before after
  file_left old mid units xs file before after k same told shows closed named walked =
      let geo : p.geometry mid ≡ p.geometry old = p.leads_geometry old mid k.leads in
      let left = walked (p.leads_told old mid k.leads told) units (shows_on p units old mid k shows) (subst (λ (x : Geometry). IsClosed x units before) (sym geo) closed)
      (subst (λ (x : Geometry). AreNamed x units (roots_listed xs)) (sym geo) (subst (λ (rs : List Root). AreNamed (p.geometry old) units rs) (sym same) named)) in
      subst (λ (x : Geometry). LeavesRoots x units (roots_stored file) before after) geo (subst (λ (rs : List Root). LeavesRoots (p.geometry mid) units rs before after) same left)

  -- the file of one number, and its trees
  pub file_at : (old now : S) (numbers : List ℕ) (files : List FileContent) (i d : ℕ) → i < length numbers → Keeps p old now → AllZip (HasStored p old) numbers files → HasStored p now (get_or numbers i d) (get_or files i no_file)
  file_at old now numbers files i d lt k have = stored_on old now (get_or numbers i d) (get_or files i no_file) k (stored_at old numbers files i d no_file lt have).0

  pub file_trees : (old now : S) (units : Units) (numbers : List ℕ) (files : List FileContent) (i : ℕ) → i < length numbers → Keeps p old now → AllZip (HasStored p old) numbers files → AreTrees (p.geometry old) units (flat_map roots_stored files)
      → AreTrees (p.geometry now) units (roots_stored (get_or files i no_file))
  file_trees old now units numbers files i lt k have all =
      subst (λ (x : Geometry). AreTrees x units (roots_stored (get_or files i no_file))) (sym (p.leads_geometry old now k.leads))
      (each_roots (λ (root : Root). RootNamed (p.geometry old) units root.height root.page × RootSized (p.geometry old) units root.height root.size root.page) roots_stored files i no_file (stored_at old numbers files i 0 no_file lt have).1 all)

  sum_front : (f : FileContent → ℕ) (files : List FileContent) (n : ℕ) → sum_of f (take n files) ≤ sum_of f files
  sum_front f [] zero = omega arith
  sum_front f [] (suc n) = omega arith
  sum_front f (x ∷ files) zero = omega arith
  sum_front f (x ∷ files) (suc n) = omega (arith, sum_front f files n)

  -- what a front of the files needs is no more than all need
  pub pages_within : (old now : S) (numbers : List ℕ) (files : List FileContent) (i : ℕ) (before after : PlannedPieces) (pages more : ℕ) → i < length numbers → FilesSoFar old now numbers i before after pages → p.tells old → AllZip (HasStored p old) numbers files
      → more ≡ pages_stored (p.geometry now).page_size (get_or files i no_file) → pages + more ≤ sum_of (pages_stored (p.geometry old).page_size) files
  pages_within old now numbers files i before after pages more lt so told have is =
      let geo : p.geometry now ≡ p.geometry old = p.leads_geometry old now so.kept.leads in
      let here : more ≡ pages_stored (p.geometry old).page_size (get_or files i no_file) = is ∙ ap (λ (x : Geometry). pages_stored x.page_size (get_or files i no_file)) geo in
      let front = sum_front (pages_stored (p.geometry old).page_size) files (i + 1) in
      omega (arith, here, front, so.pages_are told files have, sum_more (pages_stored (p.geometry old).page_size) files i no_file (stored_at old numbers files i 0 no_file lt have).1)
