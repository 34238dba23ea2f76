-- What a disk decodes as is determined: its superblock, and the pages and records of each file.
use Rattle.std.proofs.Common.{◌≡◌, ℕ, ◌-◌, List, [], ◌∷◌, ◌++◌, drop, refl, sym, ap, subst, ◌∙◌, arith, append_assoc}
use Rattle.std.specs.List.{AllZip}
use Rattle.std.proofs.lemmas.List.{take-append-drop}
use Rattle.ex_base.specs.declared.geometry.Geometry.{Geometry}
use Rattle.ex_base.specs.declared.names.Place.{Place}
use Rattle.ex_base.specs.Bytes.{part}
use Rattle.ex_base.specs.Fields.{four_bytes, zeros}
use Rattle.ex_base.specs.Sizes.{most_page}
use Rattle.ex_base.specs.Superblock.{magic, super_rest, super_page}
use Rattle.ex_base.proofs.FieldLaws.{same_front, same_four}
use Rattle.ex_base.proofs.Geometries.{same_numbers}
use Rattle.slotted_pages.specs.FilePage.{FilePage}
use Rattle.object_records.specs.Record.{Record}
use Rattle.volume_model.proofs.OneReading.{one_page, one_record}
use Rattle.object_files.specs.Catalog.{FileEntry}
use Rattle.trees.specs.Trees.{Units}
use Rattle.volume_model.specs.Parts.{SuperOf, HasIndex, HasPage, HasPages, IsStored, HasBodies, bodies_in}
use Rattle.volume_model.specs.Volume.{Stored, FileContent}

-- ---- the superblock

pub super_fields : (format : ℕ) (g : Geometry) (x : List ℕ) → super_page format g ++ x ≡ magic ++ (four_bytes g.page_size ++ (four_bytes g.pages ++ (four_bytes g.segs ++ (four_bytes g.seg_len ++ (four_bytes g.fan ++ (four_bytes format ++ (zeros (g.page_size - 32) ++ x)))))))
unfolding super_page super_rest
super_fields format g x = simp append_assoc

pub super_front : (disk : List ℕ) (g : Geometry) (super : SuperOf disk g) → super_page super.spelled.format g ++ drop g.page_size disk ≡ disk
unfolding part
super_front disk g super = ap (λ (t : List ℕ). t ++ drop g.page_size disk) (sym super.spelled.spelled) ∙ take-append-drop g.page_size disk

-- superblocks determine their geometry, of whatever formats they are
pub same_super : (m n : ℕ) (a b : Geometry) (x y : List ℕ) → super_page m a ++ x ≡ super_page n b ++ y → a ≡ b
same_super m n a b x y is =
    let whole = sym (super_fields m a x) ∙ is ∙ super_fields n b y in
    let head = same_front magic magic _ _ refl whole in
    let size = same_four a.page_size b.page_size _ _ (omega (arith, most_page a)) (omega (arith, most_page b)) head.1 in
    let pages = same_four a.pages b.pages _ _ (omega (arith, a.few_pages)) (omega (arith, b.few_pages)) size.1 in
    let segs = same_four a.segs b.segs _ _ (omega (arith, a.few_segs)) (omega (arith, b.few_segs)) pages.1 in
    let len = same_four a.seg_len b.seg_len _ _ (omega (arith, a.short)) (omega (arith, b.short)) segs.1 in
    let fan = same_four a.fan b.fan _ _ (omega (arith, a.narrow, most_page a)) (omega (arith, b.narrow, most_page b)) len.1 in
    same_numbers a b size.0 pages.0 segs.0 len.0 fan.0

pub one_geometry : (disk : List ℕ) (a b : Geometry) → SuperOf disk a → SuperOf disk b → a ≡ b
one_geometry disk a b p q = same_super _ _ a b (drop a.page_size disk) (drop b.page_size disk) (super_front disk a p ∙ sym (super_front disk b q))

-- ---- pages and records

one_list_of_pages : (units : Units) (entry : FileEntry) (numbers : List ℕ) (xs ys : List FilePage) → AllZip (HasPage units entry) numbers xs → AllZip (HasPage units entry) numbers ys → xs ≡ ys
one_list_of_pages units entry [] [] [] p q = refl
one_list_of_pages units entry [] [] (y ∷ ys) p q = absurd q
one_list_of_pages units entry [] (x ∷ xs) ys p q = absurd p
one_list_of_pages units entry (page ∷ numbers) [] ys p q = absurd p
one_list_of_pages units entry (page ∷ numbers) (x ∷ xs) [] p q = absurd q
one_list_of_pages units entry (page ∷ numbers) (x ∷ xs) (y ∷ ys) p q =
    let here : x ≡ y = one_page (units page) x y p.0.0 q.0.0 in
    let rest = one_list_of_pages units entry numbers xs ys p.1 q.1 in
    cc (here, rest)

abbrev made_stored : Place → Record → Stored
made_stored place body = record { place = place; body = body }

one_list_of_records : (rows : List (Place × List ℕ)) (xs ys : List Stored) → AllZip IsStored rows xs → AllZip IsStored rows ys → xs ≡ ys
one_list_of_records [] [] [] p q = refl
one_list_of_records [] [] (y ∷ ys) p q = absurd q
one_list_of_records [] (x ∷ xs) ys p q = absurd p
one_list_of_records (row ∷ rows) [] ys p q = absurd p
one_list_of_records (row ∷ rows) (x ∷ xs) [] p q = absurd q
one_list_of_records (row ∷ rows) (x ∷ xs) (y ∷ ys) p q =
    let place : x.place ≡ y.place = sym p.0.0 ∙ q.0.0 in
    let body : x.body ≡ y.body = one_record row.1 x.body y.body p.0.1 q.0.1 in
    let here : made_stored x.place x.body ≡ made_stored y.place y.body = cc (place, body) in
    let rest = one_list_of_records rows xs ys p.1 q.1 in
    cc (here, rest)

-- ---- files

abbrev made_file : List ℕ → List ℕ → List FilePage → List Stored → FileContent
made_file numbers index_pages pages stored = record { numbers = numbers; index_pages = index_pages; pages = pages; stored = stored }

pub one_file : (g : Geometry) (units : Units) (entry : FileEntry) (a b : FileContent) → HasIndex g units entry a → HasIndex g units entry b → HasPages units entry a → HasPages units entry b → HasBodies a → HasBodies b → a ≡ b
one_file g units entry a b index_a index_b pages_a pages_b bodies_a bodies_b =
    let numbers : a.numbers ≡ b.numbers = index_a.numbers ∙ sym index_b.numbers in
    let index_pages : a.index_pages ≡ b.index_pages = index_a.index_pages ∙ sym index_b.index_pages in
    let pages : a.pages ≡ b.pages = one_list_of_pages units entry a.numbers a.pages b.pages pages_a (subst (λ (c : List ℕ). AllZip (HasPage units entry) c b.pages) (sym numbers) pages_b) in
    let bodies : bodies_in a ≡ bodies_in b = cc (numbers, pages) in
    let stored : a.stored ≡ b.stored = one_list_of_records (bodies_in a) a.stored b.stored bodies_a.records (subst (λ (rows : List (Place × List ℕ)). AllZip IsStored rows b.stored) (sym bodies) bodies_b.records) in
    let same : made_file a.numbers a.index_pages a.pages a.stored ≡ made_file b.numbers b.index_pages b.pages b.stored = cc (numbers, index_pages, pages, stored) in
    same
