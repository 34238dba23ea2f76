-- What is said is read where it is spelled, and in one way.
use Rattle.std.proofs.Common.{◌≡◌, ℕ, List, [], ◌++◌, length, drop, refl, sym, ap, ◌∙◌}
use Rattle.std.proofs.lemmas.List.{append-nil}
use Rattle.ex_base.specs.Fields.{number_at}
use Rattle.ex_base.proofs.FieldLaws.{same_front}
use Rattle.object_files.specs.Catalog.{FileEntry}
use Rattle.object_files.specs.Reads.{read_entries}
use Rattle.page_entries.specs.declared.form.EntryForm.{EntryForm}
use Rattle.page_entries.specs.Said.{SlotChange, Said, Whole, Slots, Files, said_bytes, said_on, form_of, IsSaid, AreFields, changes_read, put_count, put_begin}
use Rattle.page_entries.specs.Fronts.{removed_read, changes_end}
use Rattle.page_entries.proofs.Changes.{FieldsGiven, fields_given}
use Rattle.page_entries.proofs.Files.{FilesGiven, files_given}

abbrev made_files : ℕ → ℕ → List ℕ → List FileEntry → Said
made_files next last removed put = Files next last removed put

pub read_again : (size : ℕ) (said : Said) → IsSaid size said → said_on (form_of said) (said_bytes said) ≡ said
unfolding said_on
read_again size (Whole image) fits = refl
read_again size (Slots cs) fits =
    let b : List ℕ = said_bytes (Slots cs) in
    let g : FieldsGiven (said_bytes (Slots cs)) cs [] = fields_given size (said_bytes (Slots cs)) [] cs fits (sym (append-nil (said_bytes (Slots cs)))) in
    ap (λ (xs : List SlotChange). Slots xs) (ap (λ (k : ℕ). changes_read (said_bytes (Slots cs)) k 6) g.count ∙ g.given.read)
read_again size (Files next last removed put) fits =
    let b : List ℕ = said_bytes (Files next last removed put) in
    let g : FilesGiven size (said_bytes (Files next last removed put)) next last removed put [] = files_given size (said_bytes (Files next last removed put)) [] next last removed put fits (sym (append-nil (said_bytes (Files next last removed put)))) in
    ap (λ (k : ℕ). made_files k (number_at 8 b 8) (removed_read b) (read_b b)) g.next_is ∙ ap (λ (k : ℕ). made_files next k (removed_read b) (read_b b)) g.last_is
    ∙ ap (λ (xs : List ℕ). made_files next last xs (read_b b)) g.numbers ∙ ap (made_files next last removed) g.read
  where
    read_b : List ℕ → List FileEntry
    read_b b = read_entries b (put_count b) (put_begin b)

same_slots : (size : ℕ) (bytes : List ℕ) (cs ds : List SlotChange) (x y : List ℕ) → FieldsGiven bytes cs x → FieldsGiven bytes ds y → (cs ≡ ds) × (x ≡ y)
same_slots size bytes cs ds x y one two =
    let count : length cs ≡ length ds = sym one.count ∙ two.count in (
      sym one.given.read ∙ ap (λ (k : ℕ). changes_read bytes k 6) count ∙ two.given.read,
      sym one.given.behind ∙ ap (λ (k : ℕ). drop (changes_end bytes k 6) bytes) count ∙ two.given.behind,
    )

pub one_said : (size : ℕ) (a b : Said) (x y : List ℕ) → IsSaid size a → IsSaid size b → form_of a ≡ form_of b → said_bytes a ++ x ≡ said_bytes b ++ y → (a ≡ b) × (x ≡ y)
one_said size (Whole i) (Whole j) x y p q same e = let front = same_front i j x y (p ∙ sym q) e in (ap (λ (t : List ℕ). Whole t) front.0, front.1)
one_said size (Whole i) (Slots ds) x y p q same e = absurd cc
one_said size (Whole i) (Files n l r f) x y p q same e = absurd cc
one_said size (Slots cs) (Whole j) x y p q same e = absurd cc
one_said size (Slots cs) (Slots ds) x y p q same e =
    let both = same_slots size (said_bytes (Slots cs) ++ x) cs ds x y (fields_given size (said_bytes (Slots cs) ++ x) x cs p refl) (fields_given size (said_bytes (Slots cs) ++ x) y ds q e) in
    (ap (λ (t : List SlotChange). Slots t) both.0, both.1)
one_said size (Slots cs) (Files n l r f) x y p q same e = absurd cc
one_said size (Files n l r f) (Whole j) x y p q same e = absurd cc
one_said size (Files n l r f) (Slots ds) x y p q same e = absurd cc
one_said size (Files n l r f) (Files m k s h) x y p q same e =
    let bytes : List ℕ = said_bytes (Files n l r f) ++ x in
    let one : FilesGiven size (said_bytes (Files n l r f) ++ x) n l r f x = files_given size (said_bytes (Files n l r f) ++ x) x n l r f p refl in
    let two : FilesGiven size (said_bytes (Files n l r f) ++ x) m k s h y = files_given size (said_bytes (Files n l r f) ++ x) y m k s h q e in (
      ap (λ (t : ℕ). made_files t l r f) (sym one.next_is ∙ two.next_is) ∙ ap (λ (t : ℕ). made_files m t r f) (sym one.last_is ∙ two.last_is)
          ∙ ap (λ (t : List ℕ). made_files m k t f) (sym one.numbers ∙ two.numbers) ∙ ap (made_files m k s) (sym one.read ∙ two.read),
      sym one.behind ∙ two.behind,
    )

-- fields that say something in a form are spelled as they are read
pub spelled_again : (size : ℕ) (form : EntryForm) (fields : List ℕ) → AreFields size form fields → fields ≡ said_bytes (said_on form fields)
spelled_again size form fields h =
    let read : said_on form fields ≡ h.0 = ap (λ (f : EntryForm). said_on f fields) (sym h.2) ∙ ap (said_on (form_of h.0)) h.3 ∙ read_again size h.0 h.1 in
    h.3 ∙ ap said_bytes (sym read)
