-- What a page that is what names it reads as.
use Rattle.std.proofs.Common.{◌≡◌, ℕ, Bool, true, false, eqb, eq-eqb, List, [], ◌∷◌, Option, Some, None, length, refl, sym, ap, subst, ◌∙◌}
use Rattle.std.specs.Prelude.{slice_get, ◌&&◌, not}
use Rattle.ex_base.specs.declared.faults.Seen.{Seen}
use Rattle.file_index.specs.declared.Entry.{Entry}
use Rattle.file_index.specs.IndexPage.{entries_on}
use Rattle.file_index.proofs.PageLaws.{ReadsAs, spelled_reads}
use Rattle.file_index.specs.Index.{IsNamed, HasLeast, key_seen}

pub named_reads : (size : ℕ) (page : List ℕ) (level file_no : ℕ) (least : Option ℕ) → IsNamed size page level file_no least → ReadsAs page level file_no (entries_on page)
named_reads size page level file_no least named = spelled_reads page level file_no (entries_on page) named.spelled

pub key_same : (least : Option ℕ) (entries : List Entry) (entry : Entry) → HasLeast least entries → slice_get entries 0 ≡ Some entry → key_seen least entry.key ≡ least
key_same least [] entry h e = absurd h
key_same None (x ∷ entries) entry h e = refl
key_same (Some least) (x ∷ entries) entry h e = let same : x ≡ entry = cc in ap (λ (k : ℕ). Some k) (ap (λ (y : Entry). y.key) (let back : entry ≡ x = cc in back) ∙ h)

not_all : (x y z r : Bool) → x ≡ true → y ≡ true → z ≡ true → r ≡ not (x && (y && z)) → r ≡ true → ⊥
not_all true true true r a b c e h = absurd (let f : r ≡ false = e in cc)
not_all true true false r a b c e h = absurd cc
not_all true false z r a b c e h = absurd cc
not_all false y z r a b c e h = absurd cc

-- a test that finds a difference between equals
pub seen_differs : (r : Bool) (a b : Seen) → r ≡ not (eqb a.kind b.kind && (eqb a.level b.level && eqb a.total b.total)) → r ≡ true → a ≡ b → ⊥
seen_differs r a b e h same =
    not_all (eqb a.kind b.kind) (eqb a.level b.level) (eqb a.total b.total) r
    (eq-eqb a.kind b.kind (ap (λ (s : Seen). s.kind) same)) (eq-eqb a.level b.level (ap (λ (s : Seen). s.level) same)) (eq-eqb a.total b.total (ap (λ (s : Seen). s.total) same)) e h

-- the bytes of a page that was read are its image
pub named_of : (size : ℕ) (page image : List ℕ) (level file_no : ℕ) (least : Option ℕ) → length page ≡ size → page ≡ image
    → IsNamed (length page) page level file_no least → IsNamed size image level file_no least
named_of size page image level file_no least len is named = subst (λ (bytes : List ℕ). IsNamed size bytes level file_no least) is
    (subst (λ (n : ℕ). IsNamed n page level file_no least) len named)

pub named_as : (size : ℕ) (page image : List ℕ) (level file_no : ℕ) (least : Option ℕ) → length page ≡ size → page ≡ image
    → IsNamed size image level file_no least → IsNamed (length page) page level file_no least
named_as size page image level file_no least len is named = subst (λ (n : ℕ). IsNamed n page level file_no least) (sym len)
    (subst (λ (bytes : List ℕ). IsNamed size bytes level file_no least) (sym is) named)
