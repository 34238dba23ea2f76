-- Pages that no file is found to have.
use Rattle.std.proofs.Common.{◌≡◌, ℕ, List, Option, Some, None, refl, sym, ap, subst, ◌∙◌}
use Rattle.std.specs.Prelude.{IfNone}
use Rattle.std.specs.Option.{option_map}
use Rattle.std.proofs.lemmas.Option.{same_Some}
use Rattle.ex_base.specs.declared.ground.Ground as ground
use Rattle.ex_base.specs.declared.names.Index.{Index}
use Rattle.ex_base.specs.declared.names.PageNo.{PageNo}
use Rattle.ex_base.specs.Ports.{Keeps}
use Rattle.slotted_pages.specs.Reads.{page_on}
use Rattle.file_index.specs.Damage.{found_in}
use Rattle.file_bodies.specs.Files.{index_at}
use Rattle.file_bodies.specs.Damage.{IsFoundIn}
use Rattle.file_bodies.proofs.Blame.{carried}

module _ {S : Type 0} (g : ground.Ghosts S) (a b : S) (page : PageNo) (file_no : ℕ) (one : Keeps g a b) (number : g.tells a → (page_on (g.image a page.0)).file_no ≡ file_no) (o : Option Index) (found : g.tells b → o ≡ index_at (g.image b) file_no) where
  entry : (told : g.tells a) (is : IsFoundIn (g.geometry a) (g.image a) page) → o ≡ Some is.index
  entry told is =
      let at : index_at (g.image a) file_no ≡ o = carried g a b (λ y u. index_at u file_no ≡ o) one (λ t. sym (found t)) told in
      sym at ∙ subst (λ (n : ℕ). index_at (g.image a) n ≡ Some is.index) (number told) is.lists.entry

  -- the catalog has no file with the number that the page shows
  pub lacks_file : o ≡ None → g.tells a → IsFoundIn (g.geometry a) (g.image a) page → ⊥
  lacks_file none told is = let e : None ≡ Some is.index = sym none ∙ entry told is in cc

  -- the index of the file doesn't find the page
  pub lacks_page : (c : S) (index : Index) → Keeps g b c → o ≡ Some index → (g.tells c → found_in (g.image c) index page.0 ≡ Some page → ⊥) → g.tells a → IsFoundIn (g.geometry a) (g.image a) page → ⊥
  lacks_page c index two some never told is =
      let same : is.index ≡ index = same_Some is.index index (sym (entry told is) ∙ some) in
      never (g.leads_told b c two.leads (g.leads_told a b one.leads told))
      (subst (λ (u : ℕ → List ℕ). found_in u index page.0 ≡ Some page) (sym (two.images ∙ one.images)) (subst (λ (i : Index). found_in (g.image a) i page.0 ≡ Some page) same is.found))

-- ---- nothing that is lent

none_gives : {X : Type 0} (r : Option X) (P : Type 0) → (r ≡ None → P) → IfNone r P
none_gives None P h = h refl
none_gives (Some x) P h = tt

-- no body is lent where none of what is given is one
pub lent_none : {X : Type 0} (f : X → List ℕ) (r : Option X) (P : Type 0) → (((body : List ℕ) → option_map f r ≡ Some body → ⊥) → P) → IfNone r P
lent_none f r P h = none_gives r P (λ none. h (λ body some. let e : None ≡ Some body = sym (ap (option_map f) none) ∙ some in cc))
