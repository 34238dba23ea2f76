-- The entry that is left of two.
use Rattle.std.proofs.Common.{◌≡◌, ◌≤◌, ◌<◌, ◌+◌, ◌++◌, ◌∷◌, [], ℕ, zero, suc, Bool, true, false, List, length, Option, Some, refl, sym, ap, subst, ◌∙◌, arith}
use Rattle.std.specs.Prelude.{take, drop, option_to_list, slice_index_or}
use Rattle.ex_base.specs.declared.names.Index.{Index}
use Rattle.ex_base.specs.declared.names.PageNo.{PageNo}
use Rattle.file_index.specs.declared.Entry.{Entry}
use Rattle.file_index.specs.IndexPage.{entries_on}
use Rattle.file_index.specs.Nodes.{RemovesLeaf}
use Rattle.file_index.specs.Damage.{IsLone, IsLeft, entry_in, falls}
use Rattle.file_index.proofs.Tops.{single}

-- as many entries as before are more than one
pub as_many : (old new : List Entry) → length old ≤ length new → 2 ≤ length old → length new ≤ 1 → IsLone old new
as_many old new many two few = absurd (omega (arith, many, two, few))

-- a page of the file leaves
pub leaf_lone : (key at : ℕ) (leaf : Entry) (old new : List Entry) (gone : Bool) → at < length old → 2 ≤ length old → length old ≤ length new + 1 → RemovesLeaf key at leaf old new gone → length new ≤ 1 → IsLone old new
leaf_lone key at leaf old new false inside two fewer h few = as_many old new (omega (arith, ap (λ (l : List Entry). length l) h.1)) two few
leaf_lone key at leaf [] new true inside two fewer h few = absurd (omega (arith, two))
leaf_lone key at leaf (a ∷ []) new true inside two fewer h few = absurd (omega (arith, two))
leaf_lone key zero leaf (a ∷ b ∷ []) new true inside two fewer h few = record { two = refl; at = 1; inside = omega arith; page = ap (λ (l : List Entry). (entry_in l 0).page) h.1 }
leaf_lone key (suc zero) leaf (a ∷ b ∷ []) new true inside two fewer h few = record { two = refl; at = 0; inside = omega arith; page = ap (λ (l : List Entry). (entry_in l 0).page) h.1 }
leaf_lone key (suc (suc at)) leaf (a ∷ b ∷ []) new true inside two fewer h few = absurd (omega (arith, inside))
leaf_lone key at leaf (a ∷ b ∷ c ∷ old) new true inside two fewer h few = absurd (omega (arith, fewer, few))

-- two pages side by side are joined
pub pair_lone : (first : ℕ) (e left : Entry) (right : Option Entry) (old new : List Entry) → first + 1 < length old → length old ≤ length new + 1 → e ≡ slice_index_or old first e → left.page ≡ e.page
    → new ≡ take first old ++ ((left ∷ option_to_list right) ++ drop (first + 2) old) → length new ≤ 1 → IsLone old new
pair_lone first e left right [] new inside fewer is same h few = absurd (omega (arith, inside))
pair_lone first e left right (a ∷ []) new inside fewer is same h few = absurd (omega (arith, inside))
pair_lone zero e left right (a ∷ b ∷ []) new inside fewer is same h few = record {
  two = refl;
  at = 0;
  inside = omega arith;
  page = ap (λ (l : List Entry). (entry_in l 0).page) h ∙ same ∙ ap (λ (x : Entry). x.page) is;
}
pair_lone (suc first) e left right (a ∷ b ∷ []) new inside fewer is same h few = absurd (omega (arith, inside))
pair_lone first e left right (a ∷ b ∷ c ∷ old) new inside fewer is same h few = absurd (omega (arith, fewer, few))

-- the root that names one page goes
pub falls_to : (image : ℕ → List ℕ) (index left : Index) (root : PageNo) (e : Entry) (old new : List Entry) → index.root ≡ Some root → left.level + 1 ≡ index.level → left.file_no ≡ index.file_no → left.root ≡ Some e.page
    → old ≡ entries_on (image root.0) → IsLone old new → length new ≡ 1 → e ≡ slice_index_or new 0 e → IsLeft image index left
falls_to image index left root e old new at level file names read lone one is =
    let same : new ≡ e ∷ [] = single new e one is in
    let page : e.page ≡ (entry_in old lone.at).page = sym (ap (λ (l : List Entry). (entry_in l 0).page) same) ∙ lone.page in
    falls root lone.at at level file (ap (λ (l : List Entry). length l) (sym read) ∙ lone.two) lone.inside
    (names ∙ ap Some (page ∙ ap (λ (l : List Entry). (entry_in l lone.at).page) read))
