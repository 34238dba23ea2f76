-- One owner more of the tree of a root.
use Rattle.std.proofs.Common.{◌≡◌, ◌∙◌, ◌+◌, ◌<◌, ℕ, Bool, true, inl, inr, [], ◌∷◌, Option, Some, None, refl, sym, ap, arith, lt-ltb}
use Rattle.ex_base.specs.declared.names.PageNo.{PageNo}
use Rattle.ex_base.specs.declared.names.Root.{Root}
use Rattle.ex_base.specs.Ports.{refs_most, times, with_ref}
use Rattle.ex_base.proofs.Counts.{same_or_not, times_apart, times_here}
use Rattle.page_alloc.specs.UnitSet.{UnitSet, refs_at, updated, used_at}
use Rattle.tree_store.proofs.Taking.{updated_here, updated_other}
use Rattle.trees.specs.Owners.{page_here, root_pages}
use Rattle.volume_model.specs.Held.{root_here}
use Rattle.volume_port.specs.GivingUp.{CountsRoot}

-- the pages of a root, by where its tree is
page_of_root : (root : Root) (page : Option PageNo) → root.page ≡ page → root_pages (root_here (Some root)) ≡ page_here page
page_of_root root None is = ap (λ (o : Option PageNo). root_pages (record { height = root.height; page = o; size = root.size } ∷ [])) is
page_of_root root (Some page) is = ap (λ (o : Option PageNo). root_pages (record { height = root.height; page = o; size = root.size } ∷ [])) is

one_more : (used : Bool) (count : ℕ) → used ≡ true → count < refs_most → with_ref used count ≡ count + 1
one_more used count is few = let below = lt-ltb count refs_most few in rw (is, below) refl

pub one_counted : (root : Root) (page : PageNo) (old new : UnitSet) → root.page ≡ Some page → new.geometry ≡ old.geometry → used_at new ≡ used_at old
    → refs_at new ≡ updated (refs_at old) page.0 (with_ref (used_at old page.0) (refs_at old page.0)) → CountsRoot (Some root) old new
one_counted root page old new is geometry used refs = record {
  geometry = geometry;
  used = used;
  refs = λ room u. elim (same_or_not u page.0) [
    | inl same ↦
        let here = room u (omega (arith, ap (times u) (page_of_root root (Some page) is), times_here u page.0 [] same)) in
        let more : with_ref (used_at old page.0) (refs_at old page.0) ≡ refs_at old page.0 + 1 =
        one_more (used_at old page.0) (refs_at old page.0) (ap (used_at old) (sym same) ∙ here.1) (omega (arith, here.2, ap (refs_at old) same)) in
        omega (
          arith,
          ap (λ (f : ℕ → ℕ). f u) refs,
          ap (updated (refs_at old) page.0 (with_ref (used_at old page.0) (refs_at old page.0))) same,
          updated_here (refs_at old) page.0 (with_ref (used_at old page.0) (refs_at old page.0)),
          more,
          ap (refs_at old) same,
          ap (times u) (page_of_root root (Some page) is),
          times_here u page.0 [] same,
        )
    | inr differ ↦
        omega (
          arith,
          ap (λ (f : ℕ → ℕ). f u) refs,
          updated_other (refs_at old) page.0 (with_ref (used_at old page.0) (refs_at old page.0)) u differ,
          ap (times u) (page_of_root root (Some page) is),
          times_apart u page.0 [] differ,
        )
  ];
}
