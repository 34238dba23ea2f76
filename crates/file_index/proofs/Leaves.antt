-- Entries that name pages of the file themselves.
use Rattle.std.proofs.Common.{◌≡◌, ◌≢◌, ◌≤◌, ◌<◌, ◌+◌, ◌-◌, ◌++◌, ℕ, length, take, drop, ap, true≢false, Bool, true, false, nat_lt, List, [], ◌∷◌, refl, sym, subst, ◌∙◌, arith, ltb-true, ltb-false}
use Rattle.std.specs.Prelude.{slice_index_or, if◌then◌else◌}
use Rattle.std.proofs.lemmas.List.{length-append}
use Rattle.ex_base.specs.declared.geometry.Geometry.{Geometry}
use Rattle.file_index.specs.Damage.{IsWayUnder}
use Rattle.ex_base.specs.declared.ground.Ground as ground
use Rattle.file_index.specs.declared.Entry.{Entry}
use Rattle.file_index.specs.Index.{IsFilesPage}
use Rattle.file_index.specs.Nodes.{IsPlace, PutsLeaf, RemovesLeaf, leaves_of}
use Rattle.file_index.specs.Edits.{IsRow, Becomes, put_in, take_out}
use Rattle.file_index.proofs.Counts.{changes_same}
use Rattle.file_index.proofs.Lists.{put_here, put_later, put_again, put_local, out_here, out_other, out_local}
use Rattle.file_index.proofs.Placing.{placed, replaced_at, split_at}

abbrev leaf_of : ℕ → Entry
leaf_of key = record { key = key; page = record { 0 = key } }

module _ {S : Type 0} (g : ground.Ghosts S) (a : S) (file_no : ℕ) where
  same_leaf : (key : ℕ) (beside : Entry) → beside.key ≡ key → IsRow g a file_no 0 (beside ∷ []) → Becomes g a a file_no 0 (put_in key) (beside ∷ []) (beside ∷ [])
  same_leaf key beside same row = record {
    row = row;
    keys = sym (put_again key beside.page.0 [] (row.under.0.1 ∙ same));
    changes = changes_same g a [];
  }

  pub two_leaves : (key : ℕ) (beside : Entry) → beside.key ≢ key → IsFilesPage (g.geometry a) key → IsRow g a file_no 0 (beside ∷ []) → Becomes g a a file_no 0 (put_in key) (beside ∷ []) (leaves_of key beside)
  two_leaves key beside differ files row =
      let same : beside.page.0 ≡ beside.key = row.under.0.1 in
      (elim (nat_lt key beside.key) as (λ t. nat_lt key beside.key ≡ t → Becomes g a a file_no 0 (put_in key) (beside ∷ []) (if t then leaf_of key ∷ beside ∷ [] else beside ∷ leaf_of key ∷ [])) [
        | true ↦ λ t.
            let lt : key < beside.page.0 = omega (arith, same, ltb-true key beside.key t) in
            record {
              row = record {
                under = ((files, refl), (row.under.0, tt));
                rising = (omega arith, (omega arith, tt));
                once = λ p. omega arith;
              };
              keys = sym (put_here key beside.page.0 [] lt);
              changes = changes_same g a [];
            }
        | false ↦ λ t.
            let lt : beside.page.0 < key = omega (arith, same, ltb-false key beside.key t, differ) in
            record {
              row = record {
                under = (row.under.0, ((files, refl), tt));
                rising = (omega arith, (omega arith, tt));
                once = λ p. omega arith;
              };
              keys = sym (put_later key beside.page.0 [] lt);
              changes = changes_same g a [];
            }
      ]) refl

  added_at : (key at : ℕ) (beside : Entry) (old new : List Entry) (changed : Bool) → IsPlace key old at → beside ≡ slice_index_or old at beside → PutsLeaf key at beside old new changed
      → IsFilesPage (g.geometry a) key → IsRow g a file_no 0 old → Becomes g a a file_no 0 (put_in key) old new
  added_at key at beside old new false place item puts files row =
      let p = placed g a file_no 0 key old at beside place item row in
      replaced_at g a file_no 0 a key (put_in key) old (beside ∷ []) new at beside (put_local key) row p (same_leaf key beside puts.0 p.row) (puts.1 ∙ p.is)
  added_at key at beside old new true place item puts files row =
      let p = placed g a file_no 0 key old at beside place item row in
      replaced_at g a file_no 0 a key (put_in key) old (leaves_of key beside) new at beside (put_local key) row p (two_leaves key beside puts.0 files p.row) puts.1

  pub leaf_added : (l key at : ℕ) (beside : Entry) (old new : List Entry) (changed : Bool) → l ≡ 0 → IsPlace key old at → beside ≡ slice_index_or old at beside → PutsLeaf key at beside old new changed
      → IsFilesPage (g.geometry a) key → IsRow g a file_no l old → Becomes g a a file_no l (put_in key) old new
  leaf_added l key at beside old new changed is place item puts files =
      subst (λ (k : ℕ). IsRow g a file_no k old → Becomes g a a file_no k (put_in key) old new) (sym is) (added_at key at beside old new changed place item puts files)

  gone_leaf : (key : ℕ) (leaf : Entry) → leaf.key ≡ key → IsRow g a file_no 0 (leaf ∷ []) → Becomes g a a file_no 0 (take_out key) (leaf ∷ []) []
  gone_leaf key leaf same row = record {
    row = record { under = tt; rising = tt; once = λ p. omega arith };
    keys = sym (out_here key leaf.page.0 [] (row.under.0.1 ∙ same));
    changes = changes_same g a [];
  }

  other_leaf : (key : ℕ) (leaf : Entry) → leaf.key ≢ key → IsRow g a file_no 0 (leaf ∷ []) → Becomes g a a file_no 0 (take_out key) (leaf ∷ []) (leaf ∷ [])
  other_leaf key leaf differ row = record {
    row = row;
    keys = sym (out_other key leaf.page.0 [] (λ same. differ (sym row.under.0.1 ∙ same)));
    changes = changes_same g a [];
  }

  removed_at : (key at : ℕ) (leaf : Entry) (old new : List Entry) (changed : Bool) → IsPlace key old at → leaf ≡ slice_index_or old at leaf → RemovesLeaf key at leaf old new changed
      → IsRow g a file_no 0 old → Becomes g a a file_no 0 (take_out key) old new
  removed_at key at leaf old new false place item removes row =
      let p = placed g a file_no 0 key old at leaf place item row in
      replaced_at g a file_no 0 a key (take_out key) old (leaf ∷ []) new at leaf (out_local key) row p (other_leaf key leaf removes.0 p.row) (removes.1 ∙ p.is)
  removed_at key at leaf old new true place item removes row =
      let p = placed g a file_no 0 key old at leaf place item row in
      replaced_at g a file_no 0 a key (take_out key) old [] new at leaf (out_local key) row p (gone_leaf key leaf removes.0 p.row) removes.1

  pub leaf_removed : (l key at : ℕ) (leaf : Entry) (old new : List Entry) (changed : Bool) → l ≡ 0 → IsPlace key old at → leaf ≡ slice_index_or old at leaf → RemovesLeaf key at leaf old new changed
      → IsRow g a file_no l old → Becomes g a a file_no l (take_out key) old new
  leaf_removed l key at leaf old new changed is place item removes =
      subst (λ (k : ℕ). IsRow g a file_no k old → Becomes g a a file_no k (take_out key) old new) (sym is) (removed_at key at leaf old new changed place item removes)

-- ---- how many entries there are then

pub leaves_two : (key : ℕ) (beside : Entry) → length (leaves_of key beside) ≡ 2
leaves_two key beside = elim (nat_lt key beside.key) as (λ t. length (if t then leaf_of key ∷ beside ∷ [] else beside ∷ leaf_of key ∷ []) ≡ 2) [
  | true ↦ refl
  | false ↦ refl
]

pub put_same : (key at : ℕ) (beside : Entry) (old new : List Entry) (changed : Bool) → PutsLeaf key at beside old new changed → changed ≡ false → new ≡ old
put_same key at beside old new false puts is = puts.1
put_same key at beside old new true puts is = absurd (true≢false is)

pub put_more : (key at : ℕ) (beside : Entry) (old new : List Entry) (changed : Bool) → at < length old → PutsLeaf key at beside old new changed
    → (length old ≤ length new) × (length new ≤ length old + 1)
put_more key at beside old new false lt puts = (omega (arith, ap length puts.1), omega (arith, ap length puts.1))
put_more key at beside old new true lt puts =
    let s = split_at old at lt in
    let n = length-append (take at old) (leaves_of key beside ++ drop (at + 1) old) in
    let m = length-append (leaves_of key beside) (drop (at + 1) old) in (
      omega (arith, ap length puts.1, n, m, leaves_two key beside, s.front, s.back),
      omega
          (arith, ap length puts.1, n, m, leaves_two key beside, s.front, s.back),
    )

pub removed_same : (key at : ℕ) (leaf : Entry) (old new : List Entry) (changed : Bool) → RemovesLeaf key at leaf old new changed → changed ≡ false → new ≡ old
removed_same key at leaf old new false removes is = removes.1
removed_same key at leaf old new true removes is = absurd (true≢false is)

pub removed_fewer : (key at : ℕ) (leaf : Entry) (old new : List Entry) (changed : Bool) → at < length old → RemovesLeaf key at leaf old new changed
    → (length new ≤ length old) × (length old ≤ length new + 1)
removed_fewer key at leaf old new false lt removes = (omega (arith, ap length removes.1), omega (arith, ap length removes.1))
removed_fewer key at leaf old new true lt removes =
    let s = split_at old at lt in
    let n = length-append (take at old) (drop (at + 1) old) in
    (omega (arith, ap length removes.1, n, s.front, s.back), omega (arith, ap length removes.1, n, s.front, s.back))

-- there is no index page on the way from a page over pages of the file
pub way_ends : (g : Geometry) (image : ℕ → List ℕ) (file_no key level : ℕ) (entries : List Entry) → level ≡ 1
    → IsWayUnder g image file_no key (level - 1) entries
way_ends g image file_no key level entries is = subst (λ (k : ℕ). IsWayUnder g image file_no key (k - 1) entries) (sym is) tt
