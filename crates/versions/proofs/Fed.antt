-- How far the bytes of a version are digested.
use Rattle.std.proofs.Common.{◌≡◌, ◌≤◌, ◌<◌, ◌+◌, ℕ, zero, suc, List, ◌++◌, length, take, sym, ap, subst, ◌∙◌, arith, inl, inr}
use Rattle.std.specs.Prelude.{IfSome, None, slice_index_or}
use Rattle.std.proofs.lemmas.Bool.{cases_lt}
use Rattle.std.proofs.Math.Seq.{take-add}
use Rattle.sha2.specs.declared.Sha256.{Sha256}
use Rattle.sha2.specs.Hashers.{Holds256}
use Rattle.ex_base.specs.declared.geometry.Geometry.{Geometry}
use Rattle.ex_base.specs.declared.ground.Ground as ground
use Rattle.ex_base.specs.declared.names.Oid.{Oid}
use Rattle.ex_base.specs.declared.names.Root.{Root}
use Rattle.ex_base.specs.Bytes.{bytes_at}
use Rattle.ex_base.specs.Ports.{Keeps}
use Rattle.ex_base.proofs.Keeping.{keeps_on}
use Rattle.ex_base.proofs.Options.{some_both}
use Rattle.object_records.specs.Record.{Content, BodyOf}
use Rattle.object_records.specs.declared.Head.{Head}
use Rattle.ex_base.specs.declared.names.Index.{Index}
use Rattle.slotted_pages.specs.Edits.{slots_of}
use Rattle.trees.specs.Trees.{Units}
use Rattle.versions.specs.Damage.{HasSoundWay, IsFoundAnd, IsFoundAt, IsReadThrough}
use Rattle.versions.specs.Found.{found_of}
use Rattle.versions.specs.Versions.{HoldsVersion}
use Rattle.versions.specs.declared.finding.Found.{Found}
use Rattle.versions.proofs.Faults.{through_kept}
use Rattle.versions.proofs.Records.{one_record}
use Rattle.versions.proofs.Results.{same_some}
use Rattle.versions.proofs.Standing.{kept_holds}

-- the hasher has these bytes and so many more of others
pub more_fed : (hasher : Sha256) (bytes : List ℕ) (at len : ℕ) → Holds256 hasher (take at bytes ++ bytes_at bytes at len) → Holds256 hasher (take (at + len) bytes)
more_fed hasher bytes at len holds = subst (Holds256 hasher) (sym (take-add at len bytes)) holds

-- ---- a version that is read piece by piece

-- one thing is told of what stands where an OID leads
one_found : (geo : Geometry) (image : ℕ → List ℕ) (oid : Oid) (a b : Found) → IsFoundAt geo image oid a → IsFoundAt geo image oid b → a ≡ b
one_found geo image oid a b x y =
    let body : x.body ≡ y.body = same_some (slice_index_or (slots_of (image oid.page.0)) oid.slot None) x.body y.body x.stands y.stands in
    let same : x.told.is ≡ y.told.is = one_record y.body x.told.is y.told.is (subst (λ (t : List ℕ). BodyOf t x.told.is) body x.told.spelled) y.told.spelled in
    x.told.told ∙ ap found_of same ∙ sym y.told.told

way_on : (geo : Geometry) (units : Units) (at len : ℕ) (root : Root) → HasSoundWay geo units 0 at root → HasSoundWay geo units at len root → HasSoundWay geo units 0 (at + len) root
way_on geo units at len root before behind byte low high = elim (cases_lt byte at) [
  | inl less ↦ before byte low (omega (arith, less))
  | inr more ↦ behind byte more (omega (arith, high))
]

through_on : (geo : Geometry) (units : Units) (image : ℕ → List ℕ) (oid : Oid) (at len : ℕ) → (0 < at → IsFoundAnd geo image oid (IsReadThrough geo units 0 at)) → IsFoundAnd geo image oid (IsReadThrough geo units at len)
    → IsFoundAnd geo image oid (IsReadThrough geo units 0 (at + len))
through_on geo units image oid zero len before behind = subst (λ (n : ℕ). IsFoundAnd geo image oid (IsReadThrough geo units 0 n)) (let e : len ≡ 0 + len = omega arith in e) behind
through_on geo units image oid (suc at) len before behind =
    let first = before (omega arith) in
    let same : first.found ≡ behind.found = one_found geo image oid first.found behind.found first.at behind.at in
    record {
      found = behind.found;
      at = behind.at;
      holds = (omega (arith, behind.holds.0), some_both behind.found.root _ _ _ (λ root a b. way_on geo units (suc at) len root a b) (subst (λ (f : Found). IfSome f.root (HasSoundWay geo units 0 (suc at))) same first.holds.1) behind.holds.1);
    }

-- ---- the bytes that are fed to a hasher

module _ {S : Type 0} (g : ground.Ghosts S) where
  -- Up to a position the hasher has the bytes of the version, in a state with the same meanings.
  pub record FedTo (a b : S) (oid : Oid) (size at : ℕ) (hasher : Sha256) : Type 0 where
    pub kept : Keeps g a b
    pub inside : at ≤ size
    pub fed : g.tells a → (index : Index) (head : Head) (content : Content) (bytes : List ℕ) → HoldsVersion g a index oid head content bytes → (at ≤ length bytes) × Holds256 hasher (take at bytes)
    pub reads : g.tells a → 0 < at → IsFoundAnd (g.geometry a) (g.image a) oid (IsReadThrough (g.geometry a) (g.unit a) 0 at)

  -- a piece of the version is fed in a state that it was read in
  pub record FeedsPiece (b c : S) (oid : Oid) (at len : ℕ) (old new : Sha256) : Type 0 where
    pub kept : Keeps g b c
    pub fed : g.tells b → (index : Index) (head : Head) (content : Content) (bytes : List ℕ) → HoldsVersion g b index oid head content bytes
        → (at + len ≤ length bytes) × ((message : List ℕ) → Holds256 old message → Holds256 new (message ++ bytes_at bytes at len))
    pub reads : g.tells b → IsFoundAnd (g.geometry b) (g.image b) oid (IsReadThrough (g.geometry b) (g.unit b) at len)

  pub fed_more : (a b c : S) (oid : Oid) (size at len : ℕ) (old new : Sha256) → FedTo a b oid size at old → FeedsPiece b c oid at len old new → at + len ≤ size → FedTo a c oid size (at + len) new
  fed_more a b c oid size at len old new to piece inside = record {
    kept = keeps_on g a b c to.kept piece.kept;
    inside = inside;
    fed = λ told index head content bytes has.
        let so_far = to.fed told index head content bytes has in
        let more = piece.fed (g.leads_told a b to.kept.leads told) index head content bytes (kept_holds g a b index oid head content bytes to.kept has) in
        (more.0, more_fed new bytes at len (more.1 (take at bytes) so_far.1));
    reads = λ told some. through_on (g.geometry a) (g.unit a) (g.image a) oid at len (to.reads told) (through_kept g a b to.kept oid at len piece.reads told);
  }
