-- What the body of a record tells.
use Rattle.versions.specs.declared.finding.Found.{Found}
use Rattle.ex_base.proofs.Options.{some_apart}
use Rattle.std.specs.Prelude.{None, IfSome}
use Rattle.std.proofs.Common.{◌≡◌, ℕ, List, [], Bool, true, false, sym, ap, subst, ◌∙◌, ◌<◌, refl, arith}
use Rattle.ex_base.specs.declared.geometry.Geometry.{Geometry}
use Rattle.ex_base.specs.declared.names.Root.{Root}
use Rattle.object_records.specs.Record.{Content, Small, Large, Record, BodyOf, IsContent, IsRecord}
use Rattle.object_records.specs.Reads.{small_record, record_on}
use Rattle.object_records.specs.declared.Head.{Head}
use Rattle.object_records.proofs.RecordLaws.{record_read}
use Rattle.trees.specs.Roots.{IsRootFor}
use Rattle.versions.specs.Found.{HasLimits, IsRecordBody, IsTold, root_of, size_of}

-- a body is one record
pub one_record : (body : List ℕ) (a b : Record) → BodyOf body a → BodyOf body b → a ≡ b
one_record body a b at_a at_b = sym (record_read body a at_a) ∙ record_read body b at_b

pub small_held : Content → List ℕ
small_held (Small bytes) = bytes
small_held (Large root) = []

pub one_small : (a b : List ℕ) → Small a ≡ Small b → a ≡ b
unfolding small_held
one_small a b e = ap small_held e

-- the root of a record in its limits
pub root_limits : (g : Geometry) (body : List ℕ) (view : Record) (root : Root) → BodyOf body view → Large root ≡ view.content → IsRecordBody g body → IsRootFor g root
root_limits g body view root spelled is readable = subst (HasLimits g) (ap (λ (r : Record). r.content) (one_record body readable.is view readable.spelled spelled) ∙ sym is) readable.limits

-- the bytes of a small version's record
pub small_there : (body held given : List ℕ) (view : Record) (head : Head) → BodyOf body view → Small held ≡ view.content → BodyOf body (small_record head given) → held ≡ given
small_there body held given view head spelled is small = one_small held given (is ∙ ap (λ (r : Record). r.content) (one_record body view (small_record head given) spelled small))

is_small : Content → Bool
is_small (Small bytes) = true
is_small (Large root) = false

pub apart : (bytes : List ℕ) (root : Root) → Large root ≡ Small bytes → ⊥
unfolding is_small
apart bytes root e = let no : false ≡ true = ap is_small e in cc

pub not_small : (body given : List ℕ) (view : Record) (head : Head) (root : Root) → BodyOf body view → Large root ≡ view.content → BodyOf body (small_record head given) → ⊥
not_small body given view head root spelled is small = apart given root (is ∙ ap (λ (r : Record). r.content) (one_record body view (small_record head given) spelled small))

-- the head that is read
pub head_there : (body : List ℕ) (view : Record) (head : Head) → BodyOf body view → head ≡ view.head → head ≡ (record_on body).head
head_there body view head spelled is = is ∙ sym (ap (λ (r : Record). r.head) (record_read body view spelled))

-- ---- what is told of a record

pub told_head : (g : Geometry) (unique : ℕ) (body : List ℕ) (found : Found) → IsTold g unique body found → IsRecord (small_record found.head [])
told_head g unique body found told =
    let fits = told.spelled.fits in
    subst (λ (f : Found). IsRecord (small_record f.head [])) (sym told.told) (record {
      unique = fits.unique;
      older = fits.older;
      newer = fits.newer;
      newer_fits = fits.newer_fits;
      content = omega arith;
    })

small_size : (content : Content) → IsContent content → root_of content ≡ None → size_of content < 65536
small_size (Small bytes) fits none = fits
small_size (Large root) fits none = absurd (some_apart root none)

pub told_small : (g : Geometry) (unique : ℕ) (body : List ℕ) (found : Found) → IsTold g unique body found → found.root ≡ None → found.size < 65536
told_small g unique body found told none =
    subst (λ (f : Found). f.size < 65536) (sym told.told)
    (small_size told.is.content told.spelled.fits.content (sym (ap (λ (f : Found). f.root) told.told) ∙ none))

limits_root : (g : Geometry) (content : Content) → HasLimits g content → IfSome (root_of content) (IsRootFor g)
limits_root g (Small bytes) limits = tt
limits_root g (Large root) limits = limits

pub told_root : (g : Geometry) (unique : ℕ) (body : List ℕ) (found : Found) → IsTold g unique body found → IfSome found.root (IsRootFor g)
told_root g unique body found told = subst (λ (f : Found). IfSome f.root (IsRootFor g)) (sym told.told) (limits_root g told.is.content told.limits)

large_size : (content : Content) → IfSome (root_of content) (λ (root : Root). size_of content ≡ root.size)
large_size (Small bytes) = tt
large_size (Large root) = refl

pub told_large : (g : Geometry) (unique : ℕ) (body : List ℕ) (found : Found) → IsTold g unique body found
    → IfSome found.root (λ (root : Root). found.size ≡ root.size)
told_large g unique body found told =
    subst (λ (f : Found). IfSome f.root (λ (root : Root). f.size ≡ root.size)) (sym told.told) (large_size told.is.content)
