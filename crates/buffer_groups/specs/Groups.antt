-- What a contract sees of the groups of a session, a list of groups.
use Rattle.std.specs.Prelude.{◌≡◌, ℕ, List, map, All, nat_eq, Option, Some, IsSome, slice_get, slice_set}
use Rattle.std.specs.Map.{lookup}
use Rattle.buffer_groups.specs.declared.policy.Policy.{Policy}
use Rattle.buffer_groups.specs.Frames.{Frames, Lends, IsAbsent, Brought, NotBrought, forgotten}

-- Each group without the frame of a page.
abbrev pub forgotten_in_all : ℕ → List Frames → List Frames
forgotten_in_all page groups = map (forgotten page) groups

-- what a group is made with: the most frames that it has, and which of them gives way first
abbrev pub kind_of : Frames → ℕ × Policy
kind_of f = (f.cap, f.policy)

-- They are as many groups, each with as many frames at most and with the policy that it had.
abbrev pub SameKinds : List Frames → List Frames → Type 0
SameKinds old new = map kind_of new ≡ map kind_of old

-- The group at an index has a frame of the page.
pub record HasFrame (groups : List Frames) (index page : ℕ) : Type 0 where
  pub group : Frames
  pub at : slice_get groups index ≡ Some group
  pub found : IsSome (lookup (nat_eq page) group.entries)

-- The group at an index has no frame of the page.
abbrev pub LacksFrame : List Frames → ℕ → ℕ → Type 0
LacksFrame groups index page = (group : Frames) → slice_get groups index ≡ Some group → IsAbsent group page

-- All groups are of one page size.
abbrev pub AreOfSize : ℕ → List Frames → Type 0
AreOfSize size groups = All (λ (f : Frames). f.page_size ≡ size) groups

-- The group at an index brought the page into its first frame, with these bytes. The other groups stay.
pub record GroupBrought (disk : Option (List ℕ)) (old new : List Frames) (index page : ℕ) : Type 0 where
  pub before : Frames
  pub after : Frames
  pub bytes : List ℕ
  pub at : slice_get old index ≡ Some before
  pub groups : new ≡ slice_set old index after
  pub brought : Brought disk before after page bytes
  pub has : HasFrame new index page

-- The group at an index did not bring the page. The other groups stay.
pub record GroupNotBrought (old new : List Frames) (index page : ℕ) : Type 0 where
  pub before : Frames
  pub after : Frames
  pub at : slice_get old index ≡ Some before
  pub groups : new ≡ slice_set old index after
  pub unchanged : NotBrought before after page

-- Groups that lent the disk's bytes still do. They stay as many, each as it was made, and of the same page size.
pub record GroupsKeep (disk : Option (List ℕ)) (old new : List Frames) : Type 0 where
  pub lends : All (Lends disk) old → All (Lends disk) new
  pub sizes : (n : ℕ) → All (λ (f : Frames). f.page_size ≡ n) old → All (λ (f : Frames). f.page_size ≡ n) new
  pub kinds : SameKinds old new
