-- A version whose tree was moved, and then its record written.
use Rattle.std.proofs.Common.{◌≡◌, ◌≤◌, ℕ, Bool, true, false, true≢false, List, Some, sym, ap, subst, ◌∙◌, arith, inl, inr}
use Rattle.std.proofs.lemmas.Bool.{cases_Bool}
use Rattle.std.specs.List.{AllByRecursion, flat_map}
use Rattle.ex_base.specs.declared.geometry.Geometry.{Geometry}
use Rattle.ex_base.specs.declared.ground.Ground as ground
use Rattle.ex_base.specs.declared.names.Area.{Area}
use Rattle.ex_base.specs.declared.names.Area.TheVariants.{Page, Segment}
use Rattle.ex_base.specs.declared.names.Index.{Index}
use Rattle.ex_base.specs.declared.names.Oid.{Oid}
use Rattle.ex_base.specs.declared.names.Root.{Root}
use Rattle.ex_base.specs.Ports.{times}
use Rattle.ex_base.specs.Sizes.{object_most}
use Rattle.ex_base.proofs.Counts.{contains_times}
use Rattle.ex_base.proofs.Each.{each_as, each_with}
use Rattle.file_index.specs.Index.{pages_of}
use Rattle.file_index.proofs.Counts.{count_most}
use Rattle.file_bodies.specs.Bodies.{EditsRow, Row, bodies_of, bodies_on, pages_in}
use Rattle.file_bodies.specs.Files.{HasBody}
use Rattle.file_bodies.proofs.Moving.{Moved, has_index, moved, once_of, page_held}
use Rattle.file_bodies.proofs.Rows.{rows_same}
use Rattle.object_records.specs.Record.{BodyOf, Large}
use Rattle.object_records.specs.Reads.{large_record}
use Rattle.object_records.specs.declared.Head.{Head}
use Rattle.trees.specs.Made.{AreUsed, Extends, Has, IsTaken}
use Rattle.trees.specs.Trees.{IsNamed, RootSpells, Units, root_shape, root_units, units_on}
use Rattle.trees.proofs.Counts.{counted_after}
use Rattle.trees.proofs.RootSteps.{has_each}
use Rattle.versions.specs.Put.{PutsRecord}
use Rattle.versions.specs.Versions.{AreInUse, HasVersion, IsTreeUnit, Spells, place_of}
use Rattle.versions.proofs.Becoming.{body_on, held_image}
use Rattle.versions.proofs.FileRows.{edit_stands}
use Rattle.compact.specs.High.{free_below, root_low_leaves}
use Rattle.compact.specs.Moved.{AreLow, Copies, IsMoved, IsOwn, IsSent, IsSoundPair}
use Rattle.volume_moves.specs.Moves.{InstallsRoot}
use Rattle.packing.specs.Moving.{CopiesAreAway, VersionMoved}

module _ {S : Type 0} (g : ground.Ghosts S) where
  not_held : (a : S) (p : ℕ) → AreInUse g a → g.used a p ≡ false → g.held a p ≡ false
  not_held a p in_use free = elim (cases_Bool (g.held a p)) [
    | inl held ↦ absurd (true≢false (sym (in_use p held) ∙ free))
    | inr isnt ↦ isnt
  ]

  module _ (a m : S) (index : Index) (oid : Oid) (head : Head) (root made : Root) (bytes : List ℕ) (dense : ℕ) (moves after : Copies) (ext : Extends g a m) (in_use : AreInUse g a) (has : HasVersion g a index oid head (Large root) bytes)
      (tree : IsMoved g a m dense moves after root made) (away : CopiesAreAway g a moves (root_units (g.unit a) root)) (size : made.size ≡ root.size) where
    -- no unit of the new tree is a logged page
    unit_away : (p : ℕ) → IsOwn g a m moves (root_units (g.unit a) root) p → g.held m p ≡ false
    unit_away p own = ap (λ (f : ℕ → Bool). f p) ext.held ∙ elim own [
      | inl taken ↦ not_held a p in_use taken.0
      | inr other ↦ elim other [
        | inl mine ↦ (has_each (IsTreeUnit g a) (root_units (g.unit a) root) p has.units mine).1
        | inr reached ↦ has_each (λ q. g.held a q ≡ false) (units_on (g.unit a) reached.level reached.copy.0) p (away reached.level reached.page reached.copy reached.inside reached.sent reached.named) reached.below
      ]
    ]

    tree_units : AllByRecursion (IsTreeUnit g m) (root_units (g.unit m) made)
    tree_units = each_with (λ p. g.used m p ≡ true) (IsOwn g a m moves (root_units (g.unit a) root)) (IsTreeUnit g m) (root_units (g.unit m) made) (λ p used own. (used, unit_away p own)) tree.used tree.own

    pub spelled : Spells (g.geometry m) (g.unit m) (Large made) bytes
    spelled = (tree.spells bytes has.spells.0, subst (λ n. n ≤ object_most) (sym size) has.spells.1)

    stands_m : HasBody g m index (place_of oid) has.stored.body
    stands_m = body_on g a m index (place_of oid) has.stored.body ext in_use has.stored.stands

    -- where the root is the old one
    pub tree_stays : made ≡ root → VersionMoved g a m index oid head dense moves after root made bytes
    tree_stays same = record {
      tree = tree;
      version = record {
        stored = record {
          body = has.stored.body;
          stands = stands_m;
          spelled = subst (λ (r : Root). BodyOf has.stored.body (record { head = head; content = Large r })) (sym same) has.stored.spelled;
          number = has.stored.number;
        };
        spells = spelled;
        units = tree_units;
      };
      installs = λ differ. absurd (differ same);
      stays = λ is. ext;
      held = ext.held;
    }

    -- ---- where the record is written

    kept_file : Moved (g.geometry a) index.file_no (g.image a) (g.image m) index.level index.root
    kept_file = moved (g.geometry a) index.file_no (g.image a) (g.image m) index.level index.root (λ p h. held_image g a m p ext in_use ((has_index g a index has.stored.stands.file).held p h))

    kept_rows : bodies_of (g.image m) index ≡ bodies_of (g.image a) index
    kept_rows =
        ap (flat_map (bodies_on (g.image m))) kept_file.keys
        ∙ rows_same (g.image a) (g.image m) (pages_in (g.image a) index) (λ k h. held_image g a m k ext in_use (page_held g a index k has.stored.stands.file h))

    module _ (c : S) (r : PutsRecord g m c index (place_of oid) has.stored.body (large_record head made)) (differs : made ≡ root → ⊥) where
      same_geometry : g.geometry c ≡ g.geometry m
      same_geometry = g.leads_geometry m c r.leads

      used_c : (p : ℕ) → g.used c p ≡ g.used m p
      used_c p = ap (λ (f : ℕ → Bool). f p) r.put.used

      taken_m : (p : ℕ) → IsTaken g a c p → IsTaken g a m p
      taken_m p is = (is.0, sym (used_c p) ∙ is.1)

      own_c : (p : ℕ) → IsOwn g a m moves (root_units (g.unit a) root) p → IsOwn g a c moves (root_units (g.unit a) root) p
      own_c p own = elim own [
        | inl taken ↦ inl (taken.0, used_c p ∙ taken.1)
        | inr other ↦ inr other
      ]

      kept_keys : pages_in (g.image c) index ≡ pages_in (g.image m) index
      kept_keys =
          let named : 1 ≤ times oid.page.0 (pages_in (g.image m) index) = contains_times oid.page.0 (pages_in (g.image m) index) stands_m.named in
          (moved (g.geometry m) index.file_no (g.image m) (g.image c) index.level index.root (λ q h. r.put.images q (λ same.
          absurd (omega (arith, once_of g m index oid.page.0 stands_m.file, count_most (g.held m oid.page.0), named, subst (λ (n : ℕ). 1 ≤ times n (pages_of (g.image m) index.level index.root)) same h))))).keys

      version_c : HasVersion g c index oid head (Large made) bytes
      version_c = record {
        stored = record { body = r.body; stands = edit_stands g m c index index (place_of oid) (Some has.stored.body) r.body r.edit; spelled = r.spelled; number = has.stored.number };
        spells = subst (λ (u : Units). Spells (g.geometry c) u (Large made) bytes) (sym r.put.units) (subst (λ (y : Geometry). Spells y (g.unit m) (Large made) bytes) (sym same_geometry) spelled);
        units = subst (λ (u : Units). AllByRecursion (IsTreeUnit g c) (root_units u made)) (sym r.put.units)
            (each_as (IsTreeUnit g m) (IsTreeUnit g c) (root_units (g.unit m) made) (λ p t. (used_c p ∙ t.0, ap (λ (f : ℕ → Bool). f p) r.put.held ∙ t.1)) tree_units);
      }

      -- the tree is as it was moved
      tree_c : IsMoved g a c dense moves after root made
      tree_c = record {
        spells = λ b is. subst (λ (u : Units). RootSpells (g.geometry c) u made b) (sym r.put.units) (subst (λ (y : Geometry). RootSpells y (g.unit m) made b) (sym same_geometry) (tree.spells b is));
        shape = subst (λ (u : Units). root_shape u made ≡ root_shape (g.unit a) root) (sym r.put.units) tree.shape;
        used = subst (λ (u : Units). AreUsed (g.used c) (root_units u made)) (sym r.put.units) (subst (λ (f : ℕ → Bool). AreUsed f (root_units (g.unit m) made)) (sym r.put.used) tree.used);
        low = subst (λ (u : Units). AreLow (g.geometry c) dense (root_units u made)) (sym r.put.units) (subst (λ (y : Geometry). AreLow y dense (root_units (g.unit m) made)) (sym same_geometry) tree.low);
        stay = subst (λ (u : Units). AllByRecursion (Has (root_units u made)) (root_low_leaves (g.geometry a) dense (g.unit a) root)) (sym r.put.units) tree.stay;
        own = subst (λ (u : Units). AllByRecursion (IsOwn g a c moves (root_units (g.unit a) root)) (root_units u made)) (sym r.put.units)
            (each_as (IsOwn g a m moves (root_units (g.unit a) root)) (IsOwn g a c moves (root_units (g.unit a) root)) (root_units (g.unit m) made) own_c tree.own);
        all = λ p is. subst (λ (u : Units). Has (root_units u made) p) (sym r.put.units) (tree.all p (taken_m p is));
        copies = λ p is. tree.copies p (taken_m p is);
        fresh = λ page copy sent. elim (tree.fresh page copy sent) [
          | inl before ↦ inl before
          | inr both ↦ inr (both.0, subst (λ (u : Units). Has (root_units u made) copy.0) (sym r.put.units) both.1)
        ];
        of_copies = λ level page copy inside sent named. subst (λ (u : Units). AllByRecursion (IsOwn g a c moves (root_units (g.unit a) root)) (units_on u level copy.0)) (sym r.put.units)
            (each_as (IsOwn g a m moves (root_units (g.unit a) root)) (IsOwn g a c moves (root_units (g.unit a) root)) (units_on (g.unit m) level copy.0) own_c
            (tree.of_copies level page copy inside sent (subst (λ (u : Units). IsNamed (g.geometry m) u level page) r.put.units (subst (λ (y : Geometry). IsNamed y (g.unit c) level page) same_geometry named))));
        sound = λ level page copy inside sent named.
            let sound = tree.sound level page copy inside sent (subst (λ (u : Units). IsNamed (g.geometry m) u level page) r.put.units (subst (λ (y : Geometry). IsNamed y (g.unit c) level page) same_geometry named)) in (
              subst (λ (f : ℕ → Bool). IsSoundPair (g.geometry c) (g.unit c) f dense level page copy.0) (sym r.put.used)
                  (subst (λ (u : Units). IsSoundPair (g.geometry c) u (g.used m) dense level page copy.0) (sym r.put.units)
                  (subst (λ (y : Geometry). IsSoundPair y (g.unit m) (g.used m) dense level page copy.0) (sym same_geometry) sound.0)),
              subst (λ (u : Units). IsSent (g.geometry c) dense u after level page) (sym r.put.units) (subst (λ (y : Geometry). IsSent y dense (g.unit m) after level page) (sym same_geometry) sound.1),
            );
        sent = tree.sent;
        above = tree.above;
        paid = record {
          of_pages = omega (arith, tree.paid.of_pages, ap (λ (f : Area → ℕ). f Page) r.put.free);
          of_leaves = omega (arith, tree.paid.of_leaves, ap (λ (f : Area → ℕ). f Segment) r.put.free);
          of_low = omega (arith, tree.paid.of_low, ap (λ (f : ℕ → Bool). free_below (g.geometry a) f dense) r.put.used);
        };
        counts = λ names. counted_after g a m c r.put.used r.put.refs r.put.units r.put.held (tree.counts names);
      }

      installs_root : InstallsRoot g a c index oid head made bytes
      installs_root = record {
        version = version_c;
        was = has.stored.body;
        is = r.body;
        rows = subst (λ (t : List Row). EditsRow t (bodies_of (g.image c) index) (place_of oid) (Some has.stored.body) (Some r.body)) kept_rows r.edit.bodies;
        file = r.edit.file;
        pages = kept_keys ∙ kept_file.keys;
        images = λ p held differ. r.put.images p differ ∙ held_image g a m p ext in_use held;
        held = r.put.held ∙ ext.held;
        used = λ p is. used_c p ∙ ext.used p is;
        kept = λ p is. ap (λ (u : Units). u p) r.put.units ∙ ext.units p is;
        all = λ p is. tree_c.all p is;
        counts = λ names. tree_c.counts names;
      }

      pub tree_installed : VersionMoved g a c index oid head dense moves after root made bytes
      tree_installed = record {
        tree = tree_c;
        version = version_c;
        installs = λ differ. installs_root;
        stays = λ same. absurd (differs same);
        held = r.put.held ∙ ext.held;
      }
