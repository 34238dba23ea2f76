-- Indexes whose height stays, or becomes one more or one less.
use Rattle.std.proofs.Common.{◌≡◌, ◌+◌, ◌-◌, Some, refl, sym, subst, arith}
use Rattle.ex_base.specs.declared.names.Index.{Index}
use Rattle.ex_base.specs.declared.names.PageNo.{PageNo}
use Rattle.file_index.specs.Index.{HasRoot}
use Rattle.file_index.specs.Edits.{GrowsTo, ShrinksTo}

rooted : (index : Index) (root : PageNo) → index.root ≡ Some root → HasRoot index.level index.root
rooted index root is = subst (HasRoot index.level) (sym is) tt

pub grows_same : (index : Index) (root : PageNo) → index.root ≡ Some root → GrowsTo index index
grows_same index root is = record { same_file = refl; root = rooted index root is; no_less = omega arith; one_more = omega arith }

pub grows_one : (before after : Index) → after.level ≡ before.level + 1 → after.file_no ≡ before.file_no → HasRoot after.level after.root → GrowsTo before after
grows_one before after level file_no root = record { same_file = file_no; root = root; no_less = omega (arith, level); one_more = omega (arith, level) }

pub shrinks_same : (index : Index) (root : PageNo) → index.root ≡ Some root → ShrinksTo index index
shrinks_same index root is = record { same_file = refl; root = rooted index root is; no_more = omega arith }

pub shrinks_one : (before : Index) (only : PageNo) → ShrinksTo before (record { root = Some only; level = before.level - 1; file_no = before.file_no })
shrinks_one before only = record { same_file = refl; root = tt; no_more = omega arith }
