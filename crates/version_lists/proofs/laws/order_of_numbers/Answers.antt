use Rattle.version_lists.specs.Sorted.{in_order}
use Rattle.version_lists.specs.Versions.{unique_of}
use Rattle.version_lists.proofs.Lists.{rises_from, rises_to, rising_agree, has_contains, contains_has}
use Rattle.version_lists.proofs.Sorted.{order_permutation, order_rises, unlike_from, order_left, order_map}
use Rattle.version_lists.proofs.laws.order_of_numbers.Goals as goal

pub returns-clause-same : goal.returns-clause-same
returns-clause-same c = order_permutation unique_of

pub returns-clause-rises : goal.returns-clause-rises
returns-clause-rises c = λ vs apart. rises_to unique_of (in_order unique_of vs) (order_rises unique_of vs (unlike_from unique_of vs apart))

pub returns-clause-left : goal.returns-clause-left
returns-clause-left c = λ vs up. order_left unique_of vs (rises_from unique_of vs up)

pub returns-clause-changes : goal.returns-clause-changes
returns-clause-changes c = λ change vs same. order_map unique_of unique_of change vs same

pub returns-clause-agree : goal.returns-clause-agree
returns-clause-agree c = λ vs ws up above both.
    rising_agree unique_of vs ws (rises_from unique_of vs up) (rises_from unique_of ws above)
    (λ v m. contains_has ws v ((both v).0 (has_contains vs v m))) (λ v m. contains_has vs v ((both v).1 (has_contains ws v m)))
