use Rattle.std.proofs.Common.{◌≡◌, true}
use Rattle.vtl_lists.proofs.Aparts.{all_apart-filter}
use Rattle.vtl_lists.proofs.Perms.{Perm-filter}
use Rattle.vtl_lists.proofs.Sorts.{AllByRecursion-filter}
use Rattle.vtl_cell.specs.Outcome.{fault_in}
use Rattle.vtl_cell.specs.Outcomes.{is_true}
use Rattle.vtl_cell.specs.Row.{same_key}
use Rattle.vtl_tree.specs.DataSet.{is_point}
use Rattle.vtl_tree.specs.Structure.{columns_of, key_width}
use Rattle.vtl_tree.specs.Value.{value}
use Rattle.vtl_tree.proofs.Faults.{Same_unless, faults_by-Perm}
use Rattle.vtl_tree.proofs.LookUps.{look-filter}
use Rattle.vtl_tree.proofs.laws.filter_is_a_clause.Goals as goal

pub returns-clause-kept : goal.returns-clause-kept
returns-clause-kept c = λ p s e d h. record {
  well_formed = h.well_formed;
  typed = AllByRecursion-filter (λ r. is_point (columns_of s) r ≡ true) (λ r. is_true (value p e r)) d h.typed;
  distinct = all_apart-filter (same_key (key_width s)) (λ r. is_true (value p e r)) d h.distinct;
}

pub returns-clause-at : goal.returns-clause-at
returns-clause-at c = λ p n e d k s. look-filter n (λ r. is_true (value p e r)) d k s

pub returns-clause-order : goal.returns-clause-order
returns-clause-order c = λ p e t d q.
    Same_unless _ _ _ _ (faults_by-Perm (λ r. fault_in (value p e r)) q) (Perm-filter (λ r. is_true (value p e r)) q)
