-- The script is typed, each of its forms is evaluated, and it reads the two data sets.
use Rattle.std.proofs.Common.{◌≡◌, Ok, refl}
use Rattle.vtl_check.specs.Checked.{env_over}
use Rattle.vtl_check.specs.Script.{assigned, script_typed}
use Rattle.vtl_check.specs.Uses.{reads}
use Rattle.check_clauses.specs.Clauses.{keeping_form, name_known}
use Rattle.check_clauses.specs.JoinOperands.{joined_node, last_naming, with_part}
use Rattle.check_clauses.specs.Targets.{calc_clause}
use Rattle.check_groups.specs.Aggregates.{aggregate_node}
use Rattle.check_operators.specs.Operators.{operator_form}
use Rattle.vtl_tree.specs.Joins.{is_shared, joined_name}
use Rattle.vtl_demo.specs.DataSets.{declared}
use Rattle.vtl_demo.specs.Nodes.{typed_nodes}
use Rattle.vtl_demo.specs.Script.{settings, tree}

pub typed : script_typed (env_over settings declared) tree ≡ Ok typed_nodes
unfolding assigned keeping_form name_known joined_node last_naming with_part calc_clause aggregate_node operator_form is_shared joined_name
typed = refl

pub reads_both : reads declared typed_nodes ≡ declared
reads_both = refl
