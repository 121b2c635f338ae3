-- A join of the program and what is left of it behind the tables of its operands.
use Rattle.std.proofs.Common.{◌≡◌, ℕ, List, ◌++◌, map, sym, ap, ◌∙◌, subst}
use Rattle.std.specs.Prelude.{Vec}
use Rattle.std.specs.declared.alloc.Global.{Global}
use Rattle.vtl_decimal.specs.Settings.{Settings}
use Rattle.vtl_tree.specs.declared.structure.Structure.{Structure}
use Rattle.vtl_tree.specs.Trees as nodes
use Rattle.vtl_tree.specs.Trees.{FormTree, OperandTrees}
use Rattle.vtl_tree.specs.NodeView.{form_tree, operand_tree}
use Rattle.vtl_tree.specs.declared.specifications.JoinSpec.{JoinSpec}
use Rattle.vtl_tree.specs.declared.nodes.JoinOperand.{JoinOperand}
use Rattle.vtl_tree.specs.declared.nodes.NodeForm.{NodeForm}
use Rattle.vtl_tree.specs.declared.nodes.NodeForm.TheVariants as form
use Rattle.vtl_tree.specs.Joins.{structures_of}
use Rattle.vtl_scripts.specs.Made.{operands_in}
use Rattle.sql_tree.specs.Trees.{StatementTree, Text}
use Rattle.selects_to_sql.specs.Tables.{create_for, by_names}
use Rattle.joins_to_sql.specs.JoinTables.{join_made}
use Rattle.vtl_to_sql.specs.Tables.{made_of_form, operands_of}
use Rattle.joins_to_sql.proofs.JoinTables.{GivesRest, rest_given}
use Rattle.vtl_to_sql.proofs.Walked.{tree_of_join}

-- of a form of the program
pub join_of_form : (p : Settings) (r : Text) (s : Structure) (f : NodeForm) (os : Vec JoinOperand Global) (all : List JoinOperand) (spec : JoinSpec) (n : ℕ) → f ≡ form.Join os spec → all ≡ os.items
    → made_of_form p r s (nodes.join (nodes.operands_of (map operand_tree all)) spec) n ≡ made_of_form p r s (form_tree f) n
join_of_form p r s f os all spec n is same =
    ap (λ (l : List JoinOperand). made_of_form p r s (nodes.join (nodes.operands_of (map operand_tree l)) spec) n) same ∙ sym (ap (λ (g : FormTree). made_of_form p r s g n) (tree_of_join f os spec is))

abbrev trees_of : List JoinOperand → OperandTrees
trees_of os = nodes.operands_of (map operand_tree os)

-- the join of structures and tables as the program has them
pub join_gives : (p : Settings) (r : Text) (s : Structure) (os : List JoinOperand) (spec : JoinSpec) (n m : ℕ) (bs : List Structure) (xs : List Text) (old done : List StatementTree)
    → bs ≡ structures_of (operands_in (trees_of os)) → xs ≡ (operands_of p r (trees_of os) n).names → done ≡ old ++ map create_for (operands_of p r (trees_of os) n).tables → m ≡ (operands_of p r (trees_of os) n).next
    → GivesRest (made_of_form p r s (nodes.join (trees_of os) spec) n) old done (join_made p r spec.kind bs s (by_names xs m))
join_gives p r s os spec n m bs xs old done structures names made next =
    let given = operands_of p r (trees_of os) n in
    let ss = structures_of (operands_in (trees_of os)) in
    subst (λ (l : List Structure). GivesRest (join_made p r spec.kind ss s given) old done (join_made p r spec.kind l s (by_names xs m))) (sym structures) (rest_given p r spec.kind ss s given xs m old done names next made)
