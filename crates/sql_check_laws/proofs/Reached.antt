-- What is known of each statement of a script that is checked.
use Rattle.std.proofs.Common.{◌≡◌, List, ◌∷◌, ◌++◌, map}
use Rattle.sql_tree.specs.Formed.{FormedScript}
use Rattle.sql_tree.specs.Trees as tree
use Rattle.sql_tree.specs.Trees.{QueryTree, StatementTree, Text}
use Rattle.sql_tree.specs.View.{script_tree, statement_tree}
use Rattle.sql_tree.specs.declared.statements.SqlExport.{SqlExport}
use Rattle.sql_tree.specs.declared.statements.SqlInput.{SqlInput}
use Rattle.sql_tree.specs.declared.statements.SqlScript.{SqlScript}
use Rattle.sql_check_parts.specs.Queries.{query_columns}
use Rattle.sql_check_parts.specs.Statements.{IsTypedScript, given_by, script_settings}
use Rattle.sql_check_laws.specs.Selects.{AreColumns, IsQueryWhole}
use Rattle.sql_check_laws.specs.Statements.{IsDeclared, IsExportTyped}
use Rattle.sql_check_laws.proofs.GivenColumns.{columns_are, inputs_declared}
use Rattle.sql_check_laws.proofs.TypedStatements.{reached}

pub input_reached : (script : SqlScript) (before behind : List StatementTree) (s : SqlInput) → FormedScript (script_tree script) → IsTypedScript (script_tree script) → map statement_tree script.statements ≡ before ++ tree.input s ∷ behind → IsDeclared s
input_reached script before rest s f t e =
    let there = reached script before rest (tree.input s) f t e in
    inputs_declared (given_by before).tables s there.0 there.1

pub create_reached : (script : SqlScript) (before behind : List StatementTree) (name : Text) (q : QueryTree) → FormedScript (script_tree script) → IsTypedScript (script_tree script) → map statement_tree script.statements ≡ before ++ tree.create name q ∷ behind
    → IsQueryWhole (script_settings (script_tree script)) (given_by before).tables q × AreColumns (query_columns (given_by before).tables q)
create_reached script before rest name q f t e =
    let there = reached script before rest (tree.create name q) f t e in
    (there.1.1, columns_are (script_settings (script_tree script)) (given_by before).tables q there.0.1 there.1.1)

pub export_reached : (script : SqlScript) (before behind : List StatementTree) (s : SqlExport) → FormedScript (script_tree script) → IsTypedScript (script_tree script) → map statement_tree script.statements ≡ before ++ tree.export s ∷ behind → IsExportTyped (given_by before) s
export_reached script before rest s f t e = (reached script before rest (tree.export s) f t e).1
